use Rattle.std.proofs.Common.{◌≡◌, ◌≤◌, ◌<◌, false, length, get_or, subst, sym, ap, ◌∙◌, arith, Some, None}
use Rattle.std.proofs.lemmas.List.{get_or_read}
use Rattle.packet_queue.specs.Queues.{Queues, numbers_of}
use Rattle.role_steps.specs.Tables.{first_that}
use Rattle.packet_queue.proofs.Threads.{next_some, next_none, least_next, none_left}
use Rattle.packet_queue.proofs.queue.PacketQueue.next.Goals as goal

pub returns-then-best : goal.returns-then-best
returns-then-best c =
    let i = c.self.inside in
    subst (λ (q : Queues). None ≡ first_that (λ k. get_or c.args.up.now (get_or q.circuits k 0) false) (numbers_of 0 q.underway)) c.self.view_is
    (sym (next_none i.count c.least_head-best.result i.circuits.items i.underway.items i.after.items i.first.items i.last.items c.args.up.now c.self.invariant.0 c.requires (rw (sym c.deref.ensures.value) c.least_head-best.ensures.below) c.if-best.true))

pub returns-else-best : goal.returns-else-best
returns-else-best c =
    let i = c.self.inside in
    let less : c.least_head-best.result < 4294967295 = (let a = c.if-best.false in omega arith) in
    subst (λ (q : Queues). Some c.least_head-best.result ≡ first_that (λ k. get_or c.args.up.now (get_or q.circuits k 0) false) (numbers_of 0 q.underway)) c.self.view_is
    (sym (next_some i.count c.least_head-best.result i.circuits.items i.underway.items i.after.items i.first.items i.last.items c.args.up.now c.self.invariant.0 c.requires (rw (sym c.deref.ensures.value) c.least_head-best.ensures.below) (rw (sym c.deref.ensures.value) (c.least_head-best.ensures.there less)) less))

pub returns-then-least-self : goal.returns-then-least-self
returns-then-least-self c =
    let i = c.self.inside in
    subst (λ (q : Queues). None ≡ first_that (λ k. get_or c.args.up.now (get_or q.circuits k 0) false) (numbers_of 0 q.underway)) c.self.view_is
    (sym (none_left i.count i.least i.circuits.items i.underway.items c.args.up.now c.self.invariant.1 c.if-least-self.true))

pub returns-then-up-index : goal.returns-then-up-index
returns-then-up-index c =
    let i = c.self.inside in
    let room : i.count ≤ length i.underway.items = (let r : length i.underway.items ≡ 262145 = c.self.invariant.0.underway_room in let m : i.count ≤ 262145 = c.self.invariant.0.count in omega arith) in
    let r = get_or_read i.circuits.items _ _ (omega arith) c.index.ensures 0 in
    let b : get_or i.circuits.items i.least 0 < 256 = c.self.invariant.0.circuits i.least c.if-least-self.false in
    subst (λ (q : Queues). Some i.least ≡ first_that (λ k. get_or c.args.up.now (get_or q.circuits k 0) false) (numbers_of 0 q.underway)) c.self.view_is
    (sym (least_next i.count i.least i.circuits.items i.underway.items c.args.up.now room c.self.invariant.1 c.if-least-self.false (ap (λ y. get_or c.args.up.now y false) (sym r) ∙ c.if-up-index.true)))
