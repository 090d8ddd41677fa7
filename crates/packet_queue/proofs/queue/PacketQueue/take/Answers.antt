use Rattle.std.proofs.Common.{◌<◌, length, ap, ◌∙◌, arith, set, false}
use Rattle.std.proofs.lemmas.List.{get_or_read}
use Rattle.std.proofs.Math.Seq.{take-set-lt}
use Rattle.packet_queue.proofs.Threads.{take_keeps, head_along, in_take}
use Rattle.packet_queue.proofs.queue.PacketQueue.take.Goals as goal

pub skip-requires-clause-there : goal.skip-requires-clause-there
skip-requires-clause-there c s =
    let i = c.self.inside in
    let r = get_or_read i.first.items _ _ (omega arith) c.index-head.ensures 0 in
    let o = (c.self.invariant.0.heads c.index-circuit.result.now (omega arith)).there (omega arith) in
    rw (c.deref-3.ensures.value, r) (o.0, o.1)

pub invariant_of-self : goal.invariant_of-self
invariant_of-self c =
    let i = c.self.inside in
    let k_in : c.args.k < i.count = in_take i.count c.args.k i.circuits.items (rw (ap (λ q. length q.circuits) c.self.view_is) c.requires) in
    let r = get_or_read i.circuits.items _ _ (omega arith) c.index-circuit.ensures 0 in (
      rw r
          (take_keeps i.count c.args.k c.skip.result i.circuits.items i.underway.items i.after.items i.first.items i.last.items k_in c.self.invariant.0
          (head_along _ _ _ _ _ _ _ _ c.deref-3.ensures.value c.deref-2.ensures.value r c.skip.ensures)),
      rw c.deref-4.ensures.value at c.lowest-self-inside.ensures,
    )

pub returns-clause-underway : goal.returns-clause-underway
returns-clause-underway c =
    let i = c.self.inside in
    let k_in : c.args.k < i.count = in_take i.count c.args.k i.circuits.items (rw (ap (λ q. length q.circuits) c.self.view_is) c.requires) in
    take-set-lt i.count i.underway.items c.args.k false k_in ∙ ap (λ q. set q.underway c.args.k false) c.self.view_is
