use Rattle.std.proofs.Common.{ap, sym, ◌∙◌, ◌-◌, false, arith}
use Rattle.site_place.specs.Places.{event_of, happens_in}
use Rattle.world.specs.States.{state_of}
use Rattle.world.specs.Reached.{boots_of}
use Rattle.world.proofs.Tables.{state_read, state_none}
use Rattle.world.proofs.Asking.{happen_absent, happen_stopped, happen_follows, links_answer, noted}
use Rattle.world.proofs.Reading.{stopped_along}
use Rattle.complete_laws.specs.Lines.{CanHappen}
use Rattle.world.specs.Faults.{WantsMemory, fault_of_place}
use Rattle.world.proofs.Wanting.{can_here, given_on, happen_passed, place_memory, sent_fit}
use Rattle.world.proofs.world.World.happen.Goals as goal

pub returns-then-at-len-clause-step : goal.returns-then-at-len-clause-step
returns-then-at-len-clause-step c = happen_absent c.args.site (state_of c.args.self.now) (omega arith) (omega arith) c.args.line (event_of c.args.event) (state_none c.args.self.now.places.items c.args.site (c.from-at.result - 1) (omega arith) (omega arith))

pub returns-then-is_stopped-clause-step : goal.returns-then-is_stopped-clause-step
returns-then-is_stopped-clause-step c = happen_stopped c.args.site (state_of c.args.self.now) (omega arith) (omega arith) c.args.line (event_of c.args.event) c.index.result.now (state_read c.args.self.now.places.items c.args.site (c.from-at.result - 1) c.index.result.now (omega arith) (omega arith) c.index.ensures) (sym c.is_stopped.ensures ∙ c.if-is_stopped.true)

pub returns-clause-step : goal.returns-clause-step
returns-clause-step c =
    let x = state_of c.args.self.now in
    let p = c.index_mut.result.now in
    let at = c.from-at.result - 1 in
    let e = event_of c.args.event in
    let links = c.links_of-links.result in
    let read = state_read c.args.self.now.places.items c.args.site at p (omega arith) (omega arith) c.index_mut.ensures.value in
    let before = state_read c.args.self.now.places.items c.args.site at c.index.result.now (omega arith) (omega arith) c.index.ensures in
    happen_follows c.args.line c.args.site at x _ (omega arith) (omega arith) (omega arith) (omega arith) p read e links
    (stopped_along _ c.index.result.now p false before read (sym c.is_stopped.ensures ∙ c.if-is_stopped.false))
    (links_answer (state_of c.args.self.now) c.args.site (boots_of c.deref.result.now) c.links_of-links.result (ap boots_of c.deref.ensures.value) c.links_of-links.ensures.links)
    (noted x _ c.args.line at p c.happen.new.self (happens_in links e p) c.in_ok-out.out c.in_ok-out.ensures.gives c.in_ok-note.ensures.config c.in_ok-note.ensures.places (c.in_ok-note.ensures.cuts ∙ c.links_of-links.ensures.kept) c.in_ok-note.ensures.book)

pub returns-then-is_some-clause-step : goal.returns-then-is_some-clause-step
returns-then-is_some-clause-step c = happen_passed c.args.line c.args.site (event_of c.args.event) (state_of c.args.self.now) c.passed.result c.passed.ensures (sym c.is_some.ensures ∙ c.if-is_some.true)

pub returns-in_err-out-clause-fit : goal.returns-in_err-out-clause-fit
returns-in_err-out-clause-fit c =
    let p = c.index_mut.result.now in
    let at = c.from-at.result - 1 in
    let read = state_read c.args.self.now.places.items c.args.site at p (omega arith) (omega arith) c.index_mut.ensures.value in
    given_on (WantsMemory (λ k w. CanHappen k c.args.site (event_of c.args.event) w) (state_of c.args.self.now)) c.from_residual.result (fault_of_place c.in_err-out.field-0.0) c.from_residual.ensures
    (λ k taken w sh need. place_memory c.in_err-out.field-0.0 (c.in_err-out.ensures.fit (can_here c.args.site (state_of c.args.self.now) (omega arith) (omega arith) p read (event_of c.args.event) c.links_of-links.result (links_answer (state_of c.args.self.now) c.args.site (boots_of c.deref.result.now) c.links_of-links.result (ap boots_of c.deref.ensures.value) c.links_of-links.ensures.links) c.passed.result c.passed.ensures (sym c.is_some.ensures ∙ c.if-is_some.false) k taken w sh need)))

pub returns-in_err-note-clause-fit : goal.returns-in_err-note-clause-fit
returns-in_err-note-clause-fit c =
    let p = c.index_mut.result.now in
    let at = c.from-at.result - 1 in
    let read = state_read c.args.self.now.places.items c.args.site at p (omega arith) (omega arith) c.index_mut.ensures.value in
    given_on (WantsMemory (λ k w. CanHappen k c.args.site (event_of c.args.event) w) (state_of c.args.self.now)) c.from_residual-in_err-note.result c.in_err-note.field-0.0 c.from_residual-in_err-note.ensures
    (λ k taken w sh need. c.in_err-note.ensures.fit (sent_fit c.links_of-links.result (event_of c.args.event) p c.happen.new.self c.in_ok-out.out c.in_ok-out.ensures.gives (can_here c.args.site (state_of c.args.self.now) (omega arith) (omega arith) p read (event_of c.args.event) c.links_of-links.result (links_answer (state_of c.args.self.now) c.args.site (boots_of c.deref.result.now) c.links_of-links.result (ap boots_of c.deref.ensures.value) c.links_of-links.ensures.links) c.passed.result c.passed.ensures (sym c.is_some.ensures ∙ c.if-is_some.false) k taken w sh need)))
