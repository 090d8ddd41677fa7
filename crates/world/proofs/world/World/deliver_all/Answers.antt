use Rattle.std.proofs.Common.{◌≡◌, ◌-◌, Some, None, sym, ap, subst, refl, ◌∙◌, arith}
use Rattle.std.specs.Option.{is_some}
use Rattle.trace_book.specs.declared.record.Record.TheVariants as says
use Rattle.role_steps.specs.Views.{Receives}
use Rattle.the_run.specs.Worlds.{Numbered, says_only}
use Rattle.the_run.specs.Runs.{packet_at, delivers}
use Rattle.world.specs.States.{state_of}
use Rattle.world.specs.Shown.{Follows}
use Rattle.world.proofs.Rounds.{Arrives, rests_first, deliver_more, deliver_none, deliver_end}
use Rattle.complete_laws.specs.Lines.{CanHappen}
use Rattle.world.specs.Faults.{WantsMemory, WantsMemoryWithin}
use Rattle.complete_laws.specs.MomentEvents.{WhereDelivered}
use Rattle.world.specs.declared.fault.WorldFault.TheVariants.{NoMemory}
use Rattle.world.proofs.Wanting.{deliver_needs, deliver_wants, given_on, needs_first}
use Rattle.world.proofs.world.World.deliver_all.Goals as goal

pub loop-number-init : goal.loop-number-init
loop-number-init c = (rests_first (λ k w. delivers k c.args.line c.args.budget w) (state_of c.args.self.now), needs_first (λ k w. WhereDelivered (CanHappen k) k c.args.line c.args.budget w) (state_of c.args.self.now))

pub loop-number-preserved : goal.loop-number-preserved
loop-number-preserved c =
    let number = c.in-Delivers.number in
    let there : c.next.result ≡ Some number = c.round_turn.ensures.next number c.in-Delivers.is in
    let within = c.round_turn.ensures.within number c.in-Delivers.is in
    let step = subst (λ s. Arrives c.args.line number (state_of s) (state_of c.arrive.new.self)) c.next.ensures.kept c.in_ok-arrive-in-Delivers.ensures.step in (
      deliver_more c.args.line c.args.budget c.loop-number.left (c.loop-number.left - 1) number (state_of c.args.self.now) (state_of c.loop-number.self) _ c.next.result (omega (arith, within)) there c.next.ensures.value c.next.ensures.known step c.loop-number.invariant.0,
      deliver_needs c.args.line c.loop-number.left (c.loop-number.left - 1) number (λ k w. WhereDelivered (CanHappen k) k c.args.line c.args.budget w) (state_of c.args.self.now) (state_of c.loop-number.self) _ c.next.result (omega (arith, within)) there c.next.ensures.value c.next.ensures.known step c.loop-number.invariant.1,
    )

pub returns-in-Ends-clause-step : goal.returns-in-Ends-clause-step
returns-in-Ends-clause-step c = subst (λ s. Follows (λ k w. delivers k c.args.line c.args.budget w) (state_of c.args.self.now) (state_of s)) (sym c.next.ensures.kept)
    (deliver_none c.args.line c.args.budget c.loop-number.left (state_of c.args.self.now) (state_of c.loop-number.self) c.next.result (ap is_some (c.round_turn.ensures.over c.in-Ends.is)) c.next.ensures.value c.loop-number.invariant.0)

pub returns-in-EndsByBudget-clause-step : goal.returns-in-EndsByBudget-clause-step
returns-in-EndsByBudget-clause-step c =
    let told = subst (λ s. Follows (λ k w. says_only c.args.line says.Budget w) (state_of s) (state_of c.tell.new.self)) c.next.ensures.kept c.in_ok-tell-in-EndsByBudget.ensures in
    deliver_end c.args.line c.args.budget c.loop-number.left (state_of c.args.self.now) (state_of c.loop-number.self) _ c.next.result (c.round_turn.ensures.spent c.in-EndsByBudget.is) (c.round_turn.ensures.more c.in-EndsByBudget.is) c.next.ensures.value told c.loop-number.invariant.0

pub returns-in_err-arrive-in-Delivers-clause-fit : goal.returns-in_err-arrive-in-Delivers-clause-fit
returns-in_err-arrive-in-Delivers-clause-fit c =
    let number = c.in-Delivers.number in
    let there : c.next.result ≡ Some number = c.round_turn.ensures.next number c.in-Delivers.is in
    let within = c.round_turn.ensures.within number c.in-Delivers.is in
    let fault = c.in_err-arrive-in-Delivers.field-0.0 in
    let wants = subst (λ s. (u : Numbered) → WantsMemoryWithin (λ k w. (packet_at w number ≡ Some u) × CanHappen k u.packet.to (Receives u.packet) w) (state_of s) fault) c.next.ensures.kept c.in_err-arrive-in-Delivers.ensures.fit in
    given_on (WantsMemory (λ k w. WhereDelivered (CanHappen k) k c.args.line c.args.budget w) (state_of c.args.self.now)) c.from_residual.result fault c.from_residual.ensures
    (deliver_wants c.args.line c.loop-number.left (c.loop-number.left - 1) number (λ k w. WhereDelivered (CanHappen k) k c.args.line c.args.budget w) (state_of c.args.self.now) (state_of c.loop-number.self) c.next.result fault (omega (arith, within)) there c.next.ensures.value c.next.ensures.known wants c.loop-number.invariant.1)

pub returns-in_err-tell-in-EndsByBudget-clause-fit : goal.returns-in_err-tell-in-EndsByBudget-clause-fit
returns-in_err-tell-in-EndsByBudget-clause-fit c = given_on (WantsMemory (λ k w. WhereDelivered (CanHappen k) k c.args.line c.args.budget w) (state_of c.args.self.now)) c.from_residual-in_err-tell-in-EndsByBudget.result NoMemory c.from_residual-in_err-tell-in-EndsByBudget.ensures (λ k taken w sh need. refl)
