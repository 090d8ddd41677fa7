use Rattle.std.proofs.Common.{Err, ap, refl, sym, ◌∙◌, ◌-◌, true, arith}
use Rattle.site_place.specs.Places.{boots_in}
use Rattle.world.specs.States.{state_of}
use Rattle.world.proofs.Tables.{state_read, state_none}
use Rattle.world.proofs.Asking.{boot_absent, boot_running, start_follows, noted, boot_sends_none}
use Rattle.world.proofs.Reading.{stopped_along}
use Rattle.site_place.specs.declared.fault.StartFault.TheVariants.{Spent}
use Rattle.world.proofs.Wanting.{boot_spent, err_given, start_unspent}
use Rattle.world.proofs.world.World.boot.Goals as goal

pub returns-then-at-len-clause-step : goal.returns-then-at-len-clause-step
returns-then-at-len-clause-step c = boot_absent c.args.site (state_of c.args.self.now) (omega arith) (omega arith) c.args.line _ (state_none c.args.self.now.places.items c.args.site (c.from-at.result - 1) (omega arith) (omega arith)) c.in_ok-void.ensures

pub returns-then-not-is_stopped-clause-step : goal.returns-then-not-is_stopped-clause-step
returns-then-not-is_stopped-clause-step c = boot_running c.args.site (state_of c.args.self.now) (omega arith) (omega arith) c.args.line _ c.index.result.now (state_read c.args.self.now.places.items c.args.site (c.from-at.result - 1) c.index.result.now (omega arith) (omega arith) c.index.ensures) (sym c.is_stopped.ensures ∙ c.if-not-is_stopped.true) c.in_ok-void-2.ensures

pub note_told-requires : goal.note_told-requires
note_told-requires c = boot_sends_none (boots_in c.index_mut.result.now) c.index_mut.result.now c.start.new.self c.in_ok-out.out refl c.in_ok-out.ensures.gives

pub returns-clause-step : goal.returns-clause-step
returns-clause-step c =
    let x = state_of c.args.self.now in
    let p = c.index_mut.result.now in
    let at = c.from-at.result - 1 in
    let read = state_read c.args.self.now.places.items c.args.site at p (omega arith) (omega arith) c.index_mut.ensures.value in
    let before = state_read c.args.self.now.places.items c.args.site at c.index.result.now (omega arith) (omega arith) c.index.ensures in
    start_follows c.args.line c.args.site at x _ (omega arith) (omega arith) (omega arith) (omega arith) p read
    (stopped_along _ c.index.result.now p true before read (sym c.is_stopped.ensures ∙ c.if-not-is_stopped.false))
    (noted x _ c.args.line at p c.start.new.self (boots_in p) c.in_ok-out.out c.in_ok-out.ensures.gives c.in_ok-note_told.ensures.config c.in_ok-note_told.ensures.places c.in_ok-note_told.ensures.cuts c.in_ok-note_told.ensures.book)

pub returns-in_err-void-clause-spent : goal.returns-in_err-void-clause-spent
returns-in_err-void-clause-spent c so k taken w over sh can = start_unspent c.from_residual.result c.from_residual.ensures.1 so

pub returns-in_err-out-clause-spent : goal.returns-in_err-out-clause-spent
returns-in_err-out-clause-spent c so k taken w over sh can =
    let p = c.index_mut.result.now in
    let read = state_read c.args.self.now.places.items c.args.site (c.from-at.result - 1) p (omega arith) (omega arith) c.index_mut.ensures.value in
    let before = state_read c.args.self.now.places.items c.args.site (c.from-at.result - 1) c.index.result.now (omega arith) (omega arith) c.index.ensures in
    boot_spent c.args.site (state_of c.args.self.now) (omega arith) (omega arith) p read (stopped_along _ c.index.result.now p true before read (sym c.is_stopped.ensures ∙ c.if-not-is_stopped.false)) (c.in_err-out.ensures.spent (ap Err (err_given c.from_residual-in_err-out.result c.in_err-out.field-0.0 Spent c.from_residual-in_err-out.ensures.1 so))) k taken w over sh can

pub returns-in_err-note_told-clause-spent : goal.returns-in_err-note_told-clause-spent
returns-in_err-note_told-clause-spent c so k taken w over sh can = start_unspent c.from_residual-in_err-note_told.result c.from_residual-in_err-note_told.ensures.1 so
