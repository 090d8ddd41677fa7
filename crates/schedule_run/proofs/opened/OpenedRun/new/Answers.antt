use Rattle.std.proofs.Common.{◌≡◌, List, refl, sym, ap, subst, ◌∙◌}
use Rattle.schedule_lines.specs.Schedule.{AreInOrder}
use Rattle.input_order_laws.proofs.Trees.{opening_in_order}
use Rattle.world.specs.declared.fault.WorldFault.TheVariants.{NoMemory}
use Rattle.world.proofs.Wanting.{given_on}
use Rattle.schedule_lines.specs.declared.line.ScheduleLine.{ScheduleLine}
use Rattle.world.specs.Shown.{nothing_taken}
use Rattle.generated_load.specs.Pieces.{header_lines}
use Rattle.schedule_run.specs.Opened.{HasDone}
use Rattle.schedule_run.proofs.Doing.{header_done}
use Rattle.schedule_run.proofs.opened.OpenedRun.new.Goals as goal

pub returns-clause-done : goal.returns-clause-done
returns-clause-done c =
    let h = header_done (nothing_taken c.args.writing) c.in_ok-config.config _ (c.in_ok-config.ensures 0) refl c.in_ok-world.ensures in
    subst (λ (ls : List ScheduleLine). HasDone ls (nothing_taken c.args.writing) c.happen_all.new.self) (sym c.in_ok-lines.ensures) (c.in_ok-happen_all.ensures.done header_lines (nothing_taken c.args.writing) h)

pub returns-in_err-happen_all-clause-complete : goal.returns-in_err-happen_all-clause-complete
returns-in_err-happen_all-clause-complete c = λ settled.
    let h = header_done (nothing_taken c.args.writing) c.in_ok-config.config _ (c.in_ok-config.ensures 0) refl c.in_ok-world.ensures in
    let o = subst AreInOrder c.in_ok-lines.ensures (opening_in_order c.args.most settled) in
    given_on (λ fault. fault ≡ NoMemory) c.from_residual-in_err-happen_all.result c.in_err-happen_all.field-0.0 c.from_residual-in_err-happen_all.ensures
    (c.in_err-happen_all.ensures.complete header_lines (nothing_taken c.args.writing) o h)

-- nothing but memory was wanting for the lines
pub returns-in_err-lines-clause-complete : goal.returns-in_err-lines-clause-complete
returns-in_err-lines-clause-complete c = λ settled. given_on (λ fault. fault ≡ NoMemory) c.from_residual-in_err-lines.result NoMemory c.from_residual-in_err-lines.ensures refl
