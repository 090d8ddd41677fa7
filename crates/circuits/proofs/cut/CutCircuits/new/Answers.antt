use Rattle.std.proofs.Common.{reverse, sym, ap, subst}
use Rattle.circuits.specs.Circuits.{TellsCuts}
use Rattle.circuits.proofs.Cuts.{none_cut}
use Rattle.circuits.proofs.cut.CutCircuits.new.Goals as goal

pub invariant_of-result : goal.invariant_of-result
invariant_of-result c = subst (λ cuts. TellsCuts c.no_marks.result cuts) (sym (ap reverse c.new.ensures.items)) (none_cut c.no_marks.result c.no_marks.ensures)
