use Rattle.std.proofs.Common.{reverse, filter, not, sym, ap, ◌∙◌, arith}
use Rattle.the_run.specs.Worlds.{is_between}
use Rattle.circuits.proofs.Cuts.{filter_reversed, mend_is}
use Rattle.circuits.proofs.cut.CutCircuits.mend.Goals as goal

pub invariant_of-self : goal.invariant_of-self
invariant_of-self c = mend_is c.args.a c.args.b c.self.inside.table _ c.self.inside.cuts.items _ (omega arith) (omega arith) (omega arith) (omega arith) c.mark.ensures c.take_out.ensures c.self.invariant

pub returns : goal.returns
returns c = ap reverse c.take_out.ensures ∙ (sym (filter_reversed (λ x. not (is_between c.args.a c.args.b x)) c.self.inside.cuts.items) ∙ ap (filter (λ x. not (is_between c.args.a c.args.b x))) c.self.view_is)
