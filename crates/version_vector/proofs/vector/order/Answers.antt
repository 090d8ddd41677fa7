use Rattle.std.proofs.Common.{sym, ◌∙◌}
use Rattle.version_vector.proofs.Counting.{same_lists, AllLe-from_test, not_AllLe}
use Rattle.version_vector.proofs.vector.order.Goals as goal

pub returns-then-down-clause-meaning : goal.returns-then-down-clause-meaning
returns-then-down-clause-meaning c = same_lists c.args.a.now c.args.b.now c.requires (AllLe-from_test _ _ (sym c.all_le-up.ensures ∙ c.if-up.true)).each (AllLe-from_test _ _ (sym c.all_le-down.ensures ∙ c.if-down.true)).each

pub returns-else-down-clause-meaning : goal.returns-else-down-clause-meaning
returns-else-down-clause-meaning c = (AllLe-from_test _ _ (sym c.all_le-up.ensures ∙ c.if-up.true), not_AllLe _ _ (sym c.all_le-down.ensures ∙ c.if-down.false))

pub returns-then-down-2-clause-meaning : goal.returns-then-down-2-clause-meaning
returns-then-down-2-clause-meaning c = (AllLe-from_test _ _ (sym c.all_le-down.ensures ∙ c.if-down-2.true), not_AllLe _ _ (sym c.all_le-up.ensures ∙ c.if-up.false))

pub returns-else-down-2-clause-meaning : goal.returns-else-down-2-clause-meaning
returns-else-down-2-clause-meaning c = (not_AllLe _ _ (sym c.all_le-up.ensures ∙ c.if-up.false), not_AllLe _ _ (sym c.all_le-down.ensures ∙ c.if-down-2.false))
