use Rattle.std.proofs.Common.{◌≡◌, List, subst, sym, true}
use Rattle.dir_reconcile.specs.declared.kept.KeptVector.{KeptVector}
use Rattle.site_mends.specs.Scanning.{are_past}
use Rattle.site_mends.proofs.Wanted.{past_none}
use Rattle.site_mends.proofs.rescues.wants_rescue_among.Goals as goal

pub returns-then-are_surely_past : goal.returns-then-are_surely_past
returns-then-are_surely_past c =
    let past = subst (λ (ks : List KeptVector). are_past ks c.args.rest.now ≡ true) c.as_slice.ensures (c.are_surely_past.ensures c.if-are_surely_past.true) in
    sym (past_none c.args.kept.now c.args.content.now (c.requires.rest past))
