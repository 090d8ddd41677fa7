use Rattle.std.proofs.Common.{◌≡◌, ◌∙◌, List, IfSome, ap, subst, sym}
use Rattle.dir_format.specs.Contents.{entries_of}
use Rattle.dir_reconcile.specs.Rescues.{rescue_wanted}
use Rattle.dir_reconcile.specs.declared.kept.KeptVector.{KeptVector}
use Rattle.site_frame.specs.of_role_steps.Mends.{kept_vectors}
use Rattle.site_mends.proofs.Wanted.{nothing_past, past_none, wanted_in}
use Rattle.site_mends.proofs.rescues.wants_rescue_in.Goals as goal

pub returns-then-is_empty-clause-wants : goal.returns-then-is_empty-clause-wants
returns-then-is_empty-clause-wants c =
    let t = c.args.table.now in
    let content = c.args.content.now in
    sym (past_none (kept_vectors t) content (c.behind_all_live-rest.ensures (kept_vectors t) (nothing_past (kept_vectors t) c.behind_all_live-rest.result.now c.is_empty.result c.is_empty.ensures c.if-is_empty.true))) ∙ wanted_in t content

pub wants_rescue_among-requires-clause-rest : goal.wants_rescue_among-requires-clause-rest
wants_rescue_among-requires-clause-rest c = c.behind_all_live-rest.ensures c.in-Some.kept

pub returns-in_ok-wants_rescue_among-in-Some-clause-wants : goal.returns-in_ok-wants_rescue_among-in-Some-clause-wants
returns-in_ok-wants_rescue_among-in-Some-clause-wants c =
    let kept : c.in-Some.kept ≡ kept_vectors c.args.table.now = subst (λ o. IfSome o (λ (vectors : List KeptVector). vectors ≡ kept_vectors c.args.table.now)) c.in-Some.is c.in_ok-kept.ensures.vectors in
    c.in_ok-wants_rescue_among-in-Some.ensures ∙ (ap (λ ks. rescue_wanted (entries_of c.args.content.now) ks) kept ∙ wanted_in c.args.table.now c.args.content.now)
