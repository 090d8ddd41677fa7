use Rattle.std.proofs.Common.{◌≡◌, ℕ, List, Bool, Some, ap, sym, subst, ◌∙◌}
use Rattle.dir_format.specs.Grammar.{dir_bytes}
use Rattle.dir_reconcile.specs.declared.kept.KeptVector.{KeptVector}
use Rattle.dir_reconcile.specs.Rescues.{rescued}
use Rattle.role_steps.specs.of_file_effects.Effects.{Effect}
use Rattle.role_steps.specs.OperationEffects.{Mending, has_several, joined_contents}
use Rattle.operation_effects.proofs.Mended.{mended_with}
use Rattle.operation_effects.proofs.mends.mend.Goals as goal

pub returns-clause-value : goal.returns-clause-value
returns-clause-value c =
    let contents : c.work.inside.contents ≡ c.args.work.now.contents = ap (λ (m : Mending). m.contents) c.work.view_is in
    let kept : c.work.inside.kept ≡ c.args.work.now.kept = ap (λ (m : Mending). m.kept) c.work.view_is in
    let several : c.has_several-several.result ≡ has_several c.args.work.now.contents = c.has_several-several.ensures ∙ ap (has_several {A = List ℕ}) (c.as_slice-2.ensures ∙ contents) in
    let joined : c.in_ok-joined.joined ≡ joined_contents c.args.work.now.contents = c.in_ok-joined.ensures.value ∙ ap joined_contents (c.as_slice.ensures ∙ contents) in
    let bytes : c.in_ok-bytes.bytes ≡ dir_bytes (rescued c.in_ok-joined.joined c.args.work.now.kept) =
    c.in_ok-bytes.ensures ∙ ap (λ (vs : List KeptVector). dir_bytes (rescued c.in_ok-joined.joined vs)) kept in
    ap (λ (e : Effect). Some e) c.put_join.ensures.value
    ∙ mended_with c.args.content.now c.in_ok-joined.joined c.args.work.now c.has_several-several.result c.in_ok-bytes.bytes several joined bytes
