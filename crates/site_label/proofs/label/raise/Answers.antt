use Rattle.std.proofs.Common.{◌≡◌, false, ◌<◌, ◌∙◌, ◌+◌, ◌≤◌, ℕ, List, [], ◌∷◌, length, ap, subst, sym}
use Rattle.std.specs.Prelude.{Some, OnErr}
use Rattle.std.proofs.lemmas.List.Elements.{All-cons, All-nil}
use Rattle.disk_model.proofs.Moments.{leaves_weaker, on_ok}
use Rattle.gate_switch.specs.Switch.{Piece, AreWithin, IsStage, switched}
use Rattle.site_label.specs.declared.half.Half.{Half}
use Rattle.site_label.specs.Label.{half_at, other_half, HasBoot}
use Rattle.site_label.specs.Raising.{body_piece, IsRaising}
use Rattle.gate_switch.specs.Cutting.{IsCut}
use Rattle.disk_model.proofs.Tells.{tells_few, on_err}
use Rattle.site_label.specs.Raising.{are_open}
use Rattle.site_label.specs.Cutting.{IsLabel, raise_left}
use Rattle.site_label.proofs.Cutting.{cut_raising, end_alone}
use Rattle.site_label.proofs.Stages.{raising, done, body_fits}
use Rattle.site_label.proofs.label.raise.Given.{Over}
use Rattle.site_label.proofs.label.raise.Goals as goal

pub switch-requires-clause-pieces : goal.switch-requires-clause-pieces
switch-requires-clause-pieces g c =
    let k = c.args.counted.now in
    let seen = (g.D.Disk.moment c.args.disk.now).seen in
    let fits = body_fits c.args.site k.boot k.half seen c.requires.alone c.requires.long c.requires.fits in
    let P : Piece → Type 0 = λ piece. piece.at + length piece.bytes ≤ length seen in
    subst (λ (h : Half). AreWithin (body_piece h c.args.site (k.boot + 1) ∷ []) (length seen)) (sym c.other-half.ensures)
    (All-cons P (body_piece (other_half k.half) c.args.site (k.boot + 1)) [] fits (All-nil P))

-- where the gates stand
gate : (g : Over) (c : goal.After-switch g) → c.at.result ≡ half_at (other_half c.args.counted.now.half)
gate g c = c.at.ensures ∙ ap half_at c.other-half.ensures

pub returns-clause-any_moment : goal.returns-clause-any_moment
returns-clause-any_moment g c =
    let k = c.args.counted.now in
    let seen = (g.D.Disk.moment c.args.disk.now).seen in
    leaves_weaker g.D.Disk.moment c.args.disk.now c.switch.new.disk
    (IsStage (body_piece c.other-half.result c.args.site (k.boot + 1) ∷ []) c.at.result (Some c.at-2.result) seen) (IsRaising c.args.site k.boot seen)
    (λ x stage. raising c.args.site k.boot k.half seen c.requires.alone c.requires.long c.requires.fits x
    (subst (λ (o : ℕ). IsStage (body_piece (other_half k.half) c.args.site (k.boot + 1) ∷ []) (half_at (other_half k.half)) (Some o) seen x) c.at-2.ensures
    (subst (λ (n : ℕ). IsStage (body_piece (other_half k.half) c.args.site (k.boot + 1) ∷ []) n (Some c.at-2.result) seen x) (gate g c)
    (subst (λ (h : Half). IsStage (body_piece h c.args.site (k.boot + 1) ∷ []) c.at.result (Some c.at-2.result) seen x) c.other-half.ensures stage))))
    c.switch.ensures.any_moment

pub returns-clause-raised : goal.returns-clause-raised
returns-clause-raised g c =
    let k = c.args.counted.now in
    let seen = (g.D.Disk.moment c.args.disk.now).seen in
    on_ok c.switch.result _ (HasBoot c.args.site (k.boot + 1) (g.D.Disk.moment c.switch.new.disk).seen)
    (λ e. subst (λ (l : List ℕ). HasBoot c.args.site (k.boot + 1) l)
    (sym (e ∙ ap (λ (h : Half). switched (body_piece h c.args.site (k.boot + 1) ∷ []) c.at.result (Some c.at-2.result) seen) c.other-half.ensures
    ∙ ap (λ (n : ℕ). switched (body_piece (other_half k.half) c.args.site (k.boot + 1) ∷ []) n (Some c.at-2.result) seen) (gate g c)
    ∙ ap (λ (o : ℕ). switched (body_piece (other_half k.half) c.args.site (k.boot + 1) ∷ []) (half_at (other_half k.half)) (Some o) seen) c.at-2.ensures))
    (done c.args.site k.boot k.half seen c.requires.alone c.requires.long c.requires.fits))
    c.switch.ensures.done

pub returns-clause-alone : goal.returns-clause-alone
returns-clause-alone g c =
    let k = c.args.counted.now in
    let seen = (g.D.Disk.moment c.args.disk.now).seen in
    on_ok c.switch.result _ (are_open (g.D.Disk.moment c.switch.new.disk).seen ≡ false)
    (λ e. ap are_open (e ∙ ap (λ (h : Half). switched (body_piece h c.args.site (k.boot + 1) ∷ []) c.at.result (Some c.at-2.result) seen) c.other-half.ensures
    ∙ ap (λ (n : ℕ). switched (body_piece (other_half k.half) c.args.site (k.boot + 1) ∷ []) n (Some c.at-2.result) seen) (gate g c)
    ∙ ap (λ (o : ℕ). switched (body_piece (other_half k.half) c.args.site (k.boot + 1) ∷ []) (half_at (other_half k.half)) (Some o) seen) c.at-2.ensures)
    ∙ end_alone c.args.site k.boot k.half seen c.requires.alone c.requires.long c.requires.fits)
    c.switch.ensures.done

pub returns-clause-cut : goal.returns-clause-cut
returns-clause-cut g c passed told =
    let M = g.D.Disk.moment in
    let old = c.args.disk.now in
    let new = c.switch.new.disk in
    let k = c.args.counted.now in
    let seen = (M old).seen in
    let how = (M old).how in
    let few = tells_few 6 (M old).passing (M new).passing c.switch.result passed c.switch.ensures.tells told in
    let cut = (subst (λ (o : ℕ). OnErr c.switch.result (IsCut (body_piece (other_half k.half) c.args.site (k.boot + 1) ∷ []) (half_at (other_half k.half)) (Some o) how passed seen (M new).left)) c.at-2.ensures
    (subst (λ (n : ℕ). OnErr c.switch.result (IsCut (body_piece (other_half k.half) c.args.site (k.boot + 1) ∷ []) n (Some c.at-2.result) how passed seen (M new).left)) (gate g c)
    (subst (λ (h : Half). OnErr c.switch.result (IsCut (body_piece h c.args.site (k.boot + 1) ∷ []) c.at.result (Some c.at-2.result) how passed seen (M new).left)) c.other-half.ensures (c.switch.ensures.cut passed told)))) in
    on_err c.switch.result (passed < 6) _ (IsLabel c.args.site (raise_left how passed k.boot) (M new).left)
    (λ lt is. cut_raising c.args.site k.boot k.half seen c.requires.alone c.requires.long c.requires.fits how passed (M new).left lt is)
    few cut
