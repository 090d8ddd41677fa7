use Rattle.std.proofs.Common.{◌≡◌, ◌≢◌, ◌<◌, ◌∙◌, inl, ⊎_elim, ℕ, List, [], ◌∷◌, Bool, true, ap, subst, sym, arith}
use Rattle.std.specs.Prelude.{OnErr, Result, Ok, Err}
use Rattle.std.proofs.lemmas.Bool.{cases_eq}
use Rattle.disk_model.specs.Images.{overwritten, Torn}
use Rattle.disk_model.specs.Disk.{Goes, Exactly}
use Rattle.disk_model.proofs.Moments.{leaves_start, leaves_more, from_only, on_ok}
use Rattle.gate_switch.proofs.Tearing.{torn_stays}
use Rattle.site_label.specs.Label.{label_bytes, half_at, other_half, IsAlone}
use Rattle.site_label.specs.Reading.{IsBeside}
use Rattle.site_label.specs.Raising.{IsRaising}
use Rattle.site_label.proofs.Halves.{has_boot}
use Rattle.disk_model.specs.Cut.{left_by, left_in_write}
use Rattle.disk_model.proofs.Tells.{tells_few, on_err}
use Rattle.site_label.specs.Cutting.{IsLabel, boot_left}
use Rattle.site_label.proofs.Cutting.{closing_write, closing_sync}
use Rattle.site_label.proofs.Stages.{closing, closed}
use Rattle.site_label.proofs.label.close_other.Given.{Over}
use Rattle.site_label.proofs.label.close_other.Goals as goal

place : (g : Over) (c : goal.After-close_gate g) → c.at.result ≡ half_at (other_half c.args.counted.now.half)
place g c = c.at.ensures ∙ ap half_at c.other.ensures

pub returns-clause-any_moment : goal.returns-clause-any_moment
returns-clause-any_moment g c =
    let M = g.D.Disk.moment in
    let old = c.args.disk.now in
    let seen = (M old).seen in
    let k = c.args.counted.now in
    let is = c.requires.counted in
    let at = half_at (other_half k.half) in
    let less = subst (λ (b : Bool). IsBeside c.args.site k.boot (other_half k.half) seen b) (let e : k.beside ≡ true = c.if-not-counted.false in e) is.beside in
    let P = IsRaising c.args.site k.boot seen in
    leaves_more M (Torn at 1) old old c.close_gate.new.disk P
    (leaves_start M old P (λ x left. subst P (sym (c.requires.settled x (g.met.D.Disk.only_now old x left))) (record { number = inl (has_boot c.args.site seen k is); outside = torn_stays 0 label_bytes seen })))
    (subst (λ (n : ℕ). Goes (Torn n 1) (M old) (M c.close_gate.new.disk)) (place g c) c.close_gate.ensures.crash)
    (λ x after. closing c.args.site k.boot less.0 k.half seen x is.fits less.1 is.says less.2 (from_only M (Torn at 1) old seen x c.requires.settled after))

pub returns-clause-alone : goal.returns-clause-alone
returns-clause-alone g c =
    let seen = (g.D.Disk.moment c.args.disk.now).seen in
    let k = c.args.counted.now in
    let is = c.requires.counted in
    on_ok c.close_gate.result _ (IsAlone c.args.site k.boot k.half (g.D.Disk.moment c.close_gate.new.disk).seen)
    (λ e. subst (λ (l : List ℕ). IsAlone c.args.site k.boot k.half l) (sym (e ∙ ap (λ (n : ℕ). overwritten seen n (0 ∷ [])) (place g c))) (closed c.args.site k.boot k.half seen is.fits is.says c.requires.long))
    c.close_gate.ensures.written

ok : {T E : Type 0} (r : Result T E) → OnErr r (Unit {0})
ok (Ok x) = tt
ok (Err e) = tt

pub returns-clause-cut : goal.returns-clause-cut
returns-clause-cut g c passed told =
    let M = g.D.Disk.moment in
    let old = c.args.disk.now in
    let new = c.close_gate.new.disk in
    let seen = (M old).seen in
    let k = c.args.counted.now in
    let is = c.requires.counted in
    let how = (M old).how in
    let at = half_at (other_half k.half) in
    let cut = c.close_gate.ensures.cut in
    let is_beside : k.beside ≡ true = c.if-not-counted.false in
    let less = subst (λ (b : Bool). IsBeside c.args.site k.boot (other_half k.half) seen b) is_beside is.beside in
    let few = tells_few 2 (M old).passing (M new).passing c.close_gate.result passed c.close_gate.ensures.tells told in
    let first : passed ≡ 0 → IsLabel c.args.site (boot_left true how passed k.boot) (M new).left = λ zero.
    subst (λ (n : ℕ). IsLabel c.args.site (boot_left true how n k.boot) (M new).left) (sym zero)
    (closing_write c.args.site k.boot less.0 k.half seen is.fits less.1 is.says less.2 c.requires.long how (M new).left
    (cut.write c.requires.settled (told ∙ ap Exactly zero) ∙ ap (λ (n : ℕ). left_in_write how seen n (0 ∷ [])) (place g c))) in
    let second : passed ≡ 1 → IsLabel c.args.site (boot_left true how passed k.boot) (M new).left = λ one.
    subst (λ (n : ℕ). IsLabel c.args.site (boot_left true how n k.boot) (M new).left) (sym one)
    (closing_sync c.args.site k.boot less.0 k.half seen is.fits less.1 is.says less.2 c.requires.long how (M new).left
    (cut.sync c.requires.settled (told ∙ ap Exactly one) ∙ ap (λ (n : ℕ). left_by how seen n (0 ∷ [])) (place g c))) in
    on_err c.close_gate.result (passed < 2) (Unit {0}) (IsLabel c.args.site (boot_left k.beside how passed k.boot) (M new).left)
    (λ lt _. subst (λ (b : Bool). IsLabel c.args.site (boot_left b how passed k.boot) (M new).left) (sym is_beside)
    (⊎_elim first (λ (ne : passed ≢ 0). second (omega (arith, lt, ne))) (cases_eq passed 0)))
    few (ok c.close_gate.result)
