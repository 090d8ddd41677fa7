use Rattle.std.proofs.Common.{◌≡◌, ℕ, ◌==◌, Bool, true, false, not, ◌&&◌, ◌||◌, List, [], ◌∷◌, refl, sym, ap, subst, ◌∙◌}
use Rattle.std.proofs.lemmas.Bool.{false≢true}
use Rattle.std.specs.List.{list_any}
use Rattle.dir_format.specs.of_version_vector.Counters.{all_le}
use Rattle.dir_reconcile.specs.declared.kept.KeptVector.{KeptVector}
use Rattle.dir_reconcile.specs.Rescues.{all_seen, has_live, is_unseen}
use Rattle.dir_reconcile.proofs.wanting.wants_rescue.Goals as goal

-- where no version is kept, none is unseen
unkept : (kept : List KeptVector) (ino : ℕ) (seen : List ℕ) → list_any (λ v. v.ino == ino) kept ≡ false → list_any (is_unseen ino seen) kept ≡ false
unkept [] ino seen none = refl
unkept (v ∷ vs) ino seen none = cases (v.ino == ino) refl (unkept vs ino seen)
  where
    cases : (b : Bool) → (v.ino == ino) ≡ b → (list_any (λ w. w.ino == ino) vs ≡ false → list_any (is_unseen ino seen) vs ≡ false) → list_any (is_unseen ino seen) (v ∷ vs) ≡ false
    cases true e rest = absurd (false≢true (sym (subst (λ (b : Bool). (b || list_any (λ w. w.ino == ino) vs) ≡ false) e none)))
    cases false e rest = subst (λ (b : Bool). ((b && not (all_le v.vector seen)) || list_any (is_unseen ino seen) vs) ≡ false) (sym e) (rest (subst (λ (b : Bool). (b || list_any (λ w. w.ino == ino) vs) ≡ false) e none))

and_false : (b : Bool) → (b && false) ≡ false
and_false true = refl
and_false false = refl

pub returns-then-not-is_kept : goal.returns-then-not-is_kept
returns-then-not-is_kept c =
    let ino = c.args.ino in
    let entries = c.args.entries.now in
    let seen = all_seen ino entries in
    let none = unkept c.args.kept.now ino seen (sym c.is_kept.ensures ∙ c.if-not-is_kept.true) in
    sym (ap (λ (b : Bool). not (has_live ino entries) && b) none ∙ and_false (not (has_live ino entries)))
