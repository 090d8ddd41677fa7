-- As many notices are under way to a member as there are files of which it could adopt a version, or more: also where packets are sent to
-- it, and where it adopts a version.
use Rattle.std.proofs.Common.{List, arith, inl, inr, length, length-append, subst, suc, ℕ, ◌++◌, ◌+◌, ◌≡◌, ◌≤◌, ◌⊎◌}
use Rattle.calm_laws.proofs.Convergence.Lists.{Without, taken_out}
use Rattle.calm_laws.specs.Convergence.Offers.{HasEnough, MayAdopt, named}
use Rattle.row_laws.proofs.Orderly.Formed.{among_left, among_right}
use Rattle.role_steps.specs.Views.{SiteView}
use Rattle.role_steps.specs.declared.rounds.InEpoch.{InEpoch}
use Rattle.the_run.specs.Kept.{Among}
use Rattle.the_run.specs.Worlds.{Numbered}

-- whatever could be adopted now could be before, or a notice more names it
pub enough_stays : (e : InEpoch) (under after : List Numbered) (s : ℕ) (v u : SiteView) (more : List ℕ) → ((k : ℕ) → MayAdopt e after s u k → MayAdopt e under s v k ⊎ Among k more) →
    length (named e s under) + length more ≤ length (named e s after) → HasEnough e under s v → HasEnough e after s u
enough_stays e under after s v u more before notices h = record {
  keys = more ++ h.keys;
  each = λ k a. over k (before k a);
  notices = (let sum : length (more ++ h.keys) ≡ length more + length h.keys = length-append more h.keys in let few : length h.keys ≤ length (named e s under) = h.notices in omega (arith, sum, few, notices));
}
  where
    over : (k : ℕ) → MayAdopt e under s v k ⊎ Among k more → Among k (more ++ h.keys)
    over k (inl a) = among_right k more h.keys (h.each k a)
    over k (inr a) = among_left k more h.keys a

-- one of them, or of what has become whole, was adopted, and one notice may have come
pub enough_adopts : (e : InEpoch) (under after : List Numbered) (s : ℕ) (v u : SiteView) (gone : ℕ) (joins more : List ℕ) → MayAdopt e under s v gone ⊎ Among gone joins → (MayAdopt e after s u gone → ⊥) →
    ((k : ℕ) → MayAdopt e after s u k → MayAdopt e under s v k ⊎ (Among k joins ⊎ Among k more)) → length joins + (length (named e s under) + length more) ≤ suc (length (named e s after)) → HasEnough e under s v → HasEnough e after s u
enough_adopts e under after s v u gone joins more was over before notices h = record {
  keys = more ++ w.rest;
  each = λ k a. now k a (before k a);
  notices = (let sum : length (more ++ w.rest) ≡ length more + length w.rest = length-append more w.rest in
      let both : length (joins ++ h.keys) ≡ length joins + length h.keys = length-append joins h.keys in
      let few : length h.keys ≤ length (named e s under) = h.notices in
      let less : length (joins ++ h.keys) ≡ suc (length w.rest) = w.one_less in
      omega (arith, sum, both, few, less, notices));
}
  where
    there : MayAdopt e under s v gone ⊎ Among gone joins → Among gone (joins ++ h.keys)
    there (inl a) = among_right gone joins h.keys (h.each gone a)
    there (inr a) = among_left gone joins h.keys a

    w : Without gone (joins ++ h.keys)
    w = taken_out gone (joins ++ h.keys) (there was)

    now : (k : ℕ) → MayAdopt e after s u k → MayAdopt e under s v k ⊎ (Among k joins ⊎ Among k more) → Among k (more ++ w.rest)
    now k i (inr (inr a)) = among_left k more w.rest a
    now k i (inr (inl a)) = other (w.others k (among_left k joins h.keys a))
      where
        other : (k ≡ gone) ⊎ Among k w.rest → Among k (more ++ w.rest)
        other (inr z) = among_right k more w.rest z
        other (inl eq) = absurd (over (subst (λ (x : ℕ). MayAdopt e after s u x) eq i))
    now k i (inl a) = other (w.others k (among_right k joins h.keys (h.each k a)))
      where
        other : (k ≡ gone) ⊎ Among k w.rest → Among k (more ++ w.rest)
        other (inr z) = among_right k more w.rest z
        other (inl eq) = absurd (over (subst (λ (x : ℕ). MayAdopt e after s u x) eq i))
