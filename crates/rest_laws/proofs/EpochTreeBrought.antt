-- The versions of a table, as a start tells them: those of one file are those of its row.
use Rattle.std.proofs.Common.{◌≡◌, ℕ, ◌<◌, ◌==◌, Bool, true, false, ◌&&◌, cond, List, [], ◌∷◌, ◌++◌, map, filter, Option, Some, refl, ◌∙◌, ap, subst, arith}
use Rattle.std.specs.List.{flat_map}
use Rattle.role_steps.proofs.of_plain_facts.Numbers.{above_apart, equal, equal_self}
use Rattle.role_steps.proofs.of_plain_facts.Tests.{and_true}
use Rattle.locus_ids.specs.declared.ids.Brought.{Brought}
use Rattle.locus_ids.specs.declared.ids.Stamp.{Stamp}
use Rattle.role_steps.specs.Own.{Every}
use Rattle.role_steps.specs.Reports.{brought_files, brought_of}
use Rattle.role_steps.specs.Tables.{row}
use Rattle.role_steps.specs.Versions.{row_ino}
use Rattle.role_steps.specs.declared.synchronizing.FileRow.{FileRow}
use Rattle.role_steps.specs.declared.synchronizing.VersionRow.{VersionRow}
use Rattle.tree_model.specs.Same.{same_all}
use Rattle.tree_model.specs.Same.{same_brought}
use Rattle.tree_model.specs.State.{stamps_of}
use Rattle.tree_laws.specs.Tables.{AreRising, known_stamps, row_stamp}

one_same : (b : Brought) → same_brought b b ≡ true
one_same b = and_true (b.ino == b.ino) _ (equal_self b.ino) (and_true (b.stamp.site == b.stamp.site) _ (equal_self b.stamp.site) (equal_self b.stamp.n))

pub all_same : (bs : List Brought) → same_all bs bs ≡ true
all_same [] = refl
all_same (b ∷ bs) = and_true (same_brought b b) (same_all bs bs) (one_same b) (all_same bs)

no_more : (ss : List Stamp) → ss ++ [] ≡ ss
no_more [] = refl
no_more (s ∷ ss) = ap (λ (xs : List Stamp). s ∷ xs) (no_more ss)

stamp_next : (b : Brought) (bs : List Brought) (ino : ℕ) (k : Bool) → (b.ino == ino) ≡ k → stamps_of (b ∷ bs) ino ≡ cond k (b.stamp ∷ stamps_of bs ino) (stamps_of bs ino)
stamp_next b bs ino k e = subst (λ (z : Bool). stamps_of (b ∷ bs) ino ≡ cond z (b.stamp ∷ stamps_of bs ino) (stamps_of bs ino)) e (at (b.ino == ino))
  where
    at : (z : Bool) → map (λ (x : Brought). x.stamp) (cond z (b ∷ filter (λ (x : Brought). x.ino == ino) bs) (filter (λ (x : Brought). x.ino == ino) bs)) ≡ cond z (b.stamp ∷ stamps_of bs ino) (stamps_of bs ino)
    at true = refl
    at false = refl

stamps_here : (ino i : ℕ) (vs : List VersionRow) (rest : List Brought) → (i == ino) ≡ true → stamps_of (map (brought_of i) vs ++ rest) ino ≡ map row_stamp vs ++ stamps_of rest ino
stamps_here ino i [] rest e = refl
stamps_here ino i (v ∷ vs) rest e = stamp_next (brought_of i v) (map (brought_of i) vs ++ rest) ino true e ∙ ap (λ (ss : List Stamp). v.stamp ∷ ss) (stamps_here ino i vs rest e)

stamps_apart : (ino i : ℕ) (vs : List VersionRow) (rest : List Brought) → (i == ino) ≡ false → stamps_of (map (brought_of i) vs ++ rest) ino ≡ stamps_of rest ino
stamps_apart ino i [] rest e = refl
stamps_apart ino i (v ∷ vs) rest e = stamp_next (brought_of i v) (map (brought_of i) vs ++ rest) ino false e ∙ stamps_apart ino i vs rest e

none_above : (i : ℕ) (rs : List FileRow) → Every (λ (q : FileRow). i < q.ino) rs → stamps_of (flat_map brought_files rs) i ≡ []
none_above i [] h = refl
none_above i (r ∷ rs) h = stamps_apart i r.ino r.versions (flat_map brought_files rs) (above_apart i r.ino h.0) ∙ none_above i rs h.1

pub stamps_row : (rs : List FileRow) → AreRising rs → (ino : ℕ) → stamps_of (flat_map brought_files rs) ino ≡ known_stamps (row row_ino ino rs)
stamps_row [] k ino = refl
stamps_row (r ∷ rs) k ino = at (r.ino == ino) refl (stamps_row rs k.1 ino)
  where
    at : (b : Bool) → (r.ino == ino) ≡ b → stamps_of (flat_map brought_files rs) ino ≡ known_stamps (row row_ino ino rs) → stamps_of (flat_map brought_files (r ∷ rs)) ino ≡ known_stamps (elim b as (λ (z : Bool). Option FileRow) [ true ↦ Some r | false ↦ row row_ino ino rs ])
    at true e later = stamps_here ino r.ino r.versions (flat_map brought_files rs) e
        ∙ (ap (λ (ss : List Stamp). map row_stamp r.versions ++ ss) (subst (λ (i : ℕ). stamps_of (flat_map brought_files rs) i ≡ []) (equal r.ino ino e) (none_above r.ino rs k.0)) ∙ no_more (map row_stamp r.versions))
    at false e later = stamps_apart ino r.ino r.versions (flat_map brought_files rs) e ∙ later
