-- In a history that grows by new versions on parents that stand before them, ancestors are ordered.
use Rattle.std.proofs.Common.{◌≡◌, Bool, true, false, cond, ◌&&◌, ◌||◌, List, [], ◌∷◌, refl, sym, ◌∙◌, ap, subst, ◌⊎◌, inl, inr, ⊎_elim}
use Rattle.std.specs.List.{list_any}
use Rattle.role_steps.proofs.of_plain_facts.Tests.{both_true, false_unless, or_either}
use Rattle.locus_ids.specs.declared.ids.FileId.{FileId}
use Rattle.locus_ids.specs.declared.ids.Stamp.{Stamp}
use Rattle.commit_graph.specs.declared.history.Version.{Version}
use Rattle.commit_graph.specs.Versions.{same_file, same_stamp, is_version, is_in, is_ancestor}
use Rattle.commit_graph.proofs.Names.{same_stamp_refl, same_stamp_eq, same_stamp_sym}
use Rattle.conflict_flags.specs.Written.{is_format}
use Rattle.conflict_flags.proofs.Ancestors.{Each, true_or_false, or_true, false_not_true}
use Rattle.site_laws.specs.Kept.Keeping.{AreOrdered}

-- ---- how a history grows ----

-- a format's version, which follows none
pub record IsFirst (v : Version) : Type 0 where
  pub format : is_format v.stamp ≡ true
  pub alone : v.parents ≡ []

-- its stamp is new, and each parent stands before it, or is the format's
pub record IsNext (file : FileId) (v : Version) (older : List Version) : Type 0 where
  pub fresh : is_in older file v.stamp ≡ false
  pub made : is_format v.stamp ≡ false
  pub stand : Each (λ p. (is_in older file p ≡ true) ⊎ (is_format p ≡ true)) v.parents

-- each version of the file is one of these
abbrev pub Grows : FileId → List Version → Type 0
Grows file [] = Unit {0}
Grows file (v ∷ older) = (same_file v.file file ≡ true → IsFirst v ⊎ IsNext file v older) × Grows file older

-- ---- the newest version, and the others ----

-- at the version b: the same, or under a parent
at_version : (file : FileId) (v : Version) (older : List Version) (a b : Stamp) → is_version file b v ≡ true → is_ancestor (v ∷ older) file a b ≡ true → (same_stamp a b ≡ true) ⊎ (list_any (is_ancestor older file a) v.parents ≡ true)
at_version file v older a b e h = or_either (same_stamp a b) (list_any (is_ancestor older file a) v.parents) (subst (λ (x : Bool). cond x (same_stamp a b || list_any (is_ancestor older file a) v.parents) (is_ancestor older file a b) ≡ true) e h)

pub by_parent : (file : FileId) (v : Version) (older : List Version) (a b : Stamp) → is_version file b v ≡ true → list_any (is_ancestor older file a) v.parents ≡ true → is_ancestor (v ∷ older) file a b ≡ true
by_parent file v older a b e h = subst (λ (x : Bool). cond x (same_stamp a b || list_any (is_ancestor older file a) v.parents) (is_ancestor older file a b) ≡ true) (sym e) (subst (λ (x : Bool). (same_stamp a b || x) ≡ true) (sym h) (or_true (same_stamp a b)))

pub below : (file : FileId) (v : Version) (older : List Version) (a b : Stamp) → is_version file b v ≡ false → is_ancestor (v ∷ older) file a b ≡ is_ancestor older file a b
below file v older a b e = ap (λ (x : Bool). cond x (same_stamp a b || list_any (is_ancestor older file a) v.parents) (is_ancestor older file a b)) e

-- the newest is b, so it isn't another
not_other : (file : FileId) (v : Version) (b c : Stamp) → is_version file c v ≡ true → same_stamp b c ≡ false → is_version file b v ≡ false
not_other file v b c e ne = false_unless (is_version file b v) (λ f.
    (let s : v.stamp ≡ c = same_stamp_eq v.stamp c (both_true (same_file v.file file) (same_stamp v.stamp c) e).1 in
    let t : v.stamp ≡ b = same_stamp_eq v.stamp b (both_true (same_file v.file file) (same_stamp v.stamp b) f).1 in
    false_not_true ne (subst (λ (x : Stamp). same_stamp b x ≡ true) (sym t ∙ s) (same_stamp_refl b))))

pub version_is : (file : FileId) (v : Version) (b : Stamp) → is_version file b v ≡ true → (same_file v.file file ≡ true) × (v.stamp ≡ b)
version_is file v b e = let k : _ × _ = both_true (same_file v.file file) (same_stamp v.stamp b) e in (k.0, same_stamp_eq v.stamp b k.1)

no_parents : (f : Stamp → Bool) (ps : List Stamp) → ps ≡ [] → list_any f ps ≡ true → ⊥
no_parents f ps e h = false_not_true (ap (list_any f) e) h

-- ---- an ancestor stands in the history, or is the format's ----

abbrev Stands : List Version → FileId → Stamp → Stamp → Type 0
Stands h file a b = (same_stamp a b ≡ true) ⊎ ((is_in h file a ≡ true) ⊎ (is_format a ≡ true))

pub later_in : (file : FileId) (v : Version) (older : List Version) (a : Stamp) → is_in older file a ≡ true → is_in (v ∷ older) file a ≡ true
later_in file v older a h = subst (λ (x : Bool). (is_version file a v || x) ≡ true) (sym h) (or_true (is_version file a v))

later_stands : (file : FileId) (v : Version) (older : List Version) (a b : Stamp) → Stands older file a b → Stands (v ∷ older) file a b
later_stands file v older a b (inl h) = inl h
later_stands file v older a b (inr (inl h)) = inr (inl (later_in file v older a h))
later_stands file v older a b (inr (inr h)) = inr (inr h)

-- what stands at a parent that stands
parent_stands : (file : FileId) (v : Version) (older : List Version) (a b p : Stamp) → (is_in older file p ≡ true) ⊎ (is_format p ≡ true) → Stands older file a p → Stands (v ∷ older) file a b
parent_stands file v older a b p (inl h) (inl s) = inr (inl (later_in file v older a (subst (λ (x : Stamp). is_in older file x ≡ true) (sym (same_stamp_eq a p s)) h)))
parent_stands file v older a b p (inr h) (inl s) = inr (inr (subst (λ (x : Stamp). is_format x ≡ true) (sym (same_stamp_eq a p s)) h))
parent_stands file v older a b p k (inr (inl s)) = inr (inl (later_in file v older a s))
parent_stands file v older a b p k (inr (inr s)) = inr (inr s)

some_parent : (file : FileId) (v : Version) (older : List Version) (a b : Stamp) → ((p : Stamp) → is_ancestor older file a p ≡ true → Stands older file a p) → (ps : List Stamp) → Each (λ p. (is_in older file p ≡ true) ⊎ (is_format p ≡ true)) ps → list_any (is_ancestor older file a) ps ≡ true → Stands (v ∷ older) file a b
some_parent file v older a b each [] k h = absurd (cc)
some_parent file v older a b each (p ∷ ps) k h =
    ⊎_elim
    (λ (e : is_ancestor older file a p ≡ true). parent_stands file v older a b p k.0 (each p e))
    (λ (e : list_any (is_ancestor older file a) ps ≡ true). some_parent file v older a b each ps k.1 e)
    (or_either (is_ancestor older file a p) (list_any (is_ancestor older file a) ps) h)

stands_newest : (file : FileId) (v : Version) (older : List Version) (a b : Stamp) → ((p : Stamp) → is_ancestor older file a p ≡ true → Stands older file a p) → (same_file v.file file ≡ true → IsFirst v ⊎ IsNext file v older) → is_ancestor (v ∷ older) file a b ≡ true → Stands (v ∷ older) file a b
stands_newest file v older a b each grown e = by_test (true_or_false (is_version file b v))
  where
    by_kind : IsFirst v ⊎ IsNext file v older → list_any (is_ancestor older file a) v.parents ≡ true → Stands (v ∷ older) file a b
    by_kind (inl k) h = absurd (no_parents (is_ancestor older file a) v.parents k.alone h)
    by_kind (inr k) h = some_parent file v older a b each v.parents k.stand h

    by_place : is_version file b v ≡ true → (same_stamp a b ≡ true) ⊎ (list_any (is_ancestor older file a) v.parents ≡ true) → Stands (v ∷ older) file a b
    by_place t (inl s) = inl s
    by_place t (inr s) = by_kind (grown (version_is file v b t).0) s

    by_test : (is_version file b v ≡ true) ⊎ (is_version file b v ≡ false) → Stands (v ∷ older) file a b
    by_test (inl t) = by_place t (at_version file v older a b t e)
    by_test (inr t) = later_stands file v older a b (each b (sym (below file v older a b t) ∙ e))

stands : (file : FileId) (h : List Version) → Grows file h → (a b : Stamp) → is_ancestor h file a b ≡ true → Stands h file a b
stands file [] g a b e = inl e
stands file (v ∷ older) g a b e = stands_newest file v older a b (λ p. stands file older g.1 a p) g.0 e

-- the newest version is no ancestor of an older one
not_under : (file : FileId) (v : Version) (older : List Version) (b c : Stamp) → Grows file older → IsNext file v older → v.stamp ≡ b → same_stamp b c ≡ false → is_ancestor older file b c ≡ true → ⊥
not_under file v older b c g k s ne h = by_case (stands file older g b c h)
  where
    by_case : Stands older file b c → ⊥
    by_case (inl e) = false_not_true ne e
    by_case (inr (inl e)) = false_not_true (subst (λ (x : Stamp). is_in older file x ≡ false) s k.fresh) e
    by_case (inr (inr e)) = false_not_true (subst (λ (x : Stamp). is_format x ≡ false) s k.made) e

-- ---- through ----

any_weaker : {X : Type 0} (f g : X → Bool) → ((x : X) → f x ≡ true → g x ≡ true) → (xs : List X) → list_any f xs ≡ true → list_any g xs ≡ true
any_weaker f g w [] h = absurd (cc)
any_weaker f g w (x ∷ xs) h =
    ⊎_elim
    (λ (e : f x ≡ true). subst (λ (t : Bool). (t || list_any g xs) ≡ true) (sym (w x e)) refl)
    (λ (e : list_any f xs ≡ true). subst (λ (t : Bool). (g x || t) ≡ true) (sym (any_weaker f g w xs e)) (or_true (g x)))
    (or_either (f x) (list_any f xs) h)

abbrev Through : List Version → FileId → Type 0
Through h file = (a b c : Stamp) → is_ancestor h file a b ≡ true → is_ancestor h file b c ≡ true → is_ancestor h file a c ≡ true

through_newest : (file : FileId) (v : Version) (older : List Version) → Grows file (v ∷ older) → Through older file → Through (v ∷ older) file
through_newest file v older g ih a b c e f = by_same (true_or_false (same_stamp b c))
  where
    -- b is another version than the newest one
    older_b : same_stamp b c ≡ false → is_version file b v ≡ false → is_ancestor (v ∷ older) file a c ≡ true
    older_b ne t = by_c (true_or_false (is_version file c v))
      where
        a_b : is_ancestor older file a b ≡ true
        a_b = sym (below file v older a b t) ∙ e

        by_c : (is_version file c v ≡ true) ⊎ (is_version file c v ≡ false) → is_ancestor (v ∷ older) file a c ≡ true
        by_c (inl s) = ⊎_elim (λ (x : same_stamp b c ≡ true). absurd (false_not_true ne x)) (λ (x : list_any (is_ancestor older file b) v.parents ≡ true). by_parent file v older a c s (any_weaker (is_ancestor older file b) (is_ancestor older file a) (λ p. ih a b p a_b) v.parents x)) (at_version file v older b c s f)
        by_c (inr s) = below file v older a c s ∙ ih a b c a_b (sym (below file v older b c s) ∙ f)

    -- b is the newest version, so c is it too, or b is the format's
    newest_b : same_stamp b c ≡ false → is_version file b v ≡ true → is_ancestor (v ∷ older) file a c ≡ true
    newest_b ne t = by_kind (g.0 (version_is file v b t).0)
      where
        b_c : is_ancestor older file b c ≡ true
        b_c = sym (below file v older b c (not_other file v c b t (sym (same_stamp_sym b c) ∙ ne))) ∙ f

        by_kind : IsFirst v ⊎ IsNext file v older → is_ancestor (v ∷ older) file a c ≡ true
        by_kind (inl k) = ⊎_elim (λ (x : same_stamp a b ≡ true). subst (λ (y : Stamp). is_ancestor (v ∷ older) file y c ≡ true) (sym (same_stamp_eq a b x)) f) (λ (x : list_any (is_ancestor older file a) v.parents ≡ true). absurd (no_parents (is_ancestor older file a) v.parents k.alone x)) (at_version file v older a b t e)
        by_kind (inr k) = absurd (not_under file v older b c g.1 k (version_is file v b t).1 ne b_c)

    by_same : (same_stamp b c ≡ true) ⊎ (same_stamp b c ≡ false) → is_ancestor (v ∷ older) file a c ≡ true
    by_same (inl s) = subst (λ (x : Stamp). is_ancestor (v ∷ older) file a x ≡ true) (same_stamp_eq b c s) e
    by_same (inr s) = ⊎_elim (λ (t : is_version file b v ≡ true). newest_b s t) (λ (t : is_version file b v ≡ false). older_b s t) (true_or_false (is_version file b v))

through : (file : FileId) (h : List Version) → Grows file h → Through h file
through file [] g a b c e f = subst (λ (x : Stamp). same_stamp a x ≡ true) (same_stamp_eq b c f) e
through file (v ∷ older) g a b c e f = through_newest file v older g (through file older g.1) a b c e f

-- ---- apart ----

-- where the newest version is b, it is no ancestor of another that is under it
one_way : (file : FileId) (v : Version) (older : List Version) (a b : Stamp) → Grows file (v ∷ older) → is_version file b v ≡ true → same_stamp a b ≡ false → is_ancestor (v ∷ older) file a b ≡ true → is_ancestor (v ∷ older) file b a ≡ true → ⊥
one_way file v older a b g t ne e f = by_kind (g.0 (version_is file v b t).0)
  where
    b_a : is_ancestor older file b a ≡ true
    b_a = sym (below file v older b a (not_other file v a b t ne)) ∙ f

    by_kind : IsFirst v ⊎ IsNext file v older → ⊥
    by_kind (inl k) = ⊎_elim (λ (x : same_stamp a b ≡ true). false_not_true ne x) (λ (x : list_any (is_ancestor older file a) v.parents ≡ true). no_parents (is_ancestor older file a) v.parents k.alone x) (at_version file v older a b t e)
    by_kind (inr k) = not_under file v older b a g.1 k (version_is file v b t).1 (sym (same_stamp_sym a b) ∙ ne) b_a

abbrev Apart : List Version → FileId → Type 0
Apart h file = (a b : Stamp) → is_ancestor h file a b ≡ true → is_ancestor h file b a ≡ true → a ≡ b

apart_newest : (file : FileId) (v : Version) (older : List Version) → Grows file (v ∷ older) → Apart older file → Apart (v ∷ older) file
apart_newest file v older g ih a b e f = by_same (true_or_false (same_stamp a b))
  where
    by_a : same_stamp a b ≡ false → is_version file b v ≡ false → (is_version file a v ≡ true) ⊎ (is_version file a v ≡ false) → a ≡ b
    by_a ne t (inl s) = absurd (one_way file v older b a g s (sym (same_stamp_sym a b) ∙ ne) f e)
    by_a ne t (inr s) = ih a b (sym (below file v older a b t) ∙ e) (sym (below file v older b a s) ∙ f)

    by_b : same_stamp a b ≡ false → (is_version file b v ≡ true) ⊎ (is_version file b v ≡ false) → a ≡ b
    by_b ne (inl t) = absurd (one_way file v older a b g t ne e f)
    by_b ne (inr t) = by_a ne t (true_or_false (is_version file a v))

    by_same : (same_stamp a b ≡ true) ⊎ (same_stamp a b ≡ false) → a ≡ b
    by_same (inl s) = same_stamp_eq a b s
    by_same (inr s) = by_b s (true_or_false (is_version file b v))

apart : (file : FileId) (h : List Version) → Grows file h → Apart h file
apart file [] g a b e f = same_stamp_eq a b e
apart file (v ∷ older) g a b e f = apart_newest file v older g (apart file older g.1) a b e f

pub ordered : (file : FileId) (h : List Version) → Grows file h → AreOrdered h file
ordered file h g = record { through = through file h g; apart = apart file h g }
