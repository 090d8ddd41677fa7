-- Each stamp of a list is an ancestor of one of those that are kept, where ancestors are ordered.
use Rattle.std.proofs.Common.{◌≡◌, Bool, true, false, not, cond, ◌&&◌, ◌||◌, List, [], ◌∷◌, filter, refl, sym, ◌∙◌, ap, subst, ◌⊎◌, inl, inr, ⊎_elim}
use Rattle.std.specs.List.{list_any}
use Rattle.role_steps.proofs.of_plain_facts.Tests.{false_unless}
use Rattle.locus_ids.specs.declared.ids.FileId.{FileId}
use Rattle.locus_ids.specs.declared.ids.Stamp.{Stamp}
use Rattle.commit_graph.specs.declared.history.Version.{Version}
use Rattle.commit_graph.specs.Versions.{same_stamp, is_ancestor, is_proper_ancestor, is_covered, kept}
use Rattle.commit_graph.proofs.Names.{same_stamp_refl, same_stamp_eq}
use Rattle.conflict_flags.proofs.Ancestors.{true_or_false, or_true, false_not_true}
use Rattle.tree_model.specs.State.{has_stamp}
use Rattle.site_laws.specs.Kept.Keeping.{AreOrdered, IsUnderKept}

-- ---- the greatest by any order ----

abbrev Has : List Stamp → Stamp → Type 0
Has [] a = ⊥
Has (b ∷ bs) a = (a ≡ b) ⊎ Has bs a

-- it is below none of these
abbrev IsTop : (Stamp → Stamp → Bool) → List Stamp → Stamp → Type 0
IsTop below bs a = (b : Stamp) → Has bs b → below a b ≡ true → ⊥

-- one of the list is a top, and it is a, or a is below it
record HasTop (below : Stamp → Stamp → Bool) (bs : List Stamp) (a : Stamp) : Type 0 where
  top : Stamp
  there : Has bs top
  above : (a ≡ top) ⊎ (below a top ≡ true)
  greatest : IsTop below bs top

any_has : (f : Stamp → Bool) (bs : List Stamp) → list_any f bs ≡ true → (b : Stamp) × Has bs b × (f b ≡ true)
any_has f [] h = absurd (cc)
any_has f (b ∷ bs) h =
    ⊎_elim
    (λ (e : f b ≡ true). (b, inl refl, e))
    (λ (e : f b ≡ false). (let k : (x : Stamp) × Has bs x × (f x ≡ true) = any_has f bs (subst (λ (t : Bool). (t || list_any f bs) ≡ true) e h) in (k.0, inr k.1, k.2)))
    (true_or_false (f b))

has_any : (f : Stamp → Bool) (bs : List Stamp) (b : Stamp) → Has bs b → f b ≡ true → list_any f bs ≡ true
has_any f [] b h e = absurd h
has_any f (x ∷ bs) b (inl s) e = subst (λ (t : Bool). (t || list_any f bs) ≡ true) (sym (subst (λ (y : Stamp). f y ≡ true) s e)) refl
has_any f (x ∷ bs) b (inr h) e = subst (λ (t : Bool). (f x || t) ≡ true) (sym (has_any f bs b h e)) (or_true (f x))

pub record IsOrder (below : Stamp → Stamp → Bool) : Type 0 where
  pub never : (a : Stamp) → below a a ≡ false
  pub through : (a b c : Stamp) → below a b ≡ true → below b c ≡ true → below a c ≡ true

one_more : (below : Stamp → Stamp → Bool) → IsOrder below → (x : Stamp) (bs : List Stamp) → ((a : Stamp) → Has bs a → HasTop below bs a) → (a : Stamp) → Has (x ∷ bs) a → HasTop below (x ∷ bs) a
one_more below o x bs tops a h = by_place h
  where
    under : (c t : Stamp) → (a ≡ c) ⊎ (below a c ≡ true) → below c t ≡ true → below a t ≡ true
    under c t (inl e) f = subst (λ (y : Stamp). below y t ≡ true) (sym e) f
    under c t (inr e) f = o.through a c t e f

    -- the top of the others, or the first where that is above it
    with_first : HasTop below bs a → HasTop below (x ∷ bs) a
    with_first k = by_test (true_or_false (below k.top x))
      where
        x_top : below k.top x ≡ true → IsTop below (x ∷ bs) x
        x_top e b (inl s) f = false_not_true (o.never x) (subst (λ (y : Stamp). below x y ≡ true) s f)
        x_top e b (inr s) f = k.greatest b s (o.through k.top x b e f)

        still : below k.top x ≡ false → IsTop below (x ∷ bs) k.top
        still e b (inl s) f = false_not_true e (subst (λ (y : Stamp). below k.top y ≡ true) s f)
        still e b (inr s) f = k.greatest b s f

        by_test : (below k.top x ≡ true) ⊎ (below k.top x ≡ false) → HasTop below (x ∷ bs) a
        by_test (inl e) = record { top = x; there = inl refl; above = inr (under k.top x k.above e); greatest = x_top e }
        by_test (inr e) = record { top = k.top; there = inr k.there; above = k.above; greatest = still e }

    -- the first itself
    the_first : a ≡ x → HasTop below (x ∷ bs) a
    the_first s = by_test (true_or_false (list_any (below a) bs))
      where
        alone : list_any (below a) bs ≡ false → IsTop below (x ∷ bs) a
        alone e b (inl t) f = false_not_true (o.never a) (subst (λ (y : Stamp). below a y ≡ true) (t ∙ sym s) f)
        alone e b (inr t) f = false_not_true e (has_any (below a) bs b t f)

        above_one : (b : Stamp) → Has bs b → below a b ≡ true → HasTop below bs b → HasTop below (x ∷ bs) a
        above_one b t f k = with_first (record { top = k.top; there = k.there; above = inr (by_above k.above); greatest = k.greatest })
          where
            by_above : (b ≡ k.top) ⊎ (below b k.top ≡ true) → below a k.top ≡ true
            by_above (inl e) = subst (λ (y : Stamp). below a y ≡ true) e f
            by_above (inr e) = o.through a b k.top f e

        by_test : (list_any (below a) bs ≡ true) ⊎ (list_any (below a) bs ≡ false) → HasTop below (x ∷ bs) a
        by_test (inl e) = let k : (b : Stamp) × Has bs b × (below a b ≡ true) = any_has (below a) bs e in above_one k.0 k.1 k.2 (tops k.0 k.1)
        by_test (inr e) = record { top = a; there = inl s; above = inl refl; greatest = alone e }

    by_place : (a ≡ x) ⊎ Has bs a → HasTop below (x ∷ bs) a
    by_place (inl s) = the_first s
    by_place (inr s) = with_first (tops a s)

has_top : (below : Stamp → Stamp → Bool) → IsOrder below → (bs : List Stamp) (a : Stamp) → Has bs a → HasTop below bs a
has_top below o [] a h = absurd h
has_top below o (x ∷ bs) a h = one_more below o x bs (has_top below o bs) a h

-- ---- kept versions ----

proper_is : (h : List Version) (file : FileId) (a b : Stamp) → is_proper_ancestor h file a b ≡ true → (same_stamp a b ≡ false) × (is_ancestor h file a b ≡ true)
proper_is h file a b e = by_test (same_stamp a b) (is_ancestor h file a b) refl refl e
  where
    by_test : (x y : Bool) → same_stamp a b ≡ x → is_ancestor h file a b ≡ y → (not x && y) ≡ true → (same_stamp a b ≡ false) × (is_ancestor h file a b ≡ true)
    by_test true y s t k = absurd (cc)
    by_test false true s t k = (s, t)
    by_test false false s t k = absurd (cc)

is_proper : (h : List Version) (file : FileId) (a b : Stamp) → same_stamp a b ≡ false → is_ancestor h file a b ≡ true → is_proper_ancestor h file a b ≡ true
is_proper h file a b s t = subst (λ (x : Bool). (not x && is_ancestor h file a b) ≡ true) (sym s) t

pub ancestor_order : (h : List Version) (file : FileId) → AreOrdered h file → IsOrder (is_proper_ancestor h file)
ancestor_order h file o = record {
  never = λ a. false_unless (is_proper_ancestor h file a a) (λ e. false_not_true (proper_is h file a a e).0 (same_stamp_refl a));
  through = λ a b c e f. (let x : _ × _ = proper_is h file a b e in let y : _ × _ = proper_is h file b c f in
      is_proper h file a c
      (false_unless (same_stamp a c) (λ s. false_not_true y.0 (subst (λ (t : Stamp). same_stamp b t ≡ true) (o.apart b c y.1 (subst (λ (t : Stamp). is_ancestor h file t b ≡ true) (same_stamp_eq a c s) x.1)) (same_stamp_refl b))))
      (o.through a b c x.1 y.1));
}

stamp_has : (bs : List Stamp) (a : Stamp) → has_stamp bs a ≡ true → Has bs a
stamp_has bs a h = let k : (b : Stamp) × Has bs b × (same_stamp b a ≡ true) = any_has (λ t. same_stamp t a) bs h in subst (Has bs) (same_stamp_eq k.0 a k.2) k.1

one_kept : (test : Stamp → Bool) (b : Stamp) (bs : List Stamp) (a : Stamp) → (Has bs a → Has (filter test bs) a) → Has (b ∷ bs) a → test a ≡ true → Has (filter test (b ∷ bs)) a
one_kept test b bs a ih h e = by_test (true_or_false (test b)) h
  where
    by_test : (test b ≡ true) ⊎ (test b ≡ false) → (a ≡ b) ⊎ Has bs a → Has (filter test (b ∷ bs)) a
    by_test (inl t) (inl s) = subst (λ (x : Bool). Has (cond x (b ∷ filter test bs) (filter test bs)) a) (sym t) (inl s)
    by_test (inl t) (inr s) = subst (λ (x : Bool). Has (cond x (b ∷ filter test bs) (filter test bs)) a) (sym t) (inr (ih s))
    by_test (inr t) (inl s) = absurd (false_not_true t (subst (λ (y : Stamp). test y ≡ true) s e))
    by_test (inr t) (inr s) = subst (λ (x : Bool). Has (cond x (b ∷ filter test bs) (filter test bs)) a) (sym t) (ih s)

has_kept : (test : Stamp → Bool) (bs : List Stamp) (a : Stamp) → Has bs a → test a ≡ true → Has (filter test bs) a
has_kept test [] a h e = absurd h
has_kept test (b ∷ bs) a h e = one_kept test b bs a (λ s. has_kept test bs a s e) h e

-- what is under one of the list is under one that is kept
pub under_kept : (h : List Version) (file : FileId) → AreOrdered h file → (bs : List Stamp) (known a : Stamp) → has_stamp bs known ≡ true → is_ancestor h file a known ≡ true → IsUnderKept h file (kept h file bs) a
under_kept h file o bs known a is under =
    let k : HasTop (is_proper_ancestor h file) bs known = has_top (is_proper_ancestor h file) (ancestor_order h file o) bs known (stamp_has bs known is) in
    let uncovered : is_covered h file bs k.top ≡ false = false_unless (is_covered h file bs k.top) (λ e. (let x : (b : Stamp) × Has bs b × (is_proper_ancestor h file k.top b ≡ true) = any_has (is_proper_ancestor h file k.top) bs e in k.greatest x.0 x.1 x.2)) in
    record {
      version = k.top;
      is_kept = has_any (λ t. same_stamp t k.top) (kept h file bs) k.top (has_kept (λ b. not (is_covered h file bs b)) bs k.top k.there (ap not uncovered)) (same_stamp_refl k.top);
      ancestor = by_above k.above;
    }
  where
    by_above : {t : Stamp} → (known ≡ t) ⊎ (is_proper_ancestor h file known t ≡ true) → is_ancestor h file a t ≡ true
    by_above {t} (inl e) = subst (λ (x : Stamp). is_ancestor h file a x ≡ true) e under
    by_above {t} (inr e) = o.through a known t under (proper_is h file known t e).1
