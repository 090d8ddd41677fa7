-- Where each version has a new stamp and parents that stand before it, ancestors are an order; and above each version of a
-- list stands one that none of the list is above.
use Rattle.std.proofs.Common.{◌≡◌, Bool, true, false, not, ◌&&◌, ◌||◌, cond, List, [], ◌∷◌, filter, refl, sym, ap, ◌∙◌, subst, ◌⊎◌, inl, inr}
use Rattle.std.specs.List.{AllByRecursion, list_any}
use Rattle.tree_laws.proofs.of_plain_facts.Tests.{and_first, or_either, or_second, true_false}
use Rattle.locus_ids.specs.declared.ids.FileId.{FileId}
use Rattle.locus_ids.specs.declared.ids.Stamp.{Stamp}
use Rattle.commit_graph.specs.declared.history.Version.{Version}
use Rattle.commit_graph.specs.Versions.{is_ancestor, is_covered, is_in, is_proper_ancestor, is_version, kept, same_file, same_stamp}
use Rattle.commit_graph.proofs.Names.{same_stamp_refl, same_stamp_eq}
use Rattle.tree_model.specs.State.{has_stamp}
use Rattle.tree_laws.proofs.Orders.Keeping.{others_stand}
use Rattle.tree_laws.proofs.Orders.Standing.{same_file_eq}
use Rattle.store_laws.specs.Holdings.Order.{AncestorsAreAnOrder, IsWellMade}

-- ---- some of a list ----

-- some passes, of which this is so too
pub record Passing {X : Type 0} (p : X → Bool) (P : X → Type 0) : Type 0 where
  pub one : X
  pub passes : p one ≡ true
  pub is_so : P one

pub some_of : {X : Type 0} (p : X → Bool) (P : X → Type 0) (xs : List X) → list_any p xs ≡ true → AllByRecursion P xs → Passing p P
some_of p P [] h all = absurd (true_false (sym h))
some_of p P (x ∷ xs) h all = over (λ k. some_of p P xs k all.1) (or_either (p x) (list_any p xs) h)
  where
    over : (list_any p xs ≡ true → Passing p P) → (p x ≡ true) ⊎ (list_any p xs ≡ true) → Passing p P
    over later (inl k) = record { one = x; passes = k; is_so = all.0 }
    over later (inr k) = later k

pub any_then : {X : Type 0} (p q : X → Bool) (P : X → Type 0) → ((x : X) → P x → p x ≡ true → q x ≡ true) → (xs : List X) → AllByRecursion P xs → list_any p xs ≡ true → list_any q xs ≡ true
any_then p q P then [] all h = absurd (true_false (sym h))
any_then p q P then (x ∷ xs) all h = over (any_then p q P then xs all.1) (or_either (p x) (list_any p xs) h)
  where
    first : (a b : Bool) → a ≡ true → a || b ≡ true
    first true b k = refl
    first false b k = absurd (true_false (sym k))

    over : (list_any p xs ≡ true → list_any q xs ≡ true) → (p x ≡ true) ⊎ (list_any p xs ≡ true) → list_any q (x ∷ xs) ≡ true
    over later (inl k) = first (q x) (list_any q xs) (then x all.0 k)
    over later (inr k) = or_second (q x) (list_any q xs) (later k)

pub any_kept : {X : Type 0} (q p : X → Bool) → ((x : X) → q x ≡ true → p x ≡ true) → (xs : List X) → list_any q xs ≡ true → list_any q (filter p xs) ≡ true
any_kept q p then [] h = absurd (true_false (sym h))
any_kept q p then (x ∷ xs) h = at (p x) refl (any_kept q p then xs) (or_either (q x) (list_any q xs) h)
  where
    first : (a b : Bool) → a ≡ true → a || b ≡ true
    first true b k = refl
    first false b k = absurd (true_false (sym k))

    at : (b : Bool) → p x ≡ b → (list_any q xs ≡ true → list_any q (filter p xs) ≡ true) → (q x ≡ true) ⊎ (list_any q xs ≡ true) → list_any q (cond b (x ∷ filter p xs) (filter p xs)) ≡ true
    at true e later (inl k) = first (q x) (list_any q (filter p xs)) k
    at true e later (inr k) = or_second (q x) (list_any q (filter p xs)) (later k)
    at false e later (inl k) = absurd (true_false (sym (then x k) ∙ e))
    at false e later (inr k) = later k

-- ---- one version more ----

-- the version of what stands before a version is another one
other : (v : Version) (older : List Version) (f : FileId) (s : Stamp) → IsWellMade (v ∷ older) → is_in older f s ≡ true → is_version f s v ≡ false
other v older f s made stands = others_stand v older f s made.0 stands

-- of the versions beside the newest one the newest tells nothing
pub ancestor_apart : (v : Version) (older : List Version) (f : FileId) (a b : Stamp) → is_version f b v ≡ false → is_ancestor (v ∷ older) f a b ≡ is_ancestor older f a b
ancestor_apart v older f a b e = rw e refl

pub ancestor_before : (v : Version) (older : List Version) (f : FileId) (a b : Stamp) → is_in older v.file v.stamp ≡ false → is_in older f b ≡ true → is_ancestor (v ∷ older) f a b ≡ is_ancestor older f a b
ancestor_before v older f a b new stands = ancestor_apart v older f a b (others_stand v older f b new stands)

pub ancestor_newest : (v : Version) (older : List Version) (f : FileId) (a b : Stamp) → is_version f b v ≡ true → is_ancestor (v ∷ older) f a b ≡ (same_stamp a b || list_any (is_ancestor older f a) v.parents)
ancestor_newest v older f a b e = rw e refl

in_apart : (v : Version) (older : List Version) (f : FileId) (b : Stamp) → is_version f b v ≡ false → is_in (v ∷ older) f b ≡ true → is_in older f b ≡ true
in_apart v older f b e h = rw e at h

parents_stand : (v : Version) (older : List Version) (f : FileId) (b : Stamp) → IsWellMade (v ∷ older) → is_version f b v ≡ true → AllByRecursion (λ (p : Stamp). is_in older f p ≡ true) v.parents
parents_stand v older f b made e = subst (λ (g : FileId). AllByRecursion (λ (p : Stamp). is_in older g p ≡ true) v.parents) (same_file_eq v.file f (and_first (same_file v.file f) _ e)) made.1

pub ancestor_own : (h : List Version) (f : FileId) (a : Stamp) → is_ancestor h f a a ≡ true
ancestor_own [] f a = same_stamp_refl a
ancestor_own (v ∷ older) f a = at (is_version f a v) (ancestor_own older f a)
  where
    first : (b : Bool) → (true || b) ≡ true
    first b = refl

    at : (b : Bool) → is_ancestor older f a a ≡ true → cond b (same_stamp a a || list_any (is_ancestor older f a) v.parents) (is_ancestor older f a a) ≡ true
    at true later = ap (λ (x : Bool). x || list_any (is_ancestor older f a) v.parents) (same_stamp_refl a)
    at false later = later

-- ---- an order ----

-- the same of an older history
abbrev LaterStands : List Version → FileId → Stamp → Type 0
LaterStands older f a = (d : Stamp) → is_in older f d ≡ true → is_ancestor older f a d ≡ true → is_in older f a ≡ true

pub ancestors_stand : (h : List Version) → IsWellMade h → (f : FileId) (a b : Stamp) → is_in h f b ≡ true → is_ancestor h f a b ≡ true → is_in h f a ≡ true
ancestors_stand [] made f a b stands k = absurd (true_false (sym stands))
ancestors_stand (v ∷ older) made f a b stands k = at (λ d. ancestors_stand older made.2 f a d) (is_version f b v) refl
  where
    from_parent : LaterStands older f a → Passing (is_ancestor older f a) (λ (p : Stamp). is_in older f p ≡ true) → is_in (v ∷ older) f a ≡ true
    from_parent later p = or_second (is_version f a v) (is_in older f a) (later p.one p.is_so p.passes)

    over : LaterStands older f a → is_version f b v ≡ true → (same_stamp a b ≡ true) ⊎ (list_any (is_ancestor older f a) v.parents ≡ true) → is_in (v ∷ older) f a ≡ true
    over later e (inl same) = subst (λ (s : Stamp). is_in (v ∷ older) f s ≡ true) (sym (same_stamp_eq a b same)) stands
    over later e (inr any) = from_parent later (some_of (is_ancestor older f a) (λ (p : Stamp). is_in older f p ≡ true) v.parents any (parents_stand v older f b made e))

    at : LaterStands older f a → (x : Bool) → is_version f b v ≡ x → is_in (v ∷ older) f a ≡ true
    at later true e = over later e (or_either (same_stamp a b) _ (sym (ancestor_newest v older f a b e) ∙ k))
    at later false e = or_second (is_version f a v) (is_in older f a) (later b (in_apart v older f b e stands) (sym (ancestor_apart v older f a b e) ∙ k))

-- the same of an older history
abbrev LaterThrough : List Version → FileId → Stamp → Stamp → Type 0
LaterThrough older f a b = (p : Stamp) → is_in older f p ≡ true → is_ancestor older f a b ≡ true → is_ancestor older f b p ≡ true → is_ancestor older f a p ≡ true

pub ancestor_through : (h : List Version) → IsWellMade h → (f : FileId) (a b d : Stamp) → is_in h f d ≡ true → is_ancestor h f a b ≡ true → is_ancestor h f b d ≡ true → is_ancestor h f a d ≡ true
ancestor_through [] made f a b d stands k l = absurd (true_false (sym stands))
ancestor_through (v ∷ older) made f a b d stands k l = at (λ p. ancestor_through older made.2 f a b p) (is_version f d v) refl
  where
    -- below what stands before the newest one
    step : LaterThrough older f a b → (p : Stamp) → is_in older f p ≡ true → is_ancestor older f b p ≡ true → is_ancestor older f a p ≡ true
    step later p there m = (let low : is_in older f b ≡ true = ancestors_stand older made.2 f b p there m in
        later p there (sym (ancestor_before v older f a b made.0 low) ∙ k) m)

    over : LaterThrough older f a b → is_version f d v ≡ true → (same_stamp b d ≡ true) ⊎ (list_any (is_ancestor older f b) v.parents ≡ true) → is_ancestor (v ∷ older) f a d ≡ true
    over later e (inl same) = subst (λ (s : Stamp). is_ancestor (v ∷ older) f a s ≡ true) (same_stamp_eq b d same) k
    over later e (inr any) = ancestor_newest v older f a d e
        ∙ or_second (same_stamp a d) (list_any (is_ancestor older f a) v.parents) (any_then (is_ancestor older f b) (is_ancestor older f a) (λ (p : Stamp). is_in older f p ≡ true) (step later) v.parents (parents_stand v older f d made e) any)

    at : LaterThrough older f a b → (x : Bool) → is_version f d v ≡ x → is_ancestor (v ∷ older) f a d ≡ true
    at later true e = over later e (or_either (same_stamp b d) _ (sym (ancestor_newest v older f b d e) ∙ l))
    at later false e = ancestor_apart v older f a d e ∙ step later d (in_apart v older f d e stands) (sym (ancestor_apart v older f b d e) ∙ l)

-- the same of an older history
abbrev LaterOne : List Version → FileId → Stamp → Stamp → Type 0
LaterOne older f a b = is_in older f b ≡ true → is_ancestor older f a b ≡ true → is_ancestor older f b a ≡ true → a ≡ b

pub ancestors_one : (h : List Version) → IsWellMade h → (f : FileId) (a b : Stamp) → is_in h f b ≡ true → is_ancestor h f a b ≡ true → is_ancestor h f b a ≡ true → a ≡ b
ancestors_one [] made f a b stands k l = absurd (true_false (sym stands))
ancestors_one (v ∷ older) made f a b stands k l = at (ancestors_one older made.2 f a b) (is_version f b v) refl
  where
    -- the later one isn't below what stands before it
    below : is_version f b v ≡ true → is_in older f a ≡ true → a ≡ b
    below e low = absurd (true_false (sym e ∙ other v older f b made (ancestors_stand older made.2 f b a low (sym (ancestor_before v older f b a made.0 low) ∙ l))))

    from_parent : is_version f b v ≡ true → Passing (is_ancestor older f a) (λ (p : Stamp). is_in older f p ≡ true) → a ≡ b
    from_parent e p = below e (ancestors_stand older made.2 f a p.one p.is_so p.passes)

    over : is_version f b v ≡ true → (same_stamp a b ≡ true) ⊎ (list_any (is_ancestor older f a) v.parents ≡ true) → a ≡ b
    over e (inl same) = same_stamp_eq a b same
    over e (inr any) = from_parent e (some_of (is_ancestor older f a) (λ (p : Stamp). is_in older f p ≡ true) v.parents any (parents_stand v older f b made e))

    before : LaterOne older f a b → is_version f b v ≡ false → is_in older f b ≡ true → is_ancestor older f a b ≡ true → a ≡ b
    before later e there m = (let low : is_in older f a ≡ true = ancestors_stand older made.2 f a b there m in
        later there m (sym (ancestor_before v older f b a made.0 low) ∙ l))

    at : LaterOne older f a b → (x : Bool) → is_version f b v ≡ x → a ≡ b
    at later true e = over e (or_either (same_stamp a b) _ (sym (ancestor_newest v older f a b e) ∙ k))
    at later false e = before later e (in_apart v older f b e stands) (sym (ancestor_apart v older f a b e) ∙ k)

pub ancestors_ordered : (h : List Version) → IsWellMade h → AncestorsAreAnOrder h
ancestors_ordered h made = record {
  stand = λ f a b s k. ancestors_stand h made f a b s k;
  through = λ f a b d s k l. ancestor_through h made f a b d s k l;
  one = λ f a b s k l. ancestors_one h made f a b s k l;
}

-- ---- what is kept of a list ----

module _ (h : List Version) (made : IsWellMade h) (f : FileId) where
  abbrev below : Stamp → Stamp → Bool
  below a b = is_proper_ancestor h f a b

  not_own : (a : Stamp) → below a a ≡ false
  not_own a = ap (λ (b : Bool). not b && is_ancestor h f a a) (same_stamp_refl a)

  apart : (a b : Stamp) → below a b ≡ true → is_ancestor h f a b ≡ true
  apart a b e = at (same_stamp a b) e
    where
      at : (x : Bool) → not x && is_ancestor h f a b ≡ true → is_ancestor h f a b ≡ true
      at true e = absurd (true_false (sym e))
      at false e = e

  two : (a b : Stamp) → below a b ≡ true → a ≡ b → ⊥
  two a b e same = true_false (sym e ∙ subst (λ (s : Stamp). below a s ≡ false) same (not_own a))

  -- below a version below another
  pub below_through : (a b d : Stamp) → is_in h f b ≡ true → is_in h f d ≡ true → below a b ≡ true → below b d ≡ true → below a d ≡ true
  below_through a b d there stands k l = at (same_stamp a d) refl
    where
      at : (x : Bool) → same_stamp a d ≡ x → not x && is_ancestor h f a d ≡ true
      at true e = absurd (two b d l (sym (ancestors_one h made f d b there (subst (λ (s : Stamp). is_ancestor h f s b ≡ true) (same_stamp_eq a d e) (apart a b k)) (apart b d l))))
      at false e = ancestor_through h made f a b d stands (apart a b k) (apart b d l)

  -- one above this one, or this one, that none of the list is above
  pub record Top (ts : List Stamp) (k : Stamp) : Type 0 where
    pub top : Stamp
    pub above : is_ancestor h f k top ≡ true
    pub among : (top ≡ k) ⊎ (has_stamp ts top ≡ true)
    pub stands : is_in h f top ≡ true
    pub free : list_any (below top) ts ≡ false

  pub topmost : (ts : List Stamp) (k : Stamp) → is_in h f k ≡ true → AllByRecursion (λ (s : Stamp). is_in h f s ≡ true) ts → Top ts k
  topmost [] k stands all = record { top = k; above = ancestor_own h f k; among = inl refl; stands = stands; free = refl }
  topmost (t ∷ ts) k stands all = at (topmost ts k stands all.1) (below (topmost ts k stands all.1).top t) refl
    where
      more : (m : Stamp) → (m ≡ k) ⊎ (has_stamp ts m ≡ true) → (m ≡ k) ⊎ (has_stamp (t ∷ ts) m ≡ true)
      more m (inl e) = inl e
      more m (inr e) = inr (or_second (same_stamp t m) (has_stamp ts m) e)

      none : (m : Top ts k) → below m.top t ≡ true → (b : Bool) → list_any (below t) ts ≡ b → b ≡ false
      none m e true any = absurd (true_false (sym (any_then (below t) (below m.top) (λ (s : Stamp). is_in h f s ≡ true) (λ u there l. below_through m.top t u all.0 there e l) ts all.1 any) ∙ m.free))
      none m e false any = refl

      at : (m : Top ts k) → (b : Bool) → below m.top t ≡ b → Top (t ∷ ts) k
      at m true e = record {
        top = t;
        above = ancestor_through h made f k m.top t all.0 m.above (apart m.top t e);
        among = inr (ap (λ (b : Bool). b || has_stamp ts t) (same_stamp_refl t));
        stands = all.0;
        free = ap (λ (b : Bool). b || list_any (below t) ts) (not_own t) ∙ none m e (list_any (below t) ts) refl;
      }
      at m false e = record { top = m.top; above = m.above; among = more m.top m.among; stands = m.stands; free = ap (λ (b : Bool). b || list_any (below m.top) ts) e ∙ m.free }

  -- above each of a list one of those that are kept of it
  pub record KeptAbove (ss : List Stamp) (s : Stamp) : Type 0 where
    pub top : Stamp
    pub is_kept : has_stamp (kept h f ss) top ≡ true
    pub above : is_ancestor h f s top ≡ true

  pub kept_above : (ss : List Stamp) (s : Stamp) → has_stamp ss s ≡ true → is_in h f s ≡ true → AllByRecursion (λ (t : Stamp). is_in h f t ≡ true) ss → KeptAbove ss s
  kept_above ss s mine stands all = over (topmost ss s stands all)
    where
      over : Top ss s → KeptAbove ss s
      over m = record {
        top = m.top;
        is_kept = any_kept (λ t. same_stamp t m.top) (λ a. not (is_covered h f ss a)) (λ t e. subst (λ (a : Stamp). not (is_covered h f ss a) ≡ true) (sym (same_stamp_eq t m.top e)) (ap not m.free)) ss (among m.among);
        above = m.above;
      }
        where
          among : (m.top ≡ s) ⊎ (has_stamp ss m.top ≡ true) → has_stamp ss m.top ≡ true
          among (inl e) = subst (λ (a : Stamp). has_stamp ss a ≡ true) (sym e) mine
          among (inr e) = e
