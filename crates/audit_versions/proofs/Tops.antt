-- In a regular history the versions of a site are a chain, so that of stamps in order only the last of each site can be kept.
use Rattle.std.proofs.Common.{ℕ, zero, suc, ◌+◌, ◌<◌, ◌≤◌, ◌≡◌, refl, sym, ap, ◌∙◌, subst, Bool, true, false, not, ◌&&◌, ◌||◌, cond, List, [], ◌∷◌, length, arith, ◌⊎◌, inl, inr, ⊎_elim, nat_lt, nat_le, ◌==◌}
use Rattle.std.proofs.lemmas.Bool.{cases_Bool}
use Rattle.std.proofs.lemmas.Bool.Decides.{nat_tests}
use Rattle.std.specs.List.{list_any, list_all, filter}
use Rattle.plain_facts.proofs.Tests.{both_true, and_true, true_false, false_true, or_first, or_second, or_other, or_either, not_true, false_unless, same_truth}
use Rattle.plain_facts.proofs.Numbers.{equal, equal_test, at_most_test, not_zero}
use Rattle.locus_ids.specs.declared.ids.FileId.{FileId}
use Rattle.locus_ids.specs.declared.ids.Stamp.{Stamp}
use Rattle.commit_graph.specs.declared.history.Version.{Version}
use Rattle.commit_graph.specs.Versions.{same_stamp, is_version, is_in, is_ancestor, is_proper_ancestor, is_covered, kept, is_stamp_below}
use Rattle.commit_graph.specs.Counters.{counter}
use Rattle.commit_graph.proofs.Names.{same_stamp_refl, same_stamp_eq}
use Rattle.audit_versions.specs.Regular.{is_regular}
use Rattle.audit_versions.specs.Keeping.{AllIn, ascend, has_number, tops}
use Rattle.audit_versions.proofs.Ancestors.{ancestor_stays, ancestor_top}
use Rattle.audit_versions.proofs.Told.{Sited, Unsited, within, counted, ancestor_in, named, tells}
use Rattle.audit_versions.proofs.Order.{filter_same, proper_through}
use Rattle.audit_versions.proofs.Keeping.{IsOne, any_of, any_from, one_in, filter_members}

-- ---- a site's versions are a chain ----

self_ancestor : (file : FileId) (h : List Version) (a : Stamp) → is_ancestor h file a a ≡ true
self_ancestor file [] a = same_stamp_refl a
self_ancestor file (v ∷ older) a = ⊎_elim
    (λ (t : is_version file a v ≡ true). ancestor_top file v older a a t ∙ or_first (same_stamp a a) (list_any (is_ancestor older file a) v.parents) (same_stamp_refl a))
    (λ (t : is_version file a v ≡ false). ancestor_stays file v older a a t ∙ self_ancestor file older a)
    (cases_Bool (is_version file a v))

own_counted : (file : FileId) (h : List Version) → is_regular h ≡ true → (b : Stamp) → is_in h file b ≡ true → b.n ≤ counter h file b b.site
own_counted file h r b eb = counted file h r b b eb (self_ancestor file h b)

apart_numbers : (a b : Stamp) → a.n < b.n → same_stamp a b ≡ false
apart_numbers a b l = false_unless (same_stamp a b) (λ e. let same : a.n ≡ b.n = ap (λ (s : Stamp). s.n) (same_stamp_eq a b e) in absurd (omega arith))

chained : (file : FileId) (h : List Version) → is_regular h ≡ true → (a b : Stamp) → is_in h file a ≡ true → is_in h file b ≡ true → a.site ≡ b.site → a.n < b.n → is_proper_ancestor h file a b ≡ true
chained file h r a b ea eb site l =
    let own : b.n ≤ counter h file b b.site = own_counted file h r b eb in
    let moved : counter h file b a.site ≡ counter h file b b.site = ap (counter h file b) site in
    and_true (not (same_stamp a b)) (is_ancestor h file a b) (ap not (apart_numbers a b l)) (tells file h r a b ea eb ∙ at_most_test a.n (counter h file b a.site) (omega arith))

-- an earlier number of the site of a version stands too
earlier_in : (file : FileId) (h : List Version) → is_regular h ≡ true → (a b : Stamp) → is_in h file b ≡ true → a.site ≡ b.site → a.n < b.n → has_number a ≡ true → is_in h file a ≡ true
earlier_in file h r a b eb site l n = ⊎_elim
    (λ (z : Unsited b). let none : b.n ≡ 0 = z.n in absurd (omega arith))
    (λ (s : Sited b).
    let low : 1 ≤ b.site = s.low in
    let own : b.n ≤ counter h file b b.site = own_counted file h r b eb in
    let moved : counter h file b a.site ≡ counter h file b b.site = ap (counter h file b) site in
    let some : 1 ≤ a.n = ⊎_elim
    (λ (e : (a.site == 0) ≡ true). let none : a.site ≡ 0 = equal a.site 0 e in absurd (omega arith))
    (λ (e : not (a.n == 0) ≡ true). let k = not_zero a.n e in positive a.n k)
    (or_either (a.site == 0) (not (a.n == 0)) n) in
    ancestor_in file h r a b eb (within file h r b a.site a.n (omega arith) some (omega arith)))
    (named file h r b eb) where
      positive : (m : ℕ) → (m ≡ 0 → ⊥) → 1 ≤ m
      positive zero k = absurd (k refl)
      positive (suc m) k = omega arith

-- of stamps in order that have one site the first has the lower number
lower : (s t : Stamp) → is_stamp_below s t ≡ true → (s.site == t.site) ≡ true → s.n < t.n
lower s t e f = grind (arith, nat_tests)

-- ---- all of them stand where the last ones do ----

pub all_in : (file : FileId) (h : List Version) → is_regular h ≡ true → (cs : List Stamp) → ascend cs ≡ true → list_all has_number cs ≡ true → list_all (is_in h file) (tops cs) ≡ true → AllIn h file cs
all_in file h r [] a n e = tt
all_in file h r (s ∷ []) a n e = ((both_true (is_in h file s) true e).0, tt)
all_in file h r (s ∷ t ∷ ts) a n e =
    let low = both_true (is_stamp_below s t) (ascend (t ∷ ts)) a in
    let num = both_true (has_number s) (list_all has_number (t ∷ ts)) n in
    ⊎_elim
    (λ (f : (s.site == t.site) ≡ true).
    let rest = all_in file h r (t ∷ ts) low.1 num.1 (ap (λ b. list_all (is_in h file) (cond b (tops (t ∷ ts)) (s ∷ tops (t ∷ ts)))) (sym f) ∙ e) in
    with_first (earlier_in file h r s t rest.0 (equal s.site t.site f) (lower s t low.0 f) num.0) rest)
    (λ (f : (s.site == t.site) ≡ false).
    let parts = both_true (is_in h file s) (list_all (is_in h file) (tops (t ∷ ts))) (ap (λ b. list_all (is_in h file) (cond b (tops (t ∷ ts)) (s ∷ tops (t ∷ ts)))) (sym f) ∙ e) in
    with_first parts.0 (all_in file h r (t ∷ ts) low.1 num.1 parts.1))
    (cases_Bool (s.site == t.site)) where
      with_first : is_in h file s ≡ true → AllIn h file (t ∷ ts) → AllIn h file (s ∷ t ∷ ts)
      with_first x y = (x, y)

-- ---- what is kept is one of the last ones ----

one_top : (c : Stamp) (cs : List Stamp) → IsOne c (tops cs) → IsOne c cs
one_top c [] m = m
one_top c (s ∷ []) m = m
one_top c (s ∷ t ∷ ts) m = at (s.site == t.site) (one_top c (t ∷ ts)) m where
  at : (b : Bool) → (IsOne c (tops (t ∷ ts)) → IsOne c (t ∷ ts)) → IsOne c (cond b (tops (t ∷ ts)) (s ∷ tops (t ∷ ts))) → IsOne c (s ∷ t ∷ ts)
  at true before n = inr (before n)
  at false before (inl e) = inl e
  at false before (inr n) = inr (before n)

-- a top above a stamp, or the stamp itself
pub record Above (h : List Version) (file : FileId) (cs : List Stamp) (c : Stamp) : Type 0 where
  pub top : Stamp
  pub one : IsOne top (tops cs)
  pub above : (c ≡ top) ⊎ (is_proper_ancestor h file c top ≡ true)

above : (file : FileId) (h : List Version) → is_regular h ≡ true → (cs : List Stamp) → AllIn h file cs → ascend cs ≡ true → (c : Stamp) → IsOne c cs → Above h file cs c
above file h r [] k a c m = absurd m
above file h r (s ∷ []) k a c (inl e) = record { top = s; one = inl refl; above = inl e }
above file h r (s ∷ []) k a c (inr m) = absurd m
above file h r (s ∷ t ∷ ts) k a c m = ⊎_elim
    (λ (f : (s.site == t.site) ≡ true). same f m (above file h r (t ∷ ts) k.1 low.1))
    (λ (f : (s.site == t.site) ≡ false). other f m (above file h r (t ∷ ts) k.1 low.1))
    (cases_Bool (s.site == t.site)) where
      low : (is_stamp_below s t ≡ true) × (ascend (t ∷ ts) ≡ true)
      low = both_true (is_stamp_below s t) (ascend (t ∷ ts)) a

      up : (f : (s.site == t.site) ≡ true) → is_proper_ancestor h file s t ≡ true
      up f = chained file h r s t k.0 k.1.0 (equal s.site t.site f) (lower s t low.0 f)

      through : (f : (s.site == t.site) ≡ true) (d : Stamp) → is_in h file d ≡ true → (t ≡ d) ⊎ (is_proper_ancestor h file t d ≡ true) → is_proper_ancestor h file s d ≡ true
      through f d ed (inl e) = ap (is_proper_ancestor h file s) (sym e) ∙ up f
      through f d ed (inr e) = proper_through file h r s t d k.0 k.1.0 ed (up f) e

      widen : (b : Bool) → (s.site == t.site) ≡ b → (d : Stamp) → IsOne d (cond b (tops (t ∷ ts)) (s ∷ tops (t ∷ ts))) → IsOne d (tops (s ∷ t ∷ ts))
      widen b f d n = subst (λ (x : Bool). IsOne d (cond x (tops (t ∷ ts)) (s ∷ tops (t ∷ ts)))) (sym f) n

      same : (f : (s.site == t.site) ≡ true) → IsOne c (s ∷ t ∷ ts) → ((d : Stamp) → IsOne d (t ∷ ts) → Above h file (t ∷ ts) d) → Above h file (s ∷ t ∷ ts) c
      same f (inl e) before = let u = before t (inl refl) in record { top = u.top; one = widen true f u.top u.one; above = inr (ap (λ x. is_proper_ancestor h file x u.top) e ∙ through f u.top (one_in h file u.top (t ∷ ts) k.1 (one_top u.top (t ∷ ts) u.one)) u.above) }
      same f (inr n) before = let u = before c n in record { top = u.top; one = widen true f u.top u.one; above = u.above }

      other : (f : (s.site == t.site) ≡ false) → IsOne c (s ∷ t ∷ ts) → ((d : Stamp) → IsOne d (t ∷ ts) → Above h file (t ∷ ts) d) → Above h file (s ∷ t ∷ ts) c
      other f (inl e) before = record { top = s; one = widen false f s (inl refl); above = inl e }
      other f (inr n) before = let u = before c n in record { top = u.top; one = widen false f u.top (inr u.one); above = u.above }

covered_tops : (file : FileId) (h : List Version) → is_regular h ≡ true → (cs : List Stamp) → AllIn h file cs → ascend cs ≡ true → (a : Stamp) → is_in h file a ≡ true → is_covered h file cs a ≡ is_covered h file (tops cs) a
covered_tops file h r cs k asc a ea = same_truth (is_covered h file cs a) (is_covered h file (tops cs) a)
    (λ e. any_of (is_proper_ancestor h file a) cs e (λ c m f. by c m f (above file h r cs k asc c m)))
    (λ e. any_of (is_proper_ancestor h file a) (tops cs) e (λ c m f. any_from (is_proper_ancestor h file a) c cs (one_top c cs m) f)) where
      by : (c : Stamp) → IsOne c cs → is_proper_ancestor h file a c ≡ true → Above h file cs c → is_covered h file (tops cs) a ≡ true
      by c m f u = any_from (is_proper_ancestor h file a) u.top (tops cs) u.one (⊎_elim
          (λ (e : c ≡ u.top). ap (is_proper_ancestor h file a) (sym e) ∙ f)
          (λ (e : is_proper_ancestor h file c u.top ≡ true). proper_through file h r a c u.top ea (one_in h file c cs k m) (one_in h file u.top cs k (one_top u.top cs u.one)) f e)
          u.above)

-- all but the last ones go
only_tops : (file : FileId) (h : List Version) → is_regular h ≡ true → (q : Stamp → Bool) (xs : List Stamp) → AllIn h file xs → ascend xs ≡ true → ((s t : Stamp) → IsOne t xs → is_proper_ancestor h file s t ≡ true → q s ≡ false) → filter q xs ≡ filter q (tops xs)
only_tops file h r q [] k a go = refl
only_tops file h r q (s ∷ []) k a go = refl
only_tops file h r q (s ∷ t ∷ ts) k a go = at (only_tops file h r q (t ∷ ts) k.1 low.1 (λ x y m e. go x y (inr m) e)) where
  low : (is_stamp_below s t ≡ true) × (ascend (t ∷ ts) ≡ true)
  low = both_true (is_stamp_below s t) (ascend (t ∷ ts)) a

  at : filter q (t ∷ ts) ≡ filter q (tops (t ∷ ts)) → filter q (s ∷ t ∷ ts) ≡ filter q (tops (s ∷ t ∷ ts))
  at before = ⊎_elim
      (λ (f : (s.site == t.site) ≡ true).
      let gone : q s ≡ false = go s t (inr (inl refl)) (chained file h r s t k.0 k.1.0 (equal s.site t.site f) (lower s t low.0 f)) in
      ap (λ b. cond b (s ∷ filter q (t ∷ ts)) (filter q (t ∷ ts))) gone ∙ (before ∙ ap (λ b. filter q (cond b (tops (t ∷ ts)) (s ∷ tops (t ∷ ts)))) (sym f)))
      (λ (f : (s.site == t.site) ≡ false).
      ap (λ ys. cond (q s) (s ∷ ys) ys) before ∙ ap (λ b. filter q (cond b (tops (t ∷ ts)) (s ∷ tops (t ∷ ts)))) (sym f))
      (cases_Bool (s.site == t.site))

-- The kept ones of stamps in order are those of the last of each site.
pub kept_tops : (file : FileId) (h : List Version) → is_regular h ≡ true → (cs : List Stamp) → ascend cs ≡ true → AllIn h file cs → kept h file cs ≡ kept h file (tops cs)
kept_tops file h r cs a k =
    only_tops file h r (λ c. not (is_covered h file cs c)) cs k a (λ s t m e. ap not (any_from (is_proper_ancestor h file s) t cs m e))
    ∙ filter_members (λ c. not (is_covered h file cs c)) (λ c. not (is_covered h file (tops cs) c)) (tops cs) (λ c m. ap not (covered_tops file h r cs k a c (one_in h file c cs k (one_top c cs m))))

pub kept_by_tops : (file : FileId) (h : List Version) → is_regular h ≡ true → (cs : List Stamp) → ascend cs ≡ true → list_all has_number cs ≡ true → list_all (is_in h file) (tops cs) ≡ true → kept h file cs ≡ kept h file (tops cs)
kept_by_tops file h r cs a n e = kept_tops file h r cs a (all_in file h r cs a n e)
