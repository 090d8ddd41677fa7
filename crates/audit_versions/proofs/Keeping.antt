-- The kept versions, when one more comes: tests against the kept ones alone tell what is kept then.
use Rattle.std.proofs.Common.{ℕ, zero, suc, ◌+◌, ◌<◌, ◌≤◌, ◌≡◌, refl, sym, ap, ◌∙◌, subst, Bool, true, false, not, ◌&&◌, ◌||◌, cond, List, [], ◌∷◌, length, arith, ◌⊎◌, inl, inr, ⊎_elim}
use Rattle.std.proofs.lemmas.Bool.{cases_Bool}
use Rattle.std.proofs.lemmas.Bool.Decides.{nat_tests}
use Rattle.std.specs.List.{list_any, filter}
use Rattle.plain_facts.proofs.Tests.{true_false, false_true, or_first, or_second, or_other, false_unless}
use Rattle.locus_ids.specs.declared.ids.FileId.{FileId}
use Rattle.locus_ids.specs.declared.ids.Stamp.{Stamp}
use Rattle.commit_graph.specs.declared.history.Version.{Version}
use Rattle.commit_graph.specs.Versions.{same_stamp, is_in, is_ancestor, is_proper_ancestor, is_covered, kept, is_stamp_below, with_stamp}
use Rattle.commit_graph.proofs.Names.{same_stamp_refl, same_stamp_eq}
use Rattle.audit_versions.specs.Regular.{is_regular}
use Rattle.audit_versions.specs.Keeping.{AllIn, AllAbove, Ascending, kept_with}
use Rattle.audit_versions.proofs.Order.{filter_same, proper_through, proper_later, lateness, late_at_most}

-- ---- one of a list ----

abbrev pub IsOne : Stamp → List Stamp → Type 0
IsOne c [] = ⊥
IsOne c (d ∷ ds) = (c ≡ d) ⊎ IsOne c ds

pub any_of : {X : Type 0} (p : Stamp → Bool) (cs : List Stamp) → list_any p cs ≡ true → ((c : Stamp) → IsOne c cs → p c ≡ true → X) → X
any_of p [] e go = absurd (false_true e)
any_of p (c ∷ cs) e go = ⊎_elim
    (λ (t : p c ≡ true). go c (inl refl) t)
    (λ (t : p c ≡ false). any_of p cs (or_other (p c) (list_any p cs) t e) (λ d m f. go d (inr m) f))
    (cases_Bool (p c))

pub any_from : (p : Stamp → Bool) (c : Stamp) (cs : List Stamp) → IsOne c cs → p c ≡ true → list_any p cs ≡ true
any_from p c [] m e = absurd m
any_from p c (d ∷ ds) (inl s) e = or_first (p d) (list_any p ds) (ap p (sym s) ∙ e)
any_from p c (d ∷ ds) (inr m) e = or_second (p d) (list_any p ds) (any_from p c ds m e)

pub one_in : (h : List Version) (file : FileId) (c : Stamp) (cs : List Stamp) → AllIn h file cs → IsOne c cs → is_in h file c ≡ true
one_in h file c [] k m = absurd m
one_in h file c (d ∷ ds) k (inl s) = ap (is_in h file) s ∙ k.0
one_in h file c (d ∷ ds) k (inr m) = one_in h file c ds k.1 m

one_passes : (q : Stamp → Bool) (c : Stamp) (cs : List Stamp) → IsOne c cs → q c ≡ true → IsOne c (filter q cs)
one_passes q c [] m e = absurd m
one_passes q c (d ∷ ds) (inl s) e = subst (λ (b : Bool). IsOne c (cond b (d ∷ filter q ds) (filter q ds))) (sym (ap q (sym s) ∙ e)) (inl s)
one_passes q c (d ∷ ds) (inr m) e = at (q d) (one_passes q c ds m e) where
  at : (b : Bool) → IsOne c (filter q ds) → IsOne c (cond b (d ∷ filter q ds) (filter q ds))
  at true n = inr n
  at false n = n

one_passed : (q : Stamp → Bool) (c : Stamp) (cs : List Stamp) → IsOne c (filter q cs) → IsOne c cs
one_passed q c [] m = m
one_passed q c (d ∷ ds) m = at (q d) (one_passed q c ds) m where
  at : (b : Bool) → (IsOne c (filter q ds) → IsOne c ds) → IsOne c (cond b (d ∷ filter q ds) (filter q ds)) → (c ≡ d) ⊎ IsOne c ds
  at true before (inl s) = inl s
  at true before (inr n) = inr (before n)
  at false before n = inr (before n)

-- ---- what is covered is covered by a kept one ----

-- From a version that covers, step by step to a later one that covers it, as far as there is one.
climb : (file : FileId) (h : List Version) → is_regular h ≡ true → (cs : List Stamp) → AllIn h file cs → (n : ℕ) (a c : Stamp) → is_in h file a ≡ true → IsOne c cs → is_proper_ancestor h file a c ≡ true → length h ≤ n + lateness h file c → is_covered h file (kept h file cs) a ≡ true
climb file h r cs all zero a c ea m e room = ⊎_elim
    (λ (t : is_covered h file cs c ≡ true). any_of (is_proper_ancestor h file c) cs t (λ d o f.
    let ec = one_in h file c cs all m in
    let ed = one_in h file d cs all o in
    let up : lateness h file c < lateness h file d = proper_later file h r c d ed f in
    let most : lateness h file d ≤ length h = late_at_most file h d in
    absurd (omega arith)))
    (λ (t : is_covered h file cs c ≡ false). any_from (is_proper_ancestor h file a) c (kept h file cs) (one_passes (λ x. not (is_covered h file cs x)) c cs m (ap not t)) e)
    (cases_Bool (is_covered h file cs c))
climb file h r cs all (suc n) a c ea m e room = ⊎_elim
    (λ (t : is_covered h file cs c ≡ true). any_of (is_proper_ancestor h file c) cs t (λ d o f.
    let ec = one_in h file c cs all m in
    let ed = one_in h file d cs all o in
    let up : lateness h file c < lateness h file d = proper_later file h r c d ed f in
    let most : lateness h file d ≤ length h = late_at_most file h d in
    climb file h r cs all n a d ea o (proper_through file h r a c d ea ec ed e f) (omega arith)))
    (λ (t : is_covered h file cs c ≡ false). any_from (is_proper_ancestor h file a) c (kept h file cs) (one_passes (λ x. not (is_covered h file cs x)) c cs m (ap not t)) e)
    (cases_Bool (is_covered h file cs c))

pub covered_by_kept : (file : FileId) (h : List Version) → is_regular h ≡ true → (cs : List Stamp) → AllIn h file cs → (a : Stamp) → is_in h file a ≡ true → is_covered h file cs a ≡ true → is_covered h file (kept h file cs) a ≡ true
covered_by_kept file h r cs all a ea t = any_of (is_proper_ancestor h file a) cs t (λ c m e. climb file h r cs all (length h) a c ea m e (omega arith))

covered_more : (file : FileId) (h : List Version) (cs : List Stamp) (a : Stamp) → is_covered h file (kept h file cs) a ≡ true → is_covered h file cs a ≡ true
covered_more file h cs a t = any_of (is_proper_ancestor h file a) (kept h file cs) t (λ c m e. any_from (is_proper_ancestor h file a) c cs (one_passed (λ x. not (is_covered h file cs x)) c cs m) e)

-- ---- one more stamp at its place ----

or_again : (x y : Bool) → (x || y) ≡ (x || (x || y))
or_again true y = refl
or_again false y = refl

or_swaps : (x y z : Bool) → (x || (y || z)) ≡ (y || (x || z))
or_swaps true true z = refl
or_swaps true false z = refl
or_swaps false true z = refl
or_swaps false false z = refl

any_with : (p : Stamp → Bool) (s : Stamp) (cs : List Stamp) → list_any p (with_stamp s cs) ≡ (p s || list_any p cs)
any_with p s [] = refl
any_with p s (t ∷ ts) = at (is_stamp_below s t) (same_stamp s t) refl (any_with p s ts) where
  at : (low same : Bool) → same_stamp s t ≡ same → list_any p (with_stamp s ts) ≡ (p s || list_any p ts) → list_any p (cond low (s ∷ t ∷ ts) (cond same (t ∷ ts) (t ∷ with_stamp s ts))) ≡ (p s || (p t || list_any p ts))
  at true same e before = refl
  at false true e before = let one : p s ≡ p t = ap p (same_stamp_eq s t e) in or_again (p t) (list_any p ts) ∙ ap (λ x. x || (p t || list_any p ts)) (sym one)
  at false false e before = ap (λ x. p t || x) before ∙ or_swaps (p t) (p s) (list_any p ts)

filter_without : (q : Stamp → Bool) (s : Stamp) (cs : List Stamp) → q s ≡ false → filter q (with_stamp s cs) ≡ filter q cs
filter_without q s [] e = ap (λ (b : Bool). let ss : List Stamp = cond b (s ∷ []) [] in ss) e
filter_without q s (t ∷ ts) e = at (is_stamp_below s t) (same_stamp s t) (filter_without q s ts e) where
  at : (low same : Bool) → filter q (with_stamp s ts) ≡ filter q ts → filter q (cond low (s ∷ t ∷ ts) (cond same (t ∷ ts) (t ∷ with_stamp s ts))) ≡ filter q (t ∷ ts)
  at true same before = ap (λ b. cond b (s ∷ filter q (t ∷ ts)) (filter q (t ∷ ts))) e
  at false true before = refl
  at false false before = ap (λ ys. cond (q t) (t ∷ ys) ys) before

below_through : (a b c : Stamp) → is_stamp_below a b ≡ true → is_stamp_below b c ≡ true → is_stamp_below a c ≡ true
below_through a b c e f = grind (arith, nat_tests)

above_through : (s t : Stamp) (ts : List Stamp) → is_stamp_below s t ≡ true → AllAbove t ts → AllAbove s ts
above_through s t [] e k = tt
above_through s t (u ∷ us) e k = (below_through s t u e k.0, above_through s t us e k.1)

above_filter : (q : Stamp → Bool) (s : Stamp) (ts : List Stamp) → AllAbove s ts → AllAbove s (filter q ts)
above_filter q s [] k = tt
above_filter q s (t ∷ ts) k = at (q t) (above_filter q s ts k.1) where
  at : (b : Bool) → AllAbove s (filter q ts) → AllAbove s (cond b (t ∷ filter q ts) (filter q ts))
  at true n = (k.0, n)
  at false n = n

with_least : (s : Stamp) (ts : List Stamp) → AllAbove s ts → with_stamp s ts ≡ s ∷ ts
with_least s [] k = refl
with_least s (t ∷ ts) k = ap (λ b. cond b (s ∷ t ∷ ts) (cond (same_stamp s t) (t ∷ ts) (t ∷ with_stamp s ts))) k.0

with_there : (s t : Stamp) (us : List Stamp) → is_stamp_below s t ≡ false → same_stamp s t ≡ true → with_stamp s (t ∷ us) ≡ t ∷ us
with_there s t us l m = ap (λ b. cond b (s ∷ t ∷ us) (cond (same_stamp s t) (t ∷ us) (t ∷ with_stamp s us))) l ∙ ap (λ b. cond b (t ∷ us) (t ∷ with_stamp s us)) m

with_past : (s t : Stamp) (us : List Stamp) → is_stamp_below s t ≡ false → same_stamp s t ≡ false → with_stamp s (t ∷ us) ≡ t ∷ with_stamp s us
with_past s t us l m = ap (λ b. cond b (s ∷ t ∷ us) (cond (same_stamp s t) (t ∷ us) (t ∷ with_stamp s us))) l ∙ ap (λ b. cond b (t ∷ us) (t ∷ with_stamp s us)) m

passes : (q : Stamp → Bool) (t : Stamp) (ts : List Stamp) (b : Bool) → q t ≡ b → filter q (t ∷ ts) ≡ cond b (t ∷ filter q ts) (filter q ts)
passes q t ts b e = ap (λ c. cond c (t ∷ filter q ts) (filter q ts)) e

filter_with : (q : Stamp → Bool) (s : Stamp) (cs : List Stamp) → q s ≡ true → Ascending cs → filter q (with_stamp s cs) ≡ with_stamp s (filter q cs)
filter_with q s [] e k = ap (λ (b : Bool). let ss : List Stamp = cond b (s ∷ []) [] in ss) e
filter_with q s (t ∷ ts) e k = ⊎_elim
    (λ (l : is_stamp_below s t ≡ true).
    let above : AllAbove s (t ∷ ts) = (l, above_through s t ts l k.0) in
    ap (filter q) (with_least s (t ∷ ts) above) ∙ (passes q s (t ∷ ts) true e ∙ sym (with_least s (filter q (t ∷ ts)) (above_filter q s (t ∷ ts) above))))
    (λ (l : is_stamp_below s t ≡ false). ⊎_elim
    (λ (m : same_stamp s t ≡ true).
    let stays = passes q t ts true (ap q (sym (same_stamp_eq s t m)) ∙ e) in
    ap (filter q) (with_there s t ts l m) ∙ (stays ∙ (sym (with_there s t (filter q ts) l m) ∙ ap (with_stamp s) (sym stays))))
    (λ (m : same_stamp s t ≡ false). ap (filter q) (with_past s t ts l m) ∙ ⊎_elim
    (λ (y : q t ≡ true). passes q t (with_stamp s ts) true y ∙ (ap (λ us. t ∷ us) (filter_with q s ts e k.1) ∙ (sym (with_past s t (filter q ts) l m) ∙ ap (with_stamp s) (sym (passes q t ts true y)))))
    (λ (y : q t ≡ false). passes q t (with_stamp s ts) false y ∙ (filter_with q s ts e k.1 ∙ ap (with_stamp s) (sym (passes q t ts false y))))
    (cases_Bool (q t)))
    (cases_Bool (same_stamp s t)))
    (cases_Bool (is_stamp_below s t))

-- ---- the step ----

pub filter_members : (p q : Stamp → Bool) (cs : List Stamp) → ((c : Stamp) → IsOne c cs → p c ≡ q c) → filter p cs ≡ filter q cs
filter_members p q [] same = refl
filter_members p q (c ∷ cs) same = ap (λ b. cond b (c ∷ filter p cs) (filter p cs)) (same c (inl refl)) ∙ ap (λ ys. cond (q c) (c ∷ ys) ys) (filter_members p q cs (λ d m. same d (inr m)))

-- two filters in turn
filter_twice : (p q : Stamp → Bool) (cs : List Stamp) → filter (λ c. not (p c || q c)) cs ≡ filter (λ c. not (p c)) (filter (λ c. not (q c)) cs)
filter_twice p q [] = refl
filter_twice p q (c ∷ cs) = at (p c) (q c) refl (filter_twice p q cs) where
  at : (a b : Bool) → p c ≡ a → filter (λ c. not (p c || q c)) cs ≡ filter (λ c. not (p c)) (filter (λ c. not (q c)) cs)
      → cond (not (a || b)) (c ∷ filter (λ c. not (p c || q c)) cs) (filter (λ c. not (p c || q c)) cs) ≡ filter (λ c. not (p c)) (cond (not b) (c ∷ filter (λ c. not (q c)) cs) (filter (λ c. not (q c)) cs))
  at true true e before = before
  at false true e before = before
  at true false e before = before ∙ sym (passes (λ c. not (p c)) c (filter (λ c. not (q c)) cs) false (ap not e))
  at false false e before = ap (λ ys. c ∷ ys) before ∙ sym (passes (λ c. not (p c)) c (filter (λ c. not (q c)) cs) true (ap not e))

not_own : (h : List Version) (file : FileId) (s : Stamp) → is_proper_ancestor h file s s ≡ false
not_own h file s = ap (λ b. not b && is_ancestor h file s s) (same_stamp_refl s)

-- The kept ones of some versions and one more, from the kept ones of the former alone.
pub kept_step : (file : FileId) (h : List Version) → is_regular h ≡ true → (cs : List Stamp) (s : Stamp) → Ascending cs → AllIn h file cs → is_in h file s ≡ true → kept h file (with_stamp s cs) ≡ kept_with h file (kept h file cs) s
kept_step file h r cs s k all es = filter_same (λ a. not (is_covered h file (with_stamp s cs) a)) more (with_stamp s cs) (λ a. ap not (any_with (is_proper_ancestor h file a) s cs)) ∙ ⊎_elim
    (λ (t : is_covered h file ks s ≡ true). covered t ∙ ap (λ b. cond b ks (with_stamp s (filter (λ c. not (is_proper_ancestor h file c s)) ks))) (sym t))
    (λ (t : is_covered h file ks s ≡ false). comes t ∙ ap (λ b. cond b ks (with_stamp s (filter (λ c. not (is_proper_ancestor h file c s)) ks))) (sym t))
    (cases_Bool (is_covered h file ks s)) where
      ks : List Stamp
      ks = kept h file cs

      more : Stamp → Bool
      more a = not (is_proper_ancestor h file a s || is_covered h file cs a)

      covered : is_covered h file ks s ≡ true → filter more (with_stamp s cs) ≡ ks
      covered t = filter_without more s cs (ap not (ap (λ b. is_proper_ancestor h file s s || b) (covered_more file h cs s t) ∙ or_second (is_proper_ancestor h file s s) true refl))
          ∙ filter_members more (λ c. not (is_covered h file cs c)) cs (λ c m. ap not (⊎_elim
          (λ (e : is_proper_ancestor h file c s ≡ true).
          let there : is_covered h file cs c ≡ true = any_of (is_proper_ancestor h file s) cs (covered_more file h cs s t) (λ d o f. any_from (is_proper_ancestor h file c) d cs o (proper_through file h r c s d (one_in h file c cs all m) es (one_in h file d cs all o) e f)) in
          or_first (is_proper_ancestor h file c s) (is_covered h file cs c) e ∙ sym there)
          (λ (e : is_proper_ancestor h file c s ≡ false). ap (λ b. b || is_covered h file cs c) e)
          (cases_Bool (is_proper_ancestor h file c s))))

      comes : is_covered h file ks s ≡ false → filter more (with_stamp s cs) ≡ with_stamp s (filter (λ c. not (is_proper_ancestor h file c s)) ks)
      comes t = filter_with more s cs (ap not (ap (λ b. b || is_covered h file cs s) (not_own h file s) ∙ false_unless (is_covered h file cs s) (λ e. true_false (sym (covered_by_kept file h r cs all s es e) ∙ t)))) k
          ∙ ap (with_stamp s) (filter_twice (λ c. is_proper_ancestor h file c s) (is_covered h file cs) cs)
