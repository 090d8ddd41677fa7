-- Pages that are pulled: their numbers ascend, the next one that comes stands after those that came, and laid over the content under them
-- they are the version.
use Rattle.std.proofs.Common.{◌≡◌, ℕ, zero, suc, ◌+◌, ◌*◌, ◌-◌, ◌≤◌, ◌<◌, ◌==◌, Bool, true, false, cond, ◌&&◌, ◌||◌, List, [], ◌∷◌, ◌++◌, length, take, drop, filter, Option, Some, None, refl, sym, ◌∙◌, ap, subst, arith, ◌⊎◌, inl, inr}
use Rattle.std.specs.Prelude.{nat_le, slice_index}
use Rattle.std.specs.List.{flat_map}
use Rattle.std.proofs.lemmas.Bool.Decides.{nat_tests}
use Rattle.std.proofs.lemmas.List.{drop-append-le, drop-drop, length-drop, take-append-drop, take-append-le, take_all}
use Rattle.std.proofs.Math.Seq.{drop-append_seam}
use Rattle.role_steps.proofs.of_plain_facts.Numbers.{equal}
use Rattle.role_steps.proofs.of_plain_facts.Options.{none_some, some_same}
use Rattle.role_steps.proofs.of_plain_facts.Tests.{and_first, and_second, true_false}
use Rattle.locus_ids.specs.Sizes.{page_bytes}
use Rattle.file_content.specs.Pages.{has_page, page_of, pages_from, pages_of}
use Rattle.role_steps.specs.Adoption.{content_laid, page_laid, page_laid_at, place_from}
use Rattle.role_steps.specs.Own.{Every}
use Rattle.role_steps.specs.Pulling.{ascend_from, bytes_in}
use Rattle.the_run.specs.Kept.{Among}
use Rattle.tree_laws.specs.Deltas.{AgreeBut}

-- ---- ascending numbers ----

pub all_ascend : (first count : ℕ) → ascend_from first (pages_from first count) ≡ true
all_ascend first zero = refl
all_ascend first (suc count) = over (nat_le first first) own (subst (λ (n : ℕ). ascend_from n (pages_from (first + 1) count) ≡ true) next (all_ascend (first + 1) count))
  where
    own : nat_le first first ≡ true
    own = grind (arith, nat_tests)

    next : first + 1 ≡ suc first
    next = omega arith

    over : (b : Bool) → b ≡ true → ascend_from (suc first) (pages_from (first + 1) count) ≡ true → b && ascend_from (suc first) (pages_from (first + 1) count) ≡ true
    over true e later = later
    over false e later = absurd (true_false (sym e))

pub all_below : (first count top : ℕ) → first + count ≤ top → Every (λ (page : ℕ). page < top) (pages_from first count)
all_below first zero top le = tt
all_below first (suc count) top le = (omega (arith, le), all_below (first + 1) count top (omega (arith, le)))

pub below_at : (top : ℕ) (ps : List ℕ) → Every (λ (page : ℕ). page < top) ps → (k : ℕ) → k < length ps → slice_index ps k < top
below_at top [] h k lt = absurd (omega (arith, lt))
below_at top (p ∷ ps) h zero lt = h.0
below_at top (p ∷ ps) h (suc k) lt = below_at top ps h.1 k (omega (arith, lt))

least_le : (least p : ℕ) → nat_le least p ≡ true → least ≤ p
least_le least p e = grind (arith, nat_tests)

-- each number is above the one before it
pub above_at : (least : ℕ) (ps : List ℕ) → ascend_from least ps ≡ true → (k : ℕ) → suc k < length ps → slice_index ps k < slice_index ps (suc k)
above_at least [] h k lt = absurd (omega (arith, lt))
above_at least (p ∷ []) h k lt = absurd (omega (arith, lt))
above_at least (p ∷ q ∷ ps) h zero lt = (let le : suc p ≤ q = least_le (suc p) q (and_first (nat_le (suc p) q) _ (and_second (nat_le least p) _ h)) in omega (arith, le))
above_at least (p ∷ q ∷ ps) h (suc k) lt = above_at (suc p) (q ∷ ps) (and_second (nat_le least p) _ h) k (omega (arith, lt))

-- ---- ascending numbers below a count are those among them ----

lacks_below : (least : ℕ) (ps : List ℕ) → ascend_from least ps ≡ true → (page : ℕ) → page < least → has_page ps page ≡ false
lacks_below least [] h page lt = refl
lacks_below least (p ∷ ps) h page lt = over (p == page) apart (lacks_below (suc p) ps (and_second (nat_le least p) _ h) page (further (least_le least p (and_first (nat_le least p) _ h))))
  where
    further : least ≤ p → page < suc p
    further le = omega (arith, le, lt)

    not_same : least ≤ p → (p == page) ≡ false
    not_same le = grind (arith, nat_tests)

    apart : (p == page) ≡ false
    apart = not_same (least_le least p (and_first (nat_le least p) _ h))

    over : (b : Bool) → b ≡ false → has_page ps page ≡ false → b || has_page ps page ≡ false
    over true e later = absurd (true_false e)
    over false e later = later

abbrev AreAmong : (least count : ℕ) → List ℕ → Type 0
AreAmong least count ps = ascend_from least ps ≡ true → Every (λ (page : ℕ). page < least + count) ps → ps ≡ filter (has_page ps) (pages_from least count)

among_from : (least count : ℕ) (ps : List ℕ) → ascend_from least ps ≡ true → Every (λ (page : ℕ). page < least + count) ps → ps ≡ filter (has_page ps) (pages_from least count)
among_from least zero [] h k = refl
among_from least zero (p ∷ ps) h k = (let le : least ≤ p = least_le least p (and_first (nat_le least p) _ h) in let lt : p < least + 0 = k.0 in absurd (omega (arith, le, lt)))
among_from least (suc count) [] h k = none (pages_from least (suc count))
  where
    none : (qs : List ℕ) → [] ≡ filter (has_page []) qs
    none [] = refl
    none (q ∷ qs) = none qs
among_from least (suc count) (p ∷ ps) h k = over (p == least) refl (λ a b. among_from (least + 1) count ps a b) (λ a b. among_from (least + 1) count (p ∷ ps) a b)
  where
    low : least ≤ p
    low = least_le least p (and_first (nat_le least p) _ h)

    rise : ascend_from (suc p) ps ≡ true
    rise = and_second (nat_le least p) _ h

    next : suc least ≡ least + 1
    next = omega arith

    -- numbers from a place on have none below it
    same_filter : (first more : ℕ) → p < first → filter (has_page ps) (pages_from first more) ≡ filter (has_page (p ∷ ps)) (pages_from first more)
    same_filter first zero lt = refl
    same_filter first (suc more) lt = ap (λ (b : Bool). cond b (first ∷ filter (has_page ps) (pages_from (first + 1) more)) (filter (has_page ps) (pages_from (first + 1) more))) (sym (ap (λ (b : Bool). b || has_page ps first) unlike))
        ∙ ap (λ (qs : List ℕ). cond (has_page (p ∷ ps) first) (first ∷ qs) qs) (same_filter (first + 1) more (omega (arith, lt)))
      where
        unlike : (p == first) ≡ false
        unlike = grind (arith, nat_tests)

    more_below : (n m : ℕ) → n + suc m ≡ (n + 1) + m
    more_below n m = omega arith

    below : (qs : List ℕ) → Every (λ (page : ℕ). page < least + suc count) qs → Every (λ (page : ℕ). page < (least + 1) + count) qs
    below qs q = subst (λ (n : ℕ). Every (λ (page : ℕ). page < n) qs) (more_below least count) q

    up : (p == least) ≡ false → nat_le (least + 1) p ≡ true
    up e = (let le : least ≤ p = low in grind (arith, nat_tests))

    higher : (b : Bool) → b ≡ true → b && ascend_from (suc p) ps ≡ true
    higher true q = rise
    higher false q = absurd (true_false (sym q))

    over : (b : Bool) → (p == least) ≡ b → AreAmong (least + 1) count ps → AreAmong (least + 1) count (p ∷ ps) → p ∷ ps ≡ cond (b || has_page ps least) (least ∷ filter (has_page (p ∷ ps)) (pages_from (least + 1) count)) (filter (has_page (p ∷ ps)) (pages_from (least + 1) count))
    over true e later all = (let same : p ≡ least = equal p least e in ap (λ (n : ℕ). n ∷ ps) same ∙ ap (λ (qs : List ℕ). least ∷ qs)
        (later (subst (λ (n : ℕ). ascend_from n ps ≡ true) (ap suc same ∙ next) rise) (below ps k.1) ∙ same_filter (least + 1) count (omega (arith, same))))
    over false e later all = subst (λ (b : Bool). p ∷ ps ≡ cond b (least ∷ filter (has_page (p ∷ ps)) (pages_from (least + 1) count)) (filter (has_page (p ∷ ps)) (pages_from (least + 1) count))) (sym (lacks_below (suc p) ps rise least (omega (arith, low))))
        (all (higher (nat_le (least + 1) p) (up e)) (below (p ∷ ps) k))

pub pages_among : (count : ℕ) (ps : List ℕ) → ascend_from 0 ps ≡ true → Every (λ (page : ℕ). page < count) ps → ps ≡ filter (has_page ps) (pages_from 0 count)
pages_among count ps h k = among_from 0 count ps h (subst (λ (n : ℕ). Every (λ (page : ℕ). page < n) ps) from_none k)
  where
    from_none : count ≡ 0 + count
    from_none = omega arith

-- ---- one page more ----

-- whole pages in front of others stay
pub page_front : (xs ys : List ℕ) (page : ℕ) → page_bytes * page + page_bytes ≤ length xs → page_of (xs ++ ys) page ≡ page_of xs page
page_front xs ys page le = ap (take page_bytes) (drop-append-le (page_bytes * page) xs ys (omega (arith, le))) ∙ take-append-le page_bytes (drop (page_bytes * page) xs) ys room
  where
    within : (n k b : ℕ) → k + b ≤ n → b ≤ n - k
    within n k b h = omega (arith, h)

    room : page_bytes ≤ length (drop (page_bytes * page) xs)
    room = subst (λ (n : ℕ). page_bytes ≤ n) (sym (length-drop (page_bytes * page) xs)) (within (length xs) (page_bytes * page) page_bytes le)

-- what comes after whole pages is the next page
pub page_next : (xs ys : List ℕ) (page : ℕ) → length xs ≡ page_bytes * page → length ys ≤ page_bytes → page_of (xs ++ ys) page ≡ ys
page_next xs ys page e le = ap (λ (n : ℕ). take page_bytes (drop n (xs ++ ys))) (sym e) ∙ (ap (take page_bytes) (drop-append_seam xs ys) ∙ take_all page_bytes ys le)

-- ---- pages laid over a content ----

-- where a number stands, or that it stands nowhere
place_found : (first : ℕ) (ps : List ℕ) (page k : ℕ) → place_from first ps page ≡ Some k → (i : ℕ) × (k ≡ first + i) × (i < length ps) × (slice_index ps i ≡ page)
place_found first [] page k e = absurd (none_some k e)
place_found first (p ∷ ps) page k e = over (p == page) refl e (λ q. place_found (suc first) ps page k q)
  where
    start : first ≡ first + 0
    start = omega arith

    here : 0 < suc (length ps)
    here = omega arith

    next : (i : ℕ) → k ≡ suc first + i → k ≡ first + suc i
    next i q = omega (arith, q)

    later : (i : ℕ) → i < length ps → suc i < suc (length ps)
    later i lt = omega (arith, lt)

    over : (b : Bool) → (p == page) ≡ b → cond b (Some first) (place_from (suc first) ps page) ≡ Some k → (place_from (suc first) ps page ≡ Some k → (i : ℕ) × (k ≡ suc first + i) × (i < length ps) × (slice_index ps i ≡ page)) → (i : ℕ) × (k ≡ first + i) × (i < suc (length ps)) × (slice_index (p ∷ ps) i ≡ page)
    over true q e found = (0, sym (some_same first k e) ∙ start, here, equal p page q)
    over false q e found = (let it : (i : ℕ) × (k ≡ suc first + i) × (i < length ps) × (slice_index ps i ≡ page) = found e in (suc it.0, next it.0 it.1, later it.0 it.2, it.3))

place_none : (first : ℕ) (ps : List ℕ) (page : ℕ) → place_from first ps page ≡ None → Among page ps → ⊥
place_none first [] page e m = m
place_none first (p ∷ ps) page e m = over (p == page) refl e m (λ q k. place_none (suc first) ps page q k)
  where
    some_none : (k : ℕ) → ◌≡◌ {A = Option ℕ} (Some k) None → ⊥
    some_none k q = cc

    own : page ≡ p → (p == page) ≡ true
    own q = grind (arith, nat_tests)

    over : (b : Bool) → (p == page) ≡ b → cond b (Some first) (place_from (suc first) ps page) ≡ None → (page ≡ p) ⊎ Among page ps → (place_from (suc first) ps page ≡ None → Among page ps → ⊥) → ⊥
    over true q e m none = some_none first e
    over false q e (inl same) none = true_false (sym (own same) ∙ q)
    over false q e (inr m) none = none e m

-- all pages of a content, one after another, are the content
pages_joined : (content : List ℕ) (page count : ℕ) → length content ≤ page_bytes * (page + count) → flat_map (page_of content) (pages_from page count) ≡ drop (page_bytes * page) content
pages_joined content page zero le = sym (none (drop (page_bytes * page) content) (length-drop (page_bytes * page) content ∙ past))
  where
    past : length content - page_bytes * page ≡ 0
    past = omega (arith, le)

    none : (xs : List ℕ) → length xs ≡ 0 → xs ≡ []
    none [] e = refl
    none (x ∷ xs) e = absurd (more (length xs) e)
      where
        more : (n : ℕ) → suc n ≡ 0 → ⊥
        more n e = omega (arith, e)
pages_joined content page (suc count) le = ap (λ (xs : List ℕ). page_of content page ++ xs) (pages_joined content (page + 1) count (omega (arith, le))) ∙ (ap (λ (xs : List ℕ). page_of content page ++ xs) (ap (λ (n : ℕ). drop n content) next ∙ sym (drop-drop page_bytes (page_bytes * page) content)) ∙ take-append-drop page_bytes (drop (page_bytes * page) content))
  where
    next : page_bytes * (page + 1) ≡ page_bytes * page + page_bytes
    next = omega arith

same_pages : (f g : ℕ → List ℕ) (ps : List ℕ) → Every (λ (page : ℕ). f page ≡ g page) ps → flat_map f ps ≡ flat_map g ps
same_pages f g [] h = refl
same_pages f g (p ∷ ps) h = ap (λ (xs : List ℕ). xs ++ flat_map f ps) h.0 ∙ ap (λ (xs : List ℕ). g p ++ xs) (same_pages f g ps h.1)

every_from : (P : ℕ → Type 0) (first count top : ℕ) → first + count ≤ top → ((page : ℕ) → page < top → P page) → Every P (pages_from first count)
every_from P first zero top le h = tt
every_from P first (suc count) top le h = (h first (omega (arith, le)), every_from P (first + 1) count top (omega (arith, le)) h)

module _ (size : ℕ) (numbers came under content : List ℕ) (sized : length content ≡ size) (pages : (k : ℕ) → k < length numbers → page_of came k ≡ page_of content (slice_index numbers k)) (agree : AgreeBut under content numbers) where
  laid_page : (page : ℕ) → page < pages_of size → page_laid size numbers came under page ≡ page_of content page
  laid_page page inside = over (place_from 0 numbers page) refl
    where
      kept : Among page numbers ⊎ (page_of content page ≡ take (bytes_in (length content) page) (page_of under page)) → (Among page numbers → ⊥) → take (bytes_in size page) (page_of under page) ≡ page_of content page
      kept (inl m) none = absurd (none m)
      kept (inr e) none = ap (λ (n : ℕ). take (bytes_in n page) (page_of under page)) (sym sized) ∙ sym e

      over : (o : Option ℕ) → place_from 0 numbers page ≡ o → page_laid_at size numbers came under page o ≡ page_of content page
      over None e = kept (agree page (subst (λ (n : ℕ). page < pages_of n) (sym sized) inside)) (place_none 0 numbers page e)
      over (Some k) e =
          let it : (i : ℕ) × (k ≡ 0 + i) × (i < length numbers) × (slice_index numbers i ≡ page) = place_found 0 numbers page k e in
          ap (page_of came) (it.1 ∙ first it.0) ∙ (pages it.0 it.2 ∙ ap (page_of content) it.3)
        where
          first : (i : ℕ) → 0 + i ≡ i
          first i = omega arith

  pub laid_is : content_laid size numbers came under ≡ content
  laid_is = same_pages (page_laid size numbers came under) (page_of content) (pages_from 0 (pages_of size)) (every_from (λ (page : ℕ). page_laid size numbers came under page ≡ page_of content page) 0 (pages_of size) (pages_of size) all laid_page)
      ∙ (pages_joined content 0 (pages_of size) whole ∙ ap (λ (n : ℕ). drop n content) none)
    where
      all : 0 + pages_of size ≤ pages_of size
      all = omega arith

      none : page_bytes * 0 ≡ 0
      none = omega arith

      covers : (n : ℕ) → n ≤ page_bytes * (0 + pages_of n)
      covers n = omega arith

      whole : length content ≤ page_bytes * (0 + pages_of size)
      whole = subst (λ (n : ℕ). length content ≤ page_bytes * (0 + pages_of n)) sized (covers (length content))
