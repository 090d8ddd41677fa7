-- What effects do to pages: each page that is another one after an effect is named by it.
use Rattle.std.proofs.Common.{◌≡◌, ◌≤◌, ◌<◌, ℕ, ◌+◌, ◌-◌, ◌*◌, ◌/◌, min, nat_lt, Bool, true, false, not, cond, List, [], ◌++◌, length, take, drop, replicate, Option, None, Some, refl, sym, ◌∙◌, ap, subst, arith}
use Rattle.std.specs.Prelude.{nat_le}
use Rattle.std.specs.Str.{bytes_eq}
use Rattle.std.proofs.lemmas.Bool.Decides.{nat_tests}
use Rattle.std.proofs.lemmas.List.{drop-take, length-drop, length-take, length-take-le, take-append-drop, take-append-le}
use Rattle.std.proofs.lemmas.Slice.Eq.{bytes_eq-Decides}
use Rattle.std.proofs.Common.{append_assoc, length-append}
use Rattle.std.proofs.lemmas.List.{length-replicate}
use Rattle.std.proofs.Math.Seq.{drop-append-add, drop-append_seam}
use Rattle.tree_laws.proofs.of_plain_facts.Options.{some_same}
use Rattle.tree_laws.proofs.of_plain_facts.Tests.{true_false}
use Rattle.locus_ids.specs.declared.refusal.Refusal.TheVariants as refusal
use Rattle.locus_ids.specs.Sizes.{file_bytes_max, directory_bytes_max, page_bytes}
use Rattle.trace_book.specs.declared.operation.Op.{Op}
use Rattle.trace_book.specs.declared.operation.Op.TheVariants as op
use Rattle.trace_book.specs.declared.operation.Outcome.{Outcome}
use Rattle.trace_book.specs.declared.operation.Outcome.TheVariants as outcome
use Rattle.dir_format.specs.Contents.{entries_of, is_dir}
use Rattle.dir_format.specs.Grammar.{dir_bytes}
use Rattle.dir_format.specs.Effects.{DirEffect, dir_effect}
use Rattle.file_content.specs.Pages.{has_page, is_replaced, page_of, pages_from, pages_of, pages_replaced, pages_within, pages_written}
use Rattle.file_effects.specs.Effects.{As, Deed, Effect, Mends, Removes, cuts, directory_left, effect, in_directory, is_worded, mends, on_directory, puts, tells, writes}
use Rattle.file_effects.specs.Works.{changed_after}
use Rattle.operation_effects.specs.Settling.{AreBounded, IsBounded}
use Rattle.operation_effects.proofs.Bounded.{bounded_empty, bounded_find, bounded_insert, bounded_probe, bounded_remove, bounded_rename}
use Rattle.stored_versions.specs.Changes.{IsKept}
use Rattle.store_laws.specs.Works.Working.{AreBelow, ChangesPages, FitsOver}
use Rattle.store_laws.proofs.Works.PageLists.{all_below, all_lack, all_once, cut_kept, drop_more, filter_below, filter_once, from_below, has_in, kept_same, kept_there, kept_through, passed_over, take_less, within_below, within_lacks}

-- ---- over the version ----

-- after an effect a working content is over the version as it was
pub changed_fits : (base content changed : List ℕ) (e : Effect) → FitsOver base content changed → ChangesPages content e → FitsOver base e.content (changed_after e changed)
changed_fits base content changed e fits made = record {
  size = made.size;
  below = all_below (pages_of (length e.content)) e.pages (pages_within (length e.content) changed) made.below (within_below (length e.content) changed);
  once = all_once e.pages (pages_within (length e.content) changed) (filter_once (λ (p : ℕ). nat_lt (page_bytes * p) (length e.content)) changed fits.once);
  kept = λ page inside lacks. still page inside (all_lack e.pages (pages_within (length e.content) changed) page lacks);
}
  where
    still : (page : ℕ) → page < pages_of (length e.content) → (has_page e.pages page ≡ false) × (has_page (pages_within (length e.content) changed) page ≡ false) → IsKept base e.content page
    still page inside lacks =
        let by : IsKept content e.content page = made.kept page inside lacks.0 in
        kept_through base content e.content page (fits.kept page (kept_there content e.content page inside by) (within_lacks (length e.content) changed page inside lacks.1)) by

pub begins_fit : (content : List ℕ) → length content ≤ file_bytes_max → FitsOver content content []
begins_fit content small = record { size = small; below = tt; once = tt; kept = λ page inside lacks. kept_same content content page refl }

-- ---- effects ----

module _ (content : List ℕ) (small : length content ≤ file_bytes_max) where
  tells_so : (r : Outcome) → ChangesPages content (tells content r)
  tells_so r = record { size = small; below = tt; kept = λ page inside lacks. kept_same content content page refl }

  -- what is replaced is named
  replaced_below : (new : List ℕ) → AreBelow (pages_of (length new)) (pages_replaced content new)
  replaced_below new = filter_below (pages_of (length new)) (is_replaced content new) (pages_from 0 (pages_of (length new))) (from_below 0 (pages_of (length new)) (pages_of (length new)) (omega arith))

  replaced_kept : (new : List ℕ) (page : ℕ) → page < pages_of (length new) → has_page (pages_replaced content new) page ≡ false → IsKept content new page
  replaced_kept new page inside lacks = kept_same content new page (sym (same (bytes_eq (page_of new page) (page_of content page)) refl
      (passed_over (is_replaced content new) (pages_from 0 (pages_of (length new))) page (has_in 0 (pages_of (length new)) page (omega arith) (omega (arith, inside))) lacks)))
    where
      same : (b : Bool) → bytes_eq (page_of new page) (page_of content page) ≡ b → not b ≡ false → page_of new page ≡ page_of content page
      same true e k = (bytes_eq-Decides (page_of new page) (page_of content page)).0 e
      same false e k = absurd (true_false k)

  puts_so : (new : List ℕ) (counts : Bool) → ChangesPages content (puts content new counts)
  puts_so new counts = over (nat_lt directory_bytes_max (length new)) refl
    where
      short : nat_lt directory_bytes_max (length new) ≡ false → length new ≤ file_bytes_max
      short e = grind (arith, nat_tests)

      over : (b : Bool) → nat_lt directory_bytes_max (length new) ≡ b → ChangesPages content (cond b (tells content (outcome.No refusal.TooLong)) (record { result = outcome.Done; content = new; pages = pages_replaced content new; counts = counts; spent = false }))
      over true e = tells_so (outcome.No refusal.TooLong)
      over false e = record { size = short e; below = replaced_below new; kept = replaced_kept new }

  directory_so : (d : DirEffect) → IsBounded d → ChangesPages content (on_directory content d)
  directory_so d bounded = record { size = over d.counts refl; below = replaced_below (directory_left content d); kept = replaced_kept (directory_left content d) }
    where
      over : (b : Bool) → d.counts ≡ b → length (cond b (dir_bytes d.entries) content) ≤ file_bytes_max
      over true e = bounded e
      over false e = small

  in_directory_so : (o : Option DirEffect) → AreBounded o → (e : Effect) → in_directory content o ≡ Some e → ChangesPages content e
  in_directory_so None bounded e k = absurd (none_some k)
    where
      none_some : ◌≡◌ {A = Option Effect} None (Some e) → ⊥
      none_some k = cc
  in_directory_so (Some d) bounded e k = over (is_dir d.entries) k
    where
      none_some : ◌≡◌ {A = Option Effect} None (Some e) → ⊥
      none_some k = cc

      over : (b : Bool) → cond b (Some (on_directory content d)) None ≡ Some e → ChangesPages content e
      over true k = subst (ChangesPages content) (some_same (on_directory content d) e k) (directory_so d bounded)
      over false k = absurd (none_some k)

  cuts_so : (len : ℕ) → ChangesPages content (cuts content len)
  cuts_so len = record { size = less; below = tt; kept = λ page inside lacks. cut_kept content len page }
    where
      less : length (take len content) ≤ file_bytes_max
      less = (let e : length (take len content) ≡ min len (length content) = length-take len content in omega (arith, e, small))

  -- ---- a write ----

  module _ (at : ℕ) (bytes : List ℕ) (fits : at + length bytes ≤ file_bytes_max) where
    abbrev end : ℕ
    end = at + length bytes

    abbrev first : ℕ
    first = min at (length content)

    abbrev filled : List ℕ
    filled = content ++ replicate (at - length content) 0

    abbrev new : List ℕ
    new = take at filled ++ (bytes ++ drop end content)

    filled_long : at ≤ length filled
    filled_long = (let zeros : List ℕ = replicate (at - length content) 0 in
        let a : length filled ≡ length content + length zeros = length-append content zeros in
        let b : length zeros ≡ at - length content = length-replicate (at - length content) 0 in
        omega (arith, a, b))

    front_is : length (take at filled) ≡ at
    front_is = length-take-le at filled filled_long

    length_is : length new ≡ at + (length bytes + (length content - end))
    length_is =
        let a : length new ≡ length (take at filled) + length (bytes ++ drop end content) = length-append (take at filled) (bytes ++ drop end content) in
        let b : length (bytes ++ drop end content) ≡ length bytes + length (drop end content) = length-append bytes (drop end content) in
        let d : length (drop end content) ≡ length content - end = length-drop end content in
        omega (arith, a, b, d, front_is)

    size_is : length new ≤ file_bytes_max
    size_is = omega (arith, length_is, small, fits)

    end_inside : end ≤ length new
    end_inside = omega (arith, length_is)

    -- before the first byte that is written, and behind the last, the content is what it was
    front_same : take first new ≡ take first content
    front_same = take-append-le first (take at filled) (bytes ++ drop end content) before
        ∙ (take_less first at filled low ∙ take-append-le first content (replicate (at - length content) 0) short)
      where
        low : first ≤ at
        low = omega arith

        short : first ≤ length content
        short = omega arith

        before : first ≤ length (take at filled)
        before = omega (arith, front_is)

    rest_same : drop end new ≡ drop end content
    rest_same = ap (λ (n : ℕ). drop (n + length bytes) new) (sym front_is) ∙ (drop-append-add (take at filled) (bytes ++ drop end content) (length bytes) ∙ drop-append_seam bytes (drop end content))

    page_before : (page : ℕ) → page_bytes * page + page_bytes ≤ first → page_of content page ≡ page_of new page
    page_before page le = side content ∙ (ap (λ (xs : List ℕ). drop (page_bytes * page) (take (page_bytes * page + page_bytes) xs)) (sym front_same) ∙ sym (side new))
      where
        side : (xs : List ℕ) → take page_bytes (drop (page_bytes * page) xs) ≡ drop (page_bytes * page) (take (page_bytes * page + page_bytes) (take first xs))
        side xs = sym (drop-take (page_bytes * page) page_bytes xs) ∙ ap (drop (page_bytes * page)) (sym (take_less (page_bytes * page + page_bytes) first xs le))

    page_behind : (page : ℕ) → end ≤ page_bytes * page → page_of content page ≡ page_of new page
    page_behind page le = ap (take page_bytes) (side content ∙ (ap (drop (page_bytes * page - end)) (sym rest_same) ∙ sym (side new)))
      where
        far : page_bytes * page ≡ end + (page_bytes * page - end)
        far = omega (arith, le)

        side : (xs : List ℕ) → drop (page_bytes * page) xs ≡ drop (page_bytes * page - end) (drop end xs)
        side xs = ap (λ (n : ℕ). drop n xs) far ∙ drop_more end (page_bytes * page - end) xs

    -- where nothing is written the content is what it was
    nothing : end ≤ first → content ≡ new
    nothing le = sym (take-append-drop end content) ∙ (ap (λ (xs : List ℕ). xs ++ drop end content) (front content new front_same) ∙ (ap (λ (xs : List ℕ). take end new ++ xs) (sym rest_same) ∙ take-append-drop end new))
      where
        front : (xs ys : List ℕ) → take first ys ≡ take first xs → take end xs ≡ take end ys
        front xs ys e = sym (take_less end first xs le) ∙ (ap (take end) (sym e) ∙ take_less end first ys le)

    between_below : (b : Bool) → AreBelow (pages_of (length new)) (cond b (pages_from (first / page_bytes) (pages_of end - first / page_bytes)) [])
    between_below true = from_below (first / page_bytes) (pages_of end - first / page_bytes) (pages_of (length new)) (top first end (length new) low end_inside)
      where
        low : first ≤ end
        low = omega arith

        top : (a e n : ℕ) → a ≤ e → e ≤ n → a / page_bytes + ((e + (page_bytes - 1)) / page_bytes - a / page_bytes) ≤ (n + (page_bytes - 1)) / page_bytes
        top a e n p q = omega (arith, p, q)
    between_below false = tt

    between_kept : (b : Bool) → nat_lt first end ≡ b → (page : ℕ) → has_page (cond b (pages_from (first / page_bytes) (pages_of end - first / page_bytes)) []) page ≡ false → IsKept content new page
    between_kept false e page lacks = kept_same content new page (ap (λ (xs : List ℕ). page_of xs page) (nothing (before e)))
      where
        before : nat_lt first end ≡ false → end ≤ first
        before e = grind (arith, nat_tests)
    between_kept true e page lacks = kept_same content new page (low (nat_lt page (first / page_bytes)) refl)
      where
        inside : nat_lt page (first / page_bytes) ≡ true → page_bytes * page + page_bytes ≤ first
        inside k = (let h : page < first / page_bytes = grind (arith, nat_tests) in omega (arith, h))

        from : nat_lt page (first / page_bytes) ≡ false → first / page_bytes ≤ page
        from k = grind (arith, nat_tests)

        up : nat_lt page (pages_of end) ≡ true → page < pages_of end
        up k = grind (arith, nat_tests)

        past : nat_lt page (pages_of end) ≡ false → end ≤ page_bytes * page
        past k = (let h : pages_of end ≤ page = grind (arith, nat_tests) in over end page h)
          where
            over : (e p : ℕ) → (e + (page_bytes - 1)) / page_bytes ≤ p → e ≤ page_bytes * p
            over e p h = omega (arith, h)

        count : first / page_bytes ≤ page → page < pages_of end → page < first / page_bytes + (pages_of end - first / page_bytes)
        count a b = plain (first / page_bytes) (pages_of end) a b
          where
            plain : (f t : ℕ) → f ≤ page → page < t → page < f + (t - f)
            plain f t a b = omega (arith, a, b)

        high : first / page_bytes ≤ page → (b : Bool) → nat_lt page (pages_of end) ≡ b → page_of content page ≡ page_of new page
        high le true k = absurd (true_false (sym (has_in (first / page_bytes) (pages_of end - first / page_bytes) page le (count le (up k))) ∙ lacks))
        high le false k = page_behind page (past k)

        low : (b : Bool) → nat_lt page (first / page_bytes) ≡ b → page_of content page ≡ page_of new page
        low true k = page_before page (inside k)
        low false k = high (from k) (nat_lt page (pages_of end)) refl

    writes_so : ChangesPages content (writes content at bytes)
    writes_so = subst (λ (xs : List ℕ). ChangesPages content (record { result = outcome.Done; content = xs; pages = pages_written content at bytes; counts = true; spent = false })) (sym (append_assoc (take at filled) bytes (drop end content)))
        (record { size = size_is; below = between_below (nat_lt first end); kept = λ page inside lacks. between_kept (nat_lt first end) refl page lacks })

  -- ---- all ----

  told_so : (r : Outcome) (e : Effect) → ◌≡◌ {A = Option Effect} (Some (tells content r)) (Some e) → ChangesPages content e
  told_so r e k = subst (ChangesPages content) (some_same (tells content r) e k) (tells_so r)

  worded_so : (o : Op) → AreBounded (dir_effect o [] (entries_of content)) → (e : Effect) → cond (is_worded o) (in_directory content (dir_effect o [] (entries_of content))) None ≡ Some e → ChangesPages content e
  worded_so o bounded e k = over (is_worded o) k
    where
      none_some : ◌≡◌ {A = Option Effect} None (Some e) → ⊥
      none_some k = cc

      over : (b : Bool) → cond b (in_directory content (dir_effect o [] (entries_of content))) None ≡ Some e → ChangesPages content e
      over true k = in_directory_so (dir_effect o [] (entries_of content)) bounded e k
      over false k = absurd (none_some k)

  none_is : (e : Effect) → ◌≡◌ {A = Option Effect} None (Some e) → ChangesPages content e
  none_is e k = absurd (never k)
    where
      never : ◌≡◌ {A = Option Effect} None (Some e) → ⊥
      never k = cc

  pub effect_so : (d : Deed) (e : Effect) → effect d content ≡ Some e → ChangesPages content e
  effect_so (As (op.Read at len)) e k = told_so _ e k
  effect_so (As (op.Write at bytes)) e k = over (nat_le (at + length bytes) file_bytes_max) refl k
    where
      inside : nat_le (at + length bytes) file_bytes_max ≡ true → at + length bytes ≤ file_bytes_max
      inside e = grind (arith, nat_tests)

      over : (b : Bool) → nat_le (at + length bytes) file_bytes_max ≡ b → cond b (Some (writes content at bytes)) None ≡ Some e → ChangesPages content e
      over true q k = subst (ChangesPages content) (some_same (writes content at bytes) e k) (writes_so at bytes (inside q))
      over false q k = none_is e k
  effect_so (As (op.Cut len)) e k = subst (ChangesPages content) (some_same (cuts content len) e k) (cuts_so len)
  effect_so (As (op.Remove name ino)) e k = none_is e k
  effect_so (As op.Mend) e k = none_is e k
  effect_so (As op.Commit) e k = none_is e k
  effect_so (As op.Abort) e k = none_is e k
  effect_so (As (op.Probe name)) e k = worded_so (op.Probe name) (bounded_probe name (entries_of content)) e k
  effect_so (As (op.Find component)) e k = worded_so (op.Find component) (bounded_find component (entries_of content)) e k
  effect_so (As (op.Insert name ino kind)) e k = worded_so (op.Insert name ino kind) (bounded_insert name ino kind (entries_of content)) e k
  effect_so (As (op.Rename component name)) e k = worded_so (op.Rename component name) (bounded_rename component name (entries_of content)) e k
  effect_so (As op.Empty) e k = worded_so op.Empty (bounded_empty (entries_of content)) e k
  effect_so (Removes name ino seen) e k = in_directory_so (dir_effect (op.Remove name ino) seen (entries_of content)) (bounded_remove name ino seen (entries_of content)) e k
  effect_so (Mends several joined) e k = subst (ChangesPages content) (some_same (mends content several joined) e k) (puts_so joined _)
