-- Where all pages of a version came, they make it, whatever they are laid over.
use Rattle.std.proofs.Common.{◌≡◌, ⊎_elim, ℕ, ◌+◌, ◌-◌, ◌*◌, ◌/◌, ◌%◌, ◌≤◌, ◌<◌, true, false, List, length, take, drop, get_or, Option, None, Some, refl, sym, ap, ◌∙◌, arith, length-take}
use Rattle.std.proofs.lemmas.Bool.{false≢true, cases_lt}
use Rattle.std.proofs.lemmas.List.{same_lists, get_or_default, get_or-take, get_or-drop}
use Rattle.locus_ids.specs.Sizes.{page_bytes}
use Rattle.file_content.specs.Pages.{pages_of, has_page}
use Rattle.role_steps.specs.Pulling.{bytes_in}
use Rattle.role_steps.specs.Adoption.{place_from as place_at, page_laid_at, content_laid}
use Rattle.page_marks.specs.Laying.{AreRising, ArePagesOf}
use Rattle.page_marks.proofs.Rising.{all_from}
use Rattle.page_marks.proofs.Marks.{has_at}
use Rattle.site_packs.proofs.Laid.{stands_at, lacks, laid_long, laid_byte}

module _ (size : ℕ) (numbers came : List ℕ) (rising : AreRising (pages_of size) numbers) (pages : ArePagesOf size numbers came) (all : length numbers ≡ pages_of size) where
  own_at : (i : ℕ) → i < pages_of size → get_or numbers i 0 ≡ i
  own_at i lt = let e = all_from 0 (pages_of size) numbers i rising.ascend rising.inside (omega arith) (omega arith) in omega arith

  -- all bytes of the version came
  pub whole_bytes : size ≤ length came
  whole_bytes = ⊎_elim
      (λ (some : 0 < size).
      let last = pages_of size - 1 in
      let inside : last < pages_of size = omega arith in
      let own = own_at last inside in
      let many : bytes_in (length came) last ≡ bytes_in size last = pages last (omega arith) ∙ ap (λ (n : ℕ). bytes_in size n) own in
      omega arith)
      (λ (none : size ≤ 0). omega arith)
      (cases_lt 0 size)

  has_all : (page : ℕ) → page < pages_of size → has_page numbers page ≡ true
  has_all page lt = ap (λ (n : ℕ). has_page numbers n) (sym (own_at page lt)) ∙ has_at numbers page (omega arith)

  here_by : (page : ℕ) → page < pages_of size → (o : Option ℕ) → place_at 0 numbers page ≡ o → o ≡ Some page
  here_by page lt None is = absurd (false≢true (sym (lacks numbers page is) ∙ has_all page lt))
  here_by page lt (Some k) is =
      let at = stands_at 0 numbers page k is in
      let high = at.1 in
      let none : k - 0 ≡ k = omega arith in
      let own = own_at k (omega arith) in
      let same : get_or numbers k 0 ≡ page = ap (λ (j : ℕ). get_or numbers j 0) (sym none) ∙ at.2 in
      ap (λ (n : ℕ). Some n) (sym own ∙ same)

  -- so they make the version, whatever they are laid over
  pub all_laid : (under : List ℕ) → content_laid size numbers came under ≡ take size came
  all_laid under =
      let kept : (page : ℕ) → page < pages_of size → has_page numbers page ≡ false → bytes_in size page ≤ bytes_in (length under) page = (λ page lt none. absurd (false≢true (sym none ∙ has_all page lt))) in
      let long = laid_long size numbers came under pages kept in
      let fits = whole_bytes in
      same_lists (content_laid size numbers came under) (take size came) (omega (arith, long, fits, length-take size came)) (λ k d lt.
      let less : k < size = omega (arith, long) in
      let i = k / page_bytes in
      let r = k % page_bytes in
      let parts : page_bytes * (k / page_bytes) + k % page_bytes ≡ k = omega arith in
      get_or_default (content_laid size numbers came under) k d 0 lt
      ∙ laid_byte size numbers came under pages kept k less
      ∙ ap (λ (o : Option ℕ). get_or (page_laid_at size numbers came under i o) r 0) (here_by i (omega arith) (place_at 0 numbers i) refl)
      ∙ get_or-take page_bytes (drop (page_bytes * i) came) r 0 (omega arith) ∙ get_or-drop (page_bytes * i) came r 0
      ∙ ap (λ (m : ℕ). get_or came m 0) parts
      ∙ sym (get_or-take size came k 0 less)
      ∙ get_or_default (take size came) k 0 d (omega (arith, fits, length-take size came)))
