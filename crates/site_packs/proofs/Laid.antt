-- Pages that came, laid over the copy so far: what the pack makes of them is the content of the version.
use Rattle.std.proofs.Common.{◌≡◌, ⊎_elim, ℕ, zero, suc, ◌+◌, ◌-◌, ◌*◌, ◌/◌, ◌%◌, ◌≤◌, ◌<◌, ◌==◌, Bool, true, false, cond, List, [], ◌∷◌, length, drop, get_or, Option, None, Some, refl, sym, ap, subst, ◌∙◌, arith, length-append, length-take, length-drop}
use Rattle.std.specs.Prelude.{◌||◌, is_some, slice_get}
use Rattle.std.specs.Option.{option_map}
use Rattle.std.specs.List.{flat_map}
use Rattle.std.proofs.lemmas.Bool.{lt-ltb, false≢true, eqb-true, cases_lt}
use Rattle.std.proofs.lemmas.List.{same_lists, get_or_default, get_or-take, get_or-drop, get_or_append_left, get_or-append_right}
use Rattle.locus_ids.specs.Sizes.{page_bytes}
use Rattle.locus_ids.specs.declared.ids.FileId.{FileId}
use Rattle.file_content.specs.Pages.{pages_of, page_of, pages_from, has_page}
use Rattle.inode_pack.specs.of_shadow_pages.Working.{byte_in, byte_at, content, page_at as shadow_page}
use Rattle.inode_pack.proofs.of_shadow_pages.Bytes.{length_below, below_at}
use Rattle.inode_pack.specs.of_new_contents.declared.laid_pages.LaidPages.{LaidPages}
use Rattle.inode_pack.specs.of_new_contents.Whole.{full_page}
use Rattle.inode_pack.specs.of_new_contents.Laid.{place_from, laid, working_of}
use Rattle.inode_pack.proofs.of_new_contents.Whole.{page_byte}
use Rattle.inode_pack.proofs.of_new_contents.Laid.{page_here}
use Rattle.inode_pack.specs.Committing.{size_of, content_of as content_in}
use Rattle.inode_pack.specs.Pack.{PackState}
use Rattle.pack_slots.specs.of_inode_switch.View.{view}
use Rattle.pack_slots.specs.Copies.{copy_of}
use Rattle.pack_layout.specs.of_stored_versions.declared.new_version.NewVersion.{NewVersion}
use Rattle.role_steps.specs.Pulling.{bytes_in}
use Rattle.role_steps.specs.Adoption.{place_from as place_at, page_laid_at, page_laid, content_laid}
use Rattle.role_steps.specs.Storage.{content_of}
use Rattle.page_marks.specs.Laying.{ArePagesOf}
use Rattle.site_packs.specs.Laying.{IsLaidFit, content_over}
use Rattle.site_packs.specs.Marking.{FillsAt}
use Rattle.site_packs.specs.Packs.{PacksState, ArePacks, AreShown, pack_in, copy_at}
use Rattle.site_packs.proofs.Behind.{some_at}
use Rattle.site_packs.proofs.Contents.{content_at}
use Rattle.site_packs.proofs.Fills.{size_by}
use Rattle.site_packs.proofs.Reports.{found_pack}

-- ---- a content page by page ----

module _ (size : ℕ) (f : ℕ → List ℕ) (long : (page : ℕ) → page < pages_of size → length (f page) ≡ bytes_in size page) where
  long_from : (n a : ℕ) → a + n ≡ pages_of size → length (flat_map f (pages_from a n)) ≡ size - page_bytes * a
  long_from zero a all = omega arith
  long_from (suc n) a all =
      let rest = long_from n (a + 1) (omega arith) in
      let one = long a (omega arith) in
      let both = length-append (f a) (flat_map f (pages_from (a + 1) n)) in
      omega arith

  byte_from : (n a k : ℕ) → a + n ≡ pages_of size → page_bytes * a ≤ k → k < size → get_or (flat_map f (pages_from a n)) (k - page_bytes * a) 0 ≡ get_or (f (k / page_bytes)) (k % page_bytes) 0
  byte_from zero a k all low high = absurd (omega arith)
  byte_from (suc n) a k all low high =
      let one = long a (omega arith) in
      let rest = flat_map f (pages_from (a + 1) n) in
      ⊎_elim
      (λ (here : k < page_bytes * (a + 1)).
      let page : a ≡ k / page_bytes = omega arith in
      let byte : k - page_bytes * a ≡ k % page_bytes = omega arith in
      get_or_append_left (f a) rest 0 (k - page_bytes * a) (omega arith) ∙ (λ i. get_or (f (page i)) (byte i) 0))
      (λ (behind : page_bytes * (a + 1) ≤ k).
      let full : length (f a) ≡ page_bytes = omega arith in
      let left : k - page_bytes * a - page_bytes ≡ k - page_bytes * (a + 1) = omega arith in
      get_or-append_right (f a) rest page_bytes (k - page_bytes * a) 0 full (omega arith) ∙ ap (λ (j : ℕ). get_or rest j 0) left ∙ byte_from n (a + 1) k (omega arith) behind high)
      (cases_lt k (page_bytes * (a + 1)))

  pages_long : length (flat_map f (pages_from 0 (pages_of size))) ≡ size
  pages_long = let e = long_from (pages_of size) 0 (omega arith) in omega arith

  pages_byte : (k : ℕ) → k < size → get_or (flat_map f (pages_from 0 (pages_of size))) k 0 ≡ get_or (f (k / page_bytes)) (k % page_bytes) 0
  pages_byte k lt = let e : k ≡ k - page_bytes * 0 = omega arith in ap (λ (j : ℕ). get_or (flat_map f (pages_from 0 (pages_of size))) j 0) e ∙ byte_from (pages_of size) 0 k (omega arith) (omega arith) lt

-- ---- at which place a page stands ----

same_place : (k : ℕ) (numbers : List ℕ) (page : ℕ) → place_from k numbers page ≡ place_at k numbers page
same_place k [] page = refl
same_place k (number ∷ numbers) page = ap (λ (o : Option ℕ). cond (number == page) (Some k) o) (same_place (suc k) numbers page)

pub come_has : (k : ℕ) (numbers : List ℕ) (page : ℕ) → is_some (place_from k numbers page) ≡ has_page numbers page
come_has k [] page = refl
come_has k (number ∷ numbers) page = by_test (number == page) (place_from (suc k) numbers page) (has_page numbers page) (come_has (suc k) numbers page)
  where
    by_test : (b : Bool) (rest : Option ℕ) (has : Bool) → is_some rest ≡ has → is_some (cond b (Some k) rest) ≡ (b || has)
    by_test true rest has e = refl
    by_test false rest has e = e

-- one without a place isn't among them
pub lacks : (numbers : List ℕ) (page : ℕ) → place_at 0 numbers page ≡ None → has_page numbers page ≡ false
lacks numbers page none = sym (come_has 0 numbers page) ∙ ap (λ (o : Option ℕ). is_some o) (same_place 0 numbers page ∙ none)

-- the page stands there
pub stands_at : (k : ℕ) (numbers : List ℕ) (page place : ℕ) → place_at k numbers page ≡ Some place → (k ≤ place) × (place < k + length numbers) × (get_or numbers (place - k) 0 ≡ page)
stands_at k [] page place is = absurd (let e : None ≡ Some place = is in cc)
stands_at k (number ∷ numbers) page place is = (elim (number == page) as (λ b. (number == page) ≡ b → cond b (Some k) (place_at (suc k) numbers page) ≡ Some place → (k ≤ place) × (place < k + length (number ∷ numbers)) × (get_or (number ∷ numbers) (place - k) 0 ≡ page)) [
  | true ↦ λ e here.
      let at : k ≡ place = cc in
      let none : place - k ≡ 0 = omega arith in
      (omega arith, omega arith, ap (λ (j : ℕ). get_or (number ∷ numbers) j 0) none ∙ eqb-true number page e)
  | false ↦ λ e there.
      let rest = stands_at (suc k) numbers page place there in
      let low = rest.0 in
      let high = rest.1 in
      let one : place - k ≡ suc (place - suc k) = omega arith in
      (omega arith, omega arith, ap (λ (j : ℕ). get_or (number ∷ numbers) j 0) one ∙ rest.2)
]) refl is

-- ---- the content that they make ----

module _ (size : ℕ) (numbers came under : List ℕ) (pages : ArePagesOf size numbers came) (kept : (page : ℕ) → page < pages_of size → has_page numbers page ≡ false → bytes_in size page ≤ bytes_in (length under) page) where
  missing : (page : ℕ) → page < pages_of size → place_at 0 numbers page ≡ None → bytes_in size page ≤ bytes_in (length under) page
  missing page lt none = kept page lt (lacks numbers page none)

  long_by : (page : ℕ) → page < pages_of size → (o : Option ℕ) → place_at 0 numbers page ≡ o → length (page_laid_at size numbers came under page o) ≡ bytes_in size page
  long_by page lt (Some k) is =
      let at = stands_at 0 numbers page k is in
      let high = at.1 in
      let none : k - 0 ≡ k = omega arith in
      let own : get_or numbers k 0 ≡ page = ap (λ (j : ℕ). get_or numbers j 0) (sym none) ∙ at.2 in
      let many : bytes_in (length came) k ≡ bytes_in size page = pages k (omega arith) ∙ ap (λ (n : ℕ). bytes_in size n) own in
      omega (arith, many, length-take page_bytes (drop (page_bytes * k) came), length-drop (page_bytes * k) came)
  long_by page lt None is =
      let fits = missing page lt is in
      omega (arith, fits, length-take (bytes_in size page) (page_of under page), length-take page_bytes (drop (page_bytes * page) under), length-drop (page_bytes * page) under)

  long_laid : (page : ℕ) → page < pages_of size → length (page_laid size numbers came under page) ≡ bytes_in size page
  long_laid page lt = long_by page lt (place_at 0 numbers page) refl

  pub laid_long : length (content_laid size numbers came under) ≡ size
  laid_long = pages_long size (page_laid size numbers came under) long_laid

  pub laid_byte : (k : ℕ) → k < size → get_or (content_laid size numbers came under) k 0 ≡ get_or (page_laid size numbers came under (k / page_bytes)) (k % page_bytes) 0
  laid_byte k lt = pages_byte size (page_laid size numbers came under) long_laid k lt

  byte_by : (page r : ℕ) → r < bytes_in size page → (o : Option ℕ) → byte_in (option_map (full_page came) o) r (get_or under (page_bytes * page + r) 0) ≡ get_or (page_laid_at size numbers came under page o) r 0
  byte_by page r lt (Some k) = page_byte came k r (omega arith) ∙ sym (get_or-take page_bytes (drop (page_bytes * k) came) r 0 (omega arith) ∙ get_or-drop (page_bytes * k) came r 0)
  byte_by page r lt None = sym (get_or-take (bytes_in size page) (page_of under page) r 0 lt ∙ get_or-take page_bytes (drop (page_bytes * page) under) r 0 (omega arith) ∙ get_or-drop (page_bytes * page) under r 0)

  -- laid over the content by the pack they make the same
  pub laid_is : content under (laid size numbers came) ≡ content_laid size numbers came under
  laid_is =
      let w = laid size numbers came in
      let long = length_below (byte_at under w) size in
      same_lists (content under w) (content_laid size numbers came under) (long ∙ sym laid_long) (λ k d lt.
      let less : k < size = omega (arith, long) in
      let i = k / page_bytes in
      let r = k % page_bytes in
      let parts : page_bytes * (k / page_bytes) + k % page_bytes ≡ k = omega arith in
      get_or_default (content under w) k d 0 lt
      ∙ below_at (byte_at under w) size k ∙ ap (λ (b : Bool). cond b (byte_at under w k) 0) (lt-ltb k size less)
      ∙ ap (λ (o : Option (List ℕ)). byte_in o r (get_or under k 0)) (page_here size numbers came i (omega arith))
      ∙ ap (λ (o : Option ℕ). byte_in (option_map (full_page came) o) r (get_or under k 0)) (same_place 0 numbers i)
      ∙ ap (λ (m : ℕ). byte_in (option_map (full_page came) (place_at 0 numbers i)) r (get_or under m 0)) (sym parts)
      ∙ byte_by i r (omega arith) (place_at 0 numbers i)
      ∙ sym (laid_byte k less)
      ∙ get_or_default (content_laid size numbers came under) k 0 d (omega (arith, laid_long)))

  -- a byte that none of them has is one of the content so far
  pub rests_under : (k : ℕ) → k < size → shadow_page (laid size numbers came).pages (k / page_bytes) ≡ None → k < length under
  rests_under k lt none =
      let i = k / page_bytes in
      let absent : place_at 0 numbers i ≡ None = not_some (place_at 0 numbers i) (ap (λ (o : Option ℕ). option_map (full_page came) o) (sym (same_place 0 numbers i)) ∙ sym (page_here size numbers came i (omega arith)) ∙ none) in
      let fits = missing i (omega arith) absent in
      omega arith
    where
      not_some : (o : Option ℕ) → option_map (full_page came) o ≡ None → o ≡ None
      not_some None e = refl
      not_some (Some k) e = absurd (let f : Some (full_page came k) ≡ None = e in cc)

-- ---- in the pack of the group ----

fills_by : (p : PacksState) (image : List ℕ) (file : FileId) (given : NewVersion) (came : LaidPages) (o : Option PackState) → ArePacks 0 0 p.site p.packs → AreShown p.packs image → pack_in file.group p.packs ≡ o → is_some o ≡ true → IsLaidFit p image file given came
    → FillsAt o file.ino (content_over p image file came) (working_of came) image
fills_by p image file given came None are shown is some fit = absurd (false≢true some)
fills_by p image file given came (Some pack) are shown is some fit =
    let f = found_pack p.site file.group p.packs image pack are shown is in
    let low = fit.whole.low in
    let high = fit.whole.high in
    let under = content_of (copy_at p image file) in
    let own : under ≡ content_in (view image pack.base file.ino) = content_at p image file are shown (omega arith) pack is low high in
    let size : size_of (copy_of pack.copies file.ino) ≡ length under = size_by pack file.ino image (copy_of pack.copies file.ino) f.here.copies f.shows low high refl ∙ sym (ap (λ (l : List ℕ). length l) own) in
    record {
      rests = λ k lt none. let within = rests_under came.size came.numbers.now came.bytes.now under fit.laid.bytes fit.laid.kept k lt none in omega arith;
      is = ap (λ (l : List ℕ). content l (working_of came)) (sym own) ∙ laid_is came.size came.numbers.now came.bytes.now under fit.laid.bytes fit.laid.kept;
    }

pub laid_fills : (p : PacksState) (image : List ℕ) (file : FileId) (given : NewVersion) (came : LaidPages) (at ino : ℕ) → ArePacks 0 0 p.site p.packs → AreShown p.packs image → at < length p.packs → slice_get p.packs at ≡ pack_in file.group p.packs → ino ≡ file.ino → IsLaidFit p image file given came
    → FillsAt (pack_in file.group p.packs) ino (content_over p image file came) (working_of came) image
laid_fills p image file given came at ino are shown inside place own fit =
    subst (λ (n : ℕ). FillsAt (pack_in file.group p.packs) n (content_over p image file came) (working_of came) image) (sym own)
    (fills_by p image file given came (pack_in file.group p.packs) are shown refl (sym (ap (λ (o : Option PackState). is_some o) place) ∙ some_at p.packs at inside) fit)
