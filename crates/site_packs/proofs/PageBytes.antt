-- The bytes that a page of a content begins with.
use Rattle.std.proofs.Common.{◌≡◌, ℕ, ◌+◌, ◌-◌, ◌*◌, ◌≤◌, ◌<◌, List, [], ◌∷◌, ◌++◌, length, take, drop, refl, sym, ap, ◌∙◌, arith, length-take, length-drop}
use Rattle.std.specs.Prelude.{min}
use Rattle.std.proofs.lemmas.List.{same_lists, get_or_default, get_or-take, get_or-drop, take-take, drop-take, take-append-drop}
use Rattle.locus_ids.specs.Sizes.{page_bytes}
use Rattle.file_content.specs.Pages.{page_of}
use Rattle.pack_slots.specs.of_inode_switch.View.{view}
use Rattle.inode_pack.specs.Pack.{PackState, IsPageOf}
use Rattle.inode_pack.specs.Committing.{content_of}
use Rattle.site_packs.specs.Reading.{HasContent}

-- so many bytes of a page that was read
pub page_part : (content buf : List ℕ) (page len : ℕ) → IsPageOf content page buf → page_bytes * page + len ≤ length content → len ≤ page_bytes → length buf ≡ page_bytes → take len buf ≡ take len (drop (page_bytes * page) content)
page_part content buf page len is inside few long =
    let n : length (take len buf) ≡ len = omega (arith, length-take len buf) in
    let m : length (take len (drop (page_bytes * page) content)) ≡ len = omega (arith, length-take len (drop (page_bytes * page) content), length-drop (page_bytes * page) content) in
    same_lists (take len buf) (take len (drop (page_bytes * page) content)) (n ∙ sym m) (λ k d lt.
    let less : k < len = omega arith in
    get_or_default (take len buf) k d 0 lt
    ∙ get_or-take len buf k 0 less
    ∙ sym (is k (omega arith) (omega arith))
    ∙ sym (get_or-drop (page_bytes * page) content k 0)
    ∙ sym (get_or-take len (drop (page_bytes * page) content) k 0 less)
    ∙ get_or_default (take len (drop (page_bytes * page) content)) k 0 d (omega arith))

take_more : (n m : ℕ) (xs : List ℕ) → take (n + m) xs ≡ take n xs ++ take m (drop n xs)
take_more n m xs =
    sym (take-append-drop n (take (n + m) xs))
    ∙ (let a = take-take n (n + m) xs (omega arith) in let b = drop-take n m xs in (λ i. a i ++ b i))

-- one page more of a content
pub next_page : (content buf : List ℕ) (page : ℕ) → IsPageOf content page buf → page_bytes * page < length content → length buf ≡ page_bytes
    → take (page_bytes * page) content ++ take (min page_bytes (length content - page_bytes * page)) buf ≡ take (page_bytes * (page + 1)) content
next_page content buf page is lt long =
    let len = min page_bytes (length content - page_bytes * page) in
    let part = page_part content buf page len is (omega arith) (omega arith) long in
    let whole : take page_bytes (drop (page_bytes * page) content) ≡ take len (drop (page_bytes * page) content) =
    same_lists (take page_bytes (drop (page_bytes * page) content)) (take len (drop (page_bytes * page) content))
    (omega (arith, length-take page_bytes (drop (page_bytes * page) content), length-take len (drop (page_bytes * page) content), length-drop (page_bytes * page) content))
    (λ k d l.
    let less : k < len = omega (arith, length-take page_bytes (drop (page_bytes * page) content), length-drop (page_bytes * page) content) in
    get_or-take page_bytes (drop (page_bytes * page) content) k d (omega arith) ∙ sym (get_or-take len (drop (page_bytes * page) content) k d less)) in
    let e : page_bytes * page + page_bytes ≡ page_bytes * (page + 1) = omega arith in
    ap (λ (l : List ℕ). take (page_bytes * page) content ++ l) (part ∙ sym whole) ∙ sym (take_more (page_bytes * page) page_bytes content) ∙ ap (λ (n : ℕ). take n content) e

-- the first page alone
pub this_page : (content buf : List ℕ) (page : ℕ) → IsPageOf content page buf → page_bytes * page < length content → length buf ≡ page_bytes → take (min page_bytes (length content - page_bytes * page)) buf ≡ page_of content page
this_page content buf page is lt long =
    let len = min page_bytes (length content - page_bytes * page) in
    page_part content buf page len is (omega arith) (omega arith) long
    ∙ same_lists (take len (drop (page_bytes * page) content)) (take page_bytes (drop (page_bytes * page) content))
    (omega (arith, length-take page_bytes (drop (page_bytes * page) content), length-take len (drop (page_bytes * page) content), length-drop (page_bytes * page) content))
    (λ k d l.
    let less : k < len = omega (arith, length-take len (drop (page_bytes * page) content)) in
    get_or-take len (drop (page_bytes * page) content) k d less ∙ sym (get_or-take page_bytes (drop (page_bytes * page) content) k d (omega arith)))

pub content_is : (pack : PackState) (ino bytes : ℕ) (image : List ℕ) → (has : HasContent pack ino bytes image) → content_of (view image pack.base ino) ≡ has.version.content
content_is pack ino bytes image has = ap content_of has.seen

pub content_long : (pack : PackState) (ino bytes : ℕ) (image : List ℕ) → HasContent pack ino bytes image → length (content_of (view image pack.base ino)) ≡ bytes
content_long pack ino bytes image has = ap (λ (l : List ℕ). length l) (content_is pack ino bytes image has) ∙ has.size

-- no page past the end
pub past_page : (content : List ℕ) (page : ℕ) → length content ≤ page_bytes * page → page_of content page ≡ []
past_page content page le = none_left (page_of content page) (omega (arith, length-take page_bytes (drop (page_bytes * page) content), length-drop (page_bytes * page) content))
  where
    none_left : (xs : List ℕ) → length xs ≡ 0 → xs ≡ []
    none_left [] e = refl
    none_left (x ∷ xs) e = absurd (omega arith)

-- a page that has fewer bytes doesn't begin so
pub short_page : (content : List ℕ) (page : ℕ) (bytes : List ℕ) → 1 ≤ length bytes → length content < page_bytes * page + length bytes → take (length bytes) (page_of content page) ≡ bytes → ⊥
short_page content page bytes some over is =
    let n = ap (λ (l : List ℕ). length l) is in
    omega (arith, length-take (length bytes) (page_of content page), length-take page_bytes (drop (page_bytes * page) content), length-drop (page_bytes * page) content)
