-- Which bytes the pieces of a commit write, and which they spare.
use Rattle.std.proofs.Common.{◌≡◌, ◌≢◌, ℕ, zero, suc, ◌+◌, ◌<◌, ◌≤◌, Bool, false, ◌||◌, ◌⊎◌, inl, inr, ⊎_elim, List, [], ◌∷◌, ◌++◌, length, get_or, Option, None, Some, refl, sym, ap, subst, ◌∙◌, arith}
use Rattle.std.proofs.lemmas.Bool.{cases_lt}
use Rattle.std.proofs.lemmas.Bool.Decides.{nat_tests}
use Rattle.std.proofs.lemmas.List.Elements.{All-append, All-nil, All-cons}
use Rattle.locus_ids.specs.Sizes.{page_bytes, pack_pages}
use Rattle.disk_model.specs.Images.{is_within}
use Rattle.pack_layout.specs.Layout.{page_at}
use Rattle.new_contents.specs.of_shadow_pages.Working.{Working, page_at as shadow_page}
use Rattle.gate_switch.specs.Switch.{Piece}
use Rattle.gate_switch.specs.Switch.{touches, written, AreWithin}
use Rattle.gate_switch.proofs.Pieces.{or_parts, put_outside, length-overwritten, written-append}
use Rattle.new_contents.specs.Changed.{piece_at}
use Rattle.inode_pack.specs.PagePieces.{page_pieces, AreWhole}
use Rattle.gate_switch.proofs.Tearing.{put_inside}

pub is_outside : (at n k : ℕ) → (k < at) ⊎ (at + n ≤ k) → is_within at n k ≡ false
is_outside at n k h = grind (arith, nat_tests)

pub touches_none : (xs ys : List Piece) (k : ℕ) → touches xs k ≡ false → touches ys k ≡ false → touches (xs ++ ys) k ≡ false
touches_none [] ys k a b = b
touches_none (x ∷ xs) ys k a b =
    let parts = or_parts (is_within x.at (length x.bytes) k) (touches xs k) a in
    ap (λ (t : Bool). t || touches (xs ++ ys) k) parts.0 ∙ touches_none xs ys k parts.1 b

spared_piece : (at k : ℕ) (o : Option (List ℕ)) → ((page : List ℕ) → o ≡ Some page → is_within at (length page) k ≡ false) → touches (piece_at at o) k ≡ false
spared_piece at k None h = refl
spared_piece at k (Some page) h = ap (λ (t : Bool). t || false) (h page refl)

outside_piece : (at place : ℕ) (xs : List ℕ) (o : Option (List ℕ)) → ((page : List ℕ) → o ≡ Some page → (at + length page ≤ length xs) × (is_within at (length page) place ≡ false)) → get_or (written xs (piece_at at o)) place 0 ≡ get_or xs place 0
outside_piece at place xs None h = refl
outside_piece at place xs (Some page) h = let f = h page refl in put_outside at xs page place f.0 f.1

inside_piece : (at k : ℕ) (xs page : List ℕ) (o : Option (List ℕ)) → o ≡ Some page → at + length page ≤ length xs → k < length page → get_or (written xs (piece_at at o)) (at + k) 0 ≡ get_or page k 0
inside_piece at k xs page o e fits lt = ap (λ (p : Option (List ℕ)). get_or (written xs (piece_at at p)) (at + k) 0) e ∙ put_inside xs at page k fits lt

long_piece : (at : ℕ) (xs : List ℕ) (o : Option (List ℕ)) → ((page : List ℕ) → o ≡ Some page → at + length page ≤ length xs) → length (written xs (piece_at at o)) ≡ length xs
long_piece at xs None h = refl
long_piece at xs (Some page) h = length-overwritten xs at page (h page refl)

within_piece : (at m : ℕ) (o : Option (List ℕ)) → ((page : List ℕ) → o ≡ Some page → at + length page ≤ m) → AreWithin (piece_at at o) m
within_piece at m None h = All-nil (λ (piece : Piece). piece.at + length piece.bytes ≤ m)
within_piece at m (Some page) h = All-cons (λ (piece : Piece). piece.at + length piece.bytes ≤ m) (record { at = at; bytes = page }) [] (h page refl) (All-nil (λ (piece : Piece). piece.at + length piece.bytes ≤ m))

module _ (base : ℕ) (numbers : List ℕ) (w : Working) (limit : ℕ) (whole : AreWhole w limit) (inside : (i : ℕ) → i < limit → get_or numbers i 0 < pack_pages) where
  -- places outside the pages that are written
  pub spared_pages : (n k : ℕ) → n ≤ limit → ((i : ℕ) (page : List ℕ) → i < n → shadow_page w.pages i ≡ Some page → is_within (page_at base (get_or numbers i 0)) page_bytes k ≡ false) → touches (page_pieces base numbers w n) k ≡ false
  spared_pages zero k le h = refl
  spared_pages (suc n) k le h =
      touches_none (page_pieces base numbers w n) (piece_at (page_at base (get_or numbers n 0)) (shadow_page w.pages n)) k
      (spared_pages n k (omega arith) (λ i page lt is. h i page (omega arith) is))
      (spared_piece (page_at base (get_or numbers n 0)) k (shadow_page w.pages n) (λ page is.
      subst (λ (m : ℕ). is_within (page_at base (get_or numbers n 0)) m k ≡ false) (sym (whole n page (omega arith) is)) (h n page (omega arith) is)))

  module _ (old : List ℕ) (area : base + 5309440 ≤ length old) where
    fits_page : (n m : ℕ) (page : List ℕ) → n < limit → m ≡ length old → shadow_page w.pages n ≡ Some page → page_at base (get_or numbers n 0) + length page ≤ m
    fits_page n m page lt long is = let number = inside n lt in let bytes = whole n page lt is in omega arith

    pub long_written : (n : ℕ) → n ≤ limit → length (written old (page_pieces base numbers w n)) ≡ length old
    long_written zero le = refl
    long_written (suc n) le =
        let before = long_written n (omega arith) in
        ap length (written-append old (page_pieces base numbers w n) (piece_at (page_at base (get_or numbers n 0)) (shadow_page w.pages n)))
        ∙ long_piece (page_at base (get_or numbers n 0)) (written old (page_pieces base numbers w n)) (shadow_page w.pages n) (λ page is. fits_page n (length (written old (page_pieces base numbers w n))) page (omega arith) before is)
        ∙ before

    pub within_pages : (n : ℕ) → n ≤ limit → AreWithin (page_pieces base numbers w n) (length old)
    within_pages zero le = All-nil (λ (piece : Piece). piece.at + length piece.bytes ≤ length old)
    within_pages (suc n) le =
        All-append (λ (piece : Piece). piece.at + length piece.bytes ≤ length old) (page_pieces base numbers w n) (piece_at (page_at base (get_or numbers n 0)) (shadow_page w.pages n))
        (within_pages n (omega arith))
        (within_piece (page_at base (get_or numbers n 0)) (length old) (shadow_page w.pages n) (λ page is. fits_page n (length old) page (omega arith) refl is))

    -- a page that is written has its bytes
    pub written_page : ((i j : ℕ) → i < j → j < limit → get_or numbers i 0 ≢ get_or numbers j 0) → (n i k : ℕ) (page : List ℕ) → n ≤ limit → i < n → shadow_page w.pages i ≡ Some page → k < page_bytes
        → get_or (written old (page_pieces base numbers w n)) (page_at base (get_or numbers i 0) + k) 0 ≡ get_or page k 0
    written_page apart zero i k page le lt is small = absurd (omega arith)
    written_page apart (suc n) i k page le lt is small =
        let at = page_at base (get_or numbers n 0) in
        let xs = written old (page_pieces base numbers w n) in
        let long = long_written n (omega arith) in
        ap (λ (l : List ℕ). get_or l (page_at base (get_or numbers i 0) + k) 0) (written-append old (page_pieces base numbers w n) (piece_at at (shadow_page w.pages n)))
        ∙ ⊎_elim
        (λ (before : i < n).
        outside_piece at (page_at base (get_or numbers i 0) + k) xs (shadow_page w.pages n) (λ other there. (
          fits_page n (length xs) other (omega arith) long there,
          (let bytes = whole n other (omega arith) there in let differ = apart i n before (omega arith) in
              is_outside at (length other) (page_at base (get_or numbers i 0) + k) (beside (get_or numbers i 0) (get_or numbers n 0) (length other) bytes differ)),
        ))
        ∙ written_page apart n i k page (omega arith) before is small)
        (λ (after : n ≤ i).
        let same : i ≡ n = omega arith in
        let own = ap (λ (j : ℕ). shadow_page w.pages j) (sym same) ∙ is in
        ap (λ (j : ℕ). get_or (written xs (piece_at at (shadow_page w.pages n))) (page_at base (get_or numbers j 0) + k) 0) same
        ∙ inside_piece at k xs page (shadow_page w.pages n) own (fits_page n (length xs) page (omega arith) long own) (let bytes = whole n page (omega arith) own in omega arith))
        (cases_lt i n)
      where
        beside : (p q m : ℕ) → m ≡ page_bytes → p ≢ q → (page_at base p + k < page_at base q) ⊎ (page_at base q + m ≤ page_at base p + k)
        beside p q m e ne = ⊎_elim (λ (less : p < q). inl (omega arith)) (λ (ge : q ≤ p). inr (omega arith)) (cases_lt p q)
