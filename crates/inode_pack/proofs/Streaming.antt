-- Pieces that are written one by one, with no list of them in memory.
use Rattle.std.proofs.Common.{◌≡◌, ℕ, zero, suc, ◌+◌, ◌-◌, ◌<◌, ◌≤◌, Bool, true, false, ◌||◌, ⊎_elim, List, [], ◌∷◌, ◌++◌, length, get_or, Option, None, Some, refl, ap, subst, ◌∙◌, arith, add-one, length-append}
use Rattle.std.specs.Prelude.{is_some, Result, Ok, Err, IsErr}
use Rattle.std.proofs.Math.Seq.{get_or-append_right}
use Rattle.std.proofs.lemmas.Bool.{cases_lt, true≢false, false≢true}
use Rattle.std.proofs.lemmas.List.{append-nil, get_or_append_left}
use Rattle.disk_model.specs.Images.{is_within}
use Rattle.disk_model.specs.Disk.{Passing}
use Rattle.disk_model.specs.declared.disk.DiskFault.{DiskFault}
use Rattle.disk_model.specs.declared.disk.DiskFault.TheVariants.{Failed}
use Rattle.disk_model.specs.Moments.{TellsMany}
use Rattle.disk_model.proofs.Tells.{tells_longer}
use Rattle.file_content.specs.Pages.{pages_of}
use Rattle.pack_layout.specs.Layout.{page_at}
use Rattle.new_contents.specs.of_shadow_pages.Working.{Working}
use Rattle.gate_switch.specs.Switch.{Piece}
use Rattle.gate_switch.specs.Switch.{AreWithin, touches, TornIn}
use Rattle.gate_switch.proofs.Pieces.{or_parts}
use Rattle.new_contents.specs.Changed.{is_changed, piece_at, HasChanged}
use Rattle.inode_pack.specs.PagePieces.{page_pieces}
use Rattle.new_contents.proofs.Counting.{unchanged}

or_none : (a b : Bool) → a ≡ false → b ≡ false → (a || b) ≡ false
or_none true b e f = absurd (true≢false e)
or_none false b e f = f

-- a place outside of all pieces is outside of the first ones and of the last ones
pub outside_front : (xs ys : List Piece) (k : ℕ) → touches (xs ++ ys) k ≡ false → touches xs k ≡ false
outside_front [] ys k none = refl
outside_front (x ∷ xs) ys k none =
    let parts = or_parts (is_within x.at (length x.bytes) k) (touches (xs ++ ys) k) none in
    or_none (is_within x.at (length x.bytes) k) (touches xs k) parts.0 (outside_front xs ys k parts.1)

pub outside_back : (xs ys : List Piece) (k : ℕ) → touches (xs ++ ys) k ≡ false → touches ys k ≡ false
outside_back [] ys k none = none
outside_back (x ∷ xs) ys k none = outside_back xs ys k (or_parts (is_within x.at (length x.bytes) k) (touches (xs ++ ys) k) none).1

pub torn_front : (xs ys : List Piece) (a b : List ℕ) → TornIn xs a b → TornIn (xs ++ ys) a b
torn_front xs ys a b torn = record { long = torn.long; outside = λ k none. torn.outside k (outside_front xs ys k none) }

pub torn_back : (xs ys : List Piece) (a b : List ℕ) → TornIn ys a b → TornIn (xs ++ ys) a b
torn_back xs ys a b torn = record { long = torn.long; outside = λ k none. torn.outside k (outside_back xs ys k none) }

pub within_front : (xs ys : List Piece) (n : ℕ) → AreWithin (xs ++ ys) n → AreWithin xs n
within_front xs ys n all = λ k d lt. subst (λ (p : Piece). p.at + length p.bytes ≤ n) (get_or_append_left xs ys d k lt) (all k d (omega (arith, length-append xs ys)))

pub within_back : (xs ys : List Piece) (n : ℕ) → AreWithin (xs ++ ys) n → AreWithin ys n
within_back xs ys n all = λ k d lt.
    let at : length xs + k - length xs ≡ k = omega arith in
    subst (λ (p : Piece). p.at + length p.bytes ≤ n) (get_or-append_right xs ys (length xs + k) d (omega arith) ∙ ap (λ (j : ℕ). get_or ys j d) at) (all (length xs + k) d (omega (arith, length-append xs ys)))

none_of : (o : Option (List ℕ)) → is_some o ≡ false → o ≡ None
none_of None e = refl
none_of (Some page) e = absurd (true≢false e)

module _ (base : ℕ) (numbers : List ℕ) (w : Working) where
  pub outside_one : (n i k : ℕ) → i < n → touches (page_pieces base numbers w n) k ≡ false → touches (piece_at (page_at base (get_or numbers i 0)) (get_or w.pages i None)) k ≡ false
  outside_one zero i k lt none = absurd (omega arith)
  outside_one (suc n) i k lt none = ⊎_elim
      (λ (less : i < n). outside_one n i k less (outside_front (page_pieces base numbers w n) (piece_at (page_at base (get_or numbers n 0)) (get_or w.pages n None)) k none))
      (λ (ge : n ≤ i). let e : n ≡ i = omega arith in
      subst (λ (j : ℕ). touches (piece_at (page_at base (get_or numbers j 0)) (get_or w.pages j None)) k ≡ false) e (outside_back (page_pieces base numbers w n) (piece_at (page_at base (get_or numbers n 0)) (get_or w.pages n None)) k none))
      (cases_lt i n)

  pub torn_one : (n i : ℕ) (a b : List ℕ) → i < n → TornIn (piece_at (page_at base (get_or numbers i 0)) (get_or w.pages i None)) a b → TornIn (page_pieces base numbers w n) a b
  torn_one n i a b lt torn = record { long = torn.long; outside = λ k none. torn.outside k (outside_one n i k lt none) }

  pub within_one : (n i m : ℕ) → i < n → AreWithin (page_pieces base numbers w n) m → AreWithin (piece_at (page_at base (get_or numbers i 0)) (get_or w.pages i None)) m
  within_one zero i m lt all = absurd (omega arith)
  within_one (suc n) i m lt all = ⊎_elim
      (λ (less : i < n). within_one n i m less (within_front (page_pieces base numbers w n) (piece_at (page_at base (get_or numbers n 0)) (get_or w.pages n None)) m all))
      (λ (ge : n ≤ i). let e : n ≡ i = omega arith in
      subst (λ (j : ℕ). AreWithin (piece_at (page_at base (get_or numbers j 0)) (get_or w.pages j None)) m) e (within_back (page_pieces base numbers w n) (piece_at (page_at base (get_or numbers n 0)) (get_or w.pages n None)) m all))
      (cases_lt i n)

  pub pieces_more : (n : ℕ) → page_pieces base numbers w (n + 1) ≡ page_pieces base numbers w n ++ piece_at (page_at base (get_or numbers n 0)) (get_or w.pages n None)
  pieces_more n = ap (page_pieces base numbers w) (add-one n)

  -- pages that aren't changed are passed over
  pub pieces_skip : (n d m : ℕ) → n + d ≡ m → ((i : ℕ) → n ≤ i → i < m → is_changed w i ≡ false) → page_pieces base numbers w m ≡ page_pieces base numbers w n
  pieces_skip n zero m e none = (let f : m ≡ n = omega arith in ap (page_pieces base numbers w) f)
  pieces_skip n (suc d) m e none =
      let f : m ≡ suc (n + d) = omega arith in
      let before = pieces_skip n d (n + d) refl (λ i low high. none i low (omega arith)) in
      let gone = none_of (get_or w.pages (n + d) None) (none (n + d) (omega arith) (omega arith)) in
      ap (page_pieces base numbers w) f
      ∙ ap (λ (o : Option (List ℕ)). page_pieces base numbers w (n + d) ++ piece_at (page_at base (get_or numbers (n + d) 0)) o) gone
      ∙ append-nil (page_pieces base numbers w (n + d)) ∙ before

  -- those before the row, and those behind it
  pub pieces_before : (first stop : ℕ) → HasChanged first stop w → first ≤ pages_of w.size → page_pieces base numbers w first ≡ []
  pieces_before first stop has le = pieces_skip 0 first first (omega arith) (λ i low high. unchanged w first stop i has (omega arith) (λ p. omega (arith, p.0)))

  pub pieces_behind : (first stop i : ℕ) → HasChanged first stop w → stop ≤ i → i ≤ pages_of w.size → page_pieces base numbers w (pages_of w.size) ≡ page_pieces base numbers w i
  pieces_behind first stop i has past le = pieces_skip i (pages_of w.size - i) (pages_of w.size) (omega arith) (λ k low high. unchanged w first stop k has high (λ p. omega (arith, p.1)))

  pub longer : (m n : ℕ) → m ≤ n → length (page_pieces base numbers w m) ≤ length (page_pieces base numbers w n)
  longer m zero le = let e : m ≡ 0 = omega arith in let same = ap (λ (k : ℕ). length (page_pieces base numbers w k)) e in omega arith
  longer m (suc n) le = ⊎_elim
      (λ (lt : m < suc n). omega (arith, longer m n (omega arith), length-append (page_pieces base numbers w n) (piece_at (page_at base (get_or numbers n 0)) (get_or w.pages n None))))
      (λ (ge : suc n ≤ m). let e : m ≡ suc n = omega arith in let same = ap (λ (k : ℕ). length (page_pieces base numbers w k)) e in omega arith)
      (cases_lt m (suc n))

one_fault : (e f : DiskFault) → e ≡ f
one_fault Failed Failed = refl

-- a run that failed, as the front of a longer one
pub tells_short : (n m : ℕ) (p q : Passing) (r : Result (Unit {0}) DiskFault) (e : DiskFault) → n ≤ m → IsErr r → TellsMany {T = Unit {0}} {E = DiskFault} n p q (Err e) → TellsMany {T = Unit {0}} {E = DiskFault} m p q r
tells_short n m p q (Ok done) e le is tells = absurd (false≢true is)
tells_short n m p q (Err f) e le is tells = tells_longer n m p q f le (subst (λ (x : DiskFault). TellsMany {T = Unit {0}} {E = DiskFault} n p q (Err x)) (one_fault e f) tells)
