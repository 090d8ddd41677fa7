-- Tables that are written one by one, with no list of them in memory.
use Rattle.std.proofs.Common.{◌≡◌, ℕ, zero, suc, ◌+◌, ◌-◌, ◌<◌, ◌≤◌, Bool, true, false, cond, List, [], ◌∷◌, ◌++◌, length, refl, sym, ap, subst, ◌∙◌, arith, length-append}
use Rattle.std.specs.List.{filter}
use Rattle.std.proofs.lemmas.List.{append-nil}
use Rattle.std.proofs.lemmas.List.Elements.{filter-append}
use Rattle.locus_ids.specs.Sizes.{content_tables_max}
use Rattle.file_content.specs.Pages.{pages_from}
use Rattle.gate_switch.specs.Switch.{Piece}
use Rattle.gate_switch.specs.Switch.{AreWithin, TornIn}
use Rattle.pack_slots.specs.declared.inode_copy.InodeCopy.{InodeCopy}
use Rattle.new_contents.specs.Marked.{is_marked}
use Rattle.inode_pack.specs.PagePieces.{table_piece, table_pieces, marked_tables}
use Rattle.inode_pack.proofs.Streaming.{torn_front, torn_back, within_front, within_back}

-- those of n tables in a row that are marked
abbrev pub marked_between : List Bool → ℕ → ℕ → List ℕ
marked_between marks first n = filter (is_marked marks) (pages_from first n)

from_split : (first a b n : ℕ) → a + b ≡ n → pages_from first n ≡ pages_from first a ++ pages_from (first + a) b
from_split first zero b n e =
    let start : first ≡ first + 0 = omega arith in
    let count : n ≡ b = omega arith in
    (λ i. pages_from (start i) (count i))
from_split first (suc a) b zero e = absurd (omega arith)
from_split first (suc a) b (suc n) e =
    let start : first + 1 + a ≡ first + suc a = omega arith in
    ap (λ (l : List ℕ). first ∷ l) (from_split (first + 1) a b n (omega arith)) ∙ ap (λ (m : ℕ). first ∷ (pages_from (first + 1) a ++ pages_from m b)) start

-- the marked ones of the first a + b are those of the first a, and those behind them
marked_split : (marks : List Bool) (a b n : ℕ) → a + b ≡ n → marked_between marks 0 n ≡ marked_between marks 0 a ++ marked_between marks a b
marked_split marks a b n e =
    let start : 0 + a ≡ a = omega arith in
    ap (filter (is_marked marks)) (from_split 0 a b n e) ∙ filter-append (is_marked marks) (pages_from 0 a) (pages_from (0 + a) b)
    ∙ ap (λ (m : ℕ). marked_between marks 0 a ++ marked_between marks m b) start

pub pieces-append : (base : ℕ) (made : InodeCopy) (xs ys : List ℕ) → table_pieces base made (xs ++ ys) ≡ table_pieces base made xs ++ table_pieces base made ys
pieces-append base made [] ys = refl
pieces-append base made (x ∷ xs) ys = ap (λ (l : List Piece). table_piece base made x ∷ l) (pieces-append base made xs ys)

-- past the last one all are written
pub pieces_all : (base : ℕ) (made : InodeCopy) (marks : List Bool) (k : ℕ) → k ≡ content_tables_max → table_pieces base made (marked_between marks 0 k) ≡ table_pieces base made (marked_tables marks)
pieces_all base made marks k e = ap (λ (n : ℕ). table_pieces base made (marked_between marks 0 n)) e

module _ (base : ℕ) (made : InodeCopy) (marks : List Bool) (k : ℕ) where
  abbrev before : List Piece
  before = table_pieces base made (marked_between marks 0 k)

  -- one that isn't marked is passed over
  pub pieces_same : is_marked marks k ≡ false → table_pieces base made (marked_between marks 0 (k + 1)) ≡ table_pieces base made (marked_between marks 0 k)
  pieces_same isnt = ap (table_pieces base made)
      (marked_split marks k 1 (k + 1) refl ∙ ap (λ (b : Bool). marked_between marks 0 k ++ cond b (k ∷ []) []) isnt ∙ append-nil (marked_between marks 0 k))

  module _ (is : is_marked marks k ≡ true) where
    -- one that is marked adds its piece
    pub pieces_next : table_pieces base made (marked_between marks 0 (k + 1)) ≡ table_pieces base made (marked_between marks 0 k) ++ table_piece base made k ∷ []
    pieces_next =
        ap (table_pieces base made) (marked_split marks k 1 (k + 1) refl ∙ ap (λ (b : Bool). marked_between marks 0 k ++ cond b (k ∷ []) []) is)
        ∙ pieces-append base made (marked_between marks 0 k) (k ∷ [])

    module _ (lt : k < content_tables_max) where
      abbrev behind : List Piece
      behind = table_pieces base made (marked_between marks (k + 1) (content_tables_max - (k + 1)))

      all_are : table_pieces base made (marked_tables marks) ≡ before ++ table_piece base made k ∷ behind
      all_are =
          let count : content_tables_max - k ≡ suc (content_tables_max - (k + 1)) = omega arith in
          ap (table_pieces base made)
          (marked_split marks k (content_tables_max - k) content_tables_max (omega arith)
          ∙ ap (λ (n : ℕ). marked_between marks 0 k ++ marked_between marks k n) count
          ∙ ap (λ (b : Bool). marked_between marks 0 k ++ cond b (k ∷ marked_between marks (k + 1) (content_tables_max - (k + 1))) (marked_between marks (k + 1) (content_tables_max - (k + 1)))) is)
          ∙ pieces-append base made (marked_between marks 0 k) (k ∷ marked_between marks (k + 1) (content_tables_max - (k + 1)))

      pub within_table : (n : ℕ) → AreWithin (table_pieces base made (marked_tables marks)) n → AreWithin (table_piece base made k ∷ []) n
      within_table n all = within_front (table_piece base made k ∷ []) behind n (within_back before (table_piece base made k ∷ behind) n (subst (λ (l : List Piece). AreWithin l n) all_are all))

      pub torn_table : (a b : List ℕ) → TornIn (table_piece base made k ∷ []) a b → TornIn (table_pieces base made (marked_tables marks)) a b
      torn_table a b torn = subst (λ (l : List Piece). TornIn l a b) (sym all_are) (torn_back before (table_piece base made k ∷ behind) a b (torn_front (table_piece base made k ∷ []) behind a b torn))

      pub fewer : length (table_pieces base made (marked_between marks 0 k)) + 1 ≤ length (table_pieces base made (marked_tables marks))
      fewer = let count = ap (λ (l : List Piece). length l) all_are in omega (arith, count, length-append before (table_piece base made k ∷ behind))
