-- The calls by which a version is written, and the gates that are open where one of them is cut off. A call is a write or a
-- sync.
use Rattle.std.specs.Prelude.{ℕ, suc, ◌+◌, ◌==◌, nat_lt, Bool, true, false, ◌&&◌, cond, List, [], ◌∷◌, length}
use Rattle.file_content.specs.Pages.{tables_written}
use Rattle.disk_calls.specs.Gates.{Cut, gate_left}

-- a version that is written: the pages and the tables that are written of it, and whether its file has an older one there
pub record Writing : Type 0 where
  pub pages : List ℕ
  pub tables : List ℕ
  pub older : Bool

-- a version of so many pages (`now`), over an older one of so many (`before`) or over none, of which these pages are written
abbrev pub writing : Bool → (before now : ℕ) → List ℕ → Writing
writing older before now pages = record { pages = pages; tables = tables_written before now pages; older = older }

-- each page and each table is a block
abbrev pub blocks_of : (pages tables : List ℕ) → ℕ
blocks_of pages [] = length pages
blocks_of pages (table ∷ tables) = suc (blocks_of pages tables)

abbrev pub blocks : Writing → ℕ
blocks w = blocks_of w.pages w.tables

-- each block, the body of the slot, a sync, the gate, a sync; and where an older slot was open its gate and a sync
abbrev pub calls_of : ℕ → Bool → ℕ
calls_of blocks older = blocks + (4 + cond older 2 0)

abbrev pub calls_of_writing : Writing → ℕ
calls_of_writing w = calls_of (blocks w) w.older

-- the new gate is open where so many calls have passed before the one that was cut off
abbrev pub new_gate : ℕ → Cut → ℕ → Bool
new_gate blocks how passed =
    cond (nat_lt passed (blocks + 2)) false (cond (nat_lt passed (blocks + 4)) (gate_left how (passed == blocks + 2) false true) true)

-- the gate of the older slot is open then
abbrev pub old_gate : ℕ → Cut → ℕ → Bool
old_gate blocks how passed = cond (nat_lt passed (blocks + 4)) true (gate_left how (passed == blocks + 4) true false)

-- the version is on the disk where its gate was left open: the later turn counts
abbrev pub is_written : Writing → Cut → ℕ → Bool
is_written w how passed = new_gate (blocks w) how passed

-- and beside the older one where that gate is open too
abbrev pub are_both_open : Writing → Cut → ℕ → Bool
are_both_open w how passed = w.older && (new_gate (blocks w) how passed && old_gate (blocks w) how passed)

-- the same where it isn't said that one of its calls was cut off: once all have passed, the older gate is shut
abbrev pub are_left_open : Writing → Cut → ℕ → Bool
are_left_open w how passed = nat_lt passed (calls_of_writing w) && are_both_open w how passed
