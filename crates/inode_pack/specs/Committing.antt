-- The version that a commit makes, the data pages that this takes, and what a crash within the commit leaves.
use Rattle.std.specs.Prelude.{◌≡◌, ℕ, zero, suc, cond, ◌∷◌, ◌++◌, ◌+◌, ◌-◌, ◌/◌, ◌%◌, ◌<◌, ◌≤◌, ◌==◌, Bool, true, false, List, [], length, slice_index, slice_set, Option, None, Some, is_some, Result, Ok, Err, if◌then◌else◌}
use Rattle.locus_ids.specs.Sizes.{inodes_max, page_bytes, content_pages_max, content_tables_max, pack_pages, pack_tables}
use Rattle.disk_model.specs.declared.disk.DiskFault.{DiskFault}
use Rattle.disk_model.specs.declared.disk.DiskFault.TheVariants.{Failed}
use Rattle.disk_model.specs.Images.{Torn, bytes_at}
use Rattle.file_content.specs.Pages.{pages_of, tables_of, tables_written, is_table_written}
use Rattle.pack_layout.specs.declared.half.Half.{Half}
use Rattle.pack_layout.specs.declared.half.Half.TheVariants.{First}
use Rattle.pack_layout.specs.Layout.{area_length, slot_at, page_at, none, other_half}
use Rattle.new_contents.specs.of_shadow_pages.Working.{Working, page_at as shadow_page, content}
use Rattle.new_contents.specs.Changed.{is_changed, needed}
use Rattle.inode_switch.specs.View.{Version, view, IsOldOrNew}
use Rattle.pack_slots.specs.declared.inode_copy.InodeCopy.{InodeCopy}
use Rattle.stored_versions.specs.declared.new_version.NewVersion.{NewVersion}
use Rattle.inode_pack.specs.declared.pack_fault.PackFault.{PackFault}
use Rattle.inode_pack.specs.declared.pack_fault.PackFault.TheVariants.{Disk, NoSpace, NoMemory}
use Rattle.inode_pack.specs.Pack.{PackState, number_in}
use Rattle.pack_slots.specs.Copies.{copy_of, numbers_in, named_pages, named_tables, times}
use Rattle.pack_slots.specs.Slots.{HasTables}
use Rattle.pack_slots.specs.Mounting.{IsSound}

-- the size of a copy's content
abbrev pub size_of : Option InodeCopy → ℕ
size_of None = 0
size_of (Some copy) = copy.slot.size

-- each byte that a shadow leaves unchanged is one of a content of so many bytes
abbrev pub RestsOn : ℕ → Working → Type 0
RestsOn size w = (k : ℕ) → k < w.size → shadow_page w.pages (k / page_bytes) ≡ None → k < size

-- no copy names the data page
abbrev pub is_free : List (Option InodeCopy) → ℕ → Bool
is_free copies page = times page (named_pages copies) == 0

-- how many pages the content of a copy has
abbrev pub pages_before : Option InodeCopy → ℕ
pages_before old = pages_of (size_of old)

-- the changed ones of the first n pages, ascending
abbrev pub changed_below : Working → ℕ → List ℕ
changed_below w zero = []
changed_below w (suc n) = changed_below w n ++ cond (is_changed w n) (n ∷ []) []

-- the tables that are written with a shadow, over a copy
abbrev pub tables_over : Option InodeCopy → Working → List ℕ
tables_over old w = tables_written (pages_before old) (pages_of w.size) (changed_below w (pages_of w.size))

abbrev pub is_table_over : Option InodeCopy → Working → ℕ → Bool
is_table_over old w k = is_table_written (pages_before old) (pages_of w.size) (changed_below w (pages_of w.size)) k

-- the pages and the tables that are written
abbrev pub blocks_over : Option InodeCopy → Working → ℕ
blocks_over old w = needed w + length (tables_over old w)

-- no copy names the table
abbrev pub is_free_table : List (Option InodeCopy) → ℕ → Bool
is_free_table copies table = times table (named_tables copies) == 0

-- the table that has the page numbers of a copy there; 0 where there is no copy
abbrev pub table_in : Option InodeCopy → ℕ → ℕ
table_in None k = 0
table_in (Some copy) k = slice_index copy.slot.tables k

-- Where each of n blocks of a new content stands, of so many that one may have (`most`): an unchanged one where it stood, and the
-- changed ones, in order, on the least numbers below a limit that are free.
pub record Takes (most limit n : ℕ) (unused : ℕ → Bool) (stood : ℕ → ℕ) (changed : ℕ → Bool) (numbers : List ℕ) : Type 0 where
  pub stays : (i : ℕ) → i < n → changed i ≡ false → slice_index numbers i ≡ stood i
  pub inside : (i : ℕ) → i < n → changed i ≡ true → slice_index numbers i < limit
  pub free : (i : ℕ) → i < n → changed i ≡ true → unused (slice_index numbers i) ≡ true
  pub ascend : (i j : ℕ) → i < j → j < n → changed i ≡ true → changed j ≡ true → slice_index numbers i < slice_index numbers j
  pub least : (i number : ℕ) → i < n → changed i ≡ true → number < slice_index numbers i → unused number ≡ true → (j : ℕ) × (j < i) × (changed j ≡ true) × (slice_index numbers j ≡ number)
  pub rest : (i : ℕ) → n ≤ i → i < most → slice_index numbers i ≡ none

-- the pages of a new content
abbrev pub TakesPages : (ℕ → Bool) → Option InodeCopy → Working → List ℕ → Type 0
TakesPages unused old w numbers = Takes content_pages_max pack_pages (pages_of w.size) unused (number_in old) (is_changed w) numbers

-- the tables of the page numbers that its slot has no room for
abbrev pub TakesTables : (ℕ → Bool) → Option InodeCopy → Working → List ℕ → Type 0
TakesTables unused old w tables = Takes content_tables_max pack_tables (tables_of (pages_of w.size)) unused (table_in old) (is_table_over old w) tables

-- the first version of an inode goes to its first slot, another one to the slot that isn't open
abbrev pub next_half : Option InodeCopy → Half
next_half None = First
next_half (Some copy) = other_half copy.half

-- the first one has turn 0, another one the turn that follows: 0, 1 and 2 go round
abbrev pub next_turn : Option InodeCopy → ℕ
next_turn None = 0
next_turn (Some copy) = (copy.slot.turn + 1) % 3

-- the copy that a commit makes of an inode, where these are the free data pages and tables and this is its copy so far
pub record Makes (unused free : ℕ → Bool) (old : Option InodeCopy) (ino : ℕ) (version : NewVersion) (w : Working) (made : InodeCopy) : Type 0 where
  pub place : made.half ≡ next_half old
  pub says : made.slot ≡ record { turn = next_turn old; kind = version.kind; ino = ino; set = version.set; size = w.size; stamp = version.stamp; vector = version.vector; pages = made.slot.pages; tables = made.slot.tables }
  pub takes : TakesPages unused old w (numbers_in made)
  pub tables : TakesTables free old w made.slot.tables

-- the pack has this copy of the inode, and is else as it was
abbrev pub with_copy : PackState → ℕ → InodeCopy → PackState
with_copy pack ino made = record { base = pack.base; group = pack.group; site = pack.site; copies = slice_set pack.copies (ino - 1) (Some made) }

-- the pack after a commit
pub record Commits (old : PackState) (ino : ℕ) (version : NewVersion) (w : Working) (new : PackState) : Type 0 where
  pub made : InodeCopy
  pub makes : Makes (is_free old.copies) (is_free_table old.copies) (copy_of old.copies ino) ino version w made
  pub becomes : new ≡ with_copy old ino made
  pub copy : copy_of new.copies ino ≡ Some made

-- the content of a version, empty where there is none
abbrev pub content_of : Option Version → List ℕ
content_of None = []
content_of (Some version) = version.content

-- the version that a commit makes over what the inode had in an image
abbrev pub new_version : ℕ → ℕ → NewVersion → Working → List ℕ → Version
new_version base ino version w image = record {
  fields = record { kind = version.kind; ino = ino; set = version.set; size = w.size; stamp = version.stamp; vector = version.vector };
  content = content (content_of (view image base ino)) w;
}

-- each changed page of a content stands at its data page, with the zeros behind its end
abbrev pub HoldsPages : PackState → ℕ → Working → List ℕ → Type 0
HoldsPages pack ino w image = (i : ℕ) (page : List ℕ) → i < pages_of w.size → shadow_page w.pages i ≡ Some page → bytes_at image (page_at pack.base (number_in (copy_of pack.copies ino) i)) page_bytes ≡ page

-- What a crash within a commit leaves: wholly the old view or the new one, in a sound pack, each open slot of which has its
-- tables, also one that doesn't count; outside the area all is as before.
pub record MayBeLeft (pack : PackState) (ino : ℕ) (made : Version) (old new : List ℕ) : Type 0 where
  pub view : IsOldOrNew pack.base ino made old new
  pub sound : IsSound pack.base pack.group pack.site new
  pub tables : (i : ℕ) (half : Half) → 1 ≤ i → i ≤ inodes_max → HasTables pack.base (slot_at pack.base i half) new
  pub outside : Torn pack.base area_length old new

-- the writes and syncs of a commit with so many new pages and tables: a write for each and one for the slot, a sync, and two calls
-- for each gate
abbrev pub commit_calls : {T : Type 0} → ℕ → Option InodeCopy → Result T PackFault → ℕ
commit_calls blocks old (Ok done) = blocks + (if is_some old then 6 else 4)
commit_calls blocks old (Err Disk) = blocks + (if is_some old then 6 else 4)
commit_calls blocks old (Err (NoSpace more free)) = 0
commit_calls blocks old (Err NoMemory) = 0

-- what the disk calls of a commit answered
abbrev pub commit_answer : {T : Type 0} → Result T PackFault → Result (Unit {0}) DiskFault
commit_answer (Ok done) = Ok tt
commit_answer (Err Disk) = Err Failed
commit_answer (Err (NoSpace pages free)) = Ok tt
commit_answer (Err NoMemory) = Ok tt

-- a fault that comes before the first call of the disk
abbrev pub IsEarly : PackFault → Type 0
IsEarly Disk = ⊥
IsEarly (NoSpace pages free) = Unit {0}
IsEarly NoMemory = Unit {0}
