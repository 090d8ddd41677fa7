-- What an operation on a content gives and leaves.
use Rattle.std.specs.Prelude.{ℕ, ◌+◌, Bool, true, false, not, ◌&&◌, ◌||◌, cond, nat_le, nat_lt, List, [], length, Option, None, Some}
use Rattle.std.specs.Str.{bytes_eq}
use Rattle.file_content.specs.of_locus_ids.declared.refusal.Refusal.TheVariants.{TooLong}
use Rattle.dir_format.specs.of_trace_book.declared.operation.Op.{Op}
use Rattle.dir_format.specs.of_trace_book.declared.operation.Op.TheVariants as op
use Rattle.dir_format.specs.of_trace_book.declared.operation.Outcome.{Outcome}
use Rattle.dir_format.specs.of_trace_book.declared.operation.Outcome.TheVariants as outcome
use Rattle.dir_format.specs.Grammar.{dir_bytes}
use Rattle.dir_format.specs.of_trace_book.Names.{is_name}
use Rattle.dir_format.specs.Contents.{entries_of, is_dir}
use Rattle.dir_format.specs.Effects.{DirEffect, dir_effect}
use Rattle.file_content.specs.of_locus_ids.Sizes.{directory_bytes_max, file_bytes_max, inodes_max}
use Rattle.file_content.specs.Contents.{written, part, cut}
use Rattle.file_content.specs.Pages.{pages_written, pages_replaced}

-- An operation with what must be added to its words to tell what it gives.
pub data Deed : Type 0 where
  -- an operation whose words say all
  As : Op → Deed
  -- a remove of this name and inode, with the vector of the file that the caller saw
  Removes : List ℕ → ℕ → List ℕ → Deed
  -- a mend: whether several versions are kept, and the content that their join is after its rescues
  Mends : Bool → List ℕ → Deed

-- What an operation gives where there is room, and leaves where it isn't refused.
pub record Effect : Type 0 where
  pub result : Outcome
  -- the content that it leaves
  pub content : List ℕ
  -- the pages of that content that it changes
  pub pages : List ℕ
  -- it counts as a change, so that a commit is owed
  pub counts : Bool
  -- a count that must rise has its greatest value
  pub spent : Bool

abbrev pub is_refusal : Outcome → Bool
is_refusal (outcome.No why) = true
is_refusal outcome.Done = false
is_refusal (outcome.Found ino kind) = false
is_refusal (outcome.Data bytes) = false
is_refusal (outcome.Committed stamp) = false

-- it gives this, and leaves the content as it is
abbrev pub tells : List ℕ → Outcome → Effect
tells content result = record { result = result; content = content; pages = []; counts = false; spent = false }

-- a new content takes the place of the old one, unless it is too long
abbrev pub puts : List ℕ → List ℕ → Bool → Effect
puts old new counts = cond (nat_lt directory_bytes_max (length new)) (tells old (outcome.No TooLong)) (record { result = outcome.Done; content = new; pages = pages_replaced old new; counts = counts; spent = false })

-- a write changes its pages, and counts as a change, also where the bytes are the same
abbrev pub writes : List ℕ → ℕ → List ℕ → Effect
writes content at bytes = record { result = outcome.Done; content = written content at bytes; pages = pages_written content at bytes; counts = true; spent = false }

-- a cut to a length that isn't less than the size changes nothing; no page is changed by any cut
abbrev pub cuts : List ℕ → ℕ → Effect
cuts content len = record { result = outcome.Done; content = cut content len; pages = []; counts = nat_lt len (length content); spent = false }

-- a mend puts the join in place; it counts as a change where several versions are kept or the content changes
abbrev pub mends : List ℕ → Bool → List ℕ → Effect
mends content several joined = puts content joined (several || not (bytes_eq joined content))

-- the content that an operation on a directory leaves
abbrev pub directory_left : List ℕ → DirEffect → List ℕ
directory_left content d = cond d.counts (dir_bytes d.entries) content

-- an operation on a directory changes the pages that are other or new; it may shorten the content
abbrev pub on_directory : List ℕ → DirEffect → Effect
on_directory content d = record {
  result = d.outcome;
  content = directory_left content d;
  pages = pages_replaced content (directory_left content d);
  counts = d.counts;
  spent = d.spent;
}

-- where what is left is no directory, the operation isn't lawful
abbrev pub in_directory : List ℕ → Option DirEffect → Option Effect
in_directory content None = None
in_directory content (Some d) = cond (is_dir d.entries) (Some (on_directory content d)) None

-- the new names of an operation are names, and its inode is one
abbrev pub is_worded : Op → Bool
is_worded (op.Probe name) = is_name name
is_worded (op.Insert name ino kind) = is_name name && (nat_le 1 ino && nat_le ino inodes_max)
is_worded (op.Rename component name) = is_name name
is_worded _ = true

-- what an operation does on a content, or none where it isn't lawful there: a write past the greatest size, a name that is
-- none, an insert of a pair of name and inode that stands, a remove of one that isn't live. A remove and a mend by their
-- words alone do nothing, and a commit and an abort are no operations on the content.
abbrev pub effect : Deed → List ℕ → Option Effect
effect (As (op.Read at len)) content = Some (tells content (outcome.Data (part content at len)))
effect (As (op.Write at bytes)) content = cond (nat_le (at + length bytes) file_bytes_max) (Some (writes content at bytes)) None
effect (As (op.Cut len)) content = Some (cuts content len)
effect (As (op.Remove name ino)) content = None
effect (As op.Mend) content = None
effect (As op.Commit) content = None
effect (As op.Abort) content = None
effect (As o) content = cond (is_worded o) (in_directory content (dir_effect o [] (entries_of content))) None
effect (Removes name ino seen) content = in_directory content (dir_effect (op.Remove name ino) seen (entries_of content))
effect (Mends several joined) content = Some (mends content several joined)
