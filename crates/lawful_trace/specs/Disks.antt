-- The disk of a site, by the lines that arm it and the records so far: how many calls were made since at least, and so which disk
-- call may stop the site. A call is a write or a sync.
use Rattle.std.specs.Prelude.{ℕ, ◌+◌, ◌-◌, ◌*◌, ◌==◌, Bool, true, false, not, ◌&&◌, ◌||◌, cond, List, [], ◌∷◌, length, take, drop, fold, Option, None, Some, nat_le}
use Rattle.std.specs.Option.{is_some}
use Rattle.locus_ids.specs.declared.config.Config.{Config}
use Rattle.locus_ids.specs.declared.ids.FileId.{FileId}
use Rattle.locus_ids.specs.declared.ids.Stamp.{Stamp}
use Rattle.call_rules.specs.of_commit_graph.Versions.{content_of}
use Rattle.trace_book.specs.declared.record.Record.{Record}
use Rattle.trace_book.specs.declared.record.Record.TheVariants.{Up, Stopped, Commit, Adopt}
use Rattle.trace_book.specs.declared.record.StopCause.TheVariants as cause
use Rattle.disk_calls.specs.of_schedule_lines.declared.line.Leave.{Leave}
use Rattle.disk_calls.specs.of_schedule_lines.declared.line.ScheduleLine.{ScheduleLine}
use Rattle.disk_calls.specs.of_schedule_lines.declared.line.ScheduleLine.TheVariants.{Event}
use Rattle.disk_calls.specs.of_schedule_lines.declared.line.Line.TheVariants as line
use Rattle.disk_calls.specs.of_file_content.Pages.{pages_of, ascending}
pub use Rattle.disk_calls.specs.Versions.{Writing, calls_of_writing}
use Rattle.disk_calls.specs.Gates.{Cut, Stops as Stopping, Fails as Failing}
use Rattle.disk_calls.specs.Versions.{writing}
use Rattle.disk_calls.specs.Boots.{calls_of_boot, are_halves_open}
use Rattle.tree_model.specs.declared.instance.Instance.{Instance}
use Rattle.tree_model.specs.Folds.{Trace, over, last_line}
use Rattle.tree_model.specs.Epochs.{is_up}
use Rattle.tree_model.specs.Histories.{history, held}
use Rattle.tree_model.specs.Files.{committing}

-- Armed disks.

-- a line that arms a disk: after so many calls the next one stops the site and leaves unsynced bytes as told, or it fails
pub data Arming : Type 0 where
  Stops : (calls : ℕ) → Leave → Arming
  Fails : (calls : ℕ) → Arming

abbrev pub calls_of : Arming → ℕ
calls_of (Stops calls leave) = calls
calls_of (Fails calls) = calls

abbrev pub is_fault : Arming → Bool
is_fault (Stops calls leave) = false
is_fault (Fails calls) = true

-- an armed disk: the calls since its line, the least that there can have been, and the commits and adoptions since
pub record Armed : Type 0 where
  pub arming : Arming
  pub used : ℕ
  pub made : ℕ

-- A disk: how it is armed, and whether both halves of its label have an open gate. Only a stop within a boot leaves that, and a
-- boot closes one of them.
pub record Disk : Type 0 where
  pub armed : Option Armed
  pub halves : Bool

abbrev pub first_disk : Disk
first_disk = record { armed = None; halves = false }

abbrev pub newly_armed : Arming → Option Armed
newly_armed a = Some (record { arming = a; used = 0; made = 0 })

-- a line that arms the disk replaces what was armed before
abbrev pub armed_by : ℕ → ScheduleLine → Disk → Disk
armed_by site (Event (line.ArmStop s calls left)) d = cond (s == site) (record d { armed = newly_armed (Stops calls left) }) d
armed_by site (Event (line.ArmFail s calls)) d = cond (s == site) (record d { armed = newly_armed (Fails calls) }) d
armed_by site _ d = d

-- the disk after the lines with numbers above the first and up to the last
abbrev pub through_lines : List ScheduleLine → ℕ → ℕ → ℕ → Disk → Disk
through_lines lines site first last d = fold (λ old l. armed_by site l old) d (take (last - first) (drop first lines))

-- how the call after the last that passes is cut off
abbrev pub cut_of : Arming → Cut
cut_of (Stops calls leave) = Stopping leave
cut_of (Fails calls) = Failing

-- Versions on the disk.

abbrev pub written_with : Writing → Disk → Option Armed → Disk
written_with w d None = d
written_with w d (Some a) = record d { armed = Some (record a { used = a.used + calls_of_writing w; made = a.made + 1 }) }

-- the disk after a version was written
abbrev pub written : Writing → Disk → Disk
written w d = written_with w d d.armed

-- how many pages the version has that a site holds, 0 where it holds none
abbrev pub pages_held : Config → Trace → FileId → Option Stamp → ℕ
pages_held c before f None = 0
pages_held c before f (Some stamp) = pages_of (length (content_of (history c before) f stamp))

-- a version over the one that the site holds, if it holds one
abbrev pub writing_at : Config → Trace → FileId → ℕ → (now : ℕ) → List ℕ → Writing
writing_at c before f site now pages = writing (is_some (held c before site f)) (pages_held c before f (held c before site f)) now pages

abbrev pub pages_now : Option Instance → ℕ
pages_now None = 0
pages_now (Some x) = pages_of (length x.work.content)

abbrev pub pages_changed : Option Instance → List ℕ
pages_changed None = []
pages_changed (Some x) = ascending x.work.changed

-- a commit writes the pages that its instance has changed
abbrev pub writing_commit : Config → Trace → FileId → ℕ → Writing
writing_commit c before f site = writing_at c before f site (pages_now (committing c before f site)) (pages_changed (committing c before f site))

-- Which pages an adoption writes isn't told. It makes the calls of a version of which no page is written, or more.
abbrev pub writing_adoption : Config → Trace → FileId → ℕ → Stamp → Writing
writing_adoption c before f site stamp = writing_at c before f site (pages_held c before f (Some stamp)) []

-- Boots.

-- A boot makes two calls more where a stop within a version left both slots of a file open. Where such a stop was isn't counted.
abbrev pub booted_with : Disk → Option Armed → Disk
booted_with d None = record { armed = None; halves = false }
booted_with d (Some a) = record { armed = Some (record a { used = a.used + calls_of_boot d.halves false }); halves = false }

-- a stopped site that stops was cut in its boot; any other stop changes no gate that an earlier record doesn't tell
abbrev pub stopped_with : Bool → Disk → Option Armed → Disk
stopped_with up d None = record d { armed = None }
stopped_with true d (Some a) = record d { armed = None }
stopped_with false d (Some a) = record { armed = None; halves = are_halves_open d.halves (cut_of a.arming) (calls_of a.arming - a.used) }

-- The fold.

abbrev pub disk_after : Record → Config → Trace → ℕ → Disk → Disk
disk_after (Up s boot) c before site d = cond (s == site) (booted_with d d.armed) d
disk_after (Stopped s cause) c before site d = cond (s == site) (stopped_with (is_up c before site) d d.armed) d
disk_after (Commit f s stamp parents content) c before site d = cond (s == site) (written (writing_commit c before f site) d) d
disk_after (Adopt f s stamp) c before site d = cond (s == site) (written (writing_adoption c before f site stamp) d) d
disk_after _ c before site d = d

-- the disk of the site after these records
abbrev pub disk_of : Config → List ScheduleLine → Trace → ℕ → Disk
disk_of c lines trace site = over first_disk (λ r before old. disk_after r.what c before site (through_lines lines site (last_line before) r.line old)) trace

-- the disk as the line with this number finds it, and then its armed part
abbrev pub disk_at : Config → List ScheduleLine → Trace → ℕ → ℕ → Disk
disk_at c lines before n site = through_lines lines site (last_line before) n (disk_of c lines before site)

abbrev pub armed_at : Config → List ScheduleLine → Trace → ℕ → ℕ → Option Armed
armed_at c lines before n site = (disk_at c lines before n site).armed

-- Stops within a disk call.

abbrev pub has_left : Option Armed → Bool
has_left None = false
has_left (Some a) = nat_le a.used (calls_of a.arming)

-- the site whose disk has a new version by this record
abbrev pub writer_of : Record → Option ℕ
writer_of (Commit f s stamp parents content) = Some s
writer_of (Adopt f s stamp) = Some s
writer_of _ = None

-- the records without the last one, where that tells of a version on the disk
abbrev pub without_version : Trace → Trace
without_version [] = []
without_version (r ∷ before) = cond (is_some (writer_of r.what)) before (r ∷ before)

-- The call after the last that passes can be one of the event of this moment: no more calls were made so far than pass. Or
-- no more than pass were made up to the last record, which tells of the version that was cut off, and is on the disk.
abbrev pub may_cut : Config → List ScheduleLine → Trace → ℕ → ℕ → Bool
may_cut c lines before n site = has_left (armed_at c lines before n site) || has_left (armed_at c lines (without_version before) n site)

-- the disk is armed by a line of this kind
abbrev pub is_armed_as : Bool → Option Armed → Bool
is_armed_as fault None = false
is_armed_as fault (Some a) = cond (is_fault a.arming) fault (not fault)

-- an armed disk that stops nothing has room for the commits and adoptions since its line, which make four calls each at
-- least
abbrev pub is_within_calls : Option Armed → Bool
is_within_calls None = true
is_within_calls (Some a) = nat_le (4 * a.made) (calls_of a.arming)

-- the record that comes next, if there is one, stops the site within a disk call
abbrev pub is_cut_next : Option Record → ℕ → Bool
is_cut_next None site = false
is_cut_next (Some (Stopped s cause.Fuse)) site = s == site
is_cut_next (Some (Stopped s cause.Fault)) site = s == site
is_cut_next (Some _) site = false

abbrev pub fits_calls : Config → List ScheduleLine → Option Record → Trace → Option ℕ → Bool
fits_calls c lines next now None = true
fits_calls c lines next now (Some site) = is_cut_next next site || is_within_calls (disk_of c lines now site).armed

abbrev pub all_fit_calls : Config → List ScheduleLine → Option Record → Trace → Bool
all_fit_calls c lines next [] = true
all_fit_calls c lines next (r ∷ before) = fits_calls c lines next (r ∷ before) (writer_of r.what) && all_fit_calls c lines (Some r.what) before

-- after each version that is on a disk, and that no stop has cut off, the disk isn't armed, or has room for the versions
-- since its line
abbrev pub keeps_calls : Config → List ScheduleLine → Trace → Bool
keeps_calls c lines trace = all_fit_calls c lines None trace
