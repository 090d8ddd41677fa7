-- The disk of a site where it is known which pages each adoption wrote: exactly how many calls were made, and which gates a stop has
-- left open two and two. (The lawful trace, which tells of no pages, counts the least.)
use Rattle.std.specs.Prelude.{ℕ, ◌+◌, ◌-◌, ◌==◌, ◌<◌, ◌≡◌, Bool, false, cond, List, length, filter, Option, None, Some}
use Rattle.file_content.specs.Pages.{has_page, pages_from}
use Rattle.locus_ids.specs.declared.config.Config.{Config}
use Rattle.locus_ids.specs.declared.ids.FileId.{FileId}
use Rattle.locus_ids.specs.declared.ids.Stamp.{Stamp}
use Rattle.trace_book.specs.declared.record.Record.{Record}
use Rattle.trace_book.specs.declared.record.Record.TheVariants.{Up, Stopped, Commit, Adopt}
use Rattle.schedule_lines.specs.declared.line.ScheduleLine.{ScheduleLine}
use Rattle.disk_calls.specs.Boots.{calls_of_boot, are_slots_open}
use Rattle.disk_calls.specs.Versions.{are_left_open}
use Rattle.tree_model.specs.Epochs.{is_up}
use Rattle.tree_model.specs.Folds.{Trace, last_line, over}
use Rattle.role_steps.specs.Views.{DiskWrite}
use Rattle.lawful_trace.specs.Disks.{Arming, Armed, Writing, calls_of, cut_of, first_disk, through_lines, written, stopped_with, writing_at, writing_commit, pages_held}
use Rattle.lawful_trace.specs.Disks.{Disk as Halves}

-- The disk: how it is armed and whether both halves of its label have an open gate; and whether both slots of a file have one. Only a
-- stop leaves two gates open, and a boot closes one of them, so there is one such file at most.
pub record Disk : Type 0 where
  pub rest : Halves
  pub slots : Bool

-- an adoption that wrote these pages, as far as its version has them
abbrev pub writing_adopted : List ℕ → Config → Trace → FileId → ℕ → Stamp → Writing
writing_adopted pages c before f site stamp = writing_at c before f site (pages_held c before f (Some stamp)) (filter (has_page pages) (pages_from 0 (pages_held c before f (Some stamp))))

-- once a version is on the disk where the disk let so many calls pass: both slots are open where the old gate wasn't closed
abbrev pub slots_after : Writing → Bool → Option Armed → Bool
slots_after w slots None = slots
slots_after w slots (Some a) = are_left_open w (cut_of a.arming) (calls_of a.arming - a.used)

-- the disk after a version was written
abbrev pub disk_written : Writing → Disk → Disk
disk_written w d = record { rest = written w d.rest; slots = slots_after w d.slots d.rest.armed }

abbrev pub halves_booted : Bool → Halves → Option Armed → Halves
halves_booted slots d None = record { armed = None; halves = false }
halves_booted slots d (Some a) = record { armed = Some (record a { used = a.used + calls_of_boot d.halves slots }); halves = false }

abbrev pub disk_booted : Disk → Disk
disk_booted d = record { rest = halves_booted d.slots d.rest d.rest.armed; slots = false }

-- a stopped site that stops was cut in its boot; any other stop changes no gate that an earlier record doesn't tell
abbrev pub slots_stopped : (up : Bool) → Halves → Bool → Option Armed → Bool
slots_stopped up d slots None = slots
slots_stopped up d slots (Some a) = cond up slots (are_slots_open d.halves slots (cut_of a.arming) (calls_of a.arming - a.used))

abbrev pub disk_stopped : (up : Bool) → Disk → Disk
disk_stopped up d = record { rest = stopped_with up d.rest d.rest.armed; slots = slots_stopped up d.rest d.slots d.rest.armed }

abbrev pub disk_after : List ℕ → Record → Config → Trace → ℕ → Disk → Disk
disk_after pages (Up s boot) c before site d = cond (s == site) (disk_booted d) d
disk_after pages (Stopped s cause) c before site d = cond (s == site) (disk_stopped (is_up c before site) d) d
disk_after pages (Commit f s stamp parents content) c before site d = cond (s == site) (disk_written (writing_commit c before f site) d) d
disk_after pages (Adopt f s stamp) c before site d = cond (s == site) (disk_written (writing_adopted pages c before f site stamp) d) d
disk_after pages _ c before site d = d

abbrev pub disk_through : List ScheduleLine → ℕ → ℕ → ℕ → Disk → Disk
disk_through lines site first last d = record d { rest = through_lines lines site first last d.rest }

-- the disk of the site after these records, by what each of them wrote: so many records stand before it
abbrev pub disk_of : (ℕ → List ℕ) → Config → List ScheduleLine → Trace → ℕ → Disk
disk_of wrote c lines trace site =
    over (record { rest = first_disk; slots = false }) (λ r before old. disk_after (wrote (length before)) r.what c before site (disk_through lines site (last_line before) r.line old)) trace

-- the disk as the line with this number finds it, and then its armed part
abbrev pub disk_at : (ℕ → List ℕ) → Config → List ScheduleLine → Trace → ℕ → ℕ → Disk
disk_at wrote c lines before n site = disk_through lines site (last_line before) n (disk_of wrote c lines before site)

abbrev pub armed_at : (ℕ → List ℕ) → Config → List ScheduleLine → Trace → ℕ → ℕ → Option Armed
armed_at wrote c lines before n site = (disk_at wrote c lines before n site).rest.armed

-- ---- what was written ----

-- they tell the same of the records before so many
abbrev pub AgreeBelow : ℕ → (ℕ → List ℕ) → (ℕ → List ℕ) → Type 0
AgreeBelow n a b = (k : ℕ) → k < n → a k ≡ b k

-- the event of the next record writes this
abbrev pub wrote_next : ℕ → Option DiskWrite → (ℕ → List ℕ) → ℕ → List ℕ
wrote_next n None wrote k = wrote k
wrote_next n (Some d) wrote k = cond (k == n) d.pages (wrote k)
