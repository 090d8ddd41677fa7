-- A disk call of a site is cut: exactly the one after the last that its armed disk lets pass, and with what that leaves. A call
-- is a write or a sync.
use Rattle.std.specs.Prelude.{ℕ, ◌≡◌, ◌<◌, ◌+◌, ◌⊎◌, nat_lt, Bool, true, false, List, [], ◌∷◌, length, Option, Some, None}
use Rattle.locus_ids.specs.declared.config.Config.{Config}
use Rattle.locus_ids.specs.declared.ids.EpochId.{EpochId}
use Rattle.locus_ids.specs.declared.ids.FileId.{FileId}
use Rattle.locus_ids.specs.declared.ids.Stamp.{Stamp}
use Rattle.call_rules.specs.declared.want.Want.TheVariants as asks
use Rattle.trace_book.specs.declared.entry.Entry.{Entry}
use Rattle.trace_book.specs.declared.operation.Op.TheVariants as op
use Rattle.trace_book.specs.declared.record.Record.{Record}
use Rattle.trace_book.specs.declared.record.Record.TheVariants.{Stopped, Commit, Adopt}
use Rattle.trace_book.specs.declared.record.StopCause.TheVariants as cause
use Rattle.schedule_lines.specs.declared.line.ScheduleLine.{ScheduleLine}
use Rattle.disk_calls.specs.Boots.{calls_of_boot}
use Rattle.disk_calls.specs.Versions.{is_written}
use Rattle.tree_model.specs.declared.instance.Instance.{Instance}
use Rattle.tree_model.specs.Folds.{Trace}
use Rattle.tree_model.specs.Epochs.{epoch_of, is_up}
use Rattle.tree_model.specs.Files.{committing}
use Rattle.lawful_trace.specs.Disks.{Armed, Writing, calls_of, is_fault, cut_of, calls_of_writing, writing_commit, writer_of, is_cut_next}
use Rattle.lawful_trace.specs.Places.{line_at}
use Rattle.lawful_trace.specs.Prompt.{stands_at}
use Rattle.lawful_trace.specs.SiteRows.{IsBootAsked}
use Rattle.lawful_trace.specs.Tables.{call_of_act, call_of_release}
use Rattle.lawful_trace.specs.TreeRows.{IsStepOf, MayCommit, MayAdopt}
use Rattle.row_laws.specs.Shown.{EachRecord}
use Rattle.headline_laws.specs.WholeRuns.Wrote.{writing_adopted, disk_of, disk_at, armed_at}

-- How many calls.

-- Of so many calls that are made now so many pass, and the next one is the first that the armed disk doesn't let pass.
pub record IsCutAt (a : Armed) (calls passed : ℕ) : Type 0 where
  pub inside : passed < calls
  pub count : a.used + passed ≡ calls_of a.arming

-- Versions.

-- how a version is written of which the record tells: a commit writes the pages that its instance has changed, an adoption these
abbrev pub Writes : List ℕ → Config → Trace → Record → Writing → Type 0
Writes pages c before (Commit f site stamp parents content) w = w ≡ writing_commit c before f site
Writes pages c before (Adopt f site stamp) w = w ≡ writing_adopted pages c before f site stamp
Writes pages c before _ w = ⊥

-- A call asks now that the instance which commits the file here be closed, or that it be committed.
pub record IsCommitAsked (c : Config) (before : Trace) (f : FileId) (site : ℕ) : Type 0 where
  pub epoch : EpochId
  pub inside : epoch_of before site ≡ Some epoch
  pub instance : Instance
  pub committing_is : committing c before f site ≡ Some instance
  pub asked : IsStepOf c before epoch (call_of_release before epoch instance.grant.inst) (asks.Close instance.grant.inst)
      ⊎ IsStepOf c before epoch (call_of_act before epoch instance.grant.inst (instance.work.ops + 1)) (asks.Do instance.grant.inst op.Commit)

-- The version of this record may be written now, so that its record may come next; a commit is asked for by a call.
abbrev pub IsUnderway : Config → Trace → Record → Type 0
IsUnderway c before (Commit f site stamp parents content) = MayCommit c before f site stamp parents content × IsCommitAsked c before f site
IsUnderway c before (Adopt f site stamp) = MayAdopt c before f site stamp
IsUnderway c before _ = ⊥

-- A call is cut by which the site writes the version of this record. What the cut leaves decides whether the version is on the
-- disk.
pub record IsVersionCut (wrote : ℕ → List ℕ) (c : Config) (before : Trace) (site : ℕ) (r : Record) (a : Armed) (stays : Bool) : Type 0 where
  pub own : writer_of r ≡ Some site
  pub writing : Writing
  pub writes : Writes (wrote (length before)) c before r writing
  pub passed : ℕ
  pub cut : IsCutAt a (calls_of_writing writing) passed
  pub left : is_written writing (cut_of a.arming) passed ≡ stays

-- Stops.

-- the disk of the site is armed so at the line with this number: for a fault, or for a stop
pub record IsArmed (wrote : ℕ → List ℕ) (c : Config) (lines : List ScheduleLine) (before : Trace) (n site : ℕ) (fault : Bool) (a : Armed) : Type 0 where
  pub armed : armed_at wrote c lines before n site ≡ Some a
  pub fault_is : is_fault a.arming ≡ fault

-- A version was cut, and stays: the last record, of the same line, tells of it.
pub record IsCutAfter (wrote : ℕ → List ℕ) (c : Config) (lines : List ScheduleLine) (last : Entry) (before : Trace) (n site : ℕ) (fault : Bool) : Type 0 where
  pub same_line : last.line ≡ n
  pub arming : Armed
  pub armed : IsArmed wrote c lines before n site fault arming
  pub cut : IsVersionCut wrote c before site last.what arming true

-- Or a version was cut, and doesn't stay: it was underway, at a line where its record may stand.
pub record IsCutBefore (wrote : ℕ → List ℕ) (c : Config) (lines : List ScheduleLine) (before : Trace) (n site : ℕ) (fault : Bool) : Type 0 where
  pub arming : Armed
  pub armed : IsArmed wrote c lines before n site fault arming
  pub version : Record
  pub underway : IsUnderway c before version
  pub place : stands_at (line_at lines n) version ≡ true
  pub cut : IsVersionCut wrote c before site version arming false

-- Or the line boots the site, and a call of the boot was cut.
pub record IsCutBooting (wrote : ℕ → List ℕ) (c : Config) (lines : List ScheduleLine) (before : Trace) (n site : ℕ) (fault : Bool) : Type 0 where
  pub asked : IsBootAsked lines n site
  pub arming : Armed
  pub armed : IsArmed wrote c lines before n site fault arming
  pub passed : ℕ
  pub cut : IsCutAt arming (calls_of_boot (disk_at wrote c lines before n site).rest.halves (disk_at wrote c lines before n site).slots) passed

abbrev pub CutWhileUp : (ℕ → List ℕ) → Config → List ScheduleLine → Trace → ℕ → ℕ → Bool → Type 0
CutWhileUp wrote c lines [] n site fault = IsCutBefore wrote c lines [] n site fault
CutWhileUp wrote c lines (last ∷ before) n site fault = IsCutAfter wrote c lines last before n site fault ⊎ IsCutBefore wrote c lines (last ∷ before) n site fault

-- a site that runs is stopped in a version, and one that is stopped in its boot
abbrev pub CutOf : (ℕ → List ℕ) → Config → List ScheduleLine → Trace → ℕ → ℕ → Bool → (up : Bool) → Type 0
CutOf wrote c lines before n site fault true = CutWhileUp wrote c lines before n site fault
CutOf wrote c lines before n site fault false = IsCutBooting wrote c lines before n site fault

-- A site is stopped within a disk call only where one of the three holds.
abbrev pub CutRecord : (ℕ → List ℕ) → Config → List ScheduleLine → ℕ → Trace → Record → Type 0
CutRecord wrote c lines n before (Stopped site cause.Fuse) = CutOf wrote c lines before n site false (is_up c before site)
CutRecord wrote c lines n before (Stopped site cause.Fault) = CutOf wrote c lines before n site true (is_up c before site)
CutRecord wrote c lines n before _ = Unit {0}

abbrev pub IsCutRow : (ℕ → List ℕ) → Config → List ScheduleLine → Trace → Entry → Type 0
IsCutRow wrote c lines before r = CutRecord wrote c lines r.line before r.what

-- No disk goes on after that.

-- an armed disk was used for more calls than pass
abbrev pub is_overrun : Option Armed → Bool
is_overrun None = false
is_overrun (Some a) = nat_lt (calls_of a.arming) a.used

-- Where the disk of a site is so after a record, the next record is the stop of that site.
abbrev pub HeedsStops : (ℕ → List ℕ) → Config → List ScheduleLine → (next : Option Record) → Trace → Type 0
HeedsStops wrote c lines next [] = Unit {0}
HeedsStops wrote c lines next (r ∷ before) = ((site : ℕ) → is_overrun (disk_of wrote c lines (r ∷ before) site).rest.armed ≡ true → is_cut_next next site ≡ true) × HeedsStops wrote c lines (Some r.what) before

-- Both of a trace, if adoptions wrote these pages.
pub record AreExact (wrote : ℕ → List ℕ) (c : Config) (lines : List ScheduleLine) (trace : Trace) : Type 0 where
  pub cuts : EachRecord (IsCutRow wrote c lines) trace
  pub heeds : HeedsStops wrote c lines None trace

-- for some pages that they wrote
pub record CutsAreExact (c : Config) (lines : List ScheduleLine) (trace : Trace) : Type 0 where
  pub wrote : ℕ → List ℕ
  pub exact : AreExact wrote c lines trace
