-- The disk of a site, exactly and as the lawful trace counts it, beside the script that the world holds and the place where the site
-- is.
use Rattle.std.specs.Prelude.{ℕ, ◌≡◌, ◌≤◌, ◌+◌, Bool, true, false, cond, List, length, Option, Some, None}
use Rattle.locus_ids.specs.declared.config.Config.{Config}
use Rattle.schedule_lines.specs.declared.line.ScheduleLine.{ScheduleLine}
use Rattle.the_run.specs.Disks.{Armed as Script, Cut, Stops as Stopping, Fails as Failing}
use Rattle.the_run.specs.Worlds.{World, Place, Running, Stopped, place_at, script_of}
use Rattle.lawful_trace.specs.Disks.{Armed, Arming, Stops, Fails, calls_of}
use Rattle.lawful_trace.specs.Disks as lawful
use Rattle.row_laws.specs.Arms.{Rises}
use Rattle.row_laws.specs.Shown.{trace_of, EachRecord}
use Rattle.rest_laws.specs.MendStepCounting.{IsCountedRow}
use Rattle.headline_laws.specs.WholeRuns.Wrote.{Disk, disk_at}

-- ---- one site ----

-- armed to stop, with the same bytes left, or to fail
abbrev pub SameArming : Arming → Cut → Type 0
SameArming (Stops calls leave) (Stopping left) = leave ≡ left
SameArming (Fails calls) Failing = Unit {0}
SameArming _ _ = ⊥

-- the calls since the line that armed the disk, and those that the script still lets pass, are those of the line
abbrev pub CountsAs : Option Armed → Option Script → Type 0
CountsAs None None = Unit {0}
CountsAs (Some a) (Some x) = SameArming a.arming x.how × (a.used + x.left ≡ calls_of a.arming)
CountsAs _ _ = ⊥

-- a running site has no two gates open; a stopped one has those of the label, and of one file at most
abbrev pub GatesAs : Disk → Option Place → Type 0
GatesAs d None = Unit {0}
GatesAs d (Some (Running v)) = (d.rest.halves ≡ false) × (d.slots ≡ false)
GatesAs d (Some (Stopped x)) = (d.rest.halves ≡ x.label.both_open) × (length x.both_open ≡ cond d.slots 1 0)

pub record CountsAt (d : Disk) (x : Option Script) (p : Option Place) : Type 0 where
  pub calls : CountsAs d.rest.armed x
  pub gates : GatesAs d p

-- ---- the least ----

abbrev pub is_stopped : Option Place → Bool
is_stopped (Some (Stopped x)) = true
is_stopped _ = false

-- no call was made since a stopped disk was armed
abbrev pub IsUnused : (stopped : Bool) → ℕ → Type 0
IsUnused true used = used ≡ 0
IsUnused false used = Unit {0}

-- armed alike, with no more calls
abbrev pub LeastArmed : (stopped : Bool) → Option Armed → Option Armed → Type 0
LeastArmed stopped None None = Unit {0}
LeastArmed stopped (Some a) (Some b) = (a.arming ≡ b.arming) × (a.used ≤ b.used) × IsUnused stopped b.used
LeastArmed stopped _ _ = ⊥

-- the disk that the lawful trace counts
pub record IsLeast (stopped : Bool) (least : lawful.Disk) (d : Disk) : Type 0 where
  pub armed : LeastArmed stopped least.armed d.rest.armed
  pub halves : least.halves ≡ d.rest.halves

-- ---- the world, where the line with this number is the last one that has begun ----

pub record CountsAreTheRuns (wrote : ℕ → List ℕ) (c : Config) (lines : List ScheduleLine) (n : ℕ) (w : World) : Type 0 where
  pub rises : Rises w.armed
  pub sites : (s : ℕ) → CountsAt (disk_at wrote c lines (trace_of w) n s) (script_of w s) (place_at w s)
  pub least : (s : ℕ) → IsLeast (is_stopped (place_at w s)) (lawful.disk_at c lines (trace_of w) n s) (disk_at wrote c lines (trace_of w) n s)
  pub rows : EachRecord (IsCountedRow c lines) (trace_of w)
