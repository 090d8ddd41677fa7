-- How the armed scripts of a world stand by the records and the lines so far.
use Rattle.std.specs.Prelude.{ℕ, ◌≡◌, ◌≤◌, ◌<◌, ◌+◌, ◌*◌, true, List, [], ◌∷◌, Option, Some, None}
use Rattle.locus_ids.specs.declared.config.Config.{Config}
use Rattle.schedule_lines.specs.declared.line.ScheduleLine.{ScheduleLine}
use Rattle.trace_book.specs.declared.record.Record.{Record}
use Rattle.trace_book.specs.declared.record.Record.TheVariants as says
use Rattle.role_steps.specs.Own.{Every}
use Rattle.role_steps.specs.Views.{Told, Shown}
use Rattle.site_laws.specs.of_the_run.Disks.{Armed as Script, Cut, Stops as Stopping, Fails as Failing}
use Rattle.site_laws.specs.of_the_run.Worlds.{World, armed_site, script_of}
use Rattle.lawful_trace.specs.Disks.{Armed, Arming, Stops, Fails, calls_of, armed_at, keeps_calls}
use Rattle.row_laws.specs.Shown.{trace_of, EachRecord}
use Rattle.row_laws.specs.Rows.{IsArmedFor}

-- ---- what changes no disk ----

-- the record tells neither of a boot, a stop nor a version
abbrev pub NoDiskRecord : Record → Type 0
NoDiskRecord (says.Up site boot) = ⊥
NoDiskRecord (says.Stopped site why) = ⊥
NoDiskRecord (says.Commit file site stamp parents content) = ⊥
NoDiskRecord (says.Adopt file site stamp) = ⊥
NoDiskRecord _ = Unit {0}

abbrev pub NoDisk : Told → Type 0
NoDisk (Shown r) = NoDiskRecord r
NoDisk _ = Unit {0}

-- ---- armed scripts ----

-- for a stop, or for a fault
abbrev pub SameKind : Arming → Cut → Type 0
SameKind (Stops calls leave) (Stopping left) = Unit {0}
SameKind (Fails calls) Failing = Unit {0}
SameKind _ _ = ⊥

-- the disk is armed as the script, and has let four calls pass at least for each version since
abbrev pub ArmedAs : Option Armed → Option Script → Type 0
ArmedAs None None = Unit {0}
ArmedAs (Some a) (Some x) = SameKind a.arming x.how × (4 * a.made + x.left ≤ calls_of a.arming)
ArmedAs _ _ = ⊥

-- scripts stand by their sites, one a site
abbrev pub Rises : List Script → Type 0
Rises [] = Unit {0}
Rises (x ∷ xs) = Every (λ (y : Script). armed_site x < armed_site y) xs × Rises xs

pub record ArmsInCourse (c : Config) (lines : List ScheduleLine) (n : ℕ) (w : World) : Type 0 where
  pub rises : Rises w.armed
  pub armed : (s : ℕ) → ArmedAs (armed_at c lines (trace_of w) n s) (script_of w s)
  pub rows : EachRecord (IsArmedFor c lines) (trace_of w)
  pub calls : keeps_calls c lines (trace_of w) ≡ true
