-- In every run a file that nobody has committed is committed first under the make for which its number was reserved.
use Rattle.std.proofs.Common.{◌≡◌, ℕ, List, [], ◌∷◌, subst, inl, inr}
use Rattle.locus_ids.specs.declared.ids.EpochId.{EpochId}
use Rattle.locus_ids.specs.declared.ids.FileId.{FileId}
use Rattle.locus_ids.specs.declared.ids.Mode.{Mode}
use Rattle.locus_ids.specs.declared.ids.Mode.TheVariants as mode
use Rattle.locus_ids.specs.declared.config.Config.{Config}
use Rattle.schedule_lines.specs.declared.line.ScheduleLine.{ScheduleLine}
use Rattle.trace_book.specs.declared.record.Record.{Record}
use Rattle.trace_book.specs.declared.record.Record.TheVariants as says
use Rattle.role_steps.specs.Views.{Told, Shown, serial_key}
use Rattle.the_run.specs.Runs.{run_in}
use Rattle.site_laws.specs.Vectors.Written.{past_of}
use Rattle.site_laws.specs.Locks.Grants.{GrantedAs, WasGrantedAs}
use Rattle.site_laws.specs.Locks.Locks.{IsOfAFile}
use Rattle.site_laws.specs.Packs.Making.{WasCommitted}
use Rattle.site_laws.specs.Makes.RunningRunning.{IsRunning, RecordRuns, ToldRuns, InstancesRun, BegunAtOneSite}
use Rattle.site_laws.proofs.Makes.RunningOneSite.{run_one_site}
use Rattle.site_laws.proofs.Makes.RunningRunTold.{run_instances}
use Rattle.site_laws.specs.Makes.Holding.{WasReserved, ReservedRecord, ReservedTold, MakesAreReserved, ReservesAreApart}
use Rattle.site_laws.specs.Makes.Tables.{IsKnown, PlainGrantsAreFree}
use Rattle.site_laws.specs.Makes.First.{IsMadeAt, FirstRecord, FirstTold, MakesCommitFirst}
use Rattle.site_laws.proofs.Makes.ApartRun.{was_begun, run_apart}
use Rattle.site_laws.proofs.Makes.MakeRun.{run_free}
use Rattle.site_laws.proofs.Makes.LockedRun.{was_known}
use Rattle.site_laws.proofs.Makes.Modes.{run_reserved}

-- ---- what was reserved for a make that was granted ----

record_site : (e : EpochId) (key : ℕ) (file : FileId) (r : Record) (older : List Told) → GrantedAs e key file mode.Make (Shown r) → ReservedRecord older r → (s : ℕ) × WasReserved older s e key file
record_site e key file (says.Grant at call request inst mode.Make of stamp ss) older h k = (k.0, subst (WasReserved older k.0 e key) h.2 (subst (λ (n : ℕ). WasReserved older k.0 e n of) h.1 (subst (λ (i : EpochId). WasReserved older k.0 i (serial_key inst) of) h.0 k.1)))
record_site e key file (says.Grant at call request inst mode.Read of stamp ss) older h k = absurd (other_mode h.3)
  where
    other_mode : ◌≡◌ {A = Mode} mode.Read mode.Make → ⊥
    other_mode q = cc
record_site e key file (says.Grant at call request inst mode.Write of stamp ss) older h k = absurd (other_mode h.3)
  where
    other_mode : ◌≡◌ {A = Mode} mode.Write mode.Make → ⊥
    other_mode q = cc
record_site e key file (says.Grant at call request inst mode.Resolve of stamp ss) older h k = absurd (other_mode h.3)
  where
    other_mode : ◌≡◌ {A = Mode} mode.Resolve mode.Make → ⊥
    other_mode q = cc
record_site e key file (says.Grant at call request inst mode.Mend of stamp ss) older h k = absurd (other_mode h.3)
  where
    other_mode : ◌≡◌ {A = Mode} mode.Mend mode.Make → ⊥
    other_mode q = cc
record_site e key file _ older h k = absurd h

told_site : (e : EpochId) (key : ℕ) (file : FileId) (x : Told) (older : List Told) → GrantedAs e key file mode.Make x → ReservedTold older x → (s : ℕ) × WasReserved older s e key file
told_site e key file (Shown r) older h k = record_site e key file r older h k
told_site e key file _ older h k = absurd h

reserved_site : (e : EpochId) (key : ℕ) (file : FileId) (past : List Told) → WasGrantedAs past e key file mode.Make → MakesAreReserved past → (s : ℕ) × WasReserved past s e key file
reserved_site e key file [] h k = absurd h
reserved_site e key file (x ∷ older) (inl h) k = let r : (s : ℕ) × WasReserved older s e key file = told_site e key file x older h k.0 in (r.0, inr r.1)
reserved_site e key file (x ∷ older) (inr h) k = let r : (s : ℕ) × WasReserved older s e key file = reserved_site e key file older h k.1 in (r.0, inr r.1)

-- ---- a first commit ----

-- laws of every run about what was told
record Whole (past : List Told) : Type 0 where
  one : BegunAtOneSite past
  free : PlainGrantsAreFree past
  apart : ReservesAreApart past
  reserved : MakesAreReserved past

before : (x : Told) (older : List Told) → Whole (x ∷ older) → Whole older
before x older w = record { one = λ e key s t f g a b. w.one e key s t f g (inr a) (inr b); free = w.free.1; apart = w.apart.1; reserved = w.reserved.1 }

by_mode : (older : List Told) (s : ℕ) (file : FileId) (e : EpochId) (key : ℕ) (m : Mode) → Whole older → IsRunning older s e key file m → (file.ino ≡ 1 → ⊥) → (WasCommitted older file → ⊥) → (IsOfAFile m → IsMadeAt older s file)
by_mode older s file e key m w runs root none plain = by_known (was_known e key file m older runs.granted plain w.free)
  where
    by_known : IsKnown older file → IsMadeAt older s file
    by_known (inl k) = absurd (root k)
    by_known (inr k) = absurd (none k)

first_commit : (older : List Told) (s : ℕ) (file : FileId) (e : EpochId) (key : ℕ) (m : Mode) → Whole older → IsRunning older s e key file m → (file.ino ≡ 1 → ⊥) → (WasCommitted older file → ⊥) → IsMadeAt older s file
first_commit older s file e key mode.Make w runs root none =
    let r : (t : ℕ) × WasReserved older t e key file = reserved_site e key file older runs.granted w.reserved in
    let same : r.0 ≡ s = w.one e key r.0 s file file (was_begun r.0 e key file older r.1 w.apart) runs.was_begun in
    record { epoch = e; key = key; runs = runs; reserved = subst (λ (n : ℕ). WasReserved older n e key file) same r.1 }
first_commit older s file e key mode.Read w runs root none = by_mode older s file e key mode.Read w runs root none tt
first_commit older s file e key mode.Write w runs root none = by_mode older s file e key mode.Write w runs root none tt
first_commit older s file e key mode.Resolve w runs root none = by_mode older s file e key mode.Resolve w runs root none tt
first_commit older s file e key mode.Mend w runs root none = by_mode older s file e key mode.Mend w runs root none tt

record_first : (older : List Told) (r : Record) → Whole older → RecordRuns older r → FirstRecord older r
record_first older (says.Commit file s stamp parents content) w h = λ root none. first_commit older s file h.epoch h.key h.mode w h.runs root none
record_first older _ w h = tt

told_first : (older : List Told) (x : Told) → Whole older → ToldRuns older x → FirstTold older x
told_first older (Shown r) w h = record_first older r w h
told_first older _ w h = tt

all_first : (past : List Told) → Whole past → InstancesRun past → MakesCommitFirst past
all_first [] w h = tt
all_first (x ∷ older) w h = (told_first older x (before x older w) h.0, all_first older (before x older w) h.1)

pub run_first : (c : Config) (lines : List ScheduleLine) → MakesCommitFirst (past_of (run_in c lines).trace)
run_first c lines =
    let apart : ReservesAreApart (past_of (run_in c lines).trace) = run_apart c lines in
    all_first (past_of (run_in c lines).trace) (record { one = run_one_site c lines; free = run_free c lines apart; apart = apart; reserved = run_reserved c lines }) (run_instances c lines)
