-- A look by how it stands to the last one of its process.
use Rattle.std.proofs.Common.{◌≡◌, ℕ, true, false, Bool, Option, Some, None, [], ◌∷◌, refl}
use Rattle.role_steps.specs.Tables.{row}
use Rattle.role_steps.specs.Views.{Frame, Outcome, quiet, sends, packet, process_key}
use Rattle.role_steps.specs.Versions.{file_row}
use Rattle.role_steps.specs.Looks.{LookRequest, look_key, is_look_before, is_same_look, new_look, after_last, takes_look}
use Rattle.role_steps.specs.declared.synchronizing.SyncTable.{SyncTable}
use Rattle.role_steps.specs.declared.synchronizing.LastLook.{LastLook}
use Rattle.css_core.specs.Lettered.{turn_after, last_sent}
use Rattle.css_core.specs.declared.looks.Turn.{Turn}
use Rattle.css_core.specs.declared.looks.Turn.TheVariants.{Lower, Same, Higher}

abbrev pub by_turn : Frame → ℕ → LookRequest → Option LastLook → Turn → SyncTable → Outcome SyncTable
by_turn f us l o Lower t = quiet t
by_turn f us l o Same t = sends (last_sent f o) t
by_turn f us l o Higher t = new_look f us l (file_row t l.file.ino) t

by_tests : (b s : Bool) (f : Frame) (us : ℕ) (l : LookRequest) (last : LastLook) (t : SyncTable) → ◌≡◌ {A = Outcome SyncTable} (elim b [
  | true ↦ quiet t
  | false ↦ elim s [
    | true ↦ sends (packet f last.to last.body ∷ []) t
    | false ↦ new_look f us l (file_row t l.file.ino) t
  ]
]) (by_turn f us l (Some last) (elim b [
  | true ↦ Lower
  | false ↦ elim s [
    | true ↦ Same
    | false ↦ Higher
  ]
]) t)
by_tests true s f us l last t = refl
by_tests false true f us l last t = refl
by_tests false false f us l last t = refl

after : (f : Frame) (us : ℕ) (l : LookRequest) (o : Option LastLook) (t : SyncTable) → after_last f us l o t ≡ by_turn f us l o (turn_after l o) t
after f us l None t = refl
after f us l (Some last) t = by_tests (is_look_before l last) (is_same_look l last) f us l last t

pub taken_as : (f : Frame) (us : ℕ) (l : LookRequest) (t : SyncTable) → takes_look f us l t ≡ by_turn f us l (row look_key (process_key us l.process) t.looks) (turn_after l (row look_key (process_key us l.process) t.looks)) t
taken_as f us l t = after f us l (row look_key (process_key us l.process) t.looks) t
