-- A storage role: its instances in memory, and its copies on the disk.
use Rattle.std.specs.Prelude.{◌≡◌, ℕ, Bool, true, false, List, [], ◌++◌, length, Option, Some, None}
use Rattle.locus_ids.specs.declared.ids.FileId.{FileId}
use Rattle.locus_ids.specs.declared.ids.Stamp.{Stamp}
use Rattle.locus_ids.specs.declared.ids.Mode.{Mode}
use Rattle.locus_ids.specs.declared.ids.Mode.TheVariants as mode
use Rattle.file_effects.specs.Works.{begun}
use Rattle.wire_messages.specs.declared.packet.Packet.{Packet}
use Rattle.wire_messages.specs.Outboxes.{Outgoing}
use Rattle.role_steps.specs.Tables.{row, with_latest}
use Rattle.role_steps.specs.Views.{FileSteps, Frame, Store, Outcome, and_then}
use Rattle.role_steps.specs.Storage.{StoreRequest, with_step, instance_key, instance_of, closed_packets, close_done, commits, next_stamp, next_vector, shuts_again}
use Rattle.role_steps.specs.Operations.{acts_committed}
use Rattle.wire_messages.specs.declared.body.CloseAnswer.TheVariants as closing
use Rattle.role_steps.specs.declared.copies.Step.{Step}
use Rattle.role_steps.specs.declared.instances.Instance.{Instance}
use Rattle.role_steps.specs.declared.instances.Stage.{Stage}
use Rattle.role_steps.specs.declared.instances.Stage.TheVariants as stage
use Rattle.site_frame.specs.Printed.{printed}
use Rattle.site_packs.specs.Packs.{PacksState, groups_of}
use Rattle.site_packs.specs.Copies.{copies_on}

-- what the role has in memory: its instances, and the commits and adoptions that it remembers
pub record StoreState : Type 0 where
  pub instances : List Instance
  pub steps : List FileSteps

-- what it has: also the copies that the packs hold on the disk
abbrev pub store_of : StoreState → PacksState → List ℕ → Store
store_of r p image = record { copies = copies_on (groups_of p) image; instances = r.instances; steps = r.steps }

-- the step that a call made of a file, if it made one, is remembered
abbrev pub with_made : FileId → Option Step → List FileSteps → List FileSteps
with_made file None all = all
with_made file (Some x) all = with_step file x all

-- an event gave this outcome: the store is as it says, and its packets are sent and its records told
pub record Gives (o : Outcome Store) (now : Store) (before after : Outgoing) : Type 0 where
  pub view : now ≡ o.view
  pub packets : after.packets ≡ before.packets ++ o.sent
  pub records : after.records ≡ before.records ++ printed o.told

-- the row is the one of its key
abbrev pub IsRow : Instance → List Instance → Type 0
IsRow i xs = row instance_key (instance_key i) xs ≡ Some i

-- the role as it is after an event at one instance, which is now this one and made this step or none
abbrev pub with_row_made : StoreState → Option Step → Instance → StoreState
with_row_made r made new = record { instances = with_latest instance_key new r.instances; steps = with_made new.file made r.steps }

-- such an event gave this outcome; the other instances stay
abbrev pub RowGives : Outcome Store → StoreState → Option Step → Instance → PacksState → List ℕ → Outgoing → Outgoing → Type 0
RowGives o r made new p image before after = Gives o (store_of (with_row_made r made new) p image) before after

abbrev pub is_running : Stage → Bool
is_running stage.Running = true
is_running (stage.Closing made a) = false
is_running (stage.Closed a) = false

-- what a repeated close sends
abbrev pub again_packets : Frame → Instance → Stage → List Packet
again_packets f i stage.Running = []
again_packets f i (stage.Closing made a) = closed_packets f i made
again_packets f i (stage.Closed a) = close_done f i a

-- what is owed is committed, and then answered
abbrev pub commits_and_acts : Frame → Instance → Store → Outcome Store
commits_and_acts f i s = and_then (commits f i s) (λ now. acts_committed f (next_stamp f (next_vector f i)) (instance_of now i.inst) now)

-- what is owed is committed, and then the close told
abbrev pub commits_and_shuts : Frame → Instance → Store → Outcome Store
commits_and_shuts f i s = and_then (commits f i s) (λ now. shuts_again f (closing.Made (next_stamp f (next_vector f i))) (instance_of now i.inst) now)

abbrev pub is_make : Mode → Bool
is_make mode.Make = true
is_make _ = false

-- the version that an instance begins from, where the site has a copy of the file or none
abbrev pub base_by : Mode → Bool → Stamp → Option Stamp
base_by mode.Make has base = None
base_by mode.Mend true base = Some base
base_by mode.Mend false base = None
base_by _ has base = Some base

-- an instance as it begins, from this version with this content
abbrev pub begun_with : StoreRequest → FileId → Option Stamp → List ℕ → Instance
begun_with r file base content = record {
  inst = r.inst;
  file = file;
  mode = r.mode;
  set = r.set;
  kind = r.kind;
  vector = r.vector;
  parents = r.parents;
  size = length content;
  work = begun r.mode base content;
  answered = None;
  stage = stage.Running;
}
