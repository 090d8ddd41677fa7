-- What a storage site has of instances in its epoch, by what was told and by the packets that were sent.
use Rattle.std.specs.Prelude.{ℕ, ◌≡◌, true, false, List, Some}
use Rattle.locus_ids.specs.declared.ids.EpochId.{EpochId}
use Rattle.locus_ids.specs.declared.ids.FileId.{FileId}
use Rattle.locus_ids.specs.declared.ids.Mode.{Mode}
use Rattle.commit_graph.specs.Grants.{is_read}
use Rattle.wire_messages.specs.declared.body.Body.{Body}
use Rattle.wire_messages.specs.declared.body.Body.TheVariants as body
use Rattle.role_steps.specs.Own.{Every}
use Rattle.role_steps.specs.Tables.{row}
use Rattle.role_steps.specs.Views.{SiteView, Told, serial_key}
use Rattle.role_steps.specs.Storage.{instance_key}
use Rattle.role_steps.specs.declared.instances.Instance.{Instance}
use Rattle.role_steps.specs.declared.instances.Stage.TheVariants as stage
use Rattle.role_steps.specs.declared.rounds.InEpoch.{InEpoch}
use Rattle.the_run.specs.Kept.{Among}
use Rattle.the_run.specs.Worlds.{World, Running, Numbered, place_at}
use Rattle.site_laws.specs.Vectors.Written.{past_of}
use Rattle.site_laws.specs.Packs.InstanceBook.{IsFor}
use Rattle.site_laws.specs.Locks.Going.{WasBegunAt, WasShutAt}

-- the table has an instance under this key, on this file
abbrev pub HasOn : List Instance → ℕ → FileId → Type 0
HasOn is key file = (i : Instance) × (row instance_key key is ≡ Some i) × (i.file ≡ file)

-- it has an instance under this key, which doesn't run
abbrev pub HasShut : List Instance → ℕ → Type 0
HasShut is key = (i : Instance) × (row instance_key key is ≡ Some i) × (i.stage ≡ stage.Running → ⊥)

-- the packet asks for an instance with this key to be opened in this mode, on this file, or to be made in its group
abbrev pub AsksIn : ℕ → Mode → FileId → Body → Type 0
AsksIn key m file (body.OpenSs inst asked mode set kind base vector parents) = (serial_key inst ≡ key) × (mode ≡ m) × IsFor m file asked
AsksIn key m file _ = ⊥

-- among the packets is one of this epoch that asks it of this site
pub record IsAsked (sent : List Numbered) (s : ℕ) (e : EpochId) (key : ℕ) (m : Mode) (file : FileId) : Type 0 where
  pub opening : Numbered
  pub was_sent : Among opening sent
  pub epoch_is : opening.packet.epoch ≡ e
  pub to_is : opening.packet.to ≡ s
  pub asks : AsksIn key m file opening.packet.body

-- an instance was asked for in its mode, on its file; one that owes a version isn't to read
pub record InstanceSo (sent : List Numbered) (s : ℕ) (e : EpochId) (i : Instance) : Type 0 where
  pub asked : IsAsked sent s e (serial_key i.inst) i.mode i.file
  pub owes : i.work.owes ≡ true → is_read i.mode ≡ false

-- a site has what it has begun in its epoch, on the file on which it was begun; what it has shut doesn't run
pub record Stands (sent : List Numbered) (past : List Told) (s : ℕ) (e : EpochId) (is : List Instance) : Type 0 where
  pub begun : (key : ℕ) (file : FileId) → WasBegunAt past s e key file → HasOn is key file
  pub shut : (key : ℕ) → WasShutAt past s e key → HasShut is key
  pub each : Every (InstanceSo sent s e) is

-- so it is with each running site that is in an epoch
abbrev pub StoresStand : World → Type 0
StoresStand w = (s : ℕ) (v : SiteView) (e : InEpoch) → place_at w s ≡ Some (Running v) → v.epoch ≡ Some e → Stands w.sent (past_of w.trace) s e.id v.store.instances
