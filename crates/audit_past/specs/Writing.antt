-- The one instance, and the one call, that a record of a tree is a step of.
use Rattle.std.specs.Prelude.{ℕ, ◌≡◌, ◌≤◌, Bool, List, [], ◌∷◌, length, filter, Some}
use Rattle.std.specs.List.{find}
use Rattle.locus_ids.specs.declared.config.Config.{Config}
use Rattle.locus_ids.specs.declared.ids.FileId.{FileId}
use Rattle.locus_ids.specs.declared.ids.EpochId.{EpochId}
use Rattle.locus_ids.specs.declared.ids.CallId.{CallId}
use Rattle.locus_ids.specs.declared.ids.Serial.{Serial}
use Rattle.tree_model.specs.Files.{kind_made}
use Rattle.tree_model.specs.Opening.{sites_made}
use Rattle.tree_model.specs.Packs.{packs_of}
use Rattle.promises.specs.Past.{Past, CallSoFar, Epoch, Instance, Making, epoch_at, is_named, is_writer}
use Rattle.promises.specs.After.{change, is_actor, is_ender, is_epoch, is_home_of, is_id}
use Rattle.audit_epochs.specs.of_audit_instances.Rows.{no_work}
use Rattle.audit_epochs.specs.Changes.{works}

-- the file is committed at the site by this instance of the epoch that the site is in, which this call opened
pub record IsWritten (p : Past) (f : FileId) (site : ℕ) : Type 0 where
  pub epoch : Epoch
  pub there : find (is_home_of p site) p.epochs ≡ Some epoch
  pub writer : Instance
  pub alone : filter (is_writer f site) epoch.opened ≡ writer ∷ []
  pub call : CallSoFar
  pub called : find (is_id writer.grant.call) p.calls ≡ Some call

-- what the call said of the file that it makes
abbrev pub made_by : Config → FileId → CallSoFar → Making
made_by c f k = record { file = f; kind = kind_made (Some k.words); set = sites_made (packs_of c f.group) (Some k.words) }

-- the making is what the call said of it, whose instance is the first that may be committed there
pub record IsSaid (p : Past) (c : Config) (f : FileId) (site : ℕ) (m : Making) : Type 0 where
  pub epoch : Epoch
  pub there : find (is_home_of p site) p.epochs ≡ Some epoch
  pub writer : Instance
  pub first : find (is_writer f site) epoch.opened ≡ Some writer
  pub call : CallSoFar
  pub called : find (is_id writer.grant.call) p.calls ≡ Some call
  pub said : m ≡ made_by c f call

-- the instance is open in the epoch
pub record IsOpen (p : Past) (e : EpochId) (i : Serial) : Type 0 where
  pub epoch : Epoch
  pub once : length (filter (is_epoch e) p.epochs) ≤ 1
  pub there : find (is_epoch e) p.epochs ≡ Some epoch
  pub instance : Instance
  pub single : length (filter (is_named i) epoch.opened) ≤ 1
  pub named : find (is_named i) epoch.opened ≡ Some instance

-- the call of this name alone passes
pub record IsOneCall (calls : List CallSoFar) (which : CallSoFar → Bool) (id : CallId) : Type 0 where
  pub call : CallSoFar
  pub found : find which calls ≡ Some call
  pub alone : length (filter which calls) ≤ 1
  pub own : call.id ≡ id
  pub once : length (filter (is_id id) calls) ≤ 1

-- the n-th operation of the instance is a step of this call
abbrev pub IsActor : Past → EpochId → Serial → ℕ → CallId → Type 0
IsActor p e i n id = IsOneCall p.calls (is_actor (epoch_at p e) i n) id

-- its release is
abbrev pub IsEnder : Past → EpochId → Serial → CallId → Type 0
IsEnder p e i id = IsOneCall p.calls (is_ender (epoch_at p e) i) id

-- the past while the work of the instance is handed out
abbrev pub handed_out : EpochId → Serial → Past → Past
handed_out e i p = record p { epochs = change (is_epoch e) (works i no_work) p.epochs }
