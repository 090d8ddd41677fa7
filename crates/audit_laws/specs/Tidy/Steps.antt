-- What a record that may follow has to do with in a tidy past: one call, one instance.
use Rattle.std.specs.Prelude.{◌≤◌, length, ℕ, ◌≡◌, ◌+◌, [], ◌∷◌, filter, Some}
use Rattle.std.specs.List.{find}
use Rattle.locus_ids.specs.declared.config.Config.{Config}
use Rattle.locus_ids.specs.declared.ids.CallId.{CallId}
use Rattle.locus_ids.specs.declared.ids.EpochId.{EpochId}
use Rattle.locus_ids.specs.declared.ids.FileId.{FileId}
use Rattle.locus_ids.specs.declared.ids.Serial.{Serial}
use Rattle.tree_model.specs.Files.{kind_made}
use Rattle.tree_model.specs.Opening.{sites_made}
use Rattle.tree_model.specs.Packs.{packs_of}
use Rattle.promises.specs.Past.{Past, Making, Epoch, CallSoFar, Instance, acts, ends, epoch_at, is_named, site_at, is_writer}
use Rattle.promises.specs.After.{change, is_actor, is_ender, is_epoch, is_home_of, is_id, process_of, writers_of}

-- the call that a reply, a look, a grant or a refusal names
pub record OneCall (p : Past) (id : CallId) : Type 0 where
  pub call : CallSoFar
  pub only : filter (is_id id) p.calls ≡ call ∷ []
  pub found : find (is_id id) p.calls ≡ Some call
  pub process : process_of p id ≡ call.process

-- the open instance that an operation or a release names, and its call: to change those whose step it is, is to change it by name
pub record OneAct (p : Past) (e : EpochId) (i : Serial) (n : ℕ) : Type 0 where
  pub there : find (is_epoch e) p.epochs ≡ Some (epoch_at p e)
  pub instance : Instance
  pub only : filter (is_named i) (epoch_at p e).opened ≡ instance ∷ []
  pub named : find (is_named i) (epoch_at p e).opened ≡ Some instance
  pub next : n ≡ instance.work.ops + 1
  pub call : CallSoFar
  pub found : find (acts (epoch_at p e).id instance n) p.calls ≡ Some call
  pub actor : find (is_actor (epoch_at p e) i n) p.calls ≡ Some call
  pub alone : length (filter (is_actor (epoch_at p e) i n) p.calls) ≤ 1
  pub by_name : (f : CallSoFar → CallSoFar) → change (is_actor (epoch_at p e) i n) f p.calls ≡ change (is_id call.id) f p.calls

pub record OneEnd (p : Past) (e : EpochId) (i : Serial) : Type 0 where
  pub there : find (is_epoch e) p.epochs ≡ Some (epoch_at p e)
  pub instance : Instance
  pub only : filter (is_named i) (epoch_at p e).opened ≡ instance ∷ []
  pub named : find (is_named i) (epoch_at p e).opened ≡ Some instance
  pub call : CallSoFar
  pub found : find (ends (epoch_at p e).id instance) p.calls ≡ Some call
  pub ender : find (is_ender (epoch_at p e) i) p.calls ≡ Some call
  pub alone : length (filter (is_ender (epoch_at p e) i) p.calls) ≤ 1
  pub by_name : (f : CallSoFar → CallSoFar) → change (is_ender (epoch_at p e) i) f p.calls ≡ change (is_id call.id) f p.calls

-- the instance by which a version is committed, its epoch, and its call
pub record OneCommit (p : Past) (f : FileId) (site : ℕ) : Type 0 where
  pub home : EpochId
  pub inside : (site_at p site).epoch ≡ Some home
  pub epoch : Epoch
  pub homes : filter (is_home_of p site) p.epochs ≡ epoch ∷ []
  pub there : find (is_home_of p site) p.epochs ≡ Some epoch
  pub instance : Instance
  pub writer : filter (is_writer f site) epoch.opened ≡ instance ∷ []
  pub writers : writers_of p f site ≡ instance ∷ []
  pub call : CallSoFar
  pub called : filter (is_id instance.grant.call) p.calls ≡ call ∷ []
  pub found : find (is_id instance.grant.call) p.calls ≡ Some call

-- what the first commit of a file tells of it: what the call said whose instance it is committed by
abbrev pub made_by : Config → FileId → CallSoFar → Making
made_by c f k = record { file = f; kind = kind_made (Some k.words); set = sites_made (packs_of c f.group) (Some k.words) }
