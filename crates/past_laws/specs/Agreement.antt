-- The value of the records so far, and today's folds over a trace, say the same: two formulations of what the records tell.
use Rattle.std.specs.Prelude.{ℕ, ◌≡◌, ◌==◌, ◌≤◌, Bool, true, false, ◌&&◌, nat_le, List, [], ◌∷◌, length, filter, map, reverse, Some, None}
use Rattle.std.specs.List.{find, list_any, list_all, AllByRecursion}
use Rattle.std.specs.Option.{option_map}
use Rattle.locus_ids.specs.declared.config.Config.{Config}
use Rattle.locus_ids.specs.declared.ids.FileId.{FileId}
use Rattle.locus_ids.specs.declared.ids.EpochId.{EpochId}
use Rattle.locus_ids.specs.declared.ids.CallId.{CallId}
use Rattle.locus_ids.specs.declared.ids.Serial.{Serial}
use Rattle.commit_graph.specs.Vectors.{numbers_from}
use Rattle.commit_graph.specs.Versions.{same_file}
use Rattle.trace_book.specs.declared.descriptor.Beginning.TheVariants.{Uses}
use Rattle.trace_book.specs.declared.record.Record.{Record}
use Rattle.trace_book.specs.declared.record.Record.TheVariants.{Up, Stopped, Leave, Join, Accept, Answer, Commit, Adopt}
use Rattle.call_rules.specs.Descriptors.{lowest_free}
use Rattle.tree_model.specs.declared.accepted.Waiting.{Waiting}
use Rattle.tree_model.specs.declared.instance.Instance.{Instance}
use Rattle.tree_model.specs.Calls.{call_named, waiting, opening_of}
use Rattle.tree_model.specs.Epochs.{is_up, boot_of, epoch_of, last_joined, calls_accepted, has_joined, members_of}
use Rattle.tree_model.specs.Files.{kind_of_file, set_of_file}
use Rattle.tree_model.specs.Folds.{Trace}
use Rattle.tree_model.specs.Histories.{history, held as held_by}
use Rattle.tree_model.specs.State.{held_at, is_group_of, is_grant_of}
use Rattle.tree_model.specs.Tree.{tree_of}
use Rattle.call_rules.specs.declared.want.Want.TheVariants.{Give}
use Rattle.promises.specs.of_lawful_trace.CallRows.{has_lost_mend, is_this}
use Rattle.promises.specs.of_lawful_trace.Progress.{answers, now_wants}
use Rattle.promises.specs.of_lawful_trace.Tables.{begun, descriptor, opened_as}
use Rattle.promises.specs.Past.{Past, Site, Epoch, CallSoFar, Instance as OpenInstance, Make, Making, Copy, copies_in, is_named, site_at, epoch_at, making_of, is_number, held, held_in, table}
use Rattle.tree_model.specs.Packs.{has_pack}
use Rattle.promises.specs.After.{is_copy_below, is_epoch, is_id, after}
use Rattle.promises.specs.Rows.{is_there, brought_in}
use Rattle.promises.specs.Past.{nothing_yet}
use Rattle.past_laws.specs.Made.{AreMade}
use Rattle.past_laws.specs.Firsts.{FirstsStand}
use Rattle.past_laws.specs.Packed.{ArePacked}
use Rattle.past_laws.specs.Standing.{UsersStand, CallStands, EpochStands, is_open}

-- The value of a trace, the latest record first.

abbrev pub past : Config → Trace → Past
past c [] = nothing_yet c
past c (r ∷ before) = after c r.what (past c before)

-- What is asked of a trace besides that its rows hold: its records speak of sites of the cluster.

abbrev pub is_of_cluster : Config → ℕ → Bool
is_of_cluster c site = nat_le 1 site && nat_le site c.sites

abbrev pub speaks_of_sites : Config → Record → Bool
speaks_of_sites c (Up site boot) = is_of_cluster c site
speaks_of_sites c (Stopped site cause) = is_of_cluster c site
speaks_of_sites c (Leave site e) = is_of_cluster c site
speaks_of_sites c (Join site e members) = is_of_cluster c site
speaks_of_sites c (Accept site process id words) = is_of_cluster c site
speaks_of_sites c (Commit f site stamp parents content) = is_of_cluster c site
speaks_of_sites c (Adopt f site stamp) = is_of_cluster c site
speaks_of_sites c (Answer site process id r) = is_of_cluster c site
speaks_of_sites c _ = true

-- A reply is the very one that the script gives, and not another that has the same text.
abbrev pub SaysGiven : Config → Trace → Record → Type 0
SaysGiven c before (Answer site process id r) = (w : Waiting) → find (is_this site process id) (waiting before) ≡ Some w → now_wants c before w ≡ Give r
SaysGiven c before _ = Unit {0}

-- Sites.

pub record SitesAgree (c : Config) (trace : Trace) (p : Past) : Type 0 where
  pub numbers : map (λ (s : Site). s.number) p.sites ≡ numbers_from 1 c.sites
  pub up : (site : ℕ) → is_there p site ≡ true → (site_at p site).up ≡ is_up c trace site
  pub boot : (site : ℕ) → is_there p site ≡ true → (site_at p site).boot ≡ boot_of trace site
  pub epoch : (site : ℕ) → (site_at p site).epoch ≡ epoch_of trace site
  pub joined : (site : ℕ) → (site_at p site).joined ≡ last_joined trace site
  pub accepted : (site : ℕ) → (site_at p site).accepted ≡ calls_accepted trace site
  pub held : (site : ℕ) → is_there p site ≡ true → (f : FileId) → held p site f ≡ held_by c trace site f
  pub table : (site process fd : ℕ) → table p site process fd ≡ descriptor trace site process fd
  -- a stopped site is in no epoch
  pub down : (site : ℕ) → is_up c trace site ≡ false → epoch_of trace site ≡ None

-- Epochs, their members and who joined them; versions and what files are.

pub record EpochsAgree (c : Config) (trace : Trace) (p : Past) : Type 0 where
  pub members : (e : EpochId) → option_map (λ (t : Epoch). t.members) (find (is_epoch e) p.epochs) ≡ members_of trace e
  -- an epoch is there once
  pub once : (e : EpochId) → length (filter (is_epoch e) p.epochs) ≤ 1
  pub joined : (e : EpochId) (site : ℕ) → is_number (epoch_at p e).joined site ≡ has_joined trace site e
  pub unmended : (e : EpochId) (f : FileId) → list_any (same_file f) (epoch_at p e).unmended ≡ has_lost_mend trace e f
  pub history : p.history ≡ history c trace
  -- the epochs that sites are in, and in which calls were accepted, are there
  pub inside : (site : ℕ) (e : EpochId) → epoch_of trace site ≡ Some e → list_any (is_epoch e) p.epochs ≡ true
  pub called : (id : CallId) (w : Waiting) (e : EpochId) → call_named trace id ≡ Some w → w.epoch ≡ Some e → list_any (is_epoch e) p.epochs ≡ true

-- The trees of an epoch, one for each group.

-- an open instance as the trees have it
abbrev pub instance_of : OpenInstance → Instance
instance_of x = record { grant = x.grant; work = x.work }

-- those of a group
abbrev pub opened_in : Epoch → ℕ → List Instance
opened_in t group = map instance_of (filter (λ (x : OpenInstance). x.grant.file.group == group) t.opened)

-- the makes underway in a group
abbrev pub makes_in : Epoch → ℕ → List CallId
makes_in t group = map (λ (m : Make). m.call) (filter (λ (m : Make). m.group == group) t.makes)

-- each stands above those before it
abbrev pub ascends : {X : Type 0} → (X → X → Bool) → List X → Bool
ascends below [] = true
ascends below (x ∷ xs) = list_all (below x) xs && ascends below xs

-- the site has a pack of the group of each of these
abbrev pub are_packed : Config → ℕ → List Copy → Bool
are_packed c site versions = list_all (λ (v : Copy). has_pack c v.file.group site) versions

pub record TreesAgree (c : Config) (trace : Trace) (p : Past) : Type 0 where
  pub started : (e : EpochId) (group : ℕ) → is_number (epoch_at p e).started group ≡ (tree_of c e group trace).started
  pub known : (e : EpochId) (group : ℕ) → brought_in (epoch_at p e) group ≡ (tree_of c e group trace).known
  pub granted : (e : EpochId) (group : ℕ) → reverse (epoch_at p e).granted ≡ (tree_of c e group trace).grants
  pub opened : (e : EpochId) (group : ℕ) → opened_in (epoch_at p e) group ≡ (tree_of c e group trace).instances
  pub makes : (e : EpochId) (group : ℕ) → makes_in (epoch_at p e) group ≡ (tree_of c e group trace).makes
  pub held : (e : EpochId) (site : ℕ) (f : FileId) → held_in p (epoch_at p e) site f ≡ held_at (tree_of c e f.group trace) site f.ino
  -- what a file is, once its first version is committed
  pub kind : (f : FileId) → list_any (λ (m : Making). same_file m.file f) p.files ≡ true → (making_of p f).kind ≡ kind_of_file c trace f
  pub set : (f : FileId) → list_any (λ (m : Making). same_file m.file f) p.files ≡ true → (making_of p f).set ≡ set_of_file c trace f
  -- the open instances of the epoch have names of their own, and each was granted under its name in its group
  pub one_named : (e : EpochId) (i : Serial) → length (filter (is_named i) (epoch_at p e).opened) ≤ 1
  pub was_granted : (e : EpochId) → list_all (λ (x : OpenInstance). is_group_of (find (is_grant_of x.grant.inst) (reverse (epoch_at p e).granted)) x.grant.file.group) (epoch_at p e).opened ≡ true
  -- the calls of open instances and of makes were accepted
  pub called : (e : EpochId) → list_all (λ (x : OpenInstance). list_any (is_id x.grant.call) p.calls) (epoch_at p e).opened ≡ true
  pub making : (e : EpochId) → list_all (λ (m : Make). list_any (is_id m.call) p.calls) (epoch_at p e).makes ≡ true
  -- calls are of sites of the cluster
  pub callers : list_all (λ (k : CallSoFar). is_of_cluster c k.id.site) p.calls ≡ true
  -- a site has one version of a file
  pub one_copy : (site : ℕ) (f : FileId) → length (filter (λ (v : Copy). same_file v.file f) (site_at p site).held) ≤ 1
  -- a site has only versions of groups that it packs
  pub packed : (site : ℕ) → are_packed c site (site_at p site).held ≡ true
  pub packed_in : (e : EpochId) (site : ℕ) → are_packed c site (copies_in p (epoch_at p e) site) ≡ true
  pub ascending : (e : EpochId) → ascends is_copy_below (epoch_at p e).known ≡ true
  pub one_left : (e : EpochId) (site : ℕ) (f : FileId) → length (filter (λ (v : Copy). same_file v.file f) (copies_in p (epoch_at p e) site)) ≤ 1

-- Calls.

-- an accepted call as the folds have it
abbrev pub waiting_as : CallSoFar → Waiting
waiting_as k = record { site = k.id.site; process = k.process; call = k.id; words = k.words; epoch = k.epoch }

pub record CallsAgree (c : Config) (trace : Trace) (p : Past) : Type 0 where
  pub named : (id : CallId) → option_map waiting_as (find (is_id id) p.calls) ≡ call_named trace id
  -- a name is given to one call
  pub once : (id : CallId) → length (filter (is_id id) p.calls) ≤ 1
  -- a call that uses or closes an instance was granted none
  pub ungranted : (id : CallId) (e : EpochId) (i : Serial) → begun trace id ≡ Some (Uses e i) → opening_of trace id ≡ None
  pub begun : (id : CallId) → option_map (λ (k : CallSoFar). k.begins) (find (is_id id) p.calls) ≡ begun trace id
  -- a name that none has was granted and answered nothing
  pub unheard : (id : CallId) → call_named trace id ≡ None → (opening_of trace id ≡ None) × (answers c trace id ≡ [])
  pub granted : (k : CallSoFar) → find (is_id k.id) p.calls ≡ Some k → k.granted ≡ opened_as trace k.id
  pub answers : (k : CallSoFar) → find (is_id k.id) p.calls ≡ Some k → k.answers ≡ answers c trace k.id
  pub waits : map waiting_as (filter (λ (k : CallSoFar). k.waits) p.calls) ≡ waiting trace
  -- the number that an open would take, while it waits; the script of no other call asks for it, and a close frees one
  pub free : (k : CallSoFar) → find (is_id k.id) p.calls ≡ Some k → k.waits ≡ true → is_open k.words ≡ true → k.free ≡ lowest_free (descriptor trace k.id.site k.process)
  -- who uses which instance, by a descriptor or without
  pub users : UsersStand trace
  pub stand : AllByRecursion (CallStands trace) p.calls
  pub instances : AllByRecursion (EpochStands trace p.calls) p.epochs

-- All of it.

pub record Agrees (c : Config) (trace : Trace) (p : Past) : Type 0 where
  pub sites : SitesAgree c trace p
  pub epochs : EpochsAgree c trace p
  pub trees : TreesAgree c trace p
  pub calls : CallsAgree c trace p
  pub made : AreMade p
  pub firsts : FirstsStand c trace p
  pub packed : ArePacked c p
