-- The rows of the lawful trace that speak of the one tree of an epoch and a group: starts, looks, opens, operations,
-- commits, releases and adoptions. All but starts, commits and adoptions are steps of calls.
use Rattle.std.specs.Prelude.{ℕ, ◌≡◌, ◌+◌, ◌-◌, ◌==◌, Bool, true, false, not, ◌&&◌, ◌||◌, List, [], ◌∷◌, length, take, filter, Option, None, Some, cond, nat_lt}
use Rattle.std.specs.List.{list_any}
use Rattle.locus_ids.specs.Sites.{has}
use Rattle.locus_ids.specs.declared.config.Config.{Config}
use Rattle.locus_ids.specs.declared.ids.FileId.{FileId}
use Rattle.locus_ids.specs.declared.ids.Stamp.{Stamp}
use Rattle.locus_ids.specs.declared.ids.EpochId.{EpochId}
use Rattle.locus_ids.specs.declared.ids.Serial.{Serial}
use Rattle.locus_ids.specs.declared.ids.CallId.{CallId}
use Rattle.locus_ids.specs.declared.ids.Mode.{Mode}
use Rattle.locus_ids.specs.declared.ids.Mode.TheVariants as mode
use Rattle.locus_ids.specs.declared.ids.Brought.{Brought}
use Rattle.locus_ids.specs.declared.refusal.Refusal.{Refusal}
use Rattle.call_rules.specs.of_commit_graph.declared.history.Version.{Version}
use Rattle.call_rules.specs.of_commit_graph.Versions.{same_file, is_proper_ancestor}
use Rattle.call_rules.specs.of_commit_graph.Counters.{next_number}
use Rattle.call_rules.specs.of_commit_graph.Grants.{is_read}
use Rattle.trace_book.specs.Same.{same_epoch, same_serial}
use Rattle.trace_book.specs.declared.record.Record.{Record}
use Rattle.trace_book.specs.declared.record.Record.TheVariants.{Grant}
use Rattle.trace_book.specs.declared.call.OpenMode.TheVariants as how
use Rattle.trace_book.specs.declared.operation.Op.{Op}
use Rattle.trace_book.specs.declared.operation.What.{What}
use Rattle.trace_book.specs.declared.operation.Served.{Served}
use Rattle.trace_book.specs.declared.operation.Outcome.{Outcome}
use Rattle.call_rules.specs.declared.want.Want.{Want}
use Rattle.call_rules.specs.declared.want.Want.TheVariants as asks
use Rattle.tree_model.specs.declared.accepted.Waiting.{Waiting}
use Rattle.tree_model.specs.declared.instance.Instance.{Instance}
use Rattle.tree_model.specs.Folds.{Trace, over}
use Rattle.tree_model.specs.Epochs.{epoch_of, has_joined, members_of}
use Rattle.tree_model.specs.Packs.{has_pack, is_member_of, sync_site}
use Rattle.tree_model.specs.Histories.{history, held}
use Rattle.tree_model.specs.Calls.{call_named}
use Rattle.tree_model.specs.State.{has_stamp, instance_in}
use Rattle.tree_model.specs.Working.{parents_of}
use Rattle.tree_model.specs.Given.{gives_start, gives_look, gives_grant, gives_refusal, gives_act, gives_release}
use Rattle.tree_model.specs.Tree.{tree_of, candidates}
use Rattle.tree_model.specs.Files.{set_of_file}
use Rattle.lawful_trace.specs.Places.{each_site}
use Rattle.lawful_trace.specs.Tables.{call_of_act, call_of_release}
use Rattle.lawful_trace.specs.Progress.{answers, wants_after, wants_next}

-- Starts.

abbrev pub has_joined_some : Trace → EpochId → Option ℕ → Bool
has_joined_some before e None = false
has_joined_some before e (Some site) = has_joined before site e

-- the group has a synchronization site, which is or has been in the epoch
abbrev pub is_served : Config → Trace → EpochId → ℕ → Bool
is_served c before e group = has_joined_some before e (sync_site c group (members_of before e))

-- every member with a pack of the group is or has been in the epoch
abbrev pub have_all_joined : Config → Trace → EpochId → ℕ → Bool
have_all_joined c before e group = each_site (λ site. not (is_member_of (members_of before e) site && has_pack c group site) || has_joined before site e)

-- A group starts as its tree gives it, when all its member packs are in the epoch.
pub record MayStart (c : Config) (before : Trace) (e : EpochId) (group : ℕ) (copies : List Brought) : Type 0 where
  pub gives : gives_start (tree_of c e group before) copies ≡ true
  pub served : is_served c before e group ≡ true
  pub whole : have_all_joined c before e group ≡ true

-- Steps of calls.

-- the call was accepted while its site was in the epoch
pub record IsCallIn (before : Trace) (e : EpochId) (call : CallId) : Type 0 where
  pub accepted : Waiting
  pub named : call_named before call ≡ Some accepted
  pub made_in : accepted.epoch ≡ Some e

-- the request is the next of its call, or the last one again
abbrev pub is_next_or_again : ℕ → ℕ → Bool
is_next_or_again request answered = (request == answered + 1) || (nat_lt 0 request && (request == answered))

-- A look is served what the tree gives. It may stand more than once under one request number.
pub record MayLook (c : Config) (before : Trace) (e : EpochId) (call : CallId) (request : ℕ) (f : FileId) (w : What) (result : Served) : Type 0 where
  pub gives : gives_look (history c before) (tree_of c e f.group before) f w result ≡ true
  pub served : is_served c before e f.group ≡ true
  pub step : IsCallIn before e call
  pub numbered : is_next_or_again request (length (answers c before call)) ≡ true
  pub asked : wants_after c before call (take (request - 1) (answers c before call)) ≡ asks.Look f w

-- the call asks for this open: of a file by a user, of a directory to be mended, or of a new file of the group
abbrev pub is_open_of : Mode → FileId → Want → Bool
is_open_of mode.Read f (asks.Open g how.Read) = same_file g f
is_open_of mode.Read f (asks.Open g how.Steady) = same_file g f
is_open_of mode.Write f (asks.Open g how.Write) = same_file g f
is_open_of mode.Resolve f (asks.Open g (how.Resolve site)) = same_file g f
is_open_of mode.Mend f (asks.OpenToMend g) = same_file g f
is_open_of mode.Make f (asks.Make group kind sites) = group == f.group
is_open_of _ f _ = false

-- An open, granted or refused, is the call's next request.
pub record MayOpen (c : Config) (before : Trace) (e : EpochId) (call : CallId) (request : ℕ) (m : Mode) (f : FileId) : Type 0 where
  pub served : is_served c before e f.group ≡ true
  pub step : IsCallIn before e call
  pub numbered : request ≡ length (answers c before call) + 1
  pub asked : is_open_of m f (wants_next c before call) ≡ true

-- It is granted as the tree gives, at a site that is or has been in the epoch.
pub record MayGrant (c : Config) (before : Trace) (e : EpochId) (call : CallId) (request : ℕ) (i : Serial) (m : Mode) (f : FileId) (stamp : Option Stamp) (ss : ℕ) : Type 0 where
  pub opens : MayOpen c before e call request m f
  pub gives : gives_grant (history c before) (tree_of c e f.group before) call i m f stamp ss ≡ true
  pub there : has_joined before ss e ≡ true

-- Or it is refused as the tree gives.
pub record MayRefuse (c : Config) (before : Trace) (e : EpochId) (call : CallId) (request : ℕ) (m : Mode) (f : FileId) (why : Refusal) : Type 0 where
  pub opens : MayOpen c before e call request m f
  pub gives : gives_refusal (history c before) (tree_of c e f.group before) call m f why ≡ true

-- the call asks this next
pub record IsStepOf (c : Config) (before : Trace) (e : EpochId) (owner : Option CallId) (want : Want) : Type 0 where
  pub call : CallId
  pub owned : owner ≡ Some call
  pub step : IsCallIn before e call
  pub asked : wants_next c before call ≡ want

abbrev pub granted_group_after : Record → EpochId → Serial → ℕ → ℕ
granted_group_after (Grant epoch call request inst m f stamp ss) e i old = cond (same_epoch epoch e && same_serial inst i) f.group old
granted_group_after _ e i old = old

-- the group of the grant of the epoch that names the instance; an instance that none names isn't open in any group
abbrev pub granted_group : Trace → EpochId → Serial → ℕ
granted_group trace e i = over 0 (λ r before old. granted_group_after r.what e i old) trace

-- the storage site of the instance is or has been in the epoch
abbrev pub is_stored_within : Trace → EpochId → Option Instance → Bool
is_stored_within before e None = false
is_stored_within before e (Some x) = has_joined before x.grant.ss e

-- An open instance executes its next operation, as its call asks, at a site that is or has been in the epoch.
pub record MayAct (c : Config) (before : Trace) (e : EpochId) (i : Serial) (n : ℕ) (o : Op) (result : Outcome) : Type 0 where
  pub gives : gives_act (history c before) (tree_of c e (granted_group before e i) before) i n o result ≡ true
  pub there : is_stored_within before e (instance_in (tree_of c e (granted_group before e i) before) i) ≡ true
  pub step : IsStepOf c before e (call_of_act before e i n) (asks.Do i o)

-- An instance is released as its call asks.
pub record MayRelease (c : Config) (before : Trace) (e : EpochId) (i : Serial) (f : FileId) (stamp : Option Stamp) : Type 0 where
  pub gives : gives_release (history c before) (tree_of c e f.group before) i f stamp ≡ true
  pub served : is_served c before e f.group ≡ true
  pub step : IsStepOf c before e (call_of_release before e i) (asks.Close i)

-- Versions on disks.

-- an open instance of the file that isn't only read
abbrev pub is_writing : FileId → Instance → Bool
is_writing f x = same_file x.grant.file f && not (is_read x.grant.mode)

-- A version is committed by the one open instance of its file that may, which owes it, at its storage site.
pub record MayCommit (c : Config) (before : Trace) (f : FileId) (site : ℕ) (stamp : Stamp) (parents : List Stamp) (content : List ℕ) : Type 0 where
  pub epoch : EpochId
  pub inside : epoch_of before site ≡ Some epoch
  pub instance : Instance
  pub one : filter (is_writing f) (tree_of c epoch f.group before).instances ≡ instance ∷ []
  pub at : instance.grant.ss ≡ site
  pub owes : instance.work.owes ≡ true
  pub same : content ≡ instance.work.content
  pub above : parents ≡ parents_of (history c before) (tree_of c epoch f.group before) instance
  pub numbered : stamp ≡ record { site = site; n = next_number (history c before) f parents site }

-- what the site has is nothing, or a proper ancestor of the version
abbrev pub is_above : List Version → FileId → Option Stamp → Stamp → Bool
is_above h f None stamp = true
is_above h f (Some old) stamp = is_proper_ancestor h f old stamp

-- an open instance of the file has the site as its storage site
abbrev pub is_stored_at : ℕ → FileId → Instance → Bool
is_stored_at site f x = (x.grant.ss == site) && same_file x.grant.file f

-- A site adopts a version of its epoch that is above its own, of a file that is for it and that no instance of the epoch
-- has open there.
pub record MayAdopt (c : Config) (before : Trace) (f : FileId) (site : ℕ) (stamp : Stamp) : Type 0 where
  pub epoch : EpochId
  pub inside : epoch_of before site ≡ Some epoch
  pub known : has_stamp (candidates c before epoch f) stamp ≡ true
  pub for : has (set_of_file c before f) site ≡ true
  pub above : is_above (history c before) f (held c before site f) stamp ≡ true
  pub shut : list_any (is_stored_at site f) (tree_of c epoch f.group before).instances ≡ false
