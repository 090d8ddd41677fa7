-- A call between two requests: it has just been accepted, or has just taken an answer, and its using site hasn't asked for it what
-- comes next; and what the site has beside it.
use Rattle.std.specs.Prelude.{ℕ, ◌≡◌, ◌⊎◌, ◌+◌, ◌<◌, cond, List, length, Option, Some}
use Rattle.std.specs.List.{find, list_any}
use Rattle.std.specs.Option.{is_some}
use Rattle.locus_ids.specs.declared.config.Config.{Config}
use Rattle.locus_ids.specs.declared.ids.CallId.{CallId}
use Rattle.locus_ids.specs.declared.ids.FileId.{FileId}
use Rattle.locus_ids.specs.declared.ids.Mode.{Mode}
use Rattle.locus_ids.specs.declared.ids.Stamp.{Stamp}
use Rattle.locus_ids.specs.Sizes.{descriptor_span}
use Rattle.commit_graph.specs.Versions.{same_file}
use Rattle.trace_book.specs.declared.call.Call.{Call}
use Rattle.trace_book.specs.declared.call.Call.TheVariants as call
use Rattle.role_steps.specs.Own.{Every}
use Rattle.role_steps.specs.Requests.{waiting_key, instance_serial, descriptor_key, user_instance, descriptors_of}
use Rattle.role_steps.specs.Views.{Users, Frame}
use Rattle.role_steps.specs.declared.users.UserInstance.{UserInstance}
use Rattle.role_steps.specs.declared.users.WaitingCall.{WaitingCall}
use Rattle.tree_laws.specs.Caches.Right.{AreRight}
use Rattle.tree_laws.specs.of_the_run.Kept.{Among}
use Rattle.tree_laws.specs.of_the_run.Worlds.{Line}
use Rattle.tree_model.specs.declared.accepted.Waiting.{Waiting}
use Rattle.tree_model.specs.Calls.{call_named, waiting}
use Rattle.tree_model.specs.Epochs.{boot_of, calls_accepted, members_of}
use Rattle.tree_model.specs.Packs.{sync_site}
use Rattle.tree_model.specs.State.{has_number}
use Rattle.tree_laws.specs.of_lawful_trace.CallRows.{has_lost_mend, is_this}
use Rattle.tree_laws.specs.of_lawful_trace.Tables.{begun, descriptor}
use Rattle.tree_laws.specs.Printed.{entries}
use Rattle.tree_laws.specs.Calls.{log, tries, heard}
use Rattle.tree_laws.specs.Packets.{SeesVersion, serial_of}
use Rattle.tree_laws.specs.Past.{WasGranted}
use Rattle.tree_laws.specs.Serials.{asked_now, is_open_want, is_op_on, opens_asked, ops_asked, serial_asked}
use Rattle.tree_laws.specs.Stores.{Ascends}
use Rattle.tree_laws.specs.Users.{contents_in, own_call, had, BringsFor, CopiedFact, ReadsFact, WaitingFact, UserInstanceFact}

-- the call that turns
abbrev pub it : Frame → WaitingCall → CallId
it f w = own_call f.me f.boot w.call

-- the call has taken all its answers, and its next request isn't numbered yet
pub record CallTurns (c : Config) (trace : List Line) (f : Frame) (w : WaitingCall) : Type 0 where
  pub caller : Waiting
  pub named : call_named (entries trace) (it f w) ≡ Some caller
  pub caller_is : caller ≡ record { site = f.me; process = w.process; call = it f w; words = w.words; epoch = Some f.epoch }
  pub waits : find (is_this f.me w.process (it f w)) (waiting (entries trace)) ≡ Some caller
  pub begins_is : begun (entries trace) (it f w) ≡ Some w.begins
  pub answers_are : w.answers ≡ log trace (it f w)
  pub request_is : w.request ≡ length w.answers
  pub nothing_waits : heard c trace (it f w) ≡ log trace (it f w)
  pub tries_are : tries trace (it f w) ≡ 1
  pub serial_is : serial_asked c trace (it f w) ≡ opens_asked c trace f.me
  pub brings : BringsFor c trace (it f w) w.words w.brought
  pub copied : CopiedFact c trace f w.words w.begins w.copied

-- what the site has beside what its next request counts
pub record Others (c : Config) (trace : List Line) (f : Frame) (w : WaitingCall) (u : Users) : Type 0 where
  pub boot_is : f.boot ≡ boot_of (entries trace) f.me
  pub calls : u.calls ≡ calls_accepted (entries trace) f.me
  pub descriptors : (process fd : ℕ) → fd < descriptor_span → descriptors_of u process fd ≡ descriptor (entries trace) f.me process fd
  pub listed : Ascends descriptor_key u.descriptors
  pub cache : AreRight (contents_in c trace) u.cache
  pub waits : Every (λ (v : WaitingCall). (waiting_key v ≡ waiting_key w → ⊥) → WaitingFact c trace f v) u.waiting
  pub ascends : Ascends waiting_key u.waiting
  pub numbered : Ascends instance_serial u.instances
  pub has : (serial : ℕ) → is_some (user_instance u serial) ≡ has_number (had c trace f.me) serial
  pub all : (d : CallId) (process : ℕ) (caller : Waiting) → find (is_this f.me process d) (waiting (entries trace)) ≡ Some caller → (d ≡ it f w) ⊎ ((v : WaitingCall) × Among v u.waiting × (waiting_key v ≡ waiting_key w → ⊥) × (d ≡ it f v))
  pub hopeless : (file : FileId) → sync_site c file.group (members_of (entries trace) f.epoch) ≡ Some f.me → list_any (same_file file) u.hopeless ≡ has_lost_mend (entries trace) f.epoch file

-- an instance of which the call's next request isn't counted
pub record InstanceTurns (c : Config) (trace : List Line) (f : Frame) (d : CallId) (i : UserInstance) : Type 0 where
  pub call : CallId
  pub request : ℕ
  pub mode : Mode
  pub file : FileId
  pub stamp : Option Stamp
  pub was_granted : WasGranted trace f.epoch call request (serial_of f.me i.serial) mode file stamp i.ss
  pub sees : SeesVersion c trace file mode stamp i.vector
  pub reads : ReadsFact c trace mode file stamp i.reads
  pub ops : cond (is_op_on (serial_of f.me i.serial) (asked_now c trace d)) (i.ops + 1) i.ops ≡ ops_asked c trace (serial_of f.me i.serial)

-- before what comes next is counted
pub record Turning (c : Config) (trace : List Line) (f : Frame) (w : WaitingCall) (u : Users) : Type 0 where
  pub call : CallTurns c trace f w
  pub others : Others c trace f w u
  pub serials : cond (is_open_want (asked_now c trace (it f w))) (u.serials + 1) u.serials ≡ opens_asked c trace f.me
  pub instances : Every (InstanceTurns c trace f (it f w)) u.instances

-- once it is counted
pub record Counted (c : Config) (trace : List Line) (f : Frame) (w : WaitingCall) (u : Users) : Type 0 where
  pub call : CallTurns c trace f w
  pub others : Others c trace f w u
  pub serials : u.serials ≡ opens_asked c trace f.me
  pub instances : Every (UserInstanceFact c trace f) u.instances

-- the words of a call name no descriptor beyond those that a line can name
abbrev pub IsNumbered : Call → Type 0
IsNumbered (call.Read fd at len) = fd < descriptor_span
IsNumbered (call.Write fd at bytes) = fd < descriptor_span
IsNumbered (call.Cut fd len) = fd < descriptor_span
IsNumbered (call.Commit fd) = fd < descriptor_span
IsNumbered (call.Abort fd) = fd < descriptor_span
IsNumbered (call.Close fd) = fd < descriptor_span
IsNumbered _ = Unit {0}
