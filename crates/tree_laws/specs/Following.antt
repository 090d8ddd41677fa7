-- Which told line may come when: a printed record as the lawful trace has it, and at its time by what its process has taken;
-- and what only the laws see.
use Rattle.std.specs.Prelude.{ℕ, ◌≡◌, ◌⊎◌, ◌+◌, true, false, List, [], ◌∷◌, length, Option, None, Some}
use Rattle.std.specs.List.{find}
use Rattle.locus_ids.specs.declared.config.Config.{Config}
use Rattle.locus_ids.specs.declared.ids.CallId.{CallId}
use Rattle.locus_ids.specs.declared.ids.EpochId.{EpochId}
use Rattle.locus_ids.specs.declared.ids.FileId.{FileId}
use Rattle.locus_ids.specs.declared.ids.Kind.{Kind}
use Rattle.locus_ids.specs.declared.ids.Mode.{Mode}
use Rattle.locus_ids.specs.declared.ids.Mode.TheVariants as mode
use Rattle.locus_ids.specs.declared.ids.Serial.{Serial}
use Rattle.locus_ids.specs.declared.sites.Sites.{Sites}
use Rattle.locus_ids.specs.declared.refusal.Refusal.{Refusal}
use Rattle.locus_ids.specs.declared.refusal.Refusal.TheVariants as refusal
use Rattle.trace_book.specs.declared.call.Call.{Call}
use Rattle.trace_book.specs.declared.call.Call.TheVariants as call
use Rattle.trace_book.specs.declared.descriptor.Beginning.{Beginning}
use Rattle.trace_book.specs.declared.descriptor.Beginning.TheVariants as begins
use Rattle.trace_book.specs.declared.descriptor.Descriptor.{Descriptor}
use Rattle.trace_book.specs.declared.descriptor.OneVersion.{OneVersion}
use Rattle.trace_book.specs.declared.operation.Op.{Op}
use Rattle.trace_book.specs.declared.operation.Outcome.{Outcome}
use Rattle.trace_book.specs.declared.operation.What.{What}
use Rattle.trace_book.specs.declared.record.Record.{Record}
use Rattle.trace_book.specs.declared.record.Record.TheVariants as says
use Rattle.trace_book.specs.declared.reply.Reply.{Reply}
use Rattle.trace_book.specs.declared.reply.Reply.TheVariants as reply
use Rattle.call_rules.specs.declared.answer.Answer.{Answer}
use Rattle.call_rules.specs.declared.answer.Answer.TheVariants as answer
use Rattle.call_rules.specs.declared.want.Want.TheVariants as want
use Rattle.the_run.specs.of_wire_messages.declared.body.Opening.{Opening}
use Rattle.the_run.specs.of_wire_messages.declared.body.Opening.TheVariants as how
use Rattle.the_run.specs.of_role_steps.Opens.{mode_of}
use Rattle.the_run.specs.of_role_steps.Views.{Told, Shown, Promises, Takes, LooksAgain, Begins, Shuts, Reserves}
use Rattle.the_run.specs.Worlds.{Line}
use Rattle.lawful_trace.specs.of_tree_model.declared.accepted.Waiting.{Waiting}
use Rattle.lawful_trace.specs.of_tree_model.declared.instance.Instance.{Instance}
use Rattle.lawful_trace.specs.of_tree_model.Calls.{call_named, opening_of, waiting}
use Rattle.lawful_trace.specs.of_tree_model.Epochs.{epoch_of, members_of}
use Rattle.lawful_trace.specs.of_tree_model.Folds.{Trace}
use Rattle.lawful_trace.specs.of_tree_model.Opening.{is_given_by}
use Rattle.lawful_trace.specs.of_tree_model.Packs.{is_good_set, making_site_in}
use Rattle.lawful_trace.specs.of_tree_model.Tree.{kept_in}
use Rattle.lawful_trace.specs.CallRows.{is_this}
use Rattle.lawful_trace.specs.Lawful.{MayCome}
use Rattle.lawful_trace.specs.Tables.{begins_now, begun, close_of, call_of_act, call_of_release}
use Rattle.lawful_trace.specs.TreeRows.{granted_group}
use Rattle.tree_laws.specs.Printed.{entries}
use Rattle.tree_laws.specs.Calls.{log, tries, heard, script, is_request, Asks, Waits, request_number}
use Rattle.tree_laws.specs.Holding.{has_instances}
use Rattle.tree_laws.specs.Past.{WasNamed, WasBegun, WasShut}
use Rattle.tree_laws.specs.Processes.{IsMend}
use Rattle.tree_laws.specs.Instances.{IsOpenAt, AsksOpen, IsStarted, IsUsed, IsFull}

-- ---- printed records at their time ----

-- the process asks this look, and takes no answer before it
pub record LooksInTime (c : Config) (trace : List Line) (d : CallId) (request : ℕ) (f : FileId) (w : What) : Type 0 where
  pub asks : Asks c trace d (want.Look f w)
  pub request_is : request ≡ request_number trace d

-- the process asks this open; the file of a make has no number before it is granted
pub record OpensInTime (c : Config) (trace : List Line) (e : EpochId) (d : CallId) (request : ℕ) (i : Serial) (m : Mode) (f : FileId) : Type 0 where
  pub asked : FileId
  pub it : Opening
  pub mode_is : mode_of it ≡ m
  pub asks : AsksOpen c trace e d request i.serial asked it
  pub user_is : i.us ≡ d.site
  pub group_is : f.group ≡ asked.group

-- a granted make is of a number under which its storage site has begun it
abbrev pub MakesInTime : List Line → EpochId → Serial → FileId → ℕ → Mode → Type 0
MakesInTime trace e i f ss mode.Make = WasBegun trace ss e i f
MakesInTime trace e i f ss _ = Unit {0}

pub record GrantsInTime (c : Config) (trace : List Line) (e : EpochId) (d : CallId) (request : ℕ) (i : Serial) (m : Mode) (f : FileId) (ss : ℕ) : Type 0 where
  pub opens : OpensInTime c trace e d request i m f
  pub makes : MakesInTime trace e i f ss m
  pub new : WasNamed trace e i → ⊥

-- the storage site of the make has no number left, for good, and nobody has begun it
pub record FindsNoNumber (c : Config) (trace : List Line) (e : EpochId) (d : CallId) (i : Serial) (group : ℕ) (set : Sites) (why : Refusal) : Type 0 where
  pub reason_is : why ≡ refusal.NoInode
  pub ss : ℕ
  pub at : making_site_in c group (members_of (entries trace) e) d.site set ≡ Some ss
  pub full : IsFull c trace e ss group
  pub unbegun : (s : ℕ) (f : FileId) → WasBegun trace s e i f → ⊥

-- a make is refused for want of a number, or where its set isn't good
abbrev pub RefusesMake : Config → List Line → EpochId → CallId → Serial → FileId → Refusal → Opening → Type 0
RefusesMake c trace e d i f why (how.Make set k) = FindsNoNumber c trace e d i f.group set why ⊎ (is_good_set c f.group (members_of (entries trace) e) set ≡ false)
RefusesMake c trace e d i f why _ = Unit {0}

pub record RefusesInTime (c : Config) (trace : List Line) (e : EpochId) (d : CallId) (request : ℕ) (i : Serial) (m : Mode) (f : FileId) (why : Refusal) : Type 0 where
  pub opens : OpensInTime c trace e d request i m f
  pub make : RefusesMake c trace e d i f why opens.it
  pub new : WasNamed trace e i → ⊥

-- the storage site has begun the instance, and hasn't begun to close it
pub record Runs (trace : List Line) (s : ℕ) (e : EpochId) (i : Serial) (f : FileId) : Type 0 where
  pub begun : WasBegun trace s e i f
  pub not_shut : WasShut trace s e i → ⊥

-- the process asks the operation of a running instance
pub record ActsInTime (c : Config) (trace : List Line) (e : EpochId) (i : Serial) (n : ℕ) (o : Op) : Type 0 where
  pub call : CallId
  pub owner : call_of_act (entries trace) e i n ≡ Some call
  pub asks : Asks c trace call (want.Do i o)
  pub at : Instance
  pub open_at : IsOpenAt c trace e i at.grant.ss at
  pub runs : Runs trace at.grant.ss e i at.grant.file

-- a running instance at the site, granted on this file, is committed
pub record CommitsInTime (c : Config) (trace : List Line) (f : FileId) (site : ℕ) : Type 0 where
  pub epoch : EpochId
  pub inside : epoch_of (entries trace) site ≡ Some epoch
  pub inst : Serial
  pub at : Instance
  pub open_at : IsOpenAt c trace epoch inst site at
  pub file_is : at.grant.file ≡ f
  pub owes : at.work.owes ≡ true
  pub runs : Runs trace site epoch inst f

-- the process asks the close, which the storage site has begun
pub record ReleasesInTime (c : Config) (trace : List Line) (e : EpochId) (i : Serial) (f : FileId) : Type 0 where
  pub group_is : granted_group (entries trace) e i ≡ f.group
  pub call : CallId
  pub owner : call_of_release (entries trace) e i ≡ Some call
  pub asks : Asks c trace call (want.Close i)
  pub at : Instance
  pub open_at : IsOpenAt c trace e i at.grant.ss at
  pub shut : WasShut trace at.grant.ss e i
  pub owes : at.work.owes ≡ false

-- nothing is adopted in an epoch before the group has started, nor of a file of which several versions are kept
pub record AdoptsInTime (c : Config) (trace : List Line) (f : FileId) (site : ℕ) : Type 0 where
  pub epoch : EpochId
  pub inside : epoch_of (entries trace) site ≡ Some epoch
  pub started : IsStarted c trace epoch f.group
  pub single : length (kept_in c (entries trace) epoch f) ≡ 1

-- the last answer is taken, and nothing is asked
pub record RepliesInTime (c : Config) (trace : List Line) (d : CallId) : Type 0 where
  pub nothing_waits : heard c trace d ≡ log trace d
  pub nothing_asked : is_request (script c (entries trace) d None (log trace d)) ≡ false

-- where a call began that is answered so by what was granted to it: an open walks, and a read opens a version again
abbrev pub BeganFor : Reply → Option Beginning → Type 0
BeganFor (reply.Opened fd) (Some (begins.Walks id)) = Unit {0}
BeganFor (reply.Data bytes) (Some (begins.Reopens version last)) = Unit {0}
BeganFor _ _ = ⊥

-- and what it has taken: a read the instance, and then what was read by it
abbrev pub TookFor : Reply → Serial → List Answer → Type 0
TookFor (reply.Data bytes) i taken = (version : OneVersion) × (result : Outcome) × (taken ≡ answer.Reading i version ∷ answer.Did result ∷ [])
TookFor _ i taken = Unit {0}

-- A reply that names an instance, an open's by its descriptor or that of a read that has opened a version again, comes while the call has
-- the instance that was granted to it last; and none of a mend names one.
pub record RepliesNaming (c : Config) (trace : List Line) (d : CallId) (r : Reply) : Type 0 where
  pub replies : RepliesInTime c trace d
  pub held : (x : Descriptor) → opening_of (entries trace) d ≡ Some x → has_instances c trace d x.inst ≡ true
  pub plain : (x : Descriptor) (w : Waiting) → opening_of (entries trace) d ≡ Some x → call_named (entries trace) d ≡ Some w → IsMend w.words → ⊥
  pub began : (x : Descriptor) → opening_of (entries trace) d ≡ Some x → BeganFor r (begun (entries trace) d)
  pub took : (x : Descriptor) → opening_of (entries trace) d ≡ Some x → TookFor r x.inst (log trace d)

-- a reply comes once nothing is asked any more; that the epoch was left comes whatever is asked, at a site that is in none
abbrev pub AnswersInTime : Config → List Line → CallId → Reply → Type 0
AnswersInTime c trace d (reply.No (refusal.Changed e)) = epoch_of (entries trace) d.site ≡ None
AnswersInTime c trace d (reply.Opened fd) = RepliesNaming c trace d (reply.Opened fd)
AnswersInTime c trace d (reply.Data bytes) = RepliesNaming c trace d (reply.Data bytes)
AnswersInTime c trace d r = RepliesInTime c trace d

-- a close is accepted of an instance of which none was: its descriptor is free from then on
pub record ClosesInTime (before : Trace) (e : EpochId) (i : Serial) : Type 0 where
  pub first : close_of before e i ≡ None

abbrev pub AcceptsInTime : Trace → Call → Beginning → Type 0
AcceptsInTime before (call.Close fd) (begins.Uses e i) = ClosesInTime before e i
AcceptsInTime before words b = Unit {0}

abbrev pub IsInTime : Config → List Line → Record → Type 0
IsInTime c trace (says.Look e d request f w result) = LooksInTime c trace d request f w
IsInTime c trace (says.Grant e d request i m f stamp ss) = GrantsInTime c trace e d request i m f ss
IsInTime c trace (says.Refuse e d request i m f why) = RefusesInTime c trace e d request i m f why
IsInTime c trace (says.Act e i n o result) = ActsInTime c trace e i n o
IsInTime c trace (says.Commit f site stamp parents content) = CommitsInTime c trace f site
IsInTime c trace (says.Release e i f stamp) = ReleasesInTime c trace e i f
IsInTime c trace (says.Adopt f site stamp) = AdoptsInTime c trace f site
IsInTime c trace (says.Accept site process d words) = AcceptsInTime (entries trace) words (begins_now (entries trace) site process d words)
IsInTime c trace (says.Answer site process d r) = AnswersInTime c trace d r
IsInTime c trace _ = Unit {0}

-- ---- what only the laws see ----

-- the call waits at the site
pub record IsWaiting (trace : List Line) (s : ℕ) (d : CallId) : Type 0 where
  pub process : ℕ
  pub caller : Waiting
  pub found : find (is_this s process d) (waiting (entries trace)) ≡ Some caller

-- a process takes the answer that waits for it
pub record MayTake (c : Config) (trace : List Line) (s : ℕ) (d : CallId) (request times : ℕ) (a : Answer) : Type 0 where
  pub site_is : d.site ≡ s
  pub waits_for : IsWaiting trace s d
  pub answer : Waits c trace d a
  pub request_is : request ≡ request_number trace d

-- a process asks its look again, in place of the answer that waits
pub record MayLookAgain (c : Config) (trace : List Line) (s : ℕ) (d : CallId) (request times : ℕ) : Type 0 where
  pub site_is : d.site ≡ s
  pub waits_for : IsWaiting trace s d
  pub old : Answer
  pub answer : Waits c trace d old
  pub request_is : request ≡ request_number trace d
  pub times_are : times ≡ tries trace d + 1
  pub file : FileId
  pub what : What
  pub looks : script c (entries trace) d None (log trace d) ≡ want.Look file what

-- what was granted here, and isn't begun
pub record BeginsGranted (c : Config) (trace : List Line) (s : ℕ) (e : EpochId) (i : Serial) (f : FileId) : Type 0 where
  pub at : Instance
  pub open_at : IsOpenAt c trace e i s at
  pub file_is : at.grant.file ≡ f

-- what a call makes here, under a number that is free, and of which nothing was begun here
pub record BeginsMade (c : Config) (trace : List Line) (s : ℕ) (e : EpochId) (i : Serial) (f : FileId) : Type 0 where
  pub call : CallId
  pub request : ℕ
  pub asked : FileId
  pub set : Sites
  pub kind : Kind
  pub asks : AsksOpen c trace e call request i.serial asked (how.Make set kind)
  pub user_is : i.us ≡ call.site
  pub group_is : asked.group ≡ f.group
  pub started : IsStarted c trace e f.group
  pub good : is_good_set c f.group (members_of (entries trace) e) set ≡ true
  pub at : making_site_in c f.group (members_of (entries trace) e) call.site set ≡ Some s
  pub number : is_given_by s f.ino ≡ true
  pub unused : IsUsed c trace e s f → ⊥
  pub untouched : (j : Serial) → WasBegun trace s e j f → ⊥

pub record MayBegin (c : Config) (trace : List Line) (s : ℕ) (e : EpochId) (i : Serial) (f : FileId) : Type 0 where
  pub inside : epoch_of (entries trace) s ≡ Some e
  pub new : (site : ℕ) (file : FileId) → WasBegun trace site e i file → ⊥
  pub may : BeginsGranted c trace s e i f ⊎ BeginsMade c trace s e i f

-- the process asks the close, and nothing is owed
pub record MayShut (c : Config) (trace : List Line) (s : ℕ) (e : EpochId) (i : Serial) : Type 0 where
  pub inside : epoch_of (entries trace) s ≡ Some e
  pub call : CallId
  pub owner : call_of_release (entries trace) e i ≡ Some call
  pub asks : Asks c trace call (want.Close i)
  pub at : Instance
  pub open_at : IsOpenAt c trace e i s at
  pub owes : at.work.owes ≡ false
  pub runs : Runs trace s e i at.grant.file

-- the number of the file that a storage site has just begun for a make
pub record MayReserve (trace : List Line) (s : ℕ) (e : EpochId) (i : Serial) (f : FileId) : Type 0 where
  pub begun : WasBegun trace s e i f
  pub ungranted : WasNamed trace e i → ⊥

-- ---- the whole ----

pub record MayPrint (c : Config) (trace : List Line) (r : Record) : Type 0 where
  pub row : MayCome c (entries trace) r
  pub in_time : IsInTime c trace r

abbrev pub MayTell : Config → List Line → Told → Type 0
MayTell c trace (Shown r) = MayPrint c trace r
MayTell c trace (Takes s d request times a) = MayTake c trace s d request times a
MayTell c trace (LooksAgain s d request times) = MayLookAgain c trace s d request times
MayTell c trace (Begins s e i f) = MayBegin c trace s e i f
MayTell c trace (Shuts s e i) = MayShut c trace s e i
MayTell c trace (Reserves s e i f) = MayReserve trace s e i f
MayTell c trace (Promises s id reach) = Unit {0}

-- each told line comes as it may after the older ones
abbrev pub IsFollowed : Config → List Line → Type 0
IsFollowed c [] = Unit {0}
IsFollowed c (x ∷ older) = MayTell c older x.told × IsFollowed c older

-- ---- what it comes to ----

-- each printed record comes as the lawful trace has it
abbrev pub RowsAreLawful : Config → Trace → Type 0
RowsAreLawful c [] = Unit {0}
RowsAreLawful c (r ∷ before) = MayCome c before r.what × RowsAreLawful c before
