-- What the steps of a using site take of other laws of followed traces.
use Rattle.std.specs.Prelude.{ℕ, ◌≡◌, ◌<◌, true, List, [], ◌∷◌, ◌++◌, take, drop, Option, None, Some}
use Rattle.std.specs.List.{find}
use Rattle.locus_ids.specs.declared.config.Config.{Config}
use Rattle.locus_ids.specs.declared.ids.CallId.{CallId}
use Rattle.locus_ids.specs.declared.ids.EpochId.{EpochId}
use Rattle.locus_ids.specs.declared.ids.FileId.{FileId}
use Rattle.locus_ids.specs.declared.ids.Mode.TheVariants as mode
use Rattle.locus_ids.specs.declared.ids.Serial.{Serial}
use Rattle.locus_ids.specs.declared.ids.Stamp.{Stamp}
use Rattle.locus_ids.specs.declared.refusal.Refusal.TheVariants as refusal
use Rattle.locus_ids.specs.Sizes.{descriptor_span}
use Rattle.commit_graph.specs.Versions.{content_of}
use Rattle.trace_book.specs.declared.descriptor.Beginning.TheVariants as begins
use Rattle.trace_book.specs.declared.descriptor.Descriptor.{Descriptor}
use Rattle.trace_book.specs.declared.descriptor.OneVersion.{OneVersion}
use Rattle.trace_book.specs.declared.operation.Op.{Op}
use Rattle.trace_book.specs.declared.operation.Outcome.{Outcome as Result}
use Rattle.trace_book.specs.declared.operation.Outcome.TheVariants as result
use Rattle.trace_book.specs.declared.operation.Op.TheVariants as op
use Rattle.trace_book.specs.declared.operation.Served.TheVariants as served
use Rattle.trace_book.specs.declared.operation.What.{What}
use Rattle.trace_book.specs.declared.operation.What.TheVariants as what
use Rattle.trace_book.specs.declared.call.Call.TheVariants as call
use Rattle.trace_book.specs.declared.reply.Reply.TheVariants as reply
use Rattle.call_rules.specs.declared.answer.Answer.TheVariants as answer
use Rattle.call_rules.specs.Descriptors.{lowest_free}
use Rattle.call_rules.specs.Opening.{is_steady}
use Rattle.call_rules.specs.declared.want.Want.{Want}
use Rattle.call_rules.specs.declared.want.Want.TheVariants as want
use Rattle.wire_messages.specs.declared.body.CloseAnswer.{CloseAnswer}
use Rattle.role_steps.specs.Requests.{seen_by}
use Rattle.role_steps.specs.Using.{last_opened, last_version, mode_asked, no_serial, close_answer, op_answer}
use Rattle.role_steps.specs.Views.{Users, Frame, Told}
use Rattle.role_steps.specs.declared.users.WaitingCall.{WaitingCall}
use Rattle.tree_laws.specs.of_the_run.Worlds.{Line}
use Rattle.tree_model.specs.Calls.{call_named, opening_of, version_of, waiting}
use Rattle.tree_model.specs.Epochs.{epoch_of, members_of}
use Rattle.tree_model.specs.Histories.{history}
use Rattle.tree_model.specs.Packs.{sync_site}
use Rattle.tree_model.specs.Tree.{kept_in}
use Rattle.tree_model.specs.declared.accepted.Waiting.{Waiting}
use Rattle.tree_laws.specs.of_lawful_trace.CallRows.{is_this}
use Rattle.tree_laws.specs.of_lawful_trace.Tables.{begun, call_of_act, descriptor}
use Rattle.tree_laws.specs.of_lawful_trace.TreeRows.{IsCallIn}
use Rattle.tree_laws.specs.Printed.{entries}
use Rattle.tree_laws.specs.Calls.{Asks, heard, log, request_number, script, Waits}
use Rattle.tree_laws.specs.Following.{IsFollowed, MayTell, TookFor}
use Rattle.tree_laws.specs.Frames.{AllStay}
use Rattle.tree_laws.specs.Holding.{has_instances}
use Rattle.tree_laws.specs.Processes.{IsMend}
use Rattle.tree_laws.specs.Packets.{CloseDoneFact, OpDoneFact, SeesTarget, serial_of}
use Rattle.tree_laws.specs.Instances.{IsStarted, Stands}
use Rattle.tree_laws.specs.Past.{WasDone, WasGranted, WasLooked}
use Rattle.tree_laws.specs.Serials.{asked_now, is_open_want, ops_asked, serial_asked}
use Rattle.tree_laws.specs.Users.{taken_whole}
use Rattle.store_laws.specs.Users.Turning.{it, Turning}

-- of a request that comes next
pub record RequestRests (c : Config) (trace : List Line) : Type 0 where
  -- while its site is in the epoch, the operation that a call asks is numbered by what its site has asked of the instance, and is a step of the call
  pub owner : (e : EpochId) (d : CallId) (i : Serial) (o : Op) → IsCallIn (entries trace) e d → epoch_of (entries trace) d.site ≡ Some e → Asks c trace d (want.Do i o) → call_of_act (entries trace) e i (ops_asked c trace i) ≡ Some d
  -- a remove has seen the version on which its call has the target open, while its site is in the epoch
  pub sees : (f : Frame) (w : WaitingCall) (u : Users) (i : Serial) (name : List ℕ) (ino : ℕ) → epoch_of (entries trace) f.me ≡ Some f.epoch → Turning c trace f w u → Asks c trace (it f w) (want.Do i (op.Remove name ino)) → SeesTarget c trace f.epoch (it f w) i ino (seen_by u w.answers (op.Remove name ino))

-- the number is one that a line can name; the open was granted to the call last, which has the instance
pub record IsOpenedAs (c : Config) (trace : List Line) (d : CallId) (fd : ℕ) (x : Descriptor) : Type 0 where
  pub small : fd < descriptor_span
  pub is_last : opening_of (entries trace) d ≡ Some x
  pub held : has_instances c trace d x.inst ≡ true
  pub walks : begun (entries trace) d ≡ Some (begins.Walks d)
  pub plain : (w : Waiting) → call_named (entries trace) d ≡ Some w → IsMend w.words → ⊥
  -- of a steady one the version that was granted is the one that the call was told
  pub keeps : (w : Waiting) → call_named (entries trace) d ≡ Some w → is_steady w.words ≡ true → version_of (entries trace) d ≡ last_version None (log trace d)

-- a read that has opened a version again has the instance that was granted to it last, and has taken what it read by it
pub record IsReadAgain (c : Config) (trace : List Line) (d : CallId) (e : EpochId) (x : Descriptor) : Type 0 where
  pub epoch_is : e ≡ x.epoch
  pub mode_is : x.mode ≡ mode.Read
  pub began : (kept : OneVersion) × (last : EpochId) × (begun (entries trace) d ≡ Some (begins.Reopens kept last))
  pub held : has_instances c trace d x.inst ≡ true
  pub took : TookFor (reply.Data []) x.inst (log trace d)
  pub plain : (w : Waiting) → call_named (entries trace) d ≡ Some w → IsMend w.words → ⊥

-- the number by which a call reads still keeps this version
pub record ReadsKept (trace : List Line) (caller : Waiting) (kept : OneVersion) : Type 0 where
  pub fd : ℕ
  pub at : ℕ
  pub len : ℕ
  pub words_are : caller.words ≡ call.Read fd at len
  pub small : fd < descriptor_span
  pub stands : Descriptor
  pub found : descriptor (entries trace) caller.site caller.process fd ≡ Some stands
  pub keeps : stands.steady ≡ Some kept

-- a call of the site that waits in its epoch and has taken all its answers
pub record HasTaken (c : Config) (trace : List Line) (d : CallId) (caller : Waiting) (e : EpochId) : Type 0 where
  pub named : call_named (entries trace) d ≡ Some caller
  pub made_in : caller.epoch ≡ Some e
  pub inside : epoch_of (entries trace) d.site ≡ Some e
  pub waits : find (is_this caller.site caller.process d) (waiting (entries trace)) ≡ Some caller
  pub nothing_waits : heard c trace d ≡ log trace d

-- what the script of a call gives then, by the descriptors of its process
abbrev pub gives_now : Config → List Line → CallId → Waiting → Want
gives_now c trace d caller = script c (entries trace) d (lowest_free (descriptor (entries trace) caller.site caller.process)) (log trace d)

-- of a reply that comes next
pub record ReplyRests (c : Config) (trace : List Line) : Type 0 where
  -- no script strays
  pub strays : (d : CallId) (caller : Waiting) (e : EpochId) → HasTaken c trace d caller e → gives_now c trace d caller ≡ want.Never → ⊥
  -- no record refuses since the epoch was left, and so no script does
  pub unchanged : (d : CallId) (caller : Waiting) (e left : EpochId) → HasTaken c trace d caller e → gives_now c trace d caller ≡ want.Give (reply.No (refusal.Changed left)) → ⊥
  -- an open that succeeds stands for what was granted to it last, in the mode that its words ask
  pub opened : (d : CallId) (caller : Waiting) (e : EpochId) (fd : ℕ) → HasTaken c trace d caller e → gives_now c trace d caller ≡ want.Give (reply.Opened fd) →
      IsOpenedAs c trace d fd (record { mode = mode_asked caller.words; epoch = e; inst = last_opened no_serial (log trace d); steady = None })
  -- a read that succeeds, and was granted something, has opened a version again
  pub read : (d : CallId) (caller : Waiting) (e : EpochId) (bytes : List ℕ) (x : Descriptor) → HasTaken c trace d caller e → gives_now c trace d caller ≡ want.Give (reply.Data bytes) → opening_of (entries trace) d ≡ Some x → IsReadAgain c trace d e x
  -- one that began by opening a version again was granted that, and its number keeps it
  pub reread : (d : CallId) (caller : Waiting) (e : EpochId) (bytes : List ℕ) (kept : OneVersion) (last : EpochId) → HasTaken c trace d caller e → gives_now c trace d caller ≡ want.Give (reply.Data bytes) → begun (entries trace) d ≡ Some (begins.Reopens kept last) →
      ((x : Descriptor) × (opening_of (entries trace) d ≡ Some x)) × ReadsKept trace caller kept

-- what other laws give once a line is told: what they keep of packets stays, and what comes next rests on the trace with the line
pub record Follows (c : Config) (old new : List Line) (x : Told) : Type 0 where
  pub stay : AllStay c old new x
  pub requests : RequestRests c new
  pub replies : ReplyRests c new

-- so it is line after line, where each comes as it may
abbrev pub Staying : Config → ℕ → List Line → List Told → Type 0
Staying c n trace [] = Unit {0}
Staying c n trace (x ∷ xs) = MayTell c trace x → Follows c trace (record { number = n; told = x } ∷ trace) x × Staying c n (record { number = n; told = x } ∷ trace) xs

-- each line kept what other laws keep of packets
abbrev pub Steady : Config → List Line → Type 0
Steady c [] = Unit {0}
Steady c (x ∷ older) = AllStay c older (x ∷ older) x.told × Steady c older

-- the version that a look was served stands, wherever each line came as it may
abbrev pub LooksStand : Config → Type 0
LooksStand c = (trace : List Line) (e : EpochId) (d : CallId) (request times : ℕ) (f : FileId) (w : What) (s : Stamp) → IsFollowed c trace → WasLooked trace e d request times f w (served.At s) → Stands c trace f s

-- of a look that is answered
pub record LookRests (c : Config) (trace : List Line) : Type 0 where
  pub stands : LooksStand c
  -- whole contents are served of the version that was asked
  pub whole : (e : EpochId) (d : CallId) (request times : ℕ) (f : FileId) (asked s : Stamp) → WasLooked trace e d request times f (what.Whole asked) (served.At s) → s ≡ asked
  -- whole contents are looked at by mends alone, of the kept versions one after another
  pub wholes : (d : CallId) (caller : Waiting) (file : FileId) (stamp : Stamp) → call_named (entries trace) d ≡ Some caller → asked_now c trace d ≡ want.Look file (what.Whole stamp) →
      (caller.words ≡ call.Mend file) × (taken_whole (log trace d ++ answer.Brought ∷ []) ≡ taken_whole (log trace d) ++ stamp ∷ [])

-- a call of the epoch in which its site is
pub record IsCallHere (trace : List Line) (e : EpochId) (d : CallId) : Type 0 where
  pub caller : Waiting
  pub named : call_named (entries trace) d ≡ Some caller
  pub made_in : caller.epoch ≡ Some e
  pub inside : epoch_of (entries trace) d.site ≡ Some e

-- of an operation that was done
pub record ActRests (c : Config) (trace : List Line) : Type 0 where
  -- an operation that was done under the number that a call asks it now has its answer waiting for the call
  pub done : (e : EpochId) (d : CallId) (i : Serial) (o : Op) (n : ℕ) (r : Result) → IsCallHere trace e d → asked_now c trace d ≡ want.Do i o → n ≡ ops_asked c trace i → OpDoneFact trace e i n r → Waits c trace d (op_answer r)
  -- and it is the one that the call asks
  pub same : (e : EpochId) (d : CallId) (i : Serial) (o p : Op) (n : ℕ) (r : Result) → IsCallHere trace e d → asked_now c trace d ≡ want.Do i o → n ≡ ops_asked c trace i → WasDone trace e i n p r → p ≡ o

-- of a read of an instance that was opened to read
pub record ReadRests (c : Config) (trace : List Line) : Type 0 where
  -- it gave the bytes that the version has there on which the instance was granted
  pub gave : (e : EpochId) (i : Serial) (n at len : ℕ) (bytes : List ℕ) (d : CallId) (request : ℕ) (file : FileId) (stamp : Stamp) (ss : ℕ) → WasDone trace e i n (op.Read at len) (result.Data bytes) → WasGranted trace e d request i mode.Read file (Some stamp) ss → bytes ≡ take len (drop at (content_of (history c (entries trace)) file stamp))

-- of an instance that was released
pub record CloseRests (c : Config) (trace : List Line) : Type 0 where
  -- an instance that was released, and whose close a call asks now, has the answer waiting for the call
  pub closed : (e : EpochId) (d : CallId) (i : Serial) (a : CloseAnswer) → IsCallHere trace e d → asked_now c trace d ≡ want.Close i → CloseDoneFact c trace e i a → Waits c trace d (close_answer a)

-- of an open that was granted
pub record OpenRests (c : Config) (trace : List Line) : Type 0 where
  -- while a call asks an open, no operation was asked of the instance that it is to be
  pub unasked : (e : EpochId) (d : CallId) → IsCallHere trace e d → is_open_want (asked_now c trace d) ≡ true → ops_asked c trace (serial_of d.site (serial_asked c trace d)) ≡ 0
  -- while a mend asks its open, what is kept of the directory is what was kept when it was granted: so the answer tells it
  pub mending : (e : EpochId) (d : CallId) (request : ℕ) (i : Serial) (file : FileId) (stamp : Option Stamp) (ss : ℕ) → IsCallHere trace e d → WasGranted trace e d request i mode.Mend file stamp ss → request ≡ request_number trace d →
      Waits c trace d (answer.Merging i (kept_in c (entries trace) e file))

-- what the site has of the kept versions of the directories that it mends is what is kept of them
abbrev pub IsKeptBy : Config → List Line → Frame → (FileId → List Stamp) → Type 0
IsKeptBy c trace f kept = (file : FileId) → sync_site c file.group (members_of (entries trace) f.epoch) ≡ Some f.me → IsStarted c trace f.epoch file.group → kept file ≡ kept_in c (entries trace) f.epoch file
