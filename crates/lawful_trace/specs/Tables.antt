-- The descriptors of processes by the records so far, and where an accepted call begins by them.
use Rattle.std.specs.Option.{option_map}
use Rattle.std.specs.Prelude.{ℕ, suc, ◌==◌, Bool, true, false, not, ◌&&◌, ◌||◌, cond, List, [], ◌∷◌, length, Option, None, Some}
use Rattle.locus_ids.specs.declared.ids.CallId.{CallId}
use Rattle.locus_ids.specs.declared.ids.EpochId.{EpochId}
use Rattle.locus_ids.specs.declared.ids.Serial.{Serial}
use Rattle.trace_book.specs.Same.{same_epoch, same_call, same_serial}
use Rattle.trace_book.specs.declared.record.Record.{Record}
use Rattle.trace_book.specs.declared.record.Record.TheVariants.{Stopped, Accept, Answer}
use Rattle.trace_book.specs.declared.call.Call.{Call}
use Rattle.trace_book.specs.declared.call.Call.TheVariants as call
use Rattle.trace_book.specs.declared.descriptor.Descriptor.{Descriptor}
use Rattle.trace_book.specs.declared.descriptor.OneVersion.{OneVersion}
use Rattle.trace_book.specs.declared.descriptor.Beginning.{Beginning}
use Rattle.trace_book.specs.declared.descriptor.Beginning.TheVariants.{Uses, Denied, Walks, Reopens, Frees}
use Rattle.trace_book.specs.declared.reply.Reply.{Reply}
use Rattle.trace_book.specs.declared.reply.Reply.TheVariants.{Opened, Data}
use Rattle.call_rules.specs.Descriptors.{beginning}
use Rattle.call_rules.specs.Opening.{is_steady}
use Rattle.tree_model.specs.Folds.{Trace, over}
use Rattle.tree_model.specs.Epochs.{epoch_of}
use Rattle.tree_model.specs.declared.accepted.Waiting.{Waiting}
use Rattle.tree_model.specs.Calls.{call_named, granted_to, opening_of, version_of}

-- Descriptors: an open that is answered takes a number, an accepted close frees it, and a stop frees all. A steady one keeps its version,
-- and a read that opens this again makes it held by the new instance.

abbrev pub closed_by : Call → ℕ → Option Descriptor → Option Descriptor
closed_by (call.Close n) fd old = cond (n == fd) None old
closed_by _ fd old = old

abbrev pub kept_by : Option Waiting → Option OneVersion → Option OneVersion
kept_by None version = None
kept_by (Some w) version = cond (is_steady w.words) version None

-- what an open's descriptor stands for: the last instance that was granted to the call, and its version where it is to keep that
abbrev pub opened_as : Trace → CallId → Option Descriptor
opened_as before c = option_map (λ (d : Descriptor). record d { steady = kept_by (call_named before c) (version_of before c) }) (opening_of before c)

-- the call reads by this number
abbrev pub is_read_of : Call → ℕ → Bool
is_read_of (call.Read n at len) fd = n == fd
is_read_of _ fd = false

abbrev pub reads_by : Option Waiting → ℕ → Bool
reads_by None fd = false
reads_by (Some w) fd = is_read_of w.words fd

-- a read to which an instance was granted has opened the version again
abbrev pub held_again : Option Descriptor → Option Descriptor → Option Descriptor
held_again None old = old
held_again (Some opening) old = option_map (λ (d : Descriptor). record opening { steady = d.steady }) old

abbrev pub opened_by : Reply → Trace → CallId → ℕ → Option Descriptor → Option Descriptor
opened_by (Opened n) before c fd old = cond (n == fd) (opened_as before c) old
opened_by (Data bytes) before c fd old = cond (reads_by (call_named before c) fd) (held_again (opening_of before c) old) old
opened_by _ before c fd old = old

abbrev pub descriptor_after : Record → Trace → ℕ → ℕ → ℕ → Option Descriptor → Option Descriptor
descriptor_after (Accept s p call words) before site process fd old = cond ((s == site) && (p == process)) (closed_by words fd old) old
descriptor_after (Answer s p call reply) before site process fd old = cond ((s == site) && (p == process)) (opened_by reply before call fd old) old
descriptor_after (Stopped s cause) before site process fd old = cond (s == site) None old
descriptor_after _ before site process fd old = old

-- what a number of a process stands for
abbrev pub descriptor : Trace → ℕ → ℕ → ℕ → Option Descriptor
descriptor trace site process fd = over None (λ r before old. descriptor_after r.what before site process fd old) trace

-- Where calls begin.

-- where a call begins that is accepted now
abbrev pub begins_now : Trace → ℕ → ℕ → CallId → Call → Beginning
begins_now before site process id words = beginning (descriptor before site process) (epoch_of before site) id words

abbrev pub begun_after : Record → Trace → CallId → Option Beginning → Option Beginning
begun_after (Accept s process call words) before c old = cond (same_call call c) (Some (begins_now before s process call words)) old
begun_after _ before c old = old

-- where an accepted call has begun
abbrev pub begun : Trace → CallId → Option Beginning
begun trace c = over None (λ r before old. begun_after r.what before c old) trace

-- Which call a step on a named instance belongs to.

abbrev pub is_close : Call → Bool
is_close (call.Close fd) = true
is_close _ = false

abbrev pub uses_by : Beginning → EpochId → Serial → Bool
uses_by (Uses epoch inst) e i = same_epoch epoch e && same_serial inst i
uses_by (Denied why) e i = false
uses_by (Walks call) e i = false
uses_by (Reopens version last) e i = false
uses_by Frees e i = false

abbrev pub is_opening : Option Descriptor → EpochId → Serial → Bool
is_opening None e i = false
is_opening (Some d) e i = same_epoch d.epoch e && same_serial d.inst i

abbrev pub uses_after : Record → Trace → EpochId → Serial → List CallId → List CallId
uses_after (Accept s process call words) before e i old = cond (not (is_close words) && uses_by (begins_now before s process call words) e i) (call ∷ old) old
uses_after (Answer s process call (Data bytes)) before e i old = cond (is_opening (opening_of before call) e i) (call ∷ old) old
uses_after _ before e i old = old

-- the reads, writes, cuts, commits and aborts on the instance that met no local refusal, the latest first; of an instance that a read opened
-- for a steady descriptor that read is the first
abbrev pub uses_of : Trace → EpochId → Serial → List CallId
uses_of trace e i = over [] (λ r before old. uses_after r.what before e i old) trace

-- number n of them, from 1 for the earliest
abbrev pub use_number : List CallId → ℕ → Option CallId
use_number [] n = None
use_number (c ∷ earlier) n = cond (n == suc (length earlier)) (Some c) (use_number earlier n)

abbrev pub close_after : Record → Trace → EpochId → Serial → Option CallId → Option CallId
close_after (Accept s process call words) before e i old = cond (is_close words && uses_by (begins_now before s process call words) e i) (Some call) old
close_after _ before e i old = old

-- the close of the instance
abbrev pub close_of : Trace → EpochId → Serial → Option CallId
close_of trace e i = over None (λ r before old. close_after r.what before e i old) trace

-- an open that gives a number, or a read that has opened again what a steady one keeps
abbrev pub names_instance : Reply → Bool
names_instance (Opened fd) = true
names_instance (Data bytes) = true
names_instance _ = false

abbrev pub named_after : Record → CallId → Bool → Bool
named_after (Answer site process call r) d old = same_call call d && names_instance r || old
named_after _ d old = old

-- the call was answered by a descriptor, or by what one read that it holds again, which has named the instance that was granted to it last
abbrev pub has_named : Trace → CallId → Bool
has_named trace d = over false (λ r before old. named_after r.what d old) trace

-- where a descriptor has named the instance that was granted to this call, the call that used or closed it, else this one
abbrev pub unless_named : Trace → Option CallId → Option CallId → Option CallId
unless_named before user None = None
unless_named before user (Some granted) = cond (has_named before granted) user (Some granted)

-- the call that operation n of the instance is a step of: the n-th use of its descriptor, or where no descriptor has
-- named it, the call that it was granted to
abbrev pub call_of_act : Trace → EpochId → Serial → ℕ → Option CallId
call_of_act before e i n = unless_named before (use_number (uses_of before e i) n) (granted_to before e i)

-- the call that the instance's release is a step of
abbrev pub call_of_release : Trace → EpochId → Serial → Option CallId
call_of_release before e i = unless_named before (close_of before e i) (granted_to before e i)

abbrev pub is_call : Option CallId → CallId → Bool
is_call None c = false
is_call (Some d) c = same_call d c
