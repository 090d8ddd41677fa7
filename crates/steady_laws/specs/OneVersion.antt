-- The law of one version. A steady descriptor is opened on one version of a file, and whatever epochs come between, each read by it that is
-- answered with bytes gives those of that version.
use Rattle.std.specs.Prelude.{ℕ, ◌≡◌, ◌==◌, Bool, true, false, not, ◌&&◌, cond, Option, None, Some}
use Rattle.std.specs.Str.{bytes_eq}
use Rattle.locus_ids.specs.declared.config.Config.{Config}
use Rattle.locus_ids.specs.declared.ids.CallId.{CallId}
use Rattle.locus_ids.specs.declared.ids.EpochId.{EpochId}
use Rattle.locus_ids.specs.declared.refusal.Refusal.TheVariants as refusal
use Rattle.commit_graph.specs.Versions.{content_of, is_in, same_file, same_stamp}
use Rattle.file_content.specs.Contents.{part}
use Rattle.trace_book.specs.Same.{same_epoch}
use Rattle.trace_book.specs.declared.call.Call.{Call}
use Rattle.trace_book.specs.declared.call.Call.TheVariants as call
use Rattle.trace_book.specs.declared.descriptor.Descriptor.{Descriptor}
use Rattle.trace_book.specs.declared.descriptor.OneVersion.{OneVersion}
use Rattle.trace_book.specs.declared.record.Record.{Record}
use Rattle.trace_book.specs.declared.record.Record.TheVariants.{Accept, Answer, Stopped}
use Rattle.trace_book.specs.declared.reply.Reply.{Reply}
use Rattle.trace_book.specs.declared.reply.Reply.TheVariants as reply
use Rattle.tree_model.specs.declared.accepted.Waiting.{Waiting}
use Rattle.tree_model.specs.Calls.{call_named, version_of}
use Rattle.tree_model.specs.Folds.{Trace, over}
use Rattle.tree_model.specs.Histories.{history}
use Rattle.lawful_trace.specs.Tables.{descriptor, kept_by}

-- The version that a number keeps.

abbrev pub freed_by : Call → ℕ → Option OneVersion → Option OneVersion
freed_by (call.Close n) fd old = cond (n == fd) None old
freed_by _ fd old = old

-- an open to read steadily that is answered with a number keeps the version with which its instance was granted
abbrev pub taken_by : Reply → Trace → CallId → ℕ → Option OneVersion → Option OneVersion
taken_by (reply.Opened n) before id fd old = cond (n == fd) (kept_by (call_named before id) (version_of before id)) old
taken_by _ before id fd old = old

abbrev pub kept_after : Record → Trace → ℕ → ℕ → ℕ → Option OneVersion → Option OneVersion
kept_after (Accept s p id words) before site process fd old = cond ((s == site) && (p == process)) (freed_by words fd old) old
kept_after (Answer s p id r) before site process fd old = cond ((s == site) && (p == process)) (taken_by r before id fd old) old
kept_after (Stopped s cause) before site process fd old = cond (s == site) None old
kept_after _ before site process fd old = old

-- from the open until the number is closed or the site stops
abbrev pub kept_version : Trace → ℕ → ℕ → ℕ → Option OneVersion
kept_version trace site process fd = over None (λ r before old. kept_after r.what before site process fd old) trace

-- the same by the descriptor
abbrev pub steady_of : Option Descriptor → Option OneVersion
steady_of None = None
steady_of (Some d) = d.steady

-- Reads.

-- a read by a number that keeps a version
pub record Read : Type 0 where
  pub fd : ℕ
  pub at : ℕ
  pub len : ℕ
  pub version : OneVersion

abbrev pub read_from : ℕ → ℕ → ℕ → Option OneVersion → Option Read
read_from fd at len None = None
read_from fd at len (Some version) = Some (record { fd = fd; at = at; len = len; version = version })

abbrev pub read_by : Trace → ℕ → ℕ → Option Waiting → Option Read
read_by before site process None = None
read_by before site process (Some w) = by w.words
  where
    by : Call → Option Read
    by (call.Read fd at len) = read_from fd at len (kept_version before site process fd)
    by _ = None

-- the kept version is that of a commit record or of the format, and bytes are those of it, from the place and of the length that the call says
abbrev pub is_of_version : Config → Trace → Reply → Read → Bool
is_of_version c before (reply.Data bytes) r = is_in (history c before) r.version.file r.version.stamp && bytes_eq bytes (part (content_of (history c before) r.version.file r.version.stamp) r.at r.len)
is_of_version c before _ r = true

-- the file was opened again for the call, and another version was granted
abbrev pub is_another : Option OneVersion → OneVersion → Bool
is_another None kept = false
is_another (Some granted) kept = not (same_file granted.file kept.file && same_stamp granted.stamp kept.stamp)

abbrev pub holds_last : Option Descriptor → EpochId → Bool
holds_last None e = false
holds_last (Some d) e = same_epoch d.epoch e

-- that a number is stale is said where another version was granted, and nothing else is said then but that the epoch has changed; it names the
-- epoch in which the number was held last
abbrev pub is_stale_where_due : Trace → ℕ → ℕ → CallId → Reply → Read → Bool
is_stale_where_due before site process id (reply.No (refusal.Stale e)) r = is_another (version_of before id) r.version && holds_last (descriptor before site process r.fd) e
is_stale_where_due before site process id (reply.No (refusal.Changed e)) r = true
is_stale_where_due before site process id _ r = not (is_another (version_of before id) r.version)

abbrev pub answers_read : Config → Trace → ℕ → ℕ → CallId → Reply → Option Read → Bool
answers_read c before site process id answer None = true
answers_read c before site process id answer (Some r) = is_of_version c before answer r && is_stale_where_due before site process id answer r

abbrev pub is_answered : Config → Trace → Record → Bool
is_answered c before (Answer s p id r) = answers_read c before s p id r (read_by before s p (call_named before id))
is_answered c before _ = true

-- each read by a steady descriptor is of the one version, or is told that this can't be read any more
abbrev pub ReadsOneVersion : Config → Trace → Type 0
ReadsOneVersion c trace = over true (λ r before old. is_answered c before r.what && old) trace ≡ true
