-- What a record tells that no record before it does: numbers that are new, and the words of calls.
use Rattle.std.specs.Prelude.{ℕ, Bool, true, ◌&&◌}
use Rattle.trace_book.specs.declared.call.Call.{Call}
use Rattle.trace_book.specs.declared.call.Call.TheVariants as call
use Rattle.trace_book.specs.declared.record.Record.{Record}
use Rattle.trace_book.specs.declared.record.Record.TheVariants.{Up, Join, Accept, Look, Grant, Refuse, Act, Commit, Packet}
use Rattle.record_reading.specs.Ranges.{is_any_site, is_call_id, is_counted, is_epoch, is_instance, is_members, is_process, is_request, is_stamp, is_words}

-- the words of a call of this process; which directory a mend is of, the tree tells
abbrev pub is_new_call : ℕ → Call → Bool
is_new_call process (call.Mend file) = true
is_new_call process words = is_words process words

-- what is new in the record is in range
abbrev pub is_new_text : Record → Bool
is_new_text (Up site boot) = is_counted boot
is_new_text (Join site epoch members) = is_epoch epoch && is_members members
is_new_text (Accept site process call words) = is_process process && (is_call_id call && is_new_call process words)
is_new_text (Look epoch call request file what result) = is_request request
is_new_text (Grant epoch call request inst mode file stamp ss) = is_request request && is_instance inst
is_new_text (Refuse epoch call request inst mode file why) = is_request request && is_instance inst
is_new_text (Act epoch inst n op result) = is_counted n
is_new_text (Commit file site stamp parents content) = is_stamp stamp
is_new_text (Packet n from to kind) = is_counted n && (is_any_site from && is_any_site to)
is_new_text _ = true
