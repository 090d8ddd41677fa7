-- Promises that stand beside the headline: sentences that no row says alone.
use Rattle.std.specs.Prelude.{◌≡◌, ◌==◌, Bool, true, false, not, ◌&&◌, ◌||◌, cond, nat_le, length, filter, Some}
use Rattle.std.specs.List.{list_any, list_all}
use Rattle.locus_ids.specs.declared.config.Config.{Config}
use Rattle.trace_book.specs.declared.record.Record.{Record}
use Rattle.trace_book.specs.declared.record.Record.TheVariants as rec
use Rattle.locus_ids.specs.declared.refusal.Refusal.TheVariants.{Changed}
use Rattle.trace_book.specs.declared.call.Call.{Call}
use Rattle.trace_book.specs.declared.call.Call.TheVariants as call
use Rattle.trace_book.specs.declared.operation.Op.TheVariants as op
use Rattle.trace_book.specs.declared.reply.Reply.TheVariants as reply
use Rattle.lawful_trace.specs.of_call_rules.declared.answer.Answer.{Answer}
use Rattle.lawful_trace.specs.of_call_rules.declared.answer.Answer.TheVariants as answer
use Rattle.lawful_trace.specs.of_call_rules.declared.want.Want.TheVariants as want
use Rattle.promises.specs.Past.{Past, Epoch, Instance, CallSoFar, is_writer, asks}
use Rattle.promises.specs.After.{is_home_of, is_id, told_by}
use Rattle.promises.specs.Rows.{is_asked, is_home}
use Rattle.lawful_trace.specs.of_call_rules.Scripts.{gives_reply}

-- some call of the epoch asks next that the instance be committed or closed
abbrev pub is_commit_asked : Config → Past → Epoch → Instance → Bool
is_commit_asked c p t x = is_asked c p t (λ k. true) (want.Close x.grant.inst) || is_asked c p t (λ k. true) (want.Do x.grant.inst op.Commit)

-- A version is committed only where a call has asked for the commit or the close of its instance, and hasn't been answered that yet
-- (it may have been told that its epoch has changed): so what is aborted was never committed.
abbrev pub commits_when_asked : Config → Past → Record → Bool
commits_when_asked c p (rec.Commit f site stamp parents content) = list_any (λ t. list_any (is_commit_asked c p t) (filter (is_writer f site) t.opened)) (filter (is_home_of p site) p.epochs)
commits_when_asked c p _ = true

-- a reply is owed at once to a waiting call whose site has left its epoch, and to one that needs no request
abbrev pub is_owed_reply : Config → Past → CallSoFar → Bool
is_owed_reply c p k = k.waits && (not (is_home p k) || ((length k.answers == 0) && gives_reply (asks c p k)))

-- While a reply is owed, only such replies come: so nothing comes before it. That it comes before the trace ends isn't said here.
abbrev pub comes_promptly : Config → Past → Record → Bool
comes_promptly c p (rec.Answer site process id r) = not (list_any (is_owed_reply c p) p.calls) || list_any (λ k. is_id id k && is_owed_reply c p k) p.calls
comes_promptly c p _ = not (list_any (is_owed_reply c p) p.calls)

-- a close of the call's own made a version
abbrev pub is_version_made : Answer → Bool
is_version_made (answer.Ended (Some stamp)) = true
is_version_made _ = false

-- the call makes a file, which no entry names yet
abbrev pub makes_file : Call → Bool
makes_file (call.Create path sites) = true
makes_file (call.MakeDir path) = true
makes_file (call.Mail path bytes) = true
makes_file _ = false

-- no close of the call's own made a version, but for one of a file that no entry names
abbrev pub changes_nothing_named : CallSoFar → Bool
changes_nothing_named k = nat_le (length (filter is_version_made k.answers)) (cond (makes_file k.words) 1 0)

-- A call that is refused, for another cause than that its epoch has changed, changes no named file.
abbrev pub refusals_change_nothing : Past → Record → Bool
refusals_change_nothing p (rec.Answer site process id (reply.No (Changed e))) = true
refusals_change_nothing p (rec.Answer site process id (reply.No why)) = list_all changes_nothing_named (filter (is_id id) p.calls)
refusals_change_nothing p _ = true
