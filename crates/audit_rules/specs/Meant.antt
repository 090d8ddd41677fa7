-- Which record the text of a record means. The text leaves out which version a look at a whole content asks for, and which reply an
-- `ok` is: of the records that have the text it means the one that the script of the call makes, where there is one.
use Rattle.std.specs.Prelude.{ℕ, ◌-◌, cond, take, Option, None, Some}
use Rattle.std.specs.List.{find}
use Rattle.locus_ids.specs.declared.config.Config.{Config}
use Rattle.locus_ids.specs.declared.ids.CallId.{CallId}
use Rattle.trace_book.specs.declared.operation.What.{What}
use Rattle.trace_book.specs.declared.operation.What.TheVariants as what
use Rattle.trace_book.specs.declared.record.Record.{Record}
use Rattle.trace_book.specs.declared.record.Record.TheVariants.{Look, Answer}
use Rattle.trace_book.specs.declared.reply.Reply.{Reply}
use Rattle.call_rules.specs.declared.want.Want.{Want}
use Rattle.call_rules.specs.declared.want.Want.TheVariants as want
use Rattle.record_reading.specs.AsRead.{reply_as_read}
use Rattle.promises.specs.Past.{Past, CallSoFar, asks, asks_after}
use Rattle.promises.specs.After.{is_id}
use Rattle.promises.specs.Same.{same_reply}

-- the call of this name, the latest where there are several
abbrev pub call_named : Past → CallId → Option CallSoFar
call_named p id = find (is_id id) p.calls

-- what the call asks by the request of this number
abbrev pub asked_by : Config → Past → ℕ → Option CallSoFar → Want
asked_by c p request None = want.Never
asked_by c p request (Some k) = asks_after c p k (take (request - 1) k.answers)

-- what the call asks next
abbrev pub asked_next : Config → Past → Option CallSoFar → Want
asked_next c p None = want.Never
asked_next c p (Some k) = asks c p k

-- a look at a whole content is at the version that the script asks for
abbrev pub what_meant : Want → What → What
what_meant (want.Look f (what.Whole asked)) (what.Whole read) = what.Whole asked
what_meant _ w = w

-- a reply is the one that the script gives, where that is read so; that an epoch has changed is said in no other words
abbrev pub reply_meant : Want → Reply → Reply
reply_meant (want.Give given) r = cond (same_reply (reply_as_read given) r) given r
reply_meant _ r = r

-- the record that is meant by this one as it was read, by what those before it tell
abbrev pub meant : Config → Past → Record → Record
meant c p (Look e id request f w result) = Look e id request f (what_meant (asked_by c p request (call_named p id)) w) result
meant c p (Answer site process id r) = Answer site process id (reply_meant (asked_next c p (call_named p id)) r)
meant c p r = r
