-- How far a call has come by the records: what its requests were answered, and what it asks next.
use Rattle.std.specs.Prelude.{ℕ, ◌-◌, Bool, false, cond, List, [], ◌∷◌, ◌++◌, length, take, Option, None, Some}
use Rattle.std.specs.Option.{is_some}
use Rattle.locus_ids.specs.declared.config.Config.{Config}
use Rattle.locus_ids.specs.declared.ids.FileId.{FileId}
use Rattle.locus_ids.specs.declared.ids.Stamp.{Stamp}
use Rattle.locus_ids.specs.declared.ids.CallId.{CallId}
use Rattle.locus_ids.specs.declared.ids.EpochId.{EpochId}
use Rattle.locus_ids.specs.declared.ids.Kind.{Kind}
use Rattle.locus_ids.specs.declared.ids.Serial.{Serial}
use Rattle.locus_ids.specs.declared.ids.Mode.{Mode}
use Rattle.locus_ids.specs.declared.ids.Mode.TheVariants as mode
use Rattle.locus_ids.specs.declared.refusal.Refusal.TheVariants.{Absent, Ambiguous, Spent, Changed}
use Rattle.call_rules.specs.of_commit_graph.Versions.{content_of}
use Rattle.trace_book.specs.Same.{same_call}
use Rattle.trace_book.specs.declared.record.Record.{Record}
use Rattle.trace_book.specs.declared.record.Record.TheVariants.{Look, Grant, Refuse, Act, Release}
use Rattle.trace_book.specs.declared.descriptor.Beginning.{Beginning}
use Rattle.trace_book.specs.declared.operation.What.{What}
use Rattle.trace_book.specs.declared.operation.What.TheVariants as what
use Rattle.trace_book.specs.declared.operation.Served.{Served}
use Rattle.trace_book.specs.declared.operation.Served.TheVariants as served
use Rattle.trace_book.specs.declared.operation.Outcome.{Outcome}
use Rattle.trace_book.specs.declared.operation.Outcome.TheVariants as outcome
use Rattle.trace_book.specs.declared.reply.Reply.TheVariants as reply
use Rattle.call_rules.specs.Descriptors.{is_in, lowest_free}
use Rattle.call_rules.specs.declared.answer.Answer as answered
use Rattle.call_rules.specs.declared.answer.Answer.TheVariants.{Entered, Showed, Described, Brought, Opened, Reading, Merging, Did, Ended, Refused}
use Rattle.call_rules.specs.declared.want.Want.{Want}
use Rattle.call_rules.specs.declared.want.Want.TheVariants.{Give, Never}
use Rattle.call_rules.specs.Scripts.{wants}
use Rattle.tree_model.specs.of_dir_format.declared.looking.LookResult.{LookResult}
use Rattle.tree_model.specs.of_dir_format.declared.looking.LookResult.TheVariants as looked
use Rattle.tree_model.specs.of_dir_format.Contents.{entries_of}
use Rattle.tree_model.specs.of_dir_format.Lookups.{lookup, shown_names}
use Rattle.tree_model.specs.declared.instance.Instance.{Instance}
use Rattle.tree_model.specs.declared.accepted.Waiting.{Waiting}
use Rattle.tree_model.specs.Files.{kind_of_file}
use Rattle.tree_model.specs.State.{instance_in}
use Rattle.tree_model.specs.Tree.{tree_of, kept_in}
use Rattle.tree_model.specs.Folds.{Trace, over}
use Rattle.tree_model.specs.Histories.{history}
use Rattle.tree_model.specs.Epochs.{epoch_of, members_of}
use Rattle.tree_model.specs.Packs.{sync_site}
use Rattle.tree_model.specs.Calls.{call_named}
use Rattle.lawful_trace.specs.Tables.{descriptor, begun, call_of_act, call_of_release, is_call}

-- Answers.

abbrev pub Answers : Type 0
Answers = List answered.Answer

abbrev pub entered : List ℕ → LookResult → answered.Answer
entered component (looked.Found ino kind) = Entered ino kind
entered component looked.Absent = Refused (Absent component)
entered component (looked.Ambiguous a b) = Refused (Ambiguous a b)

-- what a look finds in the content of the version that is served
abbrev pub found_in : Kind → Stamp → What → List ℕ → answered.Answer
found_in kind stamp (what.Name component) content = entered component (lookup (entries_of content) component)
found_in kind stamp what.List content = Showed (shown_names (entries_of content))
found_in kind stamp what.Stat content = Described kind (length content) stamp
found_in kind stamp (what.Whole asked) content = Brought

abbrev pub look_answer : Config → Trace → FileId → What → Served → answered.Answer
look_answer c before f w (served.At stamp) = found_in (kind_of_file c before f) stamp w (content_of (history c before) f stamp)
look_answer c before f w (served.No why) = Refused why

-- a granted open tells the instance, one to read its version too, and one to mend the kept versions
abbrev pub granted_answer : Mode → Serial → FileId → Option Stamp → List Stamp → answered.Answer
granted_answer mode.Mend i f stamp kept = Merging i kept
granted_answer mode.Read i f (Some stamp) kept = Reading i (record { file = f; stamp = stamp })
granted_answer mode.Read i f None kept = Opened i f.ino
granted_answer mode.Write i f stamp kept = Opened i f.ino
granted_answer mode.Resolve i f stamp kept = Opened i f.ino
granted_answer mode.Make i f stamp kept = Opened i f.ino

-- a close tells the version that it made, which is the one committed since the last operation; where a commit is still
-- owed, since it can't be made, the close is refused
abbrev pub closed : Option Stamp → Instance → answered.Answer
closed stamp x = cond x.work.owes (Refused Spent) (Ended (cond x.work.fresh stamp None))

abbrev pub close_answer : Option Stamp → Option Instance → answered.Answer
close_answer stamp None = Ended None
close_answer stamp (Some x) = closed stamp x

abbrev pub outcome_answer : Outcome → answered.Answer
outcome_answer (outcome.No why) = Refused why
outcome_answer outcome.Done = Did outcome.Done
outcome_answer (outcome.Found ino kind) = Did (outcome.Found ino kind)
outcome_answer (outcome.Data bytes) = Did (outcome.Data bytes)
outcome_answer (outcome.Committed stamp) = Did (outcome.Committed stamp)

-- All answers.

-- A look that is taken again has the number of its request; its last record counts.
abbrev pub answers_after : Record → Config → Trace → CallId → Answers → Answers
answers_after (Look e call request f w result) c before d old = cond (same_call call d) (take (request - 1) old ++ look_answer c before f w result ∷ []) old
answers_after (Grant e call request i mode f stamp ss) c before d old = cond (same_call call d) (old ++ granted_answer mode i f stamp (kept_in c before e f) ∷ []) old
answers_after (Refuse e call request i mode f why) c before d old = cond (same_call call d) (old ++ Refused why ∷ []) old
answers_after (Act e i n o result) c before d old = cond (is_call (call_of_act before e i n) d) (old ++ outcome_answer result ∷ []) old
answers_after (Release e i f stamp) c before d old = cond (is_call (call_of_release before e i) d) (old ++ close_answer stamp (instance_in (tree_of c e f.group before) i) ∷ []) old
answers_after _ c before d old = old

-- what the requests of the call were answered so far, the earliest first
abbrev pub answers : Config → Trace → CallId → Answers
answers c trace d = over [] (λ r before old. answers_after r.what c before d old) trace

-- What comes next.

-- some member of the epoch has a pack of the group
abbrev pub is_packed_in : Config → Trace → Option EpochId → ℕ → Bool
is_packed_in c before None group = false
is_packed_in c before (Some e) group = is_some (sync_site c group (members_of before e))

-- what the call asks after these answers
abbrev pub wants_as : Config → Trace → Option Waiting → Option Beginning → Answers → Want
wants_as c before (Some w) (Some begins) so_far = wants c.mounts (is_packed_in c before w.epoch) (lowest_free (descriptor before w.site w.process)) w.words begins so_far
wants_as c before (Some w) None so_far = Never
wants_as c before None begins so_far = Never

abbrev pub wants_after : Config → Trace → CallId → Answers → Want
wants_after c before d so_far = wants_as c before (call_named before d) (begun before d) so_far

-- what the call asks next
abbrev pub wants_next : Config → Trace → CallId → Want
wants_next c before d = wants_after c before d (answers c before d)

-- the epoch in which a waiting call was made, if its site has left it since
abbrev pub left_since : Trace → ℕ → Option EpochId → Option EpochId
left_since before site None = None
left_since before site (Some e) = cond (is_in (epoch_of before site) e) None (Some e)

abbrev pub left_epoch : Trace → Waiting → Option EpochId
left_epoch before w = left_since before w.site w.epoch

-- a call whose site has left its epoch is answered that this has changed, whatever its script asks
abbrev pub unless_left : Option EpochId → Want → Want
unless_left None want = want
unless_left (Some e) want = Give (reply.No (Changed e))

abbrev pub now_wants : Config → Trace → Waiting → Want
now_wants c before w = unless_left (left_epoch before w) (wants_next c before w.call)
