-- No counter of versions comes to its end, and what is closed owes nothing: so no commit and no close is refused.
use Rattle.std.proofs.Common.{◌≡◌, ℕ, ◌+◌, ◌==◌, Bool, true, false, cond, List, [], ◌∷◌, Option, Some, None, refl, sym, ◌∙◌, ap, subst}
use Rattle.role_steps.proofs.of_plain_facts.Tests.{and_second, false_true, true_false}
use Rattle.locus_ids.specs.declared.config.Config.{Config}
use Rattle.locus_ids.specs.declared.ids.Stamp.{Stamp}
use Rattle.locus_ids.specs.declared.refusal.Refusal.TheVariants as refusal
use Rattle.schedule_lines.specs.Cluster.{config_of}
use Rattle.schedule_lines.specs.Schedule.{AreInOrder}
use Rattle.schedule_lines.specs.declared.line.ScheduleLine.{ScheduleLine}
use Rattle.trace_book.specs.declared.operation.Op.TheVariants as op
use Rattle.trace_book.specs.declared.operation.Outcome.{Outcome}
use Rattle.trace_book.specs.declared.operation.Outcome.TheVariants as outcome
use Rattle.trace_book.specs.declared.record.Record.{Record}
use Rattle.trace_book.specs.declared.record.Record.TheVariants as says
use Rattle.call_rules.specs.declared.answer.Answer.TheVariants as answer
use Rattle.file_effects.specs.Works.{commit_result}
use Rattle.file_effects.specs.declared.work.Work.{Work}
use Rattle.role_steps.specs.Views.{Told, Shown}
use Rattle.the_run.specs.Runs.{run}
use Rattle.the_run.specs.Worlds.{Line}
use Rattle.tree_model.specs.declared.instance.Instance.{Instance}
use Rattle.tree_model.specs.Given.{instance_gives}
use Rattle.tree_model.specs.Histories.{history}
use Rattle.tree_model.specs.Same.{is_given}
use Rattle.tree_model.specs.State.{instance_in}
use Rattle.tree_model.specs.Tree.{tree_of}
use Rattle.tree_model.specs.Working.{is_spent}
use Rattle.lawful_trace.specs.Progress.{close_answer}
use Rattle.lawful_trace.specs.TreeRows.{granted_group}
use Rattle.tree_steps.proofs.Spent.{never_spent}
use Rattle.row_laws.specs.Shown.{trace_of}
use Rattle.tree_laws.specs.Following.{IsFollowed, MayTell}
use Rattle.tree_laws.specs.Printed.{entries, onto_entries}
use Rattle.rest_laws.proofs.Shown.{shown_entries}
use Rattle.headline_laws.specs.Promises.Granting.{CommitsAreNotRefused, IsNotRefused}
use Rattle.headline_laws.proofs.Promises.AcknowledgedRuns.{schedule_short}
use Rattle.headline_laws.proofs.Promises.Answered.{IsShort, shorter}
use Rattle.headline_laws.proofs.Promises.RunsHold.{schedule_followed}

commit_only : (spent : Bool) (w : Work) (o : Bool) (l : Option Stamp) (result : Outcome) → spent ≡ false → is_given (commit_result spent (record w { owes = o; last = l })) result ≡ true → (s : Stamp) × (result ≡ outcome.Committed s)
commit_only true w o l result short k = absurd (true_false short)
commit_only false w true l result short k = absurd (false_true k)
commit_only false w false None result short k = absurd (false_true k)
commit_only false w false (Some z) (outcome.Committed s) short k = (s, refl)
commit_only false w false (Some z) (outcome.No why) short k = absurd (false_true k)
commit_only false w false (Some z) outcome.Done short k = absurd (false_true k)
commit_only false w false (Some z) (outcome.Found ino kind) short k = absurd (false_true k)
commit_only false w false (Some z) (outcome.Data bytes) short k = absurd (false_true k)

ended : (owes fresh : Bool) (stamp : Option Stamp) → owes ≡ false → (made : Option Stamp) × (cond owes (answer.Refused refusal.Spent) (answer.Ended (cond fresh stamp None)) ≡ answer.Ended made)
ended true fresh stamp e = absurd (true_false e)
ended false fresh stamp e = (cond fresh stamp None, refl)

record_granted : (c : Config) (older : List Line) → IsShort c (entries older) → (r : Record) → MayTell c older (Shown r) → IsNotRefused c (entries older) r
record_granted c older short (says.Act e i n op.Commit result) may = commit_only (is_spent (history c (entries older)) (tree_of c e (granted_group (entries older) e i) (entries older)) may.in_time.at) may.in_time.at.work may.in_time.at.work.owes may.in_time.at.work.last result
    (never_spent (history c (entries older)) (tree_of c e (granted_group (entries older) e i) (entries older)) may.in_time.at short)
    (and_second (n == may.in_time.at.work.ops + 1) _ (ap (instance_gives (history c (entries older)) (tree_of c e (granted_group (entries older) e i) (entries older)) n op.Commit result) (sym may.in_time.open_at.found) ∙ may.row.gives))
record_granted c older short (says.Release e i f stamp) may = subst (λ (o : Option Instance). (made : Option Stamp) × (close_answer stamp o ≡ answer.Ended made)) (sym found) (ended may.in_time.at.work.owes may.in_time.at.work.fresh stamp may.in_time.owes)
  where
    found : instance_in (tree_of c e f.group (entries older)) i ≡ Some may.in_time.at
    found = subst (λ (g : ℕ). instance_in (tree_of c e g (entries older)) i ≡ Some may.in_time.at) may.in_time.group_is may.in_time.open_at.found
record_granted c older short _ may = tt

all_granted : (c : Config) (trace : List Line) → IsFollowed c trace → IsShort c (entries trace) → CommitsAreNotRefused c (entries trace)
all_granted c [] h short = tt
all_granted c (x ∷ older) h short = over x.told h.0 (all_granted c older h.1 (shorter c x older short))
  where
    over : (y : Told) → MayTell c older y → CommitsAreNotRefused c (entries older) → CommitsAreNotRefused c (onto_entries x.number y (entries older))
    over (Shown r) may old = (record_granted c older (shorter c x older short) r may, old)
    over _ may old = old

pub never_refused : (lines : List ScheduleLine) → AreInOrder lines → CommitsAreNotRefused (config_of lines) (trace_of (run lines))
never_refused lines order = subst (CommitsAreNotRefused (config_of lines)) (sym (shown_entries (run lines).trace)) (all_granted (config_of lines) (run lines).trace (schedule_followed lines order) (schedule_short lines))
