-- The records of every run come so, and the value of its trace agrees with the folds.
use Rattle.std.proofs.Common.{◌≡◌, refl, ℕ, suc, ◌==◌, Bool, true, not, ◌||◌, List, [], ◌∷◌, length, sym, ◌∙◌, ap, subst, arith}
use Rattle.std.specs.Prelude.{nat_lt}
use Rattle.std.proofs.lemmas.Bool.Decides.{nat_tests}
use Rattle.locus_ids.specs.declared.config.Config.{Config}
use Rattle.locus_ids.specs.declared.ids.CallId.{CallId}
use Rattle.locus_ids.specs.declared.refusal.Refusal.TheVariants.{Changed}
use Rattle.trace_book.specs.declared.record.Record.{Record}
use Rattle.trace_book.specs.declared.record.Record.TheVariants as says
use Rattle.trace_book.specs.declared.reply.Reply.TheVariants as reply
use Rattle.schedule_lines.specs.Cluster.{config_of}
use Rattle.schedule_lines.specs.Schedule.{AreInOrder}
use Rattle.schedule_lines.specs.declared.line.ScheduleLine.{ScheduleLine}
use Rattle.call_rules.specs.declared.answer.Answer.{Answer}
use Rattle.tree_model.specs.Folds.{Trace}
use Rattle.lawful_trace.specs.Progress.{answers, now_wants}
use Rattle.lawful_trace.specs.Prompt.{is_unanswered}
use Rattle.the_run.specs.Runs.{run}
use Rattle.row_laws.proofs.Fitting.{schedule_few}
use Rattle.tree_laws.specs.Following.{RowsAreLawful}
use Rattle.row_laws.specs.Shown.{EachRecord, trace_of}
use Rattle.rest_laws.proofs.Run.{schedule_rows}
use Rattle.rest_laws.proofs.Shown.{shown_entries}
use Rattle.rest_laws.proofs.StoreStepFirst.{four_groups}
use Rattle.headline_laws.specs.Prompting.Speaks.{SpeaksOfWhatIs, RecordSpeaks, IsSite}
use Rattle.headline_laws.specs.Prompting.Given.{IsGivenRow, GivenRecord}
use Rattle.headline_laws.specs.Prompting.Directly.{IsDirectRow, DirectRecord, is_last}
use Rattle.headline_laws.proofs.Prompting.RunSpeaks.{records_speak}
use Rattle.headline_laws.proofs.Prompting.RunReplies.{replies_given, replies_direct}
use Rattle.past_laws.specs.Agreement.{Agrees, SaysGiven, past, is_of_cluster, speaks_of_sites}
use Rattle.past_laws.specs.Along.{EachComesSo, IsNamed}
use Rattle.past_laws.specs.Due.{SaysDue, is_after, accepts}
use Rattle.past_laws.proofs.Names.{some_same, both_parts}
use Rattle.past_laws.proofs.Agreeing.{all_agrees}

-- ---- sites ----

of_cluster : (c : Config) (site : ℕ) → IsSite c site → is_of_cluster c site ≡ true
of_cluster c site h = grind (arith, nat_tests)

speaks : (c : Config) (before : Trace) (w : Record) → RecordSpeaks c before w → speaks_of_sites c w ≡ true
speaks c before (says.Up site boot) h = of_cluster c site h
speaks c before (says.Stopped site cause) h = of_cluster c site h
speaks c before (says.Leave site e) h = of_cluster c site h.0
speaks c before (says.Join site e members) h = of_cluster c site h.0
speaks c before (says.Accept site process id words) h = of_cluster c site h.0
speaks c before (says.Commit f site stamp parents content) h = of_cluster c site h.0
speaks c before (says.Adopt f site stamp) h = of_cluster c site h
speaks c before (says.Answer site process id r) h = of_cluster c site h.0
speaks c before _ h = refl

-- ---- replies ----

given : (c : Config) (before : Trace) (w : Record) → GivenRecord c before w → SaysGiven c before w
given c before (says.Answer site process id r) h = λ caller found. ap (now_wants c before) (some_same caller h.caller (sym found ∙ h.waits)) ∙ h.gives
given c before _ h = tt

last_after : (test : Record → Bool) (n : ℕ) (before : Trace) → is_last test n before ≡ true → is_after test before ≡ true
last_after test n [] h = h
last_after test n (r ∷ before) h = (both_parts (r.line == n) (test r.what) h).1

direct : (c : Config) (n : ℕ) (before : Trace) (id : CallId) (xs : List Answer) → not (is_unanswered xs) || is_last (accepts id) n before ≡ true → nat_lt 0 (length xs) || is_after (accepts id) before ≡ true
direct c n before id [] h = last_after (accepts id) n before h
direct c n before id (x ∷ xs) h = heard (length xs)
  where
    heard : (m : ℕ) → nat_lt 0 (suc m) || is_after (accepts id) before ≡ true
    heard m = grind (arith, nat_tests)

due : (c : Config) (n : ℕ) (before : Trace) (w : Record) → DirectRecord c n before w → SaysDue c before w
due c n before (says.Answer site process id (reply.No (Changed e))) h = last_after _ n before h
due c n before (says.Answer site process id r) h = direct c n before id (answers c before id) h
due c n before _ h = tt

-- ---- every run ----

all_so : (c : Config) (trace : Trace) → RowsAreLawful c trace → EachRecord (SpeaksOfWhatIs c) trace → EachRecord (IsGivenRow c) trace → EachRecord (IsDirectRow c) trace → EachComesSo c trace
all_so c [] rows sites replies times = tt
all_so c (r ∷ before) rows sites replies times = (
  record { row = rows.0; sites = speaks c before r.what sites.0; given = given c before r.what replies.0; due = due c r.line before r.what times.0 },
  all_so c before rows.1 sites.1 replies.1 times.1,
)

pub run_comes_so : (lines : List ScheduleLine) → AreInOrder lines → EachComesSo (config_of lines) (trace_of (run lines))
run_comes_so lines order = all_so (config_of lines) (trace_of (run lines)) (subst (RowsAreLawful (config_of lines)) (sym (shown_entries (run lines).trace)) (schedule_rows lines order)) (records_speak lines order) (replies_given lines order) (replies_direct lines order)

pub run_is_named : (lines : List ScheduleLine) → AreInOrder lines → IsNamed (config_of lines)
run_is_named lines order = record { packs = omega (arith, four_groups lines); sites = schedule_few lines order }

pub run_agrees : (lines : List ScheduleLine) → AreInOrder lines → Agrees (config_of lines) (trace_of (run lines)) (past (config_of lines) (trace_of (run lines)))
run_agrees lines order = all_agrees (config_of lines) (run_is_named lines order) (trace_of (run lines)) (run_comes_so lines order)
