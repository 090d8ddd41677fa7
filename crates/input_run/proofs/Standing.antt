-- The two runners after one line more.
use Rattle.std.proofs.Common.{◌≡◌, ℕ, ◌+◌, List, [], ◌∷◌, ◌++◌, Option, length, refl, sym, ap, ◌∙◌, subst, arith}
use Rattle.schedule_lines.specs.declared.line.ScheduleLine.{ScheduleLine}
use Rattle.schedule_lines.specs.Schedule.{Reads}
use Rattle.the_run.specs.Worlds.{Limit}
use Rattle.the_run.specs.Runs.{run}
use Rattle.the_run.specs.Commands.{Asked, tree_lines, tree_text}
use Rattle.schedule_run.specs.declared.runner.ScheduleRunner.{ScheduleRunner}
use Rattle.schedule_run.specs.Standing.{RunsNext}
use Rattle.schedule_run.specs.declared.tree.TreeRunner.{TreeRunner}
use Rattle.the_run.specs.Asking.{Asks}
use Rattle.schedule_run.specs.Tree.{with_asked}
use Rattle.schedule_run.specs.Tree as tree
use Rattle.input_run.specs.Runs.{replies_of}
use Rattle.input_run.specs.Inputs.Input.{Schedule, Calls}
use Rattle.input_run.specs.Runners.{ScheduleStands, TreeStands}
use Rattle.input_run.specs.Runs.{Refuses}
use Rattle.input_run.specs.Turns.{RunsOn}
use Rattle.line_text.proofs.OneReading.{one_schedule}
use Rattle.input_run.proofs.Calls.{ask_more, ask_last}
use Rattle.input_run.proofs.Schedules.{IsSchedule-push, IsSchedule-length, cut_at, read_one}

-- ---- a schedule ----

pub schedule_number : (all : List (List ℕ)) (lines : List ScheduleLine) (taken : List ℕ) (r : ScheduleRunner) (number : ℕ) → ScheduleStands all lines taken r → number ≡ length all + 1 → number ≡ length lines + 1
schedule_number all lines taken r number s e = omega (arith, e, IsSchedule-length all lines s.schedule)

pub schedule_on : (all : List (List ℕ)) (lines : List ScheduleLine) (bytes taken : List ℕ) (r new : ScheduleRunner) → ScheduleStands all lines taken r → RunsNext lines bytes taken new → RunsOn ScheduleStands Schedule all bytes taken new
schedule_on all lines bytes taken r new s next =
    let more = IsSchedule-push all lines bytes next.line s.schedule next.reads in
    record { longer = lines ++ next.line ∷ []; next = more; ran = record { schedule = more; ran = next.ran } }

pub schedule_refuses : (all : List (List ℕ)) (lines : List ScheduleLine) (bytes taken : List ℕ) (r : ScheduleRunner) → ScheduleStands all lines taken r → ((l : ScheduleLine) → Reads lines bytes l → ⊥) → Refuses Schedule all bytes
schedule_refuses all lines bytes taken r s bad = λ longer h.
    let cut = cut_at all (bytes ∷ []) [] longer h in
    let last = read_one cut.first bytes cut.later cut.goes_on in
    bad last.0 (subst (λ (ls : List ScheduleLine). Reads ls bytes last.0) (one_schedule all cut.first lines cut.reads s.schedule) last.1)

-- ---- calls ----

pub tree_on : (all : List (List ℕ)) (lines : List ScheduleLine) (bytes taken : List ℕ) (r new : TreeRunner) → (s : TreeStands all lines taken r) → tree.RunsNext s.calls bytes taken new → RunsOn TreeStands Calls all bytes taken new
tree_on all lines bytes taken r new s next =
    let calls : List Asked = with_asked s.calls next.asked in
    let more = ask_more all s.calls bytes next.asked s.asked next.asks in
    record {
      longer = tree_lines calls;
      next = record { calls = calls; asked = more; run = refl };
      ran = record { calls = calls; asked = more; run = refl; ran = next.ran };
    }

pub tree_refuses : (all : List (List ℕ)) (bytes : List ℕ) → ((asked : Option Asked) → Asks bytes asked → ⊥) → Refuses Calls all bytes
tree_refuses all bytes bad = λ longer h. let last = ask_last all bytes h.calls h.asked in bad last.0 last.1

-- what is said of the calls is said of the lines of their run
pub tree_output : (lines : List ScheduleLine) (calls : List Asked) (taken fresh : List ℕ) → lines ≡ tree_lines calls → tree_text calls ≡ taken ++ fresh → replies_of lines ≡ taken ++ fresh
tree_output lines calls taken fresh e told = ap replies_of e ∙ told

pub tree_taken : (all : List (List ℕ)) (lines : List ScheduleLine) (taken : List ℕ) (r new : TreeRunner) → (s : TreeStands all lines taken r) → tree.HasRun s.calls (tree_text s.calls) new → TreeStands all lines (replies_of lines) new
tree_taken all lines taken r new s ran = record {
  calls = s.calls;
  asked = s.asked;
  run = s.run;
  ran = subst (λ (text : List ℕ). tree.HasRun s.calls text new) (sym (ap replies_of s.run)) ran;
}

pub tree_limit : (lines : List ScheduleLine) (calls : List Asked) (limit : Option Limit) → lines ≡ tree_lines calls → limit ≡ (run (tree_lines calls)).over → limit ≡ (run lines).over
tree_limit lines calls limit e h = subst (λ (ls : List ScheduleLine). limit ≡ (run ls).over) (sym e) h
