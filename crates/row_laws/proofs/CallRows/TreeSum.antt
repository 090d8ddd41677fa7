-- A run whose records come as the tree has them is lawful.
use Rattle.std.proofs.Common.{◌≡◌, ◌≤◌, ℕ, zero, suc, nat_le, Bool, true, false, List, [], ◌∷◌, length, slice_index_or, None, refl, sym, ◌∙◌, ap, arith}
use Rattle.std.proofs.lemmas.Bool.Decides.{nat_tests}
use Rattle.role_steps.proofs.of_plain_facts.Tests.{false_true}
use Rattle.locus_ids.specs.declared.config.Config.{Config}
use Rattle.locus_ids.specs.declared.ids.CallId.{CallId}
use Rattle.trace_book.specs.declared.call.Call.{Call}
use Rattle.trace_book.specs.declared.call.Call.TheVariants as call
use Rattle.trace_book.specs.declared.record.Record.{Record}
use Rattle.trace_book.specs.declared.record.Record.TheVariants as says
use Rattle.schedule_lines.specs.declared.line.ScheduleLine.{ScheduleLine}
use Rattle.schedule_lines.specs.declared.line.ScheduleLine.TheVariants.{Passed}
use Rattle.schedule_lines.specs.Cluster.{config_of}
use Rattle.tree_model.specs.Folds.{Trace}
use Rattle.the_run.specs.Runs.{run}
use Rattle.lawful_trace.specs.Places.{line_at}
use Rattle.lawful_trace.specs.CallRows.{CallRow}
use Rattle.lawful_trace.specs.LineRows.{is_told}
use Rattle.lawful_trace.specs.Lawful.{IsLawful}
use Rattle.row_laws.specs.Shown.{trace_of, EachRecord}
use Rattle.row_laws.specs.Rest.{RestRecord, IsRestRow}
use Rattle.row_laws.specs.Voids.{is_call}
use Rattle.row_laws.proofs.Fitting.{schedule_fits}
use Rattle.row_laws.proofs.Sum.{run_lawful}
use Rattle.row_laws.specs.CallRows.Accepting.{AcceptedAs, AcceptRecord, IsAcceptRow}
use Rattle.row_laws.specs.CallRows.Lines.{VoidCall, IsVoidCall, CallsTold}
use Rattle.row_laws.specs.CallRows.Tree.{AcceptTree, TreeRecord, IsTreeRow, MeetsTheTree}
use Rattle.row_laws.proofs.CallRows.CallsRun.{run_accepts}
use Rattle.row_laws.proofs.CallRows.CallTales.{run_void_calls, run_calls_told}

accept_row : (c : Config) (before : Trace) (site process : ℕ) (id : CallId) (words : Call) → AcceptedAs c before site process id words → AcceptTree c before site process id words → CallRow c before site process id words
accept_row c before site process id (call.Mend file) a t = t
accept_row c before site process id (call.Create path sites) a t = a
accept_row c before site process id (call.MakeDir path) a t = a
accept_row c before site process id (call.Unlink path) a t = a
accept_row c before site process id (call.RemoveDir path) a t = a
accept_row c before site process id (call.Rename path name) a t = a
accept_row c before site process id (call.List path) a t = a
accept_row c before site process id (call.Stat path) a t = a
accept_row c before site process id (call.Mail path bytes) a t = a
accept_row c before site process id (call.Mails path) a t = a
accept_row c before site process id (call.Open path how) a t = a
accept_row c before site process id (call.Read fd at len) a t = a
accept_row c before site process id (call.Write fd at bytes) a t = a
accept_row c before site process id (call.Cut fd len) a t = a
accept_row c before site process id (call.Commit fd) a t = a
accept_row c before site process id (call.Abort fd) a t = a
accept_row c before site process id (call.Close fd) a t = a

record_rest : (c : Config) (lines : List ScheduleLine) (n : ℕ) (before : Trace) (r : Record) → AcceptRecord c before r → VoidCall lines n before r → TreeRecord c lines n before r → RestRecord c lines n before r
record_rest c lines n before (says.Accept site process id words) a v t = accept_row c before site process id words a t
record_rest c lines n before says.Void a v t = v
record_rest c lines n before (says.Up site boot) a v t = tt
record_rest c lines n before (says.Stopped site why) a v t = t
record_rest c lines n before (says.Leave site epoch) a v t = tt
record_rest c lines n before (says.Join site epoch members) a v t = tt
record_rest c lines n before (says.Packet number from to kind) a v t = tt
record_rest c lines n before says.Budget a v t = tt
record_rest c lines n before (says.Start e group copies) a v t = t
record_rest c lines n before (says.Look e id request f what result) a v t = t
record_rest c lines n before (says.Grant e id request inst mode f stamp ss) a v t = t
record_rest c lines n before (says.Refuse e id request inst mode f why) a v t = t
record_rest c lines n before (says.Act e inst k o result) a v t = t
record_rest c lines n before (says.Commit f site stamp parents content) a v t = t
record_rest c lines n before (says.Release e inst f stamp) a v t = t
record_rest c lines n before (says.Adopt f site stamp) a v t = t
record_rest c lines n before (says.Answer site process id reply) a v t = t

each_rest : (c : Config) (lines : List ScheduleLine) (trace : Trace) → EachRecord (IsAcceptRow c) trace → EachRecord (IsVoidCall lines) trace → EachRecord (IsTreeRow c lines) trace → EachRecord (IsRestRow c lines) trace
each_rest c lines [] a v t = tt
each_rest c lines (r ∷ before) a v t = (record_rest c lines r.line before r.what a.0 v.0 t.0, each_rest c lines before a.1 v.1 t.1)

-- ---- call lines are among the lines ----

beyond : (lines : List ScheduleLine) (k : ℕ) → length lines ≤ k → slice_index_or lines k Passed ≡ Passed
beyond [] k h = refl
beyond (x ∷ xs) zero h = absurd (omega (arith, h))
beyond (x ∷ xs) (suc k) h = beyond xs k (omega (arith, h))

call_within : (lines : List ScheduleLine) (n : ℕ) → is_call (line_at lines n) ≡ true → (1 ≤ n) × (n ≤ length lines)
call_within lines zero h = absurd (false_true h)
call_within lines (suc k) h = (omega arith, within (nat_le (suc k) (length lines)) refl)
  where
    within : (b : Bool) → nat_le (suc k) (length lines) ≡ b → suc k ≤ length lines
    within true e = grind (arith, nat_tests)
    within false e = absurd (false_true (sym (ap is_call (beyond lines k (high (length lines) e))) ∙ h))
      where
        high : (n : ℕ) → nat_le (suc k) n ≡ false → n ≤ k
        high n e = grind (arith, nat_tests)

all_told : (lines : List ScheduleLine) (now : Trace) → CallsTold lines (length lines) now → (n : ℕ) → is_call (line_at lines n) ≡ true → is_told lines now n ≡ true
all_told lines now told n call = (let k : (1 ≤ n) × (n ≤ length lines) = call_within lines n call in told n k.0 k.1 call)

pub tree_lawful : (lines : List ScheduleLine) → (run lines).over ≡ None → MeetsTheTree lines (trace_of (run lines)) → IsLawful lines (trace_of (run lines))
tree_lawful lines none h = run_lawful lines none (record {
  order = h.order;
  each = each_rest (config_of lines) lines (trace_of (run lines)) (run_accepts (config_of lines) lines (schedule_fits lines h.order)) (run_void_calls (config_of lines) lines (schedule_fits lines h.order)) h.each;
  told = all_told lines (trace_of (run lines)) (run_calls_told (config_of lines) lines (schedule_fits lines h.order) none);
})
