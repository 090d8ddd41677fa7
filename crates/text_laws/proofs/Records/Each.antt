-- What holds of each record of a trace.
use Rattle.std.proofs.Common.{◌≡◌, ◌≤◌, ℕ, ◌+◌, ◌&&◌, Bool, true, false, List, [], ◌∷◌, length, ap, cond, ◌==◌, nat_le, arith}
use Rattle.std.proofs.lemmas.Bool.Decides.{nat_tests}
use Rattle.locus_ids.specs.declared.config.Config.{Config}
use Rattle.locus_ids.specs.declared.ids.CallId.{CallId}
use Rattle.schedule_lines.specs.declared.line.ScheduleLine.{ScheduleLine}
use Rattle.trace_book.specs.declared.entry.Entry.{Entry}
use Rattle.trace_book.specs.declared.call.Call.{Call}
use Rattle.trace_book.specs.declared.call.Call.TheVariants as call
use Rattle.trace_book.specs.declared.record.Record.{Record}
use Rattle.trace_book.specs.declared.record.Record.TheVariants as says
use Rattle.tree_model.specs.Epochs.{calls_accepted, calls_after}
use Rattle.tree_model.specs.Folds.{Trace}
use Rattle.row_laws.specs.of_lawful_trace.CallRows.{next_call}
use Rattle.row_laws.specs.Rows.{IsPlaced}
use Rattle.row_laws.specs.Shown.{EachRecord, trace_of}
use Rattle.row_laws.specs.Voids.{LinesFit}
use Rattle.row_laws.proofs.AskedRun.{run_placed}
use Rattle.row_laws.specs.CallRows.Accepting.{AcceptedAs, AcceptRecord, IsAcceptRow}
use Rattle.row_laws.proofs.CallRows.CallsRun.{run_accepts}
use Rattle.the_run.specs.Runs.{run_in}
use Rattle.record_reading.specs.Ranges.{is_counted}
use Rattle.text_laws.specs.Records.Texts.{IsLined, IsCountedCall, CountsRecord}
use Rattle.text_laws.proofs.Records.ByKind.{counted}
use Rattle.text_laws.proofs.Records.Few.{run_few}

pub each_other : (P Q : Trace → Entry → Type 0) → ((before : Trace) (r : Entry) → P before r → Q before r) → (trace : Trace) → EachRecord P trace → EachRecord Q trace
each_other P Q so [] h = tt
each_other P Q so (r ∷ before) h = (so before r h.0, each_other P Q so before h.1)

-- the same, where the property speaks of how many records there are at most
pub each_few : (P Q : Trace → Entry → Type 0) (most : ℕ) → ((before : Trace) (r : Entry) → length before ≤ most → P before r → Q before r) → (trace : Trace) → length trace ≤ most → EachRecord P trace → EachRecord Q trace
each_few P Q most so [] few h = tt
each_few P Q most so (r ∷ before) few h = (so before r (omega arith) h.0, each_few P Q most so before (omega arith) h.1)

-- ---- lines ----

lined : (n most line : ℕ) → most ≤ 4294967295 → (nat_le 1 line && nat_le line most) ≡ true → is_counted line ≡ true
lined n most line low h = grind (arith, nat_tests)

pub run_lined : (c : Config) (lines : List ScheduleLine) → length lines ≤ 4294967295 → EachRecord IsLined (trace_of (run_in c lines))
run_lined c lines few = each_other (IsPlaced lines) IsLined (λ before r k. lined 0 (length lines) r.line few k.placed) (trace_of (run_in c lines)) (run_placed c lines)

-- ---- the numbers of calls ----

calls_step : (r : Record) (site old : ℕ) → calls_after r site old ≤ old + 1
calls_step (says.Accept s process id words) site old = at (s == site) where
  at : (b : Bool) → cond b (old + 1) old ≤ old + 1
  at true = omega arith
  at false = omega arith
calls_step (says.Up s boot) site old = at (s == site) where
  at : (b : Bool) → cond b 0 old ≤ old + 1
  at true = omega arith
  at false = omega arith
calls_step _ site old = omega arith

accepted_few : (trace : Trace) (site : ℕ) → calls_accepted trace site ≤ length trace
accepted_few [] site = omega arith
accepted_few (r ∷ before) site = let k = accepted_few before site in let s = calls_step r.what site (calls_accepted before site) in omega (arith, k, s)

next_counted : (before : Trace) (site : ℕ) (id : CallId) → length before ≤ 134217728 → id ≡ next_call before site → is_counted id.n ≡ true
next_counted before site id few e =
    let n : id.n ≡ calls_accepted before site + 1 = ap (λ (x : CallId). x.n) e in
    let k = accepted_few before site in
    counted id.n (omega arith) (omega (arith, n, k))

accepted_counted : (c : Config) (before : Trace) (site process : ℕ) (id : CallId) (words : Call) → length before ≤ 134217728 → AcceptedAs c before site process id words → is_counted id.n ≡ true
accepted_counted c before site process id (call.Mend file) few h = next_counted before site id few h
accepted_counted c before site process id _ few h = next_counted before site id few h.numbered

calls_counted : (c : Config) (before : Trace) (r : Record) → length before ≤ 134217728 → AcceptRecord c before r → CountsRecord r
calls_counted c before (says.Accept site process id words) few h = accepted_counted c before site process id words few h
calls_counted c before _ few h = tt

pub run_calls_counted : (c : Config) (lines : List ScheduleLine) → LinesFit c lines → EachRecord IsCountedCall (trace_of (run_in c lines))
run_calls_counted c lines fit = each_few (IsAcceptRow c) IsCountedCall 134217728 (λ before r few k. calls_counted c before r.what few k) (trace_of (run_in c lines)) (run_few c lines) (run_accepts c lines fit)
