-- What the commands write is of a trace of which each promise of runs holds.
use Rattle.std.proofs.Common.{ℕ, ◌≡◌, Bool, true, false, cond, List, [], ◌∷◌, ◌++◌, Option, Some, None, length, flat_map, eqb, refl, ap, sym, ◌∙◌, subst, append_assoc, ◌⊎◌, inl, inr}
use Rattle.std.proofs.lemmas.Bool.{false≢true}
use Rattle.std.proofs.lemmas.List.{append-nil}
use Rattle.std.specs.List.{onto_first}
use Rattle.std.specs.Prelude.{IfSome}
use Rattle.std.specs.Io.KnownBytes.{Appends}
use Rattle.schedule_lines.specs.Schedule.{AreInOrder}
use Rattle.schedule_lines.specs.declared.line.ScheduleLine.{ScheduleLine}
use Rattle.trace_book.specs.declared.entry.Entry.{Entry}
use Rattle.the_run.specs.Runs.{run}
use Rattle.the_run.specs.Worlds.{Limit}
use Rattle.the_run.specs.Worlds as world
use Rattle.the_run.specs.Commands.{reply_line, counts_text, counts_onto, no_counts, load_lines, load_text}
use Rattle.headline_laws.specs.of_row_laws.Shown.{trace_of}
use Rattle.audited_runs.proofs.of_headline_laws.Promises.OneTrace.{trace_is_one}
use Rattle.audited_runs.proofs.of_headline_laws.Whole.{rows_hold, replies_hold, commits_hold, run_lawful, progress, convergence}
use Rattle.audited_runs.proofs.of_headline_laws.HeadlinePromises.AskedFor.{run_asked_for}
use Rattle.audited_runs.proofs.of_headline_laws.HeadlinePromises.CommitsWhenAsked.{run_commits_when_asked}
use Rattle.audited_runs.proofs.of_headline_laws.HeadlinePromises.FairRuns.{run_refusals}
use Rattle.audited_runs.proofs.of_headline_laws.HeadlinePromises.Headlines.{run_keeps_headline}
use Rattle.audited_runs.proofs.of_headline_laws.HeadlinePromises.Promptly.{run_comes_promptly}
use Rattle.audited_runs.proofs.of_headline_laws.HeadlinePromises.Stopping.{run_stops}
use Rattle.audited_runs.specs.Answered.{IsAuditedWell}
use Rattle.headline_laws.proofs.Boxes.Law.{runs_hold}
use Rattle.headline_laws.proofs.OneVersion.Law.{run_reads}
use Rattle.generated_load.specs.Draws.{draws_of}
use Rattle.input_order_laws.proofs.Loads.{generated_in_order}
use Rattle.command_words.specs.Words.{IsCommand}
use Rattle.command_words.specs.declared.command.Command.{Command}
use Rattle.command_words.specs.declared.command.Command.TheVariants as command
use Rattle.line_reader.specs.Reading.{lines_of, onto_whole, whole_lines, Between}
use Rattle.locus_io.specs.Causes.{AppendsFront}
use Rattle.input_run.specs.Inputs.{Input, StandsFor, opening_of}
use Rattle.input_run.specs.Runs.{output_of}
use Rattle.input_run.specs.Inputs.Input.{Schedule, Calls}
use Rattle.input_run.specs.Promises.{LinePromises, LoadPromises}
use Rattle.input_run.specs.Runs.{IsWholeRun, PassesAtLine, StopsAtFault, StopsAtLimit, WritesFront}
use Rattle.input_run.specs.Codes.{limited}
use Rattle.locus_main.specs.Holds.{Holds, HoldsWithin}
use Rattle.locus_main.specs.Keeps.{Promise, Keeps, KeepsBefore, LoadKeeps, CommandKeeps, CommandRuns, EndsAt, command_of, written_of, counts_of, ends_by_input, ends_told}
use Rattle.input_run.specs.declared.status.Status.{Status}
use Rattle.input_run.specs.declared.status.Status.TheVariants as status
use Rattle.input_run.specs.declared.status.Limited.TheVariants.{Packets, Bytes, Trace, Line, Lines}
use Rattle.input_run.proofs.Inputs.{stands_first}
use Rattle.input_run.proofs.Order.{stands_in_order}
use Rattle.line_reader.proofs.ReadLines.{if_some}
use Rattle.input_run.proofs.Told.{AppendsFront-whole}

-- what is written of the run of these lines is written of its trace
output_is : (input : Input) (lines : List ScheduleLine) → output_of input lines ≡ written_of input (trace_of (run lines))
output_is Schedule lines = (trace_is_one (run lines)).text
output_is Calls lines = ap (λ (es : List Entry). flat_map (λ (e : Entry). reply_line e.what) es) (trace_is_one (run lines)).records

-- lines that end with a line feed are first lines of all
whole_first : (xs ys : List ℕ) → (rest : List (List ℕ)) × (lines_of (xs ++ ys) ≡ whole_lines xs ++ rest)
whole_first [] ys = (lines_of ys, refl)
whole_first (b ∷ bs) ys = by_feed (eqb b 10) (whole_lines bs) (whole_first bs ys)
  where
    onto : (ls : List (List ℕ)) (h : (rest : List (List ℕ)) × (lines_of (bs ++ ys) ≡ ls ++ rest)) → (rest : List (List ℕ)) × (onto_first b (lines_of (bs ++ ys)) ≡ onto_whole b ls ++ rest)
    onto [] h = (onto_first b h.0, ap (onto_first b) h.1)
    onto (l ∷ ls) h = (h.0, ap (onto_first b) h.1)

    by_feed : (feed : Bool) (ls : List (List ℕ)) → (rest : List (List ℕ)) × (lines_of (bs ++ ys) ≡ ls ++ rest) → (rest : List (List ℕ)) × (cond feed ([] ∷ lines_of (bs ++ ys)) (onto_first b (lines_of (bs ++ ys))) ≡ cond feed ([] ∷ ls) (onto_whole b ls) ++ rest)
    by_feed true ls h = (h.0, ap (λ ls. [] ∷ ls) h.1)
    by_feed false ls h = onto ls h

-- what both promises say of each run: the second, where it passes no limit
record Laws (P Q : Promise) : Type 0 where
  always : (lines : List ScheduleLine) → AreInOrder lines → P lines (trace_of (run lines))
  inside : (lines : List ScheduleLine) → AreInOrder lines → (run lines).over ≡ None → Q lines (trace_of (run lines))

-- a front of the run of these lines is written
of_front : (P Q : Promise) (input : Input) (result : Status) → Laws P Q → (all : List (List ℕ)) (t u : Option (List ℕ)) → ends_by_input result ≡ false → ends_told result ≡ false → ((earlier later : List (List ℕ)) → EndsAt result earlier later) → WritesFront input all t u → Keeps P Q input result all t u
of_front P Q input result laws all t u other untold ends w = record {
  earlier = w.earlier;
  later = w.later;
  split = w.split;
  ends = ends w.earlier w.later;
  lines = w.lines;
  stands = w.stands;
  trace = trace_of (run w.lines);
  holds = laws.always w.lines (stands_in_order input w.earlier w.lines w.stands);
  within = λ e. absurd (false≢true (sym other ∙ e));
  until = λ o e. absurd (false≢true (sym untold ∙ e));
  front = subst (AppendsFront t u) (output_is input w.lines) w.written;
  written = λ e. absurd (false≢true (sym untold ∙ e));
}

-- the output of the run of these lines is written, which passes no limit where the input ends the command
of_run : (P Q : Promise) (input : Input) (result : Status) → Laws P Q → (all earlier later : List (List ℕ)) (t u : Option (List ℕ)) → all ≡ earlier ++ later → EndsAt result earlier later → (lines : List ScheduleLine) → StandsFor input earlier lines → (ends_by_input result ≡ true → (run lines).over ≡ None) → (ends_by_input result ≡ false → (earlier ≡ []) ⊎ KeepsBefore Q input earlier t u) → Appends t u (output_of input lines) → Keeps P Q input result all t u
of_run P Q input result laws all earlier later t u split ends lines stands none until written = record {
  earlier = earlier;
  later = later;
  split = split;
  ends = ends;
  lines = lines;
  stands = stands;
  trace = trace_of (run lines);
  holds = laws.always lines (stands_in_order input earlier lines stands);
  within = λ e. laws.inside lines (stands_in_order input earlier lines stands) (none e);
  until = λ o e. until o;
  front = subst (AppendsFront t u) (output_is input lines) (AppendsFront-whole t u (output_of input lines) written);
  written = λ e. subst (Appends t u) (output_is input lines) written;
}

-- the input ends the command
by_input : {X : Type 0} → true ≡ false → X
by_input e = absurd (false≢true (sym e))

-- the lines before the one that passes a limit
before_limit : (P Q : Promise) (input : Input) (l : Limit) → Laws P Q → (all : List (List ℕ)) (t u : Option (List ℕ)) (h : PassesAtLine input all l t u) → KeepsBefore Q input (h.earlier ++ h.bytes ∷ []) t u
before_limit P Q input l laws all t u h = record {
  earlier = h.earlier;
  last = h.bytes;
  split = refl;
  lines = h.lines;
  stands = h.stands;
  trace = trace_of (run h.lines);
  holds = laws.inside h.lines (stands_in_order input h.earlier h.lines h.stands) h.within;
  fresh = h.fresh;
  written = subst (Appends t u) (h.more ∙ ap (λ (text : List ℕ). text ++ h.fresh) (output_is input h.lines)) h.written;
}

of_whole : (P Q : Promise) (input : Input) → Laws P Q → (all : List (List ℕ)) (t u : Option (List ℕ)) → IsWholeRun input all t u → Keeps P Q input status.Ok all t u
of_whole P Q input laws all t u w = of_run P Q input status.Ok laws all all [] t u (sym (append-nil all)) refl w.lines w.accepted.stands (λ e. w.writes.within) by_input w.writes.written

of_fault : (P Q : Promise) (input : Input) → Laws P Q → (source left t u : Option (List ℕ)) → Between source left (λ bytes rest. StopsAtFault input bytes rest t u) → IfSome source (λ bytes. Keeps P Q input status.ReadFault (lines_of bytes) t u)
of_fault P Q input laws None left t u h = tt
of_fault P Q input laws (Some xs) None t u h = absurd h
of_fault P Q input laws (Some xs) (Some ys) t u h =
    let front : (rest : List (List ℕ)) × (lines_of (h.taken ++ ys) ≡ whole_lines h.taken ++ rest) = whole_first h.taken ys in
    of_run P Q input status.ReadFault laws (lines_of xs) h.read front.0 t u (ap lines_of h.split ∙ front.1 ∙ ap (λ ls. ls ++ front.0) (sym h.whole)) tt h.runs.lines h.runs.stands (λ e. h.runs.writes.within) by_input h.runs.writes.written

-- the run passes a limit, in its opening or in the last of the lines, and its output is written
of_limit : (P Q : Promise) (input : Input) (l : Limit) → Laws P Q → (all : List (List ℕ)) (t u : Option (List ℕ)) → ends_by_input (status.Limit (limited l)) ≡ false → ((earlier later : List (List ℕ)) → EndsAt (status.Limit (limited l)) earlier later) → StopsAtLimit input all l t u → Keeps P Q input (status.Limit (limited l)) all t u
of_limit P Q input l laws all t u other ends (inl h) =
    of_run P Q input (status.Limit (limited l)) laws all [] all t u refl (ends [] all) (opening_of input) (stands_first input) (λ e. absurd (false≢true (sym other ∙ e))) (λ o. inl refl) h.written
of_limit P Q input l laws all t u other ends (inr h) =
    of_run P Q input (status.Limit (limited l)) laws all (h.earlier ++ h.bytes ∷ []) h.later t u (h.split ∙ sym (append_assoc h.earlier (h.bytes ∷ []) h.later)) (ends (h.earlier ++ h.bytes ∷ []) h.later) h.longer h.next (λ e. absurd (false≢true (sym other ∙ e))) (λ o. inr (before_limit P Q input l laws all t u h)) h.written

keeps : (P Q : Promise) (input : Input) (result : Status) → Laws P Q → (source left t u : Option (List ℕ)) → (result ≡ status.BadWords → ⊥) → LinePromises input result source left t u → IfSome source (λ bytes. Keeps P Q input result (lines_of bytes) t u)
keeps P Q input status.Ok laws source left t u good h = if_some source _ _ (h.whole refl) (λ bytes w. of_whole P Q input laws (lines_of bytes) t u w.1)
keeps P Q input status.BadWords laws source left t u good h = absurd (good refl)
keeps P Q input (status.BadLine n) laws source left t u good h = if_some source _ _ (h.bad_line n refl) (λ bytes w.
    of_run P Q input (status.BadLine n) laws (lines_of bytes) w.earlier w.later t u w.split w.numbered w.lines w.stands (λ e. w.writes.within) by_input w.writes.written)
keeps P Q input status.ReadFault laws source left t u good h = of_fault P Q input laws source left t u (h.cut_off refl)
keeps P Q input status.WriteFault laws source left t u good h = if_some source _ _ h.front (λ bytes w. of_front P Q input status.WriteFault laws (lines_of bytes) t u refl refl (λ earlier later. tt) w)
keeps P Q input status.NoMemory laws source left t u good h = if_some source _ _ h.front (λ bytes w. of_front P Q input status.NoMemory laws (lines_of bytes) t u refl refl (λ earlier later. tt) w)
keeps P Q input (status.Limit Packets) laws source left t u good h = if_some source _ _ (h.limit world.Packets refl) (λ bytes w. of_limit P Q input world.Packets laws (lines_of bytes) t u refl (λ earlier later. tt) w)
keeps P Q input (status.Limit Bytes) laws source left t u good h = if_some source _ _ (h.limit world.Bytes refl) (λ bytes w. of_limit P Q input world.Bytes laws (lines_of bytes) t u refl (λ earlier later. tt) w)
keeps P Q input (status.Limit Trace) laws source left t u good h = if_some source _ _ (h.limit world.Trace refl) (λ bytes w. of_limit P Q input world.Trace laws (lines_of bytes) t u refl (λ earlier later. tt) w)
keeps P Q input (status.Limit Line) laws source left t u good h = if_some source _ _ (h.long_line refl) (λ bytes w.
    of_run P Q input (status.Limit Line) laws (lines_of bytes) w.earlier (w.line ∷ w.later) t u w.split w.long w.runs.lines w.runs.stands (λ e. w.runs.writes.within) by_input w.runs.writes.written)
keeps P Q input (status.Limit Lines) laws source left t u good h = if_some source _ _ (h.many_lines refl) (λ bytes w.
    of_run P Q input (status.Limit Lines) laws (lines_of bytes) w.earlier w.later t u w.split w.full w.runs.lines w.runs.stands (λ e. w.runs.writes.within) by_input w.runs.writes.written)

keeps_load : (P Q : Promise) (result : Status) → Laws P Q → (number events : ℕ) (t u : Option (List ℕ)) → LoadPromises (run (load_lines (draws_of number events))).over (load_text (draws_of number events)) result t u
    → LoadKeeps P Q (load_lines (draws_of number events)) result t u
keeps_load P Q result laws number events t u h =
    let lines : List ScheduleLine = load_lines (draws_of number events) in
    let same : load_text (draws_of number events) ≡ counts_of lines (trace_of (run lines)) = ap (λ es. counts_text (length lines) (counts_onto no_counts es)) (trace_is_one (run lines)).records in
    record {
      trace = trace_of (run lines);
      holds = laws.always lines (generated_in_order number events);
      within = λ e. laws.inside lines (generated_in_order number events) (h.within e);
      front = subst (AppendsFront t u) same h.front;
      written = λ e. subst (Appends t u) same (h.whole e);
    }

-- Whichever command the words are, it keeps what holds of every run.
command_keeps : (P Q : Promise) (words : List (List ℕ)) (result : Status) → Laws P Q → (source left t u : Option (List ℕ)) → (result ≡ status.BadWords → (c : Command) → IsCommand words c → ⊥) → (IsCommand words command.Run → LinePromises Schedule result source left t u) → (IsCommand words command.Tree → LinePromises Calls result source left t u)
    → ((number events : ℕ) → IsCommand words (command.Make number events) → LoadPromises (run (load_lines (draws_of number events))).over (load_text (draws_of number events)) result t u) → CommandKeeps P Q words result source t u
command_keeps P Q words result laws source left t u good as_run as_tree as_load = record {
  lines = of_input;
  load = λ number events is. keeps_load P Q result laws number events t u (as_load number events is);
}
  where
    of_input : (input : Input) → IsCommand words (command_of input) → IfSome source (λ bytes. Keeps P Q input result (lines_of bytes) t u)
    of_input Schedule is = keeps P Q Schedule result laws source left t u (λ e. good e command.Run is) (as_run is)
    of_input Calls is = keeps P Q Calls result laws source left t u (λ e. good e command.Tree is) (as_tree is)

-- all promises
pub keeps_all : ((lines : List ScheduleLine) → AreInOrder lines → IsAuditedWell lines (trace_of (run lines))) → (words : List (List ℕ)) (result : Status) (source left t u : Option (List ℕ)) → (result ≡ status.BadWords → (c : Command) → IsCommand words c → ⊥) → (IsCommand words command.Run → LinePromises Schedule result source left t u) → (IsCommand words command.Tree → LinePromises Calls result source left t u)
    → ((number events : ℕ) → IsCommand words (command.Make number events) → LoadPromises (run (load_lines (draws_of number events))).over (load_text (draws_of number events)) result t u) → CommandKeeps Holds HoldsWithin words result source t u
keeps_all answered words result source left t u good as_run as_tree as_load = command_keeps Holds HoldsWithin words result (record { always = holds; inside = holds_within }) source left t u good as_run as_tree as_load
  where
    holds : (lines : List ScheduleLine) → AreInOrder lines → Holds lines (trace_of (run lines))
    holds lines order = record { own = refl; rows = rows_hold lines order; replies = replies_hold lines order; commits = commits_hold lines order; headline = run_keeps_headline lines order; stops = run_stops lines order; refused = run_refusals lines order; committed = run_commits_when_asked lines order; prompt = run_comes_promptly lines order; boxes = runs_hold lines order; one_version = run_reads lines order }

    holds_within : (lines : List ScheduleLine) → AreInOrder lines → (run lines).over ≡ None → HoldsWithin lines (trace_of (run lines))
    holds_within lines order none = record { audited = answered lines order; asked = run_asked_for lines order (run_lawful lines order none); lawful = run_lawful lines order none; progress = progress lines order none; convergence = convergence lines order none }

-- and what holds of the lines of every run holds of those of its input
pub command_runs : (P : List ScheduleLine → Type 0) → ((lines : List ScheduleLine) → AreInOrder lines → P lines) → (words : List (List ℕ)) (source : Option (List ℕ)) → CommandRuns P words source
command_runs P law words source = record {
  lines = λ input is. each input source;
  load = λ number events is. law (load_lines (draws_of number events)) (generated_in_order number events);
}
  where
    each : (input : Input) (source : Option (List ℕ)) → IfSome source (λ bytes. (earlier later : List (List ℕ)) (lines : List ScheduleLine) → lines_of bytes ≡ earlier ++ later → StandsFor input earlier lines → P lines)
    each input None = tt
    each input (Some bytes) = λ earlier later lines split stands. law lines (stands_in_order input earlier lines stands)
