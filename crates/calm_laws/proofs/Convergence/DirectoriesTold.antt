-- Every call that is accepted in a round is a mend: its line asks for no call.
use Rattle.std.proofs.Common.{◌≡◌, ℕ, zero, suc, ◌+◌, ◌-◌, ◌≤◌, List, [], ◌∷◌, ◌++◌, length, take, refl, sym, ◌∙◌, ap, subst, inl, inr, append_assoc, arith}
use Rattle.locus_ids.specs.declared.config.Config.{Config}
use Rattle.schedule_lines.specs.declared.line.Line.{Line as LineWords}
use Rattle.schedule_lines.specs.declared.line.Line.TheVariants as line
use Rattle.schedule_lines.specs.declared.line.ScheduleLine.{ScheduleLine}
use Rattle.schedule_lines.specs.declared.line.ScheduleLine.TheVariants.{Passed, Event as EventLine}
use Rattle.trace_book.specs.declared.call.Call.{Call}
use Rattle.trace_book.specs.declared.call.Call.TheVariants as call
use Rattle.trace_book.specs.declared.record.Record.{Record}
use Rattle.trace_book.specs.declared.record.Record.TheVariants as says
use Rattle.wire_messages.specs.declared.packet.Packet.{Packet}
use Rattle.role_steps.specs.Own.{Every}
use Rattle.role_steps.specs.Views.{SiteView, Told, Shown, Outcome, all_sites}
use Rattle.the_run.specs.Runs.{delivers, ticks_to, run_in}
use Rattle.the_run.specs.Worlds.{World, Line, told_onto, happened, puts, arms, passed, stops_with, acts}
use Rattle.the_run.proofs.Events.{happened_keeps, acts_keeps}
use Rattle.tree_model.specs.Folds.{Trace}
use Rattle.lawful_trace.specs.CallRows.{CallLine}
use Rattle.lawful_trace.specs.Places.{line_at, lines_before}
use Rattle.row_laws.specs.Rows.{AskedRecord, IsAskedFor}
use Rattle.row_laws.specs.Shown.{EachRecord, shown, with_told}
use Rattle.row_laws.proofs.AskedRun.{run_asked}
use Rattle.store_laws.proofs.Holdings.MendMends.{IsMendCall}
use Rattle.row_laws.specs.Orderly.Calm.{delivered}
use Rattle.row_laws.proofs.Orderly.Rounds.{RoundKept, ticks_kept}
use Rattle.calm_laws.specs.Rounds.{after}
use Rattle.calm_laws.proofs.Limits.{line_there, take_length}
use Rattle.calm_laws.proofs.Moments.{GoesOn, goes_itself, goes_round_kept}
use Rattle.calm_laws.proofs.Rounds.{delivered_kept, delivered_then}
use Rattle.calm_laws.proofs.Twins.{EndsAs, delivers_as, with_round, round_run}

-- ---- lines that were told since ----

pub every_then : {A : Type 0} (P : A → Type 0) (xs ys : List A) → Every P xs → Every P ys → Every P (xs ++ ys)
every_then P [] ys h k = k
every_then P (x ∷ xs) ys h k = (h.0, every_then P xs ys h.1 k)

abbrev IsNumbered : ℕ → Line → Type 0
IsNumbered n x = x.number ≡ n

-- the later world has all lines of the first, and those that it has more have this number
record Tells (n : ℕ) (first w : World) : Type 0 where
  lines : List Line
  trace : w.trace ≡ lines ++ first.trace
  numbered : Every (IsNumbered n) lines

record Front (n : ℕ) (told : List Told) (trace : List Line) : Type 0 where
  lines : List Line
  is : told_onto n told trace ≡ lines ++ trace
  numbered : Every (IsNumbered n) lines

front : (n : ℕ) (told : List Told) (trace : List Line) → Front n told trace
front n [] trace = record { lines = []; is = refl; numbered = tt }
front n (x ∷ xs) trace = (let r : Front n xs (record { number = n; told = x } ∷ trace) = front n xs (record { number = n; told = x } ∷ trace) in record {
  lines = r.lines ++ record { number = n; told = x } ∷ [];
  is = r.is ∙ sym (append_assoc r.lines (record { number = n; told = x } ∷ []) trace);
  numbered = every_then (IsNumbered n) r.lines (record { number = n; told = x } ∷ []) r.numbered (refl, tt);
})

onto_tells : (n : ℕ) (told : List Told) (first w : World) → Tells n first w → (u : World) → u.trace ≡ told_onto n told w.trace → Tells n first u
onto_tells n told first w g u e = (let r : Front n told w.trace = front n told w.trace in record {
  lines = r.lines ++ g.lines;
  trace = e ∙ (r.is ∙ (ap (λ (xs : List Line). r.lines ++ xs) g.trace ∙ sym (append_assoc r.lines g.lines first.trace)));
  numbered = every_then (IsNumbered n) r.lines g.lines r.numbered g.numbered;
})

happened_tells : (n : ℕ) (ps : List Packet) (told : List Told) (change : World → World) (first w : World) → Tells n first w → Tells n first (happened n ps told change w)
happened_tells n ps told change first w g =
    happened_keeps (Tells n first) n ps told change w g (λ l. record { lines = g.lines; trace = g.trace; numbered = g.numbered }) (λ k b t. onto_tells n told first w g _ refl)

acts_tells : (n s : ℕ) (v : SiteView) (o : Outcome SiteView) (first w : World) → Tells n first w → Tells n first (acts n s v o w)
acts_tells n s v o first w g = acts_keeps (Tells n first) n s v o w
    (λ ps told place. happened_tells n ps told (λ now. puts s place now) first w g)
    (λ ps told place a. happened_tells n ps told (λ now. puts s place (arms a now)) first w g)
    (λ ps told d. happened_tells n ps told (stops_with s d) first w g)

tells_kept : (c : Config) (n : ℕ) (first : World) → RoundKept c n (Tells n first)
tells_kept c n first = record {
  ticks = λ s v w here g. acts_tells n s v _ first w g;
  receives = λ x v w here a undropped g. acts_tells n x.packet.to v _ first (passed x.number w) (record { lines = g.lines; trace = g.trace; numbered = g.numbered });
  drops = λ x w a dropped g. record { lines = g.lines; trace = g.trace; numbered = g.numbered };
  budgets = λ w g. happened_tells n [] (Shown says.Budget ∷ []) (λ now. now) first w g;
}

round_tells : (c : Config) (lines : List ScheduleLine) (n k : ℕ) → Tells n (run_in c (lines_before lines n)) (after c lines n k)
round_tells c lines n k = (let first : World = run_in c (lines_before lines n) in delivered_kept c n (Tells n first) (tells_kept c n first) k (ticks_to c n all_sites first) (ticks_kept c n (Tells n first) (tells_kept c n first) all_sites first (record { lines = []; trace = refl; numbered = tt })))

-- of one of its worlds and a later one
later_tells : (c : Config) (lines : List ScheduleLine) (n j k : ℕ) → j ≤ k → Tells n (after c lines n j) (after c lines n k)
later_tells c lines n j k le = subst (λ (u : World). Tells n w u) there (delivered_kept c n (Tells n w) (tells_kept c n w) (k - j) w (record { lines = []; trace = refl; numbered = tt }))
  where
    w : World
    w = after c lines n j

    start : World
    start = ticks_to c n all_sites (run_in c (lines_before lines n))

    there : delivered c n (k - j) w ≡ after c lines n k
    there = sym (delivered_then c n j (k - j) start) ∙ ap (λ (i : ℕ). delivered c n i start) {x = j + (k - j)} {y = k} (omega (arith, le))

-- ---- which calls are accepted there ----

abbrev pub RecordMends : Record → Type 0
RecordMends (says.Accept s process id words) = IsMendCall words
RecordMends _ = Unit {0}

abbrev pub ToldMends : Told → Type 0
ToldMends (Shown r) = RecordMends r
ToldMends _ = Unit {0}

-- where it tells that a call is accepted, it is a mend
abbrev pub AcceptsMends : Line → Type 0
AcceptsMends x = ToldMends x.told

-- the later world has all lines of the first, and those that it has more accept mends alone
pub record MendsSince (first w : World) : Type 0 where
  pub lines : List Line
  pub trace : w.trace ≡ lines ++ first.trace
  pub mends : Every AcceptsMends lines

settle_calls : (k s process : ℕ) (words : Call) → EventLine (line.Settle k) ≡ EventLine (line.Call s process words) → ⊥
settle_calls k s process words e = cc

call_mends : (all : List ScheduleLine) (n k s process : ℕ) (words : Call) → line_at all n ≡ EventLine (line.Settle k) → CallLine all n s process words → IsMendCall words
call_mends all n k s process (call.Mend f) is h = tt
call_mends all n k s process words is h = absurd (settle_calls k s process words (sym is ∙ h.asked))

record_mends : (all : List ScheduleLine) (n k : ℕ) (before : Trace) (r : Record) → line_at all n ≡ EventLine (line.Settle k) → AskedRecord all n before r → RecordMends r
record_mends all n k before (says.Accept s process id words) is h = call_mends all n k s process words is h
record_mends all n k before _ is h = tt

each_mends : (all : List ScheduleLine) (n k : ℕ) → line_at all n ≡ EventLine (line.Settle k) → (new old : List Line) → Every (IsNumbered n) new → EachRecord (IsAskedFor all) (shown (new ++ old)) → Every AcceptsMends new
each_mends all n k is [] old numbered h = tt
each_mends all n k is (x ∷ xs) old numbered h = over x.told h (each_mends all n k is xs old numbered.1)
  where
    over : (y : Told) → EachRecord (IsAskedFor all) (with_told x.number y (shown (xs ++ old))) → (EachRecord (IsAskedFor all) (shown (xs ++ old)) → Every AcceptsMends xs) → ToldMends y × Every AcceptsMends xs
    over (Shown r) q later = (record_mends all n k (shown (xs ++ old)) r is (subst (λ (i : ℕ). AskedRecord all i (shown (xs ++ old)) r) numbered.0 q.0), later q.1)
    over _ q later = (tt, later q)

records_earlier : (all : List ScheduleLine) (new old : List Line) → EachRecord (IsAskedFor all) (shown (new ++ old)) → EachRecord (IsAskedFor all) (shown old)
records_earlier all [] old h = h
records_earlier all (x ∷ xs) old h = records_earlier all xs old (over x.told h)
  where
    over : (y : Told) → EachRecord (IsAskedFor all) (with_told x.number y (shown (xs ++ old))) → EachRecord (IsAskedFor all) (shown (xs ++ old))
    over (Shown r) q = q.1
    over _ q = q

last_there : (xs : List ScheduleLine) (l : ScheduleLine) → line_at (xs ++ l ∷ []) (suc (length xs)) ≡ l
last_there [] l = refl
last_there (x ∷ xs) l = last_there xs l

passed_event : (l : LineWords) → Passed ≡ EventLine l → ⊥
passed_event l e = cc

size_of : (lines : List ScheduleLine) (n most : ℕ) → line_at lines n ≡ EventLine (line.Settle most) → 1 + length (lines_before lines n) ≡ n
size_of lines zero most e = absurd (passed_event (line.Settle most) e)
size_of lines (suc k) most e =
    let there : suc k ≤ length lines = line_there lines k (line.Settle most) e in
    let l : length (take (suc k - 1) lines) ≡ suc k - 1 = take_length (suc k - 1) lines (omega (arith, there)) in omega (arith, l)

-- so it is of a round, since any of its worlds
since_mends : (c : Config) (lines : List ScheduleLine) (n most k : ℕ) → line_at lines n ≡ EventLine (line.Settle most) → (from : World) → Tells n from (after c lines n k) → MendsSince from (after c lines n k)
since_mends c lines n most k settles from g = record { lines = g.lines; trace = g.trace; mends = each_mends all n k there g.lines from.trace g.numbered (subst (λ (t : List Line). EachRecord (IsAskedFor all) (shown t)) g.trace asked) }
  where
    first_lines : List ScheduleLine
    first_lines = lines_before lines n

    w : World
    w = after c lines n k

    all : List ScheduleLine
    all = with_round first_lines k

    size : 1 + length first_lines ≡ n
    size = size_of lines n most settles

    there : line_at all n ≡ EventLine (line.Settle k)
    there = ap (line_at all) {x = n} {y = suc (length first_lines)} (omega (arith, size)) ∙ last_there first_lines (EventLine (line.Settle k))

    start : World
    start = ticks_to c n all_sites (run_in c first_lines)

    goes : GoesOn w (run_in c all)
    goes = subst (λ (u : World). GoesOn w u) (sym (round_run c first_lines n k size)) (by_end (delivers c n k start) (delivers_as c n k start))
      where
        by_end : (u : World) → EndsAs n u w → GoesOn w u
        by_end u (inl q) = subst (λ (z : World). GoesOn w z) (sym q) (goes_itself w)
        by_end u (inr q) = subst (λ (z : World). GoesOn w z) (sym q) ((goes_round_kept c n w).budgets w (goes_itself w))

    asked : EachRecord (IsAskedFor all) (shown w.trace)
    asked = records_earlier all goes.lines w.trace (subst (λ (t : List Line). EachRecord (IsAskedFor all) (shown t)) goes.trace (run_asked c all))

pub round_mends : (c : Config) (lines : List ScheduleLine) (n most k : ℕ) → line_at lines n ≡ EventLine (line.Settle most) → MendsSince (run_in c (lines_before lines n)) (after c lines n k)
round_mends c lines n most k settles = since_mends c lines n most k settles (run_in c (lines_before lines n)) (round_tells c lines n k)

pub later_mends : (c : Config) (lines : List ScheduleLine) (n most j k : ℕ) → line_at lines n ≡ EventLine (line.Settle most) → j ≤ k → MendsSince (after c lines n j) (after c lines n k)
later_mends c lines n most j k settles le = since_mends c lines n most k settles (after c lines n j) (later_tells c lines n j k le)

-- ---- one after another ----

abbrev pub mends_itself : (w : World) → MendsSince w w
mends_itself w = record { lines = []; trace = refl; mends = tt }

abbrev pub mends_then : (u v w : World) → MendsSince u v → MendsSince v w → MendsSince u w
mends_then u v w g h = record {
  lines = h.lines ++ g.lines;
  trace = h.trace ∙ (ap (λ (xs : List Line). h.lines ++ xs) g.trace ∙ sym (append_assoc h.lines g.lines u.trace));
  mends = every_then AcceptsMends h.lines g.lines h.mends g.mends;
}
