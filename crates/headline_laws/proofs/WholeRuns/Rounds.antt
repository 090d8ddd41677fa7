-- A round whose budget is no less than the packets that may be sent doesn't end by it.
use Rattle.std.proofs.Common.{◌≡◌, ◌≢◌, ℕ, zero, suc, ◌+◌, ◌≤◌, ◌<◌, ◌==◌, nat_lt, Bool, true, false, cond, ◌||◌, ◌&&◌, List, [], ◌∷◌, length, take, Option, Some, None, refl, sym, ◌∙◌, ap, subst, inr, arith, slice_index_or}
use Rattle.std.proofs.lemmas.Bool.Decides.{nat_tests}
use Rattle.std.specs.List.{list_any}
use Rattle.role_steps.proofs.of_plain_facts.Numbers.{apart_test}
use Rattle.role_steps.proofs.of_plain_facts.Tests.{and_false}
use Rattle.locus_ids.specs.declared.config.Config.{Config}
use Rattle.schedule_lines.specs.declared.line.Line.{Line as LineWords}
use Rattle.schedule_lines.specs.declared.line.Line.TheVariants as line
use Rattle.schedule_lines.specs.declared.line.ScheduleLine.{ScheduleLine}
use Rattle.schedule_lines.specs.declared.line.ScheduleLine.TheVariants.{Passed, Event as EventLine}
use Rattle.trace_book.specs.declared.record.Record.{Record}
use Rattle.trace_book.specs.declared.record.Record.TheVariants as says
use Rattle.trace_book.specs.declared.record.StopCause.{StopCause}
use Rattle.wire_messages.specs.declared.packet.Packet.{Packet}
use Rattle.role_steps.specs.Own.{Every}
use Rattle.role_steps.specs.Views.{SiteView, Told, Shown, Outcome, Receives, Ticks, all_sites}
use Rattle.tree_model.specs.Folds.{Trace, before_line}
use Rattle.the_run.specs.Disks.{is_on_disk}
use Rattle.the_run.specs.Kept.{Among}
use Rattle.the_run.specs.Steps.{is_dropped, step}
use Rattle.the_run.specs.Worlds.{World, Place, Running, Stopped, Numbered, Line, place_at, links_of, happened, told_onto, passed, cause_of, acts, happens, happens_at}
use Rattle.the_run.specs.Runs.{arrives_at, arrives, next_packet, goes_round, ends_round, delivers, ticks_to, acts_line, run_in}
use Rattle.the_run.proofs.Boots.{acts_cases}
use Rattle.the_run.proofs.Events.{happened_keeps}
use Rattle.the_run.proofs.Runs.{every_run}
use Rattle.run_laws.specs.Naming.{DeedsOf}
use Rattle.lawful_trace.specs.Calm.{is_budget, tells_budget}
use Rattle.lawful_trace.specs.Places.{line_at}
use Rattle.row_laws.specs.ByLine.{IsLine, begins_quietly}
use Rattle.row_laws.specs.Course.{Ascends}
use Rattle.row_laws.specs.Events.{Causes, SiteRecord, SiteTold, Forms, FormingPacket, causes_of}
use Rattle.row_laws.specs.Inward.{ServedRecord, RoleWrite}
use Rattle.row_laws.specs.Shown.{shown, with_told, trace_of}
use Rattle.row_laws.proofs.AskedRun.{Courses, courses_kept, first_courses}
use Rattle.row_laws.proofs.ByLine.{line_keeps}
use Rattle.row_laws.proofs.StepForms.{step_forms}
use Rattle.run_laws.proofs.Run.{found_among}
use Rattle.row_laws.proofs.Orderly.Counts.{Counted, acts_counts, taken_counts, counted_kept, first_counts}
use Rattle.row_laws.proofs.Orderly.Rounds.{next_among}
use Rattle.row_laws.proofs.OrderlyRows.Spans.{world, next_world, one_more, before_at}
use Rattle.promises.specs.Progress.{LargeRoundsEnd}

-- ---- records that aren't the end of a round ----

abbrev NoBudget : Told → Type 0
NoBudget (Shown r) = is_budget r ≡ false
NoBudget _ = Unit {0}

-- no record of this line tells that its round ended by its budget
abbrev NoEnd : ℕ → List Line → Type 0
NoEnd n trace = list_any (tells_budget n) (shown trace) ≡ false

told_none : (n : ℕ) (x : Told) (trace : List Line) → NoBudget x → NoEnd n trace → list_any (tells_budget n) (with_told n x (shown trace)) ≡ false
told_none n (Shown r) trace h g = ap (λ (b : Bool). (b && (n == n)) || list_any (tells_budget n) (shown trace)) h ∙ g
told_none n _ trace h g = g

onto_none : (n : ℕ) (told : List Told) (trace : List Line) → Every NoBudget told → NoEnd n trace → NoEnd n (told_onto n told trace)
onto_none n [] trace h g = g
onto_none n (x ∷ xs) trace h g = onto_none n xs (record { number = n; told = x } ∷ trace) h.1 (told_none n x trace h.0 g)

happened_none : (n : ℕ) (ps : List Packet) (told : List Told) (change : World → World) (w : World) → (change w).trace ≡ w.trace → Every NoBudget told → NoEnd n w.trace → NoEnd n (happened n ps told change w).trace
happened_none n ps told change w same h g = happened_keeps (λ u. NoEnd n u.trace) n ps told change w g (λ l. g) (λ k b t. onto_none n told w.trace h g)

site_none : (s : ℕ) (k : Causes) (x : Told) → SiteTold s k x → NoBudget x
site_none s k (Shown r) h = by_record r h
  where
    by_record : (r : Record) → SiteRecord s k r → is_budget r ≡ false
    by_record says.Budget h = absurd h
    by_record _ h = refl
site_none s k _ h = tt

sites_none : (s : ℕ) (k : Causes) (told : List Told) → Every (SiteTold s k) told → Every NoBudget told
sites_none s k [] h = tt
sites_none s k (x ∷ xs) h = (site_none s k x h.0, sites_none s k xs h.1)

served_none : (r : Record) → ServedRecord r → is_budget r ≡ false
served_none says.Budget h = absurd h
served_none _ h = refl

cut_none : (s : ℕ) (why : StopCause) (r : Record) (b : Bool) → is_budget r ≡ false → Every NoBudget (cond b (Shown r ∷ Shown (says.Stopped s why) ∷ []) (Shown (says.Stopped s why) ∷ []))
cut_none s why r true h = (h, (refl, tt))
cut_none s why r false h = (refl, tt)

-- what a site tells in an event isn't the end of a round
acts_none : (n s : ℕ) (k : Causes) (v : SiteView) (o : Outcome SiteView) (w : World) → Forms s v.boot k o → NoEnd n w.trace → NoEnd n (acts n s v o w).trace
acts_none n s k v o w h g =
    acts_cases (λ u. NoEnd n u.trace) n s v o w
    (happened_none n o.sent o.told _ w refl (sites_none s k o.told h.told) g)
    (λ a. happened_none n o.sent o.told _ w refl (sites_none s k o.told h.told) g)
    (λ d a e. happened_none n [] _ _ w refl (cut_none s (cause_of a.how) d.says (is_on_disk v.store d a.how a.left) (served_none d.says (subst RoleWrite e h.written))) g)

-- ---- in the round ----

-- so many packets were delivered in the round, and it hasn't ended
record Goes (c : Config) (lines : List ScheduleLine) (n more : ℕ) (w : World) : Type 0 where
  courses : Courses c lines n w
  counted : Counted more w
  none : NoEnd n w.trace

passed_goes : (c : Config) (lines : List ScheduleLine) (n more : ℕ) (x : Numbered) (w : World) → Among x w.underway → Goes c lines n more w → Goes c lines n (more + 1) (passed x.number w)
passed_goes c lines n more x w a g = record { courses = (courses_kept c lines).passes n x.number w g.courses; counted = taken_counts more x w a g.counted; none = g.none }

takes_goes : (c : Config) (lines : List ScheduleLine) (n most more : ℕ) (x : Numbered) (v : SiteView) (w : World) → IsLine lines n (line.Settle most) → place_at w x.packet.to ≡ Some (Running v) → Among x w.underway → Goes c lines n more w →
    Goes c lines n (more + 1) (acts n x.packet.to v (step c x.packet.to (links_of (passed x.number w) x.packet.to) v (Receives x.packet)) (passed x.number w))
takes_goes c lines n most more x v w is here a g = record {
  courses = (courses_kept c lines).receives n (line.Settle most) x v w is tt here (inr a) g.courses;
  counted = acts_counts (more + 1) n x.packet.to v _ (passed x.number w) (taken_counts more x w a g.counted);
  none = acts_none n x.packet.to (causes_of x.packet.to (links_of (passed x.number w) x.packet.to) v (Receives x.packet)) v _ (passed x.number w)
      (step_forms (DeedsOf w.trace x.packet.to) x.packet.to c (links_of (passed x.number w) x.packet.to) v (Receives x.packet) (g.courses.good.views x.packet.to v here) (g.courses.course.places x.packet.to (Running v) here).2
      (found_among (λ (y : Numbered). FormingPacket y.packet) x w.underway g.courses.course.underway a)) g.none;
}

arrives_goes : (c : Config) (lines : List ScheduleLine) (n most more : ℕ) (x : Numbered) (w : World) → IsLine lines n (line.Settle most) → Among x w.underway → Goes c lines n more w → Goes c lines n (more + 1) (arrives c n x w)
arrives_goes c lines n most more x w is a g = by_place (place_at w x.packet.to) refl
  where
    passes : Goes c lines n (more + 1) (passed x.number w)
    passes = passed_goes c lines n more x w a g

    by_place : (o : Option Place) → place_at w x.packet.to ≡ o → Goes c lines n (more + 1) (arrives_at c n x.packet o (passed x.number w))
    by_place None e = passes
    by_place (Some (Stopped d)) e = passes
    by_place (Some (Running v)) e = elim (is_dropped x.packet v) as (λ b. Goes c lines n (more + 1) (elim b [ true ↦ passed x.number w | false ↦ happens c n x.packet.to (Receives x.packet) (passed x.number w) ])) [
      | true ↦ passes
      | false ↦ subst (λ (o : Option Place). Goes c lines n (more + 1) (happens_at c n x.packet.to (Receives x.packet) o (passed x.number w))) (sym e) (takes_goes c lines n most more x v w is e a g)
    ]

tick_goes : (c : Config) (lines : List ScheduleLine) (n most s : ℕ) (w : World) (o : Option Place) → IsLine lines n (line.Settle most) → place_at w s ≡ o → Goes c lines n 0 w → Goes c lines n 0 (happens_at c n s Ticks o w)
tick_goes c lines n most s w None is e g = g
tick_goes c lines n most s w (Some (Stopped d)) is e g = g
tick_goes c lines n most s w (Some (Running v)) is e g = record {
  courses = (courses_kept c lines).ticks n most s v w is e g.courses;
  counted = acts_counts 0 n s v _ w g.counted;
  none = acts_none n s (causes_of s (links_of w s) v Ticks) v _ w (step_forms (DeedsOf w.trace s) s c (links_of w s) v Ticks (g.courses.good.views s v e) (g.courses.course.places s (Running v) e).2 tt) g.none;
}

ticks_go : (c : Config) (lines : List ScheduleLine) (n most : ℕ) (ss : List ℕ) (w : World) → IsLine lines n (line.Settle most) → Goes c lines n 0 w → Goes c lines n 0 (ticks_to c n ss w)
ticks_go c lines n most [] w is g = g
ticks_go c lines n most (s ∷ ss) w is g = ticks_go c lines n most ss (happens c n s Ticks w) is (tick_goes c lines n most s w (place_at w s) is refl g)

there_length : (x : Numbered) (xs : List Numbered) → Among x xs → 1 ≤ length xs
there_length x [] a = absurd a
there_length x (y ∷ ys) a = omega arith

delivers_none : (c : Config) (lines : List ScheduleLine) (n most budget more : ℕ) (w : World) → IsLine lines n (line.Settle most) → Goes c lines n more w → 262144 ≤ more + budget → NoEnd n (delivers c n budget w).trace
delivers_none c lines n most zero more w is g le = by_next (next_packet w) refl
  where
    by_next : (o : Option Numbered) → next_packet w ≡ o → NoEnd n (ends_round n w o).trace
    by_next None e = g.none
    by_next (Some x) e = absurd (let a : 1 ≤ length w.underway = there_length x w.underway (next_among w w.over x e) in let b : more + length w.underway ≤ w.packets = g.counted.under in let d : w.packets ≤ 262144 = g.counted.sent in omega (arith, a, b, d, le))
delivers_none c lines n most (suc budget) more w is g le = by_next (λ u. delivers_none c lines n most budget (more + 1) u is) (next_packet w) refl
  where
    by_next : ((u : World) → Goes c lines n (more + 1) u → 262144 ≤ (more + 1) + budget → NoEnd n (delivers c n budget u).trace) → (o : Option Numbered) → next_packet w ≡ o → NoEnd n (goes_round c n (delivers c n budget) w o).trace
    by_next f None e = g.none
    by_next f (Some x) e = f (arrives c n x w) (arrives_goes c lines n most more x w is (next_among w w.over x e) g) (omega (arith, le))

-- ---- where the line begins ----

courses_at : (c : Config) (lines : List ScheduleLine) (k : ℕ) → k ≤ length lines → Courses c lines k (world c lines k)
courses_at c lines zero le = first_courses c lines
courses_at c lines (suc k) le = subst (Courses c lines (suc k)) (sym (next_world c lines k)) (subst (λ (m : ℕ). Courses c lines m (acts_line c m (line_at lines (suc k)) (world c lines k))) (one_more k) (line_keeps c lines (Courses c lines) (courses_kept c lines) k (line_at lines (suc k)) (world c lines k) (omega (arith, le)) (ap (line_at lines) (one_more k)) (courses_at c lines k (omega (arith, le)))))

line_there : (xs : List ScheduleLine) (k : ℕ) (l : LineWords) → slice_index_or xs k Passed ≡ EventLine l → suc k ≤ length xs
line_there [] k l e = absurd (passed_event l e)
  where
    passed_event : (l : LineWords) → Passed ≡ EventLine l → ⊥
    passed_event l e = cc
line_there (x ∷ xs) zero l e = omega arith
line_there (x ∷ xs) (suc k) l e = (let h : suc k ≤ length xs = line_there xs k l e in omega (arith, h))

other_none : (n : ℕ) (r : Record) (k : ℕ) (older : Trace) → k ≢ n → list_any (tells_budget n) older ≡ false → list_any (tells_budget n) (record { line = k; what = r } ∷ older) ≡ false
other_none n r k older ne g = ap (λ (b : Bool). (is_budget r && b) || list_any (tells_budget n) older) (apart_test k n ne) ∙ (ap (λ (b : Bool). b || list_any (tells_budget n) older) (and_false (is_budget r)) ∙ g)

none_before : (n m : ℕ) (trace : List Line) → Ascends m trace → m < n → NoEnd n trace
none_before n m [] a h = refl
none_before n m (x ∷ older) a h = by_told x.told (none_before n x.number older a.2 less)
  where
    less : x.number < n
    less = let le : x.number ≤ m = a.1 in omega (arith, le, h)

    by_told : (y : Told) → NoEnd n older → list_any (tells_budget n) (with_told x.number y (shown older)) ≡ false
    by_told (Shown r) g = other_none n r x.number (shown older) (λ e. omega (arith, e, less)) g
    by_told _ g = g

-- later lines don't tell it either
none_later : (n : ℕ) (t : Trace) → list_any (tells_budget n) (before_line t (suc n)) ≡ false → list_any (tells_budget n) t ≡ false
none_later n [] h = h
none_later n (r ∷ older) h =
    (elim (nat_lt r.line (suc n)) as (λ b. nat_lt r.line (suc n) ≡ b → list_any (tells_budget n) (cond b (r ∷ older) (before_line older (suc n))) ≡ false → list_any (tells_budget n) (r ∷ older) ≡ false) [
      | true ↦ λ e f. f
      | false ↦ λ e f. other_none n r.what r.line older (above r.line e) (none_later n older f)
    ]) refl h
  where
    above : (k : ℕ) → nat_lt k (suc n) ≡ false → k ≢ n
    above k e f = grind (arith, nat_tests)

-- ---- the law ----

pub large_rounds : (c : Config) (lines : List ScheduleLine) → LargeRoundsEnd lines (trace_of (run_in c lines))
large_rounds c lines zero most is le = absurd (cc)
large_rounds c lines (suc k) most is le = none_later (suc k) (trace_of (run_in c lines)) (ap (list_any (tells_budget (suc k))) (before_at c lines (suc k) ∙ ap trace_of (next_world c lines k ∙ ap (λ (x : ScheduleLine). acts_line c (suc k) x (world c lines k)) is)) ∙
    delivers_none c lines (suc k) most most 0 (ticks_to c (suc k) all_sites (world c lines k)) is (ticks_go c lines (suc k) most all_sites (world c lines k) is start) (omega (arith, le)))
  where
    there : suc k ≤ length lines
    there = line_there lines k (line.Settle most) is

    before : Courses c lines k (world c lines k)
    before = courses_at c lines k (omega (arith, there))

    start : Goes c lines (suc k) 0 (world c lines k)
    start = record {
      courses = subst (λ (m : ℕ). Courses c lines m (world c lines k)) (one_more k) ((courses_kept c lines).begins k (world c lines k) (omega (arith, there)) (ap (λ (m : ℕ). begins_quietly (line_at lines m)) (one_more k) ∙ ap begins_quietly is) before);
      counted = every_run c (Counted 0) (counted_kept c) (first_counts c) (take k lines);
      none = none_before (suc k) k (world c lines k).trace before.course.ascends (omega arith);
    }
