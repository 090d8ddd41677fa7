-- What is told of calls as a run goes on: each call line that was begun is told.
use Rattle.locus_ids.specs.declared.config.Config.{Config}
use Rattle.std.proofs.Common.{◌≡◌, ◌≤◌, ◌<◌, ℕ, zero, suc, ◌+◌, ◌==◌, true, false, List, [], ◌∷◌, Some, None, refl, sym, ◌∙◌, ap, subst, arith}
use Rattle.std.proofs.lemmas.Bool.Decides.{nat_tests}
use Rattle.role_steps.proofs.of_plain_facts.Tests.{false_true}
use Rattle.schedule_lines.specs.declared.line.Line.{Line as LineWords}
use Rattle.schedule_lines.specs.declared.line.Line.TheVariants as line
use Rattle.schedule_lines.specs.declared.line.ScheduleLine.{ScheduleLine}
use Rattle.schedule_lines.specs.declared.line.ScheduleLine.TheVariants.{Event as EventLine}
use Rattle.trace_book.specs.declared.record.Record.TheVariants as says
use Rattle.wire_messages.specs.declared.packet.Packet.{Packet}
use Rattle.role_steps.specs.Views.{SiteView, Told, Shown, Outcome}
use Rattle.tree_model.specs.Folds.{Trace}
use Rattle.the_run.specs.Disks.{Armed, Booted, Whole, CutOff, cut_disk}
use Rattle.the_run.specs.Worlds.{World, Running, Line, told_onto, happened, puts, arms, stops_with, cause_of, cut_told, acts}
use Rattle.the_run.specs.Runs.{boots_as}
use Rattle.the_run.proofs.Boots.{acts_cases}
use Rattle.lawful_trace.specs.Places.{line_at}
use Rattle.lawful_trace.specs.LineRows.{is_told}
use Rattle.row_laws.specs.Shown.{shown, trace_of, EachRecord}
use Rattle.row_laws.specs.ByLine.{IsLine, begins_quietly, Delivers, ArmsAs}
use Rattle.row_laws.specs.Rows.{IsSiteRow}
use Rattle.row_laws.specs.Voids.{is_call}
use Rattle.row_laws.proofs.Tales.{onto_told, happened_none}
use Rattle.row_laws.specs.CallRows.Lines.{CallsTold}
use Rattle.row_laws.proofs.CallRows.VoidCalls.{order_before}

-- ---- what is told of calls ----

-- each call up to this number is told, unless a limit was passed
abbrev pub ToldGo : Config → List ScheduleLine → ℕ → World → Type 0
ToldGo c lines n w = w.over ≡ None → EachRecord (IsSiteRow c) (trace_of w) → CallsTold lines n (trace_of w)

abbrev ToldAfter : Config → List ScheduleLine → ℕ → Trace → Type 0
ToldAfter c lines m t = EachRecord (IsSiteRow c) t → CallsTold lines m t

-- what a line tells leaves the calls before it
pub earlier : (lines : List ScheduleLine) (n k : ℕ) (told : List Told) (trace : List Line) → n < k → CallsTold lines n (shown trace) → CallsTold lines n (shown (told_onto k told trace))
earlier lines n k told trace h t m low high call = onto_told lines k m told trace (omega (arith, h, high)) (λ e. absurd (omega (arith, h, high, e))) ∙ t m low high call

number_case : (P : Type 0) (m n : ℕ) → m ≤ n + 1 → (m ≤ n → P) → (m ≡ n + 1 → P) → P
number_case P m n h low last = (elim (m == n + 1) as (λ b. (m == n + 1) ≡ b → P) [ true ↦ λ e. last (same m n e) | false ↦ λ e. low (below m n h e) ]) refl
  where
    same : (m n : ℕ) → (m == n + 1) ≡ true → m ≡ n + 1
    same m n e = grind (arith, nat_tests)

    below : (m n : ℕ) → m ≤ n + 1 → (m == n + 1) ≡ false → m ≤ n
    below m n h e = grind (arith, nat_tests)

-- the line that begins, too
pub next : (lines : List ScheduleLine) (n : ℕ) (now : Trace) → CallsTold lines n now → (is_call (line_at lines (n + 1)) ≡ true → is_told lines now (n + 1) ≡ true) → CallsTold lines (n + 1) now
next lines n now t here m low high call = number_case (is_told lines now m ≡ true) m n high (λ h. t m low h call) (λ e. subst (λ (k : ℕ). is_told lines now k ≡ true) (sym e) (here (subst (λ (k : ℕ). is_call (line_at lines k) ≡ true) e call)))

-- a line that is no call tells what it may
pub other_next : (lines : List ScheduleLine) (n : ℕ) (told : List Told) (trace : List Line) → is_call (line_at lines (n + 1)) ≡ false → CallsTold lines n (shown trace) → CallsTold lines (n + 1) (shown (told_onto (n + 1) told trace))
other_next lines n told trace none t = next lines n (shown (told_onto (n + 1) told trace)) (earlier lines n (n + 1) told trace (omega arith) t) (λ call. absurd (false_true (sym none ∙ call)))

-- in the course of a line that is no call
pub course : (lines : List ScheduleLine) (n : ℕ) (told : List Told) (trace : List Line) → is_call (line_at lines n) ≡ false → CallsTold lines n (shown trace) → CallsTold lines n (shown (told_onto n told trace))
course lines zero told trace none t m low high call = absurd (omega (arith, low, high))
course lines (suc n) told trace none t m low high call =
    number_case (is_told lines (shown (told_onto (suc n) told trace)) m ≡ true) m n (upper high)
    (λ h. earlier lines n (suc n) told trace (less n) (λ k a b q. t k a (within k b) q) m low h call)
    (λ e. absurd (false_true (sym none ∙ subst (λ (k : ℕ). is_call (line_at lines k) ≡ true) (e ∙ suc_is n) call)))
  where
    upper : m ≤ suc n → m ≤ n + 1
    upper h = omega (arith, h)

    less : (n : ℕ) → n < suc n
    less n = omega arith

    within : (k : ℕ) → k ≤ n → k ≤ suc n
    within k h = omega (arith, h)

    suc_is : (n : ℕ) → n + 1 ≡ suc n
    suc_is n = omega arith

pub happened_calls : (c : Config) (lines : List ScheduleLine) (m : ℕ) (ps : List Packet) (told : List Told) (change : World → World) (w : World) → (w.over ≡ None → EachRecord (IsSiteRow c) (trace_of w) → CallsTold lines m (shown (told_onto m told w.trace))) → ToldGo c lines m (happened m ps told change w)
happened_calls c lines m ps told change w h = happened_none (ToldAfter c lines m) m ps told change w (λ none order. h none (order_before c m told w.trace order))

-- whatever an event tells
pub acts_calls : (c : Config) (lines : List ScheduleLine) (m s : ℕ) (v : SiteView) (o : Outcome SiteView) (w : World) → ((told : List Told) → w.over ≡ None → EachRecord (IsSiteRow c) (trace_of w) → CallsTold lines m (shown (told_onto m told w.trace))) → ToldGo c lines m (acts m s v o w)
acts_calls c lines m s v o w h =
    acts_cases (ToldGo c lines m) m s v o w
    (happened_calls c lines m o.sent o.told (λ now. puts s (Running o.view) now) w (h o.told))
    (λ a. happened_calls c lines m o.sent o.told (λ now. puts s (Running o.view) (arms a now)) w (h o.told))
    (λ d a e. happened_calls c lines m [] (cut_told s v.store d a.how a.left) (stops_with s (cut_disk v.boot v.store d a.how a.left)) w (h (cut_told s v.store d a.how a.left)))

pub boots_calls : (c : Config) (lines : List ScheduleLine) (m s : ℕ) (b : Booted) (w : World) → ((told : List Told) → w.over ≡ None → EachRecord (IsSiteRow c) (trace_of w) → CallsTold lines m (shown (told_onto m told w.trace))) → ToldGo c lines m (boots_as m s b w)
boots_calls c lines m s (Whole d None) w h = happened_calls c lines m [] (Shown (says.Up s d.label.boot) ∷ []) _ w (h (Shown (says.Up s d.label.boot) ∷ []))
boots_calls c lines m s (Whole d (Some a)) w h = happened_calls c lines m [] (Shown (says.Up s d.label.boot) ∷ []) _ w (h (Shown (says.Up s d.label.boot) ∷ []))
boots_calls c lines m s (CutOff d how) w h = happened_calls c lines m [] (Shown (says.Stopped s (cause_of how)) ∷ []) (stops_with s d) w (h (Shown (says.Stopped s (cause_of how)) ∷ []))

-- ---- lines that are no calls ----

pub quiet_other : (l : ScheduleLine) → begins_quietly l ≡ true → is_call l ≡ false
quiet_other (EventLine (line.Call site process words)) q = absurd (false_true q)
quiet_other _ q = refl

pub delivers_other : (l : LineWords) → Delivers l → is_call (EventLine l) ≡ false
delivers_other (line.Call site process words) d = absurd d
delivers_other _ d = refl

pub arms_other : (l : LineWords) (a : Armed) → ArmsAs l a → is_call (EventLine l) ≡ false
arms_other (line.Call site process words) a d = absurd d
arms_other _ a d = refl

pub line_other : (lines : List ScheduleLine) (n : ℕ) (l : LineWords) → IsLine lines n l → is_call (EventLine l) ≡ false → is_call (line_at lines n) ≡ false
line_other lines n l is e = ap is_call is ∙ e
