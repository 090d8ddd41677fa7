-- How many records a run prints.
use Rattle.std.proofs.Common.{◌≤◌, ℕ, ◌+◌, List, [], ◌∷◌, length, Option, Some, None, arith}
use Rattle.locus_ids.specs.declared.config.Config.{Config}
use Rattle.schedule_lines.specs.declared.line.ScheduleLine.{ScheduleLine}
use Rattle.wire_messages.specs.declared.packet.Packet.{Packet}
use Rattle.role_steps.specs.Tables.{total}
use Rattle.role_steps.specs.Views.{SiteView, Told, Shown, Promises, Takes, LooksAgain, Begins, Shuts, Reserves, Outcome, Receives}
use Rattle.tree_model.specs.Folds.{Trace}
use Rattle.row_laws.specs.Shown.{shown, trace_of, with_told}
use Rattle.the_run.specs.Disks.{Booted, Whole, CutOff, boots, cut_disk}
use Rattle.the_run.specs.Kept.{Kept}
use Rattle.the_run.specs.Runs.{boots_as, run_in}
use Rattle.the_run.specs.Steps.{step}
use Rattle.the_run.specs.Worlds.{World, Line, Limit, links_of, script_of, happened, happened_of, unless_over, limit_passed, told_onto, told_size, packet_size, acts, passed, stops_with, cut_told}
use Rattle.the_run.proofs.Boots.{acts_cases}
use Rattle.the_run.proofs.Runs.{every_run}
use Rattle.packet_laws.proofs.of_run_laws.Boots.{run_low, some_text}

-- no more records than bytes of text
pub record Few (w : World) : Type 0 where
  pub records : length (trace_of w) ≤ w.text

-- what is told is a record with some text, or none
one_more : (n : ℕ) (t : Told) (before : Trace) → length (with_told n t before) ≤ length before + told_size n t
one_more n (Shown r) before = let k = some_text n r in omega (arith, k)
one_more n (Promises s e reach) before = omega arith
one_more n (Takes s id request take a) before = omega arith
one_more n (LooksAgain s id request take) before = omega arith
one_more n (Begins s e i f) before = omega arith
one_more n (Shuts s e i) before = omega arith
one_more n (Reserves s e i f) before = omega arith

-- what is told adds no more records than it has bytes
told_few : (n : ℕ) (told : List Told) (trace : List Line) → length (shown (told_onto n told trace)) ≤ length (shown trace) + total (told_size n) told
told_few n [] trace = omega arith
told_few n (t ∷ told) trace =
    let rest = told_few n told (record { number = n; told = t } ∷ trace) in
    let one = one_more n t (shown trace) in
    omega (arith, rest, one)

happened_few : (n : ℕ) (ps : List Packet) (told : List Told) (change : World → World) (w : World) → Few w → Few (happened n ps told change w)
happened_few n ps told change w h = by_over w.over
  where
    bytes : ℕ
    bytes = w.bytes + total packet_size ps

    text : ℕ
    text = w.text + total (told_size n) told

    by_limit : (l : Option Limit) → Few (unless_over l n ps told change (w.packets + length ps) bytes text w)
    by_limit (Some l) = record { records = h.records }
    by_limit None = record { records = let k = told_few n told w.trace in let m : length (trace_of w) ≤ w.text = h.records in omega (arith, k, m) }

    by_over : (o : Option Limit) → Few (happened_of o n ps told change w)
    by_over (Some l) = h
    by_over None = by_limit (limit_passed (w.packets + length ps) bytes text)

acts_few : (n s : ℕ) (v : SiteView) (o : Outcome SiteView) (w : World) → Few w → Few (acts n s v o w)
acts_few n s v o w h = acts_cases Few n s v o w
    (happened_few n o.sent o.told _ w h)
    (λ a. happened_few n o.sent o.told _ w h)
    (λ d a e. happened_few n [] (cut_told s v.store d a.how a.left) (stops_with s (cut_disk v.boot v.store d a.how a.left)) w h)

booted_few : (n s : ℕ) (b : Booted) (w : World) → Few w → Few (boots_as n s b w)
booted_few n s (Whole x None) w h = happened_few n [] _ _ w h
booted_few n s (Whole x (Some a)) w h = happened_few n [] _ _ w h
booted_few n s (CutOff x how) w h = happened_few n [] _ _ w h

pub few_kept : (c : Config) → Kept c Few
few_kept c = record {
  steps = λ n s e v w here own h. acts_few n s v (step c s (links_of w s) v e) w h;
  receives = λ n x v w here sent h. acts_few n x.packet.to v (step c x.packet.to (links_of (passed x.number w) x.packet.to) v (Receives x.packet)) (passed x.number w) (record { records = h.records });
  passes = λ k w h. record { records = h.records };
  drops = λ k w h. record { records = h.records };
  recuts = λ xs w h. record { records = h.records };
  arming = λ a w h. record { records = h.records };
  voiding = λ n w h. happened_few n [] _ _ w h;
  budgets = λ n w h. happened_few n [] _ _ w h;
  pending = λ n w h. happened_few n [] _ _ w h;
  stopping = λ n s v w here h. happened_few n [] _ _ w h;
  booting = λ n s d w here h. booted_few n s (boots (script_of w s) d) w h;
}

pub run_few : (c : Config) (lines : List ScheduleLine) → length (trace_of (run_in c lines)) ≤ 134217728
run_few c lines =
    let h : length (trace_of (run_in c lines)) ≤ (run_in c lines).text = (every_run c Few (few_kept c) (record { records = omega arith }) lines).records in
    let k : (run_in c lines).text ≤ 134217728 = (run_low c lines).room in
    omega (arith, h, k)
