-- The epochs and the lists that sites join are in range, in every run.
use Rattle.std.proofs.Common.{◌≡◌, ◌≤◌, ℕ, ◌+◌, Bool, true, false, cond, List, [], ◌∷◌, length, map, Option, Some, None, refl, subst, arith}
use Rattle.locus_ids.specs.declared.config.Config.{Config}
use Rattle.schedule_lines.specs.declared.line.ScheduleLine.{ScheduleLine}
use Rattle.trace_book.specs.declared.record.Record.{Record}
use Rattle.trace_book.specs.declared.record.Record.TheVariants as says
use Rattle.trace_book.specs.declared.record.StopCause.TheVariants as cause
use Rattle.wire_messages.specs.declared.packet.Packet.{Packet}
use Rattle.role_steps.specs.Own.{Every}
use Rattle.role_steps.specs.Views.{Event, Calls, GivesUp, Merges, Parts, Receives, Ticks, Outcome, SiteView, Told, Shown, Promises, Takes, LooksAgain, Begins, Shuts, Reserves, DiskWrite}
use Rattle.role_steps.specs.declared.rounds.InEpoch.{InEpoch}
use Rattle.row_laws.specs.Shown.{EachRecord, shown, trace_of, with_told}
use Rattle.the_run.specs.Disks.{Booted, Cut, Whole, CutOff, boots, cut_disk, is_on_disk}
use Rattle.the_run.specs.Joins.{NoJoinRecord, NoWrite}
use Rattle.the_run.specs.Kept.{Kept, IsOwn}
use Rattle.the_run.specs.Runs.{boots_as, packet_record, run_in}
use Rattle.the_run.specs.Steps.{step}
use Rattle.the_run.specs.Worlds.{World, Line, Limit, Numbered, Running, acts, cause_of, cut_told, first_world, happened, happened_of, limit_passed, links_of, passed, packet_size, place_at, script_of, stops_with, told_onto, told_size, unless_over}
use Rattle.role_steps.specs.Tables.{total}
use Rattle.the_run.proofs.Boots.{acts_cases}
use Rattle.the_run.proofs.Runs.{every_run}
use Rattle.packet_laws.specs.Fitting.Fields.{AreBoots}
use Rattle.packet_laws.specs.of_run_laws.Naming.{MayCome}
use Rattle.packet_laws.proofs.Fitting.Epochs as epochs
use Rattle.packet_laws.proofs.Fitting.Epochs.{Counted, IdFits, come_named, counted_kept, first_counted, one_room, size, step_up_to}
use Rattle.packet_laws.proofs.Fitting.FormingRun.{Good, come_event, first_good, good_kept}
use Rattle.packet_laws.proofs.Fitting.Lists as lists
use Rattle.packet_laws.proofs.Fitting.Places.{links_low, own_place}
use Rattle.text_laws.specs.Records.Texts.{IsJoinFit, JoinFits}
use Rattle.text_laws.proofs.Records.JoinSteps.{OfEpoch, Own, step_own}

-- ---- what is told ----

abbrev pub JoinTold : Told → Type 0
JoinTold (Shown r) = JoinFits r
JoinTold _ = Unit {0}

abbrev JoinLine : Line → Type 0
JoinLine x = JoinTold x.told

-- each join of an event is of the epoch that the site is in then
of_epoch : (o : Outcome SiteView) → ((e : InEpoch) → o.view.epoch ≡ Some e → IdFits 134479873 e.id) → ((e : InEpoch) → o.view.epoch ≡ Some e → AreBoots e.members.boot) → (told : List Told) → Every (OfEpoch o.view.epoch) told → Every JoinTold told
of_epoch o ids boots [] h = tt
of_epoch o ids boots (x ∷ xs) h = (one x h.0, of_epoch o ids boots xs h.1)
  where
    of_record : (r : Record) → OfEpoch o.view.epoch (Shown r) → JoinFits r
    of_record (says.Join s id m) k = (ids (record { id = id; members = m }) k, boots (record { id = id; members = m }) k)
    of_record _ k = tt

    one : (x : Told) → OfEpoch o.view.epoch x → JoinTold x
    one (Shown r) k = of_record r k
    one _ k = tt

told_onto_fit : (n : ℕ) (told : List Told) (trace : List Line) → Every JoinTold told → Every JoinLine trace → Every JoinLine (told_onto n told trace)
told_onto_fit n [] trace h k = k
told_onto_fit n (x ∷ xs) trace h k = told_onto_fit n xs (record { number = n; told = x } ∷ trace) h.1 (h.0, k)

-- ---- the world ----

record JoinsTold (w : World) : Type 0 where
  each : Every JoinLine w.trace

record JoinsFit (w : World) : Type 0 where
  counted : Counted w
  good : Good w
  joins : JoinsTold w

happened_joins : (n : ℕ) (ps : List Packet) (told : List Told) (change : World → World) (w : World) → Every JoinTold told → JoinsTold w → JoinsTold (happened n ps told change w)
happened_joins n ps told change w new h = by_over w.over
  where
    bytes : ℕ
    bytes = w.bytes + total packet_size ps

    text : ℕ
    text = w.text + total (told_size n) told

    by_limit : (l : Option Limit) → JoinsTold (unless_over l n ps told change (w.packets + length ps) bytes text w)
    by_limit (Some l) = record { each = h.each }
    by_limit None = record { each = told_onto_fit n told w.trace new h.each }

    by_over : (o : Option Limit) → JoinsTold (happened_of o n ps told change w)
    by_over (Some l) = h
    by_over None = by_limit (limit_passed (w.packets + length ps) bytes text)

no_record : (r : Record) → NoJoinRecord r → JoinFits r
no_record (says.Join s id m) k = absurd k
no_record _ k = tt

cut_fits : (s : ℕ) (v : SiteView) (d : DiskWrite) (how : Cut) (left : ℕ) → NoWrite (Some d) → Every JoinTold (cut_told s v.store d how left)
cut_fits s v d how left h = over (is_on_disk v.store d how left)
  where
    over : (b : Bool) → Every JoinTold (cond b (Shown d.says ∷ Shown (says.Stopped s (cause_of how)) ∷ []) (Shown (says.Stopped s (cause_of how)) ∷ []))
    over true = (no_record d.says h, (tt, tt))
    over false = (tt, tt)

acts_joins : (n s : ℕ) (v : SiteView) (o : Outcome SiteView) (w : World) → Every JoinTold o.told → NoWrite o.written → JoinsTold w → JoinsTold (acts n s v o w)
acts_joins n s v o w told written h = acts_cases JoinsTold n s v o w
    (happened_joins n o.sent o.told _ w told h)
    (λ a. happened_joins n o.sent o.told _ w told h)
    (λ d a e. happened_joins n [] (cut_told s v.store d a.how a.left) (stops_with s (cut_disk v.boot v.store d a.how a.left)) w (cut_fits s v d a.how a.left (subst NoWrite e written)) h)

-- what an event of a running site has it join
step_joins : (c : Config) (n s : ℕ) (e : Event) (v : SiteView) (w : World) → place_at w s ≡ Some (Running v) → epochs.Comes (size w) e → lists.Comes e → Counted w → Good w → Every JoinTold (step c s (links_of w s) v e).told
step_joins c n s e v w here named formed k g =
    let own : Own (step c s (links_of w s) v e) = step_own c s (links_of w s) v e in
    let ids = step_up_to c (size w) 134479873 s (links_of w s) v e (own_place w s v here g.placed) (let room : size w ≤ 134479872 = k.room in omega (arith, room)) (k.views s v here) named (one_room (size w) 134479873 s v e (let room : size w ≤ 134479872 = k.room in omega (arith, room))) in
    let fits = lists.step_fine s c (links_of w s) v e (λ t. links_low w s t g.placed) formed (g.views s v here) in
    of_epoch (step c s (links_of w s) v e) (λ i q. ids.view.inside i q) (λ i q. (fits.view.inside i q).0) (step c s (links_of w s) v e).told own.told

steps_fit : (c : Config) (n s : ℕ) (e : Event) (v : SiteView) (w : World) → place_at w s ≡ Some (Running v) → epochs.Comes (size w) e → lists.Comes e → Counted w → Good w → JoinsTold w → JoinsTold (acts n s v (step c s (links_of w s) v e) w)
steps_fit c n s e v w here named formed k g h = acts_joins n s v (step c s (links_of w s) v e) w (step_joins c n s e v w here named formed k g) (step_own c s (links_of w s) v e).written h

booted_joins : (n s : ℕ) (b : Booted) (w : World) → JoinsTold w → JoinsTold (boots_as n s b w)
booted_joins n s (Whole x None) w h = happened_joins n [] (Shown (says.Up s x.label.boot) ∷ []) _ w (tt, tt) h
booted_joins n s (Whole x (Some a)) w h = happened_joins n [] (Shown (says.Up s x.label.boot) ∷ []) _ w (tt, tt) h
booted_joins n s (CutOff x how) w h = happened_joins n [] (Shown (says.Stopped s (cause_of how)) ∷ []) _ w (tt, tt) h

listed : (xs : List Numbered) → Every JoinTold (map packet_record xs)
listed [] = tt
listed (x ∷ xs) = (tt, listed xs)

own_comes : (w : World) (e : Event) → IsOwn e → MayCome w e
own_comes w (Receives p) own = absurd own
own_comes w Ticks own = tt
own_comes w Parts own = tt
own_comes w Merges own = tt
own_comes w GivesUp own = tt
own_comes w (Calls process words) own = tt

joins_kept : (c : Config) → Kept c JoinsFit
joins_kept c = record {
  steps = λ n s e v w here own h. record {
    counted = (counted_kept c).steps n s e v w here own h.counted;
    good = (good_kept c).steps n s e v w here own h.good;
    joins = steps_fit c n s e v w here (come_named w e h.counted (own_comes w e own)) (come_event w e h.good (own_comes w e own)) h.counted h.good h.joins;
  };
  receives = λ n x v w here sent h. record {
    counted = (counted_kept c).receives n x v w here sent h.counted;
    good = (good_kept c).receives n x v w here sent h.good;
    joins = steps_fit c n x.packet.to (Receives x.packet) v (passed x.number w) here (come_named w (Receives x.packet) h.counted (x, sent, refl)) (come_event w (Receives x.packet) h.good (x, sent, refl)) ((counted_kept c).passes x.number w h.counted) ((good_kept c).passes x.number w h.good) (record { each = h.joins.each });
  };
  passes = λ k w h. record { counted = (counted_kept c).passes k w h.counted; good = (good_kept c).passes k w h.good; joins = record { each = h.joins.each } };
  drops = λ k w h. record { counted = (counted_kept c).drops k w h.counted; good = (good_kept c).drops k w h.good; joins = record { each = h.joins.each } };
  recuts = λ xs w h. record { counted = (counted_kept c).recuts xs w h.counted; good = (good_kept c).recuts xs w h.good; joins = record { each = h.joins.each } };
  arming = λ a w h. record { counted = (counted_kept c).arming a w h.counted; good = (good_kept c).arming a w h.good; joins = record { each = h.joins.each } };
  voiding = λ n w h. record { counted = (counted_kept c).voiding n w h.counted; good = (good_kept c).voiding n w h.good; joins = happened_joins n [] (Shown says.Void ∷ []) _ w (tt, tt) h.joins };
  budgets = λ n w h. record { counted = (counted_kept c).budgets n w h.counted; good = (good_kept c).budgets n w h.good; joins = happened_joins n [] (Shown says.Budget ∷ []) _ w (tt, tt) h.joins };
  pending = λ n w h. record { counted = (counted_kept c).pending n w h.counted; good = (good_kept c).pending n w h.good; joins = happened_joins n [] (map packet_record w.underway) _ w (listed w.underway) h.joins };
  stopping = λ n s v w here h. record { counted = (counted_kept c).stopping n s v w here h.counted; good = (good_kept c).stopping n s v w here h.good; joins = happened_joins n [] (Shown (says.Stopped s cause.Asked) ∷ []) _ w (tt, tt) h.joins };
  booting = λ n s d w here h. record { counted = (counted_kept c).booting n s d w here h.counted; good = (good_kept c).booting n s d w here h.good; joins = booted_joins n s (boots (script_of w s) d) w h.joins };
}

-- ---- every run ----

shown_fit : (trace : List Line) → Every JoinLine trace → EachRecord IsJoinFit (shown trace)
shown_fit [] h = tt
shown_fit (x ∷ older) h = one x.number x.told h.0 (shown_fit older h.1)
  where
    one : (n : ℕ) (t : Told) → JoinTold t → EachRecord IsJoinFit (shown older) → EachRecord IsJoinFit (with_told n t (shown older))
    one n (Shown r) k later = (k, later)
    one n (Promises s e reach) k later = later
    one n (Takes s id request times a) k later = later
    one n (LooksAgain s id request times) k later = later
    one n (Begins s e i f) k later = later
    one n (Shuts s e i) k later = later
    one n (Reserves s e i f) k later = later

first_joins : (c : Config) → JoinsFit (first_world c)
first_joins c = record { counted = first_counted c; good = first_good c; joins = record { each = tt } }

pub run_joins : (c : Config) (lines : List ScheduleLine) → EachRecord IsJoinFit (trace_of (run_in c lines))
run_joins c lines = let h : JoinsFit (run_in c lines) = every_run c JoinsFit (joins_kept c) (first_joins c) lines in shown_fit (run_in c lines).trace h.joins.each
