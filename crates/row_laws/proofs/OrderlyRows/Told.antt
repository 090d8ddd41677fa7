-- What is told in a line has its number, so it leaves the records before the line.
use Rattle.std.proofs.Common.{◌≡◌, ℕ, ◌+◌, ◌≤◌, Bool, true, false, not, ◌||◌, List, [], ◌∷◌, ◌++◌, Option, Some, None, refl, sym, ◌∙◌, ap, arith}
use Rattle.locus_ids.specs.declared.config.Config.{Config}
use Rattle.schedule_lines.specs.declared.line.Line.{Line as LineWords}
use Rattle.schedule_lines.specs.declared.line.Line.TheVariants as line
use Rattle.schedule_lines.specs.declared.line.ScheduleLine.{ScheduleLine}
use Rattle.schedule_lines.specs.declared.line.ScheduleLine.TheVariants.{Passed, Header, Event as EventLine}
use Rattle.wire_messages.specs.declared.packet.Packet.{Packet}
use Rattle.role_steps.specs.Views.{SiteView, Told, Outcome, Event, Calls, Receives, Ticks, Parts, Merges, GivesUp}
use Rattle.tree_model.specs.Folds.{before_line}
use Rattle.the_run.specs.Disks.{Booted, Whole, CutOff, Stops, Fails, boots}
use Rattle.the_run.specs.Steps.{is_dropped, step}
use Rattle.the_run.specs.Worlds.{World, Place, Running, Stopped, Numbered, Line, place_at, is_cut, links_of, script_of, happened, told_onto, puts, arms, passed, loses, stops_with, disk_of, acts, happens, happens_at}
use Rattle.the_run.specs.Runs.{packet_at, can_come, arrives_at, arrives, budget_ends, is_stopped, is_in_no_epoch, is_busy, is_lost, unless_void, delivers_line, loses_line, cuts_circuit, mends_circuit, stops_line, boots_as, boots_line, act, acts_line, run_from}
use Rattle.the_run.proofs.Events.{happened_keeps, acts_keeps}
use Rattle.row_laws.specs.Shown.{shown, trace_of}
use Rattle.row_laws.proofs.Tracing.{before_told}
use Rattle.row_laws.proofs.Orderly.Rounds.{RoundKept, settles_kept}

-- the later world's trace has more of this line
pub record TellsAt (n : ℕ) (w u : World) : Type 0 where
  pub told : List Told
  pub trace : u.trace ≡ told_onto n told w.trace

onto_append : (n : ℕ) (a b : List Told) (trace : List Line) → told_onto n (a ++ b) trace ≡ told_onto n b (told_onto n a trace)
onto_append n [] b trace = refl
onto_append n (x ∷ xs) b trace = onto_append n xs b (record { number = n; told = x } ∷ trace)

tells_then : (n : ℕ) (w u z : World) → TellsAt n w u → TellsAt n u z → TellsAt n w z
tells_then n w u z h g = record { told = h.told ++ g.told; trace = g.trace ∙ (ap (told_onto n g.told) h.trace ∙ sym (onto_append n h.told g.told w.trace)) }

tells_none : (n : ℕ) (w u : World) → u.trace ≡ w.trace → TellsAt n w u
tells_none n w u e = record { told = []; trace = e }

happened_tells : (n : ℕ) (ps : List Packet) (told : List Told) (change : World → World) (w : World) → TellsAt n w (happened n ps told change w)
happened_tells n ps told change w = happened_keeps (TellsAt n w) n ps told change w (tells_none n w w refl) (λ l. record { told = []; trace = refl }) (λ k b t. record { told = told; trace = refl })

acts_tells : (n s : ℕ) (v : SiteView) (o : Outcome SiteView) (w : World) → TellsAt n w (acts n s v o w)
acts_tells n s v o w = acts_keeps (TellsAt n w) n s v o w (λ ps told place. happened_tells n ps told (λ now. puts s place now) w) (λ ps told place a. happened_tells n ps told (λ now. puts s place (arms a now)) w) (λ ps told d. happened_tells n ps told (stops_with s d) w)

-- of a world with the same trace
same_tells : (n : ℕ) (w v u : World) → v.trace ≡ w.trace → TellsAt n v u → TellsAt n w u
same_tells n w v u e h = record { told = h.told; trace = h.trace ∙ ap (told_onto n h.told) e }

happens_tells : (c : Config) (n s : ℕ) (e : Event) (o : Option Place) (w : World) → TellsAt n w (happens_at c n s e o w)
happens_tells c n s e None w = tells_none n w w refl
happens_tells c n s e (Some (Stopped d)) w = tells_none n w w refl
happens_tells c n s e (Some (Running v)) w = acts_tells n s v (step c s (links_of w s) v e) w

unless_tells : (n : ℕ) (b : Bool) (f : World → World) (w : World) → TellsAt n w (f w) → TellsAt n w (unless_void n b f w)
unless_tells n true f w h = happened_tells n [] _ (λ now. now) w
unless_tells n false f w h = h

arrives_tells : (c : Config) (n : ℕ) (x : Numbered) (o : Option Place) (w : World) → TellsAt n w (arrives_at c n x.packet o (passed x.number w))
arrives_tells c n x None w = tells_none n w (passed x.number w) refl
arrives_tells c n x (Some (Stopped d)) w = tells_none n w (passed x.number w) refl
arrives_tells c n x (Some (Running v)) w =
    elim (is_dropped x.packet v) as (λ b. TellsAt n w (elim b [ true ↦ passed x.number w | false ↦ happens c n x.packet.to (Receives x.packet) (passed x.number w) ])) [
      | true ↦ tells_none n w (passed x.number w) refl
      | false ↦ same_tells n w (passed x.number w) (happens c n x.packet.to (Receives x.packet) (passed x.number w)) refl (happens_tells c n x.packet.to (Receives x.packet) (place_at (passed x.number w) x.packet.to) (passed x.number w))
    ]

round_tells : (c : Config) (n : ℕ) (first : World) → RoundKept c n (TellsAt n first)
round_tells c n first = record {
  ticks = λ s v w here h. tells_then n first w (acts n s v (step c s (links_of w s) v Ticks) w) h (acts_tells n s v (step c s (links_of w s) v Ticks) w);
  receives = λ x v w here a undropped h. tells_then n first w _ h (same_tells n w (passed x.number w) _ refl (acts_tells n x.packet.to v (step c x.packet.to (links_of (passed x.number w) x.packet.to) v (Receives x.packet)) (passed x.number w)));
  drops = λ x w a dropped h. record { told = h.told; trace = h.trace };
  budgets = λ w h. tells_then n first w (budget_ends n w) h (happened_tells n [] _ (λ now. now) w);
}

delivers_tells : (c : Config) (n : ℕ) (o : Option Numbered) (w : World) → TellsAt n w (delivers_line c n o w)
delivers_tells c n None w = happened_tells n [] _ (λ now. now) w
delivers_tells c n (Some x) w = unless_tells n (is_lost w x.number || not (can_come w x)) (arrives c n x) w (arrives_tells c n x (place_at w x.packet.to) w)

loses_tells : (n : ℕ) (o : Option Numbered) (w : World) → TellsAt n w (loses_line n o w)
loses_tells n None w = happened_tells n [] _ (λ now. now) w
loses_tells n (Some x) w = unless_tells n (is_lost w x.number) (loses x.number) w (tells_none n w (loses x.number w) refl)

stops_tells : (n s : ℕ) (o : Option Place) (w : World) → TellsAt n w (stops_line n s o w)
stops_tells n s None w = happened_tells n [] _ (λ now. now) w
stops_tells n s (Some (Stopped d)) w = happened_tells n [] _ (λ now. now) w
stops_tells n s (Some (Running v)) w = happened_tells n [] _ (stops_with s (disk_of v)) w

as_tells : (n s : ℕ) (b : Booted) (w : World) → TellsAt n w (boots_as n s b w)
as_tells n s (Whole x None) w = happened_tells n [] _ _ w
as_tells n s (Whole x (Some a)) w = happened_tells n [] _ _ w
as_tells n s (CutOff x how) w = happened_tells n [] _ _ w

boots_tells : (n s : ℕ) (o : Option Place) (w : World) → TellsAt n w (boots_line n s o w)
boots_tells n s None w = happened_tells n [] _ (λ now. now) w
boots_tells n s (Some (Running v)) w = happened_tells n [] _ (λ now. now) w
boots_tells n s (Some (Stopped d)) w = as_tells n s (boots (script_of w s) d) w

act_tells : (c : Config) (n : ℕ) (x : LineWords) (w : World) → TellsAt n w (act c n x w)
act_tells c n (line.Call s process words) w = unless_tells n (is_busy process (place_at w s)) (happens c n s (Calls process words)) w (happens_tells c n s (Calls process words) (place_at w s) w)
act_tells c n (line.Deliver j) w = delivers_tells c n (packet_at w j) w
act_tells c n (line.Lose j) w = loses_tells n (packet_at w j) w
act_tells c n (line.Tick s) w = unless_tells n (is_stopped (place_at w s)) (happens c n s Ticks) w (happens_tells c n s Ticks (place_at w s) w)
act_tells c n (line.Down a b) w = unless_tells n (is_cut w a b) (cuts_circuit a b) w (tells_none n w (cuts_circuit a b w) refl)
act_tells c n (line.Up a b) w = unless_tells n (not (is_cut w a b)) (mends_circuit a b) w (tells_none n w (mends_circuit a b w) refl)
act_tells c n (line.Part s) w = unless_tells n (is_in_no_epoch (place_at w s)) (happens c n s Parts) w (happens_tells c n s Parts (place_at w s) w)
act_tells c n (line.Merge s) w = unless_tells n (is_stopped (place_at w s)) (happens c n s Merges) w (happens_tells c n s Merges (place_at w s) w)
act_tells c n (line.GiveUp s) w = unless_tells n (is_in_no_epoch (place_at w s)) (happens c n s GivesUp) w (happens_tells c n s GivesUp (place_at w s) w)
act_tells c n (line.Stop s) w = stops_tells n s (place_at w s) w
act_tells c n (line.ArmStop s calls l) w = tells_none n w (arms (record { site = s; left = calls; how = Stops l }) w) refl
act_tells c n (line.ArmFail s calls) w = tells_none n w (arms (record { site = s; left = calls; how = Fails }) w) refl
act_tells c n (line.Boot s) w = boots_tells n s (place_at w s) w
act_tells c n (line.Settle most) w = (settles_kept c n (TellsAt n w) (round_tells c n w) most w (tells_none n w w refl)).0
act_tells c n line.Pending w = happened_tells n [] _ (λ now. now) w

line_tells : (c : Config) (n : ℕ) (x : ScheduleLine) (w : World) → TellsAt n w (acts_line c n x w)
line_tells c n Passed w = tells_none n w w refl
line_tells c n (Header h) w = tells_none n w w refl
line_tells c n (EventLine e) w = act_tells c n e w

-- ---- the records before a line ----

onto_before : (n m : ℕ) (told : List Told) (trace : List Line) → m ≤ n → before_line (shown (told_onto n told trace)) m ≡ before_line (shown trace) m
onto_before n m [] trace le = refl
onto_before n m (x ∷ xs) trace le = onto_before n m xs (record { number = n; told = x } ∷ trace) le ∙ before_told n m x (shown trace) le

tells_before : (n m : ℕ) (w u : World) → TellsAt n w u → m ≤ n → before_line (trace_of u) m ≡ before_line (trace_of w) m
tells_before n m w u h le = ap (λ (t : List Line). before_line (shown t) m) h.trace ∙ onto_before n m h.told w.trace le

pub lines_before : (c : Config) (n m : ℕ) (xs : List ScheduleLine) (w : World) → m ≤ n → before_line (trace_of (run_from c n xs w)) m ≡ before_line (trace_of w) m
lines_before c n m [] w le = refl
lines_before c n m (x ∷ xs) w le = lines_before c (n + 1) m xs (acts_line c n x w) (omega (arith, le)) ∙ tells_before n m w (acts_line c n x w) (line_tells c n x w) le
