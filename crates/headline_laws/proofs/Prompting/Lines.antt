-- In every run a record that a line is void stands alone at its line, and a call that it asks or a boot stands first.
use Rattle.std.proofs.Common.{◌≡◌, ◌≤◌, ◌<◌, ℕ, suc, zero, ◌+◌, ◌==◌, Bool, true, false, not, ◌&&◌, ◌||◌, List, [], ◌∷◌, ◌++◌, map, Option, None, Some, refl, sym, ◌∙◌, ap, subst, arith}
use Rattle.role_steps.proofs.of_plain_facts.Numbers.{apart_test, less_test}
use Rattle.locus_ids.specs.declared.config.Config.{Config}
use Rattle.locus_ids.specs.declared.sites.Links.{Links}
use Rattle.schedule_lines.specs.declared.line.Line.{Line as LineWords}
use Rattle.schedule_lines.specs.declared.line.Line.TheVariants as line
use Rattle.schedule_lines.specs.declared.line.ScheduleLine.{ScheduleLine}
use Rattle.schedule_lines.specs.declared.line.ScheduleLine.TheVariants.{Passed, Header, Event as EventLine}
use Rattle.trace_book.specs.declared.record.Record.{Record}
use Rattle.trace_book.specs.declared.record.Record.TheVariants as says
use Rattle.trace_book.specs.declared.record.StopCause.TheVariants as cause
use Rattle.wire_messages.specs.declared.packet.Packet.{Packet}
use Rattle.role_steps.specs.Own.{Every}
use Rattle.role_steps.specs.Views.{Calls, Event, GivesUp, Merges, Parts, Receives, Shown, SiteView, Ticks, Told, all_sites}
use Rattle.role_steps.proofs.Sending.{every_append, every_map}
use Rattle.the_run.specs.Disks.{Booted, CutOff, Whole, boots}
use Rattle.the_run.specs.Runs.{cuts_circuit, mends_circuit, act, acts_line, arrives, arrives_at, boots_as, boots_line, can_come, delivers, delivers_line, ends_round, goes_round, is_busy, is_in_no_epoch, is_lost, is_stopped, loses_line, next_packet, packet_at, packet_record, run_from, run_in, settles, stops_line, ticks_to, unless_void}
use Rattle.the_run.specs.Steps.{is_dropped, step}
use Rattle.the_run.specs.Worlds.{Line, Numbered, Place, Running, Stopped, World, acts, cause_of, cut_told, first_world, happened, happens, happens_at, loses, passed, voids, is_cut, links_of, place_at, script_of, told_onto}
use Rattle.the_run.proofs.Boots.{acts_cases}
use Rattle.the_run.proofs.Events.{happened_keeps}
use Rattle.tree_model.specs.Folds.{Trace, last_line}
use Rattle.lawful_trace.specs.Prompt.{comes_first_at, is_first_at, is_over}
use Rattle.lawful_trace.specs.LineRows.{is_void}
use Rattle.tree_laws.specs.Printed.{entries}
use Rattle.row_laws.specs.Shown.{EachRecord, trace_of}
use Rattle.rest_laws.proofs.Shown.{shown_entries}
use Rattle.calm_laws.proofs.of_store_laws.OneTree.Composing.{onto_append}
use Rattle.calm_laws.specs.of_store_laws.OneTree.Rest.{more}
use Rattle.headline_laws.specs.Prompting.Alone.{StandsAlone}
use Rattle.headline_laws.proofs.Prompting.Later.{IsLater, IsNoCall, OfLine, cut_later, later_of_line, step_later, step_line}

-- ---- what comes to the trace ----

-- the later world has these lines more, told at this line
pub record Adds (T : List Told → Type 0) (n : ℕ) (w u : World) : Type 0 where
  pub told : List Told
  pub trace_is : u.trace ≡ told_onto n told w.trace
  pub are : T told

adds_none : (n : ℕ) (w : World) → Adds (Every IsLater) n w w
adds_none n w = record { told = []; trace_is = refl; are = tt }

adds_more : (n : ℕ) (w u y : World) → Adds (Every IsLater) n w u → Adds (Every IsLater) n u y → Adds (Every IsLater) n w y
adds_more n w u y a b = record { told = a.told ++ b.told; trace_is = b.trace_is ∙ (ap (told_onto n b.told) a.trace_is ∙ sym (onto_append n a.told b.told w.trace)); are = every_append IsLater a.told b.told a.are b.are }

later_line : (n : ℕ) (w u : World) → Adds (Every IsLater) n w u → Adds OfLine n w u
later_line n w u a = record { told = a.told; trace_is = a.trace_is; are = later_of_line a.told a.are }

happened_adds : (T : List Told → Type 0) → T [] → (n : ℕ) (ps : List Packet) (told : List Told) (change : World → World) (w : World) → T told → Adds T n w (happened n ps told change w)
happened_adds T none n ps told change w k = happened_keeps (λ u. Adds T n w u) n ps told change w (record { told = []; trace_is = refl; are = none }) (λ l. record { told = []; trace_is = refl; are = none }) (λ a b d. record { told = told; trace_is = refl; are = k })

acts_adds : (T : List Told → Type 0) → T [] → ((xs : List Told) → Every IsLater xs → T xs) → (c : Config) (n s : ℕ) (links : Links) (v : SiteView) (e : Event) (w : World) → T (step c s links v e).told → Adds T n w (acts n s v (step c s links v e) w)
acts_adds T none later c n s links v e w k = acts_cases (λ u. Adds T n w u) n s v (step c s links v e) w
    (happened_adds T none n _ (step c s links v e).told _ w k)
    (λ a. happened_adds T none n _ (step c s links v e).told _ w k)
    (λ d a q. happened_adds T none n [] (cut_told s v.store d a.how a.left) _ w (later _ (cut_later c s links v e d a q)))

-- ---- one line ----

happens_line : (c : Config) (n s : ℕ) (e : Event) (o : Option Place) (w : World) → Adds OfLine n w (happens_at c n s e o w)
happens_line c n s e None w = later_line n w w (adds_none n w)
happens_line c n s e (Some (Stopped d)) w = later_line n w w (adds_none n w)
happens_line c n s e (Some (Running v)) w = acts_adds OfLine tt later_of_line c n s (links_of w s) v e w (step_line c s (links_of w s) v e)

happens_later : (c : Config) (n s : ℕ) (e : Event) (o : Option Place) (w : World) → IsNoCall e → Adds (Every IsLater) n w (happens_at c n s e o w)
happens_later c n s e None w own = adds_none n w
happens_later c n s e (Some (Stopped d)) w own = adds_none n w
happens_later c n s e (Some (Running v)) w own = acts_adds (Every IsLater) tt (λ xs h. h) c n s (links_of w s) v e w (step_later c s (links_of w s) v e own)

no_receive : (p : Packet) → IsNoCall (Receives p)
no_receive p process words q = cc

no_tick : IsNoCall Ticks
no_tick process words q = cc

arrives_adds : (c : Config) (n : ℕ) (x : Numbered) (w : World) → Adds (Every IsLater) n w (arrives c n x w)
arrives_adds c n x w = at (place_at w x.packet.to)
  where
    still : Adds (Every IsLater) n w (passed x.number w)
    still = record { told = []; trace_is = refl; are = tt }

    at : (o : Option Place) → Adds (Every IsLater) n w (arrives_at c n x.packet o (passed x.number w))
    at None = record { told = []; trace_is = refl; are = tt }
    at (Some (Stopped d)) = record { told = []; trace_is = refl; are = tt }
    at (Some (Running v)) = elim (is_dropped x.packet v) as (λ b. Adds (Every IsLater) n w (elim b as (λ (y : Bool). World) [ true ↦ passed x.number w | false ↦ happens c n x.packet.to (Receives x.packet) (passed x.number w) ])) [
      | true ↦ record { told = []; trace_is = refl; are = tt }
      | false ↦ adds_more n w (passed x.number w) (happens c n x.packet.to (Receives x.packet) (passed x.number w)) (record { told = []; trace_is = refl; are = tt }) (happens_later c n x.packet.to (Receives x.packet) (place_at w x.packet.to) (passed x.number w) (no_receive x.packet))
    ]

ends_adds : (n : ℕ) (w : World) (o : Option Numbered) → Adds (Every IsLater) n w (ends_round n w o)
ends_adds n w None = adds_none n w
ends_adds n w (Some x) = happened_adds (Every IsLater) tt n [] (Shown says.Budget ∷ []) (λ now. now) w (refl, tt)

delivers_adds : (c : Config) (n budget : ℕ) (w : World) → Adds (Every IsLater) n w (delivers c n budget w)
delivers_adds c n zero w = ends_adds n w (next_packet w)
delivers_adds c n (suc budget) w = at (next_packet w) (delivers_adds c n budget)
  where
    at : (o : Option Numbered) → ((u : World) → Adds (Every IsLater) n u (delivers c n budget u)) → Adds (Every IsLater) n w (goes_round c n (delivers c n budget) w o)
    at None later = adds_none n w
    at (Some x) later = adds_more n w (arrives c n x w) (delivers c n budget (arrives c n x w)) (arrives_adds c n x w) (later (arrives c n x w))

ticks_adds : (c : Config) (n : ℕ) (ss : List ℕ) (w : World) → Adds (Every IsLater) n w (ticks_to c n ss w)
ticks_adds c n [] w = adds_none n w
ticks_adds c n (s ∷ ss) w = adds_more n w (happens c n s Ticks w) (ticks_to c n ss (happens c n s Ticks w)) (happens_later c n s Ticks (place_at w s) w no_tick) (ticks_adds c n ss (happens c n s Ticks w))

void_adds : (n : ℕ) (w : World) → Adds OfLine n w (voids n w)
void_adds n w = happened_adds OfLine tt n [] (Shown says.Void ∷ []) (λ now. now) w (tt, λ e. refl)

unless_adds : (n : ℕ) (b : Bool) (f : World → World) (w : World) → Adds OfLine n w (f w) → Adds OfLine n w (unless_void n b f w)
unless_adds n true f w k = void_adds n w
unless_adds n false f w k = k

same_trace : (n : ℕ) (w u : World) → u.trace ≡ w.trace → Adds OfLine n w u
same_trace n w u e = record { told = []; trace_is = e; are = tt }

told_alone : (n : ℕ) (r : Record) (change : World → World) (w : World) → (Shown r ≡ Shown says.Void → ⊥) → Adds OfLine n w (happened n [] (Shown r ∷ []) change w)
told_alone n r change w unlike = happened_adds OfLine tt n [] (Shown r ∷ []) change w (tt, λ e. absurd (unlike e))

boots_adds : (n s : ℕ) (b : Booted) (w : World) → Adds OfLine n w (boots_as n s b w)
boots_adds n s (Whole d a) w = told_alone n (says.Up s d.label.boot) _ w (λ q. cc)
boots_adds n s (CutOff d how) w = told_alone n (says.Stopped s (cause_of how)) _ w (λ q. cc)

act_adds : (c : Config) (n : ℕ) (l : LineWords) (w : World) → Adds OfLine n w (act c n l w)
act_adds c n (line.Call s process words) w = unless_adds n (is_busy process (place_at w s)) (happens c n s (Calls process words)) w (happens_line c n s (Calls process words) (place_at w s) w)
act_adds c n (line.Deliver k) w = at (packet_at w k)
  where
    at : (o : Option Numbered) → Adds OfLine n w (delivers_line c n o w)
    at None = void_adds n w
    at (Some x) = unless_adds n (is_lost w x.number || not (can_come w x)) (arrives c n x) w (later_line n w (arrives c n x w) (arrives_adds c n x w))
act_adds c n (line.Lose k) w = at (packet_at w k)
  where
    at : (o : Option Numbered) → Adds OfLine n w (loses_line n o w)
    at None = void_adds n w
    at (Some x) = unless_adds n (is_lost w x.number) (loses x.number) w (same_trace n w (loses x.number w) refl)
act_adds c n (line.Tick s) w = unless_adds n (is_stopped (place_at w s)) (happens c n s Ticks) w (happens_line c n s Ticks (place_at w s) w)
act_adds c n (line.Down a b) w = unless_adds n (is_cut w a b) (cuts_circuit a b) w (same_trace n w (cuts_circuit a b w) refl)
act_adds c n (line.Up a b) w = unless_adds n (not (is_cut w a b)) (mends_circuit a b) w (same_trace n w (mends_circuit a b w) refl)
act_adds c n (line.Part s) w = unless_adds n (is_in_no_epoch (place_at w s)) (happens c n s Parts) w (happens_line c n s Parts (place_at w s) w)
act_adds c n (line.Merge s) w = unless_adds n (is_stopped (place_at w s)) (happens c n s Merges) w (happens_line c n s Merges (place_at w s) w)
act_adds c n (line.GiveUp s) w = unless_adds n (is_in_no_epoch (place_at w s)) (happens c n s GivesUp) w (happens_line c n s GivesUp (place_at w s) w)
act_adds c n (line.Stop s) w = at (place_at w s)
  where
    at : (o : Option Place) → Adds OfLine n w (stops_line n s o w)
    at None = void_adds n w
    at (Some (Stopped d)) = void_adds n w
    at (Some (Running v)) = told_alone n (says.Stopped s cause.Asked) _ w (λ q. cc)
act_adds c n (line.ArmStop s calls l) w = same_trace n w _ refl
act_adds c n (line.ArmFail s calls) w = same_trace n w _ refl
act_adds c n (line.Boot s) w = at (place_at w s)
  where
    at : (o : Option Place) → Adds OfLine n w (boots_line n s o w)
    at None = void_adds n w
    at (Some (Running v)) = void_adds n w
    at (Some (Stopped d)) = boots_adds n s (boots (script_of w s) d) w
act_adds c n (line.Settle budget) w = later_line n w (settles c n budget w) (adds_more n w (ticks_to c n all_sites w) (settles c n budget w) (ticks_adds c n all_sites w) (delivers_adds c n budget (ticks_to c n all_sites w)))
act_adds c n line.Pending w = later_line n w _ (happened_adds (Every IsLater) tt n [] (map packet_record w.underway) (λ now. now) w (every_map IsLater packet_record w.underway (λ x. refl)))

pub line_adds : (c : Config) (n : ℕ) (l : ScheduleLine) (w : World) → Adds OfLine n w (acts_line c n l w)
line_adds c n Passed w = same_trace n w w refl
line_adds c n (Header h) w = same_trace n w w refl
line_adds c n (EventLine e) w = act_adds c n e w

-- ---- the trace ----

-- so far, at this line or an earlier one
record SoFar (n : ℕ) (t : Trace) : Type 0 where
  each : EachRecord StandsAlone t
  low : last_line t ≤ n

-- and the line isn't told to be void
record Within (n : ℕ) (t : Trace) : Type 0 where
  far : SoFar n t
  open_now : is_over t n ≡ false

later_void : (r : Record) → comes_first_at r ≡ false → is_void r ≡ false
later_void says.Void e = e
later_void _ e = refl

stands_later : (n : ℕ) (r : Record) (t : Trace) → comes_first_at r ≡ false → Within n t → Within n (record { line = n; what = r } ∷ t)
stands_later n r t e k = record {
  far = record { each = (record { first = ap (λ (b : Bool). not b || is_first_at n t) e; alone = k.open_now }, k.far.each); low = omega arith };
  open_now = ap (λ (b : Bool). b && (n == n)) (later_void r e);
}

later_onto : (n : ℕ) (xs : List Told) (t : List Line) → Every IsLater xs → Within n (entries t) → Within n (entries (told_onto n xs t))
later_onto n [] t h k = k
later_onto n (x ∷ xs) t h k = later_onto n xs (more n x t) h.1 (one x h.0)
  where
    one : (y : Told) → IsLater y → Within n (entries (more n y t))
    one (Shown r) e = stands_later n r (entries t) e k
    one _ e = k

-- no record of a line that hasn't begun is there
begins : (n : ℕ) (t : Trace) → SoFar n t → is_over t (n + 1) ≡ false
begins n [] k = refl
begins n (r ∷ before) k = over (is_void r.what) (apart_test r.line (n + 1) (λ e. high r.line n e k.low))
  where
    high : (a b : ℕ) → a ≡ b + 1 → a ≤ b → ⊥
    high a b e le = omega (arith, e, le)

    over : (b : Bool) → (r.line == n + 1) ≡ false → (b && (r.line == n + 1)) ≡ false
    over true e = e
    over false e = refl

first_stands : (n : ℕ) (r : Record) (t : Trace) → SoFar n t → EachRecord StandsAlone (record { line = n + 1; what = r } ∷ t)
first_stands n r t k = (record { first = over (not (comes_first_at r)) (less_test (last_line t) (n + 1) (under (last_line t) k.low)); alone = begins n t k }, k.each)
  where
    under : (a : ℕ) → a ≤ n → a < n + 1
    under a le = omega (arith, le)

    over : (b : Bool) → is_first_at (n + 1) t ≡ true → b || is_first_at (n + 1) t ≡ true
    over true e = refl
    over false e = e

wider : (n : ℕ) (t : Trace) → SoFar n t → Within (n + 1) t
wider n t k = record { far = record { each = k.each; low = (let le : last_line t ≤ n = k.low in omega (arith, le)) }; open_now = begins n t k }

line_onto : (n : ℕ) (told : List Told) (t : List Line) → OfLine told → SoFar n (entries t) → SoFar (n + 1) (entries (told_onto (n + 1) told t))
line_onto n [] t h k = (wider n (entries t) k).far
line_onto n (x ∷ xs) t h k = one x h.0 h.1
  where
    one : (y : Told) → Every IsLater xs → (y ≡ Shown says.Void → xs ≡ []) → SoFar (n + 1) (entries (told_onto (n + 1) xs (more (n + 1) y t)))
    one (Shown says.Void) later only = subst (λ (ys : List Told). SoFar (n + 1) (entries (told_onto (n + 1) ys (more (n + 1) (Shown says.Void) t)))) (sym (only refl)) (record { each = first_stands n says.Void (entries t) k; low = omega arith })
    one (Shown r) later only = (later_onto (n + 1) xs (more (n + 1) (Shown r) t) later (record { far = record { each = first_stands n r (entries t) k; low = omega arith }; open_now = refl })).far
    one y later only = (later_onto (n + 1) xs (more (n + 1) y t) later (wider n (entries t) k)).far

lines_stand : (c : Config) (n : ℕ) (lines : List ScheduleLine) (w : World) → SoFar n (entries w.trace) → EachRecord StandsAlone (entries (run_from c (n + 1) lines w).trace)
lines_stand c n [] w k = k.each
lines_stand c n (l ∷ ls) w k = lines_stand c (n + 1) ls (acts_line c (n + 1) l w) (next (line_adds c (n + 1) l w))
  where
    next : Adds OfLine (n + 1) w (acts_line c (n + 1) l w) → SoFar (n + 1) (entries (acts_line c (n + 1) l w).trace)
    next a = subst (λ (t : List Line). SoFar (n + 1) (entries t)) (sym a.trace_is) (line_onto n a.told w.trace a.are k)

pub run_stands : (c : Config) (lines : List ScheduleLine) → EachRecord StandsAlone (trace_of (run_in c lines))
run_stands c lines = subst (EachRecord StandsAlone) (sym (shown_entries (run_in c lines).trace)) (lines_stand c 0 lines (first_world c) (record { each = tt; low = omega arith }))
