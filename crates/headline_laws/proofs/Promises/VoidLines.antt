-- A line that tells that it is void does nothing else.
use Rattle.std.proofs.Common.{◌≡◌, ◌≤◌, ℕ, zero, suc, ◌-◌, ◌==◌, ◌⊎◌, Bool, true, false, cond, not, ◌||◌, List, [], ◌∷◌, length, take, Option, Some, None, refl, sym, ◌∙◌, ap, subst, inl, inr, arith}
use Rattle.std.proofs.lemmas.List.{append-nil}
use Rattle.std.specs.List.{list_any}
use Rattle.role_steps.proofs.of_plain_facts.Numbers.{equal}
use Rattle.role_steps.proofs.of_plain_facts.Tests.{and_first, and_second, false_true, true_false}
use Rattle.locus_ids.specs.declared.config.Config.{Config}
use Rattle.schedule_lines.specs.Cluster.{config_of}
use Rattle.schedule_lines.specs.Schedule.{AreInOrder}
use Rattle.schedule_lines.specs.declared.line.Line.{Line as LineWords}
use Rattle.schedule_lines.specs.declared.line.Line.TheVariants as line
use Rattle.schedule_lines.specs.declared.line.ScheduleLine.{ScheduleLine}
use Rattle.schedule_lines.specs.declared.line.ScheduleLine.TheVariants.{Passed, Header, Event as EventLine}
use Rattle.trace_book.specs.declared.record.Record.{Record}
use Rattle.trace_book.specs.declared.record.Record.TheVariants as says
use Rattle.trace_book.specs.declared.record.StopCause.{StopCause}
use Rattle.role_steps.specs.Own.{Every}
use Rattle.role_steps.specs.Views.{SiteView, Told, Shown, Outcome, Event, Calls, Receives, Ticks, Parts, Merges, GivesUp}
use Rattle.the_run.specs.Disks.{Booted, Whole, CutOff, boots, is_on_disk}
use Rattle.the_run.specs.Kept.{WasSent}
use Rattle.the_run.specs.Steps.{is_dropped, step}
use Rattle.the_run.specs.Worlds.{World, Place, Running, Stopped, Numbered, Line, place_at, links_of, script_of, number_of, passed, loses, is_cut, cause_of, voids, acts, happens, happens_at}
use Rattle.the_run.specs.Runs.{packet_at, can_come, is_lost, is_busy, is_stopped, is_in_no_epoch, cuts_circuit, mends_circuit, arrives_at, arrives, unless_void, delivers_line, loses_line, stops_line, boots_as, boots_line, act, acts_line, run, run_in}
use Rattle.the_run.proofs.Boots.{acts_cases}
use Rattle.tree_model.specs.Folds.{Trace}
use Rattle.run_laws.specs.Naming.{DeedsOf}
use Rattle.lawful_trace.specs.LineRows.{IsVoidAsked, is_void, is_void_line, may_be_void}
use Rattle.lawful_trace.specs.Places.{line_at}
use Rattle.row_laws.specs.Events.{Causes, SiteRecord, SiteTold, Comes, Forms, causes_of}
use Rattle.row_laws.specs.Inward.{RoleWrite, ServedRecord}
use Rattle.row_laws.specs.Shown.{EachRecord, trace_of}
use Rattle.row_laws.specs.Voids.{IsVoidRow, LinesFit, is_call}
use Rattle.row_laws.proofs.AskedRun.{Courses, run_courses}
use Rattle.row_laws.proofs.Causes.{sent_polls}
use Rattle.row_laws.proofs.Fitting.{schedule_fits}
use Rattle.row_laws.proofs.StepForms.{step_forms}
use Rattle.row_laws.proofs.Voids.{run_voids}
use Rattle.row_laws.proofs.Orderly.Rounds.{happened_cases}
use Rattle.calm_laws.proofs.of_store_laws.Tabled.{row_among}
use Rattle.calm_laws.proofs.of_row_laws.OrderlyRows.Spans.{world, next_world, before_at, take_length}
use Rattle.headline_laws.proofs.Promises.LineTells.{Fails, NoneTold, happened_none, none_before, none_first, none_later}
use Rattle.headline_laws.specs.Promises.Voiding.{ChangesNothing, VoidLinesChangeNothing, tells_void}

-- ---- records that aren't of a void line ----

abbrev NotVoid : Told → Type 0
NotVoid x = Fails is_void x

-- no record of this line tells that it is void
abbrev NoVoid : ℕ → List Line → Type 0
NoVoid n trace = NoneTold is_void n trace

site_none : (s : ℕ) (k : Causes) (x : Told) → SiteTold s k x → NotVoid x
site_none s k (Shown r) h = by_record r h
  where
    by_record : (r : Record) → SiteRecord s k r → is_void r ≡ false
    by_record says.Void h = absurd h
    by_record _ h = refl
site_none s k _ h = tt

sites_none : (s : ℕ) (k : Causes) (told : List Told) → Every (SiteTold s k) told → Every NotVoid told
sites_none s k [] h = tt
sites_none s k (x ∷ xs) h = (site_none s k x h.0, sites_none s k xs h.1)

served_none : (r : Record) → ServedRecord r → is_void r ≡ false
served_none says.Void h = absurd h
served_none _ h = refl

cut_none : (s : ℕ) (why : StopCause) (r : Record) (b : Bool) → is_void r ≡ false → Every NotVoid (cond b (Shown r ∷ Shown (says.Stopped s why) ∷ []) (Shown (says.Stopped s why) ∷ []))
cut_none s why r true h = (h, (refl, tt))
cut_none s why r false h = (refl, tt)

acts_none : (n s : ℕ) (k : Causes) (v : SiteView) (o : Outcome SiteView) (w : World) → Forms s v.boot k o → NoVoid n w.trace → NoVoid n (acts n s v o w).trace
acts_none n s k v o w h g =
    acts_cases (λ u. NoVoid n u.trace) n s v o w
    (happened_none is_void n o.sent o.told _ w (sites_none s k o.told h.told) g)
    (λ a. happened_none is_void n o.sent o.told _ w (sites_none s k o.told h.told) g)
    (λ d a e. happened_none is_void n [] _ _ w (cut_none s (cause_of a.how) d.says (is_on_disk v.store d a.how a.left) (served_none d.says (subst RoleWrite e h.written))) g)

-- ---- one line ----

module _ (c : Config) (earlier : List ScheduleLine) (k n : ℕ) (w : World) (p : Courses c earlier k w) (none : NoVoid n w.trace) where
  -- the line is void, or tells nothing of it
  abbrev Either : World → Type 0
  Either u = (u ≡ voids n w) ⊎ NoVoid n u.trace

  does_none : (s : ℕ) (e : Event) (v : SiteView) (u : World) → u.trace ≡ w.trace → place_at w s ≡ Some (Running v) → Comes e → NoVoid n (acts n s v (step c s (links_of u s) v e) u).trace
  does_none s e v u same here comes = acts_none n s (causes_of s (links_of u s) v e) v _ u
      (step_forms (DeedsOf w.trace s) s c (links_of u s) v e (p.good.views s v here) (p.course.places s (Running v) here).2 comes) (subst (NoVoid n) (sym same) none)

  happens_none : (s : ℕ) (e : Event) → Comes e → NoVoid n (happens c n s e w).trace
  happens_none s e comes = by_place (place_at w s) refl
    where
      by_place : (o : Option Place) → place_at w s ≡ o → NoVoid n (happens_at c n s e o w).trace
      by_place None q = none
      by_place (Some (Stopped d)) q = none
      by_place (Some (Running v)) q = does_none s e v w refl q comes

  arrives_none : (x : Numbered) → WasSent w x → NoVoid n (arrives c n x w).trace
  arrives_none x sent = by_place (place_at w x.packet.to) refl
    where
      by_place : (o : Option Place) → place_at w x.packet.to ≡ o → NoVoid n (arrives_at c n x.packet o (passed x.number w)).trace
      by_place None q = none
      by_place (Some (Stopped d)) q = none
      by_place (Some (Running v)) q = elim (is_dropped x.packet v) as (λ b. NoVoid n (elim b as (λ t. World) [ true ↦ passed x.number w | false ↦ happens c n x.packet.to (Receives x.packet) (passed x.number w) ]).trace) [
        | true ↦ none
        | false ↦ subst (λ (o : Option Place). NoVoid n (happens_at c n x.packet.to (Receives x.packet) o (passed x.number w)).trace) (sym q) (does_none x.packet.to (Receives x.packet) v (passed x.number w) refl q (sent_polls c earlier k w x sent p.course))
      ]

  unless : (b : Bool) (f : World → World) → NoVoid n (f w).trace → Either (unless_void n b f w)
  unless true f h = inl refl
  unless false f h = inr h

  delivers_so : (number : ℕ) → Either (delivers_line c n (packet_at w number) w)
  delivers_so number = by_packet (packet_at w number) refl
    where
      by_packet : (o : Option Numbered) → packet_at w number ≡ o → Either (delivers_line c n o w)
      by_packet None q = inl refl
      by_packet (Some x) q = unless (is_lost w x.number || not (can_come w x)) (arrives c n x) (arrives_none x (inl (row_among number_of number w.sent x q)))

  loses_so : (o : Option Numbered) → Either (loses_line n o w)
  loses_so None = inl refl
  loses_so (Some x) = unless (is_lost w x.number) (loses x.number) none

  stops_so : (s : ℕ) (o : Option Place) → Either (stops_line n s o w)
  stops_so s None = inl refl
  stops_so s (Some (Stopped d)) = inl refl
  stops_so s (Some (Running v)) = inr (happened_none is_void n [] _ _ w (refl, tt) none)

  boots_none : (s : ℕ) (b : Booted) → NoVoid n (boots_as n s b w).trace
  boots_none s (Whole d a) = happened_none is_void n [] _ _ w (refl, tt) none
  boots_none s (CutOff d how) = happened_none is_void n [] _ _ w (refl, tt) none

  boots_so : (s : ℕ) (o : Option Place) → Either (boots_line n s o w)
  boots_so s None = inl refl
  boots_so s (Some (Running v)) = inl refl
  boots_so s (Some (Stopped d)) = inr (boots_none s (boots (script_of w s) d))

  -- a line that may be void by what its world is
  abbrev MayBeVoid : LineWords → Type 0
  MayBeVoid (line.ArmStop site calls left) = ⊥
  MayBeVoid (line.ArmFail site calls) = ⊥
  MayBeVoid (line.Settle most) = ⊥
  MayBeVoid line.Pending = ⊥
  MayBeVoid _ = Unit {0}

  act_so : (l : LineWords) → MayBeVoid l → Either (act c n l w)
  act_so (line.Call s process words) h = unless (is_busy process (place_at w s)) (happens c n s (Calls process words)) (happens_none s (Calls process words) tt)
  act_so (line.Deliver number) h = delivers_so number
  act_so (line.Lose number) h = loses_so (packet_at w number)
  act_so (line.Tick s) h = unless (is_stopped (place_at w s)) (happens c n s Ticks) (happens_none s Ticks tt)
  act_so (line.Down a b) h = unless (is_cut w a b) (cuts_circuit a b) none
  act_so (line.Up a b) h = unless (not (is_cut w a b)) (mends_circuit a b) none
  act_so (line.Part s) h = unless (is_in_no_epoch (place_at w s)) (happens c n s Parts) (happens_none s Parts tt)
  act_so (line.Merge s) h = unless (is_stopped (place_at w s)) (happens c n s Merges) (happens_none s Merges tt)
  act_so (line.GiveUp s) h = unless (is_in_no_epoch (place_at w s)) (happens c n s GivesUp) (happens_none s GivesUp tt)
  act_so (line.Stop s) h = stops_so s (place_at w s)
  act_so (line.Boot s) h = boots_so s (place_at w s)
  act_so _ h = absurd h

  -- where its record comes, it is all that comes
  changes_nothing : list_any (tells_void n) (trace_of (voids n w)) ≡ true → ChangesNothing n w (voids n w)
  changes_nothing told = happened_cases (λ u. list_any (tells_void n) (trace_of u) ≡ true → ChangesNothing n w u) n [] (Shown says.Void ∷ []) (λ now. now) w
      (λ l e h. absurd (true_false (sym h ∙ none)))
      (λ l h. absurd (true_false (sym h ∙ none)))
      (λ a b t e h. record { told = refl; places = refl; armed = refl; circuits = refl; sent = refl; underway = append-nil w.underway; lost = refl }) told

  line_so : (u : World) → Either u → list_any (tells_void n) (trace_of u) ≡ true → ChangesNothing n w u
  line_so u (inl e) told = subst (ChangesNothing n w) (sym e) (changes_nothing (subst (λ (z : World). list_any (tells_void n) (trace_of z) ≡ true) e told))
  line_so u (inr h) told = absurd (true_false (sym told ∙ h))

-- ---- all lines ----

-- what is told of a void line, its row says
row_there : (lines : List ScheduleLine) (n : ℕ) (t : Trace) → EachRecord (IsVoidRow lines) t → list_any (tells_void n) t ≡ true → is_call (line_at lines n) ≡ false → (before : Trace) × IsVoidAsked lines n before
row_there lines n [] rows told plain = absurd (false_true told)
row_there lines n (r ∷ before) rows told plain = by_test (tells_void n r) refl told (row_there lines n before rows.1)
  where
    by_record : (what : Record) → is_void what ≡ true → IsVoidRow lines before (record { line = r.line; what = what }) → r.line ≡ n → IsVoidAsked lines n before
    by_record says.Void v row e = subst (λ (m : ℕ). (is_call (line_at lines m) ≡ false → IsVoidAsked lines m before) → IsVoidAsked lines n before) (sym e) (λ f. f plain) row
    by_record _ v row e = absurd (false_true v)

    by_test : (b : Bool) → tells_void n r ≡ b → (b || list_any (tells_void n) before) ≡ true → (list_any (tells_void n) before ≡ true → is_call (line_at lines n) ≡ false → (z : Trace) × IsVoidAsked lines n z) → (z : Trace) × IsVoidAsked lines n z
    by_test true q h old = (before, by_record r.what (and_first (is_void r.what) (r.line == n) q) rows.0 (equal r.line n (and_second (is_void r.what) (r.line == n) q)))
    by_test false q h old = old h plain

module _ (lines : List ScheduleLine) (fit : LinesFit (config_of lines) lines) (k : ℕ) (told : list_any (tells_void (suc k)) (trace_of (run lines)) ≡ true) where
  abbrev c : Config
  c = config_of lines

  -- a line that is never void
  never : (l : ScheduleLine) → line_at lines (suc k) ≡ l → is_call l ≡ false → ((before : Trace) → may_be_void (is_void_line lines before (suc k)) ≡ false) → ⊥
  never l is plain silent =
      let row : (before : Trace) × IsVoidAsked lines (suc k) before = row_there lines (suc k) (trace_of (run lines)) (run_voids (config_of lines) lines fit) told (ap is_call is ∙ plain) in
      true_false (sym row.1.silent ∙ silent row.0)

  last_told : list_any (tells_void (suc k)) (trace_of (world (config_of lines) lines (suc k))) ≡ true
  last_told = by_test (list_any (tells_void (suc k)) (trace_of (world (config_of lines) lines (suc k)))) refl
    where
      by_test : (b : Bool) → list_any (tells_void (suc k)) (trace_of (world (config_of lines) lines (suc k))) ≡ b → b ≡ true
      by_test true e = refl
      by_test false e = absurd (true_false (sym told ∙ none_later is_void (suc k) (trace_of (run lines)) (ap (list_any (tells_void (suc k))) (before_at (config_of lines) lines (suc k)) ∙ e)))

  fresh : NoVoid (suc k) (world (config_of lines) lines k).trace
  fresh = none_before is_void (suc k) (length (take k lines)) (world (config_of lines) lines k).trace (run_courses (config_of lines) (take k lines)).course.ascends (let h : length (take k lines) ≤ k = take_length k lines in omega (arith, h))

  single : (l : LineWords) → line_at lines (suc k) ≡ EventLine l → MayBeVoid (config_of lines) (take k lines) (length (take k lines)) (suc k) (world (config_of lines) lines k) (run_courses (config_of lines) (take k lines)) fresh l →
      ChangesNothing (suc k) (world (config_of lines) lines k) (world (config_of lines) lines (suc k))
  single l is h = subst (ChangesNothing (suc k) (world (config_of lines) lines k)) (sym last_is)
      (line_so (config_of lines) (take k lines) (length (take k lines)) (suc k) (world (config_of lines) lines k) (run_courses (config_of lines) (take k lines)) fresh (act (config_of lines) (suc k) l (world (config_of lines) lines k))
      (act_so (config_of lines) (take k lines) (length (take k lines)) (suc k) (world (config_of lines) lines k) (run_courses (config_of lines) (take k lines)) fresh l h) (subst (λ (z : World). list_any (tells_void (suc k)) (trace_of z) ≡ true) last_is last_told))
    where
      last_is : world (config_of lines) lines (suc k) ≡ act (config_of lines) (suc k) l (world (config_of lines) lines k)
      last_is = next_world (config_of lines) lines k ∙ ap (λ (x : ScheduleLine). acts_line (config_of lines) (suc k) x (world (config_of lines) lines k)) is

  by_line : (l : ScheduleLine) → line_at lines (suc k) ≡ l → ChangesNothing (suc k) (world (config_of lines) lines k) (world (config_of lines) lines (suc k))
  by_line Passed is = absurd (never Passed is refl (λ before. rw is refl))
  by_line (Header h) is = absurd (never (Header h) is refl (λ before. rw is refl))
  by_line (EventLine (line.ArmStop site calls left)) is = absurd (never _ is refl (λ before. rw is refl))
  by_line (EventLine (line.ArmFail site calls)) is = absurd (never _ is refl (λ before. rw is refl))
  by_line (EventLine (line.Settle most)) is = absurd (never _ is refl (λ before. rw is refl))
  by_line (EventLine line.Pending) is = absurd (never _ is refl (λ before. rw is refl))
  by_line (EventLine l) is = single l is tt

pub voids_change_nothing : (lines : List ScheduleLine) → AreInOrder lines → VoidLinesChangeNothing (config_of lines) lines
voids_change_nothing lines order zero told = absurd (true_false (sym told ∙ none_first is_void (length lines) (run lines).trace (run_courses (config_of lines) lines).course.ascends))
voids_change_nothing lines order (suc k) told = subst (λ (m : ℕ). ChangesNothing (suc k) (run_in (config_of lines) (take m lines)) (run_in (config_of lines) (take (suc k) lines))) {x = k} {y = suc k - 1} (omega arith) (by_line lines (schedule_fits lines order) k told (line_at lines (suc k)) refl)
