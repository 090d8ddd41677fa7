-- In every run whose lines fit the cluster, a line that tells that it is void is so, where it isn't a call.
use Rattle.schedule_lines.specs.Cluster.{config_of}
use Rattle.std.proofs.Common.{◌≡◌, ◌<◌, ℕ, ◌+◌, ◌-◌, Bool, true, false, cond, ◌||◌, not, List, [], ◌∷◌, length, take, map, Option, Some, None, refl, sym, ◌∙◌, ap, subst, arith}
use Rattle.std.specs.Option.{is_none, is_some}
use Rattle.role_steps.proofs.of_plain_facts.Tests.{false_true, true_false}
use Rattle.locus_ids.specs.declared.config.Config.{Config}
use Rattle.schedule_lines.specs.Ranges.{fits_event}
use Rattle.schedule_lines.specs.declared.line.Line.{Line as LineWords}
use Rattle.schedule_lines.specs.declared.line.Line.TheVariants as line
use Rattle.schedule_lines.specs.declared.line.ScheduleLine.{ScheduleLine}
use Rattle.schedule_lines.specs.declared.line.ScheduleLine.TheVariants.{Event as EventLine}
use Rattle.trace_book.specs.declared.record.Record.{Record}
use Rattle.trace_book.specs.declared.record.Record.TheVariants as says
use Rattle.trace_book.specs.declared.record.StopCause.{StopCause}
use Rattle.trace_book.specs.declared.record.StopCause.TheVariants as cause
use Rattle.wire_messages.specs.declared.packet.Packet.{Packet}
use Rattle.role_steps.specs.Own.{Every}
use Rattle.role_steps.specs.Views.{SiteView, Told, Shown, Outcome, Event, Receives, Ticks}
use Rattle.role_steps.specs.declared.rounds.InEpoch.{InEpoch}
use Rattle.role_steps.proofs.Sending.{every_map}
use Rattle.lawful_trace.specs.of_tree_model.Folds.{Trace, before_line}
use Rattle.lawful_trace.specs.of_tree_model.Epochs.{is_up, epoch_of}
use Rattle.site_laws.specs.of_the_run.Disks.{Booted, Whole, CutOff, boots, is_on_disk}
use Rattle.site_laws.specs.of_the_run.Steps.{epoch_id, step}
use Rattle.site_laws.specs.of_the_run.Worlds.{World, Place, Running, Stopped, Numbered, Line, place_at, is_cut, links_of, script_of, happened, told_onto, puts, arms, passed, stops_with, cause_of, acts, disk_of, first_world}
use Rattle.site_laws.specs.of_the_run.Runs.{is_stopped, is_in_no_epoch, boots_as, packet_record, run_in}
use Rattle.site_laws.specs.of_the_run.Kept.{Kept}
use Rattle.site_laws.proofs.of_the_run.Boots.{acts_cases}
use Rattle.site_laws.proofs.of_the_run.Events.{happened_keeps}
use Rattle.site_laws.specs.of_run_laws.Naming.{DeedsOf, Good}
use Rattle.lawful_trace.specs.Places.{line_at, lines_before}
use Rattle.lawful_trace.specs.Places as lawful
use Rattle.lawful_trace.specs.LineRows.{is_apart, has_no_effect, is_void_after, is_void_line, may_be_void, IsVoidAsked}
use Rattle.row_laws.specs.Shown.{with_told, shown, trace_of, EachRecord}
use Rattle.row_laws.specs.Inward.{RoleWrite}
use Rattle.row_laws.specs.Events.{Causes, SiteRecord, SiteTold, Forms, causes_of}
use Rattle.row_laws.specs.ByLine.{IsLine, begins_quietly, cannot_boot, IsVoidIn, Gives, ArmsAs, KeptIn}
use Rattle.row_laws.specs.Course.{StandsAs, InCourse}
use Rattle.row_laws.specs.Voids.{LinesFit, is_call, VoidRecord, IsVoidRow, HasPlaces, CircuitsAs, VoidsInCourse}
use Rattle.row_laws.proofs.Walks.{served_role}
use Rattle.row_laws.proofs.Forming.{role_told}
use Rattle.row_laws.proofs.StepForms.{step_forms}
use Rattle.row_laws.proofs.Tracing.{before_all}
use Rattle.row_laws.proofs.Causes.{epoch_here, comes_own, sent_polls}
use Rattle.row_laws.proofs.AskedRun.{Courses, courses_kept, first_courses, own_given}
use Rattle.row_laws.proofs.SitesPlaced.{first_has, places_kept}
use Rattle.row_laws.proofs.Circuits.{NoCircuit, still_cut, kept_cut, down_cut, up_cut, down_void, up_void}
use Rattle.row_laws.proofs.ByLine.{every_line}

-- ---- how a site of the cluster stands, by the world and by the trace ----

-- the same of a place that is there
stopped_down : (c : Config) (now : Trace) (s : ℕ) (o : Option Place) (p : Place) → o ≡ Some p → StandsAs c now s p → is_stopped o ≡ true → not (is_up c now s) ≡ true
stopped_down c now s o (Running v) e h k = absurd (false_true (sym (ap is_stopped e) ∙ k))
stopped_down c now s o (Stopped d) e h k = ap not h.0

no_boot_up : (c : Config) (now : Trace) (s : ℕ) (o : Option Place) (p : Place) → o ≡ Some p → StandsAs c now s p → cannot_boot o ≡ true → is_up c now s ≡ true
no_boot_up c now s o (Running v) e h k = h.0
no_boot_up c now s o (Stopped d) e h k = absurd (false_true (sym (ap cannot_boot e) ∙ k))

no_epoch : (o : Option InEpoch) → not (is_some o) ≡ true → is_none (epoch_id o) ≡ true
no_epoch None e = refl
no_epoch (Some x) e = absurd (false_true e)

apart_of : (c : Config) (now : Trace) (s : ℕ) (o : Option Place) (p : Place) → o ≡ Some p → StandsAs c now s p → ((v : SiteView) → p ≡ Running v → epoch_of now s ≡ epoch_id v.epoch) → is_in_no_epoch o ≡ true → is_apart c now s ≡ true
apart_of c now s o (Running v) e h epoch k = ap (λ (b : Bool). not b || is_none (epoch_of now s)) h.0 ∙ (ap is_none (epoch v refl) ∙ no_epoch v.epoch (sym (ap is_in_no_epoch e) ∙ k))
apart_of c now s o (Stopped d) e h epoch k = ap (λ (b : Bool). not b || is_none (epoch_of now s)) h.0

-- ---- a void line ----

-- by the line's words
pub void_says : (c : Config) (lines : List ScheduleLine) (n : ℕ) (l : LineWords) (w : World) → fits_event c.sites l ≡ true → is_call (EventLine l) ≡ false → IsVoidIn w l → Good w → InCourse c lines n w → HasPlaces c w → CircuitsAs lines n w → may_be_void (has_no_effect c (take n lines) (trace_of w) l) ≡ true
void_says c lines n (line.Call site process words) w fit none void good f has cuts = absurd (true_false none)
void_says c lines n (line.Deliver packet) w fit none void good f has cuts = refl
void_says c lines n (line.Lose packet) w fit none void good f has cuts = refl
void_says c lines n (line.Tick site) w fit none void good f has cuts = let r : (p : Place) × (place_at w site ≡ Some p) = has site fit in stopped_down c (trace_of w) site (place_at w site) r.0 r.1 (f.places site r.0 r.1) void
void_says c lines n (line.Down one other) w fit none void good f has cuts = sym (cuts one other) ∙ void
void_says c lines n (line.Up one other) w fit none void good f has cuts = ap not (sym (cuts one other)) ∙ void
void_says c lines n (line.Part site) w fit none void good f has cuts = let r : (p : Place) × (place_at w site ≡ Some p) = has site fit in apart_of c (trace_of w) site (place_at w site) r.0 r.1 (f.places site r.0 r.1) (λ v e. epoch_here c lines n site v w (r.1 ∙ ap Some e) good f) void
void_says c lines n (line.Merge site) w fit none void good f has cuts = let r : (p : Place) × (place_at w site ≡ Some p) = has site fit in stopped_down c (trace_of w) site (place_at w site) r.0 r.1 (f.places site r.0 r.1) void
void_says c lines n (line.GiveUp site) w fit none void good f has cuts = let r : (p : Place) × (place_at w site ≡ Some p) = has site fit in apart_of c (trace_of w) site (place_at w site) r.0 r.1 (f.places site r.0 r.1) (λ v e. epoch_here c lines n site v w (r.1 ∙ ap Some e) good f) void
void_says c lines n (line.Stop site) w fit none void good f has cuts = let r : (p : Place) × (place_at w site ≡ Some p) = has site fit in stopped_down c (trace_of w) site (place_at w site) r.0 r.1 (f.places site r.0 r.1) void
void_says c lines n (line.Boot site) w fit none void good f has cuts = let r : (p : Place) × (place_at w site ≡ Some p) = has site fit in no_boot_up c (trace_of w) site (place_at w site) r.0 r.1 (f.places site r.0 r.1) void
void_says c lines n (line.ArmStop site calls left) w fit none void good f has cuts = absurd void
void_says c lines n (line.ArmFail site calls) w fit none void good f has cuts = absurd void
void_says c lines n (line.Settle most) w fit none void good f has cuts = absurd void
void_says c lines n line.Pending w fit none void good f has cuts = absurd void

one_back : (n : ℕ) → n + 1 - 1 ≡ n
one_back n = omega arith

-- whether the line that begins is void, by the records so far
pub void_now : (c : Config) (lines : List ScheduleLine) (n : ℕ) (l : LineWords) (w : World) → IsLine lines (n + 1) l → InCourse c lines n w → is_void_line lines (trace_of w) (n + 1) ≡ has_no_effect (config_of lines) (take n lines) (trace_of w) l
void_now c lines n l w is f =
    ap (λ (x : ScheduleLine). is_void_after c (lines_before lines (n + 1)) (before_line (trace_of w) (n + 1)) x) is
    ∙ (ap (λ (t : Trace). has_no_effect c (lines_before lines (n + 1)) t l) (before_all n (n + 1) w.trace f.ascends (omega arith))
    ∙ ap (λ (k : ℕ). has_no_effect c (take k lines) (trace_of w) l) (one_back n))

void_row : (c : Config) (lines : List ScheduleLine) (n : ℕ) (l : LineWords) (w : World) → LinesFit c lines → IsLine lines (n + 1) l → IsVoidIn w l → Courses c lines n w → VoidsInCourse c lines n w → is_call (line_at lines (n + 1)) ≡ false → IsVoidAsked lines (n + 1) (trace_of w)
void_row c lines n l w fit is void p q none = record {
  silent = ap may_be_void (void_now c lines n l w is p.course) ∙ void_says c lines n l w (fit (n + 1) l is) (sym (ap is_call is) ∙ none) void p.good p.course q.places q.circuits;
}

-- ---- what tells of no void line ----

-- the record isn't Void
abbrev pub NoVoidRecord : Record → Type 0
NoVoidRecord says.Void = ⊥
NoVoidRecord _ = Unit {0}

abbrev pub NoVoid : Told → Type 0
NoVoid (Shown r) = NoVoidRecord r
NoVoid _ = Unit {0}

site_record : (s : ℕ) (k : Causes) (r : Record) → SiteRecord s k r → NoVoidRecord r
site_record s k says.Void h = absurd h
site_record s k _ h = tt

pub site_told : (s : ℕ) (k : Causes) (x : Told) → SiteTold s k x → NoVoid x
site_told s k (Shown r) h = site_record s k r h
site_told s k _ h = tt

pub site_all : (s : ℕ) (k : Causes) (told : List Told) → Every (SiteTold s k) told → Every NoVoid told
site_all s k [] h = tt
site_all s k (x ∷ xs) h = (site_told s k x h.0, site_all s k xs h.1)

record_void : (lines : List ScheduleLine) (m : ℕ) (r : Record) (now : Trace) → NoVoidRecord r → VoidRecord lines m now r
record_void lines m says.Void now h = absurd h
record_void lines m _ now h = tt

told_void : (lines : List ScheduleLine) (m : ℕ) (x : Told) (now : Trace) → NoVoid x → EachRecord (IsVoidRow lines) now → EachRecord (IsVoidRow lines) (with_told m x now)
told_void lines m (Shown r) now h g = (record_void lines m r now h, g)
told_void lines m _ now h g = g

onto_void : (lines : List ScheduleLine) (m : ℕ) (told : List Told) (trace : List Line) → Every NoVoid told → EachRecord (IsVoidRow lines) (shown trace) → EachRecord (IsVoidRow lines) (shown (told_onto m told trace))
onto_void lines m [] trace h g = g
onto_void lines m (x ∷ xs) trace h g = onto_void lines m xs (record { number = m; told = x } ∷ trace) h.1 (told_void lines m x (shown trace) h.0 g)

-- ---- events ----

-- an event that tells of no void line, and leaves the circuits
record Quiet (lines : List ScheduleLine) (n : ℕ) (w : World) : Type 0 where
  circuits : CircuitsAs lines n w
  rows : EachRecord (IsVoidRow lines) (trace_of w)

happened_quiet : (lines : List ScheduleLine) (m : ℕ) (ps : List Packet) (told : List Told) (change : World → World) (w : World) → (change w).circuits ≡ w.circuits → Every NoVoid told → Quiet lines m w → Quiet lines m (happened m ps told change w)
happened_quiet lines m ps told change w same h q =
    happened_keeps (Quiet lines m) m ps told change w q
    (λ l. record { circuits = q.circuits; rows = q.rows })
    (λ k b t. record { circuits = λ a b. cuts_same (change w).circuits same a b; rows = onto_void lines m told w.trace h q.rows })
  where
    cuts_same : (xs : List _) → xs ≡ w.circuits → (a b : ℕ) → is_cut (record w { circuits = xs }) a b ≡ lawful.is_cut (take m lines) a b
    cuts_same xs e a b = ap (λ (ys : List _). is_cut (record w { circuits = ys }) a b) e ∙ q.circuits a b

cut_quiet : (lines : List ScheduleLine) (m s : ℕ) (k : Causes) (r : Record) (why : StopCause) (b : Bool) (change : World → World) (w : World) → (change w).circuits ≡ w.circuits → SiteTold s k (Shown r) → Quiet lines m w →
    Quiet lines m (happened m [] (cond b (Shown r ∷ Shown (says.Stopped s why) ∷ []) (Shown (says.Stopped s why) ∷ [])) change w)
cut_quiet lines m s k r why true change w same h q = happened_quiet lines m [] (Shown r ∷ Shown (says.Stopped s why) ∷ []) change w same (site_told s k (Shown r) h, (tt, tt)) q
cut_quiet lines m s k r why false change w same h q = happened_quiet lines m [] (Shown (says.Stopped s why) ∷ []) change w same (tt, tt) q

acts_quiet : (lines : List ScheduleLine) (m s : ℕ) (k : Causes) (v : SiteView) (o : Outcome SiteView) (w : World) → Forms s v.boot k o → Quiet lines m w → Quiet lines m (acts m s v o w)
acts_quiet lines m s k v o w h q =
    acts_cases (Quiet lines m) m s v o w
    (happened_quiet lines m o.sent o.told (λ now. puts s (Running o.view) now) w refl (site_all s k o.told h.told) q)
    (λ a. happened_quiet lines m o.sent o.told (λ now. puts s (Running o.view) (arms a now)) w refl (site_all s k o.told h.told) q)
    (λ d a e. cut_quiet lines m s k d.says (cause_of a.how) (is_on_disk v.store d a.how a.left) (stops_with s _) w refl (role_told s k (Shown d.says) (served_role d.says (subst RoleWrite e h.written))) q)

boots_quiet : (lines : List ScheduleLine) (m s : ℕ) (b : Booted) (w : World) → Quiet lines m w → Quiet lines m (boots_as m s b w)
boots_quiet lines m s (Whole d None) w q = happened_quiet lines m [] _ _ w refl (tt, tt) q
boots_quiet lines m s (Whole d (Some a)) w q = happened_quiet lines m [] _ _ w refl (tt, tt) q
boots_quiet lines m s (CutOff d how) w q = happened_quiet lines m [] _ (stops_with s d) w refl (tt, tt) q

-- ---- every event and change ----

pub record Voids (c : Config) (lines : List ScheduleLine) (n : ℕ) (w : World) : Type 0 where
  pub courses : Courses c lines n w
  pub voids : VoidsInCourse c lines n w

quiet_of : (c : Config) (lines : List ScheduleLine) (n : ℕ) (w : World) → VoidsInCourse c lines n w → Quiet lines n w
quiet_of c lines n w q = record { circuits = q.circuits; rows = q.rows }

with_quiet : (c : Config) (lines : List ScheduleLine) (n : ℕ) (w : World) → HasPlaces c w → Quiet lines n w → VoidsInCourse c lines n w
with_quiet c lines n w h q = record { places = h; circuits = q.circuits; rows = q.rows }

-- a line begins that changes no circuit
next_quiet : (c : Config) (lines : List ScheduleLine) (n : ℕ) (w : World) → n < length lines → NoCircuit (line_at lines (n + 1)) → VoidsInCourse c lines n w → Quiet lines (n + 1) w
next_quiet c lines n w there none q = record { circuits = still_cut lines n w there none q.circuits; rows = q.rows }

begins_none : (l : ScheduleLine) → begins_quietly l ≡ true → NoCircuit l
begins_none (EventLine (line.Down one other)) e = absurd (false_true e)
begins_none (EventLine (line.Up one other)) e = absurd (false_true e)
begins_none _ e = tt

gives_none : (w : World) (l : LineWords) (s : ℕ) (e : Event) → Gives w l s e → NoCircuit (EventLine l)
gives_none w (line.Down one other) s e g = absurd g
gives_none w (line.Up one other) s e g = absurd g
gives_none w _ s e g = tt

arms_none : (l : LineWords) (a : _) → ArmsAs l a → NoCircuit (EventLine l)
arms_none (line.Down one other) a g = absurd g
arms_none (line.Up one other) a g = absurd g
arms_none _ a g = tt

-- a void line changes none either
void_cuts : (lines : List ScheduleLine) (n : ℕ) (l : LineWords) (w : World) → n < length lines → IsLine lines (n + 1) l → IsVoidIn w l → CircuitsAs lines n w → CircuitsAs lines (n + 1) w
void_cuts lines n (line.Down one other) w there is void h = kept_cut lines n w there (λ a b. ap (λ (l : ScheduleLine). lawful.cut_after l a b (is_cut w a b)) is ∙ down_void one other a b w void) h
void_cuts lines n (line.Up one other) w there is void h = kept_cut lines n w there (λ a b. ap (λ (l : ScheduleLine). lawful.cut_after l a b (is_cut w a b)) is ∙ up_void one other a b w void) h
void_cuts lines n (line.Call site process words) w there is void h = still_cut lines n w there (subst NoCircuit (sym is) tt) h
void_cuts lines n (line.Deliver packet) w there is void h = still_cut lines n w there (subst NoCircuit (sym is) tt) h
void_cuts lines n (line.Lose packet) w there is void h = still_cut lines n w there (subst NoCircuit (sym is) tt) h
void_cuts lines n (line.Tick site) w there is void h = still_cut lines n w there (subst NoCircuit (sym is) tt) h
void_cuts lines n (line.Part site) w there is void h = still_cut lines n w there (subst NoCircuit (sym is) tt) h
void_cuts lines n (line.Merge site) w there is void h = still_cut lines n w there (subst NoCircuit (sym is) tt) h
void_cuts lines n (line.GiveUp site) w there is void h = still_cut lines n w there (subst NoCircuit (sym is) tt) h
void_cuts lines n (line.Stop site) w there is void h = still_cut lines n w there (subst NoCircuit (sym is) tt) h
void_cuts lines n (line.ArmStop site calls left) w there is void h = absurd void
void_cuts lines n (line.ArmFail site calls) w there is void h = absurd void
void_cuts lines n (line.Boot site) w there is void h = still_cut lines n w there (subst NoCircuit (sym is) tt) h
void_cuts lines n (line.Settle most) w there is void h = absurd void
void_cuts lines n line.Pending w there is void h = absurd void

voided : (c : Config) (lines : List ScheduleLine) (n : ℕ) (l : LineWords) (w : World) → LinesFit c lines → n < length lines → IsLine lines (n + 1) l → IsVoidIn w l → Voids c lines n w → Quiet lines (n + 1) (happened (n + 1) [] (Shown says.Void ∷ []) (λ now. now) w)
voided c lines n l w fit there is void p =
    happened_keeps (Quiet lines (n + 1)) (n + 1) [] (Shown says.Void ∷ []) (λ now. now) w (record { circuits = cuts; rows = p.voids.rows })
    (λ x. record { circuits = cuts; rows = p.voids.rows })
    (λ k b t. record { circuits = cuts; rows = (void_row c lines n l w fit is void p.courses p.voids, p.voids.rows) })
  where
    cuts : CircuitsAs lines (n + 1) w
    cuts = void_cuts lines n l w there is void p.voids.circuits

pub voids_kept : (c : Config) (lines : List ScheduleLine) → LinesFit c lines → KeptIn c lines (Voids c lines)
voids_kept c lines fit = record {
  begins = λ n w there quiet p. record { courses = kept.begins n w there quiet p.courses; voids = with_quiet c lines (n + 1) w p.voids.places (next_quiet c lines n w there (begins_none (line_at lines (n + 1)) quiet) p.voids) };
  ticks = λ n most s v w is here p. record {
    courses = kept.ticks n most s v w is here p.courses;
    voids = with_quiet c lines n _ (has.steps n s Ticks v w here tt p.voids.places) (acts_quiet lines n s (causes_of s (links_of w s) v Ticks) v (step c s (links_of w s) v Ticks) w (step_forms (DeedsOf w.trace s) s c (links_of w s) v Ticks (p.courses.good.views s v here) (p.courses.course.places s (Running v) here).2 tt) (quiet_of c lines n w p.voids));
  };
  receives = λ n l x v w is d here sent p. record {
    courses = kept.receives n l x v w is d here sent p.courses;
    voids = with_quiet c lines n _ (has.receives n x v w here sent p.voids.places) (acts_quiet lines n x.packet.to (causes_of x.packet.to (links_of w x.packet.to) v (Receives x.packet)) v (step c x.packet.to (links_of (passed x.number w) x.packet.to) v (Receives x.packet)) (passed x.number w)
        (step_forms (DeedsOf w.trace x.packet.to) x.packet.to c (links_of (passed x.number w) x.packet.to) v (Receives x.packet) (p.courses.good.views x.packet.to v here) (p.courses.course.places x.packet.to (Running v) here).2 (sent_polls c lines n w x sent p.courses.course)) (record { circuits = p.voids.circuits; rows = p.voids.rows }));
  };
  passes = λ n k w p. record { courses = kept.passes n k w p.courses; voids = record { places = p.voids.places; circuits = p.voids.circuits; rows = p.voids.rows } };
  drops = λ n k w p. record { courses = kept.drops n k w p.courses; voids = record { places = p.voids.places; circuits = p.voids.circuits; rows = p.voids.rows } };
  budgets = λ n most w is p. record { courses = kept.budgets n most w is p.courses; voids = with_quiet c lines n _ (has.budgets n w p.voids.places) (happened_quiet lines n [] (Shown says.Budget ∷ []) (λ now. now) w refl (tt, tt) (quiet_of c lines n w p.voids)) };
  voiding = λ n l w there is void p. record { courses = kept.voiding n l w there is void p.courses; voids = with_quiet c lines (n + 1) _ (has.voiding (n + 1) w p.voids.places) (voided c lines n l w fit there is void p) };
  steps = λ n s l e v w there is g here p. record {
    courses = kept.steps n s l e v w there is g here p.courses;
    voids = with_quiet c lines (n + 1) _ (has.steps (n + 1) s e v w here (own_given w l s e g) p.voids.places)
        (acts_quiet lines (n + 1) s (causes_of s (links_of w s) v e) v (step c s (links_of w s) v e) w (step_forms (DeedsOf w.trace s) s c (links_of w s) v e (p.courses.good.views s v here) (p.courses.course.places s (Running v) here).2 (comes_own e (own_given w l s e g))) (next_quiet c lines n w there (subst NoCircuit (sym is) (gives_none w l s e g)) p.voids));
  };
  cutting = λ n one other w there is cut p. record { courses = kept.cutting n one other w there is cut p.courses; voids = record { places = p.voids.places; circuits = down_cut lines n one other w there is p.voids.circuits; rows = p.voids.rows } };
  mending = λ n one other w there is cut p. record { courses = kept.mending n one other w there is cut p.courses; voids = record { places = p.voids.places; circuits = up_cut lines n one other w there is p.voids.circuits; rows = p.voids.rows } };
  arming = λ n l a w there is so p. record { courses = kept.arming n l a w there is so p.courses; voids = record { places = p.voids.places; circuits = still_cut lines n w there (subst NoCircuit (sym is) (arms_none l a so)) p.voids.circuits; rows = p.voids.rows } };
  pending = λ n w there is p. record { courses = kept.pending n w there is p.courses; voids = with_quiet c lines (n + 1) _ (has.pending (n + 1) w p.voids.places) (happened_quiet lines (n + 1) [] (map packet_record w.underway) (λ now. now) w refl (every_map NoVoid packet_record w.underway (λ (x : Numbered). tt)) (next_quiet c lines n w there (subst NoCircuit (sym is) tt) p.voids)) };
  stopping = λ n s v w there is here p. record { courses = kept.stopping n s v w there is here p.courses; voids = with_quiet c lines (n + 1) _ (has.stopping (n + 1) s v w here p.voids.places) (happened_quiet lines (n + 1) [] (Shown (says.Stopped s cause.Asked) ∷ []) (stops_with s (disk_of v)) w refl (tt, tt) (next_quiet c lines n w there (subst NoCircuit (sym is) tt) p.voids)) };
  booting = λ n s d w there is here p. record { courses = kept.booting n s d w there is here p.courses; voids = with_quiet c lines (n + 1) _ (has.booting (n + 1) s d w here p.voids.places) (boots_quiet lines (n + 1) s (boots (script_of w s) d) w (next_quiet c lines n w there (subst NoCircuit (sym is) tt) p.voids)) };
}
  where
    kept : KeptIn c lines (Courses c lines)
    kept = courses_kept c lines

    has : Kept c (HasPlaces c)
    has = places_kept c

pub first_voids : (c : Config) (lines : List ScheduleLine) → Voids c lines 0 (first_world c)
first_voids c lines = record { courses = first_courses c lines; voids = record { places = first_has c; circuits = λ a b. refl; rows = tt } }

pub run_voids : (c : Config) (lines : List ScheduleLine) → LinesFit c lines → EachRecord (IsVoidRow lines) (trace_of (run_in c lines))
run_voids c lines fit = let p : Voids c lines (length lines) (run_in c lines) = every_line c lines (Voids c lines) (voids_kept c lines fit) (first_voids c lines) in p.voids.rows
