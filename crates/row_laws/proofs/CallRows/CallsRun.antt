-- In every run whose lines fit their cluster each call that is accepted comes as it may.
use Rattle.std.proofs.Common.{◌≡◌, ◌≢◌, ◌≤◌, ℕ, ◌+◌, ◌==◌, ◌⊎◌, Bool, true, false, cond, ◌||◌, ◌&&◌, List, [], ◌∷◌, length, map, Some, None, refl, sym, ◌∙◌, ap, subst, inl, inr, arith}
use Rattle.std.proofs.lemmas.Bool.Decides.{nat_tests}
use Rattle.std.specs.List.{list_any}
use Rattle.role_steps.proofs.of_plain_facts.Numbers.{equal_test}
use Rattle.role_steps.proofs.of_plain_facts.Options.{some_same}
use Rattle.locus_ids.specs.declared.config.Config.{Config}
use Rattle.schedule_lines.specs.Ranges.{is_site, is_between, fits_call, fits_event}
use Rattle.schedule_lines.specs.declared.line.Line.{Line as LineWords}
use Rattle.schedule_lines.specs.declared.line.Line.TheVariants as line
use Rattle.schedule_lines.specs.declared.line.ScheduleLine.{ScheduleLine}
use Rattle.trace_book.specs.declared.call.Call.{Call}
use Rattle.trace_book.specs.declared.call.Call.TheVariants as call
use Rattle.trace_book.specs.declared.record.Record.{Record}
use Rattle.trace_book.specs.declared.record.Record.TheVariants as says
use Rattle.trace_book.specs.declared.record.StopCause.{StopCause}
use Rattle.trace_book.specs.declared.record.StopCause.TheVariants as cause
use Rattle.wire_messages.specs.declared.packet.Packet.{Packet}
use Rattle.role_steps.specs.Own.{Every}
use Rattle.role_steps.specs.Views.{SiteView, Told, Shown, Outcome, Event, Calls, Receives, Ticks, Parts, Merges, GivesUp}
use Rattle.role_steps.specs.declared.users.WaitingCall.{WaitingCall}
use Rattle.tree_model.specs.Folds.{Trace}
use Rattle.the_run.specs.Disks.{Disk, Booted, Whole, CutOff, Cut, boots, cut_disk, is_on_disk}
use Rattle.the_run.specs.Kept.{Among}
use Rattle.the_run.specs.Steps.{epoch_id, step}
use Rattle.the_run.specs.Worlds.{World, Place, Running, Stopped, Numbered, Line, links_of, place_at, script_of, happened, told_onto, disk_of, puts, arms, passed, stops_with, cause_of, cut_told, acts, fresh, formatted, first_world}
use Rattle.the_run.specs.Runs.{is_busy, boots_as, packet_record, run_in}
use Rattle.the_run.proofs.Boots.{at_each, acts_cases}
use Rattle.the_run.proofs.Events.{happened_keeps, puts_other, puts_same}
use Rattle.run_laws.specs.Naming.{DeedsOf}
use Rattle.row_laws.specs.Inward.{RoleWrite, ServedRecord}
use Rattle.row_laws.specs.Shown.{with_told, shown, trace_of, EachRecord}
use Rattle.row_laws.specs.Rows.{SiteRecordRow, IsSiteRow}
use Rattle.row_laws.specs.ByLine.{IsLine, Gives, KeptIn}
use Rattle.row_laws.specs.Voids.{LinesFit}
use Rattle.row_laws.proofs.ByLine.{every_line}
use Rattle.row_laws.proofs.StepForms.{step_forms}
use Rattle.row_laws.proofs.AskedRun.{own_given, Courses, courses_kept, first_courses}
use Rattle.row_laws.proofs.Causes.{comes_own, sent_polls}
use Rattle.row_laws.proofs.SitesGoOn.{run_sites}
use Rattle.run_laws.proofs.Walks.FirstWorld.{first_places}
use Rattle.row_laws.specs.CallRows.Accepting.{IsAcceptRow}
use Rattle.row_laws.specs.CallRows.Waiting.{after, AcceptTold, AllAccepted, OfSite, NoneWaits, CallFree}
use Rattle.row_laws.specs.CallRows.Standing.{Stands, NewTold, AllNew, SiteDone, SiteDoes, PlaceStands, CallsStand}
use Rattle.row_laws.proofs.CallRows.Keeping.{all_other, all_none, all_free_none, stop_none, stop_other, stop_other_none, boot_waits, boot_other, boot_other_none}
use Rattle.row_laws.proofs.CallRows.CallSteps.{IsPlain}
use Rattle.row_laws.proofs.CallRows.Sites.{after_owned, after_inside, served_free, free_rows, all_free_own, free_stands}
use Rattle.row_laws.proofs.CallRows.StepStands.{MayCall, step_does}

-- ---- the records of an event ----

pub after_shown : (m : ℕ) (told : List Told) (trace : List Line) → shown (told_onto m told trace) ≡ after m told (shown trace)
after_shown m [] trace = refl
after_shown m (x ∷ xs) trace = after_shown m xs (record { number = m; told = x } ∷ trace)

told_rows : (c : Config) (m : ℕ) (x : Told) (t : Trace) → AcceptTold c t x → EachRecord (IsAcceptRow c) t → EachRecord (IsAcceptRow c) (with_told m x t)
told_rows c m (Shown r) t h g = (h, g)
told_rows c m _ t h g = g

rows_after : (c : Config) (m : ℕ) (told : List Told) (t : Trace) → AllAccepted c m told t → EachRecord (IsAcceptRow c) t → EachRecord (IsAcceptRow c) (after m told t)
rows_after c m [] t h g = g
rows_after c m (x ∷ xs) t h g = rows_after c m xs (with_told m x t) h.1 (told_rows c m x t h.0 g)

told_before : (c : Config) (m : ℕ) (x : Told) (t : Trace) → EachRecord (IsSiteRow c) (with_told m x t) → EachRecord (IsSiteRow c) t
told_before c m (Shown r) t h = h.1
told_before c m _ t h = h

pub each_before : (c : Config) (m : ℕ) (told : List Told) (t : Trace) → EachRecord (IsSiteRow c) (after m told t) → EachRecord (IsSiteRow c) t
each_before c m [] t h = h
each_before c m (x ∷ xs) t h = told_before c m x t (each_before c m xs (with_told m x t) h)

record_new : (c : Config) (r : Record) (t : Trace) → SiteRecordRow c t r → NewTold t (Shown r)
record_new c (says.Join s id members) t h = h.new
record_new c _ t h = tt

told_new : (c : Config) (m : ℕ) (x : Told) (t : Trace) → EachRecord (IsSiteRow c) (with_told m x t) → NewTold t x
told_new c m (Shown r) t h = record_new c r t h.0
told_new c m _ t h = tt

all_new : (c : Config) (m : ℕ) (told : List Told) (t : Trace) → EachRecord (IsSiteRow c) (after m told t) → AllNew m told t
all_new c m [] t h = tt
all_new c m (x ∷ xs) t h = (told_new c m x t (each_before c m xs (with_told m x t) h), all_new c m xs (with_told m x t) h)

-- ---- one event ----

-- where sites go on as they may, calls stand as the records say
abbrev pub CallsGo : Config → World → Type 0
CallsGo c w = EachRecord (IsSiteRow c) (trace_of w) → CallsStand c w

-- what an event makes of the calls
record Comes (c : Config) (m : ℕ) (told : List Told) (change : World → World) (w : World) : Type 0 where
  rows : AllAccepted c m told (trace_of w)
  places : (t : ℕ) (p : Place) → place_at (change w) t ≡ Some p → PlaceStands c t (after m told (trace_of w)) p

happened_go : (c : Config) (m : ℕ) (ps : List Packet) (told : List Told) (change : World → World) (w : World) → (EachRecord (IsSiteRow c) (after m told (trace_of w)) → CallsStand c w → Comes c m told change w) → CallsGo c w → CallsGo c (happened m ps told change w)
happened_go c m ps told change w comes f =
    happened_keeps (CallsGo c) m ps told change w f
    (λ l order. (let g : CallsStand c w = f order in record { rows = g.rows; places = g.places }))
    (λ k b t order.
    let now : EachRecord (IsSiteRow c) (after m told (trace_of w)) = subst (EachRecord (IsSiteRow c)) same order in
    let g : CallsStand c w = f (each_before c m told (trace_of w) now) in
    let r : Comes c m told change w = comes now g in
    record {
      rows = subst (EachRecord (IsAcceptRow c)) (sym same) (rows_after c m told (trace_of w) r.rows g.rows);
      places = λ s p here. subst (λ (u : Trace). PlaceStands c s u p) (sym same) (r.places s p here);
    })
  where
    same : shown (told_onto m told w.trace) ≡ after m told (trace_of w)
    same = after_shown m told w.trace

-- one place is changed
one_place : (c : Config) (s : ℕ) (new : Place) (now : Trace) (w : World) → PlaceStands c s now new → ((t : ℕ) (p : Place) → s ≢ t → place_at w t ≡ Some p → PlaceStands c t now p) → (t : ℕ) (p : Place) → place_at (puts s new w) t ≡ Some p → PlaceStands c t now p
one_place c s new now w mine others t p here = at_each s t (PlaceStands c t now p)
    (λ e. subst (λ (u : ℕ). PlaceStands c u now p) e (subst (PlaceStands c s now) (some_same new p (sym (puts_same s new w) ∙ (ap (place_at (puts s new w)) e ∙ here))) mine))
    (λ ne. others t p ne (sym (puts_other s t new w ne) ∙ here))

-- ---- other sites ----

other_stands : (c : Config) (s t m : ℕ) (told : List Told) (now : Trace) (p : Place) → s ≢ t → Every (OfSite s) told → PlaceStands c t now p → PlaceStands c t (after m told now) p
other_stands c s t m told now (Running v) ne own h = record { waits = all_other c s t v.boot m v.users.calls told now v.users.waiting ne own h.waits; owned = after_owned t m told now (epoch_id v.epoch) v.users h.owned; tables = h.tables; inside = after_inside t m told now v.epoch h.inside }
other_stands c s t m told now (Stopped d) ne own h = all_none s t m told now ne own h

stop_stands : (c : Config) (s t m : ℕ) (why : StopCause) (now : Trace) (p : Place) → s ≢ t → PlaceStands c t now p → PlaceStands c t (record { line = m; what = says.Stopped s why } ∷ now) p
stop_stands c s t m why now (Running v) ne h = record { waits = stop_other c s t v.boot m v.users.calls why now v.users.waiting ne h.waits; owned = after_owned t m (Shown (says.Stopped s why) ∷ []) now (epoch_id v.epoch) v.users h.owned; tables = h.tables; inside = after_inside t m (Shown (says.Stopped s why) ∷ []) now v.epoch h.inside }
stop_stands c s t m why now (Stopped d) ne h = stop_other_none s t m why now h

boot_stands : (c : Config) (s t boot m : ℕ) (now : Trace) (p : Place) → s ≢ t → PlaceStands c t now p → PlaceStands c t (record { line = m; what = says.Up s boot } ∷ now) p
boot_stands c s t boot m now (Running v) ne h = record { waits = boot_other c s t v.boot boot m v.users.calls now v.users.waiting ne h.waits; owned = after_owned t m (Shown (says.Up s boot) ∷ []) now (epoch_id v.epoch) v.users h.owned; tables = h.tables; inside = after_inside t m (Shown (says.Up s boot) ∷ []) now v.epoch h.inside }
boot_stands c s t boot m now (Stopped d) ne h = boot_other_none s t boot m now h

-- ---- stops ----

stop_comes : (c : Config) (s m : ℕ) (why : StopCause) (d : Disk) (w : World) → CallsStand c w → Comes c m (Shown (says.Stopped s why) ∷ []) (stops_with s d) w
stop_comes c s m why d w g = record {
  rows = (tt, tt);
  places = one_place c s (Stopped d) (record { line = m; what = says.Stopped s why } ∷ trace_of w) w (stop_none s m why (trace_of w)) (λ t p ne here. stop_stands c s t m why (trace_of w) p ne (g.places t p here));
}

cut_comes : (c : Config) (s m : ℕ) (r : Record) (how : Cut) (d : Disk) (b : Bool) (w : World) → ServedRecord r → CallsStand c w → Comes c m (cond b (Shown r ∷ Shown (says.Stopped s (cause_of how)) ∷ []) (Shown (says.Stopped s (cause_of how)) ∷ [])) (stops_with s d) w
cut_comes c s m r how d false w served g = stop_comes c s m (cause_of how) d w g
cut_comes c s m r how d true w served g =
    let free : CallFree (Shown r) = served_free (Shown r) served in
    let first : Trace = record { line = m; what = r } ∷ trace_of w in
    record {
      rows = ((free_rows c m (Shown r ∷ []) (trace_of w) (free, tt)).0, (tt, tt));
      places = one_place c s (Stopped d) (record { line = m; what = says.Stopped s (cause_of how) } ∷ first) w (stop_none s m (cause_of how) first)
          (λ t p ne here. stop_stands c s t m (cause_of how) first p ne (other_stands c s t m (Shown r ∷ []) (trace_of w) p ne (all_free_own s (Shown r ∷ []) (free, tt)) (g.places t p here)));
    }

-- ---- an event of a running site ----

run_comes : (c : Config) (s m : ℕ) (v : SiteView) (o : Outcome SiteView) (change : World → World) (w : World) → place_at w s ≡ Some (Running v) → ((t : ℕ) (p : Place) → place_at (change w) t ≡ Some p → place_at w t ≡ Some p) → (Stands c s (trace_of w) v → SiteDoes c s m (trace_of w) o) →
    EachRecord (IsSiteRow c) (after m o.told (trace_of w)) → CallsStand c w → Comes c m o.told (λ now. puts s (Running o.view) (change now)) w
run_comes c s m v o change w here same does order g =
    let d : SiteDone c s m (trace_of w) o = does (g.places s (Running v) here) (all_new c m o.told (trace_of w) order) in
    record {
      rows = d.rows;
      places = one_place c s (Running o.view) (after m o.told (trace_of w)) (change w) d.view (λ t p ne e. other_stands c s t m o.told (trace_of w) p ne d.own (g.places t p (same t p e)));
    }

acts_go : (c : Config) (m s : ℕ) (v : SiteView) (o : Outcome SiteView) (w : World) → place_at w s ≡ Some (Running v) → RoleWrite o.written → (Stands c s (trace_of w) v → SiteDoes c s m (trace_of w) o) → CallsGo c w → CallsGo c (acts m s v o w)
acts_go c m s v o w here written does f =
    acts_cases (CallsGo c) m s v o w
    (happened_go c m o.sent o.told (λ now. puts s (Running o.view) now) w (run_comes c s m v o (λ now. now) w here (λ t p e. e) does) f)
    (λ a. happened_go c m o.sent o.told (λ now. puts s (Running o.view) (arms a now)) w (run_comes c s m v o (arms a) w here (λ t p e. e) does) f)
    (λ d a e. happened_go c m [] (cut_told s v.store d a.how a.left) (stops_with s (cut_disk v.boot v.store d a.how a.left)) w (λ order g. cut_comes c s m d.says a.how (cut_disk v.boot v.store d a.how a.left) (is_on_disk v.store d a.how a.left) w (subst RoleWrite e written) g) f)

-- ---- boots ----

fresh_stands : (c : Config) (s m : ℕ) (x : Disk) (now : Trace) → NoneWaits s now → Stands c s (record { line = m; what = says.Up s x.label.boot } ∷ now) (fresh x.label.boot x.copies)
fresh_stands c s m x now none = record {
  waits = boot_waits c s x.label.boot m now none;
  owned = record {
    waiting = tt;
    descriptors = tt;
    held_low = λ w n a. absurd a;
    one_call = λ w y n a. absurd a;
    low = λ d a. absurd a;
    no_call = λ d w a. absurd a;
    one_descriptor = λ d e a. absurd a;
    there = λ d a. absurd a;
    asked_there = λ w a. absurd a;
    epochs = λ d a. absurd a;
  };
  tables = tt;
  inside = tt;
}

up_comes : (c : Config) (s m : ℕ) (d x : Disk) (change : World → World) (w : World) → place_at w s ≡ Some (Stopped d) → ((t : ℕ) → place_at (change w) t ≡ place_at (puts s (Running (fresh x.label.boot x.copies)) w) t) → CallsStand c w → Comes c m (Shown (says.Up s x.label.boot) ∷ []) change w
up_comes c s m d x change w here same g = record {
  rows = (tt, tt);
  places = λ t p e. one_place c s (Running (fresh x.label.boot x.copies)) (record { line = m; what = says.Up s x.label.boot } ∷ trace_of w) w (fresh_stands c s m x (trace_of w) (g.places s (Stopped d) here))
      (λ u q ne f. boot_stands c s u x.label.boot m (trace_of w) q ne (g.places u q f)) t p (sym (same t) ∙ e);
}

as_go : (c : Config) (m s : ℕ) (d : Disk) (b : Booted) (w : World) → place_at w s ≡ Some (Stopped d) → CallsGo c w → CallsGo c (boots_as m s b w)
as_go c m s d (Whole x None) w here f = happened_go c m [] (Shown (says.Up s x.label.boot) ∷ []) _ w (λ order g. up_comes c s m d x _ w here (λ t. refl) g) f
as_go c m s d (Whole x (Some a)) w here f = happened_go c m [] (Shown (says.Up s x.label.boot) ∷ []) _ w (λ order g. up_comes c s m d x _ w here (λ t. refl) g) f
as_go c m s d (CutOff x how) w here f = happened_go c m [] (Shown (says.Stopped s (cause_of how)) ∷ []) (stops_with s x) w (λ order g. stop_comes c s m (cause_of how) x w g) f

-- ---- what the world itself tells ----

world_go : (c : Config) (m : ℕ) (told : List Told) (w : World) → ((t : Trace) → AllAccepted c m told t) → ((s t : ℕ) (now : Trace) (p : Place) → PlaceStands c t now p → PlaceStands c t (after m told now) p) → CallsGo c w → CallsGo c (happened m [] told (λ now. now) w)
world_go c m told w rows stays f = happened_go c m [] told (λ now. now) w (λ order g. record { rows = rows (trace_of w); places = λ t p here. stays 0 t (trace_of w) p (g.places t p here) }) f

-- what tells of no call, boot or stop leaves each place
free_place : (c : Config) (m : ℕ) (told : List Told) → Every CallFree told → (s t : ℕ) (now : Trace) (p : Place) → PlaceStands c t now p → PlaceStands c t (after m told now) p
free_place c m told free s t now (Running v) h = free_stands c t m told now v free h
free_place c m told free s t now (Stopped d) h = all_free_none t m told now free h

packets_free : (xs : List Numbered) → Every CallFree (map packet_record xs)
packets_free [] = tt
packets_free (x ∷ xs) = (tt, packets_free xs)

-- ---- the line of a call ----

plain_fits : (n : ℕ) (words : Call) → fits_call n words ≡ true → IsPlain words
plain_fits n (call.Mend file) h = absurd (cc)
plain_fits n _ h = tt

process_fits : (n site process : ℕ) (words : Call) → fits_event n (line.Call site process words) ≡ true → (1 ≤ process) × (fits_call n words ≡ true)
process_fits n site process words h = parts (is_site n site) (fits_call n words) h
  where
    parts : (a b : Bool) → (a && is_between 1 8 process && b) ≡ true → (1 ≤ process) × (b ≡ true)
    parts a b h = (grind (arith, nat_tests), grind (arith, nat_tests))

none_busy : (process : ℕ) (rows : List WaitingCall) → list_any (λ (x : WaitingCall). x.process == process) rows ≡ false → (r : WaitingCall) → Among r rows → r.process ≡ process → ⊥
none_busy process [] h r a e = a
none_busy process (x ∷ xs) h r a e = by_place a (parts (x.process == process) (list_any (λ (y : WaitingCall). y.process == process) xs) h) (λ k b. none_busy process xs k r b e)
  where
    parts : (a b : Bool) → (a || b) ≡ false → (a ≡ false) × (b ≡ false)
    parts true b h = absurd (cc)
    parts false b h = (refl, h)

    true_false : true ≡ false → ⊥
    true_false e = cc

    by_place : {B : Type 0} → (r ≡ x) ⊎ B → ((x.process == process) ≡ false) × (list_any (λ (y : WaitingCall). y.process == process) xs ≡ false) → (list_any (λ (y : WaitingCall). y.process == process) xs ≡ false → B → ⊥) → ⊥
    by_place (inl same) k go = true_false (sym (equal_test x.process process (ap (λ (y : WaitingCall). y.process) (sym same) ∙ e)) ∙ k.0)
    by_place (inr b) k go = go k.1 b

call_may : (c : Config) (lines : List ScheduleLine) (n s process : ℕ) (words : Call) (v : SiteView) (w : World) → LinesFit c lines → IsLine lines n (line.Call s process words) → is_busy process (place_at w s) ≡ false → place_at w s ≡ Some (Running v) → MayCall v (Calls process words)
call_may c lines n s process words v w fit is idle here =
    let k : (1 ≤ process) × (fits_call c.sites words ≡ true) = process_fits c.sites s process words (fit n (line.Call s process words) is) in
    (plain_fits c.sites words k.1, k.0, none_busy process v.users.waiting (sym (ap (is_busy process) here) ∙ idle))

pub line_may : (c : Config) (lines : List ScheduleLine) (n s : ℕ) (l : LineWords) (e : Event) (v : SiteView) (w : World) → LinesFit c lines → IsLine lines n l → Gives w l s e → place_at w s ≡ Some (Running v) → MayCall v e
line_may c lines n s (line.Call site process words) (Calls p x) v w fit is g here =
    call_may c lines n s p x v w fit (subst (λ (y : Call). IsLine lines n (line.Call s p y)) g.2 (subst (λ (q : ℕ). IsLine lines n (line.Call s q words)) g.1 (subst (λ (t : ℕ). IsLine lines n (line.Call t process words)) g.0 is)))
    (subst (λ (q : ℕ). is_busy q (place_at w s) ≡ false) g.1 (subst (λ (t : ℕ). is_busy process (place_at w t) ≡ false) g.0 g.3)) here
line_may c lines n s l Ticks v w fit is g here = tt
line_may c lines n s l Parts v w fit is g here = tt
line_may c lines n s l Merges v w fit is g here = tt
line_may c lines n s l GivesUp v w fit is g here = tt
line_may c lines n s l (Receives p) v w fit is g here = tt
line_may c lines n s _ (Calls p x) v w fit is g here = absurd g

-- ---- every line ----

pub record Calling (c : Config) (lines : List ScheduleLine) (n : ℕ) (w : World) : Type 0 where
  pub courses : Courses c lines n w
  pub calls : CallsGo c w

pub calling_kept : (c : Config) (lines : List ScheduleLine) → LinesFit c lines → KeptIn c lines (Calling c lines)
calling_kept c lines fit = record {
  begins = λ n w there quiet p. record { courses = kept.begins n w there quiet p.courses; calls = p.calls };
  ticks = λ n most s v w is here p. record {
    courses = kept.ticks n most s v w is here p.courses;
    calls = acts_go c n s v (step c s (links_of w s) v Ticks) w here (step_forms (DeedsOf w.trace s) s c (links_of w s) v Ticks (p.courses.good.views s v here) (p.courses.course.places s (Running v) here).2 tt).written (λ h. step_does c s n (trace_of w) (links_of w s) v Ticks tt h) p.calls;
  };
  receives = λ n l x v w is d here sent p. record {
    courses = kept.receives n l x v w is d here sent p.courses;
    calls = acts_go c n x.packet.to v (step c x.packet.to (links_of (passed x.number w) x.packet.to) v (Receives x.packet)) (passed x.number w) here
        (step_forms (DeedsOf w.trace x.packet.to) x.packet.to c (links_of (passed x.number w) x.packet.to) v (Receives x.packet) (p.courses.good.views x.packet.to v here) (p.courses.course.places x.packet.to (Running v) here).2 (sent_polls c lines n w x sent p.courses.course)).written
        (λ h. step_does c x.packet.to n (trace_of w) (links_of (passed x.number w) x.packet.to) v (Receives x.packet) tt h) (λ order. (let g : CallsStand c w = p.calls order in record { rows = g.rows; places = g.places }));
  };
  passes = λ n k w p. record { courses = kept.passes n k w p.courses; calls = λ order. (let g : CallsStand c w = p.calls order in record { rows = g.rows; places = g.places }) };
  drops = λ n k w p. record { courses = kept.drops n k w p.courses; calls = λ order. (let g : CallsStand c w = p.calls order in record { rows = g.rows; places = g.places }) };
  budgets = λ n most w is p. record { courses = kept.budgets n most w is p.courses; calls = world_go c n (Shown says.Budget ∷ []) w (λ t. (tt, tt)) (free_place c n (Shown says.Budget ∷ []) (tt, tt)) p.calls };
  voiding = λ n l w there is void p. record { courses = kept.voiding n l w there is void p.courses; calls = world_go c (n + 1) (Shown says.Void ∷ []) w (λ t. (tt, tt)) (free_place c (n + 1) (Shown says.Void ∷ []) (tt, tt)) p.calls };
  steps = λ n s l e v w there is g here p. record {
    courses = kept.steps n s l e v w there is g here p.courses;
    calls = acts_go c (n + 1) s v (step c s (links_of w s) v e) w here (step_forms (DeedsOf w.trace s) s c (links_of w s) v e (p.courses.good.views s v here) (p.courses.course.places s (Running v) here).2 (comes_own e (own_given w l s e g))).written
        (λ h. step_does c s (n + 1) (trace_of w) (links_of w s) v e (line_may c lines (n + 1) s l e v w fit is g here) h) p.calls;
  };
  cutting = λ n one other w there is cut p. record { courses = kept.cutting n one other w there is cut p.courses; calls = λ order. (let g : CallsStand c w = p.calls order in record { rows = g.rows; places = g.places }) };
  mending = λ n one other w there is cut p. record { courses = kept.mending n one other w there is cut p.courses; calls = λ order. (let g : CallsStand c w = p.calls order in record { rows = g.rows; places = g.places }) };
  arming = λ n l a w there is so p. record { courses = kept.arming n l a w there is so p.courses; calls = λ order. (let g : CallsStand c w = p.calls order in record { rows = g.rows; places = g.places }) };
  pending = λ n w there is p. record { courses = kept.pending n w there is p.courses; calls = world_go c (n + 1) (map packet_record w.underway) w (λ t. free_rows c (n + 1) (map packet_record w.underway) t (packets_free w.underway)) (free_place c (n + 1) (map packet_record w.underway) (packets_free w.underway)) p.calls };
  stopping = λ n s v w there is here p. record { courses = kept.stopping n s v w there is here p.courses; calls = happened_go c (n + 1) [] (Shown (says.Stopped s cause.Asked) ∷ []) (stops_with s (disk_of v)) w (λ order g. stop_comes c s (n + 1) cause.Asked (disk_of v) w g) p.calls };
  booting = λ n s d w there is here p. record { courses = kept.booting n s d w there is here p.courses; calls = as_go c (n + 1) s d (boots (script_of w s) d) w here p.calls };
}
  where
    kept : KeptIn c lines (Courses c lines)
    kept = courses_kept c lines

-- ---- the first world ----

first_stands : (c : Config) (s : ℕ) → Stands c s [] (fresh 1 (formatted c s))
first_stands c s = record {
  waits = record { up = refl; boot_is = refl; counted = refl; there = λ x a. absurd a; back = λ r a. absurd a; low = λ r a. absurd a; apart = λ r q a. absurd a; keyed = λ r a. absurd a };
  owned = record {
    waiting = tt;
    descriptors = tt;
    held_low = λ w n a. absurd a;
    one_call = λ w y n a. absurd a;
    low = λ d a. absurd a;
    no_call = λ d w a. absurd a;
    one_descriptor = λ d e a. absurd a;
    there = λ d a. absurd a;
    asked_there = λ w a. absurd a;
    epochs = λ d a. absurd a;
  };
  tables = tt;
  inside = tt;
}

pub first_calling : (c : Config) (lines : List ScheduleLine) → Calling c lines 0 (first_world c)
first_calling c lines = record { courses = first_courses c lines; calls = λ order. record { rows = tt; places = first_places c (λ s. PlaceStands c s []) (λ s own. first_stands c s) } }

run_calling : (c : Config) (lines : List ScheduleLine) → LinesFit c lines → Calling c lines (length lines) (run_in c lines)
run_calling c lines fit = every_line c lines (Calling c lines) (calling_kept c lines fit) (first_calling c lines)

pub run_calls : (c : Config) (lines : List ScheduleLine) → LinesFit c lines → CallsStand c (run_in c lines)
run_calls c lines fit = (run_calling c lines fit).calls (run_sites c lines)

pub run_accepts : (c : Config) (lines : List ScheduleLine) → LinesFit c lines → EachRecord (IsAcceptRow c) (trace_of (run_in c lines))
run_accepts c lines fit = (run_calls c lines fit).rows
