-- In every run the lines have asked for each record, and the sites stand as the records say.
use Rattle.locus_ids.specs.declared.config.Config.{Config}
use Rattle.schedule_lines.specs.Cluster.{config_of}
use Rattle.std.proofs.Common.{◌≡◌, ◌≢◌, ◌≤◌, ℕ, ◌+◌, ◌==◌, nat_lt, Bool, true, false, cond, ◌||◌, ◌&&◌, not, List, [], ◌∷◌, map, Option, Some, None, refl, sym, ◌∙◌, ap, subst, inl, inr, arith}
use Rattle.std.proofs.lemmas.Bool.Decides.{nat_tests}
use Rattle.std.specs.List.{list_any}
use Rattle.role_steps.proofs.of_plain_facts.Numbers.{apart_test, at_most_of, equal_self}
use Rattle.role_steps.proofs.of_plain_facts.Options.{some_same}
use Rattle.schedule_lines.specs.declared.line.Line.TheVariants as line
use Rattle.schedule_lines.specs.declared.line.ScheduleLine.{ScheduleLine}
use Rattle.schedule_lines.specs.declared.line.ScheduleLine.TheVariants.{Event as EventLine}
use Rattle.trace_book.specs.declared.record.Record.{Record}
use Rattle.trace_book.specs.declared.record.Record.TheVariants as says
use Rattle.trace_book.specs.declared.record.StopCause.{StopCause}
use Rattle.trace_book.specs.declared.record.StopCause.TheVariants as cause
use Rattle.wire_messages.specs.declared.packet.Packet.{Packet}
use Rattle.role_steps.specs.Own.{Every}
use Rattle.role_steps.specs.Tables.{row}
use Rattle.role_steps.specs.Views.{SiteView, Told, Shown, DiskWrite, Outcome}
use Rattle.role_steps.proofs.Sending.{every_append}
use Rattle.lawful_trace.specs.of_tree_model.Folds.{Trace}
use Rattle.lawful_trace.specs.of_tree_model.Epochs.{is_up, boot_of}
use Rattle.site_laws.specs.of_the_run.Disks.{Disk, Cut, Stops, Fails, Booted, Whole, CutOff, boots, cut_disk, is_on_disk}
use Rattle.site_laws.specs.of_the_run.Worlds.{World, Place, Running, Stopped, Numbered, Line, place_at, is_between, script_of, happened, numbered_from, told_onto, disk_of, puts, arms, stops_with, cause_of, acts, fresh}
use Rattle.site_laws.specs.of_the_run.Runs.{boots_as, packet_record}
use Rattle.site_laws.proofs.of_the_run.Boots.{at_each, acts_cases, every_newest, every_numbered, Reached, boots_reached}
use Rattle.site_laws.proofs.of_the_run.Events.{happened_keeps, puts_other, puts_same}
use Rattle.lawful_trace.specs.Places.{line_at}
use Rattle.lawful_trace.specs.SiteRows.{boots as boots_site}
use Rattle.lawful_trace.specs.LineRows.{lists_packets}
use Rattle.row_laws.specs.Shown.{shown, trace_of}
use Rattle.row_laws.specs.Inward.{RoleTold, RoleWrite}
use Rattle.row_laws.specs.Events.{Causes, SiteTold, FormingPacket, Forms}
use Rattle.row_laws.specs.ByLine.{IsLine}
use Rattle.row_laws.specs.Course.{ToldRow, IsOfSite, StandsAs, InCourse, Caused}
use Rattle.row_laws.proofs.Walks.{served_role}
use Rattle.row_laws.proofs.Forming.{role_told}
use Rattle.row_laws.proofs.Tracing.{AllRows, ascends_onto, rows_onto, onto_same_up, onto_same_boot, told_same_up, site_rows, told_row, either_true}

-- ---- one event ----

pub happened_course : (c : Config) (lines : List ScheduleLine) (m : ℕ) (ps : List Packet) (told : List Told) (change : World → World) (w : World) → 1 ≤ m → AllRows c lines m told w.trace →
    ((t : ℕ) (p : Place) → place_at (change w) t ≡ Some p → StandsAs c (shown (told_onto m told w.trace)) t p) → (change w).sent ≡ w.sent → (change w).underway ≡ w.underway → (change w).circuits ≡ w.circuits → Every FormingPacket ps →
    InCourse c lines m w → InCourse c lines m (happened m ps told change w)
happened_course c lines m ps told change w one rows places sent underway circuits new f =
    happened_keeps (InCourse c lines m) m ps told change w f
    (λ l. record { ascends = f.ascends; rows = f.rows; places = f.places; circuits = f.circuits; polls = f.polls; underway = f.underway })
    (λ k b t. record {
      ascends = ascends_onto m told w.trace one f.ascends;
      rows = rows_onto c lines m told w.trace rows f.rows;
      places = places;
      circuits = λ none s. ap (list_any (is_between s s)) circuits ∙ f.circuits none s;
      polls = every_newest N (numbered_from (w.packets + 1) ps) (change w).sent added (subst (λ (xs : List Numbered). Every N xs) (sym sent) f.polls);
      underway = every_append N (change w).underway (numbered_from (w.packets + 1) ps) (subst (λ (xs : List Numbered). Every N xs) (sym underway) f.underway) added;
    })
  where
    N : Numbered → Type 0
    N x = FormingPacket x.packet

    added : Every N (numbered_from (w.packets + 1) ps)
    added = every_numbered FormingPacket (w.packets + 1) ps new

-- ---- places ----

stands_same : (c : Config) (now later : Trace) (t : ℕ) (p : Place) → is_up c later t ≡ is_up c now t → boot_of later t ≡ boot_of now t → StandsAs c now t p → StandsAs c later t p
stands_same c now later t (Running v) up boot h = (up ∙ h.0, boot ∙ h.1, h.2, h.3)
stands_same c now later t (Stopped d) up boot h = (up ∙ h.0, subst (λ (b : ℕ). b ≤ d.label.boot) (sym boot) h.1, h.2)

-- what is told boots and stops none
old_places : (c : Config) (lines : List ScheduleLine) (s m n : ℕ) (k : Causes) (told : List Told) (w : World) → Every (SiteTold s k) told → InCourse c lines n w → (t : ℕ) (p : Place) → place_at w t ≡ Some p → StandsAs c (shown (told_onto m told w.trace)) t p
old_places c lines s m n k told w h f t p here = stands_same c (trace_of w) (shown (told_onto m told w.trace)) t p (onto_same_up c s t m k told w.trace h) (onto_same_boot s t m k told w.trace h) (f.places t p here)

-- one place is changed
one_place : (c : Config) (s : ℕ) (new : Place) (now : Trace) (w : World) → StandsAs c now s new → ((t : ℕ) (p : Place) → s ≢ t → place_at w t ≡ Some p → StandsAs c now t p) → (t : ℕ) (p : Place) → place_at (puts s new w) t ≡ Some p → StandsAs c now t p
one_place c s new now w mine others t p here = at_each s t (StandsAs c now t p)
    (λ e. subst (λ (u : ℕ). StandsAs c now u p) e (subst (StandsAs c now s) (some_same new p (sym (puts_same s new w) ∙ (ap (place_at (puts s new w)) e ∙ here))) mine))
    (λ ne. others t p ne (sym (puts_other s t new w ne) ∙ here))

-- a stop or a boot of one site leaves how the others stand
other_up : (s t : ℕ) (b : Bool) → s ≢ t → ((s == t) || b) ≡ b
other_up s t b ne = ap (λ (x : Bool). x || b) (apart_test s t ne)

other_down : (s t : ℕ) (b : Bool) → s ≢ t → (not (s == t) && b) ≡ b
other_down s t b ne = ap (λ (x : Bool). not x && b) (apart_test s t ne)

other_boot : (s t a b : ℕ) → s ≢ t → cond (s == t) a b ≡ b
other_boot s t a b ne = ap (λ (x : Bool). cond x a b) (apart_test s t ne)

own_down : (s : ℕ) (b : Bool) → (not (s == s) && b) ≡ false
own_down s b = ap (λ (x : Bool). not x && b) (equal_self s)

own_up : (s : ℕ) (b : Bool) → ((s == s) || b) ≡ true
own_up s b = ap (λ (x : Bool). x || b) (equal_self s)

own_boot : (s a b : ℕ) → cond (s == s) a b ≡ a
own_boot s a b = ap (λ (x : Bool). cond x a b) (equal_self s)

-- ---- stops ----

stopped_places : (c : Config) (s m : ℕ) (why : StopCause) (d : Disk) (trace : List Line) (w : World) → IsOfSite s → boot_of (shown trace) s ≤ d.label.boot → ((t : ℕ) (p : Place) → place_at w t ≡ Some p → StandsAs c (shown trace) t p) →
    (t : ℕ) (p : Place) → place_at (puts s (Stopped d) w) t ≡ Some p → StandsAs c (record { line = m; what = says.Stopped s why } ∷ shown trace) t p
stopped_places c s m why d trace w of le old = one_place c s (Stopped d) (record { line = m; what = says.Stopped s why } ∷ shown trace) w (own_down s (is_up c (shown trace) s), le, of)
    (λ t p ne here. stands_same c (shown trace) (record { line = m; what = says.Stopped s why } ∷ shown trace) t p (other_down s t (is_up c (shown trace) t) ne) refl (old t p here))

-- a stop of a site, by a record that may come
stop_course : (c : Config) (lines : List ScheduleLine) (m s : ℕ) (why : StopCause) (d : Disk) (w : World) → 1 ≤ m → ToldRow c lines m (trace_of w) (Shown (says.Stopped s why)) → IsOfSite s → boot_of (trace_of w) s ≤ d.label.boot → InCourse c lines m w → InCourse c lines m (happened m [] (Shown (says.Stopped s why) ∷ []) (stops_with s d) w)
stop_course c lines m s why d w one row of le f =
    happened_course c lines m [] (Shown (says.Stopped s why) ∷ []) (stops_with s d) w one (row, tt) (stopped_places c s m why d w.trace w of le f.places) refl refl refl tt f

-- the cause of a cut
cut_row : (c : Config) (lines : List ScheduleLine) (m s : ℕ) (how : Cut) (now : Trace) → (is_up c now s || boots_site (line_at lines m) s) ≡ true → ToldRow c lines m now (Shown (says.Stopped s (cause_of how)))
cut_row c lines m s (Stops left) now h = (h, tt)
cut_row c lines m s Fails now h = (h, tt)

cut_course : (c : Config) (lines : List ScheduleLine) (m s : ℕ) (k : Causes) (r : Record) (how : Cut) (d : Disk) (b : Bool) (w : World) → 1 ≤ m → RoleTold (Shown r) → Caused c lines m s k (trace_of w) → IsOfSite s → boot_of (trace_of w) s ≤ d.label.boot → InCourse c lines m w →
    InCourse c lines m (happened m [] (cond b (Shown r ∷ Shown (says.Stopped s (cause_of how)) ∷ []) (Shown (says.Stopped s (cause_of how)) ∷ [])) (stops_with s d) w)
cut_course c lines m s k r how d false w one role g of le f = stop_course c lines m s (cause_of how) d w one (cut_row c lines m s how (trace_of w) (either_true (is_up c (trace_of w) s) (boots_site (line_at lines m) s) (inl g.up))) of le f
cut_course c lines m s k r how d true w one role g of le f =
    happened_course c lines m [] (Shown r ∷ Shown (says.Stopped s (cause_of how)) ∷ []) (stops_with s d) w one
    (told_row c lines m s k (Shown r) (trace_of w) told g, (cut_row c lines m s how (shown first) (either_true (is_up c (shown first) s) (boots_site (line_at lines m) s) (inl (told_same_up c s s m k (Shown r) (trace_of w) told ∙ g.up))), tt))
    (stopped_places c s m (cause_of how) d first w of (subst (λ (n : ℕ). n ≤ d.label.boot) (sym (onto_same_boot s s m k (Shown r ∷ []) w.trace (told, tt))) le) (old_places c lines s m m k (Shown r ∷ []) w (told, tt) f)) refl refl refl tt f
  where
    told : SiteTold s k (Shown r)
    told = role_told s k (Shown r) role

    first : List Line
    first = record { number = m; told = Shown r } ∷ w.trace

-- ---- an event of a running site ----

least : (a b : ℕ) → a ≡ b → a ≤ b
least a b e = omega (arith, e)

written_role : (d : DiskWrite) (o : Option DiskWrite) → o ≡ Some d → RoleWrite o → RoleTold (Shown d.says)
written_role d o e h = served_role d.says (subst RoleWrite e h)

pub acts_course : (c : Config) (lines : List ScheduleLine) (m s : ℕ) (k : Causes) (v : SiteView) (o : Outcome SiteView) (w : World) → 1 ≤ m → place_at w s ≡ Some (Running v) → Caused c lines m s k (trace_of w) → Forms s v.boot k o → InCourse c lines m w → InCourse c lines m (acts m s v o w)
acts_course c lines m s k v o w one here g h f =
    acts_cases (InCourse c lines m) m s v o w
    (happened_course c lines m o.sent o.told (λ now. puts s (Running o.view) now) w one rows (places w (λ t p e. e)) refl refl refl h.sent f)
    (λ a. happened_course c lines m o.sent o.told (λ now. puts s (Running o.view) (arms a now)) w one rows (places (arms a w) (λ t p e. e)) refl refl refl h.sent f)
    (λ d a e. cut_course c lines m s k d.says a.how (cut_disk v.boot v.store d a.how a.left) (is_on_disk v.store d a.how a.left) w one (written_role d o.written e h.written) g stood.3 (least (boot_of (trace_of w) s) v.boot stood.1) f)
  where
    stood : StandsAs c (trace_of w) s (Running v)
    stood = f.places s (Running v) here

    rows : AllRows c lines m o.told w.trace
    rows = site_rows c lines m s k o.told w.trace h.told g

    places : (u : World) → ((t : ℕ) (p : Place) → place_at u t ≡ Some p → place_at w t ≡ Some p) → (t : ℕ) (p : Place) → place_at (puts s (Running o.view) u) t ≡ Some p → StandsAs c (shown (told_onto m o.told w.trace)) t p
    places u same = one_place c s (Running o.view) (shown (told_onto m o.told w.trace)) u
        (onto_same_up c s s m k o.told w.trace h.told ∙ stood.0, onto_same_boot s s m k o.told w.trace h.told ∙ (stood.1 ∙ sym h.boot_is), h.view, stood.3)
        (λ t p ne e. old_places c lines s m m k o.told w h.told f t p (same t p e))

-- ---- boots ----

above : (a b c : ℕ) → a ≤ b → b + 1 ≤ c → nat_lt a c ≡ true
above a b c h g = grind (arith, nat_tests)

boots_here : (l : ScheduleLine) (s : ℕ) → l ≡ EventLine (line.Boot s) → boots_site l s ≡ true
boots_here l s e = ap (λ (x : ScheduleLine). boots_site x s) e ∙ equal_self s

up_course : (c : Config) (lines : List ScheduleLine) (m s : ℕ) (x : Disk) (change : World → World) (w : World) → 1 ≤ m → IsLine lines m (line.Boot s) → is_up (config_of lines) (trace_of w) s ≡ false → nat_lt (boot_of (trace_of w) s) x.label.boot ≡ true → IsOfSite s →
    ((t : ℕ) → place_at (change w) t ≡ place_at (puts s (Running (fresh x.label.boot x.copies)) w) t) → (change w).sent ≡ w.sent → (change w).underway ≡ w.underway → (change w).circuits ≡ w.circuits → InCourse c lines m w → InCourse c lines m (happened m [] (Shown (says.Up s x.label.boot) ∷ []) change w)
up_course c lines m s x change w one is down less of same sent underway circuits f =
    happened_course c lines m [] (Shown (says.Up s x.label.boot) ∷ []) change w one ((record { asked = is }, record { stopped = down; above = less }), tt)
    (λ t p here. one_place c s (Running view) now w (own_up s (is_up c (trace_of w) s), own_boot s x.label.boot (boot_of (trace_of w) s), record { round = tt; tables = tt; epoch = tt }, of)
    (λ u q ne e. stands_same c (trace_of w) now u q (other_up s u (is_up c (trace_of w) u) ne) (other_boot s u x.label.boot (boot_of (trace_of w) u) ne) (f.places u q e)) t p (sym (same t) ∙ here))
    sent underway circuits tt f
  where
    view : SiteView
    view = fresh x.label.boot x.copies

    now : Trace
    now = record { line = m; what = says.Up s x.label.boot } ∷ trace_of w

as_course : (c : Config) (lines : List ScheduleLine) (m s : ℕ) (d : Disk) (b : Booted) (w : World) → 1 ≤ m → IsLine lines m (line.Boot s) → place_at w s ≡ Some (Stopped d) → Reached d.label.boot (d.label.boot + 1) b → InCourse c lines m w → InCourse c lines m (boots_as m s b w)
as_course c lines m s d (Whole x None) w one is here r f = let old : StandsAs c (trace_of w) s (Stopped d) = f.places s (Stopped d) here in up_course c lines m s x _ w one is old.0 (above (boot_of (trace_of w) s) d.label.boot x.label.boot old.1 r) old.2 (λ t. refl) refl refl refl f
as_course c lines m s d (Whole x (Some a)) w one is here r f = let old : StandsAs c (trace_of w) s (Stopped d) = f.places s (Stopped d) here in up_course c lines m s x _ w one is old.0 (above (boot_of (trace_of w) s) d.label.boot x.label.boot old.1 r) old.2 (λ t. refl) refl refl refl f
as_course c lines m s d (CutOff x how) w one is here r f =
    let old : StandsAs c (trace_of w) s (Stopped d) = f.places s (Stopped d) here in
    stop_course c lines m s (cause_of how) x w one (cut_row c lines m s how (trace_of w) (either_true (is_up c (trace_of w) s) (boots_site (line_at lines m) s) (inr (boots_here (line_at lines m) s is)))) old.2 (at_most_of (boot_of (trace_of w) s) d.label.boot x.label.boot old.1 r) f

pub boot_course : (c : Config) (lines : List ScheduleLine) (m s : ℕ) (d : Disk) (w : World) → 1 ≤ m → IsLine lines m (line.Boot s) → place_at w s ≡ Some (Stopped d) → InCourse c lines m w → InCourse c lines m (boots_as m s (boots (script_of w s) d) w)
boot_course c lines m s d w one is here f = as_course c lines m s d (boots (script_of w s) d) w one is here (boots_reached (script_of w s) d) f

-- ---- a stop by its line ----

pub asked_course : (c : Config) (lines : List ScheduleLine) (m s : ℕ) (v : SiteView) (w : World) → 1 ≤ m → IsLine lines m (line.Stop s) → place_at w s ≡ Some (Running v) → InCourse c lines m w → InCourse c lines m (happened m [] (Shown (says.Stopped s cause.Asked) ∷ []) (stops_with s (disk_of v)) w)
asked_course c lines m s v w one is here f =
    let old : StandsAs c (trace_of w) s (Running v) = f.places s (Running v) here in
    stop_course c lines m s cause.Asked (disk_of v) w one (record { asked = is }, record { up = old.0 }) old.3 (least (boot_of (trace_of w) s) v.boot old.1) f

-- ---- what the world itself tells ----

pub world_course : (c : Config) (lines : List ScheduleLine) (m : ℕ) (told : List Told) (w : World) → 1 ≤ m → AllRows c lines m told w.trace → ((t : ℕ) → is_up (config_of lines) (shown (told_onto m told w.trace)) t ≡ is_up (config_of lines) (trace_of w) t) → ((t : ℕ) → boot_of (shown (told_onto m told w.trace)) t ≡ boot_of (trace_of w) t) →
    InCourse c lines m w → InCourse c lines m (happened m [] told (λ now. now) w)
world_course c lines m told w one rows up boot f =
    happened_course c lines m [] told (λ now. now) w one rows (λ t p here. stands_same c (trace_of w) (shown (told_onto m told w.trace)) t p (up t) (boot t) (f.places t p here)) refl refl refl tt f

-- listed packets
pub listed_rows : (c : Config) (lines : List ScheduleLine) (m : ℕ) (xs : List Numbered) (trace : List Line) → IsLine lines m line.Pending → AllRows c lines m (map packet_record xs) trace
listed_rows c lines m [] trace is = tt
listed_rows c lines m (x ∷ xs) trace is = ((record { listed = subst (λ (l : ScheduleLine). lists_packets l ≡ true) (sym is) refl }, tt), listed_rows c lines m xs (record { number = m; told = packet_record x } ∷ trace) is)

pub listed_up : (c : Config) (m t : ℕ) (xs : List Numbered) (trace : List Line) → is_up c (shown (told_onto m (map packet_record xs) trace)) t ≡ is_up c (shown trace) t
listed_up c m t [] trace = refl
listed_up c m t (x ∷ xs) trace = listed_up c m t xs (record { number = m; told = packet_record x } ∷ trace)

pub listed_boot : (m t : ℕ) (xs : List Numbered) (trace : List Line) → boot_of (shown (told_onto m (map packet_record xs) trace)) t ≡ boot_of (shown trace) t
listed_boot m t [] trace = refl
listed_boot m t (x ∷ xs) trace = listed_boot m t xs (record { number = m; told = packet_record x } ∷ trace)
