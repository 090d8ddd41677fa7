-- In every run armed disks stand as the lines and the records say, and stop their sites within their calls.
use Rattle.std.proofs.Common.{◌≡◌, ◌≢◌, ◌≤◌, ◌<◌, ℕ, zero, suc, ◌+◌, ◌-◌, ◌*◌, nat_lt, Bool, true, false, cond, ◌||◌, List, [], ◌∷◌, ◌++◌, length, Option, Some, None, refl, sym, ◌∙◌, ap, subst, ◌⊎◌, inl, inr, arith}
use Rattle.std.proofs.lemmas.Bool.Decides.{nat_tests}
use Rattle.role_steps.proofs.of_plain_facts.Numbers.{apart_test, equal_self}
use Rattle.role_steps.proofs.of_plain_facts.Tests.{and_true}
use Rattle.locus_ids.specs.declared.config.Config.{Config}
use Rattle.trace_book.specs.declared.record.Record.{Record}
use Rattle.trace_book.specs.declared.record.Record.TheVariants as says
use Rattle.trace_book.specs.declared.record.StopCause.{StopCause}
use Rattle.schedule_lines.specs.declared.line.Line.TheVariants as line
use Rattle.schedule_lines.specs.declared.line.ScheduleLine.{ScheduleLine}
use Rattle.schedule_lines.specs.declared.line.ScheduleLine.TheVariants.{Event as EventLine}
use Rattle.role_steps.specs.Own.{Every}
use Rattle.role_steps.specs.Tables.{row}
use Rattle.role_steps.specs.Views.{SiteView, Told, Shown, DiskWrite, Outcome}
use Rattle.lawful_trace.specs.of_tree_model.Folds.{Trace, last_line}
use Rattle.lawful_trace.specs.of_tree_model.Epochs.{is_up}
use Rattle.site_laws.specs.of_the_run.Disks.{Disk as DiskLeft, Armed as Script, Cut, Stops as Stopping, Fails as Failing, BootWrite, boot_writes, written as boot_written, Booted, Whole, CutOff, boots, boots_armed, blocks, writing_of, write_calls, cut_disk, is_on_disk, has_older}
use Rattle.site_laws.specs.of_the_run.Worlds.{World, Running, armed_site, script_of, happened, puts, arms, stops_with, cut_event, runs_on, spends, writes_of, acts_of, acts, cause_of, fresh}
use Rattle.site_laws.specs.of_the_run.Runs.{boots_as}
use Rattle.site_laws.proofs.of_the_run.Boots.{at_each}
use Rattle.site_laws.specs.Vectors.Held.{OnDisk}
use Rattle.lawful_trace.specs.Places.{line_at}
use Rattle.lawful_trace.specs.Disks.{Arming, Stops, Fails, calls_of, Armed, Disk, armed_by, Writing, written_with, booted_with, stopped_with, disk_after, disk_of, disk_at, armed_at, writer_of, is_armed_as, is_cut_next, is_within_calls, fits_calls, all_fit_calls}
use Rattle.row_laws.specs.Shown.{trace_of}
use Rattle.row_laws.specs.Events.{Causes, SiteTold}
use Rattle.row_laws.specs.Rows.{ArmedStop}
use Rattle.row_laws.specs.Arms.{SameKind, ArmedAs, Rises, ArmsInCourse}
use Rattle.row_laws.proofs.ArmsTraced.{through_next, disk_more, no_disks, calls_any, calls_still}
use Rattle.row_laws.proofs.Scripts.{gone_script, other_script, rises_with, rises_without, armed_here, armed_other, script_site}
use Rattle.row_laws.proofs.Versions.{happened_arms, still_arms, Spent, Version, version_of, a_version, version_event}

-- ---- a stop ----

stopped_none : (up : Bool) (d : Disk) (o : Option Armed) → (stopped_with up d o).armed ≡ None
stopped_none up d None = refl
stopped_none true d (Some a) = refl
stopped_none false d (Some a) = refl

stopped_here : (c : Config) (s : ℕ) (why : StopCause) (before : Trace) (d : Disk) → (disk_after (says.Stopped s why) c before s d).armed ≡ None
stopped_here c s why before d = ap (λ (b : Bool). (cond b (stopped_with (is_up c before s) d d.armed) d).armed) (equal_self s) ∙ stopped_none (is_up c before s) d d.armed

stopped_there : (c : Config) (s t : ℕ) (why : StopCause) (before : Trace) (d : Disk) → s ≢ t → disk_after (says.Stopped s why) c before t d ≡ d
stopped_there c s t why before d ne = ap (λ (b : Bool). cond b (stopped_with (is_up c before t) d d.armed) d) (apart_test s t ne)

-- the site's disk isn't armed any more, and the others are as they were
stopped_armed : (c : Config) (lines : List ScheduleLine) (m s t : ℕ) (why : StopCause) (before : Trace) (xs : List Script) (old new : Option Script) → new ≡ None ⊎ (s ≢ t) → (s ≢ t → new ≡ old) → (s ≢ t → ArmedAs (armed_at c lines before m t) old) → ArmedAs (armed_at c lines (record { line = m; what = says.Stopped s why } ∷ before) m t) new
stopped_armed c lines m s t why before xs old new (inl e) others h = at_each s t (ArmedAs (armed_at c lines (record { line = m; what = says.Stopped s why } ∷ before) m t) new)
    (λ q. subst (ArmedAs (armed_at c lines (record { line = m; what = says.Stopped s why } ∷ before) m t)) (sym e) (subst (λ (o : Option Armed). ArmedAs o None) (sym (ap (λ (d : Disk). d.armed) (disk_more c lines m t (says.Stopped s why) before) ∙ subst (λ (u : ℕ). (disk_after (says.Stopped s why) c before u (disk_at c lines before m u)).armed ≡ None) q (stopped_here c s why before (disk_at c lines before m s)))) tt))
    (λ ne. subst (λ (d : Disk). ArmedAs d.armed new) (sym (disk_more c lines m t (says.Stopped s why) before ∙ stopped_there c s t why before (disk_at c lines before m t) ne)) (subst (ArmedAs (armed_at c lines before m t)) (sym (others ne)) (h ne)))
stopped_armed c lines m s t why before xs old new (inr ne) others h =
    subst (λ (d : Disk). ArmedAs d.armed new) (sym (disk_more c lines m t (says.Stopped s why) before ∙ stopped_there c s t why before (disk_at c lines before m t) ne)) (subst (ArmedAs (armed_at c lines before m t)) (sym (others ne)) (h ne))

-- which script a site has after the stop of one
after_stop : (s t : ℕ) (d : DiskLeft) (w : World) → Rises w.armed → (script_of (stops_with s d w) t ≡ None) ⊎ (s ≢ t)
after_stop s t d w h = at_each s t ((script_of (stops_with s d w) t ≡ None) ⊎ (s ≢ t))
    (λ e. inl (subst (λ (u : ℕ). script_of (stops_with s d w) u ≡ None) e (gone_script s w.armed h)))
    (λ ne. inr ne)

stop_scripts : (c : Config) (lines : List ScheduleLine) (m s t : ℕ) (why : StopCause) (d : DiskLeft) (before : Trace) (w : World) → Rises w.armed → (s ≢ t → ArmedAs (armed_at c lines before m t) (script_of w t)) → ArmedAs (armed_at c lines (record { line = m; what = says.Stopped s why } ∷ before) m t) (script_of (stops_with s d w) t)
stop_scripts c lines m s t why d before w rises h = stopped_armed c lines m s t why before w.armed (script_of w t) (script_of (stops_with s d w) t) (after_stop s t d w rises) (λ ne. other_script s t w.armed ne) h

pub stop_arms : (c : Config) (lines : List ScheduleLine) (m s : ℕ) (why : StopCause) (d : DiskLeft) (w : World) → ArmedStop c lines m (trace_of w) s why → ArmsInCourse c lines m w → ArmsInCourse c lines m (happened m [] (Shown (says.Stopped s why) ∷ []) (stops_with s d) w)
stop_arms c lines m s why d w row f =
    happened_arms c lines m [] (Shown (says.Stopped s why) ∷ []) (stops_with s d) w (rises_without s w.armed f.rises)
    (λ t. stop_scripts c lines m s t why d (trace_of w) w f.rises (λ ne. f.armed t))
    (row, f.rows) (calls_still c lines m (says.Stopped s why) (trace_of w) refl (calls_any c lines (Some (says.Stopped s why)) (trace_of w) f.calls)) f

-- ---- a stop within a disk call ----

-- the disk is armed of this kind
abbrev IsKind : Option Armed → Cut → Type 0
IsKind None how = ⊥
IsKind (Some a) how = SameKind a.arming how

kind_armed : (o : Option Armed) (x : Option Script) (a : Script) → x ≡ Some a → ArmedAs o x → IsKind o a.how
kind_armed None None a e h = absurd (no_script a e)
  where
    no_script : (a : Script) → ◌≡◌ {A = Option Script} None (Some a) → ⊥
    no_script a e = cc
kind_armed None (Some x) a e h = absurd h
kind_armed (Some o) None a e h = absurd h
kind_armed (Some o) (Some x) a e h = subst (λ (y : Script). SameKind o.arming y.how) (same x a e) h.0
  where
    same : (x a : Script) → ◌≡◌ {A = Option Script} (Some x) (Some a) → x ≡ a
    same x a e = cc

kind_test : (c : Config) (lines : List ScheduleLine) (m s : ℕ) (how : Cut) (before : Trace) (o : Option Armed) → armed_at c lines before m s ≡ o → IsKind o how → ArmedStop c lines m before s (cause_of how)
kind_test c lines m s how before None e h = absurd h
kind_test c lines m s (Stopping left) before (Some a) e h = ap (is_armed_as false) e ∙ of_arming a.arming h
  where
    of_arming : (x : Arming) → SameKind x (Stopping left) → is_armed_as false (Some (record a { arming = x })) ≡ true
    of_arming (Stops calls leave) h = refl
    of_arming (Fails calls) h = absurd h
kind_test c lines m s Failing before (Some a) e h = ap (is_armed_as true) e ∙ of_arming a.arming h
  where
    of_arming : (x : Arming) → SameKind x Failing → is_armed_as true (Some (record a { arming = x })) ≡ true
    of_arming (Stops calls leave) h = absurd h
    of_arming (Fails calls) h = refl

written_kind : (x : Writing) (d : Disk) (o : Option Armed) (how : Cut) → IsKind o how → IsKind (written_with x d o).armed how
written_kind x d None how h = absurd h
written_kind x d (Some a) how h = h

cut_here : (s : ℕ) (how : Cut) → is_cut_next (Some (says.Stopped s (cause_of how))) s ≡ true
cut_here s (Stopping left) = equal_self s
cut_here s Failing = equal_self s

cut_arms : (c : Config) (lines : List ScheduleLine) (m s : ℕ) (r : Record) (a : Script) (d : DiskLeft) (b : Bool) (w : World) → Version c s r → script_of w s ≡ Some a → ArmsInCourse c lines m w →
    ArmsInCourse c lines m (happened m [] (cond b (Shown r ∷ Shown (says.Stopped s (cause_of a.how)) ∷ []) (Shown (says.Stopped s (cause_of a.how)) ∷ [])) (stops_with s d) w)
cut_arms c lines m s r a d false w v has f =
    stop_arms c lines m s (cause_of a.how) d w (kind_test c lines m s a.how (trace_of w) (armed_at c lines (trace_of w) m s) refl (kind_armed (armed_at c lines (trace_of w) m s) (script_of w s) a has (f.armed s))) f
cut_arms c lines m s r a d true w v has f =
    happened_arms c lines m [] (Shown r ∷ Shown (says.Stopped s (cause_of a.how)) ∷ []) (stops_with s d) w (rises_without s w.armed f.rises)
    (λ t. stop_scripts c lines m s t (cause_of a.how) d first w f.rises (λ ne. subst (λ (x : Disk). ArmedAs x.armed (script_of w t)) (sym (disk_more c lines m t r (trace_of w) ∙ v.elsewhere t (trace_of w) (disk_at c lines (trace_of w) m t) ne)) (f.armed t)))
    (kind_test c lines m s a.how first (armed_at c lines first m s) refl kind, (v.row lines m (trace_of w), f.rows))
    (calls_still c lines m (says.Stopped s (cause_of a.how)) first refl
    (and_true (fits_calls c lines (Some (says.Stopped s (cause_of a.how))) first (writer_of r)) (all_fit_calls c lines (Some r) (trace_of w))
    (ap (fits_calls c lines (Some (says.Stopped s (cause_of a.how))) first) v.writer ∙ ap (λ (x : Bool). x || is_within_calls (disk_of c lines first s).armed) (cut_here s a.how))
    (calls_any c lines (Some r) (trace_of w) f.calls))) f
  where
    first : Trace
    first = record { line = m; what = r } ∷ trace_of w

    here : (y : Writing) × (disk_after r c (trace_of w) s (disk_at c lines (trace_of w) m s) ≡ written_with y (disk_at c lines (trace_of w) m s) (armed_at c lines (trace_of w) m s))
    here = v.here (trace_of w) (disk_at c lines (trace_of w) m s)

    kind : IsKind (armed_at c lines first m s) a.how
    kind = subst (λ (x : Disk). IsKind x.armed a.how) (sym (disk_more c lines m s r (trace_of w) ∙ here.1))
        (written_kind here.0 (disk_at c lines (trace_of w) m s) (armed_at c lines (trace_of w) m s) a.how (kind_armed (armed_at c lines (trace_of w) m s) (script_of w s) a has (f.armed s)))

-- ---- an event of a running site ----

rest_left : (left calls blocks older : ℕ) → nat_lt left calls ≡ false → calls ≡ blocks + (4 + older) → left - calls + 4 ≤ left
rest_left left calls blocks older e k = grind (arith, nat_tests)

pub acts_arms : (c : Config) (lines : List ScheduleLine) (m s : ℕ) (k : Causes) (v : SiteView) (o : Outcome SiteView) (w : World) → Every (SiteTold s k) o.told → OnDisk s v.store.copies o.view.store.copies o.told o.written → ArmsInCourse c lines m w → ArmsInCourse c lines m (acts m s v o w)
acts_arms c lines m s k v o w h (inl u) f =
    subst (λ (x : Option DiskWrite). ArmsInCourse c lines m (acts_of m s v o x w)) (sym u.none) (still_arms c lines m o.sent o.told (λ now. puts s (Running o.view) now) w refl (no_disks s k o.told h u.still) f)
acts_arms c lines m s k v o w h (inr (d, wr)) f =
    subst (λ (x : Option DiskWrite). ArmsInCourse c lines m (acts_of m s v o x w)) (sym wr.is_written) (by_script (script_of w s) refl)
  where
    told : Every (SiteTold s k) (wr.before ++ Shown d.says ∷ wr.after)
    told = subst (Every (SiteTold s k)) wr.told_is h

    version : Version c s d.says
    version = a_version c s d.says (version_of s d.says d.copy wr.says_so)

    runs : (change : World → World) → Rises (change w).armed → Spent (script_of w s) (script_of (change w) s) → ((t : ℕ) → s ≢ t → script_of (change w) t ≡ script_of w t) → ArmsInCourse c lines m (happened m o.sent o.told (λ now. puts s (Running o.view) (change now)) w)
    runs change rises spent others = subst (λ (xs : List Told). ArmsInCourse c lines m (happened m o.sent xs (λ now. puts s (Running o.view) (change now)) w)) (sym wr.told_is)
        (version_event c lines m s o.sent wr.before wr.after d.says (λ now. puts s (Running o.view) (change now)) w version (no_disks s k wr.before (first_part (SiteTold s k) wr.before (Shown d.says ∷ wr.after) told) wr.still_before) (no_disks s k wr.after (last_part (SiteTold s k) wr.before (Shown d.says ∷ wr.after) told).1 wr.still_after) rises spent others f)
      where
        first_part : (P : Told → Type 0) (a b : List Told) → Every P (a ++ b) → Every P a
        first_part P [] b h = tt
        first_part P (x ∷ xs) b h = (h.0, first_part P xs b h.1)

        last_part : (P : Told → Type 0) (a b : List Told) → Every P (a ++ b) → Every P b
        last_part P [] b h = h
        last_part P (x ∷ xs) b h = last_part P xs b h.1

    spending : (a : Script) → script_of w s ≡ Some a → nat_lt a.left (write_calls v.store d) ≡ false → ArmsInCourse c lines m (runs_on m s o (spends a (a.left - write_calls v.store d)) w)
    spending a e enough =
        let now : Script = record a { left = a.left - write_calls v.store d } in
        let own : armed_site a ≡ s = script_site s w.armed a e in
        runs (arms now) (rises_with now w.armed f.rises)
        (subst (λ (x : Option Script). Spent x (script_of (arms now w) s)) (sym e) (subst (λ (x : Option Script). Spent (Some a) x) (sym (ap (script_of (arms now w)) (sym own) ∙ armed_here now w)) (refl, rest_left a.left (write_calls v.store d) (blocks (writing_of v.store d)) (cond (has_older v.store d) 2 0) enough refl)))
        (λ t ne. armed_other now t w (λ g. ne (sym own ∙ g)))

    by_left : (a : Script) → script_of w s ≡ Some a → ArmsInCourse c lines m (elim (nat_lt a.left (write_calls v.store d)) [ true ↦ cut_event m s v d a w | false ↦ runs_on m s o (spends a (a.left - write_calls v.store d)) w ])
    by_left a e = (elim (nat_lt a.left (write_calls v.store d)) as (λ b. nat_lt a.left (write_calls v.store d) ≡ b → ArmsInCourse c lines m (elim b [ true ↦ cut_event m s v d a w | false ↦ runs_on m s o (spends a (a.left - write_calls v.store d)) w ])) [
      | true ↦ λ q. cut_arms c lines m s d.says a (cut_disk v.boot v.store d a.how a.left) (is_on_disk v.store d a.how a.left) w version e f
      | false ↦ λ q. spending a e q
    ]) refl

    by_script : (x : Option Script) → script_of w s ≡ x → ArmsInCourse c lines m (writes_of m s v o d x w)
    by_script None e = runs (λ now. now) f.rises (subst (λ (x : Option Script). Spent x x) (sym e) tt) (λ t ne. refl)
    by_script (Some a) e = by_left a e

-- ---- a boot ----

-- a script goes on with no more calls than it had
abbrev GoesOn : Option Script → Option Script → Type 0
GoesOn None None = Unit {0}
GoesOn (Some x) (Some y) = (y.how ≡ x.how) × (y.left ≤ x.left)
GoesOn _ _ = ⊥

fewer : (a left rest calls : ℕ) → rest ≤ left → a + left ≤ calls → a + rest ≤ calls
fewer a left rest calls h g = omega (arith, h, g)

booted_armed : (d : Disk) (o : Option Armed) (old new : Option Script) → ArmedAs o old → GoesOn old new → ArmedAs (booted_with d o).armed new
booted_armed d None None None h g = tt
booted_armed d None None (Some z) h g = absurd g
booted_armed d None (Some y) new h g = absurd h
booted_armed d (Some a) None new h g = absurd h
booted_armed d (Some a) (Some y) None h g = absurd g
booted_armed d (Some a) (Some y) (Some z) h g = (subst (SameKind a.arming) (sym g.0) h.0, fewer (4 * a.made) y.left z.left (calls_of a.arming) g.1 h.1)

up_here : (c : Config) (s boot : ℕ) (before : Trace) (d : Disk) → disk_after (says.Up s boot) c before s d ≡ booted_with d d.armed
up_here c s boot before d = ap (λ (b : Bool). cond b (booted_with d d.armed) d) (equal_self s)

up_there : (c : Config) (s t boot : ℕ) (before : Trace) (d : Disk) → s ≢ t → disk_after (says.Up s boot) c before t d ≡ d
up_there c s t boot before d ne = ap (λ (b : Bool). cond b (booted_with d d.armed) d) (apart_test s t ne)

up_arms : (c : Config) (lines : List ScheduleLine) (m s boot : ℕ) (change : World → World) (w : World) → Rises (change w).armed → GoesOn (script_of w s) (script_of (change w) s) → ((t : ℕ) → s ≢ t → script_of (change w) t ≡ script_of w t) → ArmsInCourse c lines m w → ArmsInCourse c lines m (happened m [] (Shown (says.Up s boot) ∷ []) change w)
up_arms c lines m s boot change w rises goes others f =
    happened_arms c lines m [] (Shown (says.Up s boot) ∷ []) change w rises
    (λ t. at_each s t (ArmedAs (armed_at c lines (record { line = m; what = says.Up s boot } ∷ trace_of w) m t) (script_of (change w) t))
    (λ e. subst (λ (u : ℕ). ArmedAs (armed_at c lines (record { line = m; what = says.Up s boot } ∷ trace_of w) m u) (script_of (change w) u)) e
    (subst (λ (x : Disk). ArmedAs x.armed (script_of (change w) s)) (sym (disk_more c lines m s (says.Up s boot) (trace_of w) ∙ up_here c s boot (trace_of w) (disk_at c lines (trace_of w) m s))) (booted_armed (disk_at c lines (trace_of w) m s) (armed_at c lines (trace_of w) m s) (script_of w s) (script_of (change w) s) (f.armed s) goes)))
    (λ ne. subst (λ (x : Disk). ArmedAs x.armed (script_of (change w) t)) (sym (disk_more c lines m t (says.Up s boot) (trace_of w) ∙ up_there c s t boot (trace_of w) (disk_at c lines (trace_of w) m t) ne)) (subst (ArmedAs (armed_at c lines (trace_of w) m t)) (sym (others t ne)) (f.armed t))))
    (tt, f.rows) (calls_still c lines m (says.Up s boot) (trace_of w) refl (calls_any c lines (Some (says.Up s boot)) (trace_of w) f.calls)) f

-- what a boot leaves of an armed script
abbrev LeftBy : Script → Booted → Type 0
LeftBy a (Whole d None) = ⊥
LeftBy a (Whole d (Some y)) = (y.how ≡ a.how) × (y.left ≤ a.left) × (armed_site y ≡ armed_site a)
LeftBy a (CutOff d how) = how ≡ a.how

two_less : (a b : ℕ) → suc (suc a) ≤ b → a ≤ b
two_less a b h = omega (arith, h)

boot_left : (a : Script) (left : ℕ) (xs : List BootWrite) (d : DiskLeft) → left ≤ a.left → LeftBy a (boots_armed a left xs d)
boot_left a left [] d h = (refl, h, refl)
boot_left a zero (x ∷ xs) d h = refl
boot_left a (suc zero) (x ∷ xs) d h = refl
boot_left a (suc (suc left)) (x ∷ xs) d h = boot_left a left xs (boot_written x d) (two_less left a.left h)

as_arms : (c : Config) (lines : List ScheduleLine) (m s : ℕ) (a : Script) (b : Booted) (w : World) → script_of w s ≡ Some a → LeftBy a b → ArmsInCourse c lines m w → ArmsInCourse c lines m (boots_as m s b w)
as_arms c lines m s a (Whole d None) w e h f = absurd h
as_arms c lines m s a (Whole d (Some y)) w e h f =
    let own : armed_site y ≡ s = h.2 ∙ script_site s w.armed a e in
    up_arms c lines m s d.label.boot (λ now. arms y (puts s (Running (fresh d.label.boot d.copies)) now)) w (rises_with y w.armed f.rises)
    (subst (λ (x : Option Script). GoesOn x (script_of (arms y w) s)) (sym e) (subst (λ (x : Option Script). GoesOn (Some a) x) (sym (ap (script_of (arms y w)) (sym own) ∙ armed_here y w)) (h.0, h.1)))
    (λ t ne. armed_other y t w (λ g. ne (sym own ∙ g))) f
as_arms c lines m s a (CutOff d how) w e h f =
    stop_arms c lines m s (cause_of how) d w (kind_test c lines m s how (trace_of w) (armed_at c lines (trace_of w) m s) refl (subst (IsKind (armed_at c lines (trace_of w) m s)) (sym h) (kind_armed (armed_at c lines (trace_of w) m s) (script_of w s) a e (f.armed s)))) f

boot_of_script : (c : Config) (lines : List ScheduleLine) (m s : ℕ) (d : DiskLeft) (x : Option Script) (w : World) → script_of w s ≡ x → ArmsInCourse c lines m w → ArmsInCourse c lines m (boots_as m s (boots x d) w)
boot_of_script c lines m s d None w e f = up_arms c lines m s _ _ w f.rises (subst (λ (x : Option Script). GoesOn x x) (sym e) tt) (λ t ne. refl) f
boot_of_script c lines m s d (Some a) w e f = as_arms c lines m s a (boots (Some a) d) w e (boot_left a a.left (boot_writes d) d (omega arith)) f

pub boot_arms : (c : Config) (lines : List ScheduleLine) (m s : ℕ) (d : DiskLeft) (w : World) → ArmsInCourse c lines m w → ArmsInCourse c lines m (boots_as m s (boots (script_of w s) d) w)
boot_arms c lines m s d w f = boot_of_script c lines m s d (script_of w s) w refl f

-- ---- lines ----

pub disk_next : (c : Config) (lines : List ScheduleLine) (n s : ℕ) (now : Trace) → last_line now ≤ n → n < length lines → disk_at c lines now (n + 1) s ≡ armed_by s (line_at lines (n + 1)) (disk_at c lines now n s)
disk_next c lines n s now h g = through_next lines s (last_line now) n (disk_of c lines now s) h g

-- the line arms no disk
abbrev pub ArmsNone : ScheduleLine → Type 0
ArmsNone (EventLine (line.ArmStop site calls left)) = ⊥
ArmsNone (EventLine (line.ArmFail site calls)) = ⊥
ArmsNone _ = Unit {0}

armed_none : (s : ℕ) (l : ScheduleLine) (d : Disk) → ArmsNone l → armed_by s l d ≡ d
armed_none s (EventLine (line.ArmStop site calls left)) d h = absurd h
armed_none s (EventLine (line.ArmFail site calls)) d h = absurd h
armed_none s _ d h = refl

pub next_arms : (c : Config) (lines : List ScheduleLine) (n : ℕ) (w : World) → last_line (trace_of w) ≤ n → n < length lines → ArmsNone (line_at lines (n + 1)) → ArmsInCourse c lines n w → ArmsInCourse c lines (n + 1) w
next_arms c lines n w last there none f = record {
  rises = f.rises;
  armed = λ s. subst (λ (d : Disk). ArmedAs d.armed (script_of w s)) (sym (disk_next c lines n s (trace_of w) last there ∙ armed_none s (line_at lines (n + 1)) (disk_at c lines (trace_of w) n s) none)) (f.armed s);
  rows = f.rows;
  calls = f.calls;
}

-- a line arms a disk
pub line_arms : (c : Config) (lines : List ScheduleLine) (n : ℕ) (a : Script) (w : World) → last_line (trace_of w) ≤ n → n < length lines →
    ((d : Disk) → ArmedAs (armed_by (armed_site a) (line_at lines (n + 1)) d).armed (Some a)) → ((t : ℕ) (d : Disk) → armed_site a ≢ t → armed_by t (line_at lines (n + 1)) d ≡ d) → ArmsInCourse c lines n w → ArmsInCourse c lines (n + 1) (arms a w)
line_arms c lines n a w last there mine others f = record {
  rises = rises_with a w.armed f.rises;
  armed = λ t. at_each (armed_site a) t (ArmedAs (armed_at c lines (trace_of w) (n + 1) t) (script_of (arms a w) t))
      (λ e. subst (λ (u : ℕ). ArmedAs (armed_at c lines (trace_of w) (n + 1) u) (script_of (arms a w) u)) e (subst (ArmedAs (armed_at c lines (trace_of w) (n + 1) (armed_site a))) (sym (armed_here a w)) (subst (λ (d : Disk). ArmedAs d.armed (Some a)) (sym (disk_next c lines n (armed_site a) (trace_of w) last there)) (mine (disk_at c lines (trace_of w) n (armed_site a))))))
      (λ ne. subst (ArmedAs (armed_at c lines (trace_of w) (n + 1) t)) (sym (armed_other a t w ne)) (subst (λ (d : Disk). ArmedAs d.armed (script_of w t)) (sym (disk_next c lines n t (trace_of w) last there ∙ others t (disk_at c lines (trace_of w) n t) ne)) (f.armed t)));
  rows = f.rows;
  calls = f.calls;
}
