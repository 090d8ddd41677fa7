-- What an event of the world does to the counts of its disks.
use Rattle.std.proofs.Common.{◌≡◌, ◌≢◌, ℕ, ◌-◌, nat_lt, Bool, true, false, cond, List, [], ◌∷◌, length, Option, Some, None, refl, sym, ◌∙◌, ap, subst, inl, inr}
use Rattle.locus_ids.specs.declared.config.Config.{Config}
use Rattle.schedule_lines.specs.declared.line.ScheduleLine.{ScheduleLine}
use Rattle.trace_book.specs.declared.record.Record.{Record}
use Rattle.trace_book.specs.declared.record.Record.TheVariants as says
use Rattle.trace_book.specs.declared.record.StopCause.{StopCause}
use Rattle.trace_book.specs.declared.record.StopCause.TheVariants as cause
use Rattle.wire_messages.specs.declared.packet.Packet.{Packet}
use Rattle.role_steps.specs.Own.{Every}
use Rattle.role_steps.specs.Views.{SiteView, Told, Shown, DiskWrite, Outcome}
use Rattle.role_steps.specs.declared.rounds.InEpoch.{InEpoch}
use Rattle.tree_model.specs.Folds.{Trace, last_line}
use Rattle.role_steps.proofs.of_plain_facts.Numbers.{apart_test, equal_self}
use Rattle.tree_model.specs.Epochs.{is_up}
use Rattle.the_run.specs.Disks.{Disk as DiskLeft, Armed as Script, Booted, Whole, CutOff, boots, boot_writes, boots_freely, writing_of, write_calls, cut_disk, is_on_disk}
use Rattle.the_run.specs.Runs.{asked_stop, boots_as}
use Rattle.the_run.specs.Worlds.{World, Place, Running, Stopped, Line, place_at, script_of, told_onto, happened, puts, arms, stops_with, disk_of, cause_of, cut_event, runs_on, spends, writes_of, acts_of, acts, fresh}
use Rattle.the_run.proofs.Boots.{at_each}
use Rattle.the_run.proofs.Events.{happened_keeps, puts_other, puts_same}
use Rattle.rest_laws.specs.of_site_laws.Vectors.Held.{IsOf}
use Rattle.lawful_trace.specs.Disks.{Armed, Writing, booted_with, stopped_with, has_left}
use Rattle.lawful_trace.specs.Disks as lawful
use Rattle.headline_laws.specs.WholeRuns.Wrote.{Disk, disk_written, disk_booted, disk_stopped, slots_stopped, disk_after, disk_at, disk_through, armed_at, AgreeBelow}
use Rattle.rest_laws.specs.of_tree_laws.Stores.{CopiesAreHeld}
use Rattle.row_laws.specs.Shown.{shown, trace_of, EachRecord}
use Rattle.row_laws.specs.Events.{Causes, SiteTold}
use Rattle.row_laws.specs.Arms.{NoDisk, Rises}
use Rattle.row_laws.proofs.ArmsTraced.{no_disks}
use Rattle.row_laws.proofs.ArmsTraced.{disk_more as lawful_more, quiet_onto as lawful_onto}
use Rattle.row_laws.proofs.Scripts.{gone_script, other_script, rises_with, rises_without, armed_here, armed_other, script_site}
use Rattle.row_laws.proofs.Versions.{VersionOf, version_of, Version, a_version}
use Rattle.rest_laws.specs.of_store_laws.OneTree.Places.{SiteIn, WorldFact}
use Rattle.rest_laws.specs.of_store_laws.OneTree.Rest.{IsRest, AllRest, Past}
use Rattle.rest_laws.proofs.of_store_laws.OneTree.Composing.{rest_before, rest_told}
use Rattle.rest_laws.proofs.of_store_laws.OneTree.Cuts.{WritesSo}
use Rattle.rest_laws.proofs.of_store_laws.OneTree.Worlds.{Holds}
use Rattle.rest_laws.proofs.Shown.{shown_entries}
use Rattle.rest_laws.specs.MendStepCounting.{CountedRecord, IsCountedRow}
use Rattle.headline_laws.specs.WholeRuns.CutCounts.{GatesAs, CountsAt, CountsAreTheRuns, IsLeast, is_stopped}
use Rattle.headline_laws.proofs.WholeRuns.CutBoots.{BootCounts, boot_counts, boot_free, GoesOn, boot_goes}
use Rattle.headline_laws.proofs.WholeRuns.CutShaped.{DiskFirst}
use Rattle.headline_laws.proofs.WholeRuns.CutPlaced.{write_is}
use Rattle.headline_laws.proofs.WholeRuns.CutWrites.{has_calls, free_write, whole_write, cut_write, lost_write}
use Rattle.headline_laws.proofs.WholeRuns.CutDisks.{disk_more, disk_agrees, quiet_onto, up_here, up_there, stop_here, stop_there, version_there, version_least, boot_least, stop_least, least_left}
use Rattle.headline_laws.proofs.WholeRuns.CutTraced.{version_up, onto_counted, version_counted, cut_counted, may_now, may_then}

-- a disk of a site, exactly and at least
pub record SiteAs (counted : lawful.Disk) (d : Disk) (x : Option Script) (p : Option Place) : Type 0 where
  pub counts : CountsAt d x p
  pub least : IsLeast (is_stopped p) counted d

site_as : (a b : lawful.Disk) (d e : Disk) (x y : Option Script) (p q : Option Place) → a ≡ b → d ≡ e → x ≡ y → p ≡ q → SiteAs b e y q → SiteAs a d x p
site_as a b d e x y p q g i j k h = subst (λ (z : lawful.Disk). SiteAs z d x p) (sym g) (subst (λ (z : Disk). SiteAs b z x p) (sym i) (subst (λ (z : Option Script). SiteAs b e z p) (sym j) (subst (SiteAs b e y) (sym k) h)))

-- the places are as they were, or a site that runs has another view
abbrev pub PlacesStay : World → World → Type 0
PlacesStay w u = (s : ℕ) (least : lawful.Disk) (d : Disk) (x : Option Script) → SiteAs least d x (place_at w s) → SiteAs least d x (place_at u s)

other_view : (least : lawful.Disk) (d : Disk) (x : Option Script) (v u : SiteView) → SiteAs least d x (Some (Running v)) → SiteAs least d x (Some (Running u))
other_view least d x v u h = record { counts = record { calls = h.counts.calls; gates = h.counts.gates }; least = h.least }

runs_stay : (s : ℕ) (v u : SiteView) (w : World) → place_at w s ≡ Some (Running v) → PlacesStay w (puts s (Running u) w)
runs_stay s v u w here t least d x = at_each s t (SiteAs least d x (place_at w t) → SiteAs least d x (place_at (puts s (Running u) w) t))
    (λ e. subst (λ (i : ℕ). SiteAs least d x (place_at w i) → SiteAs least d x (place_at (puts s (Running u) w) i)) e
    (λ k. subst (SiteAs least d x) (sym (puts_same s (Running u) w)) (other_view least d x v u (subst (SiteAs least d x) here k))))
    (λ ne k. subst (SiteAs least d x) (sym (puts_other s t (Running u) w ne)) k)

-- the disks as the lawful trace counts them, at boots and stops
lawful_up_here : (c : Config) (s boot : ℕ) (before : Trace) (d : lawful.Disk) → lawful.disk_after (says.Up s boot) c before s d ≡ booted_with d d.armed
lawful_up_here c s boot before d = ap (λ (b : Bool). cond b (booted_with d d.armed) d) (equal_self s)

lawful_up_there : (c : Config) (s t boot : ℕ) (before : Trace) (d : lawful.Disk) → s ≢ t → lawful.disk_after (says.Up s boot) c before t d ≡ d
lawful_up_there c s t boot before d ne = ap (λ (b : Bool). cond b (booted_with d d.armed) d) (apart_test s t ne)

lawful_stop_here : (c : Config) (s : ℕ) (why : StopCause) (up : Bool) (before : Trace) (d : lawful.Disk) → is_up c before s ≡ up → lawful.disk_after (says.Stopped s why) c before s d ≡ stopped_with up d d.armed
lawful_stop_here c s why up before d e = ap (λ (b : Bool). cond b (stopped_with (is_up c before s) d d.armed) d) (equal_self s) ∙ ap (λ (b : Bool). stopped_with b d d.armed) e

lawful_stop_there : (c : Config) (s t : ℕ) (why : StopCause) (before : Trace) (d : lawful.Disk) → s ≢ t → lawful.disk_after (says.Stopped s why) c before t d ≡ d
lawful_stop_there c s t why before d ne = ap (λ (b : Bool). cond b (stopped_with (is_up c before t) d d.armed) d) (apart_test s t ne)

-- ---- versions ----

site_copies : (c : Config) (s : ℕ) (trace : List Line) (v : SiteView) (o : Option InEpoch) → SiteIn c s trace v o → CopiesAreHeld c trace s v.store
site_copies c s trace v None h = h.copies
site_copies c s trace v (Some e) h = h.store.copies

module _ (wrote : ℕ → List ℕ) where
  -- as far as other laws give the rest of what was told
  abbrev pub Counts : Config → List ScheduleLine → ℕ → World → Type 0
  Counts c lines n w = IsRest c w.trace → CountsAreTheRuns wrote c lines n w

  -- ---- one event ----

  -- the disks of a site after an event that tells this
  abbrev told_trace : ℕ → List Told → World → Trace
  told_trace m told w = shown (told_onto m told w.trace)

  abbrev SiteTo : Config → List ScheduleLine → ℕ → List Told → World → ℕ → Option Script → Option Place → Type 0
  SiteTo c lines m told w s x p = SiteAs (lawful.disk_at c lines (told_trace m told w) m s) (disk_at wrote c lines (told_trace m told w) m s) x p

  record After (c : Config) (lines : List ScheduleLine) (m : ℕ) (told : List Told) (change : World → World) (w : World) : Type 0 where
    rises : Rises (change w).armed
    sites : (s : ℕ) → SiteTo c lines m told w s (script_of (change w) s) (place_at (change w) s)
    rows : EachRecord (IsCountedRow c lines) (told_trace m told w)

  happened_counts : (c : Config) (lines : List ScheduleLine) (m : ℕ) (ps : List Packet) (told : List Told) (change : World → World) (w : World) →
      (IsRest c (told_onto m told w.trace) → CountsAreTheRuns wrote c lines m w → After c lines m told change w) → Counts c lines m w → Counts c lines m (happened m ps told change w)
  happened_counts c lines m ps told change w after g =
      happened_keeps (Counts c lines m) m ps told change w g
      (λ l r. (let f : CountsAreTheRuns wrote c lines m w = g r in record { rises = f.rises; sites = f.sites; least = f.least; rows = f.rows }))
      (λ k b t r. (let a : After c lines m told change w = after r (g (rest_before c m told w.trace r)) in record { rises = a.rises; sites = λ s. (a.sites s).counts; least = λ s. (a.sites s).least; rows = a.rows }))

  -- a site as it was
  site_now : (c : Config) (lines : List ScheduleLine) (n s : ℕ) (w : World) → CountsAreTheRuns wrote c lines n w → SiteTo c lines n [] w s (script_of w s) (place_at w s)
  site_now c lines n s w f = record { counts = f.sites s; least = f.least s }

  -- by its script and its place
  site_by : (c : Config) (lines : List ScheduleLine) (n s : ℕ) (x : Option Script) (p : Option Place) (w : World) → script_of w s ≡ x → place_at w s ≡ p → CountsAreTheRuns wrote c lines n w → SiteTo c lines n [] w s x p
  site_by c lines n s x p w e k f = subst (λ (y : Option Script). SiteTo c lines n [] w s y p) e (subst (SiteTo c lines n [] w s (script_of w s)) k (site_now c lines n s w f))

  -- ---- an event of no disk ----

  pub still_counts : (c : Config) (lines : List ScheduleLine) (m : ℕ) (ps : List Packet) (told : List Told) (change : World → World) (w : World) → (change w).armed ≡ w.armed → PlacesStay w (change w) → Every NoDisk told →
      Counts c lines m w → Counts c lines m (happened m ps told change w)
  still_counts c lines m ps told change w same places quiet g = happened_counts c lines m ps told change w
      (λ r f. record {
        rises = subst Rises (sym same) f.rises;
        sites = λ t. subst (λ (x : lawful.Disk). SiteAs x (disk_at wrote c lines (told_trace m told w) m t) (script_of (change w) t) (place_at (change w) t)) (sym (lawful_onto c lines m t told w.trace quiet))
            (subst (λ (d : Disk). SiteAs (lawful.disk_at c lines (trace_of w) m t) d (script_of (change w) t) (place_at (change w) t)) (sym (quiet_onto wrote c lines m t told w.trace quiet))
            (subst (λ (x : Option Script). SiteAs (lawful.disk_at c lines (trace_of w) m t) (disk_at wrote c lines (trace_of w) m t) x (place_at (change w) t)) (sym (scripts t))
            (places t (lawful.disk_at c lines (trace_of w) m t) (disk_at wrote c lines (trace_of w) m t) (script_of w t) (site_now c lines m t w f))));
        rows = onto_counted c lines m told w.trace quiet f.rows;
      }) g
    where
      scripts : (t : ℕ) → script_of (change w) t ≡ script_of w t
      scripts t = ap (λ (xs : List Script). script_of (record w { armed = xs }) t) same

  -- ---- an event of one disk ----

  -- the other sites are as they were
  record Others (c : Config) (lines : List ScheduleLine) (m s : ℕ) (told : List Told) (change : World → World) (w : World) : Type 0 where
    least : (t : ℕ) → s ≢ t → lawful.disk_at c lines (told_trace m told w) m t ≡ lawful.disk_at c lines (trace_of w) m t
    disks : (t : ℕ) → s ≢ t → disk_at wrote c lines (told_trace m told w) m t ≡ disk_at wrote c lines (trace_of w) m t
    scripts : (t : ℕ) → s ≢ t → script_of (change w) t ≡ script_of w t
    places : (t : ℕ) → s ≢ t → place_at (change w) t ≡ place_at w t

  one_site : (c : Config) (lines : List ScheduleLine) (m s : ℕ) (told : List Told) (change : World → World) (w : World) → CountsAreTheRuns wrote c lines m w → Others c lines m s told change w → SiteTo c lines m told w s (script_of (change w) s) (place_at (change w) s) →
      (t : ℕ) → SiteTo c lines m told w t (script_of (change w) t) (place_at (change w) t)
  one_site c lines m s told change w f others mine t = at_each s t (SiteTo c lines m told w t (script_of (change w) t) (place_at (change w) t))
      (λ e. subst (λ (u : ℕ). SiteTo c lines m told w u (script_of (change w) u) (place_at (change w) u)) e mine)
      (λ ne. site_as (lawful.disk_at c lines (told_trace m told w) m t) (lawful.disk_at c lines (trace_of w) m t) (disk_at wrote c lines (told_trace m told w) m t) (disk_at wrote c lines (trace_of w) m t)
      (script_of (change w) t) (script_of w t) (place_at (change w) t) (place_at w t) (others.least t ne) (others.disks t ne) (others.scripts t ne) (others.places t ne) (site_now c lines m t w f))

  -- ---- stops ----

  stop_others : (c : Config) (lines : List ScheduleLine) (m s : ℕ) (why : StopCause) (d : DiskLeft) (w : World) → Others c lines m s (Shown (says.Stopped s why) ∷ []) (stops_with s d) w
  stop_others c lines m s why d w = record {
    least = λ t ne. lawful_more c lines m t (says.Stopped s why) (trace_of w) ∙ lawful_stop_there c s t why (trace_of w) (lawful.disk_at c lines (trace_of w) m t) ne;
    disks = λ t ne. disk_more wrote c lines m t (says.Stopped s why) (trace_of w) ∙ stop_there (wrote (length (trace_of w))) c s t why (trace_of w) (disk_at wrote c lines (trace_of w) m t) ne;
    scripts = λ t ne. other_script s t w.armed ne;
    places = λ t ne. puts_other s t (Stopped d) w ne;
  }

  -- what a stop leaves
  abbrev StopTo : Config → List ScheduleLine → ℕ → ℕ → Bool → DiskLeft → World → Type 0
  StopTo c lines m s up d w = SiteAs (stopped_with up (lawful.disk_at c lines (trace_of w) m s) (lawful.armed_at c lines (trace_of w) m s)) (disk_stopped up (disk_at wrote c lines (trace_of w) m s)) None (Some (Stopped d))

  stop_site : (c : Config) (lines : List ScheduleLine) (m s : ℕ) (why : StopCause) (up : Bool) (d : DiskLeft) (w : World) → Rises w.armed → is_up c (trace_of w) s ≡ up → StopTo c lines m s up d w →
      SiteTo c lines m (Shown (says.Stopped s why) ∷ []) w s (script_of (stops_with s d w) s) (place_at (stops_with s d w) s)
  stop_site c lines m s why up d w rises is h =
      let least : lawful.Disk = lawful.disk_at c lines (trace_of w) m s in
      let old : Disk = disk_at wrote c lines (trace_of w) m s in
      let told : List Told = Shown (says.Stopped s why) ∷ [] in
      site_as (lawful.disk_at c lines (told_trace m told w) m s) (stopped_with up least least.armed) (disk_at wrote c lines (told_trace m told w) m s) (disk_stopped up old)
      (script_of (stops_with s d w) s) None (place_at (stops_with s d w) s) (Some (Stopped d))
      (lawful_more c lines m s (says.Stopped s why) (trace_of w) ∙ lawful_stop_here c s why up (trace_of w) least is)
      (disk_more wrote c lines m s (says.Stopped s why) (trace_of w) ∙ stop_here (wrote (length (trace_of w))) c s why up (trace_of w) old is) (gone_script s w.armed rises) (puts_same s (Stopped d) w) h

  stop_counts : (c : Config) (lines : List ScheduleLine) (m s : ℕ) (why : StopCause) (up : Bool) (d : DiskLeft) (w : World) → is_up c (trace_of w) s ≡ up →
      (CountsAreTheRuns wrote c lines m w → CountedRecord c lines m (trace_of w) (says.Stopped s why)) → (CountsAreTheRuns wrote c lines m w → StopTo c lines m s up d w) → Counts c lines m w → Counts c lines m (happened m [] (Shown (says.Stopped s why) ∷ []) (stops_with s d) w)
  stop_counts c lines m s why up d w is row site g = happened_counts c lines m [] (Shown (says.Stopped s why) ∷ []) (stops_with s d) w
      (λ r f. record {
        rises = rises_without s w.armed f.rises;
        sites = one_site c lines m s (Shown (says.Stopped s why) ∷ []) (stops_with s d) w f (stop_others c lines m s why d w) (stop_site c lines m s why up d w f.rises is (site f));
        rows = (row f, f.rows);
      }) g

  asked_site : (d : Disk) (x : Option Script) (v : SiteView) → CountsAt d x (Some (Running v)) → CountsAt (disk_stopped true d) None (Some (Stopped (disk_of v)))
  asked_site d x v h = by_armed d.rest.armed
    where
      none_open : length (disk_of v).both_open ≡ cond d.slots 1 0
      none_open = sym (ap (λ (b : Bool). cond b 1 0) h.gates.1)

      by_armed : (o : Option Armed) → CountsAt (record { rest = stopped_with true d.rest o; slots = slots_stopped true d.rest d.slots o }) None (Some (Stopped (disk_of v)))
      by_armed None = record { calls = tt; gates = (h.gates.0, none_open) }
      by_armed (Some a) = record { calls = tt; gates = (h.gates.0, none_open) }

  pub asked_counts : (c : Config) (lines : List ScheduleLine) (m s : ℕ) (v : SiteView) (w : World) → place_at w s ≡ Some (Running v) → is_up c (trace_of w) s ≡ true → Counts c lines m w → Counts c lines m (asked_stop m s v w)
  asked_counts c lines m s v w here up g = stop_counts c lines m s cause.Asked true (disk_of v) w up (λ f. tt)
      (λ f. (let k : SiteTo c lines m [] w s (script_of w s) (Some (Running v)) = site_by c lines m s (script_of w s) (Some (Running v)) w refl here f in
      record { counts = asked_site (disk_at wrote c lines (trace_of w) m s) (script_of w s) v k.counts; least = stop_least true (lawful.disk_at c lines (trace_of w) m s) (disk_at wrote c lines (trace_of w) m s) k.least })) g

  -- ---- boots ----

  -- the calls that were made so far pass
  calls_left : (c : Config) (lines : List ScheduleLine) (m s : ℕ) (a : Script) (w : World) → script_of w s ≡ Some a → CountsAreTheRuns wrote c lines m w → has_left (lawful.armed_at c lines (trace_of w) m s) ≡ true
  calls_left c lines m s a w e f = (let k : SiteTo c lines m [] w s (Some a) (place_at w s) = site_by c lines m s (Some a) (place_at w s) w e refl f in
      least_left (is_stopped (place_at w s)) (lawful.armed_at c lines (trace_of w) m s) (armed_at wrote c lines (trace_of w) m s) k.least.armed (has_calls (armed_at wrote c lines (trace_of w) m s) a k.counts.calls))

  -- what a boot leaves
  abbrev BootTo : Config → List ScheduleLine → ℕ → ℕ → Option Script → SiteView → World → Type 0
  BootTo c lines m s x u w = SiteAs (booted_with (lawful.disk_at c lines (trace_of w) m s) (lawful.armed_at c lines (trace_of w) m s)) (disk_booted (disk_at wrote c lines (trace_of w) m s)) x (Some (Running u))

  up_counts : (c : Config) (lines : List ScheduleLine) (m s boot : ℕ) (u : SiteView) (x : Option Script) (change : World → World) (w : World) → (Rises w.armed → Rises (change w).armed) → script_of (change w) s ≡ x → place_at (change w) s ≡ Some (Running u) →
      ((t : ℕ) → s ≢ t → script_of (change w) t ≡ script_of w t) → ((t : ℕ) → s ≢ t → place_at (change w) t ≡ place_at w t) → (CountsAreTheRuns wrote c lines m w → BootTo c lines m s x u w) → Counts c lines m w → Counts c lines m (happened m [] (Shown (says.Up s boot) ∷ []) change w)
  up_counts c lines m s boot u x change w rises script place scripts places site g = happened_counts c lines m [] (Shown (says.Up s boot) ∷ []) change w
      (λ r f. record {
        rises = rises f.rises;
        sites = one_site c lines m s told change w f
            (record {
              least = λ t ne. lawful_more c lines m t (says.Up s boot) (trace_of w) ∙ lawful_up_there c s t boot (trace_of w) (lawful.disk_at c lines (trace_of w) m t) ne;
              disks = λ t ne. disk_more wrote c lines m t (says.Up s boot) (trace_of w) ∙ up_there (wrote (length (trace_of w))) c s t boot (trace_of w) (disk_at wrote c lines (trace_of w) m t) ne;
              scripts = scripts;
              places = places;
            })
            (site_as (lawful.disk_at c lines (told_trace m told w) m s) (booted_with (lawful.disk_at c lines (trace_of w) m s) (lawful.armed_at c lines (trace_of w) m s)) (disk_at wrote c lines (told_trace m told w) m s) (disk_booted (disk_at wrote c lines (trace_of w) m s))
            (script_of (change w) s) x (place_at (change w) s) (Some (Running u))
            (lawful_more c lines m s (says.Up s boot) (trace_of w) ∙ lawful_up_here c s boot (trace_of w) (lawful.disk_at c lines (trace_of w) m s))
            (disk_more wrote c lines m s (says.Up s boot) (trace_of w) ∙ up_here (wrote (length (trace_of w))) c s boot (trace_of w) (disk_at wrote c lines (trace_of w) m s)) script place (site f));
        rows = (tt, f.rows);
      }) g
    where
      told : List Told
      told = Shown (says.Up s boot) ∷ []

  as_counts : (c : Config) (lines : List ScheduleLine) (m s : ℕ) (a : Script) (b : Booted) (w : World) → is_up c (trace_of w) s ≡ false → script_of w s ≡ Some a → GoesOn a b → (CountsAreTheRuns wrote c lines m w → BootCounts (disk_at wrote c lines (trace_of w) m s) a b) →
      (CountsAreTheRuns wrote c lines m w → IsLeast true (lawful.disk_at c lines (trace_of w) m s) (disk_at wrote c lines (trace_of w) m s)) → Counts c lines m w → Counts c lines m (boots_as m s b w)
  as_counts c lines m s a (Whole y None) w down e goes h least g = absurd goes
  as_counts c lines m s a (Whole y (Some z)) w down e goes h least g =
      up_counts c lines m s y.label.boot now (Some z) (λ u. arms z (puts s (Running now) u)) w (rises_with z w.armed)
      (ap (script_of (arms z w)) (sym own) ∙ armed_here z w) (puts_same s (Running now) w)
      (λ t ne. armed_other z t w (λ k. ne (sym own ∙ k))) (λ t ne. puts_other s t (Running now) w ne)
      (λ f. record { counts = h f now; least = boot_least (lawful.disk_at c lines (trace_of w) m s) (disk_at wrote c lines (trace_of w) m s) (least f) }) g
    where
      now : SiteView
      now = fresh y.label.boot y.copies

      own : z.site ≡ s
      own = goes ∙ script_site s w.armed a e
  as_counts c lines m s a (CutOff y how) w down e goes h least g =
      stop_counts c lines m s (cause_of how) false y w down (λ f. cut_counted c lines m s how (trace_of w) (may_now c lines m s (trace_of w) (calls_left c lines m s a w e f)))
      (λ f. record { counts = h f; least = stop_least false (lawful.disk_at c lines (trace_of w) m s) (disk_at wrote c lines (trace_of w) m s) (least f) }) g

  pub boot_counts_as : (c : Config) (lines : List ScheduleLine) (m s : ℕ) (d : DiskLeft) (w : World) → place_at w s ≡ Some (Stopped d) → is_up c (trace_of w) s ≡ false → Counts c lines m w → Counts c lines m (boots_as m s (boots (script_of w s) d) w)
  boot_counts_as c lines m s d w here down g = by_script (script_of w s) refl
    where
      by_script : (x : Option Script) → script_of w s ≡ x → Counts c lines m (boots_as m s (boots x d) w)
      by_script None e =
          up_counts c lines m s y.label.boot now None (λ u. puts s (Running now) u) w (λ k. k) e (puts_same s (Running now) w) (λ t ne. refl) (λ t ne. puts_other s t (Running now) w ne)
          (λ f. (let k : SiteTo c lines m [] w s None (Some (Stopped d)) = site_by c lines m s None (Some (Stopped d)) w e here f in
          record { counts = boot_free (disk_at wrote c lines (trace_of w) m s) now k.counts.calls; least = boot_least (lawful.disk_at c lines (trace_of w) m s) (disk_at wrote c lines (trace_of w) m s) k.least })) g
        where
          y : DiskLeft
          y = boots_freely (boot_writes d) d

          now : SiteView
          now = fresh y.label.boot y.copies
      by_script (Some a) e = as_counts c lines m s a (boots (Some a) d) w down e (boot_goes a d) (λ f. boot_counts (disk_at wrote c lines (trace_of w) m s) a d (site_by c lines m s (Some a) (Some (Stopped d)) w e here f).counts)
          (λ f. (site_by c lines m s (Some a) (Some (Stopped d)) w e here f).least) g

  -- ---- versions ----

  -- the record of what is written, told first of all, counts as the run's write
  counts_so : (c : Config) (m s : ℕ) (v : SiteView) (d : DiskWrite) (written_is : Option DiskWrite) (told rest : List Told) (w : World) → place_at w s ≡ Some (Running v) → written_is ≡ Some d → IsOf s d.says d.copy → told ≡ Shown d.says ∷ rest →
      (Past c w.trace → WorldFact c w → WritesSo c m w.trace s v.store written_is) → Holds c w → IsRest c (told_onto m told w.trace) → (x : Disk) → disk_after d.pages d.says c (trace_of w) s x ≡ disk_written (writing_of v.store d) x
  counts_so c m s v d written_is told rest w here is of_site first writes holds r x =
      let old : IsRest c w.trace = rest_before c m told w.trace r in
      let fact : WorldFact c w = holds old in
      let past : Past c w.trace = record { followed = fact.followed; rest = old } in
      let own : AllRest c m w.trace (Shown d.says ∷ rest) = subst (AllRest c m w.trace) first (rest_told c m told w.trace r) in
      subst (λ (t : Trace). disk_after d.pages d.says c t s x ≡ disk_written (writing_of v.store d) x) (sym (shown_entries w.trace))
      (write_is c m w.trace s v.store d past own.0 (writes past fact d is own.0) (site_copies c s w.trace v v.epoch (fact.places s (Running v) here)) of_site x)

  -- an event that tells of a version first, and of no other disk
  version_others : (c : Config) (lines : List ScheduleLine) (m s : ℕ) (r : Record) (rest : List Told) (change : World → World) (w : World) → VersionOf s r → Every NoDisk rest → ((t : ℕ) → s ≢ t → script_of (change w) t ≡ script_of w t) → ((t : ℕ) → s ≢ t → place_at (change w) t ≡ place_at w t) → Others c lines m s (Shown r ∷ rest) change w
  version_others c lines m s r rest change w own quiet scripts places = record {
    least = λ t ne. lawful_onto c lines m t rest first quiet ∙ (lawful_more c lines m t r (trace_of w) ∙ (a_version c s r own).elsewhere t (trace_of w) (lawful.disk_at c lines (trace_of w) m t) ne);
    disks = λ t ne. quiet_onto wrote c lines m t rest first quiet ∙ (disk_more wrote c lines m t r (trace_of w) ∙ version_there (wrote (length (trace_of w))) c s t r (trace_of w) (disk_at wrote c lines (trace_of w) m t) own ne);
    scripts = scripts;
    places = places;
  }
    where
      first : List Line
      first = record { number = m; told = Shown r } ∷ w.trace

  -- the disk of its site: as the version changes it, and as the lawful trace counts it
  version_now : (c : Config) (lines : List ScheduleLine) (m s : ℕ) (r : Record) (rest : List Told) (y : Writing) (x : Option Script) (p : Option Place) (u : SiteView) (w : World) → VersionOf s r → Every NoDisk rest → p ≡ Some (Running u) →
      ((d : Disk) → disk_after (wrote (length (trace_of w))) r c (trace_of w) s d ≡ disk_written y d) → IsLeast false (lawful.disk_at c lines (trace_of w) m s) (disk_at wrote c lines (trace_of w) m s) → CountsAt (disk_written y (disk_at wrote c lines (trace_of w) m s)) x (Some (Running u)) →
      SiteTo c lines m (Shown r ∷ rest) w s x p
  version_now c lines m s r rest y x p u w own quiet is so least counts =
      site_as (lawful.disk_at c lines (told_trace m (Shown r ∷ rest) w) m s) (lawful.disk_after r c (trace_of w) s (lawful.disk_at c lines (trace_of w) m s)) (disk_at wrote c lines (told_trace m (Shown r ∷ rest) w) m s) (disk_after (wrote (length (trace_of w))) r c (trace_of w) s old) x x p (Some (Running u))
      (lawful_onto c lines m s rest first quiet ∙ lawful_more c lines m s r (trace_of w)) (quiet_onto wrote c lines m s rest first quiet ∙ disk_more wrote c lines m s r (trace_of w)) refl is
      (record { counts = subst (λ (d : Disk). CountsAt d x (Some (Running u))) (sym (so old)) counts; least = version_least (wrote (length (trace_of w))) c s r (trace_of w) (lawful.disk_at c lines (trace_of w) m s) old own least })
    where
      first : List Line
      first = record { number = m; told = Shown r } ∷ w.trace

      old : Disk
      old = disk_at wrote c lines (trace_of w) m s

  -- a version is written, and the site runs on
  written_counts : (c : Config) (lines : List ScheduleLine) (m s : ℕ) (ps : List Packet) (r : Record) (rest : List Told) (y : Writing) (v u : SiteView) (x : Option Script) (change : World → World) (w : World) → place_at w s ≡ Some (Running v) → VersionOf s r → Every NoDisk rest → (Rises w.armed → Rises (change w).armed) → script_of (change w) s ≡ x → ((t : ℕ) → s ≢ t → script_of (change w) t ≡ script_of w t) → ((t : ℕ) → place_at (change w) t ≡ place_at w t) →
      (IsRest c (told_onto m (Shown r ∷ rest) w.trace) → (d : Disk) → disk_after (wrote (length (trace_of w))) r c (trace_of w) s d ≡ disk_written y d) → (CountsAreTheRuns wrote c lines m w → CountsAt (disk_written y (disk_at wrote c lines (trace_of w) m s)) x (Some (Running u))) →
      Counts c lines m w → Counts c lines m (happened m ps (Shown r ∷ rest) (λ now. puts s (Running u) (change now)) w)
  written_counts c lines m s ps r rest y v u x change w here own quiet rises script scripts places so site g = happened_counts c lines m ps (Shown r ∷ rest) (λ now. puts s (Running u) (change now)) w
      (λ k f. record {
        rises = rises f.rises;
        sites = one_site c lines m s (Shown r ∷ rest) (λ now. puts s (Running u) (change now)) w f
            (version_others c lines m s r rest (λ now. puts s (Running u) (change now)) w own quiet scripts (λ t ne. puts_other s t (Running u) (change w) ne ∙ places t))
            (subst (λ (z : Option Script). SiteTo c lines m (Shown r ∷ rest) w s z (place_at (puts s (Running u) (change w)) s)) (sym script)
            (version_now c lines m s r rest y x (place_at (puts s (Running u) (change w)) s) u w own quiet (puts_same s (Running u) (change w)) (so k) (site_by c lines m s (script_of w s) (Some (Running v)) w refl here f).least (site f)));
        rows = onto_counted c lines m rest (record { number = m; told = Shown r } ∷ w.trace) quiet (version_counted c lines m s r (trace_of w) own, f.rows);
      }) g

  -- a version is written, and the site is stopped in it
  cut_counts : (c : Config) (lines : List ScheduleLine) (m s : ℕ) (r : Record) (y : Writing) (a : Script) (v : SiteView) (d : DiskLeft) (w : World) → place_at w s ≡ Some (Running v) → VersionOf s r → is_up c (trace_of w) s ≡ true → script_of w s ≡ Some a →
      (IsRest c (told_onto m (Shown r ∷ Shown (says.Stopped s (cause_of a.how)) ∷ []) w.trace) → (x : Disk) → disk_after (wrote (length (trace_of w))) r c (trace_of w) s x ≡ disk_written y x) →
      (CountsAreTheRuns wrote c lines m w → CountsAt (disk_stopped true (disk_written y (disk_at wrote c lines (trace_of w) m s))) None (Some (Stopped d))) →
      Counts c lines m w → Counts c lines m (happened m [] (Shown r ∷ Shown (says.Stopped s (cause_of a.how)) ∷ []) (stops_with s d) w)
  cut_counts c lines m s r y a v d w here own up e so site g = happened_counts c lines m [] told (stops_with s d) w
      (λ k f. record {
        rises = rises_without s w.armed f.rises;
        sites = one_site c lines m s told (stops_with s d) w f
            (record {
              least = λ t ne. lawful_more c lines m t (says.Stopped s (cause_of a.how)) first ∙ (lawful_stop_there c s t (cause_of a.how) first (lawful.disk_at c lines first m t) ne ∙ (lawful_more c lines m t r (trace_of w) ∙ (a_version c s r own).elsewhere t (trace_of w) (lawful.disk_at c lines (trace_of w) m t) ne));
              disks = λ t ne. disk_more wrote c lines m t (says.Stopped s (cause_of a.how)) first ∙ (stop_there (wrote (length first)) c s t (cause_of a.how) first (disk_at wrote c lines first m t) ne ∙ (disk_more wrote c lines m t r (trace_of w) ∙ version_there (wrote (length (trace_of w))) c s t r (trace_of w) (disk_at wrote c lines (trace_of w) m t) own ne));
              scripts = λ t ne. other_script s t w.armed ne;
              places = λ t ne. puts_other s t (Stopped d) w ne;
            })
            (site_as (lawful.disk_at c lines (told_trace m told w) m s) (stopped_with true counted counted.armed) (disk_at wrote c lines (told_trace m told w) m s) (disk_stopped true (disk_after (wrote (length (trace_of w))) r c (trace_of w) s old))
            (script_of (stops_with s d w) s) None (place_at (stops_with s d w) s) (Some (Stopped d))
            (lawful_more c lines m s (says.Stopped s (cause_of a.how)) first ∙ (lawful_stop_here c s (cause_of a.how) true first (lawful.disk_at c lines first m s) (version_up c s s m r (trace_of w) own ∙ up) ∙ ap (λ (x : lawful.Disk). stopped_with true x x.armed) (lawful_more c lines m s r (trace_of w))))
            (disk_more wrote c lines m s (says.Stopped s (cause_of a.how)) first ∙ (stop_here (wrote (length first)) c s (cause_of a.how) true first (disk_at wrote c lines first m s) (version_up c s s m r (trace_of w) own ∙ up) ∙ ap (disk_stopped true) (disk_more wrote c lines m s r (trace_of w))))
            (gone_script s w.armed f.rises) (puts_same s (Stopped d) w)
            (record {
              counts = subst (λ (x : Disk). CountsAt (disk_stopped true x) None (Some (Stopped d))) (sym (so k old)) (site f);
              least = stop_least true counted (disk_after (wrote (length (trace_of w))) r c (trace_of w) s old) (version_least (wrote (length (trace_of w))) c s r (trace_of w) (lawful.disk_at c lines (trace_of w) m s) old own (site_by c lines m s (script_of w s) (Some (Running v)) w refl here f).least);
            }));
        rows = (cut_counted c lines m s a.how first (may_then c lines m s m s r (trace_of w) (a_version c s r own).writer (calls_left c lines m s a w e f)), (version_counted c lines m s r (trace_of w) own, f.rows));
      }) g
    where
      told : List Told
      told = Shown r ∷ Shown (says.Stopped s (cause_of a.how)) ∷ []

      first : Trace
      first = record { line = m; what = r } ∷ trace_of w

      old : Disk
      old = disk_at wrote c lines (trace_of w) m s

      counted : lawful.Disk
      counted = lawful.disk_after r c (trace_of w) s (lawful.disk_at c lines (trace_of w) m s)

  -- ---- an event of a running site ----

  -- what is written is told
  abbrev pub WroteIt : World → Option DiskWrite → Type 0
  WroteIt w o = (d : DiskWrite) → o ≡ Some d → wrote (length (trace_of w)) ≡ d.pages

  pub acts_counts : (c : Config) (lines : List ScheduleLine) (m s : ℕ) (k : Causes) (v : SiteView) (o : Outcome SiteView) (w : World) → place_at w s ≡ Some (Running v) → is_up c (trace_of w) s ≡ true → Every (SiteTold s k) o.told → DiskFirst s o.told o.written →
      (Past c w.trace → WorldFact c w → WritesSo c m w.trace s v.store o.written) → WroteIt w o.written → Holds c w → Counts c lines m w → Counts c lines m (acts m s v o w)
  acts_counts c lines m s k v o w here up h (inl u) writes pages holds g =
      subst (λ (x : Option DiskWrite). Counts c lines m (acts_of m s v o x w)) (sym u.0) (still_counts c lines m o.sent o.told (λ now. puts s (Running o.view) now) w refl (runs_stay s v o.view w here) (no_disks s k o.told h u.1) g)
  acts_counts c lines m s k v o w here up h (inr (d, wr)) writes pages holds g =
      subst (λ (x : Option DiskWrite). Counts c lines m (acts_of m s v o x w)) (sym wr.is_written) (by_script (script_of w s) refl)
    where
      own : VersionOf s d.says
      own = version_of s d.says d.copy wr.says_so

      quiet : Every NoDisk wr.rest
      quiet = no_disks s k wr.rest (subst (Every (SiteTold s k)) wr.told_is h).1 wr.still

      so : (rest : List Told) → IsRest c (told_onto m (Shown d.says ∷ rest) w.trace) → (x : Disk) → disk_after (wrote (length (trace_of w))) d.says c (trace_of w) s x ≡ disk_written (writing_of v.store d) x
      so rest r x = ap (λ (xs : List ℕ). disk_after xs d.says c (trace_of w) s x) (pages d wr.is_written) ∙ counts_so c m s v d o.written (Shown d.says ∷ rest) rest w here wr.is_written wr.says_so refl writes holds r x

      runs : (x : Option Script) (change : World → World) → (Rises w.armed → Rises (change w).armed) → script_of (change w) s ≡ x → ((t : ℕ) → s ≢ t → script_of (change w) t ≡ script_of w t) → ((t : ℕ) → place_at (change w) t ≡ place_at w t) →
          (CountsAreTheRuns wrote c lines m w → CountsAt (disk_written (writing_of v.store d) (disk_at wrote c lines (trace_of w) m s)) x (Some (Running o.view))) → Counts c lines m (runs_on m s o change w)
      runs x change rises script scripts places site = subst (λ (xs : List Told). Counts c lines m (happened m o.sent xs (λ now. puts s (Running o.view) (change now)) w)) (sym wr.told_is)
          (written_counts c lines m s o.sent d.says wr.rest (writing_of v.store d) v o.view x change w here own quiet rises script scripts places (so wr.rest) site g)

      spending : (a : Script) → script_of w s ≡ Some a → nat_lt a.left (write_calls v.store d) ≡ false → Counts c lines m (runs_on m s o (spends a (a.left - write_calls v.store d)) w)
      spending a e enough =
          let now : Script = record a { left = a.left - write_calls v.store d } in
          let site_is : a.site ≡ s = script_site s w.armed a e in
          runs (Some now) (arms now) (rises_with now w.armed) (ap (script_of (arms now w)) (sym site_is) ∙ armed_here now w) (λ t ne. armed_other now t w (λ q. ne (sym site_is ∙ q))) (λ t. refl)
          (λ f. whole_write v.store d (disk_at wrote c lines (trace_of w) m s) a v o.view enough (site_by c lines m s (Some a) (Some (Running v)) w e here f).counts)

      cutting : (a : Script) → script_of w s ≡ Some a → nat_lt a.left (write_calls v.store d) ≡ true → Counts c lines m (cut_event m s v d a w)
      cutting a e less = (elim (is_on_disk v.store d a.how a.left) as (λ b. is_on_disk v.store d a.how a.left ≡ b → Counts c lines m (happened m [] (cond b (Shown d.says ∷ Shown (says.Stopped s (cause_of a.how)) ∷ []) (Shown (says.Stopped s (cause_of a.how)) ∷ [])) (stops_with s left) w)) [
        | true ↦ λ q. cut_counts c lines m s d.says (writing_of v.store d) a v left w here own up e (so (Shown (says.Stopped s (cause_of a.how)) ∷ []))
            (λ f. cut_write v.store d (disk_at wrote c lines (trace_of w) m s) a v.boot v less (site_by c lines m s (Some a) (Some (Running v)) w e here f).counts) g
        | false ↦ λ q. stop_counts c lines m s (cause_of a.how) true left w up (λ f. cut_counted c lines m s a.how (trace_of w) (may_now c lines m s (trace_of w) (calls_left c lines m s a w e f)))
            (λ f. (let k : SiteTo c lines m [] w s (Some a) (Some (Running v)) = site_by c lines m s (Some a) (Some (Running v)) w e here f in
            record { counts = lost_write v.store d (disk_at wrote c lines (trace_of w) m s) a v.boot v q k.counts; least = stop_least true (lawful.disk_at c lines (trace_of w) m s) (disk_at wrote c lines (trace_of w) m s) k.least })) g
      ]) refl
        where
          left : DiskLeft
          left = cut_disk v.boot v.store d a.how a.left

      by_left : (a : Script) → script_of w s ≡ Some a → Counts c lines m (elim (nat_lt a.left (write_calls v.store d)) [ true ↦ cut_event m s v d a w | false ↦ runs_on m s o (spends a (a.left - write_calls v.store d)) w ])
      by_left a e = (elim (nat_lt a.left (write_calls v.store d)) as (λ b. nat_lt a.left (write_calls v.store d) ≡ b → Counts c lines m (elim b [ true ↦ cut_event m s v d a w | false ↦ runs_on m s o (spends a (a.left - write_calls v.store d)) w ])) [ true ↦ λ q. cutting a e q | false ↦ λ q. spending a e q ]) refl

      by_script : (x : Option Script) → script_of w s ≡ x → Counts c lines m (writes_of m s v o d x w)
      by_script None e = runs None (λ now. now) (λ q. q) e (λ t ne. refl) (λ t. refl)
          (λ f. free_write (writing_of v.store d) (disk_at wrote c lines (trace_of w) m s) (Some (Running o.view)) (other_view (lawful.disk_at c lines (trace_of w) m s) (disk_at wrote c lines (trace_of w) m s) None v o.view (site_by c lines m s None (Some (Running v)) w e here f)).counts)
      by_script (Some a) e = by_left a e

-- ---- what later records wrote ----

pub counts_agree : (a b : ℕ → List ℕ) (c : Config) (lines : List ScheduleLine) (n : ℕ) (w : World) → AgreeBelow (length (trace_of w)) a b → Counts a c lines n w → Counts b c lines n w
counts_agree a b c lines n w h g r =
    let f : CountsAreTheRuns a c lines n w = g r in
    record {
      rises = f.rises;
      sites = λ s. subst (λ (d : Disk). CountsAt d (script_of w s) (place_at w s)) (same s) (f.sites s);
      least = λ s. subst (IsLeast (is_stopped (place_at w s)) (lawful.disk_at c lines (trace_of w) n s)) (same s) (f.least s);
      rows = f.rows;
    }
  where
    same : (s : ℕ) → disk_at a c lines (trace_of w) n s ≡ disk_at b c lines (trace_of w) n s
    same s = ap (disk_through lines s (last_line (trace_of w)) n) (disk_agrees a b c lines (trace_of w) s h)
