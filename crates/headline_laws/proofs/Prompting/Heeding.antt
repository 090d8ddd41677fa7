-- In every run a site whose disk made more calls than pass stops next.
use Rattle.std.proofs.Common.{◌≡◌, ℕ, ◌+◌, ◌==◌, ◌≤◌, arith, Bool, true, false, cond, ◌||◌, List, [], ◌∷◌, length, map, Option, None, Some, refl, sym, ◌∙◌, ap, subst, inl, inr}
use Rattle.role_steps.proofs.of_plain_facts.Numbers.{equal_self}
use Rattle.role_steps.proofs.of_plain_facts.Options.{none_some, some_same}
use Rattle.locus_ids.specs.declared.config.Config.{Config}
use Rattle.schedule_lines.specs.Cluster.{config_of}
use Rattle.schedule_lines.specs.Schedule.{AreInOrder}
use Rattle.schedule_lines.specs.declared.line.ScheduleLine.{ScheduleLine}
use Rattle.trace_book.specs.declared.entry.Entry.{Entry}
use Rattle.trace_book.specs.declared.record.Record.{Record}
use Rattle.trace_book.specs.declared.record.Record.TheVariants as says
use Rattle.trace_book.specs.declared.record.StopCause.{StopCause}
use Rattle.trace_book.specs.declared.record.StopCause.TheVariants as cause
use Rattle.lawful_trace.specs.Disks.{Armed, Disk, armed_at, disk_at, has_left, writer_of}
use Rattle.lawful_trace.specs.Prompt.{is_cut_heeded_by, is_stop_of, last_writer}
use Rattle.role_steps.specs.Own.{Every}
use Rattle.role_steps.specs.Views.{DiskWrite, Event, Outcome, Receives, Shown, SiteView, Ticks, Told}
use Rattle.role_steps.proofs.Sending.{every_map}
use Rattle.the_run.specs.Disks.{Armed as Script, Booted, CutOff, Whole, boots, cut_disk, is_on_disk}
use Rattle.the_run.specs.Runs.{boots_as, packet_record, rearms, run}
use Rattle.the_run.specs.Steps.{step}
use Rattle.the_run.specs.Worlds.{Line, Running, World, acts, arms, cause_of, cut_told, disk_of, fresh, happened, links_of, passed, place_at, puts, script_of, stops_with, told_onto}
use Rattle.the_run.proofs.Boots.{acts_cases}
use Rattle.the_run.proofs.Events.{happened_keeps}
use Rattle.run_laws.specs.Naming.{DeedsOf}
use Rattle.site_laws.specs.Vectors.Held.{Still}
use Rattle.row_laws.specs.Arms.{NoDisk}
use Rattle.row_laws.specs.ByLine.{KeptIn}
use Rattle.row_laws.specs.Events.{SiteTold, causes_of}
use Rattle.row_laws.specs.Shown.{EachRecord, shown, trace_of}
use Rattle.row_laws.specs.Voids.{LinesFit}
use Rattle.row_laws.proofs.ArmsTraced.{no_disks, quiet_onto}
use Rattle.row_laws.proofs.AskedRun.{own_given}
use Rattle.row_laws.proofs.ByLine.{every_line}
use Rattle.row_laws.proofs.Causes.{comes_own, sent_polls}
use Rattle.row_laws.proofs.StepForms.{step_forms}
use Rattle.row_laws.proofs.Versions.{VersionOf, a_version, version_of}
use Rattle.row_laws.proofs.Fitting.{schedule_fits}
use Rattle.rest_laws.proofs.Packs.{schedule_packs}
use Rattle.rest_laws.proofs.Resting.{run_low, run_rests}
use Rattle.rest_laws.proofs.Roles.{roles_do}
use Rattle.rest_laws.proofs.StoreStepFirst.{four_groups}
use Rattle.calm_laws.specs.of_store_laws.OneTree.Rest.{IsRest, more}
use Rattle.calm_laws.specs.of_store_laws.OneTree.Roles.{RolesDo}
use Rattle.calm_laws.proofs.of_store_laws.OneTree.Composing.{rest_before}
use Rattle.headline_laws.specs.WholeRuns.CutCounts.{CountsAs, LeastArmed, is_stopped}
use Rattle.headline_laws.proofs.WholeRuns.CutEvents.{Counts}
use Rattle.headline_laws.proofs.WholeRuns.CutShaped.{DiskFirst, step_writes_first}
use Rattle.headline_laws.proofs.WholeRuns.CutWrites.{has_calls}
use Rattle.headline_laws.specs.Prompting.Stops.{HeedsItsDisk}
use Rattle.headline_laws.proofs.WholeRuns.CutCourse.{Counted, counts_kept, first_counted}
use Rattle.headline_laws.proofs.WholeRuns.CutDisks.{least_left}
use Rattle.headline_laws.specs.WholeRuns.Wrote as exact

-- ---- what was told ----

module _ (c : Config) (lines : List ScheduleLine) where
  -- whatever comes next, no stop is missing
  abbrev OwesNone : List Line → Type 0
  OwesNone t = (r : Entry) → is_cut_heeded_by c lines (shown t) r (last_writer (shown t)) ≡ true

  abbrev Heeded : List Line → Type 0
  Heeded t = EachRecord (HeedsItsDisk c lines) (shown t) × OwesNone t

  still_owes : (n : ℕ) (r : Record) (t : List Line) → Still (Shown r) → OwesNone (more n (Shown r) t)
  still_owes n r t k = over r k
    where
      over : (r : Record) → Still (Shown r) → (y : Entry) → is_cut_heeded_by c lines (record { line = n; what = r } ∷ shown t) y (writer_of r) ≡ true
      over (says.Commit file site stamp parents content) k y = absurd k
      over (says.Adopt file site stamp) k y = absurd k
      over _ k y = refl

  still_heeded : (n : ℕ) (xs : List Told) (t : List Line) → Every Still xs → Heeded t → Heeded (told_onto n xs t)
  still_heeded n [] t k h = h
  still_heeded n (x ∷ xs) t k h = still_heeded n xs (more n x t) k.1 (one x k.0)
    where
      one : (x : Told) → Still x → Heeded (more n x t)
      one (Shown r) s = ((h.1 (record { line = n; what = r }), h.0), still_owes n r t s)
      one _ s = h

  -- a disk whose calls all passed, as far as they are counted
  abbrev AllPassed : Option Armed → Type 0
  AllPassed None = Unit {0}
  AllPassed (Some a) = has_left (Some a) ≡ true

  counted_passed : (stopped : Bool) (o q : Option Armed) (x : Option Script) → LeastArmed stopped o q → CountsAs q x → AllPassed o
  counted_passed stopped None None x k h = tt
  counted_passed stopped (Some a) (Some b) (Some y) k h = least_left stopped (Some a) (Some b) k (has_calls (Some b) y h)
  counted_passed stopped (Some a) (Some b) None k h = absurd h
  counted_passed stopped (Some a) None x k h = absurd k
  counted_passed stopped None (Some b) x k h = absurd k

  passed_all : (o : Option Armed) (s : ℕ) (r : Record) → AllPassed o → elim o as (λ (y : Option Armed). Bool) [ None ↦ true | Some a ↦ has_left (Some a) || is_stop_of s r ] ≡ true
  passed_all None s r k = refl
  passed_all (Some a) s r k = ap (λ (b : Bool). b || is_stop_of s r) k

  stopped_now : (o : Option Armed) (s : ℕ) (why : StopCause) → elim o as (λ (y : Option Armed). Bool) [ None ↦ true | Some a ↦ has_left (Some a) || is_stop_of s (says.Stopped s why) ] ≡ true
  stopped_now None s why = refl
  stopped_now (Some a) s why = second (has_left (Some a)) (s == s) (equal_self s)
    where
      second : (a b : Bool) → b ≡ true → (a || b) ≡ true
      second true b e = refl
      second false b e = e

  version_heeded : (n s : ℕ) (r : Record) (rest : List Told) (t : List Line) → VersionOf s r → Every NoDisk rest → Every Still rest → AllPassed (disk_at c lines (shown (told_onto n (Shown r ∷ rest) t)) n s).armed → Heeded t → Heeded (told_onto n (Shown r ∷ rest) t)
  version_heeded n s r rest t own quiet still counts h = still_heeded n rest (more n (Shown r) t) still ((h.1 (record { line = n; what = r }), h.0), owes)
    where
      now : AllPassed (disk_at c lines (record { line = n; what = r } ∷ shown t) n s).armed
      now = subst (λ (d : Disk). AllPassed d.armed) (quiet_onto c lines n s rest (more n (Shown r) t) quiet) counts

      owes : OwesNone (more n (Shown r) t)
      owes y = subst (λ (o : Option ℕ). is_cut_heeded_by c lines (record { line = n; what = r } ∷ shown t) y o ≡ true) (sym (a_version c s r own).writer) (passed_all (armed_at c lines (record { line = n; what = r } ∷ shown t) n s) s y.what now)

  cut_heeded : (n s : ℕ) (r : Record) (why : StopCause) (t : List Line) → VersionOf s r → Heeded t → (b : Bool) → Heeded (told_onto n (cond b (Shown r ∷ Shown (says.Stopped s why) ∷ []) (Shown (says.Stopped s why) ∷ [])) t)
  cut_heeded n s r why t own h false = still_heeded n (Shown (says.Stopped s why) ∷ []) t (tt, tt) h
  cut_heeded n s r why t own h true = ((stops, (h.1 (record { line = n; what = r }), h.0)), still_owes n (says.Stopped s why) (more n (Shown r) t) tt)
    where
      stops : is_cut_heeded_by c lines (record { line = n; what = r } ∷ shown t) (record { line = n; what = says.Stopped s why }) (writer_of r) ≡ true
      stops = subst (λ (o : Option ℕ). is_cut_heeded_by c lines (record { line = n; what = r } ∷ shown t) (record { line = n; what = says.Stopped s why }) o ≡ true) (sym (a_version c s r own).writer) (stopped_now (armed_at c lines (record { line = n; what = r } ∷ shown t) n s) s why)

  -- ---- events ----

  abbrev Heeds : World → Type 0
  Heeds w = IsRest c w.trace → Heeded w.trace

  lone_heeds : (n : ℕ) (told : List Told) (change : World → World) (w : World) → Every Still told → Heeds w → Heeds (happened n [] told change w)
  lone_heeds n told change w k g = happened_keeps Heeds n [] told change w g (λ l r. g r) (λ a b d r. still_heeded n told w.trace k (g (rest_before c n told w.trace r)))

  does : (n s : ℕ) (e : Event) (v : SiteView) (w : World) → place_at w s ≡ Some (Running v) → Every (SiteTold s (causes_of s (links_of w s) v e)) (step c s (links_of w s) v e).told → Heeds w → (wrote : ℕ → List ℕ) → Counts wrote c lines n (acts n s v (step c s (links_of w s) v e) w) → Heeds (acts n s v (step c s (links_of w s) v e) w)
  does n s e v w here told g wrote = acts_cases (λ u. Counts wrote c lines n u → Heeds u) n s v o w
      (runs (λ now. puts s (Running o.view) now))
      (λ a. runs (λ now. puts s (Running o.view) (arms a now)))
      (λ d a q k. cut d a q)
    where
      o : Outcome SiteView
      o = step c s (links_of w s) v e

      by_disk : (xs : List Told) → DiskFirst s xs o.written → Every (SiteTold s (causes_of s (links_of w s) v e)) xs → AllPassed (disk_at c lines (shown (told_onto n xs w.trace)) n s).armed → Heeded w.trace → Heeded (told_onto n xs w.trace)
      by_disk xs (inl u) k counts h = still_heeded n xs w.trace u.1 h
      by_disk xs (inr (d, wr)) k counts h =
          subst (λ (ys : List Told). Heeded (told_onto n ys w.trace)) (sym wr.told_is)
          (version_heeded n s d.says wr.rest w.trace (version_of s d.says d.copy wr.says_so) (no_disks s (causes_of s (links_of w s) v e) wr.rest (subst (Every (SiteTold s (causes_of s (links_of w s) v e))) wr.told_is k).1 wr.still) wr.still
          (subst (λ (ys : List Told). AllPassed (disk_at c lines (shown (told_onto n ys w.trace)) n s).armed) wr.told_is counts) h)

      runs : (change : World → World) → Counts wrote c lines n (happened n o.sent o.told change w) → Heeds (happened n o.sent o.told change w)
      runs change = happened_keeps (λ u. Counts wrote c lines n u → Heeds u) n o.sent o.told change w (λ k. g) (λ l k r. g r)
          (λ a b d k r. by_disk o.told (step_writes_first c s (links_of w s) v e) told
          (counted_passed (is_stopped (place_at (change w) s)) (disk_at c lines (shown (told_onto n o.told w.trace)) n s).armed (exact.disk_at wrote c lines (shown (told_onto n o.told w.trace)) n s).rest.armed (script_of (change w) s) ((k r).least s).armed ((k r).sites s).calls) (g (rest_before c n o.told w.trace r)))

      cut : (d : DiskWrite) (a : Script) → o.written ≡ Some d → Heeds (happened n [] (cut_told s v.store d a.how a.left) (stops_with s (cut_disk v.boot v.store d a.how a.left)) w)
      cut d a q = happened_keeps Heeds n [] (cut_told s v.store d a.how a.left) (stops_with s (cut_disk v.boot v.store d a.how a.left)) w g (λ l r. g r)
          (λ i j k r. cut_heeded n s d.says (cause_of a.how) w.trace (own (step_writes_first c s (links_of w s) v e)) (g (rest_before c n (cut_told s v.store d a.how a.left) w.trace r)) (is_on_disk v.store d a.how a.left))
        where
          own : DiskFirst s o.told o.written → VersionOf s d.says
          own (inl u) = absurd (none_some d (sym u.0 ∙ q))
          own (inr (z, wr)) = subst (λ (y : DiskWrite). VersionOf s y.says) (some_same z d (sym wr.is_written ∙ q)) (version_of s z.says z.copy wr.says_so)

  booted : (n s : ℕ) (b : Booted) (w : World) → Heeds w → Heeds (boots_as n s b w)
  booted n s (Whole x a) w g = lone_heeds n (Shown (says.Up s x.label.boot) ∷ []) (λ now. rearms s a (puts s (Running (fresh x.label.boot x.copies)) now)) w (tt, tt) g
  booted n s (CutOff x how) w g = lone_heeds n (Shown (says.Stopped s (cause_of how)) ∷ []) (stops_with s x) w (tt, tt) g

  -- ---- all lines ----

  abbrev Both : ℕ → World → Type 0
  Both n w = Counted c lines n w × Heeds w

  kept_lines : LinesFit c lines → RolesDo c → KeptIn c lines Both
  kept_lines fit roles = record {
    begins = λ n w le q g. (one.begins n w le q g.0, g.1);
    ticks = λ n most s v w at here g. both (one.ticks n most s v w at here g.0) (does n s Ticks v w here (step_forms (DeedsOf w.trace s) s c (links_of w s) v Ticks (g.0.courses.good.views s v here) (g.0.courses.course.places s (Running v) here).2 tt).told g.1);
    receives = λ n l x v w at d here sent g. both (one.receives n l x v w at d here sent g.0) (does n x.packet.to (Receives x.packet) v (passed x.number w) here (step_forms (DeedsOf w.trace x.packet.to) x.packet.to c (links_of (passed x.number w) x.packet.to) v (Receives x.packet) (g.0.courses.good.views x.packet.to v here) (g.0.courses.course.places x.packet.to (Running v) here).2 (sent_polls c lines n w x sent g.0.courses.course)).told g.1);
    passes = λ n k w g. (one.passes n k w g.0, g.1);
    drops = λ n k w g. (one.drops n k w g.0, g.1);
    budgets = λ n most w at g. (one.budgets n most w at g.0, lone_heeds n (Shown says.Budget ∷ []) (λ now. now) w (tt, tt) g.1);
    voiding = λ n l w le at void g. (one.voiding n l w le at void g.0, lone_heeds (n + 1) (Shown says.Void ∷ []) (λ now. now) w (tt, tt) g.1);
    steps = λ n s l e v w le at gives here g. both (one.steps n s l e v w le at gives here g.0) (does (n + 1) s e v w here (step_forms (DeedsOf w.trace s) s c (links_of w s) v e (g.0.courses.good.views s v here) (g.0.courses.course.places s (Running v) here).2 (comes_own e (own_given w l s e gives))).told g.1);
    cutting = λ n a b w le at cut g. (one.cutting n a b w le at cut g.0, g.1);
    mending = λ n a b w le at cut g. (one.mending n a b w le at cut g.0, g.1);
    arming = λ n l a w le at it g. (one.arming n l a w le at it g.0, g.1);
    pending = λ n w le at g. (one.pending n w le at g.0, lone_heeds (n + 1) (map packet_record w.underway) (λ now. now) w (every_map Still packet_record w.underway (λ x. tt)) g.1);
    stopping = λ n s v w le at here g. (one.stopping n s v w le at here g.0, lone_heeds (n + 1) (Shown (says.Stopped s cause.Asked) ∷ []) (stops_with s (disk_of v)) w (tt, tt) g.1);
    booting = λ n s d w le at here g. (one.booting n s d w le at here g.0, booted (n + 1) s (boots (script_of w s) d) w g.1);
  }
    where
      one : KeptIn c lines (Counted c lines)
      one = counts_kept c lines fit roles

      both : {n : ℕ} {w : World} → Counted c lines n w → ((wrote : ℕ → List ℕ) → Counts wrote c lines n w → Heeds w) → Both n w
      both k f = (k, f k.wrote k.counts)

pub stops_next : (lines : List ScheduleLine) → AreInOrder lines → EachRecord (HeedsItsDisk (config_of lines) lines) (trace_of (run lines))
stops_next lines order =
    let c : Config = config_of lines in
    let few : length c.packs ≤ 4 = omega (arith, four_groups lines) in
    let roles : RolesDo c = roles_do c few in
    ((every_line c lines (Both c lines) (kept_lines c lines (schedule_fits lines order) roles) (first_counted c lines roles, λ r. (tt, λ y. refl))).1 (run_rests c lines (schedule_fits lines order) (schedule_packs lines order) (run_low c lines))).0
