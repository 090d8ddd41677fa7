-- What an event of the world does to the cuts of its trace.
use Rattle.std.proofs.Common.{◌≡◌, ◌<◌, ℕ, ◌-◌, ◌*◌, nat_lt, Bool, true, false, cond, List, [], ◌∷◌, length, Option, Some, None, refl, sym, ◌∙◌, ap, subst, inl, inr}
use Rattle.role_steps.proofs.of_plain_facts.Tests.{true_false}
use Rattle.locus_ids.specs.declared.config.Config.{Config}
use Rattle.schedule_lines.specs.declared.line.Line.TheVariants as line
use Rattle.schedule_lines.specs.declared.line.ScheduleLine.{ScheduleLine}
use Rattle.trace_book.specs.declared.record.Record.{Record}
use Rattle.trace_book.specs.declared.record.Record.TheVariants as says
use Rattle.trace_book.specs.declared.record.StopCause.TheVariants as cause
use Rattle.wire_messages.specs.declared.packet.Packet.{Packet}
use Rattle.role_steps.specs.Own.{Every}
use Rattle.role_steps.specs.Views.{SiteView, Told, Shown, DiskWrite, Outcome}
use Rattle.role_steps.specs.declared.rounds.InEpoch.{InEpoch}
use Rattle.tree_model.specs.Folds.{Trace}
use Rattle.tree_model.specs.Epochs.{is_up}
use Rattle.disk_calls.specs.Boots.{calls_of_boot}
use Rattle.the_run.specs.Disks.{Disk as DiskLeft, Armed as Script, Cut, Booted, Whole, CutOff, boots, boots_freely, boot_writes, writing_of, write_calls, cut_disk, is_on_disk}
use Rattle.the_run.specs.Runs.{asked_stop, boots_as}
use Rattle.the_run.specs.Worlds.{World, Place, Running, Stopped, Line, place_at, script_of, told_onto, happened, puts, stops_with, disk_of, cause_of, cut_event, runs_on, spends, writes_of, acts_of, acts}
use Rattle.the_run.proofs.Boots.{at_each}
use Rattle.the_run.proofs.Events.{happened_keeps}
use Rattle.lawful_trace.specs.Disks.{is_cut_next}
use Rattle.headline_laws.specs.WholeRuns.Wrote.{Disk, disk_at, armed_at, AgreeBelow}
use Rattle.lawful_trace.specs.Places.{line_at}
use Rattle.lawful_trace.specs.Prompt.{stands_at}
use Rattle.tree_laws.specs.Doing.{WrittenFact}
use Rattle.tree_laws.specs.Stores.{CopiesAreHeld}
use Rattle.row_laws.specs.ByLine.{IsLine}
use Rattle.row_laws.specs.Shown.{shown, trace_of}
use Rattle.row_laws.specs.Events.{Causes, SiteTold}
use Rattle.row_laws.specs.Arms.{NoDisk}
use Rattle.row_laws.proofs.ArmsTraced.{no_disks}
use Rattle.row_laws.proofs.Versions.{VersionOf, version_of, a_version}
use Rattle.calm_laws.specs.of_store_laws.OneTree.Places.{SiteIn, WorldFact}
use Rattle.calm_laws.specs.of_store_laws.OneTree.Rest.{IsRest, Past}
use Rattle.calm_laws.proofs.of_store_laws.OneTree.Composing.{rest_before}
use Rattle.calm_laws.proofs.of_store_laws.OneTree.Worlds.{Holds}
use Rattle.rest_laws.proofs.Shown.{shown_entries}
use Rattle.headline_laws.specs.WholeRuns.CutCounts.{CountsAt, CountsAreTheRuns}
use Rattle.headline_laws.proofs.WholeRuns.CutDisks.{version_there}
use Rattle.headline_laws.proofs.WholeRuns.CutEvents.{Counts, WroteIt}
use Rattle.headline_laws.proofs.WholeRuns.CutShaped.{DiskFirst}
use Rattle.headline_laws.proofs.WholeRuns.CutTraced.{version_up}
use Rattle.headline_laws.specs.StopRuns.Stops.{CutRecord, IsUnderway, Writes, HeedsStops, AreExact, is_overrun}
use Rattle.headline_laws.proofs.StopRuns.Agreeing.{are_exact_still}
use Rattle.headline_laws.proofs.StopRuns.Boots.{boot_calls, cut_short}
use Rattle.headline_laws.proofs.StopRuns.Traced.{AllPass, counts_pass, cut_before, fails, heeds_any, more_exact, next_exact, pass_before, quiet_exact, stop_cut, stops_next, version_cut}
use Rattle.headline_laws.proofs.StopRuns.Versions.{IsScripted, armed_so, cut_at, scripted, version_is_cut, writes_so}
use Rattle.headline_laws.proofs.StopRuns.Writing.{Could, CouldTell}

module _ (wrote : ℕ → List ℕ) where
  -- as far as other laws give the rest of what was told
  abbrev pub Exact : Config → List ScheduleLine → World → Type 0
  Exact c lines w = IsRest c w.trace → AreExact wrote c lines (trace_of w)

  -- ---- one event ----

  -- the disks are counted after it
  event_exact : (c : Config) (lines : List ScheduleLine) (m : ℕ) (ps : List Packet) (told : List Told) (change : World → World) (w : World) → (IsRest c w.trace → AllPass wrote c lines m (shown (told_onto m told w.trace)) → AreExact wrote c lines (trace_of w) → AreExact wrote c lines (shown (told_onto m told w.trace))) →
      Exact c lines w → Counts wrote c lines m (happened m ps told change w) → Exact c lines (happened m ps told change w)
  event_exact c lines m ps told change w step h = happened_keeps (λ u. Counts wrote c lines m u → Exact c lines u) m ps told change w
      (λ g. h)
      (λ l g r. h r)
      (λ k b t g r. (let old : IsRest c w.trace = rest_before c m told w.trace r in step old (counts_pass wrote c lines m _ (g r)) (h old)))

  -- nothing is told of a disk
  pub still_exact : (c : Config) (lines : List ScheduleLine) (m : ℕ) (ps : List Packet) (told : List Told) (change : World → World) (w : World) → Every NoDisk told → Exact c lines w → Counts wrote c lines m (happened m ps told change w) → Exact c lines (happened m ps told change w)
  still_exact c lines m ps told change w quiet h g = event_exact c lines m ps told change w (λ r pass old. quiet_exact wrote c lines m told w.trace quiet (pass_before wrote c lines m told w.trace quiet pass) old) h g

  -- one record is told
  one_exact : (c : Config) (lines : List ScheduleLine) (m : ℕ) (ps : List Packet) (r : Record) (change : World → World) (w : World) → (IsRest c w.trace → CutRecord wrote c lines m (trace_of w) r) → Exact c lines w → Counts wrote c lines m (happened m ps (Shown r ∷ []) change w) → Exact c lines (happened m ps (Shown r ∷ []) change w)
  one_exact c lines m ps r change w row h g = event_exact c lines m ps (Shown r ∷ []) change w (λ rest pass old. next_exact wrote c lines m r (trace_of w) (row rest) old pass) h g

  -- ---- stops and boots ----

  pub asked_exact : (c : Config) (lines : List ScheduleLine) (m s : ℕ) (v : SiteView) (w : World) → Exact c lines w → Counts wrote c lines m (asked_stop m s v w) → Exact c lines (asked_stop m s v w)
  asked_exact c lines m s v w h g = one_exact c lines m [] (says.Stopped s cause.Asked) (stops_with s (disk_of v)) w (λ r. tt) h g

  -- a site by its script and its place
  site_by : (c : Config) (lines : List ScheduleLine) (n s : ℕ) (x : Option Script) (p : Option Place) (w : World) → script_of w s ≡ x → place_at w s ≡ p → CountsAreTheRuns wrote c lines n w → CountsAt (disk_at wrote c lines (trace_of w) n s) x p
  site_by c lines n s x p w e k f = subst (λ (y : Option Script). CountsAt (disk_at wrote c lines (trace_of w) n s) y p) e (subst (CountsAt (disk_at wrote c lines (trace_of w) n s) (script_of w s)) k (f.sites s))

  boot_cut : (c : Config) (lines : List ScheduleLine) (m s : ℕ) (a : Script) (d y : DiskLeft) (how : Cut) (before : Trace) → IsLine lines m (line.Boot s) → is_up c before s ≡ false → CountsAt (disk_at wrote c lines before m s) (Some a) (Some (Stopped d)) → boots (Some a) d ≡ CutOff y how → CutRecord wrote c lines m before (says.Stopped s (cause_of how))
  boot_cut c lines m s a d y how before is down at e = subst (λ (z : Cut). CutRecord wrote c lines m before (says.Stopped s (cause_of z))) short.1 (stop_cut wrote c lines m s a.how false before down (record {
    asked = record { asked = is };
    arming = k.arming;
    armed = armed_so wrote c lines before m s a k;
    passed = a.left;
    cut = cut_at (armed_at wrote c lines before m s) a k (calls_of_boot now.rest.halves now.slots) (subst (λ (n : ℕ). a.left < n) (boot_calls now.rest.halves now.slots d at.gates.0 at.gates.1) short.0);
  }))
    where
      now : Disk
      now = disk_at wrote c lines before m s

      k : IsScripted (armed_at wrote c lines before m s) a
      k = scripted (armed_at wrote c lines before m s) a at.calls

      short : (a.left < 2 * length (boot_writes d)) × (a.how ≡ how)
      short = cut_short a a.left (boot_writes d) d y how e

  booted_exact : (c : Config) (lines : List ScheduleLine) (m s : ℕ) (b : Booted) (w : World) → ((y : DiskLeft) (how : Cut) → b ≡ CutOff y how → CountsAreTheRuns wrote c lines m w → CutRecord wrote c lines m (trace_of w) (says.Stopped s (cause_of how))) →
      Counts wrote c lines m w → Exact c lines w → Counts wrote c lines m (boots_as m s b w) → Exact c lines (boots_as m s b w)
  booted_exact c lines m s (Whole y x) w cut before h g = one_exact c lines m [] (says.Up s y.label.boot) _ w (λ r. tt) h g
  booted_exact c lines m s (CutOff y how) w cut before h g = one_exact c lines m [] (says.Stopped s (cause_of how)) (stops_with s y) w (λ r. cut y how refl (before r)) h g

  pub boot_exact : (c : Config) (lines : List ScheduleLine) (m s : ℕ) (d : DiskLeft) (w : World) → IsLine lines m (line.Boot s) → place_at w s ≡ Some (Stopped d) → is_up c (trace_of w) s ≡ false → Counts wrote c lines m w → Exact c lines w →
      Counts wrote c lines m (boots_as m s (boots (script_of w s) d) w) → Exact c lines (boots_as m s (boots (script_of w s) d) w)
  boot_exact c lines m s d w is here down before h g = by_script (script_of w s) refl g
    where
      never : (y z : DiskLeft) (x : Option Script) (how : Cut) → ◌≡◌ {A = Booted} (Whole y x) (CutOff z how) → ⊥
      never y z x how e = cc

      by_script : (x : Option Script) → script_of w s ≡ x → Counts wrote c lines m (boots_as m s (boots x d) w) → Exact c lines (boots_as m s (boots x d) w)
      by_script None e k = booted_exact c lines m s (boots None d) w (λ y how q f. absurd (never (boots_freely (boot_writes d) d) y None how q)) before h k
      by_script (Some a) e k = booted_exact c lines m s (boots (Some a) d) w (λ y how q f. boot_cut c lines m s a d y how (trace_of w) is down (site_by c lines m s (Some a) (Some (Stopped d)) w e here f) q) before h k

  -- ---- versions ----

  site_copies : (c : Config) (s : ℕ) (trace : List Line) (v : SiteView) (o : Option InEpoch) → SiteIn c s trace v o → CopiesAreHeld c trace s v.store
  site_copies c s trace v None h = h.copies
  site_copies c s trace v (Some e) h = h.store.copies

  -- a version is written, and the site runs on
  written_exact : (c : Config) (lines : List ScheduleLine) (m s : ℕ) (ps : List Packet) (r : Record) (rest : List Told) (change : World → World) (w : World) → VersionOf s r → Every NoDisk rest → Exact c lines w → Counts wrote c lines m (happened m ps (Shown r ∷ rest) change w) → Exact c lines (happened m ps (Shown r ∷ rest) change w)
  written_exact c lines m s ps r rest change w own quiet h g = event_exact c lines m ps (Shown r ∷ rest) change w
      (λ k pass old. (let first : AllPass wrote c lines m (record { line = m; what = r } ∷ trace_of w) = pass_before wrote c lines m rest (record { number = m; told = Shown r } ∷ w.trace) quiet pass in
      quiet_exact wrote c lines m rest (record { number = m; told = Shown r } ∷ w.trace) quiet first (next_exact wrote c lines m r (trace_of w) (version_cut wrote c lines m s r (trace_of w) own) old first))) h g

  module _ (c : Config) (lines : List ScheduleLine) (m s : ℕ) (v : SiteView) (d : DiskWrite) (a : Script) (w : World) (own : VersionOf s d.says) (up : is_up c (trace_of w) s ≡ true) (here : place_at w s ≡ Some (Running v)) (e : script_of w s ≡ Some a) (lacks : nat_lt a.left (write_calls v.store d) ≡ true) where
    scripted_here : CountsAreTheRuns wrote c lines m w → IsScripted (armed_at wrote c lines (trace_of w) m s) a
    scripted_here f = scripted (armed_at wrote c lines (trace_of w) m s) a (site_by c lines m s (Some a) (Some (Running v)) w e here f).calls

    -- it is cut off, and on the disk
    stays_exact : is_on_disk v.store d a.how a.left ≡ true → (IsRest c w.trace → Writes (wrote (length (trace_of w))) c (trace_of w) d.says (writing_of v.store d)) → (change : World → World) → Counts wrote c lines m w → Exact c lines w → Counts wrote c lines m (happened m [] (Shown d.says ∷ Shown (says.Stopped s (cause_of a.how)) ∷ []) change w) →
        Exact c lines (happened m [] (Shown d.says ∷ Shown (says.Stopped s (cause_of a.how)) ∷ []) change w)
    stays_exact q writes change before h g = event_exact c lines m [] (Shown d.says ∷ Shown (says.Stopped s (cause_of a.how)) ∷ []) change w
        (λ r pass old. (let k : IsScripted (armed_at wrote c lines (trace_of w) m s) a = scripted_here (before r) in
        more_exact wrote c lines m (says.Stopped s (cause_of a.how)) first
        (stop_cut wrote c lines m s a.how true first (version_up c s s m d.says (trace_of w) own ∙ up) (inl (record { same_line = refl; arming = k.arming; armed = armed_so wrote c lines (trace_of w) m s a k; cut = version_is_cut wrote c (trace_of w) s v.store d (armed_at wrote c lines (trace_of w) m s) a k true (a_version c s d.says own).writer (writes r) lacks q })))
        (heeded (before r) old) (version_cut wrote c lines m s d.says (trace_of w) own, old.cuts) pass)) h g
      where
        first : Trace
        first = record { line = m; what = d.says } ∷ trace_of w

        heeded : CountsAreTheRuns wrote c lines m w → AreExact wrote c lines (trace_of w) → HeedsStops wrote c lines (Some (says.Stopped s (cause_of a.how))) first
        heeded f old = (
          (λ t over. at_each s t (is_cut_next (Some (says.Stopped s (cause_of a.how))) t ≡ true)
              (λ i. subst (λ (u : ℕ). is_cut_next (Some (says.Stopped s (cause_of a.how))) u ≡ true) i (stops_next s a.how))
              (λ ne. absurd (true_false (sym over ∙ (ap (λ (x : Disk). is_overrun x.rest.armed) (version_there (wrote (length (trace_of w))) c s t d.says (trace_of w) (disk_at wrote c lines (trace_of w) m t) own ne) ∙ counts_pass wrote c lines m w f t))))),
          heeds_any wrote c lines (Some d.says) (trace_of w) old.heeds,
        )

    -- it is cut off before
    lost_exact : is_on_disk v.store d a.how a.left ≡ false → (IsRest c w.trace → Writes (wrote (length (trace_of w))) c (trace_of w) d.says (writing_of v.store d)) → (IsRest c w.trace → IsUnderway c (trace_of w) d.says) → stands_at (line_at lines m) d.says ≡ true → (change : World → World) → Counts wrote c lines m w → Exact c lines w → Counts wrote c lines m (happened m [] (Shown (says.Stopped s (cause_of a.how)) ∷ []) change w) →
        Exact c lines (happened m [] (Shown (says.Stopped s (cause_of a.how)) ∷ []) change w)
    lost_exact q writes underway place change before h g = one_exact c lines m [] (says.Stopped s (cause_of a.how)) change w
        (λ r. (let k : IsScripted (armed_at wrote c lines (trace_of w) m s) a = scripted_here (before r) in
        stop_cut wrote c lines m s a.how true (trace_of w) up (cut_before wrote c lines m s (fails a.how) (trace_of w)
        (record { arming = k.arming; armed = armed_so wrote c lines (trace_of w) m s a k; version = d.says; underway = underway r; place = place; cut = version_is_cut wrote c (trace_of w) s v.store d (armed_at wrote c lines (trace_of w) m s) a k false (a_version c s d.says own).writer (writes r) lacks q })))) h g

  -- ---- an event of a running site ----

  pub acts_exact : (c : Config) (lines : List ScheduleLine) (m s : ℕ) (k : Causes) (v : SiteView) (o : Outcome SiteView) (w : World) → place_at w s ≡ Some (Running v) → is_up c (trace_of w) s ≡ true → Every (SiteTold s k) o.told → DiskFirst s o.told o.written →
      (Past c w.trace → WorldFact c w → Could c w.trace o.written) → WrittenFact (λ (x : DiskWrite). VersionOf s x.says → stands_at (line_at lines m) x.says ≡ true) o.written → WroteIt wrote w o.written → Holds c w → Counts wrote c lines m w → Exact c lines w → Counts wrote c lines m (acts m s v o w) → Exact c lines (acts m s v o w)
  acts_exact c lines m s k v o w here up told (inl u) could placed pages holds before h = subst (λ (x : Option DiskWrite). Counts wrote c lines m (acts_of m s v o x w) → Exact c lines (acts_of m s v o x w)) (sym u.0)
      (λ g. still_exact c lines m o.sent o.told (λ now. puts s (Running o.view) now) w (no_disks s k o.told told u.1) h g)
  acts_exact c lines m s k v o w here up told (inr (d, wr)) could placed pages holds before h = subst (λ (x : Option DiskWrite). Counts wrote c lines m (acts_of m s v o x w) → Exact c lines (acts_of m s v o x w)) (sym wr.is_written) (by_script (script_of w s) refl)
    where
      own : VersionOf s d.says
      own = version_of s d.says d.copy wr.says_so

      quiet : Every NoDisk wr.rest
      quiet = no_disks s k wr.rest (subst (Every (SiteTold s k)) wr.told_is told).1 wr.still

      past : IsRest c w.trace → Past c w.trace
      past r = record { followed = (holds r).followed; rest = r }

      it_could : IsRest c w.trace → CouldTell c w.trace d
      it_could r = subst (Could c w.trace) wr.is_written (could (past r) (holds r))

      writes : IsRest c w.trace → Writes (wrote (length (trace_of w))) c (trace_of w) d.says (writing_of v.store d)
      writes r = subst (λ (ps : List ℕ). Writes ps c (trace_of w) d.says (writing_of v.store d)) (sym (pages d wr.is_written))
          (subst (λ (t : Trace). Writes d.pages c t d.says (writing_of v.store d)) (sym (shown_entries w.trace)) (writes_so c w.trace s v.store d (it_could r) (site_copies c s w.trace v v.epoch ((holds r).places s (Running v) here)) wr.says_so))

      underway : IsRest c w.trace → IsUnderway c (trace_of w) d.says
      underway r = subst (λ (t : Trace). IsUnderway c t d.says) (sym (shown_entries w.trace)) (it_could r).underway

      place : stands_at (line_at lines m) d.says ≡ true
      place = subst (WrittenFact (λ (x : DiskWrite). VersionOf s x.says → stands_at (line_at lines m) x.says ≡ true)) wr.is_written placed own

      runs : (change : World → World) → Counts wrote c lines m (runs_on m s o change w) → Exact c lines (runs_on m s o change w)
      runs change = subst (λ (xs : List Told). Counts wrote c lines m (happened m o.sent xs (λ now. puts s (Running o.view) (change now)) w) → Exact c lines (happened m o.sent xs (λ now. puts s (Running o.view) (change now)) w)) (sym wr.told_is)
          (λ g. written_exact c lines m s o.sent d.says wr.rest (λ now. puts s (Running o.view) (change now)) w own quiet h g)

      cutting : (a : Script) → script_of w s ≡ Some a → nat_lt a.left (write_calls v.store d) ≡ true → Counts wrote c lines m (cut_event m s v d a w) → Exact c lines (cut_event m s v d a w)
      cutting a e less = (elim (is_on_disk v.store d a.how a.left) as (λ b. is_on_disk v.store d a.how a.left ≡ b → Counts wrote c lines m (happened m [] (cond b (Shown d.says ∷ Shown (says.Stopped s (cause_of a.how)) ∷ []) (Shown (says.Stopped s (cause_of a.how)) ∷ [])) (stops_with s left) w) →
          Exact c lines (happened m [] (cond b (Shown d.says ∷ Shown (says.Stopped s (cause_of a.how)) ∷ []) (Shown (says.Stopped s (cause_of a.how)) ∷ [])) (stops_with s left) w)) [
            | true ↦ λ q g. stays_exact c lines m s v d a w own up here e less q writes (stops_with s left) before h g
            | false ↦ λ q g. lost_exact c lines m s v d a w own up here e less q writes underway place (stops_with s left) before h g
          ]) refl
        where
          left : DiskLeft
          left = cut_disk v.boot v.store d a.how a.left

      by_left : (a : Script) → script_of w s ≡ Some a → (b : Bool) → nat_lt a.left (write_calls v.store d) ≡ b → Counts wrote c lines m (elim b [ true ↦ cut_event m s v d a w | false ↦ runs_on m s o (spends a (a.left - write_calls v.store d)) w ]) →
          Exact c lines (elim b [ true ↦ cut_event m s v d a w | false ↦ runs_on m s o (spends a (a.left - write_calls v.store d)) w ])
      by_left a e true q = cutting a e q
      by_left a e false q = runs (spends a (a.left - write_calls v.store d))

      by_script : (x : Option Script) → script_of w s ≡ x → Counts wrote c lines m (writes_of m s v o d x w) → Exact c lines (writes_of m s v o d x w)
      by_script None e = runs (λ now. now)
      by_script (Some a) e = by_left a e (nat_lt a.left (write_calls v.store d)) refl

-- what later records wrote
pub exact_agrees : (a b : ℕ → List ℕ) (c : Config) (lines : List ScheduleLine) (w : World) → AgreeBelow (length (trace_of w)) a b → Exact a c lines w → Exact b c lines w
exact_agrees a b c lines w h k r = are_exact_still a b c lines (trace_of w) h (k r)
