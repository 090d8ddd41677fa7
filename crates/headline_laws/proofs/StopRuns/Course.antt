-- In every run the cuts are exact: what each line and each event keeps.
use Rattle.std.proofs.Common.{◌≡◌, ◌≤◌, ◌<◌, ℕ, ◌+◌, true, List, [], ◌∷◌, length, map, Option, Some, None, refl, sym, ◌∙◌, ap, subst, arith}
use Rattle.locus_ids.specs.declared.config.Config.{Config}
use Rattle.schedule_lines.specs.Cluster.{config_of}
use Rattle.schedule_lines.specs.Schedule.{AreInOrder}
use Rattle.schedule_lines.specs.declared.line.Line.{Line as LineWords}
use Rattle.schedule_lines.specs.declared.line.Line.TheVariants as line
use Rattle.schedule_lines.specs.declared.line.ScheduleLine.{ScheduleLine}
use Rattle.schedule_lines.specs.declared.line.ScheduleLine.TheVariants.{Event as EventLine}
use Rattle.trace_book.specs.declared.record.Record.TheVariants as says
use Rattle.role_steps.specs.Own.{Every}
use Rattle.role_steps.specs.Views.{SiteView, Told, Shown, DiskWrite, Event, Receives, Ticks}
use Rattle.role_steps.proofs.Sending.{every_map}
use Rattle.tree_model.specs.Epochs.{is_up}
use Rattle.the_run.specs.Disks.{boots}
use Rattle.the_run.specs.Runs.{run, run_in, asked_stop, boots_as, cuts_circuit, mends_circuit, packet_record}
use Rattle.the_run.specs.Steps.{step}
use Rattle.the_run.specs.Worlds.{World, Running, Stopped, Numbered, CutCircuit, place_at, script_of, links_of, happened, acts, passed, first_world}
use Rattle.run_laws.specs.Naming.{DeedsOf}
use Rattle.lawful_trace.specs.Places.{line_at}
use Rattle.lawful_trace.specs.Prompt.{stands_at}
use Rattle.tree_laws.specs.Doing.{WrittenFact}
use Rattle.row_laws.proofs.Versions.{VersionOf}
use Rattle.trace_book.specs.declared.record.Record.{Record}
use Rattle.row_laws.specs.Shown.{trace_of}
use Rattle.row_laws.specs.Events.{SiteTold, causes_of}
use Rattle.row_laws.specs.ByLine.{IsLine, KeptIn}
use Rattle.row_laws.specs.Arms.{NoDisk}
use Rattle.row_laws.specs.Voids.{LinesFit}
use Rattle.row_laws.proofs.AskedRun.{own_given, last_within}
use Rattle.row_laws.proofs.ByLine.{every_line}
use Rattle.row_laws.proofs.Causes.{comes_own, sent_polls}
use Rattle.row_laws.proofs.Fitting.{schedule_fits}
use Rattle.row_laws.proofs.StepForms.{step_forms}
use Rattle.calm_laws.specs.of_store_laws.OneTree.Rest.{IsRest, Past}
use Rattle.calm_laws.specs.of_store_laws.OneTree.Roles.{EventFact, RolesDo}
use Rattle.rest_laws.proofs.Packs.{schedule_packs}
use Rattle.rest_laws.proofs.Resting.{run_low, run_rests}
use Rattle.rest_laws.proofs.Roles.{roles_do}
use Rattle.rest_laws.proofs.StoreStepFirst.{four_groups}
use Rattle.calm_laws.proofs.of_store_laws.OneTree.Run.{kept, event_fact, arrives_fact}
use Rattle.calm_laws.proofs.of_store_laws.OneTree.Staying.{stays}
use Rattle.calm_laws.proofs.of_store_laws.OneTree.Worlds.{Holds}
use Rattle.headline_laws.specs.WholeRuns.Wrote.{AgreeBelow}
use Rattle.headline_laws.proofs.WholeRuns.CutDisks.{next_agrees}
use Rattle.headline_laws.proofs.WholeRuns.CutEvents.{Counts, counts_agree}
use Rattle.headline_laws.proofs.WholeRuns.CutLines.{next_counts}
use Rattle.headline_laws.proofs.WholeRuns.CutCourse.{Counted, counts_kept, first_counted, wrote_then, wrote_it}
use Rattle.headline_laws.proofs.WholeRuns.CutShaped.{step_writes_first}
use Rattle.headline_laws.proofs.WholeRuns.CutTraced.{LeavesDisks, gives_leaves}
use Rattle.headline_laws.specs.StopRuns.Stops.{CutsAreExact}
use Rattle.headline_laws.proofs.StopRuns.Events.{Exact, still_exact, asked_exact, boot_exact, acts_exact, exact_agrees}
use Rattle.headline_laws.proofs.StopRuns.Placed.{WritesAt, step_placed, stands_delivered, stands_given}
use Rattle.headline_laws.proofs.StopRuns.Stepping.{step_could}

-- the disks are counted, and by what was written the cuts are exact
record Kept (c : Config) (lines : List ScheduleLine) (n : ℕ) (w : World) : Type 0 where
  counted : Counted c lines n w
  exact : Exact counted.wrote c lines w

-- ---- events ----

says_cuts : (c : Config) (lines : List ScheduleLine) (m : ℕ) (told : List Told) (w : World) (wrote : ℕ → List ℕ) → Every NoDisk told → Exact wrote c lines w → Counts wrote c lines m (happened m [] told (λ now. now) w) → Exact wrote c lines (happened m [] told (λ now. now) w)
says_cuts c lines m told w wrote quiet h now = still_exact wrote c lines m [] told (λ now. now) w quiet h now

at_line : (lines : List ScheduleLine) (n : ℕ) (l : LineWords) (r : Record) → IsLine lines n l → stands_at (EventLine l) r ≡ true → stands_at (line_at lines n) r ≡ true
at_line lines n l r is h = ap (λ (x : ScheduleLine). stands_at x r) is ∙ h

placed_by : (lines : List ScheduleLine) (m s : ℕ) (e : Event) (x : Option DiskWrite) → ((r : Record) → VersionOf s r → WritesAt e r → stands_at (line_at lines m) r ≡ true) → WrittenFact (λ (d : DiskWrite). WritesAt e d.says) x → WrittenFact (λ (d : DiskWrite). VersionOf s d.says → stands_at (line_at lines m) d.says ≡ true) x
placed_by lines m s e None place h = tt
placed_by lines m s e (Some d) place h = λ own. place d.says own h

does_cuts : (c : Config) → RolesDo c → (lines : List ScheduleLine) (m s : ℕ) (e : Event) (v : SiteView) (w : World) (wrote : ℕ → List ℕ) → place_at w s ≡ Some (Running v) → is_up c (trace_of w) s ≡ true → Every (SiteTold s (causes_of s (links_of w s) v e)) (step c s (links_of w s) v e).told →
    (Past c w.trace → EventFact c w.trace s v e) → ((r : Record) → VersionOf s r → WritesAt e r → stands_at (line_at lines m) r ≡ true) → Holds c w → Counts wrote c lines m w → Exact wrote c lines w → Counts (wrote_then c s e v w wrote) c lines m (acts m s v (step c s (links_of w s) v e) w) → Exact (wrote_then c s e v w wrote) c lines (acts m s v (step c s (links_of w s) v e) w)
does_cuts c roles lines m s e v w wrote here up told fact place holds counts exact now =
    acts_exact (wrote_then c s e v w wrote) c lines m s (causes_of s (links_of w s) v e) v (step c s (links_of w s) v e) w here up told (step_writes_first c s (links_of w s) v e)
    (λ past f. step_could c roles s (links_of w s) w.trace v e past (f.places s (Running v) here) (fact past)) (placed_by lines m s e (step c s (links_of w s) v e).written place (step_placed c s (links_of w s) v e))
    (wrote_it (length (trace_of w)) (step c s (links_of w s) v e).written wrote) holds
    (counts_agree wrote (wrote_then c s e v w wrote) c lines m w agree counts) (exact_agrees wrote (wrote_then c s e v w wrote) c lines w agree exact) now
  where
    agree : AgreeBelow (length (trace_of w)) wrote (wrote_then c s e v w wrote)
    agree = next_agrees (length (trace_of w)) (step c s (links_of w s) v e).written wrote

begun : (c : Config) (lines : List ScheduleLine) (n : ℕ) (l : LineWords) (w : World) → n < length lines → IsLine lines (n + 1) l → LeavesDisks (EventLine l) → (p : Kept c lines n w) → Counts p.counted.wrote c lines (n + 1) w
begun c lines n l w there is none p = next_counts p.counted.wrote c lines n w (last_within n w.trace p.counted.courses.course.ascends) there (subst LeavesDisks (sym is) none) p.counted.counts

cuts_kept : (c : Config) (lines : List ScheduleLine) → LinesFit c lines → RolesDo c → KeptIn c lines (Kept c lines)
unfolding counts_kept
cuts_kept c lines fit roles = record {
  begins = λ n w there quiet p. record { counted = on.begins n w there quiet p.counted; exact = p.exact };
  ticks = λ n most s v w is here p. (let now : Counted c lines n (acts n s v (step c s (links_of w s) v Ticks) w) = on.ticks n most s v w is here p.counted in record {
    counted = now;
    exact = does_cuts c roles lines n s Ticks v w p.counted.wrote here (p.counted.courses.course.places s (Running v) here).0 (step_forms (DeedsOf w.trace s) s c (links_of w s) v Ticks (p.counted.courses.good.views s v here) (p.counted.courses.course.places s (Running v) here).2 tt).told (λ past. tt) (λ r own h. at_line lines n (line.Settle most) r is (stands_delivered (line.Settle most) s r tt own)) p.counted.holds p.counted.counts p.exact now.counts;
  });
  receives = λ n l x v w is d here sent p. (let now : Counted c lines n (acts n x.packet.to v (step c x.packet.to (links_of (passed x.number w) x.packet.to) v (Receives x.packet)) (passed x.number w)) = on.receives n l x v w is d here sent p.counted in record {
    counted = now;
    exact = does_cuts c roles lines n x.packet.to (Receives x.packet) v (passed x.number w) p.counted.wrote here (p.counted.courses.course.places x.packet.to (Running v) here).0
        (step_forms (DeedsOf w.trace x.packet.to) x.packet.to c (links_of (passed x.number w) x.packet.to) v (Receives x.packet) (p.counted.courses.good.views x.packet.to v here) (p.counted.courses.course.places x.packet.to (Running v) here).2 (sent_polls c lines n w x sent p.counted.courses.course)).told
        (λ past. (refl, arrives_fact c w x v (p.counted.holds past.rest) sent here)) (λ r own h. at_line lines n l r is (stands_delivered l x.packet.to r d own)) (held.passes n x.number w p.counted.holds) (on.passes n x.number w p.counted).counts p.exact now.counts;
  });
  passes = λ n k w p. record { counted = on.passes n k w p.counted; exact = p.exact };
  drops = λ n k w p. record { counted = on.drops n k w p.counted; exact = p.exact };
  budgets = λ n most w is p. (let now : Counted c lines n (happened n [] (Shown says.Budget ∷ []) (λ u. u) w) = on.budgets n most w is p.counted in record { counted = now; exact = says_cuts c lines n (Shown says.Budget ∷ []) w p.counted.wrote (tt, tt) p.exact now.counts });
  voiding = λ n l w there is void p. (let now : Counted c lines (n + 1) (happened (n + 1) [] (Shown says.Void ∷ []) (λ u. u) w) = on.voiding n l w there is void p.counted in record { counted = now; exact = says_cuts c lines (n + 1) (Shown says.Void ∷ []) w p.counted.wrote (tt, tt) p.exact now.counts });
  steps = λ n s l e v w there is g here p. (let now : Counted c lines (n + 1) (acts (n + 1) s v (step c s (links_of w s) v e) w) = on.steps n s l e v w there is g here p.counted in record {
    counted = now;
    exact = does_cuts c roles lines (n + 1) s e v w p.counted.wrote here (p.counted.courses.course.places s (Running v) here).0 (step_forms (DeedsOf w.trace s) s c (links_of w s) v e (p.counted.courses.good.views s v here) (p.counted.courses.course.places s (Running v) here).2 (comes_own e (own_given w l s e g))).told
        (λ past. event_fact c lines (n + 1) s l e v w fit is g here) (λ r own h. at_line lines (n + 1) l r is (stands_given w l s e r g h)) p.counted.holds (begun c lines n l w there is (gives_leaves w l s e g) p) p.exact now.counts;
  });
  cutting = λ n one other w there is cut p. record { counted = on.cutting n one other w there is cut p.counted; exact = p.exact };
  mending = λ n one other w there is cut p. record { counted = on.mending n one other w there is cut p.counted; exact = p.exact };
  arming = λ n l a w there is so p. record { counted = on.arming n l a w there is so p.counted; exact = p.exact };
  pending = λ n w there is p. (let now : Counted c lines (n + 1) (happened (n + 1) [] (map packet_record w.underway) (λ u. u) w) = on.pending n w there is p.counted in
      record { counted = now; exact = says_cuts c lines (n + 1) (map packet_record w.underway) w p.counted.wrote (every_map NoDisk packet_record w.underway (λ (x : Numbered). tt)) p.exact now.counts });
  stopping = λ n s v w there is here p. (let now : Counted c lines (n + 1) (asked_stop (n + 1) s v w) = on.stopping n s v w there is here p.counted in record { counted = now; exact = asked_exact p.counted.wrote c lines (n + 1) s v w p.exact now.counts });
  booting = λ n s d w there is here p. (let now : Counted c lines (n + 1) (boots_as (n + 1) s (boots (script_of w s) d) w) = on.booting n s d w there is here p.counted in
      record { counted = now; exact = boot_exact p.counted.wrote c lines (n + 1) s d w is here (p.counted.courses.course.places s (Stopped d) here).0 (begun c lines n (line.Boot s) w there is (λ t x. refl) p) p.exact now.counts });
}
  where
    on : KeptIn c lines (Counted c lines)
    on = counts_kept c lines fit roles

    held : KeptIn c lines (λ n w. Holds c w)
    held = kept c lines fit roles (stays c)

-- ---- every run ----

first_kept : (c : Config) (lines : List ScheduleLine) → RolesDo c → Kept c lines 0 (first_world c)
first_kept c lines roles = record { counted = first_counted c lines roles; exact = λ r. record { cuts = tt; heeds = tt } }

run_exact : (c : Config) (lines : List ScheduleLine) → LinesFit c lines → RolesDo c → IsRest c (run_in c lines).trace → CutsAreExact c lines (trace_of (run_in c lines))
run_exact c lines fit roles r = let p : Kept c lines (length lines) (run_in c lines) = every_line c lines (Kept c lines) (cuts_kept c lines fit roles) (first_kept c lines roles) in record { wrote = p.counted.wrote; exact = p.exact r }

pub schedule_exact : (lines : List ScheduleLine) → AreInOrder lines → CutsAreExact (config_of lines) lines (trace_of (run lines))
schedule_exact lines order =
    let few : length (config_of lines).packs ≤ 4 = omega (arith, four_groups lines) in
    let fit : LinesFit (config_of lines) lines = schedule_fits lines order in
    run_exact (config_of lines) lines fit (roles_do (config_of lines) few) (run_rests (config_of lines) lines fit (schedule_packs lines order) (run_low (config_of lines) lines))
