-- After each event of a run, and after each of its records, holds what its laws say of its end.
use Rattle.std.proofs.Common.{◌≡◌, ◌≤◌, ◌<◌, ℕ, zero, suc, ◌+◌, ◌-◌, ◌⊎◌, List, [], ◌∷◌, ◌++◌, length, take, drop, Option, Some, None, refl, sym, ◌∙◌, ap, subst, inl, inr, arith}
use Rattle.std.proofs.lemmas.List.{take-append-drop}
use Rattle.std.specs.Option.{option_map}
use Rattle.locus_ids.specs.declared.config.Config.{Config}
use Rattle.locus_ids.specs.declared.ids.FileId.{FileId}
use Rattle.locus_ids.specs.Sizes.{inode_span}
use Rattle.schedule_lines.specs.Cluster.{config_of}
use Rattle.schedule_lines.specs.Schedule.{AreInOrder}
use Rattle.schedule_lines.specs.declared.line.Line.TheVariants as line
use Rattle.schedule_lines.specs.declared.line.ScheduleLine.{ScheduleLine}
use Rattle.schedule_lines.specs.declared.line.ScheduleLine.TheVariants.{Event as EventLine}
use Rattle.role_steps.specs.Storage.{copy_key}
use Rattle.role_steps.specs.Tables.{row}
use Rattle.role_steps.specs.Views.{SiteView, all_sites, file_key}
use Rattle.role_steps.specs.declared.rounds.InEpoch.{InEpoch}
use Rattle.the_run.specs.Runs.{ticks_to, run_in}
use Rattle.the_run.specs.Worlds.{World, Place, Running, Stopped, Line}
use Rattle.tree_model.specs.Files.{held_version}
use Rattle.tree_model.specs.Folds.{Trace}
use Rattle.lawful_trace.specs.Places.{line_at, lines_before}
use Rattle.site_laws.specs.Vectors.Held.{copies_on}
use Rattle.row_laws.proofs.Fitting.{schedule_fits}
use Rattle.row_laws.specs.Orderly.Calm.{delivered, ticked}
use Rattle.row_laws.proofs.Orderly.Rounds.{ticks_kept}
use Rattle.row_laws.specs.Bounds.Asking.{RequestsBounded}
use Rattle.row_laws.specs.Bounds.Deliveries.{KeptLooksOpenNone}
use Rattle.row_laws.proofs.Bounds.RunsAsk.{requests_kept, requests_first}
use Rattle.row_laws.proofs.Bounds.RunsSend.{delivery_one, looks_kept, looks_first}
use Rattle.tree_laws.specs.Printed.{entries}
use Rattle.tree_laws.specs.Stores.{copy_for}
use Rattle.calm_laws.specs.of_store_laws.OneTree.Places.{PlaceFact, SiteIn, WorldFact}
use Rattle.calm_laws.specs.of_store_laws.OneTree.Rest.{EachRest, IsRest}
use Rattle.calm_laws.proofs.of_store_laws.OneTree.Worlds.{Holds}
use Rattle.rest_laws.proofs.Packs.{schedule_packs}
use Rattle.rest_laws.proofs.Roles.{roles_do}
use Rattle.rest_laws.proofs.Shown.{shown_entries}
use Rattle.calm_laws.proofs.Facts.{RoundFacts, holds_round, round_facts}
use Rattle.calm_laws.proofs.Moments.{GoesOn, goes_itself, goes_round_kept}
use Rattle.calm_laws.proofs.Convergence.TraceTicked.{ticks_then, rest_earlier}
use Rattle.rest_laws.proofs.CopiesKept.Contents.{world_contents}
use Rattle.headline_laws.specs.WholeRuns.Disks.{DisksHold}
use Rattle.headline_laws.specs.Promises.Moments.{HoldsAfterEvents, IsAfterEvent}
use Rattle.headline_laws.proofs.Promises.OneHistory.{history_is_one}
use Rattle.headline_laws.proofs.Promises.RoundMoments.{kept_after}
use Rattle.headline_laws.proofs.Promises.RunsHold.{few_groups}
use Rattle.headline_laws.proofs.Promises.Steadying.{fitting}
use Rattle.headline_laws.proofs.Promises.VersionsAfter.{versions_after}

-- ---- disks ----

abbrev DiskHolds : Config → List Line → ℕ → FileId → Place → Type 0
DiskHolds c trace s f p = row copy_key (file_key f) (copies_on p) ≡ option_map (copy_for f) (held_version c (entries trace) s f)

inside_or_not : (c : Config) (trace : List Line) (s : ℕ) (f : FileId) → f.ino < inode_span → (v : SiteView) (e : Option InEpoch) → SiteIn c s trace v e → DiskHolds c trace s f (Running v)
inside_or_not c trace s f low v None h = h.copies.are f low
inside_or_not c trace s f low v (Some e) h = h.store.copies.are f low

place_holds : (c : Config) (trace : List Line) (s : ℕ) (f : FileId) → f.ino < inode_span → (p : Place) → PlaceFact c s trace p → DiskHolds c trace s f p
place_holds c trace s f low (Running v) h = inside_or_not c trace s f low v v.epoch h
place_holds c trace s f low (Stopped d) h = h.copies.are f low

fact_disks : (c : Config) (w : World) → WorldFact c w → DisksHold c w
fact_disks c w h s p f here low = subst (λ (t : Trace). row copy_key (file_key f) (copies_on p) ≡ option_map (copy_for f) (held_version c t s f)) (sym (shown_entries w.trace)) (place_holds c w.trace s f low p (h.places s p here))

module _ (lines : List ScheduleLine) (order : AreInOrder lines) where
  abbrev c : Config
  c = config_of lines

  in_round : (n most j : ℕ) → line_at lines n ≡ EventLine (line.Settle most) → j ≤ most → RoundFacts (config_of lines) (delivered (config_of lines) n j (ticks_to (config_of lines) n all_sites (run_in (config_of lines) (lines_before lines n))))
  in_round n most j is few = round_facts (config_of lines) lines n _ (record { fit = schedule_fits lines order; packs = schedule_packs lines order; groups = few_groups lines; most = most; settles = is; deliveries = j; few = few; is_world = refl })

  ticking : (n most i : ℕ) → line_at lines n ≡ EventLine (line.Settle most) → WorldFact (config_of lines) (ticked (config_of lines) n i (run_in (config_of lines) (lines_before lines n)))
  ticking n most i is = ticks_kept c n (Holds c) (holds_round c n (roles_do c (few_groups lines))) (take i all_sites) first (λ r. (fitting lines order (n - 1)).fact) rest
    where
      first : World
      first = run_in (config_of lines) (lines_before lines n)

      at : World
      at = ticked (config_of lines) n i (run_in (config_of lines) (lines_before lines n))

      goes : GoesOn at (ticks_to (config_of lines) n all_sites first)
      goes = subst (λ (w : World). GoesOn at w) (sym (ticks_then (config_of lines) n (take i all_sites) (drop i all_sites) first) ∙ ap (λ (ss : List ℕ). ticks_to (config_of lines) n ss first) (take-append-drop i all_sites))
          (ticks_kept (config_of lines) n (GoesOn at) (goes_round_kept (config_of lines) n at) (drop i all_sites) at (goes_itself at))

      rest : IsRest (config_of lines) at.trace
      rest = (let r : IsRest (config_of lines) (ticks_to (config_of lines) n all_sites first).trace = (in_round n most 0 is (omega arith)).rest in
          record { each = rest_earlier (config_of lines) goes.lines at.trace (subst (λ (t : List Line). EachRest (config_of lines) t) goes.trace r.each); packs = r.packs })

  fact_after : (w : World) → IsAfterEvent (config_of lines) lines w → WorldFact (config_of lines) w
  fact_after w (inl h) = subst (WorldFact (config_of lines)) (sym h.1) (fitting lines order h.0).fact
  fact_after w (inr (inl h)) = subst (WorldFact (config_of lines)) (sym h.is_world) (ticking h.n h.most h.ticks h.settles)
  fact_after w (inr (inr h)) = subst (WorldFact (config_of lines)) (sym h.is_world) (in_round h.n h.most h.deliveries h.settles h.few).fact

  pub after_events : HoldsAfterEvents (config_of lines) lines
  after_events w h = record {
    disks = fact_disks (config_of lines) w (fact_after w h);
    history = history_is_one (config_of lines) w;
    versions = record { versions = versions_after (config_of lines) lines w h; contents = world_contents (config_of lines) w (fact_after w h) };
    requests = kept_after (config_of lines) RequestsBounded (requests_kept (config_of lines)) (requests_first (config_of lines)) lines w h;
    deliveries = delivery_one (config_of lines) w (kept_after (config_of lines) KeptLooksOpenNone (looks_kept (config_of lines)) (looks_first (config_of lines)) lines w h);
  }
