-- After each event of a run holds of versions what holds at its end: what stands on disks is kept by every event, and the
-- laws of what was told hold of what was told before.
use Rattle.std.proofs.Common.{◌≡◌, ◌≤◌, ℕ, ◌+◌, ◌⊎◌, List, [], ◌∷◌, ◌++◌, take, drop, refl, sym, ◌∙◌, ap, subst, inl, inr, arith}
use Rattle.std.proofs.lemmas.List.{take-append-drop}
use Rattle.locus_ids.specs.declared.config.Config.{Config}
use Rattle.locus_ids.specs.declared.ids.FileId.{FileId}
use Rattle.trace_book.specs.declared.record.Record.TheVariants as says
use Rattle.schedule_lines.specs.declared.line.ScheduleLine.{ScheduleLine}
use Rattle.wire_messages.specs.declared.packet.Packet.{Packet}
use Rattle.role_steps.specs.Storage.{copy_key}
use Rattle.role_steps.specs.Tables.{row}
use Rattle.role_steps.specs.Views.{SiteView, Told, Shown, Outcome, all_sites, file_key}
use Rattle.role_steps.specs.declared.copies.FileCopy.{FileCopy}
use Rattle.the_run.specs.Runs.{budget_ends, ticks_to, run_in}
use Rattle.the_run.specs.Worlds.{World, happened, told_onto, puts, arms, passed, stops_with, acts}
use Rattle.the_run.proofs.Boots.{every_weaker}
use Rattle.the_run.proofs.Events.{acts_keeps, happened_keeps}
use Rattle.the_run.proofs.InsideSync.{row_found}
use Rattle.tree_model.specs.Histories.{history}
use Rattle.lawful_trace.specs.Places.{lines_before}
use Rattle.site_laws.specs.Vectors.Facts.{CopyFact, onto}
use Rattle.site_laws.specs.Vectors.Held.{CopiesAreTold, copies_on}
use Rattle.site_laws.specs.Vectors.HistoryCommits.{CopiesAreTrue, IsTrueCopy, Lawful, WhereLawful, commits_of}
use Rattle.site_laws.specs.Vectors.Written.{past_of}
use Rattle.site_laws.proofs.Vectors.FactsRun.{past_onto}
use Rattle.site_laws.proofs.Vectors.Held.{first_told, told_kept}
use Rattle.site_laws.proofs.Vectors.HistoryCovers.{counts_kept, first_counted, held_by}
use Rattle.site_laws.proofs.Vectors.HistoryHistory.{vectors_tell}
use Rattle.site_laws.proofs.Vectors.HistorySited.{true_copy}
use Rattle.site_laws.proofs.Makes.RunningOrders.{run_orderly}
use Rattle.site_laws.proofs.Makes.RunningStandRun.{Orderly}
use Rattle.site_laws.specs.Kept.Keeping.{AreOrdered}
use Rattle.site_laws.specs.Kept.Known.{IsVersion, NamesAreVersions}
use Rattle.site_laws.specs.Kept.Printed.{known_in, versions_of}
use Rattle.site_laws.specs.Kept.Roots.{RootsFollow}
use Rattle.site_laws.specs.Kept.StampLaws.{Laws}
use Rattle.site_laws.proofs.Kept.Candidates.{candidates_stand}
use Rattle.site_laws.proofs.Kept.Greatest.{under_kept}
use Rattle.site_laws.proofs.Kept.Grown.{versions_grow}
use Rattle.site_laws.proofs.Kept.NamesRun.{run_named}
use Rattle.site_laws.proofs.Kept.Ordered.{ordered}
use Rattle.site_laws.proofs.Kept.RootsRun.{run_roots}
use Rattle.site_laws.proofs.Kept.StampCoversRun.{WorldCovers}
use Rattle.site_laws.proofs.Kept.StampEarlier.{orderly_before}
use Rattle.site_laws.proofs.Kept.StampTold.{laws_before}
use Rattle.site_laws.proofs.Kept.Standing.{StandsIn, written_stands}
use Rattle.site_laws.proofs.Kept.VectorsKeep.{kept_same}
use Rattle.rest_laws.specs.CopiesKept.Hold.{VersionsStand}
use Rattle.rest_laws.proofs.CopiesKept.CoversKept.{All, all_kept, first_all}
use Rattle.rest_laws.proofs.CopiesKept.LawsRun.{run_laws}
use Rattle.row_laws.specs.Orderly.Calm.{delivered, ticked}
use Rattle.row_laws.proofs.Orderly.Rounds.{RoundKept, ticks_kept}
use Rattle.calm_laws.proofs.Convergence.TraceTicked.{ticks_then}
use Rattle.headline_laws.specs.Promises.Moments.{IsAfterEvent, IsDelivering, IsTicking, with_round}
use Rattle.headline_laws.proofs.Promises.RoundMoments.{kept_after, moments_end}
use Rattle.headline_laws.proofs.Promises.VectorsNow.{ToldSo, grounds}

-- ---- the laws of what was told ----

record TraceLaws (c : Config) (w : World) : Type 0 where
  laws : Laws c (past_of w.trace)
  order : Orderly w
  roots : RootsFollow (past_of w.trace)
  named : NamesAreVersions (past_of w.trace)

run_trace_laws : (c : Config) (lines : List ScheduleLine) → TraceLaws c (run_in c lines)
run_trace_laws c lines = record { laws = run_laws c lines; order = run_orderly c lines; roots = run_roots c lines; named = run_named c lines }

roots_before : (told past : List Told) → RootsFollow (onto told past) → RootsFollow past
roots_before [] past h = h
roots_before (x ∷ xs) past h = (roots_before xs (x ∷ past) h).1

named_before : (told past : List Told) → NamesAreVersions (onto told past) → NamesAreVersions past
named_before [] past h = h
named_before (x ∷ xs) past h = (named_before xs (x ∷ past) h).1

-- where they hold of the later world they hold of the earlier one
abbrev Earlier : Config → World → World → Type 0
Earlier c first w = TraceLaws c w → TraceLaws c first

happened_earlier : (c : Config) (n : ℕ) (ps : List Packet) (told : List Told) (change : World → World) (first w : World) → (change w).sent ≡ w.sent → Earlier c first w → Earlier c first (happened n ps told change w)
happened_earlier c n ps told change first w sent g =
    happened_keeps (Earlier c first) n ps told change w g
    (λ l h. g (record { laws = h.laws; order = h.order; roots = h.roots; named = h.named }))
    (λ k b t h. g (record {
      laws = laws_before c told past (subst (Laws c) same h.laws);
      order = orderly_before n ps told change w b t sent h.order;
      roots = roots_before told past (subst RootsFollow same h.roots);
      named = named_before told past (subst NamesAreVersions same h.named);
    }))
  where
    past : List Told
    past = past_of w.trace

    same : past_of (told_onto n told w.trace) ≡ onto told past
    same = past_onto n told w.trace

acts_earlier : (c : Config) (n s : ℕ) (v : SiteView) (o : Outcome SiteView) (first w : World) → Earlier c first w → Earlier c first (acts n s v o w)
acts_earlier c n s v o first w g = acts_keeps (Earlier c first) n s v o w
    (λ ps told place. happened_earlier c n ps told (λ now. puts s place now) first w refl g)
    (λ ps told place a. happened_earlier c n ps told (λ now. puts s place (arms a now)) first w refl g)
    (λ ps told d. happened_earlier c n ps told (stops_with s d) first w refl g)

passed_earlier : (c : Config) (k : ℕ) (first w : World) → Earlier c first w → Earlier c first (passed k w)
passed_earlier c k first w g h = g (record { laws = h.laws; order = h.order; roots = h.roots; named = h.named })

earlier_round : (c : Config) (n : ℕ) (first : World) → RoundKept c n (Earlier c first)
earlier_round c n first = record {
  ticks = λ s v w here g. acts_earlier c n s v _ first w g;
  receives = λ x v w here a undropped g. acts_earlier c n x.packet.to v _ first (passed x.number w) (passed_earlier c x.number first w g);
  drops = λ x w a dropped g. passed_earlier c x.number first w g;
  budgets = λ w g. happened_earlier c n [] (Shown says.Budget ∷ []) (λ now. now) first w refl g;
}

-- ---- so they hold after each event ----

delivering_laws : (c : Config) (lines : List ScheduleLine) (w : World) → IsDelivering c lines w → TraceLaws c w
delivering_laws c lines w h = by_end (moments_end c lines w h)
  where
    ends : World
    ends = run_in c (with_round (lines_before lines h.n) h.deliveries)

    by_end : (ends ≡ w) ⊎ (ends ≡ budget_ends h.n w) → TraceLaws c w
    by_end (inl e) = subst (TraceLaws c) e (run_trace_laws c (with_round (lines_before lines h.n) h.deliveries))
    by_end (inr e) = (earlier_round c h.n w).budgets w (λ z. z) (subst (TraceLaws c) e (run_trace_laws c (with_round (lines_before lines h.n) h.deliveries)))

ticking_laws : (c : Config) (lines : List ScheduleLine) (w : World) → IsTicking c lines w → TraceLaws c w
ticking_laws c lines w h = subst (TraceLaws c) (sym h.is_world) (goes (delivering_laws c lines start (record { n = h.n; most = h.most; settles = h.settles; deliveries = 0; few = omega arith; is_world = refl })))
  where
    first : World
    first = run_in c (lines_before lines h.n)

    at : World
    at = ticked c h.n h.ticks first

    start : World
    start = ticks_to c h.n all_sites first

    goes : Earlier c at start
    goes = subst (λ (u : World). Earlier c at u) (sym (ticks_then c h.n (take h.ticks all_sites) (drop h.ticks all_sites) first) ∙ ap (λ (ss : List ℕ). ticks_to c h.n ss first) (take-append-drop h.ticks all_sites))
        (ticks_kept c h.n (Earlier c at) (earlier_round c h.n at) (drop h.ticks all_sites) at (λ z. z))

laws_after : (c : Config) (lines : List ScheduleLine) (w : World) → IsAfterEvent c lines w → TraceLaws c w
laws_after c lines w (inl h) = subst (TraceLaws c) (sym h.1) (run_trace_laws c (take h.0 lines))
laws_after c lines w (inr (inl h)) = ticking_laws c lines w h
laws_after c lines w (inr (inr h)) = delivering_laws c lines w h

-- ---- versions ----

versions_stand : (c : Config) (w : World) → TraceLaws c w → CopiesAreTold c w → WhereLawful w → All c w → VersionsStand c w
versions_stand c w t told counts all = record {
  kept = record {
    versions = record {
      once = f.once;
      tell = λ file. vectors_tell file past f.numbered t.laws.sited (f.once file);
      written = λ s p here. (f.places s p here).written;
      copies = copies;
      held = λ s p file here small. held_by past lawful s file (row copy_key (file_key file) (copies_on p)) (row_found (IsTrueCopy past) copy_key (file_key file) (copies_on p) (copies s p here)) (counts lawful s p here file small);
    };
    ordered = in_order;
    kept = λ e file known a is under. under_kept (versions_of c w) file (in_order file) (known_in c w e file) known a is under;
    same = λ e file. kept_same c file w.trace (grounds c file w.trace so f.once) (known_in c w e file)
        (every_weaker (IsVersion past file) (StandsIn file (commits_of file past)) (known_in c w e file) (λ a h. written_stands file past a h.0 h.1) (candidates_stand c e file w.trace f.numbered t.named));
  };
  numbered = f.numbered;
  roots = t.roots;
  named = t.named;
  fit = t.laws.fit;
  told = told;
}
  where
    past : List Told
    past = past_of w.trace

    f : WorldCovers c w
    f = all.1 t.laws t.order

    lawful : Lawful past
    lawful = record { numbered = f.numbered; sited = t.laws.sited; once = f.once; fit = t.laws.fit }

    so : ToldSo w.trace
    so = record { numbered = f.numbered; sited = t.laws.sited; roots = t.roots }

    in_order : (file : FileId) → AreOrdered (versions_of c w) file
    in_order file = ordered file (versions_of c w) (versions_grow c file w.trace f.numbered t.laws.sited (f.once file))

    copies : CopiesAreTrue w
    copies s p here = every_weaker (CopyFact past) (IsTrueCopy past) (copies_on p) (true_copy past f.numbered t.laws.sited f.once) (f.places s p here).written

pub versions_after : (c : Config) (lines : List ScheduleLine) (w : World) → IsAfterEvent c lines w → VersionsStand c w
versions_after c lines w h =
    versions_stand c w (laws_after c lines w h)
    (kept_after c (CopiesAreTold c) (told_kept c) (first_told c) lines w h)
    (kept_after c WhereLawful (counts_kept c) (first_counted c) lines w h)
    (kept_after c (All c) (all_kept c) (first_all c) lines w h)
