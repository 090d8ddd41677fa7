-- Moments of a calm round: what is undisturbed by the records is so in the run, and room that is lacking in the run is so by the records.
use Rattle.std.proofs.Common.{List, [], ap, arith, false, inl, inr, length, nat_le, refl, subst, sym, ℕ, ◌∙◌, ◌≡◌}
use Rattle.calm_laws.proofs.Calm.{calm_in_round}
use Rattle.calm_laws.proofs.Delivered.{inside_fact}
use Rattle.calm_laws.proofs.Facts.{RoundFacts, round_facts}
use Rattle.rest_laws.proofs.Shown.{shown_entries}
use Rattle.rest_laws.proofs.StoreStepResting.{plain_rests}
use Rattle.calm_laws.specs.Carrying.{IsMember, frame_of}
use Rattle.calm_laws.specs.Rounds.{after}
use Rattle.commit_graph.specs.Versions.{content_of}
use Rattle.calm_laws.proofs.Convergence.Midst.{past_of_round}
use Rattle.calm_laws.proofs.Convergence.TracePlayed.{IsPlayed}
use Rattle.calm_laws.proofs.Convergence.TraceUndisturbed.{closed_at}
use Rattle.calm_laws.specs.Convergence.Rounds as rounds
use Rattle.file_content.specs.Pages.{pages_of}
use Rattle.lawful_trace.specs.Calm as traced
use Rattle.lawful_trace.specs.Places.{through_line}
use Rattle.locus_ids.specs.declared.config.Config.{Config}
use Rattle.locus_ids.specs.declared.ids.FileId.{FileId}
use Rattle.locus_ids.specs.declared.ids.Stamp.{Stamp}
use Rattle.row_laws.specs.Orderly.Calm.{AreTogether}
use Rattle.promises.specs.Convergence.{LackedRoom}
use Rattle.store_laws.proofs.OneTree.Staying.{rest_below}
use Rattle.store_laws.proofs.StorageResting.{room_is}
use Rattle.store_laws.specs.OneTree.Places.{InsideFact, WorldFact}
use Rattle.store_laws.specs.OneTree.Rest.{Past}
use Rattle.row_laws.specs.Shown.{trace_of}
use Rattle.role_steps.specs.Storage.{free_pages}
use Rattle.role_steps.specs.declared.rounds.InEpoch.{InEpoch}
use Rattle.role_steps.specs.declared.synchronizing.VersionRow.{VersionRow}
use Rattle.schedule_lines.specs.Cluster.{config_of}
use Rattle.schedule_lines.specs.declared.line.ScheduleLine.{ScheduleLine}
use Rattle.the_run.specs.Runs.{run}
use Rattle.the_run.specs.Worlds.{World}
use Rattle.tree_laws.specs.Printed.{entries}
use Rattle.tree_model.specs.Folds.{Trace}
use Rattle.tree_model.specs.Histories.{history}
use Rattle.tree_model.specs.State.{openers}
use Rattle.tree_model.specs.Tree.{tree_of}
use Rattle.tree_model.specs.Working.{free_pages as tree_free}

-- what stands at each moment
pub record IsMidway (c : Config) (e : InEpoch) (w : World) : Type 0 where
  pub fact : WorldFact c w
  pub past : Past c w.trace
  pub together : AreTogether w e

module _ (lines : List ScheduleLine) (n : ℕ) (e : InEpoch) (p : IsPlayed lines n e) where
  abbrev c : Config
  c = config_of lines

  abbrev trace : Trace
  trace = trace_of (run lines)

  -- a moment of the round is a moment of its line
  moment : (w : World) → rounds.IsMoment c lines n p.deliveries w → traced.IsMoment trace n (trace_of w)
  moment w (inl (i, is)) = subst (λ (z : World). traced.IsMoment trace n (trace_of z)) (sym is) (p.ticked_moment i)
  moment w (inr (k, le, is)) = subst (λ (z : World). traced.IsMoment trace n (trace_of z)) (sym is) (p.moment k le)

  pub midway : (w : World) → rounds.IsMoment c lines n p.deliveries w → IsMidway c e w
  midway w (inl (i, is)) = subst (IsMidway c e) (sym is) (record { fact = p.ticked_fact i; past = record { followed = (p.ticked_fact i).followed; rest = p.ticked_rest i }; together = p.ticked_together i })
  midway w (inr (k, le, is)) = (let q : RoundFacts c (after c lines n k) = round_facts c lines n (after c lines n k) (calm_in_round c lines n e p.deliveries k p.calm le) in
      subst (IsMidway c e) (sym is) (record { fact = q.fact; past = past_of_round c (after c lines n k) q; together = p.calm.each k le }))

  pub at_end : IsMidway c e (after c lines n p.deliveries)
  at_end = midway (after c lines n p.deliveries) (inr (p.deliveries, omega arith, refl))

  pub quiet : (f : FileId) → (f.ino ≡ 0 → ⊥) → ((now : Trace) → traced.IsMoment trace n now → openers (tree_of c e.id f.group now) f ≡ []) → rounds.IsUndisturbed c lines n e p.deliveries f
  quiet f numbered none w k = (let q : IsMidway c e w = midway w k in
      closed_at c e w q.fact q.together f numbered (ap (λ (t : Trace). openers (tree_of c e.id f.group t) f) (sym (shown_entries w.trace)) ∙ none (trace_of w) (moment w k)))

  pub lacked : (s : ℕ) → IsMember e s → (f : FileId) (stamp : Stamp) (v : VersionRow) → v.size ≡ length (content_of (history c (through_line trace n)) f stamp) → rounds.LackedRoom c lines n p.deliveries s f v → LackedRoom c trace n e.id s f stamp
  lacked s member f stamp v size_is (w, k, x) = (trace_of w, moment w k, small)
    where
      q : IsMidway c e w
      q = midway w k

      mine : InsideFact c (frame_of c e s) w.trace x.view
      mine = inside_fact c e w s x.view q.fact q.together member x.here

      room : free_pages x.view.store f.group ≡ tree_free (history c (entries w.trace)) (tree_of c e.id f.group (entries w.trace)) s
      room = room_is c w.trace q.past.followed (rest_below c w.trace q.past.rest) (plain_rests c w.trace q.past) (frame_of c e s) mine.frame x.view.store mine.store f.group

      small : nat_le (pages_of (length (content_of (history c (through_line trace n)) f stamp))) (tree_free (history c (trace_of w)) (tree_of c e.id f.group (trace_of w)) s) ≡ false
      small = ap (λ (z : ℕ). nat_le (pages_of z) (tree_free (history c (trace_of w)) (tree_of c e.id f.group (trace_of w)) s)) (sym size_is)
          ∙ (ap (λ (t : Trace). nat_le (pages_of v.size) (tree_free (history c t) (tree_of c e.id f.group t) s)) (shown_entries w.trace)
          ∙ (ap (λ (z : ℕ). nat_le (pages_of v.size) z) (sym room) ∙ x.small))
