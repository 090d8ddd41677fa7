-- Copies converge: as the lines of a schedule and the records of its run tell it.
use Rattle.calm_laws.proofs.Convergence.Starting.{round_ends}
use Rattle.calm_laws.proofs.Convergence.TraceBetween.{shut_between}
use Rattle.std.proofs.Common.{Bool, List, None, Option, Some, [], ap, arith, inl, inr, not, refl, suc, sym, true, zero, ℕ, ◌&&◌, ◌<◌, ◌==◌, ◌∙◌, ◌∷◌, ◌≡◌, ◌⊎◌, ◌++◌}
use Rattle.std.proofs.lemmas.Bool.Decides.{nat_tests}
use Rattle.std.specs.Option.{option_map}
use Rattle.calm_laws.proofs.Delivered.{inside_fact}
use Rattle.calm_laws.specs.Carrying.{IsMember, frame_of}
use Rattle.calm_laws.specs.Rounds.{CalmLeft, after}
use Rattle.row_laws.specs.OrderlyRows.Agreeing.{IsWithin}
use Rattle.calm_laws.proofs.Convergence.Convergence.{converge}
use Rattle.calm_laws.proofs.Convergence.TraceKnown.{HasOne, HasTable, has_one, has_table, known_row}
use Rattle.calm_laws.proofs.Convergence.TraceMoments.{IsMidway, at_end, lacked, quiet}
use Rattle.calm_laws.proofs.Convergence.TracePlayed.{IsPlayed, member_of_list, played}
use Rattle.calm_laws.proofs.Convergence.TraceUndisturbed.{among_passing}
use Rattle.calm_laws.specs.Convergence.Copies.{HoldsTheOnly}
use Rattle.calm_laws.specs.Convergence.Rounds as rounds
use Rattle.lawful_trace.specs.Places.{lines_before, through_line}
use Rattle.locus_ids.specs.Sites.{has}
use Rattle.locus_ids.specs.declared.config.Config.{Config}
use Rattle.locus_ids.specs.declared.ids.EpochId.{EpochId}
use Rattle.locus_ids.specs.declared.ids.FileId.{FileId}
use Rattle.locus_ids.specs.declared.ids.Stamp.{Stamp}
use Rattle.locus_ids.specs.declared.sites.Members.{Members}
use Rattle.locus_ids.specs.declared.sites.Sites.{Sites}
use Rattle.tree_laws.proofs.Orders.ProcessSynchronizing.{sync_same}
use Rattle.promises.specs.Convergence.{CopiesConverge, IsAtRest, LackedRoom}
use Rattle.store_laws.specs.OneTree.Places.{InsideFact}
use Rattle.row_laws.specs.Shown.{trace_of}
use Rattle.role_steps.proofs.of_plain_facts.Options.{none_some, some_same}
use Rattle.role_steps.specs.Views.{all_sites, boot_in, first_site, is_member, members_of, pack_sites, sync_site}
use Rattle.role_steps.specs.declared.copies.FileCopy.{FileCopy}
use Rattle.role_steps.specs.declared.rounds.InEpoch.{InEpoch}
use Rattle.schedule_lines.specs.Cluster.{config_of}
use Rattle.schedule_lines.specs.Schedule.{AreInOrder}
use Rattle.schedule_lines.specs.declared.line.ScheduleLine.{ScheduleLine}
use Rattle.the_run.specs.Kept.{Among}
use Rattle.the_run.specs.Runs.{run, run_in}
use Rattle.the_run.specs.Worlds.{World, place_at}
use Rattle.tree_laws.specs.Printed.{entries}
use Rattle.tree_laws.specs.Stores.{copy_for}
use Rattle.tree_model.specs.Files.{set_of_file, version_of}
use Rattle.tree_model.specs.Folds.{Trace}
use Rattle.tree_model.specs.Histories.{held}
use Rattle.tree_model.specs.Packs as tree

-- ---- rows ----

first_of : (xs : List ℕ) (x : ℕ) → Among x xs → (y : ℕ) × (first_site xs ≡ Some y)
first_of [] x a = absurd a
first_of (y ∷ ys) x a = (y, refl)

some_boot : (b : ℕ) → (b ≡ 0 → ⊥) → not (b == 0) ≡ true
some_boot zero h = absurd (h refl)
some_boot (suc b) h = grind (arith, nat_tests)

-- ---- the promise ----

module _ (lines : List ScheduleLine) (order : AreInOrder lines) (within : IsWithin lines) (calm : CalmLeft (config_of lines)) (o n m : ℕ) (id : EpochId) (members : Members) (f : FileId) (stamp : Stamp) (h : IsAtRest (config_of lines) lines (trace_of (run lines)) o n m id members f stamp) (s : ℕ) (listed : tree.is_member members s ≡ true)
    (packed : tree.has_pack (config_of lines) f.group s ≡ true) (in_set : has (set_of_file (config_of lines) (through_line (trace_of (run lines)) m) f) s ≡ true) where
  abbrev c : Config
  c = config_of lines

  abbrev e : InEpoch
  e = record { id = id; members = members }

  abbrev trace : Trace
  trace = trace_of (run lines)

  first : IsPlayed lines n e
  first = played lines order within n id members h.rounds.second

  second : IsPlayed lines m e
  second = played lines order within m id members h.rounds.third

  abbrev end : World
  end = after c lines m second.deliveries

  member : IsMember e s
  member = member_of_list id members s listed

  -- the site has a pack and is a member, so some site synchronizes the group
  css : (css : ℕ) × (sync_site c members f.group ≡ Some css)
  css = first_of (members_of members (pack_sites c f.group)) s (among_passing (λ (t : ℕ). has (pack_sites c f.group) t && is_member members t) s all_sites (second.calm.sites s member) (ap (λ (b : Bool). b && is_member members s) packed ∙ some_boot (boot_in members.boot s) member))

  t : HasTable lines m e second f.group css.0
  t = has_table lines calm m e second f.group css.0 (sym (sync_same c members f.group) ∙ css.1)

  q : HasOne lines m e second f css.0 t stamp
  q = has_one lines m e second f css.0 t stamp h.kept

  -- each part of the trace between the two rounds is a moment of some line between them
  between : rounds.IsShutFrom c e f (after c lines n first.deliveries).trace (run_in c (lines_before lines m)).trace
  between more since now a b = shut_between lines order within n m h.rounds.late id f (λ p now low high k. h.undisturbed p now (let early : o < n = h.rounds.early in omega (arith, early, low)) high k) more since now a
      (b ∙ ap (λ (w : World). since ++ w.trace) (sym (round_ends c lines n e first.deliveries first.calm)))

  rest : rounds.IsAtRest c lines n m e first.deliveries second.deliveries f q.version q.row.set
  rest = record {
    rounds = record { first = first.calm; second = second.calm; order = h.rounds.late };
    undisturbed = record {
      in_first = quiet lines n e first f q.numbered (λ now k. h.undisturbed n now (let a : o < n = h.rounds.early in omega (arith, a)) (let b : n < m = h.rounds.late in omega (arith, b)) k);
      between = between;
      in_second = quiet lines m e second f q.numbered (λ now k. h.undisturbed m now (let a : o < n = h.rounds.early in let b : n < m = h.rounds.late in omega (arith, a, b)) (omega arith) k);
    };
    kept = record { file_known = q.row; known = known_row lines m e second f css.0 t q.row q.is_row.found; only = q.only; sites = refl };
  }

  on_disk : HoldsTheOnly (place_at end) s f q.version → held c (through_line trace m) s f ≡ Some stamp
  on_disk x = ap (λ (tr : Trace). held c tr s f) t.told ∙ (by_held (held c (entries end.trace) s f) (sym x.found ∙ mine.store.copies.are f q.narrow) ∙ ap Some (x.stamp ∙ q.stamp_is))
    where
      now : IsMidway c e end
      now = at_end lines m e second

      mine : InsideFact c (frame_of c e s) end.trace x.view
      mine = inside_fact c e end s x.view now.fact now.together member x.here

      by_held : (o : Option Stamp) → Some x.copy ≡ option_map (copy_for f) (option_map (version_of c (entries end.trace) f) o) → o ≡ Some x.copy.stamp
      by_held None k = absurd (none_some x.copy (sym k))
      by_held (Some now) k = ap Some (sym (ap (λ (y : FileCopy). y.stamp) (some_same x.copy (copy_for f (version_of c (entries end.trace) f now)) k)))

  converged : (held c (through_line trace m) s f ≡ Some stamp) ⊎ LackedRoom c trace m id s f stamp
  converged = over (converge c calm lines n m e first.deliveries second.deliveries f q.version q.row.set rest s member (ap (λ (x : Sites). has x s) q.is_row.set_is ∙ in_set))
    where
      over : HoldsTheOnly (place_at end) s f q.version ⊎ rounds.LackedRoom c lines m second.deliveries s f q.version → (held c (through_line trace m) s f ≡ Some stamp) ⊎ LackedRoom c trace m id s f stamp
      over (inl x) = inl (on_disk x)
      over (inr x) = inr (lacked lines m e second s member f stamp q.version q.size_is x)

pub converging : (lines : List ScheduleLine) → AreInOrder lines → IsWithin lines → CalmLeft (config_of lines) → CopiesConverge lines (trace_of (run lines))
converging lines order within calm o n m e members f stamp h s listed packed in_set = converged lines order within calm o n m e members f stamp h s listed packed in_set
