-- The world after a line of a run is that of the run with this line.
use Rattle.std.proofs.Common.{◌≡◌, ◌≤◌, ℕ, ◌+◌, List, [], ◌∷◌, ◌++◌, length, ap, sym, subst, ◌∙◌, arith}
use Rattle.locus_ids.specs.declared.config.Config.{Config}
use Rattle.schedule_lines.specs.declared.line.Line.{Line}
use Rattle.schedule_lines.specs.declared.line.ScheduleLine.{ScheduleLine}
use Rattle.schedule_lines.specs.declared.line.ScheduleLine.TheVariants.{Event}
use Rattle.the_run.specs.Worlds.{World, first_world}
use Rattle.the_run.specs.Runs.{act, run_in}
use Rattle.the_run.proofs.Growing.{run_splits}
use Rattle.rest_laws.specs.CopiesKept.Hold.{VersionsStand}
use Rattle.rest_laws.proofs.CopiesKept.Hold.{run_versions}
use Rattle.complete_laws.specs.of_row_laws.Voids.{LinesFit}
use Rattle.complete_laws.specs.of_tree_laws.Orders.Joining.{PacksAreOfSites}
use Rattle.complete_laws.specs.Lines.{CanDo}
use Rattle.complete_laws.proofs.Lines.{can_do}
use Rattle.world.specs.States.{WorldState}
use Rattle.world.specs.Shown.{Taken, Shows, Follows}

run_with : (c : Config) (lines : List ScheduleLine) (number : ℕ) (l : Line) → number ≡ length lines + 1 → act c number l (run_in c lines) ≡ run_in c (lines ++ Event l ∷ [])
run_with c lines number l e = ap (λ k. act c k l (run_in c lines)) (omega (arith, e)) ∙ sym (run_splits c 1 lines (Event l ∷ []) (first_world c))

pub holds_after : (number : ℕ) (l : Line) (old new : WorldState) → Follows (λ c w. act c number l w) old new → (c : Config) (lines : List ScheduleLine) (taken : Taken) → number ≡ length lines + 1 → Shows c taken (run_in c lines) old →
    Shows c taken (run_in c (lines ++ Event l ∷ [])) new × VersionsStand c (run_in c (lines ++ Event l ∷ []))
holds_after number l old new follows c lines taken e shown = (subst (λ (w : World). Shows c taken w new) (run_with c lines number l e) (follows c taken (run_in c lines) shown), run_versions c (lines ++ Event l ∷ []))

-- what the next line needs is there
pub can_do_line : (c : Config) (lines : List ScheduleLine) (number : ℕ) (l : Line) → number ≡ length lines + 1 → LinesFit c (lines ++ Event l ∷ []) → PacksAreOfSites c → length c.packs ≤ 4 → CanDo c number l (run_in c lines)
can_do_line c lines number l e fit packs few = subst (λ (n : ℕ). CanDo c n l (run_in c lines)) (sym e) (can_do c lines l fit packs few)
