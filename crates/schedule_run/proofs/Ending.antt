-- A limit that was passed stays passed, whatever lines come after.
use Rattle.std.proofs.Common.{◌≡◌, ℕ, ◌+◌, false, List, [], ◌∷◌, ◌++◌, length, Option, None, Some, refl, sym, ap, ◌∙◌, append_assoc}
use Rattle.std.proofs.lemmas.List.{append-nil}
use Rattle.schedule_lines.specs.Cluster.{config_of, may_join}
use Rattle.schedule_lines.specs.Schedule.{has_begun, Reads, ReadsAfter}
use Rattle.schedule_lines.specs.declared.line.ScheduleLine.{ScheduleLine}
use Rattle.schedule_lines.specs.declared.line.ScheduleLine.TheVariants.{Passed, Header, Event}
use Rattle.the_run.specs.Worlds.{World as RunWorld, Limit}
use Rattle.the_run.specs.Runs.{run}
use Rattle.world.proofs.Over.{act_over}
use Rattle.schedule_run.proofs.Growing.{config_more, run_more, run_quiet}
use Rattle.schedule_run.proofs.Lasting.{untrue}

clash : {X : Type 0} (o : Option X) (x : X) → o ≡ None → o ≡ Some x → ⊥
clash o x e f = cc

over_step : (lines : List ScheduleLine) (bytes : List ℕ) (l : ScheduleLine) (limit : Limit) → (run lines).over ≡ Some limit → Reads lines bytes l → (run (lines ++ l ∷ [])).over ≡ Some limit
over_step lines bytes Passed limit h reads = ap (λ (w : RunWorld). w.over) (run_more lines Passed (length lines + 1) refl (config_more lines Passed)) ∙ h
over_step lines bytes (Header x) limit h reads =
    let quiet : has_begun lines ≡ false = untrue (has_begun lines) (may_join (config_of lines) x) reads.1 in
    absurd (clash (run lines).over limit (ap (λ (w : RunWorld). w.over) (run_quiet lines quiet)) h)
over_step lines bytes (Event e) limit h reads =
    ap (λ (w : RunWorld). w.over) (run_more lines (Event e) (length lines + 1) refl (config_more lines (Event e)))
    ∙ ((act_over (config_of lines) (length lines + 1) limit e (run lines) h).over ∙ h)

-- the limit that a run passed is that of each longer one
pub over_lasts : (bytes : List (List ℕ)) (lines more : List ScheduleLine) (limit : Limit) → (run lines).over ≡ Some limit → ReadsAfter lines bytes more → (run (lines ++ more)).over ≡ Some limit
over_lasts [] lines [] limit h reads = ap (λ (ls : List ScheduleLine). (run ls).over) (append-nil lines) ∙ h
over_lasts [] lines (l ∷ ls) limit h reads = absurd reads
over_lasts (b ∷ bs) lines [] limit h reads = absurd reads
over_lasts (b ∷ bs) lines (l ∷ ls) limit h reads =
    ap (λ (xs : List ScheduleLine). (run xs).over) (sym (append_assoc lines (l ∷ []) ls))
    ∙ over_lasts bs (lines ++ l ∷ []) ls limit (over_step lines b l limit h reads.0) reads.1
