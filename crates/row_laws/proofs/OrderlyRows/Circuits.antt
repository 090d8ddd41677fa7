-- Lines that name sites of their cluster alone: after some of them the circuits are cut that these lines say, and none of a site
-- with itself.
use Rattle.std.proofs.Common.{◌≡◌, ℕ, zero, suc, false, List, [], ◌∷◌, length, take, ◌∙◌, ap, subst, arith}
use Rattle.locus_ids.specs.declared.config.Config.{Config}
use Rattle.schedule_lines.specs.declared.line.Line.{Line as LineWords}
use Rattle.schedule_lines.specs.declared.line.ScheduleLine.{ScheduleLine}
use Rattle.schedule_lines.specs.declared.line.ScheduleLine.TheVariants.{Passed, Event as EventLine}
use Rattle.role_steps.specs.Own.{Every}
use Rattle.lawful_trace.specs.Places.{line_at}
use Rattle.lawful_trace.specs.Places as lawful
use Rattle.the_run.specs.Worlds.{is_cut}
use Rattle.the_run.specs.Runs.{run_in}
use Rattle.row_laws.specs.Voids.{LinesFit, CutsNoSelf}
use Rattle.row_laws.proofs.AskedRun.{run_courses}
use Rattle.row_laws.proofs.ByLine.{every_line}
use Rattle.row_laws.proofs.Fitting.{cuts_none}
use Rattle.row_laws.proofs.Voids.{Voids, voids_kept, first_voids}
use Rattle.row_laws.specs.OrderlyRows.Fits.{FitsCluster}
use Rattle.row_laws.proofs.OrderlyRows.Spans.{take_whole}

-- ---- lines that fit ----

pub line_fits : (sites : ℕ) (lines : List ScheduleLine) (k : ℕ) → Every (FitsCluster sites) lines → FitsCluster sites (line_at lines (suc k))
line_fits sites [] zero h = tt
line_fits sites [] (suc k) h = tt
line_fits sites (x ∷ xs) zero h = h.0
line_fits sites (x ∷ xs) (suc k) h = line_fits sites xs k h.1

pub take_fits : (sites : ℕ) (lines : List ScheduleLine) (k : ℕ) → Every (FitsCluster sites) lines → Every (FitsCluster sites) (take k lines)
take_fits sites lines zero h = tt
take_fits sites [] (suc k) h = tt
take_fits sites (x ∷ xs) (suc k) h = (h.0, take_fits sites xs k h.1)

passed_event : (l : LineWords) → Passed ≡ EventLine l → ⊥
passed_event l e = cc

-- by their numbers
every_fits : (c : Config) (lines : List ScheduleLine) → Every (FitsCluster c.sites) lines → LinesFit c lines
every_fits c lines h zero l is = absurd (passed_event l is)
every_fits c lines h (suc k) l is = subst (FitsCluster c.sites) is (line_fits c.sites lines k h)

pub cuts_no_self : (c : Config) (lines : List ScheduleLine) → Every (FitsCluster c.sites) lines → CutsNoSelf lines
cuts_no_self c lines h = cuts_none c lines (every_fits c lines h)

-- ---- circuits ----

pub cut_is : (c : Config) (lines : List ScheduleLine) → Every (FitsCluster c.sites) lines → (s t : ℕ) → is_cut (run_in c lines) s t ≡ lawful.is_cut lines s t
cut_is c lines h s t =
    let p : Voids c lines (length lines) (run_in c lines) = every_line c lines (Voids c lines) (voids_kept c lines (every_fits c lines h)) (first_voids c lines) in
    p.voids.circuits s t ∙ ap (λ (ls : List ScheduleLine). lawful.is_cut ls s t) (take_whole (length lines) lines (omega arith))

pub self_uncut : (c : Config) (lines : List ScheduleLine) → Every (FitsCluster c.sites) lines → (s : ℕ) → is_cut (run_in c lines) s s ≡ false
self_uncut c lines h s = (run_courses c lines).course.circuits (cuts_no_self c lines h) s
