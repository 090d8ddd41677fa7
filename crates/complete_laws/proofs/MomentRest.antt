-- What the laws give of a whole trace is so of each earlier one.
use Rattle.std.proofs.Common.{◌≡◌, ℕ, suc, zero, List, [], ◌∷◌, ◌++◌, sym, subst, ◌∙◌, inr}
use Rattle.locus_ids.specs.declared.config.Config.{Config}
use Rattle.locus_ids.specs.declared.ids.EpochId.{EpochId}
use Rattle.locus_ids.specs.declared.ids.FileId.{FileId}
use Rattle.schedule_lines.specs.declared.line.Line.{Line as LineWords}
use Rattle.schedule_lines.specs.declared.line.ScheduleLine.{ScheduleLine}
use Rattle.schedule_lines.specs.declared.line.ScheduleLine.TheVariants.{Passed, Event as EventLine}
use Rattle.tree_laws.proofs.of_lawful_trace.Extends.{line_kept}
use Rattle.the_run.specs.Worlds.{Line}
use Rattle.packet_laws.specs.of_site_laws.Vectors.Written.{InstancesAgree, WasBegun, WasGranted, past_of}
use Rattle.packet_laws.specs.of_row_laws.Voids.{LinesFit}
use Rattle.packet_laws.specs.of_store_laws.OneTree.Rest.{EachRest, IsRest}
use Rattle.calm_laws.proofs.Limits.{line_there}

rest_first : (c : Config) (new old : List Line) → EachRest c (new ++ old) → EachRest c old
rest_first c [] old h = h
rest_first c (x ∷ xs) old h = rest_first c xs old h.1

pub rest_earlier : (c : Config) (new old all : List Line) → all ≡ new ++ old → IsRest c all → IsRest c old
rest_earlier c new old all e r = record { each = rest_first c new old (subst (EachRest c) e r.each); packs = r.packs }

-- ---- instances ----

begun_later : (new old : List Line) (e : EpochId) (key : ℕ) (f : FileId) → WasBegun (past_of old) e key f → WasBegun (past_of (new ++ old)) e key f
begun_later [] old e key f h = h
begun_later (x ∷ xs) old e key f h = inr (begun_later xs old e key f h)

granted_later : (new old : List Line) (e : EpochId) (key : ℕ) (f : FileId) → WasGranted (past_of old) e key f → WasGranted (past_of (new ++ old)) e key f
granted_later [] old e key f h = h
granted_later (x ∷ xs) old e key f h = inr (granted_later xs old e key f h)

pub agree_earlier : (new old all : List Line) → all ≡ new ++ old → InstancesAgree (past_of all) → InstancesAgree (past_of old)
agree_earlier new old all e h at key begun granted b g =
    h at key begun granted (subst (λ (t : List Line). WasBegun (past_of t) at key begun) (sym e) (begun_later new old at key begun b)) (subst (λ (t : List Line). WasGranted (past_of t) at key granted) (sym e) (granted_later new old at key granted g))

-- ---- lines ----

-- lines that are in range, and what comes after them
pub first_fit : (c : Config) (lines more : List ScheduleLine) → LinesFit c (lines ++ more) → LinesFit c lines
first_fit c lines more fit zero l e = absurd (passed_never l e)
  where
    passed_never : (l : LineWords) → Passed ≡ EventLine l → ⊥
    passed_never l e = cc
first_fit c lines more fit (suc k) l e = fit (suc k) l (line_kept lines more (suc k) (line_there lines k l e) ∙ e)
