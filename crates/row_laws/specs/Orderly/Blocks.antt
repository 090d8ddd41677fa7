-- Blocks of lines by which sites start to part or merge, over the world as it stands.
use Rattle.std.specs.Prelude.{ℕ, ◌≡◌, ◌+◌, ◌⊎◌, true, false, List, [], ◌∷◌, length, Option, Some, None}
use Rattle.locus_ids.specs.declared.sites.Links.{Links}
use Rattle.locus_ids.specs.declared.config.Config.{Config}
use Rattle.schedule_lines.specs.declared.line.Line.TheVariants as line
use Rattle.schedule_lines.specs.declared.line.ScheduleLine.{ScheduleLine}
use Rattle.schedule_lines.specs.declared.line.ScheduleLine.TheVariants.{Passed, Event}
use Rattle.role_steps.specs.Epochs.{boots_where, merge_boot, part_boot}
use Rattle.role_steps.specs.declared.rounds.InEpoch.{InEpoch}
use Rattle.the_run.specs.Worlds.{World, Place, Running, place_at, links_of}
use Rattle.the_run.specs.Runs.{is_stopped, is_in_no_epoch, settles, acts_line, run_from, run_in}
use Rattle.row_laws.specs.Orderly.Agreeing.{Agrees}
use Rattle.row_laws.specs.Orderly.Quiet.{IsQuiet}
use Rattle.row_laws.specs.Orderly.Rounds.{Unbroken}
use Rattle.row_laws.specs.Orderly.Settling.{Starts, reaches}

-- ---- whom a line asks ----

abbrev pub nobody : Links
nobody = record { boot = [] }

-- all that its site reaches, itself apart
abbrev pub asked_by_merge : World → ℕ → Links
asked_by_merge w s = boots_where (merge_boot s (links_of w s))

abbrev pub asked_inside : World → ℕ → Option InEpoch → Links
asked_inside w s None = nobody
asked_inside w s (Some e) = boots_where (part_boot s (links_of w s) e.members)

abbrev pub asked_at : World → ℕ → Option Place → Links
asked_at w s (Some (Running v)) = asked_inside w s v.epoch
asked_at w s _ = nobody

-- the members of its site's epoch that it reaches in their boots, itself apart
abbrev pub asked_by_part : World → ℕ → Links
asked_by_part w s = asked_at w s (place_at w s)

-- the site starts by the line, and asks these
abbrev pub StartsBy : ScheduleLine → World → Starts
StartsBy (Event (line.Part s)) w X P = (X ≡ s) × (P ≡ asked_by_part w s)
StartsBy (Event (line.Merge s)) w X P = (X ≡ s) × (P ≡ asked_by_merge w s)
StartsBy _ w X P = ⊥

-- ---- blocks ----

-- a site starts by the line, or it is passed over
abbrev pub IsInBlock : ScheduleLine → World → Type 0
IsInBlock Passed w = Unit {0}
IsInBlock (Event (line.Part s)) w = is_in_no_epoch (place_at w s) ≡ false
IsInBlock (Event (line.Merge s)) w = is_stopped (place_at w s) ≡ false
IsInBlock _ w = ⊥

-- so is each of the lines from this number on
abbrev pub IsBlock : Config → ℕ → List ScheduleLine → World → Type 0
IsBlock c n [] w = Unit {0}
IsBlock c n (x ∷ xs) w = IsInBlock x w × IsBlock c (n + 1) xs (acts_line c n x w)

-- the sites that start by these lines
abbrev pub starts_of : Config → ℕ → List ScheduleLine → World → Starts
starts_of c n [] w X P = ⊥
starts_of c n (x ∷ xs) w X P = StartsBy x w X P ⊎ starts_of c (n + 1) xs (acts_line c n x w) X P

-- those of the one lot reach themselves, are none of the other lot, and none of them reaches what one of those reaches
pub record StandApart (first : World) (R Q : Starts) : Type 0 where
  pub itself : (X : ℕ) (P : Links) → R X P → reaches first X X ≡ true
  pub differ : (X : ℕ) (P : Links) (Y : ℕ) (L : Links) → R X P → Q Y L → X ≡ Y → ⊥
  pub apart : (X : ℕ) (P : Links) (Y : ℕ) (L : Links) (t : ℕ) → R X P → Q Y L → reaches first X t ≡ true → reaches first Y t ≡ true → ⊥

-- each line of the block stands so to the later ones
abbrev pub AreLinesApart : World → Config → ℕ → List ScheduleLine → World → Type 0
AreLinesApart first c n [] w = Unit {0}
AreLinesApart first c n (x ∷ xs) w = StandApart first (StartsBy x w) (starts_of c (n + 1) xs (acts_line c n x w)) × AreLinesApart first c (n + 1) xs (acts_line c n x w)

-- ---- the law ----

-- After any lines that leave all quiet, a block whose sites are apart, and then a round that isn't cut short: each site that
-- starts in the block has its epoch at the end of the round, and all is quiet again.
abbrev pub BlocksAgree : Config → Type 0
BlocksAgree c = (before block : List ScheduleLine) (most : ℕ) →
    IsQuiet (run_in c before) → IsBlock c (1 + length before) block (run_in c before) → AreLinesApart (run_in c before) c (1 + length before) block (run_in c before) →
    Unbroken ((1 + length before) + length block) (settles c ((1 + length before) + length block) most (run_from c (1 + length before) block (run_in c before))) →
    ((X : ℕ) (P : Links) → starts_of c (1 + length before) block (run_in c before) X P → Agrees (run_in c before) (settles c ((1 + length before) + length block) most (run_from c (1 + length before) block (run_in c before))) X P)
    × IsQuiet (settles c ((1 + length before) + length block) most (run_from c (1 + length before) block (run_in c before)))

-- no site starts to part or merge by the line
abbrev pub StartsNobody : ScheduleLine → World → Type 0
StartsNobody (Event (line.Part s)) w = is_in_no_epoch (place_at w s) ≡ true
StartsNobody (Event (line.Merge s)) w = is_stopped (place_at w s) ≡ true
StartsNobody _ w = Unit {0}

-- a line by which no site starts leaves all quiet
abbrev pub QuietLasts : Config → Type 0
QuietLasts c = (lines : List ScheduleLine) (x : ScheduleLine) → IsQuiet (run_in c lines) → StartsNobody x (run_in c lines) → IsQuiet (acts_line c (1 + length lines) x (run_in c lines))
