-- The order of versions stays when a line is told that may be told.
use Rattle.std.proofs.Common.{ℕ, List, ◌∷◌}
use Rattle.locus_ids.specs.declared.config.Config.{Config}
use Rattle.site_laws.specs.of_role_steps.Views.{Told}
use Rattle.tree_laws.specs.of_the_run.Worlds.{Line}
use Rattle.tree_laws.specs.Following.{IsFollowed, MayTell}
use Rattle.tree_laws.specs.Frames.{OrderStays}
use Rattle.tree_laws.specs.Printed.{entries, onto_entries}
use Rattle.store_laws.specs.Holdings.Below.{LawsBelow}
use Rattle.store_laws.proofs.Holdings.Below.{commits_new, line_fresh, packs_hold}
use Rattle.store_laws.proofs.Holdings.Kept.{kept_stays}
use Rattle.store_laws.proofs.Holdings.Made.{CommitsAreNew}
use Rattle.store_laws.proofs.Holdings.Reports.{report_stays}
use Rattle.store_laws.proofs.Holdings.Rising.{held_rises}
use Rattle.store_laws.proofs.Holdings.OneVersionSingle.{single_stays}

pub order_stays : (c : Config) (older : List Line) (n : ℕ) (x : Told) → IsFollowed c older → MayTell c older x → LawsBelow c (record { number = n; told = x } ∷ older) → OrderStays c older (record { number = n; told = x } ∷ older)
order_stays c older n x followed may laws = record {
  have = λ e site f s k. held_rises c older n x followed may (packs_hold c older laws.packed.1) new e site f s k;
  reports = λ e site group copies k. report_stays c older n x followed may (line_fresh c older n x new) e site group copies k;
  kept = λ e d request i m f stamp ss parents granted is. kept_stays c older n x laws.packs followed may new e d request i m f stamp ss parents granted is;
  single = λ e f started one. single_stays c older n x laws.packs followed may new e f started one;
}
  where
    new : CommitsAreNew c (onto_entries n x (entries older))
    new = commits_new c (record { number = n; told = x } ∷ older) (may, followed) laws.once
