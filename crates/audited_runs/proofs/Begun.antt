-- Sites have boot numbers from 1 on.
use Rattle.std.proofs.Common.{◌≤◌, ℕ, [], ◌∷◌, arith}
use Rattle.locus_ids.specs.declared.config.Config.{Config}
use Rattle.tree_model.specs.Epochs.{boot_after, boot_of}
use Rattle.tree_model.specs.Folds.{Trace}
use Rattle.row_laws.specs.Rows.{IsSiteRow}
use Rattle.row_laws.specs.Shown.{EachRecord}
use Rattle.row_laws.proofs.Boots.{boot_step}

pub has_booted : (c : Config) (trace : Trace) (site : ℕ) → EachRecord (IsSiteRow c) trace → 1 ≤ boot_of trace site
has_booted c [] site h = omega arith
has_booted c (r ∷ before) site h = let k : 1 ≤ boot_of before site = has_booted c before site h.1 in let s : boot_of before site ≤ boot_after r.what site (boot_of before site) = boot_step c before r.what site h.0 in omega (arith, k, s)
