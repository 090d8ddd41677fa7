-- A pulled version that fits the own copy: it is over that copy, and above it. A pull as it begins over a copy.
use Rattle.std.proofs.Common.{◌≡◌, ℕ, true, List, Option, None, Some}
use Rattle.locus_ids.specs.declared.ids.Stamp.{Stamp}
use Rattle.plain_facts.proofs.Tests.{and_first, and_second}
use Rattle.role_steps.specs.Adoption.{fits_own, is_above_own}
use Rattle.role_steps.specs.Pulling.{is_over, pull_over}
use Rattle.role_steps.specs.declared.copies.FileCopy.{FileCopy}
use Rattle.role_steps.specs.declared.pulls.Pull.{Pull}

pub fits_over : (p : Pull) (own : Option FileCopy) → fits_own p own ≡ true → is_over own p.base ≡ true
fits_over p own e = and_first (is_over own p.base) (is_above_own p own) e

pub fits_above : (p : Pull) (own : Option FileCopy) → fits_own p own ≡ true → is_above_own p own ≡ true
fits_above p own e = and_second (is_over own p.base) (is_above_own p own) e

-- what holds of a pull over any base, whatever pages of it are wanted, holds of it as it begins
pub over_any : (P : Pull → Type 0) (own : Option FileCopy) (p : Pull) → ((base : Option Stamp) (wanted : Option (List ℕ)) → P (record p { base = base; wanted = wanted })) → P (pull_over own p)
over_any P None p h = h None _
over_any P (Some own) p h = h (Some own.stamp) None
