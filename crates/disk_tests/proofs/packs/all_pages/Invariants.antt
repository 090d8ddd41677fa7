use Rattle.std.proofs.Common.{◌≡◌, ◌<◌, ℕ, true}
use Rattle.new_contents.specs.Laid.{has_come}
use Rattle.disk_tests.proofs.packs.all_pages.Given as goal

abbrev pub invariant-loop-page : goal.invariant-loop-page
invariant-loop-page g l = (page : ℕ) → page < l.page → has_come l.numbers page ≡ true
