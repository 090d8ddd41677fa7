use Rattle.std.proofs.Common.{◌≡◌, ℕ, ◌+◌, ◌<◌, length, get_or, take}
use Rattle.std.specs.Prelude.{sum}
use Rattle.pack_slots.specs.Copies.{times}
use Rattle.pack_slots.proofs.uses.count_pages.Given as goal

abbrev pub invariant-loop-page : goal.invariant-loop-page
invariant-loop-page l = record {
  each : (page : ℕ) → page < length l.initial.counts → get_or l.counts page 0 ≡ get_or l.initial.counts page 0 + times page (take l.page-index l.pages);
  total : sum l.counts ≡ sum l.initial.counts + l.page-index;
}
