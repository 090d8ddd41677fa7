use Rattle.std.proofs.Common.{◌≡◌, ℕ, ◌+◌, ◌*◌, ◌≤◌, ◌<◌, length, get_or, take}
use Rattle.std.specs.Prelude.{sum}
use Rattle.locus_ids.specs.Sizes.{content_pages_max, pack_pages}
use Rattle.pack_slots.specs.Copies.{times, named_pages}
use Rattle.pack_slots.proofs.uses.count_all.Given as goal

abbrev pub invariant-loop-copy : goal.invariant-loop-copy
invariant-loop-copy l = record {
  each : (page : ℕ) → page < pack_pages → get_or l.counts page 0 ≡ get_or l.initial.counts page 0 + times page (named_pages (take l.copy-index l.copies));
  whole : sum l.counts ≡ length (named_pages (take l.copy-index l.copies));
  few : l.total ≤ content_pages_max * l.copy-index;
  total : l.total ≡ length (named_pages (take l.copy-index l.copies));
}
