use Rattle.std.proofs.Common.{◌≡◌, ◌+◌, ◌<◌, ℕ, length, take, slice_index}
use Rattle.locus_ids.specs.Sizes.{pack_pages}
use Rattle.pack_slots.specs.Copies.{numbers_in, times}
use Rattle.inode_pack.specs.Rows.{NoneBelow, numbers_so_far}
use Rattle.inode_pack.proofs.usage.pass_all.Given as goal

abbrev pub invariant-loop-i : goal.invariant-loop-i
invariant-loop-i l = record {
  long : length l.uses.items ≡ pack_pages;
  named : (p : ℕ) → p < pack_pages → slice_index l.uses.items p + times p (take l.i (numbers_so_far l.old)) ≡ slice_index l.initial.uses.items p + times p (take l.i (numbers_in l.made));
  least : NoneBelow l.least l.uses.items;
}
