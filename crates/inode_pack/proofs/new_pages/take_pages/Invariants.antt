use Rattle.std.proofs.Common.{◌≡◌, ◌-◌, ◌<◌, ◌≤◌, ℕ, length, take, slice_index}
use Rattle.std.specs.Prelude.{◌==◌}
use Rattle.locus_ids.specs.Sizes.{content_pages_max, slot_pages, pack_pages}
use Rattle.pack_layout.specs.Layout.{none, numbers_of}
use Rattle.inode_pack.specs.Pack.{number_in}
use Rattle.new_contents.specs.Changed.{is_changed}
use Rattle.inode_pack.specs.PagePieces.{AreWhole}
use Rattle.inode_pack.proofs.Taking.{TakesSoFar}
use Rattle.inode_pack.proofs.new_pages.take_pages.Given as goal

-- the first pages have their numbers
abbrev pub invariant-loop-i : goal.invariant-loop-i
invariant-loop-i g l = record {
  so_far : TakesSoFar l.i pack_pages (λ p. slice_index l.uses p == 0) (number_in l.old) (is_changed (g.C.NewContent.working l.content)) l.i l.from (take l.i (numbers_of l.numbers.first l.numbers.more));
  front : length l.numbers.first ≡ slot_pages;
  more : length l.numbers.more ≡ l.i - slot_pages;
  rest : (k : ℕ) → l.i ≤ k → k < content_pages_max → slice_index (numbers_of l.numbers.first l.numbers.more) k ≡ none;
  whole : AreWhole (g.C.NewContent.working l.content) l.i;
}
