use Rattle.std.proofs.Common.{◌≡◌, ◌<◌, ℕ, true}
use Rattle.inode_pack.specs.of_new_contents.Marked.{is_marked}
use Rattle.site_packs.proofs.keeping.are_all_marked.Given as goal

abbrev pub invariant-loop-page : goal.invariant-loop-page
invariant-loop-page l = (k : ℕ) → k < l.page → is_marked l.marks k ≡ true
