use Rattle.std.proofs.Common.{◌≡◌, ℕ, List, true, sym, subst, arith}
use Rattle.new_contents.specs.Laid.{has_come}
use Rattle.pack_slots.specs.Copies.{copy_of}
use Rattle.inode_pack.specs.Committing.{size_of}
use Rattle.disk_tests.proofs.AllPages.{all_rest}
use Rattle.disk_tests.proofs.packs.adopt.Goals as goal

-- all pages come, so nothing rests on the version before
pub adopt-requires-clause-rests : goal.adopt-requires-clause-rests
adopt-requires-clause-rests g c =
    let long = c.len.ensures in
    all_rest c.len.result (size_of (copy_of c.args.pack.now.copies c.args.ino)) c.as_slice.result.now c.as_slice-2.result.now
    (λ page lt. subst (λ (l : List ℕ). has_come l page ≡ true) (sym c.as_slice.ensures) (c.all_pages-numbers.ensures page (omega (arith, lt, long))))
