use Rattle.std.proofs.Common.{List, subst, sym}
use Rattle.std.specs.List.{AllByRecursion}
use Rattle.role_steps.specs.declared.synchronizing.FileRow.{FileRow}
use Rattle.site_tables.specs.Inodes.{IsInode}
use Rattle.site_tables.proofs.Inodes.{all_at}
use Rattle.site_tables.proofs.kept.kept_vectors.Goals as goal

pub returns-then-not-branch-clause-none : goal.returns-then-not-branch-clause-none
returns-then-not-branch-clause-none c = λ are.
    let files : List FileRow = c.files-file-items.result.now in
    c.in_ok-add_file.ensures.none c.if-not-branch.true (all_at IsInode files c.loop-file.file-index c.file-item.result c.loop-file-test.true c.file-item.is
    (subst (λ (xs : List FileRow). AllByRecursion IsInode xs) (sym c.files-file-items.ensures) are))
