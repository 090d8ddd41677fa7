use Rattle.dir_reconcile.proofs.Directories.{dir_joined}
use Rattle.dir_reconcile.proofs.join.join_dirs.Goals as goal

pub of-requires : goal.of-requires
of-requires c = rw (c.in_ok-entries.ensures, c.as_slice.ensures.value, c.as_slice-2.ensures.value) (dir_joined c.args.a.now c.args.b.now c.as_slice.ensures.is_dir c.as_slice-2.ensures.is_dir c.requires)
