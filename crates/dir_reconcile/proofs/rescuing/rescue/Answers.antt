use Rattle.dir_reconcile.proofs.Revived.{dir_rescued}
use Rattle.dir_reconcile.proofs.rescuing.rescue.Goals as goal

pub of-requires : goal.of-requires
of-requires c = rw (c.in_ok-entries.ensures, c.as_slice-entries.ensures.value) (dir_rescued c.args.d.now _ c.as_slice-entries.ensures.is_dir)
