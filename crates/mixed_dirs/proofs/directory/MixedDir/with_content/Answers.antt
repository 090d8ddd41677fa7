use Rattle.mixed_dirs.proofs.AsFiles.{mixed_dir, mixed_joined}
use Rattle.mixed_dirs.proofs.directory.MixedDir.with_content.Goals as goal

pub invariant_of-result : goal.invariant_of-result
invariant_of-result c = rw (c.in_ok-entries.ensures, c.as_slice.ensures.value, c.as_slice-2.ensures.value) (mixed_joined _ _ (mixed_dir _ c.as_slice.ensures.is_dir) c.self.invariant)
