use Rattle.std.proofs.Common.{◌++◌, sym, ap, ◌∙◌}
use Rattle.the_run.specs.Runs.{entries_of_run}
use Rattle.run_book.specs.Writings.{written_of}
use Rattle.world.proofs.world.World.fresh.Goals as goal

pub returns : goal.returns
returns c = λ config taken w sh. ap (λ k. written_of k (entries_of_run w)) (sym sh.writing) ∙ (sh.book.written ∙ ap (λ y. taken.bytes ++ y) (sym c.fresh.ensures))
