use Rattle.std.proofs.Common.{ℕ, ◌*◌, ◌+◌, ◌∙◌, ap, length, filter}
use Rattle.std.specs.Option.{is_some}
use Rattle.locus_ids.specs.Sizes.{site_inodes}
use Rattle.commit_graph.specs.Vectors.{numbers_from}
use Rattle.tree_model.specs.State.{held_at}
use Rattle.tree_steps.proofs.tree.TreeTables.numbers_used.Goals as goal

pub returns : goal.returns
returns c =
    c.used_from.ensures
    ∙ ap (λ (n : ℕ). length (filter (λ ino. is_some (held_at c.args.self.now c.args.site ino)) (numbers_from (site_inodes * n + 1) site_inodes))) (c.from.ensures ∙ c.saturating_sub.ensures)
