use Rattle.std.proofs.Common.{rules}
use Rattle.tree_steps.proofs.Bringing.{brings_root_then}
use Rattle.tree_steps.proofs.tree.TreeTables.brought_with.Goals as goal

pub returns-then-lacks_root : goal.returns-then-lacks_root
returns-then-lacks_root c =
    brings_root_then c.args.self.now c.args.site c.as_slice.result.now c.in_ok-made.made c.note_copies.new.known c.note.new.known
    c.in_ok-note.ensures.ok c.in_ok-note_copies.ensures (search rules) (search rules) (search rules)
