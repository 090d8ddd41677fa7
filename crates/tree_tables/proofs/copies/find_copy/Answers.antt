use Rattle.tree_model.specs.State.{is_copy_of}
use Rattle.tree_tables.proofs.RowLists.{find-at, find-nowhere}
use Rattle.tree_tables.proofs.copies.find_copy.Goals as goal

pub returns-in-Some : goal.returns-in-Some
returns-in-Some c = find-at (is_copy_of c.args.site c.args.ino) c.args.rows.now c.in-Some.place _ c.in-Some.ensures.place

pub returns-in-None : goal.returns-in-None
returns-in-None c = find-nowhere (is_copy_of c.args.site c.args.ino) c.args.rows.now c.in-None.ensures.place
