use Rattle.tree_model.specs.State.{is_copy_of}
use Rattle.tree_tables.proofs.RowLists.{put_first-at, put_first-nowhere}
use Rattle.tree_tables.proofs.copies.Copies.put.Goals as goal

pub returns-in-Some-clause-ok : goal.returns-in-Some-clause-ok
returns-in-Some-clause-ok c =
    put_first-at (is_copy_of c.args.row.site c.args.row.ino) c.args.row c.args.self.now c.self.inside.rows.items c.as_slice.result.now c.in-Some.place
    c.self.view_is c.as_slice.ensures.value c.in-Some.ensures.place

pub returns-in_ok-push-in-None-clause-ok : goal.returns-in_ok-push-in-None-clause-ok
returns-in_ok-push-in-None-clause-ok c =
    put_first-nowhere (is_copy_of c.args.row.site c.args.row.ino) c.args.row c.args.self.now c.self.inside.rows.items c.as_slice.result.now c.push.new.self.items
    c.self.view_is c.as_slice.ensures.value c.in-None.ensures.place c.in_ok-push-in-None.ensures.items
