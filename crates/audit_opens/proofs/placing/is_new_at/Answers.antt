use Rattle.std.proofs.Common.{◌∙◌, ◌&&◌, [], ap, not}
use Rattle.std.specs.Prelude.{nat_lt}
use Rattle.std.specs.List.{list_any}
use Rattle.std.specs.Option.{is_none}
use Rattle.commit_graph.specs.Versions.{same_file}
use Rattle.tree_model.specs.declared.instance.Granted.{Granted}
use Rattle.promises.specs.Past.{held_in}
use Rattle.audit_tree.proofs.Ranges.{given_so}
use Rattle.audit_opens.specs.Once.{past_of}
use Rattle.audit_opens.proofs.placing.is_new_at.Goals as goal

pub returns : goal.returns
returns c =
    c.is_unused_at.ensures
    ∙ ap (λ b. b && (nat_lt 1 c.args.file.ino && (is_none (held_in (past_of c.args.sites.now [] []) c.args.t.now c.args.ss c.args.file) && not (list_any (λ (g : Granted). same_file g.file c.args.file) c.args.t.now.granted)))) (given_so c.args.ss c.args.file.ino)
