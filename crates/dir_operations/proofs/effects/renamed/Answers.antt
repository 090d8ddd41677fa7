use Rattle.std.proofs.Common.{◌≡◌, ap, ◌∙◌}
use Rattle.dir_format.proofs.Placing.{all_with, kind-removed}
use Rattle.dir_operations.proofs.effects.renamed.Goals as goal

pub put-requires-2-clause-kind : goal.put-requires-2-clause-kind
put-requires-2-clause-kind c =
    let own : c.in_ok-gone.gone.kind ≡ c.args.entry.now.kind = ap (λ e. e.kind) c.in_ok-gone.ensures.value ∙ kind-removed c.args.entry.now _ in
    rw (c.in_ok-put.ensures.ok, c.in_ok-after.ensures)
    (c.in_ok-new.ensures.kind _ (all_with (λ x. x.ino ≡ c.args.entry.now.ino → x.kind ≡ c.args.entry.now.kind) c.in_ok-gone.gone c.args.d.now (λ _. own) c.requires.kind))
