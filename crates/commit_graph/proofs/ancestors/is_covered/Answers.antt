use Rattle.std.proofs.Common.{◌≡◌, Bool, reverse, ◌∙◌, ap, subst, not, List}
use Rattle.std.specs.Result.{IfOk}
use Rattle.std.specs.List.{list_any, filter}
use Rattle.locus_ids.specs.declared.ids.Stamp.{Stamp}
use Rattle.commit_graph.specs.Versions.{same_stamp, is_ancestor, is_covered}
use Rattle.commit_graph.proofs.Wanted.{covered_by_others}
use Rattle.commit_graph.proofs.ancestors.is_covered.Goals as goal

pub returns : goal.returns
returns c =
    let items : c.take_out.new.stamps.items ≡ filter (λ s. not (same_stamp s c.args.stamp)) c.args.brought.now = c.take_out.ensures ∙ ap (λ (ps : List Stamp). filter (λ s. not (same_stamp s c.args.stamp)) ps) c.in_ok-others.ensures.items in
    let same : list_any (is_ancestor (reverse c.args.versions.now) c.args.file c.args.stamp) c.take_out.new.stamps.items ≡ is_covered (reverse c.args.versions.now) c.args.file c.args.brought.now c.args.stamp =
    ap (λ (ps : List Stamp). list_any (is_ancestor (reverse c.args.versions.now) c.args.file c.args.stamp) ps) items
    ∙ covered_by_others (reverse c.args.versions.now) c.args.file c.args.stamp c.args.brought.now in
    subst (λ (x : Bool). IfOk c.reaches.result (λ yes. yes ≡ x)) same c.reaches.ensures
