use Rattle.std.proofs.Common.{sym, ap, ◌∙◌}
use Rattle.tree_model.specs.Packs.{has_pack}
use Rattle.audit_sites.specs.Rows.{first_copy}
use Rattle.audit_sites.proofs.Counted.{passing_more, passing_past}
use Rattle.audit_sites.proofs.starting.first_copies.Goals as goal
use Rattle.audit_sites.proofs.starting.first_copies.Goals.{then-has_pack+in_ok-push, else-has_pack}

pub loop-group-preserved : goal.loop-group-preserved
loop-group-preserved c =
    elim c.if-has_pack.branch [
      | then-has_pack+in_ok-push w ↦
          passing_more (λ group. has_pack c.args.config.now group c.args.site) first_copy c.loop-group.group 4 c.loop-group.made.items c.if-has_pack.made.items _ w.first_copy.result
          c.loop-group-test.true (sym c.has_pack.ensures ∙ w.if-has_pack.true) (ap (λ v. v.items) w.made-is ∙ w.in_ok-push.ensures.items) w.first_copy.ensures c.loop-group.invariant
      | else-has_pack w ↦
          passing_past (λ group. has_pack c.args.config.now group c.args.site) first_copy c.loop-group.group 4 c.loop-group.made.items c.if-has_pack.made.items _
          c.loop-group-test.true (sym c.has_pack.ensures ∙ w.if-has_pack.false) (ap (λ v. v.items) w.made-is) c.loop-group.invariant
    ]
