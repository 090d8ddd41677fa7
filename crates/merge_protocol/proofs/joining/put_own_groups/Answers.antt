use Rattle.std.proofs.Common.{◌∙◌, sym, arith}
use Rattle.locus_ids.specs.Sites.{has}
use Rattle.role_steps.specs.Views.{pack_sites}
use Rattle.merge_protocol.proofs.Tabled.{group_skipped}
use Rattle.merge_protocol.proofs.joining.put_own_groups.Goals as goal

pub loop-group-preserved : goal.loop-group-preserved
loop-group-preserved c = group_skipped (λ g. has (pack_sites c.args.config.now g) c.args.me) c.loop-group.group c.loop-group.groups (omega arith) (omega arith) (sym c.has_pack.ensures ∙ c.if-has_pack.false) c.loop-group.invariant
