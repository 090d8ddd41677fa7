use Rattle.std.proofs.Common.{get_or, refl, ◌∙◌, arith}
use Rattle.role_steps.specs.Epochs.{report_packets}
use Rattle.site_parts.proofs.Reported.{group_reported, groups_reported}
use Rattle.site_parts.proofs.reporting.report_groups.Goals as goal

pub loop-group-preserved : goal.loop-group-preserved
loop-group-preserved c = record {
  packets = λ v image h e. group_reported (report_packets c.args.frame.now v) c.args.groups.now c.loop-group.group-index (get_or c.args.groups.now c.loop-group.group-index 0) c.report.new.out.packets c.loop-group.out.packets _ (omega arith) refl (c.in_ok-report.ensures.packets v image h e) (c.loop-group.invariant.packets v image h e);
  records = c.in_ok-report.ensures.records ∙ c.loop-group.invariant.records;
}

pub returns-clause-packets : goal.returns-clause-packets
returns-clause-packets c = λ v image h e. groups_reported (report_packets c.args.frame.now v) c.args.groups.now c.loop-group.group-index c.loop-group.out.packets _ (omega arith) (c.loop-group.invariant.packets v image h e)
