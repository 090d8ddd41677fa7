use Rattle.std.proofs.Common.{◌≡◌, ◌++◌, map, filter, not, drop}
use Rattle.role_steps.specs.Notices.{notice}
use Rattle.role_steps.specs.Versions.{is_among}
use Rattle.css_notices.proofs.notices.notify_others.Given as goal

abbrev pub invariant-loop-member : goal.invariant-loop-member
invariant-loop-member l = record {
  packets : l.out.packets ++ map (notice l.frame l.group l.file l.version l.holder) (filter (λ s. not (is_among s l.holders)) (drop l.member-index l.members)) ≡ l.initial.out.packets ++ map (notice l.frame l.group l.file l.version l.holder) (filter (λ s. not (is_among s l.holders)) l.members);
  records : l.out.records ≡ l.initial.out.records;
}
