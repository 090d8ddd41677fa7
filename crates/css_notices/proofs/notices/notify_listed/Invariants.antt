use Rattle.std.proofs.Common.{◌≡◌, ◌++◌, drop}
use Rattle.std.specs.List.{flat_map}
use Rattle.role_steps.specs.Notices.{file_notices}
use Rattle.css_versions.specs.Lists.{found_rows}
use Rattle.css_notices.proofs.notices.notify_listed.Given as goal

abbrev pub invariant-loop-one : goal.invariant-loop-one
invariant-loop-one l = record {
  packets : l.out.packets ++ flat_map (file_notices l.frame l.group) (found_rows l.files (drop l.one-index l.listed)) ≡ l.initial.out.packets ++ flat_map (file_notices l.frame l.group) (found_rows l.files l.listed);
  records : l.out.records ≡ l.initial.out.records;
}
