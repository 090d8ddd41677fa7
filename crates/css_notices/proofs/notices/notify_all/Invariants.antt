use Rattle.std.proofs.Common.{◌≡◌, ◌++◌, drop}
use Rattle.std.specs.List.{flat_map}
use Rattle.role_steps.specs.Notices.{file_notices}
use Rattle.css_notices.proofs.notices.notify_all.Given as goal

abbrev pub invariant-loop-file : goal.invariant-loop-file
invariant-loop-file l = record {
  packets : l.out.packets ++ flat_map (file_notices l.frame l.group) (drop l.file-index l.files) ≡ l.initial.out.packets ++ flat_map (file_notices l.frame l.group) l.files;
  records : l.out.records ≡ l.initial.out.records;
}
