use Rattle.std.proofs.Common.{◌≡◌, ◌++◌, drop}
use Rattle.role_steps.specs.Using.{changed_records}
use Rattle.site_frame.specs.Printed.{printed}
use Rattle.waiting_calls.proofs.leaving.answer_changed.Given as goal

abbrev pub invariant-loop-row : goal.invariant-loop-row
invariant-loop-row l = record {
  packets : l.out.packets ≡ l.initial.out.packets;
  records : l.out.records ++ printed (changed_records l.me l.boot l.epoch (drop l.row-index l.rows)) ≡ l.initial.out.records ++ printed (changed_records l.me l.boot l.epoch l.rows);
}
