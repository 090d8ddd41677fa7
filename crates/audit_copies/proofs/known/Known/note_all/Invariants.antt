use Rattle.std.proofs.Common.{◌≡◌, drop}
use Rattle.past_laws.specs.of_promises.After.{with_all_known}
use Rattle.audit_copies.proofs.known.Known.note_all.Given as goal

abbrev pub invariant-loop-copy : goal.invariant-loop-copy
invariant-loop-copy l = with_all_known (drop l.copy-index l.copies) l.self ≡ with_all_known l.copies l.fn.self
