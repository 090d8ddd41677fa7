use Rattle.std.proofs.Common.{◌≡◌, ◌+◌, ℕ, List, length, drop}
use Rattle.std.specs.List.{AllByRecursion}
use Rattle.packet_queue.specs.of_role_steps.Tables.{total}
use Rattle.packet_mail.specs.Letters.{IsSpelled}
use Rattle.packet_mail.proofs.Adding.{AddsSoFar}
use Rattle.packet_mail.proofs.mail.add_all.Given as goal

abbrev pub invariant-loop-i : goal.invariant-loop-i
invariant-loop-i l = record {
  count : length l.queue.circuits ≡ length l.initial.queue.circuits + l.i;
  table : length l.ends.items ≡ 262145;
  size : l.end + total (λ (x : List ℕ). length x) (drop l.i l.letters) ≡ l.before + total (λ (x : List ℕ). length x) l.letters;
  left : AllByRecursion IsSpelled (drop l.i l.letters);
  adds : AddsSoFar l.before l.letters l.i l.initial.queue l.initial.ends.items l.queue l.ends.items l.end;
}
