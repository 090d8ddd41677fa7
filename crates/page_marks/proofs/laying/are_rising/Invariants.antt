use Rattle.std.proofs.Common.{◌≡◌, drop}
use Rattle.std.specs.Prelude.{nat_lt}
use Rattle.std.specs.List.{list_all}
use Rattle.role_steps.specs.Pulling.{ascend_from}
use Rattle.page_marks.proofs.laying.are_rising.Given as goal

abbrev pub invariant-loop-i : goal.invariant-loop-i
invariant-loop-i l = record {
  rise : ascend_from 0 l.numbers ≡ ascend_from l.least (drop l.i l.numbers);
  inside : list_all (λ page. nat_lt page l.count) l.numbers ≡ list_all (λ page. nat_lt page l.count) (drop l.i l.numbers);
}
