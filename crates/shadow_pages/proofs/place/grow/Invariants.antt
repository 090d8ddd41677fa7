use Rattle.std.proofs.Common.{◌≤◌, max}
use Rattle.shadow_pages.proofs.Steps.{Grown}
use Rattle.shadow_pages.proofs.place.grow.Given as goal

abbrev pub invariant-loop : goal.invariant-loop
invariant-loop l = record {
  grown : Grown l.initial.pages.items l.pages.items l.before l.counter;
  most : l.counter ≤ max l.len l.before;
}
