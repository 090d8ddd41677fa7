use Rattle.std.proofs.Common.{◌≡◌, ◌++◌}
use Rattle.trace_text.proofs.Commas.{none_yet}
use Rattle.trace_book.specs.Text.{number, sites_to, with_commas}
use Rattle.trace_text.proofs.lists.push_sites.Given as goal

abbrev pub invariant-loop-place : goal.invariant-loop-place
invariant-loop-place l = record {
  written : l.out ≡ l.initial.out ++ with_commas number (sites_to l.sites l.place);
  first : l.first ≡ none_yet (sites_to l.sites l.place);
}
