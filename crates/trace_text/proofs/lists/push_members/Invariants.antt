use Rattle.std.proofs.Common.{◌≡◌, ◌++◌}
use Rattle.trace_text.proofs.Commas.{none_yet}
use Rattle.trace_book.specs.Text.{member_text, members_to, with_commas}
use Rattle.trace_text.proofs.lists.push_members.Given as goal

abbrev pub invariant-loop-place : goal.invariant-loop-place
invariant-loop-place l = record {
  written : l.out ≡ l.initial.out ++ with_commas member_text (members_to l.members.boot l.place);
  first : l.first ≡ none_yet (members_to l.members.boot l.place);
}
