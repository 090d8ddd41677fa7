use Rattle.std.proofs.Common.{◌≡◌, ◌≤◌, ◌-◌, length, replicate}
use Rattle.locus_ids.specs.Sizes.{sites_max}
use Rattle.wire_fields.proofs.Members.{with_boots, entries_times}
use Rattle.wire_parts.proofs.memberships.read_members.Given as goal

-- those so far and those still to be read are all
abbrev pub invariant-loop : goal.invariant-loop
invariant-loop l = record {
  all : with_boots l.boot (entries_times l.least (l.count - l.counter) l.fields) ≡ with_boots (replicate sites_max 0) (entries_times 1 l.count l.initial.fields);
  sites : length l.boot ≡ sites_max;
  low : 1 ≤ l.least;
}
