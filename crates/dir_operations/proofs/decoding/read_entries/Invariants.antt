use Rattle.std.proofs.Common.{◌≡◌, ◌-◌, [], reverse, length, ◌+◌}
use Rattle.locus_ids.specs.Sizes.{inodes_max}
use Rattle.field_codec.proofs.Loop.{with_front}
use Rattle.dir_format.specs.Grammar.{read_entries}
use Rattle.dir_operations.specs.Kinds.{KnowsKinds}
use Rattle.dir_operations.proofs.decoding.read_entries.Given as goal

-- those so far and those still to be read are all, and the table knows the kinds of those so far
abbrev pub invariant-loop : goal.invariant-loop
invariant-loop l = record {
  all : with_front l.entries.items (read_entries (l.most - l.counter) (reverse l.entries.items) l.fields) ≡ read_entries l.most [] l.initial.fields;
  known : KnowsKinds l.kinds (reverse l.entries.items);
  inodes : length l.kinds ≡ inodes_max + 1;
}
