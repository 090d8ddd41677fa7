use Rattle.std.proofs.Common.{◌≡◌, ◌-◌, take, length}
use Rattle.locus_ids.specs.Sizes.{sites_max}
use Rattle.field_codec.specs.Codec.{u32}
use Rattle.field_codec.specs.Lists.{read_times}
use Rattle.field_codec.proofs.Loop.{with_front}
use Rattle.dir_operations.proofs.reading.read_vector.Given as goal

-- those so far and those still to be read are all
abbrev pub invariant-loop-i : goal.invariant-loop-i
invariant-loop-i l = record {
  sites : length l.counters ≡ sites_max;
  all : with_front (take l.i l.counters) (read_times (λ (_ : Unit {0}). u32) (λ _ _. tt) tt (sites_max - l.i) l.fields) ≡ read_times (λ (_ : Unit {0}). u32) (λ _ _. tt) tt sites_max l.initial.fields;
}
