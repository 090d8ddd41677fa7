-- Operations on open instances, what they gave, and what a Look asks, as bytes.
use Rattle.std.specs.Prelude.{ℕ, ◌-◌, min, List}
use Rattle.field_codec.specs.of_locus_ids.Sizes.{file_bytes_max}
use Rattle.field_codec.specs.of_locus_ids.declared.ids.Kind.{Kind}
use Rattle.field_codec.specs.of_locus_ids.declared.refusal.Refusal.{Refusal}
use Rattle.trace_book.specs.declared.operation.Op.{Op}
use Rattle.trace_book.specs.declared.operation.Op.TheVariants as op
use Rattle.trace_book.specs.declared.operation.Outcome.{Outcome}
use Rattle.trace_book.specs.declared.operation.Outcome.TheVariants as outcome
use Rattle.trace_book.specs.declared.operation.What.{What}
use Rattle.trace_book.specs.declared.operation.What.TheVariants as what
use Rattle.field_codec.specs.Codec.{Codec, u16, u32_in, u16_in, pair, followed_by, empty}
use Rattle.field_codec.specs.Sums.{Kinds, kind, no_kind, nothing}
use Rattle.field_codec.specs.Shapes.{Spelled, by, case_of, cases, counted_bytes}
use Rattle.wire_fields.specs.Parts.{inodes, sizes, kinds, stamps, vectors, no_vector, names, components}
use Rattle.wire_fields.specs.Refusals.{refusals}
use Rattle.wire_fields.specs.declared.asked.Asked.{Asked}
use Rattle.wire_fields.specs.declared.asked.Asked.TheVariants as asked
use Rattle.wire_fields.specs.declared.asked.Gave.{Gave}
use Rattle.wire_fields.specs.declared.asked.Gave.TheVariants as gave

abbrev pub op_number : Op → ℕ
op_number (op.Probe _) = 1
op_number (op.Find _) = 2
op_number (op.Insert _ _ _) = 3
op_number (op.Remove _ _) = 4
op_number (op.Rename _ _) = 5
op_number op.Empty = 6
op_number (op.Read _ _) = 7
op_number (op.Write _ _) = 8
op_number (op.Cut _) = 9
op_number op.Commit = 10
op_number op.Abort = 11
op_number op.Mend = 12

-- a read of bytes that the asking site has is asked under a number of its own
abbrev pub asked_number : Asked → ℕ
asked_number (asked.Op o _) = op_number o
asked_number (asked.Held _ _) = 13

-- a place in a content, and 1 to 4,096 bytes that are written there and end with 65,536 at most
abbrev pub writes : Codec (ℕ × List ℕ)
writes = followed_by sizes (λ at. counted_bytes (u16_in 1 (min 4096 (file_bytes_max - at))))

abbrev pub inserts : Codec (List ℕ × (ℕ × Kind))
inserts = pair names (pair inodes kinds)

abbrev pub reads : Codec (ℕ × ℕ)
reads = pair sizes (u16_in 0 4096)

abbrev pub seeing_fields : Op → List ℕ → Spelled
seeing_fields (op.Probe name) seen = by (pair components no_vector) (name, seen)
seeing_fields (op.Find component) seen = by (pair components no_vector) (component, seen)
seeing_fields (op.Insert name ino k) seen = by (pair inserts no_vector) ((name, (ino, k)), seen)
seeing_fields (op.Remove name ino) seen = by (pair (pair names inodes) vectors) ((name, ino), seen)
seeing_fields (op.Rename component name) seen = by (pair (pair components names) no_vector) ((component, name), seen)
seeing_fields op.Empty seen = by no_vector seen
seeing_fields (op.Read at len) seen = by (pair reads no_vector) ((at, len), seen)
seeing_fields (op.Write at bytes) seen = by (pair writes no_vector) ((at, bytes), seen)
seeing_fields (op.Cut len) seen = by (pair sizes no_vector) (len, seen)
seeing_fields op.Commit seen = by no_vector seen
seeing_fields op.Abort seen = by no_vector seen
seeing_fields op.Mend seen = by no_vector seen

abbrev pub op_fields : Asked → Spelled
op_fields (asked.Op o seen) = seeing_fields o seen
op_fields (asked.Held at len) = by reads (at, len)

abbrev pub op_case : {A : Type 0} → (A → Asked) → Codec A → Codec Asked
op_case to c = case_of op_fields to c

abbrev pub op_kinds : Kinds Asked
op_kinds =
    kind 1 (op_case (λ p. asked.Op (op.Probe p.0) p.1) (pair components no_vector))
    (kind 2 (op_case (λ p. asked.Op (op.Find p.0) p.1) (pair components no_vector))
    (kind 3 (op_case (λ p. asked.Op (op.Insert p.0.0 p.0.1.0 p.0.1.1) p.1) (pair inserts no_vector))
    (kind 4 (op_case (λ p. asked.Op (op.Remove p.0.0 p.0.1) p.1) (pair (pair names inodes) vectors))
    (kind 5 (op_case (λ p. asked.Op (op.Rename p.0.0 p.0.1) p.1) (pair (pair components names) no_vector))
    (kind 6 (op_case (λ v. asked.Op op.Empty v) no_vector)
    (kind 7 (op_case (λ p. asked.Op (op.Read p.0.0 p.0.1) p.1) (pair reads no_vector))
    (kind 8 (op_case (λ p. asked.Op (op.Write p.0.0 p.0.1) p.1) (pair writes no_vector))
    (kind 9 (op_case (λ p. asked.Op (op.Cut p.0) p.1) (pair sizes no_vector))
    (kind 10 (op_case (λ v. asked.Op op.Commit v) no_vector)
    (kind 11 (op_case (λ v. asked.Op op.Abort v) no_vector)
    (kind 12 (op_case (λ v. asked.Op op.Mend v) no_vector)
    (kind 13 (op_case (λ p. asked.Held p.0 p.1) reads) no_kind))))))))))))

abbrev pub ops : Codec Asked
ops = cases asked_number op_fields op_kinds

-- what an operation gave where it was not refused
abbrev pub value_number : Gave → ℕ
value_number (gave.Outcome outcome.Done) = 0
value_number (gave.Outcome (outcome.Data _)) = 1
value_number (gave.Outcome (outcome.Found _ _)) = 2
value_number (gave.Outcome (outcome.Committed _)) = 3
value_number (gave.AsHeld _) = 4
value_number (gave.Outcome (outcome.No _)) = 255

abbrev pub data_bytes : Codec (List ℕ)
data_bytes = counted_bytes u16

abbrev pub value_fields : Gave → Spelled
value_fields (gave.Outcome outcome.Done) = by empty tt
value_fields (gave.Outcome (outcome.Data bytes)) = by data_bytes bytes
value_fields (gave.Outcome (outcome.Found ino k)) = by (pair inodes kinds) (ino, k)
value_fields (gave.Outcome (outcome.Committed stamp)) = by stamps stamp
value_fields (gave.AsHeld len) = by u16 len
value_fields (gave.Outcome (outcome.No _)) = by (nothing {A = ℕ}) 0

abbrev pub value_case : {A : Type 0} → (A → Gave) → Codec A → Codec Gave
value_case to c = case_of value_fields to c

abbrev pub value_kinds : Kinds Gave
value_kinds =
    kind 0 (value_case (λ _. gave.Outcome outcome.Done) empty)
    (kind 1 (value_case (λ bytes. gave.Outcome (outcome.Data bytes)) data_bytes)
    (kind 2 (value_case (λ p. gave.Outcome (outcome.Found p.0 p.1)) (pair inodes kinds))
    (kind 3 (value_case (λ stamp. gave.Outcome (outcome.Committed stamp)) stamps)
    (kind 4 (value_case gave.AsHeld u16) no_kind))))

abbrev pub values : Codec Gave
values = cases value_number value_fields value_kinds

-- 1 and a value, or 2 and a refusal
abbrev pub outcome_number : Gave → ℕ
outcome_number (gave.Outcome (outcome.No _)) = 2
outcome_number _ = 1

abbrev pub outcome_fields : Gave → Spelled
outcome_fields (gave.Outcome (outcome.No why)) = by refusals why
outcome_fields (gave.Outcome outcome.Done) = by values (gave.Outcome outcome.Done)
outcome_fields (gave.Outcome (outcome.Data bytes)) = by values (gave.Outcome (outcome.Data bytes))
outcome_fields (gave.Outcome (outcome.Found ino k)) = by values (gave.Outcome (outcome.Found ino k))
outcome_fields (gave.Outcome (outcome.Committed stamp)) = by values (gave.Outcome (outcome.Committed stamp))
outcome_fields (gave.AsHeld len) = by values (gave.AsHeld len)

abbrev pub outcome_case : {A : Type 0} → (A → Gave) → Codec A → Codec Gave
outcome_case to c = case_of outcome_fields to c

abbrev pub outcome_kinds : Kinds Gave
outcome_kinds = kind 1 (outcome_case (λ o. o) values) (kind 2 (outcome_case (λ why. gave.Outcome (outcome.No why)) refusals) no_kind)

abbrev pub outcomes : Codec Gave
outcomes = cases outcome_number outcome_fields outcome_kinds

abbrev pub what_number : What → ℕ
what_number (what.Name _) = 1
what_number what.List = 2
what_number what.Stat = 3
what_number (what.Whole _) = 4

abbrev pub what_fields : What → Spelled
what_fields (what.Name component) = by components component
what_fields what.List = by empty tt
what_fields what.Stat = by empty tt
what_fields (what.Whole stamp) = by stamps stamp

abbrev pub what_case : {A : Type 0} → (A → What) → Codec A → Codec What
what_case to c = case_of what_fields to c

abbrev pub what_kinds : Kinds What
what_kinds =
    kind 1 (what_case what.Name components)
    (kind 2 (what_case (λ _. what.List) empty)
    (kind 3 (what_case (λ _. what.Stat) empty)
    (kind 4 (what_case what.Whole stamps) no_kind)))

abbrev pub whats : Codec What
whats = cases what_number what_fields what_kinds
