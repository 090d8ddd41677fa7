-- The laws of operations, outcomes and what a Look asks.
use Rattle.std.proofs.Common.{◌≡◌, ℕ, ◌-◌, List, refl, arith}
use Rattle.std.specs.Prelude.{min}
use Rattle.field_codec.specs.of_locus_ids.Sizes.{file_bytes_max}
use Rattle.trace_book.specs.declared.operation.Op.{Op}
use Rattle.trace_book.specs.declared.operation.Op.TheVariants as op
use Rattle.trace_book.specs.declared.operation.Outcome.{Outcome}
use Rattle.trace_book.specs.declared.operation.Outcome.TheVariants as outcome
use Rattle.trace_book.specs.declared.operation.What.{What}
use Rattle.trace_book.specs.declared.operation.What.TheVariants as what
use Rattle.field_codec.specs.Codec.{u16, u16_in, pair, empty}
use Rattle.field_codec.specs.Sums.{tagged}
use Rattle.field_codec.specs.Shapes.{IsInRange, bytes_of, counted_bytes}
use Rattle.field_codec.proofs.Laws.{Lawful, u16_laws, pair_laws, followed_by_laws, empty_laws}
use Rattle.field_codec.proofs.Shapes.{LawfulCases, no_case_laws, more_laws, cases_laws, counted_bytes_laws}
use Rattle.wire_fields.specs.Parts.{inodes, sizes, kinds, stamps, vectors, no_vector, names, components}
use Rattle.wire_fields.specs.Refusals.{refusals}
use Rattle.wire_fields.specs.declared.asked.Asked.{Asked}
use Rattle.wire_fields.specs.declared.asked.Asked.TheVariants as asked
use Rattle.wire_fields.specs.declared.asked.Gave.{Gave}
use Rattle.wire_fields.specs.declared.asked.Gave.TheVariants as gave
use Rattle.wire_fields.specs.Operations.{asked_number, op_number, writes, inserts, reads, seeing_fields, op_fields, op_kinds, ops, value_number, data_bytes, value_fields, value_kinds, values, outcome_number, outcome_fields, outcome_kinds, outcomes, what_number, what_fields, what_kinds, whats}
use Rattle.wire_fields.proofs.PartLaws.{u16_in_laws, inodes_laws, sizes_laws, kinds_laws, stamps_laws, vectors_laws, no_vector_laws, names_laws, components_laws}
use Rattle.wire_fields.proofs.Refusing.{refusals_laws}

writes_laws : Lawful writes
writes_laws = followed_by_laws sizes (λ at. counted_bytes (u16_in 1 (min 4096 (file_bytes_max - at)))) sizes_laws (λ at. counted_bytes_laws (u16_in_laws 1 (min 4096 (file_bytes_max - at))))

inserts_laws : Lawful inserts
inserts_laws = pair_laws names_laws (pair_laws inodes_laws kinds_laws)

reads_laws : Lawful reads
reads_laws = pair_laws sizes_laws (u16_in_laws 0 4096)

every_op : LawfulCases asked_number op_fields op_kinds
every_op =
    more_laws 1 (λ p. asked.Op (op.Probe p.0) p.1) (pair components no_vector) (λ _ _. refl) (λ _ _. refl) (λ _ h. h) (pair_laws components_laws no_vector_laws)
    (more_laws 2 (λ p. asked.Op (op.Find p.0) p.1) (pair components no_vector) (λ _ _. refl) (λ _ _. refl) (λ _ h. h) (pair_laws components_laws no_vector_laws)
    (more_laws 3 (λ p. asked.Op (op.Insert p.0.0 p.0.1.0 p.0.1.1) p.1) (pair inserts no_vector) (λ _ _. refl) (λ _ _. refl) (λ _ h. h) (pair_laws inserts_laws no_vector_laws)
    (more_laws 4 (λ p. asked.Op (op.Remove p.0.0 p.0.1) p.1) (pair (pair names inodes) vectors) (λ _ _. refl) (λ _ _. refl) (λ _ h. h) (pair_laws (pair_laws names_laws inodes_laws) vectors_laws)
    (more_laws 5 (λ p. asked.Op (op.Rename p.0.0 p.0.1) p.1) (pair (pair components names) no_vector) (λ _ _. refl) (λ _ _. refl) (λ _ h. h) (pair_laws (pair_laws components_laws names_laws) no_vector_laws)
    (more_laws 6 (λ v. asked.Op op.Empty v) no_vector (λ _ _. refl) (λ _ _. refl) (λ _ h. h) no_vector_laws
    (more_laws 7 (λ p. asked.Op (op.Read p.0.0 p.0.1) p.1) (pair reads no_vector) (λ _ _. refl) (λ _ _. refl) (λ _ h. h) (pair_laws reads_laws no_vector_laws)
    (more_laws 8 (λ p. asked.Op (op.Write p.0.0 p.0.1) p.1) (pair writes no_vector) (λ _ _. refl) (λ _ _. refl) (λ _ h. h) (pair_laws writes_laws no_vector_laws)
    (more_laws 9 (λ p. asked.Op (op.Cut p.0) p.1) (pair sizes no_vector) (λ _ _. refl) (λ _ _. refl) (λ _ h. h) (pair_laws sizes_laws no_vector_laws)
    (more_laws 10 (λ v. asked.Op op.Commit v) no_vector (λ _ _. refl) (λ _ _. refl) (λ _ h. h) no_vector_laws
    (more_laws 11 (λ v. asked.Op op.Abort v) no_vector (λ _ _. refl) (λ _ _. refl) (λ _ h. h) no_vector_laws
    (more_laws 12 (λ v. asked.Op op.Mend v) no_vector (λ _ _. refl) (λ _ _. refl) (λ _ h. h) no_vector_laws
    (more_laws 13 (λ p. asked.Held p.0 p.1) reads (λ _ _. refl) (λ _ _. refl) (λ _ h. h) reads_laws
    (no_case_laws asked_number op_fields)))))))))))))

covers_op : (o : Op) (seen : List ℕ) → IsInRange (seeing_fields o seen) → (tagged asked_number op_kinds).Fits (asked.Op o seen)
covers_op (op.Probe name) seen h = (omega arith, refl, ((name, seen), refl, h))
covers_op (op.Find component) seen h = (omega arith, refl, ((component, seen), refl, h))
covers_op (op.Insert name ino k) seen h = (omega arith, refl, (((name, (ino, k)), seen), refl, h))
covers_op (op.Remove name ino) seen h = (omega arith, refl, (((name, ino), seen), refl, h))
covers_op (op.Rename component name) seen h = (omega arith, refl, (((component, name), seen), refl, h))
covers_op op.Empty seen h = (omega arith, refl, (seen, refl, h))
covers_op (op.Read at len) seen h = (omega arith, refl, (((at, len), seen), refl, h))
covers_op (op.Write at bytes) seen h = (omega arith, refl, (((at, bytes), seen), refl, h))
covers_op (op.Cut len) seen h = (omega arith, refl, ((len, seen), refl, h))
covers_op op.Commit seen h = (omega arith, refl, (seen, refl, h))
covers_op op.Abort seen h = (omega arith, refl, (seen, refl, h))
covers_op op.Mend seen h = (omega arith, refl, (seen, refl, h))

covers_asked : (a : Asked) → IsInRange (op_fields a) → (tagged asked_number op_kinds).Fits a
covers_asked (asked.Op o seen) h = covers_op o seen h
covers_asked (asked.Held at len) h = (omega arith, refl, ((at, len), refl, h))

pub ops_laws : Lawful ops
ops_laws = cases_laws every_op covers_asked

every_value : LawfulCases value_number value_fields value_kinds
every_value =
    more_laws 0 (λ _. gave.Outcome outcome.Done) empty (λ _ _. refl) (λ _ _. refl) (λ _ h. h) empty_laws
    (more_laws 1 (λ bytes. gave.Outcome (outcome.Data bytes)) data_bytes (λ _ _. refl) (λ _ _. refl) (λ _ h. h) (counted_bytes_laws u16_laws)
    (more_laws 2 (λ p. gave.Outcome (outcome.Found p.0 p.1)) (pair inodes kinds) (λ _ _. refl) (λ _ _. refl) (λ _ h. h) (pair_laws inodes_laws kinds_laws)
    (more_laws 3 (λ stamp. gave.Outcome (outcome.Committed stamp)) stamps (λ _ _. refl) (λ _ _. refl) (λ _ h. h) stamps_laws
    (more_laws 4 gave.AsHeld u16 (λ _ _. refl) (λ _ _. refl) (λ _ h. h) u16_laws
    (no_case_laws value_number value_fields)))))

covers_value : (o : Gave) → IsInRange (value_fields o) → (tagged value_number value_kinds).Fits o
covers_value (gave.Outcome outcome.Done) h = (omega arith, refl, (tt, refl, h))
covers_value (gave.Outcome (outcome.Data bytes)) h = (omega arith, refl, (bytes, refl, h))
covers_value (gave.Outcome (outcome.Found ino k)) h = (omega arith, refl, ((ino, k), refl, h))
covers_value (gave.Outcome (outcome.Committed stamp)) h = (omega arith, refl, (stamp, refl, h))
covers_value (gave.AsHeld len) h = (omega arith, refl, (len, refl, h))
covers_value (gave.Outcome (outcome.No why)) h = absurd h

values_laws : Lawful values
values_laws = cases_laws every_value covers_value

value_side : (o : Gave) → values.Fits o → outcome_number o ≡ 1
value_side (gave.Outcome outcome.Done) h = refl
value_side (gave.Outcome (outcome.Data bytes)) h = refl
value_side (gave.Outcome (outcome.Found ino k)) h = refl
value_side (gave.Outcome (outcome.Committed stamp)) h = refl
value_side (gave.AsHeld len) h = refl
value_side (gave.Outcome (outcome.No why)) h = absurd h

value_spelled : (o : Gave) → values.Fits o → bytes_of (outcome_fields o) ≡ values.spell o
value_spelled (gave.Outcome outcome.Done) h = refl
value_spelled (gave.Outcome (outcome.Data bytes)) h = refl
value_spelled (gave.Outcome (outcome.Found ino k)) h = refl
value_spelled (gave.Outcome (outcome.Committed stamp)) h = refl
value_spelled (gave.AsHeld len) h = refl
value_spelled (gave.Outcome (outcome.No why)) h = absurd h

value_fits : (o : Gave) → values.Fits o → IsInRange (outcome_fields o)
value_fits (gave.Outcome outcome.Done) h = h
value_fits (gave.Outcome (outcome.Data bytes)) h = h
value_fits (gave.Outcome (outcome.Found ino k)) h = h
value_fits (gave.Outcome (outcome.Committed stamp)) h = h
value_fits (gave.AsHeld len) h = h
value_fits (gave.Outcome (outcome.No why)) h = absurd h

every_outcome : LawfulCases outcome_number outcome_fields outcome_kinds
every_outcome =
    more_laws 1 (λ o. o) values value_side value_spelled value_fits values_laws
    (more_laws 2 (λ why. gave.Outcome (outcome.No why)) refusals (λ _ _. refl) (λ _ _. refl) (λ _ h. h) refusals_laws
    (no_case_laws outcome_number outcome_fields))

covers_outcome : (o : Gave) → IsInRange (outcome_fields o) → (tagged outcome_number outcome_kinds).Fits o
covers_outcome (gave.Outcome outcome.Done) h = (omega arith, refl, (gave.Outcome outcome.Done, refl, h))
covers_outcome (gave.Outcome (outcome.Data bytes)) h = (omega arith, refl, (gave.Outcome (outcome.Data bytes), refl, h))
covers_outcome (gave.Outcome (outcome.Found ino k)) h = (omega arith, refl, (gave.Outcome (outcome.Found ino k), refl, h))
covers_outcome (gave.Outcome (outcome.Committed stamp)) h = (omega arith, refl, (gave.Outcome (outcome.Committed stamp), refl, h))
covers_outcome (gave.AsHeld len) h = (omega arith, refl, (gave.AsHeld len, refl, h))
covers_outcome (gave.Outcome (outcome.No why)) h = (omega arith, refl, (why, refl, h))

pub outcomes_laws : Lawful outcomes
outcomes_laws = cases_laws every_outcome covers_outcome

every_what : LawfulCases what_number what_fields what_kinds
every_what =
    more_laws 1 what.Name components (λ _ _. refl) (λ _ _. refl) (λ _ h. h) components_laws
    (more_laws 2 (λ _. what.List) empty (λ _ _. refl) (λ _ _. refl) (λ _ h. h) empty_laws
    (more_laws 3 (λ _. what.Stat) empty (λ _ _. refl) (λ _ _. refl) (λ _ h. h) empty_laws
    (more_laws 4 what.Whole stamps (λ _ _. refl) (λ _ _. refl) (λ _ h. h) stamps_laws
    (no_case_laws what_number what_fields))))

covers_what : (w : What) → IsInRange (what_fields w) → (tagged what_number what_kinds).Fits w
covers_what (what.Name component) h = (omega arith, refl, (component, refl, h))
covers_what what.List h = (omega arith, refl, (tt, refl, h))
covers_what what.Stat h = (omega arith, refl, (tt, refl, h))
covers_what (what.Whole stamp) h = (omega arith, refl, (stamp, refl, h))

pub whats_laws : Lawful whats
whats_laws = cases_laws every_what covers_what
