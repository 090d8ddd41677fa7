-- Refusals as bytes: a number, and what it says besides. Those that a site gives its own callers alone have no bytes.
use Rattle.std.specs.Prelude.{ℕ}
use Rattle.field_codec.specs.of_locus_ids.declared.refusal.Refusal.{Refusal}
use Rattle.field_codec.specs.of_locus_ids.declared.refusal.Refusal.TheVariants.{Busy, Absent, NotDir, IsDir, Exists, NotEmpty, Conflict, Ambiguous, NoStorage, NoPartition, Changed, BadDescriptor, Stale, TooLong, NoSpace, NoInode, BadName, ReadOnly, NoDescriptor, Spent, NoConflict}
use Rattle.field_codec.specs.Codec.{Codec, u16, pair, empty}
use Rattle.field_codec.specs.Sums.{Kinds, kind, no_kind, nothing}
use Rattle.field_codec.specs.Shapes.{Spelled, by, case_of, cases}
use Rattle.wire_fields.specs.Parts.{sites, processes, inodes, stamps, components}

abbrev pub refusal_number : Refusal → ℕ
refusal_number (Busy _ _) = 1
refusal_number (Absent _) = 2
refusal_number (NotDir _) = 3
refusal_number IsDir = 4
refusal_number (Exists _) = 5
refusal_number (NotEmpty _) = 6
refusal_number (Conflict _ _) = 7
refusal_number (Ambiguous _ _) = 8
refusal_number NoStorage = 9
refusal_number NoPartition = 10
refusal_number (Changed _) = 11
refusal_number BadDescriptor = 12
refusal_number (Stale _) = 13
refusal_number TooLong = 14
refusal_number (NoSpace _ _) = 15
refusal_number NoInode = 16
refusal_number BadName = 17
refusal_number ReadOnly = 18
refusal_number NoDescriptor = 19
refusal_number Spent = 20
refusal_number NoConflict = 21

abbrev pub no_bytes : Spelled
no_bytes = by (nothing {A = ℕ}) 0

abbrev pub refusal_fields : Refusal → Spelled
refusal_fields (Busy site process) = by (pair sites processes) (site, process)
refusal_fields (Absent name) = by components name
refusal_fields (NotDir _) = no_bytes
refusal_fields IsDir = no_bytes
refusal_fields (Exists ino) = by inodes ino
refusal_fields (NotEmpty name) = by components name
refusal_fields (Conflict a b) = by (pair stamps stamps) (a, b)
refusal_fields (Ambiguous a b) = by (pair inodes inodes) (a, b)
refusal_fields NoStorage = by empty tt
refusal_fields NoPartition = no_bytes
refusal_fields (Changed _) = no_bytes
refusal_fields BadDescriptor = no_bytes
refusal_fields (Stale _) = no_bytes
refusal_fields TooLong = by empty tt
refusal_fields (NoSpace needed free) = by (pair u16 u16) (needed, free)
refusal_fields NoInode = by empty tt
refusal_fields BadName = no_bytes
refusal_fields ReadOnly = no_bytes
refusal_fields NoDescriptor = no_bytes
refusal_fields Spent = by empty tt
refusal_fields NoConflict = by empty tt

abbrev pub refusal_case : {A : Type 0} → (A → Refusal) → Codec A → Codec Refusal
refusal_case to c = case_of refusal_fields to c

abbrev pub refusal_kinds : Kinds Refusal
refusal_kinds =
    kind 1 (refusal_case (λ p. Busy p.0 p.1) (pair sites processes))
    (kind 2 (refusal_case Absent components)
    (kind 5 (refusal_case Exists inodes)
    (kind 6 (refusal_case NotEmpty components)
    (kind 7 (refusal_case (λ p. Conflict p.0 p.1) (pair stamps stamps))
    (kind 8 (refusal_case (λ p. Ambiguous p.0 p.1) (pair inodes inodes))
    (kind 9 (refusal_case (λ _. NoStorage) empty)
    (kind 14 (refusal_case (λ _. TooLong) empty)
    (kind 15 (refusal_case (λ p. NoSpace p.0 p.1) (pair u16 u16))
    (kind 16 (refusal_case (λ _. NoInode) empty)
    (kind 20 (refusal_case (λ _. Spent) empty)
    (kind 21 (refusal_case (λ _. NoConflict) empty) no_kind)))))))))))

abbrev pub refusals : Codec Refusal
refusals = cases refusal_number refusal_fields refusal_kinds
