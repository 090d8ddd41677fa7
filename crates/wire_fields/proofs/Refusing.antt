-- The laws of refusals.
use Rattle.std.proofs.Common.{refl, arith}
use Rattle.field_codec.specs.of_locus_ids.declared.refusal.Refusal.{Refusal}
use Rattle.field_codec.specs.of_locus_ids.declared.refusal.Refusal.TheVariants.{Busy, Absent, NotDir, IsDir, Exists, NotEmpty, Conflict, Ambiguous, NoStorage, NoPartition, Changed, BadDescriptor, Stale, TooLong, NoSpace, NoInode, BadName, ReadOnly, NoDescriptor, Spent, NoConflict}
use Rattle.field_codec.specs.Codec.{u16, pair, empty}
use Rattle.field_codec.specs.Sums.{tagged}
use Rattle.field_codec.specs.Shapes.{IsInRange}
use Rattle.field_codec.proofs.Laws.{Lawful, u16_laws, pair_laws, empty_laws}
use Rattle.field_codec.proofs.Shapes.{LawfulCases, no_case_laws, more_laws, cases_laws}
use Rattle.wire_fields.specs.Parts.{sites, processes, inodes, stamps, components}
use Rattle.wire_fields.specs.Refusals.{refusal_number, refusal_fields, refusal_kinds, refusals}
use Rattle.wire_fields.proofs.PartLaws.{sites_laws, processes_laws, inodes_laws, stamps_laws, components_laws}

every : LawfulCases refusal_number refusal_fields refusal_kinds
every =
    more_laws 1 (λ p. Busy p.0 p.1) (pair sites processes) (λ _ _. refl) (λ _ _. refl) (λ _ h. h) (pair_laws sites_laws processes_laws)
    (more_laws 2 Absent components (λ _ _. refl) (λ _ _. refl) (λ _ h. h) components_laws
    (more_laws 5 Exists inodes (λ _ _. refl) (λ _ _. refl) (λ _ h. h) inodes_laws
    (more_laws 6 NotEmpty components (λ _ _. refl) (λ _ _. refl) (λ _ h. h) components_laws
    (more_laws 7 (λ p. Conflict p.0 p.1) (pair stamps stamps) (λ _ _. refl) (λ _ _. refl) (λ _ h. h) (pair_laws stamps_laws stamps_laws)
    (more_laws 8 (λ p. Ambiguous p.0 p.1) (pair inodes inodes) (λ _ _. refl) (λ _ _. refl) (λ _ h. h) (pair_laws inodes_laws inodes_laws)
    (more_laws 9 (λ _. NoStorage) empty (λ _ _. refl) (λ _ _. refl) (λ _ h. h) empty_laws
    (more_laws 14 (λ _. TooLong) empty (λ _ _. refl) (λ _ _. refl) (λ _ h. h) empty_laws
    (more_laws 15 (λ p. NoSpace p.0 p.1) (pair u16 u16) (λ _ _. refl) (λ _ _. refl) (λ _ h. h) (pair_laws u16_laws u16_laws)
    (more_laws 16 (λ _. NoInode) empty (λ _ _. refl) (λ _ _. refl) (λ _ h. h) empty_laws
    (more_laws 20 (λ _. Spent) empty (λ _ _. refl) (λ _ _. refl) (λ _ h. h) empty_laws
    (more_laws 21 (λ _. NoConflict) empty (λ _ _. refl) (λ _ _. refl) (λ _ h. h) empty_laws
    (no_case_laws refusal_number refusal_fields))))))))))))

covers : (why : Refusal) → IsInRange (refusal_fields why) → (tagged refusal_number refusal_kinds).Fits why
covers (Busy site process) h = (omega arith, refl, ((site, process), refl, h))
covers (Absent name) h = (omega arith, refl, (name, refl, h))
covers (NotDir name) h = absurd h
covers IsDir h = absurd h
covers (Exists ino) h = (omega arith, refl, (ino, refl, h))
covers (NotEmpty name) h = (omega arith, refl, (name, refl, h))
covers (Conflict a b) h = (omega arith, refl, ((a, b), refl, h))
covers (Ambiguous a b) h = (omega arith, refl, ((a, b), refl, h))
covers NoStorage h = (omega arith, refl, (tt, refl, h))
covers NoPartition h = absurd h
covers (Changed e) h = absurd h
covers BadDescriptor h = absurd h
covers (Stale e) h = absurd h
covers TooLong h = (omega arith, refl, (tt, refl, h))
covers (NoSpace needed free) h = (omega arith, refl, ((needed, free), refl, h))
covers NoInode h = (omega arith, refl, (tt, refl, h))
covers BadName h = absurd h
covers ReadOnly h = absurd h
covers NoDescriptor h = absurd h
covers Spent h = (omega arith, refl, (tt, refl, h))
covers NoConflict h = (omega arith, refl, (tt, refl, h))

pub refusals_laws : Lawful refusals
refusals_laws = cases_laws every covers
