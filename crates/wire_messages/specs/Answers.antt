-- How opens are asked, and what opens, closes and Looks are answered, as bytes.
use Rattle.std.specs.Prelude.{ℕ, ◌+◌, ◌==◌, Bool, cond, List, Option, None, Some, ◌-◌}
use Rattle.wire_fields.specs.of_locus_ids.Sizes.{sites_max, inodes_max, set_span}
use Rattle.wire_fields.specs.of_locus_ids.declared.ids.Kind.{Kind}
use Rattle.wire_fields.specs.of_locus_ids.declared.ids.Kind.TheVariants.{File, Dir}
use Rattle.wire_fields.specs.of_locus_ids.declared.ids.Mode.{Mode}
use Rattle.wire_fields.specs.of_locus_ids.declared.ids.Mode.TheVariants as mode
use Rattle.wire_fields.specs.of_locus_ids.declared.ids.FileId.{FileId}
use Rattle.wire_fields.specs.of_locus_ids.declared.ids.Stamp.{Stamp}
use Rattle.wire_fields.specs.of_field_codec.Codec.{Codec, u8, u16, u32, u8_in, u16_in, u32_in, pair, followed_by, made, empty}
use Rattle.wire_fields.specs.of_field_codec.Sums.{Kinds, kind, no_kind}
use Rattle.wire_fields.specs.of_field_codec.Lists.{counted}
use Rattle.wire_fields.specs.of_field_codec.Shapes.{Spelled, by, case_of, cases, counted_bytes}
use Rattle.wire_fields.specs.Parts.{sites, inodes, sizes, some_set, kind_number, kinds, stamps, vectors, vectors_of}
use Rattle.wire_fields.specs.Refusals.{refusals}
use Rattle.wire_messages.specs.declared.body.Opening.{Opening}
use Rattle.wire_messages.specs.declared.body.Opening.TheVariants as opening
use Rattle.wire_messages.specs.declared.body.ReportedCopy.{ReportedCopy}
use Rattle.wire_messages.specs.declared.body.OpenedAs.{OpenedAs}
use Rattle.wire_messages.specs.declared.body.OpenedAs.TheVariants as opened
use Rattle.wire_messages.specs.declared.body.Granted.{Granted}
use Rattle.wire_messages.specs.declared.body.Granted.TheVariants as granted
use Rattle.wire_messages.specs.declared.body.MadeVersion.{MadeVersion}
use Rattle.wire_messages.specs.declared.body.CloseAnswer.{CloseAnswer}
use Rattle.wire_messages.specs.declared.body.CloseAnswer.TheVariants as close
use Rattle.wire_messages.specs.declared.body.LookAnswer.{LookAnswer}
use Rattle.wire_messages.specs.declared.body.LookAnswer.TheVariants as look

-- a file with inode 0 is still to be made
abbrev pub is_new : FileId → Bool
is_new file = file.ino == 0

-- the number of a mode: 5 for a file that is to be made, and else 1 to 4
abbrev pub mode_numbers : Bool → Codec ℕ
mode_numbers new = u8_in (cond new 5 1) (cond new 5 4)

abbrev pub mode_number : Mode → ℕ
mode_number mode.Read = 1
mode_number mode.Write = 2
mode_number mode.Resolve = 3
mode_number mode.Mend = 4
mode_number mode.Make = 5

abbrev pub mode_of : ℕ → Mode
mode_of n = cond (n == 1) mode.Read (cond (n == 2) mode.Write (cond (n == 3) mode.Resolve (cond (n == 4) mode.Mend mode.Make)))

abbrev pub modes : Bool → Codec Mode
modes new = made mode_of mode_number (mode_numbers new)

-- a mode's number, a site, a set and the number of a kind
abbrev pub OpeningNumbers : Type 0
OpeningNumbers = ℕ × (ℕ × (ℕ × ℕ))

-- the site is 0 but for a resolve; set and kind are 0 but for a make
abbrev pub opening_numbers : Bool → Codec OpeningNumbers
opening_numbers new = followed_by (mode_numbers new) (λ m. pair (u8_in (cond (m == 3) 1 0) (cond (m == 3) sites_max 0))
    (pair (u16_in (cond (m == 5) 1 0) (cond (m == 5) (set_span - 1) 0)) (u8_in (cond (m == 5) 1 0) (cond (m == 5) 2 0))))

abbrev pub numbers_of : Opening → OpeningNumbers
numbers_of opening.Read = (1, (0, (0, 0)))
numbers_of opening.Write = (2, (0, (0, 0)))
numbers_of (opening.Resolve site) = (3, (site, (0, 0)))
numbers_of opening.Mend = (4, (0, (0, 0)))
numbers_of (opening.Make set k) = (5, (0, (set.0, kind_number k)))

abbrev pub kind_from : ℕ → Kind
kind_from n = cond (n == 1) File Dir

abbrev pub opening_of : OpeningNumbers → Opening
opening_of p = cond (p.0 == 1) opening.Read (cond (p.0 == 2) opening.Write (cond (p.0 == 3) (opening.Resolve p.1.0) (cond (p.0 == 4) opening.Mend (opening.Make (record { 0 = p.1.1.0 }) (kind_from p.1.1.1)))))

abbrev pub openings : Bool → Codec Opening
openings new = made opening_of numbers_of (opening_numbers new)

abbrev pub made_versions : Codec MadeVersion
made_versions = made (λ p. record { stamp = p.0; vector = p.1.0; size = p.1.1 }) (λ v. (v.stamp, (v.vector, v.size))) (followed_by stamps (λ stamp. pair (vectors_of stamp) sizes))

-- a stamp and the vector that agrees with it
abbrev pub versions : Codec (Stamp × List ℕ)
versions = followed_by stamps vectors_of

-- a copy whose inode is not below this one
abbrev pub copies_from : ℕ → Codec ReportedCopy
copies_from least = made (λ p. record { ino = p.0; kind = p.1.0; set = p.1.1.0; size = p.1.1.1.0; stamp = p.1.1.1.1.0; vector = p.1.1.1.1.1 })
    (λ c. (c.ino, (c.kind, (c.set, (c.size, (c.stamp, c.vector)))))) (pair (u16_in least inodes_max) (pair kinds (pair some_set (pair sizes versions))))

-- a count, and so many copies whose inodes ascend
abbrev pub reported_copies : Codec (List ReportedCopy)
reported_copies = counted copies_from (λ _ copy. copy.ino + 1) u16 1

abbrev pub opened_number : OpenedAs → ℕ
opened_number (opened.Open _ _) = 1
opened_number (opened.No _) = 2

abbrev pub opened_fields : OpenedAs → Spelled
opened_fields (opened.Open ino size) = by (pair inodes sizes) (ino, size)
opened_fields (opened.No why) = by refusals why

abbrev pub opened_kinds : Kinds OpenedAs
opened_kinds = kind 1 (case_of opened_fields (λ p. opened.Open p.0 p.1) (pair inodes sizes)) (kind 2 (case_of opened_fields opened.No refusals) no_kind)

abbrev pub opened_answers : Codec OpenedAs
opened_answers = cases opened_number opened_fields opened_kinds

abbrev pub granted_number : Granted → ℕ
granted_number (granted.Open _ _ _ _ _) = 1
granted_number (granted.No _) = 2

-- the storage site, inode, size, stamp and vector
abbrev pub grants : Codec (ℕ × (ℕ × (ℕ × (Stamp × List ℕ))))
grants = pair sites (pair inodes (pair sizes (pair stamps vectors)))

abbrev pub granted_fields : Granted → Spelled
granted_fields (granted.Open ss ino size stamp vector) = by grants (ss, (ino, (size, (stamp, vector))))
granted_fields (granted.No why) = by refusals why

abbrev pub granted_kinds : Kinds Granted
granted_kinds = kind 1 (case_of granted_fields (λ p. granted.Open p.0 p.1.0 p.1.1.0 p.1.1.1.0 p.1.1.1.1) grants) (kind 2 (case_of granted_fields granted.No refusals) no_kind)

abbrev pub granted_answers : Codec Granted
granted_answers = cases granted_number granted_fields granted_kinds

abbrev pub made_number : Option MadeVersion → ℕ
made_number None = 0
made_number (Some _) = 1

abbrev pub made_fields : Option MadeVersion → Spelled
made_fields None = by empty tt
made_fields (Some version) = by made_versions version

abbrev pub made_kinds : Kinds (Option MadeVersion)
made_kinds = kind 0 (case_of made_fields (λ _. None) empty) (kind 1 (case_of made_fields (λ v. Some v) made_versions) no_kind)

-- the version that an instance made, if it made one
abbrev pub made_answers : Codec (Option MadeVersion)
made_answers = cases made_number made_fields made_kinds

abbrev pub close_number : CloseAnswer → ℕ
close_number close.Nothing = 0
close_number (close.Made _) = 1
close_number (close.No _) = 2

abbrev pub close_fields : CloseAnswer → Spelled
close_fields close.Nothing = by empty tt
close_fields (close.Made stamp) = by stamps stamp
close_fields (close.No why) = by refusals why

abbrev pub close_kinds : Kinds CloseAnswer
close_kinds = kind 0 (case_of close_fields (λ _. close.Nothing) empty) (kind 1 (case_of close_fields close.Made stamps) (kind 2 (case_of close_fields close.No refusals) no_kind))

abbrev pub close_answers : Codec CloseAnswer
close_answers = cases close_number close_fields close_kinds

abbrev pub look_number : LookAnswer → ℕ
look_number (look.Found _ _) = 1
look_number (look.Content _) = 2
look_number (look.Stat _ _ _) = 3
look_number look.Moved = 4
look_number (look.No _) = 5

abbrev pub contents : Codec (List ℕ)
contents = counted_bytes sizes

abbrev pub stats : Codec (Kind × (ℕ × Stamp))
stats = pair kinds (pair sizes stamps)

abbrev pub look_fields : LookAnswer → Spelled
look_fields (look.Found ino k) = by (pair inodes kinds) (ino, k)
look_fields (look.Content bytes) = by contents bytes
look_fields (look.Stat k size stamp) = by stats (k, (size, stamp))
look_fields look.Moved = by empty tt
look_fields (look.No why) = by refusals why

abbrev pub look_kinds : Kinds LookAnswer
look_kinds =
    kind 1 (case_of look_fields (λ p. look.Found p.0 p.1) (pair inodes kinds))
    (kind 2 (case_of look_fields look.Content contents)
    (kind 3 (case_of look_fields (λ p. look.Stat p.0 p.1.0 p.1.1) stats)
    (kind 4 (case_of look_fields (λ _. look.Moved) empty)
    (kind 5 (case_of look_fields look.No refusals) no_kind))))

abbrev pub look_answers : Codec LookAnswer
look_answers = cases look_number look_fields look_kinds
