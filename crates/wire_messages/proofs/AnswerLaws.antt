-- The laws of versions, copies and answers.
use Rattle.std.proofs.Common.{ℕ, ◌+◌, Option, None, Some, refl, arith}
use Rattle.wire_fields.specs.of_locus_ids.Sizes.{inodes_max}
use Rattle.wire_fields.specs.of_field_codec.Codec.{u16, u32, u16_in, pair, empty}
use Rattle.wire_fields.specs.of_field_codec.Sums.{tagged}
use Rattle.wire_fields.specs.of_field_codec.Shapes.{IsInRange}
use Rattle.wire_fields.proofs.of_field_codec.Laws.{Lawful, u16_laws, u32_laws, pair_laws, followed_by_laws, made_laws, empty_laws}
use Rattle.wire_fields.proofs.of_field_codec.Lists.{counted_laws}
use Rattle.wire_fields.proofs.of_field_codec.Shapes.{LawfulCases, no_case_laws, more_laws, cases_laws, counted_bytes_laws}
use Rattle.wire_fields.specs.Parts.{sites, inodes, sizes, kinds, stamps, vectors_of}
use Rattle.wire_fields.specs.Refusals.{refusals}
use Rattle.wire_fields.proofs.PartLaws.{u16_in_laws, sites_laws, inodes_laws, sizes_laws, some_set_laws, kinds_laws, stamps_laws, vectors_laws, vectors_of_laws}
use Rattle.wire_fields.proofs.Refusing.{refusals_laws}
use Rattle.wire_messages.specs.declared.body.OpenedAs.{OpenedAs}
use Rattle.wire_messages.specs.declared.body.OpenedAs.TheVariants as opened
use Rattle.wire_messages.specs.declared.body.Granted.{Granted}
use Rattle.wire_messages.specs.declared.body.Granted.TheVariants as granted
use Rattle.wire_messages.specs.declared.body.MadeVersion.{MadeVersion}
use Rattle.wire_messages.specs.declared.body.CloseAnswer.{CloseAnswer}
use Rattle.wire_messages.specs.declared.body.CloseAnswer.TheVariants as close
use Rattle.wire_messages.specs.declared.body.LookAnswer.{LookAnswer}
use Rattle.wire_messages.specs.declared.body.LookAnswer.TheVariants as look
use Rattle.wire_messages.specs.Answers.{made_versions, versions, copies_from, reported_copies, opened_number, opened_fields, opened_kinds, opened_answers, grants, granted_number, granted_fields, granted_kinds, granted_answers, made_number, made_fields, made_kinds, made_answers, close_number, close_fields, close_kinds, close_answers, contents, stats, look_number, look_fields, look_kinds, look_answers}

pub versions_laws : Lawful versions
versions_laws = followed_by_laws stamps vectors_of stamps_laws vectors_of_laws

pub made_versions_laws : Lawful made_versions
made_versions_laws = made_laws _ _ (λ _. refl) (λ _. refl) (followed_by_laws stamps (λ stamp. pair (vectors_of stamp) sizes) stamps_laws (λ stamp. pair_laws (vectors_of_laws stamp) sizes_laws))

pub copies_from_laws : (least : ℕ) → Lawful (copies_from least)
copies_from_laws least = made_laws _ _ (λ _. refl) (λ _. refl) (pair_laws (u16_in_laws least inodes_max) (pair_laws kinds_laws (pair_laws some_set_laws (pair_laws sizes_laws versions_laws))))

pub reported_copies_laws : Lawful reported_copies
reported_copies_laws = counted_laws copies_from (λ _ copy. copy.ino + 1) copies_from_laws u16 u16_laws 1

every_opened : LawfulCases opened_number opened_fields opened_kinds
every_opened =
    more_laws 1 (λ p. opened.Open p.0 p.1) (pair inodes sizes) (λ _ _. refl) (λ _ _. refl) (λ _ h. h) (pair_laws inodes_laws sizes_laws)
    (more_laws 2 opened.No refusals (λ _ _. refl) (λ _ _. refl) (λ _ h. h) refusals_laws
    (no_case_laws opened_number opened_fields))

covers_opened : (a : OpenedAs) → IsInRange (opened_fields a) → (tagged opened_number opened_kinds).Fits a
covers_opened (opened.Open ino size) h = (omega arith, refl, ((ino, size), refl, h))
covers_opened (opened.No why) h = (omega arith, refl, (why, refl, h))

pub opened_laws : Lawful opened_answers
opened_laws = cases_laws every_opened covers_opened

grants_laws : Lawful grants
grants_laws = pair_laws sites_laws (pair_laws inodes_laws (pair_laws sizes_laws (pair_laws stamps_laws vectors_laws)))

every_granted : LawfulCases granted_number granted_fields granted_kinds
every_granted =
    more_laws 1 (λ p. granted.Open p.0 p.1.0 p.1.1.0 p.1.1.1.0 p.1.1.1.1) grants (λ _ _. refl) (λ _ _. refl) (λ _ h. h) grants_laws
    (more_laws 2 granted.No refusals (λ _ _. refl) (λ _ _. refl) (λ _ h. h) refusals_laws
    (no_case_laws granted_number granted_fields))

covers_granted : (a : Granted) → IsInRange (granted_fields a) → (tagged granted_number granted_kinds).Fits a
covers_granted (granted.Open ss ino size stamp vector) h = (omega arith, refl, ((ss, (ino, (size, (stamp, vector)))), refl, h))
covers_granted (granted.No why) h = (omega arith, refl, (why, refl, h))

pub granted_laws : Lawful granted_answers
granted_laws = cases_laws every_granted covers_granted

every_made : LawfulCases made_number made_fields made_kinds
every_made =
    more_laws 0 (λ _. None) empty (λ _ _. refl) (λ _ _. refl) (λ _ h. h) empty_laws
    (more_laws 1 (λ v. Some v) made_versions (λ _ _. refl) (λ _ _. refl) (λ _ h. h) made_versions_laws
    (no_case_laws made_number made_fields))

covers_made : (a : Option MadeVersion) → IsInRange (made_fields a) → (tagged made_number made_kinds).Fits a
covers_made None h = (omega arith, refl, (tt, refl, h))
covers_made (Some v) h = (omega arith, refl, (v, refl, h))

pub made_answers_laws : Lawful made_answers
made_answers_laws = cases_laws every_made covers_made

every_close : LawfulCases close_number close_fields close_kinds
every_close =
    more_laws 0 (λ _. close.Nothing) empty (λ _ _. refl) (λ _ _. refl) (λ _ h. h) empty_laws
    (more_laws 1 close.Made stamps (λ _ _. refl) (λ _ _. refl) (λ _ h. h) stamps_laws
    (more_laws 2 close.No refusals (λ _ _. refl) (λ _ _. refl) (λ _ h. h) refusals_laws
    (no_case_laws close_number close_fields)))

covers_close : (a : CloseAnswer) → IsInRange (close_fields a) → (tagged close_number close_kinds).Fits a
covers_close close.Nothing h = (omega arith, refl, (tt, refl, h))
covers_close (close.Made stamp) h = (omega arith, refl, (stamp, refl, h))
covers_close (close.No why) h = (omega arith, refl, (why, refl, h))

pub close_laws : Lawful close_answers
close_laws = cases_laws every_close covers_close

every_look : LawfulCases look_number look_fields look_kinds
every_look =
    more_laws 1 (λ p. look.Found p.0 p.1) (pair inodes kinds) (λ _ _. refl) (λ _ _. refl) (λ _ h. h) (pair_laws inodes_laws kinds_laws)
    (more_laws 2 look.Content contents (λ _ _. refl) (λ _ _. refl) (λ _ h. h) (counted_bytes_laws sizes_laws)
    (more_laws 3 (λ p. look.Stat p.0 p.1.0 p.1.1) stats (λ _ _. refl) (λ _ _. refl) (λ _ h. h) (pair_laws kinds_laws (pair_laws sizes_laws stamps_laws))
    (more_laws 4 (λ _. look.Moved) empty (λ _ _. refl) (λ _ _. refl) (λ _ h. h) empty_laws
    (more_laws 5 look.No refusals (λ _ _. refl) (λ _ _. refl) (λ _ h. h) refusals_laws
    (no_case_laws look_number look_fields)))))

covers_look : (a : LookAnswer) → IsInRange (look_fields a) → (tagged look_number look_kinds).Fits a
covers_look (look.Found ino k) h = (omega arith, refl, ((ino, k), refl, h))
covers_look (look.Content bytes) h = (omega arith, refl, (bytes, refl, h))
covers_look (look.Stat k size stamp) h = (omega arith, refl, ((k, (size, stamp)), refl, h))
covers_look look.Moved h = (omega arith, refl, (tt, refl, h))
covers_look (look.No why) h = (omega arith, refl, (why, refl, h))

pub look_laws : Lawful look_answers
look_laws = cases_laws every_look covers_look
