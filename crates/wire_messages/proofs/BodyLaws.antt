-- The laws of bodies: a line for each kind.
use Rattle.std.proofs.Common.{◌≡◌, ℕ, ◌^◌, ◌<◌, IsTrue, refl, arith}
use Rattle.wire_fields.specs.of_locus_ids.Sizes.{page_bytes}
use Rattle.wire_fields.specs.of_field_codec.Codec.{u8, u16, u32, pair, empty, from_to}
use Rattle.wire_fields.specs.of_field_codec.Sums.{tagged}
use Rattle.wire_fields.specs.of_field_codec.Shapes.{IsInRange, bytes_of}
use Rattle.wire_fields.proofs.of_field_codec.Laws.{Lawful, u8_laws, u16_laws, u32_laws, pair_laws, followed_by_laws, empty_laws}
use Rattle.wire_fields.proofs.of_field_codec.Lists.{ascending_laws}
use Rattle.wire_fields.proofs.of_field_codec.Shapes.{LawfulCases, no_case_laws, more_laws, counted_bytes_laws}
use Rattle.wire_fields.specs.Parts.{sites, numbers, epochs, instances, files, files_or_new, any_set, stamps}
use Rattle.wire_fields.specs.Memberships.{members}
use Rattle.wire_fields.specs.Operations.{ops, outcomes}
use Rattle.wire_fields.proofs.PartLaws.{u16_in_laws, sites_laws, numbers_laws, processes_laws, sizes_laws, epochs_laws, instances_laws, files_laws, files_or_new_laws, any_set_laws, some_set_laws, kinds_laws, stamps_laws, ascending_stamps_laws, vectors_laws}
use Rattle.wire_fields.proofs.Members.{members_laws}
use Rattle.wire_fields.proofs.Operating.{ops_laws, outcomes_laws, whats_laws}
use Rattle.wire_fields.specs.declared.asked.Asked.{Asked}
use Rattle.wire_fields.specs.declared.asked.Asked.TheVariants as asked
use Rattle.wire_fields.specs.declared.asked.Gave.{Gave}
use Rattle.wire_fields.specs.declared.asked.Gave.TheVariants as gave
use Rattle.wire_messages.specs.declared.body.Body.{Body}
use Rattle.wire_messages.specs.declared.body.Body.TheVariants as body
use Rattle.wire_messages.specs.Answers.{is_new, modes, openings, reported_copies, opened_answers, granted_answers, made_answers, close_answers, look_answers}
use Rattle.wire_messages.specs.Bodies.{kind_number, opens, storage_opens, looks, notices, pages, carried_bytes, op_body, op_done_body, wants, page_numbers, body_fields, FitsBody, body_kinds}
use Rattle.wire_messages.proofs.OpeningLaws.{modes_laws, openings_laws}
use Rattle.wire_messages.proofs.AnswerLaws.{versions_laws, reported_copies_laws, opened_laws, granted_laws, made_answers_laws, close_laws, look_laws}

opens_laws : Lawful opens
opens_laws = pair_laws numbers_laws (pair_laws u32_laws (pair_laws processes_laws (pair_laws u16_laws (followed_by_laws files_or_new (λ file. openings (is_new file)) files_or_new_laws (λ file. openings_laws (is_new file))))))

storage_opens_laws : Lawful storage_opens
storage_opens_laws = pair_laws instances_laws (pair_laws (followed_by_laws files_or_new (λ file. modes (is_new file)) files_or_new_laws (λ file. modes_laws (is_new file))) (pair_laws some_set_laws (pair_laws kinds_laws (pair_laws stamps_laws (pair_laws vectors_laws ascending_stamps_laws)))))

looks_laws : Lawful looks
looks_laws = pair_laws u32_laws (pair_laws processes_laws (pair_laws u16_laws (pair_laws u32_laws (pair_laws files_laws whats_laws))))

notices_laws : Lawful notices
notices_laws = pair_laws files_laws (pair_laws kinds_laws (pair_laws some_set_laws (pair_laws sizes_laws (pair_laws versions_laws sites_laws))))

pages_laws : Lawful pages
pages_laws = pair_laws files_laws (pair_laws stamps_laws u8_laws)

-- an operation, or a held read, is of the kind of operations, and what each gave of theirs
module _ (serial number : ℕ) where
  op_numbered : (a : Asked) → kind_number (op_body serial number a) ≡ 12
  op_numbered (asked.Op op seen) = refl
  op_numbered (asked.Held at len) = refl

  op_spelled : (a : Asked) → bytes_of (body_fields (op_body serial number a)) ≡ (pair numbers (pair u32 ops)).spell (serial, (number, a))
  op_spelled (asked.Op op seen) = refl
  op_spelled (asked.Held at len) = refl

  op_in_range : (a : Asked) → (pair numbers (pair u32 ops)).Fits (serial, (number, a)) → IsInRange (body_fields (op_body serial number a))
  op_in_range (asked.Op op seen) h = h
  op_in_range (asked.Held at len) h = h

  done_numbered : (g : Gave) → kind_number (op_done_body serial number g) ≡ 13
  done_numbered (gave.Outcome outcome) = refl
  done_numbered (gave.AsHeld len) = refl

  done_spelled : (g : Gave) → bytes_of (body_fields (op_done_body serial number g)) ≡ (pair numbers (pair u32 outcomes)).spell (serial, (number, g))
  done_spelled (gave.Outcome outcome) = refl
  done_spelled (gave.AsHeld len) = refl

  done_in_range : (g : Gave) → (pair numbers (pair u32 outcomes)).Fits (serial, (number, g)) → IsInRange (body_fields (op_done_body serial number g))
  done_in_range (gave.Outcome outcome) h = h
  done_in_range (gave.AsHeld len) h = h

pub every_body : LawfulCases kind_number body_fields body_kinds
unfolding body_kinds
every_body =
    more_laws 1 (λ _. body.Poll) empty (λ _ _. refl) (λ _ _. refl) (λ _ h. h) empty_laws
    (more_laws 2 body.Promise any_set (λ _ _. refl) (λ _ _. refl) (λ _ h. h) any_set_laws
    (more_laws 3 body.Refuse epochs (λ _ _. refl) (λ _ _. refl) (λ _ h. h) epochs_laws
    (more_laws 4 body.Install members (λ _ _. refl) (λ _ _. refl) (λ _ h. h) members_laws
    (more_laws 5 (λ _. body.Joined) empty (λ _ _. refl) (λ _ _. refl) (λ _ h. h) empty_laws
    (more_laws 6 (λ p. body.Report p.0 p.1) (pair u8 reported_copies) (λ _ _. refl) (λ _ _. refl) (λ _ h. h) (pair_laws u8_laws reported_copies_laws)
    (more_laws 7 body.ReportOk u8 (λ _ _. refl) (λ _ _. refl) (λ _ h. h) u8_laws
    (more_laws 8 (λ p. body.Open p.0 p.1.0 p.1.1.0 p.1.1.1.0 p.1.1.1.1.0 p.1.1.1.1.1) opens (λ _ _. refl) (λ _ _. refl) (λ _ h. h) opens_laws
    (more_laws 9 (λ p. body.OpenSs p.0 p.1.0.0 p.1.0.1 p.1.1.0 p.1.1.1.0 p.1.1.1.1.0 p.1.1.1.1.1.0 p.1.1.1.1.1.1) storage_opens (λ _ _. refl) (λ _ _. refl) (λ _ h. h) storage_opens_laws
    (more_laws 10 (λ p. body.Opened p.0 p.1) (pair instances opened_answers) (λ _ _. refl) (λ _ _. refl) (λ _ h. h) (pair_laws instances_laws opened_laws)
    (more_laws 11 (λ p. body.OpenDone p.0 p.1) (pair numbers granted_answers) (λ _ _. refl) (λ _ _. refl) (λ _ h. h) (pair_laws numbers_laws granted_laws)
    (more_laws 12 (λ p. op_body p.0 p.1.0 p.1.1) (pair numbers (pair u32 ops)) (λ p _. op_numbered p.0 p.1.0 p.1.1) (λ p _. op_spelled p.0 p.1.0 p.1.1) (λ p h. op_in_range p.0 p.1.0 p.1.1 h) (pair_laws numbers_laws (pair_laws u32_laws ops_laws))
    (more_laws 13 (λ p. op_done_body p.0 p.1.0 p.1.1) (pair numbers (pair u32 outcomes)) (λ p _. done_numbered p.0 p.1.0 p.1.1) (λ p _. done_spelled p.0 p.1.0 p.1.1) (λ p h. done_in_range p.0 p.1.0 p.1.1 h) (pair_laws numbers_laws (pair_laws u32_laws outcomes_laws))
    (more_laws 14 body.Close numbers (λ _ _. refl) (λ _ _. refl) (λ _ h. h) numbers_laws
    (more_laws 15 (λ p. body.Closed p.0 p.1) (pair instances made_answers) (λ _ _. refl) (λ _ _. refl) (λ _ h. h) (pair_laws instances_laws made_answers_laws)
    (more_laws 16 body.ClosedOk instances (λ _ _. refl) (λ _ _. refl) (λ _ h. h) instances_laws
    (more_laws 17 (λ p. body.CloseDone p.0 p.1) (pair numbers close_answers) (λ _ _. refl) (λ _ _. refl) (λ _ h. h) (pair_laws numbers_laws close_laws)
    (more_laws 18 (λ p. body.Look p.0 p.1.0 p.1.1.0 p.1.1.1.0 p.1.1.1.1.0 p.1.1.1.1.1) looks (λ _ _. refl) (λ _ _. refl) (λ _ h. h) looks_laws
    (more_laws 19 (λ p. body.LookSs p.0 p.1.0.0 p.1.0.1.0 p.1.0.1.1.0 p.1.0.1.1.1.0 p.1.0.1.1.1.1.0 p.1.0.1.1.1.1.1 p.1.1) (pair sites (pair looks stamps)) (λ _ _. refl) (λ _ _. refl) (λ _ h. h) (pair_laws sites_laws (pair_laws looks_laws stamps_laws))
    (more_laws 20 (λ p. body.LookDone p.0 p.1.0 p.1.1.0 p.1.1.1) (pair u32 (pair u16 (pair u32 look_answers))) (λ _ _. refl) (λ _ _. refl) (λ _ h. h) (pair_laws u32_laws (pair_laws u16_laws (pair_laws u32_laws look_laws)))
    (more_laws 21 (λ p. body.Notify p.0 p.1.0 p.1.1.0 p.1.1.1.0 p.1.1.1.1.0.0 p.1.1.1.1.0.1 p.1.1.1.1.1) notices (λ _ _. refl) (λ _ _. refl) (λ _ h. h) notices_laws
    (more_laws 22 (λ p. body.Pull p.0 p.1.0 p.1.1) pages (λ _ _. refl) (λ _ _. refl) (λ _ h. h) pages_laws
    (more_laws 23 (λ p. body.Page p.0.0 p.0.1.0 p.0.1.1 p.1) (pair pages carried_bytes) (λ _ _. refl) (λ _ _. refl) (λ _ h. h) (pair_laws pages_laws (counted_bytes_laws (u16_in_laws 1 page_bytes)))
    (more_laws 24 (λ p. body.Have p.0 p.1) (pair files stamps) (λ _ _. refl) (λ _ _. refl) (λ _ h. h) (pair_laws files_laws stamps_laws)
    (more_laws 25 (λ p. body.Want p.0 p.1.0 p.1.1) wants (λ _ _. refl) (λ _ _. refl) (λ _ h. h) (pair_laws files_laws (pair_laws stamps_laws stamps_laws))
    (more_laws 26 (λ p. body.Delta p.0 p.1.0 p.1.1) (pair files (pair stamps page_numbers)) (λ _ _. refl) (λ _ _. refl) (λ _ h. h) (pair_laws files_laws (pair_laws stamps_laws (ascending_laws (λ page. page) u16_laws u16_laws)))
    (no_case_laws kind_number body_fields))))))))))))))))))))))))))

pub covers_body : (b : Body) → FitsBody b → (tagged kind_number body_kinds).Fits b
unfolding body_kinds
covers_body body.Poll h = (omega arith, refl, (tt, refl, h))
covers_body (body.Promise reach) h = (omega arith, refl, (reach, refl, h))
covers_body (body.Refuse promised) h = (omega arith, refl, (promised, refl, h))
covers_body (body.Install m) h = (omega arith, refl, (m, refl, h))
covers_body body.Joined h = (omega arith, refl, (tt, refl, h))
covers_body (body.Report group copies) h = (omega arith, refl, ((group, copies), refl, h))
covers_body (body.ReportOk group) h = (omega arith, refl, (group, refl, h))
covers_body (body.Open serial call process request file how) h = (omega arith, refl, ((serial, (call, (process, (request, (file, how))))), refl, h))
covers_body (body.OpenSs inst file mode set k base vector parents) h = (omega arith, refl, ((inst, ((file, mode), (set, (k, (base, (vector, parents)))))), refl, h))
covers_body (body.Opened inst answer) h = (omega arith, refl, ((inst, answer), refl, h))
covers_body (body.OpenDone serial answer) h = (omega arith, refl, ((serial, answer), refl, h))
covers_body (body.Op serial number op seen) h = (omega arith, refl, ((serial, (number, asked.Op op seen)), refl, h))
covers_body (body.OpDone serial number outcome) h = (omega arith, refl, ((serial, (number, gave.Outcome outcome)), refl, h))
covers_body (body.ReadHeld serial number at len) h = (omega arith, refl, ((serial, (number, asked.Held at len)), refl, h))
covers_body (body.AsHeld serial number len) h = (omega arith, refl, ((serial, (number, gave.AsHeld len)), refl, h))
covers_body (body.Close serial) h = (omega arith, refl, (serial, refl, h))
covers_body (body.Closed inst version) h = (omega arith, refl, ((inst, version), refl, h))
covers_body (body.ClosedOk inst) h = (omega arith, refl, (inst, refl, h))
covers_body (body.CloseDone serial answer) h = (omega arith, refl, ((serial, answer), refl, h))
covers_body (body.Look call process request take file what) h = (omega arith, refl, ((call, (process, (request, (take, (file, what))))), refl, h))
covers_body (body.LookSs us call process request take file what serve) h = (omega arith, refl, ((us, ((call, (process, (request, (take, (file, what))))), serve)), refl, h))
covers_body (body.LookDone call request take answer) h = (omega arith, refl, ((call, (request, (take, answer))), refl, h))
covers_body (body.Notify file k set size stamp vector holder) h = (omega arith, refl, ((file, (k, (set, (size, ((stamp, vector), holder))))), refl, h))
covers_body (body.Pull file stamp page) h = (omega arith, refl, ((file, (stamp, page)), refl, h))
covers_body (body.Page file stamp page bytes) h = (omega arith, refl, (((file, (stamp, page)), bytes), refl, h))
covers_body (body.Have file stamp) h = (omega arith, refl, ((file, stamp), refl, h))
covers_body (body.Want file wanted own) h = (omega arith, refl, ((file, (wanted, own)), refl, h))
covers_body (body.Delta file wanted pages) h = (omega arith, refl, ((file, (wanted, pages)), refl, h))

pub kind_in_range : (b : Body) → IsTrue (from_to 1 26 (kind_number b)) × (kind_number b < 2 ^ 8)
kind_in_range body.Poll = (refl, omega arith)
kind_in_range (body.Promise _) = (refl, omega arith)
kind_in_range (body.Refuse _) = (refl, omega arith)
kind_in_range (body.Install _) = (refl, omega arith)
kind_in_range body.Joined = (refl, omega arith)
kind_in_range (body.Report _ _) = (refl, omega arith)
kind_in_range (body.ReportOk _) = (refl, omega arith)
kind_in_range (body.Open _ _ _ _ _ _) = (refl, omega arith)
kind_in_range (body.OpenSs _ _ _ _ _ _ _ _) = (refl, omega arith)
kind_in_range (body.Opened _ _) = (refl, omega arith)
kind_in_range (body.OpenDone _ _) = (refl, omega arith)
kind_in_range (body.Op _ _ _ _) = (refl, omega arith)
kind_in_range (body.OpDone _ _ _) = (refl, omega arith)
kind_in_range (body.ReadHeld _ _ _ _) = (refl, omega arith)
kind_in_range (body.AsHeld _ _ _) = (refl, omega arith)
kind_in_range (body.Close _) = (refl, omega arith)
kind_in_range (body.Closed _ _) = (refl, omega arith)
kind_in_range (body.ClosedOk _) = (refl, omega arith)
kind_in_range (body.CloseDone _ _) = (refl, omega arith)
kind_in_range (body.Look _ _ _ _ _ _) = (refl, omega arith)
kind_in_range (body.LookSs _ _ _ _ _ _ _ _) = (refl, omega arith)
kind_in_range (body.LookDone _ _ _ _) = (refl, omega arith)
kind_in_range (body.Notify _ _ _ _ _ _ _) = (refl, omega arith)
kind_in_range (body.Pull _ _ _) = (refl, omega arith)
kind_in_range (body.Page _ _ _ _) = (refl, omega arith)
kind_in_range (body.Have _ _) = (refl, omega arith)
kind_in_range (body.Want _ _ _) = (refl, omega arith)
kind_in_range (body.Delta _ _ _) = (refl, omega arith)
