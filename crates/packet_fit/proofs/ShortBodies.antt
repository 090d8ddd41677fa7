-- The bytes of a body of the format are few: operations, answers, bodies.
use Rattle.std.proofs.Common.{ℕ, ◌+◌, ◌-◌, ◌<◌, ◌≤◌, ◌^◌, ◌==◌, nat_le, cond, min, length, Option, None, Some, Bool, arith}
use Rattle.locus_ids.specs.Sizes.{sites_max, inodes_max, file_bytes_max, page_bytes, set_span}
use Rattle.trace_book.specs.declared.operation.Op.TheVariants as op
use Rattle.trace_book.specs.declared.operation.Outcome.TheVariants as outcome
use Rattle.trace_book.specs.declared.operation.What.{What}
use Rattle.trace_book.specs.declared.operation.What.TheVariants as what
use Rattle.field_codec.specs.Codec.{u16, u8_in, u16_in, pair, from_to, within}
use Rattle.field_codec.specs.Shapes.{bytes_of, IsInRange, counted_bytes}
use Rattle.wire_fields.proofs.Members.{range}
use Rattle.wire_fields.specs.Parts.{numbers, sizes, vectors_of}
use Rattle.wire_fields.specs.Memberships.{Entry, entries, entries_of, members}
use Rattle.wire_fields.specs.declared.asked.Asked.{Asked}
use Rattle.wire_fields.specs.declared.asked.Asked.TheVariants as asked
use Rattle.wire_fields.specs.declared.asked.Gave.{Gave}
use Rattle.wire_fields.specs.declared.asked.Gave.TheVariants as gave
use Rattle.wire_fields.specs.Operations.{asked_number, op_fields, op_kinds, ops, value_number, value_fields, value_kinds, values, outcome_number, outcome_fields, outcome_kinds, outcomes, what_number, what_fields, what_kinds, whats, writes}
use Rattle.wire_messages.specs.Answers.{is_new, modes, openings, numbers_of, opening_of, mode_of, mode_number, versions, made_versions, copies_from, reported_copies, opened_number, opened_fields, opened_kinds, opened_answers, granted_number, granted_fields, granted_kinds, granted_answers, made_number, made_fields, made_kinds, made_answers, close_number, close_fields, close_kinds, close_answers, look_number, look_fields, look_kinds, look_answers}
use Rattle.wire_messages.specs.declared.body.OpenedAs.{OpenedAs}
use Rattle.wire_messages.specs.declared.body.OpenedAs.TheVariants as opened
use Rattle.wire_messages.specs.declared.body.Granted.{Granted}
use Rattle.wire_messages.specs.declared.body.Granted.TheVariants as granted
use Rattle.wire_messages.specs.declared.body.MadeVersion.{MadeVersion}
use Rattle.wire_messages.specs.declared.body.CloseAnswer.{CloseAnswer}
use Rattle.wire_messages.specs.declared.body.CloseAnswer.TheVariants as close
use Rattle.wire_messages.specs.declared.body.LookAnswer.{LookAnswer}
use Rattle.wire_messages.specs.declared.body.LookAnswer.TheVariants as look
use Rattle.wire_messages.specs.declared.body.Body.{Body}
use Rattle.wire_messages.specs.declared.body.Body.TheVariants as body
use Rattle.wire_messages.specs.Bodies.{looks, pages, page_numbers, body_bytes, FitsBody}
use Rattle.packet_fit.proofs.Short.{Within, u8_w, u16_w, u32_w, test_w, made_w, followed_w, pair_w, counted_bytes_w, counted_w, cases_w, up, sites_w, numbers_w, processes_w, inodes_w, sizes_w, kinds_w, epochs_w, instances_w, files_w, files_or_new_w, any_set_w, some_set_w, stamps_w, ascending_w, vectors_w, vectors_of_w, no_vector_w, names_w, components_w, refusals_w}

-- ---- operations ----

writes_w : Within 4102 writes
writes_w = followed_w (λ at. counted_bytes (u16_in 1 (min 4096 (file_bytes_max - at)))) sizes_w (λ at. counted_bytes_w 4096 (test_w (from_to 1 (min 4096 (file_bytes_max - at))) u16_w) (λ n h. let r = range 1 (min 4096 (file_bytes_max - at)) n h.0 in omega (arith, r.1)))

op_short : (s : Asked) → IsInRange (op_fields s) → length (bytes_of (op_fields s)) ≤ 4102
op_short (asked.Op (op.Probe a) v) h = up 4102 (omega arith) (pair_w components_w no_vector_w) (a, v) h
op_short (asked.Op (op.Find a) v) h = up 4102 (omega arith) (pair_w components_w no_vector_w) (a, v) h
op_short (asked.Op (op.Insert a b d) v) h = up 4102 (omega arith) (pair_w (pair_w names_w (pair_w inodes_w kinds_w)) no_vector_w) ((a, (b, d)), v) h
op_short (asked.Op (op.Remove a b) v) h = up 4102 (omega arith) (pair_w (pair_w names_w inodes_w) vectors_w) ((a, b), v) h
op_short (asked.Op (op.Rename a b) v) h = up 4102 (omega arith) (pair_w (pair_w components_w names_w) no_vector_w) ((a, b), v) h
op_short (asked.Op op.Empty v) h = up 4102 (omega arith) no_vector_w v h
op_short (asked.Op (op.Read a b) v) h = up 4102 (omega arith) (pair_w (pair_w sizes_w (test_w (from_to 0 4096) u16_w)) no_vector_w) ((a, b), v) h
op_short (asked.Op (op.Write a b) v) h = up 4102 (omega arith) (pair_w writes_w no_vector_w) ((a, b), v) h
op_short (asked.Op (op.Cut a) v) h = up 4102 (omega arith) (pair_w sizes_w no_vector_w) (a, v) h
op_short (asked.Op op.Commit v) h = up 4102 (omega arith) no_vector_w v h
op_short (asked.Op op.Abort v) h = up 4102 (omega arith) no_vector_w v h
op_short (asked.Op op.Mend v) h = up 4102 (omega arith) no_vector_w v h
op_short (asked.Held a b) h = up 4102 (omega arith) (pair_w sizes_w (test_w (from_to 0 4096) u16_w)) (a, b) h

ops_w : Within 4103 ops
ops_w = cases_w 4102 asked_number op_fields op_kinds op_short

value_short : (o : Gave) → IsInRange (value_fields o) → length (bytes_of (value_fields o)) ≤ 65538
value_short (gave.Outcome outcome.Done) h = omega arith
value_short (gave.Outcome (outcome.Data bytes)) h = (counted_bytes_w file_bytes_max u16_w (λ n l. omega arith)).most bytes h
value_short (gave.Outcome (outcome.Found a b)) h = up 65538 (omega arith) (pair_w inodes_w kinds_w) (a, b) h
value_short (gave.Outcome (outcome.Committed a)) h = up 65538 (omega arith) stamps_w a h
value_short (gave.AsHeld a) h = up 65538 (omega arith) u16_w a h
value_short (gave.Outcome (outcome.No _)) h = absurd h

values_w : Within 65539 values
values_w = cases_w 65538 value_number value_fields value_kinds value_short

outcome_short : (o : Gave) → IsInRange (outcome_fields o) → length (bytes_of (outcome_fields o)) ≤ 65539
outcome_short (gave.Outcome (outcome.No why)) h = up 65539 (omega arith) refusals_w why h
outcome_short (gave.Outcome outcome.Done) h = values_w.most (gave.Outcome outcome.Done) h
outcome_short (gave.Outcome (outcome.Data b)) h = values_w.most (gave.Outcome (outcome.Data b)) h
outcome_short (gave.Outcome (outcome.Found a b)) h = values_w.most (gave.Outcome (outcome.Found a b)) h
outcome_short (gave.Outcome (outcome.Committed a)) h = values_w.most (gave.Outcome (outcome.Committed a)) h
outcome_short (gave.AsHeld a) h = values_w.most (gave.AsHeld a) h

outcomes_w : Within 65540 outcomes
outcomes_w = cases_w 65539 outcome_number outcome_fields outcome_kinds outcome_short

what_short : (w : What) → IsInRange (what_fields w) → length (bytes_of (what_fields w)) ≤ 66
what_short (what.Name a) h = components_w.most a h
what_short what.List h = omega arith
what_short what.Stat h = omega arith
what_short (what.Whole a) h = up 66 (omega arith) stamps_w a h

whats_w : Within 67 whats
whats_w = cases_w 66 what_number what_fields what_kinds what_short

-- ---- openings and answers ----

modes_w : (new : Bool) → Within 1 (modes new)
modes_w new = made_w mode_of mode_number (test_w (from_to (cond new 5 1) (cond new 5 4)) u8_w)

openings_w : (new : Bool) → Within 5 (openings new)
openings_w new = made_w opening_of numbers_of (followed_w (λ m. pair (u8_in (cond (m == 3) 1 0) (cond (m == 3) sites_max 0)) (pair (u16_in (cond (m == 5) 1 0) (cond (m == 5) (set_span - 1) 0)) (u8_in (cond (m == 5) 1 0) (cond (m == 5) 2 0)))) (test_w (from_to (cond new 5 1) (cond new 5 4)) u8_w)
    (λ m. pair_w (test_w (from_to (cond (m == 3) 1 0) (cond (m == 3) sites_max 0)) u8_w) (pair_w (test_w (from_to (cond (m == 5) 1 0) (cond (m == 5) (set_span - 1) 0)) u16_w) (test_w (from_to (cond (m == 5) 1 0) (cond (m == 5) 2 0)) u8_w))))

versions_w : Within 69 versions
versions_w = followed_w vectors_of stamps_w vectors_of_w

made_versions_w : Within 73 made_versions
made_versions_w = made_w (λ p. record { stamp = p.0; vector = p.1.0; size = p.1.1 }) (λ v. (v.stamp, (v.vector, v.size))) (followed_w (λ stamp. pair (vectors_of stamp) sizes) stamps_w (λ stamp. pair_w (vectors_of_w stamp) sizes_w))

copies_from_w : (least : ℕ) → Within 78 (copies_from least)
copies_from_w least = made_w (λ p. record { ino = p.0; kind = p.1.0; set = p.1.1.0; size = p.1.1.1.0; stamp = p.1.1.1.1.0; vector = p.1.1.1.1.1 }) (λ c. (c.ino, (c.kind, (c.set, (c.size, (c.stamp, c.vector))))))
    (pair_w (test_w (from_to least inodes_max) u16_w) (pair_w kinds_w (pair_w some_set_w (pair_w sizes_w versions_w))))

reported_copies_w : Within 5111732 reported_copies
reported_copies_w = counted_w copies_from (λ _ copy. copy.ino + 1) 78 5111730 1 u16_w (λ i h. omega arith) copies_from_w

opened_short : (a : OpenedAs) → IsInRange (opened_fields a) → length (bytes_of (opened_fields a)) ≤ 67
opened_short (opened.Open a b) h = up 67 (omega arith) (pair_w inodes_w sizes_w) (a, b) h
opened_short (opened.No why) h = refusals_w.most why h

opened_w : Within 68 opened_answers
opened_w = cases_w 67 opened_number opened_fields opened_kinds opened_short

granted_short : (a : Granted) → IsInRange (granted_fields a) → length (bytes_of (granted_fields a)) ≤ 76
granted_short (granted.Open a b d e f) h = (pair_w sites_w (pair_w inodes_w (pair_w sizes_w (pair_w stamps_w vectors_w)))).most (a, (b, (d, (e, f)))) h
granted_short (granted.No why) h = up 76 (omega arith) refusals_w why h

granted_w : Within 77 granted_answers
granted_w = cases_w 76 granted_number granted_fields granted_kinds granted_short

made_short : (m : Option MadeVersion) → IsInRange (made_fields m) → length (bytes_of (made_fields m)) ≤ 73
made_short None h = omega arith
made_short (Some v) h = made_versions_w.most v h

made_answers_w : Within 74 made_answers
made_answers_w = cases_w 73 made_number made_fields made_kinds made_short

close_short : (a : CloseAnswer) → IsInRange (close_fields a) → length (bytes_of (close_fields a)) ≤ 67
close_short close.Nothing h = omega arith
close_short (close.Made a) h = up 67 (omega arith) stamps_w a h
close_short (close.No why) h = refusals_w.most why h

close_w : Within 68 close_answers
close_w = cases_w 67 close_number close_fields close_kinds close_short

look_short : (a : LookAnswer) → IsInRange (look_fields a) → length (bytes_of (look_fields a)) ≤ 65540
look_short (look.Found a b) h = up 65540 (omega arith) (pair_w inodes_w kinds_w) (a, b) h
look_short (look.Content bytes) h = (counted_bytes_w file_bytes_max sizes_w (λ n l. (range 0 file_bytes_max n l.0).1)).most bytes h
look_short (look.Stat a b d) h = up 65540 (omega arith) (pair_w kinds_w (pair_w sizes_w stamps_w)) (a, (b, d)) h
look_short look.Moved h = omega arith
look_short (look.No why) h = up 65540 (omega arith) refusals_w why h

look_w : Within 65541 look_answers
look_w = cases_w 65540 look_number look_fields look_kinds look_short

-- ---- bodies ----

entries_w : Within 1276 entries
entries_w = counted_w (λ least. pair (u8_in least sites_max) numbers) (λ _ (entry : Entry). entry.0 + 1) 5 1275 1 u8_w (λ i h. omega arith) (λ least. pair_w (test_w (from_to least sites_max) u8_w) numbers_w)

members_w : Within 1276 members
members_w = record { most = λ m h. entries_w.most (entries_of m) h.1 }

looks_w : Within 81 looks
looks_w = pair_w u32_w (pair_w processes_w (pair_w u16_w (pair_w u32_w (pair_w files_w whats_w))))

pages_w : Within 9 pages
pages_w = pair_w files_w (pair_w stamps_w u8_w)

page_numbers_w : Within 131072 page_numbers
page_numbers_w = counted_w (λ floor. within (λ page. nat_le floor page) u16) (λ _ page. page + 1) 2 131070 0 u16_w (λ i h. omega arith) (λ floor. test_w (nat_le floor) u16_w)

few : (b : Body) → FitsBody b → length (body_bytes b) ≤ 6000000
few body.Poll h = omega arith
few (body.Promise a) h = up 6000000 (omega arith) any_set_w a h
few (body.Refuse a) h = up 6000000 (omega arith) epochs_w a h
few (body.Install m) h = up 6000000 (omega arith) members_w m h
few body.Joined h = omega arith
few (body.Report a b) h = up 6000000 (omega arith) (pair_w u8_w reported_copies_w) (a, b) h
few (body.ReportOk a) h = up 6000000 (omega arith) u8_w a h
few (body.Open a b d e f g) h = up 6000000 (omega arith) (pair_w numbers_w (pair_w u32_w (pair_w processes_w (pair_w u16_w (followed_w (λ file. openings (is_new file)) files_or_new_w (λ file. openings_w (is_new file))))))) (a, (b, (d, (e, (f, g))))) h
few (body.OpenSs a b d e f g i j) h = up 6000000 (omega arith) (pair_w instances_w (pair_w (followed_w (λ file. modes (is_new file)) files_or_new_w (λ file. modes_w (is_new file))) (pair_w some_set_w (pair_w kinds_w (pair_w stamps_w (pair_w vectors_w ascending_w)))))) (a, ((b, d), (e, (f, (g, (i, j)))))) h
few (body.Opened a b) h = up 6000000 (omega arith) (pair_w instances_w opened_w) (a, b) h
few (body.OpenDone a b) h = up 6000000 (omega arith) (pair_w numbers_w granted_w) (a, b) h
few (body.Op a b d e) h = up 6000000 (omega arith) (pair_w numbers_w (pair_w u32_w ops_w)) (a, (b, asked.Op d e)) h
few (body.OpDone a b d) h = up 6000000 (omega arith) (pair_w numbers_w (pair_w u32_w outcomes_w)) (a, (b, gave.Outcome d)) h
few (body.ReadHeld a b d e) h = up 6000000 (omega arith) (pair_w numbers_w (pair_w u32_w ops_w)) (a, (b, asked.Held d e)) h
few (body.AsHeld a b d) h = up 6000000 (omega arith) (pair_w numbers_w (pair_w u32_w outcomes_w)) (a, (b, gave.AsHeld d)) h
few (body.Close a) h = up 6000000 (omega arith) numbers_w a h
few (body.Closed a b) h = up 6000000 (omega arith) (pair_w instances_w made_answers_w) (a, b) h
few (body.ClosedOk a) h = up 6000000 (omega arith) instances_w a h
few (body.CloseDone a b) h = up 6000000 (omega arith) (pair_w numbers_w close_w) (a, b) h
few (body.Look a b d e f g) h = up 6000000 (omega arith) looks_w (a, (b, (d, (e, (f, g))))) h
few (body.LookSs a b d e f g i j) h = up 6000000 (omega arith) (pair_w sites_w (pair_w looks_w stamps_w)) (a, ((b, (d, (e, (f, (g, i))))), j)) h
few (body.LookDone a b d e) h = up 6000000 (omega arith) (pair_w u32_w (pair_w u16_w (pair_w u32_w look_w))) (a, (b, (d, e))) h
few (body.Notify a b d e f g i) h = up 6000000 (omega arith) (pair_w files_w (pair_w kinds_w (pair_w some_set_w (pair_w sizes_w (pair_w versions_w sites_w))))) (a, (b, (d, (e, ((f, g), i))))) h
few (body.Pull a b d) h = up 6000000 (omega arith) pages_w (a, (b, d)) h
few (body.Page a b d e) h = up 6000000 (omega arith) (pair_w pages_w (counted_bytes_w page_bytes (test_w (from_to 1 page_bytes) u16_w) (λ n l. (range 1 page_bytes n l.0).1))) ((a, (b, d)), e) h
few (body.Have a b) h = up 6000000 (omega arith) (pair_w files_w stamps_w) (a, b) h
few (body.Want a b d) h = up 6000000 (omega arith) (pair_w files_w (pair_w stamps_w stamps_w)) (a, (b, d)) h
few (body.Delta a b d) h = up 6000000 (omega arith) (pair_w files_w (pair_w stamps_w page_numbers_w)) (a, (b, d)) h

pub short : (b : Body) → FitsBody b → length (body_bytes b) < 2 ^ 32
short b h = let a = few b h in omega arith
