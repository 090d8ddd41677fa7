-- The requests of calls have numbers in range: a call that isn't a mend makes as many as its path has components, and six or seven more.
use Rattle.std.proofs.Common.{◌≡◌, ◌≤◌, ℕ, ◌+◌, ◌==◌, Bool, true, false, cond, not, ◌&&◌, List, [], ◌∷◌, length, Option, refl, arith}
use Rattle.std.proofs.lemmas.Bool.Decides.{nat_tests}
use Rattle.std.specs.Prelude.{nat_le}
use Rattle.plain_facts.proofs.Tests.{both_true, false_true, not_false}
use Rattle.locus_ids.specs.declared.config.Mount.{Mount}
use Rattle.locus_ids.specs.declared.refusal.Refusal.TheVariants.{BadName}
use Rattle.trace_book.specs.Names.{components, is_name, last_of}
use Rattle.trace_book.specs.declared.call.Call.{Call}
use Rattle.trace_book.specs.declared.call.Call.TheVariants as call
use Rattle.trace_book.specs.declared.descriptor.Beginning.{Beginning}
use Rattle.trace_book.specs.declared.reply.Reply.TheVariants as reply
use Rattle.call_rules.specs.Paths.{is_path, path_bytes_max}
use Rattle.call_rules.specs.Scripts.{begun_wants, wants, where_packed}
use Rattle.call_rules.specs.Words.{is_badly_named, is_mount_name, names_entry, names_new}
use Rattle.call_rules.specs.declared.answer.Answer.{Answer}
use Rattle.call_rules.specs.declared.want.Want.TheVariants as want
use Rattle.record_reading.specs.Ranges.{is_request}
use Rattle.row_laws.specs.Bounds.Requests.{IsRequest, is_mend, most_after_walk, most_requests, written_components}
use Rattle.row_laws.proofs.Bounds.Scripts.{scripts_end}

-- ---- the paths of calls that ask something ----

few_parts : (path : List ℕ) → is_path path ≡ true → length (components path) ≤ 32
few_parts [] e = absurd (false_true e)
few_parts (c ∷ rest) e = at (length (components (c ∷ rest))) (both_true (nat_le (length (components (c ∷ rest))) 32) _ (both_true (nat_le (length (c ∷ rest)) path_bytes_max) _ (both_true (c == 47) _ e).1).1).0
  where
    at : (n : ℕ) → nat_le n 32 ≡ true → n ≤ 32
    at n h = grind (arith, nat_tests)

entry_few : (mounts : List Mount) (path : List ℕ) → names_entry mounts path ≡ true → length (components path) ≤ 32
entry_few mounts path e = few_parts path (both_true (is_path path) _ e).0

named_few : (mounts : List Mount) (words : Call) → is_badly_named mounts words ≡ false → written_components words ≤ 32
named_few mounts (call.Create path set) h = entry_few mounts path (both_true (names_entry mounts path) (is_name (last_of (components path))) (not_false (names_new mounts path) h)).0
named_few mounts (call.MakeDir path) h = entry_few mounts path (both_true (names_entry mounts path) (is_name (last_of (components path))) (not_false (names_new mounts path) h)).0
named_few mounts (call.Unlink path) h = entry_few mounts path (not_false (names_entry mounts path) h)
named_few mounts (call.RemoveDir path) h = entry_few mounts path (not_false (names_entry mounts path) h)
named_few mounts (call.Rename path name) h = entry_few mounts path (both_true (names_entry mounts path) _ (not_false (names_entry mounts path && (is_name name && not (is_mount_name mounts path name))) h)).0
named_few mounts (call.List path) h = few_parts path (not_false (is_path path) h)
named_few mounts (call.Stat path) h = few_parts path (not_false (is_path path) h)
named_few mounts (call.Mail path bytes) h = few_parts path (not_false (is_path path) h)
named_few mounts (call.Mails path) h = few_parts path (not_false (is_path path) h)
named_few mounts (call.Open path how) h = few_parts path (not_false (is_path path) h)
named_few mounts _ h = omega arith

asking_few : (mounts : List Mount) (packed : ℕ → Bool) (free : Option ℕ) (words : Call) (b : Beginning) (answers : List Answer) → IsRequest (wants mounts packed free words b answers) → written_components words ≤ 32
asking_few mounts packed free words b answers asks = at (is_badly_named mounts words) refl asks
  where
    at : (x : Bool) → is_badly_named mounts words ≡ x → IsRequest (where_packed packed (cond x (want.Give (reply.No BadName)) (begun_wants mounts free words b answers))) → written_components words ≤ 32
    at true e q = absurd q
    at false e q = named_few mounts words e

-- a call that isn't a mend, and asks something, has a path of 32 components at most
pub asked_few : (mounts : List Mount) (packed : ℕ → Bool) (free : Option ℕ) (words : Call) (b : Beginning) (answers : List Answer) → is_mend words ≡ false → IsRequest (wants mounts packed free words b answers) → length answers + 1 ≤ 32 + most_after_walk words
asked_few mounts packed free words b answers usual asks =
    let most : length answers + 1 ≤ most_requests words = scripts_end mounts packed free words b answers usual asks in
    let parts : written_components words ≤ 32 = asking_few mounts packed free words b answers asks in
    omega (arith, most, parts)

after_most : (words : Call) → most_after_walk words ≤ 7
after_most (call.Mail path bytes) = omega arith
after_most _ = omega arith

pub asked_low : (mounts : List Mount) (packed : ℕ → Bool) (free : Option ℕ) (words : Call) (b : Beginning) (answers : List Answer) → is_mend words ≡ false → IsRequest (wants mounts packed free words b answers) → length answers + 1 ≤ 39
asked_low mounts packed free words b answers usual asks =
    let few : length answers + 1 ≤ 32 + most_after_walk words = asked_few mounts packed free words b answers usual asks in
    let most : most_after_walk words ≤ 7 = after_most words in
    omega (arith, few, most)

pub request_low : (n most : ℕ) → 1 ≤ n → n ≤ most → most ≤ 65535 → is_request n ≡ true
request_low n most low high le = grind (arith, nat_tests)
