-- The request that a look, a grant or a refusal names has a number in range, where the calls make few requests.
use Rattle.std.proofs.Common.{◌≡◌, ◌≤◌, ℕ, ◌+◌, ◌-◌, ◌==◌, Bool, true, false, ◌&&◌, take, length, Option, sym, subst, arith}
use Rattle.std.proofs.lemmas.Bool.Decides.{nat_tests}
use Rattle.std.proofs.lemmas.List.{length-take-le, take_all}
use Rattle.std.specs.List.{AllByRecursion}
use Rattle.std.specs.Option.{is_none}
use Rattle.std.specs.Prelude.{nat_le, nat_lt}
use Rattle.plain_facts.proofs.Numbers.{equal}
use Rattle.plain_facts.proofs.Tests.{both_true, false_true}
use Rattle.locus_ids.specs.declared.config.Config.{Config}
use Rattle.locus_ids.specs.declared.ids.CallId.{CallId}
use Rattle.locus_ids.specs.declared.ids.FileId.{FileId}
use Rattle.locus_ids.specs.declared.ids.Mode.{Mode}
use Rattle.locus_ids.specs.declared.ids.Mode.TheVariants as mode
use Rattle.locus_ids.specs.declared.ids.Serial.{Serial}
use Rattle.locus_ids.specs.declared.ids.Stamp.{Stamp}
use Rattle.locus_ids.specs.declared.refusal.Refusal.{Refusal}
use Rattle.trace_book.specs.declared.operation.Served.{Served}
use Rattle.trace_book.specs.declared.operation.What.{What}
use Rattle.call_rules.specs.declared.want.Want.{Want}
use Rattle.call_rules.specs.declared.want.Want.TheVariants as want
use Rattle.tree_model.specs.Epochs.{is_in}
use Rattle.tree_model.specs.Given.{served_by}
use Rattle.tree_model.specs.Same.{is_served}
use Rattle.lawful_trace.specs.TreeRows.{is_open_of}
use Rattle.promises.specs.Past.{CallSoFar, Epoch, Past, asks, asks_after, is_number, kept_in}
use Rattle.promises.specs.After.{is_id}
use Rattle.promises.specs.Rows.{asks_open, is_refused, is_step_of, is_synced, may_grant, may_look, may_refuse}
use Rattle.promises.specs.Same.{same_request}
use Rattle.promises.specs.Tree.{is_placed, open_refusal}
use Rattle.past_laws.proofs.BackSame.{look_back}
use Rattle.past_laws.proofs.Changing.{any_finds}
use Rattle.past_laws.proofs.CallsLists.{each_found}
use Rattle.record_reading.specs.Ranges.{is_request}
use Rattle.row_laws.specs.Bounds.Requests.{IsRequest, is_mend}
use Rattle.text_laws.proofs.NewTexts.Requests.{asked_low, request_low}

-- a request that the call makes after some of its answers has a number in range
abbrev pub AsksFew : Config → Past → CallSoFar → Type 0
AsksFew c p k = (n : ℕ) → IsRequest (asks_after c p k (take n k.answers)) → length (take n k.answers) + 1 ≤ 65535

pub usual_few : (c : Config) (p : Past) (k : CallSoFar) → is_mend k.words ≡ false → AsksFew c p k
usual_few c p k usual n asks = let most : length (take n k.answers) + 1 ≤ 39 = asked_low c.mounts _ k.free k.words k.begins (take n k.answers) usual asks in omega (arith, most)

record Steps (c : Config) (p : Past) (passes : CallSoFar → Bool) : Type 0 where
  call : CallSoFar
  few : AsksFew c p call
  so : passes call ≡ true

step_found : (c : Config) (p : Past) (t : Epoch) (id : CallId) (passes : CallSoFar → Bool) → AllByRecursion (AsksFew c p) p.calls → is_step_of p t id passes ≡ true → Steps c p passes
step_found c p t id passes few h =
    let it = any_finds (λ (k : CallSoFar). is_id id k && (is_in k.epoch t.id && passes k)) p.calls h in
    record {
      call = it.one;
      few = (each_found (AsksFew c p) (λ (k : CallSoFar). is_id id k && (is_in k.epoch t.id && passes k)) p.calls it.one it.found few).0;
      so = (both_true (is_in it.one.epoch t.id) (passes it.one) (both_true (is_id id it.one) (is_in it.one.epoch t.id && passes it.one) it.passes).1).1;
    }

-- ---- looks ----

look_asks : (w : Want) (f : FileId) (v : What) → same_request w (want.Look f v) ≡ true → IsRequest w
look_asks w f v h = subst IsRequest (sym (look_back w f v h)) tt

look_low : (c : Config) (p : Past) (request : ℕ) (f : FileId) (w : What) (k : CallSoFar) → AsksFew c p k
    → (nat_lt 0 request && (nat_le (length k.answers) request && (nat_le request (length k.answers + 1) && same_request (asks_after c p k (take (request - 1) k.answers)) (want.Look f w)))) ≡ true → is_request request ≡ true
look_low c p request f w k few h =
    let first = both_true (nat_lt 0 request) _ h in
    let second = both_true (nat_le (length k.answers) request) _ first.1 in
    let third = both_true (nat_le request (length k.answers + 1)) _ second.1 in
    let low : 1 ≤ request = some first.0 in
    let high : request ≤ length k.answers + 1 = most (length k.answers + 1) third.0 in
    let taken : length (take (request - 1) k.answers) ≡ request - 1 = length-take-le (request - 1) k.answers (omega (arith, low, high)) in
    let bound : length (take (request - 1) k.answers) + 1 ≤ 65535 = few (request - 1) (look_asks (asks_after c p k (take (request - 1) k.answers)) f w third.1) in
    request_low request 65535 low (omega (arith, low, taken, bound)) (omega arith)
  where
    some : nat_lt 0 request ≡ true → 1 ≤ request
    some e = grind (arith, nat_tests)

    most : (n : ℕ) → nat_le request n ≡ true → request ≤ n
    most n e = grind (arith, nat_tests)

pub look_request : (c : Config) (p : Past) (t : Epoch) (id : CallId) (request : ℕ) (f : FileId) (w : What) (result : Served) → AllByRecursion (AsksFew c p) p.calls → may_look c p t id request f w result ≡ true → is_request request ≡ true
look_request c p t id request f w result few h =
    let first = both_true (is_number t.started f.group) _ h in
    let second = both_true (is_synced c t f.group) _ first.1 in
    let third = both_true (is_served (served_by w (kept_in p t f)) result) _ second.1 in
    let k = step_found c p t id (λ k. nat_lt 0 request && (nat_le (length k.answers) request && (nat_le request (length k.answers + 1) && same_request (asks_after c p k (take (request - 1) k.answers)) (want.Look f w)))) few third.1 in
    look_low c p request f w k.call k.few k.so

-- ---- opens ----

pub open_asks : (m : Mode) (f : FileId) (w : Want) → is_open_of m f w ≡ true → IsRequest w
open_asks mode.Read f (want.Give r) h = absurd (false_true h)
open_asks mode.Write f (want.Give r) h = absurd (false_true h)
open_asks mode.Resolve f (want.Give r) h = absurd (false_true h)
open_asks mode.Mend f (want.Give r) h = absurd (false_true h)
open_asks mode.Make f (want.Give r) h = absurd (false_true h)
open_asks mode.Read f want.Never h = absurd (false_true h)
open_asks mode.Write f want.Never h = absurd (false_true h)
open_asks mode.Resolve f want.Never h = absurd (false_true h)
open_asks mode.Mend f want.Never h = absurd (false_true h)
open_asks mode.Make f want.Never h = absurd (false_true h)
open_asks m f (want.Look g w) h = tt
open_asks m f (want.Open g how) h = tt
open_asks m f (want.OpenToMend g) h = tt
open_asks m f (want.Make group kind sites) h = tt
open_asks m f (want.Do i o) h = tt
open_asks m f (want.Close i) h = tt

open_low : (c : Config) (p : Past) (request : ℕ) (m : Mode) (f : FileId) (k : CallSoFar) → AsksFew c p k → asks_open c p request m f k ≡ true → is_request request ≡ true
open_low c p request m f k few h =
    let parts = both_true (request == length k.answers + 1) (is_open_of m f (asks c p k)) h in
    let number : request ≡ length k.answers + 1 = equal request (length k.answers + 1) parts.0 in
    let all : take (length k.answers) k.answers ≡ k.answers = take_all (length k.answers) k.answers (omega arith) in
    let long : length (take (length k.answers) k.answers) ≡ length k.answers = length-take-le (length k.answers) k.answers (omega arith) in
    let bound : length (take (length k.answers) k.answers) + 1 ≤ 65535 = few (length k.answers) (subst (λ xs. IsRequest (asks_after c p k xs)) (sym all) (open_asks m f (asks c p k) parts.1)) in
    request_low request 65535 (omega (arith, number)) (omega (arith, number, long, bound)) (omega arith)

pub grant_request : (c : Config) (p : Past) (t : Epoch) (id : CallId) (request : ℕ) (i : Serial) (m : Mode) (f : FileId) (stamp : Option Stamp) (ss : ℕ) → AllByRecursion (AsksFew c p) p.calls → may_grant c p t id request i m f stamp ss ≡ true → is_request request ≡ true
grant_request c p t id request i m f stamp ss few h =
    let first = both_true (is_number t.started f.group) _ h in
    let second = both_true (is_synced c t f.group) _ first.1 in
    let third = both_true (is_number t.joined ss) _ second.1 in
    let fourth = both_true (i.us == id.site) _ third.1 in
    let fifth = both_true _ (is_step_of p t id (λ k. asks_open c p request m f k && (is_none (open_refusal c p t k m f) && is_placed c p t k m f stamp ss))) fourth.1 in
    let k = step_found c p t id (λ k. asks_open c p request m f k && (is_none (open_refusal c p t k m f) && is_placed c p t k m f stamp ss)) few fifth.1 in
    open_low c p request m f k.call k.few (both_true (asks_open c p request m f k.call) _ k.so).0

pub refuse_request : (c : Config) (p : Past) (t : Epoch) (id : CallId) (request : ℕ) (m : Mode) (f : FileId) (why : Refusal) → AllByRecursion (AsksFew c p) p.calls → may_refuse c p t id request m f why ≡ true → is_request request ≡ true
refuse_request c p t id request m f why few h =
    let first = both_true (is_number t.started f.group) _ h in
    let second = both_true (is_synced c t f.group) _ first.1 in
    let third = both_true _ (is_step_of p t id (λ k. asks_open c p request m f k && is_refused c p t m f why k)) second.1 in
    let k = step_found c p t id (λ k. asks_open c p request m f k && is_refused c p t m f why k) few third.1 in
    open_low c p request m f k.call k.few (both_true (asks_open c p request m f k.call) _ k.so).0
