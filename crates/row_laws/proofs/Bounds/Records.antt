-- In a consistent trace each record that answers a request answers one within the bound of its call.
use Rattle.std.proofs.Common.{◌≡◌, ℕ, zero, suc, ◌+◌, ◌-◌, ◌≤◌, true, false, List, [], ◌∷◌, length, take, Option, Some, None, refl, sym, ◌∙◌, subst, arith}
use Rattle.std.proofs.lemmas.Bool.Decides.{nat_tests}
use Rattle.role_steps.proofs.of_plain_facts.Tests.{false_true}
use Rattle.locus_ids.specs.declared.config.Config.{Config}
use Rattle.locus_ids.specs.declared.ids.CallId.{CallId}
use Rattle.locus_ids.specs.declared.ids.EpochId.{EpochId}
use Rattle.locus_ids.specs.declared.ids.FileId.{FileId}
use Rattle.locus_ids.specs.declared.ids.Mode.{Mode}
use Rattle.locus_ids.specs.declared.ids.Mode.TheVariants as mode
use Rattle.trace_book.specs.declared.descriptor.Beginning.{Beginning}
use Rattle.trace_book.specs.declared.record.Record.{Record}
use Rattle.trace_book.specs.declared.record.Record.TheVariants.{Look, Grant, Refuse, Act, Release}
use Rattle.trace_book.specs.declared.reply.Reply.{Reply}
use Rattle.call_rules.specs.Descriptors.{lowest_free}
use Rattle.call_rules.specs.declared.want.Want.{Want}
use Rattle.call_rules.specs.declared.want.Want.TheVariants as want
use Rattle.tree_model.specs.declared.accepted.Waiting.{Waiting}
use Rattle.tree_model.specs.Folds.{Trace}
use Rattle.lawful_trace.specs.Lawful.{MayCome, IsConsistent}
use Rattle.lawful_trace.specs.Progress.{Answers, answers, is_packed_in, wants_as, wants_after, wants_next}
use Rattle.lawful_trace.specs.Tables.{begun, descriptor, call_of_act, call_of_release}
use Rattle.lawful_trace.specs.TreeRows.{is_next_or_again, MayLook, is_open_of, MayOpen, IsStepOf}
use Rattle.row_laws.specs.Bounds.Requests.{most_requests, IsRequest}
use Rattle.row_laws.specs.Bounds.Records.{IsWithin, NextIsWithin, RecordIsWithin, EachIsWithin}
use Rattle.row_laws.proofs.Bounds.Scripts.{scripts_end}

-- what a call asks after some answers is within its bound
step_within : (c : Config) (before : Trace) (call : CallId) (so_far : Answers) → IsRequest (wants_after c before call so_far) → IsWithin before call (length so_far + 1)
step_within c before call so_far q w named usual = by_start (begun before call) (subst (λ (o : Option Waiting). IsRequest (wants_as c before o (begun before call) so_far)) named q)
  where
    by_start : (o : Option Beginning) → IsRequest (wants_as c before (Some w) o so_far) → length so_far + 1 ≤ most_requests w.words
    by_start None k = absurd k
    by_start (Some b) k = scripts_end c.mounts (is_packed_in c before w.epoch) (lowest_free (descriptor before w.site w.process)) w.words b so_far usual k

-- ---- looks ----

take_length : {A : Type 0} (n : ℕ) (xs : List A) → n ≤ length xs → length (take n xs) ≡ n
take_length zero xs h = refl
take_length (suc n) [] h = absurd (omega (arith, h))
take_length (suc n) (x ∷ xs) h = (let e : length (take n xs) ≡ n = take_length n xs (omega (arith, h)) in omega (arith, e))

next_or_again : (request n : ℕ) → is_next_or_again request n ≡ true → request - 1 ≤ n
next_or_again request n h = grind (arith, nat_tests)

look_within : (c : Config) (before : Trace) (e : EpochId) (call : CallId) (request : ℕ) (f : FileId) (w : _) (result : _) → MayLook c before e call request f w result → IsWithin before call request
look_within c before e call request f w result h a named usual =
    let k : length (take (request - 1) (answers c before call)) + 1 ≤ most_requests a.words = step_within c before call (take (request - 1) (answers c before call)) (subst IsRequest (sym h.asked) tt) a named usual in
    let l : length (take (request - 1) (answers c before call)) ≡ request - 1 = take_length (request - 1) (answers c before call) (next_or_again request (length (answers c before call)) h.numbered) in
    omega (arith, k, l)

-- ---- opens ----

gives_none : (m : Mode) (f : FileId) (r : Reply) → is_open_of m f (want.Give r) ≡ true → ⊥
gives_none mode.Read f r h = false_true h
gives_none mode.Write f r h = false_true h
gives_none mode.Resolve f r h = false_true h
gives_none mode.Mend f r h = false_true h
gives_none mode.Make f r h = false_true h

never_opens : (m : Mode) (f : FileId) → is_open_of m f want.Never ≡ true → ⊥
never_opens mode.Read f h = false_true h
never_opens mode.Write f h = false_true h
never_opens mode.Resolve f h = false_true h
never_opens mode.Mend f h = false_true h
never_opens mode.Make f h = false_true h

open_asks : (m : Mode) (f : FileId) (w : Want) → is_open_of m f w ≡ true → IsRequest w
open_asks m f (want.Give r) h = absurd (gives_none m f r h)
open_asks m f want.Never h = absurd (never_opens m f h)
open_asks m f _ h = tt

open_within : (c : Config) (before : Trace) (e : EpochId) (call : CallId) (request : ℕ) (m : Mode) (f : FileId) → MayOpen c before e call request m f → IsWithin before call request
open_within c before e call request m f h a named usual =
    let k : length (answers c before call) + 1 ≤ most_requests a.words = step_within c before call (answers c before call) (open_asks m f (wants_next c before call) h.asked) a named usual in
    subst (λ (n : ℕ). n ≤ most_requests a.words) (sym h.numbered) k

-- ---- operations and closes ----

some_eq : (a b : CallId) → ◌≡◌ {A = Option CallId} (Some a) (Some b) → a ≡ b
some_eq a b e = cc

step_of_within : (c : Config) (before : Trace) (e : EpochId) (owner : Option CallId) (w : Want) → IsRequest w → IsStepOf c before e owner w → (call : CallId) → owner ≡ Some call → NextIsWithin c before call
step_of_within c before e owner w q h call is = subst (λ (d : CallId). NextIsWithin c before d) (some_eq h.call call (sym h.owned ∙ is)) (step_within c before h.call (answers c before h.call) (subst IsRequest (sym h.asked) q))

-- ---- each record ----

record_within : (c : Config) (before : Trace) (r : Record) → MayCome c before r → RecordIsWithin c before r
record_within c before (Look e call request f w result) h = look_within c before e call request f w result h
record_within c before (Grant e call request i m f stamp ss) h = open_within c before e call request m f h.opens
record_within c before (Refuse e call request i m f why) h = open_within c before e call request m f h.opens
record_within c before (Act e i n o result) h = step_of_within c before e (call_of_act before e i n) (want.Do i o) tt h.step
record_within c before (Release e i f stamp) h = step_of_within c before e (call_of_release before e i) (want.Close i) tt h.step
record_within c before _ h = tt

pub each_within : (c : Config) (trace : Trace) → IsConsistent c trace → EachIsWithin c trace
each_within c [] h = tt
each_within c (r ∷ before) h = (record_within c before r.what h.0.row, each_within c before h.1)
