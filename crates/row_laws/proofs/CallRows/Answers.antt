-- What answers open, and what a call holds by them.
use Rattle.std.proofs.Common.{◌≡◌, ℕ, ◌⊎◌, true, false, List, [], ◌∷◌, ◌++◌, Option, Some, None, refl, inl, inr}
use Rattle.role_steps.proofs.of_plain_facts.Numbers.{equal}
use Rattle.role_steps.proofs.of_plain_facts.Tests.{false_true}
use Rattle.locus_ids.specs.declared.ids.Serial.{Serial}
use Rattle.locus_ids.specs.declared.ids.Stamp.{Stamp}
use Rattle.trace_book.specs.declared.call.Call.{Call}
use Rattle.trace_book.specs.declared.call.Call.TheVariants as call
use Rattle.trace_book.specs.declared.descriptor.Beginning.{Beginning}
use Rattle.trace_book.specs.declared.descriptor.Beginning.TheVariants as begins
use Rattle.trace_book.specs.declared.operation.Outcome.{Outcome as Result}
use Rattle.trace_book.specs.declared.operation.Outcome.TheVariants as result
use Rattle.trace_book.specs.declared.operation.What.TheVariants as what
use Rattle.wire_messages.specs.declared.body.CloseAnswer.{CloseAnswer}
use Rattle.wire_messages.specs.declared.body.CloseAnswer.TheVariants as closing
use Rattle.call_rules.specs.declared.answer.Answer.{Answer}
use Rattle.call_rules.specs.declared.answer.Answer.TheVariants as answer
use Rattle.role_steps.specs.Own.{Every}
use Rattle.role_steps.specs.Views.{Frame}
use Rattle.role_steps.specs.Using.{last_opened, own_serial, asked_answer, opened_answer, op_answer, close_answer, content_answer, with_brought, asks_open_of, asks_op_number, asks_held_number}
use Rattle.role_steps.specs.Using as using
use Rattle.wire_messages.specs.declared.body.Opening.TheVariants as how
use Rattle.role_steps.specs.declared.users.Asking.{Asking}
use Rattle.role_steps.specs.declared.users.Asking.TheVariants as asking
use Rattle.role_steps.specs.declared.users.WaitingCall.{WaitingCall}
use Rattle.row_laws.specs.CallRows.Scripts.{OwnAnswer, BeginsOwn, IsOpened, EndsOpened, HasRead, HoldsOpened}
use Rattle.row_laws.specs.CallRows.Serials.{AsksUnder, Opens, OpenedBy, Frees, AsksOperation}
use Rattle.row_laws.specs.CallRows.Waiting.{SameCall}

-- ---- the last answer ----

-- the last answer opens this instance
abbrev pub OpensLast : Answer → Serial → Type 0
OpensLast (answer.Opened i ino) j = i ≡ j
OpensLast (answer.Reading i version) j = i ≡ j
OpensLast _ j = ⊥

pub last_more : (i n : Serial) (a : Answer) (xs : List Answer) → OpensLast a i → last_opened n (xs ++ a ∷ []) ≡ i
last_more i n (answer.Opened j ino) [] h = h
last_more i n (answer.Reading j version) [] h = h
last_more i n _ [] h = absurd h
last_more i n a (answer.Opened j k ∷ xs) h = last_more i j a xs h
last_more i n a (answer.Reading j version ∷ xs) h = last_more i j a xs h
last_more i n a (_ ∷ xs) h = last_more i n a xs h

pub ends_last : (xs : List Answer) (a : Answer) → EndsOpened (xs ++ a ∷ []) → IsOpened a
ends_last [] a h = h
ends_last (x ∷ []) a h = h
ends_last (x ∷ y ∷ ys) a h = ends_last (y ∷ ys) a h

pub ends_own : (n : Serial) (xs : List Answer) → EndsOpened xs → OpenedBy (last_opened n xs).serial xs
ends_own n [] h = absurd h
ends_own n (answer.Opened i ino ∷ []) h = inl refl
ends_own n (answer.Reading i version ∷ []) h = inl refl
ends_own n (_ ∷ []) h = absurd h
ends_own n (answer.Opened i ino ∷ b ∷ rest) h = inr (ends_own i (b ∷ rest) h)
ends_own n (answer.Reading i version ∷ b ∷ rest) h = inr (ends_own i (b ∷ rest) h)
ends_own n (_ ∷ b ∷ rest) h = inr (ends_own n (b ∷ rest) h)

pub holds_own : (n : Serial) (xs : List Answer) → HoldsOpened xs → OpenedBy (last_opened n xs).serial xs
holds_own n xs (inl h) = ends_own n xs h
holds_own n xs (inr h) = read_own xs h
  where
    read_own : (xs : List Answer) → HasRead xs → OpenedBy (last_opened n xs).serial xs
    read_own [] h = absurd h
    read_own (a ∷ []) h = absurd h
    read_own (answer.Opened i ino ∷ answer.Did r ∷ []) h = inl refl
    read_own (answer.Reading i version ∷ answer.Did r ∷ []) h = inl refl
    read_own (_ ∷ answer.Did r ∷ []) h = absurd h
    read_own (a ∷ answer.Did r ∷ b ∷ rest) h = absurd h
    read_own (a ∷ _ ∷ rest) h = absurd h

abbrev pub IsDid : Answer → Type 0
IsDid (answer.Did r) = Unit {0}
IsDid _ = ⊥

-- it was opened just before its one operation
pub read_last : (xs : List Answer) (a : Answer) → HasRead (xs ++ a ∷ []) → IsDid a × EndsOpened xs
read_last [] a h = absurd h
read_last (x ∷ []) (answer.Did r) h = (tt, h)
read_last (x ∷ []) _ h = absurd h
read_last (x ∷ answer.Did r ∷ []) a h = absurd h
read_last (x ∷ answer.Did r ∷ z ∷ zs) a h = absurd h
read_last (x ∷ _ ∷ ys) a h = absurd h

pub did_last : (n : Serial) (xs : List Answer) (a : Answer) → IsDid a → last_opened n (xs ++ a ∷ []) ≡ last_opened n xs
did_last n [] (answer.Did r) h = refl
did_last n [] _ h = absurd h
did_last n (answer.Opened j k ∷ xs) a h = did_last j xs a h
did_last n (answer.Reading j version ∷ xs) a h = did_last j xs a h
did_last n (_ ∷ xs) a h = did_last n xs a h

pub opened_more : (s : ℕ) (xs : List Answer) (a : Answer) → OpenedBy s (xs ++ a ∷ []) → OpenedBy s xs ⊎ Opens s a
opened_more s [] a (inl h) = inr h
opened_more s [] a (inr h) = absurd h
opened_more s (x ∷ xs) a (inl h) = inl (inl h)
opened_more s (x ∷ xs) a (inr h) = shift (opened_more s xs a h)
  where
    shift : OpenedBy s xs ⊎ Opens s a → OpenedBy s (x ∷ xs) ⊎ Opens s a
    shift (inl k) = inl (inr k)
    shift (inr k) = inr k

-- ---- a call's own instances ----

own_answer : (Q : ℕ → Type 0) (a : Answer) → ((s : ℕ) → Opens s a → Q s) → OwnAnswer (λ (i : Serial). Q i.serial) a
own_answer Q (answer.Opened i ino) f = f i.serial refl
own_answer Q (answer.Reading i version) f = f i.serial refl
own_answer Q (answer.Merging i kept) f = f i.serial refl
own_answer Q _ f = tt

pub own_answers : (Q : ℕ → Type 0) (xs : List Answer) → ((s : ℕ) → OpenedBy s xs → Q s) → Every (OwnAnswer (λ (i : Serial). Q i.serial)) xs
own_answers Q [] f = tt
own_answers Q (a ∷ rest) f = (own_answer Q a (λ s h. f s (inl h)), own_answers Q rest (λ s h. f s (inr h)))

pub begins_own : (Q : ℕ → Type 0) (words : Call) (b : Beginning) → ((s : ℕ) → Frees s words b → Q s) → BeginsOwn (λ (i : Serial). Q i.serial) words b
begins_own Q (call.Close fd) (begins.Uses e i) f = f i.serial refl
begins_own Q (call.Close fd) (begins.Denied why) f = tt
begins_own Q (call.Close fd) (begins.Walks id) f = tt
begins_own Q (call.Close fd) (begins.Reopens version last) f = tt
begins_own Q (call.Close fd) begins.Frees f = tt
begins_own Q _ b f = tt

-- ---- what each answer opens ----

asked_opens : (f : Frame) (serial ino s : ℕ) (stamp : Stamp) (a : Asking) → Opens s (asked_answer f serial ino stamp a) → serial ≡ s
asked_opens f serial ino s stamp (asking.Open n file how.Read) h = h
asked_opens f serial ino s stamp _ h = h

asked_last : (f : Frame) (serial ino : ℕ) (stamp : Stamp) (a : Asking) → OpensLast (asked_answer f serial ino stamp a) (own_serial f serial)
asked_last f serial ino stamp (asking.Open n file how.Read) = refl
asked_last f serial ino stamp _ = refl

pub opens_it : (f : Frame) (serial ino s : ℕ) (stamp : Stamp) (kept : List Stamp) (words : Call) (a : Asking) → Opens s (opened_answer f serial ino stamp kept words a) → serial ≡ s
opens_it f serial ino s stamp kept (call.Mend file) a h = h
opens_it f serial ino s stamp kept _ a h = asked_opens f serial ino s stamp a h

pub opened_is : (f : Frame) (serial ino : ℕ) (stamp : Stamp) (kept : List Stamp) (words : Call) (a : Asking) → IsOpened (opened_answer f serial ino stamp kept words a) → OpensLast (opened_answer f serial ino stamp kept words a) (own_serial f serial)
opened_is f serial ino stamp kept (call.Mend file) a h = absurd h
opened_is f serial ino stamp kept _ a h = asked_last f serial ino stamp a

-- the answer opens nothing
abbrev pub OpensNone : Answer → Type 0
OpensNone (answer.Opened inst ino) = ⊥
OpensNone (answer.Reading inst version) = ⊥
OpensNone (answer.Merging inst kept) = ⊥
OpensNone _ = Unit {0}

pub none_opens : (s : ℕ) (a : Answer) → OpensNone a → Opens s a → ⊥
none_opens s (answer.Opened i ino) n h = n
none_opens s (answer.Reading i version) n h = n
none_opens s (answer.Merging i kept) n h = n
none_opens s _ n h = h

pub none_opened : (a : Answer) → OpensNone a → IsOpened a → ⊥
none_opened (answer.Opened i ino) n h = n
none_opened (answer.Reading i version) n h = n
none_opened _ n h = h

-- it is of no operation, too
abbrev pub IsPlain : Answer → Type 0
IsPlain (answer.Did r) = ⊥
IsPlain a = OpensNone a

pub plain_none : (a : Answer) → IsPlain a → OpensNone a
plain_none (answer.Did r) h = tt
plain_none _ h = h

pub plain_did : (a : Answer) → IsPlain a → IsDid a → ⊥
plain_did (answer.Did r) h d = h
plain_did _ h d = d

opened_did : (f : Frame) (serial ino : ℕ) (stamp : Stamp) (a : Asking) → IsDid (asked_answer f serial ino stamp a) → ⊥
opened_did f serial ino stamp (asking.Open n file how.Read) d = d
opened_did f serial ino stamp _ d = d

pub open_did : (f : Frame) (serial ino : ℕ) (stamp : Stamp) (kept : List Stamp) (words : Call) (a : Asking) → IsDid (opened_answer f serial ino stamp kept words a) → ⊥
open_did f serial ino stamp kept (call.Mend file) a d = d
open_did f serial ino stamp kept _ a d = opened_did f serial ino stamp a d

pub op_none : (r : Result) → OpensNone (op_answer r)
op_none (result.No why) = tt
op_none _ = tt

pub close_none : (a : CloseAnswer) → IsPlain (close_answer a)
close_none closing.Nothing = tt
close_none (closing.Made stamp) = tt
close_none (closing.No why) = tt

pub content_none : (a : Asking) (bytes : List ℕ) → IsPlain (content_answer a bytes)
content_none (asking.Look file what.List take) bytes = tt
content_none (asking.Look file what.Stat take) bytes = tt
content_none (asking.Look file (what.Name component) take) bytes = tt
content_none (asking.Look file (what.Whole stamp) take) bytes = tt
content_none (asking.Open serial file how) bytes = tt
content_none (asking.Op serial ss n o seen) bytes = tt
content_none (asking.Close serial ss) bytes = tt

-- ---- a content that is brought ----

-- two stages of one call, with the same answers
pub record SameStage (v w : WaitingCall) : Type 0 where
  pub same : SameCall v w
  pub same_begins : v.begins ≡ w.begins
  pub same_answers : v.answers ≡ w.answers

pub stage_self : (w : WaitingCall) → SameStage w w
stage_self w = record { same = record { same_process = refl; same_number = refl; same_words = refl }; same_begins = refl; same_answers = refl }

pub brought_stage : (a : Asking) (bytes : List ℕ) (w : WaitingCall) → SameStage w (with_brought a bytes w)
brought_stage (asking.Look file what.List take) bytes w = stage_self w
brought_stage (asking.Look file what.Stat take) bytes w = stage_self w
brought_stage (asking.Look file (what.Name component) take) bytes w = stage_self w
brought_stage (asking.Look file (what.Whole stamp) take) bytes w = record { same = record { same_process = refl; same_number = refl; same_words = refl }; same_begins = refl; same_answers = refl }
brought_stage (asking.Open serial file how) bytes w = stage_self w
brought_stage (asking.Op serial ss n o seen) bytes w = stage_self w
brought_stage (asking.Close serial ss) bytes w = stage_self w

-- ---- whose answer it is ----

open_test : (serial : ℕ) (w : WaitingCall) (a : Asking) → asks_open_of serial (record w { asking = a }) ≡ true → AsksUnder serial a
open_test serial w (asking.Open s file how) h = equal s serial h
open_test serial w (asking.Look file x take) h = absurd (false_true h)
open_test serial w (asking.Op s ss n o seen) h = absurd (false_true h)
open_test serial w (asking.Close s ss) h = absurd (false_true h)

pub open_under : (serial : ℕ) (w : WaitingCall) → asks_open_of serial w ≡ true → AsksUnder serial w.asking
open_under serial w h = open_test serial w w.asking h

close_test : (serial : ℕ) (w : WaitingCall) (a : Asking) → using.asks_close_of serial (record w { asking = a }) ≡ true → AsksUnder serial a
close_test serial w (asking.Close s ss) h = equal s serial h
close_test serial w (asking.Look file x take) h = absurd (false_true h)
close_test serial w (asking.Op s ss n o seen) h = absurd (false_true h)
close_test serial w (asking.Open s file how) h = absurd (false_true h)

pub close_under : (serial : ℕ) (w : WaitingCall) → using.asks_close_of serial w ≡ true → AsksUnder serial w.asking
close_under serial w h = close_test serial w w.asking h

under_plain : (s : ℕ) (a : Asking) → AsksUnder s a → AsksOperation a → ⊥
under_plain s (asking.Op serial ss n o seen) h p = h
under_plain s _ h p = p

-- a close is no operation
pub close_plain : (serial : ℕ) (w : WaitingCall) → using.asks_close_of serial w ≡ true → AsksOperation w.asking → ⊥
close_plain serial w h p = under_plain serial w.asking (close_under serial w h) p

op_test : (serial n : ℕ) (r : Result) (w : WaitingCall) (a : Asking) → asks_op_number serial n r (record w { asking = a }) ≡ true → AsksOperation a
op_test serial n r w (asking.Op s ss m o seen) h = tt
op_test serial n r w (asking.Look file x take) h = false_true h
op_test serial n r w (asking.Open s file how) h = false_true h
op_test serial n r w (asking.Close s ss) h = false_true h

pub op_asked : (serial n : ℕ) (r : Result) (w : WaitingCall) → asks_op_number serial n r w ≡ true → AsksOperation w.asking
op_asked serial n r w h = op_test serial n r w w.asking h

held_test : (serial n : ℕ) (w : WaitingCall) (copied : Option (List ℕ)) (a : Asking) → asks_held_number serial n (record w { copied = copied; asking = a }) ≡ true → AsksOperation a
held_test serial n w None a h = absurd (false_true h)
held_test serial n w (Some bytes) (asking.Op s ss m o seen) h = tt
held_test serial n w (Some bytes) (asking.Look file x take) h = false_true h
held_test serial n w (Some bytes) (asking.Open s file how) h = false_true h
held_test serial n w (Some bytes) (asking.Close s ss) h = false_true h

pub held_asked : (serial n : ℕ) (w : WaitingCall) → asks_held_number serial n w ≡ true → AsksOperation w.asking
held_asked serial n w h = held_test serial n w w.copied w.asking h
