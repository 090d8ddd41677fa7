-- The requests of all calls have numbers in range where few versions of each file are kept in each epoch.
use Rattle.std.proofs.Common.{◌≡◌, ◌≤◌, ℕ, suc, zero, ◌+◌, ◌-◌, Bool, true, false, cond, List, [], ◌∷◌, ◌++◌, take, length, Option, Some, None, refl, sym, subst, arith}
use Rattle.std.proofs.lemmas.Bool.Decides.{nat_tests}
use Rattle.std.proofs.lemmas.List.{length-take-le}
use Rattle.locus_ids.specs.declared.config.Config.{Config}
use Rattle.locus_ids.specs.declared.config.Mount.{Mount}
use Rattle.locus_ids.specs.declared.ids.CallId.{CallId}
use Rattle.locus_ids.specs.declared.ids.EpochId.{EpochId}
use Rattle.locus_ids.specs.declared.ids.FileId.{FileId}
use Rattle.locus_ids.specs.declared.ids.Kind.{Kind}
use Rattle.locus_ids.specs.declared.ids.Mode.{Mode}
use Rattle.locus_ids.specs.declared.ids.Mode.TheVariants as mode
use Rattle.locus_ids.specs.declared.ids.Serial.{Serial}
use Rattle.locus_ids.specs.declared.ids.Stamp.{Stamp}
use Rattle.locus_ids.specs.declared.refusal.Refusal.TheVariants.{Spent}
use Rattle.trace_book.specs.Same.{same_call}
use Rattle.trace_book.specs.declared.call.Call.{Call}
use Rattle.trace_book.specs.declared.call.Call.TheVariants as call
use Rattle.trace_book.specs.declared.descriptor.Beginning.{Beginning}
use Rattle.trace_book.specs.declared.operation.Outcome.{Outcome}
use Rattle.trace_book.specs.declared.operation.Outcome.TheVariants as outcome
use Rattle.trace_book.specs.declared.operation.Served.{Served}
use Rattle.trace_book.specs.declared.operation.Served.TheVariants as served
use Rattle.trace_book.specs.declared.operation.What.{What}
use Rattle.trace_book.specs.declared.operation.What.TheVariants as what
use Rattle.trace_book.specs.declared.record.Record.{Record}
use Rattle.trace_book.specs.declared.record.Record.TheVariants as rec
use Rattle.call_rules.specs.Scripts.{wants}
use Rattle.call_rules.specs.declared.answer.Answer.{Answer}
use Rattle.call_rules.specs.declared.answer.Answer.TheVariants.{Ended, Refused}
use Rattle.tree_model.specs.declared.accepted.Waiting.{Waiting}
use Rattle.tree_model.specs.declared.instance.Instance.{Instance}
use Rattle.tree_model.specs.Calls.{call_named}
use Rattle.tree_model.specs.of_dir_format.declared.looking.LookResult.{LookResult}
use Rattle.tree_model.specs.of_dir_format.declared.looking.LookResult.TheVariants as looked
use Rattle.tree_model.specs.Folds.{Trace}
use Rattle.tree_model.specs.State.{instance_in}
use Rattle.tree_model.specs.Tree.{kept_in, tree_of}
use Rattle.lawful_trace.specs.Lawful.{MayCome}
use Rattle.lawful_trace.specs.Progress.{answers, close_answer, entered, found_in, granted_answer, look_answer, outcome_answer, wants_after, wants_as}
use Rattle.lawful_trace.specs.Tables.{begun, call_of_act, call_of_release, is_call}
use Rattle.lawful_trace.specs.TreeRows.{MayLook, MayOpen, is_next_or_again}
use Rattle.record_reading.specs.Ranges.{is_request}
use Rattle.row_laws.specs.Bounds.Requests.{IsRequest}
use Rattle.text_laws.specs.NewTexts.Keeping.{AsksLow, KeepsFew}
use Rattle.text_laws.proofs.NewTexts.Calls.{open_asks}
use Rattle.text_laws.proofs.NewTexts.Mends.{BringsFew, TellsFew, mends_few}
use Rattle.text_laws.proofs.NewTexts.Requests.{asked_low, request_low}

-- ---- what calls are answered ----

added : (most : ℕ) (a : Answer) (xs : List Answer) → TellsFew most a → BringsFew most xs → BringsFew most (xs ++ a ∷ [])
added most a [] k h = k
added most a (x ∷ xs) k h = h

taken : (most n : ℕ) (xs : List Answer) → BringsFew most xs → BringsFew most (take n xs)
taken most zero xs h = tt
taken most (suc n) [] h = tt
taken most (suc n) (x ∷ xs) h = h

either : (most : ℕ) (b : Bool) (xs ys : List Answer) → BringsFew most xs → BringsFew most ys → BringsFew most (cond b xs ys)
either most true xs ys h k = h
either most false xs ys h k = k

granted_few : (most : ℕ) (m : Mode) (i : Serial) (f : FileId) (stamp : Option Stamp) (kept : List Stamp) → length kept ≤ most → TellsFew most (granted_answer m i f stamp kept)
granted_few most mode.Mend i f stamp kept le = le
granted_few most mode.Read i f (Some stamp) kept le = tt
granted_few most mode.Read i f None kept le = tt
granted_few most mode.Write i f stamp kept le = tt
granted_few most mode.Resolve i f stamp kept le = tt
granted_few most mode.Make i f stamp kept le = tt

outcome_few : (most : ℕ) (o : Outcome) → TellsFew most (outcome_answer o)
outcome_few most (outcome.No why) = tt
outcome_few most outcome.Done = tt
outcome_few most (outcome.Found ino kind) = tt
outcome_few most (outcome.Data bytes) = tt
outcome_few most (outcome.Committed stamp) = tt

close_few : (most : ℕ) (stamp : Option Stamp) (o : Option Instance) → TellsFew most (close_answer stamp o)
close_few most stamp None = tt
close_few most stamp (Some x) = over x.work.owes
  where
    over : (b : Bool) → TellsFew most (cond b (Refused Spent) (Ended (cond x.work.fresh stamp None)))
    over true = tt
    over false = tt

entered_few : (most : ℕ) (component : List ℕ) (l : LookResult) → TellsFew most (entered component l)
entered_few most component (looked.Found ino kind) = tt
entered_few most component looked.Absent = tt
entered_few most component (looked.Ambiguous a b) = tt

found_few : (most : ℕ) (kind : Kind) (stamp : Stamp) (w : What) (content : List ℕ) → TellsFew most (found_in kind stamp w content)
found_few most kind stamp (what.Name component) content = entered_few most component _
found_few most kind stamp what.List content = tt
found_few most kind stamp what.Stat content = tt
found_few most kind stamp (what.Whole asked) content = tt

look_few : (most : ℕ) (c : Config) (before : Trace) (f : FileId) (w : What) (s : Served) → TellsFew most (look_answer c before f w s)
look_few most c before f w (served.At stamp) = found_few most _ stamp w _
look_few most c before f w (served.No why) = tt

answered : (most : ℕ) (c : Config) (n : ℕ) (r : Record) (before : Trace) (d : CallId) → ((e : EpochId) (f : FileId) → length (kept_in c before e f) ≤ most) → BringsFew most (answers c before d) → BringsFew most (answers c (record { line = n; what = r } ∷ before) d)
answered most c n (rec.Look e id request f w result) before d few h = either most (same_call id d) _ (answers c before d) (added most (look_answer c before f w result) (take (request - 1) (answers c before d)) (look_few most c before f w result) (taken most (request - 1) (answers c before d) h)) h
answered most c n (rec.Grant e id request i m f stamp ss) before d few h = either most (same_call id d) _ (answers c before d) (added most (granted_answer m i f stamp (kept_in c before e f)) (answers c before d) (granted_few most m i f stamp (kept_in c before e f) (few e f)) h) h
answered most c n (rec.Refuse e id request i m f why) before d few h = either most (same_call id d) _ (answers c before d) (added most (Refused why) (answers c before d) tt h) h
answered most c n (rec.Act e i k o result) before d few h = either most (is_call (call_of_act before e i k) d) _ (answers c before d) (added most (outcome_answer result) (answers c before d) (outcome_few most result) h) h
answered most c n (rec.Release e i f stamp) before d few h = either most (is_call (call_of_release before e i) d) _ (answers c before d) (added most (close_answer stamp (instance_in (tree_of c e f.group before) i)) (answers c before d) (close_few most stamp (instance_in (tree_of c e f.group before) i)) h) h
answered most c n r before d few h = h

pub answers_few : (most : ℕ) (c : Config) (trace : Trace) (d : CallId) → KeepsFew most c trace → BringsFew most (answers c trace d)
answers_few most c [] d h = tt
answers_few most c (r ∷ before) d h = answered most c r.line r.what before d h.0 (answers_few most c before d h.1)

-- ---- what they ask ----

words_few : (most : ℕ) (mounts : List Mount) (packed : ℕ → Bool) (free : Option ℕ) (words : Call) (b : Beginning) (xs : List Answer) → BringsFew most xs → IsRequest (wants mounts packed free words b xs) → length xs + 1 ≤ most + 39
words_few most mounts packed free (call.Mend file) b xs few q = let k : length xs + 1 ≤ most + 3 = mends_few mounts packed free file b most xs few q in omega (arith, k)
words_few most mounts packed free words b xs few q = let k : length xs + 1 ≤ 39 = asked_low mounts packed free words b xs refl q in omega (arith, k)

as_few : (most : ℕ) (c : Config) (before : Trace) (w : Option Waiting) (b : Option Beginning) (xs : List Answer) → BringsFew most xs → IsRequest (wants_as c before w b xs) → length xs + 1 ≤ most + 39
as_few most c before (Some w) (Some b) xs few q = words_few most c.mounts _ _ w.words b xs few q
as_few most c before (Some w) None xs few q = absurd q
as_few most c before None b xs few q = absurd q

after_few : (most : ℕ) (c : Config) (before : Trace) (d : CallId) (xs : List Answer) → BringsFew most xs → IsRequest (wants_after c before d xs) → length xs + 1 ≤ most + 39
after_few most c before d xs few q = as_few most c before (call_named before d) (begun before d) xs few q

-- ---- records ----

look_request : (most : ℕ) (c : Config) (before : Trace) (e : EpochId) (d : CallId) (request : ℕ) (f : FileId) (w : What) (result : Served) → most ≤ 60000 → KeepsFew most c before → MayLook c before e d request f w result → is_request request ≡ true
look_request most c before e d request f w result le few m =
    let range : (1 ≤ request) × (request ≤ length (answers c before d) + 1) = number (length (answers c before d)) m.numbered in
    let long : length (take (request - 1) (answers c before d)) ≡ request - 1 = length-take-le (request - 1) (answers c before d) (omega (arith, range.0, range.1)) in
    let k : length (take (request - 1) (answers c before d)) + 1 ≤ most + 39 = after_few most c before d (take (request - 1) (answers c before d)) (taken most (request - 1) (answers c before d) (answers_few most c before d few)) (subst IsRequest (sym m.asked) tt) in
    request_low request 65535 range.0 (omega (arith, range.0, long, k, le)) (omega arith)
  where
    number : (n : ℕ) → is_next_or_again request n ≡ true → (1 ≤ request) × (request ≤ n + 1)
    number n h = (from n h, to n h)
      where
        from : (n : ℕ) → is_next_or_again request n ≡ true → 1 ≤ request
        from n h = grind (arith, nat_tests)

        to : (n : ℕ) → is_next_or_again request n ≡ true → request ≤ n + 1
        to n h = grind (arith, nat_tests)

open_request : (most : ℕ) (c : Config) (before : Trace) (e : EpochId) (d : CallId) (request : ℕ) (m : Mode) (f : FileId) → most ≤ 60000 → KeepsFew most c before → MayOpen c before e d request m f → is_request request ≡ true
open_request most c before e d request m f le few o =
    let number : request ≡ length (answers c before d) + 1 = o.numbered in
    let k : length (answers c before d) + 1 ≤ most + 39 = after_few most c before d (answers c before d) (answers_few most c before d few) (open_asks m f (wants_after c before d (answers c before d)) o.asked) in
    request_low request 65535 (omega (arith, number)) (omega (arith, number, k, le)) (omega arith)

pub asks_low : (most : ℕ) (c : Config) (before : Trace) (r : Record) → most ≤ 60000 → KeepsFew most c before → MayCome c before r → AsksLow r
asks_low most c before (rec.Look e id request f w result) le few may = look_request most c before e id request f w result le few may
asks_low most c before (rec.Grant e id request i m f stamp ss) le few may = open_request most c before e id request m f le few may.opens
asks_low most c before (rec.Refuse e id request i m f why) le few may = open_request most c before e id request m f le few may.opens
asks_low most c before r le few may = tt
