-- The turns of those who use an open instance, by each record that may follow.
use Rattle.std.proofs.Common.{◌≡◌, ℕ, ◌+◌, ◌-◌, ◌==◌, ◌&&◌, ◌≤◌, not, Bool, true, false, cond, List, [], ◌∷◌, ◌++◌, length, filter, map, take, Option, Some, None, refl, sym, ap, ◌∙◌, arith}
use Rattle.std.specs.Prelude.{fold, sum_by}
use Rattle.std.specs.List.{find, AllByRecursion}
use Rattle.std.proofs.lemmas.List.Sums.{sum_by-cons}
use Rattle.locus_ids.specs.declared.config.Config.{Config}
use Rattle.locus_ids.specs.declared.ids.EpochId.{EpochId}
use Rattle.locus_ids.specs.declared.ids.Serial.{Serial}
use Rattle.locus_ids.specs.declared.ids.Stamp.{Stamp}
use Rattle.trace_book.specs.Same.{same_epoch, same_serial}
use Rattle.trace_book.specs.declared.call.Call.{Call}
use Rattle.trace_book.specs.declared.descriptor.Beginning.{Beginning}
use Rattle.trace_book.specs.declared.descriptor.Beginning.TheVariants as begins
use Rattle.trace_book.specs.declared.record.Record.{Record}
use Rattle.trace_book.specs.declared.record.Record.TheVariants as rec
use Rattle.call_rules.specs.declared.answer.Answer.TheVariants.{Refused}
use Rattle.call_rules.specs.Opening.{is_steady}
use Rattle.tree_model.specs.Calls.{version_at}
use Rattle.lawful_trace.specs.Progress.{granted_answer, outcome_answer}
use Rattle.promises.specs.Past.{Past, Epoch, CallSoFar, Instance, epoch_at, kept_in, is_named, is_on, is_close}
use Rattle.promises.specs.After.{after, told_by, change, is_id, is_epoch, is_actor, is_ender, uses, turn_of, look_answer, close_answer}
use Rattle.promises.specs.Rows.{may_follow}
use Rattle.past_laws.proofs.Names.{false_true, both_parts, epoch_eq, epoch_test, epoch_own, serial_eq, serial_test}
use Rattle.past_laws.proofs.Changing.{filter_changed, map_changed, only_one}
use Rattle.past_laws.proofs.CallsLists.{each_more, each_both, none_pass}
use Rattle.past_laws.proofs.TreesLists.{fewer_pass}
use Rattle.audit_laws.specs.Tidy.Epochs.{EpochStands, EpochsStand}
use Rattle.audit_laws.specs.Tidy.Users.{is_use}
use Rattle.audit_laws.specs.Tidy.Tidy.{IsTidy}
use Rattle.audit_laws.proofs.Tidy.Lists.{found_one, kept_own}
use Rattle.audit_laws.proofs.Tidy.Answers.{AnswersOne, answers_one, closed_as, epoch_calls}
use Rattle.audit_laws.proofs.Tidy.TiesGrants.{IsOfCall}

-- ---- sums of which one part counts ----

-- what doesn't pass counts nothing
sum_kept : {X : Type 0} (h : X → ℕ) (p : X → Bool) → ((x : X) → p x ≡ false → h x ≡ 0) → (xs : List X) → sum_by h xs ≡ sum_by h (filter p xs)
sum_kept h p zeros [] = refl
sum_kept {X} h p zeros (x ∷ xs) = at (sum_kept h p zeros xs) (p x) refl
  where
    drops : h x ≡ 0 → sum_by h xs ≡ sum_by h (filter p xs) → h x + sum_by h xs ≡ sum_by h (filter p xs)
    drops a b = omega (arith, a, b)

    at : sum_by h xs ≡ sum_by h (filter p xs) → (b : Bool) → p x ≡ b → sum_by h (x ∷ xs) ≡ sum_by h (cond b (x ∷ filter p xs) (filter p xs))
    at later true e = sum_by-cons h x xs ∙ (ap (λ n. h x + n) later ∙ sym (sum_by-cons h x (filter p xs)))
    at later false e = sum_by-cons h x xs ∙ drops (zeros x e) later

pub kept_one : {X : Type 0} (q : X → Bool) (xs : List X) → length (filter q xs) ≤ 1 → AllByRecursion (λ x. q x ≡ true → filter q xs ≡ x ∷ []) xs
kept_one q xs few = each_more (λ x. q x ≡ true → find q xs ≡ Some x) (λ x. q x ≡ true → filter q xs ≡ x ∷ []) (λ x f h. only_one q xs x few (f h)) xs (found_one q xs few)

sum_alone : {X : Type 0} (h : X → ℕ) (x : X) → sum_by h (x ∷ []) ≡ h x
sum_alone h x = sum_by-cons h x [] ∙ end (h x)
  where
    end : (n : ℕ) → n + 0 ≡ n
    end n = omega arith

-- ---- the turn of a call ----

-- the instances on which a call begins have one name
few_uses : (t : Epoch) (b : Beginning) (words : Call) → EpochStands t → length (filter (uses b words t.id) t.opened) ≤ 1
few_uses t (begins.Uses e i) words st = omega (arith, st.single i, fewer_pass (uses (begins.Uses e i) words t.id) (is_named i) named t.opened)
  where
    named : (x : Instance) → uses (begins.Uses e i) words t.id x ≡ true → is_named i x ≡ true
    named x h = serial_test x.grant.inst i (sym (serial_eq i x.grant.inst (both_parts (same_epoch e t.id) (same_serial i x.grant.inst) (both_parts (is_on (begins.Uses e i) t.id x.grant.inst) (not (is_close words)) h).0).1))
few_uses t (begins.Denied why) words st = omega (arith, st.single (record { us = 0; serial = 0 }), fewer_pass (uses (begins.Denied why) words t.id) (is_named (record { us = 0; serial = 0 })) (λ x h. false_true h) t.opened)
few_uses t (begins.Walks id) words st = omega (arith, st.single (record { us = 0; serial = 0 }), fewer_pass (uses (begins.Walks id) words t.id) (is_named (record { us = 0; serial = 0 })) (λ x h. false_true h) t.opened)
few_uses t (begins.Reopens kept last) words st = omega (arith, st.single (record { us = 0; serial = 0 }), fewer_pass (uses (begins.Reopens kept last) words t.id) (is_named (record { us = 0; serial = 0 })) (λ x h. false_true h) t.opened)
few_uses t begins.Frees words st = omega (arith, st.single (record { us = 0; serial = 0 }), fewer_pass (uses begins.Frees words t.id) (is_named (record { us = 0; serial = 0 })) (λ x h. false_true h) t.opened)

-- and they are of one epoch
one_epoch : (b : Beginning) (words : Call) (t u : Epoch) (x y : Instance) → uses b words t.id x ≡ true → uses b words u.id y ≡ true → is_epoch t.id u ≡ true
one_epoch (begins.Uses e i) words t u x y h k = epoch_test u.id t.id (sym (of u y k) ∙ of t x h)
  where
    of : (v : Epoch) (z : Instance) → uses (begins.Uses e i) words v.id z ≡ true → e ≡ v.id
    of v z g = epoch_eq e v.id (both_parts (same_epoch e v.id) (same_serial i z.grant.inst) (both_parts (is_on (begins.Uses e i) v.id z.grant.inst) (not (is_close words)) g).0).0
one_epoch (begins.Denied why) words t u x y h k = false_true h
one_epoch (begins.Walks id) words t u x y h k = false_true h
one_epoch (begins.Reopens kept last) words t u x y h k = false_true h
one_epoch begins.Frees words t u x y h k = false_true h

abbrev counts : Instance → ℕ
counts x = x.uses + 1

abbrev counted_in : Beginning → Call → Epoch → ℕ
counted_in b words t = sum_by counts (filter (uses b words t.id) t.opened)

turn_in : (p : Past) (b : Beginning) (words : Call) → EpochsStand p.epochs → (t : Epoch) → EpochStands t → filter (is_epoch t.id) p.epochs ≡ t ∷ [] → AllByRecursion (λ (x : Instance). uses b words t.id x ≡ true → turn_of p b words ≡ x.uses + 1) t.opened
turn_in p b words all t st only = each_more (λ (x : Instance). uses b words t.id x ≡ true → filter (uses b words t.id) t.opened ≡ x ∷ []) (λ (x : Instance). uses b words t.id x ≡ true → turn_of p b words ≡ x.uses + 1)
    (λ x f h. sum_kept (counted_in b words) (is_epoch t.id) (zeros x h) p.epochs ∙ (ap (sum_by (counted_in b words)) only ∙ (sum_alone (counted_in b words) t ∙ (ap (sum_by counts) (f h) ∙ sum_alone counts x)))) t.opened
    (kept_one (uses b words t.id) t.opened (few_uses t b words st))
  where
    zeros : (x : Instance) → uses b words t.id x ≡ true → (u : Epoch) → is_epoch t.id u ≡ false → counted_in b words u ≡ 0
    zeros x h u apart = ap (sum_by counts) (none_pass (uses b words u.id) u.opened (each u.opened))
      where
        each : (ys : List Instance) → AllByRecursion (λ (y : Instance). uses b words u.id y ≡ false) ys
        each [] = tt
        each (y ∷ ys) = (at (uses b words u.id y) refl, each ys)
          where
            at : (v : Bool) → uses b words u.id y ≡ v → v ≡ false
            at true k = false_true (sym apart ∙ one_epoch b words t u x y h k)
            at false k = refl

pub turns_are : (p : Past) (b : Beginning) (words : Call) → EpochsStand p.epochs → AllByRecursion (λ (t : Epoch). AllByRecursion (λ (x : Instance). uses b words t.id x ≡ true → turn_of p b words ≡ x.uses + 1) t.opened) p.epochs
turns_are p b words all = each_both EpochStands (λ (t : Epoch). filter (is_epoch t.id) p.epochs ≡ t ∷ []) (λ (t : Epoch). AllByRecursion (λ (x : Instance). uses b words t.id x ≡ true → turn_of p b words ≡ x.uses + 1) t.opened)
    (λ t st only. turn_in p b words all t st only) p.epochs all.each (kept_own (λ (t u : Epoch). is_epoch t.id u) (λ t. epoch_own t.id) p.epochs (λ t. all.once t.id))

-- ---- turns that stay ----

turns_kept : (q : CallSoFar → Bool) (which : CallSoFar → Bool) (f : CallSoFar → CallSoFar) → ((k : CallSoFar) → q (f k) ≡ q k) → ((k : CallSoFar) → (f k).turn ≡ k.turn) → (calls : List CallSoFar) → map (λ (k : CallSoFar). k.turn) (filter q (change which f calls)) ≡ map (λ (k : CallSoFar). k.turn) (filter q calls)
turns_kept q which f keep same calls = ap (map (λ (k : CallSoFar). k.turn)) (filter_changed q which f (λ k e. keep k) calls) ∙ map_changed (λ (k : CallSoFar). k.turn) which f (λ k e. same k) (filter q calls)

closed_turns : (q : CallSoFar → Bool) → IsOfCall q → (which : CallSoFar → Bool) (stamp : Option Stamp) (xs : List Instance) (calls : List CallSoFar) → map (λ (k : CallSoFar). k.turn) (filter q (fold (λ (ks : List CallSoFar) (x : Instance). change which (λ (k : CallSoFar). record k { answers = k.answers ++ close_answer stamp x ∷ [] }) ks) calls xs)) ≡ map (λ (k : CallSoFar). k.turn) (filter q calls)
closed_turns q of_call which stamp [] calls = refl
closed_turns q of_call which stamp (x ∷ xs) calls = closed_turns q of_call which stamp xs (change which (λ (k : CallSoFar). record k { answers = k.answers ++ close_answer stamp x ∷ [] }) calls)
    ∙ turns_kept q which (λ (k : CallSoFar). record k { answers = k.answers ++ close_answer stamp x ∷ [] }) (λ k. of_call k (record k { answers = k.answers ++ close_answer stamp x ∷ [] }) refl refl refl refl refl refl) (λ k. refl) calls

abbrev pub IsNoAccept : Record → Type 0
IsNoAccept (rec.Accept site process id words) = ⊥
IsNoAccept _ = Unit {0}

pub turns_last : (q : CallSoFar → Bool) → IsOfCall q → (c : Config) (p : Past) (r : Record) → IsTidy c p → may_follow c p r ≡ true → IsNoAccept r → map (λ (k : CallSoFar). k.turn) (filter q (after c r p).calls) ≡ map (λ (k : CallSoFar). k.turn) (filter q p.calls)
turns_last q of_call c p (rec.Up site boot) tidy may n = refl
turns_last q of_call c p (rec.Stopped site cause) tidy may n = turns_kept q (λ (k : CallSoFar). k.id.site == site) (λ (k : CallSoFar). record k { waits = false }) (λ k. of_call k (record k { waits = false }) refl refl refl refl refl refl) (λ k. refl) p.calls
turns_last q of_call c p (rec.Leave site e) tidy may n = refl
turns_last q of_call c p (rec.Join site e members) tidy may n = ap (λ (ks : List CallSoFar). map (λ (k : CallSoFar). k.turn) (filter q ks)) (epoch_calls e members p)
turns_last q of_call c p (rec.Start e group copies) tidy may n = refl
turns_last q of_call c p (rec.Accept site process id words) tidy may n = absurd n
turns_last q of_call c p (rec.Look e id request f w result) tidy may n = turns_kept q (is_id id) (λ (k : CallSoFar). record k { answers = take (request - 1) k.answers ++ look_answer p f w result ∷ [] }) (λ k. of_call k (record k { answers = take (request - 1) k.answers ++ look_answer p f w result ∷ [] }) refl refl refl refl refl refl) (λ k. refl) p.calls
turns_last q of_call c p (rec.Grant e id request i m f stamp ss) tidy may n = turns_kept q (is_id id) (λ (k : CallSoFar). record k { granted = Some (record { mode = m; epoch = e; inst = i; steady = cond (is_steady k.words) (version_at f stamp) None }); answers = k.answers ++ granted_answer m i f stamp (kept_in p (epoch_at p e) f) ∷ [] })
    (λ k. of_call k (record k { granted = Some (record { mode = m; epoch = e; inst = i; steady = cond (is_steady k.words) (version_at f stamp) None }); answers = k.answers ++ granted_answer m i f stamp (kept_in p (epoch_at p e) f) ∷ [] }) refl refl refl refl refl refl) (λ k. refl) p.calls
turns_last q of_call c p (rec.Refuse e id request i m f why) tidy may n = turns_kept q (is_id id) (λ (k : CallSoFar). record k { answers = k.answers ++ Refused why ∷ [] }) (λ k. of_call k (record k { answers = k.answers ++ Refused why ∷ [] }) refl refl refl refl refl refl) (λ k. refl) p.calls
turns_last q of_call c p (rec.Act e i m o result) tidy may n = turns_kept q (is_actor (epoch_at p e) i m) (λ (k : CallSoFar). record k { answers = k.answers ++ outcome_answer result ∷ [] }) (λ k. of_call k (record k { answers = k.answers ++ outcome_answer result ∷ [] }) refl refl refl refl refl refl) (λ k. refl) p.calls
turns_last q of_call c p (rec.Commit f site stamp parents content) tidy may n = refl
turns_last q of_call c p (rec.Release e i f stamp) tidy may n = ap (λ (x : Past). map (λ (k : CallSoFar). k.turn) (filter q x.calls)) (closed_as (is_ender (epoch_at p e) i) stamp p (filter (is_named i) (epoch_at p e).opened)) ∙ closed_turns q of_call (is_ender (epoch_at p e) i) stamp (filter (is_named i) (epoch_at p e).opened) p.calls
turns_last q of_call c p (rec.Adopt f site stamp) tidy may n = refl
turns_last q of_call c p (rec.Answer site process id r) tidy may n = of (answers_one c p site process id r tidy.calls may)
  where
    of : AnswersOne c p site process id r → map (λ (k : CallSoFar). k.turn) (filter q (told_by c (rec.Answer site process id r) p).calls) ≡ map (λ (k : CallSoFar). k.turn) (filter q p.calls)
    of it = ap (λ (x : Past). map (λ (k : CallSoFar). k.turn) (filter q x.calls)) it.told ∙ turns_kept q (is_id it.call.id) (λ (k : CallSoFar). record k { waits = false }) (λ k. of_call k (record k { waits = false }) refl refl refl refl refl refl) (λ k. refl) p.calls
turns_last q of_call c p (rec.Packet number from to kind) tidy may n = refl
turns_last q of_call c p rec.Void tidy may n = refl
turns_last q of_call c p rec.Budget tidy may n = refl

pub use_of : (e : EpochId) (i : Serial) → IsOfCall (is_use e i)
use_of e i k l name process words epoch begins turn = λ j. is_on (begins j) e i && not (is_close (words j))
