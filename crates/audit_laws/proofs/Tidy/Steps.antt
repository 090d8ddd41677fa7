-- What a record that may follow has to do with: one call, one instance.
use Rattle.std.proofs.Common.{◌≡◌, ℕ, ◌+◌, ◌==◌, ◌&&◌, ◌||◌, ◌≤◌, length, arith, not, Bool, true, false, List, [], ◌∷◌, filter, Option, Some, None, refl, sym, ap, subst, ◌∙◌}
use Rattle.std.proofs.lemmas.List.Sums.{sum_by-cons}
use Rattle.std.specs.Prelude.{sum_by}
use Rattle.std.specs.List.{find, list_any, AllByRecursion}
use Rattle.locus_ids.specs.declared.config.Config.{Config}
use Rattle.locus_ids.specs.declared.ids.CallId.{CallId}
use Rattle.locus_ids.specs.declared.ids.EpochId.{EpochId}
use Rattle.locus_ids.specs.declared.ids.FileId.{FileId}
use Rattle.locus_ids.specs.declared.ids.Mode.{Mode}
use Rattle.locus_ids.specs.declared.ids.Serial.{Serial}
use Rattle.locus_ids.specs.declared.ids.Stamp.{Stamp}
use Rattle.locus_ids.specs.declared.refusal.Refusal.{Refusal}
use Rattle.trace_book.specs.declared.call.Call.{Call}
use Rattle.trace_book.specs.declared.operation.Op.{Op}
use Rattle.trace_book.specs.declared.operation.Outcome.{Outcome}
use Rattle.trace_book.specs.declared.operation.What.{What}
use Rattle.trace_book.specs.declared.operation.Served.{Served}
use Rattle.trace_book.specs.declared.record.Record.TheVariants as rec
use Rattle.commit_graph.specs.Versions.{same_file}
use Rattle.call_rules.specs.declared.want.Want.{Want}
use Rattle.call_rules.specs.declared.want.Want.TheVariants as want
use Rattle.tree_model.specs.Same.{is_given, same_version}
use Rattle.promises.specs.Tree.{is_spent, result_on}
use Rattle.tree_model.specs.declared.instance.Granted.{Granted}
use Rattle.tree_model.specs.Epochs.{is_in}
use Rattle.promises.specs.Past.{Past, Epoch, CallSoFar, Instance, acts, ends, epoch_at, unformed, is_named, is_number, site_at, asks}
use Rattle.promises.specs.After.{is_actor, is_ender, is_id, is_epoch}
use Rattle.promises.specs.Rows.{may_follow, is_step_of, is_asked, is_synced}
use Rattle.promises.specs.Same.{same_request}
use Rattle.plain_facts.proofs.Tests.{and_first, and_second}
use Rattle.past_laws.proofs.Names.{false_true, none_some, number_eq, serial_eq}
use Rattle.past_laws.proofs.Changing.{any_finds, Finds, found_any, found_passes, find_same, first_found, first_none}
use Rattle.past_laws.proofs.Finding.{found_only}
use Rattle.past_laws.proofs.CallsLists.{each_found, one_passes}
use Rattle.row_lists.proofs.ByPlace.{kept_finds}
use Rattle.audit_laws.specs.Tidy.Epochs.{is_grant}
use Rattle.audit_laws.specs.Tidy.Users.{HasTurns}
use Rattle.audit_laws.specs.Tidy.Steps.{OneCall, OneAct, OneEnd}
use Rattle.audit_laws.specs.Tidy.Tidy.{IsTidy}
use Rattle.audit_laws.proofs.Tidy.Lists.{each_first}
use Rattle.audit_laws.proofs.Tidy.Acting.{actor_is, ender_is, few_act, few_end, changes_by_name}
use Rattle.audit_laws.proofs.Tidy.Calls.{accepts}
use Rattle.audit_laws.proofs.Tidy.Epochs.{epoch_stands}
use Rattle.audit_laws.proofs.Tidy.EpochsNext.{grants_new}
use Rattle.audit_laws.proofs.Tidy.TurnsNext.{TurnsStand}

-- ---- one call ----

one_call : (c : Config) (p : Past) (id : CallId) (test : CallSoFar → Bool) → IsTidy c p → list_any (λ (k : CallSoFar). is_id id k && test k) p.calls ≡ true → OneCall p id
one_call c p id test tidy h = of (any_finds (λ (k : CallSoFar). is_id id k && test k) p.calls h)
  where
    of : Finds (λ (k : CallSoFar). is_id id k && test k) p.calls → OneCall p id
    of it = (let only : filter (is_id id) p.calls ≡ it.one ∷ [] = one_passes (is_id id) (λ (k : CallSoFar). is_id id k && test k) p.calls it.one (tidy.calls.once id) it.found (and_first (is_id id it.one) (test it.one) it.passes) in
        record { call = it.one; only = only; found = kept_finds (is_id id) p.calls it.one only; process = ap (sum_by (λ (k : CallSoFar). k.process)) only ∙ (sum_by-cons (λ (k : CallSoFar). k.process) it.one [] ∙ end it.one.process) })
      where
        end : (n : ℕ) → n + 0 ≡ n
        end n = omega arith

step_call : (c : Config) (p : Past) (t : Epoch) (id : CallId) (asked : CallSoFar → Bool) → IsTidy c p → is_step_of p t id asked ≡ true → OneCall p id
step_call c p t id asked tidy h = one_call c p id (λ (k : CallSoFar). is_in k.epoch t.id && asked k) tidy h

pub looks_one : (c : Config) (p : Past) (e : EpochId) (id : CallId) (request : ℕ) (f : FileId) (w : What) (result : Served) → IsTidy c p → may_follow c p (rec.Look e id request f w result) ≡ true → OneCall p id
looks_one c p e id request f w result tidy may = step_call c p (epoch_at p e) id _ tidy (and_second _ _ (and_second (is_synced c (epoch_at p e) f.group) _ (and_second (is_number (epoch_at p e).started f.group) _ may)))

pub refuses_one : (c : Config) (p : Past) (e : EpochId) (id : CallId) (request : ℕ) (i : Serial) (m : Mode) (f : FileId) (why : Refusal) → IsTidy c p → may_follow c p (rec.Refuse e id request i m f why) ≡ true → OneCall p id
refuses_one c p e id request i m f why tidy may = step_call c p (epoch_at p e) id _ tidy (and_second _ _ (and_second (is_synced c (epoch_at p e) f.group) _ (and_second (is_number (epoch_at p e).started f.group) _ may)))

pub grants_call : (c : Config) (p : Past) (e : EpochId) (id : CallId) (request : ℕ) (i : Serial) (m : Mode) (f : FileId) (stamp : Option Stamp) (ss : ℕ) → IsTidy c p → may_follow c p (rec.Grant e id request i m f stamp ss) ≡ true → OneCall p id
grants_call c p e id request i m f stamp ss tidy may = step_call c p (epoch_at p e) id _ tidy (and_second (not (list_any (is_grant i) (epoch_at p e).granted)) _ (and_second (i.us == id.site) _ (and_second (is_number (epoch_at p e).joined ss) _ (and_second (is_synced c (epoch_at p e) f.group) _ (and_second (is_number (epoch_at p e).started f.group) _ may)))))

-- a call that is accepted has the next number of its site
pub accepts_next : (c : Config) (p : Past) (site process : ℕ) (id : CallId) (words : Call) → IsTidy c p → may_follow c p (rec.Accept site process id words) ≡ true → id.n ≡ (site_at p site).accepted + 1
accepts_next c p site process id words tidy may = (accepts c p site process id words tidy.sites may).n_is

-- a grant's name is open nowhere in the epoch
pub grants_unopened : (c : Config) (p : Past) (e : EpochId) (id : CallId) (request : ℕ) (i : Serial) (m : Mode) (f : FileId) (stamp : Option Stamp) (ss : ℕ) → IsTidy c p → may_follow c p (rec.Grant e id request i m f stamp ss) ≡ true → list_any (is_named i) (epoch_at p e).opened ≡ false
grants_unopened c p e id request i m f stamp ss tidy may = none (epoch_at p e).opened (epoch_stands p e tidy.epochs).as_granted
  where
    gone : (gs : List Granted) (g : Granted) → list_any (is_grant i) gs ≡ false → find (is_grant i) gs ≡ Some g → ⊥
    gone gs g h k = false_true (sym h ∙ any_of gs k)
      where
        any_of : (xs : List Granted) → find (is_grant i) xs ≡ Some g → list_any (is_grant i) xs ≡ true
        any_of xs q = found_any (is_grant i) (is_grant i) xs g q (found_passes (is_grant i) xs g q)

    none : (xs : List Instance) → AllByRecursion (λ (x : Instance). find (is_grant x.grant.inst) (epoch_at p e).granted ≡ Some x.grant) xs → list_any (is_named i) xs ≡ false
    none [] h = refl
    none (x ∷ xs) h = at (is_named i x) refl (none xs h.1)
      where
        at : (b : Bool) → is_named i x ≡ b → list_any (is_named i) xs ≡ false → list_any (is_named i) (x ∷ xs) ≡ false
        at true q later = absurd (gone (epoch_at p e).granted x.grant (grants_new c p (epoch_at p e) id request i m f stamp ss may) (subst (λ (j : Serial). find (is_grant j) (epoch_at p e).granted ≡ Some x.grant) (serial_eq x.grant.inst i q) h.0))
        at false q later = rw q later

-- and so in the epoch that is found by its name
pub grants_unopened_there : (c : Config) (p : Past) (e : EpochId) (id : CallId) (request : ℕ) (i : Serial) (m : Mode) (f : FileId) (stamp : Option Stamp) (ss : ℕ) → IsTidy c p → may_follow c p (rec.Grant e id request i m f stamp ss) ≡ true → (t : Epoch) → find (is_epoch e) p.epochs ≡ Some t → list_any (is_named i) t.opened ≡ false
grants_unopened_there c p e id request i m f stamp ss tidy may t found = ap (λ (u : Epoch). list_any (is_named i) u.opened) (sym (first_found (unformed e) (is_epoch e) p.epochs t found)) ∙ grants_unopened c p e id request i m f stamp ss tidy may

-- ---- one instance ----

-- an epoch with an open instance is there
open_there : (p : Past) (e : EpochId) (i : Serial) (x : Instance) → find (is_named i) (epoch_at p e).opened ≡ Some x → find (is_epoch e) p.epochs ≡ Some (epoch_at p e)
open_there p e i x found = at (find (is_epoch e) p.epochs) refl
  where
    at : (o : Option Epoch) → find (is_epoch e) p.epochs ≡ o → find (is_epoch e) p.epochs ≡ Some (epoch_at p e)
    at None h = none_some x (sym (ap (λ (u : Epoch). find (is_named i) u.opened) (first_none (unformed e) (is_epoch e) p.epochs h)) ∙ found)
    at (Some t) h = h ∙ ap Some (sym (first_found (unformed e) (is_epoch e) p.epochs t h))

one_open : (c : Config) (p : Past) (e : EpochId) (i : Serial) (test : Instance → Bool) → IsTidy c p → (it : Finds (λ (x : Instance). is_named i x && test x) (epoch_at p e).opened) → filter (is_named i) (epoch_at p e).opened ≡ it.one ∷ []
one_open c p e i test tidy it = one_passes (is_named i) (λ (x : Instance). is_named i x && test x) (epoch_at p e).opened it.one ((epoch_stands p e tidy.epochs).single i) it.found (and_first (is_named i it.one) (test it.one) it.passes)

-- of the calls that pass one does, where some passes and is asked
asked_one : (c : Config) (p : Past) (t : Epoch) (which : CallSoFar → Bool) (request : Want) → length (filter which p.calls) ≤ 1 → is_asked c p t which request ≡ true → (k : CallSoFar) × (find which p.calls ≡ Some k)
asked_one c p t which request few h = of (any_finds (λ k. which k && (is_in k.epoch t.id && same_request (asks c p k) request)) p.calls h)
  where
    of : Finds (λ (k : CallSoFar). which k && (is_in k.epoch t.id && same_request (asks c p k) request)) p.calls → (k : CallSoFar) × (find which p.calls ≡ Some k)
    of it = (it.one, found_only which (λ k. which k && (is_in k.epoch t.id && same_request (asks c p k) request)) (λ k g. and_first (which k) _ g) p.calls it.one few it.found)

turns_at : (c : Config) (p : Past) (e : EpochId) (i : Serial) (x : Instance) → IsTidy c p → find (is_named i) (epoch_at p e).opened ≡ Some x → HasTurns p.calls (epoch_at p e).id x
turns_at c p e i x tidy found = (each_found (HasTurns p.calls (epoch_at p e).id) (is_named i) (epoch_at p e).opened x found (each_first (TurnsStand p.calls) (unformed e) (is_epoch e) p.epochs tt tidy.users.turns)).0

act_of : (c : Config) (p : Past) (e : EpochId) (i : Serial) (n : ℕ) (x : Instance) (request : Want) → IsTidy c p → filter (is_named i) (epoch_at p e).opened ≡ x ∷ [] → n ≡ x.work.ops + 1 → is_asked c p (epoch_at p e) (acts (epoch_at p e).id x n) request ≡ true → OneAct p e i n
act_of c p e i n x request tidy only next asked = (let same : (k : CallSoFar) → is_actor (epoch_at p e) i n k ≡ acts (epoch_at p e).id x n k = actor_is (epoch_at p e) i n x (epoch_stands p e tidy.epochs) (kept_finds (is_named i) (epoch_at p e).opened x only) in
    let found : find (is_named i) (epoch_at p e).opened ≡ Some x = kept_finds (is_named i) (epoch_at p e).opened x only in
    let few : length (filter (acts (epoch_at p e).id x n) p.calls) ≤ 1 = few_act p.sites p.calls (epoch_at p e).id x n tidy.calls (turns_at c p e i x tidy found) in
    let k = asked_one c p (epoch_at p e) (acts (epoch_at p e).id x n) request few asked in
    record {
      there = open_there p e i x found;
      instance = x;
      only = only;
      named = found;
      next = next;
      call = k.0;
      found = k.1;
      actor = find_same (is_actor (epoch_at p e) i n) (acts (epoch_at p e).id x n) same p.calls ∙ k.1;
      alone = subst (λ (q : CallSoFar → Bool). length (filter q p.calls) ≤ 1) (λ j l. sym (same l) j) few;
      by_name = λ f. changes_by_name p (is_actor (epoch_at p e) i n) (acts (epoch_at p e).id x n) f k.0 tidy.calls (actor_is (epoch_at p e) i n x (epoch_stands p e tidy.epochs) found) few k.1;
    })

pub acts_one : (c : Config) (p : Past) (e : EpochId) (i : Serial) (n : ℕ) (o : Op) (result : Outcome) → IsTidy c p → may_follow c p (rec.Act e i n o result) ≡ true → OneAct p e i n
acts_one c p e i n o result tidy may = of (any_finds (test (epoch_at p e)) (epoch_at p e).opened may)
  where
    rest : Epoch → Instance → Bool
    rest t x = is_number t.joined x.grant.ss && (is_given (result_on p t o x) result && is_asked c p t (acts t.id x n) (want.Do i o))

    test : Epoch → Instance → Bool
    test t x = is_named i x && ((n == x.work.ops + 1) && rest t x)

    of : Finds (test (epoch_at p e)) (epoch_at p e).opened → OneAct p e i n
    of it = (let more : ((n == it.one.work.ops + 1) && rest (epoch_at p e) it.one) ≡ true = and_second (is_named i it.one) ((n == it.one.work.ops + 1) && rest (epoch_at p e) it.one) it.passes in
        act_of c p e i n it.one (want.Do i o) tidy (one_open c p e i (λ x. (n == x.work.ops + 1) && rest (epoch_at p e) x) tidy it)
        (number_eq n (it.one.work.ops + 1) (and_first (n == it.one.work.ops + 1) (rest (epoch_at p e) it.one) more))
        (and_second _ (is_asked c p (epoch_at p e) (acts (epoch_at p e).id it.one n) (want.Do i o)) (and_second (is_number (epoch_at p e).joined it.one.grant.ss) _ (and_second (n == it.one.work.ops + 1) (rest (epoch_at p e) it.one) more))))

pub ends_one : (c : Config) (p : Past) (e : EpochId) (i : Serial) (f : FileId) (stamp : Option Stamp) → IsTidy c p → may_follow c p (rec.Release e i f stamp) ≡ true → OneEnd p e i
ends_one c p e i f stamp tidy may = of (any_finds (test (epoch_at p e)) (epoch_at p e).opened (and_second (is_synced c (epoch_at p e) f.group) _ may))
  where
    rest : Epoch → Instance → Bool
    rest t x = same_version stamp x.work.committed && ((not x.work.owes || is_spent p t x) && is_asked c p t (ends t.id x) (want.Close i))

    test : Epoch → Instance → Bool
    test t x = is_named i x && (same_file x.grant.file f && rest t x)

    end_of : (x : Instance) → filter (is_named i) (epoch_at p e).opened ≡ x ∷ [] → is_asked c p (epoch_at p e) (ends (epoch_at p e).id x) (want.Close i) ≡ true → OneEnd p e i
    end_of x only asked = (let found : find (is_named i) (epoch_at p e).opened ≡ Some x = kept_finds (is_named i) (epoch_at p e).opened x only in
        let few : length (filter (ends (epoch_at p e).id x) p.calls) ≤ 1 = few_end p (epoch_at p e).id x tidy.calls tidy.users in
        let k = asked_one c p (epoch_at p e) (ends (epoch_at p e).id x) (want.Close i) few asked in
        let same : (l : CallSoFar) → is_ender (epoch_at p e) i l ≡ ends (epoch_at p e).id x l = ender_is (epoch_at p e) i x (epoch_stands p e tidy.epochs) found in
        record {
          there = open_there p e i x found;
          instance = x;
          only = only;
          named = found;
          call = k.0;
          found = k.1;
          ender = find_same (is_ender (epoch_at p e) i) (ends (epoch_at p e).id x) same p.calls ∙ k.1;
          alone = subst (λ (q : CallSoFar → Bool). length (filter q p.calls) ≤ 1) (λ j l. sym (same l) j) few;
          by_name = λ g. changes_by_name p (is_ender (epoch_at p e) i) (ends (epoch_at p e).id x) g k.0 tidy.calls (ender_is (epoch_at p e) i x (epoch_stands p e tidy.epochs) found) few k.1;
        })

    of : Finds (test (epoch_at p e)) (epoch_at p e).opened → OneEnd p e i
    of it = end_of it.one (one_open c p e i (λ x. same_file x.grant.file f && rest (epoch_at p e) x) tidy it)
        (and_second (not it.one.work.owes || is_spent p (epoch_at p e) it.one) _ (and_second (same_version stamp it.one.work.committed) _ (and_second (same_file it.one.grant.file f) (rest (epoch_at p e) it.one) (and_second (is_named i it.one) (same_file it.one.grant.file f && rest (epoch_at p e) it.one) it.passes))))
