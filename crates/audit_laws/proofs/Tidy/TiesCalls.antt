-- Calls and grants find what they refer to, by each record that may follow.
use Rattle.std.proofs.Common.{◌≡◌, ℕ, ◌==◌, ◌&&◌, true, false, List, [], ◌∷◌, ◌++◌, Option, Some, None, refl, sym, ap, subst, ◌∙◌}
use Rattle.std.specs.List.{find, AllByRecursion}
use Rattle.std.specs.Option.{option_map}
use Rattle.locus_ids.specs.declared.config.Config.{Config}
use Rattle.locus_ids.specs.declared.ids.CallId.{CallId}
use Rattle.locus_ids.specs.declared.ids.EpochId.{EpochId}
use Rattle.locus_ids.specs.declared.ids.FileId.{FileId}
use Rattle.locus_ids.specs.declared.ids.Mode.{Mode}
use Rattle.locus_ids.specs.declared.ids.Serial.{Serial}
use Rattle.locus_ids.specs.declared.ids.Stamp.{Stamp}
use Rattle.trace_book.specs.Same.{same_call}
use Rattle.trace_book.specs.declared.call.Call.{Call}
use Rattle.trace_book.specs.declared.descriptor.Descriptor.{Descriptor}
use Rattle.trace_book.specs.declared.descriptor.OneVersion.{OneVersion}
use Rattle.trace_book.specs.declared.record.Record.{Record}
use Rattle.trace_book.specs.declared.record.Record.TheVariants as rec
use Rattle.call_rules.specs.declared.answer.Answer.{Answer}
use Rattle.call_rules.specs.Descriptors.{beginning}
use Rattle.tree_model.specs.declared.instance.Granted.{Granted}
use Rattle.tree_model.specs.Epochs.{is_in}
use Rattle.promises.specs.Past.{Past, Epoch, CallSoFar, Named, site_at, epoch_at, table}
use Rattle.promises.specs.After.{after, is_id, begun_call, opened_as, process_of}
use Rattle.promises.specs.Rows.{may_follow, may_grant}
use Rattle.plain_facts.proofs.Tests.{and_true, or_first}
use Rattle.past_laws.proofs.Names.{false_true, none_some, some_same, call_own, call_test, epoch_eq, serial_own}
use Rattle.past_laws.proofs.CallsLists.{each_more, each_both, each_found}
use Rattle.audit_laws.specs.Tidy.Epochs.{is_grant}
use Rattle.audit_laws.specs.Tidy.Ties.{has_epoch, has_member, has_granted, has_named, SiteTied, CallTied, TiesStand}
use Rattle.audit_laws.specs.Tidy.Tidy.{IsTidy}
use Rattle.audit_laws.proofs.Tidy.Lists.{found_one}
use Rattle.audit_laws.proofs.Tidy.Beginnings.{BeginsOn, begins_so}
use Rattle.audit_laws.proofs.Tidy.Each.{CallSteps, calls_each}
use Rattle.audit_laws.proofs.Tidy.Later.{EpochsLater, later_next}
use Rattle.audit_laws.proofs.Tidy.TiesParts.{granted_lasts, named_lasts, is_there, there_later, changed_has, GrantsOne, grants_one}
use Rattle.audit_laws.proofs.Tidy.TiesSites.{site_tied}

-- ---- calls ----

abbrev pub IsNoGrant : Record → Type 0
IsNoGrant (rec.Grant e id request i m f stamp ss) = ⊥
IsNoGrant _ = Unit {0}

pub call_later : (old new : List Epoch) → EpochsLater old new → (k : CallSoFar) → CallTied old k → CallTied new k
call_later old new later k t = record {
  epoch = λ e h. there_later old new later e (t.epoch e h);
  granted = t.granted;
  has_it = λ d h. later (has_granted d.inst k.id) (granted_lasts d.inst k.id) d.epoch (t.has_it d h);
  within = t.within;
  uses = λ e i h. later (has_named i) (named_lasts i) e (t.uses e i h);
}

-- what a call is tied by isn't what it was answered
answers_tied : (epochs : List Epoch) (k : CallSoFar) (answers : List Answer) → CallTied epochs k → CallTied epochs (record k { answers = answers })
answers_tied epochs k answers t = record { epoch = t.epoch; granted = t.granted; has_it = t.has_it; within = t.within; uses = t.uses }

waits_tied : (epochs : List Epoch) (k : CallSoFar) → CallTied epochs k → CallTied epochs (record k { waits = false })
waits_tied epochs k t = record { epoch = t.epoch; granted = t.granted; has_it = t.has_it; within = t.within; uses = t.uses }

-- the call that is accepted
pub begun_tied : (p : Past) → TiesStand p → (site process : ℕ) (id : CallId) (words : Call) → CallTied p.epochs (begun_call p site process id words (beginning (table p site process) (site_at p site).epoch id words))
begun_tied p ties site process id words = record {
  epoch = λ e h. is_there (has_member (site_at p site).number) e p.epochs (own.inside e h);
  granted = λ d h. none_some d h;
  has_it = λ d h. none_some d h;
  within = λ e i h. (begins_so (table p site process) (site_at p site).epoch id words e i h).inside;
  uses = λ e i h. used e i (begins_so (table p site process) (site_at p site).epoch id words e i h);
}
  where
    own : SiteTied p.epochs (site_at p site)
    own = site_tied p ties site

    used : (e : EpochId) (i : Serial) → BeginsOn (table p site process) (site_at p site).epoch words e i → has_epoch (has_named i) e p.epochs ≡ true
    used e i it = at (find (λ (d : Named). (d.process == process) && (d.fd == it.fd)) (site_at p site).descriptors) refl it.found
      where
        at : (o : Option Named) → find (λ (d : Named). (d.process == process) && (d.fd == it.fd)) (site_at p site).descriptors ≡ o → option_map (λ (d : Named). d.names) o ≡ Some it.names → has_epoch (has_named i) e p.epochs ≡ true
        at None f g = none_some it.names g
        at (Some d) f g = (let is : d.names ≡ it.names = some_same d.names it.names g in
            let there : has_epoch (has_named d.names.inst) d.names.epoch p.epochs ≡ true = (each_found (λ (x : Named). has_epoch (has_named x.names.inst) x.names.epoch p.epochs ≡ true) (λ (x : Named). (x.process == process) && (x.fd == it.fd)) (site_at p site).descriptors d f own.names).0 in
            subst (λ (j : Serial). has_epoch (has_named j) e p.epochs ≡ true) (ap (λ (x : Descriptor). x.inst) is ∙ it.inst_is) (subst (λ (x : EpochId). has_epoch (has_named d.names.inst) x p.epochs ≡ true) (ap (λ (x : Descriptor). x.epoch) is ∙ it.epoch_is) there))

-- the call of a grant
granted_calls : (c : Config) (p : Past) (e : EpochId) (id : CallId) (request : ℕ) (i : Serial) (m : Mode) (f : FileId) (stamp : Option Stamp) (ss : ℕ) → IsTidy c p → TiesStand p → may_grant c p (epoch_at p e) id request i m f stamp ss ≡ true
    → AllByRecursion (λ (k : CallSoFar). k.id ≡ id → is_in k.epoch e ≡ true) p.calls
granted_calls c p e id request i m f stamp ss tidy ties may = of (grants_one c p e id request i m f stamp ss tidy.calls may)
  where
    of : GrantsOne p e id → AllByRecursion (λ (k : CallSoFar). k.id ≡ id → is_in k.epoch e ≡ true) p.calls
    of it = each_more (λ (k : CallSoFar). is_id id k ≡ true → find (is_id id) p.calls ≡ Some k) (λ (k : CallSoFar). k.id ≡ id → is_in k.epoch e ≡ true)
        (λ k h q. subst (λ (x : CallSoFar). is_in x.epoch e ≡ true) (some_same it.call k (sym it.found ∙ h (call_test k.id id q))) it.inside) p.calls (found_one (is_id id) p.calls (tidy.calls.once id))

in_it : (o : Option EpochId) (e : EpochId) → is_in o e ≡ true → o ≡ Some e
in_it None e h = false_true h
in_it (Some d) e h = ap Some (epoch_eq d e h)

-- the epoch of a grant is there, and has it
grant_there : (c : Config) (p : Past) (e : EpochId) (id : CallId) (request : ℕ) (i : Serial) (m : Mode) (f : FileId) (stamp : Option Stamp) (ss : ℕ) → IsTidy c p → TiesStand p → may_follow c p (rec.Grant e id request i m f stamp ss) ≡ true
    → has_epoch (has_granted i id) e (after c (rec.Grant e id request i m f stamp ss) p).epochs ≡ true
grant_there c p e id request i m f stamp ss tidy ties may = of (grants_one c p e id request i m f stamp ss tidy.calls may)
  where
    g : Granted
    g = record { inst = i; call = id; process = process_of p id; mode = m; file = f; ss = ss }

    of : GrantsOne p e id → has_epoch (has_granted i id) e (after c (rec.Grant e id request i m f stamp ss) p).epochs ≡ true
    of it = changed_has (has_granted i id) e (λ (t : Epoch). record t { granted = g ∷ t.granted; opened = t.opened ++ opened_as p g stamp ∷ [] }) (λ t. refl) (λ t. or_first (is_grant i g && same_call g.call id) _ (and_true (is_grant i g) (same_call g.call id) (serial_own i) (call_own id))) p.epochs
        ((each_found (CallTied p.epochs) (is_id id) p.calls it.call it.found ties.calls).0.epoch e (in_it it.call.epoch e it.inside))

call_steps : (c : Config) (p : Past) (r : Record) → IsTidy c p → TiesStand p → may_follow c p r ≡ true → IsNoGrant r → CallSteps (CallTied (after c r p).epochs) p r
call_steps c p (rec.Up site boot) tidy ties may n = tt
call_steps c p (rec.Stopped site cause) tidy ties may n = λ k t. waits_tied (after c (rec.Stopped site cause) p).epochs k t
call_steps c p (rec.Leave site e) tidy ties may n = tt
call_steps c p (rec.Join site e members) tidy ties may n = tt
call_steps c p (rec.Start e group copies) tidy ties may n = tt
call_steps c p (rec.Accept site process id words) tidy ties may n = call_later p.epochs (after c (rec.Accept site process id words) p).epochs (later_next c p (rec.Accept site process id words) tidy may)
    (begun_call p site process id words (beginning (table p site process) (site_at p site).epoch id words)) (begun_tied p ties site process id words)
call_steps c p (rec.Look e id request f w result) tidy ties may n = λ k answers t. answers_tied p.epochs k answers t
call_steps c p (rec.Grant e id request i m f stamp ss) tidy ties may n = absurd n
call_steps c p (rec.Refuse e id request i m f why) tidy ties may n = λ k answers t. answers_tied (after c (rec.Refuse e id request i m f why) p).epochs k answers t
call_steps c p (rec.Act e i m o result) tidy ties may n = λ k answers t. answers_tied (after c (rec.Act e i m o result) p).epochs k answers t
call_steps c p (rec.Commit f site stamp parents content) tidy ties may n = tt
call_steps c p (rec.Release e i f stamp) tidy ties may n = λ k answers t. answers_tied (after c (rec.Release e i f stamp) p).epochs k answers t
call_steps c p (rec.Adopt f site stamp) tidy ties may n = tt
call_steps c p (rec.Answer site process id r) tidy ties may n = λ k t. waits_tied (after c (rec.Answer site process id r) p).epochs k t
call_steps c p (rec.Packet number from to kind) tidy ties may n = tt
call_steps c p rec.Void tidy ties may n = tt
call_steps c p rec.Budget tidy ties may n = tt

abbrev OldTied : Config → Past → Record → Type 0
OldTied c p r = AllByRecursion (CallTied (after c r p).epochs) p.calls

old_tied : (c : Config) (p : Past) (r : Record) → IsTidy c p → TiesStand p → may_follow c p r ≡ true → OldTied c p r
old_tied c p r tidy ties may = each_more (CallTied p.epochs) (CallTied (after c r p).epochs) (call_later p.epochs (after c r p).epochs (later_next c p r tidy may)) p.calls ties.calls

not_grant : (c : Config) (p : Past) (r : Record) → IsTidy c p → TiesStand p → may_follow c p r ≡ true → IsNoGrant r → AllByRecursion (CallTied (after c r p).epochs) (after c r p).calls
not_grant c p r tidy ties may n = calls_each (CallTied (after c r p).epochs) c p r tidy may (call_steps c p r tidy ties may n) (old_tied c p r tidy ties may)

pub tied_calls : (c : Config) (p : Past) (r : Record) → IsTidy c p → TiesStand p → may_follow c p r ≡ true → AllByRecursion (CallTied (after c r p).epochs) (after c r p).calls
tied_calls c p (rec.Grant e id request i m f stamp ss) tidy ties may = each_more P (CallTied new) (λ k h. h.0) (after c (rec.Grant e id request i m f stamp ss) p).calls
    (calls_each P c p (rec.Grant e id request i m f stamp ss) tidy may (λ k steady answers is t. (granted_tied k steady answers is t, t.1))
    (each_both (CallTied new) (λ (k : CallSoFar). k.id ≡ id → is_in k.epoch e ≡ true) P (λ k a b. (a, b)) p.calls (old_tied c p (rec.Grant e id request i m f stamp ss) tidy ties may) (granted_calls c p e id request i m f stamp ss tidy ties may)))
  where
    new : List Epoch
    new = (after c (rec.Grant e id request i m f stamp ss) p).epochs

    P : CallSoFar → Type 0
    P k = CallTied new k × (k.id ≡ id → is_in k.epoch e ≡ true)

    granted_tied : (k : CallSoFar) (steady : Option OneVersion) (answers : List Answer) → k.id ≡ id → P k → CallTied new (record k { granted = Some (record { mode = m; epoch = e; inst = i; steady = steady }); answers = answers })
    granted_tied k steady answers is t = record {
      epoch = t.0.epoch;
      granted = λ d h. subst (λ (x : Descriptor). is_in k.epoch x.epoch ≡ true) (some_same (record { mode = m; epoch = e; inst = i; steady = steady }) d h) (t.1 is);
      has_it = λ d h. subst (λ (x : Descriptor). has_epoch (has_granted x.inst k.id) x.epoch new ≡ true) (some_same (record { mode = m; epoch = e; inst = i; steady = steady }) d h) (subst (λ (x : CallId). has_epoch (has_granted i x) e new ≡ true) (sym is) (grant_there c p e id request i m f stamp ss tidy ties may));
      within = t.0.within;
      uses = t.0.uses;
    }
tied_calls c p (rec.Up site boot) tidy ties may = not_grant c p (rec.Up site boot) tidy ties may tt
tied_calls c p (rec.Stopped site cause) tidy ties may = not_grant c p (rec.Stopped site cause) tidy ties may tt
tied_calls c p (rec.Leave site e) tidy ties may = not_grant c p (rec.Leave site e) tidy ties may tt
tied_calls c p (rec.Join site e members) tidy ties may = not_grant c p (rec.Join site e members) tidy ties may tt
tied_calls c p (rec.Start e group copies) tidy ties may = not_grant c p (rec.Start e group copies) tidy ties may tt
tied_calls c p (rec.Accept site process id words) tidy ties may = not_grant c p (rec.Accept site process id words) tidy ties may tt
tied_calls c p (rec.Look e id request f w result) tidy ties may = not_grant c p (rec.Look e id request f w result) tidy ties may tt
tied_calls c p (rec.Refuse e id request i m f why) tidy ties may = not_grant c p (rec.Refuse e id request i m f why) tidy ties may tt
tied_calls c p (rec.Act e i m o result) tidy ties may = not_grant c p (rec.Act e i m o result) tidy ties may tt
tied_calls c p (rec.Commit f site stamp parents content) tidy ties may = not_grant c p (rec.Commit f site stamp parents content) tidy ties may tt
tied_calls c p (rec.Release e i f stamp) tidy ties may = not_grant c p (rec.Release e i f stamp) tidy ties may tt
tied_calls c p (rec.Adopt f site stamp) tidy ties may = not_grant c p (rec.Adopt f site stamp) tidy ties may tt
tied_calls c p (rec.Answer site process id r) tidy ties may = not_grant c p (rec.Answer site process id r) tidy ties may tt
tied_calls c p (rec.Packet number from to kind) tidy ties may = not_grant c p (rec.Packet number from to kind) tidy ties may tt
tied_calls c p rec.Void tidy ties may = not_grant c p rec.Void tidy ties may tt
tied_calls c p rec.Budget tidy ties may = not_grant c p rec.Budget tidy ties may tt
