-- The operations of an open instance are counted: there have been no more of them than records.
use Rattle.std.proofs.Common.{◌≡◌, ◌≤◌, ℕ, ◌+◌, ◌==◌, Bool, true, false, cond, not, ◌&&◌, List, [], ◌∷◌, ◌++◌, filter, length, Option, Some, None, refl, sym, subst, arith}
use Rattle.std.proofs.lemmas.Bool.Decides.{nat_tests}
use Rattle.std.specs.List.{AllByRecursion, list_any}
use Rattle.std.specs.Prelude.{fold}
use Rattle.plain_facts.proofs.Numbers.{equal}
use Rattle.plain_facts.proofs.Tests.{both_true}
use Rattle.locus_ids.specs.declared.config.Config.{Config}
use Rattle.locus_ids.specs.declared.ids.EpochId.{EpochId}
use Rattle.locus_ids.specs.declared.ids.Serial.{Serial}
use Rattle.locus_ids.specs.declared.ids.Stamp.{Stamp}
use Rattle.locus_ids.specs.declared.sites.Members.{Members}
use Rattle.trace_book.specs.Same.{same_call}
use Rattle.trace_book.specs.declared.operation.Op.{Op}
use Rattle.trace_book.specs.declared.operation.Op.TheVariants as op
use Rattle.trace_book.specs.declared.operation.Outcome.{Outcome}
use Rattle.trace_book.specs.declared.record.Record.{Record}
use Rattle.trace_book.specs.declared.record.Record.TheVariants as rec
use Rattle.trace_book.specs.declared.descriptor.Descriptor.{Descriptor}
use Rattle.trace_book.specs.declared.reply.Reply.{Reply}
use Rattle.trace_book.specs.declared.reply.Reply.TheVariants as reply
use Rattle.call_rules.specs.Descriptors.{beginning}
use Rattle.call_rules.specs.declared.want.Want.TheVariants as want
use Rattle.file_effects.specs.Effects.{Effect, is_refusal}
use Rattle.file_effects.specs.Works.{carried_out, committed, counted}
use Rattle.tree_model.specs.declared.instance.Granted.{Granted}
use Rattle.tree_model.specs.Epochs.{is_in}
use Rattle.tree_model.specs.Folds.{Trace}
use Rattle.tree_model.specs.Same.{is_given}
use Rattle.tree_model.specs.State.{is_make}
use Rattle.tree_model.specs.Working.{operated_by}
use Rattle.promises.specs.Past.{CallSoFar, Epoch, Instance, Make, Past, acts, epoch_at, first_or, is_named, is_number, is_writer, site_at, table, unformed}
use Rattle.promises.specs.After.{acted, answered, begun_call, change, close_answer, is_ender, is_epoch, is_home_of, is_id, named_by, once_named, opened_as, process_of, released, replied_to, told_by, uses, with_all_known, with_epoch}
use Rattle.promises.specs.Rows.{is_asked, may_act}
use Rattle.promises.specs.Tree.{effect_on, result_on, work_after}
use Rattle.past_laws.specs.Agreement.{past}
use Rattle.past_laws.proofs.Changing.{Finds, any_finds}
use Rattle.past_laws.proofs.CallsLists.{each_added, each_changed, each_filter, each_found, each_mapped, each_more}
use Rattle.record_reading.specs.Ranges.{is_counted}

abbrev Low : ℕ → Instance → Type 0
Low m x = x.work.ops ≤ m

abbrev EpochLow : ℕ → Epoch → Type 0
EpochLow m t = AllByRecursion (Low m) t.opened

-- each open instance of each epoch has had so many operations at most
abbrev OpsLow : ℕ → List Epoch → Type 0
OpsLow m epochs = AllByRecursion (EpochLow m) epochs

-- ---- lists ----

more_opened : (m n : ℕ) → m ≤ n → (xs : List Instance) → AllByRecursion (Low m) xs → AllByRecursion (Low n) xs
more_opened m n le xs h = each_more (Low m) (Low n) (λ x k. within x.work.ops k) xs h
  where
    within : (ops : ℕ) → ops ≤ m → ops ≤ n
    within ops k = omega (arith, k, le)

more_epochs : (m n : ℕ) → m ≤ n → (epochs : List Epoch) → OpsLow m epochs → OpsLow n epochs
more_epochs m n le epochs h = each_more (EpochLow m) (EpochLow n) (λ t k. more_opened m n le t.opened k) epochs h

changed_low : (m n : ℕ) → m ≤ n → (which : Epoch → Bool) (f : Epoch → Epoch) → ((t : Epoch) → EpochLow m t → EpochLow n (f t)) → (epochs : List Epoch) → OpsLow m epochs → OpsLow n (change which f epochs)
changed_low m n le which f go epochs h = each_changed (EpochLow m) (EpochLow n) which f (λ t e k. go t k) (λ t e k. more_opened m n le t.opened k) epochs h

-- ---- works ----

-- an operation is one more
work_low : (m : ℕ) (p : Past) (t : Epoch) (o : Op) (result : Outcome) (x : Instance) → Low m x → (work_after p t o result x).ops ≤ m + 1
work_low m p t op.Commit result x h = omega (arith, h)
work_low m p t op.Abort result x h = omega (arith, h)
work_low m p t o result x h = by_effect (effect_on p t o x)
  where
    by_refusal : (e : Effect) (b : Bool) → (cond b (counted x.work) (carried_out e x.work)).ops ≤ m + 1
    by_refusal e true = omega (arith, h)
    by_refusal e false = omega (arith, h)

    by_effect : (e : Option Effect) → (operated_by result e x.work).ops ≤ m + 1
    by_effect None = omega (arith, h)
    by_effect (Some e) = by_refusal e (is_refusal result)

-- ---- records ----

joined_low : (m : ℕ) (e : EpochId) (members : Members) (p : Past) → OpsLow m p.epochs → OpsLow m (with_epoch e members p).epochs
joined_low m e members p h = over (list_any (is_epoch e) p.epochs)
  where
    over : (b : Bool) → OpsLow m (cond b p (record p { epochs = record (unformed e) { members = members } ∷ p.epochs })).epochs
    over true = h
    over false = (tt, h)

-- what calls are answered changes no epoch
ended_same : (which : CallSoFar → Bool) (stamp : Option Stamp) (xs : List Instance) (p : Past) → (fold (λ old x. answered which (close_answer stamp x) old) p xs).epochs ≡ p.epochs
ended_same which stamp [] p = refl
ended_same which stamp (x ∷ xs) p = ended_same which stamp xs (answered which (close_answer stamp x) p)

-- what changes the instances that pass, but for their operations, leaves these as few
kept_low : (m : ℕ) (which : Instance → Bool) (f : Instance → Instance) → ((x : Instance) → Low m x → Low m (f x)) → (xs : List Instance) → AllByRecursion (Low m) xs → AllByRecursion (Low m) (change which f xs)
kept_low m which f go xs h = each_changed (Low m) (Low m) which f (λ x e q. go x q) (λ x e q. q) xs h

once_low : (m : ℕ) (r : Reply) (x : Instance) → Low m x → Low m (once_named r x)
once_low m (reply.Data bytes) x h = h
once_low m _ x h = h

replied_low : (m : ℕ) (r : Reply) (k : CallSoFar) (p : Past) → OpsLow m p.epochs → OpsLow m (replied_to r k p).epochs
replied_low m r k p h = each_mapped (EpochLow m) (EpochLow m) _
    (λ t low. kept_low m (λ (x : Instance). list_any (λ (d : Descriptor). is_in (Some d.epoch) t.id && is_named d.inst x) (named_by r k)) (once_named r) (once_low m r) t.opened low) p.epochs h

all_replied_low : (m : ℕ) (r : Reply) (ks : List CallSoFar) (p : Past) → OpsLow m p.epochs → OpsLow m (fold (λ old k. replied_to r k old) p ks).epochs
all_replied_low m r [] p h = h
all_replied_low m r (k ∷ ks) p h = all_replied_low m r ks (replied_to r k p) (replied_low m r k p h)

-- an epoch whose open instances stay
same_low : (m : ℕ) (t : Epoch) → EpochLow m t → EpochLow (m + 1) t
same_low m t low = more_opened m (m + 1) (omega arith) t.opened low

told_low : (c : Config) (m : ℕ) (w : Record) (p : Past) → OpsLow m p.epochs → OpsLow (m + 1) (told_by c w p).epochs
told_low c m (rec.Up site boot) p h = more_epochs m (m + 1) (omega arith) p.epochs h
told_low c m (rec.Stopped site cause) p h = changed_low m (m + 1) (omega arith) (is_home_of p site) (λ (t : Epoch). record t { left = record { site = site; held = (site_at p site).held } ∷ t.left }) (λ t low. same_low m t low) p.epochs h
told_low c m (rec.Leave site e) p h = changed_low m (m + 1) (omega arith) (is_home_of p site) (λ (t : Epoch). record t { left = record { site = site; held = (site_at p site).held } ∷ t.left }) (λ t low. same_low m t low) p.epochs h
told_low c m (rec.Join site e members) p h =
    changed_low m (m + 1) (omega arith) (is_epoch e) (λ (t : Epoch). record t { joined = site ∷ t.joined; known = with_all_known (site_at p site).held t.known }) (λ t low. same_low m t low) (with_epoch e members p).epochs (joined_low m e members p h)
told_low c m (rec.Start e group copies) p h = changed_low m (m + 1) (omega arith) (is_epoch e) (λ (t : Epoch). record t { started = group ∷ t.started }) (λ t low. same_low m t low) p.epochs h
told_low c m (rec.Accept site process id words) p h = changed_low m (m + 1) (omega arith) (λ (t : Epoch). is_in k.epoch t.id) (λ (t : Epoch). record t { opened = change (uses k.begins k.words t.id) more t.opened })
    (λ t low. more_opened m (m + 1) (omega arith) (change (uses k.begins k.words t.id) more t.opened) (kept_low m (uses k.begins k.words t.id) more (λ x q. q) t.opened low)) p.epochs h
  where
    k : CallSoFar
    k = begun_call p site process id words (beginning (table p site process) (site_at p site).epoch id words)

    more : Instance → Instance
    more x = record x { uses = x.uses + 1 }
told_low c m (rec.Look e id request f w result) p h = more_epochs m (m + 1) (omega arith) p.epochs h
told_low c m (rec.Grant e id request i mode f stamp ss) p h = changed_low m (m + 1) (omega arith) (is_epoch e) (λ (t : Epoch). record t { granted = g ∷ t.granted; opened = t.opened ++ opened_as p g stamp ∷ [] })
    (λ t low. more_opened m (m + 1) (omega arith) (t.opened ++ opened_as p g stamp ∷ []) (each_added (Low m) t.opened (opened_as p g stamp) low (omega arith))) p.epochs h
  where
    g : Granted
    g = record { inst = i; call = id; process = process_of p id; mode = mode; file = f; ss = ss }
told_low c m (rec.Refuse e id request i mode f why) p h = changed_low m (m + 1) (omega arith) (is_epoch e) (λ (t : Epoch). record t { makes = filter (λ (k : Make). not (is_make mode && ((k.group == f.group) && same_call k.call id))) t.makes }) (λ t low. same_low m t low) p.epochs h
told_low c m (rec.Act e i n o result) p h = changed_low m (m + 1) (omega arith) (is_epoch e) (acted i o result p)
    (λ t low. each_changed (Low m) (Low (m + 1)) (is_named i) (λ (x : Instance). record x { work = work_after p t o result x }) (λ x k q. work_low m p t o result x q) (λ x k q. low_more x.work.ops q) t.opened low) p.epochs h
  where
    low_more : (ops : ℕ) → ops ≤ m → ops ≤ m + 1
    low_more ops q = omega (arith, q)
told_low c m (rec.Commit f site stamp parents content) p h = changed_low m (m + 1) (omega arith) (is_home_of p site) (λ (t : Epoch). record t { opened = change (is_writer f site) done t.opened })
    (λ t low. more_opened m (m + 1) (omega arith) (change (is_writer f site) done t.opened) (kept_low m (is_writer f site) done (λ x q. q) t.opened low)) p.epochs h
  where
    done : Instance → Instance
    done x = record x { work = committed stamp x.work }
told_low c m (rec.Release e i f stamp) p h = changed_low m (m + 1) (omega arith) (is_epoch e) (released i f stamp)
    (λ t low. more_opened m (m + 1) (omega arith) (filter (λ x. not (is_named i x)) t.opened) (each_filter (Low m) (λ x. not (is_named i x)) t.opened low)) ended (subst (OpsLow m) (sym same) h)
  where
    ended : List Epoch
    ended = (fold (λ old x. answered (is_ender (epoch_at p e) i) (close_answer stamp x) old) p (filter (is_named i) (epoch_at p e).opened)).epochs

    same : ended ≡ p.epochs
    same = ended_same (is_ender (epoch_at p e) i) stamp (filter (is_named i) (epoch_at p e).opened) p
told_low c m (rec.Adopt f site stamp) p h = more_epochs m (m + 1) (omega arith) p.epochs h
told_low c m (rec.Answer site process id r) p h = more_epochs m (m + 1) (omega arith) (fold (λ old k. replied_to r k old) p (filter (is_id id) p.calls)).epochs (all_replied_low m r (filter (is_id id) p.calls) p h)
told_low c m (rec.Packet number from to kind) p h = more_epochs m (m + 1) (omega arith) p.epochs h
told_low c m rec.Void p h = more_epochs m (m + 1) (omega arith) p.epochs h
told_low c m rec.Budget p h = more_epochs m (m + 1) (omega arith) p.epochs h

ops_low : (c : Config) (trace : Trace) → OpsLow (length trace) (past c trace).epochs
ops_low c [] = tt
ops_low c (r ∷ before) = more_epochs (length before + 1) (length (r ∷ before)) (omega arith) (told_by c r.what (past c before)).epochs (told_low c (length before) r.what (past c before) (ops_low c before))

-- ---- the number that an operation has ----

first_low : (m : ℕ) (e : EpochId) (epochs : List Epoch) → OpsLow m epochs → EpochLow m (first_or (unformed e) (is_epoch e) epochs)
first_low m e [] h = tt
first_low m e (t ∷ ts) h = over (is_epoch e t) (first_low m e ts h.1)
  where
    over : (b : Bool) → EpochLow m (first_or (unformed e) (is_epoch e) ts) → EpochLow m (cond b t (first_or (unformed e) (is_epoch e) ts))
    over true later = h.0
    over false later = later

counted_number : (n most : ℕ) → n ≤ most + 1 → 1 ≤ n → most ≤ 134217728 → is_counted n ≡ true
counted_number n most le low few = grind (arith, nat_tests)

pub act_counted : (c : Config) (before : Trace) (e : EpochId) (i : Serial) (n : ℕ) (o : Op) (result : Outcome) → length before ≤ 134217728 → may_act c (past c before) (epoch_at (past c before) e) i n o result ≡ true → is_counted n ≡ true
act_counted c before e i n o result few h = of (any_finds test t.opened h)
  where
    t : Epoch
    t = epoch_at (past c before) e

    rest : Instance → Bool
    rest x = is_number t.joined x.grant.ss && (is_given (result_on (past c before) t o x) result && is_asked c (past c before) t (acts t.id x n) (want.Do i o))

    test : Instance → Bool
    test x = is_named i x && ((n == x.work.ops + 1) && rest x)

    of : Finds test t.opened → is_counted n ≡ true
    of it =
        let low : it.one.work.ops ≤ length before = (each_found (Low (length before)) test t.opened it.one it.found (first_low (length before) e (past c before).epochs (ops_low c before))).0 in
        let number : n ≡ it.one.work.ops + 1 = equal n (it.one.work.ops + 1) (both_true (n == it.one.work.ops + 1) (rest it.one) (both_true (is_named i it.one) ((n == it.one.work.ops + 1) && rest it.one) it.passes).1).0 in
        counted_number n (length before) (omega (arith, low, number)) (omega (arith, number)) few
