-- On which file an instance of an epoch was granted: one file, by the records and by the value that they tell.
use Rattle.std.proofs.Common.{◌≡◌, ℕ, ◌==◌, Bool, true, false, cond, ◌&&◌, List, [], ◌∷◌, ◌++◌, reverse, Option, Some, None, refl, sym, ◌∙◌, ap, subst, inl, inr}
use Rattle.std.specs.List.{AllByRecursion}
use Rattle.std.proofs.lemmas.List.{reverse-append}
use Rattle.locus_ids.specs.declared.config.Config.{Config}
use Rattle.locus_ids.specs.declared.ids.CallId.{CallId}
use Rattle.locus_ids.specs.declared.ids.EpochId.{EpochId}
use Rattle.locus_ids.specs.declared.ids.FileId.{FileId}
use Rattle.locus_ids.specs.declared.ids.Mode.{Mode}
use Rattle.locus_ids.specs.declared.ids.Serial.{Serial}
use Rattle.locus_ids.specs.declared.ids.Stamp.{Stamp}
use Rattle.commit_graph.specs.declared.history.Version.{Version}
use Rattle.trace_book.specs.Same.{same_epoch, same_serial}
use Rattle.trace_book.specs.declared.entry.Entry.{Entry}
use Rattle.trace_book.specs.declared.record.Record.{Record}
use Rattle.trace_book.specs.declared.record.Record.TheVariants as says
use Rattle.the_run.specs.Kept.{Among}
use Rattle.tree_model.specs.declared.instance.Granted.{Granted}
use Rattle.tree_model.specs.Calls.{granted_to}
use Rattle.tree_model.specs.Folds.{Trace, over}
use Rattle.tree_model.specs.Histories.{history}
use Rattle.tree_model.specs.State.{TreeState, is_granted_here, is_make}
use Rattle.tree_model.specs.Tree.{next, tree_of, joined, left, granted, grant_of}
use Rattle.lawful_trace.specs.Lawful.{MayCome}
use Rattle.promises.specs.Past.{Past, epoch_at}
use Rattle.past_laws.specs.Agreement.{Agrees}
use Rattle.past_laws.specs.Along.{EachComesSo}
use Rattle.past_laws.proofs.Names.{none_some, both, epoch_eq, epoch_own, serial_eq, serial_own}
use Rattle.past_laws.proofs.CallsGranted.{With, either, tree_epoch, grant_is_new}
use Rattle.past_laws.proofs.CallsLists.{each_more, each_added}

abbrev pub file_after : Record → EpochId → Serial → Option FileId → Option FileId
file_after (says.Grant at call request inst m f stamp ss) e i old = cond (same_epoch at e && same_serial inst i) (Some f) old
file_after _ e i old = old

-- the file on which the instance was granted last
abbrev pub granted_on : Trace → EpochId → Serial → Option FileId
granted_on trace e i = over None (λ r before old. file_after r.what e i old) trace

-- it was granted to a call then
to_call : (n : ℕ) (r : Record) (before : Trace) (e : EpochId) (i : Serial) (f : FileId) → (granted_on before e i ≡ Some f → (d : CallId) × (granted_to before e i ≡ Some d)) → granted_on (With n r before) e i ≡ Some f → (d : CallId) × (granted_to (With n r before) e i ≡ Some d)
to_call n (says.Grant at call request inst m g stamp ss) before e i f later h = at_it (same_epoch at e && same_serial inst i) h
  where
    at_it : (b : Bool) → cond b (Some g) (granted_on before e i) ≡ Some f → (d : CallId) × (cond b (Some call) (granted_to before e i) ≡ Some d)
    at_it true k = (call, refl)
    at_it false k = later k
to_call n _ before e i f later h = later h

pub granted_call : (trace : Trace) (e : EpochId) (i : Serial) (f : FileId) → granted_on trace e i ≡ Some f → (d : CallId) × (granted_to trace e i ≡ Some d)
granted_call [] e i f h = none_some f h
granted_call (r ∷ before) e i f h = to_call r.line r.what before e i f (granted_call before e i f) h

-- so it is the file of it for good
on_stays : (c : Config) (n : ℕ) (r : Record) (before : Trace) (e : EpochId) (i : Serial) (f : FileId) → MayCome c before r → granted_on before e i ≡ Some f → granted_on (With n r before) e i ≡ Some f
on_stays c n (says.Grant at call request inst m g stamp ss) before e i f may h = at_it (same_epoch at e) (same_serial inst i) refl refl
  where
    at_it : (a b : Bool) → same_epoch at e ≡ a → same_serial inst i ≡ b → cond (a && b) (Some g) (granted_on before e i) ≡ Some f
    at_it true true p q = (let d = granted_call before e i f h in absurd (grant_is_new c before at call request inst m g stamp ss d.0 may (ap (λ (x : EpochId). granted_to before x inst) (epoch_eq at e p) ∙ (ap (granted_to before e) (serial_eq inst i q) ∙ d.1))))
    at_it true false p q = h
    at_it false b p q = h
on_stays c n _ before e i f may h = h

-- as a grant record says
pub grant_told : (c : Config) (trace : Trace) → EachComesSo c trace → (line : ℕ) (e : EpochId) (call : CallId) (request : ℕ) (i : Serial) (m : Mode) (f : FileId) (stamp : Option Stamp) (ss : ℕ) → Among (record { line = line; what = says.Grant e call request i m f stamp ss }) trace → granted_on trace e i ≡ Some f
grant_told c [] k line e call request i m f stamp ss a = absurd a
grant_told c (r ∷ before) k line e call request i m f stamp ss (inl same) = subst (λ (x : Entry). granted_on (x ∷ before) e i ≡ Some f) same own
  where
    own : cond (same_epoch e e && same_serial i i) (Some f) (granted_on before e i) ≡ Some f
    own = ap (λ (b : Bool). cond b (Some f) (granted_on before e i)) (both (same_epoch e e) (same_serial i i) (epoch_own e) (serial_own i))
grant_told c (r ∷ before) k line e call request i m f stamp ss (inr later) = on_stays c r.line r.what before e i f k.0.row (grant_told c before k.1 line e call request i m f stamp ss later)

-- ---- as the trees have it ----

abbrev AreOn : Trace → EpochId → List Granted → Type 0
AreOn trace e gs = AllByRecursion (λ (g : Granted). granted_on trace e g.inst ≡ Some g.file) gs

abbrev IsNoGrant : Record → Type 0
IsNoGrant (says.Grant e id request i m f stamp ss) = ⊥
IsNoGrant _ = Unit {0}

-- other records leave the grants
grants_stay : (h : List Version) (r : Record) (t : TreeState) → IsNoGrant r → (next h r t).grants ≡ t.grants
grants_stay h (says.Grant e call request i m f stamp ss) t other = absurd other
grants_stay h (says.Join s e m) t other = either (λ (x : TreeState). x.grants) (same_epoch e t.epoch) (joined s m t) (left s t) t refl refl
grants_stay h (says.Start e group copies) t other = either (λ (x : TreeState). x.grants) (same_epoch e t.epoch && (group == t.group)) _ _ t refl refl
grants_stay h (says.Refuse e call request i m f why) t other = either (λ (x : TreeState). x.grants) (same_epoch e t.epoch && ((f.group == t.group) && is_make m)) _ _ t refl refl
grants_stay h (says.Act e i n o result) t other = either (λ (x : TreeState). x.grants) (same_epoch e t.epoch && is_granted_here t i) _ _ t refl refl
grants_stay h (says.Release e i f stamp) t other = either (λ (x : TreeState). x.grants) (same_epoch e t.epoch && (f.group == t.group)) _ _ t refl refl
grants_stay h _ t other = refl

on_more : (c : Config) (e : EpochId) (group n : ℕ) (r : Record) (before : Trace) → MayCome c before r → AreOn before e (tree_of c e group before).grants → AreOn (With n r before) e (tree_of c e group (With n r before)).grants
on_more c e group n (says.Grant at call request inst m f stamp ss) before may k = over (same_epoch at t.epoch) refl
  where
    t : TreeState
    t = tree_of c e group before

    old : AreOn (With n (says.Grant at call request inst m f stamp ss) before) e t.grants
    old = each_more (λ (g : Granted). granted_on before e g.inst ≡ Some g.file) (λ (g : Granted). granted_on (With n (says.Grant at call request inst m f stamp ss) before) e g.inst ≡ Some g.file) (λ g h. on_stays c n (says.Grant at call request inst m f stamp ss) before e g.inst g.file may h) t.grants k

    new : same_epoch at t.epoch ≡ true → cond (same_epoch at e && same_serial inst inst) (Some f) (granted_on before e inst) ≡ Some f
    new h = ap (λ (b : Bool). cond b (Some f) (granted_on before e inst)) (both (same_epoch at e) (same_serial inst inst) (ap (same_epoch at) (sym (tree_epoch c e group before)) ∙ h) (serial_own inst))

    over : (b : Bool) → same_epoch at t.epoch ≡ b → AreOn (With n (says.Grant at call request inst m f stamp ss) before) e (cond b (granted (history c before) (grant_of t call inst m f ss) stamp t) t).grants
    over true h = each_added (λ (g : Granted). granted_on (With n (says.Grant at call request inst m f stamp ss) before) e g.inst ≡ Some g.file) t.grants (grant_of t call inst m f ss) old (new h)
    over false h = old
on_more c e group n r before may k = subst (AreOn (With n r before) e) (sym (grants_stay (history c before) r (tree_of c e group before) tt)) (each_more (λ (g : Granted). granted_on before e g.inst ≡ Some g.file) (λ (g : Granted). granted_on (With n r before) e g.inst ≡ Some g.file) (λ g h. on_stays c n r before e g.inst g.file may h) (tree_of c e group before).grants k)

trees_on : (c : Config) (e : EpochId) (group : ℕ) (trace : Trace) → EachComesSo c trace → AreOn trace e (tree_of c e group trace).grants
trees_on c e group [] k = tt
trees_on c e group (r ∷ before) k = on_more c e group r.line r.what before k.0.row (trees_on c e group before k.1)

-- ---- as the value has it ----

each_front : {X : Type 0} (P : X → Type 0) (xs : List X) (y : X) → AllByRecursion P (xs ++ y ∷ []) → AllByRecursion P xs × P y
each_front P [] y k = (tt, k.0)
each_front P (x ∷ xs) y k = (let later = each_front P xs y k.1 in ((k.0, later.0), later.1))

each_turned : {X : Type 0} (P : X → Type 0) (xs : List X) → AllByRecursion P (reverse xs) → AllByRecursion P xs
each_turned P [] k = tt
each_turned P (x ∷ xs) k = (let parts = each_front P (reverse xs) x (subst (AllByRecursion P) (reverse-append (x ∷ []) xs) k) in (parts.1, each_turned P xs parts.0))

pub value_on : (c : Config) (trace : Trace) (p : Past) → EachComesSo c trace → Agrees c trace p → (e : EpochId) → AllByRecursion (λ (g : Granted). granted_on trace e g.inst ≡ Some g.file) (epoch_at p e).granted
value_on c trace p k a e = each_turned (λ (g : Granted). granted_on trace e g.inst ≡ Some g.file) (epoch_at p e).granted (subst (AreOn trace e) (sym (a.trees.granted e 0)) (trees_on c e 0 trace k))
