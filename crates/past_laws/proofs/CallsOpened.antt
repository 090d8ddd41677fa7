-- What stands of the open instances of each epoch, where no call is accepted.
use Rattle.std.proofs.Common.{◌≡◌, ℕ, ◌≤◌, Bool, true, false, not, cond, ◌&&◌, List, [], ◌∷◌, ◌++◌, length, filter, Option, Some, refl, sym, ◌∙◌, ap, subst, arith}
use Rattle.std.specs.Prelude.{fold}
use Rattle.std.specs.List.{list_any}
use Rattle.locus_ids.specs.declared.config.Config.{Config}
use Rattle.locus_ids.specs.declared.sites.Members.{Members}
use Rattle.locus_ids.specs.declared.ids.CallId.{CallId}
use Rattle.locus_ids.specs.declared.ids.EpochId.{EpochId}
use Rattle.locus_ids.specs.declared.ids.Serial.{Serial}
use Rattle.locus_ids.specs.declared.ids.Mode.{Mode}
use Rattle.locus_ids.specs.declared.ids.FileId.{FileId}
use Rattle.locus_ids.specs.declared.ids.Stamp.{Stamp}
use Rattle.trace_book.specs.Same.{same_epoch, same_serial}
use Rattle.trace_book.specs.declared.descriptor.Descriptor.{Descriptor}
use Rattle.trace_book.specs.declared.record.Record.{Record}
use Rattle.trace_book.specs.declared.record.Record.TheVariants as says
use Rattle.tree_model.specs.of_file_effects.Works.{committed}
use Rattle.tree_model.specs.of_file_effects.declared.work.Work.{Work}
use Rattle.tree_model.specs.declared.instance.Granted.{Granted}
use Rattle.tree_model.specs.Calls.{granted_to}
use Rattle.tree_model.specs.Folds.{Trace}
use Rattle.promises.specs.of_lawful_trace.Lawful.{MayCome}
use Rattle.promises.specs.of_lawful_trace.Tables.{descriptor, use_number, is_call}
use Rattle.promises.specs.Past.{Past, Epoch, Instance, CallSoFar, Copy, Make, is_named, is_writer, epoch_at, unformed}
use Rattle.promises.specs.Tree.{work_after}
use Rattle.promises.specs.After.{is_epoch, is_home_of, change, told_by, answered, is_ender, close_answer, opened_as, process_of, acted, released, with_epoch}
use Rattle.past_laws.specs.Agreement.{Agrees, SaysGiven}
use Rattle.past_laws.specs.Standing.{CallStands, HasTurn, InstanceStands, EpochStands, IsUntouched}
use Rattle.past_laws.proofs.Names.{false_true, epoch_eq, epoch_test, serial_eq, serial_test}
use Rattle.past_laws.proofs.CallsLists.{each_more, each_filter, each_added, each_changed, many_changed, many_left, none_pass}
use Rattle.past_laws.proofs.CallsGranted.{With, grant_is_new}
use Rattle.past_laws.proofs.CallsSame.{IsNoAccept}
use Rattle.past_laws.proofs.CallsReplies.{AllStand, not_used, replies_stand}
use Rattle.past_laws.proofs.CallsInstances.{stays, LeavesNames, turns_same}

-- ---- an epoch of which other parts change ----

epoch_stays : (c : Config) (n : ℕ) (w : Record) (before : Trace) (p : Past) → LeavesNames w → MayCome c before w → (t : Epoch) → EpochStands before p.calls t → EpochStands (With n w before) (told_by c w p).calls t
epoch_stays c n w before p left may t st = record {
  instances = each_more (InstanceStands before p.calls t.id) (InstanceStands (With n w before) (told_by c w p).calls t.id) (λ x k. stays c n w before p left may t.id x k) t.opened st.instances;
  single = st.single;
}

all_stay : (c : Config) (n : ℕ) (w : Record) (before : Trace) (p : Past) → LeavesNames w → MayCome c before w → Agrees c before p → AllStand (With n w before) (told_by c w p).calls p.epochs
all_stay c n w before p left may a = each_more (EpochStands before p.calls) (EpochStands (With n w before) (told_by c w p).calls) (λ t st. epoch_stays c n w before p left may t st) p.epochs a.calls.instances

-- those that pass are changed, in what has no part in it
all_changed : (c : Config) (n : ℕ) (w : Record) (before : Trace) (p : Past) → LeavesNames w → MayCome c before w → (which : Epoch → Bool) (f : Epoch → Epoch)
    → ((t : Epoch) → EpochStands (With n w before) (told_by c w p).calls t → EpochStands (With n w before) (told_by c w p).calls (f t)) → (ts : List Epoch)
    → AllStand before p.calls ts → AllStand (With n w before) (told_by c w p).calls (change which f ts)
all_changed c n w before p left may which f same ts k = each_changed (EpochStands before p.calls) (EpochStands (With n w before) (told_by c w p).calls) which f
    (λ t e st. same t (epoch_stays c n w before p left may t st)) (λ t e st. epoch_stays c n w before p left may t st) ts k

-- an instance's work is another
work_stands : (trace : Trace) (calls : List CallSoFar) (e : EpochId) (x : Instance) (now : Work) → InstanceStands trace calls e x → InstanceStands trace calls e (record x { work = now })
work_stands trace calls e x now st = record { granted = st.granted; uses = st.uses; first = st.first; named = st.named; unnamed = st.unnamed; undescribed = st.undescribed; turns = st.turns }

works_stand : (trace : Trace) (calls : List CallSoFar) (t : Epoch) (q : Instance → Bool) (now : Instance → Work) → EpochStands trace calls t → EpochStands trace calls (record t { opened = change q (λ (x : Instance). record x { work = now x }) t.opened })
works_stand trace calls t q now st = record {
  instances = each_changed (InstanceStands trace calls t.id) (InstanceStands trace calls t.id) q (λ (x : Instance). record x { work = now x }) (λ x e k. work_stands trace calls t.id x (now x) k) (λ x e k. k) t.opened st.instances;
  single = λ i. (let same : length (filter (is_named i) (change q (λ (x : Instance). record x { work = now x }) t.opened)) ≡ length (filter (is_named i) t.opened) = many_changed (is_named i) q (λ (x : Instance). record x { work = now x }) (λ x. refl) t.opened in
      let few : length (filter (is_named i) t.opened) ≤ 1 = st.single i in subst (λ (m : ℕ). m ≤ 1) (sym same) few);
}

-- ---- joins ----

join_stands : (c : Config) (n s : ℕ) (e : EpochId) (members : Members) (before : Trace) (p : Past) → MayCome c before (says.Join s e members) → Agrees c before p → AllStand (With n (says.Join s e members) before) (told_by c (says.Join s e members) p).calls (told_by c (says.Join s e members) p).epochs
join_stands c n s e members before p may a = all_changed c n (says.Join s e members) before p tt may (is_epoch e) _ (λ t st. record { instances = st.instances; single = st.single }) (with_epoch e members p).epochs (over (list_any (is_epoch e) p.epochs))
  where
    over : (b : Bool) → AllStand before p.calls (cond b p (record p { epochs = record (unformed e) { members = members } ∷ p.epochs })).epochs
    over true = a.calls.instances
    over false = (record { instances = tt; single = λ i. omega arith }, a.calls.instances)

-- ---- grants ----

-- an instance as it is granted
new_stands : (c : Config) (n : ℕ) (e : EpochId) (call : CallId) (request : ℕ) (i : Serial) (m : Mode) (f : FileId) (stamp : Option Stamp) (ss : ℕ) (before : Trace) (p : Past) (g : Granted) → MayCome c before (says.Grant e call request i m f stamp ss) → Agrees c before p
    → g.inst ≡ i → g.call ≡ call → (at : EpochId) → at ≡ e → InstanceStands (With n (says.Grant e call request i m f stamp ss) before) (told_by c (says.Grant e call request i m f stamp ss) p).calls at (opened_as p g stamp)
new_stands c n e call request i m f stamp ss before p g may a is_i of_call at is_e = record {
  granted = granted;
  uses = ap length (sym unused.unused);
  first = λ h. false_true h;
  named = λ h. false_true h;
  unnamed = λ h. record { unused = unused.unused; unclosed = unused.unclosed };
  undescribed = λ h s q fd y stands y_e y_i. undescribed s q fd y stands y_e y_i;
  turns = turns_same c n (says.Grant e call request i m f stamp ss) before p at (opened_as p g stamp) tt refl (each_more (CallStands before) (HasTurn before at (opened_as p g stamp)) turn p.calls a.calls.stand);
}
  where
    granted : cond (same_epoch e at && same_serial i g.inst) (Some call) (granted_to before at g.inst) ≡ Some g.call
    granted = ap (λ (b : Bool). cond (b && same_serial i g.inst) (Some call) (granted_to before at g.inst)) (epoch_test e at (sym is_e)) ∙ (ap (λ (b : Bool). cond b (Some call) (granted_to before at g.inst)) (serial_test i g.inst (sym is_i)) ∙ ap Some (sym of_call))

    never : (d : CallId) → granted_to before at g.inst ≡ Some d → ⊥
    never d h = grant_is_new c before e call request i m f stamp ss d may (ap (λ (z : EpochId). granted_to before z i) (sym is_e) ∙ (ap (granted_to before at) (sym is_i) ∙ h))

    unused : IsUntouched before at g.inst
    unused = a.calls.users.untouched at g.inst (λ d h. absurd (never d h))

    undescribed : (s q fd : ℕ) (y : Descriptor) → descriptor before s q fd ≡ Some y → y.epoch ≡ at → y.inst ≡ g.inst → ⊥
    undescribed s q fd y stands y_e y_i = (let k = a.calls.users.stands s q fd y stands in never k.call (ap (λ (z : EpochId). granted_to before z g.inst) (sym y_e) ∙ (ap (granted_to before y.epoch) (sym y_i) ∙ k.granted)))

    turn : (k : CallSoFar) → CallStands before k → HasTurn before at (opened_as p g stamp) k
    turn k st m = not_used before k at g.inst m st unused.unused ∙ ap (λ (us : List CallId). is_call (use_number us m) k.id) (sym unused.unused)

-- an epoch with one instance more, which it didn't have
grant_stands : (c : Config) (n : ℕ) (e : EpochId) (call : CallId) (request : ℕ) (i : Serial) (m : Mode) (f : FileId) (stamp : Option Stamp) (ss : ℕ) (before : Trace) (p : Past) (g : Granted) → MayCome c before (says.Grant e call request i m f stamp ss) → Agrees c before p
    → g.inst ≡ i → g.call ≡ call → (t : Epoch) → t.id ≡ e → EpochStands before p.calls t
    → EpochStands (With n (says.Grant e call request i m f stamp ss) before) (told_by c (says.Grant e call request i m f stamp ss) p).calls (record t { granted = g ∷ t.granted; opened = t.opened ++ opened_as p g stamp ∷ [] })
grant_stands c n e call request i m f stamp ss before p g may a is_i of_call t is_e st = record {
  instances = each_added (InstanceStands (With n (says.Grant e call request i m f stamp ss) before) (told_by c (says.Grant e call request i m f stamp ss) p).calls t.id) t.opened (opened_as p g stamp)
      (epoch_stays c n (says.Grant e call request i m f stamp ss) before p tt may t st).instances (new_stands c n e call request i m f stamp ss before p g may a is_i of_call t.id is_e);
  single = λ j. over j (same_serial g.inst j) refl;
}
  where
    other : (j : Serial) → same_serial g.inst j ≡ true → (x : Instance) → InstanceStands before p.calls t.id x → is_named j x ≡ false
    other j h x k = at (same_serial x.grant.inst j) refl
      where
        at : (b : Bool) → same_serial x.grant.inst j ≡ b → b ≡ false
        at true q = absurd (grant_is_new c before e call request i m f stamp ss x.grant.call may (ap (λ (z : EpochId). granted_to before z i) (sym is_e) ∙ (ap (granted_to before t.id) (sym is_i ∙ (serial_eq g.inst j h ∙ sym (serial_eq x.grant.inst j q))) ∙ k.granted)))
        at false q = refl

    added : (q : Instance → Bool) (xs : List Instance) (y : Instance) → filter q (xs ++ y ∷ []) ≡ filter q xs ++ filter q (y ∷ [])
    added q [] y = refl
    added q (x ∷ xs) y = in_place (q x) (added q xs y)
      where
        in_place : (b : Bool) → filter q (xs ++ y ∷ []) ≡ filter q xs ++ filter q (y ∷ []) → cond b (x ∷ filter q (xs ++ y ∷ [])) (filter q (xs ++ y ∷ [])) ≡ cond b (x ∷ filter q xs) (filter q xs) ++ filter q (y ∷ [])
        in_place true later = ap (λ (ys : List Instance). x ∷ ys) later
        in_place false later = later

    none : (j : Serial) → same_serial g.inst j ≡ true → filter (is_named j) t.opened ≡ []
    none j h = none_pass (is_named j) t.opened (each_more (InstanceStands before p.calls t.id) (λ (x : Instance). is_named j x ≡ false) (other j h) t.opened st.instances)

    end_nil : (xs : List Instance) → xs ++ [] ≡ xs
    end_nil [] = refl
    end_nil (x ∷ xs) = ap (λ (ys : List Instance). x ∷ ys) (end_nil xs)

    one : (y : Instance) (xs : List Instance) → xs ≡ [] → length (xs ++ y ∷ []) ≤ 1
    one y xs h = rw h (omega arith)

    over : (j : Serial) (b : Bool) → same_serial g.inst j ≡ b → length (filter (is_named j) (t.opened ++ opened_as p g stamp ∷ [])) ≤ 1
    over j true h = rw (added (is_named j) t.opened (opened_as p g stamp), h) (one (opened_as p g stamp) (filter (is_named j) t.opened) (none j h))
    over j false h = rw (added (is_named j) t.opened (opened_as p g stamp), h) (rw (end_nil (filter (is_named j) t.opened)) (st.single j))

-- ---- releases ----

pub fold_epochs : (which : CallSoFar → Bool) (stamp : Option Stamp) (xs : List Instance) (p : Past) → (fold (λ (old : Past) (x : Instance). answered which (close_answer stamp x) old) p xs).epochs ≡ p.epochs
fold_epochs which stamp [] p = refl
fold_epochs which stamp (x ∷ xs) p = fold_epochs which stamp xs (answered which (close_answer stamp x) p)

-- fewer are open
fewer_stand : (trace : Trace) (calls : List CallSoFar) (t : Epoch) (q : Instance → Bool) (known : List Copy) (makes : List Make) → EpochStands trace calls t → EpochStands trace calls (record t { known = known; opened = filter q t.opened; makes = makes })
fewer_stand trace calls t q known makes st = record {
  instances = each_filter (InstanceStands trace calls t.id) q t.opened st.instances;
  single = λ i. (let few : length (filter (is_named i) t.opened) ≤ 1 = st.single i in let fewer = many_left (is_named i) q t.opened in omega (arith, few, fewer));
}

release_stands : (c : Config) (n : ℕ) (e : EpochId) (i : Serial) (f : FileId) (stamp : Option Stamp) (before : Trace) (p : Past) → MayCome c before (says.Release e i f stamp) → Agrees c before p → AllStand (With n (says.Release e i f stamp) before) (told_by c (says.Release e i f stamp) p).calls (told_by c (says.Release e i f stamp) p).epochs
release_stands c n e i f stamp before p may a = all_changed c n (says.Release e i f stamp) before p tt may (is_epoch e) (released i f stamp) (λ t st. fewer_stand (With n (says.Release e i f stamp) before) (told_by c (says.Release e i f stamp) p).calls t (λ x. not (is_named i x)) _ _ st) (fold (λ (old : Past) (x : Instance). answered (is_ender (epoch_at p e) i) (close_answer stamp x) old) p (filter (is_named i) (epoch_at p e).opened)).epochs
    (subst (AllStand before p.calls) (sym (fold_epochs (is_ender (epoch_at p e) i) stamp (filter (is_named i) (epoch_at p e).opened) p)) a.calls.instances)

-- ---- all records but accepts ----

pub opened_stand : (c : Config) (n : ℕ) (w : Record) (before : Trace) (p : Past) → IsNoAccept w → MayCome c before w → SaysGiven c before w → Agrees c before p → AllStand (With n w before) (told_by c w p).calls (told_by c w p).epochs
opened_stand c n (says.Accept s process id words) before p left may given a = absurd left
opened_stand c n (says.Answer s process id r) before p left may given a = replies_stand c n s process id r before p may given a
opened_stand c n (says.Stopped s cause) before p left may given a = all_changed c n (says.Stopped s cause) before p tt may (is_home_of p s) _ (λ t st. record { instances = st.instances; single = st.single }) p.epochs a.calls.instances
opened_stand c n (says.Leave s e) before p left may given a = all_changed c n (says.Leave s e) before p tt may (is_home_of p s) _ (λ t st. record { instances = st.instances; single = st.single }) p.epochs a.calls.instances
opened_stand c n (says.Join s e members) before p left may given a = join_stands c n s e members before p may a
opened_stand c n (says.Start e group copies) before p left may given a = all_changed c n (says.Start e group copies) before p tt may (is_epoch e) _ (λ t st. record { instances = st.instances; single = st.single }) p.epochs a.calls.instances
opened_stand c n (says.Grant e id request i m f stamp ss) before p left may given a = each_changed (EpochStands before p.calls) (EpochStands (With n (says.Grant e id request i m f stamp ss) before) (told_by c (says.Grant e id request i m f stamp ss) p).calls) (is_epoch e) _
    (λ t h st. grant_stands c n e id request i m f stamp ss before p (record { inst = i; call = id; process = process_of p id; mode = m; file = f; ss = ss }) may a refl refl t (epoch_eq t.id e h) st)
    (λ t h st. epoch_stays c n (says.Grant e id request i m f stamp ss) before p tt may t st) p.epochs a.calls.instances
opened_stand c n (says.Refuse e id request i m f why) before p left may given a = all_changed c n (says.Refuse e id request i m f why) before p tt may (is_epoch e) _ (λ t st. record { instances = st.instances; single = st.single }) p.epochs a.calls.instances
opened_stand c n (says.Act e i m o result) before p left may given a = all_changed c n (says.Act e i m o result) before p tt may (is_epoch e) (acted i o result p)
    (λ t st. (let k = works_stand (With n (says.Act e i m o result) before) (told_by c (says.Act e i m o result) p).calls t (is_named i) (λ (x : Instance). work_after p t o result x) st in record { instances = k.instances; single = k.single })) p.epochs a.calls.instances
opened_stand c n (says.Commit f s stamp parents content) before p left may given a = all_changed c n (says.Commit f s stamp parents content) before p tt may (is_home_of p s) _
    (λ t st. works_stand (With n (says.Commit f s stamp parents content) before) (told_by c (says.Commit f s stamp parents content) p).calls t (is_writer f s) (λ (x : Instance). committed stamp x.work) st) p.epochs a.calls.instances
opened_stand c n (says.Release e i f stamp) before p left may given a = release_stands c n e i f stamp before p may a
opened_stand c n w before p left may given a = all_stay c n w before p tt may a
