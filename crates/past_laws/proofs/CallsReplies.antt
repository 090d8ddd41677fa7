-- What stands of the open instances of each epoch, where a call is answered.
use Rattle.std.proofs.Common.{◌≡◌, ℕ, ◌≤◌, ◌+◌, ◌==◌, Bool, true, false, not, cond, ◌&&◌, ◌||◌, List, [], ◌∷◌, ◌++◌, length, filter, Option, Some, None, refl, sym, ◌∙◌, ap, subst, arith}
use Rattle.std.specs.List.{find, list_any, AllByRecursion}
use Rattle.std.specs.Option.{option_map}
use Rattle.locus_ids.specs.declared.config.Config.{Config}
use Rattle.locus_ids.specs.declared.ids.CallId.{CallId}
use Rattle.locus_ids.specs.declared.ids.EpochId.{EpochId}
use Rattle.locus_ids.specs.declared.ids.Serial.{Serial}
use Rattle.trace_book.specs.Same.{same_call, same_epoch, same_serial}
use Rattle.trace_book.specs.declared.descriptor.Beginning.{Beginning}
use Rattle.trace_book.specs.declared.descriptor.Beginning.TheVariants as begins
use Rattle.trace_book.specs.declared.descriptor.Descriptor.{Descriptor}
use Rattle.trace_book.specs.declared.descriptor.OneVersion.{OneVersion}
use Rattle.trace_book.specs.declared.record.Record.TheVariants as says
use Rattle.trace_book.specs.declared.reply.Reply.{Reply}
use Rattle.trace_book.specs.declared.reply.Reply.TheVariants as reply
use Rattle.call_rules.specs.Descriptors.{lowest_free}
use Rattle.tree_model.specs.Calls.{call_named, granted_to, opening_of, version_of}
use Rattle.tree_model.specs.Folds.{Trace}
use Rattle.tree_model.specs.Epochs.{is_in}
use Rattle.tree_model.specs.Working.{list_of}
use Rattle.promises.specs.of_lawful_trace.Lawful.{MayCome}
use Rattle.promises.specs.of_lawful_trace.Progress.{answers, is_packed_in, left_epoch, wants_next}
use Rattle.promises.specs.of_lawful_trace.Tables.{begun, descriptor, use_number, uses_of, names_instance, has_named, is_call, is_opening, kept_by, opened_as as kept_opening}
use Rattle.promises.specs.Past.{Past, Epoch, Instance, CallSoFar, is_on, is_close, is_named}
use Rattle.promises.specs.After.{is_id, is_reading, change, told_by, named_by, once_named, left_unmended}
use Rattle.past_laws.specs.Agreement.{Agrees, SaysGiven, waiting_as}
use Rattle.past_laws.specs.Standing.{CallStands, HasTurn, InstanceStands, EpochStands}
use Rattle.past_laws.proofs.Names.{false_true, none_some, some_same, both_parts, call_own, call_turned, epoch_eq, epoch_test, serial_eq, serial_test}
use Rattle.past_laws.proofs.CallsLists.{each_more, each_mapped, many_changed}
use Rattle.past_laws.proofs.CallsAlike.{head, each_alike}
use Rattle.past_laws.proofs.CallsAsks.{begun_as, wants_by}
use Rattle.past_laws.proofs.CallsGranted.{With, granted_stays}
use Rattle.past_laws.proofs.CallsUsers.{named_more, answers as answered_by}
use Rattle.past_laws.proofs.CallsDescribed.{IsOpenedBy, Numbers, answer_reply, answer_call, opening_is}
use Rattle.past_laws.proofs.CallsFree.{scripted}
use Rattle.past_laws.proofs.CallsFields.{IsAnswered, answered_one, answered_past}
use Rattle.past_laws.proofs.CallsSame.{heads}
use Rattle.past_laws.proofs.SitesFree.{gives_bytes, may_read}
use Rattle.past_laws.proofs.CallsInstances.{instance_kept}

-- the epochs with their open instances, by a trace and calls
abbrev pub AllStand : Trace → List CallSoFar → List Epoch → Type 0
AllStand trace calls ts = AllByRecursion (EpochStands trace calls) ts

-- where none has used an instance by its descriptor, no call is a use of it
pub not_used : (before : Trace) (k : CallSoFar) (e : EpochId) (i : Serial) (m : ℕ) → CallStands before k → uses_of before e i ≡ [] → (is_on k.begins e i && (not (is_close k.words) && (k.turn == m))) ≡ false
not_used before k e i m st unused = over (is_on k.begins e i) (is_close k.words) refl refl
  where
    over : (x y : Bool) → is_on k.begins e i ≡ x → is_close k.words ≡ y → (x && (not y && (k.turn == m))) ≡ false
    over true true q r = refl
    over true false q r = absurd (st.used e i (ap (λ (b : Bool). b && not (is_close k.words)) q ∙ ap not r) unused)
    over false y q r = refl

-- the reply names the instance
abbrev takes : Reply → CallSoFar → EpochId → Instance → Bool
takes r k e x = list_any (λ (d : Descriptor). is_in (Some d.epoch) e && is_named d.inst x) (named_by r k)

-- it names what was granted to its call
record TakesIt (r : Reply) (k : CallSoFar) (e : EpochId) (i : Serial) : Type 0 where
  names : names_instance r ≡ true
  it : Descriptor
  granted : k.granted ≡ Some it
  epoch_is : it.epoch ≡ e
  inst_is : it.inst ≡ i

takes_it : (r : Reply) (k : CallSoFar) (e : EpochId) (x : Instance) → takes r k e x ≡ true → TakesIt r k e x.grant.inst
takes_it r k e x h = by r h
  where
    it_names : (r : Reply) → names_instance r ≡ true → (o : Option Descriptor) → k.granted ≡ o → list_any (λ (d : Descriptor). is_in (Some d.epoch) e && is_named d.inst x) (list_of o) ≡ true → TakesIt r k e x.grant.inst
    it_names r names None q b = false_true b
    it_names r names (Some d) q b = (let parts = both_parts (same_epoch d.epoch e) (same_serial x.grant.inst d.inst) (or_none (same_epoch d.epoch e && same_serial x.grant.inst d.inst) b) in
        record { names = names; it = d; granted = q; epoch_is = epoch_eq d.epoch e parts.0; inst_is = sym (serial_eq x.grant.inst d.inst parts.1) })
      where
        or_none : (b : Bool) → b || false ≡ true → b ≡ true
        or_none true h = refl
        or_none false h = h

    by : (r : Reply) → takes r k e x ≡ true → TakesIt r k e x.grant.inst
    by (reply.Opened fd) h = it_names (reply.Opened fd) refl k.granted refl h
    by (reply.Data bytes) h = over (is_reading k.words) h
      where
        over : (b : Bool) → list_any (λ (d : Descriptor). is_in (Some d.epoch) e && is_named d.inst x) (cond b (list_of k.granted) []) ≡ true → TakesIt (reply.Data bytes) k e x.grant.inst
        over true g = it_names (reply.Data bytes) refl k.granted refl g
        over false g = false_true g
    by _ h = false_true h

it_takes : (r : Reply) (k : CallSoFar) (e : EpochId) (x : Instance) (d : Descriptor) → named_by r k ≡ list_of k.granted → k.granted ≡ Some d → d.epoch ≡ e → d.inst ≡ x.grant.inst → takes r k e x ≡ true
it_takes r k e x d all h is_e is_i = ap (list_any (λ (d : Descriptor). is_in (Some d.epoch) e && is_named d.inst x)) (all ∙ ap list_of h)
    ∙ (ap (λ (b : Bool). b && same_serial x.grant.inst d.inst || false) (epoch_test d.epoch e is_e) ∙ ap (λ (b : Bool). b || false) (serial_test x.grant.inst d.inst (sym is_i)))

-- what a reply makes of an instance
abbrev once_taken : Reply → CallSoFar → EpochId → Instance → Instance
once_taken r k e x = cond (takes r k e x) (once_named r x) x

numbers_name : (before : Trace) (d : CallId) (r : Reply) (fd : ℕ) → Numbers before d r fd → names_instance r ≡ true
numbers_name before d (reply.Opened n) fd h = refl
numbers_name before d (reply.Data bytes) fd h = refl
numbers_name before d _ fd h = absurd h

-- what a descriptor stands for, that an open's keeps a version besides
record OpensIt (o : Option Descriptor) (x : Descriptor) : Type 0 where
  opening : Descriptor
  found : o ≡ Some opening
  epoch_is : opening.epoch ≡ x.epoch
  inst_is : opening.inst ≡ x.inst

opens_it : (kept : Option OneVersion) (o : Option Descriptor) (x : Descriptor) → option_map (λ (d : Descriptor). record d { steady = kept }) o ≡ Some x → OpensIt o x
opens_it kept None x h = none_some x h
opens_it kept (Some y) x h = (let same : ◌≡◌ {A = Descriptor} (record y { steady = kept }) x = some_same (record y { steady = kept }) x h in
    record { opening = y; found = refl; epoch_is = ap (λ (d : Descriptor). d.epoch) same; inst_is = ap (λ (d : Descriptor). d.inst) same })

-- the call that is answered, and its reply is what its script gives
module _ (c : Config) (n s process : ℕ) (id : CallId) (before : Trace) (p : Past) (a : Agrees c before p) where
  granted_as : (k : IsAnswered before p s process id) → k.one.granted ≡ kept_opening before id
  granted_as k = a.calls.granted k.one (ap (λ (d : CallId). find (is_id d) p.calls) k.id_is ∙ k.found) ∙ ap (kept_opening before) k.id_is

  -- a reply that names an instance names whatever was granted to its call
  names_all : (r : Reply) → MayCome c before (says.Answer s process id r) → SaysGiven c before (says.Answer s process id r) → (k : IsAnswered before p s process id) → names_instance r ≡ true → named_by r k.one ≡ list_of k.one.granted
  names_all (reply.Opened fd) may given k h = refl
  names_all (reply.Data bytes) may given k h = by k.one.begins refl (gives_bytes c.mounts (is_packed_in c before k.one.epoch) (lowest_free (descriptor before k.one.id.site k.one.process)) k.one.words k.one.begins (answers c before k.one.id) bytes
      (sym (wants_by c before p a k.one own (answers c before k.one.id)) ∙ scripted (left_epoch before (waiting_as k.one)) (wants_next c before k.one.id) (reply.Data bytes) refl (given (waiting_as k.one) k.caller)))
    where
      own : find (is_id k.one.id) p.calls ≡ Some k.one
      own = ap (λ (d : CallId). find (is_id d) p.calls) k.id_is ∙ k.found

      ungranted : (e : EpochId) (i : Serial) → k.one.begins ≡ begins.Uses e i → k.one.granted ≡ None
      ungranted e i g = granted_as k ∙ ap (option_map (λ (d : Descriptor). record d { steady = kept_by (call_named before id) (version_of before id) }))
          (a.calls.ungranted id e i (ap (begun before) (sym k.id_is) ∙ (begun_as c before p a k.one own ∙ ap Some g)))

      none : (b : Bool) (o : Option Descriptor) → o ≡ None → cond b (list_of o) [] ≡ list_of o
      none true o e = refl
      none false o e = sym (ap list_of e)

      by : (b : Beginning) → k.one.begins ≡ b → may_read b k.one.words ≡ true → cond (is_reading k.one.words) (list_of k.one.granted) [] ≡ list_of k.one.granted
      by (begins.Uses e i) g h = none (is_reading k.one.words) k.one.granted (ungranted e i g)
      by (begins.Reopens kept last) g h = ap (λ (b : Bool). cond b (list_of k.one.granted) []) h
      by (begins.Denied why) g h = false_true h
      by (begins.Walks d) g h = false_true h
      by begins.Frees g h = false_true h
  names_all _ may given k h = false_true h

  -- what the folds say of an instance that the reply names
  record IsNow (e : EpochId) (x : Instance) : Type 0 where
    own : id ≡ x.grant.call
    opening : is_opening (opening_of before id) e x.grant.inst ≡ true
    unused : uses_of before e x.grant.inst ≡ []

  is_now : (r : Reply) → MayCome c before (says.Answer s process id r) → (k : IsAnswered before p s process id) → (e : EpochId) (x : Instance) → InstanceStands before p.calls e x → TakesIt r k.one e x.grant.inst → IsNow e x
  is_now r may k e x st t = at (opens_it (kept_by (call_named before id) (version_of before id)) (opening_of before id) t.it (sym (granted_as k) ∙ t.granted))
    where
      at : OpensIt (opening_of before id) t.it → IsNow e x
      at o = record {
        own = own;
        opening = ap (λ (y : Option Descriptor). is_opening y e x.grant.inst) o.found ∙ (ap (λ (b : Bool). b && same_serial o.opening.inst x.grant.inst) (epoch_test o.opening.epoch e is_e) ∙ serial_test o.opening.inst x.grant.inst is_i);
        unused = (a.calls.users.untouched e x.grant.inst (λ d h. ap (has_named before) (some_same d id (sym h ∙ granted)) ∙ (answered_by c before s process id r may a.calls.users).unnamed)).unused;
      }
        where
          is_e : o.opening.epoch ≡ e
          is_e = o.epoch_is ∙ t.epoch_is

          is_i : o.opening.inst ≡ x.grant.inst
          is_i = o.inst_is ∙ t.inst_is

          granted : granted_to before e x.grant.inst ≡ Some id
          granted = ap (λ (z : EpochId). granted_to before z x.grant.inst) (sym is_e) ∙ (ap (granted_to before o.opening.epoch) (sym is_i) ∙ a.calls.users.opening id o.opening o.found)

          own : id ≡ x.grant.call
          own = some_same id x.grant.call (sym granted ∙ st.granted)

  -- a read that has opened it is its first use
  read_stands : (bytes : List ℕ) → MayCome c before (says.Answer s process id (reply.Data bytes)) → (e : EpochId) (x : Instance) → InstanceStands before p.calls e x → IsNow e x
      → InstanceStands (With n (says.Answer s process id (reply.Data bytes)) before) (told_by c (says.Answer s process id (reply.Data bytes)) p).calls e (once_named (reply.Data bytes) x)
  read_stands bytes may e x st now = record {
    granted = granted_stays c n (says.Answer s process id (reply.Data bytes)) before e x.grant.inst x.grant.call may st.granted;
    uses = (let k : x.uses ≡ 0 = st.uses ∙ ap length now.unused in one k) ∙ ap length (sym grown);
    first = λ h. ap (λ (us : List CallId). is_call (use_number us 1) x.grant.call) grown ∙ (ap (same_call id) (sym now.own) ∙ call_own id);
    named = λ h. subst (λ (d : CallId). has_named (With n (says.Answer s process id (reply.Data bytes)) before) d ≡ true) now.own (ap (λ (b : Bool). b && true || has_named before id) (call_own id));
    unnamed = λ h. false_true (sym h);
    undescribed = λ h. false_true (sym h);
    turns = each_alike head (HasTurn (With n (says.Answer s process id (reply.Data bytes)) before) e (once_named (reply.Data bytes) x)) (λ y h. h) (λ y h. h) p.calls (told_by c (says.Answer s process id (reply.Data bytes)) p).calls (sym (heads c (says.Answer s process id (reply.Data bytes)) p tt))
        (each_more (CallStands before) (HasTurn (With n (says.Answer s process id (reply.Data bytes)) before) e (once_named (reply.Data bytes) x)) turn p.calls a.calls.stand);
  }
    where
      grown : uses_of (With n (says.Answer s process id (reply.Data bytes)) before) e x.grant.inst ≡ id ∷ []
      grown = ap (λ (b : Bool). cond b (id ∷ uses_of before e x.grant.inst) (uses_of before e x.grant.inst)) now.opening ∙ ap (λ (us : List CallId). id ∷ us) now.unused

      one : x.uses ≡ 0 → x.uses + 1 ≡ 1
      one k = omega (arith, k)

      turn : (k : CallSoFar) → CallStands before k → HasTurn (With n (says.Answer s process id (reply.Data bytes)) before) e (once_named (reply.Data bytes) x) k
      turn k ks m = over (m == 1) ∙ ap (λ (us : List CallId). is_call (use_number us m) k.id) (sym grown)
        where
          over : (b : Bool) → cond b (same_call k.id x.grant.call) (is_on k.begins e x.grant.inst && (not (is_close k.words) && (k.turn == m))) ≡ is_call (cond b (Some id) None) k.id
          over true = call_turned k.id x.grant.call ∙ ap (λ (d : CallId). same_call d k.id) (sym now.own)
          over false = not_used before k e x.grant.inst m ks now.unused

  answer_stands : (r : Reply) → MayCome c before (says.Answer s process id r) → SaysGiven c before (says.Answer s process id r) → (k : IsAnswered before p s process id) → (e : EpochId) (x : Instance)
      → InstanceStands before p.calls e x → InstanceStands (With n (says.Answer s process id r) before) (told_by c (says.Answer s process id r) p).calls e (once_taken r k.one e x)
  answer_stands r may given k e x st = over (takes r k.one e x) refl
    where
      opening : {A : Type 0} (o : Descriptor) → names_instance r ≡ true → takes r k.one e x ≡ false → opening_of before id ≡ Some o → o.epoch ≡ e → o.inst ≡ x.grant.inst → A
      opening o names h found is_e is_i = false_true (sym h ∙ it_takes r k.one e x (record o { steady = kept_by (call_named before id) (version_of before id) }) (names_all r may given k names)
          (granted_as k ∙ ap (option_map (λ (d : Descriptor). record d { steady = kept_by (call_named before id) (version_of before id) })) found) is_e is_i)

      apart : takes r k.one e x ≡ false → (s2 q fd : ℕ) (d : Descriptor) → IsOpenedBy before (says.Answer s process id r) s2 q fd d → d.epoch ≡ e → d.inst ≡ x.grant.inst → ⊥
      apart h s2 q fd d o is_e is_i = opening o.opening (ap names_instance (answer_reply s s2 process q id o.call r o.reply o.opens) ∙ numbers_name before o.call o.reply fd o.numbers) h
          (ap (opening_of before) (answer_call s s2 process q id o.call r o.reply o.opens) ∙ o.opened) (o.epoch_is ∙ is_e) (o.inst_is ∙ is_i)

      -- the reply of another read uses others
      unused : (z : Reply) → z ≡ r → takes r k.one e x ≡ false → uses_of (With n (says.Answer s process id z) before) e x.grant.inst ≡ uses_of before e x.grant.inst
      unused (reply.Data bytes) is h = at (is_opening (opening_of before id) e x.grant.inst) refl
        where
          at : (b : Bool) → is_opening (opening_of before id) e x.grant.inst ≡ b → cond b (id ∷ uses_of before e x.grant.inst) (uses_of before e x.grant.inst) ≡ uses_of before e x.grant.inst
          at true q = (let o = opening_is (opening_of before id) e x.grant.inst q in opening o.opening (ap names_instance (sym is)) h o.found o.epoch_is o.inst_is)
          at false q = refl
      unused _ is h = refl

      named : (z : Reply) → names_instance z ≡ true → id ≡ x.grant.call → has_named (With n (says.Answer s process id z) before) x.grant.call ≡ true
      named z h own = subst (λ (d : CallId). has_named (With n (says.Answer s process id z) before) d ≡ true) own (ap (λ (b : Bool). b && names_instance z || has_named before id) (call_own id) ∙ ap (λ (b : Bool). b || has_named before id) h)

      taken : (z : Reply) → MayCome c before (says.Answer s process id z) → names_instance z ≡ true → IsNow e x → InstanceStands (With n (says.Answer s process id z) before) (told_by c (says.Answer s process id z) p).calls e (once_named z x)
      taken (reply.Opened fd) may h now = instance_kept c n (says.Answer s process id (reply.Opened fd)) before p tt may e x x.work true refl (λ y. named (reply.Opened fd) refl now.own) (λ y. false_true (sym y)) (λ y. false_true (sym y)) st
      taken (reply.Data bytes) may h now = read_stands bytes may e x st now
      taken _ may h now = false_true h

      over : (b : Bool) → takes r k.one e x ≡ b → InstanceStands (With n (says.Answer s process id r) before) (told_by c (says.Answer s process id r) p).calls e (cond b (once_named r x) x)
      over true h = (let t = takes_it r k.one e x h in taken r may t.names (is_now r may k e x st t))
      over false h = instance_kept c n (says.Answer s process id r) before p tt may e x x.work x.named (unused r refl h) (λ y. named_more n (says.Answer s process id r) before x.grant.call (st.named y)) (λ y. y) (λ y. apart h) st

once_is : (i : Serial) (r : Reply) (x : Instance) → is_named i (once_named r x) ≡ is_named i x
once_is i (reply.Data bytes) x = refl
once_is i _ x = refl

pub replies_stand : (c : Config) (n s process : ℕ) (id : CallId) (r : Reply) (before : Trace) (p : Past) → MayCome c before (says.Answer s process id r) → SaysGiven c before (says.Answer s process id r) → Agrees c before p → AllStand (With n (says.Answer s process id r) before) (told_by c (says.Answer s process id r) p).calls (told_by c (says.Answer s process id r) p).epochs
replies_stand c n s process id r before p may given a = at (answered_one c before p s process id r may a)
  where
    at : IsAnswered before p s process id → AllStand (With n (says.Answer s process id r) before) (told_by c (says.Answer s process id r) p).calls (told_by c (says.Answer s process id r) p).epochs
    at k = subst (λ (q : Past). AllStand (With n (says.Answer s process id r) before) (told_by c (says.Answer s process id r) p).calls q.epochs) (sym (answered_past before p s process id r c k)) (each_mapped (EpochStands before p.calls) (EpochStands (With n (says.Answer s process id r) before) (told_by c (says.Answer s process id r) p).calls) _ (λ t st. one t st) p.epochs a.calls.instances)
      where
        one : (t : Epoch) → EpochStands before p.calls t → EpochStands (With n (says.Answer s process id r) before) (told_by c (says.Answer s process id r) p).calls
            (record t { opened = change (takes r k.one t.id) (once_named r) t.opened; unmended = cond (is_in k.one.epoch t.id) (left_unmended r k.one.words) [] ++ t.unmended })
        one t st = record {
          instances = each_mapped (InstanceStands before p.calls t.id) (InstanceStands (With n (says.Answer s process id r) before) (told_by c (says.Answer s process id r) p).calls t.id) (once_taken r k.one t.id) (answer_stands c n s process id before p a r may given k t.id) t.opened st.instances;
          single = λ i. (let same : length (filter (is_named i) (change (takes r k.one t.id) (once_named r) t.opened)) ≡ length (filter (is_named i) t.opened) = many_changed (is_named i) (takes r k.one t.id) (once_named r) (once_is i r) t.opened in
              let few : length (filter (is_named i) t.opened) ≤ 1 = st.single i in subst (λ (m : ℕ). m ≤ 1) (sym same) few);
        }
