-- Of an open instance that no descriptor has named, a call has won what its work owes or has committed: its close may tell a version.
use Rattle.std.proofs.Common.{◌≡◌, ℕ, ◌+◌, ◌-◌, ◌≤◌, Bool, true, false, not, cond, ◌&&◌, ◌||◌, List, [], ◌∷◌, ◌++◌, length, filter, take, Option, Some, None, refl, sym, ◌∙◌, ap, subst, arith, ◌⊎◌, inl, inr}
use Rattle.std.specs.Prelude.{fold}
use Rattle.std.specs.List.{find, list_any, AllByRecursion}
use Rattle.std.specs.Option.{option_map, is_some}
use Rattle.locus_ids.specs.declared.config.Config.{Config}
use Rattle.locus_ids.specs.declared.sites.Members.{Members}
use Rattle.locus_ids.specs.declared.ids.CallId.{CallId}
use Rattle.locus_ids.specs.declared.ids.EpochId.{EpochId}
use Rattle.locus_ids.specs.declared.ids.FileId.{FileId}
use Rattle.locus_ids.specs.declared.ids.Mode.{Mode}
use Rattle.locus_ids.specs.declared.ids.Serial.{Serial}
use Rattle.locus_ids.specs.declared.ids.Stamp.{Stamp}
use Rattle.locus_ids.specs.declared.refusal.Refusal.TheVariants.{Spent}
use Rattle.trace_book.specs.Same.{same_call, same_serial}
use Rattle.trace_book.specs.declared.descriptor.Beginning.{Beginning}
use Rattle.trace_book.specs.declared.operation.Op.{Op}
use Rattle.trace_book.specs.declared.operation.Op.TheVariants as op
use Rattle.trace_book.specs.declared.operation.Outcome.{Outcome}
use Rattle.trace_book.specs.declared.operation.Outcome.TheVariants as outcome
use Rattle.trace_book.specs.declared.record.Record.{Record}
use Rattle.trace_book.specs.declared.record.Record.TheVariants as says
use Rattle.trace_book.specs.declared.reply.Reply.{Reply}
use Rattle.file_effects.specs.Effects.{is_refusal}
use Rattle.file_effects.specs.Works.{begins_owing, committed}
use Rattle.file_effects.specs.declared.work.Work.{Work}
use Rattle.call_rules.specs.declared.answer.Answer.{Answer}
use Rattle.call_rules.specs.declared.answer.Answer.TheVariants as answer
use Rattle.call_rules.specs.declared.want.Want.{Want}
use Rattle.call_rules.specs.declared.want.Want.TheVariants as want
use Rattle.tree_model.specs.declared.accepted.Waiting.{Waiting}
use Rattle.tree_model.specs.declared.instance.Granted.{Granted}
use Rattle.tree_model.specs.declared.instance.Instance.{Instance as TreeInstance}
use Rattle.tree_model.specs.Calls.{call_named}
use Rattle.tree_model.specs.Epochs.{is_in}
use Rattle.tree_model.specs.Folds.{Trace}
use Rattle.tree_model.specs.Given.{instance_gives}
use Rattle.tree_model.specs.Histories.{history}
use Rattle.tree_model.specs.Same.{is_given}
use Rattle.tree_model.specs.State.{instance_in}
use Rattle.tree_model.specs.Tree.{tree_of, kept_in as kept_by}
use Rattle.lawful_trace.specs.Lawful.{MayCome}
use Rattle.lawful_trace.specs.Progress.{answers, wants_after, wants_next, outcome_answer, granted_answer, look_answer as answer_by, close_answer as close_by}
use Rattle.lawful_trace.specs.Tables.{is_call, call_of_act, call_of_release, has_named, unless_named, use_number, uses_of}
use Rattle.lawful_trace.specs.TreeRows.{IsCallIn, granted_group, is_next_or_again}
use Rattle.promises.specs.Past.{Past, Epoch, CallSoFar, Instance, asks_after, epoch_at, ends, first_or, is_named, is_on, is_close, is_writer, unformed}
use Rattle.promises.specs.Tree.{work_after}
use Rattle.promises.specs.After.{is_id, is_epoch, is_home_of, is_ender, change, told_by, answered, close_answer, acted, released, opened_as, process_of, with_epoch, uses, named_by, once_named}
use Rattle.past_laws.specs.Agreement.{Agrees, past, waiting_as}
use Rattle.past_laws.specs.Along.{EachComesSo, IsNamed}
use Rattle.past_laws.specs.Standing.{InstanceStands, EpochStands}
use Rattle.past_laws.proofs.Names.{false_true, none_some, some_same, both, both_parts, call_eq, call_test, epoch_eq, epoch_test, serial_eq, serial_test}
use Rattle.past_laws.proofs.Agreeing.{all_agrees}
use Rattle.past_laws.proofs.CallsAlike.{head, Was, was_there}
use Rattle.past_laws.proofs.CallsAsks.{asks_by, named_as, request_as, is_request}
use Rattle.past_laws.proofs.CallsFields.{accepted_call, new_none, IsAnswered, answered_one, answered_past}
use Rattle.past_laws.proofs.CallsGranted.{With}
use Rattle.past_laws.proofs.CallsLists.{each_more, each_both, each_added, each_mapped, each_changed, each_found, filter_finds}
use Rattle.past_laws.proofs.CallsOpened.{fold_epochs}
use Rattle.past_laws.proofs.CallsOwners.{Releases, releases_open, ender_is}
use Rattle.past_laws.proofs.CallsSame.{heads}
use Rattle.past_laws.proofs.CallsUsers.{numbered}
use Rattle.past_laws.proofs.FilesFirst.{Committer, committer}
use Rattle.past_laws.proofs.TreesLists.{any_one}
use Rattle.headline_laws.specs.HeadlinePromises.Fair.{Script, changes, earns, closes, fits, won_by, none_won}
use Rattle.headline_laws.proofs.HeadlinePromises.FairAnswers.{script_of, script_stays, open_no_close, NotUses}
use Rattle.headline_laws.proofs.HeadlinePromises.FairEarned.{no_close, still_won, now_won, looked_won, grant_earns, earned, TellsDone, earned_after}
use Rattle.headline_laws.proofs.HeadlinePromises.FairSteps.{ReleaseFits}
use Rattle.trace_book.specs.declared.descriptor.Beginning.TheVariants as begins
use Rattle.trace_book.specs.declared.descriptor.Descriptor.{Descriptor}
use Rattle.trace_book.specs.declared.reply.Reply.TheVariants as reply

-- The call of an open instance is of its epoch, and has won it by its answers where the work is earned and none has named it.
pub record Holds (c : Config) (trace : Trace) (calls : List CallSoFar) (e : EpochId) (g : Granted) (named : Bool) (work : Work) : Type 0 where
  pub call : CallSoFar
  pub own : find (is_id call.id) calls ≡ Some call
  pub is : call.id ≡ g.call
  pub within : call.epoch ≡ Some e
  pub won : named ≡ false → earned work ≡ true → won_by none_won (script_of c trace call) (answers c trace call.id) g.inst ≡ true

abbrev pub EachHolds : Config → Trace → List CallSoFar → EpochId → List Instance → Type 0
EachHolds c trace calls e xs = AllByRecursion (λ (x : Instance). Holds c trace calls e x.grant x.named x.work) xs

abbrev pub AllHold : Config → Trace → List CallSoFar → List Epoch → Type 0
AllHold c trace calls ts = AllByRecursion (λ (t : Epoch). EachHolds c trace calls t.id t.opened) ts

-- The call by the next record.

record Now (calls : List CallSoFar) (k : CallSoFar) : Type 0 where
  now : CallSoFar
  found : find (is_id k.id) calls ≡ Some now
  same : head now ≡ head k

call_now : (c : Config) (n : ℕ) (w : Record) (before : Trace) (p : Past) → MayCome c before w → Agrees c before p → (k : CallSoFar) → find (is_id k.id) p.calls ≡ Some k → Now (told_by c w p).calls k
call_now c n (says.Accept s process new words) before p may a k own = at (same_call new k.id) refl
  where
    at : (b : Bool) → same_call new k.id ≡ b → Now (told_by c (says.Accept s process new words) p).calls k
    at true e = none_some (waiting_as k) (sym (new_none before s new a.calls.users (numbered c before s process new words may)) ∙ (ap (call_named before) (call_eq new k.id e) ∙ named_as c before p a k own))
    at false e = record { now = k; found = ap (λ (b : Bool). cond b (Some (accepted_call p s process new words)) (find (is_id k.id) p.calls)) e ∙ own; same = refl }
call_now c n w before p may a k own = at (was_there head (λ d x. refl) (told_by c w p).calls p.calls (heads c w p tt) k own)
  where
    at : Was head (told_by c w p).calls k → Now (told_by c w p).calls k
    at it = record { now = it.was; found = it.found; same = it.same }

-- What it asks.

scripted : (c : Config) (before : Trace) (p : Past) → Agrees c before p → (k : CallSoFar) → find (is_id k.id) p.calls ≡ Some k → (xs : List Answer) (w : Want) → wants_after c before k.id xs ≡ w → is_request w ≡ true → script_of c before k xs ≡ w
scripted c before p a k own xs w asks request = sym (asks_by c before p a k xs) ∙ request_as c before p a k own xs w asks request

next_asks : (c : Config) (before : Trace) (p : Past) → Agrees c before p → (k : CallSoFar) → find (is_id k.id) p.calls ≡ Some k → (id : CallId) → k.id ≡ id → (w : Want) → wants_next c before id ≡ w → is_request w ≡ true → script_of c before k (answers c before k.id) ≡ w
next_asks c before p a k own id same w asks request = scripted c before p a k own (answers c before k.id) w (ap (wants_next c before) same ∙ asks) request

owner_is : (o : Option CallId) (d : CallId) (k : CallSoFar) → o ≡ Some d → is_call o k.id ≡ true → k.id ≡ d
owner_is o d k owned h = sym (call_eq d k.id (ap (λ (x : Option CallId). is_call x k.id) (sym owned) ∙ h))

in_epoch : (c : Config) (before : Trace) (p : Past) (e : EpochId) (d : CallId) (k : CallSoFar) → Agrees c before p → find (is_id k.id) p.calls ≡ Some k → k.id ≡ d → IsCallIn before e d → k.epoch ≡ Some e
in_epoch c before p e d k a own same st = ap (λ (w : Waiting). w.epoch) (some_same (waiting_as k) st.accepted (sym (named_as c before p a k own) ∙ (ap (call_named before) same ∙ st.named))) ∙ st.made_in

-- A record that doesn't release the instance leaves what is won of it.

abbrev KeepsOpen : Record → EpochId → Serial → Type 0
KeepsOpen (says.Release at i f stamp) e j = at ≡ e → i ≡ j → ⊥
KeepsOpen _ e j = Unit {0}

unless : (q : Bool) (s : Script) (xs ys : List Answer) (i : Serial) → (q ≡ true → won_by none_won s ys i ≡ true) → won_by none_won s xs i ≡ true → won_by none_won s (cond q ys xs) i ≡ true
unless true s xs ys i h k = h refl
unless false s xs ys i h k = k

still : (c : Config) (n : ℕ) (w : Record) (before : Trace) (p : Past) → MayCome c before w → Agrees c before p → (e : EpochId) (j : Serial) (k : CallSoFar) → find (is_id k.id) p.calls ≡ Some k → k.epoch ≡ Some e → KeepsOpen w e j
    → won_by none_won (script_of c before k) (answers c before k.id) j ≡ true → won_by none_won (script_of c before k) (answers c (With n w before) k.id) j ≡ true
still c n (says.Look at id m f what result) before p may a e j k own within apart h = unless (same_call id k.id) (script_of c before k) (answers c before k.id) _ j it h
  where
    it : same_call id k.id ≡ true → won_by none_won (script_of c before k) (take (m - 1) (answers c before k.id) ++ answer_by c before f what result ∷ []) j ≡ true
    it q = looked_won (script_of c before k) (answers c before k.id) m (answer_by c before f what result) f what j (ap (λ (d : CallId). is_numbered d) same ∙ may.numbered)
        (scripted c before p a k own (take (m - 1) (answers c before k.id)) (want.Look f what) (ap (λ (d : CallId). wants_after c before d (take (m - 1) (answers c before d))) same ∙ may.asked) refl) h
      where
        same : k.id ≡ id
        same = sym (call_eq id k.id q)

        is_numbered : CallId → Bool
        is_numbered d = is_next_or_again m (length (answers c before d))
still c n (says.Grant at id m i mode f stamp ss) before p may a e j k own within apart h = unless (same_call id k.id) (script_of c before k) (answers c before k.id) _ j it h
  where
    it : same_call id k.id ≡ true → won_by none_won (script_of c before k) (answers c before k.id ++ granted_answer mode i f stamp (kept_by c before at f) ∷ []) j ≡ true
    it q = (let asked = open_no_close mode f (wants_next c before id) may.opens.asked in
        still_won (script_of c before k) (answers c before k.id) (granted_answer mode i f stamp (kept_by c before at f)) j (ap (λ (v : Want). closes v j) (next_asks c before p a k own id (sym (call_eq id k.id q)) (wants_next c before id) refl asked.1) ∙ no_close (wants_next c before id) j asked.0) h)
still c n (says.Refuse at id m i mode f why) before p may a e j k own within apart h = unless (same_call id k.id) (script_of c before k) (answers c before k.id) _ j it h
  where
    it : same_call id k.id ≡ true → won_by none_won (script_of c before k) (answers c before k.id ++ answer.Refused why ∷ []) j ≡ true
    it q = (let asked = open_no_close mode f (wants_next c before id) may.opens.asked in
        still_won (script_of c before k) (answers c before k.id) (answer.Refused why) j (ap (λ (v : Want). closes v j) (next_asks c before p a k own id (sym (call_eq id k.id q)) (wants_next c before id) refl asked.1) ∙ no_close (wants_next c before id) j asked.0) h)
still c n (says.Act at i m o result) before p may a e j k own within apart h = unless (is_call (call_of_act before at i m) k.id) (script_of c before k) (answers c before k.id) _ j it h
  where
    it : is_call (call_of_act before at i m) k.id ≡ true → won_by none_won (script_of c before k) (answers c before k.id ++ outcome_answer result ∷ []) j ≡ true
    it q = still_won (script_of c before k) (answers c before k.id) (outcome_answer result) j (ap (λ (v : Want). closes v j) (next_asks c before p a k own may.step.call (owner_is (call_of_act before at i m) may.step.call k may.step.owned q) (want.Do i o) may.step.asked refl)) h
still c n (says.Release at i f stamp) before p may a e j k own within apart h = unless (is_call (call_of_release before at i) k.id) (script_of c before k) (answers c before k.id) _ j it h
  where
    it : is_call (call_of_release before at i) k.id ≡ true → won_by none_won (script_of c before k) (answers c before k.id ++ close_by stamp (instance_in (tree_of c at f.group before) i) ∷ []) j ≡ true
    it q = still_won (script_of c before k) (answers c before k.id) (close_by stamp (instance_in (tree_of c at f.group before) i)) j (ap (λ (v : Want). closes v j) (next_asks c before p a k own may.step.call same (want.Close i) may.step.asked refl) ∙ other (same_serial i j) refl) h
      where
        same : k.id ≡ may.step.call
        same = owner_is (call_of_release before at i) may.step.call k may.step.owned q

        other : (b : Bool) → same_serial i j ≡ b → b ≡ false
        other true g = absurd (apart (some_same at e (sym (in_epoch c before p at may.step.call k a own same may.step.step) ∙ within)) (serial_eq i j g))
        other false g = refl
still c n w before p may a e j k own within apart h = h

-- The instance holds by the next record once what is won of it is shown.
next_holds : (c : Config) (n : ℕ) (w : Record) (before : Trace) (p : Past) → MayCome c before w → Agrees c before p → (e : EpochId) (g : Granted) (was now : Bool) (old new : Work) → (h : Holds c before p.calls e g was old)
    → (now ≡ false → earned new ≡ true → won_by none_won (script_of c before h.call) (answers c (With n w before) h.call.id) g.inst ≡ true) → Holds c (With n w before) (told_by c w p).calls e g now new
next_holds c n w before p may a e g was now old new h won = at (call_now c n w before p may a h.call h.own)
  where
    at : Now (told_by c w p).calls h.call → Holds c (With n w before) (told_by c w p).calls e g now new
    at it = record {
      call = it.now;
      own = ap (λ (d : CallId). find (is_id d) (told_by c w p).calls) id_is ∙ it.found;
      is = id_is ∙ h.is;
      within = ap (λ (x : CallSoFar). x.epoch) it.same ∙ h.within;
      won = λ u v. ap (λ (d : CallId). won_by none_won (script_of c (With n w before) it.now) (answers c (With n w before) d) g.inst) id_is ∙ (ap (λ (s : Script). won_by none_won s (answers c (With n w before) h.call.id) g.inst) script ∙ won u v);
    }
      where
        id_is : it.now.id ≡ h.call.id
        id_is = ap (λ (x : CallSoFar). x.id) it.same

        script : script_of c (With n w before) it.now ≡ script_of c before h.call
        script = ap (script_of c (With n w before)) it.same ∙ script_stays c n w before p may a h.call h.own

kept : (c : Config) (n : ℕ) (w : Record) (before : Trace) (p : Past) → MayCome c before w → Agrees c before p → (e : EpochId) (g : Granted) (was now : Bool) (old new : Work) → KeepsOpen w e g.inst
    → (now ≡ false → earned new ≡ true → (was ≡ false) × (earned old ≡ true)) → Holds c before p.calls e g was old → Holds c (With n w before) (told_by c w p).calls e g now new
kept c n w before p may a e g was now old new apart from h = next_holds c n w before p may a e g was now old new h (λ u v. still c n w before p may a e g.inst h.call h.own h.within apart (h.won (from u v).0 (from u v).1))

-- Epochs that stay.

opened_kept : (c : Config) (n : ℕ) (w : Record) (before : Trace) (p : Past) → MayCome c before w → Agrees c before p → (e : EpochId) → ((j : Serial) → KeepsOpen w e j) → (xs : List Instance) → EachHolds c before p.calls e xs → EachHolds c (With n w before) (told_by c w p).calls e xs
opened_kept c n w before p may a e apart xs k = each_more (λ (x : Instance). Holds c before p.calls e x.grant x.named x.work) (λ (x : Instance). Holds c (With n w before) (told_by c w p).calls e x.grant x.named x.work)
    (λ x h. kept c n w before p may a e x.grant x.named x.named x.work x.work (apart x.grant.inst) (λ u v. (u, v)) h) xs k

epochs_changed : (c : Config) (n : ℕ) (w : Record) (before : Trace) (p : Past) → MayCome c before w → Agrees c before p → ((e : EpochId) (j : Serial) → KeepsOpen w e j) → (which : Epoch → Bool) (f : Epoch → Epoch)
    → ((t : Epoch) → which t ≡ true → EachHolds c before p.calls t.id t.opened → EachHolds c (With n w before) (told_by c w p).calls (f t).id (f t).opened) → (ts : List Epoch) → AllHold c before p.calls ts → AllHold c (With n w before) (told_by c w p).calls (change which f ts)
epochs_changed c n w before p may a apart which f same ts k = each_changed (λ (t : Epoch). EachHolds c before p.calls t.id t.opened) (λ (t : Epoch). EachHolds c (With n w before) (told_by c w p).calls t.id t.opened) which f
    same (λ t e h. opened_kept c n w before p may a t.id (apart t.id) t.opened h) ts k

-- ones whose open instances stay
epochs_left : (c : Config) (n : ℕ) (w : Record) (before : Trace) (p : Past) → MayCome c before w → Agrees c before p → ((e : EpochId) (j : Serial) → KeepsOpen w e j) → (which : Epoch → Bool) (f : Epoch → Epoch)
    → ((t : Epoch) → EachHolds c (With n w before) (told_by c w p).calls t.id t.opened → EachHolds c (With n w before) (told_by c w p).calls (f t).id (f t).opened) → (ts : List Epoch) → AllHold c before p.calls ts → AllHold c (With n w before) (told_by c w p).calls (change which f ts)
epochs_left c n w before p may a apart which f same ts k = epochs_changed c n w before p may a apart which f (λ t e h. same t (opened_kept c n w before p may a t.id (apart t.id) t.opened h)) ts k

-- Joins.

join_holds : (c : Config) (n s : ℕ) (e : EpochId) (members : Members) (before : Trace) (p : Past) → MayCome c before (says.Join s e members) → Agrees c before p → AllHold c before p.calls p.epochs → AllHold c (With n (says.Join s e members) before) (told_by c (says.Join s e members) p).calls (told_by c (says.Join s e members) p).epochs
join_holds c n s e members before p may a k = epochs_left c n (says.Join s e members) before p may a (λ e j. tt) (is_epoch e) _ (λ t h. h) (with_epoch e members p).epochs (over (list_any (is_epoch e) p.epochs))
  where
    over : (b : Bool) → AllHold c before p.calls (cond b p (record p { epochs = record (unformed e) { members = members } ∷ p.epochs })).epochs
    over true = k
    over false = (tt, k)

-- Grants.

-- a call is of the value where the folds have it
record Called (p : Past) (id : CallId) (e : EpochId) : Type 0 where
  call : CallSoFar
  own : find (is_id call.id) p.calls ≡ Some call
  is : call.id ≡ id
  within : call.epoch ≡ Some e

called_in : (c : Config) (before : Trace) (p : Past) (e : EpochId) (id : CallId) → Agrees c before p → IsCallIn before e id → Called p id e
called_in c before p e id a st = at (find (is_id id) p.calls) refl (a.calls.named id ∙ st.named)
  where
    at : (o : Option CallSoFar) → find (is_id id) p.calls ≡ o → option_map waiting_as o ≡ Some st.accepted → Called p id e
    at None f h = none_some st.accepted h
    at (Some k) f h = record { call = k; own = ap (λ (d : CallId). find (is_id d) p.calls) same ∙ f; is = same; within = ap (λ (w : Waiting). w.epoch) (some_same (waiting_as k) st.accepted h) ∙ st.made_in }
      where
        same : k.id ≡ id
        same = call_eq k.id id (each_found (λ (x : CallSoFar). Unit {0}) (is_id id) p.calls k f (units p.calls)).1
          where
            units : (xs : List CallSoFar) → AllByRecursion (λ (x : CallSoFar). Unit {0}) xs
            units [] = tt
            units (x ∷ xs) = (tt, units xs)

grant_holds : (c : Config) (n : ℕ) (at : EpochId) (id : CallId) (m : ℕ) (i : Serial) (mode : Mode) (f : FileId) (stamp : Option Stamp) (ss : ℕ) (before : Trace) (p : Past) → MayCome c before (says.Grant at id m i mode f stamp ss) → Agrees c before p
    → Holds c (With n (says.Grant at id m i mode f stamp ss) before) (told_by c (says.Grant at id m i mode f stamp ss) p).calls at (record { inst = i; call = id; process = process_of p id; mode = mode; file = f; ss = ss }) false (opened_as p (record { inst = i; call = id; process = process_of p id; mode = mode; file = f; ss = ss }) stamp).work
grant_holds c n at id m i mode f stamp ss before p may a = by (called_in c before p at id a may.opens.step)
  where
    g : Granted
    g = record { inst = i; call = id; process = process_of p id; mode = mode; file = f; ss = ss }

    owing : (b : Bool) → (b || (false || false)) ≡ true → b ≡ true
    owing true h = refl
    owing false h = h

    by : Called p id at → Holds c (With n (says.Grant at id m i mode f stamp ss) before) (told_by c (says.Grant at id m i mode f stamp ss) p).calls at g false (opened_as p g stamp).work
    by k = next_holds c n (says.Grant at id m i mode f stamp ss) before p may a at g true false (opened_as p g stamp).work (opened_as p g stamp).work (record { call = k.call; own = k.own; is = k.is; within = k.within; won = λ u v. false_true (sym u) })
        (λ u v. (let asked = open_no_close mode f (wants_next c before id) may.opens.asked in
        let asks = next_asks c before p a k.call k.own id k.is (wants_next c before id) refl asked.1 in
        ap (λ (b : Bool). won_by none_won (script_of c before k.call) (cond b (answers c before k.call.id ++ granted_answer mode i f stamp (kept_by c before at f) ∷ []) (answers c before k.call.id)) i) (call_test id k.call.id (sym k.is))
        ∙ now_won (script_of c before k.call) (answers c before k.call.id) (granted_answer mode i f stamp (kept_by c before at f)) i (ap (λ (w : Want). closes w i) asks ∙ no_close (wants_next c before id) i asked.0)
        (ap (λ (w : Want). earns w (granted_answer mode i f stamp (kept_by c before at f)) i) asks ∙ grant_earns mode i f stamp (kept_by c before at f) (wants_next c before id) may.opens.asked (owing (begins_owing mode) v))))

-- Operations.

-- an abort is never refused
abort_done : (c : Config) (before : Trace) (at : EpochId) (i : Serial) (m : ℕ) (o : Op) (result : Outcome) → MayCome c before (says.Act at i m o result) → o ≡ op.Abort → is_refusal result ≡ false
abort_done c before at i m op.Abort result may e = over (instance_in (tree_of c at (granted_group before at i) before) i) may.gives
  where
    done : (r : Outcome) → is_given (Some outcome.Done) r ≡ true → is_refusal r ≡ false
    done outcome.Done h = refl
    done _ h = false_true h

    over : (x : Option TreeInstance) → instance_gives (history c before) (tree_of c at (granted_group before at i) before) m op.Abort result x ≡ true → is_refusal result ≡ false
    over None h = false_true h
    over (Some x) h = done result (both_parts _ (is_given (Some outcome.Done) result) h).1
abort_done c before at i m _ result may e = absurd (cc)

act_holds : (c : Config) (n : ℕ) (at : EpochId) (i : Serial) (m : ℕ) (o : Op) (result : Outcome) (before : Trace) (p : Past) → MayCome c before (says.Act at i m o result) → Agrees c before p → (t : Epoch) → t.id ≡ at → (x : Instance) → is_named i x ≡ true
    → InstanceStands before p.calls t.id x → Holds c before p.calls t.id x.grant x.named x.work → Holds c (With n (says.Act at i m o result) before) (told_by c (says.Act at i m o result) p).calls t.id x.grant x.named (work_after p t o result x)
act_holds c n at i m o result before p may a t of x named st h = next_holds c n (says.Act at i m o result) before p may a t.id x.grant x.named x.named x.work (work_after p t o result x) h
    (λ u v. over u (earned_after p t o result x (abort_done c before at i m o result may) v))
  where
    k : CallSoFar
    k = h.call

    -- the call that it was granted to asks for it
    owned : x.named ≡ false → call_of_act before at i m ≡ cond (has_named before x.grant.call) None (Some x.grant.call)
    owned u = ap (λ (e : EpochId). call_of_act before e i m) (sym of) ∙ (ap (λ (j : Serial). call_of_act before t.id j m) (sym (serial_eq x.grant.inst i named)) ∙ (ap (unless_named before (use_number (uses_of before t.id x.grant.inst) m)) st.granted
        ∙ ap (λ (us : List CallId). cond (has_named before x.grant.call) (use_number us m) (Some x.grant.call)) (st.unnamed u).unused))

    mine : (b : Bool) → call_of_act before at i m ≡ cond b None (Some x.grant.call) → is_call (call_of_act before at i m) k.id ≡ true
    mine true e = none_some may.step.call (sym e ∙ may.step.owned)
    mine false e = ap (λ (q : Option CallId). is_call q k.id) e ∙ call_test x.grant.call k.id (sym h.is)

    over : x.named ≡ false → ((earned x.work ≡ true) ⊎ TellsDone o result) → won_by none_won (script_of c before k) (answers c (With n (says.Act at i m o result) before) k.id) x.grant.inst ≡ true
    over u (inl y) = still c n (says.Act at i m o result) before p may a t.id x.grant.inst k h.own h.within tt (h.won u y)
    over u (inr y) = (let asked = mine (has_named before x.grant.call) (owned u) in
        let asks = next_asks c before p a k h.own may.step.call (owner_is (call_of_act before at i m) may.step.call k may.step.owned asked) (want.Do i o) may.step.asked refl in
        ap (λ (b : Bool). won_by none_won (script_of c before k) (cond b (answers c before k.id ++ outcome_answer result ∷ []) (answers c before k.id)) x.grant.inst) asked
        ∙ now_won (script_of c before k) (answers c before k.id) (outcome_answer result) x.grant.inst (ap (λ (w : Want). closes w x.grant.inst) asks)
        (ap (λ (w : Want). earns w (outcome_answer result) x.grant.inst) asks ∙ (ap (λ (z : Answer). earns (want.Do i o) z x.grant.inst) y.is ∙ both (changes o) _ y.change (serial_test i x.grant.inst (sym (serial_eq x.grant.inst i named))))))

-- Releases.

each_left : {X : Type 0} (P Q : X → Type 0) (q : X → Bool) → ((x : X) → q x ≡ true → P x → Q x) → (xs : List X) → AllByRecursion P xs → AllByRecursion Q (filter q xs)
each_left P Q q f [] k = tt
each_left {X} P Q q f (x ∷ xs) k = at (q x) refl (each_left P Q q f xs k.1)
  where
    at : (b : Bool) → q x ≡ b → AllByRecursion Q (filter q xs) → AllByRecursion Q (cond b (x ∷ filter q xs) (filter q xs))
    at true e later = (f x e k.0, later)
    at false e later = later

release_holds : (c : Config) (n : ℕ) (at : EpochId) (i : Serial) (f : FileId) (stamp : Option Stamp) (before : Trace) (p : Past) → MayCome c before (says.Release at i f stamp) → Agrees c before p → AllHold c before p.calls p.epochs
    → AllHold c (With n (says.Release at i f stamp) before) (told_by c (says.Release at i f stamp) p).calls (told_by c (says.Release at i f stamp) p).epochs
release_holds c n at i f stamp before p may a k = each_changed (λ (t : Epoch). EachHolds c before p.calls t.id t.opened) (λ (t : Epoch). EachHolds c (With n (says.Release at i f stamp) before) (told_by c (says.Release at i f stamp) p).calls t.id t.opened) (is_epoch at) (released i f stamp)
    own other (fold (λ (old : Past) (x : Instance). answered (is_ender (epoch_at p at) i) (close_answer stamp x) old) p (filter (is_named i) (epoch_at p at).opened)).epochs
    (subst (AllHold c before p.calls) (sym (fold_epochs (is_ender (epoch_at p at) i) stamp (filter (is_named i) (epoch_at p at).opened) p)) k)
  where
    own : (t : Epoch) → is_epoch at t ≡ true → EachHolds c before p.calls t.id t.opened → EachHolds c (With n (says.Release at i f stamp) before) (told_by c (says.Release at i f stamp) p).calls t.id (filter (λ x. not (is_named i x)) t.opened)
    own t e h = each_left (λ (x : Instance). Holds c before p.calls t.id x.grant x.named x.work) (λ (x : Instance). Holds c (With n (says.Release at i f stamp) before) (told_by c (says.Release at i f stamp) p).calls t.id x.grant x.named x.work) (λ x. not (is_named i x))
        (λ x q j. kept c n (says.Release at i f stamp) before p may a t.id x.grant x.named x.named x.work x.work (λ u v. false_true (ap not (sym (serial_test x.grant.inst i (sym v))) ∙ q)) (λ u v. (u, v)) j) t.opened h

    other : (t : Epoch) → is_epoch at t ≡ false → EachHolds c before p.calls t.id t.opened → EachHolds c (With n (says.Release at i f stamp) before) (told_by c (says.Release at i f stamp) p).calls t.id t.opened
    other t e h = opened_kept c n (says.Release at i f stamp) before p may a t.id (λ j u v. false_true (sym e ∙ epoch_test t.id at (sym u))) t.opened h

-- Commits.

-- what passes of each
each_unfiltered : {X : Type 0} (P : X → Type 0) (q : X → Bool) (xs : List X) → AllByRecursion P (filter q xs) → AllByRecursion (λ (x : X). q x ≡ true → P x) xs
each_unfiltered P q [] h = tt
each_unfiltered {X} P q (x ∷ xs) h = over (q x) refl h (each_unfiltered P q xs)
  where
    over : (b : Bool) → q x ≡ b → AllByRecursion P (cond b (x ∷ filter q xs) (filter q xs)) → (AllByRecursion P (filter q xs) → AllByRecursion (λ (y : X). q y ≡ true → P y) xs) → (q x ≡ true → P x) × AllByRecursion (λ (y : X). q y ≡ true → P y) xs
    over true e j later = ((λ u. j.0), later j.1)
    over false e j later = ((λ u. false_true (sym e ∙ u)), later j)

-- a member of the lists that are joined is one of theirs
each_writer : (P : Instance → Type 0) (w : Instance → Bool) (ts : List Epoch) (old : List Instance) → AllByRecursion P (fold (λ (old : List Instance) (t : Epoch). filter w t.opened ++ old) old ts) → AllByRecursion (λ (t : Epoch). AllByRecursion (λ (x : Instance). w x ≡ true → P x) t.opened) ts × AllByRecursion P old
each_writer P w [] old k = (tt, k)
each_writer P w (t ∷ ts) old k = (let later = each_writer P w ts (filter w t.opened ++ old) k in ((each_unfiltered P w t.opened (parts (filter w t.opened) later.1).0, later.0), (parts (filter w t.opened) later.1).1))
  where
    parts : (xs : List Instance) → AllByRecursion P (xs ++ old) → AllByRecursion P xs × AllByRecursion P old
    parts [] h = (tt, h)
    parts (x ∷ xs) h = ((h.0, (parts xs h.1).0), (parts xs h.1).1)

commit_holds : (c : Config) (n : ℕ) (f : FileId) (s : ℕ) (stamp : Stamp) (parents : List Stamp) (content : List ℕ) (before : Trace) (p : Past) → MayCome c before (says.Commit f s stamp parents content) → Agrees c before p → AllHold c before p.calls p.epochs
    → AllHold c (With n (says.Commit f s stamp parents content) before) (told_by c (says.Commit f s stamp parents content) p).calls (told_by c (says.Commit f s stamp parents content) p).epochs
commit_holds c n f s stamp parents content before p may a k = by (committer c before p f s stamp parents content may a)
  where
    r : Record
    r = says.Commit f s stamp parents content

    by : Committer c before p f s may.instance → AllHold c (With n r before) (told_by c r p).calls (told_by c r p).epochs
    by it = each_changed (λ (t : Epoch). EachHolds c before p.calls t.id t.opened × (is_home_of p s t ≡ true → AllByRecursion (λ (x : Instance). is_writer f s x ≡ true → x ≡ it.one) t.opened)) (λ (t : Epoch). EachHolds c (With n r before) (told_by c r p).calls t.id t.opened)
        (is_home_of p s) (λ (t : Epoch). record t { opened = change (is_writer f s) (λ (x : Instance). record x { work = committed stamp x.work }) t.opened }) home other p.epochs
        (each_both (λ (t : Epoch). EachHolds c before p.calls t.id t.opened) (λ (t : Epoch). is_home_of p s t ≡ true → AllByRecursion (λ (x : Instance). is_writer f s x ≡ true → x ≡ it.one) t.opened) _ (λ t x y. (x, y)) p.epochs k
        (each_unfiltered (λ (t : Epoch). AllByRecursion (λ (x : Instance). is_writer f s x ≡ true → x ≡ it.one) t.opened) (is_home_of p s) p.epochs
        (each_writer (λ (x : Instance). x ≡ it.one) (is_writer f s) (filter (is_home_of p s) p.epochs) [] (subst (AllByRecursion (λ (x : Instance). x ≡ it.one)) (sym it.only) (refl, tt))).0))
      where
        owed : (x : Instance) → x ≡ it.one → earned x.work ≡ true
        owed x e = ap (λ (b : Bool). b || (is_some x.work.committed || x.work.fresh)) (ap (λ (y : Instance). y.work.owes) e ∙ (ap (λ (y : TreeInstance). y.work.owes) it.is ∙ may.owes))

        home : (t : Epoch) → is_home_of p s t ≡ true → EachHolds c before p.calls t.id t.opened × (is_home_of p s t ≡ true → AllByRecursion (λ (x : Instance). is_writer f s x ≡ true → x ≡ it.one) t.opened)
            → EachHolds c (With n r before) (told_by c r p).calls t.id (change (is_writer f s) (λ (x : Instance). record x { work = committed stamp x.work }) t.opened)
        home t e h = each_changed (λ (x : Instance). Holds c before p.calls t.id x.grant x.named x.work × (is_writer f s x ≡ true → x ≡ it.one)) (λ (x : Instance). Holds c (With n r before) (told_by c r p).calls t.id x.grant x.named x.work) (is_writer f s) (λ (x : Instance). record x { work = committed stamp x.work })
            (λ x w j. kept c n r before p may a t.id x.grant x.named x.named x.work (committed stamp x.work) tt (λ u v. (u, owed x (j.1 w))) j.0)
            (λ x w j. kept c n r before p may a t.id x.grant x.named x.named x.work x.work tt (λ u v. (u, v)) j.0) t.opened
            (each_both (λ (x : Instance). Holds c before p.calls t.id x.grant x.named x.work) (λ (x : Instance). is_writer f s x ≡ true → x ≡ it.one) _ (λ x y z. (y, z)) t.opened h.0 (h.1 e))

        other : (t : Epoch) → is_home_of p s t ≡ false → EachHolds c before p.calls t.id t.opened × (is_home_of p s t ≡ true → AllByRecursion (λ (x : Instance). is_writer f s x ≡ true → x ≡ it.one) t.opened) → EachHolds c (With n r before) (told_by c r p).calls t.id t.opened
        other t e h = opened_kept c n r before p may a t.id (λ j. tt) t.opened h.0

-- Replies.

replies_hold : (c : Config) (n s process : ℕ) (id : CallId) (r : Reply) (before : Trace) (p : Past) → MayCome c before (says.Answer s process id r) → Agrees c before p → AllHold c before p.calls p.epochs
    → AllHold c (With n (says.Answer s process id r) before) (told_by c (says.Answer s process id r) p).calls (told_by c (says.Answer s process id r) p).epochs
replies_hold c n s process id r before p may a all = at (answered_one c before p s process id r may a)
  where
    w : Record
    w = says.Answer s process id r

    at : IsAnswered before p s process id → AllHold c (With n w before) (told_by c w p).calls (told_by c w p).epochs
    at k = subst (λ (q : Past). AllHold c (With n w before) (told_by c w p).calls q.epochs) (sym (answered_past before p s process id r c k)) (each_mapped (λ (t : Epoch). EachHolds c before p.calls t.id t.opened) (λ (t : Epoch). EachHolds c (With n w before) (told_by c w p).calls t.id t.opened) _ one p.epochs all)
      where
        takes : EpochId → Instance → Bool
        takes e x = list_any (λ (d : Descriptor). is_in (Some d.epoch) e && is_named d.inst x) (named_by r k.one)

        -- what it names is won no more
        named_now : (t : Epoch) (x : Instance) → Holds c before p.calls t.id x.grant x.named x.work → Holds c (With n w before) (told_by c w p).calls t.id x.grant true x.work
        named_now t x j = kept c n w before p may a t.id x.grant x.named true x.work x.work tt (λ u v. false_true (sym u)) j

        named_so : (q : Reply) (t : Epoch) (x : Instance) → Holds c (With n w before) (told_by c w p).calls t.id x.grant true x.work → Holds c (With n w before) (told_by c w p).calls t.id (once_named q x).grant (once_named q x).named (once_named q x).work
        named_so (reply.Data bytes) t x j = j
        named_so _ t x j = j

        one : (t : Epoch) → EachHolds c before p.calls t.id t.opened → EachHolds c (With n w before) (told_by c w p).calls t.id (change (takes t.id) (once_named r) t.opened)
        one t h = each_changed (λ (x : Instance). Holds c before p.calls t.id x.grant x.named x.work) (λ (x : Instance). Holds c (With n w before) (told_by c w p).calls t.id x.grant x.named x.work) (takes t.id) (once_named r)
            (λ x q j. named_so r t x (named_now t x j))
            (λ x q j. kept c n w before p may a t.id x.grant x.named x.named x.work x.work tt (λ u v. (u, v)) j) t.opened h

-- All records.

pub holds_step : (c : Config) (n : ℕ) (w : Record) (before : Trace) (p : Past) → MayCome c before w → Agrees c before p → AllHold c before p.calls p.epochs → AllHold c (With n w before) (told_by c w p).calls (told_by c w p).epochs
holds_step c n (says.Accept s process id words) before p may a all = epochs_changed c n (says.Accept s process id words) before p may a (λ e j. tt) (λ (t : Epoch). is_in (accepted_call p s process id words).epoch t.id)
    (λ (t : Epoch). record t { opened = change (uses (accepted_call p s process id words).begins words t.id) (λ (x : Instance). record x { uses = x.uses + 1 }) t.opened })
    (λ t e h. each_changed (λ (x : Instance). Holds c before p.calls t.id x.grant x.named x.work) (λ (x : Instance). Holds c (With n (says.Accept s process id words) before) (told_by c (says.Accept s process id words) p).calls t.id x.grant x.named x.work) (uses (accepted_call p s process id words).begins words t.id) (λ (x : Instance). record x { uses = x.uses + 1 })
    (λ x q j. kept c n (says.Accept s process id words) before p may a t.id x.grant x.named x.named x.work x.work tt (λ u v. (u, v)) j) (λ x q j. kept c n (says.Accept s process id words) before p may a t.id x.grant x.named x.named x.work x.work tt (λ u v. (u, v)) j) t.opened h) p.epochs all
holds_step c n (says.Answer s process id r) before p may a all = replies_hold c n s process id r before p may a all
holds_step c n (says.Stopped s cause) before p may a all = epochs_left c n (says.Stopped s cause) before p may a (λ e j. tt) (is_home_of p s) _ (λ t h. h) p.epochs all
holds_step c n (says.Leave s e) before p may a all = epochs_left c n (says.Leave s e) before p may a (λ e j. tt) (is_home_of p s) _ (λ t h. h) p.epochs all
holds_step c n (says.Join s e members) before p may a all = join_holds c n s e members before p may a all
holds_step c n (says.Start e group copies) before p may a all = epochs_left c n (says.Start e group copies) before p may a (λ e j. tt) (is_epoch e) _ (λ t h. h) p.epochs all
holds_step c n (says.Refuse e id m i mode f why) before p may a all = epochs_left c n (says.Refuse e id m i mode f why) before p may a (λ e j. tt) (is_epoch e) _ (λ t h. h) p.epochs all
holds_step c n (says.Grant e id m i mode f stamp ss) before p may a all = epochs_changed c n (says.Grant e id m i mode f stamp ss) before p may a (λ e j. tt) (is_epoch e) _
    (λ t q h. each_added (λ (x : Instance). Holds c (With n (says.Grant e id m i mode f stamp ss) before) (told_by c (says.Grant e id m i mode f stamp ss) p).calls t.id x.grant x.named x.work) t.opened (opened_as p (record { inst = i; call = id; process = process_of p id; mode = mode; file = f; ss = ss }) stamp)
    (opened_kept c n (says.Grant e id m i mode f stamp ss) before p may a t.id (λ j. tt) t.opened h)
    (subst (λ (z : EpochId). Holds c (With n (says.Grant e id m i mode f stamp ss) before) (told_by c (says.Grant e id m i mode f stamp ss) p).calls z (record { inst = i; call = id; process = process_of p id; mode = mode; file = f; ss = ss }) false (opened_as p (record { inst = i; call = id; process = process_of p id; mode = mode; file = f; ss = ss }) stamp).work) (sym (epoch_eq t.id e q)) (grant_holds c n e id m i mode f stamp ss before p may a))) p.epochs all
holds_step c n (says.Act e i m o result) before p may a all = each_changed (λ (t : Epoch). EpochStands before p.calls t × EachHolds c before p.calls t.id t.opened) (λ (t : Epoch). EachHolds c (With n (says.Act e i m o result) before) (told_by c (says.Act e i m o result) p).calls t.id t.opened) (is_epoch e) (acted i o result p)
    (λ t q h. each_changed (λ (x : Instance). InstanceStands before p.calls t.id x × Holds c before p.calls t.id x.grant x.named x.work) (λ (x : Instance). Holds c (With n (says.Act e i m o result) before) (told_by c (says.Act e i m o result) p).calls t.id x.grant x.named x.work) (is_named i) (λ (x : Instance). record x { work = work_after p t o result x })
    (λ x u j. act_holds c n e i m o result before p may a t (epoch_eq t.id e q) x u j.0 j.1)
    (λ x u j. kept c n (says.Act e i m o result) before p may a t.id x.grant x.named x.named x.work x.work tt (λ y z. (y, z)) j.1) t.opened
    (each_both (InstanceStands before p.calls t.id) (λ (x : Instance). Holds c before p.calls t.id x.grant x.named x.work) _ (λ x y z. (y, z)) t.opened h.0.instances h.1))
    (λ t q h. opened_kept c n (says.Act e i m o result) before p may a t.id (λ j. tt) t.opened h.1) p.epochs
    (each_both (EpochStands before p.calls) (λ (t : Epoch). EachHolds c before p.calls t.id t.opened) _ (λ t x y. (x, y)) p.epochs a.calls.instances all)
holds_step c n (says.Commit f s stamp parents content) before p may a all = commit_holds c n f s stamp parents content before p may a all
holds_step c n (says.Release e i f stamp) before p may a all = release_holds c n e i f stamp before p may a all
holds_step c n w before p may a all = each_more (λ (t : Epoch). EachHolds c before p.calls t.id t.opened) (λ (t : Epoch). EachHolds c (With n w before) (told_by c w p).calls t.id t.opened) (λ t h. opened_kept c n w before p may a t.id (λ j. tt) t.opened h) p.epochs all

-- along a trace
pub all_hold : (c : Config) → IsNamed c → (trace : Trace) → EachComesSo c trace → AllHold c trace (past c trace).calls (past c trace).epochs
all_hold c named [] k = tt
all_hold c named (r ∷ before) k = holds_step c r.line r.what before (past c before) k.0.row (all_agrees c named before k.1) (all_hold c named before k.1)

-- A release that owes no commit is answered fairly.

-- the instances of the epoch of an id
hold_at : (c : Config) (trace : Trace) (calls : List CallSoFar) (e : EpochId) (ts : List Epoch) → AllHold c trace calls ts → EachHolds c trace calls (first_or (unformed e) (is_epoch e) ts).id (first_or (unformed e) (is_epoch e) ts).opened
hold_at c trace calls e [] k = tt
hold_at c trace calls e (t ∷ ts) k = at (is_epoch e t) (hold_at c trace calls e ts k.1)
  where
    at : (b : Bool) → EachHolds c trace calls (first_or (unformed e) (is_epoch e) ts).id (first_or (unformed e) (is_epoch e) ts).opened → EachHolds c trace calls (cond b t (first_or (unformed e) (is_epoch e) ts)).id (cond b t (first_or (unformed e) (is_epoch e) ts)).opened
    at true later = k.0
    at false later = later

-- a call that uses no instance of a descriptor begins at none
not_on : (b : Beginning) (e : EpochId) (i : Serial) (x : Bool) → NotUses b → (is_on b e i && x) ≡ false
not_on (begins.Uses at j) e i x other = absurd other
not_on _ e i x other = refl

pub release_fits : (c : Config) (before : Trace) (p : Past) (e : EpochId) (i : Serial) (f : FileId) (stamp : Option Stamp) → MayCome c before (says.Release e i f stamp) → Agrees c before p → AllHold c before p.calls p.epochs
    → ((y : TreeInstance) → instance_in (tree_of c e f.group before) i ≡ Some y → y.work.owes ≡ false) → ReleaseFits c before p (says.Release e i f stamp)
release_fits c before p e i f stamp may a all owed k own mine walks = by (releases_open c before p e i f stamp may a)
  where
    by : Releases c before p e i f → fits (won_by none_won (asks_after c p k) k.answers) (want.Close i) (close_by stamp (instance_in (tree_of c e f.group before) i)) ≡ true
    by r = ap (λ (o : Option TreeInstance). fits (won_by none_won (asks_after c p k) k.answers) (want.Close i) (close_by stamp o)) r.found
        ∙ (ap (λ (b : Bool). fits (won_by none_won (asks_after c p k) k.answers) (want.Close i) (cond b (answer.Refused Spent) (answer.Ended (cond y.work.fresh stamp None)))) (owed y r.found) ∙ ended y.work.fresh stamp refl)
      where
        y : TreeInstance
        y = r.tree_has

        x : Instance
        x = r.opened.one

        found : find (is_named i) (epoch_at p e).opened ≡ Some x
        found = filter_finds (is_named i) (epoch_at p e).opened x r.opened.only

        it : Holds c before p.calls (epoch_at p e).id x.grant x.named x.work × (is_named i x ≡ true)
        it = each_found (λ (z : Instance). Holds c before p.calls (epoch_at p e).id z.grant z.named z.work) (is_named i) (epoch_at p e).opened x found (hold_at c before p.calls e p.epochs all)

        few : (xs : List Instance) → xs ≡ x ∷ [] → length xs ≤ 1
        few xs q = subst (λ (zs : List Instance). length zs ≤ 1) (sym q) (omega arith)

        ending : ends (epoch_at p e).id x k ≡ true
        ending = sym (any_one (is_named i) (λ (z : Instance). ends (epoch_at p e).id z k) (epoch_at p e).opened x (few (filter (is_named i) (epoch_at p e).opened) r.opened.only) found) ∙ (ender_is c before p e i f stamp may a k own ∙ mine)

        -- no descriptor has named it, and the call is the one that it was granted to
        unnamed : (b : Bool) → cond b (is_on k.begins (epoch_at p e).id x.grant.inst && is_close k.words) (same_call k.id x.grant.call) ≡ true → (b ≡ false) × (same_call k.id x.grant.call ≡ true)
        unnamed true h = false_true (sym (not_on k.begins (epoch_at p e).id x.grant.inst (is_close k.words) walks) ∙ h)
        unnamed false h = (refl, h)

        alone : (x.named ≡ false) × (same_call k.id x.grant.call ≡ true)
        alone = unnamed x.named ending

        same : it.0.call ≡ k
        same = some_same it.0.call k (sym it.0.own ∙ (ap (λ (d : CallId). find (is_id d) p.calls) (it.0.is ∙ sym (call_eq k.id x.grant.call alone.1)) ∙ own))

        won : y.work.fresh ≡ true → won_by none_won (asks_after c p k) k.answers i ≡ true
        won g = ap (λ (s : Script). won_by none_won s k.answers i) scripts ∙ (ap (λ (xs : List Answer). won_by none_won (script_of c before k) xs i) (a.calls.answers k own)
            ∙ (ap (λ (q : CallSoFar). won_by none_won (script_of c before q) (answers c before q.id) i) (sym same) ∙ (ap (won_by none_won (script_of c before it.0.call) (answers c before it.0.call.id)) (sym (serial_eq x.grant.inst i it.1)) ∙ it.0.won alone.0 (fresh_earned x.work.owes (is_some x.work.committed) (ap (λ (z : TreeInstance). z.work.fresh) r.opened.is ∙ g)))))
          where
            scripts : asks_after c p k ≡ script_of c before k
            scripts = λ j xs. (asks_by c before p a k xs) j

            fresh_earned : (u v : Bool) → x.work.fresh ≡ true → (u || (v || x.work.fresh)) ≡ true
            fresh_earned true v q = refl
            fresh_earned false true q = refl
            fresh_earned false false q = q

        ended : (b : Bool) (o : Option Stamp) → y.work.fresh ≡ b → fits (won_by none_won (asks_after c p k) k.answers) (want.Close i) (answer.Ended (cond b o None)) ≡ true
        ended false o g = refl
        ended true None g = refl
        ended true (Some z) g = won g
