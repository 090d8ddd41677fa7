-- The calls by the value and by the folds with each record: names, where they began, what was granted to them, who waits.
use Rattle.std.proofs.Common.{◌≡◌, ℕ, ◌≤◌, ◌==◌, Bool, true, false, not, cond, ◌&&◌, List, [], ◌∷◌, ◌++◌, length, map, filter, Option, Some, None, refl, sym, ◌∙◌, ap, subst, arith}
use Rattle.std.specs.Prelude.{fold}
use Rattle.std.specs.List.{find, AllByRecursion}
use Rattle.std.specs.Option.{option_map}
use Rattle.locus_ids.specs.declared.config.Config.{Config}
use Rattle.locus_ids.specs.declared.ids.CallId.{CallId}
use Rattle.locus_ids.specs.declared.ids.EpochId.{EpochId}
use Rattle.locus_ids.specs.declared.ids.Serial.{Serial}
use Rattle.trace_book.specs.Same.{same_call}
use Rattle.trace_book.specs.declared.call.Call.{Call}
use Rattle.trace_book.specs.declared.descriptor.Beginning.{Beginning}
use Rattle.trace_book.specs.declared.descriptor.Descriptor.{Descriptor}
use Rattle.trace_book.specs.declared.descriptor.OneVersion.{OneVersion}
use Rattle.trace_book.specs.declared.record.Record.{Record}
use Rattle.trace_book.specs.declared.record.Record.TheVariants as says
use Rattle.trace_book.specs.declared.reply.Reply.{Reply}
use Rattle.trace_book.specs.declared.reply.Reply.TheVariants as reply
use Rattle.call_rules.specs.Descriptors.{beginning}
use Rattle.call_rules.specs.Opening.{is_steady}
use Rattle.tree_model.specs.declared.accepted.Waiting.{Waiting}
use Rattle.tree_model.specs.Calls.{call_named, accepted_as, waiting, opening_of, version_at, version_of}
use Rattle.tree_model.specs.Epochs.{epoch_of}
use Rattle.tree_model.specs.Folds.{Trace}
use Rattle.promises.specs.of_lawful_trace.CallRows.{next_call, is_this}
use Rattle.promises.specs.of_lawful_trace.Lawful.{MayCome}
use Rattle.tree_model.specs.State.{instance_in}
use Rattle.tree_model.specs.Tree.{tree_of}
use Rattle.promises.specs.of_lawful_trace.Progress.{answers, granted_answer, outcome_answer, close_answer}
use Rattle.promises.specs.of_lawful_trace.Tables.{begins_now, begun, descriptor, is_opening, kept_by, opened_as, uses_by, uses_of, close_of, is_call, call_of_act, call_of_release}
use Rattle.promises.specs.Past.{Past, CallSoFar, is_on, is_close, site_at, epoch_at, kept_in, table}
use Rattle.promises.specs.After.{is_id, told_by, change, begun_call, replied_to}
use Rattle.past_laws.specs.Agreement.{Agrees, waiting_as}
use Rattle.past_laws.specs.Standing.{CallStands, UsersStand, IsLow, BeginsWell}
use Rattle.past_laws.proofs.Names.{false_true, none_some, some_same, both_parts, number_eq, call_eq, call_own, call_turned}
use Rattle.past_laws.proofs.Changing.{found_passes}
use Rattle.past_laws.proofs.CallsLists.{each_more, none_pass, WasFound, was_found, one_passes, filter_finds}
use Rattle.past_laws.proofs.CallsGranted.{With}
use Rattle.past_laws.proofs.CallsUsing.{uses_from, uses_is, beginning_well}
use Rattle.past_laws.proofs.CallsUsers.{numbered, next_is_new, low_new, low_stays}
use Rattle.past_laws.proofs.CallsAlike.{head, with_waits, with_granted, found_part, Was, was_there, many_alike, each_alike, filter_mapped, map_twice}
use Rattle.past_laws.proofs.CallsSame.{IsNoAccept, heads, waits_same, granted_same}

-- where the call begins that is accepted now, by both
pub begins_same : (c : Config) (before : Trace) (p : Past) → Agrees c before p → (s process : ℕ) (id : CallId) (words : Call) → beginning (table p s process) (site_at p s).epoch id words ≡ begins_now before s process id words
begins_same c before p a s process id words = ap (λ (t : ℕ → Option Descriptor). beginning t (site_at p s).epoch id words) (λ i fd. a.sites.table s process fd i) ∙ ap (λ (e : Option EpochId). beginning (descriptor before s process) e id words) (a.sites.epoch s)

-- the call that an accept adds
abbrev pub accepted_call : Past → ℕ → ℕ → CallId → Call → CallSoFar
accepted_call p s process id words = begun_call p s process id words (beginning (table p s process) (site_at p s).epoch id words)

waiting_same : (a b : ℕ) (process : ℕ) (d : CallId) (words : Call) (e f : Option EpochId) → a ≡ b → e ≡ f → ◌≡◌ {A = Waiting} (record { site = a; process = process; call = d; words = words; epoch = e }) (record { site = b; process = process; call = d; words = words; epoch = f })
waiting_same a b process d words e f g h = λ i. record { site = g i; process = process; call = d; words = words; epoch = h i }

pub accepted_same : (c : Config) (before : Trace) (p : Past) → Agrees c before p → (s process : ℕ) (new : CallId) (words : Call) → new ≡ next_call before s → waiting_as (accepted_call p s process new words) ≡ accepted_as before s process new words
accepted_same c before p a s process new words e = waiting_same new.site s process new words (site_at p s).epoch (epoch_of before s) (ap (λ (x : CallId). x.site) e) (a.sites.epoch s)

-- ---- names ----

pub named_step : (c : Config) (n : ℕ) (w : Record) (before : Trace) (p : Past) → MayCome c before w → Agrees c before p → (d : CallId) → option_map waiting_as (find (is_id d) (told_by c w p).calls) ≡ call_named (With n w before) d
named_step c n (says.Accept s process new words) before p may a d = over (same_call new d)
  where
    over : (b : Bool) → option_map waiting_as (cond b (Some (accepted_call p s process new words)) (find (is_id d) p.calls)) ≡ cond b (Some (accepted_as before s process new words)) (call_named before d)
    over true = ap Some (accepted_same c before p a s process new words (numbered c before s process new words may))
    over false = a.calls.named d
named_step c n w before p may a d = found_part head waiting_as (λ x k. refl) (λ k. refl) (told_by c w p).calls p.calls (heads c w p tt) d ∙ a.calls.named d

-- a new name is none that is there
none_new : (s : ℕ) (before : Trace) (new d : CallId) (ks : List CallSoFar) → new ≡ next_call before s → same_call new d ≡ true → AllByRecursion (CallStands before) ks → filter (is_id d) ks ≡ []
none_new s before new d ks e h stand = none_pass (is_id d) ks (each_more (CallStands before) (λ (k : CallSoFar). is_id d k ≡ false) other ks stand)
  where
    other : (k : CallSoFar) → CallStands before k → same_call k.id d ≡ false
    other k st = over (same_call k.id d) refl
      where
        over : (b : Bool) → same_call k.id d ≡ b → b ≡ false
        over true q = next_is_new before s k.id st.low (call_eq k.id d q ∙ (sym (call_eq new d h) ∙ e))
        over false q = refl

pub once_step : (c : Config) (n : ℕ) (w : Record) (before : Trace) (p : Past) → MayCome c before w → Agrees c before p → (d : CallId) → length (filter (is_id d) (told_by c w p).calls) ≤ 1
once_step c n (says.Accept s process new words) before p may a d = over (same_call new d) refl
  where
    one : (k : CallSoFar) (ks : List CallSoFar) → ks ≡ [] → length (k ∷ ks) ≤ 1
    one k ks e = rw e (omega arith)

    over : (b : Bool) → same_call new d ≡ b → length (cond b (accepted_call p s process new words ∷ filter (is_id d) p.calls) (filter (is_id d) p.calls)) ≤ 1
    over true e = one (accepted_call p s process new words) (filter (is_id d) p.calls) (none_new s before new d p.calls (numbered c before s process new words may) e a.calls.stand)
    over false e = a.calls.once d
once_step c n w before p may a d = (let same : length (filter (is_id d) (told_by c w p).calls) ≡ length (filter (is_id d) p.calls) = many_alike head (λ x k. refl) (told_by c w p).calls p.calls (heads c w p tt) d in let few : length (filter (is_id d) p.calls) ≤ 1 = a.calls.once d in subst (λ (m : ℕ). m ≤ 1) (sym same) few)

-- ---- where calls began ----

pub begun_step : (c : Config) (n : ℕ) (w : Record) (before : Trace) (p : Past) → MayCome c before w → Agrees c before p → (d : CallId) → option_map (λ (k : CallSoFar). k.begins) (find (is_id d) (told_by c w p).calls) ≡ begun (With n w before) d
begun_step c n (says.Accept s process new words) before p may a d = over (same_call new d)
  where
    over : (b : Bool) → option_map (λ (k : CallSoFar). k.begins) (cond b (Some (accepted_call p s process new words)) (find (is_id d) p.calls)) ≡ cond b (Some (begins_now before s process new words)) (begun before d)
    over true = ap Some (begins_same c before p a s process new words)
    over false = a.calls.begun d
begun_step c n w before p may a d = found_part head (λ (k : CallSoFar). k.begins) (λ x k. refl) (λ k. refl) (told_by c w p).calls p.calls (heads c w p tt) d ∙ a.calls.begun d

-- ---- names that none has ----

-- the name of the call that is accepted is none that was
pub new_none : (before : Trace) (s : ℕ) (new : CallId) → UsersStand before → new ≡ next_call before s → call_named before new ≡ None
new_none before s new u e = over (call_named before new) refl
  where
    over : (o : Option Waiting) → call_named before new ≡ o → o ≡ None
    over None h = refl
    over (Some w) h = next_is_new before s new (u.low new w h) e

-- a call that was accepted is none that wasn't
named_apart : {A : Type 0} (before : Trace) (d other : CallId) (w : Waiting) → call_named before d ≡ Some w → call_named before other ≡ None → same_call d other ≡ true → A
named_apart before d other w h k e = none_some w (sym k ∙ (ap (call_named before) (sym (call_eq d other e)) ∙ h))

-- the call that a step belongs to has a name
is_named_call : (before : Trace) (o : Option CallId) (d other : CallId) (w : Waiting) → o ≡ Some d → call_named before d ≡ Some w → call_named before other ≡ None → is_call o other ≡ false
is_named_call before o d other w e h k = ap (λ (x : Option CallId). is_call x other) e ∙ over (same_call d other) refl
  where
    over : (b : Bool) → same_call d other ≡ b → b ≡ false
    over true q = named_apart before d other w h k q
    over false q = refl

not_same : (before : Trace) (d other : CallId) (w : Waiting) → call_named before d ≡ Some w → call_named before other ≡ None → same_call d other ≡ false
not_same before d other w h k = is_named_call before (Some d) d other w refl h k

unheard_accept : (c : Config) (n s process : ℕ) (new : CallId) (words : Call) (before : Trace) → ((d : CallId) → call_named before d ≡ None → (opening_of before d ≡ None) × (answers c before d ≡ [])) → (d : CallId) → call_named (With n (says.Accept s process new words) before) d ≡ None → (opening_of before d ≡ None) × (answers c before d ≡ [])
unheard_accept c n s process new words before old d h = over (same_call new d) h
  where
    over : (b : Bool) → cond b (Some (accepted_as before s process new words)) (call_named before d) ≡ None → (opening_of before d ≡ None) × (answers c before d ≡ [])
    over true k = none_some (accepted_as before s process new words) (sym k)
    over false k = old d k

pub unheard_step : (c : Config) (n : ℕ) (w : Record) (before : Trace) → MayCome c before w → ((d : CallId) → call_named before d ≡ None → (opening_of before d ≡ None) × (answers c before d ≡ []))
    → (d : CallId) → call_named (With n w before) d ≡ None → (opening_of (With n w before) d ≡ None) × (answers c (With n w before) d ≡ [])
unheard_step c n (says.Accept s process new words) before may old d h = unheard_accept c n s process new words before old d h
unheard_step c n (says.Look e id request f w result) before may old d h = (let k = old d h in (k.0, rw (not_same before id d may.step.accepted may.step.named h) k.1))
unheard_step c n (says.Grant e id request i m f stamp ss) before may old d h = (let k = old d h in let no = not_same before id d may.opens.step.accepted may.opens.step.named h in (rw no k.0, rw no k.1))
unheard_step c n (says.Refuse e id request i m f why) before may old d h = (let k = old d h in (k.0, rw (not_same before id d may.opens.step.accepted may.opens.step.named h) k.1))
unheard_step c n (says.Act e i m o result) before may old d h = (let k = old d h in (k.0, ap (λ (b : Bool). cond b (answers c before d ++ outcome_answer result ∷ []) (answers c before d)) (is_named_call before (call_of_act before e i m) may.step.call d may.step.step.accepted may.step.owned may.step.step.named h) ∙ k.1))
unheard_step c n (says.Release e i f stamp) before may old d h = (let k = old d h in (k.0, ap (λ (b : Bool). cond b (answers c before d ++ close_answer stamp (instance_in (tree_of c e f.group before) i) ∷ []) (answers c before d)) (is_named_call before (call_of_release before e i) may.step.call d may.step.step.accepted may.step.owned may.step.step.named h) ∙ k.1))
unheard_step c n _ before may old d h = old d h

-- ---- what was granted to them ----

pub granted_step : (c : Config) (n : ℕ) (w : Record) (before : Trace) (p : Past) → MayCome c before w → Agrees c before p → (k : CallSoFar) → find (is_id k.id) (told_by c w p).calls ≡ Some k → k.granted ≡ opened_as (With n w before) k.id
granted_step c n (says.Accept s process new words) before p may a k h = over (same_call new k.id) refl h
  where
    none : same_call new k.id ≡ true → opening_of before k.id ≡ None
    none e = ap (opening_of before) (sym (call_eq new k.id e)) ∙ (a.calls.unheard new (new_none before s new a.calls.users (numbered c before s process new words may))).0

    as_now : Option Waiting → Option Descriptor → Option Descriptor
    as_now w = option_map (λ (d : Descriptor). record d { steady = kept_by w (version_of before k.id) })

    over : (b : Bool) → same_call new k.id ≡ b → cond b (Some (accepted_call p s process new words)) (find (is_id k.id) p.calls) ≡ Some k → k.granted ≡ as_now (cond b (Some (accepted_as before s process new words)) (call_named before k.id)) (opening_of before k.id)
    over true e q = ap (λ (x : CallSoFar). x.granted) (sym (some_same (accepted_call p s process new words) k q)) ∙ ap (as_now (Some (accepted_as before s process new words))) (sym (none e))
    over false e q = a.calls.granted k q
granted_step c n (says.Grant e id request i m f stamp ss) before p may a k h = at (was_found (is_id k.id) (is_id id) grants (λ x. refl) p.calls k h)
  where
    it : Option OneVersion → Descriptor
    it kept = record { mode = m; epoch = e; inst = i; steady = kept }

    grants : CallSoFar → CallSoFar
    grants x = record x { granted = Some (it (cond (is_steady x.words) (version_at f stamp) None)); answers = x.answers ++ granted_answer m i f stamp (kept_in p (epoch_at p e) f) ∷ [] }

    -- by whether it is this call that is granted it
    as_now : Bool → Option Descriptor
    as_now b = option_map (λ (d : Descriptor). record d { steady = kept_by (call_named before k.id) (cond b (version_at f stamp) (version_of before k.id)) }) (cond b (Some (it None)) (opening_of before k.id))

    at : WasFound (is_id k.id) (is_id id) grants p.calls k → k.granted ≡ as_now (same_call id k.id)
    at y = over (same_call y.was.id id) refl y.is
      where
        same : y.was.id ≡ k.id
        same = call_eq y.was.id k.id (found_passes (is_id k.id) p.calls y.was y.found)

        turned : same_call y.was.id id ≡ same_call id k.id
        turned = call_turned y.was.id id ∙ ap (same_call id) same

        named : call_named before k.id ≡ Some (waiting_as y.was)
        named = sym (a.calls.named k.id) ∙ ap (option_map waiting_as) y.found

        over : (b : Bool) → same_call y.was.id id ≡ b → cond b (grants y.was) y.was ≡ k → k.granted ≡ as_now (same_call id k.id)
        over true q r = ap (λ (x : CallSoFar). x.granted) (sym r) ∙ (ap (λ (w : Option Waiting). Some (it (kept_by w (version_at f stamp)))) (sym named) ∙ ap as_now (sym q ∙ turned))
        over false q r = ap (λ (x : CallSoFar). x.granted) (sym r) ∙ (a.calls.granted y.was (ap (λ (x : CallId). find (is_id x) p.calls) same ∙ y.found) ∙ (ap (opened_as before) same ∙ ap as_now (sym q ∙ turned)))
granted_step c n w before p may a k h = at (was_there with_granted (λ d x. refl) p.calls (told_by c w p).calls (sym (granted_same c w p tt)) k h)
  where
    at : Was with_granted p.calls k → k.granted ≡ opened_as before k.id
    at it = (let same : it.was.id ≡ k.id = ap (λ (x : CallSoFar). x.id) it.same in
        ap (λ (x : CallSoFar). x.granted) (sym it.same) ∙ (a.calls.granted it.was (ap (λ (x : CallId). find (is_id x) p.calls) same ∙ it.found) ∙ ap (opened_as before) same))

-- ---- who waits ----

-- those that wait, as the folds have them
abbrev pub waiting_in : List CallSoFar → List Waiting
waiting_in ks = map waiting_as (filter (λ (k : CallSoFar). k.waits) ks)

waiting_part : (xs ys : List CallSoFar) → map with_waits xs ≡ map with_waits ys → waiting_in xs ≡ waiting_in ys
waiting_part xs ys e = sym (part xs) ∙ (ap waiting_in e ∙ part ys)
  where
    part : (zs : List CallSoFar) → waiting_in (map with_waits zs) ≡ waiting_in zs
    part zs = ap (map waiting_as) (filter_mapped (λ (k : CallSoFar). k.waits) (λ (k : CallSoFar). k.waits) with_waits (λ k. refl) zs) ∙ map_twice with_waits waiting_as (filter (λ (k : CallSoFar). k.waits) zs)

-- those that pass wait no longer
abbrev ceases : CallSoFar → CallSoFar
ceases k = record k { waits = false }

waiting_ceased : (q : CallSoFar → Bool) (r : Waiting → Bool) → ((k : CallSoFar) → r (waiting_as k) ≡ q k) → (ks : List CallSoFar) → waiting_in (change q ceases ks) ≡ filter (λ (w : Waiting). not (r w)) (waiting_in ks)
waiting_ceased q r same [] = refl
waiting_ceased q r same (k ∷ ks) = over (q k) k.waits (waiting_ceased q r same ks) (same k)
  where
    over : (a b : Bool) → waiting_in (change q ceases ks) ≡ filter (λ (w : Waiting). not (r w)) (waiting_in ks) → r (waiting_as k) ≡ a → waiting_in (cond a (ceases k) (record k { waits = b }) ∷ change q ceases ks) ≡ filter (λ (w : Waiting). not (r w)) (waiting_in (record k { waits = b } ∷ ks))
    over true true later e = rw e later
    over true false later e = later
    over false true later e = rw e (ap (λ (ws : List Waiting). waiting_as k ∷ ws) later)
    over false false later e = later

-- the call that a reply answers: it waits, and no other has its name
pub record IsAnswered (before : Trace) (p : Past) (s process : ℕ) (id : CallId) : Type 0 where
  pub one : CallSoFar
  pub only : filter (is_id id) p.calls ≡ one ∷ []
  pub found : find (is_id id) p.calls ≡ Some one
  pub id_is : one.id ≡ id
  pub waits : one.waits ≡ true
  pub site_is : one.id.site ≡ s
  pub process_is : one.process ≡ process
  pub caller : find (is_this s process id) (waiting before) ≡ Some (waiting_as one)

-- what is found among those that wait
record FoundWaiting (q : Waiting → Bool) (ks : List CallSoFar) (w : Waiting) : Type 0 where
  one : CallSoFar
  found : find (λ (k : CallSoFar). k.waits && q (waiting_as k)) ks ≡ Some one
  is : waiting_as one ≡ w

found_waiting : (q : Waiting → Bool) (ks : List CallSoFar) (w : Waiting) → find q (waiting_in ks) ≡ Some w → FoundWaiting q ks w
found_waiting q [] w e = none_some w e
found_waiting q (k ∷ ks) w e = over (found_waiting q ks w) k.waits (q (waiting_as k)) refl refl e
  where
    more : k.waits && q (waiting_as k) ≡ false → FoundWaiting q ks w → FoundWaiting q (k ∷ ks) w
    more h it = record { one = it.one; found = rw h it.found; is = it.is }

    over : (find q (waiting_in ks) ≡ Some w → FoundWaiting q ks w) → (a b : Bool) → k.waits ≡ a → q (waiting_as k) ≡ b → find q (map waiting_as (cond a (k ∷ filter (λ (x : CallSoFar). x.waits) ks) (filter (λ (x : CallSoFar). x.waits) ks))) ≡ Some w → FoundWaiting q (k ∷ ks) w
    over later true true f g h = record { one = k; found = rw (f, g) refl; is = some_same (waiting_as k) w (rw g at h) }
    over later true false f g h = more (rw f g) (later (rw g at h))
    over later false b f g h = more (rw f refl) (later h)

pub answered_one : (c : Config) (before : Trace) (p : Past) (s process : ℕ) (id : CallId) (r : Reply) → MayCome c before (says.Answer s process id r) → Agrees c before p → IsAnswered before p s process id
answered_one c before p s process id r may a = at (found_waiting (is_this s process id) p.calls may.caller (ap (find (is_this s process id)) a.calls.waits ∙ may.waits))
  where
    at : FoundWaiting (is_this s process id) p.calls may.caller → IsAnswered before p s process id
    at f = (let passes = both_parts f.one.waits (is_this s process id (waiting_as f.one)) (found_passes (λ (k : CallSoFar). k.waits && is_this s process id (waiting_as k)) p.calls f.one f.found) in
        let this = both_parts ((f.one.id.site == s) && (f.one.process == process)) (same_call f.one.id id) passes.1 in
        let place = both_parts (f.one.id.site == s) (f.one.process == process) this.0 in
        let only = one_passes (is_id id) (λ (k : CallSoFar). k.waits && is_this s process id (waiting_as k)) p.calls f.one (a.calls.once id) f.found this.1 in
        record {
          one = f.one;
          only = only;
          found = filter_finds (is_id id) p.calls f.one only;
          id_is = call_eq f.one.id id this.1;
          waits = passes.0;
          site_is = number_eq f.one.id.site s place.0;
          process_is = number_eq f.one.process process place.1;
          caller = may.waits ∙ ap Some (sym f.is);
        })

-- the value after a reply
pub answered_past : (before : Trace) (p : Past) (s process : ℕ) (id : CallId) (r : Reply) (c : Config) → (k : IsAnswered before p s process id) → told_by c (says.Answer s process id r) p ≡ replied_to r k.one p
answered_past before p s process id r c k = ap (fold (λ (old : Past) (x : CallSoFar). replied_to r x old) p) k.only

pub waits_step : (c : Config) (n : ℕ) (w : Record) (before : Trace) (p : Past) → MayCome c before w → Agrees c before p → waiting_in (told_by c w p).calls ≡ waiting (With n w before)
waits_step c n (says.Accept s process new words) before p may a = ap (λ (x : Waiting). x ∷ waiting_in p.calls) (accepted_same c before p a s process new words (numbered c before s process new words may)) ∙ ap (λ (ws : List Waiting). accepted_as before s process new words ∷ ws) a.calls.waits
waits_step c n (says.Stopped s cause) before p may a = waiting_ceased (λ (k : CallSoFar). k.id.site == s) (λ (w : Waiting). w.site == s) (λ k. refl) p.calls ∙ ap (filter (λ (w : Waiting). not (w.site == s))) a.calls.waits
waits_step c n (says.Answer s process id r) before p may a = at (answered_one c before p s process id r may a)
  where
    at : IsAnswered before p s process id → waiting_in (told_by c (says.Answer s process id r) p).calls ≡ filter (λ (w : Waiting). not (same_call w.call id)) (waiting before)
    at k = ap (λ (q : Past). waiting_in q.calls) (answered_past before p s process id r c k)
        ∙ (waiting_ceased (is_id k.one.id) (λ (w : Waiting). same_call w.call k.one.id) (λ x. refl) p.calls
        ∙ (ap (λ (x : CallId). filter (λ (w : Waiting). not (same_call w.call x)) (waiting_in p.calls)) k.id_is
        ∙ ap (filter (λ (w : Waiting). not (same_call w.call id))) a.calls.waits))
waits_step c n w before p may a = waiting_part (told_by c w p).calls p.calls (waits_same c w p tt) ∙ a.calls.waits

-- ---- what stands of each call ----

-- the first call of a list that is new has its close, and no other
stand_new : (c : Config) (n s process : ℕ) (new : CallId) (words : Call) (before : Trace) (p : Past) → MayCome c before (says.Accept s process new words) → Agrees c before p → CallStands (With n (says.Accept s process new words) before) (accepted_call p s process new words)
stand_new c n s process new words before p may a = record {
  low = low_new n s process new words before is_next;
  closes = λ e i. closes e i;
  used = λ e i. used e i;
  well = beginning_well (table p s process) (site_at p s).epoch new words;
  within = λ e i h. (let f = uses_from (table p s process) (site_at p s).epoch new words e i (uses_is (accepted_call p s process new words).begins e i h) in f.inside);
}
  where
    is_next : new ≡ next_call before s
    is_next = numbered c before s process new words may

    b : Beginning
    b = begins_now before s process new words

    same_on : (e : EpochId) (i : Serial) → is_on (accepted_call p s process new words).begins e i ≡ uses_by (begins_now before s process new words) e i
    same_on e i = ap (λ (x : Beginning). uses_by x e i) (begins_same c before p a s process new words)

    not_old : (e : EpochId) (i : Serial) (o : Option CallId) → close_of before e i ≡ o → false ≡ is_call o new
    not_old e i None h = refl
    not_old e i (Some d) h = over (same_call d new) refl
      where
        over : (x : Bool) → same_call d new ≡ x → false ≡ x
        over true q = next_is_new before s d (a.calls.users.low_close e i d h) (call_eq d new q ∙ is_next)
        over false q = refl

    closes : (e : EpochId) (i : Serial) → is_on (accepted_call p s process new words).begins e i && is_close words ≡ is_call (close_of (With n (says.Accept s process new words) before) e i) new
    closes e i = ap (λ (x : Bool). x && is_close words) (same_on e i) ∙ over (is_close words) (uses_by (begins_now before s process new words) e i)
      where
        over : (x y : Bool) → y && x ≡ is_call (cond (x && y) (Some new) (close_of before e i)) new
        over true true = sym (call_own new)
        over true false = not_old e i (close_of before e i) refl
        over false true = not_old e i (close_of before e i) refl
        over false false = not_old e i (close_of before e i) refl

    used : (e : EpochId) (i : Serial) → is_on (accepted_call p s process new words).begins e i && not (is_close words) ≡ true → uses_of (With n (says.Accept s process new words) before) e i ≡ [] → ⊥
    used e i h k = over (is_close words) (uses_by (begins_now before s process new words) e i) (ap (λ (x : Bool). x && not (is_close words)) (sym (same_on e i)) ∙ h) k
      where
        filled : {xs : List CallId} → ◌≡◌ {A = List CallId} (new ∷ xs) [] → ⊥
        filled q = cc

        over : (x y : Bool) → y && not x ≡ true → cond (not x && y) (new ∷ uses_of before e i) (uses_of before e i) ≡ [] → ⊥
        over true true q r = false_true q
        over true false q r = false_true q
        over false true q r = filled r
        over false false q r = false_true q

-- an older call when one is accepted
stand_old : (c : Config) (n s process : ℕ) (new : CallId) (words : Call) (before : Trace) (p : Past) → MayCome c before (says.Accept s process new words) → Agrees c before p → (k : CallSoFar) → CallStands before k → CallStands (With n (says.Accept s process new words) before) k
stand_old c n s process new words before p may a k st = record {
  low = low_stays c n (says.Accept s process new words) before k.id may st.low;
  closes = λ e i. closes e i;
  used = λ e i h r. st.used e i h (emptied (not (is_close words) && uses_by (begins_now before s process new words) e i) r);
  well = st.well;
  within = st.within;
}
  where
    is_next : new ≡ next_call before s
    is_next = numbered c before s process new words may

    filled : {A : Type 0} {xs : List CallId} → ◌≡◌ {A = List CallId} (new ∷ xs) [] → A
    filled q = absurd (cc)

    emptied : {xs : List CallId} → (x : Bool) → cond x (new ∷ xs) xs ≡ [] → xs ≡ []
    emptied true r = filled r
    emptied false r = r

    apart : same_call new k.id ≡ false
    apart = over (same_call new k.id) refl
      where
        over : (x : Bool) → same_call new k.id ≡ x → x ≡ false
        over true q = next_is_new before s k.id st.low (sym (call_eq new k.id q) ∙ is_next)
        over false q = refl

    -- what is closed now wasn't closed
    unclosed : (e : EpochId) (i : Serial) → uses_by (begins_now before s process new words) e i ≡ true → close_of before e i ≡ None
    unclosed e i q = (let f = uses_from (descriptor before s process) (epoch_of before s) new words e i (uses_is (begins_now before s process new words) e i q) in
        ap (λ (z : EpochId). close_of before z i) (sym f.epoch_is) ∙ (ap (close_of before f.stands.epoch) (sym f.serial_is) ∙ (a.calls.users.stands s process f.fd f.stands f.found).unclosed))

    closes : (e : EpochId) (i : Serial) → is_on k.begins e i && is_close k.words ≡ is_call (close_of (With n (says.Accept s process new words) before) e i) k.id
    closes e i = over (is_close words) (uses_by (begins_now before s process new words) e i) refl
      where
        over : (x y : Bool) → uses_by (begins_now before s process new words) e i ≡ y → is_on k.begins e i && is_close k.words ≡ is_call (cond (x && y) (Some new) (close_of before e i)) k.id
        over true true q = st.closes e i ∙ (ap (λ (o : Option CallId). is_call o k.id) (unclosed e i q) ∙ sym apart)
        over true false q = st.closes e i
        over false true q = st.closes e i
        over false false q = st.closes e i

-- where no call is accepted
stand_same : (c : Config) (n : ℕ) (w : Record) (before : Trace) (k : CallSoFar) → IsNoAccept w → MayCome c before w → CallStands before k → CallStands (With n w before) k
stand_same c n (says.Accept s process new words) before k left may st = absurd left
stand_same c n (says.Up s boot) before k left may st = record { low = low_stays c n (says.Up s boot) before k.id may st.low; closes = st.closes; used = st.used; well = st.well; within = st.within }
stand_same c n (says.Answer s process id (reply.Data bytes)) before k left may st = record { low = st.low; closes = st.closes; used = λ e i h r. st.used e i h (emptied (is_opening (opening_of before id) e i) r); well = st.well; within = st.within }
  where
    emptied : {xs : List CallId} → (b : Bool) → cond b (id ∷ xs) xs ≡ [] → xs ≡ []
    emptied true r = absurd (cc)
    emptied false r = r
stand_same c n _ before k left may st = record { low = st.low; closes = st.closes; used = st.used; well = st.well; within = st.within }

stand_alike : (before : Trace) (a b : CallSoFar) → a.id ≡ b.id → a.begins ≡ b.begins → a.words ≡ b.words → a.epoch ≡ b.epoch → CallStands before a → CallStands before b
stand_alike before a b e f g same_epoch_of st = record {
  low = subst (IsLow before) e st.low;
  closes = λ x i. ap (λ (y : Beginning). is_on y x i && is_close b.words) (sym f) ∙ (ap (λ (y : Call). is_on a.begins x i && is_close y) (sym g) ∙ (st.closes x i ∙ ap (is_call (close_of before x i)) e));
  used = λ x i h r. st.used x i (ap (λ (y : Beginning). is_on y x i && not (is_close a.words)) f ∙ (ap (λ (y : Call). is_on b.begins x i && not (is_close y)) g ∙ h)) r;
  well = subst BeginsWell f st.well;
  within = λ x i h. sym same_epoch_of ∙ st.within x i (ap (λ (y : Beginning). is_on y x i) f ∙ h);
}

pub stand_step : (c : Config) (n : ℕ) (w : Record) (before : Trace) (p : Past) → MayCome c before w → Agrees c before p → AllByRecursion (CallStands (With n w before)) (told_by c w p).calls
stand_step c n (says.Accept s process new words) before p may a = (stand_new c n s process new words before p may a, each_more (CallStands before) (CallStands (With n (says.Accept s process new words) before)) (stand_old c n s process new words before p may a) p.calls a.calls.stand)
stand_step c n w before p may a = each_alike head (CallStands (With n w before)) (λ k st. stand_alike (With n w before) k (head k) refl refl refl refl st) (λ k st. stand_alike (With n w before) (head k) k refl refl refl refl st) p.calls (told_by c w p).calls (sym (heads c w p tt))
    (each_more (CallStands before) (CallStands (With n w before)) (λ k st. stand_same c n w before k tt may st) p.calls a.calls.stand)
