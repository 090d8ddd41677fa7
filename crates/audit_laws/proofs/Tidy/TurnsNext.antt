-- The turns of those who use an open instance, by each record that may follow: the records one by one.
use Rattle.std.proofs.Common.{◌≡◌, ℕ, zero, suc, ◌+◌, ◌&&◌, not, Bool, true, false, cond, List, [], ◌∷◌, ◌++◌, filter, map, Option, refl, sym, ap, subst, ◌∙◌, arith}
use Rattle.std.specs.List.{list_any, AllByRecursion}
use Rattle.locus_ids.specs.declared.config.Config.{Config}
use Rattle.locus_ids.specs.declared.ids.CallId.{CallId}
use Rattle.locus_ids.specs.declared.ids.EpochId.{EpochId}
use Rattle.locus_ids.specs.declared.ids.FileId.{FileId}
use Rattle.locus_ids.specs.declared.ids.Mode.{Mode}
use Rattle.locus_ids.specs.declared.ids.Serial.{Serial}
use Rattle.locus_ids.specs.declared.ids.Stamp.{Stamp}
use Rattle.trace_book.specs.declared.reply.Reply.{Reply}
use Rattle.trace_book.specs.declared.reply.Reply.TheVariants as reply
use Rattle.trace_book.specs.declared.record.Record.{Record}
use Rattle.trace_book.specs.declared.record.Record.TheVariants as rec
use Rattle.call_rules.specs.Descriptors.{beginning}
use Rattle.tree_model.specs.declared.instance.Granted.{Granted}
use Rattle.tree_model.specs.Epochs.{is_in}
use Rattle.promises.specs.Past.{Past, Epoch, CallSoFar, Instance, epoch_at, site_at, table, is_on, is_close}
use Rattle.promises.specs.After.{after, change, uses, turn_of, begun_call, opened_as, once_named}
use Rattle.promises.specs.Rows.{may_follow}
use Rattle.past_laws.proofs.Names.{false_true, epoch_own}
use Rattle.past_laws.proofs.CallsLists.{each_more, each_both, each_changed, each_filter, each_added, none_pass}
use Rattle.plain_facts.proofs.Tests.{and_first}
use Rattle.audit_laws.specs.Tidy.Epochs.{is_grant, EpochsStand}
use Rattle.audit_laws.specs.Tidy.Ties.{has_named, CallTied}
use Rattle.audit_laws.specs.Tidy.Users.{is_use, down_from, first_turn, HasTurns}
use Rattle.audit_laws.specs.Tidy.Tidy.{IsTidy}
use Rattle.audit_laws.proofs.Tidy.Naming.{has_at, IsFresh}
use Rattle.audit_laws.proofs.Tidy.Each.{EpochSteps, epochs_each}
use Rattle.audit_laws.proofs.Tidy.EpochsNext.{grants_new}
use Rattle.audit_laws.proofs.Tidy.TiesParts.{epoch_id}
use Rattle.audit_laws.proofs.Tidy.TiesCalls.{begun_tied}
use Rattle.audit_laws.proofs.Tidy.Turns.{turns_are, turns_last, use_of, IsNoAccept}

abbrev pub TurnsStand : List CallSoFar → Epoch → Type 0
TurnsStand calls t = AllByRecursion (HasTurns calls t.id) t.opened

-- ---- a grant ----

-- no call is on an instance that isn't granted yet
pub unused : (p : Past) (e : EpochId) (i : Serial) → EpochsStand p.epochs → list_any (is_grant i) (epoch_at p e).granted ≡ false → (k : CallSoFar) → CallTied p.epochs k → is_on k.begins e i ≡ false
unused p e i st new k tied = at (is_on k.begins e i) refl
  where
    at : (b : Bool) → is_on k.begins e i ≡ b → b ≡ false
    at true h = false_true (sym new ∙ and_first (list_any (is_grant i) (epoch_at p e).granted) _ (has_at (has_named i) p e st (tied.uses e i h)))
    at false h = refl

none_uses : (p : Past) (e : EpochId) (i : Serial) → EpochsStand p.epochs → AllByRecursion (CallTied p.epochs) p.calls → list_any (is_grant i) (epoch_at p e).granted ≡ false → filter (is_use e i) p.calls ≡ []
none_uses p e i st tied new = none_pass (is_use e i) p.calls (each_more (CallTied p.epochs) (λ (k : CallSoFar). is_use e i k ≡ false) (λ k h. ap (λ b. b && not (is_close k.words)) (unused p e i st new k h)) p.calls tied)

grant_turns : (c : Config) (p : Past) (e : EpochId) (id : CallId) (request : ℕ) (i : Serial) (m : Mode) (f : FileId) (stamp : Option Stamp) (ss : ℕ) → IsTidy c p → may_follow c p (rec.Grant e id request i m f stamp ss) ≡ true → (t : Epoch) → epoch_at p e ≡ t → (g : Granted) → g.inst ≡ i
    → HasTurns (after c (rec.Grant e id request i m f stamp ss) p).calls t.id (opened_as p g stamp)
grant_turns c p e id request i m f stamp ss tidy may t at g is = ap (λ (ts : List ℕ). ts ++ []) (turns_last (is_use t.id g.inst) (use_of t.id g.inst) c p (rec.Grant e id request i m f stamp ss) tidy may tt
    ∙ ap (map (λ (k : CallSoFar). k.turn)) (subst (λ (d : EpochId). filter (is_use d g.inst) p.calls ≡ []) (sym (epoch_id p e) ∙ ap (λ (u : Epoch). u.id) at) (subst (λ (j : Serial). filter (is_use e j) p.calls ≡ []) (sym is) (none_uses p e i tidy.epochs tidy.ties.calls (grants_new c p (epoch_at p e) id request i m f stamp ss may)))))

-- ---- a call more ----

more_down : (n : ℕ) → down_from (n + 1) ≡ (n + 1) ∷ down_from n
more_down n = subst (λ m. down_from m ≡ m ∷ down_from n) (let e : suc n ≡ n + 1 = omega arith in e) refl

used_turns : (calls : List CallSoFar) (k : CallSoFar) (e : EpochId) (x : Instance) → uses k.begins k.words e x ≡ true → k.turn ≡ x.uses + 1 → HasTurns calls e x → HasTurns (k ∷ calls) e (record x { uses = x.uses + 1 })
used_turns calls k e x h turn old = rw h (ap (λ n. n ∷ (map (λ (l : CallSoFar). l.turn) (filter (is_use e x.grant.inst) calls) ++ first_turn x)) turn ∙ (ap (λ ns. (x.uses + 1) ∷ ns) old ∙ sym (more_down x.uses)))

unused_turns : (calls : List CallSoFar) (k : CallSoFar) (e : EpochId) (x : Instance) → uses k.begins k.words e x ≡ false → HasTurns calls e x → HasTurns (k ∷ calls) e x
unused_turns calls k e x h old = rw h old

accept_turns : (p : Past) (k : CallSoFar) → CallTied p.epochs k → k.turn ≡ turn_of p k.begins k.words → EpochsStand p.epochs → AllByRecursion (TurnsStand p.calls) p.epochs
    → AllByRecursion (TurnsStand (k ∷ p.calls)) (change (λ (t : Epoch). is_in k.epoch t.id) (λ (t : Epoch). record t { opened = change (uses k.begins k.words t.id) (λ (x : Instance). record x { uses = x.uses + 1 }) t.opened }) p.epochs)
accept_turns p k tied turn st old = each_changed Both (TurnsStand (k ∷ p.calls)) (λ (t : Epoch). is_in k.epoch t.id) (λ (t : Epoch). record t { opened = change (uses k.begins k.words t.id) (λ (x : Instance). record x { uses = x.uses + 1 }) t.opened })
    (λ t w h. inside t h) (λ t w h. outside t w h) p.epochs (each_both (TurnsStand p.calls) Sums Both (λ t a b. (a, b)) p.epochs old (turns_are p k.begins k.words st))
  where
    Sums : Epoch → Type 0
    Sums t = AllByRecursion (λ (x : Instance). uses k.begins k.words t.id x ≡ true → turn_of p k.begins k.words ≡ x.uses + 1) t.opened

    Both : Epoch → Type 0
    Both t = TurnsStand p.calls t × Sums t

    inside : (t : Epoch) → Both t → TurnsStand (k ∷ p.calls) (record t { opened = change (uses k.begins k.words t.id) (λ (x : Instance). record x { uses = x.uses + 1 }) t.opened })
    inside t h = each_changed Each (HasTurns (k ∷ p.calls) t.id) (uses k.begins k.words t.id) (λ (x : Instance). record x { uses = x.uses + 1 })
        (λ x w g. used_turns p.calls k t.id x w (turn ∙ g.1 w) g.0) (λ x w g. unused_turns p.calls k t.id x w g.0) t.opened
        (each_both (HasTurns p.calls t.id) (λ (x : Instance). uses k.begins k.words t.id x ≡ true → turn_of p k.begins k.words ≡ x.uses + 1) Each (λ x a b. (a, b)) t.opened h.0 h.1)
      where
        Each : Instance → Type 0
        Each x = HasTurns p.calls t.id x × (uses k.begins k.words t.id x ≡ true → turn_of p k.begins k.words ≡ x.uses + 1)

    outside : (t : Epoch) → is_in k.epoch t.id ≡ false → Both t → TurnsStand (k ∷ p.calls) t
    outside t w h = each_more (HasTurns p.calls t.id) (HasTurns (k ∷ p.calls) t.id) (λ x g. unused_turns p.calls k t.id x (at x (uses k.begins k.words t.id x) refl) g) t.opened h.0
      where
        at : (x : Instance) (b : Bool) → uses k.begins k.words t.id x ≡ b → b ≡ false
        at x true u = false_true (sym w ∙ (ap (λ o. is_in o t.id) (tied.within t.id x.grant.inst (and_first (is_on k.begins t.id x.grant.inst) (not (is_close k.words)) u)) ∙ epoch_own t.id))
        at x false u = refl

-- ---- a reply ----

none_down : (n : ℕ) → [] ≡ down_from n → n ≡ 0
none_down zero h = refl
none_down (suc n) h = absurd (none h)
  where
    none : ◌≡◌ {A = List ℕ} [] (suc n ∷ down_from n) → ⊥
    none k = cc

-- a read that opens a version again is its first use
once_turns : (calls : List CallSoFar) (e : EpochId) (r : Reply) (x : Instance) → x.again ≡ false → map (λ (k : CallSoFar). k.turn) (filter (is_use e x.grant.inst) calls) ≡ [] → HasTurns calls e x → HasTurns calls e (once_named r x)
once_turns calls e (reply.Data bytes) x again unused old = ap (λ (ts : List ℕ). ts ++ 1 ∷ []) unused ∙ sym (ap (λ n. down_from (n + 1)) (none_down x.uses (sym (ap (λ (ts : List ℕ). ts ++ first_turn x) unused ∙ ap (λ b. cond b (1 ∷ []) []) again) ∙ old)))
once_turns calls e r x again unused old = old

answer_turns : (c : Config) (p : Past) (site process : ℕ) (id : CallId) (r : Reply) → IsTidy c p → may_follow c p (rec.Answer site process id r) ≡ true → (t : Epoch) (which : Instance → Bool) → AllByRecursion (λ (x : Instance). which x ≡ true → IsFresh p.calls t.id id x) t.opened
    → AllByRecursion (HasTurns (after c (rec.Answer site process id r) p).calls t.id) t.opened → AllByRecursion (HasTurns (after c (rec.Answer site process id r) p).calls t.id) (change which (once_named r) t.opened)
answer_turns c p site process id r tidy may t which fresh old = each_changed Both Turns which (once_named r) (λ x w h. now x (h.0 w) h.1) (λ x w h. h.1) t.opened (each_both (λ (x : Instance). which x ≡ true → IsFresh p.calls t.id id x) Turns Both (λ x a b. (a, b)) t.opened fresh old)
  where
    Turns : Instance → Type 0
    Turns x = HasTurns (after c (rec.Answer site process id r) p).calls t.id x

    Both : Instance → Type 0
    Both x = (which x ≡ true → IsFresh p.calls t.id id x) × Turns x

    now : (x : Instance) → IsFresh p.calls t.id id x → Turns x → Turns (once_named r x)
    now x is h = once_turns (after c (rec.Answer site process id r) p).calls t.id r x is.again
        (turns_last (is_use t.id x.grant.inst) (use_of t.id x.grant.inst) c p (rec.Answer site process id r) tidy may tt ∙ ap (map (λ (k : CallSoFar). k.turn)) is.unused) h

-- ---- the records ----

turn_steps : (c : Config) (p : Past) (r : Record) → IsTidy c p → may_follow c p r ≡ true → IsNoAccept r → EpochSteps (TurnsStand (after c r p).calls) p r
turn_steps c p (rec.Up site boot) tidy may n = tt
turn_steps c p (rec.Stopped site cause) tidy may n = λ t left k. k
turn_steps c p (rec.Leave site e) tidy may n = λ t left k. k
turn_steps c p (rec.Join site e members) tidy may n = (tt, λ t joined known k. k)
turn_steps c p (rec.Start e group copies) tidy may n = λ t started k. k
turn_steps c p (rec.Accept site process id words) tidy may n = absurd n
turn_steps c p (rec.Look e id request f w result) tidy may n = tt
turn_steps c p (rec.Grant e id request i m f stamp ss) tidy may n = λ t at g is k. each_added (HasTurns (after c (rec.Grant e id request i m f stamp ss) p).calls t.id) t.opened (opened_as p g stamp) k (grant_turns c p e id request i m f stamp ss tidy may t at g (ap (λ (d : Granted). d.inst) is))
turn_steps c p (rec.Refuse e id request i m f why) tidy may n = λ t makes k. k
turn_steps c p (rec.Act e i a o result) tidy may n = λ t which work makes k. each_changed (HasTurns (after c (rec.Act e i a o result) p).calls t.id) (HasTurns (after c (rec.Act e i a o result) p).calls t.id) which (λ (x : Instance). record x { work = work x }) (λ x w h. h) (λ x w h. h) t.opened k
turn_steps c p (rec.Commit f site stamp parents content) tidy may n = λ t which work k. each_changed (HasTurns p.calls t.id) (HasTurns p.calls t.id) which (λ (x : Instance). record x { work = work x }) (λ x w h. h) (λ x w h. h) t.opened k
turn_steps c p (rec.Release e i f stamp) tidy may n = λ t known which makes k. each_filter (HasTurns (after c (rec.Release e i f stamp) p).calls t.id) which t.opened k
turn_steps c p (rec.Adopt f site stamp) tidy may n = tt
turn_steps c p (rec.Answer site process id r) tidy may n = λ t which unmended fresh k. answer_turns c p site process id r tidy may t which fresh k
turn_steps c p (rec.Packet number from to kind) tidy may n = tt
turn_steps c p rec.Void tidy may n = tt
turn_steps c p rec.Budget tidy may n = tt

turns_later : (c : Config) (p : Past) (r : Record) → IsTidy c p → may_follow c p r ≡ true → IsNoAccept r → (t : Epoch) → TurnsStand p.calls t → TurnsStand (after c r p).calls t
turns_later c p r tidy may n t h = each_more (HasTurns p.calls t.id) (HasTurns (after c r p).calls t.id) (λ x k. ap (λ (ts : List ℕ). ts ++ first_turn x) (turns_last (is_use t.id x.grant.inst) (use_of t.id x.grant.inst) c p r tidy may n) ∙ k) t.opened h

other_turns : (c : Config) (p : Past) (r : Record) → IsTidy c p → AllByRecursion (TurnsStand p.calls) p.epochs → may_follow c p r ≡ true → IsNoAccept r → AllByRecursion (TurnsStand (after c r p).calls) (after c r p).epochs
other_turns c p r tidy old may n = epochs_each (TurnsStand (after c r p).calls) c p r tidy may (turn_steps c p r tidy may n) (each_more (TurnsStand p.calls) (TurnsStand (after c r p).calls) (turns_later c p r tidy may n) p.epochs old)

pub turns_next : (c : Config) (p : Past) (r : Record) → IsTidy c p → AllByRecursion (TurnsStand p.calls) p.epochs → may_follow c p r ≡ true → AllByRecursion (TurnsStand (after c r p).calls) (after c r p).epochs
turns_next c p (rec.Accept site process id words) tidy old may = accept_turns p (begun_call p site process id words (beginning (table p site process) (site_at p site).epoch id words)) (begun_tied p tidy.ties site process id words) refl tidy.epochs old
turns_next c p (rec.Up site boot) tidy old may = other_turns c p (rec.Up site boot) tidy old may tt
turns_next c p (rec.Stopped site cause) tidy old may = other_turns c p (rec.Stopped site cause) tidy old may tt
turns_next c p (rec.Leave site e) tidy old may = other_turns c p (rec.Leave site e) tidy old may tt
turns_next c p (rec.Join site e members) tidy old may = other_turns c p (rec.Join site e members) tidy old may tt
turns_next c p (rec.Start e group copies) tidy old may = other_turns c p (rec.Start e group copies) tidy old may tt
turns_next c p (rec.Look e id request f w result) tidy old may = other_turns c p (rec.Look e id request f w result) tidy old may tt
turns_next c p (rec.Grant e id request i m f stamp ss) tidy old may = other_turns c p (rec.Grant e id request i m f stamp ss) tidy old may tt
turns_next c p (rec.Refuse e id request i m f why) tidy old may = other_turns c p (rec.Refuse e id request i m f why) tidy old may tt
turns_next c p (rec.Act e i n o result) tidy old may = other_turns c p (rec.Act e i n o result) tidy old may tt
turns_next c p (rec.Commit f site stamp parents content) tidy old may = other_turns c p (rec.Commit f site stamp parents content) tidy old may tt
turns_next c p (rec.Release e i f stamp) tidy old may = other_turns c p (rec.Release e i f stamp) tidy old may tt
turns_next c p (rec.Adopt f site stamp) tidy old may = other_turns c p (rec.Adopt f site stamp) tidy old may tt
turns_next c p (rec.Answer site process id r) tidy old may = other_turns c p (rec.Answer site process id r) tidy old may tt
turns_next c p (rec.Packet number from to kind) tidy old may = other_turns c p (rec.Packet number from to kind) tidy old may tt
turns_next c p rec.Void tidy old may = other_turns c p rec.Void tidy old may tt
turns_next c p rec.Budget tidy old may = other_turns c p rec.Budget tidy old may tt
