-- A call that asks something waits, while its site is in the epoch in which it was made.
use Rattle.std.proofs.Common.{◌≡◌, ℕ, ◌==◌, Bool, true, false, not, cond, ◌&&◌, List, [], ◌∷◌, ◌++◌, filter, Option, Some, None, refl, sym, ◌∙◌, ap, subst, ◌⊎◌, inl, inr}
use Rattle.std.specs.List.{find}
use Rattle.the_run.proofs.of_plain_facts.Numbers.{equal, equal_self}
use Rattle.the_run.proofs.of_plain_facts.Options.{none_some, some_same}
use Rattle.the_run.proofs.of_plain_facts.Tests.{true_false}
use Rattle.locus_ids.specs.declared.config.Config.{Config}
use Rattle.locus_ids.specs.declared.ids.CallId.{CallId}
use Rattle.locus_ids.specs.declared.ids.EpochId.{EpochId}
use Rattle.locus_ids.specs.declared.refusal.Refusal.TheVariants as refusal
use Rattle.trace_book.specs.Same.{same_call}
use Rattle.trace_book.specs.declared.call.Call.{Call}
use Rattle.trace_book.specs.declared.record.Record.{Record}
use Rattle.trace_book.specs.declared.record.Record.TheVariants as says
use Rattle.trace_book.specs.declared.reply.Reply.{Reply}
use Rattle.trace_book.specs.declared.reply.Reply.TheVariants as reply
use Rattle.call_rules.specs.declared.answer.Answer.{Answer}
use Rattle.the_run.specs.of_role_steps.Own.{Every}
use Rattle.the_run.specs.of_role_steps.Views.{Told, Shown, Takes}
use Rattle.the_run.specs.Kept.{Among}
use Rattle.the_run.specs.Worlds.{Line}
use Rattle.lawful_trace.specs.of_tree_model.declared.accepted.Waiting.{Waiting}
use Rattle.lawful_trace.specs.of_tree_model.Calls.{call_named, accepted_as, waiting}
use Rattle.lawful_trace.specs.of_tree_model.Epochs.{epoch_of, has_joined}
use Rattle.lawful_trace.specs.of_tree_model.Folds.{Trace}
use Rattle.lawful_trace.specs.CallRows.{is_this}
use Rattle.lawful_trace.specs.TreeRows.{IsCallIn}
use Rattle.tree_laws.specs.Printed.{entries, onto_entries}
use Rattle.tree_laws.specs.Calls.{log, is_request}
use Rattle.tree_laws.specs.Serials.{asked_now}
use Rattle.tree_laws.specs.Following.{MayTell, IsFollowed, AnswersInTime}
use Rattle.tree_laws.proofs.Boots.{every_filter, every_both, found_every}
use Rattle.tree_laws.proofs.Counting.{asked_same}
use Rattle.tree_laws.proofs.Fresh.{numbered}
use Rattle.tree_laws.proofs.Names.{same_call_eq, same_call_own}
use Rattle.tree_laws.proofs.OneBoot.{joined_where_made}
use Rattle.tree_laws.proofs.Scripts.{named_stays}

abbrev With : ℕ → Told → List Line → List Line
With n x older = record { number = n; told = x } ∷ older

-- ---- lists ----

among_filter : {A : Type 0} (p : A → Bool) (x : A) (xs : List A) → p x ≡ true → Among x xs → Among x (filter p xs)
among_filter p x [] t h = h
among_filter p x (y ∷ ys) t h = at (λ (k : Among x ys). among_filter p x ys t k) (p y) refl h
  where
    at : (Among x ys → Among x (filter p ys)) → (b : Bool) → p y ≡ b → (x ≡ y) ⊎ Among x ys → Among x (cond b (y ∷ filter p ys) (filter p ys))
    at later true e (inl same) = inl same
    at later true e (inr k) = inr (later k)
    at later false e (inl same) = absurd (true_false (sym t ∙ (ap p same ∙ e)))
    at later false e (inr k) = later k

pub found_among : {A : Type 0} (p : A → Bool) (xs : List A) (x : A) → find p xs ≡ Some x → Among x xs
found_among p [] x e = absurd (none_some x e)
found_among p (y ∷ ys) x e = at (λ (k : find p ys ≡ Some x). found_among p ys x k) (p y) e
  where
    at : (find p ys ≡ Some x → Among x ys) → (b : Bool) → cond b (Some y) (find p ys) ≡ Some x → (x ≡ y) ⊎ Among x ys
    at later true k = inl (sym (some_same y x k))
    at later false k = inr (later k)

-- ---- what waits is what was accepted ----

-- an accepted call has its name and its site
pub record IsIt (before : Trace) (d : CallId) (w : Waiting) : Type 0 where
  pub call_is : w.call ≡ d
  pub site_is : w.site ≡ d.site

pub record Accepted (before : Trace) : Type 0 where
  pub named : (d : CallId) (w : Waiting) → call_named before d ≡ Some w → IsIt before d w
  pub waits : Every (λ (w : Waiting). call_named before w.call ≡ Some w) (waiting before)

accepted_accept : (c : Config) (n s process : ℕ) (new : CallId) (words : Call) (older : List Line) → IsFollowed c older → MayTell c older (Shown (says.Accept s process new words)) → Accepted (entries older) → Accepted (record { line = n; what = says.Accept s process new words } ∷ entries older)
accepted_accept c n s process new words older h may k = record { named = λ d w. named d w (same_call new d) refl; waits = (ap (λ (b : Bool). cond b (Some it) (call_named (entries older) new)) (same_call_own new), still (waiting (entries older)) k.waits) }
  where
    it : Waiting
    it = accepted_as (entries older) s process new words

    at_site : new.site ≡ s
    at_site = ap (λ (x : CallId). x.site) (numbered c (entries older) s process new words may.row)

    named : (d : CallId) (w : Waiting) (b : Bool) → same_call new d ≡ b → cond b (Some it) (call_named (entries older) d) ≡ Some w → IsIt (record { line = n; what = says.Accept s process new words } ∷ entries older) d w
    named d w true e h = (let same : new ≡ d = same_call_eq new d e in let is : it ≡ w = some_same it w h in record { call_is = ap (λ (x : Waiting). x.call) (sym is) ∙ same; site_is = ap (λ (x : Waiting). x.site) (sym is) ∙ (sym at_site ∙ ap (λ (x : CallId). x.site) same) })
    named d w false e h = (let i : IsIt (entries older) d w = k.named d w h in record { call_is = i.call_is; site_is = i.site_is })

    still : (ws : List Waiting) → Every (λ (w : Waiting). call_named (entries older) w.call ≡ Some w) ws → Every (λ (w : Waiting). call_named (record { line = n; what = says.Accept s process new words } ∷ entries older) w.call ≡ Some w) ws
    still ws e = every_both (λ (w : Waiting). call_named (entries older) w.call ≡ Some w) (λ (w : Waiting). call_named (record { line = n; what = says.Accept s process new words } ∷ entries older) w.call ≡ Some w) ws (λ w p. named_stays c n (Shown (says.Accept s process new words)) older w.call h may (w, p) ∙ p) e

accepted_record : (c : Config) (n : ℕ) (r : Record) (older : List Line) → IsFollowed c older → MayTell c older (Shown r) → Accepted (entries older) → Accepted (record { line = n; what = r } ∷ entries older)
accepted_record c n (says.Accept s process new words) older h may k = accepted_accept c n s process new words older h may k
accepted_record c n (says.Answer s process call r) older h may k = record { named = λ d w e. (let i : IsIt (entries older) d w = k.named d w e in record { call_is = i.call_is; site_is = i.site_is }); waits = every_filter (λ (w : Waiting). call_named (entries older) w.call ≡ Some w) (λ (w : Waiting). not (same_call w.call call)) (waiting (entries older)) k.waits }
accepted_record c n (says.Stopped s cause) older h may k = record { named = λ d w e. (let i : IsIt (entries older) d w = k.named d w e in record { call_is = i.call_is; site_is = i.site_is }); waits = every_filter (λ (w : Waiting). call_named (entries older) w.call ≡ Some w) (λ (w : Waiting). not (w.site == s)) (waiting (entries older)) k.waits }
accepted_record c n r older h may k = record { named = λ d w e. (let i : IsIt (entries older) d w = k.named d w e in record { call_is = i.call_is; site_is = i.site_is }); waits = k.waits }

accepted_told : (c : Config) (n : ℕ) (x : Told) (older : List Line) → IsFollowed c older → MayTell c older x → Accepted (entries older) → Accepted (onto_entries n x (entries older))
accepted_told c n (Shown r) older h may k = accepted_record c n r older h may k
accepted_told c n _ older h may k = k

pub accepted : (c : Config) (trace : List Line) → IsFollowed c trace → Accepted (entries trace)
accepted c [] h = record { named = λ d w e. absurd (none_some w e); waits = tt }
accepted c (x ∷ older) h = accepted_told c x.number x.told older h.1 h.0 (accepted c older h.1)

-- ---- who asks waits ----

abbrev AskersWait : Config → List Line → Type 0
AskersWait c t = (d : CallId) (w : Waiting) (e : EpochId) → call_named (entries t) d ≡ Some w → w.epoch ≡ Some e → epoch_of (entries t) d.site ≡ Some e → is_request (asked_now c t d) ≡ true → Among w (waiting (entries t))

out_of : {A : Type 0} (b : Bool) (o : Option A) (a : A) → cond b None o ≡ Some a → (b ≡ false) × (o ≡ Some a)
out_of true o a e = absurd (none_some a e)
out_of false o a e = (refl, e)

-- a call that asks isn't answered, while its site is in its epoch
unanswered : (c : Config) (older : List Line) (d : CallId) (e : EpochId) (r : Reply) → AnswersInTime c older d r → epoch_of (entries older) d.site ≡ Some e → is_request (asked_now c older d) ≡ true → ⊥
unanswered c older d e (reply.No (refusal.Changed at)) t inside asks = none_some e (sym t ∙ inside)
unanswered c older d e (reply.Opened fd) t inside asks = true_false (sym asks ∙ t.replies.nothing_asked)
unanswered c older d e (reply.Data bytes) t inside asks = true_false (sym asks ∙ t.replies.nothing_asked)
unanswered c older d e (reply.No why) t inside asks = true_false (sym asks ∙ t.nothing_asked)
unanswered c older d e _ t inside asks = true_false (sym asks ∙ t.nothing_asked)

wait_record : (c : Config) (n : ℕ) (r : Record) (older : List Line) → IsFollowed c older → MayTell c older (Shown r) → AskersWait c older → AskersWait c (With n (Shown r) older)
wait_record c n (says.Accept s process new words) older h may k d w e named made inside asks = at (same_call new d) refl named
  where
    it : Waiting
    it = accepted_as (entries older) s process new words

    at : (b : Bool) → same_call new d ≡ b → cond b (Some it) (call_named (entries older) d) ≡ Some w → (w ≡ it) ⊎ Among w (waiting (entries older))
    at true f m = inl (sym (some_same it w m))
    at false f m = inr (k d w e m made inside (ap is_request (sym (asked_same c older n (Shown (says.Accept s process new words)) d h may (w, m) refl)) ∙ asks))
wait_record c n (says.Answer s process call r) older h may k d w e named made inside asks = among_filter (λ (x : Waiting). not (same_call x.call call)) w (waiting (entries older)) (other (same_call w.call call) refl) (k d w e named made inside before)
  where
    before : is_request (asked_now c older d) ≡ true
    before = ap is_request (sym (asked_same c older n (Shown (says.Answer s process call r)) d h may (w, named) refl)) ∙ asks

    is : w.call ≡ d
    is = ((accepted c older h).named d w named).call_is

    other : (b : Bool) → same_call w.call call ≡ b → not b ≡ true
    other true f = absurd (unanswered c older d e r (subst (λ (y : CallId). AnswersInTime c older y r) (sym (same_call_eq w.call call f) ∙ is) may.in_time) inside before)
    other false f = refl
wait_record c n (says.Stopped s cause) older h may k d w e named made inside asks = (let o : ((s == d.site) ≡ false) × (epoch_of (entries older) d.site ≡ Some e) = out_of (s == d.site) (epoch_of (entries older) d.site) e inside in
    among_filter (λ (x : Waiting). not (x.site == s)) w (waiting (entries older)) (apart (w.site == s) refl o.0) (k d w e named made o.1 (ap is_request (sym (asked_same c older n (Shown (says.Stopped s cause)) d h may (w, named) refl)) ∙ asks)))
  where
    apart : (b : Bool) → (w.site == s) ≡ b → (s == d.site) ≡ false → not b ≡ true
    apart true f g = absurd (true_false (sym (equal_self s) ∙ (ap (λ (m : ℕ). s == m) (sym (equal w.site s f) ∙ ((accepted c older h).named d w named).site_is) ∙ g)))
    apart false f g = refl
wait_record c n (says.Up s boot) older h may k d w e named made inside asks = k d w e named made (out_of (s == d.site) (epoch_of (entries older) d.site) e inside).1 (ap is_request (sym (asked_same c older n (Shown (says.Up s boot)) d h may (w, named) refl)) ∙ asks)
wait_record c n (says.Leave s at) older h may k d w e named made inside asks = k d w e named made (out_of (s == d.site) (epoch_of (entries older) d.site) e inside).1 (ap is_request (sym (asked_same c older n (Shown (says.Leave s at)) d h may (w, named) refl)) ∙ asks)
wait_record c n (says.Join s at members) older h may k d w e named made inside asks = k d w e named made (over (s == d.site) refl inside) (ap is_request (sym (asked_same c older n (Shown (says.Join s at members)) d h may (w, named) refl)) ∙ asks)
  where
    over : (b : Bool) → (s == d.site) ≡ b → cond b (Some at) (epoch_of (entries older) d.site) ≡ Some e → epoch_of (entries older) d.site ≡ Some e
    over true f m = absurd (true_false (sym (joined_where_made c older d e h (record { accepted = w; named = named; made_in = made })) ∙ (ap (has_joined (entries older) d.site) (sym (some_same at e m)) ∙ subst (λ (t : ℕ). has_joined (entries older) t at ≡ false) (equal s d.site f) may.row.new)))
    over false f m = m
wait_record c n r older h may k d w e named made inside asks = k d w e named made inside (ap is_request (sym (asked_same c older n (Shown r) d h may (w, named) refl)) ∙ asks)

wait_take : (c : Config) (n s : ℕ) (it : CallId) (request times : ℕ) (a : Answer) (older : List Line) → IsFollowed c older → MayTell c older (Takes s it request times a) → AskersWait c older → AskersWait c (With n (Takes s it request times a) older)
wait_take c n s it request times a older h may k d w e named made inside asks = at (same_call it d) refl
  where
    last : (p q b : Bool) → p && q && b ≡ true → b ≡ true
    last p q true t = refl
    last true true false t = absurd (true_false (sym t))
    last true false false t = absurd (true_false (sym t))
    last false q false t = absurd (true_false (sym t))

    caller : Waiting
    caller = may.waits_for.caller

    found : (call_named (entries older) caller.call ≡ Some caller) × (is_this s may.waits_for.process it caller ≡ true)
    found = found_every (λ (x : Waiting). call_named (entries older) x.call ≡ Some x) (is_this s may.waits_for.process it) (waiting (entries older)) caller may.waits_for.found (accepted c older h).waits

    is_it : caller.call ≡ it
    is_it = same_call_eq caller.call it (last (caller.site == s) (caller.process == may.waits_for.process) (same_call caller.call it) found.1)

    at : (b : Bool) → same_call it d ≡ b → Among w (waiting (entries older))
    at true f = (let same : w ≡ caller = some_same w caller (sym named ∙ (ap (call_named (entries older)) (sym (same_call_eq it d f) ∙ sym is_it) ∙ found.0)) in subst (λ (x : Waiting). Among x (waiting (entries older))) (sym same) (found_among (is_this s may.waits_for.process it) (waiting (entries older)) caller may.waits_for.found))
    at false f = k d w e named made inside (ap is_request (sym (asked_same c older n (Takes s it request times a) d h may (w, named) (ap (λ (b : Bool). cond b (log older d ++ a ∷ []) (log older d)) f))) ∙ asks)

wait_told : (c : Config) (n : ℕ) (x : Told) (older : List Line) → IsFollowed c older → MayTell c older x → AskersWait c older → AskersWait c (With n x older)
wait_told c n (Shown r) older h may k = wait_record c n r older h may k
wait_told c n (Takes s it request times a) older h may k = wait_take c n s it request times a older h may k
wait_told c n x older h may k = λ d w e named made inside asks. k d w e named made inside (ap is_request (sym (asked_same c older n x d h may (w, named) refl)) ∙ asks)

askers_wait : (c : Config) (trace : List Line) → IsFollowed c trace → AskersWait c trace
askers_wait c [] h = λ d w e named. absurd (none_some w named)
askers_wait c (x ∷ older) h = wait_told c x.number x.told older h.1 h.0 (askers_wait c older h.1)

-- a call of the epoch that its site is in waits, while it asks something
pub asking_waits : (c : Config) (trace : List Line) (e : EpochId) (d : CallId) → IsFollowed c trace → (k : IsCallIn (entries trace) e d) → epoch_of (entries trace) d.site ≡ Some e → is_request (asked_now c trace d) ≡ true → Among k.accepted (waiting (entries trace))
asking_waits c trace e d h k inside asks = askers_wait c trace h d k.accepted e k.named k.made_in inside asks
