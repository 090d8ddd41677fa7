-- A call that waits is of the boot in which its site runs; and calls of one site in one epoch are of one boot.
use Rattle.std.proofs.Common.{◌≡◌, ℕ, ◌==◌, Bool, true, false, not, cond, ◌&&◌, ◌||◌, List, [], ◌∷◌, filter, Option, Some, None, refl, sym, ◌∙◌, ap, subst}
use Rattle.std.specs.List.{find}
use Rattle.the_run.proofs.of_plain_facts.Numbers.{equal, equal_self}
use Rattle.the_run.proofs.of_plain_facts.Options.{none_some, some_same}
use Rattle.the_run.proofs.of_plain_facts.Tests.{true_false}
use Rattle.locus_ids.specs.declared.config.Config.{Config}
use Rattle.locus_ids.specs.declared.ids.CallId.{CallId}
use Rattle.trace_book.specs.Same.{same_call}
use Rattle.trace_book.specs.declared.call.Call.{Call}
use Rattle.trace_book.specs.declared.call.Call.TheVariants as call
use Rattle.trace_book.specs.declared.record.Record.{Record}
use Rattle.trace_book.specs.declared.record.Record.TheVariants as says
use Rattle.the_run.specs.of_role_steps.Own.{Every}
use Rattle.the_run.specs.of_role_steps.Views.{Told, Shown}
use Rattle.the_run.specs.Worlds.{Line}
use Rattle.lawful_trace.specs.of_tree_model.declared.accepted.Waiting.{Waiting}
use Rattle.lawful_trace.specs.of_tree_model.Calls.{waiting}
use Rattle.lawful_trace.specs.of_tree_model.Epochs.{is_up, boot_of, epoch_of}
use Rattle.lawful_trace.specs.of_tree_model.Folds.{Trace}
use Rattle.lawful_trace.specs.CallRows.{CallRow, next_call, is_this}
use Rattle.lawful_trace.specs.Lawful.{MayCome}
use Rattle.tree_laws.specs.Printed.{entries, onto_entries}
use Rattle.tree_laws.specs.Following.{MayTell, IsFollowed, IsWaiting}
use Rattle.tree_laws.proofs.Fresh.{numbered}
use Rattle.tree_laws.proofs.Names.{same_call_eq}

pub every_filter : {A : Type 0} (P : A → Type 0) (p : A → Bool) (xs : List A) → Every P xs → Every P (filter p xs)
every_filter P p [] h = tt
every_filter P p (x ∷ xs) h = at (every_filter P p xs h.1) (p x)
  where
    at : Every P (filter p xs) → (b : Bool) → Every P (cond b (x ∷ filter p xs) (filter p xs))
    at later true = (h.0, later)
    at later false = later

-- what passes has the property that the test gives
pub every_passes : {A : Type 0} (P : A → Type 0) (p : A → Bool) → ((x : A) → p x ≡ true → P x) → (xs : List A) → Every P (filter p xs)
every_passes P p h [] = tt
every_passes P p h (x ∷ xs) = at (every_passes P p h xs) (p x) refl
  where
    at : Every P (filter p xs) → (b : Bool) → p x ≡ b → Every P (cond b (x ∷ filter p xs) (filter p xs))
    at later true e = (h x e, later)
    at later false e = later

pub every_both : {A : Type 0} (P Q : A → Type 0) (xs : List A) → ((x : A) → P x → Q x) → Every P xs → Every Q xs
every_both P Q [] h k = tt
every_both P Q (x ∷ xs) h k = (h x k.0, every_both P Q xs h k.1)

pub every_pair : {A : Type 0} (P Q R : A → Type 0) (xs : List A) → ((x : A) → P x → Q x → R x) → Every P xs → Every Q xs → Every R xs
every_pair P Q R [] h k l = tt
every_pair P Q R (x ∷ xs) h k l = (h x k.0 l.0, every_pair P Q R xs h k.1 l.1)

-- ---- calls that wait ----

-- the call is of the boot in which its site runs
abbrev IsCurrent : Trace → Waiting → Type 0
IsCurrent before w = (w.call.site ≡ w.site) × (w.call.boot ≡ boot_of before w.site)

abbrev NotAt : ℕ → Waiting → Type 0
NotAt s w = w.site ≡ s → ⊥

record Waits (c : Config) (before : Trace) : Type 0 where
  current : Every (IsCurrent before) (waiting before)
  down : (s : ℕ) → is_up c before s ≡ false → Every (NotAt s) (waiting before)
  out : (s : ℕ) → is_up c before s ≡ false → epoch_of before s ≡ None

runs : (c : Config) (before : Trace) (s process : ℕ) (d : CallId) (words : Call) → Waits c before → CallRow c before s process d words → is_up c before s ≡ false → ⊥
runs c before s process d (call.Mend file) w h down = none_some h.epoch (sym (w.out s down) ∙ h.inside)
runs c before s process d _ w h down = true_false (sym h.up ∙ down)

waits_accept : (c : Config) (n s process : ℕ) (d : CallId) (words : Call) (before : Trace) → CallRow c before s process d words → Waits c before → Waits c (record { line = n; what = says.Accept s process d words } ∷ before)
waits_accept c n s process d words before may w = record {
  current = ((ap (λ (x : CallId). x.site) is, ap (λ (x : CallId). x.boot) is), w.current);
  down = λ t down. (λ same. runs c before s process d words w may (subst (λ (m : ℕ). is_up c before m ≡ false) (sym same) down), w.down t down);
  out = w.out;
}
  where
    is : d ≡ next_call before s
    is = numbered c before s process d words may

waits_stop : (c : Config) (n s : ℕ) (cause : _) (before : Trace) → Waits c before → Waits c (record { line = n; what = says.Stopped s cause } ∷ before)
waits_stop c n s cause before w = record {
  current = every_filter (IsCurrent before) (λ (x : Waiting). not (x.site == s)) (waiting before) w.current;
  down = λ t. down t (s == t) refl;
  out = λ t. out t (s == t) refl;
}
  where
    apart : (x : Waiting) → not (x.site == s) ≡ true → NotAt s x
    apart x k same = true_false (sym k ∙ ap not (subst (λ (m : ℕ). (m == s) ≡ true) (sym same) (equal_self s)))

    down : (t : ℕ) (b : Bool) → (s == t) ≡ b → not b && is_up c before t ≡ false → Every (NotAt t) (filter (λ (x : Waiting). not (x.site == s)) (waiting before))
    down t true e k = subst (λ (m : ℕ). Every (NotAt m) (filter (λ (x : Waiting). not (x.site == s)) (waiting before))) (equal s t e) (every_passes (NotAt s) (λ (x : Waiting). not (x.site == s)) apart (waiting before))
    down t false e k = every_filter (NotAt t) (λ (x : Waiting). not (x.site == s)) (waiting before) (w.down t k)

    out : (t : ℕ) (b : Bool) → (s == t) ≡ b → not b && is_up c before t ≡ false → cond b None (epoch_of before t) ≡ None
    out t true e k = refl
    out t false e k = w.out t k

waits_up : (c : Config) (n s boot : ℕ) (before : Trace) → is_up c before s ≡ false → Waits c before → Waits c (record { line = n; what = says.Up s boot } ∷ before)
waits_up c n s boot before down_now w = record {
  current = every_pair (IsCurrent before) (NotAt s) (IsCurrent (record { line = n; what = says.Up s boot } ∷ before)) (waiting before) still w.current (w.down s down_now);
  down = λ t. down t (s == t) refl;
  out = λ t. out t (s == t) refl;
}
  where
    at_boot : (x : Waiting) (b : Bool) → (s == x.site) ≡ b → NotAt s x → x.call.boot ≡ boot_of before x.site → x.call.boot ≡ cond b boot (boot_of before x.site)
    at_boot x true e away h = absurd (away (sym (equal s x.site e)))
    at_boot x false e away h = h

    still : (x : Waiting) → IsCurrent before x → NotAt s x → IsCurrent (record { line = n; what = says.Up s boot } ∷ before) x
    still x k away = (k.0, at_boot x (s == x.site) refl away k.1)

    down : (t : ℕ) (b : Bool) → (s == t) ≡ b → b || is_up c before t ≡ false → Every (NotAt t) (waiting before)
    down t true e k = absurd (true_false k)
    down t false e k = w.down t k

    out : (t : ℕ) (b : Bool) → (s == t) ≡ b → b || is_up c before t ≡ false → cond b None (epoch_of before t) ≡ None
    out t true e k = refl
    out t false e k = w.out t k

waits_record : (c : Config) (n : ℕ) (r : Record) (before : Trace) → MayCome c before r → Waits c before → Waits c (record { line = n; what = r } ∷ before)
waits_record c n (says.Accept s process d words) before may w = waits_accept c n s process d words before may w
waits_record c n (says.Stopped s cause) before may w = waits_stop c n s cause before w
waits_record c n (says.Up s boot) before may w = waits_up c n s boot before may.stopped w
waits_record c n (says.Answer s process d reply) before may w = record {
  current = every_filter (IsCurrent before) (λ (x : Waiting). not (same_call x.call d)) (waiting before) w.current;
  down = λ t k. every_filter (NotAt t) (λ (x : Waiting). not (same_call x.call d)) (waiting before) (w.down t k);
  out = w.out;
}
waits_record c n (says.Join s e members) before may w = record { current = w.current; down = w.down; out = λ t. out t (s == t) refl }
  where
    out : (t : ℕ) (b : Bool) → (s == t) ≡ b → is_up c before t ≡ false → cond b (Some e) (epoch_of before t) ≡ None
    out t true k down = absurd (true_false (sym (subst (λ (m : ℕ). is_up c before m ≡ true) (equal s t k) may.up) ∙ down))
    out t false k down = w.out t down
waits_record c n (says.Leave s e) before may w = record { current = w.current; down = w.down; out = λ t. out t (s == t) }
  where
    out : (t : ℕ) (b : Bool) → is_up c before t ≡ false → cond b None (epoch_of before t) ≡ None
    out t true down = refl
    out t false down = w.out t down
waits_record c n _ before may w = record { current = w.current; down = w.down; out = w.out }

waits_told : (c : Config) (n : ℕ) (x : Told) (older : List Line) → MayTell c older x → Waits c (entries older) → Waits c (onto_entries n x (entries older))
waits_told c n (Shown r) older may w = waits_record c n r (entries older) may.row w
waits_told c n _ older may w = w

waits : (c : Config) (trace : List Line) → IsFollowed c trace → Waits c (entries trace)
waits c [] h = record { current = tt; down = λ s k. tt; out = λ s k. refl }
waits c (x ∷ older) h = waits_told c x.number x.told older h.0 (waits c older h.1)

pub found_every : {A : Type 0} (P : A → Type 0) (p : A → Bool) (xs : List A) (x : A) → find p xs ≡ Some x → Every P xs → P x × (p x ≡ true)
found_every P p [] x e h = absurd (none_some x e)
found_every P p (y ∷ xs) x e h = at (λ (k : find p xs ≡ Some x). found_every P p xs x k h.1) (p y) refl e
  where
    at : (find p xs ≡ Some x → P x × (p x ≡ true)) → (b : Bool) → p y ≡ b → cond b (Some y) (find p xs) ≡ Some x → P x × (p x ≡ true)
    at later true t k = (let same : y ≡ x = some_same y x k in (subst P same h.0, subst (λ (z : _). p z ≡ true) same t))
    at later false t k = later k

-- a call that waits at a site is of the boot in which it runs
pub waiting_boot : (c : Config) (trace : List Line) (s : ℕ) (d : CallId) → IsFollowed c trace → IsWaiting trace s d → d.boot ≡ boot_of (entries trace) d.site
waiting_boot c trace s d h k = over (found_every (IsCurrent (entries trace)) (is_this s k.process d) (waiting (entries trace)) k.caller k.found (waits c trace h).current)
  where
    last : (a b e : Bool) → a && b && e ≡ true → e ≡ true
    last a b true t = refl
    last true true false t = absurd (true_false (sym t))
    last true false false t = absurd (true_false (sym t))
    last false b false t = absurd (true_false (sym t))

    over : IsCurrent (entries trace) k.caller × (is_this s k.process d k.caller ≡ true) → d.boot ≡ boot_of (entries trace) d.site
    over f = (let same : k.caller.call ≡ d = same_call_eq k.caller.call d (last (k.caller.site == s) (k.caller.process == k.process) (same_call k.caller.call d) f.1) in
        ap (λ (x : CallId). x.boot) (sym same) ∙ (f.0.1 ∙ ap (boot_of (entries trace)) (sym f.0.0 ∙ ap (λ (x : CallId). x.site) same)))
