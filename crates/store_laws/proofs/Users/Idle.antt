-- Once its site has left the epoch and has answered them, no call waits there, and it has no instance.
use Rattle.std.proofs.Common.{◌≡◌, ℕ, ◌==◌, Bool, true, false, not, cond, ◌&&◌, List, [], ◌∷◌, Some, refl, sym, ◌∙◌, ap, ◌⊎◌, inl, inr, filter}
use Rattle.std.specs.List.{find}
use Rattle.role_steps.proofs.of_plain_facts.Numbers.{equal_self}
use Rattle.role_steps.proofs.of_plain_facts.Tests.{true_false}
use Rattle.locus_ids.specs.declared.config.Config.{Config}
use Rattle.locus_ids.specs.declared.ids.CallId.{CallId}
use Rattle.locus_ids.specs.declared.refusal.Refusal.TheVariants as refusal
use Rattle.trace_book.specs.Same.{same_call}
use Rattle.trace_book.specs.declared.record.Record.TheVariants as says
use Rattle.trace_book.specs.declared.reply.Reply.TheVariants as reply
use Rattle.role_steps.specs.Own.{Every}
use Rattle.role_steps.specs.Using.{reply_record, changed_records}
use Rattle.role_steps.specs.Views.{Users, Frame, Shown}
use Rattle.role_steps.specs.declared.users.WaitingCall.{WaitingCall}
use Rattle.tree_laws.specs.of_the_run.Kept.{Among}
use Rattle.tree_laws.specs.of_the_run.Worlds.{Line, told_onto}
use Rattle.tree_model.specs.declared.accepted.Waiting.{Waiting}
use Rattle.tree_model.specs.Calls.{waiting}
use Rattle.tree_laws.specs.of_lawful_trace.CallRows.{is_this}
use Rattle.tree_laws.specs.Printed.{entries}
use Rattle.tree_laws.specs.Users.{own_call, had, InsideUsers}
use Rattle.tree_laws.proofs.Boots.{every_both}
use Rattle.tree_laws.proofs.Names.{same_call_own}
use Rattle.store_laws.proofs.Users.Staying.{With}

-- ---- lists ----

every_of : {A : Type 0} (P : A → Type 0) (xs : List A) → ((x : A) → Among x xs → P x) → Every P xs
every_of P [] f = tt
every_of P (x ∷ xs) f = (f x (inl refl), every_of P xs (λ y k. f y (inr k)))

every_filtered : {A : Type 0} (P R : A → Type 0) (q : A → Bool) (xs : List A) → ((x : A) → q x ≡ true → P x → R x) → Every P xs → Every R (filter q xs)
every_filtered P R q [] f k = tt
every_filtered P R q (x ∷ xs) f k = at (every_filtered P R q xs f k.1) (q x) refl
  where
    at : Every R (filter q xs) → (b : Bool) → q x ≡ b → Every R (cond b (x ∷ filter q xs) (filter q xs))
    at later true e = (f x e k.0, later)
    at later false e = later

found_some : {A : Type 0} (p : A → Bool) (xs : List A) (x : A) → Among x xs → p x ≡ true → (y : A) × (find p xs ≡ Some y)
found_some p [] x k t = absurd k
found_some {A} p (y ∷ ys) x k t = at (λ (m : Among x ys). found_some p ys x m t) (p y) refl k
  where
    at : (Among x ys → (z : A) × (find p ys ≡ Some z)) → (b : Bool) → p y ≡ b → (x ≡ y) ⊎ Among x ys → (z : A) × (cond b (Some y) (find p ys) ≡ Some z)
    at later true e m = (y, refl)
    at later false e (inl same) = absurd (true_false (sym t ∙ (ap p same ∙ e)))
    at later false e (inr m) = later m

-- ---- who waits ----

-- a call of the site is one of these
abbrev IsOneOf : Frame → List WaitingCall → Waiting → Type 0
IsOneOf f ws x = x.site ≡ f.me → (w : WaitingCall) × Among w ws × (x.call ≡ own_call f.me f.boot w.call)

all_of : (c : Config) (t : List Line) (f : Frame) (u : Users) → InsideUsers c t f u → Every (IsOneOf f u.waiting) (waiting (entries t))
all_of c t f u k = every_of (IsOneOf f u.waiting) (waiting (entries t)) (λ x among same. (let y : (y : Waiting) × (find (is_this f.me x.process x.call) (waiting (entries t)) ≡ Some y) = found_some (is_this f.me x.process x.call) (waiting (entries t)) x among (this x same) in k.all x.call x.process y.0 y.1))
  where
    three : (a b d : Bool) → a ≡ true → b ≡ true → d ≡ true → (a && b && d) ≡ true
    three true true true p q r = refl
    three true true false p q r = r
    three true false d p q r = q
    three false b d p q r = p

    this : (x : Waiting) → x.site ≡ f.me → is_this f.me x.process x.call x ≡ true
    this x same = three (x.site == f.me) (x.process == x.process) (same_call x.call x.call) (ap (λ (m : ℕ). x.site == m) (sym same) ∙ equal_self x.site) (equal_self x.process) (same_call_own x.call)

-- once each is answered none is left
none_left : (n : ℕ) (f : Frame) (ws : List WaitingCall) (t : List Line) → Every (IsOneOf f ws) (waiting (entries t)) → Every (λ (x : Waiting). x.site ≡ f.me → ⊥) (waiting (entries (told_onto n (changed_records f.me f.boot f.epoch ws) t)))
none_left n f [] t k = every_both (IsOneOf f []) (λ (x : Waiting). x.site ≡ f.me → ⊥) (waiting (entries t)) (λ x one same. none (one same)) k
  where
    none : {B : WaitingCall → Type 0} → (w : WaitingCall) × ⊥ × B w → ⊥
    none z = z.1
none_left n f (w ∷ ws) t k = none_left n f ws (With n (reply_record f.me f.boot w (reply.No (refusal.Changed f.epoch))) t)
    (every_filtered (IsOneOf f (w ∷ ws)) (IsOneOf f ws) (λ (x : Waiting). not (same_call x.call (own_call f.me f.boot w.call))) (waiting (entries t)) (λ x passes one same. over x passes (one same)) k)
  where
    over : (x : Waiting) → not (same_call x.call (own_call f.me f.boot w.call)) ≡ true → (v : WaitingCall) × ((v ≡ w) ⊎ Among v ws) × (x.call ≡ own_call f.me f.boot v.call) → (v : WaitingCall) × Among v ws × (x.call ≡ own_call f.me f.boot v.call)
    over x passes z = at z.1
      where
        at : (z.0 ≡ w) ⊎ Among z.0 ws → (v : WaitingCall) × Among v ws × (x.call ≡ own_call f.me f.boot v.call)
        at (inr m) = (z.0, m, z.2)
        at (inl same) = absurd (true_false (sym passes ∙ ap not (ap (λ (d : CallId). same_call d (own_call f.me f.boot w.call)) (z.2 ∙ ap (λ (v : WaitingCall). own_call f.me f.boot v.call) same) ∙ same_call_own (own_call f.me f.boot w.call))))

-- nothing is had after the leave
had_none : (c : Config) (n : ℕ) (f : Frame) (ws : List WaitingCall) (t : List Line) → had c t f.me ≡ [] → had c (told_onto n (changed_records f.me f.boot f.epoch ws) t) f.me ≡ []
had_none c n f [] t k = k
had_none c n f (w ∷ ws) t k = had_none c n f ws (With n (reply_record f.me f.boot w (reply.No (refusal.Changed f.epoch))) t) k

pub idle_waits : (c : Config) (n : ℕ) (older : List Line) (f : Frame) (u : Users) → InsideUsers c older f u → Every (λ (x : Waiting). x.site ≡ f.me → ⊥) (waiting (entries (told_onto n (changed_records f.me f.boot f.epoch u.waiting) (With n (Shown (says.Leave f.me f.epoch)) older))))
idle_waits c n older f u k = none_left n f u.waiting (With n (Shown (says.Leave f.me f.epoch)) older) (all_of c older f u k)

pub idle_has : (c : Config) (n : ℕ) (older : List Line) (f : Frame) (u : Users) → had c (told_onto n (changed_records f.me f.boot f.epoch u.waiting) (With n (Shown (says.Leave f.me f.epoch)) older)) f.me ≡ []
idle_has c n older f u = had_none c n f u.waiting (With n (Shown (says.Leave f.me f.epoch)) older) (ap (λ (b : Bool). cond b [] (had c older f.me)) (equal_self f.me))
