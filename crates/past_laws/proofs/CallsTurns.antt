-- An accepted call that uses an instance is its next use, by both.
use Rattle.std.proofs.Common.{◌≡◌, ℕ, suc, ◌+◌, ◌≤◌, ◌==◌, Bool, true, false, not, cond, ◌&&◌, List, [], ◌∷◌, length, filter, Some, refl, sym, ◌∙◌, ap, arith}
use Rattle.std.specs.Prelude.{sum_by}
use Rattle.std.specs.List.{AllByRecursion}
use Rattle.std.proofs.lemmas.Bool.Decides.{nat_tests}
use Rattle.std.proofs.lemmas.List.Sums.{sum_by-cons}
use Rattle.locus_ids.specs.declared.config.Config.{Config}
use Rattle.locus_ids.specs.declared.ids.CallId.{CallId}
use Rattle.locus_ids.specs.declared.ids.EpochId.{EpochId}
use Rattle.locus_ids.specs.declared.ids.Serial.{Serial}
use Rattle.trace_book.specs.Same.{same_call, same_epoch, same_serial}
use Rattle.trace_book.specs.declared.call.Call.{Call}
use Rattle.trace_book.specs.declared.descriptor.Beginning.{Beginning}
use Rattle.trace_book.specs.declared.descriptor.Beginning.TheVariants as begins
use Rattle.trace_book.specs.declared.record.Record.TheVariants as says
use Rattle.tree_model.specs.Folds.{Trace}
use Rattle.promises.specs.of_lawful_trace.CallRows.{next_call}
use Rattle.promises.specs.of_lawful_trace.Tables.{begins_now, uses_by, uses_of, use_number, is_call}
use Rattle.promises.specs.Past.{Past, Epoch, Instance, CallSoFar, is_on, is_close, is_named}
use Rattle.promises.specs.After.{is_epoch, uses, turn_of}
use Rattle.past_laws.specs.Agreement.{Agrees}
use Rattle.past_laws.specs.Standing.{HasTurn, InstanceStands, EpochStands, IsLow}
use Rattle.past_laws.proofs.Names.{false_true, both_parts, call_eq, call_own, epoch_eq, epoch_test, serial_eq, serial_test}
use Rattle.past_laws.proofs.CallsLists.{each_more, each_both, none_pass}
use Rattle.past_laws.proofs.CallsGranted.{With}
use Rattle.past_laws.proofs.CallsUsers.{next_is_new}
use Rattle.past_laws.proofs.CallsFields.{accepted_call, begins_same}

-- ---- a sum of which one part counts ----

sum_none : {X : Type 0} (h : X → ℕ) (p : X → Bool) → ((x : X) → p x ≡ false → h x ≡ 0) → (xs : List X) → filter p xs ≡ [] → sum_by h xs ≡ 0
sum_none h p zeros [] e = refl
sum_none {X} h p zeros (x ∷ xs) e = sum_by-cons h x xs ∙ over (sum_none h p zeros xs) (p x) refl e
  where
    filled : {A : Type 0} {ys : List X} → ◌≡◌ {A = List X} (x ∷ ys) [] → A
    filled q = absurd (cc)

    add : h x ≡ 0 → sum_by h xs ≡ 0 → h x + sum_by h xs ≡ 0
    add a b = omega (arith, a, b)

    over : (filter p xs ≡ [] → sum_by h xs ≡ 0) → (b : Bool) → p x ≡ b → cond b (x ∷ filter p xs) (filter p xs) ≡ [] → h x + sum_by h xs ≡ 0
    over later true f k = filled k
    over later false f k = add (zeros x f) (later k)

none_passes : {X : Type 0} (p : X → Bool) (xs : List X) → filter p xs ≡ [] → AllByRecursion (λ (x : X). p x ≡ false) xs
none_passes p [] e = tt
none_passes {X} p (x ∷ xs) e = over (none_passes p xs) (p x) refl e
  where
    filled : {A : Type 0} {ys : List X} → ◌≡◌ {A = List X} (x ∷ ys) [] → A
    filled q = absurd (cc)

    over : (filter p xs ≡ [] → AllByRecursion (λ (y : X). p y ≡ false) xs) → (b : Bool) → p x ≡ b → cond b (x ∷ filter p xs) (filter p xs) ≡ [] → (p x ≡ false) × AllByRecursion (λ (y : X). p y ≡ false) xs
    over later true f k = filled k
    over later false f k = (f, later k)

-- where at most one passes, and the others count nothing
sum_one : {X : Type 0} (h : X → ℕ) (p : X → Bool) → ((x : X) → p x ≡ false → h x ≡ 0) → (xs : List X) → length (filter p xs) ≤ 1 → AllByRecursion (λ (x : X). p x ≡ true → sum_by h xs ≡ h x) xs
sum_one h p zeros [] few = tt
sum_one {X} h p zeros (x ∷ xs) few = over (sum_one h p zeros xs) (p x) refl few
  where
    empty : (ys : List X) → length (x ∷ ys) ≤ 1 → ys ≡ []
    empty [] g = refl
    empty (y ∷ ys) g = absurd (omega (arith, g))

    alone : sum_by h xs ≡ 0 → h x + sum_by h xs ≡ h x
    alone a = omega (arith, a)

    rest : (y : X) → h x ≡ 0 → sum_by h xs ≡ h y → h x + sum_by h xs ≡ h y
    rest y a b = omega (arith, a, b)

    over : (length (filter p xs) ≤ 1 → AllByRecursion (λ (y : X). p y ≡ true → sum_by h xs ≡ h y) xs) → (b : Bool) → p x ≡ b → length (cond b (x ∷ filter p xs) (filter p xs)) ≤ 1 → (p x ≡ true → sum_by h (x ∷ xs) ≡ h x) × AllByRecursion (λ (y : X). p y ≡ true → sum_by h (x ∷ xs) ≡ h y) xs
    over later true f k = (let none = empty (filter p xs) k in (λ g. sum_by-cons h x xs ∙ alone (sum_none h p zeros xs none), each_more (λ (y : X). p y ≡ false) (λ (y : X). p y ≡ true → sum_by h (x ∷ xs) ≡ h y) (λ y a b. false_true (sym a ∙ b)) xs (none_passes p xs none)))
    over later false f k = (λ g. false_true (sym f ∙ g), each_more (λ (y : X). p y ≡ true → sum_by h xs ≡ h y) (λ (y : X). p y ≡ true → sum_by h (x ∷ xs) ≡ h y) (λ y a b. sum_by-cons h x xs ∙ rest y (zeros x f) (a b)) xs (later k))

-- of those that pass a narrower test there are no more
many_fewer : {X : Type 0} (p q : X → Bool) → ((x : X) → p x ≡ true → q x ≡ true) → (xs : List X) → length (filter p xs) ≤ length (filter q xs)
many_fewer p q h [] = omega arith
many_fewer {X} p q h (x ∷ xs) = over (p x) (q x) refl refl (many_fewer p q h xs)
  where
    over : (a b : Bool) → p x ≡ a → q x ≡ b → length (filter p xs) ≤ length (filter q xs) → length (cond a (x ∷ filter p xs) (filter p xs)) ≤ length (cond b (x ∷ filter q xs) (filter q xs))
    over true true e f k = omega arith
    over true false e f k = false_true (sym f ∙ h x e)
    over false true e f k = omega arith
    over false false e f k = k

-- the sum over those that pass, where at most one does
sum_passing : {X : Type 0} (h : X → ℕ) (p : X → Bool) (xs : List X) → length (filter p xs) ≤ 1 → AllByRecursion (λ (x : X). p x ≡ true → sum_by h (filter p xs) ≡ h x) xs
sum_passing h p [] few = tt
sum_passing {X} h p (x ∷ xs) few = over (sum_passing h p xs) (p x) refl few
  where
    empty : (ys : List X) → length (x ∷ ys) ≤ 1 → ys ≡ []
    empty [] g = refl
    empty (y ∷ ys) g = absurd (omega (arith, g))

    over : (length (filter p xs) ≤ 1 → AllByRecursion (λ (y : X). p y ≡ true → sum_by h (filter p xs) ≡ h y) xs) → (b : Bool) → p x ≡ b → length (cond b (x ∷ filter p xs) (filter p xs)) ≤ 1
        → (p x ≡ true → sum_by h (cond b (x ∷ filter p xs) (filter p xs)) ≡ h x) × AllByRecursion (λ (y : X). p y ≡ true → sum_by h (cond b (x ∷ filter p xs) (filter p xs)) ≡ h y) xs
    over later true f k = (let none = empty (filter p xs) k in
        (λ g. sum_by-cons h x (filter p xs) ∙ (ap (λ (ys : List X). h x + sum_by h ys) none ∙ zero_last (h x)), each_more (λ (y : X). p y ≡ false) (λ (y : X). p y ≡ true → sum_by h (x ∷ filter p xs) ≡ h y) (λ y a b. false_true (sym a ∙ b)) xs (none_passes p xs none)))
      where
        zero_last : (m : ℕ) → m + 0 ≡ m
        zero_last m = omega arith
    over later false f k = (λ g. false_true (sym f ∙ g), later k)

-- ---- the turn of a call ----

-- which instances the call uses are of its epoch
uses_epoch : (b : Beginning) (words : Call) (e at : EpochId) (i : Serial) (x : Instance) → b ≡ begins.Uses e i → uses b words at x ≡ true → (same_epoch e at ≡ true) × (same_serial i x.grant.inst ≡ true)
uses_epoch b words e at i x h k = both_parts (same_epoch e at) (same_serial i x.grant.inst) (both_parts (is_on (begins.Uses e i) at x.grant.inst) (not (is_close words)) (ap (λ (y : Beginning). uses y words at x) (sym h) ∙ k)).0

abbrev counts : Instance → ℕ
counts x = x.uses + 1

abbrev in_epoch : Beginning → Call → Epoch → ℕ
in_epoch b words t = sum_by counts (filter (uses b words t.id) t.opened)

-- the turn is one more than the uses of the instance so far
pub turns_in : (p : Past) (b : Beginning) (words : Call) (trace : Trace) (calls : List CallSoFar) → ((e : EpochId) → length (filter (is_epoch e) p.epochs) ≤ 1) → AllByRecursion (EpochStands trace calls) p.epochs
    → AllByRecursion (λ (t : Epoch). AllByRecursion (λ (x : Instance). uses b words t.id x ≡ true → turn_of p b words ≡ x.uses + 1) t.opened) p.epochs
turns_in p (begins.Uses e i) words trace calls once st = each_both (EpochStands trace calls) (λ (t : Epoch). is_epoch e t ≡ true → turn_of p b words ≡ in_epoch b words t) (λ (t : Epoch). AllByRecursion (λ (x : Instance). uses b words t.id x ≡ true → turn_of p b words ≡ x.uses + 1) t.opened)
    in_it p.epochs st (sum_one (in_epoch b words) (is_epoch e) zeros p.epochs (once e))
  where
    b : Beginning
    b = begins.Uses e i

    uses_not : (t : Epoch) → is_epoch e t ≡ false → (x : Instance) → uses (begins.Uses e i) words t.id x ≡ false
    uses_not t h x = over (uses (begins.Uses e i) words t.id x) refl
      where
        over : (v : Bool) → uses (begins.Uses e i) words t.id x ≡ v → v ≡ false
        over true k = sym (sym h ∙ epoch_test t.id e (sym (epoch_eq e t.id (uses_epoch (begins.Uses e i) words e t.id i x refl k).0)))
        over false k = refl

    zeros : (t : Epoch) → is_epoch e t ≡ false → in_epoch (begins.Uses e i) words t ≡ 0
    zeros t h = ap (sum_by counts) (none_pass (uses (begins.Uses e i) words t.id) t.opened (all t.opened))
      where
        all : (xs : List Instance) → AllByRecursion (λ (x : Instance). uses (begins.Uses e i) words t.id x ≡ false) xs
        all [] = tt
        all (x ∷ xs) = (uses_not t h x, all xs)

    in_it : (t : Epoch) → EpochStands trace calls t → (is_epoch e t ≡ true → turn_of p (begins.Uses e i) words ≡ in_epoch (begins.Uses e i) words t) → AllByRecursion (λ (x : Instance). uses (begins.Uses e i) words t.id x ≡ true → turn_of p (begins.Uses e i) words ≡ x.uses + 1) t.opened
    in_it t s k = each_more (λ (x : Instance). uses (begins.Uses e i) words t.id x ≡ true → in_epoch (begins.Uses e i) words t ≡ x.uses + 1) (λ (x : Instance). uses (begins.Uses e i) words t.id x ≡ true → turn_of p (begins.Uses e i) words ≡ x.uses + 1)
        (λ x h u. k (epoch_test t.id e (sym (epoch_eq e t.id (uses_epoch (begins.Uses e i) words e t.id i x refl u).0))) ∙ h u) t.opened
        (sum_passing counts (uses (begins.Uses e i) words t.id) t.opened few)
      where
        few : length (filter (uses (begins.Uses e i) words t.id) t.opened) ≤ 1
        few = (let one : length (filter (is_named i) t.opened) ≤ 1 = s.single i in
            let less = many_fewer (uses (begins.Uses e i) words t.id) (is_named i) (λ x u. serial_test x.grant.inst i (sym (serial_eq i x.grant.inst (uses_epoch (begins.Uses e i) words e t.id i x refl u).1))) t.opened in omega (arith, one, less))
turns_in p (begins.Denied why) words trace calls once st = each_more (EpochStands trace calls) (λ (t : Epoch). AllByRecursion (λ (x : Instance). uses (begins.Denied why) words t.id x ≡ true → turn_of p (begins.Denied why) words ≡ x.uses + 1) t.opened)
    (λ t s. each_more (InstanceStands trace calls t.id) (λ (x : Instance). uses (begins.Denied why) words t.id x ≡ true → turn_of p (begins.Denied why) words ≡ x.uses + 1) (λ x k h. false_true h) t.opened s.instances) p.epochs st
turns_in p (begins.Walks id) words trace calls once st = each_more (EpochStands trace calls) (λ (t : Epoch). AllByRecursion (λ (x : Instance). uses (begins.Walks id) words t.id x ≡ true → turn_of p (begins.Walks id) words ≡ x.uses + 1) t.opened)
    (λ t s. each_more (InstanceStands trace calls t.id) (λ (x : Instance). uses (begins.Walks id) words t.id x ≡ true → turn_of p (begins.Walks id) words ≡ x.uses + 1) (λ x k h. false_true h) t.opened s.instances) p.epochs st
turns_in p (begins.Reopens kept last) words trace calls once st = each_more (EpochStands trace calls) (λ (t : Epoch). AllByRecursion (λ (x : Instance). uses (begins.Reopens kept last) words t.id x ≡ true → turn_of p (begins.Reopens kept last) words ≡ x.uses + 1) t.opened)
    (λ t s. each_more (InstanceStands trace calls t.id) (λ (x : Instance). uses (begins.Reopens kept last) words t.id x ≡ true → turn_of p (begins.Reopens kept last) words ≡ x.uses + 1) (λ x k h. false_true h) t.opened s.instances) p.epochs st
turns_in p begins.Frees words trace calls once st = each_more (EpochStands trace calls) (λ (t : Epoch). AllByRecursion (λ (x : Instance). uses begins.Frees words t.id x ≡ true → turn_of p begins.Frees words ≡ x.uses + 1) t.opened)
    (λ t s. each_more (InstanceStands trace calls t.id) (λ (x : Instance). uses begins.Frees words t.id x ≡ true → turn_of p begins.Frees words ≡ x.uses + 1) (λ x k h. false_true h) t.opened s.instances) p.epochs st

-- ---- an instance when a call is accepted ----

-- use numbers
number_low : (xs : List CallId) (n : ℕ) (d : CallId) → is_call (use_number xs n) d ≡ true → n ≤ length xs
number_low [] n d e = false_true e
number_low (c ∷ xs) n d e = at (number_low xs n d) (n == suc (length xs)) refl e
  where
    here : (m : ℕ) → (n == suc m) ≡ true → n ≤ suc m
    here m t = grind (arith, nat_tests)

    at : (is_call (use_number xs n) d ≡ true → n ≤ length xs) → (b : Bool) → (n == suc (length xs)) ≡ b → is_call (cond b (Some c) (use_number xs n)) d ≡ true → n ≤ suc (length xs)
    at later true t e = here (length xs) t
    at later false t e = (let low : n ≤ length xs = later e in omega (arith, low))

pub last_free : (xs : List CallId) (n : ℕ) (d : CallId) → (n == suc (length xs)) ≡ true → is_call (use_number xs n) d ≡ false
last_free xs n d t = over (is_call (use_number xs n) d) refl
  where
    not_low : (m : ℕ) → n ≤ m → (n == suc m) ≡ true → ⊥
    not_low m le q = grind (arith, nat_tests)

    over : (b : Bool) → is_call (use_number xs n) d ≡ b → b ≡ false
    over true e = absurd (not_low (length xs) (number_low xs n d e) t)
    over false e = refl

-- a name that none of them has has no number
number_new : (xs : List CallId) (n : ℕ) (d : CallId) → AllByRecursion (λ (c : CallId). same_call c d ≡ false) xs → is_call (use_number xs n) d ≡ false
number_new [] n d k = refl
number_new (c ∷ xs) n d k = over (n == suc (length xs)) (number_new xs n d k.1)
  where
    over : (b : Bool) → is_call (use_number xs n) d ≡ false → is_call (cond b (Some c) (use_number xs n)) d ≡ false
    over true later = k.0
    over false later = later

-- the accepted call, and what it is to an instance
pub record Accepts (c : Config) (before : Trace) (p : Past) (s process : ℕ) (new : CallId) (words : Call) : Type 0 where
  pub is_next : new ≡ next_call before s
  pub agree : Agrees c before p

pub on_same : (c : Config) (before : Trace) (p : Past) (s process : ℕ) (new : CallId) (words : Call) → Accepts c before p s process new words → (e : EpochId) (i : Serial) → is_on (accepted_call p s process new words).begins e i ≡ uses_by (begins_now before s process new words) e i
on_same c before p s process new words k e i = ap (λ (x : Beginning). uses_by x e i) (begins_same c before p k.agree s process new words)

pub new_apart : (c : Config) (before : Trace) (p : Past) (s process : ℕ) (new : CallId) (words : Call) → Accepts c before p s process new words → (d : CallId) → IsLow before d → same_call d new ≡ false
new_apart c before p s process new words k d low = over (same_call d new) refl
  where
    over : (b : Bool) → same_call d new ≡ b → b ≡ false
    over true h = next_is_new before s d low (call_eq d new h ∙ k.is_next)
    over false h = refl

-- what has a first use has one
pub first_low : (xs : List CallId) (d : CallId) → is_call (use_number xs 1) d ≡ true → 1 ≤ length xs
first_low xs d e = number_low xs 1 d e

-- the new call's turn where it uses the instance, or another
pub turn_new : (c : Config) (before : Trace) (p : Past) (s process : ℕ) (new : CallId) (words : Call) (n : ℕ) → (k : Accepts c before p s process new words) → (e : EpochId) (x : Instance) → InstanceStands before p.calls e x
    → (uses (accepted_call p s process new words).begins words e x ≡ true → (accepted_call p s process new words).turn ≡ x.uses + 1) → HasTurn (With n (says.Accept s process new words) before) e x (accepted_call p s process new words)
turn_new c before p s process new words n k e x st turn m = by_again x.again (m == 1) refl refl ∙ over (is_close words) (is_on (accepted_call p s process new words).begins e x.grant.inst) refl refl
  where
    us : List CallId
    us = uses_of before e x.grant.inst

    -- it is number m by its descriptor
    used : ℕ → Bool
    used m = is_on (accepted_call p s process new words).begins e x.grant.inst && (not (is_close words) && ((accepted_call p s process new words).turn == m))

    other : (m : ℕ) → is_call (use_number (uses_of before e x.grant.inst) m) new ≡ false
    other m = number_new (uses_of before e x.grant.inst) m new (each_more (IsLow before) (λ (d : CallId). same_call d new ≡ false) (new_apart c before p s process new words k) (uses_of before e x.grant.inst) (k.agree.calls.users.low_uses e x.grant.inst))

    by : (b : Bool) → is_on (accepted_call p s process new words).begins e x.grant.inst ≡ b → uses_by (begins_now before s process new words) e x.grant.inst ≡ b
    by b h = sym (on_same c before p s process new words k e x.grant.inst) ∙ h

    test : (t : ℕ) → t ≡ length (uses_of before e x.grant.inst) + 1 → (t == m) ≡ (m == suc (length (uses_of before e x.grant.inst)))
    test t h = turned (length (uses_of before e x.grant.inst)) t h
      where
        turned : (l t : ℕ) → t ≡ l + 1 → (t == m) ≡ (m == suc l)
        turned l t h = grind (arith, nat_tests)

    last : (b : Bool) → b ≡ is_call (cond b (Some new) (use_number (uses_of before e x.grant.inst) m)) new
    last true = sym (call_own new)
    last false = sym (other m)

    over : (y z : Bool) → is_close words ≡ y → is_on (accepted_call p s process new words).begins e x.grant.inst ≡ z
        → used m ≡ is_call (use_number (cond (not (is_close words) && uses_by (begins_now before s process new words) e x.grant.inst) (new ∷ uses_of before e x.grant.inst) (uses_of before e x.grant.inst)) m) new
    over false true g h = rw (h, g, by true h) (test (accepted_call p s process new words).turn (turn (rw (h, g) refl) ∙ ap (λ (l : ℕ). l + 1) st.uses) ∙ last (m == suc (length (uses_of before e x.grant.inst))))
    over false false g h = rw (h, g, by false h) (sym (other m))
    over true true g h = rw (h, g) (sym (other m))
    over true false g h = rw (h, g) (sym (other m))

    -- the call that has opened it again is an older one
    is_older : x.again ≡ true → same_call new x.grant.call ≡ false
    is_older h = at (same_call new x.grant.call) refl
      where
        at : (b : Bool) → same_call new x.grant.call ≡ b → b ≡ false
        at true q = false_true (sym (other 1) ∙ (ap (is_call (use_number (uses_of before e x.grant.inst) 1)) (call_eq new x.grant.call q) ∙ st.first h))
        at false q = refl

    -- and has used it, so the new one isn't the first
    is_later : x.again ≡ true → (m == 1) ≡ true → used m ≡ false
    is_later h one = at (used m) (is_on (accepted_call p s process new words).begins e x.grant.inst) (is_close words) refl refl refl
      where
        more : x.uses ≡ length (uses_of before e x.grant.inst)
        more = st.uses

        apart : (t l : ℕ) → t ≡ l + 1 → 1 ≤ l → (t == m) ≡ true → ⊥
        apart t l q r w = grind (arith, nat_tests, one)

        at : (v a b : Bool) → used m ≡ v → is_on (accepted_call p s process new words).begins e x.grant.inst ≡ a → is_close words ≡ b → v ≡ false
        at false a b q f g = refl
        at true false b q f g = sym q ∙ rw f refl
        at true true true q f g = sym q ∙ rw (f, g) refl
        at true true false q f g = absurd (apart (accepted_call p s process new words).turn (length (uses_of before e x.grant.inst)) (turn (rw (f, g) refl) ∙ ap (λ (l : ℕ). l + 1) more) (first_low (uses_of before e x.grant.inst) x.grant.call (st.first h)) (rw (f, g) at q))

    by_again : (a b : Bool) → x.again ≡ a → (m == 1) ≡ b → cond (x.again && (m == 1)) (same_call new x.grant.call) (used m) ≡ used m
    by_again true true f g = rw (f, g) (is_older f ∙ sym (is_later f g))
    by_again true false f g = rw (f, g) refl
    by_again false b f g = rw f refl
