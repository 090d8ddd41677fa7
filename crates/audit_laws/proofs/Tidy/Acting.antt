-- What follows for one who looks up calls and instances: each is the one of its name, and an operation or a release is a step of one call.
use Rattle.std.proofs.Common.{◌≡◌, ℕ, zero, suc, ◌+◌, ◌==◌, ◌&&◌, ◌≤◌, ◌<◌, not, Bool, true, false, cond, List, [], ◌∷◌, ◌++◌, length, filter, map, Some, None, refl, sym, ap, subst, ◌∙◌, arith}
use Rattle.std.proofs.lemmas.Bool.Decides.{nat_tests}
use Rattle.std.specs.List.{find, AllByRecursion}
use Rattle.locus_ids.specs.declared.ids.EpochId.{EpochId}
use Rattle.locus_ids.specs.declared.ids.Serial.{Serial}
use Rattle.promises.specs.Past.{Past, Site, Epoch, CallSoFar, Instance, acts, ends, is_named, is_on, is_close}
use Rattle.promises.specs.After.{change, is_id, is_actor, is_ender}
use Rattle.past_laws.proofs.Names.{false_true, call_own}
use Rattle.past_laws.proofs.CallsLists.{each_more, each_found}
use Rattle.past_laws.proofs.TreesLists.{any_one}
use Rattle.past_laws.proofs.Changing.{only_one, lost_any}
use Rattle.row_lists.proofs.ByPlace.{kept_finds, none_changed}
use Rattle.audit_laws.specs.Tidy.Epochs.{EpochStands}
use Rattle.audit_laws.specs.Tidy.Calls.{CallsStand}
use Rattle.audit_laws.specs.Tidy.Users.{is_use, is_closing, down_from, first_turn, HasTurns, UsersStand}
use Rattle.std.proofs.lemmas.List.{length-append}
use Rattle.row_lists.proofs.Reversed.{filter_append}
use Rattle.audit_laws.proofs.Tidy.Lists.{kept_own}

-- ---- calls by their names ----

pub calls_own : (p : Past) → CallsStand p.sites p.calls → AllByRecursion (λ (k : CallSoFar). filter (is_id k.id) p.calls ≡ k ∷ []) p.calls
calls_own p st = kept_own (λ (k l : CallSoFar). is_id k.id l) (λ k. call_own k.id) p.calls (λ k. st.once k.id)

pub calls_found : (p : Past) → CallsStand p.sites p.calls → AllByRecursion (λ (k : CallSoFar). find (is_id k.id) p.calls ≡ Some k) p.calls
calls_found p st = each_more (λ (k : CallSoFar). filter (is_id k.id) p.calls ≡ k ∷ []) (λ (k : CallSoFar). find (is_id k.id) p.calls ≡ Some k) (λ k h. kept_finds (is_id k.id) p.calls k h) p.calls (calls_own p st)

-- ---- two tests that one passes alone change the same ----

only_this : {X : Type 0} (p : X → Bool) (xs : List X) (x : X) → filter p xs ≡ x ∷ [] → AllByRecursion (λ y. p y ≡ true → y ≡ x) xs
only_this {X} p xs x e = go xs (subst (AllByRecursion (λ y. y ≡ x)) (sym e) (refl, tt))
  where
    go : (ys : List X) → AllByRecursion (λ y. y ≡ x) (filter p ys) → AllByRecursion (λ y. p y ≡ true → y ≡ x) ys
    go [] h = tt
    go (y ∷ ys) h = at (p y) refl h (go ys)
      where
        at : (b : Bool) → p y ≡ b → AllByRecursion (λ z. z ≡ x) (cond b (y ∷ filter p ys) (filter p ys)) → (AllByRecursion (λ z. z ≡ x) (filter p ys) → AllByRecursion (λ z. p z ≡ true → z ≡ x) ys) → (p y ≡ true → y ≡ x) × AllByRecursion (λ z. p z ≡ true → z ≡ x) ys
        at true f k later = (λ q. k.0, later k.1)
        at false f k later = (λ q. false_true (sym f ∙ q), later k)

pub only_passes : {X : Type 0} (p : X → Bool) (xs : List X) (x : X) → filter p xs ≡ x ∷ [] → p x ≡ true
only_passes {X} p xs x e = first xs e
  where
    first : (ys : List X) → filter p ys ≡ x ∷ [] → p x ≡ true
    first [] g = absurd (empty g)
      where
        empty : ◌≡◌ {A = List X} [] (x ∷ []) → ⊥
        empty k = cc
    first (y ∷ ys) g = at (p y) refl g (first ys)
      where
        head : (zs : List X) → y ∷ zs ≡ x ∷ [] → y ≡ x
        head zs k = cc

        at : (b : Bool) → p y ≡ b → cond b (y ∷ filter p ys) (filter p ys) ≡ x ∷ [] → (filter p ys ≡ x ∷ [] → p x ≡ true) → p x ≡ true
        at true f k later = ap p (sym (head (filter p ys) k)) ∙ f
        at false f k later = later k

pub same_change : {X : Type 0} (p q : X → Bool) (f : X → X) (xs : List X) (x : X) → filter p xs ≡ x ∷ [] → filter q xs ≡ x ∷ [] → change p f xs ≡ change q f xs
same_change {X} p q f xs x of_p of_q = go xs (only_this p xs x of_p) (only_this q xs x of_q)
  where
    passes_p : p x ≡ true
    passes_p = only_passes p xs x of_p

    passes_q : q x ≡ true
    passes_q = only_passes q xs x of_q

    same : (y : X) → (p y ≡ true → y ≡ x) → (q y ≡ true → y ≡ x) → p y ≡ q y
    same y h k = at (p y) (q y) refl refl
      where
        at : (a b : Bool) → p y ≡ a → q y ≡ b → a ≡ b
        at true true e g = refl
        at true false e g = sym passes_q ∙ (ap q (sym (h e)) ∙ g)
        at false true e g = sym e ∙ (ap p (k g) ∙ passes_p)
        at false false e g = refl

    go : (ys : List X) → AllByRecursion (λ y. p y ≡ true → y ≡ x) ys → AllByRecursion (λ y. q y ≡ true → y ≡ x) ys → change p f ys ≡ change q f ys
    go [] h k = refl
    go (y ∷ ys) h k = ap (λ b. cond b (f y) y ∷ change p f ys) (same y h.0 k.0) ∙ ap (λ zs. cond (q y) (f y) y ∷ zs) (go ys h.1 k.1)

-- ---- of the users of an open instance one has each turn ----

-- use number n of the instance
abbrev pub is_use_at : EpochId → Serial → ℕ → CallSoFar → Bool
is_use_at e i n k = is_on k.begins e i && (not (is_close k.words) && (k.turn == n))

down_few : (n m : ℕ) → length (filter (λ t. t == n) (down_from m)) ≤ 1
down_few n zero = omega arith
down_few n (suc m) = at (suc m == n) refl (down_few n m)
  where
    none : (k : ℕ) → k < n → filter (λ t. t == n) (down_from k) ≡ []
    none zero l = refl
    none (suc k) l = rw (apart k l) (none k (omega (arith, l)))
      where
        apart : (j : ℕ) → suc j < n → (suc j == n) ≡ false
        apart j g = grind (arith, nat_tests)

    here : (suc m == n) ≡ true → m < n
    here h = grind (arith, nat_tests)

    short : (ns : List ℕ) → ns ≡ [] → length (suc m ∷ ns) ≤ 1
    short ns e = rw e (omega arith)

    at : (b : Bool) → (suc m == n) ≡ b → length (filter (λ t. t == n) (down_from m)) ≤ 1 → length (cond b (suc m ∷ filter (λ t. t == n) (down_from m)) (filter (λ t. t == n) (down_from m))) ≤ 1
    at true h later = short (filter (λ t. t == n) (down_from m)) (none m (here h))
    at false h later = later

pub one_use : (calls : List CallSoFar) (e : EpochId) (x : Instance) (n : ℕ) → HasTurns calls e x → length (filter (is_use_at e x.grant.inst n) calls) ≤ 1
one_use calls e x n turns = few (length (filter (is_use_at e x.grant.inst n) calls)) (length (filter (λ t. t == n) of_calls)) (length (filter (λ t. t == n) (first_turn x))) (length (filter (λ t. t == n) (down_from x.uses))) (same calls)
    (sym (length-append (filter (λ t. t == n) of_calls) (filter (λ t. t == n) (first_turn x))) ∙ (sym (ap length (filter_append (λ t. t == n) of_calls (first_turn x))) ∙ ap (λ ts. length (filter (λ t. t == n) ts)) turns)) (down_few n x.uses)
  where
    of_calls : List ℕ
    of_calls = map (λ (k : CallSoFar). k.turn) (filter (is_use e x.grant.inst) calls)

    few : (a b first all : ℕ) → a ≡ b → b + first ≡ all → all ≤ 1 → a ≤ 1
    few a b first all h sum k = omega (arith, h, sum, k)

    same : (ks : List CallSoFar) → length (filter (is_use_at e x.grant.inst n) ks) ≡ length (filter (λ t. t == n) (map (λ (k : CallSoFar). k.turn) (filter (is_use e x.grant.inst) ks)))
    same [] = refl
    same (k ∷ ks) = at (is_on k.begins e x.grant.inst) (is_close k.words) (k.turn == n) refl refl refl (same ks)
      where
        at : (a b t : Bool) → is_on k.begins e x.grant.inst ≡ a → is_close k.words ≡ b → (k.turn == n) ≡ t → length (filter (is_use_at e x.grant.inst n) ks) ≡ length (filter (λ m. m == n) (map (λ (l : CallSoFar). l.turn) (filter (is_use e x.grant.inst) ks)))
            → length (filter (is_use_at e x.grant.inst n) (k ∷ ks)) ≡ length (filter (λ m. m == n) (map (λ (l : CallSoFar). l.turn) (filter (is_use e x.grant.inst) (k ∷ ks))))
        at true true t f g h later = rw (f, g) later
        at true false true f g h later = rw (f, g) (rw h (ap suc later))
        at true false false f g h later = rw (f, g) (rw h later)
        at false b t f g h later = rw f later

pub one_closing : (p : Past) → UsersStand p → (e : EpochId) (i : Serial) → length (filter (is_closing e i) p.calls) ≤ 1
one_closing p users e i = omega (arith, users.one e i)

-- ---- who acts and who ends ----

-- where an instance is open, an operation of its name is its operation, and a release its release
pub actor_is : (t : Epoch) (i : Serial) (n : ℕ) (x : Instance) → EpochStands t → find (is_named i) t.opened ≡ Some x → (k : CallSoFar) → is_actor t i n k ≡ acts t.id x n k
actor_is t i n x st found k = any_one (is_named i) (λ (y : Instance). acts t.id y n k) t.opened x (st.single i) found

pub ender_is : (t : Epoch) (i : Serial) (x : Instance) → EpochStands t → find (is_named i) t.opened ≡ Some x → (k : CallSoFar) → is_ender t i k ≡ ends t.id x k
ender_is t i x st found k = any_one (is_named i) (λ (y : Instance). ends t.id y k) t.opened x (st.single i) found

-- it is a step of one call at most
pub few_act : (sites : List Site) (calls : List CallSoFar) (e : EpochId) (x : Instance) (n : ℕ) → CallsStand sites calls → HasTurns calls e x → length (filter (acts e x n) calls) ≤ 1
few_act sites calls e x n st turns = at (x.named && not (x.again && (n == 1))) refl
  where
    at : (b : Bool) → (x.named && not (x.again && (n == 1))) ≡ b → length (filter (acts e x n) calls) ≤ 1
    at true h = rw (h, acts) (one_use calls e x n turns)
    at false h = rw (h, acts) (st.once x.grant.call)

pub few_end : (p : Past) (e : EpochId) (x : Instance) → CallsStand p.sites p.calls → UsersStand p → length (filter (ends e x) p.calls) ≤ 1
few_end p e x st users = at x.named refl
  where
    at : (b : Bool) → x.named ≡ b → length (filter (ends e x) p.calls) ≤ 1
    at true h = rw h (one_closing p users e x.grant.inst)
    at false h = rw h (st.once x.grant.call)

-- so that to change those that act is to change the call that does, by its name
pub changes_by_name : (p : Past) (q r : CallSoFar → Bool) (f : CallSoFar → CallSoFar) (k : CallSoFar) → CallsStand p.sites p.calls → ((l : CallSoFar) → q l ≡ r l) → length (filter r p.calls) ≤ 1 → find r p.calls ≡ Some k → change q f p.calls ≡ change (is_id k.id) f p.calls
changes_by_name p q r f k st same few found = ap (λ (t : CallSoFar → Bool). change t f p.calls) (λ i l. same l i) ∙ same_change r (is_id k.id) f p.calls k (only_one r p.calls k few found) (each_found (λ (l : CallSoFar). filter (is_id l.id) p.calls ≡ l ∷ []) r p.calls k found (calls_own p st)).0

-- and where none does, nothing changes
pub changes_none : (p : Past) (q r : CallSoFar → Bool) (f : CallSoFar → CallSoFar) → ((l : CallSoFar) → q l ≡ r l) → find r p.calls ≡ None → change q f p.calls ≡ p.calls
changes_none p q r f same none = ap (λ (t : CallSoFar → Bool). change t f p.calls) (λ i l. same l i) ∙ none_changed r f p.calls (lost_any r p.calls none)
