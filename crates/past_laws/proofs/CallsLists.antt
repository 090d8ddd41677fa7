-- Lists in which some are changed or taken out: what each has, what is found, how many pass.
use Rattle.std.proofs.Common.{◌≡◌, suc, ◌≤◌, Bool, true, false, cond, ◌&&◌, ◌||◌, List, [], ◌∷◌, ◌++◌, length, map, filter, Option, Some, None, refl, sym, ◌∙◌, ap, subst, arith}
use Rattle.std.specs.List.{find, list_any, AllByRecursion}
use Rattle.std.specs.Option.{option_map}
use Rattle.promises.specs.After.{change}
use Rattle.past_laws.proofs.Names.{false_true, none_some, some_same}
use Rattle.past_laws.proofs.Changing.{find_changed}

-- ---- each ----

pub each_more : {X : Type 0} (P Q : X → Type 0) → ((x : X) → P x → Q x) → (xs : List X) → AllByRecursion P xs → AllByRecursion Q xs
each_more P Q h [] k = tt
each_more P Q h (x ∷ xs) k = (h x k.0, each_more P Q h xs k.1)

pub each_of : {X : Type 0} (P : X → Type 0) → ((x : X) → P x) → (xs : List X) → AllByRecursion P xs
each_of P h [] = tt
each_of P h (x ∷ xs) = (h x, each_of P h xs)

pub each_both : {X : Type 0} (P Q R : X → Type 0) → ((x : X) → P x → Q x → R x) → (xs : List X) → AllByRecursion P xs → AllByRecursion Q xs → AllByRecursion R xs
each_both P Q R h [] k l = tt
each_both P Q R h (x ∷ xs) k l = (h x k.0 l.0, each_both P Q R h xs k.1 l.1)

pub each_filter : {X : Type 0} (P : X → Type 0) (p : X → Bool) (xs : List X) → AllByRecursion P xs → AllByRecursion P (filter p xs)
each_filter P p [] k = tt
each_filter P p (x ∷ xs) k = over (p x) (each_filter P p xs k.1)
  where
    over : (b : Bool) → AllByRecursion P (filter p xs) → AllByRecursion P (cond b (x ∷ filter p xs) (filter p xs))
    over true later = (k.0, later)
    over false later = later

-- each that passes
pub each_passing : {X : Type 0} (P : X → Type 0) (p : X → Bool) → ((x : X) → p x ≡ true → P x) → (xs : List X) → AllByRecursion P (filter p xs)
each_passing P p h [] = tt
each_passing P p h (x ∷ xs) = over (p x) refl (each_passing P p h xs)
  where
    over : (b : Bool) → p x ≡ b → AllByRecursion P (filter p xs) → AllByRecursion P (cond b (x ∷ filter p xs) (filter p xs))
    over true e later = (h x e, later)
    over false e later = later

pub each_added : {X : Type 0} (P : X → Type 0) (xs : List X) (y : X) → AllByRecursion P xs → P y → AllByRecursion P (xs ++ y ∷ [])
each_added P [] y k h = (h, tt)
each_added P (x ∷ xs) y k h = (k.0, each_added P xs y k.1 h)

pub each_mapped : {X Y : Type 0} (P : X → Type 0) (Q : Y → Type 0) (f : X → Y) → ((x : X) → P x → Q (f x)) → (xs : List X) → AllByRecursion P xs → AllByRecursion Q (map f xs)
each_mapped P Q f h [] k = tt
each_mapped P Q f h (x ∷ xs) k = (h x k.0, each_mapped P Q f h xs k.1)

pub each_changed : {X : Type 0} (P Q : X → Type 0) (p : X → Bool) (f : X → X) → ((x : X) → p x ≡ true → P x → Q (f x)) → ((x : X) → p x ≡ false → P x → Q x) → (xs : List X) → AllByRecursion P xs → AllByRecursion Q (change p f xs)
each_changed {X} P Q p f then other xs k = each_mapped P Q (λ (x : X). cond (p x) (f x) x) (λ x h. over x (p x) refl h) xs k
  where
    over : (x : X) (b : Bool) → p x ≡ b → P x → Q (cond b (f x) x)
    over x true e h = then x e h
    over x false e h = other x e h

pub each_found : {X : Type 0} (P : X → Type 0) (p : X → Bool) (xs : List X) (x : X) → find p xs ≡ Some x → AllByRecursion P xs → P x × (p x ≡ true)
each_found P p [] x e k = none_some x e
each_found {X} P p (y ∷ xs) x e k = over (λ h. each_found P p xs x h k.1) (p y) refl e
  where
    over : (find p xs ≡ Some x → P x × (p x ≡ true)) → (b : Bool) → p y ≡ b → cond b (Some y) (find p xs) ≡ Some x → P x × (p x ≡ true)
    over later true h e = let same : y ≡ x = some_same y x e in (subst P same k.0, subst (λ (z : X). p z ≡ true) same h)
    over later false h e = later e

-- ---- what is found ----

-- what is found after a change was found before
pub record WasFound {X : Type 0} (p q : X → Bool) (f : X → X) (xs : List X) (y : X) : Type 0 where
  pub was : X
  pub found : find p xs ≡ Some was
  pub is : cond (q was) (f was) was ≡ y

pub was_found : {X : Type 0} (p q : X → Bool) (f : X → X) → ((x : X) → p (f x) ≡ p x) → (xs : List X) (y : X) → find p (change q f xs) ≡ Some y → WasFound p q f xs y
was_found {X} p q f same xs y e = over (find p xs) refl (sym (find_changed p q f (λ x h. same x) xs) ∙ e)
  where
    over : (o : Option X) → find p xs ≡ o → option_map (λ (x : X). cond (q x) (f x) x) o ≡ Some y → WasFound p q f xs y
    over None h k = none_some y k
    over (Some x) h k = record { was = x; found = h; is = some_same (cond (q x) (f x) x) y k }

-- ---- how many pass ----

pub many_changed : {X : Type 0} (p q : X → Bool) (f : X → X) → ((x : X) → p (f x) ≡ p x) → (xs : List X) → length (filter p (change q f xs)) ≡ length (filter p xs)
many_changed p q f same [] = refl
many_changed {X} p q f same (x ∷ xs) = over (p x) (seen (q x)) (many_changed p q f same xs)
  where
    seen : (b : Bool) → p (cond b (f x) x) ≡ p x
    seen true = same x
    seen false = refl

    over : (b : Bool) → p (cond (q x) (f x) x) ≡ b → length (filter p (change q f xs)) ≡ length (filter p xs) → length (filter p (change q f (x ∷ xs))) ≡ length (cond b (x ∷ filter p xs) (filter p xs))
    over true e later = rw e (ap suc later)
    over false e later = rw e later

-- of fewer, not more pass
pub many_left : {X : Type 0} (p q : X → Bool) (xs : List X) → length (filter p (filter q xs)) ≤ length (filter p xs)
many_left p q [] = omega arith
many_left {X} p q (x ∷ xs) = over (q x) (p x) refl (many_left p q xs)
  where
    over : (a b : Bool) → p x ≡ b → length (filter p (filter q xs)) ≤ length (filter p xs) → length (filter p (cond a (x ∷ filter q xs) (filter q xs))) ≤ length (cond b (x ∷ filter p xs) (filter p xs))
    over true true e later = rw e (omega arith)
    over true false e later = rw e later
    over false true e later = omega arith
    over false false e later = later

-- none passes
pub none_pass : {X : Type 0} (p : X → Bool) (xs : List X) → AllByRecursion (λ (x : X). p x ≡ false) xs → filter p xs ≡ []
none_pass p [] k = refl
none_pass {X} p (x ∷ xs) k = ap (λ (b : Bool). cond b (x ∷ filter p xs) (filter p xs)) k.0 ∙ none_pass p xs k.1

-- ---- the only one ----

-- one that passes is the only one, where at most one does
pub one_passes : {X : Type 0} (p q : X → Bool) (xs : List X) (x : X) → length (filter p xs) ≤ 1 → find q xs ≡ Some x → p x ≡ true → filter p xs ≡ x ∷ []
one_passes p q [] x few e h = none_some x e
one_passes {X} p q (y ∷ xs) x few e h = over (λ f k. one_passes p q xs x f k h) (q y) (p y) refl few e
  where
    alone : (ys : List X) → length (y ∷ ys) ≤ 1 → y ∷ ys ≡ y ∷ []
    alone [] g = refl
    alone (z ∷ ys) g = absurd (omega (arith, g))

    two : (ys : List X) → ys ≡ x ∷ [] → length (y ∷ ys) ≤ 1 → y ∷ ys ≡ x ∷ []
    two ys f g = absurd (two_many (subst (λ (zs : List X). length (y ∷ zs) ≤ 1) f g))
      where
        two_many : length (y ∷ x ∷ []) ≤ 1 → ⊥
        two_many k = omega (arith, k)

    less : length (y ∷ filter p xs) ≤ 1 → length (filter p xs) ≤ 1
    less k = omega (arith, k)

    over : (length (filter p xs) ≤ 1 → find q xs ≡ Some x → filter p xs ≡ x ∷ []) → (a b : Bool) → p y ≡ b → length (cond b (y ∷ filter p xs) (filter p xs)) ≤ 1 → cond a (Some y) (find q xs) ≡ Some x → cond b (y ∷ filter p xs) (filter p xs) ≡ x ∷ []
    over later true true f g k = alone (filter p xs) g ∙ ap (λ (z : X). z ∷ []) (some_same y x k)
    over later true false f g k = false_true (sym f ∙ (ap p (some_same y x k) ∙ h))
    over later false true f g k = two (filter p xs) (later (less g) k) g
    over later false false f g k = later g k

pub filter_finds : {X : Type 0} (p : X → Bool) (xs : List X) (x : X) → filter p xs ≡ x ∷ [] → find p xs ≡ Some x
filter_finds {X} p [] x e = absurd (empty e)
  where
    empty : ◌≡◌ {A = List X} [] (x ∷ []) → ⊥
    empty k = cc
filter_finds {X} p (y ∷ xs) x e = over (filter_finds p xs x) (p y) e
  where
    first : (ys : List X) → y ∷ ys ≡ x ∷ [] → y ≡ x
    first ys k = cc

    over : (filter p xs ≡ x ∷ [] → find p xs ≡ Some x) → (b : Bool) → cond b (y ∷ filter p xs) (filter p xs) ≡ x ∷ [] → cond b (Some y) (find p xs) ≡ Some x
    over later true k = ap Some (first (filter p xs) k)
    over later false k = later k

-- what is found among what becomes of some
pub record FoundMapped {X Y : Type 0} (p : X → Bool) (g : X → Y) (q : Y → Bool) (xs : List X) (y : Y) : Type 0 where
  pub one : X
  pub found : find (λ (x : X). p x && q (g x)) xs ≡ Some one
  pub is : g one ≡ y

pub found_mapped : {X Y : Type 0} (p : X → Bool) (g : X → Y) (q : Y → Bool) (xs : List X) (y : Y) → find q (map g (filter p xs)) ≡ Some y → FoundMapped p g q xs y
found_mapped p g q [] y e = none_some y e
found_mapped {X} {Y} p g q (x ∷ xs) y e = over (found_mapped p g q xs y) (p x) (q (g x)) refl refl e
  where
    more : p x && q (g x) ≡ false → FoundMapped p g q xs y → FoundMapped p g q (x ∷ xs) y
    more h it = record { one = it.one; found = rw h it.found; is = it.is }

    over : (find q (map g (filter p xs)) ≡ Some y → FoundMapped p g q xs y) → (a b : Bool) → p x ≡ a → q (g x) ≡ b → find q (map g (cond a (x ∷ filter p xs) (filter p xs))) ≡ Some y → FoundMapped p g q (x ∷ xs) y
    over later true true f h k = record { one = x; found = rw (f, h) refl; is = some_same (g x) y (rw h at k) }
    over later true false f h k = more (rw f h) (later (rw h at k))
    over later false b f h k = more (rw f refl) (later k)

-- where each that passes has the same value of another test
pub any_value : {X : Type 0} (p q : X → Bool) (b : Bool) (xs : List X) → AllByRecursion (λ (x : X). p x ≡ true → q x ≡ b) xs → list_any (λ (x : X). p x && q x) xs ≡ (list_any p xs && b)
any_value p q b [] k = refl
any_value {X} p q b (x ∷ xs) k = over (p x) refl (any_value p q b xs k.1)
  where
    last : (b c : Bool) → (b || (c && b)) ≡ b
    last true c = refl
    last false true = refl
    last false false = refl

    over : (a : Bool) → p x ≡ a → list_any (λ (y : X). p y && q y) xs ≡ (list_any p xs && b) → ((a && q x) || list_any (λ (y : X). p y && q y) xs) ≡ ((a || list_any p xs) && b)
    over true e later = ap (λ (v : Bool). v || list_any (λ (y : X). p y && q y) xs) (k.0 e) ∙ (ap (λ (v : Bool). b || v) later ∙ last b (list_any p xs))
    over false e later = later
