-- Calls that are the same but for what a record may change of them: their answers, what was granted to them, and whether they wait.
use Rattle.std.proofs.Common.{◌≡◌, suc, Bool, true, false, cond, List, [], ◌∷◌, length, map, filter, Option, Some, None, refl, sym, ◌∙◌, ap, subst}
use Rattle.std.specs.Prelude.{fold}
use Rattle.std.specs.List.{find, AllByRecursion}
use Rattle.std.specs.Option.{option_map}
use Rattle.locus_ids.specs.declared.ids.CallId.{CallId}
use Rattle.promises.specs.Past.{Past, CallSoFar}
use Rattle.promises.specs.After.{is_id}
use Rattle.past_laws.proofs.Names.{none_some, some_same}

-- what no record changes
abbrev pub head : CallSoFar → CallSoFar
head k = record k { granted = None; answers = []; waits = false }

-- and with whether it waits, what was granted to it, or what it was answered
abbrev pub with_waits : CallSoFar → CallSoFar
with_waits k = record k { granted = None; answers = [] }

abbrev pub with_granted : CallSoFar → CallSoFar
with_granted k = record k { answers = []; waits = false }

abbrev pub with_answers : CallSoFar → CallSoFar
with_answers k = record k { granted = None; waits = false }

-- ---- a part that is the same of each ----

pub find_mapped : {X Y : Type 0} (p : X → Bool) (q : Y → Bool) (g : X → Y) → ((x : X) → q (g x) ≡ p x) → (xs : List X) → find q (map g xs) ≡ option_map g (find p xs)
find_mapped p q g same [] = refl
find_mapped {X} {Y} p q g same (x ∷ xs) = ap (λ (b : Bool). cond b (Some (g x)) (find q (map g xs))) (same x) ∙ over (p x) (find_mapped p q g same xs)
  where
    over : (b : Bool) → find q (map g xs) ≡ option_map g (find p xs) → cond b (Some (g x)) (find q (map g xs)) ≡ option_map g (cond b (Some x) (find p xs))
    over true later = refl
    over false later = later

pub filter_mapped : {X Y : Type 0} (p : X → Bool) (q : Y → Bool) (g : X → Y) → ((x : X) → q (g x) ≡ p x) → (xs : List X) → filter q (map g xs) ≡ map g (filter p xs)
filter_mapped p q g same [] = refl
filter_mapped {X} {Y} p q g same (x ∷ xs) = ap (λ (b : Bool). cond b (g x ∷ filter q (map g xs)) (filter q (map g xs))) (same x) ∙ over (p x) (filter_mapped p q g same xs)
  where
    over : (b : Bool) → filter q (map g xs) ≡ map g (filter p xs) → cond b (g x ∷ filter q (map g xs)) (filter q (map g xs)) ≡ map g (cond b (x ∷ filter p xs) (filter p xs))
    over true later = ap (λ (ys : List Y). g x ∷ ys) later
    over false later = later

map_length : {X Y : Type 0} (g : X → Y) (xs : List X) → length (map g xs) ≡ length xs
map_length g [] = refl
map_length g (x ∷ xs) = ap suc (map_length g xs)

pub map_twice : {X Y Z : Type 0} (g : X → Y) (h : Y → Z) (xs : List X) → map h (map g xs) ≡ map (λ (x : X). h (g x)) xs
map_twice g h [] = refl
map_twice {X} {Y} {Z} g h (x ∷ xs) = ap (λ (ys : List Z). h (g x) ∷ ys) (map_twice g h xs)

option_twice : {X Y Z : Type 0} (g : X → Y) (h : Y → Z) (o : Option X) → option_map h (option_map g o) ≡ option_map (λ (x : X). h (g x)) o
option_twice g h None = refl
option_twice g h (Some x) = refl

-- what is found among calls whose parts are the same
pub found_part : {Y : Type 0} (g : CallSoFar → CallSoFar) (h : CallSoFar → Y) → ((d : CallId) (k : CallSoFar) → is_id d (g k) ≡ is_id d k) → ((k : CallSoFar) → h (g k) ≡ h k) → (xs ys : List CallSoFar) → map g xs ≡ map g ys → (d : CallId) → option_map h (find (is_id d) xs) ≡ option_map h (find (is_id d) ys)
found_part {Y} g h ids same xs ys e d = sym (part xs) ∙ (ap (λ (zs : List CallSoFar). option_map h (find (is_id d) zs)) e ∙ part ys)
  where
    part : (zs : List CallSoFar) → option_map h (find (is_id d) (map g zs)) ≡ option_map h (find (is_id d) zs)
    part zs = ap (option_map h) (find_mapped (is_id d) (is_id d) g (ids d) zs) ∙ (option_twice g h (find (is_id d) zs) ∙ ap (λ (f : CallSoFar → Y). option_map f (find (is_id d) zs)) (λ i k. same k i))

-- the same call was there before
pub record Was (g : CallSoFar → CallSoFar) (xs : List CallSoFar) (k : CallSoFar) : Type 0 where
  pub was : CallSoFar
  pub found : find (is_id k.id) xs ≡ Some was
  pub same : g was ≡ g k

pub found_alike : (g : CallSoFar → CallSoFar) → ((d : CallId) (k : CallSoFar) → is_id d (g k) ≡ is_id d k) → (xs ys : List CallSoFar) → map g xs ≡ map g ys → (d : CallId) → option_map g (find (is_id d) xs) ≡ option_map g (find (is_id d) ys)
found_alike g ids xs ys e d = sym (find_mapped (is_id d) (is_id d) g (ids d) xs) ∙ (ap (find (is_id d)) e ∙ find_mapped (is_id d) (is_id d) g (ids d) ys)

pub was_there : (g : CallSoFar → CallSoFar) → ((d : CallId) (k : CallSoFar) → is_id d (g k) ≡ is_id d k) → (xs ys : List CallSoFar) → map g xs ≡ map g ys → (k : CallSoFar) → find (is_id k.id) ys ≡ Some k → Was g xs k
was_there g ids xs ys e k h = over (find (is_id k.id) xs) refl (found_alike g ids xs ys e k.id ∙ ap (option_map g) h)
  where
    over : (o : Option CallSoFar) → find (is_id k.id) xs ≡ o → option_map g o ≡ Some (g k) → Was g xs k
    over None p q = none_some (g k) q
    over (Some x) p q = record { was = x; found = p; same = some_same (g x) (g k) q }

pub many_alike : (g : CallSoFar → CallSoFar) → ((d : CallId) (k : CallSoFar) → is_id d (g k) ≡ is_id d k) → (xs ys : List CallSoFar) → map g xs ≡ map g ys → (d : CallId) → length (filter (is_id d) xs) ≡ length (filter (is_id d) ys)
many_alike g ids xs ys e d = sym (part xs) ∙ (ap (λ (zs : List CallSoFar). length (filter (is_id d) zs)) e ∙ part ys)
  where
    part : (zs : List CallSoFar) → length (filter (is_id d) (map g zs)) ≡ length (filter (is_id d) zs)
    part zs = ap length (filter_mapped (is_id d) (is_id d) g (ids d) zs) ∙ map_length g (filter (is_id d) zs)

-- what stands of a part stands of each of the others
pub each_alike : (g : CallSoFar → CallSoFar) (P : CallSoFar → Type 0) → ((k : CallSoFar) → P k → P (g k)) → ((k : CallSoFar) → P (g k) → P k) → (xs ys : List CallSoFar) → map g xs ≡ map g ys → AllByRecursion P xs → AllByRecursion P ys
each_alike g P to from xs ys e k = back ys (subst (AllByRecursion P) e (forth xs k))
  where
    forth : (zs : List CallSoFar) → AllByRecursion P zs → AllByRecursion P (map g zs)
    forth [] k = tt
    forth (z ∷ zs) k = (to z k.0, forth zs k.1)

    back : (zs : List CallSoFar) → AllByRecursion P (map g zs) → AllByRecursion P zs
    back [] k = tt
    back (z ∷ zs) k = (from z k.0, back zs k.1)

-- ---- folds that keep a part of each call ----

pub fold_keeps : {X Y : Type 0} (g : CallSoFar → Y) (f : Past → X → Past) → ((p : Past) (x : X) → map g (f p x).calls ≡ map g p.calls) → (xs : List X) (p : Past) → map g (fold f p xs).calls ≡ map g p.calls
fold_keeps g f same [] p = refl
fold_keeps g f same (x ∷ xs) p = fold_keeps g f same xs (f p x) ∙ same p x
