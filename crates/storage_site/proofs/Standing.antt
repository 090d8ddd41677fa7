-- The places of open instances: what is asked of these alone is asked of all, and how they change.
use Rattle.std.proofs.Common.{◌≡◌, ℕ, zero, suc, ◌+◌, ◌<◌, ◌==◌, Bool, true, false, ◌&&◌, ◌||◌, List, [], ◌∷◌, ◌++◌, length, map, set, get_or, Option, Some, refl, sym, ap, ◌∙◌, append_assoc, arith}
use Rattle.std.specs.Prelude.{cond, filter, not, slice_get}
use Rattle.std.specs.List.{list_any, flat_map}
use Rattle.std.proofs.lemmas.Bool.Decides.{nat_tests}
use Rattle.role_steps.specs.Tables.{total}
use Rattle.locus_ids.specs.declared.ids.FileId.{FileId}
use Rattle.commit_graph.specs.Versions.{same_file}
use Rattle.role_steps.specs.Views.{Frame}
use Rattle.role_steps.specs.Storage.{changed_pages, closed_again, instance_key, is_open, is_open_of}
use Rattle.role_steps.specs.declared.instances.Instance.{Instance}
use Rattle.role_steps.specs.declared.instances.Stage.{Stage}
use Rattle.role_steps.specs.declared.instances.Stage.TheVariants as stage
use Rattle.store_instances.specs.Stores.{is_make}
use Rattle.storage_site.specs.Serving.{made_ino}
use Rattle.storage_site.specs.Standing.{again_by, changed_by, is_of, made_by, open_from, place_if}

-- ---- what is asked of them ----

-- at each place of an open one stands what is asked of it
pub record Answers {A : Type 0} (ask : ℕ → A) (own : Instance → A) (k : ℕ) (xs : List Instance) : Type 0 where
  pub each : (j : ℕ) (x : Instance) → slice_get xs j ≡ Some x → ask (k + j) ≡ own x

next_place : (k j : ℕ) → (k + 1) + j ≡ k + suc j
next_place k j = omega arith

first_place : (k : ℕ) → k ≡ k + 0
first_place k = omega arith

answers_next : {A : Type 0} (ask : ℕ → A) (own : Instance → A) (k : ℕ) (x : Instance) (xs : List Instance) → Answers ask own k (x ∷ xs) → Answers ask own (k + 1) xs
answers_next ask own k x xs h = record { each = λ j y is. ap ask (next_place k j) ∙ h.each (suc j) y is }

answers_first : {A : Type 0} (ask : ℕ → A) (own : Instance → A) (k : ℕ) (x : Instance) (xs : List Instance) → Answers ask own k (x ∷ xs) → ask k ≡ own x
answers_first ask own k x xs h = ap ask (first_place k) ∙ h.each zero x refl

any_front : (b : Bool) (ask : ℕ → Bool) (k : ℕ) (rest : List ℕ) → list_any ask (place_if b k ++ rest) ≡ ((b && ask k) || list_any ask rest)
any_front true ask k rest = refl
any_front false ask k rest = refl

pub any_open : (ask : ℕ → Bool) (own : Instance → Bool) (k : ℕ) (xs : List Instance) → Answers ask own k xs → list_any ask (open_from k xs) ≡ list_any (λ (i : Instance). is_open i.stage && own i) xs
any_open ask own k [] h = refl
any_open ask own k (x ∷ xs) h =
    any_front (is_open x.stage) ask k (open_from (k + 1) xs)
    ∙ ap (λ (b : Bool). (is_open x.stage && b) || list_any ask (open_from (k + 1) xs)) (answers_first ask own k x xs h)
    ∙ ap (λ (b : Bool). (is_open x.stage && own x) || b) (any_open ask own (k + 1) xs (answers_next ask own k x xs h))

total_front : (b : Bool) (ask : ℕ → ℕ) (k n : ℕ) (rest : List ℕ) → ask k ≡ n → (b ≡ false → n ≡ 0) → total ask (place_if b k ++ rest) ≡ n + total ask rest
total_front true ask k n rest e none = ap (λ (m : ℕ). m + total ask rest) e
total_front false ask k n rest e none = let z : n ≡ 0 = none refl in omega (arith, z)

-- an ended one has none
pub total_open : (ask : ℕ → ℕ) (own : Instance → ℕ) (k : ℕ) (xs : List Instance) → Answers ask own k xs → ((i : Instance) → is_open i.stage ≡ false → own i ≡ 0) → total ask (open_from k xs) ≡ total own xs
total_open ask own k [] h none = refl
total_open ask own k (x ∷ xs) h none =
    total_front (is_open x.stage) ask k (own x) (open_from (k + 1) xs) (answers_first ask own k x xs h) (none x)
    ∙ ap (λ (m : ℕ). own x + m) (total_open ask own (k + 1) xs (answers_next ask own k x xs h) none)

flat_front : {A : Type 0} (b : Bool) (ask : ℕ → List A) (k : ℕ) (ys : List A) (rest : List ℕ) → ask k ≡ ys → (b ≡ false → ys ≡ []) → flat_map ask (place_if b k ++ rest) ≡ ys ++ flat_map ask rest
flat_front true ask k ys rest e none = ap (λ zs. zs ++ flat_map ask rest) e
flat_front false ask k ys rest e none = ap (λ zs. zs ++ flat_map ask rest) (sym (none refl))

pub flat_open : {A : Type 0} (ask : ℕ → List A) (own : Instance → List A) (k : ℕ) (xs : List Instance) → Answers ask own k xs → ((i : Instance) → is_open i.stage ≡ false → own i ≡ []) → flat_map ask (open_from k xs) ≡ flat_map own xs
flat_open ask own k [] h none = refl
flat_open ask own k (x ∷ xs) h none =
    flat_front (is_open x.stage) ask k (own x) (open_from (k + 1) xs) (answers_first ask own k x xs h) (none x)
    ∙ ap (λ zs. own x ++ zs) (flat_open ask own (k + 1) xs (answers_next ask own k x xs h) none)

-- what is asked by the instance of a place is asked of the instance
pub by_place : {A : Type 0} (ask : Option Instance → A) (xs : List Instance) → Answers (λ (q : ℕ). ask (slice_get xs q)) (λ (i : Instance). ask (Some i)) 0 xs
by_place ask xs = record { each = λ j x is. ap ask (ap (λ (q : ℕ). slice_get xs q) (from_start j) ∙ is) } where
  from_start : (j : ℕ) → 0 + j ≡ j
  from_start j = omega arith

-- ---- how they change ----

end_place : (b : Bool) (k : ℕ) → place_if b k ++ [] ≡ place_if b (k + 0)
end_place true k = ap (λ (n : ℕ). n ∷ []) (first_place k)
end_place false k = refl

-- one instance more
pub open_more : (k : ℕ) (xs : List Instance) (x : Instance) → open_from k (xs ++ x ∷ []) ≡ open_from k xs ++ place_if (is_open x.stage) (k + length xs)
open_more k [] x = end_place (is_open x.stage) k
open_more k (y ∷ ys) x =
    ap (λ (qs : List ℕ). place_if (is_open y.stage) k ++ qs) (open_more (k + 1) ys x ∙ ap (λ (n : ℕ). open_from (k + 1) ys ++ place_if (is_open x.stage) n) (next_place k (length ys)))
    ∙ sym (append_assoc (place_if (is_open y.stage) k) (open_from (k + 1) ys) (place_if (is_open x.stage) (k + suc (length ys))))

-- another instance, open as the one that it replaces
pub open_same : (k : ℕ) (xs : List Instance) (p : ℕ) (i new : Instance) → i ≡ get_or xs p i → is_open new.stage ≡ is_open i.stage → open_from k (set xs p new) ≡ open_from k xs
open_same k [] p i new is same = refl
open_same k (y ∷ ys) zero i new is same = ap (λ (b : Bool). place_if b k ++ open_from (k + 1) ys) (same ∙ ap (λ (j : Instance). is_open j.stage) is)
open_same k (y ∷ ys) (suc p) i new is same = ap (λ (qs : List ℕ). place_if (is_open y.stage) k ++ qs) (open_same (k + 1) ys p i new is same)

abbrev pub without_place : ℕ → List ℕ → List ℕ
without_place place qs = filter (λ (q : ℕ). not (q == place)) qs

kept_front : (b : Bool) (k place : ℕ) (rest : List ℕ) → (k ≡ place → ⊥) → without_place place (place_if b k ++ rest) ≡ place_if b k ++ without_place place rest
kept_front false k place rest other = refl
kept_front true k place rest other = passes (k == place) (differs k place other) where
  differs : (m n : ℕ) → (m ≡ n → ⊥) → (m == n) ≡ false
  differs m n h = grind (arith, nat_tests)

  passes : (t : Bool) → t ≡ false → cond (not t) (k ∷ without_place place rest) (without_place place rest) ≡ k ∷ without_place place rest
  passes false h = refl
  passes true h = absurd cc

dropped_front : (b : Bool) (k : ℕ) (rest : List ℕ) → without_place k (place_if b k ++ rest) ≡ without_place k rest
dropped_front false k rest = refl
dropped_front true k rest = drops (k == k) (alike k) where
  alike : (n : ℕ) → (n == n) ≡ true
  alike n = grind (arith, nat_tests)

  drops : (t : Bool) → t ≡ true → cond (not t) (k ∷ without_place k rest) (without_place k rest) ≡ without_place k rest
  drops true h = refl
  drops false h = absurd cc

-- places past it stay
all_past : (k place : ℕ) (xs : List Instance) → place < k → without_place place (open_from k xs) ≡ open_from k xs
all_past k place [] h = refl
all_past k place (x ∷ xs) h =
    kept_front (is_open x.stage) k place (open_from (k + 1) xs) (λ e. omega (arith, h, e))
    ∙ ap (λ (qs : List ℕ). place_if (is_open x.stage) k ++ qs) (all_past (k + 1) place xs (omega (arith, h)))

ended_place : (b : Bool) (k : ℕ) (rest : List ℕ) → b ≡ false → place_if b k ++ rest ≡ rest
ended_place false k rest h = refl
ended_place true k rest h = absurd cc

-- an instance that has ended
pub open_ended : (k : ℕ) (xs : List Instance) (p : ℕ) (new : Instance) → is_open new.stage ≡ false → open_from k (set xs p new) ≡ without_place (k + p) (open_from k xs)
open_ended k [] p new h = refl
open_ended k (y ∷ ys) zero new h =
    ended_place (is_open new.stage) k (open_from (k + 1) ys) h
    ∙ sym (dropped_front (is_open y.stage) k (open_from (k + 1) ys) ∙ all_past (k + 1) k ys (omega arith))
    ∙ ap (λ (n : ℕ). without_place n (open_from k (y ∷ ys))) (first_place k)
open_ended k (y ∷ ys) (suc p) new h =
    ap (λ (qs : List ℕ). place_if (is_open y.stage) k ++ qs) (open_ended (k + 1) ys p new h ∙ ap (λ (n : ℕ). without_place n (open_from (k + 1) ys)) (next_place k p))
    ∙ sym (kept_front (is_open y.stage) k (k + suc p) (open_from (k + 1) ys) (λ e. omega (arith, e)))

-- ---- the same of rows and places that are these ----

module _ (xs rows : List Instance) (standing places : List ℕ) (r : rows ≡ xs) (s : places ≡ standing) (are : standing ≡ open_from 0 xs) where
  -- what is asked at the places of the rows is asked of the open ones
  asked : {A B : Type 0} (fold : (ℕ → A) → List ℕ → B) (ask : Option Instance → A) → fold (λ (q : ℕ). ask (slice_get rows q)) places ≡ fold (λ (q : ℕ). ask (slice_get xs q)) (open_from 0 xs)
  asked fold ask = ap (λ (ys : List Instance). fold (λ (q : ℕ). ask (slice_get ys q)) places) r ∙ ap (λ (qs : List ℕ). fold (λ (q : ℕ). ask (slice_get xs q)) qs) (s ∙ are)

  pub any_standing : (file : FileId) → list_any (λ (q : ℕ). is_of file (slice_get rows q)) places ≡ list_any (is_open_of file) xs
  any_standing file = asked list_any (is_of file) ∙ any_open (λ (q : ℕ). is_of file (slice_get xs q)) (λ (i : Instance). same_file i.file file) 0 xs (by_place (is_of file) xs)

  pub changed_standing : (group : ℕ) → total (λ (q : ℕ). changed_by group (slice_get rows q)) places ≡ total (changed_pages group) xs
  changed_standing group = asked total (changed_by group) ∙ total_open (λ (q : ℕ). changed_by group (slice_get xs q)) (changed_pages group) 0 xs (by_place (changed_by group) xs) none where
    none : (i : Instance) → is_open i.stage ≡ false → changed_pages group i ≡ 0
    none i h = ap (λ (b : Bool). cond (b && (i.file.group == group)) (length i.work.changed) 0) h

  pub made_standing : (group : ℕ) → flat_map (λ (q : ℕ). made_by group (slice_get rows q)) places ≡ flat_map (made_ino group) xs
  made_standing group = asked flat_map (made_by group) ∙ flat_open (λ (q : ℕ). made_by group (slice_get xs q)) (made_ino group) 0 xs (by_place (made_by group) xs) none where
    none : (i : Instance) → is_open i.stage ≡ false → made_ino group i ≡ []
    none i h = ap (λ (b : Bool). cond ((b && (i.file.group == group)) && is_make i.mode) (i.file.ino ∷ []) []) h

  pub again_standing : (f : Frame) → flat_map (λ (q : ℕ). again_by f (slice_get rows q)) places ≡ flat_map (λ (i : Instance). closed_again f i i.stage) xs
  again_standing f = asked flat_map (again_by f) ∙ flat_open (λ (q : ℕ). again_by f (slice_get xs q)) (λ (i : Instance). closed_again f i i.stage) 0 xs (by_place (again_by f) xs) (λ i h. none i i.stage h) where
    none : (i : Instance) (st : Stage) → is_open st ≡ false → closed_again f i st ≡ []
    none i stage.Running h = refl
    none i (stage.Closing made a) h = absurd cc
    none i (stage.Closed a) h = refl

-- ---- one row more ----

keys_end : (xs : List Instance) (x : Instance) → map instance_key (xs ++ x ∷ []) ≡ map instance_key xs ++ instance_key x ∷ []
keys_end [] x = refl
keys_end (y ∷ ys) x = ap (λ (ks : List ℕ). instance_key y ∷ ks) (keys_end ys x)

pub keys_more : (xs ys : List Instance) (x : Instance) (keys now : List ℕ) → keys ≡ map instance_key xs → ys ≡ xs ++ x ∷ [] → now ≡ keys ++ instance_key x ∷ [] → now ≡ map instance_key ys
keys_more xs ys x keys now e rows more =
    more ∙ ap (λ (ks : List ℕ). ks ++ instance_key x ∷ []) e ∙ sym (keys_end xs x) ∙ ap (λ (zs : List Instance). map instance_key zs) (sym rows)

pub stand_more : (xs ys : List Instance) (x : Instance) (standing now : List ℕ) (n : ℕ) → standing ≡ open_from 0 xs → ys ≡ xs ++ x ∷ [] → is_open x.stage ≡ true → n ≡ length xs → now ≡ standing ++ n ∷ [] → now ≡ open_from 0 ys
stand_more xs ys x standing now n e rows stands place more =
    more ∙ ap (λ (qs : List ℕ). qs ++ n ∷ []) e ∙ ap (λ (m : ℕ). open_from 0 xs ++ m ∷ []) (place ∙ from_start (length xs))
    ∙ ap (λ (b : Bool). open_from 0 xs ++ place_if b (0 + length xs)) (sym stands) ∙ sym (open_more 0 xs x) ∙ ap (λ (zs : List Instance). open_from 0 zs) (sym rows) where
      from_start : (m : ℕ) → m ≡ 0 + m
      from_start m = omega arith
