-- Packets in order by their places.
use Rattle.std.proofs.Common.{◌≡◌, ℕ, zero, suc, ◌+◌, ◌<◌, ◌≤◌, List, [], ◌∷◌, length, drop, get_or, Option, Some, None, slice_get, true, false, Bool, refl, sym, ap, ◌∙◌, subst, arith, add-one}
use Rattle.std.specs.List.{insert}
use Rattle.wire_messages.specs.declared.packet.Packet.{Packet}
use Rattle.epoch_rules.specs.of_role_steps.Tables.{put_before, sorted_onto}
use Rattle.the_run.specs.Steps.{is_before, in_order}
use Rattle.packet_order.specs.Orders.{with_picked, picked, ArePlaces, place_before}

insert_first : {A : Type 0} (xs : List A) (x : A) → insert xs 0 x ≡ x ∷ xs
insert_first [] x = refl
insert_first (y ∷ ys) x = refl

-- an element that is put before others is inserted at its place
pub put_placed : {A : Type 0} (before : A → A → Bool) (x : A) (ys : List A) → put_before before x ys ≡ insert ys (place_before before x ys) x
put_placed before x [] = refl
put_placed {A = A} before x (y ∷ ys) = elim (before x y) as (λ b. ◌≡◌ {A = List A} (elim b [ true ↦ x ∷ y ∷ ys | false ↦ y ∷ put_before before x ys ]) (insert (y ∷ ys) (elim b [ true ↦ 0 | false ↦ suc (place_before before x ys) ]) x)) [
  | true ↦ refl
  | false ↦ ap (λ zs. y ∷ zs) (put_placed before x ys)
]

pub get_some : {A : Type 0} (xs : List A) (i : ℕ) (d : A) → i < length xs → slice_get xs i ≡ Some (get_or xs i d)
get_some [] i d l = absurd (omega arith)
get_some (x ∷ xs) zero d l = refl
get_some (x ∷ xs) (suc i) d l = get_some xs i d (omega arith)

-- the packet at a place among others is picked there
pub picked_insert : (ps : List Packet) (is : List ℕ) (k i : ℕ) (p : Packet) → slice_get ps i ≡ Some p → ArePlaces (length ps) is → k ≤ length is → picked ps (insert is k i) ≡ insert (picked ps is) k p
picked_insert ps [] zero i p e h l = ap (λ o. with_picked o []) e
picked_insert ps [] (suc k) i p e h l = absurd (omega arith)
picked_insert ps (j ∷ is) zero i p e h l = ap (λ o. with_picked o (picked ps (j ∷ is))) e ∙ sym (insert_first (picked ps (j ∷ is)) p)
picked_insert ps (j ∷ is) (suc k) i p e h l =
    let q : Packet = get_or ps j p in
    let g : slice_get ps j ≡ Some q = get_some ps j p h.0 in
    ap (λ o. with_picked o (picked ps (insert is k i))) g
    ∙ (ap (λ zs. q ∷ zs) (picked_insert ps is k i p e h.1 (omega arith)) ∙ sym (ap (λ o. insert (with_picked o (picked ps is)) (suc k) p) g))

pub places_insert : (n : ℕ) (is : List ℕ) (k i : ℕ) → ArePlaces n is → i < n → k ≤ length is → ArePlaces n (insert is k i)
places_insert n [] zero i h l m = (l, tt)
places_insert n [] (suc k) i h l m = absurd (omega arith)
places_insert n (j ∷ is) zero i h l m = (l, h)
places_insert n (j ∷ is) (suc k) i h l m = (h.0, places_insert n is k i h.1 l (omega arith))

none_within : {B : Type 0} (xs : List Packet) (n : ℕ) → n < length xs → slice_get xs n ≡ None → B
none_within [] n l f = absurd (omega arith)
none_within (x ∷ xs) zero l f = absurd (cc)
none_within (x ∷ xs) (suc n) l f = none_within xs n (omega arith) f

longer : (o : Option Packet) (ps : List Packet) (n : ℕ) → (o ≡ None → ⊥) → length ps ≡ n → length (with_picked o ps) ≡ suc n
longer None ps n h e = absurd (h refl)
longer (Some p) ps n h e = ap suc e

pub length_picked : (ps : List Packet) (is : List ℕ) → ArePlaces (length ps) is → length (picked ps is) ≡ length is
length_picked ps [] h = refl
length_picked ps (i ∷ is) h = longer (slice_get ps i) (picked ps is) (length is) (λ e. none_within ps i h.0 e) (length_picked ps is h.1)

pub drop_at : {A : Type 0} (xs : List A) (i : ℕ) (x : A) → slice_get xs i ≡ Some x → drop i xs ≡ x ∷ drop (suc i) xs
drop_at [] i x e = absurd (cc)
drop_at {A = A} (y ∷ ys) zero x e = ap (λ z. z ∷ ys) (one y x e) where
  one : (a b : A) → ◌≡◌ {A = Option A} (Some a) (Some b) → a ≡ b
  one a b f = cc
drop_at (y ∷ ys) (suc i) x e = drop_at ys i x e

pub place_within : {A : Type 0} (before : A → A → Bool) (x : A) (ys : List A) → place_before before x ys ≤ length ys
place_within before x [] = omega arith
place_within before x (y ∷ ys) = elim (before x y) as (λ b. (elim b [ true ↦ 0 | false ↦ suc (place_before before x ys) ]) ≤ suc (length ys)) [
  | true ↦ omega arith
  | false ↦ omega (arith, place_within before x ys)
]

pub place_within_of : (ps : List Packet) (places : List ℕ) (p : Packet) → ArePlaces (length ps) places → place_before is_before p (picked ps places) ≤ length places
place_within_of ps places p h = subst (λ m. place_before is_before p (picked ps places) ≤ m) (length_picked ps places h) (place_within is_before p (picked ps places))

-- one packet more comes to its place
pub sorting_step : (ps : List Packet) (places now : List ℕ) (at next : ℕ) (d : Packet) → next < length ps → ArePlaces (length ps) places → at ≡ place_before is_before (get_or ps next d) (picked ps places) → now ≡ insert places at next
    → sorted_onto is_before (picked ps places) (drop next ps) ≡ in_order ps → sorted_onto is_before (picked ps now) (drop (next + 1) ps) ≡ in_order ps
sorting_step ps places now at next d l h a n e =
    let p : Packet = get_or ps next d in
    let g : slice_get ps next ≡ Some p = get_some ps next d l in
    let few : at ≤ length places = subst (λ m. m ≤ length places) (sym a) (subst (λ m. place_before is_before p (picked ps places) ≤ m) (length_picked ps places h) (place_within is_before p (picked ps places))) in
    let put : picked ps now ≡ put_before is_before p (picked ps places) = ap (picked ps) n ∙ (picked_insert ps places at next p g h few ∙ (ap (λ m. insert (picked ps places) m p) a ∙ sym (put_placed is_before p (picked ps places)))) in
    ap (λ done. sorted_onto is_before done (drop (next + 1) ps)) put
    ∙ (ap (λ m. sorted_onto is_before (put_before is_before p (picked ps places)) (drop m ps)) (add-one next)
    ∙ (sym (ap (sorted_onto is_before (picked ps places)) (drop_at ps next p g)) ∙ e))

pub places_at : (n : ℕ) (is : List ℕ) (i d : ℕ) → ArePlaces n is → i < length is → get_or is i d < n
places_at n [] i d h l = absurd (omega arith)
places_at n (j ∷ is) zero d h l = h.0
places_at n (j ∷ is) (suc i) d h l = places_at n is i d h.1 (omega arith)

-- ---- the place, found from the front ----

-- the next one is the place
pub place_here : (p q : Packet) (ps : List Packet) (is : List ℕ) (i j : ℕ) (d : ℕ) → is_before p q ≡ true → slice_get ps (get_or is i d) ≡ Some q → i < length is
    → i + place_before is_before p (picked ps (drop i is)) ≡ place_before is_before p (picked ps is) → i ≡ place_before is_before p (picked ps is)
place_here p q ps is i j d t g l e =
    let more : drop i is ≡ get_or is i d ∷ drop (suc i) is = drop_at is i (get_or is i d) (get_some is i d l) in
    let first : place_before is_before p (picked ps (drop i is)) ≡ 0 = ap (λ xs. place_before is_before p (picked ps xs)) more ∙ (ap (λ o. place_before is_before p (with_picked o (picked ps (drop (suc i) is)))) g ∙ rw (t, place_before) refl) in
    omega (arith, first, e)

pub place_later : (p q : Packet) (ps : List Packet) (is : List ℕ) (i : ℕ) (d : ℕ) → is_before p q ≡ false → slice_get ps (get_or is i d) ≡ Some q → i < length is
    → i + place_before is_before p (picked ps (drop i is)) ≡ place_before is_before p (picked ps is) → (i + 1) + place_before is_before p (picked ps (drop (i + 1) is)) ≡ place_before is_before p (picked ps is)
place_later p q ps is i d f g l e =
    let more : drop i is ≡ get_or is i d ∷ drop (suc i) is = drop_at is i (get_or is i d) (get_some is i d l) in
    let rest : place_before is_before p (picked ps (drop i is)) ≡ suc (place_before is_before p (picked ps (drop (suc i) is))) = ap (λ xs. place_before is_before p (picked ps xs)) more ∙ (ap (λ o. place_before is_before p (with_picked o (picked ps (drop (suc i) is)))) g ∙ rw (f, place_before) refl) in
    let same : place_before is_before p (picked ps (drop (i + 1) is)) ≡ place_before is_before p (picked ps (drop (suc i) is)) = ap (λ m. place_before is_before p (picked ps (drop m is))) (add-one i) in
    omega (arith, rest, same, e)
