-- Where the number of the kind, the receiver and the body stand in a packet's bytes.
use Rattle.std.proofs.Common.{◌≡◌, ℕ, zero, suc, ◌+◌, ◌<◌, ◌≤◌, List, [], ◌∷◌, ◌++◌, append_assoc, add-one, length, map, drop, get_or, slice_get, Option, Some, true, false, Bool, refl, sym, ap, ◌∙◌, subst, arith}
use Rattle.std.specs.List.{insert}
use Rattle.epoch_rules.specs.of_role_steps.Tables.{sorted_onto}
use Rattle.the_run.specs.Steps.{in_order, is_before}
use Rattle.packet_order.specs.Orders.{picked, place_before, ArePlaces}
use Rattle.packet_order.proofs.Placing.{drop_at, get_some, place_here, place_later, place_within_of, places_at, places_insert, sorting_step}
use Rattle.wire_messages.specs.Packets.{packet_bytes}
use Rattle.wire_messages.specs.declared.packet.Packet.{Packet}

pub is_long : (p : Packet) → 25 ≤ length (packet_bytes p)
is_long p = omega arith

-- a packet at a place, and its bytes
pub record LetterAt (ps : List Packet) (i : ℕ) (bytes : List ℕ) : Type 0 where
  pub packet : Packet
  pub stands : slice_get ps i ≡ Some packet
  pub spelled : bytes ≡ packet_bytes packet

some_bytes : (a b : List ℕ) → ◌≡◌ {A = Option (List ℕ)} (Some a) (Some b) → a ≡ b
some_bytes a b e = cc

pub letter_at : (ps : List Packet) (i : ℕ) (bytes : List ℕ) → ◌≡◌ {A = Option (List ℕ)} (Some bytes) (slice_get (map packet_bytes ps) i) → LetterAt ps i bytes
letter_at [] i bytes e = absurd (cc)
letter_at (p ∷ ps) zero bytes e = record { packet = p; stands = refl; spelled = some_bytes bytes (packet_bytes p) e }
letter_at (p ∷ ps) (suc i) bytes e = let l = letter_at ps i bytes e in record { packet = l.packet; stands = l.stands; spelled = l.spelled }

pub letter_in : (ps : List Packet) (letters : List (List ℕ)) (i : ℕ) (bytes : List ℕ) → letters ≡ map packet_bytes ps → ◌≡◌ {A = Option (List ℕ)} (Some bytes) (slice_get letters i) → LetterAt ps i bytes
letter_in ps letters i bytes e f = letter_at ps i bytes (f ∙ ap (λ (xs : List (List ℕ)). slice_get xs i) e)

pub letter_long : (ps : List Packet) (i : ℕ) (bytes : List ℕ) → LetterAt ps i bytes → 25 ≤ length bytes
letter_long ps i bytes l = subst (λ (xs : List ℕ). 25 ≤ length xs) (sym l.spelled) (is_long l.packet)

length_letters : (ps : List Packet) → length (map packet_bytes ps) ≡ length ps
length_letters [] = refl
length_letters (p ∷ ps) = ap suc (length_letters ps)

pub next_within : (ps : List Packet) (letters : List (List ℕ)) (n : ℕ) → letters ≡ map packet_bytes ps → n < length ps → n < length letters
next_within ps letters n e l = subst (λ m. n < m) (sym (ap length e ∙ length_letters ps)) l

pub place_within : (ps : List Packet) (letters : List (List ℕ)) (is : List ℕ) (i d : ℕ) → letters ≡ map packet_bytes ps → ArePlaces (length ps) is → i < length is → get_or is i d < length letters
place_within ps letters is i d e h l = next_within ps letters (get_or is i d) e (places_at (length ps) is i d h l)

some_packet : (p q : Packet) → ◌≡◌ {A = Option Packet} (Some p) (Some q) → p ≡ q
some_packet p q e = cc

pub found_here : (ps : List Packet) (is : List ℕ) (next i d : ℕ) (a b : List ℕ) (p : Packet) (r : Bool) → LetterAt ps next a → LetterAt ps (get_or is i d) b → slice_get ps next ≡ Some p → ((p q : Packet) → a ≡ packet_bytes p → b ≡ packet_bytes q → r ≡ is_before p q) → r ≡ true → i < length is
    → i + place_before is_before p (picked ps (drop i is)) ≡ place_before is_before p (picked ps is) → i ≡ place_before is_before p (picked ps is)
found_here ps is next i d a b p r h k e t s l v =
    let same : p ≡ h.packet = some_packet p h.packet (sym e ∙ h.stands) in
    place_here p k.packet ps is i d d (sym (t p k.packet (h.spelled ∙ ap packet_bytes (sym same)) k.spelled) ∙ s) k.stands l v

pub found_later : (ps : List Packet) (is : List ℕ) (next i d : ℕ) (a b : List ℕ) (p : Packet) (r : Bool) → LetterAt ps next a → LetterAt ps (get_or is i d) b → slice_get ps next ≡ Some p → ((p q : Packet) → a ≡ packet_bytes p → b ≡ packet_bytes q → r ≡ is_before p q) → r ≡ false → i < length is
    → i + place_before is_before p (picked ps (drop i is)) ≡ place_before is_before p (picked ps is) → (i + 1) + place_before is_before p (picked ps (drop (i + 1) is)) ≡ place_before is_before p (picked ps is)
found_later ps is next i d a b p r h k e t s l v =
    let same : p ≡ h.packet = some_packet p h.packet (sym e ∙ h.stands) in
    place_later p k.packet ps is i d (sym (t p k.packet (h.spelled ∙ ap packet_bytes (sym same)) k.spelled) ∙ s) k.stands l v

pub letters_next : (ps : List Packet) (made now all : List (List ℕ)) (i : ℕ) (p : Packet) (l : List ℕ) → i < length ps → p ≡ get_or ps i p → l ≡ packet_bytes p → now ≡ made ++ l ∷ [] → made ++ map packet_bytes (drop i ps) ≡ all → now ++ map packet_bytes (drop (i + 1) ps) ≡ all
letters_next ps made now all i p l few e s n h =
    let first : drop i ps ≡ p ∷ drop (suc i) ps = drop_at ps i p (get_some ps i p few ∙ ap Some (sym e)) in
    ap (λ (xs : List (List ℕ)). xs ++ map packet_bytes (drop (i + 1) ps)) n
    ∙ (append_assoc made (l ∷ []) (map packet_bytes (drop (i + 1) ps))
    ∙ (ap (λ (m : ℕ). made ++ l ∷ map packet_bytes (drop m ps)) (add-one i)
    ∙ (ap (λ (b : List ℕ). made ++ b ∷ map packet_bytes (drop (suc i) ps)) s ∙ (sym (ap (λ (xs : List Packet). made ++ map packet_bytes xs) first) ∙ h))))

-- ---- one packet more ----

pub record Stands (ps : List Packet) (i : ℕ) : Type 0 where
  pub packet : Packet
  pub stands : slice_get ps i ≡ Some packet

stands_at : (ps : List Packet) (i : ℕ) → i < length ps → Stands ps i
stands_at [] i l = absurd (omega arith)
stands_at (p ∷ ps) zero l = record { packet = p; stands = refl }
stands_at (p ∷ ps) (suc i) l = let s = stands_at ps i (omega arith) in record { packet = s.packet; stands = s.stands }

abbrev pub IsPlaceFor : List Packet → List ℕ → ℕ → ℕ → Type 0
IsPlaceFor ps places next at = (p : Packet) → slice_get ps next ≡ Some p → at ≡ place_before is_before p (picked ps places)

pub place_few : (ps : List Packet) (places given : List ℕ) (at next : ℕ) → given ≡ places → IsPlaceFor ps given next at → next < length ps → ArePlaces (length ps) places → at ≤ length places
place_few ps places given at next g h l a =
    let s = stands_at ps next l in
    subst (λ m. m ≤ length places) (sym (h s.packet s.stands ∙ ap (λ xs. place_before is_before s.packet (picked ps xs)) g)) (place_within_of ps places s.packet a)

pub order_next : (ps : List Packet) (places given now : List ℕ) (at next : ℕ) → given ≡ places → IsPlaceFor ps given next at → next < length ps → now ≡ insert places at next
    → (sorted_onto is_before (picked ps places) (drop next ps) ≡ in_order ps) × ArePlaces (length ps) places → (sorted_onto is_before (picked ps now) (drop (next + 1) ps) ≡ in_order ps) × ArePlaces (length ps) now
order_next ps places given now at next g h l n v =
    let s = stands_at ps next l in
    let few : at ≤ length places = place_few ps places given at next g h l v.1 in (
      sorting_step ps places now at next s.packet l v.1 (h (get_or ps next s.packet) (get_some ps next s.packet l) ∙ ap (λ xs. place_before is_before (get_or ps next s.packet) (picked ps xs)) g) n v.0,
      subst (ArePlaces (length ps)) (sym n) (places_insert (length ps) places at next v.1 l few),
    )
