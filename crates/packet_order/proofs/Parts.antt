-- An outbox's packets, in the order of their places.
use Rattle.std.proofs.Common.{◌≡◌, ℕ, zero, suc, ◌+◌, ◌<◌, ◌==◌, List, [], ◌∷◌, ◌++◌, length, map, take, drop, set, get_or, slice_get, Option, Some, None, true, false, refl, sym, ap, ◌∙◌, arith}
use Rattle.std.specs.List.{flat_map}
use Rattle.epoch_rules.proofs.of_role_steps.of_plain_facts.Options.{some_same}
use Rattle.trace_book.specs.declared.record.Record.{Record}
use Rattle.wire_messages.specs.Outboxes.{Outgoing}
use Rattle.wire_messages.specs.declared.packet.Packet.{Packet}
use Rattle.epoch_rules.specs.of_role_steps.Tables.{put_before, sorted_onto}
use Rattle.the_run.specs.Steps.{is_before, in_order}
use Rattle.packet_order.specs.Orders.{picked, with_picked, in_place, sorted_out, packets_in, records_in, together, unsent, ArePlaces}
use Rattle.packet_order.proofs.Placing.{length_picked}

pub length_in_place : (ps : List Packet) (is : List ℕ) (n : ℕ) → ArePlaces (length ps) is → n ≡ length is → (n ≡ 0 → ⊥) → n ≡ length (in_place ps is)
length_in_place ps [] n h e f = absurd (f e)
length_in_place ps (i ∷ is) n h e f = e ∙ sym (length_picked ps (i ∷ is) h)

some_of : (o : Option Packet) (ps : List Packet) (i : ℕ) → (o ≡ None → ⊥) → slice_get (with_picked o ps) (suc i) ≡ slice_get ps i
some_of None ps i h = absurd (h refl)
some_of (Some p) ps i h = refl

first_of : (o : Option Packet) (ps : List Packet) → (o ≡ None → ⊥) → slice_get (with_picked o ps) 0 ≡ o
first_of None ps h = absurd (h refl)
first_of (Some p) ps h = refl

none_within : (xs : List Packet) (n : ℕ) → n < length xs → slice_get xs n ≡ None → ⊥
none_within [] n l f = absurd (omega arith)
none_within (x ∷ xs) zero l f = absurd (cc)
none_within (x ∷ xs) (suc n) l f = none_within xs n (omega arith) f

picked_at : (ps : List Packet) (is : List ℕ) (i j : ℕ) → ArePlaces (length ps) is → slice_get is i ≡ Some j → slice_get (picked ps is) i ≡ slice_get ps j
picked_at ps [] i j h e = absurd (cc)
picked_at ps (k ∷ is) zero j h e = first_of (slice_get ps k) (picked ps is) (λ f. none_within ps k h.0 f) ∙ ap (slice_get ps) (some_same k j e)
picked_at ps (k ∷ is) (suc i) j h e = some_of (slice_get ps k) (picked ps is) i (λ f. none_within ps k h.0 f) ∙ picked_at ps is i j h.1 e

picked_none : (ps : List Packet) (is : List ℕ) (i : ℕ) → ArePlaces (length ps) is → slice_get is i ≡ None → slice_get (picked ps is) i ≡ None
picked_none ps [] i h e = refl
picked_none ps (k ∷ is) zero h e = absurd (cc)
picked_none ps (k ∷ is) (suc i) h e = some_of (slice_get ps k) (picked ps is) i (λ f. none_within ps k h.0 f) ∙ picked_none ps is i h.1 e

pub found_at : (ps : List Packet) (is : List ℕ) (i j : ℕ) → ArePlaces (length ps) is → slice_get is i ≡ Some j → slice_get ps j ≡ slice_get (in_place ps is) i
found_at ps [] i j h e = absurd (cc)
found_at ps (k ∷ is) i j h e = sym (picked_at ps (k ∷ is) i j h e)

pub none_at : (ps : List Packet) (is : List ℕ) (i : ℕ) → ArePlaces (length ps) is → (length is == 0) ≡ false → slice_get is i ≡ None → ◌≡◌ {A = Option Packet} None (slice_get (in_place ps is) i)
none_at ps [] i h f e = absurd (cc)
none_at ps (k ∷ is) i h f e = sym (picked_none ps (k ∷ is) i h e)

abbrev out_of : List Packet → List Record → Outgoing
out_of ps rs = record { packets = ps; records = rs }

-- packets that are in order go as they stand
pub as_they_stand : (o : Outgoing) (ps given : List Packet) (rs : List Record) (is : List ℕ) → ps ≡ o.packets → rs ≡ o.records → is ≡ [] → given ≡ ps → given ≡ in_order given → ◌≡◌ {A = Outgoing} (record { packets = in_place ps is; records = rs }) (sorted_out o)
as_they_stand o ps given rs is p r e g s =
    ap (λ (xs : List ℕ). out_of (in_place ps xs) rs) e ∙ (ap (λ (xs : List Packet). out_of xs rs) (sym g ∙ (s ∙ ap in_order (g ∙ p))) ∙ ap (out_of (in_order o.packets)) r)

put_some : (p : Packet) (qs : List Packet) → put_before is_before p qs ≡ [] → ⊥
put_some p [] e = absurd (cc)
put_some p (q ∷ qs) e = elim (is_before p q) as (λ b. ◌≡◌ {A = List Packet} (elim b [ true ↦ p ∷ q ∷ qs | false ↦ q ∷ put_before is_before p qs ]) [] → ⊥) [
  | true ↦ λ f. absurd (cc)
  | false ↦ λ f. absurd (cc)
] e

onto_some : (ps done : List Packet) → (done ≡ [] → ⊥) → sorted_onto is_before done ps ≡ [] → ⊥
onto_some [] done h e = h e
onto_some (p ∷ ps) done h e = onto_some ps (put_before is_before p done) (put_some p done) e

placed : (ps : List Packet) (is : List ℕ) → picked ps is ≡ in_order ps → in_place ps is ≡ in_order ps
placed [] [] e = refl
placed [] (i ∷ is) e = e
placed (p ∷ ps) [] e = absurd (onto_some ps (put_before is_before p []) (put_some p []) (sym e))
placed (p ∷ ps) (i ∷ is) e = e

pub at_places : (o : Outgoing) (ps : List Packet) (rs : List Record) (is : List ℕ) → ps ≡ o.packets → rs ≡ o.records → picked ps is ≡ in_order ps → ◌≡◌ {A = Outgoing} (record { packets = in_place ps is; records = rs }) (sorted_out o)
at_places o ps rs is p r e = ap (λ (xs : List Packet). out_of xs rs) (placed ps is e ∙ ap in_order p) ∙ ap (out_of (in_order o.packets)) r

-- ---- nothing is sent ----

none_sent : (parts : List Outgoing) → flat_map packets_in (map unsent parts) ≡ []
none_sent [] = refl
none_sent (part ∷ parts) = none_sent parts

all_told : (parts : List Outgoing) → flat_map records_in (map unsent parts) ≡ flat_map records_in parts
all_told [] = refl
all_told (part ∷ parts) = ap (λ (rs : List Record). part.records ++ rs) (all_told parts)

pub together_unsent : (parts : List Outgoing) → together (map unsent parts) ≡ unsent (together parts)
together_unsent parts = (λ i. record { packets = none_sent parts i; records = all_told parts i })

-- one part more is unsent
pub unsent_more : (parts now : List Outgoing) (i : ℕ) (d : Outgoing) → i < length parts → now ≡ map unsent (take i parts) ++ drop i parts
    → set now i (unsent (get_or now i d)) ≡ map unsent (take (i + 1) parts) ++ drop (i + 1) parts
unsent_more parts now i d l e =
    let next : suc i ≡ i + 1 = omega arith in
    ap (λ (xs : List Outgoing). set xs i (unsent (get_or xs i d))) e ∙ (at parts i l ∙ ap (λ (k : ℕ). map unsent (take k parts) ++ drop k parts) next) where
      at : (xs : List Outgoing) (k : ℕ) → k < length xs → set (map unsent (take k xs) ++ drop k xs) k (unsent (get_or (map unsent (take k xs) ++ drop k xs) k d)) ≡ map unsent (take (suc k) xs) ++ drop (suc k) xs
      at [] k m = absurd (omega arith)
      at (x ∷ xs) zero m = refl
      at (x ∷ xs) (suc k) m = ap (λ (ys : List Outgoing). unsent x ∷ ys) (at xs k (omega arith))
