-- What the calls read and change, from what callers see.
use Rattle.std.proofs.Common.{◌≡◌, ◌≢◌, ℕ, zero, suc, ◌+◌, ◌-◌, ◌<◌, ◌≤◌, ◌==◌, List, [], ◌∷◌, ◌++◌, length, map, reverse, set, get_or, Option, Some, None, Result, Ok, Err, ◌⊎◌, ⊎_elim, Bool, true, false, nat_eq, nat_lt, refl, sym, ap, subst, ◌∙◌, arith}
use Rattle.std.specs.Option.{is_some, IfSome}
use Rattle.std.specs.Result.{IfOk, IfErr}
use Rattle.std.specs.List.{list_any, slice_range}
use Rattle.std.proofs.lemmas.Bool.Decides.{nat_tests}
use Rattle.std.proofs.lemmas.List.{get_or-set_other, length-set, reverse-append}
use Rattle.locus_ids.specs.Sizes.{sites_max}
use Rattle.trace_book.specs.declared.packet_kind.PacketKind.{PacketKind}
use Rattle.wire_messages.specs.declared.body.Body.{Body}
use Rattle.wire_messages.specs.declared.body.Body.TheVariants as body
use Rattle.wire_messages.specs.Bodies.{kind_number, kind_of}
use Rattle.wire_messages.specs.declared.packet.Packet.{Packet}
use Rattle.wire_reading.specs.declared.decoder.NotAPacket.{NotAPacket}
use Rattle.wire_reading.specs.declared.decoder.NotAPacket.TheVariants.{NoMemory}
use Rattle.packet_mail.specs.Kinds.{kind_numbered}
use Rattle.wire_messages.specs.Packets.{IsPacket}
use Rattle.packet_queue.specs.of_role_steps.Tables.{row, first_that}
use Rattle.circuits.specs.of_the_run.Worlds.{Numbered, number_of}
use Rattle.wire_fields.proofs.Members.{range}
use Rattle.circuits.specs.Circuits.{circuit_of, sender_on, receiver_on}
use Rattle.circuits.proofs.Cuts.{first_site, second_site}
use Rattle.packet_queue.specs.Queues.{Queues, numbers_of}
use Rattle.packet_queue.proofs.Threads.{split}
use Rattle.packet_mail.specs.Posts.{Post, passes, loses, can_come, next_number, sent_at, is_sent, is_underway, packet_in, sender_in, receiver_in}
use Rattle.packet_mail.specs.Letters.{packet_of_bytes, letter, numbered, post_of, IsLetter, InOrder, TellsLost}
use Rattle.packet_mail.proofs.Rows.{put, one_less, row_underway, row_sent, row_unsent, row_zero, first_same, packet_is}

pub set_past : (ws : List Bool) (k : ℕ) → length ws ≤ k → set ws k false ≡ ws
set_past [] k l = refl
set_past (w ∷ ws) zero l = absurd (omega arith)
set_past (w ∷ ws) (suc k) l = ap (λ y. w ∷ y) (set_past ws k (omega arith))

module _ (q : Queues) (ends log lost : List ℕ) (w : Post) (t : InOrder q ends log) (v : post_of q ends log lost ≡ w) where
  pub count : length q.circuits ≡ w.packets + 1
  count = let e : length q.circuits - 1 ≡ w.packets = ap (λ x. x.packets) v in omega (arith, t.some)

  pub sent_row : (k : ℕ) → 0 < k → k < length q.circuits → sent_at k w ≡ Some (numbered ends log k)
  sent_row zero s l = absurd (omega arith)
  sent_row (suc k) s l = ap (sent_at (suc k)) (sym v) ∙ row_sent ends log (length q.circuits - 1) k (omega arith)

  pub sent_yes : (k : ℕ) → 0 < k → k < length q.circuits → is_sent k w ≡ true
  sent_yes k s l = ap is_some (sent_row k s l)

  pub sent_no : (k : ℕ) → length q.circuits ≤ k → sent_at k w ≡ None
  sent_no k l = ap (sent_at k) (sym v) ∙ row_unsent ends log (length q.circuits - 1) k (let s = t.some in omega arith)

  pub sent_zero : sent_at 0 w ≡ None
  sent_zero = ap (sent_at 0) (sym v) ∙ row_zero ends log (length q.circuits - 1)

  pub is_in : (k : ℕ) → is_sent k w ≡ true → (0 < k) × (k < length q.circuits)
  is_in zero h = let f : is_sent 0 w ≡ false = ap is_some sent_zero in absurd (cc)
  is_in (suc k) h = elim (nat_lt (suc k) (length q.circuits)) as (λ b. nat_lt (suc k) (length q.circuits) ≡ b → (0 < suc k) × (suc k < length q.circuits)) [
    | true ↦ λ e. (omega arith, grind (arith, nat_tests))
    | false ↦ λ e. (let f : is_sent (suc k) w ≡ false = ap is_some (sent_no (suc k) (grind (arith, nat_tests))) in absurd (cc))
  ] refl

  -- the test of a number
  pub sent_test : (k n : ℕ) → n ≡ length q.circuits → k ≢ 0 → nat_lt k n ≡ is_sent k w
  sent_test k n e s = elim (nat_lt k n) as (λ b. nat_lt k n ≡ b → b ≡ is_sent k w) [
    | true ↦ λ f. (let l : k < n = grind (arith, nat_tests) in sym (sent_yes k (omega arith) (omega arith)))
    | false ↦ λ f. (let l : n ≤ k = grind (arith, nat_tests) in sym (ap is_some (sent_no k (omega arith))))
  ] refl

  pub underway_is : (k : ℕ) → is_underway k w ≡ get_or q.underway k false
  underway_is k = ap (is_underway k) (sym v) ∙ (ap (λ y. is_some (row_of y)) (let z : k ≡ 0 + k = omega arith in z) ∙ row_underway ends log 0 k q.underway) where
    row_of : ℕ → Option Numbered
    row_of y = row number_of y (map (numbered ends log) (numbers_of 0 q.underway))

  pub packet_at : (k : ℕ) → suc k < length q.circuits → (l : IsLetter (get_or q.circuits (suc k) 0) (letter ends log (suc k))) → packet_of_bytes (letter ends log (suc k)) ≡ l.packet
  packet_at k h l = packet_is (letter ends log (suc k)) l.packet l.is_packet

  pub on_circuit : (k : ℕ) → 0 < k → k < length q.circuits → get_or q.circuits k 0 ≡ circuit_of (numbered ends log k).packet.from (numbered ends log k).packet.to
  on_circuit zero s h = absurd (omega arith)
  on_circuit (suc k) s h = let l = t.letters k h in l.on ∙ ap (λ (p : Packet). circuit_of p.from p.to) (sym (packet_at k h l))

  pub next_is : (up : List Bool) → first_that (λ k. get_or up (get_or q.circuits k 0) false) (numbers_of 0 q.underway) ≡ next_number up w
  next_is up = first_same ends log (can_come up) (λ k. get_or up (get_or q.circuits k 0) false) 0 q.underway at ∙ ap (next_number up) v where
    at : (k : ℕ) → k < length q.underway → get_or q.underway k false ≡ true → get_or up (get_or q.circuits (0 + k) 0) false ≡ can_come up (numbered ends log (0 + k))
    at zero l e = let f : get_or q.underway 0 false ≡ false = t.none in absurd (cc)
    at (suc k) l e = let z : 0 + suc k ≡ suc k = omega arith in let b : length q.underway ≡ length q.circuits = t.both in rw z (ap (λ y. get_or up y false) (on_circuit (suc k) (omega arith) (omega arith)))

  pub pass_is : (q' : Queues) (k : ℕ) → q'.circuits ≡ q.circuits → q'.underway ≡ set q.underway k false → post_of q' ends log lost ≡ passes k w
  pass_is q' k ec ew = let z : 0 + k ≡ k = omega arith in rw (ec, ew, one_less ends log 0 k q.underway, z) refl ∙ ap (passes k) v

  pub pass_none : (k : ℕ) → length q.circuits ≤ k → w ≡ passes k w
  pass_none k l = sym v ∙ pass_is q k refl (sym (set_past q.underway k (let b : length q.underway ≡ length q.circuits = t.both in omega arith)))

  pub pass_keeps : (q' : Queues) (k : ℕ) → q'.circuits ≡ q.circuits → q'.underway ≡ set q.underway k false → InOrder q' ends log
  pass_keeps q' k ec ew = record {
    some = rw ec t.some;
    count = rw ec t.count;
    both = ap length ew ∙ (length-set q.underway k false ∙ (t.both ∙ sym (ap length ec)));
    none = ap (λ ws. get_or ws 0 false) ew ∙ split 0 k (λ e. put q.underway k 0 false false (let s = t.some in let b : length q.underway ≡ length q.circuits = t.both in omega arith) e) (λ e. get_or-set_other q.underway k 0 false false e ∙ t.none);
    room = t.room;
    size = t.size;
    end = rw ec t.end;
    within = rw ec t.within;
    rising = rw ec t.rising;
    letters = rw ec t.letters;
  }

  pub lose_is : (q' : Queues) (lost' : List ℕ) (k : ℕ) → q'.circuits ≡ q.circuits → q'.underway ≡ set q.underway k false → lost' ≡ lost ++ k ∷ [] → post_of q' ends log lost' ≡ loses k w
  lose_is q' lost' k ec ew el = let z : 0 + k ≡ k = omega arith in rw (ec, ew, one_less ends log 0 k q.underway, z, el, reverse-append lost (k ∷ [])) refl ∙ ap (loses k) v

  -- where a packet's bytes lie
  pub part_order : (k : ℕ) → 0 < k → k < length q.circuits → (get_or ends (k - 1) 0 ≤ get_or ends k 0) × (get_or ends k 0 ≤ length log)
  part_order zero s l = absurd (omega arith)
  part_order (suc k) s l = let z : suc k - 1 ≡ k = omega arith in rw z (t.rising k l, t.within (suc k) l)

  pub letter_is : (k : ℕ) (bytes : List ℕ) → 0 < k → k < length q.circuits → bytes ≡ slice_range log (get_or ends (k - 1) 0) (get_or ends k 0) → IfSome (sent_at k w) (λ x. IsPacket bytes x.packet)
  letter_is zero bytes s l e = absurd (omega arith)
  letter_is (suc k) bytes s l e =
      let z : suc k - 1 ≡ k = omega arith in
      let i = t.letters k l in
      let f : bytes ≡ letter ends log (suc k) = e ∙ rw z refl in
      rw (sent_row (suc k) s l) (subst (λ p. IsPacket bytes p) (sym (packet_at k l i)) (f ∙ i.is_packet.0, i.is_packet.1))

pub lost_tells : (marks : List Bool) (lost lost' : List ℕ) (k : ℕ) → k < 262145 → TellsLost marks (reverse lost) → lost' ≡ lost ++ k ∷ [] → TellsLost (set marks k true) (reverse lost')
lost_tells marks lost lost' k l t e = record {
  room = length-set marks k true ∙ t.room;
  each = each;
} where
  now : reverse lost' ≡ k ∷ reverse lost
  now = ap reverse e ∙ reverse-append lost (k ∷ [])

  each : (j : ℕ) → j < 262145 → get_or (set marks k true) j false ≡ list_any (λ i. i == j) (reverse lost')
  each j h = split j k
      (λ s. put marks k j true false (let r : length marks ≡ 262145 = t.room in omega arith) s ∙ rw now (let f : nat_eq k j ≡ true = grind (arith, nat_tests) in rw f refl))
      (λ s. get_or-set_other marks k j true false s ∙ (t.each j h ∙ rw now (let f : nat_eq k j ≡ false = grind (arith, nat_tests) in rw f refl)))

-- bytes are of one packet
pub packet_found : (bytes : List ℕ) (p : Packet) (o : Option Numbered) → is_some o ≡ true → IfSome o (λ x. IsPacket bytes x.packet) → IsPacket bytes p → Some p ≡ packet_in o
packet_found bytes p None s h is = absurd (cc)
packet_found bytes p (Some x) s h is = ap (λ y. Some y) (sym (packet_is bytes p is) ∙ packet_is bytes x.packet h)

-- what is decoded of the bytes of a packet that was sent
pub packet_told : (bytes : List ℕ) (r : Result Packet NotAPacket) (o : Option Numbered) → is_some o ≡ true → IfSome o (λ x. IsPacket bytes x.packet) → IfOk r (IsPacket bytes) → IfOk r (λ p. Some p ≡ packet_in o)
packet_told bytes (Ok p) o s h is = packet_found bytes p o s h is
packet_told bytes (Err e) o s h is = tt

pub only_memory : (bytes : List ℕ) (r : Result Packet NotAPacket) (o : Option Numbered) → is_some o ≡ true → IfSome o (λ x. IsPacket bytes x.packet) → ((p : Packet) → IsPacket bytes p → (r ≡ Ok p) ⊎ (r ≡ Err NoMemory)) → IfErr r (λ fault. fault ≡ NoMemory)
only_memory bytes (Ok p) o s h only = tt
only_memory bytes (Err e) None s h only = absurd (cc)
only_memory bytes (Err e) (Some x) s h only = ⊎_elim (λ f. absurd (cc)) (λ f. cc) (only x.packet h)

-- the circuit tells who sent the packet, and to whom
pub ends_are : (q : Queues) (ends log lost : List ℕ) (w : Post) (t : InOrder q ends log) (v : post_of q ends log lost ≡ w) (k : ℕ) → 0 < k → k < length q.circuits → (Some (sender_on (get_or q.circuits k 0)) ≡ sender_in (sent_at k w)) × (Some (receiver_on (get_or q.circuits k 0)) ≡ receiver_in (sent_at k w))
ends_are q ends log lost w t v zero s h = absurd (omega arith)
ends_are q ends log lost w t v (suc k) s h =
    let l = t.letters k h in
    let e : packet_of_bytes (letter ends log (suc k)) ≡ l.packet = packet_is (letter ends log (suc k)) l.packet l.is_packet in
    let a = range 1 sites_max l.packet.from l.is_packet.1.from.0 in
    let b = range 1 sites_max l.packet.to l.is_packet.1.to.0 in
    let r = sent_row q ends log lost w t v (suc k) s h in (
      ap (λ y. Some (sender_on y)) l.on ∙ (ap (λ y. Some y) (first_site l.packet.from l.packet.to a.0 b.0 b.1 ∙ ap (λ (p : Packet). p.from) (sym e)) ∙ sym (ap sender_in r)),
      ap (λ y. Some (receiver_on y)) l.on ∙ (ap (λ y. Some y) (second_site l.packet.from l.packet.to b.0 b.1 ∙ ap (λ (p : Packet). p.to) (sym e)) ∙ sym (ap receiver_in r)),
    )

pub past_end : (ws : List Bool) (k : ℕ) → length ws ≤ k → get_or ws k false ≡ false
past_end [] k l = refl
past_end (w ∷ ws) zero l = absurd (omega arith)
past_end (w ∷ ws) (suc k) l = past_end ws k (omega arith)

kind_back : (b : Body) → kind_numbered (kind_number b) ≡ kind_of b
kind_back body.Poll = refl
kind_back b = refl

-- the kind stands in the second byte
pub kind_is : (bytes : List ℕ) (k : PacketKind) (o : Option Numbered) → IfSome o (λ x. IsPacket bytes x.packet) → k ≡ kind_numbered (get_or bytes 1 0) → IfSome o (λ x. k ≡ kind_of x.packet.body)
kind_is bytes k None h e = tt
kind_is bytes k (Some x) h e = e ∙ (ap (λ y. kind_numbered (get_or y 1 0)) h.0 ∙ kind_back x.packet.body)
