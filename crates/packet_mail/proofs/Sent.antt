-- What one packet more changes, and what the other calls read.
use Rattle.std.proofs.Common.{◌≡◌, ℕ, zero, suc, ◌+◌, ◌-◌, ◌<◌, ◌≤◌, List, [], ◌∷◌, ◌++◌, length, map, set, get_or, Bool, true, false, refl, sym, ap, ◌∙◌, arith}
use Rattle.std.proofs.lemmas.List.{get_or-set_other, length-set, length-append, get_or_append_left, map-append}
use Rattle.std.proofs.Math.Seq.{get_or-append_seam}
use Rattle.field_codec.specs.Codec.{u32}
use Rattle.wire_messages.specs.declared.packet.Packet.{Packet}
use Rattle.wire_messages.specs.Bodies.{body_bytes}
use Rattle.wire_messages.specs.Packets.{headers, header_of, packet_bytes, IsPacket}
use Rattle.circuits.specs.of_the_run.Worlds.{Numbered, packet_size}
use Rattle.circuits.specs.Circuits.{circuit_of}
use Rattle.packet_queue.specs.Queues.{Queues, numbers_of}
use Rattle.packet_queue.proofs.Threads.{split}
use Rattle.packet_mail.specs.Posts.{Post, posts}
use Rattle.packet_mail.specs.Letters.{packet_of_bytes, letter, numbered, sent_to, post_of, IsLetter, InOrder}
use Rattle.packet_mail.proofs.Rows.{put, one_more, packet_is, letter_stays, letter_new}

-- ---- what the letters are, after one more ----

letter_of : (c c' : ℕ) (b b' : List ℕ) → c' ≡ c → b' ≡ b → IsLetter c b → IsLetter c' b'
letter_of c c' b b' e f l = record { packet = l.packet; is_packet = (f ∙ l.is_packet.0, l.is_packet.1); on = e ∙ l.on }

pub put_keeps : (q q' : Queues) (ends log log' more : List ℕ) (c number len : ℕ) (p : Packet) → InOrder q ends log → length q.circuits < 262145 → length log' ≤ 134217728 → q'.circuits ≡ q.circuits ++ c ∷ [] → q'.underway ≡ q.underway ++ true ∷ [] → log' ≡ log ++ more → number ≡ length q.circuits → len ≡ length log' → IsPacket more p → c ≡ circuit_of p.from p.to → InOrder q' (set ends number len) log'
put_keeps q q' ends log log' more c number len p t small short ec ew el en eb is on =
    let longer : length q'.circuits ≡ length q.circuits + 1 = ap length ec ∙ length-append q.circuits (c ∷ []) in
    let longer_too : length q'.underway ≡ length q.underway + 1 = ap length ew ∙ length-append q.underway (true ∷ []) in
    let log_longer : length log' ≡ length log + length more = ap length el ∙ length-append log more in
    let both : length q.underway ≡ length q.circuits = t.both in
    let some : 0 < length q.circuits = t.some in
    let room : length ends ≡ 262145 = t.room in
    record {
      some = omega arith;
      count = omega arith;
      both = omega arith;
      none = ap (λ ws. get_or ws 0 false) ew ∙ (get_or_append_left q.underway (true ∷ []) false 0 (omega arith) ∙ t.none);
      room = length-set ends number len ∙ t.room;
      size = short;
      end = put ends number (length q'.circuits - 1) len 0 (omega arith) (omega arith) ∙ eb;
      within = λ k l. split k number
          (λ e. let r : get_or (set ends number len) k 0 ≡ len = put ends number k len 0 (omega arith) e in omega arith)
          (λ e. let r : get_or (set ends number len) k 0 ≡ get_or ends k 0 = get_or-set_other ends number k len 0 e in let w = t.within k (omega arith) in omega arith);
      rising = λ k l.
          let s : get_or (set ends number len) k 0 ≡ get_or ends k 0 = get_or-set_other ends number k len 0 (λ e. absurd (omega arith)) in
          split (suc k) number
          (λ e. let r : get_or (set ends number len) (suc k) 0 ≡ len = put ends number (suc k) len 0 (omega arith) e in let w = t.within k (omega arith) in omega arith)
          (λ e. let r : get_or (set ends number len) (suc k) 0 ≡ get_or ends (suc k) 0 = get_or-set_other ends number (suc k) len 0 e in let w = t.rising k (omega arith) in omega arith);
      letters = λ k l. split (suc k) number
          (λ e. letter_of c (get_or q'.circuits (suc k) 0) more (letter (set ends number len) log' (suc k)) (newest k e) (new_letter k e) (record { packet = p; is_packet = is; on = on }))
          (λ e. letter_of (get_or q.circuits (suc k) 0) (get_or q'.circuits (suc k) 0) (letter ends log (suc k)) (letter (set ends number len) log' (suc k))
          (ap (λ cs. get_or cs (suc k) 0) ec ∙ get_or_append_left q.circuits (c ∷ []) 0 (suc k) (omega arith))
          (ap (λ y. letter (set ends number len) y (suc k)) el ∙ letter_stays ends log more number len k (omega arith) (t.rising k (omega arith)) (t.within (suc k) (omega arith)))
          (t.letters k (omega arith)));
    }
  where
    newest : (k : ℕ) → suc k ≡ number → get_or q'.circuits (suc k) 0 ≡ c
    newest k e = ap (λ cs. get_or cs (suc k) 0) ec ∙ (ap (λ y. get_or (q.circuits ++ c ∷ []) y 0) (e ∙ en) ∙ get_or-append_seam q.circuits c [] 0)

    new_letter : (k : ℕ) → suc k ≡ number → letter (set ends number len) log' (suc k) ≡ more
    new_letter k e =
        let last : get_or ends k 0 ≡ length log = ap (λ y. get_or ends y 0) (let s : 0 < length q.circuits = t.some in omega arith) ∙ t.end in
        let r : length ends ≡ 262145 = t.room in
        ap (λ y. letter (set ends y len) log' (suc k)) (sym e) ∙ (ap (λ y. letter (set ends (suc k) y) log' (suc k)) (eb ∙ ap length el) ∙ (ap (λ y. letter (set ends (suc k) (length (log ++ more))) y (suc k)) el ∙ letter_new ends log more k (omega arith) last))

-- ---- what callers see ----

pub post_same : {s s' u u' : List Numbered} {l l' : List ℕ} {p p' b b' : ℕ} → s ≡ s' → u ≡ u' → l ≡ l' → p ≡ p' → b ≡ b' → (let x : Post = record { sent = s; underway = u; lost = l; packets = p; bytes = b } in x) ≡ record { sent = s'; underway = u'; lost = l'; packets = p'; bytes = b' }
post_same a b c d e = cc

map_same : (f g : ℕ → Numbered) (n : ℕ) (ws : List Bool) → ((k : ℕ) → k < length ws → get_or ws k false ≡ true → f (n + k) ≡ g (n + k)) → map f (numbers_of n ws) ≡ map g (numbers_of n ws)
map_same f g n [] h = refl
map_same f g n (true ∷ ws) h =
    let z : n + 0 ≡ n = omega arith in
    let e : f n ≡ g n = sym (ap f z) ∙ (h 0 (omega arith) refl ∙ ap g z) in
    rw (e, map_same f g (n + 1) ws (λ k l w. let y : (n + 1) + k ≡ n + suc k = omega arith in ap f y ∙ (h (suc k) (omega arith) w ∙ sym (ap g y)))) refl
map_same f g n (false ∷ ws) h = map_same f g (n + 1) ws (λ k l w. let y : (n + 1) + k ≡ n + suc k = omega arith in ap f y ∙ (h (suc k) (omega arith) w ∙ sym (ap g y)))

numbered_same : (ends ends' log log' : List ℕ) (k : ℕ) → letter ends' log' k ≡ letter ends log k → numbered ends' log' k ≡ numbered ends log k
numbered_same ends ends' log log' k e = ap (λ y. record { number = k; packet = packet_of_bytes y }) e

sent_same : (ends ends' log log' : List ℕ) (n : ℕ) → ((k : ℕ) → k < n → letter ends' log' (suc k) ≡ letter ends log (suc k)) → sent_to ends' log' n ≡ sent_to ends log n
sent_same ends ends' log log' zero h = refl
sent_same ends ends' log log' (suc n) h = rw (numbered_same ends ends' log log' (suc n) (h n (omega arith)), sent_same ends ends' log log' n (λ k l. h k (omega arith))) refl

pub size_is : (more : List ℕ) (p : Packet) → more ≡ packet_bytes p → length more ≡ packet_size p
size_is more p e = ap length e ∙ (length-append (headers.spell (header_of p)) (u32.spell (length (body_bytes p.body)) ++ body_bytes p.body) ∙ omega (arith, length-append (u32.spell (length (body_bytes p.body))) (body_bytes p.body)))

module _ (q : Queues) (ends log more lost : List ℕ) (c : ℕ) (p : Packet) (t : InOrder q ends log) (small : length q.circuits < 262145) (is : IsPacket more p) where
  abbrev ends' : List ℕ
  ends' = set ends (length q.circuits) (length (log ++ more))

  stays : (k : ℕ) → suc k < length q.circuits → letter ends' (log ++ more) (suc k) ≡ letter ends log (suc k)
  stays k l = letter_stays ends log more (length q.circuits) (length (log ++ more)) k l (t.rising k l) (t.within (suc k) l)

  newest : (m : ℕ) → suc m ≡ length q.circuits → letter ends' (log ++ more) (suc m) ≡ more
  newest m e =
      let last : get_or ends m 0 ≡ length log = ap (λ y. get_or ends y 0) (let s : 0 < length q.circuits = t.some in omega arith) ∙ t.end in
      let r : length ends ≡ 262145 = t.room in
      ap (λ y. letter (set ends y (length (log ++ more))) (log ++ more) (suc m)) (sym e) ∙ letter_new ends log more m (omega arith) last

  numbered_new : (m n : ℕ) → suc m ≡ length q.circuits → n ≡ suc m → numbered ends' (log ++ more) (suc m) ≡ record { number = n; packet = p }
  numbered_new m n e f = let x : packet_of_bytes (letter ends' (log ++ more) (suc m)) ≡ p = ap packet_of_bytes (newest m e) ∙ packet_is more p is in cc

  underway_stays : (k : ℕ) → k < length q.underway → get_or q.underway k false ≡ true → numbered ends' (log ++ more) (0 + k) ≡ numbered ends log (0 + k)
  underway_stays zero l e = let f : get_or q.underway 0 false ≡ false = t.none in cc
  underway_stays (suc k) l e =
      let z : 0 + suc k ≡ suc k = omega arith in
      let b : length q.underway ≡ length q.circuits = t.both in
      rw z (numbered_same ends ends' log (log ++ more) (suc k) (stays k (omega arith)))

  pub put_is : post_of (record { circuits = q.circuits ++ c ∷ []; underway = q.underway ++ true ∷ [] }) ends' (log ++ more) lost ≡ posts (p ∷ []) (post_of q ends log lost)
  put_is = at (length q.circuits - 1) (omega (arith, t.some)) where
    at : (m : ℕ) → suc m ≡ length q.circuits → post_of (record { circuits = q.circuits ++ c ∷ []; underway = q.underway ++ true ∷ [] }) ends' (log ++ more) lost ≡ posts (p ∷ []) (post_of q ends log lost)
    at m e =
        let x : length (q.circuits ++ c ∷ []) - 1 ≡ suc m = omega (arith, length-append q.circuits (c ∷ [])) in
        let y : length q.circuits - 1 ≡ m = omega arith in
        let n : (length q.circuits - 1) + 1 ≡ suc m = omega arith in
        let b : length q.underway ≡ length q.circuits = t.both in
        let new = numbered_new m ((length q.circuits - 1) + 1) e n in
        post_same
        (ap (sent_to ends' (log ++ more)) x ∙ (rw (new, sent_same ends ends' log (log ++ more) m (λ k l. stays k (omega arith))) (ap (λ z. record { number = (length q.circuits - 1) + 1; packet = p } ∷ sent_to ends log z) (sym y))))
        (ap (map (numbered ends' (log ++ more))) (one_more 0 q.underway) ∙ (map-append (numbered ends' (log ++ more)) (numbers_of 0 q.underway) ((0 + length q.underway) ∷ []) ∙ rw (map_same (numbered ends' (log ++ more)) (numbered ends log) 0 q.underway underway_stays, (let z : 0 + length q.underway ≡ suc m = omega arith in z), new) refl))
        refl
        (omega (arith, length-append q.circuits (c ∷ [])))
        (let s = size_is more p is.0 in omega (arith, length-append log more))

pub put_gives : (q q' : Queues) (ends log log' more lost : List ℕ) (c number len : ℕ) (p : Packet) (w : Post) → InOrder q ends log → length q.circuits < 262145 → IsPacket more p → q'.circuits ≡ q.circuits ++ c ∷ [] → q'.underway ≡ q.underway ++ true ∷ [] → log' ≡ log ++ more → number ≡ length q.circuits → len ≡ length log' → post_of q ends log lost ≡ w → post_of q' (set ends number len) log' lost ≡ posts (p ∷ []) w
put_gives q q' ends log log' more lost c number len p w t small is ec ew el en eb v =
    rw (ec, ew, eb, en, el) (put_is q ends log more lost c p t small is) ∙ ap (posts (p ∷ [])) v
