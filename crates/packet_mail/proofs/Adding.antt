-- Letters come behind a log, one after the other.
use Rattle.std.proofs.Common.{◌≡◌, ℕ, zero, suc, ◌+◌, ◌-◌, ◌<◌, ◌≤◌, List, [], ◌∷◌, ◌++◌, length, map, set, drop, Some, None, Bool, true, false, Result, Ok, Err, cond, nat_lt, refl, sym, ap, subst, ◌∙◌, append_assoc, arith}
use Rattle.std.specs.Prelude.{slice_get, IsErrAnd}
use Rattle.std.specs.List.{AllByRecursion, concat}
use Rattle.std.proofs.lemmas.List.{append-nil, length-append, length-map}
use Rattle.wire_messages.specs.declared.packet.Packet.{Packet}
use Rattle.circuits.specs.of_the_run.Worlds.{Packets, Bytes, Trace, numbered_from, newest_onto, packet_size, limit_passed}
use Rattle.circuits.specs.Circuits.{circuit_of}
use Rattle.packet_queue.specs.of_role_steps.Tables.{total}
use Rattle.packet_queue.proofs.of_plain_facts.Numbers.{less_test, not_less_test}
use Rattle.packet_queue.specs.Queues.{Queues}
use Rattle.packet_mail.specs.declared.fault.MailFault.{MailFault}
use Rattle.packet_mail.specs.Posts.{Post, posts, limit_of_packets}
use Rattle.packet_mail.specs.Letters.{packet_of_bytes, post_of, InOrder, IsSpelled, Added, AddsTo}
use Rattle.packet_mail.proofs.Sent.{put_keeps, put_gives, post_same, size_is}
use Rattle.packet_mail.proofs.Spans.{joined_size}

left_at : {A : Type 0} (xs : List A) (i : ℕ) (x : A) → Some x ≡ slice_get xs i → drop i xs ≡ x ∷ drop (suc i) xs
left_at [] i x e = absurd (cc)
left_at (y ∷ ys) zero x e = let f : x ≡ y = cc in ap (λ z. z ∷ ys) (sym f)
left_at (y ∷ ys) (suc i) x e = left_at ys i x e

-- the element at a place is the first of what is left from there
pub left_from : {A : Type 0} (xs : List A) (i : ℕ) (x : A) → Some x ≡ slice_get xs i → drop i xs ≡ x ∷ drop (i + 1) xs
left_from xs i x e = let f : suc i ≡ i + 1 = omega arith in left_at xs i x e ∙ ap (λ k. x ∷ drop k xs) f

-- the first packet, and then the others
pub posts_one : (p : Packet) (ps : List Packet) (m : Post) → posts (p ∷ ps) m ≡ posts ps (posts (p ∷ []) m)
posts_one p ps m = post_same
    refl
    (sym (append_assoc m.underway (record { number = m.packets + 1; packet = p } ∷ []) (numbered_from (m.packets + 1 + 1) ps)))
    refl
    (omega arith)
    (omega arith)

pub posts_none : (m : Post) → posts [] m ≡ m
posts_none m = post_same refl (append-nil m.underway) refl (omega arith) (omega arith)

-- what is added of letters so far: some of them, behind which the others come
pub record SoFar (before : ℕ) (letters : List (List ℕ)) (i : ℕ) (q : Queues) (ends : List ℕ) (q' : Queues) (ends' : List ℕ) (end : ℕ) (log : List ℕ) : Type 0 where
  pub now : List ℕ
  pub size : length now ≡ end
  pub rest : now ++ concat (drop i letters) ≡ log ++ concat letters
  pub order : InOrder q' ends' now
  pub post : (lost : List ℕ) → posts (map packet_of_bytes (drop i letters)) (post_of q' ends' now lost) ≡ posts (map packet_of_bytes letters) (post_of q ends log lost)

abbrev pub AddsSoFar : ℕ → List (List ℕ) → ℕ → Queues → List ℕ → Queues → List ℕ → ℕ → Type 0
AddsSoFar before letters i q ends q' ends' end = (log : List ℕ) → length log ≡ before → InOrder q ends log → SoFar before letters i q ends q' ends' end log

pub adds_none : (before : ℕ) (letters : List (List ℕ)) (q : Queues) (ends : List ℕ) → AddsSoFar before letters 0 q ends q ends before
adds_none before letters q ends = λ log e t. record { now = log; size = e; rest = refl; order = t; post = λ lost. refl }

pub adds_all : (before : ℕ) (letters : List (List ℕ)) (i : ℕ) (q : Queues) (ends : List ℕ) (q' : Queues) (ends' : List ℕ) (end : ℕ) → drop i letters ≡ [] → AddsSoFar before letters i q ends q' ends' end → AddsTo before letters q ends q' ends'
adds_all before letters i q ends q' ends' end none so = λ log e t.
    let s = so log e t in
    let whole : s.now ≡ log ++ concat letters = sym (append-nil s.now) ∙ (ap (λ (ls : List (List ℕ)). s.now ++ concat ls) (sym none) ∙ s.rest) in
    record {
      order = subst (λ (bytes : List ℕ). InOrder q' ends' bytes) whole s.order;
      post = λ lost. ap (λ (bytes : List ℕ). post_of q' ends' bytes lost) (sym whole) ∙ (sym (posts_none (post_of q' ends' s.now lost)) ∙ (ap (λ (ls : List (List ℕ)). posts (map packet_of_bytes ls) (post_of q' ends' s.now lost)) (sym none) ∙ s.post lost));
    }

-- one letter more
module _ (before : ℕ) (letters : List (List ℕ)) (i : ℕ) (q : Queues) (ends : List ℕ) (q1 q2 : Queues) (ends1 : List ℕ) (end : ℕ) (letter : List ℕ) (c number to : ℕ)
    (at : Some letter ≡ slice_get letters i) (room : length q1.circuits < 262145) (short : to ≤ 134217728)
    (circuits : q2.circuits ≡ q1.circuits ++ c ∷ []) (underway : q2.underway ≡ q1.underway ++ true ∷ []) (next : number ≡ length q1.circuits) (longer : to ≡ end + length letter) (spelled : IsSpelled letter)
    (on : c ≡ circuit_of (packet_of_bytes letter).from (packet_of_bytes letter).to) where
  pub adds_more : AddsSoFar before letters i q ends q1 ends1 end → AddsSoFar before letters (i + 1) q ends q2 (set ends1 number to) to
  adds_more so = λ log e t.
      let s = so log e t in
      let p = packet_of_bytes letter in
      let left = left_from letters i letter at in
      let size : length (s.now ++ letter) ≡ to = length-append s.now letter ∙ (ap (λ n. n + length letter) s.size ∙ sym longer) in
      record {
        now = s.now ++ letter;
        size = size;
        rest = append_assoc s.now letter (concat (drop (i + 1) letters)) ∙ (ap (λ (ls : List (List ℕ)). s.now ++ concat ls) (sym left) ∙ s.rest);
        order = put_keeps q1 q2 ends1 s.now (s.now ++ letter) letter c number to p s.order room (omega (arith, size)) circuits underway refl next (sym size) spelled on;
        post = λ lost.
            ap (posts (map packet_of_bytes (drop (i + 1) letters))) (put_gives q1 q2 ends1 s.now (s.now ++ letter) letter lost c number to p (post_of q1 ends1 s.now lost) s.order room spelled circuits underway refl next (sym size) refl)
            ∙ (sym (posts_one p (map packet_of_bytes (drop (i + 1) letters)) (post_of q1 ends1 s.now lost))
            ∙ (ap (λ (ls : List (List ℕ)). posts (map packet_of_bytes ls) (post_of q1 ends1 s.now lost)) (sym left) ∙ s.post lost));
      }

-- the end of one letter more
pub end_after : (letters : List (List ℕ)) (i before end : ℕ) (letter : List ℕ) → Some letter ≡ slice_get letters i → before + total (λ (x : List ℕ). length x) letters ≤ 134217728 → end + total (λ (x : List ℕ). length x) (drop i letters) ≡ before + total (λ (x : List ℕ). length x) letters
    → (end + length letter ≤ 134217728) × ((end + length letter) + total (λ (x : List ℕ). length x) (drop (i + 1) letters) ≡ before + total (λ (x : List ℕ). length x) letters)
end_after letters i before end letter at short so =
    let left : total (λ (x : List ℕ). length x) (drop i letters) ≡ length letter + total (λ (x : List ℕ). length x) (drop (i + 1) letters) = ap (λ (ls : List (List ℕ)). total (λ (x : List ℕ). length x) ls) (left_from letters i letter at) in
    (omega arith, omega arith)

-- a log with a row of letters behind it
module _ (log log' row : List ℕ) (letters : List (List ℕ)) (before : ℕ) (b : before ≡ length log) (e : log' ≡ log ++ row) (r : row ≡ concat letters) where
  pub row_within : length log' ≤ 134217728 → before + total (λ (x : List ℕ). length x) letters ≤ 134217728
  row_within s =
      let l : length log' ≡ length log + length row = ap (λ (bytes : List ℕ). length bytes) e ∙ length-append log row in
      let m : length row ≡ total (λ (x : List ℕ). length x) letters = ap (λ (bytes : List ℕ). length bytes) r ∙ joined_size letters in
      omega arith

  whole : log' ≡ log ++ concat letters
  whole = e ∙ ap (λ (bytes : List ℕ). log ++ bytes) r

  pub all_in_order : (q : Queues) (ends : List ℕ) (q' : Queues) (ends' : List ℕ) → AddsTo before letters q ends q' ends' → InOrder q ends log → InOrder q' ends' log'
  all_in_order q ends q' ends' adds t = subst (λ (bytes : List ℕ). InOrder q' ends' bytes) (sym whole) (adds log (sym b) t).order

  pub all_posted : (q : Queues) (ends : List ℕ) (q' : Queues) (ends' lost : List ℕ) (w : Post) → AddsTo before letters q ends q' ends' → InOrder q ends log → post_of q ends log lost ≡ w → post_of q' ends' log' lost ≡ posts (map packet_of_bytes letters) w
  all_posted q ends q' ends' lost w adds t v =
      ap (λ (bytes : List ℕ). post_of q' ends' bytes lost) whole ∙ ((adds log (sym b) t).post lost ∙ ap (posts (map packet_of_bytes letters)) v)

-- a letter at a place is spelled, and so are those behind it
pub spelled_from : (letters : List (List ℕ)) (i : ℕ) (letter : List ℕ) → Some letter ≡ slice_get letters i → AllByRecursion IsSpelled (drop i letters) → IsSpelled letter × AllByRecursion IsSpelled (drop (i + 1) letters)
spelled_from letters i letter at all = subst (λ (ls : List (List ℕ)). AllByRecursion IsSpelled ls) (left_from letters i letter at) all

-- ---- limits ----

-- packets have together as many bytes as their letters
sizes_are : (letters : List (List ℕ)) → AllByRecursion IsSpelled letters → total packet_size (map packet_of_bytes letters) ≡ total (λ (x : List ℕ). length x) letters
sizes_are [] h = refl
sizes_are (l ∷ ls) h = let e = size_is l (packet_of_bytes l) h.0.0 in let f = sizes_are ls h.1 in omega (arith, e, f)

within_limits : (p b : ℕ) → p ≤ 262144 → b ≤ 134217728 → limit_passed p b 0 ≡ None
within_limits p b few short =
    ap (λ t. cond t (Some Packets) (cond (nat_lt 134217728 b) (Some Bytes) (cond (nat_lt 134217728 0) (Some Trace) None))) (not_less_test 262144 p few)
    ∙ ap (λ t. cond t (Some Bytes) (cond (nat_lt 134217728 0) (Some Trace) None)) (not_less_test 134217728 b short)

one_of_two : (t : Bool) → cond t (Some Packets) (Some Bytes) ≡ None → ⊥
one_of_two true e = absurd (cc)
one_of_two false e = absurd (cc)

past_packets : (p b : ℕ) → 262144 < p → limit_passed p b 0 ≡ None → ⊥
past_packets p b many e =
    let f : Some Packets ≡ None = ap (λ t. cond t (Some Packets) (cond (nat_lt 134217728 b) (Some Bytes) (cond (nat_lt 134217728 0) (Some Trace) None))) (sym (less_test 262144 p many)) ∙ e in
    absurd (cc)

past_bytes : (p b : ℕ) → 134217728 < b → limit_passed p b 0 ≡ None → ⊥
past_bytes p b long e =
    one_of_two (nat_lt 262144 p) (ap (λ t. cond (nat_lt 262144 p) (Some Packets) (cond t (Some Bytes) (cond (nat_lt 134217728 0) (Some Trace) None))) (sym (less_test 134217728 b long)) ∙ e)

module _ (q : Queues) (ends log lost : List ℕ) (letters : List (List ℕ)) (w : Post) (t : InOrder q ends log) (v : post_of q ends log lost ≡ w) (spelled : AllByRecursion IsSpelled letters) where
  packets_are : w.packets + length (map packet_of_bytes letters) ≡ (length q.circuits - 1) + length letters
  packets_are = let e : length q.circuits - 1 ≡ w.packets = ap (λ (m : Post). m.packets) v in omega (arith, length-map letters packet_of_bytes)

  bytes_are : w.bytes + total packet_size (map packet_of_bytes letters) ≡ length log + total (λ (x : List ℕ). length x) letters
  bytes_are = let e : length log ≡ w.bytes = ap (λ (m : Post). m.bytes) v in omega (arith, sizes_are letters spelled)

  -- there is room for all
  pub room_left : length q.circuits + length letters ≤ 262145 → length log + total (λ (x : List ℕ). length x) letters ≤ 134217728 → limit_of_packets (map packet_of_bytes letters) w ≡ None
  room_left few short = within_limits (w.packets + length (map packet_of_bytes letters)) (w.bytes + total packet_size (map packet_of_bytes letters)) (let s = t.some in omega (arith, packets_are)) (omega (arith, bytes_are))

  -- they are too many, or too long
  pub too_many : 262145 < length q.circuits + length letters → limit_of_packets (map packet_of_bytes letters) w ≡ None → ⊥
  too_many many e = past_packets (w.packets + length (map packet_of_bytes letters)) (w.bytes + total packet_size (map packet_of_bytes letters)) (let s = t.some in omega (arith, packets_are)) e

  pub too_long : 134217728 < length log + total (λ (x : List ℕ). length x) letters → limit_of_packets (map packet_of_bytes letters) w ≡ None → ⊥
  too_long long e = past_bytes (w.packets + length (map packet_of_bytes letters)) (w.bytes + total packet_size (map packet_of_bytes letters)) (omega (arith, bytes_are)) e

-- a fault that is handed on is the one that there was
pub same_refusal : {T : Type 0} (r : Result T MailFault) (e fault : MailFault) → IsErrAnd r (λ f. f ≡ e) → r ≡ Err fault → ◌≡◌ {A = Result T MailFault} (Err e) (Err fault)
same_refusal (Ok x) e fault h so = absurd h
same_refusal (Err f) e fault h so = ap (λ (x : MailFault). Err x) (sym h) ∙ so
