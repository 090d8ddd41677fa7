-- Packets and records part by part.
use Rattle.std.proofs.Common.{◌≡◌, ℕ, zero, suc, ◌+◌, ◌<◌, List, [], ◌∷◌, ◌++◌, length, drop, get_or, Some, refl, sym, ap, subst, ◌∙◌, append_assoc, arith}
use Rattle.std.specs.Prelude.{slice_get}
use Rattle.std.specs.List.{AllByRecursion}
use Rattle.std.proofs.lemmas.Option.{slice_get-get_or}
use Rattle.wire_messages.specs.Outboxes.{Outgoing}
use Rattle.packet_order.specs.Orders.{together}
use Rattle.trace_book.specs.Text.{entry_text}
use Rattle.trace_book.specs.declared.record.Record.{Record}
use Rattle.wire_messages.specs.declared.packet.Packet.{Packet}
use Rattle.wire_messages.specs.Packets.{FitsPacket}
use Rattle.packet_order.specs.Counts.{FitsIfCounted}
use Rattle.the_run.specs.Commands.{Counts, counted_in, reply_line}
use Rattle.run_book.specs.Ledgers.{lines_text}
use Rattle.run_book.specs.Writings.{counts_after, replies_of}

left_at : {A : Type 0} (xs : List A) (i : ℕ) (x : A) → Some x ≡ slice_get xs i → drop i xs ≡ x ∷ drop (suc i) xs
left_at [] i x e = absurd (cc)
left_at (y ∷ ys) zero x e = let f : x ≡ y = cc in ap (λ z. z ∷ ys) (sym f)
left_at (y ∷ ys) (suc i) x e = left_at ys i x e

-- the element at a place is the first of what is left from there
pub left_from : {A : Type 0} (xs : List A) (i : ℕ) (x : A) → Some x ≡ slice_get xs i → drop i xs ≡ x ∷ drop (i + 1) xs
left_from xs i x e = let f : suc i ≡ i + 1 = omega arith in left_at xs i x e ∙ ap (λ k. x ∷ drop k xs) f

pub text_append : (n : ℕ) (rs ss : List Record) → lines_text n (rs ++ ss) ≡ lines_text n rs ++ lines_text n ss
text_append n [] ss = refl
text_append n (r ∷ rs) ss = ap (λ y. entry_text n r ++ y) (text_append n rs ss) ∙ sym (append_assoc (entry_text n r) (lines_text n rs) (lines_text n ss))

pub all_append : {A : Type 0} (P : A → Type 0) (xs ys : List A) → AllByRecursion P xs → AllByRecursion P ys → AllByRecursion P (xs ++ ys)
all_append P [] ys h k = k
all_append P (x ∷ xs) ys h k = (h.0, all_append P xs ys h.1 k)

pub all_front : {A : Type 0} (P : A → Type 0) (xs ys : List A) → AllByRecursion P (xs ++ ys) → AllByRecursion P xs
all_front P [] ys h = tt
all_front P (x ∷ xs) ys h = (h.0, all_front P xs ys h.1)

pub all_behind : {A : Type 0} (P : A → Type 0) (xs ys : List A) → AllByRecursion P (xs ++ ys) → AllByRecursion P ys
all_behind P [] ys h = h
all_behind P (x ∷ xs) ys h = all_behind P xs ys h.1

-- a property of one element more
pub rest_has : {A : Type 0} (P : A → Type 0) (xs : List A) (i : ℕ) (p : A) → Some p ≡ slice_get xs i → P p → (AllByRecursion P (drop i xs) → AllByRecursion P xs) → AllByRecursion P (drop (i + 1) xs) → AllByRecursion P xs
rest_has P xs i p at h f k = f (subst (AllByRecursion P) (sym (left_from xs i p at)) (h, k))

pub part_left : (parts : List Outgoing) (i : ℕ) (part : Outgoing) → i < length parts → part ≡ get_or parts i part → drop i parts ≡ part ∷ drop (i + 1) parts
part_left parts i part l e = left_from parts i part (ap (λ x. Some x) e ∙ sym (slice_get-get_or parts i part l))

-- the text of one part more
pub text_more : (n : ℕ) (parts : List Outgoing) (i : ℕ) (part : Outgoing) (t t' whole : List ℕ) → i < length parts → part ≡ get_or parts i part → t' ≡ t ++ lines_text n part.records → t ++ lines_text n (together (drop i parts)).records ≡ whole → t' ++ lines_text n (together (drop (i + 1) parts)).records ≡ whole
text_more n parts i part t t' whole l is e h =
    ap (λ y. y ++ lines_text n (together (drop (i + 1) parts)).records) e
    ∙ (append_assoc t (lines_text n part.records) (lines_text n (together (drop (i + 1) parts)).records)
    ∙ (ap (λ y. t ++ y) (sym (text_append n part.records (together (drop (i + 1) parts)).records))
    ∙ (ap (λ ps. t ++ lines_text n (together ps).records) (sym (part_left parts i part l is)) ∙ h)))

replies_append : (rs ss : List Record) → replies_of (rs ++ ss) ≡ replies_of rs ++ replies_of ss
replies_append [] ss = refl
replies_append (r ∷ rs) ss = ap (λ y. reply_line r ++ y) (replies_append rs ss) ∙ sym (append_assoc (reply_line r) (replies_of rs) (replies_of ss))

-- the replies of one part more
pub replies_more : (parts : List Outgoing) (i : ℕ) (part : Outgoing) (t t' whole : List ℕ) → i < length parts → part ≡ get_or parts i part → t' ≡ t ++ replies_of part.records → t ++ replies_of (together (drop i parts)).records ≡ whole → t' ++ replies_of (together (drop (i + 1) parts)).records ≡ whole
replies_more parts i part t t' whole l is e h =
    ap (λ y. y ++ replies_of (together (drop (i + 1) parts)).records) e
    ∙ (append_assoc t (replies_of part.records) (replies_of (together (drop (i + 1) parts)).records)
    ∙ (ap (λ y. t ++ y) (sym (replies_append part.records (together (drop (i + 1) parts)).records))
    ∙ (ap (λ ps. t ++ replies_of (together ps).records) (sym (part_left parts i part l is)) ∙ h)))

counts_append : (c : Counts) (rs ss : List Record) → counts_after c (rs ++ ss) ≡ counts_after (counts_after c rs) ss
counts_append c [] ss = refl
counts_append c (r ∷ rs) ss = counts_append (counted_in c r) rs ss

-- the counts of one part more
pub counts_more : (parts : List Outgoing) (i : ℕ) (part : Outgoing) (c d whole : Counts) → i < length parts → part ≡ get_or parts i part → d ≡ counts_after c part.records → counts_after c (together (drop i parts)).records ≡ whole → counts_after d (together (drop (i + 1) parts)).records ≡ whole
counts_more parts i part c d whole l is e h =
    ap (λ y. counts_after y (together (drop (i + 1) parts)).records) e
    ∙ (sym (counts_append c part.records (together (drop (i + 1) parts)).records)
    ∙ (ap (λ ps. counts_after c (together ps).records) (sym (part_left parts i part l is)) ∙ h))

-- the packets of one part are of the format where all are
pub part_fits : (parts : List Outgoing) (i : ℕ) (part : Outgoing) → i < length parts → part ≡ get_or parts i part → AllByRecursion (λ (p : Packet). FitsIfCounted p) (together parts).packets → AllByRecursion (λ (p : Packet). FitsIfCounted p) part.packets
part_fits [] i part l e h = absurd (omega arith)
part_fits (q ∷ qs) zero part l e h = subst (λ (z : Outgoing). AllByRecursion (λ (p : Packet). FitsIfCounted p) z.packets) (sym e) (all_front (λ (p : Packet). FitsIfCounted p) q.packets (together qs).packets h)
part_fits (q ∷ qs) (suc i) part l e h = part_fits qs i part (omega arith) e (all_behind (λ (p : Packet). FitsIfCounted p) q.packets (together qs).packets h)

-- the packets of one part more are of the format
pub part_rest : (parts : List Outgoing) (i : ℕ) (part : Outgoing) → i < length parts → part ≡ get_or parts i part → AllByRecursion (λ (p : Packet). FitsPacket p) part.packets → (AllByRecursion (λ (p : Packet). FitsPacket p) (together (drop i parts)).packets → AllByRecursion (λ (p : Packet). FitsPacket p) (together parts).packets) → AllByRecursion (λ (p : Packet). FitsPacket p) (together (drop (i + 1) parts)).packets → AllByRecursion (λ (p : Packet). FitsPacket p) (together parts).packets
part_rest parts i part l e h f k = f (subst (λ (ps : List Outgoing). AllByRecursion (λ (p : Packet). FitsPacket p) (together ps).packets) (sym (part_left parts i part l e)) (all_append (λ (p : Packet). FitsPacket p) part.packets (together (drop (i + 1) parts)).packets h k))
