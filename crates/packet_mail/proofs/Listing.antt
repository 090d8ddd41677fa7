-- The listing of the packets under way.
use Rattle.std.proofs.Common.{◌≡◌, ℕ, zero, suc, ◌+◌, ◌<◌, List, [], ◌∷◌, ◌++◌, length, map, get_or, take, Option, Some, None, Bool, true, false, refl, sym, ap, subst, ◌∙◌, arith}
use Rattle.std.specs.Option.{IfSome}
use Rattle.std.proofs.lemmas.List.{map-append}
use Rattle.trace_book.specs.declared.packet_kind.PacketKind.{PacketKind}
use Rattle.wire_messages.specs.Bodies.{kind_of}
use Rattle.packet_queue.specs.of_role_steps.Tables.{row}
use Rattle.circuits.specs.of_the_run.Worlds.{Numbered, number_of}
use Rattle.packet_queue.specs.Queues.{Queues, numbers_of}
use Rattle.packet_queue.proofs.Threads.{split, pending_yes, pending_no}
use Rattle.packet_mail.specs.declared.mail.PendingPacket.{PendingPacket}
use Rattle.packet_mail.specs.Posts.{Post, sent_at, sender_in, receiver_in, pending_of}
use Rattle.packet_mail.specs.Letters.{numbered, post_of, InOrder}
use Rattle.packet_mail.proofs.Rows.{here, further}
use Rattle.packet_mail.proofs.Calls.{sent_row}

-- ---- a packet as it is listed ----

row_key : (k : ℕ) (xs : List Numbered) (x : Numbered) → row number_of k xs ≡ Some x → x.number ≡ k
row_key k [] x e = absurd (cc)
row_key k (y ∷ ys) x e = split y.number k
    (λ s. let f : Some y ≡ Some x = sym (here k y ys s) ∙ e in let g : y ≡ x = cc in ap (λ (z : Numbered). z.number) (sym g) ∙ s)
    (λ s. row_key k ys x (sym (further k y ys s) ∙ e))

listed_in : (k from to : ℕ) (kind : PacketKind) (o : Option Numbered) → ((x : Numbered) → o ≡ Some x → x.number ≡ k) → Some from ≡ sender_in o → Some to ≡ receiver_in o → IfSome o (λ x. kind ≡ kind_of x.packet.body) → IfSome o (λ x. ◌≡◌ {A = PendingPacket} (record { number = k; from = from; to = to; kind = kind }) (pending_of x))
listed_in k from to kind None n a b c = tt
listed_in k from to kind (Some x) n a b c = let e : x.number ≡ k = n x refl in let f : from ≡ x.packet.from = cc in let g : to ≡ x.packet.to = cc in cc

pub listed_is : (k from to : ℕ) (kind : PacketKind) (m : Post) → Some from ≡ sender_in (sent_at k m) → Some to ≡ receiver_in (sent_at k m) → IfSome (sent_at k m) (λ x. kind ≡ kind_of x.packet.body) → IfSome (sent_at k m) (λ x. ◌≡◌ {A = PendingPacket} (record { number = k; from = from; to = to; kind = kind }) (pending_of x))
listed_is k from to kind m = listed_in k from to kind (sent_at k m) (row_key k m.sent)

-- ---- the listing ----

abbrev pub listing : List ℕ → List ℕ → List Bool → List PendingPacket
listing ends log ws = map pending_of (map (numbered ends log) (numbers_of 0 ws))

if_some : (P : Numbered → Type 0) (o : Option Numbered) (x : Numbered) → o ≡ Some x → IfSome o P → P x
if_some P o x e h = subst (λ y. IfSome y P) e h

same_read : (ws : List Bool) (k : ℕ) (c d : Bool) → k < length ws → get_or ws k c ≡ get_or ws k d
same_read [] k c d l = absurd (omega arith)
same_read (x ∷ ws) zero c d l = refl
same_read (x ∷ ws) (suc k) c d l = same_read ws k c d (omega arith)

pub listing_yes : (q : Queues) (ends log lost : List ℕ) (w : Post) (t : InOrder q ends log) (v : post_of q ends log lost ≡ w) (k : ℕ) (r : Bool) (p : PendingPacket) (made made' : List PendingPacket) → 0 < k → k < length q.circuits → r ≡ get_or q.underway k false → r ≡ true → IfSome (sent_at k w) (λ x. p ≡ pending_of x) → made' ≡ made ++ p ∷ [] → made ≡ listing ends log (take k q.underway) → made' ≡ listing ends log (take (k + 1) q.underway)
listing_yes q ends log lost w t v k r p made made' s l e y i g h =
    let b : length q.underway ≡ length q.circuits = t.both in
    let f : p ≡ pending_of (numbered ends log k) = if_some (λ x. p ≡ pending_of x) (sent_at k w) (numbered ends log k) (sent_row q ends log lost w t v k s l) i in
    let n = pending_yes k q.underway r (omega arith) (e ∙ same_read q.underway k false r (omega arith)) y in
    g ∙ (ap (λ xs. xs ++ p ∷ []) h ∙ (ap (λ x. listing ends log (take k q.underway) ++ x ∷ []) f ∙ sym (ap (λ ks. map pending_of (map (numbered ends log) ks)) n ∙ (ap (map pending_of) (map-append (numbered ends log) (numbers_of 0 (take k q.underway)) (k ∷ [])) ∙ map-append pending_of (map (numbered ends log) (numbers_of 0 (take k q.underway))) (numbered ends log k ∷ [])))))

pub listing_no : (ends log : List ℕ) (ws : List Bool) (k : ℕ) (r : Bool) (made : List PendingPacket) → k < length ws → r ≡ get_or ws k false → r ≡ false → made ≡ listing ends log (take k ws) → made ≡ listing ends log (take (k + 1) ws)
listing_no ends log ws k r made l e y h = h ∙ sym (ap (λ ks. map pending_of (map (numbered ends log) ks)) (pending_no k ws r l (e ∙ same_read ws k false r l) y))
