-- The bytes of packets, each alone, part by part.
use Rattle.std.proofs.Common.{◌≡◌, ℕ, suc, ◌+◌, ◌<◌, List, [], ◌∷◌, ◌++◌, length, map, drop, get_or, Some, refl, sym, ap, subst, ◌∙◌, append_assoc, arith}
use Rattle.std.specs.Prelude.{slice_get}
use Rattle.std.specs.List.{AllByRecursion}
use Rattle.std.proofs.lemmas.List.{map-append}
use Rattle.wire_messages.specs.Outboxes.{Outgoing}
use Rattle.wire_messages.specs.declared.packet.Packet.{Packet}
use Rattle.wire_messages.specs.Packets.{packet_bytes, FitsPacket, IsPacket}
use Rattle.role_steps.specs.Tables.{total}
use Rattle.the_run.specs.Worlds.{packet_size}
use Rattle.packet_order.specs.Orders.{together}
use Rattle.packet_mail.specs.Letters.{packet_of_bytes, IsSpelled}
use Rattle.packet_mail.proofs.Rows.{packet_is}
use Rattle.packet_mail.proofs.Sent.{size_is}
use Rattle.run_book.proofs.Parts.{left_from, part_left}

-- the bytes of one packet more
pub letters_more : (xs : List Packet) (i : ℕ) (p : Packet) (a b whole : List (List ℕ)) → Some p ≡ slice_get xs i → b ≡ a ++ packet_bytes p ∷ [] → a ++ map packet_bytes (drop i xs) ≡ whole → b ++ map packet_bytes (drop (i + 1) xs) ≡ whole
letters_more xs i p a b whole at e h =
    ap (λ (y : List (List ℕ)). y ++ map packet_bytes (drop (i + 1) xs)) e
    ∙ (append_assoc a (packet_bytes p ∷ []) (map packet_bytes (drop (i + 1) xs))
    ∙ (ap (λ (ys : List Packet). a ++ map packet_bytes ys) (sym (left_from xs i p at)) ∙ h))

-- those of one part more
pub part_letters : (parts : List Outgoing) (i : ℕ) (part : Outgoing) (a b whole : List (List ℕ)) → i < length parts → part ≡ get_or parts i part → b ≡ a ++ map packet_bytes part.packets → a ++ map packet_bytes (together (drop i parts)).packets ≡ whole → b ++ map packet_bytes (together (drop (i + 1) parts)).packets ≡ whole
part_letters parts i part a b whole l is e h =
    let more = (together (drop (i + 1) parts)).packets in
    ap (λ (y : List (List ℕ)). y ++ map packet_bytes more) e
    ∙ (append_assoc a (map packet_bytes part.packets) (map packet_bytes more)
    ∙ (ap (λ (y : List (List ℕ)). a ++ y) (sym (map-append packet_bytes part.packets more))
    ∙ (ap (λ (ps : List Outgoing). a ++ map packet_bytes (together ps).packets) (sym (part_left parts i part l is)) ∙ h)))

-- together they have as many bytes as the packets
pub sizes_are : (ps : List Packet) → total (λ (x : List ℕ). length x) (map packet_bytes ps) ≡ total packet_size ps
sizes_are [] = refl
sizes_are (p ∷ ps) = let first = size_is (packet_bytes p) p refl in let rest = sizes_are ps in omega arith

pub as_many : (ps : List Packet) → length (map packet_bytes ps) ≡ length ps
as_many [] = refl
as_many (p ∷ ps) = ap suc (as_many ps)

-- each is one of a packet of the format, and they are those packets
pub spelled_all : (ps : List Packet) → AllByRecursion (λ (p : Packet). FitsPacket p) ps → AllByRecursion IsSpelled (map packet_bytes ps)
spelled_all [] h = tt
spelled_all (p ∷ ps) h = (subst (λ (q : Packet). IsPacket (packet_bytes p) q) (sym (packet_is (packet_bytes p) p (refl, h.0))) (refl, h.0), spelled_all ps h.1)

pub packets_back : (ps : List Packet) → AllByRecursion (λ (p : Packet). FitsPacket p) ps → map packet_of_bytes (map packet_bytes ps) ≡ ps
packets_back [] h = refl
packets_back (p ∷ ps) h = rw (packet_is (packet_bytes p) p (refl, h.0), packets_back ps h.1) refl
