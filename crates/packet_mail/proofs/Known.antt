-- Each packet under way is one that was sent.
use Rattle.std.proofs.Common.{◌≡◌, ℕ, zero, suc, ◌+◌, ◌<◌, List, [], ◌∷◌, length, map, get_or, Bool, true, false, refl, sym, ap, subst, ◌∙◌, arith}
use Rattle.std.specs.List.{AllByRecursion}
use Rattle.wire_messages.specs.declared.packet.Packet.{Packet}
use Rattle.wire_messages.specs.Packets.{FitsPacket}
use Rattle.circuits.specs.of_the_run.Worlds.{Numbered}
use Rattle.packet_queue.specs.Queues.{Queues, numbers_of}
use Rattle.packet_mail.specs.Posts.{Post, IsKnown}
use Rattle.packet_mail.specs.Letters.{letter, numbered, post_of, InOrder}
use Rattle.packet_mail.proofs.Rows.{packet_is}
use Rattle.packet_mail.proofs.Calls.{sent_row}

module _ (q : Queues) (ends log lost : List ℕ) (w : Post) (t : InOrder q ends log) (v : post_of q ends log lost ≡ w) where
  known_at : (k : ℕ) → 0 < k → k < length q.circuits → IsKnown w (numbered ends log k)
  known_at zero s l = absurd (omega arith)
  known_at (suc k) s l =
      let x = t.letters k l in
      record {
        sent = sent_row q ends log lost w t v (suc k) s l;
        fits = subst (λ (p : Packet). FitsPacket p) (sym (packet_is (letter ends log (suc k)) x.packet x.is_packet)) x.is_packet.1;
      }

  all_known : (n : ℕ) (ws : List Bool) → ((k : ℕ) → k < length ws → get_or ws k false ≡ true → IsKnown w (numbered ends log (n + k))) → AllByRecursion (IsKnown w) (map (numbered ends log) (numbers_of n ws))
  all_known n [] h = tt
  all_known n (true ∷ ws) h = (
    (let z : n + 0 ≡ n = omega arith in subst (λ (k : ℕ). IsKnown w (numbered ends log k)) z (h 0 (omega arith) refl)),
    all_known (n + 1) ws (λ k l e. let y : n + suc k ≡ (n + 1) + k = omega arith in subst (λ (j : ℕ). IsKnown w (numbered ends log j)) y (h (suc k) (omega arith) e)),
  )
  all_known n (false ∷ ws) h = all_known (n + 1) ws (λ k l e. let y : n + suc k ≡ (n + 1) + k = omega arith in subst (λ (j : ℕ). IsKnown w (numbered ends log j)) y (h (suc k) (omega arith) e))

  here_known : (k : ℕ) → k < length q.underway → get_or q.underway k false ≡ true → IsKnown w (numbered ends log (0 + k))
  here_known zero l e = let f : get_or q.underway 0 false ≡ false = t.none in absurd (cc)
  here_known (suc k) l e =
      let z : suc k ≡ 0 + suc k = omega arith in
      let b : length q.underway ≡ length q.circuits = t.both in
      subst (λ (j : ℕ). IsKnown w (numbered ends log j)) z (known_at (suc k) (omega arith) (omega arith))

  pub underway_known : AllByRecursion (IsKnown w) w.underway
  underway_known = subst (λ (xs : List Numbered). AllByRecursion (IsKnown w) xs) (ap (λ (m : Post). m.underway) v) (all_known 0 q.underway here_known)
