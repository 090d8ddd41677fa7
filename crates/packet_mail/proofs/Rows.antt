-- Marks by place are the ascending list of packets under way, and the log is the list of packets.
use Rattle.std.proofs.Common.{◌≡◌, ◌≢◌, ℕ, zero, suc, ◌+◌, ◌-◌, ◌<◌, ◌≤◌, List, [], ◌∷◌, ◌++◌, length, map, set, get_or, take, drop, Some, None, Bool, true, false, nat_eq, refl, sym, ap, ◌∙◌, arith}
use Rattle.std.specs.Option.{is_some}
use Rattle.std.specs.List.{slice_range}
use Rattle.std.proofs.lemmas.Bool.Decides.{nat_tests}
use Rattle.std.proofs.lemmas.List.{get_or-set_same, get_or-set_other, length-append, length-drop, take-append-le, drop-append-le, take_all}
use Rattle.std.proofs.Math.Seq.{drop-append_seam}
use Rattle.packet_queue.proofs.of_plain_facts.Numbers.{differ_test, same_test}
use Rattle.field_codec.specs.Codec.{whole}
use Rattle.field_codec.proofs.Laws.{whole_again}
use Rattle.wire_messages.specs.declared.packet.Packet.{Packet}
use Rattle.wire_messages.specs.Packets.{packets, IsPacket}
use Rattle.wire_messages.proofs.PacketLaws.{packets_laws}
use Rattle.packet_queue.specs.of_role_steps.Tables.{row, without_row, first_that}
use Rattle.circuits.specs.of_the_run.Worlds.{Numbered, number_of}
use Rattle.packet_queue.specs.Queues.{numbers_of}
use Rattle.packet_queue.proofs.Threads.{split, either}
use Rattle.packet_mail.specs.Posts.{number_in}
use Rattle.packet_mail.specs.Letters.{packet_or_none, packet_of_bytes, letter, numbered, sent_to}

-- ---- numbers ----

pub put : {A : Type 0} (xs : List A) (i j : ℕ) (v d : A) → i < length xs → j ≡ i → get_or (set xs i v) j d ≡ v
put xs i j v d l e = ap (λ y. get_or (set xs i v) y d) e ∙ get_or-set_same xs i v d l

pub one_more : (n : ℕ) (ws : List Bool) → numbers_of n (ws ++ true ∷ []) ≡ numbers_of n ws ++ (n + length ws) ∷ []
one_more n [] = ap (λ y. y ∷ []) (omega arith)
one_more n (true ∷ ws) = ap (λ ys. n ∷ ys) (one_more (n + 1) ws ∙ ap (λ y. numbers_of (n + 1) ws ++ y ∷ []) (omega arith))
one_more n (false ∷ ws) = one_more (n + 1) ws ∙ ap (λ y. numbers_of (n + 1) ws ++ y ∷ []) (omega arith)

-- ---- rows by number ----

take_this : {A : Type 0} (x y : A) (b : Bool) → b ≡ true → ◌≡◌ {A = A} (elim b [ true ↦ x | false ↦ y ]) x
take_this x y b e = ap (λ t. elim t [ true ↦ x | false ↦ y ]) e

take_other : {A : Type 0} (x y : A) (b : Bool) → b ≡ false → ◌≡◌ {A = A} (elim b [ true ↦ x | false ↦ y ]) y
take_other x y b e = ap (λ t. elim t [ true ↦ x | false ↦ y ]) e

pub here : (k : ℕ) (x : Numbered) (xs : List Numbered) → x.number ≡ k → row number_of k (x ∷ xs) ≡ Some x
here k x xs e = take_this (Some x) (row number_of k xs) (nat_eq x.number k) (same_test x.number k e)

pub further : (k : ℕ) (x : Numbered) (xs : List Numbered) → x.number ≢ k → row number_of k (x ∷ xs) ≡ row number_of k xs
further k x xs e = take_other (Some x) (row number_of k xs) (nat_eq x.number k) (differ_test x.number k e)

away : (k : ℕ) (x : Numbered) (xs : List Numbered) → x.number ≡ k → without_row number_of k (x ∷ xs) ≡ xs
away k x xs e = take_this xs (x ∷ without_row number_of k xs) (nat_eq x.number k) (same_test x.number k e)

stays : (k : ℕ) (x : Numbered) (xs : List Numbered) → x.number ≢ k → without_row number_of k (x ∷ xs) ≡ x ∷ without_row number_of k xs
stays k x xs e = take_other xs (x ∷ without_row number_of k xs) (nat_eq x.number k) (differ_test x.number k e)

module _ (ends log : List ℕ) where
  without_less : (k n : ℕ) (ws : List Bool) → k < n → without_row number_of k (map (numbered ends log) (numbers_of n ws)) ≡ map (numbered ends log) (numbers_of n ws)
  without_less k n [] l = refl
  without_less k n (true ∷ ws) l = stays k (numbered ends log n) (map (numbered ends log) (numbers_of (n + 1) ws)) (λ e. absurd (omega arith)) ∙ ap (λ ys. numbered ends log n ∷ ys) (without_less k (n + 1) ws (omega arith))
  without_less k n (false ∷ ws) l = without_less k (n + 1) ws (omega arith)

  pub one_less : (n i : ℕ) (ws : List Bool) → map (numbered ends log) (numbers_of n (set ws i false)) ≡ without_row number_of (n + i) (map (numbered ends log) (numbers_of n ws))
  one_less n i [] = refl
  one_less n zero (true ∷ ws) = sym (away (n + 0) (numbered ends log n) (map (numbered ends log) (numbers_of (n + 1) ws)) (omega arith))
  one_less n zero (false ∷ ws) = sym (without_less (n + 0) (n + 1) ws (omega arith))
  one_less n (suc i) (true ∷ ws) = ap (λ ys. numbered ends log n ∷ ys) (one_less (n + 1) i ws ∙ ap (λ y. without_row number_of y (map (numbered ends log) (numbers_of (n + 1) ws))) (omega arith)) ∙ sym (stays (n + suc i) (numbered ends log n) (map (numbered ends log) (numbers_of (n + 1) ws)) (λ e. absurd (omega arith)))
  one_less n (suc i) (false ∷ ws) = one_less (n + 1) i ws ∙ ap (λ y. without_row number_of y (map (numbered ends log) (numbers_of (n + 1) ws))) (omega arith)

  none_less : (k n : ℕ) (ws : List Bool) → k < n → row number_of k (map (numbered ends log) (numbers_of n ws)) ≡ None
  none_less k n [] l = refl
  none_less k n (true ∷ ws) l = further k (numbered ends log n) (map (numbered ends log) (numbers_of (n + 1) ws)) (λ e. absurd (omega arith)) ∙ none_less k (n + 1) ws (omega arith)
  none_less k n (false ∷ ws) l = none_less k (n + 1) ws (omega arith)

  pub row_underway : (n i : ℕ) (ws : List Bool) → is_some (row number_of (n + i) (map (numbered ends log) (numbers_of n ws))) ≡ get_or ws i false
  row_underway n i [] = refl
  row_underway n zero (true ∷ ws) = ap is_some (here (n + 0) (numbered ends log n) (map (numbered ends log) (numbers_of (n + 1) ws)) (omega arith))
  row_underway n zero (false ∷ ws) = ap is_some (none_less (n + 0) (n + 1) ws (omega arith))
  row_underway n (suc i) (true ∷ ws) = ap is_some (further (n + suc i) (numbered ends log n) (map (numbered ends log) (numbers_of (n + 1) ws)) (λ e. absurd (omega arith))) ∙ (ap (λ y. is_some (row number_of y (map (numbered ends log) (numbers_of (n + 1) ws)))) (omega arith) ∙ row_underway (n + 1) i ws)
  row_underway n (suc i) (false ∷ ws) = ap (λ y. is_some (row number_of y (map (numbered ends log) (numbers_of (n + 1) ws)))) (omega arith) ∙ row_underway (n + 1) i ws

  pub row_sent : (n k : ℕ) → k < n → row number_of (suc k) (sent_to ends log n) ≡ Some (numbered ends log (suc k))
  row_sent zero k l = absurd (omega arith)
  row_sent (suc n) k l = split n k
      (λ e. here (suc k) (numbered ends log (suc n)) (sent_to ends log n) (omega arith) ∙ ap (λ y. Some (numbered ends log (suc y))) e)
      (λ e. further (suc k) (numbered ends log (suc n)) (sent_to ends log n) (λ f. absurd (omega arith)) ∙ row_sent n k (omega arith))

  pub row_unsent : (n k : ℕ) → n < k → row number_of k (sent_to ends log n) ≡ None
  row_unsent zero k l = refl
  row_unsent (suc n) k l = further k (numbered ends log (suc n)) (sent_to ends log n) (λ e. absurd (omega arith)) ∙ row_unsent n k (omega arith)

  pub row_zero : (n : ℕ) → row number_of 0 (sent_to ends log n) ≡ None
  row_zero zero = refl
  row_zero (suc n) = further 0 (numbered ends log (suc n)) (sent_to ends log n) (λ e. absurd (omega arith)) ∙ row_zero n

  -- a test of packets, and one of numbers that agrees on those under way
  pub first_same : (test : Numbered → Bool) (g : ℕ → Bool) (n : ℕ) (ws : List Bool) → ((k : ℕ) → k < length ws → get_or ws k false ≡ true → g (n + k) ≡ test (numbered ends log (n + k))) → first_that g (numbers_of n ws) ≡ number_in (first_that test (map (numbered ends log) (numbers_of n ws)))
  first_same test g n [] h = refl
  first_same test g n (true ∷ ws) h =
      let z : n + 0 ≡ n = omega arith in
      let e : g n ≡ test (numbered ends log n) = sym (ap g z) ∙ (h 0 (omega arith) refl ∙ ap (λ y. test (numbered ends log y)) z) in
      let rest = first_same test g (n + 1) ws (λ k l w. let y : (n + 1) + k ≡ n + suc k = omega arith in ap g y ∙ (h (suc k) (omega arith) w ∙ sym (ap (λ x. test (numbered ends log x)) y))) in
      either (test (numbered ends log n))
      (λ t. take_this (Some n) (first_that g (numbers_of (n + 1) ws)) (g n) (e ∙ t) ∙ sym (ap number_in (take_this (Some (numbered ends log n)) (first_that test (map (numbered ends log) (numbers_of (n + 1) ws))) (test (numbered ends log n)) t)))
      (λ t. take_other (Some n) (first_that g (numbers_of (n + 1) ws)) (g n) (e ∙ t) ∙ (rest ∙ sym (ap number_in (take_other (Some (numbered ends log n)) (first_that test (map (numbered ends log) (numbers_of (n + 1) ws))) (test (numbered ends log n)) t))))
  first_same test g n (false ∷ ws) h = first_same test g (n + 1) ws (λ k l w. let y : (n + 1) + k ≡ n + suc k = omega arith in ap g y ∙ (h (suc k) (omega arith) w ∙ sym (ap (λ x. test (numbered ends log x)) y)))

-- ---- letters ----

pub packet_is : (bytes : List ℕ) (p : Packet) → IsPacket bytes p → packet_of_bytes bytes ≡ p
unfolding packet_of_bytes
packet_is bytes p is = ap packet_or_none (ap (whole packets) is.0 ∙ whole_again packets_laws p is.1)

pub part_stays : (log more : List ℕ) (i j : ℕ) → i ≤ j → j ≤ length log → slice_range (log ++ more) i j ≡ slice_range log i j
part_stays log more i j l m = ap (take (j - i)) (drop-append-le i log more (omega arith)) ∙ take-append-le (j - i) (drop i log) more (omega (arith, length-drop i log))

pub part_new : (log more : List ℕ) → slice_range (log ++ more) (length log) (length (log ++ more)) ≡ more
part_new log more = ap (take (length (log ++ more) - length log)) (drop-append_seam log more) ∙ take_all (length (log ++ more) - length log) more (omega (arith, length-append log more))

-- a letter from before is as it was
pub letter_stays : (ends log more : List ℕ) (at to k : ℕ) → suc k < at → get_or ends k 0 ≤ get_or ends (suc k) 0 → get_or ends (suc k) 0 ≤ length log → letter (set ends at to) (log ++ more) (suc k) ≡ letter ends log (suc k)
letter_stays ends log more at to k l r w =
    let b : get_or (set ends at to) k 0 ≡ get_or ends k 0 = get_or-set_other ends at k to 0 (λ e. absurd (omega arith)) in
    let d : get_or (set ends at to) (suc k) 0 ≡ get_or ends (suc k) 0 = get_or-set_other ends at (suc k) to 0 (λ e. absurd (omega arith)) in
    rw (b, d) (part_stays log more (get_or ends k 0) (get_or ends (suc k) 0) r w)

-- the newest letter is what was added
pub letter_new : (ends log more : List ℕ) (k : ℕ) → suc k < length ends → get_or ends k 0 ≡ length log → letter (set ends (suc k) (length (log ++ more))) (log ++ more) (suc k) ≡ more
letter_new ends log more k l e =
    let b : get_or (set ends (suc k) (length (log ++ more))) k 0 ≡ length log = get_or-set_other ends (suc k) k (length (log ++ more)) 0 (λ f. absurd (omega arith)) ∙ e in
    let d : get_or (set ends (suc k) (length (log ++ more))) (suc k) 0 ≡ length (log ++ more) = get_or-set_same ends (suc k) (length (log ++ more)) 0 l in
    rw (b, d) (part_new log more)
