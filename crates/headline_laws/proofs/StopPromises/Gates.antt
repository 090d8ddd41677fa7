-- The gates that a cut call leaves open, by both formulations.
use Rattle.std.proofs.Common.{◌≡◌, ℕ, zero, suc, ◌+◌, ◌-◌, ◌==◌, Bool, true, false, not, cond, ◌&&◌, List, [], ◌∷◌, ◌++◌, length, Option, refl, sym, ap, ◌∙◌, append_assoc, arith}
use Rattle.std.specs.Prelude.{nat_lt, replicate}
use Rattle.schedule_lines.specs.declared.line.Leave.{Leave}
use Rattle.schedule_lines.specs.declared.line.Leave.TheVariants as leave
use Rattle.std.proofs.lemmas.Bool.Decides.{nat_tests}
use Rattle.disk_calls.specs.Gates.{Cut, gate_left}
use Rattle.disk_calls.specs.Versions.{new_gate, old_gate, are_left_open}
use Rattle.disk_calls.specs.Boots.{are_halves_open, are_slots_open, is_loser_open, label_writing, calls_of_boot}
use Rattle.lawful_trace.specs.Disks.{Arming, Stops, Fails, cut_of}
use Rattle.promises.specs.Stops.{DiskCall, Plain, Opens, Closes, Disk, switch, calls_of, label_calls, boot_calls, is_left_open, are_two_open}
use Rattle.past_laws.proofs.Names.{same_value}
use Rattle.headline_laws.specs.StopPromises.Alike.{leaves_of}

-- a gate whose call is cut is left so
pub left_same : (a : Arming) (synced was becomes : Bool) → is_left_open (leaves_of a) synced was becomes ≡ gate_left (cut_of a) (not synced) was becomes
left_same (Stops calls leave.Old) synced was becomes = refl
left_same (Stops calls leave.New) synced was becomes = refl
left_same (Stops calls (leave.Byte byte)) synced was becomes = refl
left_same (Fails calls) true was becomes = refl
left_same (Fails calls) false was becomes = refl

and_true : (b : Bool) → (b && true) ≡ b
and_true true = refl
and_true false = refl

-- ---- numbers ----

less_more : (k n : ℕ) → nat_lt (suc k) (suc n) ≡ nat_lt k n
less_more k n = same_value _ _ (λ h. grind (arith, nat_tests)) (λ h. grind (arith, nat_tests))

not_less : (k : ℕ) → nat_lt k 0 ≡ false
not_less k = grind (arith, nat_tests)

from_less : (k n : ℕ) → nat_lt k n ≡ false → k ≡ n + (k - n)
from_less k n h = grind (arith, nat_tests)

-- ---- calls that move no gate ----

pub plain_before : (left : Option Leave) (two : Bool) (n k : ℕ) (rest : List DiskCall) → are_two_open left two k (replicate n Plain ++ rest) ≡ cond (nat_lt k n) two (are_two_open left two (k - n) rest)
plain_before left two zero k rest = ap (λ (j : ℕ). are_two_open left two j rest) (same k) ∙ ap (λ (b : Bool). cond b two (are_two_open left two (k - 0) rest)) (sym (not_less k))
  where
    same : (k : ℕ) → k ≡ k - 0
    same k = omega (arith)
plain_before left two (suc n) zero rest = ap (λ (b : Bool). cond b two (are_two_open left two (zero - suc n) rest)) (sym (first n))
  where
    first : (n : ℕ) → nat_lt zero (suc n) ≡ true
    first n = grind (arith, nat_tests)
plain_before left two (suc n) (suc k) rest =
    plain_before left two n k rest
    ∙ (ap (λ (b : Bool). cond b two (are_two_open left two (k - n) rest)) (sym (less_more k n))
    ∙ ap (λ (j : ℕ). cond (nat_lt (suc k) (suc n)) two (are_two_open left two j rest)) (same k n))
  where
    same : (k n : ℕ) → k - n ≡ suc k - suc n
    same k n = omega (arith)

plain_length : (n : ℕ) (rest : List DiskCall) → length (replicate n Plain ++ rest) ≡ n + length rest
plain_length zero rest = same (length rest)
  where
    same : (n : ℕ) → n ≡ 0 + n
    same n = omega (arith)
plain_length (suc n) rest = same n (length rest) (length (replicate n Plain ++ rest)) (plain_length n rest)
  where
    same : (n m l : ℕ) → l ≡ n + m → suc l ≡ suc n + m
    same n m l h = omega (arith, h)

-- ---- a version ----

calls_joined : (n : ℕ) (older : Bool) → calls_of (record { blocks = n; older = older }) ≡ replicate (n + 2) Plain ++ (switch Opens ++ cond older (switch Closes) [])
calls_joined n older = append_assoc (replicate (n + 2) Plain) (switch Opens) (cond older (switch Closes) [])

-- the new gate is open, or isn't yet, after so many calls of a version over none
pub new_same : (a : Arming) (blocks k : ℕ) → are_two_open (leaves_of a) false k (calls_of (record { blocks = blocks; older = false })) ≡ new_gate blocks (cut_of a) k
new_same a blocks k = ap (are_two_open (leaves_of a) false k) (calls_joined blocks false) ∙ plain_before (leaves_of a) false (blocks + 2) k (switch Opens) ∙ over (nat_lt k (blocks + 2)) refl
  where
    at : (j : ℕ) → k ≡ blocks + 2 + j → are_two_open (leaves_of a) false j (switch Opens) ≡ cond (nat_lt k (blocks + 4)) (gate_left (cut_of a) (k == blocks + 2) false true) true
    at zero e = (let less : nat_lt k (blocks + 4) ≡ true = grind (arith, nat_tests) in let same : (k == blocks + 2) ≡ true = grind (arith, nat_tests) in rw less (rw same (left_same a false false true)))
    at (suc zero) e = (let less : nat_lt k (blocks + 4) ≡ true = grind (arith, nat_tests) in let other : (k == blocks + 2) ≡ false = grind (arith, nat_tests) in rw less (rw other (left_same a true false true)))
    at (suc (suc j)) e = (let more : nat_lt k (blocks + 4) ≡ false = grind (arith, nat_tests) in rw more refl)

    over : (b : Bool) → nat_lt k (blocks + 2) ≡ b → cond b false (are_two_open (leaves_of a) false (k - (blocks + 2)) (switch Opens)) ≡ cond b false (cond (nat_lt k (blocks + 4)) (gate_left (cut_of a) (k == blocks + 2) false true) true)
    over true e = refl
    over false e = at (k - (blocks + 2)) (from_less k (blocks + 2) e)

-- both gates are open after so many calls of a version over an older one
pub both_same : (a : Arming) (blocks k : ℕ) → are_two_open (leaves_of a) false k (calls_of (record { blocks = blocks; older = true })) ≡ nat_lt k (blocks + 6) && (new_gate blocks (cut_of a) k && old_gate blocks (cut_of a) k)
both_same a blocks k = ap (are_two_open (leaves_of a) false k) (calls_joined blocks true) ∙ plain_before (leaves_of a) false (blocks + 2) k (switch Opens ++ switch Closes) ∙ over (nat_lt k (blocks + 2)) refl
  where
    at : (j : ℕ) → k ≡ blocks + 2 + j → are_two_open (leaves_of a) false j (switch Opens ++ switch Closes) ≡ nat_lt k (blocks + 6) && (cond (nat_lt k (blocks + 4)) (gate_left (cut_of a) (k == blocks + 2) false true) true && cond (nat_lt k (blocks + 4)) true (gate_left (cut_of a) (k == blocks + 4) true false))
    at zero e = (let all : nat_lt k (blocks + 6) ≡ true = grind (arith, nat_tests) in let less : nat_lt k (blocks + 4) ≡ true = grind (arith, nat_tests) in let same : (k == blocks + 2) ≡ true = grind (arith, nat_tests) in rw all (rw less (rw same (left_same a false false true ∙ sym (and_true (gate_left (cut_of a) true false true))))))
    at (suc zero) e = (let all : nat_lt k (blocks + 6) ≡ true = grind (arith, nat_tests) in let less : nat_lt k (blocks + 4) ≡ true = grind (arith, nat_tests) in let other : (k == blocks + 2) ≡ false = grind (arith, nat_tests) in rw all (rw less (rw other (left_same a true false true ∙ sym (and_true (gate_left (cut_of a) false false true))))))
    at (suc (suc zero)) e = (let all : nat_lt k (blocks + 6) ≡ true = grind (arith, nat_tests) in let more : nat_lt k (blocks + 4) ≡ false = grind (arith, nat_tests) in let same : (k == blocks + 4) ≡ true = grind (arith, nat_tests) in rw all (rw more (rw same (left_same a false true false))))
    at (suc (suc (suc zero))) e = (let all : nat_lt k (blocks + 6) ≡ true = grind (arith, nat_tests) in let more : nat_lt k (blocks + 4) ≡ false = grind (arith, nat_tests) in let other : (k == blocks + 4) ≡ false = grind (arith, nat_tests) in rw all (rw more (rw other (left_same a true true false))))
    at (suc (suc (suc (suc j)))) e = (let over : nat_lt k (blocks + 6) ≡ false = grind (arith, nat_tests) in rw over refl)

    over : (b : Bool) → nat_lt k (blocks + 2) ≡ b → cond b false (are_two_open (leaves_of a) false (k - (blocks + 2)) (switch Opens ++ switch Closes)) ≡ nat_lt k (blocks + 6) && (cond b false (cond (nat_lt k (blocks + 4)) (gate_left (cut_of a) (k == blocks + 2) false true) true) && cond (nat_lt k (blocks + 4)) true (gate_left (cut_of a) (k == blocks + 4) true false))
    over true e = (let all : nat_lt k (blocks + 6) ≡ true = grind (arith, nat_tests) in rw all refl)
    over false e = at (k - (blocks + 2)) (from_less k (blocks + 2) e)

-- how many calls a version makes
pub version_calls : (blocks : ℕ) (older : Bool) → length (calls_of (record { blocks = blocks; older = older })) ≡ blocks + (4 + cond older 2 0)
version_calls blocks true = ap length (calls_joined blocks true) ∙ plain_length (blocks + 2) (switch Opens ++ switch Closes) ∙ same blocks
  where
    same : (n : ℕ) → n + 2 + 4 ≡ n + (4 + 2)
    same n = omega (arith)
version_calls blocks false = ap length (calls_joined blocks false) ∙ plain_length (blocks + 2) (switch Opens ++ []) ∙ same blocks
  where
    same : (n : ℕ) → n + 2 + 2 ≡ n + (4 + 0)
    same n = omega (arith)

-- ---- a boot ----

label_over : (how : Cut) (k : ℕ) → nat_lt k 6 ≡ false → are_left_open label_writing how k ≡ false
label_over how k h = rw h refl

pub halves_same : (a : Arming) (d : Disk) (k : ℕ) → are_two_open (leaves_of a) d.halves k (label_calls d) ≡ are_halves_open d.halves (cut_of a) k
halves_same a d k = at d.halves k
  where
    at : (halves : Bool) (k : ℕ) → are_two_open (leaves_of a) halves k (cond halves (switch Closes) [] ++ Plain ∷ Plain ∷ switch Opens ++ switch Closes) ≡ are_halves_open halves (cut_of a) k
    at false zero = refl
    at false (suc zero) = refl
    at false (suc (suc zero)) = left_same a false false true ∙ sym (and_true (gate_left (cut_of a) true false true))
    at false (suc (suc (suc zero))) = left_same a true false true ∙ sym (and_true (gate_left (cut_of a) false false true))
    at false (suc (suc (suc (suc zero)))) = left_same a false true false
    at false (suc (suc (suc (suc (suc zero))))) = left_same a true true false
    at false (suc (suc (suc (suc (suc (suc k)))))) = sym (label_over (cut_of a) (suc (suc (suc (suc (suc (suc k))))) - 0) (grind (arith, nat_tests)))
    at true zero = left_same a false true false
    at true (suc zero) = left_same a true true false
    at true (suc (suc zero)) = refl
    at true (suc (suc (suc zero))) = refl
    at true (suc (suc (suc (suc zero)))) = left_same a false false true ∙ sym (and_true (gate_left (cut_of a) true false true))
    at true (suc (suc (suc (suc (suc zero))))) = left_same a true false true ∙ sym (and_true (gate_left (cut_of a) false false true))
    at true (suc (suc (suc (suc (suc (suc zero)))))) = left_same a false true false
    at true (suc (suc (suc (suc (suc (suc (suc zero))))))) = left_same a true true false
    at true (suc (suc (suc (suc (suc (suc (suc (suc k)))))))) = (let late : nat_lt (suc (suc (suc (suc (suc (suc (suc (suc k)))))))) 2 ≡ false = grind (arith, nat_tests) in rw late (sym (label_over (cut_of a) (suc (suc (suc (suc (suc (suc (suc (suc k))))))) - 2) (grind (arith, nat_tests)))))

-- where an open slot beside another is closed after so many calls
loser_same : (a : Arming) (n k : ℕ) → are_two_open (leaves_of a) true k (replicate n Plain ++ switch Closes) ≡ is_loser_open (cut_of a) (k + 1 - n)
loser_same a n k = plain_before (leaves_of a) true n k (switch Closes) ∙ over (nat_lt k n) refl
  where
    none : nat_lt k n ≡ true → zero ≡ k + 1 - n
    none e = grind (arith, nat_tests)

    some : nat_lt k n ≡ false → suc (k - n) ≡ k + 1 - n
    some e = grind (arith, nat_tests)

    at : (j : ℕ) → are_two_open (leaves_of a) true j (switch Closes) ≡ is_loser_open (cut_of a) (suc j)
    at zero = left_same a false true false
    at (suc zero) = left_same a true true false
    at (suc (suc j)) = refl

    over : (b : Bool) → nat_lt k n ≡ b → cond b true (are_two_open (leaves_of a) true (k - n) (switch Closes)) ≡ is_loser_open (cut_of a) (k + 1 - n)
    over true e = ap (is_loser_open (cut_of a)) (none e)
    over false e = at (k - n) ∙ ap (is_loser_open (cut_of a)) (some e)

pub slots_same : (a : Arming) (d : Disk) (k : ℕ) → are_two_open (leaves_of a) d.slots k (replicate (length (label_calls d)) Plain ++ cond d.slots (switch Closes) []) ≡ are_slots_open d.halves d.slots (cut_of a) k
slots_same a d k = at d.halves d.slots
  where
    shut : (n k : ℕ) → are_two_open (leaves_of a) false k (replicate n Plain ++ []) ≡ false
    shut zero k = refl
    shut (suc n) zero = refl
    shut (suc n) (suc k) = shut n k

    at : (halves slots : Bool) → are_two_open (leaves_of a) slots k (replicate (length (cond halves (switch Closes) [] ++ Plain ∷ Plain ∷ switch Opens ++ switch Closes)) Plain ++ cond slots (switch Closes) []) ≡ are_slots_open halves slots (cut_of a) k
    at true false = shut 8 k
    at false false = shut 6 k
    at false true = loser_same a 6 k
    at true true = loser_same a 8 k

-- how many calls a boot makes
pub boot_length : (d : Disk) → length (boot_calls d) ≡ calls_of_boot d.halves d.slots
boot_length d = at d.halves d.slots
  where
    at : (halves slots : Bool) → length ((cond halves (switch Closes) [] ++ Plain ∷ Plain ∷ switch Opens ++ switch Closes) ++ cond slots (switch Closes) []) ≡ calls_of_boot halves slots
    at true true = refl
    at true false = refl
    at false true = refl
    at false false = refl
