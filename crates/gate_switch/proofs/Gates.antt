-- Which gates are open where a switch was cut off.
use Rattle.std.proofs.Common.{◌≡◌, ℕ, ◌+◌, ◌≤◌, ◌<◌, Bool, true, false, cond, List, [], ◌∷◌, length, get_or, refl, ap, arith}
use Rattle.std.specs.Prelude.{◌==◌}
use Rattle.std.proofs.lemmas.Bool.Decides.{nat_tests}
use Rattle.disk_model.specs.declared.script.Leave.TheVariants.{Old, New, Byte}
use Rattle.disk_model.specs.Cut.{Cut, Stops, Fails, left_by, left_in_write}
use Rattle.disk_model.specs.Images.{Torn}
use Rattle.gate_switch.specs.Gates.{gate_left, new_gate, old_gate}
use Rattle.gate_switch.proofs.Pieces.{put_gate, torn_overwritten, torn_same}

-- the gate whose write was cut off, and the gate that wasn't synced
module _ (old : List ℕ) (gate byte : ℕ) (fits : gate + 1 ≤ length old) where
  put_is : (b : ℕ) → get_or (left_by (Stops (Byte b)) old gate (byte ∷ [])) gate 0 ≡ b
  put_is b = put_gate old gate b fits

  pub opens_write : (how : Cut) → (get_or (left_in_write how old gate (byte ∷ [])) gate 0 == 165) ≡ gate_left how true (get_or old gate 0 == 165) (byte == 165)
  opens_write (Stops Old) = refl
  opens_write (Stops New) = ap (λ (n : ℕ). n == 165) (put_gate old gate byte fits)
  opens_write (Stops (Byte b)) = ap (λ (n : ℕ). n == 165) (put_is b)
  opens_write Fails = refl

  pub opens_sync : (how : Cut) → (get_or (left_by how old gate (byte ∷ [])) gate 0 == 165) ≡ gate_left how false (get_or old gate 0 == 165) (byte == 165)
  opens_sync (Stops Old) = refl
  opens_sync (Stops New) = ap (λ (n : ℕ). n == 165) (put_gate old gate byte fits)
  opens_sync (Stops (Byte b)) = ap (λ (n : ℕ). n == 165) (put_is b)
  opens_sync Fails = ap (λ (n : ℕ). n == 165) (put_gate old gate byte fits)

  -- nothing else is changed
  pub torn_write : (how : Cut) → Torn gate 1 old (left_in_write how old gate (byte ∷ []))
  torn_write (Stops Old) = torn_same gate 1 old
  torn_write (Stops New) = torn_overwritten old gate (byte ∷ []) fits
  torn_write (Stops (Byte b)) = torn_overwritten old gate (b ∷ []) fits
  torn_write Fails = torn_same gate 1 old

  pub torn_sync : (how : Cut) → Torn gate 1 old (left_by how old gate (byte ∷ []))
  torn_sync (Stops Old) = torn_same gate 1 old
  torn_sync (Stops New) = torn_overwritten old gate (byte ∷ []) fits
  torn_sync (Stops (Byte b)) = torn_overwritten old gate (b ∷ []) fits
  torn_sync Fails = torn_overwritten old gate (byte ∷ []) fits

-- by the number of calls that passed
module _ (pages passed : ℕ) (how : Cut) where
  pub new_gate_before : passed < pages + 2 → new_gate pages how passed ≡ false
  new_gate_before lt = grind (arith, nat_tests)

  pub new_gate_write : passed ≡ pages + 2 → new_gate pages how passed ≡ gate_left how true false true
  new_gate_write is = grind (arith, nat_tests)

  pub new_gate_sync : passed ≡ pages + 3 → new_gate pages how passed ≡ gate_left how false false true
  new_gate_sync is = grind (arith, nat_tests)

  pub new_gate_after : pages + 4 ≤ passed → new_gate pages how passed ≡ true
  new_gate_after le = grind (arith, nat_tests)

  pub old_gate_before : passed < pages + 4 → old_gate pages how passed ≡ true
  old_gate_before lt = grind (arith, nat_tests)

  pub old_gate_write : passed ≡ pages + 4 → old_gate pages how passed ≡ gate_left how true true false
  old_gate_write is = grind (arith, nat_tests)

  pub old_gate_sync : passed ≡ pages + 5 → old_gate pages how passed ≡ gate_left how false true false
  old_gate_sync is = grind (arith, nat_tests)
