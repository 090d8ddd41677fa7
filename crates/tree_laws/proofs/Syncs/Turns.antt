-- The order of the looks of a process, and its row in a table.
use Rattle.std.proofs.Common.{◌≡◌, ℕ, ◌+◌, ◌*◌, ◌<◌, ◌==◌, Bool, true, false, ◌&&◌, refl, sym, ◌∙◌, inl, inr, arith}
use Rattle.std.proofs.lemmas.Bool.Decides.{nat_tests}
use Rattle.role_steps.proofs.of_plain_facts.Numbers.{equal}
use Rattle.role_steps.proofs.of_plain_facts.Tests.{true_false}
use Rattle.role_steps.specs.Looks.{LookRequest, is_look_before, is_same_look}
use Rattle.role_steps.specs.Views.{process_key}
use Rattle.role_steps.specs.declared.synchronizing.LastLook.{LastLook}
use Rattle.tree_laws.specs.Processes.{IsUpTo}

-- a look that is neither before the last one nor that one isn't up to it
pub later_look : (l : LookRequest) (last : LastLook) → is_look_before l last ≡ false → is_same_look l last ≡ false → IsUpTo (record { call = l.call; request = l.request; times = l.take }) (record { call = last.call; request = last.request; times = last.take }) → ⊥
later_look l last before same (inl low) = true_false (sym (grind (arith, nat_tests)) ∙ before)
later_look l last before same (inr (e, inl low)) = true_false (sym (grind (arith, nat_tests)) ∙ before)
later_look l last before same (inr (e, inr (g, low))) = over (l.take == last.take) refl
  where
    over : (b : Bool) → (l.take == last.take) ≡ b → ⊥
    over true k = true_false (sym (grind (arith, nat_tests)) ∙ same)
    over false k = true_false (sym (grind (arith, nat_tests)) ∙ before)

pub keys_differ : (a p b q : ℕ) → p < 256 → q < 256 → (a == b) && (p == q) ≡ false → (process_key a p == process_key b q) ≡ false
keys_differ a p b q small low e = over (process_key a p == process_key b q) refl
  where
    over : (x : Bool) → (process_key a p == process_key b q) ≡ x → x ≡ false
    over true k = absurd (true_false (sym (both (site_is (equal (process_key a p) (process_key b q) k)) (number_is (equal (process_key a p) (process_key b q) k))) ∙ e))
      where
        site_is : a * 256 + p ≡ b * 256 + q → a ≡ b
        site_is m = omega (arith, small, low, m)

        number_is : a * 256 + p ≡ b * 256 + q → p ≡ q
        number_is m = omega (arith, small, low, m)

        both : a ≡ b → p ≡ q → (a == b) && (p == q) ≡ true
        both m o = grind (arith, nat_tests)
    over false k = refl
