-- Names that test as the same are the same.
use Rattle.std.proofs.Common.{◌≡◌, ℕ, ◌==◌, Bool, true, false, Option, Some, refl, arith, ◌⊎◌, inl, inr}
use Rattle.std.proofs.lemmas.Bool.Decides.{nat_tests}
use Rattle.locus_ids.specs.declared.ids.CallId.{CallId}
use Rattle.locus_ids.specs.declared.ids.EpochId.{EpochId}
use Rattle.locus_ids.specs.declared.ids.Serial.{Serial}
use Rattle.trace_book.specs.Same.{same_call, same_epoch, same_serial}

pub true_or_false : (b : Bool) → (b ≡ true) ⊎ (b ≡ false)
true_or_false true = inl refl
true_or_false false = inr refl

pub same_call_eq : (a b : CallId) → same_call a b ≡ true → a ≡ b
same_call_eq a b h = id_eq (grind (arith, nat_tests)) (grind (arith, nat_tests)) (grind (arith, nat_tests))
  where
    id_eq : a.site ≡ b.site → a.boot ≡ b.boot → a.n ≡ b.n → a ≡ b
    id_eq e f g = λ i. record { site = e i; boot = f i; n = g i }

pub same_call_own : (a : CallId) → same_call a a ≡ true
same_call_own a = grind (arith, nat_tests)

pub same_epoch_eq : (a b : EpochId) → same_epoch a b ≡ true → a ≡ b
same_epoch_eq a b h = id_eq (grind (arith, nat_tests)) (grind (arith, nat_tests)) (grind (arith, nat_tests))
  where
    id_eq : a.number ≡ b.number → a.site ≡ b.site → a.boot ≡ b.boot → a ≡ b
    id_eq e f g = λ i. record { number = e i; site = f i; boot = g i }

pub same_epoch_own : (a : EpochId) → same_epoch a a ≡ true
same_epoch_own a = grind (arith, nat_tests)

pub same_serial_eq : (a b : Serial) → same_serial a b ≡ true → a ≡ b
same_serial_eq a b h = id_eq (grind (arith, nat_tests)) (grind (arith, nat_tests))
  where
    id_eq : a.us ≡ b.us → a.serial ≡ b.serial → a ≡ b
    id_eq e f = λ i. record { us = e i; serial = f i }

pub same_serial_own : (a : Serial) → same_serial a a ≡ true
same_serial_own a = grind (arith, nat_tests)
