-- Names that test as the same are the same, and each is the same as itself.
use Rattle.std.proofs.Common.{◌≡◌, ℕ, ◌==◌, Bool, true, false, ◌&&◌, Option, Some, None, refl, sym, ◌⊎◌, inl, inr, arith}
use Rattle.std.proofs.lemmas.Bool.Decides.{nat_tests}
use Rattle.locus_ids.specs.declared.ids.CallId.{CallId}
use Rattle.locus_ids.specs.declared.ids.EpochId.{EpochId}
use Rattle.locus_ids.specs.declared.ids.FileId.{FileId}
use Rattle.locus_ids.specs.declared.ids.Serial.{Serial}
use Rattle.locus_ids.specs.declared.ids.Stamp.{Stamp}
use Rattle.commit_graph.specs.Versions.{same_file, same_stamp}
use Rattle.trace_book.specs.Same.{same_call, same_epoch, same_serial}

-- Truth values.

pub true_or_false : (b : Bool) → (b ≡ true) ⊎ (b ≡ false)
true_or_false true = inl refl
true_or_false false = inr refl

pub false_true : {A : Type 0} → false ≡ true → A
false_true e = absurd (cc)

-- two tests of which each says the other have one value
pub same_value : (a b : Bool) → (a ≡ true → b ≡ true) → (b ≡ true → a ≡ true) → a ≡ b
same_value true b f g = sym (f refl)
same_value false true f g = g refl
same_value false false f g = refl

pub both : (a b : Bool) → a ≡ true → b ≡ true → (a && b) ≡ true
both true b e f = f
both false b e f = e

pub both_parts : (a b : Bool) → (a && b) ≡ true → (a ≡ true) × (b ≡ true)
both_parts true b h = (refl, h)
both_parts false b h = (h, false_true h)

-- Options.

pub none_some : {X A : Type 0} (x : X) → ◌≡◌ {A = Option X} None (Some x) → A
none_some x e = absurd (cc)

pub some_same : {X : Type 0} (x y : X) → ◌≡◌ {A = Option X} (Some x) (Some y) → x ≡ y
some_same x y e = cc

-- Names.

pub number_eq : (a b : ℕ) → (a == b) ≡ true → a ≡ b
number_eq a b h = grind (arith, nat_tests)

pub number_own : (a : ℕ) → (a == a) ≡ true
number_own a = grind (arith, nat_tests)

pub number_apart : (a b : ℕ) → (a == b) ≡ false → a ≡ b → ⊥
number_apart a b h e = grind (arith, nat_tests)

pub call_eq : (a b : CallId) → same_call a b ≡ true → a ≡ b
call_eq a b h = id_eq (grind (arith, nat_tests)) (grind (arith, nat_tests)) (grind (arith, nat_tests))
  where
    id_eq : a.site ≡ b.site → a.boot ≡ b.boot → a.n ≡ b.n → a ≡ b
    id_eq e f g = λ i. record { site = e i; boot = f i; n = g i }

pub call_own : (a : CallId) → same_call a a ≡ true
call_own a = grind (arith, nat_tests)

pub call_test : (a b : CallId) → a ≡ b → same_call a b ≡ true
call_test a b e = grind (arith, nat_tests)

pub call_turned : (a b : CallId) → same_call a b ≡ same_call b a
call_turned a b = same_value (same_call a b) (same_call b a) (λ h. call_test b a (sym (call_eq a b h))) (λ h. call_test a b (sym (call_eq b a h)))

pub epoch_eq : (a b : EpochId) → same_epoch a b ≡ true → a ≡ b
epoch_eq a b h = id_eq (grind (arith, nat_tests)) (grind (arith, nat_tests)) (grind (arith, nat_tests))
  where
    id_eq : a.number ≡ b.number → a.site ≡ b.site → a.boot ≡ b.boot → a ≡ b
    id_eq e f g = λ i. record { number = e i; site = f i; boot = g i }

pub epoch_own : (a : EpochId) → same_epoch a a ≡ true
epoch_own a = grind (arith, nat_tests)

pub epoch_test : (a b : EpochId) → a ≡ b → same_epoch a b ≡ true
epoch_test a b e = grind (arith, nat_tests)

pub epoch_turned : (a b : EpochId) → same_epoch a b ≡ same_epoch b a
epoch_turned a b = same_value (same_epoch a b) (same_epoch b a) (λ h. epoch_test b a (sym (epoch_eq a b h))) (λ h. epoch_test a b (sym (epoch_eq b a h)))

pub serial_eq : (a b : Serial) → same_serial a b ≡ true → a ≡ b
serial_eq a b h = id_eq (grind (arith, nat_tests)) (grind (arith, nat_tests))
  where
    id_eq : a.us ≡ b.us → a.serial ≡ b.serial → a ≡ b
    id_eq e f = λ i. record { us = e i; serial = f i }

pub serial_own : (a : Serial) → same_serial a a ≡ true
serial_own a = grind (arith, nat_tests)

pub serial_test : (a b : Serial) → a ≡ b → same_serial a b ≡ true
serial_test a b e = grind (arith, nat_tests)

pub file_eq : (a b : FileId) → same_file a b ≡ true → a ≡ b
file_eq a b h = id_eq (grind (arith, nat_tests)) (grind (arith, nat_tests))
  where
    id_eq : a.group ≡ b.group → a.ino ≡ b.ino → a ≡ b
    id_eq e f = λ i. record { group = e i; ino = f i }

pub file_own : (a : FileId) → same_file a a ≡ true
file_own a = grind (arith, nat_tests)

pub file_test : (a b : FileId) → a ≡ b → same_file a b ≡ true
file_test a b e = grind (arith, nat_tests)

pub file_turned : (a b : FileId) → same_file a b ≡ same_file b a
file_turned a b = same_value (same_file a b) (same_file b a) (λ h. file_test b a (sym (file_eq a b h))) (λ h. file_test a b (sym (file_eq b a h)))

pub stamp_eq : (a b : Stamp) → same_stamp a b ≡ true → a ≡ b
stamp_eq a b h = id_eq (grind (arith, nat_tests)) (grind (arith, nat_tests))
  where
    id_eq : a.site ≡ b.site → a.n ≡ b.n → a ≡ b
    id_eq e f = λ i. record { site = e i; n = f i }

pub stamp_own : (a : Stamp) → same_stamp a a ≡ true
stamp_own a = grind (arith, nat_tests)
