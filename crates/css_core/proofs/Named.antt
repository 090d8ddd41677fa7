-- A row of the table of opens is found by the key of its instance exactly where a row has that instance.
use Rattle.std.proofs.Common.{◌≡◌, ℕ, ◌<◌, Bool, true, false, ◌||◌, List, [], ◌∷◌, Option, Some, None, refl, ap, ◌∙◌, sym, subst, nat_eq, arith}
use Rattle.std.specs.List.{list_any}
use Rattle.std.proofs.lemmas.Bool.Decides.{nat_tests}
use Rattle.role_steps.proofs.of_plain_facts.Numbers.{same as key_is}
use Rattle.role_steps.proofs.of_plain_facts.Tests.{or_second}
use Rattle.locus_ids.specs.declared.ids.Serial.{Serial}
use Rattle.trace_book.specs.Same.{same_serial}
use Rattle.role_steps.specs.Tables.{row}
use Rattle.role_steps.specs.Views.{serial_key}
use Rattle.role_steps.specs.Opens.{open_key}
use Rattle.role_steps.specs.declared.synchronizing.OpenRow.{OpenRow}

abbrev pub is_named : Serial → OpenRow → Bool
is_named inst r = same_serial r.inst inst

key_other : (a b : Serial) → nat_eq (serial_key a) (serial_key b) ≡ false → same_serial a b ≡ false
key_other a b e = grind (arith, nat_tests)

pub none_named : (inst : Serial) (rows : List OpenRow) → row open_key (serial_key inst) rows ≡ None → list_any (is_named inst) rows ≡ false
none_named inst [] e = refl
none_named inst (x ∷ xs) e = elim (nat_eq (open_key x) (serial_key inst)) as (λ b. nat_eq (open_key x) (serial_key inst) ≡ b → ◌≡◌ {A = Option OpenRow} (elim b [ true ↦ Some x | false ↦ row open_key (serial_key inst) xs ]) None → list_any (is_named inst) (x ∷ xs) ≡ false) [
  | true ↦ λ t f. absurd (cc)
  | false ↦ λ t f. ap (λ b. b || list_any (is_named inst) xs) (key_other x.inst inst t) ∙ none_named inst xs f
] refl e

-- a row that is found has the key
pub found_key : (k : ℕ) (rows : List OpenRow) (r : OpenRow) → row open_key k rows ≡ Some r → open_key r ≡ k
found_key k [] r e = absurd (cc)
found_key k (x ∷ xs) r e = elim (nat_eq (open_key x) k) as (λ b. nat_eq (open_key x) k ≡ b → ◌≡◌ {A = Option OpenRow} (elim b [ true ↦ Some x | false ↦ row open_key k xs ]) (Some r) → open_key r ≡ k) [
  | true ↦ λ t f. (let same : r ≡ x = cc in ap open_key same ∙ key_is (open_key x) k t)
  | false ↦ λ t f. found_key k xs r f
] refl e

pub some_named : (inst : Serial) (rows : List OpenRow) (r : OpenRow) → same_serial r.inst inst ≡ true → row open_key (serial_key inst) rows ≡ Some r → list_any (is_named inst) rows ≡ true
some_named inst [] r n e = absurd (cc)
some_named inst (x ∷ xs) r n e = elim (nat_eq (open_key x) (serial_key inst)) as (λ b. ◌≡◌ {A = Option OpenRow} (elim b [ true ↦ Some x | false ↦ row open_key (serial_key inst) xs ]) (Some r) → list_any (is_named inst) (x ∷ xs) ≡ true) [
  | true ↦ λ f. (let same : r ≡ x = cc in ap (λ b. b || list_any (is_named inst) xs) (subst (λ (z : OpenRow). same_serial z.inst inst ≡ true) same n))
  | false ↦ λ f. or_second (is_named inst x) (list_any (is_named inst) xs) (some_named inst xs r n f)
] e
