-- The names that a directory shows are components.
use Rattle.std.proofs.Common.{◌≡◌, ◌≤◌, ◌<◌, ℕ, ◌+◌, ◌-◌, ◌*◌, ◌/◌, ◌%◌, ◌==◌, Bool, true, false, cond, not, ◌&&◌, List, [], ◌∷◌, ◌++◌, filter, length, Option, None, Some, refl, sym, ◌∙◌, ap, append_assoc, subst, arith, ⊎_elim, codes}
use Rattle.std.proofs.lemmas.Bool.{cases_lt}
use Rattle.std.proofs.lemmas.Bool.Decides.{nat_tests}
use Rattle.std.proofs.lemmas.Fmt.{decimal_digit, decimal_step}
use Rattle.std.specs.Fmt.{decimal}
use Rattle.std.specs.List.{list_all}
use Rattle.std.specs.Prelude.{nat_le, nat_lt}
use Rattle.std.specs.Str.{bytes_eq}
use Rattle.role_steps.proofs.of_plain_facts.Tests.{and_true, both_true}
use Rattle.locus_ids.specs.Sizes.{inodes_max}
use Rattle.trace_book.specs.Names.{is_name, is_name_byte, plain_name}
use Rattle.dir_format.specs.Entries.{IsEntry, is_live}
use Rattle.dir_format.specs.Lookups.{is_shared, numbered_name, shown_name}
use Rattle.dir_format.specs.declared.entry.Entry.{Entry}
use Rattle.wire_fields.specs.Components as wire
use Rattle.wire_fields.specs.Parts.{components}
use Rattle.packet_laws.proofs.Fitting.Lists.{every_kept}
use Rattle.packet_laws.specs.Values.Values.{ShownFit}
use Rattle.packet_laws.proofs.Values.Components.{wire_fits}
use Rattle.packet_laws.proofs.Values.Fields.{every_some}

-- ---- names have no mark ----

last_of_four : (a b x d : Bool) → (a && b && x && d) ≡ true → d ≡ true
last_of_four a b x true h = refl
last_of_four true true true false h = absurd (cc)
last_of_four true true false false h = absurd (cc)
last_of_four true false x false h = absurd (cc)
last_of_four false b x false h = absurd (cc)

no_mark : (c : ℕ) → is_name_byte c ≡ true → (c == 64) ≡ false
no_mark c e = not_is (c == 64) (last_of_four (nat_le 33 c) (nat_le c 126) (not (c == 47)) (not (c == 64)) e)
  where
    not_is : (b : Bool) → not b ≡ true → b ≡ false
    not_is true k = absurd (cc)
    not_is false k = refl

plain_alone : (cs : List ℕ) → list_all is_name_byte cs ≡ true → (plain_name cs ≡ cs) × (wire.after_at cs ≡ None)
plain_alone [] e = (refl, refl)
plain_alone (c ∷ cs) e = over (c == 64) (no_mark c (both_true (is_name_byte c) (list_all is_name_byte cs) e).0) (plain_alone cs (both_true (is_name_byte c) (list_all is_name_byte cs) e).1)
  where
    over : (b : Bool) → b ≡ false → (plain_name cs ≡ cs) × (wire.after_at cs ≡ None) → (cond b [] (c ∷ plain_name cs) ≡ c ∷ cs) × (cond b (Some cs) (wire.after_at cs) ≡ None)
    over true q h = absurd (cc)
    over false q h = (ap (λ (xs : List ℕ). c ∷ xs) h.0, h.1)

plain_marked : (cs ds : List ℕ) → list_all is_name_byte cs ≡ true → (plain_name (cs ++ 64 ∷ ds) ≡ cs) × (wire.after_at (cs ++ 64 ∷ ds) ≡ Some ds)
plain_marked [] ds e = (refl, refl)
plain_marked (c ∷ cs) ds e = over (c == 64) (no_mark c (both_true (is_name_byte c) (list_all is_name_byte cs) e).0) (plain_marked cs ds (both_true (is_name_byte c) (list_all is_name_byte cs) e).1)
  where
    over : (b : Bool) → b ≡ false → (plain_name (cs ++ 64 ∷ ds) ≡ cs) × (wire.after_at (cs ++ 64 ∷ ds) ≡ Some ds) → (cond b [] (c ∷ plain_name (cs ++ 64 ∷ ds)) ≡ c ∷ cs) × (cond b (Some (cs ++ 64 ∷ ds)) (wire.after_at (cs ++ 64 ∷ ds)) ≡ Some ds)
    over true q h = absurd (cc)
    over false q h = (ap (λ (xs : List ℕ). c ∷ xs) h.0, h.1)

last_of_five : (a b x d y : Bool) → (a && (b && (x && (d && y)))) ≡ true → y ≡ true
last_of_five a b x d true h = refl
last_of_five true true true true false h = absurd (cc)
last_of_five true true true false false h = absurd (cc)
last_of_five true true false d false h = absurd (cc)
last_of_five true false x d false h = absurd (cc)
last_of_five false b x d false h = absurd (cc)

name_bytes : (name : List ℕ) → is_name name ≡ true → list_all is_name_byte name ≡ true
name_bytes name e = last_of_five (nat_lt 0 (length name)) (nat_le (length name) 60) (not (bytes_eq name (codes "."))) (not (bytes_eq name (codes ".."))) (list_all is_name_byte name) e

-- ---- digits ----

abbrev starts : List ℕ → Bool
starts [] = false
starts (c ∷ cs) = not (c == 48)

record Text (n : ℕ) (ds : List ℕ) : Type 0 where
  first : starts ds ≡ true
  digits : list_all wire.is_digit ds ≡ true
  value : wire.number_after 0 ds ≡ n

digit_is : (d : ℕ) → d < 10 → wire.is_digit (48 + d) ≡ true
digit_is d low = and_true (nat_le 48 (48 + d)) (nat_le (48 + d) 57) least most
  where
    least : nat_le 48 (48 + d) ≡ true
    least = grind (arith, nat_tests)

    most : nat_le (48 + d) 57 ≡ true
    most = grind (arith, nat_tests)

not_zero : (n : ℕ) → 1 ≤ n → not (48 + n == 48) ≡ true
not_zero n low = over (48 + n == 48) none
  where
    none : (48 + n == 48) ≡ false
    none = grind (arith, nat_tests)

    over : (b : Bool) → b ≡ false → not b ≡ true
    over true e = absurd (cc)
    over false e = refl

one_text : (n : ℕ) → 1 ≤ n → n < 10 → Text n (decimal n)
one_text n low high = subst (Text n) (sym (decimal_digit n high)) (record { first = not_zero n low; digits = and_true (wire.is_digit (48 + n)) true (digit_is n high) refl; value = omega arith })

starts_more : (ds : List ℕ) (x : ℕ) → starts ds ≡ true → starts (ds ++ x ∷ []) ≡ true
starts_more [] x e = absurd (cc)
starts_more (c ∷ cs) x e = e

digits_more : (ds : List ℕ) (x : ℕ) → list_all wire.is_digit ds ≡ true → wire.is_digit x ≡ true → list_all wire.is_digit (ds ++ x ∷ []) ≡ true
digits_more [] x e k = and_true (wire.is_digit x) true k refl
digits_more (c ∷ cs) x e k = let h : (wire.is_digit c ≡ true) × (list_all wire.is_digit cs ≡ true) = both_true (wire.is_digit c) (list_all wire.is_digit cs) e in and_true (wire.is_digit c) (list_all wire.is_digit (cs ++ x ∷ [])) h.0 (digits_more cs x h.1 k)

value_more : (n : ℕ) (ds : List ℕ) (x : ℕ) → wire.number_after n (ds ++ x ∷ []) ≡ 10 * wire.number_after n ds + (x - 48)
value_more n [] x = refl
value_more n (c ∷ cs) x = value_more (10 * n + (c - 48)) cs x

more_text : (n : ℕ) → 10 ≤ n → n < 10000 → Text (n / 10) (decimal (n / 10)) → Text n (decimal n)
more_text n low high h = subst (Text n) (sym (decimal_step n low (omega (arith, high)))) (record {
  first = starts_more (decimal (n / 10)) (48 + n % 10) h.first;
  digits = digits_more (decimal (n / 10)) (48 + n % 10) h.digits (digit_is (n % 10) (omega arith));
  value = value_more 0 (decimal (n / 10)) (48 + n % 10) ∙ (ap (λ (m : ℕ). 10 * m + (48 + n % 10 - 48)) h.value ∙ whole n);
})
  where
    whole : (n : ℕ) → 10 * (n / 10) + (48 + n % 10 - 48) ≡ n
    whole n = omega arith

two_text : (n : ℕ) → 1 ≤ n → n < 100 → Text n (decimal n)
two_text n low high = ⊎_elim (λ (l : n < 10). one_text n low l) (λ (g : 10 ≤ n). more_text n g (omega (arith, high)) (one_text (n / 10) (omega (arith, g)) (omega (arith, high)))) (cases_lt n 10)

three_text : (n : ℕ) → 1 ≤ n → n < 1000 → Text n (decimal n)
three_text n low high = ⊎_elim (λ (l : n < 10). one_text n low l) (λ (g : 10 ≤ n). more_text n g (omega (arith, high)) (two_text (n / 10) (omega (arith, g)) (omega (arith, high)))) (cases_lt n 10)

four_text : (n : ℕ) → 1 ≤ n → n < 10000 → Text n (decimal n)
four_text n low high = ⊎_elim (λ (l : n < 10). one_text n low l) (λ (g : 10 ≤ n). more_text n g high (three_text (n / 10) (omega (arith, g)) (omega (arith, high)))) (cases_lt n 10)

inode_text : (n : ℕ) (ds : List ℕ) → n ≤ inodes_max → Text n ds → wire.is_inode_text ds ≡ true
inode_text n [] le h = absurd (never h.first)
  where
    never : false ≡ true → ⊥
    never e = cc
inode_text n (c ∷ cs) le h = and_true (not (c == 48)) _ h.first (and_true (list_all wire.is_digit (c ∷ cs)) _ h.digits (subst (λ (m : ℕ). nat_le m inodes_max ≡ true) (sym h.value) low))
  where
    low : nat_le n inodes_max ≡ true
    low = grind (arith, nat_tests)

-- ---- what is shown ----

plain_component : (name : List ℕ) → is_name name ≡ true → wire.is_component name ≡ true
plain_component name e =
    let k : (plain_name name ≡ name) × (wire.after_at name ≡ None) = plain_alone name (name_bytes name e) in
    and_true (is_name (plain_name name)) (wire.is_suffix (wire.after_at name)) (subst (λ (x : List ℕ). is_name x ≡ true) (sym k.0) e) (subst (λ (o : Option (List ℕ)). wire.is_suffix o ≡ true) (sym k.1) refl)

marked_component : (name ds : List ℕ) → is_name name ≡ true → wire.is_inode_text ds ≡ true → wire.is_component (name ++ 64 ∷ ds) ≡ true
marked_component name ds e t =
    let k : (plain_name (name ++ 64 ∷ ds) ≡ name) × (wire.after_at (name ++ 64 ∷ ds) ≡ Some ds) = plain_marked name ds (name_bytes name e) in
    and_true (is_name (plain_name (name ++ 64 ∷ ds))) (wire.is_suffix (wire.after_at (name ++ 64 ∷ ds))) (subst (λ (x : List ℕ). is_name x ≡ true) (sym k.0) e) (subst (λ (o : Option (List ℕ)). wire.is_suffix o ≡ true) (sym k.1) t)

shown_fits : (d : Entry) (shared : Bool) → IsEntry d → components.Fits (shown_name d shared)
shown_fits d true h = wire_fits (numbered_name d) (subst (λ (x : List ℕ). wire.is_component x ≡ true) (sym (append_assoc d.name (64 ∷ []) (decimal d.ino))) (marked_component d.name (decimal d.ino) h.name (inode_text d.ino (decimal d.ino) h.ino.1 (four_text d.ino h.ino.0 (below d.ino h.ino.1)))))
  where
    below : (n : ℕ) → n ≤ inodes_max → n < 10000
    below n le = omega (arith, le)
shown_fits d false h = wire_fits d.name (plain_component d.name h.name)

pub shown_fit : ShownFit
shown_fit ds h = every_some IsEntry components.Fits (λ (d : Entry). shown_name d (is_shared ds d.name)) (filter is_live ds) (λ d k. shown_fits d (is_shared ds d.name) k) (every_kept IsEntry is_live ds h)
