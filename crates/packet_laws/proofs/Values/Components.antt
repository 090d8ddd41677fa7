-- Components of paths: what the rules of calls take for one is one of the format, and so is each name that a directory shows.
use Rattle.std.proofs.Common.{◌≡◌, ◌≤◌, ℕ, ◌+◌, ◌-◌, ◌*◌, ◌==◌, Bool, true, false, cond, not, ◌&&◌, List, [], ◌∷◌, length, Option, None, Some, refl, sym, ap, subst, arith}
use Rattle.std.proofs.lemmas.Bool.Decides.{nat_tests}
use Rattle.std.specs.List.{list_all}
use Rattle.std.specs.Prelude.{codes, nat_le, nat_lt}
use Rattle.std.specs.Str.{bytes_eq}
use Rattle.role_steps.proofs.of_plain_facts.Tests.{and_true, both_true}
use Rattle.locus_ids.specs.Sizes.{inodes_max}
use Rattle.trace_book.specs.Names.{is_name, is_name_byte, plain_name}
use Rattle.call_rules.specs.Paths as rules
use Rattle.wire_fields.specs.Components as wire
use Rattle.wire_fields.specs.Parts.{components, names}
use Rattle.wire_fields.proofs.Members.{in_range}

after_same : (cs : List ℕ) → rules.after_at cs ≡ wire.after_at cs
after_same [] = refl
after_same (c ∷ cs) = ap (λ (o : Option (List ℕ)). cond (c == 64) (Some cs) o) (after_same cs)

number_same : (n : ℕ) (cs : List ℕ) → rules.number_after n cs ≡ wire.number_after n cs
number_same n [] = refl
number_same n (c ∷ cs) = number_same (10 * n + (c - 48)) cs

text_same : (cs : List ℕ) → rules.is_inode_text cs ≡ true → wire.is_inode_text cs ≡ true
text_same [] e = e
text_same (c ∷ cs) e = subst (λ (n : ℕ). (not (c == 48) && (list_all wire.is_digit (c ∷ cs) && nat_le n inodes_max)) ≡ true) (number_same 0 (c ∷ cs)) e

suffix_same : (o : Option (List ℕ)) → rules.is_suffix o ≡ true → wire.is_suffix o ≡ true
suffix_same None e = refl
suffix_same (Some cs) e = text_same cs e

-- ---- lengths ----

rises : (n : ℕ) (cs : List ℕ) → n ≤ wire.number_after n cs
rises n [] = omega arith
rises n (c ∷ cs) = let h : 10 * n + (c - 48) ≤ wire.number_after (10 * n + (c - 48)) cs = rises (10 * n + (c - 48)) cs in omega (arith, h)

few_more : (n : ℕ) (cs : List ℕ) → 1 ≤ n → wire.number_after n cs ≤ inodes_max → length cs ≤ 3
few_more n [] low most = omega arith
few_more n (a ∷ []) low most = omega arith
few_more n (a ∷ b ∷ []) low most = omega arith
few_more n (a ∷ b ∷ d ∷ []) low most = omega arith
few_more n (a ∷ b ∷ d ∷ e ∷ rest) low most =
    let m : ℕ = 10 * (10 * (10 * (10 * n + (a - 48)) + (b - 48)) + (d - 48)) + (e - 48) in
    let h : m ≤ wire.number_after m rest = rises m rest in
    absurd (omega (arith, h, low, most))

first_digit : (c : ℕ) → not (c == 48) ≡ true → (nat_le 48 c && nat_le c 57) ≡ true → 1 ≤ 10 * 0 + (c - 48)
first_digit c e d = grind (arith, nat_tests)

few_digits : (cs : List ℕ) → wire.is_inode_text cs ≡ true → length cs ≤ 4
few_digits [] e = omega arith
few_digits (c ∷ cs) e =
    let k : (not (c == 48) ≡ true) × _ = both_true (not (c == 48)) _ e in
    let d : (list_all wire.is_digit (c ∷ cs) ≡ true) × (nat_le (wire.number_after 0 (c ∷ cs)) inodes_max ≡ true) = both_true (list_all wire.is_digit (c ∷ cs)) _ k.1 in
    let low : 1 ≤ 10 * 0 + (c - 48) = first_digit c k.0 (both_true (nat_le 48 c && nat_le c 57) _ d.0).0 in
    let h : length cs ≤ 3 = few_more (10 * 0 + (c - 48)) cs low (most (wire.number_after 0 (c ∷ cs)) d.1) in
    omega (arith, h)
  where
    most : (n : ℕ) → nat_le n inodes_max ≡ true → n ≤ inodes_max
    most n e = grind (arith, nat_tests)

-- how long what stands behind the name is, with its mark
abbrev suffix_length : Option (List ℕ) → ℕ
suffix_length None = 0
suffix_length (Some ds) = 1 + length ds

parts_long : (cs : List ℕ) → length cs ≡ length (plain_name cs) + suffix_length (wire.after_at cs)
parts_long [] = omega arith
parts_long (c ∷ cs) = over (c == 64) (parts_long cs)
  where
    over : (b : Bool) → length cs ≡ length (plain_name cs) + suffix_length (wire.after_at cs) → length (c ∷ cs) ≡ length (cond b [] (c ∷ plain_name cs)) + suffix_length (cond b (Some cs) (wire.after_at cs))
    over true e = omega arith
    over false e = omega (arith, e)

suffix_short : (o : Option (List ℕ)) → wire.is_suffix o ≡ true → suffix_length o ≤ 5
suffix_short None e = omega arith
suffix_short (Some ds) e = let h : length ds ≤ 4 = few_digits ds e in omega (arith, h)

name_lengths : (name : List ℕ) → is_name name ≡ true → (1 ≤ length name) × (length name ≤ 60)
name_lengths name e = let k : (nat_lt 0 (length name) ≡ true) × _ = both_true (nat_lt 0 (length name)) _ e in let d : (nat_le (length name) 60 ≡ true) × _ = both_true (nat_le (length name) 60) _ k.1 in (some (length name) k.0, most (length name) d.0)
  where
    some : (n : ℕ) → nat_lt 0 n ≡ true → 1 ≤ n
    some n e = grind (arith, nat_tests)

    most : (n : ℕ) → nat_le n 60 ≡ true → n ≤ 60
    most n e = grind (arith, nat_tests)

-- ---- of the format ----

pub name_fits : (name : List ℕ) → is_name name ≡ true → names.Fits name
name_fits name e = let k : (1 ≤ length name) × (length name ≤ 60) = name_lengths name e in (e, (in_range 1 60 (length name) k.0 k.1, omega (arith, k.1)))

pub wire_fits : (c : List ℕ) → wire.is_component c ≡ true → components.Fits c
wire_fits c e =
    let k : (is_name (plain_name c) ≡ true) × (wire.is_suffix (wire.after_at c) ≡ true) = both_true (is_name (plain_name c)) (wire.is_suffix (wire.after_at c)) e in
    let n : (1 ≤ length (plain_name c)) × (length (plain_name c) ≤ 60) = name_lengths (plain_name c) k.0 in
    let s : suffix_length (wire.after_at c) ≤ 5 = suffix_short (wire.after_at c) k.1 in
    let l : length c ≡ length (plain_name c) + suffix_length (wire.after_at c) = parts_long c in
    (e, (in_range 1 65 (length c) (omega (arith, l, n.0)) (omega (arith, l, n.1, s)), omega (arith, l, n.1, s)))

pub component_fits : (c : List ℕ) → rules.is_component c ≡ true → components.Fits c
component_fits c e =
    let k : (is_name (plain_name c) ≡ true) × (rules.is_suffix (rules.after_at c) ≡ true) = both_true (is_name (plain_name c)) (rules.is_suffix (rules.after_at c)) e in
    wire_fits c (and_true (is_name (plain_name c)) (wire.is_suffix (wire.after_at c)) k.0 (suffix_same (wire.after_at c) (subst (λ (o : Option (List ℕ)). rules.is_suffix o ≡ true) (after_same c) k.1)))

-- a name is a component of itself
no_suffix : (cs : List ℕ) → list_all is_name_byte cs ≡ true → (plain_name cs ≡ cs) × (rules.after_at cs ≡ None)
no_suffix [] e = (refl, refl)
no_suffix (c ∷ cs) e =
    let k : (is_name_byte c ≡ true) × (list_all is_name_byte cs ≡ true) = both_true (is_name_byte c) (list_all is_name_byte cs) e in
    let r : (plain_name cs ≡ cs) × (rules.after_at cs ≡ None) = no_suffix cs k.1 in
    let t : (c == 64) ≡ false = other c k.0 in
    (rw t (ap (λ (l : List ℕ). c ∷ l) r.0), rw t r.1)
  where
    other : (c : ℕ) → is_name_byte c ≡ true → (c == 64) ≡ false
    other c e = grind (arith, nat_tests)

pub bare_fits : (name : List ℕ) → is_name name ≡ true → components.Fits name
bare_fits name e =
    let k : (plain_name name ≡ name) × (rules.after_at name ≡ None) = no_suffix name (bytes name e) in
    component_fits name (and_true (is_name (plain_name name)) (rules.is_suffix (rules.after_at name)) (subst (λ (l : List ℕ). is_name l ≡ true) (sym k.0) e) (subst (λ (o : Option (List ℕ)). rules.is_suffix o ≡ true) (sym k.1) refl))
  where
    bytes : (name : List ℕ) → is_name name ≡ true → list_all is_name_byte name ≡ true
    bytes name e =
        let a = both_true (nat_lt 0 (length name)) _ e in
        let b = both_true (nat_le (length name) 60) _ a.1 in
        let d = both_true (not (bytes_eq name (codes "."))) _ b.1 in
        (both_true (not (bytes_eq name (codes ".."))) (list_all is_name_byte name) d.1).1

pub plain_fits : (c : List ℕ) → components.Fits c → names.Fits (plain_name c)
plain_fits c h = name_fits (plain_name c) (both_true (is_name (plain_name c)) (wire.is_suffix (wire.after_at c)) h.0).0
