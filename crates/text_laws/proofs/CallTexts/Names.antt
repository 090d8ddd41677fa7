-- Components: what the rules of calls take for one is one that a record may say, and so is each plain name.
use Rattle.std.proofs.Common.{◌≡◌, ◌-◌, ◌*◌, ◌+◌, ℕ, ◌==◌, Bool, true, false, cond, not, ◌&&◌, List, [], ◌∷◌, codes, length, Option, None, Some, refl, sym, ap, subst}
use Rattle.std.specs.List.{list_all}
use Rattle.std.specs.Prelude.{nat_le, nat_lt}
use Rattle.std.specs.Str.{bytes_eq}
use Rattle.plain_facts.proofs.Tests.{and_true, both_true, false_true, not_true}
use Rattle.locus_ids.specs.Sizes.{inodes_max}
use Rattle.trace_book.specs.Names.{is_name, is_name_byte, plain_name}
use Rattle.call_rules.specs.Paths as rules
use Rattle.wire_fields.specs.Components as wire

after_same : (cs : List ℕ) → rules.after_at cs ≡ wire.after_at cs
after_same [] = refl
after_same (c ∷ cs) = ap (λ (o : Option (List ℕ)). cond (c == 64) (Some cs) o) (after_same cs)

number_same : (n : ℕ) (cs : List ℕ) → rules.number_after n cs ≡ wire.number_after n cs
number_same n [] = refl
number_same n (c ∷ cs) = number_same (10 * n + (c - 48)) cs

text_same : (cs : List ℕ) → rules.is_inode_text cs ≡ true → wire.is_inode_text cs ≡ true
text_same [] e = e
text_same (c ∷ cs) e = subst (λ (n : ℕ). (not (c == 48) && (list_all wire.is_digit (c ∷ cs) && nat_le n inodes_max)) ≡ true) (number_same 0 (c ∷ cs)) e

suffix_same : (o : Option (List ℕ)) → rules.is_suffix o ≡ true → wire.is_suffix o ≡ true
suffix_same None e = refl
suffix_same (Some cs) e = text_same cs e

-- a component of a path is one of a record
pub component_text : (c : List ℕ) → rules.is_component c ≡ true → wire.is_component c ≡ true
component_text c e =
    let k : (is_name (plain_name c) ≡ true) × (rules.is_suffix (rules.after_at c) ≡ true) = both_true (is_name (plain_name c)) (rules.is_suffix (rules.after_at c)) e in
    and_true (is_name (plain_name c)) (wire.is_suffix (wire.after_at c)) k.0 (suffix_same (wire.after_at c) (subst (λ (o : Option (List ℕ)). rules.is_suffix o ≡ true) (after_same c) k.1))

-- what stands before its mark is a plain name
pub plain_text : (c : List ℕ) → wire.is_component c ≡ true → is_name (plain_name c) ≡ true
plain_text c e = (both_true (is_name (plain_name c)) (wire.is_suffix (wire.after_at c)) e).0

-- ---- names have no mark ----

last_of_four : (a b x d : Bool) → (a && b && x && d) ≡ true → d ≡ true
last_of_four a b x true h = refl
last_of_four true true true false h = absurd (false_true h)
last_of_four true true false false h = absurd (false_true h)
last_of_four true false x false h = absurd (false_true h)
last_of_four false b x false h = absurd (false_true h)

no_mark : (c : ℕ) → is_name_byte c ≡ true → (c == 64) ≡ false
no_mark c e = not_true (c == 64) (last_of_four (nat_le 33 c) (nat_le c 126) (not (c == 47)) (not (c == 64)) e)

plain_alone : (cs : List ℕ) → list_all is_name_byte cs ≡ true → (plain_name cs ≡ cs) × (wire.after_at cs ≡ None)
plain_alone [] e = (refl, refl)
plain_alone (c ∷ cs) e = over (c == 64) (no_mark c (both_true (is_name_byte c) (list_all is_name_byte cs) e).0) (plain_alone cs (both_true (is_name_byte c) (list_all is_name_byte cs) e).1)
  where
    over : (b : Bool) → b ≡ false → (plain_name cs ≡ cs) × (wire.after_at cs ≡ None) → (cond b [] (c ∷ plain_name cs) ≡ c ∷ cs) × (cond b (Some cs) (wire.after_at cs) ≡ None)
    over true q h = absurd (false_true (sym q))
    over false q h = (ap (λ (xs : List ℕ). c ∷ xs) h.0, h.1)

last_of_five : (a b x d y : Bool) → (a && (b && (x && (d && y)))) ≡ true → y ≡ true
last_of_five a b x d true h = refl
last_of_five true true true true false h = absurd (false_true h)
last_of_five true true true false false h = absurd (false_true h)
last_of_five true true false d false h = absurd (false_true h)
last_of_five true false x d false h = absurd (false_true h)
last_of_five false b x d false h = absurd (false_true h)

name_bytes : (name : List ℕ) → is_name name ≡ true → list_all is_name_byte name ≡ true
name_bytes name e = last_of_five (nat_lt 0 (length name)) (nat_le (length name) 60) (not (bytes_eq name (codes "."))) (not (bytes_eq name (codes ".."))) (list_all is_name_byte name) e

-- a plain name is a component
pub name_text : (name : List ℕ) → is_name name ≡ true → wire.is_component name ≡ true
name_text name e =
    let k : (plain_name name ≡ name) × (wire.after_at name ≡ None) = plain_alone name (name_bytes name e) in
    and_true (is_name (plain_name name)) (wire.is_suffix (wire.after_at name)) (subst (λ (x : List ℕ). is_name x ≡ true) (sym k.0) e) (subst (λ (o : Option (List ℕ)). wire.is_suffix o ≡ true) (sym k.1) refl)
