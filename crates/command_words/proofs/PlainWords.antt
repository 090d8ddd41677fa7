-- The words of a command are plain, and which lists of words are none.
use Rattle.std.proofs.Common.{◌≡◌, ◌≤◌, ◌<◌, ◌^◌, ◌⊎◌, ◌==◌, ℕ, zero, suc, true, not, List, [], ◌∷◌, get_or, length, codes, refl, sym, subst, arith, ⊎_elim}
use Rattle.std.specs.Char.{encode_utf8}
use Rattle.std.specs.Fmt.{decimal}
use Rattle.std.specs.List.{All}
use Rattle.std.specs.Str.Parse.{AllDigits, digits_value}
use Rattle.std.proofs.lemmas.Bool.Decides.{nat_tests}
use Rattle.std.proofs.lemmas.Fmt.{IsAscii-decimal, decimal_injective, decimal_nonempty, digits_decimal}
use Rattle.std.proofs.lemmas.List.Elements.{All-nil}
use Rattle.std.proofs.lemmas.Str.{IsUtf8-from_ascii}
use Rattle.std.proofs.lemmas.Str.Parse.{IsNumeralModel, not_in_digits, numerals_by_value, tells_digits}
use Rattle.command_words.specs.declared.command.Command.{Command}
use Rattle.command_words.specs.declared.command.Command.TheVariants.{Audit, Make, Run, Tree}
use Rattle.given_words.specs.Plain.{IsPlain, begins_plainly}
use Rattle.command_words.specs.Words.{IsCommand}

own : IsNumeralModel (AllDigits 10) (digits_value 10)
own = numerals_by_value (AllDigits 10) tells_digits

other_than : (c k : ℕ) → (c ≡ k → ⊥) → not (c == k) ≡ true
other_than c k h = grind (arith, nat_tests)

begins_so : (w : List ℕ) → 0 < length w → (get_or w 0 0 ≡ 45 → ⊥) → begins_plainly w ≡ true
begins_so [] some h = absurd (omega arith)
begins_so (c ∷ cs) some h = other_than c 45 h

decimal_plain : (n : ℕ) → n < 2 ^ 64 → IsPlain (decimal n)
decimal_plain n small =
    let some = decimal_nonempty n small in (
      IsUtf8-from_ascii (decimal n) (IsAscii-decimal n small),
      begins_so (decimal n) some (λ e. not_in_digits own (decimal n) 45 (digits_decimal own n small) (λ r. omega arith) 0 some e),
    )

run_plain : IsPlain (codes "run")
unfolding encode_utf8
run_plain = ((codes "run", (refl, refl)), refl)

tree_plain : IsPlain (codes "tree")
unfolding encode_utf8
tree_plain = ((codes "tree", (refl, refl)), refl)

audit_plain : IsPlain (codes "audit")
unfolding encode_utf8
audit_plain = ((codes "audit", (refl, refl)), refl)

make_plain : IsPlain (codes "make")
unfolding encode_utf8
make_plain = ((codes "make", (refl, refl)), refl)

one_more : (w : List ℕ) (ws : List (List ℕ)) → IsPlain w → All IsPlain ws → All IsPlain (w ∷ ws)
one_more w ws p h zero d lt = p
one_more w ws p h (suc k) d lt = h k d (omega arith)

-- the words of a command are plain
pub command_plain : (words : List (List ℕ)) (c : Command) → IsCommand words c → All IsPlain words
command_plain words Run e = subst (All IsPlain) (sym e) (one_more (codes "run") [] run_plain (All-nil IsPlain))
command_plain words Tree e = subst (All IsPlain) (sym e) (one_more (codes "tree") [] tree_plain (All-nil IsPlain))
command_plain words Audit e = subst (All IsPlain) (sym e) (one_more (codes "audit") [] audit_plain (All-nil IsPlain))
command_plain words (Make n m) h =
    let small : m < 2 ^ 64 = omega (arith, h.3) in
    subst (All IsPlain) (sym h.0) (one_more (codes "make") (decimal n ∷ decimal m ∷ []) make_plain
    (one_more (decimal n) (decimal m ∷ []) (decimal_plain n h.1) (one_more (decimal m) [] (decimal_plain m small) (All-nil IsPlain))))

-- a number of events that isn't 1 to 2,000
pub out_of_range : (a b : List ℕ) (count : ℕ) → count < 2 ^ 64 → b ≡ decimal count → (count < 1) ⊎ ((1 ≤ count) × (2000 < count))
    → (c : Command) → IsCommand (codes "make" ∷ a ∷ b ∷ []) c → ⊥
out_of_range a b count small e out Run h = cc
out_of_range a b count small e out Tree h = cc
out_of_range a b count small e out Audit h = cc
out_of_range a b count small e out (Make n m) h =
    let text : decimal count ≡ decimal m = cc in
    let low : m < 2 ^ 64 = omega (arith, h.3) in
    let same : count ≡ m = decimal_injective count m small low text in
    ⊎_elim (λ (l : count < 1). omega (arith, h.2)) (λ (g : (1 ≤ count) × (2000 < count)). omega (arith, h.3, g.1)) out
