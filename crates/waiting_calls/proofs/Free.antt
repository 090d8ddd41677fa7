-- The lowest free number of a table, one number after the other.
use Rattle.std.proofs.Common.{◌≡◌, ◌<◌, ◌+◌, ◌-◌, ℕ, suc, Option, None, Some, ap, ◌∙◌, arith}
use Rattle.trace_book.specs.declared.descriptor.Descriptor.{Descriptor}
use Rattle.call_rules.specs.Descriptors.{free_or, lowest_free_from}

one_more : (table : ℕ → Option Descriptor) (n end : ℕ) → n < end → lowest_free_from table n (end - n) ≡ free_or n (lowest_free_from table (n + 1) (end - (n + 1))) (table n)
one_more table n end l =
    let more : end - n ≡ suc (end - (n + 1)) = omega arith in
    ap (lowest_free_from table n) more

pub free_here : (table : ℕ → Option Descriptor) (n end : ℕ) → n < end → table n ≡ None → lowest_free_from table n (end - n) ≡ Some n
free_here table n end l e = one_more table n end l ∙ ap (free_or n (lowest_free_from table (n + 1) (end - (n + 1)))) e

pub free_later : (table : ℕ → Option Descriptor) (n end : ℕ) (d : Descriptor) → n < end → table n ≡ Some d → lowest_free_from table n (end - n) ≡ lowest_free_from table (n + 1) (end - (n + 1))
free_later table n end d l e = one_more table n end l ∙ ap (free_or n (lowest_free_from table (n + 1) (end - (n + 1)))) e
