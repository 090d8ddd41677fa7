-- Lists of sites: ascending numbers with some byte between each two, as sets.
use Rattle.std.proofs.Common.{◌≡◌, ℕ, zero, suc, ◌+◌, ◌-◌, ◌<◌, ◌≤◌, ◌^◌, ◌==◌, Bool, true, false, cond, inl, inr, List, [], ◌∷◌, ◌++◌, map, length, Option, Some, None, refl, sym, ap, ◌∙◌, arith, append_assoc, length-append, lit<, rules}
use Rattle.std.specs.Prelude.{◌||◌, min, nat_le, nat_lt}
use Rattle.std.specs.Fmt.{decimal}
use Rattle.std.specs.List.{join_by, join_with_byte, list_any}
use Rattle.std.specs.Option.{option_and_then}
use Rattle.std.proofs.Math.Pow.{pow_mono}
use Rattle.std.proofs.lemmas.Bool.{and_parts, cases_eq, cases_lt, lt-ltb, ltb-true}
use Rattle.std.proofs.lemmas.Bool.Decides.{nat_tests}
use Rattle.std.proofs.lemmas.List.Splits.{join_with_byte-slice_split}
use Rattle.std.proofs.lemmas.Nat.{or_lt, pow_below}
use Rattle.std.proofs.lemmas.Nat.Bits.{bit_at_above}
use Rattle.std.proofs.lemmas.Option.{option_and_then_some, same_Some}
use Rattle.locus_ids.specs.Sizes.{sites_max}
use Rattle.locus_ids.specs.Sites.{has, with_site}
use Rattle.locus_ids.specs.declared.sites.Sites.{Sites}
use Rattle.locus_ids.proofs.Sets.{has-with, same_sites}
use Rattle.trace_book.specs.Text.{number, sites_to}
use Rattle.schedule_lines.specs.Ranges.{is_some_sites}
use Rattle.line_text.specs.Words.{number_in, pieces, sites_in, split_at, with_sites}
use Rattle.line_text.proofs.NumberTexts.{between_parts, decimal_lacks, is_between_from, number_complete, number_sound}
use Rattle.line_text.proofs.Splits.{pieces_of, pieces_split, split_found, split_none, split_sound}

-- ---- steps of the reader

pub step_more : (n least : ℕ) (set : Sites) (b : ℕ) (rest word more : List ℕ) → split_at b rest ≡ Some (word, more) →
    with_sites n least set (pieces b rest) ≡ option_and_then (λ site. with_sites n (site + 1) (with_site set site) (pieces b more)) (number_in least (min n sites_max) word)
step_more n least set b rest word more e = ap (with_sites n least set) (pieces_split b rest ∙ ap (pieces_of b rest) e)

pub step_last : (n least : ℕ) (set : Sites) (b : ℕ) (rest : List ℕ) → split_at b rest ≡ None →
    with_sites n least set (pieces b rest) ≡ option_and_then (λ site. Some (with_site set site)) (number_in least (min n sites_max) rest)
step_last n least set b rest e = ap (with_sites n least set) (pieces_split b rest ∙ ap (pieces_of b rest) e)

pub split_shorter : (b : ℕ) (rest word more : List ℕ) → split_at b rest ≡ Some (word, more) → length more < length rest
split_shorter b rest word more e =
    let whole = split_sound b rest (word, more) e in
    let size : length rest ≡ length word + length (b ∷ more) = ap length whole ∙ length-append word (b ∷ more) in
    omega arith

-- ---- sets and their sites

-- ascending numbers from low to high
abbrev pub Ascend : ℕ → ℕ → List ℕ → Type 0
Ascend low high [] = Unit {0}
Ascend low high (s ∷ ss) = (low ≤ s) × (s ≤ high) × Ascend (s + 1) high ss

ascend_more : (low high higher : ℕ) (ss : List ℕ) → high ≤ higher → Ascend low high ss → Ascend low higher ss
ascend_more low high higher [] le h = tt
ascend_more low high higher (s ∷ ss) le h =
    let top : s ≤ high = h.1 in
    (h.0, omega arith, ascend_more (s + 1) high higher ss le h.2)

ascend_end : (low high m : ℕ) (ss : List ℕ) → high < m → low ≤ m → Ascend low high ss → Ascend low m (ss ++ m ∷ [])
ascend_end low high m [] lt le h = (le, omega arith, tt)
ascend_end low high m (s ∷ ss) lt le h =
    let top : s ≤ high = h.1 in
    (h.0, omega arith, ascend_end (s + 1) high m ss lt (omega arith) h.2)

ascend_from : (lower low high : ℕ) (ss : List ℕ) → lower ≤ low → Ascend low high ss → Ascend lower high ss
ascend_from lower low high [] le h = tt
ascend_from lower low high (s ∷ ss) le h = let from : low ≤ s = h.0 in (omega arith, h.1, h.2)

sites_ascend : (t : Sites) (k : ℕ) → Ascend 1 k (sites_to t k)
sites_ascend t zero = tt
sites_ascend t (suc k) = by_bit (has t (suc k)) (sites_ascend t k)
  where
    by_bit : (b : Bool) → Ascend 1 k (sites_to t k) → Ascend 1 (suc k) (sites_to t k ++ cond b (suc k ∷ []) [])
    by_bit true h = ascend_end 1 k (suc k) (sites_to t k) (omega arith) (omega arith) h
    by_bit false h = let e : sites_to t k ++ [] ≡ sites_to t k = search rules in rw e (ascend_more 1 k (suc k) (sites_to t k) (omega arith) h)

-- a set below a power has no site above it
none_above : (t : Sites) (j site : ℕ) → t.0 < 2 ^ j → j < site → has t site ≡ false
none_above t j site lt above = let e = bit_at_above t.0 j (site - 1) lt (omega arith) in rw e refl

sites_up_to : (t : Sites) (j k : ℕ) → t.0 < 2 ^ j → sites_to t (k + j) ≡ sites_to t j
sites_up_to t j zero lt = let e : 0 + j ≡ j = omega arith in rw e refl
sites_up_to t j (suc k) lt =
    let e : suc k + j ≡ suc (k + j) = omega arith in
    let none : has t (suc (k + j)) ≡ false = none_above t j (suc (k + j)) lt (omega arith) in
    let same : sites_to t (k + j) ++ [] ≡ sites_to t (k + j) = search rules in
    rw (e, none, same) (sites_up_to t j k lt)

sites_within : (t : Sites) (j : ℕ) → j ≤ sites_max → t.0 < 2 ^ j → sites_to t sites_max ≡ sites_to t j
sites_within t j le lt =
    let e : sites_max ≡ (sites_max - j) + j = omega arith in
    ap (sites_to t) e ∙ sites_up_to t j (sites_max - j) lt

-- the set with a site above the others has that site last
abbrev pub last_site : ℕ → ℕ → List ℕ
last_site site k = cond (nat_le site k) (site ∷ []) []

append_nothing : (xs : List ℕ) → xs ++ [] ≡ xs
append_nothing xs = search rules

before_it : (xs : List ℕ) (b : Bool) (y : ℕ) → (xs ++ []) ++ cond (b || false) (y ∷ []) [] ≡ (xs ++ cond b (y ∷ []) []) ++ []
before_it xs true y = rw (append_nothing xs) (sym (append_nothing (xs ++ y ∷ [])))
before_it xs false y = refl

after_it : (xs : List ℕ) (s : ℕ) → (xs ++ s ∷ []) ++ [] ≡ (xs ++ []) ++ s ∷ []
after_it xs s = append_nothing (xs ++ s ∷ []) ∙ ap (λ l. l ++ s ∷ []) (sym (append_nothing xs))

sites_with : (set : Sites) (site k : ℕ) → 1 ≤ site → set.0 < 2 ^ (site - 1) → sites_to (with_site set site) k ≡ sites_to set k ++ last_site site k
sites_with set site zero low lt = let none : nat_le site 0 ≡ false = grind (arith, nat_tests) in rw none refl
sites_with set site (suc k) low lt =
    let member = has-with set site (suc k) low (omega arith) in
    let again = sites_with set site k low lt in
    elim (cases_lt (suc k) site) [
      | inl below ↦
          let other : (suc k == site) ≡ false = grind (arith, nat_tests) in
          let here : nat_le site k ≡ false = grind (arith, nat_tests) in
          let next : nat_le site (suc k) ≡ false = grind (arith, nat_tests) in
          rw (again, member, other, here, next) (before_it (sites_to set k) (has set (suc k)) (suc k))
      | inr above ↦
          let absent : has set (suc k) ≡ false = none_above set (site - 1) (suc k) lt (omega arith) in
          elim (cases_eq (suc k) site) [
            | inl same ↦
                let other : (suc k == site) ≡ true = grind (arith, nat_tests) in
                let here : nat_le site k ≡ false = grind (arith, nat_tests) in
                let next : nat_le site (suc k) ≡ true = grind (arith, nat_tests) in
                rw (again, member, other, here, next, absent) (ap (λ y. (sites_to set k ++ []) ++ y ∷ []) same)
            | inr more ↦
                let other : (suc k == site) ≡ false = grind (arith, nat_tests) in
                let here : nat_le site k ≡ true = grind (arith, nat_tests) in
                let next : nat_le site (suc k) ≡ true = grind (arith, nat_tests) in
                rw (again, member, other, here, next, absent) (after_it (sites_to set k) site)
          ]
    ]

-- the set with such a site is still below a power
with_below : (set : Sites) (site : ℕ) → 1 ≤ site → set.0 < 2 ^ (site - 1) → (with_site set site).0 < 2 ^ site
with_below set site low lt =
    let less : 2 ^ (site - 1) < 2 ^ site = pow_below (site - 1) site (omega arith) in
    or_lt site set.0 (2 ^ (site - 1)) (omega arith) less

any_end : (site : ℕ) (xs : List ℕ) (y : ℕ) → list_any (λ s. s == site) (xs ++ y ∷ []) ≡ (list_any (λ s. s == site) xs || (y == site))
any_end site [] y = by_test (y == site)
  where
    by_test : (b : Bool) → (b || false) ≡ b
    by_test true = refl
    by_test false = refl
any_end site (x ∷ xs) y = by_test (x == site) (any_end site xs y)
  where
    by_test : (b : Bool) → list_any (λ s. s == site) (xs ++ y ∷ []) ≡ (list_any (λ s. s == site) xs || (y == site)) →
        (b || list_any (λ s. s == site) (xs ++ y ∷ [])) ≡ ((b || list_any (λ s. s == site) xs) || (y == site))
    by_test true h = refl
    by_test false h = h

none_ascends_to : (low high site : ℕ) (ss : List ℕ) → high < site → Ascend low high ss → list_any (λ s. s == site) ss ≡ false
none_ascends_to low high site [] lt h = refl
none_ascends_to low high site (s ∷ ss) lt h =
    let top : s ≤ high = h.1 in
    let other : (s == site) ≡ false = grind (arith, nat_tests) in
    rw other (none_ascends_to (s + 1) high site ss lt h.2)

or_false : (v : Bool) → (v || false) ≡ v
or_false true = refl
or_false false = refl

any_more : (site k : ℕ) (xs : List ℕ) (b v : Bool) → list_any (λ s. s == site) xs ≡ v → (suc k == site) ≡ false → list_any (λ s. s == site) (xs ++ cond b (suc k ∷ []) []) ≡ v
any_more site k xs true v h other = any_end site xs (suc k) ∙ rw (h, other) (or_false v)
any_more site k xs false v h other = rw (append_nothing xs) h

any_top : (site k : ℕ) (xs : List ℕ) (b : Bool) → list_any (λ s. s == site) xs ≡ false → (suc k == site) ≡ true → list_any (λ s. s == site) (xs ++ cond b (suc k ∷ []) []) ≡ b
any_top site k xs true h same = any_end site xs (suc k) ∙ rw (h, same) refl
any_top site k xs false h same = rw (append_nothing xs) h

-- a site is in a set where it is in the list of its sites
in_sites : (t : Sites) (k site : ℕ) → 1 ≤ site → site ≤ k → list_any (λ s. s == site) (sites_to t k) ≡ has t site
in_sites t zero site low high = absurd (omega arith)
in_sites t (suc k) site low high = elim (cases_lt k site) [
  | inl top ↦
      let e : suc k ≡ site = omega arith in
      let same : (suc k == site) ≡ true = grind (arith, nat_tests) in
      any_top site k (sites_to t k) (has t (suc k)) (none_ascends_to 1 k site (sites_to t k) top (sites_ascend t k)) same ∙ ap (has t) e
  | inr within ↦
      let other : (suc k == site) ≡ false = grind (arith, nat_tests) in
      any_more site k (sites_to t k) (has t (suc k)) (has t site) (in_sites t k site low within) other
]

-- sets below 2 ^ 16 with the same sites are the same
same_set : (a b : Sites) → a.0 < 2 ^ sites_max → b.0 < 2 ^ sites_max → sites_to a sites_max ≡ sites_to b sites_max → a ≡ b
same_set a b la lb e = same_sites a b (λ site low. elim (cases_lt sites_max site) [
  | inl above ↦ none_above a sites_max site la above ∙ sym (none_above b sites_max site lb above)
  | inr within ↦ sym (in_sites a sites_max site low within) ∙ ap (list_any (λ s. s == site)) e ∙ in_sites b sites_max site low within
])

-- ---- the reader and lists of numbers

-- the set with the sites of a list
abbrev pub set_with : Sites → List ℕ → Sites
set_with set [] = set
set_with set (s ∷ ss) = set_with (with_site set s) ss

set_with_sites : (set : Sites) (least high : ℕ) (ss : List ℕ) → 1 ≤ least → least ≤ high + 1 → high ≤ sites_max → set.0 < 2 ^ (least - 1) → Ascend least high ss →
    (sites_to (set_with set ss) sites_max ≡ sites_to set sites_max ++ ss) × ((set_with set ss).0 < 2 ^ high)
set_with_sites set least high [] low le cap lt h =
    let more : 2 ^ (least - 1) ≤ 2 ^ high = pow_mono (omega arith) in
    (sym (append_nothing (sites_to set sites_max)), omega arith)
set_with_sites set least high (s ∷ ss) low le cap lt h =
    let from : least ≤ s = h.0 in
    let to : s ≤ high = h.1 in
    let more : 2 ^ (least - 1) ≤ 2 ^ (s - 1) = pow_mono (omega arith) in
    let small : set.0 < 2 ^ (s - 1) = omega arith in
    let now : (with_site set s).0 < 2 ^ s = with_below set s (omega arith) small in
    let e : s ≡ s + 1 - 1 = omega arith in
    let next : (with_site set s).0 < 2 ^ (s + 1 - 1) = rw (← e) now in
    let again = set_with_sites (with_site set s) (s + 1) high ss (omega arith) (omega arith) cap next h.2 in
    let here : nat_le s sites_max ≡ true = grind (arith, nat_tests) in
    let one = rw here at (sites_with set s sites_max (omega arith) small) in
    (again.0 ∙ ap (λ l. l ++ ss) one ∙ append_assoc (sites_to set sites_max) (s ∷ []) ss, again.1)

-- what the reader gives is the set of an ascending list, whose texts the words are
reader_sound : (n least : ℕ) (set t : Sites) (words : List (List ℕ)) → with_sites n least set words ≡ Some t →
    (ss : List ℕ) × (words ≡ map decimal ss) × Ascend least (min n sites_max) ss × (t ≡ set_with set ss)
reader_sound n least set t [] h = ([], refl, tt, sym (same_Some set t h))
reader_sound n least set t (word ∷ words) h =
    option_and_then_some (λ site. with_sites n (site + 1) (with_site set site) words) (number_in least (min n sites_max) word) t h
    (λ site f g.
    let s = number_sound least (min n sites_max) word site f in
    let range = between_parts least (min n sites_max) site s.1 in
    let r = reader_sound n (site + 1) (with_site set site) t words g in
    (site ∷ r.0, ap (λ w. w ∷ words) s.0 ∙ ap (λ l. decimal site ∷ l) r.1, (range.0, range.1, r.2), r.3))

reader_complete : (n least : ℕ) (set : Sites) (ss : List ℕ) → Ascend least (min n sites_max) ss → with_sites n least set (map decimal ss) ≡ Some (set_with set ss)
reader_complete n least set [] h = refl
reader_complete n least set (s ∷ ss) h =
    let from : least ≤ s = h.0 in
    let to : s ≤ min n sites_max = h.1 in
    let read = number_complete least (min n sites_max) s (omega arith) (is_between_from least (min n sites_max) s from to) in
    rw read (reader_complete n (s + 1) (with_site set s) ss h.2)

-- ---- the text of a list

-- the pieces of a text of numbers are the texts of the numbers
text_pieces : (b s : ℕ) (ss : List ℕ) → b < 48 → Ascend 1 sites_max (s ∷ ss) → pieces b (join_by decimal (b ∷ []) (s ∷ ss)) ≡ map decimal (s ∷ ss)
text_pieces b s [] low h =
    let top : s ≤ sites_max = h.1 in
    let none = split_none b (decimal s) (decimal_lacks b s low (omega arith)) in
    let alone : decimal s ++ [] ≡ decimal s = append_nothing (decimal s) in
    rw alone (pieces_split b (decimal s) ∙ ap (pieces_of b (decimal s)) none)
text_pieces b s (r ∷ rs) low h =
    let top : s ≤ sites_max = h.1 in
    let more = join_by decimal (b ∷ []) (r ∷ rs) in
    let first = split_found b (decimal s) more (decimal_lacks b s low (omega arith)) in
    let from : 1 ≤ s + 1 = omega arith in
    let rest = text_pieces b r rs low (ascend_from 1 (s + 1) sites_max (r ∷ rs) from h.2) in
    pieces_split b (decimal s ++ (b ∷ more)) ∙ ap (pieces_of b (decimal s ++ (b ∷ more))) first ∙ ap (λ l. decimal s ∷ l) rest

join_bytes : (b : ℕ) (ss : List ℕ) → join_with_byte b (map decimal ss) ≡ join_by decimal (b ∷ []) ss
join_bytes b [] = refl
join_bytes b (s ∷ []) = sym (append_nothing (decimal s))
join_bytes b (s ∷ r ∷ rs) = ap (λ l. decimal s ++ (b ∷ l)) (join_bytes b (r ∷ rs))

-- bytes whose pieces are the texts of numbers are the text of the numbers
pieces_text : (b : ℕ) (ss : List ℕ) (bytes : List ℕ) → pieces b bytes ≡ map decimal ss → bytes ≡ join_by decimal (b ∷ []) ss
pieces_text b ss bytes h = sym (join_with_byte-slice_split b bytes) ∙ ap (join_with_byte b) h ∙ join_bytes b ss

some_piece : (b : ℕ) (bytes : List ℕ) (o : Option (List ℕ × List ℕ)) → pieces_of b bytes o ≡ [] → ⊥
some_piece b bytes None h = cc
some_piece b bytes (Some p) h = cc

-- ---- what the reader of a list of sites does

abbrev nothing : Sites
nothing = record { 0 = 0 }

-- the text of a set of sites, with this byte between each two
abbrev pub sites_text_with : ℕ → Sites → List ℕ
sites_text_with b t = join_by number (b ∷ []) (sites_to t sites_max)

-- a set that is read from some words is of ascending sites, one for each word
set_of_list : (n : ℕ) (ss : List ℕ) → Ascend 1 (min n sites_max) ss → (sites_to (set_with nothing ss) sites_max ≡ ss) × ((set_with nothing ss).0 < 2 ^ min n sites_max)
set_of_list n ss h = set_with_sites nothing 1 (min n sites_max) ss (omega arith) (omega arith) (omega arith) (lit< tt) h

is_some_from : (n : ℕ) (t : Sites) → 0 < t.0 → t.0 < 2 ^ min n sites_max → is_some_sites n t ≡ true
is_some_from n t a b = rw (lt-ltb 0 t.0 a, lt-ltb t.0 (2 ^ min n sites_max) b) refl

some_of_list : (t : Sites) (ss : List ℕ) → sites_to t sites_max ≡ ss → (ss ≡ [] → ⊥) → 0 < t.0
some_of_list t ss e some = elim (cases_eq t.0 0) [
  | inl zero_set ↦
      let same : t ≡ nothing = ap (λ (k : ℕ). let s : Sites = record { 0 = k } in s) zero_set in
      absurd (some (sym e ∙ ap (λ s. sites_to s sites_max) same))
  | inr more ↦ omega arith
]

pub sites_sound : (n b : ℕ) (bytes : List ℕ) (t : Sites) → sites_in n b bytes ≡ Some t → (bytes ≡ sites_text_with b t) × (is_some_sites n t ≡ true)
sites_sound n b bytes t h =
    let r = reader_sound n 1 nothing t (pieces b bytes) h in
    let s = set_of_list n r.0 r.2 in
    let listed : sites_to t sites_max ≡ r.0 = ap (λ u. sites_to u sites_max) r.3 ∙ s.0 in
    let below : t.0 < 2 ^ min n sites_max = rw (r.3) s.1 in
    let some : r.0 ≡ [] → ⊥ = λ e. some_piece b bytes (split_at b bytes) (sym (pieces_split b bytes) ∙ r.1 ∙ ap (map decimal) e) in
    (pieces_text b r.0 bytes r.1 ∙ ap (join_by decimal (b ∷ [])) (sym listed), is_some_from n t (some_of_list t r.0 listed some) below)

complete_from : (n b : ℕ) (t : Sites) (ss : List ℕ) → b < 48 → 0 < t.0 → t.0 < 2 ^ sites_max → Ascend 1 (min n sites_max) ss → sites_to t sites_max ≡ ss → sites_in n b (join_by decimal (b ∷ []) ss) ≡ Some t
complete_from n b t [] low some small h e = absurd (empty_set (same_set t nothing small (lit< tt) e))
  where
    empty_set : t ≡ nothing → ⊥
    empty_set same = let zero_set : t.0 ≡ 0 = ap (λ (s : Sites). s.0) same in omega arith
complete_from n b t (s ∷ ss) low some small h e =
    let cap : min n sites_max ≤ sites_max = omega arith in
    let texts = text_pieces b s ss low (ascend_more 1 (min n sites_max) sites_max (s ∷ ss) cap h) in
    let read = reader_complete n 1 nothing (s ∷ ss) h in
    let set = set_of_list n (s ∷ ss) h in
    let more : 2 ^ min n sites_max ≤ 2 ^ sites_max = pow_mono cap in
    let same = same_set (set_with nothing (s ∷ ss)) t (omega (arith, set.1)) small (set.0 ∙ sym e) in
    ap (with_sites n 1 nothing) texts ∙ read ∙ ap Some same

pub sites_complete : (n b : ℕ) (t : Sites) → b < 48 → is_some_sites n t ≡ true → sites_in n b (sites_text_with b t) ≡ Some t
sites_complete n b t low h =
    let p = and_parts (nat_lt 0 t.0) (nat_lt t.0 (2 ^ min n sites_max)) h in
    let some : 0 < t.0 = ltb-true 0 t.0 p.0 in
    let below : t.0 < 2 ^ min n sites_max = ltb-true t.0 (2 ^ min n sites_max) p.1 in
    let cap : min n sites_max ≤ sites_max = omega arith in
    let more : 2 ^ min n sites_max ≤ 2 ^ sites_max = pow_mono cap in
    let within = sites_within t (min n sites_max) cap below in
    let ascending = sites_ascend t (min n sites_max) in
    complete_from n b t (sites_to t sites_max) low some (omega arith) (rw within ascending) refl
