-- The words of a line, and what single words say.
use Rattle.std.specs.Prelude.{ℕ, ◌≡◌, ◌+◌, ◌==◌, EachIndex, slice_index, Bool, ◌&&◌, ◌||◌, List, [], ◌∷◌, length, min, Option, Some, None, Result, Ok, Err, cond}
use Rattle.std.specs.Fmt.{decimal}
use Rattle.std.specs.List.{list_all, slice_split}
use Rattle.std.specs.Option.{option_and_then, option_map}
use Rattle.std.specs.Str.{bytes_eq}
use Rattle.std.specs.Str.Parse.{digits_value}
use Rattle.hex.specs.Hex.{decode_of, encode_lower}
use Rattle.hex.specs.declared.error.FromHexError.{FromHexError}
use Rattle.locus_ids.specs.Sizes.{sites_max}
use Rattle.locus_ids.specs.Sites.{with_site}
use Rattle.locus_ids.specs.declared.sites.Sites.{Sites}
use Rattle.schedule_lines.specs.Ranges.{is_between, is_byte, is_word}

abbrev pub with_front : ℕ → Option (List ℕ × List ℕ) → Option (List ℕ × List ℕ)
with_front c None = None
with_front c (Some p) = Some (c ∷ p.0, p.1)

-- what stands before the first such byte, and what stands after it
abbrev pub split_at : ℕ → List ℕ → Option (List ℕ × List ℕ)
split_at b [] = None
split_at b (c ∷ cs) = cond (c == b) (Some ([], cs)) (with_front c (split_at b cs))

-- the first word, and what follows its space
abbrev pub two_words : List ℕ → Option (List ℕ × List ℕ)
two_words bytes = split_at 32 bytes

-- the first and the second word, and what follows their spaces
abbrev pub three_words : List ℕ → Option (List ℕ × List ℕ × List ℕ)
three_words bytes = option_and_then (λ p. option_map (λ q. (p.0, q.0, q.1)) (two_words p.1)) (two_words bytes)

-- the word is this number in decimal
abbrev pub is_decimal : List ℕ → ℕ → Bool
is_decimal word n = bytes_eq word (decimal n)

-- the number from low to most that the word is in decimal
abbrev pub number_in : ℕ → ℕ → List ℕ → Option ℕ
number_in low most word = let n = digits_value 10 word in cond (is_decimal word n && is_between low most n) (Some n) None

-- one of sites 1 to n
abbrev pub site_in : ℕ → List ℕ → Option ℕ
site_in n word = number_in 1 (min n sites_max) word

-- a word as it stands
abbrev pub word_in : List ℕ → Option (List ℕ)
word_in word = cond (is_word word) (Some word) None

-- a digit of lower-case hexadecimal
abbrev pub is_lower_digit : ℕ → Bool
is_lower_digit c = is_between 48 57 c || is_between 97 102 c

abbrev pub checked_bytes : ℕ → List ℕ → Result (List ℕ) FromHexError → Option (List ℕ)
checked_bytes most word (Ok bytes) = cond (bytes_eq word (encode_lower bytes) && is_between 1 most (length bytes) && list_all is_byte bytes) (Some bytes) None
checked_bytes most word (Err e) = None

-- the bytes, 1 to so many, that the word is in lower-case hexadecimal
abbrev pub hex_in : ℕ → List ℕ → Option (List ℕ)
hex_in most word = checked_bytes most word (decode_of word)

abbrev pub only_one : List ℕ → Option ℕ
only_one [] = None
only_one (b ∷ []) = Some b
only_one (b ∷ c ∷ cs) = None

-- the byte that the word is in lower-case hexadecimal
abbrev pub byte_in : List ℕ → Option ℕ
byte_in word = option_and_then only_one (hex_in 1 word)

-- the set with the sites that the words are, each above the one before it, the first at least this
abbrev pub with_sites : ℕ → ℕ → Sites → List (List ℕ) → Option Sites
with_sites n least set [] = Some set
with_sites n least set (word ∷ words) = option_and_then (λ site. with_sites n (site + 1) (with_site set site) words) (number_in least (min n sites_max) word)

-- the bytes between such bytes
abbrev pub pieces : ℕ → List ℕ → List (List ℕ)
pieces separator bytes = slice_split (λ b. b == separator) bytes

-- the set of the sites that stand here, ascending, with this byte between each two
abbrev pub sites_in : ℕ → ℕ → List ℕ → Option Sites
sites_in n separator bytes = with_sites n 1 (record { 0 = 0 }) (pieces separator bytes)

-- no byte is this
abbrev pub Lacks : ℕ → List ℕ → Type 0
Lacks b bytes = EachIndex bytes (λ k. slice_index bytes k ≡ b → ⊥)
