-- The header line that some bytes are, as a function of the bytes.
use Rattle.std.specs.Prelude.{ℕ, Bool, List, codes, Option, Some, None, cond, is_some}
use Rattle.std.specs.Option.{option_and_then, option_map}
use Rattle.std.specs.Str.{bytes_eq}
use Rattle.locus_ids.specs.Sizes.{sites_max}
use Rattle.schedule_lines.specs.declared.header.HeaderLine.{HeaderLine}
use Rattle.schedule_lines.specs.declared.header.HeaderLine.TheVariants as header
use Rattle.line_text.specs.Words.{number_in, sites_in, two_words, word_in}
use Rattle.line_text.specs.declared.header_word.HeaderWord.{HeaderWord}
use Rattle.line_text.specs.declared.header_word.HeaderWord.TheVariants as word

abbrev pub header_word : List ℕ → Option HeaderWord
header_word w =
    cond (bytes_eq w (codes "sites")) (Some word.Sites) (
    cond (bytes_eq w (codes "group")) (Some word.Group) (
    cond (bytes_eq w (codes "mount")) (Some word.Mount) None))

abbrev pub word_before : List ℕ → Option (List ℕ × List ℕ) → List ℕ
word_before bytes None = bytes
word_before bytes (Some p) = p.0

-- what stands before the first space, or all
abbrev pub first_word : List ℕ → List ℕ
first_word bytes = word_before bytes (two_words bytes)

-- the line begins with a word of header lines
abbrev pub begins_header : List ℕ → Bool
begins_header bytes = is_some (header_word (first_word bytes))

abbrev pub group_line : ℕ → List ℕ → Option HeaderLine
group_line n rest = option_and_then (λ p. option_and_then (λ group. option_map (λ sites. header.Group group sites) (sites_in n 32 p.1)) (number_in 0 3 p.0)) (two_words rest)

abbrev pub mount_line : List ℕ → Option HeaderLine
mount_line rest = option_and_then (λ p. option_and_then (λ group. option_map (λ name. header.Mount group name) (word_in p.1)) (number_in 1 3 p.0)) (two_words rest)

-- the line of this first word with these operands, in a cluster of n sites
abbrev pub header_with : ℕ → HeaderWord → List ℕ → Option HeaderLine
header_with n word.Sites rest = option_map (λ count. header.Sites count) (number_in 1 sites_max rest)
header_with n word.Group rest = group_line n rest
header_with n word.Mount rest = mount_line rest

-- the header line that the bytes are, in a cluster of n sites
abbrev pub header_in : ℕ → List ℕ → Option HeaderLine
header_in n bytes = option_and_then (λ p. option_and_then (λ w. header_with n w p.1) (header_word p.0)) (two_words bytes)
