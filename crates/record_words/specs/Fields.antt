-- What single words of a record say, as functions of the word.
use Rattle.std.specs.Prelude.{ℕ, ◌==◌, ◌+◌, ◌-◌, Bool, cond, codes, List, [], ◌∷◌, slice_set, replicate, Option, None, Some}
use Rattle.std.specs.Option.{option_and_then, option_map}
use Rattle.std.specs.Str.{bytes_eq}
use Rattle.locus_ids.specs.Sizes.{inodes_max, sites_max}
use Rattle.locus_ids.specs.declared.ids.Brought.{Brought}
use Rattle.locus_ids.specs.declared.ids.CallId.{CallId}
use Rattle.locus_ids.specs.declared.ids.EpochId.{EpochId}
use Rattle.locus_ids.specs.declared.ids.FileId.{FileId}
use Rattle.locus_ids.specs.declared.ids.Kind.{Kind}
use Rattle.locus_ids.specs.declared.ids.Kind.TheVariants as kind
use Rattle.locus_ids.specs.declared.ids.Member.{Member}
use Rattle.locus_ids.specs.declared.ids.Mode.{Mode}
use Rattle.locus_ids.specs.declared.ids.Mode.TheVariants as mode
use Rattle.locus_ids.specs.declared.ids.Serial.{Serial}
use Rattle.locus_ids.specs.declared.ids.Stamp.{Stamp}
use Rattle.locus_ids.specs.declared.sites.Members.{Members}
use Rattle.trace_book.specs.Names.{is_name}
use Rattle.line_text.specs.Words.{hex_in, number_in, pieces, split_at, two_words}
use Rattle.wire_fields.specs.Components.{is_component}
use Rattle.record_words.specs.Order.{agrees, ascend, number_max}

-- what stands before the first such byte, as one reader gives it, and what follows, as the other does
abbrev pub joined_in : {A B : Type 0} → ℕ → (List ℕ → Option A) → (List ℕ → Option B) → List ℕ → Option (A × B)
joined_in b first rest bytes = option_and_then (λ p. option_and_then (λ a. option_map (λ r. (a, r)) (rest p.1)) (first p.0)) (split_at b bytes)

-- the first word, as one reader gives it, and what follows its space, as the other does
abbrev pub words_in : {A B : Type 0} → (List ℕ → Option A) → (List ℕ → Option B) → List ℕ → Option (A × B)
words_in first rest bytes = joined_in 32 first rest bytes

-- the first word, and what follows its space, as the reader that belongs to that word does
abbrev pub words_with : {A B : Type 0} → (List ℕ → Option A) → (A → List ℕ → Option B) → List ℕ → Option (A × B)
words_with first rest bytes = option_and_then (λ p. option_and_then (λ a. option_map (λ r. (a, r)) (rest a p.1)) (first p.0)) (two_words bytes)

-- what follows this letter
abbrev pub after_letter : ℕ → List ℕ → Option (List ℕ)
after_letter c [] = None
after_letter c (b ∷ bs) = cond (b == c) (Some bs) None

-- each of these words
abbrev pub all_in : {A : Type 0} → (List ℕ → Option A) → List (List ℕ) → Option (List A)
all_in read [] = Some []
all_in read (word ∷ words) = option_and_then (λ x. option_map (λ xs. x ∷ xs) (all_in read words)) (read word)

-- a value that passes the test
abbrev pub tested : {A : Type 0} → (A → Bool) → Option A → Option A
tested test o = option_and_then (λ x. cond (test x) (Some x) None) o

-- ---- numbers

abbrev pub any_site_in : List ℕ → Option ℕ
any_site_in word = number_in 1 sites_max word

abbrev pub counted_in : List ℕ → Option ℕ
counted_in word = number_in 1 number_max word

abbrev pub short_in : List ℕ → Option ℕ
short_in word = number_in 0 65535 word

abbrev pub process_in : List ℕ → Option ℕ
process_in word = number_in 0 8 word

abbrev pub group_in : List ℕ → Option ℕ
group_in word = number_in 0 3 word

abbrev pub inode_in : List ℕ → Option ℕ
inode_in word = number_in 1 inodes_max word

abbrev pub request_in : List ℕ → Option ℕ
request_in word = number_in 1 65535 word

-- ---- ids

abbrev pub stamp_in : List ℕ → Option Stamp
stamp_in word = option_map (λ t. record { site = t.0; n = t.1 }) (tested (λ t. agrees t.0 t.1) (joined_in 46 (number_in 0 sites_max) (number_in 0 number_max) word))

abbrev pub optional_stamp_in : List ℕ → Option (Option Stamp)
optional_stamp_in word = cond (bytes_eq word (codes "-")) (Some None) (option_map (λ s. Some s) (stamp_in word))

-- a file whose inode is at least this
abbrev pub file_from : ℕ → List ℕ → Option FileId
file_from low word = option_map (λ t. record { group = t.0; ino = t.1 }) (joined_in 46 group_in (number_in low inodes_max) word)

abbrev pub file_in : List ℕ → Option FileId
file_in word = file_from 1 word

abbrev pub epoch_in : List ℕ → Option EpochId
epoch_in word =
    option_and_then (λ rest. option_map (λ t. record { number = t.0; site = t.1.0; boot = t.1.1 }) (joined_in 46 counted_in (joined_in 46 any_site_in counted_in) rest)) (after_letter 101 word)

abbrev pub call_id_in : List ℕ → Option CallId
call_id_in word =
    option_and_then (λ rest. option_map (λ t. record { site = t.0; boot = t.1.0; n = t.1.1 }) (joined_in 46 any_site_in (joined_in 46 counted_in counted_in) rest)) (after_letter 99 word)

abbrev pub instance_in : List ℕ → Option Serial
instance_in word = option_and_then (λ rest. option_map (λ t. record { us = t.0; serial = t.1 }) (joined_in 46 any_site_in counted_in rest)) (after_letter 105 word)

abbrev pub mode_in : List ℕ → Option Mode
mode_in w =
    cond (bytes_eq w (codes "r")) (Some mode.Read) (
    cond (bytes_eq w (codes "w")) (Some mode.Write) (
    cond (bytes_eq w (codes "x")) (Some mode.Resolve) (
    cond (bytes_eq w (codes "m")) (Some mode.Mend) (
    cond (bytes_eq w (codes "n")) (Some mode.Make) None))))

abbrev pub kind_in : List ℕ → Option Kind
kind_in w =
    cond (bytes_eq w (codes "f")) (Some kind.File) (
    cond (bytes_eq w (codes "d")) (Some kind.Dir) None)

-- ---- names and bytes

abbrev pub name_in : List ℕ → Option (List ℕ)
name_in word = cond (is_name word) (Some word) None

abbrev pub component_in : List ℕ → Option (List ℕ)
component_in word = cond (is_component word) (Some word) None

-- so many bytes at most; - where there are none
abbrev pub data_in : ℕ → List ℕ → Option (List ℕ)
data_in most word = cond (bytes_eq word (codes "-")) (Some []) (hex_in most word)

-- ---- lists

-- stamps with commas, or - where there are none
abbrev pub stamps_in : List ℕ → Option (List Stamp)
stamps_in word = cond (bytes_eq word (codes "-")) (Some []) (all_in stamp_in (pieces 44 word))

abbrev pub brought_in : List ℕ → Option Brought
brought_in word = option_map (λ t. record { ino = t.0; stamp = t.1 }) (joined_in 61 inode_in stamp_in word)

-- versions with spaces, each before the next
abbrev pub copies_in : List ℕ → Option (List Brought)
copies_in bytes = tested ascend (all_in brought_in (pieces 32 bytes))

-- a member from this site on
abbrev pub member_from : ℕ → List ℕ → Option Member
member_from least word = option_map (λ t. record { site = t.0; boot = t.1 }) (joined_in 58 (number_in least sites_max) counted_in word)

-- the boot numbers with those of the members that the words are, each above the one before it, the first at least this
abbrev pub with_members : ℕ → List ℕ → List (List ℕ) → Option Members
with_members least boots [] = Some (record { boot = boots })
with_members least boots (word ∷ words) = option_and_then (λ m. with_members (m.site + 1) (slice_set boots (m.site - 1) m.boot) words) (member_from least word)

abbrev pub members_in : List ℕ → Option Members
members_in word = with_members 1 (replicate sites_max 0) (pieces 44 word)
