-- The names of messages. A message is named by the call that puts it into its box, so that no two mails give one name.
use Rattle.std.specs.Prelude.{ℕ, ◌==◌, ◌^◌, ◌-◌, Bool, false, ◌&&◌, cond, List, [], ◌∷◌, ◌++◌, codes, filter, nat_le}
use Rattle.std.specs.Str.{bytes_eq}
use Rattle.std.specs.Str.Parse.{digits_value}
use Rattle.locus_ids.specs.declared.ids.CallId.{CallId}
use Rattle.trace_book.specs.Names.{plain_name}
use Rattle.trace_book.specs.Text.{number}

-- m and the numbers of the call's name
abbrev pub message_name : CallId → List ℕ
message_name c = codes "m" ++ number c.site ++ codes "." ++ number c.boot ++ codes "." ++ number c.n

-- the word is a number from 1 to so many in decimal, without a leading zero
abbrev pub is_number_to : ℕ → List ℕ → Bool
is_number_to most word = bytes_eq word (number (digits_value 10 word)) && (nat_le 1 (digits_value 10 word) && nat_le (digits_value 10 word) most)

-- what stands before the first such byte, and what stands after it
abbrev pub up_to : ℕ → List ℕ → List ℕ
up_to b [] = []
up_to b (c ∷ cs) = cond (c == b) [] (c ∷ up_to b cs)

abbrev pub past : ℕ → List ℕ → List ℕ
past b [] = []
past b (c ∷ cs) = cond (c == b) cs (past b cs)

-- the name may be that of a message: m, one of the 32 sites that a name may tell, a boot and a number
abbrev pub is_message : List ℕ → Bool
is_message [] = false
is_message (c ∷ cs) = (c == 109) && (is_number_to 32 (up_to 46 cs) && (is_number_to (2 ^ 32 - 1) (up_to 46 (past 46 cs)) && is_number_to (2 ^ 32 - 1) (past 46 (past 46 cs))))

-- those names, of some that a directory shows, that are names of messages, or such a name with an inode number
abbrev pub messages : List (List ℕ) → List (List ℕ)
messages shown = filter (λ name. is_message (plain_name name)) shown
