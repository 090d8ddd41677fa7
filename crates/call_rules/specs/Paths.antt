-- The grammar of paths. A component is a plain name, or a name with `@` and an inode number, which tells entries of one
-- name apart.
use Rattle.std.specs.Prelude.{ℕ, ◌+◌, ◌-◌, ◌*◌, ◌==◌, Bool, true, false, not, ◌&&◌, cond, List, [], ◌∷◌, length, Option, None, Some, nat_le}
use Rattle.std.specs.List.{list_all}
use Rattle.trace_book.specs.of_locus_ids.Sizes.{inodes_max}
use Rattle.trace_book.specs.Names.{is_name, plain_name, components}

-- what stands behind the first `@`, if there is one
abbrev pub after_at : List ℕ → Option (List ℕ)
after_at [] = None
after_at (c ∷ cs) = cond (c == 64) (Some cs) (after_at cs)

abbrev pub is_digit : ℕ → Bool
is_digit c = nat_le 48 c && nat_le c 57

-- the number that is read once these digits follow it
abbrev pub number_after : ℕ → List ℕ → ℕ
number_after n [] = n
number_after n (c ∷ cs) = number_after (10 * n + (c - 48)) cs

-- the most bytes of a path
abbrev pub path_bytes_max : ℕ
path_bytes_max = 1024

-- an inode number, from 1, in decimal digits without a leading zero
abbrev pub is_inode_text : List ℕ → Bool
is_inode_text [] = false
is_inode_text (c ∷ cs) = not (c == 48) && (list_all is_digit (c ∷ cs) && nat_le (number_after 0 (c ∷ cs)) inodes_max)

-- what stands behind the name of a component: nothing, or `@` and an inode number
abbrev pub is_suffix : Option (List ℕ) → Bool
is_suffix None = true
is_suffix (Some digits) = is_inode_text digits

abbrev pub is_component : List ℕ → Bool
is_component c = is_name (plain_name c) && is_suffix (after_at c)

-- a path: `/` alone, or 1 to 32 components with a slash before each, in at most 1,024 bytes
abbrev pub is_path : List ℕ → Bool
is_path [] = false
is_path (c ∷ rest) = (c == 47) && (nat_le (length (c ∷ rest)) path_bytes_max
    && (nat_le (length (components (c ∷ rest))) 32 && list_all is_component (components (c ∷ rest))))
