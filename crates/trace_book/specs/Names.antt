-- Names and paths. A name may be followed by `@` and an inode number, which tells entries of one name apart.
use Rattle.std.specs.Prelude.{ℕ, ◌==◌, Bool, not, ◌&&◌, cond, List, [], ◌∷◌, length, drop, codes, nat_le, nat_lt}
use Rattle.std.specs.Str.{bytes_eq}
use Rattle.std.specs.List.{list_all, slice_split}

-- a printing byte that is neither `/` nor `@`
abbrev pub is_name_byte : ℕ → Bool
is_name_byte c = nat_le 33 c && nat_le c 126 && not (c == 47) && not (c == 64)

-- a plain name: 1 to 60 such bytes, and neither `.` nor `..`
abbrev pub is_name : List ℕ → Bool
is_name name = nat_lt 0 (length name) && (nat_le (length name) 60 && (not (bytes_eq name (codes ".")) && (not (bytes_eq name (codes "..")) && list_all is_name_byte name)))

-- the bytes before the first `@`
abbrev pub plain_name : List ℕ → List ℕ
plain_name [] = []
plain_name (c ∷ cs) = cond (c == 64) [] (c ∷ plain_name cs)

-- the components of a path that begins with a slash: none of `/` alone, else what stands after each slash
abbrev pub components_after : List ℕ → List (List ℕ)
components_after [] = []
components_after (c ∷ cs) = slice_split (λ b. b == 47) (c ∷ cs)

abbrev pub components : List ℕ → List (List ℕ)
components path = components_after (drop 1 path)

-- all but the last
abbrev pub but_last : {X : Type 0} → List X → List X
but_last [] = []
but_last (x ∷ []) = []
but_last (x ∷ y ∷ ys) = x ∷ but_last (y ∷ ys)

-- the last of some components, or no bytes
abbrev pub last_of : List (List ℕ) → List ℕ
last_of [] = []
last_of (x ∷ []) = x
last_of (x ∷ y ∷ ys) = last_of (y ∷ ys)
