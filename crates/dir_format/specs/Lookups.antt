-- What a component of a path finds in a directory, and the names that a directory shows.
use Rattle.std.specs.Prelude.{ℕ, Bool, true, false, cond, ◌&&◌, ◌||◌, List, [], ◌∷◌, ◌++◌, filter, map, codes}
use Rattle.std.specs.Fmt.{decimal}
use Rattle.std.specs.Str.{bytes_eq}
use Rattle.dir_format.specs.declared.entry.Entry.{Entry}
use Rattle.dir_format.specs.declared.looking.LookResult.{LookResult}
use Rattle.dir_format.specs.declared.looking.LookResult.TheVariants.{Found, Absent, Ambiguous}
use Rattle.dir_format.specs.Entries.{is_live}

-- the name with `@` and the inode, which always finds that entry where it is live
abbrev pub numbered_name : Entry → List ℕ
numbered_name d = d.name ++ codes "@" ++ decimal d.ino

-- the entry is live and has this name
abbrev pub has_name : List ℕ → Entry → Bool
has_name name d = is_live d && bytes_eq d.name name

-- the component means the live entry: it is its name, or its name with `@` and its inode
abbrev pub is_meant : List ℕ → Entry → Bool
is_meant component d = is_live d && (bytes_eq d.name component || bytes_eq (numbered_name d) component)

-- what is found where these entries are meant
abbrev pub look_among : List Entry → LookResult
look_among [] = Absent
look_among (d ∷ []) = Found d.ino d.kind
look_among (d ∷ other ∷ others) = Ambiguous d.ino other.ino

-- the only live entry that the component means, or the two least inodes of several
abbrev pub lookup : List Entry → List ℕ → LookResult
lookup ds component = look_among (filter (is_meant component) ds)

abbrev pub are_several : List Entry → Bool
are_several [] = false
are_several (one ∷ []) = false
are_several (one ∷ other ∷ others) = true

-- several live entries have this name
abbrev pub is_shared : List Entry → List ℕ → Bool
is_shared ds name = are_several (filter (has_name name) ds)

-- a live entry is shown by its name alone, or where several have it by its name with `@` and its inode
abbrev pub shown_name : Entry → Bool → List ℕ
shown_name d shared = cond shared (numbered_name d) d.name

-- the names of the live entries in their order; where several have one name, each with `@` and its inode
abbrev pub shown_names : List Entry → List (List ℕ)
shown_names ds = map (λ d. shown_name d (is_shared ds d.name)) (filter is_live ds)

-- what is found with one more entry that is meant
abbrev pub with_meant : LookResult → Entry → LookResult
with_meant Absent d = Found d.ino d.kind
with_meant (Found ino kind) d = Ambiguous ino d.ino
with_meant (Ambiguous a b) d = Ambiguous a b
