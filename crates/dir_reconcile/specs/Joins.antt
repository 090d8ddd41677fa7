-- The join of two directories: each pair of name and inode that either has, with the greater count.
use Rattle.std.specs.Prelude.{◌≡◌, List, [], ◌∷◌}
use Rattle.std.specs.Ordering.{nat_cmp}
use Rattle.std.specs.List.{AllByRecursion}
use Rattle.std.specs.declared.cmp.Ordering.{Ordering}
use Rattle.std.specs.declared.cmp.Ordering.TheVariants.{Less, Equal, Greater}
use Rattle.dir_format.specs.of_version_vector.Counters.{joined}
use Rattle.dir_format.specs.declared.entry.Entry.{Entry}
use Rattle.dir_format.specs.Entries.{entry_cmp}

-- the entry with the seen vector of both, counter by counter the greater
abbrev pub seen_by_both : Entry → Entry → Entry
seen_by_both a b = record { name = a.name; ino = a.ino; kind = a.kind; count = a.count; seen = joined a.seen b.seen }

-- of two entries of one pair the one with the greater count as a whole, and at equal counts what was seen by both
abbrev pub joined_by : Ordering → Entry → Entry → Entry
joined_by Less a b = b
joined_by Equal a b = seen_by_both a b
joined_by Greater a b = a

abbrev pub joined_entry : Entry → Entry → Entry
joined_entry a b = joined_by (nat_cmp a.count b.count) a b

-- the entries of a second list put among an entry and those after it, where `others` joins these to what is left
abbrev pub joined_from : Entry → (List Entry → List Entry) → List Entry → List Entry
joined_from a others [] = a ∷ others []
joined_from a others (b ∷ bs) = elim (entry_cmp a b) [
  | Less ↦ a ∷ others (b ∷ bs)
  | Equal ↦ joined_entry a b ∷ others bs
  | Greater ↦ b ∷ joined_from a others bs
]

-- the join of two lists of entries in order
abbrev pub joined_dirs : List Entry → List Entry → List Entry
joined_dirs [] bs = bs
joined_dirs (a ∷ as_after) bs = joined_from a (joined_dirs as_after) bs

-- an inode that both have has one kind
abbrev pub AgreeOnKinds : List Entry → List Entry → Type 0
AgreeOnKinds as_all bs = AllByRecursion (λ a. AllByRecursion (λ b. b.ino ≡ a.ino → b.kind ≡ a.kind) bs) as_all
