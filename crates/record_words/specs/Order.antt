-- What the numbers of a word bound, and which versions stand before which.
use Rattle.std.specs.Prelude.{ℕ, ◌==◌, Bool, true, ◌&&◌, ◌||◌, cond, List, [], ◌∷◌, nat_lt}
use Rattle.locus_ids.specs.declared.ids.Brought.{Brought}
use Rattle.locus_ids.specs.declared.ids.Stamp.{Stamp}

-- the greatest number that a record says
abbrev pub number_max : ℕ
number_max = 4294967295

-- a number that is 0 exactly where the site is
abbrev pub agrees : ℕ → ℕ → Bool
agrees site n = cond (site == 0) (n == 0) (nat_lt 0 n)

abbrev pub is_stamp_before : Stamp → Stamp → Bool
is_stamp_before a b = nat_lt a.site b.site || (a.site == b.site && nat_lt a.n b.n)

abbrev pub is_brought_before : Brought → Brought → Bool
is_brought_before a b = nat_lt a.ino b.ino || (a.ino == b.ino && is_stamp_before a.stamp b.stamp)

-- each version stands before the next
abbrev pub ascend : List Brought → Bool
ascend [] = true
ascend (a ∷ []) = true
ascend (a ∷ b ∷ more) = is_brought_before a b && ascend (b ∷ more)
