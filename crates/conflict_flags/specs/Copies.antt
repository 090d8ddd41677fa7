-- Copies of one file that several sites hold, and which of them are in conflict.
use Rattle.std.specs.Prelude.{ℕ, Bool, not, ◌&&◌, cond, List, [], ◌∷◌, filter, map, Option, Some, None}
use Rattle.std.specs.List.{list_any}
use Rattle.locus_ids.specs.declared.ids.Stamp.{Stamp}
use Rattle.version_vector.specs.Counters.{all_le}
use Rattle.commit_graph.specs.Versions.{same_stamp, is_stamp_below}
use Rattle.conflict_flags.specs.declared.held.Held.{Held}
use Rattle.conflict_flags.specs.declared.held.Least.{Least}
use Rattle.conflict_flags.specs.declared.held.Least.TheVariants.{Nothing, One, Two}

-- at most the other, and not the same
abbrev pub is_below : List ℕ → List ℕ → Bool
is_below a b = all_le a b && not (all_le b a)

-- its vector is below no other's
abbrev pub is_maximal : List Held → Held → Bool
is_maximal copies c = not (list_any (λ d. is_below c.vector d.vector) copies)

abbrev pub tops : List Held → List Held
tops copies = filter (is_maximal copies) copies

-- a copy at its place in a list that ascends by stamp, unless its version is there
abbrev pub with_held : Held → List Held → List Held
with_held c [] = c ∷ []
with_held c (d ∷ ds) = cond (is_stamp_below c.stamp d.stamp) (c ∷ d ∷ ds) (cond (same_stamp c.stamp d.stamp) (d ∷ ds) (d ∷ with_held c ds))

-- one copy of each version, the last of the list, ascending by stamp
abbrev pub by_stamp : List Held → List Held
by_stamp [] = []
by_stamp (c ∷ cs) = with_held c (by_stamp cs)

-- the maximal copies, one of each version, ascending by stamp
abbrev pub maxima : List Held → List Held
maxima copies = by_stamp (tops copies)

abbrev pub stamps_of : List Held → List Stamp
stamps_of copies = map (λ c. c.stamp) copies

-- the two least maximal stamps, or none where there are fewer
abbrev pub two_beside : List Held → Option (Stamp × Stamp)
two_beside copies = first_two (stamps_of (maxima copies))
  where
    first_two : List Stamp → Option (Stamp × Stamp)
    first_two [] = None
    first_two (a ∷ []) = None
    first_two (a ∷ b ∷ others) = Some (a, b)

-- what a list begins with
abbrev pub least_of : List Stamp → Least
least_of [] = Nothing
least_of (a ∷ []) = One a
least_of (a ∷ b ∷ others) = Two a b
