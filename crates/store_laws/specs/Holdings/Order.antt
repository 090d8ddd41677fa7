-- How versions stand to each other in a history that is made version by version.
use Rattle.std.specs.Prelude.{◌≡◌, true, false, List, [], ◌∷◌}
use Rattle.std.specs.List.{AllByRecursion}
use Rattle.locus_ids.specs.declared.ids.FileId.{FileId}
use Rattle.locus_ids.specs.declared.ids.Stamp.{Stamp}
use Rattle.commit_graph.specs.declared.history.Version.{Version}
use Rattle.commit_graph.specs.Versions.{is_ancestor, is_in}

-- each version has a new stamp, and parents that stand before it
abbrev pub IsWellMade : List Version → Type 0
IsWellMade [] = Unit {0}
IsWellMade (v ∷ older) = (is_in older v.file v.stamp ≡ false) × AllByRecursion (λ (p : Stamp). is_in older v.file p ≡ true) v.parents × IsWellMade older

-- Ancestors of what stands stand, an ancestor of an ancestor is one, and two that are ancestors of each other are one.
pub record AncestorsAreAnOrder (h : List Version) : Type 0 where
  pub stand : (f : FileId) (a b : Stamp) → is_in h f b ≡ true → is_ancestor h f a b ≡ true → is_in h f a ≡ true
  pub through : (f : FileId) (a b d : Stamp) → is_in h f d ≡ true → is_ancestor h f a b ≡ true → is_ancestor h f b d ≡ true → is_ancestor h f a d ≡ true
  pub one : (f : FileId) (a b : Stamp) → is_in h f b ≡ true → is_ancestor h f a b ≡ true → is_ancestor h f b a ≡ true → a ≡ b
