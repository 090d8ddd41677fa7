-- Open instances of one file exclude each other, as the one tree has them.
use Rattle.std.specs.Prelude.{◌≡◌, true, List, [], ◌∷◌}
use Rattle.std.specs.List.{AllByRecursion}
use Rattle.commit_graph.specs.Grants.{is_read}
use Rattle.commit_graph.specs.Versions.{same_file}
use Rattle.tree_model.specs.declared.instance.Instance.{Instance}

-- two open instances stand side by side: if they are of one file, both only read
abbrev pub MayStandBy : Instance → Instance → Type 0
MayStandBy x y = same_file x.grant.file y.grant.file ≡ true → (is_read x.grant.mode ≡ true) × (is_read y.grant.mode ≡ true)

-- any two of these do
abbrev pub AreAlone : List Instance → Type 0
AreAlone [] = Unit {0}
AreAlone (x ∷ xs) = AllByRecursion (MayStandBy x) xs × AreAlone xs
