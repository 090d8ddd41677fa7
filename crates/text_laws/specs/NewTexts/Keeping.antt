-- Which versions of a file an epoch keeps, and how many, and which numbers requests then have.
use Rattle.std.specs.Prelude.{◌≡◌, ◌≤◌, ◌<◌, ◌⊎◌, ℕ, true, List, [], ◌∷◌, length}
use Rattle.std.specs.List.{AllByRecursion}
use Rattle.locus_ids.specs.declared.config.Config.{Config}
use Rattle.locus_ids.specs.declared.ids.EpochId.{EpochId}
use Rattle.locus_ids.specs.declared.ids.FileId.{FileId}
use Rattle.locus_ids.specs.declared.ids.Stamp.{Stamp}
use Rattle.commit_graph.specs.Versions.{is_ancestor}
use Rattle.commit_graph.specs.declared.history.Version.{Version}
use Rattle.trace_book.specs.declared.record.Record.{Record}
use Rattle.trace_book.specs.declared.record.Record.TheVariants as rec
use Rattle.tree_model.specs.Folds.{Trace}
use Rattle.tree_model.specs.Tree.{kept_in}
use Rattle.record_reading.specs.Ranges.{is_request}

-- the stamps ascend by site, then by number
abbrev pub IsBelow : Stamp → Stamp → Type 0
IsBelow a b = (a.site < b.site) ⊎ ((a.site ≡ b.site) × (a.n < b.n))

abbrev pub Ascend : List Stamp → Type 0
Ascend [] = Unit {0}
Ascend (x ∷ xs) = AllByRecursion (IsBelow x) xs × Ascend xs

-- of two of these of one site the earlier is an ancestor of the later
abbrev pub AreChained : List Version → FileId → List Stamp → Type 0
AreChained h f [] = Unit {0}
AreChained h f (x ∷ xs) = AllByRecursion (λ (y : Stamp). x.site ≡ y.site → x.n < y.n → is_ancestor h f x y ≡ true) xs × AreChained h f xs

-- no more versions of a file are kept in an epoch, before any of these records
abbrev pub KeepsFew : ℕ → Config → Trace → Type 0
KeepsFew most c [] = Unit {0}
KeepsFew most c (r ∷ before) = ((e : EpochId) (f : FileId) → length (kept_in c before e f) ≤ most) × KeepsFew most c before

-- a request that the record names has a number in range
abbrev pub AsksLow : Record → Type 0
AsksLow (rec.Look e id request f w result) = is_request request ≡ true
AsksLow (rec.Grant e id request i m f stamp ss) = is_request request ≡ true
AsksLow (rec.Refuse e id request i m f why) = is_request request ≡ true
AsksLow _ = Unit {0}
