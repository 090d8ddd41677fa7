-- Which sites have a pack of a file's group, and what they alone do with the file.
use Rattle.std.specs.Prelude.{ℕ, ◌≡◌, true, Some}
use Rattle.locus_ids.specs.Sites.{has}
use Rattle.locus_ids.specs.declared.sites.Sites.{Sites}
use Rattle.locus_ids.specs.declared.config.Config.{Config}
use Rattle.trace_book.specs.declared.record.Record.{Record}
use Rattle.trace_book.specs.declared.record.Record.TheVariants as says
use Rattle.role_steps.specs.Own.{Every}
use Rattle.role_steps.specs.Views.{Told, Shown, Begins, Reserves, pack_sites}
use Rattle.role_steps.specs.declared.copies.FileCopy.{FileCopy}
use Rattle.the_run.specs.Worlds.{World, Place, place_at}
use Rattle.site_laws.specs.Vectors.Held.{copies_on}
use Rattle.site_laws.specs.Packs.Making.{IsOwnNumber, Originates}
use Rattle.site_laws.specs.Vectors.Written.{past_of}

-- the site has a pack of the group
abbrev pub HasPack : Config → ℕ → ℕ → Type 0
HasPack c group site = has (pack_sites c group) site ≡ true

-- each site of the set has one
abbrev pub InPacks : Config → ℕ → Sites → Type 0
InPacks c group set = (site : ℕ) → has set site ≡ true → HasPack c group site

-- a file of this group and set lies at the site as it may
pub record LiesAt (c : Config) (site group : ℕ) (set : Sites) : Type 0 where
  pub here : HasPack c group site
  pub all : InPacks c group set

abbrev pub CopyPacked : Config → ℕ → FileCopy → Type 0
CopyPacked c site x = LiesAt c site x.file.group x.set

-- a version is made, adopted and granted where a pack is; one that follows no other has a number of its site
abbrev pub RecordPacked : Config → Record → Type 0
RecordPacked c (says.Commit file s stamp parents content) = HasPack c file.group s × Originates s file.ino parents
RecordPacked c (says.Adopt file s stamp) = HasPack c file.group s
RecordPacked c (says.Grant e call request inst m file stamp ss) = HasPack c file.group ss
RecordPacked c _ = Unit {0}

-- and so is an instance begun, and the number of a file reserved, which is one of the site's own
abbrev pub ToldPacked : Config → Told → Type 0
ToldPacked c (Shown r) = RecordPacked c r
ToldPacked c (Begins s e inst file) = HasPack c file.group s
ToldPacked c (Reserves s e inst file) = HasPack c file.group s × IsOwnNumber s file.ino
ToldPacked c _ = Unit {0}

-- the law
pub record FilesLieInPacks (c : Config) (w : World) : Type 0 where
  pub told : Every (ToldPacked c) (past_of w.trace)
  pub disks : (s : ℕ) (p : Place) → place_at w s ≡ Some p → Every (CopyPacked c s) (copies_on p)
