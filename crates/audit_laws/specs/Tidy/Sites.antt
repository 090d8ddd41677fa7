-- What is true of the sites in the past of consistent records.
use Rattle.std.specs.Prelude.{◌≡◌, ◌≤◌, false, List, [], length, filter, map, None, Some}
use Rattle.std.specs.List.{AllByRecursion}
use Rattle.locus_ids.specs.declared.config.Config.{Config}
use Rattle.locus_ids.specs.declared.ids.FileId.{FileId}
use Rattle.locus_ids.specs.declared.ids.EpochId.{EpochId}
use Rattle.commit_graph.specs.Versions.{same_file}
use Rattle.commit_graph.specs.Vectors.{numbers_from}
use Rattle.promises.specs.Past.{Site, Copy}

-- a file has one version among these at most
abbrev pub HasEachOnce : List Copy → Type 0
HasEachOnce copies = (f : FileId) → length (filter (λ (v : Copy). same_file v.file f) copies) ≤ 1

pub record SiteStands (s : Site) : Type 0 where
  pub held : HasEachOnce s.held
  -- a stopped site is in no epoch and has no descriptors
  pub outside : s.up ≡ false → s.epoch ≡ None
  pub shut : s.up ≡ false → s.descriptors ≡ []
  -- the epoch that a site is in is the one that it joined last
  pub joined : (e : EpochId) → s.epoch ≡ Some e → s.joined ≡ Some e

pub record SitesStand (c : Config) (sites : List Site) : Type 0 where
  -- they are numbered from 1 on, in order
  pub numbers : map (λ (s : Site). s.number) sites ≡ numbers_from 1 c.sites
  pub each : AllByRecursion SiteStands sites
