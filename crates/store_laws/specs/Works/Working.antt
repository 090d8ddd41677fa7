-- Working contents over the version on which an instance stands.
use Rattle.std.specs.Prelude.{ℕ, ◌≡◌, ◌<◌, ◌≤◌, false, List, [], ◌∷◌, length}
use Rattle.std.specs.List.{AllByRecursion}
use Rattle.locus_ids.specs.declared.config.Config.{Config}
use Rattle.locus_ids.specs.declared.ids.EpochId.{EpochId}
use Rattle.locus_ids.specs.declared.ids.FileId.{FileId}
use Rattle.locus_ids.specs.declared.ids.Stamp.{Stamp}
use Rattle.locus_ids.specs.Sizes.{file_bytes_max}
use Rattle.commit_graph.specs.Versions.{content_of}
use Rattle.commit_graph.specs.declared.history.Version.{Version}
use Rattle.file_content.specs.Pages.{has_page, pages_of}
use Rattle.file_effects.specs.Effects.{Effect}
use Rattle.stored_versions.specs.Changes.{IsKept}
use Rattle.the_run.specs.Worlds.{Line}
use Rattle.tree_model.specs.declared.instance.Instance.{Instance}
use Rattle.tree_model.specs.Histories.{history, stamped_content}
use Rattle.tree_model.specs.Tree.{tree_of}
use Rattle.tree_laws.specs.Printed.{entries}

-- page numbers below this one
abbrev pub AreBelow : ℕ → List ℕ → Type 0
AreBelow count pages = AllByRecursion (λ (p : ℕ). p < count) pages

-- each of them once
abbrev pub AreOnce : List ℕ → Type 0
AreOnce [] = Unit {0}
AreOnce (p ∷ ps) = (has_page ps p ≡ false) × AreOnce ps

-- A content that an instance works on, over that of its version: no longer than a file may be; the changed pages are pages of it, each
-- once; and any other page is that of the version.
pub record FitsOver (base content changed : List ℕ) : Type 0 where
  pub size : length content ≤ file_bytes_max
  pub below : AreBelow (pages_of (length content)) changed
  pub once : AreOnce changed
  pub kept : (page : ℕ) → page < pages_of (length content) → has_page changed page ≡ false → IsKept base content page

-- what an effect does on a content: it names each page that is another one
pub record ChangesPages (content : List ℕ) (e : Effect) : Type 0 where
  pub size : length e.content ≤ file_bytes_max
  pub below : AreBelow (pages_of (length e.content)) e.pages
  pub kept : (page : ℕ) → page < pages_of (length e.content) → has_page e.pages page ≡ false → IsKept content e.content page

-- no version is longer than a file may be
abbrev pub AreSized : List Version → Type 0
AreSized h = (f : FileId) (s : Stamp) → length (content_of h f s) ≤ file_bytes_max

-- an open instance works over the version on which it stands
abbrev pub Works : List Version → Instance → Type 0
Works h x = FitsOver (stamped_content h x.grant.file x.work.last) x.work.content x.work.changed

-- so are all versions of a trace, and what is open in its trees works so
pub record AllWork (c : Config) (trace : List Line) : Type 0 where
  pub sized : AreSized (history c (entries trace))
  pub works : (e : EpochId) (group : ℕ) → AllByRecursion (Works (history c (entries trace))) (tree_of c e group (entries trace)).instances
