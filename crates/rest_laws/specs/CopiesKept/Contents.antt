-- The content of a version, by what was told, and the copies that have it.
use Rattle.std.specs.Prelude.{ℕ, ◌≡◌, List, Some}
use Rattle.commit_graph.specs.Versions.{content_of}
use Rattle.role_steps.specs.Own.{Every}
use Rattle.role_steps.specs.Views.{Told}
use Rattle.role_steps.specs.declared.copies.FileCopy.{FileCopy}
use Rattle.the_run.specs.Worlds.{World, Place, place_at}
use Rattle.site_laws.specs.Vectors.Held.{copies_on}
use Rattle.site_laws.specs.Vectors.Written.{past_of}
use Rattle.site_laws.specs.Vectors.HistoryCommits.{commits_of}

-- the copy has the bytes that its version was committed with; the format's has none
abbrev pub HasItsContent : List Told → FileCopy → Type 0
HasItsContent past x = x.content ≡ content_of (commits_of x.file past) x.file x.stamp

-- so has each copy on a disk, of a running site or a stopped one
abbrev pub CopiesHaveContents : World → Type 0
CopiesHaveContents w = (s : ℕ) (p : Place) → place_at w s ≡ Some p → Every (HasItsContent (past_of w.trace)) (copies_on p)
