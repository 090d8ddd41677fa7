-- Which pages of a version differ from those of an earlier one, by the contents that the trace tells: what storage sites remember, what
-- wants and deltas carry, and what is pulled over a copy.
use Rattle.std.specs.Prelude.{ℕ, ◌≡◌, ◌⊎◌, ◌<◌, true, false, List, length, take, Option, None, Some}
use Rattle.locus_ids.specs.declared.config.Config.{Config}
use Rattle.locus_ids.specs.declared.ids.EpochId.{EpochId}
use Rattle.locus_ids.specs.declared.ids.FileId.{FileId}
use Rattle.locus_ids.specs.declared.ids.Stamp.{Stamp}
use Rattle.commit_graph.specs.Versions.{content_of}
use Rattle.commit_graph.specs.Vectors.{vector_of}
use Rattle.tree_model.specs.of_file_content.Pages.{page_of, pages_from, pages_of}
use Rattle.lawful_trace.specs.of_tree_model.Epochs.{has_joined}
use Rattle.lawful_trace.specs.of_tree_model.Files.{HeldVersion, held_version}
use Rattle.lawful_trace.specs.of_tree_model.Histories.{history}
use Rattle.the_run.specs.of_role_steps.Own.{Every}
use Rattle.the_run.specs.of_role_steps.Pulling.{bytes_in, pull_of, wanted_pages}
use Rattle.the_run.specs.of_role_steps.Versions.{is_below}
use Rattle.the_run.specs.of_role_steps.Views.{FileSteps}
use Rattle.the_run.specs.of_role_steps.declared.copies.Step.{Step}
use Rattle.the_run.specs.of_role_steps.declared.pulls.Pull.{Pull}
use Rattle.the_run.specs.Kept.{Among}
use Rattle.the_run.specs.Worlds.{Line}
use Rattle.tree_laws.specs.Printed.{entries}
use Rattle.tree_laws.specs.Instances.{Stands}

-- each page of the later content but these is that of the earlier one, as far as the later one has bytes in it
abbrev pub AgreeBut : (earlier later pages : List ℕ) → Type 0
AgreeBut earlier later pages = (page : ℕ) → page < pages_of (length later) → Among page pages ⊎ (page_of later page ≡ take (bytes_in (length later) page) (page_of earlier page))

-- two versions of a file that stand, and differ in these pages alone
pub record DifferIn (c : Config) (trace : List Line) (f : FileId) (earlier later : Stamp) (pages : List ℕ) : Type 0 where
  pub earlier_stands : Stands c trace f earlier
  pub later_stands : Stands c trace f later
  pub agree : AgreeBut (content_of (history c (entries trace)) f earlier) (content_of (history c (entries trace)) f later) pages

-- ---- what is remembered ----

-- the version of a step differs in its pages alone from the one that was there before it
abbrev pub StepOver : Config → List Line → FileId → Option Stamp → Step → Type 0
StepOver c trace f None x = Stands c trace f x.after
StepOver c trace f (Some before) x = DifferIn c trace f before x.after x.pages

abbrev pub StepFact : Config → List Line → FileId → Step → Type 0
StepFact c trace f x = StepOver c trace f x.before x

abbrev pub StepsFact : Config → List Line → List FileSteps → Type 0
StepsFact c trace all = Every (λ (r : FileSteps). Every (StepFact c trace r.file) r.steps) all

-- ---- what is asked and answered ----

-- a site of the epoch has asked which pages to pull of a version over an own one
pub record WantFact (c : Config) (trace : List Line) (e : EpochId) (site : ℕ) (f : FileId) (wanted own : Stamp) : Type 0 where
  pub wanted_stands : Stands c trace f wanted
  pub own_stands : Stands c trace f own
  pub joined : has_joined (entries trace) site e ≡ true

-- it is answered to a site of the epoch
pub record AnswerFact (c : Config) (trace : List Line) (e : EpochId) (site : ℕ) (f : FileId) (wanted : Stamp) : Type 0 where
  pub wanted_stands : Stands c trace f wanted
  pub joined : has_joined (entries trace) site e ≡ true

-- the wanted version, or one above it, is pulled over the own version
pub record PullsAbove (c : Config) (trace : List Line) (f : FileId) (wanted own : Stamp) (p : Pull) : Type 0 where
  pub base_is : p.base ≡ Some own
  pub above : (p.stamp ≡ wanted) ⊎ (is_below (vector_of (history c (entries trace)) f wanted) p.vector ≡ true)

-- A site that has asked so has the own version still, over which it pulls the wanted one or one above it; or what it has isn't below
-- the wanted version any more. So in an epoch a site wants one version over one own version alone.
pub record WantsOver (c : Config) (trace : List Line) (site : ℕ) (pulls : List Pull) (f : FileId) (wanted own : Stamp) : Type 0 where
  pub now : HeldVersion
  pub held : held_version c (entries trace) site f ≡ Some now
  pub over : ((now.stamp ≡ own) × ((p : Pull) × (pull_of pulls f ≡ Some p) × PullsAbove c trace f wanted own p)) ⊎ (is_below now.vector (vector_of (history c (entries trace)) f wanted) ≡ false)

-- the pages answer what a site has asked over some own version, and the two differ in these alone
pub record DeltaFact (c : Config) (trace : List Line) (site : ℕ) (pulls : List Pull) (f : FileId) (wanted : Stamp) (pages : List ℕ) : Type 0 where
  pub own : Stamp
  pub asked : WantsOver c trace site pulls f wanted own
  pub differ : DifferIn c trace f own wanted pages

-- ---- what is pulled ----

-- a pull begins over a version that stands: the site has that one still, or what it has isn't below the one that is pulled
pub record IsBased (c : Config) (trace : List Line) (held : Option HeldVersion) (p : Pull) (base : Stamp) : Type 0 where
  pub stands : Stands c trace p.file base
  pub now : HeldVersion
  pub has : held ≡ Some now
  pub over : (now.stamp ≡ base) ⊎ (is_below now.vector p.vector ≡ false)

abbrev pub BaseFact : Config → List Line → Option HeldVersion → Pull → Option Stamp → Type 0
BaseFact c trace held p None = Unit {0}
BaseFact c trace held p (Some base) = IsBased c trace held p base

-- over what the site has of the file now: all pages where it has none; and over the version from which the pull begins, while that is
-- below it, all that differ, once these are known
abbrev pub PullsOver : Option HeldVersion → Pull → HeldVersion → Type 0
PullsOver None p version = p.base ≡ None → p.wanted ≡ Some (pages_from 0 (pages_of (length version.content)))
PullsOver (Some own) p version = p.base ≡ Some own.stamp → is_below own.vector p.vector ≡ true → (p.wanted ≡ None) ⊎ AgreeBut own.content version.content (wanted_pages p)
