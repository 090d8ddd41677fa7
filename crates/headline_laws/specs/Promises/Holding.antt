-- Each commit is held at its site from its record on.
use Rattle.std.specs.Prelude.{ℕ, ◌≡◌, true, List, [], ◌∷◌, Some}
use Rattle.locus_ids.specs.declared.config.Config.{Config}
use Rattle.locus_ids.specs.declared.ids.FileId.{FileId}
use Rattle.locus_ids.specs.declared.ids.Stamp.{Stamp}
use Rattle.commit_graph.specs.Versions.{is_ancestor}
use Rattle.trace_book.specs.declared.record.Record.TheVariants.{Commit}
use Rattle.the_run.specs.Kept.{Among}
use Rattle.tree_model.specs.Folds.{Trace}
use Rattle.tree_model.specs.Histories.{held, history}

-- so it is after each of the records, and before the first
abbrev pub AtEachMoment : (Trace → Type 0) → Trace → Type 0
AtEachMoment P [] = P []
AtEachMoment P (r ∷ before) = P (r ∷ before) × AtEachMoment P before

-- by these records the site holds the version, or one that it is an ancestor of
pub record HoldsAtLeast (c : Config) (now : Trace) (site : ℕ) (f : FileId) (stamp : Stamp) : Type 0 where
  pub holds : Stamp
  pub held : held c now site f ≡ Some holds
  pub above : is_ancestor (history c now) f stamp holds ≡ true

-- the site of each commit so far holds it so
abbrev pub CommitsAreHeld : Config → Trace → Type 0
CommitsAreHeld c now = (line site : ℕ) (f : FileId) (stamp : Stamp) (parents : List Stamp) (content : List ℕ) → Among (record { line = line; what = Commit f site stamp parents content }) now → HoldsAtLeast c now site f stamp

-- From its record on each commit is what its site holds, or an ancestor of that, whatever stops, leaves and adopts.
abbrev pub CommitsStayHeld : Config → Trace → Type 0
CommitsStayHeld c trace = AtEachMoment (CommitsAreHeld c) trace
