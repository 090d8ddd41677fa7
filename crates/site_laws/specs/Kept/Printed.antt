-- The records of a run as the lawful trace has them, and its versions.
use Rattle.std.specs.Prelude.{ℕ, List, [], ◌∷◌}
use Rattle.locus_ids.specs.declared.config.Config.{Config}
use Rattle.locus_ids.specs.declared.ids.EpochId.{EpochId}
use Rattle.locus_ids.specs.declared.ids.FileId.{FileId}
use Rattle.locus_ids.specs.declared.ids.Stamp.{Stamp}
use Rattle.commit_graph.specs.declared.history.Version.{Version}
use Rattle.tree_model.specs.Folds.{Trace}
use Rattle.tree_model.specs.Histories.{history}
use Rattle.tree_model.specs.Tree.{candidates, kept_in}
use Rattle.role_steps.specs.Views.{Told, Shown}
use Rattle.the_run.specs.Worlds.{World, Line}

-- a printed record comes before the older ones; what only the laws see falls away
abbrev pub onto_printed : ℕ → Told → Trace → Trace
onto_printed n (Shown r) older = record { line = n; what = r } ∷ older
onto_printed n _ older = older

-- the printed records, the latest first
abbrev pub printed : List Line → Trace
printed [] = []
printed (x ∷ older) = onto_printed x.number x.told (printed older)

-- the versions of the run: each commit, the newest first, after those of the format
abbrev pub versions_of : Config → World → List Version
versions_of c w = history c (printed w.trace)

-- the versions of the file that members brought to the epoch or that were published in it
abbrev pub known_in : Config → World → EpochId → FileId → List Stamp
known_in c w e file = candidates c (printed w.trace) e file

-- those of them that are kept there: no proper ancestor of another
abbrev pub kept_of : Config → World → EpochId → FileId → List Stamp
kept_of c w e file = kept_in c (printed w.trace) e file
