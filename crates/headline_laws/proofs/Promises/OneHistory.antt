-- The names of the history of a run are names of one.
use Rattle.std.proofs.Common.{◌≡◌, Bool, true, false, cond, List, [], ◌∷◌, ◌++◌, filter, map, refl, ap}
use Rattle.locus_ids.specs.declared.config.Config.{Config}
use Rattle.locus_ids.specs.declared.ids.FileId.{FileId}
use Rattle.commit_graph.specs.Versions.{same_file}
use Rattle.commit_graph.specs.declared.history.Version.{Version}
use Rattle.trace_book.specs.declared.record.Record.{Record}
use Rattle.trace_book.specs.declared.record.Record.TheVariants as says
use Rattle.role_steps.specs.Views.{Told, Shown}
use Rattle.the_run.specs.Worlds.{World, Line}
use Rattle.tree_model.specs.Histories.{format_versions, history}
use Rattle.site_laws.specs.Vectors.HistoryCommits.{commits_of, real_parents, with_record}
use Rattle.site_laws.specs.Vectors.HistoryCommits.{with_told as with_commit}
use Rattle.site_laws.specs.Vectors.Written.{past_of}
use Rattle.row_laws.specs.Shown.{shown, with_told}
use Rattle.headline_laws.specs.Promises.OneHistory.{HistoryIsOne, with_committed}
use Rattle.headline_laws.proofs.Promises.OneTrace.{version_names}

-- the commits of these records
abbrev one_more : Record → List Version → List Version
one_more (says.Commit f s stamp parents content) older = record { file = f; site = s; stamp = stamp; parents = parents; content = content } ∷ older
one_more _ older = older

abbrev more_told : Told → List Version → List Version
more_told (Shown r) older = one_more r older
more_told _ older = older

abbrev commits : List Line → List Version
commits [] = []
commits (x ∷ older) = more_told x.told (commits older)

of_trace : (c : Config) (xs : List Line) → history c (shown xs) ≡ commits xs ++ format_versions 0 c.packs
of_trace c [] = refl
of_trace c (x ∷ older) = over x.told (of_trace c older)
  where
    told : (r : Record) → history c (shown older) ≡ commits older ++ format_versions 0 c.packs → history c (record { line = x.number; what = r } ∷ shown older) ≡ one_more r (commits older) ++ format_versions 0 c.packs
    told (says.Commit f s stamp parents content) e = ap (λ (h : List Version). record { file = f; site = s; stamp = stamp; parents = parents; content = content } ∷ h) e
    told _ e = e

    over : (z : Told) → history c (shown older) ≡ commits older ++ format_versions 0 c.packs → history c (with_told x.number z (shown older)) ≡ more_told z (commits older) ++ format_versions 0 c.packs
    over (Shown r) e = told r e
    over _ e = e

abbrev of_file : FileId → List Version → List Version
of_file f h = map with_committed (filter (λ (v : Version). same_file v.file f) h)

of_files : (f : FileId) (xs : List Line) → commits_of f (past_of xs) ≡ of_file f (commits xs)
of_files f [] = refl
of_files f (x ∷ older) = over x.told (of_files f older)
  where
    told : (r : Record) → commits_of f (past_of older) ≡ of_file f (commits older) → with_record f r (commits_of f (past_of older)) ≡ of_file f (one_more r (commits older))
    told (says.Commit g s stamp parents content) e = by_test (same_file g f)
      where
        by_test : (b : Bool) → cond b (record { file = g; site = s; stamp = stamp; parents = real_parents parents; content = content } ∷ commits_of f (past_of older)) (commits_of f (past_of older))
            ≡ map with_committed (cond b (record { file = g; site = s; stamp = stamp; parents = parents; content = content } ∷ filter (λ (v : Version). same_file v.file f) (commits older)) (filter (λ (v : Version). same_file v.file f) (commits older)))
        by_test true = ap (λ (h : List Version). record { file = g; site = s; stamp = stamp; parents = real_parents parents; content = content } ∷ h) e
        by_test false = e
    told _ e = e

    over : (z : Told) → commits_of f (past_of older) ≡ of_file f (commits older) → with_commit f z (commits_of f (past_of older)) ≡ of_file f (more_told z (commits older))
    over (Shown r) e = told r e
    over _ e = e

pub history_is_one : (c : Config) (w : World) → HistoryIsOne c w
history_is_one c w = record {
  commits = commits w.trace;
  of_trace = of_trace c w.trace;
  of_files = λ f. of_files f w.trace;
  of_versions = ap (history c) (version_names w.trace);
}
