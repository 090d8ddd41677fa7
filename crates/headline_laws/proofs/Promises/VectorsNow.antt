-- After each record written vectors tell which version is an ancestor of which.
use Rattle.std.proofs.Common.{◌≡◌, ℕ, ◌+◌, ◌==◌, Bool, true, false, cond, ◌&&◌, ◌||◌, List, [], ◌∷◌, refl, sym, ◌∙◌, ap, subst, arith, inl, inr, ◌⊎◌}
use Rattle.std.proofs.lemmas.Bool.Decides.{nat_tests}
use Rattle.role_steps.proofs.of_plain_facts.Tests.{and_second, or_either, true_false}
use Rattle.locus_ids.specs.declared.config.Config.{Config}
use Rattle.locus_ids.specs.declared.sites.Sites.{Sites}
use Rattle.locus_ids.specs.declared.ids.FileId.{FileId}
use Rattle.locus_ids.specs.declared.ids.Stamp.{Stamp}
use Rattle.commit_graph.specs.declared.history.Version.{Version}
use Rattle.commit_graph.specs.Versions.{is_in, is_proper_ancestor, is_version, same_file, same_stamp}
use Rattle.commit_graph.proofs.Names.{same_stamp_eq}
use Rattle.trace_book.specs.declared.record.Record.{Record}
use Rattle.trace_book.specs.declared.record.Record.TheVariants as says
use Rattle.role_steps.specs.Views.{Told, Shown}
use Rattle.schedule_lines.specs.Cluster.{config_of}
use Rattle.schedule_lines.specs.declared.line.ScheduleLine.{ScheduleLine}
use Rattle.the_run.specs.Runs.{run}
use Rattle.the_run.specs.Worlds.{Line}
use Rattle.tree_model.specs.Folds.{Trace}
use Rattle.tree_model.specs.Histories.{format_stamp, format_version, format_versions, history}
use Rattle.site_laws.specs.Vectors.HistoryCommits.{CommitsAreSited, IsFormatStamp, StampsAreOnce, commits_of, real_parents, with_record, with_told}
use Rattle.site_laws.specs.Vectors.Written.{CommitsAreNumbered, past_of}
use Rattle.site_laws.proofs.Vectors.FactsRun.{run_numbered}
use Rattle.site_laws.proofs.Vectors.HistoryHistory.{Sound, all_own, sound, vectors_tell}
use Rattle.site_laws.proofs.Vectors.HistorySited.{run_sited}
use Rattle.site_laws.proofs.Packs.InstanceAgree.{run_agrees}
use Rattle.site_laws.specs.Kept.Printed.{onto_printed, printed}
use Rattle.site_laws.specs.Kept.Roots.{RootsFollow}
use Rattle.site_laws.specs.Kept.Vectors.{has_below}
use Rattle.site_laws.proofs.Kept.Alike.{alike}
use Rattle.site_laws.proofs.Kept.Grown.{versions_grow}
use Rattle.site_laws.proofs.Kept.Ordered.{ordered}
use Rattle.site_laws.proofs.Kept.RootsRun.{run_roots}
use Rattle.site_laws.proofs.Kept.Standing.{StandsIn, under_all}
use Rattle.site_laws.proofs.Kept.VectorsKeep.{Grounds, agree}
use Rattle.tree_laws.specs.Printed.{entries}
use Rattle.headline_laws.proofs.Promises.OneTrace.{tree_names, version_names}

-- ---- what stands ----

-- a version of the format is of a root directory
first_in : (f : FileId) (a : Stamp) (group : ℕ) (packs : List Sites) → is_in (format_versions group packs) f a ≡ true → IsFormatStamp a × (f.ino ≡ 1)
first_in f a group [] h = absurd (true_false (sym h))
first_in f a group (p ∷ rest) h = at (p.0 == 0) h (first_in f a (group + 1) rest)
  where
    format_is : format_stamp ≡ a → IsFormatStamp a
    format_is e = record { site = ap (λ (s : Stamp). s.site) (sym e); number = ap (λ (s : Stamp). s.n) (sym e) }

    root : (b : Bool) → same_file (format_version group).file f ≡ b → (b && same_stamp format_stamp a) ≡ true → f.ino ≡ 1
    root true e k = grind (arith, nat_tests)
    root false e k = absurd (true_false (sym k))

    over : (is_version f a (format_version group) ≡ true) ⊎ (is_in (format_versions (group + 1) rest) f a ≡ true) → (is_in (format_versions (group + 1) rest) f a ≡ true → IsFormatStamp a × (f.ino ≡ 1)) → IsFormatStamp a × (f.ino ≡ 1)
    over (inl e) later = (format_is (same_stamp_eq format_stamp a (and_second (same_file (format_version group).file f) (same_stamp format_stamp a) e)), root (same_file (format_version group).file f) refl e)
    over (inr e) later = later e

    at : (b : Bool) → is_in (cond b (format_versions (group + 1) rest) (format_version group ∷ format_versions (group + 1) rest)) f a ≡ true → (is_in (format_versions (group + 1) rest) f a ≡ true → IsFormatStamp a × (f.ino ≡ 1)) → IsFormatStamp a × (f.ino ≡ 1)
    at true k later = later k
    at false k later = over (or_either (is_version f a (format_version group)) (is_in (format_versions (group + 1) rest) f a) k) later

-- what stands was committed, or is the format's of a root directory
stands : (c : Config) (f : FileId) (a : Stamp) (trace : List Line) → is_in (history c (printed trace)) f a ≡ true → StandsIn f (commits_of f (past_of trace)) a
stands c f a [] h = inl (first_in f a 0 c.packs h)
stands c f a (x ∷ older) h = over x.told (stands c f a older) h
  where
    more : (v : Version) (b : Bool) → StandsIn f (commits_of f (past_of older)) a → StandsIn f (cond b (v ∷ commits_of f (past_of older)) (commits_of f (past_of older))) a
    more v b (inl k) = inl k
    more v true (inr k) = inr (later (is_version f a v) k)
      where
        later : (y : Bool) → is_in (commits_of f (past_of older)) f a ≡ true → (y || is_in (commits_of f (past_of older)) f a) ≡ true
        later true e = refl
        later false e = e
    more v false (inr k) = inr k

    committed : (g : FileId) (s : ℕ) (stamp : Stamp) (parents : List Stamp) (content : List ℕ) (b : Bool) → same_file g f ≡ b → (b && same_stamp stamp a) ≡ true → StandsIn f (cond b (record { file = g; site = s; stamp = stamp; parents = real_parents parents; content = content } ∷ commits_of f (past_of older)) (commits_of f (past_of older))) a
    committed g s stamp parents content true e k = inr (ap (λ (y : Bool). (y && same_stamp stamp a) || is_in (commits_of f (past_of older)) f a) e ∙ ap (λ (y : Bool). y || is_in (commits_of f (past_of older)) f a) k)
    committed g s stamp parents content false e k = absurd (true_false (sym k))

    told : (r : Record) → (is_in (history c (printed older)) f a ≡ true → StandsIn f (commits_of f (past_of older)) a) → is_in (history c (record { line = x.number; what = r } ∷ printed older)) f a ≡ true → StandsIn f (with_record f r (commits_of f (past_of older))) a
    told (says.Commit g s stamp parents content) later k = by_case (or_either (same_file g f && same_stamp stamp a) (is_in (history c (printed older)) f a) k)
      where
        by_case : (same_file g f && same_stamp stamp a ≡ true) ⊎ (is_in (history c (printed older)) f a ≡ true) → StandsIn f (with_record f (says.Commit g s stamp parents content) (commits_of f (past_of older))) a
        by_case (inl e) = committed g s stamp parents content (same_file g f) refl e
        by_case (inr e) = more (record { file = g; site = s; stamp = stamp; parents = real_parents parents; content = content }) (same_file g f) (later e)
    told _ later k = later k

    over : (z : Told) → (is_in (history c (printed older)) f a ≡ true → StandsIn f (commits_of f (past_of older)) a) → is_in (history c (onto_printed x.number z (printed older))) f a ≡ true → StandsIn f (with_told f z (commits_of f (past_of older))) a
    over (Shown r) later k = told r later k
    over _ later k = later k

-- ---- what is told of commits ----

pub record ToldSo (trace : List Line) : Type 0 where
  pub numbered : CommitsAreNumbered (past_of trace)
  pub sited : CommitsAreSited (past_of trace)
  pub roots : RootsFollow (past_of trace)

pub told_before : (x : Line) (older : List Line) → ToldSo (x ∷ older) → ToldSo older
told_before x older k = record { numbered = k.numbered.1; sited = k.sited.1; roots = k.roots.1 }

pub run_told : (lines : List ScheduleLine) → ToldSo (run lines).trace
run_told lines = record {
  numbered = run_numbered (config_of lines) lines (run_agrees (config_of lines) lines);
  sited = (run_sited (config_of lines) lines).commits;
  roots = run_roots (config_of lines) lines;
}

pub grounds : (c : Config) (f : FileId) (trace : List Line) → ToldSo trace → StampsAreOnce (past_of trace) → Grounds c f trace
grounds c f trace k once =
    let s : Sound f (past_of trace) = sound f (past_of trace) k.numbered k.sited (once f) in
    record {
      counted = s.counted;
      own = all_own f (past_of trace) k.numbered k.sited;
      tells = vectors_tell f (past_of trace) k.numbered k.sited (once f);
      same = alike c f trace k.numbered k.sited (once f);
      order = ordered f (history c (printed trace)) (versions_grow c f trace k.numbered k.sited (once f));
      under = λ root. under_all c f root trace k.numbered k.roots;
    }

-- ---- the law ----

-- of two versions of the history
abbrev pub VectorsTellNow : Config → Trace → Type 0
VectorsTellNow c now = (f : FileId) (a b : Stamp) → is_in (history c now) f a ≡ true → is_in (history c now) f b ≡ true → is_proper_ancestor (history c now) f a b ≡ has_below (history c now) f a b

vectors_printed : (c : Config) (trace : List Line) → ToldSo trace → StampsAreOnce (past_of trace) → VectorsTellNow c (printed trace)
vectors_printed c trace k once f a b ha hb = agree c f trace (grounds c f trace k once) a b (stands c f a trace ha) (stands c f b trace hb)

pub vectors_now : (c : Config) (trace : List Line) → ToldSo trace → StampsAreOnce (past_of trace) → VectorsTellNow c (entries trace)
vectors_now c trace k once = subst (VectorsTellNow c) (version_names trace ∙ sym (tree_names trace)) (vectors_printed c trace k once)
