-- Of two versions of a file that an epoch knows, and that are of one site, the earlier is an ancestor of the later.
use Rattle.std.proofs.Common.{◌≡◌, ◌<◌, ◌≤◌, true, false, List, [], ◌∷◌, sym, ◌∙◌, subst, arith, ◌⊎◌, inl, inr}
use Rattle.std.specs.List.{AllByRecursion}
use Rattle.plain_facts.proofs.Tests.{false_unless, or_either, true_false}
use Rattle.locus_ids.specs.Sizes.{sites_max}
use Rattle.locus_ids.specs.declared.config.Config.{Config}
use Rattle.locus_ids.specs.declared.ids.EpochId.{EpochId}
use Rattle.locus_ids.specs.declared.ids.FileId.{FileId}
use Rattle.locus_ids.specs.declared.ids.Stamp.{Stamp}
use Rattle.commit_graph.specs.declared.history.Version.{Version}
use Rattle.commit_graph.specs.Versions.{is_ancestor, is_in, is_version}
use Rattle.conflict_flags.specs.Written.{is_format}
use Rattle.conflict_flags.proofs.Ancestors.{Each, Named, named}
use Rattle.conflict_flags.proofs.Vectors.{IsOwn}
use Rattle.tree_model.specs.Histories.{history}
use Rattle.tree_model.specs.Tree.{candidates}
use Rattle.role_steps.specs.Own.{Every}
use Rattle.the_run.specs.Worlds.{Line}
use Rattle.rest_laws.specs.of_site_laws.Vectors.HistoryCommits.{CommitsAreSited, StampsAreOnce, VectorsTell, commits_of}
use Rattle.rest_laws.specs.of_site_laws.Vectors.Written.{CommitsAreNumbered, past_of}
use Rattle.rest_laws.proofs.of_site_laws.Vectors.HistoryHistory.{Sound, all_own, sound, vectors_tell}
use Rattle.rest_laws.specs.of_site_laws.Kept.Known.{IsVersion, NamesAreVersions}
use Rattle.rest_laws.specs.of_site_laws.Kept.Printed.{printed}
use Rattle.rest_laws.proofs.of_site_laws.Kept.Alike.{Alike, alike, format_not_in}
use Rattle.rest_laws.proofs.of_site_laws.Kept.Candidates.{candidates_stand}
use Rattle.rest_laws.proofs.of_site_laws.Kept.Ordered.{version_is}
use Rattle.rest_laws.proofs.of_site_laws.Kept.Standing.{StandsIn, written_stands}
use Rattle.text_laws.specs.NewTexts.Keeping.{AreChained}

-- what is known of the versions that these lines tell
pub record Versions (t : List Line) : Type 0 where
  pub numbered : CommitsAreNumbered (past_of t)
  pub sited : CommitsAreSited (past_of t)
  pub once : StampsAreOnce (past_of t)
  pub names : NamesAreVersions (past_of t)

abbrev Stand : List Line → FileId → Stamp → Type 0
Stand t f s = StandsIn f (commits_of f (past_of t)) s

-- ---- sites ----

in_high : (f : FileId) (h : List Version) (s : Stamp) → Each IsOwn h → is_in h f s ≡ true → s.site ≤ sites_max
in_high f [] s own e = absurd (true_false (sym e))
in_high f (v ∷ older) s own e = over (λ k. in_high f older s own.1 k) (or_either (is_version f s v) (is_in older f s) e)
  where
    over : (is_in older f s ≡ true → s.site ≤ sites_max) → (is_version f s v ≡ true) ⊎ (is_in older f s ≡ true) → s.site ≤ sites_max
    over before (inl k) = subst (λ (y : Stamp). y.site ≤ sites_max) (version_is f v s k).1 own.0.most
    over before (inr k) = before k

site_high : (t : List Line) (f : FileId) (s : Stamp) → Versions t → Stand t f s → s.site ≤ sites_max
site_high t f s k (inl h) = let none : s.site ≡ 0 = h.0.site in omega (arith, none)
site_high t f s k (inr h) = in_high f (commits_of f (past_of t)) s (all_own f (past_of t) k.numbered k.sited) h

-- ---- two versions ----

abbrev Chain : Config → List Line → FileId → Stamp → Stamp → Type 0
Chain c t f x y = x.site ≡ y.site → x.n < y.n → is_ancestor (history c (printed t)) f x y ≡ true

chain : (c : Config) (t : List Line) (f : FileId) (x y : Stamp) → Versions t → Stand t f x → Stand t f y → Chain c t f x y
chain c t f x y k p (inl h) same low = let none : y.n ≡ 0 = h.0.number in absurd (omega (arith, none, low))
chain c t f x y k (inl g) (inr h) same low =
    let s : Sound f (past_of t) = sound f (past_of t) k.numbered k.sited (k.once f) in
    let n : Named y = named f (commits_of f (past_of t)) s.counted y h in
    let from : 1 ≤ y.site = n.low in
    let none : x.site ≡ 0 = g.0.site in
    absurd (omega (arith, none, same, from))
chain c t f x y k (inr g) (inr h) same low =
    let s : Sound f (past_of t) = sound f (past_of t) k.numbered k.sited (k.once f) in
    let tell : VectorsTell f (commits_of f (past_of t)) = vectors_tell f (past_of t) k.numbered k.sited (k.once f) in
    let real : is_format x ≡ false = false_unless (is_format x) (λ e. true_false (sym g ∙ format_not_in f (commits_of f (past_of t)) s.counted x e)) in
    let both : Alike c f t = alike c f t k.numbered k.sited (k.once f) in
    both.ancestors x y real ∙ tell.chain x y g h same (omega (arith, low))

-- ---- all ----

candidates_are : (t : List Line) (f : FileId) (xs : List Stamp) → Every (IsVersion (past_of t) f) xs → AllByRecursion (Stand t f) xs
candidates_are t f [] h = tt
candidates_are t f (x ∷ xs) h = (written_stands f (past_of t) x h.0.0 h.0.1, candidates_are t f xs h.1)

all_high : (t : List Line) (f : FileId) (xs : List Stamp) → Versions t → AllByRecursion (Stand t f) xs → AllByRecursion (λ (s : Stamp). s.site ≤ sites_max) xs
all_high t f [] k h = tt
all_high t f (x ∷ xs) k h = (site_high t f x k h.0, all_high t f xs k h.1)

each_chain : (c : Config) (t : List Line) (f : FileId) (x : Stamp) (ys : List Stamp) → Versions t → Stand t f x → AllByRecursion (Stand t f) ys → AllByRecursion (Chain c t f x) ys
each_chain c t f x [] k p h = tt
each_chain c t f x (y ∷ ys) k p h = (chain c t f x y k p h.0, each_chain c t f x ys k p h.1)

chained : (c : Config) (t : List Line) (f : FileId) (xs : List Stamp) → Versions t → AllByRecursion (Stand t f) xs → AreChained (history c (printed t)) f xs
chained c t f [] k h = tt
chained c t f (x ∷ xs) k h = (each_chain c t f x xs k h.0 h.1, chained c t f xs k h.1)

stand : (c : Config) (t : List Line) (e : EpochId) (f : FileId) → Versions t → AllByRecursion (Stand t f) (candidates c (printed t) e f)
stand c t e f k = candidates_are t f (candidates c (printed t) e f) (candidates_stand c e f t k.numbered k.names)

pub candidates_chained : (c : Config) (t : List Line) (e : EpochId) (f : FileId) → Versions t → AreChained (history c (printed t)) f (candidates c (printed t) e f)
candidates_chained c t e f k = chained c t f (candidates c (printed t) e f) k (stand c t e f k)

pub candidates_high : (c : Config) (t : List Line) (e : EpochId) (f : FileId) → Versions t → AllByRecursion (λ (s : Stamp). s.site ≤ sites_max) (candidates c (printed t) e f)
candidates_high c t e f k = all_high t f (candidates c (printed t) e f) k (stand c t e f k)
