-- The versions of a run have the ancestors and the written vectors that the commits of their file have.
use Rattle.std.proofs.Common.{◌≡◌, ℕ, zero, suc, ◌+◌, ◌==◌, ◌≤◌, max, Bool, true, false, not, cond, ◌&&◌, ◌||◌, List, [], ◌∷◌, map, refl, sym, ◌∙◌, ap, subst, arith}
use Rattle.std.proofs.lemmas.Bool.Decides.{nat_tests}
use Rattle.std.specs.List.{list_any}
use Rattle.role_steps.proofs.of_plain_facts.Tests.{false_unless, or_neither}
use Rattle.locus_ids.specs.declared.config.Config.{Config}
use Rattle.locus_ids.specs.declared.sites.Sites.{Sites}
use Rattle.locus_ids.specs.declared.ids.FileId.{FileId}
use Rattle.locus_ids.specs.declared.ids.Stamp.{Stamp}
use Rattle.locus_ids.specs.Sizes.{sites_max}
use Rattle.commit_graph.specs.declared.history.Version.{Version}
use Rattle.commit_graph.specs.Versions.{same_file, same_stamp, is_version, is_in, is_ancestor}
use Rattle.commit_graph.specs.Counters.{greatest, counter}
use Rattle.commit_graph.specs.Vectors.{numbers_from, vector_of}
use Rattle.commit_graph.proofs.Names.{same_stamp_eq}
use Rattle.conflict_flags.specs.Written.{is_format, NoneTwice}
use Rattle.conflict_flags.proofs.Ancestors.{Counted, Named, named, false_not_true}
use Rattle.trace_book.specs.declared.record.Record.TheVariants as says
use Rattle.tree_model.specs.Histories.{format_version, format_versions, history}
use Rattle.role_steps.specs.Views.{Told, Shown}
use Rattle.the_run.specs.Worlds.{Line}
use Rattle.site_laws.specs.Vectors.Written.{past_of, CommitsAreNumbered}
use Rattle.site_laws.specs.Vectors.HistoryCommits.{real_parents, with_told, commits_of, CommitsAreSited}
use Rattle.site_laws.proofs.Vectors.HistoryHistory.{Sound, sound, once_older, version_made}
use Rattle.site_laws.specs.Kept.Printed.{onto_printed, printed}

-- ---- what doesn't stand in a history ----

pub not_in_counter : (file : FileId) (h : List Version) (p : Stamp) (site : ℕ) → is_in h file p ≡ false → counter h file p site ≡ 0
not_in_counter file [] p site e = refl
not_in_counter file (v ∷ older) p site e =
    let k : _ × _ = or_neither (is_version file p v) (is_in older file p) e in
    ap (λ (x : Bool). cond x (greatest (λ q. counter older file q site) v.parents + cond (v.site == site) 1 0) (counter older file p site)) k.0 ∙ not_in_counter file older p site k.1

pub not_in_ancestor : (file : FileId) (h : List Version) (a p : Stamp) → is_in h file p ≡ false → is_ancestor h file a p ≡ same_stamp a p
not_in_ancestor file [] a p e = refl
not_in_ancestor file (v ∷ older) a p e =
    let k : _ × _ = or_neither (is_version file p v) (is_in older file p) e in
    ap (λ (x : Bool). cond x (same_stamp a p || list_any (is_ancestor older file a) v.parents) (is_ancestor older file a p)) k.0 ∙ not_in_ancestor file older a p k.1

format_site : (p : Stamp) → is_format p ≡ true → 1 ≤ p.site → ⊥
format_site p h low = grind (arith, nat_tests)

-- the format's version is no commit
pub format_not_in : (file : FileId) (h : List Version) → Counted file h → (p : Stamp) → is_format p ≡ true → is_in h file p ≡ false
format_not_in file h k p f = false_unless (is_in h file p) (λ e. (let n : Named p = named file h k p e in format_site p f n.low))

-- ---- parents, with the format's and without ----

max_zero : (a b : ℕ) → a ≡ 0 → max a b ≡ b
max_zero a b e = grind (arith, nat_tests)

parents_greatest : (f g : Stamp → ℕ) → ((p : Stamp) → f p ≡ g p) → ((p : Stamp) → is_format p ≡ true → g p ≡ 0) → (ps : List Stamp) → greatest f ps ≡ greatest g (real_parents ps)
parents_greatest f g same none [] = refl
parents_greatest f g same none (p ∷ ps) =
    (elim (is_format p) as (λ b. is_format p ≡ b → max (f p) (greatest f ps) ≡ greatest g (cond (not b) (p ∷ real_parents ps) (real_parents ps))) [
      | true ↦ λ e. max_zero (f p) (greatest f ps) (same p ∙ none p e) ∙ parents_greatest f g same none ps
      | false ↦ λ e. ap (λ (n : ℕ). max n (greatest f ps)) (same p) ∙ ap (λ (n : ℕ). max (g p) n) (parents_greatest f g same none ps)
    ]) refl

parents_any : (f g : Stamp → Bool) → ((p : Stamp) → f p ≡ g p) → ((p : Stamp) → is_format p ≡ true → g p ≡ false) → (ps : List Stamp) → list_any f ps ≡ list_any g (real_parents ps)
parents_any f g same none [] = refl
parents_any f g same none (p ∷ ps) =
    (elim (is_format p) as (λ b. is_format p ≡ b → (f p || list_any f ps) ≡ list_any g (cond (not b) (p ∷ real_parents ps) (real_parents ps))) [
      | true ↦ λ e. ap (λ (x : Bool). x || list_any f ps) (same p ∙ none p e) ∙ parents_any f g same none ps
      | false ↦ λ e. ap (λ (x : Bool). x || list_any f ps) (same p) ∙ ap (λ (x : Bool). g p || x) (parents_any f g same none ps)
    ]) refl

-- ---- the format's versions ----

first_counter : (file : FileId) (b : Stamp) (site : ℕ) → 1 ≤ site → (group : ℕ) (packs : List Sites) → counter (format_versions group packs) file b site ≡ 0
first_counter file b site low group [] = refl
first_counter file b site low group (p ∷ rest) =
    elim (p.0 == 0) as (λ t. counter (cond t (format_versions (group + 1) rest) (format_version group ∷ format_versions (group + 1) rest)) file b site ≡ 0) [
      | true ↦ first_counter file b site low (group + 1) rest
      | false ↦ by_test (is_version file b (format_version group)) (first_counter file b site low (group + 1) rest)
    ]
  where
    no_site : (n : ℕ) → 1 ≤ n → (let k : ℕ = cond (0 == n) 1 0 in k ≡ 0)
    no_site n h = grind (arith, nat_tests)

    by_test : (t : Bool) → counter (format_versions (group + 1) rest) file b site ≡ 0 → cond t (0 + cond (0 == site) 1 0) (counter (format_versions (group + 1) rest) file b site) ≡ 0
    by_test true h = omega (arith, no_site site low)
    by_test false h = h

first_ancestor : (file : FileId) (a b : Stamp) (group : ℕ) (packs : List Sites) → is_ancestor (format_versions group packs) file a b ≡ same_stamp a b
first_ancestor file a b group [] = refl
first_ancestor file a b group (p ∷ rest) =
    elim (p.0 == 0) as (λ t. is_ancestor (cond t (format_versions (group + 1) rest) (format_version group ∷ format_versions (group + 1) rest)) file a b ≡ same_stamp a b) [
      | true ↦ first_ancestor file a b (group + 1) rest
      | false ↦ by_test (is_version file b (format_version group)) (same_stamp a b) (first_ancestor file a b (group + 1) rest)
    ]
  where
    by_test : (t s : Bool) → is_ancestor (format_versions (group + 1) rest) file a b ≡ s → cond t (s || false) (is_ancestor (format_versions (group + 1) rest) file a b) ≡ s
    by_test true true h = refl
    by_test true false h = refl
    by_test false s h = h

-- ---- each record ----

pub record Alike (c : Config) (file : FileId) (trace : List Line) : Type 0 where
  pub counters : (b : Stamp) (site : ℕ) → 1 ≤ site → counter (history c (printed trace)) file b site ≡ counter (commits_of file (past_of trace)) file b site
  pub ancestors : (a b : Stamp) → is_format a ≡ false → is_ancestor (history c (printed trace)) file a b ≡ is_ancestor (commits_of file (past_of trace)) file a b

not_same_format : (a p : Stamp) → is_format a ≡ false → is_format p ≡ true → same_stamp a p ≡ false
not_same_format a p h f = false_unless (same_stamp a p) (λ e. false_not_true h (subst (λ (x : Stamp). is_format x ≡ true) (sym (same_stamp_eq a p e)) f))

commit_counter : (c : Config) (file : FileId) (older : List Line) → Counted file (commits_of file (past_of older)) → Alike c file older → (g : FileId) (s : ℕ) (stamp : Stamp) (parents : List Stamp) (content : List ℕ) (b : Stamp) (site : ℕ) → 1 ≤ site → (t : Bool) → same_file g file ≡ t →
    counter (record { file = g; site = s; stamp = stamp; parents = parents; content = content } ∷ history c (printed older)) file b site ≡ counter (cond t (version_made g s stamp parents content ∷ commits_of file (past_of older)) (commits_of file (past_of older))) file b site
commit_counter c file older k ih g s stamp parents content b site low true e =
    ap (λ (n : ℕ). cond (same_file g file && same_stamp stamp b) (n + cond (s == site) 1 0) (counter (history c (printed older)) file b site))
    (parents_greatest (λ p. counter (history c (printed older)) file p site) (λ p. counter C file p site) (λ p. ih.counters p site low) (λ p f. not_in_counter file C p site (format_not_in file C k p f)) parents)
    ∙ ap (λ (n : ℕ). cond (same_file g file && same_stamp stamp b) (greatest (λ p. counter C file p site) (real_parents parents) + cond (s == site) 1 0) n) (ih.counters b site low)
  where
    C : List Version
    C = commits_of file (past_of older)
commit_counter c file older k ih g s stamp parents content b site low false e =
    ap (λ (x : Bool). cond (x && same_stamp stamp b) (greatest (λ p. counter (history c (printed older)) file p site) parents + cond (s == site) 1 0) (counter (history c (printed older)) file b site)) e ∙ ih.counters b site low

commit_ancestor : (c : Config) (file : FileId) (older : List Line) → Counted file (commits_of file (past_of older)) → Alike c file older → (g : FileId) (s : ℕ) (stamp : Stamp) (parents : List Stamp) (content : List ℕ) (a b : Stamp) → is_format a ≡ false → (t : Bool) → same_file g file ≡ t →
    is_ancestor (record { file = g; site = s; stamp = stamp; parents = parents; content = content } ∷ history c (printed older)) file a b ≡ is_ancestor (cond t (version_made g s stamp parents content ∷ commits_of file (past_of older)) (commits_of file (past_of older))) file a b
commit_ancestor c file older k ih g s stamp parents content a b h true e =
    ap (λ (x : Bool). cond (same_file g file && same_stamp stamp b) (same_stamp a b || x) (is_ancestor (history c (printed older)) file a b))
    (parents_any (is_ancestor (history c (printed older)) file a) (is_ancestor C file a) (λ p. ih.ancestors a p h) (λ p f. not_in_ancestor file C a p (format_not_in file C k p f) ∙ not_same_format a p h f) parents)
    ∙ ap (λ (x : Bool). cond (same_file g file && same_stamp stamp b) (same_stamp a b || list_any (is_ancestor C file a) (real_parents parents)) x) (ih.ancestors a b h)
  where
    C : List Version
    C = commits_of file (past_of older)
commit_ancestor c file older k ih g s stamp parents content a b h false e =
    ap (λ (x : Bool). cond (x && same_stamp stamp b) (same_stamp a b || list_any (is_ancestor (history c (printed older)) file a) parents) (is_ancestor (history c (printed older)) file a b)) e ∙ ih.ancestors a b h

-- the same of the histories with one thing more told
record AlikeWith (c : Config) (n : ℕ) (file : FileId) (x : Told) (older : List Line) : Type 0 where
  counters : (b : Stamp) (site : ℕ) → 1 ≤ site → counter (history c (onto_printed n x (printed older))) file b site ≡ counter (with_told file x (commits_of file (past_of older))) file b site
  ancestors : (a b : Stamp) → is_format a ≡ false → is_ancestor (history c (onto_printed n x (printed older))) file a b ≡ is_ancestor (with_told file x (commits_of file (past_of older))) file a b

alike_with : (c : Config) (n : ℕ) (file : FileId) (x : Told) (older : List Line) → Counted file (commits_of file (past_of older)) → Alike c file older → AlikeWith c n file x older
alike_with c n file (Shown (says.Commit g s stamp parents content)) older k ih = record {
  counters = λ b site low. commit_counter c file older k ih g s stamp parents content b site low (same_file g file) refl;
  ancestors = λ a b h. commit_ancestor c file older k ih g s stamp parents content a b h (same_file g file) refl;
}
alike_with c n file (Shown _) older k ih = record { counters = ih.counters; ancestors = ih.ancestors }
alike_with c n file _ older k ih = record { counters = ih.counters; ancestors = ih.ancestors }

pub alike : (c : Config) (file : FileId) (trace : List Line) → CommitsAreNumbered (past_of trace) → CommitsAreSited (past_of trace) → NoneTwice (commits_of file (past_of trace)) → Alike c file trace
alike c file [] n s once = record { counters = λ b site low. first_counter file b site low 0 c.packs; ancestors = λ a b h. first_ancestor file a b 0 c.packs }
alike c file (x ∷ older) n s once =
    let before : NoneTwice (commits_of file (past_of older)) = once_older file x.told (commits_of file (past_of older)) once in
    let k : Sound file (past_of older) = sound file (past_of older) n.1 s.1 before in
    let r : AlikeWith c x.number file x.told older = alike_with c x.number file x.told older k.counted (alike c file older n.1 s.1 before) in
    record { counters = r.counters; ancestors = r.ancestors }

-- ---- vectors ----

numbers_same : (f g : ℕ → ℕ) → ((n : ℕ) → 1 ≤ n → f n ≡ g n) → (more first : ℕ) → 1 ≤ first → map f (numbers_from first more) ≡ map g (numbers_from first more)
numbers_same f g same zero first low = refl
numbers_same f g same (suc more) first low = ap (λ (n : ℕ). n ∷ map f (numbers_from (first + 1) more)) (same first low) ∙ ap (λ (ns : List ℕ). g first ∷ ns) (numbers_same f g same more (first + 1) (omega (arith, low)))

pub same_vector : (c : Config) (file : FileId) (trace : List Line) → Alike c file trace → (b : Stamp) → vector_of (history c (printed trace)) file b ≡ vector_of (commits_of file (past_of trace)) file b
same_vector c file trace k b = numbers_same (counter (history c (printed trace)) file b) (counter (commits_of file (past_of trace)) file b) (λ n low. k.counters b n low) sites_max 1 (omega arith)
