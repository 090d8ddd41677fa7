-- The versions of a run grow by new ones, on parents that stand before them or are the format's.
use Rattle.std.proofs.Common.{◌≡◌, ℕ, ◌+◌, ◌==◌, ◌≤◌, Bool, true, false, cond, ◌&&◌, ◌||◌, List, [], ◌∷◌, refl, ◌∙◌, ap, subst, arith, ◌⊎◌, inl, inr}
use Rattle.std.proofs.lemmas.Bool.Decides.{nat_tests}
use Rattle.role_steps.proofs.of_plain_facts.Tests.{and_second, false_unless}
use Rattle.locus_ids.specs.declared.config.Config.{Config}
use Rattle.locus_ids.specs.declared.sites.Sites.{Sites}
use Rattle.locus_ids.specs.declared.ids.FileId.{FileId}
use Rattle.locus_ids.specs.declared.ids.Stamp.{Stamp}
use Rattle.commit_graph.specs.declared.history.Version.{Version}
use Rattle.commit_graph.specs.Versions.{same_file, same_stamp, is_version, is_in}
use Rattle.commit_graph.proofs.Names.{same_stamp_eq}
use Rattle.conflict_flags.specs.Written.{is_format, NoneTwice}
use Rattle.conflict_flags.proofs.Ancestors.{Each, true_or_false, false_not_true, fresh}
use Rattle.trace_book.specs.declared.record.Record.TheVariants as says
use Rattle.tree_model.specs.Histories.{format_stamp, format_version, format_versions, history}
use Rattle.role_steps.specs.Views.{Told, Shown}
use Rattle.the_run.specs.Worlds.{Line}
use Rattle.site_laws.specs.Vectors.Written.{past_of, JoinsAll, WrittenAs, IsNumbered, NumberedTold, CommitsAreNumbered}
use Rattle.site_laws.specs.Vectors.HistoryCommits.{with_told, commits_of, IsSite, SitedTold, CommitsAreSited, IsFormatStamp}
use Rattle.site_laws.proofs.Vectors.HistoryHistory.{Stands, Sound, sound, same_file_eq, once_older, version_made}
use Rattle.site_laws.specs.Kept.Printed.{onto_printed, printed}
use Rattle.site_laws.proofs.Kept.Ordered.{IsNext, Grows}

-- ---- the format's versions ----

first_grow : (file : FileId) (group : ℕ) (packs : List Sites) → Grows file (format_versions group packs)
first_grow file group [] = tt
first_grow file group (p ∷ rest) =
    elim (p.0 == 0) as (λ b. Grows file (cond b (format_versions (group + 1) rest) (format_version group ∷ format_versions (group + 1) rest))) [
      | true ↦ first_grow file (group + 1) rest
      | false ↦ (λ e. inl (record { format = refl; alone = refl }), first_grow file (group + 1) rest)
    ]

not_format_version : (file : FileId) (group : ℕ) (b : Stamp) → is_format b ≡ false → is_version file b (format_version group) ≡ false
not_format_version file group b h = false_unless (is_version file b (format_version group)) (λ e. false_not_true h (subst (λ (x : Stamp). is_format x ≡ true) (same_stamp_eq format_stamp b (and_second (same_file (format_version group).file file) (same_stamp format_stamp b) e)) refl))

not_first : (file : FileId) (b : Stamp) → is_format b ≡ false → (group : ℕ) (packs : List Sites) → is_in (format_versions group packs) file b ≡ false
not_first file b h group [] = refl
not_first file b h group (p ∷ rest) =
    elim (p.0 == 0) as (λ t. is_in (cond t (format_versions (group + 1) rest) (format_version group ∷ format_versions (group + 1) rest)) file b ≡ false) [
      | true ↦ not_first file b h (group + 1) rest
      | false ↦ ap (λ (x : Bool). x || is_in (format_versions (group + 1) rest) file b) (not_format_version file group b h) ∙ not_first file b h (group + 1) rest
    ]

-- ---- what stands ----

record_known : (c : Config) (n : ℕ) (file : FileId) (b : Stamp) (older : List Line) (x : Told) → is_in (history c (printed older)) file b ≡ is_in (commits_of file (past_of older)) file b → is_in (history c (onto_printed n x (printed older))) file b ≡ is_in (with_told file x (commits_of file (past_of older))) file b
record_known c n file b older (Shown (says.Commit g s stamp parents content)) ih = by_test (same_file g file) refl
  where
    H : List Version
    H = history c (printed older)

    C : List Version
    C = commits_of file (past_of older)

    by_test : (t : Bool) → same_file g file ≡ t → ((same_file g file && same_stamp stamp b) || is_in H file b) ≡ is_in (cond t (version_made g s stamp parents content ∷ C) C) file b
    by_test true e = ap (λ (x : Bool). (same_file g file && same_stamp stamp b) || x) ih
    by_test false e = ap (λ (x : Bool). (x && same_stamp stamp b) || is_in H file b) e ∙ ih
record_known c n file b older (Shown _) ih = ih
record_known c n file b older _ ih = ih

-- a version that isn't the format's stands where its commit was told
pub known_told : (c : Config) (file : FileId) (b : Stamp) → is_format b ≡ false → (trace : List Line) → is_in (history c (printed trace)) file b ≡ is_in (commits_of file (past_of trace)) file b
known_told c file b h [] = not_first file b h 0 c.packs
known_told c file b h (x ∷ older) = record_known c x.number file b older x.told (known_told c file b h older)

-- ---- how the versions grow ----

made_stamp : (stamp : Stamp) (s : ℕ) → stamp.site ≡ s → 1 ≤ s → is_format stamp ≡ false
made_stamp stamp s e low = grind (arith, nat_tests)

pub format_test : (p : Stamp) → IsFormatStamp p → is_format p ≡ true
format_test p h = let a : p.site ≡ 0 = h.site in let b : p.n ≡ 0 = h.number in grind (arith, nat_tests)

abbrev ParentStands : Config → FileId → List Line → Stamp → Type 0
ParentStands c file older p = (is_in (history c (printed older)) file p ≡ true) ⊎ (is_format p ≡ true)

parent_stands : (c : Config) (file : FileId) (older : List Line) (p : Stamp) (vector : List ℕ) → Stands file (commits_of file (past_of older)) p vector → ParentStands c file older p
parent_stands c file older p vector (inl h) = inr (format_test p h.0)
parent_stands c file older p vector (inr h) = by_test (true_or_false (is_format p))
  where
    by_test : (is_format p ≡ true) ⊎ (is_format p ≡ false) → ParentStands c file older p
    by_test (inl e) = inr e
    by_test (inr e) = inl (known_told c file p e older ∙ h.0)

parents_stand : (c : Config) (file : FileId) (older : List Line) → Sound file (past_of older) → (ps : List Stamp) (base : List ℕ) → JoinsAll (WrittenAs (past_of older) file) ps base → Each (ParentStands c file older) ps
parents_stand c file older k [] base h = tt
parents_stand c file older k (p ∷ ps) base h = (parent_stands c file older p h.0 (k.stands p h.0 h.2), parents_stand c file older k ps h.1 h.3)

next_version : (c : Config) (file g : FileId) (s : ℕ) (stamp : Stamp) (parents : List Stamp) (content : List ℕ) (older : List Line) → same_file g file ≡ true → Sound file (past_of older) → IsSite s → IsNumbered (past_of older) g s stamp parents →
    NoneTwice (cond (same_file g file) (version_made g s stamp parents content ∷ commits_of file (past_of older)) (commits_of file (past_of older))) → IsNext file (record { file = g; site = s; stamp = stamp; parents = parents; content = content }) (history c (printed older))
next_version c file g s stamp parents content older e k site n once =
    let mine : g ≡ file = same_file_eq g file e in
    let C : List Version = commits_of file (past_of older) in
    let v : Version = version_made g s stamp parents content in
    let made : is_format stamp ≡ false = made_stamp stamp s n.own site.low in
    record {
      fresh = known_told c file stamp made older ∙ fresh file v C mine (subst (λ (t : Bool). NoneTwice (cond t (v ∷ C) C)) e once);
      made = made;
      stand = parents_stand c file older k parents n.base (subst (λ (f : FileId). JoinsAll (WrittenAs (past_of older) f) parents n.base) mine n.joins);
    }

told_grows : (c : Config) (n : ℕ) (file : FileId) (older : List Line) (x : Told) → Sound file (past_of older) → SitedTold x → NumberedTold (past_of older) x → NoneTwice (with_told file x (commits_of file (past_of older))) → Grows file (history c (printed older)) → Grows file (history c (onto_printed n x (printed older)))
told_grows c n file older (Shown (says.Commit g s stamp parents content)) k site numbered once ih = (λ e. inr (next_version c file g s stamp parents content older e k site numbered once), ih)
told_grows c n file older (Shown _) k site numbered once ih = ih
told_grows c n file older _ k site numbered once ih = ih

pub versions_grow : (c : Config) (file : FileId) (trace : List Line) → CommitsAreNumbered (past_of trace) → CommitsAreSited (past_of trace) → NoneTwice (commits_of file (past_of trace)) → Grows file (history c (printed trace))
versions_grow c file [] n s once = first_grow file 0 c.packs
versions_grow c file (x ∷ older) n s once =
    let before : NoneTwice (commits_of file (past_of older)) = once_older file x.told (commits_of file (past_of older)) once in
    told_grows c x.number file older x.told (sound file (past_of older) n.1 s.1 before) s.0 n.0 once (versions_grow c file older n.1 s.1 before)
