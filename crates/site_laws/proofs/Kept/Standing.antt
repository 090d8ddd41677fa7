-- What is a version by what was told stands among the commits of its file, or is the format's, which is an ancestor of each.
use Rattle.std.proofs.Common.{◌≡◌, ℕ, Bool, true, false, cond, ◌&&◌, ◌||◌, List, [], ◌∷◌, refl, sym, ◌∙◌, ap, subst, ◌⊎◌, inl, inr, ⊎_elim}
use Rattle.std.specs.List.{list_any}
use Rattle.locus_ids.specs.declared.config.Config.{Config}
use Rattle.locus_ids.specs.declared.ids.FileId.{FileId}
use Rattle.locus_ids.specs.declared.ids.Stamp.{Stamp}
use Rattle.commit_graph.specs.declared.history.Version.{Version}
use Rattle.commit_graph.specs.Versions.{same_file, same_stamp, is_version, is_in, is_ancestor}
use Rattle.commit_graph.proofs.Names.{same_stamp_refl, stamp_eq}
use Rattle.conflict_flags.proofs.Ancestors.{true_or_false, or_true, in_here}
use Rattle.trace_book.specs.declared.record.Record.{Record}
use Rattle.trace_book.specs.declared.record.Record.TheVariants as says
use Rattle.tree_model.specs.Histories.{format_stamp, history}
use Rattle.role_steps.specs.Views.{Told, Shown}
use Rattle.the_run.specs.Worlds.{Line}
use Rattle.site_laws.specs.Vectors.Written.{past_of, WrittenAs, IsWrittenBy, IsCommitOf, JoinsAll, IsNumbered, NumberedTold, CommitsAreNumbered}
use Rattle.site_laws.specs.Vectors.HistoryCommits.{with_record, with_told, commits_of, IsFormatStamp}
use Rattle.site_laws.proofs.Vectors.HistoryHistory.{same_file_eq, same_file_refl, version_made}
use Rattle.site_laws.specs.Packs.Making.{NotEmpty}
use Rattle.site_laws.specs.Kept.Printed.{onto_printed, printed}
use Rattle.site_laws.specs.Kept.Roots.{RootTold, RootsFollow}
use Rattle.site_laws.proofs.Kept.Ordered.{by_parent, below}

-- ---- versions that were told ----

-- the format's version of a root, or a commit of the file
abbrev pub StandsIn : FileId → List Version → Stamp → Type 0
StandsIn file h stamp = (IsFormatStamp stamp × (file.ino ≡ 1)) ⊎ (is_in h file stamp ≡ true)

in_record : (file : FileId) (r : Record) (h : List Version) (b : Stamp) → is_in h file b ≡ true → is_in (with_record file r h) file b ≡ true
in_record file (says.Commit g s stamp parents content) h b e =
    elim (same_file g file) as (λ t. is_in (cond t (version_made g s stamp parents content ∷ h) h) file b ≡ true) [
      | true ↦ subst (λ (x : Bool). (is_version file b (version_made g s stamp parents content) || x) ≡ true) (sym e) (or_true (is_version file b (version_made g s stamp parents content)))
      | false ↦ e
    ]
in_record file _ h b e = e

in_told : (file : FileId) (x : Told) (h : List Version) (b : Stamp) → is_in h file b ≡ true → is_in (with_told file x h) file b ≡ true
in_told file (Shown r) h b e = in_record file r h b e
in_told file _ h b e = e

told_in : (file : FileId) (W : FileId → Stamp → List ℕ → Type 0) (x : Told) (h : List Version) (stamp : Stamp) (vector : List ℕ) → IsWrittenBy W x file stamp vector → is_in (with_told file x h) file stamp ≡ true
told_in file W (Shown r) h stamp vector k = by_record r k
  where
    by_record : (r : Record) → IsCommitOf W r file stamp vector → is_in (with_record file r h) file stamp ≡ true
    by_record (says.Commit g s made parents content) k =
        subst (λ (t : Bool). is_in (cond t (version_made g s made parents content ∷ h) h) file stamp ≡ true) (sym (same_file_refl g file k.0))
        (in_here file (version_made g s made parents content) h stamp k.0 (subst (λ (y : Stamp). same_stamp made y ≡ true) k.1 (same_stamp_refl made)))
    by_record _ k = absurd k
told_in file W _ h stamp vector k = absurd k

pub written_stands : (file : FileId) (past : List Told) (stamp : Stamp) (vector : List ℕ) → WrittenAs past file stamp vector → StandsIn file (commits_of file past) stamp
written_stands file [] stamp vector h = inl (record { site = h.site; number = h.number }, h.root)
written_stands file (x ∷ older) stamp vector (inl h) =
    ⊎_elim (λ (k : IsFormatStamp stamp × (file.ino ≡ 1)). inl k) (λ (k : is_in (commits_of file older) file stamp ≡ true). inr (in_told file x (commits_of file older) stamp k)) (written_stands file older stamp vector h)
written_stands file (x ∷ older) stamp vector (inr h) = inr (told_in file (WrittenAs older) x (commits_of file older) stamp vector h)

-- ---- the format's version is an ancestor of each of a root's ----

pub ancestor_self : (file : FileId) (h : List Version) (a : Stamp) → is_ancestor h file a a ≡ true
ancestor_self file [] a = same_stamp_refl a
ancestor_self file (v ∷ older) a =
    elim (is_version file a v) as (λ t. cond t (same_stamp a a || list_any (is_ancestor older file a) v.parents) (is_ancestor older file a a) ≡ true) [
      | true ↦ ap (λ (x : Bool). x || list_any (is_ancestor older file a) v.parents) (same_stamp_refl a)
      | false ↦ ancestor_self file older a
    ]

format_is : (p : Stamp) → IsFormatStamp p → p ≡ format_stamp
format_is p h = stamp_eq p format_stamp h.site h.number

-- it is one of what stands in what was told
abbrev Under : Config → FileId → List Line → Type 0
Under c file trace = (b : Stamp) → is_in (commits_of file (past_of trace)) file b ≡ true → is_ancestor (history c (printed trace)) file format_stamp b ≡ true

parent_under : (c : Config) (file : FileId) (older : List Line) → Under c file older → (p : Stamp) → StandsIn file (commits_of file (past_of older)) p → is_ancestor (history c (printed older)) file format_stamp p ≡ true
parent_under c file older ih p (inl h) = subst (λ (x : Stamp). is_ancestor (history c (printed older)) file format_stamp x ≡ true) (sym (format_is p h.0)) (ancestor_self file (history c (printed older)) format_stamp)
parent_under c file older ih p (inr h) = ih p h

parents_under : (c : Config) (file : FileId) (older : List Line) → Under c file older → (ps : List Stamp) (base : List ℕ) → NotEmpty ps → JoinsAll (WrittenAs (past_of older) file) ps base → list_any (is_ancestor (history c (printed older)) file format_stamp) ps ≡ true
parents_under c file older ih [] base k h = absurd k
parents_under c file older ih (p ∷ ps) base k h = ap (λ (x : Bool). x || list_any (is_ancestor (history c (printed older)) file format_stamp) ps) (parent_under c file older ih p (written_stands file (past_of older) p h.0 h.2))

commit_under : (c : Config) (file : FileId) (older : List Line) → Under c file older → (g : FileId) (s : ℕ) (stamp : Stamp) (parents : List Stamp) (content : List ℕ) → (g ≡ file → NotEmpty parents) → IsNumbered (past_of older) g s stamp parents → (t : Bool) → same_file g file ≡ t → (b : Stamp) →
    is_in (cond t (version_made g s stamp parents content ∷ commits_of file (past_of older)) (commits_of file (past_of older))) file b ≡ true → is_ancestor (record { file = g; site = s; stamp = stamp; parents = parents; content = content } ∷ history c (printed older)) file format_stamp b ≡ true
commit_under c file older ih g s stamp parents content follows n true e b h = by_test (true_or_false (is_version file b v))
  where
    v : Version
    v = record { file = g; site = s; stamp = stamp; parents = parents; content = content }

    mine : g ≡ file
    mine = same_file_eq g file e

    by_test : (is_version file b v ≡ true) ⊎ (is_version file b v ≡ false) → is_ancestor (v ∷ history c (printed older)) file format_stamp b ≡ true
    by_test (inl t) = by_parent file v (history c (printed older)) format_stamp b t (parents_under c file older ih parents n.base (follows mine) (subst (λ (f : FileId). JoinsAll (WrittenAs (past_of older) f) parents n.base) mine n.joins))
    by_test (inr t) = below file v (history c (printed older)) format_stamp b t ∙ ih b (subst (λ (x : Bool). (x || is_in (commits_of file (past_of older)) file b) ≡ true) t h)
commit_under c file older ih g s stamp parents content follows n false e b h =
    below file (record { file = g; site = s; stamp = stamp; parents = parents; content = content }) (history c (printed older)) format_stamp b (ap (λ (x : Bool). x && same_stamp stamp b) e) ∙ ih b h

told_under : (c : Config) (n : ℕ) (file : FileId) (older : List Line) (x : Told) → file.ino ≡ 1 → Under c file older → RootTold x → NumberedTold (past_of older) x → (b : Stamp) → is_in (with_told file x (commits_of file (past_of older))) file b ≡ true → is_ancestor (history c (onto_printed n x (printed older))) file format_stamp b ≡ true
told_under c n file older (Shown (says.Commit g s stamp parents content)) root ih follows numbered b h = commit_under c file older ih g s stamp parents content (λ mine. follows (subst (λ (f : FileId). f.ino ≡ 1) (sym mine) root)) numbered (same_file g file) refl b h
told_under c n file older (Shown _) root ih follows numbered b h = ih b h
told_under c n file older _ root ih follows numbered b h = ih b h

pub under_all : (c : Config) (file : FileId) → file.ino ≡ 1 → (trace : List Line) → CommitsAreNumbered (past_of trace) → RootsFollow (past_of trace) → Under c file trace
under_all c file root [] n r b h = absurd (cc)
under_all c file root (x ∷ older) n r b h = told_under c x.number file older x.told root (under_all c file root older n.1 r.1) r.0 n.0 b h
