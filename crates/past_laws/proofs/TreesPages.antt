-- The pages that a site has of a group, by both formulations; and the tree that an epoch has of a group.
use Rattle.std.proofs.Common.{◌≡◌, ℕ, ◌==◌, ◌≤◌, Bool, true, false, ◌&&◌, List, length, filter, map, Option, Some, None, refl, sym, ap, subst, ◌∙◌}
use Rattle.std.specs.Prelude.{sum_by}
use Rattle.std.specs.List.{find}
use Rattle.std.specs.Option.{option_map}
use Rattle.locus_ids.specs.declared.config.Config.{Config}
use Rattle.locus_ids.specs.declared.ids.EpochId.{EpochId}
use Rattle.commit_graph.specs.Versions.{same_file, content_of}
use Rattle.tree_model.specs.of_file_effects.of_file_content.Pages.{pages_of}
use Rattle.tree_model.specs.declared.copy.HeldCopy.{HeldCopy}
use Rattle.tree_model.specs.Folds.{Trace}
use Rattle.tree_model.specs.Histories.{history, stamped_content}
use Rattle.tree_model.specs.State.{TreeState, copy_of, held_of, is_copy_of}
use Rattle.tree_model.specs.Tree.{tree_of}
use Rattle.tree_model.specs.Working as old
use Rattle.promises.specs.Past.{Past, Copy, epoch_at, copies_in, stamp_in}
use Rattle.promises.specs.Rows.{brought_in}
use Rattle.promises.specs.Tree as new
use Rattle.past_laws.specs.Agreement.{Agrees, opened_in}
use Rattle.past_laws.proofs.Names.{number_eq}
use Rattle.past_laws.proofs.TreesFolds.{group_is}
use Rattle.past_laws.proofs.TreesLists.{filter_map, filter_both, filter_same, find_map, find_both, find_same, length_map, map_within, sum_map}
use Rattle.past_laws.proofs.TreesSeats.{one_seat}
use Rattle.past_laws.proofs.TreesSums.{Version, is_of, stamp_of, look, same_sums}
use Rattle.past_laws.proofs.TreesWorking.{TreeIs}

-- what a site has of a group, as versions of inodes

abbrev pub as_version : Copy → Version
as_version v = record { ino = v.file.ino; stamp = Some v.stamp }

abbrev pub of_copy : HeldCopy → Version
of_copy c = record { ino = c.ino; stamp = c.held }

abbrev pub versions_in : ℕ → List Copy → List Version
versions_in group vs = map as_version (filter (λ (v : Copy). v.file.group == group) vs)

abbrev pub versions_at : ℕ → List HeldCopy → List Version
versions_at site cs = map of_copy (filter (λ (c : HeldCopy). c.site == site) cs)

flip : (a b : Bool) → (a && b) ≡ (b && a)
flip true true = refl
flip true false = refl
flip false true = refl
flip false false = refl

pub one_version : (group n : ℕ) (vs : List Copy) → length (filter (λ (v : Copy). same_file v.file (record { group = group; ino = n })) vs) ≤ 1 → length (filter (is_of n) (versions_in group vs)) ≤ 1
one_version group n vs h = subst (λ k. k ≤ 1) (sym (ap length (filter_map (is_of n) as_version (filter (λ (v : Copy). v.file.group == group) vs)) ∙ (length_map as_version (filter (λ v. is_of n (as_version v)) (filter (λ (v : Copy). v.file.group == group) vs))
    ∙ ap length (filter_both (λ v. is_of n (as_version v)) (λ (v : Copy). v.file.group == group) vs ∙ filter_same (λ (v : Copy). (v.file.ino == n) && (v.file.group == group)) (λ (v : Copy). same_file v.file (record { group = group; ino = n })) (λ v. flip (v.file.ino == n) (v.file.group == group)) vs)))) h

pub one_at : (site n : ℕ) (cs : List HeldCopy) → length (filter (is_copy_of site n) cs) ≤ 1 → length (filter (is_of n) (versions_at site cs)) ≤ 1
one_at site n cs h = subst (λ k. k ≤ 1) (sym (ap length (filter_map (is_of n) of_copy (filter (λ (c : HeldCopy). c.site == site) cs)) ∙ (length_map of_copy (filter (λ c. is_of n (of_copy c)) (filter (λ (c : HeldCopy). c.site == site) cs))
    ∙ ap length (filter_both (λ c. is_of n (of_copy c)) (λ (c : HeldCopy). c.site == site) cs ∙ filter_same (λ (c : HeldCopy). (c.ino == n) && (c.site == site)) (is_copy_of site n) (λ c. flip (c.ino == n) (c.site == site)) cs)))) h

pub look_in : (group n : ℕ) (vs : List Copy) → look (versions_in group vs) n ≡ stamp_in vs (record { group = group; ino = n })
look_in group n vs = ap stamp_of (find_map (is_of n) as_version (filter (λ (v : Copy). v.file.group == group) vs))
    ∙ (at (find (λ v. is_of n (as_version v)) (filter (λ (v : Copy). v.file.group == group) vs))
    ∙ ap (option_map (λ (v : Copy). v.stamp)) (find_both (λ v. is_of n (as_version v)) (λ (v : Copy). v.file.group == group) vs ∙ find_same (λ (v : Copy). (v.file.ino == n) && (v.file.group == group)) (λ (v : Copy). same_file v.file (record { group = group; ino = n })) (λ v. flip (v.file.ino == n) (v.file.group == group)) vs))
  where
    at : (o : Option Copy) → stamp_of (option_map as_version o) ≡ option_map (λ (v : Copy). v.stamp) o
    at None = refl
    at (Some v) = refl

pub look_at : (site n : ℕ) (cs : List HeldCopy) → look (versions_at site cs) n ≡ held_of (copy_of cs site n)
look_at site n cs = ap stamp_of (find_map (is_of n) of_copy (filter (λ (c : HeldCopy). c.site == site) cs))
    ∙ (at (find (λ c. is_of n (of_copy c)) (filter (λ (c : HeldCopy). c.site == site) cs))
    ∙ ap held_of (find_both (λ c. is_of n (of_copy c)) (λ (c : HeldCopy). c.site == site) cs ∙ find_same (λ (c : HeldCopy). (c.ino == n) && (c.site == site)) (is_copy_of site n) (λ c. flip (c.ino == n) (c.site == site)) cs))
  where
    at : (o : Option HeldCopy) → stamp_of (option_map of_copy o) ≡ held_of o
    at None = refl
    at (Some c) = refl

pub pages_are : (c : Config) (before : Trace) (p : Past) → Agrees c before p → (e : EpochId) (group site : ℕ) → new.held_pages p (epoch_at p e) group site ≡ old.held_pages (history c before) (tree_of c e group before) site
pages_are c before p k e group site = sum_within
    ∙ (sym (sum_map pages as_version (filter in_group copies))
    ∙ (same_sums pages (λ n. refl) (versions_in group copies) (versions_at site t.copies)
    (λ n. one_version group n copies (k.trees.one_left e site (record { group = group; ino = n })))
    (λ n. one_at site n t.copies (one_seat c e group before site n))
    (λ n. look_in group n copies ∙ (k.trees.held e site (record { group = group; ino = n }) ∙ sym (look_at site n t.copies)))
    ∙ (sum_map pages of_copy (filter (λ (c : HeldCopy). c.site == site) t.copies)
    ∙ ap (λ g. sum_by (old.pages_of_copy (history c before) g) (filter (λ (c : HeldCopy). c.site == site) t.copies)) (sym (group_is c e group before)))))
  where
    t : TreeState
    t = tree_of c e group before

    copies : List Copy
    copies = copies_in p (epoch_at p e) site

    in_group : Copy → Bool
    in_group v = v.file.group == group

    pages : Version → ℕ
    pages v = pages_of (length (stamped_content (history c before) (record { group = group; ino = v.ino }) v.stamp))

    by_file : Copy → ℕ
    by_file v = pages_of (length (content_of p.history v.file v.stamp))

    in_it : (v : Copy) → in_group v ≡ true → by_file v ≡ pages (as_version v)
    in_it v h = ap (λ x. pages_of (length (content_of x v.file v.stamp))) k.epochs.history ∙ ap (λ g. pages_of (length (content_of (history c before) (record { group = g; ino = v.file.ino }) v.stamp))) (number_eq v.file.group group h)

    sum_within : sum_by by_file (filter in_group copies) ≡ sum_by (λ v. pages (as_version v)) (filter in_group copies)
    sum_within = sym (sum_map (λ n. n) by_file (filter in_group copies)) ∙ (ap (sum_by (λ n. n)) (map_within in_group by_file (λ v. pages (as_version v)) in_it copies) ∙ sum_map (λ n. n) (λ v. pages (as_version v)) (filter in_group copies))

pub tree_is : (c : Config) (before : Trace) (p : Past) → Agrees c before p → (e : EpochId) (group : ℕ) → TreeIs (history c before) (tree_of c e group before) p (epoch_at p e)
tree_is c before p k e group = record {
  history = k.epochs.history;
  known = ap (brought_in (epoch_at p e)) (group_is c e group before) ∙ k.trees.known e group;
  opened = ap (opened_in (epoch_at p e)) (group_is c e group before) ∙ k.trees.opened e group;
  pages = λ site. ap (λ g. new.held_pages p (epoch_at p e) g site) (group_is c e group before) ∙ pages_are c before p k e group site;
}
