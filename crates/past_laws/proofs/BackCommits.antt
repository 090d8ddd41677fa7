-- The converse for commits: a version that may be committed by what the records so far tell comes by the row of the lawful
-- trace.
use Rattle.std.proofs.Common.{◌≡◌, ℕ, ◌==◌, Bool, true, false, not, ◌&&◌, List, [], ◌∷◌, filter, map, Option, Some, None, refl, sym, ap, subst, ◌∙◌}
use Rattle.std.specs.List.{find, list_any}
use Rattle.std.specs.Option.{is_some}
use Rattle.std.specs.Str.{bytes_eq}
use Rattle.std.proofs.lemmas.Slice.Eq.{bytes_eq-Decides}
use Rattle.locus_ids.specs.declared.config.Config.{Config}
use Rattle.locus_ids.specs.declared.ids.EpochId.{EpochId}
use Rattle.locus_ids.specs.declared.ids.FileId.{FileId}
use Rattle.locus_ids.specs.declared.ids.Stamp.{Stamp}
use Rattle.commit_graph.specs.Counters.{next_number}
use Rattle.commit_graph.specs.Grants.{is_read}
use Rattle.commit_graph.specs.Versions.{same_file, same_stamp}
use Rattle.trace_book.specs.declared.record.Record.TheVariants as says
use Rattle.tree_model.specs.Epochs.{is_in}
use Rattle.tree_model.specs.Folds.{Trace}
use Rattle.tree_model.specs.Histories.{history}
use Rattle.tree_model.specs.Tree.{tree_of}
use Rattle.promises.specs.of_lawful_trace.TreeRows.{MayCommit, is_writing as writes}
use Rattle.promises.specs.Past.{Past, Epoch, Instance as OpenInstance, epoch_at, unformed, site_at}
use Rattle.promises.specs.After.{is_epoch}
use Rattle.promises.specs.Rows.{is_the_one, is_writing, may_commit, may_follow}
use Rattle.promises.specs.Same.{same_list}
use Rattle.promises.specs.Tree.{parents_of}
use Rattle.past_laws.specs.Agreement.{Agrees, instance_of}
use Rattle.past_laws.proofs.BackOpens.{in_is}
use Rattle.past_laws.proofs.Changing.{first_found}
use Rattle.past_laws.proofs.Names.{both_parts, epoch_own, false_true, number_eq, stamp_eq}
use Rattle.past_laws.proofs.TreesFolds.{group_is}
use Rattle.past_laws.proofs.TreesLists.{any_found, find_same, found_passes, found_wider}
use Rattle.past_laws.proofs.TreesMakes.{found_both}
use Rattle.past_laws.proofs.TreesPages.{tree_is}
use Rattle.past_laws.proofs.TreesWorking.{TreeIs, opened_filter, parents_are}

-- An epoch of the past that passes, by its id.

pub record Home (p : Past) (passes : Epoch → Bool) : Type 0 where
  pub epoch : EpochId
  pub so : passes (epoch_at p epoch) ≡ true
  pub named : (epoch_at p epoch).id ≡ epoch

pub home : (c : Config) (before : Trace) (p : Past) → Agrees c before p → (passes : Epoch → Bool) → list_any passes p.epochs ≡ true → Home p passes
home c before p a passes h = at (find passes p.epochs) refl
  where
    flip : (x y : Bool) → (x && y) ≡ (y && x)
    flip true true = refl
    flip true false = refl
    flip false true = refl
    flip false false = refl

    at : (o : Option Epoch) → find passes p.epochs ≡ o → Home p passes
    at None e = false_true (sym (ap is_some e) ∙ (sym (any_found passes p.epochs) ∙ h))
    at (Some t) e = record { epoch = t.id; so = ap passes is ∙ found_passes passes p.epochs t e; named = ap (λ (u : Epoch). u.id) is }
      where
        is : epoch_at p t.id ≡ t
        is = first_found (unformed t.id) (is_epoch t.id) p.epochs t (found_wider (is_epoch t.id) passes p.epochs t (a.epochs.once t.id)
            (find_same (λ u. is_epoch t.id u && passes u) (λ u. passes u && is_epoch t.id u) (λ u. flip (is_epoch t.id u) (passes u)) p.epochs ∙ found_both passes (is_epoch t.id) p.epochs t e (epoch_own t.id)))

-- The only one that passes.

pub record Only {X : Type 0} (ok : X → Bool) (xs : List X) : Type 0 where
  pub one : X
  pub only : xs ≡ one ∷ []
  pub so : ok one ≡ true

pub only_one : {X : Type 0} (ok : X → Bool) (xs : List X) → is_the_one ok xs ≡ true → Only ok xs
only_one ok [] h = false_true h
only_one ok (x ∷ []) h = record { one = x; only = refl; so = h }
only_one ok (x ∷ y ∷ ys) h = false_true h

pub stamps_back : (xs ys : List Stamp) → same_list same_stamp xs ys ≡ true → xs ≡ ys
stamps_back [] [] h = refl
stamps_back [] (y ∷ ys) h = false_true h
stamps_back (x ∷ xs) [] h = false_true h
stamps_back (x ∷ xs) (y ∷ ys) h = (let parts : (same_stamp x y ≡ true) × (same_list same_stamp xs ys ≡ true) = both_parts (same_stamp x y) (same_list same_stamp xs ys) h
    in ap (λ z. z ∷ xs) (stamp_eq x y parts.0) ∙ ap (λ zs. y ∷ zs) (stamps_back xs ys parts.1))

in_filter : (f : FileId) (xs : List OpenInstance) (x : OpenInstance) → filter (is_writing f) xs ≡ x ∷ [] → is_writing f x ≡ true
in_filter f [] x e = absurd (cc)
in_filter f (y ∷ ys) x e = at (in_filter f ys x) (is_writing f y) refl
  where
    head : (a b : OpenInstance) (as_after bs_after : List OpenInstance) → a ∷ as_after ≡ b ∷ bs_after → a ≡ b
    head a b as_after bs_after k = cc

    at : (filter (is_writing f) ys ≡ x ∷ [] → is_writing f x ≡ true) → (b : Bool) → is_writing f y ≡ b → is_writing f x ≡ true
    at later true h = subst (λ z. is_writing f z ≡ true) (head y x (filter (is_writing f) ys) [] (rw h at e)) h
    at later false h = later (rw h at e)

pub back_commit : (c : Config) (before : Trace) (p : Past) (f : FileId) (site : ℕ) (stamp : Stamp) (parents : List Stamp) (content : List ℕ) → Agrees c before p → may_follow c p (says.Commit f site stamp parents content) ≡ true → MayCommit c before f site stamp parents content
back_commit c before p f site stamp parents content a h = record {
  epoch = at.epoch;
  inside = sym (a.sites.epoch site) ∙ in_is (site_at p site).epoch at.epoch (ap (is_in (site_at p site).epoch) (sym at.named) ∙ parts.0);
  instance = instance_of it.one;
  one = opened_filter (history c before) (tree_of c at.epoch f.group before) p u tree (writes f) (λ x w. ap (λ n. x.grant.file.group == n) (group_is c at.epoch f.group before) ∙ of_group x w) ∙ ap (map instance_of) it.only;
  at = number_eq it.one.grant.ss site own.0;
  owes = owes.0;
  same = (bytes_eq-Decides content it.one.work.content).0 content_is.0;
  above = stamps_back parents (parents_of p u it.one) numbered.0 ∙ parents_are (history c before) (tree_of c at.epoch f.group before) p u tree it.one (number_eq it.one.grant.file.group f.group (of_group it.one (in_filter f u.opened it.one it.only)) ∙ sym (group_is c at.epoch f.group before));
  numbered = stamp_eq stamp (record { site = site; n = next_number p.history f parents site }) numbered.1 ∙ ap (λ y. record { site = site; n = next_number y f parents site }) a.epochs.history;
}
  where
    at : Home p (may_commit p f site stamp parents content)
    at = home c before p a (may_commit p f site stamp parents content) h

    u : Epoch
    u = epoch_at p at.epoch

    tree : TreeIs (history c before) (tree_of c at.epoch f.group before) p u
    tree = tree_is c before p a at.epoch f.group

    ok : OpenInstance → Bool
    ok x = (x.grant.ss == site) && (x.work.owes && (bytes_eq content x.work.content && (same_list same_stamp parents (parents_of p u x) && same_stamp stamp (record { site = site; n = next_number p.history f parents site }))))

    parts : (is_in (site_at p site).epoch u.id ≡ true) × (is_the_one ok (filter (is_writing f) u.opened) ≡ true)
    parts = both_parts (is_in (site_at p site).epoch u.id) (is_the_one ok (filter (is_writing f) u.opened)) at.so

    it : Only ok (filter (is_writing f) u.opened)
    it = only_one ok (filter (is_writing f) u.opened) parts.1

    of_group : (x : OpenInstance) → is_writing f x ≡ true → (x.grant.file.group == f.group) ≡ true
    of_group x w = (both_parts (x.grant.file.group == f.group) (x.grant.file.ino == f.ino) (both_parts (same_file x.grant.file f) (not (is_read x.grant.mode)) w).0).0

    own : ((it.one.grant.ss == site) ≡ true) × ((it.one.work.owes && (bytes_eq content it.one.work.content && (same_list same_stamp parents (parents_of p u it.one) && same_stamp stamp (record { site = site; n = next_number p.history f parents site })))) ≡ true)
    own = both_parts (it.one.grant.ss == site) _ it.so

    owes : (it.one.work.owes ≡ true) × ((bytes_eq content it.one.work.content && (same_list same_stamp parents (parents_of p u it.one) && same_stamp stamp (record { site = site; n = next_number p.history f parents site }))) ≡ true)
    owes = both_parts it.one.work.owes _ own.1

    content_is : (bytes_eq content it.one.work.content ≡ true) × ((same_list same_stamp parents (parents_of p u it.one) && same_stamp stamp (record { site = site; n = next_number p.history f parents site })) ≡ true)
    content_is = both_parts (bytes_eq content it.one.work.content) _ owes.1

    numbered : (same_list same_stamp parents (parents_of p u it.one) ≡ true) × (same_stamp stamp (record { site = site; n = next_number p.history f parents site }) ≡ true)
    numbered = both_parts (same_list same_stamp parents (parents_of p u it.one)) _ content_is.1
