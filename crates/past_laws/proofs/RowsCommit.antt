-- The row of commits: a version that may be committed by the folds may be by the past.
use Rattle.std.proofs.Common.{◌≡◌, ℕ, ◌==◌, ◌&&◌, not, Bool, true, false, List, [], ◌∷◌, filter, map, Some, refl, sym, ap, subst, ◌∙◌}
use Rattle.std.proofs.lemmas.Slice.Eq.{bytes_eq-Decides}
use Rattle.std.specs.List.{find, list_any}
use Rattle.std.specs.Str.{bytes_eq}
use Rattle.locus_ids.specs.declared.config.Config.{Config}
use Rattle.locus_ids.specs.declared.ids.FileId.{FileId}
use Rattle.locus_ids.specs.declared.ids.Stamp.{Stamp}
use Rattle.commit_graph.specs.Counters.{next_number}
use Rattle.commit_graph.specs.Grants.{is_read}
use Rattle.commit_graph.specs.Versions.{same_file, same_stamp}
use Rattle.trace_book.specs.Same.{same_epoch}
use Rattle.trace_book.specs.declared.record.Record.TheVariants as rec
use Rattle.tree_model.specs.declared.instance.Instance.{Instance as TreeInstance}
use Rattle.tree_model.specs.Epochs.{is_in}
use Rattle.tree_model.specs.Folds.{Trace}
use Rattle.tree_model.specs.Histories.{history}
use Rattle.tree_model.specs.Tree.{tree_of}
use Rattle.tree_model.specs.Working as old
use Rattle.promises.specs.of_lawful_trace.TreeRows.{MayCommit, is_writing as writes}
use Rattle.promises.specs.Past.{Instance, Past, epoch_at}
use Rattle.promises.specs.After.{is_epoch}
use Rattle.promises.specs.Rows.{is_the_one, is_writing, may_commit, may_follow}
use Rattle.promises.specs.Same.{same_list}
use Rattle.promises.specs.Tree.{parents_of}
use Rattle.past_laws.specs.Agreement.{Agrees, instance_of}
use Rattle.past_laws.proofs.Names.{both, both_parts, epoch_own, number_eq, number_own, stamp_own}
use Rattle.past_laws.proofs.Changing.{found_any}
use Rattle.past_laws.proofs.MadeKnown.{home_found}
use Rattle.past_laws.proofs.TreesFolds.{group_is}
use Rattle.past_laws.proofs.TreesPages.{tree_is}
use Rattle.past_laws.proofs.TreesWorking.{TreeIs, opened_filter, parents_are}

-- a list of one image is of one
pub record IsOne {X Y : Type 0} (g : X → Y) (xs : List X) (y : Y) : Type 0 where
  pub one : X
  pub only : xs ≡ one ∷ []
  pub is : g one ≡ y

pub one_image : {X Y : Type 0} (g : X → Y) (xs : List X) (y : Y) → map g xs ≡ y ∷ [] → IsOne g xs y
one_image g [] y e = absurd (cc)
one_image {Y = Y} g (x ∷ []) y e = record { one = x; only = refl; is = head (g x) y [] [] e }
  where
    head : (a b : Y) (ones others : List Y) → a ∷ ones ≡ b ∷ others → a ≡ b
    head a b ones others k = cc
one_image g (x ∷ z ∷ xs) y e = absurd (cc)

same_stamps : (ss : List Stamp) → same_list same_stamp ss ss ≡ true
same_stamps [] = refl
same_stamps (s ∷ ss) = both (same_stamp s s) (same_list same_stamp ss ss) (stamp_own s) (same_stamps ss)

one_writes : (f : FileId) (xs : List Instance) (x : Instance) → filter (is_writing f) xs ≡ x ∷ [] → is_writing f x ≡ true
one_writes f [] x e = absurd (cc)
one_writes f (y ∷ ys) x e = over (one_writes f ys x) (is_writing f y) refl
  where
    head : (a b : Instance) (ones others : List Instance) → a ∷ ones ≡ b ∷ others → a ≡ b
    head a b ones others k = cc

    over : (filter (is_writing f) ys ≡ x ∷ [] → is_writing f x ≡ true) → (b : Bool) → is_writing f y ≡ b → is_writing f x ≡ true
    over later true h = subst (λ z. is_writing f z ≡ true) (head y x (filter (is_writing f) ys) [] (rw h at e)) h
    over later false h = later (rw h at e)

pub row_commit : (c : Config) (before : Trace) (p : Past) (f : FileId) (site : ℕ) (stamp : Stamp) (parents : List Stamp) (content : List ℕ) → Agrees c before p → MayCommit c before f site stamp parents content → may_follow c p (rec.Commit f site stamp parents content) ≡ true
row_commit c before p f site stamp parents content a may = over (home_found p may.epoch (a.epochs.inside site may.epoch may.inside)) (one_image instance_of (filter (is_writing f) (epoch_at p may.epoch).opened) may.instance (sym (opened_filter (history c before) (tree_of c may.epoch f.group before) p (epoch_at p may.epoch) tree (writes f) here) ∙ may.one))
  where
    tree : TreeIs (history c before) (tree_of c may.epoch f.group before) p (epoch_at p may.epoch)
    tree = tree_is c before p a may.epoch f.group

    here : (x : Instance) → writes f (instance_of x) ≡ true → (x.grant.file.group == (tree_of c may.epoch f.group before).group) ≡ true
    here x h =
        let own = both_parts (same_file x.grant.file f) (not (is_read x.grant.mode)) h in
        ap (λ n. x.grant.file.group == n) (group_is c may.epoch f.group before) ∙ (both_parts (x.grant.file.group == f.group) (x.grant.file.ino == f.ino) own.0).0

    passes : Instance → Bool
    passes x = (x.grant.ss == site) && (x.work.owes && (bytes_eq content x.work.content && (same_list same_stamp parents (parents_of p (epoch_at p may.epoch) x) && same_stamp stamp (record { site = site; n = next_number p.history f parents site }))))

    one : (x : Instance) → instance_of x ≡ may.instance → x.grant.file.group ≡ (tree_of c may.epoch f.group before).group → passes x ≡ true
    one x is group =
        both _ _ (ap (λ n. n == site) (ap (λ (y : TreeInstance). y.grant.ss) is ∙ may.at) ∙ number_own site)
        (both _ _ (ap (λ (y : TreeInstance). y.work.owes) is ∙ may.owes)
        (both _ _ ((bytes_eq-Decides content x.work.content).1 (may.same ∙ ap (λ (y : TreeInstance). y.work.content) (sym is)))
        (both _ _ (ap (same_list same_stamp parents) (parents_are (history c before) (tree_of c may.epoch f.group before) p (epoch_at p may.epoch) tree x group ∙ (ap (old.parents_of (history c before) (tree_of c may.epoch f.group before)) is ∙ sym may.above)) ∙ same_stamps parents)
        (ap (λ h. same_stamp stamp (record { site = site; n = next_number h f parents site })) a.epochs.history ∙ (ap (same_stamp stamp) (sym may.numbered) ∙ stamp_own stamp)))))

    over : ((epoch_at p may.epoch).id ≡ may.epoch) × (find (is_epoch (epoch_at p may.epoch).id) p.epochs ≡ Some (epoch_at p may.epoch)) → IsOne instance_of (filter (is_writing f) (epoch_at p may.epoch).opened) may.instance → list_any (may_commit p f site stamp parents content) p.epochs ≡ true
    over home it = found_any (is_epoch (epoch_at p may.epoch).id) (may_commit p f site stamp parents content) p.epochs (epoch_at p may.epoch) home.1
        (both _ _ (ap (λ o. is_in o (epoch_at p may.epoch).id) (a.sites.epoch site ∙ may.inside) ∙ (ap (λ i. same_epoch may.epoch i) home.0 ∙ epoch_own may.epoch))
        (ap (is_the_one passes) it.only ∙ one it.one it.is (number_eq it.one.grant.file.group (tree_of c may.epoch f.group before).group (here it.one (one_writes f (epoch_at p may.epoch).opened it.one it.only)))))
