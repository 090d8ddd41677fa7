-- The row of adoptions: a version that a site may adopt by the folds it may adopt by the past.
use Rattle.std.proofs.Common.{◌≡◌, ℕ, ◌≤◌, ◌==◌, ◌||◌, ◌&&◌, not, Bool, true, false, List, [], ◌∷◌, filter, length, map, Option, Some, None, refl, sym, ap, ◌∙◌}
use Rattle.std.specs.List.{find, list_any, list_all}
use Rattle.std.specs.Option.{option_map}
use Rattle.locus_ids.specs.Sites.{has}
use Rattle.locus_ids.specs.declared.config.Config.{Config}
use Rattle.locus_ids.specs.declared.ids.FileId.{FileId}
use Rattle.locus_ids.specs.declared.ids.Stamp.{Stamp}
use Rattle.commit_graph.specs.declared.history.Version.{Version}
use Rattle.commit_graph.specs.Versions.{is_proper_ancestor, same_file}
use Rattle.trace_book.specs.Same.{same_epoch}
use Rattle.trace_book.specs.declared.record.Record.TheVariants as rec
use Rattle.tree_model.specs.Epochs.{is_in}
use Rattle.tree_model.specs.Folds.{Trace}
use Rattle.tree_model.specs.Histories.{held as held_by}
use Rattle.tree_model.specs.State.{has_stamp}
use Rattle.promises.specs.of_lawful_trace.TreeRows.{MayAdopt, is_above, is_stored_at}
use Rattle.promises.specs.Past.{Copy, Instance, Past, candidates, epoch_at, making_of, site_at, stamp_in}
use Rattle.promises.specs.After.{is_epoch}
use Rattle.promises.specs.Rows.{is_above_held, may_adopt, may_follow}
use Rattle.past_laws.specs.Agreement.{Agrees, instance_of, is_of_cluster}
use Rattle.past_laws.proofs.Names.{both, epoch_own, false_true, none_some, some_same}
use Rattle.past_laws.proofs.Changing.{any_filtered, any_same, found_any, lost_any, none_after}
use Rattle.past_laws.proofs.Finding.{any_mapped}
use Rattle.past_laws.proofs.MadeKnown.{candidate_made, candidates_alike, home_found, known_at}
use Rattle.past_laws.proofs.Sites.{of_cluster_there}

-- What the site has of the file.

none_to_pass : {X : Type 0} (q r : X → Bool) (xs : List X) → list_any q xs ≡ false → list_all (λ x. not (q x) || r x) xs ≡ true
none_to_pass q r [] h = refl
none_to_pass {X} q r (x ∷ xs) h = over (none_to_pass q r xs) (q x) refl
  where
    over : (list_any q xs ≡ false → list_all (λ y. not (q y) || r y) xs ≡ true) → (b : Bool) → q x ≡ b → list_all (λ y. not (q y) || r y) (x ∷ xs) ≡ true
    over later true e = false_true (sym (rw e at h))
    over later false e = rw e (later (rw e at h))

-- the one that passes q passes r
one_to_pass : {X : Type 0} (q r : X → Bool) (xs : List X) (v : X) → length (filter q xs) ≤ 1 → find q xs ≡ Some v → r v ≡ true → list_all (λ x. not (q x) || r x) xs ≡ true
one_to_pass q r [] v once e h = none_some v e
one_to_pass {X} q r (x ∷ xs) v once e h = over (one_to_pass q r xs v) (q x) refl
  where
    over : (length (filter q xs) ≤ 1 → find q xs ≡ Some v → r v ≡ true → list_all (λ y. not (q y) || r y) xs ≡ true) → (b : Bool) → q x ≡ b → list_all (λ y. not (q y) || r y) (x ∷ xs) ≡ true
    over later true f = rw (f, ap r (some_same x v (rw f at e)), h) (none_to_pass q r xs (none_after q x xs (rw f at once)))
    over later false f = rw f (later (rw f at once) (rw f at e) h)

above_held : (h : List Version) (f : FileId) (stamp : Stamp) (vs : List Copy) → length (filter (λ (v : Copy). same_file v.file f) vs) ≤ 1 → is_above h f (stamp_in vs f) stamp ≡ true → list_all (λ (v : Copy). not (same_file v.file f) || is_proper_ancestor h f v.stamp stamp) vs ≡ true
above_held h f stamp vs once above = over (find (λ (v : Copy). same_file v.file f) vs) refl above
  where
    over : (o : Option Copy) → find (λ (v : Copy). same_file v.file f) vs ≡ o → is_above h f (option_map (λ (v : Copy). v.stamp) o) stamp ≡ true → list_all (λ (v : Copy). not (same_file v.file f) || is_proper_ancestor h f v.stamp stamp) vs ≡ true
    over None e k = none_to_pass (λ (v : Copy). same_file v.file f) (λ (v : Copy). is_proper_ancestor h f v.stamp stamp) vs (lost_any (λ (v : Copy). same_file v.file f) vs e)
    over (Some v) e k = one_to_pass (λ (w : Copy). same_file w.file f) (λ (w : Copy). is_proper_ancestor h f w.stamp stamp) vs v once e k

-- Nobody has it open there.

pub shut_alike : (site : ℕ) (f : FileId) (xs : List Instance) → list_any (is_stored_at site f) (map instance_of (filter (λ (x : Instance). x.grant.file.group == f.group) xs)) ≡ list_any (λ (x : Instance). (x.grant.ss == site) && same_file x.grant.file f) xs
shut_alike site f xs =
    any_mapped instance_of (is_stored_at site f) (filter (λ (x : Instance). x.grant.file.group == f.group) xs)
    ∙ (any_filtered (λ (x : Instance). is_stored_at site f (instance_of x)) (λ (x : Instance). x.grant.file.group == f.group) xs
    ∙ any_same _ _ (λ (x : Instance). same (x.grant.file.group == f.group) (x.grant.ss == site) (x.grant.file.ino == f.ino)) xs)
  where
    same : (g s i : Bool) → (g && (s && (g && i))) ≡ (s && (g && i))
    same true s i = refl
    same false true i = refl
    same false false i = refl

-- The row.

pub row_adopt : (c : Config) (before : Trace) (p : Past) (f : FileId) (site : ℕ) (stamp : Stamp) → Agrees c before p → is_of_cluster c site ≡ true → MayAdopt c before f site stamp → may_follow c p (rec.Adopt f site stamp) ≡ true
row_adopt c before p f site stamp a ours may = over (home_found p may.epoch (a.epochs.inside site may.epoch may.inside))
  where
    known : has_stamp (candidates (epoch_at p may.epoch) f) stamp ≡ true
    known = ap (λ ss. has_stamp ss stamp) (sym (candidates_alike c before p may.epoch f a)) ∙ may.known

    above : is_above_held p site f stamp ≡ true
    above = above_held p.history f stamp (site_at p site).held (a.trees.one_copy site f)
        (ap (λ o. is_above p.history f o stamp) (a.sites.held site (of_cluster_there c p.sites site a.sites.numbers ours) f) ∙ (ap (λ h. is_above h f (held_by c before site f) stamp) a.epochs.history ∙ may.above))

    shut : not (list_any (λ (x : Instance). (x.grant.ss == site) && same_file x.grant.file f) (epoch_at p may.epoch).opened) ≡ true
    shut = ap not (sym (shut_alike site f (epoch_at p may.epoch).opened) ∙ (ap (list_any (is_stored_at site f)) (a.trees.opened may.epoch f.group) ∙ may.shut))

    for : has (making_of p f).set site ≡ true
    for = ap (λ s. has s site) (a.trees.set f (candidate_made p.files f stamp (epoch_at p may.epoch).known known (known_at p may.epoch a.made))) ∙ may.for

    over : ((epoch_at p may.epoch).id ≡ may.epoch) × (find (is_epoch (epoch_at p may.epoch).id) p.epochs ≡ Some (epoch_at p may.epoch)) → list_any (may_adopt p f site stamp) p.epochs ≡ true
    over home = found_any (is_epoch (epoch_at p may.epoch).id) (may_adopt p f site stamp) p.epochs (epoch_at p may.epoch) home.1
        (both _ _ (ap (λ o. is_in o (epoch_at p may.epoch).id) (a.sites.epoch site ∙ may.inside) ∙ (ap (λ i. same_epoch may.epoch i) home.0 ∙ epoch_own may.epoch))
        (both _ _ known (both _ _ for (both _ _ above shut))))
