-- What refuses an open and where it is granted, by the value of the records and by the tree of its group.
use Rattle.std.proofs.Common.{◌≡◌, ℕ, ◌==◌, ◌≤◌, ◌<◌, Bool, true, false, cond, ◌&&◌, ◌||◌, ◌++◌, List, [], ◌∷◌, length, filter, map, take, Option, Some, None, refl, sym, ap, ◌∙◌, ◌⊎◌, inl, inr, arith}
use Rattle.std.specs.Prelude.{nat_lt, suc, zero}
use Rattle.std.specs.List.{find, list_any}
use Rattle.std.specs.Option.{option_map, option_or, is_some}
use Rattle.std.proofs.lemmas.Bool.{cases_lt}
use Rattle.locus_ids.specs.Sizes.{sites_max}
use Rattle.locus_ids.specs.Sites.{has}
use Rattle.locus_ids.specs.declared.config.Config.{Config}
use Rattle.locus_ids.specs.declared.sites.Sites.{Sites}
use Rattle.locus_ids.specs.declared.sites.Members.{Members}
use Rattle.locus_ids.specs.declared.ids.CallId.{CallId}
use Rattle.locus_ids.specs.declared.ids.EpochId.{EpochId}
use Rattle.locus_ids.specs.declared.ids.FileId.{FileId}
use Rattle.locus_ids.specs.declared.ids.Mode.{Mode}
use Rattle.locus_ids.specs.declared.ids.Mode.TheVariants as mode
use Rattle.locus_ids.specs.declared.ids.Stamp.{Stamp}
use Rattle.locus_ids.specs.declared.refusal.Refusal.TheVariants.{NoStorage}
use Rattle.commit_graph.specs.Grants.{grant_refusal}
use Rattle.commit_graph.specs.Vectors.{numbers_onto}
use Rattle.commit_graph.specs.Versions.{same_file}
use Rattle.trace_book.specs.declared.call.Call.{Call}
use Rattle.trace_book.specs.declared.call.Call.TheVariants as call
use Rattle.trace_book.specs.declared.call.OpenMode.TheVariants as how
use Rattle.tree_model.specs.declared.instance.Instance.{Instance}
use Rattle.tree_model.specs.Epochs.{members_of}
use Rattle.tree_model.specs.Folds.{Trace}
use Rattle.tree_model.specs.Histories.{history}
use Rattle.tree_model.specs.Opening as old
use Rattle.tree_model.specs.Packs.{has_pack, packs_of, is_within, is_member, is_member_of, sync_site, least_site, is_place, is_good_set, that_passes, making_site_in, all_sites}
use Rattle.tree_model.specs.State as state
use Rattle.tree_model.specs.Tree.{tree_of}
use Rattle.tree_model.specs.Working.{list_of}
use Rattle.promises.specs.Past.{Past, CallSoFar, Copy, Instance as OpenInstance, epoch_at, copies_in, held_in, kept_in, stamp_in}
use Rattle.promises.specs.Tree as new
use Rattle.promises.specs.After.{is_id}
use Rattle.past_laws.specs.Agreement.{Agrees, instance_of, waiting_as}
use Rattle.past_laws.proofs.Names.{both_parts, call_eq}
use Rattle.past_laws.proofs.RowsServed.{member_as, sync_as}
use Rattle.past_laws.proofs.TreesFolds.{config_is, group_is, members_are, calls_are, accepted_from}
use Rattle.past_laws.proofs.TreesLists.{found_then, any_one, first_only, filter_same, map_map, filter_one, any_same, any_both, found_passes}
use Rattle.past_laws.proofs.TreesPages.{tree_is}
use Rattle.past_laws.proofs.TreesWorking.{kept_is, opened_filter}

-- A call that was accepted, with its words.

pub words_are : (c : Config) (before : Trace) (p : Past) → Agrees c before p → (e : EpochId) (group : ℕ) (id : CallId) (k : CallSoFar) → find (is_id id) p.calls ≡ Some k → old.words_in (tree_of c e group before) id ≡ Some k.words
words_are c before p a e group id k found = ap state.words_of (calls_are c e group before id ∙ ap (option_map accepted_from) (sym (a.calls.named id) ∙ ap (option_map waiting_as) found))

pub set_is : (c : Config) (before : Trace) (p : Past) → Agrees c before p → (e : EpochId) (group : ℕ) (id : CallId) (k : CallSoFar) → find (is_id id) p.calls ≡ Some k → old.making_set (tree_of c e group before) id ≡ new.set_for c group k
set_is c before p a e group id k found = ap (λ w. old.sites_made (packs_of t.config t.group) w) (words_are c before p a e group id k found)
    ∙ (ap (λ d. old.sites_made (packs_of d t.group) (Some k.words)) (config_is c e group before) ∙ ap (λ g. old.sites_made (packs_of c g) (Some k.words)) (group_is c e group before))
  where
    t : state.TreeState
    t = tree_of c e group before

-- Where a make is placed.

found_place : (q : ℕ → Bool) (own : ℕ) (s : Option ℕ) → find q (own ∷ list_of s ++ all_sites) ≡ option_or (that_passes q (Some own)) (option_or (that_passes q s) (least_site q))
found_place q own s = at (q own) ∙ ap (option_or (that_passes q (Some own))) (by_sync s)
  where
    at : (b : Bool) → cond b (Some own) (find q (list_of s ++ all_sites)) ≡ option_or (cond b (Some own) None) (find q (list_of s ++ all_sites))
    at true = refl
    at false = refl

    pass : (y : ℕ) (b : Bool) → cond b (Some y) (find q all_sites) ≡ option_or (cond b (Some y) None) (find q all_sites)
    pass y true = refl
    pass y false = refl

    by_sync : (o : Option ℕ) → find q (list_of o ++ all_sites) ≡ option_or (that_passes q o) (least_site q)
    by_sync None = refl
    by_sync (Some y) = pass y (q y)

pub place_is : (c : Config) (before : Trace) (p : Past) → Agrees c before p → (e : EpochId) (group : ℕ) (id : CallId) (k : CallSoFar) → find (is_id id) p.calls ≡ Some k → new.place_for c (epoch_at p e) group k ≡ list_of (old.making_site (tree_of c e group before) id)
place_is c before p a e group id k found = ap (take 1) (ap (λ ys. filter q (k.id.site ∷ ys ++ all_sites)) (sync_as c before p e group a) ∙ filter_same q (is_place members set) (λ s. ap (λ b. b && has set s) (member_as c before p e s a)) (k.id.site ∷ list_of sync ++ all_sites))
    ∙ (first_only (is_place members set) (k.id.site ∷ list_of sync ++ all_sites)
    ∙ ap list_of (found_place (is_place members set) k.id.site sync
    ∙ sym (ap (λ s. making_site_in t.config t.group t.members id.site s) (set_is c before p a e group id k found)
    ∙ (ap (λ d. making_site_in d t.group t.members id.site set) (config_is c e group before)
    ∙ (ap (λ g. making_site_in c g t.members id.site set) (group_is c e group before)
    ∙ (ap (λ m. making_site_in c group m id.site set) (members_are c e group before)
    ∙ ap (λ s. making_site_in c group members s set) (sym (ap (λ (d : CallId). d.site) own))))))))
  where
    t : state.TreeState
    t = tree_of c e group before

    members : Option Members
    members = members_of before e

    set : Sites
    set = new.set_for c group k

    sync : Option ℕ
    sync = sync_site c group members

    q : ℕ → Bool
    q s = is_member (epoch_at p e).members s && has set s

    own : k.id ≡ id
    own = call_eq k.id id (found_passes (is_id id) p.calls k found)

-- a site of the cluster is among all sites
onto_keeps : (q : ℕ → Bool) (n : ℕ) (others : List ℕ) → list_any q others ≡ true → list_any q (numbers_onto n others) ≡ true
onto_keeps q zero others h = h
onto_keeps q (suc n) others h = onto_keeps q n (suc n ∷ others) (or_more (q (suc n)) h)
  where
    or_more : (b : Bool) → list_any q others ≡ true → (b || list_any q others) ≡ true
    or_more true j = refl
    or_more false j = j

pub onto_has : (q : ℕ → Bool) (n own : ℕ) (others : List ℕ) → 1 ≤ own → own ≤ n → q own ≡ true → list_any q (numbers_onto n others) ≡ true
onto_has q zero own others low high h = absurd (omega arith)
onto_has q (suc n) own others low high h = at (onto_has q n own (suc n ∷ others)) (cases_lt n own)
  where
    here : n < own → own ≡ suc n
    here l = omega arith

    at : (1 ≤ own → own ≤ n → q own ≡ true → list_any q (numbers_onto n (suc n ∷ others)) ≡ true) → (n < own) ⊎ (own ≤ n) → list_any q (numbers_onto n (suc n ∷ others)) ≡ true
    at later (inl l) = onto_keeps q n (suc n ∷ others) (ap (λ b. b || list_any q others) (ap q (sym (here l)) ∙ h))
    at later (inr l) = later low l h

any_least : (q : ℕ → Bool) (xs : List ℕ) → list_any q xs ≡ is_some (find q xs)
any_least q [] = refl
any_least q (x ∷ xs) = at (q x) (any_least q xs)
  where
    at : (b : Bool) → list_any q xs ≡ is_some (find q xs) → (b || list_any q xs) ≡ is_some (cond b (Some x) (find q xs))
    at true h = refl
    at false h = h

-- a make has a place where some member is in its set
placed_some : (c : Config) (group : ℕ) (members : Option Members) (own : ℕ) (set : Sites) → 1 ≤ own → own ≤ sites_max → is_some (making_site_in c group members own set) ≡ is_some (least_site (is_place members set))
placed_some c group members own set low high = by_own (q own) refl
  where
    q : ℕ → Bool
    q = is_place members set

    least : (s : ℕ) → find (λ y. is_member_of members y && has_pack c group y) all_sites ≡ Some s → q s ≡ true → is_some (least_site q) ≡ true
    least s e h = sym (any_least q all_sites) ∙ found_then (λ y. is_member_of members y && has_pack c group y) q all_sites s e h

    by_sync : (o : Option ℕ) → sync_site c group members ≡ o → is_some (option_or (that_passes q o) (least_site q)) ≡ is_some (least_site q)
    by_sync None e = refl
    by_sync (Some s) e = pass (q s) refl
      where
        pass : (b : Bool) → q s ≡ b → is_some (option_or (cond b (Some s) None) (least_site q)) ≡ is_some (least_site q)
        pass true h = sym (least s e h)
        pass false h = refl

    by_own : (b : Bool) → q own ≡ b → is_some (option_or (cond b (Some own) None) (option_or (that_passes q (sync_site c group members)) (least_site q))) ≡ is_some (least_site q)
    by_own true h = sym (sym (any_least q all_sites) ∙ onto_has q sites_max own [] low high h)
    by_own false h = by_sync (sync_site c group members) refl

-- Refusals.

-- one of a file that passes
abbrev is_any : (Stamp → Bool) → Option Stamp → Bool
is_any r None = false
is_any r (Some s) = r s

any_held : (r : Stamp → Bool) (f : FileId) (vs : List Copy) → length (filter (λ (v : Copy). same_file v.file f) vs) ≤ 1 → list_any (λ (v : Copy). same_file v.file f && r v.stamp) vs ≡ is_any r (stamp_in vs f)
any_held r f vs one = at (find (λ (v : Copy). same_file v.file f) vs) refl
  where
    flip : (a b : Bool) → (a && b) ≡ (b && a)
    flip true true = refl
    flip true false = refl
    flip false true = refl
    flip false false = refl

    nothing : find (λ (v : Copy). same_file v.file f) vs ≡ None → list_any (λ (v : Copy). same_file v.file f && r v.stamp) vs ≡ false
    nothing e = any_same (λ (v : Copy). same_file v.file f && r v.stamp) (λ (v : Copy). r v.stamp && same_file v.file f) (λ v. flip (same_file v.file f) (r v.stamp)) vs ∙ (sym (any_both (λ (v : Copy). r v.stamp) (λ (v : Copy). same_file v.file f) vs) ∙ ap (list_any (λ (v : Copy). r v.stamp)) (filter_one (λ (v : Copy). same_file v.file f) vs one ∙ ap list_of e))

    at : (o : Option Copy) → find (λ (v : Copy). same_file v.file f) vs ≡ o → list_any (λ (v : Copy). same_file v.file f && r v.stamp) vs ≡ is_any r (option_map (λ (v : Copy). v.stamp) o)
    at None e = nothing e
    at (Some v) e = any_one (λ (v : Copy). same_file v.file f) (λ (v : Copy). r v.stamp) vs v one e

resolves_are : (words : Call) → new.resolves_from words ≡ list_of (old.site_named (Some words))
resolves_are (call.Open path (how.Resolve site)) = refl
resolves_are words = refl

pub resolving_is : (c : Config) (before : Trace) (p : Past) → Agrees c before p → (e : EpochId) (group : ℕ) (id : CallId) (k : CallSoFar) → find (is_id id) p.calls ≡ Some k → new.resolves_from k.words ≡ list_of (old.resolving_site (tree_of c e group before) id)
resolving_is c before p a e group id k found = resolves_are k.words ∙ ap (λ w. list_of (old.site_named w)) (sym (words_are c before p a e group id k found))

pub kept_as : (c : Config) (before : Trace) (p : Past) → Agrees c before p → (e : EpochId) (f : FileId) → kept_in p (epoch_at p e) f ≡ state.kept_of (history c before) (tree_of c e f.group before) f
kept_as c before p a e f = kept_is (history c before) (tree_of c e f.group before) p (epoch_at p e) (tree_is c before p a e f.group) f (sym (group_is c e f.group before))

pub openers_are : (c : Config) (before : Trace) (p : Past) → Agrees c before p → (e : EpochId) (f : FileId) → new.openers (epoch_at p e) f ≡ state.openers (tree_of c e f.group before) f
openers_are c before p a e f = sym (ap (map state.opener_of) (opened_filter (history c before) t p (epoch_at p e) (tree_is c before p a e f.group) (λ (x : Instance). same_file x.grant.file f)
    (λ x h. ap (λ n. x.grant.file.group == n) (group_is c e f.group before) ∙ (both_parts (x.grant.file.group == f.group) (x.grant.file.ino == f.ino) h).0))
    ∙ map_map state.opener_of instance_of (filter (λ (x : OpenInstance). same_file x.grant.file f) (epoch_at p e).opened))
  where
    t : state.TreeState
    t = tree_of c e f.group before

positive : {X : Type 0} (o : Option X) → nat_lt 0 (length (list_of o)) ≡ is_some o
positive None = refl
positive (Some x) = refl

pub place_refusal_is : (c : Config) (before : Trace) (p : Past) → Agrees c before p → (e : EpochId) (m : Mode) (f : FileId) (id : CallId) (k : CallSoFar) → find (is_id id) p.calls ≡ Some k → 1 ≤ id.site → id.site ≤ sites_max → new.place_refusal c p (epoch_at p e) k m f ≡ old.place_refusal (history c before) (tree_of c e f.group before) m id f
place_refusal_is c before p a e mode.Resolve f id k found low high = ap (λ b. cond b None (Some NoStorage)) (ap (list_any (new.has_kept p (epoch_at p e) f)) (resolving_is c before p a e f.group id k found) ∙ at (old.resolving_site t id))
  where
    t : state.TreeState
    t = tree_of c e f.group before

    stamp_of_is : (o : Option Stamp) → is_any (state.has_stamp (kept_in p (epoch_at p e) f)) o ≡ state.has_stamp_of (state.kept_of (history c before) t f) o
    stamp_of_is None = refl
    stamp_of_is (Some s) = ap (λ ss. state.has_stamp ss s) (kept_as c before p a e f)

    or_false : (b : Bool) → (b || false) ≡ b
    or_false true = refl
    or_false false = refl

    at : (o : Option ℕ) → list_any (new.has_kept p (epoch_at p e) f) (list_of o) ≡ state.has_stamp_of (state.kept_of (history c before) t f) (old.held_by t o f.ino)
    at None = refl
    at (Some s) = or_false (new.has_kept p (epoch_at p e) f s) ∙ (any_held (state.has_stamp (kept_in p (epoch_at p e) f)) f (copies_in p (epoch_at p e) s) (a.trees.one_left e s f)
        ∙ (stamp_of_is (held_in p (epoch_at p e) s f) ∙ ap (state.has_stamp_of (state.kept_of (history c before) t f)) (a.trees.held e s f)))
place_refusal_is c before p a e mode.Make f id k found low high = ap (λ b. cond b None (Some NoStorage)) (ap (λ b. is_within set (packs_of c f.group) && b) (ap (λ ys. nat_lt 0 (length ys)) (place_is c before p a e f.group id k found) ∙ (positive (old.making_site t id) ∙ has_place))
    ∙ sym (ap (λ s. is_good_set t.config t.group t.members s) (set_is c before p a e f.group id k found)
    ∙ (ap (λ d. is_good_set d t.group t.members set) (config_is c e f.group before)
    ∙ (ap (λ g. is_good_set c g t.members set) (group_is c e f.group before)
    ∙ ap (λ m. is_good_set c f.group m set) (members_are c e f.group before)))))
  where
    t : state.TreeState
    t = tree_of c e f.group before

    set : Sites
    set = new.set_for c f.group k

    has_place : is_some (old.making_site t id) ≡ is_some (least_site (is_place (members_of before e) set))
    has_place = ap (λ s. is_some (making_site_in t.config t.group t.members id.site s)) (set_is c before p a e f.group id k found) ∙ (placed_some t.config t.group t.members id.site set low high ∙ ap (λ m. is_some (least_site (is_place m set))) (members_are c e f.group before))
place_refusal_is c before p a e m f id k found low high = refl

pub refusal_is : (c : Config) (before : Trace) (p : Past) → Agrees c before p → (e : EpochId) (m : Mode) (f : FileId) (id : CallId) (k : CallSoFar) → find (is_id id) p.calls ≡ Some k → 1 ≤ id.site → id.site ≤ sites_max → new.open_refusal c p (epoch_at p e) k m f ≡ old.open_refusal (history c before) (tree_of c e f.group before) m id f
refusal_is c before p a e mode.Make f id k found low high = place_refusal_is c before p a e mode.Make f id k found low high
refusal_is c before p a e m f id k found low high = ap (λ os. option_or (grant_refusal m os (kept_in p (epoch_at p e) f)) (new.place_refusal c p (epoch_at p e) k m f)) (openers_are c before p a e f)
    ∙ (ap (λ ss. option_or (grant_refusal m (state.openers (tree_of c e f.group before) f) ss) (new.place_refusal c p (epoch_at p e) k m f)) (kept_as c before p a e f)
    ∙ ap (option_or (grant_refusal m (state.openers (tree_of c e f.group before) f) (state.kept_of (history c before) (tree_of c e f.group before) f))) (place_refusal_is c before p a e m f id k found low high))
