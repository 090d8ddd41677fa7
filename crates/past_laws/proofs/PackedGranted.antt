-- An open is granted at a site that has a pack, and a make for such sites.
use Rattle.std.proofs.Common.{◌≡◌, ℕ, ◌≤◌, ◌==◌, ◌||◌, ◌&&◌, Bool, true, false, cond, List, [], ◌∷◌, Option, Some, None, refl, sym, ap, subst, ◌∙◌}
use Rattle.std.specs.List.{find, list_any, list_all}
use Rattle.std.specs.Option.{is_none, option_map, option_or}
use Rattle.locus_ids.specs.Sizes.{sites_max}
use Rattle.locus_ids.specs.Sites.{has}
use Rattle.locus_ids.specs.declared.config.Config.{Config}
use Rattle.locus_ids.specs.declared.sites.Members.{Members}
use Rattle.locus_ids.specs.declared.sites.Sites.{Sites}
use Rattle.locus_ids.specs.declared.ids.CallId.{CallId}
use Rattle.locus_ids.specs.declared.ids.EpochId.{EpochId}
use Rattle.locus_ids.specs.declared.ids.FileId.{FileId}
use Rattle.locus_ids.specs.declared.ids.Mode.{Mode}
use Rattle.locus_ids.specs.declared.ids.Mode.TheVariants as mode
use Rattle.locus_ids.specs.declared.ids.Serial.{Serial}
use Rattle.locus_ids.specs.declared.ids.Stamp.{Stamp}
use Rattle.locus_ids.specs.declared.refusal.Refusal.{Refusal}
use Rattle.locus_ids.specs.declared.refusal.Refusal.TheVariants.{NoStorage}
use Rattle.commit_graph.specs.Grants.{grant_refusal}
use Rattle.commit_graph.specs.Versions.{same_file}
use Rattle.trace_book.specs.Same.{same_call}
use Rattle.tree_model.specs.Epochs.{has_joined}
use Rattle.tree_model.specs.Folds.{Trace}
use Rattle.tree_model.specs.Histories.{history}
use Rattle.tree_model.specs.Opening.{held_by, is_new_file, is_only, is_placed, is_site, making_set, making_site, open_refusal, place_refusal, resolving_site}
use Rattle.tree_model.specs.Packs.{all_sites, has_pack, is_good_set, is_member_of, is_place, is_within, least_site, making_site_in, packs_of, sync_site, that_passes}
use Rattle.tree_model.specs.Same.{same_version}
use Rattle.tree_model.specs.State.{TreeState, has_stamp_of, held_at, kept_of, openers}
use Rattle.tree_model.specs.Tree.{tree_of}
use Rattle.promises.specs.of_lawful_trace.TreeRows.{MayGrant}
use Rattle.promises.specs.Past.{CallSoFar, Copy, Past, copies_in, epoch_at, stamp_in}
use Rattle.promises.specs.After.{is_epoch, is_id}
use Rattle.past_laws.specs.Agreement.{Agrees}
use Rattle.past_laws.specs.Made.{is_made}
use Rattle.past_laws.specs.Packed.{is_of, makes_fit, packs_all}
use Rattle.past_laws.proofs.Names.{both, both_parts, false_true, file_eq, none_some, number_eq, some_same}
use Rattle.past_laws.proofs.Changing.{Finds, any_finds, found_any, found_passes}
use Rattle.past_laws.proofs.Alls.{all_found, all_first_or}
use Rattle.past_laws.proofs.MadeFinds.{accepted_there}
use Rattle.past_laws.proofs.MadeGranted.{granted_made, refusal_none}
use Rattle.past_laws.proofs.PackedParts.{epoch_packs, has_within, of_bounds}
use Rattle.past_laws.proofs.TreesFolds.{config_is, group_is}
use Rattle.past_laws.proofs.TreesOpening.{set_is}
use Rattle.promises.specs.Past.{unformed, Epoch}

-- A site with a version in the epoch.

stamp_packed : (c : Config) (site : ℕ) (vs : List Copy) (f : FileId) (s : Stamp) → packs_all c site vs ≡ true → stamp_in vs f ≡ Some s → has_pack c f.group site ≡ true
stamp_packed c site vs f s all e = over (find (λ (v : Copy). same_file v.file f) vs) refl e
  where
    over : (o : Option Copy) → find (λ (v : Copy). same_file v.file f) vs ≡ o → option_map (λ (v : Copy). v.stamp) o ≡ Some s → has_pack c f.group site ≡ true
    over None h k = none_some s k
    over (Some v) h k = subst (λ (g : FileId). has_pack c g.group site ≡ true) (file_eq v.file f (found_passes (λ (w : Copy). same_file w.file f) vs v h)) (all_found (λ (w : Copy). has_pack c w.file.group site) (λ (w : Copy). same_file w.file f) vs v h all)

pub holder_packs : (c : Config) (before : Trace) (p : Past) (e : EpochId) (f : FileId) (site : ℕ) (s : Stamp) → Agrees c before p → held_at (tree_of c e f.group before) site f.ino ≡ Some s → has_pack c f.group site ≡ true
holder_packs c before p e f site s a h = stamp_packed c site (copies_in p (epoch_at p e) site) f s (epoch_packs c p e site a.packed) (a.trees.held e site f ∙ h)

some_version : {A : Type 0} (o : Option Stamp) (s : Stamp) → same_version o (Some s) ≡ true → ((t : Stamp) → o ≡ Some t → A) → A
some_version None s h k = false_true h
some_version (Some t) s h k = k t refl

-- the only one is a version
only_some : {A : Type 0} (ss : List Stamp) (o : Option Stamp) → is_only ss o ≡ true → ((s : Stamp) → o ≡ Some s → A) → A
only_some ss (Some s) h k = k s refl
only_some [] None h k = false_true h
only_some (a ∷ []) None h k = false_true h
only_some (a ∷ b ∷ ss) None h k = false_true h

stamp_of : {A : Type 0} (ss : List Stamp) (o : Option Stamp) → has_stamp_of ss o ≡ true → ((s : Stamp) → o ≡ Some s → A) → A
stamp_of ss None h k = false_true h
stamp_of ss (Some s) h k = k s refl

site_is : {A : Type 0} (o : Option ℕ) (site : ℕ) → is_site o site ≡ true → (o ≡ Some site → A) → A
site_is None site h k = false_true h
site_is (Some s) site h k = k (ap (λ n. Some n) (number_eq s site h))

-- nothing refuses it, so neither part does
unrefused : (a b : Option Refusal) → is_none (option_or a b) ≡ true → is_none b ≡ true
unrefused None b h = h
unrefused (Some r) b h = false_true h

chosen : (b : Bool) → is_none (cond b None (Some NoStorage)) ≡ true → b ≡ true
chosen true h = refl
chosen false h = false_true h

-- The site of a make.

passes_that : (q : ℕ → Bool) (o : Option ℕ) (s : ℕ) → that_passes q o ≡ Some s → q s ≡ true
passes_that q None s e = none_some s e
passes_that q (Some n) s e = over (q n) refl
  where
    over : (b : Bool) → q n ≡ b → q s ≡ true
    over true h = subst (λ m. q m ≡ true) (some_same n s (rw h at e)) h
    over false h = none_some s (rw h at e)

either : {A : Type 0} (a b : Option ℕ) (s : ℕ) → option_or a b ≡ Some s → (a ≡ Some s → A) → (b ≡ Some s → A) → A
either None b s e f g = g e
either (Some n) b s e f g = f e

making_has : (c : Config) (group : ℕ) (members : Option Members) (own : ℕ) (set : Sites) (s : ℕ) → making_site_in c group members own set ≡ Some s → has set s ≡ true
making_has c group members own set s e = (both_parts (is_member_of members s) (has set s) place).1
  where
    place : is_place members set s ≡ true
    place = either (that_passes (is_place members set) (Some own)) _ s e
        (passes_that (is_place members set) (Some own) s)
        (λ k. either (that_passes (is_place members set) (sync_site c group members)) (least_site (is_place members set)) s k
        (passes_that (is_place members set) (sync_site c group members) s)
        (found_passes (is_place members set) all_sites s))

-- a storage site of a grant is one of the cluster
stored_of : (c : Config) (before : Trace) (p : Past) (e : EpochId) (ss : ℕ) → Agrees c before p → has_joined before ss e ≡ true → is_of c ss ≡ true
stored_of c before p e ss a h = over (any_finds (λ m. m == ss) (epoch_at p e).joined (a.epochs.joined e ss ∙ h))
  where
    all : list_all (is_of c) (epoch_at p e).joined ≡ true
    all = all_first_or (λ (t : Epoch). list_all (is_of c) t.joined) (is_epoch e) (unformed e) p.epochs refl a.packed.joined

    over : Finds (λ m. m == ss) (epoch_at p e).joined → is_of c ss ≡ true
    over it = subst (λ n. is_of c n ≡ true) (number_eq it.one ss it.passes) (all_found (is_of c) (λ m. m == ss) (epoch_at p e).joined it.one it.found all)

-- the set of a make is good
make_good : (c : Config) (before : Trace) (p : Past) (e : EpochId) (id : CallId) (f : FileId) → is_none (open_refusal (history c before) (tree_of c e f.group before) mode.Make id f) ≡ true
    → is_within (making_set (tree_of c e f.group before) id) (packs_of c f.group) ≡ true
make_good c before p e id f h = ap (λ d. is_within (making_set t id) (packs_of d f.group)) (sym (config_is c e f.group before))
    ∙ (ap (λ g. is_within (making_set t id) (packs_of t.config g)) (sym (group_is c e f.group before))
    ∙ (both_parts (is_within (making_set t id) (packs_of t.config t.group)) _ (chosen (is_good_set t.config t.group t.members (making_set t id)) h)).0)
  where
    t : TreeState
    t = tree_of c e f.group before

-- The storage site has a pack.

pub granted_packed : (c : Config) (before : Trace) (p : Past) (e : EpochId) (id : CallId) (request : ℕ) (i : Serial) (m : Mode) (f : FileId) (stamp : Option Stamp) (ss : ℕ) → c.sites ≤ sites_max → MayGrant c before e id request i m f stamp ss → Agrees c before p → has_pack c f.group ss ≡ true
granted_packed c before p e id request i m f stamp ss few may a = over m (refusal_none c before p e id request i m f stamp ss may)
  where
    t : TreeState
    t = tree_of c e f.group before

    holds : (s : Stamp) → stamp ≡ Some s → same_version (held_at t ss f.ino) stamp ≡ true → has_pack c f.group ss ≡ true
    holds s k h = some_version (held_at t ss f.ino) s (ap (same_version (held_at t ss f.ino)) (sym k) ∙ h) (λ v l. holder_packs c before p e f ss v a l)

    over : (n : Mode) → (is_none (open_refusal (history c before) t n id f) ≡ true) × (is_placed (history c before) t id n f stamp ss ≡ true) → has_pack c f.group ss ≡ true
    over mode.Read h = (let parts = both_parts (is_only (kept_of (history c before) t f) stamp) _ h.1 in only_some (kept_of (history c before) t f) stamp parts.0 (λ s k. holds s k parts.1))
    over mode.Write h = (let parts = both_parts (is_only (kept_of (history c before) t f) stamp) _ h.1 in only_some (kept_of (history c before) t f) stamp parts.0 (λ s k. holds s k parts.1))
    over mode.Resolve h = (let parts = both_parts (is_site (resolving_site t id) ss) _ h.1 in
        site_is (resolving_site t id) ss parts.0 (λ k. stamp_of (kept_of (history c before) t f) (held_by t (resolving_site t id) f.ino)
        (chosen _ (unrefused (grant_refusal mode.Resolve (openers t f) (kept_of (history c before) t f)) (place_refusal (history c before) t mode.Resolve id f) h.0))
        (λ s l. holder_packs c before p e f ss s a (ap (λ o. held_by t o f.ino) (sym k) ∙ l))))
    over mode.Mend h = (let parts = both_parts (is_site (sync_site t.config t.group t.members) ss) _ h.1 in
        site_is (sync_site t.config t.group t.members) ss parts.0 (λ k.
        ap (λ d. has_pack d f.group ss) (sym (config_is c e f.group before)) ∙ (ap (λ g. has_pack t.config g ss) (sym (group_is c e f.group before))
        ∙ (both_parts (is_member_of t.members ss) (has_pack t.config t.group ss) (found_passes (λ site. is_member_of t.members site && has_pack t.config t.group site) all_sites ss k)).1)))
    over mode.Make h = (let new = both_parts (is_new_file t id f ss) _ h.1 in
        let bounds = of_bounds c ss few (stored_of c before p e ss a may.there) in
        site_is (making_site t id) ss (both_parts (is_site (making_site t id) ss) _ new.0).0 (λ k.
        has_within (making_set t id) (packs_of c f.group) ss (make_good c before p e id f h.0) bounds.0 bounds.1 (making_has t.config t.group t.members id.site (making_set t id) ss k)))

-- its file is made, or is for sites with a pack
pub granted_fit : (c : Config) (before : Trace) (p : Past) (e : EpochId) (id : CallId) (request : ℕ) (i : Serial) (m : Mode) (f : FileId) (stamp : Option Stamp) (ss : ℕ) → MayGrant c before e id request i m f stamp ss → Agrees c before p
    → (is_made p.files f || list_any (λ (k : CallSoFar). same_call k.id id && makes_fit c f.group k) p.calls) ≡ true
granted_fit c before p e id request i m f stamp ss may a = over m (refusal_none c before p e id request i m f stamp ss may).0
  where
    first : (x y : Bool) → x ≡ true → (x || y) ≡ true
    first true y h = refl
    first false y h = false_true h

    second : (x y : Bool) → y ≡ true → (x || y) ≡ true
    second true y h = refl
    second false y h = h

    maker : is_none (open_refusal (history c before) (tree_of c e f.group before) mode.Make id f) ≡ true → Finds (is_id id) p.calls → list_any (λ (k : CallSoFar). same_call k.id id && makes_fit c f.group k) p.calls ≡ true
    maker h it = found_any (is_id id) (λ (k : CallSoFar). same_call k.id id && makes_fit c f.group k) p.calls it.one it.found
        (both (same_call it.one.id id) (makes_fit c f.group it.one) it.passes (ap (λ set. is_within set (packs_of c f.group)) (sym (set_is c before p a e f.group id it.one it.found)) ∙ make_good c before p e id f h))

    over : (n : Mode) → is_none (open_refusal (history c before) (tree_of c e f.group before) n id f) ≡ true → (is_made p.files f || list_any (λ (k : CallSoFar). same_call k.id id && makes_fit c f.group k) p.calls) ≡ true
    over mode.Make h = second (is_made p.files f) _ (maker h (any_finds (is_id id) p.calls (accepted_there c before p id may.opens.step.accepted a.calls may.opens.step.named)))
    over mode.Read h = first (is_made p.files f) _ (granted_made c before p e id mode.Read f a refl h)
    over mode.Write h = first (is_made p.files f) _ (granted_made c before p e id mode.Write f a refl h)
    over mode.Resolve h = first (is_made p.files f) _ (granted_made c before p e id mode.Resolve f a refl h)
    over mode.Mend h = first (is_made p.files f) _ (granted_made c before p e id mode.Mend f a refl h)
