-- The open instances of the trees, by both formulations.
use Rattle.std.proofs.Common.{◌≡◌, ℕ, ◌==◌, ◌≤◌, Bool, true, false, not, cond, ◌&&◌, ◌++◌, ◌+◌, List, [], ◌∷◌, length, filter, map, Option, Some, None, refl, sym, ap, ◌∙◌, arith}
use Rattle.std.specs.Prelude.{fold}
use Rattle.std.specs.List.{find, list_any}
use Rattle.std.specs.Option.{is_some, option_map}
use Rattle.locus_ids.specs.declared.config.Config.{Config}
use Rattle.locus_ids.specs.declared.ids.CallId.{CallId}
use Rattle.locus_ids.specs.declared.ids.EpochId.{EpochId}
use Rattle.locus_ids.specs.declared.ids.FileId.{FileId}
use Rattle.locus_ids.specs.declared.ids.Mode.{Mode}
use Rattle.locus_ids.specs.declared.ids.Serial.{Serial}
use Rattle.locus_ids.specs.declared.ids.Stamp.{Stamp}
use Rattle.commit_graph.specs.declared.history.Version.{Version}
use Rattle.commit_graph.specs.Versions.{same_file}
use Rattle.commit_graph.specs.Grants.{is_read}
use Rattle.tree_model.specs.of_file_effects.Works.{begun, committed}
use Rattle.trace_book.specs.Same.{same_epoch}
use Rattle.trace_book.specs.declared.operation.Op.{Op}
use Rattle.trace_book.specs.declared.operation.Outcome.{Outcome}
use Rattle.trace_book.specs.declared.record.Record.{Record}
use Rattle.trace_book.specs.declared.record.Record.TheVariants as says
use Rattle.trace_book.specs.declared.reply.Reply.{Reply}
use Rattle.trace_book.specs.declared.reply.Reply.TheVariants as reply
use Rattle.tree_model.specs.declared.instance.Granted.{Granted}
use Rattle.tree_model.specs.declared.instance.Instance.{Instance}
use Rattle.tree_model.specs.Epochs.{epoch_of, is_in}
use Rattle.tree_model.specs.Folds.{Trace}
use Rattle.tree_model.specs.Given.{gives_act, gives_release, instance_gives, instance_ends}
use Rattle.tree_model.specs.Histories.{history, stamped_content}
use Rattle.tree_model.specs.Lists.{change_first, without_first}
use Rattle.tree_model.specs.State.{TreeState}
use Rattle.tree_model.specs.State as state
use Rattle.tree_model.specs.Tree.{tree_of, next, granted, grant_of, opened, acted as acted_in, once_acted, once_committed, has_now as has_in, released as released_in}
use Rattle.promises.specs.of_lawful_trace.Lawful.{MayCome}
use Rattle.promises.specs.of_lawful_trace.TreeRows.{granted_group, is_writing, MayCommit}
use Rattle.promises.specs.of_lawful_trace.Progress.{outcome_answer}
use Rattle.promises.specs.Past.{Past, Epoch, Instance as OpenInstance, epoch_at, is_named, is_writer, first_or, unformed}
use Rattle.promises.specs.After.{after, change, opened_as, acted, answered, is_actor, is_ender, close_answer, released, has_now, with_making, is_home_of, is_epoch, change_epoch, once_named}
use Rattle.promises.specs.Tree.{work_after}
use Rattle.past_laws.specs.Agreement.{Agrees, opened_in, instance_of}
use Rattle.past_laws.proofs.Names.{false_true, epoch_eq, number_eq, both, both_parts}
use Rattle.past_laws.proofs.Changing.{changed_so, changed_not}
use Rattle.past_laws.proofs.TreesAt.{is_formed, at_own, at_other, at_changed, at_missed, by_epoch, answers_kept, id_at, SaveCalls}
use Rattle.past_laws.proofs.TreesFolds.{group_is, inside_is}
use Rattle.past_laws.proofs.TreesFormed.{formed_joined, formed_inside, is_own, is_other}
use Rattle.past_laws.proofs.TreesGranted.{grant_by, grant_is}
use Rattle.past_laws.proofs.TreesKept.{IsBlind, IsBlindTree, stays}
use Rattle.past_laws.proofs.TreesLists.{number_test, fewer_pass as fewer, length_map, found_any}
use Rattle.past_laws.proofs.TreesOpened.{is_in_group, seen, seen_kept, seen_change, seen_unchanged, seen_without, seen_with_all, none_here, group_one, grant_at, here_is, instance_is, formed_open}
use Rattle.past_laws.proofs.TreesPages.{tree_is}
use Rattle.past_laws.proofs.TreesWorking.{work_is, opened_filter}

abbrev pub OpenedAfter : Config → Record → Trace → Past → EpochId → ℕ → Type 0
OpenedAfter c r before p e group = opened_in (epoch_at (after c r p) e) group ≡ (next (history c before) r (tree_of c e group before)).instances

still : (c : Config) (r : Record) (before : Trace) (p : Past) → Agrees c before p → (e : EpochId) (group : ℕ) → IsBlind (λ (t : Epoch). opened_in t group) r → IsBlindTree (λ (t : TreeState). t.instances) r → OpenedAfter c r before p e group
still c r before p k e group blind other = stays (λ (t : Epoch). opened_in t group) (λ (t : TreeState). t.instances) c r before p e group blind other (k.trees.opened e group)

-- Grants.

seen_added : (group : ℕ) (xs : List OpenInstance) (x : OpenInstance) → seen group (xs ++ x ∷ []) ≡ cond (is_in_group group x) (seen group xs ++ instance_of x ∷ []) (seen group xs)
seen_added group [] x = at (is_in_group group x)
  where
    at : (b : Bool) → map instance_of (cond b (x ∷ []) []) ≡ cond b (instance_of x ∷ []) []
    at true = refl
    at false = refl
seen_added group (y ∷ ys) x = at (is_in_group group y) (is_in_group group x) (seen_added group ys x)
  where
    at : (b d : Bool) → seen group (ys ++ x ∷ []) ≡ cond d (seen group ys ++ instance_of x ∷ []) (seen group ys) → map instance_of (cond b (y ∷ filter (is_in_group group) (ys ++ x ∷ [])) (filter (is_in_group group) (ys ++ x ∷ []))) ≡ cond d (map instance_of (cond b (y ∷ filter (is_in_group group) ys) (filter (is_in_group group) ys)) ++ instance_of x ∷ []) (map instance_of (cond b (y ∷ filter (is_in_group group) ys) (filter (is_in_group group) ys)))
    at true true h = ap (λ zs. instance_of y ∷ zs) h
    at true false h = ap (λ zs. instance_of y ∷ zs) h
    at false d h = h

opened_grant : (c : Config) (before : Trace) (p : Past) (a : EpochId) (id : CallId) (n : ℕ) (i : Serial) (m : Mode) (f : FileId) (stamp : Option Stamp) (ss : ℕ) → MayCome c before (says.Grant a id n i m f stamp ss) → Agrees c before p → (e : EpochId) (group : ℕ) → OpenedAfter c (says.Grant a id n i m f stamp ss) before p e group
opened_grant c before p a id n i m f stamp ss may k e group = by_epoch (λ x. OpenedAfter c (says.Grant a id n i m f stamp ss) before p x group) a e own other
  where
    g : Granted
    g = grant_by p id i m f ss

    new : Epoch → Epoch
    new t = record t { granted = g ∷ t.granted; opened = t.opened ++ opened_as p g stamp ∷ [] }

    t : EpochId → TreeState
    t x = tree_of c x group before

    instance_new : instance_of (opened_as p g stamp) ≡ opened (history c before) (grant_of (t a) id i m f ss) stamp
    instance_new = ap (λ h. record { grant = g; work = begun m stamp (stamped_content h f stamp) }) k.epochs.history ∙ ap (λ x. opened (history c before) x stamp) (grant_is c before p k a group id i m f ss)

    own : OpenedAfter c (says.Grant a id n i m f stamp ss) before p a group
    own = ap (λ (u : Epoch). opened_in u group) (at_own new (λ u. refl) p a (formed_joined c before p k.epochs ss a may.there))
        ∙ (seen_added group (epoch_at p a).opened (opened_as p g stamp)
        ∙ (ap (λ xs. cond (f.group == group) (xs ++ instance_of (opened_as p g stamp) ∷ []) xs) (k.trees.opened a group)
        ∙ (ap (λ x. cond (f.group == group) ((t a).instances ++ x ∷ []) (t a).instances) instance_new
        ∙ sym (ap (λ b. (cond b (granted (history c before) (grant_of (t a) id i m f ss) stamp (t a)) (t a)).instances) (is_own c a group before)
        ∙ ap (λ y. cond (f.group == y) ((t a).instances ++ opened (history c before) (grant_of (t a) id i m f ss) stamp ∷ []) (t a).instances) (group_is c a group before)))))

    other : same_epoch e a ≡ false → OpenedAfter c (says.Grant a id n i m f stamp ss) before p e group
    other h = ap (λ (u : Epoch). opened_in u group) (at_other new (λ u. refl) p a e h)
        ∙ (k.trees.opened e group
        ∙ sym (ap (λ b. (cond b (granted (history c before) (grant_of (t e) id i m f ss) stamp (t e)) (t e)).instances) (is_other c a e group before h)))

-- Operations.

pub gives_some : (h : List Version) (t : TreeState) (i : Serial) (n : ℕ) (o : Op) (result : Outcome) → gives_act h t i n o result ≡ true → is_some (state.instance_in t i) ≡ true
gives_some h t i n o result g = at (state.instance_in t i) g
  where
    at : (x : Option Instance) → instance_gives h t n o result x ≡ true → is_some x ≡ true
    at None j = false_true j
    at (Some x) j = refl

opened_act : (c : Config) (before : Trace) (p : Past) (a : EpochId) (i : Serial) (n : ℕ) (o : Op) (result : Outcome) → MayCome c before (says.Act a i n o result) → Agrees c before p → (e : EpochId) (group : ℕ) → OpenedAfter c (says.Act a i n o result) before p e group
opened_act c before p a i n o result may k e group = by_epoch (λ x. OpenedAfter c (says.Act a i n o result) before p x group) a e own other
  where
    t : EpochId → TreeState
    t x = tree_of c x group before

    q : Past
    q = answered (is_actor (epoch_at p a) i n) (outcome_answer result) p

    formed : is_formed p a ≡ true
    formed = formed_open c before p k a (granted_group before a i) i (gives_some (history c before) (tree_of c a (granted_group before a i) before) i n o result may.gives)

    once : OpenInstance → OpenInstance
    once x = record x { work = work_after p (epoch_at p a) o result x }

    acts : (b : Bool) → state.is_granted_here (t a) i ≡ b → seen group (change (is_named i) once (epoch_at p a).opened) ≡ (cond b (acted_in (history c before) i o result (t a)) (t a)).instances
    acts true h = seen_change group (is_named i) (state.is_named i) once (once_acted (history c before) (t a) o result) (λ x. refl) (λ x. refl)
        (λ x here. ap (λ w. record { grant = x.grant; work = w }) (work_is (history c before) (t a) p (epoch_at p a) (tree_is c before p k a group) o result x (number_eq x.grant.file.group group here ∙ sym (group_is c a group before))))
        (epoch_at p a).opened (k.trees.one_named a i) ∙ ap (change_first (state.is_named i) (once_acted (history c before) (t a) o result)) (k.trees.opened a group)
    acts false h = seen_unchanged group (is_named i) once (λ x. refl) (epoch_at p a).opened (none_here (grant_at p a) i group (epoch_at p a).opened (k.trees.was_granted a) (sym (here_is c before p k a group i) ∙ h)) ∙ k.trees.opened a group

    own : OpenedAfter c (says.Act a i n o result) before p a group
    own = ap (λ (u : Epoch). opened_in u group) (at_own (acted i o result p) (λ u. refl) q a formed)
        ∙ (acts (state.is_granted_here (t a) i) refl
        ∙ sym (ap (λ b. (cond (b && state.is_granted_here (t a) i) (acted_in (history c before) i o result (t a)) (t a)).instances) (is_own c a group before)))

    other : same_epoch e a ≡ false → OpenedAfter c (says.Act a i n o result) before p e group
    other h = ap (λ (u : Epoch). opened_in u group) (at_other (acted i o result p) (λ u. refl) q a e h)
        ∙ (k.trees.opened e group
        ∙ sym (ap (λ b. (cond (b && state.is_granted_here (t e) i) (acted_in (history c before) i o result (t e)) (t e)).instances) (is_other c a e group before h)))

-- Releases.

pub ends_some : (h : List Version) (t : TreeState) (i : Serial) (f : FileId) (stamp : Option Stamp) → gives_release h t i f stamp ≡ true → is_some (state.instance_in t i) ≡ true
ends_some h t i f stamp g = at (state.instance_in t i) g
  where
    at : (x : Option Instance) → instance_ends h t f stamp x ≡ true → is_some x ≡ true
    at None j = false_true j
    at (Some x) j = refl

-- the instance that ends was granted in the group of its file
pub ends_here : (c : Config) (before : Trace) (p : Past) (a : EpochId) (i : Serial) (f : FileId) (stamp : Option Stamp) → MayCome c before (says.Release a i f stamp) → Agrees c before p → state.is_group_of (grant_at p a i) f.group ≡ true
ends_here c before p a i f stamp may k = at (state.is_group_of (grant_at p a i) f.group) refl
  where
    at : (b : Bool) → state.is_group_of (grant_at p a i) f.group ≡ b → state.is_group_of (grant_at p a i) f.group ≡ true
    at true h = h
    at false h = false_true (none (find (is_named i) (filter (is_in_group f.group) (epoch_at p a).opened)) refl
        ∙ (sym (ap is_some (instance_is c before p k a f.group i)) ∙ ends_some (history c before) (tree_of c a f.group before) i f stamp may.gives))
      where
        none : (o : Option OpenInstance) → find (is_named i) (filter (is_in_group f.group) (epoch_at p a).opened) ≡ o → false ≡ is_some (option_map instance_of (find (is_named i) (filter (is_in_group f.group) (epoch_at p a).opened)))
        none None e = sym (ap (λ o. is_some (option_map instance_of o)) e)
        none (Some x) e = false_true (sym (none_here (grant_at p a) i f.group (epoch_at p a).opened (k.trees.was_granted a) h) ∙ found_any (is_named i) (filter (is_in_group f.group) (epoch_at p a).opened) x e)

opened_release : (c : Config) (before : Trace) (p : Past) (a : EpochId) (i : Serial) (f : FileId) (stamp : Option Stamp) → MayCome c before (says.Release a i f stamp) → Agrees c before p → (e : EpochId) (group : ℕ) → OpenedAfter c (says.Release a i f stamp) before p e group
opened_release c before p a i f stamp may k e group = by_epoch (λ x. OpenedAfter c (says.Release a i f stamp) before p x group) a e own other
  where
    t : EpochId → TreeState
    t x = tree_of c x group before

    q : Past
    q = fold (λ old x. answered (is_ender (epoch_at p a) i) (close_answer stamp x) old) p (filter (is_named i) (epoch_at p a).opened)

    calls : SaveCalls p q
    calls = answers_kept (is_ender (epoch_at p a) i) (close_answer stamp) (filter (is_named i) (epoch_at p a).opened) p

    formed : is_formed q a ≡ true
    formed = ap (list_any (is_epoch a)) calls.epochs ∙ formed_open c before p k a f.group i (ends_some (history c before) (tree_of c a f.group before) i f stamp may.gives)

    same : (x : EpochId) → epoch_at q x ≡ epoch_at p x
    same x = ap (first_or (unformed x) (is_epoch x)) calls.epochs

    ends : (b : Bool) → (f.group == group) ≡ b → seen group (filter (λ x. not (is_named i x)) (epoch_at p a).opened) ≡ (cond b (released_in i f stamp (t a)) (t a)).instances
    ends true h = seen_without group (is_named i) (state.is_named i) (λ x. refl) (epoch_at p a).opened (k.trees.one_named a i) ∙ ap (without_first (state.is_named i)) (k.trees.opened a group)
    ends false h = seen_with_all group (is_named i) (epoch_at p a).opened (none_here (grant_at p a) i group (epoch_at p a).opened (k.trees.was_granted a) (apart (state.is_group_of (grant_at p a i) group) refl)) ∙ k.trees.opened a group
      where
        apart : (b : Bool) → state.is_group_of (grant_at p a i) group ≡ b → state.is_group_of (grant_at p a i) group ≡ false
        apart false j = j
        apart true j = false_true (sym h ∙ number_test f.group group (group_one (grant_at p a i) f.group group (ends_here c before p a i f stamp may k) j))

    own : OpenedAfter c (says.Release a i f stamp) before p a group
    own = ap (λ (u : Epoch). opened_in u group) (at_own (released i f stamp) (λ u. refl) q a formed ∙ ap (released i f stamp) (same a))
        ∙ (ends (f.group == group) refl
        ∙ sym (ap (λ b. (cond (b && (f.group == (t a).group)) (released_in i f stamp (t a)) (t a)).instances) (is_own c a group before) ∙ ap (λ n. (cond (f.group == n) (released_in i f stamp (t a)) (t a)).instances) (group_is c a group before)))

    other : same_epoch e a ≡ false → OpenedAfter c (says.Release a i f stamp) before p e group
    other h = ap (λ (u : Epoch). opened_in u group) (at_other (released i f stamp) (λ u. refl) q a e h ∙ same e)
        ∙ (k.trees.opened e group
        ∙ sym (ap (λ b. (cond (b && (f.group == (t e).group)) (released_in i f stamp (t e)) (t e)).instances) (is_other c a e group before h)))

-- Commits.

writer_writes : (f : FileId) (s : ℕ) (x : OpenInstance) → is_writer f s x ≡ true → is_writing f (instance_of x) ≡ true
writer_writes f s x h = (let parts : (same_file x.grant.file f ≡ true) × (((x.grant.ss == s) && not (is_read x.grant.mode)) ≡ true) = both_parts (same_file x.grant.file f) ((x.grant.ss == s) && not (is_read x.grant.mode)) h
    in both (same_file x.grant.file f) (not (is_read x.grant.mode)) parts.0 (both_parts (x.grant.ss == s) (not (is_read x.grant.mode)) parts.1).1)

writer_there : (f : FileId) (x : OpenInstance) → is_writing f (instance_of x) ≡ true → is_in_group f.group x ≡ true
writer_there f x h = (both_parts (x.grant.file.group == f.group) (x.grant.file.ino == f.ino) (both_parts (same_file x.grant.file f) (not (is_read x.grant.mode)) h).0).0

-- one instance of an epoch may write the file that is committed in it
pub one_writer : (c : Config) (before : Trace) (p : Past) (f : FileId) (s : ℕ) (stamp : Stamp) (ps : List Stamp) (content : List ℕ) → MayCommit c before f s stamp ps content → Agrees c before p → (e : EpochId) → is_in (epoch_of before s) e ≡ true → length (filter (is_writer f s) (epoch_at p e).opened) ≤ 1
one_writer c before p f s stamp ps content may k e h = omega (arith, fewer (is_writer f s) (λ x. is_writing f (instance_of x)) (writer_writes f s) (epoch_at p e).opened, one)
  where
    its : may.epoch ≡ e
    its = epoch_eq may.epoch e (sym (ap (λ o. is_in o e) may.inside) ∙ h)

    found : map instance_of (filter (λ x. is_writing f (instance_of x)) (epoch_at p e).opened) ≡ may.instance ∷ []
    found = sym (opened_filter (history c before) (tree_of c e f.group before) p (epoch_at p e) (tree_is c before p k e f.group) (is_writing f) (λ x w. writer_there_tree x w)) ∙ ap (λ x. filter (is_writing f) (tree_of c x f.group before).instances) (sym its) ∙ may.one
      where
        writer_there_tree : (x : OpenInstance) → is_writing f (instance_of x) ≡ true → (x.grant.file.group == (tree_of c e f.group before).group) ≡ true
        writer_there_tree x w = ap (λ n. x.grant.file.group == n) (group_is c e f.group before) ∙ writer_there f x w

    one : length (filter (λ x. is_writing f (instance_of x)) (epoch_at p e).opened) ≤ 1
    one = omega (arith, sym (length_map instance_of (filter (λ x. is_writing f (instance_of x)) (epoch_at p e).opened)) ∙ ap length found)

opened_commit : (c : Config) (before : Trace) (p : Past) (f : FileId) (s : ℕ) (stamp : Stamp) (ps : List Stamp) (content : List ℕ) → MayCommit c before f s stamp ps content → Agrees c before p → (e : EpochId) (group : ℕ) → OpenedAfter c (says.Commit f s stamp ps content) before p e group
opened_commit c before p f s stamp ps content may k e group = at (is_in (epoch_of before s) e) refl
  where
    t : TreeState
    t = tree_of c e group before

    q : Past
    q = record (has_now s (record { file = f; stamp = stamp }) p) { history = record { file = f; site = s; stamp = stamp; parents = ps; content = content } ∷ p.history; files = with_making c f s p }

    once : OpenInstance → OpenInstance
    once x = record x { work = committed stamp x.work }

    new : Epoch → Epoch
    new u = record u { opened = change (is_writer f s) once u.opened }

    home : is_home_of p s (epoch_at p e) ≡ is_in (epoch_of before s) e
    home = ap (λ o. is_in o (epoch_at p e).id) (k.sites.epoch s) ∙ ap (is_in (epoch_of before s)) (id_at p e)

    inside : state.is_inside (has_in f s stamp t) s ≡ is_in (epoch_of before s) e
    inside = inside_is c e group before s

    at : (b : Bool) → is_in (epoch_of before s) e ≡ b → OpenedAfter c (says.Commit f s stamp ps content) before p e group
    at true h = ap (λ (u : Epoch). opened_in u group) (at_changed (is_home_of p s) new (λ u. refl) q e (formed_inside c before p k.epochs s e h) ∙ changed_so (is_home_of p s) new (epoch_at p e) (home ∙ h))
        ∙ (seen_change group (is_writer f s) (state.is_writer f s) once (once_committed stamp) (λ x. refl) (λ x. refl) (λ x here. refl) (epoch_at p e).opened (one_writer c before p f s stamp ps content may k e h)
        ∙ (ap (change_first (state.is_writer f s) (once_committed stamp)) (k.trees.opened e group)
        ∙ sym (ap (λ b. cond b (change_first (state.is_writer f s) (once_committed stamp) t.instances) t.instances) (inside ∙ h))))
    at false h = ap (λ (u : Epoch). opened_in u group) (same (is_formed p e) refl)
        ∙ (k.trees.opened e group
        ∙ sym (ap (λ b. cond b (change_first (state.is_writer f s) (once_committed stamp) t.instances) t.instances) (inside ∙ h)))
      where
        same : (b : Bool) → is_formed p e ≡ b → epoch_at (change_epoch (is_home_of p s) new q) e ≡ epoch_at p e
        same true j = at_changed (is_home_of p s) new (λ u. refl) q e j ∙ changed_not (is_home_of p s) new (epoch_at p e) (home ∙ h)
        same false j = at_missed (is_home_of p s) new (λ u. refl) q e j

-- All records.

accepts : (group : ℕ) (which : OpenInstance → Bool) (t : Epoch) → opened_in (record t { opened = change which (λ (x : OpenInstance). record x { uses = x.uses + 1 }) t.opened }) group ≡ opened_in t group
accepts group which t = seen_kept group which (λ (x : OpenInstance). record x { uses = x.uses + 1 }) (λ x. refl) t.opened

-- what a reply makes of an instance keeps whose it is, and its work
pub once_same : (r : Reply) (x : OpenInstance) → instance_of (once_named r x) ≡ instance_of x
once_same (reply.Data bytes) x = refl
once_same _ x = refl

names : (r : Reply) (group : ℕ) (which : OpenInstance → Bool) (t : Epoch) → seen group (change which (once_named r) t.opened) ≡ opened_in t group
names r group which t = seen_kept group which (once_named r) (once_same r) t.opened

pub opened_step : (c : Config) (r : Record) (before : Trace) (p : Past) → MayCome c before r → Agrees c before p → (e : EpochId) (group : ℕ) → OpenedAfter c r before p e group
opened_step c (says.Up s b) before p may k e group = still c (says.Up s b) before p k e group tt (λ t ns. refl)
opened_step c (says.Stopped s w) before p may k e group = still c (says.Stopped s w) before p k e group (λ t ls. refl) (λ t ns. refl)
opened_step c (says.Leave s a) before p may k e group = still c (says.Leave s a) before p k e group (λ t ls. refl) (λ t ns. refl)
opened_step c (says.Join s a m) before p may k e group = still c (says.Join s a m) before p k e group (λ t m. refl, λ t js vs. refl) (λ t ns. refl, λ t m ns cs bs. refl)
opened_step c (says.Start a g bs) before p may k e group = still c (says.Start a g bs) before p k e group (λ t gs. refl) (λ t. refl)
opened_step c (says.Accept s q id words) before p may k e group = still c (says.Accept s q id words) before p k e group (λ t w. accepts group w t) (λ t cs. refl)
opened_step c (says.Look a id n f w result) before p may k e group = still c (says.Look a id n f w result) before p k e group tt tt
opened_step c (says.Grant a id n i m f stamp ss) before p may k e group = opened_grant c before p a id n i m f stamp ss may k e group
opened_step c (says.Refuse a id n i m f why) before p may k e group = still c (says.Refuse a id n i m f why) before p k e group (λ t ms. refl) (λ t ms. refl)
opened_step c (says.Act a i n o result) before p may k e group = opened_act c before p a i n o result may k e group
opened_step c (says.Commit f s stamp ps content) before p may k e group = opened_commit c before p f s stamp ps content may k e group
opened_step c (says.Release a i f stamp) before p may k e group = opened_release c before p a i f stamp may k e group
opened_step c (says.Adopt f s stamp) before p may k e group = still c (says.Adopt f s stamp) before p k e group tt (λ t cs. refl)
opened_step c (says.Answer s q id r) before p may k e group = still c (says.Answer s q id r) before p k e group (λ t w fs. names r group w t) tt
opened_step c (says.Packet n from to kind) before p may k e group = still c (says.Packet n from to kind) before p k e group tt tt
opened_step c says.Void before p may k e group = still c says.Void before p k e group tt tt
opened_step c says.Budget before p may k e group = still c says.Budget before p k e group tt tt
