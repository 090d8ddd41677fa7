-- The row of mends: the system may mend a directory by the past where it may by the folds.
use Rattle.std.proofs.Common.{◌≡◌, ℕ, ◌==◌, Bool, true, false, not, cond, ◌&&◌, ◌||◌, List, [], ◌∷◌, map, filter, Option, Some, None, refl, sym, ◌∙◌, ap, subst}
use Rattle.std.specs.List.{find, list_any}
use Rattle.std.specs.Option.{option_map}
use Rattle.locus_ids.specs.declared.config.Config.{Config}
use Rattle.locus_ids.specs.declared.ids.CallId.{CallId}
use Rattle.locus_ids.specs.declared.ids.EpochId.{EpochId}
use Rattle.locus_ids.specs.declared.ids.FileId.{FileId}
use Rattle.locus_ids.specs.declared.ids.Stamp.{Stamp}
use Rattle.locus_ids.specs.declared.ids.Kind.{Kind}
use Rattle.locus_ids.specs.declared.ids.Kind.TheVariants.{Dir}
use Rattle.commit_graph.specs.Versions.{same_file, same_stamp}
use Rattle.trace_book.specs.declared.call.Call.{Call}
use Rattle.trace_book.specs.declared.call.Call.TheVariants as call
use Rattle.tree_model.specs.declared.accepted.Waiting.{Waiting}
use Rattle.tree_model.specs.declared.instance.Instance.{Instance as TreeInstance}
use Rattle.tree_model.specs.Epochs.{members_of, is_in}
use Rattle.tree_model.specs.Folds.{Trace}
use Rattle.tree_model.specs.Histories.{history}
use Rattle.tree_model.specs.Mending.{wants_rescue_in}
use Rattle.tree_model.specs.Opening.{is_only}
use Rattle.tree_model.specs.Packs.{all_sites, is_member, has_pack, sync_site}
use Rattle.tree_model.specs.Same.{same_kind}
use Rattle.tree_model.specs.State.{kept_of, held_at}
use Rattle.tree_model.specs.Tree.{tree_of}
use Rattle.tree_model.specs.Working.{are_several, list_of}
use Rattle.promises.specs.of_lawful_trace.CallRows.{MayMend, CallRow, is_mend_in, has_open, is_mend_wanted as is_wanted}
use Rattle.promises.specs.Past.{Past, Epoch, Instance, CallSoFar, site_at, epoch_at, unformed, is_number, sync_of, held_in, making_of}
use Rattle.promises.specs.Tree.{wants_rescue}
use Rattle.promises.specs.After.{is_epoch}
use Rattle.promises.specs.Same.{same_list}
use Rattle.promises.specs.Rows.{may_call, may_mend, may_mend_in, is_mend_wanted, waits_at, next_call}
use Rattle.past_laws.specs.Agreement.{Agrees, is_of_cluster, waiting_as}
use Rattle.past_laws.proofs.Names.{false_true, both, number_own, call_test, epoch_test, file_eq}
use Rattle.past_laws.proofs.Changing.{Finds, any_finds, first_found, found_any}
use Rattle.past_laws.proofs.Sites.{of_cluster_there}
use Rattle.past_laws.proofs.TreesWorking.{opened_any, rescue_is}
use Rattle.past_laws.proofs.TreesPages.{tree_is}
use Rattle.past_laws.proofs.TreesFolds.{group_is}
use Rattle.past_laws.proofs.CallsOwners.{epoch_stands}
use Rattle.past_laws.proofs.CallsFields.{waiting_in}
use Rattle.past_laws.proofs.CallsServed.{kept_same, kept_made}
use Rattle.past_laws.proofs.RowsCalls.{next_same, row_accept, take_found}

-- no mend of the group waits
none_mends : (site group : ℕ) (ks : List CallSoFar) → list_any (λ (w : Waiting). (w.site == site) && is_mend_in group w.words) (waiting_in ks) ≡ false → list_any (λ (k : CallSoFar). waits_at site 0 k && is_mend_in group k.words) ks ≡ false
none_mends site group [] h = refl
none_mends site group (k ∷ ks) h = over (none_mends site group ks) k.waits (k.id.site == site) (is_mend_in group k.words) refl refl h
  where
    over : (list_any (λ (w : Waiting). (w.site == site) && is_mend_in group w.words) (waiting_in ks) ≡ false → list_any (λ (x : CallSoFar). waits_at site 0 x && is_mend_in group x.words) ks ≡ false) → (a b d : Bool) → (k.id.site == site) ≡ b → is_mend_in group k.words ≡ d
        → list_any (λ (w : Waiting). (w.site == site) && is_mend_in group w.words) (map waiting_as (cond a (k ∷ filter (λ (x : CallSoFar). x.waits) ks) (filter (λ (x : CallSoFar). x.waits) ks))) ≡ false
        → (((a && ((k.id.site == site) && (k.process == 0))) && is_mend_in group k.words) || list_any (λ (x : CallSoFar). waits_at site 0 x && is_mend_in group x.words) ks) ≡ false
    over later true true true f g e = false_true (sym (rw (f, g) at e))
    over later true true false f g e = rw (f, g) (ap (λ (b : Bool). b || list_any (λ (x : CallSoFar). waits_at site 0 x && is_mend_in group x.words) ks) (and_none (k.process == 0)) ∙ later (rw (f, g) at e))
      where
        and_none : (b : Bool) → (b && false) ≡ false
        and_none true = refl
        and_none false = refl
    over later true false d f g e = rw f (later (rw f at e))
    over later false b d f g e = later e

-- the only kept version is what the site has
only_same : (ss : List Stamp) (o : Option Stamp) → is_only ss o ≡ true → same_list same_stamp ss (list_of o) ≡ true
only_same [] o h = false_true h
only_same (s ∷ []) None h = false_true h
only_same (s ∷ []) (Some t) h = both (same_stamp s t) true h refl
only_same (s ∷ t ∷ ss) o h = false_true h

-- so something is kept
only_some : (ss : List Stamp) (o : Option Stamp) (a b : Bool) → are_several ss || (a && is_only ss o) ≡ true → ss ≡ [] → ⊥
only_some [] o true b h e = false_true h
only_some [] o false b h e = false_true h
only_some (s ∷ ss) o a b h e = cc

wanted_weaker : (several rescue only same : Bool) → (only ≡ true → same ≡ true) → several || (rescue && only) ≡ true → several || (rescue && same) ≡ true
wanted_weaker true rescue only same f h = refl
wanted_weaker false true only same f h = f h
wanted_weaker false false only same f h = false_true h

-- the synchronization site of an epoch by both
sync_there : (c : Config) (before : Trace) (p : Past) → Agrees c before p → (e : EpochId) (group site : ℕ) (t : Epoch) → find (is_epoch e) p.epochs ≡ Some t → sync_site c group (members_of before e) ≡ Some site → is_number (sync_of c t group) site ≡ true
sync_there c before p a e group site t found h = ap (λ (ns : List ℕ). is_number ns site) (take_found (λ (s : ℕ). is_member t.members s && has_pack c group s) all_sites site by) ∙ ap (λ (b : Bool). b || false) (number_own site)
  where
    by : sync_site c group (Some t.members) ≡ Some site
    by = ap (λ (o : Option Epoch). sync_site c group (option_map (λ (u : Epoch). u.members) o)) (sym found) ∙ (ap (sync_site c group) (a.epochs.members e) ∙ h)

-- nobody has the file open, by both
pub shut_same : (c : Config) (before : Trace) (p : Past) → Agrees c before p → (e : EpochId) (f : FileId) → has_open (tree_of c e f.group before) f ≡ list_any (λ (x : Instance). same_file x.grant.file f) (epoch_at p e).opened
shut_same c before p a e f = opened_any (history c before) (tree_of c e f.group before) p (epoch_at p e) (tree_is c before p a e f.group) (λ (x : TreeInstance). same_file x.grant.file f)
    (λ x h. ap (λ (g : FileId). g.group == (tree_of c e f.group before).group) (file_eq x.grant.file f h) ∙ (ap (λ (n : ℕ). f.group == n) (group_is c e f.group before) ∙ number_own f.group))

-- the directory wants a mend, by both
wanted_same : (c : Config) (before : Trace) (p : Past) → Agrees c before p → (e : EpochId) (site : ℕ) (f : FileId) → is_wanted (history c before) (tree_of c e f.group before) site f ≡ true → is_mend_wanted p (epoch_at p e) site f ≡ true
wanted_same c before p a e site f h = ap (λ (ss : List Stamp). are_several ss || (wants_rescue p (epoch_at p e) f && same_list same_stamp ss (list_of (held_in p (epoch_at p e) site f)))) (kept_same c before p a e f)
    ∙ (ap (λ (b : Bool). are_several (kept_of (history c before) (tree_of c e f.group before) f) || (b && same_list same_stamp (kept_of (history c before) (tree_of c e f.group before) f) (list_of (held_in p (epoch_at p e) site f))))
    (rescue_is (history c before) (tree_of c e f.group before) p (epoch_at p e) (tree_is c before p a e f.group) f (sym (group_is c e f.group before)))
    ∙ wanted_weaker (are_several (kept_of (history c before) (tree_of c e f.group before) f)) (wants_rescue_in (history c before) (tree_of c e f.group before) f) (is_only (kept_of (history c before) (tree_of c e f.group before) f) (held_at (tree_of c e f.group before) site f.ino))
    (same_list same_stamp (kept_of (history c before) (tree_of c e f.group before) f) (list_of (held_in p (epoch_at p e) site f)))
    (λ g. ap (λ (o : Option Stamp). same_list same_stamp (kept_of (history c before) (tree_of c e f.group before) f) (list_of o)) (a.trees.held e site f) ∙ only_same (kept_of (history c before) (tree_of c e f.group before) f) (held_at (tree_of c e f.group before) site f.ino) g) h)

mend_in : (c : Config) (before : Trace) (p : Past) (site process : ℕ) (id : CallId) (f : FileId) → Agrees c before p → (may : MayMend c before site process id f) → (t : Epoch) → find (is_epoch may.epoch) p.epochs ≡ Some t → may_mend_in c p site f (epoch_at p may.epoch) ≡ true
mend_in c before p site process id f a may t found = both (is_in (site_at p site).epoch (epoch_at p may.epoch).id) _ (ap (λ (o : Option EpochId). is_in o (epoch_at p may.epoch).id) (a.sites.epoch site ∙ may.inside) ∙ epoch_test may.epoch (epoch_at p may.epoch).id (sym (epoch_stands before p.calls may.epoch p a.calls.instances).id_is))
    (both (is_number (sync_of c (epoch_at p may.epoch) f.group) site) _ (subst (λ (u : Epoch). is_number (sync_of c u f.group) site ≡ true) (sym (first_found (unformed may.epoch) (is_epoch may.epoch) p.epochs t found)) (sync_there c before p a may.epoch f.group site t found may.synchronizes))
    (both (is_number (epoch_at p may.epoch).started f.group) _ (a.trees.started may.epoch f.group ∙ may.started)
    (both (not (list_any (λ (x : Instance). same_file x.grant.file f) (epoch_at p may.epoch).opened)) _ (ap not (sym (shut_same c before p a may.epoch f) ∙ may.shut))
    (both (not (list_any (same_file f) (epoch_at p may.epoch).unmended)) _ (ap not (a.epochs.unmended may.epoch f ∙ may.unrefused))
    (wanted_same c before p a may.epoch site f may.wanted)))))

pub row_mend : (c : Config) (before : Trace) (p : Past) (site process : ℕ) (id : CallId) (f : FileId) → Agrees c before p → is_of_cluster c site ≡ true → MayMend c before site process id f → may_mend c p site process id f ≡ true
row_mend c before p site process id f a ours may = both (process == 0) _ (ap (λ (n : ℕ). n == 0) may.system)
    (both (same_kind (making_of p f).kind Dir) _ (ap (λ (k : Kind). same_kind k Dir) (a.trees.kind f made ∙ may.directory))
    (both (list_any (may_mend_in c p site f) p.epochs) _ (at (any_finds (is_epoch may.epoch) p.epochs (a.epochs.inside site may.epoch may.inside)))
    (both (not (list_any (λ (k : CallSoFar). waits_at site 0 k && is_mend_in f.group k.words) p.calls)) _ (ap not (none_mends site f.group p.calls (ap (list_any (λ (w : Waiting). (w.site == site) && is_mend_in f.group w.words)) a.calls.waits ∙ may.alone)))
    (call_test id (next_call (site_at p site)) (may.numbered ∙ sym (next_same c before p site a (of_cluster_there c p.sites site a.sites.numbers ours)))))))
  where
    made : list_any (λ m. same_file m.file f) p.files ≡ true
    made = kept_made c before p a may.epoch f (λ h. only_some (kept_of (history c before) (tree_of c may.epoch f.group before) f) (held_at (tree_of c may.epoch f.group before) site f.ino) (wants_rescue_in (history c before) (tree_of c may.epoch f.group before) f) true may.wanted (sym (kept_same c before p a may.epoch f) ∙ h))

    at : Finds (is_epoch may.epoch) p.epochs → list_any (may_mend_in c p site f) p.epochs ≡ true
    at it = found_any (is_epoch may.epoch) (may_mend_in c p site f) p.epochs it.one it.found (subst (λ (u : Epoch). may_mend_in c p site f u ≡ true) (first_found (unformed may.epoch) (is_epoch may.epoch) p.epochs it.one it.found) (mend_in c before p site process id f a may it.one it.found))

-- ---- all accepts ----

pub row_call : (c : Config) (before : Trace) (p : Past) (site process : ℕ) (id : CallId) (words : Call) → Agrees c before p → is_of_cluster c site ≡ true → CallRow c before site process id words → may_call c p site process id words ≡ true
row_call c before p site process id (call.Mend f) a ours may = row_mend c before p site process id f a ours may
row_call c before p site process id _ a ours may = row_accept c before p site process id a ours may
