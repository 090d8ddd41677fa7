-- The row of mends lets nothing through that the folds refuse.
use Rattle.std.proofs.Common.{◌≡◌, ℕ, suc, ◌==◌, ◌&&◌, ◌||◌, nat_lt, not, Bool, true, false, cond, List, [], ◌∷◌, filter, length, map, Option, Some, None, refl, sym, ap, ◌∙◌, ◌⊎◌, inl, inr, arith}
use Rattle.std.proofs.lemmas.Bool.Decides.{nat_tests}
use Rattle.std.specs.List.{list_any, list_all}
use Rattle.locus_ids.specs.declared.config.Config.{Config}
use Rattle.locus_ids.specs.declared.ids.CallId.{CallId}
use Rattle.locus_ids.specs.declared.ids.EpochId.{EpochId}
use Rattle.locus_ids.specs.declared.ids.FileId.{FileId}
use Rattle.locus_ids.specs.declared.ids.Kind.TheVariants.{File, Dir}
use Rattle.locus_ids.specs.declared.ids.Stamp.{Stamp}
use Rattle.commit_graph.specs.declared.history.Version.{Version}
use Rattle.commit_graph.specs.Versions.{content_of, same_file, same_stamp}
use Rattle.trace_book.specs.Same.{same_call}
use Rattle.trace_book.specs.declared.call.Call.{Call}
use Rattle.trace_book.specs.declared.call.Call.TheVariants as call
use Rattle.trace_book.specs.declared.record.Record.{Record}
use Rattle.trace_book.specs.declared.record.Record.TheVariants as rec
use Rattle.tree_model.specs.declared.accepted.Waiting.{Waiting}
use Rattle.tree_model.specs.Calls.{accepted_as, waiting, waiting_after}
use Rattle.tree_model.specs.Epochs.{is_in, members_of}
use Rattle.tree_model.specs.Files.{kind_of_file}
use Rattle.tree_model.specs.Folds.{Trace}
use Rattle.tree_model.specs.Histories.{history}
use Rattle.tree_model.specs.Mending.{joined_all, kept_vectors, wants_rescue_in}
use Rattle.tree_model.specs.of_dir_format.Contents.{entries_of}
use Rattle.tree_model.specs.of_dir_reconcile.Rescues.{rescue_wanted}
use Rattle.tree_model.specs.Opening.{is_only}
use Rattle.tree_model.specs.Packs.{no_sites, sync_site}
use Rattle.tree_model.specs.Same.{same_kind}
use Rattle.tree_model.specs.State.{TreeState, held_at, kept_of}
use Rattle.tree_model.specs.Tree.{tree_of}
use Rattle.tree_model.specs.Working.{are_several, list_of}
use Rattle.promises.specs.of_lawful_trace.CallRows.{CallRow, MayMend, is_mend_in, next_call as next_of, is_mend_wanted as is_wanted, mend_waits}
use Rattle.promises.specs.of_lawful_trace.Lawful.{MayCome}
use Rattle.promises.specs.Past.{CallSoFar, Instance, Making, Past, epoch_at, held_in, is_number, making_of, site_at, sync_of}
use Rattle.promises.specs.Rows.{is_mend_wanted, may_call, may_mend, may_mend_in, next_call, waits_at}
use Rattle.promises.specs.Same.{same_list}
use Rattle.promises.specs.Tree.{wants_rescue}
use Rattle.past_laws.specs.Agreement.{Agrees, is_of_cluster, waiting_as}
use Rattle.past_laws.specs.Made.{is_made}
use Rattle.past_laws.specs.Standing.{is_mend}
use Rattle.past_laws.proofs.Alls.{all_filtered, all_first, all_more}
use Rattle.past_laws.proofs.BackActs.{kind_back}
use Rattle.past_laws.proofs.BackCalls.{back_accept}
use Rattle.past_laws.proofs.BackCommits.{Home, home}
use Rattle.past_laws.proofs.BackOpens.{in_is}
use Rattle.past_laws.proofs.BackSites.{not_so}
use Rattle.past_laws.proofs.CallsServed.{kept_same}
use Rattle.past_laws.proofs.Changing.{first_none, none_finds}
use Rattle.past_laws.proofs.Names.{both_parts, call_eq, false_true, number_eq, true_or_false}
use Rattle.past_laws.proofs.RowsCalls.{next_same}
use Rattle.past_laws.proofs.RowsMends.{shut_same}
use Rattle.past_laws.proofs.RowsServed.{sync_as}
use Rattle.past_laws.proofs.Sites.{of_cluster_there}
use Rattle.past_laws.proofs.TreesFolds.{group_is}
use Rattle.past_laws.proofs.TreesPages.{tree_is}
use Rattle.past_laws.proofs.TreesWorking.{rescue_is}

-- Mends that wait are of the system.

abbrev is_system : Waiting → Bool
is_system w = not (is_mend w.words) || (w.process == 0)

abbrev pub MendsAreOfSystem : Trace → Type 0
MendsAreOfSystem before = list_all is_system (waiting before) ≡ true

pub system_step : (c : Config) (what : Record) (before : Trace) → MayCome c before what → MendsAreOfSystem before → list_all is_system (waiting_after what before (waiting before)) ≡ true
system_step c (rec.Accept site process id (call.Mend f)) before may old = all_more is_system (accepted_as before site process id (call.Mend f)) (waiting before) (ap (λ n. n == 0) may.system) old
system_step c (rec.Accept site process id words) before may old = all_more is_system (accepted_as before site process id words) (waiting before) refl old
system_step c (rec.Answer site process id r) before may old = all_filtered is_system (λ (w : Waiting). not (same_call w.call id)) (waiting before) old
system_step c (rec.Stopped site why) before may old = all_filtered is_system (λ (w : Waiting). not (w.site == site)) (waiting before) old
system_step c _ before may old = old

-- so none of the group waits at the site
none_waits : (site group : ℕ) (ks : List CallSoFar) → list_all is_system (map waiting_as (filter (λ (k : CallSoFar). k.waits) ks)) ≡ true → list_any (λ (k : CallSoFar). waits_at site 0 k && is_mend_in group k.words) ks ≡ false
    → list_any (λ (w : Waiting). (w.site == site) && is_mend_in group w.words) (map waiting_as (filter (λ (k : CallSoFar). k.waits) ks)) ≡ false
none_waits site group [] all h = refl
none_waits site group (k ∷ ks) all h = over (none_waits site group ks) k.waits all h
  where
    mend_so : (words : Call) → is_mend_in group words ≡ true → is_mend words ≡ true
    mend_so (call.Mend f) e = refl
    mend_so _ e = false_true e

    either : (a b : Bool) → (a || b) ≡ false → (a ≡ false) × (b ≡ false)
    either true b e = false_true (sym e)
    either false b e = (refl, e)

    tested : (m q : Bool) → (not m || q) ≡ true → m ≡ true → q ≡ true
    tested true q e f = e
    tested false q e f = false_true f

    here : is_system (waiting_as k) ≡ true → ((k.id.site == site) && (k.process == 0)) && is_mend_in group k.words ≡ false → ((k.id.site == site) && is_mend_in group k.words) ≡ false
    here system e = by (k.id.site == site) (is_mend_in group k.words) refl refl e
      where
        by : (s m : Bool) → (k.id.site == site) ≡ s → is_mend_in group k.words ≡ m → ((k.id.site == site) && (k.process == 0)) && is_mend_in group k.words ≡ false → ((k.id.site == site) && is_mend_in group k.words) ≡ false
        by true true f g e = false_true (sym (rw (f, g, tested (is_mend k.words) (k.process == 0) system (mend_so k.words g)) at e))
        by true false f g e = rw (f, g) refl
        by false m f g e = rw f refl

    over : (list_all is_system (map waiting_as (filter (λ (x : CallSoFar). x.waits) ks)) ≡ true → list_any (λ (x : CallSoFar). waits_at site 0 x && is_mend_in group x.words) ks ≡ false → list_any (λ (w : Waiting). (w.site == site) && is_mend_in group w.words) (map waiting_as (filter (λ (x : CallSoFar). x.waits) ks)) ≡ false)
        → (b : Bool) → list_all is_system (map waiting_as (cond b (k ∷ filter (λ (x : CallSoFar). x.waits) ks) (filter (λ (x : CallSoFar). x.waits) ks))) ≡ true
        → (((b && ((k.id.site == site) && (k.process == 0))) && is_mend_in group k.words) || list_any (λ (x : CallSoFar). waits_at site 0 x && is_mend_in group x.words) ks) ≡ false
        → list_any (λ (w : Waiting). (w.site == site) && is_mend_in group w.words) (map waiting_as (cond b (k ∷ filter (λ (x : CallSoFar). x.waits) ks) (filter (λ (x : CallSoFar). x.waits) ks))) ≡ false
    over later true all e =
        let parts = all_first is_system (waiting_as k) (map waiting_as (filter (λ (x : CallSoFar). x.waits) ks)) all in
        let none = either (((k.id.site == site) && (k.process == 0)) && is_mend_in group k.words) _ e in
        rw (here parts.0 none.0) (later parts.1 none.1)
    over later false all e = later all e

-- What wants a mend.

none_wanted : (h : List Version) (t : TreeState) (f : FileId) → kept_of h t f ≡ [] → wants_rescue_in h t f ≡ false
none_wanted h t f e = ap (λ ss. rescue_wanted (joined_all (map (λ s. entries_of (content_of h f s)) ss)) (kept_vectors h t)) e

wanted_back : (ss : List Stamp) (o : Option Stamp) (rescue : Bool) → (ss ≡ [] → rescue ≡ false) → (are_several ss || (rescue && same_list same_stamp ss (list_of o))) ≡ true → (are_several ss || (rescue && is_only ss o)) ≡ true
wanted_back [] o true none h = false_true (sym (none refl))
wanted_back [] o false none h = h
wanted_back (s ∷ []) None true none h = false_true h
wanted_back (s ∷ []) (Some t) true none h = (both_parts (same_stamp s t) true h).0
wanted_back (s ∷ []) o false none h = h
wanted_back (s ∷ t ∷ ss) o rescue none h = ap (λ b. b || (rescue && is_only (s ∷ t ∷ ss) o)) (several (length ss))
  where
    several : (n : ℕ) → nat_lt 1 (suc (suc n)) ≡ true
    several n = grind (arith, nat_tests)

-- The row.

-- a directory that says so is made
dir_made : (p : Past) (f : FileId) → same_kind (making_of p f).kind Dir ≡ true → is_made p.files f ≡ true
dir_made p f h = over (true_or_false (is_made p.files f))
  where
    over : (is_made p.files f ≡ true) ⊎ (is_made p.files f ≡ false) → is_made p.files f ≡ true
    over (inl e) = e
    over (inr e) = false_true (ap (λ (m : Making). same_kind m.kind Dir) (sym (first_none (record { file = f; kind = File; set = no_sites }) (λ (m : Making). same_file m.file f) p.files (none_finds (λ (m : Making). same_file m.file f) p.files e))) ∙ h)

-- the synchronization site is the one of the list
listed_is : (o : Option ℕ) (site : ℕ) → is_number (list_of o) site ≡ true → o ≡ Some site
listed_is None site h = false_true h
listed_is (Some s) site h = ap (λ n. Some n) (number_eq s site (one (s == site) h))
  where
    one : (b : Bool) → (b || false) ≡ true → b ≡ true
    one true k = refl
    one false k = k

pub back_mend : (c : Config) (before : Trace) (p : Past) (site process : ℕ) (id : CallId) (f : FileId) → Agrees c before p → MendsAreOfSystem before → is_of_cluster c site ≡ true → may_mend c p site process id f ≡ true → MayMend c before site process id f
back_mend c before p site process id f a system ours h =
    let first = both_parts (process == 0) _ h in
    let kind = both_parts (same_kind (making_of p f).kind Dir) _ first.1 in
    let wanted = both_parts (list_any (may_mend_in c p site f) p.epochs) _ kind.1 in
    let alone = both_parts (not (list_any (λ (k : CallSoFar). waits_at site 0 k && is_mend_in f.group k.words) p.calls)) _ wanted.1 in
    over (number_eq process 0 first.0) (sym (a.trees.kind f (dir_made p f kind.0)) ∙ kind_back (making_of p f).kind Dir kind.0)
    (ap (list_any (λ (w : Waiting). (w.site == site) && is_mend_in f.group w.words)) (sym a.calls.waits)
    ∙ none_waits site f.group p.calls (ap (list_all is_system) a.calls.waits ∙ system) (not_so _ alone.0))
    (call_eq id (next_call (site_at p site)) alone.1 ∙ next_same c before p site a (of_cluster_there c p.sites site a.sites.numbers ours))
    (home c before p a (may_mend_in c p site f) wanted.0)
  where
    over : process ≡ 0 → kind_of_file c before f ≡ Dir → mend_waits before site f.group ≡ false → id ≡ next_of before site → Home p (may_mend_in c p site f) → MayMend c before site process id f
    over zero dir none numbered it =
        let t = epoch_at p it.epoch in
        let inside = both_parts (is_in (site_at p site).epoch t.id) _ it.so in
        let syncs = both_parts (is_number (sync_of c t f.group) site) _ inside.1 in
        let started = both_parts (is_number t.started f.group) _ syncs.1 in
        let shut = both_parts (not (list_any (λ (x : Instance). same_file x.grant.file f) t.opened)) _ started.1 in
        let unrefused = both_parts (not (list_any (same_file f) t.unmended)) _ shut.1 in
        record {
          system = zero;
          epoch = it.epoch;
          inside = sym (a.sites.epoch site) ∙ (in_is (site_at p site).epoch t.id inside.0 ∙ ap (λ i. Some i) it.named);
          synchronizes = listed_is (sync_site c f.group (members_of before it.epoch)) site (ap (λ ns. is_number ns site) (sym (sync_as c before p it.epoch f.group a)) ∙ syncs.0);
          directory = dir;
          started = sym (a.trees.started it.epoch f.group) ∙ started.0;
          shut = shut_same c before p a it.epoch f ∙ not_so _ shut.0;
          unrefused = sym (a.epochs.unmended it.epoch f) ∙ not_so _ unrefused.0;
          alone = none;
          wanted = wanted it.epoch unrefused.1;
          numbered = numbered;
        }
      where
        wanted : (e : EpochId) → is_mend_wanted p (epoch_at p e) site f ≡ true → is_wanted (history c before) (tree_of c e f.group before) site f ≡ true
        wanted e h = wanted_back (kept_of (history c before) (tree_of c e f.group before) f) (held_at (tree_of c e f.group before) site f.ino) (wants_rescue_in (history c before) (tree_of c e f.group before) f)
            (none_wanted (history c before) (tree_of c e f.group before) f)
            (ap (λ o. are_several (kept_of (history c before) (tree_of c e f.group before) f) || (wants_rescue_in (history c before) (tree_of c e f.group before) f && same_list same_stamp (kept_of (history c before) (tree_of c e f.group before) f) (list_of o))) (sym (a.trees.held e site f))
            ∙ (ap (λ b. are_several (kept_of (history c before) (tree_of c e f.group before) f) || (b && same_list same_stamp (kept_of (history c before) (tree_of c e f.group before) f) (list_of (held_in p (epoch_at p e) site f))))
            (sym (rescue_is (history c before) (tree_of c e f.group before) p (epoch_at p e) (tree_is c before p a e f.group) f (sym (group_is c e f.group before))))
            ∙ (ap (λ ss. are_several ss || (wants_rescue p (epoch_at p e) f && same_list same_stamp ss (list_of (held_in p (epoch_at p e) site f)))) (sym (kept_same c before p a e f)) ∙ h)))

-- All accepts.

pub back_call : (c : Config) (before : Trace) (p : Past) (site process : ℕ) (id : CallId) (words : Call) → Agrees c before p → MendsAreOfSystem before → is_of_cluster c site ≡ true → may_call c p site process id words ≡ true → CallRow c before site process id words
back_call c before p site process id (call.Mend f) a system ours h = back_mend c before p site process id f a system ours h
back_call c before p site process id _ a system ours h = back_accept c before p site process id a ours h
