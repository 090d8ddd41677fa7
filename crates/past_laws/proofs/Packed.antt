-- Each record keeps where files are.
use Rattle.std.proofs.Common.{◌≡◌, ℕ, ◌≤◌, ◌+◌, ◌==◌, ◌||◌, ◌&&◌, not, Bool, true, false, cond, List, [], ◌∷◌, ◌++◌, filter, fold, map, Option, Some, refl, sym, ap, subst, ◌∙◌}
use Rattle.std.specs.List.{list_any, list_all}
use Rattle.locus_ids.specs.Sizes.{sites_max}
use Rattle.locus_ids.specs.Sites.{has}
use Rattle.locus_ids.specs.declared.config.Config.{Config}
use Rattle.locus_ids.specs.declared.sites.Members.{Members}
use Rattle.locus_ids.specs.declared.ids.CallId.{CallId}
use Rattle.locus_ids.specs.declared.ids.EpochId.{EpochId}
use Rattle.locus_ids.specs.declared.ids.FileId.{FileId}
use Rattle.locus_ids.specs.declared.ids.Kind.TheVariants.{File}
use Rattle.locus_ids.specs.declared.ids.Stamp.{Stamp}
use Rattle.commit_graph.specs.Versions.{same_file}
use Rattle.trace_book.specs.Same.{same_call}
use Rattle.trace_book.specs.declared.call.Call.{Call}
use Rattle.trace_book.specs.declared.descriptor.Beginning.{Beginning}
use Rattle.trace_book.specs.declared.record.Record.{Record}
use Rattle.trace_book.specs.declared.record.Record.TheVariants as rec
use Rattle.trace_book.specs.declared.reply.Reply.{Reply}
use Rattle.call_rules.specs.Descriptors.{beginning}
use Rattle.call_rules.specs.declared.answer.Answer.{Answer}
use Rattle.tree_model.specs.of_file_effects.Works.{committed}
use Rattle.tree_model.specs.declared.instance.Granted.{Granted}
use Rattle.tree_model.specs.declared.instance.Instance.{Instance as TreeInstance}
use Rattle.tree_model.specs.Epochs.{is_in}
use Rattle.tree_model.specs.Folds.{Trace}
use Rattle.tree_model.specs.Packs.{has_pack, no_sites, packs_of}
use Rattle.tree_model.specs.State.{has_stamp}
use Rattle.promises.specs.of_lawful_trace.Lawful.{MayCome}
use Rattle.promises.specs.of_lawful_trace.Progress.{outcome_answer}
use Rattle.promises.specs.of_lawful_trace.TreeRows.{MayAdopt}
use Rattle.past_laws.proofs.Made.{once_grant}
use Rattle.promises.specs.Past.{CallSoFar, Copy, Epoch, Instance, Left, Making, Past, Site, epoch_at, is_named, is_writer, making_of, site_at, table}
use Rattle.promises.specs.After.{acted, after, answered, begun_call, change, close_answer, is_actor, is_ender, is_epoch, is_home_of, is_id, left_unmended, opened_as, process_of, released, replied_to, uses, with_all_known, with_epoch, with_making, named_by, once_named}
use Rattle.promises.specs.Tree.{work_after}
use Rattle.trace_book.specs.declared.descriptor.Descriptor.{Descriptor}
use Rattle.past_laws.specs.Agreement.{Agrees, speaks_of_sites}
use Rattle.past_laws.specs.Made.{is_made}
use Rattle.past_laws.specs.Packed.{ArePacked, is_fit, is_of, is_seated, makes_fit, packs_all}
use Rattle.past_laws.proofs.Names.{both, both_parts, false_true, file_eq, some_same}
use Rattle.past_laws.proofs.Changing.{Finds, any_finds, first_found}
use Rattle.past_laws.proofs.Alls.{all_filtered, all_found, all_joined, all_more}
use Rattle.past_laws.proofs.Finding.{found_only}
use Rattle.past_laws.proofs.FilesFirst.{Committer, committer, has_writer, making_by}
use Rattle.past_laws.proofs.FilesKind.{Maker, maker_of}
use Rattle.past_laws.proofs.MadeFinds.{makings_more}
use Rattle.past_laws.proofs.MadeKnown.{candidate_made, candidates_alike, known_at}
use Rattle.past_laws.proofs.PackedGranted.{granted_fit, granted_packed}
use Rattle.past_laws.proofs.PackedParts.{PackedSay, call_more, calls_kept, epochs_again, files_more, has_within, instances_seated, of_bounds, packed_as_said, packed_of_past, site_has, site_packs, sites_kept}
use Rattle.past_laws.proofs.Sites.{Caller, caller_of}
use Rattle.past_laws.proofs.SitesSay.{has_number}

-- Epochs of which nothing that is said here changes.
epochs_still : (c : Config) (files : List Making) (sites : List Site) (calls : List CallSoFar) (ts : List Epoch) (which : Epoch → Bool) (f : Epoch → Epoch) → ((t : Epoch) → (f t).left ≡ t.left) → ((t : Epoch) → (f t).joined ≡ t.joined) → ((t : Epoch) → (f t).opened ≡ t.opened)
    → PackedSay c sites ts calls files → PackedSay c sites (change which f ts) calls files
epochs_still c files sites calls ts which f left joined opened a = epochs_again c files sites calls ts which f
    (λ t h k. ap (list_all (λ (l : Left). packs_all c l.site l.held)) (left t) ∙ k) (λ t h k. ap (list_all (is_of c)) (joined t) ∙ k) (λ t h k. ap (list_all (is_seated c calls files)) (opened t) ∙ k) a

-- a site goes, and its epoch keeps what it has
gone : (c : Config) (p : Past) (site : ℕ) → ArePacked c p → PackedSay c p.sites (change (is_home_of p site) (λ (t : Epoch). record t { left = record { site = site; held = (site_at p site).held } ∷ t.left }) p.epochs) p.calls p.files
gone c p site a = epochs_again c p.files p.sites p.calls p.epochs (is_home_of p site) (λ (t : Epoch). record t { left = record { site = site; held = (site_at p site).held } ∷ t.left })
    (λ t h k. all_more (λ (l : Left). packs_all c l.site l.held) (record { site = site; held = (site_at p site).held }) t.left (site_packs c p site a) k) (λ t h k. k) (λ t h k. k) (packed_of_past c p a)

-- an epoch is formed
formed_packed : (c : Config) (e : EpochId) (members : Members) (p : Past) → ArePacked c p → ArePacked c (with_epoch e members p)
formed_packed c e members p a = over (list_any (is_epoch e) p.epochs) refl
  where
    over : (b : Bool) → list_any (is_epoch e) p.epochs ≡ b → ArePacked c (with_epoch e members p)
    over true h = rw h a
    over false h = rw h (record { held = a.held; left = a.left; joined = a.joined; sets = a.sets; opened = a.opened })

joins : (c : Config) (site : ℕ) (e : EpochId) (held : List Copy) (q : Past) → is_of c site ≡ true → ArePacked c q
    → PackedSay c (change (has_number site) (λ (s : Site). record s { epoch = Some e; joined = Some e }) q.sites) (change (is_epoch e) (λ (t : Epoch). record t { joined = site ∷ t.joined; known = with_all_known held t.known }) q.epochs) q.calls q.files
joins c site e held q ours b = sites_kept c q.files _ q.calls q.sites (has_number site) _ (λ s. refl) (λ s. refl)
    (epochs_again c q.files q.sites q.calls q.epochs (is_epoch e) (λ (t : Epoch). record t { joined = site ∷ t.joined; known = with_all_known held t.known })
    (λ t h k. k) (λ t h k. all_more (is_of c) site t.joined ours k) (λ t h k. k) (packed_of_past c q b))

-- What becomes of an epoch by some records.

abbrev begins_at : Past → ℕ → ℕ → CallId → Call → Beginning
begins_at p site process id words = beginning (table p site process) (site_at p site).epoch id words

abbrev once_used : Past → ℕ → ℕ → CallId → Call → Epoch → Epoch
once_used p site process id words t = record t { opened = change (uses (begins_at p site process id words) words t.id) (λ (x : Instance). record x { uses = x.uses + 1 }) t.opened }

abbrev once_granted : Past → Granted → Option Stamp → Epoch → Epoch
once_granted p g stamp t = record t { granted = g ∷ t.granted; opened = t.opened ++ opened_as p g stamp ∷ [] }

abbrev once_committed : FileId → ℕ → Stamp → Epoch → Epoch
once_committed f site stamp t = record t { opened = change (is_writer f site) (λ (x : Instance). record x { work = committed stamp x.work }) t.opened }

abbrev is_taken : Reply → CallSoFar → Epoch → Instance → Bool
is_taken r k t x = list_any (λ (d : Descriptor). is_in (Some d.epoch) t.id && is_named d.inst x) (named_by r k)

abbrev once_replied : Reply → CallSoFar → Epoch → Epoch
once_replied r k t = record t { opened = change (is_taken r k t) (once_named r) t.opened; unmended = cond (is_in k.epoch t.id) (left_unmended r k.words) [] ++ t.unmended }

answered_packed : {X : Type 0} (c : Config) (which : X → CallSoFar → Bool) (b : X → Answer) (xs : List X) (p : Past) → ArePacked c p → ArePacked c (fold (λ old x. answered (which x) (b x) old) p xs)
answered_packed c which b [] p a = a
answered_packed c which b (x ∷ xs) p a = answered_packed c which b xs (answered (which x) (b x) p)
    (packed_as_said c (answered (which x) (b x) p) (calls_kept c p.files p.sites p.epochs p.calls (which x) (λ (k : CallSoFar). record k { answers = k.answers ++ b x ∷ [] }) (λ k. refl) (λ k. refl) (packed_of_past c p a)))

-- A commit.

-- the site has a pack
commit_packed : (c : Config) (before : Trace) (p : Past) (f : FileId) (site : ℕ) (y : TreeInstance) → Committer c before p f site y → has_pack c f.group site ≡ true
commit_packed c before p f site y it = subst (λ n. has_pack c f.group n ≡ true) it.at (subst (λ (g : FileId). has_pack c g.group it.one.grant.ss ≡ true) it.of (both_parts (has_pack c it.one.grant.file.group it.one.grant.ss) _ it.seated).0)

-- the makings are for sites with a pack
commit_fit : (c : Config) (before : Trace) (p : Past) (f : FileId) (site : ℕ) (y : TreeInstance) → Agrees c before p → Committer c before p f site y → Maker c before p f site y.grant.call → list_all (is_fit c) (with_making c f site p) ≡ true
commit_fit c before p f site y a it m = over (is_made p.files f) refl
  where
    other : (x z : Bool) → x ≡ false → (x || z) ≡ true → z ≡ true
    other true z e h = false_true (sym e)
    other false z e h = h

    -- its call makes it for such sites
    makes : is_made p.files f ≡ false → list_any (λ (k : CallSoFar). same_call k.id y.grant.call && makes_fit c f.group k) p.calls ≡ true
    makes none = ap (λ (z : TreeInstance). list_any (λ (k : CallSoFar). same_call k.id z.grant.call && makes_fit c f.group k) p.calls) (sym it.is)
        ∙ subst (λ (g : FileId). list_any (λ (k : CallSoFar). same_call k.id it.one.grant.call && makes_fit c g.group k) p.calls ≡ true) it.of
        (other (is_made p.files it.one.grant.file) _ (ap (is_made p.files) it.of ∙ none) (both_parts (has_pack c it.one.grant.file.group it.one.grant.ss) _ it.seated).1)

    fit : Finds (λ (k : CallSoFar). same_call k.id y.grant.call && makes_fit c f.group k) p.calls → makes_fit c f.group m.k ≡ true
    fit found =
        let here = found_only (is_id y.grant.call) (λ (k : CallSoFar). same_call k.id y.grant.call && makes_fit c f.group k) (λ k h. (both_parts (same_call k.id y.grant.call) _ h).0) p.calls found.one (a.calls.once y.grant.call) found.found in
        subst (λ (k : CallSoFar). makes_fit c f.group k ≡ true) (some_same found.one m.k (sym here ∙ m.found)) (both_parts (same_call found.one.id y.grant.call) _ found.passes).1

    over : (b : Bool) → is_made p.files f ≡ b → list_all (is_fit c) (cond b p.files (map (making_by c f) (filter (has_writer p f site) p.calls) ++ p.files)) ≡ true
    over true h = a.packed.sets
    over false h = subst (λ (ks : List CallSoFar). list_all (is_fit c) (map (making_by c f) ks ++ p.files) ≡ true) (sym m.only)
        (all_more (is_fit c) (making_by c f m.k) p.files (fit (any_finds (λ (k : CallSoFar). same_call k.id y.grant.call && makes_fit c f.group k) p.calls (makes h))) a.packed.sets)

commits : (c : Config) (before : Trace) (p : Past) (f : FileId) (site : ℕ) (stamp : Stamp) (y : TreeInstance) → Agrees c before p → Committer c before p f site y → Maker c before p f site y.grant.call
    → PackedSay c (change (has_number site) (λ (s : Site). record s { held = record { file = f; stamp = stamp } ∷ filter (λ (v : Copy). not (same_file v.file f)) s.held }) p.sites) (change (is_home_of p site) (once_committed f site stamp) p.epochs) p.calls (with_making c f site p)
commits c before p f site stamp y a it m = epochs_again c (with_making c f site p) _ p.calls p.epochs (is_home_of p site) (once_committed f site stamp)
    (λ t h k. k) (λ t h k. k)
    (λ t h k. instances_seated c p.calls (with_making c f site p) (is_writer f site) (λ x. record x { work = committed stamp x.work }) (λ x. refl) t.opened k)
    (site_has c (with_making c f site p) p.epochs p.calls p.sites site (record { file = f; stamp = stamp }) (λ v. not (same_file v.file f)) (commit_packed c before p f site y it)
    (files_more c p.files (with_making c f site p) p.sites p.epochs p.calls (makings_more c p f site) (commit_fit c before p f site y a it m) (packed_of_past c p a.packed)))

-- An adoption.

adopt_packed : (c : Config) (before : Trace) (p : Past) (f : FileId) (site : ℕ) (stamp : Stamp) → c.sites ≤ sites_max → is_of c site ≡ true → MayAdopt c before f site stamp → Agrees c before p → has_pack c f.group site ≡ true
adopt_packed c before p f site stamp few ours may a = over (any_finds (λ (m : Making). same_file m.file f) p.files made)
  where
    made : is_made p.files f ≡ true
    made = candidate_made p.files f stamp (epoch_at p may.epoch).known (ap (λ ss. has_stamp ss stamp) (sym (candidates_alike c before p may.epoch f a)) ∙ may.known) (known_at p may.epoch a.made)

    own : has (making_of p f).set site ≡ true
    own = ap (λ s. has s site) (a.trees.set f made) ∙ may.for

    over : Finds (λ (m : Making). same_file m.file f) p.files → has_pack c f.group site ≡ true
    over it =
        let bounds = of_bounds c site few ours in
        has_within it.one.set (packs_of c f.group) site
        (subst (λ (g : FileId). is_fit c (record it.one { file = g }) ≡ true) (file_eq it.one.file f it.passes) (all_found (is_fit c) (λ (m : Making). same_file m.file f) p.files it.one it.found a.packed.sets))
        bounds.0 bounds.1
        (ap (λ (m : Making). has m.set site) (sym (first_found (record { file = f; kind = File; set = no_sites }) (λ (m : Making). same_file m.file f) p.files it.one it.found)) ∙ own)

-- Each record.

pub packed_step : (c : Config) (what : Record) (before : Trace) (p : Past) → c.sites ≤ sites_max → MayCome c before what → speaks_of_sites c what ≡ true → Agrees c before p → ArePacked c (after c what p)
packed_step c (rec.Up site boot) before p few may ours a = packed_as_said c (after c (rec.Up site boot) p) (sites_kept c p.files p.epochs p.calls p.sites (has_number site) _ (λ s. refl) (λ s. refl) (packed_of_past c p a.packed))
packed_step c (rec.Stopped site why) before p few may ours a = packed_as_said c (after c (rec.Stopped site why) p)
    (sites_kept c p.files _ _ _ (has_number site) _ (λ s. refl) (λ s. refl) (calls_kept c p.files _ _ p.calls (λ k. k.id.site == site) _ (λ k. refl) (λ k. refl) (sites_kept c p.files _ p.calls p.sites (has_number site) _ (λ s. refl) (λ s. refl) (gone c p site a.packed))))
packed_step c (rec.Leave site e) before p few may ours a = packed_as_said c (after c (rec.Leave site e) p)
    (sites_kept c p.files _ p.calls p.sites (has_number site) _ (λ s. refl) (λ s. refl) (gone c p site a.packed))
packed_step c (rec.Join site e members) before p few may ours a = packed_as_said c (after c (rec.Join site e members) p) (joins c site e (site_at p site).held (with_epoch e members p) ours (formed_packed c e members p a.packed))
packed_step c (rec.Start e group copies) before p few may ours a = packed_as_said c (after c (rec.Start e group copies) p) (epochs_still c p.files p.sites p.calls p.epochs (is_epoch e) _ (λ t. refl) (λ t. refl) (λ t. refl) (packed_of_past c p a.packed))
packed_step c (rec.Accept site process id words) before p few may ours a = packed_as_said c (after c (rec.Accept site process id words) p)
    (sites_kept c p.files _ _ p.sites (has_number site) _ (λ s. refl) (λ s. refl)
    (epochs_again c p.files p.sites _ p.epochs (λ t. is_in (site_at p site).epoch t.id) (once_used p site process id words)
    (λ t h k. k) (λ t h k. k)
    (λ t h k. instances_seated c (begun_call p site process id words (begins_at p site process id words) ∷ p.calls) p.files (uses (begins_at p site process id words) words t.id) (λ x. record x { uses = x.uses + 1 }) (λ x. refl) t.opened k)
    (call_more c p.files p.sites p.epochs p.calls (begun_call p site process id words (begins_at p site process id words)) (packed_of_past c p a.packed))))
packed_step c (rec.Look e id request f w result) before p few may ours a = packed_as_said c (after c (rec.Look e id request f w result) p) (calls_kept c p.files p.sites p.epochs p.calls (is_id id) _ (λ k. refl) (λ k. refl) (packed_of_past c p a.packed))
packed_step c (rec.Grant e id request i m f stamp ss) before p few may ours a = packed_as_said c (after c (rec.Grant e id request i m f stamp ss) p)
    (calls_kept c p.files p.sites _ p.calls (is_id id) _ (λ k. refl) (λ k. refl)
    (epochs_again c p.files p.sites p.calls p.epochs (is_epoch e) (once_granted p g stamp)
    (λ t h k. k) (λ t h k. k)
    (λ t h k. all_joined (is_seated c p.calls p.files) t.opened (opened_as p g stamp ∷ []) k
    (all_more (is_seated c p.calls p.files) (opened_as p g stamp) []
    (both (has_pack c f.group ss) _ (granted_packed c before p e id request i m f stamp ss few may a) (granted_fit c before p e id request i m f stamp ss may a)) refl))
    (packed_of_past c p a.packed)))
  where
    g : Granted
    g = record { inst = i; call = id; process = process_of p id; mode = m; file = f; ss = ss }
packed_step c (rec.Refuse e id request i m f why) before p few may ours a = packed_as_said c (after c (rec.Refuse e id request i m f why) p)
    (calls_kept c p.files p.sites _ p.calls (is_id id) _ (λ k. refl) (λ k. refl) (epochs_still c p.files p.sites p.calls p.epochs (is_epoch e) _ (λ t. refl) (λ t. refl) (λ t. refl) (packed_of_past c p a.packed)))
packed_step c (rec.Act e i n o result) before p few may ours a = packed_as_said c (after c (rec.Act e i n o result) p)
    (epochs_again c p.files p.sites _ p.epochs (is_epoch e) (acted i o result p)
    (λ t h k. k) (λ t h k. k)
    (λ t h k. instances_seated c (change (is_actor (epoch_at p e) i n) (λ (k : CallSoFar). record k { answers = k.answers ++ outcome_answer result ∷ [] }) p.calls) p.files (is_named i) (λ x. record x { work = work_after p t o result x }) (λ x. refl) t.opened k)
    (calls_kept c p.files p.sites p.epochs p.calls (is_actor (epoch_at p e) i n) (λ (k : CallSoFar). record k { answers = k.answers ++ outcome_answer result ∷ [] }) (λ k. refl) (λ k. refl) (packed_of_past c p a.packed)))
packed_step c (rec.Commit f site stamp parents content) before p few may ours a = packed_as_said c (after c (rec.Commit f site stamp parents content) p)
    (commits c before p f site stamp may.instance a (committer c before p f site stamp parents content may a) (maker_of c before p f site may.instance a (committer c before p f site stamp parents content may a)))
packed_step c (rec.Release e i f stamp) before p few may ours a = packed_as_said c (after c (rec.Release e i f stamp) p)
    (releases (fold (λ old x. answered (is_ender (epoch_at p e) i) (close_answer stamp x) old) p (filter (is_named i) (epoch_at p e).opened))
    (answered_packed c (λ x. is_ender (epoch_at p e) i) (close_answer stamp) (filter (is_named i) (epoch_at p e).opened) p a.packed))
  where
    releases : (q : Past) → ArePacked c q → PackedSay c q.sites (change (is_epoch e) (released i f stamp) q.epochs) q.calls q.files
    releases q b = epochs_again c q.files q.sites q.calls q.epochs (is_epoch e) (released i f stamp)
        (λ t h k. k) (λ t h k. k)
        (λ t h k. all_filtered (is_seated c q.calls q.files) (λ x. not (is_named i x)) t.opened k)
        (packed_of_past c q b)
packed_step c (rec.Adopt f site stamp) before p few may ours a = packed_as_said c (after c (rec.Adopt f site stamp) p)
    (site_has c p.files p.epochs p.calls p.sites site (record { file = f; stamp = stamp }) (λ v. not (same_file v.file f)) (adopt_packed c before p f site stamp few ours may a) (packed_of_past c p a.packed))
packed_step c (rec.Answer site process id r) before p few may ours a = packed_as_said c (after c (rec.Answer site process id r) p) (over (caller_of c before p site process id may.caller a.calls may.waits))
  where
    over : Caller before p site process id may.caller → PackedSay c (after c (rec.Answer site process id r) p).sites (after c (rec.Answer site process id r) p).epochs (after c (rec.Answer site process id r) p).calls (after c (rec.Answer site process id r) p).files
    over by = subst (λ (ks : List CallSoFar). PackedSay c (fold (λ old k. replied_to r k old) p ks).sites (fold (λ old k. replied_to r k old) p ks).epochs (fold (λ old k. replied_to r k old) p ks).calls (fold (λ old k. replied_to r k old) p ks).files) (sym by.only)
        (sites_kept c p.files _ _ p.sites (has_number by.k.id.site) _ (λ s. refl) (λ s. refl)
        (epochs_again c p.files p.sites _ p.epochs (λ t. true) (once_replied r by.k)
        (λ t h k. k) (λ t h k. k)
        (λ t h k. instances_seated c (change (is_id by.k.id) (λ (x : CallSoFar). record x { waits = false }) p.calls) p.files (is_taken r by.k t) (once_named r) (once_grant r) t.opened k)
        (calls_kept c p.files p.sites p.epochs p.calls (is_id by.k.id) (λ (x : CallSoFar). record x { waits = false }) (λ k. refl) (λ k. refl) (packed_of_past c p a.packed))))
packed_step c what before p few may ours a = packed_as_said c (after c what p) (packed_of_past c p a.packed)
