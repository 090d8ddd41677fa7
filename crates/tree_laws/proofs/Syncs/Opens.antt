-- A synchronization site answers an open of a file that stands as the tree does: refused for the first that refuses it, or granted
-- on the only kept version at a site that has it; one that comes again is answered as before.
use Rattle.std.proofs.Common.{◌≡◌, ℕ, ◌==◌, max, Bool, true, false, ◌&&◌, cond, List, [], ◌∷◌, length, map, Option, Some, None, refl, sym, ap, ◌∙◌, subst, ◌⊎◌, inl, inr, arith}
use Rattle.std.proofs.lemmas.Bool.Decides.{nat_tests}
use Rattle.std.specs.List.{find}
use Rattle.std.specs.Option.{is_some, option_map, option_or}
use Rattle.locus_ids.specs.declared.config.Config.{Config}
use Rattle.locus_ids.specs.declared.ids.CallId.{CallId}
use Rattle.locus_ids.specs.declared.ids.FileId.{FileId}
use Rattle.locus_ids.specs.declared.ids.Mode.{Mode}
use Rattle.locus_ids.specs.declared.ids.Mode.TheVariants as mode
use Rattle.locus_ids.specs.declared.ids.Stamp.{Stamp}
use Rattle.locus_ids.specs.declared.refusal.Refusal.{Refusal}
use Rattle.locus_ids.specs.declared.refusal.Refusal.TheVariants as refusal
use Rattle.version_vector.specs.Counters.{part}
use Rattle.commit_graph.specs.Grants.{Opener, excluder, grant_refusal, is_read, kept_refusal}
use Rattle.commit_graph.specs.Vectors.{vector_of}
use Rattle.commit_graph.specs.Versions.{same_file}
use Rattle.dir_format.specs.Entries.{nothing_seen}
use Rattle.wire_messages.specs.declared.body.Body.TheVariants as body
use Rattle.wire_messages.specs.declared.body.Opening.{Opening}
use Rattle.wire_messages.specs.declared.body.Opening.TheVariants as how
use Rattle.role_steps.specs.Opens.{OpenRequest, Denies, Grants, grant_on, is_stamp_among, resolve_from, stamp_held, decides, decision, plain_at, plain_decision, unless_refused, mode_of, open_key, open_row, on_open_of, takes_open, repeats_open, call_id, openers as table_openers}
use Rattle.role_steps.specs.Own.{Every}
use Rattle.role_steps.specs.Reports.{on_open, waits_early}
use Rattle.role_steps.specs.Tables.{row}
use Rattle.role_steps.specs.Versions.{chosen_site, file_row, holders_of, holding_of, holding_site, joined_vectors, kept, row_ino, stamps_of}
use Rattle.role_steps.specs.Views.{Frame, quiet, serial_key}
use Rattle.role_steps.specs.declared.synchronizing.FileRow.{FileRow}
use Rattle.role_steps.specs.declared.synchronizing.OpenRow.{OpenRow}
use Rattle.role_steps.specs.declared.synchronizing.SyncTable.{SyncTable}
use Rattle.role_steps.specs.declared.synchronizing.VersionRow.{VersionRow}
use Rattle.the_run.specs.Kept.{Among}
use Rattle.the_run.specs.Worlds.{Line}
use Rattle.tree_model.specs.declared.instance.Instance.{Instance}
use Rattle.tree_model.specs.Files.{kind_of_file, set_of_file}
use Rattle.tree_model.specs.Given.{is_unnumbered, refuses}
use Rattle.tree_model.specs.Histories.{history}
use Rattle.tree_model.specs.Opening.{held_by, is_only, is_placed, is_site, open_refusal, place_refusal, resolving_site, site_named}
use Rattle.tree_model.specs.Same.{same_version}
use Rattle.tree_model.specs.State.{TreeState, has_stamp, has_stamp_of, is_named, openers, words_of}
use Rattle.tree_model.specs.Tree.{tree_of, kept_in}
use Rattle.lawful_trace.specs.TreeRows.{granted_group}
use Rattle.tree_laws.proofs.Syncs.Trees.{openers_by_name}
use Rattle.tree_laws.specs.Doing.{TableFine}
use Rattle.tree_laws.specs.Instances.{AsksOpen, HasAtLeast, Stands, held_in}
use Rattle.tree_laws.specs.Packets.{IsCallOf, JoinsParents, OpenFact, SeesVersion, file_in, serial_of}
use Rattle.tree_laws.specs.Past.{WasNamedIn}
use Rattle.tree_laws.specs.Printed.{entries}
use Rattle.tree_laws.specs.Tables.{FileFact, FilesFact, HasHolder, HoldingFact, IsAhead, IsNoted, IsStill, RowFact, StartedFiles, VersionFact, row_stamp}
use Rattle.tree_laws.proofs.Owing.{InGroup, found_every, in_group}
use Rattle.tree_laws.proofs.Orders.Alone.{none_excludes}
use Rattle.tree_laws.proofs.Orders.Lists.{all_found}
use Rattle.tree_laws.specs.Syncs.Opening.{IsOrdinary, IsPlainOpening}
use Rattle.tree_laws.specs.Syncs.Serving.{FilesAreOrdered, Serving}
use Rattle.tree_laws.proofs.Syncs.Looks.{early_fact, early_group, sends_fine}
use Rattle.tree_laws.proofs.Syncs.Openings.{IsGiven, file_own, granted_fine, here, its, none_seen, plain_refuses, refused_as}
use Rattle.tree_laws.proofs.Syncs.Refusing.{reason_own, unrefused}
use Rattle.tree_laws.proofs.Syncs.Again.{again}
use Rattle.tree_laws.proofs.Syncs.Members.{inside_joined}
use Rattle.tree_laws.proofs.Syncs.Merging.{among_is_has, joins_rows, tree_members}
use Rattle.tree_laws.proofs.Syncs.Ordinary.{ordinary_one, plain_of, several_kept, some_kept}
use Rattle.tree_laws.proofs.Syncs.TreeCalls.{call_in_is}
use Rattle.tree_laws.proofs.Orders.Knowing.{tree_config}
use Rattle.tree_laws.proofs.Kinship.{tree_group_is}
use Rattle.tree_model.specs.declared.accepted.AcceptedCall.{AcceptedCall}
use Rattle.tree_model.specs.declared.accepted.Waiting.{Waiting}
use Rattle.tree_model.specs.Packs.{sync_site}
use Rattle.tree_model.specs.Working.{merges}
use Rattle.tree_model.specs.Epochs.{has_joined}
use Rattle.locus_ids.specs.declared.sites.Members.{Members}
use Rattle.locus_ids.specs.Sizes.{sites_max}
use Rattle.std.proofs.lemmas.List.{length-map}
use Rattle.role_steps.proofs.of_plain_facts.Numbers.{equal_self}
use Rattle.role_steps.proofs.of_plain_facts.Options.{some_same}
use Rattle.role_steps.proofs.of_plain_facts.Tests.{and_true, true_false}
use Rattle.role_steps.specs.declared.synchronizing.Holding.{Holding}
use Rattle.tree_laws.proofs.Syncs.Rows.{every_among, row_every, row_key_is}
use Rattle.tree_laws.proofs.Syncs.Served.{IsChosen, IsHolder, holder_chosen, holder_is, holder_there, stamp_own}
use Rattle.tree_laws.proofs.Syncs.Versions.{row_stands, row_vector}

-- ---- one kept version ----

max_none : (a b : ℕ) → b ≡ 0 → a ≡ max a b
max_none a b e = grind (arith, nat_tests)

empty_one : {A : Type 0} (v : A) → [] ≡ v ∷ [] → ⊥
empty_one v e = cc

several_one : {A : Type 0} (a b v : A) (xs : List A) → a ∷ b ∷ xs ≡ v ∷ [] → ⊥
several_one a b v xs e = cc

-- ---- the open of a call ----

module _ (c : Config) (n : ℕ) (trace : List Line) (f : Frame) (tab : SyncTable) (sv : Serving c n trace f tab) (order : FilesAreOrdered c trace f.epoch) (started : tab.started ≡ true) (us serial number process request : ℕ) (file : FileId) (group_is : file.group ≡ tab.group) (call : CallId) (is_call : IsCallOf trace f.epoch us number process call) where
  abbrev d : CallId
  d = call_id f us number

  abbrev o : Opening → OpenRequest
  o q = record { serial = serial; call = number; process = process; request = request; file = file; how = q }

  abbrev t : TreeState
  t = tree_of c f.epoch file.group (entries trace)

  abbrev ks : List Stamp
  ks = kept_in c (entries trace) f.epoch file

  abbrev os : List Opener
  os = openers t file

  file_is : file_in tab.group file.ino ≡ file
  file_is = λ i. record { group = sym group_is i; ino = file.ino }

  is_started : t.started ≡ true
  is_started = subst (λ (g : ℕ). (tree_of c f.epoch g (entries trace)).started ≡ true) (sym group_is) (sym sv.table.started ∙ started)

  files : StartedFiles c trace f tab
  files = subst (FilesFact c trace f tab) started sv.table.files

  kept_is : map row_stamp (kept (file_row tab file.ino)) ≡ ks
  kept_is = subst (λ (g : FileId). map row_stamp (kept (file_row tab file.ino)) ≡ kept_in c (entries trace) f.epoch g) file_is (files.kept_is file.ino)

  os_is : (file.ino ≡ 0 → ⊥) → table_openers tab file ≡ os
  os_is some =
      ap (λ (g : FileId). table_openers tab g) (sym file_is) ∙ (openers_by_name tab (tree_of c f.epoch tab.group (entries trace)) (file_in tab.group file.ino) (sv.table.openers_are file.ino some)
      ∙ (ap (λ (g : ℕ). openers (tree_of c f.epoch g (entries trace)) (file_in tab.group file.ino)) (sym group_is) ∙ ap (λ (g : FileId). openers t g) file_is))

  -- nobody is ahead of a file whom nothing excludes
  no_ahead : (m : Mode) (site : ℕ) → excluder m os ≡ None → IsAhead c trace f.epoch site file → ⊥
  no_ahead m site none a = committed (a.at.work.committed) a.committed (order.reads a.inst a.at a.open_at.found (alone (file_own file a.at.grant.file (sym a.file_is))).0)
    where
      committed : (s : Option Stamp) → is_some s ≡ true → s ≡ None → ⊥
      committed s k e = true_false (sym k ∙ ap is_some e)

      group : granted_group (entries trace) f.epoch a.inst ≡ file.group
      group = sym (found_every (InGroup (granted_group (entries trace) f.epoch a.inst)) (is_named a.inst) (tree_of c f.epoch (granted_group (entries trace) f.epoch a.inst) (entries trace)).instances a.at a.open_at.found
          (in_group c f.epoch (granted_group (entries trace) f.epoch a.inst) (entries trace))) ∙ ap (λ (g : FileId). g.group) a.file_is

      found : find (is_named a.inst) t.instances ≡ Some a.at
      found = subst (λ (g : ℕ). find (is_named a.inst) (tree_of c f.epoch g (entries trace)).instances ≡ Some a.at) group a.open_at.found

      alone : same_file a.at.grant.file file ≡ true → (is_read a.at.grant.mode ≡ true) × (is_read m ≡ true)
      alone = all_found (λ (x : Instance). same_file x.grant.file file ≡ true → (is_read x.grant.mode ≡ true) × (is_read m ≡ true)) (is_named a.inst) t.instances a.at (none_excludes m file t.instances none) found

  module _ (r : FileRow) (row_found : file_row tab file.ino ≡ Some r) where
    row_fact : FileFact c trace f.epoch tab.group r
    row_fact = row_every (FileFact c trace f.epoch tab.group) row_ino file.ino tab.files r sv.table.rows row_found

    row_is : file_in tab.group r.ino ≡ file
    row_is = ap (λ (i : ℕ). file_in tab.group i) (row_key_is row_ino file.ino tab.files r row_found) ∙ file_is

    -- who is noted for the only kept version has it
    holder_has : (m : Mode) (stamp : Stamp) (site : ℕ) → excluder m os ≡ None → ks ≡ stamp ∷ [] → Among site (holders_of r stamp) → held_in c (entries trace) f.epoch site file ≡ Some stamp
    holder_has m stamp site none one a = over (order.only file site stamp one least)
      where
        it : IsHolder r stamp site
        it = holder_is r stamp site a

        least : HasAtLeast c trace f.epoch site file stamp
        least = subst (λ (g : FileId). HasAtLeast c trace f.epoch site g stamp) row_is (subst (λ (s : ℕ). HasAtLeast c trace f.epoch s (file_in tab.group r.ino) stamp) it.site_is (subst (λ (s : Stamp). HasAtLeast c trace f.epoch it.holding.site (file_in tab.group r.ino) s) it.stamp_is
            (every_among (HoldingFact c trace f.epoch (file_in tab.group r.ino)) r.holders it.holding row_fact.holders it.there)))

        over : (held_in c (entries trace) f.epoch site file ≡ Some stamp) ⊎ IsAhead c trace f.epoch site file → held_in c (entries trace) f.epoch site file ≡ Some stamp
        over (inl k) = k
        over (inr k) = absurd (no_ahead m site none k)

    -- ---- a merge begins from what its site has ----

    exact_at : (m : Mode) (site : ℕ) (stamp : Stamp) → IsStill f.me r site → excluder m os ≡ None → held_in c (entries trace) f.epoch site file ≡ Some stamp → IsNoted r site stamp
    exact_at m site stamp still none held = over (files.exact file.ino r row_found site stamp still (subst (λ (g : FileId). held_in c (entries trace) f.epoch site g ≡ Some stamp) (sym row_is) held))
      where
        over : IsNoted r site stamp ⊎ IsAhead c trace f.epoch site (file_in tab.group r.ino) → IsNoted r site stamp
        over (inl k) = k
        over (inr k) = absurd (no_ahead m site none (subst (λ (g : FileId). IsAhead c trace f.epoch site g) row_is k))

    -- what is noted for the site is what it has
    noted_is : (m : Mode) (site : ℕ) → IsStill f.me r site → excluder m os ≡ None → (h : Option Holding) → holding_of r site ≡ h → held_in c (entries trace) f.epoch site file ≡ stamp_held h
    noted_is m site still none None e = over (held_in c (entries trace) f.epoch site file) refl
      where
        no_holding : (h : Holding) → ◌≡◌ {A = Option Holding} None (Some h) → ⊥
        no_holding h k = cc

        over : (s : Option Stamp) → held_in c (entries trace) f.epoch site file ≡ s → held_in c (entries trace) f.epoch site file ≡ None
        over None k = k
        over (Some s) k = (let x : IsNoted r site s = exact_at m site s still none k in absurd (no_holding x.0 (sym e ∙ x.1)))
    noted_is m site still none (Some h) e = least.held ∙ ap (λ (s : Stamp). Some s) (sym x.2 ∙ ap (λ (y : Holding). y.stamp) (some_same x.0 h (sym x.1 ∙ e)))
      where
        least : HasAtLeast c trace f.epoch site file h.stamp
        least = subst (λ (g : FileId). HasAtLeast c trace f.epoch site g h.stamp) row_is (subst (λ (s : ℕ). HasAtLeast c trace f.epoch s (file_in tab.group r.ino) h.stamp) (row_key_is holding_site site r.holders h e)
            (row_every (HoldingFact c trace f.epoch (file_in tab.group r.ino)) holding_site site r.holders h row_fact.holders e))

        x : IsNoted r site least.now
        x = exact_at m site least.now still none least.held

    kept_row : map row_stamp r.kept ≡ ks
    kept_row = sym (ap (λ (z : Option FileRow). map row_stamp (kept z)) row_found) ∙ kept_is

    -- a merge follows all kept versions
    merged : (q : Opening) (ss : ℕ) (stamp : Option Stamp) → open_refusal (history c (entries trace)) t (mode_of q) d file ≡ None → is_placed (history c (entries trace)) t d (mode_of q) file stamp ss ≡ true → has_joined (entries trace) ss f.epoch ≡ true → (merges (mode_of q) ≡ false → ⊥) → SeesVersion c trace file (mode_of q) stamp (joined_vectors r.kept)
        → IsGiven c trace f.epoch d (mode_of q) file ss stamp (joined_vectors r.kept) (stamps_of r.kept) r.set r.kind
    merged q ss stamp unrefused_now placed there alone sees = record {
      unrefused = unrefused_now;
      placed = placed;
      there = there;
      some = row_fact.some;
      stands = subst (λ (g : FileId). Stands c trace g row_fact.some) row_is row_fact.stands;
      set_is = subst (λ (g : FileId). r.set ≡ set_of_file c (entries trace) g) row_is row_fact.set_is;
      kind_is = subst (λ (g : FileId). r.kind ≡ kind_of_file c (entries trace) g) row_is row_fact.kind_is;
      vector_is = joins_rows c trace file r.kept (subst (λ (g : FileId). Every (VersionFact c trace g) r.kept) row_is row_fact.keeps);
      parents_are = kept_row;
      alone = λ m. absurd (alone m);
      sees = sees;
    }

    same_own : (s : Option Stamp) → same_version s s ≡ true
    same_own None = refl
    same_own (Some s) = stamp_own s

    mend_fine : AsksOpen c trace f.epoch d request serial file how.Mend → row open_key (serial_key (serial_of us serial)) tab.opens ≡ None → grant_refusal mode.Mend os ks ≡ None → TableFine c n trace f tab.group (decides f tab us (o how.Mend) (grant_on f us r r.kept how.Mend))
    mend_fine asks none e = granted_fine c n trace f tab sv started us serial number process request file group_is call is_call how.Mend asks none tt f.me (stamp_held (holding_of r f.me)) (joined_vectors r.kept) (stamps_of r.kept) r.set r.kind
        (merged how.Mend f.me (stamp_held (holding_of r f.me)) (ap (λ (z : Option Refusal). option_or z None) e) placed (inside_joined c trace sv.followed f.me f.epoch sv.frame.inside) (λ m. true_false m) tt)
      where
        sync_is : sync_site t.config t.group t.members ≡ Some f.me
        sync_is =
            ap (λ (k : Config). sync_site k t.group t.members) (tree_config c f.epoch file.group (entries trace))
            ∙ (ap (λ (g : ℕ). sync_site c g t.members) (tree_group_is c f.epoch file.group (entries trace) ∙ group_is)
            ∙ (ap (λ (m : Option Members). sync_site c tab.group m) (tree_members c f.epoch file.group (entries trace) ∙ sv.frame.members_are) ∙ sv.serves))

        placed : is_placed (history c (entries trace)) t d mode.Mend file (stamp_held (holding_of r f.me)) f.me ≡ true
        placed = and_true (is_site (sync_site t.config t.group t.members) f.me) _ (ap (λ (s : Option ℕ). is_site s f.me) sync_is ∙ equal_self f.me)
            (ap (λ (s : Option Stamp). same_version s (stamp_held (holding_of r f.me))) (noted_is mode.Mend f.me (inl refl) (unrefused mode.Mend os ks e).0 (holding_of r f.me) refl) ∙ same_own (stamp_held (holding_of r f.me)))

    module _ (site : ℕ) (asks : AsksOpen c trace f.epoch d request serial file (how.Resolve site)) (none : row open_key (serial_key (serial_of us serial)) tab.opens ≡ None) (e : grant_refusal mode.Resolve os ks ≡ None) where
      its_here : IsCallOf trace f.epoch us number process d
      its_here = here c n trace f tab sv started us serial number process request file group_is call is_call

      named : resolving_site t d ≡ Some site
      named =
          ap (λ (z : Option AcceptedCall). site_named (words_of z)) (call_in_is c f.epoch file.group (entries trace) d ∙ ap (option_map (λ (w : Waiting). record { call = w.call; process = w.process; words = w.words })) its_here.named)
          ∙ sv.calls.resolves f.epoch d request serial file site asks its_here.caller its_here.named

      held_is : held_by t (resolving_site t d) file.ino ≡ stamp_held (holding_of r site)
      held_is = ap (λ (z : Option ℕ). held_by t z file.ino) named ∙ noted_is mode.Resolve site (inr (λ one. several_kept ks (unrefused mode.Resolve os ks e).1 (ap length (sym kept_row) ∙ (length-map r.kept row_stamp ∙ one)))) (unrefused mode.Resolve os ks e).0 (holding_of r site) refl

      refusal_is : open_refusal (history c (entries trace)) t mode.Resolve d file ≡ cond (has_stamp_of ks (stamp_held (holding_of r site))) None (Some refusal.NoStorage)
      refusal_is = ap (λ (z : Option Refusal). option_or z (place_refusal (history c (entries trace)) t mode.Resolve d file)) e ∙ ap (λ (s : Option Stamp). cond (has_stamp_of ks s) None (Some refusal.NoStorage)) held_is

      denied : has_stamp_of ks (stamp_held (holding_of r site)) ≡ false → TableFine c n trace f tab.group (decides f tab us (o (how.Resolve site)) (Denies refusal.NoStorage))
      denied k = refused_as c n trace f tab sv started us serial number process request file group_is call is_call (how.Resolve site) asks none refusal.NoStorage tt
          (and_true t.started _ is_started (ap (λ (z : Option Refusal). refuses (history c (entries trace)) t d mode.Resolve file refusal.NoStorage z) (refusal_is ∙ ap (λ (b : Bool). cond b None (Some refusal.NoStorage)) k)))

      allowed : (h : Holding) → holding_of r site ≡ Some h → has_stamp ks h.stamp ≡ true → TableFine c n trace f tab.group (decides f tab us (o (how.Resolve site)) (Grants h.site (Some h.stamp) (joined_vectors r.kept) (stamps_of r.kept) r.set r.kind))
      allowed h found k = granted_fine c n trace f tab sv started us serial number process request file group_is call is_call (how.Resolve site) asks none tt h.site (Some h.stamp) (joined_vectors r.kept) (stamps_of r.kept) r.set r.kind
          (merged (how.Resolve site) h.site (Some h.stamp) (refusal_is ∙ (ap (λ (z : Option Holding). cond (has_stamp_of ks (stamp_held z)) None (Some refusal.NoStorage)) found ∙ ap (λ (b : Bool). cond b None (Some refusal.NoStorage)) k)) placed
          (order.joined h.site file h.stamp held) (λ m. true_false m) tt)
        where
          at : h.site ≡ site
          at = row_key_is holding_site site r.holders h found

          held : held_in c (entries trace) f.epoch h.site file ≡ Some h.stamp
          held = ap (λ (s : ℕ). held_in c (entries trace) f.epoch s file) at ∙ (sym (ap (λ (z : Option ℕ). held_by t z file.ino) named) ∙ (held_is ∙ ap stamp_held found))

          placed : is_placed (history c (entries trace)) t d mode.Resolve file (Some h.stamp) h.site ≡ true
          placed = and_true (is_site (resolving_site t d) h.site) _ (ap (λ (s : Option ℕ). is_site s h.site) named ∙ subst (λ (s : ℕ). (s == h.site) ≡ true) at (equal_self h.site)) (ap (λ (s : Option Stamp). same_version s (Some h.stamp)) held ∙ stamp_own h.stamp)

      from_noted : (z : Option Holding) → holding_of r site ≡ z → TableFine c n trace f tab.group (decides f tab us (o (how.Resolve site)) (resolve_from r r.kept z))
      from_noted None found = denied (ap (λ (y : Option Holding). has_stamp_of ks (stamp_held y)) found)
      from_noted (Some h) found = over (is_stamp_among h.stamp (stamps_of r.kept)) (sym (among_is_has h.stamp (stamps_of r.kept) ∙ ap (λ (ss : List Stamp). has_stamp ss h.stamp) kept_row))
        where
          over : (b : Bool) → has_stamp ks h.stamp ≡ b → TableFine c n trace f tab.group (decides f tab us (o (how.Resolve site)) (cond b (Grants h.site (Some h.stamp) (joined_vectors r.kept) (stamps_of r.kept) r.set r.kind) (Denies refusal.NoStorage)))
          over true k = allowed h found k
          over false k = denied (ap (λ (y : Option Holding). has_stamp_of ks (stamp_held y)) found ∙ k)

      resolve_fine : TableFine c n trace f tab.group (decides f tab us (o (how.Resolve site)) (grant_on f us r r.kept (how.Resolve site)))
      resolve_fine = from_noted (holding_of r site) refl

    -- ---- the only kept version is opened ----

    module _ (v : VersionRow) (kept_one : r.kept ≡ v ∷ []) (one : ks ≡ v.stamp ∷ []) where
      version : VersionFact c trace file v
      version = subst (λ (g : FileId). VersionFact c trace g v) row_is (subst (Every (VersionFact c trace (file_in tab.group r.ino))) kept_one row_fact.keeps).0

      stands : Stands c trace file v.stamp
      stands = row_stands c trace file v version

      chosen : IsChosen us f.me (holders_of r v.stamp)
      chosen = (let h = (subst (Every (HasHolder r)) kept_one row_fact.held).0 in holder_chosen us f.me h.0.site (holders_of r v.stamp) (holder_there r v v.stamp refl h))

      joins : JoinsParents c trace file (v.stamp ∷ []) v.vector
      joins = (nothing_seen, stands, (none_seen sites_max, refl), (λ s. ap (λ (w : List ℕ). part w s) (row_vector c trace file v version) ∙ max_none (part (vector_of (history c (entries trace)) file v.stamp) s) (part nothing_seen s) (none_seen sites_max s)), ap length (row_vector c trace file v version))

      sees_one : (q : Opening) → IsOrdinary q → SeesVersion c trace file (mode_of q) (Some v.stamp) v.vector
      sees_one how.Read k = tt
      sees_one how.Write k = (stands, row_vector c trace file v version)
      sees_one (how.Resolve site) k = absurd k
      sees_one how.Mend k = absurd k
      sees_one (how.Make set kind) k = absurd k

      placed_one : (q : Opening) → IsOrdinary q → (ss : ℕ) → held_in c (entries trace) f.epoch ss file ≡ Some v.stamp → is_placed (history c (entries trace)) t d (mode_of q) file (Some v.stamp) ss ≡ true
      placed_one how.Read k ss held = and_true (is_only ks (Some v.stamp)) _ (ap (λ (xs : List Stamp). is_only xs (Some v.stamp)) one ∙ stamp_own v.stamp) (ap (λ (s : Option Stamp). same_version s (Some v.stamp)) held ∙ stamp_own v.stamp)
      placed_one how.Write k ss held = and_true (is_only ks (Some v.stamp)) _ (ap (λ (xs : List Stamp). is_only xs (Some v.stamp)) one ∙ stamp_own v.stamp) (ap (λ (s : Option Stamp). same_version s (Some v.stamp)) held ∙ stamp_own v.stamp)
      placed_one (how.Resolve site) k ss held = absurd k
      placed_one how.Mend k ss held = absurd k
      placed_one (how.Make set kind) k ss held = absurd k

      unrefused_one : (q : Opening) → IsOrdinary q → grant_refusal (mode_of q) os ks ≡ None → open_refusal (history c (entries trace)) t (mode_of q) d file ≡ None
      unrefused_one how.Read k e = ap (λ (z : Option Refusal). option_or z None) e
      unrefused_one how.Write k e = ap (λ (z : Option Refusal). option_or z None) e
      unrefused_one (how.Resolve site) k e = absurd k
      unrefused_one how.Mend k e = absurd k
      unrefused_one (how.Make set kind) k e = absurd k

      given_one : (q : Opening) → IsOrdinary q → grant_refusal (mode_of q) os ks ≡ None → IsGiven c trace f.epoch d (mode_of q) file chosen.site (Some v.stamp) v.vector (v.stamp ∷ []) r.set r.kind
      given_one q k e = record {
        unrefused = unrefused_one q k e;
        placed = placed_one q k chosen.site held;
        there = order.joined chosen.site file v.stamp held;
        some = v.stamp;
        stands = stands;
        set_is = subst (λ (g : FileId). r.set ≡ set_of_file c (entries trace) g) row_is row_fact.set_is;
        kind_is = subst (λ (g : FileId). r.kind ≡ kind_of_file c (entries trace) g) row_is row_fact.kind_is;
        vector_is = joins;
        parents_are = sym one;
        alone = λ m. refl;
        sees = sees_one q k;
      }
        where
          held : held_in c (entries trace) f.epoch chosen.site file ≡ Some v.stamp
          held = holder_has (mode_of q) v.stamp chosen.site (unrefused (mode_of q) os ks e).0 one chosen.among

      pub one_fine : (q : Opening) → IsOrdinary q → AsksOpen c trace f.epoch d request serial file q → row open_key (serial_key (serial_of us serial)) tab.opens ≡ None → grant_refusal (mode_of q) os ks ≡ None
          → TableFine c n trace f tab.group (decides f tab us (o q) (plain_at r v (chosen_site us f.me (holders_of r v.stamp))))
      one_fine q k asks none e = subst (λ (s : Option ℕ). TableFine c n trace f tab.group (decides f tab us (o q) (plain_at r v s))) (sym chosen.chosen)
          (granted_fine c n trace f tab sv started us serial number process request file group_is call is_call q asks none (plain_of q k) chosen.site (Some v.stamp) v.vector (v.stamp ∷ []) r.set r.kind (given_one q k e))

    kept_fine : (q : Opening) → IsOrdinary q → AsksOpen c trace f.epoch d request serial file q → row open_key (serial_key (serial_of us serial)) tab.opens ≡ None → grant_refusal (mode_of q) os ks ≡ None
        → (vs : List VersionRow) → r.kept ≡ vs → map row_stamp vs ≡ ks → TableFine c n trace f tab.group (decides f tab us (o q) (plain_decision f us r vs))
    kept_fine q k asks none e [] at is = (let one : (v : Stamp) × (ks ≡ v ∷ []) = ordinary_one q k ks (unrefused (mode_of q) os ks e).1 in absurd (empty_one one.0 (is ∙ one.1)))
    kept_fine q k asks none e (v ∷ []) at is = one_fine v at (sym is) q k asks none e
    kept_fine q k asks none e (v ∷ w ∷ others) at is = (let one : (z : Stamp) × (ks ≡ z ∷ []) = ordinary_one q k ks (unrefused (mode_of q) os ks e).1 in absurd (several_one v.stamp w.stamp one.0 (map row_stamp others) (is ∙ one.1)))

  -- ---- the decision ----

  plain_gives : (q : Opening) → IsPlainOpening q → (why : Refusal) → grant_refusal (mode_of q) os ks ≡ Some why → is_unnumbered (mode_of q) file && refuses (history c (entries trace)) t d (mode_of q) file why (open_refusal (history c (entries trace)) t (mode_of q) d file) ≡ true
  plain_gives how.Read k why e = ap (λ (z : Option Refusal). refuses (history c (entries trace)) t d mode.Read file why (option_or z (place_refusal (history c (entries trace)) t mode.Read d file))) e ∙ reason_own mode.Read os ks why e
  plain_gives how.Write k why e = ap (λ (z : Option Refusal). refuses (history c (entries trace)) t d mode.Write file why (option_or z (place_refusal (history c (entries trace)) t mode.Write d file))) e ∙ reason_own mode.Write os ks why e
  plain_gives (how.Resolve site) k why e = ap (λ (z : Option Refusal). refuses (history c (entries trace)) t d mode.Resolve file why (option_or z (place_refusal (history c (entries trace)) t mode.Resolve d file))) e ∙ reason_own mode.Resolve os ks why e
  plain_gives how.Mend k why e = ap (λ (z : Option Refusal). refuses (history c (entries trace)) t d mode.Mend file why (option_or z (place_refusal (history c (entries trace)) t mode.Mend d file))) e ∙ reason_own mode.Mend os ks why e
  plain_gives (how.Make set kind) k why e = absurd k

  denied_fine : (q : Opening) → IsPlainOpening q → AsksOpen c trace f.epoch d request serial file q → row open_key (serial_key (serial_of us serial)) tab.opens ≡ None → (why : Refusal) → grant_refusal (mode_of q) os ks ≡ Some why → TableFine c n trace f tab.group (decides f tab us (o q) (unless_refused f us (o q) (file_row tab file.ino) (Some why)))
  denied_fine q k asks none why e = refused_as c n trace f tab sv started us serial number process request file group_is call is_call q asks none why (plain_refuses c trace f.epoch d (serial_of us serial) file why q k) (and_true t.started _ is_started (plain_gives q k why e))

  decided_fine : (q : Opening) → IsPlainOpening q → AsksOpen c trace f.epoch d request serial file q → row open_key (serial_key (serial_of us serial)) tab.opens ≡ None → (known : Option FileRow) → file_row tab file.ino ≡ known → (g : Option Refusal) → grant_refusal (mode_of q) os ks ≡ g
      → TableFine c n trace f tab.group (decides f tab us (o q) (unless_refused f us (o q) known g))
  decided_fine q k asks none known found (Some why) e = denied_fine q k asks none why e
  decided_fine q k asks none None found None e = absurd (some_kept q k (subst (λ (xs : List Stamp). kept_refusal (mode_of q) xs ≡ None) (sym kept_is ∙ ap (λ (z : Option FileRow). map row_stamp (kept z)) found) (unrefused (mode_of q) os ks e).1))
  decided_fine how.Read k asks none (Some r) found None e = kept_fine r found how.Read k asks none e r.kept refl (sym (ap (λ (z : Option FileRow). map row_stamp (kept z)) found) ∙ kept_is)
  decided_fine how.Write k asks none (Some r) found None e = kept_fine r found how.Write k asks none e r.kept refl (sym (ap (λ (z : Option FileRow). map row_stamp (kept z)) found) ∙ kept_is)
  decided_fine (how.Resolve site) k asks none (Some r) found None e = resolve_fine r found site asks none e
  decided_fine how.Mend k asks none (Some r) found None e = mend_fine r found asks none e
  decided_fine (how.Make set kind) k asks none (Some r) found None e = absurd k

  by_table : (m : Mode) → (file.ino ≡ 0 → ⊥) → grant_refusal m os ks ≡ grant_refusal m (table_openers tab file) (stamps_of (kept (file_row tab file.ino)))
  by_table m some = ap (λ (xs : List Opener). grant_refusal m xs ks) (sym (os_is some)) ∙ ap (λ (xs : List Stamp). grant_refusal m (table_openers tab file) xs) (sym kept_is)

  new_fine : (q : Opening) → IsPlainOpening q → AsksOpen c trace f.epoch d request serial file q → row open_key (serial_key (serial_of us serial)) tab.opens ≡ None → TableFine c n trace f tab.group (decides f tab us (o q) (decision f tab us (o q) q))
  new_fine how.Read k asks none = decided_fine how.Read k asks none (file_row tab file.ino) refl _ (by_table mode.Read (sv.calls.numbered f.epoch d request serial file how.Read asks tt))
  new_fine how.Write k asks none = decided_fine how.Write k asks none (file_row tab file.ino) refl _ (by_table mode.Write (sv.calls.numbered f.epoch d request serial file how.Write asks tt))
  new_fine (how.Resolve site) k asks none = decided_fine (how.Resolve site) k asks none (file_row tab file.ino) refl _ (by_table mode.Resolve (sv.calls.numbered f.epoch d request serial file (how.Resolve site) asks tt))
  new_fine how.Mend k asks none = decided_fine how.Mend k asks none (file_row tab file.ino) refl _ (by_table mode.Mend (sv.calls.numbered f.epoch d request serial file how.Mend asks tt))
  new_fine (how.Make set kind) k asks none = absurd k

  -- ---- an open that comes ----

  pub comes_fine : (q : Opening) → IsPlainOpening q → WasNamedIn trace f.epoch file.group (serial_of us serial) ⊎ AsksOpen c trace f.epoch d request serial file q → (r : Option OpenRow) → open_row tab (serial_of us serial) ≡ r → TableFine c n trace f tab.group (on_open_of f tab us (o q) r)
  comes_fine q k asked None e = over asked
    where
      over : WasNamedIn trace f.epoch file.group (serial_of us serial) ⊎ AsksOpen c trace f.epoch d request serial file q → TableFine c n trace f tab.group (decides f tab us (o q) (decision f tab us (o q) q))
      over (inl w) = absurd (true_false (sym (sv.table.has (serial_of us serial) (subst (λ (g : ℕ). WasNamedIn trace f.epoch g (serial_of us serial)) group_is w)) ∙ ap is_some e))
      over (inr asks) = new_fine q k asks e
  comes_fine q k asked (Some r) e = (let fact : RowFact c trace f.epoch tab.group r = row_every (RowFact c trace f.epoch tab.group) open_key (serial_key (serial_of us serial)) tab.opens r sv.table.opens e in
      sends_fine c n trace f tab (repeats_open f r r.stage) tab refl sv.table (again c trace f tab.group r fact r.stage fact.stage))

pub open_fine : (c : Config) (n : ℕ) (trace : List Line) (f : Frame) (tab : SyncTable) → Serving c n trace f tab → FilesAreOrdered c trace f.epoch → (us : ℕ) (o : OpenRequest) → IsPlainOpening o.how → o.file.group ≡ tab.group → OpenFact c trace f.epoch us o.serial o.call o.process o.request o.file o.how → TableFine c n trace f tab.group (on_open f us o tab)
open_fine c n trace f tab sv order us o plain group_is k = over tab.started refl
  where
    over : (b : Bool) → tab.started ≡ b → TableFine c n trace f tab.group (elim b [ true ↦ takes_open f us o tab | false ↦ quiet (waits_early us o.process (body.Open o.serial o.call o.process o.request o.file o.how) tab) ])
    over true e = comes_fine c n trace f tab sv order e us o.serial o.call o.process o.request o.file group_is k.call k.is_call o.how plain
        (subst (λ (x : CallId). WasNamedIn trace f.epoch o.file.group (serial_of us o.serial) ⊎ AsksOpen c trace f.epoch x o.request o.serial o.file o.how) (sym (its c n trace f tab sv e us o.serial o.call o.process o.request o.file group_is k.call k.is_call)) k.stands)
        (open_row tab (serial_of us o.serial)) refl
    over false e = sends_fine c n trace f tab [] (waits_early us o.process (body.Open o.serial o.call o.process o.request o.file o.how) tab) (early_group us o.process (body.Open o.serial o.call o.process o.request o.file o.how) tab)
        (early_fact c trace f tab us o.process (body.Open o.serial o.call o.process o.request o.file o.how) e (sym group_is) k sv.table) tt
