-- With the last report a table has all that was brought: its versions are those that the tree knows, those are kept that the tree keeps,
-- and who holds what is noted.
use Rattle.std.proofs.Common.{◌≡◌, ℕ, Bool, true, false, not, ◌||◌, cond, List, [], ◌∷◌, filter, map, Option, Some, None, refl, sym, ◌∙◌, ap, subst, ◌⊎◌, inl, inr}
use Rattle.std.specs.List.{flat_map, list_any}
use Rattle.role_steps.proofs.of_plain_facts.Options.{some_same}
use Rattle.role_steps.proofs.of_plain_facts.Tests.{true_false}
use Rattle.locus_ids.specs.declared.config.Config.{Config}
use Rattle.locus_ids.specs.declared.ids.Brought.{Brought}
use Rattle.locus_ids.specs.declared.ids.EpochId.{EpochId}
use Rattle.locus_ids.specs.declared.ids.FileId.{FileId}
use Rattle.locus_ids.specs.declared.ids.Stamp.{Stamp}
use Rattle.commit_graph.specs.Vectors.{vector_of}
use Rattle.commit_graph.specs.Versions.{is_proper_ancestor, kept as kept_stamps}
use Rattle.role_steps.specs.Own.{Every}
use Rattle.role_steps.specs.Reports.{brought_files, have_all_reported}
use Rattle.role_steps.specs.Versions.{file_row, holding_site, is_below, kept, row_ino, version_key}
use Rattle.role_steps.specs.Views.{Frame, stamp_key}
use Rattle.role_steps.specs.declared.synchronizing.FileRow.{FileRow}
use Rattle.role_steps.specs.declared.synchronizing.SyncTable.{SyncTable}
use Rattle.role_steps.specs.declared.synchronizing.VersionRow.{VersionRow}
use Rattle.the_run.specs.Kept.{Among}
use Rattle.the_run.specs.Worlds.{Line}
use Rattle.tree_model.specs.Files.{HeldVersion}
use Rattle.tree_model.specs.Histories.{history}
use Rattle.tree_model.specs.State.{TreeState, is_named, stamps_of}
use Rattle.tree_model.specs.Tree.{kept_in, tree_of}
use Rattle.lawful_trace.specs.TreeRows.{granted_group}
use Rattle.tree_laws.specs.Doing.{FrameFact}
use Rattle.tree_laws.specs.Instances.{IsKnown, held_in}
use Rattle.tree_laws.specs.Packets.{file_in}
use Rattle.tree_laws.specs.Printed.{entries}
use Rattle.tree_laws.specs.Tables.{FileFact, FilesFact, HasReported, HasVersion, IsAhead, IsNoted, ReportedFiles, TableFact, VersionFact, highest, known_stamps, row_stamp}
use Rattle.tree_laws.proofs.Boots.{every_both}
use Rattle.tree_laws.proofs.Owing.{InGroup, found_every, in_group}
use Rattle.tree_laws.proofs.Rows.{followed_rows}
use Rattle.store_laws.proofs.of_tree_laws.Orders.Started.{open_started}
use Rattle.store_laws.specs.Holdings.Held.{SitesHold}
use Rattle.store_laws.proofs.Holdings.Below.{packs_hold}
use Rattle.store_laws.proofs.Holdings.Holding.{known_or_ahead, sites_hold}
use Rattle.store_laws.proofs.Holdings.OneVersionAscending.{known_ascends}
use Rattle.store_laws.proofs.Tabled.{row_among}
use Rattle.store_laws.proofs.of_tree_laws.Syncs.Rows.{every_among, row_every, row_key_is}
use Rattle.store_laws.specs.OneTree.Rest.{Past}
use Rattle.store_laws.proofs.OneTree.Staying.{rest_below}
use Rattle.store_laws.proofs.OneTree.ToldVectorOnly.{row_stands, stands_low}
use Rattle.store_laws.proofs.OneTree.ToldVectorTelling.{vectors_tell_newer}
use Rattle.rest_laws.specs.EpochTreeStarting.{BroughtFiles}
use Rattle.rest_laws.proofs.EpochTreeBringing.{IsHeld, known_held}
use Rattle.rest_laws.proofs.EpochTreeBrought.{stamps_row}
use Rattle.rest_laws.proofs.EpochTreeMembers.{reporter_counts}
use Rattle.rest_laws.proofs.EpochTreeSorted.{FromRow, IsLow, RowAscends, all_among, brought_row, lists_same, row_brought, rows_ascend, stamp_among}

-- ---- what is kept ----

same_newer : (c : Config) (trace : List Line) (f : FileId) → Past c trace → (v w : VersionRow) → VersionFact c trace f v → VersionFact c trace f w → is_proper_ancestor (history c (entries trace)) f v.stamp w.stamp ≡ is_below v.vector w.vector
same_newer c trace f past v w k h =
    vectors_tell_newer c trace past f v.stamp w.stamp (row_stands c trace f v k) (row_stands c trace f w h)
    ∙ (ap (λ (x : List ℕ). is_below x (vector_of (history c (entries trace)) f w.stamp)) (sym (vector_is v k)) ∙ ap (is_below v.vector) (sym (vector_is w h)))
  where
    vector_is : (u : VersionRow) → VersionFact c trace f u → u.vector ≡ vector_of (history c (entries trace)) f u.stamp
    vector_is u q = ap (λ (x : VersionRow). x.vector) q.same ∙ (ap (λ (x : HeldVersion). x.vector) q.is_version.same ∙ ap (λ (x : VersionRow). vector_of (history c (entries trace)) f x.stamp) (sym q.same))

-- the stamps of those rows that are below no other are those that no other has as a proper ancestor
pub highest_kept : (c : Config) (trace : List Line) (f : FileId) → Past c trace → (vs : List VersionRow) → Every (VersionFact c trace f) vs → map row_stamp (highest vs) ≡ kept_stamps (history c (entries trace)) f (map row_stamp vs)
highest_kept c trace f past vs all = filtered vs all
  where
    same_any : (v : VersionRow) → VersionFact c trace f v → (ws : List VersionRow) → Every (VersionFact c trace f) ws → list_any (λ (w : VersionRow). is_below v.vector w.vector) ws ≡ list_any (is_proper_ancestor (history c (entries trace)) f v.stamp) (map row_stamp ws)
    same_any v k [] h = refl
    same_any v k (w ∷ ws) h = ap (λ (b : Bool). b || list_any (λ (u : VersionRow). is_below v.vector u.vector) ws) (sym (same_newer c trace f past v w k h.0)) ∙ ap (λ (b : Bool). is_proper_ancestor (history c (entries trace)) f v.stamp w.stamp || b) (same_any v k ws h.1)

    filtered : (us : List VersionRow) → Every (VersionFact c trace f) us → map row_stamp (filter (λ (v : VersionRow). not (list_any (λ (w : VersionRow). is_below v.vector w.vector) vs)) us) ≡ filter (λ (a : Stamp). not (list_any (is_proper_ancestor (history c (entries trace)) f a) (map row_stamp vs))) (map row_stamp us)
    filtered [] h = refl
    filtered (u ∷ us) h = at (list_any (λ (w : VersionRow). is_below u.vector w.vector) vs) (list_any (is_proper_ancestor (history c (entries trace)) f u.stamp) (map row_stamp vs)) (same_any u h.0 vs all) (filtered us h.1)
      where
        at : (a b : Bool) → a ≡ b → map row_stamp (filter (λ (v : VersionRow). not (list_any (λ (w : VersionRow). is_below v.vector w.vector) vs)) us) ≡ filter (λ (s : Stamp). not (list_any (is_proper_ancestor (history c (entries trace)) f s) (map row_stamp vs))) (map row_stamp us) →
            map row_stamp (cond (not a) (u ∷ filter (λ (v : VersionRow). not (list_any (λ (w : VersionRow). is_below v.vector w.vector) vs)) us) (filter (λ (v : VersionRow). not (list_any (λ (w : VersionRow). is_below v.vector w.vector) vs)) us))
            ≡ cond (not b) (u.stamp ∷ filter (λ (s : Stamp). not (list_any (is_proper_ancestor (history c (entries trace)) f s) (map row_stamp vs))) (map row_stamp us)) (filter (λ (s : Stamp). not (list_any (is_proper_ancestor (history c (entries trace)) f s) (map row_stamp vs))) (map row_stamp us))
        at true true e later = later
        at true false e later = absurd (true_false e)
        at false true e later = absurd (true_false (sym e))
        at false false e later = ap (λ (ss : List Stamp). u.stamp ∷ ss) later

-- ---- nobody is ahead before the start ----

ahead_started : (c : Config) (trace : List Line) (e : EpochId) (site : ℕ) (f : FileId) → Past c trace → IsAhead c trace e site f → (tree_of c e f.group (entries trace)).started ≡ true
ahead_started c trace e site f past a = subst (λ (g : ℕ). (tree_of c e g (entries trace)).started ≡ true) group_is
    (open_started c (entries trace) (followed_rows c trace past.followed) e (granted_group (entries trace) e a.inst) a.inst a.at a.open_at.found)
  where
    group_is : granted_group (entries trace) e a.inst ≡ f.group
    group_is = sym (found_every (InGroup (granted_group (entries trace) e a.inst)) (is_named a.inst) (tree_of c e (granted_group (entries trace) e a.inst) (entries trace)).instances a.at a.open_at.found (in_group c e (granted_group (entries trace) e a.inst) (entries trace)))
        ∙ ap (λ (y : FileId). y.group) a.file_is

-- ---- the table ----

module _ (c : Config) (trace : List Line) (f : Frame) (t : SyncTable) (past : Past c trace) (frame : FrameFact c trace f) (fact : TableFact c trace f t) (waits : t.started ≡ false) (reported : have_all_reported f t ≡ true) where
  abbrev s : TreeState
  s = tree_of c f.epoch t.group (entries trace)

  unstarted : (tree_of c f.epoch t.group (entries trace)).started ≡ false
  unstarted = sym fact.started ∙ waits

  files : ReportedFiles c trace f t
  files = subst (FilesFact c trace f t) waits fact.files

  sites : SitesHold c (entries trace)
  sites = sites_hold c (entries trace) (packs_hold c trace (rest_below c trace past.rest).packed)

  -- who has something of the group has reported it
  holder_reported : (site ino : ℕ) (stamp : Stamp) → held_in c (entries trace) f.epoch site (file_in t.group ino) ≡ Some stamp → HasReported t site
  holder_reported site ino stamp k = reporter_counts c trace f site t past frame (record { joined = sites.joined f.epoch site (file_in t.group ino) stamp k; packed = sites.packed f.epoch site (file_in t.group ino) stamp k }) reported

  -- what is held is known
  held_known : (site ino : ℕ) (stamp : Stamp) → held_in c (entries trace) f.epoch site (file_in t.group ino) ≡ Some stamp → IsKnown c trace f.epoch (file_in t.group ino) stamp
  held_known site ino stamp k = over (known_or_ahead c trace past.followed (packs_hold c trace (rest_below c trace past.rest).packed) f.epoch site (file_in t.group ino) stamp k)
    where
      over : IsKnown c trace f.epoch (file_in t.group ino) stamp ⊎ IsAhead c trace f.epoch site (file_in t.group ino) → IsKnown c trace f.epoch (file_in t.group ino) stamp
      over (inl known) = known
      over (inr ahead) = absurd (true_false (sym (ahead_started c trace f.epoch site (file_in t.group ino) past ahead) ∙ unstarted))

  -- a row's version is known in the tree
  told_known : (b : Brought) → Among b (flat_map brought_files t.files) → Among b (tree_of c f.epoch t.group (entries trace)).known
  told_known b m =
      let r : FromRow t.files b = brought_row t.files b m in
      let by = every_among (λ (v : VersionRow). (site : ℕ) × HasReported t site × (held_in c (entries trace) f.epoch site (file_in t.group r.file.ino) ≡ Some v.stamp)) r.file.versions r.version (every_among (λ (q : FileRow). Every (λ (v : VersionRow). (site : ℕ) × HasReported t site × (held_in c (entries trace) f.epoch site (file_in t.group q.ino) ≡ Some v.stamp)) q.versions) t.files r.file files.known r.there) r.known in
      subst (λ (x : Brought). Among x (tree_of c f.epoch t.group (entries trace)).known) (sym r.is) (stamp_among (tree_of c f.epoch t.group (entries trace)).known r.file.ino r.version.stamp (held_known by.0 r.file.ino r.version.stamp by.2))

  -- what the tree knows is a row's version
  known_told : (b : Brought) → Among b (tree_of c f.epoch t.group (entries trace)).known → Among b (flat_map brought_files t.files)
  known_told b m = from_site (all_among (IsHeld s) s.known b (known_held c trace past.followed f.epoch t.group unstarted) m)
    where
      from_site : IsHeld s b → Among b (flat_map brought_files t.files)
      from_site h = from_row (files.brought h.0 b.ino b.stamp (holder_reported h.0 b.ino b.stamp h.1) h.1)
        where
          from_row : (r : FileRow) × (file_row t b.ino ≡ Some r) × IsNoted r h.0 b.stamp → Among b (flat_map brought_files t.files)
          from_row k =
              let row : FileFact c trace f.epoch t.group k.0 = row_every (FileFact c trace f.epoch t.group) row_ino b.ino t.files k.0 fact.rows k.1 in
              let has : HasVersion k.0 k.2.0 = row_every (HasVersion k.0) holding_site h.0 k.0.holders k.2.0 row.orderly.names k.2.1 in
              subst (λ (x : Brought). Among x (flat_map brought_files t.files)) (same (row_key_is row_ino b.ino t.files k.0 k.1) (has.2 ∙ k.2.2)) (row_brought k.0 has.0 t.files (row_among row_ino b.ino t.files k.0 k.1) (row_among version_key (stamp_key k.2.0.stamp) k.0.versions has.0 has.1))
            where
              same : {i : ℕ} {w : Stamp} → i ≡ b.ino → w ≡ b.stamp → record { ino = i; stamp = w } ≡ b
              same p q = λ j. record { ino = p j; stamp = q j }

  row_ascends : (r : FileRow) → FileFact c trace f.epoch t.group r → RowAscends r
  row_ascends r k = record { ascends = k.orderly.ascends; low = every_both (VersionFact c trace (file_in t.group r.ino)) IsLow r.versions (λ v q. stands_low c (file_in t.group r.ino) v.stamp trace past.rest.each (row_stands c trace (file_in t.group r.ino) v q)) k.versions }

  known_is : flat_map brought_files t.files ≡ (tree_of c f.epoch t.group (entries trace)).known
  known_is = lists_same (flat_map brought_files t.files) s.known (rows_ascend t.files fact.rise (every_both (FileFact c trace f.epoch t.group) RowAscends t.files row_ascends fact.rows)) (known_ascends c (entries trace) f.epoch t.group) told_known known_told

  stamps_are : (ino : ℕ) → known_stamps (file_row t ino) ≡ stamps_of (tree_of c f.epoch t.group (entries trace)).known ino
  stamps_are ino = sym (stamps_row t.files fact.rise ino) ∙ ap (λ (bs : List Brought). stamps_of bs ino) known_is

  kept_are : (ino : ℕ) → map row_stamp (kept (file_row t ino)) ≡ kept_in c (entries trace) f.epoch (file_in t.group ino)
  kept_are ino = at (file_row t ino) refl ∙ ap (kept_stamps (history c (entries trace)) (file_in t.group ino)) (stamps_are ino)
    where
      at : (o : Option FileRow) → file_row t ino ≡ o → map row_stamp (kept o) ≡ kept_stamps (history c (entries trace)) (file_in t.group ino) (known_stamps o)
      at None e = refl
      at (Some r) e =
          let row : FileFact c trace f.epoch t.group r = row_every (FileFact c trace f.epoch t.group) row_ino ino t.files r fact.rows e in
          ap (map row_stamp) row.orderly.keeps ∙ subst (λ (i : ℕ). map row_stamp (highest r.versions) ≡ kept_stamps (history c (entries trace)) (file_in t.group i) (map row_stamp r.versions)) (row_key_is row_ino ino t.files r e) (highest_kept c trace (file_in t.group r.ino) past r.versions row.versions)

  pub brought_files_are : BroughtFiles c trace f t
  brought_files_are = record {
    known = known_is;
    kept_is = kept_are;
    exact = λ ino r found site stamp still held. inl (noted ino r found site stamp (files.brought site r.ino stamp (holder_reported site r.ino stamp held) held));
  }
    where
      noted : (ino : ℕ) (r : FileRow) → file_row t ino ≡ Some r → (site : ℕ) (stamp : Stamp) → (q : FileRow) × (file_row t r.ino ≡ Some q) × IsNoted q site stamp → IsNoted r site stamp
      noted ino r found site stamp k = subst (λ (q : FileRow). IsNoted q site stamp) (some_same k.0 r (sym k.1 ∙ (ap (file_row t) (row_key_is row_ino ino t.files r found) ∙ found))) k.2
