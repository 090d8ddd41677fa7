-- What a table has of files stays: which versions are known and kept, and who holds which.
use Rattle.std.proofs.Common.{◌≡◌, ℕ, Bool, true, false, List, length, map, Option, Some, refl, sym, ap, ◌∙◌, subst, ⊎_elim, ◌⊎◌, inl, inr}
use Rattle.std.proofs.lemmas.List.{length-map}
use Rattle.std.specs.List.{AllByRecursion}
use Rattle.role_steps.proofs.of_plain_facts.Tests.{true_false}
use Rattle.locus_ids.specs.declared.config.Config.{Config}
use Rattle.locus_ids.specs.declared.ids.Brought.{Brought}
use Rattle.locus_ids.specs.declared.ids.EpochId.{EpochId}
use Rattle.locus_ids.specs.declared.ids.FileId.{FileId}
use Rattle.locus_ids.specs.declared.ids.Stamp.{Stamp}
use Rattle.commit_graph.specs.Versions.{kept, is_in as in_history}
use Rattle.commit_graph.specs.declared.history.Version.{Version}
use Rattle.trace_book.specs.declared.record.Record.{Record}
use Rattle.trace_book.specs.declared.record.Record.TheVariants as says
use Rattle.role_steps.specs.Own.{Every}
use Rattle.role_steps.specs.Views.{Frame, Told, Shown}
use Rattle.role_steps.specs.Versions.{file_row, row_ino, kept as kept_rows}
use Rattle.role_steps.specs.declared.synchronizing.Early.{Early}
use Rattle.role_steps.specs.declared.synchronizing.FileRow.{FileRow}
use Rattle.role_steps.specs.declared.synchronizing.LastLook.{LastLook}
use Rattle.role_steps.specs.declared.synchronizing.OpenRow.{OpenRow}
use Rattle.role_steps.specs.declared.synchronizing.SyncTable.{SyncTable}
use Rattle.role_steps.specs.declared.synchronizing.VersionRow.{VersionRow}
use Rattle.the_run.specs.Worlds.{Line}
use Rattle.tree_model.specs.Epochs.{has_joined, is_in}
use Rattle.tree_model.specs.Histories.{history}
use Rattle.tree_model.specs.Packs.{has_pack}
use Rattle.tree_model.specs.State.{TreeState, held_at, is_named, stamps_of}
use Rattle.tree_model.specs.Tree.{tree_of, candidates, kept_in, next}
use Rattle.lawful_trace.specs.SiteRows.{MayJoin}
use Rattle.lawful_trace.specs.TreeRows.{granted_group}
use Rattle.tree_laws.specs.Following.{MayTell, IsFollowed}
use Rattle.tree_laws.specs.Frames.{IsFresh, VersionsStay}
use Rattle.tree_laws.specs.Instances.{held_in, IsStarted}
use Rattle.tree_laws.specs.Packets.{file_in}
use Rattle.tree_laws.specs.Printed.{entries}
use Rattle.tree_laws.specs.Tables.{VersionFact, FileFact, HoldingFact, IsAhead, IsNoted, IsStill, ExactFact, StartedFiles, HasReported, HoldsJust, ReportedFiles, FilesFact, row_stamp}
use Rattle.tree_laws.proofs.Boots.{every_both}
use Rattle.tree_laws.proofs.Carried.{joined_stays}
use Rattle.tree_laws.proofs.CarriedLooks.{More}
use Rattle.tree_laws.proofs.CarriedVersions.{version_stays}
use Rattle.tree_laws.proofs.Kinship.{tree_epoch_is, tree_group_is}
use Rattle.tree_laws.proofs.Names.{true_or_false, same_epoch_eq}
use Rattle.tree_laws.proofs.Owing.{InGroup, in_group, found_every, inside_is}
use Rattle.tree_laws.proofs.Rows.{followed_rows}
use Rattle.tree_laws.specs.Orders.Joining.{PacksAreOfSites}
use Rattle.tree_laws.proofs.Orders.Joining.{no_pack_comes}
use Rattle.tree_laws.proofs.Orders.Keeping.{kept_same, all_others}
use Rattle.tree_laws.proofs.Orders.Knowing.{tree_config, rows_sound}
use Rattle.tree_laws.proofs.Orders.Standing.{KnownStands}
use Rattle.tree_laws.proofs.Orders.Started.{open_started}
use Rattle.tree_laws.specs.Syncs.Staying.{Starts, Releases, Adopts, BringsNothing, FilesStay}
use Rattle.tree_laws.proofs.Syncs.Rows.{row_key_is}
use Rattle.tree_laws.proofs.Syncs.Trees.{JoinsWithout, known_same, started_same}
use Rattle.tree_laws.proofs.Syncs.Held.{Moves, held_moves}
use Rattle.tree_laws.proofs.Syncs.Ahead.{ahead_stays, commit_ahead}

-- ---- rows ----

module _ (c : Config) (old new : List Line) (v : VersionsStay c old new) where
  version_row : (f : FileId) (r : VersionRow) → VersionFact c old f r → VersionFact c new f r
  version_row f r k = record { version = k.version; is_version = version_stays c old new v f k.version k.is_version; same = k.same }

  pub file_row_stays : (e : EpochId) (group : ℕ) (r : FileRow) → FileFact c old e group r → FileFact c new e group r
  file_row_stays e group r k = record {
    some = k.some;
    stands = v.stands (file_in group r.ino) k.some k.stands;
    kind_is = k.kind_is ∙ sym (v.kinds (file_in group r.ino) k.some k.stands);
    set_is = k.set_is ∙ sym (v.sets (file_in group r.ino) k.some k.stands);
    versions = every_both (VersionFact c old (file_in group r.ino)) (VersionFact c new (file_in group r.ino)) r.versions (version_row (file_in group r.ino)) k.versions;
    keeps = every_both (VersionFact c old (file_in group r.ino)) (VersionFact c new (file_in group r.ino)) r.kept (version_row (file_in group r.ino)) k.keeps;
    holders = every_both (HoldingFact c old e (file_in group r.ino)) (HoldingFact c new e (file_in group r.ino)) r.holders (λ h a. v.have e h.site (file_in group r.ino) h.stamp a) k.holders;
    held = k.held;
    orderly = k.orderly;
  }

-- ---- the tree of a table ----

module _ (c : Config) (n : ℕ) (older : List Line) (h : IsFollowed c older) (f : Frame) (group : ℕ) where
  abbrev t : TreeState
  t = tree_of c f.epoch group (entries older)

  pub started_told : (x : Told) → (Starts f group x → ⊥) → (tree_of c f.epoch group (entries (More n x older))).started ≡ t.started
  started_told (Shown r) apart = started_same (history c (entries older)) t f group (tree_epoch_is c f.epoch group (entries older)) (tree_group_is c f.epoch group (entries older)) r apart
  started_told _ apart = refl

  -- ---- once the group has started ----

  module _ (packs : PacksAreOfSites c) (started : t.started ≡ true) where
    without : (r : Record) → MayTell c older (Shown r) → JoinsWithout t r
    without (says.Join s e m) may = λ same.
        subst (λ (k : Config). has_pack k t.group s ≡ false) (sym (tree_config c f.epoch group (entries older)))
        (subst (λ (g : ℕ). has_pack c g s ≡ false) (sym (tree_group_is c f.epoch group (entries older)))
        (no_pack_comes c (entries older) packs (followed_rows c older h) f.epoch group s m started (subst (λ (y : EpochId). MayJoin c (entries older) s y m) (same_epoch_eq e t.epoch same ∙ tree_epoch_is c f.epoch group (entries older)) may.row)))
    without _ may = tt

    known_told : (x : Told) → MayTell c older x → (Releases f group x → ⊥) → (tree_of c f.epoch group (entries (More n x older))).known ≡ t.known
    known_told (Shown r) may apart = known_same (history c (entries older)) t f group (tree_epoch_is c f.epoch group (entries older)) (tree_group_is c f.epoch group (entries older)) r apart (without r may)
    known_told _ may apart = refl

    pub candidates_told : (x : Told) → MayTell c older x → (Releases f group x → ⊥) → (ino : ℕ) → candidates c (entries (More n x older)) f.epoch (file_in group ino) ≡ candidates c (entries older) f.epoch (file_in group ino)
    candidates_told x may apart ino = ap (λ (bs : List Brought). stamps_of bs ino) (known_told x may apart)

    kept_record : (r : Record) → MayTell c older (Shown r) → IsFresh c older (Shown r) → (Releases f group (Shown r) → ⊥) → (ino : ℕ) → kept_in c (entries (More n (Shown r) older)) f.epoch (file_in group ino) ≡ kept_in c (entries older) f.epoch (file_in group ino)
    kept_record (says.Commit g s stamp parents content) may fresh apart ino = kept_same v (history c (entries older)) (file_in group ino) (stamps_of t.known ino) (all_others v (history c (entries older)) group ino t.known new stands)
      where
        v : Version
        v = record { file = g; site = s; stamp = stamp; parents = parents; content = content }

        new : in_history (history c (entries older)) g stamp ≡ false
        new = ⊎_elim (λ (k : in_history (history c (entries older)) g stamp ≡ true). absurd (fresh k)) (λ (k : in_history (history c (entries older)) g stamp ≡ false). k) (true_or_false (in_history (history c (entries older)) g stamp))

        stands : AllByRecursion (KnownStands (history c (entries older)) group) t.known
        stands = subst (λ (k : ℕ). AllByRecursion (KnownStands (history c (entries older)) k) t.known) (tree_group_is c f.epoch group (entries older)) (rows_sound c (entries older) (followed_rows c older h) f.epoch group).known
    kept_record r may fresh apart ino = ap (kept (history c (entries older)) (file_in group ino)) (candidates_told (Shown r) may apart ino)

    pub kept_told : (x : Told) → MayTell c older x → IsFresh c older x → (Releases f group x → ⊥) → (ino : ℕ) → kept_in c (entries (More n x older)) f.epoch (file_in group ino) ≡ kept_in c (entries older) f.epoch (file_in group ino)
    kept_told (Shown r) may fresh apart ino = kept_record r may fresh apart ino
    kept_told _ may fresh apart ino = refl

    -- ---- what a site has where nothing is adopted without the table ----

    one_kept : (r : FileRow) (xs : List Stamp) → map row_stamp r.kept ≡ xs → length xs ≡ 1 → length r.kept ≡ 1
    one_kept r xs e one = sym (length-map r.kept row_stamp) ∙ (ap length e ∙ one)

    still_record : (r : Record) → MayTell c older (Shown r) → FilesStay c older (More n (Shown r) older) (Shown r) → (Adopts f group (Shown r) → ⊥) → (row : FileRow) → map row_stamp row.kept ≡ kept_in c (entries older) f.epoch (file_in group row.ino)
        → (site : ℕ) → IsStill f.me row site → Moves t site row.ino r
        → (held_in c (entries (More n (Shown r) older)) f.epoch site (file_in group row.ino) ≡ held_in c (entries older) f.epoch site (file_in group row.ino)) ⊎ IsAhead c (More n (Shown r) older) f.epoch site (file_in group row.ino)
    still_record (says.Commit g s stamp parents content) may stay apart row kept_is site still puts = inr (commit_ahead c n older h g s stamp parents content may f.epoch epoch_is (file_in group row.ino) file_is site puts.2)
      where
        epoch_is : may.in_time.epoch ≡ f.epoch
        epoch_is = same_epoch_eq may.in_time.epoch f.epoch (ap (λ (o : Option EpochId). is_in o f.epoch) (sym may.in_time.inside) ∙ (sym (inside_is c (entries older) f.epoch group s) ∙ puts.3))

        group_eq : g.group ≡ group
        group_eq = puts.0 ∙ tree_group_is c f.epoch group (entries older)

        file_is : g ≡ file_in group row.ino
        file_is = λ i. record { group = group_eq i; ino = puts.1 i }
    still_record (says.Adopt g s stamp) may stay apart row kept_is site still puts = absurd (over still)
      where
        epoch_is : may.in_time.epoch ≡ f.epoch
        epoch_is = same_epoch_eq may.in_time.epoch f.epoch (ap (λ (o : Option EpochId). is_in o f.epoch) (sym may.in_time.inside) ∙ (sym (inside_is c (entries older) f.epoch group s) ∙ puts.3))

        group_eq : g.group ≡ group
        group_eq = puts.0 ∙ tree_group_is c f.epoch group (entries older)

        file_is : g ≡ file_in group row.ino
        file_is = λ i. record { group = group_eq i; ino = puts.1 i }

        one : length (kept_in c (entries older) f.epoch (file_in group row.ino)) ≡ 1
        one = subst (λ (y : FileId). length (kept_in c (entries older) f.epoch y) ≡ 1) file_is (subst (λ (y : EpochId). length (kept_in c (entries older) y g) ≡ 1) epoch_is may.in_time.single)

        over : (site ≡ f.me) ⊎ (length row.kept ≡ 1 → ⊥) → ⊥
        over (inl here) = apart (puts.2 ∙ here, group_eq)
        over (inr several) = several (one_kept row _ kept_is one)
    still_record (says.Join s e m) may stay apart row kept_is site still puts = inl (subst (λ (k : ℕ). held_in c (entries (More n (Shown (says.Join s e m)) older)) f.epoch k (file_in group row.ino) ≡ held_in c (entries older) f.epoch k (file_in group row.ino)) puts.0
        (nothing (same_epoch_eq e t.epoch puts.1 ∙ tree_epoch_is c f.epoch group (entries older)) stay.nothing))
      where
        nothing : e ≡ f.epoch → BringsNothing c older (More n (Shown (says.Join s e m)) older) (Shown (says.Join s e m)) → held_in c (entries (More n (Shown (says.Join s e m)) older)) f.epoch s (file_in group row.ino) ≡ held_in c (entries older) f.epoch s (file_in group row.ino)
        nothing same k = subst (λ (y : EpochId). IsStarted c older y group → held_in c (entries (More n (Shown (says.Join s e m)) older)) y s (file_in group row.ino) ≡ held_in c (entries older) y s (file_in group row.ino)) same (k (file_in group row.ino)) started
    still_record r may stay apart row kept_is site still puts = absurd puts

    pub still_told : (x : Told) → MayTell c older x → FilesStay c older (More n x older) x → (Adopts f group x → ⊥) → (row : FileRow) → map row_stamp row.kept ≡ kept_in c (entries older) f.epoch (file_in group row.ino) → (site : ℕ) → IsStill f.me row site
        → (held_in c (entries (More n x older)) f.epoch site (file_in group row.ino) ≡ held_in c (entries older) f.epoch site (file_in group row.ino)) ⊎ IsAhead c (More n x older) f.epoch site (file_in group row.ino)
    still_told (Shown r) may stay apart row kept_is site still = over (held_moves (history c (entries older)) t r site row.ino)
      where
        over : (held_at (next (history c (entries older)) r t) site row.ino ≡ held_at t site row.ino) ⊎ Moves t site row.ino r
            → (held_in c (entries (More n (Shown r) older)) f.epoch site (file_in group row.ino) ≡ held_in c (entries older) f.epoch site (file_in group row.ino)) ⊎ IsAhead c (More n (Shown r) older) f.epoch site (file_in group row.ino)
        over (inl same) = inl same
        over (inr moves) = still_record r may stay apart row kept_is site still moves
    still_told _ may stay apart row kept_is site still = inl refl

    pub exact_stays : (x : Told) → MayTell c older x → FilesStay c older (More n x older) x → (Releases f group x → ⊥) → (Adopts f group x → ⊥) → (row : FileRow) → map row_stamp row.kept ≡ kept_in c (entries older) f.epoch (file_in group row.ino)
        → ExactFact c older f group row → ExactFact c (More n x older) f group row
    exact_stays x may stay held_there apart row kept_is exact = λ site stamp still held. over site stamp still held (still_told x may stay apart row kept_is site still)
      where
        from_old : (site : ℕ) (stamp : Stamp) → IsNoted row site stamp ⊎ IsAhead c older f.epoch site (file_in group row.ino) → IsNoted row site stamp ⊎ IsAhead c (More n x older) f.epoch site (file_in group row.ino)
        from_old site stamp (inl noted) = inl noted
        from_old site stamp (inr ahead) = inr (ahead_stays c n x older may f site (file_in group row.ino) held_there ahead)

        over : (site : ℕ) (stamp : Stamp) → IsStill f.me row site → held_in c (entries (More n x older)) f.epoch site (file_in group row.ino) ≡ Some stamp
            → (held_in c (entries (More n x older)) f.epoch site (file_in group row.ino) ≡ held_in c (entries older) f.epoch site (file_in group row.ino)) ⊎ IsAhead c (More n x older) f.epoch site (file_in group row.ino)
            → IsNoted row site stamp ⊎ IsAhead c (More n x older) f.epoch site (file_in group row.ino)
        over site stamp still held (inl same) = from_old site stamp (exact site stamp still (sym same ∙ held))
        over site stamp still held (inr ahead) = inr ahead

  -- ---- before it has started ----

  module _ (waits : t.started ≡ false) where
    -- what a site that has joined has of the group stays
    there_record : (r : Record) → MayTell c older (Shown r) → (site ino : ℕ) → has_joined (entries older) site f.epoch ≡ true → Moves t site ino r → ⊥
    there_record (says.Commit g s stamp parents content) may site ino joined puts = true_false (sym opens ∙ waits)
      where
        epoch_is : may.in_time.epoch ≡ f.epoch
        epoch_is = same_epoch_eq may.in_time.epoch f.epoch (ap (λ (o : Option EpochId). is_in o f.epoch) (sym may.in_time.inside) ∙ (sym (inside_is c (entries older) f.epoch group s) ∙ puts.3))

        g_is : granted_group (entries older) may.in_time.epoch may.in_time.inst ≡ group
        g_is = sym (found_every (InGroup (granted_group (entries older) may.in_time.epoch may.in_time.inst)) (is_named may.in_time.inst) (tree_of c may.in_time.epoch (granted_group (entries older) may.in_time.epoch may.in_time.inst) (entries older)).instances may.in_time.at may.in_time.open_at.found
            (in_group c may.in_time.epoch (granted_group (entries older) may.in_time.epoch may.in_time.inst) (entries older))) ∙ (ap (λ (y : FileId). y.group) may.in_time.file_is ∙ (puts.0 ∙ tree_group_is c f.epoch group (entries older)))

        opens : t.started ≡ true
        opens = subst (λ (y : EpochId). (tree_of c y group (entries older)).started ≡ true) epoch_is (subst (λ (k : ℕ). (tree_of c may.in_time.epoch k (entries older)).started ≡ true) g_is
            (open_started c (entries older) (followed_rows c older h) may.in_time.epoch (granted_group (entries older) may.in_time.epoch may.in_time.inst) may.in_time.inst may.in_time.at may.in_time.open_at.found))
    there_record (says.Adopt g s stamp) may site ino joined puts = true_false (sym opens ∙ waits)
      where
        epoch_is : may.in_time.epoch ≡ f.epoch
        epoch_is = same_epoch_eq may.in_time.epoch f.epoch (ap (λ (o : Option EpochId). is_in o f.epoch) (sym may.in_time.inside) ∙ (sym (inside_is c (entries older) f.epoch group s) ∙ puts.3))

        opens : t.started ≡ true
        opens = subst (λ (y : EpochId). (tree_of c y group (entries older)).started ≡ true) epoch_is (subst (λ (k : ℕ). (tree_of c may.in_time.epoch k (entries older)).started ≡ true) (puts.0 ∙ tree_group_is c f.epoch group (entries older)) may.in_time.started)
    there_record (says.Join s e m) may site ino joined puts = true_false (sym joined ∙ subst (λ (k : ℕ). has_joined (entries older) k f.epoch ≡ false) puts.0 (subst (λ (y : EpochId). has_joined (entries older) s y ≡ false) (same_epoch_eq e t.epoch puts.1 ∙ tree_epoch_is c f.epoch group (entries older)) may.row.new))
    there_record r may site ino joined puts = puts

    there_told : (x : Told) → MayTell c older x → (site ino : ℕ) → has_joined (entries older) site f.epoch ≡ true → held_in c (entries (More n x older)) f.epoch site (file_in group ino) ≡ held_in c (entries older) f.epoch site (file_in group ino)
    there_told (Shown r) may site ino joined = over (held_moves (history c (entries older)) t r site ino)
      where
        over : (held_at (next (history c (entries older)) r t) site ino ≡ held_at t site ino) ⊎ Moves t site ino r → held_in c (entries (More n (Shown r) older)) f.epoch site (file_in group ino) ≡ held_in c (entries older) f.epoch site (file_in group ino)
        over (inl same) = same
        over (inr moves) = absurd (there_record r may site ino joined moves)
    there_told _ may site ino joined = refl

-- ---- the files of a table ----

module _ (c : Config) (n : ℕ) (x : Told) (older : List Line) (h : IsFollowed c older) (may : MayTell c older x) (stay : FilesStay c older (More n x older) x) (f : Frame) (tab : SyncTable) (unreleased : Releases f tab.group x → ⊥) (apart : Adopts f tab.group x → ⊥) where
  started_stay : (tree_of c f.epoch tab.group (entries older)).started ≡ true → StartedFiles c older f tab → StartedFiles c (More n x older) f tab
  started_stay now s = record {
    known = λ ino. s.known ino ∙ sym (candidates_told c n older h f tab.group stay.packs now x may unreleased ino);
    kept_is = λ ino. s.kept_is ino ∙ sym (kept_told c n older h f tab.group stay.packs now x may stay.stay.fresh unreleased ino);
    exact = λ ino r found. exact_stays c n older h f tab.group stay.packs now x may stay unreleased apart r (its ino r found) (s.exact ino r found);
  }
    where
      its : (ino : ℕ) (r : FileRow) → file_row tab ino ≡ Some r → map row_stamp r.kept ≡ kept_in c (entries older) f.epoch (file_in tab.group r.ino)
      its ino r found = subst (λ (k : ℕ). map row_stamp r.kept ≡ kept_in c (entries older) f.epoch (file_in tab.group k)) (sym (row_key_is row_ino ino tab.files r found)) (subst (λ (o : Option FileRow). map row_stamp (kept_rows o) ≡ kept_in c (entries older) f.epoch (file_in tab.group ino)) found (s.kept_is ino))

  abbrev By : List Line → FileRow → VersionRow → Type 0
  By trace r v = (site : ℕ) × HasReported tab site × (held_in c (entries trace) f.epoch site (file_in tab.group r.ino) ≡ Some v.stamp)

  abbrev BroughtBy : List Line → FileRow → Type 0
  BroughtBy trace r = Every (By trace r) r.versions

  abbrev HoldJust : List Line → FileRow → Type 0
  HoldJust trace r = Every (HoldsJust c trace f tab r) r.holders

  reported_stay : (tree_of c f.epoch tab.group (entries older)).started ≡ false → ReportedFiles c older f tab → ReportedFiles c (More n x older) f tab
  reported_stay waits s = record {
    joined = λ site k. joined_stays n x older site f.epoch (s.joined site k);
    brought = λ site ino stamp k held. s.brought site ino stamp k (sym (there_told c n older h f tab.group waits x may site ino (s.joined site k)) ∙ held);
    known = every_both (BroughtBy older) (BroughtBy (More n x older)) tab.files (λ r. every_both (By older r) (By (More n x older) r) r.versions (λ v k. (k.0, k.1, there_told c n older h f tab.group waits x may k.0 r.ino (s.joined k.0 k.1) ∙ k.2))) s.known;
    holds = every_both (HoldJust older) (HoldJust (More n x older)) tab.files (λ r. every_both (HoldsJust c older f tab r) (HoldsJust c (More n x older) f tab r) r.holders (λ q k. (k.0, there_told c n older h f tab.group waits x may q.site r.ino (s.joined q.site k.0) ∙ k.1))) s.holds;
  }

  pub files_stay : (b : Bool) → (tree_of c f.epoch tab.group (entries older)).started ≡ b → FilesFact c older f tab b → FilesFact c (More n x older) f tab b
  files_stay true e s = started_stay e s
  files_stay false e s = reported_stay e s

-- a table's files, where its requests, its opens and its looks are others
pub files_like : (c : Config) (trace : List Line) (f : Frame) (t : SyncTable) (early : List Early) (opens : List OpenRow) (looks : List LastLook) (b : Bool) → FilesFact c trace f t b → FilesFact c trace f (record t { early = early; opens = opens; looks = looks }) b
files_like c trace f t early opens looks true s = record { known = s.known; kept_is = s.kept_is; exact = s.exact }
files_like c trace f t early opens looks false s = record { joined = s.joined; brought = s.brought; known = s.known; holds = s.holds }
