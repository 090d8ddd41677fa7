-- Whom a synchronization site notifies it tells of the only kept version, which is known in the epoch.
use Rattle.std.proofs.Common.{◌≡◌, ℕ, ◌<◌, ◌==◌, ◌&&◌, ◌||◌, not, Bool, true, false, cond, List, [], ◌∷◌, length, map, filter, Option, Some, None, refl, sym, ap, ◌∙◌, subst, arith}
use Rattle.std.proofs.lemmas.Bool.Decides.{nat_tests}
use Rattle.std.specs.List.{flat_map}
use Rattle.role_steps.proofs.of_plain_facts.Numbers.{equal_self}
use Rattle.locus_ids.specs.Sites.{has}
use Rattle.locus_ids.specs.declared.config.Config.{Config}
use Rattle.locus_ids.specs.declared.ids.FileId.{FileId}
use Rattle.locus_ids.specs.declared.ids.Stamp.{Stamp}
use Rattle.commit_graph.specs.Versions.{is_covered, same_stamp}
use Rattle.role_steps.specs.Notices.{lagging, notice, notices_of, notices_by, file_notices, notices}
use Rattle.role_steps.specs.Own.{Every}
use Rattle.role_steps.specs.Reports.{sync_repeats}
use Rattle.role_steps.specs.Tables.{row}
use Rattle.role_steps.specs.Versions.{is_among, chosen_site, file_row, holders_of, kept, row_ino}
use Rattle.role_steps.specs.Views.{Frame, all_sites, is_member, members_of}
use Rattle.role_steps.specs.declared.synchronizing.FileRow.{FileRow}
use Rattle.role_steps.specs.declared.synchronizing.SyncTable.{SyncTable}
use Rattle.role_steps.specs.declared.synchronizing.VersionRow.{VersionRow}
use Rattle.role_steps.proofs.Sending.{every_append}
use Rattle.the_run.specs.Kept.{Among}
use Rattle.the_run.specs.Worlds.{Line}
use Rattle.tree_model.specs.Files.{HeldVersion}
use Rattle.tree_model.specs.Histories.{history}
use Rattle.tree_model.specs.State.{has_stamp}
use Rattle.tree_model.specs.Tree.{candidates, kept_in}
use Rattle.tree_laws.specs.Instances.{HasAtLeast, IsKnown}
use Rattle.tree_laws.specs.Packets.{NotifyFact, PacketFact, file_in}
use Rattle.tree_laws.specs.Printed.{entries}
use Rattle.tree_laws.specs.Tables.{AreRising, FileFact, FilesFact, HoldingFact, StartedFiles, TableFact, VersionFact, row_stamp}
use Rattle.tree_laws.proofs.Boots.{every_filter, every_passes}
use Rattle.tree_laws.proofs.Syncs.Rows.{every_among}
use Rattle.tree_laws.proofs.Syncs.Served.{IsHolder, chosen_among, holder_is, stamp_own}

-- ---- rows that ascend are found ----

low_differs : (a b : ℕ) → a < b → (a == b) ≡ false
low_differs a b h = grind (arith, nat_tests)

row_here : (r : FileRow) (rest : List FileRow) → row row_ino r.ino (r ∷ rest) ≡ Some r
row_here r rest = ap (λ (b : Bool). elim b [ true ↦ Some r | false ↦ row row_ino r.ino rest ]) (equal_self r.ino)

row_behind : (q r : FileRow) (rest : List FileRow) → q.ino < r.ino → row row_ino r.ino (q ∷ rest) ≡ row row_ino r.ino rest
row_behind q r rest h = ap (λ (b : Bool). elim b [ true ↦ Some q | false ↦ row row_ino r.ino rest ]) (low_differs q.ino r.ino h)

-- each row is found by its number
pub rows_found : (rs : List FileRow) → AreRising rs → Every (λ (r : FileRow). row row_ino r.ino rs ≡ Some r) rs
rows_found [] h = tt
rows_found (q ∷ rs) h = (row_here q rs, over rs h.0 (rows_found rs h.1))
  where
    over : (xs : List FileRow) → Every (λ (r : FileRow). q.ino < r.ino) xs → Every (λ (r : FileRow). row row_ino r.ino rs ≡ Some r) xs → Every (λ (r : FileRow). row row_ino r.ino (q ∷ rs) ≡ Some r) xs
    over [] low found = tt
    over (r ∷ xs) low found = (row_behind q r rs low.0 ∙ found.0, over xs low.1 found.1)

-- ---- kept versions are known ----

has_filtered : (p : Stamp → Bool) (ss : List Stamp) (s : Stamp) → has_stamp (filter p ss) s ≡ true → has_stamp ss s ≡ true
has_filtered p [] s e = e
has_filtered p (x ∷ xs) s e = at (p x) e (has_filtered p xs s)
  where
    later : (b : Bool) → has_stamp xs s ≡ true → b || has_stamp xs s ≡ true
    later true k = refl
    later false k = k

    first : (b : Bool) → b || has_stamp (filter p xs) s ≡ true → (has_stamp (filter p xs) s ≡ true → has_stamp xs s ≡ true) → b || has_stamp xs s ≡ true
    first true k more = refl
    first false k more = more k

    at : (b : Bool) → has_stamp (cond b (x ∷ filter p xs) (filter p xs)) s ≡ true → (has_stamp (filter p xs) s ≡ true → has_stamp xs s ≡ true) → has_stamp (x ∷ xs) s ≡ true
    at true k more = first (same_stamp x s) k more
    at false k more = later (same_stamp x s) (more k)

pub kept_is_known : (c : Config) (trace : List Line) (f : Frame) (file : FileId) (s : Stamp) → has_stamp (kept_in c (entries trace) f.epoch file) s ≡ true → IsKnown c trace f.epoch file s
kept_is_known c trace f file s e = has_filtered (λ a. not (is_covered (history c (entries trace)) file (candidates c (entries trace) f.epoch file) a)) (candidates c (entries trace) f.epoch file) s e

-- ---- notices ----

-- who lags is one of the file's sites
lagging_wanted : (f : Frame) (r : FileRow) (holders : List ℕ) → Every (λ (s : ℕ). has r.set s ≡ true) (lagging f r holders)
lagging_wanted f r holders = every_filter (λ (s : ℕ). has r.set s ≡ true) (λ s. not (is_among s holders)) (members_of f.members r.set)
    (every_passes (λ (s : ℕ). has r.set s ≡ true) (λ s. has r.set s && is_member f.members s) (λ s e. first_of (has r.set s) (is_member f.members s) e) all_sites)
  where
    first_of : (a b : Bool) → a && b ≡ true → a ≡ true
    first_of true b e = refl
    first_of false b e = absurd (cc)

module _ (c : Config) (trace : List Line) (f : Frame) (t : SyncTable) (k : TableFact c trace f t) (started : t.started ≡ true) where
  files : StartedFiles c trace f t
  files = subst (FilesFact c trace f t) started k.files

  module _ (r : FileRow) (fact : FileFact c trace f.epoch t.group r) (found : file_row t r.ino ≡ Some r) where
    kept_are : map row_stamp r.kept ≡ kept_in c (entries trace) f.epoch (file_in t.group r.ino)
    kept_are = sym (ap (λ (o : Option FileRow). map row_stamp (kept o)) found) ∙ files.kept_is r.ino

    module _ (v : VersionRow) (one : r.kept ≡ v ∷ []) where
      version : VersionFact c trace (file_in t.group r.ino) v
      version = (subst (Every (VersionFact c trace (file_in t.group r.ino))) one fact.keeps).0

      only : kept_in c (entries trace) f.epoch (file_in t.group r.ino) ≡ v.stamp ∷ []
      only = sym kept_are ∙ ap (λ (vs : List VersionRow). map row_stamp vs) one

      -- a holder has the version at least
      holder_has : (holder : ℕ) → Among holder (holders_of r v.stamp) → HasAtLeast c trace f.epoch holder (file_in t.group r.ino) v.stamp
      holder_has holder a =
          let it : IsHolder r v.stamp holder = holder_is r v.stamp holder a in
          subst (λ (s : ℕ). HasAtLeast c trace f.epoch s (file_in t.group r.ino) v.stamp) it.site_is (subst (λ (s : Stamp). HasAtLeast c trace f.epoch it.holding.site (file_in t.group r.ino) s) it.stamp_is (every_among (HoldingFact c trace f.epoch (file_in t.group r.ino)) r.holders it.holding fact.holders it.there))

      notify : (to holder : ℕ) → has r.set to ≡ true → HasAtLeast c trace f.epoch holder (file_in t.group r.ino) v.stamp → NotifyFact c trace f.epoch to (file_in t.group r.ino) r.kind r.set v.size v.stamp v.vector holder
      notify to holder wanted holds = record {
        started = sym k.started ∙ started;
        known = kept_is_known c trace f (file_in t.group r.ino) v.stamp (ap (λ (ss : List Stamp). has_stamp ss v.stamp) only ∙ ap (λ (b : Bool). b || false) (stamp_own v.stamp));
        single = ap length only;
        version = version.version;
        is_version = version.is_version;
        stamp_is = sym (ap (λ (x : VersionRow). x.stamp) version.same);
        kind_is = ap (λ (x : HeldVersion). x.kind) version.is_version.same ∙ sym fact.kind_is;
        set_is = ap (λ (x : HeldVersion). x.set) version.is_version.same ∙ sym fact.set_is;
        vector_is = sym (ap (λ (x : VersionRow). x.vector) version.same);
        size_is = sym (ap (λ (x : VersionRow). x.size) version.same);
        wanted = wanted;
        holds = holds;
      }

      by_holder : (o : Option ℕ) → chosen_site f.me f.me (holders_of r v.stamp) ≡ o → Every (PacketFact c trace) (notices_of f t.group r v o)
      by_holder None e = tt
      by_holder (Some holder) e = each (lagging f r (holders_of r v.stamp)) (lagging_wanted f r (holders_of r v.stamp))
        where
          each : (xs : List ℕ) → Every (λ (s : ℕ). has r.set s ≡ true) xs → Every (PacketFact c trace) (map (notice f t.group r v holder) xs)
          each [] h = tt
          each (x ∷ xs) h = (notify x holder h.0 (holder_has holder (chosen_among f.me f.me (holders_of r v.stamp) holder e)), each xs h.1)

    by_kept : (vs : List VersionRow) → r.kept ≡ vs → Every (PacketFact c trace) (notices_by f t.group r vs)
    by_kept [] e = tt
    by_kept (v ∷ []) e = by_holder v e (chosen_site f.me f.me (holders_of r v.stamp)) refl
    by_kept (v ∷ w ∷ others) e = tt

    pub row_notices_fine : Every (PacketFact c trace) (file_notices f t.group r)
    row_notices_fine = by_kept r.kept refl

  all_notices : (rs : List FileRow) → Every (FileFact c trace f.epoch t.group) rs → Every (λ (r : FileRow). file_row t r.ino ≡ Some r) rs → Every (PacketFact c trace) (flat_map (file_notices f t.group) rs)
  all_notices [] facts found = tt
  all_notices (r ∷ rs) facts found = every_append (PacketFact c trace) (file_notices f t.group r) (flat_map (file_notices f t.group) rs) (row_notices_fine r facts.0 found.0) (all_notices rs facts.1 found.1)

  pub notices_fine : Every (PacketFact c trace) (notices f t)
  notices_fine = all_notices t.files k.rows (rows_found t.files k.rise)

-- what a synchronization site sends again at a tick is so
pub repeats_fine : (c : Config) (trace : List Line) (f : Frame) (t : SyncTable) → TableFact c trace f t → Every (PacketFact c trace) (sync_repeats f t)
repeats_fine c trace f t k = over t.started refl
  where
    over : (b : Bool) → t.started ≡ b → Every (PacketFact c trace) (cond b (notices f t) [])
    over true e = notices_fine c trace f t k e
    over false e = tt
