-- What a synchronization site knows of files, whom it notifies, and whom it chooses.
use Rattle.std.proofs.Common.{◌≡◌, ◌<◌, ◌^◌, ℕ, ◌==◌, Bool, true, false, cond, not, ◌||◌, List, [], ◌∷◌, filter, Option, None, Some, refl, subst, arith}
use Rattle.std.proofs.lemmas.Bool.Decides.{nat_tests}
use Rattle.std.specs.List.{flat_map}
use Rattle.locus_ids.specs.declared.ids.Kind.{Kind}
use Rattle.locus_ids.specs.declared.ids.Stamp.{Stamp}
use Rattle.locus_ids.specs.declared.sites.Sites.{Sites}
use Rattle.commit_graph.specs.Versions.{same_stamp}
use Rattle.wire_fields.specs.Parts.{inodes, some_set, stamps}
use Rattle.wire_messages.specs.declared.body.Body.TheVariants as body
use Rattle.role_steps.specs.Own.{Every}
use Rattle.role_steps.specs.Notices.{file_notices, lagging, notice, notices_by, notices_of, row_notices}
use Rattle.role_steps.specs.Tables.{with_row}
use Rattle.role_steps.specs.Versions.{chosen_site, file_row, holders_of, holding_of, holding_site, is_among, is_below, is_below_some, known_or, not_below, noted, noted_at, noted_of, rises_to, row_ino, unknown_file, version_key, version_of, with_file, with_holder, with_kept, with_version}
use Rattle.role_steps.specs.Views.{Frame, first_site, members_of, stamp_key}
use Rattle.role_steps.specs.declared.synchronizing.FileRow.{FileRow}
use Rattle.role_steps.specs.declared.synchronizing.Holding.{Holding}
use Rattle.role_steps.specs.declared.synchronizing.SyncTable.{SyncTable}
use Rattle.role_steps.specs.declared.synchronizing.VersionRow.{VersionRow}
use Rattle.the_run.proofs.InsideSync.{Found, every_row, row_found}
use Rattle.packet_laws.specs.Fitting.Fields.{AreBoots}
use Rattle.packet_laws.proofs.Fitting.Lists.{every_kept}
use Rattle.packet_laws.specs.Values.Bodies.{IsListed}
use Rattle.packet_laws.specs.Values.Values.{FileFits, HolderFits, SentFits, TableFits, VersionFits}
use Rattle.packet_laws.proofs.Values.Fields.{every_flat, every_some, kind_fits, listed_fits, members_listed, one_fits}

-- ---- rows ----

pub found_file : (boots : List ℕ) (t : SyncTable) (ino : ℕ) → TableFits boots t → Found (FileFits boots) (file_row t ino)
found_file boots t ino h = row_found (FileFits boots) row_ino ino t.files h.files

pub with_file_fits : (boots : List ℕ) (r : FileRow) (t : SyncTable) → FileFits boots r → TableFits boots t → TableFits boots (with_file r t)
with_file_fits boots r t k h = record { group = h.group; early = h.early; files = every_row (FileFits boots) row_ino r t.files k h.files; opens = h.opens; looks = h.looks }

pub unknown_fits : (boots : List ℕ) (ino : ℕ) (k : Kind) (set : Sites) → inodes.Fits ino → some_set.Fits set → FileFits boots (unknown_file ino k set)
unknown_fits boots ino k set n s = record { ino = n; set = s; versions = tt; keeps = tt; holders = tt }

pub known_fits : (boots : List ℕ) (r : FileRow) (o : Option FileRow) → FileFits boots r → Found (FileFits boots) o → FileFits boots (known_or r o)
known_fits boots r None h found = h
known_fits boots r (Some q) h found = found

with_kept_fits : (v : VersionRow) (vs : List VersionRow) → VersionFits v → Every VersionFits vs → Every VersionFits (with_kept v vs)
with_kept_fits v vs h k = over (is_below_some v vs)
  where
    over : (b : Bool) → Every VersionFits (elim b as (λ (t : Bool). List VersionRow) [ true ↦ vs | false ↦ with_row version_key v (not_below v vs) ])
    over true = k
    over false = every_row VersionFits version_key v (not_below v vs) h (every_kept VersionFits (λ (w : VersionRow). not (is_below w.vector v.vector)) vs k)

pub with_version_fits : (boots : List ℕ) (v : VersionRow) (r : FileRow) → VersionFits v → FileFits boots r → FileFits boots (with_version v r)
with_version_fits boots v r k h = record { ino = h.ino; set = h.set; versions = every_row VersionFits version_key v r.versions k h.versions; keeps = with_kept_fits v r.kept k h.keeps; holders = h.holders }

pub with_holder_fits : (boots : List ℕ) (site : ℕ) (stamp : Stamp) (r : FileRow) → IsListed boots site → stamps.Fits stamp → FileFits boots r → FileFits boots (with_holder site stamp r)
with_holder_fits boots site stamp r listed s h = record { ino = h.ino; set = h.set; versions = h.versions; keeps = h.keeps; holders = every_row (HolderFits boots) holding_site (record { site = site; stamp = stamp }) r.holders (listed, s) h.holders }

noted_at_fits : (boots : List ℕ) (r : FileRow) (site : ℕ) (v : VersionRow) (o : Option Holding) → IsListed boots site → VersionFits v → FileFits boots r → FileFits boots (noted_at r site v o)
noted_at_fits boots r site v None listed k h = with_holder_fits boots site v.stamp r listed k.version.0 h
noted_at_fits boots r site v (Some g) listed k h = over (rises_to v (version_of r g.stamp))
  where
    over : (b : Bool) → FileFits boots (cond b (with_holder site v.stamp r) r)
    over true = with_holder_fits boots site v.stamp r listed k.version.0 h
    over false = h

noted_of_fits : (boots : List ℕ) (r : FileRow) (site : ℕ) (o : Option VersionRow) → IsListed boots site → Found VersionFits o → FileFits boots r → FileFits boots (noted_of r site o)
noted_of_fits boots r site None listed k h = h
noted_of_fits boots r site (Some v) listed k h = noted_at_fits boots r site v (holding_of r site) listed k h

pub noted_fits : (boots : List ℕ) (site : ℕ) (stamp : Stamp) (r : FileRow) → IsListed boots site → FileFits boots r → FileFits boots (noted site stamp r)
noted_fits boots site stamp r listed h = noted_of_fits boots r site (version_of r stamp) listed (row_found VersionFits version_key (stamp_key stamp) r.versions h.versions) h

-- ---- who is chosen ----

among_listed : (boots : List ℕ) (site : ℕ) (ss : List ℕ) → is_among site ss ≡ true → Every (IsListed boots) ss → IsListed boots site
among_listed boots site [] e h = absurd (cc)
among_listed boots site (s ∷ ss) e h = over (λ k. among_listed boots site ss k h.1) (s == site) refl e
  where
    same : (s == site) ≡ true → s ≡ site
    same q = grind (arith, nat_tests)

    over : (is_among site ss ≡ true → IsListed boots site) → (b : Bool) → (s == site) ≡ b → (b || is_among site ss) ≡ true → IsListed boots site
    over rest true q k = subst (IsListed boots) (same q) h.0
    over rest false q k = rest k

abbrev pub ListedIfAny : List ℕ → Option ℕ → Type 0
ListedIfAny boots None = Unit {0}
ListedIfAny boots (Some s) = IsListed boots s

first_listed : (boots ss : List ℕ) → Every (IsListed boots) ss → ListedIfAny boots (first_site ss)
first_listed boots [] h = tt
first_listed boots (s ∷ ss) h = h.0

pub chosen_listed : (boots : List ℕ) (us own : ℕ) (ss : List ℕ) → Every (IsListed boots) ss → ListedIfAny boots (chosen_site us own ss)
chosen_listed boots us own ss h = over (is_among us ss) refl (is_among own ss) refl
  where
    over : (a : Bool) → is_among us ss ≡ a → (b : Bool) → is_among own ss ≡ b → ListedIfAny boots (cond a (Some us) (cond b (Some own) (first_site ss)))
    over true e b g = among_listed boots us ss e h
    over false e true g = among_listed boots own ss g h
    over false e false g = first_listed boots ss h

pub holders_listed : (boots : List ℕ) (r : FileRow) (stamp : Stamp) → FileFits boots r → Every (IsListed boots) (holders_of r stamp)
holders_listed boots r stamp h = every_some (HolderFits boots) (IsListed boots) holding_site (filter (λ (x : Holding). same_stamp x.stamp stamp) r.holders) (λ x k. k.0) (every_kept (HolderFits boots) (λ (x : Holding). same_stamp x.stamp stamp) r.holders h.holders)

-- ---- notices ----

module _ (f : Frame) (fit : AreBoots f.members.boot) (group : ℕ) (low : group < 2 ^ 8) where
  notices_of_fit : (r : FileRow) (v : VersionRow) (o : Option ℕ) → ListedIfAny f.members.boot o → FileFits f.members.boot r → VersionFits v → Every (SentFits f.members.boot) (notices_of f group r v o)
  notices_of_fit r v None listed h k = tt
  notices_of_fit r v (Some holder) listed h k = every_some (IsListed f.members.boot) (SentFits f.members.boot) (notice f group r v holder) (lagging f r (holders_of r v.stamp))
      (λ to there. one_fits f to (body.Notify (record { group = group; ino = r.ino }) r.kind r.set v.size v.stamp v.vector holder) there ((low, h.ino), (kind_fits r.kind, (h.set, (k.size, (k.version, listed_fits f.members.boot holder fit listed))))) listed)
      (every_kept (IsListed f.members.boot) (λ (s : ℕ). not (is_among s (holders_of r v.stamp))) (members_of f.members r.set) (members_listed f r.set))

  notices_by_fit : (r : FileRow) (vs : List VersionRow) → FileFits f.members.boot r → Every VersionFits vs → Every (SentFits f.members.boot) (notices_by f group r vs)
  notices_by_fit r [] h k = tt
  notices_by_fit r (v ∷ []) h k = notices_of_fit r v (chosen_site f.me f.me (holders_of r v.stamp)) (chosen_listed f.members.boot f.me f.me (holders_of r v.stamp) (holders_listed f.members.boot r v.stamp h)) h k.0
  notices_by_fit r (v ∷ w ∷ others) h k = tt

  pub row_notices_fit : (o : Option FileRow) → Found (FileFits f.members.boot) o → Every (SentFits f.members.boot) (row_notices f group o)
  row_notices_fit None h = tt
  row_notices_fit (Some r) h = notices_by_fit r r.kept h h.keeps

  pub all_notices_fit : (rs : List FileRow) → Every (FileFits f.members.boot) rs → Every (SentFits f.members.boot) (flat_map (file_notices f group) rs)
  all_notices_fit rs h = every_flat (FileFits f.members.boot) (SentFits f.members.boot) (file_notices f group) rs (λ r k. notices_by_fit r r.kept k k.keeps) h
