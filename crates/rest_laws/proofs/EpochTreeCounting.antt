-- A report that counts: the rows of a table stay what the trace has of their files.
use Rattle.std.proofs.Common.{◌≡◌, ℕ, Bool, true, false, not, List, [], ◌∷◌, Option, Some, None, refl, sym, ◌∙◌, ap, subst, inl, inr}
use Rattle.role_steps.proofs.of_plain_facts.Options.{some_same}
use Rattle.locus_ids.specs.declared.config.Config.{Config}
use Rattle.locus_ids.specs.declared.ids.EpochId.{EpochId}
use Rattle.wire_messages.specs.declared.body.ReportedCopy.{ReportedCopy}
use Rattle.role_steps.specs.Own.{Every}
use Rattle.role_steps.specs.Reports.{version_reported, with_all_reported, with_report, with_reported}
use Rattle.role_steps.specs.Tables.{with_row}
use Rattle.role_steps.specs.Versions.{file_row, holding_site, is_below, is_below_some, known_or, not_below, row_ino, unknown_file, version_key, with_holder, with_kept, with_version}
use Rattle.role_steps.specs.declared.synchronizing.FileRow.{FileRow}
use Rattle.role_steps.specs.declared.synchronizing.Holding.{Holding}
use Rattle.role_steps.specs.declared.synchronizing.SyncTable.{SyncTable}
use Rattle.role_steps.specs.declared.synchronizing.VersionRow.{VersionRow}
use Rattle.the_run.specs.Kept.{Among}
use Rattle.the_run.specs.Worlds.{Line}
use Rattle.the_run.proofs.InsideSync.{every_row}
use Rattle.tree_model.specs.Files.{HeldVersion, kind_of_file, set_of_file}
use Rattle.tree_model.specs.Histories.{history}
use Rattle.tree_laws.specs.Instances.{Stands, held_in}
use Rattle.tree_laws.specs.Packets.{ReportedNow, file_in}
use Rattle.tree_laws.specs.Printed.{entries}
use Rattle.tree_laws.specs.Stores.{Ascends}
use Rattle.tree_laws.specs.Tables.{AreRising, FileFact, HasHolder, HoldingFact, IsOrderly, VersionFact}
use Rattle.tree_laws.proofs.Boots.{every_both, every_filter}
use Rattle.store_laws.proofs.Holdings.Ancestors.{ancestor_own}
use Rattle.store_laws.proofs.Tabled.{ascends_row, row_found}
use Rattle.store_laws.proofs.of_row_laws.CallRows.Rising.{key_case, put_keeps, put_there}
use Rattle.store_laws.proofs.of_tree_laws.Syncs.Orderly.{holder_orderly, version_orderly, version_there}
use Rattle.store_laws.specs.OneTree.Rest.{Past}
use Rattle.store_laws.proofs.OneTree.ToldVectorOnly.{only_version}
use Rattle.rest_laws.specs.EpochTreeCounting.{IsNotedRight, RowsSo}

-- ---- rows in order ----

rises : (rs : List FileRow) → Ascends row_ino rs → AreRising rs
rises [] k = tt
rises (r ∷ rs) k = (k.0, rises rs k.1)

ascends : (rs : List FileRow) → AreRising rs → Ascends row_ino rs
ascends [] k = tt
ascends (r ∷ rs) k = (k.0, ascends rs k.1)

pub rising_row : (r : FileRow) (rs : List FileRow) → AreRising rs → AreRising (with_row row_ino r rs)
rising_row r rs k = rises (with_row row_ino r rs) (ascends_row row_ino r rs (ascends rs k))

every_kept : (P : VersionRow → Type 0) (v : VersionRow) (others : List VersionRow) → P v → Every P others → Every P (with_kept v others)
every_kept P v others p h = over (is_below_some v others)
  where
    over : (b : Bool) → Every P (elim b as (λ (z : Bool). List VersionRow) [ true ↦ others | false ↦ with_row version_key v (not_below v others) ])
    over true = h
    over false = every_row P version_key v (not_below v others) p (every_filter P (λ (w : VersionRow). not (is_below w.vector v.vector)) others h)

-- ---- one copy ----

module _ (c : Config) (trace : List Line) (e : EpochId) (g from : ℕ) (past : Past c trace) where
  abbrev Right : FileRow → Type 0
  Right r = IsNotedRight c trace e g from r

  abbrev Rows : SyncTable → Type 0
  Rows t = RowsSo c trace e g from t

  -- a row as it is before a copy of its file is counted: one that stands, or that of a file of which nothing is known
  record RowSo (r : FileRow) : Type 0 where
    kind_is : r.kind ≡ kind_of_file c (entries trace) (file_in g r.ino)
    set_is : r.set ≡ set_of_file c (entries trace) (file_in g r.ino)
    versions : Every (VersionFact c trace (file_in g r.ino)) r.versions
    keeps : Every (VersionFact c trace (file_in g r.ino)) r.kept
    holders : Every (HoldingFact c trace e (file_in g r.ino)) r.holders
    held : Every (HasHolder r) r.kept
    orderly : IsOrderly r
    right : Right r

  module _ (x : ReportedCopy) (told : ReportedNow c trace e from g x) where
    stamp_is : x.stamp ≡ told.version.stamp
    stamp_is = ap (λ (y : ReportedCopy). y.stamp) told.same

    holds : held_in c (entries trace) e from (file_in g x.ino) ≡ Some x.stamp
    holds = told.held ∙ ap Some (sym stamp_is)

    version_fact : VersionFact c trace (file_in g x.ino) (version_reported x)
    version_fact = record { version = told.version; is_version = told.is_version; same = ap version_reported told.same }

    holding_fact : HoldingFact c trace e (file_in g x.ino) (record { site = from; stamp = x.stamp })
    holding_fact = record { now = x.stamp; held = holds; above = ancestor_own (history c (entries trace)) (file_in g x.ino) x.stamp }

    unknown_so : RowSo (unknown_file x.ino x.kind x.set)
    unknown_so = record {
      kind_is = ap (λ (y : ReportedCopy). y.kind) told.same ∙ ap (λ (y : HeldVersion). y.kind) told.is_version.same;
      set_is = ap (λ (y : ReportedCopy). y.set) told.same ∙ ap (λ (y : HeldVersion). y.set) told.is_version.same;
      versions = tt;
      keeps = tt;
      holders = tt;
      held = tt;
      orderly = record { ascends = tt; keeps = refl; names = tt; sites = tt };
      right = tt;
    }

    abbrev counted : FileRow → FileRow
    counted r = with_holder from x.stamp (with_version (version_reported x) r)

    -- a kept version has its holder still
    holder_stays : (r : FileRow) → r.ino ≡ x.ino → RowSo r → (w : VersionRow) (h : Holding) → Among h r.holders → h.stamp ≡ w.stamp → (h.site ≡ from → held_in c (entries trace) e from (file_in g r.ino) ≡ Some h.stamp) → HasHolder (counted r) w
    holder_stays r same so w h among is right = key_case (HasHolder (counted r) w) h.site from
        (λ k. (record { site = from; stamp = x.stamp }, put_there holding_site (record { site = from; stamp = x.stamp }) r.holders, some_same x.stamp h.stamp (sym holds ∙ (ap (λ (i : ℕ). held_in c (entries trace) e from (file_in g i)) (sym same) ∙ right k)) ∙ is))
        (λ k. (h, put_keeps holding_site (record { site = from; stamp = x.stamp }) r.holders h among k, is))

    found_right : (r : FileRow) → (hs : List Holding) → Every (λ (h : Holding). h.site ≡ from → held_in c (entries trace) e from (file_in g r.ino) ≡ Some h.stamp) hs → (h : Holding) → Among h hs → h.site ≡ from → held_in c (entries trace) e from (file_in g r.ino) ≡ Some h.stamp
    found_right r [] all h m k = absurd m
    found_right r (y ∷ ys) all h (inl p) k = subst (λ (z : Holding). held_in c (entries trace) e from (file_in g r.ino) ≡ Some z.stamp) (sym p) (all.0 (subst (λ (z : Holding). z.site ≡ from) p k))
    found_right r (y ∷ ys) all h (inr m) k = found_right r ys all.1 h m k

    held_stays : (r : FileRow) → r.ino ≡ x.ino → RowSo r → Every (HasHolder (counted r)) (with_kept (version_reported x) r.kept)
    held_stays r same so = every_kept (HasHolder (counted r)) (version_reported x) r.kept
        (record { site = from; stamp = x.stamp }, put_there holding_site (record { site = from; stamp = x.stamp }) r.holders, refl)
        (every_both (HasHolder r) (HasHolder (counted r)) r.kept (λ w k. holder_stays r same so w k.0 k.1 k.2 (found_right r r.holders so.right k.0 k.1)) so.held)

    row_counted : (r : FileRow) → r.ino ≡ x.ino → RowSo r → FileFact c trace e g (counted r) × Right (counted r)
    row_counted r same so = (
      record {
        some = told.version.stamp;
        stands = subst (λ (i : ℕ). Stands c trace (file_in g i) told.version.stamp) (sym same) told.is_version.stands;
        kind_is = so.kind_is;
        set_is = so.set_is;
        versions = every_row (VersionFact c trace (file_in g r.ino)) version_key (version_reported x) r.versions here so.versions;
        keeps = every_kept (VersionFact c trace (file_in g r.ino)) (version_reported x) r.kept here so.keeps;
        holders = every_row (HoldingFact c trace e (file_in g r.ino)) holding_site (record { site = from; stamp = x.stamp }) r.holders (subst (λ (i : ℕ). HoldingFact c trace e (file_in g i) (record { site = from; stamp = x.stamp })) (sym same) holding_fact) so.holders;
        held = held_stays r same so;
        orderly = holder_orderly from x.stamp (with_version (version_reported x) r) (version_orderly (version_reported x) r so.orderly (only_version c trace (file_in g r.ino) past (version_reported x) r.versions here so.versions)) (version_reported x, version_there (version_reported x) r, refl);
      },
      every_row (λ (h : Holding). h.site ≡ from → held_in c (entries trace) e from (file_in g r.ino) ≡ Some h.stamp) holding_site (record { site = from; stamp = x.stamp }) r.holders (λ k. subst (λ (i : ℕ). held_in c (entries trace) e from (file_in g i) ≡ Some x.stamp) (sym same) holds) so.right,
    )
      where
        here : VersionFact c trace (file_in g r.ino) (version_reported x)
        here = subst (λ (i : ℕ). VersionFact c trace (file_in g i) (version_reported x)) (sym same) version_fact

  -- ---- all copies ----

  so_of : (r : FileRow) → FileFact c trace e g r → Right r → RowSo r
  so_of r k right = record { kind_is = k.kind_is; set_is = k.set_is; versions = k.versions; keeps = k.keeps; holders = k.holders; held = k.held; orderly = k.orderly; right = right }

  one_counted : (x : ReportedCopy) → ReportedNow c trace e from g x → (t : SyncTable) → Rows t → Rows (with_reported from x t)
  one_counted x told t k = over (file_row t x.ino) refl
    where
      put : (r : FileRow) → FileFact c trace e g r × Right r → Rows (record t { files = with_row row_ino r t.files })
      put r h = record { rows = every_row (FileFact c trace e g) row_ino r t.files h.0 k.rows; right = every_row Right row_ino r t.files h.1 k.right; rise = rising_row r t.files k.rise }

      over : (o : Option FileRow) → file_row t x.ino ≡ o → Rows (record t { files = with_row row_ino (with_holder from x.stamp (with_version (version_reported x) (known_or (unknown_file x.ino x.kind x.set) o))) t.files })
      over None q = put _ (row_counted x told (unknown_file x.ino x.kind x.set) refl (unknown_so x told))
      over (Some r) q = put _ (row_counted x told r (row_found row_ino x.ino t.files r (FileFact c trace e g) q k.rows).1 (so_of r (row_found row_ino x.ino t.files r (FileFact c trace e g) q k.rows).0 (row_found row_ino x.ino t.files r Right q k.right).0))

  all_counted : (xs : List ReportedCopy) → Every (ReportedNow c trace e from g) xs → (t : SyncTable) → Rows t → Rows (with_all_reported from xs t)
  all_counted [] told t k = k
  all_counted (x ∷ xs) told t k = all_counted xs told.1 (with_reported from x t) (one_counted x told.0 t k)

  pub report_rows : (xs : List ReportedCopy) → Every (ReportedNow c trace e from g) xs → (t : SyncTable) → Rows t → Rows (with_report from xs t)
  report_rows xs told t k = all_counted xs told _ (record { rows = k.rows; right = k.right; rise = k.rise })
