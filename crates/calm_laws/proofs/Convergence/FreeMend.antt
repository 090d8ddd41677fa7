-- A mend of a file that is at rest waits only at a site that holds the file's only kept version: it starts where the file is flagged, or its
-- site's own pack has that version.
use Rattle.std.proofs.Common.{Bool, List, None, Option, Some, [], ap, false, map, refl, subst, sym, true, ℕ, ◌∙◌, ◌∷◌, ◌≡◌}
use Rattle.call_rules.specs.declared.want.Want.TheVariants as want
use Rattle.calm_laws.proofs.Lists.{every_among}
use Rattle.calm_laws.specs.Carrying.{IsMember, frame_of}
use Rattle.commit_graph.proofs.Names.{same_stamp_eq}
use Rattle.commit_graph.specs.Versions.{same_stamp}
use Rattle.calm_laws.proofs.Convergence.FreeUsers.{IsWanted}
use Rattle.calm_laws.proofs.Convergence.Midst.{Midst, same_low}
use Rattle.calm_laws.proofs.Convergence.Resting.{RestsBy}
use Rattle.calm_laws.specs.Convergence.Offers.{is_above}
use Rattle.locus_ids.specs.declared.config.Config.{Config}
use Rattle.locus_ids.specs.declared.ids.FileId.{FileId}
use Rattle.locus_ids.specs.declared.ids.Stamp.{Stamp}
use Rattle.tree_laws.proofs.Orders.Standing.{same_file_eq}
use Rattle.tree_laws.proofs.Syncs.Notices.{rows_found}
use Rattle.store_laws.specs.OneTree.Places.{InsideFact}
use Rattle.role_steps.proofs.of_plain_facts.Tests.{true_false}
use Rattle.role_steps.specs.Mends.{row_file, wants_mend_of, wants_rescue_in, wants_rescue_of}
use Rattle.role_steps.specs.Storage.{copy_of}
use Rattle.role_steps.specs.Tables.{row}
use Rattle.role_steps.specs.Versions.{file_row, kept, row_ino}
use Rattle.role_steps.specs.Views.{SiteView}
use Rattle.role_steps.specs.declared.copies.FileCopy.{FileCopy}
use Rattle.role_steps.specs.declared.rounds.InEpoch.{InEpoch}
use Rattle.role_steps.specs.declared.synchronizing.FileRow.{FileRow}
use Rattle.role_steps.specs.declared.synchronizing.SyncTable.{SyncTable}
use Rattle.role_steps.specs.declared.synchronizing.VersionRow.{VersionRow}
use Rattle.the_run.specs.Worlds.{Running, World, place_at}
use Rattle.tree_laws.specs.Instances.{IsStarted}
use Rattle.tree_laws.specs.Printed.{entries}
use Rattle.tree_laws.specs.Tables.{FilesFact, StartedFiles, TableFact, row_stamp}
use Rattle.tree_model.specs.Tree.{kept_in}

pub wanted_low : (c : Config) (e : InEpoch) (w : World) (k : Midst c e w) (file : FileId) (v : VersionRow) (s : ℕ) → RestsBy c e file v s w.trace → IsMember e s → (u : SiteView) → place_at w s ≡ Some (Running u) → IsWanted u u.tables file → is_above v.vector (copy_of u.store file) ≡ false
wanted_low c e w k file v s rests member u here want = by_kept r.kept kept_one wants
  where
    inside : InsideFact c (frame_of c e s) w.trace u
    inside = k.site s u member here

    t : SyncTable
    t = want.table

    r : FileRow
    r = want.file_known

    is_file : row_file t r ≡ file
    is_file = same_file_eq (row_file t r) file want.same

    table : TableFact c w.trace (frame_of c e s) t
    table = every_among (TableFact c w.trace (frame_of c e s)) t u.tables want.there inside.tables

    started : t.started ≡ true
    started = table.started ∙ subst (λ (f : FileId). IsStarted c w.trace e.id f.group) (sym is_file) rests.started

    files : StartedFiles c w.trace (frame_of c e s) t
    files = subst (FilesFact c w.trace (frame_of c e s) t) started table.files

    found : file_row t r.ino ≡ Some r
    found = every_among (λ (q : FileRow). row row_ino q.ino t.files ≡ Some q) r t.files want.is_row (rows_found t.files table.rise)

    kept_one : map row_stamp r.kept ≡ v.stamp ∷ []
    kept_one = ap (λ (o : Option FileRow). map row_stamp (kept o)) (sym found) ∙ (files.kept_is r.ino ∙ (ap (λ (f : FileId). kept_in c (entries w.trace) e.id f) is_file ∙ rests.kept.only))

    wants : wants_mend_of u t file r.kept ≡ true
    wants = subst (λ (f : FileId). wants_mend_of u t f r.kept ≡ true) is_file want.wants

    none_one : (x : Stamp) → ◌≡◌ {A = List Stamp} [] (x ∷ []) → ⊥
    none_one x q = cc

    more_one : (x y z : Stamp) (xs : List Stamp) → ◌≡◌ {A = List Stamp} (x ∷ y ∷ xs) (z ∷ []) → ⊥
    more_one x y z xs q = cc

    head_same : (x y : Stamp) → ◌≡◌ {A = List Stamp} (x ∷ []) (y ∷ []) → x ≡ y
    head_same x y q = cc

    by_copy : (stamp : Stamp) → stamp ≡ v.stamp → (o : Option FileCopy) → copy_of u.store file ≡ o → wants_rescue_of t stamp o ≡ true → is_above v.vector (copy_of u.store file) ≡ false
    by_copy stamp is None eq q = absurd (true_false (sym q))
    by_copy stamp is (Some x) eq q = same_low c e w k file v s rests member u x here eq (same_stamp_eq x.stamp stamp (by_stamp (same_stamp x.stamp stamp) q) ∙ is)
      where
        by_stamp : (b : Bool) → (elim b as (λ (z : Bool). Bool) [ true ↦ wants_rescue_in t x.content | false ↦ false ]) ≡ true → b ≡ true
        by_stamp true z = refl
        by_stamp false z = absurd (true_false (sym z))

    by_kept : (vs : List VersionRow) → map row_stamp vs ≡ v.stamp ∷ [] → wants_mend_of u t file vs ≡ true → is_above v.vector (copy_of u.store file) ≡ false
    by_kept [] q z = absurd (none_one v.stamp q)
    by_kept (x ∷ []) q z = by_copy x.stamp (head_same x.stamp v.stamp q) (copy_of u.store file) refl z
    by_kept (x ∷ y ∷ ys) q z = absurd (more_one x.stamp y.stamp v.stamp (map row_stamp ys) q)
