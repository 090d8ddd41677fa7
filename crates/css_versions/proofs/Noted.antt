-- What is known of a holder once a site tells what it holds.
use Rattle.std.proofs.Common.{◌≡◌, ℕ, List, Option, None, set, ap, ◌∙◌, sym}
use Rattle.locus_ids.specs.declared.ids.Stamp.{Stamp}
use Rattle.role_steps.specs.Versions.{noted}
use Rattle.role_steps.specs.Versions.{row_ino}
use Rattle.role_steps.specs.Tables.{row, with_row}
use Rattle.role_steps.specs.declared.synchronizing.FileRow.{FileRow}
use Rattle.keyed_tables.proofs.Searched.{put_over}
use Rattle.css_versions.specs.Known.{noted_rows}
use Rattle.css_versions.proofs.Changed.{Placed}

-- ---- in the table of files ----

pub noted_at_place : (from : ℕ) (stamp : Stamp) (k : ℕ) (xs : List FileRow) (i : ℕ) (old new : FileRow) → Placed row_ino k xs i old → row_ino new ≡ row_ino old → new ≡ noted from stamp old → set xs i new ≡ noted_rows from stamp (row row_ino k xs) xs
noted_at_place from stamp k xs i old new p same e =
    sym (put_over row_ino new xs i old p.rising p.at (sym same))
    ∙ (ap (λ (r : FileRow). with_row row_ino r xs) e ∙ ap (λ (o : Option FileRow). noted_rows from stamp o xs) (sym p.found))

pub noted_nowhere : (from : ℕ) (stamp : Stamp) (k : ℕ) (seen xs : List FileRow) → seen ≡ xs → row row_ino k seen ≡ None → xs ≡ noted_rows from stamp (row row_ino k xs) xs
noted_nowhere from stamp k seen xs same e = ap (λ (o : Option FileRow). noted_rows from stamp o xs) (sym e ∙ ap (row row_ino k) same)
