use Rattle.std.proofs.Common.{◌≡◌, List, false, sym, ap, ◌∙◌, subst}
use Rattle.locus_ids.specs.declared.ids.FileId.{FileId}
use Rattle.past_laws.specs.of_promises.Past.{Copy}
use Rattle.audit_copies.specs.Files.{AreByFile, FileCopies, file_count, is_file_at}
use Rattle.audit_copies.proofs.ByFile.{put_beside}
use Rattle.audit_copies.proofs.known.note_in.Goals as goal

pub returns-clause-ok : goal.returns-clause-ok
returns-clause-ok c =
    let fs : List FileCopies = c.args.files.now.items in
    let own : c.copy.inside.file ≡ c.args.copy.file = ap (λ (v : Copy). v.file) c.copy.view_is in
    let order : AreByFile c.as_slice.result.now = subst AreByFile (sym c.as_slice.ensures.value) c.requires in
    let count : c.place_of-place.result ≡ file_count c.args.copy.file fs = c.place_of-place.ensures.count order ∙ (ap (file_count c.copy.inside.file) c.as_slice.ensures.value ∙ ap (λ (f : FileId). file_count f fs) own) in
    let nowhere : is_file_at fs c.place_of-place.result c.args.copy.file ≡ false =
    ap (is_file_at fs c.place_of-place.result) (sym own)
    ∙ (ap (λ (gs : List FileCopies). is_file_at gs c.place_of-place.result c.copy.inside.file) (sym c.as_slice-2.ensures.value) ∙ (sym c.is_at.ensures ∙ c.if-is_at.false)) in
    put_beside c.args.copy fs c.insert.new.self.items c.place_of-place.result c.in_ok-rows.rows nowhere count c.in_ok-rows.ensures c.in_ok-insert.ensures.items
