use Rattle.std.proofs.Common.{◌≡◌, List, true, sym, ap, ◌∙◌}
use Rattle.locus_ids.specs.declared.ids.FileId.{FileId}
use Rattle.past_laws.specs.of_promises.Past.{Copy}
use Rattle.past_laws.specs.of_promises.After.{is_copy_below, with_known}
use Rattle.past_laws.specs.Agreement.{ascends}
use Rattle.audit_copies.specs.Files.{FileCopies}
use Rattle.audit_copies.proofs.Noting.{noted_old, noted_new}
use Rattle.audit_copies.proofs.file_rows.FileRows.note.Goals as goal

abbrev of : FileId → List Copy → FileCopies
of file copies = record { file = file; copies = copies }

pub returns-then-is_there-clause-ok : goal.returns-then-is_there-clause-ok
returns-then-is_there-clause-ok c =
    let shown : c.self.inside.rows.items ≡ c.args.self.now.copies = ap (λ (f : FileCopies). f.copies) c.self.view_is in
    let up : ascends is_copy_below c.self.inside.rows.items ≡ true = ap (ascends is_copy_below) shown ∙ c.requires in
    ap (of c.args.self.now.file)
    (noted_old c.args.copy c.args.self.now.copies c.self.inside.rows.items c.as_slice-rows.result.now c.place_of-place.result
    shown c.as_slice-rows.ensures.value up c.place_of-place.ensures.split (sym c.is_there.ensures ∙ c.if-is_there.true))

pub returns-clause-ok : goal.returns-clause-ok
returns-clause-ok c =
    let shown : c.self.inside.rows.items ≡ c.args.self.now.copies = ap (λ (f : FileCopies). f.copies) c.self.view_is in
    let up : ascends is_copy_below c.self.inside.rows.items ≡ true = ap (ascends is_copy_below) shown ∙ c.requires in
    ap (of c.self.inside.file)
    (noted_new c.args.copy c.args.self.now.copies c.self.inside.rows.items c.as_slice-rows.result.now c.insert.new.self.items c.place_of-place.result
    shown c.as_slice-rows.ensures.value up c.place_of-place.ensures.split (sym c.is_there.ensures ∙ c.if-is_there.false) c.in_ok-insert.ensures.items)
    ∙ ap (λ (f : FileCopies). of f.file (with_known c.args.copy c.args.self.now.copies)) c.self.view_is
