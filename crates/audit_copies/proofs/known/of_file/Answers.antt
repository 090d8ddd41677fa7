use Rattle.std.proofs.Common.{sym, ap, ◌∙◌}
use Rattle.audit_copies.specs.Files.{is_file_at}
use Rattle.audit_copies.proofs.ByFile.{at_within, copies_at, copies_nowhere}
use Rattle.audit_copies.proofs.known.of_file.Goals as goal

pub bounds-files-place : goal.bounds-files-place
bounds-files-place c = at_within c.args.files.now c.place_of-place.result c.args.file (sym c.is_at.ensures ∙ c.if-is_at.true)

pub returns-then-is_at : goal.returns-then-is_at
returns-then-is_at c =
    c.as_slice.ensures
    ∙ copies_at c.args.file c.args.files.now c.place_of-place.result c.index-files-place.result (c.place_of-place.ensures.count c.requires) c.index-files-place.is (sym c.is_at.ensures ∙ c.if-is_at.true)

pub returns-else-is_at : goal.returns-else-is_at
returns-else-is_at c =
    copies_nowhere c.args.file c.args.files.now c.requires
    (ap (λ j. is_file_at c.args.files.now j c.args.file) (sym (c.place_of-place.ensures.count c.requires)) ∙ (sym c.is_at.ensures ∙ c.if-is_at.false))
