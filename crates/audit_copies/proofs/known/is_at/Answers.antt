use Rattle.std.proofs.Common.{ap, ◌∙◌, arith}
use Rattle.locus_ids.specs.declared.ids.FileId.{FileId}
use Rattle.commit_graph.specs.Versions.{same_file}
use Rattle.audit_copies.proofs.ByFile.{at_beyond, at_there}
use Rattle.audit_copies.proofs.known.is_at.Goals as goal

pub returns-then-files-place : goal.returns-then-files-place
returns-then-files-place c = at_beyond c.args.files.now c.args.place c.args.file (omega arith)

pub returns : goal.returns
returns c =
    c.is_same.ensures
    ∙ (ap (λ (g : FileId). same_file g c.args.file) c.file.ensures
    ∙ at_there c.args.files.now c.args.place c.args.file c.index-files-place.result (omega arith) c.index-files-place.is)
