use Rattle.std.proofs.Common.{filter, ap, ◌∙◌}
use Rattle.std.specs.List.{list_any}
use Rattle.locus_ids.specs.declared.ids.FileId.{FileId}
use Rattle.commit_graph.specs.Versions.{same_file}
use Rattle.past_laws.specs.of_promises.Past.{Copy}
use Rattle.audit_copies.specs.Below.{is_version_of}
use Rattle.audit_copies.proofs.ByFile.{any_of_file}
use Rattle.audit_copies.proofs.known.Known.has.Goals as goal

pub returns : goal.returns
returns c =
    c.has_copy.ensures
    ∙ (ap (list_any (is_version_of c.args.copy)) c.of_file.ensures.found
    ∙ (ap (λ (f : FileId). list_any (is_version_of c.args.copy) (filter (λ (v : Copy). same_file v.file f) c.args.self.now)) (ap (λ (v : Copy). v.file) c.copy.view_is)
    ∙ any_of_file c.args.copy c.args.self.now))
