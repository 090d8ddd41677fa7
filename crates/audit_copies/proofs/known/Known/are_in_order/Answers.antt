use Rattle.std.proofs.Common.{filter}
use Rattle.commit_graph.specs.Versions.{same_file}
use Rattle.past_laws.specs.of_promises.Past.{Copy}
use Rattle.audit_copies.proofs.Tops.{numbers_are}
use Rattle.audit_copies.proofs.known.Known.are_in_order.Goals as goal

pub returns : goal.returns
returns c =
    numbers_are c.are_numbered.result c.of_file.result.now (filter (λ (v : Copy). same_file v.file c.args.file) c.args.self.now)
    c.of_file.ensures.stamps c.of_file.ensures.found c.are_numbered.ensures
