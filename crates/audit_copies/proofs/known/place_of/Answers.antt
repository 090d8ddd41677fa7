use Rattle.std.proofs.Common.{rules, of_calls, Bool}
use Rattle.std.proofs.lemmas.Fn.{always_returns_same}
use Rattle.audit_copies.specs.Below.{is_file_below}
use Rattle.audit_copies.specs.Files.{FileCopies}
use Rattle.audit_copies.proofs.ByFile.{count_so}
use Rattle.audit_copies.proofs.known.place_of.Goals as goal

pub returns-clause-count : goal.returns-clause-count
returns-clause-count c =
    let p : FileCopies → Bool = λ g. is_file_below g.file c.args.file in
    let key = always_returns_same _ _ _ (λ a r f k. search (rules, of_calls)) in
    λ order. count_so c.args.file c.args.files.now c.partition_point.result c.partition_point.ensures.bound (c.partition_point.ensures.partitioned p key) order
