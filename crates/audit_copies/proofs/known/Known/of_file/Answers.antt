use Rattle.std.proofs.Common.{List, map, filter, sym, ap, ◌∙◌, subst}
use Rattle.commit_graph.specs.Versions.{is_stamp_below, same_file}
use Rattle.past_laws.specs.of_promises.Past.{Copy}
use Rattle.past_laws.specs.of_promises.After.{is_copy_below}
use Rattle.past_laws.specs.Agreement.{ascends}
use Rattle.audit_copies.specs.Files.{AreByFile, FileCopies, all_copies}
use Rattle.audit_copies.proofs.ByFile.{file_so, file_up, stamps_up}
use Rattle.audit_copies.proofs.known.Known.of_file.Goals as goal

order : (c : goal.After-of_file) → AreByFile c.as_slice.result.now
order c = subst AreByFile (sym c.as_slice.ensures.value) c.self.invariant

pub returns-clause-found : goal.returns-clause-found
returns-clause-found c =
    c.of_file.ensures
    ∙ (file_so c.args.file c.as_slice.result.now (order c)
    ∙ (ap (λ (fs : List FileCopies). filter (λ (v : Copy). same_file v.file c.args.file) (all_copies fs)) c.as_slice.ensures.value
    ∙ ap (filter (λ (v : Copy). same_file v.file c.args.file)) c.self.view_is))

pub returns-clause-up : goal.returns-clause-up
returns-clause-up c = ap (ascends is_copy_below) c.of_file.ensures ∙ file_up c.args.file c.as_slice.result.now (order c)

pub returns-clause-stamps : goal.returns-clause-stamps
returns-clause-stamps c =
    ap (λ (vs : List Copy). ascends is_stamp_below (map (λ (v : Copy). v.stamp) vs)) c.of_file.ensures ∙ stamps_up c.args.file c.as_slice.result.now (order c)
