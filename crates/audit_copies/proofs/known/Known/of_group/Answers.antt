use Rattle.std.proofs.Common.{◌==◌, ◌+◌, ◌++◌, ◌<◌, ◌∙◌, List, drop, filter, sym, ap, subst, append-nil, arith}
use Rattle.locus_ids.specs.declared.ids.FileId.{FileId}
use Rattle.past_laws.specs.of_promises.Past.{Copy}
use Rattle.audit_copies.specs.Files.{AreByFile, FileCopies, all_copies}
use Rattle.audit_copies.proofs.ByFile.{group_ends, group_from, group_on}
use Rattle.audit_copies.proofs.known.Known.of_group.Goals as goal

pub loop-place-init : goal.loop-place-init
loop-place-init c =
    let fs : List FileCopies = c.as_slice-files.result.now in
    let order : AreByFile fs = subst AreByFile (sym c.as_slice-files.ensures.value) c.self.invariant in
    ap (λ (made : List Copy). made ++ filter (λ (v : Copy). v.file.group == c.args.group) (all_copies (drop c.place_of-place.result fs))) c.new-made.ensures
    ∙ group_from c.args.group fs c.place_of-place.result order (c.place_of-place.ensures.count order)

pub returns-then-group-file : goal.returns-then-group-file
returns-then-group-file c =
    let fs : List FileCopies = c.as_slice-files.result.now in
    let order : AreByFile fs = subst AreByFile (sym c.as_slice-files.ensures.value) c.self.invariant in
    let above = subst (λ (f : FileId). c.args.group < f.group) c.file.ensures c.if-group-file.true in
    sym (append-nil c.loop-place.made)
    ∙ (ap (λ (more : List Copy). c.loop-place.made ++ more) (sym (group_ends c.args.group fs c.loop-place.place c.index-files-place.result c.loop-place-test.true c.index-files-place.is order above))
    ∙ (c.loop-place.invariant
    ∙ (ap (λ (gs : List FileCopies). filter (λ (v : Copy). v.file.group == c.args.group) (all_copies gs)) c.as_slice-files.ensures.value
    ∙ ap (filter (λ (v : Copy). v.file.group == c.args.group)) c.self.view_is)))

pub loop-place-preserved : goal.loop-place-preserved
loop-place-preserved c =
    let fs : List FileCopies = c.as_slice-files.result.now in
    let order : AreByFile fs = subst AreByFile (sym c.as_slice-files.ensures.value) c.self.invariant in
    group_on c.args.group fs c.loop-place.place (c.loop-place.place + 1) c.index-files-place.result c.loop-place.made c.add_of_group.new.made
    (filter (λ (v : Copy). v.file.group == c.args.group) (all_copies fs)) c.loop-place-test.true (omega arith) c.index-files-place.is order c.in_ok-add_of_group.ensures c.loop-place.invariant
