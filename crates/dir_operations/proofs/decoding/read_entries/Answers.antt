use Rattle.std.proofs.Common.{◌<◌, length, ap, rules, arith}
use Rattle.std.proofs.lemmas.Result.{err_from_is_err_and}
use Rattle.dir_format.specs.Grammar.{entries_alone}
use Rattle.dir_operations.proofs.KindTable.{knows_more_after}
use Rattle.dir_operations.proofs.OneByOne.{starts, goes_on, ends_in_memory, stops, is_done, none_left, some_left}
use Rattle.dir_operations.proofs.decoding.read_entries.Goals as goal

pub loop-init : goal.loop-init
loop-init c = rw c.new-entries.ensures.items record { all = starts c.args.most c.args.fields.now; known = c.no_kinds-kinds.ensures.known; inodes = c.no_kinds-kinds.ensures.inodes }

pub returns-then-left-eq0 : goal.returns-then-left-eq0
returns-then-left-eq0 c =
    ap entries_alone (stops _ _ c.args.most c.loop.counter c.loop.fields _ c.loop-test.true (none_left _ _ c.left.ensures c.if-left-eq0.true) c.loop.invariant.all)

pub returns-in_err-entry : goal.returns-in_err-entry
returns-in_err-entry c =
    let p = err_from_is_err_and c.from_residual.result c.from_residual.ensures.1 in
    rw (p.1, p.2)
    (ends_in_memory (λ d. (d, c.read_entry.new.fields)) _ _ c.args.most c.loop.counter c.loop.fields c.in_err-entry.field-0.0 _ c.loop-test.true (some_left _ _ c.left.ensures c.if-left-eq0.false) (rw c.as_slice.ensures.value at c.in_err-entry.ensures.read) c.loop.invariant.all)

pub loop-preserved : goal.loop-preserved
loop-preserved c =
    let lt : c.in_ok-entry.entry.ino < length c.loop.kinds = omega (arith, c.get.ensures.value, c.get.ensures.high, c.loop.invariant.inodes) in
    rw (c.in_ok-push.ensures, c.from.ensures, c.get.ensures.value, c.kind_byte.ensures)
    record {
      all = goes_on c.loop.entries.items c.args.most c.loop.counter c.loop.fields c.in_ok-entry.entry c.read_entry.new.fields _ c.loop-test.true (some_left _ _ c.left.ensures c.if-left-eq0.false)
          (rw c.as_slice.ensures.value at c.in_ok-entry.ensures.read) c.loop.invariant.all;
      known = knows_more_after c.loop.kinds c.loop.entries.items c.in_ok-entry.entry lt (rw c.as_slice.ensures.value at c.in_ok-entry.ensures.kind) c.loop.invariant.known;
      inodes = search (rules, c.loop.invariant.inodes);
    }

pub returns : goal.returns
returns c = ap entries_alone (is_done _ _ c.args.most c.loop.counter c.loop.fields _ c.loop-test.false c.loop.invariant.all)
