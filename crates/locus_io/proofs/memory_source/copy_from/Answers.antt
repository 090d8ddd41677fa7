use Rattle.std.proofs.Common.{◌≡◌, ◌-◌, length, take, drop, length-drop, arith}
use Rattle.std.proofs.lemmas.List.{take_all}
use Rattle.locus_io.proofs.Fronts.{front_taken, none_left}
use Rattle.locus_io.proofs.memory_source.copy_from.Goals as goal

pub returns-clause-count : goal.returns-clause-count
returns-clause-count c =
    let whole : take (length c.args.bytes.now - c.args.at) (drop c.args.at c.args.bytes.now) ≡ drop c.args.at c.args.bytes.now = take_all _ _ (omega (arith, length-drop c.args.at c.args.bytes.now)) in
    let count = rw whole at c.copy_front.ensures.count in
    omega (arith, count, length-drop c.args.at c.args.bytes.now)

pub returns-clause-moved : goal.returns-clause-moved
returns-clause-moved c =
    let whole : take (length c.args.bytes.now - c.args.at) (drop c.args.at c.args.bytes.now) ≡ drop c.args.at c.args.bytes.now = take_all _ _ (omega (arith, length-drop c.args.at c.args.bytes.now)) in
    let count = rw whole at c.copy_front.ensures.count in
    let copied = rw whole at c.copy_front.ensures.copied in
    front_taken c.args.bytes.now c.args.to.now c.copy_front.new.to c.args.at c.copy_front.result count copied

pub returns-clause-end : goal.returns-clause-end
returns-clause-end c =
    let whole : take (length c.args.bytes.now - c.args.at) (drop c.args.at c.args.bytes.now) ≡ drop c.args.at c.args.bytes.now = take_all _ _ (omega (arith, length-drop c.args.at c.args.bytes.now)) in
    let count = rw whole at c.copy_front.ensures.count in
    let copied = rw whole at c.copy_front.ensures.copied in
    none_left c.args.bytes.now c.args.to.now c.copy_front.new.to c.args.at c.copy_front.result count copied
