use Rattle.std.proofs.Common.{◌<◌, ◌^◌, arith}
use Rattle.command_words.proofs.PlainWords.{out_of_range}
use Rattle.command_words.proofs.command.load_command.Goals as goal

pub returns-then-count-lt1-clause-bad : goal.returns-then-count-lt1-clause-bad
returns-then-count-lt1-clause-bad c = λ _ command h.
    let small : c.in_ok-count.count < 2 ^ 64 = omega arith in
    out_of_range c.args.number.now c.args.events.now c.in_ok-count.count small c.in_ok-count.ensures.number c.then-count-lt1.either command h
