use Rattle.std.proofs.Common.{◌≡◌, ◌∙◌, ap, sym, subst, rules}
use Rattle.std.specs.List.{All}
use Rattle.given_words.specs.Plain.{texts}
use Rattle.given_words.specs.Plain.{IsPlain}
use Rattle.command_words.proofs.PlainWords.{command_plain}
use Rattle.command_words.proofs.command.read_words.Goals as goal

pub returns-in_err-texts-clause-bad : goal.returns-in_err-texts-clause-bad
returns-in_err-texts-clause-bad c = λ bad command h. c.in_err-texts.ensures.bad (search rules) (command_plain c.args.words.now command h)

pub given_by-requires : goal.given_by-requires
given_by-requires c =
    let same : texts c.as_slice.result.now ≡ c.args.words.now = ap texts c.as_slice.ensures.value ∙ c.in_ok-texts.ensures.texts in
    subst (All IsPlain) (sym same) c.in_ok-texts.ensures.plain
