use Rattle.std.proofs.Common.{◌≡◌, ◌∙◌, Some, ap, sym, option_map}
use Rattle.std.specs.Prelude.{slice_get}
use Rattle.given_words.specs.Plain.{texts}
use Rattle.flat_words.proofs.Three.{three_words}
use Rattle.flat_words.proofs.flat_command.given_by.Goals as goal

pub returns-in-Some-Some-Some-clause-given : goal.returns-in-Some-Some-Some-clause-given
returns-in-Some-Some-Some-clause-given c =
    let words = texts c.args.words.now in
    let found = c.in-Ok.ensures.found in
    let met = c.in-Some-Some-Some in
    let first : slice_get words 0 ≡ Some met.word.now = sym found.command ∙ (sym c.get_str-command.ensures ∙ ap (option_map (λ s. s.now)) met.is-0) in
    let second : slice_get words 1 ≡ Some met.number.now = sym found.number ∙ (sym c.get_str-number.ensures ∙ ap (option_map (λ s. s.now)) met.is-1) in
    let third : slice_get words 2 ≡ Some met.events.now = sym found.events ∙ (sym c.get_str-events.ensures ∙ ap (option_map (λ s. s.now)) met.is-2) in
    three_words words met.word.now met.number.now met.events.now first second third found.few
