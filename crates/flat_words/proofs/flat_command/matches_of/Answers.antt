use Rattle.std.proofs.Common.{◌≡◌, ◌∙◌, ap, ap₂, codes, subst, refl, IfOk, IfErr, true}
use Rattle.clap.specs.Simple.{App, HasMatchesOf, app_of, app_of_fields, new_app, new_rule, with_rule}
use Rattle.given_words.specs.Plain.{texts}
use Rattle.clap.specs.Takes.{takes}
use Rattle.clap.specs.Kinds.{FailsBy}
use Rattle.clap.specs.Faults.{fault_of, is_simple_and_free}
use Rattle.clap.specs.Values.{kind_of}
use Rattle.clap.specs.declared.builder.command.Command.{Command}
use Rattle.clap.specs.declared.builder.command.Command.TheViews.{out-Command}
use Rattle.clap.specs.declared.error.kind.ErrorKind.TheVariants.{OutOfMemory}
use Rattle.flat_words.specs.FlatCommand.{flat_command, without_flags}
use Rattle.flat_words.proofs.Places.{parse_fails, parse_places}
use Rattle.flat_words.proofs.flat_command.matches_of.Goals as goal

bare : (a b d : Command) (app : App) → app_of a ≡ app → out-Command b ≡ record (out-Command a) { no_binary_name = true }
    → out-Command d ≡ record (out-Command b) { disable_help_flag = true } → app_of d ≡ without_flags app
bare a b d app e f g = ap app_of_fields g ∙ (ap (λ fields. app_of_fields (record fields { disable_help_flag = true })) f ∙ ap without_flags e)

pub returns : goal.returns
returns c =
    let words = texts c.args.words.now in
    let bare_is : app_of c.disable_help_flag.result ≡ without_flags (new_app (codes "locus")) =
    bare c.new.result c.no_binary_name.result c.disable_help_flag.result (new_app (codes "locus")) c.new.ensures.app c.no_binary_name.ensures c.disable_help_flag.ensures in
    let one : app_of c.in_ok-arg.field-0 ≡ with_rule (without_flags (new_app (codes "locus"))) (new_rule (codes "command")) =
    c.in_ok-arg.ensures.shape c.new-2.ensures.optional.1 ∙ ap₂ with_rule bare_is c.new-2.ensures.rule in
    let two : app_of c.in_ok-arg-2.field-0 ≡ with_rule (with_rule (without_flags (new_app (codes "locus"))) (new_rule (codes "command"))) (new_rule (codes "number")) =
    c.in_ok-arg-2.ensures.shape c.new-3.ensures.optional.1 ∙ ap₂ with_rule one c.new-3.ensures.rule in
    let flat : app_of c.in_ok-command.command ≡ flat_command =
    c.in_ok-command.ensures.shape c.new-4.ensures.optional.1 ∙ ap₂ with_rule two c.new-4.ensures.rule in
    let parse = c.try_get_matches_from in
    let matches : IfOk parse.result (HasMatchesOf flat_command words) = subst (λ (a : App). IfOk parse.result (HasMatchesOf a words)) flat parse.ensures.matches in
    let passes : IfErr parse.result (λ e. takes flat_command words ≡ true → kind_of e ≡ OutOfMemory) =
    subst (λ (a : App). IfErr parse.result (λ e. takes a words ≡ true → kind_of e ≡ OutOfMemory)) flat parse.ensures.passes in
    let kinds : FailsBy (fault_of flat_command words) parse.result =
    subst (λ (a : App). is_simple_and_free a ≡ true → FailsBy (fault_of a words) parse.result) flat parse.ensures.kinds refl in
    record { found = parse_places parse.result words c.requires matches kinds; few = parse_fails parse.result words c.requires passes }
