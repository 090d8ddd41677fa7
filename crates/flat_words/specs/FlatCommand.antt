-- What clap is asked for: one command without flags, of up to three positional texts.
use Rattle.std.specs.Prelude.{◌≡◌, ◌≤◌, true, List, codes, length, slice_get}
use Rattle.clap.specs.Walk.{Text}
use Rattle.clap.specs.Simple.{App, new_app, new_rule, on_top, with_rule}
use Rattle.clap.specs.Matches.{first_value, found_of}
use Rattle.clap.specs.declared.parser.matches.ArgMatches.{ArgMatches}

abbrev pub without_flags : App → App
without_flags = on_top (λ s. record s { no_binary_name = true; disable_help_flag = true })

abbrev pub flat_command : App
flat_command = with_rule (with_rule (with_rule (without_flags (new_app (codes "locus"))) (new_rule (codes "command"))) (new_rule (codes "number"))) (new_rule (codes "events"))

-- the words stand in their places, and there are no others
pub record HasPlaces (words : List Text) (m : ArgMatches) : Type 0 where
  pub command : first_value (found_of m) (codes "command") ≡ slice_get words 0
  pub number : first_value (found_of m) (codes "number") ≡ slice_get words 1
  pub events : first_value (found_of m) (codes "events") ≡ slice_get words 2
  pub few : length words ≤ 3
