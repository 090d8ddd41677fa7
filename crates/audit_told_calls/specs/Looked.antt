-- A look that a call asks.
use Rattle.std.specs.Prelude.{ℕ, ◌+◌, ◌-◌, Bool, ◌&&◌, nat_le, nat_lt, length, take}
use Rattle.locus_ids.specs.declared.config.Config.{Config}
use Rattle.locus_ids.specs.declared.ids.FileId.{FileId}
use Rattle.trace_book.specs.declared.operation.What.{What}
use Rattle.call_rules.specs.declared.want.Want.TheVariants as want
use Rattle.promises.specs.Past.{Past, CallSoFar, asks_after}
use Rattle.promises.specs.Same.{same_request}

-- the look is what the call asks by the request of this number, its last or its next
abbrev pub asked_look : Config → Past → ℕ → FileId → What → CallSoFar → Bool
asked_look c p request f w k = nat_lt 0 request && (nat_le (length k.answers) request && (nat_le request (length k.answers + 1) && same_request (asks_after c p k (take (request - 1) k.answers)) (want.Look f w)))
