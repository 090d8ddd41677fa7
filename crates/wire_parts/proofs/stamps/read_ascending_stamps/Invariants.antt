use Rattle.std.proofs.Common.{◌≡◌, ◌-◌, None, Some}
use Rattle.field_codec.specs.Lists.{read_times}
use Rattle.field_codec.proofs.Loop.{with_front}
use Rattle.wire_fields.specs.Parts.{stamps_after}
use Rattle.wire_parts.proofs.stamps.read_ascending_stamps.Given as goal

-- those so far and those still to be read are all
abbrev pub invariant-loop : goal.invariant-loop
invariant-loop l = with_front l.list (read_times stamps_after (λ _ stamp. Some stamp) l.last (l.count - l.counter) l.fields) ≡ read_times stamps_after (λ _ stamp. Some stamp) None l.count l.initial.fields
