use Rattle.std.proofs.Common.{◌≡◌, ◌-◌, ◌+◌}
use Rattle.field_codec.specs.Lists.{read_times}
use Rattle.field_codec.proofs.Loop.{with_front}
use Rattle.wire_reading.specs.Pages.{pages_from}
use Rattle.wire_reading.proofs.read_replies.read_pages.Given as goal

-- those so far and those still to be read are all
abbrev pub invariant-loop : goal.invariant-loop
invariant-loop l = with_front l.pages (read_times pages_from (λ _ page. page + 1) l.least (l.count - l.counter) l.fields) ≡ read_times pages_from (λ _ page. page + 1) 0 l.count l.initial.fields
