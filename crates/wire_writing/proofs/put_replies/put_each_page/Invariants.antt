use Rattle.std.proofs.Common.{◌≡◌, ◌++◌, take}
use Rattle.std.specs.List.{flat_map}
use Rattle.field_codec.specs.Codec.{u16}
use Rattle.wire_writing.proofs.put_replies.put_each_page.Given as goal

abbrev pub invariant-loop-page : goal.invariant-loop-page
invariant-loop-page l = l.out ≡ l.initial.out ++ flat_map u16.spell (take l.page-index l.pages)
