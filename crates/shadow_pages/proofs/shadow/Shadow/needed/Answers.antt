use Rattle.std.proofs.Common.{◌+◌, get_or, None}
use Rattle.std.specs.Option.{is_none}
use Rattle.file_content.specs.Pages.{pages_of}
use Rattle.shadow_pages.specs.Working.{touches}
use Rattle.shadow_pages.proofs.Counts.{span_count}
use Rattle.shadow_pages.proofs.shadow.Shadow.needed.Goals as goal

pub returns : goal.returns
returns c =
    rw (← c.self.view_is)
    (span_count (λ i. touches (record { size = c.self.inside.size; pages = c.self.inside.pages.items }) c.args.at c.args.len i) (λ i. is_none (get_or c.self.inside.pages.items i None))
    c.span_between-span.result.first c.span_between-span.result.stop (rw c.min.ensures at c.span_between-span.ensures.meets) c.span_between-span.ensures.ordered
    (pages_of (c.args.at + c.args.len)) c.count_unchanged.result c.span_between-span.ensures.most (rw c.deref.ensures.value at c.count_unchanged.ensures))
