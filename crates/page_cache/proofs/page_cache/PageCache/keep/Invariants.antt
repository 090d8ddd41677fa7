use Rattle.std.proofs.Common.{◌≡◌, ◌-◌}
use Rattle.page_cache.specs.Parts.{put_from, with_part}
use Rattle.page_cache.proofs.page_cache.PageCache.keep.Given as goal

abbrev pub invariant-loop-page : goal.invariant-loop-page
invariant-loop-page l = put_from l.part l.bytes l.page (l.end - l.page) l.self ≡ with_part l.part l.bytes l.fn.self
