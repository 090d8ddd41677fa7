use Rattle.std.proofs.Common.{◌-◌}
use Rattle.page_cache.specs.Parts.{bytes_from, looked_up_from}
use Rattle.page_cache.proofs.Looking.{Goes}
use Rattle.page_cache.proofs.page_cache.PageCache.held.Given as goal

abbrev pub invariant-loop-page : goal.invariant-loop-page
invariant-loop-page l = Goes l.part l.end (bytes_from l.part l.first (l.end - l.first) l.fn.self) (looked_up_from l.part l.first (l.end - l.first) l.fn.self) l.bytes l.page l.self
