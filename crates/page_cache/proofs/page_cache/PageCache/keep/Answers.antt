use Rattle.page_cache.proofs.Looking.{put_next}
use Rattle.page_cache.proofs.page_cache.PageCache.keep.Goals as goal

pub loop-page-preserved : goal.loop-page-preserved
loop-page-preserved c = put_next c.args.part.now c.args.bytes.now c.loop-page.page c.pages-first.result.1 c.loop-page.self c.keep_page.new.self _ c.loop-page-test.true c.in_ok-keep_page.ensures c.loop-page.invariant
