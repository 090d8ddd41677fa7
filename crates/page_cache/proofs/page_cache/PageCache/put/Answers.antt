use Rattle.page_cache.proofs.Names.{put_to}
use Rattle.page_cache.proofs.page_cache.PageCache.put.Goals as goal

pub returns-clause-ok : goal.returns-clause-ok
returns-clause-ok c = put_to c.args.name c.args.bytes c.args.self.now c.in_ok-pages.pages c.put.new.self c.in_ok-pages.ensures.ok c.in-Ok.ensures.entries
