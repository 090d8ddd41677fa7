use Rattle.file_content.specs.Pages.{pages_from}
use Rattle.storage_site.proofs.Chains.{all_next}
use Rattle.storage_site.proofs.deltas.all_pages.Goals as goal

pub loop-page-preserved : goal.loop-page-preserved
loop-page-preserved c =
    all_next c.loop-page.pages c.push.new.self c.loop-page.page c.args.count c.in_ok-number.number (pages_from 0 c.args.count) c.loop-page-test.true c.in_ok-number.ensures c.in_ok-push.ensures.ok c.loop-page.invariant
