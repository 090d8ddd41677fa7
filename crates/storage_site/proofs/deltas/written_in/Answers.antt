use Rattle.std.proofs.Common.{filter}
use Rattle.file_content.specs.Pages.{pages_from}
use Rattle.storage_site.specs.Wanting.{is_written}
use Rattle.storage_site.proofs.Chains.{those_next}
use Rattle.storage_site.proofs.deltas.written_in.Goals as goal

pub loop-page-preserved : goal.loop-page-preserved
loop-page-preserved c =
    those_next c.loop-page.pages c.push_written.new.pages c.loop-page.page c.args.count c.in_ok-number.number (filter (is_written c.args.steps.now) (pages_from 0 c.args.count)) c.loop-page-test.true c.in_ok-number.ensures (is_written c.args.steps.now)
    c.in_ok-push_written.ensures c.loop-page.invariant
