use Rattle.std.proofs.Common.{◌+◌}
use Rattle.std.proofs.lemmas.Result.{err_from_is_err_and}
use Rattle.field_codec.specs.Lists.{read_times}
use Rattle.field_codec.proofs.Loop.{goes_on, ends, is_done}
use Rattle.wire_reading.specs.Pages.{pages_from}
use Rattle.wire_reading.proofs.read_replies.read_pages.Goals as goal

pub loop-preserved : goal.loop-preserved
loop-preserved c =
    rw c.in_ok-push.ensures.ok
    (goes_on pages_from (λ _ page. page + 1) c.loop.pages c.loop.least c.in_ok-count.count c.loop.counter c.loop.fields c.in_ok-page.page c.read_page_from.new.fields
    (read_times pages_from (λ _ page. page + 1) 0 c.in_ok-count.count c.get_u16.new.self) c.loop-test.true c.in_ok-page.ensures c.loop.invariant)

pub returns-in_err-page : goal.returns-in_err-page
returns-in_err-page c =
    let p = err_from_is_err_and c.from_residual-in_err-page.result c.from_residual-in_err-page.ensures.1 in
    rw (p.1, p.2, c.in_ok-count.ensures.read)
    (ends pages_from (λ _ page. page + 1) c.loop.pages c.loop.least c.in_ok-count.count c.loop.counter c.loop.fields c.in_err-page.field-0.0
    (read_times pages_from (λ _ page. page + 1) 0 c.in_ok-count.count c.get_u16.new.self) c.loop-test.true c.in_err-page.ensures c.loop.invariant)

pub returns : goal.returns
returns c =
    rw c.in_ok-count.ensures.read
    (is_done pages_from (λ _ page. page + 1) c.loop.pages c.loop.least c.in_ok-count.count c.loop.counter c.loop.fields
    (read_times pages_from (λ _ page. page + 1) 0 c.in_ok-count.count c.get_u16.new.self) c.loop-test.false c.loop.invariant)
