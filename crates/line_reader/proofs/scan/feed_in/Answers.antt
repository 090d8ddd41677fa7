use Rattle.line_reader.proofs.Feeds.{feed_at}
use Rattle.line_reader.proofs.scan.feed_in.Goals as goal

pub returns : goal.returns
returns c = rw c.position_of_feed.ensures (feed_at c.args.bytes.now)
