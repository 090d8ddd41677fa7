use Rattle.run_book.proofs.Kept.{event_kept}
use Rattle.run_book.proofs.laws.book_is_the_runs.Goals as goal

pub returns : goal.returns
returns c = event_kept
