use Rattle.run_book.proofs.Kept.{writing_kept}
use Rattle.run_book.proofs.laws.books_write.Goals as goal

pub returns-clause-kept : goal.returns-clause-kept
returns-clause-kept c = writing_kept
