use Rattle.std.specs.Prelude.{refl}
use Rattle.std.specs.Fmt.{digits}
use Rattle.box_samples.proofs.refused.refused_mails_close_what_they_opened.Goals as goal

-- the name of a message tells numbers
pub returns-clause-insert : goal.returns-clause-insert
unfolding digits
returns-clause-insert c = refl
