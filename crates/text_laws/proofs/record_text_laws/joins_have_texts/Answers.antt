use Rattle.text_laws.proofs.Records.Joins.{run_joins}
use Rattle.text_laws.proofs.record_text_laws.joins_have_texts.Goals as goal

pub returns : goal.returns
returns g c lines = run_joins c lines
