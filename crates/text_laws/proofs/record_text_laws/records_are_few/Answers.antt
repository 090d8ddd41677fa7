use Rattle.text_laws.proofs.Records.Few.{run_few}
use Rattle.text_laws.proofs.record_text_laws.records_are_few.Goals as goal

pub returns : goal.returns
returns c = run_few
