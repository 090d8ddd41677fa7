use Rattle.text_laws.proofs.Records.Each.{run_lined}
use Rattle.text_laws.proofs.record_text_laws.records_have_lines.Goals as goal

pub returns : goal.returns
returns c = run_lined
