use Rattle.text_laws.proofs.Records.Each.{run_calls_counted}
use Rattle.text_laws.proofs.record_text_laws.calls_have_numbers.Goals as goal

pub returns : goal.returns
returns c = run_calls_counted
