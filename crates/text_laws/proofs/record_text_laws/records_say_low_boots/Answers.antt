use Rattle.text_laws.proofs.Records.Boots.{run_boots}
use Rattle.text_laws.proofs.record_text_laws.records_say_low_boots.Goals as goal

pub returns : goal.returns
returns c = run_boots
