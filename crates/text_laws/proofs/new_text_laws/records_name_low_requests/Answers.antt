use Rattle.text_laws.proofs.NewTexts.Rows.{asks_low}
use Rattle.text_laws.proofs.new_text_laws.records_name_low_requests.Goals as goal

pub returns : goal.returns
returns g most c before r le few may = asks_low most c before r le few may
