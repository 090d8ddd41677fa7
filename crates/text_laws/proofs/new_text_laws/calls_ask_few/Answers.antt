use Rattle.text_laws.proofs.NewTexts.Requests.{asked_few}
use Rattle.text_laws.proofs.new_text_laws.calls_ask_few.Goals as goal

pub returns : goal.returns
returns g mounts packed free words b answers usual asks = asked_few mounts packed free words b answers usual asks
