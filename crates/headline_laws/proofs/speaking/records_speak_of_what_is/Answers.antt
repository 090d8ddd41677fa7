use Rattle.headline_laws.proofs.Prompting.RunSpeaks.{records_speak}
use Rattle.headline_laws.proofs.speaking.records_speak_of_what_is.Goals as goal

pub returns : goal.returns
returns c = λ lines order. records_speak lines order
