use Rattle.store_laws.proofs.ScriptReading.{read_again}
use Rattle.store_laws.proofs.script.reads_open_again_what_they_read.Goals as goal

pub returns : goal.returns
returns c = λ config trace d caller e bytes x h k gives granted. read_again config trace d caller e bytes x h k gives granted
