use Rattle.store_laws.proofs.ScriptReplies.{gives_unchanged, strays_never}
use Rattle.store_laws.proofs.script.scripts_end_rightly.Goals as goal

pub returns : goal.returns
returns c = record {
  strays = λ config trace d caller e h k is. strays_never config trace d caller e h k is;
  unchanged = λ config trace d caller e left h k is. gives_unchanged config trace d caller e left h k is;
}
