use Rattle.text_laws.proofs.TreeTexts.Whole.{trace_texts}
use Rattle.text_laws.proofs.tree_text_laws.one_tree_is_text.Goals as goal

pub returns : goal.returns
returns g c trace named mounts tree new = trace_texts c trace named mounts tree new
