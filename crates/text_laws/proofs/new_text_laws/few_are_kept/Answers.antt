use Rattle.text_laws.proofs.NewTexts.Kept.{kept_few}
use Rattle.text_laws.proofs.new_text_laws.few_are_kept.Goals as goal

pub returns : goal.returns
returns g history file brought asc chain sites = kept_few history file brought asc chain sites
