use Rattle.text_laws.proofs.NewTexts.Mounts.{mounts_are_texts}
use Rattle.text_laws.proofs.new_text_laws.mounts_have_texts.Goals as goal

pub returns : goal.returns
returns c = λ lines order. mounts_are_texts lines order
