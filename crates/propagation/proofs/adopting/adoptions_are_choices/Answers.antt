use Rattle.propagation.proofs.Choices.{adoption_chosen}
use Rattle.propagation.proofs.adopting.adoptions_are_choices.Goals as goal

pub returns : goal.returns
returns c = adoption_chosen
