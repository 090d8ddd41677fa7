use Rattle.headline_laws.proofs.Prompting.RunReplies.{replies_given}
use Rattle.headline_laws.proofs.replies.replies_are_given.Goals as goal

pub returns : goal.returns
returns c = λ lines order. replies_given lines order
