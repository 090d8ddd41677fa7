use Rattle.headline_laws.proofs.Prompting.RunReplies.{replies_direct}
use Rattle.headline_laws.proofs.replies.replies_stand_directly.Goals as goal

pub returns : goal.returns
returns c = λ lines order. replies_direct lines order
