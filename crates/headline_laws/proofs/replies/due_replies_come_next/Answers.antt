use Rattle.headline_laws.proofs.Prompting.RunDue.{replies_next}
use Rattle.headline_laws.proofs.replies.due_replies_come_next.Goals as goal

pub returns : goal.returns
returns c = λ lines order. replies_next lines order
