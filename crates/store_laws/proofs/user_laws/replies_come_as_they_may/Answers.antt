use Rattle.store_laws.proofs.Users.Replying.{may_reply}
use Rattle.store_laws.proofs.user_laws.replies_come_as_they_may.Goals as goal

pub returns : goal.returns
returns c = λ config trace f w u h frame rests k r e. may_reply config trace f w u h frame rests k r e
