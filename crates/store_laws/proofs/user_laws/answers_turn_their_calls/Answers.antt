use Rattle.store_laws.proofs.Users.Taking.{plain_turns}
use Rattle.store_laws.proofs.user_laws.answers_turn_their_calls.Goals as goal

pub returns : goal.returns
returns c = λ config n trace f w u a h frame k among answer stay keeps brings. plain_turns config n trace f w u a h frame k among answer stay w.brought brings keeps
