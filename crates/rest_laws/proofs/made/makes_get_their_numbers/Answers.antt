use Rattle.rest_laws.proofs.MadeOpened.{opens_answered}
use Rattle.rest_laws.proofs.made.makes_get_their_numbers.Goals as goal

pub returns : goal.returns
returns c = λ config rests n trace f p i a t ready here came fresh. opens_answered config rests n trace f p i a t ready here came fresh
