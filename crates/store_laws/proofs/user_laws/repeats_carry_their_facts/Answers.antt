use Rattle.store_laws.proofs.Users.Leaving.{repeats_fine}
use Rattle.store_laws.proofs.user_laws.repeats_carry_their_facts.Goals as goal

pub returns : goal.returns
returns c = λ config trace f u k. repeats_fine config trace f u k
