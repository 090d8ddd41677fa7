use Rattle.headline_laws.proofs.StopPromises.Promised.{promised}
use Rattle.headline_laws.proofs.stop_promise_laws.exact_cuts_keep_the_promise.Goals as goal

pub returns : goal.returns
returns c wrote lines trace named k exact = promised wrote lines trace named k exact
