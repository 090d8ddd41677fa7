use Rattle.headline_laws.proofs.Promises.WrongBreak.{commits_at_abort, falls_back, tells_no_commit}
use Rattle.headline_laws.proofs.promise_laws_wrong.wrong_traces_break_promises.Goals as goal

pub returns : goal.returns
returns c = record { aborts = commits_at_abort; falls = falls_back; tells = tells_no_commit }
