use Rattle.std.proofs.lemmas.Bool.{false≢true}
use Rattle.std.specs.Fmt.{digits}
use Rattle.box_samples.proofs.tried.other_traces_are_left_out.Goals as goal

-- names of messages tell numbers
pub returns-clause-made : goal.returns-clause-made
unfolding digits
returns-clause-made c = λ keeps. false≢true keeps.handled

pub returns-clause-renamed : goal.returns-clause-renamed
unfolding digits
returns-clause-renamed c = λ keeps. false≢true keeps.handled

pub returns-clause-named : goal.returns-clause-named
unfolding digits
returns-clause-named c = λ keeps. false≢true keeps.handled

pub returns-clause-written : goal.returns-clause-written
unfolding digits
returns-clause-written c = λ keeps. false≢true keeps.once
