use Rattle.store_laws.proofs.Differing.{remembered_differ}
use Rattle.store_laws.proofs.Serving.{look_served, page_sent, want_sent}
use Rattle.store_laws.proofs.laws.copies_are_served.Goals as goal

pub returns : goal.returns
returns c = record {
  looks = λ config n trace h rests f frame s held us call process request times file w serve k. look_served config n trace h rests f frame s held us call process request times file w serve k;
  pages = λ config n trace h rests f frame s held from file stamp page stands. page_sent config n trace h rests f s held from file stamp page stands;
  deltas = λ config n trace f s held from file wanted own k. want_sent config n trace f s held from file wanted own k;
  differ = λ config trace rests f s held file wanted own two one. remembered_differ config trace file rests.narrow s.steps held.instances.steps own wanted one two;
}
