use Rattle.store_laws.proofs.Pulls.{all_pulls_stay, notify_fine}
use Rattle.store_laws.proofs.PullsComing.{delta_fine, page_fine}
use Rattle.store_laws.proofs.laws.pulls_are_of_known_versions.Goals as goal

pub returns : goal.returns
returns c = record {
  stay = λ config older n x h may stay newer f ps away k. all_pulls_stay config n x older h may stay newer f ps away k;
  notices = λ config n trace h rests f frame s copies ps all from file k set size stamp vector holder t. notify_fine config n trace h rests f frame s copies ps all from file k set size stamp vector holder t;
  pages = λ config n trace h rests f frame ps all file stamp page bytes q. page_fine config n trace h rests f frame ps all file stamp page bytes q;
  deltas = λ config n trace h rests f frame ps all own file stamp pages a q. delta_fine config n trace h rests f frame ps all own file stamp pages a q;
}
