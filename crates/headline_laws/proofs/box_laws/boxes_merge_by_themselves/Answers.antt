use Rattle.headline_laws.proofs.Boxes.Law.{boxes_hold, runs_hold}
use Rattle.headline_laws.proofs.box_laws.boxes_merge_by_themselves.Goals as goal

pub returns : goal.returns
returns c = record { told = λ config trace past. boxes_hold config trace past; runs = λ lines order. runs_hold lines order }
