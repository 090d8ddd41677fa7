use Rattle.calm_laws.proofs.Convergence.Rested.{rested_in_order, rested_within, is_rested}
use Rattle.calm_laws.proofs.convergence_laws.some_files_are_at_rest.Goals as goal

pub returns : goal.returns
returns c = record {
  in_order = rested_in_order;
  within = rested_within;
  rested = is_rested;
}
