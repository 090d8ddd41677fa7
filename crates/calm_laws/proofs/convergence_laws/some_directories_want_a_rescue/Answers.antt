use Rattle.calm_laws.proofs.Convergence.Wanting.{wanting_in_order, wanting_within, is_wanting}
use Rattle.calm_laws.proofs.convergence_laws.some_directories_want_a_rescue.Goals as goal

pub returns : goal.returns
returns c = record {
  in_order = wanting_in_order;
  within = wanting_within;
  wants = is_wanting;
}
