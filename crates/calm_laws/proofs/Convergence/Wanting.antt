-- The run in which a directory wants a rescue. All of it computes.
use Rattle.std.proofs.Common.{◌≡◌, take, drop, refl, sym, subst}
use Rattle.std.specs.Fmt.{digits}
use Rattle.hex.specs.Hex.{encode_with}
use Rattle.schedule_lines.specs.Schedule.{AreInOrder}
use Rattle.the_run.specs.Runs.{run}
use Rattle.row_laws.specs.Shown.{trace_of}
use Rattle.row_laws.specs.OrderlyRows.Agreeing.{IsWithin}
use Rattle.calm_laws.specs.Convergence.Wanting.{wanting_lines, wanting_trace, IsWanting}

pub wanting_in_order : AreInOrder wanting_lines
wanting_in_order = (refl, (refl, (refl, (refl, (refl, (refl, (refl, (refl, (refl, (refl, (refl, (refl, (refl, (refl, (refl, (refl, (refl, (refl, (refl, (refl, (refl, tt)))))))))))))))))))))

pub wanting_within : IsWithin wanting_lines
unfolding digits encode_with
wanting_within = refl

wanting_shown : trace_of (run wanting_lines) ≡ wanting_trace
unfolding digits encode_with
wanting_shown = refl

wants_then : IsWanting wanting_lines wanting_trace
wants_then = record {
  now = drop 10 wanting_trace;
  moment = record { so_far = take 4 (drop 10 wanting_trace); later = take 10 wanting_trace; begun = refl; ends = refl };
  wants = record { synced = refl; directory = refl; kept = refl; wants = refl };
  mended = refl;
}

pub is_wanting : IsWanting wanting_lines (trace_of (run wanting_lines))
is_wanting = subst (IsWanting wanting_lines) (sym wanting_shown) wants_then
