-- What the Report of a group lets go.
use Rattle.std.proofs.Common.{◌≡◌, ◌+◌, refl}
use Rattle.std.specs.Fmt.{digits}
use Rattle.hex.specs.Hex.{encode_with}
use Rattle.row_laws.specs.Bounds.Waiting.{two_looks_wait, the_report_comes, sent_for_calls}

pub two_go : sent_for_calls the_report_comes ≡ sent_for_calls two_looks_wait + 2
unfolding digits encode_with
two_go = refl
