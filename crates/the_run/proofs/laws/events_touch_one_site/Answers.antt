use Rattle.the_run.proofs.Growing.{acts_touches}
use Rattle.the_run.proofs.laws.events_touch_one_site.Goals as goal

pub returns : goal.returns
returns c = λ n s v o w. acts_touches n s v o w
