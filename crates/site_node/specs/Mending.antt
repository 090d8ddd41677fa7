-- The mends that start at the end of an event.
use Rattle.std.specs.Prelude.{ℕ}
use Rattle.locus_ids.specs.declared.config.Config.{Config}
use Rattle.role_steps.specs.Views.{SiteView, Outcome}
use Rattle.the_run.specs.Steps.{starts_mends_of}

abbrev pub mends_at : Config → ℕ → SiteView → Outcome SiteView
mends_at c me v = starts_mends_of c me v.epoch v
