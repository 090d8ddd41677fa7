use Rattle.site_laws.proofs.Locks.Writing.{scripts_sound}
use Rattle.site_laws.proofs.lock_laws.scripts_open_what_they_change.Goals as goal

pub returns : goal.returns
returns c = scripts_sound
