use Rattle.audit_laws.proofs.Known.{all_known}
use Rattle.audit_laws.proofs.reading.following_traces_are_sound.Goals as goal

pub returns : goal.returns
returns g c trace named comes rise turns = all_known c named trace comes rise turns
