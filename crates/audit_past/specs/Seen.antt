-- What the last record was, as the past has it.
use Rattle.promises.specs.Past.{Last, Leaving, Accepting, Another}
use Rattle.audit_past.specs.declared.last.LastSeen.{LastSeen}
use Rattle.audit_past.specs.declared.last.LastSeen.TheVariants as seen

abbrev pub last_of : LastSeen → Last
last_of (seen.Leaving site process) = Leaving site process
last_of (seen.Accepting call) = Accepting call
last_of seen.Another = Another
