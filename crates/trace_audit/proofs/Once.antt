-- In a tidy past each name stands for one thing.
use Rattle.locus_ids.specs.declared.config.Config.{Config}
use Rattle.promises.specs.Past.{Past}
use Rattle.audit_laws.specs.Tidy.Tidy.{IsTidy}
use Rattle.audit_rows.specs.of_audit_told_calls.Once.{OneEach}

-- no two epochs and no two calls have one name
pub one_each : (c : Config) (p : Past) → IsTidy c p → OneEach p
one_each c p tidy = record { epochs = tidy.epochs.once; calls = tidy.calls.once }
