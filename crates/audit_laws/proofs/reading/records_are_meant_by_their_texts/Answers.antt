use Rattle.audit_laws.proofs.Meanings.{meant_as_read}
use Rattle.audit_laws.proofs.reading.records_are_meant_by_their_texts.Goals as goal

pub returns : goal.returns
returns c d p r once h = meant_as_read d p r once h
