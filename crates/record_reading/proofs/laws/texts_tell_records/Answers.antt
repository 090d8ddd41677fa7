use Rattle.record_reading.proofs.LineForms.{one_stands, stands_formed, stands_text}
use Rattle.record_reading.proofs.OneLineRecords.{record_line}
use Rattle.record_reading.proofs.laws.texts_tell_records.Goals as goal

pub returns-clause-text : goal.returns-clause-text
returns-clause-text c = stands_text

pub returns-clause-formed : goal.returns-clause-formed
returns-clause-formed c = stands_formed

pub returns-clause-one : goal.returns-clause-one
returns-clause-one c = one_stands

pub returns-clause-line : goal.returns-clause-line
returns-clause-line c = record_line
