use Rattle.audit_epochs.proofs.Using.{accepts_one, accepts_none}
use Rattle.audit_epochs.proofs.epoch_row.EpochRow.accept.Goals as goal

pub returns-in_ok-use_once-in-Some-clause-ok : goal.returns-in_ok-use_once-in-Some-clause-ok
returns-in_ok-use_once-in-Some-clause-ok c = accepts_one c.args.begins.now c.args.words.now _ c.args.self.now c.in-Some.inst c.use_once.new.self c.self.view_is c.in-Some.ensures c.in_ok-use_once-in-Some.ensures

pub returns-in-None-clause-ok : goal.returns-in-None-clause-ok
returns-in-None-clause-ok c = accepts_none c.args.begins.now c.args.words.now _ c.args.self.now c.self.view_is c.in-None.ensures
