use Rattle.std.proofs.Common.{sym}
use Rattle.audit_epochs.proofs.Placing.{home_nowhere}
use Rattle.audit_epochs.proofs.epochs.Epochs.home.Goals as goal

pub returns-in-None : goal.returns-in-None
returns-in-None c = sym (home_nowhere c.args.home c.args.self.now c.in-None.is)
