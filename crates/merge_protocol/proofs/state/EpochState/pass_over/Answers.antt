use Rattle.merge_protocol.proofs.Leaving.{decided_is}
use Rattle.merge_protocol.proofs.state.EpochState.pass_over.Goals as goal

pub returns-in-Some-clause-decided : goal.returns-in-Some-clause-decided
returns-in-Some-clause-decided c = rw (← c.self.view_is) (decided_is c.args.me c.args.links.now (record { boot = c.self.inside.boot; promised = c.self.inside.promised.id; installed = c.self.inside.promised.installed; round = c.self.inside.round; epoch = c.self.inside.epoch; installs = c.self.inside.installs; reports = c.self.inside.reports }) c.in-Some.round c.passed_over-passed.result c.decide-decided.result c.in-Some.is c.passed_over-passed.ensures c.decide-decided.ensures)
