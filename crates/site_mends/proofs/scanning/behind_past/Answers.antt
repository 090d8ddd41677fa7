use Rattle.site_mends.proofs.Live.{behind_live, behind_seen, if_some, shorter_live, shorter_seen}
use Rattle.site_mends.proofs.scanning.behind_past.Goals as goal

pub returns-in-Some-clause-past : goal.returns-in-Some-clause-past
returns-in-Some-clause-past c = behind_live c.args.kept.now c.args.bytes.now c.in-Some.behind.now c.in-Some.ensures

pub returns-in-Some-clause-shorter : goal.returns-in-Some-clause-shorter
returns-in-Some-clause-shorter c = shorter_live c.args.bytes.now c.in-Some.behind.now c.in-Some.ensures

pub returns-in-None-clause-past : goal.returns-in-None-clause-past
returns-in-None-clause-past c = if_some c.behind_seen.result (λ after. behind_seen c.args.kept.now c.args.bytes.now after.now) c.behind_seen.ensures

pub returns-in-None-clause-shorter : goal.returns-in-None-clause-shorter
returns-in-None-clause-shorter c = if_some c.behind_seen.result (λ after. shorter_seen c.args.kept.now c.args.bytes.now after.now) c.behind_seen.ensures
