use Rattle.disk_calls.proofs.Counting.{shut_before, open_after, older_until}
use Rattle.disk_calls.proofs.laws.gates_switch_in_order.Goals as goal

pub returns-clause-shut : goal.returns-clause-shut
returns-clause-shut c blocks how passed lt = shut_before blocks how passed lt

pub returns-clause-open : goal.returns-clause-open
returns-clause-open c blocks how passed le = open_after blocks how passed le

pub returns-clause-older : goal.returns-clause-older
returns-clause-older c blocks how passed lt = older_until blocks how passed lt
