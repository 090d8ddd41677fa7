use Rattle.waiting_calls.proofs.waiting.send_request.Goals as goal

pub returns-in-Open-clause-packets : goal.returns-in-Open-clause-packets
returns-in-Open-clause-packets c = rw c.in-Open.is (rw c.open_body-body.ensures at c.send_to_sync-in-Open.ensures.packets)
