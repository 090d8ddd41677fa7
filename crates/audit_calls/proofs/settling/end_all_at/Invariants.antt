use Rattle.std.proofs.Common.{◌≡◌, length}
use Rattle.audit_calls.specs.Waiting.{waiting_from}
use Rattle.audit_calls.proofs.Waits.{all_replied}
use Rattle.audit_calls.proofs.settling.end_all_at.Given as goal

abbrev pub invariant-loop-place : goal.invariant-loop-place
invariant-loop-place l = record { same : all_replied l.site l.rows.items ≡ all_replied l.site l.initial.rows.items; stand : l.waiting.items ≡ waiting_from 0 l.rows.items }

abbrev pub decreases-loop-place : goal.decreases-loop-place
decreases-loop-place l = length l.waiting.items
