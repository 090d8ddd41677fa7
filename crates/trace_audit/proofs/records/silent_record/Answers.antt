-- A record that changes nothing may come next.
use Rattle.std.proofs.Common.{sym, subst}
use Rattle.trace_book.specs.declared.record.Record.{Record}
use Rattle.trace_audit.specs.Steps.{Judges}
use Rattle.trace_audit.proofs.records.silent_record.Goals as goal

pub returns-in-Packet : goal.returns-in-Packet
returns-in-Packet c config = subst (λ (r : Record). Judges config c.args.told.now r c.pass.new.told c.pass.result) (sym c.in-Packet.is) (c.pass.ensures.packet config c.in-Packet.number c.in-Packet.from c.in-Packet.to c.in-Packet.kind)

pub returns-in-Void : goal.returns-in-Void
returns-in-Void c config = subst (λ (r : Record). Judges config c.args.told.now r c.pass-in-Void.new.told c.pass-in-Void.result) (sym c.in-Void.is) (c.pass-in-Void.ensures.void config)

pub returns-in-Budget : goal.returns-in-Budget
returns-in-Budget c config = subst (λ (r : Record). Judges config c.args.told.now r c.pass-in-Budget.new.told c.pass-in-Budget.result) (sym c.in-Budget.is) (c.pass-in-Budget.ensures.budget config)
