use Rattle.std.proofs.Common.{◌≡◌, sym, ap, subst}
use Rattle.std.specs.Prelude.{IfErr}
use Rattle.disk_model.specs.ScriptDisk.{seen}
use Rattle.role_steps.specs.Views.{Calls, Event, Receives, Ticks, Parts, Merges, GivesUp}
use Rattle.site_node.specs.Taking.{IsSpent}
use Rattle.site_place.specs.Fitting.{CanActAt, IsOfDisk}
use Rattle.site_place.specs.Places.{event_of}
use Rattle.site_place.proofs.Needing.{fault_of_node}
use Rattle.site_place.proofs.acting.act.Goals as goal

pub returns-in-Call-clause-fit : goal.returns-in-Call-clause-fit
returns-in-Call-clause-fit c = subst (λ (e : Event). IfErr c.call.result (λ fault. CanActAt c.args.node.now (seen c.args.disk.now.disk) c.args.links.now e → IsOfDisk fault)) (sym (ap event_of c.in-Call.is))
    (fault_of_node (CanActAt c.args.node.now (seen c.args.disk.now.disk) c.args.links.now (Calls c.in-Call.process c.in-Call.call)) ⊥ c.call.result c.call.ensures.numbered (λ can q. q) c.call.ensures.unfit)

pub returns-in-Receive-clause-fit : goal.returns-in-Receive-clause-fit
returns-in-Receive-clause-fit c = subst (λ (e : Event). IfErr c.receive.result (λ fault. CanActAt c.args.node.now (seen c.args.disk.now.disk) c.args.links.now e → IsOfDisk fault)) (sym (ap event_of c.in-Receive.is))
    (fault_of_node (CanActAt c.args.node.now (seen c.args.disk.now.disk) c.args.links.now (Receives c.in-Receive.packet)) (IsSpent c.in-Receive.packet.body) c.receive.result c.receive.ensures.spent (λ can. can.numbering) c.receive.ensures.unfit)

pub returns-in-Tick-clause-fit : goal.returns-in-Tick-clause-fit
returns-in-Tick-clause-fit c = subst (λ (e : Event). IfErr c.tick.result (λ fault. CanActAt c.args.node.now (seen c.args.disk.now.disk) c.args.links.now e → IsOfDisk fault)) (sym (ap event_of c.in-Tick.is))
    (fault_of_node (CanActAt c.args.node.now (seen c.args.disk.now.disk) c.args.links.now Ticks) ⊥ c.tick.result c.tick.ensures.numbered (λ can q. q) c.tick.ensures.unfit)

pub returns-in-Part-clause-fit : goal.returns-in-Part-clause-fit
returns-in-Part-clause-fit c = subst (λ (e : Event). IfErr c.part.result (λ fault. CanActAt c.args.node.now (seen c.args.disk.now.disk) c.args.links.now e → IsOfDisk fault)) (sym (ap event_of c.in-Part.is))
    (fault_of_node (CanActAt c.args.node.now (seen c.args.disk.now.disk) c.args.links.now Parts) (c.args.node.now.epochs.promised.number ≡ 4294967295) c.part.result c.part.ensures.spent (λ can. can.numbering) c.part.ensures.unfit)

pub returns-in-Merge-clause-fit : goal.returns-in-Merge-clause-fit
returns-in-Merge-clause-fit c = subst (λ (e : Event). IfErr c.merge.result (λ fault. CanActAt c.args.node.now (seen c.args.disk.now.disk) c.args.links.now e → IsOfDisk fault)) (sym (ap event_of c.in-Merge.is))
    (fault_of_node (CanActAt c.args.node.now (seen c.args.disk.now.disk) c.args.links.now Merges) (c.args.node.now.epochs.promised.number ≡ 4294967295) c.merge.result c.merge.ensures.spent (λ can. can.numbering) c.merge.ensures.unfit)

pub returns-in-GiveUp-clause-fit : goal.returns-in-GiveUp-clause-fit
returns-in-GiveUp-clause-fit c = subst (λ (e : Event). IfErr c.give_up.result (λ fault. CanActAt c.args.node.now (seen c.args.disk.now.disk) c.args.links.now e → IsOfDisk fault)) (sym (ap event_of c.in-GiveUp.is))
    (fault_of_node (CanActAt c.args.node.now (seen c.args.disk.now.disk) c.args.links.now GivesUp) ⊥ c.give_up.result c.give_up.ensures.numbered (λ can q. q) c.give_up.ensures.unfit)
