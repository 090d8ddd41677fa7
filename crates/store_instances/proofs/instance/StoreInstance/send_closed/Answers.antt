use Rattle.std.proofs.Common.{List, ◌++◌, ap, ◌∙◌}
use Rattle.wire_messages.specs.declared.packet.Packet.{Packet}
use Rattle.role_steps.specs.declared.instances.Instance.{Instance}
use Rattle.store_instances.proofs.Given.{closed_as}
use Rattle.store_instances.proofs.instance.StoreInstance.send_closed.Goals as goal

pub returns-clause-packets : goal.returns-clause-packets
returns-clause-packets c =
    c.in_ok-send_to_sync.ensures.packets
    ∙ ap (λ (ps : List Packet). c.args.out.now.packets ++ ps)
    (closed_as c.args.frame.now c.args.self.now c.inst.result c.self.inside.file c.args.made.now c.inst.ensures (ap (λ (j : Instance). j.file) c.self.view_is))
