use Rattle.std.proofs.Common.{List, ◌++◌, ◌∙◌, ap}
use Rattle.wire_messages.specs.declared.packet.Packet.{Packet}
use Rattle.store_instances.specs.Stores.{StoreState}
use Rattle.storage_site.specs.Standing.{open_from}
use Rattle.storage_site.proofs.Standing.{again_standing}
use Rattle.storage_site.proofs.store.Store.repeats.Goals as goal

pub returns-clause-packets : goal.returns-clause-packets
returns-clause-packets c p image =
    c.in_ok-repeat_at.ensures.packets
    ∙ ap (λ (ps : List Packet). c.args.out.now.packets ++ ps)
    (again_standing c.args.self.now.instances c.as_slice.result.now c.self.inside.standing.items c.as_slice-2.result.now (c.as_slice.ensures.value ∙ ap (λ (q : StoreState). q.instances) c.self.view_is) c.as_slice-2.ensures.value (c.self.invariant.1 ∙ ap (λ (q : StoreState). open_from 0 q.instances) c.self.view_is) c.args.frame.now)
