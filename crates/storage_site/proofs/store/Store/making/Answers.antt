use Rattle.std.proofs.Common.{◌∙◌, ap}
use Rattle.store_instances.specs.Stores.{StoreState}
use Rattle.storage_site.specs.Standing.{open_from}
use Rattle.storage_site.proofs.Standing.{made_standing}
use Rattle.storage_site.proofs.store.Store.making.Goals as goal

pub returns : goal.returns
returns c =
    c.in_ok-making.ensures
    ∙ made_standing c.args.self.now.instances c.as_slice.result.now c.self.inside.standing.items c.as_slice-2.result.now (c.as_slice.ensures.value ∙ ap (λ (q : StoreState). q.instances) c.self.view_is) c.as_slice-2.ensures.value (c.self.invariant.1 ∙ ap (λ (q : StoreState). open_from 0 q.instances) c.self.view_is) c.args.group
