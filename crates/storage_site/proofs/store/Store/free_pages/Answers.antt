use Rattle.std.proofs.Common.{◌≡◌, ℕ, ◌-◌, ◌∙◌, ap, arith}
use Rattle.role_steps.specs.Tables.{total}
use Rattle.role_steps.specs.Storage.{changed_pages}
use Rattle.store_instances.specs.Stores.{StoreState}
use Rattle.storage_site.specs.Standing.{open_from}
use Rattle.storage_site.proofs.Standing.{changed_standing}
use Rattle.storage_site.proofs.store.Store.free_pages.Goals as goal

pub returns : goal.returns
returns c image shown =
    let changed = changed_standing c.args.self.now.instances c.as_slice.result.now c.self.inside.standing.items c.as_slice-2.result.now (c.as_slice.ensures.value ∙ ap (λ (q : StoreState). q.instances) c.self.view_is) c.as_slice-2.ensures.value (c.self.invariant.1 ∙ ap (λ (q : StoreState). open_from 0 q.instances) c.self.view_is) c.args.group in
    let left : c.less_changed.result ≡ c.free_pages-free.result - total (changed_pages c.args.group) c.args.self.now.instances = c.less_changed.ensures ∙ ap (λ (n : ℕ). c.free_pages-free.result - n) changed in
    let room = c.free_pages-free.ensures image shown in
    omega (arith, left, room)
