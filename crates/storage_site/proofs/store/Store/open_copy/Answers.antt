use Rattle.std.proofs.Common.{ℕ, List, sym, ap, subst, ◌∙◌}
use Rattle.role_steps.specs.Tables.{row}
use Rattle.role_steps.specs.Storage.{StoreRequest, instance_key, is_open, opens}
use Rattle.role_steps.specs.declared.instances.Instance.{Instance}
use Rattle.store_instances.specs.Stores.{Gives, begun_with, is_make, store_of}
use Rattle.storage_site.proofs.Opens.{copy_opened}
use Rattle.store_instances.proofs.Fits.{memory_fit, refused_read}
use Rattle.storage_site.proofs.store.Store.open_copy.Goals as goal

pub begin-requires-clause-absent : goal.begin-requires-clause-absent
begin-requires-clause-absent g c = ap (λ (i : Instance). row instance_key (instance_key i) c.args.self.now.instances) c.begun-new.ensures ∙ c.requires.absent

pub begin-requires-clause-stands : goal.begin-requires-clause-stands
begin-requires-clause-stands g c = ap (λ (i : Instance). is_open i.stage) c.begun-new.ensures

pub returns-clause-gives : goal.returns-clause-gives
returns-clause-gives g c =
    let q : StoreRequest = record { inst = c.asked.inside.inst; file = c.asked.inside.file; mode = c.asked.inside.mode; set = c.asked.inside.set; kind = c.asked.inside.kind; base = c.asked.inside.base; vector = c.asked.inside.vector; parents = c.asked.inside.parents } in
    let image : List ℕ = (g.D.Disk.moment c.args.disk.now).seen in
    let now : List ℕ = (g.D.Disk.moment c.read.new.disk).seen in
    subst (λ (r : StoreRequest). Gives (opens c.args.frame.now r r.mode (store_of c.args.self.now c.args.packs.now image)) (store_of c.begin.new.self c.args.packs.now now) c.args.out.now c.begin.new.out) c.asked.view_is
    (copy_opened c.args.frame.now q c.args.self.now c.begin.new.self c.args.packs.now image now c.args.out.now c.begin.new.out c.begun-new.result c.head-head.result c.base_of-base.result c.in_ok-content.content
    (ap (λ (r : StoreRequest). is_make r.mode) c.asked.view_is ∙ c.requires.stays) (c.head-head.ensures image c.requires.stands.shown) c.base_of-base.ensures (c.in_ok-content.ensures ∙ (c.as_slice.ensures ∙ c.in_ok-read.ensures.content))
    (c.begun-new.ensures ∙ ap (λ (r : StoreRequest). begun_with r c.asked.inside.file c.base_of-base.result c.in_ok-content.content) (sym c.asked.view_is))
    c.in_ok-begin.ensures.row c.read.ensures.seen c.in_ok-begin.ensures.packets c.in_ok-begin.ensures.records)

pub returns-in_err-read-clause-fit : goal.returns-in_err-read-clause-fit
returns-in_err-read-clause-fit g c = refused_read c.in_err-read.field-0.0 c.from_residual.result c.from_residual.ensures.1

pub returns-in_err-content-clause-fit : goal.returns-in_err-content-clause-fit
returns-in_err-content-clause-fit g c = memory_fit c.from_residual-in_err-content.result c.from_residual-in_err-content.ensures.1

pub returns-in_err-begin-clause-fit : goal.returns-in_err-begin-clause-fit
returns-in_err-begin-clause-fit g c = memory_fit c.from_residual-in_err-begin.result c.from_residual-in_err-begin.ensures.1
