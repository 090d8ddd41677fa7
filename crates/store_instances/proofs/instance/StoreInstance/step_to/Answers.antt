use Rattle.std.proofs.Common.{ap, ◌∙◌}
use Rattle.store_instances.proofs.Stepping.{step_so}
use Rattle.store_instances.specs.declared.instance.StoreInstance.TheInside.{Inside}
use Rattle.role_steps.specs.declared.instances.Instance.{Instance}
use Rattle.site_packs.specs.Packs.{copy_at}
use Rattle.store_instances.proofs.instance.StoreInstance.step_to.Goals as goal

pub returns : goal.returns
returns c image x shown is =
    step_so c.stamp_before-before.result c.args.stamp c.in_ok-pages.pages c.as_slice-changed.result.now c.args.self.now.work.changed x (copy_at c.args.packs.now image c.args.self.now.file) (c.stamp_before-before.ensures image shown) is c.in_ok-pages.ensures
    (c.as_slice-changed.ensures ∙ ap (λ (s : Inside). s.work.changed) c.self-inside.view_is ∙ ap (λ (i : Instance). i.work.changed) c.self.view_is)
