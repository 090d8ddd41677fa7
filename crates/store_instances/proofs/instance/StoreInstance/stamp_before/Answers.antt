use Rattle.std.proofs.Common.{ap, ◌∙◌}
use Rattle.std.specs.Option.{option_map}
use Rattle.role_steps.specs.Storage.{reported}
use Rattle.role_steps.specs.declared.instances.Instance.{Instance}
use Rattle.store_instances.proofs.Stepping.{none_before, some_before}
use Rattle.site_packs.specs.Packs.{copy_at}
use Rattle.store_instances.proofs.instance.StoreInstance.stamp_before.Goals as goal

pub returns-in-Some : goal.returns-in-Some
returns-in-Some c image shown = some_before c.head.result c.in-Some.copy (copy_at c.args.packs.now image c.args.self.now.file) c.in-Some.is (c.head.ensures image shown ∙ ap (λ (i : Instance). option_map reported (copy_at c.args.packs.now image i.file)) c.self.view_is)

pub returns-in-None : goal.returns-in-None
returns-in-None c image shown = none_before c.head.result (copy_at c.args.packs.now image c.args.self.now.file) c.in-None.is (c.head.ensures image shown ∙ ap (λ (i : Instance). option_map reported (copy_at c.args.packs.now image i.file)) c.self.view_is)
