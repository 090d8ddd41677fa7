use Rattle.std.proofs.Common.{◌≡◌, ◌++◌, Option, Some, None, sym, ap, ◌∙◌}
use Rattle.std.specs.Prelude.{slice_get}
use Rattle.std.specs.Option.{option_copied}
use Rattle.role_steps.specs.declared.instances.Instance.{Instance}
use Rattle.store_instances.proofs.Latest.{nothing_more}
use Rattle.storage_site.specs.Standing.{again_by}
use Rattle.storage_site.proofs.telling.repeat_one.Goals as goal

pub returns-in_default-clause-packets : goal.returns-in_default-clause-packets
returns-in_default-clause-packets c =
    let none : None ≡ slice_get c.args.rows.now c.args.place = sym (ap (λ o. option_copied o) c.in_default.is) ∙ c.row_at.ensures in
    nothing_more c.args.out.now.packets ∙ ap (λ (o : Option Instance). c.args.out.now.packets ++ again_by c.args.frame.now o) none

pub returns-clause-packets : goal.returns-clause-packets
returns-clause-packets c =
    let there : Some c.in-Some.row.now ≡ slice_get c.args.rows.now c.args.place = sym (ap (λ o. option_copied o) c.in-Some.is) ∙ c.row_at.ensures in
    c.in_ok-repeat.ensures.packets ∙ ap (λ (o : Option Instance). c.args.out.now.packets ++ again_by c.args.frame.now o) there
