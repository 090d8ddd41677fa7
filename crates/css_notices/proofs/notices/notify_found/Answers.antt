use Rattle.std.proofs.Common.{◌≡◌, ◌++◌, map, filter, not, OnOk, subst}
use Rattle.role_steps.specs.Notices.{notice}
use Rattle.role_steps.specs.Versions.{is_among}
use Rattle.css_notices.specs.Noticed.{notices_to}
use Rattle.css_notices.proofs.notices.notify_found.Goals as goal

pub returns-clause-packets : goal.returns-clause-packets
unfolding notices_to
returns-clause-packets c =
    subst (λ ms. OnOk c.notify_others.result (c.notify_others.new.out.packets ≡ c.args.out.now.packets ++ map (notice c.args.frame.now c.args.group c.args.file.now c.args.version.now c.args.holder) (filter (λ s. not (is_among s c.args.holders.now)) ms))) c.requires c.notify_others.ensures.packets
