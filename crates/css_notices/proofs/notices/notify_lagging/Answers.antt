use Rattle.std.proofs.Common.{◌≡◌, ◌++◌, ◌∙◌, ap, OnOk, subst}
use Rattle.css_notices.specs.Noticed.{notices_kept}
use Rattle.css_notices.proofs.Notified.{kept_notices}
use Rattle.css_notices.proofs.notices.notify_lagging.Goals as goal

pub returns-clause-packets : goal.returns-clause-packets
returns-clause-packets c =
    subst (λ ps. OnOk c.notify_kept.result (c.notify_kept.new.out.packets ≡ c.args.out.now.packets ++ ps)) (ap (notices_kept c.args.frame.now c.args.group c.args.file.now) c.kept.ensures ∙ kept_notices c.args.frame.now c.args.group c.args.file.now) c.notify_kept.ensures.packets
