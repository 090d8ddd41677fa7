use Rattle.std.proofs.Common.{◌≡◌, ◌++◌, filter, ap, ◌∙◌, OnOk, subst}
use Rattle.std.specs.List.{flat_map}
use Rattle.role_steps.specs.Views.{Frame}
use Rattle.role_steps.specs.Notices.{file_notices}
use Rattle.css_versions.specs.Lists.{found_rows, lags}
use Rattle.css_notices.proofs.Late.{late_notices}
use Rattle.css_notices.proofs.notices.notify_again.Goals as goal

pub returns-in-Some-clause-packets : goal.returns-in-Some-clause-packets
returns-in-Some-clause-packets c =
    let same : flat_map (file_notices c.args.frame.now c.args.group) (found_rows c.args.files.now c.in-Some.late.now) ≡ flat_map (file_notices c.args.frame.now c.args.group) c.args.files.now =
    ap (flat_map (file_notices c.args.frame.now c.args.group)) (c.in-Some.ensures ∙ ap (λ (f : Frame). filter (lags f.members) c.args.files.now) c.frame.view_is)
    ∙ late_notices c.args.frame.now c.args.group c.args.files.now in
    subst (λ ps. OnOk c.notify_listed.result (c.notify_listed.new.out.packets ≡ c.args.out.now.packets ++ ps)) same c.notify_listed.ensures.packets
