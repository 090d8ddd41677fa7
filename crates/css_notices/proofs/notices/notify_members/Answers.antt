use Rattle.std.proofs.Common.{◌≡◌, ◌∙◌, ap}
use Rattle.role_steps.specs.Views.{members_of}
use Rattle.css_notices.proofs.notices.notify_members.Goals as goal

pub notify_found-requires : goal.notify_found-requires
notify_found-requires c = c.as_slice.ensures.value ∙ c.in_ok-members.ensures ∙ ap (members_of c.args.frame.now.members) c.set.ensures
