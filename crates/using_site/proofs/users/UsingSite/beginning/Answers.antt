use Rattle.std.proofs.Common.{ap, ◌∙◌}
use Rattle.call_rules.specs.Descriptors.{beginning}
use Rattle.role_steps.specs.Requests.{descriptors_of}
use Rattle.role_steps.specs.Views.{Users}
use Rattle.using_site.proofs.users.UsingSite.beginning.Goals as goal

pub returns : goal.returns
returns c = c.begins_call.ensures ∙ ap (λ (u : Users). beginning (descriptors_of u c.args.process) c.args.now c.args.call c.args.words.now) c.self.view_is
