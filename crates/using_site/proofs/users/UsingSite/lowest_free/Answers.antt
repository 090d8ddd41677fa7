use Rattle.std.proofs.Common.{ap, ◌∙◌}
use Rattle.call_rules.specs.Descriptors.{lowest_free}
use Rattle.role_steps.specs.Requests.{descriptors_of}
use Rattle.role_steps.specs.Views.{Users}
use Rattle.using_site.proofs.users.UsingSite.lowest_free.Goals as goal

pub returns : goal.returns
returns c = c.lowest_free.ensures ∙ ap (λ (u : Users). lowest_free (descriptors_of u c.args.process)) c.self.view_is
