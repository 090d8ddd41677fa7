use Rattle.std.proofs.Common.{ap, ◌∙◌}
use Rattle.locus_ids.specs.declared.sites.Sites.{Sites}
use Rattle.role_steps.specs.Views.{first_site, members_of}
use Rattle.site_frame.proofs.frame.SiteFrame.sync_site.Goals as goal

pub returns : goal.returns
returns c = c.first_member.ensures ∙ ap (λ (s : Sites). first_site (members_of c.args.self.now.members s)) c.pack_sites.ensures
