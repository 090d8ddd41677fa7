use Rattle.std.proofs.Common.{◌∙◌}
use Rattle.css_core.proofs.Reported.{all_reported}
use Rattle.css_core.proofs.css.Css.have_all_reported.Goals as goal

pub returns : goal.returns
returns c = all_reported c.has_all.result c.args.frame.now _ c.args.self.now c.pack_sites-packs.result c.as_slice.result.now c.self.view_is c.pack_sites-packs.ensures (c.as_slice.ensures.value ∙ c.in_ok-members.ensures) c.has_all.ensures
