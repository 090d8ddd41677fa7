use Rattle.std.proofs.Common.{ℕ, List, ◌&&◌, filter, sym, ap, ◌∙◌, arith}
use Rattle.locus_ids.specs.Sites.{has}
use Rattle.role_steps.specs.Views.{first_site, is_member}
use Rattle.role_steps.proofs.Numbers.{no_site}
use Rattle.site_frame.proofs.frame.SiteFrame.first_member.Goals as goal

pub returns : goal.returns
returns c = ap (λ (ss : List ℕ). first_site (filter (λ s. has c.args.set s && is_member c.args.self.now.members s) ss)) (sym (no_site c.loop-place.place (omega arith))) ∙ c.loop-place.invariant
