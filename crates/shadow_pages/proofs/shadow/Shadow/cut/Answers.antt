use Rattle.std.proofs.Common.{arith}
use Rattle.shadow_pages.proofs.Cut.{content_cut, content_uncut}
use Rattle.shadow_pages.proofs.shadow.Shadow.cut.Goals as goal

pub returns-then-len-self-clause-content : goal.returns-then-len-self-clause-content
returns-then-len-self-clause-content c old = rw (← c.self.view_is) (content_uncut old (record { size = c.self.inside.size; pages = c.self.inside.pages.items }) c.args.len c.if-len-self.true)

pub returns-clause-content : goal.returns-clause-content
returns-clause-content c old = rw (← c.self.view_is) (content_cut old (record { size = c.self.inside.size; pages = c.self.inside.pages.items }) c.args.len c.cut_pages.new.pages.items (omega (arith, c.if-len-self.false)) c.cut_pages.ensures.bytes)
