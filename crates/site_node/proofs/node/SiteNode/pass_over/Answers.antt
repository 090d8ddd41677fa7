use Rattle.std.proofs.Common.{None, Some, sym, ◌∙◌}
use Rattle.site_node.proofs.Joins.{decided_at, passes_none, passes_some}
use Rattle.site_node.proofs.node.SiteNode.pass_over.Goals as goal

pub returns-in-None : goal.returns-in-None
returns-in-None c = passes_none c.args.self.now.frame.config c.args.self.now.frame.me c.args.links.now c.args.self.now c.pass_over.new.self c.args.out.now (λ v. c.passing_by_parts.ensures c.args.self.now.frame.config c.args.self.now.frame.me c.args.links.now v) (decided_at c.site-me.result c.args.links.now c.args.self.now None c.site-me.ensures (sym c.in-None.is ∙ c.pass_over.ensures.decided)) c.pass_over.ensures.view

pub returns-in_ok-decide-in-Some : goal.returns-in_ok-decide-in-Some
returns-in_ok-decide-in-Some c = passes_some c.args.self.now.frame.config c.args.self.now.frame.me c.args.links.now c.in-Some.epoch c.args.self.now c.decide.new.self c.pass_over.new.self c.args.out.now c.decide.new.out (λ v. c.passing_by_parts.ensures c.args.self.now.frame.config c.args.self.now.frame.me c.args.links.now v) (decided_at c.site-me.result c.args.links.now c.args.self.now (Some c.in-Some.epoch) c.site-me.ensures (sym c.in-Some.is ∙ c.pass_over.ensures.decided)) c.pass_over.ensures.view c.in_ok-decide-in-Some.ensures
