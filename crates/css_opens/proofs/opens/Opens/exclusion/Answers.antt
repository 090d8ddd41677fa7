use Rattle.std.proofs.Common.{List, map, filter, ap, ◌∙◌}
use Rattle.std.specs.Option.{option_map}
use Rattle.commit_graph.specs.Grants.{Opener, excluder}
use Rattle.css_opens.specs.OpenIndex.{busy, opener_now, is_now_on}
use Rattle.css_opens.specs.declared.now.OpenNow.{OpenNow}
use Rattle.css_opens.proofs.OpenRows.{same_openers}
use Rattle.css_opens.proofs.opens.Opens.exclusion.Goals as goal

pub returns : goal.returns
returns c =
    c.exclusion.ensures
    ∙ ap (λ (os : List Opener). option_map busy (excluder c.args.mode os))
    (ap (λ (ns : List OpenNow). map opener_now (filter (is_now_on c.args.file) ns)) c.as_slice.ensures.rows ∙ same_openers c.args.file c.self.inside.rows.items c.args.self.now c.self.inside.index c.self.inside.open c.self.invariant c.self.view_is)
