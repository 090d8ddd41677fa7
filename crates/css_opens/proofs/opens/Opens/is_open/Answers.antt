use Rattle.std.proofs.Common.{List, ap, ◌∙◌}
use Rattle.std.specs.List.{list_any}
use Rattle.css_opens.specs.OpenIndex.{is_now_on}
use Rattle.css_opens.specs.declared.now.OpenNow.{OpenNow}
use Rattle.css_opens.proofs.OpenRows.{same_any}
use Rattle.css_opens.proofs.opens.Opens.is_open.Goals as goal

pub returns : goal.returns
returns c =
    c.is_open.ensures
    ∙ (ap (λ (ns : List OpenNow). list_any (is_now_on c.args.file) ns) c.as_slice.ensures.rows ∙ same_any c.args.file c.self.inside.rows.items c.args.self.now c.self.inside.index c.self.inside.open c.self.invariant c.self.view_is)
