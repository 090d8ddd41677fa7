use Rattle.std.proofs.Common.{rules, ◌≡◌, ◌<◌, ◌∙◌, sym, get_or, length, None, Some}
use Rattle.shadow_pages.proofs.Counts.{at_any}
use Rattle.shadow_pages.proofs.shadow.Shadow.page.Goals as goal

pub returns-in-Some-clause-zeros : goal.returns-in-Some-clause-zeros
returns-in-Some-clause-zeros c k lt past =
    let len : c.args.i < length c.self.inside.pages.items = search rules in
    let slot : get_or c.self.inside.pages.items c.args.i None ≡ Some c.in-Some.page = at_any c.self.inside.pages.items c.args.i None c.index.result.now len ∙ sym c.index.ensures ∙ c.in-Some.is in
    rw c.bytes.ensures.value (rw slot at (c.self.invariant.3 c.args.i k lt (rw (← c.self.view_is) at past)))
