use Rattle.std.proofs.Common.{◌≡◌, ◌≤◌, ◌*◌, ◌∙◌, ℕ, None, get_or, subst, arith}
use Rattle.std.specs.Option.{is_some}
use Rattle.locus_ids.specs.Sizes.{page_bytes}
use Rattle.shadow_pages.specs.Working.{Working, count_below}
use Rattle.shadow_pages.proofs.Counts.{number_first}
use Rattle.shadow_pages.proofs.shadow.Shadow.changed.Goals as goal

pub returns-clause-first : goal.returns-clause-first
returns-clause-first c =
    let inv = c.self.invariant in
    subst (λ (w : Working). (n : ℕ) → w.size ≤ page_bytes * n → c.self.inside.count ≡ count_below (λ i. is_some (get_or w.pages i None)) n) c.self.view_is
    (λ n most. inv.2 ∙ number_first c.self.inside.pages.items n (let few = inv.1 in omega arith))
