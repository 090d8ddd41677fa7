use Rattle.std.proofs.Common.{◌≡◌, ◌≤◌, ◌+◌, get_or, None}
use Rattle.std.specs.Option.{is_none}
use Rattle.shadow_pages.specs.Working.{count_below}
use Rattle.shadow_pages.proofs.shadow.count_unchanged.Given as goal

abbrev pub invariant-loop-i : goal.invariant-loop-i
invariant-loop-i l = (l.count + count_below (λ i. is_none (get_or l.pages i None)) l.fn.span.first ≡ count_below (λ i. is_none (get_or l.pages i None)) l.i) × (l.count + l.fn.span.first ≤ l.i)
