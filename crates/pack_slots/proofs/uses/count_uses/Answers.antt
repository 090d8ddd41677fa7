use Rattle.std.proofs.Common.{◌≡◌, ℕ, List, ◌++◌, length, get_or, take, drop, ◌∙◌, ap, arith}
use Rattle.std.proofs.lemmas.Grind.{common_steps}
use Rattle.pack_slots.proofs.uses.count_uses.Goals as goal

pub returns-clause-each : goal.returns-clause-each
returns-clause-each c page lt =
    let new = c.count_all-total.new.counts in
    let same : take c.in_ok-counts.counts.len (new ++ drop (length new) c.in_ok-counts.counts.items) ≡ new = grind (arith, common_steps) in
    ap (λ (l : List ℕ). get_or l page 0) same ∙ c.count_all-total.ensures.each page lt
