use Rattle.std.proofs.Common.{ℕ, ◌==◌, Bool, sym, ap, ◌∙◌, rules}
use Rattle.std.specs.Prelude.{cond, filter, not}
use Rattle.std.proofs.lemmas.Fn.{filter_same}
use Rattle.storage_site.proofs.store.keep_open.Goals as goal

pub returns-then-not-is_open : goal.returns-then-not-is_open
returns-then-not-is_open c =
    filter_same _ (λ (q : ℕ). not (q == c.args.place)) _ (λ x b f' k. search rules) _ _ c.retain.ensures.filtered
    ∙ ap (λ (b : Bool). cond b c.args.standing.now.items (filter (λ (q : ℕ). not (q == c.args.place)) c.args.standing.now.items)) (sym c.if-not-is_open.true)
