use Rattle.std.proofs.Common.{List, ℕ, Option, take, sym, ap, ◌∙◌}
use Rattle.role_steps.specs.Storage.{delta_of}
use Rattle.storage_site.proofs.Chains.{all_written}
use Rattle.storage_site.proofs.deltas.delta_of.Goals as goal

pub returns-in_ok-pages-in-Some : goal.returns-in_ok-pages-in-Some
returns-in_ok-pages-in-Some c = c.in_ok-pages-in-Some.ensures ∙ all_written (take c.in-Some.number c.args.steps.now) c.args.count ∙ ap (λ (o : Option (List ℕ)). delta_of c.args.count o) (sym c.in-Some.ensures.some)
