use Rattle.std.proofs.Common.{◌≡◌, ℕ, length, subst, arith}
use Rattle.store_instances.proofs.Placing.{AreBelow, placed_at}
use Rattle.store_instances.proofs.pages.place_in.Goals as goal

pub returns-then-page-pages-clause-place : goal.returns-then-page-pages-clause-place
returns-then-page-pages-clause-place c = placed_at c.args.pages.now c.loop-at.at c.args.page (omega arith) c.loop-at.invariant (λ m. c.if-page-pages.true)

pub returns-clause-place : goal.returns-clause-place
returns-clause-place c =
    let all : c.loop-at.at ≡ length c.args.pages.now = omega arith in
    placed_at c.args.pages.now (length c.args.pages.now) c.args.page (omega arith) (subst (λ (n : ℕ). AreBelow c.args.pages.now n c.args.page) all c.loop-at.invariant) (λ m. absurd (omega arith))
