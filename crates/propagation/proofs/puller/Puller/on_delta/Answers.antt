use Rattle.std.proofs.Common.{◌≡◌, ◌∙◌, ◌++◌, ℕ, ap, sym, subst, OnOk}
use Rattle.role_steps.specs.Pulling.{on_delta_of, pull_of}
use Rattle.propagation.specs.Sized.{pages_in_head}
use Rattle.propagation.proofs.Sizes.{pages_head}
use Rattle.propagation.proofs.puller.Puller.on_delta.Goals as goal

pub returns-clause-view : goal.returns-clause-view
returns-clause-view c copy e =
    subst (λ (own : ℕ). OnOk c.take_delta.result (c.take_delta.new.self ≡ (on_delta_of c.args.frame.now own c.args.stamp c.args.pages.now (pull_of c.args.self.now c.args.file) c.args.self.now).view))
    (ap pages_in_head (sym e) ∙ pages_head copy) c.take_delta.ensures.view

pub returns-clause-packets : goal.returns-clause-packets
returns-clause-packets c copy e =
    subst (λ (own : ℕ). OnOk c.take_delta.result (c.take_delta.new.out.packets ≡ c.args.out.now.packets ++ (on_delta_of c.args.frame.now own c.args.stamp c.args.pages.now (pull_of c.args.self.now c.args.file) c.args.self.now).sent))
    (ap pages_in_head (sym e) ∙ pages_head copy) c.take_delta.ensures.packets
