use Rattle.std.proofs.Common.{◌≡◌, ◌∙◌, ℕ, List, Some, ap, sym, subst, OnOk}
use Rattle.role_steps.specs.Views.{Outcome}
use Rattle.role_steps.specs.Pulling.{goes_on}
use Rattle.role_steps.specs.declared.pulls.Pull.{Pull}
use Rattle.propagation.specs.Sized.{IsSized, pages_in_head}
use Rattle.propagation.proofs.Sizes.{delta_sized, wanted_row, delta_taken}
use Rattle.propagation.proofs.puller.Puller.take_delta.Goals as goal

pub go_on-requires : goal.go_on-requires
go_on-requires c =
    subst (λ (ps : List ℕ). IsSized (record c.in-Some.pull { wanted = Some ps })) (sym c.in_ok-listed.ensures)
    (delta_sized (pages_in_head c.args.own.now) c.in-Some.pull c.args.stamp c.args.pages.now c.in-Some.ensures.sized
    (wanted_row c.args.own.now c.args.file c.args.stamp c.args.pages.now c.args.self.now c.in-Some.pull (sym c.wants.ensures.test ∙ c.if-not-wants.false) (sym c.in-Some.ensures.taken)))

pub returns-clause-view : goal.returns-clause-view
returns-clause-view c =
    subst (λ (o : Outcome (List Pull)). OnOk c.go_on.result (c.go_on.new.self ≡ o.view))
    (ap (λ (ps : List ℕ). goes_on c.args.frame.now (record c.in-Some.pull { wanted = Some ps }) c.take.new.self) c.in_ok-listed.ensures
    ∙ (ap (λ (ps : List Pull). goes_on c.args.frame.now (record c.in-Some.pull { wanted = Some c.args.pages.now }) ps) c.in-Some.ensures.left
    ∙ delta_taken c.args.frame.now c.args.own.now c.args.file c.args.stamp c.args.pages.now c.args.self.now c.in-Some.pull c.wants.ensures.rising (sym c.wants.ensures.test ∙ c.if-not-wants.false) (sym c.in-Some.ensures.taken)))
    c.go_on.ensures.view
