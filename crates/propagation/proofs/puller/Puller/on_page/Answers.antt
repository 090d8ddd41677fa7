use Rattle.std.proofs.Common.{◌≡◌, ◌∙◌, ◌++◌, ℕ, List, ap, sym, subst, OnOk}
use Rattle.role_steps.specs.Views.{Outcome}
use Rattle.role_steps.specs.Pulling.{goes_on}
use Rattle.role_steps.specs.declared.pulls.Pull.{Pull}
use Rattle.propagation.specs.Sized.{IsSized}
use Rattle.propagation.proofs.Sizes.{awaited_sized, awaited_row, page_taken}
use Rattle.propagation.proofs.puller.Puller.on_page.Goals as goal

pub go_on-requires : goal.go_on-requires
go_on-requires c =
    subst (λ (cs : List ℕ). IsSized (record c.in-Some.pull { content = cs })) (sym c.in_ok-append.ensures.ok)
    (awaited_sized c.in-Some.pull c.args.stamp c.args.page c.args.bytes.now c.in-Some.ensures.sized
    (awaited_row c.args.file c.args.stamp c.args.page c.args.bytes.now c.args.self.now c.in-Some.pull (sym c.awaits.ensures.test ∙ c.if-not-awaits.false) (sym c.in-Some.ensures.taken)))

pub returns-clause-view : goal.returns-clause-view
returns-clause-view c =
    subst (λ (o : Outcome (List Pull)). OnOk c.go_on.result (c.go_on.new.self ≡ o.view))
    (ap (λ (cs : List ℕ). goes_on c.args.frame.now (record c.in-Some.pull { content = cs }) c.take.new.self) c.in_ok-append.ensures.ok
    ∙ (ap (λ (ps : List Pull). goes_on c.args.frame.now (record c.in-Some.pull { content = c.in-Some.pull.content ++ c.args.bytes.now }) ps) c.in-Some.ensures.left
    ∙ page_taken c.args.frame.now c.args.file c.args.stamp c.args.page c.args.bytes.now c.args.self.now c.in-Some.pull c.awaits.ensures.rising (sym c.awaits.ensures.test ∙ c.if-not-awaits.false) (sym c.in-Some.ensures.taken)))
    c.go_on.ensures.view
