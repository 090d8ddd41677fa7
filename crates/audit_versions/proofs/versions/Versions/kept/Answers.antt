use Rattle.std.proofs.Common.{◌≡◌, ap, sym, ◌∙◌, subst, true, List, IfOk}
use Rattle.std.specs.List.{list_all}
use Rattle.plain_facts.proofs.Tests.{both_true}
use Rattle.locus_ids.specs.declared.ids.Stamp.{Stamp}
use Rattle.commit_graph.specs.Versions.{is_in, kept}
use Rattle.audit_versions.specs.Regular.{is_regular}
use Rattle.audit_versions.specs.Keeping.{ascend, has_number}
use Rattle.audit_versions.proofs.Tops.{kept_by_tops}
use Rattle.audit_versions.proofs.versions.Versions.kept.Goals as goal

pub returns-then-has_all : goal.returns-then-has_all
returns-then-has_all c =
    let regular : is_regular c.args.self.now ≡ true = ap is_regular (sym c.self.view_is) ∙ (sym c.self.invariant.told ∙ c.if-self.true) in
    let order = both_true (ascend c.args.brought.now) (list_all has_number c.args.brought.now) (sym c.if-are_in_order.ensures) in
    let tops_are = c.as_slice-then-has_all.ensures ∙ c.in_ok-tops.ensures in
    let all = ap (list_all (is_in c.args.self.now c.args.file)) (sym (c.as_slice.ensures ∙ c.in_ok-tops.ensures)) ∙ sym c.if-has_all.ensures in
    subst (λ (ks : List Stamp). IfOk c.kept_of.result (λ made. made ≡ ks))
    (ap (kept c.args.self.now c.args.file) tops_are ∙ sym (kept_by_tops c.args.file c.args.self.now regular c.args.brought.now order.0 order.1 all))
    c.kept_of.ensures
