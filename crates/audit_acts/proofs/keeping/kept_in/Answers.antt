use Rattle.std.proofs.Common.{◌≡◌, ap, sym, ◌∙◌, subst, List, map, IfOk}
use Rattle.std.specs.List.{filter, list_all}
use Rattle.locus_ids.specs.declared.ids.Stamp.{Stamp}
use Rattle.commit_graph.specs.Versions.{is_in, kept, same_file}
use Rattle.promises.specs.Past.{Copy}
use Rattle.past_laws.proofs.Names.{both_parts}
use Rattle.audit_versions.specs.Keeping.{ascend, has_number}
use Rattle.audit_versions.proofs.Tops.{kept_by_tops}
use Rattle.audit_acts.proofs.keeping.kept_in.Goals as goal

pub returns-then-has_all : goal.returns-then-has_all
returns-then-has_all c =
    let cs : List Stamp = map (λ (v : Copy). v.stamp) (filter (λ (v : Copy). same_file v.file c.args.file) c.args.known.now) in
    let order = both_parts (ascend cs) (list_all has_number cs) (sym c.if-are_in_order.ensures) in
    let tops_are = c.as_slice-then-has_all.ensures ∙ c.in_ok-tops.ensures in
    let all = ap (list_all (is_in c.args.h.now c.args.file)) (sym (c.as_slice.ensures ∙ c.in_ok-tops.ensures)) ∙ sym c.if-has_all.ensures in
    subst (λ (ks : List Stamp). IfOk c.kept.result (λ made. made ≡ ks))
    (ap (kept c.args.h.now c.args.file) tops_are ∙ sym (kept_by_tops c.args.file c.args.h.now (sym c.if-is_regular.ensures) cs order.0 order.1 all))
    c.kept.ensures
