use Rattle.std.proofs.Common.{ℕ, Bool, ◌&&◌, List, sym, ap, ◌∙◌}
use Rattle.std.specs.Prelude.{◌==◌, filter}
use Rattle.locus_ids.specs.declared.sites.Members.{Members}
use Rattle.tree_model.specs.Same.{same_brought}
use Rattle.promises.specs.Past.{Copy, is_number}
use Rattle.promises.specs.Same.{same_list}
use Rattle.audit_row_parts.specs.Parts.{are_joined_among, brought_of, is_synced_among}
use Rattle.audit_site_rows.proofs.Home.{unless}
use Rattle.audit_site_rows.proofs.starting.starts.Goals as goal

pub returns : goal.returns
returns c =
    let there : Members → List ℕ → Bool → Bool = λ m ns b. is_synced_among c.args.config.now m ns c.args.group && (are_joined_among c.args.config.now m ns c.args.group && b) in
    unless (is_number c.args.row.now.started c.args.group) _ c.are_there.result
    (sym (c.is_number.ensures ∙ ap (λ (ns : List ℕ). is_number ns c.args.group) c.started.ensures) ∙ c.if-is_number.false)
    (c.are_there.ensures
    ∙ ap (λ (m : Members). there m c.joined.result.now c.same_as_brought-as_brought.result) c.members.ensures
    ∙ ap (λ (ns : List ℕ). there c.args.row.now.members ns c.same_as_brought-as_brought.result) c.joined.ensures
    ∙ ap (λ (b : Bool). there c.args.row.now.members c.args.row.now.joined b)
    (c.same_as_brought-as_brought.ensures
    ∙ ap (λ (vs : List Copy). same_list same_brought c.args.copies.now (brought_of vs)) (c.as_slice.ensures ∙ (c.in_ok-known.ensures ∙ ap (filter (λ (v : Copy). v.file.group == c.args.group)) c.known.ensures))))
