use Rattle.std.proofs.Common.{◌∙◌, ◌&&◌, Some, None, ap, sym}
use Rattle.std.specs.List.{find}
use Rattle.std.specs.Option.{is_none}
use Rattle.tree_model.specs.Epochs.{is_in}
use Rattle.promises.specs.Past.{CallSoFar}
use Rattle.promises.specs.After.{is_id}
use Rattle.promises.specs.Rows.{asks_open}
use Rattle.promises.specs.Tree.{is_placed, open_refusal}
use Rattle.audit_told_calls.proofs.Found.{and_both, and_none, if_ok, step_found}
use Rattle.audit_rows.proofs.granting.is_granted_so.Goals as goal

pub returns-in_default : goal.returns-in_default
returns-in_default c =
    sym (step_found c.args.told.now c.args.open.call (λ (k : CallSoFar). is_in k.epoch c.args.t.now.id && (asks_open c.args.config.now c.args.told.now c.args.open.request c.args.open.mode c.args.open.file k && (is_none (open_refusal c.args.config.now c.args.told.now c.args.t.now k c.args.open.mode c.args.open.file) && is_placed c.args.config.now c.args.told.now c.args.t.now k c.args.open.mode c.args.open.file c.args.grant.stamp c.args.grant.ss))) None c.requires (c.in_default.ensures ∙ ap (find (is_id c.args.open.call)) c.calls.ensures))

pub returns-then-not-is_in : goal.returns-then-not-is_in
returns-then-not-is_in c =
    and_none (is_in c.in-Some.k.now.epoch c.args.t.now.id) (asks_open c.args.config.now c.args.told.now c.args.open.request c.args.open.mode c.args.open.file c.in-Some.k.now && (is_none (open_refusal c.args.config.now c.args.told.now c.args.t.now c.in-Some.k.now c.args.open.mode c.args.open.file) && is_placed c.args.config.now c.args.told.now c.args.t.now c.in-Some.k.now c.args.open.mode c.args.open.file c.args.grant.stamp c.args.grant.ss))
    (c.if-not-is_in.ensures ∙ (ap (λ h. is_in h c.id.result) c.epoch.ensures ∙ ap (is_in c.in-Some.k.now.epoch) c.id.ensures))
    ∙ sym (step_found c.args.told.now c.args.open.call (λ (k : CallSoFar). is_in k.epoch c.args.t.now.id && (asks_open c.args.config.now c.args.told.now c.args.open.request c.args.open.mode c.args.open.file k && (is_none (open_refusal c.args.config.now c.args.told.now c.args.t.now k c.args.open.mode c.args.open.file) && is_placed c.args.config.now c.args.told.now c.args.t.now k c.args.open.mode c.args.open.file c.args.grant.stamp c.args.grant.ss))) (Some c.in-Some.k.now) c.requires (c.in-Some.ensures ∙ ap (find (is_id c.args.open.call)) c.calls.ensures))

pub returns : goal.returns
returns c =
    if_ok c.is_asked_so.result c.is_asked_so.ensures
    (λ b e. and_both b (is_in c.in-Some.k.now.epoch c.args.t.now.id) (asks_open c.args.config.now c.args.told.now c.args.open.request c.args.open.mode c.args.open.file c.in-Some.k.now && (is_none (open_refusal c.args.config.now c.args.told.now c.args.t.now c.in-Some.k.now c.args.open.mode c.args.open.file) && is_placed c.args.config.now c.args.told.now c.args.t.now c.in-Some.k.now c.args.open.mode c.args.open.file c.args.grant.stamp c.args.grant.ss))
    (c.if-not-is_in.ensures ∙ (ap (λ h. is_in h c.id.result) c.epoch.ensures ∙ ap (is_in c.in-Some.k.now.epoch) c.id.ensures)) e
    ∙ sym (step_found c.args.told.now c.args.open.call (λ (k : CallSoFar). is_in k.epoch c.args.t.now.id && (asks_open c.args.config.now c.args.told.now c.args.open.request c.args.open.mode c.args.open.file k && (is_none (open_refusal c.args.config.now c.args.told.now c.args.t.now k c.args.open.mode c.args.open.file) && is_placed c.args.config.now c.args.told.now c.args.t.now k c.args.open.mode c.args.open.file c.args.grant.stamp c.args.grant.ss))) (Some c.in-Some.k.now) c.requires (c.in-Some.ensures ∙ ap (find (is_id c.args.open.call)) c.calls.ensures)))
