use Rattle.std.proofs.Common.{◌∙◌, ◌&&◌, Some, None, ap, sym}
use Rattle.std.specs.List.{find}
use Rattle.tree_model.specs.Epochs.{is_in}
use Rattle.promises.specs.Past.{CallSoFar}
use Rattle.promises.specs.After.{is_id}
use Rattle.promises.specs.Rows.{asks_open, is_refused}
use Rattle.audit_told_calls.proofs.Found.{and_both, and_none, if_ok, step_found}
use Rattle.audit_rows.proofs.refusing.is_refused_so.Goals as goal

pub returns-in_default : goal.returns-in_default
returns-in_default c =
    sym (step_found c.args.told.now c.args.open.call (λ (k : CallSoFar). is_in k.epoch c.args.t.now.id && (asks_open c.args.config.now c.args.told.now c.args.open.request c.args.open.mode c.args.open.file k && is_refused c.args.config.now c.args.told.now c.args.t.now c.args.open.mode c.args.open.file c.args.why.now k)) None c.requires (c.in_default.ensures ∙ ap (find (is_id c.args.open.call)) c.calls.ensures))

pub returns-then-not-is_in : goal.returns-then-not-is_in
returns-then-not-is_in c =
    and_none (is_in c.in-Some.k.now.epoch c.args.t.now.id) (asks_open c.args.config.now c.args.told.now c.args.open.request c.args.open.mode c.args.open.file c.in-Some.k.now && is_refused c.args.config.now c.args.told.now c.args.t.now c.args.open.mode c.args.open.file c.args.why.now c.in-Some.k.now)
    (c.if-not-is_in.ensures ∙ (ap (λ h. is_in h c.id.result) c.epoch.ensures ∙ ap (is_in c.in-Some.k.now.epoch) c.id.ensures))
    ∙ sym (step_found c.args.told.now c.args.open.call (λ (k : CallSoFar). is_in k.epoch c.args.t.now.id && (asks_open c.args.config.now c.args.told.now c.args.open.request c.args.open.mode c.args.open.file k && is_refused c.args.config.now c.args.told.now c.args.t.now c.args.open.mode c.args.open.file c.args.why.now k)) (Some c.in-Some.k.now) c.requires (c.in-Some.ensures ∙ ap (find (is_id c.args.open.call)) c.calls.ensures))

pub returns : goal.returns
returns c =
    if_ok c.is_asked_so.result c.is_asked_so.ensures
    (λ b e. and_both b (is_in c.in-Some.k.now.epoch c.args.t.now.id) (asks_open c.args.config.now c.args.told.now c.args.open.request c.args.open.mode c.args.open.file c.in-Some.k.now && is_refused c.args.config.now c.args.told.now c.args.t.now c.args.open.mode c.args.open.file c.args.why.now c.in-Some.k.now)
    (c.if-not-is_in.ensures ∙ (ap (λ h. is_in h c.id.result) c.epoch.ensures ∙ ap (is_in c.in-Some.k.now.epoch) c.id.ensures)) e
    ∙ sym (step_found c.args.told.now c.args.open.call (λ (k : CallSoFar). is_in k.epoch c.args.t.now.id && (asks_open c.args.config.now c.args.told.now c.args.open.request c.args.open.mode c.args.open.file k && is_refused c.args.config.now c.args.told.now c.args.t.now c.args.open.mode c.args.open.file c.args.why.now k)) (Some c.in-Some.k.now) c.requires (c.in-Some.ensures ∙ ap (find (is_id c.args.open.call)) c.calls.ensures)))
