use Rattle.std.proofs.Common.{◌==◌, rules}
use Rattle.std.specs.Prelude.{not}
use Rattle.std.proofs.lemmas.Fn.{filter_same}
use Rattle.audit_calls.specs.declared.waiting.WaitingRow.{WaitingRow}
use Rattle.audit_calls.proofs.waiting.forget.Goals as goal

pub returns : goal.returns
returns c = filter_same _ (λ (w : WaitingRow). not (w.place == c.args.place)) _ (λ x b f' k. search rules) _ _ c.retain.ensures.filtered
