use Rattle.std.proofs.Common.{◌∙◌, sym, arith, filter, rules}
use Rattle.epoch_rules.specs.of_role_steps.Views.{all_sites}
use Rattle.partition_protocol.specs.Promising.{is_missing}
use Rattle.partition_protocol.proofs.Rows.{none_passes, one_passes, all_passed}
use Rattle.partition_protocol.proofs.passed.has_all.Goals as goal

pub returns-then-is_missing : goal.returns-then-is_missing
returns-then-is_missing c = (λ f. absurd (search rules), λ none. absurd (one_passes (is_missing c.args.polled.now c.args.promises.now) c.loop-place.place c.site_at.result (filter (is_missing c.args.polled.now c.args.promises.now) all_sites) (omega arith) c.site_at.ensures (sym c.is_missing.ensures ∙ c.if-is_missing.true) c.loop-place.invariant none))

pub loop-place-preserved : goal.loop-place-preserved
loop-place-preserved c = none_passes (is_missing c.args.polled.now c.args.promises.now) c.loop-place.place c.site_at.result (filter (is_missing c.args.polled.now c.args.promises.now) all_sites) (omega arith) c.site_at.ensures (sym c.is_missing.ensures ∙ c.if-is_missing.false) c.loop-place.invariant

pub returns : goal.returns
returns c = (λ t. all_passed (is_missing c.args.polled.now c.args.promises.now) c.loop-place.place (filter (is_missing c.args.polled.now c.args.promises.now) all_sites) (omega arith) (omega arith) c.loop-place.invariant, λ none. search rules)
