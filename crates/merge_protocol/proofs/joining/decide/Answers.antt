use Rattle.std.proofs.Common.{◌≡◌, rules, IsTrue, true, false, Bool}
use Rattle.role_steps.specs.Epochs.{unanswered}
use Rattle.merge_protocol.proofs.Tabled.{none_decided}
use Rattle.merge_protocol.proofs.joining.decide.Goals as goal

pub returns-then-not-is_answered : goal.returns-then-not-is_answered
returns-then-not-is_answered c = none_decided c.args.me c.args.links.now c.args.boot c.args.round.now (unanswered c.args.round.now) (λ none. not_yet c.is_answered.result c.if-not-is_answered.true (c.is_answered.ensures.1 none))
  where
    not_yet : (b : Bool) → b ≡ false → IsTrue b → ⊥
    not_yet true e t = absurd (cc)
    not_yet false e t = absurd (search rules)
