-- What a poll is answered.
use Rattle.std.specs.Prelude.{◌&&◌, not, cond}
use Rattle.locus_ids.specs.declared.ids.EpochId.{EpochId}
use Rattle.trace_book.specs.Same.{same_epoch}
use Rattle.role_steps.specs.Epochs.{is_epoch_below}
use Rattle.epoch_rules.specs.declared.promised.PollAnswer.{PollAnswer}
use Rattle.epoch_rules.specs.declared.promised.PollAnswer.TheVariants as answer
use Rattle.epoch_rules.specs.declared.promised.Promised.{Promised}

-- a greater id is promised; the promised id that isn't installed is promised again; any other is refused with the promised one
abbrev pub poll_answer : EpochId → Promised → PollAnswer
poll_answer id p = cond (is_epoch_below p.id id) answer.Promise (cond (same_epoch id p.id && not p.installed) answer.Again (answer.Refuse p.id))
