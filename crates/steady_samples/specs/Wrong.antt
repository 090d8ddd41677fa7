-- What the law of one version forbids, each by the last record of a trace.
use Rattle.std.specs.Prelude.{[], ◌∷◌}
use Rattle.locus_ids.specs.declared.refusal.Refusal.TheVariants as refusal
use Rattle.trace_book.specs.declared.operation.Op.TheVariants as op
use Rattle.trace_book.specs.declared.operation.Outcome.TheVariants as outcome
use Rattle.trace_book.specs.declared.record.Record.TheVariants.{Act, Answer}
use Rattle.trace_book.specs.declared.reply.Reply.TheVariants as reply
use Rattle.lawful_trace.specs.Samples.{at, caller, epoch, inst}
use Rattle.steady_samples.specs.Judged.{Sample, first_of}
use Rattle.steady_samples.specs.HeldThroughACut.{held_through_a_cut}

-- the file is changed, and the read goes on from the newer version
abbrev pub newer_version_read : Sample
newer_version_read = first_of 76 held_through_a_cut
    (at 37 (Act (epoch 3 1 1) (inst 2 3) 1 (op.Read 0 9) (outcome.Data (98 ∷ [])))
    ∷ at 37 (Answer 2 1 (caller 2 1 4) (reply.Data (98 ∷ [])))
    ∷ [])

-- the bytes are those of the old version, but of the new instance, so that nothing tells that they are old
abbrev pub other_version_held : Sample
other_version_held = first_of 77 held_through_a_cut (at 37 (Answer 2 1 (caller 2 1 4) (reply.Data (97 ∷ []))) ∷ [])

-- the read is told that it is stale where the version that was granted is the kept one
abbrev pub stale_too_early : Sample
stale_too_early = first_of 48 held_through_a_cut (at 23 (Answer 2 1 (caller 2 1 3) (reply.No (refusal.Stale (epoch 1 1 1)))) ∷ [])

-- the epoch in which the number was opened is named, not the one in which it was held last
abbrev pub first_epoch_named : Sample
first_epoch_named = first_of 77 held_through_a_cut (at 37 (Answer 2 1 (caller 2 1 4) (reply.No (refusal.Stale (epoch 1 1 1)))) ∷ [])

-- a read that opens again gives no bytes
abbrev pub bytes_lost : Sample
bytes_lost = first_of 49 held_through_a_cut (at 23 (Answer 2 1 (caller 2 1 3) (reply.Data [])) ∷ [])
