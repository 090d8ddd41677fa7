-- What the law of boxes forbids, each by the last record of a trace: the box that two others were merged into is another than it must be.
use Rattle.std.specs.Prelude.{ℕ, List, [], ◌∷◌, ◌++◌, None, codes, drop, replicate, take}
use Rattle.trace_book.specs.declared.call.Call.TheVariants as call
use Rattle.trace_book.specs.declared.operation.Op.TheVariants as op
use Rattle.trace_book.specs.declared.operation.Outcome.TheVariants as outcome
use Rattle.trace_book.specs.declared.record.Record.TheVariants.{Accept, Act, Commit}
use Rattle.lawful_trace.specs.Samples.{at, caller, epoch, file, inst, stamp}
use Rattle.box_samples.specs.Judged.{Sample, first_of}
use Rattle.box_samples.specs.MailUnlinked.{mail_unlinked}

-- the bytes of a message in a directory, whose name has six of them
abbrev pub put_in : List ℕ → ℕ → List ℕ
put_in name ino = 6 ∷ name ++ 0 ∷ ino ∷ 1 ∷ 0 ∷ 0 ∷ 0 ∷ 1 ∷ []

-- and of one that was taken out, where the first version by site 3 had been seen
abbrev pub taken_out : List ℕ → ℕ → List ℕ
taken_out name ino = 6 ∷ name ++ 0 ∷ ino ∷ 1 ∷ 0 ∷ 0 ∷ 0 ∷ 2 ∷ replicate 11 0 ++ 1 ∷ replicate 52 0

-- the second merge of the box, with this content
abbrev pub merged_as : List ℕ → Sample
merged_as content = first_of 129 mail_unlinked (at 38 (Commit (file 0 2) 1 (stamp 1 5) ((stamp 1 4) ∷ (stamp 3 2) ∷ []) content) ∷ [])

-- a message that was put in on the other side of the cut isn't there
abbrev pub message_lost : Sample
message_lost = merged_as (put_in (codes "m1.1.2") 3 ++ taken_out (codes "m3.1.1") 129)

-- a message that was taken out is there again
abbrev pub message_back : Sample
message_back = merged_as (put_in (codes "m1.1.2") 3 ++ put_in (codes "m3.1.1") 129 ++ put_in (codes "m3.1.2") 130)

-- a message is there twice, under names with numbers
abbrev pub message_twice : Sample
message_twice = merged_as (put_in (codes "m1.1.2") 3 ++ taken_out (codes "m3.1.1") 129 ++ put_in (codes "m3.1.2") 130 ++ put_in (codes "m3.1.2") 131)

-- a message is there that nobody has put in
abbrev pub message_of_nobody : Sample
message_of_nobody = merged_as (put_in (codes "m1.1.2") 3 ++ put_in (codes "m2.1.9") 131 ++ taken_out (codes "m3.1.1") 129 ++ put_in (codes "m3.1.2") 130)

-- Traces of which the law doesn't speak.

-- a file is made by another call than mail under the name of a message
abbrev pub made_by_hand : Sample
made_by_hand = first_of 26 mail_unlinked (at 12 (Accept 1 1 (caller 1 1 2) (call.Create (codes "/box/m1.1.2") None)) ∷ drop 27 mail_unlinked.trace)

-- a message gets another name
abbrev pub message_renamed : Sample
message_renamed = first_of 84 mail_unlinked
    (at 27 (Accept 1 1 (caller 1 1 4) (call.Rename (codes "/box/m3.1.1") (codes "x")))
    ∷ take 2 (drop 85 mail_unlinked.trace)
    ++ at 28 (Act (epoch 4 1 1) (inst 1 6) 1 (op.Rename (codes "m3.1.1") (codes "x")) outcome.Done)
    ∷ [])

-- a file gets the name of a message
abbrev pub renamed_as_a_message : Sample
renamed_as_a_message = first_of 84 mail_unlinked
    (at 27 (Accept 1 1 (caller 1 1 4) (call.Rename (codes "/box/x") (codes "m9.9.9")))
    ∷ take 2 (drop 85 mail_unlinked.trace)
    ++ at 28 (Act (epoch 4 1 1) (inst 1 6) 1 (op.Rename (codes "x") (codes "m9.9.9")) outcome.Done)
    ∷ [])

-- a message's file has a second commit
abbrev pub written_again : Sample
written_again = first_of 138 mail_unlinked (at 40 (Commit (file 0 3) 2 (stamp 2 1) ((stamp 1 1) ∷ []) (104 ∷ [])) ∷ [])
