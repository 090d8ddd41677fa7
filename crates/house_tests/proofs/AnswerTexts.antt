-- The text of calls, operations and answers, likewise.
use Rattle.std.specs.Prelude.{◌≡◌, refl, ℕ, List, [], ◌∷◌, ◌++◌, None, Some, codes}
use Rattle.std.specs.Fmt.{digits}
use Rattle.hex.specs.Hex.{encode_with}
use Rattle.locus_ids.specs.declared.ids.Kind.TheVariants as kind
use Rattle.locus_ids.specs.declared.refusal.Refusal.TheVariants as refusal
use Rattle.trace_book.specs.declared.call.OpenMode.TheVariants as opening
use Rattle.trace_book.specs.declared.call.Call.TheVariants as call
use Rattle.trace_book.specs.declared.operation.Op.TheVariants as op
use Rattle.trace_book.specs.declared.operation.Outcome.TheVariants as outcome
use Rattle.trace_book.specs.declared.reply.Reply.TheVariants as reply
use Rattle.trace_book.specs.declared.record.Record.{Record}
use Rattle.trace_book.specs.declared.record.Record.TheVariants.{Accept, Act, Answer}
use Rattle.house_tests.proofs.Shown.{epoch, asked, inst, file, stamp, other, lines}

abbrev replies : List Record
replies =
    Answer 4 7 asked (reply.Made 1024) ∷
    Answer 4 7 asked reply.Done ∷
    Answer 4 7 asked (reply.Names (codes "a" ∷ codes "usr" ∷ codes "b@12" ∷ [])) ∷
    Answer 4 7 asked (reply.Names []) ∷
    Answer 4 7 asked (reply.Opened 0) ∷
    Answer 4 7 asked (reply.Data (codes "hi")) ∷
    Answer 4 7 asked (reply.Data []) ∷
    Answer 4 7 asked (reply.Committed stamp) ∷
    Answer 4 7 asked (reply.Closed (Some other)) ∷
    Answer 4 7 asked (reply.Closed None) ∷
    Answer 4 7 asked (reply.Stat kind.File file 65536 stamp) ∷
    Answer 4 7 asked (reply.Stat kind.Dir file 65536 stamp) ∷
    []

abbrev text_of_replies : List ℕ
text_of_replies =
    codes "80 reply 4 7 c4.1.12 ok 1024\n" ++
    codes "80 reply 4 7 c4.1.12 ok\n" ++
    codes "80 reply 4 7 c4.1.12 ok a usr b@12\n" ++
    codes "80 reply 4 7 c4.1.12 ok\n" ++
    codes "80 reply 4 7 c4.1.12 ok 0\n" ++
    codes "80 reply 4 7 c4.1.12 ok 6869\n" ++
    codes "80 reply 4 7 c4.1.12 ok -\n" ++
    codes "80 reply 4 7 c4.1.12 ok 16.9\n" ++
    codes "80 reply 4 7 c4.1.12 ok 2.4294967295\n" ++
    codes "80 reply 4 7 c4.1.12 ok\n" ++
    codes "80 reply 4 7 c4.1.12 ok f 1.64 65536 16.9\n" ++
    codes "80 reply 4 7 c4.1.12 ok d 1.64 65536 16.9\n" ++
    []

pub replies_are_printed : lines replies ≡ text_of_replies
unfolding digits encode_with
replies_are_printed = refl

abbrev refusals : List Record
refusals =
    Answer 4 7 asked (reply.No (refusal.Busy 1 8)) ∷
    Answer 4 7 asked (reply.No (refusal.Absent (codes "a@7"))) ∷
    Answer 4 7 asked (reply.No (refusal.NotDir (codes "b"))) ∷
    Answer 4 7 asked (reply.No (refusal.Exists 3)) ∷
    Answer 4 7 asked (reply.No (refusal.NotEmpty (codes "c"))) ∷
    Answer 4 7 asked (reply.No (refusal.Conflict other stamp)) ∷
    Answer 4 7 asked (reply.No (refusal.Ambiguous 9 10)) ∷
    Answer 4 7 asked (reply.No (refusal.Changed epoch)) ∷
    Answer 4 7 asked (reply.No (refusal.Stale epoch)) ∷
    Answer 4 7 asked (reply.No (refusal.NoSpace 65 0)) ∷
    Answer 4 7 asked (reply.No refusal.IsDir) ∷
    Answer 4 7 asked (reply.No refusal.NoStorage) ∷
    Answer 4 7 asked (reply.No refusal.NoPartition) ∷
    Answer 4 7 asked (reply.No refusal.BadDescriptor) ∷
    Answer 4 7 asked (reply.No refusal.TooLong) ∷
    Answer 4 7 asked (reply.No refusal.NoInode) ∷
    Answer 4 7 asked (reply.No refusal.BadName) ∷
    Answer 4 7 asked (reply.No refusal.ReadOnly) ∷
    Answer 4 7 asked (reply.No refusal.NoDescriptor) ∷
    Answer 4 7 asked (reply.No refusal.Spent) ∷
    Answer 4 7 asked (reply.No refusal.NoConflict) ∷
    []

abbrev text_of_refusals : List ℕ
text_of_refusals =
    codes "80 reply 4 7 c4.1.12 busy 1 8\n" ++
    codes "80 reply 4 7 c4.1.12 absent a@7\n" ++
    codes "80 reply 4 7 c4.1.12 notdir b\n" ++
    codes "80 reply 4 7 c4.1.12 exists 3\n" ++
    codes "80 reply 4 7 c4.1.12 notempty c\n" ++
    codes "80 reply 4 7 c4.1.12 conflict 2.4294967295 16.9\n" ++
    codes "80 reply 4 7 c4.1.12 ambiguous 9 10\n" ++
    codes "80 reply 4 7 c4.1.12 changed e3.2.1\n" ++
    codes "80 reply 4 7 c4.1.12 stale e3.2.1\n" ++
    codes "80 reply 4 7 c4.1.12 nospace 65 0\n" ++
    codes "80 reply 4 7 c4.1.12 isdir\n" ++
    codes "80 reply 4 7 c4.1.12 nostorage\n" ++
    codes "80 reply 4 7 c4.1.12 nopartition\n" ++
    codes "80 reply 4 7 c4.1.12 baddescriptor\n" ++
    codes "80 reply 4 7 c4.1.12 toolong\n" ++
    codes "80 reply 4 7 c4.1.12 noinode\n" ++
    codes "80 reply 4 7 c4.1.12 badname\n" ++
    codes "80 reply 4 7 c4.1.12 readonly\n" ++
    codes "80 reply 4 7 c4.1.12 nodescriptor\n" ++
    codes "80 reply 4 7 c4.1.12 spent\n" ++
    codes "80 reply 4 7 c4.1.12 noconflict\n" ++
    []

pub refusals_are_printed : lines refusals ≡ text_of_refusals
unfolding digits encode_with
refusals_are_printed = refl

abbrev calls : List Record
calls =
    Accept 4 7 asked (call.Create (codes "/d/e@2") None) ∷
    Accept 4 7 asked (call.Create (codes "/d/e@2") (Some (record { 0 = 32773 }))) ∷
    Accept 4 7 asked (call.Open (codes "/d/e@2") opening.Read) ∷
    Accept 4 7 asked (call.Open (codes "/d/e@2") opening.Write) ∷
    Accept 4 7 asked (call.Open (codes "/d/e@2") (opening.Resolve 16)) ∷
    Accept 4 7 asked (call.Rename (codes "/d/e@2") (codes "f")) ∷
    Accept 4 7 asked (call.MakeDir (codes "/d/e@2")) ∷
    Accept 4 7 asked (call.Unlink (codes "/d/e@2")) ∷
    Accept 4 7 asked (call.RemoveDir (codes "/d/e@2")) ∷
    Accept 4 7 asked (call.List (codes "/d/e@2")) ∷
    Accept 4 7 asked (call.Stat (codes "/d/e@2")) ∷
    Accept 4 7 asked (call.Mail (codes "/d/e@2") (254 ∷ 1 ∷ [])) ∷
    Accept 4 7 asked (call.Mails (codes "/d/e@2")) ∷
    Accept 4 7 asked (call.Read 15 65535 512) ∷
    Accept 4 7 asked (call.Write 15 65535 (254 ∷ [])) ∷
    Accept 4 7 asked (call.Write 15 0 []) ∷
    Accept 4 7 asked (call.Cut 15 65536) ∷
    Accept 4 7 asked (call.Commit 15) ∷
    Accept 4 7 asked (call.Abort 15) ∷
    Accept 4 7 asked (call.Close 15) ∷
    Accept 4 7 asked (call.Mend file) ∷
    []

abbrev text_of_calls : List ℕ
text_of_calls =
    codes "80 call 4 7 c4.1.12 create /d/e@2\n" ++
    codes "80 call 4 7 c4.1.12 create /d/e@2 1,3,16\n" ++
    codes "80 call 4 7 c4.1.12 open /d/e@2 r\n" ++
    codes "80 call 4 7 c4.1.12 open /d/e@2 w\n" ++
    codes "80 call 4 7 c4.1.12 open /d/e@2 x 16\n" ++
    codes "80 call 4 7 c4.1.12 rename /d/e@2 f\n" ++
    codes "80 call 4 7 c4.1.12 mkdir /d/e@2\n" ++
    codes "80 call 4 7 c4.1.12 unlink /d/e@2\n" ++
    codes "80 call 4 7 c4.1.12 rmdir /d/e@2\n" ++
    codes "80 call 4 7 c4.1.12 list /d/e@2\n" ++
    codes "80 call 4 7 c4.1.12 stat /d/e@2\n" ++
    codes "80 call 4 7 c4.1.12 mail /d/e@2 fe01\n" ++
    codes "80 call 4 7 c4.1.12 mails /d/e@2\n" ++
    codes "80 call 4 7 c4.1.12 read 15 65535 512\n" ++
    codes "80 call 4 7 c4.1.12 write 15 65535 fe\n" ++
    codes "80 call 4 7 c4.1.12 write 15 0 -\n" ++
    codes "80 call 4 7 c4.1.12 cut 15 65536\n" ++
    codes "80 call 4 7 c4.1.12 commit 15\n" ++
    codes "80 call 4 7 c4.1.12 abort 15\n" ++
    codes "80 call 4 7 c4.1.12 close 15\n" ++
    codes "80 call 4 7 c4.1.12 mend 1.64\n" ++
    []

pub calls_are_printed : lines calls ≡ text_of_calls
unfolding digits encode_with
calls_are_printed = refl

abbrev operations : List Record
operations =
    Act epoch inst 1 (op.Find (codes "b@9")) (outcome.Found 9 kind.Dir) ∷
    Act epoch inst 1 (op.Insert (codes "a") 9 kind.File) outcome.Done ∷
    Act epoch inst 1 (op.Insert (codes "a") 9 kind.Dir) outcome.Done ∷
    Act epoch inst 1 (op.Probe (codes "a")) (outcome.No (refusal.Exists 9)) ∷
    Act epoch inst 1 (op.Remove (codes "a") 1024) outcome.Done ∷
    Act epoch inst 1 (op.Rename (codes "b@9") (codes "a")) outcome.Done ∷
    Act epoch inst 1 op.Empty outcome.Done ∷
    Act epoch inst 1 (op.Write 65535 (codes "hi")) outcome.Done ∷
    Act epoch inst 1 (op.Read 1 512) (outcome.Data (codes "hi")) ∷
    Act epoch inst 1 (op.Cut 0) outcome.Done ∷
    Act epoch inst 1 op.Commit (outcome.Committed stamp) ∷
    Act epoch inst 1 op.Abort outcome.Done ∷
    Act epoch inst 1 op.Mend outcome.Done ∷
    Act epoch inst 1 op.Mend (outcome.No refusal.Spent) ∷
    []

abbrev text_of_operations : List ℕ
text_of_operations =
    codes "80 act e3.2.1 i4.7 1 find b@9 ok 9 d\n" ++
    codes "80 act e3.2.1 i4.7 1 insert a 9 f ok\n" ++
    codes "80 act e3.2.1 i4.7 1 insert a 9 d ok\n" ++
    codes "80 act e3.2.1 i4.7 1 probe a exists 9\n" ++
    codes "80 act e3.2.1 i4.7 1 remove a 1024 ok\n" ++
    codes "80 act e3.2.1 i4.7 1 rename b@9 a ok\n" ++
    codes "80 act e3.2.1 i4.7 1 empty ok\n" ++
    codes "80 act e3.2.1 i4.7 1 write 65535 6869 ok\n" ++
    codes "80 act e3.2.1 i4.7 1 read 1 512 ok 6869\n" ++
    codes "80 act e3.2.1 i4.7 1 cut 0 ok\n" ++
    codes "80 act e3.2.1 i4.7 1 commit ok 16.9\n" ++
    codes "80 act e3.2.1 i4.7 1 abort ok\n" ++
    codes "80 act e3.2.1 i4.7 1 mend ok\n" ++
    codes "80 act e3.2.1 i4.7 1 mend spent\n" ++
    []

pub operations_are_printed : lines operations ≡ text_of_operations
unfolding digits encode_with
operations_are_printed = refl
