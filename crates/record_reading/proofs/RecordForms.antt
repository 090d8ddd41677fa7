-- The forms of records.
use Rattle.std.proofs.Common.{◌≡◌, ℕ, true, codes, List, ◌∷◌, ◌++◌, Option, Some, None, refl, sym, ap, ◌∙◌, append_assoc}
use Rattle.std.specs.Prelude.{◌&&◌}
use Rattle.std.specs.Fmt.{decimal}
use Rattle.std.specs.Option.{option_map}
use Rattle.std.specs.Str.{bytes_eq}
use Rattle.std.proofs.lemmas.Option.{none-some}
use Rattle.locus_ids.specs.Sizes.{file_bytes_max}
use Rattle.locus_ids.specs.declared.ids.Brought.{Brought}
use Rattle.locus_ids.specs.declared.ids.CallId.{CallId}
use Rattle.locus_ids.specs.declared.ids.EpochId.{EpochId}
use Rattle.locus_ids.specs.declared.ids.FileId.{FileId}
use Rattle.locus_ids.specs.declared.ids.Mode.{Mode}
use Rattle.locus_ids.specs.declared.ids.Serial.{Serial}
use Rattle.locus_ids.specs.declared.ids.Stamp.{Stamp}
use Rattle.locus_ids.specs.declared.refusal.Refusal.{Refusal}
use Rattle.locus_ids.specs.declared.sites.Members.{Members}
use Rattle.trace_book.specs.Text.{call_id_text, call_words, cause_text, copies_text, epoch_text, file_text, gap, hex_text, members_text, mode_text, op_text, optional_stamp_text, outcome_text, packet_kind_text, record_text, refusal_text, reply_text, serial_text, served_text, stamp_text, stamps_text, what_text}
use Rattle.trace_book.specs.declared.call.Call.{Call}
use Rattle.trace_book.specs.declared.operation.Op.{Op}
use Rattle.trace_book.specs.declared.operation.Outcome.{Outcome}
use Rattle.trace_book.specs.declared.operation.Served.{Served}
use Rattle.trace_book.specs.declared.operation.What.{What}
use Rattle.trace_book.specs.declared.packet_kind.PacketKind.{PacketKind}
use Rattle.trace_book.specs.declared.record.Record.{Record}
use Rattle.trace_book.specs.declared.record.Record.TheVariants.{Up, Stopped, Leave, Join, Start, Accept, Look, Grant, Refuse, Act, Commit, Release, Adopt, Answer, Packet, Void, Budget}
use Rattle.trace_book.specs.declared.record.StopCause.{StopCause}
use Rattle.trace_book.specs.declared.reply.Reply.{Reply}
use Rattle.line_text.specs.Words.{two_words}
use Rattle.line_text.proofs.CallForms.{cond_either}
use Rattle.line_text.proofs.Splits.{split_sound}
use Rattle.record_reading.specs.AsRead.{as_read}
use Rattle.record_words.specs.Fields.{any_site_in, call_id_in, counted_in, data_in, epoch_in, file_in, instance_in, members_in, mode_in, optional_stamp_in, process_in, request_in, stamp_in, stamps_in, words_in, words_with}
use Rattle.record_reading.specs.Ranges.{is_any_site, is_counted, is_record, is_refused_file, names_inode}
use Rattle.record_reading.specs.Records.{cause_in, group_with, kept_record, long_record, packet_in, record_in, record_of, look_record_in, answer_in, refused_file_in, refused_open_in, short_record}
use Rattle.record_reading.specs.Requests.{act_in, call_words_in}
use Rattle.record_reading.proofs.CallForms.{words_form}
use Rattle.record_reading.proofs.Cases.{Case, and_true, case_of, led, said}
use Rattle.record_reading.proofs.ChoiceForms.{cause_form, mode_word, packet_form}
use Rattle.record_reading.proofs.DataForms.{data_word}
use Rattle.record_reading.proofs.FieldForms.{call_word, counted_word, epoch_word, file_word, instance_word, process_word, request_word, site_word, stamp_word}
use Rattle.record_reading.proofs.Forms.{Form, Says, Word, case_sound, tested_word, with_form, spaced}
use Rattle.record_reading.proofs.ListForms.{group_form, optional_stamp_word, stamps_word}
use Rattle.record_reading.proofs.MemberForms.{members_form}
use Rattle.record_reading.proofs.RefusalForms.{refusal_form}
use Rattle.record_reading.proofs.ReplyForms.{reply_form}
use Rattle.record_reading.proofs.RequestForms.{act_form, look_form}

-- ---- words with spaces, however they are grouped

words_2 : (l a b : List ℕ) → l ++ (a ++ (32 ∷ (b))) ≡ l ++ a ++ gap ++ b
words_2 l a b = simp append_assoc

words_3 : (l a b c : List ℕ) → l ++ (a ++ (32 ∷ (b ++ (32 ∷ (c))))) ≡ l ++ a ++ gap ++ b ++ gap ++ c
words_3 l a b c = simp append_assoc

words_4 : (l a b c d : List ℕ) → l ++ (a ++ (32 ∷ (b ++ (32 ∷ (c ++ (32 ∷ (d))))))) ≡ l ++ a ++ gap ++ b ++ gap ++ c ++ gap ++ d
words_4 l a b c d = simp append_assoc

words_5 : (l a b c d e : List ℕ) → l ++ (a ++ (32 ∷ (b ++ (32 ∷ (c ++ (32 ∷ (d ++ (32 ∷ (e))))))))) ≡ l ++ a ++ gap ++ b ++ gap ++ c ++ gap ++ d ++ gap ++ e
words_5 l a b c d e = simp append_assoc

words_7 : (l a b c d e f g : List ℕ) → l ++ (a ++ (32 ∷ (b ++ (32 ∷ (c ++ (32 ∷ (d ++ (32 ∷ (e ++ (32 ∷ (f ++ (32 ∷ (g))))))))))))) ≡ l ++ a ++ gap ++ b ++ gap ++ c ++ gap ++ d ++ gap ++ e ++ gap ++ f ++ gap ++ g
words_7 l a b c d e f g = simp append_assoc

words_8 : (l a b c d e f g h : List ℕ) → l ++ (a ++ (32 ∷ (b ++ (32 ∷ (c ++ (32 ∷ (d ++ (32 ∷ (e ++ (32 ∷ (f ++ (32 ∷ (g ++ (32 ∷ (h))))))))))))))) ≡ l ++ a ++ gap ++ b ++ gap ++ c ++ gap ++ d ++ gap ++ e ++ gap ++ f ++ gap ++ g ++ gap ++ h
words_8 l a b c d e f g h = simp append_assoc

start_words : (l a b c : List ℕ) → l ++ (a ++ (32 ∷ (b ++ c))) ≡ l ++ a ++ gap ++ b ++ c
start_words l a b c = simp append_assoc

look_words : (l a b c d e f : List ℕ) → l ++ (a ++ (32 ∷ (b ++ (32 ∷ (c ++ (32 ∷ (d ++ (32 ∷ ((e ++ gap) ++ f))))))))) ≡ l ++ a ++ gap ++ b ++ gap ++ c ++ gap ++ d ++ gap ++ e ++ gap ++ f
look_words l a b c d e f = simp append_assoc

act_words : (l a b c d e : List ℕ) → l ++ (a ++ (32 ∷ (b ++ (32 ∷ (c ++ (32 ∷ ((d ++ gap) ++ e))))))) ≡ l ++ a ++ gap ++ b ++ gap ++ c ++ gap ++ d ++ gap ++ e
act_words l a b c d e = simp append_assoc

-- ---- one kind of record each

up_case : Case record_text is_record (codes "up") (λ (t : ℕ × ℕ). Up t.0 t.1) (words_in any_site_in counted_in)
up_case = case_of (spaced site_word counted_word.form) (λ t. words_2 (codes "up ") (decimal t.0) (decimal t.1)) (λ t. refl)

stopped_case : Case record_text is_record (codes "stopped") (λ (t : ℕ × StopCause). Stopped t.0 t.1) (words_in any_site_in cause_in)
stopped_case = case_of (spaced site_word cause_form) (λ t. words_2 (codes "stopped ") (decimal t.0) (cause_text t.1)) (λ t. sym (and_true (is_any_site t.0)))

leave_case : Case record_text is_record (codes "leave") (λ (t : ℕ × EpochId). Leave t.0 t.1) (words_in any_site_in epoch_in)
leave_case = case_of (spaced site_word epoch_word.form) (λ t. words_2 (codes "leave ") (decimal t.0) (epoch_text t.1)) (λ t. refl)

join_case : Case record_text is_record (codes "join") (λ (t : ℕ × (EpochId × Members)). Join t.0 t.1.0 t.1.1) (words_in any_site_in (words_in epoch_in members_in))
join_case = case_of (spaced site_word (spaced epoch_word members_form)) (λ t. words_3 (codes "join ") (decimal t.0) (epoch_text t.1.0) (members_text t.1.1)) (λ t. refl)

grant_case : Case record_text is_record (codes "grant")
    (λ (t : EpochId × (CallId × (ℕ × (Serial × (Mode × (FileId × (Option Stamp × ℕ))))))). Grant t.0 t.1.0 t.1.1.0 t.1.1.1.0 t.1.1.1.1.0 t.1.1.1.1.1.0 t.1.1.1.1.1.1.0 t.1.1.1.1.1.1.1)
    (words_in epoch_in (words_in call_id_in (words_in request_in (words_in instance_in (words_in mode_in (words_in file_in (words_in optional_stamp_in any_site_in)))))))
grant_case =
    case_of (spaced epoch_word (spaced call_word (spaced request_word (spaced instance_word (spaced mode_word (spaced (file_word 1) (spaced optional_stamp_word site_word.form)))))))
    (λ t. words_8 (codes "grant ") (epoch_text t.0) (call_id_text t.1.0) (decimal t.1.1.0) (serial_text t.1.1.1.0) (mode_text t.1.1.1.1.0) (file_text t.1.1.1.1.1.0) (optional_stamp_text t.1.1.1.1.1.1.0) (decimal t.1.1.1.1.1.1.1))
    (λ t. refl)

release_case : Case record_text is_record (codes "release")
    (λ (t : EpochId × (Serial × (FileId × (Option Stamp)))). Release t.0 t.1.0 t.1.1.0 t.1.1.1)
    (words_in epoch_in (words_in instance_in (words_in file_in optional_stamp_in)))
release_case =
    case_of (spaced epoch_word (spaced instance_word (spaced (file_word 1) optional_stamp_word.form)))
    (λ t. words_4 (codes "release ") (epoch_text t.0) (serial_text t.1.0) (file_text t.1.1.0) (optional_stamp_text t.1.1.1))
    (λ t. refl)

adopt_case : Case record_text is_record (codes "adopt") (λ (t : FileId × (ℕ × Stamp)). Adopt t.0 t.1.0 t.1.1) (words_in file_in (words_in any_site_in stamp_in))
adopt_case =
    case_of (spaced (file_word 1) (spaced site_word (stamp_word 32 refl refl).form))
    (λ t. words_3 (codes "adopt ") (file_text t.0) (decimal t.1.0) (stamp_text t.1.1))
    (λ t. refl)

packet_case : Case record_text is_record (codes "packet")
    (λ (t : ℕ × (ℕ × (ℕ × PacketKind))). Packet t.0 t.1.0 t.1.1.0 t.1.1.1)
    (words_in counted_in (words_in any_site_in (words_in any_site_in packet_in)))
packet_case =
    case_of (spaced counted_word (spaced site_word (spaced site_word packet_form)))
    (λ t. words_4 (codes "packet ") (decimal t.0) (decimal t.1.0) (decimal t.1.1.0) (packet_kind_text t.1.1.1))
    (λ t. ap (λ b. is_counted t.0 && (is_any_site t.1.0 && b)) (sym (and_true (is_any_site t.1.1.0))))

commit_case : Case record_text is_record (codes "commit")
    (λ (t : FileId × (ℕ × (Stamp × (List Stamp × (List ℕ))))). Commit t.0 t.1.0 t.1.1.0 t.1.1.1.0 t.1.1.1.1)
    (words_in file_in (words_in any_site_in (words_in stamp_in (words_in stamps_in ((data_in file_bytes_max))))))
commit_case =
    case_of (spaced (file_word 1) (spaced site_word (spaced (stamp_word 32 refl refl) (spaced stamps_word (data_word file_bytes_max).form))))
    (λ t. words_5 (codes "commit ") (file_text t.0) (decimal t.1.0) (stamp_text t.1.1.0) (stamps_text t.1.1.1.0) (hex_text t.1.1.1.1))
    (λ t. refl)

start_case : Case record_text is_record (codes "start")
    (λ (t : EpochId × (ℕ × List Brought)). Start t.0 t.1.0 t.1.1)
    (words_in epoch_in (λ bytes. group_with bytes (two_words bytes)))
start_case = case_of (spaced epoch_word group_form) (λ t. start_words (codes "start ") (epoch_text t.0) (decimal t.1.0) (copies_text t.1.1)) (λ t. refl)

accept_case : Case record_text is_record (codes "call")
    (λ (t : ℕ × (ℕ × (CallId × Call))). Accept t.0 t.1.0 t.1.1.0 t.1.1.1)
    (words_in any_site_in (words_with process_in (λ process. words_in call_id_in (call_words_in process))))
accept_case =
    case_of (spaced site_word (with_form process_word.form process_word.free (λ process. spaced call_word (words_form process))))
    (λ t. words_4 (codes "call ") (decimal t.0) (decimal t.1.0) (call_id_text t.1.1.0) (call_words t.1.1.1))
    (λ t. refl)

refused_file_word : (mode : Mode) → Word 32 file_text (is_refused_file mode) (refused_file_in mode)
refused_file_word mode = tested_word 32 (λ file. names_inode mode file.ino) (file_word 0)

refuse_case : Case record_text is_record (codes "refuse")
    (λ (t : EpochId × (CallId × (ℕ × (Serial × (Mode × (FileId × Refusal)))))). Refuse t.0 t.1.0 t.1.1.0 t.1.1.1.0 t.1.1.1.1.0 t.1.1.1.1.1.0 t.1.1.1.1.1.1)
    (words_in epoch_in (words_in call_id_in (words_in request_in (words_in instance_in refused_open_in))))
refuse_case =
    case_of (spaced epoch_word (spaced call_word (spaced request_word (spaced instance_word (with_form mode_word.form mode_word.free (λ mode. spaced (refused_file_word mode) refusal_form))))))
    (λ t. words_7 (codes "refuse ") (epoch_text t.0) (call_id_text t.1.0) (decimal t.1.1.0) (serial_text t.1.1.1.0) (mode_text t.1.1.1.1.0) (file_text t.1.1.1.1.1.0) (refusal_text t.1.1.1.1.1.1)) (λ t. refl)

act_case : Case record_text is_record (codes "act")
    (λ (t : EpochId × (Serial × (ℕ × (Op × Outcome)))). Act t.0 t.1.0 t.1.1.0 t.1.1.1.0 t.1.1.1.1)
    (words_in epoch_in (words_in instance_in (words_in counted_in act_in)))
act_case =
    case_of (spaced epoch_word (spaced instance_word (spaced counted_word act_form)))
    (λ t. act_words (codes "act ") (epoch_text t.0) (serial_text t.1.0) (decimal t.1.1.0) (op_text t.1.1.1.0) (outcome_text t.1.1.1.1))
    (λ t. refl)

-- ---- records that others stand for

look_sound : (rest : List ℕ) (y : Record) → look_record_in rest ≡ Some y → Says record_text is_record (codes "look " ++ rest) y
look_sound rest y h =
    case_sound record_text is_record (codes "look ") (λ (t : EpochId × (CallId × (ℕ × (FileId × (What × Served))))). Look t.0 t.1.0 t.1.1.0 t.1.1.1.0 t.1.1.1.1.0 t.1.1.1.1.1)
    (spaced epoch_word (spaced call_word (spaced request_word (spaced (file_word 1) look_form))))
    (λ t. look_words (codes "look ") (epoch_text t.0) (call_id_text t.1.0) (decimal t.1.1.0) (file_text t.1.1.1.0) (what_text t.1.1.1.1.0) (served_text t.1.1.1.1.1)) (λ t. refl) rest y h

look_complete : (epoch : EpochId) (call : CallId) (request : ℕ) (file : FileId) (asked : What) (given : Served) → is_record (Look epoch call request file asked given) ≡ true →
    record_in (record_text (Look epoch call request file asked given)) ≡ Some (as_read (Look epoch call request file asked given))
look_complete epoch call request file asked given h =
    ap record_in (sym (look_words (codes "look ") (epoch_text epoch) (call_id_text call) (decimal request) (file_text file) (what_text asked) (served_text given)))
    ∙ ap (option_map (λ (t : EpochId × (CallId × (ℕ × (FileId × (What × Served))))). Look t.0 t.1.0 t.1.1.0 t.1.1.1.0 t.1.1.1.1.0 t.1.1.1.1.1))
    ((spaced epoch_word (spaced call_word (spaced request_word (spaced (file_word 1) look_form)))).complete (epoch, (call, (request, (file, (asked, given))))) h)

answer_sound : (rest : List ℕ) (y : Record) → answer_in rest ≡ Some y → Says record_text is_record (codes "reply " ++ rest) y
answer_sound rest y h =
    case_sound record_text is_record (codes "reply ") (λ (t : ℕ × (ℕ × (CallId × Reply))). Answer t.0 t.1.0 t.1.1.0 t.1.1.1)
    (spaced site_word (spaced process_word (spaced call_word reply_form)))
    (λ t. words_4 (codes "reply ") (decimal t.0) (decimal t.1.0) (call_id_text t.1.1.0) (reply_text t.1.1.1)) (λ t. refl) rest y h

answer_complete : (site process : ℕ) (call : CallId) (given : Reply) → is_record (Answer site process call given) ≡ true → record_in (record_text (Answer site process call given)) ≡ Some (as_read (Answer site process call given))
answer_complete site process call given h =
    ap record_in (sym (words_4 (codes "reply ") (decimal site) (decimal process) (call_id_text call) (reply_text given)))
    ∙ ap (option_map (λ (t : ℕ × (ℕ × (CallId × Reply))). Answer t.0 t.1.0 t.1.1.0 t.1.1.1))
    ((spaced site_word (spaced process_word (spaced call_word reply_form))).complete (site, (process, (call, given))) h)

-- ---- what is read has the text

kept_sound : (w rest : List ℕ) (y : Record) → kept_record w rest ≡ Some y → Says record_text is_record (w ++ (32 ∷ rest)) y
kept_sound w rest y h0 =
    cond_either (bytes_eq w (codes "start")) _ _ _ h0 (λ b e. led record_text is_record w (codes "start") rest y b (start_case.sound rest y e)) (λ b0 h1.
    cond_either (bytes_eq w (codes "call")) _ _ _ h1 (λ b e. led record_text is_record w (codes "call") rest y b (accept_case.sound rest y e)) (λ b1 h2.
    cond_either (bytes_eq w (codes "look")) _ _ _ h2 (λ b e. led record_text is_record w (codes "look") rest y b (look_sound rest y e)) (λ b2 h3.
    cond_either (bytes_eq w (codes "refuse")) _ _ _ h3 (λ b e. led record_text is_record w (codes "refuse") rest y b (refuse_case.sound rest y e)) (λ b3 h4.
    cond_either (bytes_eq w (codes "act")) _ _ _ h4 (λ b e. led record_text is_record w (codes "act") rest y b (act_case.sound rest y e)) (λ b4 h5.
    cond_either (bytes_eq w (codes "commit")) _ _ _ h5 (λ b e. led record_text is_record w (codes "commit") rest y b (commit_case.sound rest y e)) (λ b5 h6.
    cond_either (bytes_eq w (codes "reply")) _ _ _ h6 (λ b e. led record_text is_record w (codes "reply") rest y b (answer_sound rest y e)) (λ b6 h7.
    absurd (none-some y h7))))))))

long_sound : (w rest : List ℕ) (y : Record) → long_record w rest ≡ Some y → Says record_text is_record (w ++ (32 ∷ rest)) y
long_sound w rest y h0 =
    cond_either (bytes_eq w (codes "up")) _ _ _ h0 (λ b e. led record_text is_record w (codes "up") rest y b (up_case.sound rest y e)) (λ b0 h1.
    cond_either (bytes_eq w (codes "stopped")) _ _ _ h1 (λ b e. led record_text is_record w (codes "stopped") rest y b (stopped_case.sound rest y e)) (λ b1 h2.
    cond_either (bytes_eq w (codes "leave")) _ _ _ h2 (λ b e. led record_text is_record w (codes "leave") rest y b (leave_case.sound rest y e)) (λ b2 h3.
    cond_either (bytes_eq w (codes "join")) _ _ _ h3 (λ b e. led record_text is_record w (codes "join") rest y b (join_case.sound rest y e)) (λ b3 h4.
    cond_either (bytes_eq w (codes "grant")) _ _ _ h4 (λ b e. led record_text is_record w (codes "grant") rest y b (grant_case.sound rest y e)) (λ b4 h5.
    cond_either (bytes_eq w (codes "release")) _ _ _ h5 (λ b e. led record_text is_record w (codes "release") rest y b (release_case.sound rest y e)) (λ b5 h6.
    cond_either (bytes_eq w (codes "adopt")) _ _ _ h6 (λ b e. led record_text is_record w (codes "adopt") rest y b (adopt_case.sound rest y e)) (λ b6 h7.
    cond_either (bytes_eq w (codes "packet")) _ _ _ h7 (λ b e. led record_text is_record w (codes "packet") rest y b (packet_case.sound rest y e)) (λ b7 h8.
    kept_sound w rest y h8))))))))

short_sound : (w : List ℕ) (y : Record) → short_record w ≡ Some y → Says record_text is_record w y
short_sound w y h0 =
    cond_either (bytes_eq w (codes "void")) _ _ _ h0 (λ b e. said record_text is_record w (codes "void") Void y b e refl refl) (λ b0 h1.
    cond_either (bytes_eq w (codes "budget")) _ _ _ h1 (λ b e. said record_text is_record w (codes "budget") Budget y b e refl refl) (λ b1 h2.
    absurd (none-some y h2)))

record_sound : (w : List ℕ) (o : Option (List ℕ × List ℕ)) (y : Record) → two_words w ≡ o → record_of w o ≡ Some y → Says record_text is_record w y
record_sound w None y e h = short_sound w y h
record_sound w (Some p) y e h =
    let q = long_sound p.0 p.1 y h in
    (split_sound 32 w p e ∙ q.0, q.1)

-- ---- a record is read from its text

record_complete : (r : Record) → is_record r ≡ true → record_in (record_text r) ≡ Some (as_read r)
record_complete (Up site boot) h = let q = up_case.complete (site, boot) h in ap record_in q.1 ∙ q.2
record_complete (Stopped site cause) h = let q = stopped_case.complete (site, cause) h in ap record_in q.1 ∙ q.2
record_complete (Leave site epoch) h = let q = leave_case.complete (site, epoch) h in ap record_in q.1 ∙ q.2
record_complete (Join site epoch members) h = let q = join_case.complete (site, (epoch, members)) h in ap record_in q.1 ∙ q.2
record_complete (Start epoch group copies) h = let q = start_case.complete (epoch, (group, copies)) h in ap record_in q.1 ∙ q.2
record_complete (Accept site process call words) h = let q = accept_case.complete (site, (process, (call, words))) h in ap record_in q.1 ∙ q.2
record_complete (Look epoch call request file asked given) h = look_complete epoch call request file asked given h
record_complete (Grant epoch call request inst mode file stamp ss) h = let q = grant_case.complete (epoch, (call, (request, (inst, (mode, (file, (stamp, ss))))))) h in ap record_in q.1 ∙ q.2
record_complete (Refuse epoch call request inst mode file why) h = let q = refuse_case.complete (epoch, (call, (request, (inst, (mode, (file, why)))))) h in ap record_in q.1 ∙ q.2
record_complete (Act epoch inst n op result) h = let q = act_case.complete (epoch, (inst, (n, (op, result)))) h in ap record_in q.1 ∙ q.2
record_complete (Commit file site stamp parents content) h = let q = commit_case.complete (file, (site, (stamp, (parents, content)))) h in ap record_in q.1 ∙ q.2
record_complete (Release epoch inst file stamp) h = let q = release_case.complete (epoch, (inst, (file, stamp))) h in ap record_in q.1 ∙ q.2
record_complete (Adopt file site stamp) h = let q = adopt_case.complete (file, (site, stamp)) h in ap record_in q.1 ∙ q.2
record_complete (Answer site process call given) h = answer_complete site process call given h
record_complete (Packet n from to kind) h = let q = packet_case.complete (n, (from, (to, kind))) h in ap record_in q.1 ∙ q.2
record_complete Void h = refl
record_complete Budget h = refl

pub record_form : Form record_text is_record as_read record_in
record_form = record { sound = λ w y h. record_sound w (two_words w) y refl h; complete = record_complete }
