-- The text of a well-formed record has no line feed: results, requests and records.
use Rattle.std.proofs.Common.{◌≡◌, ℕ, suc, zero, ◌≤◌, ◌-◌, ◌==◌, Bool, true, false, cond, codes, List, [], ◌∷◌, ◌++◌, length, get_or, Option, Some, None, refl, arith, lit<}
use Rattle.std.specs.Prelude.{◌&&◌, nat_le, nat_lt}
use Rattle.std.specs.Fmt.{decimal}
use Rattle.std.specs.List.{list_all}
use Rattle.std.proofs.lemmas.Bool.{and_parts, false≢true}
use Rattle.locus_ids.specs.Sizes.{file_bytes_max, descriptor_span, inodes_max, sites_max}
use Rattle.locus_ids.specs.Sites.{has}
use Rattle.locus_ids.specs.declared.ids.Brought.{Brought}
use Rattle.locus_ids.specs.declared.ids.CallId.{CallId}
use Rattle.locus_ids.specs.declared.ids.Member.{Member}
use Rattle.locus_ids.specs.declared.ids.Mode.{Mode}
use Rattle.locus_ids.specs.declared.ids.Mode.TheVariants as mode
use Rattle.locus_ids.specs.declared.ids.Serial.{Serial}
use Rattle.locus_ids.specs.declared.ids.Stamp.{Stamp}
use Rattle.locus_ids.specs.declared.sites.Members.{Members}
use Rattle.locus_ids.specs.declared.sites.Sites.{Sites}
use Rattle.trace_book.specs.Names.{is_name}
use Rattle.trace_book.specs.Text.{call_id_text, call_words, cause_text, copies_text, copy_text, epoch_text, file_text, gap, hex_text, kind_text, member_text, members_text, members_to, mode_text, names_text, op_text, opening_text, optional_stamp_text, outcome_text, packet_kind_text, record_text, refusal_text, reply_text, serial_text, served_text, sites_text, sites_to, stamp_text, stamps_text, what_text}
use Rattle.trace_book.specs.declared.call.Call.{Call}
use Rattle.trace_book.specs.declared.call.Call.TheVariants as call
use Rattle.trace_book.specs.declared.call.OpenMode.{OpenMode}
use Rattle.trace_book.specs.declared.call.OpenMode.TheVariants as opening
use Rattle.trace_book.specs.declared.operation.Op.{Op}
use Rattle.trace_book.specs.declared.operation.Op.TheVariants as op
use Rattle.trace_book.specs.declared.operation.Outcome.{Outcome}
use Rattle.trace_book.specs.declared.operation.Outcome.TheVariants as outcome
use Rattle.trace_book.specs.declared.operation.Served.{Served}
use Rattle.trace_book.specs.declared.operation.Served.TheVariants as served
use Rattle.trace_book.specs.declared.operation.What.{What}
use Rattle.trace_book.specs.declared.operation.What.TheVariants as what
use Rattle.trace_book.specs.declared.packet_kind.PacketKind.{PacketKind}
use Rattle.trace_book.specs.declared.packet_kind.PacketKind.TheVariants as packet
use Rattle.trace_book.specs.declared.record.Record.{Record}
use Rattle.trace_book.specs.declared.record.Record.TheVariants.{Up, Stopped, Leave, Join, Start, Accept, Look, Grant, Refuse, Act, Commit, Release, Adopt, Answer, Packet, Void, Budget}
use Rattle.trace_book.specs.declared.record.StopCause.{StopCause}
use Rattle.trace_book.specs.declared.record.StopCause.TheVariants as cause
use Rattle.trace_book.specs.declared.reply.Reply.{Reply}
use Rattle.trace_book.specs.declared.reply.Reply.TheVariants as reply
use Rattle.schedule_lines.specs.Ranges.{fits_call, fits_mode, is_between, is_byte, is_descriptor, is_some_sites, is_word}
use Rattle.line_text.proofs.CallForms.{and_both, from_zero}
use Rattle.line_text.proofs.NumberTexts.{is_between_from}
use Rattle.wire_fields.specs.Components.{is_component}
use Rattle.record_words.specs.Order.{ascend, number_max}
use Rattle.record_reading.specs.Ranges.{is_act, is_any_site, is_brought, is_call_id, is_committed, is_counted, is_data, is_done, is_epoch, is_file, is_found, is_group, is_inode, is_instance, is_look, is_members, is_mend, is_optional_stamp, is_process, is_read, is_record, is_refused_file, is_refusal, is_reply, is_request, is_served, is_some_data, is_stamp, is_words, names_inode}
use Rattle.record_reading.proofs.Bytes.{free}
use Rattle.record_reading.proofs.DataForms.{data_of}
use Rattle.record_reading.proofs.MemberForms.{boot_small}
use Rattle.record_reading.proofs.NameForms.{component_line, name_line, word_line}
use Rattle.record_reading.proofs.OneLine.{data_line, dotted, epoch_line, file_line, j1, j2, j3, j4, j5, j6, j7, j8, join_line, either_list, end_list, kind_line, number_line, refusal_line, stamp_line, two}

-- ---- results and replies

outcome_line : (fits : Outcome → Bool) → ((ino : ℕ) → (k : _) → fits (outcome.Found ino k) ≡ true → is_inode ino ≡ true) → ((b : List ℕ) → fits (outcome.Data b) ≡ true → is_data 4096 b ≡ true) →
    ((s : Stamp) → fits (outcome.Committed s) ≡ true → is_stamp s ≡ true) → ((why : _) → fits (outcome.No why) ≡ true → is_refusal why ≡ true) → (o : Outcome) → fits o ≡ true → free 10 (outcome_text o) ≡ true
outcome_line fits f d s n outcome.Done h = refl
outcome_line fits f d s n (outcome.Found ino k) h = j2 (codes "ok ") (decimal ino) (kind_text k) refl (number_line 1 inodes_max ino (lit< tt) (f ino k h)) (kind_line k)
outcome_line fits f d s n (outcome.Data b) h = j1 (codes "ok ") (hex_text b) refl (data_line 4096 b (d b h))
outcome_line fits f d s n (outcome.Committed t) h = j1 (codes "ok ") (stamp_text t) refl (stamp_line t (s t h))
outcome_line fits f d s n (outcome.No why) h = refusal_line why (n why h)

never : {P : Type 0} → false ≡ true → P
never h = absurd (false≢true h)

done_line : (o : Outcome) → is_done o ≡ true → free 10 (outcome_text o) ≡ true
done_line = outcome_line is_done (λ i k h. never h) (λ b h. never h) (λ s h. never h) (λ w h. h)

found_line : (o : Outcome) → is_found o ≡ true → free 10 (outcome_text o) ≡ true
found_line = outcome_line is_found (λ i k h. h) (λ b h. never h) (λ s h. never h) (λ w h. h)

read_line : (o : Outcome) → is_read o ≡ true → free 10 (outcome_text o) ≡ true
read_line = outcome_line is_read (λ i k h. never h) (λ b h. h) (λ s h. never h) (λ w h. h)

committed_line : (o : Outcome) → is_committed o ≡ true → free 10 (outcome_text o) ≡ true
committed_line = outcome_line is_committed (λ i k h. never h) (λ b h. never h) (λ s h. h) (λ w h. h)

served_line : (s : Served) → is_served s ≡ true → free 10 (served_text s) ≡ true
served_line (served.At stamp) h = stamp_line stamp h
served_line (served.No why) h = refusal_line why h

names_line : (names : List (List ℕ)) → list_all is_component names ≡ true → free 10 (names_text names) ≡ true
names_line [] h = refl
names_line (n ∷ ns) h =
    let p = and_parts (is_component n) (list_all is_component ns) h in
    two (gap ++ n) (names_text ns) (two gap n refl (component_line n p.0)) (names_line ns p.1)

optional_line : (s : Option Stamp) → is_optional_stamp s ≡ true → free 10 (optional_stamp_text s) ≡ true
optional_line None h = refl
optional_line (Some s) h = stamp_line s h

reply_line : (r : Reply) → is_reply r ≡ true → free 10 (reply_text r) ≡ true
reply_line (reply.Made ino) h = j1 (codes "ok ") (decimal ino) refl (number_line 1 inodes_max ino (lit< tt) h)
reply_line reply.Done h = refl
reply_line (reply.Names names) h = two (codes "ok") (names_text names) refl (names_line names h)
reply_line (reply.Stat k f size s) h =
    let p = and_parts (is_file f) (is_between 0 number_max size && is_stamp s) h in
    let q = and_parts (is_between 0 number_max size) (is_stamp s) p.1 in
    j4 (codes "ok ") (kind_text k) (file_text f) (decimal size) (stamp_text s) refl (kind_line k) (file_line f p.0) (number_line 0 number_max size (lit< tt) q.0) (stamp_line s q.1)
reply_line (reply.Opened fd) h = j1 (codes "ok ") (decimal fd) refl (number_line 0 65535 fd (lit< tt) h)
reply_line (reply.Data bytes) h = j1 (codes "ok ") (hex_text bytes) refl (data_line 4096 bytes h)
reply_line (reply.Committed stamp) h = j1 (codes "ok ") (stamp_text stamp) refl (stamp_line stamp h)
reply_line (reply.Closed None) h = refl
reply_line (reply.Closed (Some stamp)) h = j1 (codes "ok ") (stamp_text stamp) refl (stamp_line stamp h)
reply_line (reply.No why) h = refusal_line why h

-- ---- requests

place : (n : ℕ) → is_between 0 file_bytes_max n ≡ true → free 10 (decimal n) ≡ true
place n h = number_line 0 file_bytes_max n (lit< tt) h

act_line : (a : Op) (o : Outcome) → is_act a o ≡ true → (free 10 (op_text a) ≡ true) × (free 10 (outcome_text o) ≡ true)
act_line (op.Probe name) o h = let p = and_parts (is_name name) (is_done o) h in (j1 (codes "probe ") name refl (name_line name p.0), done_line o p.1)
act_line (op.Find c) o h = let p = and_parts (is_component c) (is_found o) h in (j1 (codes "find ") c refl (component_line c p.0), found_line o p.1)
act_line (op.Insert name ino k) o h =
    let p = and_parts (is_name name) (is_inode ino && is_done o) h in
    let q = and_parts (is_inode ino) (is_done o) p.1 in
    (j3 (codes "insert ") name (decimal ino) (kind_text k) refl (name_line name p.0) (number_line 1 inodes_max ino (lit< tt) q.0) (kind_line k), done_line o q.1)
act_line (op.Remove name ino) o h =
    let p = and_parts (is_name name) (is_inode ino && is_done o) h in
    let q = and_parts (is_inode ino) (is_done o) p.1 in
    (j2 (codes "remove ") name (decimal ino) refl (name_line name p.0) (number_line 1 inodes_max ino (lit< tt) q.0), done_line o q.1)
act_line (op.Rename c name) o h =
    let p = and_parts (is_component c) (is_name name && is_done o) h in
    let q = and_parts (is_name name) (is_done o) p.1 in
    (j2 (codes "rename ") c name refl (component_line c p.0) (name_line name q.0), done_line o q.1)
act_line op.Empty o h = (refl, done_line o h)
act_line (op.Read at len) o h =
    let p = and_parts (is_between 0 file_bytes_max at) (is_between 0 4096 len && is_read o) h in
    let q = and_parts (is_between 0 4096 len) (is_read o) p.1 in
    (j2 (codes "read ") (decimal at) (decimal len) refl (place at p.0) (number_line 0 4096 len (lit< tt) q.0), read_line o q.1)
act_line (op.Write at bytes) o h =
    let p = and_parts (is_between 0 file_bytes_max at) (is_some_data 4096 bytes && is_done o) h in
    let q = and_parts (is_some_data 4096 bytes) (is_done o) p.1 in
    (j2 (codes "write ") (decimal at) (hex_text bytes) refl (place at p.0) (data_line 4096 bytes (data_of 4096 bytes q.0)), done_line o q.1)
act_line (op.Cut len) o h = let p = and_parts (is_between 0 file_bytes_max len) (is_done o) h in (j1 (codes "cut ") (decimal len) refl (place len p.0), done_line o p.1)
act_line op.Commit o h = (refl, committed_line o h)
act_line op.Abort o h = (refl, done_line o h)
act_line op.Mend o h = (refl, done_line o h)

look_line : (w : What) (s : Served) → is_look w s ≡ true → (free 10 (what_text w) ≡ true) × (free 10 (served_text s) ≡ true)
look_line (what.Name c) s h = let p = and_parts (is_component c) (is_served s) h in (j1 (codes "name ") c refl (component_line c p.0), served_line s p.1)
look_line what.List s h = (refl, served_line s h)
look_line what.Stat s h = (refl, served_line s h)
look_line (what.Whole stamp) s h = (refl, served_line s (and_parts (is_stamp stamp) (is_served s) h).1)

-- ---- calls

-- ---- lists

low_sites : (s : Sites) (n : ℕ) → n ≤ sites_max → list_all (is_between 0 sites_max) (sites_to s n) ≡ true
low_sites s zero le = refl
low_sites s (suc n) le =
    end_list (is_between 0 sites_max) (sites_to s n) (cond (has s (suc n)) (suc n ∷ []) []) (low_sites s n (omega arith))
    (either_list (is_between 0 sites_max) (has s (suc n)) (suc n ∷ []) [] (and_both (is_between 0 sites_max (suc n)) true (is_between_from 0 sites_max (suc n) (omega arith) le) refl) refl)

sites_line : (s : Sites) → free 10 (sites_text s) ≡ true
sites_line s = join_line decimal (is_between 0 sites_max) (codes ",") refl (λ n h. number_line 0 sites_max n (lit< tt) h) (sites_to s sites_max) (low_sites s sites_max (omega arith))

abbrev is_low : Member → Bool
is_low m = is_between 0 sites_max m.site && is_between 0 number_max m.boot

low_members : (boots : List ℕ) (n : ℕ) → n ≤ sites_max → ((i : ℕ) → get_or boots i 0 ≤ number_max) → list_all is_low (members_to boots n) ≡ true
low_members boots zero le top = refl
low_members boots (suc n) le top =
    let m : Member = record { site = suc n; boot = get_or boots n 0 } in
    let low : is_low m ≡ true = and_both _ _ (is_between_from 0 sites_max (suc n) (omega arith) le) (is_between_from 0 number_max (get_or boots n 0) (omega arith) (top n)) in
    end_list is_low (members_to boots n) (cond (get_or boots n 0 == 0) [] (m ∷ [])) (low_members boots n (omega arith) top)
    (either_list is_low (get_or boots n 0 == 0) [] (m ∷ []) refl (and_both (is_low m) true low refl))

member_line : (m : Member) → is_low m ≡ true → free 10 (member_text m) ≡ true
member_line m h =
    let p = and_parts (is_between 0 sites_max m.site) (is_between 0 number_max m.boot) h in
    dotted (decimal m.site) (codes ":") (decimal m.boot) (number_line 0 sites_max m.site (lit< tt) p.0) refl (number_line 0 number_max m.boot (lit< tt) p.1)

members_line : (m : Members) → is_members m ≡ true → free 10 (members_text m) ≡ true
members_line m h =
    let p = and_parts (length m.boot == sites_max && list_all (is_between 0 number_max) m.boot) (nat_lt 0 (length (members_to m.boot sites_max))) h in
    let q = and_parts (length m.boot == sites_max) (list_all (is_between 0 number_max) m.boot) p.0 in
    join_line member_text is_low (codes ",") refl member_line (members_to m.boot sites_max) (low_members m.boot sites_max (omega arith) (boot_small m.boot q.1))

copies_line : (copies : List Brought) → list_all is_brought copies ≡ true → free 10 (copies_text copies) ≡ true
copies_line [] h = refl
copies_line (c ∷ cs) h =
    let p = and_parts (is_brought c) (list_all is_brought cs) h in
    let q = and_parts (is_inode c.ino) (is_stamp c.stamp) p.0 in
    two (copy_text c) (copies_text cs)
    (dotted (gap ++ decimal c.ino) (codes "=") (stamp_text c.stamp) (two gap (decimal c.ino) refl (number_line 1 inodes_max c.ino (lit< tt) q.0)) refl (stamp_line c.stamp q.1)) (copies_line cs p.1)

stamps_line : (stamps : List Stamp) → list_all is_stamp stamps ≡ true → free 10 (stamps_text stamps) ≡ true
stamps_line [] h = refl
stamps_line (s ∷ ss) h = join_line stamp_text is_stamp (codes ",") refl stamp_line (s ∷ ss) h

-- ---- calls

descriptor_line : (fd : ℕ) → is_descriptor fd ≡ true → free 10 (decimal fd) ≡ true
descriptor_line fd h = number_line 0 (descriptor_span - 1) fd (lit< tt) (from_zero (descriptor_span - 1) fd h)

opening_line : (m : OpenMode) → fits_mode sites_max m ≡ true → free 10 (opening_text m) ≡ true
opening_line opening.Read h = refl
opening_line opening.Write h = refl
opening_line opening.Steady h = refl
opening_line (opening.Resolve site) h = j1 (codes "x ") (decimal site) refl (number_line 1 sites_max site (lit< tt) h)

call_line : (c : Call) → fits_call sites_max c ≡ true → free 10 (call_words c) ≡ true
call_line (call.Create path None) h = j1 (codes "create ") path refl (word_line path (and_parts (is_word path) true h).0)
call_line (call.Create path (Some sites)) h = j2 (codes "create ") path (sites_text sites) refl (word_line path (and_parts (is_word path) (is_some_sites sites_max sites) h).0) (sites_line sites)
call_line (call.MakeDir path) h = j1 (codes "mkdir ") path refl (word_line path h)
call_line (call.Unlink path) h = j1 (codes "unlink ") path refl (word_line path h)
call_line (call.RemoveDir path) h = j1 (codes "rmdir ") path refl (word_line path h)
call_line (call.Rename path name) h = let p = and_parts (is_word path) (is_word name) h in j2 (codes "rename ") path name refl (word_line path p.0) (word_line name p.1)
call_line (call.List path) h = j1 (codes "list ") path refl (word_line path h)
call_line (call.Stat path) h = j1 (codes "stat ") path refl (word_line path h)
call_line (call.Mail path bytes) h =
    let d = and_parts (is_word path && is_between 1 4096 (length bytes)) (list_all is_byte bytes) h in
    let a = and_parts (is_word path) (is_between 1 4096 (length bytes)) d.0 in
    j2 (codes "mail ") path (hex_text bytes) refl (word_line path a.0) (data_line 4096 bytes (data_of 4096 bytes (and_both _ _ a.1 d.1)))
call_line (call.Mails path) h = j1 (codes "mails ") path refl (word_line path h)
call_line (call.Open path mode) h = let p = and_parts (is_word path) (fits_mode sites_max mode) h in j2 (codes "open ") path (opening_text mode) refl (word_line path p.0) (opening_line mode p.1)
call_line (call.Read fd at len) h =
    let a = and_parts (is_descriptor fd && nat_le at file_bytes_max) (nat_le len 4096) h in
    let b = and_parts (is_descriptor fd) (nat_le at file_bytes_max) a.0 in
    j3 (codes "read ") (decimal fd) (decimal at) (decimal len) refl (descriptor_line fd b.0) (place at (from_zero file_bytes_max at b.1)) (number_line 0 4096 len (lit< tt) (from_zero 4096 len a.1))
call_line (call.Write fd at bytes) h =
    let d = and_parts (is_descriptor fd && nat_le at file_bytes_max && is_between 1 4096 (length bytes)) (list_all is_byte bytes) h in
    let a = and_parts (is_descriptor fd && nat_le at file_bytes_max) (is_between 1 4096 (length bytes)) d.0 in
    let b = and_parts (is_descriptor fd) (nat_le at file_bytes_max) a.0 in
    j3 (codes "write ") (decimal fd) (decimal at) (hex_text bytes) refl (descriptor_line fd b.0) (place at (from_zero file_bytes_max at b.1)) (data_line 4096 bytes (data_of 4096 bytes (and_both _ _ a.1 d.1)))
call_line (call.Cut fd len) h =
    let a = and_parts (is_descriptor fd) (nat_le len file_bytes_max) h in
    j2 (codes "cut ") (decimal fd) (decimal len) refl (descriptor_line fd a.0) (place len (from_zero file_bytes_max len a.1))
call_line (call.Commit fd) h = j1 (codes "commit ") (decimal fd) refl (descriptor_line fd h)
call_line (call.Abort fd) h = j1 (codes "abort ") (decimal fd) refl (descriptor_line fd h)
call_line (call.Close fd) h = j1 (codes "close ") (decimal fd) refl (descriptor_line fd h)
call_line (call.Mend file) h = never h

mend_line : (c : Call) → is_mend c ≡ true → free 10 (call_words c) ≡ true
mend_line (call.Mend file) h = j1 (codes "mend ") (file_text file) refl (file_line file h)
mend_line c h = never h

words_line : (process : ℕ) (c : Call) → is_words process c ≡ true → free 10 (call_words c) ≡ true
words_line process c h = by (process == 0) h
  where
    by : (b : Bool) → cond b (is_mend c) (fits_call sites_max c) ≡ true → free 10 (call_words c) ≡ true
    by true h = mend_line c h
    by false h = call_line c h

-- ---- records

mode_line : (m : Mode) → free 10 (mode_text m) ≡ true
mode_line mode.Read = refl
mode_line x = refl

cause_line : (c : StopCause) → free 10 (cause_text c) ≡ true
cause_line cause.Asked = refl
cause_line x = refl

packet_line : (k : PacketKind) → free 10 (packet_kind_text k) ≡ true
packet_line packet.Poll = refl
packet_line x = refl

call_id_line : (c : CallId) → is_call_id c ≡ true → free 10 (call_id_text c) ≡ true
call_id_line c h =
    let p = and_parts (is_any_site c.site) (is_counted c.boot && is_counted c.n) h in
    let q = and_parts (is_counted c.boot) (is_counted c.n) p.1 in
    dotted (codes "c" ++ decimal c.site ++ codes "." ++ decimal c.boot) (codes ".") (decimal c.n)
    (dotted (codes "c" ++ decimal c.site) (codes ".") (decimal c.boot) (two (codes "c") (decimal c.site) refl (number_line 1 sites_max c.site (lit< tt) p.0)) refl (number_line 1 number_max c.boot (lit< tt) q.0)) refl (number_line 1 number_max c.n (lit< tt) q.1)

serial_line : (i : Serial) → is_instance i ≡ true → free 10 (serial_text i) ≡ true
serial_line i h =
    let p = and_parts (is_any_site i.us) (is_counted i.serial) h in
    dotted (codes "i" ++ decimal i.us) (codes ".") (decimal i.serial) (two (codes "i") (decimal i.us) refl (number_line 1 sites_max i.us (lit< tt) p.0)) refl (number_line 1 number_max i.serial (lit< tt) p.1)

refused_line : (m : Mode) (f : _) → is_refused_file m f ≡ true → free 10 (file_text f) ≡ true
refused_line m f h =
    let p = and_parts (is_group f.group && is_between 0 inodes_max f.ino) (names_inode m f.ino) h in
    let q = and_parts (is_group f.group) (is_between 0 inodes_max f.ino) p.0 in
    dotted (decimal f.group) (codes ".") (decimal f.ino) (number_line 0 3 f.group (lit< tt) q.0) refl (number_line 0 inodes_max f.ino (lit< tt) q.1)

pub record_line : (r : Record) → is_record r ≡ true → free 10 (record_text r) ≡ true
record_line (Up site boot) h =
    let p0 = and_parts (is_any_site site) (is_counted boot) h in
    j2 (codes "up ") (decimal site) (decimal boot) refl
    (number_line 1 sites_max site (lit< tt) p0.0) (number_line 1 number_max boot (lit< tt) p0.1)
record_line (Stopped site why) h =
    j2 (codes "stopped ") (decimal site) (cause_text why) refl
    (number_line 1 sites_max site (lit< tt) h) (cause_line why)
record_line (Leave site epoch) h =
    let p0 = and_parts (is_any_site site) (is_epoch epoch) h in
    j2 (codes "leave ") (decimal site) (epoch_text epoch) refl
    (number_line 1 sites_max site (lit< tt) p0.0) (epoch_line epoch p0.1)
record_line (Join site epoch members) h =
    let p0 = and_parts (is_any_site site) (is_epoch epoch && (is_members members)) h in
    let p1 = and_parts (is_epoch epoch) (is_members members) p0.1 in
    j3 (codes "join ") (decimal site) (epoch_text epoch) (members_text members) refl
    (number_line 1 sites_max site (lit< tt) p0.0) (epoch_line epoch p1.0) (members_line members p1.1)
record_line (Start epoch group copies) h =
    let p0 = and_parts (is_epoch epoch) (is_group group && (list_all is_brought copies && ascend copies)) h in
    let p1 = and_parts (is_group group) (list_all is_brought copies && ascend copies) p0.1 in
    let p2 = and_parts (list_all is_brought copies) (ascend copies) p1.1 in
    two (codes "start " ++ epoch_text epoch ++ gap ++ decimal group) (copies_text copies) (j2 (codes "start ") (epoch_text epoch) (decimal group) refl (epoch_line epoch p0.0) (number_line 0 3 group (lit< tt) p1.0)) (copies_line copies p2.0)
record_line (Accept site process call words) h =
    let p0 = and_parts (is_any_site site) (is_process process && (is_call_id call && is_words process words)) h in
    let p1 = and_parts (is_process process) (is_call_id call && is_words process words) p0.1 in
    let p2 = and_parts (is_call_id call) (is_words process words) p1.1 in
    j4 (codes "call ") (decimal site) (decimal process) (call_id_text call) (call_words words) refl
    (number_line 1 sites_max site (lit< tt) p0.0) (number_line 0 8 process (lit< tt) p1.0) (call_id_line call p2.0) (words_line process words p2.1)
record_line (Look epoch call request file asked given) h =
    let p0 = and_parts (is_epoch epoch) (is_call_id call && (is_request request && (is_file file && is_look asked given))) h in
    let p1 = and_parts (is_call_id call) (is_request request && (is_file file && is_look asked given)) p0.1 in
    let p2 = and_parts (is_request request) (is_file file && is_look asked given) p1.1 in
    let p3 = and_parts (is_file file) (is_look asked given) p2.1 in
    let l = look_line asked given p3.1 in
    j6 (codes "look ") (epoch_text epoch) (call_id_text call) (decimal request) (file_text file) (what_text asked) (served_text given) refl
    (epoch_line epoch p0.0) (call_id_line call p1.0) (number_line 1 65535 request (lit< tt) p2.0) (file_line file p3.0) l.0 l.1
record_line (Grant epoch call request inst m file stamp ss) h =
    let p0 = and_parts (is_epoch epoch) (is_call_id call && (is_request request && (is_instance inst && (is_file file && (is_optional_stamp stamp && (is_any_site ss)))))) h in
    let p1 = and_parts (is_call_id call) (is_request request && (is_instance inst && (is_file file && (is_optional_stamp stamp && (is_any_site ss))))) p0.1 in
    let p2 = and_parts (is_request request) (is_instance inst && (is_file file && (is_optional_stamp stamp && (is_any_site ss)))) p1.1 in
    let p3 = and_parts (is_instance inst) (is_file file && (is_optional_stamp stamp && (is_any_site ss))) p2.1 in
    let p4 = and_parts (is_file file) (is_optional_stamp stamp && (is_any_site ss)) p3.1 in
    let p5 = and_parts (is_optional_stamp stamp) (is_any_site ss) p4.1 in
    j8 (codes "grant ") (epoch_text epoch) (call_id_text call) (decimal request) (serial_text inst) (mode_text m) (file_text file) (optional_stamp_text stamp) (decimal ss) refl
    (epoch_line epoch p0.0) (call_id_line call p1.0) (number_line 1 65535 request (lit< tt) p2.0) (serial_line inst p3.0) (mode_line m) (file_line file p4.0) (optional_line stamp p5.0) (number_line 1 sites_max ss (lit< tt) p5.1)
record_line (Refuse epoch call request inst m file why) h =
    let p0 = and_parts (is_epoch epoch) (is_call_id call && (is_request request && (is_instance inst && (is_refused_file m file && is_refusal why)))) h in
    let p1 = and_parts (is_call_id call) (is_request request && (is_instance inst && (is_refused_file m file && is_refusal why))) p0.1 in
    let p2 = and_parts (is_request request) (is_instance inst && (is_refused_file m file && is_refusal why)) p1.1 in
    let p3 = and_parts (is_instance inst) (is_refused_file m file && is_refusal why) p2.1 in
    let p4 = and_parts (is_refused_file m file) (is_refusal why) p3.1 in
    j7 (codes "refuse ") (epoch_text epoch) (call_id_text call) (decimal request) (serial_text inst) (mode_text m) (file_text file) (refusal_text why) refl
    (epoch_line epoch p0.0) (call_id_line call p1.0) (number_line 1 65535 request (lit< tt) p2.0) (serial_line inst p3.0) (mode_line m) (refused_line m file p4.0) (refusal_line why p4.1)
record_line (Act epoch inst n asked given) h =
    let p0 = and_parts (is_epoch epoch) (is_instance inst && (is_counted n && is_act asked given)) h in
    let p1 = and_parts (is_instance inst) (is_counted n && is_act asked given) p0.1 in
    let p2 = and_parts (is_counted n) (is_act asked given) p1.1 in
    let l = act_line asked given p2.1 in
    j5 (codes "act ") (epoch_text epoch) (serial_text inst) (decimal n) (op_text asked) (outcome_text given) refl
    (epoch_line epoch p0.0) (serial_line inst p1.0) (number_line 1 number_max n (lit< tt) p2.0) l.0 l.1
record_line (Commit file site stamp parents content) h =
    let p0 = and_parts (is_file file) (is_any_site site && (is_stamp stamp && (list_all is_stamp parents && (is_data file_bytes_max content)))) h in
    let p1 = and_parts (is_any_site site) (is_stamp stamp && (list_all is_stamp parents && (is_data file_bytes_max content))) p0.1 in
    let p2 = and_parts (is_stamp stamp) (list_all is_stamp parents && (is_data file_bytes_max content)) p1.1 in
    let p3 = and_parts (list_all is_stamp parents) (is_data file_bytes_max content) p2.1 in
    j5 (codes "commit ") (file_text file) (decimal site) (stamp_text stamp) (stamps_text parents) (hex_text content) refl
    (file_line file p0.0) (number_line 1 sites_max site (lit< tt) p1.0) (stamp_line stamp p2.0) (stamps_line parents p3.0) (data_line file_bytes_max content p3.1)
record_line (Release epoch inst file stamp) h =
    let p0 = and_parts (is_epoch epoch) (is_instance inst && (is_file file && (is_optional_stamp stamp))) h in
    let p1 = and_parts (is_instance inst) (is_file file && (is_optional_stamp stamp)) p0.1 in
    let p2 = and_parts (is_file file) (is_optional_stamp stamp) p1.1 in
    j4 (codes "release ") (epoch_text epoch) (serial_text inst) (file_text file) (optional_stamp_text stamp) refl
    (epoch_line epoch p0.0) (serial_line inst p1.0) (file_line file p2.0) (optional_line stamp p2.1)
record_line (Adopt file site stamp) h =
    let p0 = and_parts (is_file file) (is_any_site site && (is_stamp stamp)) h in
    let p1 = and_parts (is_any_site site) (is_stamp stamp) p0.1 in
    j3 (codes "adopt ") (file_text file) (decimal site) (stamp_text stamp) refl
    (file_line file p0.0) (number_line 1 sites_max site (lit< tt) p1.0) (stamp_line stamp p1.1)
record_line (Answer site process call given) h =
    let p0 = and_parts (is_any_site site) (is_process process && (is_call_id call && (is_reply given))) h in
    let p1 = and_parts (is_process process) (is_call_id call && (is_reply given)) p0.1 in
    let p2 = and_parts (is_call_id call) (is_reply given) p1.1 in
    j4 (codes "reply ") (decimal site) (decimal process) (call_id_text call) (reply_text given) refl
    (number_line 1 sites_max site (lit< tt) p0.0) (number_line 0 8 process (lit< tt) p1.0) (call_id_line call p2.0) (reply_line given p2.1)
record_line (Packet n from to k) h =
    let p0 = and_parts (is_counted n) (is_any_site from && (is_any_site to)) h in
    let p1 = and_parts (is_any_site from) (is_any_site to) p0.1 in
    j4 (codes "packet ") (decimal n) (decimal from) (decimal to) (packet_kind_text k) refl
    (number_line 1 number_max n (lit< tt) p0.0) (number_line 1 sites_max from (lit< tt) p1.0) (number_line 1 sites_max to (lit< tt) p1.1) (packet_line k)
record_line Void h = refl
record_line Budget h = refl
