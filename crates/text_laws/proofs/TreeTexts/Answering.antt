-- What calls of a past of texts are answered, and where they begin, is in range.
use Rattle.std.proofs.Common.{◌≡◌, ◌≤◌, ℕ, zero, suc, ◌+◌, ◌&&◌, Bool, true, false, cond, List, length, Option, Some, None, refl, subst, arith}
use Rattle.std.proofs.lemmas.Bool.Decides.{nat_tests}
use Rattle.std.specs.List.{list_all}
use Rattle.locus_ids.specs.Sizes.{file_bytes_max, descriptor_span, descriptors_max}
use Rattle.locus_ids.specs.declared.ids.CallId.{CallId}
use Rattle.locus_ids.specs.declared.ids.EpochId.{EpochId}
use Rattle.locus_ids.specs.declared.ids.FileId.{FileId}
use Rattle.locus_ids.specs.declared.ids.Kind.{Kind}
use Rattle.locus_ids.specs.declared.ids.Mode.{Mode}
use Rattle.locus_ids.specs.declared.ids.Mode.TheVariants as mode
use Rattle.locus_ids.specs.declared.ids.Serial.{Serial}
use Rattle.locus_ids.specs.declared.ids.Stamp.{Stamp}
use Rattle.commit_graph.specs.Grants.{is_read}
use Rattle.commit_graph.specs.Versions.{content_of}
use Rattle.trace_book.specs.Names.{is_name}
use Rattle.trace_book.specs.declared.call.Call.{Call}
use Rattle.trace_book.specs.declared.call.Call.TheVariants as call
use Rattle.trace_book.specs.declared.descriptor.Descriptor.{Descriptor}
use Rattle.trace_book.specs.declared.descriptor.OneVersion.{OneVersion}
use Rattle.trace_book.specs.declared.descriptor.Beginning.{Beginning}
use Rattle.trace_book.specs.declared.descriptor.Beginning.TheVariants as begins
use Rattle.trace_book.specs.declared.operation.Op.{Op}
use Rattle.trace_book.specs.declared.operation.Op.TheVariants as op
use Rattle.trace_book.specs.declared.operation.Outcome.{Outcome}
use Rattle.trace_book.specs.declared.operation.Outcome.TheVariants as outcome
use Rattle.trace_book.specs.declared.operation.Served.{Served}
use Rattle.trace_book.specs.declared.operation.Served.TheVariants as served
use Rattle.trace_book.specs.declared.operation.What.{What}
use Rattle.trace_book.specs.declared.operation.What.TheVariants as what
use Rattle.schedule_lines.specs.Ranges.{is_between}
use Rattle.wire_fields.specs.Components.{is_component}
use Rattle.dir_format.specs.Contents.{entries_of}
use Rattle.dir_format.specs.Lookups.{lookup}
use Rattle.dir_format.specs.declared.looking.LookResult.{LookResult}
use Rattle.dir_format.specs.declared.looking.LookResult.TheVariants as found
use Rattle.call_rules.specs.Descriptors.{beginning, begins_open, begins_walk, is_in, lowest_free, lowest_free_from, begins_again, begins_change, begins_close, begins_read, held_or, stale_or}
use Rattle.call_rules.specs.Words.{is_too_long}
use Rattle.text_laws.specs.CallTexts.Wants.{is_answer, is_asked_op, is_begun, is_free, is_gift}
use Rattle.lawful_trace.specs.Progress.{entered, found_in, granted_answer, outcome_answer}
use Rattle.promises.specs.Past.{Past, Instance, making_of}
use Rattle.promises.specs.After.{close_answer, look_answer}
use Rattle.past_laws.proofs.Names.{both, both_parts, false_true}
use Rattle.record_reading.specs.Ranges as range
use Rattle.text_laws.proofs.TreeTexts.Contents.{entries_are}
use Rattle.text_laws.proofs.TreeTexts.Effects.{data_is}
use Rattle.text_laws.proofs.TreeTexts.Lookups.{is_result, lookup_text}
use Rattle.text_laws.proofs.TreeTexts.Shown.{shown_text}
use Rattle.text_laws.proofs.TreeTexts.Texts.{PastText, content_text, is_kept_version, is_optional_descriptor}

-- ---- operations ----

done_gift : (r : Outcome) → range.is_done r ≡ true → is_gift r ≡ true
done_gift outcome.Done h = h
done_gift (outcome.No why) h = h
done_gift _ h = false_true h

found_gift : (r : Outcome) → range.is_found r ≡ true → is_gift r ≡ true
found_gift (outcome.Found ino kind) h = h
found_gift (outcome.No why) h = h
found_gift _ h = false_true h

read_gift : (r : Outcome) → range.is_read r ≡ true → is_gift r ≡ true
read_gift (outcome.Data bytes) h = h
read_gift (outcome.No why) h = h
read_gift _ h = false_true h

committed_gift : (r : Outcome) → range.is_committed r ≡ true → is_gift r ≡ true
committed_gift (outcome.Committed stamp) h = h
committed_gift (outcome.No why) h = h
committed_gift _ h = false_true h

-- the words of an operation, and what it gave
pub act_parts : (o : Op) (r : Outcome) → range.is_act o r ≡ true → (is_asked_op o ≡ true) × (is_gift r ≡ true)
act_parts (op.Probe name) r h = (let p = both_parts (is_name name) (range.is_done r) h in (p.0, done_gift r p.1))
act_parts (op.Find component) r h = (let p = both_parts (is_component component) (range.is_found r) h in (p.0, found_gift r p.1))
act_parts (op.Insert name ino kind) r h = (let p = both_parts (is_name name) (range.is_inode ino && range.is_done r) h in let q = both_parts (range.is_inode ino) (range.is_done r) p.1 in (both (is_name name) (range.is_inode ino) p.0 q.0, done_gift r q.1))
act_parts (op.Remove name ino) r h = (let p = both_parts (is_name name) (range.is_inode ino && range.is_done r) h in let q = both_parts (range.is_inode ino) (range.is_done r) p.1 in (both (is_name name) (range.is_inode ino) p.0 q.0, done_gift r q.1))
act_parts (op.Rename component name) r h = (let p = both_parts (is_component component) (is_name name && range.is_done r) h in let q = both_parts (is_name name) (range.is_done r) p.1 in (both (is_component component) (is_name name) p.0 q.0, done_gift r q.1))
act_parts op.Empty r h = (refl, done_gift r h)
act_parts (op.Read at len) r h = (let p = both_parts (is_between 0 file_bytes_max at) (is_between 0 4096 len && range.is_read r) h in let q = both_parts (is_between 0 4096 len) (range.is_read r) p.1 in (both (is_between 0 file_bytes_max at) (is_between 0 4096 len) p.0 q.0, read_gift r q.1))
act_parts (op.Write at bytes) r h = (let p = both_parts (is_between 0 file_bytes_max at) (range.is_some_data 4096 bytes && range.is_done r) h in let q = both_parts (range.is_some_data 4096 bytes) (range.is_done r) p.1 in (both (is_between 0 file_bytes_max at) (range.is_some_data 4096 bytes) p.0 q.0, done_gift r q.1))
act_parts (op.Cut len) r h = (let p = both_parts (is_between 0 file_bytes_max len) (range.is_done r) h in (p.0, done_gift r p.1))
act_parts op.Commit r h = (refl, committed_gift r h)
act_parts op.Abort r h = (refl, done_gift r h)
act_parts op.Mend r h = (refl, done_gift r h)

pub outcome_text : (r : Outcome) → is_gift r ≡ true → is_answer (outcome_answer r) ≡ true
outcome_text outcome.Done h = h
outcome_text (outcome.Found ino kind) h = h
outcome_text (outcome.Data bytes) h = h
outcome_text (outcome.Committed stamp) h = h
outcome_text (outcome.No why) h = h

-- ---- looks, grants and closes ----

entered_text : (component : List ℕ) (r : LookResult) → is_component component ≡ true → is_result r ≡ true → is_answer (entered component r) ≡ true
entered_text component (found.Found ino kind) k h = h
entered_text component found.Absent k h = k
entered_text component (found.Ambiguous a b) k h = h

served_text : (kind : Kind) (stamp : Stamp) (w : What) (content : List ℕ) → range.is_look w (served.At stamp) ≡ true → range.is_data file_bytes_max content ≡ true → is_answer (found_in kind stamp w content) ≡ true
served_text kind stamp (what.Name component) content k h = entered_text component (lookup (entries_of content) component) (both_parts (is_component component) (range.is_stamp stamp) k).0 (lookup_text (entries_of content) component (entries_are content))
served_text kind stamp what.List content k h = shown_text content
served_text kind stamp what.Stat content k h = both (is_between 0 range.number_max (length content)) (range.is_stamp stamp) (test (length content) (data_is file_bytes_max content h).few) k
  where
    test : (n : ℕ) → n ≤ file_bytes_max → is_between 0 range.number_max n ≡ true
    test n le = grind (arith, nat_tests)
served_text kind stamp (what.Whole asked) content k h = refl

unserved : (w : What) (s : Served) → range.is_look w s ≡ true → range.is_served s ≡ true
unserved (what.Name component) s k = (both_parts (is_component component) (range.is_served s) k).1
unserved what.List s k = k
unserved what.Stat s k = k
unserved (what.Whole asked) s k = (both_parts (range.is_stamp asked) (range.is_served s) k).1

pub look_answer_text : (p : Past) (f : FileId) (w : What) (result : Served) → PastText p → range.is_look w result ≡ true → is_answer (look_answer p f w result) ≡ true
look_answer_text p f w (served.At stamp) h k = served_text (making_of p f).kind stamp w (content_of p.history f stamp) k (content_text p.history f stamp h.history)
look_answer_text p f w (served.No why) h k = unserved w (served.No why) k

pub granted_text : (m : Mode) (i : Serial) (f : FileId) (stamp : Option Stamp) (kept : List Stamp) → range.is_file f ≡ true → range.is_optional_stamp stamp ≡ true → list_all range.is_stamp kept ≡ true → is_answer (granted_answer m i f stamp kept) ≡ true
granted_text mode.Mend i f stamp kept h n k = k
granted_text mode.Read i f (Some stamp) kept h n k = both (range.is_file f) (range.is_stamp stamp) h n
granted_text mode.Read i f None kept h n k = (both_parts (range.is_group f.group) (range.is_inode f.ino) h).1
granted_text mode.Write i f stamp kept h n k = (both_parts (range.is_group f.group) (range.is_inode f.ino) h).1
granted_text mode.Resolve i f stamp kept h n k = (both_parts (range.is_group f.group) (range.is_inode f.ino) h).1
granted_text mode.Make i f stamp kept h n k = (both_parts (range.is_group f.group) (range.is_inode f.ino) h).1

pub close_text : (stamp : Option Stamp) (x : Instance) → range.is_optional_stamp stamp ≡ true → is_answer (close_answer stamp x) ≡ true
close_text stamp x h = over x.work.owes refl x.work.fresh refl
  where
    over : (a : Bool) → x.work.owes ≡ a → (b : Bool) → x.work.fresh ≡ b → is_answer (close_answer stamp x) ≡ true
    over true e b f = rw (e, close_answer) refl
    over false e true f = rw (e, f, close_answer) h
    over false e false f = rw (e, f, close_answer) refl

-- ---- beginnings ----

walk_text : (now : Option EpochId) (id : CallId) → range.is_call_id id ≡ true → is_begun (begins_walk now id) ≡ true
walk_text None id n = refl
walk_text (Some e) id n = n

open_text : (now : Option EpochId) (id : CallId) (free : Option ℕ) → range.is_call_id id ≡ true → is_begun (begins_open now id free) ≡ true
open_text now id None n = refl
open_text now id (Some fd) n = walk_text now id n

held_begun : (now : Option EpochId) (d : Descriptor) (otherwise : Beginning) → is_begun otherwise ≡ true → is_begun (held_or now d otherwise) ≡ true
held_begun now d otherwise h = over (is_in now d.epoch)
  where
    over : (b : Bool) → is_begun (cond b (begins.Uses d.epoch d.inst) otherwise) ≡ true
    over true = refl
    over false = h

stale_begun : (steady : OneVersion → Beginning) (last : EpochId) (o : Option OneVersion) → range.is_epoch last ≡ true → ((kept : OneVersion) → o ≡ Some kept → is_begun (steady kept) ≡ true) → is_begun (stale_or steady last o) ≡ true
stale_begun steady last None h k = h
stale_begun steady last (Some kept) h k = k kept refl

again_begun : (now : Option EpochId) (last : EpochId) (kept : OneVersion) → range.is_epoch last ≡ true → range.is_file kept.file ≡ true → is_begun (begins_again now last kept) ≡ true
again_begun None last kept h k = refl
again_begun (Some e) last kept h k = both (range.is_file kept.file) (range.is_epoch last) k h

read_begun : (now : Option EpochId) (d : Option Descriptor) → is_optional_descriptor d ≡ true → is_begun (begins_read now d) ≡ true
read_begun now None h = refl
read_begun now (Some d) h = held_begun now d (stale_or (begins_again now d.epoch) d.epoch d.steady) (stale_begun (begins_again now d.epoch) d.epoch d.steady parts.0 (λ kept e. again_begun now d.epoch kept parts.0 (subst (λ (o : Option OneVersion). is_kept_version o ≡ true) e parts.1)))
  where
    parts : (range.is_epoch d.epoch ≡ true) × (is_kept_version d.steady ≡ true)
    parts = both_parts (range.is_epoch d.epoch) (is_kept_version d.steady) h

close_begun : (now : Option EpochId) (d : Option Descriptor) → is_optional_descriptor d ≡ true → is_begun (begins_close now d) ≡ true
close_begun now None h = refl
close_begun now (Some d) h = held_begun now d (stale_or (λ version. begins.Frees) d.epoch d.steady) (stale_begun (λ version. begins.Frees) d.epoch d.steady (both_parts (range.is_epoch d.epoch) (is_kept_version d.steady) h).0 (λ kept e. refl))

change_begun : (now : Option EpochId) (d : Option Descriptor) → is_optional_descriptor d ≡ true → is_begun (begins_change now d) ≡ true
change_begun now None h = refl
change_begun now (Some d) h = by d.steady refl
  where
    at : d.steady ≡ None → (a r : Bool) → is_in now d.epoch ≡ a → is_read d.mode ≡ r → is_begun (begins_change now (Some d)) ≡ true
    at s true true e g = rw (s, e, g) refl
    at s true false e g = rw (s, e, g) refl
    at s false r e g = rw (s, e) (both_parts (range.is_epoch d.epoch) (is_kept_version d.steady) h).0

    by : (o : Option OneVersion) → d.steady ≡ o → is_begun (begins_change now (Some d)) ≡ true
    by None s = at s (is_in now d.epoch) (is_read d.mode) refl refl
    by (Some kept) s = rw s refl

write_text : (long : Bool) (now : Option EpochId) (id : CallId) (d : Option Descriptor) → is_optional_descriptor d ≡ true → (fd at : ℕ) (bytes : List ℕ) → is_too_long (call.Write fd at bytes) ≡ long → (table : ℕ → Option Descriptor) → table fd ≡ d → is_begun (beginning table now id (call.Write fd at bytes)) ≡ true
write_text true now id d h fd at bytes e table f = rw (e, beginning) refl
write_text false now id d h fd at bytes e table f = rw (e, f, beginning) (change_begun now d h)

pub beginning_text : (table : ℕ → Option Descriptor) (now : Option EpochId) (id : CallId) (words : Call) → range.is_call_id id ≡ true → ((fd : ℕ) → is_optional_descriptor (table fd) ≡ true) → is_begun (beginning table now id words) ≡ true
beginning_text table now id (call.Open path m) n h = open_text now id (lowest_free table) n
beginning_text table now id (call.Read fd at len) n h = read_begun now (table fd) (h fd)
beginning_text table now id (call.Write fd at bytes) n h = write_text (is_too_long (call.Write fd at bytes)) now id (table fd) (h fd) fd at bytes refl table refl
beginning_text table now id (call.Cut fd len) n h = change_begun now (table fd) (h fd)
beginning_text table now id (call.Commit fd) n h = change_begun now (table fd) (h fd)
beginning_text table now id (call.Abort fd) n h = change_begun now (table fd) (h fd)
beginning_text table now id (call.Close fd) n h = close_begun now (table fd) (h fd)
beginning_text table now id _ n h = walk_text now id n

free_from : (table : ℕ → Option Descriptor) (n left : ℕ) → n + left ≤ descriptor_span → is_free (lowest_free_from table n left) ≡ true
free_from table n zero few = refl
free_from table n (suc left) few = over (table n) refl (free_from table (n + 1) left (omega (arith, few)))
  where
    low : (m k : ℕ) → m + suc k ≤ descriptor_span → range.is_short m ≡ true
    low m k le = let f : m ≤ 65535 = omega (arith, le) in grind (arith, nat_tests)

    over : (d : Option Descriptor) → table n ≡ d → is_free (lowest_free_from table (n + 1) left) ≡ true → is_free (lowest_free_from table n (suc left)) ≡ true
    over None e later = rw (e, lowest_free_from) (low n left few)
    over (Some d) e later = rw (e, lowest_free_from) later

pub free_text : (table : ℕ → Option Descriptor) → is_free (lowest_free table) ≡ true
free_text table = free_from table 0 descriptors_max (omega arith)
