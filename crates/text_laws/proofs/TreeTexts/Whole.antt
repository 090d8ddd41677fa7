-- Along a trace that is one tree each record is a text, and the past stays one of texts.
use Rattle.std.proofs.Common.{◌≡◌, ℕ, ◌-◌, ◌==◌, ◌&&◌, true, List, [], ◌∷◌, filter, refl, subst, sym}
use Rattle.std.specs.List.{list_all}
use Rattle.locus_ids.specs.Sizes.{file_bytes_max}
use Rattle.locus_ids.specs.declared.config.Config.{Config}
use Rattle.locus_ids.specs.declared.ids.CallId.{CallId}
use Rattle.locus_ids.specs.declared.ids.EpochId.{EpochId}
use Rattle.locus_ids.specs.declared.ids.FileId.{FileId}
use Rattle.locus_ids.specs.declared.ids.Mode.{Mode}
use Rattle.locus_ids.specs.declared.ids.Serial.{Serial}
use Rattle.locus_ids.specs.declared.ids.Stamp.{Stamp}
use Rattle.std.specs.Prelude.{Option, not}
use Rattle.trace_book.specs.Same.{same_call}
use Rattle.trace_book.specs.declared.entry.Entry.{Entry}
use Rattle.trace_book.specs.declared.record.Record.{Record}
use Rattle.trace_book.specs.declared.record.Record.TheVariants as rec
use Rattle.call_rules.specs.declared.answer.Answer.TheVariants.{Refused}
use Rattle.text_laws.specs.CallTexts.Wants.{is_mount}
use Rattle.lawful_trace.specs.Progress.{outcome_answer}
use Rattle.tree_model.specs.State.{is_make}
use Rattle.promises.specs.Past.{Past, Make, epoch_at, is_named, nothing_yet}
use Rattle.promises.specs.After.{after, answered, is_actor, is_ender, is_id, look_answer, process_of, told_by}
use Rattle.promises.specs.Rows.{may_follow}
use Rattle.promises.specs.Traces.{each, is_one_tree}
use Rattle.past_laws.specs.Along.{IsNamed}
use Rattle.past_laws.proofs.CallsLists.{each_filter, each_found}
use Rattle.past_laws.proofs.Names.{both, both_parts}
use Rattle.record_reading.specs.Ranges as range
use Rattle.audit_laws.specs.Tidy.Steps.{OneCall}
use Rattle.audit_laws.specs.Tidy.Tidy.{IsTidy}
use Rattle.audit_laws.proofs.Tidy.Epochs.{epoch_stands}
use Rattle.audit_laws.proofs.Tidy.Steps.{grants_call}
use Rattle.audit_laws.proofs.Tidy.Tidy.{tidy_first, tidy_next}
use Rattle.text_laws.specs.TreeTexts.NewTexts.{is_new_text}
use Rattle.text_laws.proofs.TreeTexts.Answering.{act_parts, look_answer_text, outcome_text}
use Rattle.text_laws.proofs.TreeTexts.Begins.{nothing_text}
use Rattle.text_laws.proofs.TreeTexts.RowsActs.{act_row, commit_row, release_row}
use Rattle.text_laws.proofs.TreeTexts.RowsCalls.{accept_row, answer_row, look_row, taken_text}
use Rattle.text_laws.proofs.TreeTexts.RowsOpens.{grant_row, refuse_row}
use Rattle.text_laws.proofs.TreeTexts.RowsSites.{adopt_row, join_row, leave_row, start_row, stop_row, up_row}
use Rattle.text_laws.proofs.TreeTexts.Steps.{acted_epochs, answered_text, booted_text, closed_text, committed_text, departed_text, held_now, joined_text, looked_text, refused_text, released_epochs, started_text, stopped_text}
use Rattle.text_laws.proofs.TreeTexts.StepsCalls.{accepted_text, begun_text, granted_past, replied_text}
use Rattle.text_laws.proofs.TreeTexts.Texts.{CallText, PastText}

-- ---- one record ----

record_row : (c : Config) (p : Past) (r : Record) → IsNamed c → list_all is_mount c.mounts ≡ true → IsTidy c p → PastText p → may_follow c p r ≡ true → is_new_text r ≡ true → range.is_record r ≡ true
record_row c p (rec.Up site boot) named mounts tidy h may new = up_row p site boot h may new
record_row c p (rec.Stopped site cause) named mounts tidy h may new = stop_row p site cause h may
record_row c p (rec.Leave site e) named mounts tidy h may new = leave_row p site e h may
record_row c p (rec.Join site e members) named mounts tidy h may new = join_row p site e members h may new
record_row c p (rec.Start e group copies) named mounts tidy h may new = start_row c p e group copies named.packs h (epoch_stands p e tidy.epochs).known may
record_row c p (rec.Accept site process id words) named mounts tidy h may new = accept_row c p site process id words h may new
record_row c p (rec.Look e id request f w result) named mounts tidy h may new = look_row c p e id request f w result mounts h new may
record_row c p (rec.Grant e id request i m f stamp ss) named mounts tidy h may new = grant_row c p e id request i m f stamp ss mounts h new may
record_row c p (rec.Refuse e id request i m f why) named mounts tidy h may new = refuse_row c p e id request i m f why mounts h new may
record_row c p (rec.Act e i n o result) named mounts tidy h may new = act_row c p e i n o result mounts h new may
record_row c p (rec.Commit f site stamp parents content) named mounts tidy h may new = commit_row p f site stamp parents content h new may
record_row c p (rec.Release e i f stamp) named mounts tidy h may new = release_row c p e i f stamp h may
record_row c p (rec.Adopt f site stamp) named mounts tidy h may new = adopt_row p f site stamp h may
record_row c p (rec.Answer site process id r) named mounts tidy h may new = answer_row c p site process id r mounts h may
record_row c p (rec.Packet n from to kind) named mounts tidy h may new = new
record_row c p rec.Void named mounts tidy h may new = refl
record_row c p rec.Budget named mounts tidy h may new = refl

-- ---- the past after it ----

-- the process of the call that is granted
granted_process : (p : Past) (id : CallId) → PastText p → OneCall p id → range.is_process (process_of p id) ≡ true
granted_process p id h it = subst (λ (n : ℕ). range.is_process n ≡ true) (sym it.process) (each_found CallText (is_id id) p.calls it.call it.found h.calls).0.process

grant_step : (c : Config) (p : Past) (e : EpochId) (id : CallId) (request : ℕ) (i : Serial) (m : Mode) (f : FileId) (stamp : Option Stamp) (ss : ℕ) → PastText p → range.is_process (process_of p id) ≡ true → range.is_record (rec.Grant e id request i m f stamp ss) ≡ true → PastText (told_by c (rec.Grant e id request i m f stamp ss) p)
grant_step c p e id request i m f stamp ss h process text =
    let a = both_parts (range.is_epoch e) _ text in
    let b = both_parts (range.is_call_id id) _ a.1 in
    let d = both_parts (range.is_instance i) _ (both_parts (range.is_request request) _ b.1).1 in
    let g = both_parts (range.is_file f) _ d.1 in
    granted_past p e (record { inst = i; call = id; process = process_of p id; mode = m; file = f; ss = ss }) stamp a.0 (record { inst = d.0; call = b.0; process = process; file = g.0; named = (both_parts (range.is_optional_stamp stamp) (range.is_any_site ss) g.1).0 }) h

told_text : (c : Config) (p : Past) (r : Record) → IsTidy c p → PastText p → may_follow c p r ≡ true → range.is_record r ≡ true → PastText (told_by c r p)
told_text c p (rec.Up site boot) tidy h may text = record { sites = booted_text p site boot h; epochs = h.epochs; calls = h.calls; history = h.history; files = h.files }
told_text c p (rec.Stopped site cause) tidy h may text = stopped_text p site h
told_text c p (rec.Leave site e) tidy h may text = departed_text p site h
told_text c p (rec.Join site e members) tidy h may text = let a = both_parts (range.is_any_site site) (range.is_epoch e && range.is_members members) text in joined_text p site e members a.0 (both_parts (range.is_epoch e) (range.is_members members) a.1).0 h
told_text c p (rec.Start e group copies) tidy h may text = record { sites = h.sites; epochs = started_text p e group (both_parts (range.is_group group) _ (both_parts (range.is_epoch e) _ text).1).0 h; calls = h.calls; history = h.history; files = h.files }
told_text c p (rec.Accept site process id words) tidy h may text =
    let a = both_parts (range.is_process process) _ (both_parts (range.is_any_site site) _ text).1 in
    let b = both_parts (range.is_call_id id) (range.is_words process words) a.1 in
    accepted_text p site _ (begun_text p site process id words a.0 b.0 b.1 h) h
told_text c p (rec.Look e id request f w result) tidy h may text =
    let a = both_parts (range.is_request request) _ (both_parts (range.is_call_id id) _ (both_parts (range.is_epoch e) _ text).1).1 in
    let b = both_parts (range.is_file f) (range.is_look w result) a.1 in
    record { sites = h.sites; epochs = h.epochs; calls = looked_text p id (request - 1) (look_answer p f w result) (taken_text (request - 1)) (look_answer_text p f w result h b.1) h; history = h.history; files = h.files }
told_text c p (rec.Grant e id request i m f stamp ss) tidy h may text = grant_step c p e id request i m f stamp ss h (granted_process p id h (grants_call c p e id request i m f stamp ss tidy may)) text
told_text c p (rec.Refuse e id request i m f why) tidy h may text =
    let a = both_parts (range.is_instance i) _ (both_parts (range.is_request request) _ (both_parts (range.is_call_id id) _ (both_parts (range.is_epoch e) _ text).1).1).1 in
    let b = both_parts (range.is_refused_file m f) (range.is_refusal why) a.1 in
    answered_text (is_id id) (Refused why) _ b.1 (record { sites = h.sites; epochs = refused_text p e (λ (k : Make). not (is_make m && ((k.group == f.group) && same_call k.call id))) h; calls = h.calls; history = h.history; files = h.files })
told_text c p (rec.Act e i n o result) tidy h may text =
    let a = both_parts (range.is_counted n) (range.is_act o result) (both_parts (range.is_instance i) _ (both_parts (range.is_epoch e) _ text).1).1 in
    let b = act_parts o result a.1 in
    let k : PastText (answered (is_actor (epoch_at p e) i n) (outcome_answer result) p) = answered_text (is_actor (epoch_at p e) i n) (outcome_answer result) p (outcome_text result b.1) h in
    record { sites = k.sites; epochs = acted_epochs p e i o result b.0 h; calls = k.calls; history = k.history; files = k.files }
told_text c p (rec.Commit f site stamp parents content) tidy h may text =
    let a = both_parts (range.is_file f) _ text in
    let b = both_parts (range.is_stamp stamp) _ (both_parts (range.is_any_site site) _ a.1).1 in
    committed_text c (record { file = f; site = site; stamp = stamp; parents = parents; content = content }) p a.0 b.0 (both_parts (list_all range.is_stamp parents) (range.is_data file_bytes_max content) b.1).1 h
told_text c p (rec.Release e i f stamp) tidy h may text =
    let a = both_parts (range.is_file f) (range.is_optional_stamp stamp) (both_parts (range.is_instance i) _ (both_parts (range.is_epoch e) _ text).1).1 in
    let k = closed_text (is_ender (epoch_at p e) i) stamp (filter (is_named i) (epoch_at p e).opened) p a.1 h in
    record { sites = k.sites; epochs = released_epochs i e f stamp _ a.0 a.1 k.epochs; calls = k.calls; history = k.history; files = k.files }
told_text c p (rec.Adopt f site stamp) tidy h may text =
    let a = both_parts (range.is_file f) _ text in
    held_now p site (record { file = f; stamp = stamp }) (both (range.is_file f) (range.is_stamp stamp) a.0 (both_parts (range.is_any_site site) (range.is_stamp stamp) a.1).1) h
told_text c p (rec.Answer site process id r) tidy h may text = replied_text r (filter (is_id id) p.calls) p (each_filter CallText (is_id id) p.calls h.calls) h
told_text c p (rec.Packet n from to kind) tidy h may text = h
told_text c p rec.Void tidy h may text = h
told_text c p rec.Budget tidy h may text = h

next_text : (c : Config) (p : Past) (r : Record) → IsTidy c p → PastText p → may_follow c p r ≡ true → range.is_record r ≡ true → PastText (after c r p)
next_text c p r tidy h may text = let k : PastText (told_by c r p) = told_text c p r tidy h may text in record { sites = k.sites; epochs = k.epochs; calls = k.calls; history = k.history; files = k.files }

-- ---- all records ----

texts : (c : Config) (p : Past) (trace : List Entry) → IsNamed c → list_all is_mount c.mounts ≡ true → IsTidy c p → PastText p → each (may_follow c) c p trace ≡ true → list_all (λ (e : Entry). is_new_text e.what) trace ≡ true → list_all (λ (e : Entry). range.is_record e.what) trace ≡ true
texts c p [] named mounts tidy h may new = refl
texts c p (r ∷ rest) named mounts tidy h may new =
    let a = both_parts (may_follow c p r.what) (each (may_follow c) c (after c r.what p) rest) may in
    let b = both_parts (is_new_text r.what) (list_all (λ (e : Entry). is_new_text e.what) rest) new in
    let row : range.is_record r.what ≡ true = record_row c p r.what named mounts tidy h a.0 b.0 in
    both (range.is_record r.what) (list_all (λ (e : Entry). range.is_record e.what) rest) row (texts c (after c r.what p) rest named mounts (tidy_next c p r.what tidy a.0) (next_text c p r.what tidy h a.0 row) a.1 b.1)

pub trace_texts : (c : Config) (trace : List Entry) → IsNamed c → list_all is_mount c.mounts ≡ true → is_one_tree c trace ≡ true → list_all (λ (e : Entry). is_new_text e.what) trace ≡ true → list_all (λ (e : Entry). range.is_record e.what) trace ≡ true
trace_texts c trace named mounts tree new = texts c (nothing_yet c) trace named mounts (tidy_first c) (nothing_text c named) tree new
