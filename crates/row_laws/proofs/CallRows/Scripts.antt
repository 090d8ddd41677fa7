-- Scripts close only what their calls opened, or what the descriptor of a close names; an open is replied to right after the
-- answer that opened it.
use Rattle.std.proofs.Common.{◌≡◌, ℕ, Bool, true, false, cond, List, [], ◌∷◌, Option, Some, None, refl}
use Rattle.locus_ids.specs.declared.ids.CallId.{CallId}
use Rattle.locus_ids.specs.declared.ids.EpochId.{EpochId}
use Rattle.locus_ids.specs.declared.ids.FileId.{FileId}
use Rattle.locus_ids.specs.declared.ids.Kind.{Kind}
use Rattle.locus_ids.specs.declared.ids.Kind.TheVariants as kind
use Rattle.locus_ids.specs.declared.ids.Serial.{Serial}
use Rattle.locus_ids.specs.declared.ids.Stamp.{Stamp}
use Rattle.locus_ids.specs.declared.sites.Sites.{Sites}
use Rattle.locus_ids.specs.declared.config.Mount.{Mount}
use Rattle.locus_ids.specs.declared.refusal.Refusal.{Refusal}
use Rattle.locus_ids.specs.declared.refusal.Refusal.TheVariants as refusal
use Rattle.commit_graph.specs.Versions.{same_stamp}
use Rattle.trace_book.specs.Messages.{message_name}
use Rattle.trace_book.specs.Names.{components, last_of, but_last, plain_name}
use Rattle.trace_book.specs.declared.call.Call.{Call}
use Rattle.trace_book.specs.declared.call.Call.TheVariants as call
use Rattle.trace_book.specs.declared.call.OpenMode.{OpenMode}
use Rattle.trace_book.specs.declared.descriptor.Beginning.{Beginning}
use Rattle.trace_book.specs.declared.descriptor.OneVersion.{OneVersion}
use Rattle.trace_book.specs.declared.descriptor.Beginning.TheVariants as begins
use Rattle.trace_book.specs.declared.operation.Op.{Op}
use Rattle.trace_book.specs.declared.operation.Outcome.{Outcome}
use Rattle.trace_book.specs.declared.operation.Outcome.TheVariants as outcome
use Rattle.trace_book.specs.declared.reply.Reply.{Reply}
use Rattle.trace_book.specs.declared.reply.Reply.TheVariants as reply
use Rattle.call_rules.specs.Mailing.{tells_name, shown_messages}
use Rattle.call_rules.specs.declared.answer.Answer.{Answer}
use Rattle.call_rules.specs.declared.answer.Answer.TheVariants as answer
use Rattle.call_rules.specs.declared.want.Want.{Want}
use Rattle.call_rules.specs.declared.want.Want.TheVariants as want
use Rattle.call_rules.specs.Closing.{Own, Unchanged, Changed, closes, aborts, gives, give_up, close_all}
use Rattle.call_rules.specs.Making.{after_insert, after_make, fills, after_probe, probes, opens_dir, changes_dir}
use Rattle.call_rules.specs.Mending.{after_mend, brings, mend_wants}
use Rattle.call_rules.specs.Naming.{renames}
use Rattle.call_rules.specs.Opening.{opens_file, reply_to, op_wants, close_wants, uses_wants, lists, describes, Shows, shown_in}
use Rattle.call_rules.specs.Reopening.{reads_again, reopened, reopen_wants}
use Rattle.call_rules.specs.Removing.{removes, empties, opens_target, by_kind, finds}
use Rattle.call_rules.specs.Scripts.{path_wants, begun_wants, named_wants, in_group, where_packed, wants}
use Rattle.call_rules.specs.Walks.{Walked, Asks, Fails, There, Strays, root_of, mounted_in, passes, walk, walked}
use Rattle.call_rules.specs.Words.{is_badly_named}
use Rattle.role_steps.specs.Own.{Every}
use Rattle.row_laws.specs.CallRows.Scripts.{OwnAnswer, EndsOpened, Closed, BeginsOwn}

-- ---- how a call ends ----

abbrev OwnOf : (Serial → Type 0) → Own → Type 0
OwnOf O (Unchanged i) = O i
OwnOf O (Changed i) = O i

gives_closed : (O : Serial → Type 0) (why : Refusal) (answers : List Answer) → Closed O ⊥ (gives (reply.No why) answers)
gives_closed O why [] = tt
gives_closed O why (a ∷ rest) = tt

closes_closed : (O : Serial → Type 0) (i : Serial) (next : List Answer → Want) → O i → ((rest : List Answer) → Every (OwnAnswer O) rest → Closed O ⊥ (next rest)) → (answers : List Answer) → Every (OwnAnswer O) answers → Closed O ⊥ (closes i next answers)
closes_closed O i next o k [] h = o
closes_closed O i next o k (answer.Ended stamp ∷ rest) h = k rest h.1
closes_closed O i next o k (answer.Refused why ∷ rest) h = k rest h.1
closes_closed O i next o k (_ ∷ rest) h = tt

aborts_closed : (O : Serial → Type 0) (i : Serial) (next : List Answer → Want) → ((rest : List Answer) → Every (OwnAnswer O) rest → Closed O ⊥ (next rest)) → (answers : List Answer) → Every (OwnAnswer O) answers → Closed O ⊥ (aborts i next answers)
aborts_closed O i next k [] h = tt
aborts_closed O i next k (answer.Did r ∷ rest) h = k rest h.1
aborts_closed O i next k (answer.Refused why ∷ rest) h = k rest h.1
aborts_closed O i next k (_ ∷ rest) h = tt

give_up_closed : (O : Serial → Type 0) (own : List Own) (why : Refusal) → Every (OwnOf O) own → (answers : List Answer) → Every (OwnAnswer O) answers → Closed O ⊥ (give_up own why answers)
give_up_closed O [] why o answers h = gives_closed O why answers
give_up_closed O (Unchanged i ∷ own) why o answers h = closes_closed O i (give_up own why) o.0 (give_up_closed O own why o.1) answers h
give_up_closed O (Changed i ∷ own) why o answers h = aborts_closed O i (closes i (give_up own why)) (closes_closed O i (give_up own why) o.0 (give_up_closed O own why o.1)) answers h

-- the reply isn't that of an open
abbrev Other : Reply → Type 0
Other (reply.Opened fd) = ⊥
Other _ = Unit {0}

given_closed : (O : Serial → Type 0) (r : Reply) → Other r → Closed O ⊥ (want.Give r)
given_closed O (reply.Opened fd) h = absurd h
given_closed O _ h = tt

all_gives_closed : (O : Serial → Type 0) (r : Reply) → Other r → (answers : List Answer) → Closed O ⊥ (gives r answers)
all_gives_closed O r n [] = given_closed O r n
all_gives_closed O r n (a ∷ rest) = tt

close_all_closed : (O : Serial → Type 0) (is : List Serial) (r : Reply) → Every O is → Other r → (answers : List Answer) → Every (OwnAnswer O) answers → Closed O ⊥ (close_all is r answers)
close_all_closed O [] r o n answers h = all_gives_closed O r n answers
close_all_closed O (i ∷ is) r o n [] h = o.0
close_all_closed O (i ∷ is) r o n (answer.Ended stamp ∷ rest) h = close_all_closed O is r o.1 n rest h.1
close_all_closed O (i ∷ is) r o n (answer.Refused why ∷ rest) h = refused is r i why o.1 rest h.1
  where
    refused : (is : List Serial) (r : Reply) (i : Serial) (why : Refusal) → Every O is → (rest : List Answer) → Every (OwnAnswer O) rest → Closed O ⊥ (close_all (i ∷ is) r (answer.Refused why ∷ rest))
    refused [] r i why o rest h = gives_closed O why rest
    refused (j ∷ js) r i why o [] h = o.0
    refused (j ∷ js) r i why o (answer.Ended stamp ∷ rest) h = refused js r j why o.1 rest h.1
    refused (j ∷ js) r i why o (answer.Refused other ∷ rest) h = refused js r j why o.1 rest h.1
    refused (j ∷ js) r i why o (_ ∷ rest) h = tt
close_all_closed O (i ∷ is) r o n (_ ∷ rest) h = tt

-- ---- create and mkdir ----

after_insert_closed : (O : Serial → Type 0) (p : Serial) (name : List ℕ) (k : Kind) (ino : ℕ) (told : Reply) → Other told → O p → (answers : List Answer) → Every (OwnAnswer O) answers → Closed O ⊥ (after_insert p name k ino told answers)
after_insert_closed O p name k ino told n o [] h = tt
after_insert_closed O p name k ino told n o (answer.Did r ∷ rest) h = close_all_closed O (p ∷ []) told (o, tt) n rest h.1
after_insert_closed O p name k ino told n o (answer.Refused why ∷ rest) h = give_up_closed O (Unchanged p ∷ []) why (o, tt) rest h.1
after_insert_closed O p name k ino told n o (_ ∷ rest) h = tt

after_make_closed : (O : Serial → Type 0) (p : Serial) (name : List ℕ) (k : Kind) (made : Serial) (ino : ℕ) (told : Reply) → Other told → O p → O made → (answers : List Answer) → Every (OwnAnswer O) answers → Closed O ⊥ (after_make p name k made ino told answers)
after_make_closed O p name k made ino told n o m [] h = m
after_make_closed O p name k made ino told n o m (answer.Ended stamp ∷ rest) h = after_insert_closed O p name k ino told n o rest h.1
after_make_closed O p name k made ino told n o m (answer.Refused why ∷ rest) h = give_up_closed O (Unchanged p ∷ []) why (o, tt) rest h.1
after_make_closed O p name k made ino told n o m (_ ∷ rest) h = tt

fills_closed : (O : Serial → Type 0) (p : Serial) (name : List ℕ) (k : Kind) (bytes : List ℕ) (made : Serial) (ino : ℕ) (told : Reply) → Other told → O p → O made → (answers : List Answer) → Every (OwnAnswer O) answers → Closed O ⊥ (fills p name k bytes made ino told answers)
fills_closed O p name k [] made ino told n o m answers h = after_make_closed O p name k made ino told n o m answers h
fills_closed O p name k (b ∷ bs) made ino told n o m [] h = tt
fills_closed O p name k (b ∷ bs) made ino told n o m (answer.Did r ∷ rest) h = after_make_closed O p name k made ino told n o m rest h.1
fills_closed O p name k (b ∷ bs) made ino told n o m (answer.Refused why ∷ rest) h = give_up_closed O (Unchanged made ∷ Unchanged p ∷ []) why (m, (o, tt)) rest h.1
fills_closed O p name k (b ∷ bs) made ino told n o m (_ ∷ rest) h = tt

after_probe_closed : (O : Serial → Type 0) (p : Serial) (group : ℕ) (name : List ℕ) (k : Kind) (sites : Option Sites) (bytes : List ℕ) (tells : ℕ → Reply) → ((n : ℕ) → Other (tells n)) → O p → (answers : List Answer) → Every (OwnAnswer O) answers → Closed O ⊥ (after_probe p group name k sites bytes tells answers)
after_probe_closed O p group name k sites bytes tells n o [] h = tt
after_probe_closed O p group name k sites bytes tells n o (answer.Opened made ino ∷ rest) h = fills_closed O p name k bytes made ino (tells ino) (n ino) o h.0 rest h.1
after_probe_closed O p group name k sites bytes tells n o (answer.Refused why ∷ rest) h = give_up_closed O (Unchanged p ∷ []) why (o, tt) rest h.1
after_probe_closed O p group name k sites bytes tells n o (_ ∷ rest) h = tt

probes_closed : (O : Serial → Type 0) (p : Serial) (group : ℕ) (name : List ℕ) (k : Kind) (sites : Option Sites) (bytes : List ℕ) (tells : ℕ → Reply) → ((n : ℕ) → Other (tells n)) → O p → (answers : List Answer) → Every (OwnAnswer O) answers → Closed O ⊥ (probes p group name k sites bytes tells answers)
probes_closed O p group name k sites bytes tells n o [] h = tt
probes_closed O p group name k sites bytes tells n o (answer.Did r ∷ rest) h = after_probe_closed O p group name k sites bytes tells n o rest h.1
probes_closed O p group name k sites bytes tells n o (answer.Refused why ∷ rest) h = give_up_closed O (Unchanged p ∷ []) why (o, tt) rest h.1
probes_closed O p group name k sites bytes tells n o (_ ∷ rest) h = tt

opens_dir_closed : (O : Serial → Type 0) (reached : List ℕ) (next : Serial → List Answer → Want) (dir : FileId) (k : Kind) → ((p : Serial) → O p → (rest : List Answer) → Every (OwnAnswer O) rest → Closed O ⊥ (next p rest)) → (answers : List Answer) → Every (OwnAnswer O) answers → Closed O ⊥ (opens_dir reached next dir k answers)
opens_dir_closed O reached next dir kind.File go answers h = tt
opens_dir_closed O reached next dir kind.Dir go [] h = tt
opens_dir_closed O reached next dir kind.Dir go (answer.Opened p ino ∷ rest) h = go p h.0 rest h.1
opens_dir_closed O reached next dir kind.Dir go (answer.Refused why ∷ rest) h = tt
opens_dir_closed O reached next dir kind.Dir go (_ ∷ rest) h = tt

-- ---- unlink, rmdir and rename ----

removes_closed : (O : Serial → Type 0) (p t : Serial) (name : List ℕ) (ino : ℕ) → O p → O t → (answers : List Answer) → Every (OwnAnswer O) answers → Closed O ⊥ (removes p t name ino answers)
removes_closed O p t name ino o q [] h = tt
removes_closed O p t name ino o q (answer.Did r ∷ rest) h = close_all_closed O (p ∷ t ∷ []) reply.Done (o, (q, tt)) tt rest h.1
removes_closed O p t name ino o q (answer.Refused why ∷ rest) h = give_up_closed O (Unchanged p ∷ Unchanged t ∷ []) why (o, (q, tt)) rest h.1
removes_closed O p t name ino o q (_ ∷ rest) h = tt

empties_closed : (O : Serial → Type 0) (k : Kind) (p t : Serial) (name : List ℕ) (ino : ℕ) → O p → O t → (answers : List Answer) → Every (OwnAnswer O) answers → Closed O ⊥ (empties k p t name ino answers)
empties_closed O kind.File p t name ino o q answers h = removes_closed O p t name ino o q answers h
empties_closed O kind.Dir p t name ino o q [] h = tt
empties_closed O kind.Dir p t name ino o q (answer.Did r ∷ rest) h = removes_closed O p t name ino o q rest h.1
empties_closed O kind.Dir p t name ino o q (answer.Refused why ∷ rest) h = give_up_closed O (Unchanged p ∷ Unchanged t ∷ []) why (o, (q, tt)) rest h.1
empties_closed O kind.Dir p t name ino o q (_ ∷ rest) h = tt

opens_target_closed : (O : Serial → Type 0) (k : Kind) (p : Serial) (group : ℕ) (name : List ℕ) (ino : ℕ) → O p → (answers : List Answer) → Every (OwnAnswer O) answers → Closed O ⊥ (opens_target k p group name ino answers)
opens_target_closed O k p group name ino o [] h = tt
opens_target_closed O k p group name ino o (answer.Opened t found ∷ rest) h = empties_closed O k p t name ino o h.0 rest h.1
opens_target_closed O k p group name ino o (answer.Refused why ∷ rest) h = give_up_closed O (Unchanged p ∷ []) why (o, tt) rest h.1
opens_target_closed O k p group name ino o (_ ∷ rest) h = tt

by_kind_closed : (O : Serial → Type 0) (k found : Kind) (p : Serial) (group : ℕ) (component : List ℕ) (ino : ℕ) → O p → (answers : List Answer) → Every (OwnAnswer O) answers → Closed O ⊥ (by_kind k found p group component ino answers)
by_kind_closed O kind.File kind.File p group component ino o answers h = opens_target_closed O kind.File p group (plain_name component) ino o answers h
by_kind_closed O kind.Dir kind.Dir p group component ino o answers h = opens_target_closed O kind.Dir p group (plain_name component) ino o answers h
by_kind_closed O kind.File kind.Dir p group component ino o answers h = give_up_closed O (Unchanged p ∷ []) _ (o, tt) answers h
by_kind_closed O kind.Dir kind.File p group component ino o answers h = give_up_closed O (Unchanged p ∷ []) _ (o, tt) answers h

finds_closed : (O : Serial → Type 0) (k : Kind) (p : Serial) (group : ℕ) (component : List ℕ) → O p → (answers : List Answer) → Every (OwnAnswer O) answers → Closed O ⊥ (finds k p group component answers)
finds_closed O k p group component o [] h = tt
finds_closed O k p group component o (answer.Did (outcome.Found ino found) ∷ rest) h = by_kind_closed O k found p group component ino o rest h.1
finds_closed O k p group component o (answer.Refused why ∷ rest) h = give_up_closed O (Unchanged p ∷ []) why (o, tt) rest h.1
finds_closed O k p group component o (_ ∷ rest) h = tt

renames_closed : (O : Serial → Type 0) (p : Serial) (component name : List ℕ) → O p → (answers : List Answer) → Every (OwnAnswer O) answers → Closed O ⊥ (renames p component name answers)
renames_closed O p component name o [] h = tt
renames_closed O p component name o (answer.Did r ∷ rest) h = close_all_closed O (p ∷ []) reply.Done (o, tt) tt rest h.1
renames_closed O p component name o (answer.Refused why ∷ rest) h = give_up_closed O (Unchanged p ∷ []) why (o, tt) rest h.1
renames_closed O p component name o (_ ∷ rest) h = tt

-- ---- mends, and calls on descriptors ----

close_wants_closed : (O : Serial → Type 0) (i : Serial) → O i → (answers : List Answer) → Closed O ⊥ (close_wants i answers)
close_wants_closed O i o [] = o
close_wants_closed O i o (answer.Ended stamp ∷ []) = tt
close_wants_closed O i o (answer.Refused why ∷ []) = tt
close_wants_closed O i o (_ ∷ rest) = tt

after_mend_closed : (O : Serial → Type 0) (i : Serial) → O i → (answers : List Answer) → Every (OwnAnswer O) answers → Closed O ⊥ (after_mend i answers)
after_mend_closed O i o [] h = tt
after_mend_closed O i o (answer.Did r ∷ rest) h = close_wants_closed O i o rest
after_mend_closed O i o (answer.Refused why ∷ rest) h = give_up_closed O (Unchanged i ∷ []) why (o, tt) rest h.1
after_mend_closed O i o (_ ∷ rest) h = tt

brings_closed : (O : Serial → Type 0) (i : Serial) (file : FileId) (stamps : List Stamp) → O i → (answers : List Answer) → Every (OwnAnswer O) answers → Closed O ⊥ (brings i file stamps answers)
brings_closed O i file [] o answers h = after_mend_closed O i o answers h
brings_closed O i file (stamp ∷ stamps) o [] h = tt
brings_closed O i file (stamp ∷ stamps) o (answer.Brought ∷ rest) h = brings_closed O i file stamps o rest h.1
brings_closed O i file (stamp ∷ stamps) o (answer.Refused why ∷ rest) h = give_up_closed O (Unchanged i ∷ []) why (o, tt) rest h.1
brings_closed O i file (stamp ∷ stamps) o (_ ∷ rest) h = tt

mend_closed : (O : Serial → Type 0) (file : FileId) (answers : List Answer) → Every (OwnAnswer O) answers → Closed O ⊥ (mend_wants file answers)
mend_closed O file [] h = tt
mend_closed O file (answer.Merging i kept ∷ rest) h = brings_closed O i file kept h.0 rest h.1
mend_closed O file (answer.Refused why ∷ []) h = tt
mend_closed O file (_ ∷ rest) h = tt

reply_closed : (O : Serial → Type 0) (r : Outcome) → Closed O ⊥ (want.Give (reply_to r))
reply_closed O outcome.Done = tt
reply_closed O (outcome.Found ino k) = tt
reply_closed O (outcome.Data bytes) = tt
reply_closed O (outcome.Committed stamp) = tt
reply_closed O (outcome.No why) = tt

op_wants_closed : (O : Serial → Type 0) (i : Serial) (o : Op) (answers : List Answer) → Closed O ⊥ (op_wants i o answers)
op_wants_closed O i o [] = tt
op_wants_closed O i o (answer.Did r ∷ []) = reply_closed O r
op_wants_closed O i o (answer.Refused why ∷ []) = tt
op_wants_closed O i o (_ ∷ rest) = tt

uses_closed : (O : Serial → Type 0) (words : Call) (e : EpochId) (i : Serial) → BeginsOwn O words (begins.Uses e i) → (answers : List Answer) → Closed O ⊥ (uses_wants words i answers)
uses_closed O (call.Read fd at len) e i o answers = op_wants_closed O i _ answers
uses_closed O (call.Write fd at bytes) e i o answers = op_wants_closed O i _ answers
uses_closed O (call.Cut fd len) e i o answers = op_wants_closed O i _ answers
uses_closed O (call.Commit fd) e i o answers = op_wants_closed O i _ answers
uses_closed O (call.Abort fd) e i o answers = op_wants_closed O i _ answers
uses_closed O (call.Close fd) e i o answers = close_wants_closed O i o answers
uses_closed O _ e i o answers = tt

-- ---- a version is opened again ----

reads_again_closed : (O : Serial → Type 0) (i : Serial) (at len : ℕ) → O i → (answers : List Answer) → Every (OwnAnswer O) answers → Closed O ⊥ (reads_again i at len answers)
reads_again_closed O i at len o [] h = tt
reads_again_closed O i at len o (answer.Did outcome.Done ∷ []) h = tt
reads_again_closed O i at len o (answer.Did (outcome.Found ino k) ∷ []) h = tt
reads_again_closed O i at len o (answer.Did (outcome.Data bytes) ∷ []) h = tt
reads_again_closed O i at len o (answer.Did (outcome.Committed stamp) ∷ []) h = tt
reads_again_closed O i at len o (answer.Did (outcome.No why) ∷ []) h = tt
reads_again_closed O i at len o (answer.Did r ∷ (a ∷ rest)) h = tt
reads_again_closed O i at len o (answer.Refused why ∷ rest) h = give_up_closed O (Unchanged i ∷ []) why (o, tt) rest h.1
reads_again_closed O i at len o (_ ∷ rest) h = tt

reopened_closed : (O : Serial → Type 0) (kept : OneVersion) (last : EpochId) (at len : ℕ) (i : Serial) (granted : OneVersion) → O i → (answers : List Answer) → Every (OwnAnswer O) answers → Closed O ⊥ (reopened kept last at len i granted answers)
reopened_closed O kept last at len i granted o answers h =
    elim (same_stamp granted.stamp kept.stamp) as (λ b. Closed O ⊥ (cond b (reads_again i at len answers) (give_up (Unchanged i ∷ []) (refusal.Stale last) answers))) [
      | true ↦ reads_again_closed O i at len o answers h
      | false ↦ give_up_closed O (Unchanged i ∷ []) (refusal.Stale last) (o, tt) answers h
    ]

reopen_closed : (O : Serial → Type 0) (words : Call) (kept : OneVersion) (last : EpochId) (answers : List Answer) → Every (OwnAnswer O) answers → Closed O ⊥ (reopen_wants words kept last answers)
reopen_closed O (call.Read fd at len) kept last [] h = tt
reopen_closed O (call.Read fd at len) kept last (answer.Reading i granted ∷ rest) h = reopened_closed O kept last at len i granted h.0 rest h.1
reopen_closed O (call.Read fd at len) kept last (answer.Refused why ∷ []) h = tt
reopen_closed O (call.Read fd at len) kept last (_ ∷ rest) h = tt
reopen_closed O _ kept last answers h = tt

-- ---- open, list and stat ----

lists_closed : (O : Serial → Type 0) (shows : Shows) (reached : List ℕ) (at : FileId) (k : Kind) (answers : List Answer) → Closed O ⊥ (lists shows reached at k answers)
lists_closed O shows reached at kind.File answers = tt
lists_closed O shows reached at kind.Dir [] = tt
lists_closed O shows reached at kind.Dir (answer.Showed names ∷ []) = tt
lists_closed O shows reached at kind.Dir (answer.Refused why ∷ []) = tt
lists_closed O shows reached at kind.Dir (_ ∷ rest) = tt

describes_closed : (O : Serial → Type 0) (at : FileId) (k : Kind) (answers : List Answer) → Closed O ⊥ (describes at k answers)
describes_closed O at k [] = tt
describes_closed O at k (answer.Described found size stamp ∷ []) = tt
describes_closed O at k (answer.Refused why ∷ []) = tt
describes_closed O at k (_ ∷ rest) = tt

opens_file_closed : (O : Serial → Type 0) (m : OpenMode) (free : Option ℕ) (file : FileId) (k : Kind) (answers : List Answer) → Closed O (EndsOpened answers) (opens_file m free file k answers)
opens_file_closed O m free file kind.Dir answers = tt
opens_file_closed O m free file kind.File [] = tt
opens_file_closed O m (Some fd) file kind.File (answer.Opened p ino ∷ []) = tt
opens_file_closed O m (Some fd) file kind.File (answer.Reading p version ∷ []) = tt
opens_file_closed O m None file kind.File (answer.Refused why ∷ []) = tt
opens_file_closed O m (Some fd) file kind.File (answer.Refused why ∷ []) = tt
opens_file_closed O m None file kind.File (_ ∷ rest) = tt
opens_file_closed O m (Some fd) file kind.File (_ ∷ rest) = tt

-- ---- walks ----

closed_weaker : (O : Serial → Type 0) (E F : Type 0) (w : Want) → (E → F) → Closed O E w → Closed O F w
closed_weaker O E F (want.Close i) go h = h
closed_weaker O E F (want.Give r) go h = by_reply r h
  where
    by_reply : (r : Reply) → Closed O E (want.Give r) → Closed O F (want.Give r)
    by_reply (reply.Opened fd) h = go h
    by_reply _ h = tt
closed_weaker O E F _ go h = tt

none_closed : (O : Serial → Type 0) (F : Type 0) (w : Want) → Closed O ⊥ w → Closed O F w
none_closed O F w h = closed_weaker O ⊥ F w (λ e. absurd e) h

longer_ends : (a : Answer) (rest : List Answer) → EndsOpened rest → EndsOpened (a ∷ rest)
longer_ends a [] h = absurd h
longer_ends a (b ∷ rest) h = h

-- the answers that are left are the last ones
record Left (O : Serial → Type 0) (answers rest : List Answer) : Type 0 where
  own : Every (OwnAnswer O) answers → Every (OwnAnswer O) rest
  ends : EndsOpened rest → EndsOpened answers

there_rest : (at there : FileId) (k found : Kind) (answers rest : List Answer) → There at k answers ≡ There there found rest → answers ≡ rest
there_rest at there k found answers rest e = cc

asks_there : (dir there : FileId) (c : List ℕ) (found : Kind) (rest : List Answer) → Asks dir c ≡ There there found rest → ⊥
asks_there dir there c found rest e = cc

fails_there : (why : Refusal) (there : FileId) (found : Kind) (rest : List Answer) → Fails why ≡ There there found rest → ⊥
fails_there why there found rest e = cc

strays_there : (there : FileId) (found : Kind) (rest : List Answer) → Strays ≡ There there found rest → ⊥
strays_there there found rest e = cc

left_same : (O : Serial → Type 0) (answers rest : List Answer) → answers ≡ rest → Left O answers rest
left_same O answers rest e = record { own = λ h. subst_own e h; ends = λ h. subst_ends e h }
  where
    subst_own : answers ≡ rest → Every (OwnAnswer O) answers → Every (OwnAnswer O) rest
    subst_own e h = rw (← e) h

    subst_ends : answers ≡ rest → EndsOpened rest → EndsOpened answers
    subst_ends e h = rw e h

left : (O : Serial → Type 0) (mounts : List Mount) (cs : List (List ℕ)) (reached : List ℕ) (at : FileId) (k : Kind) (answers : List Answer) (there : FileId) (found : Kind) (rest : List Answer) → walk mounts cs reached at k answers ≡ There there found rest → Left O answers rest
left O mounts [] reached at k answers there found rest e = left_same O answers rest (there_rest at there k found answers rest e)
left O mounts (c ∷ cs) reached at kind.File answers there found rest e = absurd (fails_there _ there found rest e)
left O mounts (c ∷ cs) reached at kind.Dir answers there found rest e = by_mount (λ next k xs f. left O mounts cs c next k xs there found rest f) (mounted_in mounts at c) answers e
  where
    further : Type 0
    further = (next : FileId) (k : Kind) (xs : List Answer) → walk mounts cs c next k xs ≡ There there found rest → Left O xs rest

    by_mount : further → (o : Option ℕ) (answers : List Answer) → passes (walk mounts cs c) at c o answers ≡ There there found rest → Left O answers rest
    by_mount go (Some group) answers e = go (root_of group) kind.Dir answers e
    by_mount go None [] e = absurd (asks_there at there c found rest e)
    by_mount go None (answer.Entered ino k ∷ tail) e = (let r : Left O tail rest = go (record { group = at.group; ino = ino }) k tail e in record { own = λ h. r.own h.1; ends = λ h. longer_ends (answer.Entered ino k) tail (r.ends h) })
    by_mount go None (answer.Refused why ∷ tail) e = absurd (fails_there why there found rest e)
    by_mount go None (_ ∷ tail) e = absurd (strays_there there found rest e)

walked_closed : (O : Serial → Type 0) (mounts : List Mount) (path : List (List ℕ)) (next : FileId → Kind → List Answer → Want) (answers : List Answer) → Every (OwnAnswer O) answers → ((there : FileId) (found : Kind) (rest : List Answer) → Every (OwnAnswer O) rest → Closed O (EndsOpened rest) (next there found rest)) → Closed O (EndsOpened answers) (walked mounts path answers next)
walked_closed O mounts path next answers own after = by_walk (walk mounts path [] (root_of 0) kind.Dir answers) refl
  where
    by_walk : (w : Walked) → walk mounts path [] (root_of 0) kind.Dir answers ≡ w → Closed O (EndsOpened answers) (walked mounts path answers next)
    by_walk (Asks dir name) w = rw w tt
    by_walk (Fails why) w = rw w tt
    by_walk Strays w = rw w tt
    by_walk (There there found rest) w =
        let r : Left O answers rest = left O mounts path [] (root_of 0) kind.Dir answers there found rest w in
        let k : Closed O (EndsOpened answers) (next there found rest) = closed_weaker O (EndsOpened rest) (EndsOpened answers) (next there found rest) r.ends (after there found rest (r.own own)) in
        rw w k

-- ---- every call ----

dir_closed : (O : Serial → Type 0) (mounts : List Mount) (path : List ℕ) (next : ℕ → Serial → List Answer → Want) (answers : List Answer) → Every (OwnAnswer O) answers → ((group : ℕ) (p : Serial) → O p → (rest : List Answer) → Every (OwnAnswer O) rest → Closed O ⊥ (next group p rest)) → Closed O (EndsOpened answers) (changes_dir mounts path next answers)
dir_closed O mounts path next answers own go =
    walked_closed O mounts (but_last (components path)) (λ dir k rest. opens_dir (last_of (but_last (components path))) (next dir.group) dir k rest) answers own
    (λ dir k rest h. none_closed O (EndsOpened rest) (opens_dir (last_of (but_last (components path))) (next dir.group) dir k rest) (opens_dir_closed O (last_of (but_last (components path))) (next dir.group) dir k (go dir.group) rest h))

path_closed : (O : Serial → Type 0) (mounts : List Mount) (free : Option ℕ) (id : CallId) (words : Call) (answers : List Answer) → Every (OwnAnswer O) answers → Closed O (EndsOpened answers) (path_wants mounts free id words answers)
path_closed O mounts free id (call.Create path sites) answers h = dir_closed O mounts path (λ group p rest. probes p group (last_of (components path)) kind.File sites [] reply.Made rest) answers h (λ group p o rest k. probes_closed O p group (last_of (components path)) kind.File sites [] reply.Made (λ n. tt) o rest k)
path_closed O mounts free id (call.MakeDir path) answers h = dir_closed O mounts path (λ group p rest. probes p group (last_of (components path)) kind.Dir None [] reply.Made rest) answers h (λ group p o rest k. probes_closed O p group (last_of (components path)) kind.Dir None [] reply.Made (λ n. tt) o rest k)
path_closed O mounts free id (call.Unlink path) answers h = dir_closed O mounts path (λ group p rest. finds kind.File p group (last_of (components path)) rest) answers h (λ group p o rest k. finds_closed O kind.File p group (last_of (components path)) o rest k)
path_closed O mounts free id (call.RemoveDir path) answers h = dir_closed O mounts path (λ group p rest. finds kind.Dir p group (last_of (components path)) rest) answers h (λ group p o rest k. finds_closed O kind.Dir p group (last_of (components path)) o rest k)
path_closed O mounts free id (call.Rename path name) answers h = dir_closed O mounts path (λ group p rest. renames p (last_of (components path)) name rest) answers h (λ group p o rest k. renames_closed O p (last_of (components path)) name o rest k)
path_closed O mounts free id (call.List path) answers h = walked_closed O mounts (components path) (lists (shown_in mounts) (last_of (components path))) answers h (λ at k rest g. none_closed O (EndsOpened rest) _ (lists_closed O (shown_in mounts) (last_of (components path)) at k rest))
path_closed O mounts free id (call.Stat path) answers h = walked_closed O mounts (components path) describes answers h (λ at k rest g. none_closed O (EndsOpened rest) _ (describes_closed O at k rest))
path_closed O mounts free id (call.Mail path bytes) answers h = walked_closed O mounts (components path) _ answers h (λ dir k rest g. none_closed O (EndsOpened rest) (opens_dir (last_of (components path)) _ dir k rest)
    (opens_dir_closed O (last_of (components path)) _ dir k (λ p o ys m. probes_closed O p dir.group (message_name id) kind.File None bytes (tells_name (message_name id)) (λ n. tt) o ys m) rest g))
path_closed O mounts free id (call.Mails path) answers h = walked_closed O mounts (components path) (lists shown_messages (last_of (components path))) answers h (λ at k rest g. none_closed O (EndsOpened rest) _ (lists_closed O shown_messages (last_of (components path)) at k rest))
path_closed O mounts free id (call.Open path how) answers h = walked_closed O mounts (components path) (opens_file how free) answers h (λ at k rest g. opens_file_closed O how free at k rest)
path_closed O mounts free id (call.Mend file) answers h = none_closed O (EndsOpened answers) (mend_wants file answers) (mend_closed O file answers h)
path_closed O mounts free id _ answers h = tt

begun_closed : (O : Serial → Type 0) (mounts : List Mount) (free : Option ℕ) (words : Call) (b : Beginning) (answers : List Answer) → Every (OwnAnswer O) answers → BeginsOwn O words b → Closed O (EndsOpened answers) (begun_wants mounts free words b answers)
begun_closed O mounts free words (begins.Denied why) answers h o = tt
begun_closed O mounts free words (begins.Uses e i) answers h o = none_closed O (EndsOpened answers) (uses_wants words i answers) (uses_closed O words e i o answers)
begun_closed O mounts free words (begins.Reopens kept last) answers h o = none_closed O (EndsOpened answers) (reopen_wants words kept last answers) (reopen_closed O words kept last answers h)
begun_closed O mounts free words begins.Frees answers h o = tt
begun_closed O mounts free words (begins.Walks id) answers h o = path_closed O mounts free id words answers h

named_closed : (O : Serial → Type 0) (mounts : List Mount) (free : Option ℕ) (words : Call) (b : Beginning) (answers : List Answer) → Every (OwnAnswer O) answers → BeginsOwn O words b → Closed O (EndsOpened answers) (named_wants mounts free words b answers)
named_closed O mounts free words b answers h o =
    elim (is_badly_named mounts words) as (λ n. Closed O (EndsOpened answers) (cond n (want.Give (reply.No refusal.BadName)) (begun_wants mounts free words b answers))) [
      | true ↦ tt
      | false ↦ begun_closed O mounts free words b answers h o
    ]

group_closed : (O : Serial → Type 0) (E : Type 0) (is_packed : ℕ → Bool) (group : ℕ) (w : Want) → Closed O E w → Closed O E (in_group is_packed group w)
group_closed O E is_packed group w h = elim (is_packed group) as (λ b. Closed O E (cond b w (want.Give (reply.No refusal.NoStorage)))) [ true ↦ h | false ↦ tt ]

packed_closed : (O : Serial → Type 0) (E : Type 0) (is_packed : ℕ → Bool) (w : Want) → Closed O E w → Closed O E (where_packed is_packed w)
packed_closed O E is_packed (want.Look file x) h = group_closed O E is_packed file.group (want.Look file x) h
packed_closed O E is_packed (want.Open file how) h = group_closed O E is_packed file.group (want.Open file how) h
packed_closed O E is_packed (want.OpenToMend file) h = group_closed O E is_packed file.group (want.OpenToMend file) h
packed_closed O E is_packed (want.Make group k sites) h = group_closed O E is_packed group (want.Make group k sites) h
packed_closed O E is_packed (want.Do i o) h = h
packed_closed O E is_packed (want.Close i) h = h
packed_closed O E is_packed (want.Give r) h = h
packed_closed O E is_packed want.Never h = h

pub wants_closed : (O : Serial → Type 0) (mounts : List Mount) (is_packed : ℕ → Bool) (free : Option ℕ) (words : Call) (b : Beginning) (answers : List Answer) → Every (OwnAnswer O) answers → BeginsOwn O words b → Closed O (EndsOpened answers) (wants mounts is_packed free words b answers)
wants_closed O mounts is_packed free words b answers h o = packed_closed O (EndsOpened answers) is_packed (named_wants mounts free words b answers) (named_closed O mounts free words b answers h o)
