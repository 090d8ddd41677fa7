-- A script gives no descriptor but the free one of its process, which stands for nothing, and no bytes but where it reads.
use Rattle.std.proofs.Common.{◌≡◌, ℕ, zero, suc, ◌+◌, Bool, true, false, cond, List, [], ◌∷◌, Option, Some, None, refl, subst}
use Rattle.locus_ids.specs.declared.ids.CallId.{CallId}
use Rattle.locus_ids.specs.declared.config.Mount.{Mount}
use Rattle.locus_ids.specs.declared.ids.EpochId.{EpochId}
use Rattle.locus_ids.specs.declared.ids.FileId.{FileId}
use Rattle.locus_ids.specs.declared.ids.Serial.{Serial}
use Rattle.locus_ids.specs.declared.ids.Stamp.{Stamp}
use Rattle.locus_ids.specs.declared.ids.Kind.{Kind}
use Rattle.locus_ids.specs.declared.ids.Kind.TheVariants as kind
use Rattle.locus_ids.specs.declared.sites.Sites.{Sites}
use Rattle.locus_ids.specs.declared.refusal.Refusal.{Refusal}
use Rattle.locus_ids.specs.declared.refusal.Refusal.TheVariants.{BadName, NoStorage, IsDir, NotDir, Stale}
use Rattle.commit_graph.specs.Versions.{same_stamp}
use Rattle.trace_book.specs.Messages.{message_name}
use Rattle.trace_book.specs.Names.{components, last_of, but_last, plain_name}
use Rattle.trace_book.specs.declared.call.Call.{Call}
use Rattle.trace_book.specs.declared.call.Call.TheVariants as call
use Rattle.trace_book.specs.declared.call.OpenMode.{OpenMode}
use Rattle.trace_book.specs.declared.descriptor.Beginning.{Beginning}
use Rattle.trace_book.specs.declared.descriptor.OneVersion.{OneVersion}
use Rattle.trace_book.specs.declared.descriptor.Beginning.TheVariants as begins
use Rattle.trace_book.specs.declared.descriptor.Descriptor.{Descriptor}
use Rattle.trace_book.specs.declared.operation.Op.{Op}
use Rattle.trace_book.specs.declared.operation.Outcome.{Outcome}
use Rattle.trace_book.specs.declared.operation.Outcome.TheVariants as outcome
use Rattle.trace_book.specs.declared.reply.Reply.{Reply}
use Rattle.trace_book.specs.declared.reply.Reply.TheVariants as reply
use Rattle.call_rules.specs.declared.answer.Answer.{Answer}
use Rattle.call_rules.specs.declared.answer.Answer.TheVariants as answer
use Rattle.call_rules.specs.declared.want.Want.{Want}
use Rattle.call_rules.specs.declared.want.Want.TheVariants as want
use Rattle.call_rules.specs.Closing.{Own, Unchanged, Changed, closes, aborts, gives, give_up, close_all}
use Rattle.call_rules.specs.Descriptors.{lowest_free_from}
use Rattle.call_rules.specs.Mailing.{shown_messages, tells_name}
use Rattle.call_rules.specs.Making.{after_insert, after_make, fills, after_probe, probes, opens_dir, changes_dir}
use Rattle.call_rules.specs.Mending.{after_mend, brings, mend_wants}
use Rattle.call_rules.specs.Naming.{renames}
use Rattle.call_rules.specs.Opening.{opens_file, reply_to, op_wants, close_wants, uses_wants, lists, describes, Shows, shown_in}
use Rattle.call_rules.specs.Reopening.{reads_again, reopened, reopen_wants}
use Rattle.call_rules.specs.Removing.{removes, empties, opens_target, by_kind, finds}
use Rattle.call_rules.specs.Scripts.{path_wants, begun_wants, named_wants, where_packed, wants}
use Rattle.call_rules.specs.Walks.{Walked, Asks, Fails, There, Strays, walk, walked, root_of}
use Rattle.call_rules.specs.Words.{is_badly_named}
use Rattle.promises.specs.After.{is_reading}
use Rattle.past_laws.proofs.Names.{some_same, none_some}

-- what a script may give besides: this number, and bytes or not
pub record MayGive : Type 0 where
  pub free : Option ℕ
  pub reads : Bool

-- this number and any bytes
abbrev pub with_bytes : Option ℕ → MayGive
with_bytes free = record { free = free; reads = true }

-- bytes are given by a call that began at an instance, and by a read that opens a version again
abbrev pub may_read : Beginning → Call → Bool
may_read (begins.Uses epoch inst) words = true
may_read (begins.Reopens kept last) words = is_reading words
may_read _ words = false

-- a reply with a descriptor has the free one
abbrev pub FreeReply : MayGive → Reply → Type 0
FreeReply o (reply.Opened fd) = o.free ≡ Some fd
FreeReply o (reply.Data bytes) = o.reads ≡ true
FreeReply o _ = Unit {0}

abbrev pub FreeWant : MayGive → Want → Type 0
FreeWant o (want.Give r) = FreeReply o r
FreeWant o _ = Unit {0}

-- How a call ends.

gives_free : (o : MayGive) (r : Reply) → FreeReply o r → (xs : List Answer) → FreeWant o (gives r xs)
gives_free o r h [] = h
gives_free o r h (a ∷ rest) = tt

closes_free : (o : MayGive) (i : Serial) (next : List Answer → Want) → ((xs : List Answer) → FreeWant o (next xs)) → (xs : List Answer) → FreeWant o (closes i next xs)
closes_free o i next k [] = tt
closes_free o i next k (answer.Ended stamp ∷ rest) = k rest
closes_free o i next k (answer.Refused why ∷ rest) = k rest
closes_free o i next k (_ ∷ rest) = tt

aborts_free : (o : MayGive) (i : Serial) (next : List Answer → Want) → ((xs : List Answer) → FreeWant o (next xs)) → (xs : List Answer) → FreeWant o (aborts i next xs)
aborts_free o i next k [] = tt
aborts_free o i next k (answer.Did r ∷ rest) = k rest
aborts_free o i next k (answer.Refused why ∷ rest) = k rest
aborts_free o i next k (_ ∷ rest) = tt

pub give_up_free : (o : MayGive) (own : List Own) (why : Refusal) (xs : List Answer) → FreeWant o (give_up own why xs)
give_up_free o [] why xs = gives_free o (reply.No why) tt xs
give_up_free o (Unchanged i ∷ own) why xs = closes_free o i (give_up own why) (give_up_free o own why) xs
give_up_free o (Changed i ∷ own) why xs = aborts_free o i (closes i (give_up own why)) (closes_free o i (give_up own why) (give_up_free o own why)) xs

close_all_free : (o : MayGive) (is : List Serial) (r : Reply) → FreeReply o r → (xs : List Answer) → FreeWant o (close_all is r xs)
close_all_free o [] r h xs = gives_free o r h xs
close_all_free o (i ∷ is) r h [] = tt
close_all_free o (i ∷ is) r h (answer.Ended stamp ∷ rest) = close_all_free o is r h rest
close_all_free o (i ∷ is) r h (answer.Refused why ∷ rest) = refused is r i why rest
  where
    refused : (is : List Serial) (r : Reply) (i : Serial) (why : Refusal) (rest : List Answer) → FreeWant o (close_all (i ∷ is) r (answer.Refused why ∷ rest))
    refused [] r i why rest = gives_free o (reply.No why) tt rest
    refused (j ∷ js) r i why [] = tt
    refused (j ∷ js) r i why (answer.Ended stamp ∷ rest) = refused js r j why rest
    refused (j ∷ js) r i why (answer.Refused other ∷ rest) = refused js r j why rest
    refused (j ∷ js) r i why (_ ∷ rest) = tt
close_all_free o (i ∷ is) r h (_ ∷ rest) = tt

-- Create and mkdir.

after_insert_free : (o : MayGive) (p : Serial) (name : List ℕ) (k : Kind) (ino : ℕ) (told : Reply) → FreeReply o told → (xs : List Answer) → FreeWant o (after_insert p name k ino told xs)
after_insert_free o p name k ino told h [] = tt
after_insert_free o p name k ino told h (answer.Did r ∷ rest) = close_all_free o (p ∷ []) told h rest
after_insert_free o p name k ino told h (answer.Refused why ∷ rest) = give_up_free o (Unchanged p ∷ []) why rest
after_insert_free o p name k ino told h (_ ∷ rest) = tt

after_make_free : (o : MayGive) (p : Serial) (name : List ℕ) (k : Kind) (made : Serial) (ino : ℕ) (told : Reply) → FreeReply o told → (xs : List Answer) → FreeWant o (after_make p name k made ino told xs)
after_make_free o p name k made ino told h [] = tt
after_make_free o p name k made ino told h (answer.Ended stamp ∷ rest) = after_insert_free o p name k ino told h rest
after_make_free o p name k made ino told h (answer.Refused why ∷ rest) = give_up_free o (Unchanged p ∷ []) why rest
after_make_free o p name k made ino told h (_ ∷ rest) = tt

fills_free : (o : MayGive) (p : Serial) (name : List ℕ) (k : Kind) (bytes : List ℕ) (made : Serial) (ino : ℕ) (told : Reply) → FreeReply o told → (xs : List Answer) → FreeWant o (fills p name k bytes made ino told xs)
fills_free o p name k [] made ino told h xs = after_make_free o p name k made ino told h xs
fills_free o p name k (b ∷ bs) made ino told h [] = tt
fills_free o p name k (b ∷ bs) made ino told h (answer.Did r ∷ rest) = after_make_free o p name k made ino told h rest
fills_free o p name k (b ∷ bs) made ino told h (answer.Refused why ∷ rest) = give_up_free o (Unchanged made ∷ Unchanged p ∷ []) why rest
fills_free o p name k (b ∷ bs) made ino told h (_ ∷ rest) = tt

after_probe_free : (o : MayGive) (p : Serial) (group : ℕ) (name : List ℕ) (k : Kind) (sites : Option Sites) (bytes : List ℕ) (tells : ℕ → Reply) → ((ino : ℕ) → FreeReply o (tells ino)) → (xs : List Answer) → FreeWant o (after_probe p group name k sites bytes tells xs)
after_probe_free o p group name k sites bytes tells h [] = tt
after_probe_free o p group name k sites bytes tells h (answer.Opened made ino ∷ rest) = fills_free o p name k bytes made ino (tells ino) (h ino) rest
after_probe_free o p group name k sites bytes tells h (answer.Refused why ∷ rest) = give_up_free o (Unchanged p ∷ []) why rest
after_probe_free o p group name k sites bytes tells h (_ ∷ rest) = tt

probes_free : (o : MayGive) (p : Serial) (group : ℕ) (name : List ℕ) (k : Kind) (sites : Option Sites) (bytes : List ℕ) (tells : ℕ → Reply) → ((ino : ℕ) → FreeReply o (tells ino)) → (xs : List Answer) → FreeWant o (probes p group name k sites bytes tells xs)
probes_free o p group name k sites bytes tells h [] = tt
probes_free o p group name k sites bytes tells h (answer.Did r ∷ rest) = after_probe_free o p group name k sites bytes tells h rest
probes_free o p group name k sites bytes tells h (answer.Refused why ∷ rest) = give_up_free o (Unchanged p ∷ []) why rest
probes_free o p group name k sites bytes tells h (_ ∷ rest) = tt

opens_dir_free : (o : MayGive) (reached : List ℕ) (next : Serial → List Answer → Want) (dir : FileId) (k : Kind) → ((p : Serial) (xs : List Answer) → FreeWant o (next p xs)) → (xs : List Answer) → FreeWant o (opens_dir reached next dir k xs)
opens_dir_free o reached next dir kind.File go xs = tt
opens_dir_free o reached next dir kind.Dir go [] = tt
opens_dir_free o reached next dir kind.Dir go (answer.Opened p ino ∷ rest) = go p rest
opens_dir_free o reached next dir kind.Dir go (answer.Refused why ∷ rest) = tt
opens_dir_free o reached next dir kind.Dir go (_ ∷ rest) = tt

-- Unlink, rmdir and rename.

removes_free : (o : MayGive) (p t : Serial) (name : List ℕ) (ino : ℕ) (xs : List Answer) → FreeWant o (removes p t name ino xs)
removes_free o p t name ino [] = tt
removes_free o p t name ino (answer.Did r ∷ rest) = close_all_free o (p ∷ t ∷ []) reply.Done tt rest
removes_free o p t name ino (answer.Refused why ∷ rest) = give_up_free o (Unchanged p ∷ Unchanged t ∷ []) why rest
removes_free o p t name ino (_ ∷ rest) = tt

empties_free : (o : MayGive) (k : Kind) (p t : Serial) (name : List ℕ) (ino : ℕ) (xs : List Answer) → FreeWant o (empties k p t name ino xs)
empties_free o kind.File p t name ino xs = removes_free o p t name ino xs
empties_free o kind.Dir p t name ino [] = tt
empties_free o kind.Dir p t name ino (answer.Did r ∷ rest) = removes_free o p t name ino rest
empties_free o kind.Dir p t name ino (answer.Refused why ∷ rest) = give_up_free o (Unchanged p ∷ Unchanged t ∷ []) why rest
empties_free o kind.Dir p t name ino (_ ∷ rest) = tt

opens_target_free : (o : MayGive) (k : Kind) (p : Serial) (group : ℕ) (name : List ℕ) (ino : ℕ) (xs : List Answer) → FreeWant o (opens_target k p group name ino xs)
opens_target_free o k p group name ino [] = tt
opens_target_free o k p group name ino (answer.Opened t found ∷ rest) = empties_free o k p t name ino rest
opens_target_free o k p group name ino (answer.Refused why ∷ rest) = give_up_free o (Unchanged p ∷ []) why rest
opens_target_free o k p group name ino (_ ∷ rest) = tt

by_kind_free : (o : MayGive) (k found : Kind) (p : Serial) (group : ℕ) (component : List ℕ) (ino : ℕ) (xs : List Answer) → FreeWant o (by_kind k found p group component ino xs)
by_kind_free o kind.File kind.File p group component ino xs = opens_target_free o kind.File p group (plain_name component) ino xs
by_kind_free o kind.Dir kind.Dir p group component ino xs = opens_target_free o kind.Dir p group (plain_name component) ino xs
by_kind_free o kind.File kind.Dir p group component ino xs = give_up_free o (Unchanged p ∷ []) IsDir xs
by_kind_free o kind.Dir kind.File p group component ino xs = give_up_free o (Unchanged p ∷ []) (NotDir component) xs

finds_free : (o : MayGive) (k : Kind) (p : Serial) (group : ℕ) (component : List ℕ) (xs : List Answer) → FreeWant o (finds k p group component xs)
finds_free o k p group component [] = tt
finds_free o k p group component (answer.Did (outcome.Found ino found) ∷ rest) = by_kind_free o k found p group component ino rest
finds_free o k p group component (answer.Refused why ∷ rest) = give_up_free o (Unchanged p ∷ []) why rest
finds_free o k p group component (_ ∷ rest) = tt

renames_free : (o : MayGive) (p : Serial) (component name : List ℕ) (xs : List Answer) → FreeWant o (renames p component name xs)
renames_free o p component name [] = tt
renames_free o p component name (answer.Did r ∷ rest) = close_all_free o (p ∷ []) reply.Done tt rest
renames_free o p component name (answer.Refused why ∷ rest) = give_up_free o (Unchanged p ∷ []) why rest
renames_free o p component name (_ ∷ rest) = tt

-- Mends, and calls on descriptors.

close_wants_free : (o : MayGive) (i : Serial) (xs : List Answer) → FreeWant o (close_wants i xs)
close_wants_free o i [] = tt
close_wants_free o i (answer.Ended stamp ∷ []) = tt
close_wants_free o i (answer.Refused why ∷ []) = tt
close_wants_free o i (_ ∷ rest) = tt

after_mend_free : (o : MayGive) (i : Serial) (xs : List Answer) → FreeWant o (after_mend i xs)
after_mend_free o i [] = tt
after_mend_free o i (answer.Did r ∷ rest) = close_wants_free o i rest
after_mend_free o i (answer.Refused why ∷ rest) = give_up_free o (Unchanged i ∷ []) why rest
after_mend_free o i (_ ∷ rest) = tt

brings_free : (o : MayGive) (i : Serial) (file : FileId) (stamps : List Stamp) (xs : List Answer) → FreeWant o (brings i file stamps xs)
brings_free o i file [] xs = after_mend_free o i xs
brings_free o i file (stamp ∷ stamps) [] = tt
brings_free o i file (stamp ∷ stamps) (answer.Brought ∷ rest) = brings_free o i file stamps rest
brings_free o i file (stamp ∷ stamps) (answer.Refused why ∷ rest) = give_up_free o (Unchanged i ∷ []) why rest
brings_free o i file (stamp ∷ stamps) (_ ∷ rest) = tt

mend_free : (o : MayGive) (file : FileId) (xs : List Answer) → FreeWant o (mend_wants file xs)
mend_free o file [] = tt
mend_free o file (answer.Merging i kept ∷ rest) = brings_free o i file kept rest
mend_free o file (answer.Refused why ∷ []) = tt
mend_free o file (_ ∷ rest) = tt

reply_free : (o : MayGive) → o.reads ≡ true → (r : Outcome) → FreeWant o (want.Give (reply_to r))
reply_free o h outcome.Done = tt
reply_free o h (outcome.Found ino k) = tt
reply_free o h (outcome.Data bytes) = h
reply_free o h (outcome.Committed stamp) = tt
reply_free o h (outcome.No why) = tt

op_wants_free : (o : MayGive) → o.reads ≡ true → (i : Serial) (does : Op) (xs : List Answer) → FreeWant o (op_wants i does xs)
op_wants_free o h i does [] = tt
op_wants_free o h i does (answer.Did r ∷ []) = reply_free o h r
op_wants_free o h i does (answer.Refused why ∷ []) = tt
op_wants_free o h i does (_ ∷ rest) = tt

uses_free : (o : MayGive) → o.reads ≡ true → (words : Call) (i : Serial) (xs : List Answer) → FreeWant o (uses_wants words i xs)
uses_free o h (call.Read fd at len) i xs = op_wants_free o h i _ xs
uses_free o h (call.Write fd at bytes) i xs = op_wants_free o h i _ xs
uses_free o h (call.Cut fd len) i xs = op_wants_free o h i _ xs
uses_free o h (call.Commit fd) i xs = op_wants_free o h i _ xs
uses_free o h (call.Abort fd) i xs = op_wants_free o h i _ xs
uses_free o h (call.Close fd) i xs = close_wants_free o i xs
uses_free o h _ i xs = tt

-- Open, list and stat.

lists_free : (o : MayGive) (shows : Shows) (reached : List ℕ) (at : FileId) (k : Kind) (xs : List Answer) → FreeWant o (lists shows reached at k xs)
lists_free o shows reached at kind.File xs = tt
lists_free o shows reached at kind.Dir [] = tt
lists_free o shows reached at kind.Dir (answer.Showed names ∷ []) = tt
lists_free o shows reached at kind.Dir (answer.Refused why ∷ []) = tt
lists_free o shows reached at kind.Dir (_ ∷ rest) = tt

describes_free : (o : MayGive) (at : FileId) (k : Kind) (xs : List Answer) → FreeWant o (describes at k xs)
describes_free o at k [] = tt
describes_free o at k (answer.Described found size stamp ∷ []) = tt
describes_free o at k (answer.Refused why ∷ []) = tt
describes_free o at k (_ ∷ rest) = tt

opens_file_free : (o : MayGive) (m : OpenMode) (file : FileId) (k : Kind) (xs : List Answer) → FreeWant o (opens_file m o.free file k xs)
opens_file_free o m file k xs = by o.free refl k xs
  where
    by : (free : Option ℕ) → o.free ≡ free → (k : Kind) (xs : List Answer) → FreeWant o (opens_file m free file k xs)
    by free e kind.Dir xs = tt
    by free e kind.File [] = tt
    by (Some fd) e kind.File (answer.Opened p ino ∷ []) = e
    by None e kind.File (answer.Opened p ino ∷ []) = tt
    by (Some fd) e kind.File (answer.Reading p version ∷ []) = e
    by None e kind.File (answer.Reading p version ∷ []) = tt
    by None e kind.File (answer.Refused why ∷ []) = tt
    by (Some fd) e kind.File (answer.Refused why ∷ []) = tt
    by None e kind.File (_ ∷ rest) = tt
    by (Some fd) e kind.File (_ ∷ rest) = tt

-- Walks, and whole scripts.

walked_free : (o : MayGive) (mounts : List Mount) (path : List (List ℕ)) (xs : List Answer) (after : FileId → Kind → List Answer → Want) → ((f : FileId) (k : Kind) (ys : List Answer) → FreeWant o (after f k ys)) → FreeWant o (walked mounts path xs after)
walked_free o mounts path xs after go = over (walk mounts path [] (root_of 0) kind.Dir xs) refl
  where
    over : (x : Walked) → walk mounts path [] (root_of 0) kind.Dir xs ≡ x → FreeWant o (walked mounts path xs after)
    over (Asks dir name) e = rw e tt
    over (Fails why) e = rw e tt
    over (There f k ys) e = rw e (go f k ys)
    over Strays e = rw e tt

changes_free : (o : MayGive) (mounts : List Mount) (path : List ℕ) (next : ℕ → Serial → List Answer → Want) → ((g : ℕ) (p : Serial) (xs : List Answer) → FreeWant o (next g p xs)) → (xs : List Answer) → FreeWant o (changes_dir mounts path next xs)
changes_free o mounts path next go xs = walked_free o mounts (but_last (components path)) xs (λ dir k rest. opens_dir (last_of (but_last (components path))) (next dir.group) dir k rest)
    (λ dir k rest. opens_dir_free o (last_of (but_last (components path))) (next dir.group) dir k (go dir.group) rest)

path_free : (o : MayGive) (mounts : List Mount) (id : CallId) (words : Call) (xs : List Answer) → FreeWant o (path_wants mounts o.free id words xs)
path_free o mounts id (call.Create path sites) xs = changes_free o mounts path _ (λ g p rest. probes_free o p g (last_of (components path)) kind.File sites [] reply.Made (λ ino. tt) rest) xs
path_free o mounts id (call.MakeDir path) xs = changes_free o mounts path _ (λ g p rest. probes_free o p g (last_of (components path)) kind.Dir None [] reply.Made (λ ino. tt) rest) xs
path_free o mounts id (call.Unlink path) xs = changes_free o mounts path _ (λ g p rest. finds_free o kind.File p g (last_of (components path)) rest) xs
path_free o mounts id (call.RemoveDir path) xs = changes_free o mounts path _ (λ g p rest. finds_free o kind.Dir p g (last_of (components path)) rest) xs
path_free o mounts id (call.Rename path name) xs = changes_free o mounts path _ (λ g p rest. renames_free o p (last_of (components path)) name rest) xs
path_free o mounts id (call.List path) xs = walked_free o mounts (components path) xs (lists (shown_in mounts) (last_of (components path))) (lists_free o (shown_in mounts) (last_of (components path)))
path_free o mounts id (call.Stat path) xs = walked_free o mounts (components path) xs describes (describes_free o)
path_free o mounts id (call.Mail path bytes) xs = walked_free o mounts (components path) xs _
    (λ dir k rest. opens_dir_free o (last_of (components path)) _ dir k (λ p ys. probes_free o p dir.group (message_name id) kind.File None bytes (tells_name (message_name id)) (λ ino. tt) ys) rest)
path_free o mounts id (call.Mails path) xs = walked_free o mounts (components path) xs (lists shown_messages (last_of (components path))) (lists_free o shown_messages (last_of (components path)))
path_free o mounts id (call.Open path how) xs = walked_free o mounts (components path) xs (opens_file how o.free) (opens_file_free o how)
path_free o mounts id (call.Mend file) xs = mend_free o file xs
path_free o mounts id _ xs = tt

-- A version is opened again.

reads_again_free : (o : MayGive) → o.reads ≡ true → (i : Serial) (at len : ℕ) (xs : List Answer) → FreeWant o (reads_again i at len xs)
reads_again_free o h i at len [] = tt
reads_again_free o h i at len (answer.Did r ∷ []) = reply_free o h r
reads_again_free o h i at len (answer.Refused why ∷ rest) = give_up_free o (Unchanged i ∷ []) why rest
reads_again_free o h i at len (_ ∷ rest) = tt

reopened_free : (o : MayGive) → o.reads ≡ true → (kept : OneVersion) (last : EpochId) (at len : ℕ) (i : Serial) (granted : OneVersion) (xs : List Answer) → FreeWant o (reopened kept last at len i granted xs)
reopened_free o h kept last at len i granted xs = over (same_stamp granted.stamp kept.stamp)
  where
    over : (b : Bool) → FreeWant o (cond b (reads_again i at len xs) (give_up (Unchanged i ∷ []) (Stale last) xs))
    over true = reads_again_free o h i at len xs
    over false = give_up_free o (Unchanged i ∷ []) (Stale last) xs

reopen_free : (o : MayGive) (words : Call) → (is_reading words ≡ true → o.reads ≡ true) → (kept : OneVersion) (last : EpochId) (xs : List Answer) → FreeWant o (reopen_wants words kept last xs)
reopen_free o (call.Read fd at len) h kept last [] = tt
reopen_free o (call.Read fd at len) h kept last (answer.Reading i granted ∷ rest) = reopened_free o (h refl) kept last at len i granted rest
reopen_free o (call.Read fd at len) h kept last (answer.Refused why ∷ []) = tt
reopen_free o (call.Read fd at len) h kept last (_ ∷ rest) = tt
reopen_free o _ h kept last xs = tt

begun_free : (o : MayGive) (mounts : List Mount) (words : Call) (b : Beginning) → (may_read b words ≡ true → o.reads ≡ true) → (xs : List Answer) → FreeWant o (begun_wants mounts o.free words b xs)
begun_free o mounts words (begins.Denied why) h xs = tt
begun_free o mounts words (begins.Uses epoch inst) h xs = uses_free o (h refl) words inst xs
begun_free o mounts words (begins.Walks id) h xs = path_free o mounts id words xs
begun_free o mounts words (begins.Reopens kept last) h xs = reopen_free o words h kept last xs
begun_free o mounts words begins.Frees h xs = tt

packed_free : (o : MayGive) (is_packed : ℕ → Bool) (w : Want) → FreeWant o w → FreeWant o (where_packed is_packed w)
packed_free o is_packed (want.Look file what) h = over (is_packed file.group)
  where
    over : (b : Bool) → FreeWant o (cond b (want.Look file what) (want.Give (reply.No NoStorage)))
    over true = tt
    over false = tt
packed_free o is_packed (want.Open file how) h = over (is_packed file.group)
  where
    over : (b : Bool) → FreeWant o (cond b (want.Open file how) (want.Give (reply.No NoStorage)))
    over true = tt
    over false = tt
packed_free o is_packed (want.OpenToMend file) h = over (is_packed file.group)
  where
    over : (b : Bool) → FreeWant o (cond b (want.OpenToMend file) (want.Give (reply.No NoStorage)))
    over true = tt
    over false = tt
packed_free o is_packed (want.Make group kind sites) h = over (is_packed group)
  where
    over : (b : Bool) → FreeWant o (cond b (want.Make group kind sites) (want.Give (reply.No NoStorage)))
    over true = tt
    over false = tt
packed_free o is_packed w h = h

pub wants_free : (o : MayGive) (mounts : List Mount) (is_packed : ℕ → Bool) (words : Call) (b : Beginning) → (may_read b words ≡ true → o.reads ≡ true) → (xs : List Answer) → FreeWant o (wants mounts is_packed o.free words b xs)
wants_free o mounts is_packed words b h xs = packed_free o is_packed (named_wants mounts o.free words b xs) (over (is_badly_named mounts words))
  where
    over : (bad : Bool) → FreeWant o (cond bad (want.Give (reply.No BadName)) (begun_wants mounts o.free words b xs))
    over true = tt
    over false = begun_free o mounts words b h xs

-- a script that gives bytes reads
pub gives_bytes : (mounts : List Mount) (is_packed : ℕ → Bool) (free : Option ℕ) (words : Call) (b : Beginning) (xs : List Answer) (bytes : List ℕ) → wants mounts is_packed free words b xs ≡ want.Give (reply.Data bytes) → may_read b words ≡ true
gives_bytes mounts is_packed free words b xs bytes h = subst (FreeWant (record { free = free; reads = may_read b words })) h (wants_free (record { free = free; reads = may_read b words }) mounts is_packed words b (λ k. k) xs)

-- The free number stands for nothing.

pub free_stands : (table : ℕ → Option Descriptor) (n left fd : ℕ) → lowest_free_from table n left ≡ Some fd → table fd ≡ None
free_stands table n zero fd e = none_some fd e
free_stands table n (suc left) fd e = over (free_stands table (n + 1) left fd) (table n) refl
  where
    over : (lowest_free_from table (n + 1) left ≡ Some fd → table fd ≡ None) → (d : Option Descriptor) → table n ≡ d → table fd ≡ None
    over later None f = subst (λ m. table m ≡ None) (some_same n fd (rw f at e)) f
    over later (Some d) f = later (rw f at e)
