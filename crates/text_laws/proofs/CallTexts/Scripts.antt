-- Whatever the script of a call wants is in the ranges of records.
use Rattle.std.proofs.Common.{◌≡◌, ◌≤◌, ◌<◌, ◌^◌, ℕ, ◌==◌, Bool, true, false, cond, not, ◌&&◌, List, [], ◌∷◌, length, Option, None, Some, refl, subst, arith}
use Rattle.std.proofs.lemmas.Bool.Decides.{nat_tests}
use Rattle.std.specs.List.{AllByRecursion, list_all}
use Rattle.std.specs.Ordering.{nat_cmp}
use Rattle.std.specs.Cmp.Lexicographic.{slice_cmp}
use Rattle.std.specs.Prelude.{nat_le, nat_lt}
use Rattle.std.specs.Str.{bytes_eq}
use Rattle.plain_facts.proofs.Tests.{and_first, and_second, and_true, both_true, false_true, not_false}
use Rattle.plain_facts.proofs.Numbers.{at_most}
use Rattle.locus_ids.specs.Sizes.{file_bytes_max, sites_max}
use Rattle.locus_ids.specs.declared.config.Mount.{Mount}
use Rattle.locus_ids.specs.declared.ids.CallId.{CallId}
use Rattle.locus_ids.specs.declared.ids.EpochId.{EpochId}
use Rattle.locus_ids.specs.declared.ids.FileId.{FileId}
use Rattle.locus_ids.specs.declared.ids.Kind.{Kind}
use Rattle.locus_ids.specs.declared.ids.Kind.TheVariants.{File, Dir}
use Rattle.locus_ids.specs.declared.ids.Serial.{Serial}
use Rattle.locus_ids.specs.declared.ids.Stamp.{Stamp}
use Rattle.locus_ids.specs.declared.refusal.Refusal.{Refusal}
use Rattle.locus_ids.specs.declared.refusal.Refusal.TheVariants as refusal
use Rattle.locus_ids.specs.declared.sites.Sites.{Sites}
use Rattle.schedule_lines.specs.Ranges.{fits_call, is_between, is_byte, is_descriptor, is_word}
use Rattle.trace_book.specs.Messages.{is_message, message_name, messages}
use Rattle.trace_book.specs.Names.{but_last, components, is_name, last_of, plain_name}
use Rattle.trace_book.specs.declared.call.Call.{Call}
use Rattle.trace_book.specs.declared.call.Call.TheVariants as call
use Rattle.trace_book.specs.declared.call.OpenMode.{OpenMode}
use Rattle.trace_book.specs.declared.descriptor.OneVersion.{OneVersion}
use Rattle.trace_book.specs.declared.descriptor.Beginning.{Beginning}
use Rattle.trace_book.specs.declared.descriptor.Beginning.TheVariants as begins
use Rattle.trace_book.specs.declared.operation.Op.{Op}
use Rattle.trace_book.specs.declared.operation.Op.TheVariants as op
use Rattle.trace_book.specs.declared.operation.Outcome.{Outcome}
use Rattle.trace_book.specs.declared.operation.Outcome.TheVariants as outcome
use Rattle.trace_book.specs.declared.reply.Reply.{Reply}
use Rattle.trace_book.specs.declared.reply.Reply.TheVariants as reply
use Rattle.trace_book.specs.declared.operation.What.{What}
use Rattle.trace_book.specs.declared.operation.What.TheVariants as what
use Rattle.wire_fields.specs.Components.{is_component}
use Rattle.call_rules.specs.Closing.{Unchanged, close_all, closes, give_up, gives}
use Rattle.call_rules.specs.Mailing.{shown_messages, tells_name}
use Rattle.call_rules.specs.Making.{after_insert, after_make, after_probe, changes_dir, fills, opens_dir, probes}
use Rattle.call_rules.specs.Mending.{after_mend, brings, mend_wants}
use Rattle.call_rules.specs.Naming.{renames}
use Rattle.call_rules.specs.of_commit_graph.Versions.{same_stamp}
use Rattle.call_rules.specs.Reopening.{reads_again, reopened, reopens, reopen_wants}
use Rattle.call_rules.specs.Opening.{Shows, before_name, close_wants, describes, lists, op_wants, opens_file, reply_to, shown_in, uses_wants, with_mounts, with_name}
use Rattle.call_rules.specs.Paths.{is_path, path_bytes_max}
use Rattle.call_rules.specs.Paths as rules
use Rattle.call_rules.specs.Removing.{by_kind, empties, finds, opens_target, removes}
use Rattle.call_rules.specs.Scripts.{begun_wants, named_wants, path_wants, wants, where_packed}
use Rattle.call_rules.specs.Walks.{Asks, Fails, Strays, There, Walked, is_first_root, mounted, mounted_in, passes, root_of, walk, walked}
use Rattle.call_rules.specs.Words.{is_badly_named, is_mount_name, names_entry, names_new}
use Rattle.call_rules.specs.declared.answer.Answer.{Answer}
use Rattle.call_rules.specs.declared.answer.Answer.TheVariants as answer
use Rattle.call_rules.specs.declared.want.Want.{Want}
use Rattle.call_rules.specs.declared.want.Want.TheVariants as want
use Rattle.record_reading.specs.Ranges.{is_any_site, is_call_id, is_counted, is_epoch, is_file, is_group, is_inode, is_mend, is_refusal, is_reply, is_some_data, is_stamp, is_words, number_max}
use Rattle.mailbox_join.proofs.Naming.{named}
use Rattle.text_laws.specs.CallTexts.Wants.{is_answer, is_asked_op, is_asked_what, is_begun, is_free, is_gift, is_mount, is_want}
use Rattle.text_laws.proofs.CallTexts.Names.{component_text, name_text, plain_text}

abbrev Answered : List Answer → Type 0
Answered answers = AllByRecursion (λ (a : Answer). is_answer a ≡ true) answers

-- after answers in range
abbrev Always : (List Answer → Want) → Type 0
Always f = (answers : List Answer) → Answered answers → is_want (f answers) ≡ true

look_text : (f : FileId) (w : What) → is_file f ≡ true → is_asked_what w ≡ true → is_want (want.Look f w) ≡ true
look_text f w a b = and_true (is_file f) (is_asked_what w) a b

file_text : (group ino : ℕ) → is_group group ≡ true → is_inode ino ≡ true → is_file (record { group = group; ino = ino }) ≡ true
file_text group ino a b = and_true (is_group group) (is_inode ino) a b

group_of : (f : FileId) → is_file f ≡ true → is_group f.group ≡ true
group_of f h = and_first (is_group f.group) (is_inode f.ino) h

-- ---- how a call ends ----

gives_text : (r : Reply) → is_reply r ≡ true → Always (gives r)
gives_text r k [] h = k
gives_text r k (a ∷ rest) h = refl

closes_text : (i : Serial) (next : List Answer → Want) → Always next → Always (closes i next)
closes_text i next k [] h = refl
closes_text i next k (answer.Ended stamp ∷ rest) h = k rest h.1
closes_text i next k (answer.Refused why ∷ rest) h = k rest h.1
closes_text i next k (_ ∷ rest) h = refl

one_up : (p : Serial) (why : Refusal) → is_refusal why ≡ true → Always (give_up (Unchanged p ∷ []) why)
one_up p why k = closes_text p (give_up [] why) (gives_text (reply.No why) k)

two_up : (p t : Serial) (why : Refusal) → is_refusal why ≡ true → Always (give_up (Unchanged p ∷ Unchanged t ∷ []) why)
two_up p t why k = closes_text p (give_up (Unchanged t ∷ []) why) (one_up t why k)

one_closed : (i : Serial) (r : Reply) → is_reply r ≡ true → Always (close_all (i ∷ []) r)
one_closed i r k [] h = refl
one_closed i r k (answer.Ended stamp ∷ rest) h = gives_text r k rest h.1
one_closed i r k (answer.Refused why ∷ rest) h = gives_text (reply.No why) h.0 rest h.1
one_closed i r k (_ ∷ rest) h = refl

two_closed : (i j : Serial) (r : Reply) → is_reply r ≡ true → Always (close_all (i ∷ j ∷ []) r)
two_closed i j r k [] h = refl
two_closed i j r k (answer.Ended stamp ∷ rest) h = one_closed j r k rest h.1
two_closed i j r k (answer.Refused why ∷ rest) h = closes_text j (gives (reply.No why)) (gives_text (reply.No why) h.0) rest h.1
two_closed i j r k (_ ∷ rest) h = refl

-- ---- create, mkdir and mail ----

-- what a new file begins with, where it is written at once
abbrev Filled : List ℕ → Type 0
Filled [] = Unit {0}
Filled (b ∷ bs) = is_some_data 4096 (b ∷ bs) ≡ true

-- what is told of a new file
abbrev Tells : (ℕ → Reply) → Type 0
Tells tells = (ino : ℕ) → is_inode ino ≡ true → is_reply (tells ino) ≡ true

insert_text : (p : Serial) (name : List ℕ) (kind : Kind) (ino : ℕ) (told : Reply) → is_name name ≡ true → is_reply told ≡ true → is_inode ino ≡ true → Always (after_insert p name kind ino told)
insert_text p name kind ino told n t k [] h = and_true (is_name name) (is_inode ino) n k
insert_text p name kind ino told n t k (answer.Did o ∷ rest) h = one_closed p told t rest h.1
insert_text p name kind ino told n t k (answer.Refused why ∷ rest) h = one_up p why h.0 rest h.1
insert_text p name kind ino told n t k (_ ∷ rest) h = refl

make_text : (p : Serial) (name : List ℕ) (kind : Kind) (made : Serial) (ino : ℕ) (told : Reply) → is_name name ≡ true → is_reply told ≡ true → is_inode ino ≡ true → Always (after_make p name kind made ino told)
make_text p name kind made ino told n t k [] h = refl
make_text p name kind made ino told n t k (answer.Ended stamp ∷ rest) h = insert_text p name kind ino told n t k rest h.1
make_text p name kind made ino told n t k (answer.Refused why ∷ rest) h = one_up p why h.0 rest h.1
make_text p name kind made ino told n t k (_ ∷ rest) h = refl

fills_text : (p : Serial) (name : List ℕ) (kind : Kind) (bytes : List ℕ) (made : Serial) (ino : ℕ) (told : Reply) → is_name name ≡ true → Filled bytes → is_reply told ≡ true → is_inode ino ≡ true → Always (fills p name kind bytes made ino told)
fills_text p name kind [] made ino told n f t k answers h = make_text p name kind made ino told n t k answers h
fills_text p name kind (b ∷ bs) made ino told n f t k [] h = f
fills_text p name kind (b ∷ bs) made ino told n f t k (answer.Did o ∷ rest) h = make_text p name kind made ino told n t k rest h.1
fills_text p name kind (b ∷ bs) made ino told n f t k (answer.Refused why ∷ rest) h = two_up made p why h.0 rest h.1
fills_text p name kind (b ∷ bs) made ino told n f t k (_ ∷ rest) h = refl

probe_text : (p : Serial) (group : ℕ) (name : List ℕ) (kind : Kind) (set : Option Sites) (bytes : List ℕ) (tells : ℕ → Reply) → is_group group ≡ true → is_name name ≡ true → Filled bytes → Tells tells → Always (after_probe p group name kind set bytes tells)
probe_text p group name kind set bytes tells g n f t [] h = g
probe_text p group name kind set bytes tells g n f t (answer.Opened made ino ∷ rest) h = fills_text p name kind bytes made ino (tells ino) n f (t ino h.0) h.0 rest h.1
probe_text p group name kind set bytes tells g n f t (answer.Refused why ∷ rest) h = one_up p why h.0 rest h.1
probe_text p group name kind set bytes tells g n f t (_ ∷ rest) h = refl

probes_text : (p : Serial) (group : ℕ) (name : List ℕ) (kind : Kind) (set : Option Sites) (bytes : List ℕ) (tells : ℕ → Reply) → is_name name ≡ true → Filled bytes → Tells tells → is_group group ≡ true → Always (probes p group name kind set bytes tells)
probes_text p group name kind set bytes tells n f t g [] h = n
probes_text p group name kind set bytes tells n f t g (answer.Did o ∷ rest) h = probe_text p group name kind set bytes tells g n f t rest h.1
probes_text p group name kind set bytes tells n f t g (answer.Refused why ∷ rest) h = one_up p why h.0 rest h.1
probes_text p group name kind set bytes tells n f t g (_ ∷ rest) h = refl

-- ---- unlink and rmdir ----

removes_text : (p t : Serial) (name : List ℕ) (ino : ℕ) → is_name name ≡ true → is_inode ino ≡ true → Always (removes p t name ino)
removes_text p t name ino n k [] h = and_true (is_name name) (is_inode ino) n k
removes_text p t name ino n k (answer.Did o ∷ rest) h = two_closed p t reply.Done refl rest h.1
removes_text p t name ino n k (answer.Refused why ∷ rest) h = two_up p t why h.0 rest h.1
removes_text p t name ino n k (_ ∷ rest) h = refl

empties_text : (kind : Kind) (p t : Serial) (name : List ℕ) (ino : ℕ) → is_name name ≡ true → is_inode ino ≡ true → Always (empties kind p t name ino)
empties_text File p t name ino n k answers h = removes_text p t name ino n k answers h
empties_text Dir p t name ino n k [] h = refl
empties_text Dir p t name ino n k (answer.Did o ∷ rest) h = removes_text p t name ino n k rest h.1
empties_text Dir p t name ino n k (answer.Refused why ∷ rest) h = two_up p t why h.0 rest h.1
empties_text Dir p t name ino n k (_ ∷ rest) h = refl

target_text : (kind : Kind) (p : Serial) (group : ℕ) (name : List ℕ) (ino : ℕ) → is_group group ≡ true → is_name name ≡ true → is_inode ino ≡ true → Always (opens_target kind p group name ino)
target_text kind p group name ino g n k [] h = file_text group ino g k
target_text kind p group name ino g n k (answer.Opened t found ∷ rest) h = empties_text kind p t name ino n k rest h.1
target_text kind p group name ino g n k (answer.Refused why ∷ rest) h = one_up p why h.0 rest h.1
target_text kind p group name ino g n k (_ ∷ rest) h = refl

kind_text : (asked found : Kind) (p : Serial) (group : ℕ) (component : List ℕ) (ino : ℕ) → is_group group ≡ true → is_component component ≡ true → is_inode ino ≡ true → Always (by_kind asked found p group component ino)
kind_text File File p group component ino g c k answers h = target_text File p group (plain_name component) ino g (plain_text component c) k answers h
kind_text Dir Dir p group component ino g c k answers h = target_text Dir p group (plain_name component) ino g (plain_text component c) k answers h
kind_text File Dir p group component ino g c k answers h = one_up p refusal.IsDir refl answers h
kind_text Dir File p group component ino g c k answers h = one_up p (refusal.NotDir component) c answers h

finds_text : (kind : Kind) (p : Serial) (group : ℕ) (component : List ℕ) → is_component component ≡ true → is_group group ≡ true → Always (finds kind p group component)
finds_text kind p group component c g [] h = c
finds_text kind p group component c g (answer.Did (outcome.Found ino found) ∷ rest) h = kind_text kind found p group component ino g c h.0 rest h.1
finds_text kind p group component c g (answer.Refused why ∷ rest) h = one_up p why h.0 rest h.1
finds_text kind p group component c g (_ ∷ rest) h = refl

-- ---- rename ----

renames_text : (p : Serial) (component name : List ℕ) → is_component component ≡ true → is_name name ≡ true → Always (renames p component name)
renames_text p component name c n [] h = and_true (is_component component) (is_name name) c n
renames_text p component name c n (answer.Did o ∷ rest) h = one_closed p reply.Done refl rest h.1
renames_text p component name c n (answer.Refused why ∷ rest) h = one_up p why h.0 rest h.1
renames_text p component name c n (_ ∷ rest) h = refl

-- ---- what directories show ----

with_name_text : (name : List ℕ) (names : List (List ℕ)) → is_component name ≡ true → list_all is_component names ≡ true → list_all is_component (with_name name names) ≡ true
with_name_text name [] k h = and_true (is_component name) true k refl
with_name_text name (n ∷ ns) k h = over (before_name (slice_cmp nat_cmp name (plain_name n))) (with_name_text name ns k parts.1)
  where
    parts : (is_component n ≡ true) × (list_all is_component ns ≡ true)
    parts = both_true (is_component n) (list_all is_component ns) h

    over : (b : Bool) → list_all is_component (with_name name ns) ≡ true → list_all is_component (cond b (name ∷ n ∷ ns) (n ∷ with_name name ns)) ≡ true
    over true later = and_true (is_component name) (list_all is_component (n ∷ ns)) k h
    over false later = and_true (is_component n) (list_all is_component (with_name name ns)) parts.0 later

with_mounts_text : (mounts : List Mount) (names : List (List ℕ)) → list_all is_mount mounts ≡ true → list_all is_component names ≡ true → list_all is_component (with_mounts mounts names) ≡ true
with_mounts_text [] names m h = h
with_mounts_text (m ∷ ms) names k h =
    let parts = both_true (is_mount m) (list_all is_mount ms) k in
    with_name_text m.name (with_mounts ms names) (name_text m.name (and_second (is_group m.group) (is_name m.name) parts.0)) (with_mounts_text ms names parts.1 h)

shown_text : (mounts : List Mount) (dir : FileId) (names : List (List ℕ)) → list_all is_mount mounts ≡ true → list_all is_component names ≡ true → list_all is_component (shown_in mounts dir names) ≡ true
shown_text mounts dir names m h = over (is_first_root dir)
  where
    over : (b : Bool) → list_all is_component (cond b (with_mounts mounts names) names) ≡ true
    over true = with_mounts_text mounts names m h
    over false = h

messages_text : (names : List (List ℕ)) → list_all is_component names ≡ true → list_all is_component (messages names) ≡ true
messages_text [] h = refl
messages_text (n ∷ ns) h = over (is_message (plain_name n)) (messages_text ns parts.1)
  where
    parts : (is_component n ≡ true) × (list_all is_component ns ≡ true)
    parts = both_true (is_component n) (list_all is_component ns) h

    over : (b : Bool) → list_all is_component (messages ns) ≡ true → list_all is_component (cond b (n ∷ messages ns) (messages ns)) ≡ true
    over true later = and_true (is_component n) (list_all is_component (messages ns)) parts.0 later
    over false later = later

-- ---- calls of one request ----

-- what is reached is no file, or a component led to it
abbrev Led : List ℕ → Kind → Type 0
Led reached File = is_component reached ≡ true
Led reached Dir = Unit {0}

lists_text : (shows : Shows) (reached : List ℕ) (at : FileId) (kind : Kind) → ((names : List (List ℕ)) → list_all is_component names ≡ true → list_all is_component (shows at names) ≡ true) → is_file at ≡ true → Led reached kind → Always (lists shows reached at kind)
lists_text shows reached at File s k led answers h = led
lists_text shows reached at Dir s k led [] h = look_text at what.List k refl
lists_text shows reached at Dir s k led (answer.Showed names ∷ []) h = s names h.0
lists_text shows reached at Dir s k led (answer.Refused why ∷ []) h = h.0
lists_text shows reached at Dir s k led (_ ∷ rest) h = refl

describes_text : (at : FileId) (kind : Kind) → is_file at ≡ true → Always (describes at kind)
describes_text at kind k [] h = look_text at what.Stat k refl
describes_text at kind k (answer.Described x size stamp ∷ []) h = and_true (is_file at) _ k h.0
describes_text at kind k (answer.Refused why ∷ []) h = h.0
describes_text at kind k (_ ∷ rest) h = refl

opens_text : (m : OpenMode) (free : Option ℕ) (file : FileId) (kind : Kind) → is_free free ≡ true → is_file file ≡ true → Always (opens_file m free file kind)
opens_text m free file Dir f k answers h = refl
opens_text m free file File f k [] h = k
opens_text m (Some fd) file File f k (answer.Opened i ino ∷ []) h = f
opens_text m (Some fd) file File f k (answer.Reading i version ∷ []) h = f
opens_text m free file File f k (answer.Refused why ∷ []) h = h.0
opens_text m free file File f k (_ ∷ rest) h = refl

outcome_text : (o : Outcome) → is_gift o ≡ true → is_reply (reply_to o) ≡ true
outcome_text outcome.Done h = refl
outcome_text (outcome.Found ino kind) h = refl
outcome_text (outcome.Data bytes) h = h
outcome_text (outcome.Committed stamp) h = h
outcome_text (outcome.No why) h = h

op_text : (i : Serial) (o : Op) → is_asked_op o ≡ true → Always (op_wants i o)
op_text i o k [] h = k
op_text i o k (answer.Did result ∷ []) h = outcome_text result h.0
op_text i o k (answer.Refused why ∷ []) h = h.0
op_text i o k (_ ∷ rest) h = refl

close_text : (i : Serial) → Always (close_wants i)
close_text i [] h = refl
close_text i (answer.Ended stamp ∷ []) h = h.0
close_text i (answer.Refused why ∷ []) h = h.0
close_text i (_ ∷ rest) h = refl

-- ---- mends ----

after_mend_text : (i : Serial) → Always (after_mend i)
after_mend_text i [] h = refl
after_mend_text i (answer.Did o ∷ rest) h = close_text i rest h.1
after_mend_text i (answer.Refused why ∷ rest) h = one_up i why h.0 rest h.1
after_mend_text i (_ ∷ rest) h = refl

brings_text : (i : Serial) (file : FileId) (ss : List Stamp) → is_file file ≡ true → list_all is_stamp ss ≡ true → Always (brings i file ss)
brings_text i file [] k s answers h = after_mend_text i answers h
brings_text i file (stamp ∷ ss) k s [] h = look_text file (what.Whole stamp) k (both_true (is_stamp stamp) (list_all is_stamp ss) s).0
brings_text i file (stamp ∷ ss) k s (answer.Brought ∷ rest) h = brings_text i file ss k (both_true (is_stamp stamp) (list_all is_stamp ss) s).1 rest h.1
brings_text i file (stamp ∷ ss) k s (answer.Refused why ∷ rest) h = one_up i why h.0 rest h.1
brings_text i file (stamp ∷ ss) k s (_ ∷ rest) h = refl

mend_text : (file : FileId) → is_file file ≡ true → Always (mend_wants file)
mend_text file k [] h = k
mend_text file k (answer.Merging i kept ∷ rest) h = brings_text i file kept k h.0 rest h.1
mend_text file k (answer.Refused why ∷ []) h = h.0
mend_text file k (_ ∷ rest) h = refl

-- ---- walks ----

-- the last of some components, or the one before them
abbrev last_or : List ℕ → List (List ℕ) → List ℕ
last_or reached [] = reached
last_or reached (c ∷ cs) = last_or c cs

last_is : (c : List ℕ) (cs : List (List ℕ)) → last_or c cs ≡ last_of (c ∷ cs)
last_is c [] = refl
last_is c (d ∷ cs) = last_is d cs

abbrev Components : List (List ℕ) → Type 0
Components cs = AllByRecursion (λ (c : List ℕ). is_component c ≡ true) cs

abbrev WalkText : List ℕ → Walked → Type 0
WalkText last (Asks dir c) = (is_file dir ≡ true) × (is_component c ≡ true)
WalkText last (Fails why) = is_refusal why ≡ true
WalkText last (There at kind rest) = (is_file at ≡ true) × Led last kind × Answered rest
WalkText last Strays = Unit {0}

root_text : (group : ℕ) → is_group group ≡ true → is_file (root_of group) ≡ true
root_text group g = file_text group 1 g refl

mounted_text : (mounts : List Mount) (name : List ℕ) (group : ℕ) → list_all is_mount mounts ≡ true → mounted mounts name ≡ Some group → is_group group ≡ true
mounted_text [] name group m e = absurd (none e)
  where
    none : ◌≡◌ {A = Option ℕ} None (Some group) → ⊥
    none q = cc
mounted_text (m ∷ ms) name group k e = over (bytes_eq m.name name) (λ q. mounted_text ms name group parts.1 q) e
  where
    parts : (is_mount m ≡ true) × (list_all is_mount ms ≡ true)
    parts = both_true (is_mount m) (list_all is_mount ms) k

    same : ◌≡◌ {A = Option ℕ} (Some m.group) (Some group) → m.group ≡ group
    same q = cc

    over : (b : Bool) → (mounted ms name ≡ Some group → is_group group ≡ true) → cond b (Some m.group) (mounted ms name) ≡ Some group → is_group group ≡ true
    over true later q = subst (λ (g : ℕ). is_group g ≡ true) (same q) (and_first (is_group m.group) (is_name m.name) parts.0)
    over false later q = later q

passes_text : (last : List ℕ) (further : FileId → Kind → List Answer → Walked) (dir : FileId) (c : List ℕ) (o : Option ℕ) (answers : List Answer) → ((f : FileId) (k : Kind) (rest : List Answer) → is_file f ≡ true → Answered rest → WalkText last (further f k rest))
    → ((group : ℕ) → o ≡ Some group → is_group group ≡ true) → is_file dir ≡ true → is_component c ≡ true → Answered answers → WalkText last (passes further dir c o answers)
passes_text last further dir c (Some group) answers go g k n h = go (root_of group) Dir answers (root_text group (g group refl)) h
passes_text last further dir c None [] go g k n h = (k, n)
passes_text last further dir c None (answer.Entered ino kind ∷ rest) go g k n h = go (record { group = dir.group; ino = ino }) kind rest (file_text dir.group ino (group_of dir k) h.0) h.1
passes_text last further dir c None (answer.Refused why ∷ rest) go g k n h = h.0
passes_text last further dir c None (_ ∷ rest) go g k n h = tt

led_any : (c : List ℕ) (kind : Kind) → is_component c ≡ true → Led c kind
led_any c File h = h
led_any c Dir h = tt

walk_text : (mounts : List Mount) (cs : List (List ℕ)) (reached : List ℕ) (at : FileId) (kind : Kind) (answers : List Answer) → list_all is_mount mounts ≡ true → Components cs → is_file at ≡ true → Led reached kind → Answered answers
    → WalkText (last_or reached cs) (walk mounts cs reached at kind answers)
walk_text mounts [] reached at kind answers m n k led h = (k, led, h)
walk_text mounts (c ∷ cs) reached at File answers m n k led h = led
walk_text mounts (c ∷ cs) reached at Dir answers m n k led h =
    passes_text (last_or c cs) (walk mounts cs c) at c (mounted_in mounts at c) answers (λ f x rest i a. walk_text mounts cs c f x rest m n.1 i (led_any c x n.0) a) (λ group e. over (is_first_root at) group e) k n.0 h
  where
    over : (b : Bool) (group : ℕ) → cond b (mounted mounts c) None ≡ Some group → is_group group ≡ true
    over true group e = mounted_text mounts c group m e
    over false group e = absurd (none e)
      where
        none : ◌≡◌ {A = Option ℕ} None (Some group) → ⊥
        none q = cc

walked_text : (mounts : List Mount) (path : List (List ℕ)) (after : FileId → Kind → List Answer → Want) → list_all is_mount mounts ≡ true → Components path → ((at : FileId) (kind : Kind) → is_file at ≡ true → Led (last_or [] path) kind → Always (after at kind))
    → Always (λ answers. walked mounts path answers after)
walked_text mounts path after m n go answers h = over (walk mounts path [] (root_of 0) Dir answers) refl (walk_text mounts path [] (root_of 0) Dir answers m n (root_text 0 refl) tt h)
  where
    over : (w : Walked) → walk mounts path [] (root_of 0) Dir answers ≡ w → WalkText (last_or [] path) (walk mounts path [] (root_of 0) Dir answers) → is_want (walked mounts path answers after) ≡ true
    over (Asks dir c) e = rw e (λ f. look_text dir (what.Name c) f.0 f.1)
    over (Fails why) e = rw e (λ f. f)
    over (There at kind rest) e = rw e (λ f. go at kind f.0 f.1 rest f.2)
    over Strays e = rw e (λ f. refl)

-- where nothing led, no file is reached
led_last : (path : List (List ℕ)) (kind : Kind) → Led (last_or [] path) kind → Led (last_of path) kind
led_last [] kind led = led
led_last (c ∷ cs) kind led = subst (λ (x : List ℕ). Led x kind) (last_is c cs) led

dir_text : (reached : List ℕ) (next : Serial → List Answer → Want) → ((p : Serial) → Always (next p)) → (dir : FileId) (kind : Kind) → is_file dir ≡ true → Led reached kind → Always (opens_dir reached next dir kind)
dir_text reached next go dir File k led answers h = led
dir_text reached next go dir Dir k led [] h = k
dir_text reached next go dir Dir k led (answer.Opened p ino ∷ rest) h = go p rest h.1
dir_text reached next go dir Dir k led (answer.Refused why ∷ rest) h = h.0
dir_text reached next go dir Dir k led (_ ∷ rest) h = refl

change_text : (mounts : List Mount) (path : List ℕ) (next : ℕ → Serial → List Answer → Want) → list_all is_mount mounts ≡ true → Components (but_last (components path)) → ((group : ℕ) (p : Serial) → is_group group ≡ true → Always (next group p)) → Always (changes_dir mounts path next)
change_text mounts path next m n go = walked_text mounts (but_last (components path)) _ m n (λ dir kind k led. dir_text (last_of (but_last (components path))) (next dir.group) (λ p. go dir.group p (group_of dir k)) dir kind k (led_last (but_last (components path)) kind led))

-- ---- paths ----

all_text : (cs : List (List ℕ)) → list_all rules.is_component cs ≡ true → Components cs
all_text [] e = tt
all_text (c ∷ cs) e = (component_text c (both_true (rules.is_component c) (list_all rules.is_component cs) e).0, all_text cs (both_true (rules.is_component c) (list_all rules.is_component cs) e).1)

path_text : (path : List ℕ) → is_path path ≡ true → Components (components path)
path_text [] e = absurd (false_true e)
path_text (c ∷ rest) e = all_text (components (c ∷ rest)) (both_true (nat_le (length (components (c ∷ rest))) 32) _ (both_true (nat_le (length (c ∷ rest)) path_bytes_max) _ (both_true (c == 47) _ e).1).1).1

less_text : (cs : List (List ℕ)) → Components cs → Components (but_last cs)
less_text [] h = tt
less_text (c ∷ []) h = tt
less_text (c ∷ d ∷ cs) h = (h.0, less_text (d ∷ cs) h.1)

some_more : (d : List ℕ) (cs : List (List ℕ)) → nat_lt 0 (length (d ∷ cs)) ≡ true
some_more d cs = grind (arith, nat_tests)

last_text : (cs : List (List ℕ)) → nat_lt 0 (length cs) ≡ true → Components cs → is_component (last_of cs) ≡ true
last_text [] e h = absurd (none e)
  where
    none : nat_lt 0 0 ≡ true → ⊥
    none q = cc
last_text (c ∷ []) e h = h.0
last_text (c ∷ d ∷ cs) e h = last_text (d ∷ cs) (some_more d cs) h.1

-- a path whose last component may be an entry's
record Entry (path : List ℕ) : Type 0 where
  dirs : Components (but_last (components path))
  last : is_component (last_of (components path)) ≡ true

entry_text : (mounts : List Mount) (path : List ℕ) → names_entry mounts path ≡ true → Entry path
entry_text mounts path e =
    let is : (is_path path ≡ true) × _ = both_true (is_path path) _ e in
    let n : Components (components path) = path_text path is.0 in
    record { dirs = less_text (components path) n; last = last_text (components path) (both_true (nat_lt 0 (length (components path))) _ is.1).0 n }

new_text : (mounts : List Mount) (path : List ℕ) → not (names_new mounts path) ≡ false → Entry path × (is_name (last_of (components path)) ≡ true)
new_text mounts path e =
    let k : (names_entry mounts path ≡ true) × (is_name (last_of (components path)) ≡ true) = both_true (names_entry mounts path) (is_name (last_of (components path))) (not_false (names_new mounts path) e) in
    (entry_text mounts path k.0, k.1)

-- ---- ranges of words ----

from_zero : (most n : ℕ) → nat_le n most ≡ true → is_between 0 most n ≡ true
from_zero most n e = grind (arith, nat_tests)

read_text : (n fd at len : ℕ) → fits_call n (call.Read fd at len) ≡ true → is_asked_op (op.Read at len) ≡ true
read_text n fd at len e = of (is_descriptor fd) e
  where
    of : (a : Bool) → (a && nat_le at file_bytes_max && nat_le len 4096) ≡ true → is_asked_op (op.Read at len) ≡ true
    of true q = and_true (is_between 0 file_bytes_max at) (is_between 0 4096 len) (from_zero file_bytes_max at (both_true (nat_le at file_bytes_max) (nat_le len 4096) q).0) (from_zero 4096 len (both_true (nat_le at file_bytes_max) (nat_le len 4096) q).1)
    of false q = absurd (false_true q)

write_text : (n fd at : ℕ) (bytes : List ℕ) → fits_call n (call.Write fd at bytes) ≡ true → is_asked_op (op.Write at bytes) ≡ true
write_text n fd at bytes e = of (is_descriptor fd) (nat_le at file_bytes_max) refl e
  where
    of : (a b : Bool) → nat_le at file_bytes_max ≡ b → (a && b && is_between 1 4096 (length bytes) && list_all is_byte bytes) ≡ true → is_asked_op (op.Write at bytes) ≡ true
    of true true f q = and_true (is_between 0 file_bytes_max at) (is_some_data 4096 bytes) (from_zero file_bytes_max at f) q
    of true false f q = absurd (false_true q)
    of false b f q = absurd (false_true q)

-- a message begins with some bytes
mail_text : (n : ℕ) (path bytes : List ℕ) → fits_call n (call.Mail path bytes) ≡ true → Filled bytes
mail_text n path [] e = tt
mail_text n path (b ∷ bs) e = of (is_word path) e
  where
    of : (a : Bool) → (a && is_between 1 4096 (length (b ∷ bs)) && list_all is_byte (b ∷ bs)) ≡ true → is_some_data 4096 (b ∷ bs) ≡ true
    of true q = q
    of false q = absurd (false_true q)

cut_text : (n fd len : ℕ) → fits_call n (call.Cut fd len) ≡ true → is_asked_op (op.Cut len) ≡ true
cut_text n fd len e = from_zero file_bytes_max len (both_true (is_descriptor fd) (nat_le len file_bytes_max) e).1

-- ---- calls ----

-- the words are those of a line, or a mend's
abbrev Words : Call → Type 0
Words (call.Mend file) = is_file file ≡ true
Words words = fits_call sites_max words ≡ true

of_mend : (words : Call) → is_mend words ≡ true → Words words
of_mend (call.Mend file) h = h
of_mend _ h = absurd (false_true h)

of_line : (words : Call) → fits_call sites_max words ≡ true → Words words
of_line (call.Mend file) h = absurd (false_true h)
of_line _ h = h

words_text : (process : ℕ) (words : Call) → is_words process words ≡ true → Words words
words_text process words e = over (process == 0) e
  where
    over : (b : Bool) → cond b (is_mend words) (fits_call sites_max words) ≡ true → Words words
    over true q = of_mend words q
    over false q = of_line words q

-- a name of a call that a record may say makes a name of a message
message_text : (id : CallId) → is_call_id id ≡ true → is_name (message_name id) ≡ true
message_text id e = named id (site_low (both_true (nat_le 1 id.site) (nat_le id.site sites_max) k.0).1) (number_low id.boot (both_true (nat_le 1 id.boot) (nat_le id.boot number_max) l.0).1) (number_low id.n (both_true (nat_le 1 id.n) (nat_le id.n number_max) l.1).1)
  where
    k : (is_any_site id.site ≡ true) × ((is_counted id.boot && is_counted id.n) ≡ true)
    k = both_true (is_any_site id.site) (is_counted id.boot && is_counted id.n) e

    l : (is_counted id.boot ≡ true) × (is_counted id.n ≡ true)
    l = both_true (is_counted id.boot) (is_counted id.n) k.1

    site_low : nat_le id.site sites_max ≡ true → id.site < 2 ^ 8
    site_low q = let most : id.site ≤ sites_max = at_most id.site sites_max q in omega (arith, most)

    number_low : (n : ℕ) → nat_le n number_max ≡ true → n < 2 ^ 32
    number_low n q = let most : n ≤ number_max = at_most n number_max q in omega (arith, most)

mail_says : (id : CallId) (reached bytes : List ℕ) → is_name (message_name id) ≡ true → Filled bytes → (dir : FileId) (kind : Kind) → is_file dir ≡ true → Led reached kind
    → Always (opens_dir reached (λ p more. probes p dir.group (message_name id) File None bytes (tells_name (message_name id)) more) dir kind)
mail_says id reached bytes n f dir kind k led =
    let told : is_reply (reply.Names (message_name id ∷ [])) ≡ true = and_true (is_component (message_name id)) true (name_text (message_name id) n) refl in
    dir_text reached (λ p more. probes p dir.group (message_name id) File None bytes (tells_name (message_name id)) more) (λ p. probes_text p dir.group (message_name id) File None bytes (tells_name (message_name id)) n f (λ ino i. told) (group_of dir k)) dir kind k led

path_says : (mounts : List Mount) (free : Option ℕ) (id : CallId) (words : Call) → list_all is_mount mounts ≡ true → is_free free ≡ true → is_name (message_name id) ≡ true → is_badly_named mounts words ≡ false → Words words → Always (path_wants mounts free id words)
path_says mounts free id (call.Create path set) m f n named fits = let k = new_text mounts path named in change_text mounts path _ m k.0.dirs (λ group p g. probes_text p group (last_of (components path)) File set [] reply.Made k.1 tt (λ ino i. i) g)
path_says mounts free id (call.MakeDir path) m f n named fits = let k = new_text mounts path named in change_text mounts path _ m k.0.dirs (λ group p g. probes_text p group (last_of (components path)) Dir None [] reply.Made k.1 tt (λ ino i. i) g)
path_says mounts free id (call.Unlink path) m f n named fits = let k = entry_text mounts path (not_false (names_entry mounts path) named) in change_text mounts path _ m k.dirs (λ group p g. finds_text File p group (last_of (components path)) k.last g)
path_says mounts free id (call.RemoveDir path) m f n named fits = let k = entry_text mounts path (not_false (names_entry mounts path) named) in change_text mounts path _ m k.dirs (λ group p g. finds_text Dir p group (last_of (components path)) k.last g)
path_says mounts free id (call.Rename path name) m f n named fits =
    let e : (names_entry mounts path ≡ true) × _ = both_true (names_entry mounts path) _ (not_false (names_entry mounts path && (is_name name && not (is_mount_name mounts path name))) named) in
    let k : Entry path = entry_text mounts path e.0 in
    change_text mounts path _ m k.dirs (λ group p g. renames_text p (last_of (components path)) name k.last (both_true (is_name name) _ e.1).0)
path_says mounts free id (call.List path) m f n named fits = walked_text mounts (components path) _ m (path_text path (not_false (is_path path) named)) (λ at kind k led. lists_text (shown_in mounts) (last_of (components path)) at kind (λ names h. shown_text mounts at names m h) k (led_last (components path) kind led))
path_says mounts free id (call.Mail path bytes) m f n named fits = walked_text mounts (components path) _ m (path_text path (not_false (is_path path) named))
    (λ dir kind k led. mail_says id (last_of (components path)) bytes n (mail_text sites_max path bytes fits) dir kind k (led_last (components path) kind led))
path_says mounts free id (call.Mails path) m f n named fits = walked_text mounts (components path) _ m (path_text path (not_false (is_path path) named)) (λ at kind k led. lists_text shown_messages (last_of (components path)) at kind messages_text k (led_last (components path) kind led))
path_says mounts free id (call.Stat path) m f n named fits = walked_text mounts (components path) describes m (path_text path (not_false (is_path path) named)) (λ at kind k led. describes_text at kind k)
path_says mounts free id (call.Open path how) m f n named fits = walked_text mounts (components path) _ m (path_text path (not_false (is_path path) named)) (λ at kind k led. opens_text how free at kind f k)
path_says mounts free id (call.Mend file) m f n named fits = mend_text file fits
path_says mounts free id _ m f n named fits = λ answers h. refl

uses_says : (words : Call) (i : Serial) → Words words → Always (uses_wants words i)
uses_says (call.Read fd at len) i k = op_text i (op.Read at len) (read_text sites_max fd at len k)
uses_says (call.Write fd at bytes) i k = op_text i (op.Write at bytes) (write_text sites_max fd at bytes k)
uses_says (call.Cut fd len) i k = op_text i (op.Cut len) (cut_text sites_max fd len k)
uses_says (call.Commit fd) i k = op_text i op.Commit refl
uses_says (call.Abort fd) i k = op_text i op.Abort refl
uses_says (call.Close fd) i k = close_text i
uses_says _ i k = λ answers h. refl

reads_again_text : (i : Serial) (at len : ℕ) → is_asked_op (op.Read at len) ≡ true → Always (reads_again i at len)
reads_again_text i at len k [] h = k
reads_again_text i at len k (answer.Did result ∷ []) h = outcome_text result h.0
reads_again_text i at len k (answer.Refused why ∷ rest) h = one_up i why h.0 rest h.1
reads_again_text i at len k (_ ∷ rest) h = refl

reopened_text : (kept granted : OneVersion) (last : EpochId) (at len : ℕ) (i : Serial) → is_asked_op (op.Read at len) ≡ true → is_epoch last ≡ true → Always (reopened kept last at len i granted)
reopened_text kept granted last at len i k e answers h = over (same_stamp granted.stamp kept.stamp)
  where
    over : (b : Bool) → is_want (cond b (reads_again i at len answers) (give_up (Unchanged i ∷ []) (refusal.Stale last) answers)) ≡ true
    over true = reads_again_text i at len k answers h
    over false = one_up i (refusal.Stale last) e answers h

reopens_text : (kept : OneVersion) (last : EpochId) (at len : ℕ) → is_asked_op (op.Read at len) ≡ true → is_file kept.file ≡ true → is_epoch last ≡ true → Always (reopens kept last at len)
reopens_text kept last at len k f e [] h = f
reopens_text kept last at len k f e (answer.Reading i granted ∷ rest) h = reopened_text kept granted last at len i k e rest h.1
reopens_text kept last at len k f e (answer.Refused why ∷ []) h = h.0
reopens_text kept last at len k f e (_ ∷ rest) h = refl

reopen_says : (words : Call) (kept : OneVersion) (last : EpochId) → Words words → is_file kept.file ≡ true → is_epoch last ≡ true → Always (reopen_wants words kept last)
reopen_says (call.Read fd at len) kept last k f e = reopens_text kept last at len (read_text sites_max fd at len k) f e
reopen_says _ kept last k f e = λ answers h. refl

begun_says : (mounts : List Mount) (free : Option ℕ) (words : Call) (b : Beginning) → list_all is_mount mounts ≡ true → is_free free ≡ true → is_badly_named mounts words ≡ false → Words words → is_begun b ≡ true → Always (begun_wants mounts free words b)
begun_says mounts free words (begins.Denied why) m f named k b answers h = b
begun_says mounts free words (begins.Uses e i) m f named k b answers h = uses_says words i k answers h
begun_says mounts free words (begins.Walks id) m f named k b answers h = path_says mounts free id words m f (message_text id b) named k answers h
begun_says mounts free words (begins.Reopens kept last) m f named k b answers h = (let p : (is_file kept.file ≡ true) × (is_epoch last ≡ true) = both_true (is_file kept.file) (is_epoch last) b in reopen_says words kept last k p.0 p.1 answers h)
begun_says mounts free words begins.Frees m f named k b answers h = refl

named_says : (mounts : List Mount) (free : Option ℕ) (words : Call) (b : Beginning) (answers : List Answer) → list_all is_mount mounts ≡ true → is_free free ≡ true → Words words → is_begun b ≡ true → Answered answers → is_want (named_wants mounts free words b answers) ≡ true
named_says mounts free words b answers m f k begun h = over (is_badly_named mounts words) refl
  where
    over : (x : Bool) → is_badly_named mounts words ≡ x → is_want (cond x (want.Give (reply.No refusal.BadName)) (begun_wants mounts free words b answers)) ≡ true
    over true e = refl
    over false e = begun_says mounts free words b m f e k begun answers h

packed_text : (packed : ℕ → Bool) (w : Want) → is_want w ≡ true → is_want (where_packed packed w) ≡ true
packed_text packed w k = over w k
  where
    by_test : (b : Bool) (y : Want) → is_want y ≡ true → is_want (cond b y (want.Give (reply.No refusal.NoStorage))) ≡ true
    by_test true y h = h
    by_test false y h = refl

    over : (y : Want) → is_want y ≡ true → is_want (where_packed packed y) ≡ true
    over (want.Look f what) h = by_test (packed f.group) (want.Look f what) h
    over (want.Open f how) h = by_test (packed f.group) (want.Open f how) h
    over (want.OpenToMend f) h = by_test (packed f.group) (want.OpenToMend f) h
    over (want.Make g kind set) h = by_test (packed g) (want.Make g kind set) h
    over (want.Do i o) h = h
    over (want.Close i) h = h
    over (want.Give r) h = h
    over want.Never h = h

answered : (answers : List Answer) → list_all is_answer answers ≡ true → Answered answers
answered [] e = tt
answered (a ∷ rest) e = ((both_true (is_answer a) (list_all is_answer rest) e).0, answered rest (both_true (is_answer a) (list_all is_answer rest) e).1)

pub wants_text : (mounts : List Mount) (packed : ℕ → Bool) (free : Option ℕ) (process : ℕ) (words : Call) (b : Beginning) (answers : List Answer) → list_all is_mount mounts ≡ true → is_free free ≡ true → is_words process words ≡ true → is_begun b ≡ true → list_all is_answer answers ≡ true
    → is_want (wants mounts packed free words b answers) ≡ true
wants_text mounts packed free process words b answers m f w begun h = packed_text packed (named_wants mounts free words b answers) (named_says mounts free words b answers m f (words_text process words w) begun (answered answers h))
