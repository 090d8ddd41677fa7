-- Whatever the script of a call wants is of the format.
use Rattle.std.proofs.Common.{◌≡◌, ◌≤◌, ◌<◌, ◌^◌, ℕ, ◌+◌, ◌-◌, min, ◌==◌, Bool, true, false, cond, not, ◌&&◌, List, [], ◌∷◌, length, Option, None, Some, refl, arith}
use Rattle.std.proofs.lemmas.Bool.Decides.{nat_tests}
use Rattle.std.specs.List.{list_all}
use Rattle.std.proofs.Math.Pow.{pow_mono}
use Rattle.std.specs.Prelude.{nat_le, nat_lt}
use Rattle.locus_ids.specs.declared.ids.CallId.{CallId}
use Rattle.locus_ids.specs.declared.config.Config.{Config}
use Rattle.locus_ids.specs.declared.config.Mount.{Mount}
use Rattle.locus_ids.specs.declared.ids.FileId.{FileId}
use Rattle.locus_ids.specs.declared.ids.Kind.{Kind}
use Rattle.locus_ids.specs.declared.ids.Kind.TheVariants.{File, Dir}
use Rattle.locus_ids.specs.declared.ids.Serial.{Serial}
use Rattle.locus_ids.specs.declared.ids.Stamp.{Stamp}
use Rattle.locus_ids.specs.declared.refusal.Refusal.{Refusal}
use Rattle.locus_ids.specs.declared.refusal.Refusal.TheVariants as refusal
use Rattle.locus_ids.specs.declared.sites.Sites.{Sites}
use Rattle.schedule_lines.specs.Ranges.{fits_call, fits_copies, fits_mode, is_byte, is_descriptor, is_site, is_word}
use Rattle.trace_book.specs.Messages.{message_name}
use Rattle.trace_book.specs.Names.{but_last, components, is_name, last_of, plain_name}
use Rattle.trace_book.specs.declared.call.Call.{Call}
use Rattle.trace_book.specs.declared.call.Call.TheVariants as call
use Rattle.trace_book.specs.declared.call.OpenMode.{OpenMode}
use Rattle.trace_book.specs.declared.call.OpenMode.TheVariants as mode
use Rattle.trace_book.specs.declared.descriptor.OneVersion.{OneVersion}
use Rattle.trace_book.specs.declared.descriptor.Beginning.{Beginning}
use Rattle.trace_book.specs.declared.descriptor.Beginning.TheVariants as begins
use Rattle.trace_book.specs.declared.operation.Op.{Op}
use Rattle.trace_book.specs.declared.operation.Op.TheVariants as op
use Rattle.trace_book.specs.declared.operation.Outcome.TheVariants as outcome
use Rattle.trace_book.specs.declared.reply.Reply.{Reply}
use Rattle.trace_book.specs.declared.reply.Reply.TheVariants as reply
use Rattle.call_rules.specs.Closing.{Unchanged, close_all, closes, give_up, gives}
use Rattle.call_rules.specs.Mailing.{tells_name, shown_messages}
use Rattle.call_rules.specs.Making.{after_insert, after_make, fills, after_probe, changes_dir, opens_dir, probes}
use Rattle.call_rules.specs.Mending.{after_mend, brings, mend_wants}
use Rattle.call_rules.specs.Naming.{renames}
use Rattle.call_rules.specs.Opening.{close_wants, describes, lists, op_wants, opens_file, uses_wants, Shows, shown_in}
use Rattle.commit_graph.specs.Versions.{same_stamp}
use Rattle.call_rules.specs.Reopening.{reads_again, reopened, reopens, reopen_wants}
use Rattle.call_rules.specs.Paths.{is_component, is_path, path_bytes_max}
use Rattle.call_rules.specs.Removing.{by_kind, empties, finds, opens_target, removes}
use Rattle.call_rules.specs.Scripts.{begun_wants, named_wants, path_wants, where_packed}
use Rattle.call_rules.specs.Walks.{Asks, Fails, Strays, There, Walked, mounted_in, passes, root_of, walk, walked}
use Rattle.call_rules.specs.Words.{is_mount_name, is_badly_named, names_entry, names_new}
use Rattle.call_rules.specs.declared.answer.Answer.{Answer}
use Rattle.call_rules.specs.declared.answer.Answer.TheVariants as answer
use Rattle.call_rules.specs.declared.want.Want.{Want}
use Rattle.call_rules.specs.declared.want.Want.TheVariants as want
use Rattle.dir_format.specs.Entries.{nothing_seen}
use Rattle.wire_fields.specs.Parts.{inodes, names, sites, some_set, stamps, vectors}
use Rattle.wire_fields.specs.Parts as parts
use Rattle.wire_fields.specs.Operations.{whats}
use Rattle.wire_fields.proofs.Members.{in_range}
use Rattle.wire_messages.specs.Answers.{openings}
use Rattle.role_steps.specs.Own.{Every}
use Rattle.role_steps.specs.Requests.{made_for, opening_of}
use Rattle.packet_laws.specs.Values.Values.{AnswerFits, CallFits, OpFits, PackFits, ScriptsFit, WantFits}
use Rattle.field_codec.specs.Codec.{from_to}
use Rattle.std.specs.Prelude.{IsTrue}
use Rattle.role_steps.proofs.of_plain_facts.Numbers.{at_most, less}
use Rattle.role_steps.proofs.of_plain_facts.Tests.{both_true, not_false}
use Rattle.locus_ids.specs.declared.ids.EpochId.{EpochId}
use Rattle.locus_ids.specs.Sizes.{file_bytes_max, set_span, sites_max}
use Rattle.packet_laws.proofs.Values.Components.{component_fits, name_fits, plain_fits, bare_fits}
use Rattle.packet_laws.proofs.Values.Fields.{ino_fits, kind_fits, size_fits}

abbrev SetIfAny : Option Sites → Type 0
SetIfAny None = Unit {0}
SetIfAny (Some s) = some_set.Fits s

-- what a script wants is of the format, but for the group that it names
abbrev SaysFit : Want → Type 0
SaysFit (want.Look file what) = inodes.Fits file.ino × whats.Fits what
SaysFit (want.Open file m) = inodes.Fits file.ino × (openings false).Fits (opening_of m)
SaysFit (want.OpenToMend file) = inodes.Fits file.ino
SaysFit (want.Make group kind set) = SetIfAny set
SaysFit (want.Do inst o) = OpFits o
SaysFit _ = Unit {0}

-- after answers of the format
abbrev AlwaysFits : (List Answer → Want) → Type 0
AlwaysFits f = (answers : List Answer) → Every AnswerFits answers → SaysFit (f answers)

-- ---- how a call ends ----

gives_fit : (r : Reply) → AlwaysFits (gives r)
gives_fit r [] h = tt
gives_fit r (a ∷ rest) h = tt

closes_fit : (i : Serial) (next : List Answer → Want) → AlwaysFits next → AlwaysFits (closes i next)
closes_fit i next k [] h = tt
closes_fit i next k (answer.Ended stamp ∷ rest) h = k rest h.1
closes_fit i next k (answer.Refused why ∷ rest) h = k rest h.1
closes_fit i next k (_ ∷ rest) h = tt

one_up : (p : Serial) (why : Refusal) → AlwaysFits (give_up (Unchanged p ∷ []) why)
one_up p why = closes_fit p (give_up [] why) (gives_fit (reply.No why))

two_up : (p t : Serial) (why : Refusal) → AlwaysFits (give_up (Unchanged p ∷ Unchanged t ∷ []) why)
two_up p t why = closes_fit p (give_up (Unchanged t ∷ []) why) (one_up t why)

one_closed : (i : Serial) (r : Reply) → AlwaysFits (close_all (i ∷ []) r)
one_closed i r [] h = tt
one_closed i r (answer.Ended stamp ∷ rest) h = gives_fit r rest h.1
one_closed i r (answer.Refused why ∷ rest) h = gives_fit (reply.No why) rest h.1
one_closed i r (_ ∷ rest) h = tt

two_closed : (i j : Serial) (r : Reply) → AlwaysFits (close_all (i ∷ j ∷ []) r)
two_closed i j r [] h = tt
two_closed i j r (answer.Ended stamp ∷ rest) h = one_closed j r rest h.1
two_closed i j r (answer.Refused why ∷ rest) h = closes_fit j (gives (reply.No why)) (gives_fit (reply.No why)) rest h.1
two_closed i j r (_ ∷ rest) h = tt

-- ---- create and mkdir ----

no_vector_fits : parts.no_vector.Fits nothing_seen
no_vector_fits = refl

-- what a new file begins with, if it is written at once
abbrev BytesFit : List ℕ → Type 0
BytesFit [] = Unit {0}
BytesFit (b ∷ bs) = OpFits (op.Write 0 (b ∷ bs))

insert_fits : (p : Serial) (name : List ℕ) (kind : Kind) (ino : ℕ) (told : Reply) → names.Fits name → inodes.Fits ino → AlwaysFits (after_insert p name kind ino told)
insert_fits p name kind ino told n k [] h = ((n, (k, kind_fits kind)), no_vector_fits)
insert_fits p name kind ino told n k (answer.Did o ∷ rest) h = one_closed p told rest h.1
insert_fits p name kind ino told n k (answer.Refused why ∷ rest) h = one_up p why rest h.1
insert_fits p name kind ino told n k (_ ∷ rest) h = tt

make_fits : (p : Serial) (name : List ℕ) (kind : Kind) (made : Serial) (ino : ℕ) (told : Reply) → names.Fits name → inodes.Fits ino → AlwaysFits (after_make p name kind made ino told)
make_fits p name kind made ino told n k [] h = tt
make_fits p name kind made ino told n k (answer.Ended stamp ∷ rest) h = insert_fits p name kind ino told n k rest h.1
make_fits p name kind made ino told n k (answer.Refused why ∷ rest) h = one_up p why rest h.1
make_fits p name kind made ino told n k (_ ∷ rest) h = tt

fills_fits : (p : Serial) (name : List ℕ) (kind : Kind) (bytes : List ℕ) (made : Serial) (ino : ℕ) (told : Reply) → names.Fits name → BytesFit bytes → inodes.Fits ino → AlwaysFits (fills p name kind bytes made ino told)
fills_fits p name kind [] made ino told n w k answers h = make_fits p name kind made ino told n k answers h
fills_fits p name kind (b ∷ bs) made ino told n w k [] h = w
fills_fits p name kind (b ∷ bs) made ino told n w k (answer.Did o ∷ rest) h = make_fits p name kind made ino told n k rest h.1
fills_fits p name kind (b ∷ bs) made ino told n w k (answer.Refused why ∷ rest) h = two_up made p why rest h.1
fills_fits p name kind (b ∷ bs) made ino told n w k (_ ∷ rest) h = tt

probe_fits : (p : Serial) (group : ℕ) (name : List ℕ) (kind : Kind) (set : Option Sites) (bytes : List ℕ) (tells : ℕ → Reply) → names.Fits name → BytesFit bytes → SetIfAny set → AlwaysFits (after_probe p group name kind set bytes tells)
probe_fits p group name kind set bytes tells n w k [] h = k
probe_fits p group name kind set bytes tells n w k (answer.Opened made ino ∷ rest) h = fills_fits p name kind bytes made ino (tells ino) n w h.0 rest h.1
probe_fits p group name kind set bytes tells n w k (answer.Refused why ∷ rest) h = one_up p why rest h.1
probe_fits p group name kind set bytes tells n w k (_ ∷ rest) h = tt

probes_fit : (p : Serial) (group : ℕ) (name : List ℕ) (kind : Kind) (set : Option Sites) (bytes : List ℕ) (tells : ℕ → Reply) → parts.components.Fits name → names.Fits name → BytesFit bytes → SetIfAny set → AlwaysFits (probes p group name kind set bytes tells)
probes_fit p group name kind set bytes tells c n w k [] h = (c, no_vector_fits)
probes_fit p group name kind set bytes tells c n w k (answer.Did o ∷ rest) h = probe_fits p group name kind set bytes tells n w k rest h.1
probes_fit p group name kind set bytes tells c n w k (answer.Refused why ∷ rest) h = one_up p why rest h.1
probes_fit p group name kind set bytes tells c n w k (_ ∷ rest) h = tt

-- ---- unlink and rmdir ----

removes_fit : (p t : Serial) (name : List ℕ) (ino : ℕ) → names.Fits name → inodes.Fits ino → AlwaysFits (removes p t name ino)
removes_fit p t name ino n k [] h = λ vector v. ((n, k), v)
removes_fit p t name ino n k (answer.Did o ∷ rest) h = two_closed p t reply.Done rest h.1
removes_fit p t name ino n k (answer.Refused why ∷ rest) h = two_up p t why rest h.1
removes_fit p t name ino n k (_ ∷ rest) h = tt

empties_fit : (kind : Kind) (p t : Serial) (name : List ℕ) (ino : ℕ) → names.Fits name → inodes.Fits ino → AlwaysFits (empties kind p t name ino)
empties_fit File p t name ino n k answers h = removes_fit p t name ino n k answers h
empties_fit Dir p t name ino n k [] h = no_vector_fits
empties_fit Dir p t name ino n k (answer.Did o ∷ rest) h = removes_fit p t name ino n k rest h.1
empties_fit Dir p t name ino n k (answer.Refused why ∷ rest) h = two_up p t why rest h.1
empties_fit Dir p t name ino n k (_ ∷ rest) h = tt

write_opens : (openings false).Fits (opening_of mode.Write)
write_opens = ((refl, omega arith), ((refl, omega arith), ((refl, omega arith), (refl, omega arith))))

target_fits : (kind : Kind) (p : Serial) (group : ℕ) (name : List ℕ) (ino : ℕ) → names.Fits name → inodes.Fits ino → AlwaysFits (opens_target kind p group name ino)
target_fits kind p group name ino n k [] h = (k, write_opens)
target_fits kind p group name ino n k (answer.Opened t found ∷ rest) h = empties_fit kind p t name ino n k rest h.1
target_fits kind p group name ino n k (answer.Refused why ∷ rest) h = one_up p why rest h.1
target_fits kind p group name ino n k (_ ∷ rest) h = tt

kind_of_fits : (asked found : Kind) (p : Serial) (group : ℕ) (component : List ℕ) (ino : ℕ) → names.Fits (plain_name component) → inodes.Fits ino → AlwaysFits (by_kind asked found p group component ino)
kind_of_fits File File p group component ino n k answers h = target_fits File p group (plain_name component) ino n k answers h
kind_of_fits Dir Dir p group component ino n k answers h = target_fits Dir p group (plain_name component) ino n k answers h
kind_of_fits File Dir p group component ino n k answers h = one_up p refusal.IsDir answers h
kind_of_fits Dir File p group component ino n k answers h = one_up p (refusal.NotDir component) answers h

finds_fit : (kind : Kind) (p : Serial) (group : ℕ) (component : List ℕ) → parts.components.Fits component → names.Fits (plain_name component) → AlwaysFits (finds kind p group component)
finds_fit kind p group component c n [] h = (c, no_vector_fits)
finds_fit kind p group component c n (answer.Did (outcome.Found ino found) ∷ rest) h = kind_of_fits kind found p group component ino n h.0 rest h.1
finds_fit kind p group component c n (answer.Refused why ∷ rest) h = one_up p why rest h.1
finds_fit kind p group component c n (_ ∷ rest) h = tt

-- ---- rename ----

renames_fit : (p : Serial) (component name : List ℕ) → parts.components.Fits component → names.Fits name → AlwaysFits (renames p component name)
renames_fit p component name c n [] h = ((c, n), no_vector_fits)
renames_fit p component name c n (answer.Did o ∷ rest) h = one_closed p reply.Done rest h.1
renames_fit p component name c n (answer.Refused why ∷ rest) h = one_up p why rest h.1
renames_fit p component name c n (_ ∷ rest) h = tt

-- ---- calls of one request ----

lists_fit : (shows : Shows) (reached : List ℕ) (at : FileId) (kind : Kind) → inodes.Fits at.ino → AlwaysFits (lists shows reached at kind)
lists_fit shows reached at File k answers h = tt
lists_fit shows reached at Dir k [] h = (k, tt)
lists_fit shows reached at Dir k (answer.Showed _ ∷ []) h = tt
lists_fit shows reached at Dir k (answer.Refused why ∷ []) h = tt
lists_fit shows reached at Dir k (_ ∷ rest) h = tt

describes_fit : (at : FileId) (kind : Kind) → inodes.Fits at.ino → AlwaysFits (describes at kind)
describes_fit at kind k [] h = (k, tt)
describes_fit at kind k (answer.Described x size stamp ∷ []) h = tt
describes_fit at kind k (answer.Refused why ∷ []) h = tt
describes_fit at kind k (_ ∷ rest) h = tt

opens_fit : (m : OpenMode) (free : Option ℕ) (file : FileId) (kind : Kind) → (openings false).Fits (opening_of m) → inodes.Fits file.ino → AlwaysFits (opens_file m free file kind)
opens_fit m free file Dir o k answers h = tt
opens_fit m free file File o k [] h = (k, o)
opens_fit m (Some fd) file File o k (answer.Opened i ino ∷ []) h = tt
opens_fit m (Some fd) file File o k (answer.Reading i version ∷ []) h = tt
opens_fit m free file File o k (answer.Refused why ∷ []) h = tt
opens_fit m free file File o k (_ ∷ rest) h = tt

op_fits : (i : Serial) (o : Op) → OpFits o → AlwaysFits (op_wants i o)
op_fits i o k [] h = k
op_fits i o k (answer.Did result ∷ []) h = tt
op_fits i o k (answer.Refused why ∷ []) h = tt
op_fits i o k (_ ∷ rest) h = tt

close_fits : (i : Serial) → AlwaysFits (close_wants i)
close_fits i [] h = tt
close_fits i (answer.Ended stamp ∷ []) h = tt
close_fits i (answer.Refused why ∷ []) h = tt
close_fits i (_ ∷ rest) h = tt

-- ---- mends ----

after_mend_fits : (i : Serial) → AlwaysFits (after_mend i)
after_mend_fits i [] h = no_vector_fits
after_mend_fits i (answer.Did o ∷ rest) h = close_fits i rest h.1
after_mend_fits i (answer.Refused why ∷ rest) h = one_up i why rest h.1
after_mend_fits i (_ ∷ rest) h = tt

brings_fit : (i : Serial) (file : FileId) (ss : List Stamp) → inodes.Fits file.ino → Every stamps.Fits ss → AlwaysFits (brings i file ss)
brings_fit i file [] k s answers h = after_mend_fits i answers h
brings_fit i file (stamp ∷ ss) k s [] h = (k, s.0)
brings_fit i file (stamp ∷ ss) k s (answer.Brought ∷ rest) h = brings_fit i file ss k s.1 rest h.1
brings_fit i file (stamp ∷ ss) k s (answer.Refused why ∷ rest) h = one_up i why rest h.1
brings_fit i file (stamp ∷ ss) k s (_ ∷ rest) h = tt

mend_fits : (file : FileId) → inodes.Fits file.ino → AlwaysFits (mend_wants file)
mend_fits file k [] h = k
mend_fits file k (answer.Merging i kept ∷ rest) h = brings_fit i file kept k h.0 rest h.1
mend_fits file k (answer.Refused why ∷ []) h = tt
mend_fits file k (_ ∷ rest) h = tt

-- ---- walks ----

abbrev WalkedFits : Walked → Type 0
WalkedFits (Asks dir c) = inodes.Fits dir.ino × parts.components.Fits c
WalkedFits (There at kind rest) = inodes.Fits at.ino × Every AnswerFits rest
WalkedFits _ = Unit {0}

passes_fit : (further : FileId → Kind → List Answer → Walked) (dir : FileId) (c : List ℕ) (o : Option ℕ) (answers : List Answer) → ((f : FileId) (k : Kind) (rest : List Answer) → inodes.Fits f.ino → Every AnswerFits rest → WalkedFits (further f k rest)) → inodes.Fits dir.ino → parts.components.Fits c → Every AnswerFits answers → WalkedFits (passes further dir c o answers)
passes_fit further dir c (Some group) answers go k n h = go (root_of group) Dir answers (ino_fits 1 (omega arith) (omega arith)) h
passes_fit further dir c None [] go k n h = (k, n)
passes_fit further dir c None (answer.Entered ino kind ∷ rest) go k n h = go (record { group = dir.group; ino = ino }) kind rest h.0 h.1
passes_fit further dir c None (answer.Refused why ∷ rest) go k n h = tt
passes_fit further dir c None (_ ∷ rest) go k n h = tt

walk_fits : (mounts : List Mount) (cs : List (List ℕ)) (reached : List ℕ) (at : FileId) (kind : Kind) (answers : List Answer) → Every parts.components.Fits cs → inodes.Fits at.ino → Every AnswerFits answers → WalkedFits (walk mounts cs reached at kind answers)
walk_fits mounts [] reached at kind answers n k h = (k, h)
walk_fits mounts (c ∷ cs) reached at File answers n k h = tt
walk_fits mounts (c ∷ cs) reached at Dir answers n k h = passes_fit (walk mounts cs c) at c (mounted_in mounts at c) answers (λ f x rest i a. walk_fits mounts cs c f x rest n.1 i a) k n.0 h

walked_fits : (mounts : List Mount) (path : List (List ℕ)) (after : FileId → Kind → List Answer → Want) → Every parts.components.Fits path → ((at : FileId) (kind : Kind) → inodes.Fits at.ino → AlwaysFits (after at kind)) → AlwaysFits (λ answers. walked mounts path answers after)
walked_fits mounts path after n go answers h = over (walk mounts path [] (root_of 0) Dir answers) refl (walk_fits mounts path [] (root_of 0) Dir answers n (ino_fits 1 (omega arith) (omega arith)) h)
  where
    over : (w : Walked) → walk mounts path [] (root_of 0) Dir answers ≡ w → WalkedFits (walk mounts path [] (root_of 0) Dir answers) → SaysFit (walked mounts path answers after)
    over (Asks dir c) e = rw e (λ f. f)
    over (Fails why) e = rw e (λ f. tt)
    over (There at kind rest) e = rw e (λ f. go at kind f.0 rest f.1)
    over Strays e = rw e (λ f. tt)

dir_fits : (reached : List ℕ) (next : Serial → List Answer → Want) → ((p : Serial) → AlwaysFits (next p)) → (dir : FileId) (kind : Kind) → inodes.Fits dir.ino → AlwaysFits (opens_dir reached next dir kind)
dir_fits reached next go dir File k answers h = tt
dir_fits reached next go dir Dir k [] h = (k, write_opens)
dir_fits reached next go dir Dir k (answer.Opened p ino ∷ rest) h = go p rest h.1
dir_fits reached next go dir Dir k (answer.Refused why ∷ rest) h = tt
dir_fits reached next go dir Dir k (_ ∷ rest) h = tt

change_fits : (mounts : List Mount) (path : List ℕ) (next : ℕ → Serial → List Answer → Want) → Every parts.components.Fits (but_last (components path)) → ((group : ℕ) (p : Serial) → AlwaysFits (next group p)) → AlwaysFits (changes_dir mounts path next)
change_fits mounts path next n go = walked_fits mounts (but_last (components path)) _ n (λ dir kind k. dir_fits (last_of (but_last (components path))) (next dir.group) (go dir.group) dir kind k)

-- ---- paths ----

all_fit : (cs : List (List ℕ)) → list_all is_component cs ≡ true → Every parts.components.Fits cs
all_fit [] e = tt
all_fit (c ∷ cs) e = (component_fits c (both_true (is_component c) (list_all is_component cs) e).0, all_fit cs (both_true (is_component c) (list_all is_component cs) e).1)

path_fits : (path : List ℕ) → is_path path ≡ true → Every parts.components.Fits (components path)
path_fits [] e = absurd (cc)
path_fits (c ∷ rest) e = all_fit (components (c ∷ rest)) (both_true (nat_le (length (components (c ∷ rest))) 32) _ (both_true (nat_le (length (c ∷ rest)) path_bytes_max) _ (both_true (c == 47) _ e).1).1).1

less_fit : (cs : List (List ℕ)) → Every parts.components.Fits cs → Every parts.components.Fits (but_last cs)
less_fit [] h = tt
less_fit (c ∷ []) h = tt
less_fit (c ∷ d ∷ cs) h = (h.0, less_fit (d ∷ cs) h.1)

some_more : (d : List ℕ) (cs : List (List ℕ)) → nat_lt 0 (length (d ∷ cs)) ≡ true
some_more d cs = grind (arith, nat_tests)

last_fits : (cs : List (List ℕ)) → nat_lt 0 (length cs) ≡ true → Every parts.components.Fits cs → parts.components.Fits (last_of cs)
last_fits [] e h = absurd (cc)
last_fits (c ∷ []) e h = h.0
last_fits (c ∷ d ∷ cs) e h = last_fits (d ∷ cs) (some_more d cs) h.1

-- ---- ranges of words ----

positive : (x : ℕ) → nat_lt 0 x ≡ true → 1 ≤ x
positive x e = grind (arith, nat_tests)

power_most : (k : ℕ) → k ≤ sites_max → 2 ^ k ≤ set_span
power_most k le = pow_mono le

site_range : (n site : ℕ) → is_site n site ≡ true → (1 ≤ site) × (site ≤ sites_max)
site_range n site e = let k : (nat_le 1 site ≡ true) × (nat_le site (min n sites_max) ≡ true) = both_true (nat_le 1 site) (nat_le site (min n sites_max)) e in let high : site ≤ min n sites_max = at_most site (min n sites_max) k.1 in (at_most 1 site k.0, omega (arith, high))

site_in : (n site : ℕ) → is_site n site ≡ true → IsTrue (from_to 1 sites_max site)
site_in n site e = in_range 1 sites_max site (site_range n site e).0 (site_range n site e).1

site_low : (n site : ℕ) → is_site n site ≡ true → site < 2 ^ 8
site_low n site e = let high : site ≤ sites_max = (site_range n site e).1 in omega (arith, high)

read_op : (n fd at len : ℕ) → fits_call n (call.Read fd at len) ≡ true → OpFits (op.Read at len)
read_op n fd at len e = of (at_most at file_bytes_max (mid (is_descriptor fd) (nat_le at file_bytes_max) (nat_le len 4096) e).0) (at_most len 4096 (mid (is_descriptor fd) (nat_le at file_bytes_max) (nat_le len 4096) e).1)
  where
    mid : (a b x : Bool) → (a && b && x) ≡ true → (b ≡ true) × (x ≡ true)
    mid true true true e = (refl, refl)
    mid true true false e = absurd (cc)
    mid true false x e = absurd (cc)
    mid false b x e = absurd (cc)

    of : at ≤ file_bytes_max → len ≤ 4096 → OpFits (op.Read at len)
    of a l = ((size_fits at a, (in_range 0 4096 len (omega arith) l, omega (arith, l))), refl)

write_op : (at : ℕ) (bytes : List ℕ) → (1 ≤ length bytes) × (length bytes ≤ 4096) × (at + length bytes ≤ file_bytes_max) → OpFits (op.Write at bytes)
write_op at bytes k = ((size_fits at (omega (arith, k.2)), (in_range 1 (min 4096 (file_bytes_max - at)) (length bytes) k.0 (omega (arith, k.1, k.2)), omega (arith, k.1))), refl)

cut_op : (n fd len : ℕ) → fits_call n (call.Cut fd len) ≡ true → OpFits (op.Cut len)
cut_op n fd len e = (size_fits len (at_most len file_bytes_max (both_true (is_descriptor fd) (nat_le len file_bytes_max) e).1), refl)

-- ---- calls ----

-- a path whose last component may be an entry's
pub record EntryFits (path : List ℕ) : Type 0 where
  pub dirs : Every parts.components.Fits (but_last (components path))
  pub last : parts.components.Fits (last_of (components path))

entry_fits : (mounts : List Mount) (path : List ℕ) → names_entry mounts path ≡ true → EntryFits path
entry_fits mounts path e =
    let is : (is_path path ≡ true) × _ = both_true (is_path path) _ e in
    let n : Every parts.components.Fits (components path) = path_fits path is.0 in
    record { dirs = less_fit (components path) n; last = last_fits (components path) (both_true (nat_lt 0 (length (components path))) _ is.1).0 n }

new_parts : (mounts : List Mount) (path : List ℕ) → not (names_new mounts path) ≡ false → EntryFits path × names.Fits (last_of (components path))
new_parts mounts path e = let k : (names_entry mounts path ≡ true) × (is_name (last_of (components path)) ≡ true) = both_true (names_entry mounts path) (is_name (last_of (components path))) (not_false (names_new mounts path) e) in (entry_fits mounts path k.0, name_fits (last_of (components path)) k.1)

set_fits : (n : ℕ) (set : Option Sites) → fits_copies n set ≡ true → SetIfAny set
set_fits n None e = tt
set_fits n (Some s) e = some_of s.0 (2 ^ min n sites_max) (power_most (min n sites_max) (omega arith)) (both_true (nat_lt 0 s.0) (nat_lt s.0 (2 ^ min n sites_max)) e)
  where
    some_of : (x most : ℕ) → most ≤ set_span → (nat_lt 0 x ≡ true) × (nat_lt x most ≡ true) → IsTrue (from_to 1 (set_span - 1) x) × (x < set_span)
    some_of x most le e = let low : 1 ≤ x = positive x e.0 in let high : x < most = less x most e.1 in (in_range 1 (set_span - 1) x low (omega (arith, high, le)), omega (arith, high, le))

read_opens : (openings false).Fits (opening_of mode.Read)
read_opens = ((refl, omega arith), ((refl, omega arith), ((refl, omega arith), (refl, omega arith))))

mode_fits : (n : ℕ) (m : OpenMode) → fits_mode n m ≡ true → (openings false).Fits (opening_of m)
mode_fits n mode.Read e = read_opens
mode_fits n mode.Steady e = read_opens
mode_fits n mode.Write e = write_opens
mode_fits n (mode.Resolve site) e = ((refl, omega arith), ((site_in n site e, site_low n site e), ((refl, omega arith), (refl, omega arith))))

-- the message's name isn't of the call's words
abbrev NoMail : Call → Type 0
NoMail (call.Mail path bytes) = ⊥
NoMail _ = Unit {0}

mailed_fits : (n : ℕ) (path bytes : List ℕ) → fits_call n (call.Mail path bytes) ≡ true → BytesFit bytes
mailed_fits n path [] h = tt
mailed_fits n path (b ∷ bs) h = write_op 0 (b ∷ bs) (of (both_true (nat_le 1 (length (b ∷ bs))) (nat_le (length (b ∷ bs)) 4096) (middle (is_word path) (nat_le 1 (length (b ∷ bs)) && nat_le (length (b ∷ bs)) 4096) (list_all is_byte (b ∷ bs)) h)))
  where
    middle : (a x d : Bool) → (a && x && d) ≡ true → x ≡ true
    middle a true d h = refl
    middle true false d h = absurd (cc)
    middle false false d h = absurd (cc)

    low : nat_le 1 (length (b ∷ bs)) ≡ true → 1 ≤ length (b ∷ bs)
    low e = grind (arith, nat_tests)

    high : nat_le (length (b ∷ bs)) 4096 ≡ true → length (b ∷ bs) ≤ 4096
    high e = grind (arith, nat_tests)

    of : (nat_le 1 (length (b ∷ bs)) ≡ true) × (nat_le (length (b ∷ bs)) 4096 ≡ true) → (1 ≤ length (b ∷ bs)) × (length (b ∷ bs) ≤ 4096) × (0 + length (b ∷ bs) ≤ file_bytes_max)
    of e = (low e.0, high e.1, omega (arith, high e.1))

path_says : (mounts : List Mount) (free : Option ℕ) (n : ℕ) (id : CallId) (words : Call) → NoMail words → is_badly_named mounts words ≡ false → fits_call n words ≡ true → AlwaysFits (path_wants mounts free id words)
path_says mounts free n id (call.Create path set) plain named fits = let k = new_parts mounts path named in change_fits mounts path _ k.0.dirs (λ group p. probes_fit p group (last_of (components path)) File set [] reply.Made k.0.last k.1 tt (set_fits n set (both_true (is_word path) (fits_copies n set) fits).1))
path_says mounts free n id (call.MakeDir path) plain named fits = let k = new_parts mounts path named in change_fits mounts path _ k.0.dirs (λ group p. probes_fit p group (last_of (components path)) Dir None [] reply.Made k.0.last k.1 tt tt)
path_says mounts free n id (call.Unlink path) plain named fits = let k = entry_fits mounts path (not_false (names_entry mounts path) named) in change_fits mounts path _ k.dirs (λ group p. finds_fit File p group (last_of (components path)) k.last (plain_fits (last_of (components path)) k.last))
path_says mounts free n id (call.RemoveDir path) plain named fits = let k = entry_fits mounts path (not_false (names_entry mounts path) named) in change_fits mounts path _ k.dirs (λ group p. finds_fit Dir p group (last_of (components path)) k.last (plain_fits (last_of (components path)) k.last))
path_says mounts free n id (call.Rename path name) plain named fits =
    let e : (names_entry mounts path ≡ true) × _ = both_true (names_entry mounts path) _ (not_false (names_entry mounts path && (is_name name && not (is_mount_name mounts path name))) named) in
    let k : EntryFits path = entry_fits mounts path e.0 in
    change_fits mounts path _ k.dirs (λ group p. renames_fit p (last_of (components path)) name k.last (name_fits name (both_true (is_name name) _ e.1).0))
path_says mounts free n id (call.List path) plain named fits = walked_fits mounts (components path) _ (path_fits path (not_false (is_path path) named)) (λ at kind k. lists_fit (shown_in mounts) (last_of (components path)) at kind k)
path_says mounts free n id (call.Mails path) plain named fits = walked_fits mounts (components path) _ (path_fits path (not_false (is_path path) named)) (λ at kind k. lists_fit shown_messages (last_of (components path)) at kind k)
path_says mounts free n id (call.Stat path) plain named fits = walked_fits mounts (components path) describes (path_fits path (not_false (is_path path) named)) (λ at kind k. describes_fit at kind k)
path_says mounts free n id (call.Open path m) plain named fits = walked_fits mounts (components path) _ (path_fits path (not_false (is_path path) named)) (λ at kind k. opens_fit m free at kind (mode_fits n m (both_true (is_word path) (fits_mode n m) fits).1) k)
path_says mounts free n id (call.Mail path bytes) plain named fits = absurd plain
path_says mounts free n id (call.Mend file) plain named fits = absurd (cc)
path_says mounts free n id _ plain named fits = λ answers h. tt

uses_says : (c : Config) (words : Call) (e : EpochId) (i : Serial) → CallFits c words (begins.Uses e i) → AlwaysFits (uses_wants words i)
uses_says c (call.Read fd at len) e i k = op_fits i (op.Read at len) (read_op c.sites fd at len k)
uses_says c (call.Write fd at bytes) e i k = op_fits i (op.Write at bytes) (write_op at bytes k)
uses_says c (call.Cut fd len) e i k = op_fits i (op.Cut len) (cut_op c.sites fd len k)
uses_says c (call.Commit fd) e i k = op_fits i op.Commit no_vector_fits
uses_says c (call.Abort fd) e i k = op_fits i op.Abort no_vector_fits
uses_says c (call.Close fd) e i k = close_fits i
uses_says c _ e i k = λ answers h. tt

walks_says : (c : Config) (free : Option ℕ) (id : CallId) (words : Call) → is_badly_named c.mounts words ≡ false → CallFits c words (begins.Walks id) → AlwaysFits (path_wants c.mounts free id words)
walks_says c free id (call.Mend file) named k = mend_fits file k.1
walks_says c free id (call.Create path set) named k = path_says c.mounts free c.sites id (call.Create path set) tt named k
walks_says c free id (call.MakeDir path) named k = path_says c.mounts free c.sites id (call.MakeDir path) tt named k
walks_says c free id (call.Unlink path) named k = path_says c.mounts free c.sites id (call.Unlink path) tt named k
walks_says c free id (call.RemoveDir path) named k = path_says c.mounts free c.sites id (call.RemoveDir path) tt named k
walks_says c free id (call.Rename path name) named k = path_says c.mounts free c.sites id (call.Rename path name) tt named k
walks_says c free id (call.List path) named k = path_says c.mounts free c.sites id (call.List path) tt named k
walks_says c free id (call.Stat path) named k = path_says c.mounts free c.sites id (call.Stat path) tt named k
walks_says c free id (call.Mail path bytes) named k = walked_fits c.mounts (components path) _ (path_fits path (not_false (is_path path) named))
    (λ dir kind i. dir_fits (last_of (components path)) (λ p more. probes p dir.group (message_name id) File None bytes (tells_name (message_name id)) more) (λ p. probes_fit p dir.group (message_name id) File None bytes (tells_name (message_name id)) (bare_fits (message_name id) k.1) (name_fits (message_name id) k.1) (mailed_fits c.sites path bytes k.0) tt) dir kind i)
walks_says c free id (call.Mails path) named k = path_says c.mounts free c.sites id (call.Mails path) tt named k
walks_says c free id (call.Open path m) named k = path_says c.mounts free c.sites id (call.Open path m) tt named k
walks_says c free id _ named k = λ answers h. tt

reads_again_fit : (i : Serial) (at len : ℕ) → OpFits (op.Read at len) → AlwaysFits (reads_again i at len)
reads_again_fit i at len k [] h = k
reads_again_fit i at len k (answer.Did result ∷ []) h = tt
reads_again_fit i at len k (answer.Refused why ∷ rest) h = one_up i why rest h.1
reads_again_fit i at len k (_ ∷ rest) h = tt

reopened_fit : (kept granted : OneVersion) (last : EpochId) (at len : ℕ) (i : Serial) → OpFits (op.Read at len) → AlwaysFits (reopened kept last at len i granted)
reopened_fit kept granted last at len i k answers h = over (same_stamp granted.stamp kept.stamp)
  where
    over : (b : Bool) → SaysFit (cond b (reads_again i at len answers) (give_up (Unchanged i ∷ []) (refusal.Stale last) answers))
    over true = reads_again_fit i at len k answers h
    over false = one_up i (refusal.Stale last) answers h

reopens_fit : (kept : OneVersion) (last : EpochId) (at len : ℕ) → OpFits (op.Read at len) → inodes.Fits kept.file.ino → AlwaysFits (reopens kept last at len)
reopens_fit kept last at len k f [] h = (f, read_opens)
reopens_fit kept last at len k f (answer.Reading i granted ∷ rest) h = reopened_fit kept granted last at len i k rest h.1
reopens_fit kept last at len k f (answer.Refused why ∷ []) h = tt
reopens_fit kept last at len k f (_ ∷ rest) h = tt

reopen_says : (c : Config) (words : Call) (kept : OneVersion) (last : EpochId) → CallFits c words (begins.Reopens kept last) → AlwaysFits (reopen_wants words kept last)
reopen_says c (call.Read fd at len) kept last k = reopens_fit kept last at len (read_op c.sites fd at len k.0) k.1.1
reopen_says c _ kept last k = λ answers h. tt

begun_says : (c : Config) (free : Option ℕ) (words : Call) (b : Beginning) → is_badly_named c.mounts words ≡ false → CallFits c words b → AlwaysFits (begun_wants c.mounts free words b)
begun_says c free words (begins.Denied why) named k answers h = tt
begun_says c free words (begins.Uses e i) named k answers h = uses_says c words e i k answers h
begun_says c free words (begins.Walks id) named k answers h = walks_says c free id words named k answers h
begun_says c free words (begins.Reopens kept last) named k answers h = reopen_says c words kept last k answers h
begun_says c free words begins.Frees named k answers h = tt

named_says : (c : Config) (free : Option ℕ) (words : Call) (b : Beginning) (answers : List Answer) → CallFits c words b → Every AnswerFits answers → SaysFit (named_wants c.mounts free words b answers)
named_says c free words b answers k h = over (is_badly_named c.mounts words) refl
  where
    over : (x : Bool) → is_badly_named c.mounts words ≡ x → SaysFit (cond x (want.Give (reply.No refusal.BadName)) (begun_wants c.mounts free words b answers))
    over true e = tt
    over false e = begun_says c free words b e k answers h

-- ---- with the group ----

set_made : (c : Config) (group : ℕ) (set : Option Sites) → PackFits c group → SetIfAny set → some_set.Fits (made_for c group set)
set_made c group None p k = p.1
set_made c group (Some s) p k = k

packed_fits : (c : Config) (packed : ℕ → Bool) (w : Want) → ((group : ℕ) → packed group ≡ true → PackFits c group) → SaysFit w → WantFits c (where_packed packed w)
packed_fits c packed w packs k = over w k
  where
    by_test : (group : ℕ) (y : Want) → (PackFits c group → WantFits c y) → (b : Bool) → packed group ≡ b → WantFits c (cond b y (want.Give (reply.No refusal.NoStorage)))
    by_test group y go true e = go (packs group e)
    by_test group y go false e = tt

    over : (y : Want) → SaysFit y → WantFits c (where_packed packed y)
    over (want.Look f w) k = by_test f.group (want.Look f w) (λ p. ((p.0, k.0), k.1)) (packed f.group) refl
    over (want.Open f m) k = by_test f.group (want.Open f m) (λ p. ((p.0, k.0), k.1)) (packed f.group) refl
    over (want.OpenToMend f) k = by_test f.group (want.OpenToMend f) (λ p. (p.0, k)) (packed f.group) refl
    over (want.Make g kind set) k = by_test g (want.Make g kind set) (λ p. (p.0, set_made c g set p k)) (packed g) refl
    over (want.Do i o) k = k
    over (want.Close i) k = tt
    over (want.Give r) k = tt
    over want.Never k = tt

pub scripts_fit : (c : Config) → ScriptsFit c
scripts_fit c packed free words b answers packs k h = packed_fits c packed (named_wants c.mounts free words b answers) packs (named_says c free words b answers k h)
