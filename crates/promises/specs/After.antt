-- What becomes of the past by the next record.
use Rattle.std.specs.Prelude.{ℕ, ◌+◌, ◌-◌, ◌==◌, Bool, true, false, not, ◌&&◌, ◌||◌, cond, nat_lt, List, [], ◌∷◌, ◌++◌, filter, map, take, sum_by, fold, Option, None, Some}
use Rattle.std.specs.List.{list_any}
use Rattle.locus_ids.specs.declared.config.Config.{Config}
use Rattle.locus_ids.specs.declared.sites.Members.{Members}
use Rattle.locus_ids.specs.declared.ids.FileId.{FileId}
use Rattle.locus_ids.specs.declared.ids.Stamp.{Stamp}
use Rattle.locus_ids.specs.declared.ids.EpochId.{EpochId}
use Rattle.locus_ids.specs.declared.ids.CallId.{CallId}
use Rattle.locus_ids.specs.declared.ids.Serial.{Serial}
use Rattle.locus_ids.specs.declared.refusal.Refusal.TheVariants.{Changed, Spent}
use Rattle.commit_graph.specs.Versions.{same_file, content_of, is_stamp_below}
use Rattle.trace_book.specs.Same.{same_epoch, same_call}
use Rattle.trace_book.specs.declared.record.Record.{Record}
use Rattle.trace_book.specs.declared.record.Record.TheVariants as rec
use Rattle.trace_book.specs.declared.call.Call.{Call}
use Rattle.trace_book.specs.declared.call.Call.TheVariants as call
use Rattle.commit_graph.specs.declared.history.Version.{Version}
use Rattle.trace_book.specs.declared.descriptor.Beginning.{Beginning}
use Rattle.trace_book.specs.declared.descriptor.Descriptor.{Descriptor}
use Rattle.trace_book.specs.declared.operation.Op.{Op}
use Rattle.trace_book.specs.declared.operation.Op.TheVariants as op
use Rattle.trace_book.specs.declared.operation.Outcome.TheVariants as outcome
use Rattle.trace_book.specs.declared.operation.Outcome.{Outcome}
use Rattle.trace_book.specs.declared.operation.What.{What}
use Rattle.trace_book.specs.declared.operation.Served.{Served}
use Rattle.trace_book.specs.declared.operation.Served.TheVariants as served
use Rattle.trace_book.specs.declared.reply.Reply.{Reply}
use Rattle.trace_book.specs.declared.reply.Reply.TheVariants as reply
use Rattle.lawful_trace.specs.of_file_effects.Works.{begun, committed}
use Rattle.lawful_trace.specs.of_call_rules.declared.answer.Answer.{Answer}
use Rattle.lawful_trace.specs.of_call_rules.declared.answer.Answer.TheVariants.{Refused, Ended}
use Rattle.lawful_trace.specs.of_call_rules.Descriptors.{beginning, lowest_free}
use Rattle.lawful_trace.specs.of_call_rules.Opening.{is_steady}
use Rattle.lawful_trace.specs.of_tree_model.declared.instance.Granted.{Granted}
use Rattle.lawful_trace.specs.of_tree_model.Calls.{version_at}
use Rattle.lawful_trace.specs.of_tree_model.Epochs.{is_in}
use Rattle.lawful_trace.specs.of_tree_model.Files.{kind_made}
use Rattle.lawful_trace.specs.of_tree_model.Opening.{sites_made}
use Rattle.lawful_trace.specs.of_tree_model.Packs.{packs_of}
use Rattle.lawful_trace.specs.of_tree_model.State.{is_make}
use Rattle.lawful_trace.specs.of_tree_model.Histories.{stamped_content}
use Rattle.lawful_trace.specs.of_tree_model.Working.{list_of}
use Rattle.lawful_trace.specs.Progress.{found_in, granted_answer, outcome_answer}
use Rattle.lawful_trace.specs.CallRows.{ends_mending}
use Rattle.promises.specs.Past.{Past, Site, Epoch, Instance, CallSoFar, Copy, Named, Make, Making, Last, Leaving, Accepting, Another, site_at, epoch_at, unformed, making_of, kept_in, is_named, is_writer, is_close, is_on, acts, ends, table}
use Rattle.promises.specs.Tree.{work_after}

-- Changes of a part.

-- the list with each that passes changed
abbrev pub change : {X : Type 0} → (X → Bool) → (X → X) → List X → List X
change p f xs = map (λ x. cond (p x) (f x) x) xs

abbrev pub change_site : ℕ → (Site → Site) → Past → Past
change_site site f p = record p { sites = change (λ (s : Site). s.number == site) f p.sites }

abbrev pub change_epoch : (Epoch → Bool) → (Epoch → Epoch) → Past → Past
change_epoch which f p = record p { epochs = change which f p.epochs }

abbrev pub is_epoch : EpochId → Epoch → Bool
is_epoch e t = same_epoch t.id e

-- the site is in this epoch
abbrev pub is_home_of : Past → ℕ → Epoch → Bool
is_home_of p site t = is_in (site_at p site).epoch t.id

-- Versions.

-- versions ascend by group, inode and stamp, and each stands once
abbrev pub is_copy_below : Copy → Copy → Bool
is_copy_below a b = nat_lt a.file.group b.file.group || ((a.file.group == b.file.group) && (nat_lt a.file.ino b.file.ino || ((a.file.ino == b.file.ino) && is_stamp_below a.stamp b.stamp)))

abbrev pub with_known : Copy → List Copy → List Copy
with_known new [] = new ∷ []
with_known new (v ∷ vs) = cond (is_copy_below new v) (new ∷ v ∷ vs) (cond (is_copy_below v new) (v ∷ with_known new vs) (v ∷ vs))

abbrev pub with_all_known : List Copy → List Copy → List Copy
with_all_known news known = fold (λ old v. with_known v old) known news

-- a site has this version of its file in place of another
abbrev pub has_now : ℕ → Copy → Past → Past
has_now site new p = change_site site (λ (s : Site). record s { held = new ∷ filter (λ (v : Copy). not (same_file v.file new.file)) s.held }) p

-- Sites come and go.

-- a site leaves the epoch that it is in, if it is in one, which keeps what the site has
abbrev pub departed : ℕ → Past → Past
departed site p = change_site site (λ (s : Site). record s { epoch = None })
    (change_epoch (is_home_of p site) (λ (t : Epoch). record t { left = record { site = site; held = (site_at p site).held } ∷ t.left }) p)

-- a stopped site has no descriptors, and none of its calls waits
abbrev pub stopped : ℕ → Past → Past
stopped site p = change_site site (λ (s : Site). record s { up = false; descriptors = [] })
    (record (departed site p) { calls = change (λ (k : CallSoFar). k.id.site == site) (λ (k : CallSoFar). record k { waits = false }) p.calls })

-- the epoch is there from its first join on, with the members that this lists
abbrev pub with_epoch : EpochId → Members → Past → Past
with_epoch e members p = cond (list_any (is_epoch e) p.epochs) p (record p { epochs = record (unformed e) { members = members } ∷ p.epochs })

-- a site joins an epoch, and brings what it has
abbrev pub joined : ℕ → EpochId → Members → Past → Past
joined site e members p = change_site site (λ (s : Site). record s { epoch = Some e; joined = Some e })
    (change_epoch (is_epoch e) (λ (t : Epoch). record t { joined = site ∷ t.joined; known = with_all_known (site_at p site).held t.known }) (with_epoch e members p))

-- Calls.

-- the call uses the instance by its descriptor, and doesn't close it
abbrev pub uses : Beginning → Call → EpochId → Instance → Bool
uses begins words e x = is_on begins e x.grant.inst && not (is_close words)

-- which use of its instance the call is
abbrev pub turn_of : Past → Beginning → Call → ℕ
turn_of p begins words = sum_by (λ (t : Epoch). sum_by (λ (x : Instance). x.uses + 1) (filter (uses begins words t.id) t.opened)) p.epochs

-- a call as it is accepted, where it begins so
abbrev pub begun_call : Past → ℕ → ℕ → CallId → Call → Beginning → CallSoFar
begun_call p site process id words begins = record {
  id = id;
  process = process;
  words = words;
  epoch = (site_at p site).epoch;
  begins = begins;
  free = lowest_free (table p site process);
  turn = turn_of p begins words;
  granted = None;
  answers = [];
  waits = true;
}

-- the call is the close that frees this number
abbrev pub is_freed : Call → ℕ → Named → Bool
is_freed (call.Close fd) process d = (d.process == process) && (d.fd == fd)
is_freed _ process d = false

abbrev pub accepted : ℕ → CallSoFar → Past → Past
accepted site k p = change_site site (λ (s : Site). record s { accepted = s.accepted + 1; descriptors = filter (λ d. not (is_freed k.words k.process d)) s.descriptors })
    (change_epoch (λ (t : Epoch). is_in k.epoch t.id) (λ (t : Epoch). record t { opened = change (uses k.begins k.words t.id) (λ (x : Instance). record x { uses = x.uses + 1 }) t.opened })
    (record p { calls = k ∷ p.calls }))

-- the calls that pass were answered this by a request
abbrev pub answered : (CallSoFar → Bool) → Answer → Past → Past
answered which a p = record p { calls = change which (λ (k : CallSoFar). record k { answers = k.answers ++ a ∷ [] }) p.calls }

abbrev pub is_id : CallId → CallSoFar → Bool
is_id id k = same_call k.id id

-- a look that is taken again has the number of its request: the last answer counts
abbrev pub looked : CallId → ℕ → Answer → Past → Past
looked id request a p = record p { calls = change (is_id id) (λ (k : CallSoFar). record k { answers = take (request - 1) k.answers ++ a ∷ [] }) p.calls }

-- what a look was answered, by the version that it was served
abbrev pub look_answer : Past → FileId → What → Served → Answer
look_answer p f w (served.At stamp) = found_in (making_of p f).kind stamp w (content_of p.history f stamp)
look_answer p f w (served.No why) = Refused why

-- Grants and operations.

-- the instance as it is granted to the call, with the content of its version
abbrev pub opened_as : Past → Granted → Option Stamp → Instance
opened_as p g stamp = record { grant = g; work = begun g.mode stamp (stamped_content p.history g.file stamp); named = false; again = false; uses = 0 }

-- calls have names of their own, so this is the process of one
abbrev pub process_of : Past → CallId → ℕ
process_of p id = sum_by (λ (k : CallSoFar). k.process) (filter (is_id id) p.calls)

abbrev pub granted : EpochId → Granted → Option Stamp → Past → Past
granted e g stamp p = record (change_epoch (is_epoch e) (λ (t : Epoch). record t { granted = g ∷ t.granted; opened = t.opened ++ opened_as p g stamp ∷ [] }) p) {
  calls = change (is_id g.call) (λ (k : CallSoFar). record k {
    granted = Some (record { mode = g.mode; epoch = e; inst = g.inst; steady = cond (is_steady k.words) (version_at g.file stamp) None });
    answers = k.answers ++ granted_answer g.mode g.inst g.file stamp (kept_in p (epoch_at p e) g.file) ∷ [];
  }) p.calls;
}

-- a probe that finds its name free begins a make
abbrev pub begun_make : Op → Outcome → Instance → List Make
begun_make (op.Probe name) outcome.Done x = record { call = x.grant.call; group = x.grant.file.group } ∷ []
begun_make _ _ x = []

abbrev pub acted : Serial → Op → Outcome → Past → Epoch → Epoch
acted i o result p t = record t {
  opened = change (is_named i) (λ (x : Instance). record x { work = work_after p t o result x }) t.opened;
  makes = fold (λ old x. begun_make o result x ++ old) t.makes (filter (is_named i) t.opened);
}

-- this operation of an open instance of this name is a step of the call
abbrev pub is_actor : Epoch → Serial → ℕ → CallSoFar → Bool
is_actor t i n k = list_any (λ (x : Instance). is_named i x && acts t.id x n k) t.opened

-- its release is a step of the call
abbrev pub is_ender : Epoch → Serial → CallSoFar → Bool
is_ender t i k = list_any (λ (x : Instance). is_named i x && ends t.id x k) t.opened

-- a close tells the version that it made, the one committed since the last operation; where a commit is owed still, since it
-- can't be made, it is refused
abbrev pub close_answer : Option Stamp → Instance → Answer
close_answer stamp x = cond x.work.owes (Refused Spent) (Ended (cond x.work.fresh stamp None))

-- the instance ends, its last version is published, and its make is over
abbrev pub released : Serial → FileId → Option Stamp → Epoch → Epoch
released i f stamp t = record t {
  known = with_all_known (map (λ s. record { file = f; stamp = s }) (list_of stamp)) t.known;
  opened = filter (λ x. not (is_named i x)) t.opened;
  makes = filter (λ (m : Make). not ((m.group == f.group) && list_any (λ (x : Instance). is_named i x && (is_make x.grant.mode && same_call x.grant.call m.call)) t.opened)) t.makes;
}

-- Commits.

-- the open instances by which the file may be committed at the site, in the epoch that the site is in
abbrev pub writers_of : Past → FileId → ℕ → List Instance
writers_of p f site = fold (λ old (t : Epoch). filter (is_writer f site) t.opened ++ old) [] (filter (is_home_of p site) p.epochs)

-- the first commit of a file tells what it is: what the call said whose instance it is committed by
abbrev pub with_making : Config → FileId → ℕ → Past → List Making
with_making c f site p = cond (list_any (λ (m : Making). same_file m.file f) p.files)
    p.files
    (map (λ (k : CallSoFar). record { file = f; kind = kind_made (Some k.words); set = sites_made (packs_of c f.group) (Some k.words) }) (filter (λ (k : CallSoFar). list_any (λ (x : Instance). same_call x.grant.call k.id) (writers_of p f site)) p.calls) ++ p.files)

abbrev pub committed_at : Config → Version → Past → Past
committed_at c v p = change_epoch (is_home_of p v.site) (λ (t : Epoch). record t { opened = change (is_writer v.file v.site) (λ (x : Instance). record x { work = committed v.stamp x.work }) t.opened })
    (record (has_now v.site (record { file = v.file; stamp = v.stamp }) p) { history = v ∷ p.history; files = with_making c v.file v.site p })

-- Replies.

-- what an answered open adds to the descriptors: its number, for the instance that was granted to the call
abbrev pub taken_by : Reply → CallSoFar → List Named
taken_by (reply.Opened fd) k = map (λ d. record { process = k.process; fd = fd; names = d }) (list_of k.granted)
taken_by _ k = []

-- the call reads by this descriptor
abbrev pub is_read_by : Call → ℕ → Named → Bool
is_read_by (call.Read fd at len) process d = (d.process == process) && (d.fd == fd)
is_read_by _ process d = false

abbrev pub held_by : Option Descriptor → Named → Named
held_by None d = d
held_by (Some opening) d = record d { names = record opening { steady = d.names.steady } }

-- a read that has opened a version again makes its descriptor held by the new instance
abbrev pub held_again : Reply → CallSoFar → List Named → List Named
held_again (reply.Data bytes) k ds = change (is_read_by k.words k.process) (held_by k.granted) ds
held_again _ k ds = ds

abbrev pub is_reading : Call → Bool
is_reading (call.Read fd at len) = true
is_reading _ = false

-- the instances that the reply names, and what becomes of them
abbrev pub named_by : Reply → CallSoFar → List Descriptor
named_by (reply.Opened fd) k = list_of k.granted
named_by (reply.Data bytes) k = cond (is_reading k.words) (list_of k.granted) []
named_by _ k = []

abbrev pub once_named : Reply → Instance → Instance
once_named (reply.Data bytes) x = record x { named = true; again = true; uses = x.uses + 1 }
once_named _ x = record x { named = true }

-- the directories that a refused mend leaves unmended for the epoch
abbrev pub left_unmended : Reply → Call → List FileId
left_unmended (reply.No why) (call.Mend f) = cond (ends_mending why) (f ∷ []) []
left_unmended _ _ = []

abbrev pub replied_to : Reply → CallSoFar → Past → Past
replied_to r k p = change_site k.id.site (λ (s : Site). record s { descriptors = taken_by r k ++ held_again r k s.descriptors })
    (record p {
      calls = change (is_id k.id) (λ (x : CallSoFar). record x { waits = false }) p.calls;
      epochs = map (λ (t : Epoch). record t {
        opened = change (λ (x : Instance). list_any (λ (d : Descriptor). is_in (Some d.epoch) t.id && is_named d.inst x) (named_by r k)) (once_named r) t.opened;
        unmended = cond (is_in k.epoch t.id) (left_unmended r k.words) [] ++ t.unmended;
      }) p.epochs;
    })

-- The next record.

-- what the record after this one may hang on
abbrev pub last_by : Record → Last
last_by (rec.Leave site e) = Leaving site 0
last_by (rec.Accept site process id words) = Accepting id
last_by (rec.Answer site process id (reply.No (Changed e))) = Leaving site process
last_by _ = Another

abbrev pub told_by : Config → Record → Past → Past
told_by c (rec.Up site boot) p = change_site site (λ (s : Site). record s { up = true; boot = boot; joined = None; accepted = 0 }) p
told_by c (rec.Stopped site cause) p = stopped site p
told_by c (rec.Leave site e) p = departed site p
told_by c (rec.Join site e members) p = joined site e members p
told_by c (rec.Start e group copies) p = change_epoch (is_epoch e) (λ (t : Epoch). record t { started = group ∷ t.started }) p
told_by c (rec.Accept site process id words) p = accepted site (begun_call p site process id words (beginning (table p site process) (site_at p site).epoch id words)) p
told_by c (rec.Look e id request f w result) p = looked id request (look_answer p f w result) p
told_by c (rec.Grant e id request i m f stamp ss) p = granted e (record { inst = i; call = id; process = process_of p id; mode = m; file = f; ss = ss }) stamp p
told_by c (rec.Refuse e id request i m f why) p = answered (is_id id) (Refused why)
    (change_epoch (is_epoch e) (λ (t : Epoch). record t { makes = filter (λ (k : Make). not (is_make m && ((k.group == f.group) && same_call k.call id))) t.makes }) p)
told_by c (rec.Act e i n o result) p = change_epoch (is_epoch e) (acted i o result p) (answered (is_actor (epoch_at p e) i n) (outcome_answer result) p)
told_by c (rec.Commit f site stamp parents content) p = committed_at c (record { file = f; site = site; stamp = stamp; parents = parents; content = content }) p
told_by c (rec.Release e i f stamp) p = change_epoch (is_epoch e) (released i f stamp)
    (fold (λ old x. answered (is_ender (epoch_at p e) i) (close_answer stamp x) old) p (filter (is_named i) (epoch_at p e).opened))
told_by c (rec.Adopt f site stamp) p = has_now site (record { file = f; stamp = stamp }) p
told_by c (rec.Answer site process id r) p = fold (λ old k. replied_to r k old) p (filter (is_id id) p.calls)
told_by c _ p = p

-- what the records tell with this one more
abbrev pub after : Config → Record → Past → Past
after c r p = record (told_by c r p) { last = last_by r }
