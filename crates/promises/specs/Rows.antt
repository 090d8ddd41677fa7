-- Which record may come next, by what the records so far tell: a row for each kind of record. The lines of the schedule
-- have no part in it, so that a trace whose schedule isn't known can be judged. Each row computes.
use Rattle.std.specs.Prelude.{ℕ, ◌+◌, ◌-◌, ◌==◌, Bool, true, false, not, ◌&&◌, ◌||◌, nat_lt, nat_le, List, [], ◌∷◌, length, filter, map, take, Option, None, Some}
use Rattle.std.specs.List.{list_any, list_all}
use Rattle.std.specs.Option.{is_none}
use Rattle.std.specs.Str.{bytes_eq}
use Rattle.locus_ids.specs.Sites.{has}
use Rattle.locus_ids.specs.declared.config.Config.{Config}
use Rattle.locus_ids.specs.declared.sites.Members.{Members}
use Rattle.locus_ids.specs.declared.ids.FileId.{FileId}
use Rattle.locus_ids.specs.declared.ids.Stamp.{Stamp}
use Rattle.locus_ids.specs.declared.ids.EpochId.{EpochId}
use Rattle.locus_ids.specs.declared.ids.CallId.{CallId}
use Rattle.locus_ids.specs.declared.ids.Serial.{Serial}
use Rattle.locus_ids.specs.declared.ids.Brought.{Brought}
use Rattle.locus_ids.specs.declared.ids.Kind.TheVariants.{Dir}
use Rattle.locus_ids.specs.declared.ids.Mode.{Mode}
use Rattle.locus_ids.specs.declared.refusal.Refusal.{Refusal}
use Rattle.locus_ids.specs.declared.refusal.Refusal.TheVariants.{Changed, NoInode}
use Rattle.commit_graph.specs.Versions.{same_file, same_stamp, is_proper_ancestor}
use Rattle.commit_graph.specs.Counters.{next_number}
use Rattle.commit_graph.specs.Grants.{is_read}
use Rattle.trace_book.specs.Same.{same_call, same_serial}
use Rattle.trace_book.specs.declared.record.Record.{Record}
use Rattle.trace_book.specs.declared.record.Record.TheVariants as rec
use Rattle.trace_book.specs.declared.record.StopCause.{StopCause}
use Rattle.trace_book.specs.declared.record.StopCause.TheVariants as cause
use Rattle.trace_book.specs.declared.call.Call.{Call}
use Rattle.trace_book.specs.declared.call.Call.TheVariants as call
use Rattle.trace_book.specs.declared.operation.Op.{Op}
use Rattle.trace_book.specs.declared.operation.Outcome.{Outcome}
use Rattle.trace_book.specs.declared.operation.What.{What}
use Rattle.trace_book.specs.declared.operation.Served.{Served}
use Rattle.trace_book.specs.declared.reply.Reply.{Reply}
use Rattle.trace_book.specs.declared.reply.Reply.TheVariants as reply
use Rattle.lawful_trace.specs.of_call_rules.declared.want.Want.{Want}
use Rattle.lawful_trace.specs.of_call_rules.declared.want.Want.TheVariants as want
use Rattle.lawful_trace.specs.of_tree_model.declared.instance.Granted.{Granted}
use Rattle.lawful_trace.specs.of_tree_model.Epochs.{is_in, is_epoch_below}
use Rattle.lawful_trace.specs.of_tree_model.Given.{served_by}
use Rattle.lawful_trace.specs.of_tree_model.Packs.{boot_in}
use Rattle.lawful_trace.specs.of_tree_model.Same.{same_kind, same_refusal, same_brought, is_given, is_served, same_version}
use Rattle.lawful_trace.specs.of_tree_model.State.{is_make, has_stamp}
use Rattle.lawful_trace.specs.of_tree_model.Working.{are_several, list_of}
use Rattle.lawful_trace.specs.CallRows.{is_mend_in}
use Rattle.lawful_trace.specs.TreeRows.{is_open_of}
use Rattle.promises.specs.Past.{Past, Site, Epoch, Instance, CallSoFar, Copy, Last, Leaving, Accepting, site_at, epoch_at, making_of, held_in, candidates, kept_in, packing, sync_of, is_number, is_named, acts, ends, asks, asks_after}
use Rattle.promises.specs.Tree.{place_for, lacks_numbers, open_refusal, is_placed, wants_rescue, parents_of, is_spent, result_on}
use Rattle.promises.specs.After.{is_id, is_epoch}
use Rattle.promises.specs.Same.{same_list, same_request, same_reply}

-- Sites.

-- the site is one of the cluster
abbrev pub is_there : Past → ℕ → Bool
is_there p site = list_any (λ (s : Site). s.number == site) p.sites

-- A stopped site boots with a number above all that it had.
abbrev pub may_boot : Past → ℕ → ℕ → Bool
may_boot p site boot = is_there p site && (not (site_at p site).up && nat_lt (site_at p site).boot boot)

-- A running site stops; within a disk call also one that boots.
abbrev pub may_stop : Past → ℕ → StopCause → Bool
may_stop p site cause.Asked = (site_at p site).up
may_stop p site _ = is_there p site

-- A site leaves the epoch that it is in.
abbrev pub may_leave : Past → ℕ → EpochId → Bool
may_leave p site e = is_in (site_at p site).epoch e

-- A running site in no epoch joins one that it never joined, above all that it joined in this boot, as a member with its
-- boot number; every member joins it with the same list.
abbrev pub may_join : Past → ℕ → EpochId → Members → Bool
may_join p site e members =
    (site_at p site).up
    && (is_none (site_at p site).epoch
    && (not (is_number (epoch_at p e).joined site)
    && (list_all (λ last. is_epoch_below last e) (list_of (site_at p site).joined)
    && (list_all (λ (t : Epoch). bytes_eq t.members.boot members.boot) (filter (is_epoch e) p.epochs)
    && (boot_in members site == (site_at p site).boot)))))

-- Calls.

-- the name of the next call that the site accepts: calls are counted in its boot, mends included
abbrev pub next_call : Site → CallId
next_call s = record { site = s.number; boot = s.boot; n = s.accepted + 1 }

abbrev pub waits_at : ℕ → ℕ → CallSoFar → Bool
waits_at site process k = k.waits && ((k.id.site == site) && (k.process == process))

-- A running site accepts a call of a process that waits for nothing.
abbrev pub may_accept : Past → ℕ → ℕ → CallId → Bool
may_accept p site process id =
    (site_at p site).up
    && (not (list_any (waits_at site process) p.calls)
    && same_call id (next_call (site_at p site)))

-- the directory is flagged; or a file of it wants to live again, and its only kept version is what the site has
abbrev pub is_mend_wanted : Past → Epoch → ℕ → FileId → Bool
is_mend_wanted p t site f = are_several (kept_in p t f) || (wants_rescue p t f && same_list same_stamp (kept_in p t f) (list_of (held_in p t site f)))

-- the synchronization site may mend the directory in this epoch: the group has started, nobody has the directory open, and
-- no mend of it was refused for good
abbrev pub may_mend_in : Config → Past → ℕ → FileId → Epoch → Bool
may_mend_in c p site f t =
    is_in (site_at p site).epoch t.id
    && (is_number (sync_of c t f.group) site
    && (is_number t.started f.group
    && (not (list_any (λ (x : Instance). same_file x.grant.file f) t.opened)
    && (not (list_any (same_file f) t.unmended)
    && is_mend_wanted p t site f))))

-- The system mends a directory that wants it, while no other mend of its group waits at the site.
abbrev pub may_mend : Config → Past → ℕ → ℕ → CallId → FileId → Bool
may_mend c p site process id f =
    (process == 0)
    && (same_kind (making_of p f).kind Dir
    && (list_any (may_mend_in c p site f) p.epochs
    && (not (list_any (λ (k : CallSoFar). waits_at site 0 k && is_mend_in f.group k.words) p.calls)
    && same_call id (next_call (site_at p site)))))

abbrev pub may_call : Config → Past → ℕ → ℕ → CallId → Call → Bool
may_call c p site process id (call.Mend f) = may_mend c p site process id f
may_call c p site process id words = may_accept p site process id

-- Replies.

-- the site is still in the epoch in which it accepted the call, or was in none
abbrev pub is_home : Past → CallSoFar → Bool
is_home p k = list_all (is_in (site_at p k.id.site).epoch) (list_of k.epoch)

-- the last record was the leave of the site, or such a reply of a process up to this one: mends are all of process 0
abbrev pub is_just_left : Last → ℕ → ℕ → Bool
is_just_left (Leaving s q) site process = (s == site) && nat_le q process
is_just_left _ site process = false

-- a request of the call was answered; or its call record is the last, which is where a reply stands that needs no request
abbrev pub is_due : Last → CallSoFar → Bool
is_due (Accepting id) k = same_call id k.id || nat_lt 0 (length k.answers)
is_due _ k = nat_lt 0 (length k.answers)

abbrev pub gives : Want → Reply → Bool
gives (want.Give given) r = same_reply given r
gives _ r = false

-- the reply is the one that the script of the call gives
abbrev pub is_scripted : Config → Past → CallSoFar → Reply → Bool
is_scripted c p k r = is_home p k && (is_due p.last k && gives (asks c p k) r)

-- the reply says that the call's epoch has changed, directly after its site has left it
abbrev pub is_changed : Past → CallSoFar → Reply → Bool
is_changed p k (reply.No (Changed e)) = is_in k.epoch e && (is_in (site_at p k.id.site).joined e && is_just_left p.last k.id.site k.process)
is_changed p k _ = false

-- A call that waits is answered as its script says; where its site has left its epoch, that this has changed.
abbrev pub may_answer : Config → Past → ℕ → ℕ → CallId → Reply → Bool
may_answer c p site process id r = list_any (λ k. is_id id k && (waits_at site process k && (is_scripted c p k r || is_changed p k r))) p.calls

-- The one tree of an epoch and a group.

-- the group has a synchronization site, which is or has been in the epoch
abbrev pub is_synced : Config → Epoch → ℕ → Bool
is_synced c t group = list_any (is_number t.joined) (sync_of c t group)

abbrev pub brought_in : Epoch → ℕ → List Brought
brought_in t group = map (λ (v : Copy). record { ino = v.file.ino; stamp = v.stamp }) (filter (λ (v : Copy). v.file.group == group) t.known)

-- A group starts once, when all its member packs are in the epoch, with the versions that they brought.
abbrev pub may_start : Config → Epoch → ℕ → List Brought → Bool
may_start c t group copies =
    not (is_number t.started group)
    && (is_synced c t group
    && (list_all (is_number t.joined) (packing c t group)
    && same_list same_brought copies (brought_in t group)))

-- the call of this name was accepted in the epoch, and passes
abbrev pub is_step_of : Past → Epoch → CallId → (CallSoFar → Bool) → Bool
is_step_of p t id asked = list_any (λ k. is_id id k && (is_in k.epoch t.id && asked k)) p.calls

-- A look that its call asks is served the only kept version, or it is told why there is none; a look at a whole content, the
-- kept version that it names. It may stand more than once under one request number.
abbrev pub may_look : Config → Past → Epoch → CallId → ℕ → FileId → What → Served → Bool
may_look c p t id request f w result =
    is_number t.started f.group
    && (is_synced c t f.group
    && (is_served (served_by w (kept_in p t f)) result
    && is_step_of p t id (λ k. nat_lt 0 request && (nat_le (length k.answers) request && (nat_le request (length k.answers + 1) && same_request (asks_after c p k (take (request - 1) k.answers)) (want.Look f w))))))

-- the open is what the call asks next, and has the number of that request
abbrev pub asks_open : Config → Past → ℕ → Mode → FileId → CallSoFar → Bool
asks_open c p request m f k = (request == length k.answers + 1) && is_open_of m f (asks c p k)

-- An open that its call asks and nothing refuses is granted, at a site that is or has been in the epoch, as an instance of
-- the call's site that no grant of the epoch names.
abbrev pub may_grant : Config → Past → Epoch → CallId → ℕ → Serial → Mode → FileId → Option Stamp → ℕ → Bool
may_grant c p t id request i m f stamp ss =
    is_number t.started f.group
    && (is_synced c t f.group
    && (is_number t.joined ss
    && ((i.us == id.site)
    && (not (list_any (λ (g : Granted). same_serial g.inst i) t.granted)
    && is_step_of p t id (λ k. asks_open c p request m f k && (is_none (open_refusal c p t k m f) && is_placed c p t k m f stamp ss))))))

-- the open is refused for the first that refuses it; a make that nothing refuses, where its storage site lacks numbers
abbrev pub is_refused : Config → Past → Epoch → Mode → FileId → Refusal → CallSoFar → Bool
is_refused c p t m f why k = for_this (open_refusal c p t k m f)
  where
    for_this : Option Refusal → Bool
    for_this (Some r) = same_refusal r why
    for_this None = is_make m && (same_refusal why NoInode && list_any (lacks_numbers c p t f.group) (place_for c t f.group k))

-- An open that its call asks is refused as the tree says.
abbrev pub may_refuse : Config → Past → Epoch → CallId → ℕ → Mode → FileId → Refusal → Bool
may_refuse c p t id request m f why =
    is_number t.started f.group
    && (is_synced c t f.group
    && ((not (is_make m) || (f.ino == 0))
    && is_step_of p t id (λ k. asks_open c p request m f k && is_refused c p t m f why k)))

-- some call that was accepted in the epoch, and passes, asks this next
abbrev pub is_asked : Config → Past → Epoch → (CallSoFar → Bool) → Want → Bool
is_asked c p t which request = list_any (λ k. which k && (is_in k.epoch t.id && same_request (asks c p k) request)) p.calls

-- An open instance executes its next operation, as its call asks, and gives what the operation makes of its content.
abbrev pub may_act : Config → Past → Epoch → Serial → ℕ → Op → Outcome → Bool
may_act c p t i n o result = list_any
    (λ x. is_named i x && ((n == x.work.ops + 1) && (is_number t.joined x.grant.ss && (is_given (result_on p t o x) result && is_asked c p t (acts t.id x n) (want.Do i o)))))
    t.opened

-- An open instance is released as its call asks, and its last version published; it owes no commit, or one that can't be made.
abbrev pub may_release : Config → Past → Epoch → Serial → FileId → Option Stamp → Bool
may_release c p t i f stamp = is_synced c t f.group && list_any
    (λ x. is_named i x && (same_file x.grant.file f && (same_version stamp x.work.committed && ((not x.work.owes || is_spent p t x) && is_asked c p t (ends t.id x) (want.Close i)))))
    t.opened

-- Versions on disks.

-- there is one of these alone, and it passes
abbrev pub is_the_one : {X : Type 0} → (X → Bool) → List X → Bool
is_the_one ok (x ∷ []) = ok x
is_the_one ok _ = false

-- an open instance of the file that isn't only read
abbrev pub is_writing : FileId → Instance → Bool
is_writing f x = same_file x.grant.file f && not (is_read x.grant.mode)

-- A version is committed by the one open instance of its file that isn't only read, which owes it, at its storage site: its
-- working content, on the parents that it stands on, with the site's next number.
abbrev pub may_commit : Past → FileId → ℕ → Stamp → List Stamp → List ℕ → Epoch → Bool
may_commit p f site stamp parents content t = is_in (site_at p site).epoch t.id && is_the_one
    (λ x. (x.grant.ss == site) && (x.work.owes && (bytes_eq content x.work.content && (same_list same_stamp parents (parents_of p t x) && same_stamp stamp (record { site = site; n = next_number p.history f parents site })))))
    (filter (is_writing f) t.opened)

-- what the site has is nothing, or a proper ancestor of the version
abbrev pub is_above_held : Past → ℕ → FileId → Stamp → Bool
is_above_held p site f stamp = list_all (λ (v : Copy). not (same_file v.file f) || is_proper_ancestor p.history f v.stamp stamp) (site_at p site).held

-- A site adopts a version of its epoch that is above its own, of a file that is for it and that nobody has open there.
abbrev pub may_adopt : Past → FileId → ℕ → Stamp → Epoch → Bool
may_adopt p f site stamp t =
    is_in (site_at p site).epoch t.id
    && (has_stamp (candidates t f) stamp
    && (has (making_of p f).set site
    && (is_above_held p site f stamp
    && not (list_any (λ (x : Instance). (x.grant.ss == site) && same_file x.grant.file f) t.opened))))

-- All rows.

-- the record may come next
abbrev pub may_follow : Config → Past → Record → Bool
may_follow c p (rec.Up site boot) = may_boot p site boot
may_follow c p (rec.Stopped site why) = may_stop p site why
may_follow c p (rec.Leave site e) = may_leave p site e
may_follow c p (rec.Join site e members) = may_join p site e members
may_follow c p (rec.Start e group copies) = may_start c (epoch_at p e) group copies
may_follow c p (rec.Accept site process id words) = may_call c p site process id words
may_follow c p (rec.Look e id request f w result) = may_look c p (epoch_at p e) id request f w result
may_follow c p (rec.Grant e id request i m f stamp ss) = may_grant c p (epoch_at p e) id request i m f stamp ss
may_follow c p (rec.Refuse e id request i m f why) = may_refuse c p (epoch_at p e) id request m f why
may_follow c p (rec.Act e i n o result) = may_act c p (epoch_at p e) i n o result
may_follow c p (rec.Commit f site stamp parents content) = list_any (may_commit p f site stamp parents content) p.epochs
may_follow c p (rec.Release e i f stamp) = may_release c p (epoch_at p e) i f stamp
may_follow c p (rec.Adopt f site stamp) = list_any (may_adopt p f site stamp) p.epochs
may_follow c p (rec.Answer site process id r) = may_answer c p site process id r
may_follow c p (rec.Packet number from to kind) = true
may_follow c p rec.Void = true
may_follow c p rec.Budget = true
