-- A disk call of a site is cut: exactly the one after the last that its armed disk lets pass. A call is a write or a sync.
use Rattle.std.specs.Prelude.{ℕ, zero, suc, ◌≡◌, ◌+◌, ◌-◌, ◌==◌, Bool, true, false, not, ◌&&◌, ◌||◌, cond, nat_lt, nat_le, List, [], ◌∷◌, ◌++◌, length, filter, map, fold, take, drop, replicate, Option, None, Some}
use Rattle.std.specs.List.{list_any, list_all}
use Rattle.std.specs.Option.{is_some, is_none}
use Rattle.locus_ids.specs.declared.config.Config.{Config}
use Rattle.locus_ids.specs.declared.ids.FileId.{FileId}
use Rattle.locus_ids.specs.declared.ids.Stamp.{Stamp}
use Rattle.commit_graph.specs.Versions.{content_of}
use Rattle.file_content.specs.Pages.{has_page, pages_of, pages_from, tables_written}
use Rattle.trace_book.specs.declared.entry.Entry.{Entry}
use Rattle.trace_book.specs.declared.record.Record.{Record}
use Rattle.trace_book.specs.declared.record.Record.TheVariants as rec
use Rattle.trace_book.specs.declared.record.StopCause.TheVariants as cause
use Rattle.schedule_lines.specs.Cluster.{config_of}
use Rattle.schedule_lines.specs.declared.line.Leave.{Leave}
use Rattle.schedule_lines.specs.declared.line.Leave.TheVariants as leave
use Rattle.schedule_lines.specs.declared.line.Line.TheVariants as line
use Rattle.schedule_lines.specs.declared.line.ScheduleLine.{ScheduleLine}
use Rattle.schedule_lines.specs.declared.line.ScheduleLine.TheVariants.{Event}
use Rattle.lawful_trace.specs.Places.{line_at}
use Rattle.lawful_trace.specs.SiteRows.{boots}
use Rattle.lawful_trace.specs.Prompt.{delivers, ticks}
use Rattle.lawful_trace.specs.of_tree_model.Packs.{all_sites}
use Rattle.promises.specs.Past.{Past, Epoch, Instance, Copy, nothing_yet, site_at, held}
use Rattle.promises.specs.After.{after, is_home_of, writers_of}
use Rattle.promises.specs.Rows.{may_adopt}
use Rattle.promises.specs.Traces.{past_of}
use Rattle.promises.specs.Beside.{is_commit_asked}

-- The disk of a site.

-- A line armed it: so many calls pass, and the next one stops the site and leaves unsynced bytes as told, or fails.
pub record Arming : Type 0 where
  pub calls : ℕ
  pub leaves : Option Leave
  -- the calls since
  pub used : ℕ

pub record Disk : Type 0 where
  -- how it is armed, if it is
  pub armed : List Arming
  -- both halves of the label have an open gate; both slots of some file have one. Only a cut leaves that, of one file at most, and a
  -- boot mends it
  pub halves : Bool
  pub slots : Bool

-- a line that arms the disk replaces what was armed before
abbrev pub armed_by : ℕ → Disk → ScheduleLine → Disk
armed_by site d (Event (line.ArmStop s calls left)) = cond (s == site) (record d { armed = record { calls = calls; leaves = Some left; used = 0 } ∷ [] }) d
armed_by site d (Event (line.ArmFail s calls)) = cond (s == site) (record d { armed = record { calls = calls; leaves = None; used = 0 } ∷ [] }) d
armed_by site d _ = d

-- the disk after the lines with numbers above the first and up to the last
abbrev pub through_lines : List ScheduleLine → ℕ → ℕ → ℕ → Disk → Disk
through_lines lines site first last d = fold (armed_by site) d (take (last - first) (drop first lines))

-- Calls.

-- A call moves no gate, or it is the write or the sync by which the new gate opens, or by which the other one closes.
pub data DiskCall : Type 0 where
  Plain : DiskCall
  Opens : (synced : Bool) → DiskCall
  Closes : (synced : Bool) → DiskCall

-- a write and a sync
abbrev pub switch : (Bool → DiskCall) → List DiskCall
switch moves = moves false ∷ moves true ∷ []

-- A version is written: its blocks, which are pages and tables of page numbers, its slot and a sync, its gate, and where an older
-- slot was open the gate of that.
pub record Writing : Type 0 where
  pub blocks : ℕ
  pub older : Bool

abbrev pub calls_of : Writing → List DiskCall
calls_of w = replicate (w.blocks + 2) Plain ++ switch Opens ++ cond w.older (switch Closes) []

-- a boot closes the losing half of the label where both are open, writes the other half, and switches to it
abbrev pub label_calls : Disk → List DiskCall
label_calls d = cond d.halves (switch Closes) [] ++ Plain ∷ Plain ∷ switch Opens ++ switch Closes

-- and it closes the losing slot where both of a file are open
abbrev pub boot_calls : Disk → List DiskCall
boot_calls d = label_calls d ++ cond d.slots (switch Closes) []

-- whether a gate is open where the call that was to change it was cut, its write or its sync. An open gate is the byte 165.
-- A write that fails writes nothing, and what was written before it is there.
abbrev pub is_left_open : Option Leave → Bool → Bool → Bool → Bool
is_left_open (Some leave.Old) synced was becomes = was
is_left_open (Some leave.New) synced was becomes = becomes
is_left_open (Some (leave.Byte b)) synced was becomes = b == 165
is_left_open None synced was becomes = cond synced becomes was

-- whether two gates are open after so many of these calls and the cut of the next, if this tells whether they were before
abbrev pub are_two_open : Option Leave → Bool → ℕ → List DiskCall → Bool
are_two_open left two k [] = two
are_two_open left two zero (Plain ∷ rest) = two
are_two_open left two zero (Opens synced ∷ rest) = is_left_open left synced false true
are_two_open left two zero (Closes synced ∷ rest) = is_left_open left synced true false
are_two_open left two (suc k) (Plain ∷ rest) = are_two_open left two k rest
are_two_open left two (suc k) (Opens synced ∷ rest) = are_two_open left true k rest
are_two_open left two (suc k) (Closes synced ∷ rest) = are_two_open left false k rest

-- the call after the last that passes is one of these, which are made next
abbrev pub is_cut_in : List DiskCall → Arming → Bool
is_cut_in calls a = nat_le a.used a.calls && nat_lt a.calls (a.used + length calls)

-- the version of which that call is cut stays on the disk: its gate is open, whatever becomes of an older one
abbrev pub stays : Writing → Arming → Bool
stays w a = are_two_open a.leaves false (a.calls - a.used) (calls_of (record w { older = false }))

-- Versions that are written.

-- how many pages this version of the file has, 0 where there is none
abbrev pub pages_in : Past → FileId → Option Stamp → ℕ
pages_in p f None = 0
pages_in p f (Some stamp) = pages_of (length (content_of p.history f stamp))

-- these pages of a version with so many (`now`) are written over what the site has, and with them each table under which the
-- version has other pages than that
abbrev pub writing_over : Past → ℕ → FileId → (now : ℕ) → List ℕ → Writing
writing_over p site f now pages = record { blocks = length pages + length (tables_written (pages_in p f (held p site f)) now pages); older = is_some (held p site f) }

-- a commit writes the pages that its instance has changed
abbrev pub writing_by : Past → ℕ → Instance → Writing
writing_by p site x = writing_over p site x.grant.file (pages_of (length x.work.content)) x.work.changed

-- Which pages an adoption writes isn't told: those of the version that differ from the site's own one, or are thought to. So it may
-- have written any: those of these pages that the version has.
abbrev pub writing_of : List ℕ → Past → ℕ → Copy → Writing
writing_of pages p site v = writing_over p site v.file (pages_in p v.file (Some v.stamp)) (filter (has_page pages) (pages_from 0 (pages_in p v.file (Some v.stamp))))

-- how this record writes a version on the disk of the site, if it tells of one
abbrev pub writings_in : List ℕ → Past → ℕ → Record → List Writing
writings_in pages p site (rec.Commit f s stamp parents content) = map (writing_by p site) (filter (λ x. s == site) (writers_of p f s))
writings_in pages p site (rec.Adopt f s stamp) = map (writing_of pages p site) (filter (λ v. s == site) (record { file = f; stamp = stamp } ∷ []))
writings_in pages p site _ = []

-- the versions that the site could be writing in this epoch at such a line: where packets are delivered, commits that are asked for;
-- there and where a site ticks, versions that it may adopt
abbrev pub underway_in : List ℕ → Config → ScheduleLine → Past → ℕ → Epoch → List Writing
underway_in pages c l p site t =
    map (writing_by p site) (filter (λ (x : Instance). delivers l && ((x.grant.ss == site) && (x.work.owes && is_commit_asked c p t x))) t.opened)
    ++ map (writing_of pages p site) (filter (λ (v : Copy). ticks l && may_adopt p v.file site v.stamp t) t.known)

-- in the epoch that it is in
abbrev pub underway : List ℕ → Config → ScheduleLine → Past → ℕ → List Writing
underway pages c l p site = fold (λ ws t. underway_in pages c l p site t ++ ws) [] (filter (is_home_of p site) p.epochs)

-- The disk by the records.

-- a version that is written uses an armed disk for its calls, and leaves both slots open where the cut leaves the older gate so
abbrev pub written : Disk → Writing → Disk
written d w = fold (λ old (a : Arming). record old {
  armed = record a { used = a.used + length (calls_of w) } ∷ [];
  slots = w.older && are_two_open a.leaves false (a.calls - a.used) (calls_of w);
}) d d.armed

-- a stop disarms the disk. One within a boot, of a site that doesn't run, leaves the gates as the cut call does; any other changes
-- none that the record of a version hasn't told of
abbrev pub stopped : Bool → Disk → Disk
stopped true d = record d { armed = [] }
stopped false d = fold (λ old (a : Arming). record old {
  halves = are_two_open a.leaves d.halves (a.calls - a.used) (label_calls d);
  slots = are_two_open a.leaves d.slots (a.calls - a.used) (replicate (length (label_calls d)) Plain ++ cond d.slots (switch Closes) []);
}) (record d { armed = [] }) d.armed

abbrev pub disk_by : List ℕ → Record → Past → ℕ → Disk → Disk
disk_by pages (rec.Up s boot) p site d = cond (s == site) (record { armed = map (λ (a : Arming). record a { used = a.used + length (boot_calls d) }) d.armed; halves = false; slots = false }) d
disk_by pages (rec.Stopped s why) p site d = cond (s == site) (stopped (site_at p site).up d) d
disk_by pages r p site d = fold written d (writings_in pages p site r)

-- the disk as the line with this number finds it, by the lines and the records from this value on: so many stand before it, the last of
-- which was of this line
abbrev pub disk_from : (ℕ → List ℕ) → Config → List ScheduleLine → ℕ → ℕ → ℕ → Past → ℕ → Disk → List Entry → Disk
disk_from wrote c lines n site k p last d [] = through_lines lines site last n d
disk_from wrote c lines n site k p last d (r ∷ rest) = disk_from wrote c lines n site (suc k) (after c r.what p) r.line (disk_by (wrote k) r.what p site (through_lines lines site last r.line d)) rest

abbrev pub disk_at : (ℕ → List ℕ) → Config → List ScheduleLine → ℕ → ℕ → List Entry → Disk
disk_at wrote c lines n site before = disk_from wrote c lines n site 0 (nothing_yet c) 0 (record { armed = []; halves = false; slots = false }) before

-- The cut.

-- the call after the last that passes is one of those by which one of these versions is written, and what that leaves of it stays
-- on the disk, or doesn't
abbrev pub cuts : (stay : Bool) → Disk → List Writing → Bool
cuts stay d ws = list_any (λ a. list_any (λ w. is_cut_in (calls_of w) a && cond stay (stays w a) (not (stays w a))) ws) d.armed

-- the last of these records, with those before it, passes
abbrev pub at_last : (List Entry → Entry → Bool) → List Entry → List Entry → Bool
at_last passes before [] = false
at_last passes before (r ∷ []) = passes before r
at_last passes before (r ∷ s ∷ rest) = at_last passes (before ++ r ∷ []) (s ∷ rest)

-- the cut call is one of a version underway that doesn't stay, or of the version that the last record of this line tells of, or of
-- a boot
abbrev pub is_exact : (ℕ → List ℕ) → Config → List ScheduleLine → List Entry → ℕ → ℕ → (up : Bool) → Bool
is_exact wrote c lines before n site true =
    cuts false (disk_at wrote c lines n site before) (underway (wrote (length before)) c (line_at lines n) (past_of c before) site)
    || at_last (λ earlier last. (last.line == n) && cuts true (disk_at wrote c lines n site earlier) (writings_in (wrote (length earlier)) (past_of c earlier) site last.what)) [] before
is_exact wrote c lines before n site false = boots (line_at lines n) site && list_any (is_cut_in (boot_calls (disk_at wrote c lines n site before))) (disk_at wrote c lines n site before).armed

-- A site that runs, or boots, is stopped within a disk call at this line: by a fault or a stop, as its disk is armed, at
-- exactly the call after the last that passes, and with what that leaves.
pub record IsCut (wrote : ℕ → List ℕ) (c : Config) (lines : List ScheduleLine) (before : List Entry) (n site : ℕ) (fault : Bool) : Type 0 where
  pub armed : list_any (λ (a : Arming). is_none a.leaves) (disk_at wrote c lines n site before).armed ≡ fault
  pub exact : is_exact wrote c lines before n site (site_at (past_of c before) site).up ≡ true

-- an armed disk was used for more calls than pass
abbrev pub is_overrun : Disk → Bool
is_overrun d = list_any (λ (a : Arming). nat_lt a.calls a.used) d.armed

-- the site stops within a disk call
abbrev pub is_cut_of : ℕ → Record → Bool
is_cut_of site (rec.Stopped s cause.Asked) = false
is_cut_of site (rec.Stopped s why) = s == site
is_cut_of site _ = false

-- After each of these records, which follow those before, the next one stops each site within a disk call whose disk was used for
-- more calls than pass.
abbrev pub heeds_stops : (ℕ → List ℕ) → Config → List ScheduleLine → List Entry → List Entry → Bool
heeds_stops wrote c lines before [] = list_all (λ site. not (is_overrun (disk_at wrote c lines 0 site before))) all_sites
heeds_stops wrote c lines before (r ∷ rest) = list_all (λ site. not (is_overrun (disk_at wrote c lines 0 site before)) || is_cut_of site r.what) all_sites && heeds_stops wrote c lines (before ++ r ∷ []) rest

-- The promise.

-- where the record stops a site within a disk call, that call is cut
abbrev pub IsCutWhereStopped : (ℕ → List ℕ) → Config → List ScheduleLine → List Entry → ℕ → Record → Type 0
IsCutWhereStopped wrote c lines before n (rec.Stopped site cause.Fuse) = IsCut wrote c lines before n site false
IsCutWhereStopped wrote c lines before n (rec.Stopped site cause.Fault) = IsCut wrote c lines before n site true
IsCutWhereStopped wrote c lines before n _ = Unit {0}

-- so it is with each of these records, which follow those before
abbrev pub EachIsCut : (ℕ → List ℕ) → Config → List ScheduleLine → List Entry → List Entry → Type 0
EachIsCut wrote c lines before [] = Unit {0}
EachIsCut wrote c lines before (r ∷ rest) = IsCutWhereStopped wrote c lines before r.line r.what × EachIsCut wrote c lines (before ++ r ∷ []) rest

-- Each site that the trace has stop within a disk call stops exactly where its disk is cut, and no disk is used for more calls than
-- pass without that stop, if adoptions wrote these pages.
pub record StopsBy (wrote : ℕ → List ℕ) (lines : List ScheduleLine) (trace : List Entry) : Type 0 where
  pub cuts : EachIsCut wrote (config_of lines) lines [] trace
  pub heeded : heeds_stops wrote (config_of lines) lines [] trace ≡ true

-- So it is for some pages that they wrote: the records don't tell them.
pub record Stops (lines : List ScheduleLine) (trace : List Entry) : Type 0 where
  -- what each adoption wrote, by how many records stand before its own, or before that of the stop that cut it off
  pub wrote : ℕ → List ℕ
  pub stops : StopsBy wrote lines trace
