-- A synchronization site's kept versions cover what has been reported, and what is published.
use Rattle.std.proofs.Common.{◌≡◌, ◌≢◌, ◌≤◌, ◌<◌, ℕ, ◌+◌, ◌-◌, ◌==◌, nat_lt, Bool, true, false, cond, ◌||◌, ◌&&◌, ◌⊎◌, List, [], ◌∷◌, filter, length, Option, Some, None, refl, sym, ◌∙◌, ap, subst, inl, inr, arith}
use Rattle.std.proofs.lemmas.Bool.Decides.{nat_tests}
use Rattle.std.specs.List.{list_all, flat_map}
use Rattle.role_steps.proofs.of_plain_facts.Numbers.{equal}
use Rattle.role_steps.proofs.of_plain_facts.Tests.{and_true, both_true, or_first}
use Rattle.locus_ids.specs.Sites.{has, with_site}
use Rattle.locus_ids.proofs.Sets.{has-with}
use Rattle.locus_ids.specs.declared.ids.EpochId.{EpochId}
use Rattle.locus_ids.specs.declared.ids.FileId.{FileId}
use Rattle.locus_ids.specs.declared.sites.Sites.{Sites}
use Rattle.locus_ids.specs.Sizes.{sites_max}
use Rattle.version_vector.specs.Counters.{part, AllLe}
use Rattle.trace_book.specs.declared.record.Record.TheVariants as says
use Rattle.wire_messages.specs.declared.body.Body.{Body}
use Rattle.wire_messages.specs.declared.body.Body.TheVariants as body
use Rattle.wire_messages.specs.declared.body.ReportedCopy.{ReportedCopy}
use Rattle.role_steps.specs.Own.{Every}
use Rattle.role_steps.specs.Tables.{row}
use Rattle.role_steps.specs.Views.{Frame, Told, Shown, DiskWrite, Outcome, quiet, sends, and_then, first_written, packet, is_member, all_sites, members_of, pack_sites, process_key, sync_site}
use Rattle.role_steps.specs.Versions.{kept, file_row, holders_of, chosen_site}
use Rattle.role_steps.specs.Notices.{lagging, notice, notices_of, notices_by, file_notices, notices, row_notices}
use Rattle.role_steps.specs.Opens.{OpenRequest, Decision, Denies, Grants, decision, decides, on_open_of, open_row}
use Rattle.role_steps.specs.Looks.{LookRequest, is_look_before, is_same_look, new_look, after_last, look_key}
use Rattle.role_steps.specs.Reports.{brought_files, takes_early, takes_all_early, starts, starts_if, have_all_reported, counts_report, with_reported, with_all_reported, with_report, on_report, sync_repeats}
use Rattle.role_steps.specs.declared.synchronizing.SyncTable.{SyncTable}
use Rattle.role_steps.specs.declared.synchronizing.FileRow.{FileRow}
use Rattle.role_steps.specs.declared.synchronizing.VersionRow.{VersionRow}
use Rattle.role_steps.specs.declared.synchronizing.Early.{Early}
use Rattle.role_steps.specs.declared.synchronizing.LastLook.{LastLook}
use Rattle.role_steps.specs.declared.synchronizing.OpenRow.{OpenRow}
use Rattle.role_steps.proofs.Sending.{every_append, every_cond, every_map, every_flat_map}
use Rattle.role_steps.proofs.Counted.{CountsFrom, sites_count}
use Rattle.the_run.proofs.Boots.{at_each}
use Rattle.site_laws.specs.Vectors.Facts.{onto, ReportedFact, LookFact, WaitingFact, EarlyFact, TableFact as Versions}
use Rattle.site_laws.proofs.Vectors.Facts.{onto_append}
use Rattle.site_laws.specs.Vectors.HistoryCommits.{IsSite}
use Rattle.site_laws.specs.Kept.StampCommits.{ByWriter, Counts}
use Rattle.site_laws.specs.Kept.StampLaws.{Laws}
use Rattle.site_laws.specs.Kept.StampCovering.{Covers, InReport, Bare, InKept, RowOpens, Table}
use Rattle.site_laws.proofs.Kept.StampTold.{laws_before, true_false}
use Rattle.site_laws.proofs.Kept.StampFrames.{bares}
use Rattle.site_laws.proofs.Kept.StampOutcomes.{then_fine}
use Rattle.site_laws.proofs.Kept.StampKeptJoins.{OneVector, joins, InTable, Reported, all_reported}
use Rattle.site_laws.proofs.Kept.StampTableOpens.{OfGroup, TableFine, Lawfully, idle_groups, table_idle, quiet_fine, takes_open_fine, takes_look_fine}

-- ---- one thing after another ----

table_then : (f : Frame) (past : List Told) (t : SyncTable) (o : Outcome SyncTable) (g : SyncTable → Outcome SyncTable) → Laws f.config (onto (g o.view).told (onto o.told past)) → TableFine f past t o → TableFine f (onto o.told past) o.view (g o.view) → TableFine f past t (and_then o g)
table_then f past t o g l h k = record {
  fine = then_fine f.config f.me (λ (now : List Told). Table now f) (λ (now : List Told). Table now f) past o (g o.view) l h.fine k.fine k.none;
  group = k.group ∙ h.group;
  here = every_append (OfGroup t.group) o.told (g o.view).told h.here (subst (λ (n : ℕ). Every (OfGroup n) (g o.view).told) h.group k.here);
  none = first_none o.written (g o.view).written h.none k.none;
}
  where
    first_none : (a b : Option DiskWrite) → a ≡ None → b ≡ None → first_written a b ≡ None
    first_none a b e q = subst (λ (x : Option DiskWrite). first_written x b ≡ None) (sym e) q

-- ---- requests that waited ----

-- the table is of the same group, and has started
record Going (f : Frame) (past : List Told) (t : SyncTable) (o : Outcome SyncTable) : Type 0 where
  fine : TableFine f past t o
  started : o.view.started ≡ true

decides_started : (f : Frame) (t : SyncTable) (us : ℕ) (o : OpenRequest) (d : Decision) → (decides f t us o d).view.started ≡ t.started
decides_started f t us o (Denies why) = refl
decides_started f t us o (Grants ss stamp vector parents set k) = refl

open_of_started : (f : Frame) (t : SyncTable) (us : ℕ) (o : OpenRequest) (r : Option OpenRow) → (on_open_of f t us o r).view.started ≡ t.started
open_of_started f t us o None = decides_started f t us o (decision f t us o o.how)
open_of_started f t us o (Some r) = refl

abbrev SameStart : SyncTable → Outcome SyncTable → Type 0
SameStart t o = o.view.started ≡ t.started

after_last_started : (f : Frame) (us : ℕ) (l : LookRequest) (o : Option LastLook) (t : SyncTable) → SameStart t (after_last f us l o t)
after_last_started f us l None t = refl
after_last_started f us l (Some last) t =
    elim (is_look_before l last) as (λ b. SameStart t (elim b [ true ↦ quiet t | false ↦ elim (is_same_look l last) [ true ↦ sends (packet f last.to last.body ∷ []) t | false ↦ new_look f us l (file_row t l.file.ino) t ] ])) [
      | true ↦ refl
      | false ↦ elim (is_same_look l last) as (λ b. SameStart t (elim b [ true ↦ sends (packet f last.to last.body ∷ []) t | false ↦ new_look f us l (file_row t l.file.ino) t ])) [ true ↦ refl | false ↦ refl ]
    ]

early_fine : (f : Frame) (past : List Told) (us : ℕ) (b : Body) (t : SyncTable) → Laws f.config (onto (takes_early f us b t).told past) → t.started ≡ true → WaitingFact t.group b → Table past f t → Going f past t (takes_early f us b t)
early_fine f past us (body.Open serial call process request file how) t l started group h =
    let o : OpenRequest = record { serial = serial; call = call; process = process; request = request; file = file; how = how } in
    record { fine = takes_open_fine f past us o t l started group h; started = open_of_started f t us o (open_row t (record { us = us; serial = o.serial })) ∙ started }
early_fine f past us (body.Look call process request take file what) t l started group h =
    let q : LookRequest = record { call = call; process = process; request = request; take = take; file = file; what = what } in
    record { fine = takes_look_fine f past us q t l h; started = after_last_started f us q (row look_key (process_key us q.process) t.looks) t ∙ started }
early_fine f past us _ t l started group h = record { fine = quiet_fine f past t h; started = started }

all_early_fine : (f : Frame) (past : List Told) (es : List Early) (t : SyncTable) → Laws f.config (onto (takes_all_early f es t).told past) → t.started ≡ true → Every (EarlyFact t.group) es → Table past f t → TableFine f past t (takes_all_early f es t)
all_early_fine f past [] t l started early h = quiet_fine f past t h
all_early_fine f past (e ∷ es) t l started early h =
    let o : Outcome SyncTable = takes_early f e.site e.body t in
    let g : Laws f.config (onto (takes_all_early f es o.view).told (onto o.told past)) = subst (Laws f.config) (onto_append o.told (takes_all_early f es o.view).told past) l in
    let k : Going f past t o = early_fine f past e.site e.body t (laws_before f.config (takes_all_early f es o.view).told (onto o.told past) g) started early.0 h in
    table_then f past t o (takes_all_early f es) g k.fine (all_early_fine f (onto o.told past) es o.view g k.started (subst (λ (n : ℕ). Every (EarlyFact n) es) (sym k.fine.group) early.1) k.fine.fine.view)

-- ---- notices ----

notices_of_bare : (f : Frame) (group : ℕ) (r : FileRow) (v : VersionRow) (o : Option ℕ) → Every Bare (notices_of f group r v o)
notices_of_bare f group r v None = tt
notices_of_bare f group r v (Some holder) = every_map Bare (notice f group r v holder) (lagging f r (holders_of r v.stamp)) (λ s. tt)

notices_by_bare : (f : Frame) (group : ℕ) (r : FileRow) (vs : List VersionRow) → Every Bare (notices_by f group r vs)
notices_by_bare f group r [] = tt
notices_by_bare f group r (v ∷ []) = notices_of_bare f group r v (chosen_site f.me f.me (holders_of r v.stamp))
notices_by_bare f group r (v ∷ w ∷ others) = tt

notices_bare : (f : Frame) (t : SyncTable) → Every Bare (notices f t)
notices_bare f t = every_flat_map Bare (file_notices f t.group) t.files (λ r. notices_by_bare f t.group r r.kept)

pub row_notices_bare : (f : Frame) (group : ℕ) (o : Option FileRow) → Every Bare (row_notices f group o)
row_notices_bare f group None = tt
row_notices_bare f group (Some r) = notices_by_bare f group r r.kept

pub sync_repeats_bare : (f : Frame) (t : SyncTable) → Every Bare (sync_repeats f t)
sync_repeats_bare f t = every_cond Bare t.started (notices f t) [] (notices_bare f t) tt

-- ---- the start ----

all_true : (P : ℕ → Bool) (xs : List ℕ) → list_all P xs ≡ true → Every (λ (s : ℕ). P s ≡ true) xs
all_true P [] e = tt
all_true P (x ∷ xs) e = let q : (P x ≡ true) × (list_all P xs ≡ true) = both_true (P x) (list_all P xs) e in (q.0, all_true P xs q.1)

passed : (P : ℕ → Type 0) (test : ℕ → Bool) (xs : List ℕ) → Every P (filter test xs) → Every (λ (s : ℕ). test s ≡ true → P s) xs
passed P test [] h = tt
passed P test (x ∷ xs) h =
    (elim (test x) as (λ b. test x ≡ b → Every P (cond b (x ∷ filter test xs) (filter test xs)) → (test x ≡ true → P x) × Every (λ (s : ℕ). test s ≡ true → P s) xs) [
      | true ↦ λ e g. ((λ q. g.0), passed P test xs g.1)
      | false ↦ λ e g. ((λ q. absurd (true_false (test x) q e)), passed P test xs g)
    ]) refl h

from_each : (P : ℕ → Type 0) (low : ℕ) (xs : List ℕ) → CountsFrom low xs → Every P xs → (s : ℕ) → low ≤ s → s < low + length xs → P s
from_each P low [] r h s a b = absurd (omega (arith, a, b))
from_each P low (x ∷ xs) r h s a b = at_each low s (P s) (λ e. subst P (r.0 ∙ e) h.0) (λ ne. from_each P (low + 1) xs r.1 h.1 s (above low s a ne) (omega (arith, b)))
  where
    above : (low s : ℕ) → low ≤ s → low ≢ s → low + 1 ≤ s
    above low s a ne = by_test (nat_lt low s) refl
      where
        by_test : (b : Bool) → nat_lt low s ≡ b → low + 1 ≤ s
        by_test true e = grind (arith, nat_tests)
        by_test false e = absurd (ne (grind (arith, nat_tests)))

-- what holds of all of the sixteen holds of each site
of_site : (P : ℕ → Type 0) → Every P all_sites → (s : ℕ) → IsSite s → P s
of_site P h s site = let a : 1 ≤ s = site.low in let b : s ≤ sites_max = site.high in from_each P 1 all_sites sites_count h s a (omega (arith, b))

-- where all members with a pack have reported, each of them has
full_if : (f : Frame) (t : SyncTable) → have_all_reported f t ≡ true → (s : ℕ) → IsSite s → has (pack_sites f.config t.group) s ≡ true → is_member f.members s ≡ true → has t.reported s ≡ true
full_if f t e s site pack member =
    let every : Every (λ (q : ℕ). has t.reported q ≡ true) (members_of f.members (pack_sites f.config t.group)) = all_true (has t.reported) (members_of f.members (pack_sites f.config t.group)) e in
    of_site (λ (q : ℕ). (has (pack_sites f.config t.group) q && is_member f.members q) ≡ true → has t.reported q ≡ true) (passed (λ (q : ℕ). has t.reported q ≡ true) (λ (q : ℕ). has (pack_sites f.config t.group) q && is_member f.members q) all_sites every) s site (and_true (has (pack_sites f.config t.group) s) (is_member f.members s) pack member)

starts_fine : (f : Frame) (past : List Told) (t : SyncTable) → Laws f.config (onto (starts f t).told past) → have_all_reported f t ≡ true → Every (EarlyFact t.group) t.early → Table past f t → TableFine f past t (starts f t)
starts_fine f past t l all early h =
    let x : Told = Shown (says.Start f.epoch t.group (flat_map brought_files t.files)) in
    let now : SyncTable = record t { started = true; early = [] } in
    let first : Outcome SyncTable = record { view = now; sent = notices f t; told = x ∷ []; written = None } in
    let g : Laws f.config (onto (takes_all_early f t.early now).told (x ∷ past)) = subst (Laws f.config) (onto_append (x ∷ []) (takes_all_early f t.early now).told past) l in
    let k : Table (x ∷ past) f t = table_idle f (x ∷ []) past t (laws_before f.config (takes_all_early f t.early now).told (x ∷ past) g) (tt, tt) h in
    let started : Table (x ∷ past) f now = record { synced = k.synced; full = λ e s site pack member. full_if f t all s site pack member; covers = k.covers; released = k.released; opens = k.opens; looks = k.looks } in
    table_then f past t first (takes_all_early f t.early) g
    (record { fine = record { view = started; sent = bares (x ∷ past) (notices f t) (notices_bare f t); goes = (tt, tt); disk = tt }; group = refl; here = idle_groups t.group (x ∷ []) (tt, tt); none = refl })
    (all_early_fine f (x ∷ past) t.early now g refl early started)

-- ---- reports ----

starts_if_fine : (f : Frame) (past : List Told) (t : SyncTable) → Laws f.config (onto (starts_if f t).told past) → Every (EarlyFact t.group) t.early → Table past f t → TableFine f past t (starts_if f t)
starts_if_fine f past t l early h =
    (elim (have_all_reported f t) as (λ b. have_all_reported f t ≡ b → Lawfully f past t (elim b [ true ↦ starts f t | false ↦ quiet t ])) [
      | true ↦ λ e g. starts_fine f past t g e early h
      | false ↦ λ e g. quiet_fine f past t h
    ]) refl l

-- all but the files stays
record Files (t u : SyncTable) : Type 0 where
  group : u.group ≡ t.group
  reported : u.reported ≡ t.reported
  started : u.started ≡ t.started
  opens : u.opens ≡ t.opens
  looks : u.looks ≡ t.looks
  early : u.early ≡ t.early

all_files : (from : ℕ) (xs : List ReportedCopy) (t : SyncTable) → Files t (with_all_reported from xs t)
all_files from [] t = record { group = refl; reported = refl; started = refl; opens = refl; looks = refl; early = refl }
all_files from (x ∷ xs) t = let k : Files (with_reported from x t) (with_all_reported from xs (with_reported from x t)) = all_files from xs (with_reported from x t) in record { group = k.group; reported = k.reported; started = k.started; opens = k.opens; looks = k.looks; early = k.early }

pub covers_weaker : (past : List Told) (s : ℕ) (e : EpochId) (a b : ℕ) (P Q : FileId → ℕ → Type 0) → b ≡ a → ((file : FileId) (n : ℕ) → file.group ≡ a → P file n → Q file n) → Covers past s e a P → Covers past s e b Q
covers_weaker past s e a b P Q same f h = record { site = h.site; joined = h.joined; each = λ here file n g m. by_case file n (g ∙ same) (h.each here file n (g ∙ same) m) }
  where
    by_case : (file : FileId) (n : ℕ) → file.group ≡ a → P file n ⊎ ByWriter past s e file n → Q file n ⊎ ByWriter past s e file n
    by_case file n g (inl p) = inl (f file n g p)
    by_case file n g (inr w) = inr w

pub counts_le : (a b : List ℕ) (s n : ℕ) → AllLe a b → Counts a s n → Counts b s n
counts_le a b s n h k = let q : part a (s - 1) ≤ part b (s - 1) = h.each (s - 1) in omega (arith, q, k)

-- a copy that is reported is counted
in_report : (u : SyncTable) (xs : List ReportedCopy) (s : ℕ) (file : FileId) (n : ℕ) → Every (InTable u) xs → InReport xs s file n → InKept u s file n
in_report u [] s file n h k = absurd k.1
in_report u (x ∷ xs) s file n h (y, inl e, ino, c) = subst (λ (i : ℕ). Counts (joins (kept (file_row u i))) s n) (sym (ap (λ (z : ReportedCopy). z.ino) e) ∙ ino) (counts_le x.vector (joins (kept (file_row u x.ino))) s n h.0 (subst (λ (z : ReportedCopy). Counts z.vector s n) e c))
in_report u (x ∷ xs) s file n h (y, inr there, ino, c) = in_report u xs s file n h.1 (y, there, ino, c)

or_cases : (P : Type 0) (a b : Bool) → (a || b) ≡ true → (a ≡ true → P) → (b ≡ true → P) → P
or_cases P true b h f g = f refl
or_cases P false b h f g = g h

reports_table : (f : Frame) (past : List Told) (from : ℕ) (xs : List ReportedCopy) (t : SyncTable) → OneVector past → Every (ReportedFact past t.group) xs → Versions past f.epoch t → Covers past from f.epoch t.group (InReport xs from) → Table past f t → Table past f (with_report from xs t)
reports_table f past from xs t one reported versions report h = record {
  synced = subst (λ (g : ℕ). sync_site f.config f.members g ≡ Some f.me) (sym k.group) h.synced;
  full = λ started s site pack member. subst (λ (r : Sites). has r s ≡ true) (sym k.reported) (there s site (h.full (sym k.started ∙ started) s site (subst (λ (g : ℕ). has (pack_sites f.config g) s ≡ true) k.group pack) member));
  covers = λ s site reports. of_reported s site (subst (λ (r : Sites). has r s ≡ true) k.reported reports);
  released = λ s key file n g r m. counts_le (joins (kept (file_row t file.ino))) (joins (kept (file_row u file.ino))) s n (q.rises file.ino) (h.released s key file n (g ∙ k.group) r m);
  opens = subst (Every (RowOpens past f)) (sym k.opens) h.opens;
  looks = subst (Every LookFact) (sym k.looks) h.looks;
}
  where
    base : SyncTable
    base = record t { reported = with_site t.reported from }

    u : SyncTable
    u = with_report from xs t

    k : Files base u
    k = all_files from xs base

    q : Reported past base u xs
    q = all_reported past from xs base one reported versions.files

    there : (s : ℕ) → IsSite s → has t.reported s ≡ true → has (with_site t.reported from) s ≡ true
    there s site e = has-with t.reported from s report.site.low site.low ∙ or_first (has t.reported s) (s == from) e

    of_reported : (s : ℕ) → IsSite s → has (with_site t.reported from) s ≡ true → Covers past s f.epoch u.group (InKept u s)
    of_reported s site e = or_cases (Covers past s f.epoch u.group (InKept u s)) (has t.reported s) (s == from) (sym (has-with t.reported from s report.site.low site.low) ∙ e)
        (λ old. covers_weaker past s f.epoch t.group u.group (InKept t s) (InKept u s) k.group (λ file n g p. counts_le (joins (kept (file_row t file.ino))) (joins (kept (file_row u file.ino))) s n (q.rises file.ino) p) (h.covers s site old))
        (λ new. subst (λ (n : ℕ). Covers past n f.epoch u.group (InKept u n)) (sym (equal s from new)) (covers_weaker past from f.epoch t.group u.group (InReport xs from) (InKept u from) k.group (λ file n g p. in_report u xs from file n q.each p) report))

regroup : (f : Frame) (past : List Told) (t u : SyncTable) (o : Outcome SyncTable) → u.group ≡ t.group → TableFine f past u o → TableFine f past t o
regroup f past t u o e h = record { fine = h.fine; group = h.group ∙ e; here = subst (λ (n : ℕ). Every (OfGroup n) o.told) e h.here; none = h.none }

counts_fine : (f : Frame) (past : List Told) (from : ℕ) (xs : List ReportedCopy) (t : SyncTable) → Laws f.config (onto (counts_report f from xs t).told past) → OneVector past → Every (ReportedFact past t.group) xs → Versions past f.epoch t → Covers past from f.epoch t.group (InReport xs from) → Table past f t → TableFine f past t (counts_report f from xs t)
counts_fine f past from xs t l one reported versions report h =
    (elim (has t.reported from) as (λ b. Lawfully f past t (elim b [ true ↦ quiet t | false ↦ starts_if f (with_report from xs t) ])) [
      | true ↦ λ g. quiet_fine f past t h
      | false ↦ λ g. regroup f past t (with_report from xs t) (starts_if f (with_report from xs t)) k.group
          (starts_if_fine f past (with_report from xs t) g (subst (λ (es : List Early). Every (EarlyFact (with_report from xs t).group) es) (sym k.early) (subst (λ (n : ℕ). Every (EarlyFact n) t.early) (sym k.group) versions.early)) (reports_table f past from xs t one reported versions report h))
    ]) l
  where
    k : Files (record t { reported = with_site t.reported from }) (with_report from xs t)
    k = all_files from xs (record t { reported = with_site t.reported from })

pub on_report_fine : (f : Frame) (past : List Told) (from : ℕ) (xs : List ReportedCopy) (t : SyncTable) → Laws f.config (onto (on_report f from xs t).told past) → OneVector past → Every (ReportedFact past t.group) xs → Versions past f.epoch t → Covers past from f.epoch t.group (InReport xs from) → Table past f t → TableFine f past t (on_report f from xs t)
on_report_fine f past from xs t l one reported versions report h =
    let k : TableFine f past t (counts_report f from xs t) = counts_fine f past from xs t l one reported versions report h in
    record { fine = record { view = k.fine.view; sent = (tt, k.fine.sent); goes = k.fine.goes; disk = k.fine.disk }; group = k.group; here = k.here; none = k.none }
