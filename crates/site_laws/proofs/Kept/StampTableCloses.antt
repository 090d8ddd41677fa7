-- A synchronization site publishes what an instance made last, which counts all that was made under it.
use Rattle.std.proofs.Common.{◌≡◌, ℕ, true, List, [], ◌∷◌, ◌++◌, Option, Some, None, refl, sym, ◌∙◌, ap, subst, inl, inr}
use Rattle.locus_ids.specs.Sites.{has}
use Rattle.locus_ids.specs.declared.config.Config.{Config}
use Rattle.locus_ids.specs.declared.sites.Sites.{Sites}
use Rattle.locus_ids.specs.declared.ids.EpochId.{EpochId}
use Rattle.locus_ids.specs.declared.ids.FileId.{FileId}
use Rattle.locus_ids.specs.declared.ids.Serial.{Serial}
use Rattle.locus_ids.specs.declared.ids.Stamp.{Stamp}
use Rattle.locus_ids.specs.declared.ids.Mode.{Mode}
use Rattle.locus_ids.specs.declared.ids.Mode.TheVariants as mode
use Rattle.version_vector.specs.Counters.{AllLe}
use Rattle.version_vector.proofs.Counting.{AllLe-same}
use Rattle.trace_book.specs.declared.record.Record.TheVariants as says
use Rattle.wire_messages.specs.declared.body.MadeVersion.{MadeVersion}
use Rattle.role_steps.specs.Own.{Every}
use Rattle.role_steps.specs.Views.{Frame, Told, Shown, pack_sites, sync_site, serial_key}
use Rattle.role_steps.specs.Versions.{row_ino, kept, file_row, with_file, noted}
use Rattle.role_steps.specs.Opens.{open_row, open_key, with_open}
use Rattle.role_steps.specs.Reports.{stamp_made, published_row, published, published_notices, closed_ok, releases, closes_at, on_closed_of, on_closed, on_have_of, on_have}
use Rattle.role_steps.specs.declared.synchronizing.SyncTable.{SyncTable}
use Rattle.role_steps.specs.declared.synchronizing.FileRow.{FileRow}
use Rattle.role_steps.specs.declared.synchronizing.VersionRow.{VersionRow}
use Rattle.role_steps.specs.declared.synchronizing.OpenRow.{OpenRow}
use Rattle.role_steps.specs.declared.synchronizing.OpenStage.{OpenStage}
use Rattle.role_steps.specs.declared.synchronizing.OpenStage.TheVariants as stage
use Rattle.role_steps.proofs.Sending.{every_append}
use Rattle.site_laws.specs.Vectors.Written.{WrittenAs, WasGranted}
use Rattle.site_laws.specs.Vectors.Facts.{onto, file_in, MadeFact, MaybeMade, RowFact, GrantFact, OpenFact, LookFact, TableFact as Versions}
use Rattle.site_laws.proofs.Vectors.SyncFacts.{FoundAt, row_at, every_latest, file_eq}
use Rattle.site_laws.specs.Locks.Going.{WasReleased}
use Rattle.site_laws.specs.Locks.Joins.{WasJoined}
use Rattle.site_laws.specs.Locks.Synced.{SyncedBy}
use Rattle.site_laws.specs.Kept.StampCommits.{Under, Counts}
use Rattle.site_laws.specs.Kept.StampLaws.{Laws}
use Rattle.site_laws.specs.Kept.StampCovering.{InMade, Closes, Bare, InKept, RowOpens, Table}
use Rattle.site_laws.proofs.Kept.StampTold.{laws_older, under_begun}
use Rattle.site_laws.proofs.Kept.StampFrames.{under_before, covers_after, rows_after, bares, was_begun}
use Rattle.site_laws.proofs.Kept.StampKeptJoins.{OneVector, joins, KeptLe, same_kept, put_file, noted_kept, published_known}
use Rattle.site_laws.proofs.Kept.StampTableOpens.{OfGroup, TableFine, sends_fine, quiet_fine}
use Rattle.site_laws.proofs.Kept.StampTableCovers.{covers_weaker, counts_le, row_notices_bare}

-- ---- what is published ----

-- the later table counts what the earlier one does, and all that the version counts
record Publishes (t u : SyncTable) (group ino : ℕ) (made : Option MadeVersion) : Type 0 where
  rises : KeptLe t u
  counts : (s n : ℕ) → InMade made s n → Counts (joins (kept (file_row u ino))) s n
  group_is : u.group ≡ group
  same : (u.reported ≡ t.reported) × (u.started ≡ t.started) × (u.opens ≡ t.opens) × (u.looks ≡ t.looks)

made_of : (past : List Told) (e : EpochId) (key : ℕ) (r : OpenRow) (group : ℕ) (v : MadeVersion) → (c : Config) → Laws c past → r.file.group ≡ group → WasGranted past e key r.file → MadeFact past e key v → WrittenAs past (file_in group r.file.ino) v.stamp v.vector
made_of past e key r group v c l g granted made =
    let same : made.file ≡ r.file = l.agree e key made.file r.file made.begun granted in
    subst (λ (file : FileId). WrittenAs past file v.stamp v.vector) (same ∙ file_eq r.file group r.file.ino g refl) made.written

publishes : (f : Frame) (past : List Told) (ss key : ℕ) (r : OpenRow) (made : Option MadeVersion) (t : SyncTable) → Laws f.config past → OneVector past → r.file.group ≡ t.group → WasGranted past f.epoch key r.file → MaybeMade past f.epoch key made → Every (RowFact past t.group) t.files → Publishes t (published ss r made t) t.group r.file.ino made
publishes f past ss key r None t l one g granted made rows = record { rises = same_kept t; counts = λ s n q. absurd q; group_is = refl; same = (refl, refl, refl, refl) }
publishes f past ss key r (Some v) t l one g granted made rows =
    let w : WrittenAs past (file_in t.group r.file.ino) v.stamp v.vector = made_of past f.epoch key r t.group v f.config l g granted made in
    let k : KeptLe t (with_file (published_row ss r v (file_row t r.file.ino)) t) × AllLe v.vector (joins (kept (file_row (with_file (published_row ss r v (file_row t r.file.ino)) t) r.file.ino))) = published_known past ss r v t one w rows in
    record { rises = k.0; counts = λ s n q. counts_le v.vector (joins (kept (file_row (with_file (published_row ss r v (file_row t r.file.ino)) t) r.file.ino))) s n k.1 q; group_is = refl; same = (refl, refl, refl, refl) }

published_bare : (f : Frame) (r : OpenRow) (made : Option MadeVersion) (t : SyncTable) → Every Bare (published_notices f r made t)
published_bare f r None t = tt
published_bare f r (Some v) t = row_notices_bare f t.group (file_row t r.file.ino)

-- ---- a close ----

releases_fine : (f : Frame) (past : List Told) (from : ℕ) (inst : Serial) (r : OpenRow) (made : Option MadeVersion) (t : SyncTable) → Laws f.config (onto (releases f from r made t).told past) → OneVector past → WasJoined past f.me f.epoch f.members → open_key r ≡ serial_key inst → r.file.group ≡ t.group → WasGranted past f.epoch (serial_key inst) r.file →
    MaybeMade past f.epoch (serial_key inst) made → Closes past from f.epoch (serial_key inst) made → Versions past f.epoch t → Table past f t → TableFine f past t (releases f from r made t)
releases_fine f past from inst r made t l one joined e g granted version k versions h = record {
  fine = record {
    view = record {
      synced = subst (λ (n : ℕ). sync_site f.config f.members n ≡ Some f.me) (sym p.group_is) h.synced;
      full = λ started s site pack member. subst (λ (x : Sites). has x s ≡ true) (sym p.same.0) (h.full (sym p.same.1 ∙ started) s site (subst (λ (n : ℕ). has (pack_sites f.config n) s ≡ true) p.group_is pack) member);
      covers = λ s site reports. covers_weaker now s f.epoch t.group u.group (InKept t s) (InKept u s) p.group_is (λ file n q c. counts_le (joins (kept (file_row t file.ino))) (joins (kept (file_row u file.ino))) s n (p.rises file.ino) c) (covers_after f.config f.me x past l goes s f.epoch t.group (InKept t s) (h.covers s site (subst (λ (y : Sites). has y s ≡ true) p.same.0 reports)));
      released = λ s q file n z rel made. released s q file n (z ∙ p.group_is) rel made;
      opens = subst (Every (RowOpens now f)) (sym p.same.2) (every_latest (RowOpens now f) open_key (record r { stage = stage.Ended }) t.opens tt (rows_after f.config f.me x past l goes f t.opens h.opens));
      looks = subst (Every LookFact) (sym p.same.3) h.looks;
    };
    sent = bares now (published_notices f r made u ++ closed_ok f from r.inst) (every_append Bare (published_notices f r made u) (closed_ok f from r.inst) (published_bare f r made u) (tt, tt));
    goes = (goes, tt);
    disk = tt;
  };
  group = p.group_is;
  here = (of_group, tt);
  none = refl;
}
  where
    ended : SyncTable
    ended = with_open (record r { stage = stage.Ended }) t

    u : SyncTable
    u = published from r made ended

    x : Told
    x = Shown (says.Release f.epoch r.inst r.file (stamp_made made))

    now : List Told
    now = x ∷ past

    before : Laws f.config past
    before = laws_older f.config x past l

    p : Publishes ended u t.group r.file.ino made
    p = publishes f past from (serial_key inst) r made ended before one g granted version versions.files

    goes : SyncedBy f.config past f.epoch r.file.group f.me
    goes = record { members = f.members; joined = joined; synced = subst (λ (n : ℕ). sync_site f.config f.members n ≡ Some f.me) (sym g) h.synced }

    of_group : OfGroup t.group x
    of_group e key file q = ap (λ (o : FileId). o.group) (sym q.2) ∙ g

    rises : (s : ℕ) (file : FileId) (n : ℕ) → InKept t s file n → InKept u s file n
    rises s file n q = counts_le (joins (kept (file_row t file.ino))) (joins (kept (file_row u file.ino))) s n (p.rises file.ino) q

    -- what was made under the instance itself
    mine : (s key : ℕ) (file : FileId) (n : ℕ) → serial_key inst ≡ key → Under past s f.epoch key file n → InKept u s file n
    mine s key file n same made =
        let here : Under past s f.epoch (serial_key inst) file n = subst (λ (j : ℕ). Under past s f.epoch j file n) (sym same) made in
        let site : s ≡ from = before.sites f.epoch (serial_key inst) s from file k.file (under_begun past s f.epoch (serial_key inst) file n here) k.begun in
        let one_file : file ≡ r.file = before.agree f.epoch (serial_key inst) file r.file (was_begun past s f.epoch (serial_key inst) file (under_begun past s f.epoch (serial_key inst) file n here)) granted in
        let its_file : k.file ≡ r.file = before.agree f.epoch (serial_key inst) k.file r.file (was_begun past from f.epoch (serial_key inst) k.file k.begun) granted in
        let there : Under past from f.epoch (serial_key inst) k.file n = subst (λ (o : FileId). Under past from f.epoch (serial_key inst) o n) (one_file ∙ sym its_file) (subst (λ (j : ℕ). Under past j f.epoch (serial_key inst) file n) site here) in
        subst (λ (o : FileId). InKept u s o n) (sym one_file) (subst (λ (j : ℕ). Counts (joins (kept (file_row u r.file.ino))) j n) (sym site) (p.counts from n (k.each n there)))

    released : (s key : ℕ) (file : FileId) (n : ℕ) → file.group ≡ t.group → WasReleased now f.epoch key → Under now s f.epoch key file n → InKept u s file n
    released s key file n z (inl q) made = mine s key file n (sym e ∙ q.1) (under_before x past s f.epoch key file n (λ o i m. m) made)
    released s key file n z (inr q) made = rises s file n (h.released s key file n z q (under_before x past s f.epoch key file n (λ o i m. m) made))

granted_now : (past : List Told) (e : EpochId) (r : OpenRow) (m : Mode) → GrantFact past e r m stage.Granted → WasGranted past e (serial_key r.inst) r.file
granted_now past e r mode.Make h = h
granted_now past e r mode.Read h = h
granted_now past e r mode.Write h = h
granted_now past e r mode.Resolve h = h
granted_now past e r mode.Mend h = h

closes_at_fine : (f : Frame) (past : List Told) (from : ℕ) (inst : Serial) (r : OpenRow) (made : Option MadeVersion) (g : OpenStage) (t : SyncTable) → Laws f.config (onto (closes_at f from r made g t).told past) → OneVector past → WasJoined past f.me f.epoch f.members → open_key r ≡ serial_key inst → r.stage ≡ g → OpenFact past f.epoch t.group r →
    MaybeMade past f.epoch (serial_key inst) made → Closes past from f.epoch (serial_key inst) made → Versions past f.epoch t → Table past f t → TableFine f past t (closes_at f from r made g t)
closes_at_fine f past from inst r made stage.Asked t l one joined e at q version k versions h = quiet_fine f past t h
closes_at_fine f past from inst r made stage.Granted t l one joined e at q version k versions h =
    releases_fine f past from inst r made t l one joined e q.group_is (subst (λ (n : ℕ). WasGranted past f.epoch n r.file) e (granted_now past f.epoch r r.mode (subst (GrantFact past f.epoch r r.mode) at q.granted))) version k versions h
closes_at_fine f past from inst r made (stage.Refused why) t l one joined e at q version k versions h = quiet_fine f past t h
closes_at_fine f past from inst r made stage.Ended t l one joined e at q version k versions h = sends_fine f past t (closed_ok f from r.inst) (tt, tt) h

closed_of_fine : (f : Frame) (past : List Told) (from : ℕ) (inst : Serial) (made : Option MadeVersion) (o : Option OpenRow) (t : SyncTable) → Laws f.config (onto (on_closed_of f from made o t).told past) → OneVector past → WasJoined past f.me f.epoch f.members → FoundAt (OpenFact past f.epoch t.group) open_key (serial_key inst) o →
    MaybeMade past f.epoch (serial_key inst) made → Closes past from f.epoch (serial_key inst) made → Versions past f.epoch t → Table past f t → TableFine f past t (on_closed_of f from made o t)
closed_of_fine f past from inst made None t l one joined q version k versions h = quiet_fine f past t h
closed_of_fine f past from inst made (Some r) t l one joined q version k versions h = closes_at_fine f past from inst r made r.stage t l one joined q.0 refl q.1 version k versions h

pub on_closed_fine : (f : Frame) (past : List Told) (from : ℕ) (inst : Serial) (made : Option MadeVersion) (t : SyncTable) → Laws f.config (onto (on_closed f from inst made t).told past) → OneVector past → WasJoined past f.me f.epoch f.members → MaybeMade past f.epoch (serial_key inst) made → Closes past from f.epoch (serial_key inst) made → Versions past f.epoch t → Table past f t → TableFine f past t (on_closed f from inst made t)
on_closed_fine f past from inst made t l one joined version k versions h = closed_of_fine f past from inst made (open_row t inst) t l one joined (row_at (OpenFact past f.epoch t.group) open_key (serial_key inst) t.opens versions.opens) version k versions h

-- ---- what a member tells that it holds ----

-- the kept versions stay
rekept : (f : Frame) (past : List Told) (t : SyncTable) (r : FileRow) → KeptLe t (with_file r t) → Table past f t → Table past f (with_file r t)
rekept f past t r le h = record {
  synced = h.synced;
  full = h.full;
  covers = λ s site reports. covers_weaker past s f.epoch t.group t.group (InKept t s) (InKept (with_file r t) s) refl (λ file n q c. counts_le (joins (kept (file_row t file.ino))) (joins (kept (file_row (with_file r t) file.ino))) s n (le file.ino) c) (h.covers s site reports);
  released = λ s key file n g z made. counts_le (joins (kept (file_row t file.ino))) (joins (kept (file_row (with_file r t) file.ino))) s n (le file.ino) (h.released s key file n g z made);
  opens = h.opens;
  looks = h.looks;
}

same_le : (t : SyncTable) (ino : ℕ) (r q : FileRow) → file_row t ino ≡ Some r → r.ino ≡ ino → (q.ino ≡ r.ino) → (q.kept ≡ r.kept) → KeptLe t (with_file q t)
same_le t ino r q found named same kept_is =
    put_file q t (subst (λ (n : ℕ). AllLe (joins (kept (file_row t n))) (joins q.kept)) (sym (same ∙ named)) (subst (λ (o : Option FileRow). AllLe (joins (kept o)) (joins q.kept)) (sym found) (subst (λ (vs : List VersionRow). AllLe (joins r.kept) (joins vs)) (sym kept_is) (AllLe-same (joins r.kept)))))

always : (rs : List FileRow) → Every (λ (r : FileRow). Unit {0}) rs
always [] = tt
always (r ∷ rs) = (tt, always rs)

pub have_table : (f : Frame) (past : List Told) (from : ℕ) (stamp : Stamp) (ino : ℕ) (o : Option FileRow) (t : SyncTable) → file_row t ino ≡ o → Table past f t → Table past f (on_have_of from stamp o t)
have_table f past from stamp ino None t e h = h
have_table f past from stamp ino (Some r) t e h =
    let named : FoundAt (λ (q : FileRow). Unit {0}) row_ino ino (Some r) = subst (FoundAt (λ (q : FileRow). Unit {0}) row_ino ino) e (row_at (λ (q : FileRow). Unit {0}) row_ino ino t.files (always t.files)) in
    rekept f past t (noted from stamp r) (same_le t ino r (noted from stamp r) e named.0 (noted_kept from stamp r).0 (noted_kept from stamp r).1) h

pub have_group : (from : ℕ) (stamp : Stamp) (o : Option FileRow) (t : SyncTable) → (on_have_of from stamp o t).group ≡ t.group
have_group from stamp None t = refl
have_group from stamp (Some r) t = refl

pub on_have_fine : (f : Frame) (past : List Told) (from : ℕ) (file : FileId) (stamp : Stamp) (t : SyncTable) → Table past f t → TableFine f past t (on_have from file stamp t)
on_have_fine f past from file stamp t h = record { fine = record { view = have_table f past from stamp file.ino (file_row t file.ino) t refl h; sent = tt; goes = tt; disk = tt }; group = have_group from stamp (file_row t file.ino) t; here = tt; none = refl }
