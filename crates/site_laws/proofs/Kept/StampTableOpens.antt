-- A synchronization site grants an open that isn't to read on a vector that counts all commits of the storage site.
use Rattle.std.proofs.Common.{◌≡◌, ◌≤◌, ℕ, ◌-◌, ◌==◌, Bool, true, false, not, cond, ◌⊎◌, List, [], ◌∷◌, ◌++◌, Option, Some, None, refl, sym, subst, inl, inr, arith}
use Rattle.std.proofs.lemmas.Bool.Decides.{nat_tests}
use Rattle.std.specs.List.{list_any}
use Rattle.locus_ids.specs.declared.ids.EpochId.{EpochId}
use Rattle.locus_ids.specs.declared.ids.FileId.{FileId}
use Rattle.locus_ids.specs.declared.ids.Mode.{Mode}
use Rattle.locus_ids.specs.declared.ids.Mode.TheVariants as mode
use Rattle.locus_ids.specs.declared.ids.Serial.{Serial}
use Rattle.locus_ids.specs.declared.ids.Stamp.{Stamp}
use Rattle.locus_ids.specs.declared.ids.Kind.{Kind}
use Rattle.locus_ids.specs.declared.sites.Sites.{Sites}
use Rattle.version_vector.specs.Counters.{part, AllLe}
use Rattle.commit_graph.specs.Grants.{is_read}
use Rattle.trace_book.specs.declared.record.Record.{Record}
use Rattle.trace_book.specs.declared.record.Record.TheVariants as says
use Rattle.trace_book.specs.declared.operation.What.{What}
use Rattle.trace_book.specs.declared.operation.What.TheVariants as what
use Rattle.wire_messages.specs.declared.packet.Packet.{Packet}
use Rattle.wire_messages.specs.declared.body.Body.{Body}
use Rattle.wire_messages.specs.declared.body.Body.TheVariants as body
use Rattle.wire_messages.specs.declared.body.OpenedAs.{OpenedAs}
use Rattle.wire_messages.specs.declared.body.OpenedAs.TheVariants as opened
use Rattle.role_steps.specs.Own.{Every}
use Rattle.role_steps.specs.Tables.{row}
use Rattle.role_steps.specs.Views.{Frame, Told, Shown, Outcome, quiet, sends, packet, boot_in, process_key, serial_key}
use Rattle.role_steps.specs.Versions.{kept, file_row}
use Rattle.role_steps.specs.Opens.{OpenRequest, Decision, Denies, Grants, mode_of, decision, grant_record, granted_at_once, granted_at_last, decides, denied_row, asked_row, granted_row, repeats_open, on_open_of, takes_open, open_row, open_key, with_open, answers_open, by_stage, on_opened_of, on_opened}
use Rattle.role_steps.specs.Looks.{LookRequest, Service, Denies as Unserved, Serves, service, letter, serving_letter, last_look, is_look_before, is_same_look, new_look, after_last, takes_look, look_key}
use Rattle.role_steps.specs.Reports.{waits_early, is_early_of, on_open, on_look}
use Rattle.role_steps.specs.declared.synchronizing.SyncTable.{SyncTable}
use Rattle.role_steps.specs.declared.synchronizing.FileRow.{FileRow}
use Rattle.role_steps.specs.declared.synchronizing.VersionRow.{VersionRow}
use Rattle.role_steps.specs.declared.synchronizing.OpenRow.{OpenRow}
use Rattle.role_steps.specs.declared.synchronizing.OpenStage.{OpenStage}
use Rattle.role_steps.specs.declared.synchronizing.OpenStage.TheVariants as stage
use Rattle.role_steps.specs.declared.synchronizing.LastLook.{LastLook}
use Rattle.the_run.proofs.InsideSync.{every_row, Found, row_found}
use Rattle.site_laws.specs.Vectors.Facts.{onto, NoFact, LookFact}
use Rattle.site_laws.proofs.Vectors.SyncFacts.{every_latest}
use Rattle.site_laws.specs.Locks.Grants.{IsOver}
use Rattle.site_laws.specs.Locks.Locks.{IsOfAFile}
use Rattle.site_laws.specs.Packs.Packs.{HasPack}
use Rattle.site_laws.specs.Kept.StampCommits.{WasMade, Under, ByWriter, Counts, Here}
use Rattle.site_laws.specs.Makes.Locked.{OverAs}
use Rattle.site_laws.specs.Kept.StampLaws.{Laws}
use Rattle.site_laws.specs.Kept.StampCovering.{Covers, Asks, Opens, PacketCovers, InKept, StageOpens, RowOpens, Table, Fine}
use Rattle.site_laws.proofs.Kept.StampTold.{laws_older, Releases, here_before, joined_later, under_begun, granted_held, granted_released, true_false}
use Rattle.site_laws.proofs.Kept.StampFrames.{Elsewhere, made_before, table_after, fold, bare_body}
use Rattle.site_laws.proofs.Kept.StampOutcomes.{IdleRecord, Idle, idle_go, factless_body}
use Rattle.site_laws.proofs.Kept.StampKeptJoins.{joins}
use Rattle.site_laws.proofs.Kept.StampDecisions.{Enough, decision_enough}

-- ---- outcomes ----

-- what is released is of the group
abbrev pub OfGroup : ℕ → Told → Type 0
OfGroup group x = (e : EpochId) (key : ℕ) (file : FileId) → Releases e key file x → file.group ≡ group

pub record TableFine (f : Frame) (past : List Told) (t : SyncTable) (o : Outcome SyncTable) : Type 0 where
  pub fine : Fine f.config f.me (λ (now : List Told). Table now f) past o
  pub group : o.view.group ≡ t.group
  pub here : Every (OfGroup t.group) o.told
  pub none : o.written ≡ None

abbrev pub Lawfully : Frame → List Told → SyncTable → Outcome SyncTable → Type 0
Lawfully f past t o = Laws f.config (onto o.told past) → TableFine f past t o

idle_elsewhere_record : (e : EpochId) (group : ℕ) (r : Record) → IdleRecord r → Elsewhere e group (Shown r)
idle_elsewhere_record e group (says.Release at inst of made) h key file g q = h
idle_elsewhere_record e group _ h key file g q = absurd g

idle_elsewhere : (e : EpochId) (group : ℕ) (x : Told) → Idle x → Elsewhere e group x
idle_elsewhere e group (Shown r) h key file g q = idle_elsewhere_record e group r h key file g q
idle_elsewhere e group _ h key file g q = absurd g

pub idle_group : (group : ℕ) (x : Told) → Idle x → OfGroup group x
idle_group group x h e key file g = absurd (idle_elsewhere e file.group x h key file g refl)

pub idle_groups : (group : ℕ) (xs : List Told) → Every Idle xs → Every (OfGroup group) xs
idle_groups group [] h = tt
idle_groups group (x ∷ xs) h = (idle_group group x h.0, idle_groups group xs h.1)

pub table_idle : (f : Frame) (told past : List Told) (t : SyncTable) → Laws f.config (onto told past) → Every Idle told → Table past f t → Table (onto told past) f t
table_idle f told past t l idle h = fold f.config f.me Idle (λ (now : List Told). Table now f t) (λ x now lx kx n g. table_after f.config f.me x now lx kx f t (idle_elsewhere f.epoch t.group x n) g) told past l (idle_go f.config past f.me told idle) idle h

-- a table that has this row, and tells nothing that counts
puts_fine : (f : Frame) (past : List Told) (t : SyncTable) (r : OpenRow) (ps : List Packet) (told : List Told) → Laws f.config (onto told past) → Every Idle told → RowOpens (onto told past) f r → Every (PacketCovers (onto told past)) ps → Table past f t → TableFine f past t (record { view = with_open r t; sent = ps; told = told; written = None })
puts_fine f past t r ps told l idle k sent h =
    let g : Table (onto told past) f t = table_idle f told past t l idle h in
    record {
      fine = record { view = record { synced = g.synced; full = g.full; covers = g.covers; released = g.released; opens = every_latest (RowOpens (onto told past) f) open_key r t.opens k g.opens; looks = g.looks }; sent = sent; goes = idle_go f.config past f.me told idle; disk = tt };
      group = refl;
      here = idle_groups t.group told idle;
      none = refl;
    }

pub sends_fine : (f : Frame) (past : List Told) (t : SyncTable) (ps : List Packet) → Every (PacketCovers past) ps → Table past f t → TableFine f past t (sends ps t)
sends_fine f past t ps k h = record { fine = record { view = h; sent = k; goes = tt; disk = tt }; group = refl; here = tt; none = refl }

pub quiet_fine : (f : Frame) (past : List Told) (t : SyncTable) → Table past f t → TableFine f past t (quiet t)
quiet_fine f past t h = record { fine = record { view = h; sent = tt; goes = tt; disk = tt }; group = refl; here = tt; none = refl }

-- ---- a grant ----

awake_member : (b : Bool) → b ≡ false → not b ≡ true
awake_member true e = absurd (cc)
awake_member false e = refl

zero_test : (a : ℕ) → (a ≡ 0 → ⊥) → (a == 0) ≡ false
zero_test a h = by_test (a == 0) refl
  where
    by_test : (b : Bool) → (a == 0) ≡ b → b ≡ false
    by_test true e = absurd (h (grind (arith, nat_tests)))
    by_test false e = refl

counts_le : (a b : List ℕ) (s n : ℕ) → AllLe a b → Counts a s n → Counts b s n
counts_le a b s n h k = let q : part a (s - 1) ≤ part b (s - 1) = h.each (s - 1) in omega (arith, q, k)

-- the storage site was asked a plain open, which this grant tells
grant_opens : (f : Frame) (past : List Told) (t : SyncTable) (us : ℕ) (o : OpenRequest) (ss : ℕ) (stamp : Option Stamp) (vector : List ℕ) (parents : List Stamp) (set : Sites) (k : Kind) →
    Laws f.config (grant_record f (asked_row us o ss stamp vector parents set k) ∷ past) → IsOfAFile (mode_of o.how) → t.started ≡ true → o.file.group ≡ t.group → (is_read (mode_of o.how) ≡ false → AllLe (joins (kept (file_row t o.file.ino))) vector) → Table past f t →
    Opens (grant_record f (asked_row us o ss stamp vector parents set k) ∷ past) f.epoch (boot_in f.members.boot ss) ss (serial_key (record { us = us; serial = o.serial })) o.file (mode_of o.how) vector
grant_opens f past t us o ss stamp vector parents set k l it started group le h = record { granted = inl (refl, refl, refl, refl); joined = λ a. joined_later x past ss f.epoch (covers a).joined; each = λ a here n m. each a here n (made_before x past ss o.file n (λ g j q. q) m) }
  where
    x : Told
    x = grant_record f (asked_row us o ss stamp vector parents set k)

    key : ℕ
    key = serial_key (record { us = us; serial = o.serial })

    m : Mode
    m = mode_of o.how

    covers : Asks (boot_in f.members.boot ss) ss m → Covers past ss f.epoch t.group (InKept t ss)
    covers a = h.covers ss a.0 (h.full started ss a.0 (subst (λ (g : ℕ). HasPack f.config g ss) group l.packs.0) (awake_member (boot_in f.members.boot ss == 0) (zero_test (boot_in f.members.boot ss) a.2)))

    Fact : ℕ → Type 0
    Fact n = Counts vector ss n ⊎ (Under (x ∷ past) ss f.epoch key o.file n ⊎ IsOver (x ∷ past) f.epoch key)

    in_kept : Asks (boot_in f.members.boot ss) ss m → (n : ℕ) → InKept t ss o.file n → Fact n
    in_kept a n q = inl (counts_le (joins (kept (file_row t o.file.ino))) vector ss n (le a.1) q)

    writer : Asks (boot_in f.members.boot ss) ss m → (n : ℕ) (w : ByWriter past ss f.epoch o.file n) → ((is_read m ≡ true) × (is_read w.mode ≡ true)) ⊎ OverAs past f.epoch w.key w.mode → Fact n
    writer a n w (inl both) = absurd (true_false (is_read w.mode) both.1 w.writes)
    writer a n w (inr r) = in_kept a n (h.released ss w.key o.file n group (granted_released f.config past ss f.epoch w.key o.file w.mode (laws_older f.config x past l) w.granted (under_begun past ss f.epoch w.key o.file n w.made) r) w.made)

    by_case : Asks (boot_in f.members.boot ss) ss m → (n : ℕ) → InKept t ss o.file n ⊎ ByWriter past ss f.epoch o.file n → Fact n
    by_case a n (inl q) = in_kept a n q
    by_case a n (inr w) = writer a n w (l.locked.0 f.epoch key o.file m (refl, refl, refl, refl, it) w.key w.mode (granted_held past f.epoch w.key o.file w.mode l.reserved.1 w.granted))

    each : Asks (boot_in f.members.boot ss) ss m → Here (x ∷ past) ss f.epoch → (n : ℕ) → WasMade past ss o.file n → Fact n
    each a here n made = by_case a n ((covers a).each (here_before x past ss f.epoch l.joins.0 (covers a).joined here) o.file n group made)

-- a plain open that is granted at once
plainly : (f : Frame) (past : List Told) (t : SyncTable) (us : ℕ) (o : OpenRequest) (ss : ℕ) (stamp : Option Stamp) (vector : List ℕ) (parents : List Stamp) (set : Sites) (k : Kind) → IsOfAFile (mode_of o.how) →
    Laws f.config (grant_record f (asked_row us o ss stamp vector parents set k) ∷ past) → t.started ≡ true → o.file.group ≡ t.group → (IsOfAFile (mode_of o.how) → is_read (mode_of o.how) ≡ false → AllLe (joins (kept (file_row t o.file.ino))) vector) → Table past f t →
    TableFine f past t (record { view = with_open (asked_row us o ss stamp vector parents set k) t; sent = (decides f t us o (Grants ss stamp vector parents set k)).sent; told = grant_record f (asked_row us o ss stamp vector parents set k) ∷ []; written = None })
plainly f past t us o ss stamp vector parents set k it l started group le h =
    let q : Opens (grant_record f (asked_row us o ss stamp vector parents set k) ∷ past) f.epoch (boot_in f.members.boot ss) ss (serial_key (record { us = us; serial = o.serial })) o.file (mode_of o.how) vector = grant_opens f past t us o ss stamp vector parents set k l it started group (le it) h in
    puts_fine f past t (asked_row us o ss stamp vector parents set k) _ (grant_record f (asked_row us o ss stamp vector parents set k) ∷ []) l (tt, tt) (λ p. q) ((λ p. q), tt) h

-- by its mode: but for a make, the grant is told at once
asks_fine : (f : Frame) (past : List Told) (t : SyncTable) (us : ℕ) (o : OpenRequest) (ss : ℕ) (stamp : Option Stamp) (vector : List ℕ) (parents : List Stamp) (set : Sites) (k : Kind) (m : Mode) → mode_of o.how ≡ m →
    Laws f.config (onto (granted_at_once f (asked_row us o ss stamp vector parents set k) m) past) → t.started ≡ true → o.file.group ≡ t.group → (IsOfAFile (mode_of o.how) → is_read (mode_of o.how) ≡ false → AllLe (joins (kept (file_row t o.file.ino))) vector) → Table past f t →
    TableFine f past t (record { view = with_open (asked_row us o ss stamp vector parents set k) t; sent = (decides f t us o (Grants ss stamp vector parents set k)).sent; told = granted_at_once f (asked_row us o ss stamp vector parents set k) m; written = None })
asks_fine f past t us o ss stamp vector parents set k mode.Make e l started group le h = puts_fine f past t (asked_row us o ss stamp vector parents set k) _ [] l tt (λ it. absurd (subst IsOfAFile e it)) ((λ it. absurd (subst IsOfAFile e it)), tt) h
asks_fine f past t us o ss stamp vector parents set k mode.Read e l started group le h = plainly f past t us o ss stamp vector parents set k (subst IsOfAFile (sym e) tt) l started group le h
asks_fine f past t us o ss stamp vector parents set k mode.Write e l started group le h = plainly f past t us o ss stamp vector parents set k (subst IsOfAFile (sym e) tt) l started group le h
asks_fine f past t us o ss stamp vector parents set k mode.Resolve e l started group le h = plainly f past t us o ss stamp vector parents set k (subst IsOfAFile (sym e) tt) l started group le h
asks_fine f past t us o ss stamp vector parents set k mode.Mend e l started group le h = plainly f past t us o ss stamp vector parents set k (subst IsOfAFile (sym e) tt) l started group le h

decides_fine : (f : Frame) (past : List Told) (t : SyncTable) (us : ℕ) (o : OpenRequest) (d : Decision) → Laws f.config (onto (decides f t us o d).told past) → t.started ≡ true → o.file.group ≡ t.group → (IsOfAFile (mode_of o.how) → Enough (mode_of o.how) (kept (file_row t o.file.ino)) d) → Table past f t → TableFine f past t (decides f t us o d)
decides_fine f past t us o (Denies why) l started group le h = puts_fine f past t (denied_row us o why) _ _ l (tt, tt) tt (tt, tt) h
decides_fine f past t us o (Grants ss stamp vector parents set k) l started group le h = asks_fine f past t us o ss stamp vector parents set k (mode_of o.how) refl l started group le h

repeats_covers : (f : Frame) (past : List Told) (r : OpenRow) (g : OpenStage) → StageOpens past f r g → Every (PacketCovers past) (repeats_open f r g)
repeats_covers f past r stage.Asked h = (h, tt)
repeats_covers f past r stage.Granted h = (tt, tt)
repeats_covers f past r (stage.Refused why) h = (tt, tt)
repeats_covers f past r stage.Ended h = tt

open_of_fine : (f : Frame) (past : List Told) (t : SyncTable) (us : ℕ) (o : OpenRequest) (r : Option OpenRow) → Laws f.config (onto (on_open_of f t us o r).told past) → t.started ≡ true → o.file.group ≡ t.group → Found (RowOpens past f) r → Table past f t → TableFine f past t (on_open_of f t us o r)
open_of_fine f past t us o None l started group k h = decides_fine f past t us o (decision f t us o o.how) l started group (λ it. decision_enough f t us o o.how it) h
open_of_fine f past t us o (Some r) l started group k h = sends_fine f past t (repeats_open f r r.stage) (repeats_covers f past r r.stage k) h

pub takes_open_fine : (f : Frame) (past : List Told) (us : ℕ) (o : OpenRequest) (t : SyncTable) → Laws f.config (onto (takes_open f us o t).told past) → t.started ≡ true → o.file.group ≡ t.group → Table past f t → TableFine f past t (takes_open f us o t)
takes_open_fine f past us o t l started group h = open_of_fine f past t us o (open_row t (record { us = us; serial = o.serial })) l started group (row_found (RowOpens past f) open_key _ t.opens h.opens) h

-- ---- the storage site's answer ----

last_idle : (f : Frame) (r : OpenRow) (m : Mode) → Every Idle (granted_at_last f r m)
last_idle f r mode.Make = (tt, tt)
last_idle f r mode.Read = tt
last_idle f r mode.Write = tt
last_idle f r mode.Resolve = tt
last_idle f r mode.Mend = tt

answers_fine : (f : Frame) (past : List Told) (r : OpenRow) (a : OpenedAs) (t : SyncTable) → Laws f.config (onto (answers_open f r a t).told past) → Table past f t → TableFine f past t (answers_open f r a t)
answers_fine f past r (opened.Open ino size) t l h = puts_fine f past t (granted_row r ino size) _ _ l (last_idle f (granted_row r ino size) r.mode) tt (tt, tt) h
answers_fine f past r (opened.No why) t l h = puts_fine f past t (record r { stage = stage.Refused why }) _ _ l (tt, tt) tt (tt, tt) h

by_stage_fine : (f : Frame) (past : List Told) (r : OpenRow) (a : OpenedAs) (g : OpenStage) (t : SyncTable) → Laws f.config (onto (by_stage f r a g t).told past) → Table past f t → TableFine f past t (by_stage f r a g t)
by_stage_fine f past r a stage.Asked t l h = answers_fine f past r a t l h
by_stage_fine f past r a stage.Granted t l h = quiet_fine f past t h
by_stage_fine f past r a (stage.Refused why) t l h = quiet_fine f past t h
by_stage_fine f past r a stage.Ended t l h = quiet_fine f past t h

opened_of_fine : (f : Frame) (past : List Told) (a : OpenedAs) (o : Option OpenRow) (t : SyncTable) → Laws f.config (onto (on_opened_of f a o t).told past) → Table past f t → TableFine f past t (on_opened_of f a o t)
opened_of_fine f past a None t l h = quiet_fine f past t h
opened_of_fine f past a (Some r) t l h = by_stage_fine f past r a r.stage t l h

pub on_opened_fine : (f : Frame) (past : List Told) (inst : Serial) (a : OpenedAs) (t : SyncTable) → Laws f.config (onto (on_opened f inst a t).told past) → Table past f t → TableFine f past t (on_opened f inst a t)
on_opened_fine f past inst a t l h = opened_of_fine f past a (open_row t inst) t l h

-- ---- looks ----

serving_bare : (us : ℕ) (l : LookRequest) (r : FileRow) (v : VersionRow) (site : ℕ) (w : What) → NoFact (serving_letter us l r v site w).body
serving_bare us l r v site (what.Name component) = tt
serving_bare us l r v site what.List = tt
serving_bare us l r v site what.Stat = tt
serving_bare us l r v site (what.Whole stamp) = tt

letter_bare : (us : ℕ) (l : LookRequest) (known : Option FileRow) (s : Service) → NoFact (letter us l known s).body
letter_bare us l known (Unserved why) = tt
letter_bare us l None (Serves v site) = tt
letter_bare us l (Some r) (Serves v site) = serving_bare us l r v site l.what

new_look_fine : (f : Frame) (past : List Told) (us : ℕ) (q : LookRequest) (known : Option FileRow) (t : SyncTable) → Laws f.config (onto (new_look f us q known t).told past) → Table past f t → TableFine f past t (new_look f us q known t)
new_look_fine f past us q known t l h =
    let s : Service = service f us q.what known in
    let a : NoFact (letter us q known s).body = letter_bare us q known s in
    let now : List Told = onto (new_look f us q known t).told past in
    let k : Table now f t = table_idle f (new_look f us q known t).told past t l (tt, tt) h in
    record {
      fine = record {
        view = record { synced = k.synced; full = k.full; covers = k.covers; released = k.released; opens = k.opens; looks = every_row LookFact look_key (last_look us q (letter us q known s)) t.looks a h.looks };
        sent = (bare_body now f.me _ _ f.epoch (letter us q known s).body (factless_body (letter us q known s).body a), tt);
        goes = (tt, tt);
        disk = tt;
      };
      group = refl;
      here = idle_groups t.group (new_look f us q known t).told (tt, tt);
      none = refl;
    }

after_last_fine : (f : Frame) (past : List Told) (us : ℕ) (q : LookRequest) (o : Option LastLook) (t : SyncTable) → Laws f.config (onto (after_last f us q o t).told past) → Found LookFact o → Table past f t → TableFine f past t (after_last f us q o t)
after_last_fine f past us q None t l k h = new_look_fine f past us q (file_row t q.file.ino) t l h
after_last_fine f past us q (Some last) t l k h =
    (elim (is_look_before q last) as (λ b. Lawfully f past t (elim b [ true ↦ quiet t | false ↦ elim (is_same_look q last) [ true ↦ sends (packet f last.to last.body ∷ []) t | false ↦ new_look f us q (file_row t q.file.ino) t ] ])) [
      | true ↦ λ g. quiet_fine f past t h
      | false ↦ elim (is_same_look q last) as (λ b. Lawfully f past t (elim b [ true ↦ sends (packet f last.to last.body ∷ []) t | false ↦ new_look f us q (file_row t q.file.ino) t ])) [
        | true ↦ λ g. sends_fine f past t (packet f last.to last.body ∷ []) (bare_body past f.me _ _ f.epoch last.body (factless_body last.body k), tt) h
        | false ↦ λ g. new_look_fine f past us q (file_row t q.file.ino) t g h
      ]
    ]) l

pub takes_look_fine : (f : Frame) (past : List Told) (us : ℕ) (q : LookRequest) (t : SyncTable) → Laws f.config (onto (takes_look f us q t).told past) → Table past f t → TableFine f past t (takes_look f us q t)
takes_look_fine f past us q t l h = after_last_fine f past us q (row look_key (process_key us q.process) t.looks) t l (row_found LookFact look_key (process_key us q.process) t.looks h.looks) h

-- ---- requests before the start ----

cond_kept : (P : SyncTable → Type 0) (b : Bool) (t u : SyncTable) → P t → P u → P (cond b t u)
cond_kept P true t u h g = h
cond_kept P false t u h g = g

waits_fine : (f : Frame) (past : List Told) (site process : ℕ) (b : Body) (t : SyncTable) → Table past f t → TableFine f past t (quiet (waits_early site process b t))
waits_fine f past site process b t h =
    cond_kept (λ (u : SyncTable). TableFine f past t (quiet u)) (list_any (is_early_of site process) t.early) t (record t { early = t.early ++ record { site = site; process = process; body = b } ∷ [] }) (quiet_fine f past t h)
    (record { fine = record { view = record { synced = h.synced; full = h.full; covers = h.covers; released = h.released; opens = h.opens; looks = h.looks }; sent = tt; goes = tt; disk = tt }; group = refl; here = tt; none = refl })

pub on_open_fine : (f : Frame) (past : List Told) (us : ℕ) (o : OpenRequest) (t : SyncTable) → Laws f.config (onto (on_open f us o t).told past) → o.file.group ≡ t.group → Table past f t → TableFine f past t (on_open f us o t)
on_open_fine f past us o t l group h =
    (elim t.started as (λ b. t.started ≡ b → Lawfully f past t (elim b [ true ↦ takes_open f us o t | false ↦ quiet (waits_early us o.process (body.Open o.serial o.call o.process o.request o.file o.how) t) ])) [
      | true ↦ λ e g. takes_open_fine f past us o t g e group h
      | false ↦ λ e g. waits_fine f past us o.process (body.Open o.serial o.call o.process o.request o.file o.how) t h
    ]) refl l

pub on_look_fine : (f : Frame) (past : List Told) (us : ℕ) (q : LookRequest) (t : SyncTable) → Laws f.config (onto (on_look f us q t).told past) → Table past f t → TableFine f past t (on_look f us q t)
on_look_fine f past us q t l h =
    (elim t.started as (λ b. Lawfully f past t (elim b [ true ↦ takes_look f us q t | false ↦ quiet (waits_early us q.process (body.Look q.call q.process q.request q.take q.file q.what) t) ])) [
      | true ↦ λ g. takes_look_fine f past us q t g h
      | false ↦ λ g. waits_fine f past us q.process (body.Look q.call q.process q.request q.take q.file q.what) t h
    ]) l
