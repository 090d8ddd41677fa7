-- Commits and closes at a storage site: a commit is by the next number, and a close counts what was made.
use Rattle.std.proofs.Common.{◌≡◌, ◌≢◌, ◌≤◌, ◌<◌, ℕ, ◌+◌, ◌-◌, ◌==◌, true, false, ◌⊎◌, List, ◌∷◌, Option, Some, None, refl, sym, ◌∙◌, ap, subst, inl, inr, arith}
use Rattle.std.proofs.lemmas.Bool.Decides.{nat_tests}
use Rattle.role_steps.proofs.of_plain_facts.Numbers.{apart_test}
use Rattle.locus_ids.specs.declared.ids.FileId.{FileId}
use Rattle.locus_ids.specs.declared.ids.Serial.{Serial}
use Rattle.locus_ids.specs.declared.ids.Stamp.{Stamp}
use Rattle.locus_ids.specs.declared.config.Config.{Config}
use Rattle.locus_ids.specs.declared.refusal.Refusal.TheVariants as refusal
use Rattle.locus_ids.specs.Sizes.{inode_span}
use Rattle.version_vector.specs.Counters.{part}
use Rattle.version_vector.proofs.Counting.{part-raised_same}
use Rattle.wire_messages.specs.declared.body.Body.TheVariants as body
use Rattle.wire_messages.specs.declared.body.MadeVersion.{MadeVersion}
use Rattle.wire_messages.specs.declared.body.CloseAnswer.{CloseAnswer}
use Rattle.wire_messages.specs.declared.body.CloseAnswer.TheVariants as closing
use Rattle.role_steps.specs.Own.{Every}
use Rattle.role_steps.specs.Tables.{row, with_row}
use Rattle.role_steps.specs.Views.{Frame, Store, Told, Shown, Shuts, and_then, serial_key, file_key}
use Rattle.role_steps.specs.Storage.{copy_key, copy_of, instance_key, instance_of, max_counter, is_spent, copy_made, commit_record, instance_committed, commits, next_stamp, next_vector, made_version, shut, closed_packets, shuts, shuts_again, closes_owing, closes, on_close_at, on_close_of, on_close, ends_at, on_closed_ok_of, on_closed_ok, closed_again, store_repeats}
use Rattle.role_steps.specs.declared.copies.FileCopy.{FileCopy}
use Rattle.role_steps.specs.declared.instances.Instance.{Instance}
use Rattle.role_steps.specs.declared.instances.Stage.{Stage}
use Rattle.role_steps.specs.declared.instances.Stage.TheVariants as stage
use Rattle.role_steps.proofs.Rows.{row_other, row_same}
use Rattle.the_run.proofs.Boots.{at_each}
use Rattle.the_run.proofs.InsideSync.{Found, row_found}
use Rattle.site_laws.specs.Vectors.Facts.{onto}
use Rattle.site_laws.proofs.Vectors.SyncFacts.{every_flat}
use Rattle.site_laws.specs.Locks.Going.{WasShutAt, WasReleased, IsGranted}
use Rattle.site_laws.specs.Locks.Grants.{WasGrantedAs}
use Rattle.site_laws.proofs.Locks.GrantTold.{latest_same}
use Rattle.site_laws.specs.Kept.StampCommits.{MadeAt, WasMade, Under, Counts}
use Rattle.site_laws.specs.Kept.StampLaws.{Laws}
use Rattle.site_laws.specs.Kept.StampCovering.{InMade, Closes, PacketCovers, InWork, Runs, StageRuns, RunsThere, StageCloses, IsClosing, CopyCounts, DiskCounts, NewCounts, ByOpen, IsNext}
use Rattle.site_laws.proofs.Kept.StampTold.{laws_older, laws_before, holds_later}
use Rattle.site_laws.proofs.Kept.StampFrames.{Maker, under_before, runs_beside, closings_after, copy_beside, there_after, disk_after}
use Rattle.site_laws.proofs.Kept.StampOutcomes.{then_fine}
use Rattle.site_laws.proofs.Kept.StampStoreCovers.{Stored, InStore, StoreFine, Knows, sends_fine, quiet_fine, sync_covers, found_key, put_instance, Lawfully, MayCommit, may_commit, unreleased, grant_of, made_of}

-- ---- copies ----

pub key_file : (a b : FileId) → a.ino < inode_span → b.ino < inode_span → file_key a ≡ file_key b → a ≡ b
key_file a b h g e = id_eq group ino
  where
    group : a.group ≡ b.group
    group = omega (arith, h, g, e)

    ino : a.ino ≡ b.ino
    ino = omega (arith, h, g, e)

    id_eq : a.group ≡ b.group → a.ino ≡ b.ino → a ≡ b
    id_eq e f = λ i. record { group = e i; ino = f i }

-- a copy that counts takes the place of the one of its file
pub put_copy : (x : Told) (past : List Told) (s : ℕ) (y : FileCopy) (copies : List FileCopy) → ((g : FileId) (n : ℕ) → MadeAt s g n x → g ≡ y.file) → NewCounts (x ∷ past) s y → DiskCounts past s copies → DiskCounts (x ∷ past) s (with_row copy_key y copies)
put_copy x past s y copies only new h file small = at_each (copy_key y) (file_key file) (CopyCounts (x ∷ past) s file (row copy_key (file_key file) (with_row copy_key y copies)))
    (λ same. subst (λ (k : ℕ). CopyCounts (x ∷ past) s file (row copy_key k (with_row copy_key y copies))) same (subst (CopyCounts (x ∷ past) s file) (sym (row_same copy_key y copies)) (here (key_file y.file file new.fits small same))))
    (λ ne. subst (CopyCounts (x ∷ past) s file) (sym (row_other copy_key y (file_key file) copies (apart_test (copy_key y) (file_key file) ne))) (copy_beside x past s file (row copy_key (file_key file) copies) (λ n m. ne (ap file_key (sym (only file n m)))) (h file small)))
  where
    here : y.file ≡ file → (y.file ≡ file) × ((n : ℕ) → WasMade (x ∷ past) s file n → Counts y.vector s n)
    here e = (e, λ n m. new.each n (subst (λ (g : FileId). WasMade (x ∷ past) s g n) (sym e) m))

-- ---- a commit ----

not_spent : (a b : ℕ) → (a == b) ≡ false → a ≤ b → a + 1 ≤ b
not_spent a b e h = grind (arith, nat_tests)

pub commits_fine : (c : Config) (past : List Told) (f : Frame) (i : Instance) (s : Store) → Laws c (Shown (commit_record f i (next_stamp f (next_vector f i))) ∷ past) → i.work.owes ≡ true → is_spent f i ≡ false → MayCommit past f i → Stored past f s → StoreFine c f past (commits f i s)
commits_fine c past f i s l owes free k h = record {
  view = record {
    disk = put_copy x past f.me y s.copies only new h.disk;
    instances = put_instance now f.me f.epoch j s.instances (subst (StageRuns now f.me f.epoch j) (sym k.running) runs) (subst (StageCloses now f.me f.epoch key) (sym k.running) tt) others (closings_after x past f.me f.epoch s.instances h.instances.close);
  };
  sent = tt;
  goes = ((refl, next), tt);
  disk = ((refl, next), new);
}
  where
    vector : List ℕ
    vector = next_vector f i

    stamp : Stamp
    stamp = next_stamp f vector

    x : Told
    x = Shown (commit_record f i stamp)

    now : List Told
    now = x ∷ past

    key : ℕ
    key = serial_key i.inst

    y : FileCopy
    y = copy_made i vector stamp

    j : Instance
    j = instance_committed i vector stamp

    before : Laws c past
    before = laws_older c x past l

    granted : WasGrantedAs past f.epoch key i.file i.mode
    granted = grant_of c past f.me f.epoch key i.file i.mode before k.runs.begun k.granted k.runs.holds

    by : ByOpen past f.me i.file
    by = record { epoch = f.epoch; key = key; mode = i.mode; here = k.here; begun = k.runs.begun; granted = granted; writes = k.writes owes; unreleased = unreleased c past f i before k; unshut = k.unshut }

    number : stamp.n ≡ part i.vector (f.me - 1) + 1
    number = part-raised_same i.vector (f.me - 1)

    counted : (n : ℕ) → WasMade past f.me i.file n → n ≤ part i.vector (f.me - 1)
    counted n m = by_case (k.runs.each (k.writes owes) n m)
      where
        by_case : Counts i.vector f.me n ⊎ WasReleased past f.epoch key → n ≤ part i.vector (f.me - 1)
        by_case (inl q) = q
        by_case (inr z) = absurd (unreleased c past f i before k z)

    above : (n : ℕ) → WasMade past f.me i.file n → n < stamp.n
    above n m = let q : n ≤ part i.vector (f.me - 1) = counted n m in omega (arith, q, number)

    next : IsNext past f.me i.file stamp
    next = record { by = by; above = above; fits = (let q : part i.vector (f.me - 1) + 1 ≤ max_counter = not_spent (part i.vector (f.me - 1)) max_counter free k.low in subst (λ (n : ℕ). n ≤ max_counter) (sym number) q) }

    only : (g : FileId) (n : ℕ) → MadeAt f.me g n x → g ≡ i.file
    only g n m = sym m.0

    -- the new version counts all commits of the file here
    each : (g : FileId) → g ≡ i.file → (n : ℕ) → WasMade now f.me g n → n ≤ stamp.n
    each g e n (inl m) = let q : stamp.n ≡ n = m.2 in omega (arith, q)
    each g e n (inr m) = let q : n < stamp.n = above n (subst (λ (o : FileId). WasMade past f.me o n) e m) in omega (arith, q)

    new : NewCounts now f.me y
    new = record { fits = l.fit.0; each = λ n m. each i.file refl n m }

    runs : Runs now f.me f.epoch j
    runs = record {
      holds = holds_later x past f.me f.epoch key i.file i.mode k.runs.holds;
      begun = inr k.runs.begun;
      each = λ writes n m. inl (each i.file refl n m);
      made = λ n u. inl (each i.file refl n (made_of now f.me f.epoch key i.file n u));
    }

    maker : Maker past f.me f.epoch i.file
    maker = record { key = key; mode = i.mode; begun = k.runs.begun; granted = granted; writes = k.writes owes; unreleased = unreleased c past f i before k; unshut = k.unshut }

    beside : (k : ℕ) → key ≢ k → (o : Option Instance) → row instance_key k s.instances ≡ o → RunsThere past f.me f.epoch o → RunsThere now f.me f.epoch o
    beside k ne None e r = tt
    beside k ne (Some q) e r = by_stage q.stage r
      where
        by_stage : (g : Stage) → StageRuns past f.me f.epoch q g → StageRuns now f.me f.epoch q g
        by_stage stage.Running r = runs_beside c x past f.me f.epoch q i.file before maker (λ same. ne (sym same ∙ found_key instance_key k s.instances q e)) only r
        by_stage (stage.Closing made a) r = tt
        by_stage (stage.Closed a) r = tt

    others : (k : ℕ) → instance_key j ≢ k → RunsThere now f.me f.epoch (row instance_key k s.instances)
    others k ne = beside k ne (row instance_key k s.instances) refl (h.instances.run k)

-- after it the instance may go on
pub committed_runs : (c : Config) (past : List Told) (f : Frame) (i : Instance) (s : Store) → Laws c (Shown (commit_record f i (next_stamp f (next_vector f i))) ∷ past) → i.work.owes ≡ true → is_spent f i ≡ false → MayCommit past f i → Stored past f s → Runs (Shown (commit_record f i (next_stamp f (next_vector f i))) ∷ past) f.me f.epoch (instance_committed i (next_vector f i) (next_stamp f (next_vector f i)))
committed_runs c past f i s l owes free k h =
    let x : Told = Shown (commit_record f i (next_stamp f (next_vector f i))) in
    let j : Instance = instance_committed i (next_vector f i) (next_stamp f (next_vector f i)) in
    let q : StoreFine c f past (commits f i s) = commits_fine c past f i s l owes free k h in
    subst (StageRuns (x ∷ past) f.me f.epoch j) k.running (subst (RunsThere (x ∷ past) f.me f.epoch) (latest_same instance_key j s.instances) (q.view.instances.run (serial_key i.inst)))

-- ---- closes ----

in_made : (i : Instance) (x : Option FileCopy) (o : Option Stamp) (s n : ℕ) → InWork o i.vector s n → InMade (made_version i x o) s n
in_made i x None s n h = h
in_made i x (Some stamp) s n h = h

-- an instance that runs, was begun and isn't shut
record MayShut (past : List Told) (f : Frame) (i : Instance) : Type 0 where
  unshut : WasShutAt past f.me f.epoch (serial_key i.inst) → ⊥
  unreleased : WasReleased past f.epoch (serial_key i.inst) → ⊥
  runs : Runs past f.me f.epoch i

shuts_fine : (c : Config) (past : List Told) (f : Frame) (i : Instance) (a : CloseAnswer) (s : Store) → MayShut past f i → Stored past f s → StoreFine c f past (shuts f i a s)
shuts_fine c past f i a s k h = record {
  view = record { disk = disk_after x past f.me s.copies (λ g n m. m) h.disk; instances = put_instance now f.me f.epoch (shut i made a) s.instances tt closed (λ key ne. there_after x past f.me f.epoch (row instance_key key s.instances) (λ g n m. m) (h.instances.run key)) (closings_after x past f.me f.epoch s.instances h.instances.close) };
  sent = sync_covers now f i.file.group (body.Closed i.inst made) (λ to boot. closed);
  goes = (tt, tt);
  disk = tt;
}
  where
    x : Told
    x = Shuts f.me f.epoch i.inst

    now : List Told
    now = x ∷ past

    made : Option MadeVersion
    made = made_version i (copy_of s i.file) i.work.committed

    each : (n : ℕ) → Under past f.me f.epoch (serial_key i.inst) i.file n → InMade made f.me n
    each n u = by_case (k.runs.made n u)
      where
        by_case : InWork i.work.committed i.vector f.me n ⊎ WasReleased past f.epoch (serial_key i.inst) → InMade made f.me n
        by_case (inl q) = in_made i (copy_of s i.file) i.work.committed f.me n q
        by_case (inr z) = absurd (k.unreleased z)

    closed : Closes now f.me f.epoch (serial_key i.inst) made
    closed = record { file = i.file; begun = inr k.runs.begun; shut = inl (refl, refl, refl); each = λ n u. each n (under_before x past f.me f.epoch (serial_key i.inst) i.file n (λ g m q. q) u) }

may_shut : (c : Config) (past : List Told) (f : Frame) (i : Instance) → Laws c past → MayCommit past f i → MayShut past f i
may_shut c past f i l k = record { unshut = k.unshut; unreleased = unreleased c past f i l k; runs = k.runs }

owing_fine : (c : Config) (past : List Told) (f : Frame) (i : Instance) (s : Store) → Laws c (onto (closes_owing f i s).told past) → i.work.owes ≡ true → MayCommit past f i → Stored past f s → StoreFine c f past (closes_owing f i s)
owing_fine c past f i s l owes k h =
    (elim (is_spent f i) as (λ b. is_spent f i ≡ b → Lawfully c f past (elim b [ true ↦ shuts f i (closing.No refusal.Spent) s | false ↦ and_then (commits f i s) (λ now. shuts_again f (closing.Made (next_stamp f (next_vector f i))) (instance_of now i.inst) now) ])) [
      | true ↦ λ e g. shuts_fine c past f i (closing.No refusal.Spent) s (may_shut c past f i (laws_older c _ past g) k) h
      | false ↦ λ e g. both e g
    ]) refl l
  where
    x : Told
    x = Shown (commit_record f i (next_stamp f (next_vector f i)))

    j : Instance
    j = instance_committed i (next_vector f i) (next_stamp f (next_vector f i))

    a : CloseAnswer
    a = closing.Made (next_stamp f (next_vector f i))

    now : Store
    now = (commits f i s).view

    found : instance_of now i.inst ≡ Some j
    found = latest_same instance_key j s.instances

    Both : Option Instance → Type 0
    Both o = Laws c (onto (shuts_again f a o now).told (x ∷ past)) → StoreFine c f (x ∷ past) (shuts_again f a o now)

    last : Laws c (x ∷ past) → is_spent f i ≡ false → Both (Some j)
    last m e g = shuts_fine c (x ∷ past) f j a now (record {
      unshut = λ z. shut_before z;
      unreleased = λ z. released_before z;
      runs = committed_runs c past f i s m owes e k h;
    }) (commits_fine c past f i s m owes e k h).view
      where
        shut_before : WasShutAt (x ∷ past) f.me f.epoch (serial_key i.inst) → ⊥
        shut_before (inl z) = z
        shut_before (inr z) = k.unshut z

        released_before : WasReleased (x ∷ past) f.epoch (serial_key i.inst) → ⊥
        released_before (inl z) = z
        released_before (inr z) = unreleased c past f i (laws_older c x past m) k z

    both : is_spent f i ≡ false → Laws c (onto (and_then (commits f i s) (λ v. shuts_again f a (instance_of v i.inst) v)).told past) → StoreFine c f past (and_then (commits f i s) (λ v. shuts_again f a (instance_of v i.inst) v))
    both e g =
        let m : Laws c (x ∷ past) = laws_before c (shuts_again f a (instance_of now i.inst) now).told (x ∷ past) g in
        then_fine c f.me (InStore f) (InStore f) past (commits f i s) (shuts_again f a (instance_of now i.inst) now) g (commits_fine c past f i s m owes e k h) (subst Both (sym found) (last m e) g) (none (instance_of now i.inst))
      where
        none : (o : Option Instance) → (shuts_again f a o now).written ≡ None
        none None = refl
        none (Some q) = refl

closes_fine : (c : Config) (past : List Told) (f : Frame) (i : Instance) (s : Store) → Laws c (onto (closes f i s).told past) → MayCommit past f i → Stored past f s → StoreFine c f past (closes f i s)
closes_fine c past f i s l k h =
    (elim i.work.owes as (λ b. i.work.owes ≡ b → Lawfully c f past (elim b [ true ↦ closes_owing f i s | false ↦ shuts f i closing.Nothing s ])) [
      | true ↦ λ e g. owing_fine c past f i s g e k h
      | false ↦ λ e g. shuts_fine c past f i closing.Nothing s (may_shut c past f i (laws_older c _ past g) k) h
    ]) refl l

close_at_fine : (c : Config) (past : List Told) (f : Frame) (inst : Serial) (i : Instance) (g : Stage) (s : Store) → instance_of s inst ≡ Some i → i.stage ≡ g → Laws c (onto (on_close_at f i g s).told past) → IsGranted past f.epoch (serial_key inst) → Knows past f s → StageCloses past f.me f.epoch (serial_key i.inst) g → Stored past f s → StoreFine c f past (on_close_at f i g s)
close_at_fine c past f inst i stage.Running s e at l granted k z h = closes_fine c past f i s l (may_commit past f s inst i e at granted k h) h
close_at_fine c past f inst i (stage.Closing made a) s e at l granted k z h = sends_fine c f past (closed_packets f i made) s (sync_covers past f i.file.group (body.Closed i.inst made) (λ to boot. z)) h
close_at_fine c past f inst i (stage.Closed a) s e at l granted k z h = sends_fine c f past _ s (tt, tt) h

close_of_fine : (c : Config) (past : List Told) (f : Frame) (inst : Serial) (o : Option Instance) (s : Store) → instance_of s inst ≡ o → Laws c (onto (on_close_of f o s).told past) → IsGranted past f.epoch (serial_key inst) → Knows past f s → Found (IsClosing past f.me f.epoch) o → Stored past f s → StoreFine c f past (on_close_of f o s)
close_of_fine c past f inst None s e l granted k z h = quiet_fine c f past s h
close_of_fine c past f inst (Some i) s e l granted k z h = close_at_fine c past f inst i i.stage s e refl l granted k z h

pub on_close_fine : (c : Config) (past : List Told) (f : Frame) (inst : Serial) (s : Store) → Laws c (onto (on_close f inst s).told past) → IsGranted past f.epoch (serial_key inst) → Knows past f s → Stored past f s → StoreFine c f past (on_close f inst s)
on_close_fine c past f inst s l granted k h = close_of_fine c past f inst (instance_of s inst) s refl l granted k (row_found (IsClosing past f.me f.epoch) instance_key (serial_key inst) s.instances h.instances.close) h

ends_fine : (c : Config) (past : List Told) (f : Frame) (i : Instance) (g : Stage) (s : Store) → Stored past f s → StoreFine c f past (ends_at f i g s)
ends_fine c past f i stage.Running s h = quiet_fine c f past s h
ends_fine c past f i (stage.Closing made a) s h = record { view = record { disk = h.disk; instances = put_instance past f.me f.epoch (record i { stage = stage.Closed a }) s.instances tt tt (λ key ne. h.instances.run key) h.instances.close }; sent = (tt, tt); goes = tt; disk = tt }
ends_fine c past f i (stage.Closed a) s h = quiet_fine c f past s h

closed_ok_fine : (c : Config) (past : List Told) (f : Frame) (o : Option Instance) (s : Store) → Stored past f s → StoreFine c f past (on_closed_ok_of f o s)
closed_ok_fine c past f None s h = quiet_fine c f past s h
closed_ok_fine c past f (Some i) s h = ends_fine c past f i i.stage s h

pub on_closed_ok_fine : (c : Config) (past : List Told) (f : Frame) (inst : Serial) (s : Store) → Stored past f s → StoreFine c f past (on_closed_ok f inst s)
on_closed_ok_fine c past f inst s h = closed_ok_fine c past f (instance_of s inst) s h

-- ---- repeats ----

again_covers : (past : List Told) (f : Frame) (i : Instance) (g : Stage) → StageCloses past f.me f.epoch (serial_key i.inst) g → Every (PacketCovers past) (closed_again f i g)
again_covers past f i stage.Running h = tt
again_covers past f i (stage.Closing made a) h = sync_covers past f i.file.group (body.Closed i.inst made) (λ to boot. h)
again_covers past f i (stage.Closed a) h = tt

pub store_repeats_covers : (past : List Told) (f : Frame) (s : Store) → Every (IsClosing past f.me f.epoch) s.instances → Every (PacketCovers past) (store_repeats f s)
store_repeats_covers past f s h = every_flat (IsClosing past f.me f.epoch) (PacketCovers past) (λ (i : Instance). closed_again f i i.stage) s.instances (λ i k. again_covers past f i i.stage k) h
