-- A storage site's copies and running instances count its commits, and it commits by the next number.
use Rattle.std.proofs.Common.{◌≡◌, ◌≢◌, ◌≤◌, ℕ, ◌-◌, true, false, ◌⊎◌, List, [], ◌∷◌, Option, Some, None, refl, sym, ◌∙◌, subst, inl, inr}
use Rattle.role_steps.proofs.of_plain_facts.Numbers.{apart_test}
use Rattle.role_steps.proofs.of_plain_facts.Options.{none_some}
use Rattle.locus_ids.specs.declared.ids.EpochId.{EpochId}
use Rattle.locus_ids.specs.declared.ids.FileId.{FileId}
use Rattle.locus_ids.specs.declared.ids.Mode.{Mode}
use Rattle.locus_ids.specs.declared.ids.Mode.TheVariants as mode
use Rattle.locus_ids.specs.declared.ids.Serial.{Serial}
use Rattle.locus_ids.specs.declared.config.Config.{Config}
use Rattle.locus_ids.specs.declared.refusal.Refusal.TheVariants as refusal
use Rattle.version_vector.specs.Counters.{part}
use Rattle.commit_graph.specs.Grants.{is_read}
use Rattle.trace_book.specs.declared.record.Record.{Record}
use Rattle.trace_book.specs.declared.record.Record.TheVariants as says
use Rattle.wire_messages.specs.declared.packet.Packet.{Packet}
use Rattle.wire_messages.specs.declared.body.Body.{Body}
use Rattle.wire_messages.specs.declared.body.Body.TheVariants as body
use Rattle.wire_messages.specs.declared.body.OpenedAs.TheVariants as opened
use Rattle.role_steps.specs.Own.{Every}
use Rattle.role_steps.specs.Tables.{row, with_latest}
use Rattle.role_steps.specs.Views.{Frame, Store, Told, Shown, Begins, Reserves, Outcome, quiet, sends, to_some, to_sync, sync_site, serial_key}
use Rattle.role_steps.specs.Storage.{StoreRequest, copy_of, instance_key, instance_of, is_open, own_ino, begun_instance, begins, opened_packets, opens, opens_made, on_open_ss_of, on_open_ss, max_counter}
use Rattle.role_steps.specs.declared.instances.Instance.{Instance}
use Rattle.role_steps.specs.declared.instances.Stage.TheVariants as stage
use Rattle.role_steps.proofs.Sending.{every_cond}
use Rattle.the_run.proofs.Boots.{at_each}
use Rattle.site_laws.specs.Vectors.Written.{WasTold, WasGranted, GrantedRecord, Granted}
use Rattle.site_laws.specs.Vectors.Facts.{onto}
use Rattle.site_laws.proofs.Vectors.SyncFacts.{FoundAt, row_at, every_latest}
use Rattle.site_laws.specs.Vectors.HistoryCommits.{IsSite}
use Rattle.site_laws.specs.Locks.Going.{WasBegunAt, WasShutAt, WasReleased, IsGranted}
use Rattle.site_laws.specs.Locks.Grants.{GrantedAsRecord, GrantedAs, WasGrantedAs, IsOver}
use Rattle.site_laws.specs.Locks.Locks.{IsOfAFile}
use Rattle.site_laws.proofs.Locks.GrantTold.{latest_other, latest_same}
use Rattle.site_laws.specs.Kept.StampCommits.{WasMade, Under, Counts, Here}
use Rattle.site_laws.specs.Kept.StampLaws.{Laws}
use Rattle.site_laws.specs.Kept.StampCovering.{Opens, NoCommits, Bare, PacketCovers, BodyCovers, Holds, Runs, StageRuns, RunsThere, IsClosing, Instances, DiskCounts, Fine}
use Rattle.site_laws.proofs.Kept.StampTold.{under_begun, shut_begun, released_ended, Ended, Releases, not_released, made_committed}
use Rattle.site_laws.proofs.Kept.StampFrames.{under_before, made_before, instances_after, disk_after, bares, was_begun}
use Rattle.site_laws.proofs.Kept.StampOutcomes.{Idle, idle_go, idle_not_at}

-- ---- the store ----

pub record Stored (past : List Told) (f : Frame) (s : Store) : Type 0 where
  pub disk : DiskCounts past f.me s.copies
  pub instances : Instances past f.me f.epoch s.instances

abbrev pub InStore : Frame → List Told → Store → Type 0
InStore f past s = Stored past f s

abbrev pub StoreFine : Config → Frame → List Told → Outcome Store → Type 0
StoreFine c f past o = Fine c f.me (InStore f) past o

abbrev pub Lawfully : Config → Frame → List Told → Outcome Store → Type 0
Lawfully c f past o = Laws c (onto o.told past) → StoreFine c f past o

-- what is known of a store when a packet comes
pub record Knows (past : List Told) (f : Frame) (s : Store) : Type 0 where
  pub here : Here past f.me f.epoch
  pub site : IsSite f.me
  pub begun : (key : ℕ) (file : FileId) → WasBegunAt past f.me f.epoch key file → (i : Instance) × (row instance_key key s.instances ≡ Some i)
  pub unshut : (key : ℕ) (i : Instance) → row instance_key key s.instances ≡ Some i → i.stage ≡ stage.Running → WasShutAt past f.me f.epoch key → ⊥
  pub writes : (key : ℕ) (i : Instance) → row instance_key key s.instances ≡ Some i → i.work.owes ≡ true → is_read i.mode ≡ false
  pub low : (key : ℕ) (i : Instance) → row instance_key key s.instances ≡ Some i → part i.vector (f.me - 1) ≤ max_counter

stored_later : (f : Frame) (told past : List Told) (s : Store) → Every Idle told → Stored past f s → Stored (onto told past) f s
stored_later f [] past s n h = h
stored_later f (x ∷ xs) past s n h = stored_later f xs (x ∷ past) s n.1 (record { disk = disk_after x past f.me s.copies (idle_not_at f.me x n.0) h.disk; instances = instances_after x past f.me f.epoch s.instances (idle_not_at f.me x n.0) h.instances })

pub sends_fine : (c : Config) (f : Frame) (past : List Told) (ps : List Packet) (s : Store) → Every (PacketCovers past) ps → Stored past f s → StoreFine c f past (sends ps s)
sends_fine c f past ps s k h = record { view = h; sent = k; goes = tt; disk = tt }

pub bare_fine : (c : Config) (f : Frame) (past : List Told) (ps : List Packet) (s : Store) → Every Bare ps → Stored past f s → StoreFine c f past (sends ps s)
bare_fine c f past ps s k h = sends_fine c f past ps s (bares past ps k) h

pub quiet_fine : (c : Config) (f : Frame) (past : List Told) (s : Store) → Stored past f s → StoreFine c f past (quiet s)
quiet_fine c f past s h = record { view = h; sent = tt; goes = tt; disk = tt }

some_bare : (f : Frame) (b : Body) (o : Option ℕ) → NoCommits b → Every Bare (to_some f b o)
some_bare f b None h = tt
some_bare f b (Some to) h = (h, tt)

sync_bare : (f : Frame) (group : ℕ) (b : Body) → NoCommits b → Every Bare (to_sync f group b)
sync_bare f group b h = some_bare f b (sync_site f.config f.members group) h

some_covers : (past : List Told) (f : Frame) (b : Body) (o : Option ℕ) → ((to boot : ℕ) → BodyCovers past f.me to boot f.epoch b) → Every (PacketCovers past) (to_some f b o)
some_covers past f b None h = tt
some_covers past f b (Some to) h = (h to _, tt)

pub sync_covers : (past : List Told) (f : Frame) (group : ℕ) (b : Body) → ((to boot : ℕ) → BodyCovers past f.me to boot f.epoch b) → Every (PacketCovers past) (to_sync f group b)
sync_covers past f group b h = some_covers past f b (sync_site f.config f.members group) h

always : {A : Type 0} (xs : List A) → Every (λ (x : A). Unit {0}) xs
always [] = tt
always (x ∷ xs) = (tt, always xs)

key_of : {A : Type 0} (key : A → ℕ) (k : ℕ) (o : Option A) (x : A) → FoundAt (λ (y : A). Unit {0}) key k o → o ≡ Some x → key x ≡ k
key_of key k o x h e = (subst (FoundAt (λ y. Unit {0}) key k) e h).0

-- what is found under a key has it
pub found_key : {A : Type 0} (key : A → ℕ) (k : ℕ) (xs : List A) (x : A) → row key k xs ≡ Some x → key x ≡ k
found_key key k xs x e = key_of key k (row key k xs) x (row_at (λ y. Unit {0}) key k xs (always xs)) e

-- an instance takes the place of the one with its key
pub put_instance : (now : List Told) (s : ℕ) (e : EpochId) (i : Instance) (is : List Instance) → RunsThere now s e (Some i) → IsClosing now s e i → ((key : ℕ) → instance_key i ≢ key → RunsThere now s e (row instance_key key is)) → Every (IsClosing now s e) is → Instances now s e (with_latest instance_key i is)
put_instance now s e i is run close others closings = record {
  run = λ key. at_each (instance_key i) key (RunsThere now s e (row instance_key key (with_latest instance_key i is)))
      (λ same. subst (λ (k : ℕ). RunsThere now s e (row instance_key k (with_latest instance_key i is))) same (subst (RunsThere now s e) (sym (latest_same instance_key i is)) run))
      (λ ne. subst (RunsThere now s e) (sym (latest_other instance_key i key is (apart_test (instance_key i) key ne))) (others key ne));
  close = every_latest (IsClosing now s e) instance_key i is close closings;
}

-- ---- opens ----

plain_holds : (past : List Told) (s : ℕ) (e : EpochId) (key : ℕ) (file : FileId) (m : Mode) → IsOfAFile m → WasGrantedAs past e key file m → Holds past s e key file m
plain_holds past s e key file mode.Make it h = absurd it
plain_holds past s e key file mode.Read it h = h
plain_holds past s e key file mode.Write it h = h
plain_holds past s e key file mode.Resolve it h = h
plain_holds past s e key file mode.Mend it h = h

started : (c : Config) (f : Frame) (past : List Told) (i : Instance) (told : List Told) (s : Store) → Every Idle told → RunsThere (onto told past) f.me f.epoch (Some i) → IsClosing (onto told past) f.me f.epoch i → Stored past f s → StoreFine c f past (begins f i told s)
started c f past i told s idle run close h =
    let k : Stored (onto told past) f s = stored_later f told past s idle h in
    record {
      view = record { disk = k.disk; instances = put_instance (onto told past) f.me f.epoch i s.instances run close (λ key ne. k.instances.run key) k.instances.close };
      sent = bares (onto told past) (opened_packets f i) (sync_bare f i.file.group (body.Opened i.inst (opened.Open i.file.ino i.size)) tt);
      goes = idle_go c past f.me told idle;
      disk = tt;
    }

-- nothing was begun here under a key under which there is no instance
never_begun : (past : List Told) (f : Frame) (s : Store) (inst : Serial) (file : FileId) → Knows past f s → instance_of s inst ≡ None → WasBegunAt past f.me f.epoch (serial_key inst) file → ⊥
never_begun past f s inst file k none h = let q : (i : Instance) × (row instance_key (serial_key inst) s.instances ≡ Some i) = k.begun (serial_key inst) file h in none_some q.0 (sym none ∙ q.1)

plain_fine : (c : Config) (f : Frame) (past : List Told) (boot : ℕ) (r : StoreRequest) (s : Store) → IsOfAFile r.mode → Laws c (Begins f.me f.epoch r.inst r.file ∷ past) → Knows past f s → (boot ≡ 0 → ⊥) → instance_of s r.inst ≡ None → Opens past f.epoch boot f.me (serial_key r.inst) r.file r.mode r.vector → Stored past f s →
    StoreFine c f past (begins f (begun_instance r r.file (copy_of s r.file)) (Begins f.me f.epoch r.inst r.file ∷ []) s)
plain_fine c f past boot r s it l k awake none o h = started c f past i (x ∷ []) s (tt, tt) (record {
  holds = plain_holds (x ∷ past) f.me f.epoch key r.file r.mode it (inr o.granted);
  begun = inl (refl, refl, refl, refl);
  each = λ writes n m. each writes n (made_before x past f.me r.file n (λ g j q. q) m);
  made = λ n u. absurd (never r.file (under_begun past f.me f.epoch key r.file n (under_before x past f.me f.epoch key r.file n (λ g j q. q) u)));
}) tt h
  where
    x : Told
    x = Begins f.me f.epoch r.inst r.file

    key : ℕ
    key = serial_key r.inst

    i : Instance
    i = begun_instance r r.file (copy_of s r.file)

    never : (file : FileId) → WasBegunAt past f.me f.epoch key file → ⊥
    never file b = never_begun past f s r.inst file k none b

    unreleased : WasReleased past f.epoch key → ⊥
    unreleased z =
        let q : (of : FileId) × WasTold (Releases f.epoch key of) past × Ended past f.epoch key of = released_ended past f.epoch key l.goes.1 z in
        let b : (of : FileId) × WasBegunAt past q.2.ss f.epoch key of = shut_begun q.2.ss f.epoch key past l.goes.1 q.2.shut in
        never b.0 (subst (λ (n : ℕ). WasBegunAt past n f.epoch key b.0) (l.sites f.epoch key q.2.ss f.me b.0 r.file (inr b.1) (inl (refl, refl, refl, refl))) b.1)

    each : is_read r.mode ≡ false → (n : ℕ) → WasMade past f.me r.file n → Counts r.vector f.me n ⊎ WasReleased (x ∷ past) f.epoch key
    each writes n m = by_case (o.each (k.site, writes, awake) k.here n m)
      where
        by_case : Counts r.vector f.me n ⊎ (Under past f.me f.epoch key r.file n ⊎ IsOver past f.epoch key) → Counts r.vector f.me n ⊎ WasReleased (x ∷ past) f.epoch key
        by_case (inl q) = inl q
        by_case (inr (inl u)) = absurd (never r.file (under_begun past f.me f.epoch key r.file n u))
        by_case (inr (inr (inl z))) = absurd (unreleased z)
        by_case (inr (inr (inr z))) = absurd (l.stand f.epoch key f.me r.file r.file r.mode it (inr o.granted) (inl (refl, refl, refl, refl)) (inr z))

made_fine : (c : Config) (f : Frame) (past : List Told) (r : StoreRequest) (o : Option ℕ) (s : Store) → r.mode ≡ mode.Make → Laws c (onto (opens_made f r o s).told past) → Knows past f s → instance_of s r.inst ≡ None → Stored past f s → StoreFine c f past (opens_made f r o s)
made_fine c f past r None s it l k none h = bare_fine c f past _ s (sync_bare f r.file.group (body.Opened r.inst (opened.No refusal.NoInode)) tt) h
made_fine c f past r (Some ino) s it l k none h = started c f past i (b ∷ x ∷ []) s (tt, (tt, tt)) (record {
  holds = subst (Holds now f.me f.epoch key file) (sym it) (inl (refl, refl, refl, refl));
  begun = inr (inl (refl, refl, refl, refl));
  each = λ writes n m. absurd (l.fresh.0.1 (made_committed (b ∷ past) f.me file n (made_before x (b ∷ past) f.me file n (λ g j q. q) m)));
  made = λ n u. absurd (never_begun past f s r.inst file k none (under_begun past f.me f.epoch key file n (under_before b past f.me f.epoch key file n (λ g j q. q) (under_before x (b ∷ past) f.me f.epoch key file n (λ g j q. q) u))));
}) tt h
  where
    file : FileId
    file = record { group = r.file.group; ino = ino }

    b : Told
    b = Begins f.me f.epoch r.inst file

    x : Told
    x = Reserves f.me f.epoch r.inst file

    now : List Told
    now = x ∷ b ∷ past

    key : ℕ
    key = serial_key r.inst

    i : Instance
    i = begun_instance r file None

-- what a plain open carries
abbrev pub Asked : List Told → Frame → ℕ → StoreRequest → Type 0
Asked past f boot r = IsOfAFile r.mode → Opens past f.epoch boot f.me (serial_key r.inst) r.file r.mode r.vector

opens_fine : (c : Config) (f : Frame) (past : List Told) (boot : ℕ) (r : StoreRequest) (m : Mode) (s : Store) → r.mode ≡ m → Laws c (onto (opens f r m s).told past) → Knows past f s → (boot ≡ 0 → ⊥) → instance_of s r.inst ≡ None → Asked past f boot r → Stored past f s → StoreFine c f past (opens f r m s)
opens_fine c f past boot r mode.Make s it l k awake none o h = made_fine c f past r (own_ino s r.file.group f.me) s it l k none h
opens_fine c f past boot r mode.Read s it l k awake none o h = let p : IsOfAFile r.mode = subst IsOfAFile (sym it) tt in plain_fine c f past boot r s p l k awake none (o p) h
opens_fine c f past boot r mode.Write s it l k awake none o h = let p : IsOfAFile r.mode = subst IsOfAFile (sym it) tt in plain_fine c f past boot r s p l k awake none (o p) h
opens_fine c f past boot r mode.Resolve s it l k awake none o h = let p : IsOfAFile r.mode = subst IsOfAFile (sym it) tt in plain_fine c f past boot r s p l k awake none (o p) h
opens_fine c f past boot r mode.Mend s it l k awake none o h = let p : IsOfAFile r.mode = subst IsOfAFile (sym it) tt in plain_fine c f past boot r s p l k awake none (o p) h

open_of_fine : (c : Config) (f : Frame) (past : List Told) (boot : ℕ) (r : StoreRequest) (o : Option Instance) (s : Store) → instance_of s r.inst ≡ o → Laws c (onto (on_open_ss_of f r o s).told past) → Knows past f s → (boot ≡ 0 → ⊥) → Asked past f boot r → Stored past f s → StoreFine c f past (on_open_ss_of f r o s)
open_of_fine c f past boot r None s e l k awake a h = opens_fine c f past boot r r.mode s refl l k awake e a h
open_of_fine c f past boot r (Some i) s e l k awake a h = bare_fine c f past _ s (every_cond Bare (is_open i.stage) (opened_packets f i) [] (sync_bare f i.file.group (body.Opened i.inst (opened.Open i.file.ino i.size)) tt) tt) h

pub on_open_ss_fine : (c : Config) (f : Frame) (past : List Told) (boot : ℕ) (r : StoreRequest) (s : Store) → Laws c (onto (on_open_ss f r s).told past) → Knows past f s → (boot ≡ 0 → ⊥) → Asked past f boot r → Stored past f s → StoreFine c f past (on_open_ss f r s)
on_open_ss_fine c f past boot r s l k awake a h = open_of_fine c f past boot r (instance_of s r.inst) s refl l k awake a h

-- ---- an instance that may commit ----

granted_told : (e : EpochId) (key : ℕ) (file : FileId) (x : Told) → Granted e key file x → (m : Mode) × GrantedAs e key file m x
granted_told e key file (Shown r) h = by_record r h
  where
    by_record : (r : Record) → GrantedRecord e key file r → (m : Mode) × GrantedAsRecord e key file m r
    by_record (says.Grant at call request inst m of stamp ss) h = (m, (h.0, h.1, h.2, refl))
    by_record _ h = absurd h
granted_told e key file _ h = absurd h

granted_as : (past : List Told) (e : EpochId) (key : ℕ) (file : FileId) → WasGranted past e key file → (m : Mode) × WasGrantedAs past e key file m
granted_as [] e key file h = absurd h
granted_as (x ∷ older) e key file (inl h) = let q : (m : Mode) × GrantedAs e key file m x = granted_told e key file x h in (q.0, inl q.1)
granted_as (x ∷ older) e key file (inr h) = let q : (m : Mode) × WasGrantedAs older e key file m = granted_as older e key file h in (q.0, inr q.1)

-- what is held and granted was granted on the file, in its mode
pub grant_of : (c : Config) (past : List Told) (s : ℕ) (e : EpochId) (key : ℕ) (file : FileId) (m : Mode) → Laws c past → WasBegunAt past s e key file → IsGranted past e key → Holds past s e key file m → WasGrantedAs past e key file m
grant_of c past s e key file mode.Make l begun granted h =
    let same : file ≡ granted.0 = l.agree e key file granted.0 (was_begun past s e key file begun) granted.1 in
    let q : (m : Mode) × WasGrantedAs past e key file m = granted_as past e key file (subst (WasGranted past e key) (sym same) granted.1) in
    subst (WasGrantedAs past e key file) (l.makes e key s file file q.0 h q.1) q.1
grant_of c past s e key file mode.Read l begun granted h = h
grant_of c past s e key file mode.Write l begun granted h = h
grant_of c past s e key file mode.Resolve l begun granted h = h
grant_of c past s e key file mode.Mend l begun granted h = h

-- an instance that runs, is granted and isn't shut, and whose counter may rise
pub record MayCommit (past : List Told) (f : Frame) (i : Instance) : Type 0 where
  pub here : Here past f.me f.epoch
  pub running : i.stage ≡ stage.Running
  pub unshut : WasShutAt past f.me f.epoch (serial_key i.inst) → ⊥
  pub runs : Runs past f.me f.epoch i
  pub granted : IsGranted past f.epoch (serial_key i.inst)
  pub writes : i.work.owes ≡ true → is_read i.mode ≡ false
  pub low : part i.vector (f.me - 1) ≤ max_counter

pub may_commit : (past : List Told) (f : Frame) (s : Store) (inst : Serial) (i : Instance) → instance_of s inst ≡ Some i → i.stage ≡ stage.Running → IsGranted past f.epoch (serial_key inst) → Knows past f s → Stored past f s → MayCommit past f i
may_commit past f s inst i e running granted k h = record {
  here = k.here;
  running = running;
  unshut = subst (λ (n : ℕ). WasShutAt past f.me f.epoch n → ⊥) (sym key) (k.unshut (serial_key inst) i e running);
  runs = subst (StageRuns past f.me f.epoch i) running (subst (RunsThere past f.me f.epoch) e (h.instances.run (serial_key inst)));
  granted = subst (IsGranted past f.epoch) (sym key) granted;
  writes = k.writes (serial_key inst) i e;
  low = k.low (serial_key inst) i e;
}
  where
    key : serial_key i.inst ≡ serial_key inst
    key = found_key instance_key (serial_key inst) s.instances i e

pub unreleased : (c : Config) (past : List Told) (f : Frame) (i : Instance) → Laws c past → MayCommit past f i → WasReleased past f.epoch (serial_key i.inst) → ⊥
unreleased c past f i l k = not_released c past f.me f.epoch (serial_key i.inst) i.file l k.runs.begun k.unshut

pub made_of : (past : List Told) (s : ℕ) (e : EpochId) (key : ℕ) (file : FileId) (n : ℕ) → Under past s e key file n → WasMade past s file n
made_of [] s e key file n h = absurd h
made_of (x ∷ older) s e key file n (inl h) = inl h.0
made_of (x ∷ older) s e key file n (inr h) = inr (made_of older s e key file n h)
