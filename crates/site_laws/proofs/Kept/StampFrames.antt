-- What packets and views carry of commits, after one more thing that a site tells.
use Rattle.std.proofs.Common.{◌≡◌, ◌≢◌, ℕ, false, ◌⊎◌, List, [], ◌∷◌, Option, Some, None, sym, ◌∙◌, ap, subst, inl, inr}
use Rattle.locus_ids.specs.declared.ids.EpochId.{EpochId}
use Rattle.locus_ids.specs.declared.ids.FileId.{FileId}
use Rattle.locus_ids.specs.declared.ids.Stamp.{Stamp}
use Rattle.locus_ids.specs.declared.ids.Mode.{Mode}
use Rattle.locus_ids.specs.declared.config.Config.{Config}
use Rattle.commit_graph.specs.Grants.{is_read}
use Rattle.trace_book.specs.declared.record.Record.{Record}
use Rattle.trace_book.specs.declared.record.Record.TheVariants as says
use Rattle.wire_messages.specs.declared.packet.Packet.{Packet}
use Rattle.wire_messages.specs.declared.body.Body.{Body}
use Rattle.wire_messages.specs.declared.body.Body.TheVariants as body
use Rattle.wire_messages.specs.declared.body.MadeVersion.{MadeVersion}
use Rattle.role_steps.specs.Own.{Every}
use Rattle.role_steps.specs.Tables.{row}
use Rattle.role_steps.specs.Views.{Frame, Told, Shown, Begins, boot_in, serial_key, file_key}
use Rattle.role_steps.specs.Storage.{copy_key, instance_key}
use Rattle.role_steps.specs.declared.copies.FileCopy.{FileCopy}
use Rattle.role_steps.specs.declared.instances.Instance.{Instance}
use Rattle.role_steps.specs.declared.instances.Stage.{Stage}
use Rattle.role_steps.specs.declared.instances.Stage.TheVariants as stage
use Rattle.role_steps.specs.declared.synchronizing.SyncTable.{SyncTable}
use Rattle.role_steps.specs.declared.synchronizing.OpenRow.{OpenRow}
use Rattle.role_steps.specs.declared.synchronizing.OpenStage.{OpenStage}
use Rattle.role_steps.specs.declared.synchronizing.OpenStage.TheVariants as opening
use Rattle.the_run.proofs.Boots.{at_each, every_weaker}
use Rattle.site_laws.specs.Vectors.Written.{Begun, WasBegun}
use Rattle.site_laws.specs.Vectors.Facts.{onto, NotCommit}
use Rattle.site_laws.specs.Locks.Going.{BegunAt, WasBegunAt, WasShutAt, WasReleased}
use Rattle.site_laws.specs.Locks.Grants.{WasGrantedAs, IsOver}
use Rattle.site_laws.specs.Locks.Locks.{IsOfAFile}
use Rattle.site_laws.specs.Kept.StampCommits.{MadeRecord, MadeAt, WasMade, Under, ByWriter, Counts, Here}
use Rattle.site_laws.specs.Makes.Locked.{WasHeldAs, OverAs}
use Rattle.site_laws.specs.Kept.StampLaws.{Laws}
use Rattle.site_laws.specs.Kept.StampCovering.{Covers, Asks, Opens, InMade, Closes, BodyCovers, PacketCovers, NoCommits, Bare, InWork, Runs, StageRuns, RunsThere, StageCloses, IsClosing, Instances, CopyCounts, DiskCounts, InKept, StageOpens, RowOpens, Table, ByOpen, IsNext, GoesRecord, Goes, AllGo}
use Rattle.site_laws.proofs.Kept.StampTold.{laws_older, under_begun, Ended, Releases, released_told, not_released, here_once, here_before, joined_later, granted_held, holds_held, holds_later, is_over_later, plain_over, over_released, granted_released, holds_apart}

-- ---- a commit that is told ----

-- of the site that acts, and the next one of its file there
pub record Next (past : List Told) (me s : ℕ) (file : FileId) (n : ℕ) : Type 0 where
  pub mine : me ≡ s
  pub stamp : Stamp
  pub next : IsNext past me file stamp
  pub number : stamp.n ≡ n

next_record : (c : Config) (past : List Told) (me s : ℕ) (file : FileId) (n : ℕ) (r : Record) → GoesRecord c past me r → MadeRecord s file n r → Next past me s file n
next_record c past me s file n (says.Commit g t stamp parents content) k h = record { mine = sym k.0 ∙ h.1; stamp = stamp; next = subst (λ (f : FileId). IsNext past me f stamp) h.0 k.1; number = h.2 }
next_record c past me s file n _ k h = absurd h

pub next_told : (c : Config) (past : List Told) (me s : ℕ) (file : FileId) (n : ℕ) (x : Told) → Goes c past me x → MadeAt s file n x → Next past me s file n
next_told c past me s file n (Shown r) k h = next_record c past me s file n r k h
next_told c past me s file n _ k h = absurd h

-- who commits in an epoch that it is in, by what it is made
pub record Maker (past : List Told) (s : ℕ) (e : EpochId) (file : FileId) : Type 0 where
  pub key : ℕ
  pub mode : Mode
  pub begun : WasBegunAt past s e key file
  pub granted : WasGrantedAs past e key file mode
  pub writes : is_read mode ≡ false
  pub unreleased : WasReleased past e key → ⊥
  pub unshut : WasShutAt past s e key → ⊥

maker_of : (past : List Told) (s : ℕ) (e : EpochId) (file : FileId) (b : ByOpen past s file) → b.epoch ≡ e → Maker past s e file
maker_of past s e file b same = record {
  key = b.key;
  mode = b.mode;
  begun = subst (λ (i : EpochId). WasBegunAt past s i b.key file) same b.begun;
  granted = subst (λ (i : EpochId). WasGrantedAs past i b.key file b.mode) same b.granted;
  writes = b.writes;
  unreleased = λ h. b.unreleased (subst (λ (i : EpochId). WasReleased past i b.key) (sym same) h);
  unshut = λ h. b.unshut (subst (λ (i : EpochId). WasShutAt past s i b.key) (sym same) h);
}

pub maker : (c : Config) (past : List Told) (me s : ℕ) (e : EpochId) (file : FileId) (n : ℕ) (x : Told) → Goes c past me x → MadeAt s file n x → Here past s e → Maker past s e file
maker c past me s e file n x k h here =
    let q : Next past me s file n = next_told c past me s file n x k h in
    let b : ByOpen past s file = subst (λ (t : ℕ). ByOpen past t file) q.mine q.next.by in
    maker_of past s e file b (here_once past s b.epoch e b.here here)

-- ---- what covers ----

writer_later : (x : Told) (past : List Told) (s : ℕ) (e : EpochId) (file : FileId) (n : ℕ) → ByWriter past s e file n → ByWriter (x ∷ past) s e file n
writer_later x past s e file n h = record { key = h.key; mode = h.mode; granted = inr h.granted; writes = h.writes; made = inr h.made }

pub covers_after : (c : Config) (me : ℕ) (x : Told) (past : List Told) → Laws c (x ∷ past) → Goes c past me x → (s : ℕ) (e : EpochId) (group : ℕ) (Q : FileId → ℕ → Type 0) → Covers past s e group Q → Covers (x ∷ past) s e group Q
covers_after c me x past l k s e group Q h = record { site = h.site; joined = joined_later x past s e h.joined; each = λ here file n g made. by_head (here_before x past s e l.joins.0 h.joined here) file n g made }
  where
    old : (file : FileId) (n : ℕ) → Q file n ⊎ ByWriter past s e file n → Q file n ⊎ ByWriter (x ∷ past) s e file n
    old file n (inl q) = inl q
    old file n (inr w) = inr (writer_later x past s e file n w)

    by_head : Here past s e → (file : FileId) (n : ℕ) → file.group ≡ group → WasMade (x ∷ past) s file n → Q file n ⊎ ByWriter (x ∷ past) s e file n
    by_head here file n g (inl m) = let b : Maker past s e file = maker c past me s e file n x k m here in inr (record { key = b.key; mode = b.mode; granted = inr b.granted; writes = b.writes; made = inl (m, b.begun, b.unshut) })
    by_head here file n g (inr m) = old file n (h.each here file n g m)

pub opens_after : (c : Config) (me : ℕ) (x : Told) (past : List Told) → Laws c (x ∷ past) → Goes c past me x → (e : EpochId) (boot s key : ℕ) (file : FileId) (m : Mode) (vector : List ℕ) → IsOfAFile m → Opens past e boot s key file m vector → Opens (x ∷ past) e boot s key file m vector
opens_after c me x past l k e boot s key file m vector it h = record { granted = inr h.granted; joined = λ a. joined_later x past s e (h.joined a); each = λ a here n made. by_head a (here_before x past s e l.joins.0 (h.joined a) here) n made }
  where
    Fact : ℕ → Type 0
    Fact n = Counts vector s n ⊎ (Under (x ∷ past) s e key file n ⊎ IsOver (x ∷ past) e key)

    old : (n : ℕ) → Counts vector s n ⊎ (Under past s e key file n ⊎ IsOver past e key) → Fact n
    old n (inl q) = inl q
    old n (inr (inl u)) = inr (inl (inr u))
    old n (inr (inr r)) = inr (inr (is_over_later x past e key r))

    over : (n : ℕ) (b : Maker past s e file) → OverAs past e key m ⊎ OverAs past e b.key b.mode → Fact n
    over n b (inl r) = inr (inr (is_over_later x past e key (plain_over past e key m it r)))
    over n b (inr r) = absurd (b.unreleased (granted_released c past s e b.key file b.mode (laws_older c x past l) b.granted b.begun r))

    new : (n : ℕ) → MadeAt s file n x → Maker past s e file → Fact n
    new n made b = at_each b.key key (Fact n)
        (λ same. inr (inl (inl (made, subst (λ (j : ℕ). WasBegunAt past s e j file) same b.begun, λ r. b.unshut (subst (λ (j : ℕ). WasShutAt past s e j) (sym same) r)))))
        (λ ne. over n b (holds_apart past l.locked.1 e file key b.key m b.mode (λ q. ne (sym q)) b.writes (granted_held past e key file m l.reserved.1 h.granted) (granted_held past e b.key file b.mode l.reserved.1 b.granted)))

    by_head : Asks boot s m → Here past s e → (n : ℕ) → WasMade (x ∷ past) s file n → Fact n
    by_head a here n (inl m) = new n m (maker c past me s e file n x k m here)
    by_head a here n (inr m) = old n (h.each a here n m)

pub closes_after : (x : Told) (past : List Told) (s : ℕ) (e : EpochId) (key : ℕ) (made : Option MadeVersion) → Closes past s e key made → Closes (x ∷ past) s e key made
closes_after x past s e key made h = record { file = h.file; begun = inr h.begun; shut = inr h.shut; each = λ n u. by_head n u }
  where
    by_head : (n : ℕ) → Under (x ∷ past) s e key h.file n → InMade made s n
    by_head n (inl u) = absurd (u.2 h.shut)
    by_head n (inr u) = h.each n u

pub body_after : (c : Config) (me : ℕ) (x : Told) (past : List Told) → Laws c (x ∷ past) → Goes c past me x → (from to boot : ℕ) (e : EpochId) (b : Body) → BodyCovers past from to boot e b → BodyCovers (x ∷ past) from to boot e b
body_after c me x past l k from to boot e (body.Report group copies) h = covers_after c me x past l k from e group _ h
body_after c me x past l k from to boot e (body.OpenSs inst file m set kind base vector parents) h = λ it. opens_after c me x past l k e boot to (serial_key inst) file m vector it (h it)
body_after c me x past l k from to boot e (body.Closed inst made) h = closes_after x past from e (serial_key inst) made h
body_after c me x past l k from to boot e _ h = tt

pub bare_body : (past : List Told) (from to boot : ℕ) (e : EpochId) (b : Body) → NoCommits b → BodyCovers past from to boot e b
bare_body past from to boot e (body.Report group copies) h = absurd h
bare_body past from to boot e (body.OpenSs inst file m set kind base vector parents) h = absurd h
bare_body past from to boot e (body.Closed inst made) h = absurd h
bare_body past from to boot e _ h = tt

pub bares : (past : List Told) (ps : List Packet) → Every Bare ps → Every (PacketCovers past) ps
bares past ps h = every_weaker Bare (PacketCovers past) ps (λ p k. bare_body past p.from p.to p.to_boot p.epoch p.body k) h

-- ---- a storage site ----

-- it isn't told that the site commits
abbrev pub NotAt : ℕ → Told → Type 0
NotAt s x = (file : FileId) (n : ℕ) → MadeAt s file n x → ⊥

not_commit_record : (s : ℕ) (r : Record) → NotCommit (Shown r) → (file : FileId) (n : ℕ) → MadeRecord s file n r → ⊥
not_commit_record s (says.Commit g t stamp parents content) h file n m = h
not_commit_record s _ h file n m = absurd m

pub not_commit : (s : ℕ) (x : Told) → NotCommit x → NotAt s x
not_commit s (Shown r) h file n m = not_commit_record s r h file n m
not_commit s _ h file n m = absurd m

pub not_mine : (c : Config) (past : List Told) (me s : ℕ) (x : Told) → me ≢ s → Goes c past me x → NotAt s x
not_mine c past me s x ne k file n m = let q : Next past me s file n = next_told c past me s file n x k m in ne q.mine

pub under_before : (x : Told) (past : List Told) (s : ℕ) (e : EpochId) (key : ℕ) (file : FileId) (n : ℕ) → NotAt s x → Under (x ∷ past) s e key file n → Under past s e key file n
under_before x past s e key file n none (inl u) = absurd (none file n u.0)
under_before x past s e key file n none (inr u) = u

pub made_before : (x : Told) (past : List Told) (s : ℕ) (file : FileId) (n : ℕ) → NotAt s x → WasMade (x ∷ past) s file n → WasMade past s file n
made_before x past s file n none (inl m) = absurd (none file n m)
made_before x past s file n none (inr m) = m

or_later : {A : Type 0} (x : Told) (past : List Told) (e : EpochId) (key : ℕ) → A ⊎ WasReleased past e key → A ⊎ WasReleased (x ∷ past) e key
or_later x past e key (inl a) = inl a
or_later x past e key (inr r) = inr (inr r)

pub runs_after : (x : Told) (past : List Told) (s : ℕ) (e : EpochId) (i : Instance) → NotAt s x → Runs past s e i → Runs (x ∷ past) s e i
runs_after x past s e i none h = record {
  holds = holds_later x past s e (serial_key i.inst) i.file i.mode h.holds;
  begun = inr h.begun;
  each = λ writes n m. or_later x past e (serial_key i.inst) (h.each writes n (made_before x past s i.file n none m));
  made = λ n u. or_later x past e (serial_key i.inst) (h.made n (under_before x past s e (serial_key i.inst) i.file n none u));
}

-- beside a commit that the site makes under another instance
pub runs_beside : (c : Config) (x : Told) (past : List Told) (s : ℕ) (e : EpochId) (i : Instance) (file : FileId) → Laws c past → (b : Maker past s e file) → (serial_key i.inst ≡ b.key → ⊥) → ((g : FileId) (n : ℕ) → MadeAt s g n x → g ≡ file) → Runs past s e i → Runs (x ∷ past) s e i
runs_beside c x past s e i file l b ne only h = record {
  holds = holds_later x past s e (serial_key i.inst) i.file i.mode h.holds;
  begun = inr h.begun;
  each = λ writes n m. each writes n m;
  made = λ n u. made n u;
}
  where
    over : {A : Type 0} → OverAs past e (serial_key i.inst) i.mode ⊎ OverAs past e b.key b.mode → A ⊎ WasReleased (x ∷ past) e (serial_key i.inst)
    over (inl r) = inr (inr (over_released c past s e (serial_key i.inst) i.file i.mode l h.holds h.begun r))
    over (inr r) = absurd (b.unreleased (granted_released c past s e b.key file b.mode l b.granted b.begun r))

    new : {A : Type 0} (n : ℕ) → MadeAt s i.file n x → A ⊎ WasReleased (x ∷ past) e (serial_key i.inst)
    new n m = over (holds_apart past l.locked e i.file (serial_key i.inst) b.key i.mode b.mode ne b.writes (holds_held past s e (serial_key i.inst) i.file i.mode l.reserved h.holds)
        (subst (λ (f : FileId). WasHeldAs past e b.key f b.mode) (sym (only i.file n m)) (granted_held past e b.key file b.mode l.reserved b.granted)))

    each : is_read i.mode ≡ false → (n : ℕ) → WasMade (x ∷ past) s i.file n → Counts i.vector s n ⊎ WasReleased (x ∷ past) e (serial_key i.inst)
    each writes n (inl m) = new n m
    each writes n (inr m) = or_later x past e (serial_key i.inst) (h.each writes n m)

    made : (n : ℕ) → Under (x ∷ past) s e (serial_key i.inst) i.file n → InWork i.work.committed i.vector s n ⊎ WasReleased (x ∷ past) e (serial_key i.inst)
    made n (inl u) = new n u.0
    made n (inr u) = or_later x past e (serial_key i.inst) (h.made n u)

stage_after : (x : Told) (past : List Told) (s : ℕ) (e : EpochId) (i : Instance) (g : Stage) → NotAt s x → StageRuns past s e i g → StageRuns (x ∷ past) s e i g
stage_after x past s e i stage.Running none h = runs_after x past s e i none h
stage_after x past s e i (stage.Closing made a) none h = tt
stage_after x past s e i (stage.Closed a) none h = tt

pub there_after : (x : Told) (past : List Told) (s : ℕ) (e : EpochId) (o : Option Instance) → NotAt s x → RunsThere past s e o → RunsThere (x ∷ past) s e o
there_after x past s e None none h = tt
there_after x past s e (Some i) none h = stage_after x past s e i i.stage none h

closing_after : (x : Told) (past : List Told) (s : ℕ) (e : EpochId) (key : ℕ) (g : Stage) → StageCloses past s e key g → StageCloses (x ∷ past) s e key g
closing_after x past s e key (stage.Closing made a) h = closes_after x past s e key made h
closing_after x past s e key stage.Running h = tt
closing_after x past s e key (stage.Closed a) h = tt

pub closings_after : (x : Told) (past : List Told) (s : ℕ) (e : EpochId) (is : List Instance) → Every (IsClosing past s e) is → Every (IsClosing (x ∷ past) s e) is
closings_after x past s e is h = every_weaker (IsClosing past s e) (IsClosing (x ∷ past) s e) is (λ i. closing_after x past s e (serial_key i.inst) i.stage) h

pub instances_after : (x : Told) (past : List Told) (s : ℕ) (e : EpochId) (is : List Instance) → NotAt s x → Instances past s e is → Instances (x ∷ past) s e is
instances_after x past s e is none h = record { run = λ key. there_after x past s e (row instance_key key is) none (h.run key); close = closings_after x past s e is h.close }

copy_after : (x : Told) (past : List Told) (s : ℕ) (file : FileId) (o : Option FileCopy) → ((n : ℕ) → MadeAt s file n x → ⊥) → CopyCounts past s file o → CopyCounts (x ∷ past) s file o
copy_after x past s file None none h = λ n m. before n m
  where
    before : (n : ℕ) → WasMade (x ∷ past) s file n → ⊥
    before n (inl m) = none n m
    before n (inr m) = h n m
copy_after x past s file (Some y) none h = (h.0, λ n m. before n m)
  where
    before : (n : ℕ) → WasMade (x ∷ past) s file n → Counts y.vector s n
    before n (inl m) = absurd (none n m)
    before n (inr m) = h.1 n m

pub copy_beside : (x : Told) (past : List Told) (s : ℕ) (file : FileId) (o : Option FileCopy) → ((n : ℕ) → MadeAt s file n x → ⊥) → CopyCounts past s file o → CopyCounts (x ∷ past) s file o
copy_beside x past s file o none h = copy_after x past s file o none h

pub disk_after : (x : Told) (past : List Told) (s : ℕ) (copies : List FileCopy) → NotAt s x → DiskCounts past s copies → DiskCounts (x ∷ past) s copies
disk_after x past s copies none h file small = copy_after x past s file (row copy_key (file_key file) copies) (none file) (h file small)

-- ---- a synchronization site ----

begun_of : (s : ℕ) (e : EpochId) (key : ℕ) (file : FileId) (x : Told) → BegunAt s e key file x → Begun e key file x
begun_of s e key file (Begins t at inst of) h = (h.1, h.2, h.3)
begun_of s e key file _ h = absurd h

pub was_begun : (past : List Told) (s : ℕ) (e : EpochId) (key : ℕ) (file : FileId) → WasBegunAt past s e key file → WasBegun past e key file
was_begun [] s e key file h = absurd h
was_begun (x ∷ older) s e key file (inl h) = inl (begun_of s e key file x h)
was_begun (x ∷ older) s e key file (inr h) = inr (was_begun older s e key file h)

-- it isn't told that a file of the group is released in the epoch
abbrev pub Elsewhere : EpochId → ℕ → Told → Type 0
Elsewhere e group x = (key : ℕ) (file : FileId) → Releases e key file x → file.group ≡ group → ⊥

row_after : (c : Config) (me : ℕ) (x : Told) (past : List Told) → Laws c (x ∷ past) → Goes c past me x → (f : Frame) (r : OpenRow) (g : OpenStage) → StageOpens past f r g → StageOpens (x ∷ past) f r g
row_after c me x past l k f r opening.Asked h = λ it. opens_after c me x past l k f.epoch (boot_in f.members.boot r.ss) r.ss (serial_key r.inst) r.file r.mode r.vector it (h it)
row_after c me x past l k f r opening.Granted h = tt
row_after c me x past l k f r (opening.Refused why) h = tt
row_after c me x past l k f r opening.Ended h = tt

pub rows_after : (c : Config) (me : ℕ) (x : Told) (past : List Told) → Laws c (x ∷ past) → Goes c past me x → (f : Frame) (rs : List OpenRow) → Every (RowOpens past f) rs → Every (RowOpens (x ∷ past) f) rs
rows_after c me x past l k f rs h = every_weaker (RowOpens past f) (RowOpens (x ∷ past) f) rs (λ r. row_after c me x past l k f r r.stage) h

-- what was made under a key that is released: the release was told before, and so was all that was made
pub released_after : (c : Config) (x : Told) (past : List Told) → Laws c (x ∷ past) → (e : EpochId) (group : ℕ) (Q : ℕ → FileId → ℕ → Type 0) → Elsewhere e group x → ((s key : ℕ) (file : FileId) (n : ℕ) → file.group ≡ group → WasReleased past e key → Under past s e key file n → Q s file n) →
    (s key : ℕ) (file : FileId) (n : ℕ) → file.group ≡ group → WasReleased (x ∷ past) e key → Under (x ∷ past) s e key file n → Q s file n
released_after c x past l e group Q none h s key file n g (inl r) u =
    let k : (of : FileId) × Releases e key of x × Ended past e key of = released_told past e key x l.goes.0 r in
    let same : file ≡ k.0 = l.agree e key file k.0 (was_begun (x ∷ past) s e key file (under_begun (x ∷ past) s e key file n u)) (inr k.2.granted) in
    absurd (none key k.0 k.1 (sym (ap (λ (f : FileId). f.group) same) ∙ g))
released_after c x past l e group Q none h s key file n g (inr r) (inl u) = absurd (not_released c past s e key file (laws_older c x past l) u.1 u.2 r)
released_after c x past l e group Q none h s key file n g (inr r) (inr u) = h s key file n g r u

pub table_after : (c : Config) (me : ℕ) (x : Told) (past : List Told) → Laws c (x ∷ past) → Goes c past me x → (f : Frame) (t : SyncTable) → Elsewhere f.epoch t.group x → Table past f t → Table (x ∷ past) f t
table_after c me x past l k f t none h = record {
  synced = h.synced;
  full = h.full;
  covers = λ s site there. covers_after c me x past l k s f.epoch t.group (InKept t s) (h.covers s site there);
  released = released_after c x past l f.epoch t.group (InKept t) none h.released;
  opens = rows_after c me x past l k f t.opens h.opens;
  looks = h.looks;
}

-- ---- all that an event tells ----

-- what each told thing keeps, all of them keep
pub fold : (c : Config) (me : ℕ) (N : Told → Type 0) (P : List Told → Type 0) → ((x : Told) (past : List Told) → Laws c (x ∷ past) → Goes c past me x → N x → P past → P (x ∷ past)) → (told past : List Told) → Laws c (onto told past) → AllGo c past me told → Every N told → P past → P (onto told past)
fold c me N P one [] past l k n h = h
fold c me N P one (x ∷ xs) past l k n h = fold c me N P one xs (x ∷ past) l k.1 n.1 (one x past (laws_now xs (x ∷ past) l) k.0 n.0 h)
  where
    laws_now : (told past : List Told) → Laws c (onto told past) → Laws c past
    laws_now [] past l = l
    laws_now (y ∷ ys) past l = laws_older c y past (laws_now ys (y ∷ past) l)
