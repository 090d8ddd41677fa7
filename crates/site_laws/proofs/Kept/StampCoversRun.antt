-- In every run each commit of a site is by the next number of its file, and what is carried of commits counts them.
use Rattle.std.proofs.Common.{◌≡◌, ◌≢◌, ◌≤◌, ℕ, ◌+◌, Bool, true, false, cond, List, [], ◌∷◌, Option, Some, None, refl, sym, ◌∙◌, ap, subst, inl, inr, arith}
use Rattle.role_steps.proofs.of_plain_facts.Options.{some_same as some_eq, some_same}
use Rattle.locus_ids.specs.declared.ids.FileId.{FileId}
use Rattle.locus_ids.specs.declared.sites.Members.{Members}
use Rattle.locus_ids.specs.declared.config.Config.{Config}
use Rattle.trace_book.specs.declared.record.Record.{Record}
use Rattle.trace_book.specs.declared.record.Record.TheVariants as says
use Rattle.trace_book.specs.declared.record.StopCause.{StopCause}
use Rattle.wire_messages.specs.declared.packet.Packet.{Packet}
use Rattle.role_steps.specs.Own.{Every}
use Rattle.role_steps.specs.Tables.{with_row}
use Rattle.role_steps.specs.Views.{SiteView, Told, Shown, DiskWrite, Outcome, sync_site}
use Rattle.role_steps.specs.Storage.{copy_key}
use Rattle.role_steps.specs.declared.copies.FileCopy.{FileCopy}
use Rattle.role_steps.specs.declared.rounds.InEpoch.{InEpoch}
use Rattle.role_steps.proofs.Sending.{every_append}
use Rattle.the_run.specs.Disks.{Disk, Booted, Whole, CutOff, cut_disk, is_on_disk}
use Rattle.the_run.specs.Worlds.{World, Place, Running, Stopped, Numbered, place_at, happened, numbered_from, told_onto, puts, arms, stops_with, cause_of, acts, fresh}
use Rattle.the_run.specs.Runs.{boots_as}
use Rattle.the_run.proofs.Boots.{Reached, at_each, acts_cases, every_newest, every_numbered, every_weaker}
use Rattle.the_run.proofs.Events.{happened_keeps, puts_other, puts_same}
use Rattle.the_run.proofs.InsideSync.{every_row}
use Rattle.site_laws.specs.Vectors.Held.{copies_on, IsOf}
use Rattle.site_laws.specs.Vectors.Written.{past_of, CommitsAreNumbered}
use Rattle.site_laws.specs.Vectors.Facts.{CopyFact, PacketFact, ViewFact, NumberedAll, DiskFact, onto, NumberedFact}
use Rattle.site_laws.proofs.Vectors.Facts.{onto_later, body_later, copies_later, view_later, numbered_none}
use Rattle.site_laws.proofs.Vectors.FactsRun.{past_onto}
use Rattle.site_laws.proofs.Vectors.Held.{KeepsCopies}
use Rattle.site_laws.proofs.Vectors.SiteDisks.{SiteDisk}
use Rattle.site_laws.proofs.Vectors.SiteFacts.{SiteFine as VersionsFine}
use Rattle.site_laws.specs.Vectors.HistoryCommits.{IsSite, StampsAreOnce}
use Rattle.site_laws.specs.Locks.Joins.{WasJoined}
use Rattle.site_laws.specs.Locks.Synced.{SyncedBy}
use Rattle.site_laws.proofs.Makes.RunningStandRun.{Orderly}
use Rattle.site_laws.specs.Kept.StampCommits.{MadeAt}
use Rattle.site_laws.specs.Kept.StampLaws.{Laws}
use Rattle.site_laws.specs.Kept.StampCovering.{PacketCovers, DiskCounts, View, Goes, AllGo, DiskGoes, NumberedCovers}
use Rattle.site_laws.proofs.Kept.StampTold.{laws_older, laws_before, Releases}
use Rattle.site_laws.proofs.Kept.StampFrames.{not_mine, disk_after, fold}
use Rattle.site_laws.proofs.Kept.StampOutcomes.{Idle, idle_go, idle_not_at, idle_not_commit, packets_after}
use Rattle.site_laws.proofs.Kept.StampCommitCovers.{put_copy}
use Rattle.site_laws.proofs.Kept.StampSiteCovers.{SiteFine, SiteLawfully, Calm, view_after, view_idle}
use Rattle.site_laws.proofs.Kept.StampJoinCovers.{ReleasesSynced, released_by, synced_after}
use Rattle.site_laws.proofs.Kept.StampStamps.{StampsFit, once_after, fits_after}
use Rattle.site_laws.proofs.Kept.StampWriteCovers.{DiskOwes}
use Rattle.site_laws.proofs.Kept.StampEarlier.{orderly_before}

-- ---- the world ----

-- what is carried of a place: of a site, its versions are as written, and its copies and tables count
pub record PlaceCovers (c : Config) (past : List Told) (s : ℕ) (p : Place) : Type 0 where
  pub site : IsSite s
  pub written : Every (CopyFact past) (copies_on p)
  pub counts : DiskCounts past s (copies_on p)
  pub versions : (v : SiteView) → p ≡ Running v → ViewFact past v
  pub view : (v : SiteView) → p ≡ Running v → View c past s v

abbrev pub NumberedBoth : List Told → Numbered → Type 0
NumberedBoth past x = NumberedFact past x × NumberedCovers past x

pub record WorldCovers (c : Config) (w : World) : Type 0 where
  pub numbered : CommitsAreNumbered (past_of w.trace)
  pub once : StampsAreOnce (past_of w.trace)
  pub fit : StampsFit (past_of w.trace)
  pub synced : ReleasesSynced c (past_of w.trace)
  pub places : (s : ℕ) (p : Place) → place_at w s ≡ Some p → PlaceCovers c (past_of w.trace) s p
  pub packets : Every (NumberedBoth (past_of w.trace)) w.sent
  pub underway : Every (NumberedBoth (past_of w.trace)) w.underway

-- where the laws of the trace hold
abbrev pub Where : Config → World → Type 0
Where c w = Laws c (past_of w.trace) → Orderly w → WorldCovers c w

-- ---- places that an event doesn't touch ----

every_unit : (xs : List Told) → Every (λ (x : Told). Unit {0}) xs
every_unit [] = tt
every_unit (x ∷ xs) = (tt, every_unit xs)

-- what another site tells leaves a site calm
calm_other : (c : Config) (actor s : ℕ) (x : Told) (past : List Told) → actor ≢ s → Laws c (x ∷ past) → Goes c past actor x → Calm c past s x
calm_other c actor s x past ne l k = record { commits = not_mine c past actor s x ne k; releases = λ e group j q key file r same. never e group j q key file r same }
  where
    never : (e : InEpoch) (group : ℕ) → WasJoined past s e.id e.members → sync_site c e.members group ≡ Some s → (key : ℕ) (file : FileId) → Releases e.id key file x → file.group ≡ group → ⊥
    never e group j q key file r same =
        let by : SyncedBy c past e.id file.group actor = released_by c past actor e.id key file x k r in
        let one : by.members ≡ e.members = l.lists actor s e.id by.members e.members (inr by.joined) (inr j) in
        let there : sync_site c e.members group ≡ Some actor = subst (λ (n : ℕ). sync_site c e.members n ≡ Some actor) same (subst (λ (m : Members). sync_site c m file.group ≡ Some actor) one by.synced) in
        ne (some_same actor s (sym there ∙ q))

place_other : (c : Config) (actor s : ℕ) (told past : List Told) (p : Place) → actor ≢ s → Laws c (onto told past) → AllGo c past actor told → PlaceCovers c past s p → PlaceCovers c (onto told past) s p
place_other c actor s told past p ne l k h = record {
  site = h.site;
  written = copies_later past (onto told past) (onto_later told past) (copies_on p) h.written;
  counts = fold c actor (λ x. Unit {0}) (λ (now : List Told). DiskCounts now s (copies_on p)) (λ x now lx kx n g. disk_after x now s (copies_on p) (not_mine c now actor s x ne kx) g) told past l k (every_unit told) h.counts;
  versions = λ v e. view_later past (onto told past) (onto_later told past) v (h.versions v e);
  view = λ v e. fold c actor (λ x. Unit {0}) (λ (now : List Told). View c now s v) (λ x now lx kx n g. view_after c actor x now s v lx kx (calm_other c actor s x now ne lx kx) g) told past l k (every_unit told) (h.view v e);
}

disk_idle : (told past : List Told) (s : ℕ) (copies : List FileCopy) → Every Idle told → DiskCounts past s copies → DiskCounts (onto told past) s copies
disk_idle [] past s copies n h = h
disk_idle (x ∷ xs) past s copies n h = disk_idle xs (x ∷ past) s copies n.1 (disk_after x past s copies (idle_not_at s x n.0) h)

place_idle : (c : Config) (s : ℕ) (told past : List Told) (p : Place) → Laws c (onto told past) → Every Idle told → PlaceCovers c past s p → PlaceCovers c (onto told past) s p
place_idle c s told past p l idle h = record {
  site = h.site;
  written = copies_later past (onto told past) (onto_later told past) (copies_on p) h.written;
  counts = disk_idle told past s (copies_on p) idle h.counts;
  versions = λ v e. view_later past (onto told past) (onto_later told past) v (h.versions v e);
  view = λ v e. view_idle c s told past s v l idle (h.view v e);
}

-- ---- one event ----

-- what an event of a site owes of the facts before it
record Owed (c : Config) (actor : ℕ) (told : List Told) (ps : List Packet) (change : World → World) (w : World) : Type 0 where
  numbered : NumberedAll (past_of w.trace) told
  goes : AllGo c (past_of w.trace) actor told
  sent : Every (PacketFact (onto told (past_of w.trace))) ps
  covers : Every (PacketCovers (onto told (past_of w.trace))) ps
  places : (t : ℕ) (p : Place) → place_at (change w) t ≡ Some p → PlaceCovers c (onto told (past_of w.trace)) t p

all_numbered : (told past : List Told) → NumberedAll past told → CommitsAreNumbered past → CommitsAreNumbered (onto told past)
all_numbered [] past h g = g
all_numbered (x ∷ xs) past h g = all_numbered xs (x ∷ past) h.1 (h.0, g)

both_later : (c : Config) (actor : ℕ) (told past : List Told) (xs : List Numbered) → Laws c (onto told past) → AllGo c past actor told → Every (NumberedBoth past) xs → Every (NumberedBoth (onto told past)) xs
both_later c actor told past [] l k h = tt
both_later c actor told past (x ∷ xs) l k h = ((body_later past (onto told past) (onto_later told past) x.packet.epoch x.packet.body h.0.0, (packets_after c actor told past (x.packet ∷ []) l k (h.0.1, tt)).0), both_later c actor told past xs l k h.1)

both_sent : (past : List Told) (ps : List Packet) → Every (PacketFact past) ps → Every (PacketCovers past) ps → Every (λ (p : Packet). PacketFact past p × PacketCovers past p) ps
both_sent past [] h g = tt
both_sent past (p ∷ ps) h g = ((h.0, g.0), both_sent past ps h.1 g.1)

happened_covers : (c : Config) (actor n : ℕ) (ps : List Packet) (told : List Told) (change : World → World) (w : World) → (Laws c (onto told (past_of w.trace)) → Orderly w → WorldCovers c w → Owed c actor told ps change w) →
    (change w).sent ≡ w.sent → (change w).underway ≡ w.underway → Where c w → Where c (happened n ps told change w)
happened_covers c actor n ps told change w now sent underway g =
    happened_keeps (Where c) n ps told change w g
    (λ l h o. (let f : WorldCovers c w = g h o in record { numbered = f.numbered; once = f.once; fit = f.fit; synced = f.synced; places = f.places; packets = f.packets; underway = f.underway }))
    (λ k b t h o. (let l : Laws c (onto told past) = subst (Laws c) same h in let before : Orderly w = orderly_before n ps told change w b t sent o in let f : WorldCovers c w = g (laws_before c told past l) before in let r : Owed c actor told ps change w = now l before f in record {
      numbered = subst CommitsAreNumbered (sym same) (all_numbered told past r.numbered f.numbered);
      once = subst StampsAreOnce (sym same) (once_after c actor told past r.goes r.numbered f.numbered f.once);
      fit = subst StampsFit (sym same) (fits_after c actor told past r.goes f.fit);
      synced = subst (ReleasesSynced c) (sym same) (synced_after c actor told past r.goes f.synced);
      places = λ s p here. subst (λ (x : List Told). PlaceCovers c x s p) (sym same) (r.places s p here);
      packets = every_newest (NumberedBoth L) (numbered_from (w.packets + 1) ps) (change w).sent (added r) (subst (λ (xs : List Numbered). Every (NumberedBoth L) xs) (sym sent) (old r l w.sent f.packets));
      underway = every_append (NumberedBoth L) (change w).underway (numbered_from (w.packets + 1) ps) (subst (λ (xs : List Numbered). Every (NumberedBoth L) xs) (sym underway) (old r l w.underway f.underway)) (added r);
    }))
  where
    past : List Told
    past = past_of w.trace

    L : List Told
    L = past_of (told_onto n told w.trace)

    same : L ≡ onto told past
    same = past_onto n told w.trace

    old : Owed c actor told ps change w → Laws c (onto told past) → (xs : List Numbered) → Every (NumberedBoth past) xs → Every (NumberedBoth L) xs
    old r l xs h = subst (λ (x : List Told). Every (NumberedBoth x) xs) (sym same) (both_later c actor told past xs l r.goes h)

    added : Owed c actor told ps change w → Every (NumberedBoth L) (numbered_from (w.packets + 1) ps)
    added r = every_numbered (λ (p : Packet). PacketFact L p × PacketCovers L p) (w.packets + 1) ps (subst (λ (x : List Told). Every (λ (p : Packet). PacketFact x p × PacketCovers x p) ps) (sym same) (both_sent (onto told past) ps r.sent r.covers))

-- ---- one place ----

running_view : (v u : SiteView) → Running v ≡ Running u → v ≡ u
running_view v u e = cc

stopped_never : (d : Disk) (v : SiteView) → Stopped d ≡ Running v → ⊥
stopped_never d v e = cc

stopped_place : (c : Config) (past : List Told) (s : ℕ) (d : Disk) → IsSite s → Every (CopyFact past) d.copies → DiskCounts past s d.copies → PlaceCovers c past s (Stopped d)
stopped_place c past s d site h g = record { site = site; written = h; counts = g; versions = λ v e. absurd (stopped_never d v e); view = λ v e. absurd (stopped_never d v e) }

pub running_place : (c : Config) (past : List Told) (s : ℕ) (v : SiteView) → IsSite s → ViewFact past v → View c past s v → PlaceCovers c past s (Running v)
running_place c past s v site h g = record { site = site; written = h.copies; counts = g.disk; versions = λ u e. subst (ViewFact past) (running_view v u e) h; view = λ u e. subst (View c past s) (running_view v u e) g }

places_of : (c : Config) (s : ℕ) (new : Place) (told : List Told) (w : World) → WorldCovers c w → Laws c (onto told (past_of w.trace)) → AllGo c (past_of w.trace) s told → PlaceCovers c (onto told (past_of w.trace)) s new → (t : ℕ) (p : Place) → place_at (puts s new w) t ≡ Some p → PlaceCovers c (onto told (past_of w.trace)) t p
places_of c s new told w f l k fine t p here = at_each s t (PlaceCovers c (onto told (past_of w.trace)) t p)
    (λ e. subst (λ (n : ℕ). PlaceCovers c (onto told (past_of w.trace)) n p) e (subst (PlaceCovers c (onto told (past_of w.trace)) s) (some_eq new p (sym (puts_same s new w) ∙ (ap (place_at (puts s new w)) e ∙ here))) fine))
    (λ ne. place_other c s t told (past_of w.trace) p ne l k (f.places t p (sym (puts_other s t new w ne) ∙ here)))

-- a stop that leaves the disk as it is
pub stops_covers : (c : Config) (n s : ℕ) (old : Place) (d : Disk) (told : List Told) (w : World) → place_at w s ≡ Some old → d.copies ≡ copies_on old → Every Idle told → Where c w → Where c (happened n [] told (stops_with s d) w)
stops_covers c n s old d told w here disk idle g =
    happened_covers c s n [] told (stops_with s d) w
    (λ l o f. (let q : PlaceCovers c (onto told (past_of w.trace)) s old = place_idle c s told (past_of w.trace) old l idle (f.places s old here) in record {
      numbered = numbered_none (past_of w.trace) told (every_weaker Idle _ told idle_not_commit idle);
      goes = idle_go c (past_of w.trace) s told idle;
      sent = tt;
      covers = tt;
      places = places_of c s (Stopped d) told w f l (idle_go c (past_of w.trace) s told idle) (stopped_place c (onto told (past_of w.trace)) s d q.site (subst (λ (xs : List FileCopy). Every (CopyFact (onto told (past_of w.trace))) xs) (sym disk) q.written) (subst (DiskCounts (onto told (past_of w.trace)) s) (sym disk) q.counts));
    })) refl refl g

-- an event of the world itself
pub told_covers : (c : Config) (n : ℕ) (told : List Told) (w : World) → Every Idle told → Where c w → Where c (happened n [] told (λ now. now) w)
told_covers c n told w idle g =
    happened_covers c 0 n [] told (λ now. now) w
    (λ l o f. record {
      numbered = numbered_none (past_of w.trace) told (every_weaker Idle _ told idle_not_commit idle);
      goes = idle_go c (past_of w.trace) 0 told idle;
      sent = tt;
      covers = tt;
      places = λ t p here. place_idle c t told (past_of w.trace) p l idle (f.places t p here);
    }) refl refl g

-- ---- an event that is cut off in its commit or adoption ----

says_only : (s : ℕ) (r : Record) (x : FileCopy) → IsOf s r x → (g : FileId) (n : ℕ) → MadeAt s g n (Shown r) → g ≡ x.file
says_only s (says.Commit file t stamp parents content) x is g n m = sym m.0 ∙ sym is.1.file_is
says_only s (says.Adopt file t stamp) x is g n m = absurd m
says_only s _ x is g n m = absurd m

no_write : (d : DiskWrite) → ◌≡◌ {A = Option DiskWrite} None (Some d) → ⊥
no_write d e = cc

write_of : (s : ℕ) (v : SiteView) (o : Outcome SiteView) (d : DiskWrite) → o.written ≡ Some d → SiteDisk s v o → IsOf s d.says d.copy
write_of s v o d e (inl h) = absurd (no_write d (sym h.none ∙ e))
write_of s v o d e (inr h) = subst (λ (x : DiskWrite). IsOf s x.says x.copy) (some_eq h.0 d (sym h.1.is_written ∙ e)) h.1.says_so

-- what an outcome of a site owes
pub record Does (c : Config) (s : ℕ) (past : List Told) (v : SiteView) (o : Outcome SiteView) : Type 0 where
  pub versions : VersionsFine past o
  pub fine : SiteLawfully c s past o
  pub owes : DiskOwes c past s o.written
  pub disk : SiteDisk s v o

cut_covers : (c : Config) (n s : ℕ) (v : SiteView) (o : Outcome SiteView) (d : DiskWrite) (disk : Disk) (how : StopCause) (b : Bool) (w : World) → place_at w s ≡ Some (Running v) → o.written ≡ Some d → disk.copies ≡ cond b (with_row copy_key d.copy v.store.copies) v.store.copies →
    (Laws c (past_of w.trace) → Orderly w → WorldCovers c w → Does c s (past_of w.trace) v o) → Where c w → Where c (happened n [] (cond b (Shown d.says ∷ Shown (says.Stopped s how) ∷ []) (Shown (says.Stopped s how) ∷ [])) (stops_with s disk) w)
cut_covers c n s v o d disk how true w here e copies does g =
    happened_covers c s n [] told (stops_with s disk) w
    (λ l a f. (let before : Laws c (x ∷ past) = laws_older c (Shown (says.Stopped s how)) (x ∷ past) l in let k : Does c s past v o = does (laws_older c x past before) a f in let q : PlaceCovers c past s (Running v) = f.places s (Running v) here in
    let written : DiskFact past (Some d) = subst (DiskFact past) e k.versions.disk in let owed : DiskGoes c past s (Some d) = (subst (DiskOwes c past s) e k.owes) before in record {
      numbered = (written.0, (tt, tt));
      goes = (owed.0, (tt, tt));
      sent = tt;
      covers = tt;
      places = places_of c s (Stopped disk) told w f l (owed.0, (tt, tt)) (stopped_place c (onto told past) s disk q.site
          (subst (λ (xs : List FileCopy). Every (CopyFact (onto told past)) xs) (sym copies) (every_row (CopyFact (onto told past)) copy_key d.copy v.store.copies ((onto_later (Shown (says.Stopped s how) ∷ []) (x ∷ past)).written d.copy.file d.copy.stamp d.copy.vector written.1) (copies_later past (onto told past) (onto_later told past) v.store.copies q.written)))
          (subst (DiskCounts (onto told past) s) (sym copies) (disk_after (Shown (says.Stopped s how)) (x ∷ past) s (with_row copy_key d.copy v.store.copies) (λ g n m. m) (put_copy x past s d.copy v.store.copies (says_only s d.says d.copy (write_of s v o d e k.disk)) owed.1 q.counts))));
    })) refl refl g
  where
    past : List Told
    past = past_of w.trace

    x : Told
    x = Shown d.says

    told : List Told
    told = x ∷ Shown (says.Stopped s how) ∷ []
cut_covers c n s v o d disk how false w here e copies does g = stops_covers c n s (Running v) disk (Shown (says.Stopped s how) ∷ []) w here copies (tt, tt) g

pub acts_covers : (c : Config) (n s : ℕ) (v : SiteView) (o : Outcome SiteView) (w : World) → place_at w s ≡ Some (Running v) → (Laws c (past_of w.trace) → Orderly w → WorldCovers c w → Does c s (past_of w.trace) v o) → Where c w → Where c (acts n s v o w)
acts_covers c n s v o w here does g =
    acts_cases (Where c) n s v o w
    (happened_covers c s n o.sent o.told (λ now. puts s (Running o.view) now) w owed refl refl g)
    (λ a. happened_covers c s n o.sent o.told (λ now. puts s (Running o.view) (arms a now)) w (λ l b f. (let r : Owed c s o.told o.sent (λ now. puts s (Running o.view) now) w = owed l b f in record { numbered = r.numbered; goes = r.goes; sent = r.sent; covers = r.covers; places = r.places })) refl refl g)
    (λ d a e. cut_covers c n s v o d (cut_disk v.boot v.store d a.how a.left) (cause_of a.how) (is_on_disk v.store d a.how a.left) w here e refl does g)
  where
    owed : Laws c (onto o.told (past_of w.trace)) → Orderly w → WorldCovers c w → Owed c s o.told o.sent (λ now. puts s (Running o.view) now) w
    owed l b f =
        let k : Does c s (past_of w.trace) v o = does (laws_before c o.told (past_of w.trace) l) b f in
        let q : SiteFine c s (past_of w.trace) o = k.fine l in
        record {
          numbered = k.versions.numbered;
          goes = q.goes;
          sent = k.versions.sent;
          covers = q.sent;
          places = places_of c s (Running o.view) o.told w f l q.goes (running_place c (onto o.told (past_of w.trace)) s o.view (f.places s (Running v) here).site k.versions.view q.view);
        }

-- ---- a boot ----

risen : (a b : ℕ) → a + 1 ≤ b → b ≡ 0 → ⊥
risen a b h e = absurd (omega (arith, h, e))

boot_covers : (c : Config) (n s : ℕ) (d x : Disk) (change : World → World) (w : World) → place_at w s ≡ Some (Stopped d) → x.copies ≡ d.copies → d.label.boot + 1 ≤ x.label.boot → ((t : ℕ) → place_at (change w) t ≡ place_at (puts s (Running (fresh x.label.boot x.copies)) w) t) → (change w).sent ≡ w.sent → (change w).underway ≡ w.underway → Where c w →
    Where c (happened n [] (Shown (says.Up s x.label.boot) ∷ []) change w)
boot_covers c n s d x change w here e rises same sent underway g =
    happened_covers c s n [] told change w
    (λ l o f. (let q : PlaceCovers c (onto told past) s (Stopped d) = place_idle c s told past (Stopped d) l (tt, tt) (f.places s (Stopped d) here) in record {
      numbered = (tt, tt);
      goes = (tt, tt);
      sent = tt;
      covers = tt;
      places = λ t p at. places_of c s (Running view) told w f l (tt, tt) (running_place c (onto told past) s view q.site
          (record { copies = subst (λ (xs : List FileCopy). Every (CopyFact (onto told past)) xs) (sym e) q.written; pulls = tt; inside = refl })
          (record { boot = risen d.label.boot x.label.boot rises; disk = subst (DiskCounts (onto told past) s) (sym e) q.counts; inside = (refl, refl) })) t p (sym (same t) ∙ at);
    })) sent underway g
  where
    told : List Told
    told = Shown (says.Up s x.label.boot) ∷ []

    past : List Told
    past = past_of w.trace

    view : SiteView
    view = fresh x.label.boot x.copies

pub as_covers : (c : Config) (n s : ℕ) (d : Disk) (b : Booted) (w : World) → place_at w s ≡ Some (Stopped d) → KeepsCopies d.copies b → Reached d.label.boot (d.label.boot + 1) b → Where c w → Where c (boots_as n s b w)
as_covers c n s d (Whole x None) w here e r g = boot_covers c n s d x _ w here e r (λ t. refl) refl refl g
as_covers c n s d (Whole x (Some a)) w here e r g = boot_covers c n s d x _ w here e r (λ t. refl) refl refl g
as_covers c n s d (CutOff x how) w here e r g = stops_covers c n s (Stopped d) x (Shown (says.Stopped s (cause_of how)) ∷ []) w here e (tt, tt) g
