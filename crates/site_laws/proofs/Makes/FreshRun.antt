-- In every run a number is reserved for a file that nobody has committed.
use Rattle.std.proofs.Common.{◌≡◌, ◌≤◌, ℕ, Bool, true, false, cond, ◌⊎◌, List, [], ◌∷◌, ◌++◌, filter, map, Option, Some, None, refl, sym, ◌∙◌, ap, subst, inl, inr}
use Rattle.role_steps.proofs.of_plain_facts.Options.{some_same}
use Rattle.role_steps.proofs.of_plain_facts.Tests.{false_true}
use Rattle.locus_ids.specs.Sites.{has}
use Rattle.locus_ids.specs.declared.ids.FileId.{FileId}
use Rattle.locus_ids.specs.declared.config.Config.{Config}
use Rattle.schedule_lines.specs.declared.line.ScheduleLine.{ScheduleLine}
use Rattle.trace_book.specs.declared.record.Record.TheVariants as says
use Rattle.trace_book.specs.declared.record.StopCause.{StopCause}
use Rattle.trace_book.specs.declared.record.StopCause.TheVariants as cause
use Rattle.wire_messages.specs.declared.packet.Packet.{Packet}
use Rattle.role_steps.specs.Own.{Every}
use Rattle.role_steps.specs.Tables.{row, with_row}
use Rattle.role_steps.specs.Views.{Frame, Store, SiteView, Told, Shown, Begins, Reserves, DiskWrite, Outcome, Event, Receives, all_groups, pack_sites}
use Rattle.role_steps.specs.Epochs.{frame_in}
use Rattle.role_steps.specs.Storage.{StoreRequest, copy_key, on_open_ss}
use Rattle.role_steps.specs.declared.copies.FileCopy.{FileCopy}
use Rattle.role_steps.proofs.Sending.{every_map}
use Rattle.the_run.specs.Disks.{Disk, Booted, Whole, CutOff, boots, cut_disk, is_on_disk}
use Rattle.the_run.specs.Steps.{step}
use Rattle.the_run.specs.Worlds.{World, Place, Running, Stopped, Numbered, links_of, place_at, script_of, happened, told_onto, disk_of, puts, arms, passed, stops_with, cause_of, acts, fresh, root_copy, formatted, first_world}
use Rattle.the_run.specs.Runs.{boots_as, packet_record, run_in}
use Rattle.the_run.specs.Kept.{Among, Kept}
use Rattle.the_run.proofs.Boots.{at_each, acts_cases}
use Rattle.the_run.proofs.Events.{happened_keeps, puts_other, puts_same}
use Rattle.the_run.proofs.Runs.{every_run}
use Rattle.site_laws.specs.Vectors.Held.{Still, IsOf, Replaces, Writes, OnDisk, copies_on}
use Rattle.site_laws.specs.Vectors.Written.{past_of}
use Rattle.site_laws.specs.Vectors.Facts.{onto}
use Rattle.site_laws.proofs.Vectors.SiteDisks.{SiteDisk, step_disk}
use Rattle.site_laws.proofs.Vectors.FactsRun.{past_onto}
use Rattle.site_laws.proofs.Vectors.Held.{KeepsCopies, boots_copies}
use Rattle.site_laws.proofs.Packs.InodeFitsRun.{run_fits}
use Rattle.site_laws.proofs.Locks.FactsRun.{run_goes}
use Rattle.site_laws.specs.Packs.Packs.{HasPack}
use Rattle.site_laws.specs.Packs.Making.{IsOwnNumber, WasCommitted, WasCommittedAt, HomesCommitFirst}
use Rattle.site_laws.proofs.Packs.Making.{run_made}
use Rattle.site_laws.proofs.Packs.PacksRun.{run_packs}
use Rattle.site_laws.proofs.Packs.Homes.{run_homes}
use Rattle.run_laws.proofs.Walks.FirstWorld.{first_places}
use Rattle.site_laws.specs.Makes.Fresh.{FreshTold, NumbersAreFresh}
use Rattle.site_laws.specs.Makes.Made.{HasCopy, IsListed, DiskHas, Lawful, WorldMade, StartListed, WorldListed, WorldFresh}
use Rattle.site_laws.proofs.Makes.Telling.{AnyGroup, Plain, any_record}
use Rattle.site_laws.proofs.Makes.SitesTell.{ToldAs, step_plain}
use Rattle.site_laws.proofs.Makes.Opening.{made_file, OpenTold, open_told, unused_none}
use Rattle.site_laws.proofs.Makes.Copies.{still_has, mine_has, others_have}
use Rattle.site_laws.proofs.Makes.BegunRun.{made_kept, first_made}
use Rattle.site_laws.proofs.Makes.ListedRun.{started_listed, listed_kept, first_listed}

-- ---- the laws of what was told ----

pub lawful_before : (c : Config) (told past : List Told) → Lawful c (onto told past) → Lawful c past
lawful_before c [] past h = h
lawful_before c (x ∷ xs) past h = let k : Lawful c (x ∷ past) = lawful_before c xs (x ∷ past) h in record { goes = k.goes.1; homes = k.homes.1; made = k.made.1; packed = k.packed.1; fit = k.fit.1 }

-- whoever has committed the file, its home has
home_has : (file : FileId) (home : ℕ) (past : List Told) → 1 ≤ home → IsOwnNumber home file.ino → HomesCommitFirst past → WasCommitted past file → (file.ino ≡ 1) ⊎ WasCommittedAt past home file
home_has file home [] low own h k = absurd k
home_has file home (x ∷ older) low own h (inl k) = h.0 file home low own k
home_has file home (x ∷ older) low own h (inr k) = later (home_has file home older low own h.1 k)
  where
    later : (file.ino ≡ 1) ⊎ WasCommittedAt older home file → (file.ino ≡ 1) ⊎ WasCommittedAt (x ∷ older) home file
    later (inl e) = inl e
    later (inr q) = inr (inr q)

-- ---- fresh numbers ----

abbrev AllFresh : List Told → List Told → Type 0
AllFresh past [] = Unit {0}
AllFresh past (x ∷ xs) = FreshTold past x × AllFresh (x ∷ past) xs

all_fresh : (told past : List Told) → AllFresh past told → NumbersAreFresh past → NumbersAreFresh (onto told past)
all_fresh [] past h g = g
all_fresh (x ∷ xs) past h g = all_fresh xs (x ∷ past) h.1 (h.0, g)

plain_fresh : (past : List Told) (x : Told) → Plain x → FreshTold past x
plain_fresh past (Reserves s e inst file) h = absurd h
plain_fresh past _ h = tt

plains_fresh : (told past : List Told) → Every Plain told → AllFresh past told
plains_fresh [] past h = tt
plains_fresh (x ∷ xs) past h = (plain_fresh past x h.0, plains_fresh xs (x ∷ past) h.1)

-- a file of which the disk has no copy
no_copy : (c : Config) (past : List Told) (s : ℕ) (file : FileId) (copies : List FileCopy) → 1 ≤ s → IsOwnNumber s file.ino → IsListed file.group → HasPack c file.group s → HomesCommitFirst past → DiskHas c past s copies → (HasCopy file copies → ⊥) → (file.ino ≡ 1 → ⊥) × (WasCommitted past file → ⊥)
no_copy c past s file copies low own listed pack homes disk none = (no_root, λ k. by_home (home_has file s past low own homes k))
  where
    no_root : file.ino ≡ 1 → ⊥
    no_root e = none (disk file (inr (e, listed, pack)))

    by_home : (file.ino ≡ 1) ⊎ WasCommittedAt past s file → ⊥
    by_home (inl e) = no_root e
    by_home (inr k) = none (disk file (inl k))

opened_fresh : (c : Config) (f : Frame) (r : StoreRequest) (store : Store) (told after past : List Told) → 1 ≤ f.me → Every StartListed past → Every Plain after → Lawful c (onto (told ++ after) past) → DiskHas c past f.me store.copies → OpenTold f r store told → AllFresh past (told ++ after)
opened_fresh c f r store told after past low starts h law disk (inl o) = subst (λ (xs : List Told). AllFresh past (xs ++ after)) (sym o) (plains_fresh after past h)
opened_fresh c f r store told after past low starts h law disk (inr (inl o)) = subst (λ (xs : List Told). AllFresh past (xs ++ after)) (sym o.told_is) (tt, plains_fresh after (Begins f.me f.epoch r.inst r.file ∷ past) h)
opened_fresh c f r store told after past low starts h law disk (inr (inr o)) =
    subst (λ (xs : List Told). AllFresh past (xs ++ after)) (sym o.told_is) (tt, ((fresh_one.0, not_since), plains_fresh after (y ∷ x ∷ past) h))
  where
    file : FileId
    file = made_file r o.ino

    x : Told
    x = Begins f.me f.epoch r.inst file

    y : Told
    y = Reserves f.me f.epoch r.inst file

    there : Lawful c (y ∷ x ∷ past)
    there = lawful_before c after (y ∷ x ∷ past) (subst (λ (xs : List Told). Lawful c (onto (xs ++ after) past)) o.told_is law)

    fresh_one : (file.ino ≡ 1 → ⊥) × (WasCommitted past file → ⊥)
    fresh_one = no_copy c past f.me file store.copies low there.made.0 (started_listed f.epoch r.file.group past starts there.goes.1.0) there.packed.0.0 there.homes.1.1 disk (unused_none store r.file.group o.ino o.unused)

    not_since : WasCommitted (x ∷ past) file → ⊥
    not_since (inl k) = k
    not_since (inr k) = fresh_one.1 k

event_fresh : (c : Config) (s : ℕ) (v : SiteView) (e : Event) (told past : List Told) → 1 ≤ s → Every StartListed past → Lawful c (onto told past) → DiskHas c past s v.store.copies → ToldAs AnyGroup c s v e told → AllFresh past told
event_fresh c s v e told past low starts law disk (inl h) = plains_fresh told past h
event_fresh c s v e told past low starts law disk (inr o) =
    let f : Frame = frame_in c s v.boot o.epoch in
    subst (AllFresh past) (sym o.told_is) (opened_fresh c f o.asked v.store (on_open_ss f o.asked v.store).told o.after past low starts o.plain (subst (λ (xs : List Told). Lawful c (onto xs past)) o.told_is law) disk (open_told f o.asked v.store))

-- ---- one event ----

abbrev Fresh : Config → World → Type 0
Fresh c w = Lawful c (past_of w.trace) → WorldFresh c w

record Owed (c : Config) (told : List Told) (change : World → World) (w : World) : Type 0 where
  disks : (s : ℕ) (p : Place) → place_at (change w) s ≡ Some p → DiskHas c (onto told (past_of w.trace)) s (copies_on p)
  fresh : AllFresh (past_of w.trace) told

happened_fresh : (c : Config) (n : ℕ) (ps : List Packet) (told : List Told) (change : World → World) (w : World) → (Lawful c (onto told (past_of w.trace)) → WorldFresh c w → Owed c told change w) → Fresh c w → Fresh c (happened n ps told change w)
happened_fresh c n ps told change w now g =
    happened_keeps (Fresh c) n ps told change w g
    (λ l h. (let f : WorldFresh c w = g h in record { disks = f.disks; fresh = f.fresh }))
    (λ k b t h. (let law : Lawful c (onto told (past_of w.trace)) = subst (Lawful c) same h in let f : WorldFresh c w = g (lawful_before c told (past_of w.trace) law) in let o : Owed c told change w = now law f in record {
      disks = λ s p here. subst (λ (xs : List Told). DiskHas c xs s (copies_on p)) (sym same) (o.disks s p here);
      fresh = subst NumbersAreFresh (sym same) (all_fresh told (past_of w.trace) o.fresh f.fresh);
    }))
  where
    same : past_of (told_onto n told w.trace) ≡ onto told (past_of w.trace)
    same = past_onto n told w.trace

-- the disks where one place changes as an event allows
disks_of : (c : Config) (s : ℕ) (old new : Place) (told : List Told) (written : Option DiskWrite) (w : World) → place_at w s ≡ Some old → OnDisk s (copies_on old) (copies_on new) told written → Lawful c (onto told (past_of w.trace)) → WorldFresh c w →
    (t : ℕ) (p : Place) → place_at (puts s new w) t ≡ Some p → DiskHas c (onto told (past_of w.trace)) t (copies_on p)
disks_of c s old new told written w here disk law f t p at = at_each s t (DiskHas c (onto told (past_of w.trace)) t (copies_on p))
    (λ e. subst (λ (n : ℕ). DiskHas c (onto told (past_of w.trace)) n (copies_on p)) e (subst (λ (q : Place). DiskHas c (onto told (past_of w.trace)) s (copies_on q)) (some_same new p (sym (puts_same s new w) ∙ (ap (place_at (puts s new w)) e ∙ at))) (mine_has c s (copies_on old) (copies_on new) told (past_of w.trace) written disk law.fit (f.disks s old here))))
    (λ ne. others_have c s t (copies_on old) (copies_on new) (copies_on p) told (past_of w.trace) written ne disk (f.disks t p (sym (puts_other s t new w ne) ∙ at)))

still_disk : (s : ℕ) (copies : List FileCopy) (told : List Told) → Every Still told → OnDisk s copies copies told None
still_disk s copies told h = inl (record { copies = refl; still = h; none = refl })

told_fresh : (c : Config) (n : ℕ) (told : List Told) (w : World) → Every Still told → Every Plain told → Fresh c w → Fresh c (happened n [] told (λ now. now) w)
told_fresh c n told w still plain g = happened_fresh c n [] told (λ now. now) w (λ law f. record { disks = λ t p at. still_has c told (past_of w.trace) t (copies_on p) still (f.disks t p at); fresh = plains_fresh told (past_of w.trace) plain }) g

-- a site that stops or boots with the copies that it had
still_fresh : (c : Config) (n s : ℕ) (old new : Place) (told : List Told) (change : World → World) (w : World) → place_at w s ≡ Some old → copies_on new ≡ copies_on old → ((t : ℕ) → place_at (change w) t ≡ place_at (puts s new w) t) → Every Still told → Every Plain told → Fresh c w → Fresh c (happened n [] told change w)
still_fresh c n s old new told change w here copies same still plain g = happened_fresh c n [] told change w (λ law f. record {
  disks = λ t p at. disks_of c s old new told None w here (subst (λ (xs : List FileCopy). OnDisk s (copies_on old) xs told None) (sym copies) (still_disk s (copies_on old) told still)) law f t p (sym (same t) ∙ at);
  fresh = plains_fresh told (past_of w.trace) plain;
}) g

no_write : (d : DiskWrite) → ◌≡◌ {A = Option DiskWrite} None (Some d) → ⊥
no_write d e = cc

cut_writes : (s : ℕ) (v : SiteView) (o : Outcome SiteView) (x d : DiskWrite) (how : StopCause) → Writes s v.store.copies o.view.store.copies o.told o.written x → x ≡ d → Writes s v.store.copies (with_row copy_key d.copy v.store.copies) (Shown d.says ∷ Shown (says.Stopped s how) ∷ []) (Some d) d
cut_writes s v o x d how h e = record {
  is_written = refl;
  copies = refl;
  says_so = subst (λ (y : DiskWrite). IsOf s y.says y.copy) e h.says_so;
  above = subst (λ (y : DiskWrite). Replaces y.says y.copy (row copy_key (copy_key y.copy) v.store.copies)) e h.above;
  before = [];
  after = Shown (says.Stopped s how) ∷ [];
  told_is = refl;
  still_before = tt;
  still_after = (tt, tt);
}

-- an event that is cut off: what is on the disk is told, and nothing else
cut_disk_is : (s : ℕ) (v : SiteView) (o : Outcome SiteView) (d : DiskWrite) (b : Bool) (how : StopCause) → o.written ≡ Some d → SiteDisk s v o → OnDisk s v.store.copies (cond b (with_row copy_key d.copy v.store.copies) v.store.copies) (cond b (Shown d.says ∷ Shown (says.Stopped s how) ∷ []) (Shown (says.Stopped s how) ∷ [])) (cond b (Some d) None)
cut_disk_is s v o d b how e (inl h) = absurd (no_write d (sym h.none ∙ e))
cut_disk_is s v o d false how e (inr h) = still_disk s v.store.copies (Shown (says.Stopped s how) ∷ []) (tt, tt)
cut_disk_is s v o d true how e (inr h) = inr (d, cut_writes s v o h.0 d how h.1 (some_same h.0 d (sym h.1.is_written ∙ e)))

acts_fresh : (c : Config) (n s : ℕ) (v : SiteView) (e : Event) (o : Outcome SiteView) (w : World) → place_at w s ≡ Some (Running v) → WorldMade c w → WorldListed w → SiteDisk s v o → ToldAs AnyGroup c s v e o.told → Fresh c w → Fresh c (acts n s v o w)
acts_fresh c n s v e o w here made listed disk told g =
    acts_cases (Fresh c) n s v o w
    (happened_fresh c n o.sent o.told (λ now. puts s (Running o.view) now) w owed g)
    (λ a. happened_fresh c n o.sent o.told (λ now. puts s (Running o.view) (arms a now)) w (λ law f. (let k : Owed c o.told (λ now. puts s (Running o.view) now) w = owed law f in record { disks = k.disks; fresh = k.fresh })) g)
    (λ d a q. cut d (is_on_disk v.store d a.how a.left) (cause_of a.how) (cut_disk v.boot v.store d a.how a.left) q refl)
  where
    owed : Lawful c (onto o.told (past_of w.trace)) → WorldFresh c w → Owed c o.told (λ now. puts s (Running o.view) now) w
    owed law f = record {
      disks = disks_of c s (Running v) (Running o.view) o.told o.written w here disk law f;
      fresh = event_fresh c s v e o.told (past_of w.trace) (made.low s (Running v) here) listed.starts law (f.disks s (Running v) here) told;
    }

    cut_told_plain : (b : Bool) (d : DiskWrite) (how : StopCause) → Every Plain (cond b (Shown d.says ∷ Shown (says.Stopped s how) ∷ []) (Shown (says.Stopped s how) ∷ []))
    cut_told_plain true d how = (any_record d.says, (tt, tt))
    cut_told_plain false d how = (tt, tt)

    cut : (d : DiskWrite) (b : Bool) (how : StopCause) (x : Disk) → o.written ≡ Some d → x.copies ≡ cond b (with_row copy_key d.copy v.store.copies) v.store.copies → Fresh c (happened n [] (cond b (Shown d.says ∷ Shown (says.Stopped s how) ∷ []) (Shown (says.Stopped s how) ∷ [])) (stops_with s x) w)
    cut d b how x q copies = happened_fresh c n [] _ (stops_with s x) w (λ law f. record {
      disks = disks_of c s (Running v) (Stopped x) _ (cond b (Some d) None) w here (subst (λ (xs : List FileCopy). OnDisk s v.store.copies xs (cond b (Shown d.says ∷ Shown (says.Stopped s how) ∷ []) (Shown (says.Stopped s how) ∷ [])) (cond b (Some d) None)) (sym copies) (cut_disk_is s v o d b how q disk)) law f;
      fresh = plains_fresh _ (past_of w.trace) (cut_told_plain b d how);
    }) g

as_fresh : (c : Config) (n s : ℕ) (d : Disk) (b : Booted) (w : World) → place_at w s ≡ Some (Stopped d) → KeepsCopies d.copies b → Fresh c w → Fresh c (boots_as n s b w)
as_fresh c n s d (Whole x None) w here e g = still_fresh c n s (Stopped d) (Running (fresh x.label.boot x.copies)) (Shown (says.Up s x.label.boot) ∷ []) _ w here e (λ t. refl) (tt, tt) (tt, tt) g
as_fresh c n s d (Whole x (Some a)) w here e g = still_fresh c n s (Stopped d) (Running (fresh x.label.boot x.copies)) (Shown (says.Up s x.label.boot) ∷ []) _ w here e (λ t. refl) (tt, tt) (tt, tt) g
as_fresh c n s d (CutOff x how) w here e g = still_fresh c n s (Stopped d) (Stopped x) (Shown (says.Stopped s (cause_of how)) ∷ []) (stops_with s x) w here e (λ t. refl) (tt, tt) (tt, tt) g

-- ---- every event and change ----

-- what is begun and reserved, which groups start, and that numbers are fresh
abbrev pub Making : Config → World → Type 0
Making c w = WorldMade c w × WorldListed w × Fresh c w

alike : (c : Config) (w u : World) → u.trace ≡ w.trace → ((t : ℕ) → place_at u t ≡ place_at w t) → Fresh c w → Fresh c u
alike c w u e same g h = (let f : WorldFresh c w = g (subst (λ (xs : List _). Lawful c (past_of xs)) e h) in record {
  disks = λ s p at. subst (λ (xs : List _). DiskHas c (past_of xs) s (copies_on p)) (sym e) (f.disks s p (sym (same s) ∙ at));
  fresh = subst (λ (xs : List _). NumbersAreFresh (past_of xs)) (sym e) f.fresh;
})

pub making_kept : (c : Config) → Kept c (Making c)
making_kept c = record {
  steps = λ n s e v w here own g. (made.steps n s e v w here own g.0, listed.steps n s e v w here own g.1, acts_fresh c n s v e (step c s (links_of w s) v e) w here g.0 g.1 (step_disk c s (links_of w s) v e) (step_plain c s (links_of w s) v e) g.2);
  receives = λ n x v w here sent g. (made.receives n x v w here sent g.0, listed.receives n x v w here sent g.1, received n x v w here (made.passes x.number w g.0) (listed.passes x.number w g.1) g.2);
  passes = λ k w g. (made.passes k w g.0, listed.passes k w g.1, alike c w _ refl (λ t. refl) g.2);
  drops = λ k w g. (made.drops k w g.0, listed.drops k w g.1, alike c w _ refl (λ t. refl) g.2);
  recuts = λ xs w g. (made.recuts xs w g.0, listed.recuts xs w g.1, alike c w _ refl (λ t. refl) g.2);
  arming = λ a w g. (made.arming a w g.0, listed.arming a w g.1, alike c w _ refl (λ t. refl) g.2);
  voiding = λ n w g. (made.voiding n w g.0, listed.voiding n w g.1, told_fresh c n (Shown says.Void ∷ []) w (tt, tt) (tt, tt) g.2);
  budgets = λ n w g. (made.budgets n w g.0, listed.budgets n w g.1, told_fresh c n (Shown says.Budget ∷ []) w (tt, tt) (tt, tt) g.2);
  pending = λ n w g. (made.pending n w g.0, listed.pending n w g.1, told_fresh c n (map packet_record w.underway) w (every_map Still packet_record w.underway (λ x. tt)) (every_map Plain packet_record w.underway (λ x. tt)) g.2);
  stopping = λ n s v w here g. (made.stopping n s v w here g.0, listed.stopping n s v w here g.1, still_fresh c n s (Running v) (Stopped (disk_of v)) (Shown (says.Stopped s cause.Asked) ∷ []) (stops_with s (disk_of v)) w here refl (λ t. refl) (tt, tt) (tt, tt) g.2);
  booting = λ n s d w here g. (made.booting n s d w here g.0, listed.booting n s d w here g.1, as_fresh c n s d (boots (script_of w s) d) w here (boots_copies (script_of w s) d) g.2);
}
  where
    made : Kept c (WorldMade c)
    made = made_kept c

    listed : Kept c WorldListed
    listed = listed_kept c

    received : (n : ℕ) (x : Numbered) (v : SiteView) (w : World) → place_at w x.packet.to ≡ Some (Running v) → WorldMade c (passed x.number w) → WorldListed (passed x.number w) → Fresh c w → Fresh c (acts n x.packet.to v (step c x.packet.to (links_of (passed x.number w) x.packet.to) v (Receives x.packet)) (passed x.number w))
    received n x v w here m l g = acts_fresh c n x.packet.to v (Receives x.packet) (step c x.packet.to (links_of (passed x.number w) x.packet.to) v (Receives x.packet)) (passed x.number w) here m l (step_disk c x.packet.to (links_of (passed x.number w) x.packet.to) v (Receives x.packet)) (step_plain c x.packet.to (links_of (passed x.number w) x.packet.to) v (Receives x.packet)) (alike c w (passed x.number w) refl (λ t. refl) g)

-- ---- the first world ----

root_is : (file : FileId) (g : ℕ) → file.ino ≡ 1 → file.group ≡ g → ◌≡◌ {A = FileId} (record { group = g; ino = 1 }) file
root_is file g e f = λ i. record { group = sym f i; ino = sym e i }

-- the format writes the roots of the groups of which the site has a pack
roots_have : (c : Config) (gs : List ℕ) (s : ℕ) (file : FileId) → file.ino ≡ 1 → Among file.group gs → HasPack c file.group s → HasCopy file (map (root_copy c) (filter (λ g. has (pack_sites c g) s) gs))
roots_have c [] s file e h k = absurd h
roots_have c (g ∷ gs) s file e h k = by_pack (has (pack_sites c g) s) refl (roots_have c gs s file e) h
  where
    by_pack : (b : Bool) → has (pack_sites c g) s ≡ b → (Among file.group gs → HasPack c file.group s → HasCopy file (map (root_copy c) (filter (λ n. has (pack_sites c n) s) gs))) → Among file.group (g ∷ gs) →
        HasCopy file (map (root_copy c) (cond b (g ∷ filter (λ n. has (pack_sites c n) s) gs) (filter (λ n. has (pack_sites c n) s) gs)))
    by_pack true p rest (inl q) = inl (root_is file g e q)
    by_pack true p rest (inr q) = inr (rest q k)
    by_pack false p rest (inl q) = absurd (false_true (sym p ∙ subst (λ (n : ℕ). has (pack_sites c n) s ≡ true) q k))
    by_pack false p rest (inr q) = rest q k

formatted_has : (c : Config) (s : ℕ) → DiskHas c [] s (formatted c s)
formatted_has c s file (inl h) = absurd h
formatted_has c s file (inr h) = roots_have c all_groups s file h.0 h.1 h.2

first_fresh : (c : Config) → Fresh c (first_world c)
first_fresh c h = record { disks = first_places c (λ s p. DiskHas c [] s (copies_on p)) (λ s own. formatted_has c s); fresh = tt }

pub first_making : (c : Config) → Making c (first_world c)
first_making c = (first_made c, first_listed c, first_fresh c)

-- ---- the law ----

pub run_making : (c : Config) (lines : List ScheduleLine) → Making c (run_in c lines)
run_making c lines = every_run c (Making c) (making_kept c) (first_making c) lines

pub run_lawful : (c : Config) (lines : List ScheduleLine) → Lawful c (past_of (run_in c lines).trace)
run_lawful c lines = record { goes = run_goes c lines; homes = run_homes c lines; made = run_made c lines; packed = (run_packs c lines).told; fit = run_fits c lines }

pub run_fresh : (c : Config) (lines : List ScheduleLine) → NumbersAreFresh (past_of (run_in c lines).trace)
run_fresh c lines = ((run_making c lines).2 (run_lawful c lines)).fresh
