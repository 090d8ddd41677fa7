-- In every run the versions of a file are begun, made and adopted where packs are.
use Rattle.std.proofs.Common.{◌≡◌, ℕ, ◌+◌, ◌==◌, nat_lt, Bool, true, false, ◌&&◌, ◌||◌, cond, List, [], ◌∷◌, ◌++◌, map, Option, Some, None, refl, sym, ◌∙◌, ap, subst, inl, inr, arith}
use Rattle.std.proofs.lemmas.Bool.Decides.{nat_tests}
use Rattle.role_steps.proofs.of_plain_facts.Options.{some_same}
use Rattle.role_steps.proofs.of_plain_facts.Tests.{both_true, not_false, or_other}
use Rattle.locus_ids.specs.Sites.{has}
use Rattle.locus_ids.specs.declared.ids.EpochId.{EpochId}
use Rattle.locus_ids.specs.declared.ids.FileId.{FileId}
use Rattle.trace_book.specs.Same.{same_epoch}
use Rattle.wire_messages.specs.Bodies.{kind_number}
use Rattle.wire_messages.specs.declared.packet.Packet.{Packet}
use Rattle.wire_messages.specs.declared.body.Body.{Body}
use Rattle.wire_messages.specs.declared.body.Body.TheVariants as body
use Rattle.role_steps.specs.Own.{Every}
use Rattle.role_steps.specs.Views.{SiteView, Told, Shown, Begins, Shuts, DiskWrite, Outcome, Event, Calls, Receives, Ticks, Parts, Merges, GivesUp, all_groups, boot_in, pack_sites, serial_key}
use Rattle.role_steps.specs.declared.rounds.InEpoch.{InEpoch}
use Rattle.role_steps.specs.declared.synchronizing.SyncTable.{SyncTable}
use Rattle.role_steps.specs.declared.synchronizing.OpenRow.{OpenRow}
use Rattle.role_steps.specs.declared.synchronizing.OpenStage.{OpenStage}
use Rattle.role_steps.specs.declared.synchronizing.OpenStage.TheVariants as stage
use Rattle.the_run.specs.Steps.{is_dropped, is_forming, is_framed}
use Rattle.the_run.specs.Worlds.{World, Place, Running, Stopped, Numbered, number_of, links_of, place_at, script_of, happened, numbered_from, told_onto, disk_of, puts, arms, passed, stops_with, cause_of, acts, fresh, root_copy, formatted, first_world, loses}
use Rattle.the_run.specs.Kept.{WasSent, IsOwn, Kept}
use Rattle.the_run.proofs.Boots.{at_each, acts_cases, every_newest, every_numbered, every_weaker}
use Rattle.site_laws.specs.Vectors.Held.{OnDisk, copies_on}
use Rattle.site_laws.specs.Vectors.Written.{past_of, Begun, WasBegun, WasGranted, InstancesAgree}
use Rattle.site_laws.proofs.Vectors.SiteDisks.{SiteDisk, step_disk}
use Rattle.run_laws.proofs.Walks.FirstWorld.{first_places}
use Rattle.site_laws.proofs.Packs.InstanceAgree.{run_agrees}
use Rattle.site_laws.specs.Locks.Going.{WasBegunAt, BegunAt, WasShutAt, ShutAt, InstanceGoesOn, InstancesGoOn}
use Rattle.site_laws.specs.Locks.Facts.{BodyFact, RowFact, OpenFact, TableFact, InEpochFact, ViewFact, NumberedFact, WorldFact}
use Rattle.site_laws.proofs.Locks.Facts.{onto_later}
use Rattle.site_laws.specs.Packs.Packs.{HasPack, CopyPacked, RecordPacked, ToldPacked, FilesLieInPacks}
use Rattle.site_laws.specs.Packs.Packed.{PacketPacked, ViewPacked, StageCloses, RowCloses, TableCloses, BodyCloses, NumberedPacked, WorldPacked}
use Rattle.site_laws.proofs.Packs.Sets.{passing}
use Rattle.site_laws.proofs.Packs.SitePacks.{SiteOut, PacketAllows, EventPacked, step_packed}
use Rattle.site_laws.proofs.Locks.FactsRun.{Both, both_kept, first_both}
use Rattle.locus_ids.specs.declared.config.Config.{Config}
use Rattle.schedule_lines.specs.declared.line.ScheduleLine.{ScheduleLine}
use Rattle.trace_book.specs.declared.record.Record.{Record}
use Rattle.trace_book.specs.declared.record.Record.TheVariants as says
use Rattle.trace_book.specs.declared.record.StopCause.{StopCause}
use Rattle.trace_book.specs.declared.record.StopCause.TheVariants as cause
use Rattle.role_steps.specs.Tables.{row, with_row}
use Rattle.role_steps.specs.Storage.{copy_key}
use Rattle.role_steps.specs.declared.copies.FileCopy.{FileCopy}
use Rattle.role_steps.proofs.Sending.{every_append, every_map}
use Rattle.the_run.specs.Disks.{Disk, Booted, Whole, CutOff, boots, cut_disk, is_on_disk}
use Rattle.the_run.specs.Steps.{step}
use Rattle.the_run.specs.Runs.{boots_as, packet_record, run_in}
use Rattle.the_run.proofs.Events.{happened_keeps, puts_other, puts_same}
use Rattle.the_run.proofs.InsideSync.{every_row, every_without}
use Rattle.the_run.proofs.Runs.{every_run}
use Rattle.run_laws.proofs.Run.{found_among}
use Rattle.site_laws.specs.Vectors.Facts.{onto}
use Rattle.site_laws.proofs.Vectors.FactsRun.{past_onto}
use Rattle.site_laws.proofs.Vectors.Held.{KeepsCopies, boots_copies}

-- ---- what is written, by what is told ----

-- what was put into a table is in it
put_there : {A : Type 0} (P : A → Type 0) (key : A → ℕ) (x : A) (xs : List A) → Every P (with_row key x xs) → P x
put_there P key x [] h = h.0
put_there P key x (y ∷ ys) h = by_key (nat_lt (key y) (key x)) (key y == key x) h (λ k. put_there P key x ys k)
  where
    by_key : (a b : Bool) → Every P (elim a [ true ↦ y ∷ with_row key x ys | false ↦ elim b [ true ↦ x ∷ ys | false ↦ x ∷ y ∷ ys ] ]) → (Every P (with_row key x ys) → P x) → P x
    by_key true b k rest = rest k.1
    by_key false true k rest = k.0
    by_key false false k rest = k.0

copy_there : (c : Config) (s : ℕ) (x : FileCopy) (old new : List FileCopy) → new ≡ with_row copy_key x old → Every (CopyPacked c s) new → CopyPacked c s x
copy_there c s x old new e h = put_there (CopyPacked c s) copy_key x old (subst (Every (CopyPacked c s)) e h)

in_middle : (P : Told → Type 0) (x : Told) (before after : List Told) → Every P (before ++ x ∷ after) → P x
in_middle P x [] after h = h.0
in_middle P x (y ∷ ys) after h = in_middle P x ys after h.1

written_eq : (d e : DiskWrite) → ◌≡◌ {A = Option DiskWrite} (Some d) (Some e) → d ≡ e
written_eq d e q = cc

none_written : (d : DiskWrite) → ◌≡◌ {A = Option DiskWrite} None (Some d) → ⊥
none_written d q = cc

abbrev WritePacked : Config → ℕ → DiskWrite → Type 0
WritePacked c s d = CopyPacked c s d.copy × RecordPacked c d.says

written_packed : (c : Config) (s : ℕ) (old new : List FileCopy) (told : List Told) (w : Option DiskWrite) (d : DiskWrite) → OnDisk s old new told w → w ≡ Some d → Every (ToldPacked c) told → Every (CopyPacked c s) new → WritePacked c s d
written_packed c s old new told w d (inl h) e t k = absurd (none_written d (sym h.none ∙ e))
written_packed c s old new told w d (inr h) e t k =
    let x : CopyPacked c s h.0.copy = copy_there c s h.0.copy old new h.1.copies k in
    subst (WritePacked c s) (written_eq h.0 d (sym h.1.is_written ∙ e)) (x, in_middle (ToldPacked c) (Shown h.0.says) h.1.before h.1.after (subst (Every (ToldPacked c)) h.1.told_is t))

-- ---- who closes, by what the laws of locks carry ----

shut_told : (s : ℕ) (e : EpochId) (key : ℕ) (older : List Told) (x : Told) → InstanceGoesOn older x → ShutAt s e key x → (file : FileId) × WasBegunAt older s e key file
shut_told s e key older (Shuts t at inst) g h =
    (g.0, subst (λ (n : ℕ). WasBegunAt older n e key g.0) h.0 (subst (λ (id : EpochId). WasBegunAt older t id key g.0) h.1 (subst (λ (k : ℕ). WasBegunAt older t at k g.0) h.2 g.1)))
shut_told s e key older _ g h = absurd h

shut_begun : (s : ℕ) (e : EpochId) (key : ℕ) (past : List Told) → InstancesGoOn past → WasShutAt past s e key → (file : FileId) × WasBegunAt past s e key file
shut_begun s e key [] g h = absurd h
shut_begun s e key (x ∷ older) g (inl h) = let k : (file : FileId) × WasBegunAt older s e key file = shut_told s e key older x g.0 h in (k.0, inr k.1)
shut_begun s e key (x ∷ older) g (inr h) = let k : (file : FileId) × WasBegunAt older s e key file = shut_begun s e key older g.1 h in (k.0, inr k.1)

begun_told : (c : Config) (s : ℕ) (e : EpochId) (key : ℕ) (file : FileId) (x : Told) → ToldPacked c x → BegunAt s e key file x → HasPack c file.group s
begun_told c s e key file (Begins t at inst of) k h = subst (λ (n : ℕ). HasPack c file.group n) h.0 (subst (λ (f : FileId). HasPack c f.group t) h.3 k)
begun_told c s e key file _ k h = absurd h

begun_packed : (c : Config) (s : ℕ) (e : EpochId) (key : ℕ) (file : FileId) (past : List Told) → Every (ToldPacked c) past → WasBegunAt past s e key file → HasPack c file.group s
begun_packed c s e key file [] k h = absurd h
begun_packed c s e key file (x ∷ older) k (inl h) = begun_told c s e key file x k.0 h
begun_packed c s e key file (x ∷ older) k (inr h) = begun_packed c s e key file older k.1 h

begun_of : (s : ℕ) (e : EpochId) (key : ℕ) (file : FileId) (x : Told) → BegunAt s e key file x → Begun e key file x
begun_of s e key file (Begins t at inst of) h = (h.1, h.2, h.3)
begun_of s e key file _ h = absurd h

was_begun : (s : ℕ) (e : EpochId) (key : ℕ) (file : FileId) (past : List Told) → WasBegunAt past s e key file → WasBegun past e key file
was_begun s e key file [] h = absurd h
was_begun s e key file (x ∷ older) (inl h) = inl (begun_of s e key file x h)
was_begun s e key file (x ∷ older) (inr h) = inr (was_begun s e key file older h)

-- what is known of the past in an epoch: who began what, and where packs are
record Closer (c : Config) (past : List Told) (from : ℕ) (e : EpochId) (key : ℕ) : Type 0 where
  agree : InstancesAgree past
  told : Every (ToldPacked c) past
  begun : (file : FileId) × WasBegunAt past from e key file

row_closes : (c : Config) (past : List Told) (from : ℕ) (e : EpochId) (key group : ℕ) (r : OpenRow) (s : OpenStage) → Closer c past from e key → r.file.group ≡ group → RowFact past e r s → StageCloses c from key group r s
row_closes c past from e key group r stage.Asked k g h = tt
row_closes c past from e key group r stage.Granted k g h = λ q.
    (let same : k.begun.0 ≡ r.file = k.agree e key k.begun.0 r.file (was_begun from e key k.begun.0 past k.begun.1) (subst (λ (n : ℕ). WasGranted past e n r.file) q h.granted) in
    let p : HasPack c k.begun.0.group from = begun_packed c from e key k.begun.0 past k.told k.begun.1 in
    subst (λ (n : ℕ). HasPack c n from) g (subst (λ (f : FileId). HasPack c f.group from) same p))
row_closes c past from e key group r (stage.Refused why) k g h = tt
row_closes c past from e key group r stage.Ended k g h = tt

table_closes : (c : Config) (past : List Told) (from : ℕ) (e : EpochId) (key : ℕ) (t : SyncTable) → Closer c past from e key → TableFact past e t → TableCloses c from key t
table_closes c past from e key t k h = every_weaker (OpenFact past e t.group) (RowCloses c from key t.group) t.opens (λ r q. row_closes c past from e key t.group r r.stage k q.group_is q.row) h.opens

tables_close : (c : Config) (past : List Told) (me from : ℕ) (key : ℕ) (v : SiteView) (o : Option InEpoch) → v.epoch ≡ o → ((e : InEpoch) → v.epoch ≡ Some e → Closer c past from e.id key) → InEpochFact past me v o → Every (TableCloses c from key) v.tables
tables_close c past me from key v None here k h = subst (λ (ts : List SyncTable). Every (TableCloses c from key) ts) (sym h.1) tt
tables_close c past me from key v (Some e) here k h = every_weaker (TableFact past e.id) (TableCloses c from key) v.tables (λ t q. table_closes c past from e.id key t (k e here) q) h.1

same_epoch_eq : (a b : EpochId) → same_epoch a b ≡ true → a ≡ b
same_epoch_eq a b h = id_eq (grind (arith, nat_tests)) (grind (arith, nat_tests)) (grind (arith, nat_tests))
  where
    id_eq : a.number ≡ b.number → a.site ≡ b.site → a.boot ≡ b.boot → a ≡ b
    id_eq e f g = λ i. record { number = e i; site = f i; boot = g i }

framed_epoch : (p : Packet) (v : SiteView) (e : InEpoch) → is_dropped p v ≡ false → is_forming p ≡ false → v.epoch ≡ Some e → e.id ≡ p.epoch
framed_epoch p v e h inside here =
    let a : ((p.to_boot == v.boot) ≡ true) × ((is_forming p || is_framed p v.epoch) ≡ true) = both_true (p.to_boot == v.boot) (is_forming p || is_framed p v.epoch) (not_false ((p.to_boot == v.boot) && (is_forming p || is_framed p v.epoch)) h) in
    let b : is_framed p (Some e) ≡ true = subst (λ (o : Option InEpoch). is_framed p o ≡ true) here (or_other (is_forming p) (is_framed p v.epoch) inside a.1) in
    same_epoch_eq e.id p.epoch (both_true (same_epoch e.id p.epoch) (boot_in e.members.boot p.from == p.from_boot) b).0

forming_not : (p : Packet) (x : Body) → p.body ≡ x → nat_lt (kind_number x) 6 ≡ false → is_forming p ≡ false
forming_not p x q h = subst (λ (y : Body). nat_lt (kind_number y) 6 ≡ false) (sym q) h

body_closes : (c : Config) (past : List Told) (me : ℕ) (p : Packet) (x : Body) (v : SiteView) → p.body ≡ x → InstancesAgree past → InstancesGoOn past → Every (ToldPacked c) past → BodyFact past p.from p.to p.epoch x → ViewFact past me v → is_dropped p v ≡ false → BodyCloses c p.from v x
body_closes c past me p (body.Closed inst made) v q agree goes told k h d =
    let key : ℕ = serial_key inst in
    let begun : (file : FileId) × WasBegunAt past p.from p.epoch key file = shut_begun p.from p.epoch key past goes k in
    tables_close c past me p.from key v v.epoch refl
    (λ e here. (let same : e.id ≡ p.epoch = framed_epoch p v e d (forming_not p (body.Closed inst made) q refl) here in record { agree = agree; told = told; begun = (begun.0, subst (λ (id : EpochId). WasBegunAt past p.from id key begun.0) (sym same) begun.1) }))
    h.inside
body_closes c past me p _ v q agree goes told k h d = tt

-- ---- one event ----

every_onto : (c : Config) (told past : List Told) → Every (ToldPacked c) told → Every (ToldPacked c) past → Every (ToldPacked c) (onto told past)
every_onto c [] past h g = g
every_onto c (x ∷ xs) past h g = every_onto c xs (x ∷ past) h.1 (h.0, g)

agree_before : (told past : List Told) → InstancesAgree (onto told past) → InstancesAgree past
agree_before told past h e key begun granted b g = h e key begun granted (onto_later told past _ b) (onto_later told past _ g)

abbrev pub Packed : Config → World → Type 0
Packed c w = InstancesAgree (past_of w.trace) → WorldPacked c w

-- what an event leaves of a place
record PlacePacked (c : Config) (s : ℕ) (p : Place) : Type 0 where
  disk : Every (CopyPacked c s) (copies_on p)
  view : (v : SiteView) → p ≡ Running v → ViewPacked c s v

record Owed (c : Config) (told : List Told) (ps : List Packet) (change : World → World) (w : World) : Type 0 where
  tells : Every (ToldPacked c) told
  sent : Every (PacketPacked c) ps
  places : (t : ℕ) (p : Place) → place_at (change w) t ≡ Some p → PlacePacked c t p

happened_packed : (c : Config) (n : ℕ) (ps : List Packet) (told : List Told) (change : World → World) (w : World) → (InstancesAgree (past_of w.trace) → WorldPacked c w → Owed c told ps change w) → (change w).sent ≡ w.sent → (change w).underway ≡ w.underway → Packed c w → Packed c (happened n ps told change w)
happened_packed c n ps told change w now sent underway g =
    happened_keeps (Packed c) n ps told change w g
    (λ l h. (let f : WorldPacked c w = g h in record { told = f.told; disks = f.disks; views = f.views; packets = f.packets; underway = f.underway }))
    (λ k b t h. (let before : InstancesAgree (past_of w.trace) = agree_before told (past_of w.trace) (subst InstancesAgree same h) in let f : WorldPacked c w = g before in let o : Owed c told ps change w = now before f in record {
      told = subst (Every (ToldPacked c)) (sym same) (every_onto c told (past_of w.trace) o.tells f.told);
      disks = λ s p here. (o.places s p here).disk;
      views = λ s v here. (o.places s (Running v) here).view v refl;
      packets = every_newest (NumberedPacked c) (numbered_from (w.packets + 1) ps) (change w).sent (added o.sent) (subst (λ (xs : List Numbered). Every (NumberedPacked c) xs) (sym sent) f.packets);
      underway = every_append (NumberedPacked c) (change w).underway (numbered_from (w.packets + 1) ps) (subst (λ (xs : List Numbered). Every (NumberedPacked c) xs) (sym underway) f.underway) (added o.sent);
    }))
  where
    same : past_of (told_onto n told w.trace) ≡ onto told (past_of w.trace)
    same = past_onto n told w.trace

    added : Every (PacketPacked c) ps → Every (NumberedPacked c) (numbered_from (w.packets + 1) ps)
    added h = every_numbered (PacketPacked c) (w.packets + 1) ps h

-- ---- one place ----

running_view : (v u : SiteView) → Running v ≡ Running u → v ≡ u
running_view v u e = cc

stopped_never : (d : Disk) (v : SiteView) → Stopped d ≡ Running v → ⊥
stopped_never d v e = cc

stopped_packed : (c : Config) (s : ℕ) (d : Disk) → Every (CopyPacked c s) d.copies → PlacePacked c s (Stopped d)
stopped_packed c s d h = record { disk = h; view = λ v e. absurd (stopped_never d v e) }

running_packed : (c : Config) (s : ℕ) (v : SiteView) → ViewPacked c s v → PlacePacked c s (Running v)
running_packed c s v h = record { disk = h.store.copies; view = λ u e. subst (ViewPacked c s) (running_view v u e) h }

old_place : (c : Config) (w : World) → WorldPacked c w → (t : ℕ) (p : Place) → place_at w t ≡ Some p → PlacePacked c t p
old_place c w f t p here = record { disk = f.disks t p here; view = λ v q. f.views t v (here ∙ ap Some q) }

places_of : (c : Config) (s : ℕ) (new : Place) (w : World) → WorldPacked c w → PlacePacked c s new → (t : ℕ) (p : Place) → place_at (puts s new w) t ≡ Some p → PlacePacked c t p
places_of c s new w f fine t p here = at_each s t (PlacePacked c t p)
    (λ e. subst (λ (n : ℕ). PlacePacked c n p) e (subst (PlacePacked c s) (some_same new p (sym (puts_same s new w) ∙ (ap (place_at (puts s new w)) e ∙ here))) fine))
    (λ ne. old_place c w f t p (sym (puts_other s t new w ne) ∙ here))

stops_packed : (c : Config) (n s : ℕ) (d : Disk) (told : List Told) (w : World) → (InstancesAgree (past_of w.trace) → WorldPacked c w → Every (CopyPacked c s) d.copies × Every (ToldPacked c) told) → Packed c w → Packed c (happened n [] told (stops_with s d) w)
stops_packed c n s d told w now g =
    happened_packed c n [] told (stops_with s d) w (λ a f. record { tells = (now a f).1; sent = tt; places = places_of c s (Stopped d) w f (stopped_packed c s d (now a f).0) }) refl refl g

told_only : (c : Config) (n : ℕ) (told : List Told) (w : World) → Every (ToldPacked c) told → Packed c w → Packed c (happened n [] told (λ now. now) w)
told_only c n told w tells g = happened_packed c n [] told (λ now. now) w (λ a f. record { tells = tells; sent = tt; places = old_place c w f }) refl refl g

cut_copies : (c : Config) (s : ℕ) (b : Bool) (x : FileCopy) (xs : List FileCopy) → CopyPacked c s x → Every (CopyPacked c s) xs → Every (CopyPacked c s) (cond b (with_row copy_key x xs) xs)
cut_copies c s true x xs k h = every_row (CopyPacked c s) copy_key x xs k h
cut_copies c s false x xs k h = h

cut_tells : (c : Config) (s : ℕ) (b : Bool) (r : Record) (how : StopCause) → RecordPacked c r → Every (ToldPacked c) (cond b (Shown r ∷ Shown (says.Stopped s how) ∷ []) (Shown (says.Stopped s how) ∷ []))
cut_tells c s true r how h = (h, (tt, tt))
cut_tells c s false r how h = (tt, tt)

acts_packed : (c : Config) (n s : ℕ) (v : SiteView) (o : Outcome SiteView) (w : World) → place_at w s ≡ Some (Running v) → (InstancesAgree (past_of w.trace) → WorldPacked c w → SiteOut c s o) → SiteDisk s v o → Packed c w → Packed c (acts n s v o w)
acts_packed c n s v o w here fine disk g =
    acts_cases (Packed c) n s v o w
    (happened_packed c n o.sent o.told (λ now. puts s (Running o.view) now) w owed refl refl g)
    (λ a. happened_packed c n o.sent o.told (λ now. puts s (Running o.view) (arms a now)) w (λ b f. (let r : Owed c o.told o.sent (λ now. puts s (Running o.view) now) w = owed b f in record { tells = r.tells; sent = r.sent; places = r.places })) refl refl g)
    (λ d a e. cut d (is_on_disk v.store d a.how a.left) (cause_of a.how) (cut_disk v.boot v.store d a.how a.left) (λ b f. written_packed c s v.store.copies o.view.store.copies o.told o.written d disk e (fine b f).told (fine b f).view.store.copies) refl)
  where
    owed : InstancesAgree (past_of w.trace) → WorldPacked c w → Owed c o.told o.sent (λ now. puts s (Running o.view) now) w
    owed a f = let k : SiteOut c s o = fine a f in record { tells = k.told; sent = k.sent; places = places_of c s (Running o.view) w f (running_packed c s o.view k.view) }

    cut : (d : DiskWrite) (b : Bool) (how : StopCause) (x : Disk) → (InstancesAgree (past_of w.trace) → WorldPacked c w → WritePacked c s d) → x.copies ≡ cond b (with_row copy_key d.copy v.store.copies) v.store.copies → Packed c (happened n [] (cond b (Shown d.says ∷ Shown (says.Stopped s how) ∷ []) (Shown (says.Stopped s how) ∷ [])) (stops_with s x) w)
    cut d b how x k e = stops_packed c n s x _ w (λ a f. (let q : WritePacked c s d = k a f in (subst (λ (xs : List FileCopy). Every (CopyPacked c s) xs) (sym e) (cut_copies c s b d.copy v.store.copies q.0 (f.disks s (Running v) here)), cut_tells c s b d.says how q.1))) g

-- ---- a boot ----

fresh_packed : (c : Config) (s boot : ℕ) (copies : List FileCopy) → Every (CopyPacked c s) copies → ViewPacked c s (fresh boot copies)
fresh_packed c s boot copies h = record { store = record { copies = h; instances = tt }; pulls = tt; tables = tt; reports = tt }

boot_packed : (c : Config) (n s : ℕ) (d x : Disk) (change : World → World) (w : World) → place_at w s ≡ Some (Stopped d) → x.copies ≡ d.copies → ((t : ℕ) → place_at (change w) t ≡ place_at (puts s (Running (fresh x.label.boot x.copies)) w) t) → (change w).sent ≡ w.sent → (change w).underway ≡ w.underway → Packed c w →
    Packed c (happened n [] (Shown (says.Up s x.label.boot) ∷ []) change w)
boot_packed c n s d x change w here e same sent underway g =
    happened_packed c n [] (Shown (says.Up s x.label.boot) ∷ []) change w (λ a f. record {
      tells = (tt, tt);
      sent = tt;
      places = λ t p at. places_of c s (Running (fresh x.label.boot x.copies)) w f (running_packed c s (fresh x.label.boot x.copies) (fresh_packed c s x.label.boot x.copies (subst (λ (xs : List FileCopy). Every (CopyPacked c s) xs) (sym e) (f.disks s (Stopped d) here)))) t p (sym (same t) ∙ at);
    }) sent underway g

as_packed : (c : Config) (n s : ℕ) (d : Disk) (b : Booted) (w : World) → place_at w s ≡ Some (Stopped d) → KeepsCopies d.copies b → Packed c w → Packed c (boots_as n s b w)
as_packed c n s d (Whole x None) w here e g = boot_packed c n s d x _ w here e (λ t. refl) refl refl g
as_packed c n s d (Whole x (Some a)) w here e g = boot_packed c n s d x _ w here e (λ t. refl) refl refl g
as_packed c n s d (CutOff x how) w here e g = stops_packed c n s x (Shown (says.Stopped s (cause_of how)) ∷ []) w (λ a f. (subst (λ (xs : List FileCopy). Every (CopyPacked c s) xs) (sym e) (f.disks s (Stopped d) here), (tt, tt))) g

-- ---- every event and change ----

own_packed : (c : Config) (me : ℕ) (v : SiteView) (e : Event) → IsOwn e → EventPacked c me v e
own_packed c me v (Calls process words) h = tt
own_packed c me v (Receives p) h = absurd h
own_packed c me v Ticks h = tt
own_packed c me v Parts h = tt
own_packed c me v Merges h = tt
own_packed c me v GivesUp h = tt

pub sent_packed : (c : Config) (w : World) (x : Numbered) → WasSent w x → WorldPacked c w → NumberedPacked c x
sent_packed c w x (inl a) f = found_among (NumberedPacked c) x w.sent f.packets a
sent_packed c w x (inr a) f = found_among (NumberedPacked c) x w.underway f.underway a

sent_lock : (w : World) (x : Numbered) → WasSent w x → WorldFact w → NumberedFact (past_of w.trace) x
sent_lock w x (inl a) f = found_among (NumberedFact (past_of w.trace)) x w.sent f.packets a
sent_lock w x (inr a) f = found_among (NumberedFact (past_of w.trace)) x w.underway f.underway a

passed_packed : (c : Config) (k : ℕ) (w : World) → Packed c w → Packed c (passed k w)
passed_packed c k w g = λ h. (let f : WorldPacked c w = g h in record { told = f.told; disks = f.disks; views = f.views; packets = f.packets; underway = every_without (NumberedPacked c) number_of k w.underway f.underway })

-- a packet that was sent is let through as packs allow
allowed : (c : Config) (x : Numbered) (v : SiteView) (w : World) → place_at w x.packet.to ≡ Some (Running v) → WasSent w x → WorldFact w → InstancesAgree (past_of w.trace) → WorldPacked c w → PacketAllows c x.packet.to v x.packet
allowed c x v w here sent l agree f = record {
  packed = sent_packed c w x sent f;
  closes = λ d. body_closes c (past_of w.trace) x.packet.to x.packet x.packet.body v refl agree l.goes f.told (sent_lock w x sent l) (l.views x.packet.to v here) d;
}

abbrev pub All : Config → World → Type 0
All c w = Both w × Packed c w

pub all_kept : (c : Config) → Kept c (All c)
all_kept c = record {
  steps = λ n s e v w here own g. (lock.steps n s e v w here own g.0, acts_packed c n s v (step c s (links_of w s) v e) w here (λ a f. step_packed c s (links_of w s) v e (own_packed c s v e own) (f.views s v here)) (step_disk c s (links_of w s) v e) g.1);
  receives = λ n x v w here sent g. (lock.receives n x v w here sent g.0, received n x v w here sent g);
  passes = λ k w g. (lock.passes k w g.0, passed_packed c k w g.1);
  drops = λ k w g. (lock.drops k w g.0, dropped k w g.1);
  recuts = λ xs w g. (lock.recuts xs w g.0, (λ h. (let f : WorldPacked c w = g.1 h in record { told = f.told; disks = f.disks; views = f.views; packets = f.packets; underway = f.underway })));
  arming = λ a w g. (lock.arming a w g.0, (λ h. (let f : WorldPacked c w = g.1 h in record { told = f.told; disks = f.disks; views = f.views; packets = f.packets; underway = f.underway })));
  voiding = λ n w g. (lock.voiding n w g.0, told_only c n (Shown says.Void ∷ []) w (tt, tt) g.1);
  budgets = λ n w g. (lock.budgets n w g.0, told_only c n (Shown says.Budget ∷ []) w (tt, tt) g.1);
  pending = λ n w g. (lock.pending n w g.0, told_only c n (map packet_record w.underway) w (every_map (ToldPacked c) packet_record w.underway (λ x. tt)) g.1);
  stopping = λ n s v w here g. (lock.stopping n s v w here g.0, stops_packed c n s (disk_of v) (Shown (says.Stopped s cause.Asked) ∷ []) w (λ a f. (f.disks s (Running v) here, (tt, tt))) g.1);
  booting = λ n s d w here g. (lock.booting n s d w here g.0, as_packed c n s d (boots (script_of w s) d) w here (boots_copies (script_of w s) d) g.1);
}
  where
    lock : Kept c Both
    lock = both_kept c

    dropped : (k : ℕ) (w : World) → Packed c w → Packed c (loses k w)
    dropped k w g = λ h. (let f : WorldPacked c (passed k w) = passed_packed c k w g h in record { told = f.told; disks = f.disks; views = f.views; packets = f.packets; underway = f.underway })

    received : (n : ℕ) (x : Numbered) (v : SiteView) (w : World) → place_at w x.packet.to ≡ Some (Running v) → WasSent w x → All c w → Packed c (acts n x.packet.to v (step c x.packet.to (links_of (passed x.number w) x.packet.to) v (Receives x.packet)) (passed x.number w))
    received n x v w here sent g =
        acts_packed c n x.packet.to v (step c x.packet.to (links_of (passed x.number w) x.packet.to) v (Receives x.packet)) (passed x.number w) here
        (λ a f. step_packed c x.packet.to (links_of (passed x.number w) x.packet.to) v (Receives x.packet) (allowed c x v w here sent g.0.1 a (g.1 a)) (f.views x.packet.to v here))
        (step_disk c x.packet.to (links_of (passed x.number w) x.packet.to) v (Receives x.packet)) (passed_packed c x.number w g.1)

-- ---- the first world ----

roots_packed : (c : Config) (s : ℕ) (gs : List ℕ) → Every (λ (g : ℕ). HasPack c g s) gs → Every (CopyPacked c s) (map (root_copy c) gs)
roots_packed c s [] h = tt
roots_packed c s (g ∷ gs) h = (record { here = h.0; all = λ t e. e }, roots_packed c s gs h.1)

formatted_packed : (c : Config) (s : ℕ) → Every (CopyPacked c s) (formatted c s)
formatted_packed c s = roots_packed c s _ (passing (λ (g : ℕ). HasPack c g s) (λ g. has (pack_sites c g) s) all_groups (λ g e. e))

first_packed : (c : Config) (s : ℕ) (p : Place) → place_at (first_world c) s ≡ Some p → PlacePacked c s p
first_packed c = first_places c (PlacePacked c) (λ s own. running_packed c s (fresh 1 (formatted c s)) (fresh_packed c s 1 (formatted c s) (formatted_packed c s)))

first_world_packed : (c : Config) → WorldPacked c (first_world c)
first_world_packed c = record {
  told = tt;
  disks = λ s p here. (first_packed c s p here).disk;
  views = λ s v here. (first_packed c s (Running v) here).view v refl;
  packets = tt;
  underway = tt;
}

pub first_all : (c : Config) → All c (first_world c)
first_all c = (first_both c, (λ h. first_world_packed c))

-- ---- the law ----

pub run_packs : (c : Config) (lines : List ScheduleLine) → FilesLieInPacks c (run_in c lines)
run_packs c lines =
    let f : WorldPacked c (run_in c lines) = (every_run c (All c) (all_kept c) (first_all c) lines).1 (run_agrees c lines) in
    record { told = f.told; disks = f.disks }
