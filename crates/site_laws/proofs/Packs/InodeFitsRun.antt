-- In every run the inode numbers of committed and adopted files have 16 bits.
use Rattle.std.proofs.Common.{◌≡◌, ◌≤◌, ℕ, ◌+◌, ◌==◌, nat_lt, Bool, true, false, cond, List, [], ◌∷◌, map, Option, Some, None, refl, sym, ◌∙◌, ap, subst, inl, inr, arith}
use Rattle.role_steps.proofs.of_plain_facts.Options.{some_same}
use Rattle.locus_ids.specs.declared.ids.FileId.{FileId}
use Rattle.locus_ids.specs.declared.config.Config.{Config}
use Rattle.locus_ids.specs.Sizes.{sites_max}
use Rattle.schedule_lines.specs.declared.line.ScheduleLine.{ScheduleLine}
use Rattle.trace_book.specs.declared.record.Record.{Record}
use Rattle.trace_book.specs.declared.record.Record.TheVariants as says
use Rattle.trace_book.specs.declared.record.StopCause.{StopCause}
use Rattle.trace_book.specs.declared.record.StopCause.TheVariants as cause
use Rattle.wire_messages.specs.declared.packet.Packet.{Packet}
use Rattle.role_steps.specs.Own.{Every}
use Rattle.role_steps.specs.Tables.{with_row}
use Rattle.role_steps.specs.Views.{SiteView, Told, Shown, DiskWrite, Outcome, Event, Calls, Receives, Ticks, Parts, Merges, GivesUp}
use Rattle.role_steps.specs.Storage.{copy_key}
use Rattle.role_steps.specs.declared.copies.FileCopy.{FileCopy}
use Rattle.role_steps.proofs.Sending.{every_append, every_map}
use Rattle.the_run.specs.Disks.{Disk, Booted, Whole, CutOff, boots, cut_disk, is_on_disk}
use Rattle.the_run.specs.Steps.{step}
use Rattle.the_run.specs.Worlds.{World, Place, Running, Stopped, Numbered, number_of, links_of, place_at, script_of, happened, numbered_from, disk_of, puts, arms, passed, stops_with, cause_of, acts, fresh, root_copy, formatted, first_world}
use Rattle.the_run.specs.Runs.{boots_as, packet_record, run_in}
use Rattle.the_run.specs.Kept.{WasSent, IsOwn, Kept}
use Rattle.the_run.proofs.Boots.{at_each, acts_cases, every_newest, every_numbered, every_weaker}
use Rattle.the_run.proofs.Events.{happened_keeps, puts_other, puts_same}
use Rattle.the_run.proofs.InsideSync.{every_row, every_without}
use Rattle.the_run.proofs.Runs.{every_run}
use Rattle.run_laws.proofs.Run.{found_among}
use Rattle.site_laws.specs.Vectors.Held.{IsOf, StillRecord, Still, OnDisk, copies_on}
use Rattle.site_laws.specs.Vectors.Written.{past_of}
use Rattle.site_laws.specs.Vectors.Facts.{onto}
use Rattle.site_laws.proofs.Vectors.FactsRun.{past_onto}
use Rattle.site_laws.proofs.Vectors.Held.{KeepsCopies, boots_copies}
use Rattle.site_laws.proofs.Vectors.SiteDisks.{SiteDisk, step_disk}
use Rattle.site_laws.specs.Vectors.HistoryCommits.{FitRecord, FitTold, NumbersFit}
use Rattle.run_laws.proofs.Walks.FirstWorld.{first_places}
use Rattle.site_laws.specs.Packs.InodeFits.{Fits, PacketFits, CopyFits, ViewFits, NumberedFits, WorldFits}
use Rattle.site_laws.proofs.Packs.InodeSiteFits.{SiteOut, EventFits, step_fits}

-- ---- what is told, by what is written ----

still_record : (r : Record) → StillRecord r → FitRecord r
still_record (says.Commit g s stamp parents content) h = absurd h
still_record (says.Adopt g s stamp) h = absurd h
still_record _ h = tt

still_told : (x : Told) → Still x → FitTold x
still_told (Shown r) h = still_record r h
still_told _ h = tt

own_record : (s : ℕ) (r : Record) (x : FileCopy) → CopyFits x → IsOf s r x → FitRecord r
own_record s (says.Commit file t stamp parents content) x k h = subst (λ (f : FileId). Fits f.ino) h.1.file_is k
own_record s (says.Adopt file t stamp) x k h = subst (λ (f : FileId). Fits f.ino) h.1 k
own_record s _ x k h = absurd h

-- what was put into a table is in it
put_there : {A : Type 0} (P : A → Type 0) (key : A → ℕ) (x : A) (xs : List A) → Every P (with_row key x xs) → P x
put_there P key x [] h = h.0
put_there P key x (y ∷ ys) h = by_key (nat_lt (key y) (key x)) (key y == key x) h (λ k. put_there P key x ys k)
  where
    by_key : (a b : Bool) → Every P (elim a [ true ↦ y ∷ with_row key x ys | false ↦ elim b [ true ↦ x ∷ ys | false ↦ x ∷ y ∷ ys ] ]) → (Every P (with_row key x ys) → P x) → P x
    by_key true b k rest = rest k.1
    by_key false true k rest = k.0
    by_key false false k rest = k.0

copy_there : (x : FileCopy) (old new : List FileCopy) → new ≡ with_row copy_key x old → Every CopyFits new → CopyFits x
copy_there x old new e h = put_there CopyFits copy_key x old (subst (Every CopyFits) e h)

told_fits : (s : ℕ) (old new : List FileCopy) (told : List Told) (w : Option DiskWrite) → OnDisk s old new told w → Every CopyFits new → Every FitTold told
told_fits s old new told w (inl h) k = every_weaker Still FitTold told still_told h.still
told_fits s old new told w (inr h) k = subst (Every FitTold) (sym h.1.told_is)
    (every_append FitTold h.1.before (Shown h.0.says ∷ h.1.after) (every_weaker Still FitTold h.1.before still_told h.1.still_before)
    (own_record s h.0.says h.0.copy (copy_there h.0.copy old new h.1.copies k) h.1.says_so, every_weaker Still FitTold h.1.after still_told h.1.still_after))

written_eq : (d e : DiskWrite) → ◌≡◌ {A = Option DiskWrite} (Some d) (Some e) → d ≡ e
written_eq d e q = cc

none_written : (d : DiskWrite) → ◌≡◌ {A = Option DiskWrite} None (Some d) → ⊥
none_written d q = cc

abbrev WriteFits : DiskWrite → Type 0
WriteFits d = CopyFits d.copy × FitRecord d.says

written_fits : (s : ℕ) (old new : List FileCopy) (told : List Told) (w : Option DiskWrite) (d : DiskWrite) → OnDisk s old new told w → w ≡ Some d → Every CopyFits new → WriteFits d
written_fits s old new told w d (inl h) e k = absurd (none_written d (sym h.none ∙ e))
written_fits s old new told w d (inr h) e k =
    let x : CopyFits h.0.copy = copy_there h.0.copy old new h.1.copies k in
    subst WriteFits (written_eq h.0 d (sym h.1.is_written ∙ e)) (x, own_record s h.0.says h.0.copy x h.1.says_so)

-- ---- one event ----

every_onto : (told past : List Told) → Every FitTold told → Every FitTold past → Every FitTold (onto told past)
every_onto [] past h g = g
every_onto (x ∷ xs) past h g = every_onto xs (x ∷ past) h.1 (h.0, g)

-- what an event leaves of a place
record PlaceFits (p : Place) : Type 0 where
  disk : Every CopyFits (copies_on p)
  view : (v : SiteView) → p ≡ Running v → ViewFits v

record Owed (told : List Told) (ps : List Packet) (change : World → World) (w : World) : Type 0 where
  tells : Every FitTold told
  sent : Every PacketFits ps
  sites : (t : ℕ) (p : Place) → place_at (change w) t ≡ Some p → t ≤ sites_max
  places : (t : ℕ) (p : Place) → place_at (change w) t ≡ Some p → PlaceFits p

happened_fits : (n : ℕ) (ps : List Packet) (told : List Told) (change : World → World) (w : World) → Owed told ps change w → (change w).sent ≡ w.sent → (change w).underway ≡ w.underway → WorldFits w → WorldFits (happened n ps told change w)
happened_fits n ps told change w o sent underway f =
    happened_keeps WorldFits n ps told change w f
    (λ l. record { told = f.told; sites = f.sites; disks = f.disks; views = f.views; packets = f.packets; underway = f.underway })
    (λ k b t. record {
      told = subst (Every FitTold) (sym (past_onto n told w.trace)) (every_onto told (past_of w.trace) o.tells f.told);
      sites = o.sites;
      disks = λ s p here. (o.places s p here).disk;
      views = λ s v here. (o.places s (Running v) here).view v refl;
      packets = every_newest NumberedFits (numbered_from (w.packets + 1) ps) (change w).sent added (subst (λ (xs : List Numbered). Every NumberedFits xs) (sym sent) f.packets);
      underway = every_append NumberedFits (change w).underway (numbered_from (w.packets + 1) ps) (subst (λ (xs : List Numbered). Every NumberedFits xs) (sym underway) f.underway) added;
    })
  where
    added : Every NumberedFits (numbered_from (w.packets + 1) ps)
    added = every_numbered PacketFits (w.packets + 1) ps o.sent

-- ---- one place ----

running_view : (v u : SiteView) → Running v ≡ Running u → v ≡ u
running_view v u e = cc

stopped_never : (d : Disk) (v : SiteView) → Stopped d ≡ Running v → ⊥
stopped_never d v e = cc

stopped_fits : (d : Disk) → Every CopyFits d.copies → PlaceFits (Stopped d)
stopped_fits d h = record { disk = h; view = λ v e. absurd (stopped_never d v e) }

running_fits : (v : SiteView) → ViewFits v → PlaceFits (Running v)
running_fits v h = record { disk = h.store.copies; view = λ u e. subst ViewFits (running_view v u e) h }

old_place : (w : World) → WorldFits w → (t : ℕ) (p : Place) → place_at w t ≡ Some p → PlaceFits p
old_place w f t p here = record { disk = f.disks t p here; view = λ v q. f.views t v (here ∙ ap Some q) }

places_of : (s : ℕ) (new : Place) (w : World) → WorldFits w → PlaceFits new → (t : ℕ) (p : Place) → place_at (puts s new w) t ≡ Some p → PlaceFits p
places_of s new w f fine t p here = at_each s t (PlaceFits p)
    (λ e. subst PlaceFits (some_same new p (sym (puts_same s new w) ∙ (ap (place_at (puts s new w)) e ∙ here))) fine)
    (λ ne. old_place w f t p (sym (puts_other s t new w ne) ∙ here))

sites_of : (s : ℕ) (old new : Place) (w : World) → WorldFits w → place_at w s ≡ Some old → (t : ℕ) (p : Place) → place_at (puts s new w) t ≡ Some p → t ≤ sites_max
sites_of s old new w f here t p h = at_each s t (t ≤ sites_max)
    (λ e. subst (λ (x : ℕ). x ≤ sites_max) e (f.sites s old here))
    (λ ne. f.sites t p (sym (puts_other s t new w ne) ∙ h))

stops_fits : (n s : ℕ) (old : Place) (d : Disk) (told : List Told) (w : World) → place_at w s ≡ Some old → Every CopyFits d.copies → Every FitTold told → WorldFits w → WorldFits (happened n [] told (stops_with s d) w)
stops_fits n s old d told w here copies tells f =
    happened_fits n [] told (stops_with s d) w (record { tells = tells; sent = tt; sites = sites_of s old (Stopped d) w f here; places = places_of s (Stopped d) w f (stopped_fits d copies) }) refl refl f

told_only : (n : ℕ) (told : List Told) (w : World) → Every FitTold told → WorldFits w → WorldFits (happened n [] told (λ now. now) w)
told_only n told w tells f = happened_fits n [] told (λ now. now) w (record { tells = tells; sent = tt; sites = f.sites; places = old_place w f }) refl refl f

cut_copies : (b : Bool) (x : FileCopy) (xs : List FileCopy) → CopyFits x → Every CopyFits xs → Every CopyFits (cond b (with_row copy_key x xs) xs)
cut_copies true x xs k h = every_row CopyFits copy_key x xs k h
cut_copies false x xs k h = h

cut_tells : (s : ℕ) (b : Bool) (r : Record) (how : StopCause) → FitRecord r → Every FitTold (cond b (Shown r ∷ Shown (says.Stopped s how) ∷ []) (Shown (says.Stopped s how) ∷ []))
cut_tells s true r how h = (h, (tt, tt))
cut_tells s false r how h = (tt, tt)

acts_fits : (n s : ℕ) (v : SiteView) (o : Outcome SiteView) (w : World) → place_at w s ≡ Some (Running v) → SiteOut o → SiteDisk s v o → WorldFits w → WorldFits (acts n s v o w)
acts_fits n s v o w here fine disk f =
    acts_cases WorldFits n s v o w
    (happened_fits n o.sent o.told (λ now. puts s (Running o.view) now) w owed refl refl f)
    (λ a. happened_fits n o.sent o.told (λ now. puts s (Running o.view) (arms a now)) w (record { tells = owed.tells; sent = owed.sent; sites = owed.sites; places = owed.places }) refl refl f)
    (λ d a e. cut d (is_on_disk v.store d a.how a.left) (cause_of a.how) (cut_disk v.boot v.store d a.how a.left) (written_fits s v.store.copies o.view.store.copies o.told o.written d disk e fine.view.store.copies) refl)
  where
    owed : Owed o.told o.sent (λ now. puts s (Running o.view) now) w
    owed = record {
      tells = told_fits s v.store.copies o.view.store.copies o.told o.written disk fine.view.store.copies;
      sent = fine.sent;
      sites = sites_of s (Running v) (Running o.view) w f here;
      places = places_of s (Running o.view) w f (running_fits o.view fine.view);
    }

    cut : (d : DiskWrite) (b : Bool) (how : StopCause) (x : Disk) → WriteFits d → x.copies ≡ cond b (with_row copy_key d.copy v.store.copies) v.store.copies → WorldFits (happened n [] (cond b (Shown d.says ∷ Shown (says.Stopped s how) ∷ []) (Shown (says.Stopped s how) ∷ [])) (stops_with s x) w)
    cut d b how x k e = stops_fits n s (Running v) x _ w here (subst (λ (xs : List FileCopy). Every CopyFits xs) (sym e) (cut_copies b d.copy v.store.copies k.0 (f.disks s (Running v) here))) (cut_tells s b d.says how k.1) f

-- ---- a boot ----

boot_fits : (n s : ℕ) (d x : Disk) (change : World → World) (w : World) → place_at w s ≡ Some (Stopped d) → x.copies ≡ d.copies → ((t : ℕ) → place_at (change w) t ≡ place_at (puts s (Running (fresh x.label.boot x.copies)) w) t) → (change w).sent ≡ w.sent → (change w).underway ≡ w.underway → WorldFits w →
    WorldFits (happened n [] (Shown (says.Up s x.label.boot) ∷ []) change w)
boot_fits n s d x change w here e same sent underway f =
    happened_fits n [] (Shown (says.Up s x.label.boot) ∷ []) change w (record {
      tells = (tt, tt);
      sent = tt;
      sites = λ t p at. sites_of s (Stopped d) (Running view) w f here t p (sym (same t) ∙ at);
      places = λ t p at. places_of s (Running view) w f (running_fits view (record { store = record { copies = subst (λ (xs : List FileCopy). Every CopyFits xs) (sym e) (f.disks s (Stopped d) here); instances = tt }; pulls = tt; tables = tt })) t p (sym (same t) ∙ at);
    }) sent underway f
  where
    view : SiteView
    view = fresh x.label.boot x.copies

as_fits : (n s : ℕ) (d : Disk) (b : Booted) (w : World) → place_at w s ≡ Some (Stopped d) → KeepsCopies d.copies b → WorldFits w → WorldFits (boots_as n s b w)
as_fits n s d (Whole x None) w here e f = boot_fits n s d x _ w here e (λ t. refl) refl refl f
as_fits n s d (Whole x (Some a)) w here e f = boot_fits n s d x _ w here e (λ t. refl) refl refl f
as_fits n s d (CutOff x how) w here e f = stops_fits n s (Stopped d) x (Shown (says.Stopped s (cause_of how)) ∷ []) w here (subst (λ (xs : List FileCopy). Every CopyFits xs) (sym e) (f.disks s (Stopped d) here)) (tt, tt) f

-- ---- every event and change ----

own_fits : (e : Event) → IsOwn e → EventFits e
own_fits (Calls process words) h = tt
own_fits (Receives p) h = absurd h
own_fits Ticks h = tt
own_fits Parts h = tt
own_fits Merges h = tt
own_fits GivesUp h = tt

sent_fits : (w : World) (x : Numbered) → WasSent w x → WorldFits w → NumberedFits x
sent_fits w x (inl a) f = found_among NumberedFits x w.sent f.packets a
sent_fits w x (inr a) f = found_among NumberedFits x w.underway f.underway a

passed_fits : (k : ℕ) (w : World) → WorldFits w → WorldFits (passed k w)
passed_fits k w f = record { told = f.told; sites = f.sites; disks = f.disks; views = f.views; packets = f.packets; underway = every_without NumberedFits number_of k w.underway f.underway }

fits_kept : (c : Config) → Kept c WorldFits
fits_kept c = record {
  steps = λ n s e v w here own f. acts_fits n s v (step c s (links_of w s) v e) w here (step_fits c s (links_of w s) v e (f.sites s (Running v) here) (own_fits e own) (f.views s v here)) (step_disk c s (links_of w s) v e) f;
  receives = λ n x v w here sent f. acts_fits n x.packet.to v (step c x.packet.to (links_of (passed x.number w) x.packet.to) v (Receives x.packet)) (passed x.number w) here
      (step_fits c x.packet.to (links_of (passed x.number w) x.packet.to) v (Receives x.packet) (f.sites x.packet.to (Running v) here) (sent_fits w x sent f) (f.views x.packet.to v here))
      (step_disk c x.packet.to (links_of (passed x.number w) x.packet.to) v (Receives x.packet)) (passed_fits x.number w f);
  passes = λ k w f. passed_fits k w f;
  drops = λ k w f. (let g : WorldFits (passed k w) = passed_fits k w f in record { told = g.told; sites = g.sites; disks = g.disks; views = g.views; packets = g.packets; underway = g.underway });
  recuts = λ xs w f. record { told = f.told; sites = f.sites; disks = f.disks; views = f.views; packets = f.packets; underway = f.underway };
  arming = λ a w f. record { told = f.told; sites = f.sites; disks = f.disks; views = f.views; packets = f.packets; underway = f.underway };
  voiding = λ n w f. told_only n (Shown says.Void ∷ []) w (tt, tt) f;
  budgets = λ n w f. told_only n (Shown says.Budget ∷ []) w (tt, tt) f;
  pending = λ n w f. told_only n (map packet_record w.underway) w (every_map FitTold packet_record w.underway (λ x. tt)) f;
  stopping = λ n s v w here f. stops_fits n s (Running v) (disk_of v) (Shown (says.Stopped s cause.Asked) ∷ []) w here (f.disks s (Running v) here) (tt, tt) f;
  booting = λ n s d w here f. as_fits n s d (boots (script_of w s) d) w here (boots_copies (script_of w s) d) f;
}

-- ---- the first world ----

-- a root has the inode number 1
formatted_fits : (c : Config) (s : ℕ) → Every CopyFits (formatted c s)
formatted_fits c s = every_map CopyFits (root_copy c) _ (λ g. omega arith)

record FirstFits (s : ℕ) (p : Place) : Type 0 where
  small : s ≤ sites_max
  place : PlaceFits p

first_world_fits : (c : Config) → WorldFits (first_world c)
first_world_fits c = record {
  told = tt;
  sites = λ s p here. (first c s p here).small;
  disks = λ s p here. (let k : FirstFits s p = first c s p here in k.place.disk);
  views = λ s v here. (let k : FirstFits s (Running v) = first c s (Running v) here in k.place.view v refl);
  packets = tt;
  underway = tt;
}
  where
    first : (c : Config) (s : ℕ) (p : Place) → place_at (first_world c) s ≡ Some p → FirstFits s p
    first c = first_places c FirstFits (λ s own. record { small = own.0.1; place = running_fits (fresh 1 (formatted c s)) (record { store = record { copies = formatted_fits c s; instances = tt }; pulls = tt; tables = tt }) })

-- ---- the law ----

pub run_fits : (c : Config) (lines : List ScheduleLine) → NumbersFit (past_of (run_in c lines).trace)
run_fits c lines = (every_run c WorldFits (fits_kept c) (first_world_fits c) lines).told
