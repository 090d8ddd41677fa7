-- In every run there is such a book.
use Rattle.std.proofs.Common.{◌≡◌, ◌≤◌, ℕ, ◌+◌, Bool, true, false, cond, List, [], ◌∷◌, map, Option, Some, None, refl, sym, ◌∙◌, ap, subst, ◌⊎◌, inl, inr, arith}
use Rattle.role_steps.proofs.of_plain_facts.Options.{some_same}
use Rattle.locus_ids.specs.declared.config.Config.{Config}
use Rattle.locus_ids.specs.Sizes.{sites_max}
use Rattle.schedule_lines.specs.declared.line.ScheduleLine.{ScheduleLine}
use Rattle.trace_book.specs.declared.record.Record.{Record}
use Rattle.trace_book.specs.declared.record.Record.TheVariants as says
use Rattle.trace_book.specs.declared.record.StopCause.{StopCause}
use Rattle.trace_book.specs.declared.record.StopCause.TheVariants as cause
use Rattle.wire_messages.specs.declared.packet.Packet.{Packet}
use Rattle.role_steps.specs.Own.{Every}
use Rattle.role_steps.specs.Views.{SiteView, Told, Shown, DiskWrite, Outcome, Event, Calls, Receives, Ticks, Parts, Merges, GivesUp}
use Rattle.role_steps.specs.declared.copies.FileCopy.{FileCopy}
use Rattle.role_steps.proofs.Sending.{every_append, every_map}
use Rattle.the_run.specs.Disks.{Disk, Booted, Whole, CutOff, boots, cut_disk, is_on_disk}
use Rattle.the_run.specs.Laws.{boot_on, boot_number}
use Rattle.the_run.specs.Steps.{step}
use Rattle.the_run.specs.Worlds.{World, Place, Running, Stopped, Numbered, Line, number_of, links_of, place_at, script_of, happened, numbered_from, disk_of, puts, arms, passed, stops_with, cut_told, cause_of, acts, fresh, first_world}
use Rattle.the_run.specs.Runs.{boots_as, packet_record, run_in}
use Rattle.the_run.specs.Kept.{Among, WasSent, IsOwn, Kept}
use Rattle.the_run.proofs.Boots.{at_each, puts_rises, acts_cases, every_newest, every_numbered, every_weaker, Reached, boots_reached}
use Rattle.the_run.proofs.Events.{happened_keeps, puts_other, puts_same}
use Rattle.the_run.proofs.InsideSync.{every_without}
use Rattle.the_run.proofs.Runs.{every_run}
use Rattle.run_laws.specs.Naming.{Deeds, DeedsOf, Good}
use Rattle.run_laws.proofs.Run.{good_kept, first_good, found_among, was_sent}
use Rattle.run_laws.proofs.Steps.{EventNames}
use Rattle.site_laws.specs.Vectors.Held.{IsOf as IsVersionOf, OnDisk}
use Rattle.site_laws.specs.Vectors.Written.{past_of}
use Rattle.site_laws.specs.Vectors.Facts.{onto}
use Rattle.site_laws.proofs.Vectors.FactsRun.{past_onto}
use Rattle.site_laws.proofs.Vectors.SiteDisks.{SiteDisk, step_disk}
use Rattle.run_laws.proofs.Walks.FirstWorld.{first_places}
use Rattle.site_laws.specs.Packs.InstanceBook.{Note, Listed, Asked, Placed, Began, Book, IsOf, Sound, Grown}
use Rattle.site_laws.specs.Packs.InstanceFacts.{PacketFact, RecordFact, ToldFact, ViewFact, OfABoot, NumberedFact, WorldFact, Booked}
use Rattle.site_laws.proofs.Packs.InstanceBooks.{Leads, grown_same, body_later, tolds_later, view_beside}
use Rattle.site_laws.proofs.Packs.InstanceSiteFacts.{SiteFine}
use Rattle.site_laws.proofs.Packs.InstanceStepFacts.{EventFact, step_fine}

-- ---- one event ----

every_onto : (P : Told → Type 0) (told past : List Told) → Every P told → Every P past → Every P (onto told past)
every_onto P [] past h g = g
every_onto P (x ∷ xs) past h g = every_onto P xs (x ∷ past) h.1 (h.0, g)

numbered_later : (a b : Book) → Leads a b → (xs : List Numbered) → Every (NumberedFact a) xs → Every (NumberedFact b) xs
numbered_later a b l xs h = every_weaker (NumberedFact a) (NumberedFact b) xs (λ x. body_later a b l x.packet x.packet.body) h

-- boot numbers only rise
boot_later : (w u : World) (n : Note) → ((s : ℕ) → boot_number w s ≤ boot_number u s) → OfABoot w n → OfABoot u n
boot_later w u (Listed e members) rise h = let a : boot_number w e.site ≤ boot_number u e.site = rise e.site in omega (arith, a, h)
boot_later w u (Asked us b serial file how) rise h = let a : boot_number w us ≤ boot_number u us = rise us in omega (arith, a, h)
boot_later w u (Placed e inst group css b ss) rise h = let a : boot_number w css ≤ boot_number u css = rise css in omega (arith, a, h)
boot_later w u (Began e inst ss b file) rise h = let a : boot_number w ss ≤ boot_number u ss = rise ss in omega (arith, a, h)

stays : (w : World) (s : ℕ) → boot_number w s ≤ boot_number w s
stays w s = omega arith

-- what an event owes of the facts before it
record Owed (c : Config) (old : Book) (told : List Told) (ps : List Packet) (change : World → World) (w : World) : Type 0 where
  book : Book
  leads : Leads old book
  sound : Sound c book
  boots : (n : Note) → Among n book → OfABoot (change w) n
  sites : (s : ℕ) (p : Place) → place_at (change w) s ≡ Some p → s ≤ sites_max
  views : (s : ℕ) (v : SiteView) → place_at (change w) s ≡ Some (Running v) → ViewFact c book s v
  sent : Every (PacketFact book) ps
  tells : Every (ToldFact book) told

happened_fact : (c : Config) (n : ℕ) (ps : List Packet) (told : List Told) (change : World → World) (w : World) → (g : Booked c w) → Owed c g.0 told ps change w →
    (change w).sent ≡ w.sent → (change w).underway ≡ w.underway → Booked c (happened n ps told change w)
happened_fact c n ps told change w g o sent underway =
    happened_keeps (Booked c) n ps told change w g
    (λ l. (g.0, record { sound = f.sound; boots = λ x k. boot_later w w x (stays w) (f.boots x k); told = f.told; sites = f.sites; views = f.views; packets = f.packets; underway = f.underway }))
    (λ k b t. (
      o.book,
      record {
        sound = o.sound;
        boots = λ x m. boot_later (change w) (change w) x (stays (change w)) (o.boots x m);
        told = subst (Every (ToldFact o.book)) (sym (past_onto n told w.trace)) (every_onto (ToldFact o.book) told (past_of w.trace) o.tells (tolds_later g.0 o.book o.leads (past_of w.trace) f.told));
        sites = o.sites;
        views = o.views;
        packets = every_newest (NumberedFact o.book) (numbered_from (w.packets + 1) ps) (change w).sent added (subst (λ (xs : List Numbered). Every (NumberedFact o.book) xs) (sym sent) (numbered_later g.0 o.book o.leads w.sent f.packets));
        underway = every_append (NumberedFact o.book) (change w).underway (numbered_from (w.packets + 1) ps) (subst (λ (xs : List Numbered). Every (NumberedFact o.book) xs) (sym underway) (numbered_later g.0 o.book o.leads w.underway f.underway)) added;
      },
    ))
  where
    f : WorldFact c g.0 w
    f = g.1

    added : Every (NumberedFact o.book) (numbered_from (w.packets + 1) ps)
    added = every_numbered (PacketFact o.book) (w.packets + 1) ps o.sent

-- ---- one place ----

running_view : (v u : SiteView) → Running v ≡ Running u → v ≡ u
running_view v u e = cc

stopped_never : (d : Disk) (v : SiteView) → Stopped d ≡ Running v → ⊥
stopped_never d v e = cc

sites_of : (c : Config) (book : Book) (s : ℕ) (old new : Place) (w : World) → WorldFact c book w → place_at w s ≡ Some old → (t : ℕ) (p : Place) → place_at (puts s new w) t ≡ Some p → t ≤ sites_max
sites_of c book s old new w f here t p h = at_each s t (t ≤ sites_max)
    (λ e. subst (λ (x : ℕ). x ≤ sites_max) e (f.sites s old here))
    (λ ne. f.sites t p (sym (puts_other s t new w ne) ∙ h))

-- the views after one place changed, over a book that its site has grown
views_of : (c : Config) (a b : Book) (s boot : ℕ) (new : Place) (w : World) → WorldFact c a w → Grown (IsOf s boot) a b → ((v : SiteView) → new ≡ Running v → ViewFact c b s v) →
    (t : ℕ) (u : SiteView) → place_at (puts s new w) t ≡ Some (Running u) → ViewFact c b t u
views_of c a b s boot new w f grown fine t u h = at_each s t (ViewFact c b t u)
    (λ e. subst (λ (x : ℕ). ViewFact c b x u) e (fine u (some_same new (Running u) (sym (puts_same s new w) ∙ (ap (place_at (puts s new w)) e ∙ h)))))
    (λ ne. view_beside c a b s t boot u ne grown (f.views t u (sym (puts_other s t new w ne) ∙ h)))

-- a stop
stops_fact : (c : Config) (n s : ℕ) (old : Place) (d : Disk) (told : List Told) (w : World) → place_at w s ≡ Some old → boot_on (Some old) ≤ d.label.boot → ((b : Book) → Every (ToldFact b) told) → Booked c w → Booked c (happened n [] told (stops_with s d) w)
stops_fact c n s old d told w here le plain g =
    happened_fact c n [] told (stops_with s d) w g (record {
      book = g.0;
      leads = λ x k. k;
      sound = f.sound;
      boots = λ x k. boot_later w (stops_with s d w) x (puts_rises s old (Stopped d) w here le) (f.boots x k);
      sites = sites_of c g.0 s old (Stopped d) w f here;
      views = views_of c g.0 g.0 s 0 (Stopped d) w f (grown_same (IsOf s 0) g.0) (λ v e. absurd (stopped_never d v e));
      sent = tt;
      tells = plain g.0;
    }) refl refl
  where
    f : WorldFact c g.0 w
    f = g.1

-- an event of the world itself
told_fact : (c : Config) (n : ℕ) (told : List Told) (w : World) → ((b : Book) → Every (ToldFact b) told) → Booked c w → Booked c (happened n [] told (λ now. now) w)
told_fact c n told w plain g =
    happened_fact c n [] told (λ now. now) w g (record { book = g.0; leads = λ x k. k; sound = f.sound; boots = f.boots; sites = f.sites; views = f.views; sent = tt; tells = plain g.0 }) refl refl
  where
    f : WorldFact c g.0 w
    f = g.1

-- ---- a step ----

-- what is written to a disk is no grant
version_record : (s : ℕ) (r : Record) (x : FileCopy) → IsVersionOf s r x → (b : Book) → RecordFact b r
version_record s (says.Commit file t stamp parents content) x h b = tt
version_record s (says.Adopt file t stamp) x h b = tt
version_record s _ x h b = absurd h

written_eq : (d e : DiskWrite) → ◌≡◌ {A = Option DiskWrite} (Some d) (Some e) → d ≡ e
written_eq d e q = cc

none_written : (d : DiskWrite) → ◌≡◌ {A = Option DiskWrite} None (Some d) → ⊥
none_written d q = cc

written_record : (s : ℕ) (old new : List FileCopy) (told : List Told) (w : Option DiskWrite) (d : DiskWrite) → OnDisk s old new told w → w ≡ Some d → (b : Book) → RecordFact b d.says
written_record s old new told w d (inl h) e b = absurd (none_written d (sym h.none ∙ e))
written_record s old new told w d (inr h) e b = subst (λ (x : DiskWrite). RecordFact b x.says) (written_eq h.0 d (sym h.1.is_written ∙ e)) (version_record s h.0.says h.0.copy h.1.says_so b)

cut_plain : (s : ℕ) (b : Bool) (r : Record) (how : StopCause) (book : Book) → RecordFact book r → Every (ToldFact book) (cond b (Shown r ∷ Shown (says.Stopped s how) ∷ []) (Shown (says.Stopped s how) ∷ []))
cut_plain s true r how book h = (h, (tt, tt))
cut_plain s false r how book h = (tt, tt)

own_boot : (s boot : ℕ) (w : World) (n : Note) → boot ≤ boot_number w s → IsOf s boot n → OfABoot w n
own_boot s boot w (Listed e members) le h = subst (λ (x : ℕ). e.boot ≤ boot_number w x) (sym h.0) (subst (λ (x : ℕ). x ≤ boot_number w s) (sym h.1) le)
own_boot s boot w (Asked us b serial file how) le h = subst (λ (x : ℕ). b ≤ boot_number w x) (sym h.0) (subst (λ (x : ℕ). x ≤ boot_number w s) (sym h.1) le)
own_boot s boot w (Placed e inst group css b ss) le h = subst (λ (x : ℕ). b ≤ boot_number w x) (sym h.0) (subst (λ (x : ℕ). x ≤ boot_number w s) (sym h.1) le)
own_boot s boot w (Began e inst ss b file) le h = subst (λ (x : ℕ). b ≤ boot_number w x) (sym h.0) (subst (λ (x : ℕ). x ≤ boot_number w s) (sym h.1) le)

acts_fact : (c : Config) (n s : ℕ) (v : SiteView) (o : Outcome SiteView) (w : World) → place_at w s ≡ Some (Running v) → (g : Booked c w) → SiteFine c s v.boot g.0 o → SiteDisk s v o → Booked c (acts n s v o w)
acts_fact c n s v o w here g fine disk =
    acts_cases (Booked c) n s v o w
    (happened_fact c n o.sent o.told (λ now. puts s (Running o.view) now) w g owed refl refl)
    (λ a. happened_fact c n o.sent o.told (λ now. puts s (Running o.view) (arms a now)) w g (record { book = owed.book; leads = owed.leads; sound = owed.sound; boots = λ x k. boot_later (puts s (Running o.view) w) (puts s (Running o.view) (arms a w)) x (stays (puts s (Running o.view) w)) (owed.boots x k); sites = owed.sites; views = owed.views; sent = owed.sent; tells = owed.tells }) refl refl)
    (λ d a e. stops_fact c n s (Running v) (cut_disk v.boot v.store d a.how a.left) (cut_told s v.store d a.how a.left) w here (omega arith)
    (λ b. cut_plain s (is_on_disk v.store d a.how a.left) d.says (cause_of a.how) b (written_record s v.store.copies o.view.store.copies o.told o.written d disk e b)) g)
  where
    f : WorldFact c g.0 w
    f = g.1

    rises : (t : ℕ) → boot_number w t ≤ boot_number (puts s (Running o.view) w) t
    rises = puts_rises s (Running v) (Running o.view) w here (let b : o.view.boot ≡ v.boot = fine.view.1 in omega (arith, b))

    here_now : v.boot ≤ boot_number (puts s (Running o.view) w) s
    here_now = let a : boot_number (puts s (Running o.view) w) s ≡ o.view.boot = ap boot_on (puts_same s (Running o.view) w) in let b : o.view.boot ≡ v.boot = fine.view.1 in omega (arith, a, b)

    noted : (x : Note) → Among x g.0 ⊎ IsOf s v.boot x → OfABoot (puts s (Running o.view) w) x
    noted x (inl k) = boot_later w (puts s (Running o.view) w) x rises (f.boots x k)
    noted x (inr k) = own_boot s v.boot (puts s (Running o.view) w) x here_now k

    owed : Owed c g.0 o.told o.sent (λ now. puts s (Running o.view) now) w
    owed = record {
      book = fine.book;
      leads = fine.grown.leads;
      sound = fine.sound;
      boots = λ x k. noted x (fine.grown.fresh x k);
      sites = sites_of c g.0 s (Running v) (Running o.view) w f here;
      views = views_of c g.0 fine.book s v.boot (Running o.view) w f fine.grown (λ u e. subst (ViewFact c fine.book s) (running_view o.view u e) fine.view.0);
      sent = fine.sent;
      tells = fine.told;
    }

-- ---- a boot ----

-- no note is of a boot that its site hasn't had yet
no_note : (s boot : ℕ) (w : World) (n : Note) → boot_number w s + 1 ≤ boot → OfABoot w n → IsOf s boot n → ⊥
no_note s boot w (Listed e members) le h own = let a : e.boot ≤ boot_number w s = subst (λ (x : ℕ). e.boot ≤ boot_number w x) own.0 h in let b : e.boot ≡ boot = own.1 in omega (arith, le, a, b)
no_note s boot w (Asked us d serial file how) le h own = let a : d ≤ boot_number w s = subst (λ (x : ℕ). d ≤ boot_number w x) own.0 h in let b : d ≡ boot = own.1 in omega (arith, le, a, b)
no_note s boot w (Placed e inst group css d ss) le h own = let a : d ≤ boot_number w s = subst (λ (x : ℕ). d ≤ boot_number w x) own.0 h in let b : d ≡ boot = own.1 in omega (arith, le, a, b)
no_note s boot w (Began e inst ss d file) le h own = let a : d ≤ boot_number w s = subst (λ (x : ℕ). d ≤ boot_number w x) own.0 h in let b : d ≡ boot = own.1 in omega (arith, le, a, b)

fresh_fact : (c : Config) (book : Book) (s boot : ℕ) (copies : List FileCopy) → ((n : Note) → Among n book → IsOf s boot n → ⊥) → ViewFact c book s (fresh boot copies)
fresh_fact c book s boot copies none = record {
  users = record { waiting = tt; counted = λ serial file how k. absurd (none (Asked s boot serial file how) k (refl, refl)) };
  round = tt;
  passed = λ n k own. absurd (none n k own);
  inside = refl;
}

boot_fact : (c : Config) (n s : ℕ) (d x : Disk) (change : World → World) (w : World) → place_at w s ≡ Some (Stopped d) → d.label.boot + 1 ≤ x.label.boot →
    ((t : ℕ) → place_at (change w) t ≡ place_at (puts s (Running (fresh x.label.boot x.copies)) w) t) → (change w).sent ≡ w.sent → (change w).underway ≡ w.underway → Booked c w →
    Booked c (happened n [] (Shown (says.Up s x.label.boot) ∷ []) change w)
boot_fact c n s d x change w here le same sent underway g =
    happened_fact c n [] (Shown (says.Up s x.label.boot) ∷ []) change w g (record {
      book = g.0;
      leads = λ m k. k;
      sound = f.sound;
      boots = λ m k. boot_later w (change w) m rises (f.boots m k);
      sites = λ t p at. sites_of c g.0 s (Stopped d) (Running view) w f here t p (sym (same t) ∙ at);
      views = λ t u at. views_of c g.0 g.0 s 0 (Running view) w f (grown_same (IsOf s 0) g.0) (λ y e. subst (ViewFact c g.0 s) (running_view view y e) (fresh_fact c g.0 s x.label.boot x.copies none)) t u (sym (same t) ∙ at);
      sent = tt;
      tells = (tt, tt);
    }) sent underway
  where
    f : WorldFact c g.0 w
    f = g.1

    view : SiteView
    view = fresh x.label.boot x.copies

    number : boot_number w s ≡ d.label.boot
    number = ap boot_on here

    none : (m : Note) → Among m g.0 → IsOf s x.label.boot m → ⊥
    none m k own = no_note s x.label.boot w m (omega (arith, le, number)) (f.boots m k) own

    rises : (t : ℕ) → boot_number w t ≤ boot_number (change w) t
    rises t = subst (λ (o : Option Place). boot_number w t ≤ boot_on o) (sym (same t)) (puts_rises s (Stopped d) (Running view) w here (omega (arith, le)) t)

as_fact : (c : Config) (n s : ℕ) (d : Disk) (b : Booted) (w : World) → place_at w s ≡ Some (Stopped d) → Reached d.label.boot (d.label.boot + 1) b → Booked c w → Booked c (boots_as n s b w)
as_fact c n s d (Whole x None) w here r g = boot_fact c n s d x _ w here r (λ t. refl) refl refl g
as_fact c n s d (Whole x (Some a)) w here r g = boot_fact c n s d x _ w here r (λ t. refl) refl refl g
as_fact c n s d (CutOff x how) w here r g = stops_fact c n s (Stopped d) x (Shown (says.Stopped s (cause_of how)) ∷ []) w here r (λ b. (tt, tt)) g

-- ---- every event and change ----

abbrev Both : Config → World → Type 0
Both c w = Good w × Booked c w

own_fact : (book : Book) (me : ℕ) (e : Event) → IsOwn e → EventFact book me e
own_fact book me (Calls process words) h = tt
own_fact book me (Receives p) h = absurd h
own_fact book me Ticks h = tt
own_fact book me Parts h = tt
own_fact book me Merges h = tt
own_fact book me GivesUp h = tt

own_names : (J : Deeds) (e : Event) → IsOwn e → EventNames J e
own_names J (Calls process words) h = tt
own_names J (Receives p) h = absurd h
own_names J Ticks h = tt
own_names J Parts h = tt
own_names J Merges h = tt
own_names J GivesUp h = tt

sent_fact : (c : Config) (book : Book) (w : World) (x : Numbered) → WasSent w x → WorldFact c book w → NumberedFact book x
sent_fact c book w x (inl a) f = found_among (NumberedFact book) x w.sent f.packets a
sent_fact c book w x (inr a) f = found_among (NumberedFact book) x w.underway f.underway a

passed_world : (c : Config) (k : ℕ) (w : World) → Booked c w → Booked c (passed k w)
passed_world c k w g = let f : WorldFact c g.0 w = g.1 in (g.0, record { sound = f.sound; boots = λ x m. boot_later w (passed k w) x (stays w) (f.boots x m); told = f.told; sites = f.sites; views = f.views; packets = f.packets; underway = every_without (NumberedFact g.0) number_of k w.underway f.underway })

-- a change that leaves places, packets and the trace
alike_world : (c : Config) (w u : World) → ((s : ℕ) → place_at u s ≡ place_at w s) → u.trace ≡ w.trace → u.sent ≡ w.sent → u.underway ≡ w.underway → Booked c w → Booked c u
alike_world c w u places trace sent underway g =
    let f : WorldFact c g.0 w = g.1 in (
      g.0,
      record {
        sound = f.sound;
        boots = λ x m. boot_later w u x (λ s. subst (λ (o : Option Place). boot_number w s ≤ boot_on o) (sym (places s)) (stays w s)) (f.boots x m);
        told = subst (λ (t : List Line). Every (ToldFact g.0) (past_of t)) (sym trace) f.told;
        sites = λ s p h. f.sites s p (sym (places s) ∙ h);
        views = λ s v h. f.views s v (sym (places s) ∙ h);
        packets = subst (λ (xs : List Numbered). Every (NumberedFact g.0) xs) (sym sent) f.packets;
        underway = subst (λ (xs : List Numbered). Every (NumberedFact g.0) xs) (sym underway) f.underway;
      },
    )

both_kept : (c : Config) → Kept c (Both c)
unfolding passed_world
both_kept c = record {
  steps = λ n s e v w here own g. (good.steps n s e v w here own g.0, stepped n s e v w here own g);
  receives = λ n x v w here sent g. (good.receives n x v w here sent g.0, received n x v w here sent g);
  passes = λ k w g. (good.passes k w g.0, passed_world c k w g.1);
  drops = λ k w g. (good.drops k w g.0, alike_world c (passed k w) _ (λ s. refl) refl refl refl (passed_world c k w g.1));
  recuts = λ xs w g. (good.recuts xs w g.0, alike_world c w _ (λ s. refl) refl refl refl g.1);
  arming = λ a w g. (good.arming a w g.0, alike_world c w (arms a w) (λ s. refl) refl refl refl g.1);
  voiding = λ n w g. (good.voiding n w g.0, told_fact c n (Shown says.Void ∷ []) w (λ b. (tt, tt)) g.1);
  budgets = λ n w g. (good.budgets n w g.0, told_fact c n (Shown says.Budget ∷ []) w (λ b. (tt, tt)) g.1);
  pending = λ n w g. (good.pending n w g.0, told_fact c n (map packet_record w.underway) w (λ b. every_map (ToldFact b) packet_record w.underway (λ x. tt)) g.1);
  stopping = λ n s v w here g. (good.stopping n s v w here g.0, stops_fact c n s (Running v) (disk_of v) (Shown (says.Stopped s cause.Asked) ∷ []) w here (omega arith) (λ b. (tt, tt)) g.1);
  booting = λ n s d w here g. (good.booting n s d w here g.0, as_fact c n s d (boots (script_of w s) d) w here (boots_reached (script_of w s) d) g.1);
}
  where
    good : Kept c Good
    good = good_kept c

    stepped : (n s : ℕ) (e : Event) (v : SiteView) (w : World) → place_at w s ≡ Some (Running v) → IsOwn e → Both c w → Booked c (acts n s v (step c s (links_of w s) v e) w)
    stepped n s e v w here own g =
        let f : WorldFact c g.1.0 w = g.1.1 in
        acts_fact c n s v (step c s (links_of w s) v e) w here g.1
        (step_fine (DeedsOf w.trace s) (DeedsOf w.trace s) c s g.1.0 (links_of w s) v e (f.sites s (Running v) here) (own_fact g.1.0 s e own) (own_names (DeedsOf w.trace s) e own) (g.0.views s v here) f.sound (f.views s v here))
        (step_disk c s (links_of w s) v e)

    received : (n : ℕ) (x : Numbered) (v : SiteView) (w : World) → place_at w x.packet.to ≡ Some (Running v) → WasSent w x → Both c w → Booked c (acts n x.packet.to v (step c x.packet.to (links_of (passed x.number w) x.packet.to) v (Receives x.packet)) (passed x.number w))
    received n x v w here sent g =
        let f : WorldFact c g.1.0 w = g.1.1 in
        acts_fact c n x.packet.to v (step c x.packet.to (links_of (passed x.number w) x.packet.to) v (Receives x.packet)) (passed x.number w) here (passed_world c x.number w g.1)
        (step_fine (DeedsOf w.trace x.packet.to) (DeedsOf w.trace x.packet.from) c x.packet.to g.1.0 (links_of (passed x.number w) x.packet.to) v (Receives x.packet) (f.sites x.packet.to (Running v) here) (refl, sent_fact c g.1.0 w x sent f) (was_sent w x sent g.0) (g.0.views x.packet.to v here) f.sound (f.views x.packet.to v here))
        (step_disk c x.packet.to (links_of (passed x.number w) x.packet.to) v (Receives x.packet))

-- ---- the first world ----

record FirstPlace (c : Config) (s : ℕ) (p : Place) : Type 0 where
  small : s ≤ sites_max
  view : (v : SiteView) → p ≡ Running v → ViewFact c [] s v

first_booked : (c : Config) → Booked c (first_world c)
first_booked c = (
  [],
  record {
    sound = record { notes = λ n k. absurd k; once = record { listed = λ e m n a b. absurd a; asked = λ us boot serial f g h i a b. absurd a; placed = λ e a b group css boot ss other_group other_css other_boot other k p q. absurd p; began = λ e a b ss boot other other_boot f g k p q. absurd p } };
    boots = λ n k. absurd k;
    told = tt;
    sites = λ s p here. (first c s p here).small;
    views = λ s v here. (first c s (Running v) here).view v refl;
    packets = tt;
    underway = tt;
  },
)
  where
    first : (c : Config) (s : ℕ) (p : Place) → place_at (first_world c) s ≡ Some p → FirstPlace c s p
    first c = first_places c (FirstPlace c) (λ s own. record { small = own.0.1; view = λ v g. subst (ViewFact c [] s) (running_view _ v g) (fresh_fact c [] s 1 _ (λ n k own. k)) })

pub run_booked : (c : Config) (lines : List ScheduleLine) → Booked c (run_in c lines)
run_booked c lines = (every_run c (Both c) (both_kept c) (first_good c, first_booked c) lines).1
