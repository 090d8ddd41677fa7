-- In every run each law of facts holds, where what it supposes does.
use Rattle.std.proofs.Common.{◌≡◌, ℕ, ◌+◌, Bool, true, false, cond, List, [], ◌∷◌, map, Some, None, refl, sym, ◌∙◌, ap, subst, inl, inr}
use Rattle.the_run.proofs.of_plain_facts.Options.{some_same}
use Rattle.locus_ids.specs.declared.config.Config.{Config}
use Rattle.schedule_lines.specs.declared.line.ScheduleLine.{ScheduleLine}
use Rattle.trace_book.specs.declared.record.Record.TheVariants as says
use Rattle.trace_book.specs.declared.record.StopCause.{StopCause}
use Rattle.trace_book.specs.declared.record.StopCause.TheVariants as cause
use Rattle.wire_messages.specs.declared.packet.Packet.{Packet}
use Rattle.the_run.specs.of_role_steps.Own.{Every}
use Rattle.the_run.specs.of_role_steps.Tables.{with_row}
use Rattle.the_run.specs.of_role_steps.Views.{SiteView, Told, Shown, DiskWrite, Outcome, Event, Calls, Receives, Ticks, Parts, Merges, GivesUp}
use Rattle.the_run.specs.of_role_steps.Storage.{copy_key}
use Rattle.the_run.proofs.of_role_steps.Sending.{every_append, every_map}
use Rattle.the_run.specs.Disks.{Disk, Booted, Whole, CutOff, boots, cut_disk, is_on_disk}
use Rattle.the_run.specs.Steps.{step}
use Rattle.the_run.specs.Worlds.{World, Place, Running, Stopped, Numbered, number_of, links_of, place_at, script_of, happened, numbered_from, told_onto, disk_of, puts, arms, passed, stops_with, cause_of, acts, fresh, formatted, first_world}
use Rattle.the_run.specs.Runs.{boots_as, packet_record, run_in}
use Rattle.the_run.specs.Kept.{WasSent, IsOwn, Kept}
use Rattle.the_run.proofs.Boots.{at_each, acts_cases, every_newest, every_numbered, every_weaker}
use Rattle.the_run.proofs.Events.{happened_keeps, puts_other, puts_same}
use Rattle.the_run.proofs.InsideSync.{every_without}
use Rattle.the_run.proofs.Runs.{every_run}
use Rattle.run_laws.specs.Naming.{Deeds, DeedsOf, Good}
use Rattle.run_laws.proofs.Run.{good_kept, first_good, found_among, was_sent}
use Rattle.run_laws.proofs.Steps.{EventNames}
use Rattle.run_laws.proofs.Walks.FirstWorld.{first_places}
use Rattle.run_laws.specs.FactWalks.Facts.{past_of, onto, Facts, PacketIn, AllTold, WrittenIn, FineAt, EventIn, IsOutside, ToldWell, copies_on, PlaceIn, NumberedIn, WorldIn, Standing}
use Rattle.run_laws.specs.FactWalks.Keeping.{WorldsKeep}
use Rattle.run_laws.proofs.FactWalks.Boots.{KeepsCopies, boots_copies}
use Rattle.run_laws.proofs.FactWalks.Outcomes.{past_onto, told_each, view_onto, disk_onto, packet_onto}
use Rattle.run_laws.proofs.FactWalks.Steps.{step_fine}

-- ---- events that need no packet ----

pub own_carries : (facts : Facts) (past : List Told) (me : ℕ) (e : Event) → IsOwn e → EventIn facts past me e
own_carries facts past me (Calls process words) h = tt
own_carries facts past me (Receives p) h = absurd h
own_carries facts past me Ticks h = tt
own_carries facts past me Parts h = tt
own_carries facts past me Merges h = tt
own_carries facts past me GivesUp h = tt

pub own_names : (J : Deeds) (e : Event) → IsOwn e → EventNames J e
own_names J (Calls process words) h = tt
own_names J (Receives p) h = absurd h
own_names J Ticks h = tt
own_names J Parts h = tt
own_names J Merges h = tt
own_names J GivesUp h = tt

packets_outside : (xs : List Numbered) → Every IsOutside (map packet_record xs)
packets_outside xs = every_map IsOutside packet_record xs (λ x. tt)

told_well : (facts : Facts) (told past : List Told) → AllTold facts past told → ToldWell facts past → ToldWell facts (onto told past)
told_well facts [] past h g = g
told_well facts (x ∷ xs) past h g = told_well facts xs (x ∷ past) h.1 (h.0, g)

-- a property goes on where it says the same of each world
pub kept_alike : {P Q : World → Type 0} (c : Config) → ((w : World) → P w → Q w) → ((w : World) → Q w → P w) → Kept c P → Kept c Q
kept_alike c to from k = record {
  steps = λ n s e v w here own h. to _ (k.steps n s e v w here own (from w h));
  receives = λ n x v w here sent h. to _ (k.receives n x v w here sent (from w h));
  passes = λ i w h. to _ (k.passes i w (from w h));
  drops = λ i w h. to _ (k.drops i w (from w h));
  recuts = λ xs w h. to _ (k.recuts xs w (from w h));
  arming = λ a w h. to _ (k.arming a w (from w h));
  voiding = λ n w h. to _ (k.voiding n w (from w h));
  budgets = λ n w h. to _ (k.budgets n w (from w h));
  pending = λ n w h. to _ (k.pending n w (from w h));
  stopping = λ n s v w here h. to _ (k.stopping n s v w here (from w h));
  booting = λ n s d w here h. to _ (k.booting n s d w here (from w h));
}

module _ (facts : Facts) (c : Config) (keeps : WorldsKeep facts c) where
  -- the facts, where they are supposed to hold
  abbrev Holds : World → Type 0
  Holds w = facts.assumes (past_of w.trace) → WorldIn facts w

  before : (told past : List Told) → facts.assumes (onto told past) → facts.assumes past
  before [] past h = h
  before (x ∷ xs) past h = keeps.before past x (before xs (x ∷ past) h)

  outside : (past : List Told) (told : List Told) → Every IsOutside told → AllTold facts past told
  outside past told h = told_each facts IsOutside (keeps.sites 0).outside past told h

  place_onto : (told past : List Told) (s : ℕ) (p : Place) → PlaceIn facts past s p → PlaceIn facts (onto told past) s p
  place_onto told past s (Running v) h = view_onto facts (keeps.sites s).grows told past s v h
  place_onto told past s (Stopped d) h = disk_onto facts (keeps.sites s).grows told past d.copies h

  -- ---- one event ----

  -- what an event owes of the facts before it
  record Owed (told : List Told) (ps : List Packet) (change : World → World) (w : World) : Type 0 where
    tells : AllTold facts (past_of w.trace) told
    sent : Every (PacketIn facts (onto told (past_of w.trace))) ps
    places : (t : ℕ) (p : Place) → place_at (change w) t ≡ Some p → PlaceIn facts (onto told (past_of w.trace)) t p

  happens : (n : ℕ) (ps : List Packet) (told : List Told) (change : World → World) (w : World) → (facts.assumes (past_of w.trace) → WorldIn facts w → Owed told ps change w) →
      (change w).sent ≡ w.sent → (change w).underway ≡ w.underway → Holds w → Holds (happened n ps told change w)
  happens n ps told change w now sent underway g =
      happened_keeps Holds n ps told change w g
      (λ l h. (let f : WorldIn facts w = g h in record { told = f.told; places = f.places; packets = f.packets; underway = f.underway }))
      (λ k b t h. (let a : facts.assumes past = before told past (subst facts.assumes same h) in let f : WorldIn facts w = g a in let r : Owed told ps change w = now a f in record {
        told = subst (ToldWell facts) (sym same) (told_well facts told past r.tells f.told);
        places = λ s p here. subst (λ (x : List Told). PlaceIn facts x s p) (sym same) (r.places s p here);
        packets = every_newest (NumberedIn facts L) (numbered_from (w.packets + 1) ps) (change w).sent (added r.sent) (subst (λ (xs : List Numbered). Every (NumberedIn facts L) xs) (sym sent) (later w.sent f.packets));
        underway = every_append (NumberedIn facts L) (change w).underway (numbered_from (w.packets + 1) ps) (subst (λ (xs : List Numbered). Every (NumberedIn facts L) xs) (sym underway) (later w.underway f.underway)) (added r.sent);
      }))
    where
      past : List Told
      past = past_of w.trace

      L : List Told
      L = past_of (told_onto n told w.trace)

      same : L ≡ onto told past
      same = past_onto n told w.trace

      later : (xs : List Numbered) → Every (NumberedIn facts past) xs → Every (NumberedIn facts L) xs
      later xs h = subst (λ (x : List Told). Every (NumberedIn facts x) xs) (sym same) (every_weaker (NumberedIn facts past) (NumberedIn facts (onto told past)) xs (λ x. packet_onto facts (keeps.sites 0).grows told past x.packet) h)

      added : Every (PacketIn facts (onto told past)) ps → Every (NumberedIn facts L) (numbered_from (w.packets + 1) ps)
      added h = every_numbered (PacketIn facts L) (w.packets + 1) ps (subst (λ (x : List Told). Every (PacketIn facts x) ps) (sym same) h)

  -- ---- one place ----

  old_places : (told : List Told) (w : World) → WorldIn facts w → (t : ℕ) (p : Place) → place_at w t ≡ Some p → PlaceIn facts (onto told (past_of w.trace)) t p
  old_places told w f t p here = place_onto told (past_of w.trace) t p (f.places t p here)

  places_of : (s : ℕ) (new : Place) (told : List Told) (w : World) → WorldIn facts w → PlaceIn facts (onto told (past_of w.trace)) s new → (t : ℕ) (p : Place) → place_at (puts s new w) t ≡ Some p → PlaceIn facts (onto told (past_of w.trace)) t p
  places_of s new told w f fine t p here = at_each s t (PlaceIn facts (onto told (past_of w.trace)) t p)
      (λ e. subst (λ (x : Place). PlaceIn facts (onto told (past_of w.trace)) t x) (some_same new p (sym (puts_same s new w) ∙ (ap (place_at (puts s new w)) e ∙ here))) (subst (λ (n : ℕ). PlaceIn facts (onto told (past_of w.trace)) n new) e fine))
      (λ ne. old_places told w f t p (sym (puts_other s t new w ne) ∙ here))

  -- what a place leaves of its disk
  disk_at : (past : List Told) (s : ℕ) (p : Place) → PlaceIn facts past s p → facts.disk past (copies_on p)
  disk_at past s (Running v) h = keeps.rests past s v h
  disk_at past s (Stopped d) h = h

  -- a stop that leaves the disk as it is
  stops : (n s : ℕ) (old : Place) (d : Disk) (told : List Told) (w : World) → place_at w s ≡ Some old → d.copies ≡ copies_on old → Every IsOutside told → Holds w → Holds (happened n [] told (stops_with s d) w)
  stops n s old d told w here same none g =
      happens n [] told (stops_with s d) w
      (λ h f. record {
        tells = outside (past_of w.trace) told none;
        sent = tt;
        places = places_of s (Stopped d) told w f (disk_onto facts (keeps.sites s).grows told (past_of w.trace) d.copies (subst (facts.disk (past_of w.trace)) (sym same) (disk_at (past_of w.trace) s old (f.places s old here))));
      }) refl refl g

  -- an event of the world itself
  tells : (n : ℕ) (told : List Told) (w : World) → Every IsOutside told → Holds w → Holds (happened n [] told (λ now. now) w)
  tells n told w none g = happens n [] told (λ now. now) w (λ h f. record { tells = outside (past_of w.trace) told none; sent = tt; places = old_places told w f }) refl refl g

  -- an event that is cut off in its commit or adoption
  cut : (n s : ℕ) (v : SiteView) (d : DiskWrite) (disk : Disk) (how : StopCause) (b : Bool) (w : World) → place_at w s ≡ Some (Running v) → disk.copies ≡ cond b (with_row copy_key d.copy v.store.copies) v.store.copies →
      (facts.assumes (past_of w.trace) → WorldIn facts w → facts.written (past_of w.trace) d) → Holds w → Holds (happened n [] (cond b (Shown d.says ∷ Shown (says.Stopped s how) ∷ []) (Shown (says.Stopped s how) ∷ [])) (stops_with s disk) w)
  cut n s v d disk how true w here e fine g =
      happens n [] (Shown d.says ∷ Shown (says.Stopped s how) ∷ []) (stops_with s disk) w
      (λ h f. (let k : facts.written (past_of w.trace) d = fine h f in record {
        tells = (keeps.tells (past_of w.trace) d k, outside (Shown d.says ∷ past_of w.trace) (Shown (says.Stopped s how) ∷ []) (tt, tt));
        sent = tt;
        places = places_of s (Stopped disk) (Shown d.says ∷ Shown (says.Stopped s how) ∷ []) w f
            (subst (facts.disk (Shown (says.Stopped s how) ∷ Shown d.says ∷ past_of w.trace)) (sym e) ((keeps.sites s).grows.disk (Shown d.says ∷ past_of w.trace) (Shown (says.Stopped s how)) (with_row copy_key d.copy v.store.copies)
            (keeps.saves (past_of w.trace) d v.store.copies k (keeps.rests (past_of w.trace) s v (f.places s (Running v) here)))));
      })) refl refl g
  cut n s v d disk how false w here e fine g = stops n s (Running v) disk (Shown (says.Stopped s how) ∷ []) w here e (tt, tt) g

  runs : (n s : ℕ) (v : SiteView) (o : Outcome SiteView) (w : World) → place_at w s ≡ Some (Running v) → (facts.assumes (past_of w.trace) → WorldIn facts w → FineAt facts s (past_of w.trace) o) → Holds w → Holds (acts n s v o w)
  runs n s v o w here fine g =
      acts_cases Holds n s v o w
      (happens n o.sent o.told (λ now. puts s (Running o.view) now) w owed refl refl g)
      (λ a. happens n o.sent o.told (λ now. puts s (Running o.view) (arms a now)) w (λ h f. (let r : Owed o.told o.sent (λ now. puts s (Running o.view) now) w = owed h f in record { tells = r.tells; sent = r.sent; places = r.places })) refl refl g)
      (λ d a e. cut n s v d (cut_disk v.boot v.store d a.how a.left) (cause_of a.how) (is_on_disk v.store d a.how a.left) w here refl (λ h f. (let k : FineAt facts s (past_of w.trace) o = fine h f in subst (WrittenIn facts (past_of w.trace)) e k.written)) g)
    where
      owed : facts.assumes (past_of w.trace) → WorldIn facts w → Owed o.told o.sent (λ now. puts s (Running o.view) now) w
      owed h f = let k : FineAt facts s (past_of w.trace) o = fine h f in record { tells = k.told; sent = k.sent; places = places_of s (Running o.view) o.told w f k.view }

  -- ---- a boot ----

  starts : (n s : ℕ) (d x : Disk) (change : World → World) (w : World) → place_at w s ≡ Some (Stopped d) → x.copies ≡ d.copies → ((t : ℕ) → place_at (change w) t ≡ place_at (puts s (Running (fresh x.label.boot x.copies)) w) t) → (change w).sent ≡ w.sent → (change w).underway ≡ w.underway → Holds w →
      Holds (happened n [] (Shown (says.Up s x.label.boot) ∷ []) change w)
  starts n s d x change w here e same sent underway g =
      happens n [] (Shown (says.Up s x.label.boot) ∷ []) change w
      (λ h f. record {
        tells = outside (past_of w.trace) (Shown (says.Up s x.label.boot) ∷ []) (tt, tt);
        sent = tt;
        places = λ t p at. places_of s (Running (fresh x.label.boot x.copies)) (Shown (says.Up s x.label.boot) ∷ []) w f
            (keeps.boots (Shown (says.Up s x.label.boot) ∷ past_of w.trace) s x.label.boot x.copies (subst (facts.disk (Shown (says.Up s x.label.boot) ∷ past_of w.trace)) (sym e)
            ((keeps.sites s).grows.disk (past_of w.trace) (Shown (says.Up s x.label.boot)) d.copies (f.places s (Stopped d) here)))) t p (sym (same t) ∙ at);
      }) sent underway g

  boots_in : (n s : ℕ) (d : Disk) (b : Booted) (w : World) → place_at w s ≡ Some (Stopped d) → KeepsCopies d.copies b → Holds w → Holds (boots_as n s b w)
  boots_in n s d (Whole x None) w here e g = starts n s d x _ w here e (λ t. refl) refl refl g
  boots_in n s d (Whole x (Some a)) w here e g = starts n s d x _ w here e (λ t. refl) refl refl g
  boots_in n s d (CutOff x how) w here e g = stops n s (Stopped d) x (Shown (says.Stopped s (cause_of how)) ∷ []) w here e (tt, tt) g

  -- ---- every event and change ----

  carried : (w : World) (x : Numbered) → WasSent w x → WorldIn facts w → NumberedIn facts (past_of w.trace) x
  carried w x (inl a) f = found_among (NumberedIn facts (past_of w.trace)) x w.sent f.packets a
  carried w x (inr a) f = found_among (NumberedIn facts (past_of w.trace)) x w.underway f.underway a

  passing : (k : ℕ) (w : World) → Holds w → Holds (passed k w)
  passing k w g h = let f : WorldIn facts w = g h in record { told = f.told; places = f.places; packets = f.packets; underway = every_without (NumberedIn facts (past_of w.trace)) number_of k w.underway f.underway }

  pub standing_kept : Kept c (Standing facts)
  standing_kept = record {
    steps = λ n s e v w here own g. (
      good.steps n s e v w here own g.0,
      runs n s v (step c s (links_of w s) v e) w here
          (λ h f. step_fine facts c s (keeps.sites s) (DeedsOf w.trace s) (DeedsOf w.trace s) (past_of w.trace) (links_of w s) v e h (own_carries facts (past_of w.trace) s e own) (own_names (DeedsOf w.trace s) e own) (g.0.views s v here) (f.places s (Running v) here)) g.1,
    );
    receives = λ n x v w here sent g. (good.receives n x v w here sent g.0, received n x v w here sent g);
    passes = λ k w g. (good.passes k w g.0, passing k w g.1);
    drops = λ k w g. (good.drops k w g.0, λ h. (let f : WorldIn facts (passed k w) = passing k w g.1 h in record { told = f.told; places = f.places; packets = f.packets; underway = f.underway }));
    recuts = λ xs w g. (good.recuts xs w g.0, λ h. (let f : WorldIn facts w = g.1 h in record { told = f.told; places = f.places; packets = f.packets; underway = f.underway }));
    arming = λ a w g. (good.arming a w g.0, λ h. (let f : WorldIn facts w = g.1 h in record { told = f.told; places = f.places; packets = f.packets; underway = f.underway }));
    voiding = λ n w g. (good.voiding n w g.0, tells n (Shown says.Void ∷ []) w (tt, tt) g.1);
    budgets = λ n w g. (good.budgets n w g.0, tells n (Shown says.Budget ∷ []) w (tt, tt) g.1);
    pending = λ n w g. (good.pending n w g.0, tells n (map packet_record w.underway) w (packets_outside w.underway) g.1);
    stopping = λ n s v w here g. (good.stopping n s v w here g.0, stops n s (Running v) (disk_of v) (Shown (says.Stopped s cause.Asked) ∷ []) w here refl (tt, tt) g.1);
    booting = λ n s d w here g. (good.booting n s d w here g.0, boots_in n s d (boots (script_of w s) d) w here (boots_copies (script_of w s) d) g.1);
  }
    where
      good : Kept c Good
      good = good_kept c

      received : (n : ℕ) (x : Numbered) (v : SiteView) (w : World) → place_at w x.packet.to ≡ Some (Running v) → WasSent w x → Standing facts w → Holds (acts n x.packet.to v (step c x.packet.to (links_of (passed x.number w) x.packet.to) v (Receives x.packet)) (passed x.number w))
      received n x v w here sent g =
          runs n x.packet.to v (step c x.packet.to (links_of (passed x.number w) x.packet.to) v (Receives x.packet)) (passed x.number w) here
          (λ h f. (let o : WorldIn facts w = g.1 h in step_fine facts c x.packet.to (keeps.sites x.packet.to) (DeedsOf w.trace x.packet.to) (DeedsOf w.trace x.packet.from) (past_of w.trace) (links_of (passed x.number w) x.packet.to) v (Receives x.packet) h (carried w x sent o) (was_sent w x sent g.0) (g.0.views x.packet.to v here) (o.places x.packet.to (Running v) here)))
          (passing x.number w g.1)

  -- ---- the first world ----

  pub first_standing : Standing facts (first_world c)
  first_standing = (first_good c, λ h. record { told = tt; places = first_places c (PlaceIn facts []) (λ s own. keeps.boots [] s 1 (formatted c s) (keeps.formatted s)); packets = tt; underway = tt })

  pub run_facts : (lines : List ScheduleLine) → facts.assumes (past_of (run_in c lines).trace) → WorldIn facts (run_in c lines)
  run_facts lines h = (every_run c (Standing facts) standing_kept first_standing lines).1 h
