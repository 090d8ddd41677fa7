-- What the laws of vectors carry of packets and views is kept by all that happens: it can stand beside other facts.
use Rattle.std.proofs.Common.{◌≡◌, ℕ, ◌+◌, Bool, true, false, cond, List, [], ◌∷◌, map, Some, None, refl, sym, ◌∙◌, ap, subst, inl, inr}
use Rattle.role_steps.proofs.of_plain_facts.Options.{some_same}
use Rattle.locus_ids.specs.declared.config.Config.{Config}
use Rattle.trace_book.specs.declared.record.Record.TheVariants as says
use Rattle.trace_book.specs.declared.record.StopCause.{StopCause}
use Rattle.trace_book.specs.declared.record.StopCause.TheVariants as cause
use Rattle.wire_messages.specs.declared.packet.Packet.{Packet}
use Rattle.role_steps.specs.Own.{Every}
use Rattle.role_steps.specs.Tables.{with_row}
use Rattle.role_steps.specs.Views.{SiteView, Told, Shown, DiskWrite, Outcome, Event, Calls, Receives, Ticks, Parts, Merges, GivesUp}
use Rattle.role_steps.specs.Storage.{copy_key}
use Rattle.role_steps.specs.declared.copies.FileCopy.{FileCopy}
use Rattle.role_steps.proofs.Sending.{every_append, every_map}
use Rattle.the_run.specs.Disks.{Disk, Booted, Whole, CutOff, boots, cut_disk, is_on_disk}
use Rattle.the_run.specs.Steps.{step}
use Rattle.the_run.specs.Worlds.{World, Place, Running, Stopped, Numbered, Line, number_of, links_of, place_at, script_of, happened, numbered_from, told_onto, disk_of, puts, arms, passed, stops_with, cause_of, acts, fresh, root_copy, formatted, first_world}
use Rattle.the_run.specs.Runs.{boots_as, packet_record}
use Rattle.the_run.specs.Kept.{WasSent, IsOwn, Kept}
use Rattle.the_run.proofs.Boots.{at_each, acts_cases, every_newest, every_numbered, every_weaker}
use Rattle.the_run.proofs.Events.{happened_keeps, puts_other, puts_same}
use Rattle.the_run.proofs.InsideSync.{every_row, every_without}
use Rattle.run_laws.specs.Naming.{Deeds, DeedsOf, Good}
use Rattle.run_laws.proofs.Run.{good_kept, first_good, found_among, was_sent}
use Rattle.run_laws.proofs.Steps.{EventNames}
use Rattle.site_laws.specs.Vectors.Held.{copies_on}
use Rattle.site_laws.specs.Vectors.Written.{past_of, InstancesAgree, CommitsAreNumbered}
use Rattle.site_laws.specs.Vectors.Facts.{PacketFact, CopyFact, ViewFact, NotCommit, NumberedAll, DiskFact, onto, NumberedFact, WorldFact, WhereAgreed}
use Rattle.site_laws.proofs.Vectors.Facts.{Later, onto_later, body_later, copies_later, view_later, agree_before, numbered_none}
use Rattle.site_laws.proofs.Vectors.SyncFacts.{seen_none}
use Rattle.site_laws.proofs.Vectors.StepFacts.{EventFact, step_fact}
use Rattle.site_laws.proofs.Vectors.SiteFacts.{SiteFine}
use Rattle.site_laws.proofs.Vectors.Held.{KeepsCopies, boots_copies}
use Rattle.run_laws.proofs.Walks.FirstWorld.{first_places}

-- ---- the trace ----

pub past_onto : (n : ℕ) (told : List Told) (trace : List Line) → past_of (told_onto n told trace) ≡ onto told (past_of trace)
past_onto n [] trace = refl
past_onto n (x ∷ xs) trace = past_onto n xs (record { number = n; told = x } ∷ trace)

all_numbered : (told past : List Told) → NumberedAll past told → CommitsAreNumbered past → CommitsAreNumbered (onto told past)
all_numbered [] past h g = g
all_numbered (x ∷ xs) past h g = all_numbered xs (x ∷ past) h.1 (h.0, g)

numbered_later : (a b : List Told) → Later a b → (xs : List Numbered) → Every (NumberedFact a) xs → Every (NumberedFact b) xs
numbered_later a b l xs h = every_weaker (NumberedFact a) (NumberedFact b) xs (λ x. body_later a b l x.packet.epoch x.packet.body) h

-- ---- one event ----

-- what an event leaves of a place
record PlaceFact (past : List Told) (p : Place) : Type 0 where
  disk : Every (CopyFact past) (copies_on p)
  view : (v : SiteView) → p ≡ Running v → ViewFact past v

-- what an event owes of the facts before it
record Owed (told : List Told) (ps : List Packet) (change : World → World) (w : World) : Type 0 where
  numbered : NumberedAll (past_of w.trace) told
  sent : Every (PacketFact (onto told (past_of w.trace))) ps
  places : (t : ℕ) (p : Place) → place_at (change w) t ≡ Some p → PlaceFact (onto told (past_of w.trace)) p

happened_fact : (n : ℕ) (ps : List Packet) (told : List Told) (change : World → World) (w : World) → (InstancesAgree (past_of w.trace) → WorldFact w → Owed told ps change w) →
    (change w).sent ≡ w.sent → (change w).underway ≡ w.underway → WhereAgreed w → WhereAgreed (happened n ps told change w)
happened_fact n ps told change w now sent underway g =
    happened_keeps WhereAgreed n ps told change w g
    (λ l h. (let f : WorldFact w = g h in record { numbered = f.numbered; disks = f.disks; views = f.views; packets = f.packets; underway = f.underway }))
    (λ k b t h. (let f : WorldFact w = g (before h) in let r : Owed told ps change w = now (before h) f in record {
      numbered = subst CommitsAreNumbered (sym same) (all_numbered told past r.numbered f.numbered);
      disks = λ s p here. subst (λ (x : List Told). Every (CopyFact x) (copies_on p)) (sym same) (r.places s p here).disk;
      views = λ s v here. subst (λ (x : List Told). ViewFact x v) (sym same) ((r.places s (Running v) here).view v refl);
      packets = every_newest (NumberedFact L) (numbered_from (w.packets + 1) ps) (change w).sent (added r.sent) (subst (λ (xs : List Numbered). Every (NumberedFact L) xs) (sym sent) (numbered_later past L later w.sent f.packets));
      underway = every_append (NumberedFact L) (change w).underway (numbered_from (w.packets + 1) ps) (subst (λ (xs : List Numbered). Every (NumberedFact L) xs) (sym underway) (numbered_later past L later w.underway f.underway)) (added r.sent);
    }))
  where
    past : List Told
    past = past_of w.trace

    L : List Told
    L = past_of (told_onto n told w.trace)

    same : L ≡ onto told past
    same = past_onto n told w.trace

    later : Later past L
    later = subst (λ (x : List Told). Later past x) (sym same) (onto_later told past)

    before : InstancesAgree L → InstancesAgree past
    before h = agree_before past L later h

    added : Every (PacketFact (onto told past)) ps → Every (NumberedFact L) (numbered_from (w.packets + 1) ps)
    added h = every_numbered (PacketFact L) (w.packets + 1) ps (subst (λ (x : List Told). Every (PacketFact x) ps) (sym same) h)

-- ---- one place ----

running_view : (v u : SiteView) → Running v ≡ Running u → v ≡ u
running_view v u e = cc

stopped_never : (d : Disk) (v : SiteView) → Stopped d ≡ Running v → ⊥
stopped_never d v e = cc

stopped_fact : (past : List Told) (d : Disk) → Every (CopyFact past) d.copies → PlaceFact past (Stopped d)
stopped_fact past d h = record { disk = h; view = λ v e. absurd (stopped_never d v e) }

running_fact : (past : List Told) (v : SiteView) → ViewFact past v → PlaceFact past (Running v)
running_fact past v h = record { disk = h.copies; view = λ u e. subst (ViewFact past) (running_view v u e) h }

old_place : (past now : List Told) (w : World) → Later past now → past ≡ past_of w.trace → WorldFact w → (t : ℕ) (p : Place) → place_at w t ≡ Some p → PlaceFact now p
old_place past now w l e f t p here = record {
  disk = copies_later past now l (copies_on p) (subst (λ (x : List Told). Every (CopyFact x) (copies_on p)) (sym e) (f.disks t p here));
  view = λ v q. view_later past now l v (subst (λ (x : List Told). ViewFact x v) (sym e) (f.views t v (here ∙ ap Some q)));
}

places_of : (s : ℕ) (new : Place) (told : List Told) (w : World) → WorldFact w → PlaceFact (onto told (past_of w.trace)) new → (t : ℕ) (p : Place) → place_at (puts s new w) t ≡ Some p → PlaceFact (onto told (past_of w.trace)) p
places_of s new told w f fine t p here = at_each s t (PlaceFact (onto told (past_of w.trace)) p)
    (λ e. subst (PlaceFact (onto told (past_of w.trace))) (some_same new p (sym (puts_same s new w) ∙ (ap (place_at (puts s new w)) e ∙ here))) fine)
    (λ ne. old_place (past_of w.trace) (onto told (past_of w.trace)) w (onto_later told (past_of w.trace)) refl f t p (sym (puts_other s t new w ne) ∙ here))

-- a stop that leaves the disk as it is
stops_fact : (n s : ℕ) (old : Place) (d : Disk) (told : List Told) (w : World) → place_at w s ≡ Some old → d.copies ≡ copies_on old → Every NotCommit told → WhereAgreed w → WhereAgreed (happened n [] told (stops_with s d) w)
stops_fact n s old d told w here disk none g =
    happened_fact n [] told (stops_with s d) w
    (λ h f. record {
      numbered = numbered_none (past_of w.trace) told none;
      sent = tt;
      places = places_of s (Stopped d) told w f (stopped_fact (onto told (past_of w.trace)) d (subst (λ (xs : List FileCopy). Every (CopyFact (onto told (past_of w.trace))) xs) (sym disk) (copies_later (past_of w.trace) (onto told (past_of w.trace)) (onto_later told (past_of w.trace)) (copies_on old) (f.disks s old here))));
    }) refl refl g

-- an event of the world itself
told_fact : (n : ℕ) (told : List Told) (w : World) → Every NotCommit told → WhereAgreed w → WhereAgreed (happened n [] told (λ now. now) w)
told_fact n told w none g =
    happened_fact n [] told (λ now. now) w
    (λ h f. record { numbered = numbered_none (past_of w.trace) told none; sent = tt; places = old_place (past_of w.trace) (onto told (past_of w.trace)) w (onto_later told (past_of w.trace)) refl f }) refl refl g

-- an event that is cut off in its commit or adoption
cut_fact : (n s : ℕ) (v : SiteView) (d : DiskWrite) (disk : Disk) (how : StopCause) (b : Bool) (w : World) → place_at w s ≡ Some (Running v) → disk.copies ≡ cond b (with_row copy_key d.copy v.store.copies) v.store.copies →
    (InstancesAgree (past_of w.trace) → WorldFact w → DiskFact (past_of w.trace) (Some d)) → WhereAgreed w → WhereAgreed (happened n [] (cond b (Shown d.says ∷ Shown (says.Stopped s how) ∷ []) (Shown (says.Stopped s how) ∷ [])) (stops_with s disk) w)
cut_fact n s v d disk how true w here e fine g =
    happened_fact n [] told (stops_with s disk) w
    (λ h f. (let k : DiskFact past (Some d) = fine h f in record {
      numbered = (k.0, (tt, tt));
      sent = tt;
      places = places_of s (Stopped disk) told w f (stopped_fact (onto told past) disk (subst (λ (xs : List FileCopy). Every (CopyFact (onto told past)) xs) (sym e)
          (every_row (CopyFact (onto told past)) copy_key d.copy v.store.copies ((onto_later (Shown (says.Stopped s how) ∷ []) (Shown d.says ∷ past)).written d.copy.file d.copy.stamp d.copy.vector k.1) (copies_later past (onto told past) (onto_later told past) v.store.copies (f.disks s (Running v) here)))));
    })) refl refl g
  where
    told : List Told
    told = Shown d.says ∷ Shown (says.Stopped s how) ∷ []

    past : List Told
    past = past_of w.trace
cut_fact n s v d disk how false w here e fine g = stops_fact n s (Running v) disk (Shown (says.Stopped s how) ∷ []) w here e (tt, tt) g

acts_fact : (n s : ℕ) (v : SiteView) (o : Outcome SiteView) (w : World) → place_at w s ≡ Some (Running v) → (InstancesAgree (past_of w.trace) → WorldFact w → SiteFine (past_of w.trace) o) → WhereAgreed w → WhereAgreed (acts n s v o w)
acts_fact n s v o w here fine g =
    acts_cases WhereAgreed n s v o w
    (happened_fact n o.sent o.told (λ now. puts s (Running o.view) now) w owed refl refl g)
    (λ a. happened_fact n o.sent o.told (λ now. puts s (Running o.view) (arms a now)) w (λ h f. (let r : Owed o.told o.sent (λ now. puts s (Running o.view) now) w = owed h f in record { numbered = r.numbered; sent = r.sent; places = r.places })) refl refl g)
    (λ d a e. cut_fact n s v d (cut_disk v.boot v.store d a.how a.left) (cause_of a.how) (is_on_disk v.store d a.how a.left) w here refl (λ h f. (let k : SiteFine (past_of w.trace) o = fine h f in subst (DiskFact (past_of w.trace)) e k.disk)) g)
  where
    owed : InstancesAgree (past_of w.trace) → WorldFact w → Owed o.told o.sent (λ now. puts s (Running o.view) now) w
    owed h f = let k : SiteFine (past_of w.trace) o = fine h f in record { numbered = k.numbered; sent = k.sent; places = places_of s (Running o.view) o.told w f (running_fact (onto o.told (past_of w.trace)) o.view k.view) }

-- ---- a boot ----

boot_fact : (n s : ℕ) (d x : Disk) (change : World → World) (w : World) → place_at w s ≡ Some (Stopped d) → x.copies ≡ d.copies → ((t : ℕ) → place_at (change w) t ≡ place_at (puts s (Running (fresh x.label.boot x.copies)) w) t) → (change w).sent ≡ w.sent → (change w).underway ≡ w.underway → WhereAgreed w →
    WhereAgreed (happened n [] (Shown (says.Up s x.label.boot) ∷ []) change w)
boot_fact n s d x change w here e same sent underway g =
    happened_fact n [] told change w
    (λ h f. record {
      numbered = (tt, tt);
      sent = tt;
      places = λ t p at. places_of s (Running view) told w f (running_fact (onto told past) view (record {
        copies = subst (λ (xs : List FileCopy). Every (CopyFact (onto told past)) xs) (sym e) (copies_later past (onto told past) (onto_later told past) d.copies (f.disks s (Stopped d) here));
        pulls = tt;
        inside = refl;
      })) t p (sym (same t) ∙ at);
    }) sent underway g
  where
    told : List Told
    told = Shown (says.Up s x.label.boot) ∷ []

    past : List Told
    past = past_of w.trace

    view : SiteView
    view = fresh x.label.boot x.copies

as_fact : (n s : ℕ) (d : Disk) (b : Booted) (w : World) → place_at w s ≡ Some (Stopped d) → KeepsCopies d.copies b → WhereAgreed w → WhereAgreed (boots_as n s b w)
as_fact n s d (Whole x None) w here e g = boot_fact n s d x _ w here e (λ t. refl) refl refl g
as_fact n s d (Whole x (Some a)) w here e g = boot_fact n s d x _ w here e (λ t. refl) refl refl g
as_fact n s d (CutOff x how) w here e g = stops_fact n s (Stopped d) x (Shown (says.Stopped s (cause_of how)) ∷ []) w here e (tt, tt) g

-- ---- every event and change ----

abbrev pub Both : World → Type 0
Both w = Good w × WhereAgreed w

own_fact : (past : List Told) (e : Event) → IsOwn e → EventFact past e
own_fact past (Calls process words) h = tt
own_fact past (Receives p) h = absurd h
own_fact past Ticks h = tt
own_fact past Parts h = tt
own_fact past Merges h = tt
own_fact past GivesUp h = tt

own_names : (J : Deeds) (e : Event) → IsOwn e → EventNames J e
own_names J (Calls process words) h = tt
own_names J (Receives p) h = absurd h
own_names J Ticks h = tt
own_names J Parts h = tt
own_names J Merges h = tt
own_names J GivesUp h = tt

pub sent_fact : (w : World) (x : Numbered) → WasSent w x → WorldFact w → NumberedFact (past_of w.trace) x
sent_fact w x (inl a) f = found_among (NumberedFact (past_of w.trace)) x w.sent f.packets a
sent_fact w x (inr a) f = found_among (NumberedFact (past_of w.trace)) x w.underway f.underway a

passed_world : (k : ℕ) (w : World) → WorldFact w → WorldFact (passed k w)
passed_world k w f = record { numbered = f.numbered; disks = f.disks; views = f.views; packets = f.packets; underway = every_without (NumberedFact (past_of w.trace)) number_of k w.underway f.underway }

packets_told : (xs : List Numbered) → Every NotCommit (map packet_record xs)
packets_told xs = every_map NotCommit packet_record xs (λ x. tt)

pub both_kept : (c : Config) → Kept c Both
both_kept c = record {
  steps = λ n s e v w here own g. (
    good.steps n s e v w here own g.0,
    acts_fact n s v (step c s (links_of w s) v e) w here
        (λ h f. step_fact (DeedsOf w.trace s) (DeedsOf w.trace s) c s (past_of w.trace) (links_of w s) v e h (own_fact (past_of w.trace) e own) (own_names (DeedsOf w.trace s) e own) (g.0.views s v here) (f.views s v here)) g.1,
  );
  receives = λ n x v w here sent g. (good.receives n x v w here sent g.0, received n x v w here sent g);
  passes = λ k w g. (good.passes k w g.0, λ h. passed_world k w (g.1 h));
  drops = λ k w g. (good.drops k w g.0, λ h. (let f : WorldFact (passed k w) = passed_world k w (g.1 h) in record { numbered = f.numbered; disks = f.disks; views = f.views; packets = f.packets; underway = f.underway }));
  recuts = λ xs w g. (good.recuts xs w g.0, λ h. (let f : WorldFact w = g.1 h in record { numbered = f.numbered; disks = f.disks; views = f.views; packets = f.packets; underway = f.underway }));
  arming = λ a w g. (good.arming a w g.0, λ h. (let f : WorldFact w = g.1 h in record { numbered = f.numbered; disks = f.disks; views = f.views; packets = f.packets; underway = f.underway }));
  voiding = λ n w g. (good.voiding n w g.0, told_fact n (Shown says.Void ∷ []) w (tt, tt) g.1);
  budgets = λ n w g. (good.budgets n w g.0, told_fact n (Shown says.Budget ∷ []) w (tt, tt) g.1);
  pending = λ n w g. (good.pending n w g.0, told_fact n (map packet_record w.underway) w (packets_told w.underway) g.1);
  stopping = λ n s v w here g. (good.stopping n s v w here g.0, stops_fact n s (Running v) (disk_of v) (Shown (says.Stopped s cause.Asked) ∷ []) w here refl (tt, tt) g.1);
  booting = λ n s d w here g. (good.booting n s d w here g.0, as_fact n s d (boots (script_of w s) d) w here (boots_copies (script_of w s) d) g.1);
}
  where
    good : Kept c Good
    good = good_kept c

    received : (n : ℕ) (x : Numbered) (v : SiteView) (w : World) → place_at w x.packet.to ≡ Some (Running v) → WasSent w x → Both w → WhereAgreed (acts n x.packet.to v (step c x.packet.to (links_of (passed x.number w) x.packet.to) v (Receives x.packet)) (passed x.number w))
    received n x v w here sent g =
        acts_fact n x.packet.to v (step c x.packet.to (links_of (passed x.number w) x.packet.to) v (Receives x.packet)) (passed x.number w) here
        (λ h f. (let o : WorldFact w = g.1 h in step_fact (DeedsOf w.trace x.packet.to) (DeedsOf w.trace x.packet.from) c x.packet.to (past_of w.trace) (links_of (passed x.number w) x.packet.to) v (Receives x.packet) h (sent_fact w x sent o) (was_sent w x sent g.0) (g.0.views x.packet.to v here) (o.views x.packet.to v here)))
        (λ h. passed_world x.number w (g.1 h))

-- ---- the first world ----

formatted_fact : (c : Config) (s : ℕ) → Every (CopyFact []) (formatted c s)
formatted_fact c s = every_map (CopyFact []) (root_copy c) _ (λ g. record { root = refl; site = refl; number = refl; none = seen_none })

first_fact : (c : Config) (s : ℕ) (p : Place) → place_at (first_world c) s ≡ Some p → PlaceFact [] p
first_fact c = first_places c (λ s. PlaceFact []) (λ s own. running_fact [] (fresh 1 (formatted c s)) (record { copies = formatted_fact c s; pulls = tt; inside = refl }))

first_world_fact : (c : Config) → WorldFact (first_world c)
first_world_fact c = record {
  numbered = tt;
  disks = λ s p here. (first_fact c s p here).disk;
  views = λ s v here. (first_fact c s (Running v) here).view v refl;
  packets = tt;
  underway = tt;
}

pub first_vectors : (c : Config) → Both (first_world c)
first_vectors c = (first_good c, λ h. first_world_fact c)
