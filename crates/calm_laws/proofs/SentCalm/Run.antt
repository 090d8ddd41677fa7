-- In every run what a synchronization site has answered stands in its tables, as long as it is in the epoch.
use Rattle.std.proofs.Common.{◌≡◌, ◌≢◌, ℕ, ◌+◌, ◌≤◌, ◌==◌, nat_lt, ◌⊎◌, Bool, true, false, ◌||◌, ◌&&◌, List, [], ◌∷◌, map, Option, Some, None, refl, sym, ◌∙◌, ap, subst, inl, inr, arith}
use Rattle.std.proofs.lemmas.Bool.Decides.{nat_tests}
use Rattle.role_steps.proofs.of_plain_facts.Options.{none_some, some_same}
use Rattle.role_steps.proofs.of_plain_facts.Tests.{both_true, not_false}
use Rattle.locus_ids.specs.declared.config.Config.{Config}
use Rattle.locus_ids.specs.declared.ids.EpochId.{EpochId}
use Rattle.locus_ids.specs.declared.ids.FileId.{FileId}
use Rattle.locus_ids.specs.declared.ids.Serial.{Serial}
use Rattle.schedule_lines.specs.declared.line.ScheduleLine.{ScheduleLine}
use Rattle.trace_book.specs.Same.{same_epoch}
use Rattle.trace_book.specs.declared.record.Record.TheVariants as says
use Rattle.trace_book.specs.declared.record.StopCause.TheVariants as cause
use Rattle.wire_messages.specs.Bodies.{kind_number}
use Rattle.wire_messages.specs.declared.body.Body.{Body}
use Rattle.wire_messages.specs.declared.body.Body.TheVariants as body
use Rattle.wire_messages.specs.declared.body.Granted.{Granted}
use Rattle.wire_messages.specs.declared.body.Granted.TheVariants as granted
use Rattle.wire_messages.specs.declared.packet.Packet.{Packet}
use Rattle.role_steps.specs.Adoption.{table_group}
use Rattle.role_steps.specs.Own.{Every, IsOwn as IsOwnPacket}
use Rattle.role_steps.specs.Views.{SiteView, Told, Shown, Outcome, Event, Calls, Receives, Ticks, Parts, Merges, GivesUp, boot_in, serial_key}
use Rattle.role_steps.specs.declared.rounds.InEpoch.{InEpoch}
use Rattle.role_steps.specs.declared.synchronizing.SyncTable.{SyncTable}
use Rattle.role_steps.specs.declared.users.Asking.{Asking}
use Rattle.role_steps.specs.declared.users.Asking.TheVariants as asking
use Rattle.role_steps.specs.declared.users.UserInstance.{UserInstance}
use Rattle.role_steps.specs.declared.users.WaitingCall.{WaitingCall}
use Rattle.role_steps.proofs.Sending.{every_append}
use Rattle.the_run.specs.Disks.{Disk, Booted, Whole, CutOff, boots, cut_disk}
use Rattle.the_run.specs.Kept.{Among, WasSent, IsOwn, Kept}
use Rattle.the_run.specs.Laws.{boot_on}
use Rattle.the_run.specs.Runs.{boots_as, packet_record, run_in}
use Rattle.the_run.specs.Steps.{from_user, is_dropped, is_forming, is_framed, step}
use Rattle.the_run.specs.Worlds.{World, Place, Running, Stopped, Numbered, Line, number_of, told_onto, place_at, links_of, script_of, happened, numbered_from, disk_of, puts, arms, passed, stops_with, cut_told, cause_of, acts, fresh, formatted, first_world}
use Rattle.the_run.proofs.Boots.{at_each, puts_rises, Reached, boots_reached, acts_cases, every_newest, every_numbered, every_weaker}
use Rattle.the_run.proofs.Events.{happened_keeps, puts_other, puts_same}
use Rattle.the_run.proofs.InsideSync.{every_without}
use Rattle.the_run.proofs.Runs.{every_run}
use Rattle.the_run.proofs.StepSends.{step_sends}
use Rattle.run_laws.proofs.Run.{first_good, found_among}
use Rattle.store_laws.specs.of_site_laws.Vectors.Written.{past_of}
use Rattle.store_laws.specs.of_site_laws.Locks.Going.{BegunAt, WasBegunAt}
use Rattle.store_laws.specs.of_site_laws.Locks.Facts.{InEpochFact, InstanceFact}
use Rattle.store_laws.proofs.of_site_laws.Locks.FactsRun as begins
use Rattle.run_laws.specs.Epochs.Known.{Places, boots_on, FormFact, Good}
use Rattle.run_laws.proofs.Epochs.Handlers.{same_epoch_eq}
use Rattle.run_laws.proofs.Epochs.Run as epochs
use Rattle.store_laws.proofs.OneTree.Rising.{Rising, every_among}
use Rattle.run_laws.proofs.Walks.FirstWorld.{first_views}
use Rattle.calm_laws.specs.SentCalm.Standing.{AskedStands, BodyStands, GrantStands, IsGranted, IsReported, IsSyncedBy, InstancesStand, PacketsStand, ReportsStand, StandsAt, WithGrant, WithReport}
use Rattle.calm_laws.proofs.SentCalm.Closing.{IsBegun}
use Rattle.calm_laws.proofs.SentCalm.Sites.{Brings, HasBegun}
use Rattle.calm_laws.proofs.SentCalm.Steps.{EventFact, NumberFact, step_fine}
use Rattle.calm_laws.proofs.SentCalm.Tables.{LooksAnswerless}
use Rattle.calm_laws.proofs.SentCalm.Users.{AllHeld, AsksHeld, Grants, IsHeld, WaitsHeld}
use Rattle.calm_laws.proofs.SentCalm.Views.{Known, In, ReportsIn, Ever, Fine, SentStands, BodySent, GrantSent, goes_itself}
use Rattle.calm_laws.proofs.SentCalm.Lasting.{EverAt, GrantFact, BodyFact, PacketFact, NumberedFact, ReportKnown, GrantKnown, ViewFact, Stand, WentOn, Later, More, told_more, packets_later, heard_later, view_later, same_later}

-- ---- one event ----

happened_stand : (c : Config) (n : ℕ) (ps : List Packet) (told : List Told) (change : World → World) (w : World) → Later (place_at w) (place_at (change w)) → ((s : ℕ) (v : SiteView) → place_at (change w) s ≡ Some (Running v) → ViewFact c (place_at (change w)) s v) →
    (change w).sent ≡ w.sent → (change w).underway ≡ w.underway → Every (PacketFact c (told_onto n told w.trace) (place_at (change w))) ps → Stand c w → Stand c (happened n ps told change w)
happened_stand c n ps told change w later views sent underway new g =
    happened_keeps (Stand c) n ps told change w g
    (λ l. record { packets = g.packets; underway = g.underway; views = g.views })
    (λ k b t. record {
      packets = every_newest F (numbered_from (w.packets + 1) ps) (change w).sent added (subst (λ (xs : List Numbered). Every F xs) (sym sent) (packets_later c w.trace (told_onto n told w.trace) (place_at w) (place_at (change w)) w.sent more later g.packets));
      underway = every_append F (change w).underway (numbered_from (w.packets + 1) ps) (subst (λ (xs : List Numbered). Every F xs) (sym underway) (packets_later c w.trace (told_onto n told w.trace) (place_at w) (place_at (change w)) w.underway more later g.underway)) added;
      views = views;
    })
  where
    F : Numbered → Type 0
    F = NumberedFact c (told_onto n told w.trace) (place_at (change w))

    more : More w.trace (told_onto n told w.trace)
    more = λ P h. told_more P n told w.trace h

    added : Every F (numbered_from (w.packets + 1) ps)
    added = every_numbered (PacketFact c (told_onto n told w.trace) (place_at (change w))) (w.packets + 1) ps new

told_stand : (c : Config) (n : ℕ) (told : List Told) (w : World) → Stand c w → Stand c (happened n [] told (λ now. now) w)
told_stand c n told w g = happened_stand c n [] told (λ now. now) w (same_later (place_at w)) g.views refl refl tt g

-- ---- one place ----

running_view : (v u : SiteView) → Running v ≡ Running u → v ≡ u
running_view v u e = cc

stopped_never : (d : Disk) (v : SiteView) → Stopped d ≡ Running v → ⊥
stopped_never d v e = cc

place_there : (s : ℕ) (new : Place) (w : World) (u : SiteView) → place_at (puts s new w) s ≡ Some (Running u) → new ≡ Running u
place_there s new w u h = some_same new (Running u) (sym (puts_same s new w) ∙ h)

puts_later : (s : ℕ) (old new : Place) (w : World) → place_at w s ≡ Some old → boot_on (Some old) ≤ boot_on (Some new) → ((v : SiteView) → new ≡ Running v → WentOn (place_at w) s v) → Later (place_at w) (place_at (puts s new w))
puts_later s old new w here le went = record {
  boots = puts_rises s old new w here le;
  went = λ t v h. at_each s t (WentOn (place_at w) t v)
      (λ e. subst (λ (y : ℕ). WentOn (place_at w) y v) e (went v (place_there s new w v (ap (place_at (puts s new w)) e ∙ h))))
      (λ ne. inl (v, sym (puts_other s t new w ne) ∙ h, refl, goes_itself v));
}

puts_views : (c : Config) (s : ℕ) (new : Place) (w : World) → Later (place_at w) (place_at (puts s new w)) → Stand c w → ((v : SiteView) → new ≡ Running v → ViewFact c (place_at (puts s new w)) s v) →
    (t : ℕ) (v : SiteView) → place_at (puts s new w) t ≡ Some (Running v) → ViewFact c (place_at (puts s new w)) t v
puts_views c s new w later g fine t v h = at_each s t (ViewFact c (place_at (puts s new w)) t v)
    (λ e. subst (λ (y : ℕ). ViewFact c (place_at (puts s new w)) y v) e (fine v (place_there s new w v (ap (place_at (puts s new w)) e ∙ h))))
    (λ ne. view_later c (place_at w) (place_at (puts s new w)) t v later (g.views t v (sym (puts_other s t new w ne) ∙ h)))

-- ---- a stop, a step and a boot ----

stops_stand : (c : Config) (n s : ℕ) (old : Place) (d : Disk) (told : List Told) (w : World) → place_at w s ≡ Some old → boot_on (Some old) ≤ d.label.boot → Stand c w → Stand c (happened n [] told (stops_with s d) w)
stops_stand c n s old d told w here le g = happened_stand c n [] told (stops_with s d) w later (puts_views c s (Stopped d) w later g (λ v e. absurd (stopped_never d v e))) refl refl tt g
  where
    later : Later (place_at w) (place_at (puts s (Stopped d) w))
    later = puts_later s old (Stopped d) w here le (λ v e. absurd (stopped_never d v e))

-- what the site has begun, by what was told
abbrev BegunBy : List Line → ℕ → EpochId → Serial → FileId → Type 0
BegunBy trace s id i file = WasBegunAt (past_of trace) s id (serial_key i) file

module _ (c : Config) (s boot : ℕ) (v : SiteView) (old new : List Line) (more : More old new) (now : Places) (some : 1 ≤ boot) (here : now s ≡ Some (Running v)) (is : v.boot ≡ boot) where
  -- what stands in the view of a site, does at the site
  stands_here : (F : InEpoch → List SyncTable → Type 0) (p : Packet) → IsOwnPacket s boot p → Ever F p.epoch v → EverAt now p.from p.from_boot F p.epoch
  stands_here F p own k = subst (λ (t : ℕ). EverAt now t p.from_boot F p.epoch) (sym own.site) (subst (λ (b : ℕ). EverAt now s b F p.epoch) (sym own.number) (record {
    some = some;
    had = (let a : boots_on now s ≡ v.boot = ap boot_on here in omega (arith, a, is));
    ever = λ u there same. subst (λ (y : SiteView). Ever F p.epoch y) (running_view v u (some_same (Running v) (Running u) (sym here ∙ there))) k;
  }))

  grant_here : (p : Packet) (serial : ℕ) (a : Granted) → IsOwnPacket s boot p → GrantSent v p serial a → GrantFact now p serial a
  grant_here p serial (granted.Open ss ino size stamp vector) own k = (k.0, stands_here (WithGrant k.0 (from_user p.to serial)) p own k.1)
  grant_here p serial (granted.No why) own k = tt

  body_here : (p : Packet) (b : Body) → IsOwnPacket s boot p → BodySent (BegunBy old s) c v p b → BodyFact c new now p b
  body_here p (body.ReportOk group) own k = stands_here (WithReport group p.to) p own k
  body_here p (body.OpenDone serial answer) own k = grant_here p serial answer own k
  body_here p (body.Closed inst made) own k = record {
    file = k.file;
    begun = more (BegunAt p.from p.epoch (serial_key inst) k.file) (subst (λ (t : ℕ). WasBegunAt (past_of old) t p.epoch (serial_key inst) k.file) (sym own.site) k.begun);
    to = stands_here (IsSyncedBy c k.file.group p.to) p own k.to;
  }
  body_here p _ own k = tt

  all_here : (ps : List Packet) → Every (IsOwnPacket s boot) ps → Every (SentStands (BegunBy old s) c v) ps → Every (PacketFact c new now) ps
  all_here [] own h = tt
  all_here (p ∷ ps) own h = (body_here p p.body own.0 h.0, all_here ps own.1 h.1)

acts_stand : (c : Config) (n s : ℕ) (v : SiteView) (o : Outcome SiteView) (w : World) → place_at w s ≡ Some (Running v) → Fine (ReportKnown (place_at w) s) (GrantKnown (place_at w) s) (BegunBy w.trace s) c s v o → o.view.boot ≡ v.boot → Every (IsOwnPacket s v.boot) o.sent → 1 ≤ v.boot → Stand c w → Stand c (acts n s v o w)
acts_stand c n s v o w here f boot_is own some g =
    acts_cases (Stand c) n s v o w
    (happened_stand c n o.sent o.told (λ now. puts s (Running o.view) now) w later views refl refl sent g)
    (λ a. happened_stand c n o.sent o.told (λ now. puts s (Running o.view) (arms a now)) w later views refl refl sent g)
    (λ d a e. stops_stand c n s (Running v) (cut_disk v.boot v.store d a.how a.left) (cut_told s v.store d a.how a.left) w here (omega arith) g)
  where
    now : Places
    now = place_at (puts s (Running o.view) w)

    later : Later (place_at w) now
    later = puts_later s (Running v) (Running o.view) w here (omega (arith, boot_is))
        (λ u e. subst (λ (y : SiteView). WentOn (place_at w) s y) (running_view o.view u e) (inl (v, here, sym boot_is, f.goes)))

    mine : ViewFact c now s o.view
    mine = record { orderly = f.orderly; heard = heard_later c (place_at w) now s o.view later f.heard }

    views : (t : ℕ) (u : SiteView) → now t ≡ Some (Running u) → ViewFact c now t u
    views = puts_views c s (Running o.view) w later g (λ u e. subst (λ (y : SiteView). ViewFact c now s y) (running_view o.view u e) mine)

    sent : Every (PacketFact c (told_onto n o.told w.trace) now) o.sent
    sent = all_here c s v.boot o.view w.trace (told_onto n o.told w.trace) (λ P h. told_more P n o.told w.trace h) now some (puts_same s (Running o.view) w) boot_is o.sent own f.sent

fresh_fact : (c : Config) (at : Places) (s : ℕ) (v : SiteView) → v.round ≡ None → v.epoch ≡ None → v.tables ≡ [] → v.users.instances ≡ [] → v.users.waiting ≡ [] → ViewFact c at s v
fresh_fact c at s v r e t i u = record {
  orderly = record {
    round = λ q h. absurd (none_some q (sym r ∙ h));
    inside = λ x h. absurd (none_some x (sym e ∙ h));
    rising = subst (λ (ts : List SyncTable). Rising (map table_group ts)) (sym t) tt;
    looks = subst (λ (ts : List SyncTable). Every LooksAnswerless ts) (sym t) tt;
  };
  heard = record {
    reports = subst (ReportsIn (ReportKnown at s) c s v.reports) (sym e) tt;
    instances = record {
      instances = subst (λ (is : List UserInstance). Every (IsHeld (In (GrantKnown at s) v.epoch)) is) (sym i) tt;
      waiting = subst (λ (xs : List WaitingCall). Every (WaitsHeld (In (GrantKnown at s) v.epoch)) xs) (sym u) tt;
    };
  };
}

boots_stand : (c : Config) (n s : ℕ) (d x : Disk) (change : World → World) (w : World) → place_at w s ≡ Some (Stopped d) → d.label.boot + 1 ≤ x.label.boot → place_at (change w) ≡ place_at (puts s (Running (fresh x.label.boot x.copies)) w) → (change w).sent ≡ w.sent → (change w).underway ≡ w.underway → Stand c w →
    Stand c (happened n [] (Shown (says.Up s x.label.boot) ∷ []) change w)
boots_stand c n s d x change w here above same sent underway g =
    happened_stand c n [] (Shown (says.Up s x.label.boot) ∷ []) change w (subst (λ (at : Places). Later (place_at w) at) (sym same) later)
    (subst (λ (at : Places). (t : ℕ) (u : SiteView) → at t ≡ Some (Running u) → ViewFact c at t u) (sym same) views) sent underway tt g
  where
    view : SiteView
    view = fresh x.label.boot x.copies

    later : Later (place_at w) (place_at (puts s (Running view) w))
    later = puts_later s (Stopped d) (Running view) w here (omega (arith, above)) (λ u e. inr (let a : boots_on (place_at w) s ≡ d.label.boot = ap boot_on here in let b : x.label.boot ≡ u.boot = ap (λ (y : SiteView). y.boot) (running_view view u e) in omega (arith, a, b, above)))

    views : (t : ℕ) (u : SiteView) → place_at (puts s (Running view) w) t ≡ Some (Running u) → ViewFact c (place_at (puts s (Running view) w)) t u
    views = puts_views c s (Running view) w later g (λ u e. subst (λ (y : SiteView). ViewFact c (place_at (puts s (Running view) w)) s y) (running_view view u e) (fresh_fact c _ s view refl refl refl refl refl))

as_stand : (c : Config) (n s : ℕ) (d : Disk) (b : Booted) (w : World) → place_at w s ≡ Some (Stopped d) → Reached d.label.boot (d.label.boot + 1) b → Stand c w → Stand c (boots_as n s b w)
as_stand c n s d (Whole x None) w here r g = boots_stand c n s d x _ w here r refl refl refl g
as_stand c n s d (Whole x (Some a)) w here r g = boots_stand c n s d x _ w here r refl refl refl g
as_stand c n s d (CutOff x how) w here r g = stops_stand c n s (Stopped d) x (Shown (says.Stopped s (cause_of how)) ∷ []) w here r g

-- ---- the packet of an event ----

framed : (p : Packet) (v : SiteView) (e : InEpoch) → is_dropped p v ≡ false → is_forming p ≡ false → v.epoch ≡ Some e → (e.id ≡ p.epoch) × (boot_in e.members.boot p.from ≡ p.from_boot)
framed p v e h forming here =
    let a : ((p.to_boot == v.boot) ≡ true) × ((is_forming p || is_framed p v.epoch) ≡ true) = both_true (p.to_boot == v.boot) (is_forming p || is_framed p v.epoch) (not_false ((p.to_boot == v.boot) && (is_forming p || is_framed p v.epoch)) h) in
    let b : is_framed p (Some e) ≡ true = subst (λ (o : Option InEpoch). is_framed p o ≡ true) here (subst (λ (x : Bool). (x || is_framed p v.epoch) ≡ true) forming a.1) in
    let k : (same_epoch e.id p.epoch ≡ true) × ((boot_in e.members.boot p.from == p.from_boot) ≡ true) = both_true (same_epoch e.id p.epoch) (boot_in e.members.boot p.from == p.from_boot) b in
    (same_epoch_eq e.id p.epoch k.0, equal (boot_in e.members.boot p.from) p.from_boot k.1)
  where
    equal : (a b : ℕ) → (a == b) ≡ true → a ≡ b
    equal a b q = grind (arith, nat_tests)

forming_not : (p : Packet) (x : Body) → p.body ≡ x → nat_lt (kind_number x) 6 ≡ false → is_forming p ≡ false
forming_not p x q h = subst (λ (y : Body). nat_lt (kind_number y) 6 ≡ false) (sym q) h

-- the packet comes from a member, in the epoch of its receiver
by_member : (at : Places) (p : Packet) (e : InEpoch) (F : InEpoch → List SyncTable → Type 0) → (e.id ≡ p.epoch) × (boot_in e.members.boot p.from ≡ p.from_boot) → EverAt at p.from p.from_boot F p.epoch → EverAt at p.from (boot_in e.members.boot p.from) F e.id
by_member at p e F k h = subst (λ (b : ℕ). EverAt at p.from b F e.id) (sym k.1) (subst (λ (id : EpochId). EverAt at p.from p.from_boot F id) (sym k.0) h)

grant_brought : (at : Places) (p : Packet) (e : InEpoch) (serial : ℕ) (a : Granted) → (e.id ≡ p.epoch) × (boot_in e.members.boot p.from ≡ p.from_boot) → GrantFact at p serial a → Grants (In (GrantKnown at p.to) (Some e)) serial a
grant_brought at p e serial (granted.Open ss ino size stamp vector) k h = record { by = p.from; group = h.0; ever = by_member at p e (WithGrant h.0 (from_user p.to serial)) k h.1 }
grant_brought at p e serial (granted.No why) k h = tt

brought : (c : Config) (trace : List Line) (at : Places) (p : Packet) (v : SiteView) (e : InEpoch) (b : Body) → p.body ≡ b → is_dropped p v ≡ false → v.epoch ≡ Some e → BodyFact c trace at p b → Brings (ReportKnown at p.to) (GrantKnown at p.to) e b
brought c trace at p v e (body.ReportOk group) is taken here h = record { to = p.from; ever = by_member at p e (WithReport group p.to) (framed p v e taken (forming_not p (body.ReportOk group) is refl) here) h }
brought c trace at p v e (body.OpenDone serial answer) is taken here h = grant_brought at p e serial answer (framed p v e taken (forming_not p (body.OpenDone serial answer) is refl) here) h
brought c trace at p v e _ is taken here h = tt

number_fact : (bs : ℕ → ℕ) (p : Packet) (b : Body) → FormFact bs p b → NumberFact p.epoch b
number_fact bs p (body.Refuse theirs) h = h
number_fact bs p _ h = tt

-- ---- every event and change ----

pub record Both (c : Config) (w : World) : Type 0 where
  pub epochs : Good w
  pub begun : begins.Both w
  pub stand : Stand c w

was_sent : (c : Config) (w : World) (x : Numbered) → WasSent w x → Stand c w → NumberedFact c w.trace (place_at w) x
was_sent c w x (inl a) g = found_among (NumberedFact c w.trace (place_at w)) x w.sent g.packets a
was_sent c w x (inr a) g = found_among (NumberedFact c w.trace (place_at w)) x w.underway g.underway a

own_event : (R S : Known) (v : SiteView) (e : Event) → IsOwn e → EventFact R S v e
own_event R S v (Calls process words) h = tt
own_event R S v (Receives p) h = absurd h
own_event R S v Ticks h = tt
own_event R S v Parts h = tt
own_event R S v Merges h = tt
own_event R S v GivesUp h = tt

passed_stand : (c : Config) (k : ℕ) (w : World) → Stand c w → Stand c (passed k w)
passed_stand c k w g = record { packets = g.packets; underway = every_without (NumberedFact c w.trace (place_at w)) number_of k w.underway g.underway; views = g.views }

steps_stand : (c : Config) (n s : ℕ) (e : Event) (v : SiteView) (w : World) → place_at w s ≡ Some (Running v) → EventFact (ReportKnown (place_at w) s) (GrantKnown (place_at w) s) v e → HasBegun (BegunBy w.trace s) v → 1 ≤ v.boot → Stand c w → Stand c (acts n s v (step c s (links_of w s) v e) w)
steps_stand c n s e v w here fact begun some g =
    let k : ViewFact c (place_at w) s v = g.views s v here in
    acts_stand c n s v (step c s (links_of w s) v e) w here (step_fine (ReportKnown (place_at w) s) (GrantKnown (place_at w) s) (BegunBy w.trace s) c s (links_of w s) v e fact begun k.orderly k.heard)
    (step_sends c s v.boot (links_of w s) v e refl).view (step_sends c s v.boot (links_of w s) v e refl).sent some g

-- what a storage site has it has begun
has_begun : (w : World) (s : ℕ) (v : SiteView) → place_at w s ≡ Some (Running v) → begins.Both w → HasBegun (BegunBy w.trace s) v
has_begun w s v here g e inside = every_weaker (InstanceFact (past_of w.trace) s e.id) (IsBegun (BegunBy w.trace s) e.id) v.store.instances (λ i k. k.begun)
    (subst (InEpochFact (past_of w.trace) s v) inside (g.1.views s v here).inside).0

pub both_kept : (c : Config) → Kept c (Both c)
both_kept c = record {
  steps = λ n s e v w here own g. record {
    epochs = (epochs.good_kept c).steps n s e v w here own g.epochs;
    begun = (begins.both_kept c).steps n s e v w here own g.begun;
    stand = steps_stand c n s e v w here (own_event (ReportKnown (place_at w) s) (GrantKnown (place_at w) s) v e own) (has_begun w s v here g.begun) (g.epochs.views s v here).booted g.stand;
  };
  receives = λ n x v w here sent g. record {
    epochs = (epochs.good_kept c).receives n x v w here sent g.epochs;
    begun = (begins.both_kept c).receives n x v w here sent g.begun;
    stand = steps_stand c n x.packet.to (Receives x.packet) v (passed x.number w) here
        (number_fact (boots_on (place_at w)) x.packet x.packet.body (epochs.was_sent w x sent g.epochs).1, λ taken e inside. brought c w.trace (place_at w) x.packet v e x.packet.body refl taken inside (was_sent c w x sent g.stand))
        (has_begun w x.packet.to v here g.begun) (g.epochs.views x.packet.to v here).booted (passed_stand c x.number w g.stand);
  };
  passes = λ k w g. record { epochs = (epochs.good_kept c).passes k w g.epochs; begun = (begins.both_kept c).passes k w g.begun; stand = passed_stand c k w g.stand };
  drops = λ k w g. record { epochs = (epochs.good_kept c).drops k w g.epochs; begun = (begins.both_kept c).drops k w g.begun; stand = (let p : Stand c (passed k w) = passed_stand c k w g.stand in record { packets = p.packets; underway = p.underway; views = p.views }) };
  recuts = λ xs w g. record { epochs = (epochs.good_kept c).recuts xs w g.epochs; begun = (begins.both_kept c).recuts xs w g.begun; stand = record { packets = g.stand.packets; underway = g.stand.underway; views = g.stand.views } };
  arming = λ a w g. record { epochs = (epochs.good_kept c).arming a w g.epochs; begun = (begins.both_kept c).arming a w g.begun; stand = record { packets = g.stand.packets; underway = g.stand.underway; views = g.stand.views } };
  voiding = λ n w g. record { epochs = (epochs.good_kept c).voiding n w g.epochs; begun = (begins.both_kept c).voiding n w g.begun; stand = told_stand c n (Shown says.Void ∷ []) w g.stand };
  budgets = λ n w g. record { epochs = (epochs.good_kept c).budgets n w g.epochs; begun = (begins.both_kept c).budgets n w g.begun; stand = told_stand c n (Shown says.Budget ∷ []) w g.stand };
  pending = λ n w g. record { epochs = (epochs.good_kept c).pending n w g.epochs; begun = (begins.both_kept c).pending n w g.begun; stand = told_stand c n (map packet_record w.underway) w g.stand };
  stopping = λ n s v w here g. record { epochs = (epochs.good_kept c).stopping n s v w here g.epochs; begun = (begins.both_kept c).stopping n s v w here g.begun; stand = stops_stand c n s (Running v) (disk_of v) (Shown (says.Stopped s cause.Asked) ∷ []) w here (omega arith) g.stand };
  booting = λ n s d w here g. record { epochs = (epochs.good_kept c).booting n s d w here g.epochs; begun = (begins.both_kept c).booting n s d w here g.begun; stand = as_stand c n s d (boots (script_of w s) d) w here (boots_reached (script_of w s) d) g.stand };
}

-- ---- the first world ----

pub first_both : (c : Config) → Both c (first_world c)
first_both c = record { epochs = epochs.first_good c; begun = (first_good c, begins.first_world_fact c); stand = record { packets = tt; underway = tt; views = first_views c (ViewFact c (place_at (first_world c))) (λ s own. fresh_fact c (place_at (first_world c)) s (fresh 1 (formatted c s)) refl refl refl refl refl) } }

-- ---- what it comes to ----

module _ (c : Config) (w : World) (g : Both c w) where
  stands_at : (s boot : ℕ) (F : InEpoch → List SyncTable → Type 0) (id : EpochId) → EverAt (place_at w) s boot F id → StandsAt (place_at w) s boot id F
  stands_at s boot F id k v e here same inside is = (k.ever v here same).holds e inside is

  grant_stands : (p : Packet) (serial : ℕ) (a : Granted) → GrantFact (place_at w) p serial a → GrantStands w p serial a
  grant_stands p serial (granted.Open ss ino size stamp vector) k = (k.0, stands_at p.from p.from_boot (WithGrant k.0 (from_user p.to serial)) p.epoch k.1)
  grant_stands p serial (granted.No why) k = tt

  body_stands : (p : Packet) (b : Body) → BodyFact c w.trace (place_at w) p b → BodyStands c w p b
  body_stands p (body.ReportOk group) k = stands_at p.from p.from_boot (WithReport group p.to) p.epoch k
  body_stands p (body.OpenDone serial answer) k = grant_stands p serial answer k
  body_stands p (body.Closed inst made) k = record { file = k.file; begun = k.begun; to = stands_at p.from p.from_boot (IsSyncedBy c k.file.group p.to) p.epoch k.to }
  body_stands p _ k = tt

  pub packets_stand_in : PacketsStand c w
  packets_stand_in x sent = body_stands x.packet x.packet.body (was_sent c w x sent g.stand)

  some_boot : (n : ℕ) → 1 ≤ n → n ≢ 0
  some_boot n le e = absurd (omega (arith, le, e))

  pub reports_stand_in : ReportsStand c w
  reports_stand_in s v e group here inside a = over (subst (ReportsIn (ReportKnown (place_at w) s) c s v.reports) inside (g.stand.views s v here).heard.reports group a)
    where
      over : Among group v.reports ⊎ ReportKnown (place_at w) s e group → Among group v.reports ⊎ IsReported (place_at w) e s group
      over (inl m) = inl m
      over (inr k) = inr (record { to = k.to; member = some_boot (boot_in e.members.boot k.to) k.ever.some; stands = stands_at k.to (boot_in e.members.boot k.to) (WithReport group s) e.id k.ever })

  granted_by : (e : InEpoch) (s serial : ℕ) → GrantKnown (place_at w) s e serial → IsGranted (place_at w) e s serial
  granted_by e s serial k = record { by = k.by; group = k.group; member = some_boot (boot_in e.members.boot k.by) k.ever.some; stands = stands_at k.by (boot_in e.members.boot k.by) (WithGrant k.group (from_user s serial)) e.id k.ever }

  asked_stands : (e : InEpoch) (s : ℕ) (a : Asking) → AsksHeld (In (GrantKnown (place_at w) s) (Some e)) a → AskedStands (place_at w) e s a
  asked_stands e s (asking.Op serial ss n o seen) k = granted_by e s serial k
  asked_stands e s (asking.Close serial ss) k = granted_by e s serial k
  asked_stands e s _ k = tt

  held_in : (s : ℕ) (v : SiteView) (e : InEpoch) → place_at w s ≡ Some (Running v) → v.epoch ≡ Some e → AllHeld (In (GrantKnown (place_at w) s) (Some e)) v.users
  held_in s v e here inside = subst (λ (o : Option InEpoch). AllHeld (In (GrantKnown (place_at w) s) o) v.users) inside (g.stand.views s v here).heard.instances

  pub instances_stand_in : InstancesStand w
  instances_stand_in = record {
    held = λ s v e i here inside a. granted_by e s i.serial (every_among (IsHeld (In (GrantKnown (place_at w) s) (Some e))) i v.users.instances a (held_in s v e here inside).instances);
    asked = λ s v e x here inside a. asked_stands e s x.asking (every_among (WaitsHeld (In (GrantKnown (place_at w) s) (Some e))) x v.users.waiting a (held_in s v e here inside).waiting);
  }

run_both : (c : Config) (lines : List ScheduleLine) → Both c (run_in c lines)
run_both c lines = every_run c (Both c) (both_kept c) (first_both c) lines

pub run_packets_stand : (c : Config) (lines : List ScheduleLine) → PacketsStand c (run_in c lines)
run_packets_stand c lines = packets_stand_in c (run_in c lines) (run_both c lines)

pub run_reports_stand : (c : Config) (lines : List ScheduleLine) → ReportsStand c (run_in c lines)
run_reports_stand c lines = reports_stand_in c (run_in c lines) (run_both c lines)

pub run_instances_stand : (c : Config) (lines : List ScheduleLine) → InstancesStand (run_in c lines)
run_instances_stand c lines = instances_stand_in c (run_in c lines) (run_both c lines)
