-- Every run: all that it tells comes as it may.
use Rattle.std.proofs.Common.{◌≡◌, ℕ, ◌+◌, ◌==◌, true, false, List, [], ◌∷◌, map, Option, Some, refl, subst, inl, inr}
use Rattle.std.specs.List.{list_any}
use Rattle.locus_ids.specs.declared.config.Config.{Config}
use Rattle.trace_book.specs.declared.call.Call.{Call}
use Rattle.trace_book.specs.declared.record.Record.TheVariants as says
use Rattle.schedule_lines.specs.Ranges.{fits_event}
use Rattle.schedule_lines.specs.declared.line.Line.{Line as LineWords}
use Rattle.schedule_lines.specs.declared.line.Line.TheVariants as line
use Rattle.schedule_lines.specs.declared.line.ScheduleLine.{ScheduleLine}
use Rattle.role_steps.specs.Views.{SiteView, Shown, Event, Calls, Receives, Ticks, Parts, Merges, GivesUp}
use Rattle.role_steps.specs.declared.users.WaitingCall.{WaitingCall}
use Rattle.role_steps.proofs.Sending.{every_map}
use Rattle.the_run.specs.Disks.{boots}
use Rattle.the_run.specs.Kept.{WasSent}
use Rattle.the_run.specs.Runs.{is_busy, packet_record, run_in}
use Rattle.the_run.specs.Steps.{step}
use Rattle.the_run.specs.Worlds.{World, Place, Running, Numbered, place_at, links_of, script_of, acts, passed, loses, number_of, fresh, formatted, first_world}
use Rattle.the_run.proofs.InsideSync.{every_without}
use Rattle.row_laws.specs.ByLine.{IsLine, Gives, KeptIn}
use Rattle.row_laws.specs.Voids.{LinesFit}
use Rattle.row_laws.proofs.ByLine.{every_line}
use Rattle.site_laws.proofs.Vectors.Held.{boots_copies}
use Rattle.wire_messages.specs.declared.body.Body.{Body}
use Rattle.wire_messages.specs.declared.body.Body.TheVariants as body
use Rattle.wire_messages.specs.declared.packet.Packet.{Packet}
use Rattle.role_steps.specs.declared.rounds.InEpoch.{InEpoch}
use Rattle.tree_laws.specs.Packets.{PacketFact}
use Rattle.site_laws.proofs.of_run_laws.Walks.FirstWorld.{first_places, first_views}
use Rattle.store_laws.specs.OneTree.Places.{OutsideFact, PlaceFact, NumberedFact, WorldFact}
use Rattle.store_laws.specs.OneTree.Rest.{IsRest}
use Rattle.store_laws.specs.OneTree.Roles.{EventFact, MayCall, RolesDo}
use Rattle.store_laws.specs.OneTree.Wants.{Arrives, BodyAsked, DeltaOf, IsAsked, IsTidy}
use Rattle.store_laws.proofs.OneTree.Frames.{first_users}
use Rattle.store_laws.proofs.OneTree.Staying.{Stays}
use Rattle.store_laws.proofs.OneTree.Cuts.{step_writes}
use Rattle.store_laws.proofs.OneTree.Rising.{every_among}
use Rattle.store_laws.proofs.OneTree.Steps.{step_fine}
use Rattle.store_laws.proofs.OneTree.WantsSteps.{came_of, step_wants}
use Rattle.store_laws.proofs.OneTree.WantsWorlds.{CameAsked, NumberedAsked, step_looks}
use Rattle.store_laws.proofs.OneTree.Worlds.{Holds, acts_holds, stop_holds, boots_hold, says_holds}

-- ---- packets that pass ----

pub pass_holds : (c : Config) (k : ℕ) (w : World) → Holds c w → Holds c (passed k w)
pass_holds c k w g = λ r. (let f : WorldFact c w = g r in record { followed = f.followed; places = f.places; sent = f.sent; underway = every_without (NumberedFact c w.trace) number_of k w.underway f.underway; asked = record { tidy = f.asked.tidy; sent = f.asked.sent; underway = every_without (NumberedAsked c (place_at w) w.trace) number_of k w.underway f.asked.underway } })

drop_holds : (c : Config) (k : ℕ) (w : World) → Holds c w → Holds c (loses k w)
drop_holds c k w g = λ r. (let f : WorldFact c w = g r in record { followed = f.followed; places = f.places; sent = f.sent; underway = every_without (NumberedFact c w.trace) number_of k w.underway f.underway; asked = record { tidy = f.asked.tidy; sent = f.asked.sent; underway = every_without (NumberedAsked c (place_at w) w.trace) number_of k w.underway f.asked.underway } })

pub sent_fact : (c : Config) (w : World) (x : Numbered) → WorldFact c w → WasSent w x → PacketFact c w.trace x.packet
sent_fact c w x f (inl m) = every_among (NumberedFact c w.trace) x w.sent m f.sent
sent_fact c w x f (inr m) = every_among (NumberedFact c w.trace) x w.underway m f.underway

pub sent_asked : (c : Config) (w : World) (x : Numbered) → WorldFact c w → WasSent w x → IsAsked c (place_at w) w.trace x.packet
sent_asked c w x f (inl m) = every_among (NumberedAsked c (place_at w) w.trace) x w.sent m f.asked.sent
sent_asked c w x f (inr m) = every_among (NumberedAsked c (place_at w) w.trace) x w.underway m f.asked.underway

delta_of : (c : Config) (w : World) (p : Packet) (v : SiteView) (b : Body) → place_at w p.to ≡ Some (Running v) → BodyAsked c (place_at w) w.trace p b → (x : InEpoch) → v.epoch ≡ Some x → x.id ≡ p.epoch → DeltaOf c w.trace p.to v.pulls b
delta_of c w p v (body.Delta file wanted pages) here h x at is = record { own = h.0; asked = h.1 v here x at is; differ = h.2 }
delta_of c w p v _ here h x at is = tt

-- what was sent arrives at a site that runs with what it may say there
pub arrives_fact : (c : Config) (w : World) (x : Numbered) (v : SiteView) → WorldFact c w → WasSent w x → place_at w x.packet.to ≡ Some (Running v) → Arrives c w.trace x.packet v
arrives_fact c w x v f sent here = record { fact = sent_fact c w x f sent; deltas = delta_of c w x.packet v x.packet.body here (sent_asked c w x f sent) }

-- ---- a line that a site does ----

-- a call line names a process that waits for nothing, and words that a line may have
called : (c : Config) (lines : List ScheduleLine) (n s process site asked : ℕ) (words it : Call) (v : SiteView) (w : World) → LinesFit c lines → IsLine lines n (line.Call site asked it) → site ≡ s → asked ≡ process → it ≡ words → is_busy asked (place_at w site) ≡ false → place_at w s ≡ Some (Running v) → MayCall c s process words v.users
called c lines n s process site asked words it v w fit at a b e idle here = record {
  fits = subst (λ (k : ℕ). fits_event c.sites (line.Call k process words) ≡ true) a (subst (λ (k : ℕ). fits_event c.sites (line.Call site k words) ≡ true) b (subst (λ (x : Call). fits_event c.sites (line.Call site asked x) ≡ true) e (fit n (line.Call site asked it) at)));
  idle = subst (λ (k : ℕ). list_any (λ (x : WaitingCall). x.process == k) v.users.waiting ≡ false) b (subst (λ (o : Option Place). is_busy asked o ≡ false) here (subst (λ (k : ℕ). is_busy asked (place_at w k) ≡ false) a idle));
}

pub event_fact : (c : Config) (lines : List ScheduleLine) (n s : ℕ) (l : LineWords) (e : Event) (v : SiteView) (w : World) → LinesFit c lines → IsLine lines n l → Gives w l s e → place_at w s ≡ Some (Running v) → EventFact c w.trace s v e
event_fact c lines n s (line.Call site asked it) (Calls process words) v w fit at g here = called c lines n s process site asked words it v w fit at g.0 g.1 g.2 g.3 here
event_fact c lines n s (line.Tick site) Ticks v w fit at g here = tt
event_fact c lines n s (line.Part site) Parts v w fit at g here = tt
event_fact c lines n s (line.Merge site) Merges v w fit at g here = tt
event_fact c lines n s (line.GiveUp site) GivesUp v w fit at g here = tt
event_fact c lines n s _ _ v w fit at g here = absurd g

-- the packet that an event brings is asked
abbrev pub EventAsked : Config → World → Event → Type 0
EventAsked c w e = CameAsked c (place_at w) w.trace (came_of e)

pub does : (c : Config) → RolesDo c → Stays c → (n s : ℕ) (e : Event) (v : SiteView) (w : World) → place_at w s ≡ Some (Running v) → (IsRest c w.trace → EventFact c w.trace s v e) → (IsRest c w.trace → EventAsked c w e) → Holds c w → Holds c (acts n s v (step c s (links_of w s) v e) w)
does c roles stays n s e v w here fact asks g = acts_holds c roles stays n s v (step c s (links_of w s) v e) w here
    (λ old r f. step_fine c roles stays n s (links_of w s) w.trace v e old (f.places s (Running v) here) (fact old.rest) r)
    (λ old f. step_writes c roles n s (links_of w s) w.trace v e old (f.places s (Running v) here) (fact old.rest))
    (λ old r f. record {
      came = came_of e;
      asked = asks old.rest;
      wants = step_wants c roles stays n s (links_of w s) w.trace v e old (f.places s (Running v) here) (f.asked.tidy s v here) (fact old.rest) r;
      looks = step_looks c s (links_of w s) v e;
    }) g

-- a line of a site brings no packet
asks_none : (c : Config) (w : World) (l : LineWords) (s : ℕ) (e : Event) → Gives w l s e → EventAsked c w e
asks_none c w l s (Calls process words) g = tt
asks_none c w (line.Call site asked it) s (Receives p) g = absurd g
asks_none c w l s Ticks g = tt
asks_none c w l s Parts g = tt
asks_none c w l s Merges g = tt
asks_none c w l s GivesUp g = tt
asks_none c w _ s (Receives p) g = absurd g

-- a packet that was sent is received, in the world in which it is under way no more
pub receives_holds : (c : Config) → RolesDo c → Stays c → (n : ℕ) (x : Numbered) (v : SiteView) (w : World) → place_at w x.packet.to ≡ Some (Running v) → WasSent w x → Holds c w → Holds c (acts n x.packet.to v (step c x.packet.to (links_of w x.packet.to) v (Receives x.packet)) (passed x.number w))
receives_holds c roles stays n x v w here sent g = does c roles stays n x.packet.to (Receives x.packet) v (passed x.number w) here (λ r. (refl, arrives_fact c w x v (g r) sent here)) (λ r. (sent_fact c w x (g r) sent, sent_asked c w x (g r) sent)) (pass_holds c x.number w g)

-- ---- all lines ----

pub kept : (c : Config) (lines : List ScheduleLine) → LinesFit c lines → RolesDo c → Stays c → KeptIn c lines (λ n w. Holds c w)
kept c lines fit roles stays = record {
  begins = λ n w le q g. g;
  ticks = λ n most s v w at here g. does c roles stays n s Ticks v w here (λ r. tt) (λ r. tt) g;
  receives = λ n l x v w at d here sent g. receives_holds c roles stays n x v w here sent g;
  passes = λ n k w g. pass_holds c k w g;
  drops = λ n k w g. drop_holds c k w g;
  budgets = λ n most w at g. says_holds c roles stays n (Shown says.Budget ∷ []) w (tt, tt) g;
  voiding = λ n l w le at void g. says_holds c roles stays (n + 1) (Shown says.Void ∷ []) w (tt, tt) g;
  steps = λ n s l e v w le at gives here g. does c roles stays (n + 1) s e v w here (λ r. event_fact c lines (n + 1) s l e v w fit at gives here) (λ r. asks_none c w l s e gives) g;
  cutting = λ n one other w le at cut g r. (let f : WorldFact c w = g r in record { followed = f.followed; places = f.places; sent = f.sent; underway = f.underway; asked = record { tidy = f.asked.tidy; sent = f.asked.sent; underway = f.asked.underway } });
  mending = λ n one other w le at cut g r. (let f : WorldFact c w = g r in record { followed = f.followed; places = f.places; sent = f.sent; underway = f.underway; asked = record { tidy = f.asked.tidy; sent = f.asked.sent; underway = f.asked.underway } });
  arming = λ n l a w le at it g r. (let f : WorldFact c w = g r in record { followed = f.followed; places = f.places; sent = f.sent; underway = f.underway; asked = record { tidy = f.asked.tidy; sent = f.asked.sent; underway = f.asked.underway } });
  pending = λ n w le at g. says_holds c roles stays (n + 1) (map packet_record w.underway) w (every_map _ packet_record w.underway (λ x. tt)) g;
  stopping = λ n s v w le at here g. stop_holds c roles stays (n + 1) s v w here g;
  booting = λ n s d w le at here g. boots_hold c roles stays (n + 1) s d (boots (script_of w s) d) w here (boots_copies (script_of w s) d) g;
}

-- ---- the first world ----

first_fact : (c : Config) → RolesDo c → (s : ℕ) → OutsideFact c s [] (fresh 1 (formatted c s))
first_fact c roles s = record {
  up = refl;
  outside = refl;
  users = record { always = first_users c s; idle = record { none_waits = tt; has_none = refl }; calls = refl; instances = refl; hopeless = refl; descriptors_ascend = tt };
  copies = roles.stores.first s;
  instances = refl;
  steps = refl;
  tables = refl;
  pulls = refl;
}

pub first_holds : (c : Config) → RolesDo c → Holds c (first_world c)
first_holds c roles r = record {
  followed = tt;
  places = first_places c (λ s. PlaceFact c s []) (λ s own. first_fact c roles s);
  sent = tt;
  underway = tt;
  asked = record { tidy = first_views c (λ s. IsTidy) (λ s own. record { ascends = tt; looks = tt }); sent = tt; underway = tt };
}

-- ---- every run ----

pub run_holds : (c : Config) (lines : List ScheduleLine) → LinesFit c lines → RolesDo c → Stays c → IsRest c (run_in c lines).trace → WorldFact c (run_in c lines)
run_holds c lines fit roles stays r = every_line c lines (λ n w. Holds c w) (kept c lines fit roles stays) (first_holds c roles) r
