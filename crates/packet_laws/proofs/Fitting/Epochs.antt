-- Each new number of an epoch costs a packet or a record, and there is room for so many: so none is great.
use Rattle.std.proofs.Common.{◌≡◌, ◌≤◌, ℕ, ◌+◌, ◌⊎◌, true, false, List, [], length, Option, Some, None, refl, sym, ◌∙◌, ap, subst, inl, inr, arith}
use Rattle.std.proofs.lemmas.Bool.Decides.{nat_tests}
use Rattle.role_steps.proofs.of_plain_facts.Options.{none_some}
use Rattle.locus_ids.specs.declared.ids.EpochId.{EpochId}
use Rattle.locus_ids.specs.declared.sites.Links.{Links}
use Rattle.locus_ids.specs.declared.config.Config.{Config}
use Rattle.schedule_lines.specs.declared.line.ScheduleLine.{ScheduleLine}
use Rattle.trace_book.specs.Same.{same_epoch}
use Rattle.wire_messages.specs.declared.packet.Packet.{Packet}
use Rattle.wire_messages.specs.declared.body.Body.{Body}
use Rattle.wire_messages.specs.declared.body.Body.TheVariants as body
use Rattle.role_steps.specs.Own.{Every}
use Rattle.role_steps.specs.Tables.{total}
use Rattle.role_steps.specs.Views.{SiteView, Told, Outcome, Event, Calls, Receives, Ticks, Parts, Merges, GivesUp}
use Rattle.role_steps.specs.Epochs.{unanswered}
use Rattle.role_steps.specs.declared.rounds.InEpoch.{InEpoch}
use Rattle.role_steps.specs.declared.rounds.Round.{Round}
use Rattle.role_steps.proofs.Sending.{every_append}
use Rattle.the_run.specs.Disks.{Disk, Booted, Whole, CutOff, boots, cut_disk}
use Rattle.the_run.specs.Kept.{WasSent, IsOwn, Kept}
use Rattle.the_run.specs.Steps.{is_dropped, step}
use Rattle.the_run.specs.Worlds.{first_world, World, Place, Running, Stopped, Limit, Numbered, number_of, no_epoch, place_at, links_of, script_of, happened, happened_of, unless_over, limit_passed, numbered_from, told_size, packet_size, disk_of, puts, arms, passed, stops_with, cut_told, acts, fresh, formatted}
use Rattle.the_run.specs.Runs.{boots_as, run_in}
use Rattle.the_run.proofs.Boots.{at_each, acts_cases, every_newest, every_numbered, every_weaker}
use Rattle.the_run.proofs.Events.{puts_other}
use Rattle.the_run.proofs.InsideSync.{every_without}
use Rattle.the_run.proofs.Runs.{every_run}
use Rattle.run_laws.specs.Naming.{MayCome}
use Rattle.run_laws.proofs.Run.{found_among}
use Rattle.run_laws.specs.Epochs.Forming.{TableFormless}
use Rattle.run_laws.proofs.Epochs.Run.{running_view, stopped_never, place_there}
use Rattle.run_laws.proofs.Walks.FirstWorld.{first_views}
use Rattle.packet_laws.specs.Fitting.Fields.{IsSite, IsBoot}
use Rattle.packet_laws.proofs.Fitting.Places.{Placed, placed_kept, first_placed, own_place}
use Rattle.packet_laws.specs.Fitting.Epochs.{IsUpTo, NamesUpTo, PacketIsUpTo, NumberedIsUpTo, EpochsAreLow, NextEpochsAreLow}
use Rattle.packet_laws.proofs.Fitting.Forming.{Names, Named, Site, Fine, AreAbove, BeginsAgain, EventFact, step_fine}
use Rattle.packet_laws.proofs.Fitting.Costs.{cost, merge_cost, part_cost, refuse_cost}

-- ---- ids ----

-- the id is of a round up to this number, of a site and a boot of it
abbrev pub IdFits : ℕ → EpochId → Type 0
IdFits most id = IsUpTo most id × (IsSite id.site × IsBoot id.boot)

-- ---- greater bounds ----

id_more : (m n : ℕ) → m ≤ n → (id : EpochId) → IdFits m id → IdFits n id
id_more m n le id h = ((h.0.0, omega (arith, h.0.1, le)), h.1)

names_more : (m n : ℕ) → m ≤ n → (b : Body) → Names (IdFits m) b → Names (IdFits n) b
names_more m n le (body.Refuse theirs) h = id_more m n le theirs h
names_more m n le _ h = tt

pub packet_more : (m n : ℕ) → m ≤ n → (p : Packet) → Named (IdFits m) p → Named (IdFits n) p
packet_more m n le p h = (id_more m n le p.epoch h.0, names_more m n le p.body h.1)

site_more : (m n : ℕ) → m ≤ n → (v : SiteView) → Site (IdFits m) v → Site (IdFits n) v
site_more m n le v h = record { promised = by_case h.promised; round = λ r e. id_more m n le r.id (h.round r e); inside = λ e k. id_more m n le e.id (h.inside e k); tables = h.tables }
  where
    by_case : (v.promised ≡ no_epoch) ⊎ IdFits m v.promised → (v.promised ≡ no_epoch) ⊎ IdFits n v.promised
    by_case (inl e) = inl e
    by_case (inr k) = inr (id_more m n le v.promised k)

ids_above : (m : ℕ) → AreAbove (IdFits m)
ids_above m id h = (let k : 1 ≤ id.number = h.0.0 in grind (arith, nat_tests, k))

promised_most : (m : ℕ) (v : SiteView) → Site (IdFits m) v → v.promised.number ≤ m
promised_most m v h = by_case h.promised
  where
    by_case : (v.promised ≡ no_epoch) ⊎ IdFits m v.promised → v.promised.number ≤ m
    by_case (inl e) = let k : v.promised.number ≡ 0 = ap (λ (id : EpochId). id.number) e in omega (arith, k)
    by_case (inr k) = k.0.1

-- ---- an event, where the next number has room, or is not needed ----

-- an event that begins a round has room for its number
abbrev pub HasRoom : ℕ → ℕ → ℕ → SiteView → Event → Type 0
HasRoom m n me v (Receives p) = (theirs : EpochId) (r : Round) → p.body ≡ body.Refuse theirs → is_dropped p v ≡ false → v.round ≡ Some r → same_epoch r.id p.epoch ≡ true → m + 1 ≤ n
HasRoom m n me v Parts = (e : InEpoch) → v.epoch ≡ Some e → m + 1 ≤ n
HasRoom m n me v Merges = m + 1 ≤ n
HasRoom m n me v _ = Unit {0}

-- the packet that comes names such ids
abbrev pub Comes : ℕ → Event → Type 0
Comes m (Receives p) = Named (IdFits m) p
Comes m _ = Unit {0}

begins_again : (m n me : ℕ) (v : SiteView) (p : Packet) (x : Body) → IsSite me × IsBoot v.boot → p.body ≡ x → Names (IdFits m) x → ((theirs : EpochId) (r : Round) → p.body ≡ body.Refuse theirs → v.round ≡ Some r → same_epoch r.id p.epoch ≡ true → m + 1 ≤ n) → BeginsAgain (IdFits n) me v p.epoch x
begins_again m n me v p (body.Refuse theirs) own is known room = λ r here same. (let k : m + 1 ≤ n = room theirs r is here same in ((omega arith, omega (arith, k, known.0.1)), own))
begins_again m n me v p body.Poll own is known room = tt
begins_again m n me v p (body.Promise reach) own is known room = tt
begins_again m n me v p (body.Install members) own is known room = tt
begins_again m n me v p body.Joined own is known room = tt
begins_again m n me v p _ own is known room = tt

event_fact : (m n me : ℕ) (v : SiteView) (e : Event) → IsSite me × IsBoot v.boot → m ≤ n → Site (IdFits m) v → Comes m e → HasRoom m n me v e → EventFact (IdFits n) me v e
event_fact m n me v (Receives p) own le h k room = (id_more m n le p.epoch k.0, λ kept. begins_again m n me v p p.body own refl k.1 (λ theirs r is here same. room theirs r is kept here same))
event_fact m n me v Parts own le h k room = λ e here. (let g : m + 1 ≤ n = room e here in ((omega arith, omega (arith, g, promised_most m v h)), own))
event_fact m n me v Merges own le h k room = ((omega arith, omega (arith, room, promised_most m v h)), own)
event_fact m n me v (Calls process words) own le h k room = tt
event_fact m n me v Ticks own le h k room = tt
event_fact m n me v GivesUp own le h k room = tt

pub step_up_to : (c : Config) (m n me : ℕ) (links : Links) (v : SiteView) (e : Event) → IsSite me × IsBoot v.boot → m ≤ n → Site (IdFits m) v → Comes m e → HasRoom m n me v e → Fine (IdFits n) (step c me links v e)
step_up_to c m n me links v e own le h k room = step_fine (IdFits n) (ids_above n) me c links v e (site_more m n le v h) (event_fact m n me v e own le h k room)

-- ---- the world ----

-- no id has a greater number than there are packets and bytes of text
abbrev pub size : World → ℕ
size w = w.packets + w.text

abbrev pub Numbers : ℕ → Numbered → Type 0
Numbers m x = Named (IdFits m) x.packet

pub record Counted (w : World) : Type 0 where
  pub placed : Placed w
  pub sent : Every (Numbers (size w)) w.sent
  pub underway : Every (Numbers (size w)) w.underway
  pub views : (s : ℕ) (v : SiteView) → place_at w s ≡ Some (Running v) → Site (IdFits (size w)) v
  pub room : size w ≤ 134479872

numbers_more : (m n : ℕ) (xs : List Numbered) → m ≤ n → Every (Numbers m) xs → Every (Numbers n) xs
numbers_more m n xs le h = every_weaker (Numbers m) (Numbers n) xs (λ x. packet_more m n le x.packet) h

within : (packets bytes text : ℕ) → limit_passed packets bytes text ≡ None → packets + text ≤ 134479872
within packets bytes text none = grind (arith, nat_tests)

-- what an event counts, where its world is known
happened_counted : (n : ℕ) (ps : List Packet) (told : List Told) (change : World → World) (w : World) →
    ((s : ℕ) (v : SiteView) → place_at (change w) s ≡ Some (Running v) → Site (IdFits (size w + (length ps + total (told_size n) told))) v) →
    (change w).sent ≡ w.sent → (change w).underway ≡ w.underway → Every (Named (IdFits (size w + (length ps + total (told_size n) told)))) ps → Counted w → Placed (happened n ps told change w) → Counted (happened n ps told change w)
happened_counted n ps told change w views sent underway new g known = by_over w.over known
  where
    bytes : ℕ
    bytes = w.bytes + total packet_size ps

    text : ℕ
    text = w.text + total (told_size n) told

    now : ℕ
    now = (w.packets + length ps) + text

    old : ℕ
    old = size w + (length ps + total (told_size n) told)

    same : old ≤ now
    same = omega arith

    grows : size w ≤ now
    grows = omega arith

    added : Every (Numbers now) (numbered_from (w.packets + 1) ps)
    added = every_numbered (Named (IdFits now)) (w.packets + 1) ps (every_weaker (Named (IdFits old)) (Named (IdFits now)) ps (packet_more old now same) new)

    by_limit : (l : Option Limit) → limit_passed (w.packets + length ps) bytes text ≡ l → Placed (unless_over l n ps told change (w.packets + length ps) bytes text w) → Counted (unless_over l n ps told change (w.packets + length ps) bytes text w)
    by_limit (Some l) is k = record { placed = k; sent = g.sent; underway = g.underway; views = g.views; room = g.room }
    by_limit None is k = record {
      placed = k;
      sent = every_newest (Numbers now) (numbered_from (w.packets + 1) ps) (change w).sent added (subst (λ (xs : List Numbered). Every (Numbers now) xs) (sym sent) (numbers_more (size w) now w.sent grows g.sent));
      underway = every_append (Numbers now) (change w).underway (numbered_from (w.packets + 1) ps) (subst (λ (xs : List Numbered). Every (Numbers now) xs) (sym underway) (numbers_more (size w) now w.underway grows g.underway)) added;
      views = λ s v here. site_more old now same v (views s v here);
      room = within (w.packets + length ps) bytes text is;
    }

    by_over : (o : Option Limit) → Placed (happened_of o n ps told change w) → Counted (happened_of o n ps told change w)
    by_over (Some l) k = g
    by_over None k = by_limit (limit_passed (w.packets + length ps) bytes text) refl k

-- nobody comes to another place
still_counted : (n : ℕ) (told : List Told) (w : World) → Counted w → Placed (happened n [] told (λ now. now) w) → Counted (happened n [] told (λ now. now) w)
still_counted n told w g k = happened_counted n [] told (λ now. now) w (λ s v here. site_more (size w) _ (omega arith) v (g.views s v here)) refl refl tt g k

-- one site comes to this place
put_views : (s : ℕ) (p : Place) (w : World) (m : ℕ) → size w ≤ m → ((v : SiteView) → p ≡ Running v → Site (IdFits m) v) → Counted w → (t : ℕ) (u : SiteView) → place_at (puts s p w) t ≡ Some (Running u) → Site (IdFits m) u
put_views s p w m le mine g t u here = at_each s t (Site (IdFits m) u)
    (λ e. mine u (place_there s p w u (ap (place_at (puts s p w)) e ∙ here)))
    (λ ne. site_more (size w) m le u (g.views t u (sym (puts_other s t p w ne) ∙ here)))

stops_counted : (n s : ℕ) (d : Disk) (told : List Told) (w : World) → Counted w → Placed (happened n [] told (stops_with s d) w) → Counted (happened n [] told (stops_with s d) w)
stops_counted n s d told w g k = happened_counted n [] told (stops_with s d) w (put_views s (Stopped d) w _ (omega arith) (λ v e. absurd (stopped_never d v e)) g) refl refl tt g k

acts_counted : (n s : ℕ) (v : SiteView) (o : Outcome SiteView) (w : World) → Fine (IdFits (size w + cost n o)) o → Counted w → Placed (acts n s v o w) → Counted (acts n s v o w)
acts_counted n s v o w f g =
    acts_cases (λ (u : World). Placed u → Counted u) n s v o w
    (λ k. happened_counted n o.sent o.told (λ now. puts s (Running o.view) now) w views refl refl f.sent g k)
    (λ a k. happened_counted n o.sent o.told (λ now. puts s (Running o.view) (arms a now)) w views refl refl f.sent g k)
    (λ d a e k. stops_counted n s (cut_disk v.boot v.store d a.how a.left) (cut_told s v.store d a.how a.left) w g k)
  where
    views : (t : ℕ) (u : SiteView) → place_at (puts s (Running o.view) w) t ≡ Some (Running u) → Site (IdFits (size w + cost n o)) u
    views = put_views s (Running o.view) w (size w + cost n o) (omega arith) (λ u e. subst (λ (y : SiteView). Site (IdFits (size w + cost n o)) y) (running_view o.view u e) f.view) g

-- ---- each event ----

room_there : (c : Config) (n s : ℕ) (links : Links) (v : SiteView) (e : Event) (m : ℕ) → ((r : Round) → v.round ≡ Some r → unanswered r ≡ [] → ⊥) → HasRoom m (m + cost n (step c s links v e)) s v e
room_there c n s links v (Receives p) m missing = λ theirs r is kept here same. (let k : 1 ≤ cost n (step c s links v (Receives p)) = refuse_cost c n s links v p theirs r is kept here same (missing r here) in omega (arith, k))
room_there c n s links v Parts m missing = λ e here. (let k : 1 ≤ cost n (step c s links v Parts) = part_cost c n s links v e here in omega (arith, k))
room_there c n s links v Merges m missing = (let k : 1 ≤ cost n (step c s links v Merges) = merge_cost c n s links v in omega (arith, k))
room_there c n s links v (Calls process words) m missing = tt
room_there c n s links v Ticks m missing = tt
room_there c n s links v GivesUp m missing = tt

own_comes : (m : ℕ) (e : Event) → IsOwn e → Comes m e
own_comes m (Calls process words) h = tt
own_comes m (Receives p) h = absurd h
own_comes m Ticks h = tt
own_comes m Parts h = tt
own_comes m Merges h = tt
own_comes m GivesUp h = tt

steps_counted : (c : Config) (n s : ℕ) (e : Event) (v : SiteView) (w : World) → place_at w s ≡ Some (Running v) → Comes (size w) e → Counted w → Placed (acts n s v (step c s (links_of w s) v e) w) → Counted (acts n s v (step c s (links_of w s) v e) w)
steps_counted c n s e v w here k g known =
    acts_counted n s v (step c s (links_of w s) v e) w
    (step_up_to c (size w) (size w + cost n (step c s (links_of w s) v e)) s (links_of w s) v e (own_place w s v here g.placed) (omega arith) (g.views s v here) k (room_there c n s (links_of w s) v e (size w) (g.placed.known.views s v here).missing))
    g known

sent_named : (w : World) (x : Numbered) → WasSent w x → Counted w → Numbers (size w) x
sent_named w x (inl a) g = found_among (Numbers (size w)) x w.sent g.sent a
sent_named w x (inr a) g = found_among (Numbers (size w)) x w.underway g.underway a

passed_counted : (c : Config) (k : ℕ) (w : World) → Counted w → Counted (passed k w)
passed_counted c k w g = record { placed = (placed_kept c).passes k w g.placed; sent = g.sent; underway = every_without (Numbers (size w)) number_of k w.underway g.underway; views = g.views; room = g.room }

fresh_site : (m : ℕ) (v : SiteView) → v.promised ≡ no_epoch → v.round ≡ None → v.epoch ≡ None → Every TableFormless v.tables → Site (IdFits m) v
fresh_site m v p r e t = record { promised = inl p; round = λ x h. absurd (none_some x (sym r ∙ h)); inside = λ x h. absurd (none_some x (sym e ∙ h)); tables = t }

fresh_views : (s : ℕ) (x : Disk) (w : World) (m : ℕ) → size w ≤ m → Counted w → (t : ℕ) (u : SiteView) → place_at (puts s (Running (fresh x.label.boot x.copies)) w) t ≡ Some (Running u) → Site (IdFits m) u
fresh_views s x w m le g = put_views s (Running (fresh x.label.boot x.copies)) w m le (λ v e. subst (λ (y : SiteView). Site (IdFits m) y) (running_view (fresh x.label.boot x.copies) v e) (fresh_site m (fresh x.label.boot x.copies) refl refl refl tt)) g

boots_counted : (n s : ℕ) (b : Booted) (w : World) → Counted w → Placed (boots_as n s b w) → Counted (boots_as n s b w)
boots_counted n s (Whole x None) w g k = happened_counted n [] _ _ w (fresh_views s x w _ (omega arith) g) refl refl tt g k
boots_counted n s (Whole x (Some a)) w g k = happened_counted n [] _ _ w (fresh_views s x w _ (omega arith) g) refl refl tt g k
boots_counted n s (CutOff x how) w g k = stops_counted n s x _ w g k

pub counted_kept : (c : Config) → Kept c Counted
counted_kept c = record {
  steps = λ n s e v w here own g. steps_counted c n s e v w here (own_comes (size w) e own) g ((placed_kept c).steps n s e v w here own g.placed);
  receives = λ n x v w here sent g. steps_counted c n x.packet.to (Receives x.packet) v (passed x.number w) here (sent_named w x sent g) (passed_counted c x.number w g) ((placed_kept c).receives n x v w here sent g.placed);
  passes = λ k w g. passed_counted c k w g;
  drops = λ k w g. (let p : Counted (passed k w) = passed_counted c k w g in record { placed = (placed_kept c).drops k w g.placed; sent = p.sent; underway = p.underway; views = p.views; room = p.room });
  recuts = λ xs w g. record { placed = (placed_kept c).recuts xs w g.placed; sent = g.sent; underway = g.underway; views = g.views; room = g.room };
  arming = λ a w g. record { placed = (placed_kept c).arming a w g.placed; sent = g.sent; underway = g.underway; views = g.views; room = g.room };
  voiding = λ n w g. still_counted n _ w g ((placed_kept c).voiding n w g.placed);
  budgets = λ n w g. still_counted n _ w g ((placed_kept c).budgets n w g.placed);
  pending = λ n w g. still_counted n _ w g ((placed_kept c).pending n w g.placed);
  stopping = λ n s v w here g. stops_counted n s (disk_of v) _ w g ((placed_kept c).stopping n s v w here g.placed);
  booting = λ n s d w here g. boots_counted n s (boots (script_of w s) d) w g ((placed_kept c).booting n s d w here g.placed);
}

-- ---- the first world ----

pub first_counted : (c : Config) → Counted (first_world c)
first_counted c = record { placed = first_placed c; sent = tt; underway = tt; views = first_views c (λ s. Site (IdFits 0)) (λ s own. fresh_site 0 (fresh 1 (formatted c s)) refl refl refl tt); room = omega arith }

pub run_counted : (c : Config) (lines : List ScheduleLine) → Counted (run_in c lines)
run_counted c lines = every_run c Counted (counted_kept c) (first_counted c) lines

-- ---- the laws ----

packet_is : (m : ℕ) (p : Packet) → Named (IdFits m) p → PacketIsUpTo m p
packet_is m p h = (h.0.0, by_body p.body h.1)
  where
    by_body : (b : Body) → Names (IdFits m) b → NamesUpTo m b
    by_body (body.Refuse theirs) k = k.0
    by_body _ k = tt

pub epochs_low : (w : World) → Counted w → EpochsAreLow w
epochs_low w g =
    record {
      packets = every_weaker (Numbers (size w)) (NumberedIsUpTo 134479872) w.sent (λ x k. packet_is 134479872 x.packet (packet_more (size w) 134479872 g.room x.packet k)) g.sent;
      promised = λ s v here. (let k : v.promised.number ≤ size w = promised_most (size w) v (g.views s v here) in omega (arith, k, g.room));
    }

-- of each packet under way as well
pub named_low : (w : World) → Counted w → (x : Numbered) → WasSent w x → NumberedIsUpTo 134479872 x
named_low w g x sent = packet_is 134479872 x.packet (packet_more (size w) 134479872 g.room x.packet (sent_named w x sent g))

pub run_epochs_low : (c : Config) (lines : List ScheduleLine) → EpochsAreLow (run_in c lines)
run_epochs_low c lines = epochs_low (run_in c lines) (run_counted c lines)

pub come_named : (w : World) (e : Event) → Counted w → MayCome w e → Comes (size w) e
come_named w (Receives p) g m = subst (Named (IdFits (size w))) m.2 (sent_named w m.0 m.1 g)
come_named w (Calls process words) g m = tt
come_named w Ticks g m = tt
come_named w Parts g m = tt
come_named w Merges g m = tt
come_named w GivesUp g m = tt

pub one_room : (m n me : ℕ) (v : SiteView) (e : Event) → m + 1 ≤ n → HasRoom m n me v e
one_room m n me v (Receives p) h = λ theirs r is kept here same. h
one_room m n me v Parts h = λ e here. h
one_room m n me v Merges h = h
one_room m n me v (Calls process words) h = tt
one_room m n me v Ticks h = tt
one_room m n me v GivesUp h = tt

pub run_next_epochs : (c : Config) (lines : List ScheduleLine) → NextEpochsAreLow c (run_in c lines)
run_next_epochs c lines s links v e here may =
    let w : World = run_in c lines in
    let g : Counted w = run_counted c lines in
    let f : Fine (IdFits 134479873) (step c s links v e) = step_up_to c (size w) 134479873 s links v e (own_place w s v here g.placed) (omega (arith, g.room)) (g.views s v here) (come_named w e g may) (one_room (size w) 134479873 s v e (omega (arith, g.room))) in
    every_weaker (Named (IdFits 134479873)) (PacketIsUpTo 134479873) (step c s links v e).sent (packet_is 134479873) f.sent
