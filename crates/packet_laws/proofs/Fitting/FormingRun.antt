-- In every run, packets are of the format: those by which sites agree on an epoch as a whole, and of others what says from whom and to whom they are.
use Rattle.std.proofs.Common.{◌≡◌, ◌≤◌, ℕ, suc, ◌+◌, List, [], Some, None, refl, sym, ◌∙◌, ap, subst, inl, inr, arith}
use Rattle.role_steps.proofs.of_plain_facts.Options.{none_some}
use Rattle.locus_ids.specs.declared.ids.EpochId.{EpochId}
use Rattle.locus_ids.specs.declared.config.Config.{Config}
use Rattle.locus_ids.specs.Sizes.{sites_max}
use Rattle.schedule_lines.specs.declared.line.ScheduleLine.{ScheduleLine}
use Rattle.wire_fields.specs.Parts.{sites, numbers, epochs}
use Rattle.wire_fields.specs.Memberships.{members}
use Rattle.wire_fields.proofs.Members.{in_range}
use Rattle.wire_messages.specs.declared.packet.Packet.{Packet}
use Rattle.wire_messages.specs.declared.body.Body.{Body}
use Rattle.wire_messages.specs.declared.body.Body.TheVariants as body
use Rattle.wire_messages.specs.Bodies.{FitsBody}
use Rattle.wire_messages.specs.Packets.{FitsPacket}
use Rattle.role_steps.specs.Own.{Every, IsOwn as IsOwnPacket}
use Rattle.role_steps.specs.Views.{SiteView, Told, Outcome, Event, Calls, Receives, Ticks, Parts, Merges, GivesUp, boot_in}
use Rattle.role_steps.proofs.Sending.{every_append}
use Rattle.the_run.specs.Disks.{Disk, Booted, Whole, CutOff, boots, cut_disk}
use Rattle.the_run.specs.Laws.{boot_on, boot_number}
use Rattle.the_run.specs.Kept.{WasSent, IsOwn, Kept}
use Rattle.the_run.specs.Steps.{step}
use Rattle.the_run.specs.Worlds.{first_world, World, Place, Running, Stopped, Numbered, number_of, place_at, links_of, script_of, happened, numbered_from, disk_of, puts, arms, passed, stops_with, cut_told, acts, fresh, formatted}
use Rattle.the_run.specs.Runs.{boots_as, run_in}
use Rattle.the_run.proofs.Boots.{Reached, boots_reached, at_each, acts_cases, every_newest, every_numbered}
use Rattle.the_run.proofs.Events.{happened_keeps, puts_other}
use Rattle.the_run.proofs.InsideSync.{every_without}
use Rattle.the_run.proofs.Runs.{every_run}
use Rattle.the_run.proofs.StepSends.{step_sends}
use Rattle.run_laws.specs.Naming.{MayCome}
use Rattle.run_laws.proofs.Run.{found_among}
use Rattle.run_laws.specs.Epochs.Forming.{TableFormless}
use Rattle.run_laws.proofs.Epochs.Parts.{every_both}
use Rattle.run_laws.proofs.Epochs.Run.{running_view, stopped_never, place_there}
use Rattle.packet_fit.proofs.Boots.{boots_fit}
use Rattle.packet_fit.proofs.ShortBodies.{short}
use Rattle.run_laws.specs.Boots.{booted_number}
use Rattle.run_laws.proofs.Walks.FirstWorld.{first_views}
use Rattle.packet_laws.specs.Fitting.Fields.{IsSite, IsBoot, AreBoots, StartFits, EndFits, GoesBack, Agrees, FitsInPart, PacketsFitInPart, NextPacketsFit}
use Rattle.run_laws.proofs.Boots.{boots_most}
use Rattle.packet_laws.proofs.Fitting.Places.{Placed, low_boot, placed_kept, first_placed, own_place, links_low}
use Rattle.packet_laws.proofs.Fitting.Forming.{Names, Named, Fine as NamesFine}
use Rattle.packet_laws.proofs.Fitting.Meeting.{IsAddressed, TableMeets}
use Rattle.packet_laws.proofs.Fitting.Lists.{Forms, Formed, PacketComes, Comes, Site, Fine, step_fine}
use Rattle.packet_laws.proofs.Fitting.Epochs.{IdFits, packet_more, size, Numbers, Counted, run_counted, step_up_to, come_named, one_room}

-- ---- fields ----

pub site_fits : (s : ℕ) → IsSite s → sites.Fits s
site_fits s h = (in_range 1 sites_max s h.0 h.1, omega (arith, h.1))

pub number_fits : (n : ℕ) → 1 ≤ n → n ≤ 134479873 → numbers.Fits n
number_fits n low high = (in_range 1 4294967295 n low (omega (arith, high)), omega (arith, high))

pub boot_fits : (b : ℕ) → IsBoot b → numbers.Fits b
boot_fits b h = number_fits b h.0 (omega (arith, h.1))

pub epoch_fits : (id : EpochId) → IdFits 134479873 id → epochs.Fits id
epoch_fits id h = (number_fits id.number h.0.0 h.0.1, (site_fits id.site h.1.0, boot_fits id.boot h.1.1))

members_fit : (bs : List ℕ) → AreBoots bs → members.Fits (record { boot = bs })
members_fit bs h = boots_fit bs h.0 (λ k. let g : boot_in bs (suc k) ≤ 134217730 = h.1 (suc k) in omega (arith, g))

-- ---- a packet ----

start_fits : (p : Packet) → IsSite p.from → IsBoot p.from_boot → IdFits 134479873 p.epoch → StartFits p
start_fits p site boot id = record { from = site_fits p.from site; from_boot = boot_fits p.from_boot boot; epoch = epoch_fits p.epoch id }

whole_fits : (p : Packet) → StartFits p → IsAddressed p → FitsBody p.body → FitsPacket p
whole_fits p h to b = record { from = h.from; from_boot = h.from_boot; to = site_fits p.to to.0; to_boot = boot_fits p.to_boot to.1; epoch = h.epoch; body = b; short = short p.body b }

by_body : (p : Packet) (b : Body) → p.body ≡ b → StartFits p → Forms p b → Names (IdFits 134479873) b → Agrees b → FitsPacket p
by_body p body.Poll is h k n a = whole_fits p h k (subst FitsBody (sym is) tt)
by_body p (body.Promise reach) is h k n a = whole_fits p h k.0 (subst FitsBody (sym is) k.1)
by_body p (body.Refuse theirs) is h k n a = whole_fits p h k (subst FitsBody (sym is) (epoch_fits theirs n))
by_body p (body.Install m) is h k n a = whole_fits p h k.0 (subst FitsBody (sym is) (members_fit m.boot k.1))
by_body p body.Joined is h k n a = whole_fits p h k (subst FitsBody (sym is) tt)
by_body p (body.ReportOk group) is h k n a = whole_fits p h k.0 (subst FitsBody (sym is) k.1)
by_body p _ is h k n a = absurd a

end_fits : (p : Packet) → IsAddressed p → EndFits p
end_fits p h = record { to = site_fits p.to h.0; to_boot = boot_fits p.to_boot h.1 }

by_end : (p : Packet) (b : Body) → Forms p b → GoesBack b → EndFits p
by_end p (body.Report group copies) h k = end_fits p h
by_end p (body.ReportOk group) h k = end_fits p h.0
by_end p (body.Open serial call process request file how) h k = end_fits p h
by_end p (body.Opened inst answer) h k = end_fits p h
by_end p (body.Closed inst made) h k = end_fits p h
by_end p (body.ClosedOk inst) h k = end_fits p h
by_end p (body.Look call process request take file what) h k = end_fits p h
by_end p (body.Page file stamp page bytes) h k = end_fits p h
by_end p (body.Delta file wanted pages) h k = end_fits p h
by_end p (body.Have file stamp) h k = end_fits p h
by_end p _ h k = absurd k

packet_fits : (p : Packet) → PacketComes p → Named (IdFits 134479873) p → FitsInPart p
packet_fits p h n =
    let start : StartFits p = start_fits p h.0 h.1 n.0 in
    (start, by_end p p.body h.2, (λ a. by_body p p.body refl start h.2 n.1 a))

-- ---- the world ----

abbrev pub SentComes : Numbered → Type 0
SentComes x = PacketComes x.packet

pub record Good (w : World) : Type 0 where
  pub placed : Placed w
  pub sent : Every SentComes w.sent
  pub underway : Every SentComes w.underway
  pub views : (s : ℕ) (v : SiteView) → place_at w s ≡ Some (Running v) → Site v

-- what an event leaves of them, beside its places
record Rest (w : World) : Type 0 where
  sent : Every SentComes w.sent
  underway : Every SentComes w.underway
  views : (s : ℕ) (v : SiteView) → place_at w s ≡ Some (Running v) → Site v

rest_of : (w : World) → Good w → Rest w
rest_of w g = record { sent = g.sent; underway = g.underway; views = g.views }

all_good : (w : World) → Placed w → Rest w → Good w
all_good w p r = record { placed = p; sent = r.sent; underway = r.underway; views = r.views }

happened_rest : (n : ℕ) (ps : List Packet) (told : List Told) (change : World → World) (w : World) → ((s : ℕ) (v : SiteView) → place_at (change w) s ≡ Some (Running v) → Site v) → (change w).sent ≡ w.sent → (change w).underway ≡ w.underway → Every PacketComes ps → Good w → Rest (happened n ps told change w)
happened_rest n ps told change w views sent underway new g =
    happened_keeps Rest n ps told change w (rest_of w g)
    (λ l. record { sent = g.sent; underway = g.underway; views = g.views })
    (λ k b t. record {
      sent = every_newest SentComes (numbered_from (w.packets + 1) ps) (change w).sent added (subst (λ (xs : List Numbered). Every SentComes xs) (sym sent) g.sent);
      underway = every_append SentComes (change w).underway (numbered_from (w.packets + 1) ps) (subst (λ (xs : List Numbered). Every SentComes xs) (sym underway) g.underway) added;
      views = views;
    })
  where
    added : Every SentComes (numbered_from (w.packets + 1) ps)
    added = every_numbered PacketComes (w.packets + 1) ps new

still_rest : (n : ℕ) (told : List Told) (w : World) → Good w → Rest (happened n [] told (λ now. now) w)
still_rest n told w g = happened_rest n [] told (λ now. now) w g.views refl refl tt g

put_views : (s : ℕ) (p : Place) (w : World) → ((v : SiteView) → p ≡ Running v → Site v) → Good w → (t : ℕ) (u : SiteView) → place_at (puts s p w) t ≡ Some (Running u) → Site u
put_views s p w mine g t u here = at_each s t (Site u)
    (λ e. mine u (place_there s p w u (ap (place_at (puts s p w)) e ∙ here)))
    (λ ne. g.views t u (sym (puts_other s t p w ne) ∙ here))

stops_rest : (n s : ℕ) (d : Disk) (told : List Told) (w : World) → Good w → Rest (happened n [] told (stops_with s d) w)
stops_rest n s d told w g = happened_rest n [] told (stops_with s d) w (put_views s (Stopped d) w (λ v e. absurd (stopped_never d v e)) g) refl refl tt g

-- what a site sends says who it is
own_comes : (s boot : ℕ) (ps : List Packet) → IsSite s → IsBoot boot → Every Formed ps → Every (IsOwnPacket s boot) ps → Every PacketComes ps
own_comes s boot ps site own f o = every_both Formed (IsOwnPacket s boot) PacketComes ps (λ p k h. (subst IsSite (sym h.site) site, subst IsBoot (sym h.number) own, k)) f o

acts_rest : (n s : ℕ) (v : SiteView) (o : Outcome SiteView) (w : World) → Fine o → Every PacketComes o.sent → Good w → Rest (acts n s v o w)
acts_rest n s v o w f sent g =
    acts_cases Rest n s v o w
    (happened_rest n o.sent o.told (λ now. puts s (Running o.view) now) w views refl refl sent g)
    (λ a. happened_rest n o.sent o.told (λ now. puts s (Running o.view) (arms a now)) w views refl refl sent g)
    (λ d a e. stops_rest n s (cut_disk v.boot v.store d a.how a.left) (cut_told s v.store d a.how a.left) w g)
  where
    views : (t : ℕ) (u : SiteView) → place_at (puts s (Running o.view) w) t ≡ Some (Running u) → Site u
    views = put_views s (Running o.view) w (λ u e. subst Site (running_view o.view u e) f.view) g

step_comes : (c : Config) (s : ℕ) (e : Event) (v : SiteView) (w : World) → place_at w s ≡ Some (Running v) → Comes e → Good w → Fine (step c s (links_of w s) v e) × Every PacketComes (step c s (links_of w s) v e).sent
step_comes c s e v w here k g =
    let own : IsSite s × IsBoot v.boot = own_place w s v here g.placed in
    let f : Fine (step c s (links_of w s) v e) = step_fine s c (links_of w s) v e (λ t. links_low w s t g.placed) k (g.views s v here) in
    (f, own_comes s v.boot (step c s (links_of w s) v e).sent own.0 own.1 f.sent (step_sends c s v.boot (links_of w s) v e refl).sent)

own_event : (e : Event) → IsOwn e → Comes e
own_event (Calls process words) h = tt
own_event (Receives p) h = absurd h
own_event Ticks h = tt
own_event Parts h = tt
own_event Merges h = tt
own_event GivesUp h = tt

pub sent_comes : (w : World) (x : Numbered) → WasSent w x → Good w → PacketComes x.packet
sent_comes w x (inl a) g = found_among SentComes x w.sent g.sent a
sent_comes w x (inr a) g = found_among SentComes x w.underway g.underway a

passed_good : (c : Config) (k : ℕ) (w : World) → Good w → Good (passed k w)
passed_good c k w g = record { placed = (placed_kept c).passes k w g.placed; sent = g.sent; underway = every_without SentComes number_of k w.underway g.underway; views = g.views }

steps_rest : (c : Config) (n s : ℕ) (e : Event) (v : SiteView) (w : World) → place_at w s ≡ Some (Running v) → Comes e → Good w → Rest (acts n s v (step c s (links_of w s) v e) w)
steps_rest c n s e v w here k g = let f : Fine (step c s (links_of w s) v e) × Every PacketComes (step c s (links_of w s) v e).sent = step_comes c s e v w here k g in acts_rest n s v (step c s (links_of w s) v e) w f.0 f.1 g

fresh_site : (v : SiteView) → IsBoot v.boot → v.round ≡ None → v.epoch ≡ None → Every TableFormless v.tables → Every TableMeets v.tables → Site v
fresh_site v own r e t m = record { own = own; round = λ x h. absurd (none_some x (sym r ∙ h)); inside = λ x h. absurd (none_some x (sym e ∙ h)); tables = t; meets = m }

-- a boot raises the number by one
fresh_boot : (s : ℕ) (d x : Disk) (w : World) → place_at w s ≡ Some (Stopped d) → d.label.boot + 1 ≤ x.label.boot → x.label.boot ≤ d.label.boot + 1 → Good w → IsBoot x.label.boot
fresh_boot s d x w here low high g =
    let k : boot_number w s ≤ 134217729 = low_boot w s g.placed.low in
    let e : boot_number w s ≡ d.label.boot = ap boot_on here in
    (omega (arith, low), omega (arith, high, k, e))

fresh_views : (s : ℕ) (x : Disk) (w : World) → IsBoot x.label.boot → Good w → (t : ℕ) (u : SiteView) → place_at (puts s (Running (fresh x.label.boot x.copies)) w) t ≡ Some (Running u) → Site u
fresh_views s x w own g = put_views s (Running (fresh x.label.boot x.copies)) w (λ v e. subst Site (running_view (fresh x.label.boot x.copies) v e) (fresh_site (fresh x.label.boot x.copies) own refl refl tt tt)) g

boots_rest : (n s : ℕ) (d : Disk) (b : Booted) (w : World) → place_at w s ≡ Some (Stopped d) → Reached d.label.boot (d.label.boot + 1) b → booted_number b ≤ d.label.boot + 1 → Good w → Rest (boots_as n s b w)
boots_rest n s d (Whole x None) w here low high g = happened_rest n [] _ _ w (fresh_views s x w (fresh_boot s d x w here low high g) g) refl refl tt g
boots_rest n s d (Whole x (Some a)) w here low high g = happened_rest n [] _ _ w (fresh_views s x w (fresh_boot s d x w here low high g) g) refl refl tt g
boots_rest n s d (CutOff x how) w here low high g = stops_rest n s x _ w g

pub good_kept : (c : Config) → Kept c Good
good_kept c = record {
  steps = λ n s e v w here own g. all_good _ ((placed_kept c).steps n s e v w here own g.placed) (steps_rest c n s e v w here (own_event e own) g);
  receives = λ n x v w here sent g. all_good _ ((placed_kept c).receives n x v w here sent g.placed) (steps_rest c n x.packet.to (Receives x.packet) v (passed x.number w) here (sent_comes w x sent g) (passed_good c x.number w g));
  passes = λ k w g. passed_good c k w g;
  drops = λ k w g. (let p : Good (passed k w) = passed_good c k w g in record { placed = (placed_kept c).drops k w g.placed; sent = p.sent; underway = p.underway; views = p.views });
  recuts = λ xs w g. record { placed = (placed_kept c).recuts xs w g.placed; sent = g.sent; underway = g.underway; views = g.views };
  arming = λ a w g. record { placed = (placed_kept c).arming a w g.placed; sent = g.sent; underway = g.underway; views = g.views };
  voiding = λ n w g. all_good _ ((placed_kept c).voiding n w g.placed) (still_rest n _ w g);
  budgets = λ n w g. all_good _ ((placed_kept c).budgets n w g.placed) (still_rest n _ w g);
  pending = λ n w g. all_good _ ((placed_kept c).pending n w g.placed) (still_rest n _ w g);
  stopping = λ n s v w here g. all_good _ ((placed_kept c).stopping n s v w here g.placed) (stops_rest n s (disk_of v) _ w g);
  booting = λ n s d w here g. all_good _ ((placed_kept c).booting n s d w here g.placed) (boots_rest n s d (boots (script_of w s) d) w here (boots_reached (script_of w s) d) (boots_most (script_of w s) d) g);
}

-- ---- the first world ----

pub first_good : (c : Config) → Good (first_world c)
first_good c = record { placed = first_placed c; sent = tt; underway = tt; views = first_views c (λ s. Site) (λ s own. fresh_site (fresh 1 (formatted c s)) (omega arith, omega arith) refl refl tt tt) }

run_good : (c : Config) (lines : List ScheduleLine) → Good (run_in c lines)
run_good c lines = every_run c Good (good_kept c) (first_good c) lines

-- ---- the laws ----

pub run_fit_in_part : (c : Config) (lines : List ScheduleLine) → PacketsFitInPart (run_in c lines)
run_fit_in_part c lines =
    let w : World = run_in c lines in
    let g : Good w = run_good c lines in
    let k : Counted w = run_counted c lines in
    every_both SentComes (Numbers (size w)) (λ (x : Numbered). FitsInPart x.packet) w.sent (λ x h n. packet_fits x.packet h (packet_more (size w) 134479873 (omega (arith, k.room)) x.packet n)) g.sent k.sent

pub come_event : (w : World) (e : Event) → Good w → MayCome w e → Comes e
come_event w (Receives p) g m = subst PacketComes m.2 (sent_comes w m.0 m.1 g)
come_event w (Calls process words) g m = tt
come_event w Ticks g m = tt
come_event w Parts g m = tt
come_event w Merges g m = tt
come_event w GivesUp g m = tt

pub next_fit : (c : Config) (w : World) → Good w → Counted w → (s : ℕ) (v : SiteView) (e : Event) → place_at w s ≡ Some (Running v) → MayCome w e → Every FitsInPart (step c s (links_of w s) v e).sent
next_fit c w g k s v e here may =
    let f : Fine (step c s (links_of w s) v e) × Every PacketComes (step c s (links_of w s) v e).sent = step_comes c s e v w here (come_event w e g may) g in
    let n : NamesFine (IdFits 134479873) (step c s (links_of w s) v e) = step_up_to c (size w) 134479873 s (links_of w s) v e (own_place w s v here g.placed) (omega (arith, k.room)) (k.views s v here) (come_named w e k may) (one_room (size w) 134479873 s v e (omega (arith, k.room))) in
    every_both PacketComes (Named (IdFits 134479873)) FitsInPart (step c s (links_of w s) v e).sent (λ p h m. packet_fits p h m) f.1 n.sent

pub run_next_fit : (c : Config) (lines : List ScheduleLine) → NextPacketsFit c (run_in c lines)
run_next_fit c lines s v e here may = next_fit c (run_in c lines) (run_good c lines) (run_counted c lines) s v e here may
