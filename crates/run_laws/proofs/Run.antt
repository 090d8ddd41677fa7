-- In every run promises, joins and leaves go on lawfully, and each packet names the epoch that it speaks of.
use Rattle.std.proofs.Common.{◌≡◌, ◌≢◌, ℕ, ◌+◌, ◌==◌, Bool, true, false, cond, List, [], ◌∷◌, map, Option, Some, None, refl, sym, ◌∙◌, ap, subst, inl, inr}
use Rattle.the_run.proofs.of_plain_facts.Numbers.{apart_test, equal_self}
use Rattle.the_run.proofs.of_plain_facts.Options.{some_same}
use Rattle.the_run.proofs.of_plain_facts.Tests.{true_false}
use Rattle.locus_ids.specs.declared.config.Config.{Config}
use Rattle.schedule_lines.specs.declared.line.ScheduleLine.{ScheduleLine}
use Rattle.trace_book.specs.declared.record.Record.{Record}
use Rattle.trace_book.specs.declared.record.Record.TheVariants as says
use Rattle.trace_book.specs.declared.record.StopCause.TheVariants as cause
use Rattle.wire_messages.specs.declared.packet.Packet.{Packet}
use Rattle.the_run.specs.of_role_steps.Own.{Every, IsOwn as IsOwnPacket}
use Rattle.the_run.specs.of_role_steps.Views.{SiteView, Told, Shown, Promises, DiskWrite, Outcome, Event, Calls, Receives, Ticks, Parts, Merges, GivesUp}
use Rattle.the_run.specs.of_role_steps.declared.rounds.InEpoch.{InEpoch}
use Rattle.the_run.specs.of_role_steps.declared.rounds.Round.{Round}
use Rattle.the_run.specs.of_role_steps.declared.synchronizing.SyncTable.{SyncTable}
use Rattle.the_run.proofs.of_role_steps.Sending.{every_append}
use Rattle.the_run.specs.Disks.{Disk, Booted, Whole, CutOff, boots, is_on_disk}
use Rattle.the_run.specs.Joins.{TableOk}
use Rattle.the_run.specs.Steps.{step}
use Rattle.the_run.specs.Worlds.{World, Place, Running, Stopped, Numbered, Line, number_of, links_of, place_at, script_of, happened, numbered_from, told_onto, disk_of, puts, arms, passed, stops_with, cut_told, cause_of, acts, fresh, formatted, first_world}
use Rattle.the_run.specs.Runs.{boots_as, packet_record, run_in}
use Rattle.the_run.specs.Kept.{Among, WasSent, IsOwn, Kept}
use Rattle.the_run.proofs.Boots.{at_each, acts_cases, every_newest, every_numbered, every_weaker}
use Rattle.the_run.proofs.Events.{happened_keeps, puts_other, puts_same}
use Rattle.the_run.proofs.InsideSync.{every_without}
use Rattle.the_run.proofs.StepSends.{step_sends}
use Rattle.the_run.proofs.Runs.{every_run}
use Rattle.run_laws.proofs.Walks.FirstWorld.{first_views}
use Rattle.run_laws.specs.Words.{InsideRecord, InsideWrite}
use Rattle.run_laws.specs.Standing.{Standing, nowhere, after_record, after_told, standing, GoesOn, RecordGoesOn, EpochsGoOn, standing_of, moves, OwnRecord, OwnMove, OwnMoves}
use Rattle.run_laws.specs.Naming.{Deeds, Names, Now, DeedsOf, NamesItsEpoch, PacketNames, ViewOk, Fine, Good}
use Rattle.run_laws.proofs.Moves.{Leads, own_case, names_weaker, view_leads}
use Rattle.run_laws.proofs.Steps.{EventNames, step_fine}

-- ---- the trace ----

onto_standing : (s n : ℕ) (told : List Told) (trace : List Line) → standing s (told_onto n told trace) ≡ moves s told (standing s trace)
onto_standing s n [] trace = refl
onto_standing s n (x ∷ xs) trace = onto_standing s n xs (record { number = n; told = x } ∷ trace)

other_case : (t s : ℕ) (a b : Standing) → s ≢ t → cond (s == t) a b ≡ b
other_case t s a b ne = subst (λ (x : Bool). cond x a b ≡ b) (sym (apart_test s t ne)) refl

other_record : (s t : ℕ) (now mine : Standing) (r : Record) → s ≢ t → OwnRecord s mine r → after_record t r now ≡ now
other_record s t now mine (says.Up u boot) ne h = other_case t u nowhere now (subst (λ (x : ℕ). x ≢ t) (sym h) ne)
other_record s t now mine (says.Join u id members) ne h = other_case t u _ now (subst (λ (x : ℕ). x ≢ t) (sym h.0) ne)
other_record s t now mine (says.Leave u id) ne h = other_case t u _ now (subst (λ (x : ℕ). x ≢ t) (sym h.0) ne)
other_record s t now mine _ ne h = refl

other_told : (s t : ℕ) (now mine : Standing) (x : Told) → s ≢ t → OwnMove s mine x → after_told t x now ≡ now
other_told s t now mine (Shown r) ne h = other_record s t now mine r ne h
other_told s t now mine (Promises u id reach) ne h = other_case t u _ now (subst (λ (x : ℕ). x ≢ t) (sym h.0) ne)
other_told s t now mine _ ne h = refl

-- what one site tells leaves how another one stands
other_standing : (s t n : ℕ) (mine : Standing) (told : List Told) (trace : List Line) → s ≢ t → OwnMoves s mine told → standing t (told_onto n told trace) ≡ standing t trace
other_standing s t n mine [] trace ne h = refl
other_standing s t n mine (x ∷ xs) trace ne h = other_standing s t n (after_told s x mine) xs (record { number = n; told = x } ∷ trace) ne h.1 ∙ other_told s t (standing t trace) mine x ne h.0

goes_record : (s : ℕ) (r : Record) (trace : List Line) → OwnRecord s (standing s trace) r → RecordGoesOn r trace
goes_record s (says.Join t id members) trace h = subst (λ (x : ℕ). RecordGoesOn (says.Join x id members) trace) (sym h.0) h.1
goes_record s (says.Leave t id) trace h = subst (λ (x : ℕ). RecordGoesOn (says.Leave x id) trace) (sym h.0) h.1
goes_record s _ trace h = tt

goes_on : (s : ℕ) (x : Told) (trace : List Line) → OwnMove s (standing s trace) x → GoesOn x trace
goes_on s (Shown r) trace h = goes_record s r trace h
goes_on s (Promises t id reach) trace h = subst (λ (y : ℕ). GoesOn (Promises y id reach) trace) (sym h.0) h.1
goes_on s _ trace h = tt

all_go_on : (s n : ℕ) (told : List Told) (trace : List Line) → OwnMoves s (standing s trace) told → EpochsGoOn trace → EpochsGoOn (told_onto n told trace)
all_go_on s n [] trace h g = g
all_go_on s n (x ∷ xs) trace h g = all_go_on s n xs (record { number = n; told = x } ∷ trace) h.1 (goes_on s x trace h.0, g)

-- what is known grows with the trace
onto_has : (n : ℕ) (told : List Told) (trace : List Line) (s : ℕ) → Leads (Now (DeedsOf trace s) s told) (DeedsOf (told_onto n told trace) s)
onto_has n [] trace s d id (inl h) = h
onto_has n [] trace s d id (inr h) = absurd h
onto_has n (x ∷ xs) trace s d id (inl h) = onto_has n xs (record { number = n; told = x } ∷ trace) s d id (inl (inr h))
onto_has n (x ∷ xs) trace s d id (inr (inl h)) = onto_has n xs (record { number = n; told = x } ∷ trace) s d id (inl (inl h))
onto_has n (x ∷ xs) trace s d id (inr (inr h)) = onto_has n xs (record { number = n; told = x } ∷ trace) s d id (inr h)

onto_old : (n : ℕ) (told : List Told) (trace : List Line) (s : ℕ) → Leads (DeedsOf trace s) (DeedsOf (told_onto n told trace) s)
onto_old n told trace s d id h = onto_has n told trace s d id (inl h)

-- ---- one event ----

numbered_old : (n : ℕ) (told : List Told) (trace : List Line) (xs : List Numbered) → Every (NamesItsEpoch trace) xs → Every (NamesItsEpoch (told_onto n told trace)) xs
numbered_old n told trace xs h =
    every_weaker (NamesItsEpoch trace) (NamesItsEpoch (told_onto n told trace)) xs
    (λ x. names_weaker (DeedsOf trace x.packet.from) (DeedsOf (told_onto n told trace) x.packet.from) (onto_old n told trace x.packet.from) x.packet.epoch x.packet.body) h

-- An event of a site: it tells lawful moves of its own, and the others stay as they are.
happened_good : (s n : ℕ) (ps : List Packet) (told : List Told) (change : World → World) (w : World) → OwnMoves s (standing s w.trace) told →
    ((t : ℕ) (u : SiteView) → place_at (change w) t ≡ Some (Running u) → (standing t (told_onto n told w.trace) ≡ standing_of u) × ViewOk (DeedsOf (told_onto n told w.trace) t) u) →
    (change w).sent ≡ w.sent → (change w).underway ≡ w.underway → Every (λ (p : Packet). Names (DeedsOf (told_onto n told w.trace) p.from) p.epoch p.body) ps → Good w → Good (happened n ps told change w)
happened_good s n ps told change w law views sent underway new g =
    happened_keeps Good n ps told change w g
    (λ l. record { law = g.law; stands = g.stands; views = g.views; packets = g.packets; underway = g.underway })
    (λ k b t. record {
      law = all_go_on s n told w.trace law g.law;
      stands = λ t u h. (views t u h).0;
      views = λ t u h. (views t u h).1;
      packets = every_newest N (numbered_from (w.packets + 1) ps) (change w).sent added (subst (λ (xs : List Numbered). Every N xs) (sym sent) (numbered_old n told w.trace w.sent g.packets));
      underway = every_append N (change w).underway (numbered_from (w.packets + 1) ps) (subst (λ (xs : List Numbered). Every N xs) (sym underway) (numbered_old n told w.trace w.underway g.underway)) added;
    })
  where
    N : Numbered → Type 0
    N = NamesItsEpoch (told_onto n told w.trace)

    added : Every N (numbered_from (w.packets + 1) ps)
    added = every_numbered (λ (p : Packet). Names (DeedsOf (told_onto n told w.trace) p.from) p.epoch p.body) (w.packets + 1) ps new

-- ---- one place ----

running_view : (v u : SiteView) → Running v ≡ Running u → v ≡ u
running_view v u e = cc

stopped_never : (d : Disk) (v : SiteView) → Stopped d ≡ Running v → ⊥
stopped_never d v e = cc

-- one place changed, and its site told this: how each running site stands, and its view
places_good : (s n : ℕ) (new : Place) (told : List Told) (w : World) → Good w → OwnMoves s (standing s w.trace) told →
    ((v : SiteView) → new ≡ Running v → (standing s (told_onto n told w.trace) ≡ standing_of v) × ViewOk (DeedsOf (told_onto n told w.trace) s) v) →
    (t : ℕ) (u : SiteView) → place_at (puts s new w) t ≡ Some (Running u) → (standing t (told_onto n told w.trace) ≡ standing_of u) × ViewOk (DeedsOf (told_onto n told w.trace) t) u
places_good s n new told w g law fine t u h = at_each s t (Stands t)
    (λ e. subst Stands e (fine u (some_same new (Running u) (sym (puts_same s new w) ∙ (ap (place_at (puts s new w)) e ∙ h)))))
    (λ ne. (other_standing s t n (standing s w.trace) told w.trace ne law ∙ g.stands t u (sym (puts_other s t new w ne) ∙ h), view_leads (DeedsOf w.trace t) (DeedsOf (told_onto n told w.trace) t) u (onto_old n told w.trace t) (g.views t u (sym (puts_other s t new w ne) ∙ h))))
  where
    Stands : ℕ → Type 0
    Stands x = (standing x (told_onto n told w.trace) ≡ standing_of u) × ViewOk (DeedsOf (told_onto n told w.trace) x) u

-- a stop
stops_good : (s n : ℕ) (d : Disk) (told : List Told) (w : World) → OwnMoves s (standing s w.trace) told → Good w → Good (happened n [] told (stops_with s d) w)
stops_good s n d told w law g =
    happened_good s n [] told (stops_with s d) w law (places_good s n (Stopped d) told w g law (λ v e. absurd (stopped_never d v e))) refl refl tt g

-- an event of the world itself, in which no site moves
told_good : (n : ℕ) (told : List Told) (w : World) → ((t : ℕ) (now : Standing) → (moves t told now ≡ now) × OwnMoves t now told) → Good w → Good (happened n [] told (λ now. now) w)
told_good n told w still g =
    happened_good 0 n [] told (λ now. now) w (still 0 (standing 0 w.trace)).1
    (λ t u h. (onto_standing t n told w.trace ∙ ((still t (standing t w.trace)).0 ∙ g.stands t u h), view_leads (DeedsOf w.trace t) (DeedsOf (told_onto n told w.trace) t) u (onto_old n told w.trace t) (g.views t u h))) refl refl tt g

-- the step of a site
own_names : (s boot n : ℕ) (told : List Told) (w : World) (ps : List Packet) → Every (PacketNames (Now (DeedsOf w.trace s) s told)) ps → Every (IsOwnPacket s boot) ps → Every (λ (p : Packet). Names (DeedsOf (told_onto n told w.trace) p.from) p.epoch p.body) ps
own_names s boot n told w [] h g = tt
own_names s boot n told w (p ∷ ps) h g = (
  subst (λ (x : ℕ). Names (DeedsOf (told_onto n told w.trace) x) p.epoch p.body) (sym g.0.site) (names_weaker (Now (DeedsOf w.trace s) s told) (DeedsOf (told_onto n told w.trace) s) (onto_has n told w.trace s) p.epoch p.body h.0),
  own_names s boot n told w ps h.1 g.1,
)

written_law : (s n : ℕ) (now : Standing) (o : Option DiskWrite) (d : DiskWrite) → o ≡ Some d → InsideWrite o → InsideRecord d.says
written_law s n now o d e h = subst InsideWrite e h

inside_own_record : (s : ℕ) (now : Standing) (r : Record) → InsideRecord r → OwnRecord s now r
inside_own_record s now (says.Up t boot) h = absurd h
inside_own_record s now (says.Join t id members) h = absurd h
inside_own_record s now (says.Leave t id) h = absurd h
inside_own_record s now _ h = tt

cut_law : (s : ℕ) (now : Standing) (b : Bool) (r : Record) (how : _) → InsideRecord r → OwnMoves s now (cond b (Shown r ∷ Shown (says.Stopped s how) ∷ []) (Shown (says.Stopped s how) ∷ []))
cut_law s now true r how h = (inside_own_record s now r h, (tt, tt))
cut_law s now false r how h = (tt, tt)

acts_good : (n s : ℕ) (v : SiteView) (o : Outcome SiteView) (w : World) → place_at w s ≡ Some (Running v) → Fine (DeedsOf w.trace s) s v o → Every (IsOwnPacket s v.boot) o.sent → Good w → Good (acts n s v o w)
acts_good n s v o w here f own g =
    acts_cases Good n s v o w
    (happened_good s n o.sent o.told (λ now. puts s (Running o.view) now) w law views refl refl names g)
    (λ a. happened_good s n o.sent o.told (λ now. puts s (Running o.view) (arms a now)) w law views refl refl names g)
    (λ d a e. stops_good s n _ (cut_told s v.store d a.how a.left) w (cut_law s (standing s w.trace) (is_on_disk v.store d a.how a.left) d.says (cause_of a.how) (written_law s n (standing s w.trace) o.written d e f.written)) g)
  where
    stood : standing s w.trace ≡ standing_of v
    stood = g.stands s v here

    law : OwnMoves s (standing s w.trace) o.told
    law = subst (λ (now : Standing). OwnMoves s now o.told) (sym stood) f.law

    stands : standing s (told_onto n o.told w.trace) ≡ standing_of o.view
    stands = onto_standing s n o.told w.trace ∙ (ap (moves s o.told) stood ∙ f.stands)

    views : (t : ℕ) (u : SiteView) → place_at (puts s (Running o.view) w) t ≡ Some (Running u) → (standing t (told_onto n o.told w.trace) ≡ standing_of u) × ViewOk (DeedsOf (told_onto n o.told w.trace) t) u
    views = places_good s n (Running o.view) o.told w g law (λ u q. subst (λ (y : SiteView). (standing s (told_onto n o.told w.trace) ≡ standing_of y) × ViewOk (DeedsOf (told_onto n o.told w.trace) s) y) (running_view o.view u q)
        (stands, view_leads (Now (DeedsOf w.trace s) s o.told) (DeedsOf (told_onto n o.told w.trace) s) o.view (onto_has n o.told w.trace s) f.view))

    names : Every (λ (p : Packet). Names (DeedsOf (told_onto n o.told w.trace) p.from) p.epoch p.body) o.sent
    names = own_names s v.boot n o.told w o.sent f.sent own

-- ---- a boot ----

no_round : (r : Round) → ◌≡◌ {A = Option Round} None (Some r) → ⊥
no_round r e = cc

no_epoch_here : (e : InEpoch) → ◌≡◌ {A = Option InEpoch} None (Some e) → ⊥
no_epoch_here e k = cc

fresh_ok : (K : Deeds) (v : SiteView) → v.round ≡ None → v.installed ≡ true → v.epoch ≡ None → v.tables ≡ [] → ViewOk K v
fresh_ok K v a i b t = record {
  round_is = λ r e. absurd (no_round r (sym a ∙ e));
  waits = λ e. absurd (true_false (sym i ∙ e));
  joined = λ e k. absurd (no_epoch_here e (sym b ∙ k));
  tables = subst (λ (ts : List SyncTable). Every TableOk ts) (sym t) tt;
}

boots_good : (n s : ℕ) (x : Disk) (change : World → World) (w : World) → ((t : ℕ) → place_at (change w) t ≡ place_at (puts s (Running (fresh x.label.boot x.copies)) w) t) → (change w).sent ≡ w.sent → (change w).underway ≡ w.underway → Good w → Good (happened n [] (Shown (says.Up s x.label.boot) ∷ []) change w)
boots_good n s x change w equal_self sent underway g =
    happened_good s n [] told change w (refl, tt)
    (λ t u h. places_good s n (Running view) told w g (refl, tt) (λ u q. subst (λ (y : SiteView). (standing s (told_onto n told w.trace) ≡ standing_of y) × ViewOk (DeedsOf (told_onto n told w.trace) s) y) (running_view view u q) (own_case s nowhere (standing s w.trace), fresh_ok _ view refl refl refl refl)) t u (sym (equal_self t) ∙ h))
    sent underway tt g
  where
    view : SiteView
    view = fresh x.label.boot x.copies

    told : List Told
    told = Shown (says.Up s x.label.boot) ∷ []

as_good : (n s : ℕ) (b : Booted) (w : World) → Good w → Good (boots_as n s b w)
as_good n s (Whole x None) w g = boots_good n s x _ w (λ t. refl) refl refl g
as_good n s (Whole x (Some a)) w g = boots_good n s x _ w (λ t. refl) refl refl g
as_good n s (CutOff x how) w g = stops_good s n x (Shown (says.Stopped s (cause_of how)) ∷ []) w (tt, tt) g

-- ---- every event and change ----

pub found_among : (P : Numbered → Type 0) (x : Numbered) (xs : List Numbered) → Every P xs → Among x xs → P x
found_among P x [] h a = absurd a
found_among P x (y ∷ ys) h (inl e) = subst P (sym e) h.0
found_among P x (y ∷ ys) h (inr a) = found_among P x ys h.1 a

pub was_sent : (w : World) (x : Numbered) → WasSent w x → Good w → NamesItsEpoch w.trace x
was_sent w x (inl a) g = found_among (NamesItsEpoch w.trace) x w.sent g.packets a
was_sent w x (inr a) g = found_among (NamesItsEpoch w.trace) x w.underway g.underway a

own_event : (J : Deeds) (e : Event) → IsOwn e → EventNames J e
own_event J (Calls process words) h = tt
own_event J (Receives p) h = absurd h
own_event J Ticks h = tt
own_event J Parts h = tt
own_event J Merges h = tt
own_event J GivesUp h = tt

passed_good : (k : ℕ) (w : World) → Good w → Good (passed k w)
passed_good k w g = record { law = g.law; stands = g.stands; views = g.views; packets = g.packets; underway = every_without (NamesItsEpoch w.trace) number_of k w.underway g.underway }

packets_still : (xs : List Numbered) (t : ℕ) (now : Standing) → (moves t (map packet_record xs) now ≡ now) × OwnMoves t now (map packet_record xs)
packets_still [] t now = (refl, tt)
packets_still (x ∷ xs) t now = let r : (moves t (map packet_record xs) now ≡ now) × OwnMoves t now (map packet_record xs) = packets_still xs t now in (r.0, (tt, r.1))

pub good_kept : (c : Config) → Kept c Good
good_kept c = record {
  steps = λ n s e v w here own g. (let J : Deeds = DeedsOf w.trace s in acts_good n s v (step c s (links_of w s) v e) w here (step_fine J s c (links_of w s) v e J (g.views s v here) (own_event J e own)) (step_sends c s v.boot (links_of w s) v e refl).sent g);
  receives = λ n x v w here sent g. acts_good n x.packet.to v (step c x.packet.to (links_of (passed x.number w) x.packet.to) v (Receives x.packet)) (passed x.number w) here
      (step_fine (DeedsOf w.trace x.packet.to) x.packet.to c (links_of (passed x.number w) x.packet.to) v (Receives x.packet) (DeedsOf w.trace x.packet.from) (g.views x.packet.to v here) (was_sent w x sent g))
      (step_sends c x.packet.to v.boot (links_of (passed x.number w) x.packet.to) v (Receives x.packet) refl).sent (passed_good x.number w g);
  passes = λ k w g. passed_good k w g;
  drops = λ k w g. (let p : Good (passed k w) = passed_good k w g in record { law = p.law; stands = p.stands; views = p.views; packets = p.packets; underway = p.underway });
  recuts = λ xs w g. record { law = g.law; stands = g.stands; views = g.views; packets = g.packets; underway = g.underway };
  arming = λ a w g. record { law = g.law; stands = g.stands; views = g.views; packets = g.packets; underway = g.underway };
  voiding = λ n w g. told_good n (Shown says.Void ∷ []) w (λ t now. (refl, (tt, tt))) g;
  budgets = λ n w g. told_good n (Shown says.Budget ∷ []) w (λ t now. (refl, (tt, tt))) g;
  pending = λ n w g. told_good n (map packet_record w.underway) w (packets_still w.underway) g;
  stopping = λ n s v w here g. stops_good s n (disk_of v) (Shown (says.Stopped s cause.Asked) ∷ []) w (tt, tt) g;
  booting = λ n s d w here g. as_good n s (boots (script_of w s) d) w g;
}

-- ---- the first world ----

-- each site stands nowhere, and has done nothing
first_stands : (c : Config) (s : ℕ) (v : SiteView) → place_at (first_world c) s ≡ Some (Running v) → (nowhere ≡ standing_of v) × ViewOk (DeedsOf [] s) v
first_stands c = first_views c (λ s v. (nowhere ≡ standing_of v) × ViewOk (DeedsOf [] s) v) (λ s own. (refl, fresh_ok _ (fresh 1 (formatted c s)) refl refl refl refl))

pub first_good : (c : Config) → Good (first_world c)
first_good c = record {
  law = tt;
  stands = λ s v e. (first_stands c s v e).0;
  views = λ s v e. (first_stands c s v e).1;
  packets = tt;
  underway = tt;
}

-- ---- the laws ----

pub run_good : (c : Config) (lines : List ScheduleLine) → Good (run_in c lines)
run_good c lines = every_run c Good (good_kept c) (first_good c) lines
