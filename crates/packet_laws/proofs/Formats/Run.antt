-- In every run, all that sites have and have sent is of the format.
use Rattle.std.proofs.Common.{◌≡◌, ◌≤◌, ◌<◌, ◌^◌, ◌⊎◌, ℕ, ◌+◌, ◌*◌, ◌-◌, ◌==◌, Bool, true, false, cond, not, List, [], ◌∷◌, ◌++◌, length, map, filter, Option, None, Some, refl, sym, ◌∙◌, ap, subst, arith, inl, inr}
use Rattle.std.proofs.lemmas.Bool.Decides.{nat_tests}
use Rattle.std.proofs.lemmas.Nat.Bits.{bit_at-zero}
use Rattle.role_steps.proofs.of_plain_facts.Tests.{true_false}
use Rattle.locus_ids.specs.Sites.{has}
use Rattle.locus_ids.specs.declared.config.Config.{Config}
use Rattle.locus_ids.specs.declared.ids.EpochId.{EpochId}
use Rattle.locus_ids.specs.declared.sites.Members.{Members}
use Rattle.schedule_lines.specs.declared.line.ScheduleLine.{ScheduleLine}
use Rattle.schedule_lines.specs.declared.line.Line.{Line as LineWords}
use Rattle.schedule_lines.specs.declared.line.Line.TheVariants as line
use Rattle.locus_ids.specs.declared.sites.Sites.{Sites}
use Rattle.locus_ids.specs.Sizes.{inode_span, set_span}
use Rattle.trace_book.specs.declared.record.Record.TheVariants as says
use Rattle.wire_fields.specs.Parts.{some_set}
use Rattle.wire_fields.proofs.Members.{in_range}
use Rattle.wire_messages.specs.declared.packet.Packet.{Packet}
use Rattle.role_steps.specs.Own.{Every}
use Rattle.role_steps.specs.Storage.{copy_key}
use Rattle.role_steps.specs.Tables.{with_row}
use Rattle.role_steps.specs.Views.{Calls, DiskWrite, Event, GivesUp, Merges, Outcome, Parts, Receives, Shown, SiteView, Ticks, Told, all_groups, pack_sites}
use Rattle.role_steps.specs.declared.copies.FileCopy.{FileCopy}
use Rattle.role_steps.specs.declared.rounds.InEpoch.{InEpoch}
use Rattle.role_steps.proofs.Sending.{every_append}
use Rattle.the_run.specs.Disks.{Armed, Booted, CutOff, Disk, Whole, boots, cut_disk, is_on_disk}
use Rattle.the_run.specs.Kept.{IsOwn}
use Rattle.the_run.specs.Runs.{boots_as, packet_record, rearms, run_in}
use Rattle.the_run.specs.Steps.{step}
use Rattle.the_run.specs.Worlds.{CutCircuit, Line, Numbered, Place, Running, Stopped, World, acts, arms, cut_told, disk_of, first_world, formatted, fresh, happened, links_of, is_between, loses, newest_onto, number_of, numbered_from, passed, place_at, puts, root_copy, script_of, stops_with, told_onto}
use Rattle.the_run.proofs.Boots.{acts_cases, at_each, every_newest, every_numbered, every_weaker}
use Rattle.the_run.proofs.Events.{happened_keeps, puts_other, puts_same}
use Rattle.the_run.proofs.InsideSync.{every_without}
use Rattle.rest_laws.specs.of_run_laws.Naming.{MayCome}
use Rattle.rest_laws.specs.of_row_laws.ByLine.{Gives, KeptIn}
use Rattle.rest_laws.specs.of_row_laws.Voids.{LinesFit}
use Rattle.rest_laws.proofs.of_row_laws.ByLine.{every_line}
use Rattle.rest_laws.specs.of_site_laws.Vectors.Held.{OnDisk}
use Rattle.rest_laws.proofs.of_site_laws.Vectors.Held.{KeepsCopies, boots_copies}
use Rattle.rest_laws.proofs.of_site_laws.Vectors.SiteDisks.{step_disk}
use Rattle.tree_model.specs.Epochs.{members_of}
use Rattle.rest_laws.specs.of_tree_laws.Following.{IsFollowed}
use Rattle.rest_laws.specs.of_tree_laws.Printed.{entries}
use Rattle.rest_laws.proofs.of_tree_laws.Mending.{members_stay}
use Rattle.rest_laws.specs.of_tree_laws.Orders.Joining.{PacksAreOfSites}
use Rattle.rest_laws.specs.of_store_laws.OneTree.Places.{SiteIn, WorldFact}
use Rattle.rest_laws.specs.of_store_laws.OneTree.Rest.{IsRest, Past}
use Rattle.rest_laws.specs.of_store_laws.OneTree.Roles.{EventFact, RolesDo}
use Rattle.rest_laws.proofs.of_store_laws.OneTree.Composing.{rest_before}
use Rattle.rest_laws.proofs.of_store_laws.OneTree.Run.{arrives_fact, event_fact, first_holds, kept}
use Rattle.rest_laws.proofs.of_store_laws.OneTree.Staying.{stays}
use Rattle.rest_laws.proofs.of_store_laws.OneTree.Worlds.{Holds}
use Rattle.rest_laws.proofs.Resting.{run_low, run_rests}
use Rattle.rest_laws.proofs.Roles.{roles_do}
use Rattle.packet_laws.proofs.Fitting.CountsRun.{counts_low, Counted as Calling, counted_kept as calling_kept, first_counted as first_calling}
use Rattle.packet_laws.proofs.Fitting.Epochs.{Counted, counted_kept, first_counted}
use Rattle.packet_laws.proofs.Fitting.FormingRun.{Good, first_good, good_kept, sent_comes}
use Rattle.packet_laws.proofs.Fitting.Lists.{Comes, every_kept}
use Rattle.packet_laws.proofs.Fitting.Meeting.{every_passing}
use Rattle.run_laws.proofs.Epochs.Parts.{every_both}
use Rattle.packet_order.specs.Counts.{FitsIfCounted}
use Rattle.packet_laws.specs.Values.Bodies.{NamesNone}
use Rattle.packet_laws.specs.Values.Values.{CopiesFit, CopyFits, RisesFrom, SiteValues}
use Rattle.packet_laws.proofs.Values.Fields.{every_some, ino_fits, none_fits, nothing_fits, size_fits}
use Rattle.packet_laws.proofs.Values.Steps.{Done, NamesIn, Sent}
use Rattle.rest_laws.proofs.of_run_laws.Walks.FirstWorld.{first_places}
use Rattle.packet_laws.proofs.Formats.Standing.{EventStands, NamesKnown, NumberedStands, PacketStands, PlaceStands, ValuesStand, next_done, next_packets, sent_stands}

-- ---- the members of an epoch stay known ----

followed_down : (c : Config) (n : ℕ) (xs : List Told) (t : List Line) → IsFollowed c (told_onto n xs t) → IsFollowed c t
followed_down c n [] t h = h
followed_down c n (x ∷ xs) t h = (followed_down c n xs (record { number = n; told = x } ∷ t) h).1

members_onto : (c : Config) (n : ℕ) (xs : List Told) (t : List Line) (e : EpochId) (m : Members) → IsFollowed c (told_onto n xs t) → members_of (entries t) e ≡ Some m → members_of (entries (told_onto n xs t)) e ≡ Some m
members_onto c n [] t e m h k = k
members_onto c n (x ∷ xs) t e m h k = members_onto c n xs (record { number = n; told = x } ∷ t) e m h (members_stay c n x t e (followed_down c n xs (record { number = n; told = x } ∷ t) h).0 (m, k) ∙ k)

stands_onto : (c : Config) (n : ℕ) (xs : List Told) (t : List Line) (p : Packet) → IsFollowed c (told_onto n xs t) → PacketStands t p → PacketStands (told_onto n xs t) p
stands_onto c n xs t p h k = record { body = k.body; names = over k.names }
  where
    over : NamesNone p.body ⊎ NamesKnown t p → NamesNone p.body ⊎ NamesKnown (told_onto n xs t) p
    over (inl none) = inl none
    over (inr q) = inr (q.0, members_onto c n xs t p.epoch q.0 h q.1, q.2)

-- ---- the world ----

-- where the world is as it may be by its trace, all in it is of the format
abbrev pub Fitting : Config → World → Type 0
Fitting c w = IsRest c w.trace → IsFollowed c w.trace → ValuesStand c w

pub record PacketsStand (c : Config) (w : World) : Type 0 where
  pub holds : Holds c w
  pub good : Good w
  pub counts : Counted w
  pub calling : Calling w
  pub values : Fitting c w

some_place : (p q : Place) → ◌≡◌ {A = Option Place} (Some p) (Some q) → p ≡ q
some_place p q e = cc

-- one site becomes this place
placed : (c : Config) (s : ℕ) (new : Place) (w : World) → PlaceStands c new → ((t : ℕ) (p : Place) → place_at w t ≡ Some p → PlaceStands c p) → (t : ℕ) (p : Place) → place_at (puts s new w) t ≡ Some p → PlaceStands c p
placed c s new w fact f t p here = at_each s t (PlaceStands c p)
    (λ e. subst (PlaceStands c) (some_place new p (sym (puts_same s new w) ∙ (ap (place_at (puts s new w)) e ∙ here))) fact)
    (λ ne. f t p (sym (puts_other s t new w ne) ∙ here))

happened_fits : (c : Config) (n : ℕ) (ps : List Packet) (told : List Told) (change : World → World) (w : World) → (change w).sent ≡ w.sent → (change w).underway ≡ w.underway →
    (IsRest c w.trace → ValuesStand c w → ((t : ℕ) (p : Place) → place_at (change w) t ≡ Some p → PlaceStands c p) × Every (PacketStands w.trace) ps) → Holds c w → Fitting c w → Fitting c (happened n ps told change w)
happened_fits c n ps told change w same under gives holds g =
    happened_keeps (Fitting c) n ps told change w g (λ l r fo. g r fo) (λ k b t r fo. after (rest_before c n told w.trace r) fo)
  where
    old_values : IsRest c w.trace → ValuesStand c w
    old_values r = g r (holds r).followed

    lifted : IsFollowed c (told_onto n told w.trace) → (xs : List Numbered) → Every (NumberedStands w.trace) xs → Every (NumberedStands (told_onto n told w.trace)) xs
    lifted fo xs h = every_weaker (NumberedStands w.trace) (NumberedStands (told_onto n told w.trace)) xs (λ x k. stands_onto c n told w.trace x.packet fo k) h

    fresh_ones : IsFollowed c (told_onto n told w.trace) → Every (PacketStands w.trace) ps → Every (NumberedStands (told_onto n told w.trace)) (numbered_from (w.packets + 1) ps)
    fresh_ones fo h = every_numbered (PacketStands (told_onto n told w.trace)) (w.packets + 1) ps (every_weaker (PacketStands w.trace) (PacketStands (told_onto n told w.trace)) ps (λ p k. stands_onto c n told w.trace p fo k) h)

    after : IsRest c w.trace → IsFollowed c (told_onto n told w.trace) → ((t : ℕ) (p : Place) → place_at (change w) t ≡ Some p → PlaceStands c p) × Every (NumberedStands (told_onto n told w.trace)) (newest_onto (numbered_from (w.packets + 1) ps) (change w).sent) × Every (NumberedStands (told_onto n told w.trace)) ((change w).underway ++ numbered_from (w.packets + 1) ps)
    after r fo = (
      (gives r (old_values r)).0,
      every_newest (NumberedStands (told_onto n told w.trace)) (numbered_from (w.packets + 1) ps) (change w).sent (fresh_ones fo (gives r (old_values r)).1) (subst (Every (NumberedStands (told_onto n told w.trace))) (sym same) (lifted fo w.sent (old_values r).1)),
      every_append (NumberedStands (told_onto n told w.trace)) (change w).underway (numbered_from (w.packets + 1) ps) (subst (Every (NumberedStands (told_onto n told w.trace))) (sym under) (lifted fo w.underway (old_values r).2)) (fresh_ones fo (gives r (old_values r)).1),
    )

-- nothing but a told line
still_fits : (c : Config) (n : ℕ) (told : List Told) (w : World) → Holds c w → Fitting c w → Fitting c (happened n [] told (λ now. now) w)
still_fits c n told w holds g = happened_fits c n [] told (λ now. now) w refl refl (λ r k. (k.0, tt)) holds g

stops_fit : (c : Config) (n s : ℕ) (told : List Told) (d : Disk) (w : World) → (IsRest c w.trace → ValuesStand c w → CopiesFit d.copies) → Holds c w → Fitting c w → Fitting c (happened n [] told (stops_with s d) w)
stops_fit c n s told d w copies holds g = happened_fits c n [] told (stops_with s d) w refl refl (λ r k. (placed c s (Stopped d) w (copies r k) k.0, tt)) holds g

-- ---- an event of a site ----

calls_low : (w : World) (s : ℕ) (v : SiteView) → place_at w s ≡ Some (Running v) → Calling w → v.users.calls ≤ 134479872
calls_low w s v here g = (counts_low w g s v here).calls

-- what a step sends stands by the trace before it
step_stands : (c : Config) (w : World) (fact : WorldFact c w) (s : ℕ) (v : SiteView) → place_at w s ≡ Some (Running v) → (p : Packet) → Sent v.epoch p → PacketStands w.trace p
step_stands c w fact s v here p k = record { body = k.body; names = over v.epoch refl (fact.places s (Running v) here) k.names }
  where
    over : (o : Option InEpoch) → v.epoch ≡ o → SiteIn c s w.trace v o → NamesNone p.body ⊎ NamesIn o p → NamesNone p.body ⊎ NamesKnown w.trace p
    over o at h (inl none) = inl none
    over None at h (inr q) = absurd q
    over (Some e) at h (inr q) = inr (e.members, ap (members_of (entries w.trace)) q.0 ∙ h.frame.members_are, q.1)

-- what a cut write leaves
cut_copies : (s : ℕ) (v : SiteView) (o : Outcome SiteView) (d : DiskWrite) → o.written ≡ Some d → OnDisk s v.store.copies o.view.store.copies o.told o.written → CopiesFit v.store.copies → CopiesFit o.view.store.copies → (b : Bool) → CopiesFit (cond b (with_row copy_key d.copy v.store.copies) v.store.copies)
cut_copies s v o d e disk old new false = old
cut_copies s v o d e disk old new true = over disk
  where
    none_some : (x : DiskWrite) → ◌≡◌ {A = Option DiskWrite} None (Some x) → ⊥
    none_some x q = cc

    write_is : (x y : DiskWrite) → ◌≡◌ {A = Option DiskWrite} (Some x) (Some y) → x ≡ y
    write_is x y q = cc

    over : OnDisk s v.store.copies o.view.store.copies o.told o.written → CopiesFit (with_row copy_key d.copy v.store.copies)
    over (inl u) = absurd (none_some d (sym u.none ∙ e))
    over (inr u) = subst (λ (x : DiskWrite). CopiesFit (with_row copy_key x.copy v.store.copies)) (write_is u.0 d (sym u.1.is_written ∙ e)) (subst CopiesFit u.1.copies new)

does : (c : Config) → length c.packs ≤ 4 → (n s : ℕ) (e : Event) (v : SiteView) (w : World) → place_at w s ≡ Some (Running v) → Comes e → (IsRest c w.trace → EventStands w.trace e × EventFact c w.trace s v e) → Holds c w → Good w → Calling w → Fitting c w → Fitting c (acts n s v (step c s (links_of w s) v e) w)
does c few n s e v w here comes fact holds good calling g = acts_cases (Fitting c) n s v o w
    (happened_fits c n o.sent o.told (λ now. puts s (Running o.view) now) w refl refl (λ r k. (placed c s (Running o.view) w (done r k).view k.0, packets r k)) holds g)
    (λ a. happened_fits c n o.sent o.told (λ now. puts s (Running o.view) (arms a now)) w refl refl (λ r k. (placed c s (Running o.view) (arms a w) (done r k).view k.0, packets r k)) holds g)
    (λ d a q. stops_fit c n s (cut_told s v.store d a.how a.left) (cut_disk v.boot v.store d a.how a.left) w (λ r k. cut_copies s v o d q (step_disk c s (links_of w s) v e) (k.0 s (Running v) here).store.copies (done r k).view.store.copies (is_on_disk v.store d a.how a.left)) holds g)
  where
    o : Outcome SiteView
    o = step c s (links_of w s) v e

    done : IsRest c w.trace → ValuesStand c w → Done c v.epoch o
    done r k = next_done c w (record { followed = (holds r).followed; rest = r }) few (holds r) good k s v here (calls_low w s v here calling) e comes (fact r).0 (fact r).1

    packets : IsRest c w.trace → ValuesStand c w → Every (PacketStands w.trace) o.sent
    packets r k = every_weaker (Sent v.epoch) (PacketStands w.trace) o.sent (λ p q. step_stands c w (holds r) s v here p q) (done r k).sent

-- ---- boots ----

fresh_values : (c : Config) (boot : ℕ) (copies : List FileCopy) → CopiesFit copies → SiteValues c [] (fresh boot copies)
fresh_values c boot copies h = record { store = record { copies = h; instances = tt }; users = record { waiting = tt; instances = tt; descriptors = tt }; tables = tt; pulls = tt; reports = tt }

boot_places : (a : Option Armed) (s : ℕ) (p : Place) (w : World) (t : ℕ) → place_at (rearms s a (puts s p w)) t ≡ place_at (puts s p w) t
boot_places None s p w t = refl
boot_places (Some a) s p w t = refl

boot_sent : (a : Option Armed) (s : ℕ) (p : Place) (w : World) → (rearms s a (puts s p w)).sent ≡ w.sent
boot_sent None s p w = refl
boot_sent (Some a) s p w = refl

boot_underway : (a : Option Armed) (s : ℕ) (p : Place) (w : World) → (rearms s a (puts s p w)).underway ≡ w.underway
boot_underway None s p w = refl
boot_underway (Some a) s p w = refl

booted : (c : Config) (n s : ℕ) (d : Disk) (b : Booted) (w : World) → place_at w s ≡ Some (Stopped d) → KeepsCopies d.copies b → Holds c w → Fitting c w → Fitting c (boots_as n s b w)
booted c n s d (Whole x a) w here same holds g =
    let new : Place = Running (fresh x.label.boot x.copies) in
    happened_fits c n [] (Shown (says.Up s x.label.boot) ∷ []) (λ now. rearms s a (puts s new now)) w (boot_sent a s new w) (boot_underway a s new w)
    (λ r k. ((λ t p e. placed c s new w (fresh_values c x.label.boot x.copies (subst CopiesFit (sym same) (k.0 s (Stopped d) here))) k.0 t p (sym (boot_places a s new w t) ∙ e)), tt)) holds g
booted c n s d (CutOff x how) w here same holds g = stops_fit c n s _ x w (λ r k. subst CopiesFit (sym same) (k.0 s (Stopped d) here)) holds g

-- ---- packets that pass ----

pass_fits : (c : Config) (k : ℕ) (w : World) → Fitting c w → Fitting c (passed k w)
pass_fits c k w g r fo = (let h : ValuesStand c w = g r fo in (h.0, h.1, every_without (NumberedStands w.trace) number_of k w.underway h.2))

drop_fits : (c : Config) (k : ℕ) (w : World) → Fitting c w → Fitting c (loses k w)
drop_fits c k w g r fo = (let h : ValuesStand c w = g r fo in (h.0, h.1, every_without (NumberedStands w.trace) number_of k w.underway h.2))

-- ---- all lines ----

own_of : (w : World) (l : LineWords) (s : ℕ) (e : Event) → Gives w l s e → IsOwn e
own_of w (line.Call site process words) s (Calls p x) g = tt
own_of w (line.Tick site) s Ticks g = tt
own_of w (line.Part site) s Parts g = tt
own_of w (line.Merge site) s Merges g = tt
own_of w (line.GiveUp site) s GivesUp g = tt
own_of w _ s _ g = absurd g

comes_own : (e : Event) → IsOwn e → Comes e
comes_own (Receives p) h = absurd h
comes_own (Calls process words) h = tt
comes_own Ticks h = tt
comes_own Parts h = tt
comes_own Merges h = tt
comes_own GivesUp h = tt

stands_own : (w : World) (e : Event) → IsOwn e → EventStands w.trace e
stands_own w (Receives p) h = absurd h
stands_own w (Calls process words) h = tt
stands_own w Ticks h = tt
stands_own w Parts h = tt
stands_own w Merges h = tt
stands_own w GivesUp h = tt

pub kept_stand : (c : Config) (lines : List ScheduleLine) → LinesFit c lines → RolesDo c → length c.packs ≤ 4 → KeptIn c lines (λ n w. PacketsStand c w)
kept_stand c lines fit roles few = record {
  begins = λ n w le q g. g;
  ticks = λ n most s v w at here g. record { holds = one.ticks n most s v w at here g.holds; good = (good_kept c).steps n s Ticks v w here tt g.good; counts = (counted_kept c).steps n s Ticks v w here tt g.counts; calling = (calling_kept c).steps n s Ticks v w here tt g.calling; values = does c few n s Ticks v w here tt (λ r. (tt, tt)) g.holds g.good g.calling g.values };
  receives = λ n l x v w at d here sent g. record {
    holds = one.receives n l x v w at d here sent g.holds;
    good = (good_kept c).receives n x v w here sent g.good;
    counts = (counted_kept c).receives n x v w here sent g.counts;
    calling = (calling_kept c).receives n x v w here sent g.calling;
    values = does c few n x.packet.to (Receives x.packet) v (passed x.number w) here (sent_comes w x sent g.good) (λ r. (sent_stands c w (g.values r (g.holds r).followed) x sent, (refl, arrives_fact c w x v (g.holds r) sent here))) (one.passes n x.number w g.holds) ((good_kept c).passes x.number w g.good) ((calling_kept c).passes x.number w g.calling) (pass_fits c x.number w g.values);
  };
  passes = λ n k w g. record { holds = one.passes n k w g.holds; good = (good_kept c).passes k w g.good; counts = (counted_kept c).passes k w g.counts; calling = (calling_kept c).passes k w g.calling; values = pass_fits c k w g.values };
  drops = λ n k w g. record { holds = one.drops n k w g.holds; good = (good_kept c).drops k w g.good; counts = (counted_kept c).drops k w g.counts; calling = (calling_kept c).drops k w g.calling; values = drop_fits c k w g.values };
  budgets = λ n most w at g. record { holds = one.budgets n most w at g.holds; good = (good_kept c).budgets n w g.good; counts = (counted_kept c).budgets n w g.counts; calling = (calling_kept c).budgets n w g.calling; values = still_fits c n (Shown says.Budget ∷ []) w g.holds g.values };
  voiding = λ n l w le at void g. record { holds = one.voiding n l w le at void g.holds; good = (good_kept c).voiding (n + 1) w g.good; counts = (counted_kept c).voiding (n + 1) w g.counts; calling = (calling_kept c).voiding (n + 1) w g.calling; values = still_fits c (n + 1) (Shown says.Void ∷ []) w g.holds g.values };
  steps = λ n s l e v w le at gives here g. record {
    holds = one.steps n s l e v w le at gives here g.holds;
    good = (good_kept c).steps (n + 1) s e v w here (own_of w l s e gives) g.good;
    counts = (counted_kept c).steps (n + 1) s e v w here (own_of w l s e gives) g.counts;
    calling = (calling_kept c).steps (n + 1) s e v w here (own_of w l s e gives) g.calling;
    values = does c few (n + 1) s e v w here (comes_own e (own_of w l s e gives)) (λ r. (stands_own w e (own_of w l s e gives), event_fact c lines (n + 1) s l e v w fit at gives here)) g.holds g.good g.calling g.values;
  };
  cutting = λ n a b w le at cut g. record { holds = one.cutting n a b w le at cut g.holds; good = (good_kept c).recuts (record { one = a; other = b } ∷ w.circuits) w g.good; counts = (counted_kept c).recuts (record { one = a; other = b } ∷ w.circuits) w g.counts; calling = (calling_kept c).recuts (record { one = a; other = b } ∷ w.circuits) w g.calling; values = g.values };
  mending = λ n a b w le at cut g. record { holds = one.mending n a b w le at cut g.holds; good = (good_kept c).recuts (filter (λ (x : CutCircuit). not (is_between a b x)) w.circuits) w g.good; counts = (counted_kept c).recuts (filter (λ (x : CutCircuit). not (is_between a b x)) w.circuits) w g.counts; calling = (calling_kept c).recuts (filter (λ (x : CutCircuit). not (is_between a b x)) w.circuits) w g.calling; values = g.values };
  arming = λ n l a w le at it g. record { holds = one.arming n l a w le at it g.holds; good = (good_kept c).arming a w g.good; counts = (counted_kept c).arming a w g.counts; calling = (calling_kept c).arming a w g.calling; values = g.values };
  pending = λ n w le at g. record { holds = one.pending n w le at g.holds; good = (good_kept c).pending (n + 1) w g.good; counts = (counted_kept c).pending (n + 1) w g.counts; calling = (calling_kept c).pending (n + 1) w g.calling; values = still_fits c (n + 1) (map packet_record w.underway) w g.holds g.values };
  stopping = λ n s v w le at here g. record { holds = one.stopping n s v w le at here g.holds; good = (good_kept c).stopping (n + 1) s v w here g.good; counts = (counted_kept c).stopping (n + 1) s v w here g.counts; calling = (calling_kept c).stopping (n + 1) s v w here g.calling; values = stops_fit c (n + 1) s _ (disk_of v) w (λ r k. (k.0 s (Running v) here).store.copies) g.holds g.values };
  booting = λ n s d w le at here g. record { holds = one.booting n s d w le at here g.holds; good = (good_kept c).booting (n + 1) s d w here g.good; counts = (counted_kept c).booting (n + 1) s d w here g.counts; calling = (calling_kept c).booting (n + 1) s d w here g.calling; values = booted c (n + 1) s d (boots (script_of w s) d) w here (boots_copies (script_of w s) d) g.holds g.values };
}
  where
    one : KeptIn c lines (λ n w. Holds c w)
    one = kept c lines fit roles (stays c)

-- ---- the first world ----

rises_less : (a b : ℕ) (xs : List FileCopy) → a ≤ b → RisesFrom b xs → RisesFrom a xs
rises_less a b [] le h = tt
rises_less a b (x ∷ xs) le h = (omega (arith, le, h.0), h.1)

root_rises : (c : Config) (b : Bool) (group least : ℕ) (gs : List ℕ) → least ≤ group * inode_span + 1 → RisesFrom (group * inode_span + 1 + 1) (map (root_copy c) gs) → RisesFrom least (map (root_copy c) (cond b (group ∷ gs) gs))
root_rises c true group least gs le h = (le, h)
root_rises c false group least gs le h = rises_less least (group * inode_span + 1 + 1) (map (root_copy c) gs) (omega (arith, le)) h

has_some : (set : Sites) (s : ℕ) → has set s ≡ true → 1 ≤ set.0
has_some set s e = over (set.0 == 0) refl
  where
    none : (set.0 == 0) ≡ true → set.0 ≡ 0
    none q = grind (arith, nat_tests)

    some : (set.0 == 0) ≡ false → 1 ≤ set.0
    some q = grind (arith, nat_tests)

    none_has : has (record { 0 = 0 }) s ≡ false
    none_has = rw (bit_at-zero (s - 1)) refl

    over : (b : Bool) → (set.0 == 0) ≡ b → 1 ≤ set.0
    over true q = absurd (true_false (sym (subst (λ (n : ℕ). has (record { 0 = n }) s ≡ true) (none q) e) ∙ none_has))
    over false q = some q

root_fits : (c : Config) → PacksAreOfSites c → (s group : ℕ) → group < 2 ^ 8 → has (pack_sites c group) s ≡ true → CopyFits (root_copy c group)
root_fits c packs s group low e = record {
  file = (low, ino_fits 1 (omega arith) (omega arith));
  set = set_is (has_some (pack_sites c group) s e) (packs group);
  size = size_fits 0 (omega arith);
  version = (none_fits, (refl, nothing_fits));
}
  where
    set_is : 1 ≤ (pack_sites c group).0 → (pack_sites c group).0 < set_span → some_set.Fits (pack_sites c group)
    set_is a b = (in_range 1 (set_span - 1) (pack_sites c group).0 a (omega (arith, b)), b)

formatted_fits : (c : Config) → PacksAreOfSites c → (s : ℕ) → CopiesFit (formatted c s)
formatted_fits c packs s = record {
  each = every_some (λ (g : ℕ). (g < 2 ^ 8) × (has (pack_sites c g) s ≡ true)) CopyFits (root_copy c) (filter test all_groups) (λ g k. root_fits c packs s g k.0 k.1)
      (every_both (λ (g : ℕ). g < 2 ^ 8) (λ (g : ℕ). test g ≡ true) (λ (g : ℕ). (g < 2 ^ 8) × (has (pack_sites c g) s ≡ true)) (filter test all_groups) (λ g a b. (a, b)) (every_kept (λ (g : ℕ). g < 2 ^ 8) test all_groups (omega arith, (omega arith, (omega arith, (omega arith, tt))))) (every_passing test all_groups));
  rise = root_rises c (test 0) 0 0 _ (omega arith) (root_rises c (test 1) 1 2 _ (omega arith) (root_rises c (test 2) 2 65538 _ (omega arith) (root_rises c (test 3) 3 131074 [] (omega arith) tt)));
}
  where
    test : ℕ → Bool
    test g = has (pack_sites c g) s

pub first_stand : (c : Config) → RolesDo c → PacketsStand c (first_world c)
first_stand c roles = record {
  holds = first_holds c roles;
  good = first_good c;
  counts = first_counted c;
  calling = first_calling c;
  values = λ r fo. (first_places c (λ s. PlaceStands c) (λ s own. fresh_values c 1 (formatted c s) (formatted_fits c r.packs s)), tt, tt);
}

-- ---- every run, and every moment ----

-- at any moment of a run what the next event of a running site sends is of the format, where each count has a number of its size
pub packets_fit_now : (c : Config) (w : World) → Past c w.trace → length c.packs ≤ 4 → WorldFact c w → PacketsStand c w → (s : ℕ) (v : SiteView) (e : Event) → place_at w s ≡ Some (Running v) → MayCome w e → EventFact c w.trace s v e → Every FitsIfCounted (step c s (links_of w s) v e).sent
packets_fit_now c w past few fact stand s v e here may k = next_packets c w past few fact stand.good (stand.values past.rest past.followed) s v here (calls_low w s v here stand.calling) stand.counts e may k

pub run_stands : (c : Config) (lines : List ScheduleLine) → LinesFit c lines → length c.packs ≤ 4 → PacketsStand c (run_in c lines)
run_stands c lines fit few = every_line c lines (λ n w. PacketsStand c w) (kept_stand c lines fit (roles_do c few) few) (first_stand c (roles_do c few))

pub run_packets : (c : Config) (lines : List ScheduleLine) → LinesFit c lines → PacksAreOfSites c → length c.packs ≤ 4 → (s : ℕ) (v : SiteView) (e : Event) → place_at (run_in c lines) s ≡ Some (Running v) → MayCome (run_in c lines) e → EventFact c (run_in c lines).trace s v e → Every FitsIfCounted (step c s (links_of (run_in c lines) s) v e).sent
run_packets c lines fit packs few s v e here may k = packets_fit_now c (run_in c lines) (record { followed = fact.followed; rest = rest }) few fact stand s v e here may k
  where
    rest : IsRest c (run_in c lines).trace
    rest = run_rests c lines fit packs (run_low c lines)

    stand : PacketsStand c (run_in c lines)
    stand = run_stands c lines fit few

    fact : WorldFact c (run_in c lines)
    fact = stand.holds rest
