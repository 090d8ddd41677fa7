-- Who leaves in a line: while all is quiet only the site whose own line it is, and in the round that ends a block those that are asked.
use Rattle.std.proofs.Common.{◌≡◌, ℕ, ◌==◌, Bool, true, false, cond, not, ◌||◌, List, [], ◌∷◌, map, Option, Some, None, refl, sym, ◌∙◌, subst, ◌⊎◌, inl, inr, arith}
use Rattle.std.proofs.lemmas.Bool.Decides.{nat_tests}
use Rattle.role_steps.proofs.of_plain_facts.Numbers.{equal_self}
use Rattle.locus_ids.specs.declared.config.Config.{Config}
use Rattle.trace_book.specs.declared.record.Record.TheVariants as says
use Rattle.trace_book.specs.declared.record.StopCause.TheVariants as cause
use Rattle.schedule_lines.specs.declared.line.Line.{Line as LineWords}
use Rattle.schedule_lines.specs.declared.line.Line.TheVariants as line
use Rattle.schedule_lines.specs.declared.line.ScheduleLine.{ScheduleLine}
use Rattle.schedule_lines.specs.declared.line.ScheduleLine.TheVariants.{Passed, Header, Event as EventLine}
use Rattle.wire_messages.specs.declared.packet.Packet.{Packet}
use Rattle.role_steps.specs.Own.{Every}
use Rattle.role_steps.specs.Views.{Store, SiteView, Told, Shown, DiskWrite, Outcome, Event, Calls, Receives, Ticks, Parts, Merges, GivesUp}
use Rattle.the_run.specs.Disks.{Cut, Booted, Whole, CutOff, boots, is_on_disk}
use Rattle.the_run.specs.Kept.{Among, WasSent}
use Rattle.the_run.specs.Steps.{is_dropped, step}
use Rattle.the_run.specs.Worlds.{World, Place, Running, Stopped, Numbered, Line, place_at, links_of, script_of, happened, told_onto, disk_of, puts, arms, passed, loses, stops_with, cut_told, cause_of, acts, happens, happens_at}
use Rattle.the_run.specs.Runs.{packet_record, packet_at, can_come, arrives_at, arrives, is_stopped, is_in_no_epoch, is_busy, is_lost, unless_void, delivers_line, loses_line, stops_line, boots_line, boots_as, settles, cuts_circuit, mends_circuit, act, acts_line, run_from}
use Rattle.the_run.proofs.Boots.{acts_cases, every_weaker}
use Rattle.the_run.proofs.Events.{happened_keeps}
use Rattle.run_laws.specs.Words.{InsideRecord, InsideWrite}
use Rattle.run_laws.proofs.Run.{found_among}
use Rattle.run_laws.specs.Epochs.Known.{Good}
use Rattle.run_laws.proofs.Epochs.Run.{view_outside}
use Rattle.lawful_trace.specs.SiteRows.{makes_leave}
use Rattle.row_laws.specs.Orderly.Blocks.{IsBlock, starts_of, AreLinesApart}
use Rattle.row_laws.specs.Orderly.Numbers.{NumbersAscend}
use Rattle.row_laws.specs.Orderly.Quiet.{IsDead, OnPoll, IsQuiet}
use Rattle.row_laws.specs.Orderly.Rounds.{Ran, Unbroken}
use Rattle.row_laws.specs.Orderly.Settling.{Starts, AreApart, IsLive, PollOk}
use Rattle.row_laws.proofs.Orderly.ApartStarts.{Join}
use Rattle.row_laws.proofs.Orderly.Blocks.{InBlock, NoStarts, lines_in, before_block, round_within}
use Rattle.row_laws.proofs.Orderly.Quiet.{Still, greater_not, dead_sent, round_still, row_there}
use Rattle.row_laws.proofs.Orderly.Rounds.{RoundKept, acts_ran, budget_broken, settles_kept}
use Rattle.row_laws.proofs.Orderly.Settles.{InRound, round_kept}
use Rattle.row_laws.specs.OrderlyRows.Leaving.{LeaveTold, LeaveLine, Leavers, HasLeave, Leaves, IsAsked}
use Rattle.row_laws.proofs.OrderlyRows.Leaving.{Outside, inside_record, record_weaker, step_leaves}

-- ---- lines that are told ----

onto_leavers : (n : ℕ) (L : ℕ → Type 0) (told : List Told) (trace : List Line) → Every (LeaveTold L) told → Every (LeaveLine n L) trace → Every (LeaveLine n L) (told_onto n told trace)
onto_leavers n L [] trace h g = g
onto_leavers n L (x ∷ xs) trace h g = onto_leavers n L xs (record { number = n; told = x } ∷ trace) h.1 ((λ e. h.0), g)

happened_leavers : (n : ℕ) (L : ℕ → Type 0) (ps : List Packet) (told : List Told) (change : World → World) (w : World) → Every (LeaveTold L) told → Leavers n L w → Leavers n L (happened n ps told change w)
happened_leavers n L ps told change w h g = happened_keeps (Leavers n L) n ps told change w g (λ l. g) (λ k b t. onto_leavers n L told w.trace h g)

cut_leaves : (L : ℕ → Type 0) (s : ℕ) (before : Store) (d : DiskWrite) (how : Cut) (left : ℕ) → InsideRecord d.says → Every (LeaveTold L) (cut_told s before d how left)
cut_leaves L s before d how left h = elim (is_on_disk before d how left) as (λ b. Every (LeaveTold L) (cond b (Shown d.says ∷ Shown (says.Stopped s (cause_of how)) ∷ []) (Shown (says.Stopped s (cause_of how)) ∷ []))) [
  | true ↦ (inside_record L d.says h, (tt, tt))
  | false ↦ (tt, tt)
]

acts_leavers : (n : ℕ) (L : ℕ → Type 0) (s : ℕ) (v : SiteView) (o : Outcome SiteView) (w : World) → Leaves L o → Leavers n L w → Leavers n L (acts n s v o w)
acts_leavers n L s v o w h g =
    acts_cases (Leavers n L) n s v o w
    (happened_leavers n L o.sent o.told (λ now. puts s (Running o.view) now) w h.told g)
    (λ a. happened_leavers n L o.sent o.told (λ now. puts s (Running o.view) (arms a now)) w h.told g)
    (λ d a e. happened_leavers n L [] (cut_told s v.store d a.how a.left) _ w (cut_leaves L s v.store d a.how a.left (subst InsideWrite e h.written)) g)

-- ---- one event of a site ----

outside : (w : World) (s : ℕ) (v : SiteView) → Good w → place_at w s ≡ Some (Running v) → Outside v
outside w s v good here r round = view_outside (place_at w) s v (good.views s v here) ((good.views s v here).round r round).joins_later

event_leavers : (c : Config) (n : ℕ) (L : ℕ → Type 0) (s : ℕ) (e : Event) (v : SiteView) (w : World) → Good w → place_at w s ≡ Some (Running v) → (HasLeave v e → L s) → Leavers n L w → Leavers n L (acts n s v (step c s (links_of w s) v e) w)
event_leavers c n L s e v w good here l g = acts_leavers n L s v (step c s (links_of w s) v e) w (step_leaves L c s (links_of w s) v e (outside w s v good here) l) g

-- ---- while all is quiet ----

-- nobody leaves for a poll that is dead
dead_leaves : (at : _) (p : Packet) (v : SiteView) → OnPoll (IsDead at p) p.body → at p.to ≡ Some (Running v) → HasLeave v (Receives p) → ⊥
dead_leaves at p v dead here h = greater_not v.promised p.epoch (subst (OnPoll (IsDead at p)) h.0 dead v here (sym h.1.0)) h.1.1

received_leavers : (c : Config) (n : ℕ) (L : ℕ → Type 0) (x : Numbered) (v : SiteView) (w : World) → place_at w x.packet.to ≡ Some (Running v) → WasSent w x → Still w → Leavers n L w →
    Leavers n L (acts n x.packet.to v (step c x.packet.to (links_of (passed x.number w) x.packet.to) v (Receives x.packet)) (passed x.number w))
received_leavers c n L x v w here sent h g =
    acts_leavers n L x.packet.to v (step c x.packet.to (links_of (passed x.number w) x.packet.to) v (Receives x.packet)) (passed x.number w)
    (step_leaves L c x.packet.to (links_of (passed x.number w) x.packet.to) v (Receives x.packet) (outside w x.packet.to v h.good here) (λ k. absurd (dead_leaves (place_at w) x.packet v (dead_sent w x sent h.quiet) here k))) g

record StillLeavers (n : ℕ) (L : ℕ → Type 0) (w : World) : Type 0 where
  still : Still w
  leavers : Leavers n L w

still_round : (c : Config) (n : ℕ) (L : ℕ → Type 0) → RoundKept c n (StillLeavers n L)
still_round c n L = record {
  ticks = λ s v w here h. record { still = (round_still c n).ticks s v w here h.still; leavers = event_leavers c n L s Ticks v w h.still.good here (λ k. absurd k) h.leavers };
  receives = λ x v w here a undropped h. record { still = (round_still c n).receives x v w here a undropped h.still; leavers = received_leavers c n L x v w here (inr a) h.still h.leavers };
  drops = λ x w a never h. record { still = (round_still c n).drops x w a never h.still; leavers = h.leavers };
  budgets = λ w h. record { still = (round_still c n).budgets w h.still; leavers = happened_leavers n L [] (Shown says.Budget ∷ []) (λ now. now) w (tt, tt) h.leavers };
}

voids_leavers : (n : ℕ) (L : ℕ → Type 0) (b : Bool) (f : World → World) (w : World) → Leavers n L (f w) → Leavers n L w → Leavers n L (unless_void n b f w)
voids_leavers n L true f w h g = happened_leavers n L [] (Shown says.Void ∷ []) (λ now. now) w (tt, tt) g
voids_leavers n L false f w h g = h

happens_leavers : (c : Config) (n : ℕ) (L : ℕ → Type 0) (s : ℕ) (e : Event) (w : World) → Good w → ((v : SiteView) → HasLeave v e → L s) → Leavers n L w → Leavers n L (happens c n s e w)
happens_leavers c n L s e w good l g = by_place (place_at w s) refl
  where
    by_place : (o : Option Place) → place_at w s ≡ o → Leavers n L (happens_at c n s e o w)
    by_place None f = g
    by_place (Some (Stopped d)) f = g
    by_place (Some (Running v)) f = event_leavers c n L s e v w good f (l v) g

arrives_leavers : (c : Config) (n : ℕ) (L : ℕ → Type 0) (x : Numbered) (w : World) → WasSent w x → Still w → Leavers n L w → Leavers n L (arrives c n x w)
arrives_leavers c n L x w sent h g = by_place (place_at w x.packet.to) refl
  where
    happening : (v : SiteView) → place_at w x.packet.to ≡ Some (Running v) → Leavers n L (happens_at c n x.packet.to (Receives x.packet) (place_at w x.packet.to) (passed x.number w))
    happening v e = subst (λ (o : Option Place). Leavers n L (happens_at c n x.packet.to (Receives x.packet) o (passed x.number w))) (sym e) (received_leavers c n L x v w e sent h g)

    by_place : (o : Option Place) → place_at w x.packet.to ≡ o → Leavers n L (arrives_at c n x.packet o (passed x.number w))
    by_place None e = g
    by_place (Some (Stopped d)) e = g
    by_place (Some (Running v)) e =
        elim (is_dropped x.packet v) as (λ b. Leavers n L (elim b [ true ↦ passed x.number w | false ↦ happens c n x.packet.to (Receives x.packet) (passed x.number w) ])) [
          | true ↦ g
          | false ↦ happening v e
        ]

delivered_leavers : (c : Config) (n : ℕ) (L : ℕ → Type 0) (j : ℕ) (o : Option Numbered) (w : World) → packet_at w j ≡ o → Still w → Leavers n L w → Leavers n L (delivers_line c n o w)
delivered_leavers c n L j None w e h g = happened_leavers n L [] (Shown says.Void ∷ []) (λ now. now) w (tt, tt) g
delivered_leavers c n L j (Some x) w e h g = voids_leavers n L (is_lost w x.number || not (can_come w x)) (arrives c n x) w (arrives_leavers c n L x w (inl (row_there _ j w.sent x e)) h g) g

lost_leavers : (n : ℕ) (L : ℕ → Type 0) (o : Option Numbered) (w : World) → Leavers n L w → Leavers n L (loses_line n o w)
lost_leavers n L None w g = happened_leavers n L [] (Shown says.Void ∷ []) (λ now. now) w (tt, tt) g
lost_leavers n L (Some x) w g = voids_leavers n L (is_lost w x.number) (loses x.number) w g g

stopped_leavers : (n : ℕ) (L : ℕ → Type 0) (s : ℕ) (o : Option Place) (w : World) → Leavers n L w → Leavers n L (stops_line n s o w)
stopped_leavers n L s None w g = happened_leavers n L [] (Shown says.Void ∷ []) (λ now. now) w (tt, tt) g
stopped_leavers n L s (Some (Stopped d)) w g = happened_leavers n L [] (Shown says.Void ∷ []) (λ now. now) w (tt, tt) g
stopped_leavers n L s (Some (Running v)) w g = happened_leavers n L [] (Shown (says.Stopped s cause.Asked) ∷ []) (stops_with s (disk_of v)) w (tt, tt) g

booted_leavers : (n : ℕ) (L : ℕ → Type 0) (s : ℕ) (b : Booted) (w : World) → Leavers n L w → Leavers n L (boots_as n s b w)
booted_leavers n L s (Whole d a) w g = happened_leavers n L [] (Shown (says.Up s d.label.boot) ∷ []) _ w (tt, tt) g
booted_leavers n L s (CutOff d how) w g = happened_leavers n L [] (Shown (says.Stopped s (cause_of how)) ∷ []) (stops_with s d) w (tt, tt) g

boots_leavers : (n : ℕ) (L : ℕ → Type 0) (s : ℕ) (o : Option Place) (w : World) → Leavers n L w → Leavers n L (boots_line n s o w)
boots_leavers n L s None w g = happened_leavers n L [] (Shown says.Void ∷ []) (λ now. now) w (tt, tt) g
boots_leavers n L s (Some (Running v)) w g = happened_leavers n L [] (Shown says.Void ∷ []) (λ now. now) w (tt, tt) g
boots_leavers n L s (Some (Stopped d)) w g = booted_leavers n L s (boots (script_of w s) d) w g

pending_leaves : (L : ℕ → Type 0) (xs : List Numbered) → Every (LeaveTold L) (map packet_record xs)
pending_leaves L [] = tt
pending_leaves L (x ∷ xs) = (tt, pending_leaves L xs)

-- the site whose equal_self line this is
abbrev pub Own : ScheduleLine → ℕ → Type 0
Own x s = makes_leave x s ≡ true

-- a line of its equal_self, whatever stands before it
pub part_leavers : (c : Config) (n s : ℕ) (w : World) → Good w → Leavers n (Own (EventLine (line.Part s))) w → Leavers n (Own (EventLine (line.Part s))) (acts_line c n (EventLine (line.Part s)) w)
part_leavers c n s w good g = voids_leavers n _ (is_in_no_epoch (place_at w s)) (happens c n s Parts) w (happens_leavers c n _ s Parts w good (λ v k. equal_self s) g) g

pub merge_leavers : (c : Config) (n s : ℕ) (w : World) → Good w → Leavers n (Own (EventLine (line.Merge s))) w → Leavers n (Own (EventLine (line.Merge s))) (acts_line c n (EventLine (line.Merge s)) w)
merge_leavers c n s w good g = voids_leavers n _ (is_stopped (place_at w s)) (happens c n s Merges) w (happens_leavers c n _ s Merges w good (λ v k. equal_self s) g) g

act_leavers : (c : Config) (n : ℕ) (x : LineWords) (w : World) → Still w → Leavers n (Own (EventLine x)) w → Leavers n (Own (EventLine x)) (act c n x w)
act_leavers c n (line.Call s process words) w h g = voids_leavers n _ (is_busy process (place_at w s)) (happens c n s (Calls process words)) w (happens_leavers c n _ s (Calls process words) w h.good (λ v k. absurd k) g) g
act_leavers c n (line.Deliver j) w h g = delivered_leavers c n _ j (packet_at w j) w refl h g
act_leavers c n (line.Lose j) w h g = lost_leavers n _ (packet_at w j) w g
act_leavers c n (line.Tick s) w h g = voids_leavers n _ (is_stopped (place_at w s)) (happens c n s Ticks) w (happens_leavers c n _ s Ticks w h.good (λ v k. absurd k) g) g
act_leavers c n (line.Down a b) w h g = voids_leavers n _ _ (cuts_circuit a b) w g g
act_leavers c n (line.Up a b) w h g = voids_leavers n _ _ (mends_circuit a b) w g g
act_leavers c n (line.Part s) w h g = part_leavers c n s w h.good g
act_leavers c n (line.Merge s) w h g = merge_leavers c n s w h.good g
act_leavers c n (line.GiveUp s) w h g = voids_leavers n _ (is_in_no_epoch (place_at w s)) (happens c n s GivesUp) w (happens_leavers c n _ s GivesUp w h.good (λ v k. equal_self s) g) g
act_leavers c n (line.Stop s) w h g = stopped_leavers n _ s (place_at w s) w g
act_leavers c n (line.ArmStop s calls l) w h g = g
act_leavers c n (line.ArmFail s calls) w h g = g
act_leavers c n (line.Boot s) w h g = boots_leavers n _ s (place_at w s) w g
act_leavers c n (line.Settle budget) w h g = (settles_kept c n (StillLeavers n (Own (EventLine (line.Settle budget)))) (still_round c n (Own (EventLine (line.Settle budget)))) budget w (record { still = h; leavers = g })).0.leavers
act_leavers c n line.Pending w h g = happened_leavers n _ [] (map packet_record w.underway) (λ now. now) w (pending_leaves _ w.underway) g

-- while all is quiet
pub quiet_leavers : (c : Config) (n : ℕ) (x : ScheduleLine) (w : World) → Still w → Leavers n (Own x) w → Leavers n (Own x) (acts_line c n x w)
quiet_leavers c n Passed w h g = g
quiet_leavers c n (Header y) w h g = g
quiet_leavers c n (EventLine y) w h g = act_leavers c n y w h g

-- ---- in the round that ends a block ----

record RoundLeavers (first : World) (R : Starts) (n : ℕ) (w : World) : Type 0 where
  round : InRound first R n w
  leavers : Unbroken n w → Leavers n (IsAsked R) w

asked_poll : (first : World) (R : Starts) (at : _) (p : Packet) (v : SiteView) → OnPoll (IsDead at p ⊎ IsLive first R p) p.body → at p.to ≡ Some (Running v) → HasLeave v (Receives p) → IsAsked R p.to
asked_poll first R at p v ok here h = by_case (subst (OnPoll (IsDead at p ⊎ IsLive first R p)) h.0 ok)
  where
    by_case : IsDead at p ⊎ IsLive first R p → IsAsked R p.to
    by_case (inl dead) = absurd (greater_not v.promised p.epoch (dead v here (sym h.1.0)) h.1.1)
    by_case (inr live) = record { by = p.epoch.site; polled = live.polled; starts = live.starts; asked = λ z. live.some (sym live.asked ∙ z) }

round_leavers : (c : Config) (n : ℕ) (first : World) (R : Starts) → AreApart first R → RoundKept c n (RoundLeavers first R n)
round_leavers c n first R apart = record {
  ticks = λ s v w here h. record {
    round = kept.ticks s v w here h.round;
    leavers = λ k. (let r : Ran n s (step c s (links_of w s) v Ticks) w (acts n s v (step c s (links_of w s) v Ticks) w) = acts_ran n s v (step c s (links_of w s) v Ticks) w k in
        event_leavers c n (IsAsked R) s Ticks v w h.round.good here (λ j. absurd j) (h.leavers r.before));
  };
  receives = λ x v w here a undropped h. record { round = kept.receives x v w here a undropped h.round; leavers = λ k. taken x v w here a h k };
  drops = λ x w a dropped h. record { round = kept.drops x w a dropped h.round; leavers = λ k. h.leavers (record { within = k.within; whole = k.whole }) };
  budgets = λ w h. record { round = kept.budgets w h.round; leavers = λ k. absurd (budget_broken n w k) };
}
  where
    kept : RoundKept c n (InRound first R n)
    kept = round_kept c n first R apart

    taken : (x : Numbered) (v : SiteView) (w : World) → place_at w x.packet.to ≡ Some (Running v) → Among x w.underway → RoundLeavers first R n w →
        Unbroken n (acts n x.packet.to v (step c x.packet.to (links_of (passed x.number w) x.packet.to) v (Receives x.packet)) (passed x.number w)) → Leavers n (IsAsked R) (acts n x.packet.to v (step c x.packet.to (links_of (passed x.number w) x.packet.to) v (Receives x.packet)) (passed x.number w))
    taken x v w here a h k =
        let o : Outcome SiteView = step c x.packet.to (links_of (passed x.number w) x.packet.to) v (Receives x.packet) in
        let r : Ran n x.packet.to o (passed x.number w) (acts n x.packet.to v o (passed x.number w)) = acts_ran n x.packet.to v o (passed x.number w) k in
        let b : Unbroken n w = record { within = r.before.within; whole = r.before.whole } in
        acts_leavers n (IsAsked R) x.packet.to v o (passed x.number w)
        (step_leaves (IsAsked R) c x.packet.to (links_of (passed x.number w) x.packet.to) v (Receives x.packet) (outside w x.packet.to v h.round.good here)
        (asked_poll first R (place_at w) x.packet v (found_among (PollOk first R (place_at w)) x w.underway (h.round.settling b).underway a) here)) (h.leavers b)

-- ---- a block and its round ----

-- no line that is told has this number yet
abbrev pub IsNew : ℕ → Line → Type 0
IsNew n x = x.number ≡ n → ⊥

new_leavers : (n : ℕ) (L : ℕ → Type 0) (x : Line) → IsNew n x → LeaveLine n L x
new_leavers n L x h e = absurd (h e)

pub new_line : (n : ℕ) (L : ℕ → Type 0) (w : World) → Every (IsNew n) w.trace → Leavers n L w
new_line n L w h = every_weaker (IsNew n) (LeaveLine n L) w.trace (λ x. new_leavers n L x) h

told_weaker : (L M : ℕ → Type 0) (x : Told) → ((s : ℕ) → L s → M s) → LeaveTold L x → LeaveTold M x
told_weaker L M (Shown r) f h = record_weaker L M r f h
told_weaker L M _ f h = tt

pub leavers_weaker : (n : ℕ) (L M : ℕ → Type 0) (w : World) → ((s : ℕ) → L s → M s) → Leavers n L w → Leavers n M w
leavers_weaker n L M w f h = every_weaker (LeaveLine n L) (LeaveLine n M) w.trace (λ x k e. told_weaker L M x.told f (k e)) h

asked_in : (S : Starts) (s : ℕ) → IsAsked (Join NoStarts S) s → IsAsked S s
asked_in S s h = record { by = h.by; polled = h.polled; starts = starts h.starts; asked = h.asked }
  where
    starts : Join NoStarts S h.by h.polled → S h.by h.polled
    starts (inl k) = absurd k
    starts (inr k) = k

-- in the round that ends a block only sites leave that one of those that start asks
pub block_leavers : (c : Config) (n m most : ℕ) (first : World) (block : List ScheduleLine) → Good first → NumbersAscend first → IsQuiet first → IsBlock c n block first → AreLinesApart first c n block first → Unbroken m (settles c m most (run_from c n block first)) → Every (IsNew m) (run_from c n block first).trace →
    Leavers m (IsAsked (starts_of c n block first)) (settles c m most (run_from c n block first))
block_leavers c n m most first block good ascend quiet is apart whole new =
    let w : World = run_from c n block first in
    let R : Starts = Join NoStarts (starts_of c n block first) in
    let within : w.over ≡ None = (settles_kept c m (λ (u : World). u.over ≡ None → w.over ≡ None) (round_within c m w) most w (λ k. k)).0 whole.within in
    let h : InBlock first w R = lines_in c n first first NoStarts block (record { itself = λ X P k. absurd k; differ = λ X P Y L k. absurd k; apart = λ X P Y L t k. absurd k }) apart is (before_block first good ascend quiet) within in
    let g : RoundLeavers first R m (settles c m most w) = (settles_kept c m (RoundLeavers first R m) (round_leavers c m first R h.apart) most w (record { round = record { good = h.good; ascend = h.ascend; settling = λ k. h.settling }; leavers = λ k. new_line m (IsAsked R) w new })).0 in
    leavers_weaker m (IsAsked R) (IsAsked (starts_of c n block first)) (settles c m most w) (asked_in (starts_of c n block first)) (g.leavers whole)
