-- What every event keeps stands at each event in the course of a line.
use Rattle.std.proofs.Common.{◌≡◌, ℕ, zero, suc, ◌+◌, true, List, [], ◌∷◌, ◌++◌, length, Option, None, Some, refl, sym, ◌∙◌, ap, subst, inl, inr, arith}
use Rattle.locus_ids.specs.declared.config.Config.{Config}
use Rattle.schedule_lines.specs.Ranges.{fits_event}
use Rattle.schedule_lines.specs.declared.line.Line.{Line as LineWords}
use Rattle.schedule_lines.specs.declared.line.Line.TheVariants as line
use Rattle.schedule_lines.specs.declared.line.ScheduleLine.{ScheduleLine}
use Rattle.schedule_lines.specs.declared.line.ScheduleLine.TheVariants.{Event as EventLine}
use Rattle.role_steps.specs.Views.{Event, Calls, Receives, Ticks, Parts, Merges, GivesUp, all_sites}
use Rattle.the_run.specs.Kept.{Among, WasSent}
use Rattle.the_run.specs.Laws.{Grows}
use Rattle.the_run.specs.Runs.{acts_line, arrives, delivers, ends_round, goes_round, next_packet, packet_at, run_in, settles, ticks_to}
use Rattle.the_run.specs.Worlds.{World, Line, Numbered, first_world, happens, number_of}
use Rattle.the_run.proofs.Growing.{run_grows, run_splits}
use Rattle.packet_laws.specs.of_row_laws.ByLine.{IsLine, KeptIn}
use Rattle.packet_laws.proofs.of_row_laws.ByLine.{line_here}
use Rattle.calm_laws.proofs.of_row_laws.Orderly.Rounds.{RoundKept, arrives_kept, next_among, ticks_kept}
use Rattle.calm_laws.proofs.Moments.{GoesOn, goes_itself, goes_round_kept}
use Rattle.packet_laws.proofs.of_store_laws.OneTree.Rising.{row_key}
use Rattle.complete_laws.specs.MomentEvents.{OfEvent, WherePacket, WhereTicks, WhereNext, WhereDelivered, EachEvent}
use Rattle.complete_laws.specs.MomentMoments.{MayCome}

-- ---- what a round keeps ----

pub round_of_line : (c : Config) (lines : List ScheduleLine) (n most : ℕ) (P : World → Type 0) → IsLine lines n (line.Settle most) → KeptIn c lines (λ k w. P w) → RoundKept c n P
round_of_line c lines n most P is k = record {
  ticks = λ s v w here p. k.ticks n most s v w is here p;
  receives = λ x v w here a undropped p. k.receives n (line.Settle most) x v w is tt here (inr a) p;
  drops = λ x w a dropped p. k.passes n x.number w p;
  budgets = λ w p. k.budgets n most w is p;
}

pub round_both : (c : Config) (n : ℕ) (P Q : World → Type 0) → RoundKept c n P → RoundKept c n Q → RoundKept c n (λ w. P w × Q w)
round_both c n P Q h k = record {
  ticks = λ s v w here p. (h.ticks s v w here p.0, k.ticks s v w here p.1);
  receives = λ x v w here a undropped p. (h.receives x v w here a undropped p.0, k.receives x v w here a undropped p.1);
  drops = λ x w a dropped p. (h.drops x w a dropped p.0, k.drops x w a dropped p.1);
  budgets = λ w p. (h.budgets w p.0, k.budgets w p.1);
}

delivers_kept : (c : Config) (n : ℕ) (P : World → Type 0) → RoundKept c n P → (budget : ℕ) (w : World) → P w → P (delivers c n budget w)
delivers_kept c n P k zero w p = ends (next_packet w)
  where
    ends : (o : Option Numbered) → P (ends_round n w o)
    ends None = p
    ends (Some x) = k.budgets w p
delivers_kept c n P k (suc budget) w p = goes (delivers_kept c n P k budget) (next_packet w) refl
  where
    goes : ((u : World) → P u → P (delivers c n budget u)) → (o : Option Numbered) → next_packet w ≡ o → P (goes_round c n (delivers c n budget) w o)
    goes rest None e = p
    goes rest (Some x) e = rest (arrives c n x w) (arrives_kept c n P k x w (next_among w w.over x e) p)

-- the later world has all lines of the trace
abbrev pub IsBefore : World → World → Type 0
IsBefore first w = (new : List Line) × (w.trace ≡ new ++ first.trace)

-- ---- the events of a round ----

module _ (c : Config) (n : ℕ) (P : World → Type 0) (Q : OfEvent) (kept : RoundKept c n P) (end : World) (give : (s : ℕ) (e : Event) (w : World) → MayCome c w s e → P w → IsBefore w end → Q s e w) where
  goes_to : (w : World) → GoesOn w end → IsBefore w end
  goes_to w g = (g.lines, g.trace)

  by_next : (budget : ℕ) (w : World) → P w → IsBefore w end → ((u : World) → P u → delivers c n budget u ≡ end → WhereDelivered Q c n budget u) → (o : Option Numbered) → next_packet w ≡ o → goes_round c n (delivers c n budget) w o ≡ end → WhereNext Q c n (WhereDelivered Q c n budget) w o
  by_next budget w p before rest None e k = tt
  by_next budget w p before rest (Some x) e k =
      let among : Among x w.underway = next_among w w.over x e in
      (give x.packet.to (Receives x.packet) w (x, inr among, refl, refl) p before, rest (arrives c n x w) (arrives_kept c n P kept x w among p) k)

  where_delivered : (budget : ℕ) (w : World) → P w → delivers c n budget w ≡ end → WhereDelivered Q c n budget w
  where_delivered zero w p e = tt
  where_delivered (suc budget) w p e =
      by_next budget w p (goes_to w (subst (λ (u : World). GoesOn w u) e (delivers_kept c n (GoesOn w) (goes_round_kept c n w) (suc budget) w (goes_itself w)))) (where_delivered budget) (next_packet w) refl e

  where_ticks : (ss : List ℕ) (budget : ℕ) (w : World) → P w → delivers c n budget (ticks_to c n ss w) ≡ end → WhereTicks Q c n ss w
  where_ticks [] budget w p e = tt
  where_ticks (s ∷ ss) budget w p e =
      let first : GoesOn w (ticks_to c n (s ∷ ss) w) = ticks_kept c n (GoesOn w) (goes_round_kept c n w) (s ∷ ss) w (goes_itself w) in
      let last : GoesOn w (delivers c n budget (ticks_to c n (s ∷ ss) w)) = delivers_kept c n (GoesOn w) (goes_round_kept c n w) budget (ticks_to c n (s ∷ ss) w) first in
      (give s Ticks w tt p (goes_to w (subst (λ (u : World). GoesOn w u) e last)), where_ticks ss budget (happens c n s Ticks w) (ticks_kept c n P kept (s ∷ []) w p) e)

  where_settled : (budget : ℕ) (w : World) → P w → settles c n budget w ≡ end → WhereTicks Q c n all_sites w × WhereDelivered Q c n budget (ticks_to c n all_sites w)
  where_settled budget w p e = (where_ticks all_sites budget w p e, where_delivered budget (ticks_to c n all_sites w) (ticks_kept c n P kept all_sites w p) e)

-- ---- the events of a line ----

-- the line is the last one of these
pub last_line : (lines : List ScheduleLine) (l : LineWords) → IsLine (lines ++ EventLine l ∷ []) (length lines + 1) l
last_line lines l = line_here (lines ++ EventLine l ∷ []) lines (EventLine l) [] (length lines) refl refl

with_line : (c : Config) (lines : List ScheduleLine) (l : LineWords) → acts_line c (length lines + 1) (EventLine l) (run_in c lines) ≡ run_in c (lines ++ EventLine l ∷ [])
with_line c lines l = ap (λ (k : ℕ). acts_line c k (EventLine l) (run_in c lines)) {x = length lines + 1} {y = 1 + length lines} (omega arith) ∙ sym (run_splits c 1 lines (EventLine l ∷ []) (first_world c))

-- what is given of an event that may come, where the property stands
abbrev pub Gives : Config → (World → Type 0) → OfEvent → World → Type 0
Gives c P Q end = (s : ℕ) (e : Event) (w : World) → MayCome c w s e → P w → IsBefore w end → Q s e w

pub each_event : (c : Config) (P : World → Type 0) (Q : OfEvent) (lines : List ScheduleLine) (l : LineWords) → fits_event c.sites l ≡ true → P (run_in c lines) → ((most : ℕ) → l ≡ line.Settle most → RoundKept c (length lines + 1) P) → Gives c P Q (run_in c (lines ++ EventLine l ∷ [])) →
    EachEvent Q c (length lines + 1) l (run_in c lines)
each_event c P Q lines l fit p kept give = by_line l fit kept give (run_grows c lines (EventLine l ∷ [])) (with_line c lines l)
  where
    w : World
    w = run_in c lines

    by_packet : (end : World) → Gives c P Q end → IsBefore w end → (o : Option Numbered) → ((x : Numbered) → o ≡ Some x → WasSent w x) → WherePacket Q o w
    by_packet end give before None sent = tt
    by_packet end give before (Some x) sent = give x.packet.to (Receives x.packet) w (x, sent x refl, refl, refl) p before

    by_line : (l : LineWords) → fits_event c.sites l ≡ true → ((most : ℕ) → l ≡ line.Settle most → RoundKept c (length lines + 1) P) → Gives c P Q (run_in c (lines ++ EventLine l ∷ [])) →
        Grows w (run_in c (lines ++ EventLine l ∷ [])) → acts_line c (length lines + 1) (EventLine l) w ≡ run_in c (lines ++ EventLine l ∷ []) → EachEvent Q c (length lines + 1) l w
    by_line (line.Call s process words) fit kept give g e = λ idle. give s (Calls process words) w (fit, idle) p (g.lines, g.trace)
    by_line (line.Deliver k) fit kept give g e = by_packet (run_in c (lines ++ EventLine (line.Deliver k) ∷ [])) give (g.lines, g.trace) (packet_at w k) (λ x q. inl (row_key number_of k w.sent x q).0)
    by_line (line.Tick s) fit kept give g e = give s Ticks w tt p (g.lines, g.trace)
    by_line (line.Part s) fit kept give g e = λ inside. give s Parts w tt p (g.lines, g.trace)
    by_line (line.Merge s) fit kept give g e = give s Merges w tt p (g.lines, g.trace)
    by_line (line.GiveUp s) fit kept give g e = λ inside. give s GivesUp w tt p (g.lines, g.trace)
    by_line (line.Settle budget) fit kept give g e = where_settled c (length lines + 1) P Q (kept budget refl) (run_in c (lines ++ EventLine (line.Settle budget) ∷ [])) give budget w p e
    by_line (line.Lose k) fit kept give g e = tt
    by_line (line.Down one other) fit kept give g e = tt
    by_line (line.Up one other) fit kept give g e = tt
    by_line (line.Stop s) fit kept give g e = tt
    by_line (line.ArmStop s calls leave) fit kept give g e = tt
    by_line (line.ArmFail s calls) fit kept give g e = tt
    by_line (line.Boot s) fit kept give g e = tt
    by_line line.Pending fit kept give g e = tt

-- what is known of two things of each event is known of both
pub each_both : (c : Config) (Q R S : OfEvent) → ((s : ℕ) (e : Event) (w : World) → Q s e w → R s e w → S s e w) → (n : ℕ) (l : LineWords) (w : World) → EachEvent Q c n l w → EachEvent R c n l w → EachEvent S c n l w
each_both c Q R S both n l w h k = by_line l h k
  where
    packet : (o : Option Numbered) (u : World) → WherePacket Q o u → WherePacket R o u → WherePacket S o u
    packet None u h k = tt
    packet (Some x) u h k = both x.packet.to (Receives x.packet) u h k

    ticks : (ss : List ℕ) (u : World) → WhereTicks Q c n ss u → WhereTicks R c n ss u → WhereTicks S c n ss u
    ticks [] u h k = tt
    ticks (s ∷ ss) u h k = (both s Ticks u h.0 k.0, ticks ss (happens c n s Ticks u) h.1 k.1)

    next : (A B D : World → Type 0) → ((u : World) → A u → B u → D u) → (u : World) (o : Option Numbered) → WhereNext Q c n A u o → WhereNext R c n B u o → WhereNext S c n D u o
    next A B D rest u None h k = tt
    next A B D rest u (Some x) h k = (both x.packet.to (Receives x.packet) u h.0 k.0, rest (arrives c n x u) h.1 k.1)

    delivered : (budget : ℕ) (u : World) → WhereDelivered Q c n budget u → WhereDelivered R c n budget u → WhereDelivered S c n budget u
    delivered zero u h k = tt
    delivered (suc budget) u h k = next (WhereDelivered Q c n budget) (WhereDelivered R c n budget) (WhereDelivered S c n budget) (delivered budget) u (next_packet u) h k

    by_line : (l : LineWords) → EachEvent Q c n l w → EachEvent R c n l w → EachEvent S c n l w
    by_line (line.Call s process words) h k = λ idle. both s (Calls process words) w (h idle) (k idle)
    by_line (line.Deliver j) h k = packet (packet_at w j) w h k
    by_line (line.Tick s) h k = both s Ticks w h k
    by_line (line.Part s) h k = λ inside. both s Parts w (h inside) (k inside)
    by_line (line.Merge s) h k = both s Merges w h k
    by_line (line.GiveUp s) h k = λ inside. both s GivesUp w (h inside) (k inside)
    by_line (line.Settle budget) h k = (ticks all_sites w h.0 k.0, delivered budget (ticks_to c n all_sites w) h.1 k.1)
    by_line (line.Lose j) h k = tt
    by_line (line.Down one other) h k = tt
    by_line (line.Up one other) h k = tt
    by_line (line.Stop s) h k = tt
    by_line (line.ArmStop s calls leave) h k = tt
    by_line (line.ArmFail s calls) h k = tt
    by_line (line.Boot s) h k = tt
    by_line line.Pending h k = tt
