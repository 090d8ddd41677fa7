-- Once a limit was passed, no line changes the text or the limit.
use Rattle.std.proofs.Common.{◌≡◌, ℕ, zero, suc, nat_lt, List, [], ◌∷◌, Option, Some, None, Bool, true, false, not, refl, sym, ap, ◌∙◌}
use Rattle.locus_ids.specs.declared.config.Config.{Config}
use Rattle.schedule_lines.specs.declared.line.Line.{Line as LineWords}
use Rattle.schedule_lines.specs.declared.line.Line.TheVariants as line
use Rattle.wire_messages.specs.declared.packet.Packet.{Packet}
use Rattle.role_steps.specs.Views.{SiteView, DiskWrite, Outcome, Event, Calls, Ticks, Parts, Merges, GivesUp, Receives, all_sites}
use Rattle.the_run.specs.Disks.{Armed, Booted, Whole, CutOff, write_calls, boots}
use Rattle.the_run.specs.Steps.{step, is_dropped}
use Rattle.the_run.specs.Worlds.{World, Limit, Line, Place, Running, Stopped, Numbered, place_at, links_of, script_of, voids, runs_on, spends, cut_event, writes_of, acts_of, happens_at, happens, passed, loses, is_cut}
use Rattle.the_run.specs.Runs.{packet_at, next_packet, next_packet_of, arrives_at, arrives, goes_round, ends_round, delivers, ticks_to, settles, unless_void, delivers_line, loses_line, stops_line, boots_as, boots_line, act, shown_onto, is_busy, is_stopped, is_in_no_epoch, cuts_circuit, mends_circuit}
use Rattle.the_run.specs.Commands.{counts_onto, no_counts}
use Rattle.run_book.specs.Writings.{written_of}
use Rattle.world.specs.States.{WorldState}
use Rattle.world.specs.Shown.{Taken, Shows}
use Rattle.world.proofs.Events.{over_happened}

-- the text and the limit are as they were
pub record Ended (old new : World) : Type 0 where
  pub trace : new.trace ≡ old.trace
  pub over : new.over ≡ old.over

pub ended_same : (w v : World) → v ≡ w → Ended w v
ended_same w v e = record { trace = ap (λ (x : World). x.trace) e; over = ap (λ (x : World). x.over) e }

-- what is shown of a world that has ended
pub ended_shown : (c : Config) (taken : Taken) (w v : World) (x : WorldState) (l : Limit) → w.over ≡ Some l → Ended w v → Shows c taken w x → Shows c taken v x
ended_shown c taken w v x l e k sh = record {
  config = sh.config;
  writing = sh.writing;
  book = record {
    written = ap (λ (t : List Line). written_of x.book.writing (shown_onto t [])) k.trace ∙ sh.book.written;
    counts = ap (λ (t : List Line). counts_onto no_counts (shown_onto t [])) k.trace ∙ sh.book.counts;
    over = sh.book.over ∙ sym k.over;
    whole = λ f. absurd (let g : v.over ≡ Some l = k.over ∙ e in cc);
  };
  sites = λ f. absurd (let g : v.over ≡ Some l = k.over ∙ e in cc);
}

module _ (c : Config) (n : ℕ) (l : Limit) where
  armed_over : (s : ℕ) (v : SiteView) (o : Outcome SiteView) (d : DiskWrite) (a : Armed) (left : ℕ) (b : Bool) (w : World) → w.over ≡ Some l → ◌≡◌ {A = World} (elim b [ true ↦ cut_event n s v d a w | false ↦ runs_on n s o (spends a left) w ]) w
  armed_over s v o d a left true w e = over_happened n _ _ _ w l e
  armed_over s v o d a left false w e = over_happened n _ _ _ w l e

  writes_over : (s : ℕ) (v : SiteView) (o : Outcome SiteView) (d : DiskWrite) (a : Option Armed) (w : World) → w.over ≡ Some l → writes_of n s v o d a w ≡ w
  writes_over s v o d None w e = over_happened n _ _ _ w l e
  writes_over s v o d (Some a) w e = armed_over s v o d a _ (nat_lt a.left (write_calls v.store d)) w e

  acts_over : (s : ℕ) (v : SiteView) (o : Outcome SiteView) (d : Option DiskWrite) (w : World) → w.over ≡ Some l → acts_of n s v o d w ≡ w
  acts_over s v o None w e = over_happened n _ _ _ w l e
  acts_over s v o (Some d) w e = writes_over s v o d (script_of w s) w e

  happens_over_at : (s : ℕ) (x : Event) (p : Option Place) (w : World) → w.over ≡ Some l → happens_at c n s x p w ≡ w
  happens_over_at s x None w e = refl
  happens_over_at s x (Some (Stopped d)) w e = refl
  happens_over_at s x (Some (Running v)) w e = acts_over s v (step c s (links_of w s) v x) (step c s (links_of w s) v x).written w e

  pub happens_over : (s : ℕ) (x : Event) (w : World) → w.over ≡ Some l → happens c n s x w ≡ w
  happens_over s x w e = happens_over_at s x (place_at w s) w e

  voids_over : (w : World) → w.over ≡ Some l → voids n w ≡ w
  voids_over w e = over_happened n _ _ _ w l e

  unless_over_void : (b : Bool) (f : World → World) (w : World) → w.over ≡ Some l → Ended w (f w) → Ended w (unless_void n b f w)
  unless_over_void true f w e k = ended_same w (voids n w) (voids_over w e)
  unless_over_void false f w e k = k

  dropped_over : (p : Packet) (b : Bool) (w : World) → w.over ≡ Some l → ◌≡◌ {A = World} (elim b [ true ↦ w | false ↦ happens c n p.to (Receives p) w ]) w
  dropped_over p true w e = refl
  dropped_over p false w e = happens_over p.to (Receives p) w e

  arrives_over : (p : Packet) (q : Option Place) (w : World) → w.over ≡ Some l → arrives_at c n p q w ≡ w
  arrives_over p None w e = refl
  arrives_over p (Some (Stopped d)) w e = refl
  arrives_over p (Some (Running v)) w e = dropped_over p (is_dropped p v) w e

  -- the packet isn't under way any more, and nothing else
  arrived_over : (x : Numbered) (w : World) → w.over ≡ Some l → Ended w (arrives c n x w)
  arrived_over x w e =
      let f : arrives c n x w ≡ passed x.number w = arrives_over x.packet (place_at w x.packet.to) (passed x.number w) e in
      record { trace = ap (λ (v : World). v.trace) f; over = ap (λ (v : World). v.over) f }

  delivers_over : (x : Option Numbered) (w : World) → w.over ≡ Some l → Ended w (delivers_line c n x w)
  delivers_over None w e = ended_same w (voids n w) (voids_over w e)
  delivers_over (Some x) w e = unless_over_void _ (arrives c n x) w e (arrived_over x w e)

  loses_over : (x : Option Numbered) (w : World) → w.over ≡ Some l → Ended w (loses_line n x w)
  loses_over None w e = ended_same w (voids n w) (voids_over w e)
  loses_over (Some x) w e = unless_over_void _ (loses x.number) w e (record { trace = refl; over = refl })

  stops_over : (s : ℕ) (p : Option Place) (w : World) → w.over ≡ Some l → stops_line n s p w ≡ w
  stops_over s None w e = voids_over w e
  stops_over s (Some (Stopped d)) w e = voids_over w e
  stops_over s (Some (Running v)) w e = over_happened n _ _ _ w l e

  booted_over : (s : ℕ) (b : Booted) (w : World) → w.over ≡ Some l → boots_as n s b w ≡ w
  booted_over s (Whole d a) w e = over_happened n _ _ _ w l e
  booted_over s (CutOff d how) w e = over_happened n _ _ _ w l e

  boots_over : (s : ℕ) (p : Option Place) (w : World) → w.over ≡ Some l → boots_line n s p w ≡ w
  boots_over s None w e = voids_over w e
  boots_over s (Some (Running v)) w e = voids_over w e
  boots_over s (Some (Stopped d)) w e = booted_over s (boots (script_of w s) d) w e

  ticks_over : (ss : List ℕ) (w : World) → w.over ≡ Some l → ticks_to c n ss w ≡ w
  ticks_over [] w e = refl
  ticks_over (s ∷ ss) w e = let f : happens c n s Ticks w ≡ w = happens_over s Ticks w e in ap (ticks_to c n ss) f ∙ ticks_over ss w e

  pub none_over : (w : World) → w.over ≡ Some l → next_packet w ≡ None
  none_over w e = ap (next_packet_of w) e

  pub round_over : (budget : ℕ) (w : World) → w.over ≡ Some l → delivers c n budget w ≡ w
  round_over zero w e = ap (ends_round n w) (none_over w e)
  round_over (suc budget) w e = ap (goes_round c n (delivers c n budget) w) (none_over w e)

  settles_over : (budget : ℕ) (w : World) → w.over ≡ Some l → settles c n budget w ≡ w
  settles_over budget w e = ap (delivers c n budget) (ticks_over all_sites w e) ∙ round_over budget w e

  pub act_over : (x : LineWords) (w : World) → w.over ≡ Some l → Ended w (act c n x w)
  act_over (line.Call s process words) w e = unless_over_void (is_busy process (place_at w s)) (happens c n s (Calls process words)) w e (ended_same w _ (happens_over s (Calls process words) w e))
  act_over (line.Deliver k) w e = delivers_over (packet_at w k) w e
  act_over (line.Lose k) w e = loses_over (packet_at w k) w e
  act_over (line.Tick s) w e = unless_over_void (is_stopped (place_at w s)) (happens c n s Ticks) w e (ended_same w _ (happens_over s Ticks w e))
  act_over (line.Down a b) w e = unless_over_void (is_cut w a b) (cuts_circuit a b) w e (record { trace = refl; over = refl })
  act_over (line.Up a b) w e = unless_over_void (not (is_cut w a b)) (mends_circuit a b) w e (record { trace = refl; over = refl })
  act_over (line.Part s) w e = unless_over_void (is_in_no_epoch (place_at w s)) (happens c n s Parts) w e (ended_same w _ (happens_over s Parts w e))
  act_over (line.Merge s) w e = unless_over_void (is_stopped (place_at w s)) (happens c n s Merges) w e (ended_same w _ (happens_over s Merges w e))
  act_over (line.GiveUp s) w e = unless_over_void (is_in_no_epoch (place_at w s)) (happens c n s GivesUp) w e (ended_same w _ (happens_over s GivesUp w e))
  act_over (line.Stop s) w e = ended_same w _ (stops_over s (place_at w s) w e)
  act_over (line.ArmStop s calls how) w e = record { trace = refl; over = refl }
  act_over (line.ArmFail s calls) w e = record { trace = refl; over = refl }
  act_over (line.Boot s) w e = ended_same w _ (boots_over s (place_at w s) w e)
  act_over (line.Settle budget) w e = ended_same w _ (settles_over budget w e)
  act_over line.Pending w e = ended_same w _ (over_happened n _ _ _ w l e)
