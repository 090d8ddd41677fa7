-- A later world has all packets and records of an earlier one, and an event touches no other site.
use Rattle.std.proofs.Common.{◌≡◌, ◌≤◌, ℕ, ◌+◌, List, [], ◌∷◌, ◌++◌, length, Some, None, refl, sym, ◌∙◌, ap, subst, append_assoc, arith}
use Rattle.locus_ids.specs.declared.config.Config.{Config}
use Rattle.disk_calls.specs.of_schedule_lines.declared.line.ScheduleLine.{ScheduleLine}
use Rattle.role_steps.specs.of_wire_messages.declared.packet.Packet.{Packet}
use Rattle.role_steps.specs.Views.{SiteView, Told, Outcome, Receives}
use Rattle.the_run.specs.Disks.{Booted, Whole, CutOff, boots}
use Rattle.the_run.specs.Steps.{step}
use Rattle.the_run.specs.Worlds.{World, Numbered, Line, links_of, script_of, happened, with_numbered, numbered_from, newest_onto, told_onto, puts, arms, passed, stops_with, acts, first_world}
use Rattle.the_run.specs.Runs.{boots_as, acts_line, run_from, run_in}
use Rattle.the_run.specs.Kept.{Kept}
use Rattle.the_run.specs.Laws.{Grows, TouchesOnly}
use Rattle.the_run.proofs.Events.{happened_keeps, acts_keeps, puts_other, onto_front, newest_front}
use Rattle.the_run.proofs.Runs.{run_from_keeps}

-- ---- what grows ----

with_numbered_grows : (n k b t : ℕ) (ps : List Numbered) (told : List Told) (w0 w u : World) → u.sent ≡ w.sent → w.packets ≤ k → Grows w0 w → Grows w0 (with_numbered ps (told_onto n told w.trace) k b t u)
with_numbered_grows n k b t ps told w0 w u e le g =
    let r : (lines : List Line) × (told_onto n told w.trace ≡ lines ++ w.trace) = onto_front n told w.trace in
    let q : (more : List Numbered) × (newest_onto ps u.sent ≡ more ++ u.sent) = newest_front ps u.sent in
    let c : w0.packets ≤ w.packets = g.count in
    record {
      packets = q.0 ++ g.packets;
      sent = q.1 ∙ (ap (λ (xs : List Numbered). q.0 ++ xs) (e ∙ g.sent) ∙ sym (append_assoc q.0 g.packets w0.sent));
      lines = r.0 ++ g.lines;
      trace = r.1 ∙ (ap (λ (ls : List Line). r.0 ++ ls) g.trace ∙ sym (append_assoc r.0 g.lines w0.trace));
      count = omega (arith, c, le);
    }

happened_grows : (n : ℕ) (ps : List Packet) (told : List Told) (change : World → World) (w0 w : World) → (change w).sent ≡ w.sent → Grows w0 w → Grows w0 (happened n ps told change w)
happened_grows n ps told change w0 w e g =
    happened_keeps (Grows w0) n ps told change w g
    (λ l. record { packets = g.packets; sent = g.sent; lines = g.lines; trace = g.trace; count = g.count })
    (λ k b t. with_numbered_grows n (w.packets + length ps) b t (numbered_from (w.packets + 1) ps) told w0 w (change w) e (omega arith) g)

acts_grows : (n s : ℕ) (v : SiteView) (o : Outcome SiteView) (w0 w : World) → Grows w0 w → Grows w0 (acts n s v o w)
acts_grows n s v o w0 w g =
    acts_keeps (Grows w0) n s v o w
    (λ ps told p. happened_grows n ps told (λ now. puts s p now) w0 w refl g)
    (λ ps told p a. happened_grows n ps told (λ now. puts s p (arms a now)) w0 w refl g)
    (λ ps told d. happened_grows n ps told (stops_with s d) w0 w refl g)

boots_grows : (n s : ℕ) (b : Booted) (w0 w : World) → Grows w0 w → Grows w0 (boots_as n s b w)
boots_grows n s (Whole d None) w0 w g = happened_grows n [] _ _ w0 w refl g
boots_grows n s (Whole d (Some a)) w0 w g = happened_grows n [] _ _ w0 w refl g
boots_grows n s (CutOff d how) w0 w g = happened_grows n [] _ _ w0 w refl g

grows_kept : (c : Config) (w0 : World) → Kept c (Grows w0)
grows_kept c w0 = record {
  steps = λ n s e v w here own g. acts_grows n s v (step c s (links_of w s) v e) w0 w g;
  receives = λ n x v w here sent g. acts_grows n x.packet.to v (step c x.packet.to (links_of (passed x.number w) x.packet.to) v (Receives x.packet)) w0 (passed x.number w) (record { packets = g.packets; sent = g.sent; lines = g.lines; trace = g.trace; count = g.count });
  passes = λ k w g. record { packets = g.packets; sent = g.sent; lines = g.lines; trace = g.trace; count = g.count };
  drops = λ k w g. record { packets = g.packets; sent = g.sent; lines = g.lines; trace = g.trace; count = g.count };
  recuts = λ xs w g. record { packets = g.packets; sent = g.sent; lines = g.lines; trace = g.trace; count = g.count };
  arming = λ a w g. record { packets = g.packets; sent = g.sent; lines = g.lines; trace = g.trace; count = g.count };
  voiding = λ n w g. happened_grows n [] _ _ w0 w refl g;
  budgets = λ n w g. happened_grows n [] _ _ w0 w refl g;
  pending = λ n w g. happened_grows n [] _ _ w0 w refl g;
  stopping = λ n s v w here g. happened_grows n [] _ _ w0 w refl g;
  booting = λ n s d w here g. boots_grows n s (boots (script_of w s) d) w0 w g;
}

same_world : (w : World) → Grows w w
same_world w = record { packets = []; sent = refl; lines = []; trace = refl; count = omega arith }

pub run_splits : (c : Config) (n : ℕ) (lines more : List ScheduleLine) (w : World) → run_from c n (lines ++ more) w ≡ run_from c (n + length lines) more (run_from c n lines w)
run_splits c n [] more w = ap (λ k. run_from c k more w) (omega arith)
run_splits c n (x ∷ xs) more w = run_splits c (n + 1) xs more (acts_line c n x w) ∙ ap (λ k. run_from c k more (run_from c (n + 1) xs (acts_line c n x w))) (omega arith)

pub run_grows : (c : Config) (lines more : List ScheduleLine) → Grows (run_in c lines) (run_in c (lines ++ more))
run_grows c lines more =
    let w0 : World = run_in c lines in
    subst (λ (w : World). Grows w0 w) (sym (run_splits c 1 lines more (first_world c))) (run_from_keeps c (Grows w0) (grows_kept c w0) (1 + length lines) more w0 (same_world w0))

-- ---- whom an event touches ----

happened_touches : (s n : ℕ) (ps : List Packet) (told : List Told) (change : World → World) (w : World) → TouchesOnly s w (change w) → TouchesOnly s w (happened n ps told change w)
happened_touches s n ps told change w h =
    happened_keeps (TouchesOnly s w) n ps told change w
    (record { others = λ t ne. refl; circuits = refl; lost = refl })
    (λ l. record { others = λ t ne. refl; circuits = refl; lost = refl })
    (λ k b t. record { others = h.others; circuits = h.circuits; lost = h.lost })

pub acts_touches : (n s : ℕ) (v : SiteView) (o : Outcome SiteView) (w : World) → TouchesOnly s w (acts n s v o w)
acts_touches n s v o w =
    acts_keeps (TouchesOnly s w) n s v o w
    (λ ps told p. happened_touches s n ps told (λ now. puts s p now) w (record { others = λ t ne. puts_other s t p w ne; circuits = refl; lost = refl }))
    (λ ps told p a. happened_touches s n ps told (λ now. puts s p (arms a now)) w (record { others = λ t ne. puts_other s t p (arms a w) ne; circuits = refl; lost = refl }))
    (λ ps told d. happened_touches s n ps told (stops_with s d) w (record { others = λ t ne. puts_other s t _ w ne; circuits = refl; lost = refl }))
