-- All that the events of a line send is of the format, where its counts are of their sizes.
use Rattle.std.proofs.Common.{◌≡◌, ◌≤◌, ℕ, ◌+◌, false, List, [], ◌∷◌, ◌++◌, length, Option, Some, sym, ap, subst, ◌∙◌}
use Rattle.std.specs.List.{AllByRecursion}
use Rattle.locus_ids.specs.declared.config.Config.{Config}
use Rattle.schedule_lines.specs.declared.line.Line.{Line as LineWords}
use Rattle.schedule_lines.specs.declared.line.ScheduleLine.{ScheduleLine}
use Rattle.schedule_lines.specs.declared.line.ScheduleLine.TheVariants.{Event as EventLine}
use Rattle.wire_messages.specs.declared.packet.Packet.{Packet}
use Rattle.role_steps.specs.Own.{Every}
use Rattle.role_steps.specs.Views.{Calls, Event, GivesUp, Merges, Parts, Receives, SiteView, Ticks}
use Rattle.the_run.specs.Runs.{is_busy, run_in}
use Rattle.the_run.specs.Worlds.{Place, World, Running, place_at}
use Rattle.calm_laws.specs.of_run_laws.Naming.{MayCome as MayComeIn}
use Rattle.packet_laws.specs.of_row_laws.ByLine.{IsLine}
use Rattle.packet_laws.specs.of_row_laws.Voids.{LinesFit}
use Rattle.packet_laws.specs.of_tree_laws.Orders.Joining.{PacksAreOfSites}
use Rattle.packet_laws.specs.of_store_laws.OneTree.Roles.{EventFact}
use Rattle.packet_laws.proofs.of_store_laws.OneTree.Run.{arrives_fact}
use Rattle.packet_laws.specs.of_store_laws.OneTree.Wants.{Arrives}
use Rattle.packet_laws.proofs.of_rest_laws.Roles.{roles_do}
use Rattle.packet_laws.proofs.Formats.Run.{PacketsStand, kept_stand, packets_fit_now, run_stands}
use Rattle.site_node.specs.of_packet_order.Counts.{FitsIfCounted}
use Rattle.complete_laws.specs.MomentEvents.{EachEvent}
use Rattle.complete_laws.specs.MomentMoments.{ComesInTime, MayCome}
use Rattle.complete_laws.proofs.MomentCourse.{each_both, each_event, last_line, round_of_line}
use Rattle.complete_laws.proofs.MomentMoments.{run_events}
use Rattle.complete_laws.proofs.MomentRest.{first_fit}
use Rattle.complete_laws.specs.Sends.{SendsFit}

all_fit : (ps : List Packet) → Every FitsIfCounted ps → AllByRecursion FitsIfCounted ps
all_fit [] k = tt
all_fit (p ∷ ps) k = (k.0, all_fit ps k.1)

may_in : (c : Config) (w : World) (s : ℕ) (e : Event) → MayCome c w s e → MayComeIn w e
may_in c w s (Calls process words) m = tt
may_in c w s (Receives p) m = (m.0, m.1, m.2)
may_in c w s Ticks m = tt
may_in c w s Parts m = tt
may_in c w s Merges m = tt
may_in c w s GivesUp m = tt

brings : (c : Config) (w : World) (s : ℕ) (v : SiteView) (e : Event) → ComesInTime c s e w → place_at w s ≡ Some (Running v) → EventFact c w.trace s v e
brings c w s v (Calls process words) comes here = record { fits = comes.1.0; idle = subst (λ (o : Option Place). is_busy process o ≡ false) here comes.1.1 }
brings c w s v (Receives p) comes here = (
  comes.1.3,
  subst (λ (q : Packet). Arrives c w.trace q v) comes.1.2 (arrives_fact c w comes.1.0 v comes.0.fact comes.1.1 (subst (λ (n : ℕ). place_at w n ≡ Some (Running v)) (sym (ap (λ (q : Packet). q.to) comes.1.2 ∙ comes.1.3)) here)),
)
brings c w s v Ticks comes here = tt
brings c w s v Parts comes here = tt
brings c w s v Merges comes here = tt
brings c w s v GivesUp comes here = tt

pub sends_fit : (c : Config) (lines : List ScheduleLine) (l : LineWords) → LinesFit c (lines ++ EventLine l ∷ []) → PacksAreOfSites c → length c.packs ≤ 4 → EachEvent (SendsFit c) c (length lines + 1) l (run_in c lines)
sends_fit c lines l fit packs few = each_both c (ComesInTime c) (λ s e w. PacketsStand c w) (SendsFit c) fits (length lines + 1) l (run_in c lines) (run_events c lines l fit packs few) stands
  where
    all : List ScheduleLine
    all = lines ++ EventLine l ∷ []

    stands : EachEvent (λ s e w. PacketsStand c w) c (length lines + 1) l (run_in c lines)
    stands = each_event c (PacketsStand c) (λ s e w. PacketsStand c w) lines l (fit (length lines + 1) l (last_line lines l)) (run_stands c lines (first_fit c lines (EventLine l ∷ []) fit) few)
        (λ most is. round_of_line c all (length lines + 1) most (PacketsStand c) (subst (IsLine all (length lines + 1)) is (last_line lines l)) (kept_stand c all fit (roles_do c few) few)) (λ s e w may p before. p)

    fits : (s : ℕ) (e : Event) (w : World) → ComesInTime c s e w → PacketsStand c w → SendsFit c s e w
    fits s e w comes stand v here = all_fit _ (packets_fit_now c w comes.0.past few comes.0.fact stand s v e here (may_in c w s e comes.1) (brings c w s v e comes here))
