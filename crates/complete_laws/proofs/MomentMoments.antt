-- At each event of a run stands what the laws give of its worlds.
use Rattle.std.proofs.Common.{◌≡◌, ◌≤◌, ℕ, ◌+◌, true, List, [], ◌∷◌, ◌++◌, length, subst}
use Rattle.locus_ids.specs.declared.config.Config.{Config}
use Rattle.schedule_lines.specs.Ranges.{fits_event}
use Rattle.schedule_lines.specs.declared.line.Line.{Line as LineWords}
use Rattle.schedule_lines.specs.declared.line.Line.TheVariants as line
use Rattle.schedule_lines.specs.declared.line.ScheduleLine.{ScheduleLine}
use Rattle.schedule_lines.specs.declared.line.ScheduleLine.TheVariants.{Event as EventLine}
use Rattle.role_steps.specs.Views.{Event}
use Rattle.the_run.specs.Runs.{run_in}
use Rattle.the_run.specs.Worlds.{World, Running}
use Rattle.the_run.proofs.Runs.{every_run}
use Rattle.packet_laws.specs.of_site_laws.Vectors.Written.{InstancesAgree, past_of}
use Rattle.packet_laws.proofs.of_site_laws.Packs.InstanceAgree.{run_agrees}
use Rattle.packet_laws.proofs.of_site_laws.Packs.PacksRun.{All, all_kept, first_all}
use Rattle.packet_laws.specs.of_row_laws.ByLine.{IsLine}
use Rattle.packet_laws.specs.of_row_laws.Voids.{LinesFit}
use Rattle.packet_laws.proofs.of_row_laws.ByLine.{every_line}
use Rattle.packet_laws.specs.of_tree_laws.Orders.Joining.{PacksAreOfSites}
use Rattle.calm_laws.proofs.of_row_laws.Orderly.Rounds.{RoundKept}
use Rattle.calm_laws.proofs.Rounds.{round_kept}
use Rattle.packet_laws.specs.of_store_laws.OneTree.Places.{WorldFact}
use Rattle.packet_laws.specs.of_store_laws.OneTree.Rest.{IsRest}
use Rattle.packet_laws.specs.of_store_laws.OneTree.Roles.{RolesDo}
use Rattle.packet_laws.proofs.of_store_laws.OneTree.Run.{first_holds}
use Rattle.packet_laws.proofs.of_rest_laws.Roles.{roles_do}
use Rattle.packet_laws.proofs.Fitting.Epochs.{Counted, counted_kept, epochs_low, first_counted, named_low}
use Rattle.calm_laws.proofs.of_rest_laws.Fits.RoomRun.{Both, first_room, kept_room}
use Rattle.calm_laws.proofs.of_rest_laws.Fits.Tables.{rest_of}
use Rattle.complete_laws.specs.MomentEvents.{EachEvent}
use Rattle.complete_laws.specs.MomentMoments.{ComesInTime, MayCome}
use Rattle.complete_laws.proofs.MomentCourse.{IsBefore, each_event, last_line, round_both, round_of_line}
use Rattle.complete_laws.proofs.MomentRest.{agree_earlier, first_fit, rest_earlier}

-- the next line is in range
line_fits : (c : Config) (lines : List ScheduleLine) (l : LineWords) → LinesFit c (lines ++ EventLine l ∷ []) → fits_event c.sites l ≡ true
line_fits c lines l fit = fit (length lines + 1) l (last_line lines l)

-- ---- the moments ----

-- what events keep, where the rest is given by other laws
abbrev StandsSoFar : Config → World → Type 0
StandsSoFar c w = Both c w × (Counted w × All c w)

pub run_events : (c : Config) (lines : List ScheduleLine) (l : LineWords) → LinesFit c (lines ++ EventLine l ∷ []) → PacksAreOfSites c → length c.packs ≤ 4 → EachEvent (ComesInTime c) c (length lines + 1) l (run_in c lines)
run_events c lines l fit packs few = each_event c (StandsSoFar c) (ComesInTime c) lines l (line_fits c lines l fit) begins in_round give
  where
    all : List ScheduleLine
    all = lines ++ EventLine l ∷ []

    roles : RolesDo c
    roles = roles_do c few

    begins : StandsSoFar c (run_in c lines)
    begins = (
      every_line c lines (λ k w. Both c w) (kept_room c lines (first_fit c lines (EventLine l ∷ []) fit) roles) (first_holds c roles, first_room c),
      (every_run c Counted (counted_kept c) (first_counted c) lines, every_run c (All c) (all_kept c) (first_all c) lines),
    )

    in_round : (most : ℕ) → l ≡ line.Settle most → RoundKept c (length lines + 1) (StandsSoFar c)
    in_round most is = round_both c (length lines + 1) (Both c) (λ w. Counted w × All c w)
        (round_of_line c all (length lines + 1) most (Both c) (subst (IsLine all (length lines + 1)) is (last_line lines l)) (kept_room c all fit roles))
        (round_both c (length lines + 1) Counted (All c) (round_kept c (length lines + 1) Counted (counted_kept c)) (round_kept c (length lines + 1) (All c) (all_kept c)))

    give : (s : ℕ) (e : Event) (w : World) → MayCome c w s e → StandsSoFar c w → IsBefore w (run_in c (lines ++ EventLine l ∷ [])) → ComesInTime c s e w
    give s e w may k before = (record { past = record { followed = fact.followed; rest = rest }; fact = fact; agree = agree; packed = k.1.1.1 agree; room = λ t v here. k.0.1 rest t (Running v) here; named = named_low w k.1.0; promised = (epochs_low w k.1.0).promised }, may)
      where
        rest : IsRest c w.trace
        rest = rest_earlier c before.0 w.trace (run_in c all).trace before.1 (rest_of c all fit packs)

        fact : WorldFact c w
        fact = k.0.0 rest

        agree : InstancesAgree (past_of w.trace)
        agree = agree_earlier before.0 w.trace (run_in c all).trace before.1 (run_agrees c all)
