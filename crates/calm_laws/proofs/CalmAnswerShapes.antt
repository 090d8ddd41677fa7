-- In each world of a round in which all members are together the tables of a member have their shape.
use Rattle.std.proofs.Common.{◌≡◌, ℕ, List, Option, Some, ◌∙◌, ap, subst}
use Rattle.locus_ids.specs.declared.config.Config.{Config}
use Rattle.schedule_lines.specs.declared.line.ScheduleLine.{ScheduleLine}
use Rattle.role_steps.specs.Views.{SiteView}
use Rattle.role_steps.specs.declared.rounds.InEpoch.{InEpoch}
use Rattle.role_steps.specs.declared.synchronizing.SyncTable.{SyncTable}
use Rattle.the_run.specs.Kept.{Among}
use Rattle.the_run.specs.Worlds.{World, Running, place_at}
use Rattle.row_laws.specs.Orderly.Calm.{IsInside, AreTogether}
use Rattle.row_laws.proofs.Orderly.Places.{view_eq}
use Rattle.calm_laws.specs.TablesCalm.Shapes.{CameIn, IsNamedIn, ShapeIn, TableShape}
use Rattle.calm_laws.proofs.TablesCalm.ShapesRun.{Shaped, shaped_kept, first_shaped}
use Rattle.calm_laws.specs.Carrying.{IsMember}
use Rattle.calm_laws.specs.Rounds.{IsInRound}
use Rattle.calm_laws.proofs.Lists.{every_among}
use Rattle.calm_laws.proofs.Rounds.{in_round}

pub all_shaped : (c : Config) (lines : List ScheduleLine) (n : ℕ) (w : World) → IsInRound c lines n w → Shaped c w
all_shaped c lines n w round = in_round c (Shaped c) (shaped_kept c) (first_shaped c) lines n w round

pub shape_of : (c : Config) (lines : List ScheduleLine) (n : ℕ) (w : World) → IsInRound c lines n w → (e : InEpoch) (s : ℕ) (v : SiteView) (t : SyncTable) → AreTogether w e → IsMember e s → place_at w s ≡ Some (Running v) → Among t v.tables → TableShape c s e (IsNamedIn w.trace) (CameIn w.sent) t
shape_of c lines n w round e s v t together member here there = subst (λ (o : Option InEpoch). ShapeIn c s (IsNamedIn w.trace) (CameIn w.sent) o t) epoch (every_among (ShapeIn c s (IsNamedIn w.trace) (CameIn w.sent) v.epoch) t v.tables there ((all_shaped c lines n w round).tables s v here))
  where
    inside : IsInside w e s
    inside = together.inside s member

    epoch : v.epoch ≡ Some e
    epoch = ap (λ (z : SiteView). z.epoch) (view_eq (place_at w s) v inside.view here inside.here) ∙ inside.epoch
