-- Each line of every run can be done.
use Rattle.std.proofs.Common.{◌≡◌, ◌≤◌, ◌+◌, List, [], ◌∷◌, ◌++◌, length, Some, ap, arith}
use Rattle.locus_ids.specs.declared.config.Config.{Config}
use Rattle.schedule_lines.specs.declared.line.Line.{Line as LineWords}
use Rattle.schedule_lines.specs.declared.line.Line.TheVariants as line
use Rattle.schedule_lines.specs.declared.line.ScheduleLine.{ScheduleLine}
use Rattle.schedule_lines.specs.declared.line.ScheduleLine.TheVariants.{Event as EventLine}
use Rattle.the_run.specs.Disks.{Disk}
use Rattle.the_run.specs.Laws.{boot_number, boot_on}
use Rattle.the_run.specs.Runs.{run_in}
use Rattle.the_run.specs.Worlds.{Stopped, place_at}
use Rattle.packet_laws.specs.of_row_laws.Voids.{LinesFit}
use Rattle.packet_laws.specs.of_tree_laws.Orders.Joining.{PacksAreOfSites}
use Rattle.packet_laws.proofs.of_run_laws.Boots.{run_boots_low}
use Rattle.complete_laws.specs.MomentMoments.{ComesInTime}
use Rattle.complete_laws.proofs.MomentCourse.{each_both}
use Rattle.complete_laws.proofs.MomentMoments.{run_events}
use Rattle.complete_laws.specs.Sends.{SendsFit}
use Rattle.complete_laws.specs.Lines.{CanBoot, CanDo, CanHappen}
use Rattle.complete_laws.proofs.Acting.{can_act}
use Rattle.complete_laws.proofs.Sending.{sends_fit}

can_boot : (c : Config) (lines : List ScheduleLine) (l : LineWords) → CanBoot l (run_in c lines)
can_boot c lines (line.Boot s) = λ d here spent. over d here spent (run_boots_low c lines s)
  where
    over : (d : Disk) → place_at (run_in c lines) s ≡ Some (Stopped d) → d.label.boot ≡ 4294967295 → boot_number (run_in c lines) s ≤ 134217729 → ⊥
    over d here spent low = (let its : boot_number (run_in c lines) s ≡ d.label.boot = ap boot_on here in omega (arith, its, spent, low))
can_boot c lines _ = tt

pub can_do : (c : Config) (lines : List ScheduleLine) (l : LineWords) → LinesFit c (lines ++ EventLine l ∷ []) → PacksAreOfSites c → length c.packs ≤ 4 → CanDo c (length lines + 1) l (run_in c lines)
can_do c lines l fit packs few = record {
  events = each_both c (ComesInTime c) (SendsFit c) (CanHappen c) (λ s e w comes sends v here. can_act c few s e w v here comes.0 comes.1 (sends v here)) (length lines + 1) l (run_in c lines) (run_events c lines l fit packs few) (sends_fit c lines l fit packs few);
  boots = can_boot c lines l;
}
