-- Lines by their numbers, which circuits they cut, and by which of them a site starts to part or to merge.
use Rattle.std.specs.Prelude.{ℕ, zero, suc, ◌+◌, ◌-◌, ◌==◌, Bool, false, not, ◌&&◌, ◌||◌, cond, List, take, fold, Option, None, Some, slice_index_or}
use Rattle.std.specs.Option.{is_some}
use Rattle.std.specs.List.{list_all}
use Rattle.locus_ids.specs.declared.config.Config.{Config}
use Rattle.disk_calls.specs.of_schedule_lines.declared.line.ScheduleLine.{ScheduleLine}
use Rattle.disk_calls.specs.of_schedule_lines.declared.line.ScheduleLine.TheVariants.{Passed, Event}
use Rattle.disk_calls.specs.of_schedule_lines.declared.line.Line.TheVariants as line
use Rattle.disk_calls.specs.of_schedule_lines.Cluster.{config_of}
use Rattle.tree_model.specs.Folds.{Trace, before_line}
use Rattle.tree_model.specs.Epochs.{is_up, epoch_of}
use Rattle.tree_model.specs.Packs.{all_sites}

-- Sites.

-- every one of sites 1 to 16 passes
abbrev pub each_site : (ℕ → Bool) → Bool
each_site p = list_all p all_sites

-- Lines by their numbers, from 1.

-- the line with this number; where there is none, a line that is passed over
abbrev pub line_at : List ScheduleLine → ℕ → ScheduleLine
line_at lines zero = Passed
line_at lines (suc n) = slice_index_or lines n Passed

-- the lines before it
abbrev pub lines_before : List ScheduleLine → ℕ → List ScheduleLine
lines_before lines n = take (n - 1) lines

-- the records up to the end of the line
abbrev pub through_line : Trace → ℕ → Trace
through_line trace n = before_line trace (n + 1)

-- Circuits.

-- the two are these two, in either order
abbrev pub are_these : ℕ → ℕ → ℕ → ℕ → Bool
are_these one other s t = ((one == s) && (other == t)) || ((one == t) && (other == s))

abbrev pub cut_after : ScheduleLine → ℕ → ℕ → Bool → Bool
cut_after (Event (line.Down one other)) s t old = are_these one other s t || old
cut_after (Event (line.Up one other)) s t old = not (are_these one other s t) && old
cut_after _ s t old = old

-- the circuit of two sites is cut after these lines: a `down` line cut it, and no `up` line mended it since
abbrev pub is_cut : List ScheduleLine → ℕ → ℕ → Bool
is_cut lines s t = fold (λ old l. cut_after l s t old) false lines

-- after these lines and these records the first site reaches the second: it is the same, or their circuit isn't cut; and
-- both are up
abbrev pub reaches : Config → List ScheduleLine → Trace → ℕ → ℕ → Bool
reaches c lines now s t = is_up c now s && is_up c now t && ((s == t) || not (is_cut lines s t))

-- Who starts a protocol.

-- the site that starts to part or to merge by this line: a stopped one doesn't, and one in no epoch doesn't part
abbrev pub starts_at : Config → ScheduleLine → Trace → Option ℕ
starts_at c (Event (line.Part site)) before = cond (is_up c before site && is_some (epoch_of before site)) (Some site) None
starts_at c (Event (line.Merge site)) before = cond (is_up c before site) (Some site) None
starts_at c _ before = None

-- the site that starts by the line with this number
abbrev pub initiator : List ScheduleLine → Trace → ℕ → Option ℕ
initiator lines trace n = starts_at (config_of lines) (line_at lines n) (before_line trace n)
