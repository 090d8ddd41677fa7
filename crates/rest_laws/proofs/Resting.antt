-- In every run whose lines fit, and in which no counter of versions comes to its end, other laws give the rest of each line.
use Rattle.std.proofs.Common.{◌≤◌, ℕ, List, [], ◌∷◌, subst, arith}
use Rattle.locus_ids.specs.declared.config.Config.{Config}
use Rattle.schedule_lines.specs.declared.line.ScheduleLine.{ScheduleLine}
use Rattle.trace_book.specs.declared.record.Record.{Record}
use Rattle.trace_book.specs.declared.record.Record.TheVariants as says
use Rattle.role_steps.specs.Own.{Every}
use Rattle.role_steps.specs.Views.{Told, Shown}
use Rattle.the_run.specs.Runs.{run_in}
use Rattle.the_run.specs.Worlds.{Line}
use Rattle.the_run.proofs.Runs.{every_run}
use Rattle.tree_model.specs.Epochs.{boot_of}
use Rattle.tree_model.specs.Folds.{Trace}
use Rattle.store_laws.specs.of_site_laws.Vectors.Written.{CommitsAreNumbered, past_of}
use Rattle.store_laws.proofs.of_site_laws.Vectors.FactsRun.{run_numbered}
use Rattle.store_laws.specs.of_site_laws.Vectors.HistoryCommits.{CommitsAreSited, FitTold, NumbersFit, StampsAreOnce}
use Rattle.store_laws.proofs.of_site_laws.Vectors.HistorySited.{run_sited}
use Rattle.store_laws.proofs.of_site_laws.Packs.InstanceAgree.{run_agrees}
use Rattle.store_laws.proofs.of_site_laws.Packs.InodeFitsRun.{run_fits}
use Rattle.store_laws.specs.of_site_laws.Packs.Packs.{ToldPacked}
use Rattle.store_laws.proofs.of_site_laws.Packs.PacksRun.{run_packs}
use Rattle.store_laws.proofs.of_site_laws.Kept.StampLawsRun.{run_stamps}
use Rattle.store_laws.specs.of_site_laws.Kept.Roots.{RootsFollow}
use Rattle.store_laws.proofs.of_site_laws.Kept.RootsRun.{run_roots}
use Rattle.store_laws.specs.of_row_laws.Shown.{EachRecord}
use Rattle.store_laws.proofs.of_row_laws.Boots.{run_boots_told}
use Rattle.store_laws.proofs.of_row_laws.SitesPlaced.{first_has, places_kept}
use Rattle.store_laws.specs.of_row_laws.Voids.{HasPlaces, LinesFit}
use Rattle.tree_laws.specs.Printed.{entries, onto_entries}
use Rattle.store_laws.specs.of_tree_laws.Orders.Joining.{PacksAreOfSites}
use Rattle.store_laws.proofs.Holdings.Below.{once_before}
use Rattle.store_laws.specs.OneTree.Rest.{EachRest, IsRest, RangeTold, RowTold}
use Rattle.store_laws.specs.of_site_laws.Packs.CounterNumbers.{IsLowRecord, IsLowTold, NumbersAreLow, calls_in}
use Rattle.store_laws.proofs.of_site_laws.Packs.CounterRun.{run_calls_low, run_numbers_low}
use Rattle.store_laws.specs.OneTree.SpentMends.{MendedRecord, MendedTold}
use Rattle.store_laws.proofs.OneTree.SpentRun.{run_mended}
use Rattle.rest_laws.specs.Counters.{CountersAreLow, LowRecord, LowTold}
use Rattle.rest_laws.proofs.Fresh.{told_fresh}
use Rattle.rest_laws.proofs.Numbering.{BootsLow, boots_before, name_low}
use Rattle.rest_laws.proofs.Ranges.{boots_begin, call_range, listed_site}
use Rattle.rest_laws.proofs.Shown.{IsRow, run_rows, shown_entries}

-- what the laws of every run give of a trace
record Gives (c : Config) (lines : List ScheduleLine) (t : List Line) : Type 0 where
  rows : EachRecord (IsRow c lines) (entries t)
  low : CountersAreLow t
  fit : NumbersFit (past_of t)
  packed : Every (ToldPacked c) (past_of t)
  numbered : CommitsAreNumbered (past_of t)
  once : StampsAreOnce (past_of t)
  sited : CommitsAreSited (past_of t)
  rooted : RootsFollow (past_of t)
  boots : BootsLow c (entries t)
  calls : calls_in (past_of t) ≤ 134217728

rows_before : (c : Config) (lines : List ScheduleLine) (n : ℕ) (x : Told) (t : Trace) → EachRecord (IsRow c lines) (onto_entries n x t) → EachRecord (IsRow c lines) t
rows_before c lines n (Shown r) t h = h.1
rows_before c lines n _ t h = h

gives_before : (c : Config) (lines : List ScheduleLine) (x : Line) (older : List Line) → Gives c lines (x ∷ older) → Gives c lines older
gives_before c lines x older g = record { rows = rows_before c lines x.number x.told (entries older) g.rows; low = g.low.1; fit = g.fit.1; packed = g.packed.1; numbered = g.numbered.1; once = once_before x older g.once; sited = g.sited.1; rooted = g.rooted.1; boots = boots_before c lines x.number x.told (entries older) g.rows g.boots; calls = omega (arith, g.calls) }

-- ---- one line ----

row_record : (c : Config) (lines : List ScheduleLine) (n : ℕ) (older : List Line) (r : Record) → IsRow c lines (entries older) (record { line = n; what = r }) → RowTold c older (Shown r)
row_record c lines n older (says.Up s boot) h = h.site
row_record c lines n older (says.Stopped s cause) h = h.site
row_record c lines n older (says.Join s e members) h = record { up = h.site.up; outside = h.site.outside; new = h.site.new; later = h.site.later; same = h.site.same; member = h.member }
row_record c lines n older _ h = tt

range_record : (c : Config) (lines : List ScheduleLine) (n : ℕ) (older : List Line) (r : Record) → LinesFit c lines → Gives c lines older → IsRow c lines (entries older) (record { line = n; what = r }) → FitTold (Shown r) → LowTold (Shown r) → RangeTold c (Shown r)
range_record c lines n older (says.Join s e members) fit g h k low = listed_site members s _ h.member (boots_begin c lines (entries older) g.rows s) h.short
range_record c lines n older (says.Accept s process id words) fit g h k low = (call_range c lines n s process words fit h.asked, name_low c lines n older s process id words fit h.asked h.accept g.boots g.calls)
range_record c lines n older (says.Commit f s stamp parents content) fit g h k low = (k, low)
range_record c lines n older (says.Act e i m o r) fit g h k low = low
range_record c lines n older _ fit g h k low = tt

row_told : (c : Config) (lines : List ScheduleLine) (n : ℕ) (older : List Line) (x : Told) → EachRecord (IsRow c lines) (onto_entries n x (entries older)) → RowTold c older x
row_told c lines n older (Shown r) h = row_record c lines n older r h.0
row_told c lines n older _ h = tt

range_told : (c : Config) (lines : List ScheduleLine) (n : ℕ) (older : List Line) (x : Told) → LinesFit c lines → Gives c lines older → EachRecord (IsRow c lines) (onto_entries n x (entries older)) → FitTold x → LowTold x → RangeTold c x
range_told c lines n older (Shown r) fit g h k low = range_record c lines n older r fit g h.0 k low
range_told c lines n older _ fit g h k low = tt

-- ---- all lines ----

each_rest : (c : Config) (lines : List ScheduleLine) → LinesFit c lines → (t : List Line) → Gives c lines t → EachRest c t
each_rest c lines fit [] g = tt
each_rest c lines fit (x ∷ older) g = (
  record {
    row = row_told c lines x.number older x.told g.rows;
    range = range_told c lines x.number older x.told fit (gives_before c lines x older g) g.rows g.fit.0 g.low.0;
    packed = g.packed.0;
    fresh = told_fresh c older x.told g.numbered.0 g.once;
    once = g.once;
    numbered = g.numbered.0;
    sited = g.sited.0;
    rooted = g.rooted.0;
  },
  each_rest c lines fit older (gives_before c lines x older g),
)

low_told : (x : Told) → IsLowTold x → MendedTold x → LowTold x
low_told (Shown r) low mended = by_record r low mended
  where
    by_record : (q : Record) → IsLowRecord q → MendedRecord q → LowRecord q
    by_record (says.Commit f s stamp parents content) low mended = omega (arith, low)
    by_record (says.Act e inst n o r) low mended = mended
    by_record _ low mended = tt
low_told _ low mended = tt

all_low : (past : List Told) → NumbersAreLow past → Every MendedTold past → Every LowTold past
all_low [] low mended = tt
all_low (x ∷ older) low mended = (low_told x low.0 mended.0, all_low older low.1 mended.1)

pub run_low : (c : Config) (lines : List ScheduleLine) → CountersAreLow (run_in c lines).trace
run_low c lines = all_low _ (run_numbers_low c lines) (run_mended c lines)

run_boots : (c : Config) (lines : List ScheduleLine) → BootsLow c (entries (run_in c lines).trace)
run_boots c lines s k = (let there : HasPlaces c (run_in c lines) = every_run c (HasPlaces c) (places_kept c) (first_has c) lines in
    subst (λ (t : Trace). boot_of t s ≤ 134217729) (shown_entries (run_in c lines).trace) (run_boots_told c lines s (there s k).0 (there s k).1))

pub run_rests : (c : Config) (lines : List ScheduleLine) → LinesFit c lines → PacksAreOfSites c → CountersAreLow (run_in c lines).trace → IsRest c (run_in c lines).trace
run_rests c lines fit packs low = record {
  each = each_rest c lines fit (run_in c lines).trace (record { rows = run_rows c lines fit; low = low; fit = run_fits c lines; packed = (run_packs c lines).told; numbered = run_numbered c lines (run_agrees c lines); once = run_stamps c lines; sited = (run_sited c lines).commits; rooted = run_roots c lines; boots = run_boots c lines; calls = run_calls_low c lines });
  packs = packs;
}
