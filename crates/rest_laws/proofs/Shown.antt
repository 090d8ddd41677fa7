-- Of each printed record of a run: what the laws of sites, lists and lines say of it, together.
use Rattle.std.proofs.Common.{◌≡◌, List, [], ◌∷◌, refl, ap, subst}
use Rattle.locus_ids.specs.declared.config.Config.{Config}
use Rattle.schedule_lines.specs.declared.line.ScheduleLine.{ScheduleLine}
use Rattle.trace_book.specs.declared.entry.Entry.{Entry}
use Rattle.role_steps.specs.Views.{Told, Shown}
use Rattle.the_run.specs.Runs.{run_in}
use Rattle.the_run.specs.Worlds.{Line}
use Rattle.tree_model.specs.Folds.{Trace}
use Rattle.store_laws.specs.of_row_laws.CallRows.Accepting.{IsAcceptRow}
use Rattle.store_laws.proofs.of_row_laws.CallRows.CallsRun.{run_accepts}
use Rattle.store_laws.specs.of_row_laws.Shown.{EachRecord, shown, with_told}
use Rattle.store_laws.specs.of_row_laws.Rows.{IsAskedFor, IsMemberRow, IsShortRow, IsSiteRow}
use Rattle.store_laws.specs.of_row_laws.Voids.{LinesFit}
use Rattle.store_laws.proofs.of_row_laws.AskedRun.{run_asked, run_lists, run_members}
use Rattle.store_laws.proofs.of_row_laws.Fitting.{cuts_none}
use Rattle.store_laws.proofs.of_row_laws.SitesGoOn.{run_sites}
use Rattle.tree_laws.specs.Printed.{entries, onto_entries}

-- the two names of the printed trace
pub shown_entries : (t : List Line) → shown t ≡ entries t
shown_entries [] = refl
shown_entries (x ∷ older) = over x.told (shown_entries older)
  where
    over : (y : Told) → shown older ≡ entries older → with_told x.number y (shown older) ≡ onto_entries x.number y (entries older)
    over (Shown r) e = ap (λ (z : Trace). record { line = x.number; what = r } ∷ z) e
    over _ e = e

-- what the laws of rows say of one record
pub record IsRow (c : Config) (lines : List ScheduleLine) (before : Trace) (r : Entry) : Type 0 where
  pub site : IsSiteRow c before r
  pub member : IsMemberRow before r
  pub short : IsShortRow before r
  pub asked : IsAskedFor lines before r
  pub accept : IsAcceptRow c before r

all_rows : (c : Config) (lines : List ScheduleLine) (t : Trace) → EachRecord (IsSiteRow c) t → EachRecord IsMemberRow t → EachRecord IsShortRow t → EachRecord (IsAskedFor lines) t → EachRecord (IsAcceptRow c) t → EachRecord (IsRow c lines) t
all_rows c lines [] a b d e f = tt
all_rows c lines (r ∷ before) a b d e f = (record { site = a.0; member = b.0; short = d.0; asked = e.0; accept = f.0 }, all_rows c lines before a.1 b.1 d.1 e.1 f.1)

pub run_rows : (c : Config) (lines : List ScheduleLine) → LinesFit c lines → EachRecord (IsRow c lines) (entries (run_in c lines).trace)
run_rows c lines fit = subst (EachRecord (IsRow c lines)) (shown_entries (run_in c lines).trace)
    (all_rows c lines (shown (run_in c lines).trace) (run_sites c lines) (run_members c lines (cuts_none c lines fit)) (run_lists c lines) (run_asked c lines) (run_accepts c lines fit))
