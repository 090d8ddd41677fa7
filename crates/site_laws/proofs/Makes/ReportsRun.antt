-- In every run a table starts once all the members of its epoch that have a pack of its group have reported.
use Rattle.std.proofs.Common.{◌≡◌, ℕ, Bool, true, false, ◌&&◌, List, [], ◌∷◌, Some, refl, sym, subst, inl, inr}
use Rattle.std.specs.List.{list_all}
use Rattle.role_steps.proofs.of_plain_facts.Tests.{both_true}
use Rattle.locus_ids.specs.Sites.{has}
use Rattle.locus_ids.specs.declared.config.Config.{Config}
use Rattle.schedule_lines.specs.declared.line.ScheduleLine.{ScheduleLine}
use Rattle.role_steps.specs.Own.{Every}
use Rattle.role_steps.specs.Views.{Told, members_of, pack_sites}
use Rattle.role_steps.specs.declared.rounds.InEpoch.{InEpoch}
use Rattle.role_steps.specs.declared.synchronizing.SyncTable.{SyncTable}
use Rattle.role_steps.specs.declared.synchronizing.OpenRow.{OpenRow}
use Rattle.the_run.specs.Kept.{Among}
use Rattle.the_run.specs.Worlds.{World}
use Rattle.the_run.specs.Runs.{run_in}
use Rattle.site_laws.specs.Vectors.Written.{past_of}
use Rattle.site_laws.specs.Locks.Going.{WasStarted}
use Rattle.site_laws.specs.Locks.Facts as locks
use Rattle.site_laws.specs.Makes.Tables.{TableMade}
use Rattle.site_laws.specs.Makes.Reporting.{TableReports, TablesHaveReports}
use Rattle.site_laws.proofs.Makes.MakeSites.{MadeIn, in_epoch}
use Rattle.site_laws.proofs.Makes.TablesRun.{WorldTables}
use Rattle.site_laws.proofs.Makes.MakeRun.{Ordering, run_ordering, run_ordered, tables_there}
use Rattle.site_laws.proofs.Makes.ApartRun.{run_apart}

all_have : (test : ℕ → Bool) (n : ℕ) (xs : List ℕ) → list_all test xs ≡ true → Among n xs → test n ≡ true
all_have test n [] h k = absurd k
all_have test n (x ∷ xs) h (inl q) = subst (λ (m : ℕ). test m ≡ true) (sym q) (both_true (test x) (list_all test xs) h).0
all_have test n (x ∷ xs) h (inr k) = all_have test n xs (both_true (test x) (list_all test xs) h).1 k

no_rows : (past : List Told) (e : InEpoch) (group : ℕ) (rs : List OpenRow) → (WasStarted past e.id group → ⊥) → Every (locks.OpenFact past e.id group) rs → rs ≡ []
no_rows past e group [] none h = refl
no_rows past e group (r ∷ rs) none h = absurd (none h.0.started)

table_reports : (c : Config) (past : List Told) (s : ℕ) (e : InEpoch) (t : SyncTable) → locks.TableFact past e.id t → TableMade c past s e.id e.members t → TableReports c past e t
table_reports c past s e t lock made = record {
  unstarted = made.unstarted;
  empty = λ q. no_rows past e t.group t.opens (made.unstarted q) lock.opens;
  reported = λ q n k. all_have (has t.reported) n (members_of e.members (pack_sites c t.group)) (made.all q) k;
}

all_reports : (c : Config) (past : List Told) (s : ℕ) (e : InEpoch) (ts : List SyncTable) → Every (locks.TableFact past e.id) ts → Every (TableMade c past s e.id e.members) ts → Every (TableReports c past e) ts
all_reports c past s e [] lock made = tt
all_reports c past s e (t ∷ ts) lock made = (table_reports c past s e t lock.0 made.0, all_reports c past s e ts lock.1 made.1)

pub run_reports : (c : Config) (lines : List ScheduleLine) → TablesHaveReports c (run_in c lines)
run_reports c lines s v e here in_it =
    let w : World = run_in c lines in
    let past : List Told = past_of w.trace in
    let g : Ordering c w = run_ordering c lines in
    let lock : locks.WorldFact w = g.0.0.0.1 in
    let f : WorldTables c w = g.1.1 (run_ordered c lines (run_apart c lines)) in
    let site : MadeIn c past s v (Some e) = in_epoch c past s v e in_it (f.views s v here) in
    all_reports c past s e v.tables (tables_there past s v e v.epoch in_it (lock.views s v here).inside) site.1
