-- No directory is flagged after a calm round: as the lines of a schedule and the records of its run tell it.
use Rattle.std.proofs.Common.{◌≡◌, ℕ, nat_lt, true, false, List, [], ◌∷◌, map, Option, Some, None, refl, sym, ◌∙◌, ap, arith}
use Rattle.std.proofs.lemmas.Bool.Decides.{nat_tests}
use Rattle.std.specs.Option.{is_some}
use Rattle.role_steps.proofs.of_plain_facts.Tests.{true_false}
use Rattle.schedule_lines.specs.Cluster.{config_of}
use Rattle.schedule_lines.specs.Schedule.{AreInOrder}
use Rattle.schedule_lines.specs.declared.line.ScheduleLine.{ScheduleLine}
use Rattle.role_steps.specs.Mends.{is_dir}
use Rattle.role_steps.specs.Versions.{file_row, kept}
use Rattle.role_steps.specs.declared.rounds.InEpoch.{InEpoch}
use Rattle.role_steps.specs.declared.synchronizing.FileRow.{FileRow}
use Rattle.role_steps.specs.declared.synchronizing.SyncTable.{SyncTable}
use Rattle.role_steps.specs.declared.synchronizing.VersionRow.{VersionRow}
use Rattle.the_run.specs.Runs.{run}
use Rattle.tree_model.specs.Packs.{sync_site}
use Rattle.tree_model.specs.Working.{are_several}
use Rattle.row_laws.specs.Shown.{trace_of}
use Rattle.tree_laws.specs.Tables.{row_stamp}
use Rattle.row_laws.specs.OrderlyRows.Agreeing.{IsWithin}
use Rattle.calm_laws.specs.Rounds.{CalmLeft}
use Rattle.calm_laws.specs.Convergence.Directories.{IsFlagged}
use Rattle.calm_laws.proofs.Convergence.DirectoriesUnflagged.{unflagged}
use Rattle.promises.specs.Convergence.{NoDirectoryIsFlagged}
use Rattle.calm_laws.proofs.Convergence.TraceKnown.{HasTable, IsRow, has_table, is_row, kept_there, known_row, lost_there}
use Rattle.calm_laws.proofs.Convergence.TracePlayed.{IsPlayed, played}

there_is : {A : Type 0} (o : Option A) → is_some o ≡ true → (x : A) × (o ≡ Some x)
there_is None h = absurd (true_false (sym h))
there_is (Some x) h = (x, refl)

-- a file with several kept versions has a row, which is flagged
several_row : (t : SyncTable) (ino : ℕ) (o : Option FileRow) → file_row t ino ≡ o → are_several (map row_stamp (kept o)) ≡ true → (r : FileRow) × (file_row t ino ≡ Some r) × IsFlagged r
several_row t ino None is h = absurd (true_false (sym h ∙ none_less))
  where
    none_less : nat_lt 1 0 ≡ false
    none_less = grind (arith, nat_tests)
several_row t ino (Some r) is h = (r, is, over r.kept refl h)
  where
    over : (vs : List VersionRow) → r.kept ≡ vs → are_several (map row_stamp vs) ≡ true → IsFlagged r
    over [] k q = absurd (true_false (sym q ∙ less))
      where
        less : nat_lt 1 0 ≡ false
        less = grind (arith, nat_tests)
    over (v ∷ []) k q = absurd (true_false (sym q ∙ less))
      where
        less : nat_lt 1 1 ≡ false
        less = grind (arith, nat_tests)
    over (v ∷ u ∷ us) k q = record { one = v; other = u; others = us; kept = k }

pub none_flagged : (lines : List ScheduleLine) → AreInOrder lines → IsWithin lines → CalmLeft (config_of lines) → NoDirectoryIsFlagged lines (trace_of (run lines))
none_flagged lines order within calm n id members f h packed dir several = lost_there lines n e p f css.0 t
    (unflagged (config_of lines) calm lines n e p.deliveries f r.0 p.calm (known_row lines n e p f css.0 t r.0 q.found) (ap is_dir (q.kind_is ∙ dir)) r.2)
  where
    e : InEpoch
    e = record { id = id; members = members }

    p : IsPlayed lines n e
    p = played lines order within n id members h

    css : (css : ℕ) × (sync_site (config_of lines) f.group (Some members) ≡ Some css)
    css = there_is (sync_site (config_of lines) f.group (Some members)) packed

    t : HasTable lines n e p f.group css.0
    t = has_table lines calm n e p f.group css.0 css.1

    r : (r : FileRow) × (file_row t.table f.ino ≡ Some r) × IsFlagged r
    r = several_row t.table f.ino (file_row t.table f.ino) refl (ap are_several (kept_there lines n e p f css.0 t) ∙ several)

    q : IsRow lines n e p f css.0 t r.0
    q = is_row lines n e p f css.0 t r.0 r.1
