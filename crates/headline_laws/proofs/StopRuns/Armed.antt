-- How the disk is armed where a call of it is cut.
use Rattle.std.proofs.Common.{◌≡◌, ℕ, ◌==◌, Bool, true, false, not, cond, List, [], ◌∷◌, length, Option, Some, None, refl, sym, ◌∙◌, ap, subst, inl, inr}
use Rattle.role_steps.proofs.of_plain_facts.Numbers.{equal_self}
use Rattle.role_steps.proofs.of_plain_facts.Options.{none_some, some_same}
use Rattle.locus_ids.specs.declared.config.Config.{Config}
use Rattle.trace_book.specs.declared.entry.Entry.{Entry}
use Rattle.trace_book.specs.declared.record.Record.{Record}
use Rattle.trace_book.specs.declared.record.Record.TheVariants as says
use Rattle.schedule_lines.specs.declared.line.ScheduleLine.{ScheduleLine}
use Rattle.tree_model.specs.Folds.{Trace}
use Rattle.lawful_trace.specs.Disks.{Armed, Writing, is_fault, writer_of, is_armed_as, written_with, writing_commit}
use Rattle.row_laws.proofs.Versions.{VersionOf}
use Rattle.headline_laws.specs.WholeRuns.Wrote.{Disk, writing_adopted, disk_written, disk_after, disk_at, armed_at}
use Rattle.headline_laws.proofs.WholeRuns.CutDisks.{disk_more}
use Rattle.headline_laws.specs.StopRuns.Stops.{IsArmed, CutWhileUp, CutOf}

module _ (wrote : ℕ → List ℕ) where
  -- ---- how it is armed ----

  armed_as : (a : Armed) (fault : Bool) → is_fault a.arming ≡ fault → is_armed_as fault (Some a) ≡ true
  armed_as a fault e = ap (λ (b : Bool). cond b fault (not fault)) e ∙ same fault
    where
      same : (b : Bool) → cond b b (not b) ≡ true
      same true = refl
      same false = refl

  armed_at_as : (c : Config) (lines : List ScheduleLine) (before : Trace) (n site : ℕ) (fault : Bool) (a : Armed) → IsArmed wrote c lines before n site fault a → is_armed_as fault (armed_at wrote c lines before n site) ≡ true
  armed_at_as c lines before n site fault a k = ap (is_armed_as fault) k.armed ∙ armed_as a fault k.fault_is

  version_of : (r : Record) (s : ℕ) → writer_of r ≡ Some s → VersionOf s r
  version_of (says.Commit f t stamp parents content) s e = some_same t s e
  version_of (says.Adopt f t stamp) s e = some_same t s e
  version_of _ s e = absurd (none_some s e)

  -- a version that is written leaves the disk armed as it was
  written_as : (y : Writing) (d : Disk) (o : Option Armed) (fault : Bool) → is_armed_as fault o ≡ true → d.rest.armed ≡ o → is_armed_as fault (written_with y d.rest o).armed ≡ true
  written_as y d None fault h e = ap (is_armed_as fault) e ∙ h
  written_as y d (Some a) fault h e = h

  record_as : (pages : List ℕ) (c : Config) (r : Record) (before : Trace) (site : ℕ) (d : Disk) (fault : Bool) → VersionOf site r → is_armed_as fault d.rest.armed ≡ true → is_armed_as fault (disk_after pages r c before site d).rest.armed ≡ true
  record_as pages c (says.Commit f t stamp parents content) before site d fault own h = subst (λ (b : Bool). is_armed_as fault (cond b (disk_written (writing_commit c before f site) d) d).rest.armed ≡ true) (sym (ap (λ (u : ℕ). u == site) own ∙ equal_self site)) (written_as (writing_commit c before f site) d d.rest.armed fault h refl)
  record_as pages c (says.Adopt f t stamp) before site d fault own h = subst (λ (b : Bool). is_armed_as fault (cond b (disk_written (writing_adopted pages c before f site stamp) d) d).rest.armed ≡ true) (sym (ap (λ (u : ℕ). u == site) own ∙ equal_self site)) (written_as (writing_adopted pages c before f site stamp) d d.rest.armed fault h refl)
  record_as pages c _ before site d fault own h = absurd own

  after_as : (c : Config) (lines : List ScheduleLine) (last : Entry) (before : Trace) (site : ℕ) (fault : Bool) → writer_of last.what ≡ Some site → is_armed_as fault (armed_at wrote c lines before last.line site) ≡ true → is_armed_as fault (armed_at wrote c lines (last ∷ before) last.line site) ≡ true
  after_as c lines last before site fault own h = ap (λ (x : Disk). is_armed_as fault x.rest.armed) (disk_more wrote c lines last.line site last.what before)
      ∙ record_as (wrote (length before)) c last.what before site (disk_at wrote c lines before last.line site) fault (version_of last.what site own) h

  -- ---- the three ways ----

  at_line : (c : Config) (lines : List ScheduleLine) (last : Entry) (before : Trace) (n site : ℕ) (fault : Bool) → last.line ≡ n → writer_of last.what ≡ Some site → is_armed_as fault (armed_at wrote c lines before n site) ≡ true → is_armed_as fault (armed_at wrote c lines (last ∷ before) n site) ≡ true
  at_line c lines last before n site fault e own h = subst (λ (m : ℕ). is_armed_as fault (armed_at wrote c lines (last ∷ before) m site) ≡ true) e (after_as c lines last before site fault own (subst (λ (m : ℕ). is_armed_as fault (armed_at wrote c lines before m site) ≡ true) (sym e) h))

  while_armed : (c : Config) (lines : List ScheduleLine) (before : Trace) (n site : ℕ) (fault : Bool) → CutWhileUp wrote c lines before n site fault → is_armed_as fault (armed_at wrote c lines before n site) ≡ true
  while_armed c lines [] n site fault k = armed_at_as c lines [] n site fault k.arming k.armed
  while_armed c lines (last ∷ before) n site fault (inl k) = at_line c lines last before n site fault k.same_line k.cut.own (armed_at_as c lines before n site fault k.arming k.armed)
  while_armed c lines (last ∷ before) n site fault (inr k) = armed_at_as c lines (last ∷ before) n site fault k.arming k.armed

  pub cut_armed : (c : Config) (lines : List ScheduleLine) (before : Trace) (n site : ℕ) (fault up : Bool) → CutOf wrote c lines before n site fault up → is_armed_as fault (armed_at wrote c lines before n site) ≡ true
  cut_armed c lines before n site fault true k = while_armed c lines before n site fault k
  cut_armed c lines before n site fault false k = armed_at_as c lines before n site fault k.arming k.armed
