-- A version that is cut off, as the lawful trace tells of it.
use Rattle.std.proofs.Common.{◌≡◌, ◌≤◌, ◌<◌, ℕ, ◌+◌, nat_lt, Bool, true, List, length, Option, Some, None, refl, sym, ◌∙◌, ap, subst, arith}
use Rattle.std.specs.Option.{is_some}
use Rattle.role_steps.proofs.of_plain_facts.Numbers.{less}
use Rattle.locus_ids.specs.declared.config.Config.{Config}
use Rattle.locus_ids.specs.declared.ids.FileId.{FileId}
use Rattle.schedule_lines.specs.declared.line.ScheduleLine.{ScheduleLine}
use Rattle.trace_book.specs.declared.record.Record.{Record}
use Rattle.trace_book.specs.declared.record.Record.TheVariants as says
use Rattle.file_content.specs.Pages.{pages_of}
use Rattle.disk_calls.specs.Versions.{Writing, writing, blocks, is_written}
use Rattle.role_steps.specs.Storage.{content_of, copy_of}
use Rattle.role_steps.specs.Views.{Store, DiskWrite}
use Rattle.role_steps.specs.declared.copies.FileCopy.{FileCopy}
use Rattle.the_run.specs.Disks.{Armed as Script, Cut, has_older, writing_of, write_calls, is_on_disk}
use Rattle.the_run.specs.Worlds.{Line}
use Rattle.tree_model.specs.Files.{committing}
use Rattle.tree_model.specs.Folds.{Trace}
use Rattle.tree_model.specs.Histories.{held}
use Rattle.lawful_trace.specs.Disks.{Armed, calls_of, calls_of_writing, pages_held, pages_now, writing_commit, writer_of}
use Rattle.headline_laws.specs.WholeRuns.Wrote.{writing_adopted, armed_at}
use Rattle.site_laws.specs.Vectors.Held.{IsOf}
use Rattle.tree_laws.specs.Doing.{AreWritten, pages_told}
use Rattle.tree_laws.specs.Printed.{entries}
use Rattle.tree_laws.specs.Stores.{CopiesAreHeld}
use Rattle.headline_laws.specs.WholeRuns.CutCounts.{SameArming, CountsAs}
use Rattle.headline_laws.proofs.WholeRuns.CutGates.{cut_same}
use Rattle.headline_laws.proofs.WholeRuns.CutPlaced.{before_is, older_is, same_writing}
use Rattle.headline_laws.specs.StopRuns.Stops.{IsCutAt, IsArmed, IsVersionCut, Writes}
use Rattle.headline_laws.proofs.StopRuns.Traced.{fails, fails_as}
use Rattle.headline_laws.proofs.StopRuns.Writing.{CouldTell}

-- ---- how it is written ----

of_record : (c : Config) (t : Trace) (s : ℕ) (r : Record) (x : FileCopy) (older : Bool) (before now : ℕ) (ps : List ℕ) → IsOf s r x → AreWritten c t r ps → now ≡ pages_told c t r → older ≡ is_some (held c t s x.file) → before ≡ pages_held c t x.file (held c t s x.file) → Writes ps c t r (writing older before now ps)
of_record c t s (says.Commit f site stamp parents content) x older before now ps is pages many has had =
    same_writing older (is_some (held c t site f)) before (pages_held c t f (held c t site f)) now (pages_now (committing c t f site)) ps (writing_commit c t f site).pages
    (has ∙ (ap (λ (g : FileId). is_some (held c t s g)) is.1.file_is ∙ ap (λ (u : ℕ). is_some (held c t u f)) (sym is.0)))
    (had ∙ (ap (λ (g : FileId). pages_held c t g (held c t s g)) is.1.file_is ∙ ap (λ (u : ℕ). pages_held c t f (held c t u f)) (sym is.0))) many pages
of_record c t s (says.Adopt f site stamp) x older before now ps is pages many has had =
    same_writing older (is_some (held c t site f)) before (pages_held c t f (held c t site f)) now (pages_held c t f (Some stamp)) ps (writing_adopted ps c t f site stamp).pages
    (has ∙ (ap (λ (g : FileId). is_some (held c t s g)) is.1 ∙ ap (λ (u : ℕ). is_some (held c t u f)) (sym is.0)))
    (had ∙ (ap (λ (g : FileId). pages_held c t g (held c t s g)) is.1 ∙ ap (λ (u : ℕ). pages_held c t f (held c t u f)) (sym is.0))) many pages
of_record c t s _ x older before now ps is pages many has had = absurd is

pub writes_so : (c : Config) (t : List Line) (s : ℕ) (st : Store) (d : DiskWrite) → CouldTell c t d → CopiesAreHeld c t s st → IsOf s d.says d.copy → Writes d.pages c (entries t) d.says (writing_of st d)
writes_so c t s st d could copies is = of_record c (entries t) s d.says d.copy (has_older st d) (pages_of (length (content_of (copy_of st d.copy.file)))) (pages_of (length d.copy.content)) d.pages is could.pages could.now (older_is c t s st d.copy.file copies could.narrow) (before_is c t s st d.copy.file copies could.narrow)

-- ---- where it is cut ----

-- the disk is armed as the script is, and the calls so far and those that the script lets pass are those of its line
pub record IsScripted (o : Option Armed) (x : Script) : Type 0 where
  pub arming : Armed
  pub armed : o ≡ Some arming
  pub same : SameArming arming.arming x.how
  pub count : arming.used + x.left ≡ calls_of arming.arming

pub scripted : (o : Option Armed) (x : Script) → CountsAs o (Some x) → IsScripted o x
scripted None x h = absurd h
scripted (Some a) x h = record { arming = a; armed = refl; same = h.0; count = h.1 }

-- the call after those that the script lets pass
pub cut_at : (o : Option Armed) (x : Script) (k : IsScripted o x) (calls : ℕ) → x.left < calls → IsCutAt k.arming calls x.left
cut_at o x k calls less = record { inside = less; count = k.count }

pub armed_so : (wrote : ℕ → List ℕ) (c : Config) (lines : List ScheduleLine) (before : Trace) (n s : ℕ) (x : Script) (k : IsScripted (armed_at wrote c lines before n s) x) → IsArmed wrote c lines before n s (fails x.how) k.arming
armed_so wrote c lines before n s x k = record { armed = k.armed; fault_is = fails_as k.arming.arming x.how k.same }

pub version_is_cut : (wrote : ℕ → List ℕ) (c : Config) (before : Trace) (s : ℕ) (st : Store) (d : DiskWrite) (o : Option Armed) (x : Script) (k : IsScripted o x) (stays : Bool) → writer_of d.says ≡ Some s → Writes (wrote (length before)) c before d.says (writing_of st d) → nat_lt x.left (write_calls st d) ≡ true → is_on_disk st d x.how x.left ≡ stays →
    IsVersionCut wrote c before s d.says k.arming stays
version_is_cut wrote c before s st d o x k stays own writes lacks left = record {
  own = own;
  writing = writing_of st d;
  writes = writes;
  passed = x.left;
  cut = cut_at o x k (calls_of_writing (writing_of st d)) (less x.left (write_calls st d) lacks);
  left = ap (λ (how : Cut). is_written (writing_of st d) how x.left) (cut_same k.arming.arming x.how k.same) ∙ left;
}
