-- In every run a commit is of a root, of a file committed before, or of one of its site's own numbers.
use Rattle.std.proofs.Common.{◌≡◌, ◌⊎◌, ℕ, List, [], ◌∷◌, inl, inr}
use Rattle.locus_ids.specs.declared.ids.FileId.{FileId}
use Rattle.locus_ids.specs.declared.ids.Stamp.{Stamp}
use Rattle.locus_ids.specs.declared.config.Config.{Config}
use Rattle.schedule_lines.specs.declared.line.ScheduleLine.{ScheduleLine}
use Rattle.trace_book.specs.declared.record.Record.{Record}
use Rattle.trace_book.specs.declared.record.Record.TheVariants as says
use Rattle.role_steps.specs.Own.{Every}
use Rattle.role_steps.specs.Views.{Told, Shown, Reserves}
use Rattle.the_run.specs.Runs.{run_in}
use Rattle.site_laws.specs.Vectors.Written.{past_of, WrittenAs, IsWrittenBy, IsCommitOf, JoinsAll, IsNumbered, NumberedRecord, NumberedTold, CommitsAreNumbered}
use Rattle.site_laws.proofs.Vectors.FactsRun.{run_numbered}
use Rattle.site_laws.proofs.Packs.InstanceAgree.{run_agrees}
use Rattle.site_laws.specs.Packs.Making.{Originates, CommitsRecord, CommitsFile, WasCommitted, MadeRecord, MadeTold, FilesAreMadeAtHome}
use Rattle.site_laws.specs.Packs.Packs.{RecordPacked, ToldPacked, FilesLieInPacks}
use Rattle.site_laws.proofs.Packs.PacksRun.{run_packs}

-- ---- what has a written vector is a root's or was committed ----

abbrev IsKnown : List Told → FileId → Type 0
IsKnown past file = (file.ino ≡ 1) ⊎ WasCommitted past file

committed_record : (W : FileId → Stamp → List ℕ → Type 0) (r : Record) (file : FileId) (stamp : Stamp) (vector : List ℕ) → IsCommitOf W r file stamp vector → CommitsRecord file r
committed_record W (says.Commit g s made parents content) file stamp vector h = h.0
committed_record W _ file stamp vector h = absurd h

committed_told : (W : FileId → Stamp → List ℕ → Type 0) (x : Told) (file : FileId) (stamp : Stamp) (vector : List ℕ) → IsWrittenBy W x file stamp vector → CommitsFile file x
committed_told W (Shown r) file stamp vector h = committed_record W r file stamp vector h
committed_told W _ file stamp vector h = absurd h

later : (x : Told) (past : List Told) (file : FileId) → IsKnown past file → IsKnown (x ∷ past) file
later x past file (inl h) = inl h
later x past file (inr h) = inr (inr h)

written_known : (past : List Told) (file : FileId) (stamp : Stamp) (vector : List ℕ) → WrittenAs past file stamp vector → IsKnown past file
written_known [] file stamp vector h = inl h.root
written_known (x ∷ older) file stamp vector (inl h) = later x older file (written_known older file stamp vector h)
written_known (x ∷ older) file stamp vector (inr h) = inr (inl (committed_told (WrittenAs older) x file stamp vector h))

-- ---- each commit ----

joins_known : (older : List Told) (file : FileId) (p : Stamp) (ps : List Stamp) (base : List ℕ) → JoinsAll (WrittenAs older file) (p ∷ ps) base → IsKnown older file
joins_known older file p ps base h = written_known older file p h.0 h.2

commit_made : (older : List Told) (file : FileId) (s : ℕ) (stamp : Stamp) (parents : List Stamp) (content : List ℕ) → IsNumbered older file s stamp parents → Originates s file.ino parents → MadeRecord older (says.Commit file s stamp parents content)
commit_made older file s stamp parents content n (inr own) = inr (inr own)
commit_made older file s stamp [] content n (inl h) = absurd h
commit_made older file s stamp (p ∷ ps) content n (inl h) = known (joins_known older file p ps n.base n.joins)
  where
    known : IsKnown older file → MadeRecord older (says.Commit file s stamp (p ∷ ps) content)
    known (inl root) = inl root
    known (inr committed) = inr (inl committed)

record_made : (c : Config) (older : List Told) (r : Record) → NumberedRecord older r → RecordPacked c r → MadeRecord older r
record_made c older (says.Commit file s stamp parents content) n h = commit_made older file s stamp parents content n h.1
record_made c older _ n h = tt

told_made : (c : Config) (older : List Told) (x : Told) → NumberedTold older x → ToldPacked c x → MadeTold older x
told_made c older (Shown r) n h = record_made c older r n h
told_made c older (Reserves s e inst file) n h = h.1
told_made c older _ n h = tt

past_made : (c : Config) (past : List Told) → CommitsAreNumbered past → Every (ToldPacked c) past → FilesAreMadeAtHome past
past_made c [] n h = tt
past_made c (x ∷ older) n h = (told_made c older x n.0 h.0, past_made c older n.1 h.1)

pub run_made : (c : Config) (lines : List ScheduleLine) → FilesAreMadeAtHome (past_of (run_in c lines).trace)
run_made c lines = let f : FilesLieInPacks c (run_in c lines) = run_packs c lines in past_made c (past_of (run_in c lines).trace) (run_numbered c lines (run_agrees c lines)) f.told
