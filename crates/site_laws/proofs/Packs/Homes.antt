-- In every run the site whose number a file has is the first to commit it.
use Rattle.std.proofs.Common.{◌≡◌, ◌≤◌, ◌⊎◌, ℕ, ◌+◌, ◌-◌, ◌*◌, List, [], ◌∷◌, sym, ap, ◌∙◌, subst, inl, inr, arith}
use Rattle.locus_ids.specs.declared.ids.FileId.{FileId}
use Rattle.locus_ids.specs.declared.config.Config.{Config}
use Rattle.locus_ids.specs.Sizes.{site_inodes}
use Rattle.schedule_lines.specs.declared.line.ScheduleLine.{ScheduleLine}
use Rattle.trace_book.specs.declared.record.Record.{Record}
use Rattle.trace_book.specs.declared.record.Record.TheVariants as says
use Rattle.role_steps.specs.Views.{Told, Shown}
use Rattle.the_run.specs.Runs.{run_in}
use Rattle.site_laws.specs.Vectors.Written.{past_of}
use Rattle.site_laws.specs.Vectors.HistoryCommits.{SitedRecord, SitedTold, CommitsAreSited, SitesAreKnown}
use Rattle.site_laws.proofs.Vectors.HistorySited.{run_sited}
use Rattle.site_laws.specs.Packs.Making.{IsOwnNumber, CommitsRecord, CommitsFile, WasCommitted, MadeRecord, MadeTold, FilesAreMadeAtHome, WasCommittedAt, HomesCommitFirst}
use Rattle.site_laws.proofs.Packs.Making.{run_made}

-- the numbers of two sites differ
same_home : (s t ino : ℕ) → 1 ≤ s → 1 ≤ t → IsOwnNumber s ino → IsOwnNumber t ino → s ≡ t
same_home s t ino p q h g =
    let a : site_inodes * (s - 1) + 1 ≤ ino = h.low in
    let b : ino ≤ site_inodes * (s - 1) + site_inodes = h.high in
    let c : site_inodes * (t - 1) + 1 ≤ ino = g.low in
    let d : ino ≤ site_inodes * (t - 1) + site_inodes = g.high in
    omega (arith, p, q, a, b, c, d)

-- a root, or committed by the site whose number it has
abbrev HomeHas : List Told → ℕ → FileId → Type 0
HomeHas past home file = (file.ino ≡ 1) ⊎ WasCommittedAt past home file

later : (x : Told) (past : List Told) (home : ℕ) (file : FileId) → HomeHas past home file → HomeHas (x ∷ past) home file
later x past home file (inl h) = inl h
later x past home file (inr h) = inr (inr h)

-- what is said of each earlier commit holds of this one
record_home : (older : List Told) (file : FileId) (home : ℕ) (r : Record) → 1 ≤ home → IsOwnNumber home file.ino → (WasCommitted older file → HomeHas older home file) → MadeRecord older r → SitedRecord r → CommitsRecord file r → HomeHas (Shown r ∷ older) home file
record_home older file home (says.Commit g s stamp parents content) low own before made site e = by_case made
  where
    by_case : (g.ino ≡ 1) ⊎ (WasCommitted older g ⊎ IsOwnNumber s g.ino) → HomeHas (Shown (says.Commit g s stamp parents content) ∷ older) home file
    by_case (inl root) = inl (sym (ap (λ (x : FileId). x.ino) e) ∙ root)
    by_case (inr (inl committed)) = later (Shown (says.Commit g s stamp parents content)) older home file (before (subst (WasCommitted older) e committed))
    by_case (inr (inr number)) = inr (inl (same_home s home file.ino site.low low (subst (λ (x : FileId). IsOwnNumber s x.ino) e number) own, e))
record_home older file home _ low own before made site e = absurd e

told_home : (older : List Told) (file : FileId) (home : ℕ) (x : Told) → 1 ≤ home → IsOwnNumber home file.ino → (WasCommitted older file → HomeHas older home file) → MadeTold older x → SitedTold x → CommitsFile file x → HomeHas (x ∷ older) home file
told_home older file home (Shown r) low own before made site e = record_home older file home r low own before made site e
told_home older file home _ low own before made site e = absurd e

was_home : (past : List Told) (file : FileId) (home : ℕ) → 1 ≤ home → IsOwnNumber home file.ino → FilesAreMadeAtHome past → CommitsAreSited past → WasCommitted past file → HomeHas past home file
was_home [] file home low own made sites h = absurd h
was_home (x ∷ older) file home low own made sites (inl h) = told_home older file home x low own (was_home older file home low own made.1 sites.1) made.0 sites.0 h
was_home (x ∷ older) file home low own made sites (inr h) = later x older home file (was_home older file home low own made.1 sites.1 h)

past_homes : (past : List Told) → FilesAreMadeAtHome past → CommitsAreSited past → HomesCommitFirst past
past_homes [] made sites = tt
past_homes (x ∷ older) made sites = ((λ file home low own e. told_home older file home x low own (was_home older file home low own made.1 sites.1) made.0 sites.0 e), past_homes older made.1 sites.1)

pub run_homes : (c : Config) (lines : List ScheduleLine) → HomesCommitFirst (past_of (run_in c lines).trace)
run_homes c lines = let k : SitesAreKnown (run_in c lines) = run_sited c lines in past_homes (past_of (run_in c lines).trace) (run_made c lines) k.commits
