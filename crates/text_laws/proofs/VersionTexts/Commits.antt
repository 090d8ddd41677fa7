-- A commit that was told is of a version that may stand in a slot, so that what it names is in range.
use Rattle.std.proofs.Common.{◌≡◌, ℕ, ◌&&◌, ◌≤◌, ◌<◌, ◌^◌, inl, inr, true, [], ◌∷◌, refl, ap, ◌∙◌, arith}
use Rattle.std.proofs.lemmas.Bool.Decides.{nat_tests}
use Rattle.std.specs.List.{AllByRecursion}
use Rattle.locus_ids.specs.Sizes.{inodes_max, sites_max}
use Rattle.locus_ids.specs.declared.config.Config.{Config}
use Rattle.locus_ids.specs.declared.ids.FileId.{FileId}
use Rattle.locus_ids.specs.declared.ids.Stamp.{Stamp}
use Rattle.commit_graph.specs.Versions.{is_in, same_file, same_stamp}
use Rattle.trace_book.specs.declared.entry.Entry.{Entry}
use Rattle.trace_book.specs.declared.record.Record.{Record}
use Rattle.trace_book.specs.declared.record.Record.TheVariants as says
use Rattle.tree_model.specs.Files.{version_of}
use Rattle.tree_model.specs.Folds.{Trace}
use Rattle.tree_model.specs.Histories.{history, history_after}
use Rattle.stored_versions.specs.Versions.{IsStamp}
use Rattle.record_reading.specs.Ranges.{is_inode, is_stamp}
use Rattle.rest_laws.specs.Fits.Versions.{FitsSlot}
use Rattle.plain_facts.proofs.Tests.{and_true, or_second, or_first}
use Rattle.past_laws.proofs.Names.{file_own, stamp_own}
use Rattle.past_laws.proofs.CallsLists.{each_more}
use Rattle.text_laws.specs.VersionTexts.Texts.{CommitFits}

-- ---- a commit stands ----

abbrev CommitIn : Config → Trace → Record → Type 0
CommitIn c trace (says.Commit f site stamp parents content) = is_in (history c trace) f stamp ≡ true
CommitIn c trace _ = Unit {0}

later_in : (c : Config) (trace : Trace) (r : Entry) (f : FileId) (stamp : Stamp) → is_in (history c trace) f stamp ≡ true → is_in (history c (r ∷ trace)) f stamp ≡ true
later_in c trace r f stamp h = by r.what
  where
    by : (w : Record) → is_in (history_after w (history c trace)) f stamp ≡ true
    by (says.Commit g s made parents content) = or_second _ (is_in (history c trace) f stamp) h
    by w = h

kept_in : (c : Config) (trace : Trace) (r : Entry) (w : Record) → CommitIn c trace w → CommitIn c (r ∷ trace) w
kept_in c trace r (says.Commit f site stamp parents content) h = later_in c trace r f stamp h
kept_in c trace r w h = tt

abbrev CommitHere : Config → Trace → Record → Type 0
CommitHere c trace (says.Commit f site stamp parents content) = is_in (history_after (says.Commit f site stamp parents content) (history c trace)) f stamp ≡ true
CommitHere c trace _ = Unit {0}

here_in : (c : Config) (trace : Trace) (w : Record) → CommitHere c trace w
here_in c trace (says.Commit f site stamp parents content) = or_first (same_file f f && same_stamp stamp stamp) (is_in (history c trace) f stamp) (and_true (same_file f f) (same_stamp stamp stamp) (file_own f) (stamp_own stamp))
here_in c trace w = tt

commits_stand : (c : Config) (trace : Trace) → AllByRecursion (λ (r : Entry). CommitIn c trace r.what) trace
commits_stand c [] = tt
commits_stand c (r ∷ trace) = (now r.what refl, each_more (λ (x : Entry). CommitIn c trace x.what) (λ (x : Entry). CommitIn c (r ∷ trace) x.what) (λ x h. kept_in c trace r x.what h) trace (commits_stand c trace))
  where
    now : (w : Record) → r.what ≡ w → CommitIn c (r ∷ trace) w
    now (says.Commit f site stamp parents content) e = ap (λ (x : Record). is_in (history_after x (history c trace)) f stamp) e ∙ here_in c trace (says.Commit f site stamp parents content)
    now w e = tt

-- ---- what it names ----

inode_fits : (n : ℕ) → 1 ≤ n → n ≤ inodes_max → is_inode n ≡ true
inode_fits n h k = grind (arith, nat_tests)

stamp_fits : (s : Stamp) → IsStamp s → is_stamp s ≡ true
stamp_fits s (inl h) = grind (arith, nat_tests, h.0, h.1)
stamp_fits s (inr h) = counted s.site s.n h.0 h.1 h.2 h.3
  where
    counted : (a b : ℕ) → 1 ≤ a → a ≤ sites_max → 1 ≤ b → b < 2 ^ 32 → is_stamp (record { site = a; n = b }) ≡ true
    counted a b e f g k = grind (arith, nat_tests)

fits_of : (c : Config) (trace : Trace) → ((f : FileId) (stamp : Stamp) → is_in (history c trace) f stamp ≡ true → FitsSlot f (version_of c trace f stamp)) → (w : Record) → CommitIn c trace w → CommitFits w
fits_of c trace slots (says.Commit f site stamp parents content) h = (let k : FitsSlot f (version_of c trace f stamp) = slots f stamp h in (inode_fits f.ino k.number.0 k.number.1, stamp_fits stamp k.version.named))
fits_of c trace slots w h = tt

pub commits_fit : (c : Config) (trace : Trace) → ((f : FileId) (stamp : Stamp) → is_in (history c trace) f stamp ≡ true → FitsSlot f (version_of c trace f stamp)) → AllByRecursion (λ (r : Entry). CommitFits r.what) trace
commits_fit c trace slots = each_more (λ (r : Entry). CommitIn c trace r.what) (λ (r : Entry). CommitFits r.what) (λ r h. fits_of c trace slots r.what h) trace (commits_stand c trace)
