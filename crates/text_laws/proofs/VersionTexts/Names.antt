-- A version that is adopted or published was committed before, or is the format's, so that what names it is in range.
use Rattle.std.proofs.Common.{◌≡◌, ℕ, inl, inr, true, List, [], ◌∷◌, Some, subst, arith}
use Rattle.std.proofs.lemmas.Bool.Decides.{nat_tests}
use Rattle.std.specs.List.{AllByRecursion}
use Rattle.locus_ids.specs.declared.ids.FileId.{FileId}
use Rattle.locus_ids.specs.declared.ids.Stamp.{Stamp}
use Rattle.trace_book.specs.declared.entry.Entry.{Entry}
use Rattle.trace_book.specs.declared.record.Record.{Record}
use Rattle.trace_book.specs.declared.record.Record.TheVariants as says
use Rattle.record_reading.specs.Ranges.{is_inode, is_stamp}
use Rattle.role_steps.specs.Views.{Told, Shown}
use Rattle.the_run.specs.Worlds.{Line}
use Rattle.site_laws.specs.Vectors.Written.{past_of, WrittenAs}
use Rattle.site_laws.specs.Kept.Known.{NamesAreVersions, NamedTold, NamedRecord}
use Rattle.tree_laws.specs.Printed.{entries, onto_entries}
use Rattle.text_laws.specs.VersionTexts.Texts.{CommitFits, NameFits}

abbrev ToldFits : Told → Type 0
ToldFits (Shown r) = CommitFits r
ToldFits _ = Unit {0}

abbrev pub Fits : FileId → Stamp → Type 0
Fits f stamp = (is_inode f.ino ≡ true) × (is_stamp stamp ≡ true)

-- what is so of each record that was told
told_fits : (trace : List Line) → AllByRecursion (λ (r : Entry). CommitFits r.what) (entries trace) → AllByRecursion ToldFits (past_of trace)
told_fits [] h = tt
told_fits (x ∷ older) h = by x.number x.told h (told_fits older)
  where
    by : (n : ℕ) (t : Told) → AllByRecursion (λ (r : Entry). CommitFits r.what) (onto_entries n t (entries older)) → (AllByRecursion (λ (r : Entry). CommitFits r.what) (entries older) → AllByRecursion ToldFits (past_of older)) → ToldFits t × AllByRecursion ToldFits (past_of older)
    by n (Shown r) k later = (k.0, later k.1)
    by n t k later = (tt, later k)

first_inode : (n : ℕ) → n ≡ 1 → is_inode n ≡ true
first_inode n e = grind (arith, nat_tests)

first_stamp : (s : Stamp) → s.site ≡ 0 → s.n ≡ 0 → is_stamp s ≡ true
first_stamp s e f = grind (arith, nat_tests)

written_fits : (past : List Told) (f : FileId) (stamp : Stamp) (vector : List ℕ) → AllByRecursion ToldFits past → WrittenAs past f stamp vector → Fits f stamp
written_fits [] f stamp vector h w = (first_inode f.ino w.root, first_stamp stamp w.site w.number)
written_fits (x ∷ older) f stamp vector h (inl w) = written_fits older f stamp vector h.1 w
written_fits (Shown (says.Commit g s made parents content) ∷ older) f stamp vector h (inr w) = (subst (λ (d : FileId). is_inode d.ino ≡ true) w.0 h.0.0, subst (λ (d : Stamp). is_stamp d ≡ true) w.1 h.0.1)
written_fits (x ∷ older) f stamp vector h (inr w) = absurd w

record_fits : (past : List Told) (r : Record) → AllByRecursion ToldFits past → NamedRecord past r → NameFits r
record_fits past (says.Adopt f s stamp) h named = written_fits past f stamp named.0 h named.1
record_fits past (says.Release e inst f (Some stamp)) h named = written_fits past f stamp named.0 h named.1
record_fits past r h named = tt

pub names_fit : (trace : List Line) → AllByRecursion (λ (r : Entry). CommitFits r.what) (entries trace) → NamesAreVersions (past_of trace) → AllByRecursion (λ (r : Entry). NameFits r.what) (entries trace)
names_fit [] h named = tt
names_fit (x ∷ older) h named = by x.number x.told h named.0 (λ k. names_fit older k named.1)
  where
    by : (n : ℕ) (t : Told) → AllByRecursion (λ (r : Entry). CommitFits r.what) (onto_entries n t (entries older)) → NamedTold (past_of older) t → (AllByRecursion (λ (r : Entry). CommitFits r.what) (entries older) → AllByRecursion (λ (r : Entry). NameFits r.what) (entries older))
        → AllByRecursion (λ (r : Entry). NameFits r.what) (onto_entries n t (entries older))
    by n (Shown r) k w later = (record_fits (past_of older) r (told_fits older k.1) w, later k.1)
    by n t k w later = later k
