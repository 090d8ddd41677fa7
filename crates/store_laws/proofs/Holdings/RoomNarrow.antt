-- The inode numbers of files that stand have 16 bits, where those of all commits and adoptions have.
use Rattle.std.proofs.Common.{◌≡◌, ℕ, ◌+◌, ◌==◌, ◌<◌, Bool, true, false, ◌||◌, ◌&&◌, cond, List, [], ◌∷◌, refl, sym, ap, subst, arith, ◌⊎◌, inl, inr}
use Rattle.tree_laws.proofs.of_plain_facts.Tests.{and_first, true_false}
use Rattle.locus_ids.specs.declared.config.Config.{Config}
use Rattle.locus_ids.specs.declared.ids.FileId.{FileId}
use Rattle.locus_ids.specs.declared.sites.Sites.{Sites}
use Rattle.locus_ids.specs.declared.ids.Stamp.{Stamp}
use Rattle.locus_ids.specs.Sizes.{inode_span}
use Rattle.commit_graph.specs.Versions.{is_in, is_version, same_file, same_stamp}
use Rattle.trace_book.specs.declared.record.Record.{Record}
use Rattle.trace_book.specs.declared.record.Record.TheVariants as says
use Rattle.site_laws.specs.of_role_steps.Views.{Told, Shown}
use Rattle.tree_laws.specs.of_the_run.Worlds.{Line}
use Rattle.site_laws.specs.Vectors.Written.{past_of}
use Rattle.site_laws.specs.Vectors.HistoryCommits.{FitRecord, FitTold, NumbersFit}
use Rattle.tree_model.specs.Histories.{format_stamp, format_version, format_versions, history}
use Rattle.tree_laws.specs.Printed.{entries, onto_entries}
use Rattle.tree_laws.proofs.Orders.Standing.{At, same_file_eq}

-- the format's versions are of roots
format_root : (k : ℕ) (packs : List Sites) (f : FileId) (s : Stamp) → is_in (format_versions k packs) f s ≡ true → f.ino ≡ 1
format_root k [] f s h = absurd (true_false (sym h))
format_root k (p ∷ ps) f s h = at (p.0 == 0) h (format_root (k + 1) ps f s)
  where
    either : (a b : Bool) → a || b ≡ true → (a ≡ true) ⊎ (b ≡ true)
    either true b h = inl refl
    either false b h = inr h

    over : (is_version f s (format_version k) ≡ true) ⊎ (is_in (format_versions (k + 1) ps) f s ≡ true) → (is_in (format_versions (k + 1) ps) f s ≡ true → f.ino ≡ 1) → f.ino ≡ 1
    over (inl e) later = sym (ap (λ (y : FileId). y.ino) (same_file_eq (At k 1) f (and_first (same_file (At k 1) f) (same_stamp format_stamp s) e)))
    over (inr e) later = later e

    at : (b : Bool) → is_in (cond b (format_versions (k + 1) ps) (format_version k ∷ format_versions (k + 1) ps)) f s ≡ true → (is_in (format_versions (k + 1) ps) f s ≡ true → f.ino ≡ 1) → f.ino ≡ 1
    at true h later = later h
    at false h later = over (either (is_version f s (format_version k)) (is_in (format_versions (k + 1) ps) f s) h) later

pub stands_narrow : (c : Config) (trace : List Line) → NumbersFit (past_of trace) → (f : FileId) (s : Stamp) → is_in (history c (entries trace)) f s ≡ true → f.ino < inode_span
stands_narrow c [] fit f s k = root f.ino (format_root 0 c.packs f s k)
  where
    root : (n : ℕ) → n ≡ 1 → n < inode_span
    root n e = omega (arith, e)
stands_narrow c (x ∷ older) fit f s k = over x.told fit.0 k (stands_narrow c older fit.1 f s)
  where
    either : (a b : Bool) → a || b ≡ true → (a ≡ true) ⊎ (b ≡ true)
    either true b k = inl refl
    either false b k = inr k

    here : (g : FileId) (stamp : Stamp) → g.ino < inode_span → (same_file g f && same_stamp stamp s ≡ true) ⊎ (is_in (history c (entries older)) f s ≡ true) → (is_in (history c (entries older)) f s ≡ true → f.ino < inode_span) → f.ino < inode_span
    here g stamp fits (inl e) later = subst (λ (y : FileId). y.ino < inode_span) (same_file_eq g f (and_first (same_file g f) (same_stamp stamp s) e)) fits
    here g stamp fits (inr e) later = later e

    of : (r : Record) → FitRecord r → is_in (history c (record { line = x.number; what = r } ∷ entries older)) f s ≡ true → (is_in (history c (entries older)) f s ≡ true → f.ino < inode_span) → f.ino < inode_span
    of (says.Commit g z stamp parents content) fits k later = here g stamp fits (either (same_file g f && same_stamp stamp s) (is_in (history c (entries older)) f s) k) later
    of r fits k later = later k

    over : (y : Told) → FitTold y → is_in (history c (onto_entries x.number y (entries older))) f s ≡ true → (is_in (history c (entries older)) f s ≡ true → f.ino < inode_span) → f.ino < inode_span
    over (Shown r) fits k later = of r fits k later
    over _ fits k later = later k
