-- Files that have a version have inode numbers of 16 bits.
use Rattle.std.proofs.Common.{◌≡◌, ℕ, ◌+◌, ◌==◌, ◌<◌, Bool, true, false, ◌&&◌, ◌||◌, cond, List, [], ◌∷◌, refl, sym, subst, arith}
use Rattle.role_steps.proofs.of_plain_facts.Tests.{and_first, true_false}
use Rattle.locus_ids.specs.declared.config.Config.{Config}
use Rattle.locus_ids.specs.declared.ids.FileId.{FileId}
use Rattle.locus_ids.specs.declared.ids.Stamp.{Stamp}
use Rattle.locus_ids.specs.declared.sites.Sites.{Sites}
use Rattle.locus_ids.specs.Sizes.{inode_span}
use Rattle.commit_graph.specs.Versions.{is_in, is_version, same_file, same_stamp}
use Rattle.trace_book.specs.declared.record.Record.{Record}
use Rattle.trace_book.specs.declared.record.Record.TheVariants as says
use Rattle.role_steps.specs.Views.{Told, Shown}
use Rattle.the_run.specs.Worlds.{Line}
use Rattle.tree_model.specs.Histories.{format_version, format_versions, history}
use Rattle.tree_laws.specs.Printed.{entries, onto_entries}
use Rattle.store_laws.proofs.of_tree_laws.Orders.Standing.{same_file_eq}
use Rattle.store_laws.specs.OneTree.Rest.{EachRest, RangeRecord, RangeTold}

module _ (c : Config) (f : FileId) (stamp : Stamp) where
  formats : (k : ℕ) (packs : List Sites) → is_in (format_versions k packs) f stamp ≡ true → f.ino < inode_span
  formats k [] e = absurd (true_false (sym e))
  formats k (p ∷ ps) e = at (p.0 == 0) (formats (k + 1) ps) e
    where
      root : (b : Bool) → is_version f stamp (format_version k) ≡ b → (is_in (format_versions (k + 1) ps) f stamp ≡ true → f.ino < inode_span) → b || is_in (format_versions (k + 1) ps) f stamp ≡ true → f.ino < inode_span
      root true is later e = subst (λ (g : FileId). g.ino < inode_span) (same_file_eq (format_version k).file f (and_first (same_file (format_version k).file f) _ is)) (omega arith)
      root false is later e = later e

      at : (b : Bool) → (is_in (format_versions (k + 1) ps) f stamp ≡ true → f.ino < inode_span) → is_in (cond b (format_versions (k + 1) ps) (format_version k ∷ format_versions (k + 1) ps)) f stamp ≡ true → f.ino < inode_span
      at true later e = later e
      at false later e = root (is_version f stamp (format_version k)) refl later e

  -- a commit is of a file with such a number
  record_narrow : (n : ℕ) (r : Record) (older : List Line) → RangeRecord c r → (is_in (history c (entries older)) f stamp ≡ true → f.ino < inode_span) → is_in (history c (onto_entries n (Shown r) (entries older))) f stamp ≡ true → f.ino < inode_span
  record_narrow n (says.Commit g s made parents content) older range later e = at (same_file g f && same_stamp made stamp) refl e
    where
      at : (b : Bool) → (same_file g f && same_stamp made stamp) ≡ b → b || is_in (history c (entries older)) f stamp ≡ true → f.ino < inode_span
      at true is e = subst (λ (h : FileId). h.ino < inode_span) (same_file_eq g f (and_first (same_file g f) _ is)) range.0
      at false is e = later e
  record_narrow n _ older range later e = later e

  told_narrow : (n : ℕ) (x : Told) (older : List Line) → RangeTold c x → (is_in (history c (entries older)) f stamp ≡ true → f.ino < inode_span) → is_in (history c (onto_entries n x (entries older))) f stamp ≡ true → f.ino < inode_span
  told_narrow n (Shown r) older range later e = record_narrow n r older range later e
  told_narrow n _ older range later e = later e

  pub stands_narrow : (trace : List Line) → EachRest c trace → is_in (history c (entries trace)) f stamp ≡ true → f.ino < inode_span
  stands_narrow [] h e = formats 0 c.packs e
  stands_narrow (x ∷ older) h e = told_narrow x.number x.told older h.0.range (stands_narrow older h.1) e
