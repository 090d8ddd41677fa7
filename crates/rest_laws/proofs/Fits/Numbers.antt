-- Files that stand have numbers of inodes.
use Rattle.std.proofs.Common.{◌≡◌, ℕ, ◌+◌, ◌==◌, Bool, true, false, ◌&&◌, ◌||◌, cond, List, [], ◌∷◌, refl, sym, subst, arith, inl, inr}
use Rattle.role_steps.proofs.of_plain_facts.Tests.{and_first, true_false}
use Rattle.locus_ids.specs.declared.config.Config.{Config}
use Rattle.locus_ids.specs.declared.ids.FileId.{FileId}
use Rattle.locus_ids.specs.declared.ids.Stamp.{Stamp}
use Rattle.locus_ids.specs.declared.sites.Sites.{Sites}
use Rattle.commit_graph.specs.Versions.{is_in, is_version, same_file, same_stamp}
use Rattle.trace_book.specs.declared.record.Record.{Record}
use Rattle.trace_book.specs.declared.record.Record.TheVariants as says
use Rattle.role_steps.specs.Views.{Told, Shown}
use Rattle.the_run.specs.Worlds.{Line}
use Rattle.site_laws.specs.Vectors.Written.{IsCommitOf, IsWrittenBy, JoinsAll, WrittenAs, past_of}
use Rattle.site_laws.specs.Vectors.HistoryCommits.{IsSite, SitedTold}
use Rattle.site_laws.specs.Packs.Making.{IsOwnNumber, NotEmpty, Originates}
use Rattle.site_laws.specs.Packs.Packs.{ToldPacked}
use Rattle.tree_model.specs.Histories.{format_version, format_versions, history}
use Rattle.tree_laws.specs.Printed.{entries, onto_entries}
use Rattle.tree_laws.proofs.Orders.Standing.{same_file_eq}
use Rattle.store_laws.specs.OneTree.Rest.{EachRest, RestTold}
use Rattle.rest_laws.specs.Fits.Inodes.{IsInodeNumber}

-- a site's own number is one
pub own_inode : (s ino : ℕ) → IsSite s → IsOwnNumber s ino → IsInodeNumber ino
own_inode s ino site own = (omega (arith, site.low, own.low), omega (arith, site.low, site.high, own.high))

root_inode : (ino : ℕ) → ino ≡ 1 → IsInodeNumber ino
root_inode ino e = (omega (arith, e), omega (arith, e))

-- ---- versions that were written ----

-- a commit that follows a version is of a file of which there is one
from_parents : (W : Stamp → List ℕ → Type 0) (P : Type 0) → ((stamp : Stamp) (vector : List ℕ) → W stamp vector → P) → (parents : List Stamp) (base : List ℕ) → NotEmpty parents → JoinsAll W parents base → P
from_parents W P each [] base some joins = absurd some
from_parents W P each (p ∷ ps) base some (a, b, w, rest, max) = each p a w

originates : (W : Stamp → List ℕ → Type 0) (s ino : ℕ) (parents : List Stamp) (base : List ℕ) → IsSite s → Originates s ino parents → JoinsAll W parents base → ((stamp : Stamp) (vector : List ℕ) → W stamp vector → IsInodeNumber ino) → IsInodeNumber ino
originates W s ino parents base site (inl some) joins each = from_parents W (IsInodeNumber ino) each parents base some joins
originates W s ino parents base site (inr own) joins each = own_inode s ino site own

module _ (c : Config) (older : List Line) (earlier : (g : FileId) (stamp : Stamp) (vector : List ℕ) → WrittenAs (past_of older) g stamp vector → IsInodeNumber g.ino) (f : FileId) (stamp : Stamp) (vector : List ℕ) where
  by_record : (r : Record) → ToldPacked c (Shown r) → SitedTold (Shown r) → IsCommitOf (WrittenAs (past_of older)) r f stamp vector → IsInodeNumber f.ino
  by_record (says.Commit g s made parents content) packed site (is, same, raised) =
      subst (λ (k : FileId). IsInodeNumber k.ino) is (originates (WrittenAs (past_of older) g) s g.ino parents raised.base site packed.1 raised.joins (earlier g))
  by_record _ packed site w = absurd w

  by_told : (t : Told) → ToldPacked c t → SitedTold t → IsWrittenBy (WrittenAs (past_of older)) t f stamp vector → IsInodeNumber f.ino
  by_told (Shown r) packed site w = by_record r packed site w
  by_told _ packed site w = absurd w

pub written_inode : (c : Config) (trace : List Line) → EachRest c trace → (f : FileId) (stamp : Stamp) (vector : List ℕ) → WrittenAs (past_of trace) f stamp vector → IsInodeNumber f.ino
written_inode c [] h f stamp vector w = root_inode f.ino w.root
written_inode c (x ∷ older) h f stamp vector (inl w) = written_inode c older h.1 f stamp vector w
written_inode c (x ∷ older) h f stamp vector (inr w) = by_told c older (λ g made v was. written_inode c older h.1 g made v was) f stamp vector x.told h.0.packed h.0.sited w

-- ---- versions that stand ----

module _ (c : Config) (f : FileId) (stamp : Stamp) where
  formats : (k : ℕ) (packs : List Sites) → is_in (format_versions k packs) f stamp ≡ true → IsInodeNumber f.ino
  formats k [] e = absurd (true_false (sym e))
  formats k (p ∷ ps) e = at (p.0 == 0) (formats (k + 1) ps) e
    where
      root : (b : Bool) → is_version f stamp (format_version k) ≡ b → (is_in (format_versions (k + 1) ps) f stamp ≡ true → IsInodeNumber f.ino) → b || is_in (format_versions (k + 1) ps) f stamp ≡ true → IsInodeNumber f.ino
      root true is later e = subst (λ (g : FileId). IsInodeNumber g.ino) (same_file_eq (format_version k).file f (and_first (same_file (format_version k).file f) _ is)) (root_inode 1 refl)
      root false is later e = later e

      at : (b : Bool) → (is_in (format_versions (k + 1) ps) f stamp ≡ true → IsInodeNumber f.ino) → is_in (cond b (format_versions (k + 1) ps) (format_version k ∷ format_versions (k + 1) ps)) f stamp ≡ true → IsInodeNumber f.ino
      at true later e = later e
      at false later e = root (is_version f stamp (format_version k)) refl later e

  record_inode : (n : ℕ) (r : Record) (older : List Line) → EachRest c older → RestTold c older (Shown r) → (is_in (history c (entries older)) f stamp ≡ true → IsInodeNumber f.ino) → is_in (history c (onto_entries n (Shown r) (entries older))) f stamp ≡ true → IsInodeNumber f.ino
  record_inode n (says.Commit g s made parents content) older rest told later e = at (same_file g f && same_stamp made stamp) refl e
    where
      its : IsInodeNumber g.ino
      its = originates (WrittenAs (past_of older) g) s g.ino parents told.numbered.base told.sited told.packed.1 told.numbered.joins (λ stamp vector v. written_inode c older rest g stamp vector v)

      at : (b : Bool) → (same_file g f && same_stamp made stamp) ≡ b → b || is_in (history c (entries older)) f stamp ≡ true → IsInodeNumber f.ino
      at true is e = subst (λ (h : FileId). IsInodeNumber h.ino) (same_file_eq g f (and_first (same_file g f) _ is)) its
      at false is e = later e
  record_inode n _ older rest told later e = later e

  told_inode : (n : ℕ) (x : Told) (older : List Line) → EachRest c older → RestTold c older x → (is_in (history c (entries older)) f stamp ≡ true → IsInodeNumber f.ino) → is_in (history c (onto_entries n x (entries older))) f stamp ≡ true → IsInodeNumber f.ino
  told_inode n (Shown r) older rest told later e = record_inode n r older rest told later e
  told_inode n _ older rest told later e = later e

  pub stands_inode : (trace : List Line) → EachRest c trace → is_in (history c (entries trace)) f stamp ≡ true → IsInodeNumber f.ino
  stands_inode [] h e = formats 0 c.packs e
  stands_inode (x ∷ older) h e = told_inode x.number x.told older h.1 h.0 (stands_inode older h.1) e
