-- When an operation has an effect on a content.
use Rattle.std.proofs.Common.{◌≡◌, ℕ, ◌+◌, ◌≤◌, Bool, true, ◌&&◌, cond, nat_le, List, length, Option, Some, None, ◌∙◌, ap, arith}
use Rattle.std.proofs.lemmas.Bool.Decides.{nat_tests}
use Rattle.locus_ids.specs.declared.ids.Kind.{Kind}
use Rattle.locus_ids.specs.Sizes.{file_bytes_max, inodes_max}
use Rattle.trace_book.specs.Names.{is_name}
use Rattle.trace_book.specs.declared.operation.Op.TheVariants as op
use Rattle.dir_format.specs.Contents.{entries_of, is_dir}
use Rattle.dir_format.specs.Effects.{DirEffect, empty_effect, find_effect, insert_effect, probe_effect, remove_effect, rename_effect}
use Rattle.dir_format.specs.Entries.{IsVector}
use Rattle.dir_format.proofs.Tests.{both_back, in_range_back}
use Rattle.file_effects.specs.Effects.{As, Deed, Effect, Removes, effect, in_directory, on_directory, writes}
use Rattle.rest_laws.proofs.Fits.CalmAskingDirectories.{Lacks, empty_leaves, entries_dir, find_leaves, insert_passes, probe_passes, rename_passes}
use Rattle.rest_laws.proofs.Fits.CalmAskingFound.{IsLivePair, remove_leaves}

-- the deed has an effect on the content
abbrev pub Acts : Deed → List ℕ → Type 0
Acts d content = (e : Effect) × (effect d content ≡ Some e)

in_dir : (content : List ℕ) (d : DirEffect) → is_dir d.entries ≡ true → (e : Effect) × (in_directory content (Some d) ≡ Some e)
in_dir content d h = (on_directory content d, ap (λ (b : Bool). cond b (Some (on_directory content d)) None) h)

worded : (b : Bool) (o : Option Effect) (e : Effect) → b ≡ true → o ≡ Some e → cond b o None ≡ Some e
worded b o e h k = ap (λ (x : Bool). cond x o None) h ∙ k

pub write_acts : (at : ℕ) (bytes content : List ℕ) → at + length bytes ≤ file_bytes_max → Acts (As (op.Write at bytes)) content
write_acts at bytes content h = (writes content at bytes, ap (λ (b : Bool). cond b (Some (writes content at bytes)) None) (within (at + length bytes) h))
  where
    within : (n : ℕ) → n ≤ file_bytes_max → nat_le n file_bytes_max ≡ true
    within n le = grind (arith, nat_tests)

pub probe_acts : (name content : List ℕ) → is_name name ≡ true → Acts (As (op.Probe name)) content
probe_acts name content h = (let k = in_dir content (probe_effect name (entries_of content)) (probe_passes name (entries_of content) (entries_dir content)) in (k.0, worded (is_name name) (in_directory content (Some (probe_effect name (entries_of content)))) k.0 h k.1))

pub find_acts : (component content : List ℕ) → Acts (As (op.Find component)) content
find_acts component content = in_dir content (find_effect component (entries_of content)) (find_leaves component (entries_of content) (entries_dir content))

pub empty_acts : (content : List ℕ) → Acts (As op.Empty) content
empty_acts content = in_dir content (empty_effect (entries_of content)) (empty_leaves (entries_of content) (entries_dir content))

pub rename_acts : (component name content : List ℕ) → is_name name ≡ true → Acts (As (op.Rename component name)) content
rename_acts component name content h = (let k = in_dir content (rename_effect component name (entries_of content)) (rename_passes component name (entries_of content) (entries_dir content) h) in (k.0, worded (is_name name) (in_directory content (Some (rename_effect component name (entries_of content)))) k.0 h k.1))

pub insert_acts : (name : List ℕ) (ino : ℕ) (kind : Kind) (content : List ℕ) → is_name name ≡ true → 1 ≤ ino → ino ≤ inodes_max → Lacks ino (entries_of content) → Acts (As (op.Insert name ino kind)) content
insert_acts name ino kind content named low high lacks = (
  k.0,
  worded (is_name name && (nat_le 1 ino && nat_le ino inodes_max)) (in_directory content (insert_effect name ino kind (entries_of content))) k.0 (both_back (is_name name) (nat_le 1 ino && nat_le ino inodes_max) named (in_range_back 1 inodes_max ino low high)) (ap (in_directory content) left.1 ∙ k.1),
)
  where
    left : (d : DirEffect) × (insert_effect name ino kind (entries_of content) ≡ Some d) × (is_dir d.entries ≡ true)
    left = insert_passes name ino kind (entries_of content) (entries_dir content) named low high lacks

    k : (e : Effect) × (in_directory content (Some left.0) ≡ Some e)
    k = in_dir content left.0 left.2

pub remove_acts : (name : List ℕ) (ino : ℕ) (seen content : List ℕ) → IsVector seen → IsLivePair name ino (entries_of content) → Acts (Removes name ino seen) content
remove_acts name ino seen content v p = (k.0, ap (in_directory content) left.1 ∙ k.1)
  where
    left : (d : DirEffect) × (remove_effect name ino seen (entries_of content) ≡ Some d) × (is_dir d.entries ≡ true)
    left = remove_leaves name ino seen (entries_of content) (entries_dir content) v p

    k : (e : Effect) × (in_directory content (Some left.0) ≡ Some e)
    k = in_dir content left.0 left.2
