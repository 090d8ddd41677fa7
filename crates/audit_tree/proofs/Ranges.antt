-- The numbers that a site gives to files.
use Rattle.std.proofs.Common.{◌≡◌, ℕ, zero, suc, ◌+◌, ◌-◌, ◌*◌, ◌==◌, ◌&&◌, ◌||◌, Bool, true, false, length, refl, sym, ap, ◌∙◌, arith}
use Rattle.std.specs.Prelude.{nat_le, nat_lt}
use Rattle.std.proofs.lemmas.Bool.Decides.{nat_tests}
use Rattle.locus_ids.specs.Sizes.{site_inodes}
use Rattle.commit_graph.specs.Vectors.{numbers_from}
use Rattle.tree_model.specs.Opening.{range_of}
use Rattle.promises.specs.Past.{Copy, Epoch, Past, copies_in, is_number}
use Rattle.promises.specs.Tree.{numbers_used}
use Rattle.audit_copies.proofs.of_past_laws.TreesLists.{filter_same}
use Rattle.audit_tree.specs.Parts.{is_given, used_among}

range_length : (first n : ℕ) → length (numbers_from first n) ≡ n
range_length first zero = refl
range_length first (suc n) = ap suc (range_length (first + 1) n)

pub range_many : (site n : ℕ) → nat_le (length (range_of site)) n ≡ nat_le site_inodes n
range_many site n = ap (λ many. nat_le many n) (range_length (site_inodes * (site - 1) + 1) site_inodes)

is_among : (first n x : ℕ) → is_number (numbers_from first n) x ≡ (nat_le first x && nat_lt x (first + n))
is_among first zero x = outside (nat_le first x) refl
  where
    outside : (b : Bool) → nat_le first x ≡ b → false ≡ (b && nat_lt x (first + 0))
    outside true e = grind (arith, nat_tests)
    outside false e = refl
is_among first (suc n) x = ap (λ b. (first == x) || b) (is_among (first + 1) n x) ∙ by
  where
    by : ((first == x) || (nat_le (first + 1) x && nat_lt x ((first + 1) + n))) ≡ (nat_le first x && nat_lt x (first + suc n))
    by = grind (arith, nat_tests)

pub given_so : (site ino : ℕ) → is_given site ino ≡ is_number (range_of site) ino
given_so site ino = by ∙ sym (is_among (site_inodes * (site - 1) + 1) site_inodes ino)
  where
    by : (nat_lt (site_inodes * (site - 1)) ino && nat_le ino (site_inodes * (site - 1) + site_inodes)) ≡ (nat_le (site_inodes * (site - 1) + 1) ino && nat_lt ino ((site_inodes * (site - 1) + 1) + site_inodes))
    by = grind (arith, nat_tests)

pub used_so : (p : Past) (t : Epoch) (group site : ℕ) → used_among group site (copies_in p t site) ≡ numbers_used p t group site
used_so p t group site = filter_same (λ (v : Copy). (v.file.group == group) && is_given site v.file.ino) (λ (v : Copy). (v.file.group == group) && is_number (range_of site) v.file.ino)
    (λ v. ap (λ b. (v.file.group == group) && b) (given_so site v.file.ino)) (copies_in p t site)
