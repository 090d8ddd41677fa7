-- Which data pages a commit names in the place of others.
use Rattle.std.proofs.Common.{◌≡◌, ◌⊎◌, ⊎_elim, ℕ, ◌<◌, ◌≤◌, Bool, List, replicate, sym, ◌∙◌, arith}
use Rattle.std.specs.Prelude.{None, Some}
use Rattle.std.proofs.lemmas.Bool.{cases_lt}
use Rattle.std.proofs.lemmas.List.{get_or-replicate}
use Rattle.locus_ids.specs.Sizes.{content_pages_max}
use Rattle.file_content.specs.Pages.{pages_of}
use Rattle.pack_layout.specs.Layout.{NamePages, none}
use Rattle.new_contents.specs.of_shadow_pages.Working.{Working}
use Rattle.pack_slots.specs.declared.inode_copy.InodeCopy.{InodeCopy}
use Rattle.pack_slots.specs.Copies.{numbers_in}
use Rattle.inode_pack.specs.Committing.{RestsOn, TakesPages}
use Rattle.new_contents.specs.Changed.{HasChanged}
use Rattle.inode_pack.specs.Rows.{SameButFor}
use Rattle.inode_pack.proofs.Setup.{kept_page}
use Rattle.new_contents.proofs.Counting.{unchanged}

-- two contents one after the other have the same data pages but for the row of the changed ones, or for all those of a longer one
pub same_but_for : (unused : ℕ → Bool) (copy : InodeCopy) (w : Working) (made : List ℕ) (first stop n m : ℕ) → NamePages (pages_of copy.slot.size) (numbers_in copy) → TakesPages unused (Some copy) w made → HasChanged first stop w
    → ((n ≡ 0) × (m ≡ pages_of copy.slot.size) × (pages_of w.size ≤ pages_of copy.slot.size)) ⊎ ((n ≡ first) × (m ≡ stop) × (pages_of copy.slot.size ≤ pages_of w.size)) → SameButFor n m (numbers_in copy) made
same_but_for unused copy w made first stop n m names takes has row i small out = ⊎_elim
    (λ all. ⊎_elim
    (λ (inside : i < pages_of copy.slot.size). absurd (out (omega (arith, all.0), omega (arith, all.1, inside))))
    (λ (past : pages_of copy.slot.size ≤ i). names.rest i past small ∙ sym (takes.rest i (omega (arith, all.2, past)) small))
    (cases_lt i (pages_of copy.slot.size)))
    (λ some. ⊎_elim
    (λ (inside : i < pages_of w.size). sym (takes.stays i inside (unchanged w first stop i has inside (λ p. out (omega (arith, some.0, p.0), omega (arith, some.1, p.1))))))
    (λ (past : pages_of w.size ≤ i). names.rest i (omega (arith, some.2)) small ∙ sym (takes.rest i past small))
    (cases_lt i (pages_of w.size)))
    row

-- the first content of an inode has none but those in the row
pub same_for_first : (unused : ℕ → Bool) (w : Working) (made : List ℕ) (first stop : ℕ) → RestsOn 0 w → TakesPages unused None w made → HasChanged first stop w → SameButFor first stop (replicate content_pages_max none) made
same_for_first unused w made first stop rests takes has i small out =
    get_or-replicate content_pages_max i none 0 small
    ∙ sym (⊎_elim
    (λ (inside : i < pages_of w.size).
    let kept = kept_page None w i rests inside (unchanged w first stop i has inside out) in
    absurd (let h : None ≡ Some kept.0 = kept.1 in cc))
    (λ (past : pages_of w.size ≤ i). takes.rest i past small)
    (cases_lt i (pages_of w.size)))
