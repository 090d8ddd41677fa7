use Rattle.std.proofs.lemmas.Bool.{cases_lt}
use Rattle.std.proofs.Common.{◌≡◌, ◌<◌, ◌≤◌, ◌⊎◌, inl, inr, ⊎_elim, min, take, sym, ◌∙◌, ap, subst, arith}
use Rattle.std.specs.Prelude.{Option, IfSome}
use Rattle.locus_ids.specs.Sizes.{slot_pages}
use Rattle.pack_layout.specs.of_file_content.Pages.{pages_of}
use Rattle.pack_slots.specs.declared.inode_copy.InodeCopy.{InodeCopy}
use Rattle.pack_slots.specs.Copies.{pages_in}
use Rattle.pack_slots.specs.Losing.{IsSlotApart}
use Rattle.pack_slots.proofs.Numbers.{first_part}
use Rattle.pack_slots.proofs.uses.first_pages.Goals as goal

pub returns-in-Some-clause-pages : goal.returns-in-Some-clause-pages
returns-in-Some-clause-pages c =
    let copy = c.in-Some.copy in
    let is = subst (λ (o : Option InodeCopy). IfSome o IsSlotApart) c.in-Some.is c.requires in
    let n = pages_of copy.slot.size in
    let least : c.min.result ≡ min n slot_pages = c.min.ensures in
    let full : (n ≤ c.min.result) ⊎ (slot_pages ≤ c.min.result) = ⊎_elim (λ (lt : n < slot_pages). inl (omega (arith, least))) (λ (le : slot_pages ≤ n). inr (omega (arith, least))) (cases_lt n slot_pages) in
    first_part n c.min.result copy.slot.pages _ is.0.pages.count (omega (arith, least)) (omega (arith, least)) full ∙ sym (ap (λ (o : Option InodeCopy). take slot_pages (pages_in o)) c.in-Some.is)
