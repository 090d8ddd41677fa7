use Rattle.std.proofs.Common.{◌≡◌, ◌⊎◌, ◌≤◌, ℕ, replicate, sym, ap, subst, ◌∙◌}
use Rattle.std.specs.Prelude.{Option}
use Rattle.locus_ids.specs.Sizes.{content_pages_max}
use Rattle.file_content.specs.Pages.{pages_of}
use Rattle.pack_layout.specs.declared.slot.Slot.{Slot}
use Rattle.pack_layout.specs.Layout.{none}
use Rattle.pack_slots.specs.declared.inode_copy.InodeCopy.{InodeCopy}
use Rattle.pack_slots.specs.Copies.{numbers_in, copy_of, AreCopies}
use Rattle.inode_pack.specs.Committing.{is_free, RestsOn, size_of, TakesPages}
use Rattle.inode_pack.specs.Pack.{PackState}
use Rattle.inode_pack.specs.Rows.{SameButFor}
use Rattle.inode_pack.proofs.Setup.{copy_is, names_pages}
use Rattle.inode_pack.proofs.Passing.{same_but_for, same_for_first}
use Rattle.inode_pack.proofs.NewCopies.{copy_at, low_of, high_of}
use Rattle.inode_pack.proofs.pack.Pack.prepare.Goals as goal

pub row_to_pass-passed-requires-clause-slot : goal.row_to_pass-passed-requires-clause-slot
row_to_pass-passed-requires-clause-slot g c one held =
    let inv = c.self.invariant in
    let at = copy_at c.self.inside.copies.items c.self.inside.pages.uses c.self.inside.pages.free inv.0 inv.1 c.args.ino c.from.result c.index-old.result.now (low_of c.get.result c.args.ino c.get.ensures.value c.get.ensures.low) (high_of c.get.result c.args.ino c.get.ensures.value c.get.ensures.high) (c.from.ensures ∙ c.get.ensures.value) c.index-old.ensures in
    (copy_is c.self.inside.copies.items c.args.ino one inv.0 (sym at ∙ held)).slot

pub returns-clause-own : goal.returns-clause-own
returns-clause-own g c = ap (λ (s : Slot). s.ino) c.in_ok-made.ensures.makes.says

pub returns-clause-inside : goal.returns-clause-inside
returns-clause-inside g c =
    let inv = c.self.invariant in
    let pack = c.args.self.now in
    let are = subst (λ (p : PackState). AreCopies p.copies) c.self.view_is inv.0 in
    let w = (g.C.NewContent.working c.args.content.now) in
    let row = c.args.row in
    let pass = c.row_to_pass-passed.result in
    let made = c.in_ok-made.made in
    let makes = c.in_ok-made.ensures.makes in
    let at = copy_at c.self.inside.copies.items c.self.inside.pages.uses c.self.inside.pages.free inv.0 inv.1 c.args.ino c.from.result c.index-old.result.now (low_of c.get.result c.args.ino c.get.ensures.value c.get.ensures.low) (high_of c.get.result c.args.ino c.get.ensures.value c.get.ensures.high) (c.from.ensures ∙ c.get.ensures.value) c.index-old.ensures ∙ ap (λ (p : PackState). copy_of p.copies c.args.ino) c.self.view_is in
    (names_pages pack.copies c.args.ino w are (numbers_in made.copy) c.requires.rests makes.takes c.in_ok-made.ensures.long.0).inside

pub returns-clause-same : goal.returns-clause-same
returns-clause-same g c one known =
    let inv = c.self.invariant in
    let pack = c.args.self.now in
    let are = subst (λ (p : PackState). AreCopies p.copies) c.self.view_is inv.0 in
    let w = (g.C.NewContent.working c.args.content.now) in
    let row = c.args.row in
    let pass = c.row_to_pass-passed.result in
    let made = c.in_ok-made.made in
    let makes = c.in_ok-made.ensures.makes in
    let at = copy_at c.self.inside.copies.items c.self.inside.pages.uses c.self.inside.pages.free inv.0 inv.1 c.args.ino c.from.result c.index-old.result.now (low_of c.get.result c.args.ino c.get.ensures.value c.get.ensures.low) (high_of c.get.result c.args.ino c.get.ensures.value c.get.ensures.high) (c.from.ensures ∙ c.get.ensures.value) c.index-old.ensures ∙ ap (λ (p : PackState). copy_of p.copies c.args.ino) c.self.view_is in
    let takes = subst (λ (o : Option InodeCopy). TakesPages (is_free pack.copies) o w (numbers_in made.copy)) known makes.takes in
    let names = (copy_is pack.copies c.args.ino one are known).pages in
    let end = c.page_count-end.ensures.pages ∙ ap pages_of c.size.ensures.value in
    let covers = subst (λ (n : ℕ). ((pass.first ≡ 0) × (pass.stop ≡ pages_of one.slot.size) × (n ≤ pages_of one.slot.size)) ⊎ ((pass.first ≡ row.first) × (pass.stop ≡ row.stop) × (pages_of one.slot.size ≤ n))) end (c.row_to_pass-passed.ensures.covers one (at ∙ known)) in
    same_but_for (is_free pack.copies) one w (numbers_in made.copy) row.first row.stop pass.first pass.stop names takes c.requires.changed covers

pub returns-clause-first : goal.returns-clause-first
returns-clause-first g c known =
    let inv = c.self.invariant in
    let pack = c.args.self.now in
    let are = subst (λ (p : PackState). AreCopies p.copies) c.self.view_is inv.0 in
    let w = (g.C.NewContent.working c.args.content.now) in
    let row = c.args.row in
    let pass = c.row_to_pass-passed.result in
    let made = c.in_ok-made.made in
    let makes = c.in_ok-made.ensures.makes in
    let at = copy_at c.self.inside.copies.items c.self.inside.pages.uses c.self.inside.pages.free inv.0 inv.1 c.args.ino c.from.result c.index-old.result.now (low_of c.get.result c.args.ino c.get.ensures.value c.get.ensures.low) (high_of c.get.result c.args.ino c.get.ensures.value c.get.ensures.high) (c.from.ensures ∙ c.get.ensures.value) c.index-old.ensures ∙ ap (λ (p : PackState). copy_of p.copies c.args.ino) c.self.view_is in
    let takes = subst (λ (o : Option InodeCopy). TakesPages (is_free pack.copies) o w (numbers_in made.copy)) known makes.takes in
    let rests : RestsOn 0 w = subst (λ (o : Option InodeCopy). RestsOn (size_of o) w) known c.requires.rests in
    let is = c.row_to_pass-passed.ensures.first (at ∙ known) in
    let same = same_for_first (is_free pack.copies) w (numbers_in made.copy) row.first row.stop rests takes c.requires.changed in
    subst (λ (n : ℕ). SameButFor n pass.stop (replicate content_pages_max none) (numbers_in made.copy)) (sym is.0) (subst (λ (n : ℕ). SameButFor row.first n (replicate content_pages_max none) (numbers_in made.copy)) (sym is.1) same)
