use Rattle.std.proofs.Common.{◌≡◌, ◌-◌, ◌≤◌, ℕ, length, replicate, get_or, set, sym, ap, subst, ◌∙◌, arith}
use Rattle.std.specs.Prelude.{Option, None, Some}
use Rattle.std.proofs.lemmas.List.{get_or-set_other}
use Rattle.locus_ids.specs.Sizes.{content_pages_max}
use Rattle.pack_layout.specs.Layout.{NamePages, none}
use Rattle.pack_slots.specs.declared.inode_copy.InodeCopy.{InodeCopy}
use Rattle.inode_pack.specs.Pack.{PackState}
use Rattle.pack_slots.specs.Copies.{numbers_in, copy_of, AreCopies, AreUses, pages_in, times}
use Rattle.inode_pack.specs.Rows.{SameButFor, NoneAbove}
use Rattle.inode_pack.proofs.Setup.{copy_is}
use Rattle.inode_pack.proofs.PageLists.{all_named, pages_long}
use Rattle.inode_pack.proofs.NewCopies.{copy_at, made_copy, enough, named_once, released_once, uses_next, low_of, high_of}
use Rattle.inode_pack.proofs.pack.Pack.put.Goals as goal

pub page_count-pages-requires : goal.page_count-pages-requires
page_count-pages-requires c =
    let inv = c.self.invariant in
    let next = subst (λ (k : PackState). AreCopies (set k.copies (c.args.ino - 1) (Some c.args.made.copy))) (sym c.self.view_is) c.requires.copies in
    (made_copy c.self.inside.copies.items c.self.inside.pages.uses c.self.inside.pages.free inv.0 inv.1 c.args.ino c.args.made.copy (low_of c.get-number.result c.args.ino c.get-number.ensures.value c.get-number.ensures.low) (high_of c.get-number.result c.args.ino c.get-number.ensures.value c.get-number.ensures.high) next).slot.size

pub pass-requires-clause-old : goal.pass-requires-clause-old
pass-requires-clause-old c one held =
    let inv = c.self.invariant in
    let at = copy_at c.self.inside.copies.items c.self.inside.pages.uses c.self.inside.pages.free inv.0 inv.1 c.args.ino c.from-at.result c.index-old.result.now (low_of c.get-number.result c.args.ino c.get-number.ensures.value c.get-number.ensures.low) (high_of c.get-number.result c.args.ino c.get-number.ensures.value c.get-number.ensures.high) (c.from-at.ensures ∙ c.get-number.ensures.value) c.index-old.ensures in
    let is = copy_is c.self.inside.copies.items c.args.ino one inv.0 (sym at ∙ held) in
    (is.slot, is.pages)

pub pass-requires-clause-fits : goal.pass-requires-clause-fits
pass-requires-clause-fits c =
    let inv = c.self.invariant in
    let next = subst (λ (k : PackState). AreCopies (set k.copies (c.args.ino - 1) (Some c.args.made.copy))) (sym c.self.view_is) c.requires.copies in
    let is = made_copy c.self.inside.copies.items c.self.inside.pages.uses c.self.inside.pages.free inv.0 inv.1 c.args.ino c.args.made.copy (low_of c.get-number.result c.args.ino c.get-number.ensures.value c.get-number.ensures.low) (high_of c.get-number.result c.args.ino c.get-number.ensures.value c.get-number.ensures.high) next in
    (is.slot, is.pages)

pub pass-requires-clause-once : goal.pass-requires-clause-once
pass-requires-clause-once c p lt =
    let inv = c.self.invariant in
    let at = copy_at c.self.inside.copies.items c.self.inside.pages.uses c.self.inside.pages.free inv.0 inv.1 c.args.ino c.from-at.result c.index-old.result.now (low_of c.get-number.result c.args.ino c.get-number.ensures.value c.get-number.ensures.low) (high_of c.get-number.result c.args.ino c.get-number.ensures.value c.get-number.ensures.high) (c.from-at.ensures ∙ c.get-number.ensures.value) c.index-old.ensures in
    let next = subst (λ (k : PackState). AreCopies (set k.copies (c.args.ino - 1) (Some c.args.made.copy))) (sym c.self.view_is) c.requires.copies in
    subst (λ (o : Option InodeCopy). times p (pages_in o) ≤ get_or c.self.inside.pages.uses p 0) (sym at) (released_once c.self.inside.copies.items c.self.inside.pages.uses c.self.inside.pages.free inv.0 inv.1 c.args.ino c.args.made.copy (low_of c.get-number.result c.args.ino c.get-number.ensures.value c.get-number.ensures.low) (high_of c.get-number.result c.args.ino c.get-number.ensures.value c.get-number.ensures.high) next p lt)

pub pass-requires-clause-made : goal.pass-requires-clause-made
pass-requires-clause-made c =
    let inv = c.self.invariant in
    let next = subst (λ (k : PackState). AreCopies (set k.copies (c.args.ino - 1) (Some c.args.made.copy))) (sym c.self.view_is) c.requires.copies in
    let is = made_copy c.self.inside.copies.items c.self.inside.pages.uses c.self.inside.pages.free inv.0 inv.1 c.args.ino c.args.made.copy (low_of c.get-number.result c.args.ino c.get-number.ensures.value c.get-number.ensures.low) (high_of c.get-number.result c.args.ino c.get-number.ensures.value c.get-number.ensures.high) next in
    subst (λ (n : ℕ). NamePages n (numbers_in c.args.made.copy)) (sym c.page_count-pages.ensures.pages) is.pages

pub pass-requires-clause-few : goal.pass-requires-clause-few
pass-requires-clause-few c p lt =
    let inv = c.self.invariant in
    let next = subst (λ (k : PackState). AreCopies (set k.copies (c.args.ino - 1) (Some c.args.made.copy))) (sym c.self.view_is) c.requires.copies in
    let is = made_copy c.self.inside.copies.items c.self.inside.pages.uses c.self.inside.pages.free inv.0 inv.1 c.args.ino c.args.made.copy (low_of c.get-number.result c.args.ino c.get-number.ensures.value c.get-number.ensures.low) (high_of c.get-number.result c.args.ino c.get-number.ensures.value c.get-number.ensures.high) next in
    let few = named_once c.self.inside.copies.items c.self.inside.pages.uses c.self.inside.pages.free inv.0 inv.1 c.args.ino c.args.made.copy (low_of c.get-number.result c.args.ino c.get-number.ensures.value c.get-number.ensures.low) (high_of c.get-number.result c.args.ino c.get-number.ensures.value c.get-number.ensures.high) next p lt in
    let all = all_named c.args.made.copy p is.pages lt in
    omega (arith, few, all)

pub pass-requires-clause-same : goal.pass-requires-clause-same
pass-requires-clause-same c one held =
    let inv = c.self.invariant in
    let at = copy_at c.self.inside.copies.items c.self.inside.pages.uses c.self.inside.pages.free inv.0 inv.1 c.args.ino c.from-at.result c.index-old.result.now (low_of c.get-number.result c.args.ino c.get-number.ensures.value c.get-number.ensures.low) (high_of c.get-number.result c.args.ino c.get-number.ensures.value c.get-number.ensures.high) (c.from-at.ensures ∙ c.get-number.ensures.value) c.index-old.ensures in
    subst (λ (k : PackState). copy_of k.copies c.args.ino ≡ Some one → SameButFor c.args.row.first c.args.row.stop (numbers_in one) (numbers_in c.args.made.copy)) (sym c.self.view_is) (c.requires.same one) (sym at ∙ held)

pub pass-requires-clause-none : goal.pass-requires-clause-none
pass-requires-clause-none c held =
    let inv = c.self.invariant in
    let at = copy_at c.self.inside.copies.items c.self.inside.pages.uses c.self.inside.pages.free inv.0 inv.1 c.args.ino c.from-at.result c.index-old.result.now (low_of c.get-number.result c.args.ino c.get-number.ensures.value c.get-number.ensures.low) (high_of c.get-number.result c.args.ino c.get-number.ensures.value c.get-number.ensures.high) (c.from-at.ensures ∙ c.get-number.ensures.value) c.index-old.ensures in
    subst (λ (k : PackState). copy_of k.copies c.args.ino ≡ None → SameButFor c.args.row.first c.args.row.stop (replicate content_pages_max none) (numbers_in c.args.made.copy)) (sym c.self.view_is) c.requires.first (sym at ∙ held)

pub pass-requires-clause-room : goal.pass-requires-clause-room
pass-requires-clause-room c =
    let inv = c.self.invariant in
    let at = copy_at c.self.inside.copies.items c.self.inside.pages.uses c.self.inside.pages.free inv.0 inv.1 c.args.ino c.from-at.result c.index-old.result.now (low_of c.get-number.result c.args.ino c.get-number.ensures.value c.get-number.ensures.low) (high_of c.get-number.result c.args.ino c.get-number.ensures.value c.get-number.ensures.high) (c.from-at.ensures ∙ c.get-number.ensures.value) c.index-old.ensures in
    let next = subst (λ (k : PackState). AreCopies (set k.copies (c.args.ino - 1) (Some c.args.made.copy))) (sym c.self.view_is) c.requires.copies in
    let is = made_copy c.self.inside.copies.items c.self.inside.pages.uses c.self.inside.pages.free inv.0 inv.1 c.args.ino c.args.made.copy (low_of c.get-number.result c.args.ino c.get-number.ensures.value c.get-number.ensures.low) (high_of c.get-number.result c.args.ino c.get-number.ensures.value c.get-number.ensures.high) next in
    enough c.self.inside.copies.items c.self.inside.pages.uses c.self.inside.pages.free inv.0 inv.1 c.args.ino c.args.made.copy (low_of c.get-number.result c.args.ino c.get-number.ensures.value c.get-number.ensures.low) (high_of c.get-number.result c.args.ino c.get-number.ensures.value c.get-number.ensures.high) next (length (pages_in c.index-old.result.now)) c.page_count-pages.result
    (ap (λ (o : Option InodeCopy). length (pages_in o)) at) (c.page_count-pages.ensures.pages ∙ sym (pages_long c.args.made.copy is.slot is.pages))

pub pass-requires-clause-most : goal.pass-requires-clause-most
pass-requires-clause-most c = let rest = c.self.invariant.1.rest in omega arith

pub invariant_of-self : goal.invariant_of-self
invariant_of-self c =
    let inv = c.self.invariant in
    let copies = c.self.inside.copies.items in
    let made = c.args.made.copy in
    let passed = c.pass.new.self in
    let at = copy_at c.self.inside.copies.items c.self.inside.pages.uses c.self.inside.pages.free inv.0 inv.1 c.args.ino c.from-at.result c.index-old.result.now (low_of c.get-number.result c.args.ino c.get-number.ensures.value c.get-number.ensures.low) (high_of c.get-number.result c.args.ino c.get-number.ensures.value c.get-number.ensures.high) (c.from-at.ensures ∙ c.get-number.ensures.value) c.index-old.ensures in
    let next = subst (λ (k : PackState). AreCopies (set k.copies (c.args.ino - 1) (Some c.args.made.copy))) (sym c.self.view_is) c.requires.copies in
    let is = made_copy c.self.inside.copies.items c.self.inside.pages.uses c.self.inside.pages.free inv.0 inv.1 c.args.ino c.args.made.copy (low_of c.get-number.result c.args.ino c.get-number.ensures.value c.get-number.ensures.low) (high_of c.get-number.result c.args.ino c.get-number.ensures.value c.get-number.ensures.high) next in
    let left = c.pass.ensures.free in
    let all = uses_next c.self.inside.copies.items c.self.inside.pages.uses c.self.inside.pages.free inv.0 inv.1 c.args.ino c.args.made.copy (low_of c.get-number.result c.args.ino c.get-number.ensures.value c.get-number.ensures.low) (high_of c.get-number.result c.args.ino c.get-number.ensures.value c.get-number.ensures.high) next passed.uses (length (pages_in c.index-old.result.now)) c.page_count-pages.result passed.free c.pass.ensures.long
    (λ p lt. omega (arith, c.pass.ensures.named p lt, ap (λ (o : Option InodeCopy). times p (pages_in o)) at, all_named made p is.pages lt))
    (ap (λ (o : Option InodeCopy). length (pages_in o)) at) (c.page_count-pages.ensures.pages ∙ sym (pages_long made is.slot is.pages)) (omega arith) in
    let low = low_of c.get-number.result c.args.ino c.get-number.ensures.value c.get-number.ensures.low in
    let high = high_of c.get-number.result c.args.ino c.get-number.ensures.value c.get-number.ensures.high in
    let above : NoneAbove c.max-self-inside.result (set copies (c.args.ino - 1) (Some made)) = record {
      most = let most = inv.2.most in omega (arith, c.max-self-inside.ensures, c.get-number.ensures.value);
      none = λ i le. get_or-set_other copies (c.args.ino - 1) i (Some made) None (λ e. omega (arith, c.max-self-inside.ensures, c.get-number.ensures.value)) ∙ inv.2.none i (omega (arith, c.max-self-inside.ensures));
    } in
    subst (λ (k : ℕ). AreCopies (set copies (k - 1) (Some made)) × AreUses (set copies (k - 1) (Some made)) passed.uses passed.free × NoneAbove c.max-self-inside.result (set copies (k - 1) (Some made))) (sym (c.from-at.ensures ∙ c.get-number.ensures.value)) (next, all, above)
