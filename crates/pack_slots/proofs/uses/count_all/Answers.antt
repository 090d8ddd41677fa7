use Rattle.std.proofs.Common.{◌≡◌, ◌+◌, ◌++◌, ℕ, List, length, get_or, take, take_all, sym, ◌∙◌, ap, arith, subst, length-append}
use Rattle.std.specs.Prelude.{Option, None, IfSome}
use Rattle.std.proofs.lemmas.List.{get_or_read, take-append-drop}
use Rattle.std.proofs.lemmas.List.Sums.{get_or-le-sum_by}
use Rattle.locus_ids.specs.Sizes.{slot_pages}
use Rattle.pack_slots.specs.declared.inode_copy.InodeCopy.{InodeCopy}
use Rattle.pack_slots.specs.Copies.{pages_in, named_pages, times}
use Rattle.pack_slots.specs.Losing.{IsSlotApart}
use Rattle.pack_slots.proofs.Times.{named_more}
use Rattle.pack_slots.proofs.PageTimes.{times-append}
use Rattle.pack_slots.proofs.uses.count_all.Goals as goal

pub first_pages-first-requires : goal.first_pages-first-requires
first_pages-first-requires c =
    subst (λ (o : Option InodeCopy). IfSome o IsSlotApart) (sym (get_or_read c.args.copies.now c.loop-copy.copy-index c.copy-item.result c.loop-copy-test.true c.copy-item.is None)) (c.requires.slots c.loop-copy.copy-index)

pub more_pages-more-requires : goal.more_pages-more-requires
more_pages-more-requires c =
    subst (λ (o : Option InodeCopy). IfSome o IsSlotApart) (sym (get_or_read c.args.copies.now c.loop-copy.copy-index c.copy-item.result c.loop-copy-test.true c.copy-item.is None)) (c.requires.slots c.loop-copy.copy-index)

pub count_pages-requires-clause-room : goal.count_pages-requires-clause-room
count_pages-requires-clause-room c =
    let inv = c.loop-copy.invariant in
    omega (arith, inv.few, inv.whole, inv.total, c.first_pages-first.ensures.few, c.requires.few, c.loop-copy-test.true)

pub count_pages-requires-in-loop-copy-clause-room : goal.count_pages-requires-in-loop-copy-clause-room
count_pages-requires-in-loop-copy-clause-room c =
    let inv = c.loop-copy.invariant in
    omega (arith, inv.few, inv.whole, inv.total, c.first_pages-first.ensures.few, c.more_pages-more.ensures.few, c.count_pages.ensures.sum, c.requires.few, c.loop-copy-test.true)

pub loop-copy-preserved : goal.loop-copy-preserved
loop-copy-preserved c =
    let inv = c.loop-copy.invariant in
    let i = c.loop-copy.copy-index in
    let copies = c.args.copies.now in
    let copy = c.copy-item.result in
    let first = c.first_pages-first.result.now in
    let rest = c.more_pages-more.result.now in
    let pages : pages_in copy ≡ first ++ rest = sym (take-append-drop slot_pages (pages_in copy)) ∙ (λ j. sym c.first_pages-first.ensures.pages j ++ sym c.more_pages-more.ensures.pages j) in
    let more : named_pages (take (i + 1) copies) ≡ named_pages (take i copies) ++ (first ++ rest) = named_more pages_in copies i copy c.loop-copy-test.true c.copy-item.is ∙ ap (λ (l : List ℕ). named_pages (take i copies) ++ l) pages in
    let long = ap length more ∙ length-append (named_pages (take i copies)) (first ++ rest) in
    let both = length-append first rest in
    record {
      each = λ page lt.
          let count = ap (times page) more ∙ times-append page (named_pages (take i copies)) (first ++ rest) in
          omega (arith, inv.each page lt, c.count_pages.ensures.each page (omega arith), c.count_pages-in-loop-copy.ensures.each page (omega arith), count, times-append page first rest);
      whole = omega (arith, inv.whole, c.count_pages.ensures.sum, c.count_pages-in-loop-copy.ensures.sum, long, both);
      few = omega (arith, inv.few, c.first_pages-first.ensures.few, c.more_pages-more.ensures.few);
      total = omega (arith, inv.total, long, both);
    }

pub returns-clause-each : goal.returns-clause-each
returns-clause-each c page lt =
    let i = c.loop-copy.copy-index in
    let copies = c.args.copies.now in
    let none : get_or c.args.counts.now page 0 ≡ 0 = omega (arith, get_or-le-sum_by (λ x. x) c.args.counts.now page 0 (omega (arith, lt, c.requires.count)), c.requires.none) in
    let all : take i copies ≡ copies = take_all i copies (omega arith) in
    omega (arith, c.loop-copy.invariant.each page lt, none, ap (λ (l : List (Option InodeCopy)). times page (named_pages l)) all)
