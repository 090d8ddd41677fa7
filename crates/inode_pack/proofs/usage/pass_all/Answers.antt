use Rattle.std.proofs.Common.{◌+◌, ◌-◌, ◌≡◌, ◌<◌, ◌≤◌, ap, sym, subst, ℕ, get_or, take, arith}
use Rattle.std.specs.Prelude.{◌==◌, ◌^◌, if◌then◌else◌}
use Rattle.locus_ids.specs.Sizes.{content_pages_max, pack_pages}
use Rattle.pack_slots.specs.Copies.{numbers_in, times}
use Rattle.pack_slots.proofs.PageTimes.{times_take, times_same, times_all, named_all}
use Rattle.inode_pack.specs.Rows.{numbers_so_far}
use Rattle.inode_pack.proofs.PageLists.{few_more, so_far_long}
use Rattle.inode_pack.proofs.usage.pass_all.Goals as goal

pub loop-i-init : goal.loop-i-init
loop-i-init c = record {
  long = c.requires.count;
  named = λ p lt.
      let within = c.requires.inside in
      let ordered = c.requires.ordered in
      let same = times_same p (numbers_so_far c.args.old.now) (numbers_in c.args.made.now) 0 c.args.row.first (omega (arith, so_far_long c.args.old.now c.requires.old)) (omega (arith, c.requires.made.1.count)) (λ i low high. c.requires.same i (omega arith) (λ e. let a = e.0 in omega arith)) in
      let e : 0 + c.args.row.first ≡ c.args.row.first = omega arith in
      let f = ap (λ (k : ℕ). times p (take k (numbers_so_far c.args.old.now))) e in
      let g = ap (λ (k : ℕ). times p (take k (numbers_in c.args.made.now))) e in
      omega (arith, same, f, g);
  least = c.requires.least;
}

pub page_number-requires-clause-few : goal.page_number-requires-clause-few
page_number-requires-clause-few c = few_more c.args.made.now c.requires.made.0 c.requires.made.1

pub pass_page-least-requires-clause-once : goal.pass_page-least-requires-clause-once
pass_page-least-requires-clause-once c small =
    let list = numbers_so_far c.args.old.now in
    let q = get_or list c.loop-i.i 0 in
    let e = c.number_so_far.ensures in
    let low : q < pack_pages = omega (arith, e, small) in
    let here = named_all list c.loop-i.i (omega (arith, so_far_long c.args.old.now c.requires.old)) in
    subst (λ (n : ℕ). 1 ≤ get_or c.loop-i.uses.items n 0) (sym e) (omega (arith, c.loop-i.invariant.named q low, here, c.requires.once q low))

pub pass_page-least-requires-clause-few : goal.pass_page-least-requires-clause-few
pass_page-least-requires-clause-few c small =
    let list = numbers_in c.args.made.now in
    let q = get_or list c.loop-i.i 0 in
    let e = c.page_number.ensures in
    let low : q < pack_pages = omega (arith, e, small) in
    let here = named_all list c.loop-i.i (omega (arith, c.requires.made.1.count)) in
    subst (λ (n : ℕ). get_or c.loop-i.uses.items n 0 + 1 < 2 ^ 32) (sym e) (omega (arith, c.loop-i.invariant.named q low, here, c.requires.few q low))

pub loop-i-preserved : goal.loop-i-preserved
loop-i-preserved c = record {
  long = c.pass_page-least.ensures.long;
  named = λ p lt.
      let list = numbers_so_far c.args.old.now in
      let made = numbers_in c.args.made.now in
      let passed = c.pass_page-least.ensures.named p lt in
      let one = times_take p list c.loop-i.i (omega (arith, so_far_long c.args.old.now c.requires.old)) in
      let two = times_take p made c.loop-i.i (omega (arith, c.requires.made.1.count)) in
      let e = ap (λ (n : ℕ). (let k : ℕ = if n == p then 1 else 0 in k)) c.number_so_far.ensures in
      let f = ap (λ (n : ℕ). (let k : ℕ = if n == p then 1 else 0 in k)) c.page_number.ensures in
      omega (arith, passed, c.loop-i.invariant.named p lt, one, two, e, f);
  least = c.pass_page-least.ensures.least;
}

pub returns-clause-named : goal.returns-clause-named
returns-clause-named c p lt =
    let i = c.loop-i.i in
    let list = numbers_so_far c.args.old.now in
    let made = numbers_in c.args.made.now in
    let so_far = c.loop-i.invariant.named p lt in
    let long = so_far_long c.args.old.now c.requires.old in
    let wide = c.requires.made.1.count in
    let same = times_same p list made i (content_pages_max - i) (omega (arith, long)) (omega (arith, wide)) (λ k low high. c.requires.same k (omega arith) (λ e. let b = e.1 in omega arith)) in
    let one = times_all p list (i + (content_pages_max - i)) (omega (arith, long)) in
    let two = times_all p made (i + (content_pages_max - i)) (omega (arith, wide)) in
    omega (arith, so_far, same, one, two)
