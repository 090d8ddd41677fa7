use Rattle.std.proofs.Common.{◌≡◌, ◌+◌, ◌-◌, ℕ, Bool, List, [], ◌∷◌, ◌++◌, length, take, set, replicate, get_or, slice_index, refl, sym, ap, subst, ◌∙◌, arith}
use Rattle.std.specs.Prelude.{◌==◌}
use Rattle.std.proofs.lemmas.Bool.{eq-eqb, ne_eqb}
use Rattle.std.proofs.lemmas.List.{get_or-set_other, take_more_set}
use Rattle.locus_ids.specs.Sizes.{content_pages_max, slot_pages, pack_pages}
use Rattle.file_content.specs.Pages.{pages_of}
use Rattle.pack_layout.specs.Layout.{none, numbers_of}
use Rattle.inode_pack.specs.Pack.{number_in}
use Rattle.new_contents.specs.Changed.{is_changed}
use Rattle.inode_pack.specs.Committing.{Takes}
use Rattle.inode_pack.proofs.PageLists.{parts_long, parts_none}
use Rattle.inode_pack.proofs.Taking.{TakesSoFar, takes_start, more_stays, more_taken, takes_front, room, whole_more}
use Rattle.inode_pack.proofs.new_pages.take_pages.Goals as goal
use Rattle.inode_pack.proofs.new_pages.take_pages.Goals.{then-is_changed, else-is_changed}

pub loop-i-init : goal.loop-i-init
loop-i-init g c = record {
  so_far = takes_start 0 pack_pages (λ p. slice_index c.args.uses.now p == 0) (number_in c.args.old.now) (is_changed (g.C.NewContent.working c.args.content.now)) [] c.args.least refl c.requires.least.most
      (λ page lt. ne_eqb _ _ (λ e. let named = c.requires.least.named page lt in omega arith)) (λ i lt. absurd (omega arith));
  front = omega arith;
  more = ap length c.new.ensures;
  rest = λ k le lt. subst (λ (more : List ℕ). get_or (numbers_of (replicate slot_pages none) more) k 0 ≡ none) (sym c.new.ensures) (parts_none k lt);
  whole = λ i page lt. absurd (omega arith);
}

pub next_free-number-requires-clause-some : goal.next_free-number-requires-clause-some
next_free-number-requires-clause-some g c =
    let w = (g.C.NewContent.working c.args.content.now) in
    let pages = c.page_count-i-end.ensures.pages ∙ ap pages_of c.size.ensures.value in
    room c.loop-i.i pack_pages (λ p. slice_index c.args.uses.now p == 0) (number_in c.args.old.now) (is_changed w) c.loop-i.i c.loop-i.from (length c.args.uses.now) (pages_of w.size) (take c.loop-i.i (numbers_of c.loop-i.numbers.first c.loop-i.numbers.more)) c.loop-i.invariant.so_far
    (omega (arith, pages)) (sym c.is_changed.ensures.changed ∙ c.if-is_changed.true) c.requires.room

pub loop-i-preserved : goal.loop-i-preserved
loop-i-preserved g c =
    let unused : ℕ → Bool = λ p. slice_index c.args.uses.now p == 0 in
    let stood : ℕ → ℕ = number_in c.args.old.now in
    let w = (g.C.NewContent.working c.args.content.now) in
    let i = c.loop-i.i in
    let from = c.loop-i.from in
    let inv = c.loop-i.invariant in
    let all = numbers_of c.loop-i.numbers.first c.loop-i.numbers.more in
    let x = c.if-is_changed.number in
    let most = c.page_count-i-end.ensures.most in
    let long = parts_long c.loop-i.numbers.first c.loop-i.numbers.more inv.front (omega (arith, inv.more, most)) in
    let next = c.in_ok-add.ensures.set in
    let more : take (i + 1) (numbers_of c.add.new.numbers.first c.add.new.numbers.more) ≡ take i all ++ x ∷ [] = ap (take (i + 1)) next ∙ take_more_set all i x (omega (arith, long, most)) in
    let taken : TakesSoFar (i + 1) pack_pages unused stood (is_changed w) (i + 1) c.if-is_changed.from (take i all ++ x ∷ []) = elim c.if-is_changed.branch [
      | then-is_changed b ↦ (
          let found = b.next_free-number.result in
          subst (λ (y : ℕ). TakesSoFar (i + 1) pack_pages unused stood (is_changed w) (i + 1) c.if-is_changed.from (take i all ++ y ∷ [])) (sym b.number-is)
          (subst (λ (m : ℕ). TakesSoFar (i + 1) pack_pages unused stood (is_changed w) (i + 1) m (take i all ++ found ∷ [])) (sym b.from-is)
          (more_taken pack_pages unused stood (is_changed w) i from (take i all) inv.so_far found (sym c.is_changed.ensures.changed ∙ b.if-is_changed.true) b.next_free-number.ensures.low b.next_free-number.ensures.inside (eq-eqb _ _ b.next_free-number.ensures.free)
          (λ p low high. ne_eqb _ _ (b.next_free-number.ensures.least p low high))))
          )
      | else-is_changed b ↦ subst (λ (m : ℕ). TakesSoFar (i + 1) pack_pages unused stood (is_changed w) (i + 1) m (take i all ++ x ∷ [])) (sym b.from-is)
          (more_stays pack_pages unused stood (is_changed w) i from (take i all) inv.so_far x (b.number-is ∙ c.number_before-number.ensures) (sym c.is_changed.ensures.changed ∙ b.if-is_changed.false))
    ] in
    record {
      so_far = subst (λ (l : List ℕ). TakesSoFar (i + 1) pack_pages unused stood (is_changed w) (i + 1) c.if-is_changed.from l) (sym more) taken;
      front = c.in_ok-add.ensures.front;
      more = c.in_ok-add.ensures.more;
      rest = λ k le lt. ap (λ (l : List ℕ). get_or l k 0) next ∙ get_or-set_other all i k x 0 (λ e. omega arith) ∙ inv.rest k (omega arith) lt;
      whole = whole_more w i inv.whole c.is_changed.ensures.whole;
    }

pub returns-clause-takes : goal.returns-clause-takes
returns-clause-takes g c =
    let w = (g.C.NewContent.working c.args.content.now) in
    let unused : ℕ → Bool = λ p. slice_index c.args.uses.now p == 0 in
    let pages = c.page_count-i-end.ensures.pages ∙ ap pages_of c.size.ensures.value in
    let all = numbers_of c.loop-i.numbers.first c.loop-i.numbers.more in
    let end : c.loop-i.i ≡ pages_of w.size = omega (arith, pages) in
    subst (λ (n : ℕ). Takes content_pages_max pack_pages n unused (number_in c.args.old.now) (is_changed w) all) end
    (takes_front content_pages_max pack_pages c.loop-i.i c.loop-i.from unused (number_in c.args.old.now) (is_changed w) all c.loop-i.invariant.so_far c.loop-i.invariant.rest)
