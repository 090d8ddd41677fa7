use Rattle.std.proofs.Common.{◌≡◌, ℕ, List, get_or, refl, sym, ◌∙◌, ap, subst, arith, get_or-set_other}
use Rattle.std.specs.Prelude.{Option, None, Some, Ok}
use Rattle.std.proofs.lemmas.List.{get_or_read}
use Rattle.pack_slots.specs.declared.inode_copy.InodeCopy.{InodeCopy}
use Rattle.pack_slots.specs.Slots.{HasMore}
use Rattle.pack_slots.specs.Tables.{IsReadIn, IsBadIn}
use Rattle.pack_slots.proofs.TablesRead.{err_keeps, passing_fault}
use Rattle.pack_slots.proofs.tables.read_tables.Goals as goal

pub returns-in_err-read_copy-clause-bad : goal.returns-in_err-read_copy-clause-bad
returns-in_err-read_copy-clause-bad g c = err_keeps _ c.from_residual.result c.in_err-read_copy.field-0.0 c.from_residual.ensures.1 (passing_fault _ _ _ _ c.in_err-read_copy.field-0.0 c.in_err-read_copy.ensures.fault)

pub returns-then-not-branch-clause-bad : goal.returns-then-not-branch-clause-bad
returns-then-not-branch-clause-bad g c =
    let base = c.args.base in
    let i = c.loop-i.i in
    let inv = c.loop-i.invariant in
    let seen = (g.D.Disk.moment c.args.disk.now).seen in
    let before = c.args.copies.now in
    let copies = c.loop-i.copies in
    let copy = c.in-Some.copy in
    let here : get_or before i None ≡ Some copy = sym (inv.rest i (omega arith)) ∙ sym (get_or_read copies i c.index-copies-i.result (omega (arith, c.loop-i-test.true, inv.count)) c.index-copies-i.is None) ∙ c.index-copies-i.is ∙ c.in-Some.is in
    let no = subst (λ (l : List ℕ). (more : List ℕ) → HasMore base copy.slot more l → ⊥) inv.seen (c.in_ok-read_copy.ensures.bad (ap (λ b. Ok b) c.if-not-branch.true)) in
    let new : Option InodeCopy = Some c.read_copy.new.copy in (
      i,
      refl,
      record {
        bad = subst (λ (o : Option InodeCopy). IsBadIn base seen o) (sym here) no;
        read = λ j lt. subst (λ (o : Option InodeCopy). IsReadIn base seen (get_or before j None) o) (sym (get_or-set_other copies i j new None (λ e. omega (arith, lt, e)))) (inv.read j lt);
      },
    )
