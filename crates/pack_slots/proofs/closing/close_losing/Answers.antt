use Rattle.std.proofs.Common.{◌≡◌, ◌≤◌, ◌+◌, ◌*◌, ◌∙◌, ap, subst, sym, List, ℕ, Bool, false, length, get_or, refl, arith}
use Rattle.std.specs.Prelude.{Ok, Err, if◌then◌else◌}
use Rattle.locus_ids.specs.Sizes.{inodes_max}
use Rattle.disk_model.specs.declared.disk.DiskFault.{DiskFault}
use Rattle.pack_layout.specs.declared.half.Half.{Half}
use Rattle.pack_layout.specs.Layout.{slot_at}
use Rattle.pack_layout.proofs.Halves.{half_most}
use Rattle.disk_model.specs.Moments.{TellsMany}
use Rattle.inode_switch.specs.Replace.{Loses}
use Rattle.disk_model.proofs.Moments.{leaves_start, leaves_weaker}
use Rattle.disk_model.proofs.Tells.{tells_none, tells_join}
use Rattle.pack_slots.specs.Copies.{copy_of}
use Rattle.pack_slots.specs.Mounting.{losing_gates}
use Rattle.pack_slots.specs.Losing.{is_losing, losing_half, KeepsCopies, IsClosing, closed_if}
use Rattle.pack_slots.proofs.Gates.{none_closed, keeps_start, losing_none, this_loses, crash_keeps, closed_more, shut_gate, gate_is_shut, calls_more, found_gates, losing_rises, copy_at, losing_at, closing_keeps}
use Rattle.disk_model.proofs.ReadRuns.{leaves_joins, tells_failed}
use Rattle.std.proofs.Common.{◌-◌, ◌<◌, [], ◌∷◌, ⊎_elim}
use Rattle.std.specs.Prelude.{true}
use Rattle.std.proofs.lemmas.Bool.{cases_lt}
use Rattle.disk_model.specs.Cut.{Cut, left_by, left_in_write}
use Rattle.disk_model.specs.Disk.{Passing, Exactly}
use Rattle.pack_layout.specs.Layout.{area_length}
use Rattle.disk_model.proofs.Tells.{tells_few, tells_rest, answers_err}
use Rattle.inode_switch.specs.of_gate_switch.Cutting.{CutsGate}
use Rattle.pack_slots.specs.Cutting.{losing_inodes, closings_left}
use Rattle.pack_slots.proofs.CutClosing.{closing_write, closing_sync}
use Rattle.pack_slots.proofs.closing.close_losing.Goals as goal

pub loop-i-init : goal.loop-i-init
loop-i-init g c =
    let old = c.args.disk.now in
    let seen = (g.D.Disk.moment old).seen in
    let start = keeps_start c.args.base seen c.args.copies.now c.args.losing.now c.requires.found in
    record {
      settled = c.requires.settled;
      long = refl;
      closed = none_closed c.args.base seen c.args.copies.now c.args.losing.now c.requires.found;
      kept = start;
      leaves = leaves_start g.D.Disk.moment old (KeepsCopies c.args.base c.args.copies.now seen)
          (λ x left. subst (λ (l : List ℕ). KeepsCopies c.args.base c.args.copies.now seen l) (sym (c.requires.settled x (g.met.D.Disk.only_now old x left))) start);
      cause = omega arith;
      tells = rw losing_none (tells_none (g.D.Disk.moment old).passing);
      how = refl;
    }

pub close_one-requires-clause-loses : goal.close_one-requires-clause-loses
close_one-requires-clause-loses g c loses =
    let i = c.loop-i.i in
    let base = c.args.base in
    let inv = c.loop-i.invariant in
    let copy_is = copy_at c.args.copies.now c.index-copies-from.result i c.from.result c.from.ensures (omega (arith, c.requires.copies)) c.index-copies-from.is in
    let half_is : c.losing_half-half.result ≡ losing_half (copy_of c.args.copies.now (i + 1)) = c.losing_half-half.ensures ∙ ap losing_half copy_is in
    let loses_is = losing_at c.args.losing.now i c.from-in-loop-i.result c.from-in-loop-i.ensures in
    let area = c.requires.area in
    let long = inv.long in
    subst (λ (n : ℕ). Loses base n c.losing_half-half.result (g.D.Disk.moment c.loop-i.disk).seen) (sym c.nth_inode.ensures)
    (subst (λ (half : Half). Loses base (i + 1) half (g.D.Disk.moment c.loop-i.disk).seen) (sym half_is)
    (this_loses base i (g.D.Disk.moment c.loop-i.disk).seen c.args.copies.now c.args.losing.now inv.closed (omega arith) c.loop-i-test.true (sym loses_is ∙ loses)))

pub returns-in_err-close_one-clause-any_moment : goal.returns-in_err-close_one-clause-any_moment
returns-in_err-close_one-clause-any_moment g c =
    let i = c.loop-i.i in
    let base = c.args.base in
    let inv = c.loop-i.invariant in
    let copies = c.args.copies.now in
    let losing = c.args.losing.now in
    let old = (g.D.Disk.moment c.args.disk.now).seen in
    let now = (g.D.Disk.moment c.loop-i.disk).seen in
    let copy_is = copy_at copies c.index-copies-from.result i c.from.result c.from.ensures (omega (arith, c.requires.copies)) c.index-copies-from.is in
    let half_is : c.losing_half-half.result ≡ losing_half (copy_of copies (i + 1)) = c.losing_half-half.ensures ∙ ap losing_half copy_is in
    let loses_is = losing_at losing i c.from-in-loop-i.result c.from-in-loop-i.ensures in
    leaves_joins g.D.Disk.moment c.args.disk.now c.loop-i.disk c.close_one.new.disk (KeepsCopies base copies old) inv.leaves
    (leaves_weaker g.D.Disk.moment c.loop-i.disk c.close_one.new.disk (IsClosing base c.nth_inode.result c.losing_half-half.result (get_or losing c.from-in-loop-i.result false) now) (KeepsCopies base copies old)
    (λ x closing. closing_keeps base i old now x copies losing (get_or losing c.from-in-loop-i.result false) c.nth_inode.result c.losing_half-half.result c.requires.found inv.closed c.loop-i-test.true loses_is c.nth_inode.ensures half_is inv.kept closing) c.close_one.ensures.any_moment)

pub returns-in_err-close_one-clause-tells : goal.returns-in_err-close_one-clause-tells
returns-in_err-close_one-clause-tells g c =
    let i = c.loop-i.i in
    let base = c.args.base in
    let inv = c.loop-i.invariant in
    let copies = c.args.copies.now in
    let losing = c.args.losing.now in
    let old = (g.D.Disk.moment c.args.disk.now).seen in
    let now = (g.D.Disk.moment c.loop-i.disk).seen in
    let copy_is = copy_at copies c.index-copies-from.result i c.from.result c.from.ensures (omega (arith, c.requires.copies)) c.index-copies-from.is in
    let half_is : c.losing_half-half.result ≡ losing_half (copy_of copies (i + 1)) = c.losing_half-half.ensures ∙ ap losing_half copy_is in
    let loses_is = losing_at losing i c.from-in-loop-i.result c.from-in-loop-i.ensures in
    let gates = found_gates base (i + 1) old (copy_of copies (i + 1)) (is_losing losing (i + 1)) (c.requires.found (i + 1) (omega arith) (omega arith)) in
    let calls = calls_more base i old (get_or losing c.from-in-loop-i.result false) (gates ∙ sym loses_is) in
    let loses = get_or losing c.from-in-loop-i.result false in
    let more = tells_join (2 * losing_gates base i old) (if loses then 2 else 0) _ _ _ (Err c.in_err-close_one.field-0.0) inv.tells c.in_err-close_one.ensures.tells in
    let test = c.loop-i-test.true in
    let rises = losing_rises base (i + 1) inodes_max old (omega arith) in
    tells_failed (2 * losing_gates base i old + (if loses then 2 else 0)) (2 * losing_gates base inodes_max old) _ _ c.from_residual.result c.in_err-close_one.field-0.0 c.from_residual.ensures.0 (omega arith) more

pub loop-i-preserved : goal.loop-i-preserved
loop-i-preserved g c =
    let i = c.loop-i.i in
    let base = c.args.base in
    let inv = c.loop-i.invariant in
    let copies = c.args.copies.now in
    let losing = c.args.losing.now in
    let old = (g.D.Disk.moment c.args.disk.now).seen in
    let now = (g.D.Disk.moment c.loop-i.disk).seen in
    let new = (g.D.Disk.moment c.close_one.new.disk).seen in
    let copy_is = copy_at copies c.index-copies-from.result i c.from.result c.from.ensures (omega (arith, c.requires.copies)) c.index-copies-from.is in
    let half_is : c.losing_half-half.result ≡ losing_half (copy_of copies (i + 1)) = c.losing_half-half.ensures ∙ ap losing_half copy_is in
    let loses_is = losing_at losing i c.from-in-loop-i.result c.from-in-loop-i.ensures in
    let gate = slot_at base (i + 1) (losing_half (copy_of copies (i + 1))) in
    let done : new ≡ closed_if (is_losing losing (i + 1)) gate now = c.in_ok-close_one.ensures.done ∙ ap (λ (n : ℕ). closed_if (get_or losing c.from-in-loop-i.result false) (slot_at base n c.losing_half-half.result) now) c.nth_inode.ensures
    ∙ ap (λ (half : Half). closed_if (get_or losing c.from-in-loop-i.result false) (slot_at base (i + 1) half) now) half_is ∙ ap (λ (b : Bool). closed_if b gate now) loses_is in
    let most = half_most (losing_half (copy_of copies (i + 1))) in
    let area = c.requires.area in
    let test = c.loop-i-test.true in
    let long = inv.long in
    let fits : gate + 1 ≤ length now = omega arith in
    let torn = shut_gate gate (is_losing losing (i + 1)) now new fits done in
    let gates = found_gates base (i + 1) old (copy_of copies (i + 1)) (is_losing losing (i + 1)) (c.requires.found (i + 1) (omega arith) (omega arith)) in
    let calls = calls_more base i old (get_or losing c.from-in-loop-i.result false) (gates ∙ sym loses_is) in
    record {
      settled = c.in_ok-close_one.ensures.durable;
      long = torn.long ∙ inv.long;
      closed = closed_more base i now new copies losing inv.closed test torn (gate_is_shut gate (is_losing losing (i + 1)) now new fits done);
      kept = crash_keeps base i now new copies losing inv.closed test torn old c.requires.found inv.kept c.in_ok-close_one.ensures.view;
      leaves = leaves_joins g.D.Disk.moment c.args.disk.now c.loop-i.disk c.close_one.new.disk (KeepsCopies base copies old) inv.leaves
          (leaves_weaker g.D.Disk.moment c.loop-i.disk c.close_one.new.disk (IsClosing base c.nth_inode.result c.losing_half-half.result (get_or losing c.from-in-loop-i.result false) now) (KeepsCopies base copies old)
          (λ x closing. closing_keeps base i old now x copies losing (get_or losing c.from-in-loop-i.result false) c.nth_inode.result c.losing_half-half.result c.requires.found inv.closed c.loop-i-test.true loses_is c.nth_inode.ensures half_is inv.kept closing) c.close_one.ensures.any_moment);
      cause = omega (arith, inv.cause, c.close_one.ensures.cause.later);
      tells = subst (λ (n : ℕ). TellsMany {T = Unit {0}} {E = DiskFault} n (g.D.Disk.moment c.args.disk.now).passing (g.D.Disk.moment c.close_one.new.disk).passing (Ok tt)) calls
          (tells_join (2 * losing_gates base i old) (if get_or losing c.from-in-loop-i.result false then 2 else 0) _ _ _ (Ok tt) inv.tells c.in_ok-close_one.ensures.tells);
      how = c.close_one.ensures.how ∙ inv.how;
    }

-- a closing makes two calls at most
few_left : (loses : Bool) (left : ℕ) (p q : Passing) (fault : DiskFault) → TellsMany {T = Unit {0}} {E = DiskFault} (if loses then 2 else 0) p q (Err fault) → p ≡ Exactly left → left < 2
few_left true left p q fault tells is = tells_few 2 p q (Err fault) left tells is
few_left false left p q fault tells is = let lt : left < 0 = tells_few 0 p q (Err fault) left tells is in omega (arith, lt)

pub returns-in_err-close_one-clause-cut : goal.returns-in_err-close_one-clause-cut
returns-in_err-close_one-clause-cut g c passed told =
    let M = g.D.Disk.moment in
    let i = c.loop-i.i in
    let base = c.args.base in
    let inv = c.loop-i.invariant in
    let copies = c.args.copies.now in
    let losing = c.args.losing.now in
    let old = (M c.args.disk.now).seen in
    let mid = c.loop-i.disk in
    let now = (M mid).seen in
    let new = c.close_one.new.disk in
    let copy_is = copy_at copies c.index-copies-from.result i c.from.result c.from.ensures (omega (arith, c.requires.copies)) c.index-copies-from.is in
    let half_is : c.losing_half-half.result ≡ losing_half (copy_of copies (i + 1)) = c.losing_half-half.ensures ∙ ap losing_half copy_is in
    let loses_is = losing_at losing i c.from-in-loop-i.result c.from-in-loop-i.ensures in
    let loses = get_or losing c.from-in-loop-i.result false in
    let gate = slot_at base (i + 1) (losing_half (copy_of copies (i + 1))) in
    let one = c.in_err-close_one.ensures.cut in
    let is_losing_one : is_losing losing (i + 1) ≡ true = sym loses_is ∙ one.0 in
    let cuts = subst (λ (half : Half). CutsGate (slot_at base (i + 1) half) 0 (M mid) (M new)) half_is (subst (λ (n : ℕ). CutsGate (slot_at base n c.losing_half-half.result) 0 (M mid) (M new)) c.nth_inode.ensures one.1) in
    let before = 2 * losing_gates base i old in
    let rest = tells_rest before (M c.args.disk.now).passing (M mid).passing passed inv.tells told in
    let area : base + area_length ≤ length now = omega (arith, c.requires.area, inv.long) in
    let how = (M c.args.disk.now).how in
    let same : (M mid).how ≡ how = inv.how in
    let few : passed - before < 2 = few_left loses (passed - before) (M mid).passing (M new).passing c.in_err-close_one.field-0.0 c.in_err-close_one.ensures.tells rest.1 in
    let left : losing_inodes base (M new).left ≡ closings_left how passed (losing_inodes base old) = ⊎_elim
    (λ (first : passed - before < 1).
    let none : passed - before ≡ 0 = omega (arith, first) in
    closing_write base i old now copies losing c.requires.found inv.closed c.loop-i-test.true is_losing_one area how passed (M new).left (omega (arith, none, rest.0))
    (cuts.write inv.settled (rest.1 ∙ ap Exactly none) ∙ ap (λ (h : Cut). left_in_write h now gate (0 ∷ [])) same))
    (λ (second : 1 ≤ passed - before).
    let one_left : passed - before ≡ 1 = omega (arith, second, few) in
    closing_sync base i old now copies losing c.requires.found inv.closed c.loop-i-test.true is_losing_one area how passed (M new).left (omega (arith, one_left, rest.0))
    (cuts.sync inv.settled (rest.1 ∙ ap Exactly one_left) ∙ ap (λ (h : Cut). left_by h now gate (0 ∷ [])) same))
    (cases_lt (passed - before) 1) in
    answers_err c.from_residual.result _ left
