use Rattle.std.proofs.Common.{◌≤◌, ◌+◌, ◌*◌, sym, subst, ◌∙◌, List, ℕ, arith, length}
use Rattle.std.specs.Prelude.{Ok}
use Rattle.disk_model.specs.Images.{Torn}
use Rattle.disk_model.proofs.Moments.{goes_more}
use Rattle.inode_switch.proofs.of_gate_switch.Pieces.{torn_overwritten}
use Rattle.disk_model.proofs.Tells.{tells_one, tells_join}
use Rattle.pack_slots.proofs.Tearing.{zeros_go_on}
use Rattle.inode_switch.proofs.of_gate_switch.Tearing.{torn_widens, torn_joins}
use Rattle.pack_slots.proofs.formatting.write_pieces.Goals as goal

pub returns-in_err-write_at-clause-crash : goal.returns-in_err-write_at-clause-crash
returns-in_err-write_at-clause-crash g c =
    let base = c.args.base in
    let i = c.loop-i.i in
    let zeros = c.args.zeros.now in
    let at = base + 1024 + 16384 * i in
    let long = c.requires.long in
    let widens = torn_widens at (length zeros) (base + 1024) 2097152 (omega arith) (omega arith) in
    goes_more g.D.Disk.moment (Torn at (length zeros)) (Torn (base + 1024) 2097152) c.args.disk.now c.loop-i.disk c.write_at.new.self widens (torn_joins (base + 1024) 2097152) c.loop-i.invariant.goes c.write_at.ensures.crash

pub loop-i-preserved : goal.loop-i-preserved
loop-i-preserved g c =
    let base = c.args.base in
    let i = c.loop-i.i in
    let zeros = c.args.zeros.now in
    let now = (g.D.Disk.moment c.loop-i.disk).seen in
    let old = (g.D.Disk.moment c.args.disk.now).seen in
    let new = (g.D.Disk.moment c.write_at.new.self).seen in
    let inv = c.loop-i.invariant in
    let long = c.requires.long in
    let area = c.requires.area in
    let test = c.loop-i-test.true in
    let at = base + 1024 + 16384 * i in
    let written = c.in_ok-write_at.ensures.written in
    let fits : at + length zeros ≤ length now = omega (arith, inv.long) in
    let room : base + 1024 + 16384 * i + 16384 ≤ length now = omega (arith, inv.long) in
    let widens = torn_widens at (length zeros) (base + 1024) 2097152 (omega arith) (omega arith) in
    let torn = widens now new (subst (λ (l : List ℕ). Torn at (length zeros) now l) (sym written) (torn_overwritten now at zeros fits)) in
    record {
      long = torn.long ∙ inv.long;
      zeros = λ k low high. zeros_go_on now new zeros base i 16384 long c.requires.zeros room written inv.zeros k low (omega arith);
      outside = torn_joins (base + 1024) 2097152 old now new inv.outside torn;
      goes = goes_more g.D.Disk.moment (Torn at (length zeros)) (Torn (base + 1024) 2097152) c.args.disk.now c.loop-i.disk c.write_at.new.self widens (torn_joins (base + 1024) 2097152) inv.goes c.write_at.ensures.crash;
      cause = omega (arith, inv.cause, c.write_at.ensures.cause.later);
      tells = tells_join i 1 _ _ _ (Ok tt) inv.tells (tells_one _ _ (Ok tt) c.in_ok-write_at.ensures.tells);
    }
