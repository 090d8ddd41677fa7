use Rattle.std.proofs.Common.{sym, subst, Bool}
use Rattle.std.specs.Prelude.{if◌then◌else◌}
use Rattle.disk_model.specs.Images.{Torn}
use Rattle.pack_layout.specs.Layout.{slot_at}
use Rattle.inode_switch.specs.View.{SameView}
use Rattle.disk_model.proofs.Moments.{leaves_weaker}
use Rattle.pack_slots.specs.Losing.{IsClosing}
use Rattle.disk_model.proofs.ReadRuns.{leaves_both}
use Rattle.pack_slots.proofs.closing.close_one.Goals as goal

pub returns-clause-any_moment : goal.returns-clause-any_moment
returns-clause-any_moment g c =
    let M = g.D.Disk.moment in
    let old = c.args.disk.now in
    let new = c.close_losing_gate.new.disk in
    let seen = (g.D.Disk.moment old).seen in
    let base = c.args.base in
    let gate = slot_at base c.args.ino c.args.half in
    leaves_weaker M old new (λ x. SameView base seen x × Torn gate 1 seen x) (IsClosing base c.args.ino c.args.half c.args.loses seen)
    (λ x is. record { view = is.0; torn = subst (λ (b : Bool). Torn gate (if b then 1 else 0) seen x) (sym c.if-not-loses.false) is.1 })
    (leaves_both M old new (SameView base seen) (Torn gate 1 seen) c.close_losing_gate.ensures.any_moment c.close_losing_gate.ensures.torn)
