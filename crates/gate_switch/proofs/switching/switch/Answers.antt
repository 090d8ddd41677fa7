use Rattle.std.proofs.Common.{◌≡◌, ◌∙◌, ap, refl, List, ℕ}
use Rattle.gate_switch.specs.Switch.{written, opened}
use Rattle.gate_switch.proofs.Stages.{stage_one, stage_two, stage_three}
use Rattle.gate_switch.proofs.switching.switch.Goals as goal

pub returns-in_err-write_down-clause-any_moment : goal.returns-in_err-write_down-clause-any_moment
returns-in_err-write_down-clause-any_moment g c =
    let M = g.D.Disk.moment in
    let old = c.args.disk.now in
    let seen = (g.D.Disk.moment old).seen in
    let pieces = g.P.PieceSource.pieces c.args.source.now in
    let one = stage_one M pieces c.args.gate c.args.old_gate seen old c.write_down.new.disk pieces refl c.requires.settled (g.met.D.Disk.only_now old) c.write_down.ensures.crash in
    one

pub returns-in_err-set_gate-clause-any_moment : goal.returns-in_err-set_gate-clause-any_moment
returns-in_err-set_gate-clause-any_moment g c =
    let M = g.D.Disk.moment in
    let old = c.args.disk.now in
    let seen = (g.D.Disk.moment old).seen in
    let pieces = g.P.PieceSource.pieces c.args.source.now in
    let one = stage_one M pieces c.args.gate c.args.old_gate seen old c.write_down.new.disk pieces refl c.requires.settled (g.met.D.Disk.only_now old) c.write_down.ensures.crash in
    let read : (g.D.Disk.moment c.write_down.new.disk).seen ≡ written seen pieces = c.in_ok-write_down.ensures.written in
    let two = stage_two M pieces c.args.gate c.args.old_gate seen old c.write_down.new.disk c.set_gate.new.disk _ read c.in_ok-write_down.ensures.durable one c.set_gate.ensures.crash in
    two

pub returns-in_err-set_gate-2-clause-any_moment : goal.returns-in_err-set_gate-2-clause-any_moment
returns-in_err-set_gate-2-clause-any_moment g c =
    let M = g.D.Disk.moment in
    let old = c.args.disk.now in
    let seen = (g.D.Disk.moment old).seen in
    let pieces = g.P.PieceSource.pieces c.args.source.now in
    let one = stage_one M pieces c.args.gate c.args.old_gate seen old c.write_down.new.disk pieces refl c.requires.settled (g.met.D.Disk.only_now old) c.write_down.ensures.crash in
    let read : (g.D.Disk.moment c.write_down.new.disk).seen ≡ written seen pieces = c.in_ok-write_down.ensures.written in
    let two = stage_two M pieces c.args.gate c.args.old_gate seen old c.write_down.new.disk c.set_gate.new.disk _ read c.in_ok-write_down.ensures.durable one c.set_gate.ensures.crash in
    let shut : (g.D.Disk.moment c.set_gate.new.disk).seen ≡ opened c.args.gate (written seen pieces) = c.in_ok-set_gate.ensures.written ∙ ap (λ (l : List ℕ). opened c.args.gate l) read in
    stage_three M pieces c.args.gate c.args.old_gate seen old c.set_gate.new.disk c.set_gate-in-Some.new.disk _ c.in-Some.old_gate c.in-Some.is shut c.in_ok-set_gate.ensures.durable two c.set_gate-in-Some.ensures.crash

pub returns-in_ok-set_gate-2-clause-any_moment : goal.returns-in_ok-set_gate-2-clause-any_moment
returns-in_ok-set_gate-2-clause-any_moment g c =
    let M = g.D.Disk.moment in
    let old = c.args.disk.now in
    let seen = (g.D.Disk.moment old).seen in
    let pieces = g.P.PieceSource.pieces c.args.source.now in
    let one = stage_one M pieces c.args.gate c.args.old_gate seen old c.write_down.new.disk pieces refl c.requires.settled (g.met.D.Disk.only_now old) c.write_down.ensures.crash in
    let read : (g.D.Disk.moment c.write_down.new.disk).seen ≡ written seen pieces = c.in_ok-write_down.ensures.written in
    let two = stage_two M pieces c.args.gate c.args.old_gate seen old c.write_down.new.disk c.set_gate.new.disk _ read c.in_ok-write_down.ensures.durable one c.set_gate.ensures.crash in
    let shut : (g.D.Disk.moment c.set_gate.new.disk).seen ≡ opened c.args.gate (written seen pieces) = c.in_ok-set_gate.ensures.written ∙ ap (λ (l : List ℕ). opened c.args.gate l) read in
    stage_three M pieces c.args.gate c.args.old_gate seen old c.set_gate.new.disk c.set_gate-in-Some.new.disk _ c.in-Some.old_gate c.in-Some.is shut c.in_ok-set_gate.ensures.durable two c.set_gate-in-Some.ensures.crash

pub returns-in_default-clause-any_moment : goal.returns-in_default-clause-any_moment
returns-in_default-clause-any_moment g c =
    let M = g.D.Disk.moment in
    let old = c.args.disk.now in
    let seen = (g.D.Disk.moment old).seen in
    let pieces = g.P.PieceSource.pieces c.args.source.now in
    let one = stage_one M pieces c.args.gate c.args.old_gate seen old c.write_down.new.disk pieces refl c.requires.settled (g.met.D.Disk.only_now old) c.write_down.ensures.crash in
    let read : (g.D.Disk.moment c.write_down.new.disk).seen ≡ written seen pieces = c.in_ok-write_down.ensures.written in
    let two = stage_two M pieces c.args.gate c.args.old_gate seen old c.write_down.new.disk c.set_gate.new.disk _ read c.in_ok-write_down.ensures.durable one c.set_gate.ensures.crash in
    two
