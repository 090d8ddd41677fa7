use Rattle.std.proofs.Common.{◌∙◌, [], ◌∷◌, ap, refl, subst, sym, List, ℕ}
use Rattle.disk_model.specs.Images.{overwritten, Torn}
use Rattle.disk_model.specs.Disk.{Goes}
use Rattle.pack_layout.specs.Layout.{slot_at}
use Rattle.inode_switch.specs.View.{SameView}
use Rattle.disk_model.proofs.Moments.{leaves_start, leaves_more, from_only, on_ok}
use Rattle.inode_switch.proofs.Losing.{torn_same_view, closed_same_view}
use Rattle.pack_layout.specs.Layout.{area_length}
use Rattle.disk_model.proofs.Moments.{leaves_weaker}
use Rattle.gate_switch.proofs.Pieces.{torn_same}
use Rattle.inode_switch.proofs.Outside.{gate_in_area}
use Rattle.inode_switch.proofs.closing.close_losing_gate.Goals as goal

pub returns-clause-any_moment : goal.returns-clause-any_moment
returns-clause-any_moment g c =
    let M = g.D.Disk.moment in
    let old = c.args.disk.now in
    let seen = (g.D.Disk.moment old).seen in
    let base = c.args.base in
    let gate = slot_at base c.args.ino c.args.half in
    let l = c.requires.loses in
    leaves_more M (Torn gate 1) old old c.close_gate.new.disk (SameView base seen)
    (leaves_start M old (SameView base seen) (λ x left. subst (λ (y : List ℕ). SameView base seen y) (sym (c.requires.settled x (g.met.D.Disk.only_now old x left))) (λ i low high. refl)))
    (subst (λ (n : ℕ). Goes (Torn n 1) (M old) (M c.close_gate.new.disk)) c.slot_at-gate.ensures c.close_gate.ensures.crash)
    (λ x after. torn_same_view base c.args.ino c.args.half seen l x (from_only M (Torn gate 1) old seen x c.requires.settled after) l.mine)

pub returns-clause-same : goal.returns-clause-same
returns-clause-same g c =
    let seen = (g.D.Disk.moment c.args.disk.now).seen in
    let base = c.args.base in
    let l = c.requires.loses in
    on_ok c.close_gate.result _ (SameView base seen (g.D.Disk.moment c.close_gate.new.disk).seen)
    (λ done. subst (λ (y : List ℕ). SameView base seen y) (sym (done ∙ ap (λ (n : ℕ). overwritten seen n (0 ∷ [])) c.slot_at-gate.ensures)) (closed_same_view base c.args.ino c.args.half seen l l.mine))
    c.close_gate.ensures.written

-- a crash leaves the gate torn
gate_only : goal.returns-clause-torn
gate_only g c =
    let M = g.D.Disk.moment in
    let old = c.args.disk.now in
    let seen = (g.D.Disk.moment old).seen in
    let gate = slot_at c.args.base c.args.ino c.args.half in
    leaves_more M (Torn gate 1) old old c.close_gate.new.disk (Torn gate 1 seen)
    (leaves_start M old (Torn gate 1 seen) (λ x left. subst (λ (y : List ℕ). Torn gate 1 seen y) (sym (c.requires.settled x (g.met.D.Disk.only_now old x left))) (torn_same gate 1 seen)))
    (subst (λ (n : ℕ). Goes (Torn n 1) (M old) (M c.close_gate.new.disk)) c.slot_at-gate.ensures c.close_gate.ensures.crash)
    (λ x after. from_only M (Torn gate 1) old seen x c.requires.settled after)

pub returns-clause-torn : goal.returns-clause-torn
returns-clause-torn g c = gate_only g c

pub returns-clause-outside : goal.returns-clause-outside
returns-clause-outside g c =
    let seen = (g.D.Disk.moment c.args.disk.now).seen in
    let base = c.args.base in
    let l = c.requires.loses in
    leaves_weaker g.D.Disk.moment c.args.disk.now c.close_gate.new.disk (Torn (slot_at base c.args.ino c.args.half) 1 seen) (Torn base area_length seen)
    (λ x torn. gate_in_area base c.args.ino c.args.half seen x l.low l.high torn)
    (gate_only g c)
