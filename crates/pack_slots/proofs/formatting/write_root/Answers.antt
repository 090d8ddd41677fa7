use Rattle.disk_model.proofs.Tells.{tells_one}
use Rattle.std.proofs.Common.{◌≡◌, ◌≤◌, ◌+◌, length, sym, subst, List, ℕ, arith}
use Rattle.disk_model.specs.Images.{overwritten, Torn}
use Rattle.disk_model.proofs.Moments.{on_ok}
use Rattle.inode_switch.proofs.of_gate_switch.Pieces.{torn_overwritten}
use Rattle.pack_slots.proofs.formatting.write_root.Goals as goal

pub returns-clause-tells : goal.returns-clause-tells
returns-clause-tells g c = tells_one (g.D.Disk.moment c.args.disk.now).passing (g.D.Disk.moment c.write_at.new.self).passing c.write_at.result c.write_at.ensures.tells

pub returns-clause-outside : goal.returns-clause-outside
returns-clause-outside g c =
    let M = g.D.Disk.moment in
    let old = (M c.args.disk.now).seen in
    let bytes = c.root_bytes.result in
    let long : length bytes ≡ 512 = search in
    let fits : c.args.base + 1024 + length bytes ≤ length old = omega (arith, c.requires, long) in
    on_ok c.write_at.result _ (Torn (c.args.base + 1024) 512 old (M c.write_at.new.self).seen)
    (λ e. subst (λ (l : List ℕ). Torn (c.args.base + 1024) 512 old l) (sym e) (subst (λ (n : ℕ). Torn (c.args.base + 1024) n old (overwritten old (c.args.base + 1024) bytes)) long (torn_overwritten old (c.args.base + 1024) bytes fits)))
    c.write_at.ensures.written
