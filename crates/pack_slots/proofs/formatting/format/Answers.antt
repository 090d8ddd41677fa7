use Rattle.std.proofs.Common.{◌≤◌, ◌+◌, ap, sym, subst, ◌∙◌, List, ℕ, arith, length}
use Rattle.disk_model.specs.Images.{overwritten, Torn, Same}
use Rattle.pack_layout.specs.Layout.{area_length}
use Rattle.disk_model.proofs.Moments.{goes_more, goes_start, on_ok}
use Rattle.inode_switch.proofs.of_gate_switch.Pieces.{torn_overwritten}
use Rattle.pack_slots.specs.Copies.{ShowsCopies}
use Rattle.pack_slots.specs.Mounting.{IsSound}
use Rattle.pack_slots.specs.Format.{IsNew, new_copy}
use Rattle.pack_slots.proofs.New.{made_new, length-superblock, root_is_slot, stored_somewhere, new_is_sound, new_copies}
use Rattle.inode_switch.proofs.of_gate_switch.Tearing.{torn_widens, torn_joins, torn_stays}
use Rattle.pack_slots.proofs.formatting.format.Given.{Over}
use Rattle.std.specs.Prelude.{Ok}
use Rattle.disk_model.proofs.Tells.{tells_one, tells_join}
use Rattle.pack_slots.proofs.formatting.format.Goals as goal

pub returns-in_err-zero_slots-clause-crash : goal.returns-in_err-zero_slots-clause-crash
returns-in_err-zero_slots-clause-crash g c =
    let M = g.D.Disk.moment in
    let base = c.args.base in
    let old = c.args.disk.now in
    let long = ap length c.superblock.ensures ∙ length-superblock c.args.group c.args.site in
    let start = goes_start M (Torn base area_length) old (torn_stays base area_length) in
    let one = goes_more M (Torn base (length c.superblock.result)) (Torn base area_length) old old c.write_at.new.self (torn_widens base (length c.superblock.result) base area_length (omega arith) (omega arith)) (torn_joins base area_length) start c.write_at.ensures.crash in
    goes_more M (Torn (base + 1024) 2097152) (Torn base area_length) old c.write_at.new.self c.zero_slots.new.disk (torn_widens (base + 1024) 2097152 base area_length (omega arith) (omega arith)) (torn_joins base area_length) one c.zero_slots.ensures.crash

pub returns-in_err-write_root-clause-crash : goal.returns-in_err-write_root-clause-crash
returns-in_err-write_root-clause-crash g c =
    let M = g.D.Disk.moment in
    let base = c.args.base in
    let old = c.args.disk.now in
    let long = ap length c.superblock.ensures ∙ length-superblock c.args.group c.args.site in
    let start = goes_start M (Torn base area_length) old (torn_stays base area_length) in
    let one = goes_more M (Torn base (length c.superblock.result)) (Torn base area_length) old old c.write_at.new.self (torn_widens base (length c.superblock.result) base area_length (omega arith) (omega arith)) (torn_joins base area_length) start c.write_at.ensures.crash in
    let two = goes_more M (Torn (base + 1024) 2097152) (Torn base area_length) old c.write_at.new.self c.zero_slots.new.disk (torn_widens (base + 1024) 2097152 base area_length (omega arith) (omega arith)) (torn_joins base area_length) one c.zero_slots.ensures.crash in
    goes_more M (Torn (base + 1024) 512) (Torn base area_length) old c.zero_slots.new.disk c.write_root.new.disk (torn_widens (base + 1024) 512 base area_length (omega arith) (omega arith)) (torn_joins base area_length) two c.write_root.ensures.crash

pub returns-clause-crash : goal.returns-clause-crash
returns-clause-crash g c =
    let M = g.D.Disk.moment in
    let base = c.args.base in
    let old = c.args.disk.now in
    let long = ap length c.superblock.ensures ∙ length-superblock c.args.group c.args.site in
    let start = goes_start M (Torn base area_length) old (torn_stays base area_length) in
    let one = goes_more M (Torn base (length c.superblock.result)) (Torn base area_length) old old c.write_at.new.self (torn_widens base (length c.superblock.result) base area_length (omega arith) (omega arith)) (torn_joins base area_length) start c.write_at.ensures.crash in
    let two = goes_more M (Torn (base + 1024) 2097152) (Torn base area_length) old c.write_at.new.self c.zero_slots.new.disk (torn_widens (base + 1024) 2097152 base area_length (omega arith) (omega arith)) (torn_joins base area_length) one c.zero_slots.ensures.crash in
    let three = goes_more M (Torn (base + 1024) 512) (Torn base area_length) old c.zero_slots.new.disk c.write_root.new.disk (torn_widens (base + 1024) 512 base area_length (omega arith) (omega arith)) (torn_joins base area_length) two c.write_root.ensures.crash in
    goes_more M Same (Torn base area_length) old c.write_root.new.disk c.sync.new.self (λ a b same. subst (λ (l : List ℕ). Torn base area_length a l) (sym same) (torn_stays base area_length a)) (torn_joins base area_length) three c.sync.ensures.crash

made : (g : Over) (c : goal.After-sync g) → IsNew c.args.base c.args.group c.args.site c.args.set (g.D.Disk.moment c.sync.new.self).seen
made g c =
    let first = c.in_ok-write_at.ensures.written ∙ ap (λ (l : List ℕ). overwritten (g.D.Disk.moment c.args.disk.now).seen c.args.base l) c.superblock.ensures in
    subst (λ (l : List ℕ). IsNew c.args.base c.args.group c.args.site c.args.set l) (sym c.sync.ensures.seen)
    (made_new c.args.base c.args.group c.args.site c.args.set (g.D.Disk.moment c.args.disk.now).seen (g.D.Disk.moment c.write_at.new.self).seen (g.D.Disk.moment c.zero_slots.new.disk).seen (g.D.Disk.moment c.write_root.new.disk).seen c.requires.area first
    c.in_ok-zero_slots.ensures.outside c.in_ok-zero_slots.ensures.zeros c.in_ok-write_root.ensures.outside c.in_ok-write_root.ensures.root)

pub returns-clause-formatted : goal.returns-clause-formatted
returns-clause-formatted g c = on_ok c.sync.result _ (IsNew c.args.base c.args.group c.args.site c.args.set (g.D.Disk.moment c.sync.new.self).seen) (λ _. made g c) c.sync.ensures.durable

pub returns-clause-sound : goal.returns-clause-sound
returns-clause-sound g c =
    let slot = root_is_slot c.args.set (stored_somewhere c.args.set c.args.site c.requires.stored) (omega arith) in
    on_ok c.sync.result _ (IsSound c.args.base c.args.group c.args.site (g.D.Disk.moment c.sync.new.self).seen)
    (λ _. new_is_sound c.args.base c.args.group c.args.site c.args.set (g.D.Disk.moment c.sync.new.self).seen (made g c) slot)
    c.sync.ensures.durable

pub returns-clause-copies : goal.returns-clause-copies
returns-clause-copies g c =
    let slot = root_is_slot c.args.set (stored_somewhere c.args.set c.args.site c.requires.stored) (omega arith) in
    on_ok c.sync.result _ (ShowsCopies c.args.base (g.D.Disk.moment c.sync.new.self).seen (new_copy c.args.set))
    (λ _. new_copies c.args.base c.args.group c.args.site c.args.set (g.D.Disk.moment c.sync.new.self).seen (made g c) slot)
    c.sync.ensures.durable

pub returns-clause-outside : goal.returns-clause-outside
returns-clause-outside g c =
    let base = c.args.base in
    let block = c.superblock.result in
    let long = ap length c.superblock.ensures ∙ length-superblock c.args.group c.args.site in
    let area = c.requires.area in
    let fits : base + length block ≤ length (g.D.Disk.moment c.args.disk.now).seen = omega arith in
    let one = torn_widens base (length block) base area_length (omega arith) (omega arith) (g.D.Disk.moment c.args.disk.now).seen (g.D.Disk.moment c.write_at.new.self).seen (subst (λ (l : List ℕ). Torn base (length block) (g.D.Disk.moment c.args.disk.now).seen l) (sym c.in_ok-write_at.ensures.written) (torn_overwritten (g.D.Disk.moment c.args.disk.now).seen base block fits)) in
    let two = torn_widens (base + 1024) 2097152 base area_length (omega arith) (omega arith) (g.D.Disk.moment c.write_at.new.self).seen (g.D.Disk.moment c.zero_slots.new.disk).seen c.in_ok-zero_slots.ensures.outside in
    let three = torn_widens (base + 1024) 512 base area_length (omega arith) (omega arith) (g.D.Disk.moment c.zero_slots.new.disk).seen (g.D.Disk.moment c.write_root.new.disk).seen c.in_ok-write_root.ensures.outside in
    let join = torn_joins base area_length in
    let all = join _ _ _ (join _ _ _ one two) three in
    on_ok c.sync.result _ (Torn base area_length (g.D.Disk.moment c.args.disk.now).seen (g.D.Disk.moment c.sync.new.self).seen)
    (λ _. subst (λ (l : List ℕ). Torn base area_length (g.D.Disk.moment c.args.disk.now).seen l) (sym c.sync.ensures.seen) all)
    c.sync.ensures.durable

pub returns-clause-tells : goal.returns-clause-tells
returns-clause-tells g c =
    let M = g.D.Disk.moment in
    let a = (M c.args.disk.now).passing in
    let b = (M c.write_at.new.self).passing in
    let d = (M c.zero_slots.new.disk).passing in
    let e = (M c.write_root.new.disk).passing in
    let f = (M c.sync.new.self).passing in
    let one = tells_join 1 128 a b d (Ok tt) (tells_one a b (Ok tt) c.in_ok-write_at.ensures.tells) c.in_ok-zero_slots.ensures.tells in
    let two = tells_join 129 1 a d e (Ok tt) one c.in_ok-write_root.ensures.tells in
    tells_join 130 1 a e f c.sync.result two (tells_one e f c.sync.result c.sync.ensures.tells)
