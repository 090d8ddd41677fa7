use Rattle.std.proofs.Common.{◌≡◌, ◌+◌, ◌-◌, ◌*◌, length, take, drop, get_or, subst}
use Rattle.locus_ids.specs.Sizes.{inodes_max}
use Rattle.disk_model.proofs.Moments.{leaves_weaker}
use Rattle.disk_model.proofs.ReadRuns.{leaves_joins}
use Rattle.pack_slots.specs.Mounting.{KeepsPack}
use Rattle.site_packs.specs.Mounting.{AreMounted, LeavesPacks, IsCauseBehind}
use Rattle.site_packs.proofs.Stored.{on_ok_map}
use Rattle.site_packs.proofs.Mounts.{split_first, not_empty, empty_list, mounted_none, mounted_more, if_err_map, cause_more, leaves_first, leaves_rest, sound_rest, tells_more}
use Rattle.disk_model.proofs.Tells.{tells_rest}
use Rattle.pack_slots.specs.Mounting.{losing_gates}
use Rattle.pack_slots.specs.Cutting.{IsCutMount}
use Rattle.disk_model.specs.Cut.{Cut}
use Rattle.site_packs.specs.Cutting.{IsCutBehind}
use Rattle.site_packs.proofs.Cutting.{cut_first, cut_later, on_fault, on_answer, mount_few}
use Rattle.site_packs.proofs.mounting.+mount_behind.Goals as goal

pub returns-then-is_empty-clause-mounted : goal.returns-then-is_empty-clause-mounted
returns-then-is_empty-clause-mounted g t c = mounted_none c.args.nth c.args.site c.args.groups.now c.args.packs.now.items (g.D.Disk.moment c.args.disk.now) (empty_list c.args.groups.now c.is_empty.result c.is_empty.ensures c.if-is_empty.true) c.requires.settled

pub returns-in_err-pack-clause-any_moment : goal.returns-in_err-pack-clause-any_moment
returns-in_err-pack-clause-any_moment g t c = λ sound.
    let M = g.D.Disk.moment in
    let d = c.args.disk.now in
    let mid = c.mount.new.disk in
    let old = (M d).seen in
    let groups = c.args.groups.now in
    let nth = c.args.nth in
    let home = c.args.site in
    let base = c.area_at.result in
    let at = c.area_at.ensures in
    let group = get_or groups 0 0 in
    let rest = take (length groups - 1) (drop 1 groups) in
    let some = not_empty groups c.is_empty.result c.is_empty.ensures c.if-is_empty.false in
    let is = split_first groups some in
    leaves_weaker M d mid (KeepsPack base group home old) (LeavesPacks nth home groups old) (λ x kept. leaves_first nth home base groups rest group old x is at sound kept) c.mount.ensures.any_moment

pub returns-in_err-push_pack-clause-any_moment : goal.returns-in_err-push_pack-clause-any_moment
returns-in_err-push_pack-clause-any_moment g t c = λ sound.
    let M = g.D.Disk.moment in
    let d = c.args.disk.now in
    let mid = c.mount.new.disk in
    let old = (M d).seen in
    let groups = c.args.groups.now in
    let nth = c.args.nth in
    let home = c.args.site in
    let base = c.area_at.result in
    let at = c.area_at.ensures in
    let group = get_or groups 0 0 in
    let rest = take (length groups - 1) (drop 1 groups) in
    let some = not_empty groups c.is_empty.result c.is_empty.ensures c.if-is_empty.false in
    let is = split_first groups some in
    leaves_weaker M d mid (KeepsPack base group home old) (LeavesPacks nth home groups old) (λ x kept. leaves_first nth home base groups rest group old x is at sound kept) c.mount.ensures.any_moment

pub returns-clause-mounted : goal.returns-clause-mounted
returns-clause-mounted g t c =
    let M = g.D.Disk.moment in
    let d = c.args.disk.now in
    let mid = c.mount.new.disk in
    let old = (M d).seen in
    let groups = c.args.groups.now in
    let nth = c.args.nth in
    let home = c.args.site in
    let base = c.area_at.result in
    let at = c.area_at.ensures in
    let group = get_or groups 0 0 in
    let rest = take (length groups - 1) (drop 1 groups) in
    let some = not_empty groups c.is_empty.result c.is_empty.ensures c.if-is_empty.false in
    let is = split_first groups some in
    let keeps : KeepsPack base group home old (M mid).seen = c.mount.ensures.any_moment.each (M mid).seen (g.met.D.Disk.counts_now mid (M d).now (M mid).seen c.mount.ensures.any_moment.later (g.met.D.Disk.reads_an_image mid)) in
    let e = c.in_ok-pack.ensures in
    on_ok_map c.mount_behind.result (AreMounted (nth + 1) home rest c.push_pack.new.packs.items c.mount_behind.new.packs.items (M mid) (M c.mount_behind.new.disk)) (AreMounted nth home groups c.args.packs.now.items c.mount_behind.new.packs.items (M d) (M c.mount_behind.new.disk))
    (mounted_more nth home base groups rest group c.args.packs.now.items c.push_pack.new.packs.items c.mount_behind.new.packs.items c.in_ok-pack.pack (M d) (M mid) (M c.mount_behind.new.disk) is at e.base e.group e.site e.copies e.stands e.sound keeps c.in_ok-push_pack.ensures)
    c.mount_behind.ensures.mounted

pub returns-clause-any_moment : goal.returns-clause-any_moment
returns-clause-any_moment g t c = λ sound.
    let M = g.D.Disk.moment in
    let d = c.args.disk.now in
    let mid = c.mount.new.disk in
    let old = (M d).seen in
    let groups = c.args.groups.now in
    let nth = c.args.nth in
    let home = c.args.site in
    let base = c.area_at.result in
    let at = c.area_at.ensures in
    let group = get_or groups 0 0 in
    let rest = take (length groups - 1) (drop 1 groups) in
    let some = not_empty groups c.is_empty.result c.is_empty.ensures c.if-is_empty.false in
    let is = split_first groups some in
    let keeps : KeepsPack base group home old (M mid).seen = c.mount.ensures.any_moment.each (M mid).seen (g.met.D.Disk.counts_now mid (M d).now (M mid).seen c.mount.ensures.any_moment.later (g.met.D.Disk.reads_an_image mid)) in
    let P = LeavesPacks nth home groups old in
    leaves_joins M d mid c.mount_behind.new.disk P
    (leaves_weaker M d mid (KeepsPack base group home old) (LeavesPacks nth home groups old) (λ x kept. leaves_first nth home base groups rest group old x is at sound kept) c.mount.ensures.any_moment)
    (leaves_weaker M mid c.mount_behind.new.disk (LeavesPacks (nth + 1) home rest (M mid).seen) P (λ x kept. leaves_rest nth home base groups rest group old (M mid).seen x is at sound keeps kept)
    (c.mount_behind.ensures.any_moment (sound_rest nth home base groups rest group old (M mid).seen is at sound keeps)))

pub returns-clause-fault : goal.returns-clause-fault
returns-clause-fault g t c =
    let M = g.D.Disk.moment in
    let d = c.args.disk.now in
    let mid = c.mount.new.disk in
    let old = (M d).seen in
    let groups = c.args.groups.now in
    let nth = c.args.nth in
    let home = c.args.site in
    let base = c.area_at.result in
    let at = c.area_at.ensures in
    let group = get_or groups 0 0 in
    let rest = take (length groups - 1) (drop 1 groups) in
    let some = not_empty groups c.is_empty.result c.is_empty.ensures c.if-is_empty.false in
    let is = split_first groups some in
    let keeps : KeepsPack base group home old (M mid).seen = c.mount.ensures.any_moment.each (M mid).seen (g.met.D.Disk.counts_now mid (M d).now (M mid).seen c.mount.ensures.any_moment.later (g.met.D.Disk.reads_an_image mid)) in
    if_err_map c.mount_behind.result (λ fault. IsCauseBehind (nth + 1) home rest (M mid).seen fault) (λ fault. IsCauseBehind nth home groups old fault)
    (λ fault cause. cause_more nth home base groups rest group old (M mid).seen is at c.in_ok-pack.ensures.sound keeps fault cause) c.mount_behind.ensures.fault

pub returns-clause-tells : goal.returns-clause-tells
returns-clause-tells g t c =
    let M = g.D.Disk.moment in
    let d = c.args.disk.now in
    let mid = c.mount.new.disk in
    let old = (M d).seen in
    let groups = c.args.groups.now in
    let nth = c.args.nth in
    let home = c.args.site in
    let base = c.area_at.result in
    let at = c.area_at.ensures in
    let group = get_or groups 0 0 in
    let rest = take (length groups - 1) (drop 1 groups) in
    let some = not_empty groups c.is_empty.result c.is_empty.ensures c.if-is_empty.false in
    let is = split_first groups some in
    let keeps : KeepsPack base group home old (M mid).seen = c.mount.ensures.any_moment.each (M mid).seen (g.met.D.Disk.counts_now mid (M d).now (M mid).seen c.mount.ensures.any_moment.later (g.met.D.Disk.reads_an_image mid)) in
    tells_more nth home base groups rest group old (M mid).seen (M d).passing (M mid).passing (M c.mount_behind.new.disk).passing c.mount_behind.result is at keeps c.in_ok-pack.ensures.tells c.mount_behind.ensures.tells

pub returns-in_err-pack-clause-cut : goal.returns-in_err-pack-clause-cut
returns-in_err-pack-clause-cut g t c passed told =
    let M = g.D.Disk.moment in
    let d = c.args.disk.now in
    let mid = c.mount.new.disk in
    let old = (M d).seen in
    let groups = c.args.groups.now in
    let nth = c.args.nth in
    let home = c.args.site in
    let base = c.area_at.result in
    let at = c.area_at.ensures in
    let group = get_or groups 0 0 in
    let rest = take (length groups - 1) (drop 1 groups) in
    let some = not_empty groups c.is_empty.result c.is_empty.ensures c.if-is_empty.false in
    let is = split_first groups some in
    let how = (M d).how in
    let new = (M mid).left in
    let fault = c.in_err-pack.field-0.0 in
    let A = IsCutMount base group home how passed old new in
    let B = IsCutBehind nth groups how passed old new in
    on_fault (Unit {0}) c.from_residual.result fault B c.from_residual.ensures.1
    (mount_few (Unit {0}) (Unit {0}) base old fault (M d).passing (M mid).passing passed A B c.in_err-pack.ensures.tells told (λ lt cut. cut_first nth home base groups rest group how passed old new is at lt cut) (c.in_err-pack.ensures.cut passed told))

pub returns-clause-cut : goal.returns-clause-cut
returns-clause-cut g t c passed told =
    let M = g.D.Disk.moment in
    let d = c.args.disk.now in
    let mid = c.mount.new.disk in
    let old = (M d).seen in
    let groups = c.args.groups.now in
    let nth = c.args.nth in
    let home = c.args.site in
    let base = c.area_at.result in
    let at = c.area_at.ensures in
    let group = get_or groups 0 0 in
    let rest = take (length groups - 1) (drop 1 groups) in
    let some = not_empty groups c.is_empty.result c.is_empty.ensures c.if-is_empty.false in
    let is = split_first groups some in
    let keeps : KeepsPack base group home old (M mid).seen = c.mount.ensures.any_moment.each (M mid).seen (g.met.D.Disk.counts_now mid (M d).now (M mid).seen c.mount.ensures.any_moment.later (g.met.D.Disk.reads_an_image mid)) in
    let after = c.mount_behind.new.disk in
    let n = 2 * losing_gates base inodes_max old in
    let more = tells_rest n (M d).passing (M mid).passing passed c.in_ok-pack.ensures.tells told in
    let e = c.in_ok-pack.ensures in
    let same : (M mid).how ≡ (M d).how = c.mount.ensures.how in
    on_answer c.mount_behind.result (IsCutBehind (nth + 1) rest (M mid).how (passed - n) (M mid).seen (M after).left) (IsCutBehind nth groups (M d).how passed old (M after).left)
    (λ cut. cut_later nth home base groups rest group c.in_ok-pack.pack (M d).how passed old (M mid).seen (M after).left is at e.base e.copies e.stands.shows keeps more.0
    (subst (λ (h : Cut). IsCutBehind (nth + 1) rest h (passed - n) (M mid).seen (M after).left) same cut))
    (c.mount_behind.ensures.cut (passed - n) more.1)
