use Rattle.std.proofs.Common.{◌≡◌, ◌∙◌, ◌*◌, length}
use Rattle.disk_model.specs.Images.{Torn}
use Rattle.pack_layout.specs.Layout.{area_length}
use Rattle.site_label.specs.Label.{HasBoot}
use Rattle.site_label.proofs.Image.{boot_same, new_same, new_shut}
use Rattle.site_packs.specs.Packs.{groups_at, areas_end}
use Rattle.site_packs.specs.Copies.{copies_on}
use Rattle.site_packs.specs.Mounting.{AreSound, KeepsCopies, new_copies, mount_calls}
use Rattle.site_disk.specs.Image.{label_on, one_half}
use Rattle.site_disk.proofs.Labels.{label_there}
use Rattle.site_disk.proofs.Leaving.{goes_by, goes_format, goes_mounted, label_inside, areas_inside, both_inside, on_ok_any}
use Rattle.site_disk.proofs.Faults.{format_failed, format_tells}
use Rattle.site_disk.proofs.places.SiteDisk.format.Goals as goal

pub returns-in_err-format-2-clause-crash : goal.returns-in_err-format-2-clause-crash
returns-in_err-format-2-clause-crash g c =
    let M = g.D.Disk.moment in
    let d = c.args.disk.now in
    let old = (M d).seen in
    let site = c.args.site in
    let groups = groups_at c.args.config.now site in
    let one = c.format.new.disk in
    let two = c.format-2.new.disk in
    let k = length groups in
    goes_format M k d one two c.format.ensures.crash c.format-2.ensures.crash

pub returns-in_err-format-2-clause-tells : goal.returns-in_err-format-2-clause-tells
returns-in_err-format-2-clause-tells g c =
    let M = g.D.Disk.moment in
    let d = c.args.disk.now in
    let old = (M d).seen in
    let site = c.args.site in
    let groups = groups_at c.args.config.now site in
    let one = c.format.new.disk in
    let two = c.format-2.new.disk in
    let k = length groups in
    format_failed c.from_residual-in_err-format-2.result 2 (131 * k) (M d).passing (M one).passing (M two).passing c.in_err-format-2.field-0.0 c.from_residual-in_err-format-2.ensures c.in_ok-format.ensures.tells c.in_err-format-2.ensures.tells

pub returns-clause-label : goal.returns-clause-label
returns-clause-label g c =
    let M = g.D.Disk.moment in
    let d = c.args.disk.now in
    let old = (M d).seen in
    let site = c.args.site in
    let groups = groups_at c.args.config.now site in
    let one = c.format.new.disk in
    let two = c.format-2.new.disk in
    let k = length groups in
    let new = c.mount_new.new.disk in
    let mounting = c.mount_new.ensures.any_moment in
    let keeps : KeepsCopies site groups (M two).seen (M new).seen = mounting.each (M new).seen (g.met.D.Disk.counts_now new (M two).now (M new).seen mounting.later (g.met.D.Disk.reads_an_image new)) in
    let n = area_length * k in
    let has : HasBoot site 1 (M new).seen = boot_same n (M two).seen (M new).seen keeps.outside site 1 (boot_same n (M one).seen (M two).seen c.in_ok-format-2.ensures.outside site 1 c.in_ok-format.ensures.boot) in
    let new_label = new_same n (M two).seen (M new).seen keeps.outside site (new_same n (M one).seen (M two).seen c.in_ok-format-2.ensures.outside site c.in_ok-format.ensures.formatted) in
    on_ok_any c.mount_new.result (label_on (M new).seen ≡ one_half 1) (label_there site 1 (M new).seen has (new_shut site (M new).seen new_label))

pub returns-clause-boot : goal.returns-clause-boot
returns-clause-boot g c =
    let M = g.D.Disk.moment in
    let d = c.args.disk.now in
    let old = (M d).seen in
    let site = c.args.site in
    let groups = groups_at c.args.config.now site in
    let one = c.format.new.disk in
    let two = c.format-2.new.disk in
    let k = length groups in
    let new = c.mount_new.new.disk in
    let mounting = c.mount_new.ensures.any_moment in
    let keeps : KeepsCopies site groups (M two).seen (M new).seen = mounting.each (M new).seen (g.met.D.Disk.counts_now new (M two).now (M new).seen mounting.later (g.met.D.Disk.reads_an_image new)) in
    let n = area_length * k in
    let has : HasBoot site 1 (M new).seen = boot_same n (M two).seen (M new).seen keeps.outside site 1 (boot_same n (M one).seen (M two).seen c.in_ok-format-2.ensures.outside site 1 c.in_ok-format.ensures.boot) in
    on_ok_any c.mount_new.result (HasBoot site 1 (M new).seen) has

pub returns-clause-outside : goal.returns-clause-outside
returns-clause-outside g c =
    let M = g.D.Disk.moment in
    let d = c.args.disk.now in
    let old = (M d).seen in
    let site = c.args.site in
    let groups = groups_at c.args.config.now site in
    let one = c.format.new.disk in
    let two = c.format-2.new.disk in
    let k = length groups in
    let new = c.mount_new.new.disk in
    let mounting = c.mount_new.ensures.any_moment in
    let keeps : KeepsCopies site groups (M two).seen (M new).seen = mounting.each (M new).seen (g.met.D.Disk.counts_now new (M two).now (M new).seen mounting.later (g.met.D.Disk.reads_an_image new)) in
    let n = area_length * k in
    let has : HasBoot site 1 (M new).seen = boot_same n (M two).seen (M new).seen keeps.outside site 1 (boot_same n (M one).seen (M two).seen c.in_ok-format-2.ensures.outside site 1 c.in_ok-format.ensures.boot) in
    on_ok_any c.mount_new.result (Torn 0 (areas_end k) old (M new).seen)
    (both_inside k old (M two).seen (M new).seen (both_inside k old (M one).seen (M two).seen (label_inside k old (M one).seen c.in_ok-format.ensures.outside) (areas_inside k (M one).seen (M two).seen c.in_ok-format-2.ensures.outside))
    (areas_inside k (M two).seen (M new).seen keeps.outside))

pub returns-clause-crash : goal.returns-clause-crash
returns-clause-crash g c =
    let M = g.D.Disk.moment in
    let d = c.args.disk.now in
    let old = (M d).seen in
    let site = c.args.site in
    let groups = groups_at c.args.config.now site in
    let one = c.format.new.disk in
    let two = c.format-2.new.disk in
    let k = length groups in
    let new = c.mount_new.new.disk in
    goes_mounted M k d two new (goes_format M k d one two c.format.ensures.crash c.format-2.ensures.crash)
    (goes_by M (Torn 1024 (area_length * k)) two new (KeepsCopies site groups (M two).seen) (λ x keeps. keeps.outside) (g.met.D.Disk.reads_an_image two) (g.met.D.Disk.counts_now new) c.mount_new.ensures.any_moment)

pub returns-clause-tells : goal.returns-clause-tells
returns-clause-tells g c =
    let M = g.D.Disk.moment in
    let d = c.args.disk.now in
    let old = (M d).seen in
    let site = c.args.site in
    let groups = groups_at c.args.config.now site in
    let one = c.format.new.disk in
    let two = c.format-2.new.disk in
    let k = length groups in
    let new = c.mount_new.new.disk in
    format_tells 2 (131 * k) (mount_calls groups (M two).seen) (M d).passing (M one).passing (M two).passing (M new).passing c.mount_new.result c.in_ok-format-2.ensures.shut c.in_ok-format.ensures.tells c.in_ok-format-2.ensures.tells c.mount_new.ensures.tells

pub returns-clause-copies : goal.returns-clause-copies
returns-clause-copies g c =
    let M = g.D.Disk.moment in
    let site = c.args.site in
    let config = c.args.config.now in
    let groups = groups_at config site in
    let two = c.format-2.new.disk in
    let new = c.mount_new.new.disk in
    let mounting = c.mount_new.ensures.any_moment in
    let keeps : KeepsCopies site groups (M two).seen (M new).seen = mounting.each (M new).seen (g.met.D.Disk.counts_now new (M two).now (M new).seen mounting.later (g.met.D.Disk.reads_an_image new)) in
    on_ok_any c.mount_new.result (copies_on groups (M new).seen ≡ new_copies config site) (keeps.copies ∙ c.in_ok-format-2.ensures.copies)

pub returns-clause-sound : goal.returns-clause-sound
returns-clause-sound g c =
    let M = g.D.Disk.moment in
    let site = c.args.site in
    let groups = groups_at c.args.config.now site in
    let two = c.format-2.new.disk in
    let new = c.mount_new.new.disk in
    let mounting = c.mount_new.ensures.any_moment in
    let keeps : KeepsCopies site groups (M two).seen (M new).seen = mounting.each (M new).seen (g.met.D.Disk.counts_now new (M two).now (M new).seen mounting.later (g.met.D.Disk.reads_an_image new)) in
    on_ok_any c.mount_new.result (AreSound site groups (M new).seen) (keeps.sound c.in_ok-format-2.ensures.sound)
