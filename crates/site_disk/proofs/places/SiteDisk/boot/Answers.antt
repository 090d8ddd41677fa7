use Rattle.std.proofs.Common.{◌≡◌, ◌∙◌, ◌+◌, ◌-◌, ◌*◌, ℕ, length, ap, sym, subst}
use Rattle.std.specs.Prelude.{Ok}
use Rattle.disk_model.proofs.Moments.{leaves_weaker}
use Rattle.disk_model.proofs.ReadRuns.{leaves_joins}
use Rattle.pack_layout.specs.Layout.{area_length}
use Rattle.disk_model.specs.Cut.{Cut}
use Rattle.site_label.specs.Raising.{MayBeLeft as LabelLeft, are_open}
use Rattle.site_label.specs.Cutting.{IsLeft, boot_left}
use Rattle.site_label.specs.Label.{HasBoot}
use Rattle.site_label.proofs.Halves.{one_boot}
use Rattle.site_packs.specs.Cutting.{IsCutMount}
use Rattle.site_label.proofs.Image.{boot_same, shut_same}
use Rattle.site_packs.specs.Packs.{groups_at}
use Rattle.site_packs.specs.Mounting.{KeepsCopies}
use Rattle.site_disk.specs.Boots.{MayBeLeft, IsCutBoot, label_calls, IsCause, IsPassing, fault_of_label, fault_of_mount}
use Rattle.site_disk.proofs.Labels.{label_there}
use Rattle.site_disk.proofs.Leaving.{label_left, packs_left, sound_still, sound_before, copies_still}
use Rattle.site_disk.proofs.Faults.{if_given, label_passing, mount_cause, mount_passing, mount_given, whole_tells}
use Rattle.site_disk.proofs.Cutting.{label_cut, packs_cut, label_given, label_passed, cut_given}
use Rattle.site_disk.proofs.places.SiteDisk.boot.Goals as goal

pub returns-in_err-boot-clause-any_moment : goal.returns-in_err-boot-clause-any_moment
returns-in_err-boot-clause-any_moment g c =
    λ sound.
    let M = g.D.Disk.moment in
    let d = c.args.disk.now in
    let old = (M d).seen in
    let site = c.args.site in
    let groups = groups_at c.args.config.now site in
    let mid = c.boot.new.disk in
    let P = MayBeLeft site groups old in
    leaves_weaker M d mid (LabelLeft site old) P (λ x at. label_left site groups old x sound at) c.boot.ensures.any_moment

pub returns-in_err-boot-clause-boots : goal.returns-in_err-boot-clause-boots
returns-in_err-boot-clause-boots g c =
    λ boot has lt sound.
    let M = g.D.Disk.moment in
    let d = c.args.disk.now in
    let old = (M d).seen in
    let site = c.args.site in
    let groups = groups_at c.args.config.now site in
    let fault = c.in_err-boot.field-0.0 in
    if_given c.from_residual.result (fault_of_label fault) (λ f. IsPassing f) c.from_residual.ensures (label_passing site boot old fault has lt c.in_err-boot.ensures.fault)

pub returns-in_err-packs-clause-any_moment : goal.returns-in_err-packs-clause-any_moment
returns-in_err-packs-clause-any_moment g c =
    λ sound.
    let M = g.D.Disk.moment in
    let d = c.args.disk.now in
    let old = (M d).seen in
    let site = c.args.site in
    let groups = groups_at c.args.config.now site in
    let mid = c.boot.new.disk in
    let left : LabelLeft site old (M mid).seen = c.boot.ensures.any_moment.each (M mid).seen (g.met.D.Disk.counts_now mid (M d).now (M mid).seen c.boot.ensures.any_moment.later (g.met.D.Disk.reads_an_image mid)) in
    let P = MayBeLeft site groups old in
    leaves_joins M d mid c.mount.new.disk P
    (leaves_weaker M d mid (LabelLeft site old) P (λ x at. label_left site groups old x sound at) c.boot.ensures.any_moment)
    (leaves_weaker M mid c.mount.new.disk (KeepsCopies site groups (M mid).seen) P (λ x keeps. packs_left site groups old (M mid).seen x sound left keeps)
    (c.mount.ensures.any_moment (sound_still site groups old (M mid).seen sound left.outside)))

pub returns-in_err-packs-clause-fault : goal.returns-in_err-packs-clause-fault
returns-in_err-packs-clause-fault g c =
    let M = g.D.Disk.moment in
    let d = c.args.disk.now in
    let old = (M d).seen in
    let site = c.args.site in
    let groups = groups_at c.args.config.now site in
    let mid = c.boot.new.disk in
    let left : LabelLeft site old (M mid).seen = c.boot.ensures.any_moment.each (M mid).seen (g.met.D.Disk.counts_now mid (M d).now (M mid).seen c.boot.ensures.any_moment.later (g.met.D.Disk.reads_an_image mid)) in
    let fault = c.in_err-packs.field-0.0 in
    if_given c.from_residual-in_err-packs.result (fault_of_mount fault) (λ f. IsCause site groups old f) c.from_residual-in_err-packs.ensures (mount_cause site groups old (M mid).seen fault left.outside c.in_err-packs.ensures.fault)

pub returns-in_err-packs-clause-boots : goal.returns-in_err-packs-clause-boots
returns-in_err-packs-clause-boots g c =
    λ boot has lt sound.
    let M = g.D.Disk.moment in
    let d = c.args.disk.now in
    let old = (M d).seen in
    let site = c.args.site in
    let groups = groups_at c.args.config.now site in
    let mid = c.boot.new.disk in
    let left : LabelLeft site old (M mid).seen = c.boot.ensures.any_moment.each (M mid).seen (g.met.D.Disk.counts_now mid (M d).now (M mid).seen c.boot.ensures.any_moment.later (g.met.D.Disk.reads_an_image mid)) in
    let fault = c.in_err-packs.field-0.0 in
    if_given c.from_residual-in_err-packs.result (fault_of_mount fault) (λ f. IsPassing f) c.from_residual-in_err-packs.ensures
    (mount_passing fault (c.in_err-packs.ensures.mounts (sound_still site groups old (M mid).seen sound left.outside)))

pub returns-in_err-packs-clause-tells : goal.returns-in_err-packs-clause-tells
returns-in_err-packs-clause-tells g c =
    let M = g.D.Disk.moment in
    let d = c.args.disk.now in
    let old = (M d).seen in
    let site = c.args.site in
    let groups = groups_at c.args.config.now site in
    let mid = c.boot.new.disk in
    let left : LabelLeft site old (M mid).seen = c.boot.ensures.any_moment.each (M mid).seen (g.met.D.Disk.counts_now mid (M d).now (M mid).seen c.boot.ensures.any_moment.later (g.met.D.Disk.reads_an_image mid)) in
    let fault = c.in_err-packs.field-0.0 in
    mount_given c.mount.result c.from_residual-in_err-packs.result groups old (M mid).seen (M d).passing (M mid).passing (M c.mount.new.disk).passing fault c.in_err-packs.was c.from_residual-in_err-packs.ensures left.outside
    c.in_ok-boot.ensures.tells c.mount.ensures.tells

pub returns-clause-label : goal.returns-clause-label
returns-clause-label g c =
    let M = g.D.Disk.moment in
    let d = c.args.disk.now in
    let old = (M d).seen in
    let site = c.args.site in
    let groups = groups_at c.args.config.now site in
    let mid = c.boot.new.disk in
    let left : LabelLeft site old (M mid).seen = c.boot.ensures.any_moment.each (M mid).seen (g.met.D.Disk.counts_now mid (M d).now (M mid).seen c.boot.ensures.any_moment.later (g.met.D.Disk.reads_an_image mid)) in
    let new = c.mount.new.disk in
    let mounting = c.mount.ensures.any_moment c.in_ok-packs.ensures.sound in
    let keeps : KeepsCopies site groups (M mid).seen (M new).seen = mounting.each (M new).seen (g.met.D.Disk.counts_now new (M mid).now (M new).seen mounting.later (g.met.D.Disk.reads_an_image new)) in
    let n = area_length * length groups in
    label_there site c.in_ok-boot.boot (M new).seen (boot_same n (M mid).seen (M new).seen keeps.outside site c.in_ok-boot.boot c.in_ok-boot.ensures.boot) (shut_same n (M mid).seen (M new).seen keeps.outside c.in_ok-boot.ensures.alone)

pub returns-clause-boot : goal.returns-clause-boot
returns-clause-boot g c =
    let M = g.D.Disk.moment in
    let d = c.args.disk.now in
    let old = (M d).seen in
    let site = c.args.site in
    let groups = groups_at c.args.config.now site in
    let mid = c.boot.new.disk in
    let left : LabelLeft site old (M mid).seen = c.boot.ensures.any_moment.each (M mid).seen (g.met.D.Disk.counts_now mid (M d).now (M mid).seen c.boot.ensures.any_moment.later (g.met.D.Disk.reads_an_image mid)) in
    let new = c.mount.new.disk in
    let mounting = c.mount.ensures.any_moment c.in_ok-packs.ensures.sound in
    let keeps : KeepsCopies site groups (M mid).seen (M new).seen = mounting.each (M new).seen (g.met.D.Disk.counts_now new (M mid).now (M new).seen mounting.later (g.met.D.Disk.reads_an_image new)) in
    let n = area_length * length groups in
    boot_same n (M mid).seen (M new).seen keeps.outside site c.in_ok-boot.boot c.in_ok-boot.ensures.boot

pub returns-clause-copies : goal.returns-clause-copies
returns-clause-copies g c =
    let M = g.D.Disk.moment in
    let d = c.args.disk.now in
    let old = (M d).seen in
    let site = c.args.site in
    let groups = groups_at c.args.config.now site in
    let mid = c.boot.new.disk in
    let left : LabelLeft site old (M mid).seen = c.boot.ensures.any_moment.each (M mid).seen (g.met.D.Disk.counts_now mid (M d).now (M mid).seen c.boot.ensures.any_moment.later (g.met.D.Disk.reads_an_image mid)) in
    let sound = sound_before site groups old (M mid).seen left.outside c.in_ok-packs.ensures.sound in
    c.in_ok-packs.ensures.copies ∙ copies_still site groups old (M mid).seen sound left.outside

pub returns-clause-sound : goal.returns-clause-sound
returns-clause-sound g c =
    let M = g.D.Disk.moment in
    let d = c.args.disk.now in
    let old = (M d).seen in
    let site = c.args.site in
    let groups = groups_at c.args.config.now site in
    let mid = c.boot.new.disk in
    let left : LabelLeft site old (M mid).seen = c.boot.ensures.any_moment.each (M mid).seen (g.met.D.Disk.counts_now mid (M d).now (M mid).seen c.boot.ensures.any_moment.later (g.met.D.Disk.reads_an_image mid)) in
    sound_before site groups old (M mid).seen left.outside c.in_ok-packs.ensures.sound

pub returns-clause-any_moment : goal.returns-clause-any_moment
returns-clause-any_moment g c =
    λ sound.
    let M = g.D.Disk.moment in
    let d = c.args.disk.now in
    let old = (M d).seen in
    let site = c.args.site in
    let groups = groups_at c.args.config.now site in
    let mid = c.boot.new.disk in
    let left : LabelLeft site old (M mid).seen = c.boot.ensures.any_moment.each (M mid).seen (g.met.D.Disk.counts_now mid (M d).now (M mid).seen c.boot.ensures.any_moment.later (g.met.D.Disk.reads_an_image mid)) in
    let P = MayBeLeft site groups old in
    leaves_joins M d mid c.mount.new.disk P
    (leaves_weaker M d mid (LabelLeft site old) P (λ x at. label_left site groups old x sound at) c.boot.ensures.any_moment)
    (leaves_weaker M mid c.mount.new.disk (KeepsCopies site groups (M mid).seen) P (λ x keeps. packs_left site groups old (M mid).seen x sound left keeps)
    (c.mount.ensures.any_moment (sound_still site groups old (M mid).seen sound left.outside)))

pub returns-clause-tells : goal.returns-clause-tells
returns-clause-tells g c =
    let M = g.D.Disk.moment in
    let d = c.args.disk.now in
    let old = (M d).seen in
    let site = c.args.site in
    let groups = groups_at c.args.config.now site in
    let mid = c.boot.new.disk in
    let left : LabelLeft site old (M mid).seen = c.boot.ensures.any_moment.each (M mid).seen (g.met.D.Disk.counts_now mid (M d).now (M mid).seen c.boot.ensures.any_moment.later (g.met.D.Disk.reads_an_image mid)) in
    whole_tells groups old (M mid).seen (M d).passing (M mid).passing (M c.mount.new.disk).passing (Ok tt) left.outside c.in_ok-boot.ensures.tells c.in_ok-packs.ensures.tells

pub returns-in_err-boot-clause-cut : goal.returns-in_err-boot-clause-cut
returns-in_err-boot-clause-cut g c =
    λ before passed has exact.
    let M = g.D.Disk.moment in
    let d = c.args.disk.now in
    let old = (M d).seen in
    let site = c.args.site in
    let groups = groups_at c.args.config.now site in
    let new = c.boot.new.disk in
    label_given c.boot.result c.from_residual.result c.in_err-boot.field-0.0 (IsCutBoot site groups (M d).how before passed old (M new).left) (IsLeft site (boot_left (are_open old) (M d).how passed before) old (M new).left)
    old passed (M d).passing (M new).passing c.in_err-boot.was c.from_residual.ensures exact c.boot.ensures.tells (c.boot.ensures.cut before passed has exact)
    (λ few left. label_cut site groups (M d).how before passed old (M new).left left few)

pub returns-in_err-packs-clause-cut : goal.returns-in_err-packs-clause-cut
returns-in_err-packs-clause-cut g c =
    λ before passed has exact.
    let M = g.D.Disk.moment in
    let d = c.args.disk.now in
    let old = (M d).seen in
    let site = c.args.site in
    let groups = groups_at c.args.config.now site in
    let mid = c.boot.new.disk in
    let left : LabelLeft site old (M mid).seen = c.boot.ensures.any_moment.each (M mid).seen (g.met.D.Disk.counts_now mid (M d).now (M mid).seen c.boot.ensures.any_moment.later (g.met.D.Disk.reads_an_image mid)) in
    let new = c.mount.new.disk in
    let n = label_calls (are_open old) in
    let rest = label_passed n passed (M d).passing (M mid).passing exact c.in_ok-boot.ensures.tells in
    let raised = c.in_ok-boot.ensures.raised in
    let same = one_boot site before raised.0 old has raised.1 in
    let number = subst (λ (k : ℕ). HasBoot site k (M mid).seen) (raised.2 ∙ ap (λ (k : ℕ). k + 1) (sym same)) c.in_ok-boot.ensures.boot in
    cut_given c.mount.result c.from_residual-in_err-packs.result c.in_err-packs.field-0.0 (IsCutBoot site groups (M d).how before passed old (M new).left) (IsCutMount site groups (M mid).how (passed - n) (M mid).seen (M new).left)
    c.in_err-packs.was c.from_residual-in_err-packs.ensures (c.mount.ensures.cut (passed - n) rest.1)
    (λ cut. packs_cut site groups (M d).how before passed old (M mid).seen (M new).left left.outside number c.in_ok-boot.ensures.alone
    (subst (λ (h : Cut). IsCutMount site groups h (passed - n) (M mid).seen (M new).left) c.boot.ensures.how cut) rest.0)
