use Rattle.std.proofs.Common.{◌≡◌, ◌∙◌, ◌++◌, ℕ, List, length, ap, sym, subst, arith}
use Rattle.disk_model.proofs.Moments.{leaves_weaker}
use Rattle.inode_pack.specs.Pack.{PackState}
use Rattle.site_packs.specs.Packs.{groups_at, ArePacks}
use Rattle.site_packs.specs.Mounting.{AreSoundBehind, IsCauseBehind, AreGroups, LeavesPacks, KeepsCopies}
use Rattle.site_packs.proofs.Mounts.{few_groups, are_groups, passing_result, leaves_copies, copies_kept}
use Rattle.std.specs.Prelude.{Result, Err}
use Rattle.disk_model.proofs.Moments.{leaves_cut}
use Rattle.pack_slots.specs.declared.mount_fault.MountFault.{MountFault}
use Rattle.site_packs.specs.Cutting.{both_open_on, IsCutBehind, IsCutMount}
use Rattle.site_packs.proofs.Cutting.{none_shown, on_fault, on_answer}
use Rattle.site_packs.proofs.packs.SitePacks.mount.Goals as goal

pub mount_behind-requires-clause-few : goal.mount_behind-requires-clause-few
mount_behind-requires-clause-few g c =
    let M = g.D.Disk.moment in
    let d = c.args.disk.now in
    let old = (M d).seen in
    let site = c.args.site in
    let groups = groups_at c.args.config.now site in
    let is : c.as_slice.result.now ≡ groups = c.as_slice.ensures ∙ c.in_ok-groups.ensures in
    let few = few_groups c.args.config.now site in
    let e = ap (λ (l : List ℕ). length l) is in
    omega arith

pub returns-in_err-mount_behind-clause-mounts : goal.returns-in_err-mount_behind-clause-mounts
returns-in_err-mount_behind-clause-mounts g c = λ sound.
    let M = g.D.Disk.moment in
    let d = c.args.disk.now in
    let old = (M d).seen in
    let site = c.args.site in
    let groups = groups_at c.args.config.now site in
    let is : c.as_slice.result.now ≡ groups = c.as_slice.ensures ∙ c.in_ok-groups.ensures in
    passing_result site groups old c.from_residual-in_err-mount_behind.result c.in_err-mount_behind.field-0.0 c.from_residual-in_err-mount_behind.ensures.1
    (subst (λ (l : List ℕ). IsCauseBehind 0 site l old c.in_err-mount_behind.field-0.0) is c.in_err-mount_behind.ensures.fault) sound

pub returns-in_err-mount_behind-clause-any_moment : goal.returns-in_err-mount_behind-clause-any_moment
returns-in_err-mount_behind-clause-any_moment g c = λ sound.
    let M = g.D.Disk.moment in
    let d = c.args.disk.now in
    let old = (M d).seen in
    let site = c.args.site in
    let groups = groups_at c.args.config.now site in
    let is : c.as_slice.result.now ≡ groups = c.as_slice.ensures ∙ c.in_ok-groups.ensures in
    leaves_weaker M d c.mount_behind.new.disk (LeavesPacks 0 site c.as_slice.result.now old) (KeepsCopies site groups old)
    (λ x leaves. leaves_copies site groups old x (subst (λ (l : List ℕ). LeavesPacks 0 site l old x) is leaves))
    (c.mount_behind.ensures.any_moment (subst (λ (l : List ℕ). AreSoundBehind 0 site l old) (sym is) sound))

pub invariant_of-result : goal.invariant_of-result
invariant_of-result g c =
    let M = g.D.Disk.moment in
    let d = c.args.disk.now in
    let old = (M d).seen in
    let site = c.args.site in
    let groups = groups_at c.args.config.now site in
    let is : c.as_slice.result.now ≡ groups = c.as_slice.ensures ∙ c.in_ok-groups.ensures in
    let m = c.in_ok-mount_behind.ensures.mounted in
    let items = m.adds ∙ ap (λ (l : List PackState). l ++ m.packs) c.new-packs.ensures.items in
    subst (λ (l : List PackState). ArePacks 0 0 site l) (sym items) (m.are 0 (subst (λ (l : List ℕ). AreGroups 0 l) (sym is) (are_groups c.args.config.now site)))

pub returns-clause-copies : goal.returns-clause-copies
returns-clause-copies g c =
    let M = g.D.Disk.moment in
    let d = c.args.disk.now in
    let old = (M d).seen in
    let site = c.args.site in
    let groups = groups_at c.args.config.now site in
    let is : c.as_slice.result.now ≡ groups = c.as_slice.ensures ∙ c.in_ok-groups.ensures in
    let m = c.in_ok-mount_behind.ensures.mounted in
    let new = (M c.mount_behind.new.disk).seen in
    copies_kept 0 site groups old new (subst (λ (l : List ℕ). LeavesPacks 0 site l old new) is m.leaves).kept

pub returns-clause-any_moment : goal.returns-clause-any_moment
returns-clause-any_moment g c = λ sound.
    let M = g.D.Disk.moment in
    let d = c.args.disk.now in
    let old = (M d).seen in
    let site = c.args.site in
    let groups = groups_at c.args.config.now site in
    let is : c.as_slice.result.now ≡ groups = c.as_slice.ensures ∙ c.in_ok-groups.ensures in
    leaves_weaker M d c.mount_behind.new.disk (LeavesPacks 0 site c.as_slice.result.now old) (KeepsCopies site groups old)
    (λ x leaves. leaves_copies site groups old x (subst (λ (l : List ℕ). LeavesPacks 0 site l old x) is leaves))
    (c.mount_behind.ensures.any_moment (subst (λ (l : List ℕ). AreSoundBehind 0 site l old) (sym is) sound))

pub returns-in_err-mount_behind-clause-cut : goal.returns-in_err-mount_behind-clause-cut
returns-in_err-mount_behind-clause-cut g c passed told =
    let M = g.D.Disk.moment in
    let d = c.args.disk.now in
    let old = (M d).seen in
    let site = c.args.site in
    let groups = groups_at c.args.config.now site in
    let is : c.as_slice.result.now ≡ groups = c.as_slice.ensures ∙ c.in_ok-groups.ensures in
    let after = c.mount_behind.new.disk in
    let how = (M d).how in
    let new = (M after).left in
    let fault = c.in_err-mount_behind.field-0.0 in
    let given : Result (Unit {0}) MountFault = Err fault in
    let A = IsCutBehind 0 c.as_slice.result.now how passed old new in
    let B = IsCutMount site groups how passed old new in
    on_fault (Unit {0}) c.from_residual-in_err-mount_behind.result fault B c.from_residual-in_err-mount_behind.ensures.1
    (on_answer given A B (λ behind.
    let cut = subst (λ (l : List ℕ). IsCutBehind 0 l how passed old new) is behind in
    record {
      kept = λ sound. leaves_cut M d after (KeepsCopies site groups old) (returns-in_err-mount_behind-clause-any_moment g c sound) (g.met.D.Disk.counts_now after) (g.met.D.Disk.leaves_an_image after);
      outside = cut.outside;
      both = cut.both;
    })
    (c.in_err-mount_behind.ensures.cut passed told))

pub returns-clause-none : goal.returns-clause-none
returns-clause-none g c =
    let M = g.D.Disk.moment in
    let d = c.args.disk.now in
    let old = (M d).seen in
    let site = c.args.site in
    let groups = groups_at c.args.config.now site in
    let is : c.as_slice.result.now ≡ groups = c.as_slice.ensures ∙ c.in_ok-groups.ensures in
    let m = c.in_ok-mount_behind.ensures.mounted in
    let new = (M c.mount_behind.new.disk).seen in
    let ok = subst (λ (l : List ℕ). AreGroups 0 l) (sym is) (are_groups c.args.config.now site) in
    ap (λ (l : List ℕ). both_open_on l new) (sym (m.groups_are ∙ is)) ∙ none_shown 0 0 site m.packs new (m.are 0 ok) m.shown
