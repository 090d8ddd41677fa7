use Rattle.std.proofs.Common.{◌≡◌, ◌∙◌, ℕ, ◌+◌, ◌-◌, List, refl, ap, subst, sym, arith}
use Rattle.std.specs.Prelude.{Result, Ok, Err, OnErr, if◌then◌else◌}
use Rattle.disk_model.specs.Moments.{TellsMany}
use Rattle.disk_model.specs.declared.disk.DiskFault.{DiskFault}
use Rattle.disk_model.proofs.ReadRuns.{reads_then, reads_exact}
use Rattle.disk_model.proofs.Tells.{tells_join, tells_rest}
use Rattle.site_label.specs.declared.label_fault.LabelFault.{LabelFault}
use Rattle.site_label.specs.Label.{HasBoot}
use Rattle.site_label.specs.Reading.{IsCounted}
use Rattle.site_label.specs.Raising.{MayBeLeft, are_open, boot_calls, disk_answer}
use Rattle.site_label.specs.Cutting.{LabelState, IsLabel, IsLeft, raise_left, boot_left}
use Rattle.site_label.proofs.Cutting.{behind_closing}
use Rattle.disk_model.proofs.Moments.{leaves_cut}
use Rattle.site_label.proofs.Halves.{has_boot, one_boot}
use Rattle.site_label.proofs.Boots.{leaves_front, leaves_whole, beside_open, calls_are, failed_tells, given_on}
use Rattle.site_label.proofs.label.Label.boot.Goals as goal

pub returns-then-counted-clause-fault : goal.returns-then-counted-clause-fault
returns-then-counted-clause-fault g c =
    let seen = (g.D.Disk.moment c.args.disk.now).seen in
    subst (λ (n : ℕ). HasBoot c.args.site n seen) c.if-counted.true (has_boot c.args.site seen c.in_ok-counted.counted c.in_ok-counted.ensures.counted)

pub close_other-requires-clause-counted : goal.close_other-requires-clause-counted
close_other-requires-clause-counted g c = subst (λ (l : List ℕ). IsCounted c.args.site l c.in_ok-counted.counted) (sym c.in_ok-counted.ensures.seen) c.in_ok-counted.ensures.counted

pub returns-in_err-close_other-clause-any_moment : goal.returns-in_err-close_other-clause-any_moment
returns-in_err-close_other-clause-any_moment g c =
    leaves_front g.D.Disk.moment c.args.disk.now c.read_label.new.disk c.close_other.new.disk c.args.site c.in_ok-counted.counted.boot (has_boot c.args.site (g.D.Disk.moment c.args.disk.now).seen c.in_ok-counted.counted c.in_ok-counted.ensures.counted)
    c.requires.settled (g.met.D.Disk.only_now c.args.disk.now) c.read_label.ensures.crash c.in_ok-counted.ensures.seen c.close_other.ensures.any_moment

pub returns-in_err-close_other-clause-tells : goal.returns-in_err-close_other-clause-tells
returns-in_err-close_other-clause-tells g c =
    let M = g.D.Disk.moment in
    let seen = (M c.args.disk.now).seen in
    let k = c.in_ok-counted.counted in
    let h = given_on c.from_residual-in_err-close_other.result _ c.from_residual-in_err-close_other.ensures in
    let is = h.1 ∙ ap (λ (f : LabelFault). Err f) h.2 in
    let n : ℕ = if k.beside then 2 else 0 in
    let m : ℕ = if are_open seen then 8 else 6 in
    let calls : n + 6 ≡ m = calls_are (are_open seen) k.beside (beside_open c.args.site seen k c.in_ok-counted.ensures.counted) in
    let p = (M c.args.disk.now).passing in
    let r = (M c.close_other.new.disk).passing in
    let tells = failed_tells n m p (M c.read_label.new.disk).passing r c.in_err-close_other.field-0.0 (omega arith) c.in_ok-counted.ensures.tells c.in_err-close_other.ensures.tells in
    subst (λ (x : Result ℕ LabelFault). TellsMany (boot_calls seen x) p r (disk_answer x)) (sym is) tells

pub returns-in_err-raise-clause-any_moment : goal.returns-in_err-raise-clause-any_moment
returns-in_err-raise-clause-any_moment g c =
    leaves_whole g.D.Disk.moment c.args.disk.now c.read_label.new.disk c.close_other.new.disk c.raise.new.disk c.args.site c.in_ok-counted.counted.boot (has_boot c.args.site (g.D.Disk.moment c.args.disk.now).seen c.in_ok-counted.counted c.in_ok-counted.ensures.counted)
    c.requires.settled (g.met.D.Disk.only_now c.args.disk.now) c.read_label.ensures.crash c.in_ok-counted.ensures.seen c.close_other.ensures.any_moment c.in_ok-close_other.ensures.outside c.raise.ensures.any_moment

pub returns-in_err-raise-clause-tells : goal.returns-in_err-raise-clause-tells
returns-in_err-raise-clause-tells g c =
    let M = g.D.Disk.moment in
    let seen = (M c.args.disk.now).seen in
    let k = c.in_ok-counted.counted in
    let h = given_on c.from_residual-in_err-raise.result _ c.from_residual-in_err-raise.ensures in
    let is = h.1 ∙ ap (λ (f : LabelFault). Err f) h.2 in
    let n : ℕ = if k.beside then 2 else 0 in
    let m : ℕ = if are_open seen then 8 else 6 in
    let calls : n + 6 ≡ m = calls_are (are_open seen) k.beside (beside_open c.args.site seen k c.in_ok-counted.ensures.counted) in
    let p = (M c.args.disk.now).passing in
    let q = (M c.read_label.new.disk).passing in
    let r = (M c.close_other.new.disk).passing in
    let s = (M c.raise.new.disk).passing in
    let both = tells_join n 6 q r s (Err c.in_err-raise.field-0.0) c.in_ok-close_other.ensures.tells c.in_err-raise.ensures.tells in
    let tells = failed_tells (n + 6) m p q s c.in_err-raise.field-0.0 (omega arith) c.in_ok-counted.ensures.tells both in
    subst (λ (x : Result ℕ LabelFault). TellsMany (boot_calls seen x) p s (disk_answer x)) (sym is) tells

pub returns-clause-any_moment : goal.returns-clause-any_moment
returns-clause-any_moment g c =
    leaves_whole g.D.Disk.moment c.args.disk.now c.read_label.new.disk c.close_other.new.disk c.raise.new.disk c.args.site c.in_ok-counted.counted.boot (has_boot c.args.site (g.D.Disk.moment c.args.disk.now).seen c.in_ok-counted.counted c.in_ok-counted.ensures.counted)
    c.requires.settled (g.met.D.Disk.only_now c.args.disk.now) c.read_label.ensures.crash c.in_ok-counted.ensures.seen c.close_other.ensures.any_moment c.in_ok-close_other.ensures.outside c.raise.ensures.any_moment

pub returns-clause-raised : goal.returns-clause-raised
returns-clause-raised g c = (c.in_ok-counted.counted.boot, has_boot c.args.site (g.D.Disk.moment c.args.disk.now).seen c.in_ok-counted.counted c.in_ok-counted.ensures.counted, refl)

pub returns-clause-tells : goal.returns-clause-tells
returns-clause-tells g c =
    let M = g.D.Disk.moment in
    let seen = (M c.args.disk.now).seen in
    let k = c.in_ok-counted.counted in
    let n : ℕ = if k.beside then 2 else 0 in
    let calls = calls_are (are_open seen) k.beside (beside_open c.args.site seen k c.in_ok-counted.ensures.counted) in
    let p = (M c.args.disk.now).passing in
    let q = (M c.read_label.new.disk).passing in
    let r = (M c.close_other.new.disk).passing in
    let s = (M c.raise.new.disk).passing in
    let both = tells_join n 6 q r s (Ok tt) c.in_ok-close_other.ensures.tells c.in_ok-raise.ensures.tells in
    subst (λ (m : ℕ). TellsMany {T = Unit {0}} {E = DiskFault} m p s (Ok tt)) calls (reads_then (n + 6) p q s (Ok tt) c.in_ok-counted.ensures.tells both)

pub returns-in_err-close_other-clause-cut : goal.returns-in_err-close_other-clause-cut
returns-in_err-close_other-clause-cut g c before passed has told =
    let M = g.D.Disk.moment in
    let old = c.args.disk.now in
    let mid = c.read_label.new.disk in
    let new = c.close_other.new.disk in
    let seen = (M old).seen in
    let k = c.in_ok-counted.counted in
    let h = given_on c.from_residual-in_err-close_other.result _ c.from_residual-in_err-close_other.ensures in
    let is = h.1 ∙ ap (λ (f : LabelFault). Err f) h.2 in
    let passing = reads_exact _ (M old).passing (M mid).passing passed c.in_ok-counted.ensures.tells told in
    let beside = beside_open c.args.site seen k c.in_ok-counted.ensures.counted in
    let boot = one_boot c.args.site k.boot before seen (has_boot c.args.site seen k c.in_ok-counted.ensures.counted) has in
    let how : (M mid).how ≡ (M old).how = c.read_label.ensures.cut.how in
    let closed : IsLabel c.args.site (boot_left k.beside (M mid).how passed k.boot) (M new).left = c.in_err-close_other.ensures.cut passed passing in
    let left : IsLeft c.args.site (boot_left (are_open seen) (M old).how passed before) seen (M new).left = record {
      label = subst (λ (s : LabelState). IsLabel c.args.site s (M new).left) (λ i. boot_left (sym beside i) (how i) passed (boot i)) closed;
      outside = (leaves_cut M old new (MayBeLeft c.args.site seen) (returns-in_err-close_other-clause-any_moment g c) (g.met.D.Disk.counts_now new) (g.met.D.Disk.leaves_an_image new)).outside;
    } in
    subst (λ (x : Result ℕ LabelFault). OnErr (disk_answer x) (IsLeft c.args.site (boot_left (are_open seen) (M old).how passed before) seen (M new).left)) (sym is) left

pub returns-in_err-raise-clause-cut : goal.returns-in_err-raise-clause-cut
returns-in_err-raise-clause-cut g c before passed has told =
    let M = g.D.Disk.moment in
    let old = c.args.disk.now in
    let mid = c.read_label.new.disk in
    let next = c.close_other.new.disk in
    let new = c.raise.new.disk in
    let seen = (M old).seen in
    let k = c.in_ok-counted.counted in
    let h = given_on c.from_residual-in_err-raise.result _ c.from_residual-in_err-raise.ensures in
    let is = h.1 ∙ ap (λ (f : LabelFault). Err f) h.2 in
    let n : ℕ = if k.beside then 2 else 0 in
    let passing = reads_exact _ (M old).passing (M mid).passing passed c.in_ok-counted.ensures.tells told in
    let rest = tells_rest n (M mid).passing (M next).passing passed c.in_ok-close_other.ensures.tells passing in
    let beside = beside_open c.args.site seen k c.in_ok-counted.ensures.counted in
    let boot = one_boot c.args.site k.boot before seen (has_boot c.args.site seen k c.in_ok-counted.ensures.counted) has in
    let how : (M next).how ≡ (M old).how = c.close_other.ensures.how ∙ c.read_label.ensures.cut.how in
    let raised : IsLabel c.args.site (raise_left (M next).how (passed - n) k.boot) (M new).left = c.in_err-raise.ensures.cut (passed - n) rest.1 in
    let left : IsLeft c.args.site (boot_left (are_open seen) (M old).how passed before) seen (M new).left = record {
      label = subst (λ (s : LabelState). IsLabel c.args.site s (M new).left) (behind_closing k.beside (M next).how passed k.boot n refl rest.0 ∙ (λ i. boot_left (sym beside i) (how i) passed (boot i))) raised;
      outside = (leaves_cut M old new (MayBeLeft c.args.site seen) (returns-in_err-raise-clause-any_moment g c) (g.met.D.Disk.counts_now new) (g.met.D.Disk.leaves_an_image new)).outside;
    } in
    subst (λ (x : Result ℕ LabelFault). OnErr (disk_answer x) (IsLeft c.args.site (boot_left (are_open seen) (M old).how passed before) seen (M new).left)) (sym is) left
