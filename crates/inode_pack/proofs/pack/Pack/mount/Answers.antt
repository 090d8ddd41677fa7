use Rattle.std.proofs.Common.{subst, List, ℕ}
use Rattle.std.specs.Prelude.{Option}
use Rattle.disk_model.proofs.Moments.{leaves_weaker}
use Rattle.pack_slots.specs.declared.inode_copy.InodeCopy.{InodeCopy}
use Rattle.inode_pack.specs.Pack.{PackState}
use Rattle.pack_slots.specs.Copies.{ShowsCopies, copy_of}
use Rattle.pack_slots.specs.Mounting.{KeepsPack}
use Rattle.pack_slots.specs.Losing.{KeepsCopies}
use Rattle.inode_pack.proofs.Mounted.{keeps_itself, keeps_pack, mounted, recovered, mounts}
use Rattle.disk_model.proofs.ReadRuns.{leaves_same, leaves_joins}
use Rattle.std.proofs.Common.{◌≡◌, ◌∙◌}
use Rattle.disk_model.proofs.Moments.{leaves_cut}
use Rattle.disk_model.proofs.ReadRuns.{reads_exact}
use Rattle.disk_model.proofs.Tells.{answers_err}
use Rattle.pack_slots.specs.Mounting.{disk_answer}
use Rattle.pack_slots.specs.Cutting.{IsCutMount, losing_inodes, closings_left}
use Rattle.inode_pack.proofs.pack.Pack.mount.Goals as goal

pub returns-in_err-survey-clause-mounts : goal.returns-in_err-survey-clause-mounts
returns-in_err-survey-clause-mounts g c sound =
    mounts c.args.base c.args.group c.args.site (g.D.Disk.moment c.args.disk.now).seen c.from_residual.result c.in_err-survey.field-0.0 c.from_residual.ensures.1 c.in_err-survey.ensures.fault sound

pub returns-in_err-survey-clause-any_moment : goal.returns-in_err-survey-clause-any_moment
returns-in_err-survey-clause-any_moment g c =
    let M = g.D.Disk.moment in
    let old = c.args.disk.now in
    let seen = (g.D.Disk.moment old).seen in
    let keeps = KeepsPack c.args.base c.args.group c.args.site seen in
    leaves_same M old c.read_pack.new.disk seen keeps c.requires.settled (g.met.D.Disk.only_now old) c.read_pack.ensures.crash (keeps_itself c.args.base c.args.group c.args.site seen)

pub returns-in_err-close_losing-clause-any_moment : goal.returns-in_err-close_losing-clause-any_moment
returns-in_err-close_losing-clause-any_moment g c =
    let M = g.D.Disk.moment in
    let old = c.args.disk.now in
    let mid = c.read_pack.new.disk in
    let seen = (g.D.Disk.moment old).seen in
    let keeps = KeepsPack c.args.base c.args.group c.args.site seen in
    let first = leaves_same M old mid seen keeps c.requires.settled (g.met.D.Disk.only_now old) c.read_pack.ensures.crash (keeps_itself c.args.base c.args.group c.args.site seen) in
    let copies = c.in_ok-survey.survey.copies.items in
    let same = c.deref.ensures.value in
    let step = λ (x : List ℕ) (kept : KeepsCopies c.args.base c.deref.result.now (g.D.Disk.moment mid).seen x).
    keeps_pack c.args.base c.args.group c.args.site copies seen x c.in_ok-survey.ensures.copies
    (subst (λ (l : List ℕ). KeepsCopies c.args.base copies l x) c.in_ok-survey.ensures.seen (subst (λ (o : List (Option InodeCopy)). KeepsCopies c.args.base o (g.D.Disk.moment mid).seen x) same kept)) in
    leaves_joins M old mid c.close_losing.new.disk keeps first
    (leaves_weaker M mid c.close_losing.new.disk (KeepsCopies c.args.base c.deref.result.now (g.D.Disk.moment mid).seen) keeps step c.close_losing.ensures.any_moment)

pub returns-clause-any_moment : goal.returns-clause-any_moment
returns-clause-any_moment g c =
    let M = g.D.Disk.moment in
    let old = c.args.disk.now in
    let mid = c.read_pack.new.disk in
    let seen = (g.D.Disk.moment old).seen in
    let keeps = KeepsPack c.args.base c.args.group c.args.site seen in
    let first = leaves_same M old mid seen keeps c.requires.settled (g.met.D.Disk.only_now old) c.read_pack.ensures.crash (keeps_itself c.args.base c.args.group c.args.site seen) in
    let copies = c.in_ok-survey.survey.copies.items in
    let same = c.deref.ensures.value in
    let step = λ (x : List ℕ) (kept : KeepsCopies c.args.base c.deref.result.now (g.D.Disk.moment mid).seen x).
    keeps_pack c.args.base c.args.group c.args.site copies seen x c.in_ok-survey.ensures.copies
    (subst (λ (l : List ℕ). KeepsCopies c.args.base copies l x) c.in_ok-survey.ensures.seen (subst (λ (o : List (Option InodeCopy)). KeepsCopies c.args.base o (g.D.Disk.moment mid).seen x) same kept)) in
    leaves_joins M old mid c.close_losing.new.disk keeps first
    (leaves_weaker M mid c.close_losing.new.disk (KeepsCopies c.args.base c.deref.result.now (g.D.Disk.moment mid).seen) keeps step c.close_losing.ensures.any_moment)

pub returns-clause-recovered : goal.returns-clause-recovered
returns-clause-recovered g c = recovered c.args.base (g.D.Disk.moment c.args.disk.now).seen c.in_ok-survey.survey.copies.items c.in_ok-survey.survey.losing.items c.in_ok-survey.ensures.found

pub returns-clause-stands : goal.returns-clause-stands
returns-clause-stands g c =
    let seen = (g.D.Disk.moment c.args.disk.now).seen in
    let mid = (g.D.Disk.moment c.read_pack.new.disk).seen in
    let new = (g.D.Disk.moment c.close_losing.new.disk).seen in
    let copies = c.in_ok-survey.survey.copies.items in
    let same = c.deref.ensures.value in
    let kept = subst (λ (l : List ℕ). KeepsCopies c.args.base copies l new) c.in_ok-survey.ensures.seen (subst (λ (o : List (Option InodeCopy)). KeepsCopies c.args.base o mid new) same c.in_ok-close_losing.ensures.kept) in
    let shows = subst (λ (o : List (Option InodeCopy)). ShowsCopies c.args.base new (copy_of o)) same c.in_ok-close_losing.ensures.shows in
    let pack : PackState = record { base = c.args.base; group = c.args.group; site = c.args.site; copies = copies } in
    record { settled = c.in_ok-close_losing.ensures.durable; shows = mounted pack seen new c.requires.area c.in_ok-survey.ensures.sound.named kept shows }

pub returns-in_err-close_losing-clause-cut : goal.returns-in_err-close_losing-clause-cut
returns-in_err-close_losing-clause-cut g c passed told =
    let M = g.D.Disk.moment in
    let old = c.args.disk.now in
    let mid = c.read_pack.new.disk in
    let new = c.close_losing.new.disk in
    let base = c.args.base in
    let passing = reads_exact _ (M old).passing (M mid).passing passed c.in_ok-survey.ensures.tells told in
    let both : losing_inodes base (M new).left ≡ closings_left (M mid).how passed (losing_inodes base (M mid).seen) = c.in_err-close_losing.ensures.cut passed passing in
    let how : (M mid).how ≡ (M old).how = c.read_pack.ensures.how in
    let seen : (M mid).seen ≡ (M old).seen = c.in_ok-survey.ensures.seen in
    let left : IsCutMount base c.args.group c.args.site (M old).how passed (M old).seen (M new).left = record {
      kept = leaves_cut M old new (KeepsPack base c.args.group c.args.site (M old).seen) (returns-in_err-close_losing-clause-any_moment g c) (g.met.D.Disk.counts_now new) (g.met.D.Disk.leaves_an_image new);
      both = both ∙ (λ i. closings_left (how i) passed (losing_inodes base (seen i)));
    } in
    answers_err (disk_answer c.from_residual-in_err-close_losing.result) _ left
