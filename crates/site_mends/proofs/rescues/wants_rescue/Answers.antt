use Rattle.std.proofs.Common.{◌≡◌, ◌∙◌, List, true, subst, sym}
use Rattle.site_frame.specs.of_role_steps.Tables.{row}
use Rattle.site_frame.specs.of_role_steps.Views.{file_key}
use Rattle.site_frame.specs.of_role_steps.Storage.{content_of, copy_key, copy_of}
use Rattle.site_frame.specs.of_role_steps.declared.copies.FileCopy.{FileCopy}
use Rattle.site_packs.specs.Live.{is_all_live}
use Rattle.site_mends.proofs.Wanted.{live_wants_none}
use Rattle.site_mends.proofs.Mends.{read_ill, read_well}
use Rattle.site_mends.proofs.Fits.{refused_read}
use Rattle.site_mends.proofs.rescues.wants_rescue.Goals as goal

pub returns-clause-disk : goal.returns-clause-disk
returns-clause-disk g c = read_well c.args.packs.now (g.D.Disk.moment c.args.disk.now) (g.D.Disk.moment c.read.new.disk) c.wants_rescue_in.result c.read.ensures.seen c.read.ensures.stands c.read.ensures.how c.read.ensures.crash c.in_ok-read.ensures.cause c.in_ok-read.ensures.tells c.wants_rescue_in.ensures.off_disk

pub returns-in_err-read-clause-disk : goal.returns-in_err-read-clause-disk
returns-in_err-read-clause-disk g c = read_ill c.args.packs.now (g.D.Disk.moment c.args.disk.now) (g.D.Disk.moment c.read.new.disk) c.from_residual.result c.in_err-read.field-0.0 c.from_residual.ensures.1 c.read.ensures.seen c.read.ensures.stands c.read.ensures.how c.read.ensures.crash c.in_err-read.ensures.cause c.in_err-read.ensures.tells

pub returns-in_err-read-clause-unfit : goal.returns-in_err-read-clause-unfit
returns-in_err-read-clause-unfit g c so can = refused_read c.in_err-read.field-0.0 c.from_residual.result c.from_residual.ensures.1 so

pub returns-then-is_known_live-clause-wants : goal.returns-then-is_known_live-clause-wants
returns-then-is_known_live-clause-wants g c = λ v copies.
    let live = c.requires.live.each c.args.file (sym c.is_known_live.ensures ∙ c.if-is_known_live.true) in
    live_wants_none c.args.table.now c.args.stamp (copy_of v.store c.args.file) (subst (λ (xs : List FileCopy). is_all_live (content_of (row copy_key (file_key c.args.file) xs)) ≡ true) (sym copies) live)
