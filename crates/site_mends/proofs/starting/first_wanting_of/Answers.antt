use Rattle.std.proofs.Common.{Ok, Option, subst, sym, ◌∙◌}
use Rattle.locus_ids.specs.declared.ids.FileId.{FileId}
use Rattle.site_frame.specs.of_role_steps.Mends.{wants_mend}
use Rattle.site_tables.specs.Inodes.{AreInodes}
use Rattle.site_mends.specs.Mending.{IsSeen}
use Rattle.site_mends.proofs.Directories.{wants_here, wants_later}
use Rattle.site_mends.proofs.Fits.{unfit_at}
use Rattle.site_mends.proofs.Mends.{read_alone, read_then}
use Rattle.site_mends.proofs.starting.first_wanting_of.Goals as goal

pub returns-then-is_some-clause-found : goal.returns-then-is_some-clause-found
returns-then-is_some-clause-found g c = λ v seen. wants_here c.args.table.now (wants_mend v c.args.table.now) c.args.directories.now c.loop-one.one-index _ c.in_ok-found.found c.loop-one-test.true
    (c.in_ok-found.ensures.found v (subst (λ image. IsSeen v c.args.packs.now image c.args.users.now) (sym c.loop-one.invariant.disk.seen) seen)) (sym c.is_some.ensures ∙ c.if-is_some.true) (c.loop-one.invariant.found v seen)

pub returns-in_err-found-clause-unfit : goal.returns-in_err-found-clause-unfit
returns-in_err-found-clause-unfit g c = unfit_at {S = Option FileId} (AreInodes c.args.table.now) c.from_residual.result c.in_err-found.field-0.0 c.from_residual.ensures.1 c.in_err-found.ensures.unfit

pub loop-one-preserved : goal.loop-one-preserved
loop-one-preserved g c = record {
  found = λ v seen. wants_later c.args.table.now (wants_mend v c.args.table.now) c.args.directories.now c.loop-one.one-index _ c.in_ok-found.found c.loop-one-test.true
      (c.in_ok-found.ensures.found v (subst (λ image. IsSeen v c.args.packs.now image c.args.users.now) (sym c.loop-one.invariant.disk.seen) seen)) (sym c.is_some.ensures ∙ c.if-is_some.false) (c.loop-one.invariant.found v seen);
  disk = read_then g.D.Disk.moment {S = Unit {0}} {T = Unit {0}} c.args.packs.now c.args.disk.now c.loop-one.disk c.wanting_at.new.disk tt (Ok tt) c.loop-one.invariant.disk (read_alone c.args.packs.now (g.D.Disk.moment c.loop-one.disk) (g.D.Disk.moment c.wanting_at.new.disk) c.in_ok-found.found c.in_ok-found.ensures.disk);
}
