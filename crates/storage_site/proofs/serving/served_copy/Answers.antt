use Rattle.std.proofs.Common.{ℕ, List, sym, ap, ◌∙◌}
use Rattle.role_steps.specs.Storage.{served_content}
use Rattle.store_instances.specs.of_site_packs.Packs.{copy_at}
use Rattle.storage_site.proofs.Serves.{served_none, served_other, served_same}
use Rattle.store_instances.proofs.Fits.{memory_fit, refused_read}
use Rattle.storage_site.proofs.serving.served_copy.Goals as goal

pub returns-in_default-clause-answer : goal.returns-in_default-clause-answer
returns-in_default-clause-answer g c =
    let image : List ℕ = (g.D.Disk.moment c.args.disk.now).seen in
    served_none c.args.what.now c.args.stamp (copy_at c.args.packs.now image c.args.file) (sym c.in_default.is ∙ c.head.ensures image c.requires.shown)

pub returns-then-not-same_stamp-clause-answer : goal.returns-then-not-same_stamp-clause-answer
returns-then-not-same_stamp-clause-answer g c =
    let image : List ℕ = (g.D.Disk.moment c.args.disk.now).seen in
    served_other c.args.what.now c.args.stamp (copy_at c.args.packs.now image c.args.file) c.in-Some.copy (sym c.in-Some.is ∙ c.head.ensures image c.requires.shown) (sym c.same_stamp.ensures ∙ c.if-not-same_stamp.true)

pub returns-clause-answer : goal.returns-clause-answer
returns-clause-answer g c =
    let image : List ℕ = (g.D.Disk.moment c.args.disk.now).seen in
    c.in_ok-answer.ensures
    ∙ (ap (λ (bytes : List ℕ). served_content c.args.what.now bytes) c.in_ok-read.ensures.content
    ∙ served_same c.args.what.now c.args.stamp (copy_at c.args.packs.now image c.args.file) c.in-Some.copy (sym c.in-Some.is ∙ c.head.ensures image c.requires.shown) (sym c.same_stamp.ensures ∙ c.if-not-same_stamp.false))

pub returns-in_err-read-clause-fit : goal.returns-in_err-read-clause-fit
returns-in_err-read-clause-fit g c = refused_read c.in_err-read.field-0.0 c.from_residual.result c.from_residual.ensures.1

pub returns-in_err-answer-clause-fit : goal.returns-in_err-answer-clause-fit
returns-in_err-answer-clause-fit g c = memory_fit c.from_residual-in_err-answer.result c.from_residual-in_err-answer.ensures.1
