use Rattle.std.proofs.Common.{◌≡◌, ◌∙◌, List, IfSome, sym, subst, ap}
use Rattle.dir_reconcile.specs.declared.kept.KeptVector.{KeptVector}
use Rattle.role_steps.specs.Mends.{kept_vectors, vectors_of}
use Rattle.role_steps.specs.Adoption.{table_group}
use Rattle.role_steps.specs.Tables.{row}
use Rattle.std.specs.Option.{option_copied}
use Rattle.std.specs.Prelude.{ℕ}
use Rattle.std.proofs.Common.{Some}
use Rattle.std.specs.Prelude.{IfNone}
use Rattle.role_steps.specs.declared.synchronizing.SyncTable.{SyncTable}
use Rattle.std.specs.Prelude.{Option}
use Rattle.site_mends.specs.of_site_tables.Inodes.{AreInodes}
use Rattle.site_parts.specs.Fitting.{AreInodesOf}
use Rattle.site_parts.proofs.Fits.{memory_fit}
use Rattle.site_parts.proofs.mending.vectors_of.Goals as goal

pub returns-in_default-clause-kept : goal.returns-in_default-clause-kept
returns-in_default-clause-kept c = c.new.ensures ∙ ap vectors_of (sym (ap (λ o. option_copied o) c.in_default.is) ∙ (c.find.ensures ∙ ap (λ (k : ℕ). row table_group k c.args.tables.now) c.from.ensures))

pub returns-in-Some-2-clause-kept : goal.returns-in-Some-2-clause-kept
returns-in-Some-2-clause-kept c =
    let kept : c.in-Some-2.vectors ≡ kept_vectors c.in-Some.table.now = subst (λ o. IfSome o (λ (vectors : List KeptVector). vectors ≡ kept_vectors c.in-Some.table.now)) c.in-Some-2.is c.in_ok-vectors.ensures.vectors in
    kept ∙ ap vectors_of (ap (λ o. option_copied o) (sym c.in-Some.is) ∙ (c.find.ensures ∙ ap (λ (k : ℕ). row table_group k c.args.tables.now) c.from.ensures))

pub returns-in_err-vectors-clause-unfit : goal.returns-in_err-vectors-clause-unfit
returns-in_err-vectors-clause-unfit c so can = memory_fit c.from_residual.result c.from_residual.ensures.1 so

pub returns-in-None-clause-unfit : goal.returns-in-None-clause-unfit
returns-in-None-clause-unfit c so can =
    let there : Some c.in-Some.table.now ≡ row table_group c.args.group c.args.tables.now = ap (λ o. option_copied o) (sym c.in-Some.is) ∙ (c.find.ensures ∙ ap (λ (k : ℕ). row table_group k c.args.tables.now) c.from.ensures) in
    let none : AreInodes c.in-Some.table.now → ⊥ = subst (λ (o : Option (List KeptVector)). IfNone o (AreInodes c.in-Some.table.now → ⊥)) c.in-None.is c.in_ok-vectors.ensures.none in
    none (subst (λ (o : Option SyncTable). AreInodesOf o) (sym there) can)
