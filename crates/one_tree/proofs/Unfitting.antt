-- What the tree tells nothing of, by what its parts tell.
use Rattle.std.proofs.Common.{◌≡◌, ◌≤◌, ℕ, Bool, List, inl, inr, length, Result, Err, refl, sym, ◌∙◌}
use Rattle.locus_ids.specs.declared.ids.EpochId.{EpochId}
use Rattle.locus_ids.specs.declared.ids.Serial.{Serial}
use Rattle.commit_graph.specs.declared.history.Version.{Version}
use Rattle.trace_book.specs.declared.operation.Op.{Op}
use Rattle.trace_book.specs.declared.operation.Outcome.{Outcome}
use Rattle.trace_book.specs.declared.record.Record.{Record}
use Rattle.trace_book.specs.declared.record.Record.TheVariants.{Act}
use Rattle.tree_model.specs.State.{TreeState, instance_in}
use Rattle.tree_acts.specs.Unfit.{IsUnfitAct}
use Rattle.tree_acts.specs.declared.fault.ActFault.{ActFault}
use Rattle.tree_acts.specs.declared.fault.ActFault.TheVariants as act
use Rattle.one_tree.specs.Unfit.{IsUnfit, IsUnfitRecord, fault_of_act}
use Rattle.one_tree.specs.declared.applied.Applied.{Applied}
use Rattle.one_tree.specs.declared.applied.TreeFault.{TreeFault}
use Rattle.one_tree.specs.declared.applied.TreeFault.TheVariants as fault

same_fault : (a b : TreeFault) → ◌≡◌ {A = Result Applied TreeFault} (Err a) (Err b) → a ≡ b
same_fault a b e = cc

never_memory : fault.NoMemory ≡ fault.Unfit → ⊥
never_memory e = cc

by_act : (refused : ActFault) {A : Type 0} → fault_of_act refused ≡ fault.Unfit → (◌≡◌ {A = Result Bool ActFault} (Err refused) (Err act.Unfit) → A) → A
by_act act.Unfit e unfit = unfit refl
by_act act.NoMemory e unfit = absurd (never_memory e)

-- an act of which nothing is told, for another cause than memory
pub refused_so : (told : TreeFault) (refused : ActFault) (h : List Version) (t : TreeState) (e : EpochId) (i : Serial) (n : ℕ) (o : Op) (result : Outcome)
    → told ≡ fault_of_act refused → (◌≡◌ {A = Result Bool ActFault} (Err refused) (Err act.Unfit) → IsUnfitAct h t o (instance_in t i))
    → ◌≡◌ {A = Result Applied TreeFault} (Err told) (Err fault.Unfit) → IsUnfitRecord h t (Act e i n o result)
refused_so told refused h t e i n o result is unfit err = by_act refused (sym is ∙ same_fault told fault.Unfit err) unfit

pub full_so : (h : List Version) (t : TreeState) (r : Record) → 4294967295 ≤ length h → IsUnfit h t r
full_so h t r full = inl full

pub record_so : (h : List Version) (t : TreeState) (r : Record) → IsUnfitRecord h t r → IsUnfit h t r
record_so h t r unfit = inr unfit
