-- What a mend of an instance's group works on.
use Rattle.std.proofs.Common.{◌≡◌, ℕ, List, Option, None, Some, unwrap_or, refl, sym, ap, ◌∙◌}
use Rattle.std.specs.Option.{option_map}
use Rattle.std.specs.Prelude.{Result, Ok, Err, IfOk}
use Rattle.locus_ids.specs.declared.ids.Serial.{Serial}
use Rattle.trace_book.specs.declared.operation.Op.{Op}
use Rattle.dir_reconcile.specs.declared.kept.KeptVector.{KeptVector}
use Rattle.role_steps.specs.Adoption.{table_group}
use Rattle.role_steps.specs.Mends.{brought_by, is_mend_in, vectors_of}
use Rattle.role_steps.specs.OperationEffects.{Mending}
use Rattle.role_steps.specs.Operations.{on_op}
use Rattle.role_steps.specs.Storage.{instance_key, instance_of}
use Rattle.role_steps.specs.Tables.{row, first_that}
use Rattle.role_steps.specs.Views.{Frame, Store, Users, serial_key}
use Rattle.role_steps.specs.declared.instances.Instance.{Instance}
use Rattle.role_steps.specs.declared.synchronizing.SyncTable.{SyncTable}
use Rattle.run_laws.specs.of_the_run.Steps.{group_of}
use Rattle.site_parts.specs.Roles.{mending_by}
use Rattle.site_parts.specs.declared.fault.NodeFault.{NodeFault}

-- the work of a mend, for the operation
pub works_mend : (inst : Serial) (o : Op) (ts : List SyncTable) (u : Users) (xs : List Instance) (r : Result Mending NodeFault) → IfOk r (λ work. (s : Store) → s.instances ≡ xs → work ≡ mending_by ts u s inst)
    → IfOk r (λ work. (f : Frame) (k : ℕ) (seen : List ℕ) (s : Store) → s.instances ≡ xs → on_op f work inst k o seen s ≡ on_op f (mending_by ts u s inst) inst k o seen s)
works_mend inst o ts u xs (Ok work) h = λ f k seen s e. ap (λ (m : Mending). on_op f m inst k o seen s) (h s e)
works_mend inst o ts u xs (Err e) h = tt

group_is : (o : Option Instance) → unwrap_or (option_map (λ (i : Instance). i.file.group) o) 0 ≡ group_of o
group_is None = refl
group_is (Some i) = refl

-- what was brought and kept for the group of the instance
pub work_is : (ts : List SyncTable) (u : Users) (s : Store) (xs : List Instance) (inst : Serial) (named : Option ℕ) (group : ℕ) (contents : List (List ℕ)) (kept : List KeptVector) → named ≡ option_map (λ (i : Instance). i.file.group) (row instance_key (serial_key inst) xs) → group ≡ unwrap_or named 0
    → contents ≡ brought_by (first_that (is_mend_in group) u.waiting) → kept ≡ vectors_of (row table_group group ts) → s.instances ≡ xs → ◌≡◌ {A = Mending} (record { contents = contents; kept = kept }) (mending_by ts u s inst)
work_is ts u s xs inst named group contents kept e h c k i =
    ap (λ (cs : List (List ℕ)). record { contents = cs; kept = kept }) c
    ∙ (ap (λ (ks : List KeptVector). record { contents = brought_by (first_that (is_mend_in group) u.waiting); kept = ks }) k
    ∙ ap (λ (g : ℕ). record { contents = brought_by (first_that (is_mend_in g) u.waiting); kept = vectors_of (row table_group g ts) })
    (h ∙ (ap (λ (o : Option ℕ). unwrap_or o 0) (e ∙ ap (λ (ys : List Instance). option_map (λ (j : Instance). j.file.group) (row instance_key (serial_key inst) ys)) (sym i)) ∙ group_is (instance_of s inst))))
