-- What an operation gave and left, against what becomes of the instance where it gives this outcome.
use Rattle.std.proofs.Common.{◌≡◌, ℕ, Bool, true, false, cond, Option, None, Some, refl, sym, ap, ◌∙◌}
use Rattle.role_steps.proofs.of_plain_facts.Options.{none_some, some_same}
use Rattle.trace_book.specs.declared.operation.Outcome.{Outcome}
use Rattle.trace_book.specs.declared.operation.Outcome.TheVariants as outcome
use Rattle.file_effects.specs.Effects.{Effect, is_refusal}
use Rattle.file_effects.specs.Works.{operated, result_in, counted, carried_out}
use Rattle.file_effects.specs.declared.work.Work.{Work}
use Rattle.operation_effects.specs.Settling.{Worked, worked, worked_so}
use Rattle.tree_model.specs.Same.{same_outcome}
use Rattle.tree_acts.specs.Acting.{work_by}

-- the same outcomes are both refusals or neither is
same_refused : (a b : Outcome) → same_outcome a b ≡ true → is_refusal a ≡ is_refusal b
same_refused outcome.Done outcome.Done h = refl
same_refused outcome.Done (outcome.Found i l) h = absurd (let g : false ≡ true = h in cc)
same_refused outcome.Done (outcome.Data bs) h = refl
same_refused outcome.Done (outcome.Committed s) h = refl
same_refused outcome.Done (outcome.No w) h = absurd (let g : false ≡ true = h in cc)
same_refused (outcome.Found ino k) outcome.Done h = refl
same_refused (outcome.Found ino k) (outcome.Found i l) h = refl
same_refused (outcome.Found ino k) (outcome.Data bs) h = refl
same_refused (outcome.Found ino k) (outcome.Committed s) h = refl
same_refused (outcome.Found ino k) (outcome.No w) h = absurd (let g : false ≡ true = h in cc)
same_refused (outcome.Data bytes) outcome.Done h = refl
same_refused (outcome.Data bytes) (outcome.Found i l) h = refl
same_refused (outcome.Data bytes) (outcome.Data bs) h = refl
same_refused (outcome.Data bytes) (outcome.Committed s) h = refl
same_refused (outcome.Data bytes) (outcome.No w) h = absurd (let g : false ≡ true = h in cc)
same_refused (outcome.Committed stamp) outcome.Done h = refl
same_refused (outcome.Committed stamp) (outcome.Found i l) h = refl
same_refused (outcome.Committed stamp) (outcome.Data bs) h = refl
same_refused (outcome.Committed stamp) (outcome.Committed s) h = refl
same_refused (outcome.Committed stamp) (outcome.No w) h = absurd (let g : false ≡ true = h in cc)
same_refused (outcome.No why) outcome.Done h = absurd (let g : false ≡ true = h in cc)
same_refused (outcome.No why) (outcome.Found i l) h = absurd (let g : false ≡ true = h in cc)
same_refused (outcome.No why) (outcome.Data bs) h = absurd (let g : false ≡ true = h in cc)
same_refused (outcome.No why) (outcome.Committed s) h = absurd (let g : false ≡ true = h in cc)
same_refused (outcome.No why) (outcome.No w) h = refl

pub unlawful_so : (free : ℕ) (result : Outcome) (w after : Work) (e : Option Effect) → worked_so None after ≡ worked free w e → None ≡ work_by free result w e
unlawful_so free result w after None h = refl
unlawful_so free result w after (Some e) h = absurd (none_some (result_in free w.changed e) (ap (λ (x : Worked). x.gave) h))

pub other_so : (free : ℕ) (result gave : Outcome) (w after : Work) (e : Option Effect) → worked_so (Some gave) after ≡ worked free w e → same_outcome gave result ≡ false → None ≡ work_by free result w e
other_so free result gave w after None h other = absurd (none_some gave (sym (ap (λ (x : Worked). x.gave) h)))
other_so free result gave w after (Some e) h other =
    let is : gave ≡ result_in free w.changed e = some_same gave (result_in free w.changed e) (ap (λ (x : Worked). x.gave) h) in
    sym (ap (λ (b : Bool). cond b (Some (operated e result w)) None) (ap (λ (o : Outcome). same_outcome o result) (sym is) ∙ other))

pub given_so : (free : ℕ) (result gave : Outcome) (w after : Work) (e : Option Effect) → worked_so (Some gave) after ≡ worked free w e → same_outcome gave result ≡ true → Some after ≡ work_by free result w e
given_so free result gave w after None h same = absurd (none_some gave (sym (ap (λ (x : Worked). x.gave) h)))
given_so free result gave w after (Some e) h same =
    let is : gave ≡ result_in free w.changed e = some_same gave (result_in free w.changed e) (ap (λ (x : Worked). x.gave) h) in
    let left : after ≡ operated e (result_in free w.changed e) w = ap (λ (x : Worked). x.work) h in
    let told : same_outcome (result_in free w.changed e) result ≡ true = ap (λ (o : Outcome). same_outcome o result) (sym is) ∙ same in
    let alike : operated e (result_in free w.changed e) w ≡ operated e result w = ap (λ (b : Bool). cond b (counted w) (carried_out e w)) (same_refused (result_in free w.changed e) result told) in
    ap (λ (x : Work). Some x) (left ∙ alike) ∙ sym (ap (λ (b : Bool). cond b (Some (operated e result w)) None) told)
