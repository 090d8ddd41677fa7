-- An operation that gave a result, and what it left.
use Rattle.std.proofs.Common.{◌≡◌, ℕ, suc, zero, ◌+◌, ◌-◌, ◌*◌, ◌/◌, ◌≤◌, ◌<◌, Bool, true, false, not, cond, ltb, leb, List, [], ◌∷◌, length, refl, sym, ap, ◌∙◌, subst, Some, None, arith}
use Rattle.std.specs.Prelude.{Option, filter, min}
use Rattle.std.specs.Str.{bytes_eq}
use Rattle.std.proofs.lemmas.Slice.Eq.{bytes_eq-Decides}
use Rattle.std.proofs.lemmas.Bool.{leb-true}
use Rattle.locus_ids.specs.Sizes.{file_bytes_max, page_bytes}
use Rattle.trace_book.specs.declared.operation.Outcome.{Outcome}
use Rattle.file_content.specs.Pages.{pages_of, pages_from, pages_between, pages_written, pages_replaced, is_replaced, page_of}
use Rattle.role_steps.specs.of_file_effects.Effects.{Effect, is_refusal}
use Rattle.role_steps.specs.of_file_effects.Works.{result_in, operated, counted, carried_out}
use Rattle.role_steps.specs.of_file_effects.declared.work.Work.{Work}
use Rattle.operation_effects.specs.declared.settled.Settled.{Settled}
use Rattle.operation_effects.specs.Settling.{Worked, worked, worked_so, effect_by}

pub refused_so : (free : ℕ) (w new : Work) (e : Effect) (gave : Outcome) → gave ≡ result_in free w.changed e → is_refusal gave ≡ true → new ≡ counted w → worked_so (Some gave) new ≡ worked free w (Some e)
refused_so free w new e gave is refused left =
    let same : is_refusal (result_in free w.changed e) ≡ true = ap is_refusal (sym is) ∙ refused in
    let after : operated e (result_in free w.changed e) w ≡ counted w = rw same refl in
    ap (λ (r : Outcome). worked_so (Some r) new) is ∙ ap (worked_so (Some (result_in free w.changed e))) (left ∙ sym after)

pub done_so : (free : ℕ) (w new : Work) (e : Effect) (gave : Outcome) → gave ≡ result_in free w.changed e → is_refusal gave ≡ false → new ≡ carried_out e w → worked_so (Some gave) new ≡ worked free w (Some e)
done_so free w new e gave is done left =
    let same : is_refusal (result_in free w.changed e) ≡ false = ap is_refusal (sym is) ∙ done in
    let after : operated e (result_in free w.changed e) w ≡ carried_out e w = rw same refl in
    ap (λ (r : Outcome). worked_so (Some r) new) is ∙ ap (worked_so (Some (result_in free w.changed e))) (left ∙ sym after)

-- how many pages an operation changes at most

length-from : (first more : ℕ) → length (pages_from first more) ≡ more
length-from first zero = refl
length-from first (suc more) = ap suc (length-from (first + 1) more)

few_by : (b : Bool) (from end : ℕ) → end ≤ file_bytes_max → length (cond b (pages_from (from / page_bytes) (pages_of end - from / page_bytes)) []) ≤ 65535
few_by true from end h = omega (arith, length-from (from / page_bytes) (pages_of end - from / page_bytes))
few_by false from end h = omega arith

pub few_written : (content : List ℕ) (at : ℕ) (bytes : List ℕ) → at + length bytes ≤ file_bytes_max → length (pages_written content at bytes) ≤ 65535
few_written content at bytes h = few_by (ltb (min at (length content)) (at + length bytes)) (min at (length content)) (at + length bytes) h

filtered_by : (b : Bool) (p : ℕ) (ps qs : List ℕ) → length qs ≤ length ps → length (cond b (p ∷ qs) qs) ≤ length (p ∷ ps)
filtered_by true p ps qs h = omega (arith, h)
filtered_by false p ps qs h = omega (arith, h)

filter_few : (test : ℕ → Bool) (ps : List ℕ) → length (filter test ps) ≤ length ps
filter_few test [] = omega arith
filter_few test (p ∷ ps) = filtered_by (test p) p ps (filter test ps) (filter_few test ps)

pub few_replaced : (old new : List ℕ) → length new ≤ file_bytes_max → length (pages_replaced old new) ≤ 65535
few_replaced old new h = omega (arith, filter_few (is_replaced old new) (pages_from 0 (pages_of (length new))), length-from 0 (pages_of (length new)))

same_bytes : (xs : List ℕ) → bytes_eq xs xs ≡ true
same_bytes xs = (bytes_eq-Decides xs xs).1 refl

none_passes : (test : ℕ → Bool) (ps : List ℕ) → ((p : ℕ) → test p ≡ false) → filter test ps ≡ []
none_passes test [] h = refl
none_passes test (p ∷ ps) h = rw (h p) (none_passes test ps h)

-- a content in its own place changes no page
pub nothing_replaced : (content : List ℕ) → pages_replaced content content ≡ []
nothing_replaced content = none_passes (is_replaced content content) (pages_from 0 (pages_of (length content))) (λ p. ap not (same_bytes (page_of content p)))

abbrev pub leaves : List ℕ → Outcome → Bool → Bool → List ℕ → Effect
leaves content outcome counts spent pages = record { result = outcome; content = content; pages = pages; counts = counts; spent = spent }

-- where the content is kept
pub kept_effect : (content : List ℕ) (outcome : Outcome) (counts spent : Bool)
    → effect_by content (record { outcome = outcome; left = None; counts = counts; spent = spent }) ≡ leaves content outcome counts spent []
kept_effect content outcome counts spent = ap (leaves content outcome counts spent) (nothing_replaced content)

pub keeps_so : (content : List ℕ) (s : Settled) → s.left ≡ None → leaves content s.outcome s.counts s.spent [] ≡ effect_by content s
keeps_so content s none = ap (leaves content s.outcome s.counts s.spent) (sym (nothing_replaced content)) ∙ by s.left none where
  by : (left : Option (List ℕ)) → left ≡ None → leaves content s.outcome s.counts s.spent (pages_replaced content content) ≡ effect_by content (record s { left = left })
  by None e = refl
  by (Some new) e = absurd cc

-- what fits ends within the greatest size
pub fits_so : (b : Bool) (end : ℕ) → b ≡ leb end file_bytes_max → b ≡ true → end ≤ file_bytes_max
fits_so b end is h = leb-true end file_bytes_max (sym is ∙ h)
