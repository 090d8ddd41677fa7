-- A removed entry has an even count and the greatest count is odd, so each rescue has a number left.
use Rattle.std.proofs.Common.{◌≡◌, ℕ, ◌%◌, ◌==◌, Bool, true, false, cond, not, ◌&&◌, ◌||◌, nat_lt, List, [], ◌∷◌, length, Option, Some, None, refl, ◌∙◌, ap, arith}
use Rattle.std.proofs.lemmas.Bool.Decides.{nat_tests}
use Rattle.std.specs.List.{list_any}
use Rattle.std.specs.Str.{bytes_eq}
use Rattle.role_steps.proofs.of_plain_facts.Tests.{true_false}
use Rattle.locus_ids.specs.declared.refusal.Refusal.TheVariants as refusal
use Rattle.locus_ids.specs.Sizes.{directory_bytes_max}
use Rattle.trace_book.specs.declared.operation.Op.TheVariants as op
use Rattle.trace_book.specs.declared.operation.Outcome.TheVariants as result
use Rattle.file_content.specs.Pages.{pages_needed, pages_replaced}
use Rattle.dir_format.specs.declared.entry.Entry.{Entry}
use Rattle.dir_format.specs.Entries.{max_count}
use Rattle.dir_format.specs.Grammar.{dir_bytes}
use Rattle.tree_model.specs.of_dir_reconcile.declared.kept.KeptVector.{KeptVector}
use Rattle.tree_model.specs.of_dir_reconcile.Rescues.{chosen, is_that, is_to_rescue, rescue_is_spent, rescued, wants_rescue}
use Rattle.file_effects.specs.Effects.{Effect, is_refusal, mends, tells}
use Rattle.file_effects.specs.Works.{result_in}
use Rattle.role_steps.specs.OperationEffects.{Mending, has_several, mend_effect}
use Rattle.store_laws.specs.OneTree.Rest.{IsSpentMend}

-- ---- rescues ----

is_greatest : (n : ℕ) → (n == max_count) ≡ true → n ≡ max_count
is_greatest n h = grind (arith, nat_tests)

greatest_live : (n : ℕ) → n ≡ max_count → ((n % 2) == 1) ≡ true
greatest_live n e = ap (λ (m : ℕ). (m % 2) == 1) e

never : (n : ℕ) (b : Bool) → ((n == max_count) && (not ((n % 2) == 1) && b)) ≡ false
never n b = over (n == max_count) refl
  where
    over : (x : Bool) → (n == max_count) ≡ x → (x && (not ((n % 2) == 1) && b)) ≡ false
    over true e = ap (λ (y : Bool). not y && b) (greatest_live n (is_greatest n e))
    over false e = refl

none_spent : (ds : List Entry) (kept : List KeptVector) (es : List Entry) → list_any (λ (d : Entry). (d.count == max_count) && is_to_rescue ds kept d) es ≡ false
none_spent ds kept [] = refl
none_spent ds kept (d ∷ es) = both (never d.count (wants_rescue ds kept d.ino && is_that (chosen d.ino ds) d)) (none_spent ds kept es)
  where
    both : {a b : Bool} → a ≡ false → b ≡ false → a || b ≡ false
    both {a} {b} p q = ap (λ (x : Bool). x || b) p ∙ q

pub never_spent : (ds : List Entry) (kept : List KeptVector) → rescue_is_spent ds kept ≡ false
never_spent ds kept = none_spent ds kept ds

-- ---- what a mend gives ----

-- where the effect is lawful, its mend isn't refused so
abbrev pub EffectMended : ℕ → List ℕ → Option Effect → Type 0
EffectMended free changed None = Unit {0}
EffectMended free changed (Some e) = IsSpentMend op.Mend (result_in free changed e) → ⊥

result_mended : (free : ℕ) (changed : List ℕ) (e : Effect) → e.spent ≡ false → (IsSpentMend op.Mend e.result → ⊥) → IsSpentMend op.Mend (result_in free changed e) → ⊥
result_mended free changed e unspent fine = by (is_refusal e.result) (nat_lt free (pages_needed e.pages changed)) e.spent unspent
  where
    by : (a b x : Bool) → x ≡ false → IsSpentMend op.Mend (cond a e.result (cond b (result.No (refusal.NoSpace (pages_needed e.pages changed) free)) (cond x (result.No refusal.Spent) e.result))) → ⊥
    by true b x q k = fine k
    by false true x q k = k
    by false false true q k = true_false q
    by false false false q k = fine k

joins_mended : (content : List ℕ) (several : Bool) (joined : List ℕ) → IsSpentMend op.Mend (mends content several joined).result → ⊥
joins_mended content several joined = over (nat_lt directory_bytes_max (length joined))
  where
    over : (b : Bool) → IsSpentMend op.Mend (cond b (tells content (result.No refusal.TooLong)) (record { result = result.Done; content = joined; pages = pages_replaced content joined; counts = several || not (bytes_eq joined content); spent = false })).result → ⊥
    over true k = k
    over false k = k

-- whatever it works on, a mend isn't refused for want of a number
pub mend_mended : (free : ℕ) (changed : List ℕ) (ds : List Entry) (m : Mending) (content : List ℕ) → EffectMended free changed (mend_effect ds m content)
mend_mended free changed ds m content = result_mended free changed (record (mends content (has_several m.contents) (dir_bytes (rescued ds m.kept))) { spent = rescue_is_spent ds m.kept }) (never_spent ds m.kept) (joins_mended content (has_several m.contents) (dir_bytes (rescued ds m.kept)))
