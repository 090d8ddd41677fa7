-- What a mend gives.
use Rattle.std.proofs.Common.{◌≡◌, ℕ, ◌<◌, ◌==◌, Bool, true, false, not, ◌&&◌, ◌||◌, ltb, List, [], ◌∷◌, length, refl, sym, ap, ◌∙◌, Some, None, arith}
use Rattle.std.specs.List.{list_any}
use Rattle.std.specs.Str.{bytes_eq}
use Rattle.std.proofs.lemmas.Bool.Decides.{nat_tests}
use Rattle.locus_ids.specs.Sizes.{file_bytes_max, directory_bytes_max}
use Rattle.locus_ids.specs.declared.refusal.Refusal.TheVariants as refusal
use Rattle.trace_book.specs.declared.operation.Outcome.TheVariants as outcome
use Rattle.dir_format.specs.declared.entry.Entry.{Entry}
use Rattle.dir_format.specs.Entries.{is_live, max_count}
use Rattle.dir_format.specs.Grammar.{dir_bytes}
use Rattle.dir_reconcile.specs.declared.kept.KeptVector.{KeptVector}
use Rattle.dir_reconcile.specs.Rescues.{is_to_rescue, rescued, rescue_is_spent}
use Rattle.role_steps.specs.of_file_effects.Effects.{Effect, mends, puts}
use Rattle.role_steps.specs.OperationEffects.{Mending, has_several, joined_contents, mend_effect, or_spent}
use Rattle.operation_effects.specs.Settling.{effect_by}
use Rattle.operation_effects.proofs.Judged.{kept_effect}

none_passes : (test : Entry → Bool) (ds : List Entry) → ((d : Entry) → test d ≡ false) → list_any test ds ≡ false
none_passes test [] h = refl
none_passes test (d ∷ ds) h = rw (h d) (none_passes test ds h)

spent_by : (ds : List Entry) (kept : List KeptVector) (d : Entry) (b : Bool) → (d.count == max_count) ≡ b → (b && is_to_rescue ds kept d) ≡ false
spent_by ds kept d true e =
    let greatest : d.count ≡ 4294967295 = grind (arith, nat_tests) in
    let lives : is_live d ≡ true = rw greatest refl in
    rw lives refl
spent_by ds kept d false e = refl

-- the greatest count is odd, so that an entry which has it is live
pub never_spent : (ds : List Entry) (kept : List KeptVector) → rescue_is_spent ds kept ≡ false
never_spent ds kept = none_passes (λ d. (d.count == max_count) && is_to_rescue ds kept d) ds (λ d. spent_by ds kept d (d.count == max_count) refl)

unspent_by : (e : Effect) (spent : Bool) → e.spent ≡ spent → Some e ≡ or_spent spent (Some e)
unspent_by e spent h = ap (λ (s : Bool). Some (record e { spent = s })) h

puts_by : (b : Bool) (old new : List ℕ) (counts : Bool) → ltb directory_bytes_max (length new) ≡ b → (puts old new counts).spent ≡ false
puts_by true old new counts e = rw e refl
puts_by false old new counts e = rw e refl

pub mended_so : (content : List ℕ) (ds : List Entry) (m : Mending) → Some (mends content (has_several m.contents) (dir_bytes (rescued ds m.kept))) ≡ mend_effect ds m content
mended_so content ds m =
    let new : List ℕ = dir_bytes (rescued ds m.kept) in
    let counts : Bool = has_several m.contents || not (bytes_eq new content) in
    unspent_by (mends content (has_several m.contents) new) (rescue_is_spent ds m.kept) (puts_by (ltb directory_bytes_max (length new)) content new counts refl ∙ sym (never_spent ds m.kept))

pub too_long_so : (content joined : List ℕ) (several : Bool) → file_bytes_max < length joined
    → effect_by content (record { outcome = outcome.No refusal.TooLong; left = None; counts = false; spent = false }) ≡ mends content several joined
too_long_so content joined several h =
    let over : ltb directory_bytes_max (length joined) ≡ true = grind (arith, nat_tests) in
    kept_effect content (outcome.No refusal.TooLong) false false ∙ rw over refl

pub mended_with : (content : List ℕ) (joined : List Entry) (m : Mending) (several : Bool) (bytes : List ℕ) → several ≡ has_several m.contents → joined ≡ joined_contents m.contents → bytes ≡ dir_bytes (rescued joined m.kept)
    → Some (mends content several bytes) ≡ mend_effect (joined_contents m.contents) m content
mended_with content joined m several bytes s j b =
    let made : bytes ≡ dir_bytes (rescued (joined_contents m.contents) m.kept) = b ∙ ap (λ (ds : List Entry). dir_bytes (rescued ds m.kept)) j in
    ap (λ (t : Bool). Some (mends content t bytes)) s ∙ ap (λ (new : List ℕ). Some (mends content (has_several m.contents) new)) made ∙ mended_so content (joined_contents m.contents) m
