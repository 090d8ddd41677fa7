-- Tests that pass at each moment of a trace, in the order in which its records are printed.
use Rattle.std.proofs.Common.{◌≡◌, Bool, true, [], ◌∷◌, refl, ap, ◌∙◌}
use Rattle.std.specs.Prelude.{reverse}
use Rattle.locus_ids.specs.declared.config.Config.{Config}
use Rattle.trace_book.specs.declared.entry.Entry.{Entry}
use Rattle.trace_book.specs.declared.record.Record.{Record}
use Rattle.tree_model.specs.Folds.{Trace}
use Rattle.promises.specs.Headline.{always}
use Rattle.promises.specs.Past.{Past, nothing_yet}
use Rattle.promises.specs.After.{after}
use Rattle.promises.specs.Traces.{each}
use Rattle.past_laws.specs.Agreement.{past}
use Rattle.past_laws.proofs.Agreeing.{each_last, past_reversed, reverse_more}

-- of each record with those before it
abbrev pub OfEach : (Entry → Trace → Type 0) → Trace → Type 0
OfEach P [] = Unit {0}
OfEach P (r ∷ before) = P r before × OfEach P before

pub each_of : (passes : Past → Record → Bool) (c : Config) (trace : Trace) → OfEach (λ r before. passes (past c before) r.what ≡ true) trace → each passes c (nothing_yet c) (reverse trace) ≡ true
each_of passes c [] k = refl
each_of passes c (r ∷ before) k = ap (each passes c (nothing_yet c)) (reverse_more r before)
    ∙ each_last passes c (reverse before) (nothing_yet c) r (each_of passes c before k.1) (ap (λ (p : Past). passes p r.what) (past_reversed c before) ∙ k.0)

-- and after each record
pub always_of : (passes : Past → Bool) (c : Config) (trace : Trace) → OfEach (λ r before. passes (past c (r ∷ before)) ≡ true) trace → always passes c (reverse trace) ≡ true
always_of passes c trace k = each_of (λ p r. passes (after c r p)) c trace k

pub of_each : {P Q : Entry → Trace → Type 0} → ((r : Entry) (before : Trace) → P r before → Q r before) → (trace : Trace) → OfEach P trace → OfEach Q trace
of_each f [] k = tt
of_each f (r ∷ before) k = (f r before k.0, of_each f before k.1)
