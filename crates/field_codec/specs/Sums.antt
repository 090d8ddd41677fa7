-- Values of several kinds, told apart by a tag byte.
use Rattle.std.specs.Prelude.{ℕ, ◌<◌, ◌^◌, Bool, true, false, IsTrue, ◌==◌, ◌||◌, [], ◌∷◌, Ok, Err, ◌≡◌, if◌then◌else◌}
use Rattle.field_codec.specs.declared.faults.FieldFault.TheVariants.{Range}
use Rattle.field_codec.specs.Codec.{Codec, ◌>>=◌, u8}

-- the values of one kind: `to` makes one of its fields, `from` gives these back (of a value of another kind it gives anything)
abbrev pub variant : {A B : Type 0} → (A → B) → (B → A) → Codec A → Codec B
variant to from c = record {
  Fits = λ b. (to (from b) ≡ b) × c.Fits (from b);
  spell = λ b. c.spell (from b);
  read = λ u. c.read u >>= λ r. Ok (to r.0, r.1);
}

-- no value at all
abbrev pub nothing : {A : Type 0} → Codec A
nothing = record { Fits = λ _. ⊥; spell = λ _. []; read = λ u. Err (Range u.at) }

-- the tags that may stand, and what stands behind each
pub record Kinds (A : Type 0) : Type 1 where
  pub has : ℕ → Bool
  pub body : ℕ → Codec A

abbrev pub no_kind : {A : Type 0} → Kinds A
no_kind = record { has = λ _. false; body = λ _. nothing }

abbrev pub choose : {A : Type 0} → Bool → Codec A → Codec A → Codec A
choose true c d = c
choose false c d = d

-- one kind more: behind the tag n stands what c spells
abbrev pub kind : {A : Type 0} → ℕ → Codec A → Kinds A → Kinds A
kind n c others = record {
  has = λ tag. (tag == n) || others.has tag;
  body = λ tag. choose (tag == n) c (others.body tag);
}

-- a tag, and what stands behind it: a tag of no kind is out of range at its place
abbrev pub tagged : {A : Type 0} → (A → ℕ) → Kinds A → Codec A
tagged tag_of kinds = record {
  Fits = λ x. (tag_of x < 2 ^ 8) × IsTrue (kinds.has (tag_of x)) × (kinds.body (tag_of x)).Fits x;
  spell = λ x. tag_of x ∷ (kinds.body (tag_of x)).spell x;
  read = λ u. u8.read u >>= λ r. if kinds.has r.0 then (kinds.body r.0).read r.1 else Err (Range u.at);
}
