-- Counted lists. Which items may follow hangs on a state, which each item moves on.
use Rattle.std.specs.Prelude.{ℕ, zero, suc, ◌+◌, nat_le, List, [], ◌∷◌, ◌++◌, length, Ok}
use Rattle.field_codec.specs.Codec.{Codec, Unread, Read, ◌>>=◌, within}

module _ {A P : Type 0} (item : P → Codec A) (next : P → A → P) where
  abbrev pub AllFit : P → List A → Type 0
  AllFit p [] = Unit {0}
  AllFit p (x ∷ xs) = (item p).Fits x × AllFit (next p x) xs

  abbrev pub spell_all : P → List A → List ℕ
  spell_all p [] = []
  spell_all p (x ∷ xs) = (item p).spell x ++ spell_all (next p x) xs

  -- so many items
  unfoldable pub read_times : P → ℕ → Unread → Read (List A)
  read_times p zero u = Ok ([], u)
  read_times p (suc n) u = (item p).read u >>= λ r. read_times (next p r.0) n r.1 >>= λ s. Ok (r.0 ∷ s.0, s.1)

  -- a count, and so many items
  abbrev pub counted : Codec ℕ → P → Codec (List A)
  counted count p = record {
    Fits = λ xs. count.Fits (length xs) × AllFit p xs;
    spell = λ xs. count.spell (length xs) ++ spell_all p xs;
    read = λ u. count.read u >>= λ n. read_times p n.0 n.1;
  }

-- a list with no tie between its items
abbrev pub list : {A : Type 0} → Codec ℕ → Codec A → Codec (List A)
list count c = counted (λ (_ : Unit {0}). c) (λ _ _. tt) count tt

-- a list whose items' keys ascend: an item whose key doesn't is out of range at its start
abbrev pub ascending : {A : Type 0} → (A → ℕ) → Codec ℕ → Codec A → Codec (List A)
ascending key count c = counted (λ (floor : ℕ). within (λ x. nat_le floor (key x)) c) (λ _ x. key x + 1) count 0
