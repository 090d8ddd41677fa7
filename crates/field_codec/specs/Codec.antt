-- A codec: which values have bytes, the bytes of each, and how bytes are read, with the fault and its place where they are none.
use Rattle.std.specs.Prelude.{ℕ, ◌+◌, ◌<◌, ◌^◌, Bool, IsTrue, nat_lt, ◌&&◌, nat_le, List, [], ◌∷◌, ◌++◌, length, take, drop, slice_index, replicate, Result, Ok, Err, ◌≡◌, if◌then◌else◌}
use Rattle.std.specs.Int.{w16, w32, from_be_bytes, to_be_bytes}
use Rattle.std.specs.Str.{bytes_eq}
use Rattle.field_codec.specs.declared.faults.FieldFault.{FieldFault}
use Rattle.field_codec.specs.declared.faults.FieldFault.TheVariants.{Short, Range}

-- what is still to be read: its place in the whole, and the bytes from there to the end
pub record Unread : Type 0 where
  pub at : ℕ
  pub bytes : List ℕ

-- what is left after n bytes
abbrev pub past : ℕ → Unread → Unread
past n u = record { at = u.at + n; bytes = drop n u.bytes }

-- what a reader gives: a value and what is left, or the first fault
abbrev pub Read : Type 0 → Type 0
Read A = Result (A × Unread) FieldFault

-- one after the other, up to the first fault
infixl 10 ◌>>=◌
abbrev pub ◌>>=◌ : {A B : Type 0} → Result A FieldFault → (A → Result B FieldFault) → Result B FieldFault
(Ok x) >>= f = f x
(Err e) >>= f = Err e

pub record Codec (A : Type 0) : Type 1 where
  pub Fits : A → Type 0
  pub spell : A → List ℕ
  pub read : Unread → Read A

abbrev pub AreBytes : List ℕ → Type 0
AreBytes bytes = (i : ℕ) → slice_index bytes i < 256

-- reading n bytes as a value: short exactly where fewer are left
unfoldable pub read_fixed : {A : Type 0} → ℕ → (List ℕ → A) → Unread → Read A
read_fixed n value u = if nat_lt (length u.bytes) n then Err (Short u.at) else Ok (value (take n u.bytes), past n u)

-- a field of n bytes
abbrev pub fixed : {A : Type 0} → ℕ → (List ℕ → A) → (A → List ℕ) → (A → Type 0) → Codec A
fixed n value bytes fits = record { Fits = fits; spell = bytes; read = read_fixed n value }

abbrev pub u8 : Codec ℕ
u8 = fixed 1 (λ bs. slice_index bs 0) (λ b. b ∷ []) (λ b. b < 2 ^ 8)

-- the greater bytes first
abbrev pub u16 : Codec ℕ
u16 = fixed 2 (from_be_bytes w16) (to_be_bytes w16) (λ n. n < 2 ^ 16)

abbrev pub u32 : Codec ℕ
u32 = fixed 4 (from_be_bytes w32) (to_be_bytes w32) (λ n. n < 2 ^ 32)

-- n bytes as they stand
abbrev pub slice : ℕ → Codec (List ℕ)
slice n = fixed n (λ bs. bs) (λ bs. bs) (λ bs. (length bs ≡ n) × AreBytes bs)

-- a field that passes a test: out of range at its start exactly where it doesn't
abbrev pub within : {A : Type 0} → (A → Bool) → Codec A → Codec A
within test c = record {
  Fits = λ x. IsTrue (test x) × c.Fits x;
  spell = c.spell;
  read = λ u. c.read u >>= λ r. if test r.0 then Ok r else Err (Range u.at);
}

abbrev pub from_to : ℕ → ℕ → ℕ → Bool
from_to lo hi n = nat_le lo n && nat_le n hi

abbrev pub u8_in : ℕ → ℕ → Codec ℕ
u8_in lo hi = within (from_to lo hi) u8

abbrev pub u16_in : ℕ → ℕ → Codec ℕ
u16_in lo hi = within (from_to lo hi) u16

abbrev pub u32_in : ℕ → ℕ → Codec ℕ
u32_in lo hi = within (from_to lo hi) u32

-- one after the other, where what may follow hangs on what came first
abbrev pub followed_by : {A B : Type 0} → Codec A → (A → Codec B) → Codec (A × B)
followed_by c d = record {
  Fits = λ x. c.Fits x.0 × (d x.0).Fits x.1;
  spell = λ x. c.spell x.0 ++ (d x.0).spell x.1;
  read = λ u. c.read u >>= λ r. (d r.0).read r.1 >>= λ s. Ok ((r.0, s.0), s.1);
}

abbrev pub pair : {A B : Type 0} → Codec A → Codec B → Codec (A × B)
pair c d = followed_by c (λ _. d)

-- a value that is made of parts, and gives them back
abbrev pub made : {A B : Type 0} → (A → B) → (B → A) → Codec A → Codec B
made to from c = record {
  Fits = λ b. c.Fits (from b);
  spell = λ b. c.spell (from b);
  read = λ u. c.read u >>= λ r. Ok (to r.0, r.1);
}

-- reading just these bytes: out of range at their start where others stand
unfoldable pub read_exactly : List ℕ → Unread → Read (Unit {0})
read_exactly text u = read_fixed (length text) (λ bs. bs) u >>= λ r. if bytes_eq r.0 text then Ok (tt, r.1) else Err (Range u.at)

abbrev pub exactly : List ℕ → Codec (Unit {0})
exactly text = record { Fits = λ _. Unit {0}; spell = λ _. text; read = read_exactly text }

-- no bytes
abbrev pub empty : Codec (Unit {0})
empty = record { Fits = λ _. Unit {0}; spell = λ _. []; read = λ u. Ok (tt, u) }

abbrev pub zeros : ℕ → Codec (Unit {0})
zeros n = exactly (replicate n 0)

-- all of the bytes: out of range at the first that is left over
abbrev pub whole : {A : Type 0} → Codec A → List ℕ → Result A FieldFault
whole c bytes = c.read (record { at = 0; bytes = bytes }) >>= λ r. if nat_lt 0 (length r.1.bytes) then Err (Range r.1.at) else Ok r.0
