-- Values that are spelled by cases, counted bytes, and fields that fill a frame.
use Rattle.std.specs.Prelude.{ℕ, ◌+◌, ◌<◌, ◌^◌, nat_lt, List, [], ◌∷◌, ◌++◌, length, take, Result, Ok, Err, ◌≡◌, if◌then◌else◌}
use Rattle.field_codec.specs.declared.faults.FieldFault.{FieldFault}
use Rattle.field_codec.specs.declared.faults.FieldFault.TheVariants.{Range}
use Rattle.field_codec.specs.Codec.{Codec, Unread, Read, past, ◌>>=◌, read_fixed, u32, empty}
use Rattle.field_codec.specs.Sums.{Kinds, tagged, variant}
use Rattle.field_codec.specs.Lists.{list}

-- a value beside the codec that spells it
pub record Spelled : Type 1 where
  pub Of : Type 0
  pub codec : Codec Of
  pub value : Of

abbrev pub by : {A : Type 0} → Codec A → A → Spelled
by {A} c x = record { Of = A; codec = c; value = x }

abbrev pub bytes_of : Spelled → List ℕ
bytes_of s = s.codec.spell s.value

abbrev pub IsInRange : Spelled → Type 0
IsInRange s = s.codec.Fits s.value

-- the values of one case, which are made of its fields
abbrev pub case_of : {A B : Type 0} → (B → Spelled) → (A → B) → Codec A → Codec B
case_of {A} fields to c = record {
  Fits = λ b. (a : A) × (to a ≡ b) × c.Fits a;
  spell = λ b. bytes_of (fields b);
  read = λ u. c.read u >>= λ r. Ok (to r.0, r.1);
}

-- a tag byte, and the fields of its case: a tag of no case is out of range at its place
abbrev pub cases : {B : Type 0} → (B → ℕ) → (B → Spelled) → Kinds B → Codec B
cases tag_of fields kinds = record {
  Fits = λ b. IsInRange (fields b);
  spell = λ b. tag_of b ∷ bytes_of (fields b);
  read = (tagged tag_of kinds).read;
}

-- no bytes, and just this value
abbrev pub only : {A : Type 0} → A → Codec A
only v = record { Fits = λ x. x ≡ v; spell = λ _. []; read = λ u. Ok (v, u) }

-- a count, and so many bytes
abbrev pub counted_bytes : Codec ℕ → Codec (List ℕ)
counted_bytes count = record {
  Fits = λ bs. count.Fits (length bs);
  spell = λ bs. count.spell (length bs) ++ bs;
  read = λ u. count.read u >>= λ n. read_fixed n.0 (λ bs. bs) n.1;
}

-- just n items
abbrev pub repeated : {A : Type 0} → ℕ → Codec A → Codec (List A)
repeated n c = list (variant (λ _. n) (λ _. tt) empty) c

-- the next n bytes alone
abbrev pub window : ℕ → Unread → Unread
window n u = record { at = u.at; bytes = take n u.bytes }

-- a length of four bytes, the so many bytes behind it, and what is left then: a length past the end is out of range
abbrev pub read_frame : Unread → Result (Unread × Unread) FieldFault
read_frame u = u32.read u >>= λ n. if nat_lt (length n.1.bytes) n.0 then Err (Range u.at) else Ok (window n.0 n.1, past n.0 n.1)

-- all bytes are read: the first that is left over is out of range
abbrev pub ended : Unread → Result (Unit {0}) FieldFault
ended u = if nat_lt 0 (length u.bytes) then Err (Range u.at) else Ok tt

-- a length, and a value that fills just so many bytes
abbrev pub framed : {A : Type 0} → Codec A → Codec A
framed c = record {
  Fits = λ x. c.Fits x × (length (c.spell x) < 2 ^ 32);
  spell = λ x. u32.spell (length (c.spell x)) ++ c.spell x;
  read = λ u. read_frame u >>= λ f. c.read f.0 >>= λ r. ended r.1 >>= λ _. Ok (r.0, f.1);
}
