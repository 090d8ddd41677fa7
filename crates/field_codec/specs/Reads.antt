-- What a function read, against what its codec reads.
use Rattle.std.specs.Prelude.{◌≡◌, ℕ, List, Result, Ok, Err}
use Rattle.field_codec.specs.declared.faults.FieldFault.{FieldFault}
use Rattle.field_codec.specs.declared.faults.ReadError.{ReadError}
use Rattle.field_codec.specs.declared.faults.ReadError.TheVariants.{Field, NoMemory}
use Rattle.field_codec.specs.Codec.{Codec, Unread, whole}
use Rattle.field_codec.specs.Shapes.{read_frame}

-- the codec's value and what is left then, or the codec's fault; the value is seen by `view`
abbrev pub Reads : {X A : Type 0} → Codec A → (X → A) → Unread → Result X FieldFault → Unread → Type 0
Reads c view old (Ok x) new = c.read old ≡ Ok (view x, new)
Reads c view old (Err e) new = c.read old ≡ Err e

-- the value or the fault that was to be given, unless memory ran out
abbrev pub Gives : {X A : Type 0} → (X → A) → Result X ReadError → Result A FieldFault → Type 0
Gives view (Ok x) wanted = wanted ≡ Ok (view x)
Gives view (Err (Field e)) wanted = wanted ≡ Err e
Gives view (Err NoMemory) wanted = Unit {0}

-- as Reads, where memory may run out
abbrev pub ReadsInMemory : {X A : Type 0} → Codec A → (X → A) → Unread → Result X ReadError → Unread → Type 0
ReadsInMemory c view old result new = Gives (λ x. (view x, new)) result (c.read old)

-- all of the bytes were read
abbrev pub ReadsWhole : {X A : Type 0} → Codec A → (X → A) → List ℕ → Result X ReadError → Type 0
ReadsWhole c view bytes result = Gives view result (whole c bytes)

-- what stands in the frame, and what is left behind it
abbrev pub ReadsFrame : Unread → Result Unread FieldFault → Unread → Type 0
ReadsFrame old (Ok inner) new = read_frame old ≡ Ok (inner, new)
ReadsFrame old (Err e) new = read_frame old ≡ Err e
