-- A slot is its bytes, both ways.
use Rattle.std.proofs.Common.{◌≡◌, ℕ, suc, ◌^◌, ◌<◌, ◌≤◌, ◌⊎◌, inl, inr, true, List, [], ◌∷◌, ◌++◌, length, get_or, min, replicate, Result, Ok, Err, Option, Some, refl, sym, ap, ◌∙◌, arith}
use Rattle.std.specs.List.{flat_map}
use Rattle.std.specs.Result.{IfOk}
use Rattle.std.specs.Int.{w16, w32, to_be_bytes}
use Rattle.std.proofs.lemmas.Bool.{le-leb, cases_lt}
use Rattle.locus_ids.specs.Sizes.{sites_max, slot_pages, content_tables_max, pack_pages, pack_tables}
use Rattle.locus_ids.specs.declared.ids.Kind.{Kind}
use Rattle.locus_ids.specs.declared.ids.Kind.TheVariants.{File, Dir}
use Rattle.field_codec.specs.declared.faults.FieldFault.{FieldFault}
use Rattle.field_codec.specs.Codec.{Codec, AreBytes, u16, u32, from_to, whole}
use Rattle.field_codec.specs.Lists.{AllFit}
use Rattle.field_codec.proofs.Laws.{whole_takes, whole_again}
use Rattle.field_codec.proofs.Loop.{spelled_alike}
use Rattle.pack_layout.specs.declared.slot.Slot.{Slot}
use Rattle.pack_layout.specs.declared.slot.BadSlot.{BadSlot}
use Rattle.stored_versions.specs.of_file_content.Pages.{pages_of, tables_of}
use Rattle.pack_layout.specs.Layout.{layout, open_gate, kind_number, slot_bytes, IsSlot, NameApart}
use Rattle.pack_layout.specs.Fields.{repeated, kinds, slots}
use Rattle.pack_layout.proofs.Laws.{slots_laws}

kinds_spelled : (k : Kind) → kinds.spell k ≡ kind_number k ∷ []
kinds_spelled File = refl
kinds_spelled Dir = refl

repeated_spelled : (n : ℕ) (c : Codec ℕ) (xs : List ℕ) → (repeated n c).spell xs ≡ flat_map c.spell xs
repeated_spelled n c xs =
    let start : Unit {0} = tt in
    spelled_alike (λ (_ : Unit {0}). c) (λ _ _. start) c.spell (λ _ _. refl) start xs

spelled : (s : Slot) → slots.spell s ≡ slot_bytes s
spelled s =
    let body : List ℕ → List ℕ → List ℕ → List ℕ → List ℕ = λ kind vector pages tables.
    open_gate ∷ s.turn ∷ (kind ++ (to_be_bytes w16 s.ino ++ (to_be_bytes w16 s.set.0 ++ (to_be_bytes w32 s.size ++ ((s.stamp.site ∷ to_be_bytes w32 s.stamp.n) ++ (vector ++ (pages ++ (tables ++ replicate layout.rest_length 0)))))))) in
    let v : List ℕ = (repeated sites_max u32).spell s.vector in
    let p : List ℕ = (repeated slot_pages u16).spell s.pages in
    let t : List ℕ = (repeated content_tables_max u16).spell s.tables in
    let one : body (kinds.spell s.kind) v p t ≡ body (kind_number s.kind ∷ []) v p t = ap (λ (k : List ℕ). body k v p t) (kinds_spelled s.kind) in
    one ∙ ap (λ (x : List ℕ). body (kind_number s.kind ∷ []) x p t) (repeated_spelled sites_max u32 s.vector)
    ∙ ap (λ (x : List ℕ). body (kind_number s.kind ∷ []) (flat_map u32.spell s.vector) x t) (repeated_spelled slot_pages u16 s.pages)
    ∙ ap (λ (x : List ℕ). body (kind_number s.kind ∷ []) (flat_map u32.spell s.vector) (flat_map u16.spell s.pages) x) (repeated_spelled content_tables_max u16 s.tables)

kinds_fit : (k : Kind) → kinds.Fits k
kinds_fit File = (omega arith, refl, (refl, tt))
kinds_fit Dir = (omega arith, refl, (refl, tt))

all_fit : (c : Codec ℕ) (xs : List ℕ) → ((i : ℕ) → i < length xs → c.Fits (get_or xs i 0)) → let start : Unit {0} = tt in AllFit (λ (_ : Unit {0}). c) (λ _ _. start) start xs
all_fit c [] h = tt
all_fit c (x ∷ xs) h = (h 0 (omega arith), all_fit c xs (λ i lt. h (suc i) (omega arith)))

turn_fits : (n : ℕ) → n ≤ 2 → from_to 0 2 n ≡ true
turn_fits n le = rw (le-leb 0 n (omega arith), le-leb n 2 le) refl

stamp_fits : (site n : ℕ) → ((site ≡ 0) × (n ≡ 0)) ⊎ ((1 ≤ site) × (site ≤ sites_max) × (1 ≤ n) × (n < 2 ^ 32)) → (site < 2 ^ 8) × (n < 2 ^ 32)
stamp_fits site n (inl p) = (omega (arith, p.0), omega (arith, p.1))
stamp_fits site n (inr p) = (omega (arith, p.1), p.3)

numbers_fit : (most limit n : ℕ) (numbers : List ℕ) → limit ≤ 65536 → NameApart most limit n numbers → (i : ℕ) → i < length numbers → get_or numbers i 0 < 2 ^ 16
numbers_fit most limit n numbers low p i lt = elim (cases_lt i n) [
  | inl few ↦ omega (arith, low, p.inside i few)
  | inr le ↦ omega (arith, p.rest i le (omega (arith, p.count)))
]

fits : (s : Slot) → IsSlot s → slots.Fits s
fits s h =
    let v = h.vector in
    let p = h.pages in
    let sites : sites_max ≡ length s.vector = sym v.count in
    let t = h.tables in
    let pages : slot_pages ≡ length s.pages = sym p.count in
    let tables : content_tables_max ≡ length s.tables = sym t.count in (
      tt,
      (
        (turn_fits s.turn h.turn, omega (arith, h.turn)),
        (
          kinds_fit s.kind,
          (
            omega (arith, h.high),
            (
              h.sites,
              (
                omega (arith, h.size),
                (
                  stamp_fits s.stamp.site s.stamp.n h.stamp,
                  (((sites, tt), all_fit u32 s.vector (λ i lt. v.each i)), (((pages, tt), all_fit u16 s.pages (numbers_fit slot_pages pack_pages (min (pages_of s.size) slot_pages) s.pages (omega arith) p)), (((tables, tt), all_fit u16 s.tables (numbers_fit content_tables_max pack_tables (tables_of (pages_of s.size)) s.tables (omega arith) t)), tt))),
                ),
              ),
            ),
          ),
        ),
      ),
    )

-- what is read is a slot's bytes
pub found : (bytes : List ℕ) (s : Slot) → AreBytes bytes → whole slots bytes ≡ Ok s → bytes ≡ slot_bytes s
found bytes s h e = (whole_takes slots_laws bytes s h e).1 ∙ spelled s

pub found_in : (bytes : List ℕ) (r : Result Slot FieldFault) → AreBytes bytes → r ≡ whole slots bytes → IfOk r (λ s. bytes ≡ slot_bytes s)
found_in bytes (Ok s) h e = found bytes s h (sym e)
found_in bytes (Err d) h e = tt

-- a slot's bytes are read as that slot
pub only : (bytes : List ℕ) (s : Slot) → bytes ≡ slot_bytes s → IsSlot s → whole slots bytes ≡ Ok s
only bytes s e h = ap (whole slots) (e ∙ sym (spelled s)) ∙ whole_again slots_laws s (fits s h)

pub differ : (r : Result Slot FieldFault) (d : FieldFault) (s : Slot) → r ≡ Err d → r ≡ Ok s → ⊥
differ r d s a b = absurd cc

pub same_slot : (r : Result Slot FieldFault) (s t : Slot) → r ≡ Ok t → r ≡ Ok s → t ≡ s
same_slot r s t a b = cc

pub same_answer : (s t : Slot) → (let given : Result (Option Slot) BadSlot = Ok (Some t) in given ≡ Ok (Some s)) → t ≡ s
same_answer s t e = cc

pub no_answer : (b : BadSlot) (s : Slot) → (let given : Result (Option Slot) BadSlot = Err b in given ≡ Ok (Some s)) → ⊥
no_answer b s e = absurd cc
