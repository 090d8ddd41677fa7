-- All of the bytes are read as the entries of a directory exactly where they are its content.
use Rattle.std.proofs.Common.{◌≡◌, ℕ, zero, suc, ◌+◌, ◌≤◌, ◌==◌, Bool, true, false, List, [], ◌∷◌, ◌++◌, length, Ok, Err, refl, sym, ap, ◌∙◌, subst, if◌then◌else◌, arith}
use Rattle.std.proofs.lemmas.Bool.Decides.{nat_tests}
use Rattle.std.proofs.lemmas.List.{length-append, nil_from_length}
use Rattle.field_codec.specs.declared.faults.FieldFault.{FieldFault}
use Rattle.field_codec.specs.Codec.{Unread, Read, ◌>>=◌, AreBytes}
use Rattle.field_codec.proofs.Laws.{rest_at, bind_ok, ok_is}
use Rattle.dir_format.specs.declared.entry.Entry.{Entry}
use Rattle.dir_format.specs.Grammar.{entry_bytes, dir_bytes, entry_after, read_entries, read_dir, IsDirectory}
use Rattle.dir_format.proofs.Fields.{entry_laws, spell-entry_after}
use Rattle.dir_format.proofs.Following.{AllFollow, follows_from_fits, fits_from_follows, dir_from_follow, follow_from_dir}

-- an entry has bytes
pub some_bytes : (d : Entry) (rest : List ℕ) → suc (length rest) ≤ length (entry_bytes d ++ rest)
some_bytes d rest = omega (arith, length-append (entry_bytes d) rest)

abbrev next_entries : ℕ → List Entry → Unread → Read (List Entry)
next_entries most before u = (entry_after before).read u >>= λ d. read_entries most (d.0 ∷ before) d.1 >>= λ ds. Ok (d.0 ∷ ds.0, ds.1)

abbrev TakesAll : ℕ → Type 0
TakesAll most = (before : List Entry) (u : Unread) (ds : List Entry) (after : Unread) → AreBytes u.bytes → length u.bytes ≤ most → read_entries most before u ≡ Ok (ds, after) → (u.bytes ≡ dir_bytes ds) × AllFollow before ds

module _ (most : ℕ) (others : TakesAll most) (before : List Entry) (u : Unread) (ds : List Entry) (after : Unread) where
  one_more : AreBytes u.bytes → length u.bytes ≤ suc most → (b : Bool) → (length u.bytes == 0) ≡ b → (if b then Ok ([], u) else next_entries most before u) ≡ Ok (ds, after) → (u.bytes ≡ dir_bytes ds) × AllFollow before ds
  one_more h long true none k =
      let empty : length u.bytes ≡ 0 = grind (arith, nat_tests, none) in
      subst (λ (y : List Entry × Unread). (u.bytes ≡ dir_bytes y.0) × AllFollow before y.0) (ok_is ([], u) (ds, after) k) (nil_from_length u.bytes empty, tt)
  one_more h long false some k =
      let a = bind_ok ((entry_after before).read u) (λ d. read_entries most (d.0 ∷ before) d.1 >>= λ xs. Ok (d.0 ∷ xs.0, xs.1)) (ds, after) k in
      let b = bind_ok (read_entries most (a.0.0 ∷ before) a.0.1) (λ xs. Ok (a.0.0 ∷ xs.0, xs.1)) (ds, after) a.2 in
      let first = (entry_laws before).takes u a.0.0 a.0.1 h a.1 in
      let parts : u.bytes ≡ entry_bytes a.0.0 ++ a.0.1.bytes = first.0.parts ∙ ap (λ (t : List ℕ). t ++ a.0.1.bytes) (spell-entry_after before a.0.0) in
      let shorter : length a.0.1.bytes ≤ most = omega (arith, ap length parts, some_bytes a.0.0 a.0.1.bytes, long) in
      let rest = others (a.0.0 ∷ before) a.0.1 b.0.0 b.0.1 first.0.rest_fits shorter b.1 in
      let made : List Entry × Unread = (a.0.0 ∷ b.0.0, b.0.1) in
      subst (λ (y : List Entry × Unread). (u.bytes ≡ dir_bytes y.0) × AllFollow before y.0) (ok_is made (ds, after) b.2)
      (parts ∙ ap (λ (t : List ℕ). entry_bytes a.0.0 ++ t) rest.0, (follows_from_fits before a.0.0 first.1, rest.1))

read_takes : (most : ℕ) → TakesAll most
unfolding read_entries
read_takes zero before u ds after h long e =
    subst (λ (y : List Entry × Unread). (u.bytes ≡ dir_bytes y.0) × AllFollow before y.0) (ok_is ([], u) (ds, after) e) (nil_from_length u.bytes (omega arith), tt)
read_takes (suc most) before u ds after h long e = one_more most (read_takes most) before u ds after h long (length u.bytes == 0) refl e

not_empty : (n : ℕ) → 1 ≤ n → (n == 0) ≡ false
not_empty n h = grind (arith, nat_tests)

pub read_again : (ds : List Entry) (most : ℕ) (before : List Entry) (at : ℕ) → AllFollow before ds → length (dir_bytes ds) ≤ most → (after : Unread) × (read_entries most before (rest_at at (dir_bytes ds)) ≡ Ok (ds, after))
unfolding read_entries
read_again [] zero before at h long = (rest_at at [], refl)
read_again [] (suc most) before at h long = (rest_at at [], refl)
read_again (d ∷ ds) zero before at h long = absurd (omega (arith, some_bytes d (dir_bytes ds), long))
read_again (d ∷ ds) (suc most) before at h long =
    let text : List ℕ = (entry_after before).spell d in
    let there : (length (entry_bytes d ++ dir_bytes ds) == 0) ≡ false = not_empty (length (entry_bytes d ++ dir_bytes ds)) (omega (arith, some_bytes d (dir_bytes ds))) in
    let one : (entry_after before).read (rest_at at (entry_bytes d ++ dir_bytes ds)) ≡ Ok (d, rest_at (at + length text) (dir_bytes ds)) =
    ap (λ (t : List ℕ). (entry_after before).read (rest_at at (t ++ dir_bytes ds))) (sym (spell-entry_after before d)) ∙ (entry_laws before).again d at (dir_bytes ds) (fits_from_follows before d h.0) in
    let rest = read_again ds most (d ∷ before) (at + length text) h.1 (omega (arith, some_bytes d (dir_bytes ds), long)) in
    (rest.0, rw (there, one, rest.1) refl)

-- what is read is a directory, spelled so
pub found : (bytes : List ℕ) (ds : List Entry) → AreBytes bytes → read_dir bytes ≡ Ok ds → IsDirectory bytes ds
found bytes ds h e =
    let a = bind_ok (read_entries (length bytes) [] (rest_at 0 bytes)) (λ xs. Ok xs.0) ds e in
    let t = read_takes (length bytes) [] (rest_at 0 bytes) a.0.0 a.0.1 h (omega arith) a.1 in
    subst (λ (xs : List Entry). IsDirectory bytes xs) (ok_is a.0.0 ds a.2) (record { spelled = t.0; fits = dir_from_follow a.0.0 t.1 })

-- a directory's bytes are read
pub only : (bytes : List ℕ) (ds : List Entry) → IsDirectory bytes ds → read_dir bytes ≡ Ok ds
only bytes ds h =
    let r = read_again ds (length (dir_bytes ds)) [] 0 (follow_from_dir ds h.fits) (omega arith) in
    ap read_dir h.spelled ∙ rw r.1 refl

-- what is read is not a fault besides
pub no_fault : (bytes : List ℕ) (ds : List Entry) (fault : FieldFault) → IsDirectory bytes ds → read_dir bytes ≡ Err fault → ⊥
no_fault bytes ds fault h e = apart (only bytes ds h) e where
  apart : read_dir bytes ≡ Ok ds → read_dir bytes ≡ Err fault → ⊥
  apart a b = cc
