-- What a file's place tells of the rows, of which the latest is listed first.
use Rattle.std.proofs.Common.{◌≡◌, ℕ, zero, suc, ◌<◌, Bool, true, false, cond, List, [], ◌∷◌, length, map, reverse, get_or, Some, None, refl, sym, ap, ◌∙◌, arith}
use Rattle.std.specs.Prelude.{slice_get}
use Rattle.std.specs.List.{find}
use Rattle.std.specs.Option.{is_some}
use Rattle.std.proofs.lemmas.List.{length-map, length-reverse, reverse-reverse}
use Rattle.plain_facts.proofs.Options.{none_some, some_none, some_same}
use Rattle.locus_ids.specs.declared.ids.FileId.{FileId}
use Rattle.locus_ids.specs.declared.ids.Kind.TheVariants.{File}
use Rattle.commit_graph.specs.Versions.{same_file}
use Rattle.tree_model.specs.Packs.{no_sites}
use Rattle.key_places.specs.declared.key.Key.{Key}
use Rattle.key_places.specs.Keys.{same_key, file_key}
use Rattle.key_places.specs.Places.{place_of}
use Rattle.key_places.proofs.Names.{file_names}
use Rattle.key_places.proofs.Rows.{none_finds, place_any, place_finds}
use Rattle.promises.specs.Past.{Making, first_or}
use Rattle.audit_sites.specs.Files.{said_of, is_made}

-- the key of the file
abbrev pub key_of : Making → Key
key_of m = file_key m.file

abbrev pub is_of : FileId → Making → Bool
is_of f m = same_file m.file f

tells : (f : FileId) (m : Making) → is_of f m ≡ same_key (key_of m) (file_key f)
tells f m = sym (file_names m.file f)

first_of : {X : Type 0} (d : X) (p : X → Bool) (xs : List X) (x : X) → find p xs ≡ Some x → first_or d p xs ≡ x
first_of d p [] x e = absurd (none_some x e)
first_of {X} d p (y ∷ ys) x e = at (first_of d p ys x) (p y) e
  where
    at : (find p ys ≡ Some x → first_or d p ys ≡ x) → (b : Bool) → cond b (Some y) (find p ys) ≡ Some x → cond b y (first_or d p ys) ≡ x
    at later true t = some_same y x t
    at later false t = later t

no_first : {X : Type 0} (d : X) (p : X → Bool) (xs : List X) → find p xs ≡ None → first_or d p xs ≡ d
no_first d p [] e = refl
no_first {X} d p (y ∷ ys) e = at (no_first d p ys) (p y) e
  where
    at : (find p ys ≡ None → first_or d p ys ≡ d) → (b : Bool) → cond b (Some y) (find p ys) ≡ None → cond b y (first_or d p ys) ≡ d
    at later true t = absurd (some_none y t)
    at later false t = later t

got : {X : Type 0} (xs : List X) (i : ℕ) (d : X) → i < length xs → slice_get xs i ≡ Some (get_or xs i d)
got [] i d h = absurd (omega arith)
got (x ∷ xs) zero d h = refl
got (x ∷ xs) (suc i) d h = got xs i d (omega arith)

pub within : (rows : List Making) (keys : List Key) (i : ℕ) → keys ≡ map key_of (reverse rows) → i < length keys → i < length rows
within rows keys i e h = omega (arith, h, ap length e, length-map (reverse rows) key_of, length-reverse rows)

pub row_found : (rows : List Making) (keys : List Key) (f : FileId) (i : ℕ) (d : Making) → keys ≡ map key_of (reverse rows) → i < length keys → Some i ≡ place_of (file_key f) keys
    → get_or rows i d ≡ said_of (reverse rows) f
row_found rows keys f i d e h at = sym (first_of _ (is_of f) (reverse rows) (get_or rows i d)
    (place_finds key_of (file_key f) (is_of f) (tells f) (reverse rows) i (sym (ap (place_of (file_key f)) e) ∙ sym at)
    ∙ ap (λ xs. slice_get xs i) (reverse-reverse rows) ∙ got rows i d (within rows keys i e h)))

pub none_found : (rows : List Making) (keys : List Key) (f : FileId) → keys ≡ map key_of (reverse rows) → None ≡ place_of (file_key f) keys
    → record { file = f; kind = File; set = no_sites } ≡ said_of (reverse rows) f
none_found rows keys f e at = sym (no_first _ (is_of f) (reverse rows)
    (none_finds key_of (file_key f) (is_of f) (tells f) (reverse rows) (sym (ap (place_of (file_key f)) e) ∙ sym at)))

pub made_is : (rows : List Making) (keys : List Key) (f : FileId) → keys ≡ map key_of (reverse rows) → is_some (place_of (file_key f) keys) ≡ is_made (reverse rows) f
made_is rows keys f e = ap (λ ks. is_some (place_of (file_key f) ks)) e ∙ sym (place_any key_of (file_key f) (is_of f) (tells f) (reverse rows))
