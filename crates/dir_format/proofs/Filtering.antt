-- What a loop over entries has found.
use Rattle.std.proofs.Common.{◌≡◌, ℕ, ◌+◌, ◌<◌, ◌≤◌, ◌==◌, Bool, true, false, cond, ltb, List, [], ◌∷◌, ◌++◌, length, take, drop, get_or, refl, sym, ap, ◌∙◌, arith, ◌*◌}
use Rattle.std.proofs.lemmas.Bool.Decides.{nat_tests}
use Rattle.std.proofs.lemmas.List.{drop_more, take-append-drop, append-nil, length-append}
use Rattle.std.proofs.lemmas.List.Elements.{filter-append, filter_more}
use Rattle.std.proofs.lemmas.List.Concat.{flat_map-append}
use Rattle.std.specs.Prelude.{filter}
use Rattle.std.specs.Int.{to_be_bytes, w16, w32}
use Rattle.field_codec.specs.of_locus_ids.Sizes.{sites_max, directory_bytes_max}
use Rattle.dir_format.specs.declared.entry.Entry.{Entry}
use Rattle.dir_format.specs.Entries.{is_live, IsEntry}
use Rattle.dir_format.specs.Grammar.{kind_byte, vector_bytes, seen_bytes, entry_bytes, dir_bytes}
use Rattle.dir_format.specs.Lookups.{look_among, with_meant, are_several}

-- a list around one of its places
pub around : {X : Type 0} (xs : List X) (i : ℕ) (x : X) → i < length xs → x ≡ get_or xs i x → xs ≡ take i xs ++ x ∷ drop (i + 1) xs
around xs i x lt is = sym (take-append-drop i xs) ∙ ap (λ t. take i xs ++ t) (drop_more xs i x lt ∙ ap (λ y. y ∷ drop (i + 1) xs) (sym is))

module _ {X : Type 0} (p : X → Bool) where
  pub parts : (xs : List X) (i : ℕ) (x : X) → i < length xs → x ≡ get_or xs i x → p x ≡ true → filter p xs ≡ filter p (take i xs) ++ x ∷ filter p (drop (i + 1) xs)
  parts xs i x lt is passes =
      let one : filter p (x ∷ drop (i + 1) xs) ≡ x ∷ filter p (drop (i + 1) xs) = rw passes refl in
      ap (filter p) (around xs i x lt is) ∙ filter-append p (take i xs) (x ∷ drop (i + 1) xs) ∙ ap (λ l. filter p (take i xs) ++ l) one

  pub one_more : (xs : List X) (i : ℕ) (x : X) → i < length xs → x ≡ get_or xs i x → filter p (take (i + 1) xs) ≡ filter p (take i xs) ++ cond (p x) (x ∷ []) []
  one_more xs i x lt is = filter_more p xs i x lt ∙ ap (λ y. filter p (take i xs) ++ cond (p y) (y ∷ []) []) (sym is)

several_after : (l : List Entry) (x : Entry) (others : List Entry) → length l ≡ 1 → are_several (l ++ x ∷ others) ≡ true
several_after [] x others e = absurd (omega (arith, e))
several_after (y ∷ []) x others e = refl
several_after (y ∷ z ∷ l) x others e = refl

pub several : (p : Entry → Bool) (xs : List Entry) (i : ℕ) (x : Entry) → i < length xs → length (filter p (take i xs)) ≡ 1 → x ≡ get_or xs i x → p x ≡ true → true ≡ are_several (filter p xs)
several p xs i x lt one is passes = sym (ap are_several (parts p xs i x lt is passes) ∙ several_after (filter p (take i xs)) x (filter p (drop (i + 1) xs)) one)

with_one : (l : List Entry) (x : Entry) → with_meant (look_among l) x ≡ look_among (l ++ x ∷ [])
with_one [] x = refl
with_one (a ∷ []) x = refl
with_one (a ∷ b ∷ l) x = refl

look_by : (l : List Entry) (x : Entry) (b : Bool) → cond b (with_meant (look_among l) x) (look_among l) ≡ look_among (l ++ cond b (x ∷ []) [])
look_by l x true = with_one l x
look_by l x false = ap look_among (sym (append-nil l))

pub look_more : (p : Entry → Bool) (xs : List Entry) (i : ℕ) (x : Entry) → i < length xs → x ≡ get_or xs i x → cond (p x) (with_meant (look_among (filter p (take i xs))) x) (look_among (filter p (take i xs))) ≡ look_among (filter p (take (i + 1) xs))
look_more p xs i x lt is = look_by (filter p (take i xs)) x (p x) ∙ ap look_among (sym (one_more p xs i x lt is))

-- sizes
pub size-around : (ds : List Entry) (i : ℕ) (x : Entry) → i < length ds → x ≡ get_or ds i x → length (dir_bytes (take i ds)) + length (entry_bytes x) ≤ length (dir_bytes ds)
size-around ds i x lt is =
    let whole : dir_bytes ds ≡ dir_bytes (take i ds) ++ (entry_bytes x ++ dir_bytes (drop (i + 1) ds)) =
    ap dir_bytes (around ds i x lt is) ∙ flat_map-append entry_bytes (take i ds) (x ∷ drop (i + 1) ds) in
    omega (arith, ap length whole, length-append (dir_bytes (take i ds)) (entry_bytes x ++ dir_bytes (drop (i + 1) ds)), length-append (entry_bytes x) (dir_bytes (drop (i + 1) ds)))

pub passes_max : (ds : List Entry) (i : ℕ) (x : Entry) (size more : ℕ) → i < length ds → x ≡ get_or ds i x → size ≡ length (dir_bytes (take i ds)) + more → directory_bytes_max < size + length (entry_bytes x) → true ≡ ltb directory_bytes_max (length (dir_bytes ds) + more)
passes_max ds i x size more lt is sum over =
    let le = size-around ds i x lt is in
    let long : directory_bytes_max < length (dir_bytes ds) + more = omega (arith, le, sum, over) in
    grind (arith, nat_tests, long)

pub seen_long : (v : List ℕ) → length (vector_bytes v) ≡ length v + (length v + (length v + length v))
seen_long [] = refl
seen_long (n ∷ v) = omega (arith, seen_long v)

long_by : (b : Bool) (d : Entry) (seen : List ℕ) → IsEntry d → (b ≡ false → length seen ≡ sites_max)
    → length ((length d.name ∷ d.name) ++ (to_be_bytes w16 d.ino ++ (kind_byte d.kind ∷ [] ++ (to_be_bytes w32 d.count ++ seen_bytes b seen)))) ≡ length d.name + 8 + cond b 0 (4 * sites_max)
long_by true d seen h sites = omega (arith, length-append d.name (to_be_bytes w16 d.ino ++ (kind_byte d.kind ∷ [] ++ (to_be_bytes w32 d.count ++ []))))
long_by false d seen h sites =
    omega (arith, length-append d.name (to_be_bytes w16 d.ino ++ (kind_byte d.kind ∷ [] ++ (to_be_bytes w32 d.count ++ vector_bytes seen))), seen_long seen, sites refl)

pub live_long : (d : Entry) → IsEntry d → is_live d ≡ true → length d.name + 8 ≡ length (entry_bytes d)
live_long d h e = let long = long_by true d d.seen h (λ _. h.seen.sites) in sym (rw e (omega (arith, long)))

pub removed_long : (d : Entry) → IsEntry d → is_live d ≡ false → length d.name + 8 + 4 * sites_max ≡ length (entry_bytes d)
removed_long d h e = let long = long_by false d d.seen h (λ _. h.seen.sites) in sym (rw e (omega (arith, long)))

pub one_from : (b : Bool) (n : ℕ) → b ≡ (n == 1) → b ≡ true → n ≡ 1
one_from b n e h = grind (arith, nat_tests)
