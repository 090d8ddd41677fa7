-- Bytes after some pieces are written, and bytes that are torn where the pieces are.
use Rattle.std.proofs.Common.{◌≡◌, ◌⊎◌, ⊎_elim, ℕ, ◌+◌, ◌≤◌, ◌<◌, Bool, true, false, ◌||◌, List, [], ◌∷◌, ◌++◌, length, take, drop, get_or, refl, sym, ◌∙◌, subst, arith, length-append, length-take, length-drop}
use Rattle.std.proofs.lemmas.Bool.{true≢false}
use Rattle.std.proofs.lemmas.Bool.Decides.{nat_tests}
use Rattle.std.proofs.lemmas.List.{places, get_or_at}
use Rattle.std.proofs.lemmas.List.Elements.{All-head, All-tail}
use Rattle.disk_model.specs.Images.{overwritten, is_within, Torn}
use Rattle.gate_switch.specs.Switch.{Piece}
use Rattle.gate_switch.specs.Switch.{AreWithin, touches, TornIn, written}

pub length-overwritten : (xs : List ℕ) (a : ℕ) (ys : List ℕ) → a + length ys ≤ length xs → length (overwritten xs a ys) ≡ length xs
length-overwritten xs a ys fits = omega (arith, length-append (take a xs) (ys ++ drop (a + length ys) xs), length-append ys (drop (a + length ys) xs), length-take a xs, length-drop (a + length ys) xs)

pub written-append : (bytes : List ℕ) (xs ys : List Piece) → written bytes (xs ++ ys) ≡ written (written bytes xs) ys
written-append bytes [] ys = refl
written-append bytes (x ∷ xs) ys = written-append (overwritten bytes x.at x.bytes) xs ys

pub or_parts : (a b : Bool) → (a || b) ≡ false → (a ≡ false) × (b ≡ false)
or_parts true b none = absurd (true≢false none)
or_parts false b none = (refl, none)

pub torn_stays : (pieces : List Piece) (c : List ℕ) → TornIn pieces c c
torn_stays pieces c = record { long = refl; outside = λ k none. refl }

pub torn_joins : (pieces : List Piece) (a b c : List ℕ) → TornIn pieces a b → TornIn pieces b c → TornIn pieces a c
torn_joins pieces a b c first then = record { long = then.long ∙ first.long; outside = λ k none. then.outside k none ∙ first.outside k none }

outside_bounds : (a n k : ℕ) → is_within a n k ≡ false → (k < a) ⊎ (a + n ≤ k)
outside_bounds a n k is = grind (arith, nat_tests)

pub put_outside : (a : ℕ) (xs ys : List ℕ) (k : ℕ) → a + length ys ≤ length xs → is_within a (length ys) k ≡ false → get_or (overwritten xs a ys) k 0 ≡ get_or xs k 0
put_outside a xs ys k fits is = ⊎_elim (λ below. grind (arith, places)) (λ above. grind (arith, places)) (outside_bounds a (length ys) k is)

pub torn_overwritten : (xs : List ℕ) (a : ℕ) (ys : List ℕ) → a + length ys ≤ length xs → Torn a (length ys) xs (overwritten xs a ys)
torn_overwritten xs a ys fits = record { long = length-overwritten xs a ys fits; outside = λ k out. put_outside a xs ys k fits out }

-- the pieces written whole are one way to be torn
pub torn_written : (pieces : List Piece) (old : List ℕ) → AreWithin pieces (length old) → TornIn pieces old (written old pieces)
torn_written [] old within = torn_stays [] old
torn_written (x ∷ pieces) old within =
    let fits : x.at + length x.bytes ≤ length old = All-head (λ (p : Piece). p.at + length p.bytes ≤ length old) x pieces within in
    let first = torn_overwritten old x.at x.bytes fits in
    let rest = torn_written pieces (overwritten old x.at x.bytes) (subst (λ (n : ℕ). AreWithin pieces n) (sym first.long) (All-tail (λ (p : Piece). p.at + length p.bytes ≤ length old) x pieces within)) in
    record {
      long = rest.long ∙ first.long;
      outside = λ k none. let parts = or_parts (is_within x.at (length x.bytes) k) (touches pieces k) none in rest.outside k parts.1 ∙ first.outside k parts.0;
    }

-- the byte that is written
pub put_gate : (xs : List ℕ) (a byte : ℕ) → a + 1 ≤ length xs → get_or (overwritten xs a (byte ∷ [])) a 0 ≡ byte
put_gate xs a byte fits = get_or_at (take a xs) byte (drop (a + 1) xs) 0 a (omega (arith, length-take a xs))

-- nothing changed is one way to be torn
pub torn_same : (at n : ℕ) (old : List ℕ) → Torn at n old old
torn_same at n old = record { long = refl; outside = λ k out. refl }

-- one piece that is torn
pub torn_alone : (x : Piece) (a b : List ℕ) → Torn x.at (length x.bytes) a b → TornIn (x ∷ []) a b
torn_alone x a b torn = record { long = torn.long; outside = λ k none. torn.outside k (or_parts (is_within x.at (length x.bytes) k) false none).0 }
