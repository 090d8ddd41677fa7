-- The first entry of some bytes, and those that follow it.
use Rattle.std.proofs.Common.{◌≡◌, ◌≤◌, ◌<◌, ◌+◌, ◌-◌, ◌*◌, ◌%◌, ◌∙◌, ℕ, zero, suc, Bool, true, false, not, ◌&&◌, ◌||◌, List, [], ◌∷◌, length, take, drop, get_or, cond, Option, None, Some, refl, ap, sym, subst, arith}
use Rattle.std.specs.Prelude.{IfSome}
use Rattle.std.specs.Int.{from_be_bytes, w16}
use Rattle.std.specs.List.{list_all}
use Rattle.std.proofs.lemmas.Bool.{false≢true}
use Rattle.std.proofs.lemmas.Bool.Decides.{nat_tests}
use Rattle.std.proofs.lemmas.List.{length-drop, take_all}
use Rattle.locus_ids.specs.Sizes.{sites_max}
use Rattle.dir_format.specs.Contents.{counters, entries_from, entry_at, seen_at, width_at, count_at, is_odd}
use Rattle.dir_reconcile.specs.declared.kept.KeptVector.{KeptVector}
use Rattle.site_mends.specs.Scanning.{IsBehindLive, IsBehindSeen, are_past, is_missed, is_past}

-- where there is room for all entries, more room gives no other ones
pub room : (m k : ℕ) (xs : List ℕ) → length xs ≤ m → length xs ≤ k → entries_from m xs ≡ entries_from k xs
room zero zero [] a b = refl
room zero (suc k) [] a b = refl
room (suc m) zero [] a b = refl
room (suc m) (suc k) [] a b = refl
room zero k (n ∷ xs) a b = absurd (omega (arith, a))
room (suc m) zero (n ∷ xs) a b = absurd (omega (arith, b))
room (suc m) (suc k) (n ∷ xs) a b =
    ap (λ es. entry_at n xs ∷ es) (room m k (drop (width_at n xs) xs) (omega (arith, a, length-drop (width_at n xs) xs)) (omega (arith, b, length-drop (width_at n xs) xs)))

-- a live entry has nothing behind its count, a removed one a vector
width : (n : ℕ) (xs : List ℕ) (odd : Bool) → is_odd (count_at n xs) ≡ odd → width_at n xs ≡ n + (7 + cond odd 0 (4 * sites_max))
width n xs odd e = ap (λ (b : Bool). n + (7 + cond b 0 (4 * sites_max))) e

-- where the first entry brings about no rescue, nor do those that follow it, none does
behind_first : (kept : List KeptVector) (n : ℕ) (xs after : List ℕ) → is_past kept (entry_at n xs) ≡ true → after ≡ drop (width_at n xs) xs → are_past kept after ≡ true → are_past kept (n ∷ xs) ≡ true
behind_first kept n xs after past behind l =
    let rest : entries_from (length xs) (drop (width_at n xs) xs) ≡ entries_from (length after) after =
    ap (entries_from (length xs)) (sym behind)
    ∙ room (length xs) (length after) after (omega (arith, ap length behind, length-drop (width_at n xs) xs)) (omega arith) in
    ap (λ b. b && list_all (is_past kept) (entries_from (length xs) (drop (width_at n xs) xs))) past
    ∙ (ap (λ es. list_all (is_past kept) es) rest ∙ l)

live_past : (kept : List KeptVector) (ino : ℕ) (bytes : List ℕ) (odd : Bool) → odd ≡ true → (odd || not (is_missed kept ino (seen_at odd bytes))) ≡ true
live_past kept ino bytes true e = refl
live_past kept ino bytes false e = absurd (false≢true e)

removed_past : (kept : List KeptVector) (ino : ℕ) (bytes : List ℕ) (odd : Bool) → odd ≡ false → is_missed kept ino (counters sites_max bytes) ≡ false → (odd || not (is_missed kept ino (seen_at odd bytes))) ≡ true
removed_past kept ino bytes true e missed = refl
removed_past kept ino bytes false e missed = ap not missed

pub behind_live : (kept : List KeptVector) (bytes after : List ℕ) → IsBehindLive bytes after → are_past kept after ≡ true → are_past kept bytes ≡ true
behind_live kept bytes after h l =
    let n = h.named in
    subst (λ (xs : List ℕ). are_past kept xs ≡ true) (sym h.split)
    (behind_first kept n h.rest after (live_past kept (from_be_bytes w16 (take 2 (drop n h.rest))) (drop (n + 7) h.rest) (is_odd (count_at n h.rest)) h.live) (h.behind ∙ ap (λ (k : ℕ). drop k h.rest) (sym (width n h.rest true h.live))) l)

pub behind_seen : (kept : List KeptVector) (bytes after : List ℕ) → IsBehindSeen kept bytes after → are_past kept after ≡ true → are_past kept bytes ≡ true
behind_seen kept bytes after h l =
    let n = h.named in
    subst (λ (xs : List ℕ). are_past kept xs ≡ true) (sym h.split)
    (behind_first kept n h.rest after (removed_past kept (from_be_bytes w16 (take 2 (drop n h.rest))) (drop (n + 7) h.rest) (is_odd (count_at n h.rest)) h.removed h.seen) (h.behind ∙ ap (λ (k : ℕ). drop k h.rest) (sym (width n h.rest false h.removed))) l)

-- ---- what a walk reads of it ----

pub first_split : (bytes : List ℕ) (n : ℕ) → 1 ≤ length bytes → n ≡ get_or bytes 0 0 → bytes ≡ n ∷ take (length bytes - 1) (drop 1 bytes)
first_split [] n some is = absurd (omega (arith, some))
first_split (x ∷ xs) n some is = ap (λ y. y ∷ xs) (sym is) ∙ ap (λ ys. n ∷ ys) (sym (take_all (length (x ∷ xs) - 1) xs (omega arith)))

pub even_count : (count at : ℕ) → count ≡ at → (count % 2 ≡ 1 → ⊥) → is_odd at ≡ false
even_count count at is even = grind (arith, nat_tests)

shorter : (bytes rest after : List ℕ) (n k : ℕ) → bytes ≡ n ∷ rest → after ≡ drop k rest → length after < length bytes
shorter bytes rest after n k split behind = omega (arith, ap length split, ap length behind, length-drop k rest)

pub shorter_live : (bytes after : List ℕ) → IsBehindLive bytes after → length after < length bytes
shorter_live bytes after h = shorter bytes h.rest after h.named (h.named + 7) h.split h.behind

pub shorter_seen : (kept : List KeptVector) (bytes after : List ℕ) → IsBehindSeen kept bytes after → length after < length bytes
shorter_seen kept bytes after h = shorter bytes h.rest after h.named (h.named + (7 + 4 * sites_max)) h.split h.behind

pub if_some : {A : Type 0} {P Q : A → Type 0} → (o : Option A) → ((x : A) → P x → Q x) → IfSome o P → IfSome o Q
if_some None f p = tt
if_some (Some x) f p = f x p
