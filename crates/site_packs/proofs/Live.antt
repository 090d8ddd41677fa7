-- The first entry of some bytes, and those that follow it.
use Rattle.std.proofs.Common.{◌≡◌, ◌≤◌, ◌+◌, ◌∙◌, ℕ, zero, suc, Bool, true, List, [], ◌∷◌, ◌&&◌, length, drop, cond, refl, ap, sym, subst, arith, ◌*◌}
use Rattle.std.specs.List.{list_all}
use Rattle.std.proofs.lemmas.List.{length-drop}
use Rattle.locus_ids.specs.Sizes.{sites_max}
use Rattle.role_steps.specs.of_dir_format.Contents.{entries_from, entry_at, width_at, count_at, is_odd}
use Rattle.role_steps.specs.of_dir_format.Entries.{is_live}
use Rattle.site_packs.specs.Live.{IsBehindLive, is_all_live}

-- where there is room for all entries, more room gives no other ones
room : (m k : ℕ) (xs : List ℕ) → length xs ≤ m → length xs ≤ k → entries_from m xs ≡ entries_from k xs
room zero zero [] a b = refl
room zero (suc k) [] a b = refl
room (suc m) zero [] a b = refl
room (suc m) (suc k) [] a b = refl
room zero k (n ∷ xs) a b = absurd (omega (arith, a))
room (suc m) zero (n ∷ xs) a b = absurd (omega (arith, b))
room (suc m) (suc k) (n ∷ xs) a b =
    ap (λ es. entry_at n xs ∷ es) (room m k (drop (width_at n xs) xs) (omega (arith, a, length-drop (width_at n xs) xs)) (omega (arith, b, length-drop (width_at n xs) xs)))

-- a live entry has nothing behind its count
live_width : (n : ℕ) (xs : List ℕ) (odd : Bool) → is_odd (count_at n xs) ≡ odd → odd ≡ true → width_at n xs ≡ n + 7
live_width n xs odd e t = ap (λ (b : Bool). n + (7 + cond b 0 (4 * sites_max))) (e ∙ t)

-- where the entries that follow a live one are live, all are
pub behind_live : (bytes behind : List ℕ) → IsBehindLive bytes behind → is_all_live behind ≡ true → is_all_live bytes ≡ true
behind_live bytes behind h l =
    let n = h.named in
    let w : width_at n h.rest ≡ n + 7 = live_width n h.rest true h.live refl in
    let rest : entries_from (length h.rest) (drop (width_at n h.rest) h.rest) ≡ entries_from (length behind) behind =
    ap (λ k. entries_from (length h.rest) (drop k h.rest)) w
    ∙ (ap (entries_from (length h.rest)) (sym h.behind)
    ∙ room (length h.rest) (length behind) behind (omega (arith, ap length h.behind, length-drop (n + 7) h.rest)) (omega arith)) in
    subst (λ (xs : List ℕ). is_all_live xs ≡ true) (sym h.split)
    (ap (λ b. b && list_all is_live (entries_from (length h.rest) (drop (width_at n h.rest) h.rest))) h.live
    ∙ (ap (λ es. list_all is_live es) rest ∙ l))
