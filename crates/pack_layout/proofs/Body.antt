-- Fields that were written one behind the other.
use Rattle.std.proofs.Common.{◌≡◌, ℕ, ◌+◌, ◌*◌, List, ◌++◌, length, take, refl, sym, ap, ◌∙◌, append_assoc, arith}
use Rattle.std.proofs.Math.Seq.{take-length}
use Rattle.locus_ids.specs.Sizes.{sites_max, slot_pages, content_tables_max}

-- one field more stands behind the others
behind : (n m k : ℕ) (before after front field : List ℕ) → take k after ≡ take n before ++ field → k ≡ m → take n before ≡ front → take m after ≡ front ++ field
behind n m k before after front field e same h = ap (λ (i : ℕ). take i after) (sym same) ∙ e ∙ ap (λ (t : List ℕ). t ++ field) h

regroup : (a b c d e f g h i j : List ℕ) → (((((((((a ++ b) ++ c) ++ d) ++ e) ++ f) ++ g) ++ h) ++ i) ++ j) ≡ a ++ (b ++ (c ++ (d ++ (e ++ (f ++ (g ++ (h ++ (i ++ j))))))))
regroup a b c d e f g h i j = simp append_assoc

-- all nine, before whatever follows
pub fields_are : (o1 o2 o3 o4 o5 o6 o7 o8 o9 a b c d e f g h i j : List ℕ) (sites pages tables : ℕ) → take 2 o1 ≡ a → take 4 o2 ≡ take 2 o1 ++ b → take 6 o3 ≡ take 4 o2 ++ c → take 10 o4 ≡ take 6 o3 ++ d
    → take 11 o5 ≡ take 10 o4 ++ e → take 15 o6 ≡ take 11 o5 ++ f → take (15 + 4 * sites) o7 ≡ take 15 o6 ++ g → sites ≡ sites_max → take (79 + 2 * pages) o8 ≡ take 79 o7 ++ h → pages ≡ slot_pages
    → take (199 + 2 * tables) o9 ≡ take 199 o8 ++ i → tables ≡ content_tables_max → length o9 ≡ 203 → o9 ++ j ≡ a ++ (b ++ (c ++ (d ++ (e ++ (f ++ (g ++ (h ++ (i ++ j))))))))
fields_are o1 o2 o3 o4 o5 o6 o7 o8 o9 a b c d e f g h i j sites pages tables s1 s2 s3 s4 s5 s6 s7 n7 s8 n8 s9 n9 len =
    let t2 = behind 2 4 4 o1 o2 a b s2 refl s1 in
    let t3 = behind 4 6 6 o2 o3 _ c s3 refl t2 in
    let t4 = behind 6 10 10 o3 o4 _ d s4 refl t3 in
    let t5 = behind 10 11 11 o4 o5 _ e s5 refl t4 in
    let t6 = behind 11 15 15 o5 o6 _ f s6 refl t5 in
    let t7 = behind 15 79 (15 + 4 * sites) o6 o7 _ g s7 (omega arith) t6 in
    let t8 = behind 79 199 (79 + 2 * pages) o7 o8 _ h s8 (omega arith) t7 in
    let t9 = behind 199 203 (199 + 2 * tables) o8 o9 _ i s9 (omega arith) t8 in
    ap (λ (t : List ℕ). t ++ j) (sym (take-length o9) ∙ ap (λ (k : ℕ). take k o9) len ∙ t9) ∙ regroup a b c d e f g h i j
