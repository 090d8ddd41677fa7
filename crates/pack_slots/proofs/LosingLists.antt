-- The inodes of which both gates are open, as a list.
use Rattle.std.proofs.Common.{◌≡◌, ℕ, zero, suc, ◌+◌, ◌-◌, ◌*◌, ◌≤◌, ◌<◌, Bool, true, false, cond, List, [], ◌∷◌, ◌++◌, length, refl, sym, ◌∙◌, ap, arith, length-append}
use Rattle.std.specs.Prelude.{if◌then◌else◌}
use Rattle.std.proofs.lemmas.List.{append-nil, append_assoc}
use Rattle.locus_ids.specs.Sizes.{inodes_max}
use Rattle.disk_model.specs.Cut.{Cut}
use Rattle.pack_slots.specs.Mounting.{has_losing_gate, losing_gates}
use Rattle.pack_slots.specs.Cutting.{losing_from, closings_left}
use Rattle.pack_slots.proofs.Gates.{losing_more, losing_none}

losing_zero : (base : ℕ) (image : List ℕ) (ino : ℕ) → losing_from base image ino 0 ≡ []
unfolding losing_from
losing_zero base image ino = refl

losing_step : (base : ℕ) (image : List ℕ) (ino count : ℕ) → losing_from base image ino (suc count) ≡ cond (has_losing_gate base ino image) (ino ∷ []) [] ++ losing_from base image (ino + 1) count
unfolding losing_from
losing_step base image ino count = refl

-- by the gates of each of them
pub losing_same : (base : ℕ) (a b : List ℕ) (ino count : ℕ) → ((i : ℕ) → ino ≤ i → i < ino + count → has_losing_gate base i a ≡ has_losing_gate base i b) → losing_from base a ino count ≡ losing_from base b ino count
losing_same base a b ino zero same = losing_zero base a ino ∙ sym (losing_zero base b ino)
losing_same base a b ino (suc count) same =
    let here = same ino (omega arith) (omega arith) in
    let rest = losing_same base a b (ino + 1) count (λ i low high. same i (omega arith) (omega arith)) in
    losing_step base a ino count ∙ (λ j. cond (here j) (ino ∷ []) [] ++ rest j) ∙ sym (losing_step base b ino count)

pub losing_nowhere : (base : ℕ) (image : List ℕ) (ino count : ℕ) → ((i : ℕ) → ino ≤ i → i < ino + count → has_losing_gate base i image ≡ false) → losing_from base image ino count ≡ []
losing_nowhere base image ino zero none = losing_zero base image ino
losing_nowhere base image ino (suc count) none =
    let here = none ino (omega arith) (omega arith) in
    let rest = losing_nowhere base image (ino + 1) count (λ i low high. none i (omega arith) (omega arith)) in
    losing_step base image ino count ∙ (λ j. cond (here j) (ino ∷ []) [] ++ rest j)

pub losing_split : (base : ℕ) (image : List ℕ) (ino m n : ℕ) → losing_from base image ino (m + n) ≡ losing_from base image ino m ++ losing_from base image (ino + m) n
losing_split base image ino zero n =
    let e : 0 + n ≡ n = omega arith in
    let f : ino ≡ ino + 0 = omega arith in
    ap (λ (k : ℕ). losing_from base image ino k) e ∙ ap (λ (k : ℕ). losing_from base image k n) f ∙ ap (λ (l : List ℕ). l ++ losing_from base image (ino + 0) n) (sym (losing_zero base image ino))
losing_split base image ino (suc m) n =
    let e : suc m + n ≡ suc (m + n) = omega arith in
    let f : ino + 1 + m ≡ ino + suc m = omega arith in
    ap (λ (k : ℕ). losing_from base image ino k) e
    ∙ losing_step base image ino (m + n)
    ∙ ap (λ (l : List ℕ). cond (has_losing_gate base ino image) (ino ∷ []) [] ++ l) (losing_split base image (ino + 1) m n)
    ∙ sym (append_assoc (cond (has_losing_gate base ino image) (ino ∷ []) []) (losing_from base image (ino + 1) m) (losing_from base image (ino + 1 + m) n))
    ∙ ap (λ (l : List ℕ). l ++ losing_from base image (ino + 1 + m) n) (sym (losing_step base image ino m))
    ∙ ap (λ (k : ℕ). losing_from base image ino (suc m) ++ losing_from base image k n) f

losing_one : (base : ℕ) (image : List ℕ) (ino : ℕ) → losing_from base image ino 1 ≡ cond (has_losing_gate base ino image) (ino ∷ []) []
losing_one base image ino =
    losing_step base image ino 0
    ∙ ap (λ (l : List ℕ). cond (has_losing_gate base ino image) (ino ∷ []) [] ++ l) (losing_zero base image (ino + 1))
    ∙ append-nil (cond (has_losing_gate base ino image) (ino ∷ []) [])

-- those below an inode, itself, and those above it
pub losing_parts : (base : ℕ) (image : List ℕ) (n : ℕ) → n < inodes_max → losing_from base image 1 inodes_max ≡ losing_from base image 1 n ++ (cond (has_losing_gate base (n + 1) image) ((n + 1) ∷ []) [] ++ losing_from base image (n + 2) (inodes_max - 1 - n))
losing_parts base image n lt =
    let e : inodes_max ≡ n + (1 + (inodes_max - 1 - n)) = omega arith in
    let f : 1 + n ≡ n + 1 = omega arith in
    let g : 1 + n + 1 ≡ n + 2 = omega arith in
    ap (λ (k : ℕ). losing_from base image 1 k) e
    ∙ losing_split base image 1 n (1 + (inodes_max - 1 - n))
    ∙ ap (λ (l : List ℕ). losing_from base image 1 n ++ l) (losing_split base image (1 + n) 1 (inodes_max - 1 - n))
    ∙ ap (λ (l : List ℕ). losing_from base image 1 n ++ (l ++ losing_from base image (1 + n + 1) (inodes_max - 1 - n))) (losing_one base image (1 + n))
    ∙ ap (λ (k : ℕ). losing_from base image 1 n ++ (cond (has_losing_gate base k image) (k ∷ []) [] ++ losing_from base image (1 + n + 1) (inodes_max - 1 - n))) f
    ∙ ap (λ (k : ℕ). losing_from base image 1 n ++ (cond (has_losing_gate base (n + 1) image) ((n + 1) ∷ []) [] ++ losing_from base image k (inodes_max - 1 - n))) g

-- where at most one inode has both gates open
pub losing_alone : (base : ℕ) (image : List ℕ) (ino : ℕ) (b : Bool) → 1 ≤ ino → ino ≤ inodes_max → has_losing_gate base ino image ≡ b → ((i : ℕ) → 1 ≤ i → i ≤ inodes_max → (i ≡ ino → ⊥) → has_losing_gate base i image ≡ false) → losing_from base image 1 inodes_max ≡ cond b (ino ∷ []) []
losing_alone base image ino b low high is others =
    let n = ino - 1 in
    let e : ino - 1 + 1 ≡ ino = omega arith in
    losing_parts base image n (omega arith)
    ∙ ap (λ (l : List ℕ). l ++ (cond (has_losing_gate base (n + 1) image) ((n + 1) ∷ []) [] ++ losing_from base image (n + 2) (inodes_max - 1 - n))) (losing_nowhere base image 1 n (λ i from to. others i from (omega arith) (λ f. omega arith)))
    ∙ ap (λ (l : List ℕ). cond (has_losing_gate base (n + 1) image) ((n + 1) ∷ []) [] ++ l) (losing_nowhere base image (n + 2) (inodes_max - 1 - n) (λ i from to. others i (omega arith) (omega arith) (λ f. omega arith)))
    ∙ append-nil (cond (has_losing_gate base (n + 1) image) ((n + 1) ∷ []) [])
    ∙ ap (λ (k : ℕ). cond (has_losing_gate base k image) (k ∷ []) []) e
    ∙ ap (λ (t : Bool). cond t (ino ∷ []) []) is

-- how many they are
pub losing_count : (base : ℕ) (image : List ℕ) (n : ℕ) → length (losing_from base image 1 n) ≡ losing_gates base n image
losing_count base image zero = ap length (losing_zero base image 1) ∙ sym (losing_none base image)
losing_count base image (suc n) =
    let e : suc n ≡ n + 1 = omega arith in
    let f : 1 + n ≡ n + 1 = omega arith in
    let parts = ap length (losing_split base image 1 n 1) in
    let rest = losing_count base image n in
    let one = ap length (losing_one base image (1 + n)) in
    let more = losing_more base n image in
    ap (λ (k : ℕ). length (losing_from base image 1 k)) e
    ∙ parts ∙ length-append (losing_from base image 1 n) (losing_from base image (1 + n) 1)
    ∙ (λ i. rest i + one i)
    ∙ ap (λ (k : ℕ). losing_gates base n image + length (cond (has_losing_gate base k image) (k ∷ []) [])) f
    ∙ ap (λ (k : ℕ). losing_gates base n image + k) (by (has_losing_gate base (n + 1) image) (n + 1))
    ∙ sym more
    ∙ ap (λ (k : ℕ). losing_gates base k image) (sym e)
  where
    by : (b : Bool) (ino : ℕ) → length (cond b (ino ∷ []) []) ≡ (if b then 1 else 0)
    by true ino = refl
    by false ino = refl

-- the first ones are closed
pub closings_behind : {A : Type 0} (how : Cut) (xs ys : List A) (passed : ℕ) → closings_left how (2 * length xs + passed) (xs ++ ys) ≡ closings_left how passed ys
closings_behind how [] ys passed = (let e : 2 * 0 + passed ≡ passed = omega arith in ap (λ (n : ℕ). closings_left how n ys) e)
closings_behind how (x ∷ xs) ys passed =
    let e : 2 * suc (length xs) + passed ≡ suc (suc (2 * length xs + passed)) = omega arith in
    ap (λ (n : ℕ). closings_left how n (x ∷ (xs ++ ys))) e ∙ closings_behind how xs ys passed
