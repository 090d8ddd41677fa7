use Rattle.std.proofs.Common.{◌≡◌, ◌≤◌, ◌+◌, ◌++◌, ℕ, zero, suc, Bool, List, [], ◌∷◌, refl, ap, ◌∙◌, cond, arith, length, replicate, take, get_or, vec_len, vec_capacity, length-append}
use Rattle.std.proofs.lemmas.List.{length-replicate, take-replicate}
use Rattle.disk_model.proofs.chunk.add_zeros.Goals as goal

zero_at : (n k : ℕ) → ◌≡◌ {A = ℕ} (get_or (replicate n 0) k 0) 0
zero_at zero k = refl
zero_at (suc n) zero = refl
zero_at (suc n) (suc k) = zero_at n k

-- behind the end zeros are read, whether they are kept or not
behind : (xs : List ℕ) (n k : ℕ) → ◌≡◌ {A = ℕ} (get_or (xs ++ replicate n 0) k 0) (get_or xs k 0)
behind [] n k = zero_at n k
behind (x ∷ xs) n zero = refl
behind (x ∷ xs) n (suc k) = behind xs n k

pub returns-clause-kept : goal.returns-clause-kept
returns-clause-kept c k =
    let old = c.args.written.now in
    let zeros : List ℕ = take c.args.count (replicate 1024 0) in
    let are : zeros ≡ replicate c.args.count 0 = take-replicate c.args.count 1024 0 c.requires.few in
    let room : vec_len old + length zeros ≤ vec_capacity old = omega (arith, ap length are, length-replicate {A = ℕ} c.args.count 0, c.requires.fit) in
    let items : c.extend_from_slice.new.self.items ≡ old.items ++ zeros = c.extend_from_slice.ensures.items ∙ ap (λ (b : Bool). cond b (old.items ++ zeros) old.items) (c.extend_from_slice.ensures.succeeds room) in
    ap (λ (l : List ℕ). get_or l k 0) items ∙ ap (λ (z : List ℕ). get_or (old.items ++ z) k 0) are ∙ behind old.items c.args.count k

pub returns-clause-long : goal.returns-clause-long
returns-clause-long c =
    let old = c.args.written.now in
    let zeros : List ℕ = take c.args.count (replicate 1024 0) in
    let are : zeros ≡ replicate c.args.count 0 = take-replicate c.args.count 1024 0 c.requires.few in
    let room : vec_len old + length zeros ≤ vec_capacity old = omega (arith, ap length are, length-replicate {A = ℕ} c.args.count 0, c.requires.fit) in
    let items : c.extend_from_slice.new.self.items ≡ old.items ++ zeros = c.extend_from_slice.ensures.items ∙ ap (λ (b : Bool). cond b (old.items ++ zeros) old.items) (c.extend_from_slice.ensures.succeeds room) in
    omega (arith, ap length items, length-append old.items zeros, ap length are, length-replicate {A = ℕ} c.args.count 0)
