-- The written vector that is joined from those of the parents is the vector of counters that the history alone gives.
use Rattle.std.proofs.Common.{◌≡◌, ◌≢◌, ℕ, zero, suc, ◌+◌, ◌-◌, ◌≤◌, ◌<◌, cond, true, false, ◌==◌, List, [], ◌∷◌, map, refl, sym, ◌∙◌, ap, arith, ⊎_elim}
use Rattle.std.proofs.lemmas.Bool.{cases_lt, cases_eq}
use Rattle.locus_ids.specs.Sizes.{sites_max}
use Rattle.locus_ids.specs.declared.ids.FileId.{FileId}
use Rattle.locus_ids.specs.declared.ids.Stamp.{Stamp}
use Rattle.version_vector.specs.Counters.{part, AllLe, raised}
use Rattle.version_vector.proofs.Counting.{part-joined, part-raised_same, part-raised_other}
use Rattle.commit_graph.specs.declared.history.Version.{Version}
use Rattle.commit_graph.specs.Versions.{same_stamp}
use Rattle.commit_graph.specs.Counters.{greatest, counter}
use Rattle.commit_graph.specs.Vectors.{numbers_from, vector_of}
use Rattle.conflict_flags.specs.Written.{joined_all, written}
use Rattle.conflict_flags.proofs.Ancestors.{Each, Counted, place, base, version_test, written_here, written_there, part-zeros, true_or_false}
use Rattle.conflict_flags.proofs.Numbers.{joined_bound, eq_true, eq_false}

-- the stamp names the site that committed the version, which is one of the sixteen
pub record IsOwn (v : Version) : Type 0 where
  pub same : v.site ≡ v.stamp.site
  pub most : v.stamp.site ≤ sites_max

greatest-joined : (f : Stamp → ℕ) (g : Stamp → List ℕ) (t : ℕ) → ((p : Stamp) → f p ≡ part (g p) t) → (ps : List Stamp) → greatest f ps ≡ part (joined_all g ps) t
greatest-joined f g t same [] = sym (part-zeros sites_max t)
greatest-joined f g t same (p ∷ ps) = omega (arith, same p, greatest-joined f g t same ps, part-joined (g p) (joined_all g ps) t)

counter-here : (file : FileId) (v : Version) (older : List Version) (b : Stamp) (site : ℕ) → v.file ≡ file → same_stamp v.stamp b ≡ true →
    counter (v ∷ older) file b site ≡ greatest (λ p. counter older file p site) v.parents + cond (v.site == site) 1 0
counter-here file v older b site k e = rw (version_test file b v k, e) refl

counter-there : (file : FileId) (v : Version) (older : List Version) (b : Stamp) (site : ℕ) → v.file ≡ file → same_stamp v.stamp b ≡ false → counter (v ∷ older) file b site ≡ counter older file b site
counter-there file v older b site k e = rw (version_test file b v k, e) refl

one-if : (a b : ℕ) → a ≡ b → (let n : ℕ = cond (a == b) 1 0 in n ≡ 1)
one-if a b e = rw (eq_true a b e) refl

none-if : (a b : ℕ) → a ≢ b → (let n : ℕ = cond (a == b) 1 0 in n ≡ 0)
none-if a b e = rw (eq_false a b e) refl

-- a counter by the history is that of the joined vector
counter-written : (file : FileId) (h : List Version) → Counted file h → Each IsOwn h → (b : Stamp) (site : ℕ) → 1 ≤ site → counter h file b site ≡ part (written h file b) (site - 1)
counter-written file [] k own b site low = sym (part-zeros sites_max (site - 1))
counter-written file (v ∷ older) k own b site low = ⊎_elim
    (λ (vb : same_stamp v.stamp b ≡ true).
    let parents : greatest (λ p. counter older file p site) v.parents ≡ part (base file v older) (site - 1) =
    greatest-joined (λ p. counter older file p site) (written older file) (site - 1) (λ p. counter-written file older k.1 own.1 p site low) v.parents in
    let grows : counter (v ∷ older) file b site ≡ greatest (λ p. counter older file p site) v.parents + cond (v.site == site) 1 0 = counter-here file v older b site k.0.mine vb in
    ⊎_elim
    (λ (s : v.stamp.site ≡ site).
    let at : place v.stamp ≡ site - 1 = ap (λ (n : ℕ). n - 1) s in
    let here : part (written (v ∷ older) file b) (site - 1) ≡ part (base file v older) (site - 1) + 1 =
    ap (λ (u : List ℕ). part u (site - 1)) (written_here file v older b k.0 vb) ∙ (ap (λ (i : ℕ). part (raised (base file v older) i) (site - 1)) at ∙ part-raised_same (base file v older) (site - 1)) in
    omega (arith, grows, parents, here, one-if v.site site (own.0.same ∙ s)))
    (λ (s : v.stamp.site ≢ site).
    let low_v : 1 ≤ v.stamp.site = k.0.low in
    let apart : site - 1 ≢ place v.stamp = (λ e. s (omega arith)) in
    let here : part (written (v ∷ older) file b) (site - 1) ≡ part (base file v older) (site - 1) =
    ap (λ (u : List ℕ). part u (site - 1)) (written_here file v older b k.0 vb) ∙ part-raised_other (base file v older) (place v.stamp) (site - 1) apart in
    omega (arith, grows, parents, here, none-if v.site site (λ e. s (sym own.0.same ∙ e))))
    (cases_eq v.stamp.site site))
    (λ (vb : same_stamp v.stamp b ≡ false).
    counter-there file v older b site k.0.mine vb ∙ (counter-written file older k.1 own.1 b site low ∙ sym (ap (λ (u : List ℕ). part u (site - 1)) (written_there file v older b k.0.mine vb))))
    (true_or_false (same_stamp v.stamp b))

-- no seventeenth site has a counter
written-past : (file : FileId) (h : List Version) → Counted file h → Each IsOwn h → (t : ℕ) → sites_max ≤ t → (b : Stamp) → part (written h file b) t ≤ 0
written-past file [] k own t past b = omega (arith, part-zeros sites_max t)
written-past file (v ∷ older) k own t past b = ⊎_elim
    (λ (vb : same_stamp v.stamp b ≡ true).
    let most : v.stamp.site ≤ sites_max = own.0.most in
    let apart : t ≢ place v.stamp = (λ e. absurd (omega arith)) in
    let here : part (written (v ∷ older) file b) t ≡ part (base file v older) t =
    ap (λ (u : List ℕ). part u t) (written_here file v older b k.0 vb) ∙ part-raised_other (base file v older) (place v.stamp) t apart in
    omega (arith, here, joined_bound (written older file) 0 t (written-past file older k.1 own.1 t past) v.parents))
    (λ (vb : same_stamp v.stamp b ≡ false).
    omega (arith, ap (λ (u : List ℕ). part u t) (written_there file v older b k.0.mine vb), written-past file older k.1 own.1 t past b))
    (true_or_false (same_stamp v.stamp b))

part-numbers : (f : ℕ → ℕ) (n first i : ℕ) → i < n → part (map f (numbers_from first n)) i ≡ f (first + i)
part-numbers f zero first i h = absurd (omega arith)
part-numbers f (suc n) first zero h = let same : first ≡ first + 0 = omega arith in ap f same
part-numbers f (suc n) first (suc i) h = let same : (first + 1) + i ≡ first + suc i = omega arith in part-numbers f n (first + 1) i (omega arith) ∙ ap f same

past-numbers : (f : ℕ → ℕ) (n first i : ℕ) → n ≤ i → part (map f (numbers_from first n)) i ≡ 0
past-numbers f zero first i h = refl
past-numbers f (suc n) first zero h = absurd (omega arith)
past-numbers f (suc n) first (suc i) h = past-numbers f n (first + 1) i (omega arith)

-- the two are one vector, counter by counter
pub vector-written : (file : FileId) (h : List Version) → Counted file h → Each IsOwn h → (b : Stamp) (t : ℕ) → part (written h file b) t ≡ part (vector_of h file b) t
vector-written file h k own b t = ⊎_elim
    (λ (lt : t < sites_max).
    let same : t ≡ (1 + t) - 1 = omega arith in
    ap (λ (i : ℕ). part (written h file b) i) same ∙ (sym (counter-written file h k own b (1 + t) (omega arith)) ∙ sym (part-numbers (counter h file b) sites_max 1 t lt)))
    (λ (le : sites_max ≤ t). omega (arith, written-past file h k own t le b, past-numbers (counter h file b) sites_max 1 t le))
    (cases_lt t sites_max)

-- vectors that are alike stand alike
pub alike_le : (a b c d : List ℕ) → ((t : ℕ) → part a t ≡ part c t) → ((t : ℕ) → part b t ≡ part d t) → AllLe a b → AllLe c d
alike_le a b c d f g h = record { each = λ i. omega (arith, f i, g i, h.each i) }
