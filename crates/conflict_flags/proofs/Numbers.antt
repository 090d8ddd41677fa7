-- The versions of a site are numbered from 1 on, and a written vector counts ancestors.
use Rattle.std.proofs.Common.{◌≡◌, ◌≢◌, ℕ, ◌+◌, ◌-◌, ◌≤◌, ◌<◌, Bool, true, false, ◌&&◌, ◌==◌, List, [], ◌∷◌, length, refl, sym, ◌∙◌, ap, subst, arith, ⊎_elim, nat_le}
use Rattle.std.proofs.lemmas.Bool.{cases_lt, cases_eq}
use Rattle.std.proofs.lemmas.Bool.Decides.{nat_tests}
use Rattle.std.specs.List.{filter}
use Rattle.locus_ids.specs.Sizes.{sites_max}
use Rattle.locus_ids.specs.declared.ids.FileId.{FileId}
use Rattle.locus_ids.specs.declared.ids.Stamp.{Stamp}
use Rattle.version_vector.specs.Counters.{part, raised}
use Rattle.version_vector.proofs.Counting.{part-joined, part-raised_same, part-raised_other}
use Rattle.commit_graph.specs.declared.history.Version.{Version}
use Rattle.commit_graph.specs.Versions.{same_stamp, is_in, is_ancestor}
use Rattle.commit_graph.proofs.Names.{same_stamp_refl, stamp_eq}
use Rattle.conflict_flags.specs.Written.{joined_all, written, NoneTwice, is_made_at, made_at, ancestors_made_at, Numbered}
use Rattle.conflict_flags.proofs.Ancestors.{Each, Counted, Named, place, base, named, own_count, ancestor-within, le-ancestor, written_here, written_there, in_here, in_older, same_file_refl, part-zeros, true_or_false}

made_test : (file : FileId) (site : ℕ) (v : Version) → v.file ≡ file → is_made_at file site v ≡ (v.stamp.site == site)
made_test file site v e = rw (e, same_file_refl file) refl

pub eq_true : (a b : ℕ) → a ≡ b → (a == b) ≡ true
eq_true a b e = grind (arith, nat_tests)

pub eq_false : (a b : ℕ) → a ≢ b → (a == b) ≡ false
eq_false a b e = grind (arith, nat_tests)

-- the newest version is one of the site's, or is not
made_here : (file : FileId) (site : ℕ) (v : Version) → v.file ≡ file → v.stamp.site ≡ site → is_made_at file site v ≡ true
made_here file site v e s = made_test file site v e ∙ eq_true v.stamp.site site s

made_there : (file : FileId) (site : ℕ) (v : Version) → v.file ≡ file → v.stamp.site ≢ site → is_made_at file site v ≡ false
made_there file site v e s = made_test file site v e ∙ eq_false v.stamp.site site s

number : (file : FileId) (v : Version) (older : List Version) → v.file ≡ file → Numbered (v ∷ older) → v.stamp.n ≡ made_at older file v.stamp.site + 1
number file v older e k = subst (λ (f : FileId). v.stamp.n ≡ made_at older f v.stamp.site + 1) e k.0

pub joined_bound : {X : Type 0} (g : X → List ℕ) (n t : ℕ) → ((x : X) → part (g x) t ≤ n) → (xs : List X) → part (joined_all g xs) t ≤ n
joined_bound g n t each [] = omega (arith, part-zeros sites_max t)
joined_bound g n t each (x ∷ xs) = omega (arith, part-joined (g x) (joined_all g xs) t, each x, joined_bound g n t each xs)

-- a written vector counts no more than the site committed
pub written_low : (file : FileId) (h : List Version) → Counted file h → (b : Stamp) (site : ℕ) → 1 ≤ site → part (written h file b) (site - 1) ≤ made_at h file site
written_low file [] k b site low = omega (arith, part-zeros sites_max (site - 1))
written_low file (v ∷ older) k b site low =
    let parents : part (base file v older) (site - 1) ≤ made_at older file site = joined_bound (written older file) (made_at older file site) (site - 1) (λ p. written_low file older k.1 p site low) v.parents in
    let before : part (written older file b) (site - 1) ≤ made_at older file site = written_low file older k.1 b site low in
    ⊎_elim
    (λ (s : v.stamp.site ≡ site).
    let grows : made_at (v ∷ older) file site ≡ made_at older file site + 1 = rw (made_here file site v k.0.mine s) refl in
    let at : place v.stamp ≡ site - 1 = ap (λ (n : ℕ). n - 1) s in
    ⊎_elim
    (λ (vb : same_stamp v.stamp b ≡ true).
    let here : part (written (v ∷ older) file b) (site - 1) ≡ part (base file v older) (site - 1) + 1 =
    ap (λ (u : List ℕ). part u (site - 1)) (written_here file v older b k.0 vb) ∙ (ap (λ (i : ℕ). part (raised (base file v older) i) (site - 1)) at ∙ part-raised_same (base file v older) (site - 1)) in
    omega arith)
    (λ (vb : same_stamp v.stamp b ≡ false).
    let there : part (written (v ∷ older) file b) (site - 1) ≡ part (written older file b) (site - 1) = ap (λ (u : List ℕ). part u (site - 1)) (written_there file v older b k.0.mine vb) in
    omega arith)
    (true_or_false (same_stamp v.stamp b)))
    (λ (s : v.stamp.site ≢ site).
    let stays : made_at (v ∷ older) file site ≡ made_at older file site = rw (made_there file site v k.0.mine s) refl in
    let vlow : 1 ≤ v.stamp.site = k.0.low in
    let apart : site - 1 ≢ place v.stamp = (λ e. s (omega arith)) in
    ⊎_elim
    (λ (vb : same_stamp v.stamp b ≡ true).
    let here : part (written (v ∷ older) file b) (site - 1) ≡ part (base file v older) (site - 1) =
    ap (λ (u : List ℕ). part u (site - 1)) (written_here file v older b k.0 vb) ∙ part-raised_other (base file v older) (place v.stamp) (site - 1) apart in
    omega arith)
    (λ (vb : same_stamp v.stamp b ≡ false).
    let there : part (written (v ∷ older) file b) (site - 1) ≡ part (written older file b) (site - 1) = ap (λ (u : List ℕ). part u (site - 1)) (written_there file v older b k.0.mine vb) in
    omega arith)
    (true_or_false (same_stamp v.stamp b)))
    (cases_eq v.stamp.site site)

-- the last version of a site stands in the history
pub last_in : (file : FileId) (h : List Version) → Counted file h → Numbered h → (site : ℕ) → 0 < made_at h file site → is_in h file (record { site = site; n = made_at h file site }) ≡ true
last_in file [] k numbers site pos = absurd (omega arith)
last_in file (v ∷ older) k numbers site pos =
    ⊎_elim
    (λ (s : v.stamp.site ≡ site).
    let grows : made_at (v ∷ older) file site ≡ made_at older file site + 1 = rw (made_here file site v k.0.mine s) refl in
    let last : Stamp = record { site = site; n = made_at (v ∷ older) file site } in
    let n : v.stamp.n ≡ made_at (v ∷ older) file site = number file v older k.0.mine numbers ∙ (ap (λ (t : ℕ). made_at older file t + 1) s ∙ sym grows) in
    let same : v.stamp ≡ last = stamp_eq v.stamp last s n in
    in_here file v older last k.0.mine (subst (λ (x : Stamp). same_stamp v.stamp x ≡ true) same (same_stamp_refl v.stamp)))
    (λ (s : v.stamp.site ≢ site).
    let stays : made_at (v ∷ older) file site ≡ made_at older file site = rw (made_there file site v k.0.mine s) refl in
    let older_last : is_in older file (record { site = site; n = made_at older file site }) ≡ true = last_in file older k.1 numbers.1 site (omega arith) in
    in_older file v older (record { site = site; n = made_at (v ∷ older) file site })
    (subst (λ (m : ℕ). is_in older file (record { site = site; n = m }) ≡ true) (sym stays) older_last))
    (cases_eq v.stamp.site site)

-- the versions of a site up to a number
abbrev pub up_to : FileId → ℕ → ℕ → Version → Bool
up_to file site k v = is_made_at file site v && nat_le v.stamp.n k

le_true : (a b : ℕ) → a ≤ b → nat_le a b ≡ true
le_true a b h = grind (arith, nat_tests)

le_false : (a b : ℕ) → b < a → nat_le a b ≡ false
le_false a b h = grind (arith, nat_tests)

count_all : (file : FileId) (h : List Version) → Counted file h → Numbered h → (site k : ℕ) → made_at h file site ≤ k → length (filter (up_to file site k) h) ≡ made_at h file site
count_all file [] c numbers site k le = refl
count_all file (v ∷ older) c numbers site k le =
    ⊎_elim
    (λ (s : v.stamp.site ≡ site).
    let made : is_made_at file site v ≡ true = made_here file site v c.0.mine s in
    let grows : made_at (v ∷ older) file site ≡ made_at older file site + 1 = rw made refl in
    let n : v.stamp.n ≡ made_at older file site + 1 = number file v older c.0.mine numbers ∙ ap (λ (t : ℕ). made_at older file t + 1) s in
    let rest : length (filter (up_to file site k) older) ≡ made_at older file site = count_all file older c.1 numbers.1 site k (omega arith) in
    rw (made, le_true v.stamp.n k (omega arith)) (omega arith))
    (λ (s : v.stamp.site ≢ site).
    let made : is_made_at file site v ≡ false = made_there file site v c.0.mine s in
    let stays : made_at (v ∷ older) file site ≡ made_at older file site = rw made refl in
    rw made (count_all file older c.1 numbers.1 site k (omega arith)))
    (cases_eq v.stamp.site site)

count_low : (file : FileId) (h : List Version) → Counted file h → Numbered h → (site k : ℕ) → k ≤ made_at h file site → length (filter (up_to file site k) h) ≡ k
count_low file [] c numbers site k le = omega arith
count_low file (v ∷ older) c numbers site k le =
    ⊎_elim
    (λ (s : v.stamp.site ≡ site).
    let made : is_made_at file site v ≡ true = made_here file site v c.0.mine s in
    let grows : made_at (v ∷ older) file site ≡ made_at older file site + 1 = rw made refl in
    let n : v.stamp.n ≡ made_at older file site + 1 = number file v older c.0.mine numbers ∙ ap (λ (t : ℕ). made_at older file t + 1) s in
    ⊎_elim
    (λ (f : made_at older file site < k).
    let rest : length (filter (up_to file site k) older) ≡ made_at older file site = count_all file older c.1 numbers.1 site k (omega arith) in
    rw (made, le_true v.stamp.n k (omega arith)) (omega arith))
    (λ (f : k ≤ made_at older file site).
    rw (made, le_false v.stamp.n k (omega arith)) (count_low file older c.1 numbers.1 site k f))
    (cases_lt (made_at older file site) k))
    (λ (s : v.stamp.site ≢ site).
    let made : is_made_at file site v ≡ false = made_there file site v c.0.mine s in
    let stays : made_at (v ∷ older) file site ≡ made_at older file site = rw made refl in
    rw made (count_low file older c.1 numbers.1 site k (omega arith)))
    (cases_eq v.stamp.site site)

each_version : (file : FileId) (P : Version → Type 0) (h : List Version) → Counted file h → ((v : Version) → v.file ≡ file → is_in h file v.stamp ≡ true → P v) → Each P h
each_version file P [] k f = tt
each_version file P (v ∷ older) k f = (
  f v k.0.mine (in_here file v older v.stamp k.0.mine (same_stamp_refl v.stamp)),
  each_version file P older k.1 (λ u e there. f u e (in_older file v older u.stamp there)),
)

count_same : (p q : Version → Bool) (l : List Version) → Each (λ v. p v ≡ q v) l → length (filter p l) ≡ length (filter q l)
count_same p q [] k = refl
count_same p q (v ∷ l) k = ⊎_elim
    (λ (e : q v ≡ true). let f : p v ≡ true = k.0 ∙ e in rw (e, f, count_same p q l k.1) refl)
    (λ (e : q v ≡ false). let f : p v ≡ false = k.0 ∙ e in rw (e, f, count_same p q l k.1) refl)
    (true_or_false (q v))

same_test : (x y : Bool) → (x ≡ true → y ≡ true) → (y ≡ true → x ≡ true) → x ≡ y
same_test true true f g = refl
same_test false false f g = refl
same_test true false f g = sym (f refl)
same_test false true f g = g refl

le_from_true : (a b : ℕ) → nat_le a b ≡ true → a ≤ b
le_from_true a b h = grind (arith, nat_tests)

site_from_made : (a b : ℕ) → (a == b) ≡ true → a ≡ b
site_from_made a b h = grind (arith, nat_tests)

-- a written vector counts the ancestors
pub counts_ancestors : (file : FileId) (h : List Version) → Counted file h → NoneTwice h → Numbered h → (b : Stamp) (site : ℕ) → is_in h file b ≡ true → 1 ≤ site → part (written h file b) (site - 1) ≡ ancestors_made_at h file b site
counts_ancestors file h c once numbers b site there low =
    let k : ℕ = part (written h file b) (site - 1) in
    sym (count_low file h c numbers site k (written_low file h c b site low))
    ∙ count_same (up_to file site k) (λ v. is_made_at file site v && is_ancestor h file v.stamp b) h (each_version file _ h c one) where
      one : (v : Version) → v.file ≡ file → is_in h file v.stamp ≡ true → (is_made_at file site v && nat_le v.stamp.n (part (written h file b) (site - 1))) ≡ (is_made_at file site v && is_ancestor h file v.stamp b)
      one v mine in_h = ⊎_elim
          (λ (m : is_made_at file site v ≡ true).
          let s : v.stamp.site ≡ site = site_from_made v.stamp.site site (sym (made_test file site v mine) ∙ m) in
          let at : part (written h file b) (place v.stamp) ≡ part (written h file b) (site - 1) = ap (λ (n : ℕ). part (written h file b) (n - 1)) s in
          let name : Named v.stamp = named file h c v.stamp in_h in
          rw m (same_test (nat_le v.stamp.n (part (written h file b) (site - 1))) (is_ancestor h file v.stamp b)
          (λ le. let n : v.stamp.n ≤ part (written h file b) (site - 1) = le_from_true _ _ le in ancestor-within file h c v.stamp b name.low name.pos (omega arith))
          (λ e. let up : part (written h file v.stamp) (place v.stamp) ≤ part (written h file b) (place v.stamp) = le-ancestor file h c once v.stamp b (place v.stamp) there e in
          let own : v.stamp.n ≡ part (written h file v.stamp) (place v.stamp) = own_count file h c v.stamp in_h in
          le_true v.stamp.n (part (written h file b) (site - 1)) (omega arith))))
          (λ (m : is_made_at file site v ≡ false). rw m refl)
          (true_or_false (is_made_at file site v))
