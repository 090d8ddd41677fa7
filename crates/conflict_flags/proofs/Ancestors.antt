-- In a history whose stamps are counted by its written vectors, ancestors are what the vectors say.
use Rattle.std.proofs.Common.{◌≡◌, ◌≢◌, ℕ, zero, suc, ◌+◌, ◌-◌, ◌≤◌, ◌<◌, Bool, true, false, ◌||◌, List, [], ◌∷◌, replicate, refl, sym, ◌∙◌, ap, subst, arith, ◌⊎◌, inl, inr, ⊎_elim}
use Rattle.std.proofs.lemmas.Bool.Decides.{nat_tests}
use Rattle.std.proofs.lemmas.Bool.{cases_lt, cases_eq}
use Rattle.std.specs.List.{list_any}
use Rattle.locus_ids.specs.Sizes.{sites_max}
use Rattle.locus_ids.specs.declared.ids.FileId.{FileId}
use Rattle.locus_ids.specs.declared.ids.Stamp.{Stamp}
use Rattle.version_vector.specs.Counters.{part, AllLe, raised}
use Rattle.version_vector.proofs.Counting.{part-joined, part-raised_same, part-raised_other, raised_up}
use Rattle.commit_graph.specs.declared.history.Version.{Version}
use Rattle.commit_graph.specs.Versions.{same_file, same_stamp, is_version, is_in, is_ancestor}
use Rattle.commit_graph.proofs.Names.{same_stamp_refl, same_stamp_eq, stamp_eq}
use Rattle.conflict_flags.specs.Written.{joined_all, is_format, written, NoneTwice}

abbrev pub Each : {X : Type 0} → (X → Type 0) → List X → Type 0
Each P [] = Unit {0}
Each P (x ∷ xs) = P x × Each P xs

abbrev pub place : Stamp → ℕ
place s = s.site - 1

-- the join of the written vectors of the parents
abbrev pub base : FileId → Version → List Version → List ℕ
base file v older = joined_all (written older file) v.parents

-- a version that stands on versions before it, and whose stamp is counted by its written vector
pub record Counts (file : FileId) (v : Version) (older : List Version) : Type 0 where
  pub mine : v.file ≡ file
  pub low : 1 ≤ v.stamp.site
  pub stand : Each (λ p. is_in older file p ≡ true) v.parents
  pub count : v.stamp.n ≡ part (base file v older) (place v.stamp) + 1

abbrev pub Counted : FileId → List Version → Type 0
Counted file [] = Unit {0}
Counted file (v ∷ older) = Counts file v older × Counted file older

pub true_or_false : (b : Bool) → (b ≡ true) ⊎ (b ≡ false)
true_or_false true = inl refl
true_or_false false = inr refl

pub or_true : (b : Bool) → (b || true) ≡ true
or_true true = refl
or_true false = refl

pub false_not_true : {b : Bool} → b ≡ false → b ≡ true → ⊥
false_not_true e f = absurd (cc)

pub same_file_refl : (f : FileId) → same_file f f ≡ true
same_file_refl f = grind (arith, nat_tests)

-- of a version of the file only the stamp is asked
pub version_test : (file : FileId) (b : Stamp) (v : Version) → v.file ≡ file → is_version file b v ≡ same_stamp v.stamp b
version_test file b v e = rw (e, same_file_refl file) refl

not_format : (s : Stamp) → 1 ≤ s.site → is_format s ≡ false
not_format s h = grind (arith, nat_tests)

pub part-zeros : (n t : ℕ) → part (replicate n 0) t ≡ 0
part-zeros zero t = refl
part-zeros (suc n) zero = refl
part-zeros (suc n) (suc t) = part-zeros n t

-- the newest version's own vector, and that of another
pub written_here : (file : FileId) (v : Version) (older : List Version) (b : Stamp) → Counts file v older → same_stamp v.stamp b ≡ true → written (v ∷ older) file b ≡ raised (base file v older) (place v.stamp)
written_here file v older b k e = rw (version_test file b v k.mine, e, not_format v.stamp k.low) refl

pub written_there : (file : FileId) (v : Version) (older : List Version) (b : Stamp) → v.file ≡ file → same_stamp v.stamp b ≡ false → written (v ∷ older) file b ≡ written older file b
written_there file v older b k e = rw (version_test file b v k, e) refl

ancestor_here : (file : FileId) (v : Version) (older : List Version) (a b : Stamp) → v.file ≡ file → same_stamp v.stamp b ≡ true → is_ancestor (v ∷ older) file a b ≡ (same_stamp a b || list_any (is_ancestor older file a) v.parents)
ancestor_here file v older a b k e = rw (version_test file b v k, e) refl

ancestor_there : (file : FileId) (v : Version) (older : List Version) (a b : Stamp) → v.file ≡ file → same_stamp v.stamp b ≡ false → is_ancestor (v ∷ older) file a b ≡ is_ancestor older file a b
ancestor_there file v older a b k e = rw (version_test file b v k, e) refl

pub in_here : (file : FileId) (v : Version) (older : List Version) (a : Stamp) → v.file ≡ file → same_stamp v.stamp a ≡ true → is_in (v ∷ older) file a ≡ true
in_here file v older a k e = rw (version_test file a v k, e) refl

pub in_there : (file : FileId) (v : Version) (older : List Version) (a : Stamp) → v.file ≡ file → same_stamp v.stamp a ≡ false → is_in (v ∷ older) file a ≡ is_in older file a
in_there file v older a k e = rw (version_test file a v k, e) refl

pub in_older : (file : FileId) (v : Version) (older : List Version) (a : Stamp) → is_in older file a ≡ true → is_in (v ∷ older) file a ≡ true
in_older file v older a e = rw e (or_true (is_version file a v))

-- what some have is within the join, and the other way round
pub any_joined : {X : Type 0} (P : X → Type 0) (f : X → Bool) (g : X → List ℕ) (n t : ℕ) → ((x : X) → P x → f x ≡ true → n ≤ part (g x) t) → (xs : List X) → Each P xs → list_any f xs ≡ true → n ≤ part (joined_all g xs) t
any_joined P f g n t each [] k h = cc
any_joined P f g n t each (x ∷ xs) k h =
    ⊎_elim
    (λ (e : f x ≡ true). let here : n ≤ part (g x) t = each x k.0 e in omega (arith, part-joined (g x) (joined_all g xs) t))
    (λ (e : f x ≡ false). let there : n ≤ part (joined_all g xs) t = any_joined P f g n t each xs k.1 (rw e at h) in omega (arith, part-joined (g x) (joined_all g xs) t))
    (true_or_false (f x))

pub joined_any : {X : Type 0} (f : X → Bool) (g : X → List ℕ) (n t : ℕ) → 0 < n → ((x : X) → n ≤ part (g x) t → f x ≡ true) → (xs : List X) → n ≤ part (joined_all g xs) t → list_any f xs ≡ true
joined_any f g n t pos each [] h = absurd (omega (arith, part-zeros sites_max t))
joined_any f g n t pos each (x ∷ xs) h =
    ⊎_elim
    (λ (e : part (g x) t < n). let there : n ≤ part (joined_all g xs) t = omega (arith, part-joined (g x) (joined_all g xs) t) in rw (joined_any f g n t pos each xs there) (or_true (f x)))
    (λ (e : n ≤ part (g x) t). rw (each x e) refl)
    (cases_lt (part (g x) t) n)

differ : (a b : Stamp) → same_stamp a b ≡ false → a.site ≡ b.site → a.n ≡ b.n → ⊥
differ a b isnt e f = false_not_true isnt (subst (λ (x : Stamp). same_stamp a x ≡ true) (stamp_eq a b e f) (same_stamp_refl a))

-- what the raised vector covers beside the new stamp was covered before
raised_step : (J : List ℕ) (a v : Stamp) → 1 ≤ a.site → 1 ≤ v.site → v.n ≡ part J (place v) + 1 → same_stamp a v ≡ false → a.n ≤ part (raised J (place v)) (place a) → a.n ≤ part J (place a)
raised_step J a v low_a low k isnt le =
    ⊎_elim
    (λ (e : a.site ≡ v.site).
    let up : part (raised J (place v)) (place v) ≡ part J (place v) + 1 = part-raised_same J (place v) in
    let here : place a ≡ place v = ap (λ (s : ℕ). s - 1) e in
    let moved : part (raised J (place v)) (place a) ≡ part (raised J (place v)) (place v) = ap (part (raised J (place v))) here in
    let apart : a.n ≢ v.n = differ a v isnt e in
    let there : part J (place a) ≡ part J (place v) = ap (part J) here in
    omega arith)
    (λ (e : a.site ≢ v.site). let same : part (raised J (place v)) (place a) ≡ part J (place a) = part-raised_other J (place v) (place a) (λ f. e (omega arith)) in omega arith)
    (cases_eq a.site v.site)

pub ancestor-within : (file : FileId) (h : List Version) → Counted file h → (a b : Stamp) → 1 ≤ a.site → 0 < a.n → a.n ≤ part (written h file b) (place a) → is_ancestor h file a b ≡ true
ancestor-within file [] k a b low pos e = absurd (omega (arith, part-zeros sites_max (place a)))
ancestor-within file (v ∷ older) k a b low pos e =
    ⊎_elim
    (λ (vb : same_stamp v.stamp b ≡ true). ancestor_here file v older a b k.0.mine vb ∙
    ⊎_elim
    (λ (ab : same_stamp a b ≡ true). rw ab refl)
    (λ (ab : same_stamp a b ≡ false).
    let av : same_stamp a v.stamp ≡ false = subst (λ (x : Stamp). same_stamp a x ≡ false) (sym (same_stamp_eq v.stamp b vb)) ab in
    let covered : a.n ≤ part (raised (base file v older) (place v.stamp)) (place a) = subst (λ (u : List ℕ). a.n ≤ part u (place a)) (written_here file v older b k.0 vb) e in
    let le : a.n ≤ part (base file v older) (place a) = raised_step (base file v older) a v.stamp low k.0.low k.0.count av covered in
    rw (joined_any (is_ancestor older file a) (written older file) a.n (place a) pos (λ p. ancestor-within file older k.1 a p low pos) v.parents le) (or_true (same_stamp a b)))
    (true_or_false (same_stamp a b)))
    (λ (vb : same_stamp v.stamp b ≡ false). ancestor_there file v older a b k.0.mine vb ∙
    ancestor-within file older k.1 a b low pos (subst (λ (u : List ℕ). a.n ≤ part u (place a)) (written_there file v older b k.0.mine vb) e))
    (true_or_false (same_stamp v.stamp b))

-- a version's own stamp is the counter of its site
pub own_count : (file : FileId) (h : List Version) → Counted file h → (a : Stamp) → is_in h file a ≡ true → a.n ≡ part (written h file a) (place a)
own_count file [] k a e = absurd (cc)
own_count file (v ∷ older) k a e =
    ⊎_elim
    (λ (va : same_stamp v.stamp a ≡ true).
    let here : v.stamp.n ≡ part (raised (base file v older) (place v.stamp)) (place v.stamp) = k.0.count ∙ sym (part-raised_same (base file v older) (place v.stamp)) in
    subst (λ (x : Stamp). x.n ≡ part (raised (base file v older) (place v.stamp)) (place x)) (same_stamp_eq v.stamp a va) here
    ∙ sym (ap (λ (u : List ℕ). part u (place a)) (written_here file v older a k.0 va)))
    (λ (va : same_stamp v.stamp a ≡ false).
    own_count file older k.1 a (sym (in_there file v older a k.0.mine va) ∙ e) ∙ sym (ap (λ (u : List ℕ). part u (place a)) (written_there file v older a k.0.mine va)))
    (true_or_false (same_stamp v.stamp a))

-- a stamp of the history has a site and a number
pub record Named (a : Stamp) : Type 0 where
  pub low : 1 ≤ a.site
  pub pos : 0 < a.n

pub named : (file : FileId) (h : List Version) → Counted file h → (a : Stamp) → is_in h file a ≡ true → Named a
named file [] k a e = absurd (cc)
named file (v ∷ older) k a e =
    ⊎_elim
    (λ (va : same_stamp v.stamp a ≡ true). subst Named (same_stamp_eq v.stamp a va) (record { low = k.0.low; pos = omega (arith, k.0.count) }))
    (λ (va : same_stamp v.stamp a ≡ false). named file older k.1 a (sym (in_there file v older a k.0.mine va) ∙ e))
    (true_or_false (same_stamp v.stamp a))

-- what stands in the older part is not the newest
pub not_newest : (file : FileId) (s a : Stamp) (older : List Version) → is_in older file s ≡ false → is_in older file a ≡ true → same_stamp s a ≡ false
not_newest file s a older isnt is =
    ⊎_elim
    (λ (e : same_stamp s a ≡ true). absurd (false_not_true isnt (subst (λ (x : Stamp). is_in older file x ≡ true) (sym (same_stamp_eq s a e)) is)))
    (λ (e : same_stamp s a ≡ false). e)
    (true_or_false (same_stamp s a))

-- an ancestor of a version stands in the history
pub in-ancestor : (file : FileId) (h : List Version) → Counted file h → (a b : Stamp) → is_in h file b ≡ true → is_ancestor h file a b ≡ true → is_in h file a ≡ true
in-ancestor file [] k a b there e = absurd (cc)
in-ancestor file (v ∷ older) k a b there e =
    ⊎_elim
    (λ (vb : same_stamp v.stamp b ≡ true).
    ⊎_elim
    (λ (ab : same_stamp a b ≡ true). subst (λ (x : Stamp). is_in (v ∷ older) file x ≡ true) (sym (same_stamp_eq a b ab)) there)
    (λ (ab : same_stamp a b ≡ false).
    let parents : list_any (is_ancestor older file a) v.parents ≡ true = subst (λ (x : Bool). (x || list_any (is_ancestor older file a) v.parents) ≡ true) ab (sym (ancestor_here file v older a b k.0.mine vb) ∙ e) in
    in_older file v older a (some_parent older (λ p. in-ancestor file older k.1 a p) v.parents k.0.stand parents))
    (true_or_false (same_stamp a b)))
    (λ (vb : same_stamp v.stamp b ≡ false).
    in_older file v older a (in-ancestor file older k.1 a b (sym (in_there file v older b k.0.mine vb) ∙ there) (sym (ancestor_there file v older a b k.0.mine vb) ∙ e)))
    (true_or_false (same_stamp v.stamp b)) where
      some_parent : (older : List Version) → ((b : Stamp) → is_in older file b ≡ true → is_ancestor older file a b ≡ true → is_in older file a ≡ true) → (ps : List Stamp) → Each (λ p. is_in older file p ≡ true) ps → list_any (is_ancestor older file a) ps ≡ true → is_in older file a ≡ true
      some_parent older each [] s e = absurd (cc)
      some_parent older each (p ∷ ps) s e =
          ⊎_elim
          (λ (f : is_ancestor older file a p ≡ true). each p s.0 f)
          (λ (f : is_ancestor older file a p ≡ false). some_parent older each ps s.1 (rw f at e))
          (true_or_false (is_ancestor older file a p))

-- the newest stamp is a new one of its file
pub fresh : (file : FileId) (v : Version) (older : List Version) → v.file ≡ file → NoneTwice (v ∷ older) → is_in older file v.stamp ≡ false
fresh file v older e k = subst (λ (f : FileId). is_in older f v.stamp ≡ false) e k.0

-- an ancestor's vector is at most the other's
pub le-ancestor : (file : FileId) (h : List Version) → Counted file h → NoneTwice h → (a b : Stamp) (t : ℕ) → is_in h file b ≡ true → is_ancestor h file a b ≡ true → part (written h file a) t ≤ part (written h file b) t
le-ancestor file [] c k a b t there e = absurd (cc)
le-ancestor file (v ∷ older) c k a b t there e =
    ⊎_elim
    (λ (vb : same_stamp v.stamp b ≡ true).
    ⊎_elim
    (λ (ab : same_stamp a b ≡ true). let same : part (written (v ∷ older) file a) t ≡ part (written (v ∷ older) file b) t = ap (λ (x : Stamp). part (written (v ∷ older) file x) t) (same_stamp_eq a b ab) in omega arith)
    (λ (ab : same_stamp a b ≡ false).
    let va : same_stamp v.stamp a ≡ false = apart vb ab in
    let parents : list_any (is_ancestor older file a) v.parents ≡ true = subst (λ (x : Bool). (x || list_any (is_ancestor older file a) v.parents) ≡ true) ab (sym (ancestor_here file v older a b c.0.mine vb) ∙ e) in
    let le : part (written older file a) t ≤ part (base file v older) t =
    any_joined (λ p. is_in older file p ≡ true) (is_ancestor older file a) (written older file) (part (written older file a) t) t (λ p. le-ancestor file older c.1 k.1 a p t) v.parents c.0.stand parents in
    let up : part (base file v older) t ≤ part (raised (base file v older) (place v.stamp)) t = raised_up (base file v older) (place v.stamp) t in
    let at_a : part (written (v ∷ older) file a) t ≡ part (written older file a) t = ap (λ (u : List ℕ). part u t) (written_there file v older a c.0.mine va) in
    let at_b : part (written (v ∷ older) file b) t ≡ part (raised (base file v older) (place v.stamp)) t = ap (λ (u : List ℕ). part u t) (written_here file v older b c.0 vb) in
    omega arith)
    (true_or_false (same_stamp a b)))
    (λ (vb : same_stamp v.stamp b ≡ false).
    let older_b : is_in older file b ≡ true = sym (in_there file v older b c.0.mine vb) ∙ there in
    let older_e : is_ancestor older file a b ≡ true = sym (ancestor_there file v older a b c.0.mine vb) ∙ e in
    let va : same_stamp v.stamp a ≡ false = not_newest file v.stamp a older (fresh file v older c.0.mine k) (in-ancestor file older c.1 a b older_b older_e) in
    let at_a : part (written (v ∷ older) file a) t ≡ part (written older file a) t = ap (λ (u : List ℕ). part u t) (written_there file v older a c.0.mine va) in
    let at_b : part (written (v ∷ older) file b) t ≡ part (written older file b) t = ap (λ (u : List ℕ). part u t) (written_there file v older b c.0.mine vb) in
    let le : part (written older file a) t ≤ part (written older file b) t = le-ancestor file older c.1 k.1 a b t older_b older_e in
    omega arith)
    (true_or_false (same_stamp v.stamp b)) where
      apart : same_stamp v.stamp b ≡ true → same_stamp a b ≡ false → same_stamp v.stamp a ≡ false
      apart vb ab = ⊎_elim
          (λ (f : same_stamp v.stamp a ≡ true). absurd (false_not_true ab (subst (λ (x : Stamp). same_stamp x b ≡ true) (same_stamp_eq v.stamp a f) vb)))
          (λ (f : same_stamp v.stamp a ≡ false). f)
          (true_or_false (same_stamp v.stamp a))

-- the law of one history
pub tells : (file : FileId) (h : List Version) → Counted file h → NoneTwice h → (a b : Stamp) → is_in h file a ≡ true → is_in h file b ≡ true → (is_ancestor h file a b ≡ true → AllLe (written h file a) (written h file b)) × (AllLe (written h file a) (written h file b) → is_ancestor h file a b ≡ true)
tells file h k once a b ha hb = (
  (λ e. record { each = λ t. le-ancestor file h k once a b t hb e }),
  (λ le. let own : a.n ≡ part (written h file a) (place a) = own_count file h k a ha in
      let at_site : part (written h file a) (place a) ≤ part (written h file b) (place a) = le.each (place a) in
      let name : Named a = named file h k a ha in
      ancestor-within file h k a b name.low name.pos (omega arith)),
)

-- of two versions of one site the later has the earlier among its ancestors
pub chained : (file : FileId) (h : List Version) → Counted file h → (a b : Stamp) → is_in h file a ≡ true → is_in h file b ≡ true → a.site ≡ b.site → a.n ≤ b.n → is_ancestor h file a b ≡ true
chained file h k a b ha hb site le =
    let own : b.n ≡ part (written h file b) (place b) = own_count file h k b hb in
    let here : part (written h file b) (place a) ≡ part (written h file b) (place b) = ap (λ (s : ℕ). part (written h file b) (s - 1)) site in
    let name : Named a = named file h k a ha in
    ancestor-within file h k a b name.low name.pos (omega arith)
