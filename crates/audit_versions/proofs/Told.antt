-- The law of regular histories: of two versions of a file one is an ancestor of the other exactly where its number is at most
-- the other's counter of its site.
use Rattle.std.proofs.Common.{ℕ, ◌+◌, ◌<◌, ◌≤◌, ◌≡◌, ◌≢◌, refl, sym, ap, ◌∙◌, subst, Bool, true, false, not, ◌||◌, cond, ◌==◌, nat_le, List, [], ◌∷◌, arith, ◌⊎◌, inl, inr, ⊎_elim}
use Rattle.std.proofs.lemmas.Bool.{cases_Bool, cases_lt, cases_eq}
use Rattle.std.specs.List.{list_any, list_all}
use Rattle.plain_facts.proofs.Tests.{both_true, true_false, false_true, or_first, or_second, or_other, same_truth, false_unless}
use Rattle.plain_facts.proofs.Numbers.{equal, at_most, at_most_test}
use Rattle.locus_ids.specs.Sizes.{sites_max}
use Rattle.locus_ids.specs.declared.ids.FileId.{FileId}
use Rattle.locus_ids.specs.declared.ids.Stamp.{Stamp}
use Rattle.commit_graph.specs.declared.history.Version.{Version}
use Rattle.commit_graph.specs.Versions.{same_file, same_stamp, is_version, is_in, is_ancestor}
use Rattle.commit_graph.specs.Counters.{counter, greatest}
use Rattle.commit_graph.proofs.Names.{same_stamp_refl, same_stamp_eq, stamp_eq}
use Rattle.audit_versions.specs.Regular.{has_file, is_none_of, is_formatted, is_numbered, is_regular}
use Rattle.audit_versions.proofs.Lookups.{counter_stays}
use Rattle.audit_versions.proofs.Ancestors.{Stands, top, formatted, committed, here, in_older, is_older, ancestor_top, ancestor_stays, some_parent, at_most_greatest, reached, one, counter_top}

-- ---- numbers that are counted are ancestors ----

abbrev stamp_at : ℕ → ℕ → Stamp
stamp_at site m = record { site = site; n = m }

-- the number that the newest adds is its own
newest_is : (file : FileId) (v : Version) (older : List Version) (b : Stamp) (site m : ℕ) → Stands older v → is_version file b v ≡ true → 1 ≤ site → m ≤ greatest (λ p. counter older file p site) v.parents + cond (v.site == site) 1 0 → greatest (λ p. counter older file p site) v.parents < m → stamp_at site m ≡ b
newest_is file v older b site m k t low h more = ⊎_elim
    (λ (e : v.site ≡ site). ⊎_elim
    (λ (f : is_formatted v ≡ true). let z : v.site ≡ 0 = (formatted v f).site in absurd (omega arith))
    (λ (f : is_numbered older v ≡ true).
    let n : v.stamp.n ≡ greatest (λ p. counter older v.file p v.site) v.parents + 1 = (committed older v f).n in
    let moved : greatest (λ p. counter older v.file p v.site) v.parents ≡ greatest (λ p. counter older file p site) v.parents = ap (λ f. greatest (λ p. counter older f p v.site) v.parents) (here file v b t).0 ∙ ap (λ s. greatest (λ p. counter older file p s) v.parents) e in
    let m_is : m ≡ v.stamp.n = (let c = one v.site site e in omega (arith, c)) in
    stamp_eq (stamp_at site m) v.stamp (sym e ∙ sym k.own) m_is ∙ (here file v b t).1)
    k.made)
    (λ (e : v.site ≢ site). absurd (let c = none v.site site e in omega (arith, c)))
    (cases_eq v.site site) where
      none : (a b : ℕ) → a ≢ b → (let n : ℕ = cond (a == b) 1 0 in n ≡ 0)
      none a b e = ap (λ (x : Bool). let n : ℕ = cond x 1 0 in n) (false_unless (a == b) (λ t. e (equal a b t)))

pub within : (file : FileId) (h : List Version) → is_regular h ≡ true → (b : Stamp) (site m : ℕ) → 1 ≤ site → 1 ≤ m → m ≤ counter h file b site → is_ancestor h file (stamp_at site m) b ≡ true
within file [] r b site m low some h = absurd (omega arith)
within file (v ∷ older) r b site m low some h =
    let k = top v older r in
    ⊎_elim
    (λ (t : is_version file b v ≡ true).
    let h2 : m ≤ greatest (λ p. counter older file p site) v.parents + cond (v.site == site) 1 0 = subst (λ n. m ≤ n) (counter_top file v older b site t) h in
    ancestor_top file v older (stamp_at site m) b t
    ∙ ⊎_elim
    (λ (e : greatest (λ p. counter older file p site) v.parents < m). or_first (same_stamp (stamp_at site m) b) (list_any (is_ancestor older file (stamp_at site m)) v.parents) (ap (λ s. same_stamp s b) (newest_is file v older b site m k.0 t low h2 e) ∙ same_stamp_refl b))
    (λ (e : m ≤ greatest (λ p. counter older file p site) v.parents). or_second (same_stamp (stamp_at site m) b) (list_any (is_ancestor older file (stamp_at site m)) v.parents) (reached (λ p. counter older file p site) (is_ancestor older file (stamp_at site m)) m v.parents some e (λ p l. within file older k.1 p site m low some l)))
    (cases_lt (greatest (λ p. counter older file p site) v.parents) m))
    (λ (t : is_version file b v ≡ false). ancestor_stays file v older (stamp_at site m) b t ∙ within file older k.1 b site m low some (subst (λ n. m ≤ n) (sym (counter_stays file b v older site t)) h))
    (cases_Bool (is_version file b v))

-- ---- ancestors are counted ----

pub parents_in : (file : FileId) (v : Version) (older : List Version) (b : Stamp) → Stands older v → is_version file b v ≡ true → list_all (is_in older file) v.parents ≡ true
parents_in file v older b k t = ap (λ f. list_all (is_in older f) v.parents) (sym (here file v b t).0) ∙ k.parents

-- a version counts itself
counts_own : (file : FileId) (v : Version) (older : List Version) (b : Stamp) → Stands older v → is_version file b v ≡ true → b.n ≤ counter (v ∷ older) file b b.site
counts_own file v older b k t = subst (λ n. b.n ≤ n) (sym (counter_top file v older b b.site t)) (⊎_elim
    (λ (f : is_formatted v ≡ true). let z : v.stamp.n ≡ 0 = (formatted v f).n in let n : v.stamp.n ≡ b.n = ap (λ (s : Stamp). s.n) (here file v b t).1 in omega arith)
    (λ (f : is_numbered older v ≡ true).
    let n : v.stamp.n ≡ greatest (λ p. counter older v.file p v.site) v.parents + 1 = (committed older v f).n in
    let same : v.stamp.n ≡ b.n = ap (λ (s : Stamp). s.n) (here file v b t).1 in
    let site : v.site ≡ b.site = sym k.own ∙ ap (λ (s : Stamp). s.site) (here file v b t).1 in
    let moved : greatest (λ p. counter older v.file p v.site) v.parents ≡ greatest (λ p. counter older file p b.site) v.parents = ap (λ f. greatest (λ p. counter older f p v.site) v.parents) (here file v b t).0 ∙ ap (λ s. greatest (λ p. counter older file p s) v.parents) site in
    let c = one v.site b.site site in omega (arith, c))
    k.made)

pub counted : (file : FileId) (h : List Version) → is_regular h ≡ true → (a b : Stamp) → is_in h file b ≡ true → is_ancestor h file a b ≡ true → a.n ≤ counter h file b a.site
counted file [] r a b there e = absurd (false_true there)
counted file (v ∷ older) r a b there e =
    let k = top v older r in
    ⊎_elim
    (λ (t : is_version file b v ≡ true). ⊎_elim
    (λ (s : same_stamp a b ≡ true). subst (λ (x : Stamp). x.n ≤ counter (v ∷ older) file b x.site) (sym (same_stamp_eq a b s)) (counts_own file v older b k.0 t))
    (λ (s : same_stamp a b ≡ false).
    let any = or_other (same_stamp a b) (list_any (is_ancestor older file a) v.parents) s (sym (ancestor_top file v older a b t) ∙ e) in
    let low : a.n ≤ greatest (λ p. counter older file p a.site) v.parents = at_most_greatest (λ p. counter older file p a.site) (is_in older file) (is_ancestor older file a) a.n v.parents (parents_in file v older b k.0 t) any (λ p i f. counted file older k.1 a p i f) in
    subst (λ n. a.n ≤ n) (sym (counter_top file v older b a.site t)) (omega arith))
    (cases_Bool (same_stamp a b)))
    (λ (t : is_version file b v ≡ false). subst (λ n. a.n ≤ n) (counter_stays file b v older a.site t) (counted file older k.1 a b (in_older file v older b t there) (sym (ancestor_stays file v older a b t) ∙ e)))
    (cases_Bool (is_version file b v))

-- ---- ancestors stand in the history ----

pub ancestor_in : (file : FileId) (h : List Version) → is_regular h ≡ true → (a b : Stamp) → is_in h file b ≡ true → is_ancestor h file a b ≡ true → is_in h file a ≡ true
ancestor_in file [] r a b there e = absurd (false_true there)
ancestor_in file (v ∷ older) r a b there e =
    let k = top v older r in
    ⊎_elim
    (λ (t : is_version file b v ≡ true). ⊎_elim
    (λ (s : same_stamp a b ≡ true). ap (is_in (v ∷ older) file) (same_stamp_eq a b s) ∙ there)
    (λ (s : same_stamp a b ≡ false).
    let any = or_other (same_stamp a b) (list_any (is_ancestor older file a) v.parents) s (sym (ancestor_top file v older a b t) ∙ e) in
    is_older file v older a (some_parent (is_in older file) (is_ancestor older file a) v.parents (parents_in file v older b k.0 t) any (λ p i f. ancestor_in file older k.1 a p i f)))
    (cases_Bool (same_stamp a b)))
    (λ (t : is_version file b v ≡ false). is_older file v older a (ancestor_in file older k.1 a b (in_older file v older b t there) (sym (ancestor_stays file v older a b t) ∙ e)))
    (cases_Bool (is_version file b v))

-- ---- the first version of a file is an ancestor of each other one ----

-- the stamp of a version is that of a format, or a site's and numbered from 1 on
pub record Sited (a : Stamp) : Type 0 where
  pub low : 1 ≤ a.site
  pub high : a.site ≤ sites_max
  pub some : 1 ≤ a.n

pub record Unsited (a : Stamp) : Type 0 where
  pub site : a.site ≡ 0
  pub n : a.n ≡ 0

pub named : (file : FileId) (h : List Version) → is_regular h ≡ true → (a : Stamp) → is_in h file a ≡ true → Unsited a ⊎ Sited a
named file [] r a e = absurd (false_true e)
named file (v ∷ older) r a e =
    let k = top v older r in
    ⊎_elim
    (λ (t : is_version file a v ≡ true).
    let is : v.stamp ≡ a = (here file v a t).1 in
    ⊎_elim
    (λ (f : is_formatted v ≡ true). inl (record { site = sym (ap (λ (s : Stamp). s.site) is) ∙ (k.0.own ∙ (formatted v f).site); n = sym (ap (λ (s : Stamp). s.n) is) ∙ (formatted v f).n }))
    (λ (f : is_numbered older v ≡ true).
    let c = committed older v f in
    let low : 1 ≤ v.site = c.low in
    let high : v.site ≤ sites_max = c.high in
    let n : v.stamp.n ≡ greatest (λ p. counter older v.file p v.site) v.parents + 1 = c.n in
    let own : v.stamp.site ≡ v.site = k.0.own in
    let site : v.stamp.site ≡ a.site = ap (λ (s : Stamp). s.site) is in
    let same : v.stamp.n ≡ a.n = ap (λ (s : Stamp). s.n) is in
    inr (record { low = omega arith; high = omega arith; some = omega arith }))
    k.0.made)
    (λ (t : is_version file a v ≡ false). named file older k.1 a (in_older file v older a t e))
    (cases_Bool (is_version file a v))

-- a file of which a version stands has one
pub has_version : (file : FileId) (h : List Version) (a : Stamp) → is_in h file a ≡ true → has_file h file ≡ true
has_version file [] a e = absurd (false_true e)
has_version file (v ∷ older) a e = ⊎_elim
    (λ (t : is_version file a v ≡ true). or_first (same_file v.file file) (has_file older file) (both_true (same_file v.file file) (same_stamp v.stamp a) t).0)
    (λ (t : is_version file a v ≡ false). or_second (same_file v.file file) (has_file older file) (has_version file older a (in_older file v older a t e)))
    (cases_Bool (is_version file a v))

-- a later version of a file has parents
later : (file : FileId) (v : Version) (older : List Version) (b : Stamp) → Stands older v → is_version file b v ≡ true → (a : Stamp) → is_in older file a ≡ true → is_none_of v.parents ≡ false
later file v older b k t a e = by (is_none_of v.parents) (sym (ap (λ x. cond x (not (is_none_of v.parents)) (is_none_of v.parents)) (ap (has_file older) (here file v b t).0 ∙ has_version file older a e)) ∙ k.rooted) where
  by : (x : Bool) → not x ≡ true → x ≡ false
  by true h = absurd (false_true h)
  by false h = refl

all_of : (f : Stamp → Bool) (p : Stamp → Bool) (ps : List Stamp) → is_none_of ps ≡ false → list_all p ps ≡ true → ((s : Stamp) → p s ≡ true → f s ≡ true) → list_any f ps ≡ true
all_of f p [] some all go = absurd (true_false some)
all_of f p (s ∷ ss) some all go = or_first (f s) (list_any f ss) (go s (both_true (p s) (list_all p ss) all).0)

pub root_is : (file : FileId) (h : List Version) → is_regular h ≡ true → (a b : Stamp) → Unsited a → is_in h file a ≡ true → is_in h file b ≡ true → is_ancestor h file a b ≡ true
root_is file [] r a b z ea eb = absurd (false_true ea)
root_is file (v ∷ older) r a b z ea eb =
    let k = top v older r in
    ⊎_elim
    (λ (t : is_version file b v ≡ true). ancestor_top file v older a b t ∙ ⊎_elim
    (λ (s : is_version file a v ≡ true). or_first (same_stamp a b) (list_any (is_ancestor older file a) v.parents) (ap (λ x. same_stamp x b) (sym (here file v a s).1 ∙ (here file v b t).1) ∙ same_stamp_refl b))
    (λ (s : is_version file a v ≡ false).
    let old = in_older file v older a s ea in
    or_second (same_stamp a b) (list_any (is_ancestor older file a) v.parents) (all_of (is_ancestor older file a) (is_in older file) v.parents (later file v older b k.0 t a old) (parents_in file v older b k.0 t) (λ p i. root_is file older k.1 a p z old i)))
    (cases_Bool (is_version file a v)))
    (λ (t : is_version file b v ≡ false).
    let old = in_older file v older b t eb in
    ⊎_elim
    (λ (s : is_version file a v ≡ true). absurd (first_alone v older a b z k.0 s old))
    (λ (s : is_version file a v ≡ false). ancestor_stays file v older a b t ∙ root_is file older k.1 a b z (in_older file v older a s ea) old)
    (cases_Bool (is_version file a v)))
    (cases_Bool (is_version file b v)) where
      first_alone : (v : Version) (older : List Version) (a b : Stamp) → Unsited a → Stands older v → is_version file a v ≡ true → is_in older file b ≡ true → ⊥
      first_alone v older a b z k s old = ⊎_elim
          (λ (f : is_formatted v ≡ true). true_false (sym (ap is_none_of (formatted v f).none) ∙ later file v older a k s b old))
          (λ (f : is_numbered older v ≡ true).
          let low : 1 ≤ v.site = (committed older v f).low in
          let own : v.stamp.site ≡ v.site = k.own in
          let same : v.stamp.site ≡ a.site = ap (λ (x : Stamp). x.site) (here file v a s).1 in
          let none : a.site ≡ 0 = z.site in omega arith)
          k.made

-- ---- the law ----

pub tells : (file : FileId) (h : List Version) → is_regular h ≡ true → (a b : Stamp) → is_in h file a ≡ true → is_in h file b ≡ true → is_ancestor h file a b ≡ nat_le a.n (counter h file b a.site)
tells file h r a b ea eb = same_truth (is_ancestor h file a b) (nat_le a.n (counter h file b a.site))
    (λ e. at_most_test a.n (counter h file b a.site) (counted file h r a b eb e))
    (λ e. ⊎_elim
    (λ (z : Unsited a). root_is file h r a b z ea eb)
    (λ (s : Sited a). within file h r b a.site a.n s.low s.some (at_most a.n (counter h file b a.site) e))
    (named file h r a ea))

-- of a version that isn't there, only its own stamp is an ancestor
pub absent_tells : (file : FileId) (h : List Version) (a b : Stamp) → is_in h file b ≡ false → is_ancestor h file a b ≡ same_stamp a b
absent_tells file [] a b e = refl
absent_tells file (v ∷ older) a b e = ⊎_elim
    (λ (t : is_version file b v ≡ true). absurd (true_false (sym (or_first (is_version file b v) (is_in older file b) t) ∙ e)))
    (λ (t : is_version file b v ≡ false). ancestor_stays file v older a b t ∙ absent_tells file older a b (sym (ap (λ x. x || is_in older file b) t) ∙ e))
    (cases_Bool (is_version file b v))

-- no version that isn't there is an ancestor of one that is
pub stranger_tells : (file : FileId) (h : List Version) → is_regular h ≡ true → (a b : Stamp) → is_in h file a ≡ false → is_in h file b ≡ true → is_ancestor h file a b ≡ false
stranger_tells file h r a b ea eb = false_unless (is_ancestor h file a b) (λ e. true_false (sym (ancestor_in file h r a b eb e) ∙ ea))
