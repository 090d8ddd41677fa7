-- In a regular history the counters of a version tell its ancestors.
use Rattle.std.proofs.Common.{ℕ, ◌+◌, ◌<◌, ◌≤◌, ◌≡◌, refl, sym, ap, ◌∙◌, subst, Bool, true, false, not, ◌&&◌, ◌||◌, cond, ◌==◌, nat_le, List, [], ◌∷◌, arith, ◌⊎◌, ⊎_elim}
use Rattle.std.proofs.lemmas.Bool.{cases_Bool, cases_lt}
use Rattle.std.specs.List.{list_any, list_all}
use Rattle.plain_facts.proofs.Tests.{both_true, true_false, false_true, not_true, or_either, or_first, or_second, or_other, false_unless, and_true}
use Rattle.plain_facts.proofs.Numbers.{equal, equal_self, at_most}
use Rattle.locus_ids.specs.Sizes.{sites_max}
use Rattle.locus_ids.specs.declared.ids.FileId.{FileId}
use Rattle.locus_ids.specs.declared.ids.Stamp.{Stamp}
use Rattle.commit_graph.specs.declared.history.Version.{Version}
use Rattle.commit_graph.specs.Versions.{same_file, same_stamp, is_version, is_in, is_ancestor}
use Rattle.commit_graph.specs.Counters.{counter, greatest, next_number}
use Rattle.commit_graph.proofs.Names.{same_stamp_eq}
use Rattle.audit_versions.specs.Regular.{is_none_of, is_formatted, is_numbered, is_rooted, stands_on, is_regular}
use Rattle.audit_versions.proofs.Lookups.{file_is}

-- ---- one version ----

-- a version that stands as it should, fact by fact
pub record Stands (older : List Version) (v : Version) : Type 0 where
  pub parents : list_all (is_in older v.file) v.parents ≡ true
  pub rooted : is_rooted older v ≡ true
  pub fresh : is_in older v.file v.stamp ≡ false
  pub own : v.stamp.site ≡ v.site
  pub made : (is_formatted v ≡ true) ⊎ (is_numbered older v ≡ true)

pub stands : (older : List Version) (v : Version) → stands_on older v ≡ true → Stands older v
stands older v e =
    let a = both_true (list_all (is_in older v.file) v.parents) (is_rooted older v && (not (is_in older v.file v.stamp) && ((v.stamp.site == v.site) && (is_formatted v || is_numbered older v)))) e in
    let b = both_true (is_rooted older v) (not (is_in older v.file v.stamp) && ((v.stamp.site == v.site) && (is_formatted v || is_numbered older v))) a.1 in
    let c = both_true (not (is_in older v.file v.stamp)) ((v.stamp.site == v.site) && (is_formatted v || is_numbered older v)) b.1 in
    let d = both_true (v.stamp.site == v.site) (is_formatted v || is_numbered older v) c.1 in
    record { parents = a.0; rooted = b.0; fresh = not_true (is_in older v.file v.stamp) c.0; own = equal v.stamp.site v.site d.0; made = or_either (is_formatted v) (is_numbered older v) d.1 }

-- the newest stands on the others, which are regular
pub top : (v : Version) (older : List Version) → is_regular (v ∷ older) ≡ true → Stands older v × (is_regular older ≡ true)
top v older e = let a = both_true (is_regular older) (stands_on older v) e in (stands older v a.1, a.0)

-- what a format version is
pub record Formatted (v : Version) : Type 0 where
  pub site : v.site ≡ 0
  pub n : v.stamp.n ≡ 0
  pub none : v.parents ≡ []

none_of : {X : Type 0} (xs : List X) → is_none_of xs ≡ true → xs ≡ []
none_of [] e = refl
none_of (x ∷ xs) e = absurd (false_true e)

pub formatted : (v : Version) → is_formatted v ≡ true → Formatted v
formatted v e =
    let a = both_true (v.site == 0) ((v.stamp.n == 0) && is_none_of v.parents) e in
    let b = both_true (v.stamp.n == 0) (is_none_of v.parents) a.1 in
    record { site = equal v.site 0 a.0; n = equal v.stamp.n 0 b.0; none = none_of v.parents b.1 }

-- what a commit is
pub record Committed (older : List Version) (v : Version) : Type 0 where
  pub low : 1 ≤ v.site
  pub high : v.site ≤ sites_max
  pub n : v.stamp.n ≡ next_number older v.file v.parents v.site

pub committed : (older : List Version) (v : Version) → is_numbered older v ≡ true → Committed older v
committed older v e =
    let a = both_true (nat_le 1 v.site) (nat_le v.site sites_max && (v.stamp.n == next_number older v.file v.parents v.site)) e in
    let b = both_true (nat_le v.site sites_max) (v.stamp.n == next_number older v.file v.parents v.site) a.1 in
    record { low = at_most 1 v.site a.0; high = at_most v.site sites_max b.0; n = equal v.stamp.n (next_number older v.file v.parents v.site) b.1 }

-- ---- versions of a file ----

pub here : (file : FileId) (v : Version) (b : Stamp) → is_version file b v ≡ true → (v.file ≡ file) × (v.stamp ≡ b)
here file v b t = let h = both_true (same_file v.file file) (same_stamp v.stamp b) t in (file_is v.file file h.0, same_stamp_eq v.stamp b h.1)

pub file_refl : (f : FileId) → same_file f f ≡ true
file_refl f = and_true (f.group == f.group) (f.ino == f.ino) (equal_self f.group) (equal_self f.ino)

-- what stands among the older ones isn't the newest
pub not_top : (file : FileId) (v : Version) (older : List Version) (a : Stamp) → is_in older v.file v.stamp ≡ false → is_in older file a ≡ true → is_version file a v ≡ false
not_top file v older a fresh e = false_unless (is_version file a v) (λ t.
    let h = here file v a t in
    true_false (sym (ap (λ f. is_in older f a) h.0 ∙ e) ∙ (ap (λ s. is_in older v.file s) (sym h.1) ∙ fresh)))

pub in_older : (file : FileId) (v : Version) (older : List Version) (a : Stamp) → is_version file a v ≡ false → is_in (v ∷ older) file a ≡ true → is_in older file a ≡ true
in_older file v older a t e = or_other (is_version file a v) (is_in older file a) t e

pub is_older : (file : FileId) (v : Version) (older : List Version) (a : Stamp) → is_in older file a ≡ true → is_in (v ∷ older) file a ≡ true
is_older file v older a e = or_second (is_version file a v) (is_in older file a) e

-- the ancestors of the newest, and of another
pub ancestor_top : (file : FileId) (v : Version) (older : List Version) (a b : Stamp) → is_version file b v ≡ true → is_ancestor (v ∷ older) file a b ≡ (same_stamp a b || list_any (is_ancestor older file a) v.parents)
ancestor_top file v older a b t = ap (λ x. cond x (same_stamp a b || list_any (is_ancestor older file a) v.parents) (is_ancestor older file a b)) t

pub ancestor_stays : (file : FileId) (v : Version) (older : List Version) (a b : Stamp) → is_version file b v ≡ false → is_ancestor (v ∷ older) file a b ≡ is_ancestor older file a b
ancestor_stays file v older a b t = ap (λ x. cond x (same_stamp a b || list_any (is_ancestor older file a) v.parents) (is_ancestor older file a b)) t

-- ---- some of the parents ----

-- what some of the parents that stand meets
pub some_parent : {X : Type 0} (p q : Stamp → Bool) (ps : List Stamp) → list_all p ps ≡ true → list_any q ps ≡ true → ((s : Stamp) → p s ≡ true → q s ≡ true → X) → X
some_parent p q [] all any go = absurd (false_true any)
some_parent p q (s ∷ ss) all any go =
    let a = both_true (p s) (list_all p ss) all in
    ⊎_elim
    (λ (e : q s ≡ true). go s a.0 e)
    (λ (e : q s ≡ false). some_parent p q ss a.1 (or_other (q s) (list_any q ss) e any) go)
    (cases_Bool (q s))

pub any_parent : (p q r : Stamp → Bool) (ps : List Stamp) → list_all p ps ≡ true → list_any q ps ≡ true → ((s : Stamp) → p s ≡ true → q s ≡ true → r s ≡ true) → list_any r ps ≡ true
any_parent p q r [] all any go = absurd (false_true any)
any_parent p q r (s ∷ ss) all any go =
    let a = both_true (p s) (list_all p ss) all in
    ⊎_elim
    (λ (e : q s ≡ true). or_first (r s) (list_any r ss) (go s a.0 e))
    (λ (e : q s ≡ false). or_second (r s) (list_any r ss) (any_parent p q r ss a.1 (or_other (q s) (list_any q ss) e any) go))
    (cases_Bool (q s))

pub at_most_greatest : (f : Stamp → ℕ) (p q : Stamp → Bool) (m : ℕ) (ps : List Stamp) → list_all p ps ≡ true → list_any q ps ≡ true → ((s : Stamp) → p s ≡ true → q s ≡ true → m ≤ f s) → m ≤ greatest f ps
at_most_greatest f p q m [] all any go = absurd (false_true any)
at_most_greatest f p q m (s ∷ ss) all any go =
    let a = both_true (p s) (list_all p ss) all in
    ⊎_elim
    (λ (e : q s ≡ true). let h : m ≤ f s = go s a.0 e in omega arith)
    (λ (e : q s ≡ false). let h : m ≤ greatest f ss = at_most_greatest f p q m ss a.1 (or_other (q s) (list_any q ss) e any) go in omega arith)
    (cases_Bool (q s))

-- a number that is reached, is reached by one of the parents
pub reached : (f : Stamp → ℕ) (r : Stamp → Bool) (m : ℕ) (ps : List Stamp) → 1 ≤ m → m ≤ greatest f ps → ((s : Stamp) → m ≤ f s → r s ≡ true) → list_any r ps ≡ true
reached f r m [] some h go = absurd (omega arith)
reached f r m (s ∷ ss) some h go = ⊎_elim
    (λ (e : f s < m). or_second (r s) (list_any r ss) (reached f r m ss some (omega arith) go))
    (λ (e : m ≤ f s). or_first (r s) (list_any r ss) (go s e))
    (cases_lt (f s) m)

pub one : (a b : ℕ) → a ≡ b → (let n : ℕ = cond (a == b) 1 0 in n ≡ 1)
one a b e = ap (λ (x : Bool). let n : ℕ = cond x 1 0 in n) (subst (λ c. (a == c) ≡ true) e (equal_self a))

pub at_most_one : (x : Bool) → (let n : ℕ = cond x 1 0 in n ≤ 1)
at_most_one true = omega arith
at_most_one false = omega arith

pub counter_top : (file : FileId) (v : Version) (older : List Version) (b : Stamp) (site : ℕ) → is_version file b v ≡ true → counter (v ∷ older) file b site ≡ greatest (λ p. counter older file p site) v.parents + cond (v.site == site) 1 0
counter_top file v older b site t = ap (λ x. cond x (greatest (λ p. counter older file p site) v.parents + cond (v.site == site) 1 0) (counter older file b site)) t
