-- Of a file's versions, which ascend by site, the last of each site; and that only the first of a site can be without a number.
use Rattle.std.proofs.Common.{◌≡◌, ℕ, zero, suc, ◌+◌, ◌<◌, ◌≤◌, ◌==◌, Bool, true, false, not, ◌&&◌, ◌||◌, cond, List, [], ◌∷◌, ◌++◌, length, map, filter, drop, get_or, refl, sym, ap, ◌∙◌, subst, arith}
use Rattle.std.specs.Prelude.{nat_lt}
use Rattle.std.specs.List.{list_all}
use Rattle.std.specs.List.Sorted.{IsPartitionedBy, IsPartitionPoint}
use Rattle.std.proofs.lemmas.Bool.Decides.{nat_tests}
use Rattle.locus_ids.specs.declared.ids.FileId.{FileId}
use Rattle.locus_ids.specs.declared.ids.Stamp.{Stamp}
use Rattle.commit_graph.specs.Versions.{same_file, is_stamp_below}
use Rattle.past_laws.specs.of_promises.Past.{Copy}
use Rattle.past_laws.specs.of_promises.After.{is_copy_below}
use Rattle.past_laws.specs.Agreement.{ascends}
use Rattle.past_laws.proofs.Names.{both, both_parts, number_eq}
use Rattle.audit_versions.specs.Keeping.{ascend, has_number, tops}
use Rattle.audit_copies.specs.Below.{IsSplit}

abbrev pub stamps : List Copy → List Stamp
stamps vs = map (λ (v : Copy). v.stamp) vs

abbrev pub of_file : FileId → List Copy → List Copy
of_file f vs = filter (λ (v : Copy). same_file v.file f) vs

-- ---- the stamps of a file's versions ascend ----

by_stamp : (a b c d f i : ℕ) (rest : Bool) → ((a == f) && (b == i)) ≡ true → ((c == f) && (d == i)) ≡ true → (nat_lt a c || ((a == c) && (nat_lt b d || ((b == d) && rest)))) ≡ true → rest ≡ true
by_stamp a b c d f i rest g h k = grind (arith, nat_tests)

all_above : (v : Copy) (f : FileId) (vs : List Copy) → same_file v.file f ≡ true → list_all (is_copy_below v) vs ≡ true → list_all (is_stamp_below v.stamp) (stamps (of_file f vs)) ≡ true
all_above v f [] e h = refl
all_above v f (w ∷ ws) e h = at (all_above v f ws e parts.1) (same_file w.file f) refl
  where
    parts : (is_copy_below v w ≡ true) × (list_all (is_copy_below v) ws ≡ true)
    parts = both_parts (is_copy_below v w) (list_all (is_copy_below v) ws) h

    at : list_all (is_stamp_below v.stamp) (stamps (of_file f ws)) ≡ true → (b : Bool) → same_file w.file f ≡ b → list_all (is_stamp_below v.stamp) (stamps (cond b (w ∷ of_file f ws) (of_file f ws))) ≡ true
    at later true g =
        both (is_stamp_below v.stamp w.stamp) (list_all (is_stamp_below v.stamp) (stamps (of_file f ws)))
        (by_stamp v.file.group v.file.ino w.file.group w.file.ino f.group f.ino (is_stamp_below v.stamp w.stamp) e g parts.0) later
    at later false g = later

pub file_ascends : (f : FileId) (vs : List Copy) → ascends is_copy_below vs ≡ true → ascends is_stamp_below (stamps (of_file f vs)) ≡ true
file_ascends f [] h = refl
file_ascends f (v ∷ vs) h = at (file_ascends f vs parts.1) (same_file v.file f) refl
  where
    parts : (list_all (is_copy_below v) vs ≡ true) × (ascends is_copy_below vs ≡ true)
    parts = both_parts (list_all (is_copy_below v) vs) (ascends is_copy_below vs) h

    at : ascends is_stamp_below (stamps (of_file f vs)) ≡ true → (b : Bool) → same_file v.file f ≡ b → ascends is_stamp_below (stamps (cond b (v ∷ of_file f vs) (of_file f vs))) ≡ true
    at later true e = both (list_all (is_stamp_below v.stamp) (stamps (of_file f vs))) (ascends is_stamp_below (stamps (of_file f vs))) (all_above v f vs e parts.0) later
    at later false e = later

-- each is below the next
pub next_above : (ss : List Stamp) → ascends is_stamp_below ss ≡ true → ascend ss ≡ true
next_above [] h = refl
next_above (s ∷ []) h = refl
next_above (s ∷ t ∷ ts) h =
    let parts : (list_all (is_stamp_below s) (t ∷ ts) ≡ true) × (ascends is_stamp_below (t ∷ ts) ≡ true) = both_parts (list_all (is_stamp_below s) (t ∷ ts)) (ascends is_stamp_below (t ∷ ts)) h in
    both (is_stamp_below s t) (ascend (t ∷ ts)) (both_parts (is_stamp_below s t) (list_all (is_stamp_below s) ts) parts.0).0 (next_above (t ∷ ts) parts.1)

-- ---- behind the first of a site stand its others ----

abbrev pub of_site : ℕ → Copy → Bool
of_site site v = site == v.stamp.site

below_at : (s : Stamp) (vs : List Copy) (i : ℕ) (d : Copy) → i < length vs → list_all (is_stamp_below s) (stamps vs) ≡ true → is_stamp_below s (get_or vs i d).stamp ≡ true
below_at s [] i d l h = absurd (omega (arith, l))
below_at s (v ∷ vs) zero d l h = (both_parts (is_stamp_below s v.stamp) (list_all (is_stamp_below s) (stamps vs)) h).0
below_at s (v ∷ vs) (suc i) d l h = below_at s vs i d (omega (arith, l)) (both_parts (is_stamp_below s v.stamp) (list_all (is_stamp_below s) (stamps vs)) h).1

between : (a b c d e f : ℕ) → (nat_lt a c || ((a == c) && nat_lt b d)) ≡ true → (nat_lt c e || ((c == e) && nat_lt d f)) ≡ true → (a == e) ≡ true → (a == c) ≡ true
between a b c d e f h k g = grind (arith, nat_tests)

parted : (x : Copy) (vs : List Copy) → list_all (is_stamp_below x.stamp) (stamps vs) ≡ true → ascends is_stamp_below (stamps vs) ≡ true → IsPartitionedBy (of_site x.stamp.site) vs
parted x [] low up i j d le l h = absurd (omega (arith, l))
parted x (v ∷ vs) low up zero zero d le l h = h
parted x (v ∷ vs) low up zero (suc j) d le l h =
    let lows : (is_stamp_below x.stamp v.stamp ≡ true) × (list_all (is_stamp_below x.stamp) (stamps vs) ≡ true) = both_parts (is_stamp_below x.stamp v.stamp) (list_all (is_stamp_below x.stamp) (stamps vs)) low in
    let ups : (list_all (is_stamp_below v.stamp) (stamps vs) ≡ true) × (ascends is_stamp_below (stamps vs) ≡ true) = both_parts (list_all (is_stamp_below v.stamp) (stamps vs)) (ascends is_stamp_below (stamps vs)) up in
    between x.stamp.site x.stamp.n v.stamp.site v.stamp.n (get_or vs j d).stamp.site (get_or vs j d).stamp.n lows.0 (below_at v.stamp vs j d (omega (arith, l)) ups.0) h
parted x (v ∷ vs) low up (suc i) zero d le l h = absurd (omega (arith, le))
parted x (v ∷ vs) low up (suc i) (suc j) d le l h =
    parted x vs (both_parts (is_stamp_below x.stamp v.stamp) (list_all (is_stamp_below x.stamp) (stamps vs)) low).1
    (both_parts (list_all (is_stamp_below v.stamp) (stamps vs)) (ascends is_stamp_below (stamps vs)) up).1 i j d (omega (arith, le)) (omega (arith, l)) h

-- the first so many are of the site, and the next one isn't
pub record Ends (site : ℕ) (vs : List Copy) (m : ℕ) : Type 0 where
  pub within : m ≤ length vs
  pub first : (i : ℕ) (d : Copy) → i < m → of_site site (get_or vs i d) ≡ true
  pub next : (d : Copy) → m < length vs → of_site site (get_or vs m d) ≡ false

ends_by : (x : Copy) (vs : List Copy) (m : ℕ) → ascends is_stamp_below (stamps (x ∷ vs)) ≡ true → m ≤ length vs → (IsPartitionedBy (of_site x.stamp.site) vs → IsSplit (of_site x.stamp.site) vs m) → Ends x.stamp.site vs m
ends_by x vs m up l split =
    let ups : (list_all (is_stamp_below x.stamp) (stamps vs) ≡ true) × (ascends is_stamp_below (stamps vs) ≡ true) = both_parts (list_all (is_stamp_below x.stamp) (stamps vs)) (ascends is_stamp_below (stamps vs)) up in
    let s : IsSplit (of_site x.stamp.site) vs m = split (parted x vs ups.0 ups.1) in
    record { within = l; first = s.first; next = λ d h. s.other m d (omega arith) h }

-- ---- the last of a site ----

abbrev pub Top : Copy → List Copy → ℕ → Copy → Type 0
Top x vs m d = tops (stamps (x ∷ vs)) ≡ (get_or (x ∷ vs) m d).stamp ∷ tops (stamps (drop m vs))

top_at : (x : Copy) (vs : List Copy) (m : ℕ) (d : Copy) → Ends x.stamp.site vs m → Top x vs m d
top_at x [] zero d e = refl
top_at x [] (suc m) d e = absurd (let l : suc m ≤ 0 = e.within in omega (arith, l))
top_at x (v ∷ vs) zero d e = ap (λ b. cond b (tops (stamps (v ∷ vs))) (x.stamp ∷ tops (stamps (v ∷ vs)))) (e.next d (omega arith))
top_at x (v ∷ vs) (suc m) d e =
    ap (λ b. cond b (tops (stamps (v ∷ vs))) (x.stamp ∷ tops (stamps (v ∷ vs)))) same
    ∙ top_at v vs m d (record {
      within = let l : suc m ≤ suc (length vs) = e.within in omega (arith, l);
      first = λ i c h. ap (λ s. s == (get_or vs i c).stamp.site) (sym site) ∙ e.first (suc i) c (omega (arith, h));
      next = λ c h. ap (λ s. s == (get_or vs m c).stamp.site) (sym site) ∙ e.next c (omega (arith, h));
    })
  where
    same : (x.stamp.site == v.stamp.site) ≡ true
    same = e.first 0 d (omega arith)

    site : x.stamp.site ≡ v.stamp.site
    site = number_eq x.stamp.site v.stamp.site same

-- ---- all but its first have a number ----

numbered : (a b c d : ℕ) → (nat_lt a c || ((a == c) && nat_lt b d)) ≡ true → (a == c) ≡ true → ((c == 0) || not (d == 0)) ≡ true
numbered a b c d h k = grind (arith, nat_tests)

others_numbered : (x : Copy) (vs : List Copy) (m : ℕ) → list_all (is_stamp_below x.stamp) (stamps vs) ≡ true → m ≤ length vs → ((i : ℕ) (d : Copy) → i < m → of_site x.stamp.site (get_or vs i d) ≡ true)
    → list_all has_number (stamps vs) ≡ list_all has_number (stamps (drop m vs))
others_numbered x vs zero low l first = refl
others_numbered x [] (suc m) low l first = absurd (omega (arith, l))
others_numbered x (v ∷ vs) (suc m) low l first =
    let lows : (is_stamp_below x.stamp v.stamp ≡ true) × (list_all (is_stamp_below x.stamp) (stamps vs) ≡ true) = both_parts (is_stamp_below x.stamp v.stamp) (list_all (is_stamp_below x.stamp) (stamps vs)) low in
    ap (λ b. b && list_all has_number (stamps vs)) (numbered x.stamp.site x.stamp.n v.stamp.site v.stamp.n lows.0 (first 0 v (omega arith)))
    ∙ others_numbered x vs m lows.1 (omega (arith, l)) (λ i d h. first (suc i) d (omega (arith, h)))

-- ---- the same of the site that begins at a place ----

pub split_of : (p : Copy → Bool) (vs : List Copy) (m : ℕ) → m ≤ length vs → IsPartitionPoint (λ y. p y ≡ true) (λ y. p y ≡ false) vs m → IsSplit p vs m
split_of p vs m l two = record { within = l; first = λ i d h. two.0 i d (omega arith) h; other = λ i d h k. two.1 i d h k }

-- so many behind the place are of the site that stands there
pub record Many (vs : List Copy) (at m : ℕ) : Type 0 where
  pub inside : at < length vs
  pub order : ascends is_stamp_below (stamps vs) ≡ true
  pub within : m ≤ length (drop (suc at) vs)
  pub split : (c : Copy) → IsPartitionedBy (of_site (get_or vs at c).stamp.site) (drop (suc at) vs) → IsSplit (of_site (get_or vs at c).stamp.site) (drop (suc at) vs) m

pub many_by : (vs rest : List Copy) (at k m site : ℕ) → at < length vs → ascends is_stamp_below (stamps vs) ≡ true → k ≡ suc at → rest ≡ drop k vs → m ≤ length rest → ((c : Copy) → site ≡ (get_or vs at c).stamp.site)
    → (IsPartitionedBy (of_site site) rest → IsSplit (of_site site) rest m) → Many vs at m
many_by vs rest at k m site l up next lent in_rest own split =
    let r : rest ≡ drop (suc at) vs = lent ∙ ap (λ i. drop i vs) next in
    record {
      inside = l;
      order = up;
      within = subst (λ (ys : List Copy). m ≤ length ys) r in_rest;
      split = λ c. subst (λ (s : ℕ). IsPartitionedBy (of_site s) (drop (suc at) vs) → IsSplit (of_site s) (drop (suc at) vs) m) (own c)
          (subst (λ (ys : List Copy). IsPartitionedBy (of_site site) ys → IsSplit (of_site site) ys m) r split);
    }

rest_many : (x : Copy) (vs : List Copy) (at m : ℕ) → Many (x ∷ vs) (suc at) m → Many vs at m
rest_many x vs at m k = record {
  inside = let l : suc at < suc (length vs) = k.inside in omega (arith, l);
  order = (both_parts (list_all (is_stamp_below x.stamp) (stamps vs)) (ascends is_stamp_below (stamps vs)) k.order).1;
  within = k.within;
  split = k.split;
}

pub last_top : (vs : List Copy) (at m : ℕ) (d : Copy) → Many vs at m → tops (stamps (drop at vs)) ≡ (get_or vs (at + m) d).stamp ∷ tops (stamps (drop (suc (at + m)) vs))
last_top [] at m d k = absurd (let l : at < 0 = k.inside in omega (arith, l))
last_top (x ∷ vs) zero m d k =
    let e : m ≡ 0 + m = omega arith in
    subst (λ (i : ℕ). tops (stamps (x ∷ vs)) ≡ (get_or (x ∷ vs) i d).stamp ∷ tops (stamps (drop i vs))) e (top_at x vs m d (ends_by x vs m k.order k.within (k.split d)))
last_top (x ∷ vs) (suc at) m d k =
    let e : suc (at + m) ≡ suc at + m = omega arith in
    subst (λ (i : ℕ). tops (stamps (drop at vs)) ≡ (get_or (x ∷ vs) i d).stamp ∷ tops (stamps (drop i vs))) e (last_top vs at m d (rest_many x vs at m k))

pub last_numbers : (vs : List Copy) (at m : ℕ) (d : Copy) → Many vs at m → list_all has_number (stamps (drop at vs)) ≡ (has_number (get_or vs at d).stamp && list_all has_number (stamps (drop (suc (at + m)) vs)))
last_numbers [] at m d k = absurd (let l : at < 0 = k.inside in omega (arith, l))
last_numbers (x ∷ vs) zero m d k =
    let ends : Ends x.stamp.site vs m = ends_by x vs m k.order k.within (k.split d) in
    let e : m ≡ 0 + m = omega arith in
    subst (λ (i : ℕ). list_all has_number (stamps (x ∷ vs)) ≡ (has_number x.stamp && list_all has_number (stamps (drop i vs)))) e
    (ap (λ b. has_number x.stamp && b)
    (others_numbered x vs m (both_parts (list_all (is_stamp_below x.stamp) (stamps vs)) (ascends is_stamp_below (stamps vs)) k.order).0 ends.within ends.first))
last_numbers (x ∷ vs) (suc at) m d k =
    let e : suc (at + m) ≡ suc at + m = omega arith in
    subst (λ (i : ℕ). list_all has_number (stamps (drop at vs)) ≡ (has_number (get_or vs at d).stamp && list_all has_number (stamps (drop i vs)))) e (last_numbers vs at m d (rest_many x vs at m k))

-- ---- a walk from site to site ----

pub any_copy : Copy
any_copy = record { file = record { group = 0; ino = 0 }; stamp = record { site = 0; n = 0 } }

one_behind : (ss : List Stamp) (t : Stamp) (ts : List Stamp) → (ss ++ t ∷ []) ++ ts ≡ ss ++ t ∷ ts
one_behind [] t ts = refl
one_behind (s ∷ ss) t ts = ap (λ rs. s ∷ rs) (one_behind ss t ts)

pub tops_on : (made more : List Stamp) (vs : List Copy) (at last next : ℕ) (s : Stamp) → made ++ tops (stamps (drop at vs)) ≡ tops (stamps vs)
    → tops (stamps (drop at vs)) ≡ (get_or vs last any_copy).stamp ∷ tops (stamps (drop (suc last) vs)) → s ≡ (get_or vs last any_copy).stamp → next ≡ suc last → more ≡ made ++ s ∷ []
    → more ++ tops (stamps (drop next vs)) ≡ tops (stamps vs)
tops_on made more vs at last next s before step own behind pushed =
    ap (λ ss. ss ++ tops (stamps (drop next vs))) pushed
    ∙ (one_behind made s (tops (stamps (drop next vs)))
    ∙ (ap (λ i. made ++ s ∷ tops (stamps (drop i vs))) behind
    ∙ (ap (λ t. made ++ t ∷ tops (stamps (drop (suc last) vs))) own
    ∙ (ap (λ ss. made ++ ss) (sym step) ∙ before))))

-- one without a number
pub without : (vs : List Copy) (at : ℕ) → at < length vs → has_number (get_or vs at any_copy).stamp ≡ false → list_all has_number (stamps (drop at vs)) ≡ false
without [] at l h = absurd (omega (arith, l))
without (v ∷ vs) zero l h = ap (λ b. b && list_all has_number (stamps vs)) h
without (v ∷ vs) (suc at) l h = without vs at (omega (arith, l)) h

pub numbers_on : (vs : List Copy) (at last next : ℕ) (s : Stamp) → list_all has_number (stamps (drop at vs)) ≡ list_all has_number (stamps vs)
    → list_all has_number (stamps (drop at vs)) ≡ (has_number (get_or vs at any_copy).stamp && list_all has_number (stamps (drop (suc last) vs))) → s ≡ (get_or vs at any_copy).stamp → has_number s ≡ true → next ≡ suc last
    → list_all has_number (stamps (drop next vs)) ≡ list_all has_number (stamps vs)
numbers_on vs at last next s before step own numbered behind =
    ap (λ i. list_all has_number (stamps (drop i vs))) behind
    ∙ (ap (λ b. b && list_all has_number (stamps (drop (suc last) vs))) (sym (ap has_number (sym own) ∙ numbered)) ∙ (sym step ∙ before))

-- ---- the same of a file's versions in a table ----

pub numbers_are : (said : Bool) (found vs : List Copy) → ascends is_stamp_below (stamps found) ≡ true → found ≡ vs → said ≡ list_all has_number (stamps found) → said ≡ (ascend (stamps vs) && list_all has_number (stamps vs))
numbers_are said found vs up same told =
    told
    ∙ (ap (λ b. b && list_all has_number (stamps found)) (sym (next_above (stamps found) up))
    ∙ ap (λ (ws : List Copy). ascend (stamps ws) && list_all has_number (stamps ws)) same)
