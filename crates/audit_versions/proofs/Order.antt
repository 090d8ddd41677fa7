-- In a regular history ancestors are an order, which a new version leaves as it is.
use Rattle.std.proofs.Common.{ℕ, suc, ◌<◌, ◌≤◌, ◌≡◌, refl, sym, ap, ◌∙◌, Bool, true, false, not, ◌&&◌, ◌||◌, cond, List, [], ◌∷◌, length, arith, ⊎_elim}
use Rattle.std.proofs.lemmas.Bool.{cases_Bool}
use Rattle.std.specs.List.{list_any, filter}
use Rattle.plain_facts.proofs.Tests.{both_true, and_true, true_false, false_true, not_true, or_second, or_other, false_unless}
use Rattle.locus_ids.specs.Sizes.{sites_max}
use Rattle.locus_ids.specs.declared.ids.FileId.{FileId}
use Rattle.locus_ids.specs.declared.ids.Stamp.{Stamp}
use Rattle.commit_graph.specs.declared.history.Version.{Version}
use Rattle.commit_graph.specs.Versions.{same_stamp, is_version, is_in, is_ancestor, is_proper_ancestor, is_covered, kept, content_of}
use Rattle.commit_graph.specs.Counters.{counter}
use Rattle.commit_graph.specs.Vectors.{numbers_from, vector_of}
use Rattle.commit_graph.proofs.Names.{same_stamp_refl, same_stamp_eq}
use Rattle.audit_versions.specs.Regular.{is_regular}
use Rattle.audit_versions.specs.Keeping.{AllIn}
use Rattle.audit_versions.proofs.Lookups.{map_same, counter_stays}
use Rattle.audit_versions.proofs.Ancestors.{top, here, not_top, in_older, ancestor_top, ancestor_stays, any_parent}
use Rattle.audit_versions.proofs.Told.{parents_in, ancestor_in}

-- ---- what a new version leaves ----

-- an older version is older
pub apart : (file : FileId) (v : Version) (older : List Version) → is_regular (v ∷ older) ≡ true → (a : Stamp) → is_in older file a ≡ true → is_version file a v ≡ false
apart file v older r a e = not_top file v older a (top v older r).0.fresh e

pub content_stays : (file : FileId) (v : Version) (older : List Version) → is_regular (v ∷ older) ≡ true → (a : Stamp) → is_in older file a ≡ true → content_of (v ∷ older) file a ≡ content_of older file a
content_stays file v older r a e = ap (λ b. cond b v.content (content_of older file a)) (apart file v older r a e)

pub counters_stay : (file : FileId) (v : Version) (older : List Version) → is_regular (v ∷ older) ≡ true → (a : Stamp) → is_in older file a ≡ true → (site : ℕ) → counter (v ∷ older) file a site ≡ counter older file a site
counters_stay file v older r a e site = sym (counter_stays file a v older site (apart file v older r a e))

pub vector_stays : (file : FileId) (v : Version) (older : List Version) → is_regular (v ∷ older) ≡ true → (a : Stamp) → is_in older file a ≡ true → vector_of (v ∷ older) file a ≡ vector_of older file a
vector_stays file v older r a e = map_same (counter (v ∷ older) file a) (counter older file a) (numbers_from 1 sites_max) (counters_stay file v older r a e)

pub ancestors_stay : (file : FileId) (v : Version) (older : List Version) → is_regular (v ∷ older) ≡ true → (a b : Stamp) → is_in older file b ≡ true → is_ancestor (v ∷ older) file a b ≡ is_ancestor older file a b
ancestors_stay file v older r a b e = ancestor_stays file v older a b (apart file v older r b e)

pub covered_stays : (file : FileId) (v : Version) (older : List Version) → is_regular (v ∷ older) ≡ true → (a : Stamp) (cs : List Stamp) → AllIn older file cs → is_covered (v ∷ older) file cs a ≡ is_covered older file cs a
covered_stays file v older r a [] k = refl
covered_stays file v older r a (c ∷ cs) k =
    ap (λ x. (not (same_stamp a c) && x) || is_covered (v ∷ older) file cs a) (ancestors_stay file v older r a c k.0)
    ∙ ap (λ x. is_proper_ancestor older file a c || x) (covered_stays file v older r a cs k.1)

pub filter_same : {X : Type 0} (p q : X → Bool) (xs : List X) → ((x : X) → p x ≡ q x) → filter p xs ≡ filter q xs
filter_same p q [] same = refl
filter_same {X = X} p q (x ∷ xs) same = ap (λ b. cond b (x ∷ filter p xs) (filter p xs)) (same x) ∙ ap (λ ys. cond (q x) (x ∷ ys) ys) (filter_same p q xs same)

pub kept_stays : (file : FileId) (v : Version) (older : List Version) → is_regular (v ∷ older) ≡ true → (cs : List Stamp) → AllIn older file cs → kept (v ∷ older) file cs ≡ kept older file cs
kept_stays file v older r cs k = filter_same (λ a. not (is_covered (v ∷ older) file cs a)) (λ a. not (is_covered older file cs a)) cs (λ a. ap not (covered_stays file v older r a cs k))

-- ---- the order ----

-- of the newest only itself is a descendant
newest_above : (file : FileId) (v : Version) (older : List Version) → is_regular (v ∷ older) ≡ true → (a b : Stamp) → is_version file a v ≡ true → is_version file b v ≡ false → is_in older file b ≡ true → is_ancestor (v ∷ older) file a b ≡ true → ⊥
newest_above file v older r a b s t eb e =
    let in_a = ancestor_in file older (top v older r).1 a b eb (sym (ancestor_stays file v older a b t) ∙ e) in
    true_false (sym s ∙ apart file v older r a in_a)

pub ancestors_through : (file : FileId) (h : List Version) → is_regular h ≡ true → (a b c : Stamp) → is_in h file c ≡ true → is_ancestor h file a b ≡ true → is_ancestor h file b c ≡ true → is_ancestor h file a c ≡ true
ancestors_through file [] r a b c ec e f = absurd (false_true ec)
ancestors_through file (v ∷ older) r a b c ec e f =
    let k = top v older r in
    ⊎_elim
    (λ (t : is_version file c v ≡ true). ⊎_elim
    (λ (s : same_stamp b c ≡ true). ap (is_ancestor (v ∷ older) file a) (sym (same_stamp_eq b c s)) ∙ e)
    (λ (s : same_stamp b c ≡ false).
    let any = or_other (same_stamp b c) (list_any (is_ancestor older file b) v.parents) s (sym (ancestor_top file v older b c t) ∙ f) in
    ancestor_top file v older a c t ∙ or_second (same_stamp a c) (list_any (is_ancestor older file a) v.parents)
    (any_parent (is_in older file) (is_ancestor older file b) (is_ancestor older file a) v.parents (parents_in file v older c k.0 t) any
    (λ p i g. ancestors_through file older k.1 a b p i (sym (ancestors_stay file v older r a b (ancestor_in file older k.1 b p i g)) ∙ e) g)))
    (cases_Bool (same_stamp b c)))
    (λ (t : is_version file c v ≡ false).
    let ic = in_older file v older c t ec in
    let g = sym (ancestor_stays file v older b c t) ∙ f in
    let ib = ancestor_in file older k.1 b c ic g in
    ancestor_stays file v older a c t ∙ ancestors_through file older k.1 a b c ic (sym (ancestors_stay file v older r a b ib) ∙ e) g)
    (cases_Bool (is_version file c v))

pub ancestors_once : (file : FileId) (h : List Version) → is_regular h ≡ true → (a b : Stamp) → is_in h file a ≡ true → is_in h file b ≡ true → is_ancestor h file a b ≡ true → is_ancestor h file b a ≡ true → a ≡ b
ancestors_once file [] r a b ea eb e f = absurd (false_true ea)
ancestors_once file (v ∷ older) r a b ea eb e f = ⊎_elim
    (λ (s : is_version file a v ≡ true). ⊎_elim
    (λ (t : is_version file b v ≡ true). sym (here file v a s).1 ∙ (here file v b t).1)
    (λ (t : is_version file b v ≡ false). absurd (newest_above file v older r a b s t (in_older file v older b t eb) e))
    (cases_Bool (is_version file b v)))
    (λ (s : is_version file a v ≡ false). ⊎_elim
    (λ (t : is_version file b v ≡ true). absurd (newest_above file v older r b a t s (in_older file v older a s ea) f))
    (λ (t : is_version file b v ≡ false).
    let ia = in_older file v older a s ea in
    let ib = in_older file v older b t eb in
    ancestors_once file older (top v older r).1 a b ia ib (sym (ancestor_stays file v older a b t) ∙ e) (sym (ancestor_stays file v older b a s) ∙ f))
    (cases_Bool (is_version file b v)))
    (cases_Bool (is_version file a v))

-- a proper ancestor of a proper ancestor
pub proper_through : (file : FileId) (h : List Version) → is_regular h ≡ true → (a b c : Stamp) → is_in h file a ≡ true → is_in h file b ≡ true → is_in h file c ≡ true → is_proper_ancestor h file a b ≡ true → is_proper_ancestor h file b c ≡ true → is_proper_ancestor h file a c ≡ true
proper_through file h r a b c ea eb ec e f =
    let x = both_true (not (same_stamp a b)) (is_ancestor h file a b) e in
    let y = both_true (not (same_stamp b c)) (is_ancestor h file b c) f in
    and_true (not (same_stamp a c)) (is_ancestor h file a c)
    (ap not (false_unless (same_stamp a c) (λ s.
    let back = ap (is_ancestor h file b) (same_stamp_eq a c s) ∙ y.1 in
    let one : a ≡ b = ancestors_once file h r a b ea eb x.1 back in
    true_false (sym (ap (λ z. same_stamp z b) one ∙ same_stamp_refl b) ∙ not_true (same_stamp a b) x.0))))
    (ancestors_through file h r a b c ec x.1 y.1)

-- ---- how late a version came ----

abbrev pub lateness : List Version → FileId → Stamp → ℕ
lateness [] file a = 0
lateness (v ∷ older) file a = cond (is_version file a v) (suc (length older)) (lateness older file a)

pub late_at_most : (file : FileId) (h : List Version) (a : Stamp) → lateness h file a ≤ length h
late_at_most file [] a = omega arith
late_at_most file (v ∷ older) a = at (is_version file a v) (late_at_most file older a) where
  at : (b : Bool) → lateness older file a ≤ length older → cond b (suc (length older)) (lateness older file a) ≤ suc (length older)
  at true before = omega arith
  at false before = omega arith

late_top : (file : FileId) (v : Version) (older : List Version) (a : Stamp) → is_version file a v ≡ true → lateness (v ∷ older) file a ≡ suc (length older)
late_top file v older a t = ap (λ b. cond b (suc (length older)) (lateness older file a)) t

late_stays : (file : FileId) (v : Version) (older : List Version) (a : Stamp) → is_version file a v ≡ false → lateness (v ∷ older) file a ≡ lateness older file a
late_stays file v older a t = ap (λ b. cond b (suc (length older)) (lateness older file a)) t

pub proper_later : (file : FileId) (h : List Version) → is_regular h ≡ true → (a b : Stamp) → is_in h file b ≡ true → is_proper_ancestor h file a b ≡ true → lateness h file a < lateness h file b
proper_later file [] r a b eb e = absurd (false_true eb)
proper_later file (v ∷ older) r a b eb e =
    let k = top v older r in
    let x = both_true (not (same_stamp a b)) (is_ancestor (v ∷ older) file a b) e in
    let ea = ancestor_in file (v ∷ older) r a b eb x.1 in
    ⊎_elim
    (λ (t : is_version file b v ≡ true). ⊎_elim
    (λ (s : is_version file a v ≡ true). absurd (true_false (sym (ap (λ z. same_stamp z b) (sym (here file v a s).1 ∙ (here file v b t).1) ∙ same_stamp_refl b) ∙ not_true (same_stamp a b) x.0)))
    (λ (s : is_version file a v ≡ false). let low = late_at_most file older a in let p = late_top file v older b t in let q = late_stays file v older a s in omega (arith, low, p, q))
    (cases_Bool (is_version file a v)))
    (λ (t : is_version file b v ≡ false).
    let ib = in_older file v older b t eb in
    let f = sym (ancestor_stays file v older a b t) ∙ x.1 in
    let s = apart file v older r a (ancestor_in file older k.1 a b ib f) in
    let less = proper_later file older k.1 a b ib (and_true (not (same_stamp a b)) (is_ancestor older file a b) x.0 f) in
    let p = late_stays file v older b t in let q = late_stays file v older a s in omega (arith, less, p, q))
    (cases_Bool (is_version file b v))
