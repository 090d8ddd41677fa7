-- The table of opens, the index of its keys, and the instances that are open: what each change makes of them.
use Rattle.std.proofs.Common.{◌≡◌, ℕ, zero, suc, ◌+◌, ◌<◌, ◌&&◌, ◌||◌, Bool, true, false, cond, nat_eq, nat_lt, List, [], ◌∷◌, ◌++◌, map, filter, length, set, get_or, Option, Some, None, slice_get, refl, sym, ap, ◌∙◌, subst, arith}
use Rattle.std.specs.List.{list_any}
use Rattle.std.proofs.lemmas.Bool.Decides.{nat_tests}
use Rattle.keyed_tables.proofs.of_plain_facts.Numbers.{less_test}
use Rattle.locus_ids.specs.declared.ids.FileId.{FileId}
use Rattle.commit_graph.specs.Versions.{same_file}
use Rattle.keyed_tables.specs.of_role_steps.Tables.{row, with_row, without_row, with_latest}
use Rattle.keyed_tables.specs.of_role_steps.Opens.{open_key, is_open_stage, is_open_on, opener_of}
use Rattle.keyed_tables.specs.of_role_steps.declared.synchronizing.OpenRow.{OpenRow}
use Rattle.css_opens.specs.OpenIndex.{now_place, opener_now, is_now_on, open_now, open_from, now_of, with_now, with_open_now, settled_now, settled_open}
use Rattle.css_opens.specs.Settled.{is_open_some, settled_row, settled_rows}
use Rattle.css_opens.specs.Indexed.{Indexed}
use Rattle.css_opens.specs.declared.entry.Settling.{Settling}
use Rattle.css_opens.specs.declared.entry.Settling.TheVariants.{Grant, Refuse, End}
use Rattle.keyed_tables.specs.Places.{place_of}
use Rattle.keyed_tables.proofs.Placed.{found_latest, absent_latest, put_latest, row_placed}
use Rattle.css_opens.specs.declared.now.OpenNow.{OpenNow}

-- a place within a list has an element
past : (xs : List OpenRow) (p : ℕ) → p < length xs → slice_get xs p ≡ None → ⊥
past [] p l e = omega arith
past (x ∷ xs) zero l e = cc
past (x ∷ xs) (suc p) l e = past xs p (omega arith) e

-- the row of a key has that key
row_key : {A : Type 0} (key : A → ℕ) (k : ℕ) (xs : List A) (a : A) → row key k xs ≡ Some a → key a ≡ k
row_key key k [] a e = absurd (cc)
row_key {A = A} key k (x ∷ xs) a e = elim (nat_eq (key x) k) as (λ b. nat_eq (key x) k ≡ b → ◌≡◌ {A = Option A} (elim b [ true ↦ Some x | false ↦ row key k xs ]) (Some a) → key a ≡ k) [
  | true ↦ λ t f. (let same : x ≡ a = cc in let h : key x ≡ k = (grind (arith, nat_tests)) in ap key (sym same) ∙ h)
  | false ↦ λ t f. row_key key k xs a f
] refl e

-- ---- the instances that are open, row by row ----

open_yes : (n : ℕ) (r : OpenRow) (rs : List OpenRow) → is_open_stage r.stage ≡ true → open_from n (r ∷ rs) ≡ open_now n r ∷ open_from (n + 1) rs
open_yes n r rs e = rw (e, open_from) refl

open_no : (n : ℕ) (r : OpenRow) (rs : List OpenRow) → is_open_stage r.stage ≡ false → open_from n (r ∷ rs) ≡ open_from (n + 1) rs
open_no n r rs e = rw (e, open_from) refl

now_yes : (n : ℕ) (r : OpenRow) → is_open_stage r.stage ≡ true → now_of n r ≡ Some (open_now n r)
now_yes n r e = rw (e, now_of) refl

now_no : (n : ℕ) (r : OpenRow) → is_open_stage r.stage ≡ false → now_of n r ≡ None
now_no n r e = rw (e, now_of) refl

-- ---- a row behind others ----

unlike : (n m : ℕ) → n < m → nat_eq n m ≡ false
unlike n m l = grind (arith, nat_tests)

alike : (n : ℕ) → nat_eq n n ≡ true
alike n = grind (arith, nat_tests)

not_less : (n : ℕ) → nat_lt n n ≡ false
not_less n = grind (arith, nat_tests)

pass_row : (o y : OpenNow) (ys : List OpenNow) → now_place y < now_place o → with_row now_place o (y ∷ ys) ≡ y ∷ with_row now_place o ys
pass_row o y ys l = rw (less_test (now_place y) (now_place o) l, with_row) refl

pass_without : (p : ℕ) (y : OpenNow) (ys : List OpenNow) → now_place y < p → without_row now_place p (y ∷ ys) ≡ y ∷ without_row now_place p ys
pass_without p y ys l = rw (unlike (now_place y) p l, without_row) refl

replaced : (o y : OpenNow) (ys : List OpenNow) → now_place y ≡ now_place o → with_row now_place o (y ∷ ys) ≡ o ∷ ys
replaced o y ys e = rw (subst (λ n. nat_lt n (now_place o) ≡ false) (sym e) (not_less (now_place o)), subst (λ n. nat_eq n (now_place o) ≡ true) (sym e) (alike (now_place o)), with_row) refl

removed : (p : ℕ) (y : OpenNow) (ys : List OpenNow) → now_place y ≡ p → without_row now_place p (y ∷ ys) ≡ ys
removed p y ys e = rw (subst (λ n. nat_eq n p ≡ true) (sym e) (alike p), without_row) refl

pass_now : (place : ℕ) (r : OpenRow) (y : OpenNow) (ys : List OpenNow) → now_place y < place → with_open_now place r (y ∷ ys) ≡ y ∷ with_open_now place r ys
pass_now place r y ys l = by_stage (is_open_stage r.stage) refl where
  by_stage : (s : Bool) → is_open_stage r.stage ≡ s → with_open_now place r (y ∷ ys) ≡ y ∷ with_open_now place r ys
  by_stage true e = ap (λ o. with_now o (y ∷ ys)) (now_yes place r e) ∙ (pass_row (open_now place r) y ys l ∙ ap (λ o. y ∷ with_now o ys) (sym (now_yes place r e)))
  by_stage false e = ap (λ o. with_now o (y ∷ ys)) (now_no place r e) ∙ ap (λ o. y ∷ with_now o ys) (sym (now_no place r e))

pass_settled : (place : ℕ) (r : OpenRow) (y : OpenNow) (ys : List OpenNow) → now_place y < place → settled_open place r (y ∷ ys) ≡ y ∷ settled_open place r ys
pass_settled place r y ys l = by_stage (is_open_stage r.stage) refl where
  by_stage : (s : Bool) → is_open_stage r.stage ≡ s → settled_open place r (y ∷ ys) ≡ y ∷ settled_open place r ys
  by_stage true e = ap (λ o. settled_now place o (y ∷ ys)) (now_yes place r e) ∙ (pass_row (open_now place r) y ys l ∙ ap (λ o. y ∷ settled_now place o ys) (sym (now_yes place r e)))
  by_stage false e = ap (λ o. settled_now place o (y ∷ ys)) (now_no place r e) ∙ (pass_without place y ys l ∙ ap (λ o. y ∷ settled_now place o ys) (sym (now_no place r e)))

-- ---- one more row ----

push_behind : (n : ℕ) (x : OpenRow) (rs : List OpenRow) (r : OpenRow) → open_from (n + 1) (rs ++ r ∷ []) ≡ with_open_now ((n + 1) + length rs) r (open_from (n + 1) rs) → open_from n (x ∷ (rs ++ r ∷ [])) ≡ with_open_now (n + suc (length rs)) r (open_from n (x ∷ rs))
push_behind n x rs r before = by_stage (is_open_stage x.stage) refl where
  further : (n + 1) + length rs ≡ n + suc (length rs)
  further = omega arith

  rest : open_from (n + 1) (rs ++ r ∷ []) ≡ with_open_now (n + suc (length rs)) r (open_from (n + 1) rs)
  rest = before ∙ ap (λ m. with_open_now m r (open_from (n + 1) rs)) further

  by_stage : (s : Bool) → is_open_stage x.stage ≡ s → open_from n (x ∷ (rs ++ r ∷ [])) ≡ with_open_now (n + suc (length rs)) r (open_from n (x ∷ rs))
  by_stage true e =
      open_yes n x (rs ++ r ∷ []) e
      ∙ (ap (λ os. open_now n x ∷ os) rest
      ∙ (sym (pass_now (n + suc (length rs)) r (open_now n x) (open_from (n + 1) rs) (omega arith)) ∙ ap (with_open_now (n + suc (length rs)) r) (sym (open_yes n x rs e))))
  by_stage false e = open_no n x (rs ++ r ∷ []) e ∙ (rest ∙ ap (with_open_now (n + suc (length rs)) r) (sym (open_no n x rs e)))

open_push : (n : ℕ) (rs : List OpenRow) (r : OpenRow) → open_from n (rs ++ r ∷ []) ≡ with_open_now (n + length rs) r (open_from n rs)
open_push n [] r = by_stage (is_open_stage r.stage) refl where
  at_end : n ≡ n + 0
  at_end = omega arith

  by_stage : (s : Bool) → is_open_stage r.stage ≡ s → open_from n (r ∷ []) ≡ with_open_now (n + 0) r []
  by_stage true e = open_yes n r [] e ∙ (ap (λ m. open_now m r ∷ []) at_end ∙ ap (λ o. with_now o []) (sym (now_yes (n + 0) r e)))
  by_stage false e = open_no n r [] e ∙ ap (λ o. with_now o []) (sym (now_no (n + 0) r e))
open_push n (x ∷ rs) r = push_behind n x rs r (open_push (n + 1) rs r)

keys_push : (rs : List OpenRow) (r : OpenRow) → map open_key (rs ++ r ∷ []) ≡ map open_key rs ++ open_key r ∷ []
keys_push [] r = refl
keys_push (x ∷ rs) r = ap (λ ks. open_key x ∷ ks) (keys_push rs r)

pub indexed_push : (rows rows2 : List OpenRow) (keys keys2 : List ℕ) (nows nows2 : List OpenNow) (r : OpenRow) → Indexed rows keys nows → rows2 ≡ rows ++ r ∷ [] → keys2 ≡ keys ++ open_key r ∷ [] → nows2 ≡ with_open_now (length rows) r nows → Indexed rows2 keys2 nows2
indexed_push rows rows2 keys keys2 nows nows2 r h a b c = record {
  same_keys = b ∙ (ap (λ ks. ks ++ open_key r ∷ []) h.same_keys ∙ (sym (keys_push rows r) ∙ ap (map open_key) (sym a)));
  same_now = c ∙ (ap (with_open_now (length rows) r) h.same_now ∙ (ap (λ m. with_open_now m r (open_from 0 rows)) first ∙ (sym (open_push 0 rows r) ∙ ap (open_from 0) (sym a))));
} where
  first : length rows ≡ 0 + length rows
  first = omega arith

-- a row of a new key comes last
pub latest_new : {A : Type 0} (key : A → ℕ) (x : A) (xs : List A) → row key (key x) xs ≡ None → with_latest key x xs ≡ xs ++ x ∷ []
latest_new key x [] e = refl
latest_new {A = A} key x (y ∷ ys) e = elim (nat_eq (key y) (key x)) as (λ b. ◌≡◌ {A = Option A} (elim b [ true ↦ Some y | false ↦ row key (key x) ys ]) None → ◌≡◌ {A = List A} (elim b [ true ↦ x ∷ ys | false ↦ y ∷ with_latest key x ys ]) (y ∷ (ys ++ x ∷ []))) [
  | true ↦ λ f. absurd (cc)
  | false ↦ λ f. ap (λ zs. y ∷ zs) (latest_new key x ys f)
] e

-- ---- a row that is settled ----

settled_behind : (n : ℕ) (x : OpenRow) (rs : List OpenRow) (p : ℕ) (new : OpenRow) → open_from (n + 1) (set rs p new) ≡ settled_open ((n + 1) + p) new (open_from (n + 1) rs) → open_from n (x ∷ set rs p new) ≡ settled_open (n + suc p) new (open_from n (x ∷ rs))
settled_behind n x rs p new before = by_stage (is_open_stage x.stage) refl where
  further : (n + 1) + p ≡ n + suc p
  further = omega arith

  rest : open_from (n + 1) (set rs p new) ≡ settled_open (n + suc p) new (open_from (n + 1) rs)
  rest = before ∙ ap (λ m. settled_open m new (open_from (n + 1) rs)) further

  by_stage : (s : Bool) → is_open_stage x.stage ≡ s → open_from n (x ∷ set rs p new) ≡ settled_open (n + suc p) new (open_from n (x ∷ rs))
  by_stage true t =
      open_yes n x (set rs p new) t
      ∙ (ap (λ os. open_now n x ∷ os) rest
      ∙ (sym (pass_settled (n + suc p) new (open_now n x) (open_from (n + 1) rs) (omega arith)) ∙ ap (settled_open (n + suc p) new) (sym (open_yes n x rs t))))
  by_stage false t = open_no n x (set rs p new) t ∙ (rest ∙ ap (settled_open (n + suc p) new) (sym (open_no n x rs t)))

open_settled : (n : ℕ) (rs : List OpenRow) (p : ℕ) (old new : OpenRow) → slice_get rs p ≡ Some old → is_open_stage old.stage ≡ true → open_from n (set rs p new) ≡ settled_open (n + p) new (open_from n rs)
open_settled n [] p old new e o = absurd (cc)
open_settled n (x ∷ rs) zero old new e o = by_stage (is_open_stage new.stage) refl where
  same : x ≡ old
  same = cc

  here : open_from n (x ∷ rs) ≡ open_now n x ∷ open_from (n + 1) rs
  here = open_yes n x rs (ap (λ (r : OpenRow). is_open_stage r.stage) same ∙ o)

  at_start : n ≡ n + 0
  at_start = omega arith

  by_stage : (s : Bool) → is_open_stage new.stage ≡ s → open_from n (new ∷ rs) ≡ settled_open (n + 0) new (open_from n (x ∷ rs))
  by_stage true t =
      open_yes n new rs t
      ∙ (ap (λ m. open_now m new ∷ open_from (n + 1) rs) at_start
      ∙ (sym (replaced (open_now (n + 0) new) (open_now n x) (open_from (n + 1) rs) at_start)
      ∙ (ap (λ os. with_row now_place (open_now (n + 0) new) os) (sym here) ∙ ap (λ o2. settled_now (n + 0) o2 (open_from n (x ∷ rs))) (sym (now_yes (n + 0) new t)))))
  by_stage false t =
      open_no n new rs t
      ∙ (sym (removed (n + 0) (open_now n x) (open_from (n + 1) rs) at_start)
      ∙ (ap (λ os. without_row now_place (n + 0) os) (sym here) ∙ ap (λ o2. settled_now (n + 0) o2 (open_from n (x ∷ rs))) (sym (now_no (n + 0) new t))))
open_settled n (x ∷ rs) (suc p) old new e o = settled_behind n x rs p new (open_settled (n + 1) rs p old new e o)

keys_settled : (rs : List OpenRow) (p : ℕ) (old new : OpenRow) → slice_get rs p ≡ Some old → open_key new ≡ open_key old → map open_key rs ≡ map open_key (set rs p new)
keys_settled [] p old new e k = refl
keys_settled (x ∷ rs) zero old new e k = let same : x ≡ old = cc in ap (λ j. j ∷ map open_key rs) (ap open_key same ∙ sym k)
keys_settled (x ∷ rs) (suc p) old new e k = ap (λ ks. open_key x ∷ ks) (keys_settled rs p old new e k)

pub indexed_settled : (rows rows2 : List OpenRow) (keys : List ℕ) (nows nows2 : List OpenNow) (p : ℕ) (old new : OpenRow) → Indexed rows keys nows → slice_get rows p ≡ Some old → is_open_stage old.stage ≡ true → open_key new ≡ open_key old → rows2 ≡ set rows p new → nows2 ≡ settled_open p new nows → Indexed rows2 keys nows2
indexed_settled rows rows2 keys nows nows2 p old new h e o k a b = record {
  same_keys = h.same_keys ∙ (keys_settled rows p old new e k ∙ ap (map open_key) (sym a));
  same_now = b ∙ (ap (settled_open p new) h.same_now ∙ (ap (λ m. settled_open m new (open_from 0 rows)) first ∙ (sym (open_settled 0 rows p old new e o) ∙ ap (open_from 0) (sym a))));
} where
  first : p ≡ 0 + p
  first = omega arith

-- ---- who excludes whom ----

picked : {A : Type 0} (P : A → Bool) (x : A) (xs : List A) → P x ≡ true → filter P (x ∷ xs) ≡ x ∷ filter P xs
picked P x xs e = rw (e, filter) refl

left_out : {A : Type 0} (P : A → Bool) (x : A) (xs : List A) → P x ≡ false → filter P (x ∷ xs) ≡ filter P xs
left_out P x xs e = rw (e, filter) refl

both : (file : FileId) (r : OpenRow) (s m : Bool) → is_open_stage r.stage ≡ s → same_file r.file file ≡ m → is_open_on file r ≡ (m && s)
both file r s m e f = rw (e, f) refl

openers_behind : (file : FileId) (n : ℕ) (r : OpenRow) (rs : List OpenRow) → map opener_now (filter (is_now_on file) (open_from (n + 1) rs)) ≡ map opener_of (filter (is_open_on file) rs) → map opener_now (filter (is_now_on file) (open_from n (r ∷ rs))) ≡ map opener_of (filter (is_open_on file) (r ∷ rs))
openers_behind file n r rs before = by_cases (is_open_stage r.stage) (same_file r.file file) refl refl where
  by_cases : (s m : Bool) → is_open_stage r.stage ≡ s → same_file r.file file ≡ m → map opener_now (filter (is_now_on file) (open_from n (r ∷ rs))) ≡ map opener_of (filter (is_open_on file) (r ∷ rs))
  by_cases true true e f =
      ap (λ os. map opener_now (filter (is_now_on file) os)) (open_yes n r rs e)
      ∙ (ap (map opener_now) (picked (is_now_on file) (open_now n r) (open_from (n + 1) rs) f)
      ∙ (ap (λ os. opener_of r ∷ os) before ∙ sym (ap (map opener_of) (picked (is_open_on file) r rs (both file r true true e f)))))
  by_cases true false e f =
      ap (λ os. map opener_now (filter (is_now_on file) os)) (open_yes n r rs e)
      ∙ (ap (map opener_now) (left_out (is_now_on file) (open_now n r) (open_from (n + 1) rs) f)
      ∙ (before ∙ sym (ap (map opener_of) (left_out (is_open_on file) r rs (both file r true false e f)))))
  by_cases false true e f =
      ap (λ os. map opener_now (filter (is_now_on file) os)) (open_no n r rs e) ∙ (before ∙ sym (ap (map opener_of) (left_out (is_open_on file) r rs (both file r false true e f))))
  by_cases false false e f =
      ap (λ os. map opener_now (filter (is_now_on file) os)) (open_no n r rs e) ∙ (before ∙ sym (ap (map opener_of) (left_out (is_open_on file) r rs (both file r false false e f))))

pub openers_now : (file : FileId) (n : ℕ) (rs : List OpenRow) → map opener_now (filter (is_now_on file) (open_from n rs)) ≡ map opener_of (filter (is_open_on file) rs)
openers_now file n [] = refl
openers_now file n (r ∷ rs) = openers_behind file n r rs (openers_now file (n + 1) rs)

any_behind : (file : FileId) (n : ℕ) (r : OpenRow) (rs : List OpenRow) → list_any (is_now_on file) (open_from (n + 1) rs) ≡ list_any (is_open_on file) rs → list_any (is_now_on file) (open_from n (r ∷ rs)) ≡ list_any (is_open_on file) (r ∷ rs)
any_behind file n r rs before = by_cases (is_open_stage r.stage) (same_file r.file file) refl refl where
  by_cases : (s m : Bool) → is_open_stage r.stage ≡ s → same_file r.file file ≡ m → list_any (is_now_on file) (open_from n (r ∷ rs)) ≡ list_any (is_open_on file) (r ∷ rs)
  by_cases true true e f = ap (list_any (is_now_on file)) (open_yes n r rs e) ∙ (ap (λ b. b || list_any (is_now_on file) (open_from (n + 1) rs)) f ∙ sym (ap (λ b. b || list_any (is_open_on file) rs) (both file r true true e f)))
  by_cases true false e f = ap (list_any (is_now_on file)) (open_yes n r rs e) ∙ (ap (λ b. b || list_any (is_now_on file) (open_from (n + 1) rs)) f ∙ (before ∙ sym (ap (λ b. b || list_any (is_open_on file) rs) (both file r true false e f))))
  by_cases false true e f = ap (list_any (is_now_on file)) (open_no n r rs e) ∙ (before ∙ sym (ap (λ b. b || list_any (is_open_on file) rs) (both file r false true e f)))
  by_cases false false e f = ap (list_any (is_now_on file)) (open_no n r rs e) ∙ (before ∙ sym (ap (λ b. b || list_any (is_open_on file) rs) (both file r false false e f)))

pub any_now : (file : FileId) (n : ℕ) (rs : List OpenRow) → list_any (is_now_on file) (open_from n rs) ≡ list_any (is_open_on file) rs
any_now file n [] = refl
any_now file n (r ∷ rs) = any_behind file n r rs (any_now file (n + 1) rs)

-- the instances at hand exclude as those of the table do
pub same_openers : (file : FileId) (xs ys : List OpenRow) (keys : List ℕ) (nows : List OpenNow) → Indexed xs keys nows → xs ≡ ys → map opener_now (filter (is_now_on file) nows) ≡ map opener_of (filter (is_open_on file) ys)
same_openers file xs ys keys nows h view = ap (λ os. map opener_now (filter (is_now_on file) os)) h.same_now ∙ (openers_now file 0 xs ∙ ap (λ (rs : List OpenRow). map opener_of (filter (is_open_on file) rs)) view)

pub same_any : (file : FileId) (xs ys : List OpenRow) (keys : List ℕ) (nows : List OpenNow) → Indexed xs keys nows → xs ≡ ys → list_any (is_now_on file) nows ≡ list_any (is_open_on file) ys
same_any file xs ys keys nows h view = ap (list_any (is_now_on file)) h.same_now ∙ (any_now file 0 xs ∙ ap (list_any (is_open_on file)) view)

-- ---- the table at a place that the index gives ----

pub found_open : (k j p : ℕ) (xs ys : List OpenRow) (keys : List ℕ) (nows : List OpenNow) (d : OpenRow) → Indexed xs keys nows → xs ≡ ys → k ≡ j → Some p ≡ place_of k keys → d ≡ get_or xs p d → ◌≡◌ {A = Option OpenRow} (Some d) (row open_key j ys)
found_open k j p xs ys keys nows d h view same e r = sym (ap (λ i. row open_key i ys) (sym same) ∙ (ap (row open_key k) (sym view) ∙ found_latest open_key k xs keys p d h.same_keys e r))

pub absent_open : (k j : ℕ) (xs ys : List OpenRow) (keys : List ℕ) (nows : List OpenNow) → Indexed xs keys nows → xs ≡ ys → k ≡ j → None ≡ place_of k keys → ◌≡◌ {A = Option OpenRow} None (row open_key j ys)
absent_open k j xs ys keys nows h view same e = sym (ap (λ i. row open_key i ys) (sym same) ∙ (ap (row open_key k) (sym view) ∙ absent_latest open_key k xs keys h.same_keys e))

pub pushed : (xs ys put : List OpenRow) (x : OpenRow) → xs ≡ ys → row open_key (open_key x) ys ≡ None → put ≡ xs ++ x ∷ [] → put ≡ with_latest open_key x ys
pushed xs ys put x view none e = e ∙ (ap (λ (zs : List OpenRow). zs ++ x ∷ []) view ∙ sym (latest_new open_key x ys none))

pub indexed_none : (rows : List OpenRow) (keys : List ℕ) (nows : List OpenNow) → rows ≡ [] → keys ≡ [] → nows ≡ [] → Indexed rows keys nows
indexed_none rows keys nows a b c = record { same_keys = b ∙ sym (ap (map open_key) a); same_now = c ∙ sym (ap (open_from 0) a) }

row_at : (k j p : ℕ) (xs ys : List OpenRow) (keys : List ℕ) (nows : List OpenNow) (r : OpenRow) → Indexed xs keys nows → xs ≡ ys → k ≡ j → Some p ≡ place_of k keys → slice_get xs p ≡ Some r → row open_key j ys ≡ Some r
row_at k j p xs ys keys nows r h view same e at =
    ap (λ i. row open_key i ys) (sym same) ∙ (ap (row open_key k) (sym view) ∙ ((row_placed open_key k xs p (sym (e ∙ ap (place_of k) h.same_keys))).1 ∙ at))

pub open_at : (k j p : ℕ) (xs ys : List OpenRow) (keys : List ℕ) (nows : List OpenNow) → Indexed xs keys nows → xs ≡ ys → k ≡ j → Some p ≡ place_of k keys → is_open_some (row open_key j ys) ≡ true → (r : OpenRow) → slice_get xs p ≡ Some r → is_open_stage r.stage ≡ true
open_at k j p xs ys keys nows h view same e o r at = sym (ap is_open_some (row_at k j p xs ys keys nows r h view same e at)) ∙ o

settled_key : (s : Settling) (r : OpenRow) → open_key (settled_row s r) ≡ open_key r
settled_key (Grant ino size) r = refl
settled_key (Refuse why) r = refl
settled_key End r = refl

pub within_rows : (k p : ℕ) (xs : List OpenRow) (keys : List ℕ) (nows : List OpenNow) → Indexed xs keys nows → Some p ≡ place_of k keys → p < length xs
within_rows k p xs keys nows h e = (row_placed open_key k xs p (sym (e ∙ ap (place_of k) h.same_keys))).0

pub settled_indexed : (s : Settling) (p : ℕ) (xs put : List OpenRow) (keys : List ℕ) (nows nows2 : List OpenNow) → Indexed xs keys nows → p < length xs → ((r : OpenRow) → slice_get xs p ≡ Some r → is_open_stage r.stage ≡ true) → ((r : OpenRow) → slice_get xs p ≡ Some r → put ≡ set xs p (settled_row s r)) → ((r : OpenRow) → slice_get xs p ≡ Some r → nows2 ≡ settled_open p (settled_row s r) nows) → Indexed put keys nows2
settled_indexed s p xs put keys nows nows2 h l o a b = at_place (slice_get xs p) refl where
  at_place : (found : Option OpenRow) → slice_get xs p ≡ found → Indexed put keys nows2
  at_place None e = absurd (past xs p l e)
  at_place (Some r) e = indexed_settled xs put keys nows nows2 p r (settled_row s r) h e (o r e) (settled_key s r) (a r e) (b r e)

pub settled_table : (s : Settling) (k j p : ℕ) (xs ys put : List OpenRow) (keys : List ℕ) (nows : List OpenNow) → Indexed xs keys nows → xs ≡ ys → k ≡ j → Some p ≡ place_of k keys → p < length xs → ((r : OpenRow) → slice_get xs p ≡ Some r → put ≡ set xs p (settled_row s r)) → put ≡ settled_rows s (row open_key j ys) ys
settled_table s k j p xs ys put keys nows h view same e l a = at_place (slice_get xs p) refl where
  at_place : (found : Option OpenRow) → slice_get xs p ≡ found → put ≡ settled_rows s (row open_key j ys) ys
  at_place None f = absurd (past xs p l f)
  at_place (Some r) f =
      let found : row open_key j ys ≡ Some r = row_at k j p xs ys keys nows r h view same e f in
      let its_key : open_key r ≡ k = row_key open_key k xs r (row_at k k p xs xs keys nows r h refl refl e f) in
      a r f
      ∙ (sym (put_latest open_key (settled_row s r) k xs keys p h.same_keys (sym (settled_key s r ∙ its_key)) e)
      ∙ (ap (with_latest open_key (settled_row s r)) view ∙ ap (λ (q : Option OpenRow). settled_rows s q ys) (sym found)))

pub settled_nothing : (s : Settling) (k j : ℕ) (xs ys : List OpenRow) (keys : List ℕ) (nows : List OpenNow) → Indexed xs keys nows → xs ≡ ys → k ≡ j → None ≡ place_of k keys → ys ≡ settled_rows s (row open_key j ys) ys
settled_nothing s k j xs ys keys nows h view same e = ap (λ (q : Option OpenRow). settled_rows s q ys) (absent_open k j xs ys keys nows h view same e)
