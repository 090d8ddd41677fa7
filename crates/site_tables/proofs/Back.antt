-- A table that is taken out, changed and put back.
use Rattle.std.proofs.Common.{◌≡◌, ◌≢◌, ℕ, zero, suc, ◌+◌, ◌<◌, List, [], ◌∷◌, ◌++◌, length, drop, get_or, Option, Some, None, true, false, Bool, nat_eq, nat_lt, append-nil, add-one, refl, sym, ap, ◌∙◌, subst, arith}
use Rattle.std.proofs.lemmas.Bool.Decides.{nat_tests}
use Rattle.role_steps.proofs.of_plain_facts.Numbers.{differ_test, same as is_same, less_test, same_test}
use Rattle.role_steps.proofs.of_plain_facts.Options.{some_same}
use Rattle.locus_ids.specs.declared.ids.FileId.{FileId}
use Rattle.locus_ids.specs.declared.ids.Serial.{Serial}
use Rattle.locus_ids.specs.declared.ids.Stamp.{Stamp}
use Rattle.role_steps.specs.Reports.{on_have_of}
use Rattle.role_steps.specs.Versions.{file_row}
use Rattle.wire_messages.specs.Outboxes.{Outgoing}
use Rattle.site_frame.specs.Printed.{printed}
use Rattle.role_steps.specs.Tables.{row, with_row, without_row, first_that}
use Rattle.role_steps.specs.Views.{Outcome}
use Rattle.role_steps.specs.Adoption.{table_group}
use Rattle.role_steps.specs.declared.synchronizing.SyncTable.{SyncTable}
use Rattle.keyed_tables.specs.Rising.{Above, Rising}
use Rattle.using_site.specs.Steps.{Gives}
use Rattle.site_tables.specs.Tables.{tables_at, tables_at_of, tables_with, group_in, noting_own, noting_own_of}
use Rattle.the_run.specs.Steps.{is_opened_in}

more_no : (a b : ℕ) → b < a → nat_lt a b ≡ false
more_no a b e = grind (arith, nat_tests)

equal_no : (a b : ℕ) → a ≡ b → nat_lt a b ≡ false
equal_no a b e = grind (arith, nat_tests)

-- a row that is found has the key
pub row_key : {A : Type 0} (key : A → ℕ) (k : ℕ) (xs : List A) (a : A) → row key k xs ≡ Some a → key a ≡ k
row_key key k [] a e = absurd (cc)
row_key {A = A} key k (x ∷ xs) a e = elim (nat_eq (key x) k) as (λ b. nat_eq (key x) k ≡ b → ◌≡◌ {A = Option A} (elim b [ true ↦ Some x | false ↦ row key k xs ]) (Some a) → key a ≡ k) [
  | true ↦ λ t f. ap key (sym (some_same x a f)) ∙ is_same (key x) k t
  | false ↦ λ t f. row_key key k xs a f
] refl e

-- rows above m that are found have keys above m
row_above : {A : Type 0} (key : A → ℕ) (m k : ℕ) (xs : List A) (a : A) → Above key m xs → row key k xs ≡ Some a → m < k
row_above key m k [] a h e = absurd (cc)
row_above {A = A} key m k (x ∷ xs) a h e = elim (nat_eq (key x) k) as (λ b. nat_eq (key x) k ≡ b → ◌≡◌ {A = Option A} (elim b [ true ↦ Some x | false ↦ row key k xs ]) (Some a) → m < k) [
  | true ↦ λ t f. subst (λ n. m < n) (is_same (key x) k t) h.0
  | false ↦ λ t f. row_above key m k xs a h.1 f
] refl e

first_above : {A : Type 0} (key : A → ℕ) (m : ℕ) (test : A → Bool) (xs : List A) (a : A) → Above key m xs → first_that test xs ≡ Some a → m < key a
first_above key m test [] a h e = absurd (cc)
first_above {A = A} key m test (x ∷ xs) a h e = elim (test x) as (λ b. ◌≡◌ {A = Option A} (elim b [ true ↦ Some x | false ↦ first_that test xs ]) (Some a) → m < key a) [
  | true ↦ λ f. subst (λ y. m < key y) (some_same x a f) h.0
  | false ↦ λ f. first_above key m test xs a h.1 f
] e

-- a new row comes to the front of rows above it
put_front : {A : Type 0} (key : A → ℕ) (y : A) (xs : List A) → Above key (key y) xs → with_row key y xs ≡ y ∷ xs
put_front key y [] h = refl
put_front key y (x ∷ xs) h = rw (more_no (key x) (key y) h.0, differ_test (key x) (key y) (λ e. let l : key y < key x = h.0 in absurd (omega arith)), with_row) refl

back_first : {A : Type 0} (key : A → ℕ) (k : ℕ) (x y : A) (xs : List A) → Above key (key x) xs → key x ≡ k → key y ≡ k → with_row key y xs ≡ with_row key y (x ∷ xs)
back_first {A = A} key k x y xs r t s =
    let same : key x ≡ key y = t ∙ sym s in
    put_front key y xs (subst (λ n. Above key n xs) same r) ∙ sym (rw (equal_no (key x) (key y) same, same_test (key x) (key y) same, with_row) refl)

back_later : {A : Type 0} (key : A → ℕ) (k : ℕ) (x y : A) (xs ys : List A) → key x < k → key y ≡ k → with_row key y ys ≡ with_row key y xs → with_row key y (x ∷ ys) ≡ with_row key y (x ∷ xs)
back_later {A = A} key k x y xs ys l s e = rw (less_test (key x) (key y) (omega arith), with_row) (ap (λ zs. x ∷ zs) e)

-- a row that was taken out comes back to its place
pub put_back : {A : Type 0} (key : A → ℕ) (k : ℕ) (xs : List A) (a y : A) → Rising key xs → row key k xs ≡ Some a → key y ≡ k → with_row key y (without_row key k xs) ≡ with_row key y xs
put_back key k [] a y r e s = absurd (cc)
put_back {A = A} key k (x ∷ xs) a y r e s = elim (nat_eq (key x) k) as (λ b. nat_eq (key x) k ≡ b → ◌≡◌ {A = Option A} (elim b [ true ↦ Some x | false ↦ row key k xs ]) (Some a) → with_row key y (elim b [ true ↦ xs | false ↦ x ∷ without_row key k xs ]) ≡ with_row key y (x ∷ xs)) [
  | true ↦ λ t f. back_first key k x y xs r.0 (is_same (key x) k t) s
  | false ↦ λ t f. back_later key k x y xs (without_row key k xs) (row_above key (key x) k xs a r.0 f) s (put_back key k xs a y r.1 f s)
] refl e

-- the first row that passes is the row of its key
pub first_row : {A : Type 0} (key : A → ℕ) (test : A → Bool) (xs : List A) (a : A) → Rising key xs → first_that test xs ≡ Some a → row key (key a) xs ≡ Some a
first_row key test [] a r e = absurd (cc)
first_row {A = A} key test (x ∷ xs) a r e = elim (test x) as (λ b. ◌≡◌ {A = Option A} (elim b [ true ↦ Some x | false ↦ first_that test xs ]) (Some a) → row key (key a) (x ∷ xs) ≡ Some a) [
  | true ↦ λ f. (let same : x ≡ a = some_same x a f in rw (same_test (key x) (key a) (ap key same), row) f)
  | false ↦ λ f. (let less : key x < key a = first_above key (key x) test xs a r.0 f in rw (differ_test (key x) (key a) (λ g. absurd (omega arith)), row) (first_row key test xs a r.1 f))
] e

-- ---- what is done at a table that is taken out and put back ----

pub given_at : (g : SyncTable → Outcome SyncTable) (group : ℕ) (ts news : List SyncTable) (t now : SyncTable) (before after : Outgoing) → Rising table_group ts → row table_group group ts ≡ Some t
    → (g t).view.group ≡ t.group → now ≡ (g t).view → after.packets ≡ before.packets ++ (g t).sent → after.records ≡ before.records ++ printed (g t).told
    → news ≡ with_row table_group now (without_row table_group group ts) → Gives (tables_at g group ts) news before after
given_at g group ts news t now before after r e k v p q n =
    let key : table_group (g t).view ≡ group = k ∙ row_key table_group group ts t e in
    subst (λ o. Gives (tables_at_of g o ts) news before after) (sym e) (record {
      view = n ∙ (ap (λ y. with_row table_group y (without_row table_group group ts)) v ∙ put_back table_group group ts t (g t).view r e key);
      packets = p;
      records = q;
    })

none_gone : (group : ℕ) (xs : List SyncTable) → row table_group group xs ≡ None → without_row table_group group xs ≡ xs
none_gone group [] f = refl
none_gone group (x ∷ xs) f = elim (nat_eq (table_group x) group) as (λ b. ◌≡◌ {A = Option SyncTable} (elim b [ true ↦ Some x | false ↦ row table_group group xs ]) None → ◌≡◌ {A = List SyncTable} (elim b [ true ↦ xs | false ↦ x ∷ without_row table_group group xs ]) (x ∷ xs)) [
  | true ↦ λ h. absurd (cc)
  | false ↦ λ h. ap (λ zs. x ∷ zs) (none_gone group xs h)
] f

pub given_quiet : (g : SyncTable → Outcome SyncTable) (group : ℕ) (ts news : List SyncTable) (out : Outgoing) → row table_group group ts ≡ None → news ≡ without_row table_group group ts → Gives (tables_at g group ts) news out out
given_quiet g group ts news out e n = subst (λ o. Gives (tables_at_of g o ts) news out out) (sym e) (record {
  view = n ∙ none_gone group ts e;
  packets = sym (append-nil out.packets);
  records = sym (append-nil out.records);
})

-- ---- where nothing is sent or told ----

abbrev no_out : Outgoing
no_out = record { packets = []; records = [] }

pub view_at : (g : SyncTable → Outcome SyncTable) (group : ℕ) (ts news : List SyncTable) (t now : SyncTable) → Rising table_group ts → row table_group group ts ≡ Some t → (g t).view.group ≡ t.group → (g t).sent ≡ [] → printed (g t).told ≡ [] → now ≡ (g t).view
    → news ≡ with_row table_group now (without_row table_group group ts) → news ≡ (tables_at g group ts).view
view_at g group ts news t now r e k p q v n = (given_at g group ts news t now no_out no_out r e k v (sym p) (sym q) n).view

pub view_quiet : (g : SyncTable → Outcome SyncTable) (group : ℕ) (ts news : List SyncTable) → row table_group group ts ≡ None → news ≡ without_row table_group group ts → news ≡ (tables_at g group ts).view
view_quiet g group ts news e n = (given_quiet g group ts news no_out e n).view

pub noted_at : (me : ℕ) (file : FileId) (stamp : Stamp) (ts news : List SyncTable) (t now : SyncTable) → Rising table_group ts → row table_group file.group ts ≡ Some t → (on_have_of me stamp (file_row t file.ino) t).group ≡ t.group
    → now ≡ on_have_of me stamp (file_row t file.ino) t → news ≡ with_row table_group now (without_row table_group file.group ts) → news ≡ noting_own me file stamp ts
noted_at me file stamp ts news t now r e k v n =
    n ∙ (ap (λ y. with_row table_group y (without_row table_group file.group ts)) v ∙ (put_back table_group file.group ts t (on_have_of me stamp (file_row t file.ino) t) r e (k ∙ row_key table_group file.group ts t e) ∙ sym (ap (λ o. noting_own_of me file stamp o ts) e)))

pub noted_none : (me : ℕ) (file : FileId) (stamp : Stamp) (ts news : List SyncTable) → row table_group file.group ts ≡ None → news ≡ without_row table_group file.group ts → news ≡ noting_own me file stamp ts
noted_none me file stamp ts news e n = n ∙ (none_gone file.group ts e ∙ sym (ap (λ o. noting_own_of me file stamp o ts) e))

-- ---- the same at the table that was asked for an instance ----

abbrev pub found_group : Serial → List SyncTable → Option ℕ
found_group inst ts = group_in (first_that (is_opened_in inst) ts)

pub with_as_at : (g : SyncTable → Outcome SyncTable) (inst : Serial) (group : ℕ) (ts : List SyncTable) → Rising table_group ts → ◌≡◌ {A = Option ℕ} (Some group) (found_group inst ts) → tables_with g inst ts ≡ tables_at g group ts
with_as_at g inst group ts r e = by_case (first_that (is_opened_in inst) ts) refl e where
  by_case : (o : Option SyncTable) → first_that (is_opened_in inst) ts ≡ o → ◌≡◌ {A = Option ℕ} (Some group) (group_in o) → tables_with g inst ts ≡ tables_at g group ts
  by_case None f h = absurd (cc)
  by_case (Some t) f h =
      let same : t.group ≡ group = sym (some_same group t.group h) in
      ap (λ o. tables_at_of g o ts) (f ∙ sym (subst (λ n. row table_group n ts ≡ Some t) same (first_row table_group (is_opened_in inst) ts t r f)))

pub with_at : (g : SyncTable → Outcome SyncTable) (inst : Serial) (group : ℕ) (ts news : List SyncTable) (before after : Outgoing) → Rising table_group ts → ◌≡◌ {A = Option ℕ} (Some group) (found_group inst ts) → Gives (tables_at g group ts) news before after → Gives (tables_with g inst ts) news before after
with_at g inst group ts news before after r e h = subst (λ o. Gives o news before after) (sym (with_as_at g inst group ts r e)) h

pub with_none : (g : SyncTable → Outcome SyncTable) (inst : Serial) (ts : List SyncTable) (out : Outgoing) → ◌≡◌ {A = Option ℕ} None (found_group inst ts) → Gives (tables_with g inst ts) ts out out
with_none g inst ts out e = by_case (first_that (is_opened_in inst) ts) refl e where
  by_case : (o : Option SyncTable) → first_that (is_opened_in inst) ts ≡ o → ◌≡◌ {A = Option ℕ} None (group_in o) → Gives (tables_with g inst ts) ts out out
  by_case None f h = subst (λ o. Gives (tables_at_of g o ts) ts out out) (sym f) (record { view = refl; packets = sym (append-nil out.packets); records = sym (append-nil out.records) })
  by_case (Some t) f h = absurd (cc)

-- ---- the first row that passes, found from the front ----

drop_first : {A : Type 0} (xs : List A) (i : ℕ) (d : A) → i < length xs → drop i xs ≡ get_or xs i d ∷ drop (suc i) xs
drop_first [] i d l = absurd (omega arith)
drop_first (x ∷ xs) zero d l = refl
drop_first (x ∷ xs) (suc i) d l = drop_first xs i d (omega arith)

pub first_here : {A : Type 0} (test : A → Bool) (xs : List A) (i : ℕ) (x : A) → i < length xs → x ≡ get_or xs i x → test x ≡ true → first_that test (drop i xs) ≡ first_that test xs → ◌≡◌ {A = Option A} (Some x) (first_that test xs)
first_here {A = A} test xs i x l e t h =
    let more : drop i xs ≡ x ∷ drop (suc i) xs = drop_first xs i x l ∙ ap (λ y. y ∷ drop (suc i) xs) (sym e) in
    sym (ap (first_that test) more ∙ rw (t, first_that) refl) ∙ h

pub first_later : {A : Type 0} (test : A → Bool) (xs : List A) (i : ℕ) (x : A) → i < length xs → x ≡ get_or xs i x → test x ≡ false → first_that test (drop i xs) ≡ first_that test xs → first_that test (drop (i + 1) xs) ≡ first_that test xs
first_later {A = A} test xs i x l e t h =
    let more : drop i xs ≡ x ∷ drop (suc i) xs = drop_first xs i x l ∙ ap (λ y. y ∷ drop (suc i) xs) (sym e) in
    ap (λ m. first_that test (drop m xs)) (add-one i) ∙ (sym (ap (first_that test) more ∙ rw (t, first_that) refl) ∙ h)
