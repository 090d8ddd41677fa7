-- A list of the rows that pass a test, as the table of the rows changes.
use Rattle.std.proofs.Common.{◌≡◌, ℕ, zero, suc, ◌<◌, ◌≤◌, Bool, true, false, cond, List, [], ◌∷◌, filter, map, set, get_or, Option, Some, None, slice_get, nat_eq, nat_lt, refl, sym, ap, ◌∙◌, subst, arith}
use Rattle.std.specs.List.{insert}
use Rattle.std.specs.Prelude.{Result, Ok, Err, OnOk}
use Rattle.std.specs.Result.{is_ok}
use Rattle.std.proofs.lemmas.Bool.Decides.{nat_tests}
use Rattle.locus_ids.specs.declared.sites.Members.{Members}
use Rattle.role_steps.proofs.of_plain_facts.Numbers.{differ_test, less_test, not_less_test, same_test}
use Rattle.role_steps.specs.Tables.{row, with_row, without_row}
use Rattle.locus_ids.specs.declared.ids.Stamp.{Stamp}
use Rattle.role_steps.specs.Mends.{is_dir}
use Rattle.role_steps.specs.Versions.{row_ino, noted, noted_at, noted_of, holding_of, rises_to, version_of, with_holder}
use Rattle.role_steps.specs.declared.synchronizing.Holding.{Holding}
use Rattle.role_steps.specs.declared.synchronizing.VersionRow.{VersionRow}
use Rattle.role_steps.specs.declared.synchronizing.FileRow.{FileRow}
use Rattle.keyed_tables.specs.Rising.{Above, Rising}
use Rattle.keyed_tables.proofs.Searched.{put_over, put_rising, rising_along, row_at}
use Rattle.css_versions.specs.Lists.{directories_of, found_first, found_rows, joined, lags, late_of, listed, listed_ino, marked, settled}
use Rattle.css_versions.specs.declared.lists.Listed.{Listed}
use Rattle.css_versions.specs.declared.lists.Lists.{Lists}
use Rattle.css_versions.proofs.Changed.{Placed}

-- ---- rows that stand above ----

above_from : {A : Type 0} (key : A → ℕ) (m k : ℕ) (xs : List A) → m ≤ k → Above key k xs → Above key m xs
above_from key m k [] l h = tt
above_from key m k (x ∷ xs) l h = (let g : k < key x = h.0 in omega arith, above_from key m k xs l h.1)

above_kept : {A : Type 0} (key : A → ℕ) (k : ℕ) (p : A → Bool) (xs : List A) → Above key k xs → Above key k (filter p xs)
above_kept key k p [] h = tt
above_kept key k p (x ∷ xs) h = elim (p x) as (λ b. Above key k (cond b (x ∷ filter p xs) (filter p xs))) [
  | true ↦ (h.0, above_kept key k p xs h.1)
  | false ↦ above_kept key k p xs h.1
]

put_above : {A : Type 0} (key : A → ℕ) (x : A) (xs : List A) → Above key (key x) xs → with_row key x xs ≡ x ∷ xs
put_above key x [] h = refl
put_above key x (y ∷ ys) h =
    let less : key x < key y = h.0 in
    rw (not_less_test (key y) (key x) (omega arith), differ_test (key y) (key x) (λ e. absurd (omega arith)), with_row) refl

left_above : {A : Type 0} (key : A → ℕ) (k : ℕ) (xs : List A) → Above key k xs → without_row key k xs ≡ xs
left_above key k [] h = refl
left_above key k (y ∷ ys) h =
    let less : k < key y = h.0 in
    rw (differ_test (key y) k (λ e. absurd (omega arith)), without_row) (ap (λ zs. y ∷ zs) (left_above key k ys h.1))

-- ---- a row that passes, and one that doesn't ----

put_below : {A : Type 0} (key : A → ℕ) (x y : A) (ys : List A) → key y < key x → with_row key x (y ∷ ys) ≡ y ∷ with_row key x ys
put_below key x y ys l = rw (less_test (key y) (key x) l, with_row) refl

put_same : {A : Type 0} (key : A → ℕ) (x y : A) (ys : List A) → key y ≡ key x → with_row key x (y ∷ ys) ≡ x ∷ ys
put_same key x y ys e = rw (not_less_test (key y) (key x) (omega arith), same_test (key y) (key x) e, with_row) refl

left_other : {A : Type 0} (key : A → ℕ) (k : ℕ) (y : A) (ys : List A) → (key y ≡ k → ⊥) → without_row key k (y ∷ ys) ≡ y ∷ without_row key k ys
left_other key k y ys d = rw (differ_test (key y) k d, without_row) refl

left_same : {A : Type 0} (key : A → ℕ) (k : ℕ) (y : A) (ys : List A) → key y ≡ k → without_row key k (y ∷ ys) ≡ ys
left_same key k y ys e = rw (same_test (key y) k e, without_row) refl

kept_first : {A : Type 0} (p : A → Bool) (x : A) (xs : List A) → p x ≡ true → filter p (x ∷ xs) ≡ x ∷ filter p xs
kept_first p x xs e = rw e refl

kept_later : {A : Type 0} (p : A → Bool) (x : A) (xs : List A) → p x ≡ false → filter p (x ∷ xs) ≡ filter p xs
kept_later p x xs e = rw e refl

kept_put : {A : Type 0} (key : A → ℕ) (p : A → Bool) (x : A) (xs : List A) → p x ≡ true → Rising key xs → filter p (with_row key x xs) ≡ with_row key x (filter p xs)
kept_put key p x [] e r = kept_first p x [] e
kept_put {A = A} key p x (y ∷ ys) e r = by_order (kept_put key p x ys e r.1) (nat_lt (key y) (key x)) refl where
  below : filter p (with_row key x ys) ≡ with_row key x (filter p ys) → key y < key x → (b : Bool) → p y ≡ b → filter p (y ∷ with_row key x ys) ≡ with_row key x (filter p (y ∷ ys))
  below ih l true h = kept_first p y (with_row key x ys) h ∙ (ap (λ zs. y ∷ zs) ih ∙ (sym (put_below key x y (filter p ys) l) ∙ ap (with_row key x) (sym (kept_first p y ys h))))
  below ih l false h = kept_later p y (with_row key x ys) h ∙ (ih ∙ ap (with_row key x) (sym (kept_later p y ys h)))

  above : Above key (key x) (y ∷ ys) → filter p (x ∷ y ∷ ys) ≡ with_row key x (filter p (y ∷ ys))
  above h = kept_first p x (y ∷ ys) e ∙ sym (put_above key x (filter p (y ∷ ys)) (above_kept key (key x) p (y ∷ ys) h))

  same : key y ≡ key x → (b : Bool) → p y ≡ b → filter p (x ∷ ys) ≡ with_row key x (filter p (y ∷ ys))
  same l true h = kept_first p x ys e ∙ (sym (put_same key x y (filter p ys) l) ∙ ap (with_row key x) (sym (kept_first p y ys h)))
  same l false h = kept_first p x ys e ∙ (sym (put_above key x (filter p ys) (above_kept key (key x) p ys (above_from key (key x) (key y) ys (omega arith) r.0))) ∙ ap (with_row key x) (sym (kept_later p y ys h)))

  by_same : (b : Bool) → nat_eq (key y) (key x) ≡ b → nat_lt (key y) (key x) ≡ false → filter p (with_row key x (y ∷ ys)) ≡ with_row key x (filter p (y ∷ ys))
  by_same true f t = let l : key y ≡ key x = grind (arith, nat_tests) in ap (filter p) (put_same key x y ys l) ∙ same l (p y) refl
  by_same false f t =
      let l : key x < key y = grind (arith, nat_tests) in
      let all : Above key (key x) (y ∷ ys) = (l, above_from key (key x) (key y) ys (omega arith) r.0) in
      ap (filter p) (put_above key x (y ∷ ys) all) ∙ above all

  by_order : filter p (with_row key x ys) ≡ with_row key x (filter p ys) → (b : Bool) → nat_lt (key y) (key x) ≡ b → filter p (with_row key x (y ∷ ys)) ≡ with_row key x (filter p (y ∷ ys))
  by_order ih true t = let l : key y < key x = grind (arith, nat_tests) in ap (filter p) (put_below key x y ys l) ∙ below ih l (p y) refl
  by_order ih false t = by_same (nat_eq (key y) (key x)) refl t

kept_without : {A : Type 0} (key : A → ℕ) (p : A → Bool) (x : A) (xs : List A) → p x ≡ false → Rising key xs → filter p (with_row key x xs) ≡ without_row key (key x) (filter p xs)
kept_without key p x [] e r = kept_later p x [] e
kept_without {A = A} key p x (y ∷ ys) e r = by_order (kept_without key p x ys e r.1) (nat_lt (key y) (key x)) refl where
  below : filter p (with_row key x ys) ≡ without_row key (key x) (filter p ys) → key y < key x → (b : Bool) → p y ≡ b → filter p (y ∷ with_row key x ys) ≡ without_row key (key x) (filter p (y ∷ ys))
  below ih l true h = kept_first p y (with_row key x ys) h ∙ (ap (λ zs. y ∷ zs) ih ∙ (sym (left_other key (key x) y (filter p ys) (λ same. absurd (omega arith))) ∙ ap (without_row key (key x)) (sym (kept_first p y ys h))))
  below ih l false h = kept_later p y (with_row key x ys) h ∙ (ih ∙ ap (without_row key (key x)) (sym (kept_later p y ys h)))

  above : Above key (key x) (y ∷ ys) → filter p (x ∷ y ∷ ys) ≡ without_row key (key x) (filter p (y ∷ ys))
  above h = kept_later p x (y ∷ ys) e ∙ sym (left_above key (key x) (filter p (y ∷ ys)) (above_kept key (key x) p (y ∷ ys) h))

  same : key y ≡ key x → (b : Bool) → p y ≡ b → filter p (x ∷ ys) ≡ without_row key (key x) (filter p (y ∷ ys))
  same l true h = kept_later p x ys e ∙ (sym (left_same key (key x) y (filter p ys) l) ∙ ap (without_row key (key x)) (sym (kept_first p y ys h)))
  same l false h = kept_later p x ys e ∙ (sym (left_above key (key x) (filter p ys) (above_kept key (key x) p ys (above_from key (key x) (key y) ys (omega arith) r.0))) ∙ ap (without_row key (key x)) (sym (kept_later p y ys h)))

  by_same : (b : Bool) → nat_eq (key y) (key x) ≡ b → nat_lt (key y) (key x) ≡ false → filter p (with_row key x (y ∷ ys)) ≡ without_row key (key x) (filter p (y ∷ ys))
  by_same true f t = let l : key y ≡ key x = grind (arith, nat_tests) in ap (filter p) (put_same key x y ys l) ∙ same l (p y) refl
  by_same false f t =
      let l : key x < key y = grind (arith, nat_tests) in
      let all : Above key (key x) (y ∷ ys) = (l, above_from key (key x) (key y) ys (omega arith) r.0) in
      ap (filter p) (put_above key x (y ∷ ys) all) ∙ above all

  by_order : filter p (with_row key x ys) ≡ without_row key (key x) (filter p ys) → (b : Bool) → nat_lt (key y) (key x) ≡ b → filter p (with_row key x (y ∷ ys)) ≡ without_row key (key x) (filter p (y ∷ ys))
  by_order ih true t = let l : key y < key x = grind (arith, nat_tests) in ap (filter p) (put_below key x y ys l) ∙ below ih l (p y) refl
  by_order ih false t = by_same (nat_eq (key y) (key x)) refl t

-- ---- the list of the inodes ----

listed_put : (x : FileRow) (ys : List FileRow) → with_row listed_ino (listed x) (map listed ys) ≡ map listed (with_row row_ino x ys)
listed_put x [] = refl
listed_put x (y ∷ ys) = elim (nat_lt y.ino x.ino) as (λ b. elim b [ true ↦ listed y ∷ with_row listed_ino (listed x) (map listed ys) | false ↦ elim (nat_eq y.ino x.ino) [ true ↦ listed x ∷ map listed ys | false ↦ listed x ∷ listed y ∷ map listed ys ] ] ≡ map listed (elim b [ true ↦ y ∷ with_row row_ino x ys | false ↦ elim (nat_eq y.ino x.ino) [ true ↦ x ∷ ys | false ↦ x ∷ y ∷ ys ] ])) [
  | true ↦ ap (λ zs. listed y ∷ zs) (listed_put x ys)
  | false ↦ elim (nat_eq y.ino x.ino) as (λ b. elim b [ true ↦ listed x ∷ map listed ys | false ↦ listed x ∷ listed y ∷ map listed ys ] ≡ map listed (elim b [ true ↦ x ∷ ys | false ↦ x ∷ y ∷ ys ])) [ true ↦ refl | false ↦ refl ]
]

listed_left : (k : ℕ) (ys : List FileRow) → without_row listed_ino k (map listed ys) ≡ map listed (without_row row_ino k ys)
listed_left k [] = refl
listed_left k (y ∷ ys) = elim (nat_eq y.ino k) as (λ b. elim b [ true ↦ map listed ys | false ↦ listed y ∷ without_row listed_ino k (map listed ys) ] ≡ map listed (elim b [ true ↦ ys | false ↦ y ∷ without_row row_ino k ys ])) [
  | true ↦ refl
  | false ↦ ap (λ zs. listed y ∷ zs) (listed_left k ys)
]

-- a list of the files that pass a test stays that list when a file changes, or comes
marked_put : (p : FileRow → Bool) (x : FileRow) (rows : List FileRow) (list : List Listed) → Rising row_ino rows → list ≡ map listed (filter p rows) → marked (p x) x list ≡ map listed (filter p (with_row row_ino x rows))
marked_put p x rows list r is = by_test (p x) refl where
  by_test : (b : Bool) → p x ≡ b → marked (p x) x list ≡ map listed (filter p (with_row row_ino x rows))
  by_test true h = ap (λ b. marked b x list) h ∙ (ap (with_row listed_ino (listed x)) is ∙ (listed_put x (filter p rows) ∙ ap (map listed) (sym (kept_put row_ino p x rows h r))))
  by_test false h = ap (λ b. marked b x list) h ∙ (ap (without_row listed_ino x.ino) is ∙ (listed_left x.ino (filter p rows) ∙ ap (map listed) (sym (kept_without row_ino p x rows h r))))

-- nothing is marked where a file changes that passes as before
abbrev listed_by : Bool → ℕ → List Listed → List Listed
listed_by true ino list = record { ino = ino } ∷ list
listed_by false ino list = list

listed_first : (p : FileRow → Bool) (x : FileRow) (xs : List FileRow) → map listed (filter p (x ∷ xs)) ≡ listed_by (p x) x.ino (map listed (filter p xs))
listed_first p x xs = elim (p x) as (λ b. map listed (cond b (x ∷ filter p xs) (filter p xs)) ≡ listed_by b x.ino (map listed (filter p xs))) [
  | true ↦ refl
  | false ↦ refl
]

same_some : (a b : FileRow) → ◌≡◌ {A = Option FileRow} (Some a) (Some b) → a ≡ b
same_some a b e = cc

stays_listed : (p : FileRow → Bool) (xs : List FileRow) (i : ℕ) (old new : FileRow) → slice_get xs i ≡ Some old → row_ino new ≡ row_ino old → p new ≡ p old → map listed (filter p (set xs i new)) ≡ map listed (filter p xs)
stays_listed p [] i old new e k h = absurd (cc)
stays_listed p (x ∷ xs) zero old new e k h =
    listed_first p new xs
    ∙ (ap (λ b. listed_by b new.ino (map listed (filter p xs))) h
    ∙ (ap (λ n. listed_by (p old) n (map listed (filter p xs))) k
    ∙ (ap (λ (r : FileRow). listed_by (p r) r.ino (map listed (filter p xs))) (sym (same_some x old e)) ∙ sym (listed_first p x xs))))
stays_listed p (x ∷ xs) (suc i) old new e k h =
    listed_first p x (set xs i new) ∙ (ap (listed_by (p x) x.ino) (stays_listed p xs i old new e k h) ∙ sym (listed_first p x xs))

-- a table and its lists
abbrev pub AreListed : List FileRow → Lists → Type 0
AreListed rows lists = Rising row_ino rows × (lists.late ≡ late_of lists.members rows) × (lists.directories ≡ directories_of rows)

-- what was put at a place stands there
stands : (xs : List FileRow) (i : ℕ) (old new : FileRow) → slice_get xs i ≡ Some old → new ≡ get_or (set xs i new) i new
stands [] i old new e = absurd (cc)
stands (x ∷ xs) zero old new e = refl
stands (x ∷ xs) (suc i) old new e = stands xs i old new e

settled_listed : (xs : List FileRow) (i : ℕ) (old new : FileRow) (lists : Lists) → AreListed xs lists → Rising row_ino xs → slice_get xs i ≡ Some old → row_ino new ≡ row_ino old → new.kind ≡ old.kind → AreListed (set xs i new) (settled new lists)
settled_listed xs i old new lists h rising at same kind =
    let put : with_row row_ino new xs ≡ set xs i new = put_over row_ino new xs i old rising at (sym same) in (
      rising_along row_ino (with_row row_ino new xs) (set xs i new) put (put_rising row_ino new xs rising),
      marked_put (lags lists.members) new xs lists.late rising h.1 ∙ ap (late_of lists.members) put,
      h.2 ∙ sym (stays_listed (λ r. is_dir r.kind) xs i old new at same (ap is_dir kind)),
    )

-- a row was changed at its place
pub changed_listed : (k : ℕ) (xs after : List FileRow) (i : ℕ) (old new : FileRow) (lists then : Lists) → AreListed xs lists → Placed row_ino k xs i old → row_ino new ≡ row_ino old → new.kind ≡ old.kind → after ≡ set xs i new
    → ((r : FileRow) → r ≡ get_or (set xs i new) i r → then ≡ settled r lists) → AreListed after then
changed_listed k xs after i old new lists then h p same kind e f =
    subst (λ (rows : List FileRow). AreListed rows then) (sym e) (subst (AreListed (set xs i new)) (sym (f new (stands xs i old new p.at))) (settled_listed xs i old new lists h p.rising p.at same kind))

-- what is done where a call ends well
pub was_ok : {T E : Type 0} {P : Type 0} → (r : Result T E) → is_ok r ≡ true → OnOk r P → P
was_ok (Ok x) h p = p
was_ok (Err e) h p = absurd (cc)

-- what a site tells to hold leaves a directory a directory
pub noted_kind : (site : ℕ) (stamp : Stamp) (r : FileRow) → (noted site stamp r).kind ≡ r.kind
noted_kind site stamp r = by_version (version_of r stamp) where
  by_holding : (v : VersionRow) (o : Option Holding) → (noted_at r site v o).kind ≡ r.kind
  by_holding v None = refl
  by_holding v (Some h) = elim (rises_to v (version_of r h.stamp)) as (λ b. (cond b (with_holder site v.stamp r) r).kind ≡ r.kind) [ true ↦ refl | false ↦ refl ]

  by_version : (o : Option VersionRow) → (noted_of r site o).kind ≡ r.kind
  by_version None = refl
  by_version (Some v) = by_holding v (holding_of r site)

joined_listed : (x : FileRow) (xs : List FileRow) (lists : Lists) → AreListed xs lists → AreListed (with_row row_ino x xs) (joined x lists)
joined_listed x xs lists h = (put_rising row_ino x xs h.0, marked_put (lags lists.members) x xs lists.late h.0 h.1, marked_put (λ r. is_dir r.kind) x xs lists.directories h.0 h.2)

-- a row came to its place
pub added_listed : (xs seen after : List FileRow) (i : ℕ) (new : FileRow) (lists then : Lists) → AreListed xs lists → seen ≡ xs → with_row row_ino new seen ≡ insert seen i new → after ≡ insert xs i new → then ≡ joined new lists → AreListed after then
added_listed xs seen after i new lists then h same put e f =
    let whole : with_row row_ino new xs ≡ after = ap (with_row row_ino new) (sym same) ∙ (put ∙ (ap (λ ys. insert ys i new) same ∙ sym e)) in
    subst (λ (rows : List FileRow). AreListed rows then) whole (subst (AreListed (with_row row_ino new xs)) (sym f) (joined_listed new xs lists h))

-- ---- the rows that are listed ----

found_kept : (all : List FileRow) (p : FileRow → Bool) (xs : List FileRow) → ((i : ℕ) (a : FileRow) → slice_get xs i ≡ Some a → row row_ino (row_ino a) all ≡ Some a) → found_rows all (map listed (filter p xs)) ≡ filter p xs
found_kept all p [] h = refl
found_kept all p (x ∷ xs) h = by_test (found_kept all p xs (λ i a e. h (suc i) a e)) (p x) refl where
  by_test : found_rows all (map listed (filter p xs)) ≡ filter p xs → (b : Bool) → p x ≡ b → found_rows all (map listed (filter p (x ∷ xs))) ≡ filter p (x ∷ xs)
  by_test ih true e =
      ap (λ ys. found_rows all (map listed ys)) (kept_first p x xs e)
      ∙ (ap (λ (o : Option FileRow). found_first o (found_rows all (map listed (filter p xs)))) (h 0 x refl)
      ∙ (ap (λ ys. x ∷ ys) ih ∙ sym (kept_first p x xs e)))
  by_test ih false e = ap (λ ys. found_rows all (map listed ys)) (kept_later p x xs e) ∙ (ih ∙ sym (kept_later p x xs e))

pub found_late : (members : Members) (rows : List FileRow) → Rising row_ino rows → found_rows rows (late_of members rows) ≡ filter (lags members) rows
found_late members rows r = found_kept rows (lags members) rows (λ i a e. row_at row_ino (row_ino a) rows i a r e refl)

pub found_directories : (rows : List FileRow) → Rising row_ino rows → found_rows rows (directories_of rows) ≡ filter (λ (r : FileRow). is_dir r.kind) rows
found_directories rows r = found_kept rows (λ x. is_dir x.kind) rows (λ i a e. row_at row_ino (row_ino a) rows i a r e refl)
