-- Pulls stay within the sizes of files, whatever is put among them and taken away.
use Rattle.std.proofs.Common.{◌≡◌, ◌≢◌, ◌<◌, ◌≤◌, ◌+◌, ◌-◌, ◌*◌, ◌^◌, ◌==◌, ◌&&◌, not, true, false, Bool, ℕ, zero, suc, List, [], ◌∷◌, ◌++◌, length, Option, None, Some, refl, sym, ap, ◌∙◌, subst, arith, ◌⊎◌, inl, inr, ⊎_elim, nat_eq, nat_lt, nat_le, slice_index, length-append, get_or, IfSome}
use Rattle.std.proofs.lemmas.Bool.Decides.{nat_tests}
use Rattle.role_steps.proofs.of_plain_facts.Numbers.{differ_test, same as is_same, not_less, not_less_test, same_test}
use Rattle.role_steps.proofs.of_plain_facts.Tests.{both_true}
use Rattle.locus_ids.specs.Sizes.{file_bytes_max, page_bytes}
use Rattle.locus_ids.specs.declared.ids.FileId.{FileId}
use Rattle.locus_ids.specs.declared.ids.Stamp.{Stamp}
use Rattle.commit_graph.specs.Versions.{same_stamp}
use Rattle.file_content.specs.Pages.{pages_from, pages_of}
use Rattle.std.specs.List.{list_all}
use Rattle.std.specs.Option.{is_some, unwrap_or}
use Rattle.keyed_tables.specs.Rising.{Above, Rising}
use Rattle.role_steps.specs.Tables.{row, with_row, without_row}
use Rattle.role_steps.specs.Views.{Frame, sends, file_key}
use Rattle.role_steps.specs.Pulling.{pull_key, pull_packets, wanted_pages, pages_got, is_complete, next_page, ascend_from, are_delta, bytes_in, is_delta, is_awaited, goes_on, on_delta, on_delta_of, on_page, on_page_of}
use Rattle.role_steps.specs.declared.pulls.Pull.{Pull}
use Rattle.role_steps.specs.Pulling.{is_over, pages_in}
use Rattle.role_steps.specs.declared.copies.FileCopy.{FileCopy}
use Rattle.propagation.specs.declared.own_copy.CopyHead.{CopyHead}
use Rattle.propagation.proofs.Lists.{from_ascend, from_below}
use Rattle.propagation.specs.Sized.{IsNew, IsSized, AreSized, head_of, is_over_head, pages_in_head, awaits_in, awaits, wants_in, wants}

is_not_same : (a b : ℕ) → nat_eq a b ≡ false → a ≢ b
is_not_same a b h = grind (arith, nat_tests)

-- ---- one step of a table's functions ----

after : (x y : Pull) (ys : List Pull) → nat_lt (pull_key y) (pull_key x) ≡ true → with_row pull_key x (y ∷ ys) ≡ y ∷ with_row pull_key x ys
after x y ys h = rw (h, with_row) refl

here : (x y : Pull) (ys : List Pull) → nat_lt (pull_key y) (pull_key x) ≡ false → nat_eq (pull_key y) (pull_key x) ≡ true → with_row pull_key x (y ∷ ys) ≡ x ∷ ys
here x y ys h g = rw (h, with_row) (rw (g, with_row) refl)

before : (x y : Pull) (ys : List Pull) → nat_lt (pull_key y) (pull_key x) ≡ false → nat_eq (pull_key y) (pull_key x) ≡ false → with_row pull_key x (y ∷ ys) ≡ x ∷ y ∷ ys
before x y ys h g = rw (h, with_row) (rw (g, with_row) refl)

pub gone : (k : ℕ) (y : Pull) (ys : List Pull) → nat_eq (pull_key y) k ≡ true → without_row pull_key k (y ∷ ys) ≡ ys
gone k y ys h = rw (h, without_row) refl

pub left : (k : ℕ) (y : Pull) (ys : List Pull) → nat_eq (pull_key y) k ≡ false → without_row pull_key k (y ∷ ys) ≡ y ∷ without_row pull_key k ys
left k y ys h = rw (h, without_row) refl

pub found : (k : ℕ) (y : Pull) (ys : List Pull) → nat_eq (pull_key y) k ≡ true → row pull_key k (y ∷ ys) ≡ Some y
found k y ys h = rw (h, row) refl

pub other : (k : ℕ) (y : Pull) (ys : List Pull) → nat_eq (pull_key y) k ≡ false → row pull_key k (y ∷ ys) ≡ row pull_key k ys
other k y ys h = rw (h, row) refl

-- ---- sizes ----

pub sized_put : (x : Pull) (ys : List Pull) → IsSized x → AreSized ys → AreSized (with_row pull_key x ys)
sized_put x [] h g = (h, tt)
sized_put x (y ∷ ys) h g = put_case (nat_lt (pull_key y) (pull_key x)) (nat_eq (pull_key y) (pull_key x)) refl refl (sized_put x ys h g.1) where
  put_case : (a b : Bool) → nat_lt (pull_key y) (pull_key x) ≡ a → nat_eq (pull_key y) (pull_key x) ≡ b → AreSized (with_row pull_key x ys) → AreSized (with_row pull_key x (y ∷ ys))
  put_case true b p q r = subst (λ (zs : List Pull). AreSized zs) (sym (after x y ys p)) (g.0, r)
  put_case false true p q r = subst (λ (zs : List Pull). AreSized zs) (sym (here x y ys p q)) (h, g.1)
  put_case false false p q r = subst (λ (zs : List Pull). AreSized zs) (sym (before x y ys p q)) (h, g)

pub sized_removed : (k : ℕ) (ys : List Pull) → AreSized ys → AreSized (without_row pull_key k ys)
sized_removed k [] g = tt
sized_removed k (y ∷ ys) g = by_case (nat_eq (pull_key y) k) refl (sized_removed k ys g.1) where
  by_case : (b : Bool) → nat_eq (pull_key y) k ≡ b → AreSized (without_row pull_key k ys) → AreSized (without_row pull_key k (y ∷ ys))
  by_case true e r = subst (λ (zs : List Pull). AreSized zs) (sym (gone k y ys e)) g.1
  by_case false e r = subst (λ (zs : List Pull). AreSized zs) (sym (left k y ys e)) (g.0, r)

some_eq : (a b : Pull) → ◌≡◌ {A = Option Pull} (Some a) (Some b) → a ≡ b
some_eq a b e = cc

pub sized_row : (k : ℕ) (ys : List Pull) (p : Pull) → AreSized ys → row pull_key k ys ≡ Some p → IsSized p
sized_row k [] p g e = absurd (cc)
sized_row k (y ∷ ys) p g e = by_case (nat_eq (pull_key y) k) refl (sized_row k ys p g.1) where
  by_case : (b : Bool) → nat_eq (pull_key y) k ≡ b → (row pull_key k ys ≡ Some p → IsSized p) → IsSized p
  by_case true h r = subst (λ (q : Pull). IsSized q) (some_eq y p (sym (found k y ys h) ∙ e)) g.0
  by_case false h r = r (sym (other k y ys h) ∙ e)

pub sized_found : (r : Option Pull) (k : ℕ) (ys : List Pull) → AreSized ys → r ≡ row pull_key k ys → IfSome r (λ (p : Pull). IsSized p)
sized_found None k ys g e = tt
sized_found (Some p) k ys g e = sized_row k ys p g (sym e)

row_key : (k : ℕ) (ys : List Pull) (p : Pull) → row pull_key k ys ≡ Some p → pull_key p ≡ k
row_key k [] p e = absurd (cc)
row_key k (y ∷ ys) p e = by_case (nat_eq (pull_key y) k) refl (row_key k ys p) where
  by_case : (b : Bool) → nat_eq (pull_key y) k ≡ b → (row pull_key k ys ≡ Some p → pull_key p ≡ k) → pull_key p ≡ k
  by_case true h r = subst (λ (q : Pull). pull_key q ≡ k) (some_eq y p (sym (found k y ys h) ∙ e)) (is_same (pull_key y) k h)
  by_case false h r = r (sym (other k y ys h) ∙ e)

-- ---- a row that is taken out and put again ----

above_less : (m k : ℕ) (xs : List Pull) → m ≤ k → Above pull_key k xs → Above pull_key m xs
above_less m k [] l h = tt
above_less m k (x ∷ xs) l h = (let g : k < pull_key x = h.0 in omega arith, above_less m k xs l h.1)

put_first : (x : Pull) (k : ℕ) (ys : List Pull) → pull_key x ≡ k → Above pull_key k ys → with_row pull_key x ys ≡ x ∷ ys
put_first x k [] e h = refl
put_first x k (y ∷ ys) e h = let g : k < pull_key y = h.0 in before x y ys (not_less_test (pull_key y) (pull_key x) (omega arith)) (differ_test (pull_key y) (pull_key x) (omega arith))

none_gone : (k : ℕ) (ys : List Pull) → Above pull_key k ys → without_row pull_key k ys ≡ ys
none_gone k [] h = refl
none_gone k (y ∷ ys) h = let g : k < pull_key y = h.0 in left k y ys (differ_test (pull_key y) k (omega arith)) ∙ ap (λ (zs : List Pull). y ∷ zs) (none_gone k ys h.1)

pub put_again : (x : Pull) (k : ℕ) (ys : List Pull) → pull_key x ≡ k → Rising pull_key ys → with_row pull_key x (without_row pull_key k ys) ≡ with_row pull_key x ys
put_again x k [] e r = refl
put_again x k (y ∷ ys) e r = by_case (nat_eq (pull_key y) k) (nat_lt (pull_key y) (pull_key x)) refl refl (put_again x k ys e r.1) where
  by_case : (a b : Bool) → nat_eq (pull_key y) k ≡ a → nat_lt (pull_key y) (pull_key x) ≡ b → with_row pull_key x (without_row pull_key k ys) ≡ with_row pull_key x ys → with_row pull_key x (without_row pull_key k (y ∷ ys)) ≡ with_row pull_key x (y ∷ ys)
  by_case true b p q i =
      let same : pull_key y ≡ k = is_same (pull_key y) k p in
      ap (with_row pull_key x) (gone k y ys p)
      ∙ (put_first x k ys e (above_less k (pull_key y) ys (omega arith) r.0)
      ∙ sym (here x y ys (not_less_test (pull_key y) (pull_key x) (omega arith)) (same_test (pull_key y) (pull_key x) (omega arith))))
  by_case false true p q i =
      ap (with_row pull_key x) (left k y ys p)
      ∙ (after x y (without_row pull_key k ys) q
      ∙ (ap (λ (zs : List Pull). y ∷ zs) i ∙ sym (after x y ys q)))
  by_case false false p q i =
      let ne : pull_key y ≢ k = is_not_same (pull_key y) k p in
      let more : pull_key x ≤ pull_key y = not_less (pull_key y) (pull_key x) q in
      ap (with_row pull_key x) (left k y ys p)
      ∙ ap (λ (zs : List Pull). with_row pull_key x (y ∷ zs)) (none_gone k ys (above_less k (pull_key y) ys (omega arith) r.0))

-- ---- pages ----

-- the numbers of a list that ascends from one on
ascend_low : (least : ℕ) (ps : List ℕ) (i : ℕ) → ascend_from least ps ≡ true → i < length ps → least ≤ slice_index ps i
ascend_low least [] i a l = absurd (omega arith)
ascend_low least (p ∷ ps) zero a l = let t = both_true (nat_le least p) (ascend_from (suc p) ps) a in let first : nat_le least p ≡ true = t.0 in grind (arith, nat_tests)
ascend_low least (p ∷ ps) (suc i) a l =
    let t = both_true (nat_le least p) (ascend_from (suc p) ps) a in
    let first : nat_le least p ≡ true = t.0 in
    let low : least ≤ p = grind (arith, nat_tests) in
    let rest : suc p ≤ slice_index ps i = ascend_low (suc p) ps i t.1 (omega arith) in
    omega arith

pub ascend_next : (least : ℕ) (ps : List ℕ) (i : ℕ) → ascend_from least ps ≡ true → suc i < length ps → slice_index ps i < slice_index ps (suc i)
ascend_next least [] i a l = absurd (omega arith)
ascend_next least (p ∷ ps) zero a l = let r : suc p ≤ slice_index ps 0 = ascend_low (suc p) ps 0 (both_true (nat_le least p) (ascend_from (suc p) ps) a).1 (omega arith) in omega arith
ascend_next least (p ∷ ps) (suc i) a l = ascend_next (suc p) ps i (both_true (nat_le least p) (ascend_from (suc p) ps) a).1 (omega arith)

pub inside_at : (count : ℕ) (ps : List ℕ) (i : ℕ) → list_all (λ page. nat_lt page count) ps ≡ true → i < length ps → slice_index ps i < count
inside_at count [] i a l = absurd (omega arith)
inside_at count (p ∷ ps) zero a l = let first : nat_lt p count ≡ true = (both_true (nat_lt p count) (list_all (λ page. nat_lt page count) ps) a).0 in grind (arith, nat_tests)
inside_at count (p ∷ ps) (suc i) a l = inside_at count ps i (both_true (nat_lt p count) (list_all (λ page. nat_lt page count) ps) a).1 (omega arith)

module _ (p : Pull) (h : IsSized p) (missing : pages_got p < length (wanted_pages p)) where
  next_inside : next_page p < pages_of p.size
  next_inside = inside_at (pages_of p.size) (wanted_pages p) (pages_got p) h.inside missing

  -- while pages are missing, all that came are full
  full : (got : ℕ) → pages_got p ≡ got → length p.content ≡ page_bytes * got
  full zero e = omega (arith, e)
  full (suc g) e =
      let rise : slice_index (wanted_pages p) g < slice_index (wanted_pages p) (suc g) = ascend_next 0 (wanted_pages p) g h.ascend (omega (arith, e, missing)) in
      let next : slice_index (wanted_pages p) (suc g) < pages_of p.size = inside_at (pages_of p.size) (wanted_pages p) (suc g) h.inside (omega (arith, e, missing)) in
      let had : bytes_in (length p.content) g ≡ bytes_in p.size (slice_index (wanted_pages p) g) = h.bytes g (omega (arith, e)) in
      omega arith

-- a page that is awaited has the bytes that the version has there
pub awaited_sized : (p : Pull) (stamp : Stamp) (page : ℕ) (bytes : List ℕ) → IsSized p → is_awaited p stamp page bytes ≡ true → IsSized (record p { content = p.content ++ bytes })
awaited_sized p stamp page bytes h t =
    let a = both_true (same_stamp p.stamp stamp) _ t in
    let b = both_true (is_some p.wanted) _ a.1 in
    let d = both_true (not (is_complete p)) _ b.1 in
    let g = both_true (page == next_page p) (length bytes == bytes_in p.size page) d.1 in
    let next : page ≡ next_page p = is_same page (next_page p) g.0 in
    let count : length bytes ≡ bytes_in p.size page = is_same (length bytes) (bytes_in p.size page) g.1 in
    let missing : pages_got p < length (wanted_pages p) = less_of (pages_got p) (length (wanted_pages p)) (is_some p.wanted) b.0 d.0 h.few in
    let inside : next_page p < pages_of p.size = next_inside p h missing in
    let len : length p.content ≡ page_bytes * pages_got p = full p h missing (pages_got p) refl in
    let now : length (p.content ++ bytes) ≡ length p.content + length bytes = length-append p.content bytes in
    record {
      size = h.size;
      ascend = h.ascend;
      inside = h.inside;
      few = omega arith;
      bytes = each now len next count inside missing;
    }
  where
    less_of : (got n : ℕ) (some : Bool) → some ≡ true → not (some && (got == n)) ≡ true → got ≤ n → got < n
    less_of got n some e f l = grind (arith, nat_tests)

    each : length (p.content ++ bytes) ≡ length p.content + length bytes → length p.content ≡ page_bytes * pages_got p → page ≡ next_page p → length bytes ≡ bytes_in p.size page → next_page p < pages_of p.size → pages_got p < length (wanted_pages p)
        → (k : ℕ) → k < pages_of (length (p.content ++ bytes)) → bytes_in (length (p.content ++ bytes)) k ≡ bytes_in p.size (slice_index (wanted_pages p) k)
    each now len next count inside missing k l = elim (nat_eq k (pages_got p)) as (λ b. nat_eq k (pages_got p) ≡ b → bytes_in (length (p.content ++ bytes)) k ≡ bytes_in p.size (slice_index (wanted_pages p) k)) [
      | true ↦ λ e. (let same : k ≡ pages_got p = is_same k (pages_got p) e in let at : slice_index (wanted_pages p) k ≡ page = ap (slice_index (wanted_pages p)) same ∙ sym next in rw at (omega (arith, same, now, len, count)))
      | false ↦ λ e. (let ne = is_not_same k (pages_got p) e in let less : k < pages_got p = omega (arith, now, len, count) in let had : bytes_in (length p.content) k ≡ bytes_in p.size (slice_index (wanted_pages p) k) = h.bytes k less in omega (arith, now, len, count))
    ] refl

-- ---- a pull as it begins ----

pub few_pages : (p : Pull) → IsNew p → pages_of p.size < 2 ^ 16
few_pages p h = let small : p.size ≤ file_bytes_max = h.size in omega (arith, small)

none_come : (p : Pull) → IsNew p → pages_got p ≡ 0
none_come p h = let none : length p.content ≡ 0 = ap length h.content in omega (arith, none)

pub sized_whole : (p : Pull) (pages : List ℕ) → IsNew p → pages ≡ pages_from 0 (pages_of p.size) → IsSized (record p { base = None; wanted = Some pages })
sized_whole p pages h e = let none : pages_got p ≡ 0 = none_come p h in subst (λ (ps : List ℕ). IsSized (record p { base = None; wanted = Some ps })) (sym e) (record {
  size = h.size;
  ascend = from_ascend 0 0 (pages_of p.size) (omega arith);
  inside = from_below (pages_of p.size) 0 (pages_of p.size) (omega arith);
  few = omega (arith, none);
  bytes = λ k l. absurd (omega (arith, none, l));
})

pub sized_over : (p : Pull) (own : Stamp) → IsNew p → IsSized (record p { base = Some own; wanted = None })
sized_over p own h = let none : pages_got p ≡ 0 = none_come p h in record {
  size = h.size;
  ascend = refl;
  inside = refl;
  few = omega (arith, none);
  bytes = λ k l. absurd (omega (arith, none, l));
}

-- ---- what is asked next ----

few_of : (o : Option (List ℕ)) (got : ℕ) → (is_some o && (got == length (unwrap_or o []))) ≡ false → got ≤ length (unwrap_or o []) → (unwrap_or o [] ≡ []) ⊎ (got < length (unwrap_or o []))
few_of None got e l = inl refl
few_of (Some pages) got e l = let differ : got ≢ length pages = is_not_same got (length pages) e in inr (omega (arith, differ, l))

-- the number of the page that is asked for fits a packet
pub next_small : (p : Pull) → IsSized p → is_complete p ≡ false → next_page p < 256
next_small p h e = ⊎_elim
    (λ (none : wanted_pages p ≡ []). let is : next_page p ≡ 0 = ap (λ (ps : List ℕ). slice_index ps (pages_got p)) none in omega (arith, is))
    (λ (missing : pages_got p < length (wanted_pages p)). let inside : next_page p < pages_of p.size = next_inside p h missing in let small : p.size ≤ file_bytes_max = h.size in omega (arith, inside, small))
    (few_of p.wanted (pages_got p) e h.few)

-- the answer to the question which pages to pull makes a pull of them
pub delta_sized : (own : ℕ) (p : Pull) (stamp : Stamp) (pages : List ℕ) → IsSized p → is_delta own p stamp pages ≡ true → IsSized (record p { wanted = Some pages })
delta_sized own p stamp pages h t =
    let a = both_true (same_stamp p.stamp stamp) _ t in
    let b = both_true (not (is_some p.wanted)) (are_delta own (pages_of p.size) pages) a.1 in
    let d = both_true (ascend_from 0 pages) _ b.1 in
    let g = both_true (list_all (λ page. nat_lt page (pages_of p.size)) pages) _ d.1 in
    let none : length (wanted_pages p) ≡ 0 = none_wanted p.wanted b.0 in
    let few : pages_got p ≤ length (wanted_pages p) = h.few in
    record { size = h.size; ascend = d.0; inside = g.0; few = omega (arith, none, few); bytes = λ k l. absurd (omega (arith, none, few, l)) }
  where
    none_wanted : (w : Option (List ℕ)) → not (is_some w) ≡ true → length (unwrap_or w []) ≡ 0
    none_wanted None e = refl
    none_wanted (Some ps) e = absurd (cc)

page_some : (f : Frame) (stamp : Stamp) (page : ℕ) (bytes : List ℕ) (p : Pull) (pulls : List Pull) → is_awaited p stamp page bytes ≡ true → on_page_of f stamp page bytes (Some p) pulls ≡ goes_on f (record p { content = p.content ++ bytes }) pulls
page_some f stamp page bytes p pulls t = rw (t, on_page_of) refl

pub awaited_row : (file : FileId) (stamp : Stamp) (page : ℕ) (bytes : List ℕ) (pulls : List Pull) (p : Pull) → awaits pulls file stamp page bytes ≡ true → row pull_key (file_key file) pulls ≡ Some p → is_awaited p stamp page bytes ≡ true
awaited_row file stamp page bytes pulls p h e = subst (λ (r : Option Pull). awaits_in stamp page bytes r ≡ true) e h

pub page_taken : (f : Frame) (file : FileId) (stamp : Stamp) (page : ℕ) (bytes : List ℕ) (pulls : List Pull) (p : Pull) → Rising pull_key pulls → awaits pulls file stamp page bytes ≡ true → row pull_key (file_key file) pulls ≡ Some p → goes_on f (record p { content = p.content ++ bytes }) (without_row pull_key (file_key file) pulls) ≡ on_page f file stamp page bytes pulls
page_taken f file stamp page bytes pulls p r h e =
    ap (λ (ps : List Pull). sends (pull_packets f (record p { content = p.content ++ bytes })) ps) (put_again (record p { content = p.content ++ bytes }) (file_key file) pulls (row_key (file_key file) pulls p e) r)
    ∙ sym (ap (λ (o : Option Pull). on_page_of f stamp page bytes o pulls) e ∙ page_some f stamp page bytes p pulls (awaited_row file stamp page bytes pulls p h e))

delta_some : (f : Frame) (own : ℕ) (stamp : Stamp) (pages : List ℕ) (p : Pull) (pulls : List Pull) → is_delta own p stamp pages ≡ true → on_delta_of f own stamp pages (Some p) pulls ≡ goes_on f (record p { wanted = Some pages }) pulls
delta_some f own stamp pages p pulls t = rw (t, on_delta_of) refl

pub wanted_row : (own : Option CopyHead) (file : FileId) (stamp : Stamp) (pages : List ℕ) (pulls : List Pull) (p : Pull) → wants pulls own file stamp pages ≡ true → row pull_key (file_key file) pulls ≡ Some p → is_delta (pages_in_head own) p stamp pages ≡ true
wanted_row own file stamp pages pulls p h e = subst (λ (r : Option Pull). wants_in (pages_in_head own) stamp pages r ≡ true) e h

pub delta_taken : (f : Frame) (own : Option CopyHead) (file : FileId) (stamp : Stamp) (pages : List ℕ) (pulls : List Pull) (p : Pull) → Rising pull_key pulls → wants pulls own file stamp pages ≡ true → row pull_key (file_key file) pulls ≡ Some p →
    goes_on f (record p { wanted = Some pages }) (without_row pull_key (file_key file) pulls) ≡ on_delta_of f (pages_in_head own) stamp pages (row pull_key (file_key file) pulls) pulls
delta_taken f own file stamp pages pulls p r h e =
    ap (λ (ps : List Pull). sends (pull_packets f (record p { wanted = Some pages })) ps) (put_again (record p { wanted = Some pages }) (file_key file) pulls (row_key (file_key file) pulls p e) r)
    ∙ sym (ap (λ (o : Option Pull). on_delta_of f (pages_in_head own) stamp pages o pulls) e ∙ delta_some f (pages_in_head own) stamp pages p pulls (wanted_row own file stamp pages pulls p h e))

-- what is asked of the own copy is asked of its head

pub over_head : (own : Option FileCopy) (base : Option Stamp) → is_over_head (head_of own) base ≡ is_over own base
over_head None None = refl
over_head None (Some base) = refl
over_head (Some own) None = refl
over_head (Some own) (Some base) = refl

pub pages_head : (own : Option FileCopy) → pages_in_head (head_of own) ≡ pages_in own
pages_head None = refl
pages_head (Some own) = refl

-- the pull at a place is sized
pub sized_at : (pulls : List Pull) (i : ℕ) (d : Pull) → i < length pulls → AreSized pulls → IsSized (get_or pulls i d)
sized_at [] i d l h = absurd (omega arith)
sized_at (p ∷ ps) zero d l h = h.0
sized_at (p ∷ ps) (suc i) d l h = sized_at ps i d (omega arith) h.1
