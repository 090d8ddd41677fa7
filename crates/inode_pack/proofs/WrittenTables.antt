-- Which tables a commit writes, and what the others keep.
use Rattle.std.proofs.Common.{◌≡◌, ◌≢◌, ◌⊎◌, inl, inr, ⊎_elim, ℕ, zero, suc, ◌+◌, ◌-◌, ◌*◌, ◌/◌, ◌<◌, ◌≤◌, Bool, true, false, ◌||◌, cond, List, [], ◌∷◌, length, drop, get_or, Option, None, Some, refl, sym, ap, subst, ◌∙◌, arith, length-take, length-drop}
use Rattle.std.specs.Prelude.{◌==◌, ◌&&◌, not, nat_lt, nat_le, slice_index_or}
use Rattle.std.specs.List.{All, filter, list_any}
use Rattle.std.proofs.lemmas.Bool.{cases_lt, cases_Bool, eqb-true, eq-eqb, ne_eqb, lt-ltb, ltb-true, le-leb, leb-true, true≢false, false≢true}
use Rattle.std.proofs.lemmas.List.{same_lists, get_or-take, get_or-drop, get_or_default}
use Rattle.std.proofs.lemmas.List.Elements.{filter_passes}
use Rattle.std.proofs.lemmas.List.Folds.{list_any-append}
use Rattle.locus_ids.specs.Sizes.{content_pages_max, slot_pages, table_pages, content_tables_max}
use Rattle.file_content.specs.Pages.{pages_of, tables_of, pages_under, is_under, pages_from}
use Rattle.pack_layout.specs.Layout.{none, numbers_under}
use Rattle.new_contents.specs.of_shadow_pages.Working.{Working}
use Rattle.pack_slots.specs.declared.inode_copy.InodeCopy.{InodeCopy}
use Rattle.new_contents.specs.Changed.{is_changed}
use Rattle.inode_pack.specs.Committing.{pages_before, changed_below, tables_over, is_table_over}
use Rattle.inode_pack.specs.PagePieces.{marked_tables}

-- a number is among others
abbrev pub IsIn : ℕ → List ℕ → Type 0
IsIn k [] = ⊥
IsIn k (m ∷ ks) = (m ≡ k) ⊎ IsIn k ks

in_filter : (f : ℕ → Bool) (k : ℕ) (xs : List ℕ) → IsIn k xs → f k ≡ true → IsIn k (filter f xs)
in_filter f k [] among is = absurd among
in_filter f k (x ∷ xs) (inl e) is = subst (λ (b : Bool). IsIn k (cond b (x ∷ filter f xs) (filter f xs))) (sym (ap f e ∙ is)) (inl e)
in_filter f k (x ∷ xs) (inr among) is = behind (f x) (in_filter f k xs among is) where
  behind : (b : Bool) → IsIn k (filter f xs) → IsIn k (cond b (x ∷ filter f xs) (filter f xs))
  behind true h = inr h
  behind false h = h

-- a content has a table exactly where pages stand under it
pub some_under : (k n : ℕ) → k < tables_of n → 0 < pages_under k n
some_under k n lt = omega arith

pub table_inside : (k n : ℕ) → 0 < pages_under k n → k < tables_of n
table_inside k n lt = omega arith

-- which pages these are
pub is_under_of : (k i : ℕ) → slot_pages + table_pages * k ≤ i → i < slot_pages + table_pages * k + table_pages → is_under k i ≡ true
is_under_of k i low high =
    let behind : nat_le slot_pages i ≡ true = le-leb slot_pages i (omega arith) in
    let at : ((i - slot_pages) / table_pages == k) ≡ true = eq-eqb ((i - slot_pages) / table_pages) k (omega arith) in
    (λ j. behind j && at j)

and_parts : (a b : Bool) → (a && b) ≡ true → (a ≡ true) × (b ≡ true)
and_parts true b e = (refl, e)
and_parts false b e = absurd (false≢true e)

pub under_parts : (k i : ℕ) → is_under k i ≡ true → (slot_pages + table_pages * k ≤ i) × (i < slot_pages + table_pages * k + table_pages)
under_parts k i is =
    let p = and_parts (nat_le slot_pages i) ((i - slot_pages) / table_pages == k) is in
    let low = leb-true slot_pages i p.0 in
    let at = eqb-true ((i - slot_pages) / table_pages) k p.1 in
    (omega arith, omega arith)

-- one of the pages under a table is changed, or none is
or_last : (a b : Bool) → b ≡ true → (a || b) ≡ true
or_last true b e = refl
or_last false b e = e

or_none : (a b : Bool) → a ≡ false → b ≡ false → (a || b) ≡ false
or_none true b e f = absurd (true≢false e)
or_none false b e f = f

pub one_changed : (w : Working) (k n i : ℕ) → i < n → is_changed w i ≡ true → is_under k i ≡ true → list_any (is_under k) (changed_below w n) ≡ true
one_changed w k zero i lt is under = absurd (omega arith)
one_changed w k (suc n) i lt is under =
    let last = list_any (is_under k) (cond (is_changed w n) (n ∷ []) []) in
    list_any-append (is_under k) (changed_below w n) (cond (is_changed w n) (n ∷ []) [])
    ∙ ⊎_elim
    (λ (less : i < n). ap (λ (b : Bool). b || last) (one_changed w k n i less is under))
    (λ (ge : n ≤ i).
    let e : i ≡ n = omega arith in
    let here : is_changed w n ≡ true = ap (λ (j : ℕ). is_changed w j) (sym e) ∙ is in
    let own : is_under k n ≡ true = ap (λ (j : ℕ). is_under k j) (sym e) ∙ under in
    or_last (list_any (is_under k) (changed_below w n)) last (ap (λ (b : Bool). list_any (is_under k) (cond b (n ∷ []) [])) here ∙ ap (λ (b : Bool). b || false) own))
    (cases_lt i n)

pub none_changed : (w : Working) (k n : ℕ) → ((i : ℕ) → i < n → is_changed w i ≡ true → is_under k i ≡ false) → list_any (is_under k) (changed_below w n) ≡ false
none_changed w k zero h = refl
none_changed w k (suc n) h =
    list_any-append (is_under k) (changed_below w n) (cond (is_changed w n) (n ∷ []) [])
    ∙ or_none (list_any (is_under k) (changed_below w n)) (list_any (is_under k) (cond (is_changed w n) (n ∷ []) [])) (none_changed w k n (λ i lt is. h i (omega arith) is)) (last (is_changed w n) refl)
  where
    last : (b : Bool) → is_changed w n ≡ b → list_any (is_under k) (cond b (n ∷ []) []) ≡ false
    last true is = ap (λ (c : Bool). c || false) (h n (omega arith) is)
    last false is = refl

-- a table that isn't written is one of the copy, with as many pages under it, none of which is changed
pub record IsKept (o : Option InodeCopy) (w : Working) (k : ℕ) : Type 0 where
  pub copy : InodeCopy
  pub held : o ≡ Some copy
  pub inside : k < tables_of (pages_of copy.slot.size)
  pub under : pages_under k (pages_of copy.slot.size) ≡ pages_under k (pages_of w.size)
  pub unchanged : (i : ℕ) → i < pages_of w.size → is_under k i ≡ true → is_changed w i ≡ false

parts_of : (a b c : Bool) → a ≡ true → (a && (not b || c)) ≡ false → (b ≡ true) × (c ≡ false)
parts_of true true true a e = absurd (true≢false e)
parts_of true true false a e = (refl, refl)
parts_of true false c a e = absurd (true≢false e)
parts_of false b c a e = absurd (false≢true a)

held_table : (o : Option InodeCopy) (k m : ℕ) → 0 < m → pages_under k (pages_before o) ≡ m → (copy : InodeCopy) × (o ≡ Some copy) × (k < tables_of (pages_of copy.slot.size)) × (pages_under k (pages_of copy.slot.size) ≡ m)
held_table None k m some e = absurd (omega arith)
held_table (Some copy) k m some e = (copy, refl, table_inside k (pages_of copy.slot.size) (omega arith), e)

pub kept_table : (o : Option InodeCopy) (w : Working) (k : ℕ) → k < tables_of (pages_of w.size) → is_table_over o w k ≡ false → IsKept o w k
kept_table o w k lt is =
    let n = pages_of w.size in
    let some = some_under k n lt in
    let parts = parts_of (nat_lt 0 (pages_under k n)) (pages_under k (pages_before o) == pages_under k n) (list_any (is_under k) (changed_below w n)) (lt-ltb 0 (pages_under k n) some) is in
    let h = held_table o k (pages_under k n) some (eqb-true (pages_under k (pages_before o)) (pages_under k n) parts.0) in
    record {
      copy = h.0;
      held = h.1;
      inside = h.2;
      under = h.3;
      unchanged = λ i less under. ⊎_elim
          (λ (yes : is_changed w i ≡ true). absurd (true≢false (sym (one_changed w k n i less yes under) ∙ parts.1)))
          (λ (no : is_changed w i ≡ false). no)
          (cases_Bool (is_changed w i));
    }

-- the tables that are written are those of the content that don't stay
pub over_inside : (o : Option InodeCopy) (w : Working) (k : ℕ) → is_table_over o w k ≡ true → k < tables_of (pages_of w.size)
over_inside o w k is =
    let n = pages_of w.size in
    let p = and_parts (nat_lt 0 (pages_under k n)) (not (pages_under k (pages_before o) == pages_under k n) || list_any (is_under k) (changed_below w n)) is in
    table_inside k n (ltb-true 0 (pages_under k n) p.0)

pub over_are : (o : Option InodeCopy) (w : Working) → All (λ k. (k < tables_of (pages_of w.size)) × (is_table_over o w k ≡ true)) (tables_over o w)
over_are o w = λ i d lt.
    let is = filter_passes (is_table_over o w) (pages_from 0 content_tables_max) i d lt in
    (over_inside o w (get_or (tables_over o w) i d) is, is)

-- as a commit finds them one by one: more or fewer pages, one that is changed, or none at all
module _ (o : Option InodeCopy) (w : Working) (k before under : ℕ) (was : before ≡ pages_under k (pages_before o)) (is : under ≡ pages_under k (pages_of w.size)) where
  some : 0 < under → nat_lt 0 (pages_under k (pages_of w.size)) ≡ true
  some lt = lt-ltb 0 (pages_under k (pages_of w.size)) (subst (λ (n : ℕ). 0 < n) is lt)

  pub over_more : 0 < under → before ≢ under → is_table_over o w k ≡ true
  over_more lt ne =
      let one = some lt in
      let other = ne_eqb (pages_under k (pages_before o)) (pages_under k (pages_of w.size)) (λ e. ne (was ∙ e ∙ sym is)) in
      (λ i. one i && (not (other i) || list_any (is_under k) (changed_below w (pages_of w.size))))

  pub over_changed : 0 < under → before ≡ under → is_table_over o w k ≡ list_any (is_under k) (changed_below w (pages_of w.size))
  over_changed lt e =
      let one = some lt in
      let same = eq-eqb (pages_under k (pages_before o)) (pages_under k (pages_of w.size)) (sym was ∙ e ∙ is) in
      (λ i. one i && (not (same i) || list_any (is_under k) (changed_below w (pages_of w.size))))

  pub over_none : under ≤ 0 → is_table_over o w k ≡ false
  over_none le = ⊎_elim
      (λ (yes : is_table_over o w k ≡ true). let lt = some_under k (pages_of w.size) (over_inside o w k yes) in absurd (omega arith))
      (λ (isnt : is_table_over o w k ≡ false). isnt)
      (cases_Bool (is_table_over o w k))

among_all : (k : ℕ) → k < content_tables_max → IsIn k (pages_from 0 content_tables_max)
among_all zero lt = inl refl
among_all (suc zero) lt = inr (inl refl)
among_all (suc (suc k)) lt = absurd (omega arith)

pub over_has : (o : Option InodeCopy) (w : Working) (k : ℕ) → k < content_tables_max → is_table_over o w k ≡ true → IsIn k (tables_over o w)
over_has o w k lt is = in_filter (is_table_over o w) k (pages_from 0 content_tables_max) (among_all k lt) is

-- those that are marked so
pub marked_over : (marks : List Bool) (o : Option InodeCopy) (w : Working) → ((k : ℕ) → k < content_tables_max → slice_index_or marks k false ≡ is_table_over o w k) → marked_tables marks ≡ tables_over o w
marked_over marks o w same =
    let one = same 0 (omega arith) in
    let two = same 1 (omega arith) in
    (λ i. cond (one i) (0 ∷ cond (two i) (1 ∷ []) []) (cond (two i) (1 ∷ []) []))

-- Page numbers under a table that stays: as many in both contents, the same ones, and none behind them.
module _ (k n m : ℕ) (a b : List ℕ) (lt : k < content_tables_max) (as_many : pages_under k n ≡ pages_under k m) (long : length a ≡ content_pages_max) (other : length b ≡ content_pages_max)
    (same : (i : ℕ) → i < n → i < m → is_under k i ≡ true → get_or a i 0 ≡ get_or b i 0)
    (rest : (i : ℕ) → n ≤ i → i < content_pages_max → get_or a i 0 ≡ none) (behind : (i : ℕ) → m ≤ i → i < content_pages_max → get_or b i 0 ≡ none) where
  abbrev first : ℕ
  first = slot_pages + table_pages * k

  under_byte : (xs : List ℕ) (r d : ℕ) → r < table_pages → r < length (numbers_under xs k) → get_or (numbers_under xs k) r d ≡ get_or xs (slot_pages + table_pages * k + r) 0
  under_byte xs r d small inside =
      get_or_default (numbers_under xs k) r d 0 inside ∙ get_or-take table_pages (drop (slot_pages + table_pages * k) xs) r 0 small ∙ get_or-drop (slot_pages + table_pages * k) xs r 0

  pub same_under : numbers_under a k ≡ numbers_under b k
  same_under =
      let one : length (numbers_under a k) ≡ table_pages = omega (arith, lt, long, length-take table_pages (drop (slot_pages + table_pages * k) a), length-drop (slot_pages + table_pages * k) a) in
      let two : length (numbers_under b k) ≡ table_pages = omega (arith, lt, other, length-take table_pages (drop (slot_pages + table_pages * k) b), length-drop (slot_pages + table_pages * k) b) in
      same_lists (numbers_under a k) (numbers_under b k) (one ∙ sym two) (λ r d inside.
      let small : r < table_pages = omega (arith, one, inside) in
      let i = slot_pages + table_pages * k + r in
      let most : slot_pages + table_pages * k + r < content_pages_max = omega (arith, small, lt) in
      under_byte a r d small inside
      ∙ ⊎_elim
      (λ (less : slot_pages + table_pages * k + r < n). same i less (omega (arith, less, small, as_many)) (is_under_of k i (omega arith) (omega (arith, small))))
      (λ (ge : n ≤ slot_pages + table_pages * k + r). rest i ge most ∙ sym (behind i (omega (arith, ge, small, as_many)) most))
      (cases_lt (slot_pages + table_pages * k + r) n)
      ∙ sym (under_byte b r d small (omega (arith, two, small))))
