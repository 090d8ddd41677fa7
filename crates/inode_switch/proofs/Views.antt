-- Images that agree where the view looks have one view.
use Rattle.std.proofs.Common.{◌≡◌, ◌⊎◌, inl, inr, ⊎_elim, ℕ, zero, suc, ◌+◌, ◌-◌, ◌*◌, ◌≤◌, ◌<◌, Bool, true, false, List, ◌++◌, length, take, get_or, refl, sym, ◌∙◌, ap, subst, arith, ◌%◌}
use Rattle.std.specs.Prelude.{Some, ◌==◌, cond}
use Rattle.std.proofs.lemmas.Bool.{cases_lt, lt-ltb, le-ltb}
use Rattle.locus_ids.specs.Sizes.{page_bytes, content_pages_max, slot_pages, table_pages}
use Rattle.disk_model.specs.Images.{bytes_at}
use Rattle.gate_switch.proofs.Tearing.{same_bytes}
use Rattle.pack_layout.specs.of_file_content.Pages.{pages_of, table_of, tables_of}
use Rattle.pack_layout.specs.Layout.{layout, page_at, table_at}
use Rattle.pack_layout.specs.SlotFields.{number, fields_in}
use Rattle.inode_switch.specs.View.{is_open, size, number_place, table, page, bytes_of, Version, version, Newer, Second, First, Neither, newer_of, newer, counting, version_in}

-- a slot, its tables and its pages are the same in both
pub record Keeps (base slot : ℕ) (a b : List ℕ) : Type 0 where
  pub long : length b ≡ length a
  pub few : pages_of (size a slot) ≤ content_pages_max
  pub bytes : (k : ℕ) → k < layout.slot_length → get_or b (slot + k) 0 ≡ get_or a (slot + k) 0
  pub tables : (t k : ℕ) → t < tables_of (pages_of (size a slot)) → k < layout.table_length → get_or b (table_at base (table a slot t) + k) 0 ≡ get_or a (table_at base (table a slot t) + k) 0
  pub pages : (i k : ℕ) → i < pages_of (size a slot) → k < page_bytes → get_or b (page_at base (page a base slot i) + k) 0 ≡ get_or a (page_at base (page a base slot i) + k) 0

-- where the number of a page stands
pub in_slot : (image : List ℕ) (base slot i : ℕ) → i < slot_pages → number_place image base slot i ≡ slot + 80 + 2 * i
in_slot image base slot i lt = ap (λ (b : Bool). cond b (slot + 80 + 2 * i) (table_at base (table image slot (table_of i)) + 2 * ((i - slot_pages) % table_pages))) (lt-ltb i slot_pages lt)

pub in_table : (image : List ℕ) (base slot i : ℕ) → slot_pages ≤ i → number_place image base slot i ≡ table_at base (table image slot (table_of i)) + 2 * ((i - slot_pages) % table_pages)
in_table image base slot i le = ap (λ (b : Bool). cond b (slot + 80 + 2 * i) (table_at base (table image slot (table_of i)) + 2 * ((i - slot_pages) % table_pages))) (le-ltb i slot_pages le)

-- two bytes that are the same are one number
same_number : (a b : List ℕ) (at : ℕ) → get_or b at 0 ≡ get_or a at 0 → get_or b (at + 1) 0 ≡ get_or a (at + 1) 0 → number b at ≡ number a at
same_number a b at high low = (λ i. high i * 256 + low i)

-- the size is read from bytes behind the gate
pub size_by : (slot : ℕ) (a b : List ℕ) → ((k : ℕ) → 1 ≤ k → k < layout.slot_length → get_or b (slot + k) 0 ≡ get_or a (slot + k) 0) → size b slot ≡ size a slot
size_by slot a b same =
    let byte : (j : ℕ) → j ≤ 3 → get_or b (slot + layout.size_at + j) 0 ≡ get_or a (slot + layout.size_at + j) 0 = λ j le.
    let e : slot + (layout.size_at + j) ≡ slot + layout.size_at + j = omega arith in
    subst (λ (m : ℕ). get_or b m 0 ≡ get_or a m 0) e (same (layout.size_at + j) (omega arith) (omega arith)) in
    let first = same layout.size_at (omega arith) (omega arith) in
    (λ i. ((first i * 256 + byte 1 (omega arith) i) * 256 + byte 2 (omega arith) i) * 256 + byte 3 (omega arith) i)

module _ (base slot : ℕ) (a b : List ℕ) (keeps : Keeps base slot a b) where
  at_byte : (k : ℕ) → k < layout.slot_length → get_or b (slot + k) 0 ≡ get_or a (slot + k) 0
  at_byte = keeps.bytes

  pub same_open : is_open b slot ≡ is_open a slot
  same_open = ap (λ (n : ℕ). n == 165) (let e : slot + 0 ≡ slot = omega arith in subst (λ (n : ℕ). get_or b n 0 ≡ get_or a n 0) e (at_byte 0 (omega arith)))

  same_size : size b slot ≡ size a slot
  same_size = size_by slot a b (λ k low lt. at_byte k lt)

  -- a number that stands in the slot
  same_in_slot : (at : ℕ) → at + 1 < 512 → number b (slot + at) ≡ number a (slot + at)
  same_in_slot at lt =
      let e : slot + (at + 1) ≡ slot + at + 1 = omega arith in
      same_number a b (slot + at) (at_byte at (omega arith)) (subst (λ (m : ℕ). get_or b m 0 ≡ get_or a m 0) e (at_byte (at + 1) lt))

  same_table : (t : ℕ) → t < 2 → table b slot t ≡ table a slot t
  same_table t lt = let e : slot + (200 + 2 * t) ≡ slot + 200 + 2 * t = omega arith in subst (λ (m : ℕ). number b m ≡ number a m) e (same_in_slot (200 + 2 * t) (omega arith))

  same_page : (n : ℕ) → n < pages_of (size a slot) → page b base slot n ≡ page a base slot n
  same_page n lt = ⊎_elim
      (λ (below : n < slot_pages).
      let e : slot + (80 + 2 * n) ≡ slot + 80 + 2 * n = omega arith in
      ap (λ (m : ℕ). number b m) (in_slot b base slot n below) ∙ subst (λ (m : ℕ). number b m ≡ number a m) e (same_in_slot (80 + 2 * n) (omega arith)) ∙ sym (ap (λ (m : ℕ). number a m) (in_slot a base slot n below)))
      (λ (above : slot_pages ≤ n). in_tables n lt above)
      (cases_lt n slot_pages)
    where
      in_tables : (n : ℕ) → n < pages_of (size a slot) → slot_pages ≤ n → page b base slot n ≡ page a base slot n
      in_tables n lt above =
          let t = table_of n in
          let r = 2 * ((n - slot_pages) % table_pages) in
          let at = table_at base (table a slot t) + r in
          let few : table_of n < 2 = omega (arith, keeps.few, lt) in
          let inside : table_of n < tables_of (pages_of (size a slot)) = omega (arith, lt, above) in
          let e : table_at base (table a slot t) + (r + 1) ≡ at + 1 = omega arith in
          ap (λ (m : ℕ). number b m) (in_table b base slot n above ∙ ap (λ (m : ℕ). table_at base m + r) (same_table t few))
          ∙ same_number a b at (keeps.tables t r inside (omega arith)) (subst (λ (m : ℕ). get_or b m 0 ≡ get_or a m 0) e (keeps.tables t (r + 1) inside (omega arith)))
          ∙ sym (ap (λ (m : ℕ). number a m) (in_table a base slot n above))

  same_pages : (n : ℕ) → n ≤ pages_of (size a slot) → bytes_of b base slot n ≡ bytes_of a base slot n
  same_pages zero le = refl
  same_pages (suc n) le =
      let lt : n < pages_of (size a slot) = omega arith in
      let one = ap (λ (p : ℕ). bytes_at b (page_at base p) page_bytes) (same_page n lt) ∙ same_bytes a b (page_at base (page a base slot n)) page_bytes keeps.long (λ k in_page. keeps.pages n k lt in_page) in
      let rest = same_pages n (omega arith) in
      (λ i. rest i ++ one i)

  pub same_version : version b base slot ≡ version a base slot
  same_version =
      let fields = ap fields_in (same_bytes a b slot layout.slot_length keeps.long at_byte) in
      let all = ap (λ (n : ℕ). bytes_of b base slot (pages_of n)) same_size ∙ same_pages (pages_of (size a slot)) (omega arith) in
      (λ i. record { fields = fields i; content = take (same_size i) (all i) })

-- a slot that is closed in both, or kept
abbrev pub Agrees : ℕ → ℕ → List ℕ → List ℕ → Type 0
Agrees base slot a b = ((is_open a slot ≡ false) × (is_open b slot ≡ false)) ⊎ Keeps base slot a b

module _ (base x y : ℕ) (a b : List ℕ) where
  both : (o p : Bool) (f : Newer) → version b base x ≡ version a base x → version b base y ≡ version a base y → version_in b base (counting o p f x y) ≡ version_in a base (counting o p f x y)
  both true true Second first second = ap (λ (v : Version). Some v) second
  both true true First first second = ap (λ (v : Version). Some v) first
  both true true Neither first second = refl
  both true false f first second = ap (λ (v : Version). Some v) first
  both false true f first second = ap (λ (v : Version). Some v) second
  both false false f first second = refl

  only_first : (o : Bool) (f g : Newer) → version b base x ≡ version a base x → version_in b base (counting o false f x y) ≡ version_in a base (counting o false g x y)
  only_first true f g first = ap (λ (v : Version). Some v) first
  only_first false f g first = refl

  only_second : (p : Bool) (f g : Newer) → version b base y ≡ version a base y → version_in b base (counting false p f x y) ≡ version_in a base (counting false p g x y)
  only_second true f g second = ap (λ (v : Version). Some v) second
  only_second false f g second = refl

  same_newer : Keeps base x a b → Keeps base y a b → newer b x y ≡ newer a x y
  same_newer first second = (λ i. newer_of ((first.bytes 1 (omega arith) i + 1) % 3 == second.bytes 1 (omega arith) i) ((second.bytes 1 (omega arith) i + 1) % 3 == first.bytes 1 (omega arith) i))

  pub same_view : Agrees base x a b → Agrees base y a b
      → version_in b base (counting (is_open b x) (is_open b y) (newer b x y) x y) ≡ version_in a base (counting (is_open a x) (is_open a y) (newer a x y) x y)
  same_view (inl shut) (inl also) =
      (λ i. version_in b base (counting (shut.1 i) (also.1 i) (newer b x y) x y))
      ∙ sym (λ i. version_in a base (counting (shut.0 i) (also.0 i) (newer a x y) x y))
  same_view (inl shut) (inr second) =
      (λ i. version_in b base (counting (shut.1 i) (same_open base y a b second i) (newer b x y) x y))
      ∙ only_second (is_open a y) (newer b x y) (newer a x y) (same_version base y a b second)
      ∙ sym (λ i. version_in a base (counting (shut.0 i) (is_open a y) (newer a x y) x y))
  same_view (inr first) (inl shut) =
      (λ i. version_in b base (counting (same_open base x a b first i) (shut.1 i) (newer b x y) x y))
      ∙ only_first (is_open a x) (newer b x y) (newer a x y) (same_version base x a b first)
      ∙ sym (λ i. version_in a base (counting (is_open a x) (shut.0 i) (newer a x y) x y))
  same_view (inr first) (inr second) =
      (λ i. version_in b base (counting (same_open base x a b first i) (same_open base y a b second i) (same_newer first second i) x y))
      ∙ both (is_open a x) (is_open a y) (newer a x y) (same_version base x a b first) (same_version base y a b second)
