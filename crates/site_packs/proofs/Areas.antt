-- Images that agree on the area of a pack: the pack is the same in both.
use Rattle.std.proofs.Common.{◌≡◌, ◌≢◌, ◌⊎◌, inl, inr, ⊎_elim, ℕ, zero, suc, ◌+◌, ◌-◌, ◌%◌, ◌≤◌, ◌<◌, Bool, true, false, List, length, get_or, Option, None, Some, refl, sym, ap, subst, ◌∙◌, arith}
use Rattle.std.specs.Prelude.{◌==◌, ◌&&◌, if◌then◌else◌, IfSome}
use Rattle.std.proofs.lemmas.Bool.{cases_lt}
use Rattle.locus_ids.specs.Sizes.{inodes_max, page_bytes, slot_pages, content_tables_max, pack_pages, pack_tables}
use Rattle.disk_model.specs.Images.{bytes_at, Torn}
use Rattle.file_content.specs.Pages.{pages_of, tables_of}
use Rattle.pack_layout.specs.declared.half.Half.{Half}
use Rattle.pack_layout.specs.declared.half.Half.TheVariants as slot_half
use Rattle.pack_layout.specs.declared.slot.Slot.{Slot}
use Rattle.pack_layout.specs.Layout.{area_length, area_at, slot_at, table_at, page_at, numbers_of, IsSlot, other_half}
use Rattle.pack_layout.proofs.Halves.{half_most}
use Rattle.gate_switch.proofs.Tearing.{same_bytes, is_outside}
use Rattle.pack_slots.specs.of_inode_switch.View.{is_open, turn, size, table, page, Version, version, version_in, Newer, First, Second, Neither, newer_of, newer, counting, view}
use Rattle.pack_slots.specs.of_inode_switch.Slots.{Says, HoldsTables}
use Rattle.pack_slots.proofs.of_inode_switch.SlotBytes.{says}
use Rattle.pack_slots.proofs.of_inode_switch.TableBytes.{page_named}
use Rattle.pack_slots.proofs.of_inode_switch.Views.{Keeps, same_version}
use Rattle.pack_slots.proofs.Numbers.{first_numbers}
use Rattle.pack_slots.specs.declared.inode_copy.InodeCopy.{InodeCopy}
use Rattle.pack_slots.specs.declared.mount_fault.MountFault.{MountFault}
use Rattle.pack_slots.specs.declared.mount_fault.MountFault.TheVariants.{Disk, NotAPack, BadSlot, SharedTable, SharedPage, NoMemory}
use Rattle.inode_pack.specs.Pack.{PackState, Shows}
use Rattle.pack_slots.specs.Copies.{copy_of, numbers_in, IsCopy, AreCopies, IsPackOf, ShowsCopy}
use Rattle.pack_slots.specs.Slots.{HasSlot, HasNumbers, IsGoodInode, counting_place}
use Rattle.pack_slots.specs.Mounting.{Names, IsShared, NamesTable, IsSharedTable, IsSound, IsCause, KeepsTables, losing_gates}

-- the area from `base` on has the same bytes in both
pub record AgreeOn (base : ℕ) (a b : List ℕ) : Type 0 where
  pub long : length b ≡ length a
  pub each : (k : ℕ) → k < area_length → get_or b (base + k) 0 ≡ get_or a (base + k) 0

pub agree_back : (base : ℕ) (a b : List ℕ) → AgreeOn base a b → AgreeOn base b a
agree_back base a b agree = record { long = sym agree.long; each = λ k lt. sym (agree.each k lt) }

-- what is torn within one area leaves the others
pub other_area : (nth other : ℕ) (a b : List ℕ) → nth ≢ other → Torn (area_at nth) area_length a b → AgreeOn (area_at other) a b
other_area nth other a b apart torn = record {
  long = torn.long;
  each = λ k lt. torn.outside (area_at other + k) (is_outside (area_at nth) area_length (area_at other + k) (⊎_elim
      (λ (less : nth < other). inr (omega arith))
      (λ (ge : other ≤ nth). inl (⊎_elim (λ (more : other < nth). omega arith) (λ (le : nth ≤ other). absurd (apart (omega arith))) (cases_lt other nth)))
      (cases_lt nth other)));
}

-- a byte of a place in the area
at_place : (base at : ℕ) (a b : List ℕ) → AgreeOn base a b → base ≤ at → at < base + area_length → get_or b at 0 ≡ get_or a at 0
at_place base at a b agree low high = let e : base + (at - base) ≡ at = omega arith in subst (λ (n : ℕ). get_or b n 0 ≡ get_or a n 0) e (agree.each (at - base) (omega arith))

module _ (base : ℕ) (a b : List ℕ) (agree : AgreeOn base a b) where
  slot_byte : (ino : ℕ) (half : Half) (k : ℕ) → 1 ≤ ino → ino ≤ inodes_max → k < 512 → get_or b (slot_at base ino half + k) 0 ≡ get_or a (slot_at base ino half + k) 0
  slot_byte ino half k low high lt = let most = half_most half in at_place base (slot_at base ino half + k) a b agree (omega arith) (omega arith)

  page_byte : (number k : ℕ) → number < pack_pages → k < page_bytes → get_or b (page_at base number + k) 0 ≡ get_or a (page_at base number + k) 0
  page_byte number k lt small = at_place base (page_at base number + k) a b agree (omega arith) (omega arith)

  table_byte : (number k : ℕ) → number < pack_tables → k < 1024 → get_or b (table_at base number + k) 0 ≡ get_or a (table_at base number + k) 0
  table_byte number k lt small = at_place base (table_at base number + k) a b agree (omega arith) (omega arith)

  slot_bytes_same : (ino : ℕ) (half : Half) → 1 ≤ ino → ino ≤ inodes_max → bytes_at b (slot_at base ino half) 512 ≡ bytes_at a (slot_at base ino half) 512
  slot_bytes_same ino half low high = same_bytes a b (slot_at base ino half) 512 agree.long (λ k lt. slot_byte ino half k low high lt)

  pub open_same : (ino : ℕ) (half : Half) → 1 ≤ ino → ino ≤ inodes_max → is_open b (slot_at base ino half) ≡ is_open a (slot_at base ino half)
  open_same ino half low high =
      let e : slot_at base ino half + 0 ≡ slot_at base ino half = omega arith in
      ap (λ (n : ℕ). n == 165) (subst (λ (n : ℕ). get_or b n 0 ≡ get_or a n 0) e (slot_byte ino half 0 low high (omega arith)))

  turn_same : (ino : ℕ) (half : Half) → 1 ≤ ino → ino ≤ inodes_max → turn b (slot_at base ino half) ≡ turn a (slot_at base ino half)
  turn_same ino half low high = slot_byte ino half 1 low high (omega arith)

  newer_same : (ino : ℕ) → 1 ≤ ino → ino ≤ inodes_max → newer b (slot_at base ino slot_half.First) (slot_at base ino slot_half.Second) ≡ newer a (slot_at base ino slot_half.First) (slot_at base ino slot_half.Second)
  newer_same ino low high =
      let one = turn_same ino slot_half.First low high in
      let two = turn_same ino slot_half.Second low high in
      (λ i. newer_of ((one i + 1) % 3 == two i) ((two i + 1) % 3 == one i))

  pub place_same : (ino : ℕ) → 1 ≤ ino → ino ≤ inodes_max → counting_place base ino b ≡ counting_place base ino a
  place_same ino low high =
      let one = open_same ino slot_half.First low high in
      let two = open_same ino slot_half.Second low high in
      let n = newer_same ino low high in
      (λ i. counting (one i) (two i) (n i) (slot_at base ino slot_half.First) (slot_at base ino slot_half.Second))

  pub named_same : (group site : ℕ) → IsPackOf base group site a → IsPackOf base group site b
  named_same group site named = same_bytes a b base 1024 agree.long (λ k lt. agree.each k (omega arith)) ∙ named

  has_slot_same : (ino : ℕ) (half : Half) → 1 ≤ ino → ino ≤ inodes_max → HasSlot ino (slot_at base ino half) a → HasSlot ino (slot_at base ino half) b
  has_slot_same ino half low high has = record { slot = has.slot; bytes = slot_bytes_same ino half low high ∙ has.bytes; is = has.is; own = has.own }

  tables_same : (s : Slot) (numbers : List ℕ) → IsSlot s → HoldsTables a base s numbers → HoldsTables b base s numbers
  tables_same s numbers is holds k lt = same_bytes a b (table_at base (get_or s.tables k 0)) page_bytes agree.long (λ i small. table_byte (get_or s.tables k 0) i (is.tables.inside k lt) small) ∙ holds k lt

  pub numbers_same : (ino : ℕ) (half : Half) → 1 ≤ ino → ino ≤ inodes_max → HasNumbers base (slot_at base ino half) a → HasNumbers base (slot_at base ino half) b
  numbers_same ino half low high h = record {
    slot = h.slot;
    more = h.more;
    bytes = slot_bytes_same ino half low high ∙ h.bytes;
    is = h.is;
    has = record { tables = tables_same h.slot (numbers_of h.slot.pages h.more) h.is h.has.tables; pages = h.has.pages };
  }

  pub tables_agree : KeepsTables base a b
  tables_agree ino half low high had is = numbers_same ino half low high (had (sym (open_same ino half low high) ∙ is))

  -- what such a slot says is the same in both
  module _ (ino : ℕ) (half : Half) (low : 1 ≤ ino) (high : ino ≤ inodes_max) (h : HasNumbers base (slot_at base ino half) a) where
    abbrev at_slot : ℕ
    at_slot = slot_at base ino half

    said_a : Says a (slot_at base ino half) h.slot
    said_a = says a (slot_at base ino half) h.slot h.bytes h.is

    said_b : Says b (slot_at base ino half) h.slot
    said_b = says b (slot_at base ino half) h.slot (slot_bytes_same ino half low high ∙ h.bytes) h.is

    first : (i : ℕ) → i < slot_pages → get_or (numbers_of h.slot.pages h.more) i 0 ≡ get_or h.slot.pages i 0
    first i lt = first_numbers (record { half = half; slot = h.slot; more = h.more }) h.is i lt

    named_a : (i : ℕ) → i < pages_of h.slot.size → page a base (slot_at base ino half) i ≡ get_or (numbers_of h.slot.pages h.more) i 0
    named_a i lt = page_named a base at_slot h.slot (numbers_of h.slot.pages h.more) h.is said_a h.has.tables h.has.pages first i lt

    named_b : (i : ℕ) → i < pages_of h.slot.size → page b base (slot_at base ino half) i ≡ get_or (numbers_of h.slot.pages h.more) i 0
    named_b i lt = page_named b base at_slot h.slot (numbers_of h.slot.pages h.more) h.is said_b (tables_same h.slot (numbers_of h.slot.pages h.more) h.is h.has.tables) h.has.pages first i lt

    pub size_same : size b (slot_at base ino half) ≡ size a (slot_at base ino half)
    size_same = said_b.size ∙ sym said_a.size

    pub page_same : (i : ℕ) → i < pages_of (size a (slot_at base ino half)) → page b base (slot_at base ino half) i ≡ page a base (slot_at base ino half) i
    page_same i lt = let inside : i < pages_of h.slot.size = subst (λ (n : ℕ). i < pages_of n) said_a.size lt in named_b i inside ∙ sym (named_a i inside)

    pub table_same : (k : ℕ) → k < tables_of (pages_of (size a (slot_at base ino half))) → table b (slot_at base ino half) k ≡ table a (slot_at base ino half) k
    table_same k lt = let few : k < content_tables_max = (let small = h.is.size in let e = said_a.size in omega arith) in said_b.tables k few ∙ sym (said_a.tables k few)

    pub keeps : Keeps base (slot_at base ino half) a b
    keeps = let e = said_a.size in record {
      long = agree.long;
      few = let small = h.is.size in omega arith;
      bytes = λ k lt. slot_byte ino half k low high lt;
      tables = λ t k lt small.
          let inside : t < tables_of (pages_of h.slot.size) = subst (λ (n : ℕ). t < tables_of (pages_of n)) e lt in
          let few : t < content_tables_max = (let most = h.is.size in omega arith) in
          let number = h.is.tables.inside t inside in
          let f = said_a.tables t few in
          table_byte (table a at_slot t) k (omega arith) small;
      pages = λ i k lt small.
          let inside : i < pages_of h.slot.size = subst (λ (n : ℕ). i < pages_of n) e lt in
          let number = h.has.pages.inside i inside in
          let f = named_a i inside in
          page_byte (page a base at_slot i) k (omega arith) small;
    }

-- a slot that counts is open
counts_open : (o p : Bool) (f : Newer) (x y place : ℕ) → counting o p f x y ≡ Some place → ((place ≡ x) × (o ≡ true)) ⊎ ((place ≡ y) × (p ≡ true))
counts_open true true Second x y place is = inr (let e : Some y ≡ Some place = is in cc, refl)
counts_open true true First x y place is = inl (let e : Some x ≡ Some place = is in cc, refl)
counts_open true true Neither x y place is = absurd (let e : None ≡ Some place = is in cc)
counts_open true false f x y place is = inl (let e : Some x ≡ Some place = is in cc, refl)
counts_open false true f x y place is = inr (let e : Some y ≡ Some place = is in cc, refl)
counts_open false false f x y place is = absurd (let e : None ≡ Some place = is in cc)

pub counting_slot : (base ino : ℕ) (image : List ℕ) (place : ℕ) → counting_place base ino image ≡ Some place → (half : Half) × (place ≡ slot_at base ino half) × (is_open image (slot_at base ino half) ≡ true)
counting_slot base ino image place is =
    let first = slot_at base ino slot_half.First in
    let second = slot_at base ino slot_half.Second in
    ⊎_elim
    (λ (one : (place ≡ first) × (is_open image first ≡ true)). (slot_half.First, one.0, one.1))
    (λ (two : (place ≡ second) × (is_open image second ≡ true)). (slot_half.Second, two.0, two.1))
    (counts_open (is_open image first) (is_open image second) (newer image first second) first second place is)

module _ (base : ℕ) (a b : List ℕ) (agree : AgreeOn base a b) where
  pub good_same : (ino : ℕ) → 1 ≤ ino → ino ≤ inodes_max → IsGoodInode base ino a → IsGoodInode base ino b
  good_same ino low high good = record {
    slots = λ half is. has_slot_same base a b agree ino half low high (good.slots half (sym (open_same base a b agree ino half low high) ∙ is));
    turns = λ one two e. good.turns (sym (open_same base a b agree ino slot_half.First low high) ∙ one) (sym (open_same base a b agree ino slot_half.Second low high) ∙ two)
        (sym (turn_same base a b agree ino slot_half.First low high) ∙ e ∙ turn_same base a b agree ino slot_half.Second low high);
    tables = λ place is.
        let counts = sym (place_same base a b agree ino low high) ∙ is in
        let c = counting_slot base ino a place counts in
        subst (λ (at : ℕ). HasNumbers base at b) (sym c.1) (numbers_same base a b agree ino c.0 low high (subst (λ (at : ℕ). HasNumbers base at a) c.1 (good.tables place counts)));
  }

  -- what the view has of a good inode
  pub view_same : (ino : ℕ) → 1 ≤ ino → ino ≤ inodes_max → IsGoodInode base ino a → view b base ino ≡ view a base ino
  view_same ino low high good = ap (λ (o : Option ℕ). version_in b base o) (place_same base a b agree ino low high) ∙ by_place (counting_place base ino a) refl
    where
      by_place : (o : Option ℕ) → counting_place base ino a ≡ o → version_in b base o ≡ version_in a base o
      by_place None is = refl
      by_place (Some place) is =
          let c = counting_slot base ino a place is in
          let h = subst (λ (at : ℕ). HasNumbers base at a) c.1 (good.tables place is) in
          ap (λ (v : Version). Some v) (subst (λ (at : ℕ). version b base at ≡ version a base at) (sym c.1) (same_version base (slot_at base ino c.0) a b (keeps base a b agree ino c.0 low high h)))

  shows_copy_same : (ino : ℕ) → 1 ≤ ino → ino ≤ inodes_max → (o : Option InodeCopy) → IfSome o (λ copy. IsCopy ino copy) → ShowsCopy base ino a o → ShowsCopy base ino b o
  shows_copy_same ino low high None own shows = (λ half. open_same base a b agree ino half low high ∙ shows.0 half, tt)
  shows_copy_same ino low high (Some copy) own shows = (
    record {
      bytes = slot_bytes_same base a b agree ino copy.half low high ∙ shows.0.bytes;
      other = open_same base a b agree ino (other_half copy.half) low high ∙ shows.0.other;
    },
    tables_same base a b agree copy.slot (numbers_in copy) own.slot shows.1,
  )

module _ (base : ℕ) (a b : List ℕ) (agree : AgreeOn base a b) where
  -- the slot that counts in the second image, where the first one has its tables too
  there : (ino place : ℕ) → 1 ≤ ino → ino ≤ inodes_max → IsGoodInode base ino b → counting_place base ino b ≡ Some place → (half : Half) × (place ≡ slot_at base ino half) × HasNumbers base (slot_at base ino half) b
  there ino place low high good is = let c = counting_slot base ino b place is in (c.0, c.1, subst (λ (at : ℕ). HasNumbers base at b) c.1 (good.tables place is))

  names_same : (ino number : ℕ) → 1 ≤ ino → ino ≤ inodes_max → IsGoodInode base ino b → Names base ino number b → Names base ino number a
  names_same ino number low high good names =
      let t = there ino names.place low high good names.counts in
      let back = agree_back base a b agree in
      let inside : names.i < pages_of (size b (slot_at base ino t.0)) = subst (λ (at : ℕ). names.i < pages_of (size b at)) t.1 names.inside in
      record {
        place = names.place;
        counts = sym (place_same base a b agree ino low high) ∙ names.counts;
        i = names.i;
        inside = subst (λ (at : ℕ). names.i < pages_of (size a at)) (sym t.1) (subst (λ (n : ℕ). names.i < pages_of n) (sym (size_same base b a back ino t.0 low high t.2)) inside);
        is = subst (λ (at : ℕ). page a base at names.i ≡ number) (sym t.1) (page_same base b a back ino t.0 low high t.2 names.i inside ∙ subst (λ (at : ℕ). page b base at names.i ≡ number) t.1 names.is);
      }

  names_table_same : (ino number : ℕ) → 1 ≤ ino → ino ≤ inodes_max → IsGoodInode base ino b → NamesTable base ino number b → NamesTable base ino number a
  names_table_same ino number low high good names =
      let t = there ino names.place low high good names.counts in
      let back = agree_back base a b agree in
      let inside : names.k < tables_of (pages_of (size b (slot_at base ino t.0))) = subst (λ (at : ℕ). names.k < tables_of (pages_of (size b at))) t.1 names.inside in
      record {
        place = names.place;
        counts = sym (place_same base a b agree ino low high) ∙ names.counts;
        k = names.k;
        inside = subst (λ (at : ℕ). names.k < tables_of (pages_of (size a at))) (sym t.1) (subst (λ (n : ℕ). names.k < tables_of (pages_of n)) (sym (size_same base b a back ino t.0 low high t.2)) inside);
        is = subst (λ (at : ℕ). table a at names.k ≡ number) (sym t.1) (table_same base b a back ino t.0 low high t.2 names.k inside ∙ subst (λ (at : ℕ). table b at names.k ≡ number) t.1 names.is);
      }

  shared_same : (number : ℕ) → ((ino : ℕ) → 1 ≤ ino → ino ≤ inodes_max → IsGoodInode base ino b) → IsShared base number b → IsShared base number a
  shared_same number good shared =
      let low = shared.low in
      let apart = shared.apart in
      let high = shared.high in
      record {
        one = shared.one;
        other = shared.other;
        low = low;
        apart = apart;
        high = high;
        first = names_same shared.one number low (omega arith) (good shared.one low (omega arith)) shared.first;
        second = names_same shared.other number (omega arith) high (good shared.other (omega arith) high) shared.second;
      }

  shared_table_same : (number : ℕ) → ((ino : ℕ) → 1 ≤ ino → ino ≤ inodes_max → IsGoodInode base ino b) → IsSharedTable base number b → IsSharedTable base number a
  shared_table_same number good shared =
      let low = shared.low in
      let apart = shared.apart in
      let high = shared.high in
      record {
        one = shared.one;
        other = shared.other;
        low = low;
        apart = apart;
        high = high;
        first = names_table_same shared.one number low (omega arith) (good shared.one low (omega arith)) shared.first;
        second = names_table_same shared.other number (omega arith) high (good shared.other (omega arith) high) shared.second;
      }

  pub sound_same : (group site : ℕ) → IsSound base group site a → IsSound base group site b
  sound_same group site sound =
      let good : (ino : ℕ) → 1 ≤ ino → ino ≤ inodes_max → IsGoodInode base ino b = λ ino low high. good_same base a b agree ino low high (sound.inodes ino low high) in
      record {
        named = named_same base a b agree group site sound.named;
        inodes = good;
        tables = λ number shared. sound.tables number (shared_table_same number good shared);
        pages = λ number shared. sound.pages number (shared_same number good shared);
      }

-- why the pack doesn't mount
pub cause_same : (base group site : ℕ) (a b : List ℕ) → AgreeOn base a b → (fault : MountFault) → IsCause base group site a fault → IsCause base group site b fault
cause_same base group site a b agree Disk cause = tt
cause_same base group site a b agree NotAPack cause = λ named. cause (named_same base b a (agree_back base a b agree) group site named)
cause_same base group site a b agree (BadSlot ino) cause = (
  named_same base a b agree group site cause.0,
  record {
    low = cause.1.low;
    high = cause.1.high;
    bad = λ good. cause.1.bad (good_same base b a (agree_back base a b agree) ino cause.1.low cause.1.high good);
    below = λ lower low lt. good_same base a b agree lower low (let h = cause.1.high in omega arith) (cause.1.below lower low lt);
  },
)
cause_same base group site a b agree (SharedTable number) cause = (
  named_same base a b agree group site cause.0,
  record {
    inodes = λ ino low high. good_same base a b agree ino low high (cause.1.inodes ino low high);
    shared = shared_table_same base b a (agree_back base a b agree) number cause.1.inodes cause.1.shared;
    below = λ lower lt shared. cause.1.below lower lt (shared_table_same base a b agree lower (λ ino low high. good_same base a b agree ino low high (cause.1.inodes ino low high)) shared);
  },
)
cause_same base group site a b agree (SharedPage number) cause = (
  named_same base a b agree group site cause.0,
  record {
    inodes = λ ino low high. good_same base a b agree ino low high (cause.1.inodes ino low high);
    tables = λ table shared. cause.1.tables table (shared_table_same base a b agree table (λ ino low high. good_same base a b agree ino low high (cause.1.inodes ino low high)) shared);
    shared = shared_same base b a (agree_back base a b agree) number cause.1.inodes cause.1.shared;
    below = λ lower lt shared. cause.1.below lower lt (shared_same base a b agree lower (λ ino low high. good_same base a b agree ino low high (cause.1.inodes ino low high)) shared);
  },
)
cause_same base group site a b agree NoMemory cause = tt

-- the pack stands in both
pub shows_same : (pack : PackState) (a b : List ℕ) → AgreeOn pack.base a b → AreCopies pack.copies → Shows pack a → Shows pack b
shows_same pack a b agree are shows = record {
  area = (let e = agree.long in let le = shows.area in omega arith);
  named = named_same pack.base a b agree pack.group pack.site shows.named;
  copies = λ ino low high. shows_copy_same pack.base a b agree ino low high (copy_of pack.copies ino) (are.own ino) (shows.copies ino low high);
}

-- as many gates lose
pub gates_same : (base : ℕ) (a b : List ℕ) → AgreeOn base a b → (n : ℕ) → n ≤ inodes_max → losing_gates base n b ≡ losing_gates base n a
unfolding losing_gates
gates_same base a b agree zero le = refl
gates_same base a b agree (suc n) le =
    let rest = gates_same base a b agree n (omega arith) in
    let one = open_same base a b agree (suc n) slot_half.First (omega arith) le in
    let two = open_same base a b agree (suc n) slot_half.Second (omega arith) le in
    (λ i. let m : ℕ = if one i && two i then 1 else 0 in rest i + m)
