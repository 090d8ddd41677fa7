-- The copies that are found stay so while losing gates are closed.
use Rattle.std.proofs.Common.{◌≡◌, ◌≢◌, ℕ, zero, suc, ◌+◌, ◌*◌, ◌≤◌, ◌<◌, ◌%◌, Bool, true, false, List, [], ◌∷◌, length, get_or, refl, sym, ◌∙◌, ap, subst, arith, inl, inr, ⊎_elim}
use Rattle.std.specs.Prelude.{Option, None, Some, ◌==◌, ◌&&◌, nat_lt, if◌then◌else◌}
use Rattle.std.proofs.lemmas.Bool.{cases_lt, cases_eq, cases_Bool, eqb-true, lt-ltb}
use Rattle.std.proofs.lemmas.Bool.Decides.{nat_tests}
use Rattle.std.proofs.lemmas.List.{get_or_read}
use Rattle.locus_ids.specs.Sizes.{inodes_max, content_pages_max}
use Rattle.disk_model.specs.Images.{Torn, bytes_at, overwritten, is_within}
use Rattle.pack_layout.specs.of_file_content.Pages.{pages_of}
use Rattle.pack_layout.specs.declared.half.Half.{Half}
use Rattle.pack_layout.specs.declared.half.Half.TheVariants.{First, Second}
use Rattle.pack_layout.specs.Layout.{area_length, tables_at, slot_at, table_at, other_half}
use Rattle.pack_layout.proofs.Halves.{half_most, half_sum, other_twice, cases_half, both_slots}
use Rattle.inode_switch.specs.View.{is_open, turn, size, SameView}
use Rattle.inode_switch.specs.Replace.{Loses}
use Rattle.inode_switch.proofs.SlotBytes.{says}
use Rattle.inode_switch.proofs.OldOrNew.{below_tables}
use Rattle.inode_switch.proofs.of_gate_switch.Tearing.{same_bytes}
use Rattle.inode_switch.proofs.of_gate_switch.Pieces.{put_gate, torn_overwritten}
use Rattle.pack_slots.specs.declared.inode_copy.InodeCopy.{InodeCopy}
use Rattle.pack_slots.specs.Copies.{copy_of, ShowsTables, ShowsCopies}
use Rattle.pack_slots.specs.Slots.{HasNumbers, HasTables, IsFound}
use Rattle.pack_slots.specs.Mounting.{KeepsTables, ClosesAscending, losing_gates, has_losing_gate}
use Rattle.pack_slots.specs.Losing.{AreFound, IsClosing, KeepsCopies, closed_if, losing_half, is_losing}
use Rattle.pack_slots.proofs.Finding.{found_good}
use Rattle.inode_switch.proofs.of_gate_switch.Tearing.{torn_widens, torn_joins, torn_stays}

-- what was found, once the losing gates of the inodes 1 to n are closed
abbrev pub AreClosed : ℕ → ℕ → List ℕ → List (Option InodeCopy) → List Bool → Type 0
AreClosed base n image copies losing = (ino : ℕ) → 1 ≤ ino → ino ≤ inodes_max → IsFound base ino image (copy_of copies ino) (nat_lt n ino && is_losing losing ino)

-- the slots of an inode are the same in both images
pub record SameSlots (base ino : ℕ) (a b : List ℕ) : Type 0 where
  pub long : length b ≡ length a
  pub bytes : (half : Half) (k : ℕ) → k < 512 → get_or b (slot_at base ino half + k) 0 ≡ get_or a (slot_at base ino half + k) 0
  pub tables : (k : ℕ) → base + tables_at ≤ k → get_or b k 0 ≡ get_or a k 0

-- tables stand behind all slots
still_tables : (base : ℕ) (a b : List ℕ) (copy : Option InodeCopy) → length b ≡ length a → ((k : ℕ) → base + tables_at ≤ k → get_or b k 0 ≡ get_or a k 0) → ShowsTables base a copy → ShowsTables base b copy
still_tables base a b None long same shows = tt
still_tables base a b (Some copy) long same shows = λ k lt.
    same_bytes a b (table_at base (get_or copy.slot.tables k 0)) 1024 long (λ j in_table. same (table_at base (get_or copy.slot.tables k 0) + j) (omega arith)) ∙ shows k lt

numbers_still : (base place : ℕ) (a b : List ℕ) → length b ≡ length a → ((k : ℕ) → base + tables_at ≤ k → get_or b k 0 ≡ get_or a k 0) → bytes_at b place 512 ≡ bytes_at a place 512 → HasNumbers base place a → HasNumbers base place b
numbers_still base place a b long same bytes has = record {
  slot = has.slot;
  more = has.more;
  bytes = bytes ∙ has.bytes;
  is = has.is;
  has = record {
    tables = λ k lt. same_bytes a b (table_at base (get_or has.slot.tables k 0)) 1024 long (λ j in_table. same (table_at base (get_or has.slot.tables k 0) + j) (omega arith)) ∙ has.has.tables k lt;
    pages = has.has.pages;
  };
}

module _ (base ino : ℕ) (a b : List ℕ) (same : SameSlots base ino a b) where
  pub same_gate : (half : Half) → is_open b (slot_at base ino half) ≡ is_open a (slot_at base ino half)
  same_gate half = ap (λ (n : ℕ). n == 165) (let e : slot_at base ino half + 0 ≡ slot_at base ino half = omega arith in subst (λ (k : ℕ). get_or b k 0 ≡ get_or a k 0) e (same.bytes half 0 (omega arith)))

  same_slot : (half : Half) → bytes_at b (slot_at base ino half) 512 ≡ bytes_at a (slot_at base ino half) 512
  same_slot half = same_bytes a b (slot_at base ino half) 512 same.long (λ k lt. same.bytes half k lt)

  pub still_found : (copy : Option InodeCopy) (loses : Bool) → IsFound base ino a copy loses → IsFound base ino b copy loses
  still_found None true found = absurd found.says
  still_found None false found = record { says = λ half. same_gate half ∙ found.says half; own = found.own; tables = tt }
  still_found (Some copy) false found = record {
    says = record { bytes = same_slot copy.half ∙ found.says.bytes; other = same_gate (other_half copy.half) ∙ found.says.other };
    own = found.own;
    tables = still_tables base a b (Some copy) same.long same.tables found.tables;
  }
  still_found (Some copy) true found =
      let other = found.says.other in
      record {
        says = record {
          bytes = same_slot copy.half ∙ found.says.bytes;
          beside = same_gate (other_half copy.half) ∙ found.says.beside;
          other = record { slot = other.slot; bytes = same_slot (other_half copy.half) ∙ other.bytes; is = other.is; own = other.own };
          next = (let e = same.bytes (other_half copy.half) 1 (omega arith) in let n = found.says.next.0 in omega arith, found.says.next.1 ∙ ap (λ (k : ℕ). (k + 1) % 3) (sym (same.bytes (other_half copy.half) 1 (omega arith))));
        };
        own = found.own;
        tables = still_tables base a b (Some copy) same.long same.tables found.tables;
      }

  same_tables : (half : Half) → HasTables base (slot_at base ino half) a → HasTables base (slot_at base ino half) b
  same_tables half had is = numbers_still base (slot_at base ino half) a b same.long same.tables (same_slot half) (had (sym (same_gate half) ∙ is))

-- places of slots
slots_apart : (base i : ℕ) (one : Half) (ino : ℕ) (half : Half) (k : ℕ) → k < 512 → 1 ≤ i → 1 ≤ ino → i ≢ ino → slot_at base i one + k ≢ slot_at base ino half
slots_apart base i one ino half k lt low also ne e = omega (arith, half_most one, half_most half)

-- and of an inode's two slots
halves_apart : (base ino : ℕ) (half : Half) (k : ℕ) → k < 512 → slot_at base ino half + k ≢ slot_at base ino (other_half half)
halves_apart base ino half k lt e = omega (arith, half_sum half)

beside : (at k : ℕ) → k ≢ at → is_within at 1 k ≡ false
beside at k ne = grind (arith, nat_tests)

-- a gate of one inode is torn
module _ (base ino : ℕ) (half : Half) (a b : List ℕ) (low : 1 ≤ ino) (high : ino ≤ inodes_max) (torn : Torn (slot_at base ino half) 1 a b) where
  in_tables : (k : ℕ) → base + tables_at ≤ k → get_or b k 0 ≡ get_or a k 0
  in_tables k le = torn.outside k (beside (slot_at base ino half) k (below_tables base ino half k high le))

  pub others_same : (i : ℕ) → 1 ≤ i → i ≢ ino → SameSlots base i a b
  others_same i from ne = record {
    long = torn.long;
    bytes = λ one k lt. torn.outside (slot_at base i one + k) (beside (slot_at base ino half) (slot_at base i one + k) (slots_apart base i one ino half k lt from low ne));
    tables = in_tables;
  }

  -- and it is as it was
  pub unchanged : get_or b (slot_at base ino half) 0 ≡ get_or a (slot_at base ino half) 0 → SameSlots base ino a b
  unchanged e = record {
    long = torn.long;
    bytes = λ one k lt. ⊎_elim
        (λ (here : slot_at base ino one + k ≡ slot_at base ino half). subst (λ (n : ℕ). get_or b n 0 ≡ get_or a n 0) (sym here) e)
        (λ (apart : slot_at base ino one + k ≢ slot_at base ino half). torn.outside (slot_at base ino one + k) (beside (slot_at base ino half) (slot_at base ino one + k) apart))
        (cases_eq (slot_at base ino one + k) (slot_at base ino half));
    tables = in_tables;
  }

  other_slot : (one : Half) → half ≡ other_half one → bytes_at b (slot_at base ino one) 512 ≡ bytes_at a (slot_at base ino one) 512
  other_slot one e = same_bytes a b (slot_at base ino one) 512 torn.long
      (λ k lt. torn.outside (slot_at base ino one + k) (beside (slot_at base ino half) (slot_at base ino one + k) (subst (λ (h : Half). slot_at base ino one + k ≢ slot_at base ino h) (sym e) (halves_apart base ino one k lt))))

  other_gate : (one : Half) → half ≡ other_half one → is_open b (slot_at base ino one) ≡ is_open a (slot_at base ino one)
  other_gate one e =
      let at : slot_at base ino one + 0 ≡ slot_at base ino one = omega arith in
      ap (λ (n : ℕ). n == 165) (subst (λ (k : ℕ). get_or b k 0 ≡ get_or a k 0) at (torn.outside (slot_at base ino one + 0) (beside (slot_at base ino half) (slot_at base ino one + 0) (subst (λ (h : Half). slot_at base ino one + 0 ≢ slot_at base ino h) (sym e) (halves_apart base ino one 0 (omega arith))))))

  -- the copy stays where the other gate is closed
  pub found_shut : (copy : InodeCopy) → half ≡ other_half copy.half → is_open b (slot_at base ino half) ≡ false → IsFound base ino a (Some copy) true → IsFound base ino b (Some copy) false
  found_shut copy e shut found = record {
    says = record {
      bytes = other_slot copy.half e ∙ found.says.bytes;
      other = subst (λ (one : Half). is_open b (slot_at base ino one) ≡ false) e shut;
    };
    own = found.own;
    tables = still_tables base a b (Some copy) torn.long in_tables found.tables;
  }

  pub found_torn : (copy : InodeCopy) → half ≡ other_half copy.half → IsFound base ino a (Some copy) true → (loses : Bool) × IsFound base ino b (Some copy) loses
  found_torn copy e found = ⊎_elim
      (λ (is : is_open b (slot_at base ino half) ≡ true).
      let was : is_open a (slot_at base ino half) ≡ true = subst (λ (one : Half). is_open a (slot_at base ino one) ≡ true) (sym e) found.says.beside in
      (true, still_found base ino a b (unchanged (eqb-true (get_or b (slot_at base ino half) 0) 165 is ∙ sym (eqb-true (get_or a (slot_at base ino half) 0) 165 was))) (Some copy) true found))
      (λ (is : is_open b (slot_at base ino half) ≡ false). (false, found_shut copy e is found))
      (cases_Bool (is_open b (slot_at base ino half)))

  -- the other gate is as it was, and one that is still open has its tables
  module _ (was : is_open a (slot_at base ino half) ≡ true) where
    own_keeps : (one : Half) → HasTables base (slot_at base ino one) a → HasTables base (slot_at base ino one) b
    own_keeps one had is = ⊎_elim
        (λ (e : one ≡ half).
        let still : is_open b (slot_at base ino half) ≡ true = subst (λ (h : Half). is_open b (slot_at base ino h) ≡ true) e is in
        same_tables base ino a b (unchanged (eqb-true (get_or b (slot_at base ino half) 0) 165 still ∙ sym (eqb-true (get_or a (slot_at base ino half) 0) 165 was))) one had is)
        (λ (e : one ≡ other_half half).
        let apart : half ≡ other_half one = sym (other_twice half) ∙ ap other_half (sym e) in
        let bytes = other_slot one apart in
        let gate : is_open b (slot_at base ino one) ≡ is_open a (slot_at base ino one) = other_gate one apart in
        numbers_still base (slot_at base ino one) a b torn.long in_tables bytes (had (sym gate ∙ is)))
        (cases_half one half)

    pub torn_keeps : KeepsTables base a b
    torn_keeps i one from most = ⊎_elim
        (λ (e : i ≡ ino). subst (λ (n : ℕ). HasTables base (slot_at base n one) a → HasTables base (slot_at base n one) b) (sym e) (own_keeps one))
        (λ (ne : i ≢ ino). same_tables base i a b (others_same i from ne) one)
        (cases_eq i ino)

-- the pages of what is open are few
module _ (base n : ℕ) (image : List ℕ) (copies : List (Option InodeCopy)) (losing : List Bool) (closed : AreClosed base n image copies losing) where
  few : (i : ℕ) (half : Half) → 1 ≤ i → i ≤ inodes_max → is_open image (slot_at base i half) ≡ true → pages_of (size image (slot_at base i half)) ≤ content_pages_max
  few i half low high is =
      let has = (found_good base i image (copy_of copies i) (nat_lt n i && is_losing losing i) (closed i low high)).slots half is in
      let s = says image (slot_at base i half) has.slot has.bytes has.is in
      let size_is = s.size in
      let small = has.is.size in
      omega arith

  loser : (copy : Option InodeCopy) → base + area_length ≤ length image → n < inodes_max → IsFound base (n + 1) image copy true → Loses base (n + 1) (losing_half copy) image
  loser None area lt found = absurd found.says
  loser (Some copy) area lt found =
      let s = says image (slot_at base (n + 1) copy.half) copy.slot found.says.bytes found.own.slot in
      let e = other_twice copy.half in
      record {
        area = area;
        low = omega arith;
        high = omega arith;
        mine = found.says.beside;
        other = subst (λ (half : Half). is_open image (slot_at base (n + 1) half) ≡ true) (sym e) s.open_gate;
        next = (found.says.next.0, ap (λ (half : Half). turn image (slot_at base (n + 1) half)) e ∙ s.turn ∙ found.says.next.1);
        few = few;
      }

  here_loses : is_losing losing (n + 1) ≡ true → (nat_lt n (n + 1) && is_losing losing (n + 1)) ≡ true
  here_loses is = (λ i. lt-ltb n (n + 1) (omega arith) i && is i)

  pub this_loses : base + area_length ≤ length image → n < inodes_max → is_losing losing (n + 1) ≡ true → Loses base (n + 1) (losing_half (copy_of copies (n + 1))) image
  this_loses area lt is = loser (copy_of copies (n + 1)) area lt (subst (λ (b : Bool). IsFound base (n + 1) image (copy_of copies (n + 1)) b) (here_loses is) (closed (n + 1) (omega arith) (omega arith)))

none_within : (at k : ℕ) → is_within at 0 k ≡ false
none_within at k = grind (arith, nat_tests)

-- the inode whose gate is torn where it loses
module _ (base ino : ℕ) (a b : List ℕ) (low : 1 ≤ ino) (high : ino ≤ inodes_max) where
  nothing_torn : (at : ℕ) → Torn at 0 a b → SameSlots base ino a b
  nothing_torn at torn = record { long = torn.long; bytes = λ half k lt. torn.outside (slot_at base ino half + k) (none_within at (slot_at base ino half + k)); tables = λ k le. torn.outside k (none_within at k) }

  own_torn : (copy : Option InodeCopy) (loses : Bool) → IsFound base ino a copy loses → Torn (slot_at base ino (losing_half copy)) (if loses then 1 else 0) a b → (still : Bool) × IsFound base ino b copy still
  own_torn copy false found torn = (false, still_found base ino a b (nothing_torn (slot_at base ino (losing_half copy)) torn) copy false found)
  own_torn None true found torn = absurd found.says
  own_torn (Some copy) true found torn = found_torn base ino (other_half copy.half) a b low high torn copy refl found

  own_shut : (copy : Option InodeCopy) (loses : Bool) → IsFound base ino a copy loses → Torn (slot_at base ino (losing_half copy)) (if loses then 1 else 0) a b
      → (loses ≡ true → is_open b (slot_at base ino (losing_half copy)) ≡ false) → IsFound base ino b copy false
  own_shut copy false found torn shut = still_found base ino a b (nothing_torn (slot_at base ino (losing_half copy)) torn) copy false found
  own_shut None true found torn shut = absurd found.says
  own_shut (Some copy) true found torn shut = found_shut base ino (other_half copy.half) a b low high torn copy refl (shut refl) found

-- each open slot has its tables as before
own_tables : (base ino : ℕ) (a b : List ℕ) → 1 ≤ ino → ino ≤ inodes_max → (copy : Option InodeCopy) (loses : Bool) → IsFound base ino a copy loses → Torn (slot_at base ino (losing_half copy)) (if loses then 1 else 0) a b → KeepsTables base a b
own_tables base ino a b low high copy false found torn = (λ i one from most. same_tables base i a b (nothing_torn base i a b from most (slot_at base ino (losing_half copy)) torn) one)
own_tables base ino a b low high None true found torn = absurd found.says
own_tables base ino a b low high (Some copy) true found torn = torn_keeps base ino (other_half copy.half) a b low high torn found.says.beside

same_test : (n ino : ℕ) → ino ≢ n + 1 → nat_lt n ino ≡ nat_lt (n + 1) ino
same_test n ino ne = grind (arith, nat_tests)

-- whether an inode has two open slots
open_both : (base ino : ℕ) (half : Half) (image : List ℕ) → is_open image (slot_at base ino half) ≡ true → is_open image (slot_at base ino (other_half half)) ≡ true → has_losing_gate base ino image ≡ true
open_both base ino half image one other =
    let all = both_slots (λ w. is_open image (slot_at base ino w) ≡ true) half one other in
    (λ i. all First i && all Second i)

shut_one : (base ino : ℕ) (half : Half) (image : List ℕ) → is_open image (slot_at base ino half) ≡ false → has_losing_gate base ino image ≡ false
shut_one base ino First image shut = (λ i. shut i && is_open image (slot_at base ino Second))
shut_one base ino Second image shut = (λ i. is_open image (slot_at base ino First) && shut i) ∙ and_false (is_open image (slot_at base ino First))
  where
    and_false : (t : Bool) → (t && false) ≡ false
    and_false true = refl
    and_false false = refl

pub found_gates : (base ino : ℕ) (image : List ℕ) (copy : Option InodeCopy) (loses : Bool) → IsFound base ino image copy loses → has_losing_gate base ino image ≡ loses
found_gates base ino image None true found = absurd found.says
found_gates base ino image None false found = shut_one base ino First image (found.says First)
found_gates base ino image (Some copy) true found =
    let s = says image (slot_at base ino copy.half) copy.slot found.says.bytes found.own.slot in
    open_both base ino copy.half image s.open_gate found.says.beside
found_gates base ino image (Some copy) false found = shut_one base ino (other_half copy.half) image found.says.other

-- one gate more
module _ (base n : ℕ) (a b : List ℕ) (copies : List (Option InodeCopy)) (losing : List Bool) (closed : AreClosed base n a copies losing) (lt : n < inodes_max) where
  abbrev this_copy : Option InodeCopy
  this_copy = copy_of copies (n + 1)

  abbrev this_gate : ℕ
  this_gate = slot_at base (n + 1) (losing_half this_copy)

  this_found : IsFound base (n + 1) a this_copy (is_losing losing (n + 1))
  this_found = subst (λ (t : Bool). IsFound base (n + 1) a this_copy (t && is_losing losing (n + 1))) (lt-ltb n (n + 1) (omega arith)) (closed (n + 1) (omega arith) (omega arith))

  module _ (torn : Torn this_gate (if is_losing losing (n + 1) then 1 else 0) a b) where
    one_byte : Torn this_gate 1 a b
    one_byte = elim (cases_Bool (is_losing losing (n + 1))) [
      | inl is ↦ subst (λ (t : Bool). Torn this_gate (if t then 1 else 0) a b) is torn
      | inr is ↦ torn_widens this_gate 0 this_gate 1 (omega arith) (omega arith) a b (subst (λ (t : Bool). Torn this_gate (if t then 1 else 0) a b) is torn)
    ]

    in_slots : Torn (base + 1024) 2097152 a b
    in_slots = let most = half_most (losing_half this_copy) in torn_widens this_gate 1 (base + 1024) 2097152 (omega arith) (omega arith) a b one_byte

    others : (ino : ℕ) → 1 ≤ ino → ino ≤ inodes_max → ino ≢ n + 1 → IsFound base ino b (copy_of copies ino) (nat_lt n ino && is_losing losing ino)
    others ino low high ne = still_found base ino a b (others_same base (n + 1) (losing_half this_copy) a b (omega arith) (omega arith) one_byte ino low ne) (copy_of copies ino) (nat_lt n ino && is_losing losing ino) (closed ino low high)

    ascends : (old : List ℕ) → AreFound base inodes_max old copies losing → ClosesAscending base old b
    ascends old was = record {
      n = n;
      closed = λ ino low le.
          let none : nat_lt n ino ≡ false = grind (arith, nat_tests) in
          found_gates base ino b (copy_of copies ino) (nat_lt n ino && is_losing losing ino) (others ino low (omega arith) (λ e. omega arith)) ∙ ap (λ (t : Bool). t && is_losing losing ino) none;
      others = λ ino beyond high.
          found_gates base ino b (copy_of copies ino) (nat_lt n ino && is_losing losing ino) (others ino (omega arith) high (λ e. omega arith)) ∙ ap (λ (t : Bool). t && is_losing losing ino) (lt-ltb n ino (omega arith))
          ∙ sym (found_gates base ino old (copy_of copies ino) (is_losing losing ino) (was ino (omega arith) high));
    }

    pub crash_keeps : (old : List ℕ) → AreFound base inodes_max old copies losing → KeepsCopies base copies old a → SameView base a b → KeepsCopies base copies old b
    crash_keeps old was kept view = record {
      slots = torn_joins (base + 1024) 2097152 old a b kept.slots in_slots;
      view = λ i low high. view i low high ∙ kept.view i low high;
      found = λ ino low high. ⊎_elim
          (λ (e : ino ≡ n + 1). subst (λ (i : ℕ). (still : Bool) × IsFound base i b (copy_of copies i) still) (sym e) (own_torn base (n + 1) a b (omega arith) (omega arith) this_copy (is_losing losing (n + 1)) this_found torn))
          (λ (ne : ino ≢ n + 1). (nat_lt n ino && is_losing losing ino, others ino low high ne))
          (cases_eq ino (n + 1));
      tables = λ ino half low high had. own_tables base (n + 1) a b (omega arith) (omega arith) this_copy (is_losing losing (n + 1)) this_found torn ino half low high (kept.tables ino half low high had);
      order = ascends old was;
    }

    pub closed_more : (is_losing losing (n + 1) ≡ true → is_open b this_gate ≡ false) → AreClosed base (n + 1) b copies losing
    closed_more shut ino low high = ⊎_elim
        (λ (e : ino ≡ n + 1).
        let none : nat_lt (n + 1) ino ≡ false = grind (arith, nat_tests) in
        subst (λ (t : Bool). IsFound base ino b (copy_of copies ino) (t && is_losing losing ino)) (sym none)
        (subst (λ (i : ℕ). IsFound base i b (copy_of copies i) false) (sym e) (own_shut base (n + 1) a b (omega arith) (omega arith) this_copy (is_losing losing (n + 1)) this_found torn shut)))
        (λ (ne : ino ≢ n + 1). subst (λ (t : Bool). IsFound base ino b (copy_of copies ino) (t && is_losing losing ino)) (same_test n ino ne) (others ino low high ne))
        (cases_eq ino (n + 1))

-- before the first, and after the last
pub none_closed : (base : ℕ) (image : List ℕ) (copies : List (Option InodeCopy)) (losing : List Bool) → AreFound base inodes_max image copies losing → AreClosed base 0 image copies losing
none_closed base image copies losing found ino low high = subst (λ (t : Bool). IsFound base ino image (copy_of copies ino) (t && is_losing losing ino)) (sym (lt-ltb 0 ino (omega arith))) (found ino low high)

pub all_shown : (base : ℕ) (image : List ℕ) (copies : List (Option InodeCopy)) (losing : List Bool) → AreClosed base inodes_max image copies losing → ShowsCopies base image (copy_of copies)
all_shown base image copies losing closed ino low high =
    let none : nat_lt inodes_max ino ≡ false = grind (arith, nat_tests) in
    let found = subst (λ (t : Bool). IsFound base ino image (copy_of copies ino) (t && is_losing losing ino)) none (closed ino low high) in
    (found.says, found.tables)

pub keeps_start : (base : ℕ) (image : List ℕ) (copies : List (Option InodeCopy)) (losing : List Bool) → AreFound base inodes_max image copies losing → KeepsCopies base copies image image
keeps_start base image copies losing found = record {
  slots = torn_stays (base + 1024) 2097152 image;
  view = λ i low high. refl;
  found = λ ino low high. (is_losing losing ino, found ino low high);
  tables = λ ino half low high had. had;
  order = record { n = 0; closed = λ ino low le. absurd (omega arith); others = λ ino beyond high. refl };
}

-- the gate that was closed
pub shut_gate : (gate : ℕ) (loses : Bool) (a b : List ℕ) → gate + 1 ≤ length a → b ≡ closed_if loses gate a → Torn gate (if loses then 1 else 0) a b
shut_gate gate true a b fits is = subst (λ (l : List ℕ). Torn gate 1 a l) (sym is) (torn_overwritten a gate (0 ∷ []) fits)
shut_gate gate false a b fits is = subst (λ (l : List ℕ). Torn gate 0 a l) (sym is) (torn_stays gate 0 a)

pub gate_is_shut : (gate : ℕ) (loses : Bool) (a b : List ℕ) → gate + 1 ≤ length a → b ≡ closed_if loses gate a → loses ≡ true → is_open b gate ≡ false
gate_is_shut gate loses a b fits is it =
    let e : b ≡ overwritten a gate (0 ∷ []) = is ∙ ap (λ (t : Bool). closed_if t gate a) it in
    ap (λ (l : List ℕ). get_or l gate 0 == 165) e ∙ ap (λ (n : ℕ). n == 165) (put_gate a gate 0 fits)

-- how many gates lose
pub losing_more : (base n : ℕ) (image : List ℕ) → losing_gates base (n + 1) image ≡ losing_gates base n image + (if has_losing_gate base (n + 1) image then 1 else 0)
unfolding losing_gates
losing_more base n image = let e : n + 1 ≡ suc n = omega arith in subst (λ (m : ℕ). losing_gates base m image ≡ losing_gates base n image + (if has_losing_gate base m image then 1 else 0)) (sym e) refl

losing_suc : (base n : ℕ) (image : List ℕ) → losing_gates base n image ≤ losing_gates base (suc n) image
unfolding losing_gates
losing_suc base n image = omega arith

pub losing_rises : (base m n : ℕ) (image : List ℕ) → m ≤ n → losing_gates base m image ≤ losing_gates base n image
losing_rises base zero zero image le = omega arith
losing_rises base (suc m) zero image le = absurd (omega arith)
losing_rises base m (suc n) image le = ⊎_elim
    (λ (lt : m < suc n). let rest = losing_rises base m n image (omega arith) in let more = losing_suc base n image in omega arith)
    (λ (ge : suc n ≤ m). let e : m ≡ suc n = omega arith in omega (arith, ap (λ (k : ℕ). losing_gates base k image) e))
    (cases_lt m (suc n))

pub losing_none : (base : ℕ) (image : List ℕ) → losing_gates base 0 image ≡ 0
unfolding losing_gates
losing_none base image = refl

-- the calls for one inode more
pub calls_more : (base n : ℕ) (image : List ℕ) (loses : Bool) → has_losing_gate base (n + 1) image ≡ loses → 2 * losing_gates base n image + (if loses then 2 else 0) ≡ 2 * losing_gates base (n + 1) image
calls_more base n image true is = omega (arith, losing_more base n image, ap (λ (t : Bool). let k : ℕ = if t then 1 else 0 in k) is)
calls_more base n image false is = omega (arith, losing_more base n image, ap (λ (t : Bool). let k : ℕ = if t then 1 else 0 in k) is)

-- an inode's copy by its place in the list
pub copy_at : (copies : List (Option InodeCopy)) (copy : Option InodeCopy) (i n : ℕ) → n ≡ i → n < length copies → copy ≡ get_or copies n copy → copy ≡ copy_of copies (i + 1)
copy_at copies copy i n same lt is =
    let e : suc n ≡ i + 1 = omega arith in
    get_or_read copies n copy lt is None ∙ ap (λ (k : ℕ). copy_of copies k) e

pub losing_at : (losing : List Bool) (i n : ℕ) → n ≡ i → get_or losing n false ≡ is_losing losing (i + 1)
losing_at losing i n same = let e : suc n ≡ i + 1 = omega arith in ap (λ (k : ℕ). is_losing losing k) e

-- a crash while a gate is closed
pub closing_keeps : (base i : ℕ) (old now x : List ℕ) (copies : List (Option InodeCopy)) (losing : List Bool) (loses : Bool) (ino : ℕ) (half : Half) → AreFound base inodes_max old copies losing → AreClosed base i now copies losing → i < inodes_max → loses ≡ is_losing losing (i + 1)
    → ino ≡ i + 1 → half ≡ losing_half (copy_of copies (i + 1)) → KeepsCopies base copies old now → IsClosing base ino half loses now x → KeepsCopies base copies old x
closing_keeps base i old now x copies losing loses ino half was closed lt loses_is ino_is half_is kept closing =
    let torn = subst (λ (b : Bool). Torn (slot_at base (i + 1) (losing_half (copy_of copies (i + 1)))) (if b then 1 else 0) now x) loses_is
    (subst (λ (one : Half). Torn (slot_at base (i + 1) one) (if loses then 1 else 0) now x) half_is (subst (λ (n : ℕ). Torn (slot_at base n half) (if loses then 1 else 0) now x) ino_is closing.torn)) in
    crash_keeps base i now x copies losing closed lt torn old was kept closing.view
