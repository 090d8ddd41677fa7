-- What a mount leaves whose closing of a losing gate was cut off.
use Rattle.std.proofs.Common.{◌≡◌, ◌≢◌, ℕ, ◌+◌, ◌-◌, ◌*◌, ◌≤◌, ◌<◌, Bool, true, false, cond, List, [], ◌∷◌, ◌++◌, length, get_or, refl, sym, ◌∙◌, ap, subst, arith}
use Rattle.std.specs.Prelude.{Option, None, Some, ◌&&◌, nat_lt}
use Rattle.std.proofs.lemmas.Bool.{eqb-true, lt-ltb}
use Rattle.std.proofs.lemmas.Bool.Decides.{nat_tests}
use Rattle.locus_ids.specs.Sizes.{inodes_max}
use Rattle.disk_model.specs.Cut.{Cut, left_by, left_in_write}
use Rattle.disk_model.specs.Images.{Torn}
use Rattle.pack_layout.specs.declared.half.Half.TheVariants.{First, Second}
use Rattle.pack_layout.specs.Layout.{area_length, slot_at, other_half}
use Rattle.pack_layout.proofs.Halves.{half_most}
use Rattle.inode_switch.specs.of_gate_switch.Gates.{gate_left}
use Rattle.inode_switch.proofs.of_gate_switch.Gates.{opens_write, opens_sync, torn_write, torn_sync}
use Rattle.inode_switch.specs.View.{is_open}
use Rattle.pack_slots.specs.declared.inode_copy.InodeCopy.{InodeCopy}
use Rattle.pack_slots.specs.Copies.{copy_of}
use Rattle.pack_slots.specs.Slots.{IsFound}
use Rattle.pack_slots.specs.Mounting.{has_losing_gate, losing_gates}
use Rattle.pack_slots.specs.Losing.{AreFound, losing_half, is_losing}
use Rattle.pack_slots.specs.Cutting.{losing_from, losing_inodes, closings_left}
use Rattle.pack_slots.proofs.Gates.{AreClosed, same_gate, others_same, still_found, unchanged, found_shut, found_gates, this_loses}
use Rattle.pack_slots.proofs.LosingLists.{losing_same, losing_nowhere, losing_parts, losing_count, closings_behind}

-- both gates of an inode, where its losing one is torn to an open or to a closed one
own_gates : (base ino : ℕ) (a b : List ℕ) (copy : Option InodeCopy) → 1 ≤ ino → ino ≤ inodes_max → IsFound base ino a copy true → Torn (slot_at base ino (losing_half copy)) 1 a b → (t : Bool) → is_open b (slot_at base ino (losing_half copy)) ≡ t → has_losing_gate base ino b ≡ t
own_gates base ino a b None low high found torn t is = absurd found.says
own_gates base ino a b (Some copy) low high found torn false is = found_gates base ino b (Some copy) false (found_shut base ino (other_half copy.half) a b low high torn copy refl is found)
own_gates base ino a b (Some copy) low high found torn true is =
    let was : is_open a (slot_at base ino (other_half copy.half)) ≡ true = found.says.beside in
    found_gates base ino b (Some copy) true (still_found base ino a b (unchanged base ino (other_half copy.half) a b low high torn
    (eqb-true (get_or b (slot_at base ino (other_half copy.half)) 0) 165 is ∙ sym (eqb-true (get_or a (slot_at base ino (other_half copy.half)) 0) 165 was))) (Some copy) true found)

module _ (base n : ℕ) (old now : List ℕ) (copies : List (Option InodeCopy)) (losing : List Bool) (was : AreFound base inodes_max old copies losing) (closed : AreClosed base n now copies losing) (lt : n < inodes_max) (loses : is_losing losing (n + 1) ≡ true) where
  abbrev copy : Option InodeCopy
  copy = copy_of copies (n + 1)

  abbrev gate : ℕ
  gate = slot_at base (n + 1) (losing_half copy)

  this_found : IsFound base (n + 1) now copy true
  this_found = subst (λ (b : Bool). IsFound base (n + 1) now copy b) (λ i. lt-ltb n (n + 1) (omega arith) i && loses i) (closed (n + 1) (omega arith) (omega arith))

  old_gates : (ino : ℕ) → 1 ≤ ino → ino ≤ inodes_max → has_losing_gate base ino old ≡ is_losing losing ino
  old_gates ino low high = found_gates base ino old (copy_of copies ino) (is_losing losing ino) (was ino low high)

  now_gates : (ino : ℕ) → 1 ≤ ino → ino ≤ inodes_max → has_losing_gate base ino now ≡ (nat_lt n ino && is_losing losing ino)
  now_gates ino low high = found_gates base ino now (copy_of copies ino) (nat_lt n ino && is_losing losing ino) (closed ino low high)

  below : (ino : ℕ) → 1 ≤ ino → ino ≤ n → has_losing_gate base ino now ≡ false
  below ino low le =
      let none : nat_lt n ino ≡ false = grind (arith, nat_tests) in
      now_gates ino low (omega arith) ∙ ap (λ (b : Bool). b && is_losing losing ino) none

  above : (ino : ℕ) → n < ino → ino ≤ inodes_max → has_losing_gate base ino now ≡ has_losing_gate base ino old
  above ino less high = now_gates ino (omega arith) high ∙ ap (λ (b : Bool). b && is_losing losing ino) (lt-ltb n ino less) ∙ sym (old_gates ino (omega arith) high)

  module _ (c : List ℕ) (torn : Torn gate 1 now c) where
    others : (ino : ℕ) → 1 ≤ ino → ino ≢ n + 1 → has_losing_gate base ino c ≡ has_losing_gate base ino now
    others ino low ne =
        let same = others_same base (n + 1) (losing_half copy) now c (omega arith) (omega arith) torn ino low ne in
        (λ i. same_gate base ino now c same First i && same_gate base ino now c same Second i)

    -- the gates behind this one are as they were, and those before it are closed
    pub left_gates : (t : Bool) → is_open c gate ≡ t → losing_inodes base c ≡ cond t ((n + 1) ∷ []) [] ++ losing_from base old (n + 2) (inodes_max - 1 - n)
    left_gates t is =
        losing_parts base c n lt
        ∙ ap (λ (l : List ℕ). l ++ (cond (has_losing_gate base (n + 1) c) ((n + 1) ∷ []) [] ++ losing_from base c (n + 2) (inodes_max - 1 - n)))
        (losing_nowhere base c 1 n (λ i low high. others i low (λ e. omega arith) ∙ below i low (omega arith)))
        ∙ ap (λ (b : Bool). cond b ((n + 1) ∷ []) [] ++ losing_from base c (n + 2) (inodes_max - 1 - n)) (own_gates base (n + 1) now c copy (omega arith) (omega arith) this_found torn t is)
        ∙ ap (λ (l : List ℕ). cond t ((n + 1) ∷ []) [] ++ l) (losing_same base c old (n + 2) (inodes_max - 1 - n) (λ i low high. others i (omega arith) (λ e. omega arith) ∙ above i (omega arith) (omega arith)))

  old_parts : losing_inodes base old ≡ losing_from base old 1 n ++ ((n + 1) ∷ losing_from base old (n + 2) (inodes_max - 1 - n))
  old_parts = losing_parts base old n lt ∙ ap (λ (b : Bool). losing_from base old 1 n ++ (cond b ((n + 1) ∷ []) [] ++ losing_from base old (n + 2) (inodes_max - 1 - n))) (old_gates (n + 1) (omega arith) (omega arith) ∙ loses)

  -- by the number of calls
  closings_are : (how : Cut) (passed rest : ℕ) → passed ≡ 2 * losing_gates base n old + rest → closings_left how passed (losing_inodes base old) ≡ closings_left how rest ((n + 1) ∷ losing_from base old (n + 2) (inodes_max - 1 - n))
  closings_are how passed rest is =
      let count = losing_count base old n in
      let e : passed ≡ 2 * length (losing_from base old 1 n) + rest = omega (arith, is, count) in
      (λ i. closings_left how (e i) (old_parts i)) ∙ closings_behind how (losing_from base old 1 n) ((n + 1) ∷ losing_from base old (n + 2) (inodes_max - 1 - n)) rest

  opened : (b : Bool) → cond b ((n + 1) ∷ []) [] ++ losing_from base old (n + 2) (inodes_max - 1 - n) ≡ cond b ((n + 1) ∷ losing_from base old (n + 2) (inodes_max - 1 - n)) (losing_from base old (n + 2) (inodes_max - 1 - n))
  opened true = refl
  opened false = refl

  module _ (area : base + area_length ≤ length now) (how : Cut) (passed : ℕ) (c : List ℕ) where
    fits : gate + 1 ≤ length now
    fits = let most = half_most (losing_half copy) in omega arith

    was_open : is_open now gate ≡ true
    was_open = (this_loses base n now copies losing closed area lt loses).mine

    pub closing_write : passed ≡ 2 * losing_gates base n old → c ≡ left_in_write how now gate (0 ∷ []) → losing_inodes base c ≡ closings_left how passed (losing_inodes base old)
    closing_write count is =
        ap (λ (l : List ℕ). losing_inodes base l) is
        ∙ left_gates (left_in_write how now gate (0 ∷ [])) (torn_write now gate 0 fits how) (gate_left how true true false) (opens_write now gate 0 fits how ∙ ap (λ (b : Bool). gate_left how true b false) was_open)
        ∙ opened (gate_left how true true false)
        ∙ sym (closings_are how passed 0 (omega (arith, count)))

    pub closing_sync : passed ≡ 2 * losing_gates base n old + 1 → c ≡ left_by how now gate (0 ∷ []) → losing_inodes base c ≡ closings_left how passed (losing_inodes base old)
    closing_sync count is =
        ap (λ (l : List ℕ). losing_inodes base l) is
        ∙ left_gates (left_by how now gate (0 ∷ [])) (torn_sync now gate 0 fits how) (gate_left how false true false) (opens_sync now gate 0 fits how ∙ ap (λ (b : Bool). gate_left how false b false) was_open)
        ∙ opened (gate_left how false true false)
        ∙ sym (closings_are how passed 1 (omega (arith, count)))
