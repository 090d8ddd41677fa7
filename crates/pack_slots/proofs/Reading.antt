-- What the bytes of two slots say of their inode.
use Rattle.std.proofs.Common.{◌≡◌, ◌≢◌, ℕ, ◌+◌, ◌%◌, Bool, true, false, List, [], sym, ◌∙◌, ap, arith, ⊎_elim}
use Rattle.std.specs.Prelude.{None, Some, Result, Ok, Err, IfErr, ◌==◌, if◌then◌else◌}
use Rattle.std.proofs.lemmas.Bool.{eqb-true, eq-eqb, true≢false, cases_Bool}
use Rattle.pack_layout.specs.declared.slot.Slot.{Slot}
use Rattle.pack_layout.specs.declared.slot.BadSlot.{BadSlot}
use Rattle.pack_layout.specs.declared.half.Half.{Half}
use Rattle.pack_layout.specs.declared.half.Half.TheVariants.{First, Second}
use Rattle.pack_layout.specs.Layout.{slot_at, other_half, newer}
use Rattle.inode_switch.proofs.SlotBytes.{says}
use Rattle.pack_slots.specs.Slots.{IsGoodInode, IsRead, IsSlotFound}

pub if_err : {T E : Type 0} → (r : Result T E) (P : Type 0) → P → IfErr r (λ _. P)
if_err (Ok x) P p = tt
if_err (Err e) P p = p

-- a bad slot is none of a good inode
pub bad_slot : (base ino : ℕ) (image : List ℕ) (half : Half) (bad : BadSlot) → IsRead ino (slot_at base ino half) image (Err bad) → IsGoodInode base ino image → ⊥
bad_slot base ino image half bad read good = read.1 (good.slots half read.0)

-- the only open slot counts
pub alone : (base ino : ℕ) (half : Half) (image : List ℕ) (slot : Slot) → IsRead ino (slot_at base ino half) image (Ok (Some slot)) → IsRead ino (slot_at base ino (other_half half)) image (Ok None)
    → IsSlotFound base ino image (Some (record { half = half; slot = slot; more = [] })) false
alone base ino half image slot one other = record { says = record { bytes = one.0; other = other }; own = record { slot = one.1; own = one.2 } }

-- turns that go round
newer_some : (a b : ℕ) (f : Bool) → newer a b ≡ Some f → (a ≢ b) × (((a + 1) % 3 == b) ≡ f)
newer_some a b f is = ⊎_elim
    (λ (same : (a == b) ≡ true). absurd (let none : None ≡ Some f = sym (λ i. if same i then None else Some ((a + 1) % 3 == b)) ∙ is in cc))
    (λ (apart : (a == b) ≡ false).
    let some : Some ((a + 1) % 3 == b) ≡ Some f = sym (λ i. if apart i then None else Some ((a + 1) % 3 == b)) ∙ is in
    ((λ (e : a ≡ b). true≢false (sym (eq-eqb a b e) ∙ apart)), cc))
    (cases_Bool (a == b))

module _ (base ino : ℕ) (image : List ℕ) (first second : Slot) (one : IsRead ino (slot_at base ino First) image (Ok (Some first))) (two : IsRead ino (slot_at base ino Second) image (Ok (Some second))) where
  abbrev at_first : ℕ
  at_first = slot_at base ino First

  abbrev at_second : ℕ
  at_second = slot_at base ino Second

  pub second_wins : newer first.turn second.turn ≡ Some true → IsSlotFound base ino image (Some (record { half = Second; slot = second; more = [] })) true
  second_wins is =
      let n = newer_some first.turn second.turn true is in
      let s = says image at_first first one.0 one.1 in
      record {
        says = record {
          bytes = two.0;
          beside = s.open_gate;
          other = record { slot = first; bytes = one.0; is = one.1; own = one.2 };
          next = (let t = s.turn in let r = one.1.turn in omega arith, let t = s.turn in let e = eqb-true ((first.turn + 1) % 3) second.turn n.1 in sym e ∙ ap (λ (k : ℕ). (k + 1) % 3) (sym t));
        };
        own = record { slot = two.1; own = two.2 };
      }

  pub first_wins : newer first.turn second.turn ≡ Some false → IsSlotFound base ino image (Some (record { half = First; slot = first; more = [] })) true
  first_wins is =
      let n = newer_some first.turn second.turn false is in
      let s = says image at_second second two.0 two.1 in
      let a = one.1.turn in
      let b = two.1.turn in
      let apart = n.0 in
      let not_next : (first.turn + 1) % 3 ≢ second.turn = λ e. true≢false (sym (eq-eqb ((first.turn + 1) % 3) second.turn e) ∙ n.1) in
      record {
        says = record {
          bytes = one.0;
          beside = s.open_gate;
          other = record { slot = second; bytes = two.0; is = two.1; own = two.2 };
          next = (let t = s.turn in omega arith, let t = s.turn in let e : first.turn ≡ (second.turn + 1) % 3 = omega arith in e ∙ ap (λ (k : ℕ). (k + 1) % 3) (sym t));
        };
        own = record { slot = one.1; own = one.2 };
      }
