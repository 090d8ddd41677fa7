-- The laws of counted lists, from those of their items; and reading and spelling as loops do.
use Rattle.std.proofs.Common.{◌≡◌, ℕ, zero, suc, ◌+◌, leb, List, [], ◌∷◌, ◌++◌, length, Ok, refl, sym, ap, subst, ◌∙◌, append_assoc, arith}
use Rattle.std.proofs.lemmas.List.{length-append}
use Rattle.field_codec.specs.Codec.{Unread, ◌>>=◌, Codec, AreBytes, within}
use Rattle.field_codec.specs.Lists.{AllFit, spell_all, read_times, counted, list, ascending}
use Rattle.field_codec.proofs.Laws.{Lawful, Takes, Takes-then, rest_at, bind_ok, ok_is, within_laws}

module _ {A P : Type 0} (item : P → Codec A) (next : P → A → P) (laws : (p : P) → Lawful (item p)) where
  times_takes : (p : P) (n : ℕ) (u : Unread) (xs : List A) (after : Unread) → AreBytes u.bytes → read_times item next p n u ≡ Ok (xs, after)
      → Takes u (spell_all item next p xs) after × (length xs ≡ n) × AllFit item next p xs
  unfolding read_times
  times_takes p zero u xs after h e =
      subst (λ (y : List A × Unread). Takes u (spell_all item next p y.0) y.1 × (length y.0 ≡ 0) × AllFit item next p y.0) (ok_is ([], u) (xs, after) e) (record { parts = refl; place = omega arith; rest_fits = h }, refl, tt)
  times_takes p (suc n) u xs after h e =
      let a = bind_ok ((item p).read u) (λ r. read_times item next (next p r.0) n r.1 >>= λ s. Ok (r.0 ∷ s.0, s.1)) (xs, after) e in
      let b = bind_ok (read_times item next (next p a.0.0) n a.0.1) (λ s. Ok (a.0.0 ∷ s.0, s.1)) (xs, after) a.2 in
      let first = (laws p).takes u a.0.0 a.0.1 h a.1 in
      let second = times_takes (next p a.0.0) n a.0.1 b.0.0 b.0.1 first.0.rest_fits b.1 in
      let together = Takes-then u ((item p).spell a.0.0) a.0.1 (spell_all item next (next p a.0.0) b.0.0) b.0.1 first.0 second.0 in
      let made : List A × Unread = (a.0.0 ∷ b.0.0, b.0.1) in
      subst (λ (y : List A × Unread). Takes u (spell_all item next p y.0) y.1 × (length y.0 ≡ suc n) × AllFit item next p y.0) (ok_is made (xs, after) b.2) (together, ap suc second.1, (first.1, second.2))

  times_again : (p : P) (xs : List A) (at : ℕ) (rest : List ℕ) → AllFit item next p xs
      → read_times item next p (length xs) (rest_at at (spell_all item next p xs ++ rest)) ≡ Ok (xs, rest_at (at + length (spell_all item next p xs)) rest)
  unfolding read_times
  times_again p [] at rest h = ap (λ (n : ℕ). Ok ([], rest_at n rest)) (omega arith)
  times_again p (x ∷ xs) at rest h =
      let text : List ℕ = (item p).spell x in
      let others : List ℕ = spell_all item next (next p x) xs in
      let place : (at + length text) + length others ≡ at + length (text ++ others) = omega (arith, length-append text others) in
      ap (λ (t : List ℕ). read_times item next p (suc (length xs)) (rest_at at t)) (append_assoc text others rest)
      ∙ rw ((laws p).again x at (others ++ rest) h.0, times_again (next p x) xs (at + length text) rest h.1) (ap (λ (n : ℕ). Ok (x ∷ xs, rest_at n rest)) place)

  module _ (count : Codec ℕ) (count_laws : Lawful count) (p : P) where
    pub counted_laws : Lawful (counted item next count p)
    counted_laws = record { takes = takes; again = again } where
      takes : (u : Unread) (xs : List A) (after : Unread) → AreBytes u.bytes → (counted item next count p).read u ≡ Ok (xs, after) → Takes u (count.spell (length xs) ++ spell_all item next p xs) after × (count.Fits (length xs) × AllFit item next p xs)
      takes u xs after h e =
          let a = bind_ok (count.read u) (λ n. read_times item next p n.0 n.1) (xs, after) e in
          let first = count_laws.takes u a.0.0 a.0.1 h a.1 in
          let second = times_takes p a.0.0 a.0.1 xs after first.0.rest_fits a.2 in
          let together = Takes-then u (count.spell a.0.0) a.0.1 (spell_all item next p xs) after first.0 second.0 in
          subst (λ (n : ℕ). Takes u (count.spell n ++ spell_all item next p xs) after × (count.Fits n × AllFit item next p xs)) (sym second.1) (together, (first.1, second.2))

      again : (xs : List A) (at : ℕ) (rest : List ℕ) → count.Fits (length xs) × AllFit item next p xs → (counted item next count p).read (rest_at at ((count.spell (length xs) ++ spell_all item next p xs) ++ rest)) ≡ Ok (xs, rest_at (at + length (count.spell (length xs) ++ spell_all item next p xs)) rest)
      again xs at rest h =
          let text : List ℕ = count.spell (length xs) in
          let others : List ℕ = spell_all item next p xs in
          let place : (at + length text) + length others ≡ at + length (text ++ others) = omega (arith, length-append text others) in
          ap (λ (t : List ℕ). (counted item next count p).read (rest_at at t)) (append_assoc text others rest)
          ∙ rw (count_laws.again (length xs) at (others ++ rest) h.0, times_again p xs (at + length text) rest h.1) (ap (λ (n : ℕ). Ok (xs, rest_at n rest)) place)

pub list_laws : {A : Type 0} {count : Codec ℕ} {c : Codec A} → Lawful count → Lawful c → Lawful (list count c)
list_laws {A} {count} {c} count_laws laws = counted_laws (λ (_ : Unit {0}). c) (λ _ _. tt) (λ _. laws) count count_laws tt

pub ascending_laws : {A : Type 0} {count : Codec ℕ} {c : Codec A} (key : A → ℕ) → Lawful count → Lawful c → Lawful (ascending key count c)
ascending_laws {A} {count} {c} key count_laws laws = counted_laws (λ (floor : ℕ). within (λ x. leb floor (key x)) c) (λ _ x. key x + 1) (λ floor. within_laws (λ x. leb floor (key x)) c laws) count count_laws 0
