-- What a line tells, by the numbers of records: a record with a property at a line is told in that line and in no other.
use Rattle.std.proofs.Common.{◌≡◌, ◌≢◌, ◌≤◌, ◌<◌, ℕ, suc, ◌==◌, nat_lt, Bool, true, false, cond, ◌&&◌, ◌||◌, List, [], ◌∷◌, ◌++◌, refl, ◌∙◌, ap, arith}
use Rattle.std.proofs.lemmas.Bool.Decides.{nat_tests}
use Rattle.std.specs.List.{list_any}
use Rattle.role_steps.proofs.of_plain_facts.Numbers.{apart_test}
use Rattle.role_steps.proofs.of_plain_facts.Tests.{and_false, or_neither}
use Rattle.trace_book.specs.declared.entry.Entry.{Entry}
use Rattle.trace_book.specs.declared.record.Record.{Record}
use Rattle.wire_messages.specs.declared.packet.Packet.{Packet}
use Rattle.role_steps.specs.Own.{Every}
use Rattle.role_steps.specs.Views.{Told, Shown}
use Rattle.the_run.specs.Worlds.{World, Line, happened, told_onto}
use Rattle.the_run.proofs.Events.{happened_keeps}
use Rattle.tree_model.specs.Folds.{Trace, before_line}
use Rattle.row_laws.specs.Course.{Ascends}
use Rattle.row_laws.specs.Shown.{shown, with_told}

module _ (p : Record → Bool) where
  -- it is of this line, and passes
  abbrev pub tells : ℕ → Entry → Bool
  tells n r = p r.what && (r.line == n)

  abbrev pub Fails : Told → Type 0
  Fails (Shown r) = p r ≡ false
  Fails _ = Unit {0}

  -- no record of this line passes
  abbrev pub NoneTold : ℕ → List Line → Type 0
  NoneTold n trace = list_any (tells n) (shown trace) ≡ false

  told_none : (n : ℕ) (x : Told) (trace : List Line) → Fails x → NoneTold n trace → list_any (tells n) (with_told n x (shown trace)) ≡ false
  told_none n (Shown r) trace h g = ap (λ (b : Bool). (b && (n == n)) || list_any (tells n) (shown trace)) h ∙ g
  told_none n _ trace h g = g

  pub onto_none : (n : ℕ) (told : List Told) (trace : List Line) → Every Fails told → NoneTold n trace → NoneTold n (told_onto n told trace)
  onto_none n [] trace h g = g
  onto_none n (x ∷ xs) trace h g = onto_none n xs (record { number = n; told = x } ∷ trace) h.1 (told_none n x trace h.0 g)

  pub happened_none : (n : ℕ) (ps : List Packet) (told : List Told) (change : World → World) (w : World) → Every Fails told → NoneTold n w.trace → NoneTold n (happened n ps told change w).trace
  happened_none n ps told change w h g = happened_keeps (λ u. NoneTold n u.trace) n ps told change w g (λ l. g) (λ k b t. onto_none n told w.trace h g)

  pub other_none : (n : ℕ) (r : Record) (k : ℕ) (older : Trace) → k ≢ n → list_any (tells n) older ≡ false → list_any (tells n) (record { line = k; what = r } ∷ older) ≡ false
  other_none n r k older ne g = ap (λ (b : Bool). (p r && b) || list_any (tells n) older) (apart_test k n ne) ∙ (ap (λ (b : Bool). b || list_any (tells n) older) (and_false (p r)) ∙ g)

  -- earlier lines don't tell it
  pub none_before : (n m : ℕ) (trace : List Line) → Ascends m trace → m < n → NoneTold n trace
  none_before n m [] a h = refl
  none_before n m (x ∷ older) a h = by_told x.told (none_before n x.number older a.2 less)
    where
      less : x.number < n
      less = let le : x.number ≤ m = a.1 in omega (arith, le, h)

      by_told : (y : Told) → NoneTold n older → list_any (tells n) (with_told x.number y (shown older)) ≡ false
      by_told (Shown r) g = other_none n r x.number (shown older) (λ e. omega (arith, e, less)) g
      by_told _ g = g

  -- nor do later ones
  pub none_later : (n : ℕ) (t : Trace) → list_any (tells n) (before_line t (suc n)) ≡ false → list_any (tells n) t ≡ false
  none_later n [] h = h
  none_later n (r ∷ older) h =
      (elim (nat_lt r.line (suc n)) as (λ b. nat_lt r.line (suc n) ≡ b → list_any (tells n) (cond b (r ∷ older) (before_line older (suc n))) ≡ false → list_any (tells n) (r ∷ older) ≡ false) [
        | true ↦ λ e f. f
        | false ↦ λ e f. other_none n r.what r.line older (above r.line e) (none_later n older f)
      ]) refl h
    where
      above : (k : ℕ) → nat_lt k (suc n) ≡ false → k ≢ n
      above k e f = grind (arith, nat_tests)

  -- nor does the line 0, which is none
  pub none_first : (m : ℕ) (trace : List Line) → Ascends m trace → NoneTold 0 trace
  none_first m [] a = refl
  none_first m (x ∷ older) a = by_told x.told (none_first x.number older a.2)
    where
      by_told : (y : Told) → NoneTold 0 older → list_any (tells 0) (with_told x.number y (shown older)) ≡ false
      by_told (Shown r) g = other_none 0 r x.number (shown older) (λ e. (let h : 1 ≤ x.number = a.0 in omega (arith, e, h))) g
      by_told _ g = g

  -- what isn't told isn't told earlier
  pub none_earlier : (n : ℕ) (xs ys : List Line) → NoneTold n (xs ++ ys) → NoneTold n ys
  none_earlier n [] ys h = h
  none_earlier n (x ∷ xs) ys h = none_earlier n xs ys (over x.told h)
    where
      over : (z : Told) → list_any (tells n) (with_told x.number z (shown (xs ++ ys))) ≡ false → list_any (tells n) (shown (xs ++ ys)) ≡ false
      over (Shown r) h = (or_neither (tells n (record { line = x.number; what = r })) (list_any (tells n) (shown (xs ++ ys))) h).1
      over _ h = h
