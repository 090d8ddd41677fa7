-- In every run no more packets are under way than were sent, and no more were sent than may be.
use Rattle.std.proofs.Common.{◌≡◌, ℕ, suc, ◌+◌, ◌≤◌, ◌==◌, nat_lt, Bool, true, false, cond, List, [], ◌∷◌, ◌++◌, length, Option, Some, None, refl, sym, ◌∙◌, ap, inl, inr, arith, length-append}
use Rattle.std.proofs.lemmas.Bool.Decides.{nat_tests}
use Rattle.locus_ids.specs.declared.config.Config.{Config}
use Rattle.wire_messages.specs.declared.packet.Packet.{Packet}
use Rattle.role_steps.specs.Tables.{without_row, total}
use Rattle.role_steps.specs.Views.{SiteView, Told, Outcome}
use Rattle.the_run.specs.Disks.{Booted, Whole, CutOff, boots}
use Rattle.the_run.specs.Kept.{Among, Kept}
use Rattle.the_run.specs.Worlds.{World, Limit, Packets, Bytes, Trace, Numbered, number_of, happened, happened_of, unless_over, limit_passed, numbered_from, told_size, packet_size, script_of, puts, arms, passed, stops_with, acts, first_world}
use Rattle.the_run.specs.Runs.{boots_as}
use Rattle.the_run.proofs.Events.{acts_keeps}

-- the packets under way, with these more, are no more than those sent, and those sent no more than may be
pub record Counted (more : ℕ) (w : World) : Type 0 where
  pub under : more + length w.underway ≤ w.packets
  pub sent : w.packets ≤ 262144

numbered_length : (k : ℕ) (ps : List Packet) → length (numbered_from k ps) ≡ length ps
numbered_length k [] = refl
numbered_length k (p ∷ ps) = ap (λ (n : ℕ). suc n) (numbered_length (k + 1) ps)

pub without_length : (k : ℕ) (xs : List Numbered) → length (without_row number_of k xs) ≤ length xs
without_length k [] = omega arith
without_length k (x ∷ xs) = elim (number_of x == k) as (λ b. length {A = Numbered} (elim b [ true ↦ xs | false ↦ x ∷ without_row number_of k xs ]) ≤ length (x ∷ xs)) [ true ↦ omega arith | false ↦ (let h : length (without_row number_of k xs) ≤ length xs = without_length k xs in omega (arith, h)) ]

-- one that is there is taken out
pub taken_length : (x : Numbered) (xs : List Numbered) → Among x xs → length (without_row number_of x.number xs) + 1 ≤ length xs
taken_length x [] a = absurd a
taken_length x (y ∷ ys) a =
    (elim (number_of y == x.number) as (λ b. (number_of y == x.number) ≡ b → length {A = Numbered} (elim b [ true ↦ ys | false ↦ y ∷ without_row number_of x.number ys ]) + 1 ≤ length (y ∷ ys)) [
      | true ↦ λ e. omega arith
      | false ↦ λ e. by_place (taken_length x ys) e a
    ]) refl
  where
    never : true ≡ false → ⊥
    never e = cc

    equal : (a b : ℕ) → a ≡ b → (a == b) ≡ true
    equal a b e = grind (arith, nat_tests)

    by_place : (Among x ys → length (without_row number_of x.number ys) + 1 ≤ length ys) → (number_of y == x.number) ≡ false → Among x (y ∷ ys) → length (y ∷ without_row number_of x.number ys) + 1 ≤ length (y ∷ ys)
    by_place f e (inl k) = absurd (never (sym (equal y.number x.number (ap number_of (sym k))) ∙ e))
    by_place f e (inr k) = let h : length (without_row number_of x.number ys) + 1 ≤ length ys = f k in omega (arith, h)

limit_within : (packets bytes text : ℕ) → limit_passed packets bytes text ≡ None → packets ≤ 262144
limit_within packets bytes text h = by_test (nat_lt 262144 packets) refl h
  where
    low : (n : ℕ) → nat_lt 262144 n ≡ false → n ≤ 262144
    low n e = grind (arith, nat_tests)

    some_none : (l : Limit) → ◌≡◌ {A = Option Limit} (Some l) None → ⊥
    some_none l e = cc

    by_test : (b : Bool) → nat_lt 262144 packets ≡ b → cond b (Some Packets) (cond (nat_lt 134217728 bytes) (Some Bytes) (cond (nat_lt 134217728 text) (Some Trace) None)) ≡ None → packets ≤ 262144
    by_test true e f = absurd (some_none Packets f)
    by_test false e f = low packets e

pub happened_counts : (more n : ℕ) (ps : List Packet) (told : List Told) (change : World → World) (w : World) → (change w).underway ≡ w.underway → Counted more w → Counted more (happened n ps told change w)
happened_counts more n ps told change w same g = by_over w.over
  where
    by_limit : (l : Option Limit) (b t : ℕ) → limit_passed (w.packets + length ps) b t ≡ l → Counted more (unless_over l n ps told change (w.packets + length ps) b t w)
    by_limit (Some l) b t e = record { under = g.under; sent = g.sent }
    by_limit None b t e = record {
      under = (let h : more + length w.underway ≤ w.packets = g.under in
          let a : length ((change w).underway ++ numbered_from (w.packets + 1) ps) ≡ length (change w).underway + length (numbered_from (w.packets + 1) ps) = length-append (change w).underway (numbered_from (w.packets + 1) ps) in
          let d : length (change w).underway ≡ length w.underway = ap length same in
          let f : length (numbered_from (w.packets + 1) ps) ≡ length ps = numbered_length (w.packets + 1) ps in
          omega (arith, h, a, d, f));
      sent = limit_within (w.packets + length ps) b t e;
    }

    by_over : (o : Option Limit) → Counted more (happened_of o n ps told change w)
    by_over (Some l) = g
    by_over None = by_limit (limit_passed (w.packets + length ps) (w.bytes + total packet_size ps) (w.text + total (told_size n) told)) (w.bytes + total packet_size ps) (w.text + total (told_size n) told) refl

pub acts_counts : (more n s : ℕ) (v : SiteView) (o : Outcome SiteView) (w : World) → Counted more w → Counted more (acts n s v o w)
acts_counts more n s v o w g =
    acts_keeps (Counted more) n s v o w
    (λ ps told place. happened_counts more n ps told (λ now. puts s place now) w refl g)
    (λ ps told place a. happened_counts more n ps told (λ now. puts s place (arms a now)) w refl g)
    (λ ps told d. happened_counts more n ps told (stops_with s d) w refl g)

pub passed_counts : (more k : ℕ) (w : World) → Counted more w → Counted more (passed k w)
passed_counts more k w g = record { under = (let h : more + length w.underway ≤ w.packets = g.under in let a : length (without_row number_of k w.underway) ≤ length w.underway = without_length k w.underway in omega (arith, h, a)); sent = g.sent }

pub taken_counts : (more : ℕ) (x : Numbered) (w : World) → Among x w.underway → Counted more w → Counted (more + 1) (passed x.number w)
taken_counts more x w a g = record { under = (let h : more + length w.underway ≤ w.packets = g.under in let d : length (without_row number_of x.number w.underway) + 1 ≤ length w.underway = taken_length x w.underway a in omega (arith, h, d)); sent = g.sent }

as_counts : (more n s : ℕ) (b : Booted) (w : World) → Counted more w → Counted more (boots_as n s b w)
as_counts more n s (Whole x None) w g = happened_counts more n [] _ _ w refl g
as_counts more n s (Whole x (Some a)) w g = happened_counts more n [] _ _ w refl g
as_counts more n s (CutOff x how) w g = happened_counts more n [] _ _ w refl g

pub counted_kept : (c : Config) → Kept c (Counted 0)
counted_kept c = record {
  steps = λ n s e v w here own g. acts_counts 0 n s v _ w g;
  receives = λ n x v w here sent g. acts_counts 0 n x.packet.to v _ (passed x.number w) (passed_counts 0 x.number w g);
  passes = λ k w g. passed_counts 0 k w g;
  drops = λ k w g. (let p : Counted 0 (passed k w) = passed_counts 0 k w g in record { under = p.under; sent = p.sent });
  recuts = λ xs w g. record { under = g.under; sent = g.sent };
  arming = λ a w g. record { under = g.under; sent = g.sent };
  voiding = λ n w g. happened_counts 0 n [] _ (λ now. now) w refl g;
  budgets = λ n w g. happened_counts 0 n [] _ (λ now. now) w refl g;
  pending = λ n w g. happened_counts 0 n [] _ (λ now. now) w refl g;
  stopping = λ n s v w here g. happened_counts 0 n [] _ _ w refl g;
  booting = λ n s d w here g. as_counts 0 n s (boots (script_of w s) d) w g;
}

pub first_counts : (c : Config) → Counted 0 (first_world c)
first_counts c = record { under = omega arith; sent = omega arith }
