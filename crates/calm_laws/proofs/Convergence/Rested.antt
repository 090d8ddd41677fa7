-- The run in which a file comes to rest: its rounds are calm, and nobody has the file open in the last two. All of it computes.
use Rattle.std.proofs.Common.{Bool, List, None, Option, Some, [], ap, arith, false, length, length-append, nat_lt, not, refl, replicate, subst, suc, sym, true, zero, ℕ, ◌&&◌, ◌++◌, ◌+◌, ◌==◌, ◌||◌, ◌∙◌, ◌∷◌, ◌≡◌, ◌≤◌}
use Rattle.std.proofs.lemmas.Bool.Decides.{nat_tests}
use Rattle.std.specs.Fmt.{digits}
use Rattle.std.specs.Prelude.{slice_index_or}
use Rattle.calm_laws.specs.Convergence.Rested.{IsRested, rested_lines, rested_trace}
use Rattle.hex.specs.Hex.{encode_with}
use Rattle.lawful_trace.specs.Calm.{AreTogether, IsCalmRound, IsMoment}
use Rattle.lawful_trace.specs.Places.{is_cut, lines_before, through_line}
use Rattle.lawful_trace.specs.Samples.{epoch, file, members}
use Rattle.locus_ids.specs.declared.config.Config.{Config}
use Rattle.locus_ids.specs.declared.ids.EpochId.{EpochId}
use Rattle.locus_ids.specs.declared.sites.Members.{Members}
use Rattle.promises.specs.Convergence.{IsUndisturbed}
use Rattle.row_laws.specs.Shown.{trace_of}
use Rattle.role_steps.proofs.of_plain_facts.Tests.{true_false}
use Rattle.schedule_lines.specs.Cluster.{config_of}
use Rattle.schedule_lines.specs.Schedule.{AreInOrder}
use Rattle.schedule_lines.specs.declared.line.ScheduleLine.{ScheduleLine}
use Rattle.the_run.specs.Runs.{run}
use Rattle.trace_book.specs.declared.entry.Entry.{Entry}
use Rattle.tree_model.specs.Epochs.{boot_of, epoch_of, is_up}
use Rattle.tree_model.specs.Folds.{Trace, before_line}
use Rattle.tree_model.specs.Packs.{boot_in, is_member}
use Rattle.tree_model.specs.State.{openers}
use Rattle.tree_model.specs.Tree.{tree_of}

-- ---- the run ----

pub rested_in_order : AreInOrder rested_lines
rested_in_order = (refl, (refl, (refl, (refl, (refl, (refl, (refl, (refl, (refl, tt)))))))))

pub rested_within : (run rested_lines).over ≡ None
unfolding digits encode_with
rested_within = refl

rested_shown : trace_of (run rested_lines) ≡ rested_trace
unfolding digits encode_with
rested_shown = refl

-- ---- the moments of a line ----

-- so it is with these records, and with so many of the latest fewer
abbrev Earlier : (Trace → Type 0) → ℕ → Trace → Type 0
Earlier P zero t = P t
Earlier P (suc k) [] = P []
Earlier P (suc k) (x ∷ t) = P (x ∷ t) × Earlier P k t

earlier_one : (P : Trace → Type 0) (k : ℕ) (later now t : Trace) → t ≡ later ++ now → length later ≤ k → Earlier P k t → P now
earlier_one P zero [] now t e le h = subst P e h
earlier_one P zero (x ∷ later) now t e le h = absurd (omega (arith, le))
earlier_one P (suc k) [] now [] e le h = subst P e h
earlier_one P (suc k) [] now (y ∷ t) e le h = subst P e h.0
earlier_one P (suc k) (x ∷ later) now [] e le h = absurd (nil_not x (later ++ now) e)
  where
    nil_not : (x : Entry) (xs : Trace) → ◌≡◌ {A = Trace} [] (x ∷ xs) → ⊥
    nil_not x xs q = cc
earlier_one P (suc k) (x ∷ later) now (y ∷ t) e le h = earlier_one P k later now t (tail y x t (later ++ now) e) (omega (arith, le)) h.1
  where
    tail : (y x : Entry) (t u : Trace) → ◌≡◌ {A = Trace} (y ∷ t) (x ∷ u) → t ≡ u
    tail y x t u q = cc

each_moment : (P : Trace → Type 0) (n k : ℕ) → length (through_line rested_trace n) ≤ k + length (before_line rested_trace n) → Earlier P k (through_line rested_trace n) → (now : Trace) → IsMoment rested_trace n now → P now
each_moment P n k few each now m = earlier_one P k m.later now (through_line rested_trace n) m.ends short each
  where
    long : length (through_line rested_trace n) ≡ length m.later + (length m.so_far + length (before_line rested_trace n))
    long = ap length (m.ends ∙ ap (λ (x : Trace). m.later ++ x) m.begun) ∙ (length-append m.later (m.so_far ++ before_line rested_trace n) ∙ ap (λ (x : ℕ). length m.later + x) (length-append m.so_far (before_line rested_trace n)))

    short : length m.later ≤ k
    short = omega (arith, few, long)

-- ---- its members ----

abbrev both : Members
both = members (1 ∷ 1 ∷ [])

zeros : (n k : ℕ) → ◌≡◌ {A = ℕ} (slice_index_or (replicate n 0) k 0) 0
zeros zero k = refl
zeros (suc n) zero = refl
zeros (suc n) (suc k) = zeros n k

each_of_both : (P : ℕ → Type 0) → P 1 → P 2 → (s : ℕ) → is_member both s ≡ true → P s
each_of_both P one two zero h = absurd (true_false (sym h))
each_of_both P one two (suc zero) h = one
each_of_both P one two (suc (suc zero)) h = two
each_of_both P one two (suc (suc (suc k))) h = absurd (none (boot_in both (suc (suc (suc k)))) (zeros 14 k) h)
  where
    none : (n : ℕ) → n ≡ 0 → nat_lt 0 n ≡ true → ⊥
    none n e h = grind (arith, nat_tests)

-- how the two stand
record Standing : Type 0 where
  up_1 : Bool
  up_2 : Bool
  boot_1 : ℕ
  boot_2 : ℕ
  epoch_1 : Option EpochId
  epoch_2 : Option EpochId

abbrev standing : Config → Trace → Standing
standing c now = record { up_1 = is_up c now 1; up_2 = is_up c now 2; boot_1 = boot_of now 1; boot_2 = boot_of now 2; epoch_1 = epoch_of now 1; epoch_2 = epoch_of now 2 }

abbrev AreBoth : Config → Trace → Type 0
AreBoth c now = standing c now ≡ record { up_1 = true; up_2 = true; boot_1 = 1; boot_2 = 1; epoch_1 = Some (epoch 1 1 1); epoch_2 = Some (epoch 1 1 1) }

both_together : (c : Config) (lines : List ScheduleLine) (now : Trace) → ((s t : ℕ) → is_cut lines s t ≡ false) → AreBoth c now → AreTogether c lines now (epoch 1 1 1) both
both_together c lines now whole h = record {
  up = up;
  boots = each_of_both (λ s. boot_of now s ≡ boot_in both s) (ap (λ (x : Standing). x.boot_1) h) (ap (λ (x : Standing). x.boot_2) h);
  inside = each_of_both (λ s. epoch_of now s ≡ Some (epoch 1 1 1)) (ap (λ (x : Standing). x.epoch_1) h) (ap (λ (x : Standing). x.epoch_2) h);
  reach = λ s t m k. reached (is_up c now s) (is_up c now t) (s == t) (is_cut lines s t) (up s m) (up t k) (whole s t);
}
  where
    up : (s : ℕ) → is_member both s ≡ true → is_up c now s ≡ true
    up = each_of_both (λ s. is_up c now s ≡ true) (ap (λ (x : Standing). x.up_1) h) (ap (λ (x : Standing). x.up_2) h)

    reached : (a b same cut : Bool) → a ≡ true → b ≡ true → cut ≡ false → (a && b && (same || not cut)) ≡ true
    reached true true true cut p q r = refl
    reached true true false false p q r = refl
    reached true true false true p q r = absurd (true_false r)
    reached true false same cut p q r = absurd (true_false (sym q))
    reached false b same cut p q r = absurd (true_false (sym p))

-- ---- its rounds ----

round_6 : IsCalmRound rested_lines rested_trace 6 (epoch 1 1 1) both
round_6 = record {
  most = 1000;
  settles = refl;
  ended = refl;
  listed = refl;
  together = λ now m. both_together (config_of rested_lines) (lines_before rested_lines 6) now (λ s t. refl) (each_moment (AreBoth (config_of rested_lines)) 6 11 (omega arith) (refl, (refl, (refl, (refl, (refl, (refl, (refl, (refl, (refl, (refl, (refl, refl))))))))))) now m);
}

round_7 : IsCalmRound rested_lines rested_trace 7 (epoch 1 1 1) both
round_7 = record {
  most = 1000;
  settles = refl;
  ended = refl;
  listed = refl;
  together = λ now m. both_together (config_of rested_lines) (lines_before rested_lines 7) now (λ s t. refl) (each_moment (AreBoth (config_of rested_lines)) 7 0 (omega arith) refl now m);
}

round_8 : IsCalmRound rested_lines rested_trace 8 (epoch 1 1 1) both
round_8 = record {
  most = 1000;
  settles = refl;
  ended = refl;
  listed = refl;
  together = λ now m. both_together (config_of rested_lines) (lines_before rested_lines 8) now (λ s t. refl) (each_moment (AreBoth (config_of rested_lines)) 8 0 (omega arith) refl now m);
}

round_9 : IsCalmRound rested_lines rested_trace 9 (epoch 1 1 1) both
round_9 = record {
  most = 1000;
  settles = refl;
  ended = refl;
  listed = refl;
  together = λ now m. both_together (config_of rested_lines) (lines_before rested_lines 9) now (λ s t. refl) (each_moment (AreBoth (config_of rested_lines)) 9 0 (omega arith) refl now m);
}

abbrev IsClosedAt : ℕ → Type 0
IsClosedAt n = (now : Trace) → IsMoment rested_trace n now → openers (tree_of (config_of rested_lines) (epoch 1 1 1) 0 now) (file 0 2) ≡ []

shut : (n : ℕ) → length (through_line rested_trace n) ≤ length (before_line rested_trace n) → openers (tree_of (config_of rested_lines) (epoch 1 1 1) 0 (through_line rested_trace n)) (file 0 2) ≡ [] → IsClosedAt n
shut n few none now m = each_moment (λ (now : Trace). openers (tree_of (config_of rested_lines) (epoch 1 1 1) 0 now) (file 0 2) ≡ []) n 0 (omega (arith, few)) none now m

undisturbed : IsUndisturbed (config_of rested_lines) rested_trace 7 9 (epoch 1 1 1) (file 0 2)
undisturbed n now low high m = by_number (n == 7) (n == 8) refl refl now m
  where
    equal : (a b : ℕ) → (a == b) ≡ true → b ≡ a
    equal a b h = grind (arith, nat_tests)

    last : (a : ℕ) → 7 ≤ a → a ≤ 9 → (a == 7) ≡ false → (a == 8) ≡ false → 9 ≡ a
    last a l g p q = grind (arith, nat_tests)

    by_number : (a b : Bool) → (n == 7) ≡ a → (n == 8) ≡ b → IsClosedAt n
    by_number true b p q = subst IsClosedAt (equal n 7 p) (shut 7 (omega arith) refl)
    by_number false true p q = subst IsClosedAt (equal n 8 q) (shut 8 (omega arith) refl)
    by_number false false p q = subst IsClosedAt (last n low high p q) (shut 9 (omega arith) refl)

at_rest : IsRested rested_lines rested_trace
at_rest = record {
  before = round_6;
  rest = record { rounds = record { first = round_7; second = round_8; third = round_9; early = omega arith; late = omega arith }; undisturbed = undisturbed; kept = refl };
  member = refl;
  packed = refl;
  in_set = refl;
}

pub is_rested : IsRested rested_lines (trace_of (run rested_lines))
is_rested = subst (IsRested rested_lines) (sym rested_shown) at_rest
