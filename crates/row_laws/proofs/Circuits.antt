-- In every run circuits are cut as the lines so far have it.
use Rattle.std.proofs.Common.{◌≡◌, ℕ, suc, ◌+◌, ◌<◌, Bool, true, false, cond, ◌||◌, ◌&&◌, not, List, [], ◌∷◌, length, take, filter, fold, refl, sym, ◌∙◌, ap, arith}
use Rattle.std.proofs.lemmas.Bool.Decides.{nat_tests}
use Rattle.std.specs.List.{list_any}
use Rattle.schedule_lines.specs.declared.line.Line.TheVariants as line
use Rattle.schedule_lines.specs.declared.line.ScheduleLine.{ScheduleLine}
use Rattle.schedule_lines.specs.declared.line.ScheduleLine.TheVariants.{Event as EventLine}
use Rattle.site_laws.specs.of_the_run.Worlds.{World, CutCircuit, is_between, is_cut}
use Rattle.site_laws.specs.of_the_run.Runs.{cuts_circuit, mends_circuit}
use Rattle.lawful_trace.specs.Places.{line_at, are_these, cut_after}
use Rattle.lawful_trace.specs.Places as lawful
use Rattle.row_laws.specs.ByLine.{IsLine}
use Rattle.row_laws.specs.Voids.{CircuitsAs}
use Rattle.row_laws.proofs.ArmsTraced.{fold_next}

-- ---- one line more ----

next_suc : (n : ℕ) → n + 1 ≡ suc n
next_suc n = omega arith

pub cut_next : (lines : List ScheduleLine) (n a b : ℕ) → n < length lines → lawful.is_cut (take (n + 1) lines) a b ≡ cut_after (line_at lines (n + 1)) a b (lawful.is_cut (take n lines) a b)
cut_next lines n a b h =
    ap (λ (k : ℕ). fold (λ old l. cut_after l a b old) false (take k lines)) (next_suc n)
    ∙ (fold_next (λ old l. cut_after l a b old) false n lines h ∙ ap (λ (l : ScheduleLine). cut_after l a b (lawful.is_cut (take n lines) a b)) (ap (line_at lines) (sym (next_suc n))))

-- the line changes no circuit
abbrev pub NoCircuit : ScheduleLine → Type 0
NoCircuit (EventLine (line.Down one other)) = ⊥
NoCircuit (EventLine (line.Up one other)) = ⊥
NoCircuit _ = Unit {0}

same_cut : (l : ScheduleLine) (a b : ℕ) (old : Bool) → NoCircuit l → cut_after l a b old ≡ old
same_cut (EventLine (line.Down one other)) a b old h = absurd h
same_cut (EventLine (line.Up one other)) a b old h = absurd h
same_cut _ a b old h = refl

pub still_cut : (lines : List ScheduleLine) (n : ℕ) (w : World) → n < length lines → NoCircuit (line_at lines (n + 1)) → CircuitsAs lines n w → CircuitsAs lines (n + 1) w
still_cut lines n w there none h a b = h a b ∙ sym (cut_next lines n a b there ∙ same_cut (line_at lines (n + 1)) a b (lawful.is_cut (take n lines) a b) none)

-- a void `down` or `up` changes none
pub kept_cut : (lines : List ScheduleLine) (n : ℕ) (w : World) → n < length lines → ((a b : ℕ) → cut_after (line_at lines (n + 1)) a b (is_cut w a b) ≡ is_cut w a b) → CircuitsAs lines n w → CircuitsAs lines (n + 1) w
kept_cut lines n w there same h a b = sym (cut_next lines n a b there ∙ (ap (cut_after (line_at lines (n + 1)) a b) (sym (h a b)) ∙ same a b))

-- ---- a circuit ----

-- the two ends are those of the circuit
ends_same : (one other s t a b : ℕ) → are_these one other a b ≡ true → are_these a b s t ≡ are_these one other s t
ends_same one other s t a b e = grind (arith, nat_tests)

-- what is left where the circuit of two sites is mended
left_cut : (one other a b : ℕ) (xs : List CutCircuit) → list_any (is_between a b) (filter (λ (x : CutCircuit). not (is_between one other x)) xs) ≡ (not (are_these one other a b) && list_any (is_between a b) xs)
left_cut one other a b [] = sym (none (not (are_these one other a b)))
  where
    none : (x : Bool) → (x && false) ≡ false
    none true = refl
    none false = refl
left_cut one other a b (x ∷ xs) = one_cut (is_between one other x) refl (left_cut one other a b xs)
  where
    F : List CutCircuit
    F = filter (λ (y : CutCircuit). not (is_between one other y)) xs

    passed : (same here rest : Bool) → here ≡ same → (not same && rest) ≡ (not same && (here || rest))
    passed true here rest e = refl
    passed false here rest e = sym (ap (λ (h : Bool). h || rest) e)

    stays : (same here rest : Bool) → (here ≡ true → same ≡ false) → (here || (not same && rest)) ≡ (not same && (here || rest))
    stays true true rest h = absurd (never (h refl))
      where
        never : true ≡ false → ⊥
        never e = cc
    stays true false rest h = refl
    stays false here rest h = refl

    apart : (e : is_between one other x ≡ false) → is_between a b x ≡ true → are_these one other a b ≡ false
    apart e h = other_ends x.one x.other one other a b e h
      where
        other_ends : (p q s t a b : ℕ) → are_these p q s t ≡ false → are_these p q a b ≡ true → are_these s t a b ≡ false
        other_ends p q s t a b e h = grind (arith, nat_tests)

    one_cut : (k : Bool) → is_between one other x ≡ k → list_any (is_between a b) F ≡ (not (are_these one other a b) && list_any (is_between a b) xs) → list_any (is_between a b) (cond (not k) (x ∷ F) F) ≡ (not (are_these one other a b) && (is_between a b x || list_any (is_between a b) xs))
    one_cut true e h = h ∙ passed (are_these one other a b) (is_between a b x) (list_any (is_between a b) xs) (sym (ends_same x.one x.other a b one other e))
    one_cut false e h = ap (λ (r : Bool). is_between a b x || r) h ∙ stays (are_these one other a b) (is_between a b x) (list_any (is_between a b) xs) (apart e)

pub down_cut : (lines : List ScheduleLine) (n one other : ℕ) (w : World) → n < length lines → IsLine lines (n + 1) (line.Down one other) → CircuitsAs lines n w → CircuitsAs lines (n + 1) (cuts_circuit one other w)
down_cut lines n one other w there is h a b =
    ap (λ (r : Bool). are_these one other a b || r) (h a b) ∙ sym (cut_next lines n a b there ∙ ap (λ (l : ScheduleLine). cut_after l a b (lawful.is_cut (take n lines) a b)) is)

pub up_cut : (lines : List ScheduleLine) (n one other : ℕ) (w : World) → n < length lines → IsLine lines (n + 1) (line.Up one other) → CircuitsAs lines n w → CircuitsAs lines (n + 1) (mends_circuit one other w)
up_cut lines n one other w there is h a b =
    left_cut one other a b w.circuits ∙ (ap (λ (r : Bool). not (are_these one other a b) && r) (h a b) ∙ sym (cut_next lines n a b there ∙ ap (λ (l : ScheduleLine). cut_after l a b (lawful.is_cut (take n lines) a b)) is))

turned : (p q one other a b : ℕ) → are_these one other a b ≡ true → are_these p q a b ≡ are_these p q one other
turned p q one other a b e = grind (arith, nat_tests)

ends_any : (one other a b : ℕ) (xs : List CutCircuit) → are_these one other a b ≡ true → list_any (is_between a b) xs ≡ list_any (is_between one other) xs
ends_any one other a b [] e = refl
ends_any one other a b (x ∷ xs) e = ap (λ (k : Bool). k || list_any (is_between a b) xs) (turned x.one x.other one other a b e) ∙ ap (λ (r : Bool). is_between one other x || r) (ends_any one other a b xs e)

-- a line that finds its circuit so
pub down_void : (one other a b : ℕ) (w : World) → is_cut w one other ≡ true → (are_these one other a b || is_cut w a b) ≡ is_cut w a b
down_void one other a b w e = either (are_these one other a b) refl
  where
    either : (k : Bool) → are_these one other a b ≡ k → (k || is_cut w a b) ≡ is_cut w a b
    either true q = sym (ends_any one other a b w.circuits q ∙ e)
    either false q = refl

pub up_void : (one other a b : ℕ) (w : World) → not (is_cut w one other) ≡ true → (not (are_these one other a b) && is_cut w a b) ≡ is_cut w a b
up_void one other a b w e = either (are_these one other a b) refl
  where
    off : (x : Bool) → not x ≡ true → x ≡ false
    off true e = absurd (never e)
      where
        never : false ≡ true → ⊥
        never e = cc
    off false e = refl

    either : (k : Bool) → are_these one other a b ≡ k → (not k && is_cut w a b) ≡ is_cut w a b
    either true q = sym (ends_any one other a b w.circuits q ∙ off (is_cut w one other) e)
    either false q = refl
