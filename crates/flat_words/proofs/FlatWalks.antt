-- How clap walks over plain words: each goes to the next positional, and a fourth to none.
use Rattle.std.proofs.Common.{◌≡◌, ℕ, Bool, true, false, not, ◌&&◌, ◌==◌, List, [], ◌∷◌, refl, ap, ap₂}
use Rattle.std.proofs.lemmas.Bool.{false≢true}
use Rattle.clap.specs.Walk.{Held, Rule, Step, Text, Walk, after_step, arg_by_index, idle, nothing_held, to_positional, value, walk_from, walked, word_met}
use Rattle.clap.specs.Simple.{Shape, built}
use Rattle.clap.specs.Takes.{step_passes, turn_passes, word_passes}
use Rattle.clap.specs.Kinds.{or_else}
use Rattle.clap.specs.Faults.{step_fault, turn_fault, word_fault}
use Rattle.clap.specs.declared.error.kind.ErrorKind.TheVariants.{UnknownArgument}
use Rattle.flat_words.specs.FlatCommand.{flat_command}
use Rattle.given_words.specs.Plain.{begins_plainly}

no_hyphen : (b : Bool) → not b ≡ true → b ≡ false
no_hyphen true e = absurd (false≢true e)
no_hyphen false e = refl

-- ---- one word, of any command ----

pub met_plain : (c : List Rule) (position : ℕ) (word : Text) (h : Held) → begins_plainly word ≡ true → word_met c [] false idle position word h ≡ (h, value)
met_plain c position [] h e = absurd (false≢true e)
met_plain c position (x ∷ xs) h e = let other : (x == 45) ≡ false = no_hyphen (x == 45) e in rw (other, other) refl

pub passes_plain : (s : Shape) (word : Text) (h : Held) → begins_plainly word ≡ true → word_passes s [] false idle word h ≡ true
passes_plain s [] h e = absurd (false≢true e)
passes_plain s (x ∷ xs) h e = let other : (x == 45) ≡ false = no_hyphen (x == 45) e in rw (other, other) refl

pub fault_plain : (s : Shape) (word : Text) (h : Held) → begins_plainly word ≡ true → word_fault s [] false idle word h ≡ []
fault_plain s [] h e = absurd (false≢true e)
fault_plain s (x ∷ xs) h e = let other : (x == 45) ≡ false = no_hyphen (x == 45) e in rw (other, other) refl

-- ---- the walk of the flat command ----

abbrev pub shape : Shape
shape = (built flat_command).top

abbrev pub start : Walk
start = walk_from nothing_held

abbrev next_place : Walk → Text → Walk
next_place w word = to_positional shape.rules (arg_by_index shape.rules w.position) word w w.held

abbrev pub after_one : Text → Walk
after_one a = next_place start a

abbrev pub after_two : Text → Text → Walk
after_two a b = next_place (after_one a) b

abbrev pub after_three : Text → Text → Text → Walk
after_three a b c = next_place (after_two a b) c

pub step_one : (a : Text) → begins_plainly a ≡ true → walked shape.rules [] start a ≡ after_one a
unfolding walked
step_one a e = ap (λ (met : Held × Step). after_step shape.rules a start met.0 met.1) (met_plain shape.rules 1 a nothing_held e)

pub step_two : (a b : Text) → begins_plainly b ≡ true → walked shape.rules [] (after_one a) b ≡ after_two a b
unfolding walked
step_two a b e = ap (λ (met : Held × Step). after_step shape.rules b (after_one a) met.0 met.1) (met_plain shape.rules 2 b (after_one a).held e)

pub step_three : (a b c : Text) → begins_plainly c ≡ true → walked shape.rules [] (after_two a b) c ≡ after_three a b c
unfolding walked
step_three a b c e = ap (λ (met : Held × Step). after_step shape.rules c (after_two a b) met.0 met.1) (met_plain shape.rules 3 c (after_two a b).held e)

-- ---- each turn passes ----

pub both : (p q : Bool) → p ≡ true → q ≡ true → (p && q) ≡ true
both p q e f = rw (e, f) refl

pub pass_one : (a : Text) → begins_plainly a ≡ true → turn_passes shape [] start a ≡ true
pass_one a e = both _ _ (passes_plain shape a nothing_held e)
    (ap (λ (met : Held × Step). step_passes shape 1 met.0 met.1) (met_plain shape.rules 1 a nothing_held e))

pub pass_two : (a b : Text) → begins_plainly b ≡ true → turn_passes shape [] (after_one a) b ≡ true
pass_two a b e = both _ _ (passes_plain shape b (after_one a).held e)
    (ap (λ (met : Held × Step). step_passes shape 2 met.0 met.1) (met_plain shape.rules 2 b (after_one a).held e))

pub pass_three : (a b c : Text) → begins_plainly c ≡ true → turn_passes shape [] (after_two a b) c ≡ true
pass_three a b c e = both _ _ (passes_plain shape c (after_two a b).held e)
    (ap (λ (met : Held × Step). step_passes shape 3 met.0 met.1) (met_plain shape.rules 3 c (after_two a b).held e))

-- ---- no turn fails but the fourth ----

pub fault_one : (a : Text) → begins_plainly a ≡ true → turn_fault shape [] start a ≡ []
fault_one a e = ap₂ or_else (fault_plain shape a nothing_held e)
    (ap (λ (met : Held × Step). step_fault shape 1 met.0 met.1) (met_plain shape.rules 1 a nothing_held e))

pub fault_two : (a b : Text) → begins_plainly b ≡ true → turn_fault shape [] (after_one a) b ≡ []
fault_two a b e = ap₂ or_else (fault_plain shape b (after_one a).held e)
    (ap (λ (met : Held × Step). step_fault shape 2 met.0 met.1) (met_plain shape.rules 2 b (after_one a).held e))

pub fault_three : (a b c : Text) → begins_plainly c ≡ true → turn_fault shape [] (after_two a b) c ≡ []
fault_three a b c e = ap₂ or_else (fault_plain shape c (after_two a b).held e)
    (ap (λ (met : Held × Step). step_fault shape 3 met.0 met.1) (met_plain shape.rules 3 c (after_two a b).held e))

pub fault_four : (a b c d : Text) → begins_plainly d ≡ true → turn_fault shape [] (after_three a b c) d ≡ UnknownArgument ∷ []
fault_four a b c d e = ap₂ or_else (fault_plain shape d (after_three a b c).held e)
    (ap (λ (met : Held × Step). step_fault shape 4 met.0 met.1) (met_plain shape.rules 4 d (after_three a b c).held e))
