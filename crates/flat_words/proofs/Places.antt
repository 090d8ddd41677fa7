-- Where clap puts plain words, and that it takes up to three.
use Rattle.std.proofs.Common.{◌≡◌, ◌∙◌, ◌≤◌, true, false, List, [], ◌∷◌, ◌&&◌, Bool, Option, Result, Ok, Err, IfOk, IfErr, length, codes, refl, ap, ap₂, sym, arith}
use Rattle.std.specs.Prelude.{slice_get}
use Rattle.std.specs.List.{All, list_all}
use Rattle.clap.specs.Matches.{found_of}
use Rattle.clap.specs.Walk.{Text, Walk, finished, first_of, nothing_held, walk, walked}
use Rattle.clap.specs.Simple.{HasMatchesOf, built, matches_of}
use Rattle.clap.specs.Takes.{default_passes, is_valid, settle_passes, takes, turn_passes, walk_passes}
use Rattle.clap.specs.Kinds.{FailsBy, Kinds, or_else}
use Rattle.clap.specs.Faults.{fault_of, turn_fault, walk_fault}
use Rattle.clap.specs.Values.{kind_of}
use Rattle.clap.specs.declared.error.Error.{Error}
use Rattle.clap.specs.declared.error.kind.ErrorKind.TheVariants.{OutOfMemory}
use Rattle.clap.specs.declared.parser.matches.ArgMatches.{ArgMatches}
use Rattle.clap.proofs.TakesLemmas.{leaf_takes}
use Rattle.clap.proofs.WalkLemmas.{first_value-rows}
use Rattle.flat_words.specs.FlatCommand.{HasPlaces, flat_command}
use Rattle.given_words.specs.Plain.{IsPlain, begins_plainly}
use Rattle.flat_words.proofs.FlatWalks.{after_one, after_three, after_two, both, fault_four, fault_one, fault_three, fault_two, pass_one, pass_three, pass_two, shape, start, step_one, step_three, step_two}

-- ---- the walk over so many words ----

walk_one : (a : Text) → begins_plainly a ≡ true → walk shape.rules [] nothing_held (a ∷ []) ≡ after_one a
walk_one a p = step_one a p

walk_two : (a b : Text) → begins_plainly a ≡ true → begins_plainly b ≡ true → walk shape.rules [] nothing_held (a ∷ b ∷ []) ≡ after_two a b
walk_two a b p q = ap (λ w. walked shape.rules [] w b) (step_one a p) ∙ step_two a b q

walk_three : (a b c : Text) → begins_plainly a ≡ true → begins_plainly b ≡ true → begins_plainly c ≡ true
    → walk shape.rules [] nothing_held (a ∷ b ∷ c ∷ []) ≡ after_three a b c
walk_three a b c p q r = ap (λ w. walked shape.rules [] w c) (walk_two a b p q) ∙ step_three a b c r

-- ---- more than three fail ----

first_none : (k n : Kinds) → or_else k n ≡ [] → k ≡ []
first_none [] n h = refl
first_none (k ∷ ks) n h = cc

skips : (w next : Walk) (word : Text) (rest : List Text) → turn_fault shape [] w word ≡ [] → walked shape.rules [] w word ≡ next
    → walk_fault shape [] w (word ∷ rest) ≡ walk_fault shape [] next rest
unfolding walk_fault
skips w next word rest t s = ap₂ (λ k v. or_else k (walk_fault shape [] v rest)) t s

strays : (w : Walk) (word : Text) (rest : List Text) (k : Kinds) → turn_fault shape [] w word ≡ k → walk_fault shape [] w (word ∷ rest) ≡ [] → k ≡ []
unfolding walk_fault
strays w word rest k t h = first_none k _ (ap (λ x. or_else x (walk_fault shape [] (walked shape.rules [] w word) rest)) (sym t) ∙ h)

pub at_most_three : (words : List Text) → All IsPlain words → fault_of flat_command words ≡ [] → length words ≤ 3
at_most_three [] h f = omega arith
at_most_three (a ∷ []) h f = omega arith
at_most_three (a ∷ b ∷ []) h f = omega arith
at_most_three (a ∷ b ∷ c ∷ []) h f = omega arith
at_most_three (a ∷ b ∷ c ∷ d ∷ rest) h f =
    let p : begins_plainly a ≡ true = (h 0 a (omega arith)).1 in
    let q : begins_plainly b ≡ true = (h 1 b (omega arith)).1 in
    let r : begins_plainly c ≡ true = (h 2 c (omega arith)).1 in
    let s : begins_plainly d ≡ true = (h 3 d (omega arith)).1 in
    let walked_well = first_none (walk_fault shape [] start (a ∷ b ∷ c ∷ d ∷ rest)) _ f in
    let three = skips start (after_one a) a (b ∷ c ∷ d ∷ rest) (fault_one a p) (step_one a p)
    ∙ skips (after_one a) (after_two a b) b (c ∷ d ∷ rest) (fault_two a b q) (step_two a b q)
    ∙ skips (after_two a b) (after_three a b c) c (d ∷ rest) (fault_three a b c r) (step_three a b c r) in
    let bad = strays (after_three a b c) d rest _ (fault_four a b c d s) (sym three ∙ walked_well) in
    cc

-- ---- up to three are taken ----

passes_on : (w next : Walk) (word : Text) (rest : List Text) → turn_passes shape [] w word ≡ true → walked shape.rules [] w word ≡ next
    → walk_passes shape [] next rest ≡ true → walk_passes shape [] w (word ∷ rest) ≡ true
unfolding walk_passes
passes_on w next word rest t s r = both _ _ t (ap (λ v. walk_passes shape [] v rest) s ∙ r)

at_end : (w : Walk) → walk_passes shape [] w [] ≡ true
unfolding walk_passes
at_end w = refl

abbrev ends_well : Walk → Bool
ends_well w = settle_passes shape.rules shape.args_override_self w.held
    && (list_all default_passes shape.rules && is_valid shape (finished shape.rules w.held) false)

is_taken : (words : List Text) (w : Walk) → walk_passes shape [] start words ≡ true → walk shape.rules [] nothing_held words ≡ w → ends_well w ≡ true
    → takes flat_command words ≡ true
is_taken words w p e t = leaf_takes (built flat_command) nothing_held words refl (both _ _ p (ap ends_well e ∙ t))

pub three_taken : (words : List Text) → All IsPlain words → length words ≤ 3 → takes flat_command words ≡ true
three_taken [] h few = is_taken [] start (at_end start) refl refl
three_taken (a ∷ []) h few =
    let p : begins_plainly a ≡ true = (h 0 a (omega arith)).1 in
    is_taken (a ∷ []) (after_one a) (passes_on start (after_one a) a [] (pass_one a p) (step_one a p) (at_end (after_one a))) (walk_one a p) refl
three_taken (a ∷ b ∷ []) h few =
    let p : begins_plainly a ≡ true = (h 0 a (omega arith)).1 in
    let q : begins_plainly b ≡ true = (h 1 b (omega arith)).1 in
    is_taken (a ∷ b ∷ []) (after_two a b)
    (passes_on start (after_one a) a (b ∷ []) (pass_one a p) (step_one a p)
    (passes_on (after_one a) (after_two a b) b [] (pass_two a b q) (step_two a b q) (at_end (after_two a b)))) (walk_two a b p q) refl
three_taken (a ∷ b ∷ c ∷ []) h few =
    let p : begins_plainly a ≡ true = (h 0 a (omega arith)).1 in
    let q : begins_plainly b ≡ true = (h 1 b (omega arith)).1 in
    let r : begins_plainly c ≡ true = (h 2 c (omega arith)).1 in
    is_taken (a ∷ b ∷ c ∷ []) (after_three a b c)
    (passes_on start (after_one a) a (b ∷ c ∷ []) (pass_one a p) (step_one a p)
    (passes_on (after_one a) (after_two a b) b (c ∷ []) (pass_two a b q) (step_two a b q)
    (passes_on (after_two a b) (after_three a b c) c [] (pass_three a b c r) (step_three a b c r) (at_end (after_three a b c))))) (walk_three a b c p q r) refl
three_taken (a ∷ b ∷ c ∷ d ∷ rest) h few = absurd (omega arith)

-- ---- the places ----

-- what is found of an argument after a walk
abbrev found_after : Text → Walk → Option Text
found_after id w = first_of id (finished shape.rules w.held)

pub places : (words : List Text) → All IsPlain words → length words ≤ 3
    → (first_of (codes "command") (matches_of flat_command words) ≡ slice_get words 0)
    × (first_of (codes "number") (matches_of flat_command words) ≡ slice_get words 1)
    × (first_of (codes "events") (matches_of flat_command words) ≡ slice_get words 2)
places [] h few = (refl, refl, refl)
places (a ∷ []) h few =
    let p : begins_plainly a ≡ true = (h 0 a (omega arith)).1 in
    let e = walk_one a p in
    (ap (found_after (codes "command")) e, ap (found_after (codes "number")) e, ap (found_after (codes "events")) e)
places (a ∷ b ∷ []) h few =
    let p : begins_plainly a ≡ true = (h 0 a (omega arith)).1 in
    let q : begins_plainly b ≡ true = (h 1 b (omega arith)).1 in
    let e = walk_two a b p q in
    (ap (found_after (codes "command")) e, ap (found_after (codes "number")) e, ap (found_after (codes "events")) e)
places (a ∷ b ∷ c ∷ []) h few =
    let p : begins_plainly a ≡ true = (h 0 a (omega arith)).1 in
    let q : begins_plainly b ≡ true = (h 1 b (omega arith)).1 in
    let r : begins_plainly c ≡ true = (h 2 c (omega arith)).1 in
    let e = walk_three a b c p q r in
    (ap (found_after (codes "command")) e, ap (found_after (codes "number")) e, ap (found_after (codes "events")) e)
places (a ∷ b ∷ c ∷ d ∷ rest) h few = absurd (omega arith)

-- ---- what a parse gives ----

pub parse_places : (r : Result ArgMatches Error) (words : List Text) → All IsPlain words → IfOk r (HasMatchesOf flat_command words)
    → FailsBy (fault_of flat_command words) r → IfOk r (HasPlaces words)
parse_places (Err e) words h m f = tt
parse_places (Ok m) words h has f =
    let few = at_most_three words h f in
    let rows = (has refl).0 in
    let at = places words h few in
    record {
      command = first_value-rows (found_of m) (codes "command") ∙ (ap (first_of (codes "command")) rows ∙ at.0);
      number = first_value-rows (found_of m) (codes "number") ∙ (ap (first_of (codes "number")) rows ∙ at.1);
      events = first_value-rows (found_of m) (codes "events") ∙ (ap (first_of (codes "events")) rows ∙ at.2);
      few = few;
    }

pub parse_fails : (r : Result ArgMatches Error) (words : List Text) → All IsPlain words
    → IfErr r (λ e. takes flat_command words ≡ true → kind_of e ≡ OutOfMemory) → IfErr r (λ e. length words ≤ 3 → kind_of e ≡ OutOfMemory)
parse_fails (Ok m) words h f = tt
parse_fails (Err e) words h f = λ few. f (three_taken words h few)
