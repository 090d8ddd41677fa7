-- What the loop over the lines has come to, and what each of its ends says.
use Rattle.std.proofs.Common.{◌≡◌, ℕ, ◌+◌, ◌≤◌, ◌<◌, List, [], ◌∷◌, ◌++◌, Option, Some, None, length, take, refl, ap, sym, ◌∙◌, subst, arith, append_assoc, length-append, ⊎_elim, inl, inr, eqb, Bool, true, false, cond}
use Rattle.std.proofs.lemmas.List.{append-nil, take_at, take_all}
use Rattle.std.specs.Prelude.{IfSome}
use Rattle.std.specs.List.{onto_first}
use Rattle.std.specs.Io.KnownBytes.{Appends, Keeps, IsAtEnd}
use Rattle.locus_io.specs.Causes.{AppendsFront}
use Rattle.schedule_lines.specs.declared.line.ScheduleLine.{ScheduleLine}
use Rattle.the_run.specs.Worlds.{Limit}
use Rattle.line_reader.specs.Reading.{lines_of, has_feed, to_read, Between, ReadsLine, EndsInFeed, IsLong, first_line, after_line}
use Rattle.input_run.specs.Inputs.{Input, StandsFor, MayEndAfter, opening_of}
use Rattle.input_run.specs.Runs.{output_of}
use Rattle.input_run.specs.Runs.{IsWithinLimits, Writes, AreRun, IsWholeRun, Refuses, StopsAtBad, StopsAtLong, StopsAtCount, StopsAtFault, StopsAtLimit, WritesFront}
use Rattle.input_run.specs.Turns.{Standing, HasTold, Tells, TellsFront, Goes, IsCutShort}
use Rattle.input_run.proofs.Inputs.{stands_first}
use Rattle.input_run.proofs.Schedules.{IsWithinLimits-push}
use Rattle.line_reader.proofs.ReadLines.{ReadsLines, Between-none, Between-line, Between-rest, Between-end, IsAllRead, at_end, if_some}
use Rattle.input_run.proofs.Told.{Appends-nothing, Appends-then, AppendsFront-whole, AppendsFront-kept, AppendsFront-then, Between-read}
use Rattle.input_run.proofs.Whole.{AreWhole, Between-whole-none, Between-whole-line, wholly_read}

-- the lines so far, of which the run is written
pub record SoFar {R : Type 0} (stands : Standing R) (input : Input) (r : R) (number : ℕ) (ended : Bool) (left0 left1 taken0 taken1 : Option (List ℕ)) : Type 0 where
  pub bytes : List (List ℕ)
  pub lines : List ScheduleLine
  pub reads : StandsFor input bytes lines
  pub within : IsWithinLimits bytes
  pub told : HasTold stands input bytes lines r
  pub writes : Writes input lines taken0 taken1
  pub counted : length bytes ≡ number
  pub read : Between left0 left1 (ReadsLines bytes)
  pub whole : ended ≡ false → Between left0 left1 (AreWhole bytes)

-- the text with the rest of a turn
longer : (was now fresh : List ℕ) (t u v : Option (List ℕ)) → Appends t u was → Appends u v fresh → now ≡ was ++ fresh → Appends t v now
longer was now fresh t u v p q e = subst (λ (s : List ℕ). Appends t v s) (sym e) (Appends-then t u v was fresh p q)

-- the opening is run and told
pub SoFar-start : {R : Type 0} (stands : Standing R) (input : Input) (r : R) (a : Option (List ℕ)) (t u : Option (List ℕ)) (n : ℕ) → n ≡ 0 → Tells stands input [] (opening_of input) [] None r t u → SoFar stands input r n false a (to_read [] a) t u
SoFar-start stands input r a t u n none tells = record {
  bytes = [];
  lines = opening_of input;
  reads = stands_first input;
  within = record { few = omega arith; short = tt };
  told = tells.told;
  writes = record { within = tells.passes; written = longer [] (output_of input (opening_of input)) tells.fresh t t u (Appends-nothing t) tells.written tells.rest };
  counted = sym none;
  read = Between-none a;
  whole = λ _. Between-whole-none a;
}

-- what a turn does after whatever lines were run
abbrev pub Turns : {R : Type 0} → Standing R → Input → R → ℕ → List ℕ → Option Limit → R → Option (List ℕ) → Option (List ℕ) → Type 0
Turns stands input r m line limit r' u v = (all : List (List ℕ)) (lines : List ScheduleLine) → m ≡ length all + 1 → HasTold stands input all lines r → Goes stands input all lines line limit r' u v

pub SoFar-next : {R : Type 0} (stands : Standing R) (input : Input) (r r' : R) (n : ℕ) (m : ℕ) (d : Bool) (f : Bool) (line : List ℕ) (a b c t u v : Option (List ℕ)) →
    SoFar stands input r n d a b t u → m ≡ n + 1 → m ≤ 1000000 → length line ≤ 16384 → Between b c (ReadsLine line) → (f ≡ false → d ≡ false) → (f ≡ false → Between b c (EndsInFeed line)) → Turns stands input r m line None r' u v → SoFar stands input r' m f a c t v
SoFar-next stands input r r' n m d f line a b c t u v s e few short reads opens feeds turn =
    let goes = turn s.bytes s.lines (omega (arith, s.counted, e)) s.told in
    record {
      bytes = s.bytes ++ line ∷ [];
      lines = goes.longer;
      reads = goes.next;
      within = IsWithinLimits-push s.bytes line m s.within (omega (arith, s.counted, e)) few short;
      told = goes.tells.told;
      writes = record { within = goes.tells.passes; written = longer _ _ goes.tells.fresh t u v s.writes.written goes.tells.written goes.tells.rest };
      counted = omega (arith, length-append s.bytes (line ∷ []), s.counted, e);
      read = Between-line a b c s.bytes line s.read reads;
      whole = λ open_still. Between-whole-line a b c s.bytes line (s.whole (opens open_still)) (feeds open_still);
    }

are_run : {R : Type 0} (stands : Standing R) (input : Input) (r : R) (n : ℕ) (d : Bool) (a b t u : Option (List ℕ)) → (s : SoFar stands input r n d a b t u) → AreRun input s.bytes t u
are_run stands input r n d a b t u s = record { lines = s.lines; stands = s.reads; within = s.within; writes = s.writes }

-- all lines were read
all_of : (bytes : List (List ℕ)) (all xs ys : List ℕ) → lines_of all ≡ bytes ++ lines_of xs → IsAllRead xs ys → lines_of all ≡ bytes
all_of bytes all xs ys e read = e ∙ ap (λ s. bytes ++ lines_of s) read.0 ∙ append-nil bytes

-- The end of the input, where it may end.
pub Ends-whole : {R : Type 0} (stands : Standing R) (input : Input) (r : R) (n : ℕ) (d : Bool) (a b : Option (List ℕ)) (ahead : List ℕ) (rest left t u : Option (List ℕ)) →
    SoFar stands input r n d a b t u → Between b (to_read ahead rest) (λ xs ys. xs ≡ []) → Keeps b (to_read ahead rest) → (IsAtEnd rest → IsAtEnd left)
    → ((all : List (List ℕ)) (lines : List ScheduleLine) → HasTold stands input all lines r → MayEndAfter input lines) → IfSome a (λ bytes. IsAtEnd left × IsWholeRun input (lines_of bytes) t u)
Ends-whole stands input r n d a b ahead rest left t u s ends keeps shown enough = if_some a _ _ (Between-rest a b (to_read ahead rest) s.bytes IsAllRead s.read (Between-end b (to_read ahead rest) ends keeps)) (λ bytes h.
    let P : List (List ℕ) → Type 0 = λ ls. IsWholeRun input ls t u in (
      shown (at_end ahead rest h.1 h.4 h.3.1),
      subst P (sym (all_of s.bytes bytes h.0 h.1 h.2 h.3)) (record {
        lines = s.lines;
        accepted = record { stands = s.reads; ends = enough s.bytes s.lines s.told; within = s.within };
        writes = s.writes;
      }),
    ))

-- The end of the input, where it may not end.
pub Ends-short : {R : Type 0} (stands : Standing R) (input : Input) (r : R) (n : ℕ) (d : Bool) (a b c t u : Option (List ℕ)) (line : ℕ) →
    SoFar stands input r n d a b t u → Between b c (λ xs ys. xs ≡ []) → Keeps b c → ((all : List (List ℕ)) (lines : List ScheduleLine) → HasTold stands input all lines r → MayEndAfter input lines → ⊥) → line ≡ n + 1 → IfSome a (λ bytes. StopsAtBad input (lines_of bytes) line t u)
Ends-short stands input r n d a b c t u line s ends keeps few e = if_some a _ _ (Between-rest a b c s.bytes IsAllRead s.read (Between-end b c ends keeps)) (λ bytes h.
    let P : List (List ℕ) → Type 0 = λ ls. StopsAtBad input ls line t u in
    let all : take line s.bytes ≡ s.bytes = take_all line s.bytes (omega (arith, s.counted, e)) in
    subst P (sym (all_of s.bytes bytes h.0 h.1 h.2 h.3)) (record {
      earlier = s.bytes;
      later = [];
      split = sym (append-nil s.bytes);
      numbered = omega (arith, s.counted, e);
      lines = s.lines;
      stands = s.reads;
      bad = few s.bytes s.lines s.told;
      within = subst IsWithinLimits (sym all) s.within;
      writes = s.writes;
    }))

-- A line that may not stand there.
pub Ends-bad : {R : Type 0} (stands : Standing R) (input : Input) (r : R) (n : ℕ) (d : Bool) (a b c t u : Option (List ℕ)) (line : List ℕ) (number : ℕ) →
    SoFar stands input r n d a b t u → Between b c (ReadsLine line) → ((all : List (List ℕ)) (lines : List ScheduleLine) → HasTold stands input all lines r → Refuses input all line) → number ≡ n + 1 → number ≤ 1000000 → length line ≤ 16384 → IfSome a (λ bytes. StopsAtBad input (lines_of bytes) number t u)
Ends-bad stands input r n d a b c t u line number s reads refuses e few short = if_some a _ _ (Between-rest a b c s.bytes (ReadsLine line) s.read reads) (λ bytes h.
    let P : List (List ℕ) → Type 0 = λ ls. StopsAtBad input ls number t u in
    let all : lines_of bytes ≡ s.bytes ++ line ∷ lines_of h.1 = h.2 ∙ ap (λ ls. s.bytes ++ ls) h.3.lines in
    let front : take number (s.bytes ++ line ∷ lines_of h.1) ≡ s.bytes ++ line ∷ [] =
    ap (take number) (sym (append_assoc s.bytes (line ∷ []) (lines_of h.1))) ∙ take_at (s.bytes ++ line ∷ []) (lines_of h.1) number (omega (arith, s.counted, e, length-append s.bytes (line ∷ []))) in
    subst P (sym all) (record {
      earlier = s.bytes;
      later = line ∷ lines_of h.1;
      split = refl;
      numbered = omega (arith, s.counted, e);
      lines = s.lines;
      stands = s.reads;
      bad = refuses s.bytes s.lines s.told;
      within = subst IsWithinLimits (sym front) (IsWithinLimits-push s.bytes line number s.within (omega (arith, s.counted, e)) few short);
      writes = s.writes;
    }))

-- A line that is too long.
pub Ends-long : {R : Type 0} (stands : Standing R) (input : Input) (r : R) (n : ℕ) (d : Bool) (a b c t u : Option (List ℕ)) (limit : ℕ) →
    SoFar stands input r n d a b t u → Between b c (λ xs ys. IsLong limit xs) → limit ≡ 16384 → n < 1000000 → IfSome a (λ bytes. StopsAtLong input (lines_of bytes) t u)
Ends-long stands input r n d a b c t u limit s long most early = if_some a _ _ (Between-rest a b c s.bytes (λ xs ys. IsLong limit xs) s.read long) (λ bytes h.
    record {
      earlier = s.bytes;
      line = first_line h.0;
      later = lines_of (after_line h.0);
      split = h.2 ∙ ap (λ ls. s.bytes ++ ls) h.3.lines;
      few = omega (arith, s.counted, early);
      long = omega (arith, h.3.long, most);
      runs = are_run stands input r n d a b t u s;
    })

lines_some : (xs : List ℕ) → 0 < length xs → 0 < length (lines_of xs)
lines_some [] h = absurd (omega arith)
lines_some (x ∷ xs) h = by_test (eqb x 10) (lines_of xs)
  where
    by_first : (ls : List (List ℕ)) → 0 < length (onto_first x ls)
    by_first [] = omega arith
    by_first (l ∷ ls) = omega arith

    by_test : (b : Bool) (ls : List (List ℕ)) → 0 < length (cond b ([] ∷ ls) (onto_first x ls))
    by_test true ls = omega arith
    by_test false ls = by_first ls

-- A line past the last that there may be.
pub Ends-many : {R : Type 0} (stands : Standing R) (input : Input) (r : R) (n : ℕ) (d : Bool) (a b c t u : Option (List ℕ)) →
    SoFar stands input r n d a b t u → Between b c (λ xs ys. 0 < length xs) → n ≡ 1000000 → IfSome a (λ bytes. StopsAtCount input (lines_of bytes) t u)
Ends-many stands input r n d a b c t u s many full = if_some a _ _ (Between-rest a b c s.bytes (λ xs ys. 0 < length xs) s.read many) (λ bytes h.
    record {
      earlier = s.bytes;
      later = lines_of h.0;
      split = h.2;
      full = s.counted ∙ full;
      more = lines_some h.0 h.3;
      runs = are_run stands input r n d a b t u s;
    })

-- A read that failed, where no line stands whole among the bytes that were taken ahead.
pub Ends-fault : {R : Type 0} (stands : Standing R) (input : Input) (r : R) (n : ℕ) (d : Bool) (a b : Option (List ℕ)) (ahead : List ℕ) (left t u : Option (List ℕ)) →
    SoFar stands input r n d a b t u → d ≡ false → Keeps b (to_read ahead left) → has_feed ahead ≡ false → Between a left (λ bytes rest. StopsAtFault input bytes rest t u)
Ends-fault stands input r n d a b ahead left t u s opened keeps part = wholly_read a b ahead left s.bytes (λ bytes rest. StopsAtFault input bytes rest t u) (s.whole opened) keeps part
    (λ bytes taken rest split whole. record { taken = taken; split = split; read = s.bytes; whole = whole; runs = are_run stands input r n d a b t u s })

-- Whatever comes between two lines, a front is written.
pub Ends-front : {R : Type 0} (stands : Standing R) (input : Input) (r : R) (n : ℕ) (d : Bool) (a b t u : Option (List ℕ)) → SoFar stands input r n d a b t u → IfSome a (λ bytes. WritesFront input (lines_of bytes) t u)
Ends-front stands input r n d a b t u s = if_some a _ _ (Between-read a b s.bytes s.read) (λ bytes h.
    record {
      earlier = s.bytes;
      later = h.0;
      split = h.1;
      lines = s.lines;
      stands = s.reads;
      written = AppendsFront-whole t u (output_of input s.lines) s.writes.written;
    })

-- A line whose run passes a limit.
pub Ends-limit : {R : Type 0} (stands : Standing R) (input : Input) (r r' : R) (n : ℕ) (m : ℕ) (d : Bool) (line : List ℕ) (limit : Limit) (a b c t u v : Option (List ℕ)) →
    SoFar stands input r n d a b t u → m ≡ n + 1 → m ≤ 1000000 → length line ≤ 16384 → Between b c (ReadsLine line) → Turns stands input r m line (Some limit) r' u v → IfSome a (λ bytes. StopsAtLimit input (lines_of bytes) limit t v)
Ends-limit stands input r r' n m d line limit a b c t u v s e few short reads turn = if_some a _ _ (Between-rest a b c s.bytes (ReadsLine line) s.read reads) (λ bytes h.
    let goes = turn s.bytes s.lines (omega (arith, s.counted, e)) s.told in
    inr (record {
      earlier = s.bytes;
      bytes = line;
      later = lines_of h.1;
      split = h.2 ∙ ap (λ ls. s.bytes ++ ls) h.3.lines;
      small = IsWithinLimits-push s.bytes line m s.within (omega (arith, s.counted, e)) few short;
      lines = s.lines;
      stands = s.reads;
      within = s.writes.within;
      longer = goes.longer;
      next = goes.next;
      passes = goes.tells.passes;
      fresh = goes.tells.fresh;
      more = goes.tells.rest;
      written = longer _ _ goes.tells.fresh t u v s.writes.written goes.tells.written goes.tells.rest;
    }))

-- Whatever comes in a turn, a front is written.
pub Ends-cut : {R : Type 0} (stands : Standing R) (input : Input) (r : R) (n : ℕ) (m : ℕ) (d : Bool) (line : List ℕ) (a b c t u v : Option (List ℕ)) →
    SoFar stands input r n d a b t u → m ≡ n + 1 → Between b c (ReadsLine line) → ((all : List (List ℕ)) (lines : List ScheduleLine) → m ≡ length all + 1 → HasTold stands input all lines r → IsCutShort input all lines line u v) → IfSome a (λ bytes. WritesFront input (lines_of bytes) t v)
Ends-cut stands input r n m d line a b c t u v s e reads cut = if_some a _ _ (Between-rest a b c s.bytes (ReadsLine line) s.read reads) (λ bytes h.
    let all : lines_of bytes ≡ s.bytes ++ line ∷ lines_of h.1 = h.2 ∙ ap (λ ls. s.bytes ++ ls) h.3.lines in
    ⊎_elim
    (λ keeps. record {
      earlier = s.bytes;
      later = line ∷ lines_of h.1;
      split = all;
      lines = s.lines;
      stands = s.reads;
      written = AppendsFront-kept t u v (output_of input s.lines) s.writes.written keeps;
    })
    (λ part. record {
      earlier = s.bytes ++ line ∷ [];
      later = lines_of h.1;
      split = all ∙ sym (append_assoc s.bytes (line ∷ []) (lines_of h.1));
      lines = part.longer;
      stands = part.next;
      written = subst (λ (p : List ℕ). AppendsFront t v p) (sym part.tells.rest) (AppendsFront-then t u v (output_of input s.lines) part.tells.fresh s.writes.written part.tells.written);
    })
    (cut s.bytes s.lines (omega (arith, s.counted, e)) s.told))

-- ---- the opening ----

-- In the opening a front of its output is written.
pub Opens-front : (input : Input) (a t u : Option (List ℕ)) → TellsFront input (opening_of input) [] t u → IfSome a (λ bytes. WritesFront input (lines_of bytes) t u)
Opens-front input None t u tells = tt
Opens-front input (Some x) t u tells = record {
  earlier = [];
  later = lines_of x;
  split = refl;
  lines = opening_of input;
  stands = stands_first input;
  written = subst (λ (p : List ℕ). AppendsFront t u p) (sym tells.rest) tells.written;
}

-- The run of the opening passes a limit.
pub Opens-limit : {R : Type 0} (stands : Standing R) (input : Input) (r : R) (limit : Limit) (a t u : Option (List ℕ)) → Tells stands input [] (opening_of input) [] (Some limit) r t u → IfSome a (λ bytes. StopsAtLimit input (lines_of bytes) limit t u)
Opens-limit stands input r limit None t u tells = tt
Opens-limit stands input r limit (Some x) t u tells = inl (record {
  passes = tells.passes;
  written = subst (λ (p : List ℕ). Appends t u p) (sym tells.rest) tells.written;
})

pub none_of : (t : Option (List ℕ)) (xs : List ℕ) → AppendsFront t t xs
none_of None xs = tt
none_of (Some ys) xs = (0, sym (append-nil ys))

-- Before the opening nothing is written.
pub Nothing-front : (input : Input) (a : Option (List ℕ)) (t : Option (List ℕ)) → IfSome a (λ bytes. WritesFront input (lines_of bytes) t t)
Nothing-front input None t = tt
Nothing-front input (Some x) t = record {
  earlier = [];
  later = lines_of x;
  split = refl;
  lines = opening_of input;
  stands = stands_first input;
  written = none_of t (output_of input (opening_of input));
}
