-- What the loop over the lines has come to, and what each of its ends says.
use Rattle.std.proofs.Common.{◌≡◌, ◌≢◌, ℕ, ◌+◌, ◌≤◌, ◌<◌, List, [], ◌∷◌, ◌++◌, Option, Some, Result, Ok, Err, length, take, refl, ap, sym, ◌∙◌, subst, arith, append_assoc, length-append, inl, inr, ◌⊎◌, ⊎_elim, eqb, Bool, true, false, cond}
use Rattle.std.proofs.lemmas.Bool.{false≢true}
use Rattle.std.proofs.lemmas.List.{append-nil, take_at, take_all}
use Rattle.std.specs.Prelude.{IfErr, IfOk, IfSome}
use Rattle.std.specs.List.{AllByRecursion, onto_first}
use Rattle.std.specs.Io.KnownBytes.{Keeps, IsAtEnd}
use Rattle.locus_io.specs.Causes.{Rose}
use Rattle.line_reader.specs.Reading.{lines_of, to_read, Between, ReadsLine, IsLong, first_line, after_line}
use Rattle.audit_input.specs.Input.{IsInput, ReadsAll, nothing_read}
use Rattle.audit_input.specs.declared.audit_reader.AuditLine.{AuditLine}
use Rattle.audit_answers.specs.Answers.{IsAnswered}
use Rattle.audit_answers.specs.declared.answer.Answer.{Answer}
use Rattle.audit_answers.proofs.OneReading.{good_or_bad, heads_none}
use Rattle.audit_run.specs.declared.fault.AuditFault.{AuditFault}
use Rattle.audit_run.specs.declared.fault.AuditFault.TheVariants as fault
use Rattle.audit_run.specs.declared.hearing.Hearing.{Hearing}
use Rattle.audit_run.specs.Hearings.{Hears, MissesTrace, Refuses}
use Rattle.audit_run.specs.Ends.{AreAnswered, AreRead, Ends, IsWithinLimits, StopsAtBad, StopsAtCount, StopsAtLong}
use Rattle.audit_run.proofs.Hearings.{reads_length, records_few}
use Rattle.line_reader.proofs.ReadLines.{ReadsLines, IsAllRead, Between-end, Between-line, Between-none, Between-rest, at_end, if_some}

-- the lines so far
pub record SoFar (h : Hearing) (number : ℕ) (left0 left1 : Option (List ℕ)) : Type 0 where
  pub bytes : List (List ℕ)
  pub lines : List AuditLine
  pub hears : Hears bytes lines h
  pub within : IsWithinLimits bytes
  pub counted : length bytes ≡ number
  pub read : Between left0 left1 (ReadsLines bytes)

pub so_far_none : (h : Hearing) (a : Option (List ℕ)) (n : ℕ) → n ≡ 0 → Hears [] [] h → SoFar h n a (to_read [] a)
so_far_none h a n none hears = record {
  bytes = [];
  lines = [];
  hears = hears;
  within = record { few = omega arith; short = tt };
  counted = sym none;
  read = Between-none a;
}

all_push : {X : Type 0} (P : X → Type 0) (xs : List X) (x : X) → AllByRecursion P xs → P x → AllByRecursion P (xs ++ x ∷ [])
all_push P [] x h p = (p, tt)
all_push P (y ∷ ys) x h p = (h.0, all_push P ys x h.1 p)

within_push : (lines : List (List ℕ)) (line : List ℕ) (number : ℕ) → IsWithinLimits lines → length lines + 1 ≡ number → number ≤ 1000000 → length line ≤ 4194304 → IsWithinLimits (lines ++ line ∷ [])
within_push lines line number h e few short = record {
  few = omega (arith, length-append lines (line ∷ []), e, few);
  short = all_push (λ (l : List ℕ). length l ≤ 4194304) lines line h.short short;
}

-- by a line it goes on
pub so_far_next : (h g : Hearing) (n m : ℕ) (line : List ℕ) (a b c : Option (List ℕ)) → SoFar h n a b → m ≡ n + 1 → m ≤ 1000000 → length line ≤ 4194304 → Between b c (ReadsLine line) →
    ((all : List (List ℕ)) (lines : List AuditLine) → Hears all lines h → m ≡ length all + 1 → (l : AuditLine) × Hears (all ++ line ∷ []) (lines ++ l ∷ []) g) → SoFar g m a c
so_far_next h g n m line a b c s e few short reads hears =
    let next = hears s.bytes s.lines s.hears (omega (arith, s.counted, e)) in
    record {
      bytes = s.bytes ++ line ∷ [];
      lines = s.lines ++ next.0 ∷ [];
      hears = next.1;
      within = within_push s.bytes line m s.within (omega (arith, s.counted, e)) few short;
      counted = omega (arith, length-append s.bytes (line ∷ []), s.counted, e);
      read = Between-line a b c s.bytes line s.read reads;
    }

pub few_records : (h : Hearing) (n : ℕ) (a b : Option (List ℕ)) → SoFar h n a b → h.tally.records ≤ n
few_records h n a b s = omega (arith, s.hears.counted, records_few s.lines, reads_length nothing_read s.bytes s.lines s.hears.reader s.hears.reads, s.counted)

-- all lines were read
all_of : (bytes : List (List ℕ)) (all xs ys : List ℕ) → lines_of all ≡ bytes ++ lines_of xs → IsAllRead xs ys → lines_of all ≡ bytes
all_of bytes all xs ys e read = e ∙ ap (λ s. bytes ++ lines_of s) read.0 ∙ append-nil bytes

are_read : (h : Hearing) (n : ℕ) (a b : Option (List ℕ)) → (s : SoFar h n a b) → AreRead s.bytes
are_read h n a b s = record { lines = s.lines; after = s.hears.reader; reads = s.hears.reads; within = s.within }

-- the end of the input, where it is answered
pub ends_answered : (h : Hearing) (n : ℕ) (a b : Option (List ℕ)) (ahead : List ℕ) (rest left : Option (List ℕ)) (answer : Answer) →
    SoFar h n a b → Between b (to_read ahead rest) (λ xs ys. xs ≡ []) → Keeps b (to_read ahead rest) → (IsAtEnd rest → IsAtEnd left)
    → ((all : List (List ℕ)) (lines : List AuditLine) → Hears all lines h → IsAnswered all answer) → IfSome a (λ bytes. IsAtEnd left × AreAnswered (lines_of bytes) answer)
ends_answered h n a b ahead rest left answer s ends keeps shown answered = if_some a _ _ (Between-rest a b (to_read ahead rest) s.bytes IsAllRead s.read (Between-end b (to_read ahead rest) ends keeps)) (λ bytes k.
    let P : List (List ℕ) → Type 0 = λ ls. AreAnswered ls answer in (
      shown (at_end ahead rest k.1 k.4 k.3.1),
      subst P (sym (all_of s.bytes bytes k.0 k.1 k.2 k.3)) (record { answered = answered s.bytes s.lines s.hears; within = s.within }),
    ))

-- the end of the input, where `trace` is missing
pub ends_short : (h : Hearing) (n : ℕ) (a b c : Option (List ℕ)) (number : ℕ) → SoFar h n a b → Between b c (λ xs ys. xs ≡ []) → Keeps b c →
    ((all : List (List ℕ)) (lines : List AuditLine) → Hears all lines h → MissesTrace all lines) → number ≡ n + 1 → IfSome a (λ bytes. StopsAtBad (lines_of bytes) number)
ends_short h n a b c number s ends keeps short e = if_some a _ _ (Between-rest a b c s.bytes IsAllRead s.read (Between-end b c ends keeps)) (λ bytes k.
    let P : List (List ℕ) → Type 0 = λ ls. StopsAtBad ls number in
    let all : take number s.bytes ≡ s.bytes = take_all number s.bytes (omega (arith, s.counted, e)) in
    let missing = short s.bytes s.lines s.hears in
    subst P (sym (all_of s.bytes bytes k.0 k.1 k.2 k.3)) (record {
      bad = record { good = s.bytes; rest = []; lines = s.lines; after = missing.reader; split = sym (append-nil s.bytes); place = omega (arith, s.counted, e); reads = missing.reads; bad = missing.missing };
      within = subst IsWithinLimits (sym all) s.within;
    }))

-- a bad line
pub ends_bad : (h : Hearing) (n : ℕ) (a b c : Option (List ℕ)) (line : List ℕ) (number : ℕ) → SoFar h n a b → Between b c (ReadsLine line) →
    ((all : List (List ℕ)) (lines : List AuditLine) → Hears all lines h → Refuses all lines line) → number ≡ n + 1 → number ≤ 1000000 → length line ≤ 4194304 → IfSome a (λ bytes. StopsAtBad (lines_of bytes) number)
ends_bad h n a b c line number s reads refuses e few short = if_some a _ _ (Between-rest a b c s.bytes (ReadsLine line) s.read reads) (λ bytes k.
    let P : List (List ℕ) → Type 0 = λ ls. StopsAtBad ls number in
    let all : lines_of bytes ≡ s.bytes ++ line ∷ lines_of k.1 = k.2 ∙ ap (λ ls. s.bytes ++ ls) k.3.lines in
    let front : take number (s.bytes ++ line ∷ lines_of k.1) ≡ s.bytes ++ line ∷ [] =
    ap (take number) (sym (append_assoc s.bytes (line ∷ []) (lines_of k.1))) ∙ take_at (s.bytes ++ line ∷ []) (lines_of k.1) number (omega (arith, s.counted, e, length-append s.bytes (line ∷ []))) in
    let bad = refuses s.bytes s.lines s.hears in
    subst P (sym all) (record {
      bad = record { good = s.bytes; rest = line ∷ lines_of k.1; lines = s.lines; after = bad.reader; split = refl; place = omega (arith, s.counted, e); reads = bad.reads; bad = bad.bad };
      within = subst IsWithinLimits (sym front) (within_push s.bytes line number s.within (omega (arith, s.counted, e)) few short);
    }))

-- a line that is too long
pub ends_long : (h : Hearing) (n : ℕ) (a b c : Option (List ℕ)) (limit : ℕ) → SoFar h n a b → Between b c (λ xs ys. IsLong limit xs) → limit ≡ 4194304 → n < 1000000 → IfSome a (λ bytes. StopsAtLong (lines_of bytes))
ends_long h n a b c limit s long most early = if_some a _ _ (Between-rest a b c s.bytes (λ xs ys. IsLong limit xs) s.read long) (λ bytes k.
    record {
      earlier = s.bytes;
      line = first_line k.0;
      later = lines_of (after_line k.0);
      split = k.2 ∙ ap (λ ls. s.bytes ++ ls) k.3.lines;
      few = omega (arith, s.counted, early);
      long = omega (arith, k.3.long, most);
      read = are_read h n a b s;
    })

lines_some : (xs : List ℕ) → 0 < length xs → 0 < length (lines_of xs)
lines_some [] h = absurd (omega arith)
lines_some (x ∷ xs) h = by_test (eqb x 10) (lines_of xs)
  where
    by_first : (ls : List (List ℕ)) → 0 < length (onto_first x ls)
    by_first [] = omega arith
    by_first (l ∷ ls) = omega arith

    by_test : (b : Bool) (ls : List (List ℕ)) → 0 < length (cond b ([] ∷ ls) (onto_first x ls))
    by_test true ls = omega arith
    by_test false ls = by_first ls

-- a line past the last that there may be
pub ends_many : (h : Hearing) (n : ℕ) (a b c : Option (List ℕ)) → SoFar h n a b → Between b c (λ xs ys. 0 < length xs) → n ≡ 1000000 → IfSome a (λ bytes. StopsAtCount (lines_of bytes))
ends_many h n a b c s many full = if_some a _ _ (Between-rest a b c s.bytes (λ xs ys. 0 < length xs) s.read many) (λ bytes k.
    record {
      earlier = s.bytes;
      later = lines_of k.0;
      split = k.2;
      full = s.counted ∙ full;
      more = lines_some k.0 k.3;
      read = are_read h n a b s;
    })

-- An input within the limits is not stopped in.

all_at : {X : Type 0} (P : X → Type 0) (xs : List X) (x : X) (ys : List X) → AllByRecursion P (xs ++ x ∷ ys) → P x
all_at P [] x ys h = h.0
all_at P (z ∷ zs) x ys h = all_at P zs x ys h.1

no_long : (all : List (List ℕ)) → IsWithinLimits all → StopsAtLong all → ⊥
no_long all within stop =
    let within' = subst IsWithinLimits stop.split within in
    omega (arith, stop.long, all_at (λ (l : List ℕ). length l ≤ 4194304) stop.earlier stop.line stop.later within'.short)

no_more : (all : List (List ℕ)) → IsWithinLimits all → StopsAtCount all → ⊥
no_more all within stop = omega (arith, within.few, ap length stop.split, length-append stop.earlier stop.later, stop.full, stop.more)

no_bad : (all : List (List ℕ)) (lines : List AuditLine) (n : ℕ) → IsInput all lines → StopsAtBad all n → ⊥
no_bad all lines n input stop =
    good_or_bad stop.bad.good stop.bad.rest [] nothing_read stop.bad.lines lines stop.bad.after input.after heads_none stop.bad.reads stop.bad.bad
    (subst (λ (bs : List (List ℕ)). ReadsAll nothing_read bs lines input.after) stop.bad.split input.reads) input.traced

-- what is said of each end
pub record Parts (result : Result Answer AuditFault) (source left : Option (List ℕ)) : Type 0 where
  pub answered : (a : Answer) → result ≡ Ok a → IfSome source (λ bytes. IsAtEnd left × AreAnswered (lines_of bytes) a)
  pub bad_line : (n : ℕ) → result ≡ Err (fault.BadLine n) → IfSome source (λ bytes. StopsAtBad (lines_of bytes) n)
  pub long_line : result ≡ Err fault.LongLine → IfSome source (λ bytes. StopsAtLong (lines_of bytes))
  pub many_lines : result ≡ Err fault.ManyLines → IfSome source (λ bytes. StopsAtCount (lines_of bytes))

is_told : {A : Type 0} (o : Option (List ℕ)) (bytes : List ℕ) (P : List ℕ → Type 0) → o ≡ Some bytes → IfSome o P → (P bytes → A) → A
is_told o bytes P e h f = f (subst (λ (x : Option (List ℕ)). IfSome x P) e h)

comes : (result : Result Answer AuditFault) (source left : Option (List ℕ)) (bytes : List ℕ) (lines : List AuditLine) → Parts result source left → source ≡ Some bytes → IsInput (lines_of bytes) lines → IsWithinLimits (lines_of bytes) → result ≢ Err fault.ReadFault →
    ((a : Answer) × (result ≡ Ok a)) ⊎ (result ≡ Err fault.NoMemory)
comes (Ok a) source left bytes lines parts e input within unread = inl (a, refl)
comes (Err (fault.BadLine n)) source left bytes lines parts e input within unread = absurd (is_told source bytes _ e (parts.bad_line n refl) (no_bad (lines_of bytes) lines n input))
comes (Err fault.LongLine) source left bytes lines parts e input within unread = absurd (is_told source bytes _ e (parts.long_line refl) (no_long (lines_of bytes) within))
comes (Err fault.ManyLines) source left bytes lines parts e input within unread = absurd (is_told source bytes _ e (parts.many_lines refl) (no_more (lines_of bytes) within))
comes (Err fault.ReadFault) source left bytes lines parts e input within unread = absurd (unread refl)
comes (Err fault.NoMemory) source left bytes lines parts e input within unread = inr refl

pub ends_so : (result : Result Answer AuditFault) (source left : Option (List ℕ)) → Parts result source left → Ends result source left
ends_so result source left parts = record {
  answered = parts.answered;
  bad_line = parts.bad_line;
  long_line = parts.long_line;
  many_lines = parts.many_lines;
  complete = λ bytes lines e input within unread. comes result source left bytes lines parts e input within unread;
}

-- Results.

pub same_err : {T E : Type 0} (x y : E) → ◌≡◌ {A = Result T E} (Err x) (Err y) → x ≡ y
same_err x y e = cc

pub same_ok : {T E : Type 0} (x y : T) → ◌≡◌ {A = Result T E} (Ok x) (Ok y) → x ≡ y
same_ok x y e = cc

pub bad_ends : (a left : Option (List ℕ)) (number : ℕ) → IfSome a (λ bytes. StopsAtBad (lines_of bytes) number) → Ends (Err (fault.BadLine number)) a left
bad_ends a left number h = ends_so (Err (fault.BadLine number)) a left (record {
  answered = λ x e. absurd (cc);
  bad_line = at;
  long_line = λ e. absurd (cc);
  many_lines = λ e. absurd (cc);
})
  where
    at : (m : ℕ) → ◌≡◌ {A = Result Answer AuditFault} (Err (fault.BadLine number)) (Err (fault.BadLine m)) → IfSome a (λ bytes. StopsAtBad (lines_of bytes) m)
    at m e = let same : number ≡ m = cc in subst (λ (k : ℕ). IfSome a (λ bytes. StopsAtBad (lines_of bytes) k)) same h

pub memory_ends : (a left : Option (List ℕ)) → Ends (Err fault.NoMemory) a left
memory_ends a left = ends_so (Err fault.NoMemory) a left (record {
  answered = λ x e. absurd (cc);
  bad_line = λ m e. absurd (cc);
  long_line = λ e. absurd (cc);
  many_lines = λ e. absurd (cc);
})

-- all lines were read: they are answered, or `trace` is missing
pub all_end : (h : Hearing) (n : ℕ) (a b : Option (List ℕ)) (ahead : List ℕ) (rest left : Option (List ℕ)) (next : ℕ) (r : Result Answer AuditFault) →
    SoFar h n a b → Between b (to_read ahead rest) (λ xs ys. xs ≡ []) → Keeps b (to_read ahead rest) → (IsAtEnd rest → IsAtEnd left)
    → ((all : List (List ℕ)) (lines : List AuditLine) → Hears all lines h → IfOk r (IsAnswered all))
    → ((all : List (List ℕ)) (lines : List AuditLine) → Hears all lines h → IfErr r (λ f. (f ≡ fault.BadLine next) × MissesTrace all lines)) → next ≡ n + 1 → Ends r a left
all_end h n a b ahead rest left next (Ok x) s ends keeps shown good short e = ends_so (Ok x) a left (record {
  answered = at;
  bad_line = λ m e. absurd (cc);
  long_line = λ e. absurd (cc);
  many_lines = λ e. absurd (cc);
})
  where
    at : (y : Answer) → ◌≡◌ {A = Result Answer AuditFault} (Ok x) (Ok y) → IfSome a (λ bytes. IsAtEnd left × AreAnswered (lines_of bytes) y)
    at y f = subst (λ (z : Answer). IfSome a (λ bytes. IsAtEnd left × AreAnswered (lines_of bytes) z)) (same_ok x y f) (ends_answered h n a b ahead rest left x s ends keeps shown good)
all_end h n a b ahead rest left next (Err f) s ends keeps shown good short e =
    subst (λ (g : AuditFault). Ends (Err g) a left) (sym (short s.bytes s.lines s.hears).0)
    (bad_ends a left next (ends_short h n a b (to_read ahead rest) next s ends keeps (λ all lines k. (short all lines k).1) e))

pub no_fault : (h : Hearing) (n : ℕ) (a b : Option (List ℕ)) (next : ℕ) (r : Result Answer AuditFault) → SoFar h n a b
    → ((all : List (List ℕ)) (lines : List AuditLine) → Hears all lines h → IfErr r (λ f. (f ≡ fault.BadLine next) × MissesTrace all lines)) → r ≡ Err fault.ReadFault → ⊥
no_fault h n a b next (Ok x) s short e = cc
no_fault h n a b next (Err f) s short e =
    let bad : fault.BadLine next ≡ fault.ReadFault = sym (short s.bytes s.lines s.hears).0 ∙ same_err f fault.ReadFault e in
    cc

-- a line that could not be read ends the audit so
abbrev by_reading : AuditFault → Bool
by_reading fault.ReadFault = true
by_reading fault.LongLine = true
by_reading fault.ManyLines = true
by_reading _ = false

reads_only : (f : AuditFault) → (◌≡◌ {A = Result Bool AuditFault} (Err f) (Err fault.ReadFault)) ⊎ (◌≡◌ {A = Result Bool AuditFault} (Err f) (Err fault.LongLine)) ⊎ (◌≡◌ {A = Result Bool AuditFault} (Err f) (Err fault.ManyLines)) → by_reading f ≡ true
reads_only f h = ⊎_elim
    (λ e. ap by_reading (same_err {T = Bool} f _ e))
    (λ k. ⊎_elim (λ e. ap by_reading (same_err {T = Bool} f _ e)) (λ e. ap by_reading (same_err {T = Bool} f _ e)) k)
    h

pub unread_ends : (a left : Option (List ℕ)) (f : AuditFault) → (◌≡◌ {A = Result Bool AuditFault} (Err f) (Err fault.ReadFault)) ⊎ (◌≡◌ {A = Result Bool AuditFault} (Err f) (Err fault.LongLine)) ⊎ (◌≡◌ {A = Result Bool AuditFault} (Err f) (Err fault.ManyLines)) →
    (f ≡ fault.LongLine → IfSome a (λ bytes. StopsAtLong (lines_of bytes))) → (f ≡ fault.ManyLines → IfSome a (λ bytes. StopsAtCount (lines_of bytes))) → Ends (Err f) a left
unread_ends a left f only long many = ends_so (Err f) a left (record {
  answered = λ x e. absurd (cc);
  bad_line = λ m e. absurd (false≢true (sym (ap by_reading (same_err f (fault.BadLine m) e)) ∙ reads_only f only));
  long_line = λ e. long (same_err f fault.LongLine e);
  many_lines = λ e. many (same_err f fault.ManyLines e);
})

-- a count that rose has risen since before
pub rose_since : (a b c : ℕ) → a ≤ b → Rose b c → Rose a c
rose_since a b c p h = omega (arith, p, h)

-- there is room for a record more
pub few_before : (h : Hearing) (n m : ℕ) (a b : Option (List ℕ)) → SoFar h n a b → m ≡ n + 1 → m ≤ 1000000 → h.tally.records < 1000000
few_before h n m a b s e few = omega (arith, few_records h n a b s, e, few)
