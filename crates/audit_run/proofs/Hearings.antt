-- What is known of the lines of an input goes on by each line.
use Rattle.std.proofs.Common.{◌≡◌, ℕ, ◌+◌, ◌≤◌, suc, Bool, true, false, cond, List, [], ◌∷◌, ◌++◌, length, filter, Option, Some, None, Result, Ok, Err, refl, sym, ap, subst, ◌∙◌, arith}
use Rattle.std.specs.Prelude.{fold, not, OnOk}
use Rattle.std.specs.Option.{is_some}
use Rattle.std.proofs.lemmas.Bool.{false≢true}
use Rattle.locus_ids.specs.declared.config.Config.{Config}
use Rattle.trace_book.specs.declared.record.Record.{Record}
use Rattle.record_reading.specs.Reading.{IsLine, IsLineRead}
use Rattle.audit_tally.specs.declared.tally.Tally.{Tally}
use Rattle.audit_input.specs.Input.{ReadsAll, Takes, nothing_read}
use Rattle.audit_input.specs.declared.audit_reader.AuditLine.{AuditLine}
use Rattle.audit_input.specs.declared.audit_reader.AuditLine.TheVariants as line
use Rattle.audit_input.specs.declared.audit_reader.AuditReader.{AuditReader}
use Rattle.audit_rules.specs.Consistent.{Audited, audited, nothing_audited}
use Rattle.audit_answers.specs.Answers.{IsAnswered, answer_by, first_broken, heard, is_broken, is_record}
use Rattle.trace_audit.specs.Audits.{Auditing}
use Rattle.audit_run.specs.declared.hearing.Hearing.{Hearing}
use Rattle.audit_run.specs.Hearings.{GoesOn, Hears, IsStage, Judges, JudgesIn, MissesTrace, Refuses, TakesBefore, audit_of, broken_at, heard_all}

-- One line more.

reads_push : (before : AuditReader) (bs : List (List ℕ)) (ls : List AuditLine) (mid : AuditReader) (b : List ℕ) (l : AuditLine) (after : AuditReader) →
    ReadsAll before bs ls mid → Takes mid b l after → ReadsAll before (bs ++ b ∷ []) (ls ++ l ∷ []) after
reads_push before [] [] mid b l after h takes = (after, subst (λ (r : AuditReader). Takes r b l after) h takes, refl)
reads_push before [] (m ∷ ms) mid b l after h takes = absurd h
reads_push before (x ∷ xs) [] mid b l after h takes = absurd h
reads_push before (x ∷ xs) (m ∷ ms) mid b l after h takes = (h.0, h.1, reads_push h.0 xs ms mid b l after h.2 takes)

pub reads_length : (before : AuditReader) (bs : List (List ℕ)) (ls : List AuditLine) (after : AuditReader) → ReadsAll before bs ls after → length ls ≡ length bs
reads_length before [] [] after h = refl
reads_length before [] (m ∷ ms) after h = absurd h
reads_length before (x ∷ xs) [] after h = absurd h
reads_length before (x ∷ xs) (m ∷ ms) after h = ap suc (reads_length h.0 xs ms after h.2)

fold_push : {X Y : Type 0} (f : Y → X → Y) (xs : List X) (y : Y) (x : X) → fold f y (xs ++ x ∷ []) ≡ f (fold f y xs) x
fold_push f [] y x = refl
fold_push f (z ∷ xs) y x = fold_push f xs (f y z) x

none_push : (lines : List AuditLine) (l : AuditLine) → is_record l ≡ false → length (filter is_record (lines ++ l ∷ [])) ≡ length (filter is_record lines)
none_push [] l e = rw e refl
none_push (x ∷ xs) l e = at (is_record x) (none_push xs l e)
  where
    at : (b : Bool) → length (filter is_record (xs ++ l ∷ [])) ≡ length (filter is_record xs) → length (cond b (x ∷ filter is_record (xs ++ l ∷ [])) (filter is_record (xs ++ l ∷ []))) ≡ length (cond b (x ∷ filter is_record xs) (filter is_record xs))
    at true later = ap suc later
    at false later = later

record_push : (lines : List AuditLine) (n : ℕ) (r : Record) → length (filter is_record (lines ++ line.Record n r ∷ [])) ≡ length (filter is_record lines) + 1
record_push [] n r = refl
record_push (x ∷ xs) n r = at (is_record x) (record_push xs n r)
  where
    at : (b : Bool) → length (filter is_record (xs ++ line.Record n r ∷ [])) ≡ length (filter is_record xs) + 1
        → length (cond b (x ∷ filter is_record (xs ++ line.Record n r ∷ [])) (filter is_record (xs ++ line.Record n r ∷ []))) ≡ length (cond b (x ∷ filter is_record xs) (filter is_record xs)) + 1
    at true later = omega (arith, later)
    at false later = later

abbrev or_else : Option ℕ → Option ℕ → Option ℕ
or_else (Some m) o = Some m
or_else None o = o

found_push : (c : Config) (k : Audited) (n : ℕ) (lines : List AuditLine) (l : AuditLine) → first_broken c k n (lines ++ l ∷ []) ≡ or_else (first_broken c k n lines) (broken_at (n + length lines) (heard c (fold (heard c) k lines) l))
found_push c k n [] l = ap (λ m. broken_at m (heard c k l)) same
  where
    same : n ≡ n + 0
    same = omega arith
found_push c k n (x ∷ xs) l = at (is_broken (heard c k x)) (found_push c (heard c k x) (n + 1) xs l)
  where
    place : n + 1 + length xs ≡ n + length (x ∷ xs)
    place = omega arith

    at : (b : Bool) → first_broken c (heard c k x) (n + 1) (xs ++ l ∷ []) ≡ or_else (first_broken c (heard c k x) (n + 1) xs) (broken_at (n + 1 + length xs) (heard c (fold (heard c) (heard c k x) xs) l))
        → cond b (Some n) (first_broken c (heard c k x) (n + 1) (xs ++ l ∷ [])) ≡ or_else (cond b (Some n) (first_broken c (heard c k x) (n + 1) xs)) (broken_at (n + length (x ∷ xs)) (heard c (fold (heard c) (heard c k x) xs) l))
    at true later = refl
    at false later = later ∙ ap (λ m. or_else (first_broken c (heard c k x) (n + 1) xs) (broken_at m (heard c (fold (heard c) (heard c k x) xs) l))) place

pub records_few : (lines : List AuditLine) → length (filter is_record lines) ≤ length lines
records_few [] = omega arith
records_few (x ∷ xs) = at (is_record x) (records_few xs)
  where
    at : (b : Bool) → length (filter is_record xs) ≤ length xs → length (cond b (x ∷ filter is_record xs) (filter is_record xs)) ≤ length (x ∷ xs)
    at true later = omega (arith, later)
    at false later = omega (arith, later)

-- Lines without a record.

record IsQuiet (c : Config) (k : Audited) (n : ℕ) (lines : List AuditLine) : Type 0 where
  pub found : first_broken c k n lines ≡ None
  pub knows : fold (heard c) k lines ≡ k

quiet_more : (c : Config) (k : Audited) (n : ℕ) (lines : List AuditLine) → is_broken k ≡ false → IsQuiet c k (n + 1) lines → cond (is_broken k) (Some n) (first_broken c k (n + 1) lines) ≡ None
quiet_more c k n lines e q = rw e q.found

quiet : (c : Config) (k : Audited) (n : ℕ) (lines : List AuditLine) → is_broken k ≡ false → length (filter is_record lines) ≡ 0 → IsQuiet c k n lines
quiet c k n [] e none = record { found = refl; knows = refl }
quiet c k n (line.Passed ∷ lines) e none = (let q = quiet c k (n + 1) lines e none in record { found = quiet_more c k n lines e q; knows = q.knows })
quiet c k n (line.Header ∷ lines) e none = (let q = quiet c k (n + 1) lines e none in record { found = quiet_more c k n lines e q; knows = q.knows })
quiet c k n (line.Trace ∷ lines) e none = (let q = quiet c k (n + 1) lines e none in record { found = quiet_more c k n lines e q; knows = q.knows })
quiet c k n (line.Record m r ∷ lines) e none = absurd (omega (arith, none))

-- Before the trace.

pub hears_none : (h : Hearing) → h ≡ record { input = nothing_read; audit = None; tally = record { records = 0; broken = None } } → Hears [] [] h
hears_none h e = subst (Hears [] []) (sym e) (record { reader = nothing_read; reads = refl; counted = refl; stage = (refl, refl, refl, refl) })

abbrev Before : Hearing → AuditReader → Type 0
Before h reader = (h.input ≡ reader) × (reader.traced ≡ false) × (h.tally.records ≡ 0) × (h.tally.broken ≡ None)

-- what stays as it was, by a line that is no record and doesn't begin the trace
stays_before : (all : List (List ℕ)) (lines : List AuditLine) (bytes : List ℕ) (h g : Hearing) (reader next : AuditReader) (l : AuditLine) → ReadsAll nothing_read all lines reader → h.tally.records ≡ length (filter is_record lines) → Before h reader → h.audit ≡ None →
    Takes reader bytes l next → is_record l ≡ false → next.traced ≡ false → g.audit ≡ h.audit → g.input ≡ next → g.tally ≡ h.tally → Hears (all ++ bytes ∷ []) (lines ++ l ∷ []) g
stays_before all lines bytes h g reader next l reads counted before none takes quietly traced audit input tally = record {
  reader = next;
  reads = reads_push nothing_read all lines reader bytes l next reads takes;
  counted = ap (λ (t : Tally). t.records) tally ∙ (counted ∙ sym (none_push lines l quietly));
  stage = subst (IsStage g next (lines ++ l ∷ [])) (sym (audit ∙ none)) (input, traced, ap (λ (t : Tally). t.records) tally ∙ before.2, ap (λ (t : Tally). t.broken) tally ∙ before.3);
}

-- the trace begins
begins : (all : List (List ℕ)) (lines : List AuditLine) (bytes : List ℕ) (h g : Hearing) (reader next : AuditReader) → ReadsAll nothing_read all lines reader → h.tally.records ≡ length (filter is_record lines) → Before h reader →
    Takes reader bytes line.Trace next → g.audit ≡ Some (audit_of next) → g.tally ≡ h.tally → Hears (all ++ bytes ∷ []) (lines ++ line.Trace ∷ []) g
begins all lines bytes h g reader next reads counted before takes audit tally =
    let still = none_push lines line.Trace refl in
    let q = quiet next.header.config (nothing_audited next.header.config) 1 (lines ++ line.Trace ∷ []) refl (still ∙ (sym counted ∙ before.2)) in
    record {
      reader = next;
      reads = reads_push nothing_read all lines reader bytes line.Trace next reads takes;
      counted = ap (λ (t : Tally). t.records) tally ∙ (counted ∙ sym still);
      stage = subst (IsStage g next (lines ++ line.Trace ∷ [])) (sym audit) (refl, ap (λ (r : AuditReader). r.traced) takes.3, (λ _. sym q.knows), ap (λ (t : Tally). t.broken) tally ∙ (before.3 ∙ sym q.found));
    }

goes_before : (all : List (List ℕ)) (lines : List AuditLine) (bytes : List ℕ) (h g : Hearing) (reader next : AuditReader) (told : AuditLine) → ReadsAll nothing_read all lines reader → h.tally.records ≡ length (filter is_record lines) → Before h reader → h.audit ≡ None →
    Takes reader bytes told next → GoesOn told next h g → Hears (all ++ bytes ∷ []) (lines ++ told ∷ []) g
goes_before all lines bytes h g reader next line.Passed reads counted before none takes goes = stays_before all lines bytes h g reader next line.Passed reads counted before none takes refl (ap (λ (r : AuditReader). r.traced) takes.2 ∙ before.1) goes.0 goes.1 goes.2
goes_before all lines bytes h g reader next line.Header reads counted before none takes goes = stays_before all lines bytes h g reader next line.Header reads counted before none takes refl (ap (λ (r : AuditReader). r.traced) takes.1.2) goes.0 goes.1 goes.2
goes_before all lines bytes h g reader next line.Trace reads counted before none takes goes = begins all lines bytes h g reader next reads counted before takes goes.0 goes.1
goes_before all lines bytes h g reader next (line.Record n r) reads counted before none takes goes = absurd (false≢true (sym before.1 ∙ takes.0))

before_of : (all : List (List ℕ)) (lines : List AuditLine) (h : Hearing) → (k : Hears all lines h) → h.audit ≡ None → Before h k.reader
before_of all lines h k none = subst (IsStage h k.reader lines) none k.stage

pub next_before : (all : List (List ℕ)) (lines : List AuditLine) (bytes : List ℕ) (h g : Hearing) → Hears all lines h → h.audit ≡ None → TakesBefore h bytes g → (l : AuditLine) × Hears (all ++ bytes ∷ []) (lines ++ l ∷ []) g
next_before all lines bytes h g k none t =
    let before = before_of all lines h k none in
    (t.told, goes_before all lines bytes h g k.reader t.next t.told k.reads k.counted before none (subst (λ (r : AuditReader). Takes r bytes t.told t.next) before.0 t.takes) t.goes_on)

pub refuses_before : (all : List (List ℕ)) (lines : List AuditLine) (bytes : List ℕ) (h : Hearing) → Hears all lines h → h.audit ≡ None → ((told : AuditLine) (next : AuditReader) → Takes h.input bytes told next → ⊥) → Refuses all lines bytes
refuses_before all lines bytes h k none bad = record {
  reader = k.reader;
  reads = k.reads;
  bad = λ l next takes. bad l next (subst (λ (r : AuditReader). Takes r bytes l next) (sym (before_of all lines h k none).0) takes);
}

-- Records.

abbrev Begun : Hearing → AuditReader → List AuditLine → Auditing → Type 0
Begun h reader lines a = IsStage h reader lines (Some a)

judged_on : (lines : List AuditLine) (number n : ℕ) (r : Record) (h g : Hearing) (reader : AuditReader) (a : Auditing) (o : Option ℕ) → number ≡ 1 + length lines → h.tally.broken ≡ o → Begun h reader lines a → JudgesIn number n r a o g → IsStage g reader (lines ++ line.Record n r ∷ []) g.audit
judged_on lines number n r h g reader a (Some first) placed e stage judged =
    let c : Config = reader.header.config in
    let found : first_broken c (nothing_audited c) 1 lines ≡ Some first = sym stage.3 ∙ e in
    subst (IsStage g reader (lines ++ line.Record n r ∷ [])) (sym judged.0) (
      stage.0,
      stage.1,
      (λ f. absurd (some_or_none (sym judged.1 ∙ f))),
      judged.1 ∙ sym (found_push c (nothing_audited c) 1 lines (line.Record n r) ∙ ap (λ o. or_else o (broken_at (1 + length lines) (heard c (heard_all c lines) (line.Record n r)))) found),
    )
  where
    some_or_none : Some first ≡ None → ⊥
    some_or_none f = cc
judged_on lines number n r h g reader a None placed e stage judged =
    let c : Config = reader.header.config in
    let found : first_broken c (nothing_audited c) 1 lines ≡ None = sym stage.3 ∙ e in
    let knows : audited a.config a.state n r ≡ audited c (heard_all c lines) n r = ap (λ (d : Config). audited d a.state n r) stage.0 ∙ ap (λ (k : Audited). audited c k n r) (stage.2 e) in
    subst (IsStage g reader (lines ++ line.Record n r ∷ [])) (sym judged.0) (
      stage.0,
      stage.1,
      (λ _. knows ∙ sym (fold_push (heard c) lines (nothing_audited c) (line.Record n r))),
      judged.1 ∙ (ap (broken_at number) knows ∙ (ap (λ m. broken_at m (audited c (heard_all c lines) n r)) placed
          ∙ sym (found_push c (nothing_audited c) 1 lines (line.Record n r) ∙ ap (λ o. or_else o (broken_at (1 + length lines) (heard c (heard_all c lines) (line.Record n r)))) found))),
    )

pub next_record : (all : List (List ℕ)) (lines : List AuditLine) (bytes : List ℕ) (number n : ℕ) (r : Record) (h g : Hearing) (a : Auditing) → Hears all lines h → h.audit ≡ Some a → number ≡ length all + 1 → IsLineRead bytes n r → Judges number n r h g →
    (l : AuditLine) × Hears (all ++ bytes ∷ []) (lines ++ l ∷ []) g
next_record all lines bytes number n r h g a k some placed is judges =
    let stage : Begun h k.reader lines a = subst (IsStage h k.reader lines) some k.stage in
    let place : number ≡ 1 + length lines = omega (arith, placed, reads_length nothing_read all lines k.reader k.reads) in (
      line.Record n r,
      record {
        reader = k.reader;
        reads = reads_push nothing_read all lines k.reader bytes (line.Record n r) k.reader k.reads (stage.1, is, refl);
        counted = omega (arith, judges.counted, k.counted, record_push lines n r);
        stage = judged_on lines number n r h g k.reader a h.tally.broken place refl stage (judges.judged a some);
      },
    )

no_record : (reader : AuditReader) (bytes : List ℕ) → reader.traced ≡ true → ((n : ℕ) (r : Record) → IsLine bytes n r → ⊥) → (l : AuditLine) (next : AuditReader) → Takes reader bytes l next → ⊥
no_record reader bytes traced bad line.Passed next takes = false≢true (sym takes.0 ∙ traced)
no_record reader bytes traced bad line.Header next takes = false≢true (sym takes.0 ∙ traced)
no_record reader bytes traced bad line.Trace next takes = false≢true (sym takes.0 ∙ traced)
no_record reader bytes traced bad (line.Record n r) next takes = bad n r takes.1.is

pub refuses_record : (all : List (List ℕ)) (lines : List AuditLine) (bytes : List ℕ) (h : Hearing) (a : Auditing) → Hears all lines h → h.audit ≡ Some a → ((n : ℕ) (r : Record) → IsLine bytes n r → ⊥) → Refuses all lines bytes
refuses_record all lines bytes h a k some bad =
    let stage : Begun h k.reader lines a = subst (IsStage h k.reader lines) some k.stage in
    record { reader = k.reader; reads = k.reads; bad = no_record k.reader bytes stage.1 bad }

-- The answer.

pub answered : (all : List (List ℕ)) (lines : List AuditLine) (h : Hearing) (a : Auditing) → Hears all lines h → h.audit ≡ Some a → IsAnswered all (answer_by h.tally.records h.tally.broken)
answered all lines h a k some =
    let stage : Begun h k.reader lines a = subst (IsStage h k.reader lines) some k.stage in
    record {
      lines = lines;
      input = record { after = k.reader; reads = k.reads; traced = stage.1 };
      is = ap (λ (n : ℕ). answer_by n h.tally.broken) k.counted ∙ ap (answer_by (length (filter is_record lines))) stage.3;
    }

pub unanswered : (all : List (List ℕ)) (lines : List AuditLine) (h : Hearing) → Hears all lines h → h.audit ≡ None → MissesTrace all lines
unanswered all lines h k none = record { reader = k.reader; reads = k.reads; missing = (before_of all lines h k none).1 }

-- Answers of calls.

pub then_ok : {T E P Q : Type 0} (r : Result T E) → OnOk r P → (P → Q) → OnOk r Q
then_ok (Ok x) p f = f p
then_ok (Err y) p f = tt

pub none_by : {X : Type 0} (o : Option X) (r : Bool) → is_some o ≡ not r → r ≡ true → o ≡ None
none_by None r e t = refl
none_by (Some x) r e t = absurd (false≢true (sym (ap not t) ∙ sym e))

pub some_by : {X : Type 0} (o : Option X) (r : Bool) → is_some o ≡ not r → r ≡ false → (x : X) × (o ≡ Some x)
some_by None r e t = absurd (false≢true (e ∙ ap not t))
some_by (Some x) r e t = (x, refl)
