-- Lines of bytes are one input at most, and have one first bad line at most.
use Rattle.std.proofs.Common.{◌≡◌, ℕ, suc, true, false, List, [], ◌∷◌, ◌++◌, codes, length, take, refl, sym, ap, subst, ◌∙◌}
use Rattle.std.specs.Prelude.{fold}
use Rattle.std.specs.Str.{bytes_eq}
use Rattle.std.proofs.lemmas.Bool.{false≢true}
use Rattle.locus_ids.specs.declared.config.Config.{Config}
use Rattle.schedule_lines.specs.Cluster.{config_of, header_of, no_cluster, with_header, with_line}
use Rattle.schedule_lines.specs.Schedule.{Reads, has_begun}
use Rattle.schedule_lines.specs.Spelling.{header_spelling, is_passed}
use Rattle.schedule_lines.specs.declared.header.HeaderLine.{HeaderLine}
use Rattle.schedule_lines.specs.declared.header.HeaderLine.TheVariants as header
use Rattle.schedule_lines.specs.declared.line.ScheduleLine.{ScheduleLine}
use Rattle.schedule_lines.specs.declared.line.ScheduleLine.TheVariants as schedule
use Rattle.trace_book.specs.declared.record.Record.{Record}
use Rattle.line_text.specs.Reading.{IsHeaderLineOf}
use Rattle.line_text.proofs.OneReading.{one_line}
use Rattle.record_reading.specs.Reading.{IsLineRead}
use Rattle.audit_input.specs.Input.{IsBadNext, ReadsAll, Takes, nothing_read}
use Rattle.audit_input.specs.declared.audit_reader.AuditLine.{AuditLine}
use Rattle.audit_input.specs.declared.audit_reader.AuditLine.TheVariants as line
use Rattle.audit_input.specs.declared.audit_reader.AuditReader.{AuditReader}

-- Header lines, and the cluster that they make.

fold_last : {X Y : Type 0} (f : Y → X → Y) (xs : List X) (y : Y) (x : X) → fold f y (xs ++ x ∷ []) ≡ f (fold f y xs) x
fold_last f [] y x = refl
fold_last f (z ∷ xs) y x = fold_last f xs (f y z) x

none_begins : (lines : List ScheduleLine) (h : HeaderLine) → has_begun lines ≡ false → has_begun (lines ++ schedule.Header h ∷ []) ≡ false
none_begins [] h e = refl
none_begins (schedule.Passed ∷ lines) h e = none_begins lines h e
none_begins (schedule.Header k ∷ lines) h e = none_begins lines h e
none_begins (schedule.Event k ∷ lines) h e = absurd (false≢true (sym e))

-- the header that was read is that of these lines, which are no events
pub record Heads (earlier : List ScheduleLine) (r : AuditReader) : Type 0 where
  pub header : r.header ≡ header_of (config_of earlier)
  pub quiet : has_begun earlier ≡ false

pub heads_none : Heads [] nothing_read
heads_none = record { header = refl; quiet = refl }

heads_config : (earlier : List ScheduleLine) (r : AuditReader) → Heads earlier r → r.header.config ≡ config_of earlier
heads_config earlier r heads = ap (λ h. h.config) heads.header

pub heads_more : (earlier : List ScheduleLine) (r : AuditReader) (h : HeaderLine) (next : AuditReader) → Heads earlier r → next.header ≡ header_of (with_header r.header.config h) → Heads (earlier ++ schedule.Header h ∷ []) next
heads_more earlier r h next heads e = record {
  header = e ∙ (ap (λ (c : Config). header_of (with_header c h)) (heads_config earlier r heads) ∙ ap header_of (sym (fold_last with_line earlier no_cluster (schedule.Header h))));
  quiet = none_begins earlier h heads.quiet;
}

reads_header : (earlier : List ScheduleLine) (r : AuditReader) (bytes : List ℕ) (h : HeaderLine) → Heads earlier r → IsHeaderLineOf r.header bytes h → Reads earlier bytes (schedule.Header h)
reads_header earlier r bytes h heads is = (is.0, rw heads.quiet (rw (sym (heads_config earlier r heads)) is.1))

one_header : (a b : HeaderLine) → schedule.Header a ≡ schedule.Header b → a ≡ b
one_header a b e = cc

same_header : (earlier : List ScheduleLine) (r : AuditReader) (bytes : List ℕ) (h k : HeaderLine) → Heads earlier r → IsHeaderLineOf r.header bytes h → IsHeaderLineOf r.header bytes k → h ≡ k
same_header earlier r bytes h k heads p q = one_header h k (one_line earlier bytes (schedule.Header h) (schedule.Header k) (reads_header earlier r bytes h heads p) (reads_header earlier r bytes k heads q))

-- No two kinds of lines have the same bytes.

header_counts : (h : HeaderLine) → is_passed (header_spelling h) ≡ false
header_counts (header.Sites count) = refl
header_counts (header.Group group sites) = refl
header_counts (header.Mount group name) = refl

header_is_no_trace : (h : HeaderLine) → bytes_eq (take 1 (header_spelling h)) (codes "t") ≡ false
header_is_no_trace (header.Sites count) = refl
header_is_no_trace (header.Group group sites) = refl
header_is_no_trace (header.Mount group name) = refl

not_passed : {A : Type 0} (bytes : List ℕ) (h : HeaderLine) → bytes ≡ header_spelling h → is_passed bytes ≡ true → A
not_passed bytes h e p = absurd (false≢true (sym (header_counts h) ∙ (ap is_passed (sym e) ∙ p)))

not_trace : {A : Type 0} (bytes : List ℕ) (h : HeaderLine) → bytes ≡ header_spelling h → bytes ≡ codes "trace" → A
not_trace bytes h e p = absurd (false≢true (sym (header_is_no_trace h) ∙ ap (λ bs. bytes_eq (take 1 bs) (codes "t")) (sym e ∙ p)))

trace_counts : {A : Type 0} (bytes : List ℕ) → bytes ≡ codes "trace" → is_passed bytes ≡ true → A
trace_counts bytes e p = absurd (false≢true (sym (ap is_passed e) ∙ p))

apart : {A : Type 0} (r : AuditReader) → r.traced ≡ false → r.traced ≡ true → A
apart r e f = absurd (false≢true (sym e ∙ f))

-- the same line was read
abbrev pub IsOne : AuditLine → AuditLine → AuditReader → AuditReader → Type 0
IsOne l m a b = (l ≡ m) × (a ≡ b)

same_record : (bytes : List ℕ) (m n : ℕ) (r s : Record) → IsLineRead bytes m r → IsLineRead bytes n s → line.Record m r ≡ line.Record n s
same_record bytes m n r s p q = ap (λ (k : ℕ). line.Record k r) (sym (p.stands n s q.is).0) ∙ ap (λ (x : Record). line.Record n x) (sym (p.stands n s q.is).1 ∙ (q.stands n s q.is).1)

one_taken : (earlier : List ScheduleLine) (before : AuditReader) (bytes : List ℕ) (l m : AuditLine) (a b : AuditReader) → Heads earlier before → Takes before bytes l a → Takes before bytes m b → IsOne l m a b
one_taken earlier before bytes line.Passed line.Passed a b heads p q = (refl, p.2 ∙ sym q.2)
one_taken earlier before bytes line.Passed line.Header a b heads p q = not_passed bytes q.1.0 q.1.1.0 p.1
one_taken earlier before bytes line.Passed line.Trace a b heads p q = trace_counts bytes q.1 p.1
one_taken earlier before bytes line.Passed (line.Record n r) a b heads p q = apart before p.0 q.0
one_taken earlier before bytes line.Header line.Passed a b heads p q = not_passed bytes p.1.0 p.1.1.0 q.1
one_taken earlier before bytes line.Header line.Header a b heads p q = (
  refl,
  p.1.2 ∙ (ap (λ (h : HeaderLine). record { header = header_of (with_header before.header.config h); traced = false }) (same_header earlier before bytes p.1.0 q.1.0 heads p.1.1 q.1.1) ∙ sym q.1.2),
)
one_taken earlier before bytes line.Header line.Trace a b heads p q = not_trace bytes p.1.0 p.1.1.0 q.1
one_taken earlier before bytes line.Header (line.Record n r) a b heads p q = apart before p.0 q.0
one_taken earlier before bytes line.Trace line.Passed a b heads p q = trace_counts bytes p.1 q.1
one_taken earlier before bytes line.Trace line.Header a b heads p q = not_trace bytes q.1.0 q.1.1.0 p.1
one_taken earlier before bytes line.Trace line.Trace a b heads p q = (refl, p.3 ∙ sym q.3)
one_taken earlier before bytes line.Trace (line.Record n r) a b heads p q = apart before p.0 q.0
one_taken earlier before bytes (line.Record n r) line.Passed a b heads p q = apart before q.0 p.0
one_taken earlier before bytes (line.Record n r) line.Header a b heads p q = apart before q.0 p.0
one_taken earlier before bytes (line.Record n r) line.Trace a b heads p q = apart before q.0 p.0
one_taken earlier before bytes (line.Record m r) (line.Record n s) a b heads p q = (same_record bytes m n r s p.1 q.1, p.2 ∙ sym q.2)

-- the lines of the header with one line more
pub heads_next : (earlier : List ScheduleLine) (before : AuditReader) (bytes : List ℕ) (l : AuditLine) (next : AuditReader) → Heads earlier before → Takes before bytes l next → (more : List ScheduleLine) × Heads more next
heads_next earlier before bytes line.Passed next heads p = (earlier, subst (Heads earlier) (sym p.2) heads)
heads_next earlier before bytes line.Header next heads p = (earlier ++ schedule.Header p.1.0 ∷ [], heads_more earlier before p.1.0 next heads (ap (λ (r : AuditReader). r.header) p.1.2))
heads_next earlier before bytes line.Trace next heads p = (earlier, subst (Heads earlier) (sym p.3) (record { header = heads.header; quiet = heads.quiet }))
heads_next earlier before bytes (line.Record n r) next heads p = (earlier, subst (Heads earlier) (sym p.2) heads)

-- All lines.

pub record IsOneReading (ls ms : List AuditLine) (a b : AuditReader) : Type 0 where
  pub lines : ls ≡ ms
  pub after : a ≡ b

pub all_once : (bytes : List (List ℕ)) (earlier : List ScheduleLine) (before : AuditReader) (ls ms : List AuditLine) (a b : AuditReader) → Heads earlier before → ReadsAll before bytes ls a → ReadsAll before bytes ms b → IsOneReading ls ms a b
all_once [] earlier before [] [] a b heads p q = record { lines = refl; after = p ∙ sym q }
all_once [] earlier before [] (m ∷ ms) a b heads p q = absurd q
all_once [] earlier before (l ∷ ls) ms a b heads p q = absurd p
all_once (x ∷ xs) earlier before [] ms a b heads p q = absurd p
all_once (x ∷ xs) earlier before (l ∷ ls) [] a b heads p q = absurd q
all_once (x ∷ xs) earlier before (l ∷ ls) (m ∷ ms) a b heads p q =
    let one = one_taken earlier before x l m p.0 q.0 heads p.1 q.1 in
    let more = heads_next earlier before x l p.0 heads p.1 in
    let rest = all_once xs more.0 p.0 ls ms a b more.1 p.2 (subst (λ (r : AuditReader). ReadsAll r xs ms b) (sym one.1) q.2) in
    record { lines = ap (λ (y : AuditLine). y ∷ ls) one.0 ∙ ap (λ (ys : List AuditLine). m ∷ ys) rest.lines; after = rest.after }

-- Bad lines.

-- nothing goes on at a bad line
none_next : (before : AuditReader) (rest : List (List ℕ)) (lines : List AuditLine) (after : AuditReader) → IsBadNext before rest → ReadsAll before rest lines after → after.traced ≡ true → ⊥
none_next before [] [] after bad reads traced = apart before bad (ap (λ (r : AuditReader). r.traced) (sym reads) ∙ traced)
none_next before [] (l ∷ ls) after bad reads traced = reads
none_next before (x ∷ xs) [] after bad reads traced = reads
none_next before (x ∷ xs) (l ∷ ls) after bad reads traced = bad l reads.0 reads.1

pub good_or_bad : (good : List (List ℕ)) (rest : List (List ℕ)) (earlier : List ScheduleLine) (before : AuditReader) (ls lines : List AuditLine) (a after : AuditReader) → Heads earlier before →
    ReadsAll before good ls a → IsBadNext a rest → ReadsAll before (good ++ rest) lines after → after.traced ≡ true → ⊥
good_or_bad [] rest earlier before [] lines a after heads p bad q traced = none_next before rest lines after (subst (λ (r : AuditReader). IsBadNext r rest) p bad) q traced
good_or_bad [] rest earlier before (l ∷ ls) lines a after heads p bad q traced = p
good_or_bad (x ∷ xs) rest earlier before [] lines a after heads p bad q traced = p
good_or_bad (x ∷ xs) rest earlier before (l ∷ ls) [] a after heads p bad q traced = q
good_or_bad (x ∷ xs) rest earlier before (l ∷ ls) (m ∷ ms) a after heads p bad q traced =
    let one = one_taken earlier before x l m p.0 q.0 heads p.1 q.1 in
    let more = heads_next earlier before x l p.0 heads p.1 in
    good_or_bad xs rest more.0 p.0 ls ms a after more.1 p.2 bad (subst (λ (r : AuditReader). ReadsAll r (xs ++ rest) ms after) (sym one.1) q.2) traced

tail_same : (x y : List ℕ) (xs ys : List (List ℕ)) → x ∷ xs ≡ y ∷ ys → (x ≡ y) × (xs ≡ ys)
tail_same x y xs ys e = (cc, cc)

-- what goes on isn't bad
goes_on : (before a : AuditReader) (x : List ℕ) (xs rest : List (List ℕ)) (ls : List AuditLine) → rest ≡ x ∷ xs → IsBadNext before rest → (l : AuditLine) (next : AuditReader) → Takes before x l next → ⊥
goes_on before a x xs rest ls e bad l next takes = (subst (λ (bs : List (List ℕ)). IsBadNext before bs) e bad) l next takes

pub one_bad : (g h : List (List ℕ)) (r s : List (List ℕ)) (earlier : List ScheduleLine) (before : AuditReader) (ls ms : List AuditLine) (a b : AuditReader) → Heads earlier before → g ++ r ≡ h ++ s →
    ReadsAll before g ls a → ReadsAll before h ms b → IsBadNext a r → IsBadNext b s → length g ≡ length h
one_bad [] [] r s earlier before ls ms a b heads e p q x y = refl
one_bad [] (k ∷ ks) r s earlier before [] [] a b heads e p q x y = absurd q
one_bad [] (k ∷ ks) r s earlier before [] (m ∷ ms) a b heads e p q x y = absurd (goes_on before a k (ks ++ s) r [] e (subst (λ (z : AuditReader). IsBadNext z r) p x) m q.0 q.1)
one_bad [] (k ∷ ks) r s earlier before (l ∷ ls) ms a b heads e p q x y = absurd p
one_bad (k ∷ ks) [] r s earlier before [] ms a b heads e p q x y = absurd p
one_bad (k ∷ ks) [] r s earlier before (l ∷ ls) [] a b heads e p q x y = absurd (goes_on before b k (ks ++ r) s [] (sym e) (subst (λ (z : AuditReader). IsBadNext z s) q y) l p.0 p.1)
one_bad (k ∷ ks) [] r s earlier before (l ∷ ls) (m ∷ ms) a b heads e p q x y = absurd q
one_bad (k ∷ ks) (j ∷ js) r s earlier before [] ms a b heads e p q x y = absurd p
one_bad (k ∷ ks) (j ∷ js) r s earlier before (l ∷ ls) [] a b heads e p q x y = absurd q
one_bad (k ∷ ks) (j ∷ js) r s earlier before (l ∷ ls) (m ∷ ms) a b heads e p q x y =
    let parts = tail_same k j (ks ++ r) (js ++ s) e in
    let q_takes = subst (λ (z : List ℕ). Takes before z m q.0) (sym parts.0) q.1 in
    let one = one_taken earlier before k l m p.0 q.0 heads p.1 q_takes in
    let more = heads_next earlier before k l p.0 heads p.1 in
    ap (λ (n : ℕ). suc n) (one_bad ks js r s more.0 p.0 ls ms a b more.1 parts.1 p.2 (subst (λ (z : AuditReader). ReadsAll z js ms b) (sym one.1) q.2) x y)
