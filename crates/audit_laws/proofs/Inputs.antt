-- The input that a trace makes is read as its records, and answered yes where an audit of these is sound.
use Rattle.std.proofs.Common.{◌≡◌, ℕ, suc, ◌+◌, ◌<◌, ◌≤◌, ◌^◌, true, false, ◌&&◌, cond, not, List, [], ◌∷◌, ◌++◌, codes, length, filter, Option, Some, None, refl, sym, ap, subst, ◌∙◌, arith, append_assoc}
use Rattle.std.specs.Prelude.{fold, map}
use Rattle.std.specs.Fmt.{decimal}
use Rattle.std.proofs.lemmas.List.{append-nil}
use Rattle.std.proofs.lemmas.Option.{same_Some}
use Rattle.locus_ids.specs.declared.config.Config.{Config}
use Rattle.trace_book.specs.Text.{gap, record_text}
use Rattle.trace_book.specs.declared.entry.Entry.{Entry}
use Rattle.trace_book.specs.declared.record.Record.{Record}
use Rattle.schedule_lines.specs.Cluster.{config_of, header_of, is_whole, may_join, no_cluster, with_header, with_line}
use Rattle.schedule_lines.specs.Schedule.{AreInOrder, MayFollow, has_begun}
use Rattle.schedule_lines.specs.declared.line.ScheduleLine.{ScheduleLine}
use Rattle.schedule_lines.specs.declared.line.ScheduleLine.TheVariants as schedule
use Rattle.line_text.specs.Words.{split_at}
use Rattle.line_text.proofs.Splits.{split_found}
use Rattle.line_text.proofs.NumberTexts.{between_parts, decimal_lacks, same_number}
use Rattle.record_reading.specs.AsRead.{as_read}
use Rattle.record_reading.specs.Ranges.{is_counted, is_record, number_max}
use Rattle.record_reading.specs.Reading.{IsLineRead}
use Rattle.audit_input.specs.Input.{ReadsAll, nothing_read}
use Rattle.audit_input.specs.declared.audit_reader.AuditLine.{AuditLine}
use Rattle.audit_input.specs.declared.audit_reader.AuditLine.TheVariants as line
use Rattle.audit_input.specs.declared.audit_reader.AuditReader.{AuditReader}
use Rattle.past_laws.proofs.Names.{both_parts}
use Rattle.audit_rules.specs.Consistent.{Audited, Sound, Broken, audited, nothing_audited}
use Rattle.audit_answers.specs.Answers.{IsAnswered, answer_by, first_broken, heard, is_broken, is_record as is_record_line}
use Rattle.audit_answers.specs.declared.answer.Answer.TheVariants as answer
use Rattle.audit_laws.specs.Inputs.{are_texts, entry_line, header_texts, input_of}
use Rattle.audit_laws.specs.Reading.{audited_all, entry_as_read}
use Rattle.audit_laws.proofs.Known.{fold_last}

-- The header.

-- a reader before the trace
abbrev reader_of : Config → AuditReader
reader_of c = record { header = header_of c; traced = false }

abbrev header_lines : List ScheduleLine → List AuditLine
header_lines [] = []
header_lines (schedule.Header h ∷ lines) = line.Header ∷ header_lines lines
header_lines (schedule.Passed ∷ lines) = header_lines lines
header_lines (schedule.Event e ∷ lines) = header_lines lines

reads_headers : (earlier lines : List ScheduleLine) → MayFollow earlier lines → ReadsAll (reader_of (config_of earlier)) (header_texts lines) (header_lines lines) (reader_of (config_of (earlier ++ lines)))
reads_headers earlier [] may = ap (λ (ls : List ScheduleLine). reader_of (config_of ls)) (append-nil earlier)
reads_headers earlier (schedule.Header h ∷ lines) may =
    let more : config_of (earlier ++ schedule.Header h ∷ []) ≡ with_header (config_of earlier) h = fold_last with_line earlier no_cluster (schedule.Header h) in
    let joins = (both_parts (not (has_begun earlier)) (may_join (config_of earlier) h) may.0).1 in
    let all = append_assoc earlier (schedule.Header h ∷ []) lines in (
      reader_of (with_header (config_of earlier) h),
      (refl, (h, (refl, joins), refl)),
      subst (λ (c : Config). ReadsAll (reader_of c) (header_texts lines) (header_lines lines) (reader_of (config_of (earlier ++ schedule.Header h ∷ lines)))) more
          (subst (λ (ls : List ScheduleLine). ReadsAll (reader_of (config_of (earlier ++ schedule.Header h ∷ []))) (header_texts lines) (header_lines lines) (reader_of (config_of ls))) all (reads_headers (earlier ++ schedule.Header h ∷ []) lines may.1)),
    )
reads_headers earlier (schedule.Passed ∷ lines) may =
    let more : config_of (earlier ++ schedule.Passed ∷ []) ≡ config_of earlier = fold_last with_line earlier no_cluster schedule.Passed in
    let all = append_assoc earlier (schedule.Passed ∷ []) lines in
    subst (λ (c : Config). ReadsAll (reader_of c) (header_texts lines) (header_lines lines) (reader_of (config_of (earlier ++ schedule.Passed ∷ lines)))) more
    (subst (λ (ls : List ScheduleLine). ReadsAll (reader_of (config_of (earlier ++ schedule.Passed ∷ []))) (header_texts lines) (header_lines lines) (reader_of (config_of ls))) all (reads_headers (earlier ++ schedule.Passed ∷ []) lines may.1))
reads_headers earlier (schedule.Event e ∷ lines) may =
    let more : config_of (earlier ++ schedule.Event e ∷ []) ≡ config_of earlier = fold_last with_line earlier no_cluster (schedule.Event e) in
    let all = append_assoc earlier (schedule.Event e ∷ []) lines in
    subst (λ (c : Config). ReadsAll (reader_of c) (header_texts lines) (header_lines lines) (reader_of (config_of (earlier ++ schedule.Event e ∷ lines)))) more
    (subst (λ (ls : List ScheduleLine). ReadsAll (reader_of (config_of (earlier ++ schedule.Event e ∷ []))) (header_texts lines) (header_lines lines) (reader_of (config_of ls))) all (reads_headers (earlier ++ schedule.Event e ∷ []) lines may.1))

reads_join : (before : AuditReader) (bs : List (List ℕ)) (ls : List AuditLine) (mid : AuditReader) (cs : List (List ℕ)) (ms : List AuditLine) (after : AuditReader) → ReadsAll before bs ls mid → ReadsAll mid cs ms after → ReadsAll before (bs ++ cs) (ls ++ ms) after
reads_join before [] [] mid cs ms after h k = subst (λ (r : AuditReader). ReadsAll r cs ms after) h k
reads_join before [] (l ∷ ls) mid cs ms after h k = absurd h
reads_join before (b ∷ bs) [] mid cs ms after h k = absurd h
reads_join before (b ∷ bs) (l ∷ ls) mid cs ms after h k = (h.0, h.1, reads_join h.0 bs ls mid cs ms after h.2 k)

-- Records.

-- what is known of texts: the record that stands for a text has it, and all records of one text have one that stands for them
pub record TextsTell : Type 0 where
  pub text : (r : Record) → is_record r ≡ true → record_text (as_read r) ≡ record_text r
  pub formed : (r : Record) → is_record r ≡ true → is_record (as_read r) ≡ true
  pub one : (r s : Record) → is_record r ≡ true → is_record s ≡ true → record_text r ≡ record_text s → as_read r ≡ as_read s

low : (n : ℕ) → is_counted n ≡ true → n < 2 ^ 32
low n h = (let parts = between_parts 1 number_max n h in below n parts.1)
  where
    below : (m : ℕ) → m ≤ 4294967295 → m < 2 ^ 32
    below m k = omega (arith, k)

pair_same : (a c b d : List ℕ) → ◌≡◌ {A = Option (List ℕ × List ℕ)} (Some (a, b)) (Some (c, d)) → (a ≡ c) × (b ≡ d)
pair_same a c b d e =
    let x : List ℕ × List ℕ = (a, b) in
    let y : List ℕ × List ℕ = (c, d) in
    let same : x ≡ y = same_Some x y e in
    (ap (λ (q : List ℕ × List ℕ). q.0) same, ap (λ (q : List ℕ × List ℕ). q.1) same)

-- the number and the record's text are told apart
one_split : (m n : ℕ) (a b : List ℕ) → is_counted m ≡ true → is_counted n ≡ true → decimal m ++ gap ++ a ≡ decimal n ++ gap ++ b → (m ≡ n) × (a ≡ b)
one_split m n a b p q e =
    let f : decimal m ++ (gap ++ a) ≡ decimal n ++ (gap ++ b) = sym (append_assoc (decimal m) gap a) ∙ (e ∙ append_assoc (decimal n) gap b) in
    let halves = pair_same (decimal m) (decimal n) a b (sym (split_found 32 (decimal m) a (decimal_lacks 32 m (omega arith) (low m p))) ∙ (ap (split_at 32) f ∙ split_found 32 (decimal n) b (decimal_lacks 32 n (omega arith) (low n q)))) in
    (same_number m n (low m p) (low n q) halves.0, halves.1)

line_read : TextsTell → (n : ℕ) (w : Record) → is_counted n ≡ true → is_record w ≡ true → IsLineRead (decimal n ++ gap ++ record_text w) n (as_read w)
line_read tell n w counted formed = record {
  is = record { text = ap (λ (t : List ℕ). decimal n ++ gap ++ t) (sym (tell.text w formed)); counted = counted; formed = tell.formed w formed };
  stands = λ m s is. (let halves = one_split n m (record_text w) (record_text s) counted is.counted is.text in (sym halves.0, tell.one s w is.formed formed (sym halves.1)));
}

abbrev line_of : Entry → AuditLine
line_of e = line.Record e.line (as_read e.what)

reads_records : TextsTell → (r : AuditReader) → r.traced ≡ true → (trace : List Entry) → are_texts trace ≡ true → ReadsAll r (map entry_line trace) (map line_of trace) r
reads_records tell r traced [] texts = refl
reads_records tell r traced (e ∷ trace) texts =
    let parts = both_parts (is_counted e.line && is_record e.what) (are_texts trace) texts in
    let own = both_parts (is_counted e.line) (is_record e.what) parts.0 in
    (r, (traced, line_read tell e.line e.what own.0 own.1, refl), reads_records tell r traced trace parts.1)

-- The answer.

broken_stays : (c : Config) (lines : List AuditLine) → fold (heard c) Broken lines ≡ Broken
broken_stays c [] = refl
broken_stays c (line.Passed ∷ lines) = broken_stays c lines
broken_stays c (line.Header ∷ lines) = broken_stays c lines
broken_stays c (line.Trace ∷ lines) = broken_stays c lines
broken_stays c (line.Record n r ∷ lines) = broken_stays c lines

sound_next : (c : Config) (known : Audited) (n : ℕ) (lines : List AuditLine) (after : Audited) → is_broken after ≡ false → fold (heard c) known lines ≡ after → first_broken c known (n + 1) lines ≡ None → cond (is_broken known) (Some n) (first_broken c known (n + 1) lines) ≡ None
sound_next c Broken n lines after sound e h = absurd (apart (sym (ap is_broken (sym (broken_stays c lines) ∙ e)) ∙ refl))
  where
    apart : is_broken after ≡ true → ⊥
    apart f = let g : false ≡ true = sym sound ∙ f in cc
sound_next c (Sound last p) n lines after sound e h = h

sound_none : (c : Config) (known : Audited) (n : ℕ) (lines : List AuditLine) (after : Audited) → is_broken after ≡ false → fold (heard c) known lines ≡ after → first_broken c known n lines ≡ None
sound_none c known n [] after sound e = refl
sound_none c known n (l ∷ lines) after sound e = sound_next c (heard c known l) n lines after sound e (sound_none c (heard c known l) (n + 1) lines after sound e)

heard_headers : (c : Config) (known : Audited) (lines : List ScheduleLine) (more : List AuditLine) → fold (heard c) known (header_lines lines ++ more) ≡ fold (heard c) known more
heard_headers c known [] more = refl
heard_headers c known (schedule.Header h ∷ lines) more = heard_headers c known lines more
heard_headers c known (schedule.Passed ∷ lines) more = heard_headers c known lines more
heard_headers c known (schedule.Event e ∷ lines) more = heard_headers c known lines more

heard_records : (c : Config) (known : Audited) (trace : List Entry) → fold (heard c) known (map line_of trace) ≡ fold (λ k (e : Entry). audited c k e.line e.what) known (map entry_as_read trace)
heard_records c known [] = refl
heard_records c known (e ∷ trace) = heard_records c (audited c known e.line (as_read e.what)) trace

count_headers : (lines : List ScheduleLine) (more : List AuditLine) → length (filter is_record_line (header_lines lines ++ more)) ≡ length (filter is_record_line more)
count_headers [] more = refl
count_headers (schedule.Header h ∷ lines) more = count_headers lines more
count_headers (schedule.Passed ∷ lines) more = count_headers lines more
count_headers (schedule.Event e ∷ lines) more = count_headers lines more

count_records : (trace : List Entry) → length (filter is_record_line (map line_of trace)) ≡ length trace
count_records [] = refl
count_records (e ∷ trace) = ap suc (count_records trace)

pub answered_yes : TextsTell → (lines : List ScheduleLine) (trace : List Entry) → AreInOrder lines → is_whole (config_of lines) ≡ true → are_texts trace ≡ true → is_broken (audited_all (config_of lines) (map entry_as_read trace)) ≡ false → IsAnswered (input_of lines trace) (answer.Yes (length trace))
answered_yes tell lines trace order whole texts sound =
    let c : Config = config_of lines in
    let after : AuditReader = record { header = header_of c; traced = true } in
    let told : List AuditLine = line.Trace ∷ map line_of trace in
    let begins = reads_records tell after refl trace texts in
    let known = heard_headers c (nothing_audited c) lines told ∙ heard_records c (nothing_audited c) trace in
    record {
      lines = header_lines lines ++ told;
      input = record {
        after = after;
        reads = reads_join nothing_read (header_texts lines) (header_lines lines) (reader_of c) (codes "trace" ∷ map entry_line trace) told after (reads_headers [] lines order) (after, (refl, refl, whole, refl), begins);
        traced = refl;
      };
      is = sym (ap (λ (n : ℕ). answer_by n (first_broken c (nothing_audited c) 1 (header_lines lines ++ told))) (count_headers lines told ∙ count_records trace)
          ∙ ap (answer_by (length trace)) (sound_none c (nothing_audited c) 1 (header_lines lines ++ told) (audited_all c (map entry_as_read trace)) sound known));
    }
