-- Steps of the reader of a schedule.
use Rattle.std.proofs.Common.{◌≡◌, ℕ, Bool, true, false, not, List, [], ◌∷◌, ◌++◌, Result, Ok, Err, refl, sym, ap, ◌∙◌}
use Rattle.std.specs.Prelude.{◌||◌, fold, IfOk}
use Rattle.std.proofs.lemmas.Bool.{and_parts, false≢true}
use Rattle.locus_ids.specs.declared.config.Config.{Config}
use Rattle.schedule_lines.specs.Cluster.{config_of, header_of, is_whole, may_join, no_cluster, with_header, with_line}
use Rattle.schedule_lines.specs.Ranges.{fits_event}
use Rattle.schedule_lines.specs.Schedule.{Reads, has_begun, is_event}
use Rattle.schedule_lines.specs.Spelling.{event_spelling, header_spelling, is_passed}
use Rattle.schedule_lines.specs.declared.header.Header.{Header}
use Rattle.schedule_lines.specs.declared.header.HeaderLine.{HeaderLine}
use Rattle.schedule_lines.specs.declared.header.HeaderLine.TheVariants as header
use Rattle.schedule_lines.specs.declared.line.Line.{Line}
use Rattle.schedule_lines.specs.declared.line.Line.TheVariants as event
use Rattle.schedule_lines.specs.declared.line.ScheduleLine.{ScheduleLine}
use Rattle.schedule_lines.specs.declared.line.ScheduleLine.TheVariants as line
use Rattle.line_text.specs.HeaderReader.{begins_header}
use Rattle.line_text.specs.ReadSoFar.{TakesHeader, reader_after}
use Rattle.line_text.specs.Reading.{DoesHeaderStep, IsLineOf}
use Rattle.line_text.specs.declared.fault.LineFault.{LineFault}
use Rattle.line_text.specs.declared.headers.HeaderStep.{HeaderStep}
use Rattle.line_text.specs.declared.headers.HeaderStep.TheVariants.{Taken, NotHeader}
use Rattle.line_text.specs.declared.schedule_reader.ScheduleReader.{ScheduleReader}
use Rattle.line_text.proofs.CallForms.{and_both}

-- ---- first words

pub header_begins : (h : HeaderLine) → begins_header (header_spelling h) ≡ true
header_begins (header.Sites count) = refl
header_begins (header.Group group sites) = refl
header_begins (header.Mount group name) = refl

pub event_begins : (e : Line) → begins_header (event_spelling e) ≡ false
event_begins (event.Call site process call) = refl
event_begins (event.Deliver packet) = refl
event_begins (event.Lose packet) = refl
event_begins (event.Tick site) = refl
event_begins (event.Down one other) = refl
event_begins (event.Up one other) = refl
event_begins (event.Part site) = refl
event_begins (event.Merge site) = refl
event_begins (event.GiveUp site) = refl
event_begins (event.Stop site) = refl
event_begins (event.ArmStop site calls leave) = refl
event_begins (event.ArmFail site calls) = refl
event_begins (event.Boot site) = refl
event_begins (event.Settle most) = refl
event_begins event.Pending = refl

-- ---- one more line

config_end : (c : Config) (xs : List ScheduleLine) (l : ScheduleLine) → fold with_line c (xs ++ l ∷ []) ≡ with_line (fold with_line c xs) l
config_end c [] l = refl
config_end c (x ∷ xs) l = config_end (with_line c x) xs l

begun_end : (xs : List ScheduleLine) (l : ScheduleLine) → has_begun (xs ++ l ∷ []) ≡ (has_begun xs || is_event l)
begun_end [] l = by_test (is_event l)
  where
    by_test : (b : Bool) → (b || false) ≡ b
    by_test true = refl
    by_test false = refl
begun_end (x ∷ xs) l = by_test (is_event x) (begun_end xs l)
  where
    by_test : (b : Bool) → has_begun (xs ++ l ∷ []) ≡ (has_begun xs || is_event l) → (b || has_begun (xs ++ l ∷ [])) ≡ ((b || has_begun xs) || is_event l)
    by_test true h = refl
    by_test false h = h

same_reader : (h k : Header) (b d : Bool) → h ≡ k → b ≡ d → ◌≡◌ {A = ScheduleReader} (record { header = h; begun = b }) (record { header = k; begun = d })
same_reader h k b d e f = rw (e, f) refl

-- the reader after one more line
pub next_reader : (earlier : List ScheduleLine) (l : ScheduleLine) (h : Header) (b : Bool) →
    h ≡ header_of (with_line (config_of earlier) l) → b ≡ (has_begun earlier || is_event l) → ◌≡◌ {A = ScheduleReader} (record { header = h; begun = b }) (reader_after (earlier ++ l ∷ []))
next_reader earlier l h b e f =
    same_reader h (header_of (config_of (earlier ++ l ∷ []))) b (has_begun (earlier ++ l ∷ [])) (e ∙ ap header_of (sym (config_end no_cluster earlier l))) (f ∙ sym (begun_end earlier l))

or_false : (b : Bool) → (b || false) ≡ b
or_false true = refl
or_false false = refl

-- ---- a header line

pub step_read : (earlier : List ScheduleLine) (bytes : List ℕ) (old : ScheduleReader) (new : Header) (r : Result HeaderStep LineFault) →
    old ≡ reader_after earlier → old.begun ≡ false → IfOk r (DoesHeaderStep old.header bytes new) → IfOk r (TakesHeader earlier bytes (record { header = new; begun = old.begun }))
step_read earlier bytes old new (Ok Taken) e b h =
    let config : old.header.config ≡ config_of earlier = ap (λ (r : ScheduleReader). r.header.config) e in
    let begun : old.begun ≡ has_begun earlier = ap (λ (r : ScheduleReader). r.begun) e in
    let fresh : has_begun earlier ≡ false = sym begun ∙ b in
    let joins : may_join (config_of earlier) h.1 ≡ true = ap (λ c. may_join c h.1) (sym config) ∙ h.2.1 in
    record {
      line = line.Header h.1;
      tells = (h.1, refl);
      reads = (h.2.0, and_both (not (has_begun earlier)) (may_join (config_of earlier) h.1) (ap not fresh) joins);
      next = next_reader earlier (line.Header h.1) new old.begun (h.3 ∙ ap (λ c. header_of (with_header c h.1)) config) (begun ∙ sym (or_false (has_begun earlier)));
    }
step_read earlier bytes old new (Ok NotHeader) e b h = λ l reads. false≢true (sym h.0 ∙ ap begins_header reads.0 ∙ header_begins l)
step_read earlier bytes old new (Err f) e b h = tt

-- ---- an event line

pub event_bad : (earlier : List ScheduleLine) (bytes : List ℕ) (old new : ScheduleReader) (l : ScheduleLine) →
    old ≡ reader_after earlier → new ≡ old → is_passed bytes ≡ false → ((h : HeaderLine) → Reads earlier bytes (line.Header h) → ⊥) →
    ((v : Line) → IsLineOf new.header bytes v → ⊥) → Reads earlier bytes l → ⊥
event_bad earlier bytes old new line.Passed e s p f g reads = false≢true (sym p ∙ reads.0)
event_bad earlier bytes old new (line.Header h) e s p f g reads = f h reads
event_bad earlier bytes old new (line.Event v) e s p f g reads =
    let same : new ≡ reader_after earlier = s ∙ e in
    let head : new.header ≡ header_of (config_of earlier) = ap (λ (r : ScheduleReader). r.header) same in
    let parts = and_parts (is_whole (config_of earlier)) (fits_event (config_of earlier).sites v) reads.1 in
    g v (reads.0, ap (λ (k : Header). k.whole) head ∙ parts.0, ap (λ (k : Header). fits_event k.config.sites v) head ∙ parts.1)
