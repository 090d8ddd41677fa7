use Rattle.std.proofs.Common.{Bool, true, false, cond, ◌≡◌, ◌+◌, ◌≤◌, List, [], ℕ, None, Ok, Err, ap, sym, ◌∙◌, subst, arith, refl, length}
use Rattle.std.proofs.lemmas.Bool.{false≢true}
use Rattle.std.specs.Io.KnownBytes.{Keeps, IsAtEnd}
use Rattle.line_reader.specs.Reading.{to_read, ReadsLine, EndsInFeed}
use Rattle.line_reader.specs.Readers.{Reader, IfTold, nothing_of, still_read}
use Rattle.input_run.specs.Codes.{limited}
use Rattle.input_run.specs.Inputs.{opening_of}
use Rattle.input_run.specs.declared.status.Status.TheVariants as status
use Rattle.input_run.specs.declared.status.Limited.TheVariants as what
use Rattle.input_run.proofs.Complete.{keeps_promises}
use Rattle.line_reader.proofs.ReadLines.{end_by, since_then}
use Rattle.input_run.proofs.Runs.{SoFar, Turns, SoFar-start, SoFar-next, Ends-whole, Ends-short, Ends-bad, Ends-long, Ends-many, Ends-fault, Ends-front, Ends-limit, Ends-cut, Opens-front, Opens-limit}
use Rattle.input_run.proofs.Turns.{ends_not, telling_not, reads_end, reads_not, no_read_limit, rose_since}
use Rattle.input_run.proofs.input.run_lines.Goals as goal

-- ---- the opening ----

pub returns-in-Err-clause-promises : goal.returns-in-Err-clause-promises
returns-in-Err-clause-promises g c = keeps_promises g.R.LineRunner.input _ _ _ _ _ (record {
  words = λ e. telling_not _ status.BadWords c.in-Err.ensures.only refl e;
  whole = λ e. absurd (telling_not _ status.Ok c.in-Err.ensures.only refl e);
  bad_line = λ line e. absurd (telling_not _ (status.BadLine line) c.in-Err.ensures.only refl e);
  cut_off = λ e. absurd (telling_not _ status.ReadFault c.in-Err.ensures.only refl e);
  long_line = λ e. absurd (telling_not _ (status.Limit what.Line) c.in-Err.ensures.only refl e);
  many_lines = λ e. absurd (telling_not _ (status.Limit what.Lines) c.in-Err.ensures.only refl e);
  limit = λ l e. Opens-limit g.R.LineRunner.stands _ _ l _ _ _ (c.in-Err.ensures.limit [] (opening_of g.R.LineRunner.input) [] l c.requires.opened (ap Err e));
  front = Opens-front _ _ _ _ (c.in-Err.ensures.err [] (opening_of g.R.LineRunner.input) [] c.requires.opened);
})

pub returns-in-Err-clause-words : goal.returns-in-Err-clause-words
returns-in-Err-clause-words g c = λ e. telling_not _ status.BadWords c.in-Err.ensures.only refl e

pub returns-in-Err-clause-held : goal.returns-in-Err-clause-held
returns-in-Err-clause-held g c = c.in-Err.ensures.held

pub returns-in-Err-clause-read_fault : goal.returns-in-Err-clause-read_fault
returns-in-Err-clause-read_fault g c = λ e. absurd (telling_not _ status.ReadFault c.in-Err.ensures.only refl e)

pub returns-in-Err-clause-write_fault : goal.returns-in-Err-clause-write_fault
returns-in-Err-clause-write_fault g c = λ e. c.in-Err.ensures.failed (ap Err e)

pub loop-runner-init : goal.loop-runner-init
loop-runner-init g c = record {
  limit = ap (λ r. r.limit) c.requires.unread;
  few = omega (arith, ap (λ r. r.number) c.requires.unread);
  source = omega arith;
  sink = c.tell.ensures.later;
  flushed = c.in-Ok.ensures.flushed;
  at_end = λ e. absurd (false≢true (sym (ap (λ r. r.ended) c.requires.unread) ∙ e));
  so_far =
      let P : Reader → Type 0 = λ r. SoFar g.R.LineRunner.stands g.R.LineRunner.input c.tell.new.runner r.number r.ended (g.S.Source.left c.args.source.now) (still_read r (g.S.Source.left c.args.source.now)) (g.K.Sink.taken c.args.sink.now) (g.K.Sink.taken c.tell.new.sink) in
      subst P (sym c.requires.unread) (SoFar-start _ _ _ _ _ _ 0 refl (c.in-Ok.ensures.ok [] (opening_of g.R.LineRunner.input) [] c.requires.opened));
}

-- ---- the end of the input ----

pub returns-then-may_end_here-clause-promises : goal.returns-then-may_end_here-clause-promises
returns-then-may_end_here-clause-promises g c =
    let stays = c.in-Ok-false.ensures.stays (ap Ok c.in-Ok-false.field-0-test) in
    keeps_promises g.R.LineRunner.input _ _ _ _ _ (record {
      words = λ e. cc;
      whole = λ _. Ends-whole _ _ _ _ _ _ _ _ _ _ _ _ c.loop-runner.invariant.so_far (c.in-Ok-false.ensures.end (ap Ok c.in-Ok-false.field-0-test)) stays.bytes
          (end_by c.next_line.new.reader.ended _ (λ e. since_then (λ s. IsAtEnd (g.S.Source.left s)) c.loop-runner.reader.ended c.loop-runner.source c.next_line.new.source c.loop-runner.invariant.at_end (λ h. (c.in-Ok-false.ensures.asks_no_more h).0) (λ h. c.in-Ok-false.ensures.seen h e)))
          (λ all lines told. c.may_end_here.ensures.yes all lines _ told c.if-may_end_here.true);
      bad_line = λ line e. absurd (cc);
      cut_off = λ e. absurd (cc);
      long_line = λ e. absurd (cc);
      many_lines = λ e. absurd (cc);
      limit = λ l e. absurd (cc);
      front = Ends-front _ _ _ _ _ _ _ _ _ c.loop-runner.invariant.so_far;
    })

pub returns-then-may_end_here-clause-words : goal.returns-then-may_end_here-clause-words
returns-then-may_end_here-clause-words g c = λ e. cc

pub returns-then-may_end_here-clause-held : goal.returns-then-may_end_here-clause-held
returns-then-may_end_here-clause-held g c = λ e. c.loop-runner.invariant.flushed

pub returns-then-may_end_here-clause-read_fault : goal.returns-then-may_end_here-clause-read_fault
returns-then-may_end_here-clause-read_fault g c = λ e. absurd (cc)

pub returns-then-may_end_here-clause-write_fault : goal.returns-then-may_end_here-clause-write_fault
returns-then-may_end_here-clause-write_fault g c = λ e. absurd (cc)

pub overflow_add-result : goal.overflow_add-result
overflow_add-result g c = omega (arith, c.number.ensures, c.in-Ok-false.ensures.few)

pub returns-in-Ok-false-clause-promises : goal.returns-in-Ok-false-clause-promises
returns-in-Ok-false-clause-promises g c =
    let stays = c.in-Ok-false.ensures.stays (ap Ok c.in-Ok-false.field-0-test) in
    keeps_promises g.R.LineRunner.input _ _ _ _ _ (record {
      words = λ e. cc;
      whole = λ e. absurd (cc);
      bad_line = λ line e.
          let number : c.number.result + 1 ≡ line = cc in
          Ends-short _ _ _ _ _ _ _ (still_read c.next_line.new.reader (g.S.Source.left c.next_line.new.source)) _ _ line c.loop-runner.invariant.so_far (c.in-Ok-false.ensures.end (ap Ok c.in-Ok-false.field-0-test)) stays.bytes
          (λ all lines told. c.may_end_here.ensures.no all lines _ told c.if-may_end_here.false)
          (omega (arith, number, c.number.ensures, stays.number));
      cut_off = λ e. absurd (cc);
      long_line = λ e. absurd (cc);
      many_lines = λ e. absurd (cc);
      limit = λ l e. absurd (cc);
      front = Ends-front _ _ _ _ _ _ _ _ _ c.loop-runner.invariant.so_far;
    })

pub returns-in-Ok-false-clause-words : goal.returns-in-Ok-false-clause-words
returns-in-Ok-false-clause-words g c = λ e. cc

pub returns-in-Ok-false-clause-held : goal.returns-in-Ok-false-clause-held
returns-in-Ok-false-clause-held g c = λ e. c.loop-runner.invariant.flushed

pub returns-in-Ok-false-clause-read_fault : goal.returns-in-Ok-false-clause-read_fault
returns-in-Ok-false-clause-read_fault g c = λ e. absurd (cc)

pub returns-in-Ok-false-clause-write_fault : goal.returns-in-Ok-false-clause-write_fault
returns-in-Ok-false-clause-write_fault g c = λ e. absurd (cc)

-- ---- a line that could not be read ----

-- a reader that has not seen the end had not seen it before
opened_before : (old new : Bool) → (old ≡ true → new ≡ true) → new ≡ false → old ≡ false
opened_before true new kept e = absurd (false≢true (sym e ∙ kept refl))
opened_before false new kept e = refl

pub returns-in-Err-next_line-clause-promises : goal.returns-in-Err-next_line-clause-promises
returns-in-Err-next_line-clause-promises g c = keeps_promises g.R.LineRunner.input _ _ _ _ _ (record {
  words = λ e. reads_not _ status.BadWords (reads_end _ c.in-Err-next_line.ensures.only) refl e;
  whole = λ e. absurd (reads_not _ status.Ok (reads_end _ c.in-Err-next_line.ensures.only) refl e);
  bad_line = λ line e. absurd (reads_not _ (status.BadLine line) (reads_end _ c.in-Err-next_line.ensures.only) refl e);
  cut_off = λ e.
      let stays = c.in-Err-next_line.ensures.kept (ap Err e) in
      let open_now : c.next_line.new.reader.ended ≡ false = c.in-Err-next_line.ensures.open (ap Err e) in
      let P : Bool → Type 0 = λ b. Keeps (still_read c.loop-runner.reader (g.S.Source.left c.loop-runner.source)) (to_read c.next_line.new.reader.ahead (cond b (nothing_of (g.S.Source.left c.next_line.new.source)) (g.S.Source.left c.next_line.new.source))) in
      Ends-fault _ _ _ _ _ _ _ _ _ _ _ c.loop-runner.invariant.so_far (opened_before _ _ (λ h. (c.in-Err-next_line.ensures.asks_no_more h).1) open_now) (subst P open_now stays.bytes) (c.in-Err-next_line.ensures.part (ap Err e));
  long_line = λ e. Ends-long _ _ _ _ _ _ _ _ _ _ _ c.loop-runner.invariant.so_far (c.in-Err-next_line.ensures.long (ap Err e)) c.loop-runner.invariant.limit (c.in-Err-next_line.ensures.early (ap Err e));
  many_lines = λ e. Ends-many _ _ _ _ _ _ _ _ _ _ c.loop-runner.invariant.so_far (c.in-Err-next_line.ensures.many (ap Err e)) (c.in-Err-next_line.ensures.full (ap Err e));
  limit = λ l e. absurd (reads_not _ (status.Limit (limited l)) (reads_end _ c.in-Err-next_line.ensures.only) (no_read_limit l) e);
  front = Ends-front _ _ _ _ _ _ _ _ _ c.loop-runner.invariant.so_far;
})

pub returns-in-Err-next_line-clause-words : goal.returns-in-Err-next_line-clause-words
returns-in-Err-next_line-clause-words g c = λ e. reads_not _ status.BadWords (reads_end _ c.in-Err-next_line.ensures.only) refl e

pub returns-in-Err-next_line-clause-held : goal.returns-in-Err-next_line-clause-held
returns-in-Err-next_line-clause-held g c = λ e. c.loop-runner.invariant.flushed

pub returns-in-Err-next_line-clause-read_fault : goal.returns-in-Err-next_line-clause-read_fault
returns-in-Err-next_line-clause-read_fault g c = λ e. rose_since _ _ _ c.loop-runner.invariant.source (c.in-Err-next_line.ensures.fault (ap Err e))

pub returns-in-Err-next_line-clause-write_fault : goal.returns-in-Err-next_line-clause-write_fault
returns-in-Err-next_line-clause-write_fault g c = λ e. absurd (reads_not _ status.WriteFault (reads_end _ c.in-Err-next_line.ensures.only) refl e)

-- ---- a turn ----

pub take_turn-requires : goal.take_turn-requires
take_turn-requires g c =
    let s = c.loop-runner.invariant.so_far in
    let counted : c.next_line.new.reader.number ≡ c.loop-runner.reader.number + 1 = c.in-Ok-true.ensures.counted (ap Ok c.in-Ok-true.field-0-test) in
    record { flushed = c.loop-runner.invariant.flushed; told = (s.bytes, s.lines, c.number-in-loop-runner.ensures ∙ (counted ∙ ap (λ (n : ℕ). n + 1) (sym s.counted)), s.told) }

pub loop-runner-smaller : goal.loop-runner-smaller
loop-runner-smaller g c =
    let counted : c.next_line.new.reader.number ≡ c.loop-runner.reader.number + 1 = c.in-Ok-true.ensures.counted (ap Ok c.in-Ok-true.field-0-test) in
    omega (arith, counted, c.in-Ok-true.ensures.few)

pub loop-runner-preserved : goal.loop-runner-preserved
loop-runner-preserved g c =
    let counted : c.next_line.new.reader.number ≡ c.loop-runner.reader.number + 1 = c.in-Ok-true.ensures.counted (ap Ok c.in-Ok-true.field-0-test) in
    let P : List ℕ → Type 0 = λ p. IfTold c.loop-runner.reader c.next_line.new.reader (g.S.Source.left c.loop-runner.source) (g.S.Source.left c.next_line.new.source) (ReadsLine p) in
    let Feeds : List ℕ → Type 0 = λ p. IfTold c.loop-runner.reader c.next_line.new.reader (g.S.Source.left c.loop-runner.source) (g.S.Source.left c.next_line.new.source) (EndsInFeed p) in
    let Short : List ℕ → Type 0 = λ p. length p ≤ 16384 in
    let short : length c.next_line.new.reader.line ≤ 16384 = omega (arith, c.in-Ok-true.ensures.short (ap Ok c.in-Ok-true.field-0-test), c.loop-runner.invariant.limit) in
    let At : ℕ → Type 0 = λ n. Turns g.R.LineRunner.stands g.R.LineRunner.input c.loop-runner.runner n c.bytes.result.now None c.take_turn.new.runner (g.K.Sink.taken c.loop-runner.sink) (g.K.Sink.taken c.take_turn.new.sink) in
    record {
      limit = c.in-Ok-true.ensures.limit ∙ c.loop-runner.invariant.limit;
      few = c.in-Ok-true.ensures.few;
      source = omega (arith, c.in-Ok-true.ensures.later);
      sink = omega (arith, c.take_turn.ensures.later);
      flushed = c.in-Ok-take_turn.ensures.flushed;
      at_end = λ e. since_then (λ s. IsAtEnd (g.S.Source.left s)) c.loop-runner.reader.ended c.loop-runner.source c.next_line.new.source c.loop-runner.invariant.at_end (λ h. (c.in-Ok-true.ensures.asks_no_more h).0) (λ h. c.in-Ok-true.ensures.seen h e);
      so_far = SoFar-next _ _ _ _ _ _ _ _ _ _ _ _ _ _ _ c.loop-runner.invariant.so_far counted c.in-Ok-true.ensures.few
          (subst Short (sym c.bytes.ensures) short)
          (subst P (sym c.bytes.ensures) (c.in-Ok-true.ensures.line (ap Ok c.in-Ok-true.field-0-test)))
          (opened_before _ _ (λ h. (c.in-Ok-true.ensures.asks_no_more h).1))
          (λ open_now. subst Feeds (sym c.bytes.ensures) (c.in-Ok-true.ensures.feed (ap Ok c.in-Ok-true.field-0-test) open_now))
          (subst At c.number-in-loop-runner.ensures (λ all lines counts told. c.in-Ok-take_turn.ensures.ok all lines counts told));
    }

-- ---- a turn that ends the run ----

pub returns-in-Err-take_turn-clause-promises : goal.returns-in-Err-take_turn-clause-promises
returns-in-Err-take_turn-clause-promises g c =
    let s = c.loop-runner.invariant.so_far in
    let counted : c.next_line.new.reader.number ≡ c.loop-runner.reader.number + 1 = c.in-Ok-true.ensures.counted (ap Ok c.in-Ok-true.field-0-test) in
    let P : List ℕ → Type 0 = λ p. IfTold c.loop-runner.reader c.next_line.new.reader (g.S.Source.left c.loop-runner.source) (g.S.Source.left c.next_line.new.source) (ReadsLine p) in
    let Short : List ℕ → Type 0 = λ p. length p ≤ 16384 in
    let short : length c.next_line.new.reader.line ≤ 16384 = omega (arith, c.in-Ok-true.ensures.short (ap Ok c.in-Ok-true.field-0-test), c.loop-runner.invariant.limit) in
    let reads = subst P (sym c.bytes.ensures) (c.in-Ok-true.ensures.line (ap Ok c.in-Ok-true.field-0-test)) in
    let few : c.number-in-loop-runner.result ≤ 1000000 = omega (arith, c.number-in-loop-runner.ensures, c.in-Ok-true.ensures.few) in
    keeps_promises g.R.LineRunner.input _ _ _ _ _ (record {
      words = λ e. ends_not _ status.BadWords c.in-Err-take_turn.ensures.only refl e;
      whole = λ e. absurd (ends_not _ status.Ok c.in-Err-take_turn.ensures.only refl e);
      bad_line = λ line e.
          let b = c.in-Err-take_turn.ensures.bad s.bytes s.lines line s.told (ap Err e) in
          rw b.2 (Ends-bad _ _ _ _ _ _ _ _ _ _ _ line s reads (λ all lines told. (c.in-Err-take_turn.ensures.bad all lines line told (ap Err e)).1)
          (omega (arith, b.0, c.number-in-loop-runner.ensures, counted)) (omega (arith, b.0, few)) (subst Short (sym c.bytes.ensures) short));
      cut_off = λ e. absurd (ends_not _ status.ReadFault c.in-Err-take_turn.ensures.only refl e);
      long_line = λ e. absurd (ends_not _ (status.Limit what.Line) c.in-Err-take_turn.ensures.only refl e);
      many_lines = λ e. absurd (ends_not _ (status.Limit what.Lines) c.in-Err-take_turn.ensures.only refl e);
      limit = λ l e. Ends-limit _ _ _ _ _ _ _ _ l _ _ _ _ _ _ s (c.number-in-loop-runner.ensures ∙ counted) few (subst Short (sym c.bytes.ensures) short) reads
          (λ all lines counts told. c.in-Err-take_turn.ensures.limit all lines l counts told (ap Err e));
      front = Ends-cut _ _ _ _ _ _ _ _ _ _ _ _ _ s (c.number-in-loop-runner.ensures ∙ counted) reads (λ all lines counts told. c.in-Err-take_turn.ensures.err all lines counts told);
    })

pub returns-in-Err-take_turn-clause-words : goal.returns-in-Err-take_turn-clause-words
returns-in-Err-take_turn-clause-words g c = λ e. ends_not _ status.BadWords c.in-Err-take_turn.ensures.only refl e

pub returns-in-Err-take_turn-clause-held : goal.returns-in-Err-take_turn-clause-held
returns-in-Err-take_turn-clause-held g c = c.in-Err-take_turn.ensures.held

pub returns-in-Err-take_turn-clause-read_fault : goal.returns-in-Err-take_turn-clause-read_fault
returns-in-Err-take_turn-clause-read_fault g c = λ e. absurd (ends_not _ status.ReadFault c.in-Err-take_turn.ensures.only refl e)

pub returns-in-Err-take_turn-clause-write_fault : goal.returns-in-Err-take_turn-clause-write_fault
returns-in-Err-take_turn-clause-write_fault g c = λ e. rose_since _ _ _ c.loop-runner.invariant.sink (c.in-Err-take_turn.ensures.failed (ap Err e))
