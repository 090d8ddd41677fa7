-- The book of a world after an event of the run.
use Rattle.std.proofs.Common.{◌≡◌, ℕ, ◌+◌, List, [], ◌++◌, length, Option, None, Some, false, refl, sym, ap, ◌∙◌, append_assoc, subst, arith}
use Rattle.std.proofs.lemmas.List.{append-nil}
use Rattle.wire_messages.specs.Outboxes.{Outgoing}
use Rattle.wire_messages.specs.declared.packet.Packet.{Packet}
use Rattle.role_steps.specs.Tables.{total}
use Rattle.role_steps.specs.Views.{Told}
use Rattle.site_frame.specs.Printed.{printed}
use Rattle.the_run.specs.Worlds.{World, Limit, packet_size, told_size, told_onto, numbered_from, newest_onto, limit_passed, with_numbered, unless_over, happened_of, happened}
use Rattle.the_run.specs.Commands.{no_counts}
use Rattle.packet_mail.specs.Posts.{Post, posts}
use Rattle.packet_mail.proofs.Sent.{post_same}
use Rattle.run_book.specs.Ledgers.{Ledger, record_size, lines_text, limit_of_sizes, with_event, with_event_unless, books_of, books, limit_in, IsBookOf, Keeps, Elsewhere}
use Rattle.trace_book.specs.declared.record.Record.{Record}
use Rattle.run_book.specs.declared.fault.Passed.{Passed}
use Rattle.std.specs.Option.{is_some}
use Rattle.run_book.proofs.Printing.{lines_size, told_counts, told_sizes, told_written}
use Rattle.run_book.specs.Writings.{counts_after, lines_written}

module _ (n : ℕ) (ps : List Packet) (told : List Told) (change : World → World) (taken : List ℕ) (w : World) (b : Ledger) (els : Elsewhere w (change w)) (k : Keeps taken w b) where
  -- the event is within the limits
  within : IsBookOf w b → w.over ≡ None → Keeps taken (with_numbered (numbered_from (w.packets + 1) ps) (told_onto n told w.trace) (w.packets + length ps) (w.bytes + total packet_size ps) (w.text + total (told_size n) told) (change w)) (with_event n ps (printed told) b)
  within h e = record {
    written = told_written b.writing n told w.trace ∙ (ap (λ y. y ++ lines_written b.writing n (printed told)) k.written ∙ append_assoc taken b.fresh (lines_written b.writing n (printed told)));
    counts = told_counts no_counts n told w.trace ∙ ap (λ c. counts_after c (printed told)) k.counts;
    over = k.over ∙ sym els.over;
    whole = λ _. record {
      post = ap (posts ps) h.post ∙ post_same
          (ap (λ (m : Post). newest_onto (numbered_from (w.packets + 1) ps) m.sent) (sym els.post))
          (ap (λ (m : Post). m.underway ++ numbered_from (w.packets + 1) ps) (sym els.post))
          (ap (λ (m : Post). m.lost) (sym els.post))
          refl
          refl;
      text = ap (λ x. x + length (lines_text n (printed told))) h.text ∙ ap (λ x. w.text + x) (lines_size n (printed told) ∙ sym (told_sizes n told));
    };
  }

  -- both see the same limit
  same_limit : IsBookOf w b → limit_of_sizes (length ps) (total packet_size ps) (total (record_size n) (printed told)) b ≡ limit_passed (w.packets + length ps) (w.bytes + total packet_size ps) (w.text + total (told_size n) told)
  same_limit h = rw (h.post, h.text, told_sizes n told) refl

  counted : (o : Option Limit) → IsBookOf w b → w.over ≡ None → Keeps taken (unless_over o n ps told change (w.packets + length ps) (w.bytes + total packet_size ps) (w.text + total (told_size n) told) w) (with_event_unless o n ps (printed told) b)
  counted (Some l) h e = record { written = k.written; counts = k.counts; over = refl; whole = λ z. absurd (cc) }
  counted None h e = within h e

  event : (o : Option Limit) → w.over ≡ o → Keeps taken (happened_of o n ps told change w) (books_of o n ps (printed told) b)
  event (Some l) e = k
  event None e =
      let h = k.whole e in
      subst (λ (o : Option Limit). Keeps taken (unless_over (limit_passed (w.packets + length ps) (w.bytes + total packet_size ps) (w.text + total (told_size n) told)) n ps told change (w.packets + length ps) (w.bytes + total packet_size ps) (w.text + total (told_size n) told) w) (with_event_unless o n ps (printed told) b)) (sym (same_limit h))
      (counted (limit_passed (w.packets + length ps) (w.bytes + total packet_size ps) (w.text + total (told_size n) told)) h e)

  pub event_kept : Keeps taken (happened n ps told change w) (books n ps (printed told) b)
  event_kept = subst (λ (o : Option Limit). Keeps taken (happened n ps told change w) (books_of o n ps (printed told) b)) (sym k.over) (event w.over refl)

-- ---- in code ----

none_passed : (o : Option Passed) → is_some o ≡ false → limit_in o ≡ None
none_passed None e = refl
none_passed (Some p) e = absurd (cc)

-- an event that was measured
pub books_within : (n : ℕ) (ps : List Packet) (rs : List Record) (b c : Ledger) (o : Option Passed) (packets bytes : ℕ) (text : List ℕ) → limit_in o ≡ b.over → is_some o ≡ false → packets ≡ length ps → bytes ≡ total packet_size ps → text ≡ lines_text n rs → c ≡ with_event_unless (limit_of_sizes packets bytes (length text) b) n ps rs b → c ≡ books n ps rs b
books_within n ps rs b c o packets bytes text e s ep eb et h =
    h
    ∙ (ap (λ k. with_event_unless (limit_of_sizes k bytes (length text) b) n ps rs b) ep
    ∙ (ap (λ k. with_event_unless (limit_of_sizes (length ps) k (length text) b) n ps rs b) eb
    ∙ (ap (λ k. with_event_unless (limit_of_sizes (length ps) (total packet_size ps) k b) n ps rs b) (ap length et ∙ lines_size n rs)
    ∙ ap (λ l. books_of l n ps rs b) (sym (sym e ∙ none_passed o s)))))

-- an event that gives nothing leaves all as it was
pub nothing_more : (n : ℕ) (b : Ledger) (o : Option Limit) → o ≡ None → b ≡ with_event_unless o n [] [] b
nothing_more n b (Some l) e = absurd (cc)
nothing_more n b None e =
    let post : posts [] b.post ≡ b.post = post_same refl (append-nil b.post.underway) refl (omega arith) (omega arith) in
    let text : b.text + 0 ≡ b.text = omega arith in
    sym (ap (λ (p : Post). record b { post = p; fresh = b.fresh ++ []; text = b.text + 0 }) post ∙ (ap (λ f. record b { fresh = f; text = b.text + 0 }) (append-nil b.fresh) ∙ ap (λ t. record b { text = t }) text))

pub silent_books : (n : ℕ) (o : Outgoing) (b c : Ledger) (p : Option Passed) → limit_in p ≡ b.over → is_some p ≡ false → o ≡ record { packets = []; records = [] } → c ≡ with_event_unless (limit_of_sizes 0 0 0 b) n [] [] b → c ≡ books n o.packets o.records b
silent_books n o b c p e s h k = k ∙ (ap (λ l. books_of l n [] [] b) (sym (sym e ∙ none_passed p s)) ∙ ap (λ (x : Outgoing). books n x.packets x.records b) (sym h))

-- an event doesn't change what a book writes
event_writing : (o : Option Limit) (n : ℕ) (ps : List Packet) (rs : List Record) (b : Ledger) → (with_event_unless o n ps rs b).writing ≡ b.writing
event_writing (Some l) n ps rs b = refl
event_writing None n ps rs b = refl

writing_of : (o : Option Limit) (n : ℕ) (ps : List Packet) (rs : List Record) (b : Ledger) → (books_of o n ps rs b).writing ≡ b.writing
writing_of (Some l) n ps rs b = refl
writing_of None n ps rs b = event_writing (limit_of_sizes (length ps) (total packet_size ps) (total (record_size n) rs) b) n ps rs b

pub writing_kept : (n : ℕ) (ps : List Packet) (rs : List Record) (b : Ledger) → (books n ps rs b).writing ≡ b.writing
writing_kept n ps rs b = writing_of b.over n ps rs b
