-- The text of what an event tells.
use Rattle.std.proofs.Common.{◌≡◌, ℕ, ◌+◌, List, [], ◌∷◌, ◌++◌, ◌<◌, length, drop, codes, Result, Ok, Err, refl, sym, ap, ◌∙◌, append_assoc, zero-add, arith}
use Rattle.std.specs.Prelude.{OnOk}
use Rattle.std.specs.Fmt.{decimal}
use Rattle.std.proofs.lemmas.Fmt.{decimal_digit}
use Rattle.locus_ids.specs.declared.ids.CallId.{CallId}
use Rattle.trace_book.specs.declared.reply.Reply.{Reply}
use Rattle.trace_book.specs.declared.record.Record.TheVariants.{Answer}
use Rattle.std.proofs.lemmas.List.{append-nil, length-append}
use Rattle.std.proofs.lemmas.Grind.{flat_map-append}
use Rattle.trace_book.specs.Text.{entry_text, record_text}
use Rattle.trace_book.specs.declared.record.Record.{Record}
use Rattle.trace_book.specs.declared.entry.Entry.{Entry}
use Rattle.role_steps.specs.Tables.{total}
use Rattle.role_steps.specs.Views.{Told, Shown, Promises, Takes, LooksAgain, Begins, Shuts, Reserves}
use Rattle.site_frame.specs.Printed.{printed}
use Rattle.the_run.specs.Worlds.{Line, told_size, told_onto}
use Rattle.the_run.specs.Runs.{shown_onto}
use Rattle.the_run.specs.Commands.{Counts, counted_in, counts_onto, reply_line}
use Rattle.run_book.specs.Ledgers.{record_size, lines_text}
use Rattle.run_book.specs.Writings.{counts_after, entries_at, lines_written, replies_of, written, written_of}
use Rattle.run_book.specs.declared.writing.Writing.{Writing}
use Rattle.run_book.specs.declared.writing.Writing.TheVariants.{Nothing, Replies, Trace}

line_before : (trace : List Line) (es : List Entry) → ((fs : List Entry) → shown_onto trace fs ≡ shown_onto trace [] ++ fs) → (n : ℕ) (t : Told) → shown_onto (record { number = n; told = t } ∷ trace) es ≡ shown_onto (record { number = n; told = t } ∷ trace) [] ++ es
line_before trace es h n (Shown r) = h (record { line = n; what = r } ∷ es) ∙ (sym (append_assoc (shown_onto trace []) (record { line = n; what = r } ∷ []) es) ∙ ap (λ y. y ++ es) (sym (h (record { line = n; what = r } ∷ []))))
line_before trace es h n (Promises a b c) = h es
line_before trace es h n (Takes a b c d e) = h es
line_before trace es h n (LooksAgain a b c d) = h es
line_before trace es h n (Begins a b c d) = h es
line_before trace es h n (Shuts a b c) = h es
line_before trace es h n (Reserves a b c d) = h es

-- older entries come before those that stand already
pub shown_before : (trace : List Line) (es : List Entry) → shown_onto trace es ≡ shown_onto trace [] ++ es
shown_before [] es = refl
shown_before (x ∷ trace) es = line_before trace es (shown_before trace) x.number x.told

-- the entries of what an event tells come after all that was told before
told_entries : (n : ℕ) (told : List Told) (trace : List Line) → shown_onto (told_onto n told trace) [] ≡ shown_onto trace [] ++ entries_at n (printed told)
told_entries n [] trace = sym (append-nil (shown_onto trace []))
told_entries n (Shown r ∷ told) trace =
    told_entries n told (record { number = n; told = Shown r } ∷ trace)
    ∙ (ap (λ y. y ++ entries_at n (printed told)) (shown_before trace (record { line = n; what = r } ∷ []))
    ∙ append_assoc (shown_onto trace []) (record { line = n; what = r } ∷ []) (entries_at n (printed told)))
told_entries n (Promises a b c ∷ told) trace = told_entries n told (record { number = n; told = Promises a b c } ∷ trace)
told_entries n (Takes a b c d e ∷ told) trace = told_entries n told (record { number = n; told = Takes a b c d e } ∷ trace)
told_entries n (LooksAgain a b c d ∷ told) trace = told_entries n told (record { number = n; told = LooksAgain a b c d } ∷ trace)
told_entries n (Begins a b c d ∷ told) trace = told_entries n told (record { number = n; told = Begins a b c d } ∷ trace)
told_entries n (Shuts a b c ∷ told) trace = told_entries n told (record { number = n; told = Shuts a b c } ∷ trace)
told_entries n (Reserves a b c d ∷ told) trace = told_entries n told (record { number = n; told = Reserves a b c d } ∷ trace)

-- so does what is written of it
pub told_written : (writing : Writing) (n : ℕ) (told : List Told) (trace : List Line) → written_of writing (shown_onto (told_onto n told trace) []) ≡ written_of writing (shown_onto trace []) ++ lines_written writing n (printed told)
told_written writing n told trace = ap (written_of writing) (told_entries n told trace) ∙ flat_map-append (written writing) (shown_onto trace []) (entries_at n (printed told))

counts_append : (c : Counts) (xs ys : List Entry) → counts_onto c (xs ++ ys) ≡ counts_onto (counts_onto c xs) ys
counts_append c [] ys = refl
counts_append c (x ∷ xs) ys = counts_append (counted_in c x.what) xs ys

counts_at : (c : Counts) (n : ℕ) (rs : List Record) → counts_onto c (entries_at n rs) ≡ counts_after c rs
counts_at c n [] = refl
counts_at c n (r ∷ rs) = counts_at (counted_in c r) n rs

-- and it is counted after all that was told before
pub told_counts : (c : Counts) (n : ℕ) (told : List Told) (trace : List Line) → counts_onto c (shown_onto (told_onto n told trace) []) ≡ counts_after (counts_onto c (shown_onto trace [])) (printed told)
told_counts c n told trace =
    ap (counts_onto c) (told_entries n told trace)
    ∙ (counts_append c (shown_onto trace []) (entries_at n (printed told)) ∙ counts_at (counts_onto c (shown_onto trace [])) n (printed told))

-- only what is printed has a size
pub told_sizes : (n : ℕ) (told : List Told) → total (told_size n) told ≡ total (record_size n) (printed told)
told_sizes n [] = refl
told_sizes n (Shown r ∷ told) = ap (λ k. length (entry_text n r) + k) (told_sizes n told)
told_sizes n (Promises a b c ∷ told) = zero-add (total (told_size n) told) ∙ told_sizes n told
told_sizes n (Takes a b c d e ∷ told) = zero-add (total (told_size n) told) ∙ told_sizes n told
told_sizes n (LooksAgain a b c d ∷ told) = zero-add (total (told_size n) told) ∙ told_sizes n told
told_sizes n (Begins a b c d ∷ told) = zero-add (total (told_size n) told) ∙ told_sizes n told
told_sizes n (Shuts a b c ∷ told) = zero-add (total (told_size n) told) ∙ told_sizes n told
told_sizes n (Reserves a b c d ∷ told) = zero-add (total (told_size n) told) ∙ told_sizes n told

pub lines_size : (n : ℕ) (rs : List Record) → length (lines_text n rs) ≡ total (record_size n) rs
lines_size n [] = refl
lines_size n (r ∷ rs) = length-append (entry_text n r) (lines_text n rs) ∙ ap (λ k. length (entry_text n r) + k) (lines_size n rs)

-- ---- what is written of the records of a line ----

pub written_trace : (n : ℕ) (rs : List Record) → lines_written Trace n rs ≡ lines_text n rs
written_trace n [] = refl
written_trace n (r ∷ rs) = ap (λ y. entry_text n r ++ y) (written_trace n rs)

pub written_replies : (n : ℕ) (rs : List Record) → lines_written Replies n rs ≡ replies_of rs
written_replies n [] = refl
written_replies n (r ∷ rs) = ap (λ y. reply_line r ++ y) (written_replies n rs)

pub written_nothing : (n : ℕ) (rs : List Record) → lines_written Nothing n rs ≡ []
written_nothing n [] = refl
written_nothing n (r ∷ rs) = written_nothing n rs

-- ---- in code ----

pub on_ok : {T E : Type 0} (r : Result T E) (P Q : Type 0) → (P → Q) → OnOk r P → OnOk r Q
on_ok (Ok x) P Q f p = f p
on_ok (Err e) P Q f p = p

-- a line of number 0 has two bytes before its record
line_after : (r : Record) → drop 2 (entry_text 0 r) ≡ record_text r ++ codes "\n"
line_after r =
    let few : 0 < 10 = omega arith in
    let digit : decimal 0 ≡ 48 ∷ [] = decimal_digit 0 few in
    rw digit refl

pub reply_after : (what : Record) (site process : ℕ) (call : CallId) (reply : Reply) → what ≡ Answer site process call reply → drop 2 (entry_text 0 what) ≡ reply_line what
reply_after what site process call reply e = ap (λ (r : Record). drop 2 (entry_text 0 r)) e ∙ (line_after (Answer site process call reply) ∙ ap reply_line (sym e))
