-- What a command that reads lines promises comes from how its loop ends.
use Rattle.std.proofs.Common.{◌≡◌, ℕ, List, Option, Some, None, refl, subst, inl, inr}
use Rattle.std.specs.Prelude.{IfSome}
use Rattle.std.specs.Io.KnownBytes.{IsAtEnd}
use Rattle.schedule_lines.specs.declared.line.ScheduleLine.{ScheduleLine}
use Rattle.the_run.specs.Worlds.{Limit}
use Rattle.the_run.specs.Worlds as bound
use Rattle.the_run.specs.Runs.{run}
use Rattle.line_reader.specs.Reading.{lines_of, Between}
use Rattle.input_run.specs.declared.status.Status.{Status}
use Rattle.input_run.specs.declared.status.Status.TheVariants as status
use Rattle.input_run.specs.declared.status.Limited.TheVariants.{Packets, Bytes, Trace, Line, Lines}
use Rattle.input_run.specs.Codes.{limited}
use Rattle.input_run.specs.Inputs.{Input}
use Rattle.input_run.specs.Promises.{ComesThrough, LinePromises}
use Rattle.input_run.specs.Runs.{IsAccepted, IsWholeRun, StopsAtBad, StopsAtLong, StopsAtCount, StopsAtFault, StopsAtLimit, WritesFront}
use Rattle.input_run.proofs.Reading.{no_bad, no_long, no_more, no_limit}

at_some : {X : Type 0} (o : Option X) (x : X) (P : X → Type 0) → o ≡ Some x → IfSome o P → P x
at_some {X = X} o x P e h = subst (λ (p : Option X). IfSome p P) e h

-- what the loop says of each way that it ends
pub record Ends (input : Input) (result : Status) (source left before after : Option (List ℕ)) : Type 0 where
  pub words : result ≡ status.BadWords → ⊥
  pub whole : result ≡ status.Ok → IfSome source (λ bytes. IsAtEnd left × IsWholeRun input (lines_of bytes) before after)
  pub bad_line : (line : ℕ) → result ≡ status.BadLine line → IfSome source (λ bytes. StopsAtBad input (lines_of bytes) line before after)
  pub cut_off : result ≡ status.ReadFault → Between source left (λ bytes rest. StopsAtFault input bytes rest before after)
  pub long_line : result ≡ status.Limit Line → IfSome source (λ bytes. StopsAtLong input (lines_of bytes) before after)
  pub many_lines : result ≡ status.Limit Lines → IfSome source (λ bytes. StopsAtCount input (lines_of bytes) before after)
  pub limit : (l : Limit) → result ≡ status.Limit (limited l) → IfSome source (λ bytes. StopsAtLimit input (lines_of bytes) l before after)
  pub front : IfSome source (λ bytes. WritesFront input (lines_of bytes) before after)

-- an accepted input whose run passes no limit passes none
passes_none : (input : Input) (result : Status) (source left before after : Option (List ℕ)) (bytes : List ℕ) (lines : List ScheduleLine) (l : Limit) →
    Ends input result source left before after → source ≡ Some bytes → IsAccepted input (lines_of bytes) lines → (run lines).over ≡ None → result ≡ status.Limit (limited l) → ComesThrough result
passes_none input result source left before after bytes lines l c told ok free e =
    absurd (no_limit input (lines_of bytes) lines l before after ok.stands free (at_some source bytes _ told (c.limit l e)))

comes_through : (input : Input) (result : Status) (source left before after : Option (List ℕ)) (bytes : List ℕ) (lines : List ScheduleLine) →
    Ends input result source left before after → source ≡ Some bytes → IsAccepted input (lines_of bytes) lines → (run lines).over ≡ None
    → (result ≡ status.ReadFault → ⊥) → (result ≡ status.WriteFault → ⊥) → ComesThrough result
comes_through input status.Ok source left before after bytes lines c told ok free r w = inl refl
comes_through input status.BadWords source left before after bytes lines c told ok free r w = absurd (c.words refl)
comes_through input (status.BadLine line) source left before after bytes lines c told ok free r w =
    absurd (no_bad input (lines_of bytes) lines line before after ok (at_some source bytes _ told (c.bad_line line refl)))
comes_through input status.ReadFault source left before after bytes lines c told ok free r w = absurd (r refl)
comes_through input status.WriteFault source left before after bytes lines c told ok free r w = absurd (w refl)
comes_through input status.NoMemory source left before after bytes lines c told ok free r w = inr refl
comes_through input (status.Limit Packets) source left before after bytes lines c told ok free r w = passes_none input _ source left before after bytes lines bound.Packets c told ok free refl
comes_through input (status.Limit Bytes) source left before after bytes lines c told ok free r w = passes_none input _ source left before after bytes lines bound.Bytes c told ok free refl
comes_through input (status.Limit Trace) source left before after bytes lines c told ok free r w = passes_none input _ source left before after bytes lines bound.Trace c told ok free refl
comes_through input (status.Limit Line) source left before after bytes lines c told ok free r w =
    let stop = at_some source bytes _ told (c.long_line refl) in
    absurd (no_long (lines_of bytes) stop.earlier stop.line stop.later ok.within stop.split stop.long)
comes_through input (status.Limit Lines) source left before after bytes lines c told ok free r w =
    let stop = at_some source bytes _ told (c.many_lines refl) in
    absurd (no_more (lines_of bytes) stop.earlier stop.later ok.within stop.split stop.full stop.more)

pub keeps_promises : (input : Input) (result : Status) (source left before after : Option (List ℕ)) → Ends input result source left before after → LinePromises input result source left before after
keeps_promises input result source left before after c = record {
  whole = c.whole;
  bad_line = c.bad_line;
  cut_off = c.cut_off;
  long_line = c.long_line;
  many_lines = c.many_lines;
  limit = c.limit;
  front = c.front;
  complete = λ bytes lines told ok free r w. comes_through input result source left before after bytes lines c told ok free r w;
}

-- ---- what an end is not ----

-- a command that ended by this status alone
no_limit_is : (l : Limit) → status.NoMemory ≡ status.Limit (limited l) → ⊥
no_limit_is l e = cc

pub for_memory : (input : Input) (source left before after : Option (List ℕ)) → IfSome source (λ bytes. WritesFront input (lines_of bytes) before after) → LinePromises input status.NoMemory source left before after
for_memory input source left before after front = keeps_promises input status.NoMemory source left before after (record {
  words = λ e. cc;
  whole = λ e. absurd (cc);
  bad_line = λ line e. absurd (cc);
  cut_off = λ e. absurd (cc);
  long_line = λ e. absurd (cc);
  many_lines = λ e. absurd (cc);
  limit = λ l e. absurd (no_limit_is l e);
  front = front;
})
