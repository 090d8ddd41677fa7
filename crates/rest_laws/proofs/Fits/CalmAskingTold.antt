-- What told an answer: the result of an operation was done so, and an open to write was granted so.
use Rattle.std.proofs.Common.{◌≡◌, ℕ, true, List, [], ◌∷◌, ◌++◌, Option, Some, None, refl, sym, ◌∙◌, ap, subst, inl, inr}
use Rattle.role_steps.proofs.of_plain_facts.Options.{some_same}
use Rattle.role_steps.proofs.of_plain_facts.Tests.{true_false}
use Rattle.locus_ids.specs.declared.config.Config.{Config}
use Rattle.locus_ids.specs.declared.ids.CallId.{CallId}
use Rattle.locus_ids.specs.declared.ids.EpochId.{EpochId}
use Rattle.locus_ids.specs.declared.ids.FileId.{FileId}
use Rattle.locus_ids.specs.declared.ids.Mode.{Mode}
use Rattle.locus_ids.specs.declared.ids.Mode.TheVariants as mode
use Rattle.locus_ids.specs.declared.ids.Serial.{Serial}
use Rattle.locus_ids.specs.declared.ids.Stamp.{Stamp}
use Rattle.trace_book.specs.declared.call.OpenMode.{OpenMode}
use Rattle.trace_book.specs.declared.call.OpenMode.TheVariants as how
use Rattle.trace_book.specs.declared.operation.Op.{Op}
use Rattle.trace_book.specs.declared.operation.Outcome.{Outcome}
use Rattle.trace_book.specs.declared.operation.What.{What}
use Rattle.trace_book.specs.declared.record.Record.{Record}
use Rattle.trace_book.specs.declared.record.Record.TheVariants as says
use Rattle.call_rules.specs.declared.answer.Answer.{Answer}
use Rattle.call_rules.specs.declared.answer.Answer.TheVariants as answer
use Rattle.call_rules.specs.declared.want.Want.{Want}
use Rattle.call_rules.specs.declared.want.Want.TheVariants as want
use Rattle.wire_messages.specs.declared.body.Opening.{Opening}
use Rattle.role_steps.specs.Views.{Told, Shown}
use Rattle.the_run.specs.Worlds.{Line}
use Rattle.tree_model.specs.Tree.{kept_in}
use Rattle.lawful_trace.specs.Progress.{Answers, answers, granted_answer, outcome_answer, wants_after, wants_next}
use Rattle.lawful_trace.specs.Tables.{call_of_act}
use Rattle.lawful_trace.specs.TreeRows.{IsCallIn, is_open_of}
use Rattle.tree_laws.specs.Calls.{Asks, heard, log, script}
use Rattle.tree_laws.specs.Following.{IsFollowed, MayTell}
use Rattle.tree_laws.specs.Instances.{IsOpening}
use Rattle.tree_laws.specs.Past.{ActRecord, GrantRecord, Printed, WasDone, WasGranted}
use Rattle.tree_laws.specs.Printed.{entries}
use Rattle.tree_laws.proofs.Asking.{StepRecord}
use Rattle.tree_laws.proofs.Awaiting.{by_own, by_owner, last_same}
use Rattle.tree_laws.proofs.Hearing.{Hears, hears, wants_as_asked}
use Rattle.tree_laws.proofs.Orders.Standing.{same_file_eq}
use Rattle.store_laws.proofs.AnswerAnswering.{acter_in}
use Rattle.rest_laws.proofs.Fits.CalmAskingSources.{Source, stands}

abbrev With : ℕ → Told → List Line → List Line
With n x older = record { number = n; told = x } ∷ older

-- ---- operations ----

-- the record is of the operation, and its result is the answer
record ActTold (older : List Line) (r : Record) (d : CallId) (a : Answer) (p : Serial) (o : Op) : Type 0 where
  epoch : EpochId
  number : ℕ
  result : Outcome
  inside : IsCallIn (entries older) epoch d
  printed : Printed (ActRecord epoch p number o result) older (Shown r)
  answer_is : a ≡ outcome_answer result

do_serial : (i p : Serial) (o q : Op) → want.Do i o ≡ want.Do p q → i ≡ p
do_serial i p o q e = cc

do_op : (i p : Serial) (o q : Op) → want.Do i o ≡ want.Do p q → o ≡ q
do_op i p o q e = cc

look_do : (f : FileId) (w : What) (p : Serial) (o : Op) → want.Look f w ≡ want.Do p o → ⊥
look_do f w p o e = cc

close_do : (i p : Serial) (o : Op) → want.Close i ≡ want.Do p o → ⊥
close_do i p o e = cc

opens_do : (c : Config) (w : Want) (f : FileId) (it : Opening) (p : Serial) (o : Op) → IsOpening c w f it → w ≡ want.Do p o → ⊥
opens_do c w f it p o k e = subst (λ (v : Want). IsOpening c v f it) e k

module _ (c : Config) (n : ℕ) (older : List Line) (d : CallId) (ys : Answers) (a : Answer) (is : log older d ≡ ys) where
  -- what the call asks then
  asked : (w : Want) → Asks c older d w → script c (entries older) d None ys ≡ w
  asked w k = ap (script c (entries older) d None) (sym is) ∙ k.asked

  act_told : (r : Record) → MayTell c older (Shown r) → StepRecord (entries older) r d → heard c (With n (Shown r) older) d ≡ ys ++ a ∷ [] → (p : Serial) (o : Op) → script c (entries older) d None ys ≡ want.Do p o → ActTold older r d a p o
  act_told (says.Act at i number q result) may step new p o e = record {
    epoch = at;
    number = number;
    result = result;
    inside = subst (IsCallIn (entries older) at) owner (acter_in c older at i number q result may);
    printed = record { epoch_is = refl; serial_is = do_serial i p q o same; number_is = refl; operation_is = do_op i p q o same; result_is = refl };
    answer_is = last_same ys ys a (outcome_answer result) (sym new ∙ (by_owner (call_of_act (entries older) at i number) d _ (heard c older d) step ∙ ap (λ (xs : Answers). xs ++ outcome_answer result ∷ []) (asks.nothing_waits ∙ is)));
  }
    where
      owner : may.in_time.call ≡ d
      owner = some_same may.in_time.call d (sym may.in_time.owner ∙ step)

      asks : Asks c older d (want.Do i q)
      asks = subst (λ (y : CallId). Asks c older y (want.Do i q)) owner may.in_time.asks

      same : want.Do i q ≡ want.Do p o
      same = sym (asked (want.Do i q) asks) ∙ e
  act_told (says.Look e call request f w result) may step new p o q = absurd (look_do f w p o (sym (asked (want.Look f w) (subst (λ (y : CallId). Asks c older y (want.Look f w)) step may.in_time.asks)) ∙ q))
  act_told (says.Grant e call request i m f stamp ss) may step new p o q = absurd (opens_do c may.in_time.opens.asks.wanted may.in_time.opens.asked may.in_time.opens.it p o may.in_time.opens.asks.opening_is
      (sym (asked may.in_time.opens.asks.wanted (subst (λ (y : CallId). Asks c older y may.in_time.opens.asks.wanted) step may.in_time.opens.asks.asks)) ∙ q))
  act_told (says.Refuse e call request i m f why) may step new p o q = absurd (opens_do c may.in_time.opens.asks.wanted may.in_time.opens.asked may.in_time.opens.it p o may.in_time.opens.asks.opening_is
      (sym (asked may.in_time.opens.asks.wanted (subst (λ (y : CallId). Asks c older y may.in_time.opens.asks.wanted) step may.in_time.opens.asks.asks)) ∙ q))
  act_told (says.Release e i f stamp) may step new p o q = absurd (close_do i p o (sym (asked (want.Close i) (subst (λ (y : CallId). Asks c older y (want.Close i)) (some_same may.in_time.call d (sym may.in_time.owner ∙ step)) may.in_time.asks)) ∙ q))
  act_told _ may step new p o q = absurd step

-- the operation was done, and its result is the answer
pub record WasActed (t : List Line) (d : CallId) (a : Answer) (p : Serial) (o : Op) : Type 0 where
  pub epoch : EpochId
  pub number : ℕ
  pub result : Outcome
  pub inside : IsCallIn (entries t) epoch d
  pub done : WasDone t epoch p number o result
  pub answer_is : a ≡ outcome_answer result

pub act_source : (c : Config) (t : List Line) (d : CallId) (ys : Answers) (a : Answer) (p : Serial) (o : Op) → Source c t d ys a → script c (entries t) d None ys ≡ want.Do p o → WasActed t d a p o
act_source c t d ys a p o s e = record { epoch = k.epoch; number = k.number; result = k.result; inside = s.inside k.epoch k.inside; done = stands c t d ys a s (Printed (ActRecord k.epoch p k.number o k.result)) k.printed; answer_is = k.answer_is }
  where
    k : ActTold s.older s.what d a p o
    k = act_told c s.number s.older d ys a s.log_is s.what s.may s.step s.new p o (sym s.script_is ∙ e)

-- ---- opens to write ----

record OpenTold (older : List Line) (r : Record) (d : CallId) (p : Serial) (f : FileId) : Type 0 where
  epoch : EpochId
  request : ℕ
  in_mode : Mode
  stamp : Option Stamp
  ss : ℕ
  inside : IsCallIn (entries older) epoch d
  writes : in_mode ≡ mode.Write
  printed : Printed (GrantRecord epoch d request p in_mode f stamp ss) older (Shown r)

do_open : (i : Serial) (o : Op) (f : FileId) (m : OpenMode) → want.Do i o ≡ want.Open f m → ⊥
do_open i o f m e = cc

look_open : (g : FileId) (w : What) (f : FileId) (m : OpenMode) → want.Look g w ≡ want.Open f m → ⊥
look_open g w f m e = cc

close_open : (i : Serial) (f : FileId) (m : OpenMode) → want.Close i ≡ want.Open f m → ⊥
close_open i f m e = cc

-- what was opened has the name that its answer tells
opened_is : (m : Mode) (i p : Serial) (f : FileId) (stamp : Option Stamp) (kept : List Stamp) (number : ℕ) → granted_answer m i f stamp kept ≡ answer.Opened p number → i ≡ p
opened_is mode.Mend i p f stamp kept number e = cc
opened_is mode.Read i p f (Some stamp) kept number e = cc
opened_is mode.Read i p f None kept number e = cc
opened_is mode.Write i p f stamp kept number e = cc
opened_is mode.Resolve i p f stamp kept number e = cc
opened_is mode.Make i p f stamp kept number e = cc

refused_opened : (p : Serial) (number : ℕ) (a : Answer) → a ≡ answer.Opened p number → (why : _) → a ≡ answer.Refused why → ⊥
refused_opened p number a e why q = cc

-- an open to write is granted of its file, and to write
write_file : (m : Mode) (f g : FileId) → is_open_of m f (want.Open g how.Write) ≡ true → (f ≡ g) × (m ≡ mode.Write)
write_file mode.Write f g e = (sym (same_file_eq g f e), refl)
write_file mode.Read f g e = absurd (true_false (sym e))
write_file mode.Resolve f g e = absurd (true_false (sym e))
write_file mode.Mend f g e = absurd (true_false (sym e))
write_file mode.Make f g e = absurd (true_false (sym e))

module _ (c : Config) (n : ℕ) (older : List Line) (h : IsFollowed c older) (d : CallId) (ys : Answers) (p : Serial) (k : ℕ) (is : log older d ≡ ys) (f : FileId) (e : script c (entries older) d None ys ≡ want.Open f how.Write) where
  -- what the call asks then
  wants : (w : Want) → Asks c older d w → w ≡ want.Open f how.Write
  wants w asks = sym asks.asked ∙ (ap (script c (entries older) d None) is ∙ e)

  open_told : (r : Record) → MayTell c older (Shown r) → StepRecord (entries older) r d → heard c (With n (Shown r) older) d ≡ ys ++ answer.Opened p k ∷ [] → OpenTold older r d p f
  open_told (says.Grant at call request i m g stamp ss) may step new = record {
    epoch = at;
    request = request;
    in_mode = m;
    stamp = stamp;
    ss = ss;
    inside = subst (IsCallIn (entries older) at) step may.row.opens.step;
    writes = opens.1;
    printed = record { epoch_is = refl; call_is = step; request_is = refl; serial_is = opened_is m i p g stamp (kept_in c (entries older) at g) k (sym told); mode_is = refl; file_is = opens.0; stamp_is = refl; place_is = refl };
  }
    where
      asks : Asks c older d may.in_time.opens.asks.wanted
      asks = subst (λ (y : CallId). Asks c older y may.in_time.opens.asks.wanted) step may.in_time.opens.asks.asks

      told : answer.Opened p k ≡ granted_answer m i g stamp (kept_in c (entries older) at g)
      told = last_same ys ys (answer.Opened p k) (granted_answer m i g stamp (kept_in c (entries older) at g)) (sym new ∙ (by_own call d _ (heard c older d) step ∙ ap (λ (xs : Answers). xs ++ granted_answer m i g stamp (kept_in c (entries older) at g) ∷ []) (asks.nothing_waits ∙ is)))

      answered : answers c (entries older) call ≡ log older call
      answered = by (hears c older call h)
        where
          by : Hears c older call → answers c (entries older) call ≡ log older call
          by (inl q) = q ∙ may.in_time.opens.asks.asks.nothing_waits
          by (inr l) = absurd (look_open l.file l.what f how.Write (sym l.looks ∙ (may.in_time.opens.asks.asks.asked ∙ wants may.in_time.opens.asks.wanted asks)))

      wanted : wants_next c (entries older) call ≡ may.in_time.opens.asks.wanted
      wanted = ap (wants_after c (entries older) call) answered ∙ wants_as_asked c (entries older) call (log older call) may.in_time.opens.asks.wanted may.in_time.opens.asks.asks.asked may.in_time.opens.asks.asks.request

      opens : (g ≡ f) × (m ≡ mode.Write)
      opens = write_file m g f (subst (λ (w : Want). is_open_of m g w ≡ true) (wanted ∙ wants may.in_time.opens.asks.wanted asks) may.row.opens.asked)
  open_told (says.Refuse at call request i m g why) may step new = absurd (refused_opened p k (answer.Opened p k) refl why
      (last_same ys ys (answer.Opened p k) (answer.Refused why) (sym new ∙ (by_own call d _ (heard c older d) step ∙ ap (λ (xs : Answers). xs ++ answer.Refused why ∷ []) (asks.nothing_waits ∙ is)))))
    where
      asks : Asks c older d may.in_time.opens.asks.wanted
      asks = subst (λ (y : CallId). Asks c older y may.in_time.opens.asks.wanted) step may.in_time.opens.asks.asks
  open_told (says.Act at i number q result) may step new = absurd (do_open i q f how.Write (wants (want.Do i q) (subst (λ (y : CallId). Asks c older y (want.Do i q)) (some_same may.in_time.call d (sym may.in_time.owner ∙ step)) may.in_time.asks)))
  open_told (says.Look at call request g w result) may step new = absurd (look_open g w f how.Write (wants (want.Look g w) (subst (λ (y : CallId). Asks c older y (want.Look g w)) step may.in_time.asks)))
  open_told (says.Release at i g stamp) may step new = absurd (close_open i f how.Write (wants (want.Close i) (subst (λ (y : CallId). Asks c older y (want.Close i)) (some_same may.in_time.call d (sym may.in_time.owner ∙ step)) may.in_time.asks)))
  open_told _ may step new = absurd step

-- the open of the file was granted to the call
pub record WasOpened (t : List Line) (d : CallId) (p : Serial) (f : FileId) : Type 0 where
  pub epoch : EpochId
  pub request : ℕ
  pub in_mode : Mode
  pub stamp : Option Stamp
  pub ss : ℕ
  pub inside : IsCallIn (entries t) epoch d
  pub writes : in_mode ≡ mode.Write
  pub granted : WasGranted t epoch d request p in_mode f stamp ss

pub open_source : (c : Config) (t : List Line) (d : CallId) (ys : Answers) (p : Serial) (k : ℕ) (f : FileId) → Source c t d ys (answer.Opened p k) → script c (entries t) d None ys ≡ want.Open f how.Write → WasOpened t d p f
open_source c t d ys p k f s e = record { epoch = z.epoch; request = z.request; in_mode = z.in_mode; stamp = z.stamp; ss = z.ss; inside = s.inside z.epoch z.inside; writes = z.writes; granted = stands c t d ys (answer.Opened p k) s (Printed (GrantRecord z.epoch d z.request p z.in_mode f z.stamp z.ss)) z.printed }
  where
    z : OpenTold s.older s.what d p f
    z = open_told c s.number s.older s.followed d ys p k s.log_is f (sym s.script_is ∙ e) s.what s.may s.step s.new
