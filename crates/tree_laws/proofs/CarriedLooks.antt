-- What packets of looks and opens carry stays when a line is added.
use Rattle.std.proofs.Common.{◌≡◌, ℕ, ◌+◌, List, ◌∷◌, length, refl, sym, ◌∙◌, ap, subst, ◌⊎◌, inl, inr}
use Rattle.the_run.proofs.of_plain_facts.Options.{some_same}
use Rattle.locus_ids.specs.declared.config.Config.{Config}
use Rattle.locus_ids.specs.declared.ids.CallId.{CallId}
use Rattle.locus_ids.specs.declared.ids.EpochId.{EpochId}
use Rattle.locus_ids.specs.declared.ids.FileId.{FileId}
use Rattle.trace_book.specs.declared.operation.Served.{Served}
use Rattle.trace_book.specs.declared.operation.What.{What}
use Rattle.trace_book.specs.declared.record.Record.{Record}
use Rattle.trace_book.specs.declared.record.Record.TheVariants as says
use Rattle.call_rules.specs.declared.want.Want.{Want}
use Rattle.call_rules.specs.declared.want.Want.TheVariants as want
use Rattle.the_run.specs.of_role_steps.Views.{Told, Shown}
use Rattle.the_run.specs.Worlds.{Line}
use Rattle.lawful_trace.specs.of_tree_model.declared.accepted.Waiting.{Waiting}
use Rattle.lawful_trace.specs.Progress.{Answers}
use Rattle.lawful_trace.specs.TreeRows.{IsCallIn}
use Rattle.tree_laws.specs.Printed.{entries}
use Rattle.tree_laws.specs.Calls.{log, Asks, request_number}
use Rattle.tree_laws.specs.Past.{WasLooked, LookRecord}
use Rattle.tree_laws.specs.Instances.{IsOpening}
use Rattle.tree_laws.specs.Following.{MayTell, IsFollowed}
use Rattle.tree_laws.specs.Packets.{IsCallOf, LooksNow, LookFact}
use Rattle.tree_laws.proofs.Scripts.{in_stays, named_stays}
use Rattle.tree_laws.proofs.Asking.{AsksStill, StepRecord, StepOf, asks_stays}

-- the trace with a line more
abbrev pub More : ℕ → Told → List Line → List Line
More n x older = record { number = n; told = x } ∷ older

pub call_of_stays : (c : Config) (n : ℕ) (x : Told) (older : List Line) → IsFollowed c older → MayTell c older x → (e : EpochId) (us k process : ℕ) (d : CallId) → IsCallOf older e us k process d → IsCallOf (More n x older) e us k process d
call_of_stays c n x older h may e us k process d f = record {
  site_is = f.site_is;
  number_is = f.number_is;
  inside = in_stays c n x older e d h may f.inside;
  caller = f.caller;
  named = named_stays c n x older d h may (f.caller, f.named) ∙ f.named;
  process_is = f.process_is;
}

-- a call is of one epoch
pub one_epoch : (older : List Line) (e f : EpochId) (d : CallId) → IsCallIn (entries older) e d → IsCallIn (entries older) f d → e ≡ f
one_epoch older e f d a b = some_same e f (sym a.made_in ∙ (ap (λ (w : Waiting). w.epoch) (some_same a.accepted b.accepted (sym a.named ∙ b.named)) ∙ b.made_in))

-- a call asks one thing
pub one_want : (c : Config) (older : List Line) (d : CallId) (v w : Want) → Asks c older d v → Asks c older d w → v ≡ w
one_want c older d v w a b = sym a.asked ∙ b.asked

pub number_same : (n : ℕ) (x : Told) (older : List Line) (d : CallId) → log (More n x older) d ≡ log older d → request_number older d ≡ request_number (More n x older) d
number_same n x older d e = ap (λ (xs : Answers). length xs + 1) (sym e)

-- ---- Look ----

look_parts : (f g : FileId) (v w : What) → want.Look f v ≡ want.Look g w → (f ≡ g) × (v ≡ w)
look_parts f g v w e = (same_file_is, same_what_is)
  where
    same_file_is : f ≡ g
    same_file_is = cc

    same_what_is : v ≡ w
    same_what_is = cc

-- a step of a call that asks a look is that look
looked_now : (c : Config) (older : List Line) (e : EpochId) (d : CallId) (request times : ℕ) (f : FileId) (w : What) (r : Record) → MayTell c older (Shown r) → IsCallIn (entries older) e d → LooksNow c older d request times f w → StepRecord (entries older) r d → (result : Served) × LookRecord e d request times f w result older r
looked_now c older e d request times f w (says.Look at call number file what result) may inside k step = (let parts : (file ≡ f) × (what ≡ w) = look_parts file f what w (one_want c older d (want.Look file what) (want.Look f w) (subst (λ (y : CallId). Asks c older y (want.Look file what)) step may.in_time.asks) k.asks) in (
  result,
  record {
    epoch_is = one_epoch older at e d (subst (λ (y : CallId). IsCallIn (entries older) at y) step may.row.step) inside;
    call_is = step;
    request_is = may.in_time.request_is ∙ (ap (request_number older) step ∙ sym k.request_is);
    tries_are = sym k.tries_are;
    file_is = parts.0;
    what_is = parts.1;
    served_is = refl;
  },
))
looked_now c older e d request times f w (says.Grant at call number i m file stamp ss) may inside k step = absurd (other may.in_time.opens.asks.wanted may.in_time.opens.asks.opening_is (one_want c older d may.in_time.opens.asks.wanted (want.Look f w) (subst (λ (y : CallId). Asks c older y may.in_time.opens.asks.wanted) step may.in_time.opens.asks.asks) k.asks))
  where
    other : (v : Want) → IsOpening c v may.in_time.opens.asked may.in_time.opens.it → v ≡ want.Look f w → ⊥
    other v o e = (subst (λ (y : Want). IsOpening c y may.in_time.opens.asked may.in_time.opens.it) e o)
looked_now c older e d request times f w (says.Refuse at call number i m file why) may inside k step = absurd (other may.in_time.opens.asks.wanted may.in_time.opens.asks.opening_is (one_want c older d may.in_time.opens.asks.wanted (want.Look f w) (subst (λ (y : CallId). Asks c older y may.in_time.opens.asks.wanted) step may.in_time.opens.asks.asks) k.asks))
  where
    other : (v : Want) → IsOpening c v may.in_time.opens.asked may.in_time.opens.it → v ≡ want.Look f w → ⊥
    other v o e = (subst (λ (y : Want). IsOpening c y may.in_time.opens.asked may.in_time.opens.it) e o)
looked_now c older e d request times f w (says.Act at i number o result) may inside k step = absurd (other (one_want c older d (want.Do i o) (want.Look f w) (subst (λ (y : CallId). Asks c older y (want.Do i o)) (some_same may.in_time.call d (sym may.in_time.owner ∙ step)) may.in_time.asks) k.asks))
  where
    other : want.Do i o ≡ want.Look f w → ⊥
    other e = cc
looked_now c older e d request times f w (says.Release at i file stamp) may inside k step = absurd (other (one_want c older d (want.Close i) (want.Look f w) (subst (λ (y : CallId). Asks c older y (want.Close i)) (some_same may.in_time.call d (sym may.in_time.owner ∙ step)) may.in_time.asks) k.asks))
  where
    other : want.Close i ≡ want.Look f w → ⊥
    other e = cc
looked_now c older e d request times f w _ may inside k step = absurd step

look_told : (c : Config) (n : ℕ) (x : Told) (older : List Line) (e : EpochId) (d : CallId) (request times : ℕ) (f : FileId) (w : What) → IsFollowed c older → MayTell c older x → IsCallIn (entries older) e d → LooksNow c older d request times f w →
    ((result : Served) × WasLooked (More n x older) e d request times f w result) ⊎ LooksNow c (More n x older) d request times f w
look_told c n x older e d request times f w h may inside k = over x may (asks_stays c n x older d (want.Look f w) h may (inside.accepted, inside.named) k.asks)
  where
    over : (y : Told) → MayTell c older y → AsksStill c older n y d (want.Look f w) ⊎ StepOf older y d → ((result : Served) × WasLooked (More n y older) e d request times f w result) ⊎ LooksNow c (More n y older) d request times f w
    over y m (inl s) = inr (record { asks = s.asks; request_is = k.request_is ∙ number_same n y older d s.log_same; tries_are = k.tries_are ∙ sym s.tries_same })
    over (Shown r) m (inr s) = (let l : (result : Served) × LookRecord e d request times f w result older r = looked_now c older e d request times f w r m inside k s in inl (l.0, inl l.1))
    over _ m (inr s) = absurd s

pub look_stays : (c : Config) (n : ℕ) (x : Told) (older : List Line) → IsFollowed c older → MayTell c older x → (e : EpochId) (us k process request times : ℕ) (f : FileId) (w : What) → LookFact c older e us k process request times f w → LookFact c (More n x older) e us k process request times f w
look_stays c n x older h may e us k process request times f w l = record {
  call = l.call;
  is_call = call_of_stays c n x older h may e us k process l.call l.is_call;
  stands = over l.stands;
}
  where
    over : ((result : Served) × WasLooked older e l.call request times f w result) ⊎ LooksNow c older l.call request times f w → ((result : Served) × WasLooked (More n x older) e l.call request times f w result) ⊎ LooksNow c (More n x older) l.call request times f w
    over (inl p) = inl (p.0, inr p.1)
    over (inr k) = look_told c n x older e l.call request times f w h may l.is_call.inside k
