-- A call that asks a make has it underway in the tree of its group: its probe on the directory there has passed, and no make of the
-- call has ended.
use Rattle.std.proofs.Common.{◌≡◌, ℕ, ◌+◌, ◌-◌, Bool, true, false, cond, ◌&&◌, List, [], ◌∷◌, ◌++◌, append_assoc, length, take, Option, Some, None, refl, sym, ◌∙◌, ap, subst, ◌⊎◌, inl, inr}
use Rattle.role_steps.proofs.of_plain_facts.Options.{none_some, some_same}
use Rattle.role_steps.proofs.of_plain_facts.Tests.{true_false}
use Rattle.locus_ids.specs.declared.config.Config.{Config}
use Rattle.locus_ids.specs.declared.ids.CallId.{CallId}
use Rattle.locus_ids.specs.declared.ids.EpochId.{EpochId}
use Rattle.locus_ids.specs.declared.ids.FileId.{FileId}
use Rattle.locus_ids.specs.declared.ids.Mode.{Mode}
use Rattle.locus_ids.specs.declared.ids.Mode.TheVariants as mode
use Rattle.locus_ids.specs.declared.ids.Serial.{Serial}
use Rattle.locus_ids.specs.declared.sites.Sites.{Sites}
use Rattle.trace_book.specs.Same.{same_call, same_epoch}
use Rattle.trace_book.specs.declared.call.Call.{Call}
use Rattle.trace_book.specs.declared.descriptor.Beginning.{Beginning}
use Rattle.trace_book.specs.declared.descriptor.Beginning.TheVariants as begins
use Rattle.trace_book.specs.declared.operation.Op.{Op}
use Rattle.trace_book.specs.declared.operation.Op.TheVariants as op
use Rattle.trace_book.specs.declared.operation.Outcome.{Outcome}
use Rattle.trace_book.specs.declared.operation.Outcome.TheVariants as outcome
use Rattle.trace_book.specs.declared.record.Record.{Record}
use Rattle.trace_book.specs.declared.record.Record.TheVariants as says
use Rattle.call_rules.specs.declared.answer.Answer.{Answer}
use Rattle.call_rules.specs.declared.answer.Answer.TheVariants as answer
use Rattle.call_rules.specs.declared.want.Want.{Want}
use Rattle.call_rules.specs.declared.want.Want.TheVariants as want
use Rattle.file_effects.specs.Effects.{is_refusal}
use Rattle.wire_messages.specs.declared.body.Opening.{Opening}
use Rattle.role_steps.specs.Views.{Told, LooksAgain, Shown}
use Rattle.the_run.specs.Kept.{Among}
use Rattle.the_run.specs.Worlds.{Line}
use Rattle.tree_model.specs.declared.accepted.Waiting.{Waiting}
use Rattle.tree_model.specs.declared.instance.Instance.{Instance}
use Rattle.tree_model.specs.Calls.{call_named}
use Rattle.tree_model.specs.Given.{gives_act}
use Rattle.tree_model.specs.Histories.{history}
use Rattle.tree_model.specs.State.{TreeState, instance_in, is_granted_here, is_make, is_named}
use Rattle.tree_model.specs.Tree.{is_passed_probe, kept_in, next, tree_of}
use Rattle.tree_laws.specs.of_lawful_trace.Progress.{Answers, answers_after, close_answer, granted_answer, look_answer, outcome_answer}
use Rattle.tree_laws.specs.of_lawful_trace.Tables.{begun, call_of_act, call_of_release}
use Rattle.tree_laws.specs.of_lawful_trace.TreeRows.{IsCallIn, granted_group, is_open_of}
use Rattle.tree_laws.specs.Printed.{entries}
use Rattle.tree_laws.specs.Calls.{Asks, Waits, heard, log, script, script_as}
use Rattle.tree_laws.specs.Following.{IsFollowed, MayTell}
use Rattle.tree_laws.specs.Instances.{IsOpening}
use Rattle.tree_laws.proofs.Asking.{Same, StepOf, StepRecord, Turns, heard_record, not_longer, same_told}
use Rattle.tree_laws.proofs.Awaiting.{by_own, by_owner, last_same, named_before, turn_clear}
use Rattle.tree_laws.proofs.CarriedLooks.{one_epoch}
use Rattle.tree_laws.proofs.Fresh.{IsNamed, calls_are_low, next_is_new, numbered}
use Rattle.tree_laws.proofs.Having.{Untaken, named_or_untaken}
use Rattle.tree_laws.proofs.Hearing.{take_own}
use Rattle.tree_laws.proofs.Kinship.{tree_epoch_is}
use Rattle.tree_laws.proofs.Names.{same_call_eq, same_epoch_own}
use Rattle.tree_laws.proofs.Owing.{InGroup, found_every, in_group}
use Rattle.tree_laws.proofs.Scripts.{named_stays, script_stays}
use Rattle.store_laws.proofs.Holdings.Distinct.{open_now}
use Rattle.store_laws.proofs.Places.{GrantedSo as IsGrantedSo, instance_granted}
use Rattle.store_laws.proofs.AnswerAskers.{op_had}
use Rattle.store_laws.proofs.AnswerRemovers.{open_here}
use Rattle.store_laws.proofs.OneTree.RemovePlaced.{GrantedSo, IsPlaced, Placed, granted_placed}
use Rattle.store_laws.proofs.OneTree.RemoveScripts.{Along, DirSo, along_at}
use Rattle.store_laws.proofs.OneTree.RemoveSeen.{IsWritten, is_written}
use Rattle.store_laws.specs.OneTree.MakeCallMade.{AsksMake}
use Rattle.store_laws.proofs.OneTree.MakeCallOnce.{IsMake, asked_make}
use Rattle.store_laws.proofs.OneTree.MakeCallOthers.{NotMake}
use Rattle.store_laws.proofs.OneTree.MakeCallProbing.{EndsMake, make_begins, makes_stay, probe_passes}
use Rattle.store_laws.proofs.OneTree.MakeCallScripts.{Making, no_make, script_making, uses_make}

abbrev With : ℕ → Told → List Line → List Line
With n x older = record { number = n; told = x } ∷ older

-- ---- a step of a call ----

-- it asks no operation
abbrev NotDo : Want → Type 0
NotDo (want.Do i o) = ⊥
NotDo _ = Unit {0}

-- an operation is asked and answered so; other steps are of other requests
abbrev StepAsks : Record → Want → Answer → Type 0
StepAsks (says.Act e i n o result) w a = (w ≡ want.Do i o) × (a ≡ outcome_answer result)
StepAsks r w a = NotDo w

-- the record is a step of what the call asks, and its answer waits after it
record StepNow (c : Config) (n : ℕ) (r : Record) (older : List Line) (d : CallId) : Type 0 where
  wanted : Want
  asks : Asks c older d wanted
  given : Answer
  heard_is : heard c (With n (Shown r) older) d ≡ log older d ++ given ∷ []
  sort : StepAsks r wanted given

opening_not_do : (c : Config) (w : Want) (f : FileId) (it : Opening) → IsOpening c w f it → NotDo w
opening_not_do c (want.Open file m) f it o = tt
opening_not_do c (want.OpenToMend file) f it o = tt
opening_not_do c (want.Make group kind sites) f it o = tt
opening_not_do c _ f it o = absurd o

step_now : (c : Config) (n : ℕ) (r : Record) (older : List Line) (d : CallId) → MayTell c older (Shown r) → StepRecord (entries older) r d → StepNow c n r older d
step_now c n (says.Look e call request f w result) older d may step = record {
  wanted = want.Look f w;
  asks = asks;
  given = look_answer c (entries older) f w result;
  heard_is = by_own call d (take (request - 1) (heard c older d) ++ look_answer c (entries older) f w result ∷ []) (heard c older d) step ∙ ap (λ (xs : Answers). xs ++ look_answer c (entries older) f w result ∷ []) short;
  sort = tt;
}
  where
    asks : Asks c older d (want.Look f w)
    asks = subst (λ (y : CallId). Asks c older y (want.Look f w)) step may.in_time.asks

    short : take (request - 1) (heard c older d) ≡ log older d
    short = ap (λ (m : ℕ). take (m - 1) (heard c older d)) (may.in_time.request_is ∙ ap (λ (y : CallId). length (log older y) + 1) step) ∙ (ap (take (length (log older d) + 1 - 1)) asks.nothing_waits ∙ take_own (log older d))
step_now c n (says.Grant e call request i m f stamp ss) older d may step = record {
  wanted = may.in_time.opens.asks.wanted;
  asks = asks;
  given = granted_answer m i f stamp (kept_in c (entries older) e f);
  heard_is = by_own call d (heard c older d ++ granted_answer m i f stamp (kept_in c (entries older) e f) ∷ []) (heard c older d) step ∙ ap (λ (xs : Answers). xs ++ granted_answer m i f stamp (kept_in c (entries older) e f) ∷ []) asks.nothing_waits;
  sort = opening_not_do c may.in_time.opens.asks.wanted may.in_time.opens.asked may.in_time.opens.it may.in_time.opens.asks.opening_is;
}
  where
    asks : Asks c older d may.in_time.opens.asks.wanted
    asks = subst (λ (y : CallId). Asks c older y may.in_time.opens.asks.wanted) step may.in_time.opens.asks.asks
step_now c n (says.Refuse e call request i m f why) older d may step = record {
  wanted = may.in_time.opens.asks.wanted;
  asks = asks;
  given = answer.Refused why;
  heard_is = by_own call d (heard c older d ++ answer.Refused why ∷ []) (heard c older d) step ∙ ap (λ (xs : Answers). xs ++ answer.Refused why ∷ []) asks.nothing_waits;
  sort = opening_not_do c may.in_time.opens.asks.wanted may.in_time.opens.asked may.in_time.opens.it may.in_time.opens.asks.opening_is;
}
  where
    asks : Asks c older d may.in_time.opens.asks.wanted
    asks = subst (λ (y : CallId). Asks c older y may.in_time.opens.asks.wanted) step may.in_time.opens.asks.asks
step_now c n (says.Act e i number o result) older d may step = record {
  wanted = want.Do i o;
  asks = asks;
  given = outcome_answer result;
  heard_is = by_owner (call_of_act (entries older) e i number) d (heard c older d ++ outcome_answer result ∷ []) (heard c older d) step ∙ ap (λ (xs : Answers). xs ++ outcome_answer result ∷ []) asks.nothing_waits;
  sort = (refl, refl);
}
  where
    asks : Asks c older d (want.Do i o)
    asks = subst (λ (y : CallId). Asks c older y (want.Do i o)) (some_same may.in_time.call d (sym may.in_time.owner ∙ step)) may.in_time.asks
step_now c n (says.Release e i f stamp) older d may step = record {
  wanted = want.Close i;
  asks = asks;
  given = close_answer stamp (instance_in (tree_of c e f.group (entries older)) i);
  heard_is = by_owner (call_of_release (entries older) e i) d (heard c older d ++ close_answer stamp (instance_in (tree_of c e f.group (entries older)) i) ∷ []) (heard c older d) step
      ∙ ap (λ (xs : Answers). xs ++ close_answer stamp (instance_in (tree_of c e f.group (entries older)) i) ∷ []) asks.nothing_waits;
  sort = tt;
}
  where
    asks : Asks c older d (want.Close i)
    asks = subst (λ (y : CallId). Asks c older y (want.Close i)) (some_same may.in_time.call d (sym may.in_time.owner ∙ step)) may.in_time.asks
step_now c n _ older d may step = absurd step

-- what was heard was taken, or its last answer waits
heard_split : (c : Config) (t : List Line) → IsFollowed c t → (d : CallId) → (heard c t d ≡ log t d) ⊎ ((a : Answer) × Waits c t d a)
heard_split c [] h d = inl refl
heard_split c (x ∷ older) h d = over x.told h.0 (heard_split c older h.1 d) (same_told c older x.number x.told d)
  where
    over : (y : Told) → MayTell c older y → (heard c older d ≡ log older d) ⊎ ((a : Answer) × Waits c older d a) → Same c older x.number y d ⊎ (StepOf older y d ⊎ Turns y d) → (heard c (With x.number y older) d ≡ log (With x.number y older) d) ⊎ ((a : Answer) × Waits c (With x.number y older) d a)
    over y may (inl k) (inl s) = inl (s.heard_same ∙ (k ∙ sym s.log_same))
    over y may (inr w) (inl s) = inr (w.0, s.heard_same ∙ (w.1 ∙ ap (λ (xs : Answers). xs ++ w.0 ∷ []) (sym s.log_same)))
    over (Shown r) may k (inr (inl step)) = (let s : StepNow c x.number r older d = step_now c x.number r older d may step in inr (s.given, s.heard_is))
    over y may k (inr (inr turn)) = inl (turn_clear c x.number y older d may turn)
    over _ may k (inr (inl step)) = absurd step

-- ---- a make that has ended isn't asked ----

-- what an open of a make was asked
made_asked : (m : Mode) (f : FileId) (w : Want) → is_make m ≡ true → is_open_of m f w ≡ true → (group : ℕ) × IsMake w group
made_asked mode.Make f (want.Make group k sites) e o = (group, record { kind = k; sites = sites; is = refl })
made_asked mode.Make f _ e o = absurd (true_false (sym o))
made_asked _ f w e o = absurd (true_false (sym e))

-- the script asks a make after all that was heard
abbrev pub Underway : Config → List Line → CallId → ℕ → Type 0
Underway c t d group = IsMake (script c (entries t) d None (heard c t d)) group

-- then no instance of a make is the call's
pub no_made : (c : Config) (t : List Line) → IsFollowed c t → (e : EpochId) (d : CallId) (group other : ℕ) (i : Serial) (x : Instance) → Underway c t d group → instance_in (tree_of c e other (entries t)) i ≡ Some x → is_make x.grant.mode ≡ true → x.grant.call ≡ d → ⊥
no_made c t h e d group other i x u found makes same = over p.place
  where
    was : IsGrantedSo t e x.grant × (x.grant.inst ≡ i)
    was = instance_granted c t e i x (open_now c t h e other i x found)

    p : Placed c t d (GrantedSo x.grant.mode x.grant.file x.grant.inst)
    p = subst (λ (y : CallId). Placed c t y (GrantedSo x.grant.mode x.grant.file x.grant.inst)) same (granted_placed c t h e x.grant.call was.0.request x.grant.inst x.grant.mode x.grant.file was.0.stamp x.grant.ss was.0.was_granted)

    w : (g : ℕ) × IsMake p.asked g
    w = made_asked x.grant.mode x.grant.file p.asked makes p.fits.0

    m : Making (script c (entries t) d None) p.before w.0
    m = script_making c (entries t) (call_named (entries t) d) (begun (entries t) d) w.0 w.1.kind w.1.sites p.before (p.script_is ∙ w.1.is)

    later : (a : Answer) (ys : Answers) → heard c t d ≡ p.before ++ a ∷ ys → ⊥
    later a ys q = no_make (script c (entries t) d None (heard c t d)) group u.kind u.sites (subst (λ (xs : Answers). NotMake (script c (entries t) d None xs)) (sym q) (m.once a ys)) u.is

    over : IsPlaced c d p.before p.given t → ⊥
    over (inl k) = later p.given [] (k.1 ∙ ap (λ (xs : Answers). xs ++ p.given ∷ []) k.0)
    over (inr k) = at (heard_split c t h d)
      where
        at : (heard c t d ≡ log t d) ⊎ ((a : Answer) × Waits c t d a) → ⊥
        at (inl q) = later p.given k.0 (q ∙ k.1)
        at (inr q) = later p.given (k.0 ++ q.0 ∷ []) (q.1 ∙ (ap (λ (xs : Answers). xs ++ q.0 ∷ []) k.1 ∙ append_assoc p.before (p.given ∷ k.0) (q.0 ∷ [])))

-- a record that leaves what was heard ends no make of the call
no_end : (c : Config) (r : Record) (older : List Line) → IsFollowed c older → (e : EpochId) (d : CallId) (group : ℕ) → Underway c older d group → answers_after r c (entries older) d (heard c older d) ≡ heard c older d → EndsMake (tree_of c e group (entries older)) d r → ⊥
no_end c (says.Refuse at call request i m f why) older h e d group u same ends = not_longer (answers_after (says.Refuse at call request i m f why) c (entries older) d (heard c older d)) (heard c older d) (answer.Refused why) same (by_own call d (heard c older d ++ answer.Refused why ∷ []) (heard c older d) ends.3)
no_end c (says.Release at i f stamp) older h e d group u same ends = no_made c older h e d group group i ends.1.0 u ends.1.1 (ap is_make ends.1.2) ends.1.3
no_end c _ older h e d group u same ends = absurd ends

-- ---- the probe passes ----

init_same : (xs ys : Answers) (a b : Answer) → xs ++ a ∷ [] ≡ ys ++ b ∷ [] → xs ≡ ys
init_same [] [] a b e = refl
init_same [] (y ∷ ys) a b e = absurd (empty ys b (tails a y [] (ys ++ b ∷ []) e))
  where
    tails : (x y : Answer) (ps qs : Answers) → x ∷ ps ≡ y ∷ qs → ps ≡ qs
    tails x y ps qs k = cc

    empty : (qs : Answers) (q : Answer) → [] ≡ qs ++ q ∷ [] → ⊥
    empty [] q k = cc
    empty (x ∷ qs) q k = cc
init_same (x ∷ xs) [] a b e = absurd (empty xs a (tails x b (xs ++ a ∷ []) [] e))
  where
    tails : (x y : Answer) (ps qs : Answers) → x ∷ ps ≡ y ∷ qs → ps ≡ qs
    tails x y ps qs k = cc

    empty : (qs : Answers) (q : Answer) → qs ++ q ∷ [] ≡ [] → ⊥
    empty [] q k = cc
    empty (x ∷ qs) q k = cc
init_same (x ∷ xs) (y ∷ ys) a b e = both x y xs ys (heads x y (xs ++ a ∷ []) (ys ++ b ∷ []) e) (init_same xs ys a b (tails x y (xs ++ a ∷ []) (ys ++ b ∷ []) e))
  where
    heads : (x y : Answer) (ps qs : Answers) → x ∷ ps ≡ y ∷ qs → x ≡ y
    heads x y ps qs k = cc

    tails : (x y : Answer) (ps qs : Answers) → x ∷ ps ≡ y ∷ qs → ps ≡ qs
    tails x y ps qs k = cc

    both : (x y : Answer) (ps qs : Answers) → x ≡ y → ps ≡ qs → x ∷ ps ≡ y ∷ qs
    both x y ps qs p q = cc

did_plain : (r result : Outcome) → outcome_answer r ≡ answer.Did result → is_refusal r ≡ false
did_plain (outcome.No why) result e = absurd (refused e)
  where
    refused : answer.Refused why ≡ answer.Did result → ⊥
    refused k = cc
did_plain outcome.Done result e = refl
did_plain (outcome.Found ino k) result e = refl
did_plain (outcome.Data bytes) result e = refl
did_plain (outcome.Committed stamp) result e = refl

do_serial : (i j : Serial) (o p : Op) → want.Do i o ≡ want.Do j p → i ≡ j
do_serial i j o p e = cc

do_op : (i j : Serial) (o p : Op) → want.Do i o ≡ want.Do j p → o ≡ p
do_op i j o p e = cc

-- a step after which the script asks a make is the probe on its directory, and it has passed
module _ (c : Config) (n : ℕ) (r : Record) (older : List Line) (h : IsFollowed c older) (may : MayTell c older (Shown r)) (e : EpochId) (d : CallId) (group : ℕ) (inside : IsCallIn (entries older) e d) (step : StepRecord (entries older) r d) (u : Underway c (With n (Shown r) older) d group) where
  abbrev so_far : Answers → Want
  so_far = script c (entries older) d None

  s : StepNow c n r older d
  s = step_now c n r older d may step

  makes : IsMake (so_far (log older d ++ s.given ∷ [])) group
  makes = record { kind = u.kind; sites = u.sites; is = sym (script_stays c n (Shown r) older d None (log older d ++ s.given ∷ []) h may (inside.accepted, inside.named)) ∙ (ap (script c (entries (With n (Shown r) older)) d None) (sym s.heard_is) ∙ u.is) }

  m : Making so_far (log older d ++ s.given ∷ []) group
  m = script_making c (entries older) (call_named (entries older) d) (begun (entries older) d) group makes.kind makes.sites (log older d ++ s.given ∷ []) makes.is

  before_is : log older d ≡ m.before
  before_is = init_same (log older d) m.before s.given (answer.Did m.result) m.answers_are

  given_is : s.given ≡ answer.Did m.result
  given_is = last_same (log older d) m.before s.given (answer.Did m.result) m.answers_are

  probes_now : so_far (log older d) ≡ want.Do m.inst (op.Probe m.name)
  probes_now = ap so_far before_is ∙ m.probes

  asked : s.wanted ≡ want.Do m.inst (op.Probe m.name)
  asked = sym s.asks.asked ∙ probes_now

  walks : (j : Serial) → begun (entries older) d ≡ Some (begins.Uses e j) → ⊥
  walks j b = no_make (so_far (log older d ++ s.given ∷ [])) group makes.kind makes.sites (subst (λ (o : Option Beginning). NotMake (script_as c (entries older) (call_named (entries older) d) o None (log older d ++ s.given ∷ []))) (sym b) (uses_make c (entries older) (call_named (entries older) d) e j (log older d ++ s.given ∷ []))) makes.is

  in_dir : IsWritten c older e d m.inst m.dir m.number
  in_dir = is_written c older h e d inside s.wanted s.asks walks m.inst m.dir m.number (op_had c older d m.inst (op.Probe m.name) h (inside.accepted, inside.named) probes_now)
      (λ xs ys a same o. (along_at (DirSo m.inst m.dir m.number) so_far xs a ys (subst (Along (DirSo m.inst m.dir m.number) so_far) (sym before_is ∙ same) m.on_dir)).opens o)

  abbrev tree : TreeState
  tree = tree_of c e group (entries older)

  group_same : granted_group (entries older) e m.inst ≡ group
  group_same = sym (found_every (InGroup (granted_group (entries older) e m.inst)) (is_named m.inst) (tree_of c e (granted_group (entries older) e m.inst) (entries older)).instances in_dir.at in_dir.found (in_group c e (granted_group (entries older) e m.inst) (entries older)))
      ∙ (ap (λ (f : FileId). f.group) in_dir.file_is ∙ m.group_is)

  found : instance_in tree m.inst ≡ Some in_dir.at
  found = subst (λ (g : ℕ). instance_in (tree_of c e g (entries older)) m.inst ≡ Some in_dir.at) group_same in_dir.found

  probed : (r : Record) → MayTell c older (Shown r) → StepRecord (entries older) r d → StepAsks r s.wanted s.given → Among d (next (history c (entries older)) r tree).makes
  probed (says.Act at i number o result) m_act step sort = subst (λ (j : Serial). Among d (next (history c (entries older)) (says.Act at j number o result) tree).makes) (sym (do_serial i m.inst o (op.Probe m.name) is))
      (subst (λ (z : Op). Among d (next (history c (entries older)) (says.Act at m.inst number z result) tree).makes) (sym (do_op i m.inst o (op.Probe m.name) is))
      (make_begins (history c (entries older)) tree d at m.inst number m.name result in_dir.at here passed found in_dir.call_is))
    where
      is : want.Do i o ≡ want.Do m.inst (op.Probe m.name)
      is = sym sort.0 ∙ asked

      epoch_is : at ≡ e
      epoch_is = one_epoch older at e d (subst (IsCallIn (entries older) at) (some_same m_act.row.step.call d (sym m_act.row.step.owned ∙ step)) m_act.row.step.step) inside

      both : (a b : Bool) → a ≡ true → b ≡ true → (a && b) ≡ true
      both true true p q = refl
      both true false p q = q
      both false b p q = p

      here : (same_epoch at tree.epoch && is_granted_here tree m.inst) ≡ true
      here = both (same_epoch at tree.epoch) (is_granted_here tree m.inst) (ap (same_epoch at) (tree_epoch_is c e group (entries older)) ∙ subst (λ (z : EpochId). same_epoch z e ≡ true) (sym epoch_is) (same_epoch_own e)) (open_here c older h e group m.inst in_dir.at found)

      passed : is_passed_probe (op.Probe m.name) result ≡ true
      passed = probe_passes (history c (entries older)) (tree_of c at (granted_group (entries older) at i) (entries older)) i number m.name result
          (subst (λ (z : Op). gives_act (history c (entries older)) (tree_of c at (granted_group (entries older) at i) (entries older)) i number z result ≡ true) (do_op i m.inst o (op.Probe m.name) is) m_act.row.gives) (did_plain result m.result (sym sort.1 ∙ given_is))
  probed _ m_act step sort = absurd (subst NotDo asked sort)

  step_makes : Among d (next (history c (entries older)) r tree).makes
  step_makes = probed r may step s.sort

-- ---- line by line ----

looked_no_make : (c : Config) (n s : ℕ) (call : CallId) (request times : ℕ) (older : List Line) (d : CallId) (group : ℕ) → MayTell c older (LooksAgain s call request times) → call ≡ d → Underway c (With n (LooksAgain s call request times) older) d group → ⊥
looked_no_make c n s call request times older d group may same u = other (sym looks ∙ (ap (script c (entries older) d None) (sym clear) ∙ u.is))
  where
    clear : heard c (With n (LooksAgain s call request times) older) d ≡ log older d
    clear = turn_clear c n (LooksAgain s call request times) older d may same

    looks : script c (entries older) d None (log older d) ≡ want.Look may.file may.what
    looks = subst (λ (y : CallId). script c (entries older) y None (log older y) ≡ want.Look may.file may.what) same may.looks

    other : want.Look may.file may.what ≡ want.Make group u.kind u.sites → ⊥
    other q = cc

underway_old : (c : Config) (n : ℕ) (x : Told) (older : List Line) → IsFollowed c older → MayTell c older x → (e : EpochId) (d : CallId) (group : ℕ) → IsCallIn (entries older) e d → (Underway c older d group → Among d (tree_of c e group (entries older)).makes) → Underway c (With n x older) d group → Among d (tree_of c e group (entries (With n x older))).makes
underway_old c n (Shown r) older h may e d group inside later u = over (heard_record c r (entries older) d (heard c older d))
  where
    over : (answers_after r c (entries older) d (heard c older d) ≡ heard c older d) ⊎ StepRecord (entries older) r d → Among d (next (history c (entries older)) r (tree_of c e group (entries older))).makes
    over (inr step) = step_makes c n r older h may e d group inside step u
    over (inl same) = stays (makes_stay (history c (entries older)) (tree_of c e group (entries older)) d (later was) r)
      where
        was : Underway c older d group
        was = record { kind = u.kind; sites = u.sites; is = sym (script_stays c n (Shown r) older d None (heard c older d) h may (inside.accepted, inside.named)) ∙ (ap (script c (entries (With n (Shown r) older)) d None) (sym same) ∙ u.is) }

        stays : EndsMake (tree_of c e group (entries older)) d r ⊎ Among d (next (history c (entries older)) r (tree_of c e group (entries older))).makes → Among d (next (history c (entries older)) r (tree_of c e group (entries older))).makes
        stays (inl ends) = absurd (no_end c r older h e d group was same ends)
        stays (inr among) = among
underway_old c n (LooksAgain s call request times) older h may e d group inside later u = over (same_call call d) refl u
  where
    over : (b : Bool) → same_call call d ≡ b → Underway c (With n (LooksAgain s call request times) older) d group → Among d (tree_of c e group (entries older)).makes
    over true q k = absurd (looked_no_make c n s call request times older d group may (same_call_eq call d q) k)
    over false q k = later (record { kind = k.kind; sites = k.sites; is = ap (λ (b : Bool). script c (entries older) d None (cond b (take (request - 1) (heard c older d)) (heard c older d))) (sym q) ∙ k.is })
underway_old c n _ older h may e d group inside later u = later (record { kind = u.kind; sites = u.sites; is = u.is })

underway_new : (c : Config) (n s process : ℕ) (d : CallId) (words : Call) (older : List Line) (group : ℕ) → IsFollowed c older → MayTell c older (Shown (says.Accept s process d words)) → Underway c (With n (Shown (says.Accept s process d words)) older) d group → ⊥
underway_new c n s process d words older group h may u = over (named_or_untaken c older h d)
  where
    m : Making (script c (entries (With n (Shown (says.Accept s process d words)) older)) d None) (heard c older d) group
    m = script_making c (entries (With n (Shown (says.Accept s process d words)) older)) (call_named (entries (With n (Shown (says.Accept s process d words)) older)) d) (begun (entries (With n (Shown (says.Accept s process d words)) older)) d) group u.kind u.sites (heard c older d) u.is

    empty : (xs : Answers) (a : Answer) → [] ≡ xs ++ a ∷ [] → ⊥
    empty [] a k = cc
    empty (x ∷ xs) a k = cc

    over : IsNamed (entries older) d ⊎ Untaken c older d → ⊥
    over (inl named) = next_is_new (entries older) s d (calls_are_low c older h d named) (numbered c (entries older) s process d words may.row)
    over (inr k) = empty m.before (answer.Did m.result) (sym k.heard_is ∙ m.answers_are)

pub underway : (c : Config) (t : List Line) → IsFollowed c t → (e : EpochId) (d : CallId) (group : ℕ) → IsCallIn (entries t) e d → Underway c t d group → Among d (tree_of c e group (entries t)).makes
underway c [] h e d group inside u = absurd (none_some inside.accepted inside.named)
underway c (x ∷ older) h e d group inside u = at (λ here k. underway c older h.1 e d group here k)
  where
    at : (IsCallIn (entries older) e d → Underway c older d group → Among d (tree_of c e group (entries older)).makes) → Among d (tree_of c e group (entries (x ∷ older))).makes
    at later = named_before c x.number x.told older d (Among d (tree_of c e group (entries (x ∷ older))).makes) h.0 new old (inside.accepted, inside.named)
      where
        new : (s process : ℕ) (words : Call) → x.told ≡ Shown (says.Accept s process d words) → Among d (tree_of c e group (entries (x ∷ older))).makes
        new s process words is = absurd (underway_new c x.number s process d words older group h.1 (subst (MayTell c older) is h.0) (subst (λ (y : Told). Underway c (With x.number y older) d group) is u))

        old : IsNamed (entries older) d → Among d (tree_of c e group (entries (x ∷ older))).makes
        old named = (let here : IsCallIn (entries older) e d = record { accepted = named.0; named = named.1; made_in = ap (λ (w : Waiting). w.epoch) (some_same named.0 inside.accepted (sym (named_stays c x.number x.told older d h.1 h.0 named ∙ named.1) ∙ inside.named)) ∙ inside.made_in } in
            underway_old c x.number x.told older h.1 h.0 e d group here (λ k. later here k) u)

-- a make that is asked is underway
pub makes_have_probed : (c : Config) (trace : List Line) → IsFollowed c trace → (e : EpochId) (d : CallId) (i : Serial) (group : ℕ) (set : Sites) → AsksMake c trace e d i group set → Among d (tree_of c e group (entries trace)).makes
makes_have_probed c t h e d i group set k = underway c t h e d group k.asks.inside (record { kind = w.kind; sites = w.sites; is = ap (script c (entries t) d None) k.asks.asks.nothing_waits ∙ w.is })
  where
    w : IsMake (script c (entries t) d None (log t d)) group
    w = asked_make c t e d i group set k
