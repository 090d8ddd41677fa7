-- The last look of a process in a group is that of a call that has come so far; so it is no later than what the process asks now.
use Rattle.std.proofs.Common.{◌≡◌, ℕ, ◌+◌, ◌-◌, ◌<◌, ◌≤◌, ◌==◌, Bool, true, false, ◌&&◌, cond, List, [], ◌∷◌, ◌++◌, length, take, Option, Some, None, refl, sym, ◌∙◌, ap, subst, ◌⊎◌, inl, inr, arith}
use Rattle.std.proofs.lemmas.Bool.Decides.{nat_tests}
use Rattle.role_steps.proofs.of_plain_facts.Numbers.{equal}
use Rattle.role_steps.proofs.of_plain_facts.Options.{none_some, some_same}
use Rattle.role_steps.proofs.of_plain_facts.Tests.{and_first, and_second, true_false}
use Rattle.locus_ids.specs.declared.config.Config.{Config}
use Rattle.locus_ids.specs.declared.ids.CallId.{CallId}
use Rattle.locus_ids.specs.declared.ids.EpochId.{EpochId}
use Rattle.locus_ids.specs.declared.ids.FileId.{FileId}
use Rattle.trace_book.specs.Same.{same_epoch}
use Rattle.trace_book.specs.declared.operation.Served.{Served}
use Rattle.trace_book.specs.declared.operation.What.{What}
use Rattle.trace_book.specs.declared.record.Record.{Record}
use Rattle.trace_book.specs.declared.record.Record.TheVariants as says
use Rattle.call_rules.specs.declared.answer.Answer.{Answer}
use Rattle.role_steps.specs.Looks.{LookRequest, is_look_before}
use Rattle.role_steps.specs.Views.{Told, Shown}
use Rattle.role_steps.specs.declared.synchronizing.LastLook.{LastLook}
use Rattle.the_run.specs.Worlds.{Line}
use Rattle.tree_model.specs.declared.accepted.Waiting.{Waiting}
use Rattle.tree_model.specs.Calls.{call_named}
use Rattle.lawful_trace.specs.Progress.{look_answer}
use Rattle.lawful_trace.specs.TreeRows.{IsCallIn}
use Rattle.tree_laws.specs.Printed.{entries}
use Rattle.tree_laws.specs.Calls.{heard, is_request, log, request_number, tries}
use Rattle.tree_laws.specs.Following.{IsFollowed, MayTell}
use Rattle.tree_laws.specs.Processes.{IsUpTo, OnlyMends, turn_by}
use Rattle.tree_laws.specs.Serials.{asked_now}
use Rattle.tree_laws.specs.Tables.{Turn, is_look_of, last_turn, turn_record, turn_told}
use Rattle.tree_laws.proofs.Alone.{compare, call_is}
use Rattle.tree_laws.proofs.Awaiting.{by_own}
use Rattle.tree_laws.proofs.Hearing.{take_own}
use Rattle.tree_laws.proofs.Looking.{mend_asks}
use Rattle.tree_laws.proofs.Names.{same_epoch_eq}
use Rattle.tree_laws.proofs.OneBoot.{one_boot}
use Rattle.tree_laws.proofs.Scripts.{named_stays}
use Rattle.rest_laws.specs.of_tree_laws.Orders.ProcessAnswered.{WasAnswered}
use Rattle.rest_laws.proofs.of_tree_laws.Orders.ProcessCurrent.{Reached, reached}
use Rattle.calm_laws.proofs.CalmAnswerOneCall.{LooksIn, IsCaller, earlier_idle}

abbrev With : ℕ → Told → List Line → List Line
With n x older = record { number = n; told = x } ∷ older

-- ---- whose look was the last ----

pub record IsLookedBy (c : Config) (t : List Line) (e : EpochId) (group us process : ℕ) (u : Turn) : Type 0 where
  pub by : CallId
  pub inside : IsCallIn (entries t) e by
  pub site_is : by.site ≡ us
  pub process_is : inside.accepted.process ≡ process
  pub number_is : by.n ≡ u.call
  pub mends : LooksIn group inside.accepted.words
  pub answer : Answer
  pub answered : WasAnswered c t by u.request u.times answer

looked_stays : (c : Config) (n : ℕ) (x : Told) (older : List Line) (e : EpochId) (group us process : ℕ) (u : Turn) → IsFollowed c older → MayTell c older x → IsLookedBy c older e group us process u → IsLookedBy c (With n x older) e group us process u
looked_stays c n x older e group us process u h may l = record {
  by = l.by;
  inside = record { accepted = l.inside.accepted; named = named_stays c n x older l.by h may (l.inside.accepted, l.inside.named) ∙ l.inside.named; made_in = l.inside.made_in };
  site_is = l.site_is;
  process_is = l.process_is;
  number_is = l.number_is;
  mends = l.mends;
  answer = l.answer;
  answered = inr l.answered;
}

-- what was heard before the record, but for what the request is answered
before_it : (c : Config) (older : List Line) (d : CallId) (number : ℕ) → heard c older d ≡ log older d → number ≡ request_number older d → take (number - 1) (heard c older d) ≡ log older d
before_it c older d number nothing at = ap (λ (m : ℕ). take (m - 1) (heard c older d)) at ∙ (ap (take (length (log older d) + 1 - 1)) nothing ∙ take_own (log older d))

module _ (c : Config) (n : ℕ) (older : List Line) (at : EpochId) (it : CallId) (number : ℕ) (file : FileId) (w : What) (served : Served) (h : IsFollowed c older) (may : MayTell c older (Shown (says.Look at it number file w served))) where
  abbrev x : Told
  x = Shown (says.Look at it number file w served)

  abbrev caller : Waiting
  caller = may.row.step.accepted

  own : IsLookedBy c (With n x older) at file.group it.site caller.process (turn_by it number (tries older it))
  own = record {
    by = it;
    inside = record { accepted = may.row.step.accepted; named = may.row.step.named; made_in = may.row.step.made_in };
    site_is = refl;
    process_is = refl;
    number_is = refl;
    mends = mend_asks c older it caller file w may.row.step.named may.in_time.asks;
    answer = look_answer c (entries older) file w served;
    answered = inl (record {
      step = refl;
      request_is = sym may.in_time.request_is;
      times_are = refl;
      answer_is = λ m. by_own it it (take (number - 1) (heard c older it) ++ look_answer c (entries older) file w served ∷ []) (heard c older it) refl
          ∙ ap (λ (xs : List Answer). xs ++ look_answer c (entries older) file w served ∷ []) (before_it c older it number may.in_time.asks.nothing_waits may.in_time.request_is);
    });
  }

  its : (e : EpochId) (group us process : ℕ) → is_look_of older e group us at it file (call_named (entries older) it) process ≡ true → IsLookedBy c (With n x older) e group us process (turn_by it number (tries older it))
  its e group us process test = over (sym (ap (λ (o : Option Waiting). is_look_of older e group us at it file o process) may.row.step.named) ∙ test)
    where
      over : (same_epoch at e && ((file.group == group) && ((it.site == us) && (caller.process == process)))) ≡ true → IsLookedBy c (With n x older) e group us process (turn_by it number (tries older it))
      over y =
          let a : ((file.group == group) && ((it.site == us) && (caller.process == process))) ≡ true = and_second (same_epoch at e) _ y in
          let b : ((it.site == us) && (caller.process == process)) ≡ true = and_second (file.group == group) _ a in
          subst (λ (p : ℕ). IsLookedBy c (With n x older) e group us p (turn_by it number (tries older it))) (equal caller.process process (and_second (it.site == us) _ b))
          (subst (λ (m : ℕ). IsLookedBy c (With n x older) e group m caller.process (turn_by it number (tries older it))) (equal it.site us (and_first (it.site == us) _ b))
          (subst (λ (g : ℕ). IsLookedBy c (With n x older) e g it.site caller.process (turn_by it number (tries older it))) (equal file.group group (and_first (file.group == group) _ a))
          (subst (λ (i : EpochId). IsLookedBy c (With n x older) i file.group it.site caller.process (turn_by it number (tries older it))) (same_epoch_eq at e (and_first (same_epoch at e) _ y)) own)))

  look_looked : (e : EpochId) (group us process : ℕ) (u : Turn) → (last_turn older e group us process ≡ Some u → IsLookedBy c (With n x older) e group us process u) → last_turn (With n x older) e group us process ≡ Some u → IsLookedBy c (With n x older) e group us process u
  look_looked e group us process u later l = over (is_look_of older e group us at it file (call_named (entries older) it) process) refl l
    where
      over : (b : Bool) → is_look_of older e group us at it file (call_named (entries older) it) process ≡ b → cond b (Some (turn_by it number (tries older it))) (last_turn older e group us process) ≡ Some u → IsLookedBy c (With n x older) e group us process u
      over true test k = subst (IsLookedBy c (With n x older) e group us process) (some_same (turn_by it number (tries older it)) u k) (its e group us process test)
      over false test k = later k

record_looked : (c : Config) (n : ℕ) (r : Record) (older : List Line) (e : EpochId) (group us process : ℕ) (u : Turn) → IsFollowed c older → MayTell c older (Shown r) → (last_turn older e group us process ≡ Some u → IsLookedBy c (With n (Shown r) older) e group us process u) → turn_record older e group us process r (last_turn older e group us process) ≡ Some u → IsLookedBy c (With n (Shown r) older) e group us process u
record_looked c n (says.Look at it number file w served) older e group us process u h may later l = look_looked c n older at it number file w served h may e group us process u later l
record_looked c n _ older e group us process u h may later l = later l

told_looked : (c : Config) (n : ℕ) (x : Told) (older : List Line) (e : EpochId) (group us process : ℕ) (u : Turn) → IsFollowed c older → MayTell c older x → (last_turn older e group us process ≡ Some u → IsLookedBy c (With n x older) e group us process u) → turn_told older e group us process x (last_turn older e group us process) ≡ Some u → IsLookedBy c (With n x older) e group us process u
told_looked c n (Shown r) older e group us process u h may later l = record_looked c n r older e group us process u h may later l
told_looked c n _ older e group us process u h may later l = later l

pub looked_by : (c : Config) (t : List Line) → IsFollowed c t → (e : EpochId) (group us process : ℕ) (u : Turn) → last_turn t e group us process ≡ Some u → IsLookedBy c t e group us process u
looked_by c [] h e group us process u l = absurd (none_some u l)
looked_by c (x ∷ older) h e group us process u l = told_looked c x.number x.told older e group us process u h.1 h.0 (λ k. looked_stays c x.number x.told older e group us process u h.1 h.0 (looked_by c older h.1 e group us process u k)) l

-- ---- it is no later than what is asked ----

pub last_low : (c : Config) (t : List Line) → IsFollowed c t → OnlyMends t → (e : EpochId) (group site process : ℕ) (d : CallId) (u : Turn) → IsCaller c t e group d site process → is_request (asked_now c t d) ≡ true → last_turn t e group site process ≡ Some u → IsUpTo u (turn_by d (request_number t d) (tries t d))
last_low c t h only e group site process d u k asks l = over (compare by.by.n d.n)
  where
    by : IsLookedBy c t e group site process u
    by = looked_by c t h e group site process u l

    other : IsCaller c t e group by.by site process
    other = record { inside = by.inside; site_is = by.site_is; process_is = by.process_is; mends = by.mends }

    over : (by.by.n < d.n) ⊎ ((d.n < by.by.n) ⊎ (by.by.n ≡ d.n)) → IsUpTo u (turn_by d (request_number t d) (tries t d))
    over (inl below) = inl (subst (λ (m : ℕ). m < d.n) by.number_is below)
    over (inr (inl above)) = absurd (true_false (sym asks ∙ earlier_idle c t h only e group d by.by site process k other above))
    over (inr (inr same)) = inr (sym by.number_is ∙ same, requests (reached c t h by.by u.request u.times by.answer by.answered))
      where
        is : by.by ≡ d
        is = call_is by.by d (by.site_is ∙ sym k.site_is) (one_boot c t e by.by d h by.inside k.inside (by.site_is ∙ sym k.site_is)) same

        requests : Reached t by.by u.request u.times → (u.request < request_number t d) ⊎ ((u.request ≡ request_number t d) × (u.times ≤ tries t d))
        requests r = subst (λ (y : CallId). Reached t y u.request u.times) is r

-- so it isn't a later look for the table
pub not_before : (l : LookRequest) (last : LastLook) → IsUpTo (record { call = last.call; request = last.request; times = last.take }) (record { call = l.call; request = l.request; times = l.take }) → is_look_before l last ≡ false
not_before l last (inl below) = grind (arith, nat_tests)
not_before l last (inr (same, inl below)) = grind (arith, nat_tests)
not_before l last (inr (same, inr (again, up))) = grind (arith, nat_tests)
