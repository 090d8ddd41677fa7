-- A call is accepted: if it is answered at once, the reply is the one that its script gives.
use Rattle.std.proofs.Common.{◌≡◌, ℕ, ◌<◌, ◌+◌, ◌==◌, Bool, true, false, cond, not, ◌&&◌, ◌||◌, List, [], Option, None, Some, refl, sym, ◌∙◌, ap, subst, ◌⊎◌, inl, inr}
use Rattle.std.specs.List.{find}
use Rattle.role_steps.proofs.of_plain_facts.Numbers.{equal_self}
use Rattle.role_steps.proofs.of_plain_facts.Tests.{or_second, true_false}
use Rattle.locus_ids.specs.declared.config.Config.{Config}
use Rattle.locus_ids.specs.declared.ids.CallId.{CallId}
use Rattle.locus_ids.specs.declared.ids.EpochId.{EpochId}
use Rattle.locus_ids.specs.Sizes.{descriptor_span}
use Rattle.trace_book.specs.Same.{same_call}
use Rattle.trace_book.specs.declared.call.Call.{Call}
use Rattle.trace_book.specs.declared.record.Record.TheVariants as says
use Rattle.trace_book.specs.declared.reply.Reply.{Reply}
use Rattle.call_rules.specs.Descriptors.{beginning, lowest_free}
use Rattle.call_rules.specs.Scripts.{wants}
use Rattle.call_rules.specs.declared.want.Want.TheVariants as want
use Rattle.role_steps.specs.Requests.{descriptors_of}
use Rattle.role_steps.specs.Using.{goes_on, next_want, on_call, counted_users, counted_call, accepted_call, reply_record}
use Rattle.role_steps.specs.Views.{Frame, Shown, Told, Users}
use Rattle.role_steps.specs.declared.users.WaitingCall.{WaitingCall}
use Rattle.the_run.specs.Worlds.{Line}
use Rattle.tree_model.specs.Calls.{accepted_as, call_named, waiting}
use Rattle.tree_model.specs.declared.accepted.Waiting.{Waiting}
use Rattle.lawful_trace.specs.CallRows.{is_this}
use Rattle.lawful_trace.specs.Progress.{answers, is_packed_in, now_wants}
use Rattle.lawful_trace.specs.Prompt.{is_unanswered}
use Rattle.lawful_trace.specs.Tables.{begins_now, begun, closed_by, descriptor}
use Rattle.tree_laws.specs.Calls.{log}
use Rattle.tree_laws.specs.Doing.{AllTold, FrameFact}
use Rattle.tree_laws.specs.Following.{AnswersInTime, IsFollowed, MayTell}
use Rattle.tree_laws.specs.Printed.{entries}
use Rattle.tree_laws.specs.Users.{UsersFact}
use Rattle.tree_laws.proofs.Fresh.{IsNamed, calls_are_low, next_is_new, numbered}
use Rattle.tree_laws.proofs.Having.{Untaken, named_or_untaken}
use Rattle.tree_laws.proofs.Hearing.{Hears, asking_named, hears}
use Rattle.tree_laws.proofs.Names.{same_call_own}
use Rattle.calm_laws.specs.of_store_laws.OneTree.Places.{AllAt}
use Rattle.calm_laws.specs.of_store_laws.OneTree.Rest.{more}
use Rattle.calm_laws.specs.of_store_laws.Users.Turning.{it, IsNumbered}
use Rattle.calm_laws.proofs.of_store_laws.Users.Accepting.{begins_same, freed, freed_same, frees_is}
use Rattle.calm_laws.proofs.of_store_laws.Users.Replying.{free_is}
use Rattle.headline_laws.specs.Prompting.Directly.{accepts, is_last}
use Rattle.headline_laws.proofs.Prompting.Facts.{ToldFact, in_epoch, plain_stands}
use Rattle.headline_laws.proofs.Prompting.Heads.{Gives, goes_told}
use Rattle.headline_laws.proofs.Prompting.Wants.{frame_wants, next_as, now_next}

abbrev pub accept_told : ℕ → ℕ → CallId → Call → Told
accept_told s process d words = Shown (says.Accept s process d words)

-- ---- a call that is accepted has no answer ----

pub unheard : (c : Config) (t : List Line) (s process : ℕ) (d : CallId) (words : Call) → IsFollowed c t → MayTell c t (accept_told s process d words) → answers c (entries t) d ≡ []
unheard c t s process d words h may = over (hears c t d h)
  where
    fresh : IsNamed (entries t) d → ⊥
    fresh named = next_is_new (entries t) s d (calls_are_low c t h d named) (numbered c (entries t) s process d words may.row)

    untaken : IsNamed (entries t) d ⊎ Untaken c t d → Untaken c t d
    untaken (inl named) = absurd (fresh named)
    untaken (inr z) = z

    over : Hears c t d → answers c (entries t) d ≡ []
    over (inl e) = e ∙ (untaken (named_or_untaken c t h d)).heard_is
    over (inr l) = absurd (fresh (asking_named c (entries t) d None (log t d) (want.Look l.file l.what) l.looks refl))

-- ---- a call by its record ----

module _ (c : Config) (n : ℕ) (t : List Line) (s process : ℕ) (d : CallId) (words : Call) where
  abbrev pub called : Told
  called = accept_told s process d words

  abbrev pub then : List Line
  then = more n called t

  abbrev pub caller : Waiting
  caller = accepted_as (entries t) s process d words

  pub caller_named : call_named (entries then) d ≡ Some caller
  caller_named = ap (λ (b : Bool). cond b (Some caller) (call_named (entries t) d)) (same_call_own d)

  pub caller_begun : begun (entries then) d ≡ Some (begins_now (entries t) s process d words)
  caller_begun = ap (λ (b : Bool). cond b (Some (begins_now (entries t) s process d words)) (begun (entries t) d)) (same_call_own d)

  pub caller_waits : find (is_this s process d) (waiting (entries then)) ≡ Some caller
  caller_waits = ap (λ (b : Bool). cond b (Some caller) (find (is_this s process d) (waiting (entries t)))) (own (s == s) (process == process) (same_call d d) (equal_self s) (equal_self process) (same_call_own d))
    where
      own : (p q b : Bool) → p ≡ true → q ≡ true → b ≡ true → (p && q && b) ≡ true
      own true true true e g z = refl
      own false q b e g z = absurd (true_false (sym e))
      own true false b e g z = absurd (true_false (sym g))
      own true true false e g z = absurd (true_false (sym z))

  pub caller_last : not (is_unanswered (answers c (entries then) d)) || is_last (accepts d) n (entries then) ≡ true
  caller_last = or_second (not (is_unanswered (answers c (entries then) d))) (is_last (accepts d) n (entries then)) (ap (λ (b : Bool). b && same_call d d) (equal_self n) ∙ same_call_own d)

-- ---- at a site in its epoch ----

module _ (c : Config) (n : ℕ) (t : List Line) (f : Frame) (process : ℕ) (words : Call) (u : Users) (h : IsFollowed c t) (frame : FrameFact c t f) (k : UsersFact c t f.me f.boot u) (low : IsNumbered words) where
  abbrev w : WaitingCall
  w = accepted_call f (Some f.epoch) process words u

  abbrev d : CallId
  d = it f w

  abbrev newer : List Line
  newer = then c n t f.me process d words

  abbrev counted : Users
  counted = counted_call f (Some f.epoch) process words u

  abbrev after : Users
  after = record (counted_users f (Some f.epoch) process words u) { descriptors = freed process words u.descriptors }

  frame_so : FrameFact c newer f
  frame_so = record { config_is = frame.config_is; inside = frame.inside; members_are = frame.members_are; up = frame.up; boot_is = frame.boot_is; is_member = frame.is_member }

  begun_so : begun (entries newer) d ≡ Some w.begins
  begun_so = caller_begun c n t f.me process d words ∙ ap Some (ap (λ (o : Option EpochId). beginning (descriptor (entries t) f.me process) o d words) frame.inside ∙ sym (begins_same (descriptors_of u process) (descriptor (entries t) f.me process) (λ fd lt. k.descriptors process fd lt) (Some f.epoch) _ words low))

  free_so : lowest_free (descriptors_of counted process) ≡ lowest_free (descriptor (entries newer) f.me process)
  free_so = ap (λ (x : Users). lowest_free (descriptors_of x process)) (frees_is process words (counted_users f (Some f.epoch) process words u)) ∙ free_is (descriptors_of after process) (descriptor (entries newer) f.me process) (λ fd lt. same fd lt)
    where
      same : (fd : ℕ) → fd < descriptor_span → descriptors_of after process fd ≡ descriptor (entries newer) f.me process fd
      same fd lt = freed_same process words u.descriptors low k.ascends process fd lt (descriptor (entries t) f.me process fd) (k.descriptors process fd lt)
          ∙ sym (ap (λ (b : Bool). cond (b && (process == process)) (closed_by words fd (descriptor (entries t) f.me process fd)) (descriptor (entries t) f.me process fd)) (equal_self f.me))

  wants_so : (r : Reply) → next_want f w counted ≡ want.Give r → MayTell c t (called c n t f.me process d words) → now_wants c (entries newer) (caller c n t f.me process d words) ≡ want.Give r
  wants_so r gives may = now_next c newer (caller c n t f.me process d words) f.epoch frame.inside frame.inside
      ∙ (next_as c newer d (caller c n t f.me process d words) w.begins [] (caller_named c n t f.me process d words) begun_so (unheard c t f.me process d words h may)
      ∙ (ap (λ (o : Option EpochId). wants c.mounts (is_packed_in c (entries newer) o) (lowest_free (descriptor (entries newer) f.me process)) words w.begins []) frame.inside
      ∙ (ap (λ (o : Option ℕ). wants c.mounts (is_packed_in c (entries newer) (Some f.epoch)) o words w.begins []) (sym free_so)
      ∙ (sym (frame_wants c newer f (lowest_free (descriptors_of counted process)) words w.begins [] frame_so) ∙ gives))))

  replied : (r : Reply) → next_want f w counted ≡ want.Give r → MayTell c t (called c n t f.me process d words) → AnswersInTime c newer d r → ToldFact c n newer (reply_record f.me f.boot w r)
  replied r gives may in_time = (
    record { caller = caller c n t f.me process d words; waits = caller_waits c n t f.me process d words; gives = wants_so r gives may },
    plain_stands c n (entries newer) f.me process d r (λ e same. in_epoch c newer f (u.calls + 1) frame_so e (subst (AnswersInTime c newer d) same in_time)) (caller_last c n t f.me process d words),
  )

  pub called_facts : AllTold c n t (on_call f (Some f.epoch) process words u).told → AllAt (ToldFact c n) n t (on_call f (Some f.epoch) process words u).told
  called_facts may = (tt, over (goes_told f w counted) may.1)
    where
      over : ((goes_on f w counted).told ≡ []) ⊎ Gives f w counted (goes_on f w counted).told → AllTold c n newer (goes_on f w counted).told → AllAt (ToldFact c n) n newer (goes_on f w counted).told
      over (inl e) rest = subst (AllAt (ToldFact c n) n newer) (sym e) tt
      over (inr g) rest = subst (AllAt (ToldFact c n) n newer) (sym g.told_is) (replied g.reply g.wants may.0 (subst (AllTold c n newer) g.told_is rest).0.in_time, tt)
