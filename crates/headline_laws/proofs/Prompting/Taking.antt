-- A process takes an answer: if its call is answered then, the reply is the one that its script gives.
use Rattle.std.proofs.Common.{◌≡◌, ℕ, Bool, true, cond, not, ◌||◌, List, [], ◌∷◌, ◌++◌, Option, Some, refl, sym, ◌∙◌, ap, subst, ◌⊎◌, inl, inr}
use Rattle.role_steps.proofs.of_plain_facts.Tests.{true_false}
use Rattle.locus_ids.specs.declared.config.Config.{Config}
use Rattle.locus_ids.specs.declared.ids.CallId.{CallId}
use Rattle.trace_book.specs.declared.reply.Reply.{Reply}
use Rattle.call_rules.specs.Descriptors.{lowest_free}
use Rattle.call_rules.specs.Scripts.{wants}
use Rattle.call_rules.specs.declared.answer.Answer.{Answer}
use Rattle.call_rules.specs.declared.want.Want.TheVariants as want
use Rattle.role_steps.specs.Requests.{descriptor_in, descriptor_key, descriptors_of, fd_key}
use Rattle.role_steps.specs.Tables.{row}
use Rattle.role_steps.specs.Using.{goes_on, next_want, reply_record, takes_record, with_answer}
use Rattle.role_steps.specs.Views.{Frame, SiteView, Told}
use Rattle.role_steps.specs.declared.users.DescriptorRow.{DescriptorRow}
use Rattle.role_steps.specs.declared.users.WaitingCall.{WaitingCall}
use Rattle.the_run.specs.Worlds.{Line}
use Rattle.tree_model.specs.Epochs.{epoch_of}
use Rattle.tree_model.specs.declared.accepted.Waiting.{Waiting}
use Rattle.lawful_trace.specs.Progress.{answers, is_packed_in, now_wants, wants_next}
use Rattle.lawful_trace.specs.Prompt.{is_unanswered}
use Rattle.lawful_trace.specs.Tables.{descriptor}
use Rattle.tree_laws.specs.Calls.{log}
use Rattle.tree_laws.specs.Doing.{AllTold, FrameFact, UsersInside}
use Rattle.tree_laws.specs.Following.{AnswersInTime, IsFollowed, RepliesInTime}
use Rattle.tree_laws.specs.Printed.{entries}
use Rattle.tree_laws.specs.Users.{WaitingFact}
use Rattle.tree_laws.proofs.Hearing.{Hears, hears}
use Rattle.tree_laws.proofs.Names.{same_call_own}
use Rattle.calm_laws.specs.of_store_laws.OneTree.Places.{AllAt}
use Rattle.calm_laws.specs.of_store_laws.OneTree.Rest.{more}
use Rattle.calm_laws.specs.of_store_laws.Users.Turning.{it}
use Rattle.calm_laws.proofs.of_store_laws.Users.Replying.{free_is}
use Rattle.calm_laws.proofs.of_store_laws.Users.Tabled.{every_among}
use Rattle.headline_laws.specs.Prompting.Directly.{accepts, is_last}
use Rattle.headline_laws.proofs.Prompting.Facts.{ToldFact, in_epoch, plain_stands, replies_in_time}
use Rattle.headline_laws.proofs.Prompting.Heads.{Gives, goes_told}
use Rattle.headline_laws.proofs.Prompting.Splits.{IsTaken}
use Rattle.headline_laws.proofs.Prompting.Wants.{frame_wants, next_as, now_next}

-- where nothing is asked, the records have answered what was taken
pub answered_so : (c : Config) (t : List Line) (d : CallId) → IsFollowed c t → RepliesInTime c t d → answers c (entries t) d ≡ log t d
answered_so c t d h k = over (hears c t d h)
  where
    over : Hears c t d → answers c (entries t) d ≡ log t d
    over (inl e) = e ∙ k.nothing_waits
    over (inr l) = absurd (true_false (cc))

module _ (c : Config) (n : ℕ) (t : List Line) (f : Frame) (v : SiteView) (told : List Told) (h : IsFollowed c t) (frame : FrameFact c t f) (k : UsersInside c f t v.users) (taken : IsTaken f v told) where
  abbrev w : WaitingCall
  w = record taken.call { brought = taken.brought }

  abbrev x : Told
  x = takes_record f w taken.answer

  abbrev newer : List Line
  newer = more n x t

  abbrev d : CallId
  d = it f taken.call

  abbrev next : WaitingCall
  next = with_answer w taken.answer

  fact : WaitingFact c t f taken.call
  fact = every_among (WaitingFact c t f) taken.call v.users.waiting taken.among k.inside.calls

  log_is : log newer d ≡ taken.call.answers ++ taken.answer ∷ []
  log_is = ap (λ (b : Bool). cond b (log t d ++ taken.answer ∷ []) (log t d)) (same_call_own d) ∙ ap (λ (xs : List Answer). xs ++ taken.answer ∷ []) (sym fact.answers_are)

  frame_so : FrameFact c newer f
  frame_so = record { config_is = frame.config_is; inside = frame.inside; members_are = frame.members_are; up = frame.up; boot_is = frame.boot_is; is_member = frame.is_member }

  free_so : lowest_free (descriptors_of taken.users taken.call.process) ≡ lowest_free (descriptor (entries t) f.me taken.call.process)
  free_so = free_is (descriptors_of taken.users taken.call.process) (descriptor (entries t) f.me taken.call.process) (λ fd lt. ap (λ (ds : List DescriptorRow). descriptor_in (row descriptor_key (fd_key taken.call.process fd) ds)) taken.descriptors ∙ k.always.descriptors taken.call.process fd lt)

  answered : (r : Reply) → IsFollowed c newer → AnswersInTime c newer d r → answers c (entries newer) d ≡ taken.call.answers ++ taken.answer ∷ []
  answered r after in_time = answered_so c newer d after (replies_in_time c newer d r (in_epoch c newer f taken.call.call frame_so) in_time) ∙ log_is

  wants_so : (r : Reply) → next_want f next taken.users ≡ want.Give r → answers c (entries newer) d ≡ taken.call.answers ++ taken.answer ∷ [] → now_wants c (entries newer) fact.caller ≡ want.Give r
  wants_so r gives are = now_next c newer fact.caller f.epoch (ap (λ (y : Waiting). y.epoch) fact.caller_is) (ap (λ (y : Waiting). epoch_of (entries newer) y.site) fact.caller_is ∙ frame.inside)
      ∙ (ap (λ (y : Waiting). wants_next c (entries newer) y.call) fact.caller_is
      ∙ (next_as c newer d fact.caller taken.call.begins (taken.call.answers ++ taken.answer ∷ []) fact.named fact.begins_is are
      ∙ (ap (λ (y : Waiting). wants c.mounts (is_packed_in c (entries newer) y.epoch) (lowest_free (descriptor (entries newer) y.site y.process)) y.words taken.call.begins (taken.call.answers ++ taken.answer ∷ [])) fact.caller_is
      ∙ (ap (λ (o : Option ℕ). wants c.mounts (is_packed_in c (entries newer) (Some f.epoch)) o taken.call.words taken.call.begins (taken.call.answers ++ taken.answer ∷ [])) (sym free_so)
      ∙ (sym (frame_wants c newer f (lowest_free (descriptors_of taken.users taken.call.process)) taken.call.words taken.call.begins (taken.call.answers ++ taken.answer ∷ []) frame_so) ∙ gives)))))

  -- the reply, where there is one
  replied : (r : Reply) → next_want f next taken.users ≡ want.Give r → IsFollowed c newer → AnswersInTime c newer d r → ToldFact c n newer (reply_record f.me f.boot next r)
  replied r gives after in_time = (
    record { caller = fact.caller; waits = fact.waits; gives = wants_so r gives (answered r after in_time) },
    plain_stands c n (entries newer) f.me taken.call.process d r (λ e same. in_epoch c newer f taken.call.call frame_so e (subst (AnswersInTime c newer d) same in_time)) (some_answered (answers c (entries newer) d) taken.call.answers taken.answer (answered r after in_time)),
  )
    where
      some_answered : (xs ys : List Answer) (a : Answer) → xs ≡ ys ++ a ∷ [] → not (is_unanswered xs) || is_last (accepts d) n (entries newer) ≡ true
      some_answered xs ys a e = subst (λ (zs : List Answer). not (is_unanswered zs) || is_last (accepts d) n (entries newer) ≡ true) (sym e) (over ys)
        where
          over : (zs : List Answer) → not (is_unanswered (zs ++ a ∷ [])) || is_last (accepts d) n (entries newer) ≡ true
          over [] = refl
          over (z ∷ zs) = refl

  pub taken_facts : AllTold c n t told → AllAt (ToldFact c n) n t told
  taken_facts all = subst (AllAt (ToldFact c n) n t) (sym taken.told_is) (over (goes_told f next taken.users) (subst (AllTold c n t) taken.told_is all))
    where
      over : ((goes_on f next taken.users).told ≡ []) ⊎ Gives f next taken.users (goes_on f next taken.users).told → AllTold c n t (x ∷ (goes_on f next taken.users).told) → AllAt (ToldFact c n) n t (x ∷ (goes_on f next taken.users).told)
      over (inl e) may = (tt, subst (AllAt (ToldFact c n) n newer) (sym e) tt)
      over (inr g) may = (tt, subst (AllAt (ToldFact c n) n newer) (sym g.told_is) (replied g.reply g.wants (may.0, h) (subst (AllTold c n newer) g.told_is may.1).0.in_time, tt))
