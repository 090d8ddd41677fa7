-- A call at a site in no epoch ends at once, as its script has it: it is refused, or closes what no instance holds.
use Rattle.std.proofs.Common.{◌≡◌, ℕ, ◌+◌, Bool, true, false, cond, List, [], Option, None, Some, refl, sym, ◌∙◌, ap, subst, ◌⊎◌, inl, inr}
use Rattle.locus_ids.specs.declared.config.Config.{Config}
use Rattle.locus_ids.specs.declared.config.Mount.{Mount}
use Rattle.locus_ids.specs.declared.ids.CallId.{CallId}
use Rattle.locus_ids.specs.declared.ids.EpochId.{EpochId}
use Rattle.locus_ids.specs.declared.refusal.Refusal.{Refusal}
use Rattle.locus_ids.specs.declared.refusal.Refusal.TheVariants as refusal
use Rattle.trace_book.specs.declared.call.Call.{Call}
use Rattle.trace_book.specs.declared.descriptor.Beginning.{Beginning}
use Rattle.trace_book.specs.declared.descriptor.Beginning.TheVariants as begins
use Rattle.trace_book.specs.declared.reply.Reply.{Reply}
use Rattle.trace_book.specs.declared.reply.Reply.TheVariants as reply
use Rattle.call_rules.specs.Descriptors.{beginning, lowest_free}
use Rattle.call_rules.specs.Words.{is_badly_named}
use Rattle.call_rules.specs.declared.want.Want.TheVariants as want
use Rattle.role_steps.specs.Requests.{descriptors_of}
use Rattle.role_steps.specs.Using.{goes_on, is_packed, next_want, on_call, counted_call, accepted_call, reply_record, own_call}
use Rattle.role_steps.specs.Views.{Frame, Users}
use Rattle.role_steps.specs.declared.users.WaitingCall.{WaitingCall}
use Rattle.the_run.specs.Steps.{call_frame}
use Rattle.the_run.specs.Worlds.{Line}
use Rattle.tree_model.specs.Epochs.{epoch_of}
use Rattle.lawful_trace.specs.Progress.{is_packed_in, left_since, now_wants, unless_left, wants_next}
use Rattle.lawful_trace.specs.Tables.{begun, descriptor}
use Rattle.tree_laws.specs.Doing.{AllTold}
use Rattle.tree_laws.specs.Following.{IsFollowed, MayTell}
use Rattle.tree_laws.specs.Printed.{entries}
use Rattle.tree_laws.specs.Users.{UsersFact}
use Rattle.calm_laws.specs.of_store_laws.OneTree.Places.{AllAt}
use Rattle.calm_laws.specs.of_store_laws.Users.Turning.{it, IsNumbered}
use Rattle.calm_laws.proofs.of_store_laws.Users.Accepting.{begins_same}
use Rattle.calm_laws.proofs.of_store_laws.ScriptFitting.{NotChanged}
use Rattle.calm_laws.proofs.of_store_laws.ScriptSoundCalls.{BeginsRight, begins_right}
use Rattle.calm_laws.proofs.of_store_laws.OneTree.UserStepOutside.{EndsAtOnce, at_once, ended, ended_gives, given_as}
use Rattle.headline_laws.proofs.Prompting.Calling.{called, caller, caller_begun, caller_last, caller_named, caller_waits, then, unheard}
use Rattle.headline_laws.proofs.Prompting.Facts.{NotLeft, ToldFact, plain_stands}
use Rattle.headline_laws.proofs.Prompting.Heads.{Gives, goes_told}
use Rattle.headline_laws.proofs.Prompting.Wants.{next_as}

-- ---- it ends where it begins ----

-- by no refusal that says that an epoch was left
given_unlike : (mounts : List Mount) (words : Call) (b : Beginning) → BeginsRight words b → NotLeft (given_as mounts words b)
given_unlike mounts words b right e q = over (is_badly_named mounts words) q
  where
    no_same : (a b : Refusal) → reply.No a ≡ reply.No b → a ≡ b
    no_same a b k = cc

    bad : refusal.BadName ≡ refusal.Changed e → ⊥
    bad k = cc

    closed : reply.Closed None ≡ reply.No (refusal.Changed e) → ⊥
    closed k = cc

    changed : (why : Refusal) → NotChanged why → why ≡ refusal.Changed e → ⊥
    changed why k is = subst NotChanged is k

    begun : (z : Beginning) → BeginsRight words z → at_once z ≡ reply.No (refusal.Changed e) → ⊥
    begun (begins.Denied why) k is = changed why k (no_same why (refusal.Changed e) is)
    begun _ k is = closed is

    over : (x : Bool) → cond x (reply.No refusal.BadName) (at_once b) ≡ reply.No (refusal.Changed e) → ⊥
    over true k = bad (no_same refusal.BadName (refusal.Changed e) k)
    over false k = begun b right k

gives_same : (a b : Reply) → want.Give a ≡ want.Give b → a ≡ b
gives_same a b e = cc

-- ---- the call ----

module _ (c : Config) (n : ℕ) (t : List Line) (me boot process : ℕ) (words : Call) (u : Users) (h : IsFollowed c t) (outside : epoch_of (entries t) me ≡ None) (k : UsersFact c t me boot u) (low : IsNumbered words) where
  abbrev f : Frame
  f = call_frame c me boot None

  abbrev begun_at : Beginning
  begun_at = beginning (descriptors_of u process) None (own_call f.me f.boot (u.calls + 1)) words

  abbrev w : WaitingCall
  w = accepted_call f None process words u

  abbrev d : CallId
  d = it f w

  abbrev newer : List Line
  newer = then c n t me process d words

  abbrev counted : Users
  counted = counted_call f None process words u

  ends : EndsAtOnce begun_at
  ends = ended (descriptors_of u process) d words

  abbrev given : Reply
  given = given_as c.mounts words begun_at

  reply_is : (r : Reply) → next_want f w counted ≡ want.Give r → given ≡ r
  reply_is r gives = gives_same given r (sym (ended_gives c.mounts (is_packed f) (lowest_free (descriptors_of counted process)) words begun_at ends) ∙ gives)

  begun_so : begun (entries newer) d ≡ Some begun_at
  begun_so = caller_begun c n t me process d words ∙ ap Some (ap (λ (o : Option EpochId). beginning (descriptor (entries t) me process) o d words) outside ∙ sym (begins_same (descriptors_of u process) (descriptor (entries t) me process) (λ fd lt. k.descriptors process fd lt) None d words low))

  wants_so : MayTell c t (called c n t me process d words) → now_wants c (entries newer) (caller c n t me process d words) ≡ want.Give given
  wants_so may = ap (λ (o : Option EpochId). unless_left (left_since (entries newer) me o) (wants_next c (entries newer) d)) outside
      ∙ (next_as c newer d (caller c n t me process d words) begun_at [] (caller_named c n t me process d words) begun_so (unheard c t me process d words h may)
      ∙ ended_gives c.mounts (is_packed_in c (entries newer) (epoch_of (entries t) me)) (lowest_free (descriptor (entries newer) me process)) words begun_at ends)

  replied : MayTell c t (called c n t me process d words) → ToldFact c n newer (reply_record me boot w given)
  replied may = (
    record { caller = caller c n t me process d words; waits = caller_waits c n t me process d words; gives = wants_so may },
    plain_stands c n (entries newer) me process d given (given_unlike c.mounts words begun_at (begins_right (descriptors_of u process) None d words)) (caller_last c n t me process d words),
  )

  pub refused_facts : AllTold c n t (on_call f None process words u).told → AllAt (ToldFact c n) n t (on_call f None process words u).told
  refused_facts may = (tt, over (goes_told f w counted))
    where
      over : ((goes_on f w counted).told ≡ []) ⊎ Gives f w counted (goes_on f w counted).told → AllAt (ToldFact c n) n newer (goes_on f w counted).told
      over (inl e) = subst (AllAt (ToldFact c n) n newer) (sym e) tt
      over (inr g) = subst (AllAt (ToldFact c n) n newer) (sym g.told_is) (subst (λ (r : Reply). ToldFact c n newer (reply_record me boot w r)) (reply_is g.reply g.wants) (replied may.0), tt)
