-- A call that turns and has its reply is answered: the row is lawful, and what the site has then is so by the trace.
use Rattle.std.proofs.Common.{◌≡◌, ℕ, zero, suc, ◌+◌, ◌<◌, arith, Bool, true, false, cond, List, Option, Some, None, refl, sym, ◌∙◌, ap, subst, inl, inr}
use Rattle.std.specs.List.{find}
use Rattle.role_steps.proofs.of_plain_facts.Options.{some_same}
use Rattle.role_steps.proofs.of_plain_facts.Tests.{true_false}
use Rattle.locus_ids.specs.declared.config.Config.{Config}
use Rattle.locus_ids.specs.declared.ids.CallId.{CallId}
use Rattle.locus_ids.specs.declared.ids.EpochId.{EpochId}
use Rattle.locus_ids.specs.declared.refusal.Refusal.TheVariants as refusal
use Rattle.locus_ids.specs.Sizes.{descriptor_span, descriptors_max}
use Rattle.trace_book.specs.declared.descriptor.Beginning.{Beginning}
use Rattle.trace_book.specs.declared.descriptor.Descriptor.{Descriptor}
use Rattle.trace_book.specs.declared.reply.Reply.{Reply}
use Rattle.trace_book.specs.declared.reply.Reply.TheVariants as reply
use Rattle.call_rules.specs.Descriptors.{free_or, lowest_free, lowest_free_from}
use Rattle.call_rules.specs.declared.want.Want.{Want}
use Rattle.call_rules.specs.declared.want.Want.TheVariants as want
use Rattle.role_steps.specs.Requests.{descriptors_of}
use Rattle.role_steps.specs.Using.{last_opened, mode_asked, next_want, no_serial, reply_record}
use Rattle.role_steps.specs.Views.{Users, Frame}
use Rattle.role_steps.specs.declared.users.WaitingCall.{WaitingCall}
use Rattle.tree_laws.specs.of_the_run.Worlds.{Line}
use Rattle.tree_model.specs.Calls.{call_named, opening_of, waiting}
use Rattle.tree_model.specs.Epochs.{is_in}
use Rattle.tree_model.specs.declared.accepted.Waiting.{Waiting}
use Rattle.tree_laws.specs.of_lawful_trace.CallRows.{MayAnswer, is_this}
use Rattle.tree_laws.specs.of_lawful_trace.Progress.{Answers, answers, left_epoch, unless_left, wants_as, wants_next}
use Rattle.tree_laws.specs.of_lawful_trace.Tables.{begun, descriptor}
use Rattle.tree_laws.specs.Printed.{entries}
use Rattle.tree_laws.specs.Calls.{is_request, log, script, script_as}
use Rattle.tree_laws.specs.Doing.{FrameFact}
use Rattle.tree_laws.specs.Following.{IsFollowed, MayTell, AnswersInTime, BeganFor, RepliesInTime}
use Rattle.tree_laws.specs.Holding.{has_instances}
use Rattle.tree_laws.specs.Serials.{asked_now}
use Rattle.tree_laws.proofs.Free.{free_same}
use Rattle.tree_laws.proofs.Hearing.{Hears, hears}
use Rattle.tree_laws.proofs.Names.{same_epoch_own}
use Rattle.store_laws.specs.Users.Rests.{IsOpenedAs, IsReadAgain, HasTaken, ReplyRests, gives_now}
use Rattle.store_laws.specs.Users.Turning.{it, Turning}
use Rattle.store_laws.proofs.Users.Wanting.{next_is}

-- ---- the lowest free descriptor ----

free_same_from : (p q : ℕ → Option Descriptor) (n left : ℕ) → ((fd : ℕ) → fd < n + left → p fd ≡ q fd) → lowest_free_from p n left ≡ lowest_free_from q n left
free_same_from p q n zero same = refl
free_same_from p q n (suc left) same = ap (λ (o : Option ℕ). free_or n o (p n)) (free_same_from p q (n + 1) left (λ fd lt. same fd (more fd lt))) ∙ ap (free_or n (lowest_free_from q (n + 1) left)) (same n own)
  where
    more : (fd : ℕ) → fd < n + 1 + left → fd < n + suc left
    more fd lt = omega (arith, lt)

    own : n < n + suc left
    own = omega arith

pub free_is : (p q : ℕ → Option Descriptor) → ((fd : ℕ) → fd < descriptor_span → p fd ≡ q fd) → lowest_free p ≡ lowest_free q
free_is p q same = free_same_from p q 0 descriptors_max (λ fd lt. same fd (wide fd lt))
  where
    wide : (fd : ℕ) → fd < 0 + descriptors_max → fd < descriptor_span
    wide fd lt = omega (arith, lt)

module _ (c : Config) (t : List Line) (f : Frame) (w : WaitingCall) (u : Users) (h : IsFollowed c t) (frame : FrameFact c t f) (k : Turning c t f w u) where
  abbrev pub who : CallId
  who = it f w

  -- the script, by the descriptors of the trace
  pub script_is : next_want f w u ≡ gives_now c t who k.call.caller
  script_is = next_is c t f w u frame k.call
      ∙ (ap (λ (o : Option ℕ). script c (entries t) who o w.answers) (free_is (descriptors_of u w.process) (descriptor (entries t) f.me w.process) (λ fd lt. k.others.descriptors w.process fd lt))
      ∙ (ap (λ (x : Waiting). script c (entries t) who (lowest_free (descriptor (entries t) x.site x.process)) w.answers) (sym k.call.caller_is)
      ∙ ap (script c (entries t) who (lowest_free (descriptor (entries t) k.call.caller.site k.call.caller.process))) k.call.answers_are))

  pub taken : HasTaken c t who k.call.caller f.epoch
  taken = record {
    named = k.call.named;
    made_in = ap (λ (x : Waiting). x.epoch) k.call.caller_is;
    inside = frame.inside;
    waits = ap (λ (x : Waiting). find (is_this x.site x.process who) (waiting (entries t))) k.call.caller_is ∙ k.call.waits;
    nothing_waits = k.call.nothing_waits;
  }

  -- what gives a reply asks nothing
  pub asks_nothing : (v : Want) → next_want f w u ≡ v → is_request v ≡ false → is_request (asked_now c t who) ≡ false
  asks_nothing v e r = over (is_request (asked_now c t who)) refl
    where
      same : is_request (asked_now c t who) ≡ true → gives_now c t who k.call.caller ≡ asked_now c t who
      same a = free_same c (entries t) (call_named (entries t) who) (begun (entries t) who) (lowest_free (descriptor (entries t) k.call.caller.site k.call.caller.process)) (log t who) a

      over : (b : Bool) → is_request (asked_now c t who) ≡ b → is_request (asked_now c t who) ≡ false
      over true a = absurd (true_false (sym a ∙ (ap is_request (sym (same a) ∙ (sym script_is ∙ e)) ∙ r)))
      over false a = a

  -- the records have answered what was taken
  answers_are : is_request (asked_now c t who) ≡ false → answers c (entries t) who ≡ log t who
  answers_are r = over (hears c t who h)
    where
      over : Hears c t who → answers c (entries t) who ≡ log t who
      over (inl e) = e ∙ k.call.nothing_waits
      over (inr l) = absurd (true_false (ap is_request (sym l.looks) ∙ r))

  -- the lawful trace wants what the script gives
  wants_so : answers c (entries t) who ≡ log t who → wants_next c (entries t) who ≡ gives_now c t who k.call.caller
  wants_so same = ap (λ (xs : Answers). wants_as c (entries t) (call_named (entries t) who) (begun (entries t) who) xs) same
      ∙ (ap (λ (o : Option Waiting). wants_as c (entries t) o (begun (entries t) who) (log t who)) k.call.named
      ∙ (ap (λ (b : Option Beginning). wants_as c (entries t) (Some k.call.caller) b (log t who)) k.call.begins_is
      ∙ (ap (λ (b : Option Beginning). script_as c (entries t) (Some k.call.caller) b (lowest_free (descriptor (entries t) k.call.caller.site k.call.caller.process)) (log t who)) (sym k.call.begins_is)
      ∙ ap (λ (o : Option Waiting). script_as c (entries t) o (begun (entries t) who) (lowest_free (descriptor (entries t) k.call.caller.site k.call.caller.process)) (log t who)) (sym k.call.named))))

  unleft : left_epoch (entries t) k.call.caller ≡ None
  unleft = ap (left_epoch (entries t)) k.call.caller_is ∙ (ap (λ (o : Option EpochId). cond (is_in o f.epoch) None (Some f.epoch)) frame.inside ∙ ap (λ (b : Bool). cond b None (Some f.epoch)) (same_epoch_own f.epoch))

  pub row_is : (r : Reply) → next_want f w u ≡ want.Give r → MayAnswer c (entries t) f.me w.process who r
  row_is r e = record {
    caller = k.call.caller;
    waits = k.call.waits;
    given = r;
    gives = ap (λ (o : Option EpochId). unless_left o (wants_next c (entries t) k.call.caller.call)) unleft
        ∙ (ap (λ (x : Waiting). wants_next c (entries t) x.call) k.call.caller_is
        ∙ (wants_so (answers_are (asks_nothing (want.Give r) e refl)) ∙ (sym script_is ∙ e)));
    text = refl;
  }

  pub in_time : (rests : ReplyRests c t) (r : Reply) → next_want f w u ≡ want.Give r → AnswersInTime c t who r
  in_time rests r e = over r e
    where
      replies : (r : Reply) → next_want f w u ≡ want.Give r → RepliesInTime c t who
      replies r e = record { nothing_waits = k.call.nothing_waits; nothing_asked = asks_nothing (want.Give r) e refl }

      over : (r : Reply) → next_want f w u ≡ want.Give r → AnswersInTime c t who r
      over (reply.No (refusal.Changed left)) e = absurd (rests.unchanged who k.call.caller f.epoch left taken (sym script_is ∙ e))
      over (reply.Opened fd) e = record {
        replies = replies (reply.Opened fd) e;
        held = λ x found. subst (λ (y : Descriptor). has_instances c t who y.inst ≡ true) (some_same _ x (sym opened.is_last ∙ found)) opened.held;
        plain = λ x y found named. opened.plain y named;
        began = λ x found. subst (BeganFor (reply.Opened fd)) (sym opened.walks) tt;
        took = λ x found. tt;
      }
        where
          opened : IsOpenedAs c t who fd (record { mode = mode_asked k.call.caller.words; epoch = f.epoch; inst = last_opened no_serial (log t who); steady = None })
          opened = rests.opened who k.call.caller f.epoch fd taken (sym script_is ∙ e)
      over (reply.Data bytes) e = record {
        replies = replies (reply.Data bytes) e;
        held = λ x found. (again x found).held;
        plain = λ x y found named. (again x found).plain y named;
        began = λ x found. subst (BeganFor (reply.Data bytes)) (sym (again x found).began.2) tt;
        took = λ x found. (again x found).took;
      }
        where
          again : (x : Descriptor) → opening_of (entries t) who ≡ Some x → IsReadAgain c t who f.epoch x
          again x found = rests.read who k.call.caller f.epoch bytes x taken (sym script_is ∙ e) found
      over r e = replies r e

-- the reply comes as it may
pub may_reply : (c : Config) (t : List Line) (f : Frame) (w : WaitingCall) (u : Users) → IsFollowed c t → FrameFact c t f → ReplyRests c t → Turning c t f w u → (r : Reply) → next_want f w u ≡ want.Give r → MayTell c t (reply_record f.me f.boot w r)
may_reply c t f w u h frame rests k r e = record { row = row_is c t f w u h frame k r e; in_time = in_time c t f w u h frame k rests r e }
