-- Where no reply is due before an event of a site, each of its records comes as replies are due, and none is due after it.
use Rattle.std.proofs.Common.{◌≡◌, ℕ, ◌≤◌, ◌+◌, true, List, [], ◌∷◌, ◌++◌, length, Option, None, Some, refl, sym, subst, ◌⊎◌, inl, inr}
use Rattle.locus_ids.specs.declared.config.Config.{Config}
use Rattle.locus_ids.specs.declared.sites.Links.{Links}
use Rattle.trace_book.specs.declared.call.Call.{Call}
use Rattle.role_steps.specs.Epochs.{frame_in, leaves_of}
use Rattle.role_steps.specs.Using.{goes_on, on_call, counted_call, accepted_call, reply_record, takes_record, with_answer}
use Rattle.role_steps.specs.Views.{Event, Frame, SiteView, Told, Users}
use Rattle.role_steps.specs.declared.rounds.InEpoch.{InEpoch}
use Rattle.role_steps.specs.declared.users.WaitingCall.{WaitingCall}
use Rattle.the_run.specs.Steps.{call_frame, epoch_id, step}
use Rattle.the_run.specs.Worlds.{Line, told_onto}
use Rattle.tree_model.specs.Calls.{accepted_as}
use Rattle.tree_model.specs.Epochs.{epoch_of, is_up}
use Rattle.tree_laws.specs.Doing.{AllTold, FrameFact}
use Rattle.tree_laws.specs.Printed.{entries}
use Rattle.calm_laws.specs.of_store_laws.OneTree.Places.{SiteFact, SiteIn, UsersOf, UsersOutside}
use Rattle.calm_laws.specs.of_store_laws.OneTree.Rest.{AllRest, Past, more}
use Rattle.calm_laws.specs.of_store_laws.OneTree.Roles.{EventFact, MayCall, RolesDo}
use Rattle.calm_laws.specs.of_store_laws.Users.Turning.{it}
use Rattle.calm_laws.proofs.of_store_laws.OneTree.Composing.{at_append, onto_append, rest_first}
use Rattle.headline_laws.proofs.Prompting.Calling.{accept_told, then}
use Rattle.headline_laws.proofs.Prompting.Events.{followed_onto, told_first, told_last}
use Rattle.headline_laws.proofs.Prompting.Heads.{Gives, goes_told}
use Rattle.headline_laws.proofs.Prompting.Owing.{DueTold, Dues, at_once, inside_rests, mild_dues, settled_due}
use Rattle.headline_laws.proofs.Prompting.OwingLeave.{leave_dues}
use Rattle.headline_laws.proofs.Prompting.Resting.{Rests, Settled, settled_more}
use Rattle.headline_laws.proofs.Prompting.Splits.{Head, IsTaken, Splits, step_splits}

module _ (c : Config) (few : length c.packs ≤ 4) (roles : RolesDo c) (n me : ℕ) (t : List Line) (past : Past c t) (settled : Settled c (entries t)) where
  -- ---- a call ----

  inside_call : (process : ℕ) (words : Call) (f : Frame) (u : Users) → FrameFact c t f → UsersOf c f t u → MayCall c f.me process words u → AllTold c n t (on_call f (Some f.epoch) process words u).told → AllRest c n t (on_call f (Some f.epoch) process words u).told → Dues c n t (on_call f (Some f.epoch) process words u).told
  inside_call process words f u frame users asked may rest = over (goes_told f w counted)
    where
      w : WaitingCall
      w = accepted_call f (Some f.epoch) process words u

      counted : Users
      counted = counted_call f (Some f.epoch) process words u

      mid : List Line
      mid = then c n t f.me process (it f w) words

      first : Told
      first = accept_told f.me process (it f w) words

      after : UsersOf c f (told_onto n (on_call f (Some f.epoch) process words u).told t) (on_call f (Some f.epoch) process words u).view
      after = (roles.users.calls n t f process words u (record { past = past; frame = frame }) users asked rest).view

      waits_so : (goes_on f w counted).told ≡ [] → Rests c (entries mid) (accepted_as (entries t) f.me process (it f w) words)
      waits_so e = (let now : UsersOf c f mid (on_call f (Some f.epoch) process words u).view = subst (λ (xs : List Told). UsersOf c f (told_onto n (first ∷ xs) t) (on_call f (Some f.epoch) process words u).view) e after in
          inside_rests c mid f (on_call f (Some f.epoch) process words u).view (may.0, past.followed) (record { config_is = frame.config_is; inside = frame.inside; members_are = frame.members_are; up = frame.up; boot_is = frame.boot_is; is_member = frame.is_member }) now.inside (accepted_as (entries t) f.me process (it f w) words) (inl refl) refl)

      over : ((goes_on f w counted).told ≡ []) ⊎ Gives f w counted (goes_on f w counted).told → Dues c n t (on_call f (Some f.epoch) process words u).told
      over (inl e) = subst (λ (xs : List Told). Dues c n t (first ∷ xs)) (sym e) ((settled_due c n t first settled, tt), settled_more c n first t past.followed may.0 (waits_so e) settled)
      over (inr g) = subst (λ (xs : List Told). Dues c n t (first ∷ xs)) (sym g.told_is) (at_once c n f.me process (it f w) words g.reply t past.followed may.0 (subst (AllTold c n mid) g.told_is may.1).0 settled)

  -- a site in no epoch
  record SiteOut (boot : ℕ) (u : Users) : Type 0 where
    up : is_up c (entries t) me ≡ true
    outside : epoch_of (entries t) me ≡ None
    users : UsersOutside c me boot t u

  outside_call : (process boot : ℕ) (words : Call) (u : Users) → SiteOut boot u → MayCall c me process words u → AllTold c n t (on_call (call_frame c me boot None) None process words u).told → AllRest c n t (on_call (call_frame c me boot None) None process words u).told → Dues c n t (on_call (call_frame c me boot None) None process words u).told
  outside_call process boot words u out asked may rest = over (goes_told f w counted)
    where
      f : Frame
      f = call_frame c me boot None

      w : WaitingCall
      w = accepted_call f None process words u

      counted : Users
      counted = counted_call f None process words u

      mid : List Line
      mid = then c n t me process (it f w) words

      first : Told
      first = accept_told me process (it f w) words

      after : UsersOutside c me boot (told_onto n (on_call f None process words u).told t) (on_call f None process words u).view
      after = (roles.users.calls_outside n t me boot process words u past out.up out.outside out.users asked rest).view

      -- no call waits there, and so it is answered
      none : (goes_on f w counted).told ≡ [] → ⊥
      none e = (let now : UsersOutside c me boot mid (on_call f None process words u).view = subst (λ (xs : List Told). UsersOutside c me boot (told_onto n (first ∷ xs) t) (on_call f None process words u).view) e after in now.idle.none_waits.0 refl)

      over : ((goes_on f w counted).told ≡ []) ⊎ Gives f w counted (goes_on f w counted).told → Dues c n t (on_call f None process words u).told
      over (inl e) = absurd (none e)
      over (inr g) = subst (λ (xs : List Told). Dues c n t (first ∷ xs)) (sym g.told_is) (at_once c n me process (it f w) words g.reply t past.followed may.0 (subst (AllTold c n mid) g.told_is may.1).0 settled)

  call_dues : (process : ℕ) (words : Call) (o : Option InEpoch) (v : SiteView) → SiteIn c me t v o → MayCall c me process words v.users → AllTold c n t (on_call (call_frame c me v.boot o) (epoch_id o) process words v.users).told → AllRest c n t (on_call (call_frame c me v.boot o) (epoch_id o) process words v.users).told →
      Dues c n t (on_call (call_frame c me v.boot o) (epoch_id o) process words v.users).told
  call_dues process words None v fact asked may rest = outside_call process v.boot words v.users (record { up = fact.up; outside = fact.outside; users = fact.users }) asked may rest
  call_dues process words (Some e) v fact asked may rest = inside_call process words (frame_in c me v.boot e) v.users fact.frame fact.users asked may rest

  -- ---- an answer, and a leave ----

  taken_dues : (f : Frame) (v : SiteView) (told : List Told) → IsTaken f v told → AllTold c n t told → Dues c n t told
  taken_dues f v told k may = subst (Dues c n t) (sym k.told_is) (over (goes_told f (with_answer (record k.call { brought = k.brought }) k.answer) k.users) (subst (AllTold c n t) k.told_is may))
    where
      next : WaitingCall
      next = with_answer (record k.call { brought = k.brought }) k.answer

      x : Told
      x = takes_record f (record k.call { brought = k.brought }) k.answer

      over : ((goes_on f next k.users).told ≡ []) ⊎ Gives f next k.users (goes_on f next k.users).told → AllTold c n t (x ∷ (goes_on f next k.users).told) → Dues c n t (x ∷ (goes_on f next k.users).told)
      over (inl e) may = subst (λ (xs : List Told). Dues c n t (x ∷ xs)) (sym e) ((tt, tt), settled)
      over (inr g) may = subst (λ (xs : List Told). Dues c n t (x ∷ xs)) (sym g.told_is)
          ((tt, (settled_due c n (more n x t) (reply_record f.me f.boot next g.reply) settled, tt)), settled_more c n (reply_record f.me f.boot next g.reply) (more n x t) (may.0, past.followed) (subst (AllTold c n (more n x t)) g.told_is may.1).0 tt settled)

  leaves_dues : (o : Option InEpoch) (v : SiteView) → SiteIn c me t v o → AllTold c n t (leaves_of me o v).told → Dues c n t (leaves_of me o v).told
  leaves_dues None v fact may = (tt, settled)
  leaves_dues (Some e) v fact may = leave_dues c few n t (frame_in c me v.boot e) v.users past.followed fact.frame fact.users.inside settled may.0 may.1

  head_dues : (v : SiteView) (e : Event) (told : List Told) → SiteFact c me t v → EventFact c t me v e → Head c me v e told → AllTold c n t told → AllRest c n t told → Dues c n t told
  head_dues v e told fact event (inl none) may rest = subst (Dues c n t) (sym none) (tt, settled)
  head_dues v e told fact event (inr (inl k)) may rest = subst (Dues c n t) (sym k.told_is) (call_dues k.process k.words v.epoch v fact (subst (EventFact c t me v) k.event_is event) (subst (AllTold c n t) k.told_is may) (subst (AllRest c n t) k.told_is rest))
  head_dues v e told fact event (inr (inr (inl k))) may rest = taken_dues (frame_in c me v.boot k.epoch) v told k.taken may
  head_dues v e told fact event (inr (inr (inr left))) may rest = subst (Dues c n t) (sym left) (leaves_dues v.epoch v fact (subst (AllTold c n t) left may))

  -- ---- a whole event ----

  then_dues : (xs ys : List Told) → Dues c n t xs → Dues c n (told_onto n xs t) ys → Dues c n t (xs ++ ys)
  then_dues xs ys a b = (at_append (DueTold c n) n xs ys t a.0 b.0, subst (λ (u : List Line). Settled c (entries u)) (sym (onto_append n xs ys t)) b.1)

  pub step_dues : (links : Links) (v : SiteView) (e : Event) → SiteFact c me t v → EventFact c t me v e → AllTold c n t (step c me links v e).told → AllRest c n t (step c me links v e).told → Dues c n t (step c me links v e).told
  step_dues links v e fact event may rest = over (step_splits c me links v e)
    where
      over : Splits c me v e (step c me links v e).told → Dues c n t (step c me links v e).told
      over k =
          let all : AllTold c n t (k.first ++ k.rest) = subst (AllTold c n t) k.told_is may in
          let head : Dues c n t k.first = head_dues v e k.first fact event k.head (told_first c n k.first k.rest t all) (rest_first c n k.first k.rest t (subst (AllRest c n t) k.told_is rest)) in
          subst (Dues c n t) (sym k.told_is) (then_dues k.first k.rest head (mild_dues c n None k.rest (told_onto n k.first t) (followed_onto c n k.first t past.followed (told_first c n k.first k.rest t all)) k.mild (told_last c n k.first k.rest t all) head.1))
