-- A mend waits at its storage site while it has its file open and the site is in its epoch: it gives its reply only once it has closed it.
use Rattle.std.proofs.Common.{◌≡◌, ℕ, true, List, [], ◌∷◌, Option, Some, None, refl, sym, ◌∙◌, ap, subst, inl, inr}
use Rattle.role_steps.proofs.of_plain_facts.Options.{some_same}
use Rattle.role_steps.proofs.of_plain_facts.Tests.{true_false}
use Rattle.locus_ids.specs.declared.config.Config.{Config}
use Rattle.locus_ids.specs.declared.ids.CallId.{CallId}
use Rattle.locus_ids.specs.declared.ids.EpochId.{EpochId}
use Rattle.locus_ids.specs.declared.ids.FileId.{FileId}
use Rattle.locus_ids.specs.declared.ids.Mode.{Mode}
use Rattle.locus_ids.specs.declared.ids.Mode.TheVariants as mode
use Rattle.locus_ids.specs.declared.ids.Serial.{Serial}
use Rattle.locus_ids.specs.declared.ids.Stamp.{Stamp}
use Rattle.trace_book.specs.declared.call.Call.TheVariants as call
use Rattle.trace_book.specs.declared.descriptor.Beginning.{Beginning}
use Rattle.trace_book.specs.declared.descriptor.Beginning.TheVariants as begins
use Rattle.trace_book.specs.declared.record.Record.TheVariants as says
use Rattle.call_rules.specs.Descriptors.{beginning}
use Rattle.call_rules.specs.Scripts.{wants}
use Rattle.call_rules.specs.declared.answer.Answer.{Answer}
use Rattle.call_rules.specs.declared.want.Want.{Want}
use Rattle.call_rules.specs.declared.want.Want.TheVariants as want
use Rattle.role_steps.specs.Views.{Told, Shown}
use Rattle.the_run.specs.Kept.{Among}
use Rattle.the_run.specs.Worlds.{Line}
use Rattle.tree_model.specs.declared.accepted.Waiting.{Waiting}
use Rattle.tree_model.specs.declared.instance.Instance.{Instance}
use Rattle.tree_model.specs.Calls.{call_named, waiting}
use Rattle.tree_model.specs.Epochs.{epoch_of}
use Rattle.lawful_trace.specs.Progress.{answers, is_packed_in, wants_as}
use Rattle.lawful_trace.specs.Tables.{begun}
use Rattle.lawful_trace.specs.TreeRows.{IsCallIn, granted_group, is_open_of}
use Rattle.tree_laws.specs.Calls.{is_request, log, script}
use Rattle.tree_laws.specs.Following.{IsFollowed, MayTell}
use Rattle.tree_laws.specs.Holding.{begun_with, has_instances, with_begun}
use Rattle.tree_laws.specs.Instances.{instance_now}
use Rattle.tree_laws.specs.Past.{GrantRecord, Printed, WasGranted, WasReleased}
use Rattle.tree_laws.specs.Printed.{entries, onto_entries}
use Rattle.tree_laws.specs.Serials.{asked_now}
use Rattle.tree_laws.proofs.Awaiting.{all_have}
use Rattle.tree_laws.proofs.Mending.{mends_at_sync}
use Rattle.tree_laws.proofs.Scripts.{named_stays}
use Rattle.tree_laws.proofs.Waiting.{IsIt, accepted, asking_waits}
use Rattle.store_laws.proofs.of_tree_laws.Orders.ProcessOpen.{OpenAs, granted_open}
use Rattle.store_laws.proofs.Holdings.Released.{released_shut}
use Rattle.store_laws.proofs.Holdings.MendMends.{mend_opened}
use Rattle.store_laws.proofs.Holdings.RoomOpenGranted.{GrantedSo, open_granted}
use Rattle.rest_laws.proofs.MendStepPlaces.{mend_place}
use Rattle.store_laws.proofs.ScriptEnding.{GivesNone}
use Rattle.store_laws.proofs.ScriptEndingCalls.{NotOpen, has_by, wants_end}
use Rattle.store_laws.proofs.ScriptFitted.{Began, began, fit_same, log_fits, script_sound}
use Rattle.store_laws.proofs.ScriptFitting.{IsSound}
use Rattle.store_laws.proofs.ScriptHad.{by_same, has_log}
use Rattle.store_laws.proofs.ScriptNaming.{script_by}
use Rattle.store_laws.proofs.ScriptSoundCalls.{HasFree, WalksWords}
use Rattle.store_laws.proofs.Begun.{granted_in}
use Rattle.rest_laws.specs.AdoptionMending.{MendWaits}
use Rattle.rest_laws.proofs.AdoptionHaving.{HasOrWaits, granted_had}

-- ---- who has its file open asks ----

module _ (c : Config) (t : List Line) (h : IsFollowed c t) (d : CallId) (w : Waiting) (e : EpochId) (f : FileId) (named : call_named (entries t) d ≡ Some w) (made_in : w.epoch ≡ Some e) (words : w.words ≡ call.Mend f) where
  starts : begun (entries t) d ≡ Some (begins.Walks d)
  starts = k.begun_is ∙ ap Some (ap (λ (o : Option EpochId). beginning k.table o d w.words) made_in ∙ ap (beginning k.table (Some e) d) words)
    where
      k : Began t d w
      k = began t d w named

  abbrev goes : List Answer → Want
  goes = wants c.mounts (is_packed_in c (entries t) w.epoch) None w.words (begins.Walks d)

  same : (xs : List Answer) → script c (entries t) d None xs ≡ goes xs
  same xs = script_by c t d w (begins.Walks d) None xs named starts

  ends : GivesNone (goes (log t d)) (has_by goes (begun_with (begins.Walks d)) (log t d))
  ends = wants_end c.mounts (is_packed_in c (entries t) w.epoch) None d w.words (begun_with (begins.Walks d)) (λ i e. true_false (sym e)) (subst WalksWords (sym words) tt) (subst NotOpen (sym words) tt) (log t d)
      (fit_same (script c (entries t) d None) goes (log t d) same (log_fits c t d h (w, named)))

  there : (i : Serial) → has_instances c t d i ≡ true → has_by goes (begun_with (begins.Walks d)) (log t d) i ≡ true
  there i has = sym (by_same (script c (entries t) d None) goes (begun_with (begins.Walks d)) (log t d) i same)
      ∙ (sym (ap (λ (o : Option Beginning). has_by (script c (entries t) d None) (with_begun o) (log t d) i) starts) ∙ (sym (has_log c t h d (w, named) i) ∙ has))

  sound : IsSound w.words None (asked_now c t d)
  sound = script_sound c t d w (begins.Walks d) None h named starts (subst (HasFree None (begins.Walks d)) (sym words) tt)

  having_asks : (i : Serial) → has_instances c t d i ≡ true → is_request (asked_now c t d) ≡ true
  having_asks i has = over (asked_now c t d) refl
    where
      over : (x : Want) → asked_now c t d ≡ x → is_request x ≡ true
      over (want.Give r) is = absurd (subst (λ (y : Want). GivesNone y (has_by goes (begun_with (begins.Walks d)) (log t d))) (sym (same (log t d)) ∙ is) ends i (there i has))
      over want.Never is = absurd (subst (IsSound w.words None) is sound)
      over x is = refl

  asks : (i : Serial) → HasOrWaits c t d i → is_request (asked_now c t d) ≡ true
  asks i (inl k) = ((all_have c t h).awaits d k.0 (w, named) k.1).asked
  asks i (inr has) = having_asks i has

-- ---- whose words they are ----

granted_words : (c : Config) (older : List Line) (x : Told) → MayTell c older x → (e : EpochId) (d : CallId) (request : ℕ) (i : Serial) (f : FileId) (stamp : Option Stamp) (ss : ℕ) → Printed (GrantRecord e d request i mode.Mend f stamp ss) older x → (w : Waiting) → call_named (entries older) d ≡ Some w → w.words ≡ call.Mend f
granted_words c older (Shown (says.Grant at it number inst m g on place)) may e d request i f stamp ss k w named = mend_opened c (entries older) w (begun (entries older) d) (answers c (entries older) d) f
    (subst (λ (o : Option Waiting). is_open_of mode.Mend f (wants_as c (entries older) o (begun (entries older) d) (answers c (entries older) d)) ≡ true) named
    (subst (λ (y : CallId). is_open_of mode.Mend f (wants_as c (entries older) (call_named (entries older) y) (begun (entries older) y) (answers c (entries older) y)) ≡ true) k.call_is
    (subst (λ (y : FileId). is_open_of mode.Mend y (wants_as c (entries older) (call_named (entries older) it) (begun (entries older) it) (answers c (entries older) it)) ≡ true) k.file_is
    (subst (λ (y : Mode). is_open_of y g (wants_as c (entries older) (call_named (entries older) it) (begun (entries older) it) (answers c (entries older) it)) ≡ true) k.mode_is may.row.opens.asked))))
granted_words c older _ may e d request i f stamp ss k w named = absurd k

mend_words : (c : Config) (t : List Line) → IsFollowed c t → (e : EpochId) (d : CallId) (request : ℕ) (i : Serial) (f : FileId) (stamp : Option Stamp) (ss : ℕ) → WasGranted t e d request i mode.Mend f stamp ss → (w : Waiting) → call_named (entries t) d ≡ Some w → w.words ≡ call.Mend f
mend_words c [] h e d request i f stamp ss was w named = absurd was
mend_words c (x ∷ older) h e d request i f stamp ss (inl now) w named = granted_words c older x.told h.0 e d request i f stamp ss now w (sym (over x.told now) ∙ named)
  where
    over : (y : Told) → Printed (GrantRecord e d request i mode.Mend f stamp ss) older y → call_named (onto_entries x.number y (entries older)) d ≡ call_named (entries older) d
    over (Shown (says.Grant at it number inst m g on place)) k = refl
    over _ k = absurd k
mend_words c (x ∷ older) h e d request i f stamp ss (inr was) w named = mend_words c older h.1 e d request i f stamp ss was w (sym (named_stays c x.number x.told older d h.1 h.0 (before.accepted, before.named)) ∙ named)
  where
    before : IsCallIn (entries older) e d
    before = granted_in c older h.1 e d request i mode.Mend f stamp ss was

-- ---- it waits ----

pub mend_waits : (c : Config) (t : List Line) → IsFollowed c t → (e : EpochId) (i : Serial) (x : Instance) → instance_now c t e i ≡ Some x → x.grant.mode ≡ mode.Mend → epoch_of (entries t) x.grant.ss ≡ Some e → MendWaits t x
mend_waits c t h e i x now is inside = record {
  caller = w;
  call_is = names.call_is ∙ sym call_is;
  waits = waits;
  site_is = site_is;
  words_are = words;
}
  where
    so : GrantedSo t e i x.grant
    so = open_granted c t h e (granted_group (entries t) e i) i x now

    d : CallId
    d = so.call

    live : WasReleased t e i → ⊥
    live r = released_shut c t h e i x r now

    was : WasGranted t e d so.request i mode.Mend x.grant.file so.stamp x.grant.ss
    was = subst (λ (m : Mode). WasGranted t e d so.request i m x.grant.file so.stamp x.grant.ss) is so.was

    open_so : OpenAs c t e d i mode.Mend x.grant.file x.grant.ss
    open_so = granted_open c t h e d so.request i mode.Mend x.grant.file so.stamp x.grant.ss was live

    call_is : x.grant.call ≡ d
    call_is = ap (λ (y : Instance). y.grant.call) (some_same x open_so.at (sym now ∙ open_so.found)) ∙ open_so.call_is

    k : IsCallIn (entries t) e d
    k = granted_in c t h e d so.request i mode.Mend x.grant.file so.stamp x.grant.ss was

    w : Waiting
    w = k.accepted

    words : w.words ≡ call.Mend x.grant.file
    words = mend_words c t h e d so.request i x.grant.file so.stamp x.grant.ss was w k.named

    site_is : w.site ≡ x.grant.ss
    site_is = some_same w.site x.grant.ss (sym (mends_at_sync c t h d w e x.grant.file k.named k.made_in words) ∙ mend_place c t h e d so.request i x.grant.file so.stamp x.grant.ss was)

    names : IsIt (entries t) d w
    names = (accepted c t h).named d w k.named

    waits : Among w (waiting (entries t))
    waits = asking_waits c t e d h k (ap (epoch_of (entries t)) (sym names.site_is ∙ site_is) ∙ inside) (asks c t h d w e x.grant.file k.named k.made_in words i (granted_had c t h e d so.request i mode.Mend x.grant.file so.stamp x.grant.ss was live))
