-- The law of one version, of every trace that came as it may with the replies that scripts give, and so of every run.
use Rattle.std.proofs.Common.{◌≡◌, ℕ, ◌≤◌, true, List, [], ◌∷◌, length, Option, Some, None, refl, sym, ◌∙◌, ap, subst, arith}
use Rattle.std.specs.Str.{bytes_eq}
use Rattle.std.proofs.lemmas.Slice.Eq.{bytes_eq-Decides}
use Rattle.plain_facts.proofs.Options.{none_some}
use Rattle.plain_facts.proofs.Tests.{and_true}
use Rattle.locus_ids.specs.declared.config.Config.{Config}
use Rattle.locus_ids.specs.declared.ids.CallId.{CallId}
use Rattle.locus_ids.specs.declared.ids.EpochId.{EpochId}
use Rattle.locus_ids.specs.declared.refusal.Refusal.TheVariants as refusal
use Rattle.commit_graph.specs.Versions.{content_of, is_in}
use Rattle.file_content.specs.Contents.{part}
use Rattle.trace_book.specs.declared.call.Call.{Call}
use Rattle.trace_book.specs.declared.call.Call.TheVariants as call
use Rattle.trace_book.specs.declared.descriptor.Descriptor.{Descriptor}
use Rattle.trace_book.specs.declared.descriptor.OneVersion.{OneVersion}
use Rattle.trace_book.specs.declared.record.Record.{Record}
use Rattle.trace_book.specs.declared.record.Record.TheVariants as says
use Rattle.trace_book.specs.declared.reply.Reply.{Reply}
use Rattle.trace_book.specs.declared.reply.Reply.TheVariants as reply
use Rattle.schedule_lines.specs.Cluster.{config_of}
use Rattle.schedule_lines.specs.Schedule.{AreInOrder}
use Rattle.schedule_lines.specs.declared.line.ScheduleLine.{ScheduleLine}
use Rattle.call_rules.specs.declared.want.Want.TheVariants as want
use Rattle.role_steps.specs.Views.{Told, Shown}
use Rattle.the_run.specs.Runs.{run, run_in}
use Rattle.the_run.specs.Worlds.{Line}
use Rattle.tree_model.specs.declared.accepted.Waiting.{Waiting}
use Rattle.tree_model.specs.Calls.{call_named}
use Rattle.tree_model.specs.Histories.{history}
use Rattle.lawful_trace.specs.Progress.{left_epoch, unless_left, wants_next}
use Rattle.lawful_trace.specs.Tables.{descriptor}
use Rattle.tree_laws.specs.Following.{IsFollowed}
use Rattle.tree_laws.specs.Printed.{entries, onto_entries}
use Rattle.calm_laws.specs.of_store_laws.OneTree.Rest.{EachRest, IsRest, Past}
use Rattle.row_laws.specs.Shown.{EachRecord, trace_of}
use Rattle.row_laws.proofs.Fitting.{schedule_fits}
use Rattle.rest_laws.proofs.Packs.{schedule_packs}
use Rattle.rest_laws.proofs.Shown.{shown_entries}
use Rattle.rest_laws.proofs.StoreStepFirst.{four_groups}
use Rattle.calm_laws.proofs.of_store_laws.OneTree.Run.{run_holds}
use Rattle.calm_laws.proofs.of_store_laws.OneTree.Staying.{stays}
use Rattle.rest_laws.proofs.Resting.{run_low, run_rests}
use Rattle.rest_laws.proofs.Roles.{roles_do}
use Rattle.headline_laws.specs.Prompting.Given.{IsGiven, IsGivenRow}
use Rattle.headline_laws.proofs.Prompting.RunReplies.{replies_given}
use Rattle.steady_laws.specs.OneVersion.{Read, ReadsOneVersion, answers_read, is_answered, is_of_version, is_stale_where_due, kept_version, read_by, read_from, steady_of}
use Rattle.steady_laws.proofs.Keeping.{kept_is}
use Rattle.headline_laws.proofs.OneVersion.Bytes.{OfVersion, data_of_version}
use Rattle.headline_laws.proofs.OneVersion.Keeping.{Answered, GrantedOn, all_kept, answered}
use Rattle.headline_laws.proofs.OneVersion.Refusing.{stale_where_due}

-- ---- a reply ----

module _ (c : Config) (t : List Line) (h : IsFollowed c t) (rest : EachRest c t) (given : EachRecord (IsGivenRow c) (entries t)) (s process : ℕ) (d : CallId) (r : Reply) (is_given : IsGiven c (entries t) s process d r) where
  k : Answered c t s process d r
  k = answered c t h s process d r is_given

  abbrev w : Waiting
  w = k.caller

  named : call_named (entries t) w.call ≡ Some w
  named = ap (call_named (entries t)) k.call_is ∙ k.named

  -- of a read by a number that keeps a version
  module _ (fd at len : ℕ) (v : OneVersion) (reads : w.words ≡ call.Read fd at len) (keeps : kept_version (entries t) s process fd ≡ Some v) where
    abbrev one : Read
    one = record { fd = fd; at = at; len = len; version = v }

    number : (o : Option Descriptor) → steady_of o ≡ Some v → (x : Descriptor) × (o ≡ Some x) × (x.steady ≡ Some v)
    number None e = absurd (none_some v e)
    number (Some x) e = (x, refl, e)

    stands : (x : Descriptor) × (descriptor (entries t) s process fd ≡ Some x) × (x.steady ≡ Some v)
    stands = number (descriptor (entries t) s process fd) (sym (kept_is (entries t) s process fd) ∙ keeps)

    found : descriptor (entries t) w.site w.process fd ≡ Some stands.0
    found = ap (λ (m : ℕ). descriptor (entries t) m w.process fd) k.site_is ∙ (ap (λ (m : ℕ). descriptor (entries t) s m fd) k.process_is ∙ stands.1)

    granted : GrantedOn t stands.0.epoch stands.0.inst v
    granted = all_kept c t h rest given s process fd stands.0 v stands.1 stands.2

    bytes_of : (q : Reply) → wants_next c (entries t) w.call ≡ want.Give q → is_of_version c (entries t) q one ≡ true
    bytes_of (reply.Data bytes) gives = (let its : OfVersion c t v at len bytes = data_of_version c t h rest w fd at len stands.0 v bytes k.among reads named found stands.2 granted gives in
        and_true (is_in (history c (entries t)) v.file v.stamp) (bytes_eq bytes (part (content_of (history c (entries t)) v.file v.stamp) at len)) its.stands ((bytes_eq-Decides bytes (part (content_of (history c (entries t)) v.file v.stamp) at len)).1 its.bytes_are))
    bytes_of q gives = refl

    due : (q : Reply) → wants_next c (entries t) w.call ≡ want.Give q → is_stale_where_due (entries t) s process d q one ≡ true
    due q gives = subst (λ (m : ℕ). is_stale_where_due (entries t) m process d q one ≡ true) k.site_is (subst (λ (m : ℕ). is_stale_where_due (entries t) w.site m d q one ≡ true) k.process_is (subst (λ (y : CallId). is_stale_where_due (entries t) w.site w.process y q one ≡ true) k.call_is
        (stale_where_due c t h rest w fd at len stands.0 v q k.among reads named found stands.2 gives)))

    answers_one : answers_read c (entries t) s process d r (Some one) ≡ true
    answers_one = over (left_epoch (entries t) w) k.gives
      where
        left : (e : EpochId) (q : Reply) → want.Give (reply.No (refusal.Changed e)) ≡ want.Give q → reply.No (refusal.Changed e) ≡ q
        left e q m = cc

        over : (o : Option EpochId) → unless_left o (wants_next c (entries t) w.call) ≡ want.Give r → answers_read c (entries t) s process d r (Some one) ≡ true
        over None gives = and_true (is_of_version c (entries t) r one) (is_stale_where_due (entries t) s process d r one) (bytes_of r gives) (due r gives)
        over (Some e) gives = subst (λ (q : Reply). answers_read c (entries t) s process d q (Some one) ≡ true) (left e r gives) refl

  reply_right : answers_read c (entries t) s process d r (read_by (entries t) s process (call_named (entries t) d)) ≡ true
  reply_right = subst (λ (o : Option Waiting). answers_read c (entries t) s process d r (read_by (entries t) s process o) ≡ true) (sym k.named) (over w.words refl)
    where
      kept : (fd at len : ℕ) → w.words ≡ call.Read fd at len → (o : Option OneVersion) → kept_version (entries t) s process fd ≡ o → answers_read c (entries t) s process d r (read_from fd at len o) ≡ true
      kept fd at len reads None is = refl
      kept fd at len reads (Some v) is = answers_one fd at len v reads is

      over : (y : Call) → w.words ≡ y → answers_read c (entries t) s process d r (read_by (entries t) s process (Some (record w { words = y }))) ≡ true
      over (call.Read fd at len) reads = kept fd at len reads (kept_version (entries t) s process fd) refl
      over y reads = refl

-- ---- every trace ----

record_right : (c : Config) (t : List Line) → IsFollowed c t → EachRest c t → EachRecord (IsGivenRow c) (entries t) → (n : ℕ) (r : Record) → IsGivenRow c (entries t) (record { line = n; what = r }) → is_answered c (entries t) r ≡ true
record_right c t h rest given n (says.Answer s process d r) it = reply_right c t h rest given s process d r it
record_right c t h rest given n r it = refl

one_version : (c : Config) (t : List Line) → IsFollowed c t → EachRest c t → EachRecord (IsGivenRow c) (entries t) → ReadsOneVersion c (entries t)
one_version c [] h rest given = refl
one_version c (x ∷ older) h rest given = over x.told given (one_version c older h.1 rest.1)
  where
    over : (y : Told) → EachRecord (IsGivenRow c) (onto_entries x.number y (entries older)) → (EachRecord (IsGivenRow c) (entries older) → ReadsOneVersion c (entries older)) → ReadsOneVersion c (onto_entries x.number y (entries older))
    over (Shown r) g before = and_true (is_answered c (entries older) r) _ (record_right c older h.1 rest.1 g.1 x.number r g.0) (before g.1)
    over y g before = before g

pub trace_reads : (c : Config) (t : List Line) → Past c t → EachRecord (IsGivenRow c) (entries t) → ReadsOneVersion c (entries t)
trace_reads c t past given = one_version c t past.followed past.rest.each given

pub run_reads : (lines : List ScheduleLine) → AreInOrder lines → ReadsOneVersion (config_of lines) (trace_of (run lines))
run_reads lines order = subst (ReadsOneVersion (config_of lines)) (sym (shown_entries (run lines).trace)) (trace_reads (config_of lines) (run lines).trace
    (record { followed = (run_holds (config_of lines) lines (schedule_fits lines order) (roles_do (config_of lines) few) (stays (config_of lines)) rests).followed; rest = rests }) (subst (EachRecord (IsGivenRow (config_of lines))) (shown_entries (run lines).trace) (replies_given lines order)))
  where
    few : length (config_of lines).packs ≤ 4
    few = omega (arith, four_groups lines)

    rests : IsRest (config_of lines) (run_in (config_of lines) lines).trace
    rests = run_rests (config_of lines) lines (schedule_fits lines order) (schedule_packs lines order) (run_low (config_of lines) lines)
