-- A read that gives what it read, and was granted something, has opened a version again: what it was granted last is what it was answered.
use Rattle.std.proofs.Common.{◌≡◌, ℕ, true, List, [], ◌∷◌, Option, Some, None, refl, sym, ◌∙◌, ap, subst, inl, inr}
use Rattle.role_steps.proofs.of_plain_facts.Options.{some_same}
use Rattle.locus_ids.specs.declared.config.Config.{Config}
use Rattle.locus_ids.specs.declared.ids.CallId.{CallId}
use Rattle.locus_ids.specs.declared.ids.EpochId.{EpochId}
use Rattle.locus_ids.specs.declared.ids.Mode.TheVariants as mode
use Rattle.locus_ids.specs.declared.ids.Serial.{Serial}
use Rattle.trace_book.specs.declared.call.Call.{Call}
use Rattle.trace_book.specs.declared.call.OpenMode.TheVariants as opens
use Rattle.trace_book.specs.declared.descriptor.Beginning.{Beginning}
use Rattle.trace_book.specs.declared.descriptor.Beginning.TheVariants as begins
use Rattle.trace_book.specs.declared.descriptor.Descriptor.{Descriptor}
use Rattle.trace_book.specs.declared.descriptor.OneVersion.{OneVersion}
use Rattle.trace_book.specs.declared.operation.Outcome.{Outcome}
use Rattle.trace_book.specs.declared.reply.Reply.TheVariants as reply
use Rattle.call_rules.specs.declared.answer.Answer.TheVariants as answer
use Rattle.call_rules.specs.declared.want.Want.{Want}
use Rattle.call_rules.specs.declared.want.Want.TheVariants as want
use Rattle.call_rules.specs.Descriptors.{lowest_free}
use Rattle.call_rules.specs.Scripts.{wants}
use Rattle.the_run.specs.Worlds.{Line}
use Rattle.tree_model.specs.declared.accepted.Waiting.{Waiting}
use Rattle.tree_model.specs.Calls.{opening_of}
use Rattle.lawful_trace.specs.Progress.{Answers, is_packed_in}
use Rattle.lawful_trace.specs.Tables.{begun, descriptor}
use Rattle.tree_laws.specs.Calls.{log, script}
use Rattle.tree_laws.specs.Following.{IsFollowed}
use Rattle.tree_laws.specs.Holding.{Instances, had_after, has_instances, with_begun}
use Rattle.tree_laws.specs.Processes.{IsMend}
use Rattle.tree_laws.specs.Printed.{entries}
use Rattle.store_laws.specs.Users.Rests.{HasTaken, IsReadAgain, gives_now}
use Rattle.store_laws.proofs.ScriptEndingCalls.{has_by}
use Rattle.store_laws.proofs.ScriptFitted.{began, began_right, log_fits}
use Rattle.store_laws.proofs.ScriptFitting.{AllFit, Fits, IsSound, ReadWords, UsesWords}
use Rattle.store_laws.proofs.ScriptHad.{has_log}
use Rattle.store_laws.proofs.ScriptLasting.{opened_from}
use Rattle.store_laws.proofs.ScriptReopening.{TookAgain, gives_read}
use Rattle.store_laws.proofs.ScriptNaming.{BeganOpening, BeganSo, Rereads, openers_begin, rereads_so, script_by}
use Rattle.store_laws.proofs.ScriptReplies.{gives_sound}
use Rattle.store_laws.proofs.ScriptSoundCalls.{words_apart}
use Rattle.store_laws.proofs.ScriptOpened.{last_so, opened_had}

-- ---- a read that opened a version again ----

-- an operation that was carried out takes nothing away
did_kept : (w : Want) (result : Outcome) (own : Instances) (i : Serial) → Fits w (answer.Did result) → own i ≡ true → had_after w (answer.Did result) own i ≡ true
did_kept (want.Close inst) result own i fit k = absurd fit
did_kept _ result own i fit k = k

module _ (c : Config) (t : List Line) (d : CallId) (caller : Waiting) (e : EpochId) (bytes : List ℕ) (h : IsFollowed c t) (k : HasTaken c t d caller e) (gives : gives_now c t d caller ≡ want.Give (reply.Data bytes)) where
  abbrev unused : Option ℕ
  unused = lowest_free (descriptor (entries t) caller.site caller.process)

  module _ (b : Beginning) (reads : Rereads caller.words b) (starts : begun (entries t) d ≡ Some (begins.Reopens reads.kept reads.last)) where
    took : TookAgain (log t d)
    took = gives_read c.mounts (is_packed_in c (entries t) caller.epoch) unused reads.fd reads.at reads.len reads.kept reads.last (log t d) bytes
        (sym (ap (λ (y : Call). wants c.mounts (is_packed_in c (entries t) caller.epoch) unused y (begins.Reopens reads.kept reads.last) (log t d)) reads.words_are)
        ∙ (sym (script_by c t d caller (begins.Reopens reads.kept reads.last) unused (log t d) k.named starts) ∙ gives))

    -- what it was granted last is what it was answered
    is_last : opening_of (entries t) d ≡ Some (record { mode = mode.Read; epoch = e; inst = took.inst; steady = None })
    is_last = last_so c t h d opens.Read e (record { caller = caller; named = k.named; opens_in = inr (subst ReadWords (sym reads.words_are) tt, refl); made_in = k.made_in }) ∙ ap (opened_from None mode.Read e) (k.nothing_waits ∙ took.is)

  -- a read that began by opening a version again was granted that
  pub reopened_granted : (kept : OneVersion) (last : EpochId) → begun (entries t) d ≡ Some (begins.Reopens kept last) → (x : Descriptor) × (opening_of (entries t) d ≡ Some x)
  reopened_granted kept last starts = (record { mode = mode.Read; epoch = e; inst = (took (begins.Reopens kept last) reads begun_so).inst; steady = None }, is_last (begins.Reopens kept last) reads begun_so)
    where
      reads : Rereads caller.words (begins.Reopens kept last)
      reads = rereads_so caller.words kept last (began_right t d caller (begins.Reopens kept last) k.named starts)

      begun_so : begun (entries t) d ≡ Some (begins.Reopens reads.kept reads.last)
      begun_so = starts ∙ ap Some reads.begins_are

module _ (c : Config) (t : List Line) (d : CallId) (caller : Waiting) (e : EpochId) (bytes : List ℕ) (x : Descriptor) (h : IsFollowed c t) (k : HasTaken c t d caller e) (gives : gives_now c t d caller ≡ want.Give (reply.Data bytes)) (granted : opening_of (entries t) d ≡ Some x) where
  -- it doesn't walk
  rereads : (b : Beginning) × (begun (entries t) d ≡ Some b) × Rereads caller.words b
  rereads = over (openers_begin c t h d x granted)
    where
      uses : UsesWords caller.words
      uses = subst (IsSound caller.words (unused c t d caller e bytes h k gives)) gives (gives_sound c t d caller e h k)

      over : BeganSo t d → (b : Beginning) × (begun (entries t) d ≡ Some b) × Rereads caller.words b
      over so = by so.opening
        where
          same : so.caller ≡ caller
          same = some_same so.caller caller (sym so.named ∙ k.named)

          by : BeganOpening t d so.caller.words → (b : Beginning) × (begun (entries t) d ≡ Some b) × Rereads caller.words b
          by (inl walks) = absurd (words_apart caller.words (began_right t d caller (begins.Walks d) k.named walks) uses)
          by (inr r) = (r.0, r.1, subst (λ (w : Waiting). Rereads w.words r.0) same r.2)

  abbrev reads : Rereads caller.words rereads.0
  reads = rereads.2

  starts : begun (entries t) d ≡ Some (begins.Reopens reads.kept reads.last)
  starts = rereads.1 ∙ ap Some reads.begins_are

  abbrev own : TookAgain (log t d)
  own = took c t d caller e bytes h k gives rereads.0 reads starts

  same_as : record { mode = mode.Read; epoch = e; inst = own.inst; steady = None } ≡ x
  same_as = some_same (record { mode = mode.Read; epoch = e; inst = own.inst; steady = None }) x (sym (is_last c t d caller e bytes h k gives rereads.0 reads starts) ∙ granted)

  fits : AllFit (script c (entries t) d None) (answer.Reading own.inst own.version ∷ answer.Did own.result ∷ [])
  fits = subst (AllFit (script c (entries t) d None)) own.is (log_fits c t d h (caller, k.named))

  had : has_instances c t d own.inst ≡ true
  had = has_log c t h d (caller, k.named) own.inst
      ∙ (ap (λ (xs : Answers). has_by (script c (entries t) d None) (with_begun (begun (entries t) d)) xs own.inst) own.is
      ∙ did_kept (script c (entries t) d None (answer.Reading own.inst own.version ∷ [])) own.result (had_after (script c (entries t) d None []) (answer.Reading own.inst own.version) (with_begun (begun (entries t) d))) own.inst fits.1.0
      (opened_had (script c (entries t) d None []) (answer.Reading own.inst own.version) (with_begun (begun (entries t) d)) own.inst refl))

  -- a read that gives what it read, and was granted something, has opened a version again: it has the instance that was granted to it last
  pub read_again : IsReadAgain c t d e x
  read_again = record {
    epoch_is = ap (λ (y : Descriptor). y.epoch) same_as;
    mode_is = sym (ap (λ (y : Descriptor). y.mode) same_as);
    began = (reads.kept, reads.last, starts);
    held = subst (λ (i : Serial). has_instances c t d i ≡ true) (ap (λ (y : Descriptor). y.inst) same_as) had;
    took = (own.version, own.result, own.is ∙ ap (λ (y : Descriptor). answer.Reading y.inst own.version ∷ answer.Did own.result ∷ []) same_as);
    plain = λ w named. subst (λ (y : Call). IsMend y → ⊥) (sym (ap (λ (y : Waiting). y.words) (some_same w caller (sym named ∙ k.named)) ∙ reads.words_are)) (λ m. m);
  }
