-- A mend that has just been accepted isn't answered: it asks its open.
use Rattle.std.proofs.Common.{◌≡◌, ℕ, ◌==◌, Bool, true, false, cond, ◌&&◌, List, [], ◌∷◌, Option, None, Some, refl, sym, ◌∙◌, ap, subst}
use Rattle.std.specs.Option.{is_some}
use Rattle.role_steps.proofs.of_plain_facts.Options.{some_same}
use Rattle.locus_ids.specs.declared.config.Config.{Config}
use Rattle.locus_ids.specs.declared.ids.CallId.{CallId}
use Rattle.locus_ids.specs.declared.ids.EpochId.{EpochId}
use Rattle.locus_ids.specs.declared.ids.FileId.{FileId}
use Rattle.trace_book.specs.Same.{same_call}
use Rattle.trace_book.specs.declared.call.Call.{Call}
use Rattle.trace_book.specs.declared.call.Call.TheVariants as call
use Rattle.trace_book.specs.declared.descriptor.Beginning.TheVariants as begins
use Rattle.trace_book.specs.declared.record.Record.{Record}
use Rattle.trace_book.specs.declared.record.Record.TheVariants as says
use Rattle.locus_ids.specs.declared.refusal.Refusal.TheVariants.{NoStorage}
use Rattle.trace_book.specs.declared.reply.Reply.{Reply}
use Rattle.trace_book.specs.declared.reply.Reply.TheVariants as reply
use Rattle.call_rules.specs.Descriptors.{beginning, lowest_free}
use Rattle.call_rules.specs.Scripts.{wants}
use Rattle.call_rules.specs.declared.want.Want.TheVariants as want
use Rattle.role_steps.specs.Views.{Shown, Told}
use Rattle.the_run.specs.Worlds.{Line}
use Rattle.tree_model.specs.Calls.{call_named, waiting}
use Rattle.tree_model.specs.Epochs.{epoch_of}
use Rattle.tree_model.specs.declared.accepted.Waiting.{Waiting}
use Rattle.lawful_trace.specs.CallRows.{is_this}
use Rattle.lawful_trace.specs.Progress.{is_packed_in, now_wants}
use Rattle.lawful_trace.specs.Tables.{descriptor}
use Rattle.tree_laws.specs.Doing.{AllTold}
use Rattle.tree_laws.specs.Following.{IsFollowed, MayTell}
use Rattle.tree_laws.specs.Printed.{entries}
use Rattle.tree_laws.proofs.Boots.{found_every}
use Rattle.tree_laws.proofs.Names.{same_call_eq}
use Rattle.tree_laws.proofs.Waiting.{accepted}
use Rattle.calm_laws.specs.of_store_laws.OneTree.Places.{AllAt}
use Rattle.calm_laws.specs.of_store_laws.OneTree.Rest.{more}
use Rattle.headline_laws.proofs.Prompting.Calling.{caller, caller_begun, caller_named, unheard}
use Rattle.headline_laws.proofs.Prompting.Facts.{RecordFact, ToldFact}
use Rattle.headline_laws.proofs.Prompting.Heads.{IsMend, Mild, MildTold, accepted_by}
use Rattle.headline_laws.proofs.Prompting.Wants.{next_as, now_next}

-- the last line accepts this mend
pub record IsMended (c : Config) (n : ℕ) (t : List Line) (d : CallId) : Type 0 where
  pub older : List Line
  pub site : ℕ
  pub process : ℕ
  pub file : FileId
  pub last : t ≡ more n (Shown (says.Accept site process d (call.Mend file))) older
  pub may : MayTell c older (Shown (says.Accept site process d (call.Mend file)))
  pub followed : IsFollowed c older

pub mend_opens : (c : Config) (p : ℕ → Bool) (free : Option ℕ) (id : CallId) (file : FileId) → p file.group ≡ true → wants c.mounts p free (call.Mend file) (begins.Walks id) [] ≡ want.OpenToMend file
mend_opens c p free id file e = ap (λ (b : Bool). cond b (want.OpenToMend file) (want.Give (reply.No NoStorage))) e

module _ (c : Config) (n : ℕ) (older : List Line) (site process : ℕ) (d : CallId) (file : FileId) (h : IsFollowed c older) (may : MayTell c older (Shown (says.Accept site process d (call.Mend file)))) where
  abbrev t : List Line
  t = more n (Shown (says.Accept site process d (call.Mend file))) older

  abbrev new : Waiting
  new = caller c n older site process d (call.Mend file)

  wants_so : now_wants c (entries t) new ≡ want.OpenToMend file
  wants_so = now_next c t new may.row.epoch may.row.inside may.row.inside
      ∙ (next_as c t d new (beginning (descriptor (entries older) site process) (epoch_of (entries older) site) d (call.Mend file)) [] (caller_named c n older site process d (call.Mend file)) (caller_begun c n older site process d (call.Mend file)) (unheard c older site process d (call.Mend file) h may)
      ∙ (ap (λ (o : Option EpochId). wants c.mounts (is_packed_in c (entries t) o) (lowest_free (descriptor (entries t) site process)) (call.Mend file) (beginning (descriptor (entries older) site process) o d (call.Mend file)) []) may.row.inside
      ∙ mend_opens c (is_packed_in c (entries t) (Some may.row.epoch)) (lowest_free (descriptor (entries t) site process)) d file (ap is_some may.row.synchronizes)))

  -- no reply to it may be told
  pub unanswered : (s p : ℕ) (r : Reply) → MayTell c t (Shown (says.Answer s p d r)) → ⊥
  unanswered s p r k = never k.row.given (sym (ap (now_wants c (entries t)) same ∙ wants_so) ∙ k.row.gives)
    where
      third : (a b z : Bool) → (a && b && z) ≡ true → z ≡ true
      third true true z e = e
      third true false z e = cc
      third false b z e = cc

      found : (call_named (entries t) k.row.caller.call ≡ Some k.row.caller) × (is_this s p d k.row.caller ≡ true)
      found = found_every (λ (x : Waiting). call_named (entries t) x.call ≡ Some x) (is_this s p d) (waiting (entries t)) k.row.caller k.row.waits (accepted c t (may, h)).waits

      same : k.row.caller ≡ new
      same = some_same k.row.caller new (sym found.0 ∙ (ap (call_named (entries t)) (same_call_eq k.row.caller.call d (third (k.row.caller.site == s) (k.row.caller.process == p) (same_call k.row.caller.call d) found.1)) ∙ caller_named c n older site process d (call.Mend file)))

      never : (g : Reply) → want.OpenToMend file ≡ want.Give g → ⊥
      never g e = cc

mended_unanswered : (c : Config) (n : ℕ) (t : List Line) (d : CallId) → IsMended c n t d → (s p : ℕ) (r : Reply) → MayTell c t (Shown (says.Answer s p d r)) → ⊥
mended_unanswered c n t d k s p r may = unanswered c n k.older k.site k.process d k.file k.followed k.may s p r (subst (λ (x : List Line). MayTell c x (Shown (says.Answer s p d r))) k.last may)

-- ---- what answers no call but mends ----

-- the line is told, and answers no call
abbrev pub AnswersNone : Told → Type 0
AnswersNone (Shown (says.Answer site process d r)) = ⊥
AnswersNone _ = Unit {0}

-- what answers no call has what replies have
pub no_answer_fact : (c : Config) (n : ℕ) (t : List Line) (x : Told) → AnswersNone x → ToldFact c n t x
no_answer_fact c n t (Shown r) k = over r k
  where
    over : (r : Record) → AnswersNone (Shown r) → RecordFact c n (entries t) r
    over (says.Answer site process d r) k = absurd k
    over _ k = tt
no_answer_fact c n t _ k = tt

module _ (c : Config) (n : ℕ) where
  abbrev Before : Option CallId → List Line → Type 0
  Before o t = (d : CallId) → o ≡ Some d → IsMended c n t d

  silent : (o : Option CallId) (t : List Line) (x : Told) → IsFollowed c t → Before o t → MildTold o x → MayTell c t x → AnswersNone x
  silent o t (Shown r) h before mild may = over r mild may
    where
      over : (r : Record) → MildTold o (Shown r) → MayTell c t (Shown r) → AnswersNone (Shown r)
      over (says.Answer site process d r) mild may = absurd (mended_unanswered c n t d (before d mild) site process r may)
      over _ mild may = tt
  silent o t _ h before mild may = tt

  none_some : (d : CallId) → ◌≡◌ {A = Option CallId} None (Some d) → ⊥
  none_some d e = cc

  next_before : (o : Option CallId) (t : List Line) (x : Told) → IsFollowed c t → MildTold o x → MayTell c t x → Before (accepted_by x) (more n x t)
  next_before o t (Shown r) h mild may = over r mild may
    where
      words_of : (site process : ℕ) (d : CallId) (words : Call) → IsMend words → MayTell c t (Shown (says.Accept site process d words)) → (e : CallId) → Some d ≡ Some e → IsMended c n (more n (Shown (says.Accept site process d words)) t) e
      words_of site process d (call.Mend file) is may e same = subst (λ (y : CallId). IsMended c n (more n (Shown (says.Accept site process d (call.Mend file))) t) y) (some_same d e same) (record { older = t; site = site; process = process; file = file; last = refl; may = may; followed = h })
      words_of site process d _ is may e same = absurd is

      over : (r : Record) → MildTold o (Shown r) → MayTell c t (Shown r) → Before (accepted_by (Shown r)) (more n (Shown r) t)
      over (says.Accept site process d words) mild may = words_of site process d words mild may
      over _ mild may = λ d e. absurd (none_some d e)
  next_before o t _ h mild may = λ d e. absurd (none_some d e)

  -- nothing of it answers a call
  pub mild_silent : (o : Option CallId) (xs : List Told) (t : List Line) → IsFollowed c t → Before o t → Mild o xs → AllTold c n t xs → AllAt (λ u x. AnswersNone x) n t xs
  mild_silent o [] t h before mild may = tt
  mild_silent o (x ∷ xs) t h before mild may = (silent o t x h before mild.0 may.0, mild_silent (accepted_by x) xs (more n x t) (may.0, h) (next_before o t x h mild.0 may.0) mild.1 may.1)

  pub silent_facts : (xs : List Told) (t : List Line) → AllAt (λ u x. AnswersNone x) n t xs → AllAt (ToldFact c n) n t xs
  silent_facts [] t k = tt
  silent_facts (x ∷ xs) t k = (no_answer_fact c n t x k.0, silent_facts xs (more n x t) k.1)

  pub mild_facts : (xs : List Told) (t : List Line) → IsFollowed c t → Mild None xs → AllTold c n t xs → AllAt (ToldFact c n) n t xs
  mild_facts xs t h mild may = silent_facts xs t (mild_silent None xs t h (λ d e. absurd (none_some d e)) mild may)
