-- What an open was granted last is what it was answered last, so its descriptor stands for that.
use Rattle.std.proofs.Common.{◌≡◌, ℕ, zero, suc, ◌+◌, ◌-◌, ◌<◌, Bool, true, false, cond, ◌||◌, List, [], ◌∷◌, ◌++◌, length, take, Option, Some, None, refl, sym, ◌∙◌, ap, subst, arith, ◌⊎◌, inl, inr}
use Rattle.role_steps.proofs.of_plain_facts.Tests.{true_false}
use Rattle.role_steps.proofs.of_plain_facts.Options.{none_some, some_same}
use Rattle.locus_ids.specs.declared.config.Config.{Config}
use Rattle.locus_ids.specs.declared.ids.CallId.{CallId}
use Rattle.locus_ids.specs.declared.ids.EpochId.{EpochId}
use Rattle.locus_ids.specs.declared.ids.FileId.{FileId}
use Rattle.locus_ids.specs.declared.ids.Mode.{Mode}
use Rattle.locus_ids.specs.declared.ids.Mode.TheVariants as mode
use Rattle.locus_ids.specs.declared.ids.Serial.{Serial}
use Rattle.locus_ids.specs.declared.ids.Stamp.{Stamp}
use Rattle.locus_ids.specs.declared.refusal.Refusal.{Refusal}
use Rattle.trace_book.specs.Same.{same_call, same_serial}
use Rattle.trace_book.specs.declared.call.Call.{Call}
use Rattle.trace_book.specs.declared.call.Call.TheVariants as call
use Rattle.trace_book.specs.declared.call.OpenMode.{OpenMode}
use Rattle.trace_book.specs.declared.call.OpenMode.TheVariants as opens
use Rattle.trace_book.specs.declared.descriptor.Beginning.{Beginning}
use Rattle.trace_book.specs.declared.descriptor.Beginning.TheVariants as begins
use Rattle.trace_book.specs.declared.descriptor.Descriptor.{Descriptor}
use Rattle.trace_book.specs.declared.descriptor.OneVersion.{OneVersion}
use Rattle.trace_book.specs.declared.operation.What.{What}
use Rattle.trace_book.specs.declared.operation.What.TheVariants as what
use Rattle.trace_book.specs.declared.record.Record.{Record}
use Rattle.trace_book.specs.declared.record.Record.TheVariants as says
use Rattle.trace_book.specs.declared.reply.Reply.TheVariants as reply
use Rattle.call_rules.specs.declared.answer.Answer.{Answer}
use Rattle.call_rules.specs.declared.answer.Answer.TheVariants as answer
use Rattle.call_rules.specs.declared.want.Want.{Want}
use Rattle.call_rules.specs.declared.want.Want.TheVariants as want
use Rattle.call_rules.specs.Descriptors.{beginning, free_or, lowest_free, lowest_free_from}
use Rattle.call_rules.specs.Opening.{is_steady, mode_of as mode_named}
use Rattle.call_rules.specs.Scripts.{wants, where_packed}
use Rattle.wire_messages.specs.declared.body.Opening.{Opening}
use Rattle.role_steps.specs.Opens.{mode_of}
use Rattle.role_steps.specs.Requests.{opening_of as opening_as}
use Rattle.role_steps.specs.Using.{last_opened, last_version, mode_asked, no_serial}
use Rattle.role_steps.specs.Views.{Told, Shown, LooksAgain}
use Rattle.the_run.specs.Worlds.{Line}
use Rattle.tree_model.specs.declared.accepted.Waiting.{Waiting}
use Rattle.tree_model.specs.Calls.{call_named, opening_of, version_at, version_of}
use Rattle.tree_model.specs.Histories.{history}
use Rattle.tree_model.specs.State.{instance_in}
use Rattle.tree_model.specs.Tree.{kept_in, tree_of}
use Rattle.lawful_trace.specs.Progress.{Answers, close_answer, granted_answer, is_packed_in, look_answer, outcome_answer}
use Rattle.lawful_trace.specs.Tables.{begun, call_of_act, call_of_release, descriptor, is_call}
use Rattle.tree_laws.proofs.OwnWalks.{walks_own}
use Rattle.tree_laws.specs.Calls.{heard, log, script}
use Rattle.tree_laws.specs.Following.{IsFollowed, MayTell}
use Rattle.tree_laws.specs.Holding.{Instances, had_after, has_instances, with_begun}
use Rattle.tree_laws.specs.Processes.{IsMend}
use Rattle.tree_laws.specs.Instances.{AsksOpen, IsOpening}
use Rattle.tree_laws.specs.Printed.{entries}
use Rattle.tree_laws.specs.Serials.{asked_now, is_open_want}
use Rattle.tree_laws.proofs.Awaiting.{OpensIt, close_opens, look_opens, named_before, outcome_opens}
use Rattle.tree_laws.proofs.Fresh.{IsNamed, calls_are_low, next_is_new, numbered}
use Rattle.tree_laws.proofs.Having.{Untaken, named_or_untaken}
use Rattle.tree_laws.proofs.Hearing.{take_all, take_own}
use Rattle.tree_laws.proofs.Names.{same_call_eq, same_serial_own}
use Rattle.tree_laws.proofs.Scripts.{named_stays}
use Rattle.store_laws.specs.Users.Rests.{HasTaken, IsOpenedAs, gives_now}
use Rattle.store_laws.proofs.Users.OpenGrants.{TellsVersion, tells_version}
use Rattle.store_laws.proofs.ScriptEndingCalls.{has_by}
use Rattle.store_laws.proofs.ScriptFitted.{Began, began, began_right, waits_fits}
use Rattle.store_laws.proofs.ScriptFitting.{Fits, IsSound, LookFits, OpensWords, ReadWords, UsesWords}
use Rattle.store_laws.proofs.ScriptHad.{by_more, has_log}
use Rattle.store_laws.proofs.ScriptLasting.{EndsOpen, NotOpened, OpensFile, OpensSo, gives_last, last_more, open_so, opened_from, opened_more}
use Rattle.store_laws.proofs.ScriptVersions.{Last, heard_same, last_granted, last_heard, unversioned, version_in, version_told}
use Rattle.store_laws.proofs.ScriptNaming.{BeganOpening, BeganSo, opening_is_open, asks_begins, openers_begin, script_by}
use Rattle.store_laws.proofs.ScriptReopening.{read_so, read_walks}
use Rattle.store_laws.proofs.ScriptReplies.{gives_sound}
use Rattle.store_laws.proofs.ScriptSoundCalls.{BeginsRight}
use Rattle.call_rules.specs.Words.{is_badly_named}
use Rattle.locus_ids.specs.declared.refusal.Refusal.TheVariants as refusal
use Rattle.locus_ids.specs.Sizes.{descriptor_span, descriptors_max}

abbrev With : ℕ → Told → List Line → List Line
With n x older = record { number = n; told = x } ∷ older

-- ---- the mode ----

modes_agree : (m : OpenMode) → mode_of (opening_as m) ≡ mode_named m
modes_agree opens.Read = refl
modes_agree opens.Write = refl
modes_agree (opens.Resolve site) = refl
modes_agree opens.Steady = refl

granted_file : (m : OpenMode) (i : Serial) (f : FileId) (stamp : Option Stamp) (kept : List Stamp) → OpensFile (granted_answer (mode_named m) i f stamp kept) i
granted_file opens.Read i f (Some v) kept = refl
granted_file opens.Read i f None kept = refl
granted_file opens.Steady i f (Some v) kept = refl
granted_file opens.Steady i f None kept = refl
granted_file opens.Write i f stamp kept = refl
granted_file (opens.Resolve site) i f stamp kept = refl

mode_so : (c : Config) (m : OpenMode) (w : Want) (asked : FileId) (it : Opening) (n : Mode) → OpensSo m w → IsOpening c w asked it → mode_of it ≡ n → n ≡ mode_named m
mode_so c m (want.Open file k) asked it n so o is = sym is ∙ (ap mode_of o.1 ∙ (modes_agree k ∙ ap mode_named so))
mode_so c m (want.OpenToMend file) asked it n so o is = absurd so
mode_so c m (want.Make group kind sites) asked it n so o is = absurd so
mode_so c m (want.Look file w) asked it n so o is = absurd o
mode_so c m (want.Do i p) asked it n so o is = absurd o
mode_so c m (want.Close i) asked it n so o is = absurd o
mode_so c m (want.Give r) asked it n so o is = absurd o
mode_so c m want.Never asked it n so o is = absurd o

-- ---- what was granted last ----

-- the words open in this mode alone: an open's, or those of a read, which may open a version again
abbrev pub OpensIn : Call → OpenMode → Type 0
OpensIn words m = ((path : List ℕ) × (words ≡ call.Open path m)) ⊎ (ReadWords words × (m ≡ opens.Read))

-- a call with such words, made in the epoch
pub record OpenIn (t : List Line) (d : CallId) (m : OpenMode) (e : EpochId) : Type 0 where
  pub caller : Waiting
  pub named : call_named (entries t) d ≡ Some caller
  pub opens_in : OpensIn caller.words m
  pub made_in : caller.epoch ≡ Some e

open_read : (path : List ℕ) (m : OpenMode) (words : Call) → words ≡ call.Open path m → ReadWords words → ⊥
open_read path m words is r = subst ReadWords is r

shut_so : (m : OpenMode) (w : Want) → is_open_want w ≡ false → OpensSo m w
shut_so m (want.Open f n) e = absurd (true_false e)
shut_so m (want.OpenToMend f) e = absurd (true_false e)
shut_so m (want.Make g kind sites) e = absurd (true_false e)
shut_so m _ e = tt

-- what it asks is so
asks_so : (c : Config) (t : List Line) (d : CallId) (w : Waiting) (m : OpenMode) → call_named (entries t) d ≡ Some w → OpensIn w.words m → BeganOpening t d w.words → OpensSo m (asked_now c t d)
asks_so c t d w m named (inl o) (inl walks) = subst (OpensSo m) (ap (λ (y : Call). wants c.mounts (is_packed_in c (entries t) w.epoch) None y (begins.Walks d) (log t d)) (sym o.1) ∙ sym (script_by c t d w (begins.Walks d) None (log t d) named walks))
    (open_so c.mounts (is_packed_in c (entries t) w.epoch) None d o.0 m (log t d))
asks_so c t d w m named (inl o) (inr r) = absurd (open_read o.0 m w.words o.1 (subst ReadWords (sym r.2.words_are) tt))
asks_so c t d w m named (inr o) (inl walks) = subst (λ (n : OpenMode). OpensSo n (asked_now c t d)) (sym o.1) (over w.words refl o.0)
  where
    over : (y : Call) → w.words ≡ y → ReadWords y → OpensSo opens.Read (asked_now c t d)
    over (call.Read fd at len) is r = shut_so opens.Read (asked_now c t d) (ap is_open_want (script_by c t d w (begins.Walks d) None (log t d) named walks ∙ ap (λ (y : Call). wants c.mounts (is_packed_in c (entries t) w.epoch) None y (begins.Walks d) (log t d)) is)
        ∙ read_walks c.mounts (is_packed_in c (entries t) w.epoch) None d fd at len (log t d))
    over y is r = absurd r
asks_so c t d w m named (inr o) (inr r) = subst (λ (n : OpenMode). OpensSo n (asked_now c t d)) (sym o.1)
    (subst (OpensSo opens.Read) (ap (λ (y : Call). wants c.mounts (is_packed_in c (entries t) w.epoch) None y (begins.Reopens r.2.kept r.2.last) (log t d)) (sym r.2.words_are) ∙ sym (script_by c t d w (begins.Reopens r.2.kept r.2.last) None (log t d) named (r.1 ∙ ap Some r.2.begins_are)))
    (read_so c.mounts (is_packed_in c (entries t) w.epoch) None r.2.fd r.2.at r.2.len r.2.kept r.2.last (log t d)))

abbrev LastSo : Config → List Line → CallId → OpenMode → EpochId → Type 0
LastSo c t d m e = last_granted m (entries t) d ≡ last_heard m e (heard c t d)

look_shut : (w : What) (a : Answer) → LookFits w a → (i : Serial) → OpensIt a i → ⊥
look_shut (what.Name component) (answer.Opened inst ino) f i o = absurd f
look_shut what.List (answer.Opened inst ino) f i o = absurd f
look_shut what.Stat (answer.Opened inst ino) f i o = absurd f
look_shut (what.Whole stamp) (answer.Opened inst ino) f i o = absurd f
look_shut (what.Name component) (answer.Reading inst version) f i o = absurd f
look_shut what.List (answer.Reading inst version) f i o = absurd f
look_shut what.Stat (answer.Reading inst version) f i o = absurd f
look_shut (what.Whole stamp) (answer.Reading inst version) f i o = absurd f
look_shut (what.Name component) (answer.Merging inst kept) f i o = absurd f
look_shut what.List (answer.Merging inst kept) f i o = absurd f
look_shut what.Stat (answer.Merging inst kept) f i o = absurd f
look_shut (what.Whole stamp) (answer.Merging inst kept) f i o = absurd f
look_shut w a f i o = absurd o

module _ (c : Config) (n : ℕ) (older : List Line) (d : CallId) (m : OpenMode) (e : EpochId) (h : IsFollowed c older) (it : OpenIn older d m e) (k : LastSo c older d m e) where
  abbrev from : Answers → Last
  from xs = last_heard m e xs

  abbrev now : Last
  now = last_granted m (entries older) d

  -- an answer that opens nothing
  shut : (o : Option CallId) (xs : Answers) (a : Answer) → from xs ≡ from (heard c older d) → ((i : Serial) → OpensIt a i → ⊥) → (b : Bool) → now ≡ from (cond b (xs ++ a ∷ []) (heard c older d))
  shut o xs a same none true = k ∙ (sym same ∙ sym (heard_same m e xs a none))
  shut o xs a same none false = k

  look_last : (at : EpochId) (who : CallId) (request : ℕ) (a : Answer) (w : Want) → who ≡ d → request ≡ length (log older who) + 1 → heard c older who ≡ log older who → take (request - 1) (heard c older d) ≡ heard c older d
  look_last at who request a w is number clear = ap (λ (m : ℕ). take (m - 1) (heard c older d)) (number ∙ ap (λ (y : CallId). length (log older y) + 1) is)
      ∙ (ap (take (length (log older d) + 1 - 1)) (subst (λ (y : CallId). heard c older y ≡ log older y) is clear) ∙ (take_own (log older d) ∙ sym (subst (λ (y : CallId). heard c older y ≡ log older y) is clear)))

  last_look : (at : EpochId) (who : CallId) (request : ℕ) (f : FileId) (w : What) (a : Answer) → request ≡ length (log older who) + 1 → heard c older who ≡ log older who → ((i : Serial) → OpensIt a i → ⊥) → (b : Bool) → same_call who d ≡ b → now ≡ from (cond b (take (request - 1) (heard c older d) ++ a ∷ []) (heard c older d))
  last_look at who request f w a number clear none true s = shut None (take (request - 1) (heard c older d)) a (ap from (look_last at who request a (want.Look f w) (same_call_eq who d s) number clear)) none true
  last_look at who request f w a number clear none false s = k

  last_grant : (at : EpochId) (who : CallId) (request : ℕ) (i : Serial) (mode : Mode) (f : FileId) (stamp : Option Stamp) (ss : ℕ) → MayTell c older (Shown (says.Grant at who request i mode f stamp ss)) → LastSo c (With n (Shown (says.Grant at who request i mode f stamp ss)) older) d m e
  last_grant at who request i mode f stamp ss may = over (same_call who d) refl
    where
      asks : AsksOpen c older at who request i.serial may.in_time.opens.asked may.in_time.opens.it
      asks = may.in_time.opens.asks

      granted : who ≡ d → (mode ≡ mode_named m) × (at ≡ e)
      granted is = (
        mode_so c m asks.wanted may.in_time.opens.asked may.in_time.opens.it mode so asks.opening_is may.in_time.opens.mode_is,
        some_same at e (sym asks.inside.made_in ∙ (ap (λ (x : Waiting). x.epoch) caller ∙ it.made_in)),
      )
        where
          caller : asks.inside.accepted ≡ it.caller
          caller = some_same asks.inside.accepted it.caller (sym asks.inside.named ∙ (ap (call_named (entries older)) is ∙ it.named))

          so : OpensSo m asks.wanted
          so = subst (OpensSo m) asks.asks.asked (asks_so c older who asks.inside.accepted m asks.inside.named (subst (λ (x : Waiting). OpensIn x.words m) (sym caller) it.opens_in)
              (asks_begins c older who asks.inside.accepted asks.inside.named (ap is_open_want asks.asks.asked ∙ opening_is_open c asks.wanted may.in_time.opens.asked may.in_time.opens.it asks.opening_is)))

      tells : TellsVersion mode stamp
      tells = tells_version (history c (entries older)) (tree_of c at f.group (entries older)) who i mode f stamp ss may.row.gives

      over : (b : Bool) → same_call who d ≡ b → (cond b (Some (record { mode = mode; epoch = at; inst = i; steady = None })) (opening_of (entries older) d), version_in (mode_named m) (cond b (version_at f stamp) (version_of (entries older) d))) ≡ from (cond b (heard c older d ++ granted_answer mode i f stamp (kept_in c (entries older) at f) ∷ []) (heard c older d))
      over false s = k
      over true s = (let g : (mode ≡ mode_named m) × (at ≡ e) = granted (same_call_eq who d s) in
          ap (λ (o : Option Descriptor). (o, version_in (mode_named m) (version_at f stamp)))
          (ap (λ (x : Mode). Some (record { mode = x; epoch = at; inst = i; steady = None })) g.0 ∙ (ap (λ (x : EpochId). Some (record { mode = mode_named m; epoch = x; inst = i; steady = None })) g.1
          ∙ sym (opened_more None (mode_named m) e (heard c older d) (granted_answer (mode_named m) i f stamp (kept_in c (entries older) at f)) i (granted_file m i f stamp (kept_in c (entries older) at f)))))
          ∙ (ap (λ (v : Option OneVersion). (opened_from None (mode_named m) e (heard c older d ++ granted_answer (mode_named m) i f stamp (kept_in c (entries older) at f) ∷ []), v))
          (version_told m (heard c older d) i f stamp (kept_in c (entries older) at f) (subst (λ (x : Mode). TellsVersion x stamp) g.0 tells))
          ∙ ap (λ (x : Mode). from (heard c older d ++ granted_answer x i f stamp (kept_in c (entries older) at f) ∷ [])) (sym g.0)))

  last_record : (r : Record) → MayTell c older (Shown r) → LastSo c (With n (Shown r) older) d m e
  last_record (says.Look at who request f w result) may = last_look at who request f w (look_answer c (entries older) f w result) may.in_time.request_is may.in_time.asks.nothing_waits (look_opens c (entries older) f w result) (same_call who d) refl
  last_record (says.Grant at who request i mode f stamp ss) may = last_grant at who request i mode f stamp ss may
  last_record (says.Refuse at who request i mode f why) may = shut None (heard c older d) (answer.Refused why) refl (λ j o. o) (same_call who d)
  last_record (says.Act at i number o result) may = shut None (heard c older d) (outcome_answer result) refl (outcome_opens result) (is_call (call_of_act (entries older) at i number) d)
  last_record (says.Release at i f stamp) may = shut None (heard c older d) (close_answer stamp (instance_in (tree_of c at f.group (entries older)) i)) refl (close_opens stamp (instance_in (tree_of c at f.group (entries older)) i)) (is_call (call_of_release (entries older) at i) d)
  last_record r may = k

  last_again : (s : ℕ) (who : CallId) (request times : ℕ) → MayTell c older (LooksAgain s who request times) → (b : Bool) → same_call who d ≡ b → now ≡ from (cond b (take (request - 1) (heard c older d)) (heard c older d))
  last_again s who request times may false e = k
  last_again s who request times may true b = k ∙ (ap from waits ∙ (heard_same m e (log older d) may.old (look_shut may.what may.old fits) ∙ ap from (sym taken)))
    where
      is : who ≡ d
      is = same_call_eq who d b

      waits : heard c older d ≡ log older d ++ may.old ∷ []
      waits = subst (λ (y : CallId). heard c older y ≡ log older y ++ may.old ∷ []) is may.answer

      fits : LookFits may.what may.old
      fits = subst (λ (w : Want). Fits w may.old) (subst (λ (y : CallId). asked_now c older y ≡ want.Look may.file may.what) is may.looks) (waits_fits c older d may.old h (it.caller, it.named) waits)

      taken : take (request - 1) (heard c older d) ≡ log older d
      taken = ap (λ (x : ℕ). take (x - 1) (heard c older d)) (may.request_is ∙ ap (λ (y : CallId). length (log older y) + 1) is) ∙ (ap (take (length (log older d) + 1 - 1)) waits ∙ take_all (log older d) may.old)

  last_told : (x : Told) → MayTell c older x → LastSo c (With n x older) d m e
  last_told (Shown r) may = last_record r may
  last_told (LooksAgain s who request times) may = last_again s who request times may (same_call who d) refl
  last_told x may = k

-- a call that has just been accepted
last_new : (c : Config) (n s process : ℕ) (d : CallId) (words : Call) (older : List Line) (m : OpenMode) (e : EpochId) → IsFollowed c older → MayTell c older (Shown (says.Accept s process d words)) → LastSo c (With n (Shown (says.Accept s process d words)) older) d m e
last_new c n s process d words older m e h may = over (named_or_untaken c older h d)
  where
    fresh : IsNamed (entries older) d → ⊥
    fresh named = next_is_new (entries older) s d (calls_are_low c older h d named) (numbered c (entries older) s process d words may.row)

    none : (o : Option Descriptor) → opening_of (entries older) d ≡ o → opening_of (entries older) d ≡ None
    none None is = is
    none (Some x) is = (let k : BeganSo older d = openers_begin c older h d x is in absurd (fresh (k.caller, k.named)))

    nothing : (n : Mode) → (◌≡◌ {A = Option OneVersion} (version_in n None) None)
    nothing mode.Read = refl
    nothing _ = refl

    over : IsNamed (entries older) d ⊎ Untaken c older d → last_granted m (entries older) d ≡ last_heard m e (heard c older d)
    over (inl named) = absurd (fresh named)
    over (inr u) = ap (λ (o : Option Descriptor). (o, version_in (mode_named m) (version_of (entries older) d))) (none (opening_of (entries older) d) refl)
        ∙ (ap (λ (v : Option OneVersion). (None, version_in (mode_named m) v)) (unversioned (entries older) d (none (opening_of (entries older) d) refl))
        ∙ ap (last_heard m e) (sym u.heard_is))

both_so : (c : Config) (t : List Line) → IsFollowed c t → (d : CallId) (m : OpenMode) (e : EpochId) → OpenIn t d m e → LastSo c t d m e
both_so c [] h d m e it = absurd (none_some it.caller it.named)
both_so c (x ∷ older) h d m e it = at (λ was. both_so c older h.1 d m e was)
  where
    at : (OpenIn older d m e → LastSo c older d m e) → LastSo c (x ∷ older) d m e
    at later = named_before c x.number x.told older d (LastSo c (x ∷ older) d m e) h.0 new old (it.caller, it.named)
      where
        new : (s process : ℕ) (words : Call) → x.told ≡ Shown (says.Accept s process d words) → LastSo c (x ∷ older) d m e
        new s process words is = subst (λ (y : Told). LastSo c (With x.number y older) d m e) (sym is) (last_new c x.number s process d words older m e h.1 (subst (MayTell c older) is h.0))

        old : IsNamed (entries older) d → LastSo c (x ∷ older) d m e
        old named = last_told c x.number older d m e h.1 was (later was) x.told h.0
          where
            same : named.0 ≡ it.caller
            same = some_same named.0 it.caller (sym (named_stays c x.number x.told older d h.1 h.0 named ∙ named.1) ∙ it.named)

            was : OpenIn older d m e
            was = record { caller = named.0; named = named.1; opens_in = subst (λ (w : Waiting). OpensIn w.words m) (sym same) it.opens_in; made_in = ap (λ (w : Waiting). w.epoch) same ∙ it.made_in }

pub last_so : (c : Config) (t : List Line) → IsFollowed c t → (d : CallId) (m : OpenMode) (e : EpochId) → OpenIn t d m e → opening_of (entries t) d ≡ opened_from None (mode_named m) e (heard c t d)
last_so c t h d m e it = ap (λ (p : Last). p.0) (both_so c t h d m e it)

-- and what was granted to read tells its version
pub version_so : (c : Config) (t : List Line) → IsFollowed c t → (d : CallId) (m : OpenMode) (e : EpochId) → mode_named m ≡ mode.Read → OpenIn t d m e → version_of (entries t) d ≡ last_version None (heard c t d)
version_so c t h d m e reads it = subst (λ (n : Mode). version_in n (version_of (entries t) d) ≡ version_in n (last_version None (heard c t d))) reads (ap (λ (p : Last). p.1) (both_so c t h d m e it))

-- ---- the number ----

low_from : (table : ℕ → Option Descriptor) (n left fd : ℕ) → lowest_free_from table n left ≡ Some fd → fd < n + left
low_from table n zero fd e = absurd (none_some fd e)
low_from table n (suc left) fd e = over (table n) e (low_from table (n + 1) left fd)
  where
    here : n ≡ fd → fd < n + suc left
    here is = omega (arith, is)

    more : fd < n + 1 + left → fd < n + suc left
    more lt = omega (arith, lt)

    over : (o : Option Descriptor) → free_or n (lowest_free_from table (n + 1) left) o ≡ Some fd → (lowest_free_from table (n + 1) left ≡ Some fd → fd < n + 1 + left) → fd < n + suc left
    over None k later = here (some_same n fd k)
    over (Some x) k later = more (later k)

small : (table : ℕ → Option Descriptor) (fd : ℕ) → lowest_free table ≡ Some fd → fd < descriptor_span
small table fd e = (let l : fd < 0 + descriptors_max = low_from table 0 descriptors_max fd e in omega (arith, l))

-- ---- the descriptor ----

denied_packed : (pk : ℕ → Bool) (b : Bool) (why : Refusal) → NotOpened (where_packed pk (cond b (want.Give (reply.No refusal.BadName)) (want.Give (reply.No why))))
denied_packed pk true why = tt
denied_packed pk false why = tt

freed_packed : (pk : ℕ → Bool) (b : Bool) → NotOpened (where_packed pk (cond b (want.Give (reply.No refusal.BadName)) (want.Give (reply.Closed None))))
freed_packed pk true = tt
freed_packed pk false = tt

-- the instance that was opened last is had
pub opened_had : (w : Want) (a : Answer) (own : Instances) (i : Serial) → OpensFile a i → had_after w a own i ≡ true
opened_had w (answer.Opened inst ino) own i is = ap (λ (b : Bool). b || own i) (subst (λ (j : Serial). same_serial inst j ≡ true) is (same_serial_own inst))
opened_had w (answer.Reading inst version) own i is = ap (λ (b : Bool). b || own i) (subst (λ (j : Serial). same_serial inst j ≡ true) is (same_serial_own inst))
opened_had w _ own i is = absurd is

module _ (c : Config) (t : List Line) (d : CallId) (caller : Waiting) (e : EpochId) (fd : ℕ) (h : IsFollowed c t) (k : HasTaken c t d caller e) (gives : gives_now c t d caller ≡ want.Give (reply.Opened fd)) where
  abbrev free : Option ℕ
  free = lowest_free (descriptor (entries t) caller.site caller.process)

  right : (free ≡ Some fd) × OpensWords caller.words
  right = subst (IsSound caller.words free) gives (gives_sound c t d caller e h k)

  record IsOpen : Type 0 where
    path : List ℕ
    how : OpenMode
    words_are : caller.words ≡ call.Open path how

  is_open : IsOpen
  is_open = over caller.words refl right.1
    where
      over : (y : Call) → caller.words ≡ y → OpensWords y → IsOpen
      over (call.Open path m) is o = record { path = path; how = m; words_are = is }
      over y is o = absurd o

  -- it walks
  walks : begun (entries t) d ≡ Some (begins.Walks d)
  walks = b.begun_is ∙ ap Some (over (beginning b.table caller.epoch d caller.words) (began_right t d caller (beginning b.table caller.epoch d caller.words) k.named b.begun_is) refl)
    where
      b : Began t d caller
      b = began t d caller k.named

      over : (o : Beginning) → BeginsRight caller.words o → beginning b.table caller.epoch d caller.words ≡ o → beginning b.table caller.epoch d caller.words ≡ (begins.Walks d)
      over (begins.Walks x) r is = is ∙ ap begins.Walks (walks_own b.table caller.epoch d caller.words x is)
      over (begins.Uses at i) r is = absurd (subst UsesWords is_open.words_are r)
      over (begins.Reopens kept last) r is = absurd (subst ReadWords is_open.words_are r)
      over begins.Frees r is = absurd (subst NotOpened (sym (script_by c t d caller begins.Frees free (log t d) k.named (b.begun_is ∙ ap Some is)) ∙ gives) (freed_packed (is_packed_in c (entries t) caller.epoch) (is_badly_named c.mounts caller.words)))
      over (begins.Denied why) r is = absurd (subst NotOpened (sym (script_by c t d caller (begins.Denied why) free (log t d) k.named (b.begun_is ∙ ap Some is)) ∙ gives) (denied_packed (is_packed_in c (entries t) caller.epoch) (is_badly_named c.mounts caller.words) why))

  ends : EndsOpen (log t d)
  ends = gives_last c.mounts (is_packed_in c (entries t) caller.epoch) free d is_open.path is_open.how (log t d) fd
      (sym (ap (λ (y : Call). wants c.mounts (is_packed_in c (entries t) caller.epoch) free y (begins.Walks d) (log t d)) is_open.words_are)
      ∙ (sym (script_by c t d caller (begins.Walks d) free (log t d) k.named walks) ∙ gives))

  last_is : last_opened no_serial (log t d) ≡ ends.inst
  last_is = ap (last_opened no_serial) ends.is ∙ last_more no_serial ends.before ends.last ends.inst ends.opens

  mode_is : mode_named is_open.how ≡ mode_asked caller.words
  mode_is = sym (ap mode_asked is_open.words_are)

  pub opened_as : IsOpenedAs c t d fd (record { mode = mode_asked caller.words; epoch = e; inst = last_opened no_serial (log t d); steady = None })
  opened_as = record {
    small = small (descriptor (entries t) caller.site caller.process) fd right.0;
    is_last = last_so c t h d is_open.how e (record { caller = caller; named = k.named; opens_in = inl (is_open.path, is_open.words_are); made_in = k.made_in })
        ∙ (ap (opened_from None (mode_named is_open.how) e) (k.nothing_waits ∙ ends.is)
        ∙ (opened_more None (mode_named is_open.how) e ends.before ends.last ends.inst ends.opens
        ∙ (ap (λ (m : Mode). Some (record { mode = m; epoch = e; inst = ends.inst; steady = None })) mode_is
        ∙ ap (λ (i : Serial). Some (record { mode = mode_asked caller.words; epoch = e; inst = i; steady = None })) (sym last_is))));
    held = subst (λ (i : Serial). has_instances c t d i ≡ true) (sym last_is) held;
    walks = walks;
    plain = λ w named. subst (λ (y : Call). IsMend y → ⊥) (sym (ap (λ (x : Waiting). x.words) (some_same w caller (sym named ∙ k.named)) ∙ is_open.words_are)) (λ m. m);
    keeps = λ w named steady. keeps is_open.how refl (subst (λ (y : Call). is_steady y ≡ true) (ap (λ (x : Waiting). x.words) (some_same w caller (sym named ∙ k.named)) ∙ is_open.words_are) steady);
  }
    where
      keeps : (m : OpenMode) → is_open.how ≡ m → is_steady (call.Open is_open.path is_open.how) ≡ true → version_of (entries t) d ≡ last_version None (log t d)
      keeps opens.Steady is steady = version_so c t h d opens.Steady e refl (record { caller = caller; named = k.named; opens_in = inl (is_open.path, is_open.words_are ∙ ap (call.Open is_open.path) is); made_in = k.made_in }) ∙ ap (last_version None) k.nothing_waits
      keeps opens.Read is steady = absurd (true_false (sym (rw is at steady)))
      keeps opens.Write is steady = absurd (true_false (sym (rw is at steady)))
      keeps (opens.Resolve site) is steady = absurd (true_false (sym (rw is at steady)))

      held : has_instances c t d ends.inst ≡ true
      held = has_log c t h d (caller, k.named) ends.inst
          ∙ (ap (λ (xs : Answers). has_by (script c (entries t) d None) (with_begun (begun (entries t) d)) xs ends.inst) ends.is
          ∙ (by_more (script c (entries t) d None) (with_begun (begun (entries t) d)) ends.before ends.last ends.inst
          ∙ opened_had (script c (entries t) d None ends.before) ends.last (has_by (script c (entries t) d None) (with_begun (begun (entries t) d)) ends.before) ends.inst ends.opens))
