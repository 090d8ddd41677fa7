-- The answer to an open comes: its process takes it, the instance is had, and the call goes on.
use Rattle.std.proofs.Common.{◌≡◌, ℕ, ◌==◌, Bool, true, false, cond, ◌||◌, List, [], ◌∷◌, Option, Some, None, refl, sym, ◌∙◌, ap, subst, inl, inr}
use Rattle.std.specs.Option.{is_some}
use Rattle.role_steps.proofs.of_plain_facts.Numbers.{equal, equal_self}
use Rattle.role_steps.proofs.of_plain_facts.Options.{some_same}
use Rattle.role_steps.proofs.of_plain_facts.Tests.{true_false}
use Rattle.locus_ids.specs.declared.config.Config.{Config}
use Rattle.locus_ids.specs.declared.ids.CallId.{CallId}
use Rattle.locus_ids.specs.declared.ids.EpochId.{EpochId}
use Rattle.locus_ids.specs.declared.ids.FileId.{FileId}
use Rattle.locus_ids.specs.declared.ids.Mode.{Mode}
use Rattle.locus_ids.specs.declared.ids.Mode.TheVariants as mode
use Rattle.locus_ids.specs.declared.ids.Serial.{Serial}
use Rattle.locus_ids.specs.declared.ids.Stamp.{Stamp}
use Rattle.locus_ids.specs.declared.refusal.Refusal.{Refusal}
use Rattle.trace_book.specs.declared.call.Call.{Call}
use Rattle.trace_book.specs.declared.call.Call.TheVariants as call
use Rattle.trace_book.specs.declared.record.Record.{Record}
use Rattle.trace_book.specs.declared.record.Record.TheVariants as says
use Rattle.call_rules.specs.declared.answer.Answer.{Answer}
use Rattle.call_rules.specs.declared.answer.Answer.TheVariants as answer
use Rattle.call_rules.specs.declared.want.Want.{Want}
use Rattle.call_rules.specs.declared.want.Want.TheVariants as want
use Rattle.wire_messages.specs.declared.body.Granted.{Granted}
use Rattle.wire_messages.specs.declared.body.Granted.TheVariants as granted
use Rattle.wire_messages.specs.declared.body.Opening.{Opening}
use Rattle.wire_messages.specs.declared.body.Opening.TheVariants as how
use Rattle.role_steps.specs.Requests.{instance_serial, with_user_instance}
use Rattle.role_steps.specs.Tables.{first_that, row, with_row}
use Rattle.role_steps.specs.Using.{asked_answer, asks_open_of, goes_on, kept_for, mended_file, on_open_done, on_open_done_of, opened_answer, takes_answer, takes_open, takes_record, with_answer, version_read}
use Rattle.role_steps.specs.Views.{Frame, Shown, Told, Users}
use Rattle.role_steps.specs.declared.users.Asking.{Asking}
use Rattle.role_steps.specs.declared.users.Asking.TheVariants as asking
use Rattle.role_steps.specs.declared.users.UserInstance.{UserInstance}
use Rattle.role_steps.specs.declared.users.WaitingCall.{WaitingCall}
use Rattle.role_steps.proofs.Rows.{row_other, row_same}
use Rattle.tree_laws.specs.of_the_run.Kept.{Among}
use Rattle.tree_laws.specs.of_the_run.Worlds.{Line}
use Rattle.tree_model.specs.Packs.{sync_site}
use Rattle.tree_model.specs.Epochs.{members_of}
use Rattle.tree_model.specs.State.{has_number}
use Rattle.tree_model.specs.declared.accepted.Waiting.{Waiting}
use Rattle.tree_laws.specs.of_lawful_trace.TreeRows.{IsCallIn, is_open_of}
use Rattle.tree_laws.specs.Printed.{entries}
use Rattle.tree_laws.specs.Calls.{Waits, request_number, script}
use Rattle.tree_laws.specs.Doing.{FrameFact, UsersFine, UsersInside}
use Rattle.tree_laws.specs.Following.{IsFollowed}
use Rattle.tree_laws.specs.Frames.{AllStay}
use Rattle.tree_laws.specs.Instances.{IsOpening, IsStarted}
use Rattle.tree_laws.specs.Packets.{GrantedFact, OpenDoneFact, serial_of}
use Rattle.tree_laws.specs.Past.{GrantRecord, Printed, RefusalRecord, Was, WasGranted, WasRefused}
use Rattle.tree_laws.specs.Serials.{asked_now, is_open_want, ops_asked, serial_asked}
use Rattle.tree_laws.specs.Users.{had, had_by, without_closed, AskingIs, ReadsFact, UserInstanceFact, WaitingFact}
use Rattle.tree_laws.proofs.Mending.{mends_at_sync}
use Rattle.tree_laws.proofs.Orders.ProcessCurrentOpens.{granted_waits, refused_waits}
use Rattle.store_laws.specs.Users.Rests.{Follows, IsKeptBy, OpenRests, Staying}
use Rattle.store_laws.specs.Users.Turning.{it, InstanceTurns, Turning}
use Rattle.store_laws.proofs.Users.Going.{goes_fine}
use Rattle.store_laws.proofs.Users.OnLook.{NoContent, brings_kept, takes_plain}
use Rattle.store_laws.proofs.Users.OpenGrants.{Fits, GrantedSo, granted_so}
use Rattle.store_laws.proofs.Users.OpenAsked.{granted_asked, told_so}
use Rattle.store_laws.proofs.Users.OpenRead.{noted_so}
use Rattle.store_laws.proofs.Users.OpenOnce.{AnsweredRecord, WasOpenAnswered, open_once}
use Rattle.store_laws.proofs.Users.Staying.{With}
use Rattle.store_laws.proofs.Users.Taking.{again, call_here, call_turns, frame_so, instance_turns, may_take, others_turn, serials_turn}
use Rattle.store_laws.proofs.Users.Tabled.{ascends_with, every_among, every_with, first_found}

-- ---- the call that asked ----

record IsAsked (w : WaitingCall) (serial : ℕ) : Type 0 where
  file : FileId
  how : Opening
  asking_is : w.asking ≡ asking.Open serial file how

is_asked : (w : WaitingCall) (serial : ℕ) → asks_open_of serial w ≡ true → IsAsked w serial
is_asked w serial test = over w.asking refl test
  where
    over : (s : Asking) → w.asking ≡ s → asks_open_of serial (record w { asking = s }) ≡ true → IsAsked w serial
    over (asking.Look file asked t) e z = absurd (true_false (sym z))
    over (asking.Open s file m) e z = record { file = file; how = m; asking_is = e ∙ ap (λ (k : ℕ). asking.Open k file m) (equal s serial z) }
    over (asking.Op s ss number o seen) e z = absurd (true_false (sym z))
    over (asking.Close s ss) e z = absurd (true_false (sym z))

-- by the trace
open_asked : (c : Config) (t : List Line) (me : ℕ) (d : CallId) (y : Want) (serial : ℕ) (file : FileId) (how : Opening) → AskingIs c t me d y (asking.Open serial file how) → (is_open_want y ≡ true) × (serial ≡ serial_asked c t d)
open_asked c t me d (want.Open f m) serial file how z = (refl, z.1)
open_asked c t me d (want.OpenToMend f) serial file how z = (refl, z.1)
open_asked c t me d (want.Make group kind sites) serial file how z = (refl, z.1)
open_asked c t me d y serial file how z = absurd z.0

opening_asked : (c : Config) (t : List Line) (me : ℕ) (d : CallId) (y : Want) (serial : ℕ) (file : FileId) (how : Opening) → AskingIs c t me d y (asking.Open serial file how) → IsOpening c y file how
opening_asked c t me d (want.Open f m) serial file how z = z.0
opening_asked c t me d (want.OpenToMend f) serial file how z = z.0
opening_asked c t me d (want.Make group kind sites) serial file how z = z.0
opening_asked c t me d y serial file how z = absurd z.0

-- ---- its answer ----

asked_had : (f : Frame) (serial ino : ℕ) (stamp : Stamp) (a : Asking) (v : Want) (old : List ℕ) → had_by v (asked_answer f serial ino stamp a) old ≡ serial ∷ old
asked_had f serial ino stamp (asking.Open s file how.Read) v old = refl
asked_had f serial ino stamp _ v old = refl

opened_had : (f : Frame) (serial ino : ℕ) (stamp : Stamp) (kept : List Stamp) (words : Call) (a : Asking) (v : Want) (old : List ℕ) → had_by v (opened_answer f serial ino stamp kept words a) old ≡ serial ∷ old
opened_had f serial ino stamp kept (call.Mend file) a v old = refl
opened_had f serial ino stamp kept _ a v old = asked_had f serial ino stamp a v old

asked_content : (f : Frame) (serial ino : ℕ) (stamp : Stamp) (a : Asking) → NoContent (asked_answer f serial ino stamp a)
asked_content f serial ino stamp (asking.Open s file how.Read) = tt
asked_content f serial ino stamp _ = tt

no_content : (f : Frame) (serial ino : ℕ) (stamp : Stamp) (kept : List Stamp) (words : Call) (a : Asking) → NoContent (opened_answer f serial ino stamp kept words a)
no_content f serial ino stamp kept (call.Mend file) a = tt
no_content f serial ino stamp kept _ a = asked_content f serial ino stamp a

-- an open closes nothing
closes_none : (y : Want) (old : List ℕ) → is_open_want y ≡ true → without_closed y old ≡ old
closes_none (want.Close i) old e = absurd (true_false (sym e))
closes_none _ old e = refl

-- ---- what stands ----

was_answered : (P Q : List Line → Told → Type 0) → ((older : List Line) (x : Told) → P older x → Q older x) → (t : List Line) → Was P t → Was Q t
was_answered P Q each [] was = absurd was
was_answered P Q each (x ∷ older) (inl now) = inl (each older x.told now)
was_answered P Q each (x ∷ older) (inr was) = inr (was_answered P Q each older was)

granted_answered : (t : List Line) (e : EpochId) (g : CallId) (request : ℕ) (i : Serial) (m : Mode) (f : FileId) (stamp : Option Stamp) (ss : ℕ) → WasGranted t e g request i m f stamp ss → WasOpenAnswered t e i g request
granted_answered t e g request i m f stamp ss was = was_answered (Printed (GrantRecord e g request i m f stamp ss)) (Printed (AnsweredRecord e i g request)) each t was
  where
    by_record : (older : List Line) (r : Record) → GrantRecord e g request i m f stamp ss older r → AnsweredRecord e i g request older r
    by_record older (says.Grant at call number inst md file on place) p = record { epoch_is = p.epoch_is; serial_is = p.serial_is; call_is = p.call_is; request_is = p.request_is }
    by_record older r p = absurd p

    each : (older : List Line) (x : Told) → Printed (GrantRecord e g request i m f stamp ss) older x → Printed (AnsweredRecord e i g request) older x
    each older (Shown r) p = by_record older r p
    each older x p = absurd p

refused_answered : (t : List Line) (e : EpochId) (g : CallId) (request : ℕ) (i : Serial) (m : Mode) (why : Refusal) → WasRefused t e g request i m why → WasOpenAnswered t e i g request
refused_answered t e g request i m why was = was_answered (Printed (RefusalRecord e g request i m why)) (Printed (AnsweredRecord e i g request)) each t was
  where
    by_record : (older : List Line) (r : Record) → RefusalRecord e g request i m why older r → AnsweredRecord e i g request older r
    by_record older (says.Refuse at call number inst md file reason) p = record { epoch_is = p.epoch_is; serial_is = p.serial_is; call_is = p.call_is; request_is = p.request_is }
    by_record older r p = absurd p

    each : (older : List Line) (x : Told) → Printed (RefusalRecord e g request i m why) older x → Printed (AnsweredRecord e i g request) older x
    each older (Shown r) p = by_record older r p
    each older x p = absurd p

module _ (c : Config) (n : ℕ) (t : List Line) (f : Frame) (u : Users) (kept : FileId → List Stamp) (h : IsFollowed c t) (frame : FrameFact c t f) (k : UsersInside c f t u) (rests : OpenRests c t) (keeps : IsKeptBy c t f kept) (serial : ℕ) (w : WaitingCall) (among : Among w u.waiting) (z : IsAsked w serial) where
  abbrev d : CallId
  d = it f w

  abbrev i : Serial
  i = serial_of f.me serial

  fact : WaitingFact c t f w
  fact = every_among (WaitingFact c t f) w u.waiting among k.inside.calls

  by_trace : (is_open_want fact.wanted ≡ true) × (serial ≡ serial_asked c t d)
  by_trace = open_asked c t f.me d fact.wanted serial z.file z.how (subst (AskingIs c t f.me d fact.wanted) z.asking_is fact.asking_is)

  wants : asked_now c t d ≡ fact.wanted
  wants = ap (script c (entries t) d None) (sym fact.answers_are) ∙ fact.script_is

  opens : is_open_want (asked_now c t d) ≡ true
  opens = ap is_open_want wants ∙ by_trace.0

  inside : IsCallIn (entries t) f.epoch d
  inside = record { accepted = fact.caller; named = fact.named; made_in = ap (λ (x : Waiting). x.epoch) fact.caller_is }

  -- who was answered under the number is the call, at its current request
  one : (g : CallId) (request : ℕ) → WasOpenAnswered t f.epoch i g request → (g ≡ d) × (request_number t d ≡ request)
  one g request was = open_once c t h f.epoch i g d request was inside refl by_trace.1 opens

  -- ---- refused ----

  refused : (why : Refusal) → OpenDoneFact c t f.epoch f.me serial (granted.No why) → Staying c n t (takes_answer f w (answer.Refused why) u).told → UsersFine c n t f (takes_answer f w (answer.Refused why) u)
  refused why (g, request, m, was) staying = takes_plain c n t f u h frame k w (answer.Refused why) tt among waits (closes_none (asked_now c t d) (had c t f.me) opens) staying
    where
      is : (g ≡ d) × (request_number t d ≡ request)
      is = one g request (refused_answered t f.epoch g request i m why was)

      waits : Waits c t d (answer.Refused why)
      waits = refused_waits c t h f.epoch d request i m why (subst (λ (y : CallId). WasRefused t f.epoch y request i m why) is.0 was) is.1

  -- ---- granted ----

  module _ (ss ino size : ℕ) (stamp : Stamp) (vector : List ℕ) (l : GrantedFact c t f.epoch f.me serial ss ino size stamp vector) where
    is : (l.call ≡ d) × (request_number t d ≡ l.request)
    is = one l.call l.request (granted_answered t f.epoch l.call l.request i l.mode l.file l.stamp ss l.was_granted)

    was : WasGranted t f.epoch d l.request i l.mode l.file l.stamp ss
    was = subst (λ (y : CallId). WasGranted t f.epoch y l.request i l.mode l.file l.stamp ss) is.0 l.was_granted

    so : GrantedSo c t f.epoch d l.mode l.file l.stamp
    so = granted_so c t h f.epoch d l.request i l.mode l.file l.stamp ss was

    words_are : so.accepted.words ≡ w.words
    words_are = ap (λ (x : Waiting). x.words) (some_same so.accepted fact.caller (sym so.named ∙ fact.named) ∙ fact.caller_is)

    abbrev given : Answer
    given = opened_answer f serial ino stamp (kept_for kept (mended_file w.words)) w.words w.asking

    -- what it asks still is what was granted
    asked : is_open_of l.mode l.file fact.wanted ≡ true
    asked = subst (λ (y : Want). is_open_of l.mode l.file y ≡ true) wants (granted_asked c t h f.epoch d l.request i l.mode l.file l.stamp ss was is.1)

    opening : IsOpening c fact.wanted z.file z.how
    opening = opening_asked c t f.me d fact.wanted serial z.file z.how (subst (AskingIs c t f.me d fact.wanted) z.asking_is fact.asking_is)

    told : (l.mode ≡ mode.Mend → ⊥) → (stamps : List Stamp) → Waits c t d (asked_answer f serial ino stamp w.asking)
    told plain stamps = subst (λ (a : Asking). Waits c t d (asked_answer f serial ino stamp a)) (sym z.asking_is)
        (subst (Waits c t d) (told_so f serial ino stamp l.file z.file l.stamp stamps l.number_is l.told_is c l.mode fact.wanted z.how plain so.tells asked opening)
        (granted_waits c t h f.epoch d l.request i l.mode l.file l.stamp ss stamps plain was is.1))

    waits_for : (words : Call) → w.words ≡ words → Fits words l.mode l.file → Waits c t d (opened_answer f serial ino stamp (kept_for kept (mended_file words)) words w.asking)
    waits_for (call.Mend file) e fits = subst (λ (stamps : List Stamp). Waits c t d (answer.Merging i stamps)) (sym (keeps file at_sync (subst (λ (g : FileId). IsStarted c t f.epoch g.group) fits.1 so.started)))
        (rests.mending f.epoch d l.request i file l.stamp ss (call_here c t f w frame fact) (subst (λ (g : FileId). WasGranted t f.epoch d l.request i mode.Mend g l.stamp ss) fits.1 (subst (λ (m : Mode). WasGranted t f.epoch d l.request i m l.file l.stamp ss) fits.0 was)) (sym is.1))
      where
        at_sync : sync_site c file.group (members_of (entries t) f.epoch) ≡ Some f.me
        at_sync = mends_at_sync c t h d fact.caller f.epoch file fact.named (ap (λ (x : Waiting). x.epoch) fact.caller_is) (ap (λ (x : Waiting). x.words) fact.caller_is ∙ e) ∙ ap (λ (x : Waiting). Some x.site) fact.caller_is
    waits_for _ e plain = told plain []

    waits : Waits c t d given
    waits = waits_for w.words refl (subst (λ (y : Call). Fits y l.mode l.file) words_are so.fits)

    abbrev new : UserInstance
    new = record { serial = serial; ss = ss; vector = vector; ops = 0; reads = version_read size stamp w.asking }

    opened : Staying c n t (takes_answer f w given (with_user_instance new u)).told → UsersFine c n t f (takes_answer f w given (with_user_instance new u))
    opened s = record { told = (may_take c t f w given fact waits, rest.told); own = (refl, rest.own); view = rest.view; sent = rest.sent; written = rest.written }
      where
        next : Follows c t (With n (takes_record f w given) t) (takes_record f w given) × Staying c n (With n (takes_record f w given) t) (goes_on f (with_answer w given) (with_user_instance new u)).told
        next = s (may_take c t f w given fact waits)

        stay : AllStay c t (With n (takes_record f w given) t) (takes_record f w given)
        stay = next.0.stay

        had_is : had c (With n (takes_record f w given) t) f.me ≡ serial ∷ had c t f.me
        had_is = ap (λ (b : Bool). cond b (had_by (asked_now c t d) given (had c t f.me)) (had c t f.me)) (equal_self f.me) ∙ opened_had f serial ino stamp (kept_for kept (mended_file w.words)) w.words w.asking (asked_now c t d) (had c t f.me)

        has : (m : ℕ) → is_some (row instance_serial m (with_row instance_serial new u.instances)) ≡ has_number (had c (With n (takes_record f w given) t) f.me) m
        has m = at (serial == m) refl ∙ ap (λ (ns : List ℕ). has_number ns m) (sym had_is)
          where
            at : (b : Bool) → (serial == m) ≡ b → is_some (row instance_serial m (with_row instance_serial new u.instances)) ≡ has_number (serial ∷ had c t f.me) m
            at true e = subst (λ (j : ℕ). is_some (row instance_serial j (with_row instance_serial new u.instances)) ≡ has_number (serial ∷ had c t f.me) j) (equal serial m e) (ap is_some (row_same instance_serial new u.instances) ∙ sym (ap (λ (b : Bool). b || has_number (had c t f.me) serial) (equal_self serial)))
            at false e = ap is_some (row_other instance_serial new m u.instances e) ∙ (k.inside.has m ∙ sym (ap (λ (b : Bool). b || has_number (had c t f.me) m) e))

        ops_are : 0 ≡ ops_asked c t i
        ops_are = sym (ap (λ (m : ℕ). ops_asked c t (serial_of f.me m)) by_trace.1 ∙ rests.unasked f.epoch d (call_here c t f w frame fact) opens)

        reads_are : ReadsFact c t l.mode l.file l.stamp (version_read size stamp w.asking)
        reads_are = subst (λ (a : Asking). ReadsFact c t l.mode l.file l.stamp (version_read size stamp a)) (sym z.asking_is) (noted_so c t l.mode l.file z.file l.stamp size serial stamp fact.wanted l.told_is l.sized asked z.how opening)

        own : InstanceTurns c (With n (takes_record f w given) t) f d new
        own = instance_turns c n t f w u given h frame k among waits stay new (record { call = l.call; request = l.request; mode = l.mode; file = l.file; stamp = l.stamp; was_granted = l.was_granted; sees = l.sees; reads = reads_are; ops = ops_are })

        turning : Turning c (With n (takes_record f w given) t) f (with_answer w given) (with_user_instance new u)
        turning = record {
          call = call_turns c n t f w u given h frame k among waits stay w.brought (brings_kept c n t f u h frame k w given (no_content f serial ino stamp (kept_for kept (mended_file w.words)) w.words w.asking) w.words w.brought fact.brings);
          others = others_turn c n t f w u given h frame k among waits stay w.brought (with_row instance_serial new u.instances) (ascends_with instance_serial new u.instances k.inside.numbered) has;
          serials = serials_turn c n t f w u given h frame k among waits stay;
          instances = every_with instance_serial new (UserInstanceFact c t f) (InstanceTurns c (With n (takes_record f w given) t) f d) u.instances (λ j ne p. instance_turns c n t f w u given h frame k among waits stay j p) k.inside.numbered k.inside.instances own;
        }

        rest : UsersFine c n (With n (takes_record f w given) t) f (goes_on f (with_answer w given) (with_user_instance new u))
        rest = goes_fine c n (With n (takes_record f w given) t) f (with_answer w given) (with_user_instance new u) (again c n t f w u given h frame k among waits stay) (frame_so c n t f w u given h frame k among waits stay) turning next.0.requests next.0.replies next.1

  takes_fine : (a : Granted) → OpenDoneFact c t f.epoch f.me serial a → Staying c n t (takes_open f kept serial w a u).told → UsersFine c n t f (takes_open f kept serial w a u)
  takes_fine (granted.Open ss ino size stamp vector) l s = opened ss ino size stamp vector l s
  takes_fine (granted.No why) l s = refused why l s

pub open_done_fine : (c : Config) (n : ℕ) (t : List Line) (f : Frame) (u : Users) (kept : FileId → List Stamp) (serial : ℕ) (a : Granted) → IsFollowed c t → FrameFact c t f → UsersInside c f t u → OpenRests c t → IsKeptBy c t f kept → OpenDoneFact c t f.epoch f.me serial a → Staying c n t (on_open_done f kept serial a u).told → UsersFine c n t f (on_open_done f kept serial a u)
open_done_fine c n t f u kept serial a h frame k rests keeps l staying = over (first_that (asks_open_of serial) u.waiting) refl staying
  where
    over : (o : Option WaitingCall) → first_that (asks_open_of serial) u.waiting ≡ o → Staying c n t (on_open_done_of f kept serial a o u).told → UsersFine c n t f (on_open_done_of f kept serial a o u)
    over None e s = record { told = tt; own = tt; view = k; sent = tt; written = tt }
    over (Some w) e s = takes_fine c n t f u kept h frame k rests keeps serial w (first_found (asks_open_of serial) u.waiting w e).0 (is_asked w serial (first_found (asks_open_of serial) u.waiting w e).1) a l s
