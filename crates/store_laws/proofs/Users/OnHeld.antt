-- A read is answered whose bytes are at the site: its process takes these, which are what the storage site has read, and goes on.
use Rattle.std.proofs.Common.{◌≡◌, ℕ, ◌==◌, Bool, true, false, ◌&&◌, List, [], ◌∷◌, Option, Some, None, refl, sym, ◌∙◌, ap, subst, take, drop}
use Rattle.std.specs.Option.{is_some}
use Rattle.role_steps.proofs.of_plain_facts.Numbers.{equal}
use Rattle.role_steps.proofs.of_plain_facts.Options.{some_same}
use Rattle.role_steps.proofs.of_plain_facts.Tests.{true_false}
use Rattle.locus_ids.specs.declared.config.Config.{Config}
use Rattle.locus_ids.specs.declared.ids.EpochId.{EpochId}
use Rattle.locus_ids.specs.declared.ids.Mode.TheVariants as mode
use Rattle.locus_ids.specs.declared.ids.Serial.{Serial}
use Rattle.commit_graph.specs.Versions.{content_of}
use Rattle.trace_book.specs.declared.call.Call.{Call}
use Rattle.trace_book.specs.declared.call.Call.TheVariants as call
use Rattle.trace_book.specs.declared.descriptor.Beginning.{Beginning}
use Rattle.trace_book.specs.declared.descriptor.Beginning.TheVariants as begins
use Rattle.trace_book.specs.declared.operation.Op.{Op}
use Rattle.trace_book.specs.declared.operation.Op.TheVariants as op
use Rattle.trace_book.specs.declared.operation.Outcome.TheVariants as result
use Rattle.trace_book.specs.declared.reply.Reply.{Reply}
use Rattle.trace_book.specs.declared.reply.Reply.TheVariants as reply
use Rattle.call_rules.specs.Opening.{op_wants, reply_to}
use Rattle.call_rules.specs.Scripts.{where_packed}
use Rattle.call_rules.specs.declared.answer.Answer.{Answer}
use Rattle.call_rules.specs.declared.answer.Answer.TheVariants as answer
use Rattle.call_rules.specs.declared.want.Want.{Want}
use Rattle.call_rules.specs.declared.want.Want.TheVariants as want
use Rattle.role_steps.specs.Tables.{first_that}
use Rattle.role_steps.specs.Using.{asks_held_number, on_as_held, on_as_held_of, takes_answer, takes_copied}
use Rattle.role_steps.specs.Views.{Users, Frame}
use Rattle.role_steps.specs.declared.users.Asking.{Asking}
use Rattle.role_steps.specs.declared.users.Asking.TheVariants as asking
use Rattle.role_steps.specs.declared.users.WaitingCall.{WaitingCall}
use Rattle.tree_laws.specs.of_the_run.Kept.{Among}
use Rattle.tree_laws.specs.of_the_run.Worlds.{Line}
use Rattle.tree_model.specs.Calls.{call_named}
use Rattle.tree_model.specs.Histories.{history}
use Rattle.tree_model.specs.declared.accepted.Waiting.{Waiting}
use Rattle.tree_laws.specs.of_lawful_trace.Progress.{is_packed_in}
use Rattle.tree_laws.specs.of_lawful_trace.Tables.{begun}
use Rattle.tree_laws.specs.Printed.{entries}
use Rattle.tree_laws.specs.Calls.{Waits, script, script_as}
use Rattle.tree_laws.specs.Doing.{FrameFact, UsersFine, UsersInside}
use Rattle.tree_laws.specs.Following.{IsFollowed}
use Rattle.tree_laws.specs.Packets.{HeldFact, serial_of}
use Rattle.tree_laws.specs.Past.{WasDone, WasGranted}
use Rattle.tree_laws.specs.Serials.{asked_now, ops_asked}
use Rattle.tree_laws.specs.Users.{had, had_by, AskingIs, CopiedFact, CopiesBytes, WaitingFact}
use Rattle.store_laws.specs.Users.Rests.{ActRests, ReadRests, Staying}
use Rattle.store_laws.specs.Users.Turning.{it}
use Rattle.store_laws.proofs.Users.OnLook.{takes_plain}
use Rattle.store_laws.proofs.Users.OnOp.{op_asked}
use Rattle.store_laws.proofs.Users.Taking.{call_here}
use Rattle.store_laws.proofs.Users.Tabled.{every_among, first_found}

-- ---- the call that asked ----

record IsHeld (w : WaitingCall) (serial n : ℕ) : Type 0 where
  bytes : List ℕ
  copied_is : w.copied ≡ Some bytes
  place : ℕ
  at : ℕ
  len : ℕ
  seen : List ℕ
  asking_is : w.asking ≡ asking.Op serial place n (op.Read at len) seen

is_held : (w : WaitingCall) (serial n : ℕ) → asks_held_number serial n w ≡ true → IsHeld w serial n
is_held w serial n test = by w.copied refl test
  where
    two : (p q : Bool) → (p && q) ≡ true → (p ≡ true) × (q ≡ true)
    two true true e = (refl, refl)
    two true false e = absurd (true_false (sym e))
    two false q e = absurd (true_false (sym e))

    over : (bytes : List ℕ) → w.copied ≡ Some bytes → (s : Asking) → w.asking ≡ s → asks_held_number serial n (record w { copied = Some bytes; asking = s }) ≡ true → IsHeld w serial n
    over bytes c (asking.Op s ss number (op.Read at len) seen) e z = (let k : ((s == serial) ≡ true) × ((number == n) ≡ true) = two (s == serial) (number == n) z in
        record { bytes = bytes; copied_is = c; place = ss; at = at; len = len; seen = seen; asking_is = e ∙ (ap (λ (m : ℕ). asking.Op m ss number (op.Read at len) seen) (equal s serial k.0) ∙ ap (λ (m : ℕ). asking.Op serial ss m (op.Read at len) seen) (equal number n k.1)) })
    over bytes c s e z = absurd (true_false (sym z))

    by : (o : Option (List ℕ)) → w.copied ≡ o → asks_held_number serial n (record w { copied = o }) ≡ true → IsHeld w serial n
    by None c z = absurd (true_false (sym z))
    by (Some bytes) c z = over bytes c w.asking refl z

-- ---- what it has copied ----

-- it reads by a descriptor that is held
record Copies (c : Config) (t : List Line) (f : Frame) (words : Call) (b : Beginning) (bytes : List ℕ) : Type 0 where
  fd : ℕ
  at : ℕ
  len : ℕ
  epoch : EpochId
  inst : Serial
  words_are : words ≡ call.Read fd at len
  begins_are : b ≡ begins.Uses epoch inst
  copies : CopiesBytes c t f inst.serial at len bytes

copies_so : (c : Config) (t : List Line) (f : Frame) (words : Call) (b : Beginning) (bytes : List ℕ) → CopiedFact c t f words b (Some bytes) → Copies c t f words b bytes
copies_so c t f (call.Read fd at len) (begins.Uses e inst) bytes k = record { fd = fd; at = at; len = len; epoch = e; inst = inst; words_are = refl; begins_are = refl; copies = k }
copies_so c t f words b bytes k = absurd k

-- and asks for nothing else
do_same : (i inst : Serial) (o p : Op) → want.Do i o ≡ want.Do inst p → (inst ≡ i) × (p ≡ o)
do_same i inst o p e = (cc, cc)

give_no : (r : Reply) (inst : Serial) (p : Op) → want.Give r ≡ want.Do inst p → ⊥
give_no r inst p e = cc

never_no : (inst : Serial) (p : Op) → want.Never ≡ want.Do inst p → ⊥
never_no inst p e = cc

read_asks : (pk : ℕ → Bool) (i inst : Serial) (o p : Op) (xs : List Answer) → where_packed pk (op_wants i o xs) ≡ want.Do inst p → (inst ≡ i) × (p ≡ o)
read_asks pk i inst o p [] e = do_same i inst o p e
read_asks pk i inst o p (answer.Did gave ∷ []) e = absurd (give_no (reply_to gave) inst p e)
read_asks pk i inst o p (answer.Refused why ∷ []) e = absurd (give_no (reply.No why) inst p e)
read_asks pk i inst o p (answer.Did gave ∷ x ∷ xs) e = absurd (never_no inst p e)
read_asks pk i inst o p (answer.Refused why ∷ x ∷ xs) e = absurd (never_no inst p e)
read_asks pk i inst o p (_ ∷ xs) e = absurd (never_no inst p e)

read_same : (a b m n : ℕ) → op.Read a m ≡ op.Read b n → (a ≡ b) × (m ≡ n)
read_same a b m n e = (cc, cc)

pub held_fine : (c : Config) (n : ℕ) (t : List Line) (f : Frame) (u : Users) (serial number len : ℕ) → IsFollowed c t → FrameFact c t f → UsersInside c f t u → ActRests c t → ReadRests c t → HeldFact t f.epoch (serial_of f.me serial) number len → Staying c n t (on_as_held f serial number u).told → UsersFine c n t f (on_as_held f serial number u)
held_fine c n t f u serial number size h frame k acts reads l staying = over (first_that (asks_held_number serial number) u.waiting) refl staying
  where
    taken : (w : WaitingCall) → Among w u.waiting → IsHeld w serial number → Staying c n t (takes_copied f w w.copied u).told → UsersFine c n t f (takes_copied f w w.copied u)
    taken w among z = subst (λ (o : Option (List ℕ)). Staying c n t (takes_copied f w o u).told → UsersFine c n t f (takes_copied f w o u)) (sym z.copied_is)
        (takes_plain c n t f u h frame k w (answer.Did (result.Data z.bytes)) tt among waits (ap (λ (v : Want). had_by v (answer.Did (result.Data z.bytes)) (had c t f.me)) wants))
      where
        i : Serial
        i = serial_of f.me serial

        fact : WaitingFact c t f w
        fact = every_among (WaitingFact c t f) w u.waiting among k.inside.calls

        by_trace : (fact.wanted ≡ want.Do i (op.Read z.at z.len)) × (number ≡ ops_asked c t i)
        by_trace = op_asked c t f.me (it f w) fact.wanted serial z.place number (op.Read z.at z.len) z.seen (subst (AskingIs c t f.me (it f w) fact.wanted) z.asking_is fact.asking_is)

        wants : asked_now c t (it f w) ≡ want.Do i (op.Read z.at z.len)
        wants = ap (script c (entries t) (it f w) None) (sym fact.answers_are) ∙ (fact.script_is ∙ by_trace.0)

        done : WasDone t f.epoch i number (op.Read z.at z.len) (result.Data l.0)
        done = subst (λ (o : Op). WasDone t f.epoch i number o (result.Data l.0)) (acts.same f.epoch (it f w) i (op.Read z.at z.len) l.2.0 number (result.Data l.0) (call_here c t f w frame fact) wants by_trace.1 l.2.1) l.2.1

        own : Copies c t f w.words w.begins z.bytes
        own = copies_so c t f w.words w.begins z.bytes (subst (CopiedFact c t f w.words w.begins) z.copied_is fact.copied)

        -- what the call asks, by its words
        asked : where_packed (is_packed_in c (entries t) (Some f.epoch)) (op_wants own.inst (op.Read own.at own.len) w.answers) ≡ want.Do i (op.Read z.at z.len)
        asked = sym (ap (λ (o : Option Waiting). script_as c (entries t) o (begun (entries t) (it f w)) None w.answers) (fact.named ∙ ap Some fact.caller_is)
            ∙ (ap (λ (b : Option Beginning). script_as c (entries t) (Some (record { site = f.me; process = w.process; call = it f w; words = w.words; epoch = Some f.epoch })) b None w.answers) fact.begins_is
            ∙ (ap (λ (ws : Call). script_as c (entries t) (Some (record { site = f.me; process = w.process; call = it f w; words = ws; epoch = Some f.epoch })) (Some w.begins) None w.answers) own.words_are
            ∙ ap (λ (b : Beginning). script_as c (entries t) (Some (record { site = f.me; process = w.process; call = it f w; words = call.Read own.fd own.at own.len; epoch = Some f.epoch })) (Some b) None w.answers) own.begins_are)))
            ∙ (fact.script_is ∙ by_trace.0)

        same : (i ≡ own.inst) × (op.Read z.at z.len ≡ op.Read own.at own.len)
        same = read_asks (is_packed_in c (entries t) (Some f.epoch)) own.inst i (op.Read own.at own.len) (op.Read z.at z.len) w.answers asked

        parts : (z.at ≡ own.at) × (z.len ≡ own.len)
        parts = read_same z.at own.at z.len own.len same.1

        was : WasGranted t f.epoch own.copies.call own.copies.request i mode.Read own.copies.file (Some own.copies.stamp) own.copies.ss
        was = subst (λ (m : ℕ). WasGranted t f.epoch own.copies.call own.copies.request (serial_of f.me m) mode.Read own.copies.file (Some own.copies.stamp) own.copies.ss) (ap (λ (j : Serial). j.serial) (sym same.0)) own.copies.was_granted

        bytes_are : l.0 ≡ z.bytes
        bytes_are = reads.gave f.epoch i number z.at z.len l.0 own.copies.call own.copies.request own.copies.file own.copies.stamp own.copies.ss done was
            ∙ (ap (λ (m : ℕ). take z.len (drop m (content_of (history c (entries t)) own.copies.file own.copies.stamp))) parts.0
            ∙ (ap (λ (m : ℕ). take m (drop own.at (content_of (history c (entries t)) own.copies.file own.copies.stamp))) parts.1 ∙ sym own.copies.bytes_are))

        waits : Waits c t (it f w) (answer.Did (result.Data z.bytes))
        waits = subst (λ (bs : List ℕ). Waits c t (it f w) (answer.Did (result.Data bs))) bytes_are (acts.done f.epoch (it f w) i (op.Read z.at z.len) number (result.Data l.0) (call_here c t f w frame fact) wants by_trace.1 l.2)

    over : (o : Option WaitingCall) → first_that (asks_held_number serial number) u.waiting ≡ o → Staying c n t (on_as_held_of f o u).told → UsersFine c n t f (on_as_held_of f o u)
    over None e s = record { told = tt; own = tt; view = k; sent = tt; written = tt }
    over (Some w) e s = taken w (first_found (asks_held_number serial number) u.waiting w e).0 (is_held w serial number (first_found (asks_held_number serial number) u.waiting w e).1) s
