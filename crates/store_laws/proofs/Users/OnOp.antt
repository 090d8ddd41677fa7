-- The result of an operation comes: its process takes it, and goes on.
use Rattle.std.proofs.Common.{◌≡◌, ℕ, ◌==◌, Bool, true, false, ◌&&◌, List, Option, Some, None, refl, sym, ◌∙◌, ap, subst}
use Rattle.role_steps.proofs.of_plain_facts.Numbers.{equal}
use Rattle.role_steps.proofs.of_plain_facts.Tests.{true_false}
use Rattle.locus_ids.specs.declared.config.Config.{Config}
use Rattle.locus_ids.specs.declared.ids.CallId.{CallId}
use Rattle.locus_ids.specs.declared.ids.Serial.{Serial}
use Rattle.trace_book.specs.declared.operation.Op.{Op}
use Rattle.trace_book.specs.declared.operation.Outcome.{Outcome as Result}
use Rattle.trace_book.specs.declared.operation.Outcome.TheVariants as result
use Rattle.call_rules.specs.declared.want.Want.{Want}
use Rattle.call_rules.specs.declared.want.Want.TheVariants as want
use Rattle.role_steps.specs.Tables.{first_that}
use Rattle.role_steps.specs.Using.{answers_op, asks_op_number, keeps_brought, on_op_done, on_op_done_of, op_answer, takes_answer}
use Rattle.role_steps.specs.Views.{Users, Frame}
use Rattle.role_steps.specs.declared.users.Asking.{Asking}
use Rattle.role_steps.specs.declared.users.Asking.TheVariants as asking
use Rattle.role_steps.specs.declared.users.WaitingCall.{WaitingCall}
use Rattle.tree_laws.specs.of_the_run.Kept.{Among}
use Rattle.tree_laws.specs.of_the_run.Worlds.{Line}
use Rattle.tree_laws.specs.Printed.{entries}
use Rattle.tree_laws.specs.Calls.{Waits, script}
use Rattle.tree_laws.specs.Doing.{FrameFact, UsersFine, UsersInside}
use Rattle.tree_laws.specs.Following.{IsFollowed}
use Rattle.tree_laws.specs.Packets.{OpDoneFact, serial_of}
use Rattle.tree_laws.specs.Past.{WasDone}
use Rattle.tree_laws.specs.Serials.{asked_now, ops_asked}
use Rattle.tree_laws.specs.Users.{had, had_by, AskingIs, WaitingFact}
use Rattle.store_laws.specs.Users.Rests.{ActRests, ReadRests, Staying}
use Rattle.store_laws.specs.Users.Turning.{it}
use Rattle.store_laws.proofs.Users.Caching.{Keeps, keeps_so, with_pages}
use Rattle.store_laws.proofs.Users.OnLook.{NoContent, takes_plain}
use Rattle.store_laws.proofs.Users.Taking.{call_here}
use Rattle.store_laws.proofs.Users.Tabled.{every_among, first_found}

-- ---- the call that asked ----

record IsAsked (w : WaitingCall) (serial n : ℕ) : Type 0 where
  place : ℕ
  operation : Op
  seen : List ℕ
  asking_is : w.asking ≡ asking.Op serial place n operation seen

is_asked : (w : WaitingCall) (serial n : ℕ) (r : Result) → asks_op_number serial n r w ≡ true → IsAsked w serial n
is_asked w serial n r test = over w.asking refl test
  where
    three : (p q s : Bool) → (p && (q && s)) ≡ true → (p ≡ true) × (q ≡ true)
    three true true s e = (refl, refl)
    three true false s e = absurd (true_false (sym e))
    three false q s e = absurd (true_false (sym e))

    over : (s : Asking) → w.asking ≡ s → asks_op_number serial n r (record w { asking = s }) ≡ true → IsAsked w serial n
    over (asking.Look file asked t) e z = absurd (true_false (sym z))
    over (asking.Open s file m) e z = absurd (true_false (sym z))
    over (asking.Op s ss number o seen) e z = (let k : ((s == serial) ≡ true) × ((number == n) ≡ true) = three (s == serial) (number == n) (answers_op o r) z in
        record { place = ss; operation = o; seen = seen; asking_is = e ∙ (ap (λ (m : ℕ). asking.Op m ss number o seen) (equal s serial k.0) ∙ ap (λ (m : ℕ). asking.Op serial ss m o seen) (equal number n k.1)) })
    over (asking.Close s ss) e z = absurd (true_false (sym z))

-- by the trace
pub op_asked : (c : Config) (t : List Line) (me : ℕ) (d : CallId) (y : Want) (serial ss n : ℕ) (o : Op) (seen : List ℕ) → AskingIs c t me d y (asking.Op serial ss n o seen) → (y ≡ want.Do (serial_of me serial) o) × (n ≡ ops_asked c t (serial_of me serial))
op_asked c t me d (want.Do inst p) serial ss n o seen z = (ap (λ (x : Op). want.Do inst x) (sym z.1) ∙ ap (λ (i : Serial). want.Do i o) (sym z.0), z.2 ∙ ap (ops_asked c t) (sym z.0))
op_asked c t me d _ serial ss n o seen z = absurd z

-- a result opens nothing, closes nothing and brings no content
no_content : (r : Result) → NoContent (op_answer r)
no_content (result.No why) = tt
no_content result.Done = tt
no_content (result.Found ino kind) = tt
no_content (result.Data bytes) = tt
no_content (result.Committed stamp) = tt

keeps : (i : Serial) (o : Op) (r : Result) (old : List ℕ) → had_by (want.Do i o) (op_answer r) old ≡ old
keeps i o (result.No why) old = refl
keeps i o result.Done old = refl
keeps i o (result.Found ino kind) old = refl
keeps i o (result.Data bytes) old = refl
keeps i o (result.Committed stamp) old = refl

pub op_done_fine : (c : Config) (n : ℕ) (t : List Line) (f : Frame) (u : Users) (serial number : ℕ) (r : Result) → IsFollowed c t → FrameFact c t f → UsersInside c f t u → ActRests c t → ReadRests c t → OpDoneFact t f.epoch (serial_of f.me serial) number r → Staying c n t (on_op_done f serial number r u).told → UsersFine c n t f (on_op_done f serial number r u)
op_done_fine c n t f u serial number r h frame k acts reads l staying = over (first_that (asks_op_number serial number r) u.waiting) refl staying
  where
    take : (w : WaitingCall) → Among w u.waiting → IsAsked w serial number → Staying c n t (takes_answer f w (op_answer r) (keeps_brought w.asking r u)).told → UsersFine c n t f (takes_answer f w (op_answer r) (keeps_brought w.asking r u))
    take w among z = subst (λ (v : Users). Staying c n t (takes_answer f w (op_answer r) v).told → UsersFine c n t f (takes_answer f w (op_answer r) v)) (sym kept.same)
        (takes_plain c n t f (record u { cache = kept.pages }) h frame (with_pages c t f u k kept.pages kept.right) w (op_answer r) (no_content r) among waits (ap (λ (v : Want). had_by v (op_answer r) (had c t f.me)) wants ∙ keeps (serial_of f.me serial) z.operation r (had c t f.me)))
      where
        fact : WaitingFact c t f w
        fact = every_among (WaitingFact c t f) w u.waiting among k.inside.calls

        by_trace : (fact.wanted ≡ want.Do (serial_of f.me serial) z.operation) × (number ≡ ops_asked c t (serial_of f.me serial))
        by_trace = op_asked c t f.me (it f w) fact.wanted serial z.place number z.operation z.seen (subst (AskingIs c t f.me (it f w) fact.wanted) z.asking_is fact.asking_is)

        wants : asked_now c t (it f w) ≡ want.Do (serial_of f.me serial) z.operation
        wants = ap (script c (entries t) (it f w) None) (sym fact.answers_are) ∙ (fact.script_is ∙ by_trace.0)

        waits : Waits c t (it f w) (op_answer r)
        waits = acts.done f.epoch (it f w) (serial_of f.me serial) z.operation number r (call_here c t f w frame fact) wants by_trace.1 l

        done : WasDone t f.epoch (serial_of f.me serial) number z.operation r
        done = subst (λ (o : Op). WasDone t f.epoch (serial_of f.me serial) number o r) (acts.same f.epoch (it f w) (serial_of f.me serial) z.operation l.0 number r (call_here c t f w frame fact) wants by_trace.1 l.1) l.1

        kept : Keeps c t f u k reads serial z.place number z.seen (keeps_brought w.asking r u)
        kept = subst (λ (a : Asking). Keeps c t f u k reads serial z.place number z.seen (keeps_brought a r u)) (sym z.asking_is) (keeps_so c t f u k reads serial z.place number z.seen z.operation r done)

    over : (o : Option WaitingCall) → first_that (asks_op_number serial number r) u.waiting ≡ o → Staying c n t (on_op_done_of f r o u).told → UsersFine c n t f (on_op_done_of f r o u)
    over None e s = record { told = tt; own = tt; view = k; sent = tt; written = tt }
    over (Some w) e s = take w (first_found (asks_op_number serial number r) u.waiting w e).0 (is_asked w serial number r (first_found (asks_op_number serial number r) u.waiting w e).1) s
