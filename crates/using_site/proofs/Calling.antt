-- A call is accepted, and takes its first step.
use Rattle.std.proofs.Common.{◌≡◌, ℕ, ◌+◌, List, [], ◌∷◌, ◌++◌, Option, ap, ◌∙◌, append_assoc}
use Rattle.std.specs.declared.result.Result.{Result}
use Rattle.std.specs.Prelude.{OnOk}
use Rattle.locus_ids.specs.declared.ids.CallId.{CallId}
use Rattle.locus_ids.specs.declared.ids.EpochId.{EpochId}
use Rattle.trace_book.specs.declared.call.Call.{Call}
use Rattle.trace_book.specs.declared.record.Record.{Record}
use Rattle.trace_book.specs.declared.record.Record.TheVariants as says
use Rattle.trace_book.specs.declared.descriptor.Beginning.{Beginning}
use Rattle.trace_book.specs.declared.descriptor.Descriptor.{Descriptor}
use Rattle.call_rules.specs.Descriptors.{beginning}
use Rattle.wire_messages.specs.Outboxes.{Outgoing}
use Rattle.role_steps.specs.Views.{Frame, Users, Outcome}
use Rattle.role_steps.specs.Requests.{descriptors_of}
use Rattle.role_steps.specs.Using.{accepted, copied_part, frees, goes_on, on_call, own_call, part_read, used_part, with_copied}
use Rattle.role_steps.specs.declared.users.WaitingCall.{WaitingCall}
use Rattle.site_frame.specs.Printed.{printed}
use Rattle.using_site.specs.Steps.{Gives}
use Rattle.waiting_calls.proofs.DescriptorRows.{on_ok}

-- the accepted call, with the bytes that its site had in memory
abbrev pub accepted_by : ℕ → ℕ → Call → Beginning → Users → WaitingCall
accepted_by process n words begins u = with_copied (copied_part (part_read u words begins) u.cache) (accepted process n words begins)

-- the users once it is counted
abbrev pub counted_by : ℕ → Call → Beginning → Users → Users
counted_by process words begins u = frees process words (record u { calls = u.calls + 1; cache = used_part (part_read u words begins) u.cache })

called_gives : (f : Frame) (now : Option EpochId) (process : ℕ) (words : Call) (u v : Users) (x : WaitingCall) (r : Record) {new : Users} {before mid after : Outgoing} → x ≡ accepted_by process (u.calls + 1) words (beginning (descriptors_of u process) now (own_call f.me f.boot (u.calls + 1)) words) u → v ≡ counted_by process words (beginning (descriptors_of u process) now (own_call f.me f.boot (u.calls + 1)) words) u → mid ≡ record before { records = before.records ++ r ∷ [] } → r ≡ says.Accept f.me process (own_call f.me f.boot (u.calls + 1)) words → Gives (goes_on f x v) new mid after → Gives (on_call f now process words u) new before after
called_gives f now process words u v x r {before = before} {mid = mid} e h m s g =
    let begins : Beginning = beginning (descriptors_of u process) now (own_call f.me f.boot (u.calls + 1)) words in
    let w : WaitingCall = accepted_by process (u.calls + 1) words begins u in
    let counted : Users = counted_by process words begins u in
    let o : goes_on f x v ≡ goes_on f w counted = ap (λ (z : WaitingCall). goes_on f z v) e ∙ ap (goes_on f w) h in
    record {
      view = g.view ∙ ap (λ (q : Outcome Users). q.view) o;
      packets = g.packets ∙ (ap (λ (z : Outgoing). z.packets ++ (goes_on f x v).sent) m ∙ ap (λ (q : Outcome Users). before.packets ++ q.sent) o);
      records = g.records ∙ (ap (λ (z : Outgoing). z.records ++ printed (goes_on f x v).told) m
          ∙ (append_assoc before.records (r ∷ []) (printed (goes_on f x v).told)
          ∙ (ap (λ (q : Outcome Users). before.records ++ r ∷ printed q.told) o
          ∙ ap (λ (z : Record). before.records ++ z ∷ printed (goes_on f w counted).told) s)));
    }

-- the same, of a step that may want memory
pub called_by : {A E : Type 0} (done : Result A E) (f : Frame) (now : Option EpochId) (process : ℕ) (words : Call) (u v : Users) (x : WaitingCall) (r : Record) (new : Users) (before mid after : Outgoing) → OnOk done (Gives (goes_on f x v) new mid after) → x ≡ accepted_by process (u.calls + 1) words (beginning (descriptors_of u process) now (own_call f.me f.boot (u.calls + 1)) words) u → v ≡ counted_by process words (beginning (descriptors_of u process) now (own_call f.me f.boot (u.calls + 1)) words) u → mid ≡ record before { records = before.records ++ r ∷ [] } → r ≡ says.Accept f.me process (own_call f.me f.boot (u.calls + 1)) words → OnOk done (Gives (on_call f now process words u) new before after)
called_by done f now process words u v x r new before mid after g e h m s = on_ok done (called_gives f now process words u v x r e h m s) g

-- the call that starts is the accepted one, with the bytes that were copied for it
pub accepted_as : (process n m : ℕ) (words : Call) (begins b : Beginning) (copied : Option (List ℕ)) (v u : Users) (x : WaitingCall) → x ≡ with_copied copied (accepted process n words begins) → copied ≡ copied_part (part_read v words begins) v.cache → n ≡ m → begins ≡ b → v ≡ u → x ≡ accepted_by process m words b u
accepted_as process n m words begins b copied v u x e k h i j =
    e
    ∙ (ap (λ (c : Option (List ℕ)). with_copied c (accepted process n words begins)) k
    ∙ (ap (λ (n : ℕ). with_copied (copied_part (part_read v words begins) v.cache) (accepted process n words begins)) h
    ∙ (ap (λ (y : Beginning). accepted_by process m words y v) i ∙ ap (accepted_by process m words b) j)))

-- the users once the call is counted and the pages were looked up
pub frees_as : (process : ℕ) (words : Call) (begins b : Beginning) (z v u : Users) (n : ℕ) → z ≡ record v { cache = used_part (part_read v words begins) v.cache } → v ≡ u → n ≡ v.calls + 1 → begins ≡ b → frees process words (record z { calls = n }) ≡ counted_by process words b u
frees_as process words begins b z v u n g e h i =
    ap (λ (y : Users). frees process words (record y { calls = n })) g
    ∙ (ap (λ (k : ℕ). frees process words (record v { calls = k; cache = used_part (part_read v words begins) v.cache })) h
    ∙ (ap (λ (y : Beginning). counted_by process words y v) i ∙ ap (counted_by process words b) e))

pub counted : (v u : Users) (n : ℕ) → v ≡ u → n ≡ v.calls + 1 → n ≡ u.calls + 1
counted v u n e h = h ∙ ap (λ (z : Users). z.calls + 1) e

-- the call begins under its own name
pub begins_as : (g f : Frame) (n m : ℕ) (own : CallId) (table : ℕ → Option Descriptor) (now : Option EpochId) (words : Call) (b : Beginning) → b ≡ beginning table now own words → g ≡ f → own ≡ own_call g.me g.boot n → n ≡ m → b ≡ beginning table now (own_call f.me f.boot m) words
begins_as g f n m own table now words b e h i l =
    e
    ∙ (ap (λ (d : CallId). beginning table now d words) i
    ∙ (ap (λ (k : ℕ). beginning table now (own_call g.me g.boot k) words) l
    ∙ ap (λ (z : Frame). beginning table now (own_call z.me z.boot m) words) h))

-- the record that an accepted call tells
pub accept_as : (g f : Frame) (me process n m : ℕ) (own : CallId) (copied words : Call) → g ≡ f → me ≡ g.me → own ≡ own_call g.me g.boot n → copied ≡ words → n ≡ m → says.Accept me process own copied ≡ says.Accept f.me process (own_call f.me f.boot m) words
accept_as g f me process n m own copied words e h i j l =
    ap (λ (k : ℕ). says.Accept k process own copied) h
    ∙ (ap (λ (d : CallId). says.Accept g.me process d copied) i
    ∙ (ap (λ (y : Call). says.Accept g.me process (own_call g.me g.boot n) y) j
    ∙ (ap (λ (k : ℕ). says.Accept g.me process (own_call g.me g.boot k) words) l
    ∙ ap (λ (z : Frame). says.Accept z.me process (own_call z.me z.boot m) words) e)))
