-- A record that may come next is the one that is meant by its own text.
use Rattle.std.proofs.Common.{◌≡◌, ℕ, ◌+◌, ◌-◌, ◌≤◌, Bool, true, false, ◌&&◌, ◌||◌, cond, take, [], ◌∷◌, length, filter, Option, Some, None, refl, ap, ◌∙◌, ⊎_elim, ◌⊎◌, inl, inr}
use Rattle.std.specs.Prelude.{nat_le, nat_lt}
use Rattle.std.specs.List.{list_any}
use Rattle.locus_ids.specs.declared.config.Config.{Config}
use Rattle.locus_ids.specs.declared.ids.CallId.{CallId}
use Rattle.locus_ids.specs.declared.ids.FileId.{FileId}
use Rattle.locus_ids.specs.declared.refusal.Refusal.{Refusal}
use Rattle.trace_book.specs.Text.{hex_text}
use Rattle.trace_book.specs.declared.operation.Served.{Served}
use Rattle.trace_book.specs.declared.operation.What.{What}
use Rattle.trace_book.specs.declared.operation.What.TheVariants as what
use Rattle.trace_book.specs.declared.record.Record.{Record}
use Rattle.trace_book.specs.declared.record.Record.TheVariants as rec
use Rattle.trace_book.specs.declared.reply.Reply.{Reply}
use Rattle.trace_book.specs.declared.reply.Reply.TheVariants as reply
use Rattle.call_rules.specs.declared.want.Want.{Want}
use Rattle.call_rules.specs.declared.want.Want.TheVariants as want
use Rattle.tree_model.specs.Epochs.{is_in}
use Rattle.record_reading.specs.AsRead.{as_read, reply_as_read, what_as_read}
use Rattle.promises.specs.Past.{CallSoFar, Epoch, Past, asks, asks_after, epoch_at, is_number}
use Rattle.promises.specs.After.{is_id}
use Rattle.promises.specs.Rows.{gives, is_changed, is_due, is_home, is_scripted, is_synced, may_follow, may_look, waits_at}
use Rattle.promises.specs.Same.{same_reply, same_request}
use Rattle.tree_model.specs.Given.{served_by}
use Rattle.tree_model.specs.Same.{is_served}
use Rattle.promises.specs.Past.{kept_in}
use Rattle.past_laws.proofs.Names.{both_parts, false_true}
use Rattle.past_laws.proofs.Changing.{any_finds}
use Rattle.past_laws.proofs.Finding.{found_only}
use Rattle.past_laws.proofs.BackSame.{look_back, reply_back}
use Rattle.past_laws.proofs.SameOwn.{reply_own}
use Rattle.audit_rules.specs.Meant.{asked_by, asked_next, call_named, meant, reply_meant, what_meant}

-- a name is given to one call
abbrev pub AreNamedOnce : Past → Type 0
AreNamedOnce p = (id : CallId) → length (filter (is_id id) p.calls) ≤ 1

-- the call of the name that passes
record IsCalled (p : Past) (id : CallId) (passes : CallSoFar → Bool) : Type 0 where
  pub call : CallSoFar
  pub named : call_named p id ≡ Some call
  pub so : passes call ≡ true

called : (p : Past) → AreNamedOnce p → (id : CallId) (passes : CallSoFar → Bool) → list_any (λ k. is_id id k && passes k) p.calls ≡ true → IsCalled p id passes
called p once id passes h =
    let found = any_finds (λ (k : CallSoFar). is_id id k && passes k) p.calls h in
    record {
      call = found.one;
      named = found_only (is_id id) (λ k. is_id id k && passes k) (λ k e. (both_parts (is_id id k) (passes k) e).0) p.calls found.one (once id) found.found;
      so = (both_parts (is_id id found.one) (passes found.one) found.passes).1;
    }

-- Looks.

look_asked : (c : Config) (p : Past) (request : ℕ) (f : FileId) (w : What) (k : CallSoFar) →
    (nat_lt 0 request && (nat_le (length k.answers) request && (nat_le request (length k.answers + 1) && same_request (asks_after c p k (take (request - 1) k.answers)) (want.Look f w)))) ≡ true → asks_after c p k (take (request - 1) k.answers) ≡ want.Look f w
look_asked c p request f w k h =
    let first = both_parts (nat_lt 0 request) _ h in
    let second = both_parts (nat_le (length k.answers) request) _ first.1 in
    let third = both_parts (nat_le request (length k.answers + 1)) _ second.1 in
    look_back (asks_after c p k (take (request - 1) k.answers)) f w third.1

-- what may be looked up is asked by the call of the name
look_named : (c : Config) (p : Past) (t : Epoch) (id : CallId) (request : ℕ) (f : FileId) (w : What) (result : Served) → AreNamedOnce p → may_look c p t id request f w result ≡ true → asked_by c p request (call_named p id) ≡ want.Look f w
look_named c p t id request f w result once h =
    let first = both_parts (is_number t.started f.group) _ h in
    let second = both_parts (is_synced c t f.group) _ first.1 in
    let third = both_parts (is_served (served_by w (kept_in p t f)) result) _ second.1 in
    let k = called p once id (λ k. is_in k.epoch t.id && (nat_lt 0 request && (nat_le (length k.answers) request && (nat_le request (length k.answers + 1) && same_request (asks_after c p k (take (request - 1) k.answers)) (want.Look f w))))) third.1 in
    ap (asked_by c p request) k.named ∙ look_asked c p request f w k.call (both_parts (is_in k.call.epoch t.id) _ k.so).1

look_meant : (asked : Want) (f : FileId) (w : What) (result : Served) → asked ≡ want.Look f w → what_meant asked (what_as_read w result) ≡ w
look_meant asked f (what.Name component) result e = rw e refl
look_meant asked f what.List result e = rw e refl
look_meant asked f what.Stat result e = rw e refl
look_meant asked f (what.Whole stamp) result e = rw e refl

-- Replies.

given_meant : (asked : Want) (r : Reply) → gives asked r ≡ true → reply_meant asked (reply_as_read r) ≡ r
given_meant (want.Give given) r h =
    let same : given ≡ r = reply_back given r h in
    rw same (rw (reply_own (reply_as_read r)) refl)
given_meant (want.Look f w) r h = false_true h
given_meant (want.Open f m) r h = false_true h
given_meant (want.OpenToMend f) r h = false_true h
given_meant (want.Make group kind sites) r h = false_true h
given_meant (want.Do i o) r h = false_true h
given_meant (want.Close i) r h = false_true h
given_meant want.Never r h = false_true h

-- a refusal is read as it is, and no other reply is read as one
refusal_given : (given : Reply) (why : Refusal) → same_reply (reply_as_read given) (reply.No why) ≡ true → given ≡ reply.No why
refusal_given (reply.Made ino) why h = false_true h
refusal_given reply.Done why h = false_true h
refusal_given (reply.Names names) why h = false_true h
refusal_given (reply.Stat kind file size stamp) why h = false_true h
refusal_given (reply.Opened fd) why h = false_true h
refusal_given (reply.Data bytes) why h = data_given (nat_le (length bytes) 30) h
  where
    data_given : (b : Bool) → same_reply (cond b (reply.Names (hex_text bytes ∷ [])) (reply.Data bytes)) (reply.No why) ≡ true → reply.Data bytes ≡ reply.No why
    data_given true k = false_true k
    data_given false k = false_true k
refusal_given (reply.Committed stamp) why h = false_true h
refusal_given (reply.Closed None) why h = false_true h
refusal_given (reply.Closed (Some stamp)) why h = false_true h
refusal_given (reply.No other) why h = reply_back (reply.No other) (reply.No why) h

refusal_meant : (asked : Want) (why : Refusal) → reply_meant asked (reply.No why) ≡ reply.No why
refusal_meant (want.Give given) why = at (same_reply (reply_as_read given) (reply.No why)) refl
  where
    at : (b : Bool) → same_reply (reply_as_read given) (reply.No why) ≡ b → cond b given (reply.No why) ≡ reply.No why
    at true e = refusal_given given why e
    at false e = refl
refusal_meant (want.Look f w) why = refl
refusal_meant (want.Open f m) why = refl
refusal_meant (want.OpenToMend f) why = refl
refusal_meant (want.Make group kind sites) why = refl
refusal_meant (want.Do i o) why = refl
refusal_meant (want.Close i) why = refl
refusal_meant want.Never why = refl

changed_meant : (p : Past) (k : CallSoFar) (asked : Want) (r : Reply) → is_changed p k r ≡ true → reply_meant asked (reply_as_read r) ≡ r
changed_meant p k asked (reply.No why) h = refusal_meant asked why
changed_meant p k asked _ h = false_true h

either : (a b : Bool) → (a || b) ≡ true → (a ≡ true) ⊎ (b ≡ true)
either true b h = inl refl
either false b h = inr h

scripted_gives : (c : Config) (p : Past) (k : CallSoFar) (r : Reply) → is_scripted c p k r ≡ true → gives (asks c p k) r ≡ true
scripted_gives c p k r h = (both_parts (is_due p.last k) (gives (asks c p k) r) (both_parts (is_home p k) _ h).1).1

answer_meant : (c : Config) (p : Past) (k : CallSoFar) (r : Reply) → (is_scripted c p k r || is_changed p k r) ≡ true → reply_meant (asks c p k) (reply_as_read r) ≡ r
answer_meant c p k r h = ⊎_elim (λ (e : is_scripted c p k r ≡ true). given_meant (asks c p k) r (scripted_gives c p k r e)) (λ (e : is_changed p k r ≡ true). changed_meant p k (asks c p k) r e) (either (is_scripted c p k r) (is_changed p k r) h)

-- All records.

pub meant_as_read : (c : Config) (p : Past) (r : Record) → AreNamedOnce p → may_follow c p r ≡ true → meant c p (as_read r) ≡ r
meant_as_read c p (rec.Look e id request f w result) once h = ap (λ (v : What). rec.Look e id request f v result) (look_meant (asked_by c p request (call_named p id)) f w result (look_named c p (epoch_at p e) id request f w result once h))
meant_as_read c p (rec.Answer site process id r) once h =
    let k = called p once id (λ k. waits_at site process k && (is_scripted c p k r || is_changed p k r)) h in
    ap (λ (v : Reply). rec.Answer site process id v) (ap (λ (o : Option CallSoFar). reply_meant (asked_next c p o) (reply_as_read r)) k.named ∙ answer_meant c p k.call r (both_parts (waits_at site process k.call) _ k.so).1)
meant_as_read c p (rec.Up site boot) once h = refl
meant_as_read c p (rec.Stopped site why) once h = refl
meant_as_read c p (rec.Leave site e) once h = refl
meant_as_read c p (rec.Join site e members) once h = refl
meant_as_read c p (rec.Start e group copies) once h = refl
meant_as_read c p (rec.Accept site process id words) once h = refl
meant_as_read c p (rec.Grant e id request i m f stamp ss) once h = refl
meant_as_read c p (rec.Refuse e id request i m f why) once h = refl
meant_as_read c p (rec.Act e i n o result) once h = refl
meant_as_read c p (rec.Commit f site stamp parents content) once h = refl
meant_as_read c p (rec.Release e i f stamp) once h = refl
meant_as_read c p (rec.Adopt f site stamp) once h = refl
meant_as_read c p (rec.Packet number from to kind) once h = refl
meant_as_read c p rec.Void once h = refl
meant_as_read c p rec.Budget once h = refl
