-- The script of a call that was answered by a descriptor, or by bytes, has come to its end.
use Rattle.std.proofs.Common.{◌≡◌, ℕ, Bool, true, false, cond, List, [], ◌∷◌, length, take, Option, None, refl, sym, ap, subst, ◌∙◌, arith}
use Rattle.std.specs.Prelude.{suc, zero}
use Rattle.locus_ids.specs.declared.config.Mount.{Mount}
use Rattle.locus_ids.specs.declared.ids.EpochId.{EpochId}
use Rattle.locus_ids.specs.declared.ids.FileId.{FileId}
use Rattle.locus_ids.specs.declared.ids.Serial.{Serial}
use Rattle.locus_ids.specs.declared.refusal.Refusal.{Refusal}
use Rattle.locus_ids.specs.declared.refusal.Refusal.TheVariants.{BadName, NoStorage, Stale}
use Rattle.commit_graph.specs.Versions.{same_stamp}
use Rattle.trace_book.specs.declared.call.Call.{Call}
use Rattle.trace_book.specs.declared.call.Call.TheVariants as call
use Rattle.trace_book.specs.declared.descriptor.Beginning.{Beginning}
use Rattle.trace_book.specs.declared.descriptor.Beginning.TheVariants as begins
use Rattle.trace_book.specs.declared.descriptor.OneVersion.{OneVersion}
use Rattle.trace_book.specs.declared.operation.Op.{Op}
use Rattle.trace_book.specs.declared.operation.Op.TheVariants as op
use Rattle.trace_book.specs.declared.operation.What.{What}
use Rattle.trace_book.specs.declared.reply.Reply.{Reply}
use Rattle.trace_book.specs.declared.reply.Reply.TheVariants as reply
use Rattle.call_rules.specs.Closing.{Own, Unchanged, give_up}
use Rattle.call_rules.specs.Opening.{close_wants, op_wants, uses_wants}
use Rattle.call_rules.specs.Reopening.{reads_again, reopen_wants}
use Rattle.call_rules.specs.Scripts.{begun_wants, named_wants, wants, where_packed}
use Rattle.call_rules.specs.Words.{is_badly_named}
use Rattle.call_rules.specs.declared.answer.Answer.{Answer}
use Rattle.call_rules.specs.declared.answer.Answer.TheVariants as answer
use Rattle.call_rules.specs.declared.want.Want.{Want}
use Rattle.call_rules.specs.declared.want.Want.TheVariants as want
use Rattle.promises.specs.of_lawful_trace.Tables.{names_instance}
use Rattle.past_laws.proofs.BackSilent.{no_look, opened_is, opened_silent}
use Rattle.past_laws.proofs.CallsAsks.{is_request, packed_request}
use Rattle.past_laws.proofs.Names.{false_true}
use Rattle.past_laws.proofs.SitesFree.{FreeWant, give_up_free, gives_bytes, may_read}

-- it asks nothing more, and what was asked last was no look
pub record IsEnded (mounts : List Mount) (words : Call) (b : Beginning) (xs : List Answer) : Type 0 where
  pub silent : (q : ℕ → Bool) (free : Option ℕ) → is_request (wants mounts q free words b xs) ≡ true → ⊥
  pub no_look : (q : ℕ → Bool) (free : Option ℕ) (n : ℕ) → length xs ≡ suc n → (f : FileId) (w : What) → wants mounts q free words b (take n xs) ≡ want.Look f w → ⊥

-- an instance is asked for a step
abbrev AsksStep : Want → Type 0
AsksStep (want.Do i o) = Unit {0}
AsksStep (want.Close i) = Unit {0}
AsksStep _ = ⊥

no_look_step : (q : ℕ → Bool) (v : Want) → AsksStep v → (f : FileId) (w : What) → where_packed q v ≡ want.Look f w → ⊥
no_look_step q (want.Do i o) k f w h = cc
no_look_step q (want.Close i) k f w h = cc
no_look_step q _ k f w h = k

-- the part of a script that hangs neither on packs nor on the free number is at its end
record EndsAt (script : List Answer → Want) (xs : List Answer) : Type 0 where
  over : is_request (script xs) ≡ false
  last : (n : ℕ) → length xs ≡ suc n → AsksStep (script (take n xs))

ended : (mounts : List Mount) (words : Call) (b : Beginning) (xs : List Answer) (script : List Answer → Want) → ((free : Option ℕ) (ys : List Answer) → begun_wants mounts free words b ys ≡ script ys) → EndsAt script xs → IsEnded mounts words b xs
ended mounts words b xs script is e = record {
  silent = λ q free h. silent free (is_badly_named mounts words) (packed_request q (named_wants mounts free words b xs) h);
  no_look = λ q free n l f w h. looks q free n l f w (is_badly_named mounts words) h;
}
  where
    silent : (free : Option ℕ) (bad : Bool) → is_request (cond bad (want.Give (reply.No BadName)) (begun_wants mounts free words b xs)) ≡ true → ⊥
    silent free true h = false_true h
    silent free false h = false_true (sym e.over ∙ (ap is_request (sym (is free xs)) ∙ h))

    looks : (q : ℕ → Bool) (free : Option ℕ) (n : ℕ) → length xs ≡ suc n → (f : FileId) (w : What) (bad : Bool) → where_packed q (cond bad (want.Give (reply.No BadName)) (begun_wants mounts free words b (take n xs))) ≡ want.Look f w → ⊥
    looks q free n l f w true h = cc
    looks q free n l f w false h = no_look_step q (script (take n xs)) (e.last n l) f w (ap (where_packed q) (sym (is free (take n xs))) ∙ h)

-- Bytes were given.

abbrev Gives : Want → List ℕ → Type 0
Gives w bytes = w ≡ want.Give (reply.Data bytes)

unpacked : (q : ℕ → Bool) (w : Want) (bytes : List ℕ) → Gives (where_packed q w) bytes → Gives w bytes
unpacked q (want.Give r) bytes h = h
unpacked q (want.Look f w) bytes h = by (q f.group) h
  where
    by : (b : Bool) → Gives (cond b (want.Look f w) (want.Give (reply.No NoStorage))) bytes → Gives (want.Look f w) bytes
    by true k = k
    by false k = absurd (cc)
unpacked q (want.Open f how) bytes h = by (q f.group) h
  where
    by : (b : Bool) → Gives (cond b (want.Open f how) (want.Give (reply.No NoStorage))) bytes → Gives (want.Open f how) bytes
    by true k = k
    by false k = absurd (cc)
unpacked q (want.OpenToMend f) bytes h = by (q f.group) h
  where
    by : (b : Bool) → Gives (cond b (want.OpenToMend f) (want.Give (reply.No NoStorage))) bytes → Gives (want.OpenToMend f) bytes
    by true k = k
    by false k = absurd (cc)
unpacked q (want.Make group kind sites) bytes h = by (q group) h
  where
    by : (b : Bool) → Gives (cond b (want.Make group kind sites) (want.Give (reply.No NoStorage))) bytes → Gives (want.Make group kind sites) bytes
    by true k = k
    by false k = absurd (cc)
unpacked q _ bytes h = h

no_bytes : {A : Type 0} (own : List Own) (why : Refusal) (xs : List Answer) (bytes : List ℕ) → Gives (give_up own why xs) bytes → A
no_bytes own why xs bytes h = false_true (subst (FreeWant (record { free = None; reads = false })) h (give_up_free (record { free = None; reads = false }) own why xs))

op_ends : (i : Serial) (o : Op) (xs : List Answer) (bytes : List ℕ) → Gives (op_wants i o xs) bytes → EndsAt (op_wants i o) xs
op_ends i o [] bytes h = absurd (cc)
op_ends i o (answer.Did r ∷ []) bytes h = record { over = refl; last = last }
  where
    last : (n : ℕ) → 1 ≡ suc n → AsksStep (op_wants i o (take n (answer.Did r ∷ [])))
    last zero l = tt
    last (suc n) l = absurd (omega (arith, l))
op_ends i o (answer.Did r ∷ y ∷ ys) bytes h = absurd (cc)
op_ends i o (answer.Refused why ∷ []) bytes h = absurd (cc)
op_ends i o (answer.Refused why ∷ y ∷ ys) bytes h = absurd (cc)
op_ends i o (_ ∷ rest) bytes h = absurd (cc)

close_ends : (i : Serial) (xs : List Answer) (bytes : List ℕ) → Gives (close_wants i xs) bytes → EndsAt (close_wants i) xs
close_ends i [] bytes h = absurd (cc)
close_ends i (answer.Ended stamp ∷ []) bytes h = absurd (cc)
close_ends i (answer.Ended stamp ∷ y ∷ ys) bytes h = absurd (cc)
close_ends i (answer.Refused why ∷ []) bytes h = absurd (cc)
close_ends i (answer.Refused why ∷ y ∷ ys) bytes h = absurd (cc)
close_ends i (_ ∷ rest) bytes h = absurd (cc)

uses_ends : (words : Call) (i : Serial) (xs : List Answer) (bytes : List ℕ) → Gives (uses_wants words i xs) bytes → EndsAt (uses_wants words i) xs
uses_ends (call.Read fd at len) i xs bytes h = op_ends i (op.Read at len) xs bytes h
uses_ends (call.Write fd at text) i xs bytes h = op_ends i (op.Write at text) xs bytes h
uses_ends (call.Cut fd len) i xs bytes h = op_ends i (op.Cut len) xs bytes h
uses_ends (call.Commit fd) i xs bytes h = op_ends i op.Commit xs bytes h
uses_ends (call.Abort fd) i xs bytes h = op_ends i op.Abort xs bytes h
uses_ends (call.Close fd) i xs bytes h = close_ends i xs bytes h
uses_ends _ i xs bytes h = absurd (cc)

reopen_ends : (words : Call) (kept : OneVersion) (epoch : EpochId) (xs : List Answer) (bytes : List ℕ) → Gives (reopen_wants words kept epoch xs) bytes → EndsAt (reopen_wants words kept epoch) xs
reopen_ends (call.Read fd at len) kept epoch [] bytes h = absurd (cc)
reopen_ends (call.Read fd at len) kept epoch (answer.Reading i granted ∷ rest) bytes h = over (same_stamp granted.stamp kept.stamp) refl h
  where
    read : same_stamp granted.stamp kept.stamp ≡ true → (ys : List Answer) → Gives (reads_again i at len ys) bytes → EndsAt (reopen_wants (call.Read fd at len) kept epoch) (answer.Reading i granted ∷ ys)
    read e [] k = absurd (cc)
    read e (answer.Did r ∷ []) k = record { over = rw e refl; last = last }
      where
        last : (n : ℕ) → 2 ≡ suc n → AsksStep (reopen_wants (call.Read fd at len) kept epoch (take n (answer.Reading i granted ∷ answer.Did r ∷ [])))
        last zero l = absurd (omega (arith, l))
        last (suc zero) l = rw e tt
        last (suc (suc n)) l = absurd (omega (arith, l))
    read e (answer.Did r ∷ y ∷ ys) k = absurd (cc)
    read e (answer.Refused why ∷ ys) k = no_bytes (Unchanged i ∷ []) why ys bytes k
    read e (_ ∷ ys) k = absurd (cc)

    over : (b : Bool) → same_stamp granted.stamp kept.stamp ≡ b → Gives (cond b (reads_again i at len rest) (give_up (Unchanged i ∷ []) (Stale epoch) rest)) bytes → EndsAt (reopen_wants (call.Read fd at len) kept epoch) (answer.Reading i granted ∷ rest)
    over true e k = read e rest k
    over false e k = no_bytes (Unchanged i ∷ []) (Stale epoch) rest bytes k
reopen_ends (call.Read fd at len) kept epoch (answer.Refused why ∷ []) bytes h = absurd (cc)
reopen_ends (call.Read fd at len) kept epoch (answer.Refused why ∷ y ∷ ys) bytes h = absurd (cc)
reopen_ends (call.Read fd at len) kept epoch (_ ∷ rest) bytes h = absurd (cc)
reopen_ends _ kept epoch xs bytes h = absurd (cc)

bytes_ended : (mounts : List Mount) (q : ℕ → Bool) (free : Option ℕ) (words : Call) (b : Beginning) (xs : List Answer) (bytes : List ℕ) → Gives (wants mounts q free words b xs) bytes → IsEnded mounts words b xs
bytes_ended mounts q free words b xs bytes h = by b (gives_bytes mounts q free words b xs bytes h) (named (is_badly_named mounts words) (unpacked q (named_wants mounts free words b xs) bytes h))
  where
    named : (bad : Bool) → Gives (cond bad (want.Give (reply.No BadName)) (begun_wants mounts free words b xs)) bytes → Gives (begun_wants mounts free words b xs) bytes
    named true k = absurd (cc)
    named false k = k

    by : (b : Beginning) → may_read b words ≡ true → Gives (begun_wants mounts free words b xs) bytes → IsEnded mounts words b xs
    by (begins.Uses e i) may k = ended mounts words (begins.Uses e i) xs (uses_wants words i) (λ f ys. refl) (uses_ends words i xs bytes k)
    by (begins.Reopens kept epoch) may k = ended mounts words (begins.Reopens kept epoch) xs (reopen_wants words kept epoch) (λ f ys. refl) (reopen_ends words kept epoch xs bytes k)
    by (begins.Denied why) may k = false_true may
    by (begins.Walks id) may k = false_true may
    by begins.Frees may k = false_true may

-- what names an instance ends its call
pub given_ended : (mounts : List Mount) (q : ℕ → Bool) (free : Option ℕ) (words : Call) (b : Beginning) (xs : List Answer) (r : Reply) → names_instance r ≡ true → wants mounts q free words b xs ≡ want.Give r → IsEnded mounts words b xs
given_ended mounts q free words b xs (reply.Opened fd) names h = (let k = opened_is mounts q free words b xs fd h in
    record { silent = λ p f. opened_silent mounts p f words b xs k; no_look = λ p f n. no_look mounts p f words b xs n k })
given_ended mounts q free words b xs (reply.Data bytes) names h = bytes_ended mounts q free words b xs bytes h
given_ended mounts q free words b xs _ names h = false_true names
