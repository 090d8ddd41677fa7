-- The version that a number keeps is that of its descriptor, whatever instance holds it.
use Rattle.std.proofs.Common.{ℕ, ◌≡◌, ◌==◌, Bool, true, false, ◌&&◌, cond, [], ◌∷◌, Option, None, Some, refl, ◌∙◌, ap}
use Rattle.std.specs.Option.{option_map}
use Rattle.locus_ids.specs.declared.ids.CallId.{CallId}
use Rattle.trace_book.specs.Same.{same_call}
use Rattle.trace_book.specs.declared.call.Call.{Call}
use Rattle.trace_book.specs.declared.call.Call.TheVariants as call
use Rattle.trace_book.specs.declared.descriptor.Descriptor.{Descriptor}
use Rattle.trace_book.specs.declared.descriptor.OneVersion.{OneVersion}
use Rattle.trace_book.specs.declared.record.Record.{Record}
use Rattle.trace_book.specs.declared.record.Record.TheVariants.{Accept, Answer, Grant, Stopped}
use Rattle.trace_book.specs.declared.reply.Reply.{Reply}
use Rattle.trace_book.specs.declared.reply.Reply.TheVariants as reply
use Rattle.call_rules.specs.Opening.{is_steady}
use Rattle.tree_model.specs.declared.accepted.Waiting.{Waiting}
use Rattle.tree_model.specs.Calls.{call_named, opening_after, opening_of, version_after, version_at, version_of}
use Rattle.tree_model.specs.Folds.{Trace}
use Rattle.lawful_trace.specs.Tables.{closed_by, descriptor, descriptor_after, held_again, kept_by, opened_as, opened_by, reads_by}
use Rattle.steady_laws.specs.OneVersion.{freed_by, kept_after, kept_version, steady_of, taken_by}

abbrev none : Option OneVersion
none = None

kept_none : (w : Option Waiting) → kept_by w none ≡ none
kept_none None = refl
kept_none (Some w) = over (is_steady w.words)
  where
    over : (b : Bool) → cond b none none ≡ none
    over true = refl
    over false = refl

not_none : (d : Descriptor) → Some d ≡ None → ⊥
not_none d e = cc

-- a call to which nothing was granted has no version
no_version : (t : Trace) (id : CallId) → opening_of t id ≡ None → version_of t id ≡ None
no_version [] id e = refl
no_version (r ∷ before) id e = by (no_version before id) r.what e
  where
    by : (opening_of before id ≡ None → version_of before id ≡ None) → (x : Record) → opening_after x id (opening_of before id) ≡ None → version_after x id (version_of before id) ≡ None
    by earlier (Grant epoch of_call request inst mode file stamp ss) e = over (same_call of_call id) e
      where
        over : (b : Bool) → cond b (Some (record { mode = mode; epoch = epoch; inst = inst; steady = None })) (opening_of before id) ≡ None → cond b (version_at file stamp) (version_of before id) ≡ None
        over true e = absurd (not_none _ e)
        over false e = earlier e
    by earlier _ e = earlier e

freed_same : (words : Call) (fd : ℕ) (old : Option Descriptor) → freed_by words fd (steady_of old) ≡ steady_of (closed_by words fd old)
freed_same (call.Close n) fd old = over (n == fd)
  where
    over : (b : Bool) → cond b None (steady_of old) ≡ steady_of (cond b None old)
    over true = refl
    over false = refl
freed_same _ fd old = refl

held_same : (opening old : Option Descriptor) → steady_of old ≡ steady_of (held_again opening old)
held_same None old = refl
held_same (Some opening) None = refl
held_same (Some opening) (Some d) = refl

opened_same : (before : Trace) (id : CallId) → kept_by (call_named before id) (version_of before id) ≡ steady_of (opened_as before id)
opened_same before id = over (opening_of before id) refl
  where
    over : (o : Option Descriptor) → opening_of before id ≡ o → kept_by (call_named before id) (version_of before id) ≡ steady_of (option_map (λ (d : Descriptor). record d { steady = kept_by (call_named before id) (version_of before id) }) o)
    over None e = ap (kept_by (call_named before id)) (no_version before id e) ∙ kept_none (call_named before id)
    over (Some d) e = refl

taken_same : (r : Reply) (before : Trace) (id : CallId) (fd : ℕ) (old : Option Descriptor) → taken_by r before id fd (steady_of old) ≡ steady_of (opened_by r before id fd old)
taken_same (reply.Opened n) before id fd old = over (n == fd)
  where
    over : (b : Bool) → cond b (kept_by (call_named before id) (version_of before id)) (steady_of old) ≡ steady_of (cond b (opened_as before id) old)
    over true = opened_same before id
    over false = refl
taken_same (reply.Data bytes) before id fd old = over (reads_by (call_named before id) fd)
  where
    over : (b : Bool) → steady_of old ≡ steady_of (cond b (held_again (opening_of before id) old) old)
    over true = held_same (opening_of before id) old
    over false = refl
taken_same _ before id fd old = refl

-- the version that a number keeps, by its descriptor
pub kept_is : (t : Trace) (site process fd : ℕ) → kept_version t site process fd ≡ steady_of (descriptor t site process fd)
kept_is [] site process fd = refl
kept_is (r ∷ before) site process fd = ap (kept_after r.what before site process fd) (kept_is before site process fd) ∙ by r.what
  where
    old : Option Descriptor
    old = descriptor before site process fd

    by : (x : Record) → kept_after x before site process fd (steady_of old) ≡ steady_of (descriptor_after x before site process fd old)
    by (Accept s p id words) = over ((s == site) && (p == process))
      where
        over : (b : Bool) → cond b (freed_by words fd (steady_of old)) (steady_of old) ≡ steady_of (cond b (closed_by words fd old) old)
        over true = freed_same words fd old
        over false = refl
    by (Answer s p id r) = over ((s == site) && (p == process))
      where
        over : (b : Bool) → cond b (taken_by r before id fd (steady_of old)) (steady_of old) ≡ steady_of (cond b (opened_by r before id fd old) old)
        over true = taken_same r before id fd old
        over false = refl
    by (Stopped s cause) = over (s == site)
      where
        over : (b : Bool) → cond b None (steady_of old) ≡ steady_of (cond b None old)
        over true = refl
        over false = refl
    by _ = refl
