-- What was granted to a call last, with the version on which that was opened to read, and what is heard of it.
use Rattle.std.proofs.Common.{◌≡◌, Bool, true, false, cond, List, [], ◌∷◌, ◌++◌, Option, Some, None, refl, sym, ◌∙◌, ap}
use Rattle.role_steps.proofs.of_plain_facts.Options.{none_some}
use Rattle.locus_ids.specs.declared.ids.CallId.{CallId}
use Rattle.locus_ids.specs.declared.ids.EpochId.{EpochId}
use Rattle.locus_ids.specs.declared.ids.FileId.{FileId}
use Rattle.locus_ids.specs.declared.ids.Mode.{Mode}
use Rattle.locus_ids.specs.declared.ids.Mode.TheVariants as mode
use Rattle.locus_ids.specs.declared.ids.Serial.{Serial}
use Rattle.locus_ids.specs.declared.ids.Stamp.{Stamp}
use Rattle.trace_book.specs.Same.{same_call}
use Rattle.trace_book.specs.declared.call.OpenMode.{OpenMode}
use Rattle.trace_book.specs.declared.call.OpenMode.TheVariants as opens
use Rattle.trace_book.specs.declared.descriptor.Descriptor.{Descriptor}
use Rattle.trace_book.specs.declared.descriptor.OneVersion.{OneVersion}
use Rattle.trace_book.specs.declared.record.Record.{Record}
use Rattle.trace_book.specs.declared.record.Record.TheVariants as says
use Rattle.call_rules.specs.declared.answer.Answer.{Answer}
use Rattle.call_rules.specs.declared.answer.Answer.TheVariants as answer
use Rattle.call_rules.specs.Opening.{mode_of as mode_named}
use Rattle.role_steps.specs.Using.{last_version}
use Rattle.tree_model.specs.Calls.{opening_after, opening_of, version_after, version_at, version_of}
use Rattle.tree_model.specs.Folds.{Trace}
use Rattle.lawful_trace.specs.Progress.{Answers, granted_answer}
use Rattle.tree_laws.proofs.Awaiting.{OpensIt}
use Rattle.store_laws.proofs.Users.OpenGrants.{TellsVersion}
use Rattle.store_laws.proofs.ScriptLasting.{opened_from, opened_same}

-- of the versions on which it was opened those count on which it was opened to read
abbrev pub version_in : Mode → Option OneVersion → Option OneVersion
version_in mode.Read v = v
version_in _ v = None

abbrev pub Last : Type 0
Last = Option Descriptor × Option OneVersion

-- what was granted last, and what is heard of it
abbrev pub last_granted : OpenMode → Trace → CallId → Last
last_granted m before d = (opening_of before d, version_in (mode_named m) (version_of before d))

abbrev pub last_heard : OpenMode → EpochId → Answers → Last
last_heard m e xs = (opened_from None (mode_named m) e xs, version_in (mode_named m) (last_version None xs))

version_same : (o : Option OneVersion) (xs : Answers) (a : Answer) → ((i : Serial) → OpensIt a i → ⊥) → last_version o (xs ++ a ∷ []) ≡ last_version o xs
version_same o [] a h = over a h
  where
    over : (b : Answer) → ((i : Serial) → OpensIt b i → ⊥) → last_version o (b ∷ []) ≡ o
    over (answer.Reading i version) k = absurd (k i refl)
    over _ k = refl
version_same o (answer.Reading i version ∷ xs) a h = version_same (Some version) xs a h
version_same o (_ ∷ xs) a h = version_same o xs a h

pub heard_same : (m : OpenMode) (e : EpochId) (xs : Answers) (a : Answer) → ((i : Serial) → OpensIt a i → ⊥) → last_heard m e (xs ++ a ∷ []) ≡ last_heard m e xs
heard_same m e xs a h = ap (λ (o : Option Descriptor). (o, version_in (mode_named m) (last_version None (xs ++ a ∷ [])))) (opened_same None (mode_named m) e xs a h)
    ∙ ap (λ (v : Option OneVersion). (opened_from None (mode_named m) e xs, version_in (mode_named m) v)) (version_same None xs a h)

version_more : (o : Option OneVersion) (xs : Answers) (i : Serial) (v : OneVersion) → last_version o (xs ++ answer.Reading i v ∷ []) ≡ Some v
version_more o [] i v = refl
version_more o (answer.Reading j w ∷ xs) i v = version_more (Some w) xs i v
version_more o (_ ∷ xs) i v = version_more o xs i v

-- what was granted tells its version
pub version_told : (m : OpenMode) (xs : Answers) (i : Serial) (f : FileId) (stamp : Option Stamp) (kept : List Stamp) → TellsVersion (mode_named m) stamp → version_in (mode_named m) (version_at f stamp) ≡ version_in (mode_named m) (last_version None (xs ++ granted_answer (mode_named m) i f stamp kept ∷ []))
version_told opens.Read xs i f (Some v) kept on = sym (version_more None xs i (record { file = f; stamp = v }))
version_told opens.Read xs i f None kept on = absurd (none_some on.0 on.1)
version_told opens.Steady xs i f (Some v) kept on = sym (version_more None xs i (record { file = f; stamp = v }))
version_told opens.Steady xs i f None kept on = absurd (none_some on.0 on.1)
version_told opens.Write xs i f stamp kept on = refl
version_told (opens.Resolve site) xs i f stamp kept on = refl

-- where nothing was granted there is no version
pub unversioned : (before : Trace) (d : CallId) → opening_of before d ≡ None → version_of before d ≡ None
unversioned [] d e = refl
unversioned (x ∷ older) d e = over x.what e (unversioned older d)
  where
    at : (b : Bool) (y : Descriptor) (v old : Option OneVersion) (o : Option Descriptor) → cond b (Some y) o ≡ None → (o ≡ None → old ≡ None) → cond b v old ≡ None
    at true y v old o k later = absurd (none_some y (sym k))
    at false y v old o k later = later k

    over : (r : Record) → opening_after r d (opening_of older d) ≡ None → (opening_of older d ≡ None → version_of older d ≡ None) → version_after r d (version_of older d) ≡ None
    over (says.Grant at_epoch call request inst mode file stamp ss) k later = at (same_call call d) (record { mode = mode; epoch = at_epoch; inst = inst; steady = None }) (version_at file stamp) (version_of older d) (opening_of older d) k later
    over _ k later = later k
