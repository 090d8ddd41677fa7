-- Which calls ask that an instance be committed or closed: those of the kinds that commit.
use Rattle.std.proofs.Common.{◌≡◌, ℕ, ◌⊎◌, Bool, true, false, cond, List, [], ◌∷◌, Option, Some, None, refl, sym, subst, inl, inr}
use Rattle.role_steps.proofs.of_plain_facts.Options.{none_some, some_same}
use Rattle.role_steps.proofs.of_plain_facts.Tests.{true_false}
use Rattle.locus_ids.specs.declared.config.Config.{Config}
use Rattle.locus_ids.specs.declared.config.Mount.{Mount}
use Rattle.locus_ids.specs.declared.ids.CallId.{CallId}
use Rattle.locus_ids.specs.declared.ids.FileId.{FileId}
use Rattle.locus_ids.specs.declared.ids.Kind.{Kind}
use Rattle.locus_ids.specs.declared.ids.Kind.TheVariants as kind
use Rattle.locus_ids.specs.declared.ids.Serial.{Serial}
use Rattle.locus_ids.specs.declared.ids.EpochId.{EpochId}
use Rattle.locus_ids.specs.declared.refusal.Refusal.TheVariants as refusal
use Rattle.trace_book.specs.declared.reply.Reply.TheVariants as reply
use Rattle.trace_book.specs.Names.{components, last_of}
use Rattle.trace_book.specs.declared.call.Call.{Call}
use Rattle.trace_book.specs.declared.call.Call.TheVariants as call
use Rattle.trace_book.specs.declared.call.OpenMode.{OpenMode}
use Rattle.trace_book.specs.declared.descriptor.Beginning.{Beginning}
use Rattle.trace_book.specs.declared.descriptor.Beginning.TheVariants as begins
use Rattle.trace_book.specs.declared.descriptor.OneVersion.{OneVersion}
use Rattle.trace_book.specs.declared.operation.Op.{Op}
use Rattle.trace_book.specs.declared.operation.Op.TheVariants as op
use Rattle.call_rules.specs.Mailing.{shown_messages}
use Rattle.call_rules.specs.declared.answer.Answer.{Answer}
use Rattle.call_rules.specs.declared.answer.Answer.TheVariants as answer
use Rattle.call_rules.specs.declared.want.Want.{Want}
use Rattle.call_rules.specs.declared.want.Want.TheVariants as want
use Rattle.call_rules.specs.Opening.{describes, lists, op_wants, opens_file, uses_wants, Shows, shown_in}
use Rattle.call_rules.specs.Scripts.{begun_wants, path_wants, where_packed, wants}
use Rattle.call_rules.specs.Walks.{Asks, Fails, Strays, There, Walked, root_of, walk, walked}
use Rattle.call_rules.specs.Words.{is_badly_named}
use Rattle.tree_model.specs.Folds.{Trace}
use Rattle.tree_model.specs.Calls.{call_named}
use Rattle.tree_model.specs.declared.accepted.Waiting.{Waiting}
use Rattle.lawful_trace.specs.Progress.{Answers, answers, wants_as, wants_next}
use Rattle.lawful_trace.specs.Tables.{begun}
use Rattle.headline_laws.specs.Promises.Committing.{commits}

-- neither a commit nor a close
abbrev EndsNone : Want → Type 0
EndsNone (want.Do i op.Commit) = ⊥
EndsNone (want.Close i) = ⊥
EndsNone _ = Unit {0}

-- a refusal may take its place
either : (b : Bool) (w : Want) → EndsNone w → EndsNone (cond b w (want.Give (reply.No refusal.NoStorage)))
either true w h = h
either false w h = tt

where_none : (packed : ℕ → Bool) (w : Want) → EndsNone w → EndsNone (where_packed packed w)
where_none packed (want.Look file what) h = either (packed file.group) (want.Look file what) h
where_none packed (want.Open file how) h = either (packed file.group) (want.Open file how) h
where_none packed (want.OpenToMend file) h = either (packed file.group) (want.OpenToMend file) h
where_none packed (want.Make group kind sites) h = either (packed group) (want.Make group kind sites) h
where_none packed (want.Do i o) h = h
where_none packed (want.Close i) h = h
where_none packed (want.Give r) h = h
where_none packed want.Never h = h

op_none : (i : Serial) (o : Op) → EndsNone (want.Do i o) → (xs : List Answer) → EndsNone (op_wants i o xs)
op_none i o h [] = h
op_none i o h (answer.Did result ∷ []) = tt
op_none i o h (answer.Refused why ∷ []) = tt
op_none i o h (_ ∷ rest) = tt

walked_none : (mounts : List Mount) (path : List (List ℕ)) (xs : List Answer) (after : FileId → Kind → List Answer → Want) → ((at : FileId) (k : Kind) (rest : List Answer) → EndsNone (after at k rest)) → EndsNone (walked mounts path xs after)
walked_none mounts path xs after h = by_walk (walk mounts path [] (root_of 0) kind.Dir xs) refl
  where
    by_walk : (w : Walked) → walk mounts path [] (root_of 0) kind.Dir xs ≡ w → EndsNone (walked mounts path xs after)
    by_walk (Asks dir name) w = rw w tt
    by_walk (Fails why) w = rw w tt
    by_walk Strays w = rw w tt
    by_walk (There there found rest) w = let k : EndsNone (after there found rest) = h there found rest in rw w k

lists_none : (shows : Shows) (reached : List ℕ) (at : FileId) (k : Kind) (xs : List Answer) → EndsNone (lists shows reached at k xs)
lists_none shows reached at kind.File xs = tt
lists_none shows reached at kind.Dir [] = tt
lists_none shows reached at kind.Dir (answer.Showed names ∷ []) = tt
lists_none shows reached at kind.Dir (answer.Refused why ∷ []) = tt
lists_none shows reached at kind.Dir (_ ∷ rest) = tt

describes_none : (at : FileId) (k : Kind) (xs : List Answer) → EndsNone (describes at k xs)
describes_none at k [] = tt
describes_none at k (answer.Described kd size stamp ∷ []) = tt
describes_none at k (answer.Refused why ∷ []) = tt
describes_none at k (_ ∷ rest) = tt

opens_none : (how : OpenMode) (free : Option ℕ) (at : FileId) (k : Kind) (xs : List Answer) → EndsNone (opens_file how free at k xs)
opens_none how free at kind.Dir xs = tt
opens_none how free at kind.File [] = tt
opens_none how (Some fd) at kind.File (answer.Opened i ino ∷ []) = tt
opens_none how (Some fd) at kind.File (answer.Reading i version ∷ []) = tt
opens_none how free at kind.File (answer.Refused why ∷ []) = tt
opens_none how free at kind.File (_ ∷ rest) = tt

path_none : (mounts : List Mount) (free : Option ℕ) (id : CallId) (words : Call) (xs : List Answer) → commits words ≡ false → EndsNone (path_wants mounts free id words xs)
path_none mounts free id (call.List path) xs e = walked_none mounts (components path) xs (lists (shown_in mounts) (last_of (components path))) (lists_none (shown_in mounts) (last_of (components path)))
path_none mounts free id (call.Mails path) xs e = walked_none mounts (components path) xs (lists shown_messages (last_of (components path))) (lists_none shown_messages (last_of (components path)))
path_none mounts free id (call.Stat path) xs e = walked_none mounts (components path) xs describes describes_none
path_none mounts free id (call.Open path how) xs e = walked_none mounts (components path) xs (opens_file how free) (opens_none how free)
path_none mounts free id (call.Read fd at len) xs e = tt
path_none mounts free id (call.Write fd at bytes) xs e = tt
path_none mounts free id (call.Cut fd len) xs e = tt
path_none mounts free id (call.Abort fd) xs e = tt
path_none mounts free id _ xs e = absurd (true_false e)

uses_none : (words : Call) (i : Serial) (xs : List Answer) → commits words ≡ false → EndsNone (uses_wants words i xs)
uses_none (call.Read fd at len) i xs e = op_none i (op.Read at len) tt xs
uses_none (call.Write fd at bytes) i xs e = op_none i (op.Write at bytes) tt xs
uses_none (call.Cut fd len) i xs e = op_none i (op.Cut len) tt xs
uses_none (call.Abort fd) i xs e = op_none i op.Abort tt xs
uses_none (call.List path) i xs e = tt
uses_none (call.Stat path) i xs e = tt
uses_none (call.Mail path bytes) i xs e = tt
uses_none (call.Mails path) i xs e = tt
uses_none (call.Open path how) i xs e = tt
uses_none _ i xs e = absurd (true_false e)

-- the call opens a version again
abbrev pub OpensAgain : Option Beginning → Type 0
OpensAgain o = (kept : OneVersion) × (last : EpochId) × (o ≡ Some (begins.Reopens kept last))

abbrev NotAgain : Beginning → Type 0
NotAgain (begins.Reopens kept last) = ⊥
NotAgain _ = Unit {0}

begun_none : (mounts : List Mount) (free : Option ℕ) (words : Call) (b : Beginning) (xs : List Answer) → NotAgain b → commits words ≡ false → EndsNone (begun_wants mounts free words b xs)
begun_none mounts free words (begins.Denied why) xs other e = tt
begun_none mounts free words (begins.Uses epoch inst) xs other e = uses_none words inst xs e
begun_none mounts free words (begins.Walks id) xs other e = path_none mounts free id words xs e
begun_none mounts free words begins.Frees xs other e = tt
begun_none mounts free words (begins.Reopens kept last) xs other e = absurd other

wants_none : (mounts : List Mount) (packed : ℕ → Bool) (free : Option ℕ) (words : Call) (b : Beginning) (xs : List Answer) → NotAgain b → commits words ≡ false → EndsNone (wants mounts packed free words b xs)
wants_none mounts packed free words b xs other e =
    elim (is_badly_named mounts words) as (λ t. EndsNone (where_packed packed (cond t (want.Give (reply.No refusal.BadName)) (begun_wants mounts free words b xs)))) [
      | true ↦ tt
      | false ↦ where_none packed (begun_wants mounts free words b xs) (begun_none mounts free words b xs other e)
    ]

-- a call that asks so next is of such a kind, or opens a version again
pub asked_kind : (c : Config) (before : Trace) (d : CallId) (i : Serial) (accepted : Waiting) → call_named before d ≡ Some accepted → (wants_next c before d ≡ want.Do i op.Commit) ⊎ (wants_next c before d ≡ want.Close i) → (commits accepted.words ≡ true) ⊎ OpensAgain (begun before d)
asked_kind c before d i accepted named asked = by_kind (commits accepted.words) refl
  where
    Other : Option Beginning → Type 0
    Other None = Unit {0}
    Other (Some b) = NotAgain b

    as_named : (o : Option Waiting) (b : Option Beginning) (xs : Answers) → o ≡ Some accepted → Other b → commits accepted.words ≡ false → EndsNone (wants_as c before o b xs)
    as_named None b xs e other k = absurd (none_some accepted e)
    as_named (Some w) None xs e other k = tt
    as_named (Some w) (Some b) xs e other k = wants_none c.mounts _ _ w.words b xs other (subst (λ (x : Waiting). commits x.words ≡ false) (sym (some_same w accepted e)) k)

    ends : EndsNone (wants_next c before d) → (wants_next c before d ≡ want.Do i op.Commit) ⊎ (wants_next c before d ≡ want.Close i) → ⊥
    ends k (inl e) = subst EndsNone e k
    ends k (inr e) = subst EndsNone e k

    again_or : (o : Option Beginning) → OpensAgain o ⊎ Other o
    again_or None = inr tt
    again_or (Some (begins.Reopens kept last)) = inl (kept, last, refl)
    again_or (Some (begins.Denied why)) = inr tt
    again_or (Some (begins.Uses epoch inst)) = inr tt
    again_or (Some (begins.Walks id)) = inr tt
    again_or (Some begins.Frees) = inr tt

    by_kind : (b : Bool) → commits accepted.words ≡ b → (commits accepted.words ≡ true) ⊎ OpensAgain (begun before d)
    by_kind true e = inl e
    by_kind false e = over (again_or (begun before d))
      where
        over : OpensAgain (begun before d) ⊎ Other (begun before d) → (commits accepted.words ≡ true) ⊎ OpensAgain (begun before d)
        over (inl again) = inr again
        over (inr other) = absurd (ends (as_named (call_named before d) (begun before d) (answers c before d) named other e) asked)
