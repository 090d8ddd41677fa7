-- A script changes what it has opened to write, or what its descriptor names.
use Rattle.std.proofs.Common.{◌≡◌, ℕ, ◌⊎◌, Bool, true, false, List, [], ◌∷◌, ◌++◌, Option, Some, None, refl, sym, ◌∙◌, ap, subst, inl, inr}
use Rattle.run_laws.proofs.of_plain_facts.Tests.{false_true}
use Rattle.locus_ids.specs.declared.ids.CallId.{CallId}
use Rattle.locus_ids.specs.declared.ids.FileId.{FileId}
use Rattle.locus_ids.specs.declared.ids.Kind.{Kind}
use Rattle.locus_ids.specs.declared.ids.Kind.TheVariants as kind
use Rattle.locus_ids.specs.declared.ids.Serial.{Serial}
use Rattle.locus_ids.specs.declared.config.Mount.{Mount}
use Rattle.locus_ids.specs.declared.refusal.Refusal.{Refusal}
use Rattle.locus_ids.specs.declared.refusal.Refusal.TheVariants as refusal
use Rattle.trace_book.specs.Messages.{message_name}
use Rattle.trace_book.specs.declared.call.Call.{Call}
use Rattle.trace_book.specs.declared.call.Call.TheVariants as call
use Rattle.trace_book.specs.declared.operation.Op.{Op}
use Rattle.trace_book.specs.declared.operation.Op.TheVariants as op
use Rattle.trace_book.specs.declared.operation.What.TheVariants as what
use Rattle.trace_book.specs.declared.reply.Reply.TheVariants as reply
use Rattle.trace_book.specs.declared.descriptor.Beginning.{Beginning}
use Rattle.trace_book.specs.declared.descriptor.Beginning.TheVariants as begins
use Rattle.trace_book.specs.Names.{components, last_of}
use Rattle.call_rules.specs.Mailing.{tells_name, shown_messages}
use Rattle.call_rules.specs.declared.answer.Answer.{Answer}
use Rattle.call_rules.specs.declared.answer.Answer.TheVariants as answer
use Rattle.call_rules.specs.declared.want.Want.{Want}
use Rattle.call_rules.specs.declared.want.Want.TheVariants as want
use Rattle.call_rules.specs.Words.{is_badly_named}
use Rattle.call_rules.specs.Walks.{Walked, Asks, Fails, There, Strays, root_of, mounted_in, passes, walk, walked}
use Rattle.call_rules.specs.Opening.{opens_file, op_wants, uses_wants, lists, describes, shown_in}
use Rattle.call_rules.specs.Scripts.{path_wants, begun_wants, named_wants}
use Rattle.site_laws.specs.Locks.Writing.{changes, OpensToWrite, IsOpenedToWrite, IsWrite, IsWriteOn, ScriptsOpenWhatTheyChange}
use Rattle.site_laws.proofs.Locks.Scripts.{Sound, quiet_sound, never_do, give_do, look_do, do_inst, do_op, probes_within, opens_dir_sound, finds_within, renames_within, close_quiet, mend_sound, opens_file_quiet, reopen_quiet, lists_quiet, describes_quiet}

-- ---- a call on a descriptor ----

op_is : (p i : Serial) (x o : Op) (answers : List Answer) → op_wants p x answers ≡ want.Do i o → (p ≡ i) × (x ≡ o)
op_is p i x o [] e = (do_inst p i x o e, do_op p i x o e)
op_is p i x o (answer.Did r ∷ []) e = absurd (give_do _ i o e)
op_is p i x o (answer.Refused why ∷ []) e = absurd (give_do _ i o e)
op_is p i x o (_ ∷ rest) e = absurd (never_do i o e)

unchanged : (x o : Op) → x ≡ o → changes x ≡ false → changes o ≡ true → ⊥
unchanged x o e none c = false_true (sym none ∙ (ap changes e ∙ c))

uses_is : (words : Call) (p i : Serial) (o : Op) (answers : List Answer) → uses_wants words p answers ≡ want.Do i o → changes o ≡ true → (p ≡ i) × IsWrite words
uses_is (call.Read fd at len) p i o answers e c = absurd (unchanged (op.Read at len) o (op_is p i (op.Read at len) o answers e).1 refl c)
uses_is (call.Write fd at bytes) p i o answers e c = ((op_is p i (op.Write at bytes) o answers e).0, tt)
uses_is (call.Cut fd len) p i o answers e c = ((op_is p i (op.Cut len) o answers e).0, tt)
uses_is (call.Commit fd) p i o answers e c = absurd (unchanged op.Commit o (op_is p i op.Commit o answers e).1 refl c)
uses_is (call.Abort fd) p i o answers e c = absurd (unchanged op.Abort o (op_is p i op.Abort o answers e).1 refl c)
uses_is (call.Close fd) p i o answers e c = absurd (close_quiet p answers i o e c)
uses_is _ p i o answers e c = absurd (never_do i o e)

-- ---- walks ----

-- the walk has come there with these answers left, and comes there with any others in their place
record Reaches (mounts : List Mount) (cs : List (List ℕ)) (reached : List ℕ) (at : FileId) (k : Kind) (answers : List Answer) (there : FileId) (found : Kind) (rest : List Answer) : Type 0 where
  used : List Answer
  answers_are : answers ≡ used ++ rest
  again : (others : List Answer) → walk mounts cs reached at k (used ++ others) ≡ There there found others

there_is : (at there : FileId) (k found : Kind) (answers rest : List Answer) → There at k answers ≡ There there found rest → (at ≡ there) × ((k ≡ found) × (answers ≡ rest))
there_is at there k found answers rest e = (cc, (cc, cc))

asks_there : (dir there : FileId) (c : List ℕ) (found : Kind) (rest : List Answer) → Asks dir c ≡ There there found rest → ⊥
asks_there dir there c found rest e = cc

fails_there : (why : Refusal) (there : FileId) (found : Kind) (rest : List Answer) → Fails why ≡ There there found rest → ⊥
fails_there why there found rest e = cc

strays_there : (there : FileId) (found : Kind) (rest : List Answer) → Strays ≡ There there found rest → ⊥
strays_there there found rest e = cc

reach : (mounts : List Mount) (cs : List (List ℕ)) (reached : List ℕ) (at : FileId) (k : Kind) (answers : List Answer) (there : FileId) (found : Kind) (rest : List Answer) → walk mounts cs reached at k answers ≡ There there found rest → Reaches mounts cs reached at k answers there found rest
reach mounts [] reached at k answers there found rest e =
    let t : (at ≡ there) × ((k ≡ found) × (answers ≡ rest)) = there_is at there k found answers rest e in
    record { used = []; answers_are = t.1.1; again = λ others. λ j. There (t.0 j) (t.1.0 j) others }
reach mounts (c ∷ cs) reached at kind.File answers there found rest e = absurd (fails_there _ there found rest e)
reach mounts (c ∷ cs) reached at kind.Dir answers there found rest e = by_mount (λ next k xs f. reach mounts cs c next k xs there found rest f) (mounted_in mounts at c) refl answers e
  where
    further : Type 0
    further = (next : FileId) (k : Kind) (xs : List Answer) → walk mounts cs c next k xs ≡ There there found rest → Reaches mounts cs c next k xs there found rest

    by_mount : further → (o : Option ℕ) → mounted_in mounts at c ≡ o → (answers : List Answer) → passes (walk mounts cs c) at c o answers ≡ There there found rest → Reaches mounts (c ∷ cs) reached at kind.Dir answers there found rest
    by_mount go (Some group) m answers e =
        let r : Reaches mounts cs c (root_of group) kind.Dir answers there found rest = go (root_of group) kind.Dir answers e in
        record { used = r.used; answers_are = r.answers_are; again = λ others. subst (λ (o : Option ℕ). passes (walk mounts cs c) at c o (r.used ++ others) ≡ There there found others) (sym m) (r.again others) }
    by_mount go None m [] e = absurd (asks_there at there c found rest e)
    by_mount go None m (answer.Entered ino k ∷ tail) e =
        let next : FileId = record { group = at.group; ino = ino } in
        let r : Reaches mounts cs c next k tail there found rest = go next k tail e in
        record { used = answer.Entered ino k ∷ r.used; answers_are = ap (λ (xs : List Answer). answer.Entered ino k ∷ xs) r.answers_are; again = λ others. subst (λ (o : Option ℕ). passes (walk mounts cs c) at c o (answer.Entered ino k ∷ (r.used ++ others)) ≡ There there found others) (sym m) (r.again others) }
    by_mount go None m (answer.Refused why ∷ tail) e = absurd (fails_there why there found rest e)
    by_mount go None m (_ ∷ tail) e = absurd (strays_there there found rest e)

walked_there : (mounts : List Mount) (path : List (List ℕ)) (next : FileId → Kind → List Answer → Want) (answers : List Answer) (there : FileId) (found : Kind) (rest : List Answer) → walk mounts path [] (root_of 0) kind.Dir answers ≡ There there found rest → walked mounts path answers next ≡ next there found rest
walked_there mounts path next answers there found rest e = rw e refl

-- a walk, and what is sound after it
walked_sound : (mounts : List Mount) (path : List (List ℕ)) (next : FileId → Kind → List Answer → Want) (answers : List Answer) → ((there : FileId) (found : Kind) (rest : List Answer) → Sound (next there found) rest) → Sound (λ (xs : List Answer). walked mounts path xs next) answers
walked_sound mounts path next answers sound i o e c = by_walk (walk mounts path [] (root_of 0) kind.Dir answers) refl
  where
    script : List Answer → Want
    script xs = walked mounts path xs next

    asks_ends : (dir : FileId) (name : List ℕ) → walk mounts path [] (root_of 0) kind.Dir answers ≡ Asks dir name → walked mounts path answers next ≡ want.Look dir (what.Name name)
    asks_ends dir name w = rw w refl

    fails_ends : (why : Refusal) → walk mounts path [] (root_of 0) kind.Dir answers ≡ Fails why → walked mounts path answers next ≡ want.Give (reply.No why)
    fails_ends why w = rw w refl

    strays_ends : walk mounts path [] (root_of 0) kind.Dir answers ≡ Strays → walked mounts path answers next ≡ want.Never
    strays_ends w = rw w refl

    by_walk : (w : Walked) → walk mounts path [] (root_of 0) kind.Dir answers ≡ w → IsOpenedToWrite script answers i
    by_walk (Asks dir name) w = absurd (look_do dir (what.Name name) i o (sym (asks_ends dir name w) ∙ e))
    by_walk (Fails why) w = absurd (give_do (reply.No why) i o (sym (fails_ends why w) ∙ e))
    by_walk Strays w = absurd (never_do i o (sym (strays_ends w) ∙ e))
    by_walk (There there found rest) w =
        let r : Reaches mounts path [] (root_of 0) kind.Dir answers there found rest = reach mounts path [] (root_of 0) kind.Dir answers there found rest w in
        let k : IsOpenedToWrite (next there found) rest i = sound there found rest i o (sym (walked_there mounts path next answers there found rest w) ∙ e) c in
        record {
          before = r.used ++ k.before;
          opening = k.opening;
          after = k.after;
          answers_are = r.answers_are ∙ (ap (λ (xs : List Answer). r.used ++ xs) k.answers_are ∙ joined r.used k.before (k.opening ∷ k.after));
          asked = subst OpensToWrite (sym (walked_there mounts path next (r.used ++ k.before) there found k.before (r.again k.before))) k.asked;
          opened = k.opened;
        }
      where
        joined : (a b c : List Answer) → a ++ (b ++ c) ≡ (a ++ b) ++ c
        joined [] b c = refl
        joined (x ∷ xs) b c = ap (λ (ys : List Answer). x ∷ ys) (joined xs b c)

-- ---- every call ----

path_sound : (mounts : List Mount) (free : Option ℕ) (id : CallId) (words : Call) (answers : List Answer) → Sound (path_wants mounts free id words) answers
path_sound mounts free id (call.Create path sites) answers = walked_sound mounts _ _ answers (λ dir k rest. opens_dir_sound _ _ dir k rest (λ p xs. probes_within p dir.group (last_of (components path)) kind.File sites [] reply.Made xs))
path_sound mounts free id (call.MakeDir path) answers = walked_sound mounts _ _ answers (λ dir k rest. opens_dir_sound _ _ dir k rest (λ p xs. probes_within p dir.group (last_of (components path)) kind.Dir None [] reply.Made xs))
path_sound mounts free id (call.Unlink path) answers = walked_sound mounts _ _ answers (λ dir k rest. opens_dir_sound _ _ dir k rest (λ p xs. finds_within kind.File p dir.group (last_of (components path)) xs))
path_sound mounts free id (call.RemoveDir path) answers = walked_sound mounts _ _ answers (λ dir k rest. opens_dir_sound _ _ dir k rest (λ p xs. finds_within kind.Dir p dir.group (last_of (components path)) xs))
path_sound mounts free id (call.Rename path name) answers = walked_sound mounts _ _ answers (λ dir k rest. opens_dir_sound _ _ dir k rest (λ p xs. renames_within p (last_of (components path)) name xs))
path_sound mounts free id (call.List path) answers = walked_sound mounts _ _ answers (λ dir k rest. quiet_sound (lists (shown_in mounts) (last_of (components path)) dir k) rest (lists_quiet (shown_in mounts) (last_of (components path)) dir k rest))
path_sound mounts free id (call.Stat path) answers = walked_sound mounts _ _ answers (λ dir k rest. quiet_sound (describes dir k) rest (describes_quiet dir k rest))
path_sound mounts free id (call.Mail path bytes) answers = walked_sound mounts _ _ answers (λ dir k rest. opens_dir_sound _ _ dir k rest (λ p xs. probes_within p dir.group (message_name id) kind.File None bytes (tells_name (message_name id)) xs))
path_sound mounts free id (call.Mails path) answers = walked_sound mounts _ _ answers (λ dir k rest. quiet_sound (lists shown_messages (last_of (components path)) dir k) rest (lists_quiet shown_messages (last_of (components path)) dir k rest))
path_sound mounts free id (call.Open path how) answers = walked_sound mounts _ _ answers (λ dir k rest. quiet_sound (opens_file how free dir k) rest (opens_file_quiet how free dir k rest))
path_sound mounts free id (call.Mend file) answers = mend_sound file answers
path_sound mounts free id _ answers = λ i o e c. absurd (never_do i o e)

begun_sound : (mounts : List Mount) (free : Option ℕ) (words : Call) (b : Beginning) (answers : List Answer) (i : Serial) (o : Op) → begun_wants mounts free words b answers ≡ want.Do i o → changes o ≡ true → IsWriteOn words b i ⊎ IsOpenedToWrite (begun_wants mounts free words b) answers i
begun_sound mounts free words (begins.Denied why) answers i o e c = absurd (give_do (reply.No why) i o e)
begun_sound mounts free words (begins.Uses epoch p) answers i o e c = let k : (p ≡ i) × IsWrite words = uses_is words p i o answers e c in inl (record { epoch = epoch; begins_so = ap (begins.Uses epoch) k.0; is_write = k.1 })
begun_sound mounts free words (begins.Reopens kept last) answers i o e c = absurd (reopen_quiet words kept last answers i o e c)
begun_sound mounts free words begins.Frees answers i o e c = absurd (give_do (reply.Closed None) i o e)
begun_sound mounts free words (begins.Walks id) answers i o e c = inr (path_sound mounts free id words answers i o e c)

pub scripts_sound : ScriptsOpenWhatTheyChange
scripts_sound mounts free words b answers i o = by_names (is_badly_named mounts words) refl
  where
    bad : is_badly_named mounts words ≡ true → named_wants mounts free words b answers ≡ want.Give (reply.No refusal.BadName)
    bad n = rw n refl

    good : is_badly_named mounts words ≡ false → (xs : List Answer) → named_wants mounts free words b xs ≡ begun_wants mounts free words b xs
    good n xs = rw n refl

    by_names : (n : Bool) → is_badly_named mounts words ≡ n → named_wants mounts free words b answers ≡ want.Do i o → changes o ≡ true → IsWriteOn words b i ⊎ IsOpenedToWrite (named_wants mounts free words b) answers i
    by_names true n e c = absurd (give_do (reply.No refusal.BadName) i o (sym (bad n) ∙ e))
    by_names false n e c = either (begun_sound mounts free words b answers i o (sym (good n answers) ∙ e) c)
      where
        either : IsWriteOn words b i ⊎ IsOpenedToWrite (begun_wants mounts free words b) answers i → IsWriteOn words b i ⊎ IsOpenedToWrite (named_wants mounts free words b) answers i
        either (inl k) = inl k
        either (inr k) = inr (record { before = k.before; opening = k.opening; after = k.after; answers_are = k.answers_are; asked = subst OpensToWrite (sym (good n k.before)) k.asked; opened = k.opened })
