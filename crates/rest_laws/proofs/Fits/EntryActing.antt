-- An insert names a file that stands, of the directory's group, and its kind; and what is written or cut is a file that is no directory.
use Rattle.std.proofs.Common.{◌≡◌, ℕ, Bool, true, false, cond, List, [], ◌∷◌, ◌++◌, append-nil, append_assoc, Some, None, refl, sym, ◌∙◌, ap, subst, ◌⊎◌, inl, inr}
use Rattle.role_steps.proofs.of_plain_facts.Numbers.{equal}
use Rattle.role_steps.proofs.of_plain_facts.Options.{some_same}
use Rattle.role_steps.proofs.of_plain_facts.Tests.{true_false}
use Rattle.locus_ids.specs.declared.config.Config.{Config}
use Rattle.locus_ids.specs.declared.ids.CallId.{CallId}
use Rattle.locus_ids.specs.declared.ids.EpochId.{EpochId}
use Rattle.locus_ids.specs.declared.ids.FileId.{FileId}
use Rattle.locus_ids.specs.declared.ids.Kind.{Kind}
use Rattle.locus_ids.specs.declared.ids.Kind.TheVariants as kind
use Rattle.locus_ids.specs.declared.ids.Mode.{Mode}
use Rattle.locus_ids.specs.declared.ids.Mode.TheVariants as mode
use Rattle.locus_ids.specs.declared.ids.Serial.{Serial}
use Rattle.commit_graph.specs.Grants.{is_read}
use Rattle.trace_book.specs.declared.call.Call.{Call}
use Rattle.trace_book.specs.declared.call.Call.TheVariants as call
use Rattle.trace_book.specs.declared.call.OpenMode.TheVariants as how
use Rattle.trace_book.specs.declared.descriptor.Beginning.{Beginning}
use Rattle.trace_book.specs.declared.descriptor.Beginning.TheVariants as begins
use Rattle.trace_book.specs.declared.descriptor.OneVersion.{OneVersion}
use Rattle.trace_book.specs.declared.operation.Op.{Op}
use Rattle.trace_book.specs.declared.operation.Op.TheVariants as op
use Rattle.trace_book.specs.declared.operation.Outcome.{Outcome}
use Rattle.trace_book.specs.declared.record.Record.TheVariants as says
use Rattle.call_rules.specs.Descriptors.{beginning}
use Rattle.call_rules.specs.Scripts.{wants}
use Rattle.call_rules.specs.declared.answer.Answer.{Answer}
use Rattle.call_rules.specs.declared.answer.Answer.TheVariants as answer
use Rattle.call_rules.specs.declared.want.Want.{Want}
use Rattle.call_rules.specs.declared.want.Want.TheVariants as want
use Rattle.role_steps.specs.Views.{Shown}
use Rattle.the_run.specs.Worlds.{Line}
use Rattle.tree_model.specs.declared.accepted.Waiting.{Waiting}
use Rattle.tree_model.specs.declared.instance.Instance.{Instance}
use Rattle.tree_model.specs.Calls.{call_named, granted_to}
use Rattle.tree_model.specs.Files.{first_call}
use Rattle.lawful_trace.specs.Progress.{is_packed_in}
use Rattle.lawful_trace.specs.Tables.{begun, call_of_act, has_named, unless_named, use_number, uses_of}
use Rattle.lawful_trace.specs.TreeRows.{IsCallIn, granted_group, is_open_of}
use Rattle.tree_laws.proofs.OwnWalks.{walks_own}
use Rattle.tree_laws.specs.Calls.{Asks, log, script}
use Rattle.tree_laws.specs.Following.{IsFollowed, MayTell}
use Rattle.tree_laws.specs.Instances.{instance_now}
use Rattle.tree_laws.specs.Past.{WasGranted}
use Rattle.tree_laws.specs.Printed.{entries}
use Rattle.tree_laws.specs.Serials.{is_open_want}
use Rattle.site_laws.specs.Locks.Writing.{changes}
use Rattle.tree_laws.proofs.Alone.{asking, numbered_every}
use Rattle.tree_laws.proofs.Answered.{asker_unnamed}
use Rattle.tree_laws.proofs.CarriedLooks.{one_epoch}
use Rattle.tree_laws.proofs.Descriptors.{IsUser, are_users}
use Rattle.tree_laws.proofs.Fresh.{IsNamed}
use Rattle.tree_laws.proofs.Holding.{Script}
use Rattle.tree_laws.specs.Orders.Joining.{PacksAreOfSites}
use Rattle.tree_laws.proofs.Orders.Standing.{same_file_eq}
use Rattle.tree_laws.proofs.Orders.ProcessBegun.{comes_from}
use Rattle.tree_laws.proofs.Orders.ProcessGranting.{GrantIs, granted_is}
use Rattle.store_laws.proofs.ScriptFitted.{Began, began}
use Rattle.store_laws.proofs.ScriptNaming.{Opens, RereadsIn, script_by}
use Rattle.store_laws.proofs.Places.{GrantedSo as IsGrantedSo, instance_granted, open_is}
use Rattle.store_laws.proofs.AnswerAnswering.{acter_in}
use Rattle.store_laws.proofs.AnswerAskers.{op_had}
use Rattle.store_laws.proofs.AnswerDone.{open_grant}
use Rattle.store_laws.proofs.OneTree.RemovePlaced.{GrantedSo, IsPlaced, Placed, Taken, granted_placed, taken_so}
use Rattle.rest_laws.proofs.StoreStepAsking.{changed_open}
use Rattle.store_laws.proofs.OneTree.RemoveScripts.{Along, IsOr, along_at, along_same}
use Rattle.rest_laws.specs.Fits.EntryEntries.{MakesMessage, NamesFile}
use Rattle.rest_laws.proofs.Fits.EntryFacts.{IsAnswered, IsKnown, IsPlain, WasEnded, WasMade, named_known, roots_known}
use Rattle.rest_laws.proofs.Fits.EntryHeard.{Heard}
use Rattle.rest_laws.proofs.Fits.EntryInserting.{Inserting, OpensIn, wants_inserting}
use Rattle.rest_laws.proofs.Fits.EntryMade.{made_first, made_named}
use Rattle.rest_laws.proofs.Fits.EntryNamers.{named_begins}
use Rattle.rest_laws.proofs.Fits.EntryWalking.{AsksBy, DeniedAsks, RereaderAsks, UserAsks, WalkerAsks, wants_so}
use Rattle.rest_laws.proofs.Fits.EntryWriting.{Writing, wants_writing}

-- ---- opens ----

along_front : (P : Want → Answer → Type 0) (k : Script) (xs ys : List Answer) → Along P k (xs ++ ys) → Along P k xs
along_front P k [] ys h = tt
along_front P k (x ∷ xs) ys h = (h.0, along_front P (λ zs. k (x ∷ zs)) xs ys h.1)

-- what is granted was asked as an open
opens_want : (m : Mode) (f : FileId) (w : Want) → is_open_of m f w ≡ true → is_open_want w ≡ true
opens_want mode.Read f (want.Open g how.Read) e = refl
opens_want mode.Read f (want.Open g how.Steady) e = refl
opens_want mode.Read f _ e = absurd (true_false (sym e))
opens_want mode.Write f (want.Open g how.Write) e = refl
opens_want mode.Write f _ e = absurd (true_false (sym e))
opens_want mode.Resolve f (want.Open g (how.Resolve site)) e = refl
opens_want mode.Resolve f _ e = absurd (true_false (sym e))
opens_want mode.Mend f (want.OpenToMend g) e = refl
opens_want mode.Mend f _ e = absurd (true_false (sym e))
opens_want mode.Make f (want.Make group k sites) e = refl
opens_want mode.Make f _ e = absurd (true_false (sym e))

-- who doesn't walk opens nothing
user_opens : (w : Want) → is_open_want w ≡ true → UserAsks w → ⊥
user_opens (want.Open f m) e k = k
user_opens (want.OpenToMend f) e k = k
user_opens (want.Make group k sites) e q = q
user_opens _ e k = true_false (sym e)

denied_opens : (w : Want) → is_open_want w ≡ true → DeniedAsks w → ⊥
denied_opens (want.Open f m) e k = k
denied_opens (want.OpenToMend f) e k = k
denied_opens (want.Make group k sites) e q = q
denied_opens _ e k = true_false (sym e)

-- and who opens a version again opens it to read
rereader_reads : (m : Mode) (f : FileId) (w : Want) → is_open_of m f w ≡ true → RereaderAsks w → is_read m ≡ true
rereader_reads mode.Read f w e k = refl
rereader_reads mode.Write f (want.Open g how.Write) e k = cc
rereader_reads mode.Write f _ e k = absurd (true_false (sym e))
rereader_reads mode.Resolve f (want.Open g (how.Resolve site)) e k = cc
rereader_reads mode.Resolve f _ e k = absurd (true_false (sym e))
rereader_reads mode.Mend f (want.OpenToMend g) e k = absurd k
rereader_reads mode.Mend f _ e k = absurd (true_false (sym e))
rereader_reads mode.Make f (want.Make group kd sites) e k = absurd k
rereader_reads mode.Make f _ e k = absurd (true_false (sym e))

walks_again : (id : CallId) (kept : OneVersion) (last : EpochId) → begins.Walks id ≡ begins.Reopens kept last → ⊥
walks_again id kept last e = cc

-- what is opened in a group is granted there
opens_group : (group : ℕ) (m : Mode) (f : FileId) (w : Want) → is_open_of m f w ≡ true → OpensIn group w → f.group ≡ group
opens_group group mode.Read f (want.Open g how.Read) e k = ap (λ (x : FileId). x.group) (sym (same_file_eq g f e)) ∙ k
opens_group group mode.Read f (want.Open g how.Steady) e k = ap (λ (x : FileId). x.group) (sym (same_file_eq g f e)) ∙ k
opens_group group mode.Read f _ e k = absurd (true_false (sym e))
opens_group group mode.Write f (want.Open g how.Write) e k = ap (λ (x : FileId). x.group) (sym (same_file_eq g f e)) ∙ k
opens_group group mode.Write f _ e k = absurd (true_false (sym e))
opens_group group mode.Resolve f (want.Open g (how.Resolve site)) e k = ap (λ (x : FileId). x.group) (sym (same_file_eq g f e)) ∙ k
opens_group group mode.Resolve f _ e k = absurd (true_false (sym e))
opens_group group mode.Mend f (want.OpenToMend g) e k = ap (λ (x : FileId). x.group) (sym (same_file_eq g f e)) ∙ k
opens_group group mode.Mend f _ e k = absurd (true_false (sym e))
opens_group group mode.Make f (want.Make g kd sites) e k = sym (equal g f.group e) ∙ k
opens_group group mode.Make f _ e k = absurd (true_false (sym e))

-- what an open call opens is a file
opener_opens : (Known : FileId → Kind → Type 0) (words : Call) → Opens words → (m : Mode) (f : FileId) (w : Want) → is_open_of m f w ≡ true → WalkerAsks Known words w → Known f kind.File
opener_opens Known words o m f w e k = over m w e (subst (λ (v : Call). WalkerAsks Known v w) o.words_are k)
  where
    over : (n : Mode) (v : Want) → is_open_of n f v ≡ true → WalkerAsks Known (call.Open o.path o.how) v → Known f kind.File
    over mode.Read (want.Open g how.Read) q z = subst (λ (x : FileId). Known x kind.File) (same_file_eq g f q) z
    over mode.Read (want.Open g how.Steady) q z = subst (λ (x : FileId). Known x kind.File) (same_file_eq g f q) z
    over mode.Read _ q z = absurd (true_false (sym q))
    over mode.Write (want.Open g how.Write) q z = subst (λ (x : FileId). Known x kind.File) (same_file_eq g f q) z
    over mode.Write _ q z = absurd (true_false (sym q))
    over mode.Resolve (want.Open g (how.Resolve site)) q z = subst (λ (x : FileId). Known x kind.File) (same_file_eq g f q) z
    over mode.Resolve _ q z = absurd (true_false (sym q))
    over mode.Mend (want.OpenToMend g) q z = absurd z
    over mode.Mend _ q z = absurd (true_false (sym q))
    over mode.Make (want.Make g kd sites) q z = absurd z
    over mode.Make _ q z = absurd (true_false (sym q))

-- ---- what a call asks ----

-- where all that calls were answered stands
module _ (c : Config) (t : List Line) (h : IsFollowed c t) (heard : (d : CallId) → IsNamed (entries t) d → Heard c t d) where
  abbrev Known : FileId → Kind → Type 0
  Known f k = IsKnown c t f k

  -- after the first of the answers that it has taken
  asks_after : (d : CallId) (w : Waiting) (b : Beginning) → call_named (entries t) d ≡ Some w → begun (entries t) d ≡ Some b → (xs ys : List Answer) → log t d ≡ xs ++ ys → AsksBy Known w.words b (script c (entries t) d None xs)
  asks_after d w b named starts xs ys same = subst (AsksBy Known w.words b) (sym (script_by c t d w b None xs named starts))
      (wants_so (IsAnswered c t d) Known (λ at component ino k q. named_known c t at.group ino k q) (roots_known c t) (λ r a q. q) c.mounts (is_packed_in c (entries t) w.epoch) None w.words b xs
      (along_same (IsAnswered c t d) (script c (entries t) d None) (wants c.mounts (is_packed_in c (entries t) w.epoch) None w.words b) (λ zs. script_by c t d w b None zs named starts) xs
      (along_front (IsAnswered c t d) (script c (entries t) d None) xs ys (subst (Along (IsAnswered c t d) (script c (entries t) d None)) same (heard d (w, named)).taken))))

  pub asks_now : (d : CallId) (w : Waiting) (b : Beginning) → call_named (entries t) d ≡ Some w → begun (entries t) d ≡ Some b → (v : Want) → script c (entries t) d None (log t d) ≡ v → AsksBy Known w.words b v
  asks_now d w b named starts v asked = subst (AsksBy Known w.words b) asked (asks_after d w b named starts (log t d) [] (sym (append-nil (log t d))))

  -- what was granted to a call was asked as an open, after some of the answers that it has taken
  module _ (e : EpochId) (i : Serial) (y : Instance) (found : instance_now c t e i ≡ Some y) where
    abbrev g : CallId
    g = y.grant.call

    granted : granted_to (entries t) e i ≡ Some g
    granted = open_grant c t h e (granted_group (entries t) e i) i y found

    by : GrantIs t e i g
    by = granted_is c t h e i g granted

    so : IsGrantedSo t e y.grant × (y.grant.inst ≡ i)
    so = instance_granted c t e i y found

    placed : Placed c t g (GrantedSo y.grant.mode y.grant.file y.grant.inst)
    placed = granted_placed c t h e g so.0.request y.grant.inst y.grant.mode y.grant.file so.0.stamp y.grant.ss so.0.was_granted

    started : Began t g by.inside.accepted
    started = began t g by.inside.accepted by.inside.named

    abbrev first : Beginning
    first = beginning started.table by.inside.accepted.epoch g by.inside.accepted.words

    opened : AsksBy Known by.inside.accepted.words first placed.asked
    opened = over placed.place
      where
        over : IsPlaced c g placed.before placed.given t → AsksBy Known by.inside.accepted.words first placed.asked
        over (inl p) = subst (AsksBy Known by.inside.accepted.words first) placed.script_is (asks_after g by.inside.accepted first by.inside.named started.begun_is placed.before [] (p.0 ∙ sym (append-nil placed.before)))
        over (inr p) = subst (AsksBy Known by.inside.accepted.words first) placed.script_is (asks_after g by.inside.accepted first by.inside.named started.begun_is placed.before (placed.given ∷ p.0) p.1)

    asked_open : is_open_want placed.asked ≡ true
    asked_open = opens_want y.grant.mode y.grant.file placed.asked placed.fits.0

    -- whom it was granted to walks, or was granted it to read
    walks : (b : Beginning) → first ≡ b → (b ≡ begins.Walks g) ⊎ (is_read y.grant.mode ≡ true)
    walks (begins.Walks x) q = inl (ap begins.Walks (walks_own started.table by.inside.accepted.epoch g by.inside.accepted.words x q))
    walks (begins.Reopens kept last) q = inr (rereader_reads y.grant.mode y.grant.file placed.asked placed.fits.0 (subst (λ (b : Beginning). AsksBy Known by.inside.accepted.words b placed.asked) q opened))
    walks begins.Frees q = absurd (denied_opens placed.asked asked_open (subst (λ (b : Beginning). AsksBy Known by.inside.accepted.words b placed.asked) q opened))
    walks (begins.Uses at j) q = absurd (user_opens placed.asked asked_open (subst (λ (b : Beginning). AsksBy Known by.inside.accepted.words b placed.asked) q opened))
    walks (begins.Denied why) q = absurd (denied_opens placed.asked asked_open (subst (λ (b : Beginning). AsksBy Known by.inside.accepted.words b placed.asked) q opened))

    -- where a descriptor has named it, it is of a file that is no directory, or only to be read
    named_plain : has_named (entries t) g ≡ true → IsPlain c t y.grant.file ⊎ (is_read y.grant.mode ≡ true)
    named_plain has = over (walks first refl) (named_begins c t h e i g by.inside.accepted granted by.inside.named has)
      where
        over : (first ≡ begins.Walks g) ⊎ (is_read y.grant.mode ≡ true) → Opens by.inside.accepted.words ⊎ RereadsIn t g by.inside.accepted.words → IsPlain c t y.grant.file ⊎ (is_read y.grant.mode ≡ true)
        over (inr reads) n = inr reads
        over (inl w) (inl opens) = inl (opener_opens Known by.inside.accepted.words opens y.grant.mode y.grant.file placed.asked placed.fits.0 (subst (λ (b : Beginning). AsksBy Known by.inside.accepted.words b placed.asked) w opened))
        over (inl w) (inr again) = absurd (walks_again g again.2.kept again.2.last (sym w ∙ (some_same first again.0 (sym started.begun_is ∙ again.1) ∙ again.2.begins_are)))

    owned : (n : ℕ) (d : CallId) → call_of_act (entries t) e i n ≡ Some d → (b : Bool) → has_named (entries t) g ≡ b → cond b (use_number (uses_of (entries t) e i) n) (Some g) ≡ Some d
    owned n d owner b k = ap (λ (z : Bool). cond z (use_number (uses_of (entries t) e i) n) (Some g)) (sym k) ∙ (sym (ap (unless_named (entries t) (use_number (uses_of (entries t) e i) n)) granted) ∙ owner)

    abbrev IsActer : CallId → Type 0
    IsActer d = ((d ≡ g) × (begun (entries t) d ≡ Some (begins.Walks d))) ⊎ (((begun (entries t) d ≡ Some (begins.Uses e i)) × IsPlain c t y.grant.file) ⊎ (is_read y.grant.mode ≡ true))

    -- who does an operation is whom it was granted to, or uses its descriptor, or it was granted only to be read
    pub acter_is : (n : ℕ) (d : CallId) (o : Op) → call_of_act (entries t) e i n ≡ Some d → Asks c t d (want.Do i o) → IsActer d
    acter_is n d o owner asks = over (has_named (entries t) g) refl
      where
        plain : begun (entries t) d ≡ Some (begins.Uses e i) → IsPlain c t y.grant.file ⊎ (is_read y.grant.mode ≡ true) → IsActer d
        plain b (inl p) = inr (inl (b, p))
        plain b (inr reads) = inr (inr reads)

        used : has_named (entries t) g ≡ true → IsUser (entries t) e i d → (granted_to (entries t) e i ≡ Some d) ⊎ (begun (entries t) d ≡ Some (begins.Uses e i)) → IsActer d
        used has u (inl own) = absurd (true_false (sym (subst (λ (z : CallId). has_named (entries t) z ≡ true) (some_same u.for.granted d (sym u.for.is_granted ∙ own)) u.for.answered) ∙ asker_unnamed c t d h (asking c t d (want.Do i o) asks)))
        used has u (inr b) = plain b (named_plain has)

        over : (b : Bool) → has_named (entries t) g ≡ b → IsActer d
        over false k = own (walks first refl)
          where
            same : g ≡ d
            same = some_same g d (owned n d owner false k)

            own : (first ≡ begins.Walks g) ⊎ (is_read y.grant.mode ≡ true) → IsActer d
            own (inl w) = inl (sym same, subst (λ (z : CallId). begun (entries t) z ≡ Some (begins.Walks z)) same (started.begun_is ∙ ap Some w))
            own (inr reads) = inr (inr reads)
        over true k = (let u : IsUser (entries t) e i d = numbered_every (IsUser (entries t) e i) (uses_of (entries t) e i) n d (are_users c t h e i).uses (owned n d owner true k) in
            used k u (comes_from c t h e d i u.inside (op_had c t d i o h (u.inside.accepted, u.inside.named) asks.asked)))

  -- ---- operations ----

  module _ (e : EpochId) (i : Serial) (n : ℕ) (o : Op) (r : Outcome) (may : MayTell c t (Shown (says.Act e i n o r))) (y : Instance) (found : instance_now c t e i ≡ Some y) where
    abbrev d : CallId
    d = may.in_time.call

    inside : IsCallIn (entries t) e d
    inside = acter_in c t e i n o r may

    asks : Asks c t d (want.Do i o)
    asks = may.in_time.asks

    -- what is only read isn't changed
    unread : changes o ≡ true → is_read y.grant.mode ≡ true → ⊥
    unread change reads = true_false (sym reads ∙ changed_open c t h e d i o y inside asks change found)

    -- what is written or cut
    pub changed_plain : changes o ≡ true → ((words : Call) → WalkerAsks Known words (want.Do i o) → ⊥) → IsPlain c t y.grant.file
    changed_plain change none = over (acter_is e i y found n d o may.in_time.owner asks)
      where
        over : IsActer e i y found d → IsPlain c t y.grant.file
        over (inl k) = absurd (none inside.accepted.words (asks_now d inside.accepted (begins.Walks d) inside.named k.1 (want.Do i o) asks.asked))
        over (inr (inl k)) = k.1
        over (inr (inr reads)) = absurd (unread change reads)

    -- what a call writes that walks is what it has made
    module _ (at : ℕ) (bytes : List ℕ) (is : o ≡ op.Write at bytes) (own : d ≡ y.grant.call) (walks : begun (entries t) d ≡ Some (begins.Walks d)) where
      abbrev goes : Script
      goes = wants c.mounts (is_packed_in c (entries t) inside.accepted.epoch) None inside.accepted.words (begins.Walks d)

      goes_by : (xs : List Answer) → script c (entries t) d None xs ≡ goes xs
      goes_by xs = script_by c t d inside.accepted (begins.Walks d) None xs inside.named walks

      asked : script c (entries t) d None (log t d) ≡ want.Do i (op.Write at bytes)
      asked = asks.asked ∙ ap (λ (p : Op). want.Do i p) is

      writing : Writing inside.accepted.words goes (log t d) i
      writing = wants_writing c.mounts (is_packed_in c (entries t) inside.accepted.epoch) None d inside.accepted.words i at bytes (log t d) (sym (goes_by (log t d)) ∙ asked)

      answered : Along (IsAnswered c t d) goes (writing.before ++ answer.Opened i writing.number ∷ [])
      answered = subst (Along (IsAnswered c t d) goes) writing.answers_are (along_same (IsAnswered c t d) (script c (entries t) d None) goes goes_by (log t d) (heard d (inside.accepted, inside.named)).taken)

      was_made : WasMade t d writing.group i writing.number
      was_made = over writing.makes (along_at (IsAnswered c t d) goes writing.before (answer.Opened i writing.number) [] answered)
        where
          over : IsOr (goes writing.before) (want.Make writing.group kind.File writing.sites) → IsAnswered c t d (goes writing.before) (answer.Opened i writing.number) → WasMade t d writing.group i writing.number
          over (inl q) z = subst (λ (w : Want). IsAnswered c t d w (answer.Opened i writing.number)) q z
          over (inr q) z = absurd (subst (λ (w : Want). IsAnswered c t d w (answer.Opened i writing.number)) q z)

      granted_so : WasGranted t e d was_made.request i mode.Make (record { group = writing.group; ino = writing.number }) was_made.stamp was_made.ss
      granted_so = subst (λ (z : EpochId). WasGranted t z d was_made.request i mode.Make (record { group = writing.group; ino = writing.number }) was_made.stamp was_made.ss) (one_epoch t was_made.epoch e d was_made.inside inside) was_made.was_granted

      written_made : MakesMessage t y.grant
      written_made = record {
        mode_is = (open_is c t h e d was_made.request i mode.Make (record { group = writing.group; ino = writing.number }) was_made.stamp was_made.ss y granted_so found).0;
        caller = inside.accepted;
        named = subst (λ (z : CallId). call_named (entries t) z ≡ Some inside.accepted) own inside.named;
        mails = asks_now d inside.accepted (begins.Walks d) inside.named walks (want.Do i (op.Write at bytes)) asked;
      }

    -- what is written is of a descriptor, or a message that the call has made
    pub written_plain : (at : ℕ) (bytes : List ℕ) → o ≡ op.Write at bytes → IsPlain c t y.grant.file ⊎ MakesMessage t y.grant
    written_plain at bytes is = over (acter_is e i y found n d o may.in_time.owner asks)
      where
        over : IsActer e i y found d → IsPlain c t y.grant.file ⊎ MakesMessage t y.grant
        over (inl k) = inr (written_made at bytes is k.0 k.1)
        over (inr (inl k)) = inl k.1
        over (inr (inr reads)) = absurd (unread (ap changes is) reads)

  -- who inserts an entry has made what it names
  module _ (packs : PacksAreOfSites c) (e : EpochId) (d : CallId) (inside : IsCallIn (entries t) e d) (i : Serial) (name : List ℕ) (ino : ℕ) (k : Kind) (asks : Asks c t d (want.Do i (op.Insert name ino k))) (y : Instance) (found : instance_now c t e i ≡ Some y) where
    owned_by : granted_to (entries t) e i ≡ Some d
    owned_by = over (comes_from c t h e d i inside (op_had c t d i (op.Insert name ino k) h (inside.accepted, inside.named) asks.asked))
      where
        over : (granted_to (entries t) e i ≡ Some d) ⊎ (begun (entries t) d ≡ Some (begins.Uses e i)) → granted_to (entries t) e i ≡ Some d
        over (inl q) = q
        over (inr q) = absurd (asks_now d inside.accepted (begins.Uses e i) inside.named q (want.Do i (op.Insert name ino k)) asks.asked)

    opener : y.grant.call ≡ d
    opener = some_same y.grant.call d (sym (granted e i y found) ∙ owned_by)

    began_so : Began t d inside.accepted
    began_so = began t d inside.accepted inside.named

    abbrev b : Beginning
    b = beginning began_so.table inside.accepted.epoch d inside.accepted.words

    abbrev its : Script
    its = wants c.mounts (is_packed_in c (entries t) inside.accepted.epoch) None inside.accepted.words b

    by_words : (xs : List Answer) → script c (entries t) d None xs ≡ its xs
    by_words xs = script_by c t d inside.accepted b None xs inside.named began_so.begun_is

    m : Inserting inside.accepted.words its (log t d) ino k
    m = wants_inserting c.mounts (is_packed_in c (entries t) inside.accepted.epoch) None inside.accepted.words b i name ino k (log t d) (sym (by_words (log t d)) ∙ asks.asked)

    taken : Along (IsAnswered c t d) its (m.before ++ answer.Opened m.made ino ∷ (m.wrote ++ answer.Ended m.stamp ∷ []))
    taken = subst (Along (IsAnswered c t d) its) m.answers_are (along_same (IsAnswered c t d) (script c (entries t) d None) its by_words (log t d) (heard d (inside.accepted, inside.named)).taken)

    made : WasMade t d m.group m.made ino
    made = over m.makes (along_at (IsAnswered c t d) its m.before (answer.Opened m.made ino) (m.wrote ++ answer.Ended m.stamp ∷ []) taken)
      where
        over : IsOr (its m.before) (want.Make m.group k m.sites) → IsAnswered c t d (its m.before) (answer.Opened m.made ino) → WasMade t d m.group m.made ino
        over (inl q) z = subst (λ (w : Want). IsAnswered c t d w (answer.Opened m.made ino)) q z
        over (inr q) z = absurd (subst (λ (w : Want). IsAnswered c t d w (answer.Opened m.made ino)) q z)

    ended : WasEnded t d m.made
    ended = subst (λ (w : Want). IsAnswered c t d w (answer.Ended m.stamp)) m.closes
        (along_at (IsAnswered c t d) its (m.before ++ answer.Opened m.made ino ∷ m.wrote) (answer.Ended m.stamp) [] (subst (Along (IsAnswered c t d) its) (sym (append_assoc m.before (answer.Opened m.made ino ∷ m.wrote) (answer.Ended m.stamp ∷ []))) taken))

    group_is : y.grant.file.group ≡ m.group
    group_is = opens_group m.group y.grant.mode y.grant.file p.asked p.fits.0 (subst (OpensIn m.group) (sym (by_words p.before) ∙ p.script_is) (along_at (λ w a. OpensIn m.group w) its p.before p.given p.after (subst (Along (λ w a. OpensIn m.group w) its) p.log_is m.in_group)))
      where
        p : Taken c t d (GrantedSo y.grant.mode y.grant.file y.grant.inst)
        p = taken_so c t d (GrantedSo y.grant.mode y.grant.file y.grant.inst) asks.nothing_waits (subst (λ (z : CallId). Placed c t z (GrantedSo y.grant.mode y.grant.file y.grant.inst)) opener (placed e i y found))

    -- it stands, of the kind that is said
    pub inserted_named : NamesFile c t y.grant.file.group ino k
    inserted_named = subst (λ (g : ℕ). NamesFile c t g ino k) (sym group_is) (made_named c packs t h d m.group m.made ino made ended inside.accepted inside.named k m.kind_is)

    -- and the call was the first to commit it
    pub inserted_first : first_call c (entries t) (record { group = y.grant.file.group; ino = ino }) ≡ Some d
    inserted_first = subst (λ (g : ℕ). first_call c (entries t) (record { group = g; ino = ino }) ≡ Some d) (sym group_is) (made_first c packs t h d m.group m.made ino made ended)
