-- Along the trace: each content of a directory, of a version and of an open instance, names files that stand.
use Rattle.std.proofs.Common.{◌≡◌, ℕ, ◌+◌, ◌-◌, ◌==◌, Bool, true, false, ◌&&◌, cond, List, [], ◌∷◌, ◌++◌, filter, map, take, Option, None, Some, refl, sym, ◌∙◌, ap, subst, ◌⊎◌, inl, inr}
use Rattle.std.specs.List.{AllByRecursion, find}
use Rattle.role_steps.proofs.of_plain_facts.Options.{none_some, some_same}
use Rattle.role_steps.proofs.of_plain_facts.Tests.{and_first}
use Rattle.locus_ids.specs.declared.config.Config.{Config}
use Rattle.locus_ids.specs.declared.ids.CallId.{CallId}
use Rattle.locus_ids.specs.declared.ids.EpochId.{EpochId}
use Rattle.locus_ids.specs.declared.ids.FileId.{FileId}
use Rattle.locus_ids.specs.declared.ids.Kind.{Kind}
use Rattle.locus_ids.specs.declared.ids.Kind.TheVariants as kind
use Rattle.locus_ids.specs.declared.ids.Mode.{Mode}
use Rattle.locus_ids.specs.declared.ids.Mode.TheVariants as mode
use Rattle.locus_ids.specs.declared.ids.Serial.{Serial}
use Rattle.locus_ids.specs.declared.ids.Stamp.{Stamp}
use Rattle.locus_ids.specs.declared.refusal.Refusal.{Refusal}
use Rattle.locus_ids.specs.declared.refusal.Refusal.TheVariants as refusal
use Rattle.locus_ids.specs.declared.sites.Sites.{Sites}
use Rattle.commit_graph.specs.Versions.{content_of, is_version, same_file}
use Rattle.commit_graph.specs.declared.history.Version.{Version}
use Rattle.trace_book.specs.Same.{same_epoch}
use Rattle.trace_book.specs.declared.descriptor.Beginning.{Beginning}
use Rattle.trace_book.specs.declared.descriptor.Beginning.TheVariants as begins
use Rattle.trace_book.specs.declared.operation.Op.{Op}
use Rattle.trace_book.specs.declared.operation.Op.TheVariants as op
use Rattle.trace_book.specs.declared.operation.Outcome.{Outcome}
use Rattle.trace_book.specs.declared.operation.Served.{Served}
use Rattle.trace_book.specs.declared.operation.Served.TheVariants as served
use Rattle.trace_book.specs.declared.operation.What.{What}
use Rattle.trace_book.specs.declared.operation.What.TheVariants as what
use Rattle.trace_book.specs.declared.record.Record.{Record}
use Rattle.trace_book.specs.declared.record.Record.TheVariants as says
use Rattle.dir_format.specs.declared.entry.Entry.{Entry}
use Rattle.dir_format.specs.declared.looking.LookResult.{LookResult}
use Rattle.dir_format.specs.declared.looking.LookResult.TheVariants as look
use Rattle.dir_format.specs.Contents.{entries_of}
use Rattle.dir_format.specs.Entries.{IsDir}
use Rattle.dir_format.specs.Lookups.{is_meant, look_among, lookup}
use Rattle.file_effects.specs.Effects.{Deed, Effect, Mends, is_refusal}
use Rattle.file_effects.specs.Works.{carried_out, counted}
use Rattle.call_rules.specs.Descriptors.{beginning}
use Rattle.call_rules.specs.declared.answer.Answer.{Answer}
use Rattle.call_rules.specs.declared.answer.Answer.TheVariants as answer
use Rattle.call_rules.specs.declared.want.Want.{Want}
use Rattle.call_rules.specs.declared.want.Want.TheVariants as want
use Rattle.wire_messages.specs.declared.body.Opening.{Opening}
use Rattle.role_steps.specs.Opens.{mode_of}
use Rattle.role_steps.specs.Own.{Every}
use Rattle.role_steps.specs.Views.{Told, Shown}
use Rattle.the_run.specs.Worlds.{Line}
use Rattle.tree_model.specs.declared.instance.Instance.{Instance}
use Rattle.tree_model.specs.Files.{first_call, kind_of_file}
use Rattle.tree_model.specs.Folds.{Trace}
use Rattle.tree_model.specs.Histories.{format_version, format_versions, history, history_after, stamped_content}
use Rattle.tree_model.specs.Lists.{change_first}
use Rattle.tree_model.specs.Mending.{joined_all, joined_content, kept_vectors}
use Rattle.tree_model.specs.Opening.{is_given_by}
use Rattle.tree_model.specs.State.{TreeState, instance_in, is_granted_here, is_inside, is_make, is_named, is_writer, kept_of}
use Rattle.tree_model.specs.Tree.{acted, grant_of, joined, kept_in, left, next, once_acted, once_committed, opened, released, tree_of, without_make}
use Rattle.tree_model.specs.Working.{are_several, deed_of, effect_of, effect_on, is_target, operated_by, sees, work_after}
use Rattle.lawful_trace.specs.Progress.{close_answer, entered, granted_answer, look_answer, outcome_answer}
use Rattle.lawful_trace.specs.Tables.{call_of_act, call_of_release}
use Rattle.lawful_trace.specs.TreeRows.{IsCallIn, MayCommit, granted_group, is_writing}
use Rattle.tree_laws.specs.Calls.{Waits, heard, log}
use Rattle.tree_laws.specs.Following.{IsFollowed, MayTell}
use Rattle.tree_laws.specs.Instances.{IsOpening, instance_now}
use Rattle.tree_laws.specs.Printed.{entries, onto_entries}
use Rattle.tree_laws.specs.Serials.{asked_now}
use Rattle.tree_laws.proofs.Asking.{StepRecord}
use Rattle.tree_laws.proofs.Awaiting.{by_own, by_owner, last_same}
use Rattle.tree_laws.proofs.Boots.{every_passes}
use Rattle.tree_laws.proofs.Fresh.{IsNamed}
use Rattle.tree_laws.proofs.Kinship.{tree_epoch_is}
use Rattle.tree_laws.proofs.Owing.{InGroup, found_every, in_group}
use Rattle.tree_laws.proofs.Names.{same_epoch_eq}
use Rattle.tree_laws.proofs.Scripts.{in_stays}
use Rattle.tree_laws.specs.Orders.Joining.{PacksAreOfSites}
use Rattle.tree_laws.proofs.Orders.Keeping.{file_eq}
use Rattle.tree_laws.proofs.Orders.Lists.{all_filtered, all_more, all_then, all_without}
use Rattle.tree_laws.proofs.Orders.Standing.{newest, same_file_eq}
use Rattle.store_laws.proofs.Holdings.Distinct.{open_now}
use Rattle.store_laws.proofs.Holdings.Made.{filter_one}
use Rattle.store_laws.proofs.Holdings.OneVersionFirsts.{MakesFirst, commit_called, makes_first}
use Rattle.store_laws.proofs.Holdings.Turning.{all_passing}
use Rattle.store_laws.proofs.AnswerAnswering.{acter_in, releaser_in}
use Rattle.store_laws.proofs.ScriptFitted.{Began, began}
use Rattle.rest_laws.specs.Fits.EntryEntries.{EntriesName, IsEntered, MakesMessage}
use Rattle.rest_laws.proofs.Fits.EntryActing.{asks_now, changed_plain, inserted_named, written_plain}
use Rattle.rest_laws.proofs.Fits.EntryContents.{AllNamed, MayDo, content_dir, effect_named, joined_two, rescued_written}
use Rattle.rest_laws.proofs.Fits.EntryFacts.{IsAnswered, IsKnown, IsPlain, IsSound, LookAnswered, MakeAnswered, SoundAt, WasEnded, With, dir_sound, makes_stay, message_kind, named_stays, plain_stays, sound_at_stays, sound_stays}
use Rattle.rest_laws.proofs.Fits.EntryHeard.{Heard, told_heard}
use Rattle.rest_laws.proofs.Fits.EntryWalking.{AsksBy}

-- ---- what holds of a trace ----

-- of each version and each open instance the content is one of a file, or names files that stand; and so do the answers of calls
pub record AllNamedSo (c : Config) (t : List Line) : Type 0 where
  pub versions : (f : FileId) (s : Stamp) → IsSound c t f (content_of (history c (entries t)) f s)
  pub instances : (e : EpochId) (g : ℕ) → AllByRecursion (SoundAt c t) (tree_of c e g (entries t)).instances
  pub calls : (d : CallId) → IsNamed (entries t) d → Heard c t d

-- ---- mends ----

-- two kinds of one file are one
pub one_kind : (c : Config) (t : List Line) (group ino : ℕ) (a b : Kind) → IsEntered c t group ino a → IsEntered c t group ino b → a ≡ b
one_kind c t group ino a b m n = m.file.kind_is ∙ sym n.file.kind_is

-- the join of contents of a file's versions
module _ (c : Config) (t : List Line) (h : List Version) (f : FileId) (sound : (s : Stamp) → IsSound c t f (content_of h f s)) where
  abbrev Names : ℕ → Kind → Type 0
  Names ino k = IsEntered c t f.group ino k

  abbrev entries_at : Stamp → List Entry
  entries_at s = entries_of (content_of h f s)

  pub joined_so : (ss : List Stamp) → IsPlain c t f ⊎ (IsDir (joined_all (map entries_at ss)) × AllNamed Names (joined_all (map entries_at ss)))
  joined_so [] = inr (record { entries = tt; order = tt; kinds = tt }, tt)
  joined_so (s ∷ ss) = over (sound s) (joined_so ss)
    where
      over : IsSound c t f (content_of h f s) → IsPlain c t f ⊎ (IsDir (joined_all (map entries_at ss)) × AllNamed Names (joined_all (map entries_at ss))) → IsPlain c t f ⊎ (IsDir (joined_all (map entries_at (s ∷ ss))) × AllNamed Names (joined_all (map entries_at (s ∷ ss))))
      over (inl p) k = inl p
      over (inr n) (inl p) = inl p
      over (inr n) (inr k) = inr (joined_two Names (one_kind c t f.group) (entries_at s) (joined_all (map entries_at ss)) (content_dir (content_of h f s)) k.0 n k.1)

  pub joined_sound : (u : TreeState) → IsSound c t f (joined_content h u f)
  joined_sound u = over (joined_so (kept_of h u f))
    where
      over : IsPlain c t f ⊎ (IsDir (joined_all (map entries_at (kept_of h u f))) × AllNamed Names (joined_all (map entries_at (kept_of h u f)))) → IsSound c t f (joined_content h u f)
      over (inl p) = inl p
      over (inr k) = inr (rescued_written Names (joined_all (map entries_at (kept_of h u f))) (kept_vectors h u) k.0 k.1)

-- ---- operations ----

-- what an operation may do on an instance: an insert names a file that stands, and what is written or cut is no directory
abbrev ActsRightly : Config → List Line → FileId → Op → Type 0
ActsRightly c t f (op.Insert name ino k) = IsEntered c t f.group ino k
ActsRightly c t f (op.Write at bytes) = IsPlain c t f
ActsRightly c t f (op.Cut len) = IsPlain c t f
ActsRightly c t f _ = Unit {0}

-- by the versions of a history
module _ (c : Config) (t : List Line) (h : List Version) (versions : (f : FileId) (s : Stamp) → IsSound c t f (content_of h f s)) where
  abbrev Sound : Instance → Type 0
  Sound x = IsSound c t x.grant.file x.work.content

  module _ (u : TreeState) (x : Instance) where
    abbrev ByName : ℕ → Kind → Type 0
    ByName ino k = IsEntered c t x.grant.file.group ino k

    -- a deed on what names files that stand
    deed_named : EntriesName c t x.grant.file.group x.work.content → (o : Op) → ActsRightly c t x.grant.file o → IsPlain c t x.grant.file ⊎ ((d : Deed) → deed_of h u o x ≡ Some d → MayDo ByName d)
    deed_named k (op.Insert name ino kd) right = inr (λ d q. subst (MayDo ByName) (some_same _ d q) right)
    deed_named k (op.Write at bytes) right = inl right
    deed_named k (op.Cut len) right = inl right
    deed_named k (op.Remove name ino) right = inr (λ d q. removes (find (is_target x.grant.call ino) u.instances) d q)
      where
        removes : (y : Option Instance) (d : Deed) → sees h name ino y ≡ Some d → MayDo ByName d
        removes None d q = absurd (none_some d q)
        removes (Some y) d q = last y.work.last q
          where
            last : (s : Option Stamp) → sees h name ino (Some (record y { work = record y.work { last = s } })) ≡ Some d → MayDo ByName d
            last None e = absurd (none_some d e)
            last (Some s) e = subst (MayDo ByName) (some_same _ d e) tt
    deed_named k op.Mend right = over (joined_sound c t h x.grant.file (versions x.grant.file) u)
      where
        over : IsSound c t x.grant.file (joined_content h u x.grant.file) → IsPlain c t x.grant.file ⊎ ((d : Deed) → deed_of h u op.Mend x ≡ Some d → MayDo ByName d)
        over (inl p) = inl p
        over (inr n) = inr (λ d q. subst (MayDo ByName) (some_same (Mends (are_several (kept_of h u x.grant.file)) (joined_content h u x.grant.file)) d q) n)
    deed_named k _ right = inr (λ d q. subst (MayDo ByName) (some_same _ d q) tt)

    operated_sound : (result : Outcome) (o : Option Effect) → ((e : Effect) → o ≡ Some e → EntriesName c t x.grant.file.group e.content) → EntriesName c t x.grant.file.group x.work.content → EntriesName c t x.grant.file.group (operated_by result o x.work).content
    operated_sound result None each k = k
    operated_sound result (Some e) each k = over (is_refusal result)
      where
        over : (b : Bool) → EntriesName c t x.grant.file.group (cond b (counted x.work) (carried_out e x.work)).content
        over true = k
        over false = each e refl

    deed_sound : (d : Option Deed) → ((y : Deed) → d ≡ Some y → MayDo ByName y) → EntriesName c t x.grant.file.group x.work.content → (e : Effect) → effect_of d x.work.content ≡ Some e → EntriesName c t x.grant.file.group e.content
    deed_sound None may k e q = absurd (none_some e q)
    deed_sound (Some d) may k e q = effect_named ByName x.work.content k d (may d refl) e q

    acts_sound : (o : Op) (result : Outcome) → ActsRightly c t x.grant.file o → Sound x → IsSound c t x.grant.file (operated_by result (effect_on h u o x) x.work).content
    acts_sound o result right (inl p) = inl p
    acts_sound o result right (inr k) = over (deed_named k o right)
      where
        over : IsPlain c t x.grant.file ⊎ ((d : Deed) → deed_of h u o x ≡ Some d → MayDo ByName d) → IsSound c t x.grant.file (operated_by result (effect_on h u o x) x.work).content
        over (inl p) = inl p
        over (inr may) = inr (operated_sound result (effect_on h u o x) (λ e q. deed_sound (deed_of h u o x) may k e q) k)

    stamped_sound : (f : FileId) (o : Option Stamp) → IsSound c t f (stamped_content h f o)
    stamped_sound f None = inr tt
    stamped_sound f (Some s) = versions f s

    after_sound : (o : Op) (result : Outcome) → ActsRightly c t x.grant.file o → Sound x → IsSound c t x.grant.file (work_after h u o result x).content
    after_sound op.Commit result right k = k
    after_sound op.Abort result right k = stamped_sound x.grant.file x.work.last
    after_sound op.Mend result right k = acts_sound op.Mend result right k
    after_sound (op.Probe name) result right k = acts_sound (op.Probe name) result right k
    after_sound (op.Find component) result right k = acts_sound (op.Find component) result right k
    after_sound (op.Insert name ino kd) result right k = acts_sound (op.Insert name ino kd) result right k
    after_sound (op.Remove name ino) result right k = acts_sound (op.Remove name ino) result right k
    after_sound (op.Rename component name) result right k = acts_sound (op.Rename component name) result right k
    after_sound op.Empty result right k = acts_sound op.Empty result right k
    after_sound (op.Read at len) result right k = acts_sound (op.Read at len) result right k
    after_sound (op.Write at bytes) result right k = acts_sound (op.Write at bytes) result right k
    after_sound (op.Cut len) result right k = acts_sound (op.Cut len) result right k

    -- and what is being made may be written
    after_so : (o : Op) (result : Outcome) → ActsRightly c t x.grant.file o ⊎ MakesMessage t x.grant → SoundAt c t x → SoundAt c t (record x { work = work_after h u o result x })
    after_so o result (inl right) (inl k) = inl (after_sound o result right k)
    after_so o result (inl right) (inr m) = inr m
    after_so o result (inr m) k = inr m

-- ---- one record ----

-- what a component finds is named by an entry
found_named : (N : ℕ → Kind → Type 0) (ds : List Entry) (component : List ℕ) (ino : ℕ) (k : Kind) → AllNamed N ds → lookup ds component ≡ look.Found ino k → N ino k
found_named N ds component ino k all = over (filter (is_meant component) ds) (all_filtered (λ (d : Entry). N d.ino d.kind) (is_meant component) ds all)
  where
    absent : look.Absent ≡ look.Found ino k → ⊥
    absent e = cc

    several : (a b : ℕ) → look.Ambiguous a b ≡ look.Found ino k → ⊥
    several a b e = cc

    number : (m : ℕ) (j : Kind) → look.Found m j ≡ look.Found ino k → m ≡ ino
    number m j e = cc

    kind_is : (m : ℕ) (j : Kind) → look.Found m j ≡ look.Found ino k → j ≡ k
    kind_is m j e = cc

    over : (xs : List Entry) → AllNamed N xs → look_among xs ≡ look.Found ino k → N ino k
    over [] n e = absurd (absent e)
    over (d ∷ []) n e = subst (N ino) (kind_is d.ino d.kind e) (subst (λ (m : ℕ). N m d.kind) (number d.ino d.kind e) n.0)
    over (d ∷ f ∷ fs) n e = absurd (several d.ino f.ino e)

module _ (c : Config) (packs : PacksAreOfSites c) (older : List Line) (followed : IsFollowed c older) (so : AllNamedSo c older) (n : ℕ) where
  abbrev before : Trace
  before = entries older

  abbrev past : List Version
  past = history c before

  abbrev Old : Instance → Type 0
  Old x = SoundAt c older x

  abbrev New : Record → Instance → Type 0
  New r x = SoundAt c (With n (Shown r) older) x

  later : (r : Record) → MayTell c older (Shown r) → (x : Instance) → Old x → New r x
  later r may x k = sound_at_stays c n (Shown r) older followed may x k

  -- ---- versions ----

  old_versions : (r : Record) → MayTell c older (Shown r) → (f : FileId) (s : Stamp) → IsSound c (With n (Shown r) older) f (content_of past f s)
  old_versions r may f s = sound_stays c n (Shown r) older followed may f (content_of past f s) (so.versions f s)

  module _ (f : FileId) (z : ℕ) (stamp : Stamp) (parents : List Stamp) (content : List ℕ) (may : MayTell c older (Shown (says.Commit f z stamp parents content))) where
    abbrev r : Record
    r = says.Commit f z stamp parents content

    abbrev row : MayCommit c before f z stamp parents content
    row = may.row

    its : Old row.instance
    its = (subst (AllByRecursion Old) row.one (all_filtered Old (is_writing f) (tree_of c row.epoch f.group before).instances (so.instances row.epoch f.group))).0

    writes : is_writing f row.instance ≡ true
    writes = (subst (Every (λ (x : Instance). is_writing f x ≡ true)) row.one (every_passes (λ (x : Instance). is_writing f x ≡ true) (is_writing f) (λ x e. e) (tree_of c row.epoch f.group before).instances)).0

    file_is : row.instance.grant.file ≡ f
    file_is = same_file_eq row.instance.grant.file f (and_first (same_file row.instance.grant.file f) _ writes)

    -- a message stands from its first commit on, and is no directory
    pub made_plain : MakesMessage older row.instance.grant → IsPlain c (With n (Shown r) older) f
    made_plain m = record {
      stamp = stamp;
      stands = newest (record { file = f; site = z; stamp = stamp; parents = parents; content = content }) past f stamp refl refl;
      kind_is = subst (λ (g : FileId). kind_of_file c (entries (With n (Shown r) older)) g ≡ kind.File) file_is
          (message_kind c (With n (Shown r) older) row.instance.grant given (makes_stay c n (Shown r) older followed may row.instance.grant m) (inr (subst (λ (g : FileId). first_call c (entries (With n (Shown r) older)) g ≡ Some row.instance.grant.call) (sym file_is) called)));
    }
      where
        called : first_call c (entries (With n (Shown r) older)) f ≡ Some row.instance.grant.call
        called = commit_called c packs older n followed f z stamp parents content row m.mode_is

        given : is_given_by row.instance.grant.ss row.instance.grant.file.ino ≡ true
        given = (filter_one (MakesFirst c before row.epoch) (is_writing f) (tree_of c row.epoch f.group before).instances row.instance row.one (makes_first c older packs followed row.epoch f.group) m.mode_is).0

    made_sound : IsSound c (With n (Shown r) older) f content
    made_sound = over its
      where
        over : Old row.instance → IsSound c (With n (Shown r) older) f content
        over (inl k) = sound_stays c n (Shown r) older followed may f content (subst (λ (xs : List ℕ). IsSound c older f xs) (sym row.same) (subst (λ (g : FileId). IsSound c older g row.instance.work.content) file_is k))
        over (inr m) = inl (made_plain m)

    new_version : (g : FileId) (s : Stamp) → IsSound c (With n (Shown r) older) g (content_of (record { file = f; site = z; stamp = stamp; parents = parents; content = content } ∷ past) g s)
    new_version g s = over (is_version g s (record { file = f; site = z; stamp = stamp; parents = parents; content = content })) refl
      where
        over : (b : Bool) → is_version g s (record { file = f; site = z; stamp = stamp; parents = parents; content = content }) ≡ b → IsSound c (With n (Shown r) older) g (cond b content (content_of past g s))
        over true q = subst (λ (y : FileId). IsSound c (With n (Shown r) older) y content) (same_file_eq f g (and_first (same_file f g) _ q)) made_sound
        over false q = old_versions r may g s

  next_versions : (r : Record) → MayTell c older (Shown r) → (f : FileId) (s : Stamp) → IsSound c (With n (Shown r) older) f (content_of (history_after r past) f s)
  next_versions (says.Commit f z stamp parents content) may g s = new_version f z stamp parents content may g s
  next_versions r may g s = old_versions r may g s

  -- ---- open instances ----

  module _ (e : EpochId) (g : ℕ) where
    abbrev t : TreeState
    t = tree_of c e g before

    stay : (r : Record) → MayTell c older (Shown r) → AllByRecursion (New r) t.instances
    stay r may = all_then Old (New r) (λ x k. later r may x k) t.instances (so.instances e g)

    all_if : (r : Record) → MayTell c older (Shown r) → (b : Bool) (u : TreeState) → u.instances ≡ t.instances → AllByRecursion (New r) (cond b u t).instances
    all_if r may true u same = subst (AllByRecursion (New r)) (sym same) (stay r may)
    all_if r may false u same = stay r may

    -- the operation acts rightly on the instance that is named
    rightly : (d : EpochId) (i : Serial) (k : ℕ) (o : Op) (result : Outcome) → MayTell c older (Shown (says.Act d i k o result)) → d ≡ e → (x : Instance) → instance_in t i ≡ Some x → ActsRightly c (With n (Shown (says.Act d i k o result)) older) x.grant.file o ⊎ MakesMessage (With n (Shown (says.Act d i k o result)) older) x.grant
    rightly d i k (op.Insert name ino kd) result may same x found = inl (record {
      file = named_stays c n (Shown r) older followed may x.grant.file.group ino kd (inserted_named c older followed so.calls packs d may.in_time.call (acter_in c older d i k (op.Insert name ino kd) result may) i name ino kd may.in_time.asks x now);
      inserted = inl (sym (found_every (InGroup (granted_group before d i)) (is_named i) (tree_of c d (granted_group before d i) before).instances x now (in_group c d (granted_group before d i) before)), refl);
    })
      where
        r : Record
        r = says.Act d i k (op.Insert name ino kd) result

        now : instance_now c older d i ≡ Some x
        now = subst (λ (y : EpochId). instance_now c older y i ≡ Some x) (sym same) (open_now c older followed e g i x found)
    rightly d i k (op.Write at bytes) result may same x found = over (written_plain c older followed so.calls d i k (op.Write at bytes) result may x (subst (λ (y : EpochId). instance_now c older y i ≡ Some x) (sym same) (open_now c older followed e g i x found)) at bytes refl)
      where
        r : Record
        r = says.Act d i k (op.Write at bytes) result

        over : IsPlain c older x.grant.file ⊎ MakesMessage older x.grant → IsPlain c (With n (Shown r) older) x.grant.file ⊎ MakesMessage (With n (Shown r) older) x.grant
        over (inl p) = inl (plain_stays c n (Shown r) older followed may x.grant.file p)
        over (inr m) = inr (makes_stay c n (Shown r) older followed may x.grant m)
    rightly d i k (op.Cut len) result may same x found = inl (plain_stays c n (Shown (says.Act d i k (op.Cut len) result)) older followed may x.grant.file (changed_plain c older followed so.calls d i k (op.Cut len) result may x (subst (λ (y : EpochId). instance_now c older y i ≡ Some x) (sym same) (open_now c older followed e g i x found)) refl (λ words z. z)))
    rightly d i k _ result may same x found = inl tt

    -- where the one that is found becomes so, all become so
    all_first : (P Q : Instance → Type 0) (q : Instance → Bool) (change : Instance → Instance) → ((x : Instance) → P x → Q x) → (xs : List Instance) → ((x : Instance) → find q xs ≡ Some x → P x → Q (change x)) → AllByRecursion P xs → AllByRecursion Q (change_first q change xs)
    all_first P Q q change keep [] turn all = tt
    all_first P Q q change keep (x ∷ xs) turn all = over (q x) refl (all_first P Q q change keep xs)
      where
        over : (b : Bool) → q x ≡ b → (((y : Instance) → find q xs ≡ Some y → P y → Q (change y)) → AllByRecursion P xs → AllByRecursion Q (change_first q change xs)) → AllByRecursion Q (cond b (change x ∷ xs) (x ∷ change_first q change xs))
        over true s rest = (turn x (rw s refl) all.0, all_then P Q keep xs all.1)
        over false s rest = (keep x all.0, rest (λ y found k. turn y (rw s found) k) all.1)

    acts : (d : EpochId) (i : Serial) (k : ℕ) (o : Op) (result : Outcome) → MayTell c older (Shown (says.Act d i k o result)) → (b : Bool) → (same_epoch d t.epoch && is_granted_here t i) ≡ b → AllByRecursion (New (says.Act d i k o result)) (cond b (acted past i o result t) t).instances
    acts d i k o result may true q = all_first Old (New r) (is_named i) (once_acted past t o result) (λ x z. later r may x z) t.instances
        (λ x found z. after_so c (With n (Shown r) older) past (old_versions r may) t x o result (rightly d i k o result may same x found) (later r may x z)) (so.instances e g)
      where
        r : Record
        r = says.Act d i k o result

        same : d ≡ e
        same = same_epoch_eq d t.epoch (and_first (same_epoch d t.epoch) _ q) ∙ tree_epoch_is c e g before
    acts d i k o result may false q = stay (says.Act d i k o result) may

    next_instances : (r : Record) → MayTell c older (Shown r) → AllByRecursion (New r) (next past r t).instances
    next_instances (says.Grant d call request i m f stamp ss) may = over (same_epoch d t.epoch) (f.group == t.group)
      where
        r : Record
        r = says.Grant d call request i m f stamp ss

        over : (a b : Bool) → AllByRecursion (New r) (cond a (record t { grants = t.grants ++ grant_of t call i m f ss ∷ []; instances = cond b (t.instances ++ opened past (grant_of t call i m f ss) stamp ∷ []) t.instances }) t).instances
        over true true = all_more (New r) t.instances (opened past (grant_of t call i m f ss) stamp) (stay r may) (inl (sound_stays c n (Shown r) older followed may f (stamped_content past f stamp) (stamped f stamp)))
          where
            stamped : (f : FileId) (o : Option Stamp) → IsSound c older f (stamped_content past f o)
            stamped f None = inr tt
            stamped f (Some s) = so.versions f s
        over true false = stay r may
        over false b = stay r may
    next_instances (says.Join z d m) may = over (same_epoch d t.epoch)
      where
        over : (b : Bool) → AllByRecursion (New (says.Join z d m)) (cond b (joined z m t) (left z t)).instances
        over true = stay (says.Join z d m) may
        over false = stay (says.Join z d m) may
    next_instances (says.Start d k copies) may = all_if (says.Start d k copies) may (same_epoch d t.epoch && (k == t.group)) (record t { started = true }) refl
    next_instances (says.Refuse d call request i m f why) may = all_if (says.Refuse d call request i m f why) may (same_epoch d t.epoch && ((f.group == t.group) && is_make m)) (record t { makes = without_make call t.makes }) refl
    next_instances (says.Act d i k o result) may = acts d i k o result may (same_epoch d t.epoch && is_granted_here t i) refl
    next_instances (says.Commit f z stamp parents content) may = over (is_inside t z)
      where
        r : Record
        r = says.Commit f z stamp parents content

        over : (b : Bool) → AllByRecursion (New r) (cond b (change_first (is_writer f z) (once_committed stamp) t.instances) t.instances)
        over true = all_passing (New r) (New r) (is_writer f z) (once_committed stamp) (λ x k. k) (λ x q k. k) t.instances (stay r may)
        over false = stay r may
    next_instances (says.Release d i f stamp) may = over (same_epoch d t.epoch && (f.group == t.group))
      where
        r : Record
        r = says.Release d i f stamp

        over : (b : Bool) → AllByRecursion (New r) (cond b (released i f stamp t) t).instances
        over true = all_without (New r) (is_named i) t.instances (stay r may)
        over false = stay r may
    next_instances r may = stay r may

  -- ---- answers ----

  module _ (d : CallId) where
    abbrev So : Record → Want → Answer → Type 0
    So r w a = IsAnswered c (With n (Shown r) older) d w a

    -- what waits is what was told
    told_so : (r : Record) (a b : Answer) (w : Want) (xs : List Answer) → heard c (With n (Shown r) older) d ≡ xs ++ b ∷ [] → asked_now c older d ≡ w → So r w b → Waits c (With n (Shown r) older) d a → So r (asked_now c older d) a
    told_so r a b w xs is asked k waits = subst (λ (v : Want). So r v a) (sym asked) (subst (λ (y : Answer). So r w y) (sym (last_same (log older d) xs a b (sym waits ∙ is))) k)

    -- ---- looks ----

    looked_so : (e : EpochId) (call : CallId) (request : ℕ) (f : FileId) (w : What) (result : Served) (may : MayTell c older (Shown (says.Look e call request f w result))) → call ≡ d → So (says.Look e call request f w result) (want.Look f w) (look_answer c before f w result)
    looked_so e call request f w (served.No why) may same = refused f w
      where
        refused : (f : FileId) (w : What) → LookAnswered c (With n (Shown (says.Look e call request f w (served.No why))) older) f w (answer.Refused why)
        refused f (what.Name component) = tt
        refused f what.List = tt
        refused f what.Stat = tt
        refused f (what.Whole asked) = tt
    looked_so e call request f (what.Name component) (served.At stamp) may same = at (lookup (entries_of (content_of past f stamp)) component) refl
      where
        r : Record
        r = says.Look e call request f (what.Name component) (served.At stamp)

        inside : IsCallIn before e call
        inside = may.row.step

        started : Began older call inside.accepted
        started = began older call inside.accepted inside.named

        asked_by : (b : Beginning) → AsksBy (IsKnown c older) inside.accepted.words b (want.Look f (what.Name component)) → kind_of_file c before f ≡ kind.Dir
        asked_by (begins.Walks id) k = k
        asked_by (begins.Uses at i) k = absurd k
        asked_by (begins.Reopens kept last) k = absurd k
        asked_by begins.Frees k = absurd k
        asked_by (begins.Denied why) k = absurd k

        -- a component is asked of a directory
        dir : kind_of_file c before f ≡ kind.Dir
        dir = asked_by (beginning started.table inside.accepted.epoch call inside.accepted.words) (asks_now c older followed so.calls call inside.accepted (beginning started.table inside.accepted.epoch call inside.accepted.words) inside.named started.begun_is (want.Look f (what.Name component)) may.in_time.asks.asked)

        names : EntriesName c older f.group (content_of past f stamp)
        names = dir_sound c older f (content_of past f stamp) dir (so.versions f stamp)

        at : (x : LookResult) → lookup (entries_of (content_of past f stamp)) component ≡ x → So r (want.Look f (what.Name component)) (entered component x)
        at (look.Found ino k) q = named_stays c n (Shown r) older followed may f.group ino k (found_named (λ m j. IsEntered c older f.group m j) (entries_of (content_of past f stamp)) component ino k names q).file
        at look.Absent q = tt
        at (look.Ambiguous a b) q = tt
    looked_so e call request f what.List (served.At stamp) may same = tt
    looked_so e call request f what.Stat (served.At stamp) may same = tt
    looked_so e call request f (what.Whole asked) (served.At stamp) may same = tt

    -- ---- opens ----

    granted_so : (e : EpochId) (call : CallId) (request : ℕ) (i : Serial) (m : Mode) (f : FileId) (stamp : Option Stamp) (ss : ℕ) (kept : List Stamp) (may : MayTell c older (Shown (says.Grant e call request i m f stamp ss))) → call ≡ d → (w : Want) (asked : FileId) (it : Opening) → mode_of it ≡ m → f.group ≡ asked.group → IsOpening c w asked it → So (says.Grant e call request i m f stamp ss) w (granted_answer m i f stamp kept)
    granted_so e call request i m f stamp ss kept may same (want.Open file how_so) asked it is group o = tt
    granted_so e call request i m f stamp ss kept may same (want.OpenToMend file) asked it is group o = tt
    granted_so e call request i m f stamp ss kept may same (want.Make g k sites) asked it is group o = subst (λ (y : Mode). MakeAnswered (With n (Shown r) older) d g (granted_answer y i f stamp kept)) (sym made) (record {
      epoch = e;
      inside = subst (IsCallIn (entries (With n (Shown r) older)) e) same (in_stays c n (Shown r) older e call followed may may.row.opens.step);
      request = request;
      stamp = stamp;
      ss = ss;
      was_granted = inl (record { epoch_is = refl; call_is = same; request_is = refl; serial_is = refl; mode_is = made; file_is = file_eq f (record { group = g; ino = f.ino }) (group ∙ o.0) refl; stamp_is = refl; place_is = refl });
    })
      where
        r : Record
        r = says.Grant e call request i m f stamp ss

        made : m ≡ mode.Make
        made = sym is ∙ ap mode_of o.2
    granted_so e call request i m f stamp ss kept may same (want.Look file w) asked it is group o = absurd o
    granted_so e call request i m f stamp ss kept may same (want.Do j p) asked it is group o = absurd o
    granted_so e call request i m f stamp ss kept may same (want.Close j) asked it is group o = absurd o
    granted_so e call request i m f stamp ss kept may same (want.Give z) asked it is group o = absurd o
    granted_so e call request i m f stamp ss kept may same want.Never asked it is group o = absurd o

    refused_so : (t : List Line) (why : Refusal) (w : Want) (asked : FileId) (it : Opening) → IsOpening c w asked it → IsAnswered c t d w (answer.Refused why)
    refused_so t why (want.Open file how_so) asked it o = tt
    refused_so t why (want.OpenToMend file) asked it o = tt
    refused_so t why (want.Make g k sites) asked it o = tt
    refused_so t why (want.Look file w) asked it o = absurd o
    refused_so t why (want.Do j p) asked it o = absurd o
    refused_so t why (want.Close j) asked it o = absurd o
    refused_so t why (want.Give z) asked it o = absurd o
    refused_so t why want.Never asked it o = absurd o

    -- ---- closes ----

    closed_so : (t : List Line) (i : Serial) (stamp : Option Stamp) (o : Option Instance) → WasEnded t d i → IsAnswered c t d (want.Close i) (close_answer stamp o)
    closed_so t i stamp None k = k
    closed_so t i stamp (Some x) k = over x.work.owes
      where
        over : (b : Bool) → IsAnswered c t d (want.Close i) (cond b (answer.Refused refusal.Spent) (answer.Ended (cond x.work.fresh stamp None)))
        over true = tt
        over false = k

    ended_so : (e : EpochId) (i : Serial) (f : FileId) (stamp : Option Stamp) (may : MayTell c older (Shown (says.Release e i f stamp))) → may.in_time.call ≡ d → WasEnded (With n (Shown (says.Release e i f stamp)) older) d i
    ended_so e i f stamp may same = record {
      epoch = e;
      inside = subst (IsCallIn (entries (With n (Shown (says.Release e i f stamp)) older)) e) same (in_stays c n (Shown (says.Release e i f stamp)) older e may.in_time.call followed may (releaser_in c older e i f stamp may));
      was_released = inl (record { epoch_is = refl; serial_is = refl });
    }

    -- ---- each record ----

    step_so : (r : Record) → MayTell c older (Shown r) → StepRecord before r d → (a : Answer) → Waits c (With n (Shown r) older) d a → So r (asked_now c older d) a
    step_so (says.Look e call request f w result) may step a waits = told_so (says.Look e call request f w result) a (look_answer c before f w result) (want.Look f w) (take (request - 1) (heard c older d)) (by_own call d _ (heard c older d) step)
        (subst (λ (y : CallId). asked_now c older y ≡ want.Look f w) step may.in_time.asks.asked) (looked_so e call request f w result may step) waits
    step_so (says.Grant e call request i m f stamp ss) may step a waits = told_so (says.Grant e call request i m f stamp ss) a (granted_answer m i f stamp (kept_in c before e f)) may.in_time.opens.asks.wanted (heard c older d) (by_own call d _ (heard c older d) step)
        (subst (λ (y : CallId). asked_now c older y ≡ may.in_time.opens.asks.wanted) step may.in_time.opens.asks.asks.asked)
        (granted_so e call request i m f stamp ss (kept_in c before e f) may step may.in_time.opens.asks.wanted may.in_time.opens.asked may.in_time.opens.it may.in_time.opens.mode_is may.in_time.opens.group_is may.in_time.opens.asks.opening_is) waits
    step_so (says.Refuse e call request i m f why) may step a waits = told_so (says.Refuse e call request i m f why) a (answer.Refused why) may.in_time.opens.asks.wanted (heard c older d) (by_own call d _ (heard c older d) step)
        (subst (λ (y : CallId). asked_now c older y ≡ may.in_time.opens.asks.wanted) step may.in_time.opens.asks.asks.asked)
        (refused_so (With n (Shown (says.Refuse e call request i m f why)) older) why may.in_time.opens.asks.wanted may.in_time.opens.asked may.in_time.opens.it may.in_time.opens.asks.opening_is) waits
    step_so (says.Act e i number o result) may step a waits = told_so (says.Act e i number o result) a (outcome_answer result) (want.Do i o) (heard c older d) (by_owner (call_of_act before e i number) d _ (heard c older d) step)
        (subst (λ (y : CallId). asked_now c older y ≡ want.Do i o) (some_same may.in_time.call d (sym may.in_time.owner ∙ step)) may.in_time.asks.asked) tt waits
    step_so (says.Release e i f stamp) may step a waits = told_so (says.Release e i f stamp) a (close_answer stamp (instance_in (tree_of c e f.group before) i)) (want.Close i) (heard c older d) (by_owner (call_of_release before e i) d _ (heard c older d) step)
        (subst (λ (y : CallId). asked_now c older y ≡ want.Close i) same may.in_time.asks.asked)
        (closed_so (With n (Shown (says.Release e i f stamp)) older) i stamp (instance_in (tree_of c e f.group before) i) (ended_so e i f stamp may same)) waits
      where
        same : may.in_time.call ≡ d
        same = some_same may.in_time.call d (sym may.in_time.owner ∙ step)
    step_so _ may step a waits = absurd step

  -- ---- a told line ----

  told_named : (x : Told) → MayTell c older x → AllNamedSo c (With n x older)
  told_named x may = record { versions = over x may; instances = trees x may; calls = λ d named. told_heard c n older followed d (step_so d) (so.calls d) x may named }
    where
      over : (y : Told) → MayTell c older y → (f : FileId) (s : Stamp) → IsSound c (With n y older) f (content_of (history c (onto_entries n y before)) f s)
      over (Shown r) m f s = next_versions r m f s
      over y m f s = sound_stays c n y older followed m f (content_of past f s) (so.versions f s)

      trees : (y : Told) → MayTell c older y → (e : EpochId) (g : ℕ) → AllByRecursion (SoundAt c (With n y older)) (tree_of c e g (onto_entries n y before)).instances
      trees (Shown r) m e g = next_instances e g r m
      trees y m e g = all_then Old (SoundAt c (With n y older)) (λ z k. sound_at_stays c n y older followed m z k) (tree_of c e g before).instances (so.instances e g)

-- ---- all ----

formats_sound : (c : Config) (f : FileId) (s : Stamp) (k : ℕ) (packs : List Sites) → IsSound c [] f (content_of (format_versions k packs) f s)
formats_sound c f s k [] = inr tt
formats_sound c f s k (p ∷ ps) = at (p.0 == 0) (formats_sound c f s (k + 1) ps)
  where
    over : (b : Bool) → IsSound c [] f (content_of (format_versions (k + 1) ps) f s) → IsSound c [] f (cond b [] (content_of (format_versions (k + 1) ps) f s))
    over true later = inr tt
    over false later = later

    at : (a : Bool) → IsSound c [] f (content_of (format_versions (k + 1) ps) f s) → IsSound c [] f (content_of (cond a (format_versions (k + 1) ps) (format_version k ∷ format_versions (k + 1) ps)) f s)
    at true later = later
    at false later = over (is_version f s (format_version k)) later

pub trace_named : (c : Config) → PacksAreOfSites c → (trace : List Line) → IsFollowed c trace → AllNamedSo c trace
trace_named c packs [] h = record { versions = λ f s. formats_sound c f s 0 c.packs; instances = λ e g. tt; calls = λ d named. absurd (none_some named.0 named.1) }
trace_named c packs (x ∷ older) h = told_named c packs older h.1 (trace_named c packs older h.1) x.number x.told h.0
