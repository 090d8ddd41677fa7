-- What an operation on an open instance does to the messages that it works on.
use Rattle.std.proofs.Common.{◌≡◌, ℕ, ◌==◌, max, Bool, true, false, not, ◌&&◌, ◌||◌, cond, List, [], ◌∷◌, filter, length, map, Option, Some, None, refl, sym, ◌∙◌, ap, subst, ◌⊎◌, inl, inr}
use Rattle.std.proofs.lemmas.Slice.Eq.{bytes_eq-Decides}
use Rattle.std.specs.List.{AllByRecursion, flat_map, list_any}
use Rattle.std.specs.Option.{is_none}
use Rattle.std.specs.Prelude.{nat_lt}
use Rattle.std.specs.Str.{bytes_eq}
use Rattle.plain_facts.proofs.Numbers.{equal}
use Rattle.plain_facts.proofs.Options.{some_same}
use Rattle.plain_facts.proofs.Tests.{and_false, false_unless, true_false}
use Rattle.row_lists.proofs.Reversed.{any_append}
use Rattle.locus_ids.specs.declared.config.Config.{Config}
use Rattle.locus_ids.specs.declared.ids.Brought.{Brought}
use Rattle.locus_ids.specs.declared.ids.EpochId.{EpochId}
use Rattle.locus_ids.specs.declared.ids.FileId.{FileId}
use Rattle.locus_ids.specs.declared.ids.Kind.{Kind}
use Rattle.locus_ids.specs.declared.ids.Mode.{Mode}
use Rattle.locus_ids.specs.declared.ids.Mode.TheVariants as mode
use Rattle.locus_ids.specs.declared.ids.Stamp.{Stamp}
use Rattle.locus_ids.specs.declared.refusal.Refusal.TheVariants as refusal
use Rattle.locus_ids.specs.Sizes.{directory_bytes_max}
use Rattle.version_vector.specs.Counters.{AllLe, all_le}
use Rattle.version_vector.proofs.Counting.{AllLe-through, all_le-from_AllLe}
use Rattle.commit_graph.specs.Vectors.{vector_of}
use Rattle.commit_graph.specs.Versions.{content_of, is_in}
use Rattle.commit_graph.specs.declared.history.Version.{Version}
use Rattle.trace_book.specs.Messages.{is_message}
use Rattle.trace_book.specs.declared.call.Call.{Call}
use Rattle.trace_book.specs.declared.call.Call.TheVariants as call
use Rattle.trace_book.specs.declared.operation.Op.{Op}
use Rattle.trace_book.specs.declared.operation.Outcome.{Outcome}
use Rattle.trace_book.specs.declared.operation.Outcome.TheVariants as outcome
use Rattle.dir_format.specs.declared.entry.Entry.{Entry}
use Rattle.dir_format.specs.Contents.{entries_of}
use Rattle.dir_format.specs.Entries.{IsDir}
use Rattle.dir_format.proofs.ContentOf.{content_is}
use Rattle.dir_reconcile.specs.Joins.{joined_dirs}
use Rattle.dir_reconcile.specs.Rescues.{is_unseen, rescued}
use Rattle.dir_reconcile.proofs.Revived.{dir_rescued}
use Rattle.file_content.specs.Pages.{pages_needed, pages_replaced}
use Rattle.file_effects.specs.Effects.{Effect, is_refusal, mends, tells}
use Rattle.file_effects.specs.Works.{carried_out, counted, result_in}
use Rattle.file_effects.specs.declared.work.Work.{Work}
use Rattle.role_steps.specs.Views.{Told}
use Rattle.the_run.specs.Worlds.{Line}
use Rattle.tree_model.specs.declared.instance.Instance.{Instance}
use Rattle.tree_model.specs.Histories.{history}
use Rattle.tree_model.specs.Mending.{file_in, is_kept, join_of_kept, joined_all, joined_content, kept_vectors, vector_kept}
use Rattle.tree_model.specs.Same.{is_given, same_outcome}
use Rattle.tree_model.specs.State.{TreeState, kept_of}
use Rattle.tree_model.specs.Tree.{tree_of}
use Rattle.tree_model.specs.Working.{in_room, list_of, merges, operated_by, parents_of}
use Rattle.tree_laws.specs.Following.{IsFollowed}
use Rattle.tree_laws.specs.Printed.{entries}
use Rattle.tree_laws.proofs.Kinship.{tree_group_is}
use Rattle.tree_laws.proofs.Rows.{followed_rows}
use Rattle.tree_laws.specs.Orders.Joining.{PacksAreOfSites}
use Rattle.tree_laws.proofs.Orders.Knowing.{rows_sound}
use Rattle.tree_laws.proofs.Orders.Standing.{KnownStands}
use Rattle.rest_laws.specs.Fits.EntryEntries.{IsEntered}
use Rattle.rest_laws.proofs.Fits.EntryContents.{AllNamed}
use Rattle.rest_laws.proofs.Fits.EntryFacts.{IsPlain}
use Rattle.rest_laws.proofs.Fits.EntryNamed.{joined_so, trace_named}
use Rattle.headline_laws.specs.Boxes.Boxes.{is_among, is_mail, makings, named_in, names_inserted, names_removed}
use Rattle.headline_laws.proofs.Boxes.Boxing.{GoodIfMessage, box_same}
use Rattle.headline_laws.proofs.Boxes.Keeping.{AllBoxes, BoxOf, Holds, IsOrdinary}
use Rattle.headline_laws.proofs.Boxes.Levels.{from_zero, level}
use Rattle.headline_laws.proofs.Boxes.Merging.{joined_box, nothing_box, rescued_box}
use Rattle.headline_laws.proofs.Boxes.Puts.{At, Put, Saw, saw_wider}

abbrev With : ℕ → Told → List Line → List Line
With n x older = record { number = n; told = x } ∷ older

-- ---- results and effects ----

pub refused_alike : (o r : Outcome) → same_outcome o r ≡ true → is_refusal o ≡ is_refusal r
refused_alike outcome.Done outcome.Done e = refl
refused_alike (outcome.Found ino k) (outcome.Found i l) e = refl
refused_alike (outcome.Data bytes) (outcome.Data bs) e = refl
refused_alike (outcome.Committed stamp) (outcome.Committed s) e = refl
refused_alike (outcome.No why) (outcome.No w) e = refl
refused_alike _ _ e = absurd (true_false (sym e))

-- an effect that isn't refused in the room that there is isn't refused by itself, and no count stands still
done_effect : (free : ℕ) (changed : List ℕ) (e : Effect) → is_refusal (result_in free changed e) ≡ false → (is_refusal e.result ≡ false) × (e.spent ≡ false)
done_effect free changed e h = over (is_refusal e.result) refl (nat_lt free (pages_needed e.pages changed)) e.spent refl h
  where
    over : (a : Bool) → is_refusal e.result ≡ a → (m s : Bool) → e.spent ≡ s → is_refusal (cond a e.result (cond m (outcome.No (refusal.NoSpace (pages_needed e.pages changed) free)) (cond s (outcome.No refusal.Spent) e.result))) ≡ false → (is_refusal e.result ≡ false) × (e.spent ≡ false)
    over true p m s q h = absurd (true_false (sym p ∙ h))
    over false p true s q h = absurd (true_false h)
    over false p false true q h = absurd (true_false h)
    over false p false false q h = (p, q)

-- an operation on the content that was done has an effect
pub record Effective (o : Option Effect) : Type 0 where
  pub effect : Effect
  pub is : o ≡ Some effect
  pub done : is_refusal effect.result ≡ false
  pub unspent : effect.spent ≡ false

pub effective : (free : ℕ) (changed : List ℕ) (o : Option Effect) (result : Outcome) → is_given (in_room free changed o) result ≡ true → is_refusal result ≡ false → Effective o
effective free changed None result g done = absurd (true_false (sym g))
effective free changed (Some e) result g done = record { effect = e; is = refl; done = both.0; unspent = both.1 }
  where
    both : (is_refusal e.result ≡ false) × (e.spent ≡ false)
    both = done_effect free changed e (refused_alike (result_in free changed e) result g ∙ done)

-- what it leaves
pub left_content : (result : Outcome) (o : Option Effect) (w : Work) → is_refusal result ≡ false → (e : Effect) → o ≡ Some e → (operated_by result o w).content ≡ e.content
left_content result o w done e is = ap (λ (x : Option Effect). (operated_by result x w).content) is ∙ ap (λ (b : Bool). (cond b (counted w) (carried_out e w)).content) done

-- and nothing where it is refused
pub refused_work : (result : Outcome) (o : Option Effect) (w : Work) → is_refusal result ≡ true → operated_by result o w ≡ counted w
refused_work result None w no_good = refl
refused_work result (Some e) w no_good = ap (λ (b : Bool). cond b (counted w) (carried_out e w)) no_good

pub mended_content : (content : List ℕ) (several : Bool) (joined : List ℕ) (e : Effect) → Some (mends content several joined) ≡ Some e → is_refusal e.result ≡ false → e.content ≡ joined
mended_content content several joined e is done = over (nat_lt directory_bytes_max (length joined)) is
  where
    over : (b : Bool) → Some (cond b (tells content (outcome.No refusal.TooLong)) (record { result = outcome.Done; content = joined; pages = pages_replaced content joined; counts = several || not (bytes_eq joined content); spent = false })) ≡ Some e → e.content ≡ joined
    over true q = absurd (true_false (ap (λ (x : Effect). is_refusal x.result) (some_same _ e q) ∙ done))
    over false q = ap (λ (x : Effect). x.content) (sym (some_same _ e q))

-- ---- levels of names that weren't put in ----

pub none_level : (Put : List ℕ → ℕ → Type 0) (Saw : ℕ → List ℕ → Type 0) (name : List ℕ) → is_message name ≡ true → ((ino : ℕ) → Put name ino → ⊥) → (ds : List Entry) → AllByRecursion (GoodIfMessage Put Saw) ds → level ds name ≡ 0
none_level Put Saw name m new [] all = refl
none_level Put Saw name m new (d ∷ ds) all = ap (λ (b : Bool). max (cond b d.count 0) (level ds name)) apart ∙ (from_zero (level ds name) ∙ none_level Put Saw name m new ds all.1)
  where
    apart : bytes_eq d.name name ≡ false
    apart = false_unless (bytes_eq d.name name) (λ k. new d.ino (subst (λ (n : List ℕ). Put n d.ino) ((bytes_eq-Decides d.name name).0 k) (all.0 (ap is_message ((bytes_eq-Decides d.name name).0 k) ∙ m)).put))

-- ---- calls by their words ----

pub mails : (v : Call) → is_mail (Some v) ≡ true → (path : List ℕ) × (bytes : List ℕ) × (v ≡ call.Mail path bytes)
mails (call.Mail path bytes) e = (path, bytes, refl)
mails _ e = absurd (true_false (sym e))

-- the ordinary stand on their last version
pub ordinary_bases : (h : List Version) (u : TreeState) (x : Instance) → IsOrdinary x.grant.mode → parents_of h u x ≡ list_of x.work.last
ordinary_bases h u x k = over x.grant.mode k
  where
    over : (m : Mode) → IsOrdinary m → cond (merges m && is_none x.work.committed) (kept_of h u x.grant.file) (list_of x.work.last) ≡ list_of x.work.last
    over mode.Read k = refl
    over mode.Write k = refl
    over mode.Make k = refl
    over mode.Resolve k = absurd k
    over mode.Mend k = absurd k

pub no_mend : (m : Mode) → IsOrdinary m → m ≡ mode.Mend → ⊥
no_mend m k e = subst IsOrdinary e k

-- ---- joins ----

-- the join of the contents of versions of a file
module _ (c : Config) (t : List Line) (so : AllBoxes c t) (f : FileId) where
  abbrev at_hand : List Version
  at_hand = history c (entries t)

  abbrev among : (List Op → List (List ℕ)) → List Stamp → List ℕ → Bool
  among names ss n = is_among (flat_map (named_in names (makings c (entries t)) f) ss) n

  abbrev entries_at : Stamp → List Entry
  entries_at s = entries_of (content_of at_hand f s)

  pub joined_versions : (ss : List Stamp) → IsPlain c t f ⊎ BoxOf c t f.group (among names_inserted ss) (among names_removed ss) (joined_all (map entries_at ss))
  joined_versions [] = inr (nothing_box (Put c t f.group) (Saw c t f.group))
  joined_versions (s ∷ ss) = over (so.versions f s) (joined_versions ss)
    where
      both : (names : List Op → List (List ℕ)) (n : List ℕ) → (is_among (named_in names (makings c (entries t)) f s) n || among names ss n) ≡ among names (s ∷ ss) n
      both names n = sym (any_append (bytes_eq n) (named_in names (makings c (entries t)) f s) (flat_map (named_in names (makings c (entries t)) f) ss))

      over : Holds c t f (is_among (named_in names_inserted (makings c (entries t)) f s)) (is_among (named_in names_removed (makings c (entries t)) f s)) (content_of at_hand f s) → IsPlain c t f ⊎ BoxOf c t f.group (among names_inserted ss) (among names_removed ss) (joined_all (map entries_at ss)) →
          IsPlain c t f ⊎ BoxOf c t f.group (among names_inserted (s ∷ ss)) (among names_removed (s ∷ ss)) (joined_all (map entries_at (s ∷ ss)))
      over (inl p) b = inl p
      over (inr a) (inl p) = inl p
      over (inr a) (inr b) = inr (box_same (Put c t f.group) (Saw c t f.group) _ _ (among names_inserted (s ∷ ss)) (among names_removed (s ∷ ss)) (joined_dirs (entries_at s) (joined_all (map entries_at ss))) (both names_inserted) (both names_removed)
          (joined_box (Put c t f.group) (Saw c t f.group) (λ ino x y k. saw_wider c t f.group ino x y k) (is_among (named_in names_inserted (makings c (entries t)) f s)) (is_among (named_in names_removed (makings c (entries t)) f s)) (among names_inserted ss) (among names_removed ss)
          (entries_at s) (joined_all (map entries_at ss)) a b))

  module _ (packs : PacksAreOfSites c) (h : IsFollowed c t) (e : EpochId) where
    abbrev u : TreeState
    u = tree_of c e f.group (entries t)

    -- what is kept of a message's file was seen by who took the message out
    none_unseen : (ino : ℕ) (seen more : List ℕ) → Saw c t f.group ino seen → AllLe seen more → list_any (is_unseen ino more) (kept_vectors at_hand u) ≡ false
    none_unseen ino seen more saw le = unseen u.known (rows_sound c (entries t) (followed_rows c t h) e f.group).known
      where
        one : (b : Brought) → KnownStands at_hand u.group b → is_unseen ino more (vector_kept at_hand u b) ≡ false
        one b stands = over (b.ino == ino) refl
          where
            all : b.ino ≡ ino → all_le (vector_of at_hand (file_in u b.ino) b.stamp) more ≡ true
            all is = all_le-from_AllLe (vector_of at_hand (file_in u b.ino) b.stamp) more (AllLe-through (vector_of at_hand (file_in u b.ino) b.stamp) seen more
                (subst (λ (g : ℕ). AllLe (vector_of at_hand (At g b.ino) b.stamp) seen) (sym (tree_group_is c e f.group (entries t))) (subst (λ (m : ℕ). AllLe (vector_of at_hand (At f.group m) b.stamp) seen) (sym is) (saw.covers b.stamp
                (subst (λ (m : ℕ). is_in at_hand (At f.group m) b.stamp ≡ true) is (subst (λ (g : ℕ). is_in at_hand (At g b.ino) b.stamp ≡ true) (tree_group_is c e f.group (entries t)) stands))))) le)

            over : (a : Bool) → (b.ino == ino) ≡ a → ((b.ino == ino) && not (all_le (vector_of at_hand (file_in u b.ino) b.stamp) more)) ≡ false
            over true q = ap (λ (z : Bool). (b.ino == ino) && not z) (all (equal b.ino ino q)) ∙ and_false (b.ino == ino)
            over false q = ap (λ (z : Bool). z && not (all_le (vector_of at_hand (file_in u b.ino) b.stamp) more)) q

        unseen : (bs : List Brought) → AllByRecursion (KnownStands at_hand u.group) bs → list_any (is_unseen ino more) (map (vector_kept at_hand u) (filter (is_kept at_hand u) bs)) ≡ false
        unseen [] all = refl
        unseen (b ∷ bs) all = over (is_kept at_hand u b) (unseen bs all.1)
          where
            over : (a : Bool) → list_any (is_unseen ino more) (map (vector_kept at_hand u) (filter (is_kept at_hand u) bs)) ≡ false → list_any (is_unseen ino more) (map (vector_kept at_hand u) (cond a (b ∷ filter (is_kept at_hand u) bs) (filter (is_kept at_hand u) bs))) ≡ false
            over true later = ap (λ (z : Bool). z || list_any (is_unseen ino more) (map (vector_kept at_hand u) (filter (is_kept at_hand u) bs))) (one b all.0) ∙ later
            over false later = later

    -- a mend makes a box of all that are kept
    pub mended_box : Holds c t f (among names_inserted (kept_of at_hand u f)) (among names_removed (kept_of at_hand u f)) (joined_content at_hand u f)
    mended_box = over (joined_so c t at_hand f (λ s. (trace_named c packs t h).versions f s) (kept_of at_hand u f)) (joined_versions (kept_of at_hand u f))
      where
        over : IsPlain c t f ⊎ (IsDir (joined_all (map entries_at (kept_of at_hand u f))) × AllNamed (λ (ino : ℕ) (kd : Kind). IsEntered c t f.group ino kd) (joined_all (map entries_at (kept_of at_hand u f)))) → IsPlain c t f ⊎ BoxOf c t f.group (among names_inserted (kept_of at_hand u f)) (among names_removed (kept_of at_hand u f)) (joined_all (map entries_at (kept_of at_hand u f))) →
            Holds c t f (among names_inserted (kept_of at_hand u f)) (among names_removed (kept_of at_hand u f)) (joined_content at_hand u f)
        over (inl p) b = inl p
        over (inr d) (inl p) = inl p
        over (inr d) (inr b) = inr (subst (BoxOf c t f.group (among names_inserted (kept_of at_hand u f)) (among names_removed (kept_of at_hand u f)))
            (sym (content_is (joined_content at_hand u f) (rescued (join_of_kept at_hand u f) (kept_vectors at_hand u)) (record { spelled = refl; fits = dir_rescued (join_of_kept at_hand u f) (kept_vectors at_hand u) d.0 })))
            (rescued_box (Put c t f.group) (Saw c t f.group) (join_of_kept at_hand u f) (kept_vectors at_hand u) none_unseen (among names_inserted (kept_of at_hand u f)) (among names_removed (kept_of at_hand u f)) b))
