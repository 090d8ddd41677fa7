-- What an operation on an open instance does, where the instance is an ordinary one.
use Rattle.std.proofs.Common.{◌≡◌, ℕ, ◌+◌, ◌==◌, Bool, true, false, not, ◌&&◌, ◌||◌, cond, List, [], ◌∷◌, ◌++◌, Option, Some, None, refl, sym, ◌∙◌, ap, subst}
use Rattle.std.specs.List.{flat_map}
use Rattle.std.specs.Option.{is_none}
use Rattle.std.specs.Str.{bytes_eq}
use Rattle.plain_facts.proofs.Options.{none_some}
use Rattle.plain_facts.proofs.Tests.{and_second}
use Rattle.locus_ids.specs.declared.config.Config.{Config}
use Rattle.locus_ids.specs.declared.ids.CallId.{CallId}
use Rattle.locus_ids.specs.declared.ids.EpochId.{EpochId}
use Rattle.locus_ids.specs.declared.ids.FileId.{FileId}
use Rattle.locus_ids.specs.declared.ids.Mode.{Mode}
use Rattle.locus_ids.specs.declared.ids.Mode.TheVariants as mode
use Rattle.locus_ids.specs.declared.ids.Serial.{Serial}
use Rattle.locus_ids.specs.declared.ids.Stamp.{Stamp}
use Rattle.commit_graph.specs.Vectors.{vector_of}
use Rattle.commit_graph.specs.declared.history.Version.{Version}
use Rattle.trace_book.specs.Messages.{is_message}
use Rattle.trace_book.specs.Same.{same_serial}
use Rattle.trace_book.specs.declared.call.Call.{Call}
use Rattle.trace_book.specs.declared.call.Call.TheVariants as call
use Rattle.trace_book.specs.declared.descriptor.Beginning.TheVariants as begins
use Rattle.trace_book.specs.declared.operation.Op.{Op}
use Rattle.trace_book.specs.declared.operation.Op.TheVariants as op
use Rattle.trace_book.specs.declared.operation.Outcome.{Outcome}
use Rattle.trace_book.specs.declared.record.Record.{Record}
use Rattle.trace_book.specs.declared.record.Record.TheVariants as says
use Rattle.dir_format.specs.declared.entry.Entry.{Entry}
use Rattle.dir_format.specs.Contents.{entries_of}
use Rattle.file_effects.specs.Effects.{As, Effect, effect, is_refusal, puts}
use Rattle.file_effects.specs.declared.work.Work.{Work}
use Rattle.call_rules.specs.declared.answer.Answer.{Answer}
use Rattle.call_rules.specs.declared.want.Want.TheVariants as want
use Rattle.role_steps.specs.Views.{Told, Shown}
use Rattle.the_run.specs.Worlds.{Line}
use Rattle.tree_model.specs.declared.instance.Instance.{Instance}
use Rattle.tree_model.specs.Folds.{Trace}
use Rattle.tree_model.specs.Given.{instance_gives}
use Rattle.tree_model.specs.Histories.{history}
use Rattle.tree_model.specs.Same.{is_given}
use Rattle.tree_model.specs.State.{TreeState, kept_of}
use Rattle.tree_model.specs.Tree.{once_acted, tree_of}
use Rattle.tree_model.specs.Working.{effect_of, effect_on, free_pages, in_room, list_of, merges, operated_by, parents_of, result_on, sees}
use Rattle.lawful_trace.specs.Progress.{is_packed_in}
use Rattle.lawful_trace.specs.Tables.{begun}
use Rattle.lawful_trace.specs.TreeRows.{granted_group}
use Rattle.tree_laws.specs.Calls.{script}
use Rattle.tree_laws.specs.Following.{IsFollowed, MayTell}
use Rattle.tree_laws.specs.Instances.{instance_now}
use Rattle.tree_laws.specs.Printed.{entries}
use Rattle.tree_laws.proofs.Names.{same_epoch_own, same_serial_own}
use Rattle.tree_laws.specs.Orders.Joining.{PacksAreOfSites}
use Rattle.tree_laws.proofs.Orders.Standing.{acted_keeps}
use Rattle.rest_laws.proofs.of_store_laws.Holdings.Turning.{acted_last}
use Rattle.rest_laws.proofs.of_store_laws.Places.{GrantedSo as IsGrantedSo, instance_granted}
use Rattle.rest_laws.proofs.of_store_laws.ScriptNaming.{script_by}
use Rattle.rest_laws.specs.Fits.EntryEntries.{MakesMessage}
use Rattle.rest_laws.proofs.Fits.EntryContents.{content_dir}
use Rattle.rest_laws.proofs.Fits.EntryFacts.{IsPlain, makes_stay, plain_stays}
use Rattle.headline_laws.specs.Boxes.Boxes.{deeds, done_after, is_among, is_handled, makings, named_in, names_inserted, names_removed}
use Rattle.headline_laws.proofs.Boxes.Boxing.{MayBe, as_box, box_same, put_after, removes_box, taken_after}
use Rattle.headline_laws.proofs.Boxes.Granting.{Mender, mends_called}
use Rattle.headline_laws.proofs.Boxes.Keeping.{AllBoxes, AtWork, BoxOf, HasBox, IsOrdinary, OfFile, OfMessage, Ordinary, bases, box_later, said, seat}
use Rattle.headline_laws.proofs.Boxes.Mending.{MendsOnce, OnlyMends, mend_once}
use Rattle.headline_laws.proofs.Boxes.Puts.{MadeOnce, MailsAreLow, Put, Saw}
use Rattle.call_rules.specs.Scripts.{wants}
use Rattle.tree_laws.specs.Past.{WasGranted}
use Rattle.headline_laws.proofs.Boxes.Acting.{Effective, effective, left_content, ordinary_bases, refused_work}

abbrev With : ℕ → Told → List Line → List Line
With n x older = record { number = n; told = x } ∷ older

-- it doesn't undo what was done
abbrev pub NotAbort : Op → Type 0
NotAbort op.Abort = ⊥
NotAbort _ = Unit {0}

-- ---- names after an operation ----

module _ (P : List ℕ → ℕ → Type 0) (S : ℕ → List ℕ → Type 0) where
  put_is : (o : Op) (ds : List Op) (others : List (List ℕ)) (n : List ℕ) → NotAbort o → put_after P S o (is_among (names_inserted ds ++ others)) n ≡ is_among (names_inserted (done_after o ds) ++ others) n
  put_is op.Abort ds others n k = absurd k
  put_is _ ds others n k = refl

  taken_is : (o : Op) (ds : List Op) (others : List (List ℕ)) (n : List ℕ) → NotAbort o → taken_after P S o (is_among (names_removed ds ++ others)) n ≡ is_among (names_removed (done_after o ds) ++ others) n
  taken_is op.Abort ds others n k = absurd k
  taken_is _ ds others n k = refl

pub only_mends : (i : Serial) (o : Op) → OnlyMends (want.Do i o) → o ≡ op.Mend
only_mends i op.Mend k = refl
only_mends i _ k = absurd k

-- to whom it was granted to mend
pub mender_of : (c : Config) (t : List Line) → IsFollowed c t → (e : EpochId) (i : Serial) (y : Instance) → instance_now c t e i ≡ Some y → y.grant.mode ≡ mode.Mend → Mender t y.grant.call y.grant.file
mender_of c t h e i y now is = mends_called c t h e y.grant.call g.0.request y.grant.inst y.grant.file g.0.stamp y.grant.ss (subst (λ (m : Mode). WasGranted t e y.grant.call g.0.request y.grant.inst m y.grant.file g.0.stamp y.grant.ss) is g.0.was_granted)
  where
    g : IsGrantedSo t e y.grant × (y.grant.inst ≡ i)
    g = instance_granted c t e i y now

pub mender_script : (c : Config) (t : List Line) (d : CallId) (f : FileId) → Mender t d f → begun (entries t) d ≡ Some (begins.Walks d) → MendsOnce (script c (entries t) d None)
mender_script c t d f m walks = record {
  mends = λ xs. subst OnlyMends (sym (by xs)) (o.mends xs);
  once = λ xs a ys i j p q e r. o.once xs a ys i j p q (sym (by xs) ∙ e) (sym (by (xs ++ a ∷ ys)) ∙ r);
}
  where
    o : MendsOnce (wants c.mounts (is_packed_in c (entries t) m.caller.epoch) None (call.Mend f) (begins.Walks d))
    o = mend_once c.mounts (is_packed_in c (entries t) m.caller.epoch) None d f

    by : (xs : List Answer) → script c (entries t) d None xs ≡ wants c.mounts (is_packed_in c (entries t) m.caller.epoch) None (call.Mend f) (begins.Walks d) xs
    by xs = script_by c t d m.caller (begins.Walks d) None xs m.named walks ∙ ap (λ (v : Call). wants c.mounts (is_packed_in c (entries t) m.caller.epoch) None v (begins.Walks d) xs) m.words_are

pub merging_bases : (h : List Version) (u : TreeState) (x : Instance) → x.grant.mode ≡ mode.Mend → x.work.committed ≡ None → parents_of h u x ≡ kept_of h u x.grant.file
merging_bases h u x is first = ap (λ (m : Mode). cond (merges m && is_none x.work.committed) (kept_of h u x.grant.file) (list_of x.work.last)) is ∙ ap (λ (s : Option Stamp). cond (is_none s) (kept_of h u x.grant.file) (list_of x.work.last)) first

-- ---- an operation that is told ----

module _ (c : Config) (packs : PacksAreOfSites c) (n : ℕ) (older : List Line) (h : IsFollowed c older) (so : AllBoxes c older) (low : MailsAreLow older) (e : EpochId) (i : Serial) (k : ℕ) (o : Op) (result : Outcome) (may : MayTell c older (Shown (says.Act e i k o result))) (once : MadeOnce c (With n (Shown (says.Act e i k o result)) older)) (handled : is_handled (entries older) (says.Act e i k o result) ≡ true) (y : Instance) (was : instance_now c older e i ≡ Some y) where
  abbrev r : Record
  r = says.Act e i k o result

  abbrev before : Trace
  before = entries older

  abbrev past : List Version
  past = history c before

  abbrev now : List Line
  now = With n (Shown r) older

  abbrev u : TreeState
  u = tree_of c e (granted_group before e i) before

  abbrev new : Instance
  new = once_acted past u o result y

  abbrev f : FileId
  f = y.grant.file

  abbrev d : CallId
  d = may.in_time.call

  abbrev AtNow : Type 0
  AtNow = AtWork c now e i new

  -- whose names were put in and taken out before
  abbrev put_was : List ℕ → Bool
  put_was = is_among (names_inserted (deeds before e i) ++ flat_map (named_in names_inserted (makings c before) f) (list_of y.work.last))

  abbrev taken_was : List ℕ → Bool
  taken_was = is_among (names_removed (deeds before e i) ++ flat_map (named_in names_removed (makings c before) f) (list_of y.work.last))

  deeds_now : deeds (entries now) e i ≡ cond (not (is_refusal result)) (done_after o (deeds before e i)) (deeds before e i)
  deeds_now = ap (λ (b : Bool). cond ((b && same_serial i i) && not (is_refusal result)) (done_after o (deeds before e i)) (deeds before e i)) (same_epoch_own e) ∙ ap (λ (b : Bool). cond (b && not (is_refusal result)) (done_after o (deeds before e i)) (deeds before e i)) (same_serial_own i)

  pub deeds_refused : is_refusal result ≡ true → deeds (entries now) e i ≡ deeds before e i
  deeds_refused q = deeds_now ∙ ap (λ (b : Bool). cond (not b) (done_after o (deeds before e i)) (deeds before e i)) q

  pub deeds_done : is_refusal result ≡ false → deeds (entries now) e i ≡ done_after o (deeds before e i)
  deeds_done q = deeds_now ∙ ap (λ (b : Bool). cond (not b) (done_after o (deeds before e i)) (deeds before e i)) q

  pub gave : is_given (result_on past u o y) result ≡ true
  gave = and_second (k == y.work.ops + 1) (is_given (result_on past u o y) result) (subst (λ (z : Option Instance). instance_gives past u k o result z ≡ true) was may.row.gives)

  last_same : new.work.last ≡ y.work.last
  last_same = acted_last past u o result y

  first_same : new.work.committed ≡ y.work.committed
  first_same = acted_keeps past u o result y

  group_is : f.group ≡ granted_group before e i
  group_is = (seat c older h e i y was).group_is

  plain_now : IsPlain c older f → AtNow
  plain_now p = OfFile (plain_stays c n (Shown r) older h may f p)

  message_now : MakesMessage older y.grant → AtNow
  message_now m = OfMessage (makes_stay c n (Shown r) older h may y.grant m)

  -- ---- the ordinary ----

  said_was : (names : List Op → List (List ℕ)) → IsOrdinary y.grant.mode → said names c older e i y ≡ names (deeds before e i) ++ flat_map (named_in names (makings c before) f) (list_of y.work.last)
  said_was names m = ap (λ (ss : List Stamp). names (deeds before e i) ++ flat_map (named_in names (makings c before) f) ss) (ordinary_bases past (tree_of c e f.group before) y m)

  said_now : (names : List Op → List (List ℕ)) → IsOrdinary y.grant.mode → (ds : List Op) → deeds (entries now) e i ≡ ds → said names c now e i new ≡ names ds ++ flat_map (named_in names (makings c before) f) (list_of y.work.last)
  said_now names m ds same = ap (λ (l : List Op). names l ++ flat_map (named_in names (makings c before) f) (bases c now e new)) same
      ∙ ap (λ (ss : List Stamp). names ds ++ flat_map (named_in names (makings c before) f) ss) (ordinary_bases past (tree_of c e f.group (entries now)) new m ∙ ap list_of last_same)

  later : (p q : List ℕ → Bool) (ds : List Entry) → BoxOf c older f.group p q ds → BoxOf c now f.group p q ds
  later p q ds b = box_later c n (Shown r) older h may tt once f.group p q ds b

  -- by what names it is a box now
  pub ordinary_now : IsOrdinary y.grant.mode → (ds : List Op) → deeds (entries now) e i ≡ ds → (put taken : List ℕ → Bool) → ((m : List ℕ) → put m ≡ is_among (names_inserted ds ++ flat_map (named_in names_inserted (makings c before) f) (list_of y.work.last)) m) →
      ((m : List ℕ) → taken m ≡ is_among (names_removed ds ++ flat_map (named_in names_removed (makings c before) f) (list_of y.work.last)) m) → BoxOf c now f.group put taken (entries_of new.work.content) → AtNow
  ordinary_now m ds same put taken puts takes b = Ordinary m (box_same (Put c now f.group) (Saw c now f.group) put taken (is_among (said names_inserted c now e i new)) (is_among (said names_removed c now e i new)) (entries_of new.work.content)
      (λ z. puts z ∙ ap (λ (l : List (List ℕ)). is_among l z) (sym (said_now names_inserted m ds same))) (λ z. takes z ∙ ap (λ (l : List (List ℕ)). is_among l z) (sym (said_now names_removed m ds same))) b)

  -- the box of before, by its names
  box_was : IsOrdinary y.grant.mode → HasBox c older e i y → BoxOf c now f.group put_was taken_was (entries_of y.work.content)
  box_was m b = box_same (Put c now f.group) (Saw c now f.group) (is_among (said names_inserted c older e i y)) (is_among (said names_removed c older e i y)) put_was taken_was (entries_of y.work.content)
      (λ z. ap (λ (l : List (List ℕ)). is_among l z) (said_was names_inserted m)) (λ z. ap (λ (l : List (List ℕ)). is_among l z) (said_was names_removed m)) (later (is_among (said names_inserted c older e i y)) (is_among (said names_removed c older e i y)) (entries_of y.work.content) b)

  -- where the content stays and no name comes
  pub same_now : IsOrdinary y.grant.mode → HasBox c older e i y → (ds : List Op) → deeds (entries now) e i ≡ ds → names_inserted ds ≡ names_inserted (deeds before e i) → names_removed ds ≡ names_removed (deeds before e i) → new.work.content ≡ y.work.content → AtNow
  same_now m b ds same ins outs content = ordinary_now m ds same put_was taken_was (λ z. ap (λ (l : List (List ℕ)). is_among (l ++ flat_map (named_in names_inserted (makings c before) f) (list_of y.work.last)) z) (sym ins)) (λ z. ap (λ (l : List (List ℕ)). is_among (l ++ flat_map (named_in names_removed (makings c before) f) (list_of y.work.last)) z) (sym outs))
      (subst (λ (l : List ℕ). BoxOf c now f.group put_was taken_was (entries_of l)) (sym content) (box_was m b))

  -- an operation on the content
  module _ (works : new.work ≡ operated_by result (effect_on past u o y) y.work) (gives : result_on past u o y ≡ in_room (free_pages past u y.grant.ss) y.work.changed (effect_on past u o y)) where
    refused_now : IsOrdinary y.grant.mode → HasBox c older e i y → is_refusal result ≡ true → AtNow
    refused_now m b q = same_now m b (deeds before e i) (deeds_refused q) refl refl (ap (λ (w : Work). w.content) (works ∙ refused_work result (effect_on past u o y) y.work q))

    has_effect : is_refusal result ≡ false → Effective (effect_on past u o y)
    has_effect q = effective (free_pages past u y.grant.ss) y.work.changed (effect_on past u o y) result (subst (λ (z : Option Outcome). is_given z result ≡ true) gives gave) q

    left : is_refusal result ≡ false → (x : Effect) → effect_on past u o y ≡ Some x → new.work.content ≡ x.content
    left q x is = ap (λ (w : Work). w.content) works ∙ left_content result (effect_on past u o y) y.work q x is

    -- whose words say all
    pub as_now : effect_on past u o y ≡ effect (As o) y.work.content → NotAbort o → IsOrdinary y.grant.mode → HasBox c older e i y → (is_refusal result ≡ false → MayBe (Put c now f.group) (Saw c now f.group) (entries_of y.work.content) o []) → AtNow
    as_now does no_abort m b may_be = over (is_refusal result) refl
      where
        over : (a : Bool) → is_refusal result ≡ a → AtNow
        over true q = refused_now m b q
        over false q = ordinary_now m (done_after o (deeds before e i)) (deeds_done q)
            (put_after (Put c now f.group) (Saw c now f.group) o put_was)
            (taken_after (Put c now f.group) (Saw c now f.group) o taken_was)
            (λ z. put_is (Put c now f.group) (Saw c now f.group) o (deeds before e i) (flat_map (named_in names_inserted (makings c before) f) (list_of y.work.last)) z no_abort) (λ z. taken_is (Put c now f.group) (Saw c now f.group) o (deeds before e i) (flat_map (named_in names_removed (makings c before) f) (list_of y.work.last)) z no_abort)
            (subst (λ (l : List ℕ). BoxOf c now f.group (put_after (Put c now f.group) (Saw c now f.group) o put_was) (taken_after (Put c now f.group) (Saw c now f.group) o taken_was) (entries_of l)) (sym (left q it.effect it.is))
            (as_box (Put c now f.group) (Saw c now f.group) put_was taken_was y.work.content (content_dir y.work.content) (box_was m b) o (may_be q) it.effect (sym does ∙ it.is) it.done it.unspent))
          where
            it : Effective (effect_on past u o y)
            it = has_effect q

    -- a removal, which sees a vector
    pub removed_now : (name : List ℕ) (ino : ℕ) (z : Option Instance) → o ≡ op.Remove name ino → effect_on past u o y ≡ effect_of (sees past name ino z) y.work.content → IsOrdinary y.grant.mode → HasBox c older e i y →
        ((x : Instance) (s : Stamp) → z ≡ Some x → x.work.last ≡ Some s → is_message name ≡ true → Put c now f.group name ino → Saw c now f.group ino (vector_of past x.grant.file s)) → AtNow
    removed_now name ino z is does m b saw = over (is_refusal result) refl
      where
        target : is_refusal result ≡ false → (t : Option Instance) → z ≡ t → (x : Effect) → effect_of (sees past name ino t) y.work.content ≡ Some x → is_refusal x.result ≡ false → x.spent ≡ false →
            BoxOf c now f.group put_was (λ (w : List ℕ). bytes_eq w name || taken_was w) (entries_of x.content)
        target q None at x eff a s = absurd (none_some x eff)
        target q (Some t) at x eff a s = on t.work.last refl eff
          where
            on : (l : Option Stamp) → t.work.last ≡ l → effect_of (sees past name ino (Some (record t { work = record t.work { last = l } }))) y.work.content ≡ Some x →
                BoxOf c now f.group put_was (λ (w : List ℕ). bytes_eq w name || taken_was w) (entries_of x.content)
            on None last eff = absurd (none_some x eff)
            on (Some v) last eff = removes_box (Put c now f.group) (Saw c now f.group) put_was taken_was y.work.content (content_dir y.work.content) (box_was m b) name ino (vector_of past t.grant.file v) (λ g p. saw t v at last g p) x eff a s

        over : (a : Bool) → is_refusal result ≡ a → AtNow
        over true q = refused_now m b q
        over false q = ordinary_now m (op.Remove name ino ∷ deeds before e i) (deeds_done q ∙ ap (λ (p : Op). done_after p (deeds before e i)) is) put_was (λ (w : List ℕ). bytes_eq w name || taken_was w) (λ w. refl) (λ w. refl)
            (subst (λ (l : List ℕ). BoxOf c now f.group put_was (λ (w : List ℕ). bytes_eq w name || taken_was w) (entries_of l)) (sym (left q it.effect it.is)) (target q z refl it.effect (sym does ∙ it.is) it.done it.unspent))
          where
            it : Effective (effect_on past u o y)
            it = has_effect q
