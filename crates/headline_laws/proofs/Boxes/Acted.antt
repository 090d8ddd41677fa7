-- What an operation on an open instance does: whatever its file is, its content stays a box of the names that are said.
use Rattle.std.proofs.Common.{◌≡◌, ℕ, ◌==◌, Bool, true, false, not, List, [], ◌∷◌, ◌++◌, append-nil, Option, Some, None, refl, sym, ◌∙◌, ap, subst, ◌⊎◌, inl, inr}
use Rattle.std.specs.List.{find, flat_map}
use Rattle.plain_facts.proofs.Numbers.{equal}
use Rattle.plain_facts.proofs.Tests.{and_first, and_second, false_true, not_true, or_other}
use Rattle.locus_ids.specs.declared.config.Config.{Config}
use Rattle.locus_ids.specs.declared.ids.CallId.{CallId}
use Rattle.locus_ids.specs.declared.ids.EpochId.{EpochId}
use Rattle.locus_ids.specs.declared.ids.FileId.{FileId}
use Rattle.locus_ids.specs.declared.ids.Kind.{Kind}
use Rattle.locus_ids.specs.declared.ids.Mode.TheVariants as mode
use Rattle.locus_ids.specs.declared.ids.Serial.{Serial}
use Rattle.locus_ids.specs.declared.ids.Stamp.{Stamp}
use Rattle.commit_graph.specs.Grants.{is_read}
use Rattle.commit_graph.specs.Vectors.{vector_of}
use Rattle.commit_graph.specs.Versions.{content_of, is_in}
use Rattle.commit_graph.specs.declared.history.Version.{Version}
use Rattle.trace_book.specs.Messages.{is_message}
use Rattle.trace_book.specs.Names.{plain_name}
use Rattle.trace_book.specs.Same.{same_call}
use Rattle.trace_book.specs.declared.call.Call.TheVariants as call
use Rattle.trace_book.specs.declared.descriptor.Beginning.{Beginning}
use Rattle.trace_book.specs.declared.descriptor.Beginning.TheVariants as begins
use Rattle.trace_book.specs.declared.operation.Op.{Op}
use Rattle.trace_book.specs.declared.operation.Op.TheVariants as op
use Rattle.trace_book.specs.declared.operation.Outcome.{Outcome}
use Rattle.trace_book.specs.declared.operation.Outcome.TheVariants as outcome
use Rattle.trace_book.specs.declared.operation.What.{What}
use Rattle.trace_book.specs.declared.record.Record.{Record}
use Rattle.trace_book.specs.declared.record.Record.TheVariants as says
use Rattle.dir_format.specs.Contents.{entries_of}
use Rattle.file_effects.specs.Effects.{is_refusal}
use Rattle.file_effects.specs.declared.work.Work.{Work}
use Rattle.call_rules.specs.Descriptors.{beginning}
use Rattle.call_rules.specs.declared.answer.Answer.{Answer}
use Rattle.call_rules.specs.declared.want.Want.TheVariants as want
use Rattle.role_steps.specs.Views.{Told, Shown}
use Rattle.the_run.specs.Worlds.{Line}
use Rattle.tree_model.specs.declared.accepted.Waiting.{Waiting}
use Rattle.tree_model.specs.declared.instance.Instance.{Instance}
use Rattle.tree_model.specs.Calls.{call_named}
use Rattle.tree_model.specs.Files.{words_named}
use Rattle.tree_model.specs.Folds.{Trace}
use Rattle.tree_model.specs.Histories.{history, stamped_content}
use Rattle.tree_model.specs.Mending.{joined_content}
use Rattle.tree_model.specs.Same.{is_given}
use Rattle.tree_model.specs.State.{TreeState, kept_of}
use Rattle.tree_model.specs.Tree.{once_acted, tree_of}
use Rattle.tree_model.specs.Working.{are_several, effect_on, free_pages, is_target, list_of, operated_by, result_on, work_after}
use Rattle.lawful_trace.specs.Progress.{outcome_answer}
use Rattle.lawful_trace.specs.Tables.{begun, call_of_act}
use Rattle.lawful_trace.specs.TreeRows.{IsCallIn, granted_group}
use Rattle.tree_laws.specs.Calls.{heard, log, script}
use Rattle.tree_laws.specs.Following.{IsFollowed, MayTell}
use Rattle.tree_laws.specs.Instances.{instance_now}
use Rattle.tree_laws.specs.Past.{WasReleased}
use Rattle.tree_laws.specs.Printed.{entries}
use Rattle.tree_laws.proofs.Awaiting.{by_owner}
use Rattle.tree_laws.proofs.Owing.{InGroup, found_every, in_group}
use Rattle.tree_laws.proofs.OwnWalks.{walks_own}
use Rattle.tree_laws.proofs.Rows.{followed_rows}
use Rattle.tree_laws.proofs.Scripts.{script_stays}
use Rattle.tree_laws.specs.Orders.Joining.{PacksAreOfSites}
use Rattle.tree_laws.proofs.Orders.Keeping.{file_eq}
use Rattle.tree_laws.proofs.Orders.Standing.{acted_keeps}
use Rattle.rest_laws.proofs.of_store_laws.Holdings.Distinct.{found_own, open_now, rows_names_apart}
use Rattle.rest_laws.proofs.of_store_laws.Holdings.Made.{CommitsAreNew}
use Rattle.rest_laws.proofs.of_store_laws.Holdings.MendMending.{mends_now}
use Rattle.rest_laws.specs.of_store_laws.Holdings.MendWorking.{MendsNow}
use Rattle.rest_laws.proofs.of_store_laws.OneTree.RemovePlaced.{Placed, Taken, taken_so}
use Rattle.rest_laws.proofs.of_store_laws.AnswerAnswering.{acter_in}
use Rattle.rest_laws.proofs.of_store_laws.Places.{open_is}
use Rattle.rest_laws.proofs.of_store_laws.ScriptFitted.{Began, began}
use Rattle.rest_laws.specs.Fits.EntryEntries.{MakesMessage}
use Rattle.rest_laws.proofs.Fits.EntryActing.{acter_is, asks_now, changed_plain, written_plain}
use Rattle.rest_laws.proofs.Fits.EntryFacts.{IsKnown, IsPlain, makes_stay, plain_stays}
use Rattle.rest_laws.proofs.Fits.EntryNamed.{trace_named}
use Rattle.rest_laws.proofs.Fits.EntryWalking.{AsksBy}
use Rattle.headline_laws.specs.Boxes.Boxes.{deeds, done_after, handles, is_among, is_handled, is_mail, makings, named_in, names_inserted, names_removed}
use Rattle.headline_laws.proofs.Boxes.Boxing.{box_same}
use Rattle.headline_laws.proofs.Boxes.Granting.{Mender}
use Rattle.headline_laws.proofs.Boxes.Keeping.{AllBoxes, AsksMend, AtWork, BoxOf, HasBox, Holds, Idle, IsIdle, IsMended, IsOrdinary, Mended, OfFile, OfMessage, Ordinary, bases, bases_same, box_later, last_stands, said, seat}
use Rattle.headline_laws.proofs.Boxes.Levels.{level}
use Rattle.headline_laws.proofs.Boxes.Mending.{MendsOnce, OnlyMends}
use Rattle.headline_laws.proofs.Boxes.Merging.{nothing_box}
use Rattle.headline_laws.proofs.Boxes.Puts.{At, MadeOnce, MailsAreLow, Put, Saw, put_new, put_now, saw_one}
use Rattle.std.specs.Option.{option_map}
use Rattle.tree_laws.proofs.Orders.ProcessCounted.{acts_now}
use Rattle.rest_laws.proofs.of_store_laws.Holdings.Released.{released_shut}
use Rattle.rest_laws.proofs.of_store_laws.AnswerDone.{open_grant}
use Rattle.headline_laws.proofs.Boxes.Boxing.{found_passes}
use Rattle.headline_laws.proofs.Boxes.Acting.{Effective, effective, left_content, mended_box, mended_content, mails, no_mend, none_level, refused_alike, refused_work}
use Rattle.headline_laws.proofs.Boxes.Operating.{as_now, deeds_done, deeds_refused, gave, mender_of, mender_script, merging_bases, only_mends, ordinary_now, removed_now, same_now}

abbrev With : ℕ → Told → List Line → List Line
With n x older = record { number = n; told = x } ∷ older

abbrev TellsAct : Config → List Line → EpochId → Serial → ℕ → Outcome → Op → Type 0
TellsAct c older e i k result o = MayTell c older (Shown (says.Act e i k o result))

-- ---- mends ----

module _ (c : Config) (packs : PacksAreOfSites c) (n : ℕ) (older : List Line) (h : IsFollowed c older) (so : AllBoxes c older) (low : MailsAreLow older) (e : EpochId) (i : Serial) (k : ℕ) (o : Op) (result : Outcome) (may : MayTell c older (Shown (says.Act e i k o result))) (once : MadeOnce c (With n (Shown (says.Act e i k o result)) older)) (handled : is_handled (entries older) (says.Act e i k o result) ≡ true) (y : Instance) (was : instance_now c older e i ≡ Some y) where
  abbrev r : Record
  r = says.Act e i k o result

  abbrev before : Trace
  before = entries older

  abbrev past : List Version
  past = history c before

  abbrev now : List Line
  now = With n (Shown r) older

  abbrev u : TreeState
  u = tree_of c e (granted_group before e i) before

  abbrev new : Instance
  new = once_acted past u o result y

  abbrev f : FileId
  f = y.grant.file

  abbrev d : CallId
  d = may.in_time.call

  abbrev AtNow : Type 0
  AtNow = AtWork c now e i new

  found_now : instance_now c now e i ≡ Some new
  found_now = acts_now c n older e i k o result y.grant.call y h (open_grant c older h e (granted_group before e i) i y was) was

  live : WasReleased now e i → ⊥
  live q = released_shut c now (may, h) e i new q found_now

  acter : ((d ≡ y.grant.call) × (begun before d ≡ Some (begins.Walks d))) ⊎ (((begun before d ≡ Some (begins.Uses e i)) × IsPlain c older f) ⊎ (is_read y.grant.mode ≡ true))
  acter = acter_is c older h (trace_named c packs older h).calls e i y was k d o may.in_time.owner may.in_time.asks

  file_now : IsPlain c older f → AtNow
  file_now p = OfFile (plain_stays c n (Shown r) older h may f p)

  message_now : MakesMessage older y.grant → AtNow
  message_now m = OfMessage (makes_stay c n (Shown r) older h may y.grant m)

  module _ (mends : y.grant.mode ≡ mode.Mend) (own : d ≡ y.grant.call) (walks : begun before d ≡ Some (begins.Walks d)) where
    mender : Mender older d f
    mender = subst (λ (z : CallId). Mender older z f) (sym own) (mender_of c older h e i y was mends)

    asks_once : MendsOnce (script c before d None)
    asks_once = mender_script c older d f mender walks

    -- what was mended isn't mended again
    mended_none : IsMended c older y → ⊥
    mended_none m = asks_once.once taken.before taken.given taken.after taken.fits.inst i op.Mend o (taken.script_is ∙ taken.fits.asked) (ap (script c before d None) (sym taken.log_is) ∙ may.in_time.asks.asked)
      where
        taken : Taken c older d AsksMend
        taken = taken_so c older d AsksMend may.in_time.asks.nothing_waits (subst (λ (z : CallId). Placed c older z AsksMend) (sym own) m.placed)

    is_mend : o ≡ op.Mend
    is_mend = only_mends i o (subst OnlyMends may.in_time.asks.asked (asks_once.mends (log older d)))

    works : new.work ≡ operated_by result (effect_on past u op.Mend y) y.work
    works = ap (λ (p : Op). work_after past u p result y) is_mend

    no_look : (g : FileId) (w : What) → want.Do i op.Mend ≡ want.Look g w → ⊥
    no_look g w q = cc

    placed : Placed c now d AsksMend
    placed = record {
      before = log older d;
      given = outcome_answer result;
      asked = want.Do i op.Mend;
      script_is = script_stays c n (Shown r) older d None (log older d) h may (mender.caller, mender.named) ∙ (may.in_time.asks.asked ∙ ap (λ (p : Op). want.Do i p) is_mend);
      request = refl;
      no_look = no_look;
      fits = record { inst = i; asked = refl };
      place = inl (refl, by_owner (call_of_act before e i k) d _ (heard c older d) may.in_time.owner ∙ ap (λ (xs : List Answer). xs ++ outcome_answer result ∷ []) may.in_time.asks.nothing_waits);
    }

    module _ (id : IsIdle older e i y) where
      abbrev kept : List Stamp
      kept = kept_of past (tree_of c e f.group before) f

      bases_are : bases c now e new ≡ kept
      bases_are = merging_bases past (tree_of c e f.group (entries now)) new mends (acted_keeps past u o result y ∙ id.first)
          ∙ (sym (merging_bases past (tree_of c e f.group (entries now)) y mends id.first)
          ∙ (bases_same c packs n r older h may tt once e i y was live ∙ merging_bases past (tree_of c e f.group before) y mends id.first))

      said_are : (names : List Op → List (List ℕ)) → names (op.Mend ∷ []) ≡ [] → is_refusal result ≡ false → said names c now e i new ≡ flat_map (named_in names (makings c before) f) kept
      said_are names none q = ap (λ (l : List Op). names l ++ flat_map (named_in names (makings c before) f) (bases c now e new)) (deeds_done c packs n older h so low e i k o result may once handled y was q ∙ (ap (λ (p : Op). done_after p (deeds before e i)) is_mend ∙ ap (λ (l : List Op). op.Mend ∷ l) id.bare))
          ∙ (ap (λ (l : List (List ℕ)). l ++ flat_map (named_in names (makings c before) f) (bases c now e new)) none ∙ ap (λ (ss : List Stamp). flat_map (named_in names (makings c before) f) ss) bases_are)

      idle_now : AtNow
      idle_now = over (is_refusal result) refl
        where
          over : (a : Bool) → is_refusal result ≡ a → AtNow
          over true q = Idle (record {
            mode_is = mends;
            first = acted_keeps past u o result y ∙ id.first;
            idle = ap (λ (w : Work). w.owes) (works ∙ refused_work result (effect_on past u op.Mend y) y.work q) ∙ id.idle;
            bare = deeds_refused c packs n older h so low e i k o result may once handled y was q ∙ id.bare;
          })
          over false q = at (mended_box c older so f packs h e)
            where
              it : Effective (effect_on past u op.Mend y)
              it = effective (free_pages past u y.grant.ss) y.work.changed (effect_on past u op.Mend y) result (subst (λ (p : Op). is_given (result_on past u p y) result ≡ true) is_mend (gave c packs n older h so low e i k o result may once handled y was)) q

              content : new.work.content ≡ joined_content past (tree_of c e f.group before) f
              content = ap (λ (w : Work). w.content) works ∙ (left_content result (effect_on past u op.Mend y) y.work q it.effect it.is
                  ∙ (mended_content y.work.content (are_several (kept_of past u f)) (joined_content past u f) it.effect it.is it.done ∙ ap (λ (g : ℕ). joined_content past (tree_of c e g before) f) (sym (seat c older h e i y was).group_is)))

              at : Holds c older f (is_among (flat_map (named_in names_inserted (makings c before) f) kept)) (is_among (flat_map (named_in names_removed (makings c before) f) kept)) (joined_content past (tree_of c e f.group before) f) → AtNow
              at (inl p) = file_now p
              at (inr b) = Mended (record { mode_is = mends; placed = subst (λ (z : CallId). Placed c now z AsksMend) own placed })
                  (box_same (Put c now f.group) (Saw c now f.group) (is_among (flat_map (named_in names_inserted (makings c before) f) kept)) (is_among (flat_map (named_in names_removed (makings c before) f) kept)) (is_among (said names_inserted c now e i new)) (is_among (said names_removed c now e i new)) (entries_of new.work.content)
                  (λ z. ap (λ (l : List (List ℕ)). is_among l z) (sym (said_are names_inserted refl q))) (λ z. ap (λ (l : List (List ℕ)). is_among l z) (sym (said_are names_removed refl q)))
                  (subst (λ (l : List ℕ). BoxOf c now f.group (is_among (flat_map (named_in names_inserted (makings c before) f) kept)) (is_among (flat_map (named_in names_removed (makings c before) f) kept)) (entries_of l)) (sym content)
                  (box_later c n (Shown r) older h may tt once f.group (is_among (flat_map (named_in names_inserted (makings c before) f) kept)) (is_among (flat_map (named_in names_removed (makings c before) f) kept)) (entries_of (joined_content past (tree_of c e f.group before) f)) b)))

  -- whatever the instance is, where it is an ordinary one by what its operation does
  module _ (commits : CommitsAreNew c before) (ordinary : IsOrdinary y.grant.mode → HasBox c older e i y → AtNow) where
    -- what is only read isn't mended
    unmended : is_read y.grant.mode ≡ true → y.grant.mode ≡ mode.Mend → ⊥
    unmended reads m = false_true (sym (ap is_read m) ∙ reads)

    pub acted_by : AtNow
    acted_by = over acter (so.instances e i y was)
      where
        over : ((d ≡ y.grant.call) × (begun before d ≡ Some (begins.Walks d))) ⊎ (((begun before d ≡ Some (begins.Uses e i)) × IsPlain c older f) ⊎ (is_read y.grant.mode ≡ true)) → AtWork c older e i y → AtNow
        over (inr (inl a)) w = file_now a.1
        over (inr (inr reads)) (OfFile p) = file_now p
        over (inr (inr reads)) (OfMessage m) = message_now m
        over (inr (inr reads)) (Idle id) = absurd (unmended reads id.mode_is)
        over (inr (inr reads)) (Mended m b) = absurd (unmended reads m.mode_is)
        over (inr (inr reads)) (Ordinary m b) = ordinary m b
        over (inl a) (OfFile p) = file_now p
        over (inl a) (OfMessage m) = message_now m
        over (inl a) (Idle id) = idle_now id.mode_is a.0 a.1 id
        over (inl a) (Mended m b) = absurd (mended_none m.mode_is a.0 a.1 m)
        over (inl a) (Ordinary m b) = ordinary m b

-- ---- ordinary operations ----

module _ (c : Config) (packs : PacksAreOfSites c) (n : ℕ) (older : List Line) (h : IsFollowed c older) (so : AllBoxes c older) (low : MailsAreLow older) (commits : CommitsAreNew c (entries older)) (e : EpochId) (i : Serial) (k : ℕ) (result : Outcome) (y : Instance) (was : instance_now c older e i ≡ Some y) where
  abbrev earlier : Trace
  earlier = entries older

  abbrev gone_by : List Version
  gone_by = history c earlier

  abbrev tree : TreeState
  tree = tree_of c e (granted_group earlier e i) earlier

  abbrev file : FileId
  file = y.grant.file

  abbrev After : Op → Type 0
  After o = AtWork c (With n (Shown (says.Act e i k o result)) older) e i (once_acted gone_by tree o result y)

  abbrev Handled : Op → Type 0
  Handled o = is_handled earlier (says.Act e i k o result) ≡ true

  abbrev Once : Op → Type 0
  Once o = MadeOnce c (With n (Shown (says.Act e i k o result)) older)

  -- what mail and unlink do is told of
  handles_it : (o : Op) (may : TellsAct c older e i k result o) → Handled o → is_refusal result ≡ false → handles (words_named earlier (Some may.in_time.call)) o ≡ true
  handles_it o may handled q = subst (λ (z : Option CallId). handles (words_named earlier z) o ≡ true) may.in_time.owner (or_other (is_refusal result) (handles (words_named earlier (call_of_act earlier e i k)) o) q handled)

  -- who inserts walks
  inserter_walks : (d : CallId) (w : Waiting) → call_named earlier d ≡ Some w → (j : Serial) (name : List ℕ) (ino : ℕ) (kd : Kind) → script c earlier d None (log older d) ≡ want.Do j (op.Insert name ino kd) → begun earlier d ≡ Some (begins.Walks d)
  inserter_walks d w named j name ino kd asked = started.begun_is ∙ ap Some (over begin refl (asks_now c older h (trace_named c packs older h).calls d w begin named started.begun_is (want.Do j (op.Insert name ino kd)) asked))
    where
      started : Began older d w
      started = began older d w named

      begin : Beginning
      begin = beginning started.table w.epoch d w.words

      over : (b : Beginning) → begin ≡ b → AsksBy (IsKnown c older) w.words b (want.Do j (op.Insert name ino kd)) → b ≡ begins.Walks d
      over (begins.Walks x) q z = ap begins.Walks (walks_own started.table w.epoch d w.words x q)
      over (begins.Uses at n) q z = absurd z
      over (begins.Denied why) q z = absurd z
      over (begins.Reopens version last) q z = absurd z
      over begins.Frees q z = absurd z

  -- the file of a name that is taken out was seen whole
  saw_target : (name : List ℕ) (ino : ℕ) (may : TellsAct c older e i k result (op.Remove name ino)) (once : Once (op.Remove name ino)) (x : Instance) (s : Stamp) → find (is_target y.grant.call ino) tree.instances ≡ Some x → x.work.last ≡ Some s →
      Put c (With n (Shown (says.Act e i k (op.Remove name ino) result)) older) file.group name ino → Saw c (With n (Shown (says.Act e i k (op.Remove name ino) result)) older) file.group ino (vector_of gone_by x.grant.file s)
  saw_target name ino may once x s found last put = subst (λ (g : FileId). Saw c (With n (Shown (says.Act e i k (op.Remove name ino) result)) older) file.group ino (vector_of gone_by g s)) (sym file_is)
      (saw_one c (With n (Shown (says.Act e i k (op.Remove name ino) result)) older) once file.group ino put.listed s (subst (λ (g : FileId). is_in gone_by g s ≡ true) file_is stands))
    where
      file_is : x.grant.file ≡ At file.group ino
      file_is = file_eq x.grant.file (At file.group ino) (found_every (InGroup (granted_group earlier e i)) (is_target y.grant.call ino) tree.instances x found (in_group c e (granted_group earlier e i) earlier) ∙ sym (seat c older h e i y was).group_is)
          (equal x.grant.file.ino ino (and_second (same_call x.grant.call y.grant.call) (x.grant.file.ino == ino) (found_passes (is_target y.grant.call ino) tree.instances x found)))

      open_too : instance_now c older e x.grant.inst ≡ Some x
      open_too = open_now c older h e (granted_group earlier e i) x.grant.inst x (found_own (is_target y.grant.call ino) tree.instances x (rows_names_apart c earlier (followed_rows c older h) e (granted_group earlier e i)) found)

      stands : is_in gone_by x.grant.file s ≡ true
      stands = (last_stands c older h e x.grant.inst x open_too (Some s) last).0

  module _ (m : IsOrdinary y.grant.mode) (b : HasBox c older e i y) where
    inserted_now : (name : List ℕ) (ino : ℕ) (kd : Kind) (may : TellsAct c older e i k result (op.Insert name ino kd)) → Handled (op.Insert name ino kd) → is_refusal result ≡ false → is_message name ≡ true →
        Put c (With n (Shown (says.Act e i k (op.Insert name ino kd) result)) older) file.group name ino × (level (entries_of y.work.content) name ≡ 0)
    inserted_now name ino kd may handled q message = (
      put_now c n older h e i k name ino kd result may inside.accepted mail.0 mail.1 inside.named mail.2 walks message q file.group (sym (seat c older h e i y was).group_is),
      none_level (Put c older file.group) (Saw c older file.group) name message (λ a p. put_new c older low may.in_time.call inside.accepted mail.0 mail.1 inside.named mail.2 walks i name ino kd may.in_time.asks file.group a p) (entries_of y.work.content) b.each,
    )
      where
        inside : IsCallIn earlier e may.in_time.call
        inside = acter_in c older e i k (op.Insert name ino kd) result may

        walks : begun earlier may.in_time.call ≡ Some (begins.Walks may.in_time.call)
        walks = inserter_walks (may.in_time.call) inside.accepted inside.named i name ino kd may.in_time.asks.asked

        mail : (path : List ℕ) × (bytes : List ℕ) × (inside.accepted.words ≡ call.Mail path bytes)
        mail = mails inside.accepted.words (subst (λ (z : Option Waiting). is_mail (option_map (λ (w : Waiting). w.words) z) ≡ true) inside.named
            (or_other (not (is_message name)) (is_mail (words_named earlier (Some may.in_time.call))) (ap not message) (handles_it (op.Insert name ino kd) may handled q)))

    -- an abort goes back to the last version
    abort_now : (may : TellsAct c older e i k result op.Abort) (once : Once op.Abort) (handled : Handled op.Abort) → After op.Abort
    abort_now may once handled = over y.work.last refl
      where
        done : is_refusal result ≡ false
        done = sym (refused_alike outcome.Done result (gave c packs n older h so low e i k op.Abort result may once handled y was))

        none : deeds (entries (With n (Shown (says.Act e i k op.Abort result)) older)) e i ≡ []
        none = deeds_done c packs n older h so low e i k op.Abort result may once handled y was done

        below : (names : List Op → List (List ℕ)) (s : Stamp) → y.work.last ≡ Some s → (z : List ℕ) → is_among (named_in names (makings c earlier) file s) z ≡ is_among (flat_map (named_in names (makings c earlier) file) (list_of y.work.last)) z
        below names s last z = ap (λ (l : List (List ℕ)). is_among l z) (sym (append-nil (named_in names (makings c earlier) file s))) ∙ ap (λ (x : Option Stamp). is_among (flat_map (named_in names (makings c earlier) file) (list_of x)) z) (sym last)

        over : (l : Option Stamp) → y.work.last ≡ l → After op.Abort
        over None last = ordinary_now c packs n older h so low e i k op.Abort result may once handled y was m [] none (λ z. false) (λ z. false)
            (λ z. ap (λ (x : Option Stamp). is_among (flat_map (named_in names_inserted (makings c earlier) file) (list_of x)) z) (sym last)) (λ z. ap (λ (x : Option Stamp). is_among (flat_map (named_in names_removed (makings c earlier) file) (list_of x)) z) (sym last))
            (subst (λ (x : Option Stamp). BoxOf c (With n (Shown (says.Act e i k op.Abort result)) older) file.group (λ z. false) (λ z. false) (entries_of (stamped_content gone_by file x))) (sym last) (nothing_box (Put c (With n (Shown (says.Act e i k op.Abort result)) older) file.group) (Saw c (With n (Shown (says.Act e i k op.Abort result)) older) file.group)))
        over (Some s) last = at (so.versions file s)
          where
            at : Holds c older file (is_among (named_in names_inserted (makings c earlier) file s)) (is_among (named_in names_removed (makings c earlier) file s)) (content_of gone_by file s) → After op.Abort
            at (inl p) = OfFile (plain_stays c n (Shown (says.Act e i k op.Abort result)) older h may file p)
            at (inr v) = ordinary_now c packs n older h so low e i k op.Abort result may once handled y was m [] none (is_among (named_in names_inserted (makings c earlier) file s)) (is_among (named_in names_removed (makings c earlier) file s)) (below names_inserted s last) (below names_removed s last)
                (subst (λ (x : Option Stamp). BoxOf c (With n (Shown (says.Act e i k op.Abort result)) older) file.group (is_among (named_in names_inserted (makings c earlier) file s)) (is_among (named_in names_removed (makings c earlier) file s)) (entries_of (stamped_content gone_by file x))) (sym last)
                (box_later c n (Shown (says.Act e i k op.Abort result)) older h may tt once file.group (is_among (named_in names_inserted (makings c earlier) file s)) (is_among (named_in names_removed (makings c earlier) file s)) (entries_of (content_of gone_by file s)) v))

    commit_now : (may : TellsAct c older e i k result op.Commit) (once : Once op.Commit) (handled : Handled op.Commit) → After op.Commit
    commit_now may once handled = over (is_refusal result) refl
      where
        over : (a : Bool) → is_refusal result ≡ a → After op.Commit
        over true q = same_now c packs n older h so low e i k op.Commit result may once handled y was m b (deeds earlier e i) (deeds_refused c packs n older h so low e i k op.Commit result may once handled y was q) refl refl refl
        over false q = same_now c packs n older h so low e i k op.Commit result may once handled y was m b (op.Commit ∷ deeds earlier e i) (deeds_done c packs n older h so low e i k op.Commit result may once handled y was q) refl refl refl

    ordinary_acts : (o : Op) (may : TellsAct c older e i k result o) (once : Once o) (handled : Handled o) → After o
    ordinary_acts (op.Probe name) may once handled = as_now c packs n older h so low e i k (op.Probe name) result may once handled y was refl refl refl tt m b (λ q. tt)
    ordinary_acts (op.Find component) may once handled = as_now c packs n older h so low e i k (op.Find component) result may once handled y was refl refl refl tt m b (λ q. tt)
    ordinary_acts (op.Insert name ino kd) may once handled = as_now c packs n older h so low e i k (op.Insert name ino kd) result may once handled y was refl refl refl tt m b (λ q g. inserted_now name ino kd may handled q g)
    ordinary_acts (op.Remove name ino) may once handled = removed_now c packs n older h so low e i k (op.Remove name ino) result may once handled y was refl refl name ino (find (is_target y.grant.call ino) tree.instances) refl refl m b (λ x s found last g p. saw_target name ino may once x s found last p)
    ordinary_acts (op.Rename component name) may once handled = as_now c packs n older h so low e i k (op.Rename component name) result may once handled y was refl refl refl tt m b (λ q. (
      not_true (is_message name) (and_first (not (is_message name)) (not (is_message (plain_name component))) (handles_it (op.Rename component name) may handled q)),
      not_true (is_message (plain_name component)) (and_second (not (is_message name)) (not (is_message (plain_name component))) (handles_it (op.Rename component name) may handled q)),
    ))
    ordinary_acts op.Empty may once handled = as_now c packs n older h so low e i k op.Empty result may once handled y was refl refl refl tt m b (λ q. tt)
    ordinary_acts (op.Read at len) may once handled = as_now c packs n older h so low e i k (op.Read at len) result may once handled y was refl refl refl tt m b (λ q. tt)
    ordinary_acts (op.Write at bytes) may once handled = over (written_plain c older h (trace_named c packs older h).calls e i k (op.Write at bytes) result may y was at bytes refl)
      where
        over : IsPlain c older file ⊎ MakesMessage older y.grant → After (op.Write at bytes)
        over (inl p) = OfFile (plain_stays c n (Shown (says.Act e i k (op.Write at bytes) result)) older h may file p)
        over (inr p) = OfMessage (makes_stay c n (Shown (says.Act e i k (op.Write at bytes) result)) older h may y.grant p)
    ordinary_acts (op.Cut len) may once handled = OfFile (plain_stays c n (Shown (says.Act e i k (op.Cut len) result)) older h may file (changed_plain c older h (trace_named c packs older h).calls e i k (op.Cut len) result may y was refl (λ words z. z)))
    ordinary_acts op.Mend may once handled = absurd (no_mend y.grant.mode m (open_is c older h e may.in_time.call now.request i mode.Mend now.file now.stamp now.place y now.was was).0)
      where
        now : MendsNow c older e may.in_time.call i
        now = mends_now c older e may.in_time.call i packs h commits (acter_in c older e i k op.Mend result may) may.in_time.asks
    ordinary_acts op.Commit may once handled = commit_now may once handled
    ordinary_acts op.Abort may once handled = abort_now may once handled

  -- what is done on an open instance leaves it so
  pub acted_work : (o : Op) (may : TellsAct c older e i k result o) (once : Once o) (handled : Handled o) → After o
  acted_work o may once handled = acted_by c packs n older h so low e i k o result may once handled y was commits (λ m b. ordinary_acts m b o may once handled)
