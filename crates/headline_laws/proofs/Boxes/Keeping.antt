-- Along the trace: the content of each version of a directory, and of each open instance of one, has the messages that were put in and not taken out.
use Rattle.std.proofs.Common.{◌≡◌, ℕ, Bool, true, false, not, ◌&&◌, cond, List, [], ◌∷◌, ◌++◌, Option, Some, None, refl, sym, ◌∙◌, ap, subst, ◌⊎◌, inl, inr}
use Rattle.std.specs.List.{AllByRecursion, flat_map}
use Rattle.std.specs.Option.{is_none}
use Rattle.plain_facts.proofs.Options.{some_same}
use Rattle.plain_facts.proofs.Tests.{false_unless}
use Rattle.locus_ids.specs.declared.config.Config.{Config}
use Rattle.locus_ids.specs.declared.ids.EpochId.{EpochId}
use Rattle.locus_ids.specs.declared.ids.FileId.{FileId}
use Rattle.locus_ids.specs.declared.ids.Mode.{Mode}
use Rattle.locus_ids.specs.declared.ids.Mode.TheVariants as mode
use Rattle.locus_ids.specs.declared.ids.Serial.{Serial}
use Rattle.locus_ids.specs.declared.ids.Stamp.{Stamp}
use Rattle.commit_graph.specs.Versions.{content_of, is_covered, is_in}
use Rattle.commit_graph.specs.declared.history.Version.{Version}
use Rattle.trace_book.specs.Same.{same_epoch, same_serial}
use Rattle.trace_book.specs.declared.operation.Op.{Op}
use Rattle.trace_book.specs.declared.operation.Op.TheVariants as op
use Rattle.trace_book.specs.declared.record.Record.{Record}
use Rattle.trace_book.specs.declared.record.Record.TheVariants as says
use Rattle.dir_format.specs.declared.entry.Entry.{Entry}
use Rattle.dir_format.specs.Contents.{entries_of}
use Rattle.dir_format.proofs.Tests.{all_weaker}
use Rattle.role_steps.specs.Views.{Told, Shown}
use Rattle.the_run.specs.Worlds.{Line}
use Rattle.tree_model.specs.declared.instance.Instance.{Instance}
use Rattle.tree_model.specs.Epochs.{epoch_of}
use Rattle.tree_model.specs.Files.{committing}
use Rattle.tree_model.specs.Folds.{Trace}
use Rattle.tree_model.specs.Histories.{history}
use Rattle.tree_model.specs.State.{TreeState, held_at, instance_in, kept_of, stamps_of}
use Rattle.tree_model.specs.Tree.{tree_of}
use Rattle.tree_model.specs.Working.{list_of, merges, parents_of}
use Rattle.lawful_trace.specs.TreeRows.{granted_group}
use Rattle.tree_laws.specs.Following.{IsFollowed, MayTell}
use Rattle.tree_laws.specs.Frames.{IsFresh}
use Rattle.tree_laws.specs.Instances.{instance_now}
use Rattle.tree_laws.specs.Past.{WasReleased}
use Rattle.tree_laws.specs.Printed.{entries}
use Rattle.tree_laws.proofs.Grants.{Had, before_record, open_named}
use Rattle.tree_laws.proofs.Kinship.{Ends, StaysOpen, open_stays, tree_epoch_is}
use Rattle.tree_laws.proofs.Names.{same_epoch_eq, same_serial_eq}
use Rattle.tree_laws.proofs.Opened.{GrantsIt}
use Rattle.tree_laws.proofs.Rows.{followed_rows}
use Rattle.tree_laws.specs.Orders.Joining.{PacksAreOfSites}
use Rattle.tree_laws.specs.Orders.Keeping.{PassesBy}
use Rattle.tree_laws.proofs.Orders.Keeping.{others_stand}
use Rattle.tree_laws.proofs.Orders.Lists.{all_filtered}
use Rattle.rest_laws.proofs.of_store_laws.Holdings.Begun.{open_in_group, open_seat}
use Rattle.rest_laws.proofs.of_store_laws.Holdings.Kept.{open_keeps}
use Rattle.rest_laws.proofs.of_store_laws.Holdings.Made.{candidates_stand, held_stand}
use Rattle.rest_laws.proofs.of_store_laws.Holdings.Released.{released_shut}
use Rattle.rest_laws.proofs.of_store_laws.Holdings.Seats.{Seat}
use Rattle.rest_laws.proofs.of_store_laws.OneTree.RemovePlaced.{Placed, placed_more}
use Rattle.rest_laws.specs.Fits.EntryEntries.{MakesMessage}
use Rattle.rest_laws.proofs.Fits.EntryFacts.{IsPlain, makes_stay, plain_stays}
use Rattle.call_rules.specs.declared.answer.Answer.{Answer}
use Rattle.call_rules.specs.declared.want.Want.{Want}
use Rattle.call_rules.specs.declared.want.Want.TheVariants as want
use Rattle.headline_laws.specs.Boxes.Boxes.{deeds, deeds_by, inserted, is_among, makings, named_in, names_inserted, names_removed, removed}
use Rattle.headline_laws.proofs.Boxes.Boxing.{Box, Good, box_same}
use Rattle.headline_laws.proofs.Boxes.Puts.{MadeOnce, Put, Saw, put_later, saw_later}

abbrev With : ℕ → Told → List Line → List Line
With n x older = record { number = n; told = x } ∷ older

-- ---- what holds of a trace ----

abbrev pub BoxOf : Config → List Line → ℕ → (put taken : List ℕ → Bool) → List Entry → Type 0
BoxOf c t group put taken ds = Box (Put c t group) (Saw c t group) put taken ds

-- the content is one of a file that is no directory, or it is a box
abbrev pub Holds : Config → List Line → FileId → (put taken : List ℕ → Bool) → List ℕ → Type 0
Holds c t f put taken content = IsPlain c t f ⊎ BoxOf c t f.group put taken (entries_of content)

-- the versions on which the next version of an open instance comes to stand
abbrev pub bases : Config → List Line → EpochId → Instance → List Stamp
bases c t e x = parents_of (history c (entries t)) (tree_of c e x.grant.file.group (entries t)) x

-- the names of deeds on an open instance, and in the versions below
abbrev pub said : (List Op → List (List ℕ)) → Config → List Line → EpochId → Serial → Instance → List (List ℕ)
said names c t e i x = names (deeds (entries t) e i) ++ flat_map (named_in names (makings c (entries t)) x.grant.file) (bases c t e x)

abbrev pub HasBox : Config → List Line → EpochId → Serial → Instance → Type 0
HasBox c t e i x = BoxOf c t x.grant.file.group (is_among (said names_inserted c t e i x)) (is_among (said names_removed c t e i x)) (entries_of x.work.content)

-- it is open to mend, and nothing was done
pub record IsIdle (t : List Line) (e : EpochId) (i : Serial) (x : Instance) : Type 0 where
  pub mode_is : x.grant.mode ≡ mode.Mend
  pub first : x.work.committed ≡ None
  pub idle : x.work.owes ≡ false
  pub bare : deeds (entries t) e i ≡ []

-- the request is to mend
pub record AsksMend (w : Want) (a : Answer) : Type 0 where
  pub inst : Serial
  pub asked : w ≡ want.Do inst op.Mend

-- it was mended, as its call asked
pub record IsMended (c : Config) (t : List Line) (x : Instance) : Type 0 where
  pub mode_is : x.grant.mode ≡ mode.Mend
  pub placed : Placed c t x.grant.call AsksMend

abbrev pub IsOrdinary : Mode → Type 0
IsOrdinary mode.Read = Unit {0}
IsOrdinary mode.Write = Unit {0}
IsOrdinary mode.Make = Unit {0}
IsOrdinary mode.Resolve = ⊥
IsOrdinary mode.Mend = ⊥

-- An open instance: of a file that is no directory, of a message that is made, of a directory that is to be mended, or a box.
pub data AtWork (c : Config) (t : List Line) (e : EpochId) (i : Serial) (x : Instance) : Type 0 where
  OfFile : IsPlain c t x.grant.file → AtWork c t e i x
  OfMessage : MakesMessage t x.grant → AtWork c t e i x
  Idle : IsIdle t e i x → AtWork c t e i x
  Mended : IsMended c t x → HasBox c t e i x → AtWork c t e i x
  Ordinary : IsOrdinary x.grant.mode → HasBox c t e i x → AtWork c t e i x

pub record AllBoxes (c : Config) (t : List Line) : Type 0 where
  pub versions : (f : FileId) (s : Stamp) → Holds c t f (is_among (inserted (makings c (entries t)) f s)) (is_among (removed (makings c (entries t)) f s)) (content_of (history c (entries t)) f s)
  pub instances : (e : EpochId) (i : Serial) (x : Instance) → instance_now c t e i ≡ Some x → AtWork c t e i x

-- ---- one line later ----

-- a box by the same names
pub same_box : (c : Config) (t : List Line) (g : ℕ) (ins outs more gone : List (List ℕ)) (ds : List Entry) → ((n : List ℕ) → is_among ins n ≡ is_among more n) → ((n : List ℕ) → is_among outs n ≡ is_among gone n) → BoxOf c t g (is_among ins) (is_among outs) ds → BoxOf c t g (is_among more) (is_among gone) ds
same_box c t g ins outs more gone ds p q b = box_same (Put c t g) (Saw c t g) (is_among ins) (is_among outs) (is_among more) (is_among gone) ds p q b

module _ (c : Config) (n : ℕ) (x : Told) (older : List Line) (h : IsFollowed c older) (may : MayTell c older x) (fresh : IsFresh c older x) (once : MadeOnce c (With n x older)) where
  good_later : (g : ℕ) (d : Entry) → Good (Put c older g) (Saw c older g) d → Good (Put c (With n x older) g) (Saw c (With n x older) g) d
  good_later g d k = record { put = put_later c n x older h may g d.name d.ino k.put; some = k.some; few = k.few; saw = λ e. saw_later c n x older h may fresh once g d.ino d.seen k.put.listed (k.saw e) }

  pub box_later : (g : ℕ) (p q : List ℕ → Bool) (ds : List Entry) → BoxOf c older g p q ds → BoxOf c (With n x older) g p q ds
  box_later g p q ds b = record { each = all_weaker (λ d k m. good_later g d (k m)) ds b.each; levels = b.levels }

  pub holds_later : (f : FileId) (p q : List ℕ → Bool) (content : List ℕ) → Holds c older f p q content → Holds c (With n x older) f p q content
  holds_later f p q content (inl k) = inl (plain_stays c n x older h may f k)
  holds_later f p q content (inr b) = inr (box_later f.group p q (entries_of content) b)

  pub mended_later : (y : Instance) → IsMended c older y → IsMended c (With n x older) y
  mended_later y k = record { mode_is = k.mode_is; placed = placed_more c n x older y.grant.call AsksMend h may k.placed }

  -- an open instance on which nothing was done, and on whose versions
  pub work_later : (e : EpochId) (i : Serial) (y : Instance) → deeds (entries (With n x older)) e i ≡ deeds (entries older) e i → said names_inserted c (With n x older) e i y ≡ said names_inserted c older e i y → said names_removed c (With n x older) e i y ≡ said names_removed c older e i y → AtWork c older e i y → AtWork c (With n x older) e i y
  work_later e i y same ins outs (OfFile k) = OfFile (plain_stays c n x older h may y.grant.file k)
  work_later e i y same ins outs (OfMessage k) = OfMessage (makes_stay c n x older h may y.grant k)
  work_later e i y same ins outs (Idle k) = Idle (record { mode_is = k.mode_is; first = k.first; idle = k.idle; bare = same ∙ k.bare })
  work_later e i y same ins outs (Mended k b) = Mended (mended_later y k) (moved b)
    where
      moved : HasBox c older e i y → HasBox c (With n x older) e i y
      moved z = subst (λ (l : List (List ℕ)). BoxOf c (With n x older) y.grant.file.group (is_among l) (is_among (said names_removed c (With n x older) e i y)) (entries_of y.work.content)) (sym ins)
          (subst (λ (l : List (List ℕ)). BoxOf c (With n x older) y.grant.file.group (is_among (said names_inserted c older e i y)) (is_among l) (entries_of y.work.content)) (sym outs)
          (box_later y.grant.file.group (is_among (said names_inserted c older e i y)) (is_among (said names_removed c older e i y)) (entries_of y.work.content) z))
  work_later e i y same ins outs (Ordinary k b) = Ordinary k (moved b)
    where
      moved : HasBox c older e i y → HasBox c (With n x older) e i y
      moved z = subst (λ (l : List (List ℕ)). BoxOf c (With n x older) y.grant.file.group (is_among l) (is_among (said names_removed c (With n x older) e i y)) (entries_of y.work.content)) (sym ins)
          (subst (λ (l : List (List ℕ)). BoxOf c (With n x older) y.grant.file.group (is_among (said names_inserted c older e i y)) (is_among l) (entries_of y.work.content)) (sym outs)
          (box_later y.grant.file.group (is_among (said names_inserted c older e i y)) (is_among (said names_removed c older e i y)) (entries_of y.work.content) z))

-- ---- a record ----

-- the versions on which an open instance stands, stand
module _ (c : Config) (t : List Line) (h : IsFollowed c t) (e : EpochId) (i : Serial) (x : Instance) (now : instance_now c t e i ≡ Some x) where
  abbrev at_hand : List Version
  at_hand = history c (entries t)

  pub seat : Seat e (granted_group (entries t) e i) (entries t) (tree_of c e (granted_group (entries t) e i) (entries t)) x
  seat = open_seat c t h e i x now

  pub last_stands : (o : Option Stamp) → x.work.last ≡ o → AllByRecursion (λ (s : Stamp). is_in at_hand x.grant.file s ≡ true) (list_of o)
  last_stands None k = tt
  last_stands (Some s) k = (
    held_stand c (entries t) (followed_rows c t h) e x.grant.file x.grant.ss s
        (subst (λ (g : ℕ). held_at (tree_of c e g (entries t)) x.grant.ss x.grant.file.ino ≡ Some s) (sym seat.group_is) (sym seat.last_is ∙ k)),
    tt,
  )

  kept_stand : AllByRecursion (λ (s : Stamp). is_in at_hand x.grant.file s ≡ true) (kept_of at_hand (tree_of c e x.grant.file.group (entries t)) x.grant.file)
  kept_stand = all_filtered (λ (s : Stamp). is_in at_hand x.grant.file s ≡ true) (λ a. not (is_covered at_hand x.grant.file (stamps_of (tree_of c e x.grant.file.group (entries t)).known x.grant.file.ino) a)) (stamps_of (tree_of c e x.grant.file.group (entries t)).known x.grant.file.ino)
      (candidates_stand c (entries t) (followed_rows c t h) e x.grant.file)

  pub bases_stand : AllByRecursion (λ (s : Stamp). is_in at_hand x.grant.file s ≡ true) (bases c t e x)
  bases_stand = over (merges x.grant.mode && is_none x.work.committed)
    where
      over : (b : Bool) → AllByRecursion (λ (s : Stamp). is_in at_hand x.grant.file s ≡ true) (cond b (kept_of at_hand (tree_of c e x.grant.file.group (entries t)) x.grant.file) (list_of x.work.last))
      over true = kept_stand
      over false = last_stands x.work.last refl

module _ (c : Config) (packs : PacksAreOfSites c) (n : ℕ) (r : Record) (older : List Line) (h : IsFollowed c older) (may : MayTell c older (Shown r)) (fresh : IsFresh c older (Shown r)) (once : MadeOnce c (With n (Shown r) older)) where
  abbrev before : Trace
  before = entries older

  abbrev past : List Version
  past = history c before

  abbrev now : List Line
  now = With n (Shown r) older

  -- names in a version that stood
  pub named_same : (names : List Op → List (List ℕ)) (f : FileId) (s : Stamp) → is_in past f s ≡ true → named_in names (makings c (entries now)) f s ≡ named_in names (makings c before) f s
  named_same names f s stands = by r fresh
    where
      by : (y : Record) → IsFresh c older (Shown y) → named_in names (makings c (record { line = n; what = y } ∷ before)) f s ≡ named_in names (makings c before) f s
      by (says.Commit g z stamp parents content) new = ap (λ (b : Bool). cond b (names (deeds_by before (epoch_of before z) (committing c before g z)) ++ flat_map (named_in names (makings c before) f) parents) (named_in names (makings c before) f s))
          (others_stand (record { file = g; site = z; stamp = stamp; parents = parents; content = content }) past f s (false_unless (is_in past g stamp) new) stands)
      by _ new = refl

  pub flat_same : (names : List Op → List (List ℕ)) (f : FileId) (ss : List Stamp) → AllByRecursion (λ (s : Stamp). is_in past f s ≡ true) ss → flat_map (named_in names (makings c (entries now)) f) ss ≡ flat_map (named_in names (makings c before) f) ss
  flat_same names f [] all = refl
  flat_same names f (s ∷ ss) all = ap (λ (l : List (List ℕ)). l ++ flat_map (named_in names (makings c (entries now)) f) ss) (named_same names f s all.0) ∙ ap (λ (l : List (List ℕ)). named_in names (makings c before) f s ++ l) (flat_same names f ss all.1)

  passes : (e : EpochId) (f : FileId) (i : Serial) → (WasReleased now e i → ⊥) → PassesBy c before e f i r
  passes e f i live = by r fresh live
    where
      by : (y : Record) → IsFresh c older (Shown y) → (WasReleased (With n (Shown y) older) e i → ⊥) → PassesBy c before e f i y
      by (says.Commit g z stamp parents content) new live = false_unless (is_in past g stamp) new
      by (says.Release at inst g stamp) new live = λ p q. live (inl (record { epoch_is = p; serial_is = q }))
      by _ new live = tt

  module _ (e : EpochId) (i : Serial) (x : Instance) (was : instance_now c older e i ≡ Some x) (live : WasReleased now e i → ⊥) where
    pub bases_same : bases c now e x ≡ bases c older e x
    bases_same = ap (λ (l : List Stamp). cond (merges x.grant.mode && is_none x.work.committed) l (list_of x.work.last))
        (open_keeps c before packs (followed_rows c older h) e x.grant.file i x (open_in_group c older h e i x was) refl n r may.row (passes e x.grant.file i live))

    pub said_same : (names : List Op → List (List ℕ)) → deeds (entries now) e i ≡ deeds before e i → said names c now e i x ≡ said names c older e i x
    said_same names same = ap (λ (l : List Op). names l ++ flat_map (named_in names (makings c (entries now)) x.grant.file) (bases c now e x)) same
        ∙ (ap (λ (ss : List Stamp). names (deeds before e i) ++ flat_map (named_in names (makings c (entries now)) x.grant.file) ss) bases_same
        ∙ ap (λ (l : List (List ℕ)). names (deeds before e i) ++ l) (flat_same names x.grant.file (bases c older e x) (bases_stand c older h e i x was)))

    -- an instance on which nothing is done
    pub unchanged : deeds (entries now) e i ≡ deeds before e i → AtWork c older e i x → AtWork c now e i x
    unchanged same k = work_later c n (Shown r) older h may fresh once e i x same (said_same names_inserted same) (said_same names_removed same) k

  -- ---- where an open instance comes from ----

  group_or : (e : EpochId) (i : Serial) → (granted_group (entries now) e i ≡ granted_group before e i) ⊎ GrantsIt e i r
  group_or e i = by r
    where
      by : (y : Record) → (granted_group (record { line = n; what = y } ∷ before) e i ≡ granted_group before e i) ⊎ GrantsIt e i y
      by (says.Grant at call request inst m f stamp ss) = over (same_epoch at e) (same_serial inst i) refl refl
        where
          over : (a b : Bool) → same_epoch at e ≡ a → same_serial inst i ≡ b → (cond (a && b) f.group (granted_group before e i) ≡ granted_group before e i) ⊎ GrantsIt e i (says.Grant at call request inst m f stamp ss)
          over true true p q = inr (same_epoch_eq at e p, same_serial_eq inst i q)
          over true false p q = inl refl
          over false b p q = inl refl
      by _ = inl refl

  -- it was open before, and stays, or is granted now
  pub record Stayed (e : EpochId) (i : Serial) (x : Instance) : Type 0 where
    pub old : Instance
    pub was : instance_now c older e i ≡ Some old
    pub live : WasReleased now e i → ⊥
    pub stays : StaysOpen c older n (Shown r) e i old
    pub is : stays.new ≡ x

  pub came : (e : EpochId) (i : Serial) (x : Instance) → instance_now c now e i ≡ Some x → Stayed e i x ⊎ GrantsIt e i r
  came e i x found = over (group_or e i)
    where
      u : TreeState
      u = tree_of c e (granted_group before e i) before

      live : WasReleased now e i → ⊥
      live k = released_shut c now (may, h) e i x k found

      stayed : (y : Instance) → instance_now c older e i ≡ Some y → StaysOpen c older n (Shown r) e i y ⊎ Ends e i (Shown r) → Stayed e i x
      stayed y was (inl s) = record { old = y; was = was; live = live; stays = s; is = some_same s.new x (sym s.found ∙ found) }
      stayed y was (inr k) = absurd (live (ended r k))
        where
          ended : (z : Record) → Ends e i (Shown z) → WasReleased (With n (Shown z) older) e i
          ended (says.Release at inst f stamp) q = inl (record { epoch_is = q.0; serial_is = q.1 })
          ended _ q = absurd q

      had : Had i u.instances ⊎ GrantsIt u.epoch i r → Stayed e i x ⊎ GrantsIt e i r
      had (inl y) = inl (stayed y.0 y.1 (open_stays c older n (Shown r) e i y.0 may (open_named c older e i y.0 y.1) y.1))
      had (inr g) = inr (subst (λ (z : EpochId). GrantsIt z i r) (tree_epoch_is c e (granted_group before e i) before) g)

      over : (granted_group (entries now) e i ≡ granted_group before e i) ⊎ GrantsIt e i r → Stayed e i x ⊎ GrantsIt e i r
      over (inr g) = inr g
      over (inl same) = had (before_record past u i x r (subst (λ (g : ℕ). instance_in (tree_of c e g (entries now)) i ≡ Some x) same found))
