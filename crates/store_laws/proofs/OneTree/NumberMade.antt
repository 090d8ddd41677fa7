-- Which call makes which file: what a storage site begins for a make, what it reserves, and what is open as a make.
use Rattle.std.proofs.Common.{◌≡◌, ℕ, ◌==◌, Bool, true, false, ◌&&◌, cond, List, [], ◌∷◌, ◌++◌, Option, Some, refl, sym, ◌∙◌, subst, ◌⊎◌, inl, inr}
use Rattle.std.specs.List.{AllByRecursion}
use Rattle.locus_ids.specs.declared.config.Config.{Config}
use Rattle.locus_ids.specs.declared.ids.CallId.{CallId}
use Rattle.locus_ids.specs.declared.ids.EpochId.{EpochId}
use Rattle.locus_ids.specs.declared.ids.FileId.{FileId}
use Rattle.locus_ids.specs.declared.ids.Mode.{Mode}
use Rattle.locus_ids.specs.declared.ids.Mode.TheVariants as mode
use Rattle.locus_ids.specs.declared.ids.Serial.{Serial}
use Rattle.locus_ids.specs.declared.ids.Stamp.{Stamp}
use Rattle.locus_ids.specs.declared.sites.Sites.{Sites}
use Rattle.commit_graph.specs.declared.history.Version.{Version}
use Rattle.trace_book.specs.Same.{same_epoch}
use Rattle.trace_book.specs.declared.record.Record.{Record}
use Rattle.trace_book.specs.declared.record.Record.TheVariants as says
use Rattle.wire_messages.specs.declared.body.Opening.TheVariants as how
use Rattle.role_steps.specs.Views.{Told, Shown, Begins, Reserves}
use Rattle.the_run.specs.Worlds.{Line}
use Rattle.tree_model.specs.declared.instance.Instance.{Instance}
use Rattle.tree_model.specs.Epochs.{members_of}
use Rattle.tree_model.specs.Histories.{history}
use Rattle.tree_model.specs.Packs.{is_good_set, making_site_in}
use Rattle.tree_model.specs.State.{TreeState, is_granted_here, is_inside, is_make, is_named, is_writer}
use Rattle.tree_model.specs.Lists.{change_first}
use Rattle.tree_model.specs.Tree.{acted, grant_of, joined, left, next, once_acted, once_committed, opened, released, tree_of, without_make}
use Rattle.tree_laws.specs.Following.{BeginsGranted, BeginsMade, IsFollowed, MakesInTime, MayTell}
use Rattle.tree_laws.specs.Instances.{AsksOpen}
use Rattle.tree_laws.specs.Packets.{serial_of}
use Rattle.tree_laws.specs.Past.{BeginsIt, DeedOf, ReservesIt, Was, WasBegun, WasNamed, WasReserved}
use Rattle.tree_laws.specs.Printed.{entries, onto_entries}
use Rattle.tree_laws.proofs.CarriedLooks.{More}
use Rattle.tree_laws.proofs.CarriedOpens.{asked_told}
use Rattle.tree_laws.proofs.Grants.{open_named}
use Rattle.tree_laws.proofs.Kinship.{tree_epoch_is}
use Rattle.tree_laws.proofs.Names.{same_epoch_eq}
use Rattle.tree_laws.proofs.Serials.{one_open}
use Rattle.tree_laws.proofs.Orders.Lists.{all_changed, all_more, all_then, all_without}
use Rattle.store_laws.specs.OneTree.MakeCallMade.{AsksMake, MakesFor, WasMadeFor}

-- ---- what is begun as a make ----

-- the call asks this make, and the site is to store its file
pub record MakesHere (c : Config) (trace : List Line) (e : EpochId) (ss : ℕ) (i : Serial) (f : FileId) (d : CallId) : Type 0 where
  pub set : Sites
  pub asks : AsksMake c trace e d i f.group set
  pub good : is_good_set c f.group (members_of (entries trace) e) set ≡ true
  pub at : making_site_in c f.group (members_of (entries trace) e) d.site set ≡ Some ss

abbrev pub MakesAt : Config → EpochId → ℕ → Serial → FileId → CallId → List Line → Told → Type 0
MakesAt c e ss i f d older (Begins s at inst file) = DeedOf ss e i f s at inst file × MakesHere c older e ss i f d
MakesAt c e ss i f d older _ = ⊥

-- the site has begun the instance as a make of this call, on this file
abbrev pub WasMadeAt : Config → List Line → EpochId → ℕ → Serial → FileId → CallId → Type 0
WasMadeAt c trace e ss i f d = Was (MakesAt c e ss i f d) trace

pub made_begun : (c : Config) (trace : List Line) (e : EpochId) (ss : ℕ) (i : Serial) (f : FileId) (d : CallId) → WasMadeAt c trace e ss i f d → WasBegun trace ss e i f
made_begun c [] e ss i f d k = absurd k
made_begun c (x ∷ older) e ss i f d (inr k) = inr (made_begun c older e ss i f d k)
made_begun c (x ∷ older) e ss i f d (inl k) = inl (over x.told k)
  where
    over : (y : Told) → MakesAt c e ss i f d older y → BeginsIt ss e i f older y
    over (Begins s at inst file) k = k.0
    over _ k = absurd k

pub made_for : (c : Config) (trace : List Line) (e : EpochId) (ss : ℕ) (i : Serial) (f : FileId) (d : CallId) → WasMadeAt c trace e ss i f d → WasMadeFor c trace e d i
made_for c [] e ss i f d k = absurd k
made_for c (x ∷ older) e ss i f d (inr k) = inr (made_for c older e ss i f d k)
made_for c (x ∷ older) e ss i f d (inl k) = inl (over x.told k)
  where
    over : (y : Told) → MakesAt c e ss i f d older y → MakesFor c e d i older y
    over (Begins s at inst file) k = (k.0.epoch_is, k.0.serial_is, (k.1.set, subst (λ (g : FileId). AsksMake c older e d i g.group k.1.set) (sym k.0.file_is) k.1.asks))
    over _ k = absurd k

-- ---- until its open is named its call asks it ----

pub record StillAsked (c : Config) (trace : List Line) (e : EpochId) (ss : ℕ) (i : Serial) (f : FileId) : Type 0 where
  pub call : CallId
  pub made : WasMadeAt c trace e ss i f call
  pub set : Sites
  pub asks : AsksMake c trace e call i f.group set

-- one line later
asked_more : (c : Config) (n : ℕ) (x : Told) (older : List Line) (e : EpochId) (i : Serial) (group : ℕ) (set : Sites) (d : CallId) → IsFollowed c older → MayTell c older x → AsksMake c older e d i group set → WasNamed (More n x older) e i ⊎ AsksMake c (More n x older) e d i group set
asked_more c n x older e i group set d h may k = over (asked_told c n x older e d.site i.serial d k.request k.file (how.Make set k.kind) h may refl k.asks)
  where
    serial_is : serial_of d.site i.serial ≡ i
    serial_is = λ z. record { us = sym k.user_is z; serial = i.serial }

    over : WasNamed (More n x older) e (serial_of d.site i.serial) ⊎ AsksOpen c (More n x older) e d k.request i.serial k.file (how.Make set k.kind) → WasNamed (More n x older) e i ⊎ AsksMake c (More n x older) e d i group set
    over (inl named) = inl (subst (λ (j : Serial). WasNamed (More n x older) e j) serial_is named)
    over (inr asks) = inr (record { request = k.request; file = k.file; kind = k.kind; asks = asks; user_is = k.user_is; group_is = k.group_is })

asked_still : (c : Config) (n : ℕ) (x : Told) (older : List Line) (e : EpochId) (ss : ℕ) (i : Serial) (f : FileId) → IsFollowed c older → MayTell c older x → (d : CallId) (set : Sites) → WasMadeAt c (More n x older) e ss i f d → AsksMake c older e d i f.group set → WasNamed (More n x older) e i ⊎ StillAsked c (More n x older) e ss i f
asked_still c n x older e ss i f h may d set made asks = over (asked_more c n x older e i f.group set d h may asks)
  where
    over : WasNamed (More n x older) e i ⊎ AsksMake c (More n x older) e d i f.group set → WasNamed (More n x older) e i ⊎ StillAsked c (More n x older) e ss i f
    over (inl named) = inl named
    over (inr k) = inr (record { call = d; made = made; set = set; asks = k })

-- what is begun is named, or a make that its call asks still
pub begun_made : (c : Config) (trace : List Line) → IsFollowed c trace → (e : EpochId) (ss : ℕ) (i : Serial) (f : FileId) → WasBegun trace ss e i f → WasNamed trace e i ⊎ StillAsked c trace e ss i f
begun_made c [] h e ss i f b = absurd b
begun_made c (x ∷ older) h e ss i f (inr b) = over (begun_made c older h.1 e ss i f b)
  where
    over : WasNamed older e i ⊎ StillAsked c older e ss i f → WasNamed (x ∷ older) e i ⊎ StillAsked c (x ∷ older) e ss i f
    over (inl named) = inl (inr named)
    over (inr k) = asked_still c x.number x.told older e ss i f h.1 h.0 k.call k.set (inr k.made) k.asks
begun_made c (x ∷ older) h e ss i f (inl b) = now x.told h.0 b
  where
    made : (s : ℕ) (at : EpochId) (inst : Serial) (file : FileId) → MayTell c older (Begins s at inst file) → DeedOf ss e i f s at inst file → BeginsMade c older s at inst file → WasNamed (More x.number (Begins s at inst file) older) e i ⊎ StillAsked c (More x.number (Begins s at inst file) older) e ss i f
    made s at inst file may is m = asked_still c x.number (Begins s at inst file) older e ss i f h.1 may m.call m.set (inl (is, here)) here.asks
      where
        first : MakesHere c older at s inst file m.call
        first = record {
          set = m.set;
          asks = record { request = m.request; file = m.asked; kind = m.kind; asks = m.asks; user_is = m.user_is; group_is = m.group_is };
          good = m.good;
          at = m.at;
        }

        here : MakesHere c older e ss i f m.call
        here = subst (λ (y : FileId). MakesHere c older e ss i y m.call) is.file_is
            (subst (λ (j : Serial). MakesHere c older e ss j file m.call) is.serial_is
            (subst (λ (y : EpochId). MakesHere c older y ss inst file m.call) is.epoch_is
            (subst (λ (y : ℕ). MakesHere c older at y inst file m.call) is.site_is first)))

    granted : (s : ℕ) (at : EpochId) (inst : Serial) (file : FileId) → DeedOf ss e i f s at inst file → BeginsGranted c older s at inst file → WasNamed older e i
    granted s at inst file is g = subst (λ (j : Serial). WasNamed older e j) is.serial_is (subst (λ (y : EpochId). WasNamed older y inst) is.epoch_is (open_named c older at inst g.at g.open_at.found))

    begins : (s : ℕ) (at : EpochId) (inst : Serial) (file : FileId) → MayTell c older (Begins s at inst file) → DeedOf ss e i f s at inst file → BeginsGranted c older s at inst file ⊎ BeginsMade c older s at inst file → WasNamed (More x.number (Begins s at inst file) older) e i ⊎ StillAsked c (More x.number (Begins s at inst file) older) e ss i f
    begins s at inst file may is (inl g) = inl (inr (granted s at inst file is g))
    begins s at inst file may is (inr m) = made s at inst file may is m

    now : (y : Told) → MayTell c older y → BeginsIt ss e i f older y → WasNamed (More x.number y older) e i ⊎ StillAsked c (More x.number y older) e ss i f
    now (Begins s at inst file) may is = begins s at inst file may is may.may
    now _ may is = absurd is

-- ---- what is reserved ----

-- a number is reserved for the file that was begun as a make of some call
pub reserved_made : (c : Config) (trace : List Line) → IsFollowed c trace → (e : EpochId) (ss : ℕ) (i : Serial) (f : FileId) → WasReserved trace ss e i f → (d : CallId) × WasMadeAt c trace e ss i f d
reserved_made c [] h e ss i f k = absurd k
reserved_made c (x ∷ older) h e ss i f (inr k) = (let m = reserved_made c older h.1 e ss i f k in (m.0, inr m.1))
reserved_made c (x ∷ older) h e ss i f (inl k) = (let m = now x.told h.0 k in (m.0, inr m.1))
  where
    here : (s : ℕ) (at : EpochId) (inst : Serial) (file : FileId) → MayTell c older (Reserves s at inst file) → (d : CallId) × WasMadeAt c older at s inst file d
    here s at inst file may = over (begun_made c older h.1 at s inst file may.begun)
      where
        over : WasNamed older at inst ⊎ StillAsked c older at s inst file → (d : CallId) × WasMadeAt c older at s inst file d
        over (inl named) = absurd (may.ungranted named)
        over (inr w) = (w.call, w.made)

    now : (y : Told) → MayTell c older y → ReservesIt ss e i f older y → (d : CallId) × WasMadeAt c older e ss i f d
    now (Reserves s at inst file) may is = (let m = here s at inst file may in (
      m.0,
      subst (λ (y : FileId). WasMadeAt c older e ss i y m.0) is.file_is
          (subst (λ (j : Serial). WasMadeAt c older e ss j file m.0) is.serial_is
          (subst (λ (y : EpochId). WasMadeAt c older y ss inst file m.0) is.epoch_is
          (subst (λ (y : ℕ). WasMadeAt c older at y inst file m.0) is.site_is m.1))),
    ))
    now _ may is = absurd is

-- ---- what is open as a make ----

-- an open make was begun where it is stored, for the call that it was granted to
abbrev pub IsOpenMake : Config → List Line → EpochId → Instance → Type 0
IsOpenMake c trace e x = x.grant.mode ≡ mode.Make → WasMadeAt c trace e x.grant.ss x.grant.inst x.grant.file x.grant.call

module _ (c : Config) (older : List Line) (n : ℕ) (h : IsFollowed c older) (e : EpochId) (g : ℕ) (old : AllByRecursion (IsOpenMake c older e) (tree_of c e g (entries older)).instances) where
  abbrev t : TreeState
  t = tree_of c e g (entries older)

  abbrev past : List Version
  past = history c (entries older)

  abbrev All : Told → List Instance → Type 0
  All y xs = AllByRecursion (IsOpenMake c (More n y older) e) xs

  stay : (y : Told) → All y t.instances
  stay y = all_then (IsOpenMake c older e) (IsOpenMake c (More n y older) e) (λ x k make. inr (k make)) t.instances old

  -- the make is begun for the call that it is granted to
  granted_made : (d : EpochId) (call : CallId) (request : ℕ) (i : Serial) (m : Mode) (f : FileId) (stamp : Option Stamp) (ss : ℕ) → MayTell c older (Shown (says.Grant d call request i m f stamp ss)) → d ≡ e → m ≡ mode.Make → WasMadeAt c older e ss i f call
  granted_made d call request i m f stamp ss may same make = subst (λ (y : EpochId). WasMadeAt c older y ss i f call) same (over (begun_made c older h d ss i f (subst (MakesInTime older d i f ss) make may.in_time.makes)))
    where
      over : WasNamed older d i ⊎ StillAsked c older d ss i f → WasMadeAt c older d ss i f call
      over (inl named) = absurd (may.in_time.new named)
      over (inr w) = subst (λ (y : CallId). WasMadeAt c older d ss i f y)
          (one_open c older d w.call call w.asks.request request i.serial w.asks.file may.in_time.opens.asked (how.Make w.set w.asks.kind) may.in_time.opens.it h w.asks.asks may.in_time.opens.asks (sym w.asks.user_is ∙ may.in_time.opens.user_is)) w.made

  all_if : (r : Record) (b : Bool) (u : TreeState) → All (Shown r) u.instances → All (Shown r) (cond b u t).instances
  all_if r true u k = k
  all_if r false u k = stay (Shown r)

  next_makes : (r : Record) → MayTell c older (Shown r) → All (Shown r) (next past r t).instances
  next_makes (says.Grant d call request i m f stamp ss) may = over (same_epoch d t.epoch) refl (f.group == t.group)
    where
      r : Record
      r = says.Grant d call request i m f stamp ss

      new : same_epoch d t.epoch ≡ true → IsOpenMake c (More n (Shown r) older) e (opened past (grant_of t call i m f ss) stamp)
      new same make = inr (granted_made d call request i m f stamp ss may (same_epoch_eq d t.epoch same ∙ tree_epoch_is c e g (entries older)) make)

      over : (a : Bool) → same_epoch d t.epoch ≡ a → (b : Bool) → All (Shown r) (cond a (record t { grants = t.grants ++ grant_of t call i m f ss ∷ []; instances = cond b (t.instances ++ opened past (grant_of t call i m f ss) stamp ∷ []) t.instances }) t).instances
      over true same true = all_more (IsOpenMake c (More n (Shown r) older) e) t.instances (opened past (grant_of t call i m f ss) stamp) (stay (Shown r)) (new same)
      over true same false = stay (Shown r)
      over false same b = stay (Shown r)
  next_makes (says.Join s d m) may = over (same_epoch d t.epoch)
    where
      over : (b : Bool) → All (Shown (says.Join s d m)) (cond b (joined s m t) (left s t)).instances
      over true = stay (Shown (says.Join s d m))
      over false = stay (Shown (says.Join s d m))
  next_makes (says.Start d k copies) may = all_if (says.Start d k copies) (same_epoch d t.epoch && (k == t.group)) (record t { started = true }) (stay (Shown (says.Start d k copies)))
  next_makes (says.Refuse d call request i m f why) may = all_if (says.Refuse d call request i m f why) (same_epoch d t.epoch && ((f.group == t.group) && is_make m)) (record t { makes = without_make call t.makes }) (stay (Shown (says.Refuse d call request i m f why)))
  next_makes (says.Act d i k o result) may = all_if (says.Act d i k o result) (same_epoch d t.epoch && is_granted_here t i) (acted past i o result t)
      (all_changed (IsOpenMake c (More n (Shown (says.Act d i k o result)) older) e) (is_named i) (once_acted past t o result) (λ x w. w) t.instances (stay (Shown (says.Act d i k o result))))
  next_makes (says.Commit f s stamp parents content) may = over (is_inside t s)
    where
      over : (b : Bool) → All (Shown (says.Commit f s stamp parents content)) (cond b (change_first (is_writer f s) (once_committed stamp) t.instances) t.instances)
      over true = all_changed (IsOpenMake c (More n (Shown (says.Commit f s stamp parents content)) older) e) (is_writer f s) (once_committed stamp) (λ x w. w) t.instances (stay (Shown (says.Commit f s stamp parents content)))
      over false = stay (Shown (says.Commit f s stamp parents content))
  next_makes (says.Release d i f stamp) may = all_if (says.Release d i f stamp) (same_epoch d t.epoch && (f.group == t.group)) (released i f stamp t)
      (all_without (IsOpenMake c (More n (Shown (says.Release d i f stamp)) older) e) (is_named i) t.instances (stay (Shown (says.Release d i f stamp))))
  next_makes r may = stay (Shown r)

  told_makes : (y : Told) → MayTell c older y → All y (tree_of c e g (onto_entries n y (entries older))).instances
  told_makes (Shown r) may = next_makes r may
  told_makes y may = stay y

pub open_makes : (c : Config) (trace : List Line) → IsFollowed c trace → (e : EpochId) (g : ℕ) → AllByRecursion (IsOpenMake c trace e) (tree_of c e g (entries trace)).instances
open_makes c [] h e g = tt
open_makes c (x ∷ older) h e g = told_makes c older x.number h.1 e g (open_makes c older h.1 e g) x.told h.0
