-- What is told of makes stays: a make is asked until it is begun, or refused for good since all numbers of its site are used.
use Rattle.std.proofs.Common.{◌≡◌, ℕ, true, false, List, [], ◌∷◌, Option, Some, refl, sym, ◌∙◌, ap, subst, ◌⊎◌, inl, inr}
use Rattle.the_run.proofs.of_plain_facts.Options.{some_same}
use Rattle.the_run.proofs.of_plain_facts.Tests.{true_false}
use Rattle.locus_ids.specs.declared.config.Config.{Config}
use Rattle.locus_ids.specs.declared.ids.CallId.{CallId}
use Rattle.locus_ids.specs.declared.ids.EpochId.{EpochId}
use Rattle.locus_ids.specs.declared.ids.FileId.{FileId}
use Rattle.locus_ids.specs.declared.ids.Kind.{Kind}
use Rattle.locus_ids.specs.declared.ids.Mode.{Mode}
use Rattle.locus_ids.specs.declared.ids.Mode.TheVariants as mode
use Rattle.locus_ids.specs.declared.ids.Serial.{Serial}
use Rattle.locus_ids.specs.declared.refusal.Refusal.{Refusal}
use Rattle.locus_ids.specs.declared.refusal.Refusal.TheVariants as refusal
use Rattle.locus_ids.specs.declared.sites.Members.{Members}
use Rattle.locus_ids.specs.declared.sites.Sites.{Sites}
use Rattle.trace_book.specs.declared.record.Record.{Record}
use Rattle.trace_book.specs.declared.record.Record.TheVariants as says
use Rattle.call_rules.specs.declared.want.Want.{Want}
use Rattle.call_rules.specs.declared.want.Want.TheVariants as want
use Rattle.the_run.specs.of_wire_messages.declared.body.Opening.{Opening}
use Rattle.the_run.specs.of_wire_messages.declared.body.Opening.TheVariants as how
use Rattle.the_run.specs.of_role_steps.Opens.{mode_of}
use Rattle.the_run.specs.of_role_steps.Views.{Told, Shown, Begins}
use Rattle.the_run.specs.Worlds.{Line}
use Rattle.lawful_trace.specs.of_tree_model.declared.instance.Instance.{Instance}
use Rattle.lawful_trace.specs.of_tree_model.Epochs.{members_of}
use Rattle.lawful_trace.specs.of_tree_model.Histories.{history}
use Rattle.lawful_trace.specs.of_tree_model.Opening.{is_given_by}
use Rattle.lawful_trace.specs.of_tree_model.Packs.{is_good_set, making_site_in}
use Rattle.lawful_trace.specs.of_tree_model.State.{instance_in}
use Rattle.lawful_trace.specs.of_tree_model.Tree.{tree_of}
use Rattle.lawful_trace.specs.TreeRows.{IsCallIn, granted_group}
use Rattle.tree_laws.specs.Printed.{entries, onto_entries}
use Rattle.tree_laws.specs.Calls.{Asks}
use Rattle.tree_laws.specs.Frames.{VersionsStay, MakesStay}
use Rattle.tree_laws.specs.Instances.{AsksOpen, IsOpening, IsUsed, IsFull}
use Rattle.tree_laws.specs.Serials.{serial_asked}
use Rattle.tree_laws.specs.Past.{Printed, WasNamed, WasRefused, WasBegun, NamingRecord, RefusalRecord, BeginsIt}
use Rattle.tree_laws.specs.Following.{MayTell, IsFollowed, OpensInTime, MakesInTime, FindsNoNumber, RefusesMake, BeginsMade, BeginsGranted, MayBegin}
use Rattle.tree_laws.specs.Packets.{serial_of, MakesNow, RefusedFull, MakeOpenSs, NoNumber}
use Rattle.tree_laws.proofs.Asking.{AsksStill, StepRecord, StepOf, asks_stays}
use Rattle.tree_laws.proofs.CarriedLooks.{More, one_epoch, one_want, number_same}
use Rattle.tree_laws.proofs.CarriedOpens.{asked_told}
use Rattle.tree_laws.proofs.Fresh.{call_listed}
use Rattle.tree_laws.proofs.Grants.{open_named, in_tree_named, before_record}
use Rattle.tree_laws.proofs.Kinship.{started_stays, tree_epoch_is}
use Rattle.tree_laws.proofs.Opened.{GrantsIt}
use Rattle.tree_laws.proofs.Scripts.{in_stays, members_same}
use Rattle.tree_laws.proofs.Serials.{one_open, unnamed}

-- ---- names of makes ----

-- an opening is what its want says
pub one_opening : (c : Config) (w : Want) (f g : FileId) (a b : Opening) → IsOpening c w f a → IsOpening c w g b → a ≡ b
one_opening c (want.Open file m) f g a b o p = o.1 ∙ sym p.1
one_opening c (want.OpenToMend file) f g a b o p = o.1 ∙ sym p.1
one_opening c (want.Make group kind sites) f g a b o p = o.2 ∙ sym p.2
one_opening c (want.Look file what) f g a b o p = absurd o
one_opening c (want.Do i it) f g a b o p = absurd o
one_opening c (want.Close i) f g a b o p = absurd o
one_opening c (want.Give r) f g a b o p = absurd o
one_opening c want.Never f g a b o p = absurd o

pub one_group : (c : Config) (w : Want) (f g : FileId) (a : Opening) (set : Sites) (k : Kind) → IsOpening c w f a → IsOpening c w g (how.Make set k) → f.group ≡ g.group
one_group c (want.Open file m) f g a set k o p = ap (λ (x : FileId). x.group) (o.0 ∙ sym p.0)
one_group c (want.OpenToMend file) f g a set k o p = ap (λ (x : FileId). x.group) (o.0 ∙ sym p.0)
one_group c (want.Make group kind sites) f g a set k o p = o.0 ∙ sym p.0
one_group c (want.Look file what) f g a set k o p = absurd o
one_group c (want.Do i it) f g a set k o p = absurd o
one_group c (want.Close i) f g a set k o p = absurd o
one_group c (want.Give r) f g a set k o p = absurd o
one_group c want.Never f g a set k o p = absurd o

pub make_set : (a b : Sites) (k l : Kind) → how.Make a k ≡ how.Make b l → a ≡ b
make_set a b k l e = cc

-- ---- members of an epoch of which a call was made ----

pub members_told : (c : Config) (n : ℕ) (x : Told) (older : List Line) (e : EpochId) (d : CallId) → MayTell c older x → IsCallIn (entries older) e d → members_of (onto_entries n x (entries older)) e ≡ members_of (entries older) e
members_told c n (Shown r) older e d may k = members_same c n r (entries older) e may.row (call_listed older d k.accepted e k.named k.made_in)
members_told c n _ older e d may k = refl

-- ---- what was refused ----

refusal_names : (e : EpochId) (call : CallId) (request : ℕ) (i : Serial) (m : Mode) (why : Refusal) (older : List Line) (z : Told) → Printed (RefusalRecord e call request i m why) older z → Printed (NamingRecord e i) older z
refusal_names e call request i m why older (Shown (says.Refuse there d number inst mode f reason)) p = record { epoch_is = p.epoch_is; serial_is = p.serial_is }
refusal_names e call request i m why older _ p = absurd p

was_named : (trace : List Line) (e : EpochId) (call : CallId) (request : ℕ) (i : Serial) (m : Mode) (why : Refusal) → WasRefused trace e call request i m why → WasNamed trace e i
was_named [] e call request i m why h = absurd h
was_named (y ∷ older) e call request i m why (inl p) = inl (refusal_names e call request i m why older y.told p)
was_named (y ∷ older) e call request i m why (inr p) = inr (was_named older e call request i m why p)

-- what was refused is never open
refused_shut : (c : Config) (trace : List Line) (e : EpochId) (g : ℕ) (call : CallId) (request : ℕ) (i : Serial) (m : Mode) (why : Refusal) → IsFollowed c trace → WasRefused trace e call request i m why → (x : Instance) → instance_in (tree_of c e g (entries trace)) i ≡ Some x → ⊥
refused_shut c [] e g call request i m why h refused x k = absurd refused
refused_shut c (y ∷ older) e g call request i m why h (inr refused) x k = over (refused_shut c older e g call request i m why h.1 refused) y.told h.0 k
  where
    named : WasNamed older e i
    named = was_named older e call request i m why refused

    again : (r : Record) → MayTell c older (Shown r) → GrantsIt e i r → ⊥
    again (says.Grant at d number inst mode f stamp ss) may p = may.in_time.new (subst (λ (j : Serial). WasNamed older at j) (sym p.1) (subst (λ (z : EpochId). WasNamed older z i) (sym p.0) named))
    again _ may p = absurd p

    over : ((x : Instance) → instance_in (tree_of c e g (entries older)) i ≡ Some x → ⊥) → (z : Told) → MayTell c older z → instance_in (tree_of c e g (onto_entries y.number z (entries older))) i ≡ Some x → ⊥
    over later (Shown r) may k = split (before_record (history c (entries older)) (tree_of c e g (entries older)) i x r k)
      where
        split : ((z : Instance) × (instance_in (tree_of c e g (entries older)) i ≡ Some z)) ⊎ GrantsIt (tree_of c e g (entries older)).epoch i r → ⊥
        split (inl p) = later p.0 p.1
        split (inr p) = again r may (subst (λ (at : EpochId). GrantsIt at i r) (tree_epoch_is c e g (entries older)) p)
    over later _ may k = later x k
refused_shut c (y ∷ older) e g call request i m why h (inl now) x k = at y.told h.0 now k
  where
    at : (z : Told) → MayTell c older z → Printed (RefusalRecord e call request i m why) older z → instance_in (tree_of c e g (onto_entries y.number z (entries older))) i ≡ Some x → ⊥
    at (Shown (says.Refuse there d number inst mode f reason)) may p k = over (before_record (history c (entries older)) (tree_of c e g (entries older)) i x (says.Refuse there d number inst mode f reason) k)
      where
        over : ((z : Instance) × (instance_in (tree_of c e g (entries older)) i ≡ Some z)) ⊎ ⊥ → ⊥
        over (inl q) = may.in_time.new (subst (λ (j : Serial). WasNamed older there j) (sym p.serial_is) (subst (λ (z : EpochId). WasNamed older z i) (sym p.epoch_is) (in_tree_named c e g i older q.0 q.1)))
        over (inr q) = q
    at _ may p k = absurd p

-- is begun by nobody
refused_begins : (c : Config) (older : List Line) → IsFollowed c older → (e : EpochId) (call : CallId) (request : ℕ) (i : Serial) → WasRefused older e call request i mode.Make refusal.NoInode → (s : ℕ) (f : FileId) → MayBegin c older s e i f → ⊥
refused_begins c older h e call request i refused s f may = over may.may
  where
    over : BeginsGranted c older s e i f ⊎ BeginsMade c older s e i f → ⊥
    over (inl b) = refused_shut c older e (granted_group (entries older) e i) call request i mode.Make refusal.NoInode h refused b.at b.open_at.found
    over (inr b) = unnamed c older e b.call b.request i b.asked (how.Make b.set b.kind) h b.asks b.user_is (was_named older e call request i mode.Make refusal.NoInode refused)

-- what is told begins it
begun_by : (c : Config) (older : List Line) (e : EpochId) (i : Serial) → ((s : ℕ) (f : FileId) → MayBegin c older s e i f → ⊥) → (z : Told) → MayTell c older z → (s : ℕ) (f : FileId) → BeginsIt s e i f older z → ⊥
begun_by c older e i none (Begins site at inst file) may s f p = none site file (subst (λ (j : Serial). MayBegin c older site e j file) p.serial_is (subst (λ (z : EpochId). MayBegin c older site z inst file) p.epoch_is may))
begun_by c older e i none _ may s f p = absurd p

-- ---- all numbers stay used ----

pub full_stays : (c : Config) (old new : List Line) → VersionsStay c old new → (e : EpochId) (ss group : ℕ) → IsFull c old e ss group → IsFull c new e ss group
full_stays c old new v e ss group h f same given = v.used e ss f (h f same given)

refused_stays : (c : Config) (n : ℕ) (x : Told) (older : List Line) → IsFollowed c older → MayTell c older x → VersionsStay c older (More n x older) → (e : EpochId) (ss : ℕ) (i : Serial) (group : ℕ) → RefusedFull c older e ss i group → RefusedFull c (More n x older) e ss i group
refused_stays c n x older h may v e ss i group k = record { call = k.call; request = k.request; was_refused = inr k.was_refused; full = full_stays c older (More n x older) v e ss group k.full; unbegun = unbegun; members = k.members; own = k.own; set = k.set; good = k.good; at = k.at }
  where
    unbegun : (s : ℕ) (f : FileId) → WasBegun (More n x older) s e i f → ⊥
    unbegun s f (inl p) = begun_by c older e i (refused_begins c older h e k.call k.request i k.was_refused) x may s f p
    unbegun s f (inr p) = k.unbegun s f p

-- ---- a make that is asked now ----

-- what becomes of it by what is told: it is begun where it is granted, or refused for good, or asked still
abbrev Becomes : Config → List Line → List Line → EpochId → ℕ → Serial → ℕ → Sites → Kind → Type 0
Becomes c older new e ss i group set k = ((f : FileId) × WasBegun older ss e i f) ⊎ (RefusedFull c new e ss i group ⊎ MakesNow c new e ss i group set k)

-- an open in its time, of the call of this make, is this make
pub its_opening : (c : Config) (older : List Line) (e at : EpochId) (ss : ℕ) (i : Serial) (group : ℕ) (set : Sites) (k : Kind) (now : MakesNow c older e ss i group set k) (call : CallId) (request : ℕ) (inst : Serial) (m : Mode) (f : FileId) → (o : OpensInTime c older at call request inst m f) → call ≡ now.call → o.it ≡ how.Make set k
its_opening c older e at ss i group set k now call request inst m f o same = one_opening c now.asks.wanted o.asked now.file o.it (how.Make set k)
    (subst (λ (w : Want). IsOpening c w o.asked o.it) (one_want c older now.call o.asks.wanted now.asks.wanted (subst (λ (y : CallId). Asks c older y o.asks.wanted) same o.asks.asks) now.asks.asks) o.asks.opening_is) now.asks.opening_is

serial_eq : (a b : Serial) → a.us ≡ b.us → a.serial ≡ b.serial → a ≡ b
serial_eq a b e f = λ j. record { us = e j; serial = f j }

pub its_serial : (c : Config) (older : List Line) (e at : EpochId) (ss : ℕ) (i : Serial) (group : ℕ) (set : Sites) (k : Kind) (now : MakesNow c older e ss i group set k) (call : CallId) (request : ℕ) (inst : Serial) (m : Mode) (f : FileId) → (o : OpensInTime c older at call request inst m f) → call ≡ now.call → inst ≡ i
its_serial c older e at ss i group set k now call request inst m f o same = serial_eq inst i (o.user_is ∙ (ap (λ (y : CallId). y.site) same ∙ sym now.user_is)) (o.asks.serial_is ∙ (ap (serial_asked c older) same ∙ sym now.asks.serial_is))

-- ---- where a make is begun ----

-- the call of a make asks it, which this site is to store
pub record IsAskedAt (c : Config) (trace : List Line) (e : EpochId) (s : ℕ) (i : Serial) (f : FileId) : Type 0 where
  pub call : CallId
  pub request : ℕ
  pub asked : FileId
  pub set : Sites
  pub kind : Kind
  pub asks : AsksOpen c trace e call request i.serial asked (how.Make set kind)
  pub user_is : i.us ≡ call.site
  pub group_is : asked.group ≡ f.group
  pub at : making_site_in c f.group (members_of (entries trace) e) call.site set ≡ Some s

asked_at_more : (c : Config) (n : ℕ) (x : Told) (older : List Line) → IsFollowed c older → MayTell c older x → (e : EpochId) (s : ℕ) (i : Serial) (f : FileId) → IsAskedAt c older e s i f → WasNamed (More n x older) e i ⊎ IsAskedAt c (More n x older) e s i f
asked_at_more c n x older h may e s i f k = over (asked_told c n x older e k.call.site i.serial k.call k.request k.asked (how.Make k.set k.kind) h may refl k.asks)
  where
    over : WasNamed (More n x older) e (serial_of k.call.site i.serial) ⊎ AsksOpen c (More n x older) e k.call k.request i.serial k.asked (how.Make k.set k.kind) → WasNamed (More n x older) e i ⊎ IsAskedAt c (More n x older) e s i f
    over (inl named) = inl (subst (λ (j : Serial). WasNamed (More n x older) e j) (serial_eq (serial_of k.call.site i.serial) i (sym k.user_is) refl) named)
    over (inr asks) = inr (record {
      call = k.call;
      request = k.request;
      asked = k.asked;
      set = k.set;
      kind = k.kind;
      asks = asks;
      user_is = k.user_is;
      group_is = k.group_is;
      at = subst (λ (o : Option Members). making_site_in c f.group o k.call.site k.set ≡ Some s) (sym (members_told c n x older e k.call may k.asks.inside)) k.at;
    })

-- what is begun is named, or its call asks it of the site that has begun it
pub begun_asked : (c : Config) (trace : List Line) → IsFollowed c trace → (e : EpochId) (s : ℕ) (i : Serial) (f : FileId) → WasBegun trace s e i f → WasNamed trace e i ⊎ IsAskedAt c trace e s i f
begun_asked c [] h e s i f b = absurd b
begun_asked c (x ∷ older) h e s i f b = over x.told h.0 b (λ k. begun_asked c older h.1 e s i f k)
  where
    more : (z : Told) → MayTell c older z → WasNamed older e i ⊎ IsAskedAt c older e s i f → WasNamed (More x.number z older) e i ⊎ IsAskedAt c (More x.number z older) e s i f
    more z may (inl named) = inl (inr named)
    more z may (inr k) = asked_at_more c x.number z older h.1 may e s i f k

    now : (at : EpochId) (site : ℕ) (inst : Serial) (file : FileId) → BeginsGranted c older site at inst file ⊎ BeginsMade c older site at inst file → WasNamed older at inst ⊎ IsAskedAt c older at site inst file
    now at site inst file (inl g) = inl (open_named c older at inst g.at g.open_at.found)
    now at site inst file (inr m) = inr (record { call = m.call; request = m.request; asked = m.asked; set = m.set; kind = m.kind; asks = m.asks; user_is = m.user_is; group_is = m.group_is; at = m.at })

    moved : (at : EpochId) (site : ℕ) (inst : Serial) (file : FileId) → site ≡ s → at ≡ e → inst ≡ i → file ≡ f → WasNamed older at inst ⊎ IsAskedAt c older at site inst file → WasNamed older e i ⊎ IsAskedAt c older e s i f
    moved at site inst file a b d g (inl named) = inl (subst (λ (j : Serial). WasNamed older e j) d (subst (λ (y : EpochId). WasNamed older y inst) b named))
    moved at site inst file a b d g (inr k) = inr (subst (λ (y : FileId). IsAskedAt c older e s i y) g (subst (λ (j : Serial). IsAskedAt c older e s j file) d (subst (λ (y : ℕ). IsAskedAt c older e y inst file) a (subst (λ (y : EpochId). IsAskedAt c older y site inst file) b k))))

    over : (z : Told) → MayTell c older z → BeginsIt s e i f older z ⊎ WasBegun older s e i f → (WasBegun older s e i f → WasNamed older e i ⊎ IsAskedAt c older e s i f) → WasNamed (More x.number z older) e i ⊎ IsAskedAt c (More x.number z older) e s i f
    over z may (inr p) later = more z may (later p)
    over (Begins site at inst file) may (inl p) later = more (Begins site at inst file) may (moved at site inst file p.site_is p.epoch_is p.serial_is p.file_is (now at site inst file may.may))
    over _ may (inl p) later = absurd p

-- a make that is asked now is begun at no other site than that which is to store it
pub begun_place : (c : Config) (trace : List Line) → IsFollowed c trace → (e : EpochId) (s ss : ℕ) (i : Serial) (f : FileId) (group : ℕ) (set : Sites) (k : Kind) → WasBegun trace s e i f → MakesNow c trace e ss i group set k → s ≡ ss
begun_place c trace h e s ss i f group set k b m = over (begun_asked c trace h e s i f b)
  where
    over : WasNamed trace e i ⊎ IsAskedAt c trace e s i f → s ≡ ss
    over (inl named) = absurd (unnamed c trace e m.call m.request i m.file (how.Make set k) h m.asks m.user_is named)
    over (inr b) = some_same s ss (sym (subst (λ (y : CallId). making_site_in c group (members_of (entries trace) e) y.site set ≡ Some s) call_is
        (subst (λ (t : Sites). making_site_in c group (members_of (entries trace) e) b.call.site t ≡ Some s) set_is
        (subst (λ (g : ℕ). making_site_in c g (members_of (entries trace) e) b.call.site b.set ≡ Some s) (sym b.group_is ∙ same_group) b.at))) ∙ m.at)
      where
        call_is : b.call ≡ m.call
        call_is = one_open c trace e b.call m.call b.request m.request i.serial b.asked m.file (how.Make b.set b.kind) (how.Make set k) h b.asks m.asks (sym b.user_is ∙ m.user_is)

        wanted : IsOpening c m.asks.wanted b.asked (how.Make b.set b.kind)
        wanted = subst (λ (w : Want). IsOpening c w b.asked (how.Make b.set b.kind)) (one_want c trace m.call b.asks.wanted m.asks.wanted (subst (λ (y : CallId). Asks c trace y b.asks.wanted) call_is b.asks.asks) m.asks.asks) b.asks.opening_is

        same_group : b.asked.group ≡ group
        same_group = one_group c m.asks.wanted b.asked m.file (how.Make b.set b.kind) set k wanted m.asks.opening_is ∙ m.group_is

        set_is : b.set ≡ set
        set_is = make_set b.set set b.kind k (one_opening c m.asks.wanted b.asked m.file (how.Make b.set b.kind) (how.Make set k) wanted m.asks.opening_is)

granted_make : (older : List Line) (e at : EpochId) (i inst : Serial) (f : FileId) (ss : ℕ) (m : Mode) → m ≡ mode.Make → at ≡ e → inst ≡ i → MakesInTime older at inst f ss m → WasBegun older ss e i f
granted_make older e at i inst f ss m is_make same_at same_inst k = subst (λ (y : EpochId). WasBegun older ss y i f) same_at (subst (λ (j : Serial). WasBegun older ss at j f) same_inst (subst (MakesInTime older at inst f ss) is_make k))

-- a step of its call
make_step : (c : Config) (n : ℕ) (older : List Line) → IsFollowed c older → (e : EpochId) (ss : ℕ) (i : Serial) (group : ℕ) (set : Sites) (k : Kind) (now : MakesNow c older e ss i group set k) (r : Record) → VersionsStay c older (More n (Shown r) older) → MayTell c older (Shown r) → StepRecord (entries older) r now.call → Becomes c older (More n (Shown r) older) e ss i group set k
make_step c n older h e ss i group set k now (says.Grant at call request inst m f stamp place) v may step = (let begun : WasBegun older place e i f = granted_make older e at i inst f place m
    (sym may.in_time.opens.mode_is ∙ ap mode_of (its_opening c older e at ss i group set k now call request inst m f may.in_time.opens step))
    (one_epoch older at e now.call (subst (λ (y : CallId). IsCallIn (entries older) at y) step may.row.opens.step) now.asks.inside)
    (its_serial c older e at ss i group set k now call request inst m f may.in_time.opens step) may.in_time.makes in
    inl (f, subst (λ (y : ℕ). WasBegun older y e i f) (begun_place c older h e place ss i f group set k begun now) begun))
make_step c n older h e ss i group set k now (says.Refuse at call request inst m f why) v may step = over (subst (RefusesMake c older at call inst f why) opening may.in_time.make)
  where
    opening : may.in_time.opens.it ≡ how.Make set k
    opening = its_opening c older e at ss i group set k now call request inst m f may.in_time.opens step

    same_at : at ≡ e
    same_at = one_epoch older at e now.call (subst (λ (y : CallId). IsCallIn (entries older) at y) step may.row.opens.step) now.asks.inside

    same_inst : inst ≡ i
    same_inst = its_serial c older e at ss i group set k now call request inst m f may.in_time.opens step

    same_group : f.group ≡ group
    same_group = may.in_time.opens.group_is ∙ (one_group c now.asks.wanted may.in_time.opens.asked now.file may.in_time.opens.it set k
        (subst (λ (w : Want). IsOpening c w may.in_time.opens.asked may.in_time.opens.it) (one_want c older now.call may.in_time.opens.asks.wanted now.asks.wanted (subst (λ (y : CallId). Asks c older y may.in_time.opens.asks.wanted) step may.in_time.opens.asks.asks) now.asks.asks) may.in_time.opens.asks.opening_is) now.asks.opening_is
        ∙ now.group_is)

    is_make : m ≡ mode.Make
    is_make = sym may.in_time.opens.mode_is ∙ ap mode_of opening

    over : FindsNoNumber c older at call inst f.group set why ⊎ (is_good_set c f.group (members_of (entries older) at) set ≡ false) → Becomes c older (More n (Shown (says.Refuse at call request inst m f why)) older) e ss i group set k
    over (inl none) = inr (inl (record {
      call = call;
      request = request;
      was_refused = inl (record { epoch_is = same_at; call_is = refl; request_is = refl; serial_is = same_inst; mode_is = is_make; reason_is = none.reason_is });
      full = full_stays c older (More n (Shown (says.Refuse at call request inst m f why)) older) v e ss group (subst (λ (s : ℕ). IsFull c older e s group) place (subst (λ (g : ℕ). IsFull c older e none.ss g) same_group (subst (λ (y : EpochId). IsFull c older y none.ss f.group) same_at none.full)));
      unbegun = over_begun;
      members = members_of (entries older) e;
      own = now.call.site;
      set = set;
      good = now.good;
      at = now.at;
    }))
      where
        over_begun : (s : ℕ) (g : FileId) → WasBegun (More n (Shown (says.Refuse at call request inst m f why)) older) s e i g → ⊥
        over_begun s g (inl p) = p
        over_begun s g (inr p) = none.unbegun s g (subst (λ (y : EpochId). WasBegun older s y inst g) (sym same_at) (subst (λ (j : Serial). WasBegun older s e j g) (sym same_inst) p))

        place : none.ss ≡ ss
        place = some_same none.ss ss (sym (subst (λ (y : CallId). making_site_in c group (members_of (entries older) e) y.site set ≡ Some none.ss) step
            (subst (λ (g : ℕ). making_site_in c g (members_of (entries older) e) call.site set ≡ Some none.ss) same_group (subst (λ (y : EpochId). making_site_in c f.group (members_of (entries older) y) call.site set ≡ Some none.ss) same_at none.at))) ∙ now.at)
    over (inr bad) = absurd (true_false (sym now.good ∙ subst (λ (g : ℕ). is_good_set c g (members_of (entries older) e) set ≡ false) same_group (subst (λ (y : EpochId). is_good_set c f.group (members_of (entries older) y) set ≡ false) same_at bad)))
make_step c n older h e ss i group set k now (says.Look at call number file what result) v may step = absurd (subst (λ (y : Want). IsOpening c y now.file (how.Make set k)) (one_want c older now.call now.asks.wanted (want.Look file what) now.asks.asks (subst (λ (y : CallId). Asks c older y (want.Look file what)) step may.in_time.asks)) now.asks.opening_is)
make_step c n older h e ss i group set k now (says.Act at inst number o result) v may step = absurd (subst (λ (y : Want). IsOpening c y now.file (how.Make set k)) (one_want c older now.call now.asks.wanted (want.Do inst o) now.asks.asks (subst (λ (y : CallId). Asks c older y (want.Do inst o)) (some_same may.in_time.call now.call (sym may.in_time.owner ∙ step)) may.in_time.asks)) now.asks.opening_is)
make_step c n older h e ss i group set k now (says.Release at inst file stamp) v may step = absurd (subst (λ (y : Want). IsOpening c y now.file (how.Make set k)) (one_want c older now.call now.asks.wanted (want.Close inst) now.asks.asks (subst (λ (y : CallId). Asks c older y (want.Close inst)) (some_same may.in_time.call now.call (sym may.in_time.owner ∙ step)) may.in_time.asks)) now.asks.opening_is)
make_step c n older h e ss i group set k now _ v may step = absurd step

make_told : (c : Config) (n : ℕ) (x : Told) (older : List Line) → IsFollowed c older → MayTell c older x → VersionsStay c older (More n x older) → (e : EpochId) (ss : ℕ) (i : Serial) (group : ℕ) (set : Sites) (k : Kind) → MakesNow c older e ss i group set k → Becomes c older (More n x older) e ss i group set k
make_told c n x older h may v e ss i group set k now = over x may v (in_stays c n x older e now.call h may now.asks.inside) (members_told c n x older e now.call may now.asks.inside) (asks_stays c n x older now.call now.asks.wanted h may (now.asks.inside.accepted, now.asks.inside.named) now.asks.asks)
  where
    over : (y : Told) → MayTell c older y → VersionsStay c older (More n y older) → IsCallIn (entries (More n y older)) e now.call → members_of (entries (More n y older)) e ≡ members_of (entries older) e → AsksStill c older n y now.call now.asks.wanted ⊎ StepOf older y now.call → Becomes c older (More n y older) e ss i group set k
    over y m v inside members (inl s) = inr (inr (record {
      call = now.call;
      request = now.request;
      file = now.file;
      asks = record { wanted = now.asks.wanted; asks = s.asks; opening_is = now.asks.opening_is; inside = inside; request_is = now.asks.request_is ∙ number_same n y older now.call s.log_same; serial_is = now.asks.serial_is ∙ sym s.serial_is };
      user_is = now.user_is;
      group_is = now.group_is;
      started = started_stays c n y older e group now.started;
      good = subst (λ (o : Option Members). is_good_set c group o set ≡ true) (sym members) now.good;
      at = subst (λ (o : Option Members). making_site_in c group o now.call.site set ≡ Some ss) (sym members) now.at;
    }))
    over (Shown r) m v inside members (inr step) = make_step c n older h e ss i group set k now r v m step
    over _ m v inside members (inr step) = absurd step

pub make_opens_stay : (c : Config) (n : ℕ) (x : Told) (older : List Line) → IsFollowed c older → MayTell c older x → VersionsStay c older (More n x older) → (e : EpochId) (ss : ℕ) (i : Serial) (group : ℕ) (set : Sites) (k : Kind) → MakeOpenSs c older e ss i group set k → MakeOpenSs c (More n x older) e ss i group set k
make_opens_stay c n x older h may v e ss i group set k (inl b) = inl (b.0, inr b.1)
make_opens_stay c n x older h may v e ss i group set k (inr (inl r)) = inr (inl (refused_stays c n x older h may v e ss i group r))
make_opens_stay c n x older h may v e ss i group set k (inr (inr now)) = over (make_told c n x older h may v e ss i group set k now)
  where
    over : Becomes c older (More n x older) e ss i group set k → MakeOpenSs c (More n x older) e ss i group set k
    over (inl b) = inl (b.0, inr b.1)
    over (inr (inl r)) = inr (inl r)
    over (inr (inr m)) = inr (inr m)

-- ---- no number is left ----

-- nobody begins a make that finds no number
none_begins : (c : Config) (older : List Line) → IsFollowed c older → (e : EpochId) (ss : ℕ) (i : Serial) (k : NoNumber c older e ss i) (s : ℕ) (f : FileId) → MayBegin c older s e i f → ⊥
none_begins c older h e ss i k s f may = over k.make may.may
  where
    over : RefusedFull c older e ss i k.group ⊎ MakesNow c older e ss i k.group k.set k.kind → BeginsGranted c older s e i f ⊎ BeginsMade c older s e i f → ⊥
    over (inl r) b = refused_begins c older h e r.call r.request i r.was_refused s f may
    over (inr m) (inl b) = unnamed c older e m.call m.request i m.file (how.Make k.set k.kind) h m.asks m.user_is (open_named c older e i b.at b.open_at.found)
    over (inr m) (inr b) = b.unused (subst (λ (t : ℕ). IsUsed c older e t f) (sym place) (k.full f (sym b.group_is ∙ group) (subst (λ (t : ℕ). is_given_by t f.ino ≡ true) place b.number)))
      where
        call_is : b.call ≡ m.call
        call_is = one_open c older e b.call m.call b.request m.request i.serial b.asked m.file (how.Make b.set b.kind) (how.Make k.set k.kind) h b.asks m.asks (sym b.user_is ∙ m.user_is)

        wanted : IsOpening c m.asks.wanted b.asked (how.Make b.set b.kind)
        wanted = subst (λ (w : Want). IsOpening c w b.asked (how.Make b.set b.kind)) (one_want c older m.call b.asks.wanted m.asks.wanted (subst (λ (y : CallId). Asks c older y b.asks.wanted) call_is b.asks.asks) m.asks.asks) b.asks.opening_is

        group : b.asked.group ≡ k.group
        group = one_group c m.asks.wanted b.asked m.file (how.Make b.set b.kind) k.set k.kind wanted m.asks.opening_is ∙ m.group_is

        set_is : b.set ≡ k.set
        set_is = make_set b.set k.set b.kind k.kind (one_opening c m.asks.wanted b.asked m.file (how.Make b.set b.kind) (how.Make k.set k.kind) wanted m.asks.opening_is)

        place : s ≡ ss
        place = some_same s ss (sym (subst (λ (y : CallId). making_site_in c k.group (members_of (entries older) e) y.site k.set ≡ Some s) call_is
            (subst (λ (t : Sites). making_site_in c k.group (members_of (entries older) e) b.call.site t ≡ Some s) set_is
            (subst (λ (g : ℕ). making_site_in c g (members_of (entries older) e) b.call.site b.set ≡ Some s) (sym b.group_is ∙ group) b.at))) ∙ m.at)

pub no_number_stays : (c : Config) (n : ℕ) (x : Told) (older : List Line) → IsFollowed c older → MayTell c older x → VersionsStay c older (More n x older) → (e : EpochId) (ss : ℕ) (i : Serial) → NoNumber c older e ss i → NoNumber c (More n x older) e ss i
no_number_stays c n x older h may v e ss i k = record { group = k.group; set = k.set; kind = k.kind; full = full_stays c older (More n x older) v e ss k.group k.full; unbegun = unbegun; make = over k.make }
  where
    unbegun : (s : ℕ) (f : FileId) → WasBegun (More n x older) s e i f → ⊥
    unbegun s f (inl p) = begun_by c older e i (none_begins c older h e ss i k) x may s f p
    unbegun s f (inr p) = k.unbegun s f p

    over : RefusedFull c older e ss i k.group ⊎ MakesNow c older e ss i k.group k.set k.kind → RefusedFull c (More n x older) e ss i k.group ⊎ MakesNow c (More n x older) e ss i k.group k.set k.kind
    over (inl r) = inl (refused_stays c n x older h may v e ss i k.group r)
    over (inr m) = become (make_told c n x older h may v e ss i k.group k.set k.kind m)
      where
        become : Becomes c older (More n x older) e ss i k.group k.set k.kind → RefusedFull c (More n x older) e ss i k.group ⊎ MakesNow c (More n x older) e ss i k.group k.set k.kind
        become (inl b) = absurd (k.unbegun ss b.0 b.1)
        become (inr r) = r

pub makes_stay : (c : Config) (n : ℕ) (x : Told) (older : List Line) → IsFollowed c older → MayTell c older x → VersionsStay c older (More n x older) → MakesStay c older (More n x older)
makes_stay c n x older h may v = record {
  opens = λ e ss i group set k m. make_opens_stay c n x older h may v e ss i group set k m;
  none = λ e ss i m. no_number_stays c n x older h may v e ss i m;
}
